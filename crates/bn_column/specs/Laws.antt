-- Laws on columns in any circuit.
use Rattle.std.specs.Prelude.{◌≡◌, ℕ, ◌+◌, ◌≤◌, Bool, true, slice_get}
use Rattle.bn_lists.specs.Runs.{Passes}
use Rattle.bn_circuits.specs.Circuits.{Circuit, clock, Goes}
use Rattle.bn_circuits.specs.declared.config.Config.{Config}
use Rattle.bn_column.specs.Columns.{IsColumn, IsEntering, IsAtRest, IsBeside, IsWithin, crossing_cost, crossed}

-- In any circuit, if the signal enters row i, counted from 0, of a column at rest, and the clock admits the cost:
-- exactly that many steps lead to the end of the crossing, and each test that holds of what is within the crossing
-- holds strictly between.
abbrev pub ColumnsAreCrossed : Type 0
ColumnsAreCrossed =
    (k : Circuit) (b rows i : ℕ) (marked from_east : Bool) (c : Config) (test : Config → Bool) → IsColumn k b rows
    → IsEntering b rows i marked from_east c → c.steps + crossing_cost rows (i + 1) marked from_east ≤ clock
    → ((d : Config) → IsWithin b rows marked from_east c.states d → test d ≡ true)
    → Passes (Goes k) test (crossing_cost rows (i + 1) marked from_east) c (crossed k b rows i marked from_east c)

-- After a crossing the column is at rest again, and is marked exactly if the signal came from the east.
abbrev pub CrossedColumnsRest : Type 0
CrossedColumnsRest =
    (k : Circuit) (b rows i : ℕ) (marked from_east : Bool) (c : Config) → IsEntering b rows i marked from_east c
    → IsAtRest (crossed k b rows i marked from_east c).states b rows from_east

-- A crossing changes no bar outside the column.
abbrev pub CrossingsStayWithin : Type 0
CrossingsStayWithin =
    (k : Circuit) (b rows i : ℕ) (marked from_east : Bool) (c : Config) (e : ℕ) → IsBeside b rows e
    → slice_get (crossed k b rows i marked from_east c).states e ≡ slice_get c.states e

-- ---- the laws

pub record Laws : Type 0 where
  -- The four crossings of a column take exactly their costs in steps, and each test that holds within a crossing holds
  -- strictly between its ends.
  pub columns_are_crossed : ColumnsAreCrossed
  -- After a crossing the column is at rest, and it is marked exactly if the signal came from the east.
  pub crossed_columns_rest : CrossedColumnsRest
  -- A crossing changes no bar outside the column.
  pub crossings_stay_within : CrossingsStayWithin

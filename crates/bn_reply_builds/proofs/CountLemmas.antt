-- Numbers of a build's run: its moments, and the elements that it enters.
use Rattle.std.specs.Prelude.{◌≡◌, ℕ, ◌+◌, ◌-◌, ◌*◌, ◌<◌, ◌≤◌, Bool, replicate}
use Rattle.std.proofs.Common.{zero, suc, arith, sym, ap, subst}
use Rattle.bn_lists.specs.Runs.{Reaches}
use Rattle.bn_element.specs.Tables.{Table}
use Rattle.bn_circuits.specs.Circuits.{Circuit, Goes, IsCircuit, IsPlace, inputs_of, line_at}
use Rattle.bn_circuits.specs.Counting.{tally}
use Rattle.bn_circuits.specs.declared.config.Config.{Config}
use Rattle.bn_circuits.proofs.CountingLemmas.{tallies-add}
use Rattle.bn_circuits.proofs.RunPartLemmas.{runs_split}
use Rattle.bn_circuits.proofs.StepLemmas.{go_arrives, place_after-IsPlace}

-- ---- counts

-- a run's count is no less than that of a part of it
pub tally_part : (test : Config → Bool) (k : Circuit) (n m : ℕ) (c d : Config) → Reaches (Goes k) m c d → n ≤ m
    → tally test k n c ≤ tally test k m c
tally_part test k n m c d path low =
    let split = runs_split (Goes k) n (m - n) m c d (omega arith) path in
    let whole : n + (m - n) ≡ m = omega arith in
    let adds = tallies-add.0 k test n (m - n) c split.0 split.1 in
    let all : tally test k (n + (m - n)) c ≡ tally test k m c = ap (λ x. tally test k x c) whole in
    omega (arith, adds, all)

-- ---- places

-- a run leads from an admissible place to admissible places
pub reached_place : (k : Circuit) → IsCircuit k → (n : ℕ) (c d : Config) → IsPlace k c.place → Reaches (Goes k) n c d
    → IsPlace k d.place
reached_place k circuit zero c d place path = subst (λ (x : Config). IsPlace k x.place) path place
reached_place k circuit (suc n) c d place path =
    let g = path.1.crosses in
    let arrives = (go_arrives k circuit g.element g.before g.input g.after g.output g.moves).1 in
    reached_place k circuit n path.0 d
    (subst (IsPlace k) (sym g.place) (place_after-IsPlace k circuit (line_at g.element g.output) arrives)) path.2

-- among equal tables, an input line is one of some table's
pub input_within : (t : Table) (n e i : ℕ) → i < inputs_of (replicate n t) e → (e < n) × (i < t.inputs)
input_within t zero e i h = absurd (omega (arith, h))
input_within t (suc n) zero i h = (omega arith, h)
input_within t (suc n) (suc e) i h = let rest = input_within t n e i h in let low = rest.0 in (omega arith, rest.1)

pub first_within : (t : Table) (n i : ℕ) → 0 < n → i < t.inputs → i < inputs_of (replicate n t) 0
first_within t zero i some low = absurd (omega arith)
first_within t (suc n) i some low = low

-- ---- a bound

-- what has a cost has elements
pub some_elements : (count n cost : ℕ) → 0 < cost → cost ≤ 4 * count + 48 * count * (n + 1) → 0 < count
some_elements zero n cost some low = absurd (omega arith)
some_elements (suc count) n cost some low = omega arith

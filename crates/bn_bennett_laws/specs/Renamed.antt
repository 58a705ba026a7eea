-- Quadruples (`Rule`) with renamed states. A renaming that keeps the states of the quadruples apart preserves the
-- tests, the runs, and how the runs end.
use Rattle.std.specs.Prelude.{◌≡◌, ℕ, List, map}
use Rattle.std.specs.List.{slice_index_or}
use Rattle.bn_quad.specs.Quadruples.{Rule, Configuration}
use Rattle.bn_lists.specs.Lists.{IsIn}
use Rattle.bn_bennett_laws.specs.Names.{states_in}

-- a quadruple with renamed states
abbrev pub renamed : {P Q : Type 0} → (P → Q) → Rule P → Rule Q
renamed f r = record { from = f r.from; one = r.one; two = r.two; three = r.three; to = f r.to }

abbrev pub rename : {P Q : Type 0} → (P → Q) → List (Rule P) → List (Rule Q)
rename f rs = map (renamed f) rs

-- a configuration with its state renamed
abbrev pub in_state : {P Q : Type 0} → (P → Q) → Configuration P → Configuration Q
in_state f c = record { state = f c.state; one = c.one; two = c.two; three = c.three }

-- states of the quadruples with the same new name are equal
pub record KeepsApart {P Q : Type 0} (f : P → Q) (rs : List (Rule P)) : Type 0 where
  pub apart : (a b : P) → IsIn (states_in rs) a → IsIn (states_in rs) b → f a ≡ f b → a ≡ b

-- the name with this number, counted from 0; a default name if the number is past the end of the list
abbrev pub name_at : {Q : Type 0} → Q → List Q → ℕ → Q
name_at other order k = slice_index_or order k other

-- Reading a line of a schedule as a function of its bytes. Proofs use it, and no public clause cites it.
use Rattle.std.specs.Prelude.{ℕ, nat_le, Bool, true, false, List, [], ◌∷◌, Option, Some, None}
use Rattle.std.specs.Prelude.{option_map, if◌then◌else◌, codes}
use Rattle.bn_netlist_laws.specs.Reading.{◌>>=◌, word_taken, number_taken}
use Rattle.bn_farm.specs.declared.order.Order.{Order}

-- a sign and a space
abbrev pub sign_by : Option (List ℕ) → Option (List ℕ) → Option (Bool × List ℕ)
sign_by (Some behind) other = Some (true, behind)
sign_by None other = option_map (λ behind. (false, behind)) other

unfoldable pub sign_taken : List ℕ → Option (Bool × List ℕ)
sign_taken bytes = sign_by (word_taken (codes "+ ") bytes) (word_taken (codes "- ") bytes)

-- a line with at least one step
abbrev pub some_steps : Order → List ℕ → Option (Order × List ℕ)
some_steps o behind = if nat_le 1 o.count then Some (o, behind) else None

-- a whole line, with the rest after it
unfoldable pub order_taken : List ℕ → Option (Order × List ℕ)
order_taken bytes = do
  sign ← sign_taken bytes
  number ← number_taken sign.1
  space ← word_taken (codes " ") number.1
  count ← number_taken space
  behind ← word_taken (10 ∷ []) count.1
  some_steps (record { forward = sign.0; number = number.0; count = count.0 }) behind

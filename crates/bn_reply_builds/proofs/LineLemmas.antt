-- The lines of the control, by numbers.
use Rattle.std.specs.Prelude.{◌≡◌, ℕ, ◌+◌, ◌-◌, ◌*◌, ◌/◌, ◌%◌, ◌<◌, List, [], ◌∷◌, length, Some}
use Rattle.std.proofs.Common.{arith, sym}
use Rattle.std.proofs.lemmas.Nat.{same_from_place, div-add-mod'}
use Rattle.bn_lists.specs.Lists.{nth}

-- ---- column and row of an element

pub column_row : (e lines column row : ℕ) → e ≡ 0 + column * (lines + 1) + row → row < lines + 1
    → (e / (lines + 1) ≡ column) × (e % (lines + 1) ≡ row)
column_row e lines column row is low =
    let whole = div-add-mod' e (lines + 1) in
    same_from_place (e / (lines + 1)) (e % (lines + 1)) column row (lines + 1) (omega arith) (omega arith) (omega arith)

-- three numbers are those of three tapes
pub three_counts : (zs : List ℕ) (a b c : ℕ) → length zs ≡ 3 → nth zs 1 ≡ Some a → nth zs 2 ≡ Some b → nth zs 3 ≡ Some c
    → a ∷ b ∷ c ∷ [] ≡ zs
three_counts [] a b c count one two three = absurd (cc)
three_counts (x ∷ []) a b c count one two three = absurd (cc)
three_counts (x ∷ y ∷ []) a b c count one two three = absurd (cc)
three_counts (x ∷ y ∷ z ∷ []) a b c count one two three =
    let first : x ≡ a = cc in
    let second : y ≡ b = cc in
    let third : z ≡ c = cc in
    λ i. sym first i ∷ sym second i ∷ sym third i ∷ []
three_counts (x ∷ y ∷ z ∷ w ∷ zs) a b c count one two three = absurd (omega (arith, count))

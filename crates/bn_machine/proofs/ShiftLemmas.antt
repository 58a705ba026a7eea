-- The texts of shifts.
use Rattle.std.proofs.Common.{◌≡◌, ℕ, List, true, refl, inl, inr}
use Rattle.std.specs.Prelude.{bytes_eq}
use Rattle.std.proofs.lemmas.Bool.{cases_Bool}
use Rattle.std.proofs.lemmas.Slice.Eq.{bytes_eq-Decides}
use Rattle.bn_machine.specs.Shifts.{is_shift, shift_text}
use Rattle.bn_machine.specs.declared.quint.Shift.{Shift}
use Rattle.bn_machine.specs.declared.quint.Shift.TheVariants.{Left, Stay, Right}

-- no two shifts have one text
pub one_shift : (s t : Shift) → shift_text s ≡ shift_text t → s ≡ t
one_shift Left Left e = refl
one_shift Left Stay e = cc e
one_shift Left Right e = cc e
one_shift Stay Left e = cc e
one_shift Stay Stay e = refl
one_shift Stay Right e = cc e
one_shift Right Left e = cc e
one_shift Right Stay e = cc e
one_shift Right Right e = refl

-- a text of a shift is that of some shift
pub shift_is : (field : List ℕ) → is_shift field ≡ true → (s : Shift) × (field ≡ shift_text s)
shift_is field e = elim (cases_Bool (bytes_eq field (shift_text Left))) [
  | inl left ↦ (Left, (bytes_eq-Decides field (shift_text Left)).0 left)
  | inr miss ↦ elim (cases_Bool (bytes_eq field (shift_text Stay))) [
    | inl stay ↦ (Stay, (bytes_eq-Decides field (shift_text Stay)).0 stay)
    | inr other ↦ (Right, (bytes_eq-Decides field (shift_text Right)).0 (rw (miss, other) at e))
  ]
]

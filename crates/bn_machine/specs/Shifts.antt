-- The text of a shift in this project's tables.
use Rattle.std.specs.Prelude.{ℕ, Bool, ◌||◌, List, [], ◌∷◌, bytes_eq}
use Rattle.bn_machine.specs.declared.quint.Shift.{Shift}
use Rattle.bn_machine.specs.declared.quint.Shift.TheVariants.{Left, Stay, Right}

-- `-` to the left, `0` for none, `+` to the right
abbrev pub shift_text : Shift → List ℕ
shift_text Left = 45 ∷ []
shift_text Stay = 48 ∷ []
shift_text Right = 43 ∷ []

-- whether some bytes are the text of a shift
abbrev pub is_shift : List ℕ → Bool
is_shift field = bytes_eq field (shift_text Left) || bytes_eq field (shift_text Stay)
    || bytes_eq field (shift_text Right)

-- The lines that refuse a table or a word (this project's own profile).
use Rattle.std.specs.Prelude.{ℕ, suc, ℤ, pos, negsuc, List, [], ◌∷◌, ◌++◌, codes, decimal}
use Rattle.bn_table.specs.declared.refusal.TableRefusal.{TableRefusal}
use Rattle.bn_table.specs.declared.refusal.TableRefusal.TheVariants as faults
use Rattle.bn_machine.specs.declared.why.Why.{Why}
use Rattle.bn_machine.specs.declared.why.Why.TheVariants as whys

-- the line of these pieces: one after the other, and a line feed
abbrev pub line : List (List ℕ) → List ℕ
line [] = 10 ∷ []
line (piece ∷ pieces) = piece ++ line pieces

-- the lines of faults of any table: of record i as a whole, of its field j, both counted from 1, and of a table with no
-- record
abbrev pub record_line : ℕ → List ℕ → List ℕ
record_line i what = line (codes "text: record " ∷ decimal i ∷ codes " " ∷ what ∷ [])

abbrev pub field_line : ℕ → ℕ → List ℕ → List ℕ
field_line i j what = line (codes "text: record " ∷ decimal i ∷ codes " field " ∷ decimal j ∷ codes " " ∷ what ∷ [])

abbrev pub empty_line : List ℕ
empty_line = line (codes "text: empty" ∷ [])

-- the line of a fault of the bytes as a table of quintuples, in which the shift is field 4
abbrev pub fault_line : TableRefusal → List ℕ
fault_line (faults.FieldCount i) = record_line i (codes "fields")
fault_line (faults.Name i j) = field_line i j (codes "name")
fault_line (faults.Symbol i j) = field_line i j (codes "symbol")
fault_line (faults.Shift i) = field_line i 4 (codes "shift")
fault_line (faults.TooMany i) = record_line i (codes "too many")
fault_line faults.Empty = empty_line
fault_line faults.NoMemory = []

-- the line of a condition of standard form that fails: S1 to S5 in their order, with the numbers of the quintuples
-- that show it, counted from 1
abbrev pub why_line : Why → List ℕ
why_line (whys.Repeat i j) = line (codes "machine: S1 " ∷ decimal i ∷ codes " " ∷ decimal j ∷ [])
why_line whys.First = line (codes "machine: S2" ∷ [])
why_line (whys.StartUsed i) = line (codes "machine: S3 " ∷ decimal i ∷ [])
why_line whys.Last = line (codes "machine: S4" ∷ [])
why_line (whys.FinalUsed i) = line (codes "machine: S5 " ∷ decimal i ∷ [])
why_line whys.NoMemory = []

-- the line of the first place of a word, counted from 1, whose byte is not a letter of the table or is the blank's
abbrev pub foreign_line : ℕ → List ℕ
foreign_line p = line (codes "word: " ∷ decimal p ∷ [])

-- the line of a word of this many letters that is too long
abbrev pub long_line : ℕ → List ℕ
long_line count = line (codes "size: word needs " ∷ decimal count ∷ [])

-- the line of a machine's run that has not ended after this many steps
abbrev pub running_line : ℕ → List ℕ
running_line n = line (codes "running " ∷ decimal n ∷ [])

-- a position in decimal digits, with a sign if it is below 0
abbrev pub position_text : ℤ → List ℕ
position_text (pos n) = decimal n
position_text (negsuc n) = codes "-" ++ decimal (suc n)

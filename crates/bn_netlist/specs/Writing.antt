-- Writing a text line by line.
use Rattle.std.specs.Prelude.{◌≡◌, ℕ, ◌+◌, ◌<◌, List, ◌++◌, Some, slice_get}
use Rattle.std.proofs.Common.{zero, suc}
use Rattle.bn_circuits.specs.Circuits.{target}
use Rattle.bn_element.specs.Rotary.{east, west}
use Rattle.bn_circuits.specs.Circuits.{line_at}
use Rattle.bn_netlist_laws.specs.Spelling.{Spelling, targets_of}
use Rattle.bn_netlist_laws.specs.Sentences.{Sentence, Element, Column, Row}
use Rattle.bn_netlist_laws.specs.Spelling.{IsWrittenAt, row_sentences, AreEntries}
use Rattle.bn_netlist_laws.specs.declared.version.Version.{Version}

-- a place in a text of this many elements: between entries, or at a row of a column whose bottom exists
abbrev pub IsPlaceIn : ℕ → ℕ → ℕ → Type 0
IsPlaceIn count e zero = e < count
IsPlaceIn count e (suc m) = e + suc m < count

-- the place after a row: the next row, or the element after the bottom
abbrev pub IsBehindRow : ℕ → ℕ → ℕ → ℕ → Type 0
IsBehindRow e zero f n = ⊥
IsBehindRow e (suc zero) f n = (f ≡ e + 2) × (n ≡ 0)
IsBehindRow e (suc (suc m)) f n = (f ≡ e + 1) × (n ≡ suc m)

-- The line at a place has these contents, and the next place is this one. A place is an element and the number of rows
-- left.
pub data NextLine (v : Version) (s : Spelling) (e m f n : ℕ) (x : Sentence) : Type 0 where
  an_element : (q : ℕ) → m ≡ 0 → slice_get s.config.states e ≡ Some q → ((k : ℕ) → IsWrittenAt v s e k → ⊥)
      → x ≡ Element e q (targets_of s.wires e) → f ≡ e + 1 → n ≡ 0 → NextLine v s e m f n x
  a_column : (k q : ℕ) → m ≡ 0 → IsWrittenAt v s e k → slice_get s.config.states (e + k) ≡ Some q → x ≡ Column e k q
      → f ≡ e → n ≡ k → NextLine v s e m f n x
  a_row : x ≡ Row (target s.wires (line_at e east)) (target s.wires (line_at e west)) → IsBehindRow e m f n
      → NextLine v s e m f n x

-- the element after a column of which this many rows are left
abbrev pub element_behind : ℕ → ℕ → ℕ
element_behind e zero = e
element_behind e (suc m) = suc (e + suc m)

-- the lines that are still to be written at a place
pub record AreLeft (v : Version) (s : Spelling) (e m : ℕ) (xs : List Sentence) : Type 0 where
  pub rest : List Sentence
  pub rows : xs ≡ row_sentences s.wires e m ++ rest
  pub behind : AreEntries v s (element_behind e m) rest

-- these lines have been written before a place: followed by any lines that may be left there, they are the entries
abbrev pub Writes : Version → Spelling → List Sentence → ℕ → ℕ → Type 0
Writes v s done e m = (xs : List Sentence) → AreLeft v s e m xs → AreEntries v s 0 (done ++ xs)

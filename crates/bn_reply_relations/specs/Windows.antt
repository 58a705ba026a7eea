-- The answers of the commands that take a table, a word and four limits, by the answer for the circuit (this project's
-- own profile). A fault of the bytes comes first, then of the machine, the word's letters, its length, and the number
-- of elements.
use Rattle.std.specs.Prelude.{◌≡◌, ℕ, ◌<◌, ◌≤◌, List, [], ◌∷◌, length, codes, decimal}
use Rattle.bn_circuits.specs.declared.place.Place.{Place}
use Rattle.bn_machine.specs.Machine.{Program}
use Rattle.bn_machine.specs.Outcome.{Limits}
use Rattle.bn_circuits.specs.declared.net.TheConstants.{MOST_ELEMENTS}
use Rattle.bn_bennett.specs.Translation.{Translation, IsTranslation}
use Rattle.bn_table.specs.Rows.{Named}
use Rattle.bn_network.specs.Controls.{ControlState, IsNumbering}
use Rattle.bn_network.specs.Networks.{elements_by}
use Rattle.bn_boards.specs.Boards.{size}
use Rattle.bn_boards.specs.Flats.{Flat, IsFlatOf}
use Rattle.bn_reply.specs.Lines.{line}
use Rattle.bn_reply.specs.TableReply.{StandardReplies, WordReplies}
use Rattle.bn_reply.specs.declared.status.Status.{Status}
use Rattle.bn_reply.specs.declared.status.Status.TheVariants as statuses
use Rattle.bn_reply.specs.Lines.{long_line}

-- the circuit of this machine in these limits has this many elements, whatever the word
pub record CountsElements (p : Program) (l : Limits) (count : ℕ) : Type 0 where
  pub translation : Translation
  pub names : List ControlState
  pub translates : IsTranslation p translation
  pub numbering : IsNumbering translation.machine names
  pub is : count ≡ elements_by translation.machine l (length names)

-- The machine, a word of these symbols and the limits have this circuit, which may be built: the word fits on tape 1,
-- the circuit is theirs, and it has not too many elements.
pub record ComesTo (p : Program) (l : Limits) (symbols : List ℕ) (f : Flat) : Type 0 where
  pub fits : length symbols ≤ l.right
  pub flat : IsFlatOf p symbols l f
  pub few : size f.network.tables ≤ MOST_ELEMENTS

-- the line of a circuit of this many elements, which are too many
abbrev pub large_line : ℕ → List ℕ
large_line elements = line (codes "size: elements " ∷ decimal elements ∷ [])

-- The answer to a word of these symbols, where `tells` is the answer for its circuit: the word is too long; it fits,
-- and the circuit has too many elements; or the answer for the circuit.
pub data BoardReplies (tells : Flat → Status → List ℕ → List Place → Type 0) (p : Program) (l : Limits)
    (symbols : List ℕ) (status : Status) (text : List ℕ) (told : List Place) : Type 0 where
  long : l.right < length symbols → text ≡ long_line (length symbols) → status ≡ statuses.Size → told ≡ []
      → BoardReplies tells p l symbols status text told
  large : length symbols ≤ l.right → (count : ℕ) → CountsElements p l count → MOST_ELEMENTS < count
      → text ≡ large_line count → status ≡ statuses.Size → told ≡ [] → BoardReplies tells p l symbols status text told
  board : (f : Flat) → ComesTo p l symbols f → tells f status text told
      → BoardReplies tells p l symbols status text told

-- the answer to a word, limits and bytes, where `tells` is the answer for the circuit of a table's machine
abbrev pub WindowReplies : (Named → Flat → Status → List ℕ → List Place → Type 0) → List ℕ → Limits → List ℕ → Status →
    List ℕ → List Place → Type 0
WindowReplies tells word l = StandardReplies (λ t. WordReplies (BoardReplies (tells t) t.machine l) t word)

-- The parts of the text of a run: a table's names and letters, a translation's states, and what a circuit shows.
use Rattle.std.specs.Prelude.{◌≡◌, ◌≢◌, ℕ, ◌<◌, ◌++◌, List, All, length, Option, Some, None, codes}
use Rattle.bn_table.specs.Rows.{Named}
use Rattle.bn_bennett.specs.Translation.{Translation, name_of}
use Rattle.bn_bennett.specs.Meaning.{machine_state_by}
use Rattle.bn_bennett.specs.declared.translated.MachineState.TheVariants.{AtState}
use Rattle.bn_boards.specs.Boards.{size}
use Rattle.bn_boards.specs.declared.exit.Exit.{Exit}
use Rattle.bn_boards.specs.declared.exit.Exit.TheVariants.{Inside, End, Stuck, Window, Unnamed}
use Rattle.bn_boards.specs.declared.spelled.SpelledTape.{SpelledTape}
use Rattle.bn_boards.specs.Flats.{Flat}
use Rattle.bn_board.specs.Flattened.{Flattened}
use Rattle.bn_reply.specs.Lines.{position_text}
use Rattle.bn_reply_relations.specs.RunText.{head_text}

-- this translation and this circuit are those of f
pub record IsShown (f : Flat) (m : Translation) (b : Flattened) : Type 0 where
  pub translation : f.translation ≡ m
  pub layout : f.layout ≡ b.layout
  pub elements : size f.network.tables ≡ length b.net.elements

-- The state is one of the translation's, and if the one-tape machine is in a state then, that state is one of the
-- table's; the symbol is one of the table's, too.
pub record IsKnownStuck (t : Named) (m : Translation) (a c : ℕ) : Type 0 where
  pub state : a < m.machine.states
  pub named : (j : ℕ) → machine_state_by m.final_state (name_of m a) ≡ AtState j → j < t.machine.states
  pub symbol : c < t.machine.symbols

-- the table has names for what the line of this exit names
abbrev pub HasNames : Named → Translation → Exit → Type 0
HasNames t m (Stuck a c) = IsKnownStuck t m a c
HasNames t m Inside = Unit {0}
HasNames t m End = Unit {0}
HasNames t m (Window n s) = Unit {0}
HasNames t m Unnamed = Unit {0}

-- on tapes 1 and 3 a symbol that a cell shows is one of the table's
abbrev pub HasLetter : Named → ℕ → Option ℕ → Type 0
HasLetter t tape None = Unit {0}
HasLetter t tape (Some s) = tape ≢ 2 → s < t.machine.symbols

abbrev pub HaveLetters : Named → ℕ → List (Option ℕ) → Type 0
HaveLetters t tape cells = All (HasLetter t tape) cells

-- what the line of a tape says before its cells: the position of the first, and of the head
abbrev pub bounds_text : SpelledTape → List ℕ
bounds_text s = codes " from " ++ (position_text s.first ++ (codes " head " ++ (head_text s.head ++ codes ":")))

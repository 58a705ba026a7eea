-- From a circuit that was flattened to the headline.
use Rattle.std.specs.Prelude.{◌≡◌, ◌≢◌, ℕ, ◌≤◌, List, All, length}
use Rattle.bn_circuits.specs.declared.place.Place.TheVariants.{Enter, Left}
use Rattle.bn_circuits.specs.RotaryNets.{rotary_circuit}
use Rattle.bn_machine.specs.Machine.{Program}
use Rattle.bn_machine.specs.Outcome.{Limits, Outcome, HasOutcome}
use Rattle.bn_bennett_laws.specs.Stages.{IsStandardMachine, IsSpelledBy}
use Rattle.bn_bennett.specs.Translation.{Translation, IsTranslation}
use Rattle.bn_network.specs.Controls.{ControlState}
use Rattle.bn_boards.specs.Layouts.{end_place}
use Rattle.bn_boards.specs.Flats.{Flat, IsFlatOf, IsAccepted, flat_start}
use Rattle.bn_boards.specs.BoardRuns.{RunsToExit}
use Rattle.bn_network.specs.Limits.{AreSmall}
use Rattle.bn_network_assembly.specs.Assembled.{Assembled, IsAssembled, network_of}
use Rattle.bn_board.specs.Flattened.{Flattened, IsFlattened}

-- what may be assembled: a machine in standard form, a word of its letters that fits, and a window that is not too
-- large
pub record MayBeAssembled (p : Program) (l : Limits) (word : List ℕ) : Type 0 where
  pub standard : IsStandardMachine p
  pub letters : IsSpelledBy p word
  pub nonblank : All (λ s. s ≢ 0) word
  pub fits : length word ≤ l.right
  pub small : AreSmall l

-- the circuit is that of f, at its start, with the lines by which the signal enters and leaves
pub record IsBoardAtStart (f : Flat) (b : Flattened) : Type 0 where
  pub circuit : f.circuit ≡ rotary_circuit b.net
  pub layout : f.layout ≡ b.layout
  pub config : b.config ≡ flat_start f
  pub start : Enter b.start.element b.start.line ≡ (flat_start f).place
  pub end : Left b.end.element b.end.line ≡ end_place f.layout

-- the circuit that is flattened from the network that is assembled for a translation, a window and a word
pub record IsFlattenedFor (p : Program) (l : Limits) (word : List ℕ) (t : Translation) (a : Assembled)
    (b : Flattened) : Type 0 where
  pub translates : IsTranslation p t
  pub names : List ControlState
  pub assembled : IsAssembled t.machine l word names a
  pub flattened : IsFlattened a b

-- what is translated, assembled and flattened is a circuit as it is defined, and one that may be compiled
abbrev pub FlattenedBoardsAreFlats : Type 0
FlattenedBoardsAreFlats =
    (p : Program) (l : Limits) (word : List ℕ) (t : Translation) (a : Assembled) (b : Flattened)
    → MayBeAssembled p l word → IsFlattenedFor p l word t a b
    → (f : Flat) × (f.translation ≡ t) × (f.network ≡ network_of a) × IsFlatOf p word l f × IsAccepted p word l f
    × IsBoardAtStart f b

-- so it runs to the exit that the one-tape machine's own bounded run names
abbrev pub FlattenedBoardsRunToTheirExit : Type 0
FlattenedBoardsRunToTheirExit =
    (p : Program) (l : Limits) (word : List ℕ) (t : Translation) (a : Assembled) (b : Flattened)
    → MayBeAssembled p l word → IsFlattenedFor p l word t a b → (i : ℕ) (o : Outcome) → HasOutcome p word l i o
    → (f : Flat) × IsBoardAtStart f b × RunsToExit p f i o

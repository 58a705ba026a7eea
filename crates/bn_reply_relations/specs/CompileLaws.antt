-- Laws on the texts that `compile` prints.
use Rattle.std.specs.Prelude.{◌≡◌, ◌≢◌, ℕ, ◌+◌, ◌*◌, ◌<◌, List, length, slice_get}
use Rattle.bn_circuits.specs.Circuits.{target}
use Rattle.bn_circuits.specs.declared.line.Line.{Line}
use Rattle.bn_circuits.specs.declared.place.Place.{Place}
use Rattle.bn_machine.specs.Outcome.{Limits}
use Rattle.bn_netlist_laws.specs.Spelling.{Spelling, Spelled}
use Rattle.bn_netlist_laws.specs.declared.version.Version.TheVariants.{Two}
use Rattle.bn_table.specs.Rows.{Named}
use Rattle.bn_realise.specs.Banks.{bottom_at}
use Rattle.bn_network.specs.Cells.{cell_line_count}
use Rattle.bn_network.specs.Networks.{cells_in}
use Rattle.bn_boards.specs.Layouts.{Layout, cell_element, symbol_count_at}
use Rattle.bn_boards.specs.Flats.{Flat}
use Rattle.bn_reply_relations.specs.CircuitReply.{BackReplies, StepReplies}
use Rattle.bn_reply.specs.declared.status.Status.{Status}
use Rattle.bn_reply.specs.declared.status.Status.TheVariants.{Done}
use Rattle.bn_network.specs.Limits.{AreSmall}
use Rattle.bn_reply_relations.specs.Windows.{ComesTo}
use Rattle.bn_reply_relations.specs.CompileReply.{CompileReplies}
use Rattle.bn_reply_relations.specs.ToldRuns.{IsGiven}

-- ---- two words

-- the same circuit with the same start, end, place and steps; and bars that differ at most at bottoms of tape 1's
-- cells
pub record DifferInCells (l : Limits) (b : Layout) (s u : Spelling) : Type 0 where
  pub elements : s.elements ≡ u.elements
  pub targets : (from : Line) → target s.wires from ≡ target u.wires from
  pub start : s.start ≡ u.start
  pub end : s.end ≡ u.end
  pub place : s.config.place ≡ u.config.place
  pub steps : s.config.steps ≡ u.config.steps
  pub bars : (e : ℕ)
      → ((c j : ℕ) → c < cells_in l 1 → j < 2 * symbol_count_at b 1
      → e ≢ bottom_at (cell_element b 1 c) (cell_line_count (symbol_count_at b 1)) j)
      → slice_get s.config.states e ≡ slice_get u.config.states e

-- The texts spell two such configurations of the circuits of two words.
pub record DifferInWord (bytes word : List ℕ) (l : Limits) (text second : List ℕ) : Type 0 where
  pub table : Named
  pub symbols : List ℕ
  pub given : IsGiven bytes word l table symbols
  pub flat : Flat
  pub comes : ComesTo table.machine l symbols flat
  pub one : Spelling
  pub two : Spelling
  pub first : Spelled Two one text
  pub other : Spelled Two two second
  pub differ : DifferInCells l flat.layout one two

-- two words on one table in one window that are both compiled
abbrev pub TextsDifferInWords : Type 0
TextsDifferInWords =
    (bytes word other : List ℕ) (l : Limits) (text second : List ℕ) (told heard : List Place) → AreSmall l
    → CompileReplies word l bytes Done text told → CompileReplies other l bytes Done second heard
    → DifferInWord bytes word l text second

-- ---- steps

-- `back` undoes what `step` makes of this text: with the same number of steps it returns the text; and with s of r + s
-- steps, if all were made, it returns what `step` makes of the text with r steps
pub record StepsBack (text : List ℕ) : Type 0 where
  pub whole : (e : ℕ) (a b : Status) (middle last : List ℕ) (told heard : List Place)
      → StepReplies e text a middle told → BackReplies e middle b last heard → last ≡ text
  pub part : (r s : ℕ) (a b c : Status) (middle last front : List ℕ) (told heard some : List Place)
      → StepReplies (r + s) text a middle told → length told ≡ r + s
      → BackReplies s middle b last heard → StepReplies r text c front some → last ≡ front

abbrev pub CompiledTextsStepBack : Type 0
CompiledTextsStepBack =
    (bytes word : List ℕ) (l : Limits) (text : List ℕ) (told : List Place)
    → CompileReplies word l bytes Done text told → StepsBack text

-- A text received in pieces.
use Rattle.std.specs.Prelude.{◌≡◌, ℕ, List, ◌++◌}
use Rattle.bn_base.specs.Line.{IsInLine}
use Rattle.bn_netlist_laws.specs.Sentences.{Sentence, lines_text}
use Rattle.bn_netlist.specs.NetText.{IsTextRefusal}
use Rattle.bn_netlist.specs.Stages.{AreTaken}
use Rattle.bn_netlist.specs.declared.stage.Stage.{Stage}
use Rattle.bn_netlist.specs.declared.line_refusal.NetlistRefusal.{NetlistRefusal}

-- These bytes have been received: complete lines that have all been taken, and after them the beginning of another.
pub record HasCome (text line : List ℕ) (s : Stage) : Type 0 where
  pub lines : List Sentence
  pub begins : text ≡ lines_text lines ++ line
  pub in_line : IsInLine line
  pub are : AreTaken lines s

-- some bytes have been received
abbrev pub IsFront : List ℕ → Stage → Type 0
IsFront line s = (text : List ℕ) × HasCome text line s

-- each text that begins with these bytes has the fault that the refusal names
abbrev pub RefusesOn : List ℕ → NetlistRefusal → Type 0
RefusesOn text r = (rest : List ℕ) → IsTextRefusal (text ++ rest) r

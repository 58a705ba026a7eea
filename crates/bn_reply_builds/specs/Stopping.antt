-- What is known of a circuit whose signal left because its machine is stuck at a read.
use Rattle.std.specs.Prelude.{◌≡◌, ℕ, ◌+◌, ◌-◌, ◌<◌, ◌≤◌, List, Some, slice_get}
use Rattle.bn_lists.specs.Lists.{nth}
use Rattle.bn_machine.specs.Outcome.{Limits}
use Rattle.bn_machine.specs.Tape.{scanned}
use Rattle.bn_quad.specs.Quadruples.{Configuration, Quadruples, Rule}
use Rattle.bn_quad.specs.declared.quad.Quad.{Quad}
use Rattle.bn_network_laws.specs.Stops.{AdmitsBefore, symbols_before, taken_to}
use Rattle.bn_realise.specs.Banks.{column_at}
use Rattle.bn_network.specs.Controls.{Reads, lines_before, symbol_count}
use Rattle.bn_network.specs.Networks.{IsTape}
use Rattle.bn_network.specs.Starts.{FitsWindow}
use Rattle.bn_network.specs.declared.limits.TheConstants.{MOST_SYMBOLS}
use Rattle.bn_network_laws.specs.Ends.{tape_of}
use Rattle.bn_boards.specs.declared.spelled.Spelled.{Spelled}
use Rattle.bn_boards.specs.Layouts.{lines_at, spelled_config}
use Rattle.bn_boards.specs.Builds.{Build}
use Rattle.bn_control.specs.Names.{listed}
use Rattle.bn_reply_builds.specs.declared.awaited.Answer.{Answer}
use Rattle.bn_reply_builds.specs.declared.awaited.Read.{Read}

-- no tape has more symbols than a cell can distinguish
abbrev pub HasFewSymbols : Quadruples → Type 0
HasFewSymbols m = (t : ℕ) → IsTape t → symbol_count m t ≤ MOST_SYMBOLS

-- the quadruple is one of these, and leaves this state
pub record IsLeavingQuad (quads : List Quad) (state : ℕ) (q : Quad) : Type 0 where
  pub place : ℕ
  pub stands : slice_get quads place ≡ Some q
  pub leaves : q.state ≡ state

-- a quadruple of the machine that leaves the state of d, and requires that the tapes before this one are as they are
pub record IsBegun (m : Quadruples) (d : Configuration ℕ) (r : Rule ℕ) (t : ℕ) : Type 0 where
  pub number : ℕ
  pub stands : nth m.rules number ≡ Some r
  pub from : r.from ≡ d.state
  pub before : AdmitsBefore r d t

-- The machine is stuck at d at the answer of a tape, after the symbols that a quadruple reads before; at a first read
-- the quadruple is arbitrary. The cells show the tapes of d without the symbols that were read, and the tapes fit in
-- the window.
pub record IsAnswered (m : Quadruples) (l : Limits) (read : Read) (answer : Answer) (shown : Spelled)
    (d : Configuration ℕ) : Type 0 where
  pub tape : IsTape answer.tape
  pub state : read.state ≡ d.state
  pub symbol : answer.symbol ≡ scanned (tape_of d answer.tape)
  pub rule : Rule ℕ
  pub before : listed read.before ≡ symbols_before rule answer.tape
  pub begun : 1 < answer.tape → IsBegun m d rule answer.tape
  pub spells : shown ≡ spelled_config l (taken_to rule d answer.tape)
  pub fits : FitsWindow m l d

-- the signal left from this element by such an answer
pub record IsLeftAtRead (f : Build) (element : ℕ) (shown : Spelled) (d : Configuration ℕ) : Type 0 where
  pub tape : ℕ
  pub is_tape : IsTape tape
  pub rule : Rule ℕ
  pub column : ℕ
  pub named : slice_get f.names column ≡ Some (Reads d.state (symbols_before rule tape))
  pub line : element ≡ column_at 0 (lines_at f.layout) column
      + (lines_before f.layout.symbols (tape - 1) + scanned (tape_of d tape))
  pub begun : 1 < tape → IsBegun f.machine d rule tape
  pub spells : shown ≡ spelled_config f.limits (taken_to rule d tape)
  pub fits : FitsWindow f.machine f.limits d

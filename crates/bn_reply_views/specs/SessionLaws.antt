-- Where a script leads on the circuit of a machine: the laws of playing, with a view that shows every layer.
use Rattle.std.specs.Prelude.{◌≡◌, ℕ, List, Option}
use Rattle.bn_circuits.specs.Stepping.{run}
use Rattle.bn_machine.specs.Machine.{Program}
use Rattle.bn_machine.specs.Outcome.{Limits}
use Rattle.bn_table.specs.Rows.{Named}
use Rattle.bn_boards.specs.Layouts.{moment_at}
use Rattle.bn_boards.specs.Flats.{Flat, IsFlatOf, flat_start}
use Rattle.bn_session.specs.Laws.{IsLeastHit, IsOnRun}
use Rattle.bn_session.specs.Plays.{Plays, PlaysOne, Session, place_line, stops}
use Rattle.bn_session.specs.declared.command.Command.{Command}
use Rattle.bn_session.specs.declared.command.Command.TheVariants.{Step, Back, Go, Rev}
use Rattle.bn_reply_views.specs.Showing.{TellsLayers}

-- a script on the circuit of f, with every layer as view
abbrev pub PlaysWithLayers : Named → Flat → List Command → Session → Session → List ℕ → Type 0
PlaysWithLayers t f = Plays f.circuit (moment_at f.layout) (TellsLayers t f)

abbrev pub PlaysOneWithLayers : Named → Flat → Command → Session → Session → List ℕ → Type 0
PlaysOneWithLayers t f = PlaysOne f.circuit (moment_at f.layout) (TellsLayers t f)

-- a script that begins on the run of the circuit from its start stays on that run
abbrev pub SessionsStayOnTheRun : Type 0
SessionsStayOnTheRun =
    (p : Program) (word : List ℕ) (l : Limits) (f : Flat) → IsFlatOf p word l f
    → (t : Named) (xs : List Command) (s end : Session) (text : List ℕ) → IsOnRun f.circuit (flat_start f) s
    → PlaysWithLayers t f xs s end text → IsOnRun f.circuit (flat_start f) end

-- the command moves along the run
abbrev pub IsMove : Command → Type 0
IsMove (Step e) = Unit {0}
IsMove (Back e) = Unit {0}
IsMove (Go e) = Unit {0}
IsMove (Rev e) = Unit {0}
IsMove _ = ⊥

-- each reported place is that of the run from the start, after the number of steps in its line
abbrev pub ToldPlacesAreOfTheRun : Type 0
ToldPlacesAreOfTheRun =
    (p : Program) (word : List ℕ) (l : Limits) (f : Flat) → IsFlatOf p word l f
    → (t : Named) (x : Command) (s end : Session) (text : List ℕ) → IsOnRun f.circuit (flat_start f) s
    → PlaysOneWithLayers t f x s end text → IsMove x
    → (label : Option (List ℕ)) × (text ≡ place_line (run f.circuit (flat_start f) end.config.steps) label)

-- `go` stops at the least later step, within its number, at which a condition holds; if there is none, at the end of
-- its steps
abbrev pub GoesStopAtLeastHit : Type 0
GoesStopAtLeastHit =
    (t : Named) (f : Flat) (e : ℕ) (s end : Session) (text : List ℕ) → IsOnRun f.circuit (flat_start f) s
    → PlaysOneWithLayers t f (Go e) s end text
    → IsLeastHit f.circuit (stops (moment_at f.layout) s.breaks) (flat_start f) s.config e end.config

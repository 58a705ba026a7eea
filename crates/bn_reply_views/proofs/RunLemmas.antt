-- A script stays on the run of its board.
use Rattle.std.specs.Prelude.{◌≡◌, ℕ, List, [], Option, None, refl}
use Rattle.std.proofs.Common.{sym, ap, ◌∙◌}
use Rattle.bn_circuits.specs.Stepping.{run}
use Rattle.bn_circuits.specs.declared.config.Config.{Config}
use Rattle.bn_circuits.proofs.RunLemmas.{Reaches-run}
use Rattle.bn_table.specs.Rows.{Named}
use Rattle.bn_boards.specs.Layouts.{moment_at}
use Rattle.bn_boards.specs.Flats.{Flat, flat_start}
use Rattle.bn_session.specs.Plays.{Session, label_that_holds, place_line}
use Rattle.bn_session.specs.declared.command.Command.{Command}
use Rattle.bn_session.specs.declared.command.Command.TheVariants.{Step, Back, Go, Rev, BreakState, BreakElement}
use Rattle.bn_session.specs.declared.command.Command.TheVariants.{BreakLine, Drop, View}
use Rattle.bn_session.proofs.PlayedLemmas.{goes-least, on-all, on-by}
use Rattle.bn_reply_views.specs.Showing.{TellsLayers}
use Rattle.bn_reply_views.specs.SessionLaws.{GoesStopAtLeastHit, IsMove, ToldPlacesAreOfTheRun, PlaysOneWithLayers}
use Rattle.bn_reply_views.specs.SessionLaws.{SessionsStayOnTheRun}

pub sessions_stay : SessionsStayOnTheRun
sessions_stay p word l f flat t xs s end text on plays =
    on-all f.circuit (moment_at f.layout) (TellsLayers t f) (flat_start f) refl flat.is_board.circuit xs s end text on
    plays

-- the line of a command that moves is that of where it ends
told_place : (t : Named) (f : Flat) (x : Command) (s end : Session) (text : List ℕ)
    → PlaysOneWithLayers t f x s end text → IsMove x →
    (label : Option (List ℕ)) × (text ≡ place_line end.config label)
told_place t f (Step e) s end text plays moves = (None, plays.1)
told_place t f (Back e) s end text plays moves = (None, plays.1)
told_place t f (Go e) s end text plays moves = (
  label_that_holds (moment_at f.layout) s.breaks s.config end.config,
  plays.2,
)
told_place t f (Rev e) s end text plays moves = (
  label_that_holds (moment_at f.layout) s.breaks s.config end.config,
  plays.2,
)
told_place t f (BreakState label a) s end text plays moves = absurd moves
told_place t f (BreakElement label e) s end text plays moves = absurd moves
told_place t f (BreakLine label e l) s end text plays moves = absurd moves
told_place t f (Drop label) s end text plays moves = absurd moves
told_place t f View s end text plays moves = absurd moves

pub places_told : ToldPlacesAreOfTheRun
places_told p word l f flat t x s end text on plays moves =
    let there = on-by f.circuit (moment_at f.layout) (TellsLayers t f) (flat_start f) refl flat.is_board.circuit x s end
    text on plays in
    let told = told_place t f x s end text plays moves in
    let at : end.config ≡ run f.circuit (flat_start f) end.config.steps =
    sym (Reaches-run f.circuit end.config.steps (flat_start f) end.config there) in
    (told.0, told.1 ∙ ap (λ (c : Config). place_line c told.0) at)

-- `go` shows nothing, so it is the same whatever a view may show
pub goes_least : GoesStopAtLeastHit
goes_least t f e s end text on plays = goes-least f.circuit (moment_at f.layout) (λ c. []) (flat_start f) e s end text
    refl on plays

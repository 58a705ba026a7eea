-- The laws of this crate, a named field each. `Laws` is the contract of `reply_views_laws`.
use Rattle.bn_reply_views.specs.BreakpointLaws.{GoesStopAtNextHit, RevsStopAtLastHit, StepsTakenBackAreSteps}
use Rattle.bn_reply_views.specs.BreakpointLaws.{BoardsShowOneText}
use Rattle.bn_reply_views.specs.PlaceLaws.{PlacesAreOneInAll, SessionsShowViews}
use Rattle.bn_reply_views.specs.SessionLaws.{SessionsStayOnTheRun, ToldPlacesAreOfTheRun, GoesStopAtLeastHit}
use Rattle.bn_reply_views.specs.SessionReply.{SessionIsSettled}
use Rattle.bn_reply_views.specs.ViewLaws.{ViewsShowSteps}
use Rattle.bn_reply_views.specs.ViewReply.{ViewIsSettled}

pub record Laws : Type 0 where
  -- A view, a session and `step` with one number of steps show the same place.
  pub places_are_one_in_all : PlacesAreOneInAll × SessionsShowViews
  -- `go` stops at the next step, and `rev` at the last one, at which a breakpoint holds by the definition of a moment.
  pub breakpoints_hold_at_moments : GoesStopAtNextHit × RevsStopAtLastHit
  -- In a script, steps of which some are undone equal fewer steps.
  pub steps_taken_back_are_steps : StepsTakenBackAreSteps
  -- A circuit that can be shown has at most one text.
  pub boards_show_one_text : BoardsShowOneText
  -- `session` has exactly one answer to all words, windows and bytes.
  pub session_has_one_reply : SessionIsSettled
  -- A script stays on the run of its circuit from the start. Each reported place is that of the run after the number of
  -- steps in its line, which `step` and `view` reach too; and `go` stops at the least later step at which a breakpoint
  -- holds.
  pub sessions_stay_on_the_run : SessionsStayOnTheRun × ToldPlacesAreOfTheRun × GoesStopAtLeastHit
  -- `view` has exactly one answer to all words, allowed limits, numbers of steps and bytes.
  pub view_has_one_reply : ViewIsSettled
  -- The view of a circuit after a number of steps shows the place to which `step` takes its compiled text in as many
  -- steps.
  pub views_show_steps : ViewsShowSteps

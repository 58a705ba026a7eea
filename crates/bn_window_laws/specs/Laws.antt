-- The laws of this crate, a named field each. `Laws` is the contract of `window_laws`. They speak of a circuit that is
-- not too large, in a window with numbers that `run` takes.
use Rattle.std.specs.Prelude.{◌≡◌, ℕ, List, None}
use Rattle.bn_circuits.specs.declared.place.Place.{Place}
use Rattle.bn_machine.specs.Outcome.{Limits}
use Rattle.bn_table.specs.Rows.{Named}
use Rattle.bn_boards.specs.Flats.{Flat}
use Rattle.bn_extents.specs.LeastWindow.{AreAtMost, IsLeastWindow}
use Rattle.bn_reply.specs.declared.status.Status.{Status}
use Rattle.bn_reply.specs.declared.status.Status.TheVariants as statuses
use Rattle.bn_reply_relations.specs.RunReply.{TellsRun}
use Rattle.bn_reply_relations.specs.ToldRuns.{IsGiven, TellsOutcome}
use Rattle.bn_reply_relations.specs.Windows.{ComesTo}

-- in the least window, and in every one at least as great on each side, `run` reports the end of the machine itself
abbrev pub RunsEndInLeastWindows : Type 0
RunsEndInLeastWindows =
    (bytes letters : List ℕ) (k l : Limits) (t : Named) (symbols : List ℕ) (f : Flat) (status : Status)
    (text : List ℕ) (told : List Place) → (window : IsLeastWindow t.machine symbols l) → AreAtMost l k
    → IsGiven bytes letters k t symbols → ComesTo t.machine k symbols f → TellsRun None t f status text told
    → TellsOutcome t k symbols f window.fits.steps window.fits.outcome status text

-- in a window with a number smaller than that of the least one, in which the word has room, the signal leaves by an end
-- of a tape
abbrev pub RunsLeaveSmallerWindows : Type 0
RunsLeaveSmallerWindows =
    (bytes letters : List ℕ) (k l : Limits) (t : Named) (symbols : List ℕ) (f : Flat) (status : Status)
    (text : List ℕ) (told : List Place) → IsLeastWindow t.machine symbols l → (AreAtMost l k → ⊥)
    → IsGiven bytes letters k t symbols → ComesTo t.machine k symbols f → TellsRun None t f status text told
    → status ≡ statuses.Window

-- ---- the laws

pub record Laws : Type 0 where
  -- In the least window, and in every window at least as great on each side, the run of the circuit ends as the machine
  -- itself does: it halts with its output, or is stuck.
  pub runs_end_in_least_windows : RunsEndInLeastWindows
  -- In a window with any number smaller than that of the least one, the word has no room, or the run of the circuit
  -- leaves by an end of a tape.
  pub runs_leave_smaller_windows : RunsLeaveSmallerWindows

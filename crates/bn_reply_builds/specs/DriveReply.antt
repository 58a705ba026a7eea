-- The answer of the command `drive`: the run of the circuit of a uniform machine of quadruples in a window from its
-- start with words on the tapes, within a greatest number of element steps (Morita 2017 for the elements; the circuit,
-- the window and the text are this project's own profile). Refusals are those of `build`.
use Rattle.std.specs.Prelude.{ℕ, ◌≤◌, List}
use Rattle.bn_circuits.specs.declared.place.Place.{Place}
use Rattle.bn_machine.specs.Outcome.{Limits}
use Rattle.bn_qtable.specs.TapeWords.{TapeWords}
use Rattle.bn_network.specs.Starts.{words_on}
use Rattle.bn_reply.specs.Answering.{IsSettled}
use Rattle.bn_reply.specs.declared.status.Status.{Status}
use Rattle.bn_reply_builds.specs.BuildReply.{BuiltReplies}
use Rattle.bn_reply_builds.specs.Driven.{TellsDrive}
use Rattle.bn_network.specs.declared.limits.TheConstants.{MOST_DRIVE_STEPS}

-- the answer of `drive` to words on the tapes, limits, a greatest number of element steps and bytes
abbrev pub DriveReplies : TapeWords → Limits → ℕ → List ℕ → Status → List ℕ → List Place → Type 0
DriveReplies words l most =
    BuiltReplies (λ t one two three. TellsDrive most t (words_on t.machine one two three)) words l

-- for all words, limits, numbers of steps up to the greatest, and bytes, it has exactly one answer
abbrev pub DriveIsSettled : Type 0
DriveIsSettled = (words : TapeWords) (l : Limits) (most : ℕ) (bytes : List ℕ) → most ≤ MOST_DRIVE_STEPS
    → IsSettled (DriveReplies words l most bytes)

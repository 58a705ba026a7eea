-- The answer of the command `look`: every layer of the circuit of a uniform machine of quadruples in a window, from its
-- start with words on the tapes, after a number of element steps (Morita 2017 for the elements; circuit, window and
-- text are this project's own definitions). It refuses what `build` refuses.
use Rattle.std.specs.Prelude.{◌≡◌, ℕ, List, []}
use Rattle.bn_circuits.specs.Stepping.{run}
use Rattle.bn_circuits.specs.declared.place.Place.{Place}
use Rattle.bn_machine.specs.Outcome.{Limits}
use Rattle.bn_quad.specs.Quadruples.{Configuration}
use Rattle.bn_qtable.specs.Rows.{QuadTable}
use Rattle.bn_qtable.specs.TapeWords.{TapeWords}
use Rattle.bn_network.specs.Starts.{words_on}
use Rattle.bn_boards.specs.Builds.{Build, start_of}
use Rattle.bn_reply.specs.Answering.{IsSettled}
use Rattle.bn_reply.specs.declared.status.Status.{Status}
use Rattle.bn_reply.specs.declared.status.Status.TheVariants.{Done}
use Rattle.bn_reply_builds.specs.BuildReply.{BuiltReplies}
use Rattle.bn_reply_looks.specs.Looking.{ShowsBuild}

-- the text shows the circuit after this many steps, or after as many as can be made; a watch receives nothing
pub record TellsLook (steps : ℕ) (t : QuadTable) (c : Configuration ℕ) (f : Build) (status : Status) (text : List ℕ)
    (told : List Place) : Type 0 where
  pub shows : ShowsBuild t f c (run f.circuit (start_of f c) steps) text
  pub status_is : status ≡ Done
  pub silent : told ≡ []

-- the answer of `look` to words on the tapes, limits, a greatest number of element steps and bytes
abbrev pub LookReplies : TapeWords → Limits → ℕ → List ℕ → Status → List ℕ → List Place → Type 0
LookReplies words l steps =
    BuiltReplies (λ t one two three. TellsLook steps t (words_on t.machine one two three)) words l

-- it has exactly one answer to all words, limits, numbers of steps and bytes
abbrev pub LookIsSettled : Type 0
LookIsSettled = (words : TapeWords) (l : Limits) (steps : ℕ) (bytes : List ℕ)
    → IsSettled (LookReplies words l steps bytes)

-- The headline of `generate`: what it prints for the machine of k increments, which has such a run.
use Rattle.std.specs.Prelude.{◌≡◌, ℕ, ◌+◌, ◌*◌, ◌/◌, ◌%◌, List, [], ◌∷◌, ◌++◌, map, Option, codes, decimal}
use Rattle.bn_machine.specs.Outcome.{Halted}
use Rattle.bn_gen.specs.Increments.{IsRoundCount, incrementer}
use Rattle.bn_gen.specs.Text.{increments_table}
use Rattle.bn_reply_boards.specs.GenerateReply.{title, window}
use Rattle.bn_reply.specs.declared.status.Status.{Status}
use Rattle.bn_headline.specs.Elements.{most_steps}
use Rattle.bn_headline.specs.MachineHeadline.{TellsExit, TookRun, least_steps}

-- A number below sixteen in binary, as symbols of the machine: 1 for the digit 0, and 2 for the digit 1.
abbrev pub binary : ℕ → List ℕ
binary n = map (λ place. 1 + n / place % 2) (8 ∷ 4 ∷ 2 ∷ 1 ∷ [])

-- The text is the line `increments k`, followed by that of a run of the machine of k increments from 11 on: it halts
-- after 10k + 1 steps with 11 + k.
pub record TellsIncrements (k cost : ℕ) (status : Status) (text : List ℕ) : Type 0 where
  pub ran : List ℕ
  pub text_is : text ≡ title k ++ ran
  pub tells : TellsExit (increments_table k) (window k) (binary 11) (10 * k + 1) (Halted (binary (11 + k))) cost status
      ran

-- If the arguments are `generate` and a number of increments, from 1 to 4, the sink received such a text.
unfoldable pub GeneratedHeadline : List (List ℕ) → Status → Option (List ℕ) → Option (List ℕ) → Type 0
GeneratedHeadline words status taken took =
    (k : ℕ) → IsRoundCount k → words ≡ codes "generate" ∷ decimal k ∷ []
    → TookRun (TellsIncrements k) (least_steps (10 * k + 1) (Halted (binary (11 + k))))
    (most_steps (incrementer k) (window k)) status taken took

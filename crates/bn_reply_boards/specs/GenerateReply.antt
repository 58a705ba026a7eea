-- The answer of the command `generate`: the run of the machine of k increments on a number, in a window that is just
-- large enough (the machine and the window are this project's own example).
use Rattle.std.specs.Prelude.{◌≡◌, ℕ, ◌+◌, ◌*◌, List, [], ◌∷◌, ◌++◌, None, codes, decimal}
use Rattle.bn_circuits.specs.declared.place.Place.{Place}
use Rattle.bn_machine.specs.Outcome.{Limits}
use Rattle.bn_gen.specs.Text.{increments_text}
use Rattle.bn_reply.specs.Lines.{line}
use Rattle.bn_reply.specs.declared.status.Status.{Status}
use Rattle.bn_reply_relations.specs.RunReply.{RunReplies}

-- the number, in binary, and its digits as symbols of the machine
abbrev pub number : List ℕ
number = codes "1011"

abbrev pub digits : List ℕ
digits = 2 ∷ 1 ∷ 2 ∷ 2 ∷ []

-- the window: no cell left of cell 0, five right of it, room for the machine's 10k + 1 steps, and an output of four
-- letters followed by the blank
abbrev pub window : ℕ → Limits
window k = record { left = 0; right = 5; steps = 10 * k + 1; output = 5 }

-- the first line
abbrev pub title : ℕ → List ℕ
title k = line (codes "increments " ∷ decimal k ∷ [])

-- the first line, followed by the answer of `run` to the machine's table, that number and that window
pub record GenerateReplies (k : ℕ) (status : Status) (text : List ℕ) (told : List Place) : Type 0 where
  pub ran : List ℕ
  pub runs : RunReplies None number (window k) (increments_text k) status ran told
  pub text_is : text ≡ title k ++ ran

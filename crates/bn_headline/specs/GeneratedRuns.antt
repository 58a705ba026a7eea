-- How the run of the machine of k increments on 1011 ends (this project's own example).
use Rattle.std.specs.Prelude.{ℕ, zero, suc, ◌+◌, ◌*◌, List, [], ◌∷◌}
use Rattle.bn_machine.specs.Outcome.{HasOutcome, Halted}
use Rattle.bn_gen.specs.Increments.{IsRoundCount, incrementer}
use Rattle.bn_reply_boards.specs.GenerateReply.{digits, window}

-- 1011 and k more: 1100, 1101, 1110, 1111
abbrev pub output_for : ℕ → List ℕ
output_for (suc zero) = 2 ∷ 2 ∷ 1 ∷ 1 ∷ []
output_for (suc (suc zero)) = 2 ∷ 2 ∷ 1 ∷ 2 ∷ []
output_for (suc (suc (suc zero))) = 2 ∷ 2 ∷ 2 ∷ 1 ∷ []
output_for (suc (suc (suc (suc zero)))) = 2 ∷ 2 ∷ 2 ∷ 2 ∷ []
output_for _ = []

-- it halts after 10k + 1 steps with this output, within its window
abbrev pub GeneratedRunsHalt : Type 0
GeneratedRunsHalt =
    (k : ℕ) → IsRoundCount k
    → HasOutcome (incrementer k) digits (window k) (10 * k + 1) (Halted (output_for k))

-- What a call counts of the failures of a source or of a sink.
use Rattle.std.specs.Prelude.{◌≡◌, ℕ, ◌≤◌}
use Rattle.std.proofs.Common.{arith, subst}
use Rattle.bn_io.specs.Faults.{CountsUnless}

-- nothing was counted
pub counts_nothing : (failure : Type 0) (before now : ℕ) → now ≡ before → CountsUnless failure before now
counts_nothing failure before now same = record { later = omega (arith, same); stays = λ _. same }

-- the failure is told
pub counts_told : (failure : Type 0) (before now : ℕ) → before ≤ now → failure → CountsUnless failure before now
counts_told failure before now later told = record { later = later; stays = λ none. absurd (none told) }

-- nothing was counted before
pub counts_after : (failure : Type 0) (before middle now : ℕ) → middle ≡ before → CountsUnless failure middle now
    → CountsUnless failure before now
counts_after failure before middle now same counts = subst (λ n. CountsUnless failure n now) same counts

-- one failure is told by another
pub counts_as : (failure told : Type 0) (before now : ℕ) → (failure → told) → CountsUnless failure before now
    → CountsUnless told before now
counts_as failure told before now by counts =
    record { later = counts.later; stays = λ none. counts.stays (λ failed. none (by failed)) }

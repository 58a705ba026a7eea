-- A word is too long, or none is.
use Rattle.std.specs.Prelude.{◌≡◌, ℕ, ◌<◌, ◌≤◌, ◌⊎◌, List, length, refl}
use Rattle.std.proofs.Common.{arith, inl, inr, sym, ◌∙◌}
use Rattle.std.proofs.lemmas.Bool.{cases_lt}
use Rattle.bn_machine.specs.Outcome.{Limits}
use Rattle.bn_reply_builds.specs.BuildReply.{HaveRoom, IsFirstLong, first_long, second_long, third_long}

module _ (l : Limits) (one two three : List ℕ) where
  by_lengths : (l.right < length one) ⊎ (length one ≤ l.right) → (l.steps < length two) ⊎ (length two ≤ l.steps) →
      (l.output < length three) ⊎ (length three ≤ l.output) →
      HaveRoom l one two three ⊎ ((t : ℕ) × (n : ℕ) × IsFirstLong l one two three t n)
  by_lengths (inl far) second third = inr (1, length one, first_long far refl refl)
  by_lengths (inr fits) (inl far) third = inr (2, length two, second_long fits far refl refl)
  by_lengths (inr fits) (inr also) (inl far) = inr (3, length three, third_long fits also far refl refl)
  by_lengths (inr fits) (inr also) (inr too) = inl (record { on_one = fits; on_two = also; on_three = too })

  pub long_or_room : HaveRoom l one two three ⊎ ((t : ℕ) × (n : ℕ) × IsFirstLong l one two three t n)
  long_or_room = by_lengths (cases_lt l.right (length one)) (cases_lt l.steps (length two))
      (cases_lt l.output (length three))

  pub not_long : (t n : ℕ) → HaveRoom l one two three → IsFirstLong l one two three t n → ⊥
  not_long t n room (first_long far at is) = let fits = room.on_one in omega (arith, far, fits)
  not_long t n room (second_long first far at is) = let fits = room.on_two in omega (arith, far, fits)
  not_long t n room (third_long first second far at is) = let fits = room.on_three in omega (arith, far, fits)

  pub long_once : (t u n k : ℕ) → IsFirstLong l one two three t n → IsFirstLong l one two three u k → (t ≡ u) × (n ≡ k)
  long_once t u n k (first_long far at is) (first_long also there so) = (at ∙ sym there, is ∙ sym so)
  long_once t u n k (first_long far at is) (second_long fits also there so) = absurd (omega (arith, far, fits))
  long_once t u n k (first_long far at is) (third_long fits too also there so) = absurd (omega (arith, far, fits))
  long_once t u n k (second_long fits far at is) (first_long also there so) = absurd (omega (arith, also, fits))
  long_once t u n k (second_long fits far at is) (second_long too also there so) = (at ∙ sym there, is ∙ sym so)
  long_once t u n k (second_long fits far at is) (third_long first second also there so) =
      absurd (omega (arith, far, second))
  long_once t u n k (third_long first second far at is) (first_long also there so) = absurd (omega (arith, also, first))
  long_once t u n k (third_long first second far at is) (second_long fits also there so) =
      absurd (omega (arith, also, second))
  long_once t u n k (third_long first second far at is) (third_long fits too also there so) =
      (at ∙ sym there, is ∙ sym so)

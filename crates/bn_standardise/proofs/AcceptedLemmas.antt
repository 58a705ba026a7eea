-- One refusal fits a machine, and none but want of memory fits one that is accepted.
use Rattle.std.specs.Prelude.{◌≡◌, ◌≢◌, ℕ, List}
use Rattle.std.proofs.Common.{refl, sym, ◌∙◌, ap, arith}
use Rattle.bn_machine.specs.Machine.{Program}
use Rattle.bn_machine.specs.declared.quint.Quint.{Quint}
use Rattle.bn_machine.specs.Verdict.{IsLeastRepeat}
use Rattle.bn_machine.proofs.VerdictLemmas.{verdict_once}
use Rattle.bn_machine.specs.declared.why.Why.TheVariants as whys
use Rattle.bn_standardise.specs.Refusals.{IsAccepted, IsLeastHalting, IsLooseRefusal}
use Rattle.bn_standardise.specs.Laws.{RefusalsAreOne}
use Rattle.bn_standardise.specs.declared.refusal.LooseRefusal.{LooseRefusal}
use Rattle.bn_standardise.specs.declared.refusal.LooseRefusal.TheVariants.{Repeat, Halting, Many, NoMemory}
use Rattle.bn_lists.proofs.LeastLemmas.{least_is_one}
use Rattle.bn_standardise.specs.Standardised.{LeavesHalting}

halting_once : (qs : List Quint) (i j : ℕ) → IsLeastHalting qs i → IsLeastHalting qs j → i ≡ j
halting_once qs i j a b = least_is_one (LeavesHalting qs) i j a b

-- the verdict of standard form that says the same
repeat_once : (qs : List Quint) (i j m n : ℕ) → IsLeastRepeat qs i j → IsLeastRepeat qs m n → (i ≡ m) × (j ≡ n)
repeat_once qs i j m n h k =
    let one : whys.Repeat i j ≡ whys.Repeat m n = verdict_once qs (whys.Repeat i j) (whys.Repeat m n) (λ e. absurd (cc))
    (λ e. absurd (cc)) h k in
    (cc, cc)

refusal_once : (p : Program) (a b : LooseRefusal) → a ≢ NoMemory → b ≢ NoMemory → IsLooseRefusal p a
    → IsLooseRefusal p b → a ≡ b
refusal_once p NoMemory b x y h k = absurd (x refl)
refusal_once p (Repeat i j) NoMemory x y h k = absurd (y refl)
refusal_once p (Halting i) NoMemory x y h k = absurd (y refl)
refusal_once p (Many c) NoMemory x y h k = absurd (y refl)
refusal_once p (Repeat i j) (Repeat m n) x y h k = let same =
    repeat_once p.quints i j m n h k in λ t. Repeat (same.0 t) (same.1 t)
refusal_once p (Repeat i j) (Halting m) x y h k = absurd (k.0.none i j h.repeats)
refusal_once p (Repeat i j) (Many c) x y h k = absurd (k.0.unambiguous.none i j h.repeats)
refusal_once p (Halting i) (Repeat m n) x y h k = absurd (h.0.none m n k.repeats)
refusal_once p (Halting i) (Halting m) x y h k = ap Halting (halting_once p.quints i m h.1 k.1)
refusal_once p (Halting i) (Many c) x y h k = absurd (k.0.halts.none i h.1.holds)
refusal_once p (Many c) (Repeat m n) x y h k = absurd (h.0.unambiguous.none m n k.repeats)
refusal_once p (Many c) (Halting m) x y h k = absurd (h.0.halts.none m k.1.holds)
refusal_once p (Many c) (Many d) x y h k = ap Many (h.1 ∙ sym k.1)

accepted_not_refused : (p : Program) (a : LooseRefusal) → IsAccepted p → IsLooseRefusal p a → a ≡ NoMemory
accepted_not_refused p NoMemory h k = refl
accepted_not_refused p (Repeat i j) h k = absurd (h.loose.unambiguous.none i j k.repeats)
accepted_not_refused p (Halting i) h k = absurd (h.loose.halts.none i k.1.holds)
accepted_not_refused p (Many c) h k = absurd (omega (arith, h.few, k.1, k.2))

pub refusals_once : RefusalsAreOne
refusals_once = (refusal_once, accepted_not_refused)

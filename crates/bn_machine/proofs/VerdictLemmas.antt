-- One refusal at most fits, and none but want of memory fits quintuples in standard form.
use Rattle.std.specs.Prelude.{◌≡◌, ℕ, List}
use Rattle.std.proofs.Common.{refl, sym, subst, ap}
use Rattle.bn_machine.specs.declared.quint.Quint.{Quint}
use Rattle.bn_machine.specs.Standard.{Repeats, UsesStart, UsesFinal}
use Rattle.bn_machine.specs.Verdict.{IsLeastRepeat, IsLeastStart, IsLeastFinal}
use Rattle.bn_machine.specs.declared.why.Why.TheVariants.{Repeat, First, StartUsed, Last, FinalUsed, NoMemory}
use Rattle.bn_machine.specs.VerdictLaws.{VerdictsAreOne, StandardIsAccepted}
use Rattle.bn_lists.proofs.LeastLemmas.{least_once, least_is_one}

start_once : (qs : List Quint) (i j : ℕ) → IsLeastStart qs i → IsLeastStart qs j → i ≡ j
start_once qs i j a b = least_is_one (UsesStart qs) i j a b

final_once : (qs : List Quint) (i j : ℕ) → IsLeastFinal qs i → IsLeastFinal qs j → i ≡ j
final_once qs i j a b = least_is_one (UsesFinal qs) i j a b

repeat_once : (qs : List Quint) (i j m n : ℕ) → IsLeastRepeat qs i j → IsLeastRepeat qs m n → (i ≡ m) × (j ≡ n)
repeat_once qs i j m n a b =
    let first : i ≡ m = least_once i m (λ h. b.least_first i j h a.repeats) (λ h. a.least_first m n h b.repeats) in
    let moved : Repeats qs m j = subst (λ k. Repeats qs k j) first a.repeats in
    let back : Repeats qs i n = subst (λ k. Repeats qs k n) (sym first) b.repeats in
    (first, least_once j n (λ h. b.least_second j h moved) (λ h. a.least_second n h back))

pub verdict_once : VerdictsAreOne
verdict_once qs NoMemory b p r h k = absurd (p refl)
verdict_once qs (Repeat i j) NoMemory p r h k = absurd (r refl)
verdict_once qs First NoMemory p r h k = absurd (r refl)
verdict_once qs (StartUsed i) NoMemory p r h k = absurd (r refl)
verdict_once qs Last NoMemory p r h k = absurd (r refl)
verdict_once qs (FinalUsed i) NoMemory p r h k = absurd (r refl)
verdict_once qs (Repeat i j) (Repeat m n) p r h k = let same =
    repeat_once qs i j m n h k in λ t. Repeat (same.0 t) (same.1 t)
verdict_once qs (Repeat i j) First p r h k = absurd (k.0.none i j h.repeats)
verdict_once qs (Repeat i j) (StartUsed m) p r h k = absurd (k.0.none i j h.repeats)
verdict_once qs (Repeat i j) Last p r h k = absurd (k.0.none i j h.repeats)
verdict_once qs (Repeat i j) (FinalUsed m) p r h k = absurd (k.0.none i j h.repeats)
verdict_once qs First (Repeat m n) p r h k = absurd (h.0.none m n k.repeats)
verdict_once qs First First p r h k = refl
verdict_once qs First (StartUsed m) p r h k = absurd (h.1 k.1)
verdict_once qs First Last p r h k = absurd (h.1 k.1)
verdict_once qs First (FinalUsed m) p r h k = absurd (h.1 k.1)
verdict_once qs (StartUsed i) (Repeat m n) p r h k = absurd (h.0.none m n k.repeats)
verdict_once qs (StartUsed i) First p r h k = absurd (k.1 h.1)
verdict_once qs (StartUsed i) (StartUsed m) p r h k = ap StartUsed (start_once qs i m h.2 k.2)
verdict_once qs (StartUsed i) Last p r h k = absurd (k.2.none i h.2.holds)
verdict_once qs (StartUsed i) (FinalUsed m) p r h k = absurd (k.2.none i h.2.holds)
verdict_once qs Last (Repeat m n) p r h k = absurd (h.0.none m n k.repeats)
verdict_once qs Last First p r h k = absurd (k.1 h.1)
verdict_once qs Last (StartUsed m) p r h k = absurd (h.2.none m k.2.holds)
verdict_once qs Last Last p r h k = refl
verdict_once qs Last (FinalUsed m) p r h k = absurd (h.3 k.3)
verdict_once qs (FinalUsed i) (Repeat m n) p r h k = absurd (h.0.none m n k.repeats)
verdict_once qs (FinalUsed i) First p r h k = absurd (k.1 h.1)
verdict_once qs (FinalUsed i) (StartUsed m) p r h k = absurd (h.2.none m k.2.holds)
verdict_once qs (FinalUsed i) Last p r h k = absurd (k.3 h.3)
verdict_once qs (FinalUsed i) (FinalUsed m) p r h k = ap FinalUsed (final_once qs i m h.4 k.4)

pub standard_accepted : StandardIsAccepted
standard_accepted qs NoMemory s h = refl
standard_accepted qs (Repeat i j) s h = absurd (s.unambiguous.none i j h.repeats)
standard_accepted qs First s h = absurd (h.1 s.begins)
standard_accepted qs (StartUsed i) s h = absurd (s.lone_start.none i h.2.holds)
standard_accepted qs Last s h = absurd (h.3 s.ends)
standard_accepted qs (FinalUsed i) s h = absurd (s.lone_final.none i h.4.holds)

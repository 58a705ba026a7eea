-- Searches for the first quintuple with a property.
use Rattle.std.specs.Prelude.{◌≡◌, ℕ, zero, suc, ◌<◌, ◌≤◌, List, length, Some, ◌⊎◌}
use Rattle.std.proofs.Common.{subst, arith, inl, inr}
use Rattle.std.proofs.lemmas.Bool.{cases_lt}
use Rattle.bn_machine.specs.Machine.{start_of, final_of}
use Rattle.bn_lists.specs.Lists.{nth}
use Rattle.bn_lists.proofs.ListLemmas.{nth_within, nth_once}
use Rattle.bn_machine.specs.declared.quint.Quint.{Quint}
use Rattle.bn_machine.specs.Standard.{Clashes, Repeats, IsBeginning, BeginsWell, IsEnding, EndsWell, NamesStart}
use Rattle.bn_machine.specs.Standard.{NamesFinal, IsUnambiguous, HasLoneStart, HasLoneFinal}
use Rattle.bn_machine.specs.Verdict.{IsLeastRepeat, IsLeastStart, IsLeastFinal}
use Rattle.bn_machine.specs.Search.{NoneBefore, HasNoRepeat, IsLeastSecond}

-- none is numbered 0
pub none_before_one : (P : ℕ → Quint → Type 0) (qs : List Quint) → NoneBefore P qs 1
none_before_one P qs = record { none = none }
  where
    none : (m : ℕ) (q : Quint) → m < 1 → nth qs m ≡ Some q → P m q → ⊥
    none zero q h e holds = absurd (cc)
    none (suc m) q h e holds = absurd (omega arith)

pub none_before_more : (P : ℕ → Quint → Type 0) (qs : List Quint) (n : ℕ) (r : Quint) → NoneBefore P qs n
    → nth qs n ≡ Some r → (P n r → ⊥) → NoneBefore P qs (suc n)
none_before_more P qs n r before here holds_not = record {
  none = λ m q h e holds. by_order m q e holds (cases_lt m n) h;
}
  where
    by_order : (m : ℕ) (q : Quint) → nth qs m ≡ Some q → P m q → (m < n) ⊎ (n ≤ m) → m < suc n → ⊥
    by_order m q e holds (inl low) h = before.none m q low e holds
    by_order m q e holds (inr high) h =
        let same : m ≡ n = omega arith in
        let there : nth qs n ≡ Some q = subst (λ i. nth qs i ≡ Some q) same e in
        let one : q ≡ r = nth_once qs n q r there here in
        holds_not (subst (P n) one (subst (λ i. P i q) same holds))

-- none at all, where the search has passed the end
none_at_all : (P : ℕ → Quint → Type 0) (qs : List Quint) (n m : ℕ) (q : Quint) → length qs < n → NoneBefore P qs n
    → nth qs m ≡ Some q → P m q → ⊥
none_at_all P qs n m q past before e holds = let known : m ≤ length qs =
    nth_within qs m q e in before.none m q (omega arith) e holds

pub lone_start : (qs : List Quint) (n : ℕ) → length qs < n → NoneBefore (NamesStart (start_of qs)) qs n
    → HasLoneStart qs
lone_start qs n past before = record {
  none = λ i u. none_at_all (NamesStart (start_of qs)) qs n i u.quint past before u.stands u.names;
}

pub least_start : (qs : List Quint) (n : ℕ) (q : Quint) → NoneBefore (NamesStart (start_of qs)) qs n → nth qs n ≡ Some q
    → NamesStart (start_of qs) n q → IsLeastStart qs n
least_start qs n q before here names = record {
  holds = record { quint = q; stands = here; names = names };
  least = λ m h u. before.none m u.quint h u.stands u.names;
}

pub lone_final : (qs : List Quint) (n : ℕ) → length qs < n → NoneBefore (NamesFinal (final_of qs) (length qs)) qs n
    → HasLoneFinal qs
lone_final qs n past before = record {
  none = λ i u. none_at_all (NamesFinal (final_of qs) (length qs)) qs n i u.quint past before u.stands u.names;
}

pub least_final : (qs : List Quint) (n : ℕ) (q : Quint) → NoneBefore (NamesFinal (final_of qs) (length qs)) qs n
    → nth qs n ≡ Some q → NamesFinal (final_of qs) (length qs) n q → IsLeastFinal qs n
least_final qs n q before here names = record {
  holds = record { quint = q; stands = here; names = names };
  least = λ m h u. before.none m u.quint h u.stands u.names;
}

pub begins_well : (qs : List Quint) (q : Quint) → nth qs 1 ≡ Some q → IsBeginning q → BeginsWell qs
begins_well qs q here begins = record { quint = q; stands = here; begins = begins }

pub beginning_of : (qs : List Quint) (q : Quint) → nth qs 1 ≡ Some q → BeginsWell qs → IsBeginning q
beginning_of qs q here b = subst IsBeginning (nth_once qs 1 b.quint q b.stands here) b.begins

pub ends_well : (qs : List Quint) (q : Quint) → nth qs (length qs) ≡ Some q → IsEnding (start_of qs) q → EndsWell qs
ends_well qs q here ends = record { quint = q; stands = here; ends = ends }

pub ending_of : (qs : List Quint) (q : Quint) → nth qs (length qs) ≡ Some q → EndsWell qs → IsEnding (start_of qs) q
ending_of qs q here b = subst (IsEnding (start_of qs)) (nth_once qs (length qs) b.quint q b.stands here) b.ends

pub no_repeat : (qs : List Quint) (i : ℕ) (q : Quint) (n : ℕ) → nth qs i ≡ Some q → length qs < n
    → NoneBefore (Clashes i q) qs n → HasNoRepeat qs i
no_repeat qs i q n here past before = record {
  none = λ j r. none_at_all (Clashes i q) qs n j r.second past before
      r.second_stands (subst (λ f. Clashes i f j r.second) (nth_once qs i r.first q r.first_stands here) r.clashes);
}

pub least_second : (qs : List Quint) (i : ℕ) (q : Quint) (j : ℕ) (r : Quint) → nth qs i ≡ Some q
    → NoneBefore (Clashes i q) qs j → nth qs j ≡ Some r → Clashes i q j r → IsLeastSecond qs i j
least_second qs i q j r here before there clash = record {
  holds = record { first = q; second = r; first_stands = here; second_stands = there; clashes = clash };
  least = λ n h s. before.none n s.second h s.second_stands (subst (λ f. Clashes i f n s.second)
      (nth_once qs i s.first q s.first_stands here) s.clashes);
}

-- no quintuple numbered below n is repeated
pub record NoneRepeated (qs : List Quint) (n : ℕ) : Type 0 where
  pub none : (m j : ℕ) → m < n → Repeats qs m j → ⊥

pub none_repeated_one : (qs : List Quint) → NoneRepeated qs 1
none_repeated_one qs = record { none = none }
  where
    none : (m j : ℕ) → m < 1 → Repeats qs m j → ⊥
    none zero j h r = let e = r.first_stands in absurd (cc)
    none (suc m) j h r = absurd (omega arith)

pub none_repeated_more : (qs : List Quint) (n : ℕ) → NoneRepeated qs n → HasNoRepeat qs n → NoneRepeated qs (suc n)
none_repeated_more qs n before here = record { none = λ m j h r. by_order m j r (cases_lt m n) h }
  where
    by_order : (m j : ℕ) → Repeats qs m j → (m < n) ⊎ (n ≤ m) → m < suc n → ⊥
    by_order m j r (inl low) h = before.none m j low r
    by_order m j r (inr high) h = let same : m ≡ n = omega arith in here.none j (subst (λ i. Repeats qs i j) same r)

pub unambiguous : (qs : List Quint) (n : ℕ) → length qs < n → NoneRepeated qs n → IsUnambiguous qs
unambiguous qs n past before = record {
  none = λ i j r. let known : i ≤ length qs = nth_within qs i r.first r.first_stands in before.none i j (omega arith) r;
}

pub least_repeat : (qs : List Quint) (i j : ℕ) → NoneRepeated qs i → IsLeastSecond qs i j → IsLeastRepeat qs i j
least_repeat qs i j before s = record {
  repeats = s.holds;
  least_first = λ m n h r. before.none m n h r;
  least_second = s.least;
}

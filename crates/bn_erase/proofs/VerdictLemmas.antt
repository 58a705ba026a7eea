-- Lists of quintuples that meet the same demands of standard form get the same verdict.
use Rattle.std.specs.Prelude.{◌↔◌, ℕ, List}
use Rattle.bn_machine.specs.declared.quint.Quint.{Quint}
use Rattle.bn_machine.specs.Standard.{BeginsWell, EndsWell, HasLoneFinal, HasLoneStart, IsStandard, IsUnambiguous}
use Rattle.bn_machine.specs.Standard.{Repeats, UsesFinal, UsesStart}
use Rattle.bn_machine.specs.Verdict.{IsStandardRefusal}
use Rattle.bn_machine.specs.declared.why.Why.{Why}
use Rattle.bn_machine.specs.declared.why.Why.TheVariants.{Repeat, First, StartUsed, Last, FinalUsed, NoMemory}

-- each demand holds of both or of neither, and the same quintuples fail it
pub record AreAlike (qs rs : List Quint) : Type 0 where
  pub repeats : (i j : ℕ) → Repeats qs i j ↔ Repeats rs i j
  pub begins : BeginsWell qs ↔ BeginsWell rs
  pub starts : (i : ℕ) → UsesStart qs i ↔ UsesStart rs i
  pub ends : EndsWell qs ↔ EndsWell rs
  pub finals : (i : ℕ) → UsesFinal qs i ↔ UsesFinal rs i

alike_again : (qs rs : List Quint) → AreAlike qs rs → AreAlike rs qs
alike_again qs rs a = record {
  repeats = λ i j. ((a.repeats i j).1, (a.repeats i j).0);
  begins = (a.begins.1, a.begins.0);
  starts = λ i. ((a.starts i).1, (a.starts i).0);
  ends = (a.ends.1, a.ends.0);
  finals = λ i. ((a.finals i).1, (a.finals i).0);
}

module _ (qs rs : List Quint) (a : AreAlike qs rs) where
  unambiguous_too : IsUnambiguous qs → IsUnambiguous rs
  unambiguous_too h = record { none = λ i j k. h.none i j ((a.repeats i j).1 k) }

  lone_start_too : HasLoneStart qs → HasLoneStart rs
  lone_start_too h = record { none = λ i k. h.none i ((a.starts i).1 k) }

  lone_final_too : HasLoneFinal qs → HasLoneFinal rs
  lone_final_too h = record { none = λ i k. h.none i ((a.finals i).1 k) }

  standard_too : IsStandard qs → IsStandard rs
  standard_too h = record {
    unambiguous = unambiguous_too h.unambiguous;
    begins = a.begins.0 h.begins;
    lone_start = lone_start_too h.lone_start;
    ends = a.ends.0 h.ends;
    lone_final = lone_final_too h.lone_final;
  }

  refused_too : (why : Why) → IsStandardRefusal qs why → IsStandardRefusal rs why
  refused_too (Repeat i j) h = record {
    repeats = (a.repeats i j).0 h.repeats;
    least_first = λ m n low k. h.least_first m n low ((a.repeats m n).1 k);
    least_second = λ n low k. h.least_second n low ((a.repeats i n).1 k);
  }
  refused_too First h = (unambiguous_too h.0, λ k. h.1 (a.begins.1 k))
  refused_too (StartUsed i) h = (
    unambiguous_too h.0,
    a.begins.0 h.1,
    record { holds = (a.starts i).0 h.2.holds; least = λ m low k. h.2.least m low ((a.starts m).1 k) },
  )
  refused_too Last h = (unambiguous_too h.0, a.begins.0 h.1, lone_start_too h.2, λ k. h.3 (a.ends.1 k))
  refused_too (FinalUsed i) h = (
    unambiguous_too h.0,
    a.begins.0 h.1,
    lone_start_too h.2,
    a.ends.0 h.3,
    record { holds = (a.finals i).0 h.4.holds; least = λ m low k. h.4.least m low ((a.finals m).1 k) },
  )
  refused_too NoMemory h = tt

-- the verdict is the same
pub alike_standard : (qs rs : List Quint) → AreAlike qs rs → IsStandard qs ↔ IsStandard rs
alike_standard qs rs a = (standard_too qs rs a, standard_too rs qs (alike_again qs rs a))

pub alike_refused : (qs rs : List Quint) → AreAlike qs rs → (why : Why)
    → IsStandardRefusal qs why ↔ IsStandardRefusal rs why
alike_refused qs rs a why = (refused_too qs rs a why, refused_too rs qs (alike_again qs rs a) why)

-- The two least machines: they are in standard form, halt on the empty word, and the erasing machine comes to its end.
use Rattle.std.specs.Prelude.{◌≡◌, ℕ, zero, suc, ◌<◌, pos, [], Some}
use Rattle.std.proofs.Common.{refl, sym, ap, ◌∙◌, subst, arith, get_or, inl, inr, ◌⊎◌}
use Rattle.bn_machine.specs.Tape.{Tape, scanned, write, shift, blank_tape}
use Rattle.bn_machine.proofs.TapeLemmas.{write-scanned, cell-word}
use Rattle.bn_machine.specs.Window.{anywhere}
use Rattle.bn_machine.specs.Machine.{IsMachine, IsInRange, MachineRunsTo, start}
use Rattle.bn_lists.specs.Lists.{nth}
use Rattle.bn_machine.specs.Run.{IsOutput}
use Rattle.bn_machine.specs.declared.quint.Quint.{Quint}
use Rattle.bn_machine.specs.declared.quint.Shift.TheVariants.{Stay, Right}
use Rattle.bn_machine.specs.Standard.{IsStandard}
use Rattle.bn_bennett_laws.specs.Stages.{IsStandardMachine}
use Rattle.bn_bennett_laws.specs.Laws.{HaltsAfter, least}
use Rattle.bn_erase_laws.proofs.TheoremLemmas.{erases_forth}
use Rattle.bn_erase_laws.specs.ErasingLaws.{LeastErases}

abbrev one : Quint
one = record { state = 0; read = 0; write = 0; shift = Right; next = 1 }

abbrev two : Quint
two = record { state = 1; read = 0; write = 0; shift = Stay; next = 2 }

-- its two quintuples
at_place : (P : ℕ → Quint → Type 0) → P 1 one → P 2 two → (n : ℕ) (q : Quint) → nth least.quints n ≡ Some q → P n q
at_place P a b zero q e = absurd (cc)
at_place P a b (suc zero) q e = let same : one ≡ q = cc in subst (P 1) same a
at_place P a b (suc (suc zero)) q e = let same : two ≡ q = cc in subst (P 2) same b
at_place P a b (suc (suc (suc n))) q e = absurd (cc)

least_machine : IsMachine least
least_machine = record {
  some = omega arith;
  few = omega arith;
  in_range = λ k d low. by_place k d low;
}
  where
    by_place : (k : ℕ) (d : Quint) → k < 2 → IsInRange 3 1 (get_or least.quints k d)
    by_place zero d low = record { state = omega arith; read = omega arith; write = omega arith; next = omega arith }
    by_place (suc zero) d low = record {
      state = omega arith;
      read = omega arith;
      write = omega arith;
      next = omega arith;
    }
    by_place (suc (suc k)) d low = absurd (omega arith)

least_standard : IsStandard least.quints
least_standard = record {
  unambiguous = record {
    none = λ i j h. refute i j h.first h.second h.first_stands h.second_stands h.clashes.before h.clashes.state;
  };
  begins = record { quint = one; stands = refl; begins = record { reads = refl; writes = refl; shifts = refl } };
  lone_start = record {
    none = λ i h. at_place (λ n q. ((q.next ≡ 0) ⊎ ((1 < n) × (q.state ≡ 0))) → ⊥)
        (λ k. elim k [ inl e ↦ absurd (omega arith) | inr e ↦ let low : 1 < 1 = e.0 in absurd (omega arith) ])
        (λ k. elim k [ inl e ↦ absurd (omega arith) | inr e ↦ let zero_one : 1 ≡ 0 = e.1 in absurd (omega arith) ]) i
        h.quint h.stands h.names;
  };
  ends = record {
    quint = two;
    stands = refl;
    ends = record {
      reads = refl;
      writes = refl;
      shifts = refl;
      apart = λ e. absurd (omega arith);
    };
  };
  lone_final = record {
    none = λ i h. at_place (λ n q. ((q.state ≡ 2) ⊎ ((n < 2) × (q.next ≡ 2))) → ⊥)
        (λ k. elim k [ inl e ↦ absurd (omega arith) | inr e ↦ let same : 1 ≡ 2 = e.1 in absurd (omega arith) ])
        (λ k. elim k [ inl e ↦ absurd (omega arith) | inr e ↦ let low : 2 < 2 = e.0 in absurd (omega arith) ]) i h.quint
        h.stands h.names;
  };
}
  where
    refute : (i j : ℕ) (q r : Quint) → nth least.quints i ≡ Some q → nth least.quints j ≡ Some r → i < j
        → q.state ≡ r.state → ⊥
    refute i j q r e f low states =
        at_place (λ n s. n ≡ i → s ≡ q → ⊥)
        (λ ni sq. at_place (λ m t. m ≡ j → t ≡ r → ⊥) (λ mj tr. absurd (omega arith))
        (λ mj tr. let same : 0 ≡ 1 = ap (λ (x : Quint). x.state) sq ∙ states
        ∙ sym (ap (λ (x : Quint). x.state) tr) in absurd (omega arith)) j r f refl refl)
        (λ ni sq. at_place (λ m t. m ≡ j → t ≡ r → ⊥) (λ mj tr. absurd (omega arith)) (λ mj tr. absurd (omega arith)) j
        r f refl refl)
        i q e refl refl

-- the blank tape with its head at 1
abbrev moved_tape : Tape
moved_tape = shift (write blank_tape 0) Right

scans_blank : scanned moved_tape ≡ 0
scans_blank = ap (λ (t : Tape). scanned (shift t Right)) (write-scanned blank_tape 0 (cell-word [] (pos 0)))
    ∙ cell-word [] (pos 1)

first_step : MachineRunsTo anywhere least (start least []) (record { state = 1; tape = moved_tape })
first_step = (
  1,
  record {
    going = λ e. absurd (omega arith);
    quint = one;
    match = record {
      stands = refl;
      holds = record { from = refl; reads = cell-word [] (pos 0) };
      first = λ m r low e h.
          at_place (λ n q. n < 1 → ⊥) (λ k. absurd (omega arith)) (λ k. absurd (omega arith)) m r e low;
    };
    applies = record { from = refl; reads = cell-word [] (pos 0); writes = refl; to = refl };
    stays = tt;
  },
)

second_step : MachineRunsTo anywhere least (record { state = 1; tape = moved_tape })
    (record { state = 2; tape = shift (write moved_tape 0) Stay })
second_step = (
  2,
  record {
    going = λ e. absurd (omega arith);
    quint = two;
    match = record {
      stands = refl;
      holds = record { from = refl; reads = scans_blank };
      first = λ m r low e h. at_place
          (λ n q. n < 2 → 1 ≡ q.state → ⊥) (λ k same. absurd (omega arith)) (λ k same. absurd (omega arith)) m r e low
          h.from;
    };
    applies = record { from = refl; reads = scans_blank; writes = refl; to = refl };
    stays = tt;
  },
)

last_tape : shift (write moved_tape 0) Stay ≡ shift blank_tape Right
last_tape = ap (λ (t : Tape). shift t Stay) (write-scanned moved_tape 0 scans_blank)
    ∙ ap (λ (t : Tape). shift t Right) (write-scanned blank_tape 0 (cell-word [] (pos 0)))

no_output : IsOutput (shift blank_tape Right) []
no_output = record {
  letters = λ k low. absurd (omega arith);
  spelled = λ k low. absurd (omega arith);
  ended = cell-word [] (pos 2);
}

least_halts : HaltsAfter least [] 2 []
least_halts = record {
  moment = record { state = 2; tape = shift (write moved_tape 0) Stay };
  run = (
    record { state = 1; tape = moved_tape },
    first_step,
    (record { state = 2; tape = shift (write moved_tape 0) Stay }, second_step, refl),
  );
  final = refl;
  output = subst (λ t. IsOutput t []) (sym last_tape) no_output;
}

pub least_erases : LeastErases
least_erases =
    let standard : IsStandardMachine least = record { machine = least_machine; standard = least_standard } in (
      standard,
      least_halts,
      erases_forth least least standard standard [] refl (λ k d low. absurd (omega arith)) 2 2 []
          least_halts least_halts,
    )

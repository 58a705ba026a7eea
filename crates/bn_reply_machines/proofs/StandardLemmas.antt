-- `standard` has one answer to all bytes.
use Rattle.std.specs.Prelude.{◌≡◌, ◌≢◌, ℕ, zero, suc, ◌+◌, ◌<◌, ◌≤◌, List, [], length, ◌⊎◌}
use Rattle.std.proofs.Common.{refl, sym, subst, ap, ◌∙◌, arith, inl, inr, get_or}
use Rattle.std.proofs.lemmas.Bool.{cases_lt}
use Rattle.std.proofs.lemmas.Bool.Decides.{eqb_tells}
use Rattle.bn_circuits.specs.declared.place.Place.{Place}
use Rattle.bn_machine.specs.Machine.{Program, IsMachine, final_of}
use Rattle.bn_lists.proofs.ListLemmas.{nth-get_or}
use Rattle.bn_machine.specs.declared.quint.Quint.{Quint}
use Rattle.bn_machine.specs.declared.quint.Shift.TheVariants.{Stay}
use Rattle.bn_table.specs.Reading.{Reads}
use Rattle.bn_table.specs.Rows.{IsTableOf, Named}
use Rattle.bn_table.proofs.MachineLemmas.{table_machine}
use Rattle.bn_machine.specs.Search.{NoneBefore}
use Rattle.bn_machine.proofs.SearchLemmas.{none_before_more, none_before_one}
use Rattle.bn_machine.specs.Standard.{IsUnambiguous}
use Rattle.bn_machine.specs.Verdict.{IsLeastRepeat, IsStandardRefusal}
use Rattle.bn_machine.specs.declared.why.Why.{Why}
use Rattle.bn_machine.specs.declared.why.Why.TheVariants as whys
use Rattle.bn_standardise.specs.Standardised.{HasNoHalting, IsLoose}
use Rattle.bn_standardise.specs.Refusals.{IsAccepted, IsLeastHalting, IsLooseRefusal, count_of}
use Rattle.bn_standardise.specs.Printed.{standard_lines}
use Rattle.bn_standardise.specs.declared.refusal.LooseRefusal.{LooseRefusal}
use Rattle.bn_standardise.specs.declared.refusal.LooseRefusal.TheVariants as refusals
use Rattle.bn_standardise.proofs.AcceptLemmas.{Leaves, least_halting, no_halting}
use Rattle.bn_standardise.proofs.AcceptedLemmas.{refusals_once}
use Rattle.bn_reply.specs.Answering.{HasAnswer, IsOneAnswer, IsSettled}
use Rattle.bn_reply.specs.Codes.{IsReplyStatus}
use Rattle.bn_reply.specs.declared.status.Status.{Status}
use Rattle.bn_reply.proofs.SettledLemmas.{done_settled, table_settled}
use Rattle.bn_reply.proofs.StandardOrNot.{standard_or_not}
use Rattle.bn_reply_machines.specs.StandardReply.{StandardIsSettled, TellsStandard, accepted, refused, refusal_line}
use Rattle.bn_reply_machines.specs.StandardReply.{refusal_status}

-- ---- a machine is accepted, or there is a refusal

repeats_or_not : (qs : List Quint) → IsUnambiguous qs ⊎ ((i : ℕ) × (j : ℕ) × IsLeastRepeat qs i j)
repeats_or_not qs = elim (standard_or_not qs) [
  | inl standard ↦ inl standard.unambiguous
  | inr fails ↦ by_why fails.why fails.first fails.said
]
  where
    by_why : (why : Why) → IsStandardRefusal qs why → why ≢ whys.NoMemory
        → IsUnambiguous qs ⊎ ((i : ℕ) × (j : ℕ) × IsLeastRepeat qs i j)
    by_why (whys.Repeat i j) h said = inr (i, j, h)
    by_why whys.First h said = inl h.0
    by_why (whys.StartUsed i) h said = inl h.0
    by_why whys.Last h said = inl h.0
    by_why (whys.FinalUsed i) h said = inl h.0
    by_why whys.NoMemory h said = absurd (said refl)

halting_from : (qs : List Quint) (fuel n : ℕ) → n + fuel ≡ length qs → NoneBefore (Leaves qs) qs (suc n)
    → HasNoHalting qs ⊎ ((i : ℕ) × IsLeastHalting qs i)
halting_from qs zero n sum before = inl (no_halting qs (suc n) (omega arith) before)
halting_from qs (suc fuel) n sum before =
    let blank : Quint = record { state = 0; read = 0; write = 0; shift = Stay; next = 0 } in
    let inside : n < length qs = omega arith in
    let next : suc n + fuel ≡ length qs = omega arith in
    let here = nth-get_or qs n blank inside in
    elim (eqb_tells (get_or qs n blank).state (final_of qs)) [
      | inl leaves ↦ inr (suc n, least_halting qs (suc n) (get_or qs n blank) before here leaves.1)
      | inr other ↦ halting_from qs fuel (suc n) next (none_before_more (Leaves qs) qs (suc n) (get_or qs n blank)
          before here other.1)
    ]

halting_or_not : (qs : List Quint) → HasNoHalting qs ⊎ ((i : ℕ) × IsLeastHalting qs i)
halting_or_not qs = halting_from qs (length qs) 0 (omega arith) (none_before_one (Leaves qs) qs)

-- a refusal other than want of memory
record IsRefused (p : Program) : Type 0 where
  refusal : LooseRefusal
  fits : IsLooseRefusal p refusal
  said : refusal ≢ refusals.NoMemory

accepted_or_refused : (p : Program) → IsMachine p → IsAccepted p ⊎ IsRefused p
accepted_or_refused p machine = by_tests (repeats_or_not p.quints) (halting_or_not p.quints)
    (cases_lt 4000 (count_of p))
  where
    by_tests : IsUnambiguous p.quints ⊎ ((i : ℕ) × (j : ℕ) × IsLeastRepeat p.quints i j)
        → HasNoHalting p.quints ⊎ ((i : ℕ) × IsLeastHalting p.quints i) →
        (4000 < count_of p) ⊎ (count_of p ≤ 4000) → IsAccepted p ⊎ IsRefused p
    by_tests (inr r) halting count = inr (record {
      refusal = refusals.Repeat r.0 r.1;
      fits = r.2;
      said = λ e. absurd (cc);
    })
    by_tests (inl apart) (inr h) count = inr (record {
      refusal = refusals.Halting h.0;
      fits = (apart, h.1);
      said = λ e. absurd (cc);
    })
    by_tests (inl apart) (inl halts) (inl many) =
        let loose : IsLoose p = record { machine = machine; unambiguous = apart; halts = halts } in
        inr (record { refusal = refusals.Many (count_of p); fits = (loose, refl, many); said = λ e. absurd (cc) })
    by_tests (inl apart) (inl halts) (inr few) = inl (record {
      loose = record { machine = machine; unambiguous = apart; halts = halts };
      few = few;
    })

-- ---- one answer

status_of_reply : (refusal : LooseRefusal) → IsReplyStatus (refusal_status refusal)
status_of_reply (refusals.Repeat i j) = tt
status_of_reply (refusals.Halting i) = tt
status_of_reply (refusals.Many count) = tt
status_of_reply refusals.NoMemory = tt

module _ (t : Named) where
  tells_some : IsAccepted t.machine ⊎ IsRefused t.machine → HasAnswer (TellsStandard t)
  tells_some (inl h) = let some = (done_settled (standard_lines t)).some in (some.0, some.1, some.2, accepted h some.3)
  tells_some (inr r) = (
    refusal_status r.refusal,
    refusal_line r.refusal,
    [],
    refused r.refusal r.fits r.said refl refl refl,
  )

  tells_one : IsOneAnswer (TellsStandard t)
  tells_one s u a b x y (refused r h said status text told) (refused q k also f g m) =
      let same : r ≡ q = refusals_once.0 t.machine r q said also h k in
      record {
        statuses = status ∙ ap refusal_status same ∙ sym f;
        texts = text ∙ ap refusal_line same ∙ sym g;
        places = told ∙ sym m;
      }
  tells_one s u a b x y (refused r h said status text told) (accepted k done) =
      absurd (said (refusals_once.1 t.machine r k h))
  tells_one s u a b x y (accepted h done) (refused q k also f g m) = absurd (also (refusals_once.1 t.machine q h k))
  tells_one s u a b x y (accepted h done) (accepted k also) =
      (done_settled (standard_lines t)).one s u a b x y done also

  tells_status : (s : Status) (text : List ℕ) (told : List Place) → TellsStandard t s text told → IsReplyStatus s
  tells_status s text told (refused r h said status text_is told_is) =
      subst IsReplyStatus (sym status) (status_of_reply r)
  tells_status s text told (accepted h done) = (done_settled (standard_lines t)).status s text told done

  tells_settled : IsMachine t.machine → IsSettled (TellsStandard t)
  tells_settled machine = record {
    some = tells_some (accepted_or_refused t.machine machine);
    one = tells_one;
    status = tells_status;
  }

-- a table that bytes read as has a machine
read_machine : (bytes : List ℕ) (t : Named) → Reads bytes t → IsMachine t.machine
read_machine bytes t h =
    let P : List (List (List ℕ)) → Type 0 = λ entries. IsTableOf entries t in
    table_machine t (subst P (sym h.spelled.rows) h)

pub standard_settled : StandardIsSettled
standard_settled bytes = table_settled TellsStandard bytes (λ t reads. tells_settled t (read_machine bytes t reads))

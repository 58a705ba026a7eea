-- The machine of k increments, for k from 1 to 4: it is a machine, in standard form, as tables have it.
use Rattle.std.specs.Prelude.{Some, length, All, nat_eq}
use Rattle.std.specs.List.{list_all}
use Rattle.std.proofs.Common.{◌≡◌, ◌≢◌, ◌∙◌, ◌<◌, ◌+◌, ◌*◌, ◌^◌, ℕ, zero, suc, List, Bool, true, ◌&&◌, ltb, get_or, sym}
use Rattle.std.proofs.Common.{ap, subst, arith, refl}
use Rattle.std.proofs.lemmas.Bool.{and_parts, ltb-true}
use Rattle.std.proofs.lemmas.Option.{slice_get_within, get_or_from_slice_get}
use Rattle.std.proofs.lemmas.List.Sums.{AllPass-from_list_all}
use Rattle.bn_csv.specs.Numbering.{firsts_by, numbers_from}
use Rattle.bn_machine.specs.Machine.{final_of, IsInRange, IsFirstFault}
use Rattle.bn_lists.specs.Lists.{nth}
use Rattle.bn_machine.specs.declared.quint.Quint.{Quint}
use Rattle.bn_machine.specs.declared.quint.Shift.TheVariants.{Stay, Right}
use Rattle.bn_machine.specs.Standard.{IsStandard}
use Rattle.bn_table.specs.Rows.{FitsTable, states_in}
use Rattle.bn_gen.specs.Increments.{IsRoundCount, incrementer, quints_of, increment_rule, left_going, final}
use Rattle.bn_gen.proofs.Cases.{by_cases}
use Rattle.bn_gen.proofs.FormLemmas.{passes, tells_number, avoids_start, avoids_final, apart, lone_start, lone_final}

-- ---- it is a machine

pub counted : (k : ℕ) → IsRoundCount k → length (quints_of k) ≡ 9 * k + 1
counted = by_cases (λ k. length (quints_of k) ≡ 9 * k + 1) refl refl refl refl

abbrev ranges : ℕ → Quint → Bool
ranges states q = (ltb q.state states && ltb q.read 3) && (ltb q.write 3 && ltb q.next states)

in_range_by : (states : ℕ) (q : Quint) → ranges states q ≡ true → IsInRange states 3 q
in_range_by states q passed =
    let front = and_parts _ _ (and_parts _ _ passed).0 in
    let back = and_parts _ _ (and_parts _ _ passed).1 in
    record {
      state = ltb-true _ _ front.0;
      read = ltb-true _ _ front.1;
      write = ltb-true _ _ back.0;
      next = ltb-true _ _ back.1;
    }

all_range : (k : ℕ) → IsRoundCount k → list_all (ranges (3 * k + 2)) (quints_of k) ≡ true
all_range = by_cases (λ k. list_all (ranges (3 * k + 2)) (quints_of k) ≡ true) refl refl refl refl

pub in_range : (k : ℕ) → IsRoundCount k → All (IsInRange (3 * k + 2) 3) (quints_of k)
in_range k h = λ i d inside.
    in_range_by (3 * k + 2) (get_or (quints_of k) i d) (AllPass-from_list_all (ranges (3 * k + 2)) (quints_of k)
    (all_range k h) i d inside)

pub few : (k : ℕ) (quints : List Quint) → IsRoundCount k → quints ≡ quints_of k → length quints < 2 ^ 32
few k quints h same = let count : length quints ≡ 9 * k + 1 =
    ap length same ∙ counted k h in omega (arith, count, h.few)

-- no quintuple is out of range
pub no_fault : (k : ℕ) (quints : List Quint) (i : ℕ) → IsRoundCount k → quints ≡ quints_of k
    → IsFirstFault (3 * k + 2) 3 quints i → ⊥
no_fault k quints zero h same fault = absurd (cc)
no_fault k quints (suc i) h same fault =
    let q = fault.faulty.0 in
    let inside : i < length quints = slice_get_within quints i q fault.faulty.1 in
    let all = subst (All (IsInRange (3 * k + 2) 3)) (sym same) (in_range k h) in
    fault.faulty.2 (subst (IsInRange (3 * k + 2) 3) (get_or_from_slice_get quints i q q fault.faulty.1)
    (all i q inside))

-- ---- it is in standard form

-- the number of the quintuple with this state and this scanned symbol
abbrev place : ℕ → ℕ → ℕ
place zero read = 1
place (suc zero) zero = 4
place (suc zero) (suc zero) = 2
place (suc zero) (suc (suc read)) = 3
place (suc (suc zero)) zero = 7
place (suc (suc zero)) (suc zero) = 6
place (suc (suc zero)) (suc (suc read)) = 5
place (suc (suc (suc zero))) zero = 10
place (suc (suc (suc zero))) (suc zero) = 8
place (suc (suc (suc zero))) (suc (suc read)) = 9
place (suc (suc (suc (suc state)))) read = 9 + place (suc state) read

all_apart : (k : ℕ) → IsRoundCount k → passes (tells_number place) 1 (quints_of k) ≡ true
all_apart = by_cases (λ k. passes (tells_number place) 1 (quints_of k) ≡ true) refl refl refl refl

all_avoid_start : (k : ℕ) → IsRoundCount k → passes avoids_start 1 (quints_of k) ≡ true
all_avoid_start = by_cases (λ k. passes avoids_start 1 (quints_of k) ≡ true) refl refl refl refl

all_avoid_final : (k : ℕ) → IsRoundCount k → passes (avoids_final (final k) (9 * k + 1)) 1 (quints_of k) ≡ true
all_avoid_final = by_cases (λ k. passes (avoids_final (final k) (9 * k + 1)) 1 (quints_of k) ≡ true) refl refl refl refl

ends_final : (k : ℕ) → IsRoundCount k → final_of (quints_of k) ≡ final k
ends_final = by_cases (λ k. final_of (quints_of k) ≡ final k) refl refl refl refl

last_stands : (k : ℕ) → IsRoundCount k → nth (quints_of k) (length (quints_of k))
    ≡ Some (increment_rule (left_going k) 0 0 Stay (final k))
last_stands = by_cases (λ k. nth (quints_of k) (length (quints_of k))
    ≡ Some (increment_rule (left_going k) 0 0 Stay (final k))) refl refl refl refl

not_start : (k : ℕ) → IsRoundCount k → left_going k ≢ 0
not_start k h e = omega (arith, h.some, e)

pub standard : (k : ℕ) → IsRoundCount k → IsStandard (quints_of k)
standard k h = record {
  unambiguous = apart place (quints_of k) (all_apart k h);
  begins = record {
    quint = increment_rule 0 0 0 Right 1;
    stands = refl;
    begins = record { reads = refl; writes = refl; shifts = refl };
  };
  lone_start = lone_start (quints_of k) refl (all_avoid_start k h);
  ends = record {
    quint = increment_rule (left_going k) 0 0 Stay (final k);
    stands = last_stands k h;
    ends = record { reads = refl; writes = refl; shifts = refl; apart = not_start k h };
  };
  lone_final = lone_final (quints_of k) (final k) (9 * k + 1) (ends_final k h) (counted k h) (all_avoid_final k h);
}

-- ---- it is as tables have it

numbered : (k : ℕ) → IsRoundCount k → firsts_by nat_eq (states_in (quints_of k)) ≡ numbers_from 0 (3 * k + 2)
unfolding firsts_by numbers_from
numbered = by_cases (λ k. firsts_by nat_eq (states_in (quints_of k)) ≡ numbers_from 0 (3 * k + 2)) refl refl refl refl

pub fits : (k : ℕ) → IsRoundCount k → FitsTable (incrementer k)
fits k h = record {
  numbered = numbered k h;
  quints = omega (arith, counted k h, h.few);
  states = omega (arith, h.few);
  symbols = omega arith;
}

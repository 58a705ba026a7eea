-- Quintuples are in standard form, or there is a first demand that they don't meet.
use Rattle.std.proofs.Common.{◌≡◌, ◌≢◌, ℕ, zero, suc, ◌+◌, ◌<◌, ◌∷◌, List, [], length, get_or, ◌⊎◌, inl, inr, refl}
use Rattle.std.proofs.Common.{subst, arith, Some}
use Rattle.std.proofs.lemmas.Bool.{cases_lt}
use Rattle.std.proofs.lemmas.Bool.Decides.{eqb_tells}
use Rattle.bn_machine.specs.Machine.{start_of, final_of}
use Rattle.bn_lists.specs.Lists.{nth}
use Rattle.bn_lists.proofs.ListLemmas.{nth-get_or}
use Rattle.bn_machine.specs.declared.quint.Quint.{Quint}
use Rattle.bn_machine.specs.declared.quint.Shift.{Shift}
use Rattle.bn_machine.specs.declared.quint.Shift.TheVariants.{Left, Stay, Right}
use Rattle.bn_machine.specs.Standard.{BeginsWell, Clashes, EndsWell, HasLoneFinal, HasLoneStart, IsBeginning, IsEnding}
use Rattle.bn_machine.specs.Standard.{IsStandard, IsUnambiguous, NamesFinal, NamesStart}
use Rattle.bn_machine.specs.Verdict.{IsLeastFinal, IsLeastRepeat, IsLeastStart, IsStandardRefusal}
use Rattle.bn_machine.specs.Search.{NoneBefore}
use Rattle.bn_machine.proofs.SearchLemmas.{NoneRepeated, beginning_of, begins_well, ending_of, ends_well, least_final}
use Rattle.bn_machine.proofs.SearchLemmas.{least_repeat, least_second, least_start, lone_final, lone_start, no_repeat}
use Rattle.bn_machine.proofs.SearchLemmas.{none_before_more, none_before_one, none_repeated_more, none_repeated_one}
use Rattle.bn_machine.proofs.SearchLemmas.{unambiguous}
use Rattle.bn_machine.specs.declared.why.Why.{Why}
use Rattle.bn_machine.specs.declared.why.Why.TheVariants as whys

-- ---- tests

same : (a b : ℕ) → (a ≡ b) ⊎ (a ≢ b)
same a b = elim (eqb_tells a b) [ inl h ↦ inl h.1 | inr h ↦ inr h.1 ]

same_shift : (s r : Shift) → (s ≡ r) ⊎ (s ≢ r)
same_shift Left Left = inl refl
same_shift Left Stay = inr (λ e. cc e)
same_shift Left Right = inr (λ e. cc e)
same_shift Stay Left = inr (λ e. cc e)
same_shift Stay Stay = inl refl
same_shift Stay Right = inr (λ e. cc e)
same_shift Right Left = inr (λ e. cc e)
same_shift Right Stay = inr (λ e. cc e)
same_shift Right Right = inl refl

below : (a b : ℕ) → (a < b) ⊎ (a < b → ⊥)
below a b = elim (cases_lt a b) [ inl h ↦ inl h | inr h ↦ inr (λ k. absurd (omega arith)) ]

clashes : (i : ℕ) (first : Quint) (j : ℕ) (second : Quint) → Clashes i first j second ⊎ (Clashes i first j second → ⊥)
clashes i first j second = by_parts (below i j) (same first.state second.state) (same first.read second.read)
  where
    by_parts : (i < j) ⊎ (i < j → ⊥) → (first.state ≡ second.state) ⊎ (first.state ≢ second.state)
        → (first.read ≡ second.read) ⊎ (first.read ≢ second.read) →
        Clashes i first j second ⊎ (Clashes i first j second → ⊥)
    by_parts (inr never) s r = inr (λ c. never c.before)
    by_parts (inl b) (inr never) r = inr (λ c. never c.state)
    by_parts (inl b) (inl s) (inr never) = inr (λ c. never c.read)
    by_parts (inl b) (inl s) (inl r) = inl (record { before = b; state = s; read = r })

beginning : (q : Quint) → IsBeginning q ⊎ (IsBeginning q → ⊥)
beginning q = by_parts (same q.read 0) (same q.write 0) (same_shift q.shift Right)
  where
    by_parts : (q.read ≡ 0) ⊎ (q.read ≢ 0) → (q.write ≡ 0) ⊎ (q.write ≢ 0) → (q.shift ≡ Right) ⊎ (q.shift ≢ Right)
        → IsBeginning q ⊎ (IsBeginning q → ⊥)
    by_parts (inr never) w s = inr (λ b. never b.reads)
    by_parts (inl r) (inr never) s = inr (λ b. never b.writes)
    by_parts (inl r) (inl w) (inr never) = inr (λ b. never b.shifts)
    by_parts (inl r) (inl w) (inl s) = inl (record { reads = r; writes = w; shifts = s })

ending : (start : ℕ) (q : Quint) → IsEnding start q ⊎ (IsEnding start q → ⊥)
ending start q = by_parts (same q.read 0) (same q.write 0) (same_shift q.shift Stay) (same q.state start)
  where
    by_parts : (q.read ≡ 0) ⊎ (q.read ≢ 0) → (q.write ≡ 0) ⊎ (q.write ≢ 0) → (q.shift ≡ Stay) ⊎ (q.shift ≢ Stay)
        → (q.state ≡ start) ⊎ (q.state ≢ start) →
        IsEnding start q ⊎ (IsEnding start q → ⊥)
    by_parts (inr never) w s a = inr (λ b. never b.reads)
    by_parts (inl r) (inr never) s a = inr (λ b. never b.writes)
    by_parts (inl r) (inl w) (inr never) a = inr (λ b. never b.shifts)
    by_parts (inl r) (inl w) (inl s) (inl e) = inr (λ b. b.apart e)
    by_parts (inl r) (inl w) (inl s) (inr a) = inl (record { reads = r; writes = w; shifts = s; apart = a })

-- one state, or another one where the place is right
either : (P Q R : Type 0) → P ⊎ (P → ⊥) → Q ⊎ (Q → ⊥) → R ⊎ (R → ⊥) → (P ⊎ (Q × R)) ⊎ (P ⊎ (Q × R) → ⊥)
either P Q R (inl p) q r = inl (inl p)
either P Q R (inr never) (inr not) r = inr (λ h. elim h [ inl p ↦ never p | inr b ↦ not b.0 ])
either P Q R (inr never) (inl q) (inr not) = inr (λ h. elim h [ inl p ↦ never p | inr b ↦ not b.1 ])
either P Q R (inr never) (inl q) (inl r) = inl (inr (q, r))

names_start : (start i : ℕ) (q : Quint) → NamesStart start i q ⊎ (NamesStart start i q → ⊥)
names_start start i q = either (q.next ≡ start) (1 < i) (q.state ≡ start) (same q.next start) (below 1 i)
    (same q.state start)

names_final : (final n i : ℕ) (q : Quint) → NamesFinal final n i q ⊎ (NamesFinal final n i q → ⊥)
names_final final n i q = either (q.state ≡ final) (i < n) (q.next ≡ final) (same q.state final) (below i n)
    (same q.next final)

-- ---- searches

-- a quintuple to name where there is none
nought : Quint
nought = record { state = 0; read = 0; write = 0; shift = Stay; next = 0 }

-- the first quintuple with a property
record First (P : ℕ → Quint → Type 0) (qs : List Quint) : Type 0 where
  number : ℕ
  quint : Quint
  before : NoneBefore P qs number
  stands : nth qs number ≡ Some quint
  holds : P number quint

search_from : (P : ℕ → Quint → Type 0) → ((i : ℕ) (q : Quint) → P i q ⊎ (P i q → ⊥)) → (qs : List Quint) (fuel n : ℕ)
    → n + fuel ≡ length qs →
    NoneBefore P qs (suc n) → First P qs ⊎ NoneBefore P qs (suc (length qs))
search_from P test qs zero n sum before = let all : suc n ≡ suc (length qs) =
    omega arith in inr (subst (NoneBefore P qs) all before)
search_from P test qs (suc fuel) n sum before =
    let inside : n < length qs = omega arith in
    let next : suc n + fuel ≡ length qs = omega arith in
    let here = nth-get_or qs n nought inside in
    elim (test (suc n) (get_or qs n nought)) [
      | inl holds ↦ inl (record {
        number = suc n;
        quint = get_or qs n nought;
        before = before;
        stands = here;
        holds = holds;
      })
      | inr fails ↦ search_from P test qs fuel (suc n) next (none_before_more P qs (suc n) (get_or qs n nought) before
          here fails)
    ]

first_or_none : (P : ℕ → Quint → Type 0) → ((i : ℕ) (q : Quint) → P i q ⊎ (P i q → ⊥)) → (qs : List Quint)
    → First P qs ⊎ NoneBefore P qs (suc (length qs))
first_or_none P test qs = search_from P test qs (length qs) 0 (omega arith) (none_before_one P qs)

-- ---- the demands

repeats_from : (qs : List Quint) (fuel n : ℕ) → n + fuel ≡ length qs → NoneRepeated qs (suc n)
    → IsUnambiguous qs ⊎ ((i : ℕ) × (j : ℕ) × IsLeastRepeat qs i j)
repeats_from qs zero n sum before = inl (unambiguous qs (suc n) (omega arith) before)
repeats_from qs (suc fuel) n sum before =
    let inside : n < length qs = omega arith in
    let next : suc n + fuel ≡ length qs = omega arith in
    let here = nth-get_or qs n nought inside in
    elim (first_or_none (Clashes (suc n) (get_or qs n nought)) (λ j q. clashes (suc n) (get_or qs n nought) j q) qs) [
      | inl f ↦ inr (
        suc n,
        f.number,
        least_repeat qs (suc n) f.number before
            (least_second qs (suc n) (get_or qs n nought) f.number f.quint here f.before f.stands f.holds),
      )
      | inr none ↦ repeats_from qs fuel (suc n) next (none_repeated_more qs (suc n) before
          (no_repeat qs (suc n) (get_or qs n nought) (suc (length qs)) here (omega arith) none))
    ]

repeats : (qs : List Quint) → IsUnambiguous qs ⊎ ((i : ℕ) × (j : ℕ) × IsLeastRepeat qs i j)
repeats qs = repeats_from qs (length qs) 0 (omega arith) (none_repeated_one qs)

begins : (qs : List Quint) → BeginsWell qs ⊎ (BeginsWell qs → ⊥)
begins [] = inr (λ b. let e = b.stands in absurd (cc))
begins (q ∷ qs) = elim (beginning q) [
  | inl h ↦ inl (begins_well (q ∷ qs) q refl h)
  | inr never ↦ inr (λ b. never (beginning_of (q ∷ qs) q refl b))
]

starts : (qs : List Quint) → HasLoneStart qs ⊎ ((i : ℕ) × IsLeastStart qs i)
starts qs = elim (first_or_none (NamesStart (start_of qs)) (names_start (start_of qs)) qs) [
  | inl f ↦ inr (f.number, least_start qs f.number f.quint f.before f.stands f.holds)
  | inr none ↦ inl (lone_start qs (suc (length qs)) (omega arith) none)
]

ends : (qs : List Quint) → EndsWell qs ⊎ (EndsWell qs → ⊥)
ends [] = inr (λ b. let e = b.stands in absurd (cc))
ends (q ∷ qs) =
    let inside : length qs < length (q ∷ qs) = omega arith in
    let here : nth (q ∷ qs) (length (q ∷ qs)) ≡ Some (get_or (q ∷ qs) (length qs) nought) =
    nth-get_or (q ∷ qs) (length qs) nought inside in
    elim (ending (start_of (q ∷ qs)) (get_or (q ∷ qs) (length qs) nought)) [
      | inl h ↦ inl (ends_well (q ∷ qs) (get_or (q ∷ qs) (length qs) nought) here h)
      | inr never ↦ inr (λ b. never (ending_of (q ∷ qs) (get_or (q ∷ qs) (length qs) nought) here b))
    ]

finals : (qs : List Quint) → HasLoneFinal qs ⊎ ((i : ℕ) × IsLeastFinal qs i)
finals qs = elim (first_or_none (NamesFinal (final_of qs) (length qs)) (names_final (final_of qs) (length qs)) qs) [
  | inl f ↦ inr (f.number, least_final qs f.number f.quint f.before f.stands f.holds)
  | inr none ↦ inl (lone_final qs (suc (length qs)) (omega arith) none)
]

-- a demand that isn't met
pub record Fails (qs : List Quint) : Type 0 where
  pub why : Why
  pub first : IsStandardRefusal qs why
  pub said : why ≢ whys.NoMemory

pub standard_or_not : (qs : List Quint) → IsStandard qs ⊎ Fails qs
standard_or_not qs = by_parts (repeats qs) (begins qs) (starts qs) (ends qs) (finals qs)
  where
    by_parts : IsUnambiguous qs ⊎ ((i : ℕ) × (j : ℕ) × IsLeastRepeat qs i j) → BeginsWell qs ⊎ (BeginsWell qs → ⊥) →
        HasLoneStart qs ⊎ ((i : ℕ) × IsLeastStart qs i) → EndsWell qs ⊎ (EndsWell qs → ⊥)
        → HasLoneFinal qs ⊎ ((i : ℕ) × IsLeastFinal qs i) →
        IsStandard qs ⊎ Fails qs
    by_parts (inr r) b s e f = inr (record { why = whys.Repeat r.0 r.1; first = r.2; said = λ h. cc h })
    by_parts (inl u) (inr never) s e f = inr (record { why = whys.First; first = (u, never); said = λ h. cc h })
    by_parts (inl u) (inl b) (inr s) e f = inr (record {
      why = whys.StartUsed s.0;
      first = (u, b, s.1);
      said = λ h. cc h;
    })
    by_parts (inl u) (inl b) (inl s) (inr never) f = inr (record
        { why = whys.Last; first = (u, b, s, never); said = λ h. cc h })
    by_parts (inl u) (inl b) (inl s) (inl e) (inr f) = inr (record
        { why = whys.FinalUsed f.0; first = (u, b, s, e, f.1); said = λ h. cc h })
    by_parts (inl u) (inl b) (inl s) (inl e) (inl f) = inl (record
        { unambiguous = u; begins = b; lone_start = s; ends = e; lone_final = f })

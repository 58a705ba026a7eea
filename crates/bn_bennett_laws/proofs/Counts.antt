-- The length of Bennett's list, its ends, its symbols, and the names that stand in it.
use Rattle.std.specs.Prelude.{◌≡◌, ◌≢◌, ℕ, zero, suc, ◌+◌, ◌-◌, ◌*◌, ◌<◌, ◌≤◌, ⊤, List, [], ◌∷◌, ◌++◌, length, map}
use Rattle.std.specs.Prelude.{reverse, Some}
use Rattle.std.specs.List.{flat_map, enumerate_from, range_with_len}
use Rattle.std.proofs.Common.{refl, sym, ap, ◌∙◌, subst, arith, inl, inr, length-append, append_assoc, get_or}
use Rattle.std.proofs.lemmas.List.{length-map, length-reverse, reverse-append}
use Rattle.std.proofs.lemmas.List.FromFn.{length-range_with_len, length-enumerate_from}
use Rattle.std.proofs.lemmas.Grind.{flat_map-append}
use Rattle.bn_machine.specs.Machine.{Program, program_of, final_of, IsMachine}
use Rattle.bn_lists.specs.Lists.{nth, IsIn}
use Rattle.bn_machine.proofs.MachineLemmas.{final_of-last}
use Rattle.bn_lists.proofs.ListLemmas.{nth_within, nth-get_or}
use Rattle.bn_machine.specs.declared.quint.Quint.{Quint}
use Rattle.bn_quad.specs.Quadruples.{Rule, deeds_of, AreDeedsInRange}
use Rattle.bn_lists.specs.Lists.{IsIn}
use Rattle.bn_bennett_laws.proofs.MembershipLemmas.{in_head, in_tail, in_left, in_right, in_append, in_flat_map}
use Rattle.bn_bennett_laws.proofs.MembershipLemmas.{from_flat_map, each_of_two}
use Rattle.bn_bennett_laws.specs.List.{bennett, initial_name, final_name, symbols_of, writes_ahead, shifts_ahead}
use Rattle.bn_bennett_laws.specs.List.{begins_copy, goes_right, copies_letter, turns_left, goes_left, passes_letter}
use Rattle.bn_bennett_laws.specs.List.{ends_copy, shifts_back, writes_back, numbered_quints, nonblank_symbols}
use Rattle.bn_bennett_laws.specs.List.{retrace_pair, compute_rules, copy_rules, retrace_rules}
use Rattle.bn_bennett_laws.proofs.ListLemmas.{each_rule, has_writes_ahead, has_shifts_ahead, has_goes_right}
use Rattle.bn_bennett_laws.proofs.ListLemmas.{has_goes_left, has_shifts_back, has_writes_back, in_range, from_range}
use Rattle.bn_bennett_laws.specs.Names.{states_in, Mentions, IsNameOf}
use Rattle.bn_bennett_laws.proofs.RenamedLemmas.{from_in, to_in}
use Rattle.bn_bennett_laws.specs.Laws.{ListHasEnds, ListHasLength, ListIsInRange, ListHasNames, ListCountsNames}
use Rattle.bn_bennett_laws.proofs.Halted.{quint_in_range, some_symbol}
use Rattle.bn_bennett_laws.proofs.RepeatLemmas.{apart_by_places, same_long}
use Rattle.bn_bennett_laws.proofs.Apart.{Apart, apart_append, apart_two, apart_pairs, length-pairs, range_apart}
use Rattle.bn_bennett_laws.specs.declared.name.Name.{Name}
use Rattle.bn_bennett_laws.specs.declared.name.Name.TheVariants.{Compute, ComputeWithin, GoRight, CopyLetter, GoLeft}
use Rattle.bn_bennett_laws.specs.declared.name.Name.TheVariants.{PassLetter, Retrace, RetraceWithin}

-- ---- length

length-letters : (kind : ℕ → Rule Name) (z : ℕ) → length (map kind (nonblank_symbols z)) ≡ z - 1
length-letters kind z = length-map (nonblank_symbols z) kind ∙ length-range_with_len 1 (z - 1)

length-copy_rules : (f n z : ℕ) → 0 < z → length (copy_rules f n z) ≡ 2 * z + 3
length-copy_rules f n z some =
    let a = begins_copy f n ∷ goes_right ∷ [] in
    let b = map (copies_letter n) (nonblank_symbols z) in
    let c = turns_left n ∷ goes_left ∷ [] in
    let d = map (passes_letter n) (nonblank_symbols z) in
    let e = ends_copy f n ∷ [] in
    let first : length b ≡ z - 1 = length-letters (copies_letter n) z in
    let second : length d ≡ z - 1 = length-letters (passes_letter n) z in
    let sum : length (a ++ b ++ c ++ d ++ e) ≡ 2 + length b + 2 + length d + 1 = simp length-append (omega arith) in
    sum ∙ omega arith

pub list_has_length : ListHasLength
unfolding bennett
list_has_length p some =
    let n : ℕ = length p.quints in
    let forth : length (compute_rules p.quints) ≡ 2 * n = length-pairs (λ e. writes_ahead e.0 e.1)
    (λ e. shifts_ahead e.0 e.1) (numbered_quints p.quints) ∙ ap (λ k. 2 * k) (length-enumerate_from 1 p.quints) in
    let back : length (retrace_rules p.quints) ≡ 2 * n = length-pairs (λ e. shifts_back e.0 e.1)
    (λ e. writes_back e.0 e.1) (reverse (numbered_quints p.quints))
    ∙ ap (λ k. 2 * k) (length-reverse (numbered_quints p.quints) ∙ length-enumerate_from 1 p.quints) in
    let copy : length (copy_rules (final_of p.quints) n p.symbols) ≡ 2 * p.symbols + 3 =
    length-copy_rules (final_of p.quints) n p.symbols some in
    length-append (compute_rules p.quints ++ copy_rules (final_of p.quints) n p.symbols) (retrace_rules p.quints)
    ∙ ap (λ k. k + length (retrace_rules p.quints)) (length-append (compute_rules p.quints)
    (copy_rules (final_of p.quints) n p.symbols))
    ∙ omega arith

-- ---- ends

nth_last : {X : Type 0} (xs : List X) (x : X) → nth (xs ++ x ∷ []) (length (xs ++ x ∷ [])) ≡ Some x
nth_last [] x = refl
nth_last (y ∷ []) x = refl
nth_last (y ∷ z ∷ xs) x = nth_last (z ∷ xs) x

-- the last two quadruples are those of the first quintuple
last_pair : (q : Quint) (qs : List Quint) → retrace_rules (q ∷ qs)
    ≡ flat_map retrace_pair (reverse (enumerate_from 2 qs)) ++ retrace_pair (1, q)
last_pair q qs =
    ap (flat_map retrace_pair) (reverse-append ((1, q) ∷ []) (enumerate_from 2 qs))
    ∙ flat_map-append retrace_pair (reverse (enumerate_from 2 qs)) ((1, q) ∷ [])

abbrev EndsWell : Program → Type 0
EndsWell p = ((r : Rule Name) × (nth (bennett p) 1 ≡ Some r) × (r.from ≡ initial_name p))
    × ((r : Rule Name) × (nth (bennett p) (length (bennett p)) ≡ Some r) × (r.to ≡ final_name p))

ends_well : (q : Quint) (qs : List Quint) (f z : ℕ) → EndsWell (program_of (q ∷ qs) f z)
unfolding bennett
ends_well q qs f z =
    let before = compute_rules (q ∷ qs) ++ copy_rules (final_of (q ∷ qs)) (length (q ∷ qs)) z in
    let back = flat_map retrace_pair (reverse (enumerate_from 2 qs)) in
    let front = (before ++ back) ++ (shifts_back 1 q ∷ []) in
    let same : bennett (program_of (q ∷ qs) f z) ≡ front ++ writes_back 1 q ∷ [] =
    ap (λ rs. before ++ rs) (last_pair q qs) ∙ sym (append_assoc before back (retrace_pair (1, q)))
    ∙ sym (append_assoc (before ++ back) (shifts_back 1 q ∷ []) (writes_back 1 q ∷ [])) in (
      (writes_ahead 1 q, refl, refl),
      (
        writes_back 1 q,
        subst (λ rs. nth rs (length rs) ≡ Some (writes_back 1 q)) (sym same) (nth_last front (writes_back 1 q)),
        refl,
      ),
    )

pub list_has_ends : ListHasEnds
list_has_ends p some = by_list p.quints refl
  where
    by_list : (qs : List Quint) → p.quints ≡ qs → EndsWell p
    by_list [] e = let none : length p.quints ≡ 0 = ap length e in absurd (omega arith)
    by_list (q ∷ qs) e = let same : program_of (q ∷ qs) p.states p.symbols ≡ p =
        λ i. program_of (sym e i) p.states p.symbols in subst EndsWell same (ends_well q qs p.states p.symbols)

-- ---- symbols

pub list_is_in_range : ListIsInRange
list_is_in_range p machine =
    let z : ℕ = p.symbols in
    let some : 0 < z = some_symbol p machine in
    let last : length p.quints < length p.quints + 1 = omega arith in
    let blank : 0 < length p.quints + 1 = omega arith in
    each_rule (λ r. AreDeedsInRange (symbols_of p) (deeds_of r)) p
    (λ m q e. let h = quint_in_range p m q machine e in ((h.read, h.write), (tt, ((some, some), tt))))
    (λ m q e. let low : m ≤ length p.quints = nth_within p.quints m q e in let number : m
    < length p.quints + 1 = omega arith in (tt, ((blank, number), (tt, tt))))
    ((some, some), ((last, last), ((some, some), tt)))
    (tt, (tt, (tt, tt)))
    (λ x low high. ((high, high), ((last, last), ((some, high), tt))))
    ((some, some), ((last, last), ((some, some), tt)))
    (tt, (tt, (tt, tt)))
    (λ x low high. ((high, high), ((last, last), ((high, high), tt))))
    ((some, some), ((last, last), ((some, some), tt)))
    (λ m q e. let low : m ≤ length p.quints = nth_within p.quints m q e in let number : m
    < length p.quints + 1 = omega arith in (tt, ((number, blank), (tt, tt))))
    (λ m q e. let h = quint_in_range p m q machine e in ((h.write, h.read), (tt, ((some, some), tt))))

-- ---- names

number_of : (qs : List Quint) (m : ℕ) (q : Quint) → nth qs m ≡ Some q → (0 < m) × (m ≤ length qs)
number_of qs zero q e = absurd (cc)
number_of qs (suc i) q e = (omega arith, nth_within qs (suc i) q e)

last_mentions : (qs : List Quint) → 0 < length qs → Mentions qs (final_of qs)
last_mentions [] some = absurd (omega arith)
last_mentions (q ∷ qs) some =
    let last : length qs < length (q ∷ qs) = omega arith in
    record {
      number = suc (length qs);
      quint = get_or (q ∷ qs) (length qs) q;
      stands = nth-get_or (q ∷ qs) (length qs) q last;
      names = inr (final_of-last (q ∷ qs) (length qs) q refl);
    }

-- both states of each quadruple are such names
both_named : (p : Program) → 0 < length p.quints → (r : Rule Name) → IsIn (bennett p) r
    → IsNameOf p r.from × IsNameOf p r.to
both_named p some =
    let final : Mentions p.quints (final_of p.quints) = last_mentions p.quints some in
    let here : (m : ℕ) (q : Quint) → nth p.quints m ≡ Some q → Mentions p.quints q.state =
    λ m q e. record { number = m; quint = q; stands = e; names = inl refl } in
    let there : (m : ℕ) (q : Quint) → nth p.quints m ≡ Some q → Mentions p.quints q.next =
    λ m q e. record { number = m; quint = q; stands = e; names = inr refl } in
    each_rule (λ r. IsNameOf p r.from × IsNameOf p r.to) p
    (λ m q e. (here m q e, number_of p.quints m q e)) (λ m q e. (number_of p.quints m q e, there m q e))
    (final, tt) (tt, tt) (λ x low high. (tt, tt)) (tt, tt) (tt, tt) (λ x low high. (tt, tt)) (tt, final)
    (λ m q e. (there m q e, number_of p.quints m q e)) (λ m q e. (number_of p.quints m q e, here m q e))

-- a quintuple with a number
quint_at : (p : Program) (m : ℕ) → 0 < m → m ≤ length p.quints → (q : Quint) × (nth p.quints m ≡ Some q)
quint_at p m low high = by_list p.quints m low high
  where
    by_list : (qs : List Quint) (m : ℕ) → 0 < m → m ≤ length qs → (q : Quint) × (nth qs m ≡ Some q)
    by_list qs zero low high = absurd (omega arith)
    by_list [] (suc i) low high = absurd (omega arith)
    by_list (q ∷ qs) (suc i) low high = (get_or (q ∷ qs) i q, nth-get_or (q ∷ qs) i q (omega arith))

module _ (p : Program) where
  in_states : (r : Rule Name) → IsIn (bennett p) r → IsIn (states_in (bennett p)) r.from
      × IsIn (states_in (bennett p)) r.to
  in_states r h = (from_in (bennett p) r h, to_in (bennett p) r h)

  named : (name : Name) → IsNameOf p name → IsIn (states_in (bennett p)) name
  named (Compute j) h = elim h.names [
    | inl from ↦ subst (λ i. IsIn (states_in (bennett p)) (Compute i)) from
        (in_states (writes_ahead h.number h.quint) (has_writes_ahead p h.number h.quint h.stands)).0
    | inr to ↦ subst (λ i. IsIn (states_in (bennett p)) (Compute i)) to
        (in_states (shifts_ahead h.number h.quint) (has_shifts_ahead p h.number h.quint h.stands)).1
  ]
  named (ComputeWithin m) h = let found = quint_at p m h.0 h.1 in
      (in_states (writes_ahead m found.0) (has_writes_ahead p m found.0 found.1)).1
  named GoRight h = (in_states goes_right (has_goes_right p)).0
  named CopyLetter h = (in_states goes_right (has_goes_right p)).1
  named GoLeft h = (in_states goes_left (has_goes_left p)).0
  named PassLetter h = (in_states goes_left (has_goes_left p)).1
  named (Retrace j) h = elim h.names [
    | inl from ↦ subst (λ i. IsIn (states_in (bennett p)) (Retrace i)) from
        (in_states (writes_back h.number h.quint) (has_writes_back p h.number h.quint h.stands)).1
    | inr to ↦ subst (λ i. IsIn (states_in (bennett p)) (Retrace i)) to
        (in_states (shifts_back h.number h.quint) (has_shifts_back p h.number h.quint h.stands)).0
  ]
  named (RetraceWithin m) h = let found = quint_at p m h.0 h.1 in
      (in_states (shifts_back m found.0) (has_shifts_back p m found.0 found.1)).1

pub list_has_names : ListHasNames
list_has_names p some name = (forth, named p name)
  where
    forth : IsIn (states_in (bennett p)) name → IsNameOf p name
    forth h =
        let found = from_flat_map (λ (r : Rule Name). r.from ∷ r.to ∷ []) (bennett p) name h in
        let both = both_named p some found.0 found.1 in
        each_of_two (IsNameOf p) found.0.from found.0.to both.0 both.1 name found.2

-- ---- how many

-- the names of f states and n quintuples, each once
abbrev all_names : ℕ → ℕ → List Name
all_names f n = flat_map (λ j. Compute j ∷ Retrace j ∷ []) (range_with_len 0 f)
    ++ flat_map (λ m. ComputeWithin m ∷ RetraceWithin m ∷ []) (range_with_len 1 n) ++ (GoRight ∷ CopyLetter ∷ [])
    ++ (GoLeft ∷ PassLetter ∷ [])

abbrev Different : Name → Name → Type 0
Different a b = a ≢ b

abbrev IsCounted : ℕ → ℕ → Name → Type 0
IsCounted f n (Compute j) = j < f
IsCounted f n (ComputeWithin m) = (0 < m) × (m ≤ n)
IsCounted f n GoRight = ⊤
IsCounted f n CopyLetter = ⊤
IsCounted f n GoLeft = ⊤
IsCounted f n PassLetter = ⊤
IsCounted f n (Retrace j) = j < f
IsCounted f n (RetraceWithin m) = (0 < m) × (m ≤ n)

-- which part of the list a name belongs to
part : Name → ℕ
part (Compute j) = 0
part (ComputeWithin m) = 1
part GoRight = 2
part CopyLetter = 2
part GoLeft = 3
part PassLetter = 3
part (Retrace j) = 0
part (RetraceWithin m) = 1

-- what holds of both names of each number holds of all names in pairs
each_pair : (P : Name → Type 0) (first second : ℕ → Name) (a n : ℕ)
    → ((i : ℕ) → a ≤ i → i < a + n → P (first i) × P (second i)) → (name : Name)
    → IsIn (flat_map (λ i. first i ∷ second i ∷ []) (range_with_len a n)) name → P name
each_pair P first second a n both name h =
    let found = from_flat_map (λ i. first i ∷ second i ∷ []) (range_with_len a n) name h in
    let bounds = from_range a n found.0 found.1 in
    let holds = both found.0 bounds.0 bounds.1 in
    each_of_two P (first found.0) (second found.0) holds.0 holds.1 name found.2

-- no repeats, and all of a part below this one
record IsFront (k : ℕ) (xs : List Name) : Type 0 where
  apart : Apart Different xs
  below : (name : Name) → IsIn xs name → part name < k

longer_front : (k : ℕ) (xs ys : List Name) → IsFront k xs → Apart Different ys
    → ((name : Name) → IsIn ys name → part name ≡ k) → IsFront (suc k) (xs ++ ys)
longer_front k xs ys front apart all = record {
  apart = apart_append Different xs ys front.apart apart (λ v w h g same. let low : part v
      < k = front.below v h in let there : part v ≡ k = ap part same ∙ all w g in absurd (omega arith));
  below = λ name h. elim (in_append xs ys name h) [
    | inl left ↦ let low : part name < k = front.below name left in omega arith
    | inr right ↦ let there : part name ≡ k = all name right in omega arith
  ];
}

module _ (f n : ℕ) where
  abbrev state_part : List Name
  state_part = flat_map (λ j. Compute j ∷ Retrace j ∷ []) (range_with_len 0 f)

  abbrev quint_part : List Name
  quint_part = flat_map (λ m. ComputeWithin m ∷ RetraceWithin m ∷ []) (range_with_len 1 n)

  abbrev right_part : List Name
  right_part = GoRight ∷ CopyLetter ∷ []

  abbrev left_part : List Name
  left_part = GoLeft ∷ PassLetter ∷ []

  all_names_apart : Apart Different (all_names f n)
  unfolding part
  all_names_apart =
      let states = apart_pairs Different (λ i j. i ≢ j) Compute Retrace (range_with_len 0 f) (range_apart 0 f)
      (λ i e. cc) (λ i j other e. other (cc)) (λ i j e. cc) (λ i j e. cc) (λ i j other e. other (cc)) in
      let quints = apart_pairs Different (λ i j. i ≢ j) ComputeWithin RetraceWithin (range_with_len 1 n)
      (range_apart 1 n) (λ i e. cc) (λ i j other e. other (cc)) (λ i j e. cc) (λ i j e. cc)
      (λ i j other e. other (cc)) in
      let first : IsFront 1 state_part = record {
        apart = states;
        below = each_pair (λ name. part name < 1) Compute Retrace 0 f (λ i low high. (omega arith, omega arith));
      } in
      let second = longer_front 1 state_part quint_part first quints
      (each_pair (λ name. part name ≡ 1) ComputeWithin RetraceWithin 1 n (λ i low high. (refl, refl))) in
      let third = longer_front 2 (state_part ++ quint_part) right_part second
      (apart_two Different GoRight CopyLetter (λ e. cc)) (each_of_two (λ name. part name ≡ 2) GoRight CopyLetter
      refl refl) in
      (longer_front 3 (state_part ++ quint_part ++ right_part) left_part third
      (apart_two Different GoLeft PassLetter (λ e. cc)) (each_of_two (λ name. part name ≡ 3) GoLeft PassLetter refl
      refl)).apart

  length-all_names : length (all_names f n) ≡ 2 * f + 2 * n + 4
  length-all_names =
      let states : length state_part ≡ 2 * f = length-pairs Compute Retrace (range_with_len 0 f)
      ∙ ap (λ k. 2 * k) (length-range_with_len 0 f) in
      let quints : length quint_part ≡ 2 * n = length-pairs ComputeWithin RetraceWithin (range_with_len 1 n)
      ∙ ap (λ k. 2 * k) (length-range_with_len 1 n) in
      let sum : length (state_part ++ quint_part ++ right_part ++ left_part)
      ≡ length state_part + length quint_part + 4 = simp length-append (omega arith) in
      sum ∙ omega arith

  in_state_part : (j : ℕ) (name : Name) → j < f → IsIn (Compute j ∷ Retrace j ∷ []) name → IsIn (all_names f n) name
  in_state_part j name low h =
      in_left (state_part ++ quint_part ++ right_part) left_part name
      (in_left (state_part ++ quint_part) right_part name (in_left state_part quint_part name
      (in_flat_map (λ j. Compute j ∷ Retrace j ∷ []) (range_with_len 0 f) j name
      (in_range 0 f j (omega arith) (omega arith)) h)))

  in_quint_part : (m : ℕ) (name : Name) → (0 < m) × (m ≤ n) → IsIn (ComputeWithin m ∷ RetraceWithin m ∷ []) name
      → IsIn (all_names f n) name
  in_quint_part m name bounds h =
      let low : 0 < m = bounds.0 in
      let high : m ≤ n = bounds.1 in
      in_left (state_part ++ quint_part ++ right_part) left_part name
      (in_left (state_part ++ quint_part) right_part name (in_right state_part quint_part name
      (in_flat_map (λ m. ComputeWithin m ∷ RetraceWithin m ∷ []) (range_with_len 1 n) m name
      (in_range 1 n m (omega arith) (omega arith)) h)))

  in_right_part : (name : Name) → IsIn right_part name → IsIn (all_names f n) name
  in_right_part name h = in_left (state_part ++ quint_part ++ right_part) left_part name
      (in_right (state_part ++ quint_part) right_part name h)

  in_left_part : (name : Name) → IsIn left_part name → IsIn (all_names f n) name
  in_left_part name h = in_right (state_part ++ quint_part ++ right_part) left_part name h

  counted_in : (name : Name) → IsCounted f n name → IsIn (all_names f n) name
  counted_in (Compute j) h = in_state_part j (Compute j) h (in_head _ _)
  counted_in (ComputeWithin m) h = in_quint_part m (ComputeWithin m) h (in_head _ _)
  counted_in GoRight h = in_right_part GoRight (in_head _ _)
  counted_in CopyLetter h = in_right_part CopyLetter (in_tail _ _ _ (in_head _ _))
  counted_in GoLeft h = in_left_part GoLeft (in_head _ _)
  counted_in PassLetter h = in_left_part PassLetter (in_tail _ _ _ (in_head _ _))
  counted_in (Retrace j) h = in_state_part j (Retrace j) h (in_tail _ _ _ (in_head _ _))
  counted_in (RetraceWithin m) h = in_quint_part m (RetraceWithin m) h (in_tail _ _ _ (in_head _ _))

  in_counted : (name : Name) → IsIn (all_names f n) name → IsCounted f n name
  in_counted name h =
      elim (in_append (state_part ++ quint_part ++ right_part) left_part name h) [
        | inr h ↦ each_of_two (IsCounted f n) GoLeft PassLetter tt tt name h
        | inl h ↦ elim (in_append (state_part ++ quint_part) right_part name h) [
          | inr h ↦ each_of_two (IsCounted f n) GoRight CopyLetter tt tt name h
          | inl h ↦ elim (in_append state_part quint_part name h) [
            | inr h ↦ each_pair (IsCounted f n) ComputeWithin RetraceWithin 1 n
                (λ i low high. ((omega arith, omega arith), (omega arith, omega arith))) name h
            | inl h ↦ each_pair (IsCounted f n) Compute Retrace 0 f (λ i low high. (omega arith, omega arith)) name h
          ]
        ]
      ]

-- a state that is mentioned is one of the machine's
pub mentioned_below : (p : Program) (j : ℕ) → IsMachine p → Mentions p.quints j → j < p.states
mentioned_below p j machine h =
    let range = quint_in_range p h.number h.quint machine h.stands in
    elim h.names [
      | inl from ↦ subst (λ i. i < p.states) from range.state
      | inr to ↦ subst (λ i. i < p.states) to range.next
    ]

named_counted : (p : Program) → IsMachine p → (name : Name) → IsNameOf p name
    → IsCounted p.states (length p.quints) name
named_counted p machine (Compute j) h = mentioned_below p j machine h
named_counted p machine (ComputeWithin m) h = h
named_counted p machine GoRight h = tt
named_counted p machine CopyLetter h = tt
named_counted p machine GoLeft h = tt
named_counted p machine PassLetter h = tt
named_counted p machine (Retrace j) h = mentioned_below p j machine h
named_counted p machine (RetraceWithin m) h = h

counted_named : (p : Program) → ((state : ℕ) → state < p.states → Mentions p.quints state) → (name : Name)
    → IsCounted p.states (length p.quints) name → IsNameOf p name
counted_named p all (Compute j) h = all j h
counted_named p all (ComputeWithin m) h = h
counted_named p all GoRight h = tt
counted_named p all CopyLetter h = tt
counted_named p all GoLeft h = tt
counted_named p all PassLetter h = tt
counted_named p all (Retrace j) h = all j h
counted_named p all (RetraceWithin m) h = h

pub list_counts_names : ListCountsNames
list_counts_names p machine all order numbers =
    let f : ℕ = p.states in
    let n : ℕ = length p.quints in
    let names = list_has_names p machine.some in
    let forth : (name : Name) → IsIn order name → IsIn (all_names f n) name = λ name h.
    counted_in f n name (named_counted p machine name ((names name).0 (stands_in name h.place h.stands))) in
    let back : (name : Name) → IsIn (all_names f n) name → IsIn order name = λ name h.
    let found = numbers.each name ((names name).1 (counted_named p all name (in_counted f n name h))) in record
    { place = suc found.0; stands = found.1 } in
    same_long order (all_names f n) (apart_by_places order numbers.apart) (all_names_apart f n) forth back
    ∙ length-all_names f n
  where
    stands_in : (name : Name) (k : ℕ) → nth order k ≡ Some name → IsIn (states_in (bennett p)) name
    stands_in name zero e = absurd (cc)
    stands_in name (suc i) e = numbers.only i name e

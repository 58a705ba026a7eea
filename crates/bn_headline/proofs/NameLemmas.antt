-- How many names of Bennett's list pass a test.
use Rattle.std.proofs.Common.{◌≡◌, ◌⊎◌, inl, inr, Bool, true, false, ◌==◌, ◌||◌, ◌&&◌, not, slice_get, ℕ, zero, suc}
use Rattle.std.proofs.Common.{◌+◌, ◌*◌, ◌<◌, ◌≤◌, List, [], ◌∷◌, ◌++◌, length, map, Some, refl, sym, ap, subst, ◌∙◌}
use Rattle.std.proofs.Common.{arith}
use Rattle.std.specs.List.{filter, range_with_len}
use Rattle.std.proofs.lemmas.Bool.{eqb-true}
use Rattle.std.proofs.lemmas.List.FromFn.{length-range_with_len}
use Rattle.std.proofs.lemmas.List.Sums.{length-filter}
use Rattle.bn_machine.specs.Machine.{Program, IsInRange, start_of, final_of}
use Rattle.bn_lists.specs.Lists.{nth, Has}
use Rattle.bn_machine.specs.declared.quint.Quint.{Quint}
use Rattle.bn_bennett_laws.specs.List.{bennett}
use Rattle.bn_bennett_laws.specs.Names.{NumbersStates, IsNameOf, Mentions}
use Rattle.bn_bennett_laws.specs.Stages.{IsStandardMachine}
use Rattle.bn_bennett_laws.specs.declared.name.Name.{Name}
use Rattle.bn_bennett_laws.specs.declared.name.Name.TheVariants.{Compute, ComputeWithin, GoRight, CopyLetter, GoLeft}
use Rattle.bn_bennett_laws.specs.declared.name.Name.TheVariants.{PassLetter, Retrace, RetraceWithin}
use Rattle.bn_bennett_laws.proofs.Counts.{list_has_names}
use Rattle.bn_bennett_laws.proofs.Halted.{quint_in_range}
use Rattle.bn_table.specs.Rows.{FitsTable}
use Rattle.bn_bennett.proofs.Counting.{each_mentioned}
use Rattle.bn_lists.proofs.MemberLemmas.{place_of, member_at, in_front, behind, of_two}
use Rattle.bn_headline.specs.CountLaws.{never_left, never_entered}
use Rattle.bn_headline.proofs.Told.{is_reader, is_written, is_left, is_entered}
use Rattle.bn_lists.proofs.ApartLemmas.{IsApart, IsWithin, same_length, joined, mapped, from_mapped, apart_mapped}
use Rattle.bn_lists.proofs.ApartLemmas.{filtered, from_filtered, apart_filtered, apart_places, range_member, from_range}
use Rattle.bn_lists.proofs.ApartLemmas.{range_apart}
use Rattle.bn_headline.proofs.CountLemmas.{passing, passing_append, passing_mapped, all_pass, halves, either, just_one}
use Rattle.bn_headline.proofs.ToldLemmas.{any_found, next_not_start}

abbrev kind : Name → ℕ
kind (Compute j) = 0
kind (Retrace j) = 1
kind (ComputeWithin k) = 2
kind (RetraceWithin k) = 3
kind GoRight = 4
kind CopyLetter = 5
kind GoLeft = 6
kind PassLetter = 7

abbrev copying : List Name
copying = GoRight ∷ CopyLetter ∷ GoLeft ∷ PassLetter ∷ []

module _ (p : Program) (standard : IsStandardMachine p) (fits : FitsTable p) (order : List Name)
    (numbers : NumbersStates (bennett p) order) where
  abbrev states : List ℕ
  states = range_with_len 0 p.states

  abbrev places : List ℕ
  places = range_with_len 1 (length p.quints)

  abbrev computing : List Name
  computing = map Compute states

  abbrev retracing : List Name
  retracing = map Retrace states

  abbrev within_computing : List Name
  within_computing = map ComputeWithin places

  abbrev within_retracing : List Name
  within_retracing = map RetraceWithin places

  abbrev all : List Name
  all = computing ++ (retracing ++ (within_computing ++ (within_retracing ++ copying)))

  -- ---- the names of the list are these

  in_computing : (j : ℕ) → j < p.states → Has all (Compute j)
  in_computing j low = in_front computing (retracing ++ (within_computing ++ (within_retracing ++ copying))) (Compute j)
      (mapped Compute states j (range_member 0 p.states j (omega arith) (omega arith)))

  in_retracing : (j : ℕ) → j < p.states → Has all (Retrace j)
  in_retracing j low = behind computing (retracing ++ (within_computing ++ (within_retracing ++ copying))) (Retrace j)
      (in_front retracing (within_computing ++ (within_retracing ++ copying)) (Retrace j)
      (mapped Retrace states j (range_member 0 p.states j (omega arith) (omega arith))))

  in_within_computing : (k : ℕ) → 0 < k → k ≤ length p.quints → Has all (ComputeWithin k)
  in_within_computing k some low = behind computing (retracing ++ (within_computing ++ (within_retracing ++ copying)))
      (ComputeWithin k) (behind retracing (within_computing ++ (within_retracing ++ copying)) (ComputeWithin k)
      (in_front within_computing (within_retracing ++ copying) (ComputeWithin k)
      (mapped ComputeWithin places k (range_member 1 (length p.quints) k (omega arith) (omega arith)))))

  in_within_retracing : (k : ℕ) → 0 < k → k ≤ length p.quints → Has all (RetraceWithin k)
  in_within_retracing k some low = behind computing (retracing ++ (within_computing ++ (within_retracing ++ copying)))
      (RetraceWithin k) (behind retracing (within_computing ++ (within_retracing ++ copying)) (RetraceWithin k)
      (behind within_computing (within_retracing ++ copying) (RetraceWithin k)
      (in_front within_retracing copying (RetraceWithin k) (mapped RetraceWithin places k
      (range_member 1 (length p.quints) k (omega arith) (omega arith))))))

  in_copying : (x : Name) → Has copying x → Has all x
  in_copying x h = behind computing (retracing ++ (within_computing ++ (within_retracing ++ copying))) x
      (behind retracing (within_computing ++ (within_retracing ++ copying)) x
      (behind within_computing (within_retracing ++ copying) x (behind within_retracing copying x h)))

  mentioned_low : (j : ℕ) → Mentions p.quints j → j < p.states
  mentioned_low j h = by h.names
    where
      range : IsInRange p.states p.symbols h.quint
      range = quint_in_range p h.number h.quint standard.machine h.stands

      by : (h.quint.state ≡ j) ⊎ (h.quint.next ≡ j) → j < p.states
      by (inl e) = let low = range.state in omega arith
      by (inr e) = let low = range.next in omega arith

  order_within : IsWithin order all
  order_within x h =
      let at = place_of order x h in
      by x ((list_has_names p standard.machine.some x).0 (numbers.only at.0 x at.1))
    where
      by : (x : Name) → IsNameOf p x → Has all x
      by (Compute j) h = in_computing j (mentioned_low j h)
      by (ComputeWithin k) h = in_within_computing k h.0 h.1
      by GoRight h = in_copying GoRight (inl refl)
      by CopyLetter h = in_copying CopyLetter (inr (inl refl))
      by GoLeft h = in_copying GoLeft (inr (inr (inl refl)))
      by PassLetter h = in_copying PassLetter (inr (inr (inr (inl refl))))
      by (Retrace j) h = in_retracing j (mentioned_low j h)
      by (RetraceWithin k) h = in_within_retracing k h.0 h.1

  named_in : (x : Name) → IsNameOf p x → Has order x
  named_in x h = let found = numbers.each x ((list_has_names p standard.machine.some x).1 h) in member_at order found.0
      x found.1

  all_within : IsWithin all order
  all_within x h = elim (of_two computing (retracing ++ (within_computing ++ (within_retracing ++ copying))) x h) [
    | inl one ↦ (let found = from_mapped Compute states x one in let low = (from_range 0 p.states found.0 found.1).1 in
        subst (λ y. Has order y) found.2 (named_in (Compute found.0) (each_mentioned p fits found.0 (omega arith))))
    | inr rest ↦ elim (of_two retracing (within_computing ++ (within_retracing ++ copying)) x rest) [
      | inl two ↦ (let found = from_mapped Retrace states x two in let low = (from_range 0 p.states found.0 found.1).1
          in subst (λ y. Has order y) found.2 (named_in (Retrace found.0)
          (each_mentioned p fits found.0 (omega arith))))
      | inr rest ↦ elim (of_two within_computing (within_retracing ++ copying) x rest) [
        | inl three ↦ (let found = from_mapped ComputeWithin places x three in let range = from_range 1
            (length p.quints) found.0 found.1 in let low = range.0 in let high = range.1 in subst (λ y. Has order y)
            found.2 (named_in (ComputeWithin found.0) (omega arith, omega arith)))
        | inr rest ↦ elim (of_two within_retracing copying x rest) [
          | inl four ↦ (let found = from_mapped RetraceWithin places x four in let range = from_range 1
              (length p.quints) found.0 found.1 in let low = range.0 in let high = range.1 in subst (λ y. Has order y)
              found.2 (named_in (RetraceWithin found.0) (omega arith, omega arith)))
          | inr five ↦ copies x five
        ]
      ]
    ]
  ]
    where
      copies : (x : Name) → Has copying x → Has order x
      copies x (inl e) = subst (λ y. Has order y) (sym e) (named_in GoRight tt)
      copies x (inr (inl e)) = subst (λ y. Has order y) (sym e) (named_in CopyLetter tt)
      copies x (inr (inr (inl e))) = subst (λ y. Has order y) (sym e) (named_in GoLeft tt)
      copies x (inr (inr (inr (inl e)))) = subst (λ y. Has order y) (sym e) (named_in PassLetter tt)
      copies x (inr (inr (inr (inr h)))) = absurd h

  -- ---- and each stands once

  kind_copying : (x : Name) → Has copying x → 4 ≤ kind x
  kind_copying x (inl e) = let is = ap kind e in omega arith
  kind_copying x (inr (inl e)) = let is = ap kind e in omega arith
  kind_copying x (inr (inr (inl e))) = let is = ap kind e in omega arith
  kind_copying x (inr (inr (inr (inl e)))) = let is = ap kind e in omega arith
  kind_copying x (inr (inr (inr (inr h)))) = absurd h

  kind_of : (make : ℕ → Name) (c : ℕ) → ((k : ℕ) → kind (make k) ≡ c) → (l : List ℕ) (x : Name) → Has (map make l) x
      → kind x ≡ c
  kind_of make c is l x h = let found = from_mapped make l x h in ap kind (sym found.2) ∙ is found.0

  over_four : (x : Name) → Has (within_retracing ++ copying) x → 3 ≤ kind x
  over_four x h = elim (of_two within_retracing copying x h) [
    | inl a ↦ (let is = kind_of RetraceWithin 3 (λ k. refl) places x a in omega arith)
    | inr b ↦ (let is = kind_copying x b in omega arith)
  ]

  over_three : (x : Name) → Has (within_computing ++ (within_retracing ++ copying)) x → 2 ≤ kind x
  over_three x h = elim (of_two within_computing (within_retracing ++ copying) x h) [
    | inl a ↦ (let is = kind_of ComputeWithin 2 (λ k. refl) places x a in omega arith)
    | inr b ↦ (let is = over_four x b in omega arith)
  ]

  over_two : (x : Name) → Has (retracing ++ (within_computing ++ (within_retracing ++ copying))) x → 1 ≤ kind x
  over_two x h = elim (of_two retracing (within_computing ++ (within_retracing ++ copying)) x h) [
    | inl a ↦ (let is = kind_of Retrace 1 (λ k. refl) states x a in omega arith)
    | inr b ↦ (let is = over_three x b in omega arith)
  ]

  copying_apart : IsApart copying
  copying_apart = apart_places copying once
    where
      at : (i : ℕ) (x : Name) → slice_get copying i ≡ Some x → 4 + i ≡ kind x
      at zero x e = let same : GoRight ≡ x = cc in ap kind same
      at (suc zero) x e = let same : CopyLetter ≡ x = cc in ap kind same
      at (suc (suc zero)) x e = let same : GoLeft ≡ x = cc in ap kind same
      at (suc (suc (suc zero))) x e = let same : PassLetter ≡ x = cc in ap kind same
      at (suc (suc (suc (suc i)))) x e = absurd (cc)

      once : (i j : ℕ) (x : Name) → slice_get copying i ≡ Some x → slice_get copying j ≡ Some x → i ≡ j
      once i j x e d = let a = at i x e in let b = at j x d in omega arith

  all_apart : IsApart all
  all_apart =
      let numbered = range_apart 0 p.states in
      let placed = range_apart 1 (length p.quints) in
      let four = joined within_retracing copying (apart_mapped RetraceWithin (λ a b e. cc) places placed) copying_apart
      (λ x h g. let is = kind_of RetraceWithin 3 (λ k. refl) places x h in let above = kind_copying x g in omega
      arith) in
      let three = joined within_computing (within_retracing ++ copying)
      (apart_mapped ComputeWithin (λ a b e. cc) places placed) four
      (λ x h g. let is = kind_of ComputeWithin 2 (λ k. refl) places x h in let above = over_four x g in omega arith)
      in
      let two = joined retracing (within_computing ++ (within_retracing ++ copying))
      (apart_mapped Retrace (λ a b e. cc) states numbered) three
      (λ x h g. let is = kind_of Retrace 1 (λ k. refl) states x h in let above = over_three x g in omega arith) in
      joined computing (retracing ++ (within_computing ++ (within_retracing ++ copying)))
      (apart_mapped Compute (λ a b e. cc) states numbered) two
      (λ x h g. let is = kind_of Compute 0 (λ k. refl) states x h in let above = over_two x g in omega arith)

  order_apart : IsApart order
  order_apart = apart_places order (λ i j x e d. numbers.apart i j x e d)

  -- ---- counts

  -- as many pass as of these
  same_passing : (test : Name → Bool) → passing test order ≡ passing test all
  same_passing test = same_length (filter test order) (filter test all) (apart_filtered test order order_apart)
      (apart_filtered test all all_apart)
      (λ x h. let both = from_filtered test order x h in filtered test all x (order_within x both.0) both.1)
      (λ x h. let both = from_filtered test all x h in filtered test order x (all_within x both.0) both.1)

  passing_all : (test : Name → Bool) → passing test all ≡ passing (λ j. test (Compute j)) states
      + (passing (λ j. test (Retrace j)) states + (passing (λ k. test (ComputeWithin k)) places
      + (passing (λ k. test (RetraceWithin k)) places + passing test copying)))
  passing_all test =
      let four = passing_append test within_retracing copying in
      let three = passing_append test within_computing (within_retracing ++ copying) in
      let two = passing_append test retracing (within_computing ++ (within_retracing ++ copying)) in
      let first = passing_append test computing (retracing ++ (within_computing ++ (within_retracing ++ copying))) in
      let a = passing_mapped test Compute states in
      let b = passing_mapped test Retrace states in
      let c = passing_mapped test ComputeWithin places in
      let d = passing_mapped test RetraceWithin places in
      omega arith

  state_count : length states ≡ p.states
  state_count = length-range_with_len 0 p.states

  place_count : length places ≡ length p.quints
  place_count = length-range_with_len 1 (length p.quints)

  pub start_low : start_of p.quints < p.states
  start_low = by p.quints refl
    where
      by : (qs : List Quint) → p.quints ≡ qs → start_of p.quints < p.states
      by [] e = absurd (let some = standard.machine.some in let none = ap length e in omega arith)
      by (q ∷ qs) e =
          let first : nth p.quints 1 ≡ Some q = ap (λ ss. nth ss 1) e in
          let low = (quint_in_range p 1 q standard.machine first).state in
          let same = ap start_of e in
          omega arith

  pub count_readers : passing (is_reader p) order ≡ 2 * p.states + 2 * length p.quints + 1
  count_readers =
      let parts = same_passing (is_reader p) ∙ passing_all (is_reader p) in
      let a = all_pass states in
      let c = all_pass places in
      let b = halves (λ j. j == start_of p.quints) (λ j. not (j == start_of p.quints)) (λ j. refl) states in
      let start = just_one p.states (start_of p.quints) start_low in
      omega (arith, state_count, place_count)

  pub count_written : passing (is_written p) order + never_entered p + never_left p
      ≡ 2 * p.states + 2 * length p.quints + 1
  count_written =
      let parts = same_passing (is_written p) ∙ passing_all (is_written p) in
      let c = all_pass places in
      let start = just_one p.states (start_of p.quints) start_low in
      let two = either (λ j. j == start_of p.quints) (is_entered p.quints) not_entered states in
      let first = halves (λ j. (j == start_of p.quints) || is_entered p.quints j)
      (λ j. not (j == start_of p.quints) && not (is_entered p.quints j))
      (λ j. none_of (j == start_of p.quints) (is_entered p.quints j)) states in
      let second = halves (λ j. (j == final_of p.quints) || is_left p.quints j)
      (λ j. not (j == final_of p.quints) && not (is_left p.quints j))
      (λ j. none_of (j == final_of p.quints) (is_left p.quints j)) states in
      let entered = length-filter (λ j. not (j == start_of p.quints) && not (is_entered p.quints j)) states in
      let left = length-filter (λ j. not (j == final_of p.quints) && not (is_left p.quints j)) states in
      omega (arith, state_count, place_count)
    where
      none_of : (b c : Bool) → not b && not c ≡ not (b || c)
      none_of true c = refl
      none_of false c = refl

      not_entered : (j : ℕ) → (j == start_of p.quints) ≡ true → is_entered p.quints j ≡ false
      not_entered j e = by (is_entered p.quints j) refl
        where
          by : (b : Bool) → is_entered p.quints j ≡ b → b ≡ false
          by false h = refl
          by true h =
              let found = any_found (λ (q : Quint). q.next == j) p.quints h in
              let next : found.1.next ≡ j = eqb-true found.1.next j found.3 in
              let start : j ≡ start_of p.quints = eqb-true j (start_of p.quints) e in
              absurd (next_not_start p standard (suc found.0) found.1 found.2 (next ∙ start))

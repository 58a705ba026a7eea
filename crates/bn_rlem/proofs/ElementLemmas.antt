-- Moves of elements.
use Rattle.std.specs.Prelude.{◌≡◌, ◌≢◌, ℕ, zero, suc, ◌+◌, ◌*◌, ◌/◌, ◌%◌, ◌<◌, ◌≤◌, List, [], ◌∷◌, ◌++◌, length, take}
use Rattle.std.specs.Prelude.{Some, None, slice_get, refl}
use Rattle.std.specs.List.{AllPairs, range_with_len, remove}
use Rattle.std.proofs.Common.{arith, sym, ap, subst, ◌∙◌, inl, inr, get_or}
use Rattle.std.proofs.Math.Nat.{div-lt_iff_lt-mul, mod-lt}
use Rattle.std.proofs.lemmas.List.FromFn.{get_or-range_with_len, length-range_with_len}
use Rattle.std.proofs.lemmas.Nat.{div-add-mod'}
use Rattle.std.proofs.lemmas.Option.{get_or_from_slice_get, slice_get_within, slice_get-get_or}
use Rattle.std.proofs.lemmas.Bool.{cases_lt}
use Rattle.std.proofs.lemmas.List.{length-take-le, take_more}
use Rattle.std.proofs.lemmas.List.Kept.{AllPairs-cons}
use Rattle.std.proofs.lemmas.List.Quantifiers.{all_pairs_remove}
use Rattle.bn_rsm.specs.Machines.{AreSound}
use Rattle.bn_rsm.specs.declared.rsm_move.RsmMove.{RsmMove}
use Rattle.bn_rsm.proofs.PairedLemmas.{ArePaired, one_to_one, within}
use Rattle.bn_rlem.specs.Permutations.{IsPermutation}
use Rattle.bn_rlem.specs.Elements.{IsElement, IsLineCount, moves_from}
use Rattle.bn_rlem.specs.Laws.{ElementsAreReversible}
use Rattle.bn_rlem.proofs.PermutationLemmas.{at_places, permuted_length}

-- ---- the moves of a front

pub moves-more : (k j : ℕ) (p : List ℕ) (x : ℕ) → moves_from k j (p ++ x ∷ [])
    ≡ moves_from k j p ++ moves_from k (j + length p) (x ∷ [])
moves-more k j [] x = let e : j + 0 ≡ j = omega arith in ap (λ i. moves_from k i (x ∷ [])) (sym e)
moves-more k j (y ∷ p) x =
    let e : j + 1 + length p ≡ j + suc (length p) = omega arith in
    ap (λ ms. record { state = j / k; line = j % k; next = y / k; out = y % k } ∷ ms)
    (moves-more k (j + 1) p x ∙ ap (λ i. moves_from k (j + 1) p ++ moves_from k i (x ∷ [])) e)

pub moves-taken : (k : ℕ) (p : List ℕ) (i : ℕ) (m : RsmMove) → i < length p
    → moves_from k i (get_or p i 0 ∷ []) ≡ m ∷ [] → moves_from k 0 (take i p) ++ m ∷ []
    ≡ moves_from k 0 (take (i + 1) p)
moves-taken k p i m within is =
    let long : length (take i p) ≡ i = length-take-le i p (omega (arith, within)) in
    let at : 0 + length (take i p) ≡ i = omega (arith, long) in
    let next : moves_from k (0 + length (take i p)) (get_or p i 0 ∷ []) ≡ m ∷ [] =
    ap (λ j. moves_from k j (get_or p i 0 ∷ [])) at ∙ is in
    ap (λ ms. moves_from k 0 (take i p) ++ ms) (sym next) ∙ sym (moves-more k 0 (take i p) (get_or p i 0))
    ∙ ap (moves_from k 0) (sym (take_more p i 0 within))

-- ---- the move at a place

-- a move of the list is that of its pair
record IsMoveOf (k j : ℕ) (p : List ℕ) (v : RsmMove) : Type 0 where
  pub to : ℕ
  pub has : slice_get p j ≡ Some to
  pub next : v.next ≡ to / k
  pub out : v.out ≡ to % k

record IsAt (k j i : ℕ) (p : List ℕ) (v : RsmMove) : Type 0 where
  pub state : v.state ≡ (j + i) / k
  pub line : v.line ≡ (j + i) % k
  pub leads : IsMoveOf k i p v

move_at : (k j : ℕ) (p : List ℕ) (i : ℕ) (v : RsmMove) → slice_get (moves_from k j p) i ≡ Some v → IsAt k j i p v
move_at k j [] i v at = absurd (cc)
move_at k j (x ∷ p) zero v at =
    let same : record { state = j / k; line = j % k; next = x / k; out = x % k } ≡ v = cc in
    let none : j + 0 ≡ j = omega arith in
    record {
      state = ap (λ (m : RsmMove). m.state) (sym same) ∙ ap (λ n. n / k) (sym none);
      line = ap (λ (m : RsmMove). m.line) (sym same) ∙ ap (λ n. n % k) (sym none);
      leads = record {
        to = x;
        has = refl;
        next = ap (λ (m : RsmMove). m.next) (sym same);
        out = ap (λ (m : RsmMove). m.out) (sym same);
      };
    }
move_at k j (x ∷ p) (suc i) v at =
    let rest = move_at k (j + 1) p i v at in
    let more : j + 1 + i ≡ j + suc i = omega arith in
    record {
      state = rest.state ∙ ap (λ n. n / k) more;
      line = rest.line ∙ ap (λ n. n % k) more;
      leads = record { to = rest.leads.to; has = rest.leads.has; next = rest.leads.next; out = rest.leads.out };
    }

-- ---- permutations have each entry once

same_pair : (k a b : ℕ) → a / k ≡ b / k → a % k ≡ b % k → a ≡ b
same_pair k a b rows columns =
    sym (div-add-mod' a k) ∙ ap (λ n. n * k + a % k) rows ∙ ap (λ n. b / k * k + n) columns ∙ div-add-mod' b k

-- an entry that is left stood at another place
record IsLeft (xs : List ℕ) (i y : ℕ) : Type 0 where
  pub place : ℕ
  pub has : slice_get xs place ≡ Some y
  pub other : place ≢ i

removed : (xs : List ℕ) (i j y : ℕ) → slice_get (remove xs i) j ≡ Some y → IsLeft xs i y
removed [] zero j y e = absurd (cc)
removed [] (suc i) j y e = absurd (cc)
removed (x ∷ xs) zero j y e = record { place = suc j; has = e; other = λ same. omega (arith, same) }
removed (x ∷ xs) (suc i) zero y e = record { place = zero; has = e; other = λ same. omega (arith, same) }
removed (x ∷ xs) (suc i) (suc j) y e =
    let rest = removed xs i j y e in
    record { place = suc rest.place; has = rest.has; other = λ same. rest.other (omega (arith, same)) }

abbrev AreDistinct : List ℕ → Type 0
AreDistinct xs = AllPairs (λ a b. a ≢ b) xs

one_place : (xs : List ℕ) (i j x : ℕ) → AreDistinct xs → slice_get xs i ≡ Some x → slice_get xs j ≡ Some x → i ≡ j
one_place xs i j x apart at also = elim (cases_lt i j) [
  | inl less ↦ absurd (at_places (λ a b. a ≢ b) xs i j x x apart at also less refl)
  | inr not ↦ elim (cases_lt j i) [
    | inl more ↦ absurd (at_places (λ a b. a ≢ b) xs j i x x apart also at more refl)
    | inr neither ↦ omega (arith, not, neither)
  ]
]

-- the entries of a permutation are entries of the list, each once
record IsApart (xs p : List ℕ) : Type 0 where
  pub from : (i x : ℕ) → slice_get p i ≡ Some x → (j : ℕ) × (slice_get xs j ≡ Some x)
  pub distinct : AreDistinct p

apart : (xs : List ℕ) (n : ℕ) (p : List ℕ) → AreDistinct xs → IsPermutation xs n p → IsApart xs p
apart xs n [] distinct h = record {
  from = λ i x e. absurd (cc);
  distinct = λ i j d less within. absurd (omega (arith, less, within));
}
apart xs n (x ∷ p) distinct h =
    let inside = slice_get_within xs h.place x h.entry in
    let rest = apart (remove xs h.place) h.left p (all_pairs_remove (λ a b. a ≢ b) xs h.place inside distinct)
    h.goes_on in
    let of_list : (i y : ℕ) → slice_get p i ≡ Some y → IsLeft xs h.place y =
    λ i y e. (let found = rest.from i y e in removed xs h.place found.0 y found.1) in
    record {
      from = λ i. by_place i of_list;
      distinct = AllPairs-cons (λ a b. a ≢ b) x p
          (λ i d within same. (let left = of_list i (get_or p i d) (slice_get-get_or p i d within) in
          left.other (one_place xs left.place h.place x distinct (left.has ∙ ap Some (sym same)) h.entry)))
          rest.distinct;
    }
  where
    by_place : (i : ℕ) → ((i y : ℕ) → slice_get p i ≡ Some y → IsLeft xs h.place y) → (y : ℕ)
        → slice_get (x ∷ p) i ≡ Some y → (j : ℕ) × (slice_get xs j ≡ Some y)
    by_place zero of_list y e = (h.place, h.entry ∙ e)
    by_place (suc i) of_list y e = let left = of_list i y e in (left.place, left.has)

range_distinct : (n : ℕ) → AreDistinct (range_with_len 0 n)
range_distinct n i j d less within same =
    let long : length (range_with_len 0 n) ≡ n = length-range_with_len 0 n in
    let second : get_or (range_with_len 0 n) j d ≡ 0 + j = get_or-range_with_len 0 n j d (omega (arith, long, within))
    in
    let first : get_or (range_with_len 0 n) i d ≡ 0 + i =
    get_or-range_with_len 0 n i d (omega (arith, long, within, less)) in
    let both : 0 + i ≡ 0 + j = sym first ∙ same ∙ second in
    omega (arith, both, less)

range_low : (n i x : ℕ) → slice_get (range_with_len 0 n) i ≡ Some x → x < n
range_low n i x e =
    let within = slice_get_within (range_with_len 0 n) i x e in
    let long : length (range_with_len 0 n) ≡ n = length-range_with_len 0 n in
    let low : i < n = omega (arith, long, within) in
    let same : x ≡ 0 + i =
    sym (get_or_from_slice_get (range_with_len 0 n) i x 0 e) ∙ get_or-range_with_len 0 n i 0 low in
    omega (arith, same, low)

module _ (k n : ℕ) (pairs : List ℕ) (lines : IsLineCount k) (is : IsPermutation (range_with_len 0 (2 * k)) n pairs)
  where
    each : IsApart (range_with_len 0 (2 * k)) pairs
    each = apart (range_with_len 0 (2 * k)) n pairs (range_distinct (2 * k)) is

    halves : (a : ℕ) → a < 2 * k → (a / k < 2) × (a % k < k)
    halves a low =
        let some : 0 < k = omega (arith, lines.some) in
        ((div-lt_iff_lt-mul some).1 low, mod-lt a some)

    low_pair : (i x : ℕ) → slice_get pairs i ≡ Some x → i < 2 * k
    low_pair i x e =
        let within = slice_get_within pairs i x e in
        let long : length pairs ≡ 2 * k =
        permuted_length (range_with_len 0 (2 * k)) n pairs is ∙ length-range_with_len 0 (2 * k) in
        omega (arith, long, within)

    low_entry : (i x : ℕ) → slice_get pairs i ≡ Some x → x < 2 * k
    low_entry i x e = let found = each.from i x e in range_low (2 * k) found.0 x found.1

    pub sound : AreSound 2 k (moves_from k 0 pairs)
    sound = record {
      one_to_one = one_to_one (moves_from k 0 pairs) (record {
        leaving = λ i j v w at also state line.
            (let first = move_at k 0 pairs i v at in
            let second = move_at k 0 pairs j w also in
            let same : 0 + i ≡ 0 + j = same_pair k (0 + i) (0 + j) (sym first.state ∙ state ∙ second.state)
            (sym first.line ∙ line ∙ second.line) in
            omega (arith, same));
        leading = λ i j v w at also next out.
            (let first = (move_at k 0 pairs i v at).leads in
            let second = (move_at k 0 pairs j w also).leads in
            let same : first.to ≡ second.to = same_pair k first.to second.to (sym first.next ∙ next ∙ second.next)
            (sym first.out ∙ out ∙ second.out) in
            one_place pairs i j second.to each.distinct (first.has ∙ ap Some same) second.has);
      });
      within = within 2 k (moves_from k 0 pairs) (λ j v at.
          (let first = move_at k 0 pairs j v at in
          let from = halves (0 + j) (let low = low_pair j first.leads.to first.leads.has in omega (arith, low)) in
          let to = halves first.leads.to (low_entry j first.leads.to first.leads.has) in (
            subst (λ a. a < 2) (sym first.state) from.0,
            subst (λ a. a < k) (sym first.line) from.1,
            subst (λ a. a < 2) (sym first.leads.next) to.0,
            subst (λ a. a < k) (sym first.leads.out) to.1,
          )));
    }

pub elements-reversible : ElementsAreReversible
elements-reversible k n moves lines is =
    subst (AreSound 2 k) (sym is.moves_are) (sound k n is.pairs lines is.permutation)

-- Drafts that grow, and the stages of Bennett's list piece by piece.
use Rattle.std.proofs.Common.{◌≡◌, ◌≤◌, ◌<◌, ◌+◌, ◌*◌, ◌∷◌, ◌++◌, ◌∙◌, ℕ, suc, List, [], length, refl, sym, ap, subst}
use Rattle.std.proofs.Common.{arith, append_assoc, length-append, length-drop, get_or, map, take, drop, ◌-◌, reverse}
use Rattle.std.proofs.Common.{add-one, drop-cons}
use Rattle.std.specs.List.{flat_map, range_with_len}
use Rattle.std.proofs.lemmas.List.{append-nil, drop_all, length-reverse, length-take-le, reverse-append, take_all}
use Rattle.std.proofs.lemmas.List.{take_more}
use Rattle.std.proofs.lemmas.List.FromFn.{get_or-enumerate_from, length-enumerate_from, length-map-range_with_len}
use Rattle.std.proofs.lemmas.List.FromFn.{map-range_with_len_more}
use Rattle.std.proofs.lemmas.Grind.{flat_map-append}
use Rattle.bn_machine.specs.declared.quint.Quint.{Quint}
use Rattle.bn_quad.specs.Quadruples.{Rule}
use Rattle.bn_bennett_laws.specs.declared.name.Name.{Name}
use Rattle.bn_bennett_laws.specs.List.{numbered_quints, compute_pair, compute_rules, copy_rules, begins_copy}
use Rattle.bn_bennett_laws.specs.List.{goes_right, copies_letter, turns_left, goes_left, passes_letter, ends_copy}
use Rattle.bn_bennett_laws.specs.List.{nonblank_symbols}
use Rattle.bn_bennett.specs.Draft.{IsDraft, Grows, drafted}
use Rattle.bn_bennett.specs.declared.draft.Draft.{Draft}

-- ---- growing

pub grows_none : (d : Draft) → IsDraft d → Grows d [] d
grows_none d h = record { draft = h; drafted = sym (append-nil (drafted d)) }

pub grows_on : (a b c : Draft) (xs ys : List (Rule Name)) → Grows a xs b → Grows b ys c → Grows a (xs ++ ys) c
grows_on a b c xs ys g h = record {
  draft = h.draft;
  drafted = h.drafted ∙ ap (λ zs. zs ++ ys) g.drafted ∙ append_assoc (drafted a) xs ys;
}

pub grows_to : (a b : Draft) (xs ys : List (Rule Name)) → xs ≡ ys → Grows a xs b → Grows a ys b
grows_to a b xs ys e g = let P : List (Rule Name) → Type 0 = λ zs. Grows a zs b in subst P e g

pub length-grown : (a b : Draft) (xs : List (Rule Name)) → Grows a xs b
    → length (drafted b) ≡ length (drafted a) + length xs
length-grown a b xs g = ap length g.drafted ∙ length-append (drafted a) xs

-- ---- pieces

module _ {X : Type 0} (f : X → List (Rule Name)) (xs : List X) (i : ℕ) (d : X) where
  pub piece_more : i < length xs → flat_map f (take i xs) ++ f (get_or xs i d) ≡ flat_map f (take (i + 1) xs)
  piece_more h =
      ap (λ ys. flat_map f (take i xs) ++ ys) (sym (append-nil (f (get_or xs i d))))
      ∙ sym (ap (flat_map f) (take_more xs i d h) ∙ flat_map-append f (take i xs) (get_or xs i d ∷ []))

  pub piece_back : i < length xs → flat_map f (reverse (drop (i + 1) xs)) ++ f (get_or xs i d)
      ≡ flat_map f (reverse (drop i xs))
  piece_back h =
      let turned : reverse (drop i xs) ≡ reverse (drop (i + 1) xs) ++ get_or xs i d ∷ [] =
      ap reverse (drop-cons xs i d h) ∙ reverse-append (get_or xs i d ∷ []) (drop (suc i) xs)
      ∙ ap (λ k. reverse (drop k xs) ++ get_or xs i d ∷ []) (sym (add-one i)) in
      ap (λ ys. flat_map f (reverse (drop (i + 1) xs)) ++ ys) (sym (append-nil (f (get_or xs i d))))
      ∙ sym (ap (flat_map f) turned ∙ flat_map-append f (reverse (drop (i + 1) xs)) (get_or xs i d ∷ []))

-- the quintuple at a place with its number
pub numbered_at : (qs : List Quint) (i : ℕ) (q : Quint) → i < length qs
    → get_or (numbered_quints qs) i (0, q) ≡ (i + 1, get_or qs i q)
numbered_at qs i q h =
    let number : 1 + i ≡ i + 1 = omega arith in
    get_or-enumerate_from 1 qs i (0, q) h ∙ ap (λ (n : ℕ). (n, get_or qs i q)) number

pub length-numbered : (qs : List Quint) → length (numbered_quints qs) ≡ length qs
length-numbered qs = length-enumerate_from 1 qs

length-two : {X : Type 0} (pair : X → List (Rule Name)) → ((x : X) → length (pair x) ≡ 2) → (xs : List X)
    → length (flat_map pair xs) ≡ 2 * length xs
length-two pair two [] = refl
length-two pair two (x ∷ xs) =
    let rest : length (flat_map pair xs) ≡ 2 * length xs = length-two pair two xs in
    let here : length (pair x) ≡ 2 = two x in
    omega (arith, length-append (pair x) (flat_map pair xs))

-- ---- the loops over the quintuples

module _ (pair : ℕ × Quint → List (Rule Name)) (two : (e : ℕ × Quint) → length (pair e) ≡ 2) (a b : Draft)
    (qs : List Quint) (i : ℕ) where
  pub room_forth : i ≤ length qs → Grows a (flat_map pair (take i (numbered_quints qs))) b
      → length (drafted b) ≡ length (drafted a) + 2 * i
  room_forth h g =
      let n : length (numbered_quints qs) ≡ length qs = length-numbered qs in
      length-grown a b _ g ∙ ap (λ k. length (drafted a) + k) (length-two pair two (take i (numbered_quints qs))
      ∙ ap (λ k. 2 * k) (length-take-le i (numbered_quints qs) (omega arith)))

  pub room_back : i ≤ length qs → Grows a (flat_map pair (reverse (drop i (numbered_quints qs)))) b
      → length (drafted b) ≡ length (drafted a) + 2 * (length qs - i)
  room_back h g =
      length-grown a b _ g ∙ ap (λ k. length (drafted a) + k) (length-two pair two
      (reverse (drop i (numbered_quints qs)))
      ∙ ap (λ k. 2 * k) (length-reverse (drop i (numbered_quints qs)) ∙ length-drop i (numbered_quints qs)
      ∙ ap (λ k. k - i) (length-numbered qs)))

  pub step_forth : (c : Draft) (q : Quint) → i < length qs → Grows a (flat_map pair (take i (numbered_quints qs))) b
      → Grows b (pair (i + 1, get_or qs i q)) c → Grows a (flat_map pair (take (i + 1) (numbered_quints qs))) c
  step_forth c q h g k =
      let n : length (numbered_quints qs) ≡ length qs = length-numbered qs in
      let here : pair (i + 1, get_or qs i q) ≡ pair (get_or (numbered_quints qs) i (0, q)) =
      ap pair (sym (numbered_at qs i q h)) in
      grows_to a c _ _ (piece_more pair (numbered_quints qs) i (0, q) (omega arith))
      (grows_on a b c _ _ g (grows_to b c _ _ here k))

  pub step_back : (c : Draft) (q : Quint) (j : ℕ) → i + 1 ≡ j → j ≤ length qs
      → Grows a (flat_map pair (reverse (drop j (numbered_quints qs)))) b → Grows b (pair (i + 1, get_or qs i q)) c
      → Grows a (flat_map pair (reverse (drop i (numbered_quints qs)))) c
  step_back c q j e h g k =
      let n : length (numbered_quints qs) ≡ length qs = length-numbered qs in
      let here : pair (i + 1, get_or qs i q) ≡ pair (get_or (numbered_quints qs) i (0, q)) =
      ap pair (sym (numbered_at qs i q (omega arith))) in
      let P : ℕ → Type 0 = λ m. Grows a (flat_map pair (reverse (drop m (numbered_quints qs)))) b in
      grows_to a c _ _ (piece_back pair (numbered_quints qs) i (0, q) (omega arith))
      (grows_on a b c _ _ (subst P (sym e) g) (grows_to b c _ _ here k))

  pub all_forth : length qs ≤ i → Grows a (flat_map pair (take i (numbered_quints qs))) b
      → Grows a (flat_map pair (numbered_quints qs)) b
  all_forth h g =
      let n : length (numbered_quints qs) ≡ length qs = length-numbered qs in
      grows_to a b _ _ (ap (flat_map pair) (take_all i (numbered_quints qs) (omega arith))) g

  pub start_back : IsDraft a → length qs ≤ i → Grows a (flat_map pair (reverse (drop i (numbered_quints qs)))) a
  start_back d h =
      let n : length (numbered_quints qs) ≡ length qs = length-numbered qs in
      grows_to a a _ _ (ap (λ ys. flat_map pair (reverse ys)) (sym (drop_all i (numbered_quints qs) (omega arith))))
      (grows_none a d)

-- ---- the loops over the letters

module _ (kind : ℕ → Rule Name) (a b : Draft) (x : ℕ) where
  pub room_letters : Grows a (map kind (range_with_len 1 (x - 1))) b → length (drafted b) ≡ length (drafted a) + (x - 1)
  room_letters g = length-grown a b _ g ∙ ap (λ k. length (drafted a) + k) (length-map-range_with_len kind 1 (x - 1))

  pub step_letters : (c : Draft) → 1 ≤ x → Grows a (map kind (range_with_len 1 (x - 1))) b → Grows b (kind x ∷ []) c
      → Grows a (map kind (range_with_len 1 (x + 1 - 1))) c
  step_letters c h g k =
      let e : (x - 1) + 1 ≡ x + 1 - 1 = omega arith in
      let number : 1 + (x - 1) ≡ x = omega arith in
      grows_to a c _ _ (sym (map-range_with_len_more kind 1 (x - 1) x number)
      ∙ ap (λ n. map kind (range_with_len 1 n)) e) (grows_on a b c _ _ g k)

-- ---- how long the first two stages are

pub length-compute : (qs : List Quint) → length (compute_rules qs) ≡ 2 * length qs
length-compute qs = length-two compute_pair (λ e. refl) (numbered_quints qs) ∙ ap (λ k. 2 * k) (length-numbered qs)

pub length-copy : (f n z : ℕ) → 0 < z → length (copy_rules f n z) ≡ 2 * z + 3
length-copy f n z some =
    let a : List (Rule Name) = begins_copy f n ∷ goes_right ∷ [] in
    let b : List (Rule Name) = map (copies_letter n) (nonblank_symbols z) in
    let c : List (Rule Name) = turns_left n ∷ goes_left ∷ [] in
    let d : List (Rule Name) = map (passes_letter n) (nonblank_symbols z) in
    let first : length b ≡ z - 1 = length-map-range_with_len (copies_letter n) 1 (z - 1) in
    let second : length d ≡ z - 1 = length-map-range_with_len (passes_letter n) 1 (z - 1) in
    let sum : length (a ++ b ++ c ++ d ++ ends_copy f n ∷ []) ≡ 2 + length b + 2 + length d + 1 =
    simp length-append (omega arith) in
    sum ∙ omega arith

-- the second stage, by equal numbers
pub grows_copy : (a b : Draft) (f g m n y z : ℕ) → f ≡ g → m ≡ n → y ≡ z → Grows a (copy_rules f m y) b
    → Grows a (copy_rules g n z) b
grows_copy a b f g m n y z e k h grown = grows_to a b (copy_rules f m y) (copy_rules g n z)
    (λ i. copy_rules (e i) (k i) (h i)) grown

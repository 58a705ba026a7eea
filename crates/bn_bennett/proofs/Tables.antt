-- The machine of a translation with its names is a table: the names stand in the order of their first appearance in its
-- entries.
use Rattle.std.proofs.Common.{◌≡◌, ◌≤◌, ◌<◌, ◌+◌, ◌-◌, ◌*◌, ◌^◌, ◌∷◌, ◌++◌, ◌∙◌, ℕ, suc, zero, Bool, true, false, not}
use Rattle.std.proofs.Common.{List, [], length, Some, get_or, refl, sym, ap, subst, arith, inl, inr, map, filter}
use Rattle.std.proofs.Common.{append_assoc, length-append, decimal, nat_eq, if◌then◌else◌}
use Rattle.std.specs.Prelude.{bytes_eq}
use Rattle.std.specs.Bool.{Decides}
use Rattle.std.specs.List.{All, flat_map, list_all, list_any, range_with_len, enumerate_from}
use Rattle.std.proofs.lemmas.Bool.{cases_Bool, false≢true}
use Rattle.std.proofs.lemmas.Bool.Decides.{Decides-eqb}
use Rattle.std.proofs.lemmas.List.{append-nil, get_or-map, length-map}
use Rattle.std.proofs.lemmas.List.FromFn.{get_or-map-range_with_len, map-range_with_len_more}
use Rattle.std.proofs.lemmas.Grind.{flat_map-append}
use Rattle.std.proofs.lemmas.Option.{get_or_from_slice_get, slice_get-get_or}
use Rattle.std.proofs.lemmas.Slice.Eq.{bytes_eq-Decides}
use Rattle.bn_csv.specs.Numbering.{firsts, firsts_by}
use Rattle.bn_csv.proofs.NumberingLemmas.{any-firsts, firsts-push}
use Rattle.bn_lists.specs.Lists.{nth, IsIn}
use Rattle.bn_bennett_laws.proofs.MembershipLemmas.{each_of_two, in_head, in_tail, in_left, in_cases, not_in_empty}
use Rattle.bn_csv.specs.Forms.{is_symbol}
use Rattle.bn_csv.proofs.FormsLemmas.{all-at}
use Rattle.std.proofs.Math.Seq.{get_or-append_seam}
use Rattle.bn_quad.specs.Names.{Naming}
use Rattle.bn_quad.specs.Quadruples.{Deed, Rewrite, Move, IsDeedInRange, IsRuleInRange, Rule}
use Rattle.bn_qtable.specs.Entry.{act_field, quadruple_entry, read_field, slash}
use Rattle.bn_qtable.specs.Rows.{counts_of, quadruple_rows_by, said_deed, said_of_quadruple}
use Rattle.bn_qtable.specs.Rows.{state_names_in as states_in_rows, symbol_names_in, table_of}
use Rattle.bn_qtable.specs.Rows as QuadTables
use Rattle.bn_bennett_laws.specs.Renamed.{rename, renamed}
use Rattle.bn_bennett_laws.specs.declared.name.Name.{Name}
use Rattle.bn_machine.specs.Machine.{IsInRange, IsMachine, Program, final_of}
use Rattle.bn_machine.specs.declared.quint.Quint.{Quint}
use Rattle.bn_bennett_laws.proofs.MembershipLemmas.{from_flat_map, in_append, in_right, in_map, from_map}
use Rattle.bn_bennett_laws.specs.List.{bennett, begins_copy, compute_pair, compute_rules, copies_letter, copy_rules}
use Rattle.bn_bennett_laws.specs.List.{ends_copy, goes_left, goes_right, nonblank_symbols, passes_letter, retrace_rules}
use Rattle.bn_bennett_laws.specs.List.{turns_left}
use Rattle.bn_table.specs.Rows.{FitsTable, IsTable, Named, letters_in, rows_by as table_rows}
use Rattle.bn_table.proofs.RowsLemmas.{blank_first, one_symbol}
use Rattle.bn_qtable.specs.Rows.{blank_name}
use Rattle.bn_bennett.specs.Printed.{translation_names, number_names, one_byte, print_of, bennett_state_text}
use Rattle.bn_bennett.specs.Translation.{IsTranslation, Translation, is_same, name_of}
use Rattle.bn_bennett.proofs.NameLemmas.{is_same-Decides}
use Rattle.bn_bennett.proofs.Forms.{all_letters_form, all_numbers_form, all_states_form, count_letters}
use Rattle.bn_bennett.proofs.Machines.{some_symbols}
use Rattle.bn_bennett.proofs.Printable.{number_bound}
use Rattle.bn_bennett.proofs.Texts.{length-number_names, no_blank, state_text-once}
use Rattle.bn_bennett_laws.specs.Laws.{ListHasLength, ListHasNames, ListIsInRange}
use Rattle.bn_bennett_laws.specs.Names.{states_in}
use Rattle.bn_bennett_laws.specs.declared.name.Name.TheVariants.{GoRight}
use Rattle.std.proofs.lemmas.Fmt.{decimal_injective}
use Rattle.bn_bennett.proofs.Counting.{any_from_in, in_from_any, in_from_firsts}

-- ---- first appearances

module _ {X : Type 0} (same : X → X → Bool) (decides : (a b : X) → Decides (same a b) (a ≡ b)) where
  -- what stood before changes nothing
  pub firsts-stay : (xs ys : List X) → ((y : X) → IsIn ys y → IsIn xs y) → firsts_by same (xs ++ ys) ≡ firsts_by same xs
  firsts-stay xs [] h = ap (firsts_by same) (append-nil xs)
  firsts-stay xs (y ∷ ys) h =
      let known : list_any (same y) (firsts_by same xs) ≡ true =
      any-firsts same decides y xs ∙ any_from_in same decides y xs (h y (in_head y ys)) in
      let one : firsts_by same (xs ++ y ∷ []) ≡ firsts_by same xs = firsts-push same decides xs y ∙ rw known refl in
      ap (firsts_by same) (sym (append_assoc xs (y ∷ []) ys))
      ∙ firsts-stay (xs ++ y ∷ []) ys (λ z k. in_left xs (y ∷ []) z (h z (in_tail y z ys k)))
      ∙ one

  -- one that didn't goes last
  firsts-new : (xs : List X) (y : X) → (IsIn xs y → ⊥) → firsts_by same (xs ++ y ∷ []) ≡ firsts_by same xs ++ y ∷ []
  firsts-new xs y new = elim (cases_Bool (list_any (same y) (firsts_by same xs))) [
    | inl hit ↦ absurd (new (in_from_any same decides y xs (sym (any-firsts same decides y xs) ∙ hit)))
    | inr miss ↦ firsts-push same decides xs y ∙ rw miss refl
  ]

  in_firsts : (xs : List X) (y : X) → IsIn (firsts_by same xs) y → IsIn xs y
  in_firsts xs y h = by_place h.place h.stands
    where
      by_place : (n : ℕ) → nth (firsts_by same xs) n ≡ Some y → IsIn xs y
      by_place zero e = absurd (cc)
      by_place (suc k) e = in_from_firsts same decides y xs k e

module _ {X Y : Type 0} (same : X → X → Bool) (decides : (a b : X) → Decides (same a b) (a ≡ b)) (alike : Y → Y → Bool)
    (settles : (a b : Y) → Decides (alike a b) (a ≡ b)) (f : X → Y) where
  same_image : (x z : X) → (f x ≡ f z → x ≡ z) → alike (f x) (f z) ≡ same x z
  same_image x z once = elim (cases_Bool (same x z)) [
    | inl hit ↦ (settles (f x) (f z)).1 (ap f ((decides x z).0 hit)) ∙ sym hit
    | inr miss ↦ elim (cases_Bool (alike (f x) (f z))) [
      | inl equal ↦ let one : true ≡ false = sym ((decides x z).1 (once ((settles (f x) (f z)).0 equal))) ∙ miss in cc
      | inr other ↦ other ∙ sym miss
    ]
  ]

  filter_image : (x : X) (zs : List X) → ((z : X) → IsIn zs z → f x ≡ f z → x ≡ z)
      → filter (λ w. not (alike (f x) w)) (map f zs) ≡ map f (filter (λ z. not (same x z)) zs)
  filter_image x [] once = refl
  filter_image x (z ∷ zs) once =
      let here : alike (f x) (f z) ≡ same x z = same_image x z (once z (in_head z zs)) in
      let rest = filter_image x zs (λ w k. once w (in_tail z w zs k)) in
      elim (cases_Bool (same x z)) [
        | inl hit ↦ rw (here, hit) rest
        | inr miss ↦ rw (here, miss) (ap (λ ws. f z ∷ ws) rest)
      ]

  -- texts that tell what they are texts of appear in its order
  pub firsts-map : (xs : List X) → ((a b : X) → IsIn xs a → IsIn xs b → f a ≡ f b → a ≡ b)
      → firsts_by alike (map f xs) ≡ map f (firsts_by same xs)
  unfolding firsts_by
  firsts-map [] once = refl
  firsts-map (x ∷ xs) once =
      let rest : firsts_by alike (map f xs) ≡ map f (firsts_by same xs) =
      firsts-map xs (λ a b h k. once a b (in_tail x a xs h) (in_tail x b xs k)) in
      ap (λ zs. f x ∷ filter (λ w. not (alike (f x) w)) zs) rest
      ∙ ap (λ zs. f x ∷ zs) (filter_image x (firsts_by same xs)
      (λ z k. once x z (in_head x xs) (in_tail x z xs (in_firsts same decides xs z k))))

-- ---- texts by number, each after the first new one with the first again

module _ (text : ℕ → List ℕ) (most : ℕ) (once : (j k : ℕ) → j < most → k < most → text j ≡ text k → j ≡ k) where
  abbrev pairs : ℕ → ℕ → List (List ℕ)
  pairs a n = flat_map (λ k. text 0 ∷ text k ∷ []) (range_with_len a n)

  texts_in : (a k : ℕ) (y : List ℕ) → IsIn (map text (range_with_len k a)) y
      → (j : ℕ) × (k ≤ j) × (j < k + a) × (text j ≡ y)
  texts_in zero k y h = absurd (not_in_empty y h)
  texts_in (suc a) k y h = elim (in_cases (text k) y (map text (range_with_len (k + 1) a)) h) [
    | inl same ↦ (k, omega arith, omega arith, same)
    | inr further ↦ let found = texts_in a (k + 1) y further in let low : k + 1 ≤ found.0 =
        found.1 in let high : found.0 < (k + 1) + a = found.2 in (found.0, omega arith, omega arith, found.3)
  ]

  pub firsts-pairs : (n a : ℕ) (xs : List (List ℕ)) → 0 < a → a + n ≤ most → firsts xs ≡ map text (range_with_len 0 a)
      → firsts (xs ++ pairs a n) ≡ map text (range_with_len 0 (a + n))
  firsts-pairs zero a xs some low e =
      let same : a ≡ a + 0 = omega arith in
      ap firsts (append-nil xs) ∙ e ∙ ap (λ m. map text (range_with_len 0 m)) same
  firsts-pairs (suc n) a xs some low e =
      let zero_in : IsIn xs (text 0) = in_firsts bytes_eq bytes_eq-Decides xs (text 0)
      (subst (λ ys. IsIn ys (text 0)) (sym e) (first_of a some)) in
      let one : firsts (xs ++ text 0 ∷ []) ≡ firsts xs = firsts-stay bytes_eq bytes_eq-Decides xs (text 0 ∷ [])
      (λ y h. elim (in_cases (text 0) y [] h) [
        | inl same ↦ subst (IsIn xs) same zero_in
        | inr none ↦ absurd (not_in_empty y none)
      ]) in
      let new : IsIn (xs ++ text 0 ∷ []) (text a) → ⊥ = λ h. old a xs (omega arith) e one h in
      let two : firsts ((xs ++ text 0 ∷ []) ++ text a ∷ []) ≡ map text (range_with_len 0 (a + 1)) =
      firsts-new bytes_eq bytes_eq-Decides (xs ++ text 0 ∷ []) (text a) new ∙ ap (λ ys. ys ++ text a ∷ []) (one ∙ e)
      ∙ sym (map-range_with_len_more text 0 a a (omega arith)) in
      let group : xs ++ pairs a (suc n) ≡ ((xs ++ text 0 ∷ []) ++ text a ∷ []) ++ pairs (a + 1) n =
      sym (append_assoc xs (text 0 ∷ text a ∷ []) (pairs (a + 1) n))
      ∙ ap (λ ys. ys ++ pairs (a + 1) n) (sym (append_assoc xs (text 0 ∷ []) (text a ∷ []))) in
      let sum : (a + 1) + n ≡ a + suc n = omega arith in
      ap firsts group ∙ firsts-pairs n (a + 1) ((xs ++ text 0 ∷ []) ++ text a ∷ []) (omega arith) (omega arith) two
      ∙ ap (λ m. map text (range_with_len 0 m)) sum
    where
      first_of : (a : ℕ) → 0 < a → IsIn (map text (range_with_len 0 a)) (text 0)
      first_of zero h = absurd (omega arith)
      first_of (suc a) h = in_head (text 0) _

      old : (a : ℕ) (xs : List (List ℕ)) → a < most → firsts xs ≡ map text (range_with_len 0 a)
          → firsts (xs ++ text 0 ∷ []) ≡ firsts xs → IsIn (xs ++ text 0 ∷ []) (text a) → ⊥
      old a xs within e one h =
          let known : IsIn (firsts (xs ++ text 0 ∷ [])) (text a) =
          in_from_any bytes_eq bytes_eq-Decides (text a) (firsts (xs ++ text 0 ∷ []))
          (any-firsts bytes_eq bytes_eq-Decides (text a) (xs ++ text 0 ∷ [])
          ∙ any_from_in bytes_eq bytes_eq-Decides (text a) (xs ++ text 0 ∷ []) h) in
          let found = texts_in a 0 (text a) (subst (λ ys. IsIn ys (text a)) (one ∙ e) known) in
          let below : found.0 < 0 + a = found.2 in
          let same : found.0 ≡ a = once found.0 a (omega arith) (omega arith) found.3 in
          omega arith

-- all texts by their numbers
all_from : (xs ys : List (List ℕ)) → map (λ k. get_or (xs ++ ys) k []) (range_with_len (length xs) (length ys)) ≡ ys
all_from xs [] = refl
all_from xs (y ∷ ys) =
    let here : get_or (xs ++ y ∷ ys) (length xs) [] ≡ y = get_or-append_seam xs y ys [] in
    let group : (xs ++ y ∷ []) ++ ys ≡ xs ++ y ∷ ys = append_assoc xs (y ∷ []) ys in
    let long : length (xs ++ y ∷ []) ≡ length xs + 1 = length-append xs (y ∷ []) in
    let rest : map (λ k. get_or (xs ++ y ∷ ys) k []) (range_with_len (length xs + 1) (length ys)) ≡ ys =
    (λ i. map (λ k. get_or (sym group i) k []) (range_with_len (sym long i) (length ys))) ∙ all_from (xs ++ y ∷ []) ys
    in
    λ i. here i ∷ rest i

all_texts : (xs : List (List ℕ)) → map (λ k. get_or xs k []) (range_with_len 0 (length xs)) ≡ xs
all_texts xs = all_from [] xs

-- ---- the texts of a deed's symbols

abbrev texts : List (List ℕ) → Deed → List (List ℕ)
texts names (Rewrite r w) = get_or names r [] ∷ get_or names w [] ∷ []
texts names (Move s) = []

text_in : (names : List (List ℕ)) (k : ℕ) → k < length names → IsIn names (get_or names k [])
text_in names k low = record { place = suc k; stands = slice_get-get_or names k [] low }

texts_inside : (names : List (List ℕ)) (d : Deed) → IsDeedInRange (length names) d → (y : List ℕ)
    → IsIn (texts names d) y → IsIn names y
texts_inside names (Rewrite r w) h y k = each_of_two (IsIn names) (get_or names r []) (get_or names w [])
    (text_in names r h.0) (text_in names w h.1) y k
texts_inside names (Move s) h y k = absurd (not_in_empty y k)

no_slash : (name : List ℕ) → is_symbol name ≡ true → bytes_eq name slash ≡ false
no_slash name form = elim (cases_Bool (bytes_eq name slash)) [
  | inl hit ↦
      let same : name ≡ slash = (bytes_eq-Decides name slash).0 hit in
      let none : is_symbol slash ≡ true = subst (λ n. is_symbol n ≡ true) same form in
      absurd (false≢true none)
  | inr miss ↦ miss
]

said_texts : (names : List (List ℕ)) (d : Deed) → IsDeedInRange (length names) d → list_all is_symbol names ≡ true
    → (if bytes_eq (read_field (said_deed names d)) slash then [] else read_field (said_deed names d)
    ∷ act_field (said_deed names d) ∷ []) ≡ texts names d
said_texts names (Rewrite r w) h forms = rw (no_slash (get_or names r [])
    (all-at is_symbol names r (get_or names r []) forms (slice_get-get_or names r [] h.0))) refl
said_texts names (Move s) h forms = refl

-- the texts of each tape in the entries of quadruples
module _ (names : Naming) (states : ℕ) (one_forms : list_all is_symbol names.one ≡ true)
    (two_forms : list_all is_symbol names.two ≡ true) (three_forms : list_all is_symbol names.three ≡ true) where
  tail_range : (r : Rule ℕ) (rs : List (Rule ℕ)) → All (IsRuleInRange states (counts_of names)) (r ∷ rs)
      → All (IsRuleInRange states (counts_of names)) rs
  tail_range r rs h = λ k d inside. h (suc k) d (omega arith)

  entries_one : (rs : List (Rule ℕ)) → All (IsRuleInRange states (counts_of names)) rs
      → symbol_names_in 1 (quadruple_rows_by names rs) ≡ flat_map (λ (r : Rule ℕ). texts names.one r.one) rs
  entries_one [] h = refl
  entries_one (r ∷ rs) h = let first = h 0 r (omega arith) in λ i. said_texts names.one r.one first.deeds.0 one_forms i
      ++ entries_one rs (tail_range r rs h) i

  entries_two : (rs : List (Rule ℕ)) → All (IsRuleInRange states (counts_of names)) rs
      → symbol_names_in 2 (quadruple_rows_by names rs) ≡ flat_map (λ (r : Rule ℕ). texts names.two r.two) rs
  entries_two [] h = refl
  entries_two (r ∷ rs) h = let first = h 0 r (omega arith) in λ i. said_texts names.two r.two first.deeds.1.0 two_forms
      i ++ entries_two rs (tail_range r rs h) i

  entries_three : (rs : List (Rule ℕ)) → All (IsRuleInRange states (counts_of names)) rs
      → symbol_names_in 3 (quadruple_rows_by names rs) ≡ flat_map (λ (r : Rule ℕ). texts names.three r.three) rs
  entries_three [] h = refl
  entries_three (r ∷ rs) h = let first = h 0 r (omega arith) in λ i. said_texts names.three r.three first.deeds.1.1.0
      three_forms i ++ entries_three rs (tail_range r rs h) i

-- the deeds are those of Bennett's list
flat_map-renamed : (f : ℕ → Name) (g : Rule ℕ → List (List ℕ)) (k : Rule Name → List (List ℕ))
    → ((r : Rule ℕ) → g r ≡ k (renamed f r)) → (rs : List (Rule ℕ)) → flat_map g rs ≡ flat_map k (rename f rs)
flat_map-renamed f g k same [] = refl
flat_map-renamed f g k same (r ∷ rs) = λ i. same r i ++ flat_map-renamed f g k same rs i

-- ---- the pieces of Bennett's list

regroup : {X : Type 0} (c a b d e f r : List X) → (c ++ (((((a ++ b) ++ d) ++ e) ++ f))) ++ r
    ≡ ((c ++ a) ++ b) ++ (((d ++ e) ++ f) ++ r)
regroup c a b d e f r = simp append_assoc

module _ (p : Program) where
  abbrev front : List (Rule Name)
  front = compute_rules p.quints ++ (begins_copy (final_of p.quints) (length p.quints) ∷ goes_right ∷ [])

  abbrev copied : List (Rule Name)
  copied = map (copies_letter (length p.quints)) (nonblank_symbols p.symbols)

  abbrev back : List (Rule Name)
  back = (((turns_left (length p.quints) ∷ goes_left ∷ []) ++ map (passes_letter (length p.quints))
      (nonblank_symbols p.symbols)) ++ (ends_copy (final_of p.quints) (length p.quints) ∷ [])) ++ retrace_rules p.quints

  in_pieces : bennett p ≡ (front ++ copied) ++ back
  unfolding bennett
  in_pieces = regroup (compute_rules p.quints) (begins_copy (final_of p.quints) (length p.quints) ∷ goes_right ∷ [])
      copied (turns_left (length p.quints) ∷ goes_left ∷ []) (map (passes_letter (length p.quints))
      (nonblank_symbols p.symbols)) (ends_copy (final_of p.quints) (length p.quints) ∷ []) (retrace_rules p.quints)

  abbrev after_compute : List (Rule Name)
  after_compute = copy_rules (final_of p.quints) (length p.quints) p.symbols ++ retrace_rules p.quints

  in_two : bennett p ≡ compute_rules p.quints ++ after_compute
  unfolding bennett
  in_two = append_assoc (compute_rules p.quints) (copy_rules (final_of p.quints) (length p.quints) p.symbols)
      (retrace_rules p.quints)

  -- texts of quadruples in range are names
  list_inside : (g : Rule Name → List (List ℕ)) (names : List (List ℕ))
      → ((r : Rule Name) → IsIn (bennett p) r → (y : List ℕ) → IsIn (g r) y → IsIn names y) → (rs : List (Rule Name))
      → ((r : Rule Name) → IsIn rs r → IsIn (bennett p) r) → (y : List ℕ) → IsIn (flat_map g rs) y → IsIn names y
  list_inside g names each rs among y h =
      let found = from_flat_map g rs y h in
      each found.0 (among found.0 found.1) y found.2

-- tape 1: the texts of compute are those of the table's letters
letters_read : (letters : List ℕ) (k : ℕ) (qs : List Quint) (states : ℕ) → All (IsInRange states (length letters)) qs
    → flat_map (λ (r : Rule Name). texts (map one_byte letters) r.one) (flat_map compute_pair (enumerate_from k qs))
    ≡ map one_byte (flat_map (λ (q : Quint). get_or letters q.read 0 ∷ get_or letters q.write 0 ∷ []) qs)
letters_read letters k [] states h = refl
letters_read letters k (q ∷ qs) states h =
    let range = h 0 q (omega arith) in
    let read : get_or (map one_byte letters) q.read [] ≡ one_byte (get_or letters q.read 0) =
    get_or-map one_byte letters q.read 0 [] range.read in
    let write : get_or (map one_byte letters) q.write [] ≡ one_byte (get_or letters q.write 0) =
    get_or-map one_byte letters q.write 0 [] range.write in
    λ i. read i ∷ write i ∷ letters_read letters (k + 1) qs states (λ j d inside. h (suc j) d (omega arith)) i

letters_of_rows : (names : List (List ℕ)) (letters : List ℕ) (qs : List Quint)
    → letters_in (table_rows names letters qs) ≡ flat_map (λ (q : Quint). get_or letters q.read 0
    ∷ get_or letters q.write 0 ∷ []) qs
letters_of_rows names letters [] = refl
letters_of_rows names letters (q ∷ qs) = λ i. get_or letters q.read 0 ∷ get_or letters q.write 0
    ∷ letters_of_rows names letters qs i

-- tape 2: the texts of compute are the blank and each number in turn
numbers_read : (names : List (List ℕ)) (k : ℕ) (qs : List Quint)
    → flat_map (λ (r : Rule Name). texts names r.two) (flat_map compute_pair (enumerate_from k qs))
    ≡ flat_map (λ m. get_or names 0 [] ∷ get_or names m [] ∷ []) (range_with_len k (length qs))
numbers_read names k [] = refl
numbers_read names k (q ∷ qs) = λ i. get_or names 0 [] ∷ get_or names k [] ∷ numbers_read names (k + 1) qs i

-- tape 3: the texts of copying are the blank and each letter in turn
copies_read : (names : List (List ℕ)) (n : ℕ) (xs : List ℕ) → flat_map (λ (r : Rule Name). texts names r.three)
    (map (copies_letter n) xs) ≡ flat_map (λ x. get_or names 0 [] ∷ get_or names x [] ∷ []) xs
copies_read names n [] = refl
copies_read names n (x ∷ xs) = λ i. get_or names 0 [] ∷ get_or names x [] ∷ copies_read names n xs i

-- before it there are blanks alone
only_first : (names : List (List ℕ)) (k : ℕ) (qs : List Quint) (y : List ℕ)
    → IsIn (flat_map (λ (r : Rule Name). texts names r.three) (flat_map compute_pair (enumerate_from k qs))) y
    → get_or names 0 [] ≡ y
only_first names k [] y h = absurd (not_in_empty y h)
only_first names k (q ∷ qs) y h = elim (in_cases (get_or names 0 []) y _ h) [
  | inl same ↦ same
  | inr more ↦ elim (in_cases (get_or names 0 []) y _ more) [
    | inl same ↦ same
    | inr further ↦ only_first names (k + 1) qs y further
  ]
]

-- the texts of states
states_read : (names : Naming) (s : Translation) (states : ℕ) (symbols : List ℕ)
    → names.states ≡ map bennett_state_text s.names → states ≡ length s.names → (rs : List (Rule ℕ))
    → All (IsRuleInRange states symbols) rs → states_in_rows (quadruple_rows_by names rs)
    ≡ map bennett_state_text (states_in (rename (name_of s) rs))
states_read names s states symbols e count [] h = refl
states_read names s states symbols e count (r ∷ rs) h =
    let range = h 0 r (omega arith) in
    let from : get_or names.states r.from [] ≡ bennett_state_text (name_of s r.from) =
    ap (λ (ns : List (List ℕ)). get_or ns r.from []) e ∙ get_or-map bennett_state_text s.names r.from GoRight []
    (omega (arith, range.from)) in
    let to : get_or names.states r.to [] ≡ bennett_state_text (name_of s r.to) =
    ap (λ (ns : List (List ℕ)). get_or ns r.to []) e ∙ get_or-map bennett_state_text s.names r.to GoRight []
    (omega (arith, range.to)) in
    λ i. from i ∷ to i ∷ states_read names s states symbols e count rs (λ k d inside. h (suc k) d (omega arith)) i

numbers_once : (count j k : ℕ) → count ≤ 4000 → j < count + 1 → k < count + 1
    → get_or (number_names count) j [] ≡ get_or (number_names count) k [] → j ≡ k
numbers_once count zero zero few low high e = refl
numbers_once count zero (suc k) few low high e = absurd (no_blank (1 + k) (omega arith)
    (e ∙ get_or-map-range_with_len decimal 1 count k (1 + k) [] (omega arith) refl))
numbers_once count (suc j) zero few low high e = absurd (no_blank (1 + j) (omega arith)
    (sym e ∙ get_or-map-range_with_len decimal 1 count j (1 + j) [] (omega arith) refl))
numbers_once count (suc j) (suc k) few low high e =
    let same : 1 + j ≡ 1 + k = decimal_injective (1 + j) (1 + k) (omega arith) (omega arith)
    (sym (get_or-map-range_with_len decimal 1 count j (1 + j) [] (omega arith) refl) ∙ e
    ∙ get_or-map-range_with_len decimal 1 count k (1 + k) [] (omega arith) refl) in
    omega arith

first_blank : (b : List ℕ) → firsts (b ∷ []) ≡ b ∷ []
unfolding firsts_by
first_blank b = refl

-- ---- all together

module _ (t : Named) (s : Translation) (machine : IsMachine t.machine) (table : IsTable t) (fits : FitsTable t.machine)
    (listed : ListHasNames) (ranges : ListIsInRange) (has_length : ListHasLength) (h : IsTranslation t.machine s) where
  abbrev p : Program
  p = t.machine

  abbrev n : Naming
  n = translation_names t s

  same_states : s.machine.states ≡ length n.states
  same_states = h.states ∙ sym (length-map s.names bennett_state_text)

  letter_count : p.symbols ≡ length n.one
  letter_count = count_letters t s machine table fits listed h

  same_symbols : s.machine.symbols ≡ counts_of n
  same_symbols = h.symbols ∙ (λ i. letter_count i ∷ sym (length-number_names (length p.quints)) i ∷ letter_count i ∷ [])

  rules_range : All (IsRuleInRange (length n.states) (counts_of n)) s.machine.rules
  rules_range =
      let P : ℕ → Type 0 = λ k. All (IsRuleInRange k s.machine.symbols) s.machine.rules in
      let Q : List ℕ → Type 0 = λ zs. All (IsRuleInRange (length n.states) zs) s.machine.rules in
      subst Q same_symbols (subst P same_states h.machine.in_range)

  one_forms : list_all is_symbol n.one ≡ true
  one_forms = all_letters_form t s machine table fits listed h

  two_forms : list_all is_symbol n.two ≡ true
  two_forms = all_numbers_form t s machine table fits listed h

  -- ---- states

  name_small : (q : Name) → IsIn (states_in (bennett p)) q → (print_of q).number < 2 ^ 62
  name_small q k = let bound = number_bound p q machine ((listed p machine.some q).0 k) in omega
      (arith, fits.states, fits.quints)

  states_first : n.states ≡ firsts (states_in_rows (quadruple_rows_by n s.machine.rules))
  states_first =
      ap (map bennett_state_text) h.names
      ∙ sym (firsts-map is_same is_same-Decides bytes_eq bytes_eq-Decides bennett_state_text (states_in (bennett p))
      (λ a b k m e. state_text-once a b (name_small a k) (name_small b m) e))
      ∙ ap firsts (sym (states_read n s (length n.states) (counts_of n) refl (length-map s.names bennett_state_text)
      s.machine.rules rules_range ∙ ap (λ rs. map bennett_state_text (states_in rs)) h.rules))

  -- ---- tape 1

  abbrev on_one : Rule Name → List (List ℕ)
  on_one r = texts n.one r.one

  one_inside : (r : Rule Name) → IsIn (bennett p) r → (y : List ℕ) → IsIn (on_one r) y → IsIn n.one y
  one_inside r k y there = texts_inside n.one r.one (subst (λ z. IsDeedInRange z r.one) letter_count
      (ranges p machine r k).0) y there

  abbrev read_letters : List ℕ
  read_letters = letters_in (table_rows t.names t.letters p.quints)

  one_compute : flat_map on_one (compute_rules p.quints) ≡ map one_byte read_letters
  one_compute = letters_read t.letters 1 p.quints (length t.names) table.spelled.in_range
      ∙ ap (map one_byte) (sym (letters_of_rows t.names t.letters p.quints))

  one_first : n.one ≡ firsts (blank_name ∷ symbol_names_in 1 (quadruple_rows_by n s.machine.rules))
  one_first =
      let R : List (List ℕ) = flat_map on_one (after_compute p) in
      let L : List (List ℕ) = map one_byte (95 ∷ read_letters) in
      let rows : symbol_names_in 1 (quadruple_rows_by n s.machine.rules) ≡ map one_byte read_letters ++ R =
      entries_one n (length n.states) one_forms two_forms one_forms s.machine.rules rules_range
      ∙ flat_map-renamed (name_of s) (λ (r : Rule ℕ). texts n.one r.one) on_one (λ r. refl) s.machine.rules
      ∙ ap (flat_map on_one) (h.rules ∙ in_two p) ∙ flat_map-append on_one (compute_rules p.quints) (after_compute p)
      ∙ ap (λ xs. xs ++ R) one_compute
      in
      let known : (y : List ℕ) → IsIn R y → IsIn L y = λ y k.
      let inside : IsIn n.one y = list_inside p on_one n.one one_inside (after_compute p)
      (λ r m. subst (λ rs. IsIn rs r) (sym (in_two p)) (in_right (compute_rules p.quints) (after_compute p) r m)) y
      k in
      let found = from_map one_byte t.letters y inside in
      let letter : IsIn (95 ∷ read_letters) found.0 = in_firsts nat_eq Decides-eqb (95 ∷ read_letters) found.0
      (subst (λ bs. IsIn bs found.0) table.spelled.letters_by_first found.1) in
      subst (IsIn L) found.2 (in_map one_byte (95 ∷ read_letters) found.0 letter)
      in
      ap (map one_byte) table.spelled.letters_by_first
      ∙ sym (firsts-map nat_eq Decides-eqb bytes_eq bytes_eq-Decides one_byte (95 ∷ read_letters) (λ a b k m e. cc))
      ∙ sym (firsts-stay bytes_eq bytes_eq-Decides L R known)
      ∙ ap (λ xs. firsts (blank_name ∷ xs)) (sym rows)

  -- ---- tape 2

  abbrev on_two : Rule Name → List (List ℕ)
  on_two r = texts n.two r.two

  two_inside : (r : Rule Name) → IsIn (bennett p) r → (y : List ℕ) → IsIn (on_two r) y → IsIn n.two y
  two_inside r k y there = texts_inside n.two r.two (subst (λ z. IsDeedInRange z r.two)
      (sym (length-number_names (length p.quints))) (ranges p machine r k).1.0) y there

  two_first : n.two ≡ firsts (blank_name ∷ symbol_names_in 2 (quadruple_rows_by n s.machine.rules))
  two_first =
      let N : ℕ = length p.quints in
      let text : ℕ → List ℕ = λ k. get_or n.two k [] in
      let R : List (List ℕ) = flat_map on_two (after_compute p) in
      let C : List (List ℕ) = flat_map on_two (compute_rules p.quints) in
      let rows : symbol_names_in 2 (quadruple_rows_by n s.machine.rules) ≡ C ++ R =
      entries_two n (length n.states) one_forms two_forms one_forms s.machine.rules rules_range
      ∙ flat_map-renamed (name_of s) (λ (r : Rule ℕ). texts n.two r.two) on_two (λ r. refl) s.machine.rules
      ∙ ap (flat_map on_two) (h.rules ∙ in_two p) ∙ flat_map-append on_two (compute_rules p.quints) (after_compute p)
      in
      let count : 1 + N ≡ length n.two = sym (length-number_names N ∙ omega arith) in
      let whole : firsts (blank_name ∷ C) ≡ n.two =
      ap (λ xs. firsts (blank_name ∷ xs)) (numbers_read n.two 1 p.quints)
      ∙ firsts-pairs text (1 + N) (λ j k low high e. numbers_once N j k fits.quints (omega arith) (omega arith) e) N 1
      (blank_name ∷ []) (omega arith) (omega arith) (first_blank blank_name)
      ∙ ap (λ m. map text (range_with_len 0 m)) count ∙ all_texts n.two
      in
      let known : (y : List ℕ) → IsIn R y → IsIn (blank_name ∷ C) y = λ y k.
      let inside : IsIn n.two y = list_inside p on_two n.two two_inside (after_compute p)
      (λ r m. subst (λ rs. IsIn rs r) (sym (in_two p)) (in_right (compute_rules p.quints) (after_compute p) r m)) y
      k in
      in_firsts bytes_eq bytes_eq-Decides (blank_name ∷ C) y (subst (λ ns. IsIn ns y) (sym whole) inside)
      in
      sym whole ∙ sym (firsts-stay bytes_eq bytes_eq-Decides (blank_name ∷ C) R known)
      ∙ ap (λ xs. firsts (blank_name ∷ xs)) (sym rows)

  -- ---- tape 3

  abbrev on_three : Rule Name → List (List ℕ)
  on_three r = texts n.three r.three

  three_inside : (r : Rule Name) → IsIn (bennett p) r → (y : List ℕ) → IsIn (on_three r) y → IsIn n.three y
  three_inside r k y there = texts_inside n.three r.three (subst (λ z. IsDeedInRange z r.three) letter_count
      (ranges p machine r k).1.1.0) y there

  letters_once : (j k : ℕ) → j < length n.three → k < length n.three → get_or n.three j [] ≡ get_or n.three k [] → j ≡ k
  letters_once j k low high e =
      let long : length n.three ≡ length t.letters = length-map t.letters one_byte in
      let bytes : one_byte (get_or t.letters j 0) ≡ one_byte (get_or t.letters k 0) =
      sym (get_or-map one_byte t.letters j 0 [] (omega arith)) ∙ e
      ∙ get_or-map one_byte t.letters k 0 [] (omega arith) in
      let same : get_or t.letters j 0 ≡ get_or t.letters k 0 = cc in
      one_symbol t table j k (get_or t.letters k 0) (slice_get-get_or t.letters j 0 (omega arith) ∙ ap Some same)
      (slice_get-get_or t.letters k 0 (omega arith))

  three_first : n.three ≡ firsts (blank_name ∷ symbol_names_in 3 (quadruple_rows_by n s.machine.rules))
  three_first =
      let text : ℕ → List ℕ = λ k. get_or n.three k [] in
      let some : 0 < p.symbols = some_symbols p machine in
      let zero_blank : text 0 ≡ blank_name = get_or-map one_byte t.letters 0 0 []
      (omega (arith, letter_count, length-map t.letters one_byte))
      ∙ ap one_byte (get_or_from_slice_get t.letters 0 95 0 (blank_first t table)) in
      let F : List (List ℕ) = flat_map on_three (front p) in
      let L : List (List ℕ) = flat_map on_three (copied p) in
      let R : List (List ℕ) = flat_map on_three (back p) in
      let rows : symbol_names_in 3 (quadruple_rows_by n s.machine.rules) ≡ (F ++ L) ++ R =
      entries_three n (length n.states) one_forms two_forms one_forms s.machine.rules rules_range
      ∙ flat_map-renamed (name_of s) (λ (r : Rule ℕ). texts n.three r.three) on_three (λ r. refl) s.machine.rules
      ∙ ap (flat_map on_three) (h.rules ∙ in_pieces p) ∙ flat_map-append on_three (front p ++ copied p) (back p)
      ∙ ap (λ xs. xs ++ R) (flat_map-append on_three (front p) (copied p))
      in
      let blanks : (y : List ℕ) → IsIn F y → IsIn (blank_name ∷ []) y = λ y k.
      let same : text 0 ≡ y = elim (in_append (flat_map on_three (compute_rules p.quints)) (text 0 ∷ text 0 ∷ []) y
      (subst (λ xs. IsIn xs y) (flat_map-append on_three (compute_rules p.quints)
      (begins_copy (final_of p.quints) (length p.quints) ∷ goes_right ∷ [])) k)) [
        | inl computes ↦ only_first n.three 1 p.quints y computes
        | inr begins ↦ each_of_two (λ z. text 0 ≡ z) (text 0) (text 0) refl refl y begins
      ] in
      subst (IsIn (blank_name ∷ [])) (sym zero_blank ∙ same) (in_head blank_name [])
      in
      let start : firsts (blank_name ∷ F) ≡ map text (range_with_len 0 1) =
      firsts-stay bytes_eq bytes_eq-Decides (blank_name ∷ []) F blanks ∙ first_blank blank_name
      ∙ ap (λ (b : List ℕ). b ∷ []) (sym zero_blank) in
      let sum : 1 + (p.symbols - 1) ≡ length n.three = omega (arith, letter_count) in
      let whole : firsts ((blank_name ∷ F) ++ L) ≡ n.three =
      ap (λ xs. firsts ((blank_name ∷ F) ++ xs)) (copies_read n.three (length p.quints) (nonblank_symbols p.symbols))
      ∙ firsts-pairs text (length n.three) letters_once (p.symbols - 1) 1 (blank_name ∷ F) (omega arith) (omega arith)
      start
      ∙ ap (λ m. map text (range_with_len 0 m)) sum ∙ all_texts n.three
      in
      let known : (y : List ℕ) → IsIn R y → IsIn ((blank_name ∷ F) ++ L) y = λ y k.
      let inside : IsIn n.three y = list_inside p on_three n.three three_inside (back p)
      (λ r m. subst (λ rs. IsIn rs r) (sym (in_pieces p)) (in_right (front p ++ copied p) (back p) r m)) y k in
      in_firsts bytes_eq bytes_eq-Decides ((blank_name ∷ F) ++ L) y (subst (λ ns. IsIn ns y) (sym whole) inside)
      in
      sym whole ∙ sym (firsts-stay bytes_eq bytes_eq-Decides ((blank_name ∷ F) ++ L) R known)
      ∙ ap (λ xs. firsts (blank_name ∷ xs)) (sym rows)

  -- ---- the table

  pub is_table : QuadTables.IsTable (table_of s.machine n)
  is_table =
      let rules : length s.machine.rules ≡ 4 * length p.quints + 2 * p.symbols + 3 =
      sym (length-map s.machine.rules (renamed (name_of s))) ∙ ap length h.rules
      ∙ has_length p (some_symbols p machine) in
      let long : length (quadruple_rows_by n s.machine.rules) ≡ length s.machine.rules =
      length-map s.machine.rules (λ r. quadruple_entry (said_of_quadruple n r)) in
      record {
        spelled = record {
          rows = refl;
          in_range = rules_range;
          states_by_first = states_first;
          one_by_first = one_first;
          two_by_first = two_first;
          three_by_first = three_first;
          states_form = all_states_form t s machine table fits listed h;
          one_form = one_forms;
          two_form = two_forms;
          three_form = one_forms;
        };
        some = omega arith;
        few = omega (arith, fits.quints, fits.symbols);
        states = same_states;
        symbols = same_symbols;
      }

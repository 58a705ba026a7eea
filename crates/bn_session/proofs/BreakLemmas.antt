-- Breakpoints as they are kept.
use Rattle.std.specs.Prelude.{bytes_eq, ◌≡◌, ◌≢◌, ℕ, ◌<◌, ◌≤◌, ◌==◌, nat_lt, ◌||◌, Bool, true, false, cond, List, []}
use Rattle.std.specs.Prelude.{◌∷◌}
use Rattle.std.specs.Prelude.{◌++◌, length, slice_index_or, slice_set, Option, Some, None, is_some, IsSome, MatchOption}
use Rattle.std.specs.Prelude.{refl}
use Rattle.std.specs.Option.{unwrap_or}
use Rattle.std.specs.Borrow.{Bor}
use Rattle.std.proofs.Common.{sym, ap, subst, ◌∙◌, inl, inr, arith, zero, suc, Vec, Global}
use Rattle.std.proofs.lemmas.Bool.{cases_eq, cases_lt}
use Rattle.std.proofs.lemmas.Bool.Decides.{nat_tests, eqb_tells}
use Rattle.std.proofs.lemmas.List.{get_or-set_same, get_or-set_other, map-append}
use Rattle.std.proofs.lemmas.Option.{same_Some}
use Rattle.std.specs.Map.{lookup}
use Rattle.indexmap.specs.IndexMap.{insert_entry, shift_remove_entry}
use Rattle.slab.specs.Slab.{Slab, get, Updates}
use Rattle.bn_circuits.specs.declared.place.Place.{Place}
use Rattle.bn_circuits.specs.declared.place.Place.TheVariants.{Enter, Left}
use Rattle.bn_session.specs.Labels.{stands}
use Rattle.bn_session.specs.Breakpoints.{Breakpoint, breakpoint, holds, first_label, some_holds, labels_of}
use Rattle.bn_session.specs.Breakpoints.{without_break}
use Rattle.bn_session.specs.Kept.{Entry, condition_at, kept_break, kept_breaks, HaveValues, IsFree, mark_at, IsMarked}
use Rattle.bn_session.specs.Kept.{marked_at, with_mark, AreKept}
use Rattle.bn_session.specs.declared.condition.Condition.{Condition}
use Rattle.bn_session.specs.declared.condition.Condition.TheVariants.{AtState, AtElement, AtLine}

-- a breakpoint holds exactly where there is a first that holds
pub first-some : (place : Place) (moment : Option ℕ) (bs : List Breakpoint)
    → is_some (first_label place moment bs) ≡ some_holds place moment bs
first-some place moment [] = refl
first-some place moment (b ∷ bs) = by (holds place moment b.condition) (first-some place moment bs)
  where
    by : (h : Bool) → is_some (first_label place moment bs) ≡ some_holds place moment bs
        → is_some (cond h (Some b.label) (first_label place moment bs)) ≡ (h || some_holds place moment bs)
    by true later = refl
    by false later = later

-- ---- keys

-- a key without a value is free
pub free_of_vacant : (slab : Slab Condition) (es : List Entry) (marks : List Bool) (key : ℕ) → AreKept slab es marks
    → get slab key ≡ None → IsFree key es
free_of_vacant slab [] marks key kept none = tt
free_of_vacant slab (e ∷ es) marks key (some, free, marked, rest) none = (
  λ same. let there : is_some (get slab key) ≡ true = subst (λ n. is_some (get slab n) ≡ true) same some in clash
      (sym there ∙ ap is_some none),
  free_of_vacant slab es marks key rest none,
)
  where
    clash : true ≡ false → ⊥
    clash e = cc

-- what is done at a free key changes nothing
pub kept_beside : (slab other : Slab Condition) (key : ℕ) (slot : Option Condition) (es : List Entry)
    (marks : List Bool) → Updates slab other key slot → IsFree key es → AreKept slab es marks
    → AreKept other es marks × (kept_breaks other es ≡ kept_breaks slab es)
kept_beside slab other key slot [] marks updates free kept = (tt, refl)
kept_beside slab other key slot (e ∷ es) marks updates (apart, free) (some, fresh, marked, rest) =
    let same : get other e.1 ≡ get slab e.1 = updates.others e.1 apart in
    let condition : condition_at other e.1 ≡ condition_at slab e.1 = ap (λ o. unwrap_or o (AtElement 0)) same in
    let later = kept_beside slab other key slot es marks updates free rest in (
      (subst IsSome (sym same) some, fresh, subst (IsMarked marks) (sym condition) marked, later.0),
      ap (λ x. breakpoint e.0.items x ∷ kept_breaks other es) condition ∙ ap (λ bs. kept_break slab e ∷ bs) later.1,
    )

-- one label more, with a free key that has a value
pub kept_push : (slab : Slab Condition) (es : List Entry) (marks : List Bool) (e : Entry) → AreKept slab es marks
    → IsSome (get slab e.1) → IsFree e.1 es → IsMarked marks (condition_at slab e.1) → AreKept slab (es ++ e ∷ []) marks
kept_push slab [] marks e kept some free marked = (some, tt, marked, tt)
kept_push slab (x ∷ xs) marks e (there, fresh, mark, rest) some (apart, free) marked =
    (there, free_push xs fresh, mark, kept_push slab xs marks e rest some free marked)
  where
    free_push : (ys : List Entry) → IsFree x.1 ys → IsFree x.1 (ys ++ e ∷ [])
    free_push [] h = (λ same. apart (sym same), tt)
    free_push (y ∷ ys) h = (h.0, free_push ys h.1)

-- ---- marks

slice_true : (marks : List Bool) (e f : ℕ) → f < length marks → slice_index_or marks e true ≡ true
    → slice_index_or (slice_set marks f true) e true ≡ true
slice_true marks e f inside h = elim (cases_eq e f) [
  | inl same ↦ subst (λ n. slice_index_or (slice_set marks f true) n true ≡ true) (sym same)
      (get_or-set_same marks f true true inside)
  | inr apart ↦ get_or-set_other marks f e true true apart ∙ h
]

past_true : (marks : List Bool) (e : ℕ) → length marks ≤ e → slice_index_or marks e true ≡ true
past_true [] e h = refl
past_true (m ∷ marks) zero h = absurd (omega arith)
past_true (m ∷ marks) (suc e) h = past_true marks e (omega arith)

still_at : (marks : List Bool) (e f : ℕ) → slice_index_or marks e true ≡ true
    → slice_index_or (marked_at marks f) e true ≡ true
still_at marks e f h = elim (cases_lt f (length marks)) [
  | inl low ↦ (let test : nat_lt f (length marks) ≡ true = grind (arith, nat_tests) in rw test
      (slice_true marks e f low h))
  | inr high ↦ (let test : nat_lt f (length marks) ≡ false = grind (arith, nat_tests) in rw test h)
]

now_at : (marks : List Bool) (e : ℕ) → slice_index_or (marked_at marks e) e true ≡ true
now_at marks e = elim (cases_lt e (length marks)) [
  | inl low ↦ (let test : nat_lt e (length marks) ≡ true = grind (arith, nat_tests) in rw test
      (get_or-set_same marks e true true low))
  | inr high ↦ (let test : nat_lt e (length marks) ≡ false = grind (arith, nat_tests) in rw test
      (past_true marks e high))
]

-- a mark stays, whatever is added
stays_at : (marks : List Bool) (e : ℕ) (added : Condition) → slice_index_or marks e true ≡ true
    → slice_index_or (with_mark marks added) e true ≡ true
stays_at marks e (AtState s) h = h
stays_at marks e (AtElement f) h = still_at marks e f h
stays_at marks e (AtLine f l) h = still_at marks e f h

marked_still : (marks : List Bool) (x added : Condition) → IsMarked marks x → IsMarked (with_mark marks added) x
marked_still marks (AtState s) added h = tt
marked_still marks (AtElement e) added h = stays_at marks e added h
marked_still marks (AtLine e l) added h = stays_at marks e added h

pub marked_now : (marks : List Bool) (x : Condition) → IsMarked (with_mark marks x) x
marked_now marks (AtState s) = tt
marked_now marks (AtElement e) = now_at marks e
marked_now marks (AtLine e l) = now_at marks e

pub kept_marked : (slab : Slab Condition) (es : List Entry) (marks : List Bool) (added : Condition)
    → AreKept slab es marks → AreKept slab es (with_mark marks added)
kept_marked slab [] marks added kept = tt
kept_marked slab (e ∷ es) marks added (some, free, marked, rest) =
    (some, free, marked_still marks (condition_at slab e.1) added marked, kept_marked slab es marks added rest)

-- where there is no mark and no moment, none holds
pub none_holds : (slab : Slab Condition) (es : List Entry) (marks : List Bool) (place : Place) → AreKept slab es marks
    → mark_at marks place ≡ false → some_holds place None (kept_breaks slab es) ≡ false
none_holds slab [] marks place kept none = refl
none_holds slab (e ∷ es) marks place (some, free, marked, rest) none =
    rw (one (condition_at slab e.1) place marked none, none_holds slab es marks place rest none) refl
  where
    other_element : (n f : ℕ) → slice_index_or marks n true ≡ true → slice_index_or marks f true ≡ false
        → (f == n) ≡ false
    other_element n f marked none = elim (eqb_tells f n) [
      | inl same ↦ (let is : f ≡ n = same.1 in absurd (clash (sym marked
          ∙ ap (λ k. slice_index_or marks k true) (sym is) ∙ none)))
      | inr other ↦ other.0
    ]
      where
        clash : true ≡ false → ⊥
        clash e = cc

    one : (x : Condition) (place : Place) → IsMarked marks x → mark_at marks place ≡ false → holds place None x ≡ false
    one (AtState s) place marked none = refl
    one (AtElement n) (Left f line) marked none = refl
    one (AtElement n) (Enter f line) marked none = other_element n f marked none
    one (AtLine n l) (Left f line) marked none = refl
    one (AtLine n l) (Enter f line) marked none = rw (other_element n f marked none) refl

-- ---- a label more, a label less

abbrev same_label : Vec ℕ Global → Vec ℕ Global → Bool
same_label a b = bytes_eq a.items b.items

pub entries_new : (slab : Slab Condition) (es : List Entry) (label : List ℕ) (k : Vec ℕ Global) (key : ℕ)
    → k.items ≡ label → stands label (labels_of (kept_breaks slab es)) ≡ false
    → insert_entry same_label es k key ≡ es ++ (k, key) ∷ []
entries_new slab [] label k key is new = refl
entries_new slab (e ∷ es) label k key is new = by (bytes_eq label e.0.items) refl (entries_new slab es label k key is)
    new
  where
    by : (b : Bool) → bytes_eq label e.0.items ≡ b → (stands label (labels_of (kept_breaks slab es)) ≡ false
        → insert_entry same_label es k key ≡ es ++ (k, key) ∷ [])
        → (b || stands label (labels_of (kept_breaks slab es))) ≡ false
        → insert_entry same_label (e ∷ es) k key ≡ e ∷ es ++ (k, key) ∷ []
    by true same later new = absurd (cc)
    by false other later new =
        let test : bytes_eq k.items e.0.items ≡ false = ap (λ t. bytes_eq t e.0.items) is ∙ other in
        rw test (ap (λ xs. e ∷ xs) (later new))

module _ (label : List ℕ) where
  abbrev Test : Vec ℕ Global → Bool
  Test k = bytes_eq label k.items

  free_lookup : (n key : ℕ) (es : List Entry) → IsFree n es → lookup Test es ≡ Some key → n ≢ key
  free_lookup n key [] free found = absurd (cc)
  free_lookup n key (e ∷ es) (apart, free) found = by (Test e.0) (free_lookup n key es free) found
    where
      by : (b : Bool) → (lookup Test es ≡ Some key → n ≢ key) → cond b (Some e.1) (lookup Test es) ≡ Some key → n ≢ key
      by true later found same = apart (same_Some e.1 key found ∙ sym same)
      by false later found same = later found same

  free_removed : (n : ℕ) (es : List Entry) → IsFree n es → IsFree n (shift_remove_entry Test es)
  free_removed n [] free = tt
  free_removed n (e ∷ es) (apart, free) = by (Test e.0) (free_removed n es free)
    where
      by : (b : Bool) → IsFree n (shift_remove_entry Test es) → IsFree n (cond b es (e ∷ shift_remove_entry Test es))
      by true later = free
      by false later = (apart, later)

  pub removed : (slab other : Slab Condition) (key : ℕ) (es : List Entry) (marks : List Bool)
      → lookup Test es ≡ Some key → Updates slab other key None → AreKept slab es marks
      → AreKept other (shift_remove_entry Test es) marks × (kept_breaks other (shift_remove_entry Test es)
      ≡ without_break label (kept_breaks slab es))
  removed slab other key [] marks found updates kept = (tt, refl)
  removed slab other key (e ∷ es) marks found updates (some, free, marked, rest) =
      by (Test e.0) (λ h. removed slab other key es marks h updates rest) found
    where
      by : (b : Bool) → (lookup Test es ≡ Some key → AreKept other (shift_remove_entry Test es) marks
          × (kept_breaks other (shift_remove_entry Test es) ≡ without_break label (kept_breaks slab es)))
          → cond b (Some e.1) (lookup Test es) ≡ Some key
          → AreKept other (cond b es (e ∷ shift_remove_entry Test es)) marks
          × (kept_breaks other (cond b es (e ∷ shift_remove_entry Test es))
          ≡ cond b (kept_breaks slab es) (kept_break slab e ∷ without_break label (kept_breaks slab es)))
      by true later found = kept_beside slab other key None es marks updates
          (subst (λ n. IsFree n es) (same_Some e.1 key found) free) rest
      by false later found =
          let rest_of = later found in
          let apart : e.1 ≢ key = free_lookup e.1 key es free found in
          let same : get other e.1 ≡ get slab e.1 = updates.others e.1 apart in
          let condition : condition_at other e.1 ≡ condition_at slab e.1 = ap (λ o. unwrap_or o (AtElement 0)) same in (
            (
              subst IsSome (sym same) some,
              free_removed e.1 es free,
              subst (IsMarked marks) (sym condition) marked,
              rest_of.0,
            ),
            ap (λ x. breakpoint e.0.items x ∷ kept_breaks other (shift_remove_entry Test es)) condition
                ∙ ap (λ bs. kept_break slab e ∷ bs) rest_of.1,
          )

  pub not_removed : (slab : Slab Condition) (es : List Entry) → lookup Test es ≡ None
      → without_break label (kept_breaks slab es) ≡ kept_breaks slab es
  not_removed slab [] none = refl
  not_removed slab (e ∷ es) none = by (Test e.0) (not_removed slab es) none
    where
      by : (b : Bool) → (lookup Test es ≡ None → without_break label (kept_breaks slab es) ≡ kept_breaks slab es)
          → cond b (Some e.1) (lookup Test es) ≡ None
          → cond b (kept_breaks slab es) (kept_break slab e ∷ without_break label (kept_breaks slab es))
          ≡ kept_break slab e ∷ kept_breaks slab es
      by true later none = absurd (cc)
      by false later none = ap (λ bs. kept_break slab e ∷ bs) (later none)

-- ---- the first that holds

pub kept_values : (slab : Slab Condition) (es : List Entry) (marks : List Bool) → AreKept slab es marks
    → HaveValues slab es
kept_values slab [] marks kept = tt
kept_values slab (e ∷ es) marks (some, free, marked, rest) = (some, kept_values slab es marks rest)

-- ---- what is done to the slab

-- where all keys have what they had
pub kept_same : (slab other : Slab Condition) (es : List Entry) (marks : List Bool)
    → ((key : ℕ) → get other key ≡ get slab key) → AreKept slab es marks → AreKept other es marks
kept_same slab other [] marks same kept = tt
kept_same slab other (e ∷ es) marks same (some, free, marked, rest) =
    let condition : condition_at other e.1 ≡ condition_at slab e.1 = ap (λ o. unwrap_or o (AtElement 0)) (same e.1) in (
      subst IsSome (sym (same e.1)) some,
      free,
      subst (IsMarked marks) (sym condition) marked,
      kept_same slab other es marks same rest,
    )

-- a value that is taken out again
pub taken_again : (slab more other : Slab Condition) (key : ℕ) (x : Condition) → get slab key ≡ None
    → Updates slab more key (Some x) → Updates more other key None → (k : ℕ) → get other k ≡ get slab k
taken_again slab more other key x none inserted taken k = elim (cases_eq k key) [
  | inl same ↦ ap (get other) same ∙ taken.changed ∙ sym none ∙ ap (get slab) (sym same)
  | inr apart ↦ taken.others k apart ∙ inserted.others k apart
]

-- one more breakpoint
pub added : (slab other : Slab Condition) (es more : List Entry) (marks new : List Bool) (label : List ℕ)
    (k : Vec ℕ Global) (key : ℕ) (x : Condition) → AreKept slab es marks → get slab key ≡ None
    → Updates slab other key (Some x) → k.items ≡ label
    → stands label (labels_of (kept_breaks slab es)) ≡ false → more ≡ insert_entry same_label es k key
    → new ≡ with_mark marks x → AreKept other more new × (kept_breaks other more
    ≡ kept_breaks slab es ++ breakpoint label x ∷ [])
added slab other es more marks new label k key x kept none updates is fresh entries marks_are =
    let free = free_of_vacant slab es marks key kept none in
    let beside = kept_beside slab other key (Some x) es marks updates free kept in
    let all : more ≡ es ++ (k, key) ∷ [] = entries ∙ entries_new slab es label k key is fresh in
    let there : IsSome (get other key) = subst IsSome (sym updates.changed) refl in
    let condition : condition_at other key ≡ x = ap (λ o. unwrap_or o (AtElement 0)) updates.changed in
    let marked : IsMarked (with_mark marks x) (condition_at other key) =
    subst (IsMarked (with_mark marks x)) (sym condition) (marked_now marks x) in
    let whole = kept_push other es (with_mark marks x) (k, key) (kept_marked other es marks x beside.0) there free
    marked in (
      subst (λ ms. AreKept other more ms) (sym marks_are) (subst (λ xs. AreKept other xs (with_mark marks x)) (sym all)
          whole),
      ap (kept_breaks other) all ∙ map-append (kept_break other) es ((k, key) ∷ [])
          ∙ ap (λ bs. bs ++ kept_break other (k, key) ∷ []) beside.1
          ∙ ap (λ b. kept_breaks slab es ++ b ∷ []) (ap (λ l. breakpoint l (condition_at other key)) is
          ∙ ap (breakpoint label) condition),
    )

-- where there is no mark and no moment, none holds
pub no_moment : (slab : Slab Condition) (es : List Entry) (marks : List Bool) (place : Place) (moment : Option ℕ)
    → AreKept slab es marks → mark_at marks place ≡ false → is_some moment ≡ false
    → some_holds place moment (kept_breaks slab es) ≡ false
no_moment slab es marks place None kept none h = none_holds slab es marks place kept none
no_moment slab es marks place (Some state) kept none h = absurd (cc)

-- a label is answered exactly where there is one
pub same_answer : (o : Option (Bor (List ℕ))) (p : Option (List ℕ))
    → MatchOption o (p ≡ None) (λ label. p ≡ Some label.now) → is_some o ≡ is_some p
same_answer None p h = ap is_some (sym h)
same_answer (Some label) p h = ap is_some (sym h)

-- Where the first fault of a table's entries lies, and what a reader that takes in one entry after another keeps.
use Rattle.std.proofs.Common.{◌≡◌, ◌<◌, ◌≤◌, ◌+◌, ◌∷◌, ◌++◌, ◌∙◌, ℕ, Bool, true, false, not, List, [], length, map}
use Rattle.std.proofs.Common.{Option, Some, None, refl, sym, ap, inl, inr, arith, append_assoc, length-append, nat_lt}
use Rattle.std.proofs.Common.{if◌then◌else◌, All}
use Rattle.std.proofs.lemmas.Bool.{cases_Bool, ltb-false, le-ltb, lt-ltb}
use Rattle.std.proofs.lemmas.List.{append-nil, length-map}
use Rattle.std.proofs.lemmas.List.Elements.{All-head, All-tail}
use Rattle.bn_csv.specs.Faults.{else_fault, fault_from, first_fault, limited}

-- a test that makes no fault is passed
pub passed : {X : Type 0} (b : Bool) (x : X) (rest : Option X) → (if not b then Some x else rest) ≡ None
    → (b ≡ true) × (rest ≡ None)
passed true x rest e = (refl, e)
passed false x rest e = cc e

-- neither of two faults
pub neither : {F : Type 0} (first later : Option F) → else_fault first later ≡ None → (first ≡ None) × (later ≡ None)
neither None later e = (refl, e)
neither (Some fault) later e = cc e

-- an entry without a fault isn't too many, and its form has none
pub in_number : {F : Type 0} (most : ℕ) (too_many : ℕ → F) (form_fault : ℕ → List (List ℕ) → Option F) (n : ℕ)
    (fields : List (List ℕ))
    → limited most too_many form_fault n fields ≡ None → (n ≤ most) × (form_fault n fields ≡ None)
in_number most too_many form_fault n fields h = elim (cases_Bool (nat_lt most n)) [
  | inl past ↦ let none : Some (too_many n) ≡ None = rw past at h in cc
  | inr within ↦ (ltb-false most n within, rw within at h)
]

-- an entry that isn't too many has its form's fault
pub within_number : {F : Type 0} (most : ℕ) (too_many : ℕ → F) (form_fault : ℕ → List (List ℕ) → Option F) (n : ℕ)
    (fields : List (List ℕ))
    → n ≤ most → limited most too_many form_fault n fields ≡ form_fault n fields
within_number most too_many form_fault n fields few = rw (le-ltb most n few) refl

module _ {F : Type 0} (entry_fault : ℕ → List (List ℕ) → Option F) where
  -- an entry without a fault is passed over
  passing : (n : ℕ) (fields : List (List ℕ)) (rest : List (List (List ℕ))) → entry_fault n fields ≡ None
      → fault_from entry_fault n (fields ∷ rest) ≡ fault_from entry_fault (n + 1) rest
  unfolding fault_from
  passing n fields rest e = rw e refl

  -- the search ends at an entry with a fault
  failing : (n : ℕ) (fields : List (List ℕ)) (rest : List (List (List ℕ))) (fault : F)
      → entry_fault n fields ≡ Some fault
      → fault_from entry_fault n (fields ∷ rest) ≡ Some fault
  unfolding fault_from
  failing n fields rest fault e = rw e refl

  -- where there is no fault, the first entry has none, and there is none behind it
  faultless : (n : ℕ) (fields : List (List ℕ)) (rest : List (List (List ℕ)))
      → fault_from entry_fault n (fields ∷ rest) ≡ None
      → (entry_fault n fields ≡ None) × (fault_from entry_fault (n + 1) rest ≡ None)
  unfolding fault_from
  faultless n fields rest e = neither (entry_fault n fields) (fault_from entry_fault (n + 1) rest) e

  nothing_left : (n : ℕ) → fault_from entry_fault n [] ≡ None
  unfolding fault_from
  nothing_left n = refl

  -- what stays from one entry to the next, where none has a fault, stays to the last
  kept_from : (P : List (List (List ℕ)) → Type 0)
      → ((done : List (List (List ℕ))) (fields : List (List ℕ)) → P done → entry_fault (length done + 1) fields ≡ None
      → P (done ++ fields ∷ []))
      → (n : ℕ) (done rest : List (List (List ℕ))) → P done → n ≡ length done + 1 → fault_from entry_fault n rest ≡ None
      → P (done ++ rest)
  kept_from P step n done [] so count e = rw (append-nil done) so
  kept_from P step n done (fields ∷ rest) so count e =
      let (here, later) = faultless n fields rest e in
      let next : P (done ++ fields ∷ []) = step done fields so (rw (← count) here) in
      let counted : n + 1 ≡ length (done ++ fields ∷ []) + 1 = omega (arith, length-append done (fields ∷ [])) in
      rw (← append_assoc done (fields ∷ []) rest) (kept_from P step (n + 1) (done ++ fields ∷ []) rest next counted
      later)

  -- entries that are made of good things, and aren't too many, have no fault
  none_from : {X : Type 0} (made : X → List (List ℕ)) (Good : X → Type 0) (most : ℕ)
      → ((n : ℕ) (x : X) → n ≤ most → Good x → entry_fault n (made x) ≡ None)
      → (n : ℕ) (xs : List X) → n + length xs ≤ most + 1 → All Good xs → fault_from entry_fault n (map made xs) ≡ None
  none_from made Good most none n [] few h = nothing_left n
  none_from made Good most none n (x ∷ xs) few h =
      passing n (made x) (map made xs) (none n x (omega arith) (All-head Good x xs h))
      ∙ none_from made Good most none (n + 1) xs (omega arith) (All-tail Good x xs h)

module _ {F : Type 0} (most : ℕ) (too_many : ℕ → F) (form_fault : ℕ → List (List ℕ) → Option F) where
  -- The reader has taken in these entries, so many, of all; the others are left, and those taken in have no fault.
  pub record HasTaken (entries taken : List (List (List ℕ))) (count : ℕ) (left : List (List (List ℕ))) : Type 0 where
    pub together : taken ++ left ≡ entries
    pub many : length taken ≡ count
    pub few : count ≤ most
    pub faults : fault_from (limited most too_many form_fault) 1 entries
        ≡ fault_from (limited most too_many form_fault) (count + 1) left

module _ {F : Type 0} {most : ℕ} {too_many : ℕ → F} {form_fault : ℕ → List (List ℕ) → Option F}
    {entries taken : List (List (List ℕ))} where
  -- at the start the reader has taken in none
  pub taken_none : taken ≡ [] → HasTaken most too_many form_fault entries taken 0 entries
  taken_none none = record { together = rw none refl; many = rw none refl; few = omega arith; faults = refl }

module _ {F : Type 0} {most : ℕ} {too_many : ℕ → F} {form_fault : ℕ → List (List ℕ) → Option F}
    {entries taken : List (List (List ℕ))} {count : ℕ} where
  -- it takes in one more, which isn't too many and whose form has no fault
  pub taken_more : {taken2 left rest : List (List (List ℕ))} {fields : List (List ℕ)}
      → HasTaken most too_many form_fault entries taken count left → left ≡ fields ∷ rest
      → taken2 ≡ taken ++ fields ∷ []
      → count + 1 ≤ most → form_fault (count + 1) fields ≡ None
      → HasTaken most too_many form_fault entries taken2 (count + 1) rest
  taken_more {taken2} {left} {rest} {fields} h is more few pass = record {
    together = rw more (append_assoc taken (fields ∷ []) rest ∙ rw (← is) h.together);
    many = rw more (length-append taken (fields ∷ []) ∙ omega (arith, h.many));
    few = few;
    faults = h.faults ∙ rw is (passing (limited most too_many form_fault) (count + 1) fields rest
        (within_number most too_many form_fault (count + 1) fields few ∙ pass));
  }

  -- a fault of the form of the next entry, which isn't too many, is the first of all
  pub fault_of_next : {left rest : List (List (List ℕ))} {fields : List (List ℕ)} {fault : F}
      → HasTaken most too_many form_fault entries taken count left → left ≡ fields ∷ rest
      → count + 1 ≤ most → form_fault (count + 1) fields ≡ Some fault
      → fault_from (limited most too_many form_fault) 1 entries ≡ Some fault
  fault_of_next {left} {rest} {fields} {fault} h is few e =
      h.faults ∙ rw is (failing (limited most too_many form_fault) (count + 1) fields rest fault
      (within_number most too_many form_fault (count + 1) fields few ∙ e))

  -- behind the most, one more is too many
  pub too_many_next : {left rest : List (List (List ℕ))} {fields : List (List ℕ)}
      → HasTaken most too_many form_fault entries taken count left → left ≡ fields ∷ rest
      → count ≡ most → fault_from (limited most too_many form_fault) 1 entries ≡ Some (too_many (count + 1))
  too_many_next {left} {rest} {fields} h is all =
      h.faults ∙ rw is (failing (limited most too_many form_fault) (count + 1) fields rest (too_many (count + 1))
      (rw (lt-ltb most (count + 1) (omega arith)) refl))

  pub all_pass : {left : List (List (List ℕ))} → HasTaken most too_many form_fault entries taken count left → left ≡ []
      → fault_from (limited most too_many form_fault) 1 entries ≡ None
  all_pass {left} h none = h.faults ∙ rw none (nothing_left (limited most too_many form_fault) (count + 1))

module _ {F : Type 0} (empty : F) (entry_fault : ℕ → List (List ℕ) → Option F) where
  -- without an entry, that is the fault
  pub no_entry : (entries : List (List (List ℕ))) → entries ≡ [] → first_fault empty entry_fault entries ≡ Some empty
  unfolding first_fault
  no_entry entries e = rw e refl

  -- a fault of an entry is that of all
  pub first_is : (entries : List (List (List ℕ))) (fault : F) → fault_from entry_fault 1 entries ≡ Some fault
      → first_fault empty entry_fault entries ≡ Some fault
  unfolding fault_from first_fault
  first_is [] fault e = cc e
  first_is (fields ∷ rest) fault e = e

  -- with an entry, the fault is the first entry's, or one behind it
  some_entry : (entries : List (List (List ℕ))) → 0 < length entries
      → first_fault empty entry_fault entries ≡ fault_from entry_fault 1 entries
  unfolding first_fault
  some_entry [] h = absurd (omega arith)
  some_entry (fields ∷ rest) h = refl

  not_empty : (entries : List (List (List ℕ))) → first_fault empty entry_fault entries ≡ None
      → (0 < length entries) × (fault_from entry_fault 1 entries ≡ None)
  unfolding first_fault
  not_empty [] e = cc e
  not_empty (fields ∷ rest) e = (omega arith, e)

  -- Entries without a fault: there is one, and all have what none has and what stays from one to the next.
  pub kept_to_last : (P : List (List (List ℕ)) → Type 0) → P []
      → ((done : List (List (List ℕ))) (fields : List (List ℕ)) → P done → entry_fault (length done + 1) fields ≡ None
      → P (done ++ fields ∷ []))
      → (entries : List (List (List ℕ))) → first_fault empty entry_fault entries ≡ None
      → (0 < length entries) × P entries
  kept_to_last P none step entries e =
      let (some, faultless) = not_empty entries e in
      (some, kept_from entry_fault P step 1 [] entries none refl faultless)

  -- entries that are made of good things have no fault, where there is one and they aren't too many
  pub none_faulty : {X : Type 0} (made : X → List (List ℕ)) (Good : X → Type 0) (most : ℕ)
      → ((n : ℕ) (x : X) → n ≤ most → Good x → entry_fault n (made x) ≡ None)
      → (entries : List (List (List ℕ))) (xs : List X) → map made xs ≡ entries → 0 < length entries
      → length entries ≤ most → All Good xs
      → first_fault empty entry_fault entries ≡ None
  none_faulty made Good most none entries xs rows some few h =
      let count : length entries ≡ length xs = ap (λ (t : List (List (List ℕ))). length t) (sym rows)
      ∙ length-map xs made in
      some_entry entries some ∙ rw (← rows) (none_from entry_fault made Good most none 1 xs (omega arith) h)

-- Names that are numbered rule by rule, and the numbers that they keep.
use Rattle.std.proofs.Common.{◌≡◌, ◌∙◌, ◌≤◌, ◌<◌, ◌+◌, ◌*◌, ◌++◌, ◌∷◌, ℕ, suc, Some, List, [], length, map, take, drop}
use Rattle.std.proofs.Common.{get_or, refl, sym, ap, arith, append_assoc, slice_get, length-append, inl, inr}
use Rattle.std.proofs.lemmas.Bool.{cases_Bool}
use Rattle.std.proofs.lemmas.List.{length-take-le, map-append, take-append-drop, take_more}
use Rattle.std.specs.List.{list_any}
use Rattle.bn_csv.specs.Numbering.{firsts_by}
use Rattle.bn_csv.proofs.NumberingLemmas.{apart-firsts, firsts-append, firsts-push, length-firsts, number_stays}
use Rattle.bn_csv.proofs.NumberingLemmas.{one_number}
use Rattle.bn_machine.specs.declared.quint.Quint.{Quint}
use Rattle.bn_standardise.specs.Numbering.{distinct_names, is_same, names_of, number_of, with_name}
use Rattle.bn_standardise.specs.Standardised.{numbered}
use Rattle.bn_standardise.specs.declared.name.Name.{Name}
use Rattle.bn_standardise.specs.declared.rule.Rule.{Rule}
use Rattle.bn_standardise.proofs.ListLemmas.{nth_in}
use Rattle.bn_standardise.proofs.NumberingLemmas.{names_counted, place_stands, same_decides}

-- ---- names of joined lists

names_of-append : (rs ss : List Rule) → names_of (rs ++ ss) ≡ names_of rs ++ names_of ss
names_of-append [] ss = refl
names_of-append (r ∷ rs) ss = ap (λ (l : List Name). r.state ∷ r.next ∷ l) (names_of-append rs ss)

distinct_push : (names : List Name) (name : Name) → firsts_by is_same (names ++ name ∷ [])
    ≡ with_name (firsts_by is_same names) name
distinct_push names name = firsts-push is_same same_decides names name

-- the names up to a rule's state, and up to its next
up_to_state : (rules : List Rule) (i : ℕ) (d : Rule) → firsts_by is_same
    (names_of (take i rules) ++ (get_or rules i d).state ∷ [])
    ≡ with_name (distinct_names (take i rules)) (get_or rules i d).state
up_to_state rules i d = distinct_push (names_of (take i rules)) (get_or rules i d).state

names_more : (rules : List Rule) (i : ℕ) (d : Rule) → i < length rules
    → names_of (take (i + 1) rules) ≡ (names_of (take i rules) ++ (get_or rules i d).state ∷ [])
    ++ (get_or rules i d).next ∷ []
names_more rules i d inside =
    ap names_of (take_more rules i d inside)
    ∙ names_of-append (take i rules) (get_or rules i d ∷ [])
    ∙ sym (append_assoc (names_of (take i rules)) ((get_or rules i d).state ∷ []) ((get_or rules i d).next ∷ []))

up_to_next : (rules : List Rule) (i : ℕ) (d : Rule) → i < length rules →
    distinct_names (take (i + 1) rules) ≡ with_name (with_name (distinct_names (take i rules)) (get_or rules i d).state)
    (get_or rules i d).next
up_to_next rules i d inside =
    ap (firsts_by is_same) (names_more rules i d inside)
    ∙ distinct_push (names_of (take i rules) ++ (get_or rules i d).state ∷ []) (get_or rules i d).next
    ∙ ap (λ (l : List Name). with_name l (get_or rules i d).next) (up_to_state rules i d)

-- all names begin with those up to a rule's next, and these with those up to its state
all_names : (rules : List Rule) (i : ℕ) → names_of rules ≡ names_of (take (i + 1) rules)
    ++ names_of (drop (i + 1) rules)
all_names rules i = ap names_of (sym (take-append-drop (i + 1) rules))
    ∙ names_of-append (take (i + 1) rules) (drop (i + 1) rules)

-- ---- numbers that stay

-- the number of a name among the names at the front is its number among all
kept_number : (rules : List Rule) (front rest : List Name) (k : ℕ) (n : Name) → names_of rules ≡ front ++ rest
    → slice_get (firsts_by is_same front) k ≡ Some n → number_of rules n ≡ k
kept_number rules front rest k n joined at =
    let more = firsts-append is_same same_decides front rest in
    let whole : distinct_names rules ≡ firsts_by is_same front ++ more.0 = ap (firsts_by is_same) joined ∙ more.1 in
    let there : slice_get (distinct_names rules) k ≡ Some n = ap (λ (l : List Name). slice_get l k) whole
    ∙ number_stays (firsts_by is_same front) more.0 k n at in
    one_number is_same same_decides (distinct_names rules) (number_of rules n) k n
    (apart-firsts is_same same_decides (names_of rules))
    (place_stands (distinct_names rules) n (nth_in (distinct_names rules) (suc k) n there)) there

-- What numbering one more rule comes to: the names after its state and after its next, with the numbers of these.
pub record NumbersRule (rules : List Rule) (i : ℕ) (d : Rule) (names middle after : List Name) (state next : ℕ) : Type 0
  where
    pub inside : i < length rules
    pub before : names ≡ distinct_names (take i rules)
    pub first : middle ≡ with_name names (get_or rules i d).state
    pub second : after ≡ with_name middle (get_or rules i d).next
    pub state_is : slice_get middle state ≡ Some (get_or rules i d).state
    pub next_is : slice_get after next ≡ Some (get_or rules i d).next

module _ (rules : List Rule) (i : ℕ) (d : Rule) (names middle after : List Name) (state next : ℕ)
    (h : NumbersRule rules i d names middle after state next) where
  middle_is : middle ≡ firsts_by is_same (names_of (take i rules) ++ (get_or rules i d).state ∷ [])
  middle_is = h.first ∙ ap (λ (l : List Name). with_name l (get_or rules i d).state) h.before
      ∙ sym (up_to_state rules i d)

  pub after_is : after ≡ distinct_names (take (i + 1) rules)
  after_is =
      h.second
      ∙ ap (λ (l : List Name). with_name l (get_or rules i d).next)
      (h.first ∙ ap (λ (l : List Name). with_name l (get_or rules i d).state) h.before)
      ∙ sym (up_to_next rules i d h.inside)

  state_number : number_of rules (get_or rules i d).state ≡ state
  state_number =
      let front : List Name = names_of (take i rules) ++ (get_or rules i d).state ∷ [] in
      let rest : List Name = (get_or rules i d).next ∷ [] in
      let joined : names_of rules ≡ front ++ (rest ++ names_of (drop (i + 1) rules)) =
      all_names rules i ∙ ap (λ (l : List Name). l ++ names_of (drop (i + 1) rules)) (names_more rules i d h.inside)
      ∙ append_assoc front rest (names_of (drop (i + 1) rules)) in
      kept_number rules front (rest ++ names_of (drop (i + 1) rules)) state (get_or rules i d).state joined
      (ap (λ (l : List Name). slice_get l state) (sym middle_is) ∙ h.state_is)

  next_number : number_of rules (get_or rules i d).next ≡ next
  next_number =
      kept_number rules (names_of (take (i + 1) rules)) (names_of (drop (i + 1) rules)) next (get_or rules i d).next
      (all_names rules i)
      (ap (λ (l : List Name). slice_get l next) (sym after_is) ∙ h.next_is)

  -- the quintuple with these numbers is that of the rule
  pub quint_is : record {
    state = state;
    read = (get_or rules i d).read;
    write = (get_or rules i d).write;
    shift = (get_or rules i d).shift;
    next = next;
  } ≡ numbered (number_of rules) (get_or rules i d)
  quint_is t = record {
    state = sym state_number t;
    read = (get_or rules i d).read;
    write = (get_or rules i d).write;
    shift = (get_or rules i d).shift;
    next = sym next_number t;
  }

-- one quintuple more
pub quints_more : (rules : List Rule) (i : ℕ) (d : Rule) (quints new : List Quint) (q : Quint) → i < length rules
    → quints ≡ map (numbered (number_of rules)) (take i rules) →
    q ≡ numbered (number_of rules) (get_or rules i d) → new ≡ quints ++ q ∷ []
    → new ≡ map (numbered (number_of rules)) (take (i + 1) rules)
quints_more rules i d quints new q inside before is now =
    now
    ∙ ap (λ (l : List Quint). l ++ q ∷ []) before
    ∙ ap (λ (r : Quint). map (numbered (number_of rules)) (take i rules) ++ r ∷ []) is
    ∙ sym (map-append (numbered (number_of rules)) (take i rules) (get_or rules i d ∷ []))
    ∙ ap (map (numbered (number_of rules))) (sym (take_more rules i d inside))

-- ---- how many names there are

-- there are at most two a rule
pub few_names : (rules : List Rule) (i : ℕ) (names : List Name) → i ≤ length rules
    → names ≡ distinct_names (take i rules) → length names ≤ 2 * i
few_names rules i names inside e =
    let all : length names ≡ length (distinct_names (take i rules)) = ap length e in
    let most : length (distinct_names (take i rules)) ≤ length (names_of (take i rules)) =
    length-firsts is_same same_decides (names_of (take i rules)) in
    let count : length (names_of (take i rules)) ≡ 2 * length (take i rules) = names_counted (take i rules) in
    let front : length (take i rules) ≡ i = length-take-le i rules inside in
    omega (arith, all, most, count, front)

-- one more
pub length-with_name : (names : List Name) (name : Name) → length (with_name names name) ≤ length names + 1
length-with_name names name = elim (cases_Bool (list_any (is_same name) names)) [
  | inl hit ↦ rw hit (omega arith)
  | inr miss ↦ rw miss (omega (arith, length-append names (name ∷ [])))
]

-- no rule has no names
pub none_numbered : (names : List Name) (quints : List Quint) (rules : List Rule) → names ≡ [] → quints ≡ []
    → (names ≡ distinct_names []) × (quints ≡ map (numbered (number_of rules)) [])
unfolding firsts_by
none_numbered names quints rules e f = (e, f)

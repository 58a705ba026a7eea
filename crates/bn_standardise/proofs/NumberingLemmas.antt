-- The numbering by first appearance tells apart all names that the rules have.
use Rattle.std.specs.Prelude.{◌≡◌, ℕ, ◌<◌, Bool, true, false, not, filter, List, [], ◌∷◌, length, map, Some, slice_get}
use Rattle.std.specs.Prelude.{◌+◌, ◌*◌, ◌≤◌, ◌⊎◌}
use Rattle.std.proofs.Common.{refl, sym, subst, ◌∙◌, ap, arith, inl, inr}
use Rattle.std.proofs.lemmas.Bool.{cases_Bool}
use Rattle.std.proofs.lemmas.Bool.Decides.{Decides-eqb}
use Rattle.std.proofs.lemmas.List.{length-map}
use Rattle.std.specs.Bool.{Decides}
use Rattle.bn_csv.specs.Numbering.{firsts_by, AreNumberedByFirst}
use Rattle.bn_csv.proofs.NumberingLemmas.{AreNumbersOf, numbered-by-first, length-firsts}
use Rattle.bn_table.specs.Rows.{states_in, FitsTable}
use Rattle.bn_machine.specs.Machine.{Program, IsMachine, final_of}
use Rattle.bn_lists.specs.Lists.{Has}
use Rattle.bn_standardise.specs.Rules.{own_rule, leaving, rules_of}
use Rattle.bn_standardise.specs.declared.name.Name.{Name}
use Rattle.bn_standardise.specs.declared.name.Name.TheVariants.{First, Own, Last}
use Rattle.bn_standardise.specs.declared.rule.Rule.{Rule}
use Rattle.bn_standardise.specs.Numbering.{distinct_names, is_same, names_of, place_of, number_of, states_of}
use Rattle.bn_standardise.specs.Standardised.{numbered, standardised, numbering_of, Occurs, TellsApart}
use Rattle.bn_standardise.proofs.RuleLemmas.{renamed_in, leaving_in, rules_counted}

-- ---- the test on names

-- a name passes the test with itself
same_itself : (n : Name) → is_same n n ≡ true
same_itself First = refl
same_itself (Own s) = (Decides-eqb s s).1 refl
same_itself Last = refl

-- names that pass the test are one
same_is : (m n : Name) → is_same m n ≡ true → m ≡ n
same_is First First e = refl
same_is First (Own t) e = absurd (cc)
same_is First Last e = absurd (cc)
same_is (Own s) First e = absurd (cc)
same_is (Own s) (Own t) e = ap Own ((Decides-eqb s t).0 e)
same_is (Own s) Last e = absurd (cc)
same_is Last First e = absurd (cc)
same_is Last (Own t) e = absurd (cc)
same_is Last Last e = refl

-- ---- places

-- a name that is in the list stands at its place
pub place_stands : (ms : List Name) (n : Name) → Has ms n → slice_get ms (place_of ms n) ≡ Some n
place_stands [] n h = absurd h
place_stands (m ∷ ms) n h = elim (cases_Bool (is_same m n)) [
  | inl hit ↦ rw hit (ap Some (same_is m n hit))
  | inr miss ↦ rw miss (place_stands ms n (behind h miss))
]
  where
    behind : (n ≡ m) ⊎ Has ms n → is_same m n ≡ false → Has ms n
    behind (inl e) miss = let both : is_same m m ≡ false = ap (is_same m) (sym e) ∙ miss in let clash : true ≡ false =
        sym (same_itself m) ∙ both in absurd (cc)
    behind (inr h) miss = h

-- its place is inside the list
place_inside : (ms : List Name) (n : Name) → Has ms n → place_of ms n < length ms
place_inside [] n h = absurd h
place_inside (m ∷ ms) n h = elim (cases_Bool (is_same m n)) [
  | inl hit ↦ rw hit (omega arith)
  | inr miss ↦ rw miss (let rest = place_inside ms n (behind h miss) in omega (arith, rest))
]
  where
    behind : (n ≡ m) ⊎ Has ms n → is_same m n ≡ false → Has ms n
    behind (inl e) miss = let both : is_same m m ≡ false = ap (is_same m) (sym e) ∙ miss in let clash : true ≡ false =
        sym (same_itself m) ∙ both in absurd (cc)
    behind (inr h) miss = h

-- two names with one place are one
place_once : (ms : List Name) (m n : Name) → Has ms m → Has ms n → place_of ms m ≡ place_of ms n → m ≡ n
place_once ms m n h k e =
    let first = place_stands ms m h in
    let second : slice_get ms (place_of ms m) ≡ Some n = ap (slice_get ms) e ∙ place_stands ms n k in
    cc

-- ---- first appearances

-- a name that passes a test stays in the filtered list
kept : (test : Name → Bool) (ns : List Name) (n : Name) → Has ns n → test n ≡ true → Has (filter test ns) n
kept test [] n h e = absurd h
kept test (m ∷ ms) n (inl same) e = let hit : test m ≡ true = ap test (sym same) ∙ e in rw hit (inl same)
kept test (m ∷ ms) n (inr h) e = elim (cases_Bool (test m)) [
  | inl hit ↦ rw hit (inr (kept test ms n h e))
  | inr miss ↦ rw miss (kept test ms n h e)
]

-- a name of the list appears in it a first time
pub first_appears : (ns : List Name) (n : Name) → Has ns n → Has (firsts_by is_same ns) n
unfolding firsts_by
first_appears [] n h = absurd h
first_appears (m ∷ ms) n (inl e) = inl e
first_appears (m ∷ ms) n (inr h) = elim (cases_Bool (is_same m n)) [
  | inl hit ↦ inl (sym (same_is m n hit))
  | inr miss ↦ inr (kept (λ l. not (is_same m l)) (firsts_by is_same ms) n (first_appears ms n h) (ap not miss))
]

-- both names of a rule are among the rules' names
pub names_in : (rs : List Rule) (r : Rule) → Has rs r → Has (names_of rs) r.state × Has (names_of rs) r.next
names_in [] r h = absurd h
names_in (s ∷ rs) r (inl e) = (inl (ap (λ (t : Rule). t.state) e), inr (inl (ap (λ (t : Rule). t.next) e)))
names_in (s ∷ rs) r (inr h) = let rest = names_in rs r h in (inr (inr rest.0), inr (inr rest.1))

-- the number of a rule's state is below the count of states, and so is that of the next
pub numbers_inside : (rs : List Rule) (r : Rule) → Has rs r → (number_of rs r.state < states_of rs)
    × (number_of rs r.next < states_of rs)
numbers_inside rs r h =
    let names = names_in rs r h in (
      place_inside (distinct_names rs) r.state (first_appears (names_of rs) r.state names.0),
      place_inside (distinct_names rs) r.next (first_appears (names_of rs) r.next names.1),
    )

-- names with one number are one
number_once : (rs : List Rule) (m n : Name) → Has (names_of rs) m → Has (names_of rs) n
    → number_of rs m ≡ number_of rs n → m ≡ n
number_once rs m n h k e = place_once (distinct_names rs) m n (first_appears (names_of rs) m h)
    (first_appears (names_of rs) n k) e

-- ---- names of a machine

-- the new start state is named
start_named : (p : Program) → Has (names_of (rules_of p)) First
start_named p = inl refl

-- the new final state is named
final_named : (p : Program) → Has (names_of (rules_of p)) Last
final_named p = (names_in (rules_of p) (leaving (final_of p.quints)) (leaving_in p)).1

-- each state that occurs is named
own_named : (p : Program) (s : ℕ) → Occurs p.quints s → Has (names_of (rules_of p)) (Own s)
own_named p s occurs =
    let names = names_in (rules_of p) (own_rule occurs.quint) (renamed_in p occurs.quint occurs.stands) in
    elim occurs.names [
      | inl e ↦ subst (λ t. Has (names_of (rules_of p)) (Own t)) e names.0
      | inr e ↦ subst (λ t. Has (names_of (rules_of p)) (Own t)) e names.1
    ]

-- so the numbering tells the names apart
pub tells_apart : (p : Program) → TellsApart (numbering_of p) p
tells_apart p = record {
  ends = λ e. let same : First ≡ Last = number_once (rules_of p) First Last (start_named p) (final_named p) e in absurd
      (cc);
  first = λ s h e. let same : Own s ≡ First = number_once (rules_of p) (Own s) First (own_named p s h) (start_named p) e
      in absurd (cc);
  last = λ s h e. let same : Own s ≡ Last = number_once (rules_of p) (Own s) Last (own_named p s h) (final_named p) e in
      absurd (cc);
  states = λ s t h k e. let same : Own s ≡ Own t = number_once (rules_of p) (Own s) (Own t) (own_named p s h)
      (own_named p t k) e in cc;
}

-- ---- numbers by first appearance

-- the test decides whether two names are one
pub same_decides : (a b : Name) → Decides (is_same a b) (a ≡ b)
same_decides a b = (same_is a b, λ e. ap (is_same a) (sym e) ∙ same_itself a)

-- the numbers in the quintuples are those of the names in the rules
numbers_are : (all rs : List Rule) → ((r : Rule) → Has rs r → Has all r)
    → AreNumbersOf (distinct_names all) (states_in (map (numbered (number_of all)) rs)) (names_of rs)
numbers_are all [] within = tt
numbers_are all (r ∷ rs) within =
    let names = names_in all r (within r (inl refl)) in
    let stands : (n : Name) → Has (names_of all) n → slice_get (distinct_names all) (number_of all n) ≡ Some n =
    λ n h. place_stands (distinct_names all) n (first_appears (names_of all) n h) in
    (stands r.state names.0, (stands r.next names.1, numbers_are all rs (λ s h. within s (inr h))))

-- the numbers in the quintuples are given by first appearance
pub numbered_by_first : (p : Program) → AreNumberedByFirst (states_in (standardised p).quints) (standardised p).states
numbered_by_first p = numbered-by-first is_same same_decides (states_in (standardised p).quints) (names_of (rules_of p))
    (numbers_are (rules_of p) (rules_of p) (λ r h. h))

-- each rule has two names
pub names_counted : (rs : List Rule) → length (names_of rs) ≡ 2 * length rs
names_counted [] = refl
names_counted (r ∷ rs) = let rest = names_counted rs in omega (arith, rest)

-- the machine fits a table
pub fits_table : (p : Program) → IsMachine p → length p.quints + p.symbols + 1 ≤ 4000 → p.symbols ≤ 91
    → FitsTable (standardised p)
fits_table p machine few letters =
    let count : length (standardised p).quints ≡ length p.quints + p.symbols + 1 =
    rules_counted (numbering_of p) p machine in
    let rules : length (standardised p).quints ≡ length (rules_of p) =
    length-map (rules_of p) (numbered (numbering_of p)) in
    let names = names_counted (rules_of p) in
    let most : (standardised p).states ≤ length (names_of (rules_of p)) =
    length-firsts is_same same_decides (names_of (rules_of p)) in
    record {
      numbered = numbered_by_first p;
      quints = omega (arith, count, few);
      states = omega (arith, count, few, rules, names, most);
      symbols = letters;
    }

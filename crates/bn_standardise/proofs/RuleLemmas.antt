-- Lemmas on the rules: which names they have, and which rule is which.
use Rattle.std.specs.Prelude.{◌≡◌, ◌≢◌, ℕ, zero, suc, ◌+◌, ◌-◌, ◌<◌, ◌≤◌, List, [], ◌∷◌, ◌++◌, length, map}
use Rattle.std.proofs.Common.{refl, sym, subst, ◌∙◌, ap, arith, inl, inr, length-append}
use Rattle.std.proofs.lemmas.List.{length-map}
use Rattle.bn_machine.specs.Machine.{Program, IsMachine, start_of, final_of}
use Rattle.bn_machine.specs.declared.quint.Quint.{Quint}
use Rattle.bn_machine.specs.declared.quint.Shift.TheVariants.{Stay}
use Rattle.bn_lists.specs.Lists.{Has}
use Rattle.bn_standardise.specs.Rules.{entering, own_rule, back_over, back_over_all, leaving, middle_of, rules_of}
use Rattle.bn_standardise.specs.declared.name.Name.{Name}
use Rattle.bn_standardise.specs.declared.name.Name.TheVariants.{Own}
use Rattle.bn_standardise.specs.declared.rule.Rule.{Rule}
use Rattle.bn_standardise.specs.Standardised.{numbered, standardised_by, Occurs, TellsApart, IsLoose}
use Rattle.bn_lists.proofs.MemberLemmas.{behind, in_front, of_two}
use Rattle.bn_standardise.proofs.ListLemmas.{Pairwise, in_nth, in_map_cases, in_map, pairwise_append, pairwise_map}
use Rattle.bn_standardise.proofs.ListLemmas.{Apart, unambiguous_pairwise}

-- ---- states that occur

-- the start state and the halting state occur
pub start_occurs : (qs : List Quint) → 0 < length qs → Occurs qs (start_of qs)
start_occurs [] h = absurd (omega arith)
start_occurs (q ∷ qs) h = record { quint = q; stands = inl refl; names = inl refl }

-- the halting state occurs
pub final_occurs : (qs : List Quint) → 0 < length qs → Occurs qs (final_of qs)
final_occurs [] h = absurd (omega arith)
final_occurs (q ∷ []) h = record { quint = q; stands = inl refl; names = inr refl }
final_occurs (q ∷ r ∷ qs) h = let rest = final_occurs (r ∷ qs) (omega arith) in record
    { quint = rest.quint; stands = inr rest.stands; names = rest.names }

-- a machine has a symbol
pub some_symbol : (p : Program) → IsMachine p → 0 < p.symbols
some_symbol p machine =
    let nothing : Quint = record { state = 0; read = 0; write = 0; shift = Stay; next = 0 } in
    let first = (machine.in_range 0 nothing machine.some).read in
    omega (arith, first)

-- ---- the rules back over the letters

-- one of them is that of a letter from the first on
pub back_over_cases : (halt first count : ℕ) (r : Rule) → Has (back_over_all halt first count) r
    → (x : ℕ) × (first ≤ x) × (r ≡ back_over halt x) × (x < first + count)
unfolding back_over_all
back_over_cases halt first zero r h = absurd h
back_over_cases halt first (suc count) r (inl e) = (first, omega arith, e, omega arith)
back_over_cases halt first (suc count) r (inr h) = let rest =
    back_over_cases halt (suc first) count r h in (rest.0, omega (arith, rest.1), rest.2, omega (arith, rest.3))

-- and each such letter has one
pub back_over_in : (halt first count k x : ℕ) → k < count → x ≡ first + k
    → Has (back_over_all halt first count) (back_over halt x)
unfolding back_over_all
back_over_in halt first zero k x h e = absurd (omega arith)
back_over_in halt first (suc count) zero x h e = let same : x ≡ first = omega arith in inl (ap (back_over halt) same)
back_over_in halt first (suc count) (suc k) x h e = inr (back_over_in halt (suc first) count k x (omega arith)
    (omega arith))

-- there are as many as letters
pub length-back_over_all : (halt first count : ℕ) → length (back_over_all halt first count) ≡ count
unfolding back_over_all
length-back_over_all halt first zero = refl
length-back_over_all halt first (suc count) = ap suc (length-back_over_all halt (suc first) count)

-- ---- which rules there are

-- the rules of the middle have two of the machine's own states
pub record IsOwn (qs : List Quint) (r : Rule) : Type 0 where
  pub state : ℕ
  pub next : ℕ
  pub state_occurs : Occurs qs state
  pub next_occurs : Occurs qs next
  pub state_is : r.state ≡ Own state
  pub next_is : r.next ≡ Own next

-- each rule of the middle is such a one
pub middle_own : (p : Program) (r : Rule) → 0 < length p.quints → Has (middle_of p) r → IsOwn p.quints r
middle_own p r some h = elim (of_two (map own_rule p.quints) (back_over_all (final_of p.quints) 1 (p.symbols - 1)) r
    h) [
      | inl own ↦
          let q = in_map_cases own_rule p.quints r own in
          record {
            state = q.0.state;
            next = q.0.next;
            state_occurs = record { quint = q.0; stands = q.1; names = inl refl };
            next_occurs = record { quint = q.0; stands = q.1; names = inr refl };
            state_is = ap (λ (s : Rule). s.state) q.2;
            next_is = ap (λ (s : Rule). s.next) q.2;
          }
      | inr back ↦
          let x = back_over_cases (final_of p.quints) 1 (p.symbols - 1) r back in
          record {
            state = final_of p.quints;
            next = final_of p.quints;
            state_occurs = final_occurs p.quints some;
            next_occurs = final_occurs p.quints some;
            state_is = ap (λ (s : Rule). s.state) x.2;
            next_is = ap (λ (s : Rule). s.next) x.2;
          }
    ]

-- all rules but the first leave one of the machine's own states
pub later_state : (p : Program) (r : Rule) → 0 < length p.quints
    → Has (middle_of p ++ leaving (final_of p.quints) ∷ []) r → (s : ℕ) × Occurs p.quints s × (r.state ≡ Own s)
later_state p r some h = elim (of_two (middle_of p) (leaving (final_of p.quints) ∷ []) r h) [
  | inl mid ↦ let own = middle_own p r some mid in (own.state, own.state_occurs, own.state_is)
  | inr (inl e) ↦ (final_of p.quints, final_occurs p.quints some, ap (λ (s : Rule). s.state) e)
  | inr (inr none) ↦ absurd none
]

-- all rules but the last lead to one of the machine's own states
pub earlier_next : (p : Program) (r : Rule) → 0 < length p.quints → Has (entering (start_of p.quints) ∷ middle_of p) r
    → (s : ℕ) × Occurs p.quints s × (r.next ≡ Own s)
earlier_next p r some (inl e) = (start_of p.quints, start_occurs p.quints some, ap (λ (s : Rule). s.next) e)
earlier_next p r some (inr mid) = let own = middle_own p r some mid in (own.next, own.next_occurs, own.next_is)

-- which rules are among all
pub renamed_in : (p : Program) (q : Quint) → Has p.quints q → Has (rules_of p) (own_rule q)
renamed_in p q h = inr (in_front (middle_of p) _ (own_rule q)
    (in_front (map own_rule p.quints) _ (own_rule q) (in_map own_rule p.quints q h)))

-- the rule back over a known letter is one of all
pub back_over_here : (p : Program) (x : ℕ) → x ≢ 0 → x < p.symbols → Has (rules_of p) (back_over (final_of p.quints) x)
back_over_here p x letter known = inr (in_front (middle_of p) _ (back_over (final_of p.quints) x)
    (behind (map own_rule p.quints) _ (back_over (final_of p.quints) x)
    (back_over_in (final_of p.quints) 1 (p.symbols - 1) (x - 1) x (omega arith) (omega arith))))

-- the last rule is one of all
pub leaving_in : (p : Program) → Has (rules_of p) (leaving (final_of p.quints))
leaving_in p = inr (behind (middle_of p) _ (leaving (final_of p.quints)) (inl refl))

-- ---- no two rules clash

-- the two rules don't clash under this numbering
abbrev pub RulesApart : (Name → ℕ) → Rule → Rule → Type 0
RulesApart number r s = Apart (numbered number r) (numbered number s)

-- the rules back over the letters read different letters
back_over_apart : (number : Name → ℕ) (halt first count : ℕ)
    → Pairwise (RulesApart number) (back_over_all halt first count)
unfolding back_over_all
back_over_apart number halt first zero = tt
back_over_apart number halt first (suc count) = (
  λ r h _ read.
      let x = back_over_cases halt (suc first) count r h in
      let same : r.read ≡ x.0 = ap (λ (s : Rule). s.read) x.2 in
      absurd (omega (arith, read, same, x.1)),
  back_over_apart number halt (suc first) count,
)

-- a rule of the machine's own and one that leaves the halting state
own_apart : (number : Name → ℕ) (p : Program) → IsLoose p → TellsApart number p → (q : Quint) (y : Rule)
    → Has p.quints q → y.state ≡ Own (final_of p.quints) → RulesApart number (own_rule q) y
own_apart number p loose tells q y h e state read =
    let occurs : Occurs p.quints q.state = record { quint = q; stands = h; names = inl refl } in
    let there = in_nth p.quints q h in
    loose.halts.none there.0 (record {
      quint = q;
      stands = there.1;
      leaves = tells.states q.state (final_of p.quints)
          occurs (final_occurs p.quints loose.machine.some) (state ∙ ap number e);
    })

-- two of the machine's own
owns_apart : (number : Name → ℕ) (p : Program) → TellsApart number p → (q r : Quint) → Has p.quints q → Has p.quints r
    → Apart q r → RulesApart number (own_rule q) (own_rule r)
owns_apart number p tells q r h k apart state read =
    let occurs : Occurs p.quints q.state = record { quint = q; stands = h; names = inl refl } in
    let also : Occurs p.quints r.state = record { quint = r; stands = k; names = inl refl } in
    apart (tells.states q.state r.state occurs also state) read

-- a rule of the middle and the last one
last_apart : (number : Name → ℕ) (p : Program) → IsLoose p → TellsApart number p → (x : Rule) → Has (middle_of p) x
    → RulesApart number x (leaving (final_of p.quints))
last_apart number p loose tells x h state read = elim (of_two (map own_rule p.quints)
    (back_over_all (final_of p.quints) 1 (p.symbols - 1)) x h) [
      | inl own ↦
          let q = in_map_cases own_rule p.quints x own in
          own_apart number p loose tells q.0 (leaving (final_of p.quints)) q.1 refl
          (ap (λ (r : Rule). number r.state) (sym q.2) ∙ state) (ap (λ (r : Rule). r.read) (sym q.2) ∙ read)
      | inr back ↦
          let letter = back_over_cases (final_of p.quints) 1 (p.symbols - 1) x back in
          let reads : x.read ≡ letter.0 = ap (λ (r : Rule). r.read) letter.2 in
          absurd (omega (arith, read, reads, letter.1))
    ]

-- the rules of the middle
middle_apart : (number : Name → ℕ) (p : Program) → IsLoose p → TellsApart number p
    → Pairwise (RulesApart number) (middle_of p)
middle_apart number p loose tells = pairwise_append (RulesApart number) (map own_rule p.quints)
    (back_over_all (final_of p.quints) 1 (p.symbols - 1))
    (pairwise_map Apart (RulesApart number) own_rule p.quints (λ q r h k apart. owns_apart number p tells q r h k apart)
    (unambiguous_pairwise p.quints loose.unambiguous))
    (back_over_apart number (final_of p.quints) 1 (p.symbols - 1))
    (λ x y h k.
    let q = in_map_cases own_rule p.quints x h in
    let letter = back_over_cases (final_of p.quints) 1 (p.symbols - 1) y k in
    subst (λ r. RulesApart number r y) (sym q.2) (own_apart number p loose tells q.0 y q.1
    (ap (λ (r : Rule). r.state) letter.2)))

-- no two rules clash
pub rules_apart : (number : Name → ℕ) (p : Program) → IsLoose p → TellsApart number p
    → Pairwise (RulesApart number) (rules_of p)
rules_apart number p loose tells = (
  first,
  pairwise_append (RulesApart number) (middle_of p)
      (leaving (final_of p.quints) ∷ []) (middle_apart number p loose tells) ((λ y h. absurd h), tt) across,
)
  where
    first : (r : Rule) → Has (middle_of p ++ leaving (final_of p.quints) ∷ []) r
        → RulesApart number (entering (start_of p.quints)) r
    first r h state read =
        let own = later_state p r loose.machine.some h in
        tells.first own.0 own.1 (sym (ap number own.2) ∙ sym state)

    across : (x y : Rule) → Has (middle_of p) x → Has (leaving (final_of p.quints) ∷ []) y → RulesApart number x y
    across x y h (inl e) = subst (RulesApart number x) (sym e) (last_apart number p loose tells x h)
    across x y h (inr none) = absurd none

-- and no two quintuples
pub quints_apart : (number : Name → ℕ) (p : Program) → IsLoose p → TellsApart number p
    → Pairwise Apart (standardised_by number p).quints
quints_apart number p loose tells = pairwise_map (RulesApart number) Apart (numbered number) (rules_of p)
    (λ x y h k apart. apart) (rules_apart number p loose tells)

-- a rule's quintuple is one of the machine
pub quint_in : (number : Name → ℕ) (p : Program) (r : Rule) → Has (rules_of p) r
    → Has (standardised_by number p).quints (numbered number r)
quint_in number p r h = in_map (numbered number) (rules_of p) r h

-- ---- how many there are

-- N quintuples and z symbols give N + z + 1 rules
pub rules_counted : (number : Name → ℕ) (p : Program) → IsMachine p
    → length (standardised_by number p).quints ≡ length p.quints + p.symbols + 1
rules_counted number p machine =
    let all : length (standardised_by number p).quints ≡ length (rules_of p) =
    length-map (rules_of p) (numbered number) in
    let tail : length (middle_of p ++ leaving (final_of p.quints) ∷ []) ≡ length (middle_of p) + 1 =
    length-append (middle_of p) (leaving (final_of p.quints) ∷ []) in
    let middle : length (middle_of p) ≡ length (map own_rule p.quints)
    + length (back_over_all (final_of p.quints) 1 (p.symbols - 1)) = length-append (map own_rule p.quints)
    (back_over_all (final_of p.quints) 1 (p.symbols - 1)) in
    let own : length (map own_rule p.quints) ≡ length p.quints = length-map p.quints own_rule in
    let back : length (back_over_all (final_of p.quints) 1 (p.symbols - 1)) ≡ p.symbols - 1 =
    length-back_over_all (final_of p.quints) 1 (p.symbols - 1) in
    let known : 0 < p.symbols = some_symbol p machine in
    let sum : length (rules_of p) ≡ length p.quints + p.symbols + 1 = omega (arith, tail, middle, own, back, known) in
    all ∙ sum

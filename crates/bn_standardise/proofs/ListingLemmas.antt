-- The list as it is written: one rule after another.
use Rattle.std.proofs.Common.{◌≡◌, ◌∙◌, ◌≤◌, ◌<◌, ◌+◌, ◌-◌, ◌++◌, ◌∷◌, ℕ, zero, suc, List, [], length, map, take}
use Rattle.std.proofs.Common.{get_or, sym, ap, arith, append_assoc}
use Rattle.std.proofs.lemmas.List.{append-nil, map-append, take_all, take_more}
use Rattle.bn_machine.specs.declared.quint.Quint.{Quint}
use Rattle.bn_standardise.specs.Rules.{own_rule, back_over, back_over_all}
use Rattle.bn_standardise.specs.declared.rule.Rule.{Rule}

-- ---- the machine's own quintuples

pub own_none : (list : List Rule) (qs : List Quint) → list ≡ list ++ map own_rule (take 0 qs)
own_none list qs = sym (append-nil list)

pub own_more : (old list new : List Rule) (qs : List Quint) (i : ℕ) (d : Quint) (r : Rule) → i < length qs
    → list ≡ old ++ map own_rule (take i qs) →
    r ≡ own_rule (get_or qs i d) → new ≡ list ++ r ∷ [] → new ≡ old ++ map own_rule (take (i + 1) qs)
own_more old list new qs i d r inside before is now =
    now
    ∙ ap (λ (l : List Rule). l ++ r ∷ []) before
    ∙ append_assoc old (map own_rule (take i qs)) (r ∷ [])
    ∙ ap (λ (s : Rule). old ++ (map own_rule (take i qs) ++ s ∷ [])) is
    ∙ ap (λ (l : List Rule). old ++ l) (sym (map-append own_rule (take i qs) (get_or qs i d ∷ []))
    ∙ ap (map own_rule) (sym (take_more qs i d inside)))

pub own_all : (old list : List Rule) (qs : List Quint) (i : ℕ) → length qs ≤ i → list ≡ old ++ map own_rule (take i qs)
    → list ≡ old ++ map own_rule qs
own_all old list qs i past all = all ∙ ap (λ (l : List Quint). old ++ map own_rule l) (take_all i qs past)

-- ---- the steps back

-- one letter more
back_over_all-more : (halt first count : ℕ) → back_over_all halt first (suc count)
    ≡ back_over_all halt first count ++ back_over halt (first + count) ∷ []
unfolding back_over_all
back_over_all-more halt first zero = let same : first ≡ first + 0 =
    omega arith in ap (λ (x : ℕ). back_over halt x ∷ []) same
back_over_all-more halt first (suc count) =
    let same : suc first + count ≡ first + suc count = omega arith in
    ap (λ (l : List Rule). back_over halt first ∷ l) (back_over_all-more halt (suc first) count
    ∙ ap (λ (x : ℕ). back_over_all halt (suc first) count ++ back_over halt x ∷ []) same)

pub back_none : (list : List Rule) (halt : ℕ) → list ≡ list ++ back_over_all halt 1 (1 - 1)
unfolding back_over_all
back_none list halt = sym (append-nil list)

pub back_more : (old list new : List Rule) (halt letter : ℕ) (r : Rule) → 1 ≤ letter
    → list ≡ old ++ back_over_all halt 1 (letter - 1) →
    r ≡ back_over halt letter → new ≡ list ++ r ∷ [] → new ≡ old ++ back_over_all halt 1 (letter + 1 - 1)
back_more old list new halt letter r some before is now =
    let count : letter + 1 - 1 ≡ suc (letter - 1) = omega arith in
    let place : letter ≡ 1 + (letter - 1) = omega arith in
    now
    ∙ ap (λ (l : List Rule). l ++ r ∷ []) before
    ∙ append_assoc old (back_over_all halt 1 (letter - 1)) (r ∷ [])
    ∙ ap (λ (s : Rule). old ++ (back_over_all halt 1 (letter - 1) ++ s ∷ [])) (is ∙ ap (back_over halt) place)
    ∙ ap (λ (l : List Rule). old ++ l) (sym (back_over_all-more halt 1 (letter - 1))
    ∙ ap (back_over_all halt 1) (sym count))

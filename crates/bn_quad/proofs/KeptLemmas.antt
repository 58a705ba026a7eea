-- Kept quadruples are their rules, and the other way round.
use Rattle.std.specs.Prelude.{◌≡◌, ℕ, zero, suc, ◌<◌, ◌≤◌, ◌+◌, ◌-◌, ◌^◌, List, [], ◌∷◌, Option, Some, None, length}
use Rattle.std.specs.Prelude.{map, slice_index_or, All}
use Rattle.std.proofs.Common.{refl, sym, ap, ◌∙◌, subst, arith, get_or, add-one}
use Rattle.std.proofs.lemmas.List.{length-map}
use Rattle.std.proofs.lemmas.List.Elements.{All-map}
use Rattle.bn_quad.specs.Quadruples.{Deed, Rewrite, Move, Rule, quadruples_of, deeds_of, IsDeedInRange, AreDeedsInRange}
use Rattle.bn_quad.specs.Quadruples.{IsRuleInRange, IsQuadMachine, final_state_of}
use Rattle.bn_quad.specs.Kept.{read_of, act_of, quad_of, deed_of, rule_of, rules_of, read_at, act_at, Agree}
use Rattle.bn_quad.specs.Kept.{IsReadInRange, IsActInRange, IsSound, IsKept, IsFirstFault}
use Rattle.bn_quad.specs.Calls.{IsMadeOf}
use Rattle.bn_lists.specs.Lists.{AllBefore, nth}
use Rattle.bn_lists.proofs.ListLemmas.{nth-get_or}
use Rattle.std.specs.Option.{option_map}
use Rattle.std.proofs.lemmas.Option.{slice_get-map, slice_get-get_or}
use Rattle.bn_quad.specs.declared.quad.Quad.{Quad}
use Rattle.bn_quad.specs.declared.quad.Act.{Act}
use Rattle.bn_quad.specs.declared.quad.Act.TheVariants.{Write, Shift}

deed_of-kept : (d : Deed) → deed_of (read_of d) (act_of d) ≡ d
deed_of-kept (Rewrite read written) = refl
deed_of-kept (Move s) = refl

pub read_of-deed_of : (r : Option ℕ) (a : Act) → Agree r a → read_of (deed_of r a) ≡ r
read_of-deed_of None (Write w) h = absurd h
read_of-deed_of None (Shift s) h = refl
read_of-deed_of (Some r) (Write w) h = refl
read_of-deed_of (Some r) (Shift s) h = absurd h

pub act_of-deed_of : (r : Option ℕ) (a : Act) → Agree r a → act_of (deed_of r a) ≡ a
act_of-deed_of None (Write w) h = absurd h
act_of-deed_of None (Shift s) h = refl
act_of-deed_of (Some r) (Write w) h = refl
act_of-deed_of (Some r) (Shift s) h = absurd h

deed_in_range : (z : ℕ) (r : Option ℕ) (a : Act) → Agree r a → IsReadInRange z r → IsActInRange z a
    → IsDeedInRange z (deed_of r a)
deed_in_range z None (Write w) h i j = absurd h
deed_in_range z None (Shift s) h i j = tt
deed_in_range z (Some r) (Write w) h i j = (i, j)
deed_in_range z (Some r) (Shift s) h i j = absurd h

three_of : {X : Type 0} (xs : List X) (d : X) → length xs ≡ 3
    → slice_index_or xs 0 d ∷ slice_index_or xs 1 d ∷ slice_index_or xs 2 d ∷ [] ≡ xs
three_of [] d e = absurd (omega arith)
three_of (x ∷ []) d e = absurd (omega arith)
three_of (x ∷ y ∷ []) d e = absurd (omega arith)
three_of (x ∷ y ∷ z ∷ []) d e = refl
three_of (x ∷ y ∷ z ∷ w ∷ ws) d e = absurd (omega arith)

-- the rule of a kept rule is that rule
pub rule_of-quad_of : (r : Rule ℕ) → rule_of (quad_of r) ≡ r
rule_of-quad_of r = λ i. record {
  from = r.from;
  one = deed_of-kept r.one i;
  two = deed_of-kept r.two i;
  three = deed_of-kept r.three i;
  to = r.to;
}

pub rules_of-quads : (rs : List (Rule ℕ)) → rules_of (map quad_of rs) ≡ rs
rules_of-quads [] = refl
rules_of-quads (r ∷ rs) = λ i. rule_of-quad_of r i ∷ rules_of-quads rs i

pub quads-apart : (rs ss : List (Rule ℕ)) → map quad_of rs ≡ map quad_of ss → rs ≡ ss
quads-apart rs ss e = sym (rules_of-quads rs) ∙ ap rules_of e ∙ rules_of-quads ss

-- a sound quadruple is its rule as it is kept
pub quad_of-rule_of : (states : ℕ) (symbols : List ℕ) (q : Quad) → IsSound states symbols q → quad_of (rule_of q) ≡ q
quad_of-rule_of states symbols q h =
    let reads = kept_reads ∙ three_of q.read None h.reads in
    let acts = kept_acts ∙ three_of q.act (Shift _) h.acts in
    λ i. record { state = q.state; read = reads i; act = acts i; next = q.next }
  where
    kept_reads : (quad_of (rule_of q)).read ≡ read_at q 0 ∷ read_at q 1 ∷ read_at q 2 ∷ []
    kept_reads = λ i. read_of-deed_of (read_at q 0) (act_at q 0) h.unmixed.one i
        ∷ read_of-deed_of (read_at q 1) (act_at q 1) h.unmixed.two i
        ∷ read_of-deed_of (read_at q 2) (act_at q 2) h.unmixed.three i ∷ []

    kept_acts : (quad_of (rule_of q)).act ≡ act_at q 0 ∷ act_at q 1 ∷ act_at q 2 ∷ []
    kept_acts = λ i. act_of-deed_of (read_at q 0) (act_at q 0) h.unmixed.one i
        ∷ act_of-deed_of (read_at q 1) (act_at q 1) h.unmixed.two i
        ∷ act_of-deed_of (read_at q 2) (act_at q 2) h.unmixed.three i ∷ []

-- the rule of a sound quadruple is in range
pub rule_in_range : (states : ℕ) (symbols : List ℕ) (q : Quad) → length symbols ≡ 3 → IsSound states symbols q
    → IsRuleInRange states symbols (rule_of q)
rule_in_range states symbols q e h = record {
  from = h.in_range.state;
  deeds = subst (λ zs. AreDeedsInRange zs (deeds_of (rule_of q))) (three_of symbols 0 e) (
    deed_in_range _ (read_at q 0) (act_at q 0) h.unmixed.one h.in_range.one.read h.in_range.one.act,
    (
      deed_in_range _ (read_at q 1) (act_at q 1) h.unmixed.two h.in_range.two.read h.in_range.two.act,
      (deed_in_range _ (read_at q 2) (act_at q 2) h.unmixed.three h.in_range.three.read h.in_range.three.act, tt),
    ),
  );
  to = h.in_range.next;
}

sound_tail : (states : ℕ) (symbols : List ℕ) (q : Quad) (qs : List Quad) → All (IsSound states symbols) (q ∷ qs)
    → All (IsSound states symbols) qs
sound_tail states symbols q qs h = λ k d inside. h (suc k) d (omega arith)

-- sound quadruples are their rules as they are kept
pub quads-rules_of : (states : ℕ) (symbols : List ℕ) (qs : List Quad) → All (IsSound states symbols) qs
    → map quad_of (rules_of qs) ≡ qs
quads-rules_of states symbols [] h = refl
quads-rules_of states symbols (q ∷ qs) h = λ i. quad_of-rule_of states symbols q (h 0 q (omega arith)) i
    ∷ quads-rules_of states symbols qs (sound_tail states symbols q qs h) i

-- what is kept makes a machine
pub kept-machine : (qs : List Quad) (states : ℕ) (symbols : List ℕ) → IsKept qs states symbols
    → IsQuadMachine (quadruples_of (rules_of qs) states symbols)
kept-machine qs states symbols h = record {
  some = let same : length (rules_of qs) ≡ length qs = length-map qs rule_of in omega (arith, h.some);
  few = let same : length (rules_of qs) ≡ length qs = length-map qs rule_of in omega (arith, h.few);
  tapes = h.tapes;
  in_range = All-map (IsRuleInRange states symbols) rule_of qs
      (λ k d inside. rule_in_range states symbols (get_or qs k d) h.tapes (h.sound k d inside));
}

-- the entry at the last place is the last
pub final_of-last : (qs : List Quad) (k : ℕ) (d : Quad) → suc k ≡ length qs
    → (get_or qs k d).next ≡ final_state_of (rules_of qs)
final_of-last [] k d e = absurd (omega arith)
final_of-last (q ∷ []) zero d e = refl
final_of-last (q ∷ []) (suc k) d e = absurd (omega arith)
final_of-last (q ∷ r ∷ qs) zero d e = absurd (omega arith)
final_of-last (q ∷ r ∷ qs) (suc k) d e = final_of-last (r ∷ qs) k d (omega arith)

-- a search that has come to a quadruple that isn't sound
pub first_fault_at : (states : ℕ) (symbols : List ℕ) (qs : List Quad) (i : ℕ) (d : Quad) → i < length qs
    → AllBefore (IsSound states symbols) qs (suc i) → (IsSound states symbols (get_or qs i d) → ⊥)
    → IsFirstFault states symbols qs (i + 1) (get_or qs i d)
first_fault_at states symbols qs i d inside before faulty = subst
    (λ n. IsFirstFault states symbols qs n (get_or qs i d)) (sym (add-one i))
    (record { stands = nth-get_or qs i d inside; faulty = faulty; first = before.each })

-- quadruples, all of them sound, make the machine of their rules
pub made_of : (qs : List Quad) (states : ℕ) (symbols : List ℕ) → All (IsSound states symbols) qs
    → IsMadeOf (quadruples_of (rules_of qs) states symbols) qs states symbols
made_of qs states symbols h = record { listed = quads-rules_of states symbols qs h; counted = refl; lettered = refl }

pub kept_if : (qs : List Quad) (states : ℕ) (symbols : List ℕ) → 0 < length qs → length qs < 2 ^ 32 → length symbols ≡ 3
    → All (IsSound states symbols) qs → IsKept qs states symbols
kept_if qs states symbols some few tapes sound = record { some = some; few = few; tapes = tapes; sound = sound }

-- the rule of a kept quadruple stands at its place
pub nth-rules_of : (qs : List Quad) (k : ℕ) (d : Quad) → k < length qs
    → nth (rules_of qs) (suc k) ≡ Some (rule_of (get_or qs k d))
nth-rules_of qs k d inside = slice_get-map rule_of qs k ∙ ap (option_map rule_of) (slice_get-get_or qs k d inside)

pub length-rules_of : (qs : List Quad) → length (rules_of qs) ≡ length qs
length-rules_of qs = length-map qs rule_of

pub nth-rules_of_back : (qs : List Quad) (i : ℕ) (d : Quad) → 1 ≤ i → i ≤ length qs
    → nth (rules_of qs) i ≡ Some (rule_of (get_or qs (i - 1) d))
nth-rules_of_back qs zero d low high = absurd (omega arith)
nth-rules_of_back qs (suc k) d low high =
    let same : suc k - 1 ≡ k = omega arith in
    rw same (nth-rules_of qs k d (omega arith))

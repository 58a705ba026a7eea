-- Rules in range are sound as they are kept.
use Rattle.std.specs.Prelude.{◌≡◌, ℕ, zero, suc, ◌<◌, List, [], ◌∷◌, length, map, All}
use Rattle.std.proofs.Common.{refl, ap, subst, arith, get_or}
use Rattle.std.proofs.lemmas.List.Elements.{All-map}
use Rattle.std.proofs.lemmas.Option.{get_or_from_slice_get, slice_get_within}
use Rattle.bn_quad.specs.Quadruples.{Deed, Rewrite, Move, Rule, IsDeedInRange, AreDeedsInRange, IsRuleInRange, deeds_of}
use Rattle.bn_quad.specs.Quadruples.{turned_deed, turned}
use Rattle.bn_quad.specs.Kept.{read_of, act_of, quad_of, rules_of, Agree, IsReadInRange, IsActInRange, IsUnmixed}
use Rattle.bn_quad.specs.Kept.{IsSound, IsFirstFault}
use Rattle.bn_quad.specs.Calls.{IsQuadRefusal}
use Rattle.bn_quad.specs.declared.quad.Quad.{Quad}
use Rattle.bn_quad.specs.declared.refusal.QuadRefusal.{QuadRefusal}
use Rattle.bn_quad.specs.declared.refusal.QuadRefusal.TheVariants as refusal

read_in_range : (z : ℕ) (d : Deed) → IsDeedInRange z d → IsReadInRange z (read_of d)
read_in_range z (Rewrite r w) h = h.0
read_in_range z (Move s) h = tt

act_in_range : (z : ℕ) (d : Deed) → IsDeedInRange z d → IsActInRange z (act_of d)
act_in_range z (Rewrite r w) h = h.1
act_in_range z (Move s) h = tt

agrees : (d : Deed) → Agree (read_of d) (act_of d)
agrees (Rewrite r w) = tt
agrees (Move s) = tt

pub unmixed_rule : (r : Rule ℕ) → IsUnmixed (quad_of r)
unmixed_rule r = record { one = agrees r.one; two = agrees r.two; three = agrees r.three }

-- a rule in range is sound as it is kept
pub sound_rule : (states : ℕ) (symbols : List ℕ) (r : Rule ℕ) → IsRuleInRange states symbols r
    → IsSound states symbols (quad_of r)
sound_rule states [] r h = absurd h.deeds
sound_rule states (a ∷ []) r h = absurd h.deeds.1
sound_rule states (a ∷ b ∷ []) r h = absurd h.deeds.1.1
sound_rule states (a ∷ b ∷ c ∷ []) r h = record {
  reads = refl;
  acts = refl;
  in_range = record {
    state = h.from;
    one = record { read = read_in_range a r.one h.deeds.0; act = act_in_range a r.one h.deeds.0 };
    two = record { read = read_in_range b r.two h.deeds.1.0; act = act_in_range b r.two h.deeds.1.0 };
    three = record { read = read_in_range c r.three h.deeds.1.1.0; act = act_in_range c r.three h.deeds.1.1.0 };
    next = h.to;
  };
  unmixed = unmixed_rule r;
}
sound_rule states (a ∷ b ∷ c ∷ d ∷ zs) r h = absurd h.deeds.1.1.1

-- so are quadruples that are their rules as these are kept
pub sound_if : (states : ℕ) (symbols : List ℕ) (qs : List Quad) → map quad_of (rules_of qs) ≡ qs
    → All (IsRuleInRange states symbols) (rules_of qs) → All (IsSound states symbols) qs
sound_if states symbols qs kept h =
    subst (All (IsSound states symbols)) kept (All-map (IsSound states symbols) quad_of (rules_of qs)
    (λ k d inside. sound_rule states symbols (get_or (rules_of qs) k d) (h k d inside)))

-- ---- a rule turned round

deed_turned : (z : ℕ) (d : Deed) → IsDeedInRange z d → IsDeedInRange z (turned_deed d)
deed_turned z (Rewrite r w) h = (h.1, h.0)
deed_turned z (Move s) h = tt

deeds_turned : (zs : List ℕ) (ds : List Deed) → AreDeedsInRange zs ds → AreDeedsInRange zs (map turned_deed ds)
deeds_turned [] [] h = tt
deeds_turned [] (d ∷ ds) h = absurd h
deeds_turned (z ∷ zs) [] h = absurd h
deeds_turned (z ∷ zs) (d ∷ ds) h = (deed_turned z d h.0, deeds_turned zs ds h.1)

pub turned_in_range : (states : ℕ) (symbols : List ℕ) (r : Rule ℕ) → IsRuleInRange states symbols r
    → IsRuleInRange states symbols (turned r)
turned_in_range states symbols r h = record {
  from = h.to;
  deeds = deeds_turned symbols (deeds_of r) h.deeds;
  to = h.from;
}

-- ---- sound quadruples aren't refused

pub no_first_fault : (states : ℕ) (symbols : List ℕ) (qs : List Quad) (i : ℕ) (q : Quad)
    → All (IsSound states symbols) qs → IsFirstFault states symbols qs i q → ⊥
no_first_fault states symbols qs zero q all fault = cc fault.stands
no_first_fault states symbols qs (suc k) q all fault =
    let inside : k < length qs = slice_get_within qs k q fault.stands in
    fault.faulty (subst (IsSound states symbols) (get_or_from_slice_get qs k q q fault.stands) (all k q inside))

pub no_quad_refusal : (states : ℕ) (symbols : List ℕ) (qs : List Quad) (why : QuadRefusal) → 0 < length qs
    → All (IsSound states symbols) qs → IsQuadRefusal qs states symbols why → ⊥
no_quad_refusal states symbols qs refusal.Empty some all h = let none : length qs ≡ 0 = ap length h in omega arith
no_quad_refusal states symbols qs (refusal.Range i) some all h = no_first_fault states symbols qs i h.0 all h.1
no_quad_refusal states symbols qs (refusal.Mixed i) some all h = no_first_fault states symbols qs i h.0 all h.1

-- The states of a machine's quadruples: each is one of the machine's states, and its first and its last are among them.
use Rattle.std.specs.Prelude.{◌≡◌, ℕ, zero, suc, ◌<◌, List, [], ◌∷◌, length, Some}
use Rattle.std.proofs.Common.{subst, arith}
use Rattle.std.proofs.lemmas.Option.{get_or_from_slice_get, slice_get_within}
use Rattle.bn_lists.specs.Lists.{nth, IsIn}
use Rattle.bn_quad.specs.Quadruples.{IsQuadMachine, IsRuleInRange, Quadruples, Rule, final_state_of, initial_of}
use Rattle.bn_bennett_laws.specs.Names.{states_in}
use Rattle.bn_bennett_laws.proofs.MembershipLemmas.{each_of_two, from_flat_map, in_head, in_tail}

module _ (m : Quadruples) (machine : IsQuadMachine m) where
  -- a state of the quadruples is one of the machine's states
  pub state_below : (k : ℕ) → IsIn (states_in m.rules) k → k < m.states
  state_below k there =
      let found = from_flat_map (λ (r : Rule ℕ). r.from ∷ r.to ∷ []) m.rules k there in
      let range = in_range found.1.place found.0 found.1.stands in
      each_of_two (λ s. s < m.states) found.0.from found.0.to range.from range.to k found.2
    where
      in_range : (n : ℕ) (r : Rule ℕ) → nth m.rules n ≡ Some r → IsRuleInRange m.states m.symbols r
      in_range zero r e = absurd (cc)
      in_range (suc k) r e =
          let P : Rule ℕ → Type 0 = IsRuleInRange m.states m.symbols in
          subst P (get_or_from_slice_get m.rules k r r e) (machine.in_range k r (slice_get_within m.rules k r e))

  -- the state that the machine begins in is the first one of its quadruples
  pub begins_in : IsIn (states_in m.rules) (initial_of m.rules)
  begins_in = first_inside m.rules machine.some
    where
      first_inside : (rs : List (Rule ℕ)) → 0 < length rs → IsIn (states_in rs) (initial_of rs)
      first_inside [] some = absurd (omega arith)
      first_inside (r ∷ rs) some = in_head r.from _

  -- and the one that it ends in is the last one
  pub ends_in : IsIn (states_in m.rules) (final_state_of m.rules)
  ends_in = last_inside m.rules machine.some
    where
      last_inside : (rs : List (Rule ℕ)) → 0 < length rs → IsIn (states_in rs) (final_state_of rs)
      last_inside [] some = absurd (omega arith)
      last_inside (r ∷ []) some = in_tail r.from r.to _ (in_head r.to [])
      last_inside (r ∷ s ∷ rs) some = in_tail r.from _ _ (in_tail r.to _ _ (last_inside (s ∷ rs) (omega arith)))

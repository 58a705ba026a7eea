-- The first commands of a machine's states, quadruple by quadruple.
use Rattle.std.proofs.Common.{◌≡◌, ◌⊎◌, inl, inr, get_or, slice_get, slice_set, ℕ, zero, suc, ◌+◌, ◌<◌, ◌≤◌, List}
use Rattle.std.proofs.Common.{length, map, Some, refl, sym, ap, subst, ◌∙◌, arith}
use Rattle.std.specs.List.{range_with_len}
use Rattle.std.proofs.lemmas.Bool.Decides.{eqb_tells}
use Rattle.std.proofs.lemmas.List.{length-map, length-set}
use Rattle.std.proofs.lemmas.List.FromFn.{get_or-map-range_with_len, length-range_with_len}
use Rattle.std.proofs.lemmas.Option.{slice_get_within, get_or_from_slice_get}
use Rattle.bn_circuits.proofs.StepLemmas.{slice_get-set_same, slice_get-set_other}
use Rattle.bn_lists.specs.Lists.{nth}
use Rattle.bn_lists.proofs.ListLemmas.{nth_within, nth_once}
use Rattle.bn_quad.specs.Quadruples.{Rule, Quadruples, IsQuadMachine, final_state_of}
use Rattle.bn_quad.specs.Calls.{IsUniformMachine}
use Rattle.bn_quad.specs.Kept.{quad_of}
use Rattle.bn_quad.specs.declared.quad.Quad.{Quad}
use Rattle.bn_network.specs.Controls.{finishes, waits}
use Rattle.bn_network.proofs.RangeLemmas.{rule_in_range}
use Rattle.bn_control.specs.declared.line.Sending.{Sending}
use Rattle.bn_control.specs.declared.command.Command.{Command}
use Rattle.bn_control.specs.Commands.{commands_by}
use Rattle.bn_control.proofs.RuleLemmas.{IsRuleAt, rule_at, HasFirst, has_first}
use Rattle.bn_control.specs.Entries.{waiting, IsFirstSent, AreEntries}
use Rattle.bn_control.proofs.EntriesSoFar.{IsSoFar, left, not_left, AreSoFar}

module _ (m : Quadruples) where
  -- before the first quadruple
  pub none_yet : (es : List Sending) → es ≡ map (waiting (final_state_of m.rules)) (range_with_len 0 m.states)
      → AreSoFar m 0 es
  none_yet es is =
      let count : length es ≡ m.states = ap length is ∙ length-map (range_with_len 0 m.states)
      (waiting (final_state_of m.rules)) ∙ length-range_with_len 0 m.states in
      record { counted = count; each = each count }
    where
      at_zero : (n : ℕ) (r : Rule ℕ) → n ≤ 0 → nth m.rules n ≡ Some r → ⊥
      at_zero zero r low e = cc
      at_zero (suc n) r low e = omega arith

      each : length es ≡ m.states → (a : ℕ) (s : Sending) → slice_get es a ≡ Some s → IsSoFar m 0 a s
      each count a s e =
          let low = slice_get_within es a s e in
          let value : s ≡ waiting (final_state_of m.rules) a = sym (get_or_from_slice_get es a s s e)
          ∙ ap (λ l. get_or l a s) is ∙ get_or-map-range_with_len (waiting (final_state_of m.rules)) 0 m.states a a
          s (omega arith) (omega arith) in
          not_left (λ n r low e from. at_zero n r low e) value

  -- after one quadruple more
  pub one_more : (k : ℕ) (r : Rule ℕ) (es : List Sending) (s : Sending) → nth m.rules (k + 1) ≡ Some r
      → IsFirstSent m r.from s → r.from < length es → AreSoFar m k es → AreSoFar m (k + 1) (slice_set es r.from s)
  one_more k r es s here sent low far =
      record { counted = length-set es r.from s ∙ far.counted; each = each }
    where
      each : (a : ℕ) (x : Sending) → slice_get (slice_set es r.from s) a ≡ Some x → IsSoFar m (k + 1) a x
      each a x e = elim (eqb_tells a r.from) [
        | inl same ↦ (
            let there : slice_get (slice_set es r.from s) a ≡ Some s =
            ap (slice_get (slice_set es r.from s)) same.1 ∙ slice_get-set_same es r.from s low in
            let value : s ≡ x = cc in
            left (subst (IsFirstSent m a) value (subst (λ b. IsFirstSent m b s) (sym same.1) sent)))
        | inr other ↦ later a x other.1 (far.each a x (sym (slice_get-set_other es r.from a s other.1) ∙ e))
      ]
        where
          later : (a : ℕ) (x : Sending) → (a ≡ r.from → ⊥) → IsSoFar m k a x → IsSoFar m (k + 1) a x
          later a x other (left h) = left h
          later a x other (not_left none value) = not_left (λ n t low e from. elim (cases n low) [
            | inl before ↦ none n t before e from
            | inr at ↦ other
                (sym from ∙ ap (λ (v : Rule ℕ). v.from) (nth_once m.rules n t r e (ap (nth m.rules) at ∙ here)))
          ]) value
            where
              cases : (n : ℕ) → n ≤ k + 1 → (n ≤ k) ⊎ (n ≡ k + 1)
              cases n low = elim (eqb_tells n (k + 1)) [
                | inl same ↦ inr same.1
                | inr not ↦ (let ne = not.1 in inl (omega arith))
              ]

  -- after all of them
  pub all_done : (k : ℕ) (es : List Sending) → length m.rules ≤ k → AreSoFar m k es → AreEntries m es
  all_done k es all far = record {
    counted = far.counted;
    each = λ a s e. done a s (slice_get_within es a s e) (far.each a s e);
  }
    where
      done : (a : ℕ) (s : Sending) → a < length es → IsSoFar m k a s → IsFirstSent m a s
      done a s low (left h) = h
      done a s low (not_left none value) =
          let count = far.counted in
          subst (IsFirstSent m a) (sym value) (by a (omega arith)
          (λ n r e from. none n r (let few = nth_within m.rules n r e in omega arith) e from))
        where
          by : (a : ℕ) → a < m.states → ((n : ℕ) (r : Rule ℕ) → nth m.rules n ≡ Some r → r.from ≡ a → ⊥)
              → IsFirstSent m a (waiting (final_state_of m.rules) a)
          by a low none = elim (eqb_tells a (final_state_of m.rules)) [
            | inl same ↦ rw same.0 (record { entry = finishes same.1 refl; proper = tt })
            | inr other ↦ rw other.0 (record { entry = waits other.1 low (record { none = none }) refl; proper = refl })
          ]

  -- the place of a quadruple's state
  pub from_low : IsQuadMachine m → (k : ℕ) (n : ℕ) (r : Rule ℕ) (es : List Sending) → nth m.rules n ≡ Some r
      → AreSoFar m k es → r.from < length es
  from_low is k n r es here far = let low = (rule_in_range m is n r here).from in let count = far.counted in omega arith

-- the same for the quadruples as they are kept
module _ (m : Quadruples) (u : IsUniformMachine m) (is : IsQuadMachine m) (quads : List Quad)
    (kept : quads ≡ map quad_of m.rules) (k : ℕ) (d : Quad) (low : k < length quads) where
  pub state_low : (es : List Sending) → AreSoFar m k es → (get_or quads k d).state < length es
  state_low es far =
      let at = rule_at m quads k d kept low in
      let state : (get_or quads k d).state ≡ at.rule.from = ap (λ (q : Quad). q.state) at.kept in
      let below = from_low m is k (k + 1) at.rule es at.stands far in
      omega arith

  module _ (cs : List Command) (commands : (r : Rule ℕ) → get_or quads k d ≡ quad_of r → cs ≡ commands_by (k + 1) r)
    where
      some_first : (at : IsRuleAt m k (get_or quads k d)) → HasFirst m u (k + 1) at.rule at.stands cs
      some_first at = subst (HasFirst m u (k + 1) at.rule at.stands) (sym (commands at.rule at.kept))
          (has_first m u (k + 1) at.rule at.stands)

      pub some_commands : 0 < length cs
      some_commands = let first = some_first (rule_at m quads k d kept low) in let count =
          ap length first.begins in omega arith

      pub next_entry : (es : List Sending) (x : Command) → x ≡ get_or cs 0 x → AreSoFar m k es
          → AreSoFar m (k + 1) (slice_set es (get_or quads k d).state x.sending)
      next_entry es x value far =
          let at = rule_at m quads k d kept low in
          let first = some_first at in
          let head : x ≡ first.first = value ∙ ap (λ l. get_or l 0 x) first.begins in
          let state : at.rule.from ≡ (get_or quads k d).state = ap (λ (q : Quad). q.state) (sym at.kept) in
          let sent : at.rule.from < length es → AreSoFar m (k + 1) (slice_set es at.rule.from x.sending) =
          λ below. one_more m k at.rule es x.sending at.stands (subst
          (λ (y : Command). IsFirstSent m at.rule.from y.sending) (sym head) first.sent) below far in
          subst (λ n. AreSoFar m (k + 1) (slice_set es n x.sending)) state
          (sent (from_low m is k (k + 1) at.rule es at.stands far))

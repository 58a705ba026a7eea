-- A stage of a run of a machine of quadruples, and the configuration that it stands for.
use Rattle.std.specs.Prelude.{◌≡◌, ℕ, zero, suc, ◌<◌, ◌≤◌, ℤ, pos, ◌≤ℤ◌, List, [], ◌∷◌, length, Some, None, refl}
use Rattle.std.proofs.Common.{arith, inl, inr, sym, subst, ap, ◌∙◌}
use Rattle.std.proofs.lemmas.Int.{ints}
use Rattle.std.proofs.lemmas.Option.{get_or_from_slice_get, slice_get_within}
use Rattle.bn_lists.specs.Lists.{nth}
use Rattle.bn_lists.proofs.RunsLemmas.{runs_more}
use Rattle.bn_machine.specs.Tape.{Tape, scanned, word_tape}
use Rattle.bn_machine.specs.Window.{IsWindowed, Windowed}
use Rattle.bn_machine.specs.declared.quint.Shift.TheVariants as shifts
use Rattle.bn_machine.specs.declared.quint.Side.{Side}
use Rattle.bn_machine.specs.declared.quint.Side.TheVariants as sides
use Rattle.bn_quad.specs.Calls.{AreSameWindows, DeedLeaves, IsLeaving, IsQuadTurn, LeavesAt, configuration, rooms_of}
use Rattle.bn_quad.specs.Calls.{windows_of}
use Rattle.bn_quad.specs.Quadruples.{AppliesTo, AreDeedsInRange, Configuration, Deed, DeedApplies, GoesBy, IsFirstRule}
use Rattle.bn_quad.specs.Quadruples.{IsQuadMachine, IsQuadrupleStuck, IsRuleInRange, Move, Quadruples, QuadruplesRunTo}
use Rattle.bn_quad.specs.Quadruples.{Rewrite, Rule, deeds_of, everywhere, after, initial_of}
use Rattle.bn_quad.specs.declared.tapes.QuadTurn.{QuadTurn}
use Rattle.bn_quad.specs.declared.tapes.QuadTurn.TheVariants as turns
use Rattle.bn_quad.specs.declared.tapes.Tapes.{Tapes}
use Rattle.bn_qtable.specs.Rows.{QuadTable, counts_of}
use Rattle.bn_reply_traces.specs.ConfigurationText.{IsNextQuadruple}
use Rattle.bn_reply_traces.specs.Extents.{IsFirst, IsLast}
use Rattle.bn_reply_traces.specs.QuadStages.{AreClear, AreWordsOn, IsClear, IsQuadStage, IsStepped, IsSteppedTo, IsWide}
use Rattle.bn_reply_traces.specs.QuadStages.{first_of}
use Rattle.bn_reply_traces.specs.Stages.{StandsFor}
use Rattle.bn_reply_traces.specs.declared.extent.Extent.{Extent}
use Rattle.bn_reply_traces.specs.declared.quad_stage.Extents.{Extents}
use Rattle.bn_reply_traces.specs.declared.quad_stage.QuadStage.{QuadStage}
use Rattle.bn_reply_traces.specs.declared.quad_stage.StartWords.{StartWords}
use Rattle.bn_reply_traces.proofs.TapeStageLemmas.{scans_alike, tape_clear, tape_more, tape_start}

-- ---- quadruples

pub rule_in_range : (m : Quadruples) → IsQuadMachine m → (n : ℕ) (r : Rule ℕ) → nth m.rules n ≡ Some r →
    IsRuleInRange m.states m.symbols r
rule_in_range m machine zero r e = absurd (cc e)
rule_in_range m machine (suc k) r e =
    subst (IsRuleInRange m.states m.symbols) (get_or_from_slice_get m.rules k r r e)
    (machine.in_range k r (slice_get_within m.rules k r e))

deed_alike : (d : Deed) (t u : Tape) → scanned t ≡ scanned u → DeedApplies d t → DeedApplies d u
deed_alike (Rewrite read written) t u same applies = sym same ∙ applies
deed_alike (Move s) t u same applies = tt

-- two configurations that differ only where no head is
pub record AreAlike (c d : Configuration ℕ) : Type 0 where
  pub state : c.state ≡ d.state
  pub one : scanned c.one ≡ scanned d.one
  pub two : scanned c.two ≡ scanned d.two
  pub three : scanned c.three ≡ scanned d.three

alike_back : (c d : Configuration ℕ) → AreAlike c d → AreAlike d c
alike_back c d h = record { state = sym h.state; one = sym h.one; two = sym h.two; three = sym h.three }

applies_alike : (r : Rule ℕ) (c d : Configuration ℕ) → AreAlike c d → AppliesTo r c → AppliesTo r d
applies_alike r c d h a = record {
  from = sym h.state ∙ a.from;
  one = deed_alike r.one c.one d.one h.one a.one;
  two = deed_alike r.two c.two d.two h.two a.two;
  three = deed_alike r.three c.three d.three h.three a.three;
}

pub first_alike : (rs : List (Rule ℕ)) (n : ℕ) (r : Rule ℕ) (c d : Configuration ℕ) → AreAlike c d
    → IsFirstRule rs c n r →
    IsFirstRule rs d n r
first_alike rs n r c d h f = record {
  stands = f.stands;
  holds = applies_alike r c d h f.holds;
  first = λ m s before at a. f.first m s before at (applies_alike s d c (alike_back c d h) a);
}

pub stuck_alike : (p : Quadruples) (c d : Configuration ℕ) → AreAlike c d → IsQuadrupleStuck p c → IsQuadrupleStuck p d
stuck_alike p c d h k = record {
  going = λ e. k.going (h.state ∙ e);
  none = record { none = λ n r at a. k.none.none n r at (applies_alike r d c (alike_back c d h) a) };
}

-- ---- the start

pub stage_start : (t : QuadTable) (words : StartWords) (n : ℕ) (s : QuadStage) → IsQuadMachine t.machine →
    t.machine.states ≡ length t.names.states → AreWordsOn t.names words → s.state ≡ initial_of t.machine.rules →
    IsWide words.one.now n s.tapes.one → IsWide words.two.now n s.tapes.two → IsWide words.three.now n s.tapes.three →
    IsFirst (word_tape words.one.now) s.extents.one.first → IsLast (word_tape words.one.now) s.extents.one.last →
    IsFirst (word_tape words.two.now) s.extents.two.first → IsLast (word_tape words.two.now) s.extents.two.last →
    IsFirst (word_tape words.three.now) s.extents.three.first → IsLast (word_tape words.three.now) s.extents.three.last
    →
    IsQuadStage t words n 0 (first_of t.machine words) s
stage_start t words n s machine states h state wide1 wide2 wide3 first1 last1 first2 last2 first3 last3 = record {
  run = refl;
  state = sym state;
  known = subst (λ k. initial_of t.machine.rules < k) states (initial_known t.machine machine);
  one = tape_start t.names.one words.one.now n s.tapes.one s.extents.one h.one.some h.one wide1 first1 last1;
  two = tape_start t.names.two words.two.now n s.tapes.two s.extents.two h.two.some h.two wide2 first2 last2;
  three = tape_start t.names.three words.three.now n s.tapes.three s.extents.three h.three.some h.three wide3 first3
      last3;
}
  where
    initial_by : (states : ℕ) (symbols : List ℕ) (rs : List (Rule ℕ)) → 0 < length rs →
        ((r : Rule ℕ) → nth rs 1 ≡ Some r → IsRuleInRange states symbols r) → initial_of rs < states
    initial_by states symbols [] some each = absurd (omega (arith, some))
    initial_by states symbols (r ∷ rs) some each = (each r refl).from

    initial_known : (m : Quadruples) → IsQuadMachine m → initial_of m.rules < m.states
    initial_known m machine = initial_by m.states m.symbols m.rules machine.some (rule_in_range m machine 1)

-- ---- a step

module _ (t : QuadTable) (words : StartWords) (n i : ℕ) (c : Configuration ℕ) (s : QuadStage)
    (at : IsQuadStage t words n i c s) where
  pub stage_alike : AreAlike (configuration s.state s.tapes) c
  stage_alike = record {
    state = sym at.state;
    one = sym (scans_alike (length t.names.one) words.one.now n i s.tapes.one s.extents.one c.one at.one);
    two = sym (scans_alike (length t.names.two) words.two.now n i s.tapes.two s.extents.two c.two at.two);
    three = sym (scans_alike (length t.names.three) words.three.now n i s.tapes.three s.extents.three c.three at.three);
  }

  pub stage_clear : i ≤ n → AreClear s
  stage_clear early = record {
    one = tape_clear (length t.names.one) words.one.now n i s.tapes.one s.extents.one c.one early at.one;
    two = tape_clear (length t.names.two) words.two.now n i s.tapes.two s.extents.two c.two early at.two;
    three = tape_clear (length t.names.three) words.three.now n i s.tapes.three s.extents.three c.three early at.three;
  }

-- what following a tape tells
pub record Follows (left : ℤ) (v : Windowed) (e f : Extent) : Type 0 where
  pub first : (x y : Tape) (u : List ℕ) → StandsFor v u y → left ≤ℤ pos v.right → IsStepped x y left → IsFirst x e.first
      →
      IsFirst y f.first
  pub last : (x y : Tape) (u : List ℕ) → StandsFor v u y → left ≤ℤ pos v.right → IsStepped x y left → IsLast x e.last →
      IsLast y f.last
  pub windowed : IsWindowed v

pub stage_more : (t : QuadTable) (words : StartWords) (n i : ℕ) (c : Configuration ℕ) (s : QuadStage) (quad next : ℕ)
    (v : Tapes) (e : Extents) (l1 l2 l3 : ℤ) → IsQuadMachine t.machine → t.machine.symbols ≡ counts_of t.names →
    t.machine.states ≡ length t.names.states → IsQuadStage t words n i c s →
    GoesBy (rooms_of s.tapes) t.machine quad (configuration s.state s.tapes) (configuration next v) →
    AreSameWindows s.tapes v → l1 ≡ s.tapes.one.tape.head → l2 ≡ s.tapes.two.tape.head → l3 ≡ s.tapes.three.tape.head →
    Follows l1 v.one s.extents.one e.one → Follows l2 v.two s.extents.two e.two
    → Follows l3 v.three s.extents.three e.three →
    IsSteppedTo t words n i c s (Some quad) (record { state = next; tapes = v; extents = e })
stage_more t words n i c s quad next v e l1 l2 l3 machine symbols states at goes same at1 at2 at3 f1 f2 f3 = (
  d,
  step,
  record {
    run = runs_more (QuadruplesRunTo everywhere t.machine) i (first_of t.machine words) c d at.run (quad, step);
    state = sym (ap (λ (x : Configuration ℕ). x.state) goes.gives);
    known = subst (λ k. rule.to < k) states range.to;
    one = tape_more (length t.names.one) words.one.now n i s.tapes.one v.one s.extents.one e.one c.one rule.one l1
        at.one
        deeds.0 at1 same.one (ap (λ (x : Configuration ℕ). x.one) goes.gives) f1.windowed f1.first f1.last;
    two = tape_more (length t.names.two) words.two.now n i s.tapes.two v.two s.extents.two e.two c.two rule.two l2
        at.two
        deeds.1.0 at2 same.two (ap (λ (x : Configuration ℕ). x.two) goes.gives) f2.windowed f2.first f2.last;
    three = tape_more (length t.names.three) words.three.now n i s.tapes.three v.three s.extents.three e.three c.three
        rule.three l3 at.three deeds.1.1.0 at3 same.three (ap (λ (x : Configuration ℕ). x.three) goes.gives) f3.windowed
        f3.first f3.last;
  },
)
  where
    rule : Rule ℕ
    rule = goes.rule

    d : Configuration ℕ
    d = after rule c

    first : IsFirstRule t.machine.rules c quad rule
    first = first_alike t.machine.rules quad rule (configuration s.state s.tapes) c (stage_alike t words n i c s at)
        goes.first

    range : IsRuleInRange t.machine.states (counts_of t.names) rule
    range = subst (λ (z : List ℕ). IsRuleInRange t.machine.states z rule) symbols
        (rule_in_range t.machine machine quad rule first.stands)

    deeds : AreDeedsInRange (counts_of t.names) (deeds_of rule)
    deeds = range.deeds

    step : GoesBy everywhere t.machine quad c d
    step = record {
      going = λ is. goes.going (sym at.state ∙ is);
      rule = rule;
      first = first;
      gives = refl;
      stays = record { one = tt; two = tt; three = tt };
    }

-- where there is no step
pub stage_ends : (t : QuadTable) (words : StartWords) (n i : ℕ) (c : Configuration ℕ) (s : QuadStage) →
    IsQuadStage t words n i c s → IsNextQuadruple t.machine (configuration s.state s.tapes) None →
    IsNextQuadruple t.machine c None
stage_ends t words n i c s at (inl final) = inl (at.state ∙ final)
stage_ends t words n i c s at (inr stuck) =
    inr (stuck_alike t.machine (configuration s.state s.tapes) c (stage_alike t words n i c s at) stuck)

-- no head leaves its window
deed_inside : (d : Deed) (w : Windowed) (side : Side) → IsClear w → DeedLeaves d w side → ⊥
deed_inside (Rewrite read written) w side h out = out
deed_inside (Move shifts.Left) w sides.Left h out = let low = h.left in absurd (omega (arith, ints, low, out))
deed_inside (Move shifts.Left) w sides.Right h out = let high = h.right in absurd (omega (arith, ints, high, out))
deed_inside (Move shifts.Stay) w sides.Left h out = let low = h.left in absurd (omega (arith, ints, low, out))
deed_inside (Move shifts.Stay) w sides.Right h out = let high = h.right in absurd (omega (arith, ints, high, out))
deed_inside (Move shifts.Right) w sides.Left h out = let low = h.left in absurd (omega (arith, ints, low, out))
deed_inside (Move shifts.Right) w sides.Right h out = let high = h.right in absurd (omega (arith, ints, high, out))

stays_inside : (r : Rule ℕ) (s : QuadStage) (tape : ℕ) (side : Side) → AreClear s →
    LeavesAt (deeds_of r) (windows_of s.tapes) tape side → ⊥
stays_inside r s zero side h out = out
stays_inside r s (suc zero) side h out = deed_inside r.one s.tapes.one side h.one out
stays_inside r s (suc (suc zero)) side h out = deed_inside r.two s.tapes.two side h.two out.1
stays_inside r s (suc (suc (suc zero))) side h out = deed_inside r.three s.tapes.three side h.three out.1.1
stays_inside r s (suc (suc (suc (suc k)))) side h out = out.1.1.1

pub never_leaves : (p : Quadruples) (s : QuadStage) (tape : ℕ) (side : Side) → AreClear s →
    IsLeaving p s.state s.tapes tape side → ⊥
never_leaves p s tape side h out = stays_inside out.rule s tape side h out.leaves

-- ---- what a step answers

pub left_turn : (p : Quadruples) (turn : QuadTurn) (s : ℕ) (w : Tapes) (n : ℕ) (v : Tapes) (tape : ℕ) (side : Side) →
    turn ≡ turns.Left tape side → IsQuadTurn p turn s w n v → IsLeaving p s w tape side
left_turn p turn s w n v tape side is h = (subst (λ t. IsQuadTurn p t s w n v) is h).0

pub moved_turn : (p : Quadruples) (turn : QuadTurn) (s : ℕ) (w : Tapes) (n : ℕ) (v : Tapes) (quad : ℕ) →
    turn ≡ turns.Moved quad → IsQuadTurn p turn s w n v →
    GoesBy (rooms_of w) p quad (configuration s w) (configuration n v) × AreSameWindows w v
moved_turn p turn s w n v quad is h = subst (λ t. IsQuadTurn p t s w n v) is h

pub turn_stays : (p : Quadruples) (turn : QuadTurn) (s : ℕ) (w : Tapes) (n : ℕ) (v : Tapes) →
    ((quad : ℕ) → turn ≡ turns.Moved quad → ⊥) → ((tape : ℕ) (side : Side) → turn ≡ turns.Left tape side → ⊥) →
    IsQuadTurn p turn s w n v → IsNextQuadruple p (configuration s w) None × (n ≡ s) × (v ≡ w)
turn_stays p turns.Final s w n v moved left h = (inl h.0, h.1, h.2)
turn_stays p turns.Stuck s w n v moved left h = (inr h.0, h.1, h.2)
turn_stays p (turns.Left tape side) s w n v moved left h = absurd (left tape side refl)
turn_stays p (turns.Moved quad) s w n v moved left h = absurd (moved quad refl)

-- Rules over numbers: the runs of a deterministic quadruple machine, and how they end, in the words of rules over
-- states of any kind.
use Rattle.std.specs.Prelude.{◌≡◌, ◌↔◌, ℕ, zero, suc, List}
use Rattle.std.proofs.Common.{refl, subst}
use Rattle.bn_lists.specs.Runs.{Reaches}
use Rattle.bn_machine.specs.Window.{Windowed, IsInside, IsBeyond}
use Rattle.bn_machine.proofs.OutcomeLemmas.{not_inside_and_beyond}
use Rattle.bn_machine.specs.declared.quint.Side.{Side}
use Rattle.bn_quad.specs.Quadruples.{Deed, Rewrite, Move, Rule, Configuration, done, after, deeds_of, Quadruples}
use Rattle.bn_quad.specs.Quadruples.{initial_of, final_state_of, Rooms, AreAllowed, QuadruplesRunTo, IsQuadrupleStuck}
use Rattle.bn_quad.specs.Overlap.{IsDeterministic, IsUniform}
use Rattle.bn_quad.proofs.QuadStepLemmas.{goes_leads, leads_goes, only_is_first}
use Rattle.bn_quad.specs.Calls.{configuration, windows_of, rooms_of, DeedLeaves, LeavesAt, IsLeaving}
use Rattle.bn_quad.specs.declared.tapes.Tapes.{Tapes}
use Rattle.bn_bennett_laws.specs.Names.{IsUniformFrom}
use Rattle.bn_bennett_laws.specs.Steps.{Steps, IsFirstOutside, Exit, Stopped, Leaving, EndsAt, finishes, stops, leaves}

module _ (rooms : Rooms) (p : Quadruples) where
  pub goes_steps : (c d : Configuration ℕ) → QuadruplesRunTo rooms p c d
      → Steps rooms p.rules (final_state_of p.rules) c d
  goes_steps c d g = record {
    going = g.1.going;
    follows = record { number = g.0; leads = goes_leads rooms p g.0 c d g.1 };
    stays = g.1.stays;
  }

  pub steps_goes : IsDeterministic p.rules → (c d : Configuration ℕ) → Steps rooms p.rules (final_state_of p.rules) c d
      → QuadruplesRunTo rooms p c d
  steps_goes apart c d s = (
    s.follows.number,
    leads_goes rooms p s.follows.number c d apart s.going s.stays s.follows.leads,
  )

  pub run_of_goes : (n : ℕ) (c d : Configuration ℕ) → Reaches (QuadruplesRunTo rooms p) n c d
      → Reaches (Steps rooms p.rules (final_state_of p.rules)) n c d
  run_of_goes zero c d run = run
  run_of_goes (suc n) c d run = (run.0, goes_steps c run.0 run.1, run_of_goes n run.0 d run.2)

  pub run_of_steps : IsDeterministic p.rules → (n : ℕ) (c d : Configuration ℕ)
      → Reaches (Steps rooms p.rules (final_state_of p.rules)) n c d → Reaches (QuadruplesRunTo rooms p) n c d
  run_of_steps apart zero c d run = run
  run_of_steps apart (suc n) c d run = (run.0, steps_goes apart c run.0 run.1, run_of_steps apart n run.0 d run.2)

  -- ---- ends

  pub stuck_ends : (c : Configuration ℕ) → IsQuadrupleStuck p c
      → EndsAt rooms p.rules (final_state_of p.rules) c Stopped
  stuck_ends c s = stops s.going s.none refl

  pub ends_stuck : (c : Configuration ℕ) (e : Exit) → e ≡ Stopped → EndsAt rooms p.rules (final_state_of p.rules) c e
      → IsQuadrupleStuck p c
  ends_stuck c e is (stops going none why) = record { going = going; none = none }
  ends_stuck c e is (finishes final why) = absurd (cc)
  ends_stuck c e is (leaves tape side d going follows out why) = absurd (cc)

leaves_out : (d : Deed) (w : Windowed) (side : Side) → DeedLeaves d w side
    → IsBeyond w.left w.right side (done d w.tape).head
leaves_out (Rewrite r v) w side h = absurd h
leaves_out (Move s) w side h = h

out_leaves : (d : Deed) (w : Windowed) (side : Side) → IsInside w w.tape.head
    → IsBeyond w.left w.right side (done d w.tape).head → DeedLeaves d w side
out_leaves (Rewrite r v) w side inside h = absurd (not_inside_and_beyond w.left w.right w.tape.head side h inside)
out_leaves (Move s) w side inside h = h

module _ (r : Rule ℕ) (state : ℕ) (w : Tapes) (side : Side) where
  first_outside : (tape : ℕ) → LeavesAt (deeds_of r) (windows_of w) tape side
      → IsFirstOutside (rooms_of w) (after r (configuration state w)) tape side
  first_outside zero h = h
  first_outside (suc zero) h = leaves_out r.one w.one side h
  first_outside (suc (suc zero)) h = (h.0, leaves_out r.two w.two side h.1)
  first_outside (suc (suc (suc zero))) h = (h.0, h.1.0, leaves_out r.three w.three side h.1.1)
  first_outside (suc (suc (suc (suc n)))) h = absurd h.1.1.1

  first_leaves : (tape : ℕ) → AreAllowed (rooms_of w) (configuration state w)
      → IsFirstOutside (rooms_of w) (after r (configuration state w)) tape side
      → LeavesAt (deeds_of r) (windows_of w) tape side
  first_leaves zero inside h = h
  first_leaves (suc zero) inside h = out_leaves r.one w.one side inside.one h
  first_leaves (suc (suc zero)) inside h = (h.0, out_leaves r.two w.two side inside.two h.1)
  first_leaves (suc (suc (suc zero))) inside h = (h.0, (h.1, out_leaves r.three w.three side inside.three h.2))
  first_leaves (suc (suc (suc (suc n)))) inside h = absurd h

-- The first quadruple that applies would take a head out of its window exactly where the run ends so, the heads being
-- inside.
pub leaving_ends : (p : Quadruples) (state : ℕ) (w : Tapes) (tape : ℕ) (side : Side) → IsLeaving p state w tape side
    → EndsAt (rooms_of w) p.rules (final_state_of p.rules) (configuration state w) (Leaving tape side)
leaving_ends p state w tape side l =
    leaves tape side (after l.rule (configuration state w)) l.going
    (record {
      number = l.number;
      leads = record {
        rule = l.rule;
        stands = l.first.stands;
        leads = record { applies = l.first.holds; gives = refl };
      };
    })
    (first_outside l.rule state w side tape l.leaves) refl

pub ends_leaving : (p : Quadruples) (state : ℕ) (w : Tapes) (tape : ℕ) (side : Side) (e : Exit)
    → IsDeterministic p.rules → AreAllowed (rooms_of w) (configuration state w) → e ≡ Leaving tape side
    → EndsAt (rooms_of w) p.rules (final_state_of p.rules) (configuration state w) e → IsLeaving p state w tape side
ends_leaving p state w tape side e apart inside is (finishes final why) = absurd (cc)
ends_leaving p state w tape side e apart inside is (stops going none why) = absurd (cc)
ends_leaving p state w tape side e apart inside is (leaves tape' side' d going follows out why) =
    let l = follows.leads in
    let tapes : tape' ≡ tape = cc in
    let sides : side' ≡ side = cc in
    let here : IsFirstOutside (rooms_of w) (after l.rule (configuration state w)) tape' side' =
    subst (λ x. IsFirstOutside (rooms_of w) x tape' side') l.leads.gives out in
    record {
      going = going;
      number = follows.number;
      rule = l.rule;
      first = only_is_first p.rules follows.number l.rule (configuration state w) apart l.stands l.leads.applies;
      leaves = subst (λ s. LeavesAt (deeds_of l.rule) (windows_of w) tape s) sides
          (subst (λ n. LeavesAt (deeds_of l.rule) (windows_of w) n side') tapes
          (first_leaves l.rule state w side' tape' inside here));
    }

pub uniform_numbers : (rs : List (Rule ℕ)) → IsUniform rs ↔ IsUniformFrom (initial_of rs) (final_state_of rs) rs
uniform_numbers rs = (
  λ u. record {
    reads = u.reads;
    writes = u.writes;
    active = λ r h. u.active.none h.place r h.stands;
    not_entered = λ r h. u.initial.none h.place r h.stands;
    not_left = λ r h. u.final.none h.place r h.stands;
  },
  λ u. record {
    reads = u.reads;
    writes = u.writes;
    active = record { none = λ n r e. u.active r (record { place = n; stands = e }) };
    initial = record { none = λ n r e. u.not_entered r (record { place = n; stands = e }) };
    final = record { none = λ n r e. u.not_left r (record { place = n; stands = e }) };
  },
)

-- The least room of a run that halts or is stuck, by its reach.
use Rattle.std.proofs.Common.{◌≡◌, ℕ, ◌≤◌, inl, inr, List, length, refl, subst, arith}
use Rattle.bn_lists.specs.Runs.{Reaches}
use Rattle.bn_lists.proofs.FiniteLemmas.{runs_stop_once}
use Rattle.bn_machine.specs.Outcome.{Limits}
use Rattle.bn_extents.specs.LeastWindow.{AreAtMost}
use Rattle.bn_quad.specs.Quadruples.{Configuration, Quadruples, QuadruplesRunTo, everywhere}
use Rattle.bn_quad.specs.Quadruples.{final_state_of}
use Rattle.bn_quad.proofs.QuadStepLemmas.{goes_function}
use Rattle.bn_bennett_laws.specs.Stages.{rooms_of}
use Rattle.bn_bennett_laws.specs.Steps.{EndsAt, Exit, Finished, Stopped, finishes, leaves, stops}
use Rattle.bn_network.specs.Starts.{words_on}
use Rattle.bn_rooms.specs.OneSided.{HasEnded}
use Rattle.bn_rooms.specs.Reach.{HasReach, with_words}
use Rattle.bn_rooms.specs.LeastRoom.{FitsRun, IsLeastRoom, IsOwnEnd}
use Rattle.bn_rooms.proofs.ReachLemmas.{run_free, run_wider}

-- no step leads on where a machine has ended
pub ended_not_going : (p : Quadruples) (c d : Configuration ℕ) → HasEnded p c → QuadruplesRunTo everywhere p c d → ⊥
ended_not_going p c d (inl final) g = g.1.going final
ended_not_going p c d (inr stuck) g = stuck.none.none g.0 g.1.rule g.1.first.stands g.1.first.holds

-- an end of the machine itself
pub own_ended : (p : Quadruples) (l : Limits) (c : Configuration ℕ) (e : Exit) → IsOwnEnd e
    → EndsAt (rooms_of l) p.rules (final_state_of p.rules) c e → HasEnded p c
own_ended p l c e own (finishes final is) = inl final
own_ended p l c e own (stops going none is) = inr (record { going = going; none = none })
own_ended p l c e own (leaves tape side d going follows out is) = absurd (subst IsOwnEnd is own)

pub ended_own : (p : Quadruples) (l : Limits) (c : Configuration ℕ) → HasEnded p c
    → (e : Exit) × IsOwnEnd e × EndsAt (rooms_of l) p.rules (final_state_of p.rules) c e
ended_own p l c (inl final) = (Finished, tt, finishes final refl)
ended_own p l c (inr stuck) = (Stopped, tt, stops stuck.going stuck.none refl)

-- it is one in all limits
pub own_wider : (p : Quadruples) (k l : Limits) (c : Configuration ℕ) (e : Exit) → IsOwnEnd e
    → EndsAt (rooms_of k) p.rules (final_state_of p.rules) c e
    → EndsAt (rooms_of l) p.rules (final_state_of p.rules) c e
own_wider p k l c e own (finishes final is) = finishes final is
own_wider p k l c e own (stops going none is) = stops going none is
own_wider p k l c e own (leaves tape side d going follows out is) = absurd (subst IsOwnEnd is own)

at_most_words : (l : Limits) (one two three : List ℕ) → AreAtMost l (with_words l one two three)
at_most_words l one two three = record {
  left = omega arith;
  right = omega arith;
  steps = omega arith;
  output = omega arith;
}

module _ (p : Quadruples) (one two three : List ℕ) (i : ℕ) (c : Configuration ℕ) (l : Limits)
    (x : HasReach p i (words_on p one two three) c l) (ended : HasEnded p c) where
  -- limits that fit end where the machine does
  same_end : (k : Limits) (f : FitsRun p one two three k) → (f.steps ≡ i) × (f.last ≡ c)
  same_end k f = runs_stop_once (QuadruplesRunTo everywhere p) (goes_function everywhere p) f.steps i
      (words_on p one two three) f.last c (run_free (rooms_of k) p f.steps (words_on p one two three) f.last f.run)
      (run_free (rooms_of l) p i (words_on p one two three) c x.run)
      (λ d. ended_not_going p f.last d (own_ended p k f.last f.exit f.own f.ends)) (λ d. ended_not_going p c d ended)

  same_run : (k : Limits) → FitsRun p one two three k
      → Reaches (QuadruplesRunTo (rooms_of k) p) i (words_on p one two three) c
  same_run k f =
      let same = same_end k f in
      subst (λ (j : ℕ). Reaches (QuadruplesRunTo (rooms_of k) p) j (words_on p one two three) c) same.0
      (subst (λ (m : Configuration ℕ). Reaches (QuadruplesRunTo (rooms_of k) p) f.steps (words_on p one two three) m)
      same.1 f.run)

  room_fits : FitsRun p one two three (with_words l one two three)
  room_fits =
      let end = ended_own p (with_words l one two three) c ended in
      record {
        on_one = omega arith;
        on_two = omega arith;
        on_three = omega arith;
        steps = i;
        last = c;
        exit = end.0;
        run = run_wider l (with_words l one two three) p i (words_on p one two three) c (at_most_words l one two three)
            x.run;
        ends = end.2;
        own = end.1;
      }

  pub least_room : IsLeastRoom p one two three (with_words l one two three)
  least_room = record {
    fits = room_fits;
    least = λ k f.
        let more = x.least k (same_run k f) in
        let left : l.left ≤ k.left = more.left in
        let right : l.right ≤ k.right = more.right in
        let steps : l.steps ≤ k.steps = more.steps in
        let output : l.output ≤ k.output = more.output in
        let on_one : length one ≤ k.right = f.on_one in
        let on_two : length two ≤ k.steps = f.on_two in
        let on_three : length three ≤ k.output = f.on_three in
        record { left = omega arith; right = omega arith; steps = omega arith; output = omega arith };
  }

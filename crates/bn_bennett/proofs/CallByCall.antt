-- The calls of `step` on tapes in windows are the runs in these rooms.
use Rattle.std.proofs.Common.{◌≡◌, ◌∙◌, ℕ, suc, zero, List, refl, ap, subst, arith}
use Rattle.std.proofs.lemmas.Int.{ints}
use Rattle.std.specs.Prelude.{◌↔◌}
use Rattle.bn_lists.specs.Runs.{Reaches}
use Rattle.bn_machine.specs.Window.{IsBetween, Room, Windowed, with_tape, within}
use Rattle.std.specs.Prelude.{pos}
use Rattle.bn_machine.specs.Outcome as outcome
use Rattle.bn_machine.specs.Outcome.{Limits, Outcome}
use Rattle.bn_quad.specs.Quadruples.{AreAllowed, Configuration, QuadruplesRunTo, Quadruples, final_state_of, initial_of}
use Rattle.bn_quad.specs.Overlap.{IsDeterministic}
use Rattle.bn_quad.specs.Calls.{AreSameWindows, configuration, rooms_of}
use Rattle.bn_quad.specs.declared.tapes.Tapes.{Tapes}
use Rattle.bn_bennett_laws.proofs.NumberLemmas.{ends_leaving, ends_stuck, leaving_ends, run_of_goes, stuck_ends}
use Rattle.bn_bennett_laws.specs.Stages.{rooms_of as rooms_in}
use Rattle.bn_bennett_laws.specs.Steps.{EndsAt, Exit, Finished, Leaving, Stopped, finishes}
use Rattle.bn_bennett_laws.proofs.StageStepLemmas.{run_allowed}
use Rattle.bn_bennett.specs.Translation.{Translation}
use Rattle.bn_bennett.specs.Runs.{CallsEndAs, Comes, MachineEndsAs, Moves, Stand, beginning_of, ending_of, new_tapes}
use Rattle.bn_bennett.specs.Runs.{stand}

-- the same windows with the tapes of a configuration
abbrev put : Tapes → Configuration ℕ → Tapes
put w c = record { one = with_tape w.one c.one; two = with_tape w.two c.two; three = with_tape w.three c.three }

abbrev room_of : Windowed → Room
room_of w = within w.left w.right

-- windows that are the same make the same rooms
pub rooms_same : (w v : Tapes) → AreSameWindows w v → rooms_of v ≡ rooms_of w
rooms_same w v same =
    let one : (x y : Windowed) → y ≡ with_tape x y.tape → room_of y ≡ room_of x = λ x y e. ap room_of e in
    λ i. record {
      one = one w.one v.one same.one i;
      two = one w.two v.two same.two i;
      three = one w.three v.three same.three i;
    }

same_on : (w v x : Windowed) → v ≡ with_tape w v.tape → x ≡ with_tape v x.tape → x ≡ with_tape w x.tape
same_on w v x e f = f ∙ ap (λ (z : Windowed). with_tape z x.tape) e

pub windows_on : (w v x : Tapes) → AreSameWindows w v → AreSameWindows v x → AreSameWindows w x
windows_on w v x e f = record {
  one = same_on w.one v.one x.one e.one f.one;
  two = same_on w.two v.two x.two e.two f.two;
  three = same_on w.three v.three x.three e.three f.three;
}

module _ (q : Quadruples) where
  -- ---- the calls make the run

  run_of_moves : (n : ℕ) (a b : Stand) → Reaches (Moves q) n a b
      → Reaches (QuadruplesRunTo (rooms_of a.tapes) q) n (configuration a.state a.tapes) (configuration b.state b.tapes)
      × AreSameWindows a.tapes b.tapes
  run_of_moves zero a b run = (
    ap (λ (s : Stand). configuration s.state s.tapes) run,
    subst (λ (s : Stand). AreSameWindows a.tapes s.tapes) run (record { one = refl; two = refl; three = refl }),
  )
  run_of_moves (suc n) a b run =
      let m = run.0 in
      let turn = run.1.1 in
      let rest = run_of_moves n m b run.2 in (
        (
          configuration m.state m.tapes,
          (run.1.0, turn.0),
          subst
              (λ r. Reaches (QuadruplesRunTo r q) n (configuration m.state m.tapes) (configuration b.state b.tapes))
              (rooms_same a.tapes m.tapes turn.1) rest.0,
        ),
        windows_on a.tapes m.tapes b.tapes turn.1 rest.1,
      )

  moves_of_run : (n : ℕ) (a : Stand) (d : Configuration ℕ) → Reaches (QuadruplesRunTo (rooms_of a.tapes) q) n
      (configuration a.state a.tapes) d → Reaches (Moves q) n a (stand d.state (put a.tapes d))
  moves_of_run zero a d run = subst (λ (c : Configuration ℕ). a ≡ stand c.state (put a.tapes c)) run refl
  moves_of_run (suc n) a d run =
      let m = stand run.0.state (put a.tapes run.0) in
      (m, (run.1.0, (run.1.1, record { one = refl; two = refl; three = refl })), moves_of_run n m d run.2)

-- ---- the calls end as the run does

module _ (t : Translation) (word : List ℕ) (apart : IsDeterministic t.machine.rules) (l : Limits) where
  -- the heads are in their rooms at first, and so all along
  begins_allowed : AreAllowed (rooms_in l) (beginning_of t word)
  begins_allowed = record { one = from_zero l.left l.right; two = from_zero 0 l.steps; three = from_zero 0 l.output }
    where
      from_zero : (left right : ℕ) → IsBetween left right (pos 0)
      from_zero left right = record { above = omega (arith, ints); below = omega (arith, ints) }

  heads_allowed : (n : ℕ) (d : Configuration ℕ) → Reaches (QuadruplesRunTo (rooms_in l) t.machine) n
      (beginning_of t word) d → AreAllowed (rooms_in l) d
  heads_allowed n d run = run_allowed (rooms_in l) t.machine.rules (final_state_of t.machine.rules) apart n
      (beginning_of t word) d begins_allowed (run_of_goes (rooms_in l) t.machine n (beginning_of t word) d run)

  moved : (n : ℕ) (d : Configuration ℕ) → Reaches (QuadruplesRunTo (rooms_in l) t.machine) n (beginning_of t word) d
      → Reaches (Moves t.machine) n (stand (initial_of t.machine.rules) (new_tapes l word))
      (stand d.state (put (new_tapes l word) d))
  moved n d run = moves_of_run t.machine n (stand (initial_of t.machine.rules) (new_tapes l word)) d run

  calls_forth : (i : ℕ) (o : Outcome) → MachineEndsAs t word l i o → CallsEndAs t word l i o
  calls_forth i (outcome.Halted y) (all, c) = (
    all,
    record {
      moved = moved _ (ending_of t word y) c.run;
      answers = (refl, refl, refl);
    },
  )
  calls_forth i (outcome.Stuck state symbol) (d, c, at, symbols, none) = (
    stand d.state (put (new_tapes l word) d),
    record { moved = moved _ d c.run; answers = (ends_stuck (rooms_in l) t.machine d Stopped refl c.ends, refl, refl) },
    at,
    symbols,
    none,
  )
  calls_forth i (outcome.Outside tape side) (n, d, c, after) = (
    n,
    stand d.state (put (new_tapes l word) d),
    record {
      moved = moved n d c.run;
      answers = (
        ends_leaving t.machine d.state (put (new_tapes l word) d) tape side
            (Leaving tape side) apart (heads_allowed n d c.run) refl c.ends,
        refl,
        refl,
      );
    },
    after,
  )

  comes : (n : ℕ) (b : Stand) (e : Exit) → Reaches (Moves t.machine) n
      (stand (initial_of t.machine.rules) (new_tapes l word)) b
      → EndsAt (rooms_of b.tapes) t.machine.rules (final_state_of t.machine.rules) (configuration b.state b.tapes) e
      → Comes t word l n (configuration b.state b.tapes) e
  comes n b e run ends =
      let found = run_of_moves t.machine n (stand (initial_of t.machine.rules) (new_tapes l word)) b run in
      record {
        run = found.0;
        ends = subst (λ r. EndsAt r t.machine.rules (final_state_of t.machine.rules) (configuration b.state b.tapes) e)
            (rooms_same (new_tapes l word) b.tapes found.1) ends;
      }

  calls_back : (i : ℕ) (o : Outcome) → CallsEndAs t word l i o → MachineEndsAs t word l i o
  calls_back i (outcome.Halted y) (all, a) = (all, comes _ _ Finished a.moved (finishes a.answers.0 refl))
  calls_back i (outcome.Stuck state symbol) (b, a, at, symbols, none) = (
    configuration b.state b.tapes,
    comes _ b Stopped a.moved (stuck_ends (rooms_of b.tapes) t.machine (configuration b.state b.tapes) a.answers.0),
    at,
    symbols,
    none,
  )
  calls_back i (outcome.Outside tape side) (n, b, a, after) = (
    n,
    configuration b.state b.tapes,
    comes n b (Leaving tape side) a.moved (leaving_ends t.machine b.state b.tapes tape side a.answers.0),
    after,
  )

  pub calls_alike : (i : ℕ) (o : Outcome) → MachineEndsAs t word l i o ↔ CallsEndAs t word l i o
  calls_alike i o = (calls_forth i o, calls_back i o)

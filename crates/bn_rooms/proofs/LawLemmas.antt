-- The laws on least rooms.
use Rattle.std.proofs.Common.{◌≡◌, ◌≢◌, ℕ, zero, suc, ◌+◌, ◌<◌, ◌≤◌, ◌⊎◌, inl, inr, length, refl, sym, ap, ◌∙◌}
use Rattle.std.proofs.Common.{subst}
use Rattle.std.proofs.Common.{arith}
use Rattle.std.specs.Prelude.{ℤ, pos, ◌-ℤ◌, ◌≤ℤ◌}
use Rattle.std.proofs.lemmas.Int.{by_lt_z, ints}
use Rattle.std.proofs.lemmas.Bool.{cases_lt}
use Rattle.std.proofs.lemmas.Bool.Decides.{eqb_tells}
use Rattle.bn_lists.specs.Runs.{IsFunction, Reaches}
use Rattle.bn_lists.proofs.RunsLemmas.{runs_end_once, runs_more}
use Rattle.bn_machine.specs.Outcome.{Limits}
use Rattle.bn_machine.specs.Window.{IsBetween, within}
use Rattle.bn_machine.specs.declared.quint.Side.{Side}
use Rattle.bn_machine.specs.declared.quint.Side.TheVariants as sides
use Rattle.bn_machine.proofs.OutcomeLemmas.{run_goes_on}
use Rattle.bn_extents.specs.LeastWindow.{AreAtMost}
use Rattle.bn_quad.specs.Overlap.{IsDeterministic}
use Rattle.bn_quad.specs.Quadruples.{AreAllowed, Configuration, Quadruples, QuadruplesRunTo, everywhere, final_state_of}
use Rattle.bn_quad.proofs.QuadStepLemmas.{goes_function, goes_leads, leads_goes}
use Rattle.bn_bennett_laws.specs.Stages.{rooms_of}
use Rattle.bn_bennett_laws.specs.Steps.{EndsAt, IsFirstOutside, IsOutside, Leaving, Steps, leaves}
use Rattle.bn_erase_laws.proofs.DecidedLemmas.{Next, has_none, is_final, next_of, steps_on}
use Rattle.bn_network.specs.Starts.{words_on}
use Rattle.bn_rooms.specs.OneSided.{EndsWithin, HasEnded, IsFirstLeft, LeavesWithin, OneSidedStep, RunsOn, second}
use Rattle.bn_rooms.specs.OneSided.{third}
use Rattle.bn_rooms.specs.RoomOutcome.{HasRoomOutcome, NoRoom, Room as room, RoomOutcome, Running}
use Rattle.bn_rooms.specs.Laws.{LargerRoomsEndAlike, LeastRoomExists, LeastRoomIsOne, LeavesRoom}
use Rattle.bn_rooms.specs.Laws.{LeftOfStartHasNoRoom, RoomOutcomeExists, RoomOutcomeIsOne, SmallerRoomsAreTooSmall}
use Rattle.bn_rooms.proofs.ReachLemmas.{goes_in, one_sided_free, reach_exists, run_free, run_one_sided}
use Rattle.bn_rooms.proofs.ReachLemmas.{run_wider}
use Rattle.bn_rooms.proofs.LeastLemmas.{ended_not_going, least_room, own_ended, own_wider}

pub least_room_exists : LeastRoomExists
least_room_exists p one two three n h =
    let reach = reach_exists p h.steps (words_on p one two three) h.last h.run in
    (_, least_room p one two three h.steps h.last reach.0 reach.1 h.ended)

-- two limits that are each at most the other
same_limits : (k l : Limits) → AreAtMost k l → AreAtMost l k → k ≡ l
same_limits k l a b =
    let left : k.left ≡ l.left = let x = a.left in let y = b.left in omega arith in
    let right : k.right ≡ l.right = let x = a.right in let y = b.right in omega arith in
    let steps : k.steps ≡ l.steps = let x = a.steps in let y = b.steps in omega arith in
    let output : k.output ≡ l.output = let x = a.output in let y = b.output in omega arith in
    λ i. record { left = left i; right = right i; steps = steps i; output = output i }

pub least_room_is_one : LeastRoomIsOne
least_room_is_one p one two three k l a b = same_limits k l (a.least l b.fits) (b.least k a.fits)

pub larger_rooms_end_alike : LargerRoomsEndAlike
larger_rooms_end_alike p one two three k l fit more = (
  record {
    on_one = let x = fit.on_one in let y = more.right in omega arith;
    on_two = let x = fit.on_two in let y = more.steps in omega arith;
    on_three = let x = fit.on_three in let y = more.output in omega arith;
    steps = fit.steps;
    last = fit.last;
    exit = fit.exit;
    run = run_wider k l p fit.steps (words_on p one two three) fit.last more fit.run;
    ends = own_wider p k l fit.last fit.exit fit.own fit.ends;
    own = fit.own;
  },
  refl,
  refl,
  refl,
)

-- ---- smaller rooms

between_or : (left right : ℕ) (p : ℤ) → IsBetween left right p ⊎ ((end : Side) × IsOutside (within left right) end p)
between_or left right p =
    by_lt_z p (pos 0 -ℤ pos left)
    (λ beyond. inr (sides.Left, beyond))
    (λ above. by_lt_z (pos right) p
    (λ beyond. inr (sides.Right, beyond))
    (λ below. inl (record { above = above; below = below })))

-- each head is in its window, or one is the first that is outside
allowed_or : (l : Limits) (d : Configuration ℕ) → AreAllowed (rooms_of l) d
    ⊎ ((tape : ℕ) × (end : Side) × IsFirstOutside (rooms_of l) d tape end)
allowed_or l d = elim (between_or l.left l.right d.one.head) [
  | inr out ↦ inr (1, out.0, out.1)
  | inl one ↦ elim (between_or 0 l.steps d.two.head) [
    | inr out ↦ inr (2, out.0, (one, out.1))
    | inl two ↦ elim (between_or 0 l.output d.three.head) [
      | inr out ↦ inr (3, out.0, (one, two, out.1))
      | inl three ↦ inl (record { one = one; two = two; three = three })
    ]
  ]
]

-- the run within limits from c ends where a head leaves its window
record LeavesFrom (p : Quadruples) (l : Limits) (c : Configuration ℕ) : Type 0 where
  pub steps : ℕ
  pub last : Configuration ℕ
  pub tape : ℕ
  pub side : Side
  pub run : Reaches (QuadruplesRunTo (rooms_of l) p) steps c last
  pub ends : EndsAt (rooms_of l) p.rules (final_state_of p.rules) last (Leaving tape side)

-- a run stays within limits, or leaves them
stays_or_leaves : (p : Quadruples) (l : Limits) (n : ℕ) (c d : Configuration ℕ)
    → Reaches (QuadruplesRunTo everywhere p) n c d
    → Reaches (QuadruplesRunTo (rooms_of l) p) n c d ⊎ LeavesFrom p l c
stays_or_leaves p l zero c d run = inl run
stays_or_leaves p l (suc n) c d run = elim (allowed_or l run.0) [
  | inr out ↦ inr (record {
    steps = 0;
    last = c;
    tape = out.0;
    side = out.1;
    run = refl;
    ends = leaves out.0 out.1 run.0 run.1.1.going
        (record { number = run.1.0; leads = goes_leads everywhere p run.1.0 c run.0 run.1.1 }) out.2 refl;
  })
  | inl stays ↦
      let step : QuadruplesRunTo (rooms_of l) p c run.0 = goes_in everywhere (rooms_of l) p c run.0 stays run.1 in
      elim (stays_or_leaves p l n run.0 d run.2) [
        | inl rest ↦ inl (run.0, step, rest)
        | inr out ↦ inr (record {
          steps = suc out.steps;
          last = out.last;
          tape = out.tape;
          side = out.side;
          run = (run.0, step, out.run);
          ends = out.ends;
        })
      ]
]

pub smaller_rooms_are_too_small : SmallerRoomsAreTooSmall
smaller_rooms_are_too_small p one two three k l least smaller =
    elim (cases_lt k.right (length one)) [
      | inl short ↦ inl (inl short)
      | inr on_one ↦ elim (cases_lt k.steps (length two)) [
        | inl short ↦ inl (inr (inl short))
        | inr on_two ↦ elim (cases_lt k.output (length three)) [
          | inl short ↦ inl (inr (inr short))
          | inr on_three ↦ inr (by_run on_one on_two on_three (stays_or_leaves p k least.fits.steps
              (words_on p one two three) least.fits.last
              (run_free (rooms_of l) p least.fits.steps (words_on p one two three) least.fits.last least.fits.run)))
        ]
      ]
    ]
  where
    by_run : length one ≤ k.right → length two ≤ k.steps → length three ≤ k.output
        → Reaches (QuadruplesRunTo (rooms_of k) p) least.fits.steps (words_on p one two three) least.fits.last
        ⊎ LeavesFrom p k (words_on p one two three) → LeavesRoom p one two three k
    by_run on_one on_two on_three (inl run) = absurd (smaller (least.least k (record {
      on_one = on_one;
      on_two = on_two;
      on_three = on_three;
      steps = least.fits.steps;
      last = least.fits.last;
      exit = least.fits.exit;
      run = run;
      ends = own_wider p l k least.fits.last least.fits.exit least.fits.own least.fits.ends;
      own = least.fits.own;
    })))
    by_run on_one on_two on_three (inr out) = record {
      steps = out.steps;
      last = out.last;
      tape = out.tape;
      side = out.side;
      run = out.run;
      ends = out.ends;
    }

-- ---- no room

one_sided_once : (p : Quadruples) → IsFunction (OneSidedStep p)
one_sided_once p = λ c d e g h. goes_function everywhere p c d e g.goes h.goes

left_outside : (d : Configuration ℕ) (tape : ℕ) → IsFirstLeft d tape → pos 0 ≤ℤ d.two.head → pos 0 ≤ℤ d.three.head → ⊥
left_outside d tape (second low is) two three = absurd (omega (arith, ints, low, two))
left_outside d tape (third high low is) two three = absurd (omega (arith, ints, low, three))

-- after the run from c to where a head leaves a one-sided tape, no step on one-sided tapes leads on
leaving_stops : (p : Quadruples) (c : Configuration ℕ) (n tape : ℕ) (h : LeavesWithin p c n tape)
    (d : Configuration ℕ) → OneSidedStep p h.last d → ⊥
leaving_stops p c n tape h d step =
    let same : h.next ≡ d = goes_function everywhere p h.last h.next d h.goes step.goes in
    left_outside d tape (subst (λ (x : Configuration ℕ). IsFirstLeft x tape) same h.left) step.two step.three

-- a run that leaves does not end by itself on one-sided tapes
leaves_or_ends : (p : Quadruples) (c : Configuration ℕ) (n tape j : ℕ) (d : Configuration ℕ) → LeavesWithin p c n tape
    → Reaches (OneSidedStep p) j c d → HasEnded p d → ⊥
leaves_or_ends p c n tape j d h run ended = elim (cases_lt j (suc h.steps)) [
  | inl early ↦
      let all : h.steps + 1 ≡ suc h.steps = omega arith in
      let further : Reaches (QuadruplesRunTo everywhere p) (suc h.steps) c h.next =
      subst (λ (i : ℕ). Reaches (QuadruplesRunTo everywhere p) i c h.next) all
      (runs_more (QuadruplesRunTo everywhere p) h.steps c h.last h.next (one_sided_free p h.steps c h.last h.run)
      h.goes)
      in
      let goes = run_goes_on (QuadruplesRunTo everywhere p) (goes_function everywhere p) j (suc h.steps) c d h.next
      early (one_sided_free p j c d run) further in
      ended_not_going p d goes.0 ended goes.1
  | inr late ↦
      let goes = run_goes_on (OneSidedStep p) (one_sided_once p) h.steps j c h.last d (omega arith) h.run run in
      leaving_stops p c n tape h goes.0 goes.1
]

pub left_of_start_has_no_room : LeftOfStartHasNoRoom
left_of_start_has_no_room p one two three n tape h l f =
    leaves_or_ends p (words_on p one two three) n tape f.steps f.last h
    (run_one_sided l p f.steps (words_on p one two three) f.last f.run) (own_ended p l f.last f.exit f.own f.ends)

-- ---- what a run shows

-- a run from c ends within n steps, leaves, or runs on
data Shows (p : Quadruples) (c : Configuration ℕ) (n : ℕ) : Type 0 where
  shows_end : EndsWithin p c n → Shows p c n
  shows_left : (tape : ℕ) → LeavesWithin p c n tape → Shows p c n
  shows_more : RunsOn p c n → Shows p c n

shows_further : (p : Quadruples) (c d : Configuration ℕ) (n : ℕ) → OneSidedStep p c d → Shows p d n → Shows p c (suc n)
shows_further p c d n step (shows_end h) = shows_end (record {
  steps = suc h.steps;
  last = h.last;
  in_time = let low : h.steps ≤ n = h.in_time in omega arith;
  run = (d, step, h.run);
  ended = h.ended;
})
shows_further p c d n step (shows_left tape h) = shows_left tape (record {
  steps = suc h.steps;
  last = h.last;
  next = h.next;
  in_time = let low : h.steps < n = h.in_time in omega arith;
  run = (d, step, h.run);
  goes = h.goes;
  left = h.left;
})
shows_further p c d n step (shows_more h) = shows_more (record {
  last = h.last;
  next = h.next;
  run = (d, step, h.run);
  goes = h.goes;
})

ends_here : (p : Quadruples) (c : Configuration ℕ) (n : ℕ) → HasEnded p c → Shows p c n
ends_here p c n ended = shows_end (record { steps = 0; last = c; in_time = omega arith; run = refl; ended = ended })

leaves_here : (p : Quadruples) (c d : Configuration ℕ) (n tape : ℕ) → QuadruplesRunTo everywhere p c d
    → IsFirstLeft d tape → Shows p c (suc n)
leaves_here p c d n tape goes left = shows_left tape (record {
  steps = 0;
  last = c;
  next = d;
  in_time = omega arith;
  run = refl;
  goes = goes;
  left = left;
})

step_goes : (p : Quadruples) (c d : Configuration ℕ) → IsDeterministic p.rules
    → Steps everywhere p.rules (final_state_of p.rules) c d → QuadruplesRunTo everywhere p c d
step_goes p c d apart s =
    (s.follows.number, leads_goes everywhere p s.follows.number c d apart s.going s.stays s.follows.leads)

number_or : (a b : ℕ) → (a ≡ b) ⊎ (a ≢ b)
number_or a b = elim (eqb_tells a b) [ inl same ↦ inl same.1 | inr other ↦ inr other.1 ]

shows_some : (p : Quadruples) → IsDeterministic p.rules → (n : ℕ) (c : Configuration ℕ) → Shows p c n
shows_some p apart zero c = by (next_of number_or p.rules (final_state_of p.rules) c)
  where
    by : Next number_or p.rules (final_state_of p.rules) c → Shows p c 0
    by (is_final final) = ends_here p c 0 (inl final)
    by (has_none going none) = ends_here p c 0 (inr (record { going = going; none = none }))
    by (steps_on d s) = shows_more (record { last = c; next = d; run = refl; goes = step_goes p c d apart s })
shows_some p apart (suc n) c = by (shows_some p apart n) (next_of number_or p.rules (final_state_of p.rules) c)
  where
    by : ((d : Configuration ℕ) → Shows p d n) → Next number_or p.rules (final_state_of p.rules) c → Shows p c (suc n)
    by rest (is_final final) = ends_here p c (suc n) (inl final)
    by rest (has_none going none) = ends_here p c (suc n) (inr (record { going = going; none = none }))
    by rest (steps_on d s) =
        let goes : QuadruplesRunTo everywhere p c d = step_goes p c d apart s in
        by_lt_z d.two.head (pos 0)
        (λ low. leaves_here p c d n 2 goes (second low refl))
        (λ two. by_lt_z d.three.head (pos 0)
        (λ low. leaves_here p c d n 3 goes (third two low refl))
        (λ three. shows_further p c d n (record { goes = goes; two = two; three = three }) (rest d)))

pub room_outcome_exists : RoomOutcomeExists
room_outcome_exists p one two three n apart = by (shows_some p apart n (words_on p one two three))
  where
    by : Shows p (words_on p one two three) n → (o : RoomOutcome) × HasRoomOutcome p one two three n o
    by (shows_end h) = let l = least_room_exists p one two three n h in (room l.0, (h, l.1))
    by (shows_left tape h) = (NoRoom tape, h)
    by (shows_more h) = (Running, h)

-- ---- and only one

module _ (p : Quadruples) (c : Configuration ℕ) (n : ℕ) where
  ends_or_runs : EndsWithin p c n → RunsOn p c n → ⊥
  ends_or_runs h k =
      let all : n + 1 ≡ suc n = omega arith in
      let low : h.steps ≤ n = h.in_time in
      let further : Reaches (QuadruplesRunTo everywhere p) (suc n) c k.next =
      subst (λ (i : ℕ). Reaches (QuadruplesRunTo everywhere p) i c k.next) all
      (runs_more (QuadruplesRunTo everywhere p) n c k.last k.next (one_sided_free p n c k.last k.run) k.goes) in
      let goes = run_goes_on (QuadruplesRunTo everywhere p) (goes_function everywhere p) h.steps (suc n) c h.last k.next
      (omega arith) (one_sided_free p h.steps c h.last h.run) further in
      ended_not_going p h.last goes.0 h.ended goes.1

  leaves_or_runs : (tape : ℕ) → LeavesWithin p c n tape → RunsOn p c n → ⊥
  leaves_or_runs tape h k =
      let goes = run_goes_on (OneSidedStep p) (one_sided_once p) h.steps n c h.last k.last h.in_time h.run k.run in
      leaving_stops p c n tape h goes.0 goes.1

  first_left_once : (d : Configuration ℕ) (a b : ℕ) → IsFirstLeft d a → IsFirstLeft d b → a ≡ b
  first_left_once d a b (second low is) (second low' is') = is ∙ sym is'
  first_left_once d a b (second low is) (third high low' is') = absurd (omega (arith, ints, low, high))
  first_left_once d a b (third high low is) (second low' is') = absurd (omega (arith, ints, low', high))
  first_left_once d a b (third high low is) (third high' low' is') = is ∙ sym is'

  no_later : (a b : ℕ) (h : LeavesWithin p c n a) (k : LeavesWithin p c n b) → h.steps < k.steps → ⊥
  no_later a b h k early =
      let goes = run_goes_on (OneSidedStep p) (one_sided_once p) h.steps k.steps c h.last k.last early h.run k.run in
      leaving_stops p c n a h goes.0 goes.1

  leaves_once : (a b : ℕ) → LeavesWithin p c n a → LeavesWithin p c n b → a ≡ b
  leaves_once a b h k = elim (cases_lt h.steps k.steps) [
    | inl early ↦ absurd (no_later a b h k early)
    | inr late ↦ elim (cases_lt k.steps h.steps) [
      | inl early ↦ absurd (no_later b a k h early)
      | inr same ↦
          let count : h.steps ≡ k.steps = omega arith in
          let there : h.last ≡ k.last = runs_end_once (OneSidedStep p) (one_sided_once p) k.steps c h.last k.last
          (subst (λ (i : ℕ). Reaches (OneSidedStep p) i c h.last) count h.run) k.run in
          let next : h.next ≡ k.next = goes_function everywhere p k.last h.next k.next
          (subst (λ (x : Configuration ℕ). QuadruplesRunTo everywhere p x h.next) there h.goes) k.goes in
          first_left_once k.next a b (subst (λ (x : Configuration ℕ). IsFirstLeft x a) next h.left) k.left
    ]
  ]

pub room_outcome_is_one : RoomOutcomeIsOne
room_outcome_is_one p one two three n (room k) (room l) a b = ap room (least_room_is_one p one two three k l a.1 b.1)
room_outcome_is_one p one two three n (room k) (NoRoom tape) a b =
    absurd (leaves_or_ends p (words_on p one two three) n tape a.0.steps a.0.last b a.0.run a.0.ended)
room_outcome_is_one p one two three n (room k) Running a b = absurd (ends_or_runs p (words_on p one two three) n a.0 b)
room_outcome_is_one p one two three n (NoRoom tape) (room l) a b =
    absurd (leaves_or_ends p (words_on p one two three) n tape b.0.steps b.0.last a b.0.run b.0.ended)
room_outcome_is_one p one two three n (NoRoom t) (NoRoom u) a b =
    ap NoRoom (leaves_once p (words_on p one two three) n t u a b)
room_outcome_is_one p one two three n (NoRoom tape) Running a b =
    absurd (leaves_or_runs p (words_on p one two three) n tape a b)
room_outcome_is_one p one two three n Running (room l) a b = absurd (ends_or_runs p (words_on p one two three) n b.0 a)
room_outcome_is_one p one two three n Running (NoRoom tape) a b =
    absurd (leaves_or_runs p (words_on p one two three) n tape b a)
room_outcome_is_one p one two three n Running Running a b = refl

-- The network's run over its moments is a run of the board.
use Rattle.std.specs.Prelude.{◌≡◌, ◌≢◌, ℕ, ◌+◌, ◌-◌, ◌*◌, ◌<◌, ◌≤◌, Bool, true, false, not, refl, ◌⊎◌}
use Rattle.std.proofs.Common.{zero, suc, arith, sym, ap, subst, ◌∙◌, inl, inr}
use Rattle.bn_lists.specs.Runs.{Reaches, Passes}
use Rattle.bn_lists.proofs.RunsLemmas.{passes_run, runs_join}
use Rattle.bn_circuits.specs.Circuits.{clock, Goes, IsStuck}
use Rattle.bn_circuits.specs.declared.place.Place.{Place}
use Rattle.bn_circuits.specs.declared.place.Place.TheVariants.{Enter, Left}
use Rattle.bn_circuits.specs.declared.config.Config.{Config}
use Rattle.bn_quad.specs.Quadruples.{Configuration}
use Rattle.bn_circuits.specs.Situations.{Situation, Turns, IsAtEnd}
use Rattle.bn_rsm.specs.RunCosts.{run_cost, step_cost}
use Rattle.bn_circuits.specs.Counting.{tally, one_if}
use Rattle.bn_boards.specs.Boards.{AreModules, IsBoard, StandsFor, IsLoose}
use Rattle.bn_boards.specs.Layouts.{is_moment}
use Rattle.bn_boards.specs.Builds.{Build, build_elements}
use Rattle.bn_boards.specs.Readings.{MomentsAgree}
use Rattle.bn_boards.specs.Journeys.{Strides, ComesOver}
use Rattle.bn_circuits.proofs.CountingLemmas.{tallies-add, tally-zero}
use Rattle.bn_boards.proofs.FollowedLemmas.{boards-follow}
use Rattle.bn_rsm.proofs.RunCostLemmas.{cost-none, cost-joins, one_cost, cost_some, left_cost}
use Rattle.bn_boards.proofs.LooseLemmas.{loose-move}
use Rattle.bn_boards.proofs.StopLemmas.{stops_later}
use Rattle.bn_network_laws.proofs.PathLemmas.{negated}

pub denied : (b : Bool) → not b ≡ true → b ≡ false
denied true h = absurd (cc)
denied false h = refl

pub one_of : (b : Bool) → b ≡ true → one_if b ≡ 1
one_of true h = refl
one_of false h = absurd (cc)

pub none_of : (b : Bool) → b ≡ false → one_if b ≡ 0
none_of true h = absurd (cc)
none_of false h = refl

-- The board's run in its cost: a moment for each of the machine's steps and one more, and where the signal stands at
-- the end.
pub record BoardComesOver (f : Build) (start : Situation) (c0 : Config) (n : ℕ)
    (Ends : Situation → Type 0) : Type 0 where
  pub moves : ℕ
  pub last : Situation
  pub turns : Reaches (Turns f.network) moves start last
  pub ended : IsAtEnd f.network last
  pub ends : Ends last
  pub at_end : Config
  pub run : Reaches (Goes f.circuit) (run_cost f.network (moves + 1) start) c0 at_end
  pub bounded : run_cost f.network (moves + 1) start ≤ 4 * build_elements f + 48 * build_elements f * (n + 1)
  pub count : tally (is_moment f.layout) f.circuit (run_cost f.network (moves + 1) start) c0 ≡ n + 1
  pub stands : (StandsFor f.network last at_end × ((e i : ℕ) → last.place ≢ Enter e i)) ⊎ IsLoose f.network last at_end

module _ (f : Build) (test : Situation → Bool) (modules : AreModules f.network) (board : IsBoard f.network f.circuit)
    (agree : MomentsAgree f test) where
  -- a run of m moves in its cost
  pub record Leg (m : ℕ) (s t : Situation) (c d : Config) (count : ℕ) : Type 0 where
    pub turns : Reaches (Turns f.network) m s t
    pub run : Reaches (Goes f.circuit) (run_cost f.network m s) c d
    pub stands : StandsFor f.network t d
    pub steps : d.steps ≡ c.steps + run_cost f.network m s
    pub counted : tally (is_moment f.layout) f.circuit (run_cost f.network m s) c ≡ count

  pub leg : (m : ℕ) (s t : Situation) (c : Config) → StandsFor f.network s c → 0 < m
      → Passes (Turns f.network) (λ x. not (test x)) m s t
      → c.steps + run_cost f.network m s ≤ clock
      → (d : Config) × Leg m s t c d (one_if (test t))
  leg m s t c stands some path room =
      let between : Situation → Bool = λ x. not (test x) in
      let quiet : Config → Bool = λ d. not (is_moment f.layout d) in
      let follow = boards-follow f.network f.circuit m s t c between quiet modules board stands path room
      (λ i x y d low run g amid. negated (is_moment f.layout d) (agree.amid x y d amid))
      (λ x d there h. negated (is_moment f.layout d) (agree.between x d there ∙ denied (test x) h)) in
      let run = passes_run (Goes f.circuit) quiet (run_cost f.network m s) c follow.0 follow.1 in
      let turns = passes_run (Turns f.network) between m s t path in
      let once = tallies-add.1 f.circuit (is_moment f.layout) (run_cost f.network m s) c follow.0
      (cost_some f.network m s t some turns) follow.1 in (
        follow.0,
        record {
          turns = turns;
          run = run;
          stands = follow.2;
          steps = follow.3;
          counted = once ∙ ap one_if (agree.between t follow.0 follow.2);
        },
      )

  no_leg : (s : Situation) (c : Config) → StandsFor f.network s c → Leg 0 s s c c 0
  no_leg s c stands =
      let none = cost-none f.network s in
      record {
        turns = refl;
        run = subst (λ x. Reaches (Goes f.circuit) x c c) (sym none) refl;
        stands = stands;
        steps = omega arith;
        counted = ap (λ x. tally (is_moment f.layout) f.circuit x c) none ∙ tally-zero f.circuit (is_moment f.layout) c;
      }

  two_legs : (m n : ℕ) (s t u : Situation) (c d e : Config) (a b : ℕ) → Leg m s t c d a → Leg n t u d e b
      → Leg (m + n) s u c e (a + b)
  two_legs m n s t u c d e a b first second =
      let cost = cost-joins f.network m n s t first.turns in
      let steps_first = first.steps in
      let steps_second = second.steps in
      let counted_first = first.counted in
      let counted_second = second.counted in
      let joined = tallies-add.0 f.circuit (is_moment f.layout) (run_cost f.network m s)
      (run_cost f.network n t) c d first.run in
      record {
        turns = runs_join (Turns f.network) (m + n) m n s t u refl first.turns second.turns;
        run = runs_join (Goes f.circuit) (run_cost f.network (m + n) s) (run_cost f.network m s)
            (run_cost f.network n t) c d e cost first.run second.run;
        stands = second.stands;
        steps = omega arith;
        counted = ap (λ x. tally (is_moment f.layout) f.circuit x c) cost ∙ joined ∙ omega arith;
      }

  all_strides : (n : ℕ) (s t : Situation) (x y : Configuration ℕ) (c : Config) → StandsFor f.network s c
      → Reaches (Strides f test) n (s, x) (t, y)
      → c.steps + 48 * build_elements f * n ≤ clock
      → (m : ℕ) × (d : Config) × Leg m s t c d n × (run_cost f.network m s ≤ 48 * build_elements f * n)
  all_strides zero s t x y c stands path room =
      let same : s ≡ t = ap (λ (z : Situation × Configuration ℕ). z.0) path in
      let none = cost-none f.network s in
      (0, c, subst (λ z. Leg 0 s z c c 0) same (no_leg s c stands), omega arith)
  all_strides (suc n) s t x y c stands path room =
      let stride = path.1 in
      let next = path.0.0 in
      let cheap : run_cost f.network stride.moves s ≤ 48 * build_elements f = stride.travels.cost in
      let product : 48 * build_elements f * suc n ≡ 48 * build_elements f + 48 * build_elements f * n = omega arith in
      let first = leg stride.moves s next c stands stride.some stride.travels.path (omega arith) in
      let steps = first.1.steps in
      let rest = all_strides n next t path.0.1 y first.0 first.1.stands path.2 (omega arith) in
      let told : one_if (test next) ≡ 1 = one_of (test next) stride.told in
      let whole = two_legs stride.moves rest.0 s next t c first.0 rest.1 (one_if (test next)) n first.1 rest.2 in
      let count : one_if (test next) + n ≡ suc n = omega arith in
      let cost = cost-joins f.network stride.moves rest.0 s next first.1.turns in
      let cheap_rest = rest.3 in
      (stride.moves + rest.0, rest.1, subst (Leg (stride.moves + rest.0) s t c rest.1) count whole, omega arith)

  -- from the last moment to the end, which is none
  pub leaving : (m : ℕ) (s t : Situation) (c : Config) → StandsFor f.network s c
      → Passes (Turns f.network) (λ x. not (test x)) m s t
      → (m ≡ 0) ⊎ (test t ≡ false) → c.steps + run_cost f.network m s ≤ clock → (d : Config) × Leg m s t c d 0
  leaving zero s t c stands path quiet room = (c, subst (λ z. Leg 0 s z c c 0) path (no_leg s c stands))
  leaving (suc m) s t c stands path (inl none) room = absurd (omega arith)
  leaving (suc m) s t c stands path (inr none) room = let last = leg (suc m) s t c stands (omega arith) path room in
      (last.0, subst (Leg (suc m) s t c last.0) (none_of (test t) none) last.1)

  -- the end: nothing more, or the way to a loose line
  pub record Ending (t : Situation) (c e : Config) : Type 0 where
    pub run : Reaches (Goes f.circuit) (step_cost f.network t) c e
    pub counted : tally (is_moment f.layout) f.circuit (step_cost f.network t) c ≡ 0
    pub stands : (StandsFor f.network t e × ((x i : ℕ) → t.place ≢ Enter x i)) ⊎ IsLoose f.network t e

  pub at_end : (t : Situation) (c : Config) (p : Place) → t.place ≡ p → StandsFor f.network t c → IsAtEnd f.network t
      → c.steps + step_cost f.network t ≤ clock
      → (e : Config) × Ending t c e
  at_end t c (Left e o) is stands ended room =
      let none = left_cost f.network t e o is in (
        c,
        record {
          run = subst (λ x. Reaches (Goes f.circuit) x c c) (sym none) refl;
          counted = ap (λ x. tally (is_moment f.layout) f.circuit x c) none
              ∙ tally-zero f.circuit (is_moment f.layout) c;
          stands = inl (stands, λ x i h. (let both : Left e o ≡ Enter x i = sym is ∙ h in cc));
        },
      )
  at_end t c (Enter e i) is stands ended room =
      let quiet : Config → Bool = λ d. not (is_moment f.layout d) in
      let loose = loose-move f.network f.circuit t e i c quiet modules board stands ended is room
      (λ d amid. negated (is_moment f.layout d) (agree.amid t t d amid)) in
      let never = agree.loose t loose.0 loose.2 in (
        loose.0,
        record {
          run = passes_run (Goes f.circuit) quiet (step_cost f.network t) c loose.0 loose.1;
          counted = by_cost (step_cost f.network t) loose.0 loose.1 never;
          stands = inr loose.2;
        },
      )
    where
      by_cost : (n : ℕ) (d : Config) → Passes (Goes f.circuit) (λ x. not (is_moment f.layout x)) n c d
          → is_moment f.layout d ≡ false
          → tally (is_moment f.layout) f.circuit n c ≡ 0
      by_cost zero d path none = tally-zero f.circuit (is_moment f.layout) c
      by_cost (suc n) d path none = tallies-add.1 f.circuit (is_moment f.layout) (suc n) c d (omega arith) path
          ∙ none_of (is_moment f.layout d) none

  -- the whole, from the run over the machine's steps
  come_from : (s : Situation) (c0 : Configuration ℕ) (c : Config) → StandsFor f.network s c
      → (n : ℕ) (d : Configuration ℕ) (Ends : Situation → Type 0) (comes : ComesOver f test s c0 n d Ends)
      → (one : (a : Config) × Leg 1 s comes.first c a (one_if (test comes.first)))
      → (middle : (m : ℕ) × (b : Config) × Leg m comes.first comes.moment one.0 b n
      × (run_cost f.network m comes.first ≤ 48 * build_elements f * n))
      → middle.1.steps + 48 * build_elements f ≤ clock → BoardComesOver f s c n Ends
  come_from s c0 c stands n d Ends comes one middle room =
      let cheap_first = comes.starts.cost in
      let told : one_if (test comes.first) ≡ 1 = one_of (test comes.first) comes.told in
      let cheap_middle = middle.3 in
      let last_cost = cost-joins f.network comes.moves 1 comes.moment comes.last
      (passes_run (Turns f.network) (λ x. not (test x)) comes.moves comes.moment comes.last comes.leaves.path) in
      let last_step = one_cost f.network comes.last in
      let whole_cost = comes.whole in
      let last = leaving comes.moves comes.moment comes.last middle.1 middle.2.stands comes.leaves.path comes.quiet
      (omega arith) in
      let steps_last = last.1.steps in
      let begun = two_legs 1 middle.0 s comes.first comes.moment c one.0 middle.1
      (one_if (test comes.first)) n one.1 middle.2 in
      let all = two_legs (1 + middle.0) comes.moves s comes.moment comes.last c middle.1 last.0
      (one_if (test comes.first) + n) 0 begun last.1 in
      let ending = at_end comes.last last.0 comes.last.place refl last.1.stands comes.ended (omega arith) in
      let moves = 1 + middle.0 + comes.moves in
      let cost : run_cost f.network (moves + 1) s ≡ run_cost f.network moves s + step_cost f.network comes.last =
      cost-joins f.network moves 1 s comes.last all.turns ∙ ap (λ x. run_cost f.network moves s + x) last_step in
      let begun_cost = cost-joins f.network 1 middle.0 s comes.first one.1.turns in
      let all_cost = cost-joins f.network (1 + middle.0) comes.moves s comes.moment begun.turns in
      let joined = tallies-add.0 f.circuit (is_moment f.layout) (run_cost f.network moves s)
      (step_cost f.network comes.last) c last.0 all.run in
      let counted = all.counted in
      let counted_end = ending.1.counted in
      record {
        moves = moves;
        last = comes.last;
        turns = all.turns;
        ended = comes.ended;
        ends = comes.ends;
        at_end = ending.0;
        run = runs_join (Goes f.circuit) (run_cost f.network (moves + 1) s) (run_cost f.network moves s)
            (step_cost f.network comes.last) c last.0 ending.0 cost all.run ending.1.run;
        bounded = omega arith;
        count = ap (λ x. tally (is_moment f.layout) f.circuit x c) cost ∙ joined ∙ omega arith;
        stands = ending.1.stands;
      }

  pub come : (s : Situation) (c0 : Configuration ℕ) (c : Config) → StandsFor f.network s c → c.steps ≡ 0
      → (n : ℕ) (d : Configuration ℕ) (Ends : Situation → Type 0) → ComesOver f test s c0 n d Ends
      → 4 * build_elements f + 48 * build_elements f * (n + 1) ≤ clock → BoardComesOver f s c n Ends
  come s c0 c stands no_steps n d Ends comes room =
      let cheap_first = comes.starts.cost in
      let one = leg 1 s comes.first c stands (omega arith) comes.starts.path (omega arith) in
      let steps_one = one.1.steps in
      let middle = all_strides n comes.first comes.moment c0 d one.0 one.1.stands comes.strides (omega arith) in
      let cheap_middle = middle.3 in
      let steps_middle = middle.2.steps in
      come_from s c0 c stands n d Ends comes one middle (omega arith)

  -- ---- the same where the board is known to stop

  -- over the machine's steps, where the board goes on for r steps and no further
  walk : (n : ℕ) (s t : Situation) (x y : Configuration ℕ) (c z : Config) (r : ℕ) → StandsFor f.network s c
      → Reaches (Strides f test) n (s, x) (t, y)
      → Reaches (Goes f.circuit) r c z → IsStuck f.circuit z → c.steps + r + 48 * build_elements f ≤ clock
      → (m : ℕ) × (d : Config) × Leg m s t c d n × (run_cost f.network m s ≤ 48 * build_elements f * n)
  walk zero s t x y c z r stands path run stuck room =
      let same : s ≡ t = ap (λ (z : Situation × Configuration ℕ). z.0) path in
      let none = cost-none f.network s in
      (0, c, subst (λ z. Leg 0 s z c c 0) same (no_leg s c stands), omega arith)
  walk (suc n) s t x y c z r stands path run stuck room =
      let stride = path.1 in
      let next = path.0.0 in
      let cheap : run_cost f.network stride.moves s ≤ 48 * build_elements f = stride.travels.cost in
      let first = leg stride.moves s next c stands stride.some stride.travels.path (omega arith) in
      let told : one_if (test next) ≡ 1 = one_of (test next) stride.told in
      let steps_first = first.1.steps in
      let bound = stops_later f.circuit (run_cost f.network stride.moves s) r c first.0 z first.1.run run stuck in
      let low = bound.0 in
      let rest = walk n next t path.0.1 y first.0 z (r - run_cost f.network stride.moves s) first.1.stands path.2
      bound.1 stuck (omega arith) in
      let whole = two_legs stride.moves rest.0 s next t c first.0 rest.1 (one_if (test next)) n first.1 rest.2 in
      let count : one_if (test next) + n ≡ suc n = omega arith in
      let cost = cost-joins f.network stride.moves rest.0 s next first.1.turns in
      let cheap_rest = rest.3 in
      (stride.moves + rest.0, rest.1, subst (Leg (stride.moves + rest.0) s t c rest.1) count whole, omega arith)

  pub come_by : (s : Situation) (c0 : Configuration ℕ) (c : Config) → StandsFor f.network s c → c.steps ≡ 0
      → (n : ℕ) (d : Configuration ℕ) (Ends : Situation → Type 0) → ComesOver f test s c0 n d Ends
      → (r : ℕ) (z : Config) → Reaches (Goes f.circuit) r c z → IsStuck f.circuit z → r + 48 * build_elements f ≤ clock
      → BoardComesOver f s c n Ends
  come_by s c0 c stands no_steps n d Ends comes r z run stuck room =
      let cheap_first = comes.starts.cost in
      let one = leg 1 s comes.first c stands (omega arith) comes.starts.path (omega arith) in
      let steps_one = one.1.steps in
      let bound = stops_later f.circuit (run_cost f.network 1 s) r c one.0 z one.1.run run stuck in
      let low = bound.0 in
      let middle = walk n comes.first comes.moment c0 d one.0 z (r - run_cost f.network 1 s) one.1.stands comes.strides
      bound.1 stuck (omega arith) in
      let further = stops_later f.circuit (run_cost f.network middle.0 comes.first)
      (r - run_cost f.network 1 s) one.0 middle.1 z middle.2.run bound.1 stuck in
      let low_middle = further.0 in
      let steps_middle = middle.2.steps in
      come_from s c0 c stands n d Ends comes one middle (omega arith)

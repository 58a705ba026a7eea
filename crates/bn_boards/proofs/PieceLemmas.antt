-- The pieces of which a board's run is made: from one moment to the next, and from the last one to its end.
use Rattle.std.specs.Prelude.{◌≡◌, ℕ, ◌+◌, ◌*◌, ◌<◌, ◌≤◌, Bool, not, [], refl}
use Rattle.std.proofs.Common.{zero, suc, arith, subst, ap, ◌∙◌}
use Rattle.bn_lists.specs.Runs.{Passes, Reaches}
use Rattle.bn_lists.proofs.RunsLemmas.{passes_run, runs_join}
use Rattle.bn_circuits.specs.Circuits.{Circuit, clock, Goes, IsStuck}
use Rattle.bn_circuits.specs.Counting.{tally, one_if}
use Rattle.bn_circuits.specs.Situations.{Situation, Turns}
use Rattle.bn_circuits.specs.declared.config.Config.{Config}
use Rattle.bn_circuits.proofs.CountingLemmas.{tallies-add}
use Rattle.bn_quad.specs.Quadruples.{Configuration, final_state_of}
use Rattle.bn_bennett_laws.specs.Stages.{rooms_of}
use Rattle.bn_bennett_laws.specs.Steps.{Exit, EndsAt, Steps}
use Rattle.bn_bennett_laws.proofs.NumberLemmas.{steps_goes}
use Rattle.bn_rsm.specs.RunCosts.{run_cost, step_cost}
use Rattle.bn_rsm.proofs.CostLemmas.{costs-bounded}
use Rattle.bn_rsm.proofs.RunCostLemmas.{cost-joins, cost_some, one_cost}
use Rattle.bn_network.specs.Moments.{IsMomentOf, TellsMoments, quad_moves}
use Rattle.bn_network.proofs.ExistingLemmas.{have-entries}
use Rattle.bn_network_laws.proofs.CommandLemmas.{commands-walk}
use Rattle.bn_network_laws.proofs.NextLemmas.{next-moment}
use Rattle.bn_boards.specs.Boards.{StandsFor}
use Rattle.bn_boards.specs.Layouts.{is_moment}
use Rattle.bn_boards.specs.NetworkReads.{NetworkReads}
use Rattle.bn_boards.specs.Builds.{Build, IsBuild, build_elements}
use Rattle.bn_boards.specs.Exits.{BoardLeaves}
use Rattle.bn_boards.proofs.ComingLemmas.{ended}
use Rattle.bn_boards.proofs.LeavingLemmas.{left_so}
use Rattle.bn_boards.specs.Readings.{MomentsAgree}
use Rattle.bn_boards.proofs.TravelLemmas.{at_end, leaving, leg}
use Rattle.bn_boards.proofs.TravelLemmas.{one_of}
use Rattle.bn_boards.proofs.ExitedLemmas.{stuck_at}

-- ---- the clock put back

-- the same with so many steps made
abbrev pub counted_as : Config → ℕ → Config
counted_as c n = record { states = c.states; place = c.place; steps = n }

-- a run is one from fewer steps as well
pub sooner : (k : Circuit) (t : ℕ) (a x : Config) (n : ℕ) → n ≤ a.steps → Reaches (Goes k) t a x
    → Reaches (Goes k) t (counted_as a n) (counted_as x (n + t))
sooner k zero a x n low path = λ i. counted_as (path i) (sum i)
  where
    sum : n ≡ n + 0
    sum = omega arith
sooner k (suc t) a x n low path =
    let step = path.1 in
    let made = step.steps in
    let room = step.in_time in
    let sum : n + 1 + t ≡ n + suc t = omega arith in (
      counted_as path.0 (n + 1),
      record { crosses = step.crosses; steps = refl; in_time = omega arith },
      subst (λ m. Reaches (Goes k) t (counted_as path.0 (n + 1)) (counted_as x m)) sum
          (sooner k t path.0 x (n + 1) (omega arith) path.2),
    )

module _ (f : Build) (is : IsBuild f) (test : Situation → Bool)
    (reads : NetworkReads f.machine f.limits [] f.names f.network f.layout test) (room : 48 * build_elements f ≤ clock)
  where
    abbrev pub tells : TellsMoments f.machine f.names f.network test
    tells = reads.tells

    pub agree : MomentsAgree f test
    agree = record { between = reads.between; amid = reads.amid; loose = reads.at_loose }

    -- the clock at 0
    abbrev pub begun : Config → Config
    begun a = counted_as a 0

    stands_begun : (s : Situation) (a : Config) → StandsFor f.network s a → StandsFor f.network s (begun a)
    stands_begun s a stands = record {
      count = stands.count;
      bars = stands.bars;
      rests = stands.rests;
      admissible = stands.admissible;
      place = stands.place;
    }

    -- a step of the machine to b takes the board from the moment at a some steps, to the next moment and to none before
    pub record Strode (b : Configuration ℕ) (a : Config) : Type 0 where
      pub cost : ℕ
      pub some : 0 < cost
      pub next : Situation
      pub there : Config
      pub run : Reaches (Goes f.circuit) cost (begun a) there
      pub stands : StandsFor f.network next there
      pub shows : IsMomentOf f.machine f.limits f.names f.network next b
      pub once : tally (is_moment f.layout) f.circuit cost (begun a) ≡ 1
      pub told : one_if (is_moment f.layout there) ≡ 1

    pub stride : (s : Situation) (c : Configuration ℕ) (a : Config) → StandsFor f.network s a
        → IsMomentOf f.machine f.limits f.names f.network s c → (b : Configuration ℕ)
        → Steps (rooms_of f.limits) f.machine.rules (final_state_of f.machine.rules) c b → Strode b a
    stride s c a stands now b step =
        let goes = steps_goes (rooms_of f.limits) f.machine is.is_network.uniform.deterministic c b step in
        let next = next-moment costs-bounded (commands-walk costs-bounded) have-entries f.machine f.limits f.names
        f.network test is.is_network.machine is.is_network.uniform is.is_network.numbering is.is_network.network tells
        s c b now goes.0 goes.1 in
        let moves = quad_moves f.limits goes.1.rule c in
        let cheap = next.2.cost in
        let walked = leg f test reads.modules is.is_board agree moves s next.0 (begun a) (stands_begun s a stands)
        next.1
        next.2.path (omega arith) in
        let told = one_of (test next.0) next.4 in
        record {
          cost = run_cost f.network moves s;
          some = cost_some f.network moves s next.0 next.1 walked.1.turns;
          next = next.0;
          there = walked.0;
          run = walked.1.run;
          stands = walked.1.stands;
          shows = next.3;
          once = walked.1.counted ∙ told;
          told = ap one_if (reads.between next.0 walked.0 walked.1.stands) ∙ told;
        }

    -- from the moment at a of the machine's last configuration the board comes over no other one to its end
    pub record Tail (c : Configuration ℕ) (e : Exit) (a : Config) : Type 0 where
      pub cost : ℕ
      pub out : Config
      pub run : Reaches (Goes f.circuit) cost (begun a) out
      pub none : tally (is_moment f.layout) f.circuit cost (begun a) ≡ 0
      pub stuck : IsStuck f.circuit out
      pub leaves : BoardLeaves f out.place out.states c e

    pub tail : (s : Situation) (c : Configuration ℕ) (a : Config) → StandsFor f.network s a
        → IsMomentOf f.machine f.limits f.names f.network s c → (e : Exit)
        → EndsAt (rooms_of f.limits) f.machine.rules (final_state_of f.machine.rules) c e → Tail c e a
    tail s c a stands now e ends =
        let last = ended f is test tells s c e now ends in
        let cost = cost-joins f.network last.0 1 s last.1 (passes_of last.0 last.1 last.2.path) in
        let step = one_cost f.network last.1 in
        let cheap = last.3 in
        let gone = leaving f test reads.modules is.is_board agree last.0 s last.1 (begun a) (stands_begun s a stands)
        last.2.path last.6 (omega arith) in
        let steps = gone.1.steps in
        let out = at_end f test reads.modules is.is_board agree last.1 gone.0 last.1.place refl gone.1.stands last.4
        (omega arith) in
        let exits = left_so f is [] test reads e last.1 out.0 c last.5 out.1.stands in
        let joined = tallies-add.0 f.circuit (is_moment f.layout) (run_cost f.network last.0 s)
        (step_cost f.network last.1) (begun a) gone.0 gone.1.run in
        let counted = gone.1.counted in
        let counted_out = out.1.counted in
        record {
          cost = run_cost f.network last.0 s + step_cost f.network last.1;
          out = out.0;
          run = runs_join (Goes f.circuit) (run_cost f.network last.0 s + step_cost f.network last.1)
              (run_cost f.network last.0 s) (step_cost f.network last.1) (begun a) gone.0 out.0 refl gone.1.run
              out.1.run;
          none = omega arith;
          stuck = stuck_at f.circuit out.0 exits.element exits.line exits.left_by;
          leaves = exits.leaves;
        }
      where
        passes_of : (n : ℕ) (u : Situation) → Passes (Turns f.network) (λ y. not (test y)) n s u
            → Reaches (Turns f.network) n s u
        passes_of n u path = passes_run (Turns f.network) (λ y. not (test y)) n s u path

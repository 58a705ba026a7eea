-- What a board that has stopped says of the machine's own run.
use Rattle.std.specs.Prelude.{◌≡◌, ℕ, ◌+◌, ◌-◌, ◌*◌, ◌<◌, ◌≤◌, Bool, [], refl}
use Rattle.std.proofs.Common.{zero, suc, arith, inl, inr}
use Rattle.bn_lists.specs.Runs.{Reaches}
use Rattle.bn_circuits.specs.Circuits.{clock, Goes, IsStuck}
use Rattle.bn_circuits.specs.Situations.{Situation}
use Rattle.bn_circuits.specs.Stepping.{run}
use Rattle.bn_circuits.specs.declared.config.Config.{Config}
use Rattle.bn_quad.specs.Quadruples.{Configuration, final_state_of}
use Rattle.bn_bennett_laws.specs.Stages.{rooms_of}
use Rattle.bn_bennett_laws.specs.Steps.{Exit, Steps}
use Rattle.bn_bennett_laws.proofs.NumberLemmas.{steps_goes, run_of_goes}
use Rattle.bn_bennett_laws.proofs.StageStepLemmas.{exits_once}
use Rattle.bn_rsm.specs.RunCosts.{run_cost}
use Rattle.bn_rsm.proofs.CostLemmas.{costs-bounded}
use Rattle.bn_rsm.proofs.RunCostLemmas.{cost_some}
use Rattle.bn_network.specs.Controls.{symbol_count}
use Rattle.bn_network.specs.Moments.{IsMomentOf, TellsMoments, quad_moves}
use Rattle.bn_network.proofs.ExistingLemmas.{have-entries}
use Rattle.bn_network_laws.proofs.CommandLemmas.{commands-walk}
use Rattle.bn_network_laws.proofs.NextLemmas.{next-moment}
use Rattle.bn_boards.specs.Boards.{AreModules, StandsFor}
use Rattle.bn_boards.proofs.NetworkReadLemmas.{networks-read}
use Rattle.bn_boards.specs.Builds.{Build, IsBuild, IsStart, build_elements}
use Rattle.bn_boards.specs.BuildRuns.{EndsInWindow}
use Rattle.bn_boards.specs.Laws.{BuildsTellTheirMachine, BuildsEndOnce}
use Rattle.bn_boards.proofs.NetworkRuns.{EndsSo}
use Rattle.bn_boards.proofs.ComingLemmas.{first_moment, comes}
use Rattle.bn_boards.specs.Readings.{MomentsAgree}
use Rattle.bn_boards.proofs.TravelLemmas.{leg, come_by}
use Rattle.bn_boards.proofs.RunLemmas.{run_of}
use Rattle.bn_boards.proofs.StartingLemmas.{no_letters as none_low}
use Rattle.bn_boards.proofs.StopLemmas.{stops_later, stops_once}
use Rattle.bn_erase_laws.proofs.InverseDecidedLemmas.{goes_or_ends}

module _ (f : Build) (is : IsBuild f) (test : Situation → Bool) (tells : TellsMoments f.machine f.names f.network test)
    (modules : AreModules f.network) (agree : MomentsAgree f test) where
  abbrev Found : Configuration ℕ → Type 0
  Found c = (n : ℕ) × (d : Configuration ℕ) × (e : Exit) × EndsInWindow f c n d e

  -- a step of the machine takes the board some of its steps, to the next moment
  record Strode (t : ℕ) (b : Configuration ℕ) (a x : Config) : Type 0 where
    cost : ℕ
    some : 0 < cost
    low : cost ≤ t
    next : Situation
    there : Config
    stands : StandsFor f.network next there
    shows : IsMomentOf f.machine f.limits f.names f.network next b
    steps : there.steps ≡ a.steps + cost
    rest : Reaches (Goes f.circuit) (t - cost) there x

  stride : (t : ℕ) (s : Situation) (c : Configuration ℕ) (a x : Config) → StandsFor f.network s a
      → IsMomentOf f.machine f.limits f.names f.network s c
      → Reaches (Goes f.circuit) t a x → IsStuck f.circuit x → a.steps + t + 48 * build_elements f ≤ clock
      → (b : Configuration ℕ) → Steps (rooms_of f.limits) f.machine.rules (final_state_of f.machine.rules) c b
      → Strode t b a x
  stride t s c a x stands now run stuck room b step =
      let goes = steps_goes (rooms_of f.limits) f.machine is.is_network.uniform.deterministic c b step in
      let next = next-moment costs-bounded (commands-walk costs-bounded) have-entries f.machine f.limits f.names
      f.network test is.is_network.machine is.is_network.uniform is.is_network.numbering is.is_network.network tells
      s c b now goes.0 goes.1 in
      let moves = quad_moves f.limits goes.1.rule c in
      let cheap = next.2.cost in
      let walked = leg f test modules is.is_board agree moves s next.0 a stands next.1 next.2.path (omega arith) in
      let bound = stops_later f.circuit (run_cost f.network moves s) t a walked.0 x walked.1.run run stuck in
      record {
        cost = run_cost f.network moves s;
        some = cost_some f.network moves s next.0 next.1 walked.1.turns;
        low = bound.0;
        next = next.0;
        there = walked.0;
        stands = walked.1.stands;
        shows = next.3;
        steps = walked.1.steps;
        rest = bound.1;
      }

  -- from moment to moment, as long as the board goes on
  seek : (fuel t : ℕ) (s : Situation) (c : Configuration ℕ) (a x : Config) → t ≤ fuel → StandsFor f.network s a
      → IsMomentOf f.machine f.limits f.names f.network s c
      → Reaches (Goes f.circuit) t a x → IsStuck f.circuit x → a.steps + t + 48 * build_elements f ≤ clock → Found c
  seek zero t s c a x low stands now run stuck room =
      elim (goes_or_ends (rooms_of f.limits) f.machine.rules (final_state_of f.machine.rules) c) [
        | inr ends ↦ (0, c, ends.0, record { runs = refl; ends = ends.1 })
        | inl step ↦
            (let strode = stride t s c a x stands now run stuck room step.0 step.1 in
            let some = strode.some in
            let within = strode.low in
            absurd (omega arith))
      ]
  seek (suc fuel) t s c a x low stands now run stuck room =
      elim (goes_or_ends (rooms_of f.limits) f.machine.rules (final_state_of f.machine.rules) c) [
        | inr ends ↦ (0, c, ends.0, record { runs = refl; ends = ends.1 })
        | inl step ↦
            (let strode = stride t s c a x stands now run stuck room step.0 step.1 in
            let some = strode.some in
            let within = strode.low in
            let steps = strode.steps in
            let rest = seek fuel (t - strode.cost) strode.next step.0 strode.there x
            (omega arith) strode.stands strode.shows strode.rest stuck (omega arith) in (
              suc rest.0,
              rest.1,
              rest.2,
              record {
                runs = (
                  step.0,
                  steps_goes (rooms_of f.limits) f.machine is.is_network.uniform.deterministic c step.0 step.1,
                  rest.3.runs,
                );
                ends = rest.3.ends;
              },
            ))
      ]

  pub found : (c : Configuration ℕ) (s : Situation) (at_start : Config) → IsStart f c s at_start → (t : ℕ) (x : Config)
      → Reaches (Goes f.circuit) t at_start x → IsStuck f.circuit x
      → t + 48 * build_elements f ≤ clock → Found c
  found c s at_start start t x run stuck room =
      let none = start.fresh in
      let first = first_moment f is test tells c s start.initial (at_start, start) in
      let cheap = first.1.cost in
      let one = leg f test modules is.is_board agree 1 s first.0 at_start start.stands (omega arith) first.1.path
      (omega arith) in
      let steps = one.1.steps in
      let bound = stops_later f.circuit (run_cost f.network 1 s) t at_start one.0 x one.1.run run stuck in
      let within = bound.0 in
      seek (t - run_cost f.network 1 s) (t - run_cost f.network 1 s) first.0 c one.0 x
      (omega arith) one.1.stands first.2 bound.1 stuck (omega arith)

pub builds-tell : BuildsTellTheirMachine
builds-tell f is c s at_start start t x run_to stuck room =
    let read = networks-read f.machine f.limits [] f.names f.network f.layout is.is_network is.is_layout
    (none_low (symbol_count f.machine 1)) in
    let test = read.0 in
    let agree : MomentsAgree f test =
    record { between = read.1.between; amid = read.1.amid; loose = read.1.at_loose } in
    let end = found f is test read.1.tells read.1.modules agree c s at_start start t x run_to stuck room in
    let net = comes f is test read.1.tells c s (at_start, start) end.0 end.1 end.2 end.3 in
    let ran = run_of f is s at_start start.stands start.place end.0 end.1 end.2 test read.1
    (come_by f test read.1.modules is.is_board agree s c at_start start.stands start.fresh end.0 end.1
    (λ u. EndsSo f u end.1 end.2) net t x
    run_to stuck room) in
    let same = stops_once f.circuit ran.cost t at_start (run f.circuit at_start ran.cost) x ran.run_to ran.ended run_to
    stuck in
    record { steps = end.0; final = end.1; exit = end.2; ends = end.3; ran = ran; cost = same.0; there = same.1 }

pub builds-once : BuildsEndOnce
builds-once = (
  λ f is c m n d b e g h k.
      exits_once (rooms_of f.limits) f.machine.rules
      (final_state_of f.machine.rules) is.is_network.uniform.deterministic m n c d b e g
      (record { run = run_of_goes (rooms_of f.limits) f.machine m c d h.runs; ends = h.ends })
      (record { run = run_of_goes (rooms_of f.limits) f.machine n c b k.runs; ends = k.ends }),
  λ f s at_start m n d b e g h k.
      let same = stops_once f.circuit h.cost k.cost at_start (run f.circuit at_start h.cost)
      (run f.circuit at_start k.cost) h.run_to h.ended k.run_to k.ended in
      same,
)

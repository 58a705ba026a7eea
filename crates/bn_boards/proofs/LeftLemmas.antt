-- Wherever the signal of a board has left, the machine's own run has ended so.
use Rattle.std.specs.Prelude.{◌≡◌, ℕ, ◌+◌, ◌-◌, ◌*◌, ◌≤◌, Bool, [], refl}
use Rattle.std.proofs.Common.{zero, suc, arith, subst, inl, inr}
use Rattle.bn_lists.specs.Runs.{Reaches}
use Rattle.bn_circuits.specs.Circuits.{clock, Goes}
use Rattle.bn_circuits.specs.Situations.{Situation}
use Rattle.bn_circuits.specs.declared.config.Config.{Config}
use Rattle.bn_circuits.specs.declared.place.Place.TheVariants.{Left}
use Rattle.bn_quad.specs.Quadruples.{Configuration, final_state_of}
use Rattle.bn_bennett_laws.specs.Stages.{rooms_of}
use Rattle.bn_bennett_laws.specs.Steps.{Exit, EndsAt}
use Rattle.bn_bennett_laws.proofs.NumberLemmas.{steps_goes}
use Rattle.bn_rsm.specs.RunCosts.{run_cost}
use Rattle.bn_network.specs.Controls.{symbol_count}
use Rattle.bn_network.specs.Moments.{IsMomentOf}
use Rattle.bn_boards.specs.Boards.{StandsFor}
use Rattle.bn_boards.specs.NetworkReads.{NetworkReads}
use Rattle.bn_boards.proofs.NetworkReadLemmas.{networks-read}
use Rattle.bn_boards.specs.Builds.{Build, IsBuild, IsStart, build_elements}
use Rattle.bn_boards.specs.Exits.{BoardLeaves}
use Rattle.bn_boards.specs.BuildRuns.{HasLeft}
use Rattle.bn_boards.specs.Laws.{BuildsAreLeftByTheirMachine}
use Rattle.bn_boards.proofs.ComingLemmas.{first_moment}
use Rattle.bn_boards.proofs.PieceLemmas.{Strode, agree, begun, counted_as, sooner, stride, tail, tells}
use Rattle.bn_boards.proofs.TravelLemmas.{leg}
use Rattle.bn_boards.proofs.StartingLemmas.{no_letters as none_low}
use Rattle.bn_boards.proofs.ExitedLemmas.{stuck_at}
use Rattle.bn_boards.proofs.StopLemmas.{stops_later, stops_once}
use Rattle.bn_erase_laws.proofs.InverseDecidedLemmas.{goes_or_ends}

module _ (f : Build) (is : IsBuild f) (test : Situation → Bool)
    (reads : NetworkReads f.machine f.limits [] f.names f.network f.layout test) (room : 48 * build_elements f ≤ clock)
  where
    -- where a board that goes on from a moment for t steps and leaves by a line has left
    abbrev LeftFrom : Configuration ℕ → Config → Type 0
    LeftFrom c x = HasLeft f c x.place x.states

    -- at the machine's last configuration
    at_last : (t : ℕ) (s : Situation) (c : Configuration ℕ) (a x : Config) → StandsFor f.network s a
        → IsMomentOf f.machine f.limits f.names f.network s c → Reaches (Goes f.circuit) t a x
        → (m l : ℕ) → x.place ≡ Left m l → (e : Exit)
        → EndsAt (rooms_of f.limits) f.machine.rules (final_state_of f.machine.rules) c e → LeftFrom c x
    at_last t s c a x stands now run m l left e ends =
        let last = tail f is test reads room s c a stands now e ends in
        let same = stops_once f.circuit last.cost t (begun f is test reads room a) last.out (counted_as x (0 + t))
        last.run
        last.stuck (sooner f.circuit t a x 0 (omega arith) run) (stuck_at f.circuit (counted_as x (0 + t)) m l left) in
        record {
          steps = 0;
          final = c;
          exit = e;
          ends = record { runs = refl; ends = ends };
          leaves = subst (λ (y : Config). BoardLeaves f y.place y.states c e) same.1 last.leaves;
        }

    -- within t steps to where it has left the board makes those of a step of the machine, and the rest leads there
    bound : (t : ℕ) (b : Configuration ℕ) (a x : Config) → (strode : Strode f is test reads room b a)
        → Reaches (Goes f.circuit) t a x → (m l : ℕ) → x.place ≡ Left m l
        → (strode.cost ≤ t) × Reaches (Goes f.circuit) (t - strode.cost) strode.there (counted_as x (0 + t))
    bound t b a x strode run m l left =
        stops_later f.circuit strode.cost t (begun f is test reads room a) strode.there (counted_as x (0 + t))
        strode.run
        (sooner f.circuit t a x 0 (omega arith) run) (stuck_at f.circuit (counted_as x (0 + t)) m l left)

    -- from moment to moment, until the machine's own run ends
    seek : (fuel t : ℕ) (s : Situation) (c : Configuration ℕ) (a x : Config) → t ≤ fuel → StandsFor f.network s a
        → IsMomentOf f.machine f.limits f.names f.network s c → Reaches (Goes f.circuit) t a x
        → (m l : ℕ) → x.place ≡ Left m l → LeftFrom c x
    seek zero t s c a x low stands now run m l left =
        elim (goes_or_ends (rooms_of f.limits) f.machine.rules (final_state_of f.machine.rules) c) [
          | inr ends ↦ at_last t s c a x stands now run m l left ends.0 ends.1
          | inl step ↦
              (let strode = stride f is test reads room s c a stands now step.0 step.1 in
              let some = strode.some in
              let within = bound t step.0 a x strode run m l left in
              let fewer = within.0 in
              absurd (omega arith))
        ]
    seek (suc fuel) t s c a x low stands now run m l left =
        elim (goes_or_ends (rooms_of f.limits) f.machine.rules (final_state_of f.machine.rules) c) [
          | inr ends ↦ at_last t s c a x stands now run m l left ends.0 ends.1
          | inl step ↦
              (let strode = stride f is test reads room s c a stands now step.0 step.1 in
              let some = strode.some in
              let within = bound t step.0 a x strode run m l left in
              let fewer = within.0 in
              let rest : LeftFrom step.0 x = seek fuel (t - strode.cost) strode.next step.0 strode.there
              (counted_as x (0 + t)) (omega arith) strode.stands strode.shows within.1 m l left in
              record {
                steps = suc rest.steps;
                final = rest.final;
                exit = rest.exit;
                ends = record {
                  runs = (
                    step.0,
                    steps_goes (rooms_of f.limits) f.machine is.is_network.uniform.deterministic c step.0 step.1,
                    rest.ends.runs,
                  );
                  ends = rest.ends.ends;
                };
                leaves = rest.leaves;
              })
        ]

    pub left_from : (c : Configuration ℕ) (s : Situation) (at_start : Config) → IsStart f c s at_start → (t : ℕ)
        (x : Config) → Reaches (Goes f.circuit) t at_start x → (m l : ℕ) → x.place ≡ Left m l → LeftFrom c x
    left_from c s at_start start t x run m l left =
        let none = start.fresh in
        let first = first_moment f is test (tells f is test reads room) c s start.initial (at_start, start) in
        let cheap = first.1.cost in
        let one = leg f test reads.modules is.is_board (agree f is test reads room) 1 s first.0 at_start start.stands
        (omega arith) first.1.path (omega arith) in
        let within = stops_later f.circuit (run_cost f.network 1 s) t at_start one.0 x one.1.run run
        (stuck_at f.circuit x m l left) in
        seek (t - run_cost f.network 1 s) (t - run_cost f.network 1 s) first.0 c one.0 x (omega arith) one.1.stands
        first.2 within.1 m l left

pub builds-left : BuildsAreLeftByTheirMachine
builds-left f is room c s at_start start t x run m l left =
    let read = networks-read f.machine f.limits [] f.names f.network f.layout is.is_network is.is_layout
    (none_low (symbol_count f.machine 1)) in
    left_from f is read.0 read.1 room c s at_start start t x run m l left

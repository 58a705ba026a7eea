-- The board's run to its exit.
use Rattle.std.specs.Prelude.{◌≡◌, ℕ, ◌+◌, Bool, false, [], refl}
use Rattle.std.proofs.Common.{arith, sym, ap, subst, ◌∙◌}
use Rattle.bn_lists.specs.Runs.{Reaches}
use Rattle.bn_circuits.specs.Circuits.{Goes, IsStuck}
use Rattle.bn_circuits.specs.Situations.{Situation}
use Rattle.bn_circuits.specs.Counting.{one_if}
use Rattle.bn_circuits.specs.Stepping.{run}
use Rattle.bn_circuits.proofs.RunLemmas.{Reaches-run}
use Rattle.bn_circuits.specs.declared.place.Place.TheVariants.{Enter}
use Rattle.bn_circuits.specs.declared.config.Config.{Config}
use Rattle.bn_quad.specs.Quadruples.{Configuration}
use Rattle.bn_bennett_laws.specs.Steps.{Exit}
use Rattle.bn_rsm.specs.RunCosts.{run_cost}
use Rattle.bn_network.specs.Controls.{symbol_count}
use Rattle.bn_boards.specs.Layouts.{is_moment}
use Rattle.bn_boards.specs.Boards.{StandsFor}
use Rattle.bn_boards.specs.NetworkReads.{NetworkReads}
use Rattle.bn_boards.proofs.NetworkReadLemmas.{networks-read}
use Rattle.bn_network_laws.proofs.PlaceLemmas.{taken_calm}
use Rattle.bn_boards.specs.Builds.{Build, IsBuild}
use Rattle.bn_boards.specs.Exits.{BoardLeaves}
use Rattle.bn_boards.specs.BuildRuns.{BuildRunsTo}
use Rattle.bn_boards.specs.Laws.{BuildsRunToTheirExit}
use Rattle.bn_boards.proofs.ComingLemmas.{comes}
use Rattle.bn_boards.specs.Readings.{MomentsAgree}
use Rattle.bn_boards.proofs.NetworkRuns.{BoardComes, EndsSo}
use Rattle.bn_boards.proofs.TravelLemmas.{come}
use Rattle.bn_boards.proofs.LeavingLemmas.{left_so}
use Rattle.bn_boards.proofs.ExitedLemmas.{stuck_at}
use Rattle.bn_boards.proofs.StartingLemmas.{no_letters as none_low}

none_of : (b : Bool) → b ≡ false → one_if b ≡ 0
none_of b h = ap one_if h

-- what the board comes to is a run to its exit
pub run_of : (f : Build) → IsBuild f → (s : Situation) (at_start : Config) → StandsFor f.network s at_start
    → s.place ≡ Enter 0 0
    → (n : ℕ) (d : Configuration ℕ) (e : Exit) (test : Situation → Bool)
    → NetworkReads f.machine f.limits [] f.names f.network f.layout test
    → BoardComes f s at_start n d e → BuildRunsTo f s at_start n d e
run_of f is s at_start stands place n d e test reads b =
    let cost = run_cost f.network (b.moves + 1) s in
    let there : run f.circuit at_start cost ≡ b.at_end = Reaches-run f.circuit cost at_start b.at_end b.run in
    let exits = left_so f is [] test reads e b.last b.at_end d b.ends b.stands in
    let quiet : is_moment f.layout at_start ≡ false = reads.between s at_start stands
    ∙ taken_calm f.machine f.limits f.names f.network is.is_network.network test reads.tells s 0 place in
    let none = none_of (is_moment f.layout at_start) quiet in
    let count = b.count in
    record {
      cost = cost;
      has_cost = record { moves = b.moves; last = b.last; run = b.turns; ended = b.ended; is = refl };
      bounded = b.bounded;
      run_to = subst (λ x. Reaches (Goes f.circuit) cost at_start x) (sym there) b.run;
      ended = subst (IsStuck f.circuit) (sym there)
          (stuck_at f.circuit b.at_end exits.element exits.line exits.left_by);
      leaves = subst (λ (x : Config). BoardLeaves f x.place x.states d e) (sym there) exits.leaves;
      count = omega arith;
    }

pub builds-run : BuildsRunToTheirExit
builds-run f is c s at_start start n d e ends room =
    let read = networks-read f.machine f.limits [] f.names f.network f.layout is.is_network is.is_layout
    (none_low (symbol_count f.machine 1)) in
    let test = read.0 in
    let agree : MomentsAgree f test =
    record { between = read.1.between; amid = read.1.amid; loose = read.1.at_loose } in
    let net = comes f is test read.1.tells c s (at_start, start) n d e ends in
    run_of f is s at_start start.stands start.place n d e test read.1
    (come f test read.1.modules is.is_board agree s c at_start start.stands start.fresh n d (λ t. EndsSo f t d e) net
    room)

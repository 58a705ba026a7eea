-- Where the machine's own run in the window ends, its tapes stand in the window.
use Rattle.std.specs.Prelude.{ℕ, List, []}
use Rattle.bn_circuits.specs.Situations.{Situation}
use Rattle.bn_circuits.specs.declared.config.Config.{Config}
use Rattle.bn_machine.specs.Tape.{Tape}
use Rattle.bn_machine.specs.Outcome.{Limits}
use Rattle.bn_quad.specs.Quadruples.{Configuration, Quadruples}
use Rattle.bn_bennett_laws.specs.Steps.{Exit}
use Rattle.bn_network.specs.Controls.{symbol_count}
use Rattle.bn_network.specs.Networks.{ShowsTape, ShowsTapes}
use Rattle.bn_network.specs.Starts.{FitsTape, FitsWindow}
use Rattle.bn_boards.proofs.NetworkReadLemmas.{networks-read}
use Rattle.bn_boards.specs.Builds.{Build, IsBuild, IsStart}
use Rattle.bn_boards.specs.BuildRuns.{EndsInWindow}
use Rattle.bn_boards.proofs.ComingLemmas.{first_moment}
use Rattle.bn_boards.proofs.StrideLemmas.{strides}
use Rattle.bn_boards.proofs.StartingLemmas.{no_letters as none_low}

tape_fits : (states : List ℕ) (first z left right : ℕ) (x : Tape) → ShowsTape states first z left right x
    → FitsTape z left right x
tape_fits states first z left right x shows =
    record { head = shows.head; inside = shows.shown.inside; symbols = shows.shown.symbols }

pub fits : (m : Quadruples) (l : Limits) (states : List ℕ) (d : Configuration ℕ) → ShowsTapes m l states d
    → FitsWindow m l d
fits m l states d shows = record {
  one = tape_fits states _ _ _ _ d.one shows.one;
  two = tape_fits states _ _ _ _ d.two shows.two;
  three = tape_fits states _ _ _ _ d.three shows.three;
}

pub final_fits : (f : Build) → IsBuild f → (c : Configuration ℕ) (s : Situation) (at_start : Config)
    → IsStart f c s at_start
    → (n : ℕ) (d : Configuration ℕ) (e : Exit) → EndsInWindow f c n d e → FitsWindow f.machine f.limits d
final_fits f is c s at_start start n d e ends =
    let read = networks-read f.machine f.limits [] f.names f.network f.layout is.is_network is.is_layout
    (none_low (symbol_count f.machine 1)) in
    let first = first_moment f is read.0 read.1.tells c s start.initial (at_start, start) in
    let last = strides f is.is_network read.0 read.1.tells n first.0 c d first.2 ends.runs in
    fits f.machine f.limits last.0.states d last.2.shows

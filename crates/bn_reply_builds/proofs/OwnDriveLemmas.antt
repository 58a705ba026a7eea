-- The machine's own run is there, and what `drive` answers tells it.
use Rattle.bn_quad.specs.Quadruples.{final_state_of}
use Rattle.bn_bennett_laws.specs.Stages.{rooms_of}
use Rattle.bn_bennett_laws.proofs.NumberLemmas.{run_of_goes}
use Rattle.bn_bennett_laws.proofs.StageStepLemmas.{exits_once}
use Rattle.bn_network.specs.Starts.{words_on}
use Rattle.bn_reply_builds.proofs.HeadlineLemmas.{inputs, can_build, drives-tell_machine}
use Rattle.bn_boards.proofs.OwnRunLemmas.{own-runs-words}
use Rattle.bn_reply_builds.specs.OwnDrives.{OwnRunsAreThere, OwnRunsAreOne, DrivesTellTheirRun}

pub runs-there : OwnRunsAreThere
runs-there words bytes l t one two three given =
    let is = can_build words bytes l t one two three given in
    let run = own-runs-words t.machine l is.valid given.uniform.deterministic given.uniform.reversible
    given.uniform.uniform.initial is.letters one two three (inputs words bytes l t one two three given) in
    record {
      steps = run.steps;
      last = run.last;
      exit = run.exit;
      own = record { runs = run.runs; ends = run.ends };
      few = run.few;
    }

pub runs-one : OwnRunsAreOne
runs-one words bytes l t one two three given m n b d e g first second =
    exits_once (rooms_of l) t.machine.rules (final_state_of t.machine.rules) given.uniform.deterministic m n
    (words_on t.machine one two three) b d e g
    (record {
      run = run_of_goes (rooms_of l) t.machine m (words_on t.machine one two three) b first.runs;
      ends = first.ends;
    })
    (record {
      run = run_of_goes (rooms_of l) t.machine n (words_on t.machine one two three) d second.runs;
      ends = second.ends;
    })

pub tell-their-run : DrivesTellTheirRun
tell-their-run words l most bytes status text told low replies t one two three given =
    let run = runs-there words bytes l t one two three given in (
      run,
      drives-tell_machine words l most bytes status text told low replies t one two three given run.steps run.last
          run.exit
          run.own,
    )

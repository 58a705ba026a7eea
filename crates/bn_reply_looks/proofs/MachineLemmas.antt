-- What is shown of a board stands for its machine.
use Rattle.std.specs.Prelude.{◌≡◌, ℕ, ◌*◌, ◌≤◌, List, ◌++◌}
use Rattle.std.proofs.Common.{sym, ap, ◌∙◌, append_assoc}
use Rattle.bn_circuits.specs.Circuits.{clock}
use Rattle.bn_circuits.specs.Stepping.{run}
use Rattle.bn_circuits.specs.declared.config.Config.{Config}
use Rattle.bn_circuits.proofs.RunLemmas.{run-zero, run_makes}
use Rattle.bn_quad.specs.Quadruples.{Configuration, initial_of}
use Rattle.bn_qtable.specs.Rows.{QuadTable}
use Rattle.bn_network.specs.Starts.{start_from}
use Rattle.bn_boards.specs.Layouts.{spelled_by, spelled_config}
use Rattle.bn_boards.specs.Builds.{Build, IsBuild, IsStart, build_elements, start_of}
use Rattle.bn_boards.specs.BuildRuns.{ShowsMoment}
use Rattle.bn_boards.proofs.BuildMomentLemmas.{builds-show}
use Rattle.bn_reply_builds.specs.Outcomes.{drive_tape_lines}
use Rattle.bn_reply_views.specs.ViewText.{element_line, module_line}
use Rattle.bn_view.specs.Shown.{IsShown, moment, start}
use Rattle.bn_view.specs.Viewed.{Finds}
use Rattle.bn_reply_looks.specs.LookText.{state_line}
use Rattle.bn_reply_looks.specs.Looking.{ShowsBuild}
use Rattle.bn_reply_looks.specs.Laws.{LooksTellTheirMachine, TellsRun}

module _ (t : QuadTable) (f : Build) (is : IsBuild f) (room : 48 * build_elements f ≤ clock) (c : Configuration ℕ)
    (begins : IsStart f c (start_from f.machine f.limits c) (start_of f c)) where
  abbrev at_step : ℕ → Config
  at_step s = run f.circuit (start_of f c) s

  -- the step that is shown is that of a configuration of the machine's run
  shown_of : (n s a : ℕ) → IsShown (Finds f.layout f.circuit (start_of f c)) (initial_of f.machine.rules) n s a
      → ShowsMoment f c a (at_step s).states
  shown_of n s a (moment low there none) =
      let made = run_makes f.circuit (start_of f c) s in
      (builds-show f is room c (start_from f.machine f.limits c) (start_of f c) begins).0 made.made (at_step s)
      made.reaches
      a there
  shown_of n s a (start zero initial none) =
      let begun = (builds-show f is room c (start_from f.machine f.limits c) (start_of f c) begins).1 in
      record {
        steps = begun.steps;
        config = begun.config;
        runs = begun.runs;
        state = begun.state ∙ sym initial;
        spells = ap (λ u. spelled_by f.layout (at_step u).states) zero
            ∙ ap (λ (x : Config). spelled_by f.layout x.states) (run-zero f.circuit (start_of f c)) ∙ begun.spells;
      }

  tells_run : (d : Config) (text : List ℕ) → ShowsBuild t f c d text → TellsRun t f c text
  tells_run d text shows =
      let v = shows.layers in
      let shown = shown_of d.steps shows.view.step v.state shows.view.shown in
      let tapes : v.tapes ≡ spelled_config f.limits shown.config = shows.view.tapes ∙ shown.spells in
      let first = element_line v.place v.steps in
      let second = module_line t.machine.symbols shows.exit v.module in
      let rest = state_line t v.state ++ drive_tape_lines t v.tapes in
      record {
        steps = shown.steps;
        config = shown.config;
        runs = shown.runs;
        before = first ++ second;
        written = shows.written ∙ sym (append_assoc first second rest)
            ∙ (λ i. (first ++ second) ++ (state_line t (sym shown.state i) ++ drive_tape_lines t (tapes i)));
      }

pub looks-tell : LooksTellTheirMachine
looks-tell t f is room c begins d text shows = tells_run t f is room c begins d text shows

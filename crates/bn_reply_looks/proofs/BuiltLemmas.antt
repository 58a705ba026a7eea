-- What is written of a table's board shows it.
use Rattle.std.specs.Prelude.{◌≡◌, ℕ, List, [], ◌++◌, refl}
use Rattle.std.proofs.Common.{sym, ap, subst, ◌∙◌, append-nil}
use Rattle.bn_lists.specs.Runs.{Reaches}
use Rattle.bn_circuits.specs.Circuits.{Goes}
use Rattle.bn_circuits.specs.Stepping.{run}
use Rattle.bn_circuits.specs.declared.place.Place.{Place}
use Rattle.bn_circuits.specs.declared.place.Place.TheVariants.{Enter, Left}
use Rattle.bn_circuits.specs.RotaryNets.{rotary_circuit}
use Rattle.bn_quad.specs.Names.{Naming}
use Rattle.bn_quad.specs.Quadruples.{Configuration, IsQuadMachine, Quadruples, QuadruplesRunTo, final_state_of}
use Rattle.bn_quad.specs.Quadruples.{initial_of}
use Rattle.bn_qtable.specs.Rows.{QuadTable, table_of}
use Rattle.bn_bennett_laws.specs.Stages.{rooms_of}
use Rattle.bn_bennett_laws.specs.Steps.{EndsAt, Exit}
use Rattle.bn_network.specs.Starts.{start_from}
use Rattle.bn_boards.specs.Layouts.{IsLayout, Layout, spelled_by}
use Rattle.bn_board.specs.Flattened.{Flattened, IsBoardKept, origin}
use Rattle.bn_boards.specs.Builds.{Build, IsStart, start_of}
use Rattle.bn_boards.specs.BuildRuns.{EndsInWindow}
use Rattle.bn_boards.proofs.FitLemmas.{final_fits}
use Rattle.bn_boards.proofs.OnceLemmas.{starts_once}
use Rattle.bn_reply_builds.specs.DriveText.{drive_exit_line}
use Rattle.bn_reply_builds.specs.declared.outcome.Outcome.{Outcome}
use Rattle.bn_reply_builds.specs.Outcomes.{outcome_by, outcome_line}
use Rattle.bn_reply_builds.proofs.OutcomeTextLemmas.{outcome_line_is}
use Rattle.bn_session.specs.Boards.{GrowsByFront}
use Rattle.bn_view.specs.Modules.{IsModuleAt}
use Rattle.bn_view.specs.Shown.{IsShown}
use Rattle.bn_view.specs.Viewed.{Finds, IsBoardView, IsLaidOut}
use Rattle.bn_view.specs.declared.layers.BoardLayers.{BoardLayers}
use Rattle.bn_reply_looks.specs.Built.{CanBeShown, IsExitText, IsRunOf, ShowsRun}
use Rattle.bn_reply_looks.specs.LookText.{look_text}
use Rattle.bn_reply_looks.specs.Looking.{IsExitLine, ShowsBuild, inside, outside}
use Rattle.bn_reply_looks.proofs.ShownLemmas.{has_left, shows_as, shows_there}

module _ (m : Quadruples) (f : Build) (c : Configuration ℕ) (b : Flattened) (of : IsRunOf m f c b) where
  -- its layout is that of the machine
  pub laid_out : IsLaidOut m b.layout
  laid_out = record {
    machine = subst IsQuadMachine of.machine of.build.is_network.machine;
    limits = f.limits;
    names = f.names;
    layout = subst (λ x. x) (λ i. IsLayout (of.machine i) f.limits f.names (of.layout i)) of.build.is_layout;
  }

  -- it is on its run from the start
  pub on_run : IsBoardKept b → Reaches (Goes f.circuit) b.config.steps (start_of f c) b.config
  on_run kept =
      subst (λ x. Reaches (Goes f.circuit) b.config.steps x b.config) of.start
      (subst (λ k. Reaches (Goes k) b.config.steps (origin b) b.config) (sym of.circuit) kept.reached.reaches)

  run_is : (u : ℕ) → run (rotary_circuit b.net) (origin b) u ≡ run f.circuit (start_of f c) u
  run_is u = λ i. run (sym of.circuit i) (of.start i) u

  -- what is written of it shows it
  module _ (kept : IsBoardKept b) (names : Naming) where
    exit_line : (exit : List ℕ) → IsExitText (table_of m names) b exit
        → IsExitLine (table_of m names) f c b.config.place b.config.states exit
    exit_line exit text = by b.config.place refl
      where
        by : (p : Place) → b.config.place ≡ p → IsExitLine (table_of m names) f c b.config.place b.config.states exit
        by (Enter e l) at = inside e l at (text.inside e l at)
        by (Left k l) at =
            let left = has_left (table_of m names) f of.build of.room c of.begins b.config.steps b.config (on_run kept)
            k l
            at in
            let fits = final_fits f of.build c (start_from f.machine f.limits c) (start_of f c) of.begins left.steps
            left.final left.exit left.ends in
            outside left (text.left f left.final left.exit of.build of.machine of.layout fits left.leaves)

    pub text_shows : (v : BoardLayers) → IsBoardView b (initial_of m.rules) v → (exit : List ℕ)
        → IsExitText (table_of m names) b exit → (text : List ℕ) → text ≡ look_text (table_of m names) exit v
        → ShowsBuild (table_of m names) f c b.config text
    text_shows v view exit is_exit text written = record {
      layers = v;
      view = record {
        place = view.place;
        steps = view.steps;
        located = subst (λ (x : Layout). IsModuleAt x b.config.place v.module) (sym of.layout) view.located;
        step = view.step;
        shown = subst (λ x. x) (λ i. IsShown (Finds (sym of.layout i) (sym of.circuit i) (of.start i))
            (initial_of (sym of.machine i).rules) b.config.steps view.step v.state) view.shown;
        tapes = view.tapes ∙ (λ i. spelled_by (sym of.layout i) (run_is view.step i).states);
      };
      exit = exit;
      is_exit = exit_line exit is_exit;
      written = written;
    }

-- ---- the text of one build shows the others of which the board is

module _ (m : Quadruples) (names : Naming) (b : Flattened) (kept : IsBoardKept b) where
  -- the builds start from one configuration
  one_start : (f g : Build) (c a : Configuration ℕ) → IsRunOf m f c b → IsRunOf m g a b → a ≡ c
  one_start f g c a of also =
      starts_once g f also.build of.build (also.machine ∙ sym of.machine) (also.layout ∙ sym of.layout) a c
      (start_from g.machine g.limits a) (start_from f.machine f.limits c) (start_of g a) also.begins
      (subst (IsStart f c (start_from f.machine f.limits c)) (sym of.start ∙ also.start) of.begins)

  ends_too : (f g : Build) (c a : Configuration ℕ) → IsRunOf m f c b → IsRunOf m g a b → (n : ℕ)
      (x : Configuration ℕ) (e : Exit) → EndsInWindow g a n x e → EndsInWindow f c n x e
  ends_too f g c a of also n x e ends =
      let machines : g.machine ≡ f.machine = also.machine ∙ sym of.machine in
      let limits : g.limits ≡ f.limits =
      sym also.build.is_layout.limits ∙ ap (λ (y : Layout). y.limits) (also.layout ∙ sym of.layout)
      ∙ of.build.is_layout.limits in
      let starts = one_start f g c a of also in
      record {
        runs = subst (λ y. y) (λ i. Reaches (QuadruplesRunTo (rooms_of (limits i)) (machines i)) n (starts i) x)
            ends.runs;
        ends = subst (λ y. y) (λ i. EndsAt (rooms_of (limits i)) (machines i).rules (final_state_of (machines i).rules)
            x
            e) ends.ends;
      }

  shows_all : (f : Build) (c : Configuration ℕ) → IsRunOf m f c b → (text : List ℕ)
      → ShowsBuild (table_of m names) f c b.config text → ShowsRun m names b text
  shows_all f c of text shown g a also =
      shows_as (table_of m names) g also.build also.room a also.begins b.config.steps b.config
      (on_run m g a b also kept)
      f c (of.machine ∙ sym also.machine) (of.layout ∙ sym also.layout)
      (λ u. sym (run_is m f c b of u) ∙ run_is m g a b also u) (ends_too g f a c also of) text shown

  -- there is a text
  some_text : CanBeShown m names b → (text : List ℕ) × ShowsRun m names b text
  some_text shown =
      let some = shows_there (table_of m names) shown.build shown.run.build shown.run.room shown.start shown.run.begins
      b.config.steps b.config (on_run m shown.build shown.start b shown.run kept) in
      (some.0, shows_all shown.build shown.start shown.run some.0 some.1)

  -- where none of it was written, that is a front of it
  pub none_shown : CanBeShown m names b → (old new : List ℕ) → new ≡ old → GrowsByFront (ShowsRun m names b) old new
  none_shown shown old new same =
      let some = some_text shown in
      record { front = []; rest = some.0; is = some.1; written = same ∙ sym (append-nil old) }

-- ---- the exit's line as it is written

pub exit_written : (t q : QuadTable) (o : Outcome) (d : Configuration ℕ) (e : Exit) (old new : List ℕ) → q ≡ t
    → old ≡ []
    → new ≡ old ++ outcome_line q o → o ≡ outcome_by d e → new ≡ drive_exit_line t d e
exit_written t q o d e old new same none written is =
    written ∙ (λ i. none i ++ outcome_line (same i) (is i)) ∙ outcome_line_is t d e

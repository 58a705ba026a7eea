-- Wherever the board of a build has come to there is one text that shows it, and only one; and boards that are alike
-- show the same.
use Rattle.std.specs.Prelude.{◌≡◌, ℕ, ◌*◌, ◌<◌, ◌≤◌, List, [], length, refl}
use Rattle.std.proofs.Common.{arith, sym, ap, subst, ◌∙◌}
use Rattle.std.proofs.lemmas.List.{length-replicate}
use Rattle.bn_lists.specs.Runs.{Reaches}
use Rattle.bn_element.specs.Rotary.{rotary}
use Rattle.bn_circuits.specs.Circuits.{Goes, clock}
use Rattle.bn_circuits.specs.Stepping.{run}
use Rattle.bn_circuits.specs.declared.config.Config.{Config}
use Rattle.bn_circuits.specs.declared.place.Place.{Place}
use Rattle.bn_circuits.specs.declared.place.Place.TheVariants.{Enter, Left}
use Rattle.bn_quad.specs.Quadruples.{Configuration, Quadruples, initial_of}
use Rattle.bn_qtable.specs.Rows.{QuadTable}
use Rattle.bn_bennett_laws.specs.Steps.{Exit}
use Rattle.bn_network.specs.Controls.{symbol_count}
use Rattle.bn_network.specs.Starts.{start_from}
use Rattle.bn_boards.specs.Boards.{size}
use Rattle.bn_boards.specs.Layouts.{Layout, elements_of, moment_at, spelled_by}
use Rattle.bn_boards.proofs.NetworkReadLemmas.{networks-read}
use Rattle.bn_boards.specs.Builds.{Build, IsBuild, IsStart, build_elements, start_of}
use Rattle.bn_boards.specs.BuildRuns.{EndsInWindow, HasLeft}
use Rattle.bn_boards.proofs.ConverseLemmas.{builds-once}
use Rattle.bn_boards.proofs.LeftLemmas.{builds-left}
use Rattle.bn_boards.proofs.StartingLemmas.{no_letters as none_low}
use Rattle.bn_reply_builds.specs.DriveText.{drive_exit_line}
use Rattle.bn_view.specs.Modules.{IsModuleAt}
use Rattle.bn_view.specs.Shown.{IsShown}
use Rattle.bn_view.specs.Viewed.{Finds}
use Rattle.bn_view.proofs.FoundLemmas.{begins, found-once, found-there, some_elements}
use Rattle.bn_view.proofs.ShownLemmas.{shown-agrees}
use Rattle.bn_reply_builds.proofs.OutcomeLemmas.{not_inside}
use Rattle.bn_reply_looks.specs.LookText.{look_text}
use Rattle.bn_reply_looks.specs.Looking.{IsExitLine, ShowsBuild, inside, outside}

module _ (t : QuadTable) (f : Build) (is : IsBuild f) (room : 48 * build_elements f ≤ clock) (c : Configuration ℕ)
    (start : IsStart f c (start_from f.machine f.limits c) (start_of f c)) (n : ℕ) (d : Config)
    (path : Reaches (Goes f.circuit) n (start_of f c) d) where
  -- ---- the exit's line

  pub has_left : (m l : ℕ) → d.place ≡ Left m l → HasLeft f c d.place d.states
  has_left m l at = builds-left f is room c (start_from f.machine f.limits c) (start_of f c) start n d path m l at

  exit_there : (line : List ℕ) × IsExitLine t f c d.place d.states line
  exit_there = by d.place refl
    where
      by : (p : Place) → d.place ≡ p → (line : List ℕ) × IsExitLine t f c d.place d.states line
      by (Enter e l) at = ([], inside e l at refl)
      by (Left m l) at =
          let left = has_left m l at in
          (drive_exit_line t left.final left.exit, outside left refl)

  exit_once : (line other : List ℕ) → IsExitLine t f c d.place d.states line
      → IsExitLine t f c d.place d.states other → line ≡ other
  exit_once line other (inside e l at none) (inside m k also nothing) = none ∙ sym nothing
  exit_once line other (inside e l at none) (outside left is_line) =
      absurd (not_inside f d.place d.states left.final left.exit left.leaves e l at)
  exit_once line other (outside left is_line) (inside e l at none) =
      absurd (not_inside f d.place d.states left.final left.exit left.leaves e l at)
  exit_once line other (outside left is_line) (outside again also_line) =
      let one = builds-once.0 f is c left.steps again.steps left.final again.final left.exit again.exit left.ends
      again.ends in
      is_line ∙ (λ i. drive_exit_line t (one.1 i) (one.2 i)) ∙ sym also_line

  -- ---- the text

  -- the elements of the layout are those of the circuit, and the signal enters one at the start
  within : (length f.circuit.tables ≡ elements_of f.layout)
      × ((e l : ℕ) → (start_of f c).place ≡ Enter e l → e < elements_of f.layout)
  within =
      let read = networks-read f.machine f.limits [] f.names f.network f.layout is.is_network is.is_layout
      (none_low (symbol_count f.machine 1)) in
      let whole : length f.circuit.tables ≡ size f.network.tables =
      ap length is.is_board.tables ∙ length-replicate (size f.network.tables) rotary in
      let count : size f.network.tables ≡ elements_of f.layout = read.1.whole ∙ sym read.1.count in
      let some = some_elements f.network.tables start.stands.admissible (read.1.modules.some_states 0) in (
        whole ∙ count,
        λ e l at. (let low = begins f.network.tables e l at some in omega (arith, low, count)),
      )

  pub shows_there : (text : List ℕ) × ShowsBuild t f c d text
  shows_there =
      let v = found-there f.layout f.circuit (start_of f c) (initial_of f.machine.rules) is.is_board.circuit within.0
      within.1 n d path in
      let exit = exit_there in (
        look_text t exit.0 v.0,
        record { layers = v.0; view = v.1; exit = exit.0; is_exit = exit.1; written = refl },
      )

  pub shows_once : (text other : List ℕ) → ShowsBuild t f c d text → ShowsBuild t f c d other → text ≡ other
  shows_once text other a b =
      let views = found-once f.layout f.circuit (start_of f c) (initial_of f.machine.rules) d a.layers b.layers a.view
      b.view in
      let exits = exit_once a.exit b.exit a.is_exit b.is_exit in
      a.written ∙ (λ i. look_text t (exits i) (views i)) ∙ sym b.written

  -- ---- two builds

  -- what shows the board of another build that goes the same way from its own start shows this one
  module _ (g : Build) (a : Configuration ℕ) (machines : g.machine ≡ f.machine) (layouts : g.layout ≡ f.layout)
      (runs : (u : ℕ) → run g.circuit (start_of g a) u ≡ run f.circuit (start_of f c) u)
      (ends : (m : ℕ) (x : Configuration ℕ) (e : Exit) → EndsInWindow g a m x e → EndsInWindow f c m x e) where
    exit_as : (line : List ℕ) → IsExitLine t g a d.place d.states line → IsExitLine t f c d.place d.states line
    exit_as line (inside e l at none) = inside e l at none
    exit_as line (outside left is_line) = by d.place refl
      where
        by : (p : Place) → d.place ≡ p → IsExitLine t f c d.place d.states line
        by (Enter e l) at = absurd (not_inside g d.place d.states left.final left.exit left.leaves e l at)
        by (Left m l) at =
            let own = has_left m l at in
            let one = builds-once.0 f is c own.steps left.steps own.final left.final own.exit left.exit own.ends
            (ends left.steps left.final left.exit left.ends) in
            outside own (is_line ∙ sym (λ i. drive_exit_line t (one.1 i) (one.2 i)))

    finds_as : (u e : ℕ) → Finds g.layout g.circuit (start_of g a) u e → Finds f.layout f.circuit (start_of f c) u e
    finds_as u e h = sym (λ i. moment_at (layouts i) (runs u i)) ∙ h

    finds_back : (u e : ℕ) → Finds f.layout f.circuit (start_of f c) u e → Finds g.layout g.circuit (start_of g a) u e
    finds_back u e h = (λ i. moment_at (layouts i) (runs u i)) ∙ h

    pub shows_as : (text : List ℕ) → ShowsBuild t g a d text → ShowsBuild t f c d text
    shows_as text shown =
        let v = shown.view in
        let found = shown-agrees (Finds g.layout g.circuit (start_of g a)) (Finds f.layout f.circuit (start_of f c))
        (initial_of g.machine.rules) d.steps v.step shown.layers.state (λ u e few. finds_as u e)
        (λ u e few. finds_back u e) v.shown in
        record {
          layers = shown.layers;
          view = record {
            place = v.place;
            steps = v.steps;
            located = subst (λ (b : Layout). IsModuleAt b d.place shown.layers.module) layouts v.located;
            step = v.step;
            shown = subst (λ (q : Quadruples). IsShown (Finds f.layout f.circuit (start_of f c)) (initial_of q.rules)
                d.steps v.step shown.layers.state) machines found;
            tapes = v.tapes ∙ (λ i. spelled_by (layouts i) (runs v.step i).states);
          };
          exit = shown.exit;
          is_exit = exit_as shown.exit shown.is_exit;
          written = shown.written;
        }

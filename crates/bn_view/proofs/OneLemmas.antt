-- Wherever a board comes to there is one view of it, and only one.
use Rattle.std.specs.Prelude.{◌≡◌, ℕ, ◌<◌, List, length, refl}
use Rattle.std.proofs.Common.{arith, zero-add, sym, ap, subst, ◌∙◌}
use Rattle.std.proofs.lemmas.List.{length-replicate}
use Rattle.bn_lists.specs.Runs.{Reaches}
use Rattle.bn_circuits.specs.Circuits.{Goes}
use Rattle.bn_circuits.specs.Stepping.{run}
use Rattle.bn_circuits.proofs.RunLemmas.{Reaches-run}
use Rattle.bn_circuits.specs.declared.place.Place.{Place}
use Rattle.bn_circuits.specs.declared.place.Place.TheVariants.{Enter, Left}
use Rattle.bn_circuits.specs.declared.config.Config.{Config}
use Rattle.bn_circuits.proofs.RunPartLemmas.{steps_of_run}
use Rattle.bn_element.specs.Rotary.{rotary}
use Rattle.bn_machine.specs.Outcome.{Limits, Outcome}
use Rattle.bn_machine.proofs.OutcomeLemmas.{outcome_exists}
use Rattle.bn_quad.specs.Quadruples.{initial_of}
use Rattle.bn_bennett.specs.Translation.{name_of}
use Rattle.bn_bennett.specs.Meaning.{machine_state_by, stage_by}
use Rattle.bn_boards.specs.Boards.{size}
use Rattle.bn_boards.specs.declared.exit.Exit.{Exit}
use Rattle.bn_boards.specs.declared.exit.Exit.TheVariants as exit
use Rattle.bn_boards.specs.declared.spelled.Spelled.{Spelled}
use Rattle.bn_boards.specs.Layouts.{IsExit, IsNamedExit, Layout, elements_of, inside, named, unnamed}
use Rattle.bn_boards.specs.Flats.{Flat, IsAccepted, IsFlatOf, flat_start, machine_of}
use Rattle.bn_machine.specs.Machine.{Program}
use Rattle.bn_boards.specs.LayoutLaws.{BoardsRead, ExitsAreOne}
use Rattle.bn_boards.specs.BoardRuns.{RunsToExit}
use Rattle.bn_boards.specs.RunLaws.{BoardsRunToTheirExit}
use Rattle.bn_boards.proofs.CountLemmas.{before_end}
use Rattle.bn_view.specs.Shown.{IsShown}
use Rattle.bn_view.specs.Viewed.{Comes, Finds, IsFoundView, IsViewOf, board_layers}
use Rattle.bn_view.specs.declared.layers.BoardLayers.{BoardLayers}
use Rattle.bn_view.specs.declared.layers.Layers.{Layers}
use Rattle.bn_view.proofs.FoundLemmas.{begins, found-once, found-there, some_elements}
use Rattle.bn_view.specs.Laws.{ShownIsFound, ViewsAreOne, ViewsAreThere, ViewsStand}
use Rattle.bn_view.proofs.ShownLemmas.{neither_less}
use Rattle.bn_view.proofs.StandingLemmas.{history_head, no_longer}
use Rattle.bn_view.proofs.ViewLemmas.{one_position}

-- ---- one view

one_exit : (b : Layout) (at : Place) (e x : Exit) → ((e x : Exit) → IsNamedExit b at e → IsNamedExit b at x → e ≡ x)
    → IsExit b at e → IsExit b at x → e ≡ x
one_exit b at e x one (named h) (named k) = one e x h k
one_exit b at e x one (unnamed is none) (unnamed also last) = is ∙ sym also
one_exit b at e x one (named h) (unnamed is none) = absurd (none e h)
one_exit b at e x one (unnamed is none) (named h) = absurd (none x h)

-- a view by the board's own moments is one by those that its layout finds
as_found : ShownIsFound → (p : Program) (word : List ℕ) (l : Limits) (f : Flat) → IsFlatOf p word l f
    → IsAccepted p word l f
    → (t : ℕ) (d : Config) → Reaches (Goes f.circuit) t (flat_start f) d → (v : Layers) → IsViewOf f d v
    → IsFoundView f.layout f.circuit (flat_start f) (initial_of (machine_of f).rules) d (board_layers v)
as_found found p word l f flat accepted t d path v view =
    let initial = initial_of (machine_of f).rules in
    let steps : d.steps ≡ t = steps_of_run f.circuit t (flat_start f) d path ∙ zero-add t in
    let at_t = subst (λ n. IsShown (Comes f) initial n view.board.step v.state) steps view.board.shown in
    record {
      place = view.board.place;
      steps = view.board.steps;
      located = view.board.located;
      step = view.board.step;
      shown = subst (λ n. IsShown (Finds f.layout f.circuit (flat_start f)) initial n view.board.step v.state)
          (sym steps)
          ((found p word l f flat accepted t view.board.step v.state d path).0 at_t);
      tapes = view.board.tapes;
    }

pub views-one : ExitsAreOne → ShownIsFound → ViewsAreOne
views-one exits found p word l f flat accepted t d path v w one two =
    let boards : board_layers v ≡ board_layers w =
    found-once f.layout f.circuit (flat_start f) (initial_of (machine_of f).rules) d (board_layers v) (board_layers w)
    (as_found found p word l f flat accepted t d path v one) (as_found found p word l f flat accepted t d path w two) in
    let exit_is = one_exit f.layout d.place v.exit w.exit (exits p word l f flat accepted d.place) one.exit two.exit in
    let stage = one.stage ∙ ap (λ (x : BoardLayers). stage_by (name_of f.translation x.state)) boards ∙ sym two.stage in
    let machine = one.machine ∙ ap (λ (x : BoardLayers). machine_state_by f.translation.final_state
    (name_of f.translation x.state)) boards ∙ sym two.machine in
    let step : v.machine_step ≡ w.machine_step = one_position w.tapes.two.head v.machine_step w.machine_step
    (ap (λ (x : BoardLayers). x.tapes.two.head) (sym boards) ∙ one.machine_step) two.machine_step in
    λ i. record {
      place = (boards i).place;
      steps = (boards i).steps;
      exit = exit_is i;
      «module» = (boards i).module;
      state = (boards i).state;
      tapes = (boards i).tapes;
      stage = stage i;
      machine = machine i;
      machine_step = step i;
    }

-- ---- a view

module _ (exits : ExitsAreOne) (read : BoardsRead) (boards : BoardsRunToTheirExit) (found : ShownIsFound)
    (stand : ViewsStand) where
  pub views-there : ViewsAreThere
  views-there p word l f flat accepted t d path =
      let initial = initial_of (machine_of f).rules in
      let by = (read p word l f flat accepted).1 in
      let whole : length f.circuit.tables ≡ size f.network.tables =
      ap length flat.is_board.tables ∙ length-replicate (size f.network.tables) rotary in
      let count : length f.circuit.tables ≡ elements_of f.layout = whole ∙ by.whole ∙ sym by.count in
      let some = some_elements f.network.tables by.starts.admissible (by.modules.some_states 0) in
      let steps : d.steps ≡ t = steps_of_run f.circuit t (flat_start f) d path ∙ zero-add t in
      let v = found-there f.layout f.circuit (flat_start f) initial flat.is_board.circuit count
      (λ x y there. (let low = begins f.network.tables x y there some in let is = whole in let same = count in omega
      arith)) t d path in
      let found_t = subst (λ n. IsShown (Finds f.layout f.circuit (flat_start f)) initial n v.1.step v.0.state) steps
      v.1.shown in
      let comes = (found p word l f flat accepted t v.1.step v.0.state d path).1 found_t in
      let m = stand p word l f flat accepted t v.1.step v.0.state d path comes in
      let out = an_exit d.place refl in (
        record {
          place = v.0.place;
          steps = v.0.steps;
          exit = out.0;
          «module» = v.0.module;
          state = v.0.state;
          tapes = v.0.tapes;
          stage = stage_by (name_of f.translation v.0.state);
          machine = machine_state_by f.translation.final_state (name_of f.translation v.0.state);
          machine_step = m.step;
        },
        record {
          board = record {
            place = v.1.place;
            steps = v.1.steps;
            located = v.1.located;
            step = v.1.step;
            shown = subst (λ n. IsShown (Comes f) initial n v.1.step v.0.state) (sym steps) comes;
            tapes = v.1.tapes;
          };
          exit = out.1;
          stage = refl;
          machine = refl;
          machine_step = ap (λ (s : Spelled). s.two.head) (v.1.tapes ∙ m.spells)
              ∙ history_head f.limits m.config m.step m.head m.inside;
        },
      )
    where
      an_exit : (q : Place) → d.place ≡ q → (e : Exit) × IsExit f.layout d.place e
      an_exit (Enter a i) at = (exit.Inside, named (inside a i at))
      an_exit (Left a i) at = let some = outcome_exists p word l in by_run some.0 some.1
          (boards p word l f flat accepted some.0 some.1 some.2)
        where
          by_run : (i : ℕ) (o : Outcome) → RunsToExit p f i o → (e : Exit) × IsExit f.layout d.place e
          by_run n o ran = (ran.exit, subst (λ (x : Config). IsExit f.layout x.place ran.exit) there ran.is_exit)
            where
              here : run f.circuit (flat_start f) t ≡ d
              here = Reaches-run f.circuit t (flat_start f) d path

              not_before : t < ran.cost → ⊥
              not_before low =
                  let before = before_end f.circuit ran.cost t (flat_start f) (run f.circuit (flat_start f) ran.cost)
                  ran.run_to low in
                  let both : Left a i ≡ Enter before.0 before.1 = sym at ∙ ap (λ (x : Config). x.place) (sym here)
                  ∙ before.2 in
                  cc

              same : ran.cost ≡ t
              same = neither_less ran.cost t
                  (λ more. no_longer f.circuit t ran.cost (flat_start f) d (run f.circuit (flat_start f) ran.cost) path
                  ran.run_to ran.ended more) not_before

              there : run f.circuit (flat_start f) ran.cost ≡ d
              there = ap (run f.circuit (flat_start f)) same ∙ here

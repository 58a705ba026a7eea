-- What `view` answers is one.
use Rattle.std.specs.Prelude.{◌≡◌, ℕ, List, [], ◌++◌, refl}
use Rattle.std.proofs.Common.{sym, ap, subst, ◌∙◌}
use Rattle.bn_circuits.proofs.RunLemmas.{run_makes}
use Rattle.bn_circuits.specs.declared.place.Place.{Place}
use Rattle.bn_circuits.specs.declared.config.Config.{Config}
use Rattle.bn_quad.specs.Quadruples.{initial_of}
use Rattle.bn_table.specs.Laws.{TablesAreMachines}
use Rattle.bn_table.specs.Rows.{Named}
use Rattle.bn_bennett_laws.specs.List.{symbols_of}
use Rattle.bn_bennett.specs.Meaning.{machine_state_by, stage_by}
use Rattle.bn_bennett.specs.Translation.{Translation, name_of}
use Rattle.bn_boards.specs.ExistenceLaws.{FlatsAreThere}
use Rattle.bn_boards.specs.declared.exit.Exit.{Exit}
use Rattle.bn_boards.specs.BoardMoments.{IsBoardMoment}
use Rattle.bn_boards.specs.Layouts.{IsExit, IsNamedExit, Layout, named, spelled_by, unnamed}
use Rattle.bn_boards.specs.Flats.{AreSameFlats, Flat, flat_start, machine_of}
use Rattle.bn_boards.specs.LayoutLaws.{FlatsAreOne}
use Rattle.bn_reply.specs.Answering.{AgreeInAll, HasAnswer}
use Rattle.bn_reply.specs.Codes.{IsReplyStatus}
use Rattle.bn_reply.specs.declared.status.Status.{Status}
use Rattle.bn_reply.specs.declared.status.Status.TheVariants as statuses
use Rattle.bn_reply_relations.specs.ToldRuns.{IsGiven}
use Rattle.bn_reply_relations.specs.Laws.{BoardsAreCounted, ExitsAreNamed}
use Rattle.bn_reply_relations.specs.RunReply.{board_after}
use Rattle.bn_reply_relations.specs.RunText.{tape_lines}
use Rattle.bn_reply_relations.specs.Windows.{ComesTo}
use Rattle.bn_reply_relations.proofs.TellingLemmas.{after_same, exit_same, moment_there, same_boards}
use Rattle.bn_reply_relations.proofs.WindowLemmas.{given_accepted, window_settled}
use Rattle.bn_view.specs.Shown.{IsShown}
use Rattle.bn_view.specs.Modules.{IsModuleAt}
use Rattle.bn_view.specs.Viewed.{Comes, IsViewOf}
use Rattle.bn_view.specs.Laws.{ViewsAreOne, ViewsAreThere}
use Rattle.bn_view.specs.declared.layers.Layers.{Layers}
use Rattle.bn_view.proofs.ShownLemmas.{shown-agrees}
use Rattle.bn_reply_views.specs.ViewReply.{TellsView, ViewIsSettled}
use Rattle.bn_reply_views.specs.ViewText.{element_line, machine_line, module_line, state_line, view_text}

-- an exit is a named one where there is one
pub has_name : (b : Layout) (p : Place) (e x : Exit) → IsNamedExit b p x → IsExit b p e → IsNamedExit b p e
has_name b p e x there (named h) = h
has_name b p e x there (unnamed is none) = absurd (none x there)

-- ---- two boards of one machine, word and limits

module _ (f g : Flat) (same : AreSameFlats f g) (limits : f.limits ≡ g.limits) where
  comes_there : (u a : ℕ) → Comes f u a → Comes g u a
  comes_there u a h = subst (λ c. IsBoardMoment (machine_of g) g.limits g.names g.network c a)
      (after_same f g same limits u) (moment_there f g (board_after f u) a same.translation limits same.names
      same.network.tables h)

  module _ (back : (u a : ℕ) → Comes g u a → Comes f u a) where
    pub view_there : (steps : ℕ) (v : Layers) → IsViewOf f (board_after f steps) v → IsViewOf g (board_after g steps) v
    view_there steps v h =
        let configs = after_same f g same limits steps in
        let shown : IsShown (Comes g) (initial_of (machine_of f).rules) (board_after f steps).steps h.board.step
        v.state =
        shown-agrees (Comes f) (Comes g) (initial_of (machine_of f).rules) (board_after f steps).steps h.board.step
        v.state (λ u e few. comes_there u e) (λ u e few. back u e) h.board.shown in
        record {
          board = record {
            place = h.board.place ∙ ap (λ (c : Config). c.place) configs;
            steps = h.board.steps ∙ ap (λ (c : Config). c.steps) configs;
            located = subst (λ (y : Layout). IsModuleAt y (board_after g steps).place v.module) same.layout
                (subst (λ (c : Config). IsModuleAt f.layout c.place v.module) configs h.board.located);
            step = h.board.step;
            shown = subst (λ x. x) (λ i. IsShown (Comes g) (initial_of (same.translation i).machine.rules)
                (configs i).steps h.board.step v.state) shown;
            tapes = h.board.tapes ∙ (λ i. spelled_by (same.layout i)
                (after_same f g same limits h.board.step i).states);
          };
          exit = subst (λ (y : Layout). IsExit y (board_after g steps).place v.exit) same.layout
              (subst (λ (c : Config). IsExit f.layout c.place v.exit) configs h.exit);
          stage = h.stage ∙ ap (λ (t : Translation). stage_by (name_of t v.state)) same.translation;
          machine = h.machine ∙ ap (λ (t : Translation). machine_state_by t.final_state (name_of t v.state))
              same.translation;
          machine_step = h.machine_step;
        }

  module _ (t : Named) where
    pub text_same : (v : Layers) → view_text t f v ≡ view_text t g v
    text_same v =
        let exits = exit_same f g same limits t v.place v.exit in
        λ i. element_line v.place v.steps ++ (module_line (symbols_of t.machine) (exits i) v.module
        ++ (state_line (name_of (same.translation i) v.state)
        ++ (tape_lines t v.tapes.one v.tapes.two v.tapes.three ++ machine_line t v.stage v.machine v.machine_step)))

pub turned : (f g : Flat) → AreSameFlats f g → f.limits ≡ g.limits → (u a : ℕ) → Comes g u a → Comes f u a
turned f g same limits u a h =
    subst (λ c. IsBoardMoment (machine_of f) f.limits f.names f.network c a) (sym (after_same f g same limits u))
    (moment_there g f (board_after g u) a (sym same.translation) (sym limits) (sym same.names)
    (sym same.network.tables) h)

-- ---- the command

pub view_settled : TablesAreMachines → FlatsAreThere → FlatsAreOne → BoardsAreCounted → ExitsAreNamed → ViewsAreOne
    → ViewsAreThere → ViewIsSettled
view_settled machines flats ones counted exits views_one views_some steps word l bytes small =
    window_settled (TellsView steps) word l bytes machines flats counted small some one
    (λ t f s text told a. subst IsReplyStatus (sym a.status_is) tt)
  where
    some : (t : Named) (symbols : List ℕ) (f : Flat) → IsGiven bytes word l t symbols → ComesTo t.machine l symbols f
        → HasAnswer (TellsView steps t f)
    some t symbols f is comes =
        let accepted = given_accepted machines bytes word l t symbols f is comes in
        let made = run_makes f.circuit (flat_start f) steps in
        let v = views_some t.machine symbols l f comes.flat accepted made.made (board_after f steps) made.reaches in
        let e = exits t.machine symbols l f comes.flat accepted steps in (
          statuses.Done,
          view_text t f v.0,
          [],
          record {
            view = v.0;
            is_view = v.1;
            is_named = has_name f.layout (board_after f steps).place v.0.exit e.0 e.1 v.1.exit;
            status_is = refl;
            text_is = refl;
            silent = refl;
          },
        )

    one : (t : Named) (symbols : List ℕ) (f g : Flat) → IsGiven bytes word l t symbols → ComesTo t.machine l symbols f
        → ComesTo t.machine l symbols g →
        (s u : Status) (a b : List ℕ) (x y : List Place) → TellsView steps t f s a x → TellsView steps t g u b y
        → AgreeInAll s u a b x y
    one t symbols f g is h k s u a b x y tells other =
        let same = same_boards machines ones bytes word l t symbols f g is h k in
        let limits : f.limits ≡ g.limits = h.flat.limits_are ∙ sym k.flat.limits_are in
        let accepted = given_accepted machines bytes word l t symbols g is k in
        let made = run_makes g.circuit (flat_start g) steps in
        let moved = view_there f g same limits (turned f g same limits) steps tells.view tells.is_view in
        let views = views_one t.machine symbols l g k.flat accepted made.made (board_after g steps) made.reaches
        tells.view other.view moved other.is_view in
        record {
          statuses = tells.status_is ∙ sym other.status_is;
          texts = tells.text_is ∙ text_same f g same limits t tells.view ∙ ap (view_text t g) views ∙ sym other.text_is;
          places = tells.silent ∙ sym other.silent;
        }

-- A board is shown wherever it is in its run, and a script is played on it.
use Rattle.std.specs.Prelude.{◌≡◌, ℕ, List, [], ◌++◌, refl}
use Rattle.std.proofs.Common.{sym, ap, subst, ◌∙◌, append-nil}
use Rattle.bn_circuits.specs.Circuits.{Goes}
use Rattle.bn_lists.specs.Runs.{Reaches}
use Rattle.bn_circuits.specs.Stepping.{run}
use Rattle.bn_circuits.specs.declared.config.Config.{Config}
use Rattle.bn_circuits.specs.declared.place.Place.{Place}
use Rattle.bn_circuits.proofs.RunLemmas.{Reaches-back, Reaches-run, back-zero}
use Rattle.bn_circuits.specs.RotaryNets.{rotary_circuit}
use Rattle.bn_machine.specs.Outcome.{Limits}
use Rattle.bn_quad.specs.Quadruples.{initial_of}
use Rattle.bn_table.specs.Rows.{Named}
use Rattle.bn_bennett_laws.specs.List.{symbols_of}
use Rattle.bn_bennett.specs.Meaning.{machine_state_by, stage_by}
use Rattle.bn_bennett.specs.Translation.{IsTranslation, Translation, name_of}
use Rattle.bn_boards.specs.declared.exit.Exit.{Exit}
use Rattle.bn_boards.specs.declared.exit.Exit.TheVariants.{End, Inside, Stuck, Unnamed, Window}
use Rattle.bn_boards.specs.Layouts.{IsExit, Layout, moment_at, spelled_by}
use Rattle.bn_boards.specs.Flats.{Flat, IsAccepted, flat_start}
use Rattle.bn_boards.specs.LayoutLaws.{ExitsAreOne}
use Rattle.bn_boards.specs.RunLaws.{BoardsRunToTheirExit}
use Rattle.bn_board.specs.Flattened.{Flattened, IsBoardKept, origin, origin_by}
use Rattle.bn_reply_relations.specs.RunReply.{board_after}
use Rattle.bn_reply_relations.specs.RunText.{exit_line, stuck_line, state_text, tape_lines}
use Rattle.bn_reply_boards.specs.Opened.{IsMade}
use Rattle.bn_reply_boards.specs.Shown.{HasNames}
use Rattle.bn_reply_boards.proofs.NameLemmas.{exit_names}
use Rattle.bn_session.specs.Boards.{GrowsByFront, IsPlayed, board_at, shown_on}
use Rattle.bn_session.specs.Plays.{Plays, session}
use Rattle.bn_session.specs.declared.command.Command.{Command}
use Rattle.bn_session.proofs.PlayedLemmas.{follow-all}
use Rattle.bn_view.specs.Laws.{ShownIsFound, ViewsAreThere}
use Rattle.bn_view.specs.Modules.{IsModuleAt}
use Rattle.bn_view.specs.Shown.{IsShown}
use Rattle.bn_view.specs.Viewed.{Finds, IsBoardFor, IsView, IsViewOf}
use Rattle.bn_view.specs.declared.layers.Layers.{Layers}
use Rattle.bn_view.proofs.ViewLemmas.{board_reaches, view_of}
use Rattle.bn_reply_views.specs.Showing.{TellsLayers}
use Rattle.bn_reply_views.specs.ViewText.{element_line, machine_line, module_line, state_line, view_text}
use Rattle.bn_reply_views.specs.SessionReply.{IsAnswerTo}
use Rattle.bn_reply_views.specs.Viewing.{MayShow, ShowsLayers}

-- ---- one text for all words and limits

exit_same : (t : Named) (f g : Flat) → f.translation ≡ g.translation → (p : Place) (e : Exit)
    → exit_line t f p e ≡ exit_line t g p e
exit_same t f g same p Inside = refl
exit_same t f g same p End = refl
exit_same t f g same p (Stuck a c) = ap (λ (x : Translation). stuck_line t
    (state_text t (machine_state_by x.final_state (name_of x a))) c) same
exit_same t f g same p (Window n s) = refl
exit_same t f g same p Unnamed = refl

text_same : (t : Named) (f g : Flat) → f.translation ≡ g.translation → (v : Layers) → view_text t f v ≡ view_text t g v
text_same t f g same v =
    let exits = exit_same t f g same v.place v.exit in
    λ i. element_line v.place v.steps ++ (module_line (symbols_of t.machine) (exits i) v.module
    ++ (state_line (name_of (same i) v.state)
    ++ (tape_lines t v.tapes.one v.tapes.two v.tapes.three ++ machine_line t v.stage v.machine v.machine_step)))

module _ (t : Named) (m : Translation) (b : Flattened) (kept : IsBoardKept b) (found : ShownIsFound) where
  -- a view of f is one of the board
  view_board : (word : List ℕ) (l : Limits) (f : Flat) → IsBoardFor t.machine word l f m b → (v : Layers)
      → IsViewOf f b.config v → IsView m b v
  view_board word l f is v view = record {
    board = record {
      place = view.board.place;
      steps = view.board.steps;
      located = subst (λ (x : Layout). IsModuleAt x b.config.place v.module) is.layout view.board.located;
      step = view.board.step;
      shown = subst (λ x. x) (λ i. IsShown (Finds (is.layout i) (is.circuit i) (sym is.start i))
          (initial_of (is.translation i).machine.rules) b.config.steps view.board.step v.state)
          ((found t.machine word l f is.flat is.accepted b.config.steps view.board.step v.state b.config
          (board_reaches t.machine word l f m b is kept)).0 view.board.shown);
      tapes = view.board.tapes ∙ (λ i. spelled_by (is.layout i)
          (run (is.circuit i) (sym is.start i) view.board.step).states);
    };
    exit = subst (λ (x : Layout). IsExit x b.config.place v.exit) is.layout view.exit;
    stage = view.stage ∙ ap (λ (x : Translation). stage_by (name_of x v.state)) is.translation;
    machine = view.machine ∙ ap (λ (x : Translation). machine_state_by x.final_state (name_of x v.state))
        is.translation;
    machine_step = view.machine_step;
  }

  module _ (may : MayShow t m b) (there : ViewsAreThere) where
    some_view : (v : Layers) × IsViewOf may.flat b.config v
    some_view =
        there t.machine may.word may.limits may.flat may.is_for.flat may.is_for.accepted b.config.steps b.config
        (board_reaches t.machine may.word may.limits may.flat m b may.is_for kept)

    -- there is a text of it
    some_text : (text : List ℕ) × ShowsLayers t m b text
    some_text =
        let v = some_view.0 in
        let board = view_board may.word may.limits may.flat may.is_for v some_view.1 in (
          view_text t may.flat v,
          λ word l f is. (
            v,
            view_of t.machine word l f m b is found kept v board,
            text_same t may.flat f (may.is_for.translation ∙ sym is.translation) v,
          ),
        )

    -- where none of it was written, that is a front of it
    pub none_shown : (old new : List ℕ) → new ≡ old → GrowsByFront (ShowsLayers t m b) old new
    none_shown old new same = record {
      front = [];
      rest = some_text.0;
      is = some_text.1;
      written = same ∙ sym (append-nil old);
    }

-- ---- a script that was played

module _ (t : Named) (m : Translation) (b : Flattened) (kept : IsBoardKept b) (word : List ℕ) (l : Limits) (f : Flat)
    (is : IsBoardFor t.machine word l f m b)
    (start : b.config ≡ flat_start f) where
  -- the board at another configuration of its run
  board_for_at : (c : Config) → Reaches (Goes (rotary_circuit b.net)) c.steps (flat_start f) c
      → IsBoardFor t.machine word l f m (board_at b c)
  board_for_at c path = record {
    flat = is.flat;
    accepted = is.accepted;
    translation = is.translation;
    circuit = is.circuit;
    layout = is.layout;
    start = Reaches-back (rotary_circuit b.net) kept.circuit c.steps (flat_start f) c path;
  }

  pub answer_played : (commands : List Command) (c : Config) (old new : List ℕ) → old ≡ []
      → IsPlayed (ShowsLayers t m) b commands c old new → IsAnswerTo t f commands new
  answer_played commands c old new none played =
      let k = rotary_circuit b.net in
      let on = subst (λ d. Reaches (Goes k) b.config.steps d b.config) is.start kept.reached.reaches in
      let followed : Plays k (moment_at b.layout) (TellsLayers t f) commands (session b.config []) played.end
      played.text =
      follow-all k (moment_at b.layout) (shown_on (ShowsLayers t m) b) (flat_start f) refl kept.circuit
      (TellsLayers t f)
      (λ d text path shown. shown word l f (board_for_at d path)) commands (session b.config []) played.end played.text
      on played.plays in
      let told : Plays f.circuit (moment_at f.layout) (TellsLayers t f) commands (session (flat_start f) []) played.end
      played.text =
      subst (λ x. x) (λ i. Plays (sym is.circuit i) (moment_at (sym is.layout i)) (TellsLayers t f) commands
      (session (start i) []) played.end played.text) followed in (
        played.end,
        subst (λ x. Plays f.circuit (moment_at f.layout) (TellsLayers t f) commands
            (session (flat_start f) []) played.end x) (sym (played.written ∙ ap (λ x. x ++ played.text) none)) told,
      )

-- ---- a board that was made

module _ (t : Named) (l : Limits) (symbols : List ℕ) (f : Flat) (m : Translation) (b : Flattened)
    (made : IsMade t.machine l symbols f m b) (accepted : IsAccepted t.machine symbols l f) where
  pub made_for : IsBoardFor t.machine symbols l f m b
  made_for = record {
    flat = made.comes.flat;
    accepted = accepted;
    translation = made.translation;
    circuit = made.circuit;
    layout = made.layout;
    start = start_is;
  }
    where
      start_is : origin b ≡ flat_start f
      start_is = ap (origin_by (rotary_circuit b.net)) made.config ∙ back-zero (rotary_circuit b.net) (flat_start f)

  pub may_show_made : ExitsAreOne → BoardsRunToTheirExit → MayShow t m b
  may_show_made ones boards = record {
    translates = subst (IsTranslation t.machine) made.translation made.comes.flat.translation;
    word = symbols;
    limits = l;
    flat = f;
    is_for = made_for;
    names = λ d path e is.
        let ran : board_after f d.steps ≡ d = Reaches-run f.circuit d.steps (flat_start f) d
        (subst (λ x. x) (λ i. Reaches (Goes (sym made.circuit i)) d.steps (made_for.start i) d) path) in
        subst (λ x. HasNames t x e) made.translation (exit_names t symbols l f made.comes.flat accepted ones boards
        d.steps e
        (subst (λ (c : Config). IsExit f.layout c.place e) (sym ran)
        (subst (λ (x : Layout). IsExit x d.place e) (sym made.layout) is)));
  }

-- What a view of a board says, in the words of the machine's board.
use Rattle.std.specs.Prelude.{◌≡◌, ℕ, ◌<◌, pos, List, [], ◌∷◌, length, Option, Some, refl}
use Rattle.std.proofs.Common.{arith, sym, ap, subst, ◌∙◌}
use Rattle.std.proofs.lemmas.Option.{slice_get_within}
use Rattle.bn_lists.specs.Runs.{Reaches}
use Rattle.bn_circuits.specs.Circuits.{Goes}
use Rattle.bn_circuits.specs.Stepping.{run}
use Rattle.bn_circuits.specs.declared.config.Config.{Config}
use Rattle.bn_circuits.specs.RotaryNets.{rotary_circuit}
use Rattle.bn_machine.specs.Machine.{Program}
use Rattle.bn_lists.specs.Lists.{nth}
use Rattle.bn_machine.specs.Outcome.{Limits}
use Rattle.bn_quad.specs.Quadruples.{IsQuadMachine, Quadruples, Rule, initial_of}
use Rattle.bn_bennett_laws.specs.Renamed.{in_state}
use Rattle.bn_bennett_laws.specs.Stages.{Stands}
use Rattle.bn_bennett.specs.Translation.{Translation, name_of}
use Rattle.bn_bennett.specs.Meaning.{machine_state_by, stage_by}
use Rattle.bn_network_laws.proofs.RangeLemmas.{rule_range}
use Rattle.bn_boards.specs.Layouts.{IsExit, IsLayout, is_sent, spelled_by, spelled_config}
use Rattle.bn_boards.specs.Flats.{Flat, flat_start, machine_of}
use Rattle.bn_boards.specs.declared.spelled.Spelled.{Spelled}
use Rattle.bn_boards.proofs.FirstLemmas.{position_holds}
use Rattle.bn_board.specs.Flattened.{Flattened, IsBoardKept, IsSameBoard, origin}
use Rattle.bn_view.specs.Shown.{IsShown, moment, start}
use Rattle.bn_view.specs.Modules.{IsModuleAt}
use Rattle.bn_view.specs.Viewed.{Comes, Finds, IsBoardFor, IsBoardOf, IsBoardView, IsLaidOut, IsLastMoment, IsView}
use Rattle.bn_view.specs.Viewed.{IsViewOf, MachineIsAt, ShowsMachine}
use Rattle.bn_view.specs.Laws.{ShownIsFound, StandsForMachine, ViewsStand}
use Rattle.bn_view.specs.declared.layers.BoardLayers.{BoardLayers}
use Rattle.bn_view.specs.declared.layers.Layers.{Layers}
use Rattle.bn_view.proofs.BackLemmas.{FindsOn, board_ran}
use Rattle.bn_view.proofs.StandingLemmas.{history_head}

-- the initial state is one of the machine's
initial_low : (m : Quadruples) → IsQuadMachine m → (rs : List (Rule ℕ)) → m.rules ≡ rs → initial_of rs < m.states
initial_low m quad [] is = absurd (let some : 0 < length m.rules = quad.some in let none : length m.rules
    ≡ 0 = ap (λ (xs : List (Rule ℕ)). length xs) is in omega arith)
initial_low m quad (r ∷ rs) is = (rule_range m quad 1 r (ap (λ (xs : List (Rule ℕ)). nth xs 1) is)).from

-- two positions are one
pub one_position : (o : Option _) (x y : ℕ) → o ≡ Some (pos x) → o ≡ Some (pos y) → x ≡ y
one_position o x y first second = let both : Some (pos x) ≡ Some (pos y) = sym first ∙ second in cc

module _ (p : Program) (word : List ℕ) (l : Limits) (f : Flat) (t : Translation) (b : Flattened)
    (is : IsBoardFor p word l f t b) where
  -- the run of the board is that of f
  run_is : (s : ℕ) → run (rotary_circuit b.net) (origin b) s ≡ run f.circuit (flat_start f) s
  run_is s = λ i. run (sym is.circuit i) (is.start i) s

  spelled_is : (s : ℕ) → spelled_by b.layout (run (rotary_circuit b.net) (origin b) s).states
      ≡ spelled_by f.layout (run f.circuit (flat_start f) s).states
  spelled_is s = λ i. spelled_by (sym is.layout i) (run_is s i).states

  pub board_reaches : IsBoardKept b → Reaches (Goes f.circuit) b.config.steps (flat_start f) b.config
  board_reaches kept =
      subst (λ c. Reaches (Goes f.circuit) b.config.steps c b.config) is.start
      (subst (λ k. Reaches (Goes k) b.config.steps (origin b) b.config) (sym is.circuit) kept.reached.reaches)

  module _ (found : ShownIsFound) (kept : IsBoardKept b) where
    -- what its layout finds is what is shown of f
    pub shown_as : (s a : ℕ) → IsShown (FindsOn b) (initial_of t.machine.rules) b.config.steps s a
        → IsShown (Comes f) (initial_of (machine_of f).rules) b.config.steps s a
    shown_as s a h =
        (found p word l f is.flat is.accepted b.config.steps s a b.config (board_reaches kept)).1
        (subst (λ x. x) (λ i. IsShown (Finds (sym is.layout i) (sym is.circuit i) (is.start i))
        (initial_of (sym is.translation i).machine.rules) b.config.steps s a) h)

    pub view_of : (v : Layers) → IsView t b v → IsViewOf f b.config v
    view_of v view = record {
      board = record {
        place = view.board.place;
        steps = view.board.steps;
        located = subst (λ x. IsModuleAt x b.config.place v.module) (sym is.layout) view.board.located;
        step = view.board.step;
        shown = shown_as view.board.step v.state view.board.shown;
        tapes = view.board.tapes ∙ spelled_is view.board.step;
      };
      exit = subst (λ x. IsExit x b.config.place v.exit) (sym is.layout) view.exit;
      stage = view.stage ∙ ap (λ (x : Translation). stage_by (name_of x v.state)) (sym is.translation);
      machine = view.machine ∙ ap (λ (x : Translation). machine_state_by x.final_state (name_of x v.state))
          (sym is.translation);
      machine_step = view.machine_step;
    }

    module _ (stand : ViewsStand) where
      pub machine_at : (s a : ℕ) → IsShown (FindsOn b) (initial_of t.machine.rules) b.config.steps s a
          → StandsForMachine p word f s a
      machine_at s a h = stand p word l f is.flat is.accepted b.config.steps s a b.config (board_reaches kept)
          (shown_as s a h)

      -- the head of the history is there
      pub head_there : (s a : ℕ) → IsShown (FindsOn b) (initial_of t.machine.rules) b.config.steps s a
          → (i : ℕ) × ((spelled_by b.layout (run (rotary_circuit b.net) (origin b) s).states).two.head ≡ Some (pos i))
      head_there s a h =
          let m = machine_at s a h in (
            m.step,
            ap (λ (x : Spelled). x.two.head) (spelled_is s ∙ m.spells)
                ∙ history_head f.limits m.config m.step m.head m.inside,
          )

      pub shows_machine : (v : Layers) → IsView t b v → ShowsMachine p word l t v
      shows_machine v view =
          let m = machine_at view.board.step v.state view.board.shown in
          let step : m.step ≡ v.machine_step = one_position v.tapes.two.head m.step v.machine_step
          (ap (λ (x : Spelled). x.two.head) (view.board.tapes ∙ spelled_is view.board.step ∙ m.spells)
          ∙ history_head f.limits m.config m.step m.head m.inside) view.machine_step in
          let state : machine_state_by f.translation.final_state (name_of f.translation v.state) ≡ v.machine =
          ap (λ (x : Translation). machine_state_by x.final_state (name_of x v.state)) is.translation
          ∙ sym view.machine in
          record {
            config = m.config;
            state = m.state;
            spells = view.board.tapes ∙ spelled_is view.board.step ∙ m.spells
                ∙ ap (λ x. spelled_config x m.config) is.flat.limits_are;
            stands = subst (λ (x : Translation). Stands p word (in_state (name_of x) m.config)) is.translation m.stands;
            at = subst (λ x. x) (λ i. MachineIsAt p word (step i) (state i)) m.at;
          }

  -- its layout is that of the translation's machine
  pub laid_out : IsLaidOut t.machine b.layout
  laid_out = record {
    machine = subst (λ (x : Translation). IsQuadMachine x.machine) is.translation is.flat.translation.machine;
    limits = l;
    names = f.names;
    layout = subst (λ x. x) (λ i. IsLayout (is.translation i).machine l f.names (is.layout i)) is.flat.is_layout;
  }

-- a board that went back is where the run was then
pub gone_spelled : (a b : Flattened) → IsSameBoard a b → IsBoardKept b
    → spelled_by b.layout b.config.states ≡ spelled_by a.layout
    (run (rotary_circuit a.net) (origin a) b.config.steps).states
gone_spelled a b same kept = λ i. spelled_by (same.layout i) (sym (board_ran a b same kept) i).states

-- its place is where the run from its start comes to in its steps
pub place_from_start : (t : Translation) (b : Flattened) → IsBoardKept b → (v : Layers) → IsView t b v
    → v.place ≡ (run (rotary_circuit b.net) (origin b) v.steps).place
place_from_start t b kept v view =
    view.board.place ∙ ap (λ (c : Config). c.place) (sym (board_ran b b
    (record { net = refl; start = refl; end = refl; layout = refl; origin_is = refl }) kept))
    ∙ ap (λ n. (run (rotary_circuit b.net) (origin b) n).place) (sym view.board.steps)

-- ---- the last moment

-- what a board that was stepped back from a copy of this one shows
pub last_moment : (b copy last : Flattened) (initial a : ℕ) (s : Spelled) → copy ≡ b → IsSameBoard copy last
    → IsBoardKept last
    → IsShown (FindsOn copy) initial copy.config.steps last.config.steps a
    → s ≡ spelled_by last.layout last.config.states → IsLastMoment b initial (record { state = a; tapes = s })
last_moment b copy last initial a s is same kept shown spelled = record {
  step = last.config.steps;
  shown = subst (λ x. IsShown (FindsOn x) initial x.config.steps last.config.steps a) is shown;
  tapes = spelled ∙ gone_spelled b last (subst (λ x. IsSameBoard x last) is same) kept;
}

-- ---- the board of any machine

module _ (m : Quadruples) (b : Flattened) (laid : IsLaidOut m b.layout) where
  -- the state that is shown is one of the machine's
  pub laid_state : (s a : ℕ) → IsShown (FindsOn b) (initial_of m.rules) b.config.steps s a → a < m.states
  laid_state s a (moment few here later) =
      let at = position_holds (is_sent b.layout (run (rotary_circuit b.net) (origin b) s)) b.layout.firsts a here in
      let low = slice_get_within b.layout.firsts a at.0 at.1 in
      let firsts = laid.layout.counted in
      omega arith
  laid_state s a (start first begins none) =
      let low = initial_low m laid.machine m.rules refl in
      subst (λ x. x < m.states) (sym begins) low

module _ (t : Translation) (b : Flattened) (initial : ℕ) (v : BoardLayers)
    (begins : initial ≡ initial_of t.machine.rules) (view : IsBoardView b initial v) where
  pub layers_head : ShownIsFound → ViewsStand → IsBoardKept b → IsBoardOf t b
      → (i : ℕ) × (v.tapes.two.head ≡ Some (pos i))
  layers_head found stand kept is =
      let shown = subst (λ n. IsShown (FindsOn b) n b.config.steps view.step v.state) begins view.shown in
      let there = head_there is.0 is.1 is.2 is.3 t b is.4 found kept stand view.step v.state shown in
      (there.0, ap (λ (x : Spelled). x.two.head) view.tapes ∙ there.1)

-- Leaps over the banks of a board.
use Rattle.std.specs.Prelude.{◌≡◌, ◌≢◌, ℕ, ◌+◌, ◌<◌, ◌≤◌, Bool, true, false, not, length, Option, Some, None}
use Rattle.std.specs.Prelude.{slice_get, slice_set, refl, ◌⊎◌}
use Rattle.std.specs.Option.{option_map}
use Rattle.std.proofs.Common.{zero, suc, arith, sym, ap, subst, ◌∙◌, inl, inr}
use Rattle.std.proofs.lemmas.Bool.{cases_lt}
use Rattle.std.proofs.lemmas.Bool.Decides.{eqb_tells}
use Rattle.std.proofs.lemmas.Option.{slice_get_within, slice_get-get_or}
use Rattle.bn_lists.specs.Runs.{Reaches}
use Rattle.bn_lists.proofs.RunsLemmas.{runs_join, passes_run}
use Rattle.bn_element.specs.Tables.{Table, IsReversible}
use Rattle.bn_element.specs.Rotary.{east, west}
use Rattle.bn_circuits.specs.Circuits.{Circuit, clock, go_of, target, place_after, Goes, IsPlace, inputs_of, line_at}
use Rattle.bn_circuits.specs.Stepping.{run}
use Rattle.bn_circuits.specs.Situations.{Situation, situation, situation_of, counted, Turns, IsAtEnd}
use Rattle.bn_circuits.specs.declared.line.Line.{Line}
use Rattle.bn_circuits.specs.declared.place.Place.{Place}
use Rattle.bn_circuits.specs.declared.place.Place.TheVariants.{Enter, Left}
use Rattle.bn_circuits.specs.declared.config.Config.{Config}
use Rattle.bn_circuits.proofs.StepLemmas.{same_lines}
use Rattle.bn_circuits.proofs.RunLemmas.{Reaches-run}
use Rattle.bn_circuits.proofs.RunPartLemmas.{paths-between}
use Rattle.bn_circuits.proofs.SituationLemmas.{steps-counted}
use Rattle.bn_circuits.specs.declared.net.TheConstants.{MOST_ELEMENTS}
use Rattle.bn_rsm.specs.Costs.{table_cost, cost_by}
use Rattle.bn_rsm.specs.RunCosts.{step_cost, entry_cost}
use Rattle.bn_rsm.proofs.RunCostLemmas.{some_cost}
use Rattle.bn_rsm.proofs.CostLemmas.{costs-bounded}
use Rattle.bn_column.specs.Columns.{bar}
use Rattle.bn_realise.specs.Banks.{AreMarked, IsResting, across, IsBankEntering, column_at, bank_input_line}
use Rattle.bn_realise.specs.Banks.{turning_line}
use Rattle.bn_realise.proofs.BankWiresLemmas.{bank_wire-IsWithinLines, bank_wire-no_input}
use Rattle.bn_realise.proofs.BankCrossingLemmas.{bank_crosses}
use Rattle.bn_boards.specs.Boards.{AreModules, IsBoard, own, base, size, size_of, on_board, output_at, StandsFor}
use Rattle.bn_boards.specs.Boards.{IsAmid}
use Rattle.bn_boards.specs.Layouts.{same_place}
use Rattle.bn_boards.proofs.BankedLemmas.{modules-banks}
use Rattle.bn_boards.proofs.MovedLemmas.{in_bank, one-move}
use Rattle.bn_boards.proofs.LooseLemmas.{loose-move, no_turning_wire}
use Rattle.bn_boards.proofs.ModuleLemmas.{input_table, one_table, place_once, banks_apart}
use Rattle.bn_boards.proofs.BankedLemmas.{base-within as bank_within}
use Rattle.bn_boards.proofs.AgreedLemmas.{same_place_not, same_place_is}
use Rattle.bn_leap.specs.Laws.{BoundariesStand, BoundariesRest, BoardsLeap, BoardsStayUnderWay, MovesAreRead}

-- a board stands for a situation whatever it has counted
uncounted : (n : Circuit) (s : Situation) (c d : Config) → c.states ≡ d.states → c.place ≡ d.place → StandsFor n s c
    → StandsFor n s d
uncounted n s c d states place stands = record {
  count = stands.count;
  bars = subst (λ xs. length xs ≡ size n.tables) states stands.bars;
  rests = λ m t q has state. let h = stands.rests m t q has state in
      (h.0, subst (λ xs. IsResting xs (base n.tables m) t.states t.inputs (Some q)) states h.1);
  admissible = stands.admissible;
  place = sym place ∙ stands.place;
}

-- a line by which a signal leaves is none by which it enters
pub left_enters : (a b e i : ℕ) → Left a b ≡ Enter e i → ⊥
left_enters a b e i h = absurd (cc)

-- a module's output stands for a line by which a signal leaves
leaves : (n : Circuit) (e o : ℕ) (t : Option Table) → (a : ℕ) × (b : ℕ) × (output_at n.tables e t o ≡ Left a b)
leaves n e o None = (0, 0, refl)
leaves n e o (Some t) = (_, _, refl)

-- a bank costs less than the clock counts
pub cost-low : (t : Table) (q i : ℕ) → q < t.states → i < t.inputs → t.outputs ≡ t.inputs → IsReversible t
    → size_of t ≤ MOST_ELEMENTS → table_cost t q i ≤ clock
cost-low t q i state line square reversible few = by_move (t.go q i) refl
  where
    by_move : (o : Option (ℕ × ℕ)) → t.go q i ≡ o → cost_by t.states t.inputs q i o ≤ clock
    by_move None is = let h = (costs-bounded t.states t.inputs q i q i state line state line).1 in omega arith
    by_move (Some m) is =
        let to = reversible.arrives q i m.0 m.1 is in
        let out : m.1 < t.inputs = subst (λ x. m.1 < x) square to.1 in
        let h = (costs-bounded t.states t.inputs q i m.0 m.1 state line to.0 out).0 in
        omega arith

module _ (n k : Circuit) (modules : AreModules n) (board : IsBoard n k) (few : size n.tables ≤ MOST_ELEMENTS) where
  -- what is known of the module that the signal enters
  record IsThere (s : Situation) (e i : ℕ) : Type 0 where
    table : Table
    state : ℕ
    has_table : slice_get n.tables e ≡ Some table
    row : i < table.inputs
    has_state : slice_get s.states e ≡ Some state
    cost : step_cost n s ≡ table_cost table state i

  there : (s : Situation) (c : Config) (e i : ℕ) → StandsFor n s c → s.place ≡ Enter e i → IsThere s e i
  there s c e i stands enters =
      let line : i < inputs_of n.tables e = subst (IsPlace n) enters stands.admissible in
      let found = input_table n.tables e i line in
      let low : e < length s.states = (let h = slice_get_within n.tables e found.0 found.1 in
      let count = stands.count in omega arith) in
      let state = slice_get-get_or s.states e 0 low in
      record {
        table = found.0;
        state = _;
        has_table = found.1;
        row = found.2;
        has_state = state;
        cost = ap (entry_cost n s.states) enters ∙ rw (state, found.1) refl;
      }

  -- either the network goes on, or it is at its end
  goes_on : (s : Situation) (e i : ℕ) (h : IsThere s e i) → s.place ≡ Enter e i
      → ((t : Situation) × Turns n s t) ⊎ IsAtEnd n s
  goes_on s e i h enters = by_move (h.table.go h.state i) refl
    where
      goes : go_of n.tables e h.state i ≡ h.table.go h.state i
      goes = rw h.has_table refl

      by_move : (o : Option (ℕ × ℕ)) → h.table.go h.state i ≡ o → ((t : Situation) × Turns n s t) ⊎ IsAtEnd n s
      by_move None is = inr (λ t g.
          let same : Enter g.element g.input ≡ Enter e i = sym g.enters ∙ enters in
          let element : g.element ≡ e = cc in
          let input : g.input ≡ i = cc in
          let state : slice_get s.states e ≡ Some g.before = subst (λ x. slice_get s.states x ≡ Some g.before) element
          g.has_state in
          let before : g.before ≡ h.state = (let a = h.has_state in cc) in
          let moves : go_of n.tables e h.state i ≡ Some (g.after, g.output) =
          (λ j. go_of n.tables (sym element j) (sym before j) (sym input j)) ∙ g.moves in
          let none : go_of n.tables e h.state i ≡ None = goes ∙ is in
          absurd (cc))
      by_move (Some m) is = inl (
        situation (slice_set s.states e m.0) (place_after n.wires (line_at e m.1)),
        record {
          element = e;
          input = i;
          output = m.1;
          before = h.state;
          after = m.0;
          enters = enters;
          has_state = h.has_state;
          moves = goes ∙ is;
          states = refl;
          place = refl;
        },
      )

  -- its cost is within the clock
  in_time : (s : Situation) (c : Config) (e i : ℕ) (h : IsThere s e i) → StandsFor n s c → step_cost n s ≤ clock
  in_time s c e i h stands =
      let rests = stands.rests e h.table h.state h.has_table h.has_state in
      let size_low = bank_within n.tables e h.table h.has_table in
      let low = cost-low h.table h.state i rests.0 h.row (modules.square e h.table h.has_table)
      (modules.circuit.reversible e h.table h.has_table) (omega arith) in
      let cost = h.cost in
      omega arith

  -- A situation of the board that is on its way: within the move from one for which the board stood, or behind the end.
  data IsOnWay (x : Situation) : Type 0 where
    within : (s : Situation) (c : Config) (e i j : ℕ) → StandsFor n s c → c.steps ≡ 0 → s.place ≡ Enter e i
        → Reaches (Goes k) j c (counted x j) → j < step_cost n s → IsOnWay x
    out : (a b : ℕ) → x.place ≡ Left a b → IsOnWay x

  -- where the board stands for a situation it is on its way
  stands-on_way : (s : Situation) (c : Config) → StandsFor n s c → IsOnWay (situation_of c)
  stands-on_way s c stands = by_place s.place refl
    where
      by_place : (p : Place) → s.place ≡ p → IsOnWay (situation_of c)
      by_place (Left e o) is =
          let h = leaves n e o (slice_get n.tables e) in
          out h.0 h.1 (stands.place ∙ ap (on_board n.tables) is ∙ h.2)
      by_place (Enter e i) is =
          let zero_c = counted (situation_of c) 0 in
          let stands' = uncounted n s c zero_c refl refl stands in
          let h = there s zero_c e i stands' is in
          let cost = h.cost in
          let some = some_cost n h.table h.state i in
          within s zero_c e i 0 stands' refl is refl (omega arith)

  -- one step more
  step_more : (x y : Situation) → IsOnWay x → Turns k x y → IsOnWay y
  step_more x y (out a b is) g = absurd (left_enters a b g.element g.input (sym is ∙ g.enters))
  step_more x y (within s c e i j stands none enters path few_steps) g =
      elim (cases_lt (j + 1) (step_cost n s)) [
        | inl less ↦ within s c e i (j + 1) stands none enters longer less
        | inr more ↦ (elim (goes_on s e i h enters) [
          | inl next ↦
              (let l = low in let made = one-move n k s next.0 c (λ d. true) modules board stands next.1 (omega arith)
              (λ d a. refl) in
              let here : made.0 ≡ counted y (j + 1) =
              at_end made.0 (passes_run (Goes k) (λ d. true) (step_cost n s) c made.0 made.1) (omega arith) in
              stands-on_way next.0 (counted y (j + 1)) (subst (StandsFor n next.0) here made.2))
          | inr ended ↦
              (let l = low in let made = loose-move n k s e i c (λ d. true) modules board stands ended enters
              (omega arith) (λ d a. refl) in
              let here : made.0 ≡ counted y (j + 1) =
              at_end made.0 (passes_run (Goes k) (λ d. true) (step_cost n s) c made.0 made.1) (omega arith) in
              out _ _ (ap (λ (d : Config). d.place) (sym here) ∙ made.2.left))
        ])
      ]
    where
      h : IsThere s e i
      h = there s c e i stands enters

      low : step_cost n s ≤ clock
      low = in_time s c e i h stands

      longer : Reaches (Goes k) (j + 1) c (counted y (j + 1))
      longer = runs_join (Goes k) (j + 1) j 1 c (counted x j) (counted y (j + 1)) refl path (
        counted y (j + 1),
        steps-counted.1 k x y j g (let l = low in omega arith),
        refl,
      )

      at_end : (d : Config) → Reaches (Goes k) (step_cost n s) c d → step_cost n s ≡ j + 1 → d ≡ counted y (j + 1)
      at_end d made count = sym (Reaches-run k (step_cost n s) c d made) ∙ ap (run k c) count
          ∙ Reaches-run k (j + 1) c (counted y (j + 1)) longer

  -- and so after any number of steps
  run_more : (t : ℕ) (c d : Config) → IsOnWay (situation_of c) → Reaches (Goes k) t c d → IsOnWay (situation_of d)
  run_more zero c d on path = subst (λ x. IsOnWay (situation_of x)) path on
  run_more (suc t) c d on path = run_more t path.0 d (step_more (situation_of c) (situation_of path.0) on
      path.1.crosses) path.2

  -- strictly within a move the signal enters no input line of a bank
  amid-elsewhere : (s t : Situation) (d : Config) (m i : ℕ) (u : Table) → slice_get n.tables m ≡ Some u → i < u.inputs
      → IsAmid n s t d → d.place ≢ Enter (base n.tables m + i) west
  amid-elsewhere s t d m i u has row w same =
      let both : Enter w.to.element w.to.line ≡ Enter (base n.tables m + i) west = sym w.enters ∙ same in
      let place : w.to.element ≡ base n.tables m + i = cc in
      let side : w.to.line ≡ west = cc in
      let ends : w.to ≡ bank_input_line (base n.tables m) i =
      same_lines w.to (bank_input_line (base n.tables m) i) place side in
      elim (eqb_tells w.at_module m) [
        | inl alike ↦
            (let tables = one_table n.tables w.at_module m w.table u alike.1 w.has_table has in
            let rows : w.table.inputs ≡ u.inputs = ap (λ (v : Table). v.inputs) tables in
            bank_wire-no_input (base n.tables w.at_module) w.table (modules.circuit.reversible w.at_module w.table
            w.has_table) (modules.square w.at_module w.table w.has_table) w.from w.to w.own i (omega arith) (ends
            ∙ ap (λ e. bank_input_line (base n.tables e) i) (sym alike.1)))
        | inr apart ↦
            (let lines = bank_wire-IsWithinLines (base n.tables w.at_module) w.table
            (modules.circuit.reversible w.at_module w.table w.has_table)
            (modules.square w.at_module w.table w.has_table) w.from w.to w.own in
            let inside = in_bank (base n.tables m) u 0 i (modules.some_states m u has) (omega arith) in
            banks_apart n.tables w.at_module m w.table u w.to.element w.has_table has apart.1 lines.to_low lines.to_high
            (omega arith) (omega (arith, inside.1)))
      ]

  -- where it is on its way and enters an input line of a bank, it stands for a situation
  on_way-stands : (d : Config) (m i : ℕ) (u : Table) → slice_get n.tables m ≡ Some u → i < u.inputs
      → d.place ≡ Enter (base n.tables m + i) west → IsOnWay (situation_of d) → (s : Situation) × StandsFor n s d
  on_way-stands d m i u has row enters (out a b is) = absurd (left_enters a b (base n.tables m + i) west (sym is
      ∙ enters))
  on_way-stands d m i u has row enters (within s c e l zero stands none place path few_steps) =
      (s, uncounted n s c d (ap (λ (x : Config). x.states) path) (ap (λ (x : Config). x.place) path) stands)
  on_way-stands d m i u has row enters (within s c e l (suc j) stands none place path few_steps) =
      elim (goes_on s e l h place) [
        | inl next ↦
            (let few_now = low in let made = one-move n k s next.0 c test modules board stands next.1 (omega arith)
            (λ x a. elsewhere s next.0 x a) in
            never (paths-between k test (step_cost n s) (suc j) c made.0 made.1 (omega arith) few_steps))
        | inr ended ↦
            (let few_now = low in let made = loose-move n k s e l c test modules board stands ended place (omega arith)
            (λ x a. elsewhere s s x a) in
            never (paths-between k test (step_cost n s) (suc j) c made.0 made.1 (omega arith) few_steps))
      ]
    where
      h : IsThere s e l
      h = there s c e l stands place

      low : step_cost n s ≤ clock
      low = in_time s c e l h stands

      test : Config → Bool
      test x = not (same_place x.place (Enter (base n.tables m + i) west))

      elsewhere : (a b : Situation) (x : Config) → IsAmid n a b x → test x ≡ true
      elsewhere a b x w = ap not (same_place_not x.place (Enter (base n.tables m + i) west)
          (amid-elsewhere a b x m i u has row w))

      never : test (run k c (suc j)) ≡ true → (s : Situation) × StandsFor n s d
      never holds =
          let here : run k c (suc j) ≡ counted (situation_of d) (suc j) =
          Reaches-run k (suc j) c (counted (situation_of d) (suc j)) path in
          let yes : test (counted (situation_of d) (suc j)) ≡ false =
          ap not (same_place_is d.place (Enter (base n.tables m + i) west) enters) in
          let both : true ≡ false = sym holds ∙ ap test here ∙ yes in
          absurd (cc)

  -- the network's signal enters the same line
  same_entry : (s : Situation) (d : Config) (m i : ℕ) (u : Table) → slice_get n.tables m ≡ Some u → i < u.inputs
      → d.place ≡ Enter (base n.tables m + i) west → StandsFor n s d → s.place ≡ Enter m i
  same_entry s d m i u has row enters stands = by_place s.place refl
    where
      by_place : (p : Place) → s.place ≡ p → p ≡ Enter m i
      by_place (Left e o) is =
          let h = leaves n e o (slice_get n.tables e) in
          absurd (left_enters h.0 h.1 (base n.tables m + i) west (sym h.2 ∙ ap (on_board n.tables) (sym is)
          ∙ sym stands.place ∙ enters))
      by_place (Enter e l) is =
          let there' = there s d e l stands is in
          let both : Enter (base n.tables e + l) west ≡ Enter (base n.tables m + i) west =
          ap (on_board n.tables) (sym is) ∙ sym stands.place ∙ enters in
          let place : base n.tables e + l ≡ base n.tables m + i = cc in
          let row' = there'.row in
          let one = place_once n.tables e m there'.table u 0 0 l i there'.has_table has
          (modules.some_states e there'.table there'.has_table) (modules.some_states m u has) (omega arith)
          (omega arith) (omega arith) in
          λ j. Enter (one.0 j) (one.3 j)

-- ---- the laws

pub boundaries-stand : BoundariesStand
boundaries-stand n k m i t c way at =
    let on = run_more n k way.modules way.board way.few way.steps way.origin c (stands-on_way n k way.modules way.board
    way.few way.start way.origin way.stands) way.reached in
    let found = on_way-stands n k way.modules way.board way.few c m i t at.has_table at.row at.enters on in (
      found.0,
      found.1,
      same_entry n k way.modules way.board way.few found.0 c m i t at.has_table at.row at.enters found.1,
    )

pub boundaries-rest : BoundariesRest
boundaries-rest n k m i t c way at =
    let found = boundaries-stand n k m i t c way at in
    let h = there n k way.modules way.board way.few found.0 c m i found.1 found.2 in
    let tables = one_table n.tables m m h.table t refl h.has_table at.has_table in
    let rests = found.1.rests m t h.state at.has_table h.has_state in
    record { state = h.state; within = rests.0; resting = rests.1 }

pub boards-leap : BoardsLeap
boards-leap n k m i q t c test way at state flat room holds =
    let b = base n.tables m in
    let rests = boundaries-rest n k m i t c way at in
    let marked : AreMarked c.states b t.states t.inputs (Some rests.state) =
    record { bottoms = λ j low. (rests.resting.columns j low).bottom } in
    let same : rests.state ≡ q =
    elim (eqb_tells rests.state q) [
      | inl alike ↦ alike.1
      | inr apart ↦ absurd (let h = marked.bottoms q state ∙ ap (λ v. Some (bar v)) apart.0 in cc)
    ] in
    let entering : IsBankEntering b t q i c = record {
      state = state;
      line = at.row;
      resting = subst (λ x. IsResting c.states b t.states t.inputs (Some x)) same rests.resting;
      enters = at.enters;
    } in
    bank_crosses k b t q i c test (way.modules.circuit.reversible m t at.has_table)
    (way.modules.square m t at.has_table) (modules-banks n k m t way.modules way.board at.has_table) entering room
    holds

pub stay-under_way : BoardsStayUnderWay
stay-under_way n k e c d way path = record {
  modules = way.modules;
  board = way.board;
  few = way.few;
  start = way.start;
  origin = way.origin;
  stands = way.stands;
  steps = way.steps + e;
  reached = runs_join (Goes k) (way.steps + e) way.steps e way.origin c d refl way.reached path;
}

module _ (n k : Circuit) (modules : AreModules n) (board : IsBoard n k) where
  read : (m q i : ℕ) (t : Table) → slice_get n.tables m ≡ Some t → q < t.states → i < t.inputs → (o : Option (ℕ × ℕ))
      → t.go q i ≡ o
      → target k.wires (turning_line (base n.tables m) t q i) ≡ option_map
      (λ p. line_at (column_at (base n.tables m) t.inputs p.0 + p.1) east) o
  read m q i t has state row None is = by_target (target k.wires (turning_line (base n.tables m) t q i)) refl
    where
      by_target : (v : Option Line) → target k.wires (turning_line (base n.tables m) t q i) ≡ v → v ≡ None
      by_target None h = refl
      by_target (Some to) h = absurd (no_turning_wire n k modules board m q i t to has state row is
          ((board.wires (turning_line (base n.tables m) t q i) to).0 h))
  read m q i t has state row (Some p) is =
      (board.wires (turning_line (base n.tables m) t q i) (line_at (column_at (base n.tables m) t.inputs p.0 + p.1)
      east)).1
      (own m t has (across q i p.0 p.1 is refl refl))

pub moves-read : MovesAreRead
moves-read n k m q i t modules board has state row = read n k modules board m q i t has state row (t.go q i) refl

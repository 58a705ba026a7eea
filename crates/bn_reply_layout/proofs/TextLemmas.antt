-- The text of a layout from its parts, and what the functions that write it are given.
use Rattle.std.specs.Prelude.{◌≡◌, ℕ, ◌+◌, ◌<◌, List, [], ◌∷◌, ◌++◌, All, length, map}
use Rattle.std.proofs.Common.{arith, get_or, option_map, sym, ap, subst, ◌∙◌}
use Rattle.std.specs.List.{flat_map, range_with_len}
use Rattle.std.proofs.lemmas.Option.{slice_get-get_or, slice_get-map}
use Rattle.bn_machine.specs.Outcome.{Limits}
use Rattle.bn_quad.specs.Quadruples.{IsQuadMachine, Quadruples}
use Rattle.bn_table.specs.Rows.{Named}
use Rattle.bn_bennett_laws.specs.List.{symbols_of}
use Rattle.bn_bennett.specs.Translation.{IsTranslation, Translation}
use Rattle.bn_network.specs.Controls.{ControlState, IsNumbering, Occurs, is_begin, is_end, is_open, is_read, is_shift}
use Rattle.bn_network.specs.Controls.{is_write, lines_before}
use Rattle.bn_network.specs.Controls as control
use Rattle.bn_network.proofs.OccurringLemmas.{order_one}
use Rattle.bn_network.proofs.RangeLemmas.{rule_in_range}
use Rattle.bn_control.specs.declared.name.StateName.{StateName}
use Rattle.bn_control.specs.declared.name.StateName.TheVariants.{Begin, End, Reads, Shifts, Writes}
use Rattle.bn_control.specs.Names.{listed, state_of}
use Rattle.bn_boards.specs.Flats.{Flat, IsAccepted}
use Rattle.bn_boards.specs.Layouts.{lines_at}
use Rattle.bn_boards.proofs.ClosedLemmas.{read_off}
use Rattle.bn_board.specs.Flattened.{Flattened}
use Rattle.bn_reply_boards.specs.Opened.{IsMade}
use Rattle.bn_reply_boards.proofs.PieceLemmas.{four_pieces}
use Rattle.bn_reply_layout.specs.Modules.{shape}
use Rattle.bn_reply_layout.specs.ModuleText.{module_lines}
use Rattle.bn_reply_layout.specs.ControlText.{column_lines, control_line_line, state_names}
use Rattle.bn_reply_layout.specs.CellText.{tape_lines}
use Rattle.bn_reply_layout.specs.LayoutText.{layout_text}
use Rattle.bn_reply_layout.specs.Made.{HasFewStates, HasNumbers, HasStateName}

-- ---- the states that names name

read_from : (m : Quadruples) → IsQuadMachine m → (a : ℕ) (s : List ℕ) → Occurs m (control.Reads a s) → a < m.states
read_from m is a s (is_begin e) = absurd (cc)
read_from m is a s (is_end e) = absurd (cc)
read_from m is a s (is_open b low other none e) = let same : a ≡ b = cc in omega arith
read_from m is a s (is_read n r here before rest p split e) = let same : a ≡ r.from = cc in let low =
    (rule_in_range m is n r here).from in omega arith
read_from m is a s (is_shift n r here before rest p split e) = absurd (cc)
read_from m is a s (is_write n r here before rest p split e) = absurd (cc)

written_to : (m : Quadruples) → IsQuadMachine m → (a t : ℕ) (s : List ℕ) → Occurs m (control.Writes a t s)
    → a < m.states
written_to m is a t s (is_begin e) = absurd (cc)
written_to m is a t s (is_end e) = absurd (cc)
written_to m is a t s (is_open b low other none e) = absurd (cc)
written_to m is a t s (is_read n r here before rest p split e) = absurd (cc)
written_to m is a t s (is_shift n r here before rest p split e) = absurd (cc)
written_to m is a t s (is_write n r here before rest p split e) = let same : a ≡ r.to = cc in let low =
    (rule_in_range m is n r here).to in omega arith

has_name : (m : Quadruples) (count : ℕ) → IsQuadMachine m → m.states ≡ count → (x : StateName) → Occurs m (state_of x)
    → HasStateName count x
has_name m count is same Begin h = tt
has_name m count is same End h = tt
has_name m count is same (Reads a n s) h = let low = read_from m is a (listed s) h in omega arith
has_name m count is same (Shifts n t) h = tt
has_name m count is same (Writes a t s) h = let low = written_to m is a t.0 (listed s) h in omega arith

pub all_named : (m : Quadruples) (count : ℕ) (ss : List StateName) → IsQuadMachine m → m.states ≡ count
    → IsNumbering m (map state_of ss) → All (HasStateName count) ss
all_named m count ss is same numbering = λ k d inside.
    let here = slice_get-get_or ss k d inside in
    let there = slice_get-map state_of ss k ∙ ap (option_map state_of) here in
    has_name m count is same (get_or ss k d) (numbering.only k (state_of (get_or ss k d)) there)

-- ---- the text

pub joined_text : (t : Named) (m : Translation) (l : Limits) (f : Flat) (names : List (List ℕ))
    (states : List ControlState) (z h n : ℕ) (t0 t1 t2 t3 t4 : List ℕ)
    → IsTranslation t.machine m → HasNumbers f m l → IsNumbering m.machine states → names ≡ state_names m
    → z ≡ t.machine.symbols → h ≡ length t.machine.quints + 1
    → n ≡ length states → t0 ≡ [] → t1 ≡ t0 ++ module_lines (shape l (z ∷ h ∷ z ∷ []) n)
    → t2 ≡ t1 ++ column_lines names 0 states
    → t3 ≡ t2 ++ flat_map (control_line_line (symbols_of t.machine))
    (range_with_len 0 (lines_before (symbols_of t.machine) 3)) → t4 ≡ t3 ++ tape_lines t (symbols_of t.machine)
    → t4 ≡ layout_text t f.translation f.layout f.names
joined_text t m l f names states z h n t0 t1 t2 t3 t4 translates has numbering named letters history count e0 e1 e2 e3
    e4 =
    let numbers : z ∷ h ∷ z ∷ [] ≡ symbols_of t.machine = λ i. letters i ∷ history i ∷ letters i ∷ [] in
    let symbols : f.layout.symbols ≡ symbols_of t.machine = has.symbols ∙ translates.symbols in
    let back : z ∷ h ∷ z ∷ [] ≡ f.layout.symbols = numbers ∙ sym symbols in
    let one : states ≡ f.names = order_one m.machine states f.names numbering has.numbering in
    let many : n ≡ f.layout.states = count ∙ ap (λ (l : List ControlState). length l) one ∙ sym has.states in
    let limits : l ≡ f.layout.limits = sym has.limits in
    let texts : names ≡ state_names f.translation = named ∙ ap state_names (sym has.translation) in
    let modules : module_lines (shape l (z ∷ h ∷ z ∷ []) n) ≡ module_lines f.layout =
    λ i. module_lines (shape (limits i) (back i) (many i)) in
    let columns : column_lines names 0 states ≡ column_lines (state_names f.translation) 0 f.names =
    λ i. column_lines (texts i) 0 (one i) in
    let rows = λ (v : List ℕ). flat_map (control_line_line v) (range_with_len 0 (lines_before v 3)) in
    let a1 = e1 ∙ ap (λ x. t0 ++ x) modules in
    let a2 = e2 ∙ ap (λ x. t1 ++ x) columns in
    let a3 = e3 ∙ ap (λ (v : List ℕ). t2 ++ flat_map (control_line_line v) (range_with_len 0 (lines_before v 3)))
    (sym symbols) in
    let a4 = e4 ∙ ap (λ v. t3 ++ tape_lines t v) (sym symbols) in
    four_pieces t0 (module_lines f.layout) (column_lines (state_names f.translation) 0 f.names)
    (flat_map (control_line_line f.layout.symbols) (range_with_len 0 (lines_at f.layout)))
    (tape_lines t f.layout.symbols) t1 t2 t3 t4 a1 a2 a3 a4
    ∙ ap (λ x. x ++ layout_text t f.translation f.layout f.names) e0

-- ---- a board that is there

module _ (t : Named) (l : Limits) (symbols : List ℕ) (f : Flat) (m : Translation) (b : Flattened)
    (made : IsMade t.machine l symbols f m b) where
  pub translates : IsTranslation t.machine m
  translates = subst (IsTranslation t.machine) made.translation made.comes.flat.translation

  pub has_numbers : HasNumbers f m l
  has_numbers =
      let flat = made.comes.flat in
      record {
        translation = made.translation;
        numbering = subst (λ (x : Translation). IsNumbering x.machine f.names) made.translation flat.numbering;
        limits = flat.is_layout.limits;
        symbols = flat.is_layout.symbols ∙ ap (λ (x : Translation). x.machine.symbols) made.translation;
        states = flat.is_layout.states;
      }

  pub few_states : IsAccepted t.machine symbols l f → HasFewStates m
  few_states accepted names numbering =
      let one : names ≡ f.names = order_one m.machine names f.names numbering has_numbers.numbering in
      let count : length names ≡ length f.names = ap (λ (x : List ControlState). length x) one in
      let whole = (read_off t.machine symbols l f made.comes.flat accepted).1.whole in
      let few = made.comes.few in
      omega arith

-- A translation meets what is asked of a machine that is assembled, and what is assembled and flattened is the board.
use Rattle.std.specs.Prelude.{◌≡◌, ◌≢◌, ℕ, ◌+◌, ◌*◌, ◌<◌, ◌≤◌, List, [], ◌∷◌, All, length, Result, Ok, Err, IfOk, refl}
use Rattle.std.proofs.Common.{zero, suc, arith, sym, ap, subst, ◌∙◌}
use Rattle.std.proofs.lemmas.List.{length-map, length-replicate}
use Rattle.bn_lists.specs.declared.memory.NoMemory.{NoMemory as WantOfMemory}
use Rattle.bn_circuits.specs.Circuits.{Circuit}
use Rattle.bn_circuits.specs.declared.line.Line.{Line}
use Rattle.bn_circuits.specs.declared.place.Place.TheVariants.{Enter, Left}
use Rattle.bn_element.specs.Rotary.{rotary}
use Rattle.bn_element.specs.declared.rotary.Rotary.{Rotary}
use Rattle.bn_circuits.specs.Parts.{Parts}
use Rattle.bn_circuits.specs.RotaryNets.{rotary_circuit}
use Rattle.bn_machine.specs.Machine.{Program, IsMachine}
use Rattle.bn_machine.specs.Outcome.{Limits}
use Rattle.bn_bennett.specs.Translation.{Translation, IsTranslation}
use Rattle.bn_table.specs.Rows.{FitsTable, Named}
use Rattle.bn_circuits.specs.declared.net.TheConstants.{MOST_ELEMENTS}
use Rattle.bn_quad.specs.Quadruples.{Configuration, Quadruples}
use Rattle.bn_network.specs.Controls.{ControlState, symbol_count}
use Rattle.bn_network.specs.Starts.{start_from, words_on}
use Rattle.bn_control.specs.Controlled.{IsWithinLimits}
use Rattle.bn_boards.specs.Boards.{IsBoard, size, board_start}
use Rattle.bn_boards.specs.Layouts.{IsLayout}
use Rattle.bn_boards.specs.Flats.{Flat, IsFlatOf}
use Rattle.bn_bennett.proofs.Machines.{some_symbols}
use Rattle.bn_network_assembly.specs.Assembled as assembled
use Rattle.bn_network_assembly.specs.Assembled.{Assembled, IsAssembledFrom, IsWordOf, network_of}
use Rattle.bn_board.specs.Flattened.{Flattened, IsFlattened, IsBoardKept}
use Rattle.bn_reply.specs.Words.{IsLetterSymbol}
use Rattle.bn_reply_relations.specs.Windows.{CountsElements}
use Rattle.bn_reply_boards.specs.Opened.{IsBoardFor, IsMade, IsOpenedBoard, IsOpenedWindow}
use Rattle.bn_reply_boards.specs.declared.opening.OpenedWindow.{OpenedWindow}
use Rattle.bn_reply_boards.specs.declared.opening.OpenedWindow.TheVariants as windows

-- three numbers with a property have it all
all_three : (P : ℕ → Type 0) (x y z : ℕ) → P x → P y → P z → All P (x ∷ y ∷ z ∷ [])
all_three P x y z first second third zero d low = first
all_three P x y z first second third (suc zero) d low = second
all_three P x y z first second third (suc (suc zero)) d low = third
all_three P x y z first second third (suc (suc (suc k))) d low = absurd (omega arith)

-- the machine of a translation is within the limits of controls
pub within_limits : (p : Program) (t : Translation) → IsMachine p → FitsTable p → IsTranslation p t
    → t.machine.states ≡ 2 * p.states + 2 * length p.quints + 4
    → length t.machine.rules ≡ 4 * length p.quints + 2 * p.symbols + 3 → IsWithinLimits t.machine
within_limits p t machine fits is states rules =
    let some = some_symbols p machine in
    let few = fits.symbols in
    let quints = fits.quints in
    let names = fits.states in
    record {
      quadruples = omega arith;
      states = omega arith;
      some_symbols = subst (λ zs. All (λ z. 1 ≤ z) zs) (sym is.symbols)
          (all_three (λ z. 1 ≤ z) p.symbols (length p.quints + 1) p.symbols (omega arith) (omega arith) (omega arith));
      few_symbols = subst (λ zs. All (λ z. z ≤ 4001) zs) (sym is.symbols)
          (all_three (λ z. z ≤ 4001) p.symbols (length p.quints + 1) p.symbols (omega arith) (omega arith)
          (omega arith));
    }

-- a word of a table's letters is one of the translation's first tape
pub word_of : (t : Named) (m : Translation) (symbols : List ℕ) → t.machine.symbols ≡ length t.letters
    → IsTranslation t.machine m → All (IsLetterSymbol t) symbols
    → IsWordOf m.machine symbols
word_of t m symbols count is all k d low =
    let letter = all k d low in
    let first : symbol_count m.machine 1 ≡ t.machine.symbols =
    ap (λ zs. symbol_count (record { rules = m.machine.rules; states = m.machine.states; symbols = zs }) 1)
    is.symbols in
    let apart = letter.letter in
    let known = letter.known in
    (positive _ apart, omega arith)
  where
    positive : (n : ℕ) → n ≢ 0 → 0 < n
    positive zero h = absurd (h refl)
    positive (suc n) h = omega arith

-- the count of a refusal is that of the machine's boards
pub counted : (p : Program) (t : Translation) (l : Limits) (count : ℕ) → IsTranslation p t
    → assembled.CountsElements t.machine l count → CountsElements p l count
counted p t l count is h = record { translation = t; names = h.0; translates = is; numbering = h.1; is = h.2 }

-- the number of elements of a board
pub elements_are : (n : Circuit) (net : Parts Rotary) → IsBoard n (rotary_circuit net)
    → length net.elements ≡ size n.tables
elements_are n net board =
    sym (length-map net.elements (λ _. rotary)) ∙ ap (λ ts. length ts) board.tables
    ∙ length-replicate (size n.tables) rotary

-- what is assembled and flattened is the machine's board
module _ (m : Quadruples) (l : Limits) (c : Configuration ℕ) (a : Assembled) (b : Flattened) (names : List ControlState)
    (is_assembled : IsAssembledFrom m l c names a) (flat : IsFlattened a b) (kept : IsBoardKept b) where
  in_limits : IsAssembledFrom m a.limits c names a
  in_limits = subst (λ w. IsAssembledFrom m w c names a) (sym is_assembled.limits) is_assembled

  few_elements : size (network_of a).tables ≤ MOST_ELEMENTS
  few_elements =
      let count = elements_are (network_of a) b.net flat.board in
      let few = kept.layout.few_elements in
      let same = kept.elements in
      omega arith

  pub board_for : IsBoardFor m l c names (network_of a) b
  board_for = record {
    numbering = is_assembled.is_control.numbering;
    is_network = is_assembled.network;
    is_board = flat.board;
    is_layout = subst (λ w. IsLayout m w names b.layout) is_assembled.limits (flat.layout m c names in_limits);
    few = few_elements;
    config = subst (λ w. b.config ≡ board_start (network_of a).tables (start_from m w c)) is_assembled.limits
        (flat.config m c names in_limits);
    start = flat.start;
    end = flat.end;
    kept = kept;
  }

-- so is that of a translation
module _ (p : Program) (l : Limits) (symbols : List ℕ) (t : Translation) (is : IsTranslation p t)
    (fits : length symbols ≤ l.right) where
  module _ (b : Flattened) (names : List ControlState) (network : Circuit)
      (h : IsBoardFor t.machine l (words_on t.machine symbols [] []) names network b) where
    abbrev as_flat : Flat
    as_flat = record {
      translation = t;
      limits = l;
      word = symbols;
      names = names;
      network = network;
      circuit = rotary_circuit b.net;
      layout = b.layout;
    }

    is_flat : IsFlatOf p symbols l as_flat
    is_flat = record {
      translation = is;
      word_is = refl;
      limits_are = refl;
      numbering = h.numbering;
      is_network = h.is_network;
      is_board = h.is_board;
      is_layout = h.is_layout;
    }

    is_made : IsMade p l symbols as_flat t b
    is_made = record {
      comes = record { fits = fits; flat = is_flat; few = h.few };
      translation = refl;
      circuit = refl;
      layout = refl;
      config = h.config;
      start = ap (λ (x : Line). Enter x.element x.line) h.start;
      end = ap (λ (x : Line). Left x.element x.line) h.end;
      kept = h.kept;
    }

  window_is : (opened : OpenedWindow) → IsOpenedBoard t.machine l (words_on t.machine symbols [] []) opened
      → IsOpenedWindow p l symbols t opened
  window_is (windows.Made b) h = (as_flat b h.0 h.1 h.2, is_made b h.0 h.1 h.2)
  window_is (windows.Refused reply) h = record {
    count = h.count;
    counts = counted p t l h.count is h.counts;
    great = h.great;
    text = h.text;
    status = h.status;
  }

pub window_opened : (l : Limits) (symbols : List ℕ) (t : Translation) → length symbols ≤ l.right
    → (r : Result OpenedWindow WantOfMemory) → IfOk r (IsOpenedBoard t.machine l (words_on t.machine symbols [] []))
    → IfOk r (λ opened. (p : Program) → IsTranslation p t → IsOpenedWindow p l symbols t opened)
window_opened l symbols t fits (Ok opened) h = λ p is. window_is p l symbols t is fits opened h
window_opened l symbols t fits (Err e) h = tt

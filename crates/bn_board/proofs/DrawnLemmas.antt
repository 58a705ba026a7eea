-- A board's wires as they are drawn, in the words of this crate.
use Rattle.std.specs.Prelude.{◌≡◌, ℕ, ◌+◌, ◌<◌, ◌≤◌, slice_index_or, List, [], ◌∷◌, ◌++◌, length, Some, None, slice_get}
use Rattle.std.specs.Prelude.{refl}
use Rattle.std.proofs.Common.{zero, suc, sym, subst}
use Rattle.bn_circuits.specs.Circuits.{line_at, target}
use Rattle.bn_circuits.specs.declared.line.Line.{Line}
use Rattle.bn_circuits.specs.declared.line.Wire.{Wire}
use Rattle.bn_circuits.specs.Parts.{Parts}
use Rattle.bn_circuits.specs.Wirings.{AreApart, AreFitting, AreWiresOf}
use Rattle.bn_circuits.proofs.WiringsLemmas.{apart-wire}
use Rattle.bn_packed.specs.Drafts.{AreDrawn}
use Rattle.bn_packed.specs.Ends.{EndList}
use Rattle.bn_realise.specs.Banks.{IsBankWire}
use Rattle.bn_boards.specs.Boards.{AreModules, IsBoardWire, own, between, base, size}
use Rattle.bn_boards.proofs.ListedLemmas.{within}
use Rattle.bn_network_assembly.specs.Modules.{module_table}
use Rattle.bn_network_assembly.specs.declared.module.Module.{Module}
use Rattle.bn_board.specs.BoardWires.{AreBases, IsBetween, IsDrawn, IsOwnWire, IsWireBefore, module_circuit}
use Rattle.bn_board.proofs.WireLemmas.{all_wired, base_of, line_added, line_skipped, module_at, module_ended, no_own}
use Rattle.bn_board.proofs.WireLemmas.{own_added, owned}

-- what is drawn of a list is drawn of it behind others, from which it stays apart
abbrev pub IsAdded : EndList → List Wire → EndList → Type 0
IsAdded old vs new = (ws : List Wire) → AreDrawn old.elements ws old → AreApart (ws ++ vs)
    → AreDrawn old.elements (ws ++ vs) new

-- the same wires, by another relation
drawn_as : (One Other : Line → Line → Type 0) (count : ℕ) (draft : EndList) → (d : IsDrawn One count draft)
    → AreWiresOf Other d.wires → IsDrawn Other count draft
drawn_as One Other count draft d are = record { wires = d.wires; drawn = d.drawn; are = are }

-- with more wires
drawn_more : (One Other : Line → Line → Type 0) (count : ℕ) (old new : EndList) (vs : List Wire)
    → (d : IsDrawn One count old) → AreWiresOf Other (d.wires ++ vs) → IsAdded old vs new → IsDrawn Other count new
drawn_more One Other count old new vs d are added =
    let elements = d.drawn.ends.elements in
    record {
      wires = d.wires ++ vs;
      drawn = subst (λ n. AreDrawn n (d.wires ++ vs) new) elements
          (added d.wires (subst (λ n. AreDrawn n d.wires old) (sym elements) d.drawn) are.apart);
      are = are;
    }

-- wires that fit the board fit a draft of it
fitting-drawn : (Leads : Line → Line → Type 0) (count : ℕ) (old : EndList) (vs : List Wire) → IsDrawn Leads count old
    → AreFitting count vs → AreFitting old.elements vs
fitting-drawn Leads count old vs d fitting = subst (λ n. AreFitting n vs) (sym d.drawn.ends.elements) fitting

module _ (net : Parts Module) (bases : List ℕ) (most : ℕ) (modules : AreModules (module_circuit net))
    (few : size (module_circuit net).tables ≤ most)
    (are : AreBases (module_circuit net).tables bases) where
  -- a board's wire leads from one of its lines to one
  board_fitting : (w : Wire) → IsBoardWire (module_circuit net) w.from w.to
      → (w.from.element < size (module_circuit net).tables) × (w.from.line < 4)
      × (w.to.element < size (module_circuit net).tables) × (w.to.line < 4)
  board_fitting w is =
      let lines = within (module_circuit net) modules w.from w.to is in
      (lines.from_element, lines.from_line, lines.to_element, lines.to_line)

  bank_fitting : (m : ℕ) (x : Module) (bs : List Wire) → slice_get net.elements m ≡ Some x
      → AreWiresOf (IsBankWire (slice_index_or bases m 0) (module_table x)) bs
      → AreFitting (size (module_circuit net).tables) bs
  bank_fitting m x bs is bank = record {
    fits = λ i w h.
        let wire : IsBankWire (base (module_circuit net).tables m) (module_table x) w.from w.to =
        subst (λ b. IsBankWire b (module_table x) w.from w.to) (base_of net bases most modules few are m x is)
        (bank.sound w.from w.to (apart-wire bs i w bank.apart h)) in
        board_fitting w (own m (module_table x) (module_at net m most x modules few is).has wire);
  }

  between_fitting : (m o : ℕ) (x : Module) (to : Line) (w : Wire) → slice_get net.elements m ≡ Some x
      → target net.wires (line_at m o) ≡ Some to
      → IsBetween (module_circuit net) m o to w → AreFitting (size (module_circuit net).tables) (w ∷ [])
  between_fitting m o x to w is leads wire =
      let has = (module_at net m most x modules few is).has in
      let on_board : IsBoardWire (module_circuit net) w.from w.to =
      subst (λ (v : Wire). IsBoardWire (module_circuit net) v.from v.to) (sym (wire.wire (module_table x) has))
      (between (line_at m o) to (module_table x) leads has refl refl) in
      record { fits = each on_board }
    where
      each : IsBoardWire (module_circuit net) w.from w.to → (i : ℕ) (v : Wire) → slice_get (w ∷ []) i ≡ Some v
          → (v.from.element < size (module_circuit net).tables) × (v.from.line < 4)
          × (v.to.element < size (module_circuit net).tables) × (v.to.line < 4)
      each on_board zero v h =
          let same : w ≡ v = cc in
          subst (λ (u : Wire). (u.from.element < size (module_circuit net).tables) × (u.from.line < 4)
          × (u.to.element < size (module_circuit
          net).tables) × (u.to.line < 4)) same (board_fitting w on_board)
      each on_board (suc i) v h = absurd (cc)

  -- a draft with no wire
  pub none_drawn : (count : ℕ) (draft : EndList) → count ≡ size (module_circuit net).tables → AreDrawn count [] draft
      → IsDrawn (IsOwnWire (module_circuit net) 0) (size (module_circuit net).tables) draft
  none_drawn count draft same drawn = record {
    wires = [];
    drawn = subst (λ n. AreDrawn n [] draft) same drawn;
    are = no_own (module_circuit net) modules;
  }

  -- a bank's own wires fit, and are drawn behind those of the earlier ones
  pub bank-AreFitting : (m : ℕ) (x : Module) (old : EndList) (bs : List Wire) → slice_get net.elements m ≡ Some x
      → IsDrawn (IsOwnWire (module_circuit net) m) (size (module_circuit net).tables) old
      → AreWiresOf (IsBankWire (slice_index_or bases m 0) (module_table x)) bs → AreFitting old.elements bs
  bank-AreFitting m x old bs is before bank =
      fitting-drawn (IsOwnWire (module_circuit net) m) (size (module_circuit net).tables) old bs before
      (bank_fitting m x bs is bank)

  pub bank_drawn : (m : ℕ) (x : Module) (old new : EndList) (bs : List Wire) → slice_get net.elements m ≡ Some x
      → IsDrawn (IsOwnWire (module_circuit net) m) (size (module_circuit net).tables) old
      → AreWiresOf (IsBankWire (slice_index_or bases m 0) (module_table x)) bs → IsAdded old bs new
      → IsDrawn (IsOwnWire (module_circuit net) (m + 1)) (size (module_circuit net).tables) new
  bank_drawn m x old new bs is before bank added =
      drawn_more (IsOwnWire (module_circuit net) m) (IsOwnWire (module_circuit net) (m + 1))
      (size (module_circuit net).tables) old new bs before
      (own_added net bases most modules few are m x before.wires bs is before.are bank) added

  -- all of them are the first wires of the board
  pub all_banks_drawn : (m : ℕ) (draft : EndList) → m ≡ length net.elements
      → IsDrawn (IsOwnWire (module_circuit net) m) (size (module_circuit net).tables) draft
      → IsDrawn (IsWireBefore (module_circuit net) 0 0) (size (module_circuit net).tables) draft
  all_banks_drawn m draft all so =
      drawn_as (IsOwnWire (module_circuit net) m) (IsWireBefore (module_circuit net) 0 0)
      (size (module_circuit net).tables) draft so
      (owned net bases most modules few are m so.wires all so.are)

  -- after a line that no wire leaves, and after one that a wire leaves
  pub skip_drawn : (m o : ℕ) (draft : EndList) → target net.wires (line_at m o) ≡ None
      → IsDrawn (IsWireBefore (module_circuit net) m o) (size (module_circuit net).tables) draft
      → IsDrawn (IsWireBefore (module_circuit net) m (o + 1)) (size (module_circuit net).tables) draft
  skip_drawn m o draft none so =
      drawn_as (IsWireBefore (module_circuit net) m o) (IsWireBefore (module_circuit net) m (o + 1))
      (size (module_circuit net).tables) draft so
      (line_skipped net bases most modules few are m o so.wires none so.are)

  pub between-AreFitting : (m o : ℕ) (x : Module) (to : Line) (w : Wire) (old : EndList)
      → slice_get net.elements m ≡ Some x
      → target net.wires (line_at m o) ≡ Some to → IsBetween (module_circuit net) m o to w
      → IsDrawn (IsWireBefore (module_circuit net) m o) (size (module_circuit net).tables) old
      → AreFitting old.elements (w ∷ [])
  between-AreFitting m o x to w old is leads wire so =
      fitting-drawn (IsWireBefore (module_circuit net) m o) (size (module_circuit net).tables) old (w ∷ []) so
      (between_fitting m o x to w is leads wire)

  pub between_drawn : (m o : ℕ) (x : Module) (to : Line) (w : Wire) (old new : EndList)
      → slice_get net.elements m ≡ Some x
      → target net.wires (line_at m o) ≡ Some to → IsBetween (module_circuit net) m o to w
      → IsDrawn (IsWireBefore (module_circuit net) m o) (size (module_circuit net).tables) old
      → IsAdded old (w ∷ []) new
      → IsDrawn (IsWireBefore (module_circuit net) m (o + 1)) (size (module_circuit net).tables) new
  between_drawn m o x to w old new is leads wire so added =
      drawn_more (IsWireBefore (module_circuit net) m o) (IsWireBefore (module_circuit net) m (o + 1))
      (size (module_circuit net).tables) old new
      (w ∷ []) so (line_added net bases most modules few are m o x to w so.wires is leads wire so.are) added

  -- after a module's last line, and after the last module
  pub module_drawn : (m o : ℕ) (x : Module) (draft : EndList) → slice_get net.elements m ≡ Some x
      → (module_table x).outputs ≤ o
      → IsDrawn (IsWireBefore (module_circuit net) m o) (size (module_circuit net).tables) draft
      → IsDrawn (IsWireBefore (module_circuit net) (m + 1) 0) (size (module_circuit net).tables) draft
  module_drawn m o x draft is past so =
      drawn_as (IsWireBefore (module_circuit net) m o) (IsWireBefore (module_circuit net) (m + 1) 0)
      (size (module_circuit net).tables) draft so
      (module_ended net bases most modules few are m o x so.wires is past so.are)

  pub board_drawn : (m : ℕ) (draft : EndList) → m ≡ length net.elements
      → IsDrawn (IsWireBefore (module_circuit net) m 0) (size (module_circuit net).tables) draft
      → IsDrawn (IsBoardWire (module_circuit net)) (size (module_circuit net).tables) draft
  board_drawn m draft all so =
      drawn_as (IsWireBefore (module_circuit net) m 0) (IsBoardWire (module_circuit net))
      (size (module_circuit net).tables) draft so
      (all_wired net bases most modules few are m so.wires all so.are)

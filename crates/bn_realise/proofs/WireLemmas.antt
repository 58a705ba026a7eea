-- What a row and a column add to the wires of a bank.
use Rattle.std.proofs.Common.{◌≡◌, ℕ, ◌+◌, ◌*◌, ◌^◌, ◌<◌, ◌≤◌, List, [], ◌∷◌, ◌++◌, length, Some, slice_get, refl, sym}
use Rattle.std.proofs.Common.{ap, subst, ◌∙◌, arith}
use Rattle.bn_element.specs.Tables.{Table, IsReversible}
use Rattle.bn_circuits.specs.declared.line.Wire.{Wire}
use Rattle.bn_element.specs.Rotary.{east, west}
use Rattle.std.proofs.lemmas.List.{length-append}
use Rattle.bn_column.specs.Columns.{IsInner}
use Rattle.bn_circuits.specs.Wirings.{AreWiresOf, AreFitting}
use Rattle.bn_circuits.proofs.WiringsLemmas.{apart-wire}
use Rattle.bn_column.specs.Nets.{wire_of}
use Rattle.bn_circuits.specs.RotaryNets.{IsNetOf}
use Rattle.bn_circuits.proofs.RotaryNetLemmas.{rotary-table_at}
use Rattle.bn_element.specs.declared.rotary.Rotary.{Rotary}
use Rattle.bn_circuits.specs.Parts.{Parts}
use Rattle.bn_realise.specs.Banks.{column_at, IsBankWire}
use Rattle.bn_realise.proofs.BankCrossingLemmas.{later_column}
use Rattle.bn_realise.specs.BankWires.{IsEarlier, IsStage, IsHalf}
use Rattle.bn_realise.proofs.BankWiresLemmas.{half_with, stage_with, stage_begins, bank_wire-IsWithinLines}
use Rattle.bn_realise.specs.BankNets.{HasRoom, IsBankNet}

-- the elements of a bank are below 2^32
pub place_fits : (b j x : ℕ) (t : Table) → HasRoom b t → j < t.states → x ≤ t.inputs
    → column_at b t.inputs j + x < 2 ^ 32
place_fits b j x t room there low =
    let last = later_column b t.inputs j t.states there in
    omega (arith, room.fits)

pub half_pushed : (b : ℕ) (t : Table) (rows j i x y : ℕ) (ws ms : List Wire) (w : Wire) → IsReversible t → HasRoom b t
    → rows ≡ t.inputs → j + 1 < t.states → i < t.inputs → x ≡ column_at b rows j + i → y ≡ column_at b rows (j + 1) + i
    → w ≡ wire_of x east y west → ms ≡ ws ++ w ∷ [] → AreWiresOf (IsStage b t j i) ws → AreWiresOf (IsHalf b t j i) ms
half_pushed b t rows j i x y ws ms w reversible room all next row is_x is_y is_w is_ms are =
    let from : x ≡ column_at b t.inputs j + i = is_x ∙ ap (λ r. column_at b r j + i) all in
    let to : y ≡ column_at b t.inputs (j + 1) + i = is_y ∙ ap (λ r. column_at b r (j + 1) + i) all in
    let wire : w ≡ wire_of (column_at b t.inputs j + i) east (column_at b t.inputs (j + 1) + i) west =
    is_w ∙ ap (λ e. wire_of e east y west) from ∙ ap (λ e. wire_of (column_at b t.inputs j + i) east e west) to in
    let list : ms ≡ ws ++ wire_of (column_at b t.inputs j + i) east (column_at b t.inputs (j + 1) + i) west ∷ [] =
    is_ms ∙ ap (λ v. ws ++ v ∷ []) wire in
    subst (AreWiresOf (IsHalf b t j i)) (sym list) (half_with b t reversible room.square room.some_lines j i ws next row
    are)

pub stage_pushed : (b : ℕ) (t : Table) (rows j i r o x y : ℕ) (ws ms : List Wire) (w : Wire) → IsReversible t
    → HasRoom b t → rows ≡ t.inputs → j < t.states → i < t.inputs → t.go j i ≡ Some (r, o) → x ≡ column_at b rows j + i
    → y ≡ column_at b rows r + o → w ≡ wire_of x west y east → ms ≡ ws ++ w ∷ [] → AreWiresOf (IsHalf b t j i) ws
    → AreWiresOf (IsStage b t j (i + 1)) ms
stage_pushed b t rows j i r o x y ws ms w reversible room all there row goes is_x is_y is_w is_ms are =
    let from : x ≡ column_at b t.inputs j + i = is_x ∙ ap (λ k. column_at b k j + i) all in
    let to : y ≡ column_at b t.inputs r + o = is_y ∙ ap (λ k. column_at b k r + o) all in
    let wire : w ≡ wire_of (column_at b t.inputs j + i) west (column_at b t.inputs r + o) east =
    is_w ∙ ap (λ e. wire_of e west y east) from ∙ ap (λ e. wire_of (column_at b t.inputs j + i) west e east) to in
    let list : ms ≡ ws ++ wire_of (column_at b t.inputs j + i) west (column_at b t.inputs r + o) east ∷ [] =
    is_ms ∙ ap (λ v. ws ++ v ∷ []) wire in
    subst (AreWiresOf (IsStage b t j (i + 1))) (sym list) (stage_with b t reversible room.square room.some_lines j i r o
    ws there row goes are)

-- a move leads to a row of the bank
pub target_fits : (b rows q i r o : ℕ) (t : Table) → IsReversible t → HasRoom b t → rows ≡ t.inputs
    → t.go q i ≡ Some (r, o) → column_at b rows r + o < 2 ^ 32
target_fits b rows q i r o t reversible room all goes =
    let arrives = reversible.arrives q i r o goes in
    let square : t.outputs ≡ t.inputs = room.square in
    let out : o ≤ t.inputs = omega (arith, arrives.1) in
    subst (λ k. column_at b k r + o < 2 ^ 32) (sym all) (place_fits b r o t room arrives.0 out)

-- a column begins with its inner wires
pub column_begun : (b : ℕ) (t : Table) (rows j base : ℕ) (ws more ms : List Wire) → IsReversible t → HasRoom b t
    → rows ≡ t.inputs → j < t.states → base ≡ column_at b rows j + 0 → ms ≡ ws ++ more → AreWiresOf (IsEarlier b t j) ws
    → AreWiresOf (IsInner base rows) more → AreWiresOf (IsStage b t j 0) ms
column_begun b t rows j base ws more ms reversible room all there is_base is_ms are inners =
    let place : column_at b rows j + 0 ≡ column_at b rows j = omega arith in
    let at_base : base ≡ column_at b t.inputs j = is_base ∙ place ∙ ap (λ k. column_at b k j) all in
    let inner : AreWiresOf (IsInner (column_at b t.inputs j) t.inputs) more =
    subst (λ k. AreWiresOf (IsInner (column_at b t.inputs j) k) more) all
    (subst (λ e. AreWiresOf (IsInner e rows) more) at_base inners) in
    subst (AreWiresOf (IsStage b t j 0)) (sym is_ms) (stage_begins b t reversible room.square room.some_lines j ws more
    there are inner)

pub begun_count : (ms ws more : List Wire) (rows : ℕ) → ms ≡ ws ++ more → length more ≡ 2 * rows + 3
    → length ms ≤ length ws + (2 * rows + 3) + 0
begun_count ms ws more rows is count = (let all = ap length is in let sum = length-append ws more in omega arith)

-- ---- a net with the wires of a bank is that bank

pub bank-AreFitting : (t : Table) (n k : ℕ) (ws : List Wire) → IsReversible t → t.outputs ≡ t.inputs → n ≡ t.states
    → k ≡ t.inputs → AreWiresOf (IsBankWire 0 t) ws → AreFitting (n * (k + 1)) ws
bank-AreFitting t n k ws reversible square states lines are = record { fits = fits }
  where
    count : n * (k + 1) ≡ t.states * (t.inputs + 1)
    count = rw (states, lines) refl

    fits : (x : ℕ) (w : Wire) → slice_get ws x ≡ Some w → (w.from.element < n * (k + 1)) × (w.from.line < 4)
        × (w.to.element < n * (k + 1)) × (w.to.line < 4)
    fits x w h =
        let inside = bank_wire-IsWithinLines 0 t reversible square w.from w.to
        (are.sound w.from w.to (apart-wire ws x w are.apart h)) in
        (omega (arith, inside.from_high, count), inside.from_line, omega (arith, inside.to_high, count), inside.to_line)

pub net-IsBankNet : (net : Parts Rotary) (t : Table) (n k : ℕ) (ws : List Wire) → n ≡ t.states → k ≡ t.inputs
    → AreWiresOf (IsBankWire 0 t) ws → IsNetOf net (n * (k + 1)) ws → IsBankNet net t
net-IsBankNet net t n k ws states lines are is =
    let count : length net.elements ≡ t.states * (t.inputs + 1) = is.elements ∙ rw (states, lines) refl in
    record {
      elements = count;
      bank = record {
        rotaries = λ j x there low. rotary-table_at net.elements (column_at 0 t.inputs j + x)
            (let last = later_column 0 t.inputs j t.states there in omega arith);
        wired = λ from to own. is.targets from ∙ are.complete from to own;
      };
      no_others = λ from to h. are.sound from to (sym (is.targets from) ∙ h);
    }

-- Modules, wires and states that were made one by one are an assembled network.
use Rattle.std.specs.Prelude.{◌≡◌, ℕ, ◌+◌, ◌<◌, ◌≤◌, List, [], ◌∷◌, ◌++◌, All, length, map, replicate, Option, Some}
use Rattle.std.specs.Prelude.{slice_get, refl}
use Rattle.std.proofs.Common.{zero, suc, arith, sym, ap, subst, ◌∙◌, length-append}
use Rattle.std.proofs.lemmas.List.{map-append}
use Rattle.std.proofs.lemmas.List.Elements.{All-head, All-tail}
use Rattle.bn_circuits.specs.Circuits.{target, IsCircuit}
use Rattle.bn_circuits.specs.declared.line.Line.{Line}
use Rattle.bn_circuits.specs.declared.line.Wire.{Wire}
use Rattle.bn_circuits.specs.declared.config.Config.{Config}
use Rattle.bn_circuits.specs.declared.place.Place.TheVariants.{Enter}
use Rattle.bn_circuits.specs.Parts.{Parts, circuit}
use Rattle.bn_rsm.specs.Machines.{machine_table}
use Rattle.bn_circuits.specs.Wirings.{AreWiresOf}
use Rattle.bn_machine.specs.Outcome.{Limits}
use Rattle.bn_quad.specs.Quadruples.{Configuration, Quadruples}
use Rattle.bn_network.specs.Cells.{cell_table}
use Rattle.bn_network.specs.Controls.{ControlState, symbol_count}
use Rattle.bn_network.specs.Networks.{IsTape, IsNetWire, module_tables, cells_in, first_cell, elements_by}
use Rattle.bn_network.specs.Starts.{start_from}
use Rattle.bn_cell.specs.declared.table.CellTable.{CellTable}
use Rattle.bn_control.specs.Controlled.{Controlled, IsControlOf}
use Rattle.bn_network_assembly.specs.WireLists.{network_wires}
use Rattle.bn_network_assembly.proofs.WireLemmas.{network_wires-are}
use Rattle.bn_network_assembly.specs.Modules.{module_table}
use Rattle.bn_network_assembly.specs.Rows.{IsCellFor, AreModules}
use Rattle.bn_network_assembly.specs.Assembled.{IsAssembledFrom}
use Rattle.bn_network_assembly.specs.declared.module.Module.{Module}
use Rattle.bn_network_assembly.specs.declared.module.Module.TheVariants.{Control, Cell}
use Rattle.bn_circuits.specs.declared.net.TheConstants.{MOST_ELEMENTS}

-- ---- rows

get_left : {X : Type 0} (xs ys : List X) (i : ℕ) → i < length xs → slice_get (xs ++ ys) i ≡ slice_get xs i
get_left [] ys i low = absurd (omega arith)
get_left (x ∷ xs) ys zero low = refl
get_left (x ∷ xs) ys (suc i) low = get_left xs ys i (omega arith)

get_right : {X : Type 0} (xs ys : List X) (i j : ℕ) → j ≡ length xs + i → slice_get (xs ++ ys) j ≡ slice_get ys i
get_right [] ys i j e = let same : j ≡ i = omega arith in ap (slice_get ys) same
get_right (x ∷ xs) ys i zero e = absurd (omega arith)
get_right (x ∷ xs) ys i (suc j) e = get_right xs ys i j (omega arith)

row_tables : (z n : ℕ) (row : List Module) → length row ≡ n → All (IsCellFor z) row
    → map module_table row ≡ replicate n (cell_table z)
row_tables z zero [] count cells = refl
row_tables z (suc n) [] count cells = absurd (omega arith)
row_tables z zero (x ∷ row) count cells = absurd (omega arith)
row_tables z (suc n) (x ∷ row) count cells =
    let first = one x (All-head (IsCellFor z) x row cells) in
    let rest = row_tables z n row (omega arith) (All-tail (IsCellFor z) x row cells) in
    λ i. first i ∷ rest i
  where
    one : (x : Module) → IsCellFor z x → module_table x ≡ cell_table z
    one (Control v) h = absurd h
    one (Cell c) h = ap cell_table h

pub record IsCellAt (z : ℕ) (o : Option Module) : Type 0 where
  pub cell : CellTable
  pub is : o ≡ Some (Cell cell)
  pub symbols : cell.symbols ≡ z

row_cell : (z : ℕ) (row : List Module) (i : ℕ) → i < length row → All (IsCellFor z) row → IsCellAt z (slice_get row i)
row_cell z [] i low cells = absurd (omega arith)
row_cell z (x ∷ row) zero low cells = one x (All-head (IsCellFor z) x row cells)
  where
    one : (x : Module) → IsCellFor z x → IsCellAt z (Some x)
    one (Control v) h = absurd h
    one (Cell c) h = record { cell = c; is = refl; symbols = h }
row_cell z (x ∷ row) (suc i) low cells = row_cell z row i (omega arith) (All-tail (IsCellFor z) x row cells)

module _ (m : Quadruples) (l : Limits) (v : Controlled) (items : List Module) (are : AreModules m l v items) where
  one_is : are.one ≡ (Control v ∷ []) ++ are.first.row
  one_is = are.first.is

  two_is : are.two ≡ are.one ++ are.second.row
  two_is = are.second.is

  -- how long the lists are
  one_count : length are.one ≡ 1 + cells_in l 1
  one_count = let count = are.first.count in ap (λ (xs : List Module). length xs) one_is
      ∙ (let e = length-append (Control v ∷ []) are.first.row in omega arith)

  two_count : length are.two ≡ 1 + cells_in l 1 + cells_in l 2
  two_count = let count = are.second.count in let before = one_count in ap (λ (xs : List Module). length xs) two_is
      ∙ (let e = length-append are.one are.second.row in omega arith)

  -- the tables of all modules
  pub tables_are : map module_table items ≡ module_tables m l (machine_table v.machine)
  tables_are =
      ap (map module_table) are.third.is ∙ map-append module_table are.two are.third.row
      ∙ ap (λ ts. ts ++ map module_table are.third.row) (ap (map module_table) two_is
      ∙ map-append module_table are.one are.second.row)
      ∙ ap (λ ts. ts ++ map module_table are.second.row ++ map module_table are.third.row)
      (ap (map module_table) one_is ∙ map-append module_table (Control v ∷ []) are.first.row)
      ∙ (λ i. machine_table v.machine ∷ first i ++ second i ++ third i)
    where
      first : map module_table are.first.row ≡ replicate (cells_in l 1) (cell_table (symbol_count m 1))
      first = row_tables (symbol_count m 1) (cells_in l 1) are.first.row are.first.count are.first.cells

      second : map module_table are.second.row ≡ replicate (cells_in l 2) (cell_table (symbol_count m 2))
      second = row_tables (symbol_count m 2) (cells_in l 2) are.second.row are.second.count are.second.cells

      third : map module_table are.third.row ≡ replicate (cells_in l 3) (cell_table (symbol_count m 3))
      third = row_tables (symbol_count m 3) (cells_in l 3) are.third.row are.third.count are.third.cells

  -- the control, and each cell
  pub control_is : slice_get items 0 ≡ Some (Control v)
  control_is =
      let a = one_count in let b = two_count in
      ap (λ xs. slice_get xs 0) are.third.is ∙ get_left are.two are.third.row 0 (omega arith)
      ∙ ap (λ xs. slice_get xs 0) two_is ∙ get_left are.one are.second.row 0 (omega arith)
      ∙ ap (λ xs. slice_get xs 0) one_is

  found : (t : ℕ) (o : Option Module) (p : Option Module) → o ≡ p → IsCellAt (symbol_count m t) p
      → (c : CellTable) × (o ≡ Some (Cell c)) × (c.symbols ≡ symbol_count m t)
  found t o p same at = (at.cell, same ∙ at.is, at.symbols)

  pub cells_are : (t p : ℕ) → IsTape t → p < cells_in l t → (c : CellTable)
      × (slice_get items (first_cell l t + p) ≡ Some (Cell c)) × (c.symbols ≡ symbol_count m t)
  cells_are zero p tape low = absurd (let some = tape.low in omega arith)
  cells_are (suc zero) p tape low =
      let a = one_count in let b = two_count in let n = are.first.count in
      found 1 (slice_get items (first_cell l 1 + p)) (slice_get are.first.row p)
      (ap (λ xs. slice_get xs (first_cell l 1 + p)) are.third.is
      ∙ get_left are.two are.third.row (first_cell l 1 + p) (omega arith)
      ∙ ap (λ xs. slice_get xs (first_cell l 1 + p)) two_is ∙ get_left are.one are.second.row (first_cell l 1 + p)
      (omega arith)
      ∙ ap (λ xs. slice_get xs (first_cell l 1 + p)) one_is ∙ get_right (Control v ∷ []) are.first.row p
      (first_cell l 1 + p) (omega arith))
      (row_cell (symbol_count m 1) are.first.row p (omega arith) are.first.cells)
  cells_are (suc (suc zero)) p tape low =
      let a = one_count in let b = two_count in let n = are.second.count in
      found 2 (slice_get items (first_cell l 2 + p)) (slice_get are.second.row p)
      (ap (λ xs. slice_get xs (first_cell l 2 + p)) are.third.is
      ∙ get_left are.two are.third.row (first_cell l 2 + p) (omega arith)
      ∙ ap (λ xs. slice_get xs (first_cell l 2 + p)) two_is ∙ get_right are.one are.second.row p (first_cell l 2 + p)
      (omega arith))
      (row_cell (symbol_count m 2) are.second.row p (omega arith) are.second.cells)
  cells_are (suc (suc (suc zero))) p tape low =
      let b = two_count in let n = are.third.count in
      found 3 (slice_get items (first_cell l 3 + p)) (slice_get are.third.row p)
      (ap (λ xs. slice_get xs (first_cell l 3 + p)) are.third.is
      ∙ get_right are.two are.third.row p (first_cell l 3 + p) (omega arith))
      (row_cell (symbol_count m 3) are.third.row p (omega arith) are.third.cells)
  cells_are (suc (suc (suc (suc t)))) p tape low = absurd (let high = tape.high in omega arith)

-- ---- all parts

module _ (m : Quadruples) (l : Limits) (c : Configuration ℕ) (names : List ControlState) (v : Controlled)
    (is : IsControlOf m names v) (net : Parts Module) (config : Config) (ws : List Wire)
    (are : AreModules m l v net.elements) (wires : AreWiresOf (IsNetWire m l) ws)
    (targets : (from : Line) → target net.wires from ≡ target ws from) (valid : IsCircuit (circuit module_table net))
    (few : elements_by m l (length names) ≤ MOST_ELEMENTS) (states : config.states ≡ (start_from m l c).states)
    (place : config.place ≡ Enter 0 0) (steps : config.steps ≡ 0) where
  pub joined : IsAssembledFrom m l c names (record { net = net; config = config; limits = l })
  joined = record {
    control = v;
    first = control_is m l v net.elements are;
    is_control = is;
    cells = cells_are m l v net.elements are;
    network = record {
      circuit = valid;
      control = machine_table v.machine;
      is_control = is.table;
      tables = tables_are m l v net.elements are;
      wires = λ from to. (
        (λ h. wires.sound from to (sym (targets from) ∙ h)),
        (λ h. targets from ∙ wires.complete from to h),
      );
    };
    few = few;
    config = λ i. record { states = states i; place = place i; steps = steps i };
    limits = refl;
  }

-- the same with what the calls give
pub joined_some : (m : Quadruples) (l : Limits) (c : Configuration ℕ) (v : Controlled) → length m.symbols ≡ 3
    → (control : (names : List ControlState) × IsControlOf m names v)
    → elements_by m l v.machine.states ≤ MOST_ELEMENTS
    → (net : Parts Module) (config : Config) (modules : List Module) (ws : List Wire) → AreModules m l v modules
    → net.elements ≡ modules → ws ≡ network_wires m l
    → ((from : Line) → target net.wires from ≡ target ws from) → IsCircuit (circuit module_table net)
    → config.states ≡ (start_from m l c).states → config.place ≡ Enter 0 0 → config.steps ≡ 0
    → (names : List ControlState) × IsAssembledFrom m l c names (record { net = net; config = config; limits = l })
joined_some m l c v three control few net config modules ws are same list targets valid states place steps =
    let count : v.machine.states ≡ length control.0 = control.1.table.states in (
      control.0,
      joined m l c control.0 v control.1 net config ws (subst (AreModules m l v) (sym same) are)
          (subst (AreWiresOf (IsNetWire m l)) (sym list) (network_wires-are m l three)) targets valid
          (subst (λ n. elements_by m l n ≤ MOST_ELEMENTS) count few) states place steps,
    )

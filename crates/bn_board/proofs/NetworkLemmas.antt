-- A board's network: where its modules lie, and that its runs may leap.
use Rattle.std.specs.Prelude.{◌≡◌, ◌+◌, ◌<◌, [], All, length, replicate, Some, slice_get}
use Rattle.std.proofs.Common.{arith, sym, ap, subst, ◌∙◌}
use Rattle.std.proofs.lemmas.List.{length-replicate}
use Rattle.bn_element.specs.Rotary.{rotary}
use Rattle.bn_element.specs.declared.rotary.Rotary.{Rotary}
use Rattle.bn_circuits.specs.Stepping.{back}
use Rattle.bn_circuits.specs.declared.config.Config.{Config}
use Rattle.bn_circuits.proofs.RunLemmas.{back-zero}
use Rattle.bn_circuits.specs.Parts.{Parts}
use Rattle.bn_circuits.specs.RotaryNets.{rotary_circuit}
use Rattle.bn_circuits.proofs.RotaryNetLemmas.{rotary-tables}
use Rattle.bn_network.specs.Cells.{cell_table}
use Rattle.bn_network.specs.Controls.{symbol_count, lines_before}
use Rattle.bn_network.specs.Networks.{cells_in, first_cell}
use Rattle.bn_network.specs.Starts.{start_from}
use Rattle.bn_boards.specs.Boards.{IsBoard, StandsFor, base, board_start, size}
use Rattle.bn_boards.specs.Layouts.{Layout, IsLayout, symbol_count_at}
use Rattle.bn_boards.specs.Builds.{IsUniformNetwork}
use Rattle.bn_boards.proofs.NetworkReadLemmas.{networks-read}
use Rattle.bn_boards.proofs.StartsLemmas.{start-stands}
use Rattle.bn_network_assembly.specs.Assembled.{Assembled, IsKept, network_of}
use Rattle.bn_board.specs.Flattened.{Flattened, IsBoardKept, IsOnNetwork, origin, origin_by}
use Rattle.bn_board.specs.Starts.{IsLayoutOf, start_by}
use Rattle.bn_board.specs.Entered.{IsEntryIn, of_control, of_cell}
use Rattle.bn_board.proofs.KeptLemmas.{layout-of-each}
use Rattle.bn_board.proofs.StartLemmas.{kept-letters}
use Rattle.bn_leap.specs.Entries.{IsEntryOf, IsLeapable}
use Rattle.bn_leap.specs.declared.entry.Entry.{Entry}

-- the board of an assembled network is on it
pub made-network : (a : Assembled) (kept : IsKept a) (b : Layout) → IsLayoutOf a b → (net : Parts Rotary) (c : Config)
    → IsBoard (network_of a) (rotary_circuit net) → c ≡ start_by (network_of a).tables a.config.states
    → IsOnNetwork net (origin_by (rotary_circuit net) c) b
made-network a kept b is net c board at_start =
    let m = kept.machine in
    let n = network_of a in
    let network = kept.assembled.network in
    let layout : IsLayout m a.limits kept.names b = layout-of-each a b is m kept.start kept.names kept.assembled in
    let uniform : IsUniformNetwork m a.limits kept.names n = record {
      machine = kept.is_machine;
      uniform = kept.uniform;
      symbols = kept-letters a kept;
      numbering = kept.assembled.is_control.numbering;
      network = network;
    } in
    let none_low : All (λ s. s < symbol_count m 1) [] = (λ k d in_. absurd (omega arith)) in
    let reads = (networks-read m a.limits [] kept.names n b uniform layout none_low).1 in
    let numbering = kept.assembled.is_control.numbering in
    let begins = start-stands m a.limits kept.names n kept.start numbering network kept.fits in
    let start : c ≡ board_start n.tables (start_from m a.limits kept.start) = at_start
    ∙ ap (λ (x : Config). start_by n.tables x.states) kept.assembled.config in
    let none : c.steps ≡ 0 = ap (λ (x : Config). x.steps) at_start in
    let first : origin_by (rotary_circuit net) c ≡ c = ap (back (rotary_circuit net) c) none
    ∙ back-zero (rotary_circuit net) c in
    record {
      network = n;
      modules = reads.modules;
      board = board;
      situation = start_from m a.limits kept.start;
      stands = subst (StandsFor n (start_from m a.limits kept.start)) (sym (first ∙ start)) begins;
      control = network.control;
      has_control = ap (λ ts. slice_get ts 0) network.tables;
      control_states = layout.states ∙ sym network.is_control.states;
      control_lines = ap (λ zs. lines_before zs 3) layout.symbols ∙ sym network.is_control.inputs;
      cells = λ t p tape cell.
          let within : p < cells_in a.limits t = subst (λ l. p < cells_in l t) layout.limits cell in
          ap (λ l. slice_get n.tables (first_cell l t + p)) layout.limits ∙ reads.cell_tables t p tape within
          ∙ ap (λ z. Some (cell_table z)) (sym (reads.letters_are t));
      bases = λ t p tape cell.
          let within : p < cells_in a.limits t = subst (λ l. p < cells_in l t) layout.limits cell in
          ap (λ l. base n.tables (first_cell l t + p)) layout.limits ∙ reads.cell_bases t p tape within;
    }

-- each input line by the layout is one of a bank of the network
entered : (net : Parts Rotary) (c : Config) (b : Layout) (on : IsOnNetwork net c b) (v : Entry) → IsEntryIn b v
    → IsEntryOf on.network v
entered net c b on v (of_control first states lines row) = record {
  at_module = 0;
  table = on.control;
  has_table = on.has_control;
  first = first;
  states = states ∙ on.control_states;
  lines = lines ∙ on.control_lines;
  row = row;
}
entered net c b on v (of_cell t p tape cell first states lines row) = record {
  at_module = first_cell b.limits t + p;
  table = cell_table (symbol_count_at b t);
  has_table = on.cells t p tape cell;
  first = first ∙ sym (on.bases t p tape cell);
  states = states;
  lines = lines;
  row = row;
}

-- so a board's runs may leap
pub kept-IsLeapable : (b : Flattened) → IsBoardKept b → IsLeapable b.net b.config (IsEntryIn b.layout)
kept-IsLeapable b kept =
    let on = kept.network in
    let tables : length (replicate (size on.network.tables) rotary) ≡ length
    (replicate (length b.net.elements) rotary) = ap length (sym on.board.tables ∙ rotary-tables b.net.elements) in
    let one = length-replicate (size on.network.tables) rotary in
    let two = length-replicate (length b.net.elements) rotary in
    let count = kept.elements in
    let few = kept.layout.few_elements in
    record {
      network = on.network;
      way = record {
        modules = on.modules;
        board = on.board;
        few = omega arith;
        start = on.situation;
        origin = origin b;
        stands = on.stands;
        steps = b.config.steps;
        reached = kept.reached.reaches;
      };
      good = kept.reached.good;
      banks = λ v has. entered b.net (origin b) b.layout on v has;
    }

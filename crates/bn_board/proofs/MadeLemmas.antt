-- The parts of a board make one that keeps what every board keeps, and that is the network's.
use Rattle.std.specs.Prelude.{◌≡◌, ℕ, length}
use Rattle.std.proofs.Common.{sym, ap, subst, ◌∙◌}
use Rattle.bn_circuits.specs.Circuits.{IsConfig}
use Rattle.bn_circuits.specs.declared.line.Line.{Line}
use Rattle.bn_circuits.specs.declared.config.Config.{Config}
use Rattle.bn_element.specs.declared.rotary.Rotary.{Rotary}
use Rattle.bn_circuits.specs.Parts.{Parts}
use Rattle.bn_circuits.specs.Order.{AreInOrder}
use Rattle.bn_circuits.specs.RotaryNets.{rotary_circuit}
use Rattle.bn_boards.specs.Boards.{IsBoard, size}
use Rattle.bn_boards.specs.Layouts.{Layout, elements_of}
use Rattle.bn_network_assembly.specs.Assembled.{Assembled, IsKept, network_of}
use Rattle.bn_board.specs.Flattened.{Flattened, IsBoardKept, IsFlattened, start_line, end_line}
use Rattle.bn_board.specs.Starts.{IsLayoutOf, start_by}
use Rattle.bn_board.proofs.KeptLemmas.{kept-layout, layout-size, layout-of-each}
use Rattle.bn_board.proofs.NetworkLemmas.{made-network}
use Rattle.bn_board.proofs.StartLemmas.{kept-size, kept-some, states-counted, start-IsConfig, start-IsReached}

module _ (a : Assembled) (kept : IsKept a) (layout : Layout) (is : IsLayoutOf a layout) where
  -- the board has as many elements as its layout says
  pub count-size : elements_of layout ≡ size (network_of a).tables
  count-size = layout-size a layout kept is ∙ sym (kept-size a kept)

  module _ (net : Parts Rotary) (config : Config) (start end : Line) (count : ℕ)
      (board : IsBoard (network_of a) (rotary_circuit net))
      (at_start : config ≡ start_by (network_of a).tables a.config.states) (elements : length net.elements ≡ count)
      (count_is : count ≡ elements_of
      layout) (order : AreInOrder net.wires) where
    abbrev made : Flattened
    made = record { net = net; config = config; start = start; end = end; layout = layout }

    good : IsConfig (rotary_circuit net) config
    good = subst (IsConfig (rotary_circuit net)) (sym at_start)
        (start-IsConfig net (network_of a).tables a.config.states (elements ∙ count_is ∙
        count-size) (states-counted a kept) (kept-some a kept))

    pub made-kept : IsBoardKept made
    made-kept = record {
      circuit = board.circuit;
      order = order;
      reached = start-IsReached (rotary_circuit net) config good (ap (λ (c : Config). c.steps) at_start);
      layout = kept-layout a layout kept is;
      elements = elements ∙ count_is;
      network = made-network a kept layout is net config board at_start;
    }

    pub made-flattened : start ≡ start_line → end ≡ end_line layout → IsFlattened a made
    made-flattened starts ends = record {
      board = board;
      layout = layout-of-each a layout is;
      config = λ m c names assembled. at_start
          ∙ ap (λ (x : Config). start_by (network_of a).tables x.states) assembled.config;
      start = starts;
      end = ends;
    }

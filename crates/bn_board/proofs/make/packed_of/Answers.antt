use Rattle.std.proofs.Common.{◌∙◌, sym, subst}
use Rattle.bn_circuits.specs.RotaryNets.{IsNetOf}
use Rattle.bn_boards.specs.Boards.{IsBoardWire, size}
use Rattle.bn_packed.specs.Drafts.{AreDrawn}
use Rattle.bn_boards.proofs.GrownLemmas.{net-IsBoard}
use Rattle.bn_network_assembly.specs.Assembled.{network_of}
use Rattle.bn_board.specs.BoardWires.{IsDrawn, module_circuit}
use Rattle.bn_board.proofs.StartLemmas.{kept-modules, kept-few, kept-some, states-counted, states-within}
use Rattle.bn_board.proofs.StartLemmas.{start-IsConfig}
use Rattle.bn_board.proofs.WireLemmas.{tables_counted}
use Rattle.bn_board.proofs.make.packed_of.Goals as goal

pub draft_of-requires-clause-modules : goal.draft_of-requires-clause-modules
draft_of-requires-clause-modules c = rw c.net.ensures.net (kept-modules c.args.assembly.now c.net.ensures.kept)

pub draft_of-requires-clause-few : goal.draft_of-requires-clause-few
draft_of-requires-clause-few c = rw c.net.ensures.net (kept-few c.args.assembly.now c.net.ensures.kept)

pub draft_of-requires-clause-count : goal.draft_of-requires-clause-count
draft_of-requires-clause-count c = rw c.net.ensures.net c.requires

pub start_bars-requires-clause-modules : goal.start_bars-requires-clause-modules
start_bars-requires-clause-modules c = rw c.net-2.ensures.net (kept-modules c.args.assembly.now c.net.ensures.kept)

pub start_bars-requires-clause-few : goal.start_bars-requires-clause-few
start_bars-requires-clause-few c = rw c.net-2.ensures.net (kept-few c.args.assembly.now c.net.ensures.kept)

pub start_bars-requires-clause-counted : goal.start_bars-requires-clause-counted
start_bars-requires-clause-counted c = rw (c.as_slice.ensures, c.config.ensures.config, c.net-2.ensures.net)
    (states-counted c.args.assembly.now
    c.net.ensures.kept ∙ tables_counted c.args.assembly.now.net)

pub start_bars-requires-clause-within : goal.start_bars-requires-clause-within
start_bars-requires-clause-within c = rw (c.as_slice.ensures, c.config.ensures.config, c.net-2.ensures.net)
    (states-within c.args.assembly.now
    c.net.ensures.kept)

pub from_draft-requires-clause-drawn : goal.from_draft-requires-clause-drawn
from_draft-requires-clause-drawn c =
    let n = module_circuit c.args.assembly.now.net in
    let d : IsDrawn (IsBoardWire n) (size n.tables) c.in_ok-draft.draft =
    subst (λ m. IsDrawn (IsBoardWire (module_circuit m)) (size (module_circuit m).tables) c.in_ok-draft.draft)
    c.net.ensures.net c.in_ok-draft.ensures in
    (d.wires, subst (λ k. AreDrawn k d.wires c.in_ok-draft.draft) (sym d.drawn.ends.elements) d.drawn)

pub from_draft-requires-clause-good : goal.from_draft-requires-clause-good
from_draft-requires-clause-good c = λ ws net drawn is.
    let kept = c.net.ensures.kept in
    let a = c.args.assembly.now in
    let n = module_circuit c.args.assembly.now.net in
    let d : IsDrawn (IsBoardWire n) (size n.tables) c.in_ok-draft.draft =
    subst (λ m. IsDrawn (IsBoardWire (module_circuit m)) (size (module_circuit m).tables) c.in_ok-draft.draft)
    c.net.ensures.net c.in_ok-draft.ensures in
    rw (c.new.ensures, c.in_ok-bars.ensures, c.as_slice.ensures, c.config.ensures.config, c.net-2.ensures.net)
    (start-IsConfig net (network_of a).tables a.config.states (is.elements ∙ d.drawn.ends.elements)
    (states-counted a kept) (kept-some a kept))

pub returns-clause-board : goal.returns-clause-board
returns-clause-board c =
    let n = module_circuit c.args.assembly.now.net in
    let d : IsDrawn (IsBoardWire n) (size n.tables) c.in_ok-draft.draft =
    subst (λ m. IsDrawn (IsBoardWire (module_circuit m)) (size (module_circuit m).tables) c.in_ok-draft.draft)
    c.net.ensures.net c.in_ok-draft.ensures in
    let drawn = subst (λ k. AreDrawn k d.wires c.in_ok-draft.draft) (sym d.drawn.ends.elements) d.drawn in
    let net : IsNetOf c.in_ok-packed.packed.net (size n.tables) d.wires =
    subst (λ k. IsNetOf c.in_ok-packed.packed.net k d.wires) d.drawn.ends.elements
    (c.in_ok-packed.ensures.net d.wires drawn) in
    net-IsBoard n (kept-modules c.args.assembly.now c.net.ensures.kept) c.in_ok-packed.packed.net d.wires d.are net
    c.in_ok-packed.ensures.circuit

pub returns-clause-elements : goal.returns-clause-elements
returns-clause-elements c =
    let n = module_circuit c.args.assembly.now.net in
    let d : IsDrawn (IsBoardWire n) (size n.tables) c.in_ok-draft.draft =
    subst (λ m. IsDrawn (IsBoardWire (module_circuit m)) (size (module_circuit m).tables) c.in_ok-draft.draft)
    c.net.ensures.net c.in_ok-draft.ensures in
    let drawn = subst (λ k. AreDrawn k d.wires c.in_ok-draft.draft) (sym d.drawn.ends.elements) d.drawn in
    (c.in_ok-packed.ensures.net d.wires drawn).elements ∙ d.drawn.ends.elements ∙ sym c.requires

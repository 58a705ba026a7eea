use Rattle.std.proofs.Common.{ℕ, ◌≤◌, ap, ◌∙◌, Some}
use Rattle.bn_network.specs.Networks.{IsTape}
use Rattle.bn_network_assembly.specs.Assembled.{Assembled, limits_of}
use Rattle.bn_network_assembly.proofs.SymbolLemmas.{first_within, first_symbols, no_control}
use Rattle.bn_network_assembly.proofs.assembly.Assembly.symbols.Goals as goal

-- the tape is one of the three
tape_is : (t : ℕ) → 1 ≤ t → t ≤ 3 → IsTape t
tape_is t low high = record { low = low; high = high }

pub element-requires : goal.element-requires
element-requires c =
    let l = limits_of c.self.inside.windows in
    let a : Assembled = record { net = c.self.inside.net; config = c.self.inside.config; limits = l } in
    let kept = c.self.invariant in
    first_within a c.args.tape c.first_cell.result (tape_is c.args.tape c.requires.first c.requires.last)
    c.first_cell.ensures kept.machine kept.start kept.names kept.assembled

pub returns-in-Control : goal.returns-in-Control
returns-in-Control c =
    let l = limits_of c.self.inside.windows in
    let a : Assembled = record { net = c.self.inside.net; config = c.self.inside.config; limits = l } in
    let kept = c.self.invariant in
    absurd (no_control a c.args.tape c.first_cell.result c.in-Control.field-0
    (tape_is c.args.tape c.requires.first c.requires.last) c.first_cell.ensures
    (c.element.ensures ∙ ap (λ x. Some x) c.in-Control.is) kept.machine kept.start kept.names kept.assembled)

pub returns-in-Cell : goal.returns-in-Cell
returns-in-Cell c = rw (← c.self.view_is) (first_symbols (record
    { net = c.self.inside.net; config = c.self.inside.config; limits = limits_of c.self.inside.windows }) c.args.tape
    c.first_cell.result c.in-Cell.cell (tape_is c.args.tape c.requires.first c.requires.last) c.first_cell.ensures
    (c.element.ensures ∙ ap (λ x. Some x) c.in-Cell.is))

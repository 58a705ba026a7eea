use Rattle.std.proofs.Common.{◌≡◌, None, Some, map, refl, sym, ap, subst, ◌∙◌}
use Rattle.std.specs.Prelude.{if◌then◌else◌}
use Rattle.bn_circuits.specs.Circuits.{target, source, same_line}
use Rattle.bn_circuits.specs.Parts.{Parts}
use Rattle.bn_circuits.specs.Rows.{wires_of, IsWired}
use Rattle.bn_circuits.specs.Faults.{fault_of}
use Rattle.bn_circuits.proofs.WireLemmas.{IsFree, free_of, connected, connected-target, connected-source}
use Rattle.bn_circuits.proofs.WireLemmas.{view-IsCircuit}
use Rattle.bn_circuits.proofs.net.Net.connect.Given.{Over}
use Rattle.bn_circuits.proofs.net.Net.connect.Goals as goal

free : (g : Over) (c : goal.After-set-2 g)
    → IsFree (map g.E.Element.table c.self.inside.elements.items) (wires_of 0 c.self.inside.targets) c.args.wire
free g c =
    let table = g.E.Element.table in
    let none : fault_of (map table c.self.inside.elements.items) (wires_of 0 c.self.inside.targets) c.args.wire ≡ None =
    subst (λ (n : Parts _). fault_of (map table n.elements) n.wires c.args.wire ≡ None) (sym c.self.view_is) c.requires
    in
    free_of (map table c.self.inside.elements.items) (wires_of 0 c.self.inside.targets) c.args.wire none

wired : (g : Over) (c : goal.After-set-2 g)
    → IsWired (map g.E.Element.table c.self.inside.elements.items) c.set.new.self c.set-2.new.self
wired g c = rw (c.set.ensures, c.set-2.ensures) (connected (map g.E.Element.table c.self.inside.elements.items)
    c.self.inside.targets c.self.inside.sources c.args.wire c.self.invariant (free g c))

pub invariant_of-self : goal.invariant_of-self
invariant_of-self g c = wired g c

pub returns-clause-targets : goal.returns-clause-targets
returns-clause-targets g c = λ from.
    ap (λ rows. target (wires_of 0 rows) from) c.set.ensures
    ∙ connected-target (map g.E.Element.table c.self.inside.elements.items) c.self.inside.targets c.self.inside.sources
    c.args.wire c.self.invariant (free g c) from
    ∙ ap (λ (n : Parts _). if same_line c.args.wire.from from then Some c.args.wire.to else target n.wires from)
    c.self.view_is

pub returns-clause-sources : goal.returns-clause-sources
returns-clause-sources g c = λ to.
    ap (λ rows. source (wires_of 0 rows) to) c.set.ensures
    ∙ connected-source (map g.E.Element.table c.self.inside.elements.items) c.self.inside.targets c.self.inside.sources
    c.args.wire c.self.invariant (free g c) to
    ∙ ap (λ (n : Parts _). if same_line c.args.wire.to to then Some c.args.wire.from else source n.wires to)
    c.self.view_is

pub returns-clause-circuit : goal.returns-clause-circuit
returns-clause-circuit g c = view-IsCircuit g.E.Element.table g.met.E.Element.reversible c.self.inside.elements.items
    c.set.new.self c.set-2.new.self _ (wired g c) refl

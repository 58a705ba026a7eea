use Rattle.std.proofs.Common.{◌≡◌, map, get_or, None, sym, subst, ◌∙◌}
use Rattle.std.proofs.lemmas.Option.{slice_get-get_or}
use Rattle.bn_circuits.specs.Faults.{fault_of}
use Rattle.bn_circuits.proofs.FaultLemmas.{nothing_built, more_built, next_faultless, built_targets, built_sources}
use Rattle.bn_circuits.proofs.net.Net.new.Goals as goal

pub loop-index-init : goal.loop-index-init
loop-index-init g c = (
  c.in_ok-net.ensures.elements,
  nothing_built (map g.E.Element.table c.args.elements.items) c.args.wires.now c.in_ok-net.net.wires
      c.in_ok-net.ensures.wires,
  c.in_ok-net.ensures.circuit,
)

pub connect-requires : goal.connect-requires
connect-requires g c =
    let none = next_faultless (map g.E.Element.table c.args.elements.items) c.args.wires.now c.loop-index.net.wires
    c.loop-index.index (get_or c.args.wires.now c.loop-index.index
    (record { from = record { element = 0; line = 0 }; to = record { element = 0; line = 0 } }))
    c.loop-index.invariant.1 c.loop-index-test.true (slice_get-get_or c.args.wires.now c.loop-index.index _
    c.loop-index-test.true) c.requires.faultless in
    subst (λ xs. fault_of (map g.E.Element.table xs) c.loop-index.net.wires
    (get_or c.args.wires.now c.loop-index.index (record {
      from = record { element = 0; line = 0 };
      to = record { element = 0; line = 0 };
    })) ≡ None) (sym c.loop-index.invariant.0) none

pub loop-index-preserved : goal.loop-index-preserved
loop-index-preserved g c =
    let none = next_faultless (map g.E.Element.table c.args.elements.items) c.args.wires.now c.loop-index.net.wires
    c.loop-index.index (get_or c.args.wires.now c.loop-index.index
    (record { from = record { element = 0; line = 0 }; to = record { element = 0; line = 0 } }))
    c.loop-index.invariant.1 c.loop-index-test.true (slice_get-get_or c.args.wires.now c.loop-index.index _
    c.loop-index-test.true) c.requires.faultless in (
      c.connect.ensures.elements ∙ c.loop-index.invariant.0,
      more_built (map g.E.Element.table c.args.elements.items) c.args.wires.now c.loop-index.net.wires
          c.connect.new.self.wires c.loop-index.index (get_or c.args.wires.now c.loop-index.index
          (record { from = record { element = 0; line = 0 }; to = record { element = 0; line = 0 } }))
          c.loop-index.invariant.1 c.loop-index-test.true
          (slice_get-get_or c.args.wires.now c.loop-index.index _ c.loop-index-test.true) none c.connect.ensures.targets
          c.connect.ensures.sources,
      c.connect.ensures.circuit,
    )

pub returns-clause-targets : goal.returns-clause-targets
returns-clause-targets g c = built_targets c.loop-index.invariant.1 c.loop-index-test.false

pub returns-clause-sources : goal.returns-clause-sources
returns-clause-sources g c = built_sources c.loop-index.invariant.1 c.loop-index-test.false

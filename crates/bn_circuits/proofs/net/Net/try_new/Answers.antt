use Rattle.std.proofs.Common.{◌≡◌, ◌+◌, map, get_or, None, Err, sym, subst, ◌∙◌}
use Rattle.std.proofs.lemmas.Option.{slice_get-get_or}
use Rattle.std.proofs.lemmas.Result.{err_from_is_err_and}
use Rattle.bn_circuits.specs.Faults.{fault_of, checked}
use Rattle.bn_circuits.proofs.FaultLemmas.{nothing_built, more_built, built_targets, built_sources, checked-Ok}
use Rattle.bn_circuits.proofs.FaultLemmas.{refused_at}
use Rattle.bn_circuits.proofs.net.Net.try_new.Goals as goal

pub loop-index-init : goal.loop-index-init
loop-index-init g c = (
  c.in_ok-net.ensures.elements,
  nothing_built (map g.E.Element.table c.args.elements.items)
      c.args.wires.now c.in_ok-net.net.wires c.in_ok-net.ensures.wires,
  c.in_ok-net.ensures.circuit,
)

pub returns-in_err-check-clause-refused : goal.returns-in_err-check-clause-refused
returns-in_err-check-clause-refused g c =
    let p = err_from_is_err_and c.from_residual-in_err-check.result c.from_residual-in_err-check.ensures.1 in
    let at_tables = subst (λ xs. Err c.in_err-check.field-0.0 ≡ checked
    (fault_of (map g.E.Element.table xs) c.loop-index.net.wires
    (get_or c.args.wires.now c.loop-index.index (record {
      from = record { element = 0; line = 0 };
      to = record { element = 0; line = 0 };
    }))) (c.loop-index.index + 1)) c.loop-index.invariant.0 c.in_err-check.ensures in
    rw (p.1, p.2) (refused_at (map g.E.Element.table c.args.elements.items) c.args.wires.now c.loop-index.net.wires
    c.loop-index.index (get_or c.args.wires.now c.loop-index.index
    (record { from = record { element = 0; line = 0 }; to = record { element = 0; line = 0 } }))
    c.loop-index.invariant.1 (slice_get-get_or c.args.wires.now c.loop-index.index _ c.loop-index-test.true)
    c.in_err-check.field-0.0 (sym at_tables))

pub loop-index-preserved : goal.loop-index-preserved
loop-index-preserved g c =
    let none = checked-Ok (fault_of (map g.E.Element.table c.loop-index.net.elements) c.loop-index.net.wires
    (get_or c.args.wires.now c.loop-index.index (record {
      from = record { element = 0; line = 0 };
      to = record { element = 0; line = 0 };
    }))) (c.loop-index.index + 1) c.in_ok-check.field-0 (sym c.in_ok-check.ensures) in
    let none' = subst (λ xs. fault_of (map g.E.Element.table xs) c.loop-index.net.wires
    (get_or c.args.wires.now c.loop-index.index (record {
      from = record { element = 0; line = 0 };
      to = record { element = 0; line = 0 };
    })) ≡ None) c.loop-index.invariant.0 none in (
      c.connect.ensures.elements ∙ c.loop-index.invariant.0,
      more_built (map g.E.Element.table c.args.elements.items) c.args.wires.now c.loop-index.net.wires
          c.connect.new.self.wires c.loop-index.index (get_or c.args.wires.now c.loop-index.index
          (record { from = record { element = 0; line = 0 }; to = record { element = 0; line = 0 } }))
          c.loop-index.invariant.1 c.loop-index-test.true
          (slice_get-get_or c.args.wires.now c.loop-index.index _ c.loop-index-test.true) none'
          c.connect.ensures.targets c.connect.ensures.sources,
      c.connect.ensures.circuit,
    )

pub returns-clause-targets : goal.returns-clause-targets
returns-clause-targets g c = built_targets c.loop-index.invariant.1 c.loop-index-test.false

pub returns-clause-sources : goal.returns-clause-sources
returns-clause-sources g c = built_sources c.loop-index.invariant.1 c.loop-index-test.false

use Rattle.std.proofs.Common.{◌≡◌, refl, rules, subst, Some, None}
use Rattle.bn_network_text.specs.Faults.{port_fault}
use Rattle.bn_network_text.proofs.FaultLemmas.{clear_first, clear_title, clear_count, clear_start, clear_end}
use Rattle.bn_network_text.proofs.header.header_of.Goals as goal

pub returns-in-Err-port_of-clause-refused : goal.returns-in-Err-port_of-clause-refused
returns-in-Err-port_of-clause-refused c =
    clear_first c.args.shapes.now c.args.page.now 2 3 c.in-Err-port_of.fault c.refusal-in-Err-port_of.result
    c.refusal-in-Err-port_of.ensures refl
    (subst (λ o. port_fault c.args.shapes.now c.args.page.now.says o ≡ Some c.in-Err-port_of.fault) c.start.ensures
    c.in-Err-port_of.ensures.refused)
    (clear_count c.args.shapes.now c.args.page.now c.in-Ok.ensures.faultless
    (clear_title c.args.shapes.now c.args.page.now (search rules)))

pub returns-in-Err-port_of-2-clause-refused : goal.returns-in-Err-port_of-2-clause-refused
returns-in-Err-port_of-2-clause-refused c =
    clear_first c.args.shapes.now c.args.page.now 3 4 c.in-Err-port_of-2.fault c.refusal-in-Err-port_of-2.result
    c.refusal-in-Err-port_of-2.ensures refl
    (subst (λ o. port_fault c.args.shapes.now c.args.page.now.says o ≡ Some c.in-Err-port_of-2.fault) c.end.ensures
    c.in-Err-port_of-2.ensures.refused)
    (clear_start c.args.shapes.now c.args.page.now
    (subst (λ o. port_fault c.args.shapes.now c.args.page.now.says o ≡ None) c.start.ensures
    c.in-Ok-port_of.ensures.faultless)
    (clear_count c.args.shapes.now c.args.page.now c.in-Ok.ensures.faultless
    (clear_title c.args.shapes.now c.args.page.now (search rules))))

pub returns-in-Err-port_of-3-clause-refused : goal.returns-in-Err-port_of-3-clause-refused
returns-in-Err-port_of-3-clause-refused c =
    clear_first c.args.shapes.now c.args.page.now 4 5 c.in-Err-port_of-3.fault c.refusal-in-Err-port_of-3.result
    c.refusal-in-Err-port_of-3.ensures refl
    (subst (λ o. port_fault c.args.shapes.now c.args.page.now.says o ≡ Some c.in-Err-port_of-3.fault) c.place.ensures
    c.in-Err-port_of-3.ensures.refused)
    (clear_end c.args.shapes.now c.args.page.now
    (subst (λ o. port_fault c.args.shapes.now c.args.page.now.says o ≡ None) c.end.ensures
    c.in-Ok-port_of-2.ensures.faultless)
    (clear_start c.args.shapes.now c.args.page.now
    (subst (λ o. port_fault c.args.shapes.now c.args.page.now.says o ≡ None) c.start.ensures
    c.in-Ok-port_of.ensures.faultless)
    (clear_count c.args.shapes.now c.args.page.now c.in-Ok.ensures.faultless
    (clear_title c.args.shapes.now c.args.page.now (search rules)))))

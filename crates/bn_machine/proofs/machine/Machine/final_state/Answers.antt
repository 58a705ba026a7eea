use Rattle.std.proofs.Common.{◌≡◌, suc, ◌-◌, length, arith, ◌∙◌, ap}
use Rattle.bn_machine.specs.Machine.{Program, final_of}
use Rattle.bn_machine.proofs.MachineLemmas.{final_of-last}
use Rattle.bn_machine.specs.declared.quint.Quint.{Quint}
use Rattle.bn_machine.proofs.machine.Machine.final_state.Goals as goal

pub returns : goal.returns
returns c =
    let last : suc (c.len.result - 1) ≡ length c.self.inside.quints.items = omega (arith, c.self.invariant.some) in
    ap (λ (q : Quint). q.next) c.index.ensures
    ∙ final_of-last c.self.inside.quints.items (c.len.result - 1) c.index.result.now last
    ∙ ap (λ (p : Program). final_of p.quints) c.self.view_is

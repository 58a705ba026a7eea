use Rattle.std.proofs.Common.{length, sym, ap, subst, ◌∙◌}
use Rattle.bn_network.specs.Controls.{IsNumbering}
use Rattle.bn_network.specs.Networks.{elements_by}
use Rattle.bn_network_assembly.specs.Assembled.{limits_of}
use Rattle.bn_network_assembly.proofs.make.element_count.Goals as goal

pub returns : goal.returns
returns c names numbering =
    let same = c.machine-machine.ensures.value in
    let count = c.state_count.ensures names (subst (λ m. IsNumbering m names) (sym same) numbering) in
    c.count_elements.ensures ∙ ap (elements_by c.machine-machine.result.now (limits_of c.args.windows.now)) count
    ∙ ap (λ m. elements_by m (limits_of c.args.windows.now) (length names)) same

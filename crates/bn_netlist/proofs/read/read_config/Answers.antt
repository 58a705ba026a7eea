use Rattle.std.proofs.Common.{subst, sym, ◌∙◌}
use Rattle.bn_netlist.specs.NetText.{IsTextRefusal}
use Rattle.bn_netlist.specs.FromText.{HasWhole, IsFromRefusal}
use Rattle.bn_netlist.proofs.FromLemmas.{all_given}
use Rattle.bn_netlist.proofs.ReadingLemmas.{nothing_spelled}
use Rattle.bn_netlist.proofs.read.read_config.Goals as goal

pub returns-in-Err-Text-clause-nothing_else : goal.returns-in-Err-Text-clause-nothing_else
returns-in-Err-Text-clause-nothing_else c = λ known v s spelled.
    let t = c.in-Err-Text.ensures.taken in
    let said = subst (IsFromRefusal t.0) c.in-Err-Text.field-0-is t.3 in
    let ended = c.in-Err-Text.ensures.refused_whole (subst HasWhole (sym c.in-Err-Text.field-0-is) tt) in
    let same = all_given c.new-input.result.rest.now t.0 _ t.1.lost ended ∙ c.new-input.ensures in
    nothing_spelled c.args.bytes.now c.in-Err-Text.refusal (subst (λ z. IsTextRefusal z c.in-Err-Text.refusal) same
    said.0) known v s spelled

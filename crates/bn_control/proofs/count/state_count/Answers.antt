use Rattle.bn_control.proofs.OpenLemmas.{all_count}
use Rattle.bn_control.proofs.count.state_count.Goals as goal

pub returns : goal.returns
returns c names numbering =
    all_count c.args.machine.now c.quads.result.now c.quads.ensures.value c.open_count.result c.shown_count-shown.result
    c.open_count.ensures.open c.shown_count-shown.ensures.shown names numbering

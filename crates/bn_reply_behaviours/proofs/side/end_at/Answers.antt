use Rattle.bn_reply_behaviours.proofs.ReadingLemmas.{has_input, has_output}
use Rattle.bn_reply_behaviours.proofs.side.end_at.Goals as goal

pub source-requires : goal.source-requires
source-requires c = has_input c.args.net.now.elements c.args.net.now.wires c.args.port c.requires.element
    c.requires.line

pub target-requires : goal.target-requires
target-requires c =
    has_output c.args.net.now.elements c.args.net.now.wires c.args.port c.requires.element c.requires.line

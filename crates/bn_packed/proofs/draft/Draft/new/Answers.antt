use Rattle.bn_packed.proofs.DraftLemmas.{drawn_none}
use Rattle.bn_packed.proofs.draft.Draft.new.Goals as goal

pub returns : goal.returns
returns c = drawn_none c.args.count c.in_ok-loose.field-0 c.in_ok-loose.ensures.elements c.in_ok-loose.ensures.ends

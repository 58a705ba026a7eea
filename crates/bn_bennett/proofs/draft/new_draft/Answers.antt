use Rattle.bn_bennett.proofs.Growing.{none_drafted}
use Rattle.bn_bennett.proofs.draft.new_draft.Goals as goal

pub returns-clause-draft : goal.returns-clause-draft
returns-clause-draft c = none_drafted c.new.result.keys c.new-2.result.items c.new.ensures.empty c.new-2.ensures.items

-- No entry, and the blanks' names.
use Rattle.bn_qtable.proofs.Drafting.{none-drafted}
use Rattle.bn_qtable.proofs.draft.new_draft.Goals as goal

pub returns : goal.returns
returns c = none-drafted _ c.in_ok-new.ensures c.new-2.ensures.items

use Rattle.bn_session.proofs.PlaceLemmas.{line_within}
use Rattle.bn_reply_walks.proofs.packed.elements_and_place.Goals as goal

pub returns-clause-line : goal.returns-clause-line
returns-clause-line c =
    line_within c.args.packed.now.net c.args.packed.now.config c.len.ensures.good c.place.result c.place.ensures

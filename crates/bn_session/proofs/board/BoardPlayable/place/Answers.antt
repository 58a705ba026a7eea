use Rattle.bn_session.proofs.PlaceLemmas.{line_within}
use Rattle.bn_session.proofs.board.BoardPlayable.place.Goals as goal

pub returns-clause-line : goal.returns-clause-line
returns-clause-line g c = line_within c.args.self.now.net c.args.self.now.config c.place.ensures.kept.reached.good
    c.place.result c.place.ensures.place

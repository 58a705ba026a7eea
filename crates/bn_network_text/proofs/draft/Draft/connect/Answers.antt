use Rattle.std.proofs.Common.{subst, sym}
use Rattle.bn_network_text.specs.Drafting.{IsFed}
use Rattle.bn_network_text.proofs.WireLemmas.{fed_more}
use Rattle.bn_network_text.proofs.draft.Draft.connect.Goals as goal

pub returns-in_ok-feed-in-Ok-clause-fed : goal.returns-in_ok-feed-in-Ok-clause-fed
returns-in_ok-feed-in-Ok-clause-fed c =
    subst (λ ws. IsFed ws c.feed.new.fed) (sym c.in-Ok-push.ensures.items)
    (fed_more c.args.self.now.wires.items (record { from = c.args.from; to = c.in-Ok.to }) c.args.self.now.fed
    c.feed.new.fed c.in_ok-feed-in-Ok.ensures c.requires.fed)

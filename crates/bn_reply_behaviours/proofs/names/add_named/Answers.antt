use Rattle.std.proofs.Common.{refl}
use Rattle.bn_lists.proofs.MemberLemmas.{member_at}
use Rattle.bn_reply_behaviours.proofs.ReadingLemmas.{none_new}
use Rattle.bn_reply_behaviours.proofs.names.add_named.Goals as goal

pub returns-in-Some-find : goal.returns-in-Some-find
returns-in-Some-find c = (
  refl,
  none_new c.args.net.now.elements c.args.net.now.wires c.requires.few c.args.side c.args.name.now c.in-Some.port
      c.args.ports.now c.in-Some.ensures.0 c.in-Some.ensures.1
      (member_at c.args.ports.now c.in-Some-find.field-0 c.in-Some.port c.in-Some-find.ensures),
)

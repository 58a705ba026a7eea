use Rattle.std.proofs.Common.{sym, subst}
use Rattle.bn_control.specs.Ordered.{AreNames}
use Rattle.bn_control.proofs.OrderedLemmas.{in_their_order}
use Rattle.bn_control.proofs.StateNameLemmas.{all_names, pushed}
use Rattle.bn_control.proofs.names.state_names.Goals as goal

pub returns : goal.returns
returns c =
    let m = c.args.machine.now in
    let opened = c.in_ok-push_open.ensures.0 in
    let raw = pushed m c.new-names.result.items c.push.new.self.items c.push-2.new.self.items
    c.push_open.new.names.items c.push_quads.new.names.items opened c.new-names.ensures.items
    c.in_ok-push.ensures.items c.in_ok-push-2.ensures.items c.in_ok-push_open.ensures.2
    (c.in_ok-push_quads.ensures m.rules c.quads.ensures.value) in
    let names = subst (AreNames m) (sym raw) (all_names m opened c.in_ok-push_open.ensures.1) in
    (in_their_order m c.push_quads.new.names.items c.in_ok-ordered.ordered.items names c.in_ok-ordered.ensures.rising
    c.in_ok-ordered.ensures.each c.in_ok-ordered.ensures.only).numbering

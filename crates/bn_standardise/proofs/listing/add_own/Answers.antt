-- One quintuple after another.
use Rattle.bn_machine.specs.declared.quint.Quint.{Quint}
use Rattle.bn_machine.specs.declared.quint.Shift.TheVariants.{Left}
use Rattle.bn_standardise.proofs.ListingLemmas.{own_all, own_more, own_none}
use Rattle.bn_standardise.proofs.listing.add_own.Goals as goal

pub loop-quint-init : goal.loop-quint-init
loop-quint-init c = own_none c.args.list.now.items c.args.quints.now

pub loop-quint-preserved : goal.loop-quint-preserved
loop-quint-preserved c =
    let blank : Quint = record { state = 0; read = 0; write = 0; shift = Left; next = 0 } in
    own_more c.args.list.now.items c.loop-quint.list.items c.push.new.self.items c.args.quints.now
    c.loop-quint.quint-index blank c.renamed.result c.loop-quint-test.true c.loop-quint.invariant
    c.renamed.ensures c.in_ok-push.ensures.items

pub returns : goal.returns
returns c = own_all c.args.list.now.items c.loop-quint.list.items c.args.quints.now c.loop-quint.quint-index
    c.loop-quint-test.false c.loop-quint.invariant

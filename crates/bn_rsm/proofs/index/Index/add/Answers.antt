use Rattle.bn_rsm.proofs.SoundLemmas.{numbers-push}
use Rattle.bn_rsm.proofs.index.Index.add.Goals as goal

pub returns : goal.returns
returns c = λ s k earlier numbers counted none. numbers-push s k c.args.self.now.from c.args.self.now.to
    c.put.new.numbers c.put-2.new.numbers earlier c.args.step.now c.args.number numbers counted none c.in_ok-put.ensures
    c.in_ok-put-2.ensures

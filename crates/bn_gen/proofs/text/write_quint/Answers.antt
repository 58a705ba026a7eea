-- A quintuple in range has names and letters in their forms.
use Rattle.bn_gen.proofs.TableLemmas.{forms}
use Rattle.bn_gen.proofs.text.write_quint.Goals as goal

pub write_row-requires : goal.write_row-requires
write_row-requires c = forms c.args.k c.args.quint.now c.state_name.result.now c.state_name-2.result.now
    c.requires.count c.requires.range c.state_name.ensures c.state_name-2.ensures

-- Names and letters in their forms need no quotes.
use Rattle.bn_table.specs.Entry.{said}
use Rattle.bn_table.proofs.Writing.{plain-said}
use Rattle.bn_table.proofs.text.write_row.Goals as goal

pub write_fields-requires : goal.write_fields-requires
write_fields-requires c = rw c.text_of_shift.ensures (plain-said
    (said c.args.state.now c.args.read c.args.write c.args.shift c.args.next.now) c.requires)

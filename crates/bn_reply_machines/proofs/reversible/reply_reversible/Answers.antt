use Rattle.std.proofs.Common.{refl}
use Rattle.bn_qtable.specs.Rows.{table_of}
use Rattle.bn_csv.specs.Entries.{entries_of}
use Rattle.bn_qtable.proofs.ReadingLaws.{no_fault_of}
use Rattle.bn_reply_machines.specs.ReversibleReply.{judged, faulty}
use Rattle.bn_reply_machines.proofs.reversible.reply_reversible.Goals as goal

pub returns-in-Ok : goal.returns-in-Ok
returns-in-Ok c = judged (table_of c.in-Ok.machine c.in-Ok.field-0-1) c.in-Ok.ensures.ok
    c.in_ok-verdicts_text-in-Ok.ensures refl refl

pub returns : goal.returns
returns c =
    let first = c.in-Err.ensures.refused c.in_ok-quad_fault_text-in-Err.ensures.0 in
    faulty
    (record {
      unread = λ t reads. (let none = no_fault_of (entries_of c.args.bytes.now) t reads in cc);
      fault = c.in-Err.refusal;
      first = first;
      told = c.in_ok-quad_fault_text-in-Err.ensures.1;
    }) refl refl

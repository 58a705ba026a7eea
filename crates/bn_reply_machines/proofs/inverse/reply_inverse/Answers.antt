use Rattle.std.proofs.Common.{refl}
use Rattle.bn_qtable.specs.Rows.{table_of}
use Rattle.bn_csv.specs.Entries.{entries_of}
use Rattle.bn_qtable.proofs.ReadingLaws.{no_fault_of}
use Rattle.bn_reply_machines.specs.InverseReply.{inverted, faulty}
use Rattle.bn_reply_machines.proofs.inverse.reply_inverse.Goals as goal

pub returns-in_ok-inverted_text-in-Ok : goal.returns-in_ok-inverted_text-in-Ok
returns-in_ok-inverted_text-in-Ok c =
    inverted (table_of c.in-Ok.machine c.in-Ok.names) c.in-Ok.ensures.ok c.in_ok-inverted_text-in-Ok.ensures refl refl

pub returns-in_ok-quad_fault_text-in-Err : goal.returns-in_ok-quad_fault_text-in-Err
returns-in_ok-quad_fault_text-in-Err c =
    let first = c.in-Err.ensures.refused c.in_ok-quad_fault_text-in-Err.ensures.0 in
    faulty
    (record {
      unread = λ t reads. (let none = no_fault_of (entries_of c.args.bytes.now) t reads in cc);
      fault = c.in-Err.refusal;
      first = first;
      told = c.in_ok-quad_fault_text-in-Err.ensures.1;
    }) refl refl

use Rattle.std.proofs.Common.{refl}
use Rattle.bn_csv.specs.Entries.{entries_of}
use Rattle.bn_qtable.specs.Rows.{table_of}
use Rattle.bn_qtable.proofs.ReadingLaws.{no_fault_of}
use Rattle.bn_reply_machines.specs.QuadReply.{faulty}
use Rattle.bn_reply_machines.proofs.UniformLemmas.{failing_told}
use Rattle.bn_reply_machines.proofs.uniform.open_uniform.Goals as goal

pub returns-in-Err : goal.returns-in-Err
returns-in-Err c =
    let first = c.in-Err.ensures.refused c.in_ok-quad_fault_text-in-Err.ensures.0 in
    faulty
    (record {
      unread = λ t reads. (let none = no_fault_of (entries_of c.args.bytes.now) t reads in cc);
      fault = c.in-Err.refusal;
      first = first;
      told = c.in_ok-quad_fault_text-in-Err.ensures.1;
    }) refl refl

pub returns-in_ok-failing-in-Err-into_uniform : goal.returns-in_ok-failing-in-Err-into_uniform
returns-in_ok-failing-in-Err-into_uniform c =
    let at = c.in-Err-into_uniform in
    let reply = c.in_ok-failing-in-Err-into_uniform in
    failing_told c.args.bytes.now (table_of c.in-Ok.table.0 c.in-Ok.table.1) c.in-Ok.ensures.ok at.why
    at.ensures.refused
    reply.field-0.status reply.field-0.text.items reply.ensures.text reply.ensures.status

use Rattle.std.proofs.Common.{refl, rules}
use Rattle.bn_quad.specs.Overlap.{IsDeterministic}
use Rattle.bn_csv.specs.Entries.{entries_of}
use Rattle.bn_qtable.specs.Rows.{table_of}
use Rattle.bn_qtable.proofs.ReadingLaws.{no_fault_of}
use Rattle.bn_reply_machines.specs.QuadReply.{domain, faulty, range}
use Rattle.bn_reply_machines.proofs.opening.open_quads.Goals as goal

pub returns-in-Err : goal.returns-in-Err
returns-in-Err c =
    let first = c.in-Err.ensures.refused c.in_ok-quad_fault_text-in-Err.ensures.0 in
    faulty
    (record {
      unread = λ t reads. (let none = no_fault_of (entries_of c.args.bytes.now) t reads in cc);
      fault = c.in-Err.refusal;
      first = first;
      told = c.in_ok-quad_fault_text-in-Err.ensures.1;
    }) refl refl

pub returns-in-Err-check_deterministic : goal.returns-in-Err-check_deterministic
returns-in-Err-check_deterministic c =
    domain (table_of c.in-Ok.table.0 c.in-Ok.table.1) c.in-Ok.ensures.ok c.in-Err-check_deterministic.i
    c.in-Err-check_deterministic.j c.in-Err-check_deterministic.ensures.least c.in_ok-overlap.ensures.text
    c.in_ok-overlap.ensures.status refl

pub returns-in-Err-check_reversible : goal.returns-in-Err-check_reversible
returns-in-Err-check_reversible c =
    let apart : IsDeterministic c.in-Ok.table.0.rules = search rules in
    range (table_of c.in-Ok.table.0 c.in-Ok.table.1) c.in-Ok.ensures.ok apart
    c.in-Err-check_reversible.i c.in-Err-check_reversible.j c.in-Err-check_reversible.ensures.least
    c.in_ok-overlap-2.ensures.text c.in_ok-overlap-2.ensures.status refl

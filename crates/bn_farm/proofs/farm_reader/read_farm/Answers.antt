use Rattle.std.proofs.Common.{arith}
use Rattle.bn_farm.proofs.FarmReadLemmas.{boards_fit, no_boards, no_cut, one_pushed, part_refused, read_farm_of}
use Rattle.bn_farm.proofs.FarmReadLemmas.{some_boards, whole_read, whole_refused}
use Rattle.bn_farm.proofs.farm_reader.read_farm.Goals as goal

pub push_part-requires : goal.push_part-requires
push_part-requires c =
    let few = boards_fit c.args.bytes.now c.loop-part.boards.items c.loop-part.left.now c.loop-part.invariant c.requires
    in
    omega (arith, few)

pub returns-in-Err-clause-refused : goal.returns-in-Err-clause-refused
returns-in-Err-clause-refused c =
    part_refused c.args.bytes.now c.loop-part.boards.items c.loop-part.left.now c.loop-part.invariant c.in-Some.part.now
    c.in-Some.behind.now c.in-Err.refusal
    c.in-Some.ensures c.in-Err.ensures.refused

pub loop-part-preserved : goal.loop-part-preserved
loop-part-preserved c =
    one_pushed c.args.bytes.now c.loop-part.boards.items c.loop-part.left.now c.loop-part.invariant c.in-Some.part.now
    c.in-Some.behind.now c.push_part.new.boards.items
    c.in-Some.ensures c.in_default-push_part.ensures.read

pub returns-then-is_empty-clause-refused : goal.returns-then-is_empty-clause-refused
returns-then-is_empty-clause-refused c =
    no_cut c.args.bytes.now c.loop-part.boards.items c.loop-part.left.now c.loop-part.invariant
    (no_boards c.loop-part.boards.items c.loop-part.boards.len c.loop-part.boards.ok.0 c.is_empty.result
    c.is_empty.ensures c.if-is_empty.true) c.in_default.ensures

pub with_schedule-requires-clause-farm : goal.with_schedule-requires-clause-farm
with_schedule-requires-clause-farm c = read_farm_of c.args.bytes.now c.loop-part.boards.items c.loop-part.left.now
    c.loop-part.invariant

pub with_schedule-requires-clause-few : goal.with_schedule-requires-clause-few
with_schedule-requires-clause-few c =
    let few = boards_fit c.args.bytes.now c.loop-part.boards.items c.loop-part.left.now c.loop-part.invariant c.requires
    in
    omega (arith, few)

pub returns-clause-read : goal.returns-clause-read
returns-clause-read c =
    whole_read c.args.bytes.now c.loop-part.boards.items c.loop-part.left.now c.loop-part.invariant
    (some_boards c.loop-part.boards.items c.loop-part.boards.len c.loop-part.boards.ok.0 c.is_empty.result
    c.is_empty.ensures c.if-is_empty.false) c.in_default.ensures c.with_schedule.result c.with_schedule.ensures.read

pub returns-clause-refused : goal.returns-clause-refused
returns-clause-refused c =
    whole_refused c.args.bytes.now c.loop-part.boards.items c.loop-part.left.now c.loop-part.invariant
    (some_boards c.loop-part.boards.items c.loop-part.boards.len c.loop-part.boards.ok.0 c.is_empty.result
    c.is_empty.ensures c.if-is_empty.false) c.in_default.ensures c.with_schedule.result
    c.with_schedule.ensures.refused

use Rattle.std.proofs.Common.{sym, ◌∙◌, arith}
use Rattle.bn_control.proofs.DraftLemmas.{read_tells, read_tape, read_inside, read_low}
use Rattle.bn_control.proofs.draft.Draft.awaited_by.Goals as goal

pub index-requires : goal.index-requires
index-requires c =
    let r = c.in-Reads-default-eq0-default in
    let low = read_low c.requires.machine c.args.self.now c.requires.is c.args.state r.from r.count r.before r.is
    (sym r.count-is ∙ r.count-test) c.requires.occurs c.requires.proper in
    omega arith

pub returns-in-Tape-clause-tells : goal.returns-in-Tape-clause-tells
returns-in-Tape-clause-tells c = λ m is occurs proper.
    let r = c.in-Reads-default-eq0-default in
    read_tells m c.args.self.now is c.args.state r.from r.count r.before r.is (sym r.count-is ∙ r.count-test)
    c.index.result.now c.index.ensures occurs proper c.in-Tape.tape c.in-Tape.field-1 c.in-Tape.is

pub returns-in-Tape-clause-tape : goal.returns-in-Tape-clause-tape
returns-in-Tape-clause-tape c =
    let r = c.in-Reads-default-eq0-default in
    read_tape c.requires.machine c.args.self.now c.requires.is c.args.state r.from r.count r.before r.is
    (sym r.count-is ∙ r.count-test) c.index.result.now c.index.ensures c.requires.occurs c.requires.proper
    c.in-Tape.tape c.in-Tape.field-1 c.in-Tape.is

pub returns-in-Outside-clause-tells : goal.returns-in-Outside-clause-tells
returns-in-Outside-clause-tells c = λ m is occurs proper.
    let r = c.in-Reads-default-eq0-default in
    absurd (read_inside m c.args.self.now is c.args.state r.from r.count r.before r.is (sym r.count-is ∙ r.count-test)
    c.index.result.now c.index.ensures occurs proper c.in-Outside.is)

use Rattle.std.proofs.Common.{sym}
use Rattle.bn_network_assembly.proofs.StartLemmas.{left_state, head_state, right_state, blank_state}
use Rattle.bn_network_assembly.proofs.start.start_state.Goals as goal

pub returns-then-cell-left : goal.returns-then-cell-left
returns-then-cell-left c = sym (left_state c.args.symbols c.args.left c.args.cell c.args.word.now c.if-cell-left.true)

pub returns-then-cell-left-2 : goal.returns-then-cell-left-2
returns-then-cell-left-2 c = sym (head_state c.args.symbols c.args.left c.args.cell c.args.word.now
    c.if-cell-left-2.true)

pub returns-then-letter-word : goal.returns-then-letter-word
returns-then-letter-word c = sym (right_state c.args.symbols c.args.left c.args.cell c.args.word.now
    c.if-cell-left.false c.if-cell-left-2.false)

pub returns-else-letter-word : goal.returns-else-letter-word
returns-else-letter-word c = sym (blank_state c.args.symbols c.args.left c.args.cell c.args.word.now
    c.if-cell-left.false c.if-cell-left-2.false c.if-letter-word.false)

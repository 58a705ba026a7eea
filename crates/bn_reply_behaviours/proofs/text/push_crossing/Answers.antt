use Rattle.std.proofs.Common.{◌≡◌, ◌++◌, subst}
use Rattle.std.specs.Prelude.{OnOk}
use Rattle.bn_lists.proofs.MemberLemmas.{member_at}
use Rattle.bn_reply_behaviours.proofs.TextLemmas.{ports_line}
use Rattle.bn_reply_behaviours.proofs.text.push_crossing.Goals as goal

pub push_line-requires-clause-input : goal.push_line-requires-clause-input
push_line-requires-clause-input c = c.requires.input_port c.get-input.result
    (member_at c.args.ports.now.inputs c.args.step.line c.get-input.result c.get-input.ensures)

pub push_line-requires-clause-output : goal.push_line-requires-clause-output
push_line-requires-clause-output c = c.requires.output_port c.get-output.result
    (member_at c.args.ports.now.outputs c.args.step.out c.get-output.result c.get-output.ensures)

pub returns : goal.returns
returns c = subst (λ l. OnOk c.push_line.result (c.push_line.new.text.items ≡ c.args.text.now.items ++ l))
    (ports_line c.args.ports.now c.args.step c.get-input.result c.get-output.result c.get-input.ensures
    c.get-output.ensures) c.push_line.ensures

use Rattle.std.proofs.Common.{◌++◌, ap, ◌∙◌}
use Rattle.std.specs.Prelude.{codes, decimal}
use Rattle.std.proofs.lemmas.Result.{on_ok_weaker}
use Rattle.bn_bennett_laws.specs.List.{symbols_of}
use Rattle.bn_reply_boards.proofs.PieceLemmas.{four_pieces}
use Rattle.bn_reply_layout.specs.ControlText.{names_text}
use Rattle.bn_reply_layout.proofs.control_text.push_line.Goals as goal

pub returns : goal.returns
returns c =
    on_ok_weaker c.push_names.result (λ last.
    four_pieces c.args.text.now.items (codes "line ") (decimal c.args.line) (codes " of control in ")
    (names_text (symbols_of c.args.table.now.machine) c.args.line) c.push.new.text.items
    c.push_u64.new.out.items c.push-2.new.text.items c.push_names.new.text.items c.in_ok-push.ensures.added
    (c.in_ok-push_u64.ensures.ok ∙ ap (λ n. c.push.new.text.items ++ decimal n) c.from.ensures)
    c.in_ok-push-2.ensures.added last) c.push_names.ensures

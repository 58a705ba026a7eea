use Rattle.std.specs.Prelude.{◌≡◌, codes, decimal, slice_index_or, []}
use Rattle.std.proofs.Common.{rules, sym}
use Rattle.std.proofs.lemmas.Option.{get_or_from_slice_get}
use Rattle.std.proofs.lemmas.Result.{on_ok_weaker}
use Rattle.bn_reply_traces.specs.MomentText.{letter_text, rule_text}
use Rattle.bn_reply_traces.specs.Stages.{shown_text}
use Rattle.bn_reply_traces.proofs.TextLemmas.{six_pieces}
use Rattle.bn_reply_traces.proofs.trace.push_moment.Goals as goal

pub returns : goal.returns
returns c = λ u count s counted.
    let t = c.args.table.now in
    let state = c.args.stage.now.state in
    let first = c.args.stage.now.extent.first in
    let name : c.state_name.result.now ≡ slice_index_or t.names state [] =
    sym (get_or_from_slice_get t.names state c.state_name.result.now [] c.state_name.ensures)
    in
    on_ok_weaker c.push-3.result (λ last.
    six_pieces c.args.text.now.items (decimal c.args.steps) (codes " ") (slice_index_or t.names state [])
    (shown_text (letter_text t) u first count) (rule_text c.args.rule) (codes "\n") c.push_u64.new.out.items
    c.push.new.text.items c.push-2.new.text.items c.push_tape.new.text.items c.push_rule.new.text.items
    c.push-3.new.text.items (search rules) c.in_ok-push.ensures.added (rw (sym name) c.in_ok-push-2.ensures.added)
    (c.in_ok-push_tape.ensures u count s counted) c.in_ok-push_rule.ensures last) c.push-3.ensures.added

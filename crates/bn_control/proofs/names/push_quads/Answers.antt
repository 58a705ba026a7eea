use Rattle.std.proofs.Common.{◌++◌, ◌∙◌, ap, map}
use Rattle.bn_control.specs.declared.command.Command.{Command}
use Rattle.bn_control.specs.Listed.{names_from}
use Rattle.bn_control.proofs.StateNameLemmas.{next_quad}
use Rattle.bn_control.proofs.names.push_quads.Goals as goal

pub loop-index-preserved : goal.loop-index-preserved
loop-index-preserved c rs kept =
    next_quad c.args.quads.now rs c.loop-index.index _ (c.args.names.now.items ++ names_from 1 rs)
    c.loop-index.names.items c.push_states.new.names.items kept c.loop-index-test.true
    (c.loop-index.invariant rs kept) (λ r e. c.in_ok-push_states.ensures
    ∙ ap (λ l. c.loop-index.names.items ++ map (λ (x : Command). x.sending.state) l)
    (c.as_slice.ensures.value ∙ c.in_ok-commands.ensures r e))

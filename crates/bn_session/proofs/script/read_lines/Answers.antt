-- The line that was read asks for the command that was added.
use Rattle.std.specs.Prelude.{◌≡◌, ◌++◌, ◌∷◌, [], Some}
use Rattle.std.proofs.Common.{subst, ◌∙◌}
use Rattle.bn_session.specs.Progress.{Advances}
use Rattle.bn_session.proofs.ScriptLemmas.{one_more_read}
use Rattle.bn_session.proofs.PlayLemmas.{asked_orderly}
use Rattle.bn_session.proofs.script.read_lines.Goals as goal

pub loop-commands-preserved : goal.loop-commands-preserved
loop-commands-preserved c =
    let before = c.loop-commands in
    let line = subst (λ o. Advances before.scope.states before.scope.standing before.lines o c.read_line.new.lines
    c.read_line.new.self.standing) c.in-Some.is c.in_ok-command.ensures.read in
    let next = subst (λ n. Advances n before.scope.standing before.lines (Some c.in-Some.command) c.read_line.new.lines
    c.read_line.new.self.standing) before.invariant.states line in
    let items : c.push.new.self.items ≡ before.commands.items ++ c.in-Some.command ∷ [] =
    rw c.if-is_err.ensures.negation at c.push.ensures.items in
    let more = one_more_read c.args.states before.scope.standing c.args.bytes.now before.lines
    c.read_line.new.lines before.commands.items c.in-Some.command c.read_line.new.self.standing
    before.invariant.read before.invariant.standing next in
    rw items (record {
      read = more.0;
      standing = more.1;
      states = c.in_ok-command.ensures.states ∙ before.invariant.states;
    })

pub invariant_of-result : goal.invariant_of-result
invariant_of-result c = asked_orderly c.args.states [] c.loop-commands.invariant.read.sentences
    c.loop-commands.commands.items c.loop-commands.invariant.read.asked

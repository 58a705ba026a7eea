-- The lines before this place ask for the commands so far, and the labels that stand are theirs.
use Rattle.std.proofs.Common.{◌≡◌, length}
use Rattle.bn_session.specs.Labels.{standing_by}
use Rattle.bn_session.specs.Progress.{HasRead}
use Rattle.bn_session.proofs.script.read_lines.Given as goal

abbrev pub invariant-loop-commands : goal.invariant-loop-commands
invariant-loop-commands l = record {
  read : HasRead l.fn.states l.fn.bytes l.lines l.commands.items;
  standing : l.scope.standing ≡ standing_by l.commands.items;
  states : l.scope.states ≡ l.fn.states;
}

abbrev pub decreases-loop-commands : goal.decreases-loop-commands
decreases-loop-commands l = length l.lines

use Rattle.std.proofs.Common.{◌≤◌, length}
use Rattle.bn_base.specs.declared.limits.TheConstants.{MOST_COUNT}
use Rattle.bn_network_text.proofs.AimLemmas.{AreRead}
use Rattle.bn_network_text.proofs.forms.aims.Given as goal

abbrev pub invariant-loop : goal.invariant-loop
invariant-loop l = record {
  read : AreRead MOST_COUNT l.fn.cursor l.aims.items l.counter l.cursor;
  few : length l.aims.items ≤ l.counter;
}

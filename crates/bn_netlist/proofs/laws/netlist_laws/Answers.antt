use Rattle.bn_netlist.proofs.NetLemmas.{circuits-agree}
use Rattle.bn_netlist.proofs.TakenLineLemmas.{refused-lines-refuse, rests-are-malformed, lines-behind-are-malformed}
use Rattle.bn_netlist.proofs.TakenLineLemmas.{lines-are-read, other-lines-are-not, long-lines-are-not}
use Rattle.std.proofs.Common.{refl}
use Rattle.bn_netlist.proofs.laws.netlist_laws.Goals as goal

pub returns : goal.returns
returns _ = record {
  circuits_agree = circuits-agree;
  lines_refuse_texts = (refused-lines-refuse, rests-are-malformed, lines-behind-are-malformed);
  lines_are_read = (lines-are-read, other-lines-are-not, long-lines-are-not);
  longest_line_is_stated = refl;
}

use Rattle.std.proofs.Common.{◌++◌, arith, length-append}
use Rattle.bn_netlist.proofs.PieceLemmas.{too_long}
use Rattle.bn_netlist.proofs.front.keep.Goals as goal

pub returns-then-saturating_add-gt-LONGEST_LINE-clause-refused :
    goal.returns-then-saturating_add-gt-LONGEST_LINE-clause-refused
returns-then-saturating_add-gt-LONGEST_LINE-clause-refused c =
    λ lines stage taken numbered in_line rest. too_long stage lines (c.args.line.now.items ++ c.args.more.now) rest
    c.args.number taken in_line (let both = length-append c.args.line.now.items c.args.more.now in omega arith)
    numbered

use Rattle.std.proofs.Common.{rules, ◌<◌, sym, subst}
use Rattle.bn_packed.proofs.EndLemmas.{four_out}
use Rattle.bn_packed.proofs.CopiedLemmas.{told_one, told_none}
use Rattle.bn_packed.proofs.to_net.push_line.Goals as goal

pub target-requires : goal.target-requires
target-requires c =
    subst (λ n. c.args.from.line < n)
    (sym (four_out c.args.packed.now.net.elements c.args.from.element c.requires.element)) c.requires.line

pub returns-in-None-clause-wires : goal.returns-in-None-clause-wires
returns-in-None-clause-wires c =
    told_none c.args.packed.now.net c.requires.circuit c.args.from.element c.args.from.line c.args.wires.now.items
    (search rules) c.requires.earlier

pub returns-in_ok-push-in-Some-clause-wires : goal.returns-in_ok-push-in-Some-clause-wires
returns-in_ok-push-in-Some-clause-wires c =
    rw c.in_ok-push-in-Some.ensures.items
    (told_one c.args.packed.now.net c.requires.circuit c.args.from.element c.args.from.line c.in-Some.to
    c.args.wires.now.items (search rules) c.requires.earlier)

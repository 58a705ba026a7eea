use Rattle.std.proofs.Common.{◌≡◌, ◌∙◌, ap, map}
use Rattle.bn_quad.specs.Kept.{quad_of}
use Rattle.bn_quad.specs.Quadruples.{Quadruples}
use Rattle.bn_reply_builds.proofs.ReadsLemmas.{none_leaves, reads_all, reads_none}
use Rattle.bn_reply_builds.proofs.stop.reads_tape.Goals as goal

pub returns-in-Some-clause-yes : goal.returns-in-Some-clause-yes
returns-in-Some-clause-yes c = λ told n r stands from.
    let listed : c.quads.result.now ≡ map quad_of c.args.machine.now.rules =
    c.quads.ensures.value ∙ ap (λ (m : Quadruples). map quad_of m.rules) c.machine.ensures.value in
    reads_all c.args.machine.now c.machine.ensures.uniform c.quads.result.now listed c.args.state c.in-Some.quad
    c.in-Some.ensures.found c.args.tape
    c.is_read.result c.is_read.ensures n r stands from told

pub returns-in-Some-clause-no : goal.returns-in-Some-clause-no
returns-in-Some-clause-no c = λ told n r stands from.
    let listed : c.quads.result.now ≡ map quad_of c.args.machine.now.rules =
    c.quads.ensures.value ∙ ap (λ (m : Quadruples). map quad_of m.rules) c.machine.ensures.value in
    reads_none c.args.machine.now c.machine.ensures.uniform c.quads.result.now listed c.args.state c.in-Some.quad
    c.in-Some.ensures.found c.args.tape
    c.is_read.result c.is_read.ensures n r stands from told

pub returns-in-None-clause-no : goal.returns-in-None-clause-no
returns-in-None-clause-no c = λ told n r stands from reads.
    let listed : c.quads.result.now ≡ map quad_of c.args.machine.now.rules =
    c.quads.ensures.value ∙ ap (λ (m : Quadruples). map quad_of m.rules) c.machine.ensures.value in
    none_leaves c.args.machine.now c.machine.ensures.uniform c.quads.result.now listed c.args.state
    c.in-None.ensures.none n r stands from

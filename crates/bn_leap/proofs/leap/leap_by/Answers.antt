use Rattle.std.proofs.Common.{arith}
use Rattle.bn_leap.proofs.EntryLemmas.{at-Known, at-Led, element_low}
use Rattle.bn_leap.proofs.leap.leap_by.Goals as goal

pub element_at-requires : goal.element_at-requires
element_at-requires c =
    let v = c.args.entry.now in
    let h = at-Known c.args.packed.now.net c.args.packed.now.config v c.requires.at in
    let row = h.row in
    let low = element_low v.first v.lines c.args.state v.states v.row c.requires.state (omega arith) in
    let few = h.few in
    omega arith

pub target-turned-requires : goal.target-turned-requires
target-turned-requires c =
    rw c.element_at.ensures ((at-Known c.args.packed.now.net c.args.packed.now.config c.args.entry.now
    c.requires.at).turning c.args.state c.requires.state)

pub overflow_sub-to : goal.overflow_sub-to
overflow_sub-to c =
    (at-Led c.args.packed.now.net c.args.packed.now.config c.args.entry.now c.args.state c.element_at.result
    c.in-Some.to c.requires.at c.requires.state
    c.requires.marked c.element_at.ensures c.in-Some.ensures.line).low

pub overflow_add-entry : goal.overflow_add-entry
overflow_add-entry c =
    let v = c.args.entry.now in
    let h = at-Known c.args.packed.now.net c.args.packed.now.config v c.requires.at in
    let low = element_low v.first v.lines c.args.state v.states v.lines c.requires.state (omega arith) in
    let few = h.few in
    omega arith

pub leap_to-requires : goal.leap_to-requires
leap_to-requires c =
    (at-Led c.args.packed.now.net c.args.packed.now.config c.args.entry.now c.args.state c.element_at.result
    c.in-Some.to c.requires.at c.requires.state
    c.requires.marked c.element_at.ensures c.in-Some.ensures.line).move c.place_of.result c.place_of.ensures.whole
    c.place_of.ensures.row

pub returns-in-Some : goal.returns-in-Some
returns-in-Some c =
    rw c.leap_to.ensures ((at-Led c.args.packed.now.net c.args.packed.now.config c.args.entry.now c.args.state
    c.element_at.result c.in-Some.to
    c.requires.at c.requires.state c.requires.marked c.element_at.ensures c.in-Some.ensures.line).leap c.place_of.result
    c.place_of.ensures.whole
    c.place_of.ensures.row)

use Rattle.std.proofs.Common.{◌≡◌, ◌<◌, ◌∙◌, refl, arith, subst}
use Rattle.bn_io.specs.Told.{Grows, GrowsByFront}
use Rattle.bn_netlist.proofs.GivingLemmas.{given_none, given_more, given_front, given_front_more, given_whole}
use Rattle.bn_netlist.proofs.GivingLemmas.{given_last}
use Rattle.bn_netlist.proofs.write_to.give_entries.Goals as goal

pub loop-line-init : goal.loop-line-init
loop-line-init g c =
    let v = g.C.Spellable.version c.args.config.now in
    let s = g.C.Spellable.spelling c.args.config.now in
    (given_none v s (g.K.Sink.taken c.args.sink.now) c.args.text.now.items c.requires.header, refl)

pub returns-in_default-clause-front : goal.returns-in_default-clause-front
returns-in_default-clause-front g c =
    let v = g.C.Spellable.version c.args.config.now in
    let s = g.C.Spellable.spelling c.args.config.now in
    given_front v s (g.K.Sink.taken c.args.sink.now) (g.K.Sink.taken c.loop-line.sink) c.loop-line.text.items
    c.loop-line.line c.loop-line.place.element c.loop-line.place.rows c.requires.admitted c.loop-line.invariant.0

pub returns-in-Err-clause-front : goal.returns-in-Err-clause-front
returns-in-Err-clause-front g c =
    let v = g.C.Spellable.version c.args.config.now in
    let s = g.C.Spellable.spelling c.args.config.now in
    let short : c.loop-line.line < s.elements = omega (arith, c.loop-line-test.true, c.len-line-end.ensures) in
    given_front_more v s (g.K.Sink.taken c.args.sink.now) (g.K.Sink.taken c.loop-line.sink)
    (g.K.Sink.taken c.give_pieces.new.sink) c.loop-line.text.items c.push_line.new.text.items c.loop-line.line
    c.loop-line.place.element c.loop-line.place.rows c.in-Ok.next.element c.in-Ok.next.rows short c.requires.admitted
    c.loop-line.invariant.0 c.in-Ok.ensures c.in-Err.ensures.front

pub loop-line-preserved : goal.loop-line-preserved
loop-line-preserved g c =
    let v = g.C.Spellable.version c.args.config.now in
    let s = g.C.Spellable.spelling c.args.config.now in
    let short : c.loop-line.line < s.elements = omega (arith, c.loop-line-test.true, c.len-line-end.ensures) in
    let i = c.loop-line.invariant in (
      given_more v s (g.K.Sink.taken c.args.sink.now) (g.K.Sink.taken c.loop-line.sink)
          (g.K.Sink.taken c.give_pieces.new.sink) c.loop-line.text.items c.push_line.new.text.items
          c.give_pieces.new.text.items c.loop-line.line c.loop-line.place.element c.loop-line.place.rows
          c.in-Ok.next.element c.in-Ok.next.rows short i.0 c.in-Ok.ensures c.in-Ok-give_pieces.ensures.given,
      c.in-Ok-give_pieces.ensures.kept ∙ i.1,
    )

pub returns-in-Ok-write_all-clause-whole : goal.returns-in-Ok-write_all-clause-whole
returns-in-Ok-write_all-clause-whole g c =
    let v = g.C.Spellable.version c.args.config.now in
    let s = g.C.Spellable.spelling c.args.config.now in
    let all : c.loop-line.line ≡ s.elements =
    omega (arith, c.loop-line-test.false, c.loop-line.auto.line-end, c.len-line-end.ensures) in
    given_whole v s (g.K.Sink.taken c.args.sink.now) (g.K.Sink.taken c.loop-line.sink)
    (g.K.Sink.taken c.write_all.new.sink) c.loop-line.text.items c.loop-line.line c.loop-line.place.element
    c.loop-line.place.rows c.requires.admitted c.loop-line.invariant.0 all
    (subst (Grows (g.K.Sink.taken c.loop-line.sink) (g.K.Sink.taken c.write_all.new.sink)) c.as_slice.ensures.value
    c.in-Ok-write_all.ensures.whole)

pub returns-in-Err-write_all-clause-front : goal.returns-in-Err-write_all-clause-front
returns-in-Err-write_all-clause-front g c =
    let v = g.C.Spellable.version c.args.config.now in
    let s = g.C.Spellable.spelling c.args.config.now in
    let all : c.loop-line.line ≡ s.elements =
    omega (arith, c.loop-line-test.false, c.loop-line.auto.line-end, c.len-line-end.ensures) in
    given_last v s (g.K.Sink.taken c.args.sink.now) (g.K.Sink.taken c.loop-line.sink)
    (g.K.Sink.taken c.write_all.new.sink) c.loop-line.text.items c.loop-line.line c.loop-line.place.element
    c.loop-line.place.rows c.requires.admitted c.loop-line.invariant.0 all
    (subst (GrowsByFront (g.K.Sink.taken c.loop-line.sink) (g.K.Sink.taken c.write_all.new.sink))
    c.as_slice.ensures.value c.in-Err-write_all.ensures.front)

-- What each command leaves, where its answer was written and where it wasn't.
use Rattle.std.proofs.Common.{refl, codes, None, ◌++◌, ◌∷◌, []}
use Rattle.std.specs.Option.{option_copied}
use Rattle.std.proofs.lemmas.Result.{on_ok_weaker, on_err_weaker}
use Rattle.bn_circuits.specs.Stepping.{run, back}
use Rattle.bn_session.specs.Breakpoints.{breakpoint, without_break}
use Rattle.bn_session.specs.Plays.{session, label_that_holds, place_line, label_line}
use Rattle.bn_session.specs.declared.command.Command.TheVariants.{Step, Back, Go, Rev, BreakState, BreakElement}
use Rattle.bn_session.specs.declared.command.Command.TheVariants.{BreakLine, Drop}
use Rattle.bn_session.specs.declared.condition.Condition.TheVariants.{AtState, AtElement, AtLine}
use Rattle.bn_session.proofs.PlayLemmas.{left_unwritten, left_view, view_written, named_is, place_written}
use Rattle.bn_session.proofs.player.play_command.Goals as goal

pub returns-in-Step-clause-left : goal.returns-in-Step-clause-left
returns-in-Step-clause-left g c =
    let a = c.args.circuit.now in
    let k = g.C.Playable.circuit a in
    let moment = g.C.Playable.moment a in
    let shows = g.C.Playable.shown a c.args.writer.now in
    let c0 = g.C.Playable.config a in
    let s = session c0 c.args.breaks.now in
    let far = run k c0 c.in-Step.count in
    on_err_weaker c.write_place.result (λ kept. left_unwritten k moment shows s c.args.command.now
    (Step c.in-Step.count) (session far c.args.breaks.now) (place_line far None)
    (g.C.Playable.config c.run.new.self) c.args.out.now.items c.write_place.new.out.items c.in-Step.is
    (refl, refl) c.run.ensures.ran kept) c.write_place.ensures.err

pub returns-in-Back-clause-left : goal.returns-in-Back-clause-left
returns-in-Back-clause-left g c =
    let a = c.args.circuit.now in
    let k = g.C.Playable.circuit a in
    let moment = g.C.Playable.moment a in
    let shows = g.C.Playable.shown a c.args.writer.now in
    let c0 = g.C.Playable.config a in
    let s = session c0 c.args.breaks.now in
    let far = back k c0 c.in-Back.count in
    on_err_weaker c.write_place-in-Back.result (λ kept. left_unwritten k moment shows s c.args.command.now
    (Back c.in-Back.count) (session far c.args.breaks.now) (place_line far None)
    (g.C.Playable.config c.run-in-Back.new.self) c.args.out.now.items c.write_place-in-Back.new.out.items c.in-Back.is
    (refl, refl) c.run-in-Back.ensures.ran kept) c.write_place-in-Back.ensures.err

pub returns-in-Go-clause-played : goal.returns-in-Go-clause-played
returns-in-Go-clause-played g c =
    let a = c.args.circuit.now in
    let k = g.C.Playable.circuit a in
    let moment = g.C.Playable.moment a in
    let shows = g.C.Playable.shown a c.args.writer.now in
    let c0 = g.C.Playable.config a in
    let s = session c0 c.args.breaks.now in
    let d = g.C.Playable.config c.go.new.circuit in
    let moments = g.met.C.Playable.moments a c.go.new.circuit c.go.ensures.same in
    on_ok_weaker c.write_place-in-Go.result (λ written. place_written k moment shows s c.args.command.now
    (Go c.in-Go.count) (session d c.args.breaks.now) (option_copied c.named.result)
    (label_that_holds moment c.args.breaks.now c0 d) c.args.out.now.items c.write_place-in-Go.new.out.items c.in-Go.is
    (c.go.ensures.stop, refl, refl) (named_is moment (g.C.Playable.moment c.go.new.circuit) moments
    c.args.breaks.now c0 d c.named.result (c.named.ensures c0 c.steps-steps.ensures)) written)
    c.write_place-in-Go.ensures.ok

pub returns-in-Go-clause-left : goal.returns-in-Go-clause-left
returns-in-Go-clause-left g c =
    let a = c.args.circuit.now in
    let k = g.C.Playable.circuit a in
    let moment = g.C.Playable.moment a in
    let shows = g.C.Playable.shown a c.args.writer.now in
    let c0 = g.C.Playable.config a in
    let s = session c0 c.args.breaks.now in
    let d = g.C.Playable.config c.go.new.circuit in
    on_err_weaker c.write_place-in-Go.result (λ kept. left_unwritten k moment shows s c.args.command.now
    (Go c.in-Go.count) (session d c.args.breaks.now)
    (place_line d (label_that_holds moment c.args.breaks.now c0 d)) d c.args.out.now.items
    c.write_place-in-Go.new.out.items c.in-Go.is (c.go.ensures.stop, refl, refl) refl kept)
    c.write_place-in-Go.ensures.err

pub returns-in-Rev-clause-played : goal.returns-in-Rev-clause-played
returns-in-Rev-clause-played g c =
    let a = c.args.circuit.now in
    let k = g.C.Playable.circuit a in
    let moment = g.C.Playable.moment a in
    let shows = g.C.Playable.shown a c.args.writer.now in
    let c0 = g.C.Playable.config a in
    let s = session c0 c.args.breaks.now in
    let d = g.C.Playable.config c.go-in-Rev.new.circuit in
    let moments = g.met.C.Playable.moments a c.go-in-Rev.new.circuit c.go-in-Rev.ensures.same in
    on_ok_weaker c.write_place-in-Rev.result (λ written. place_written k moment shows s c.args.command.now
    (Rev c.in-Rev.count) (session d c.args.breaks.now) (option_copied c.named-in-Rev.result)
    (label_that_holds moment c.args.breaks.now c0 d) c.args.out.now.items c.write_place-in-Rev.new.out.items c.in-Rev.is
    (c.go-in-Rev.ensures.stop, refl, refl) (named_is moment (g.C.Playable.moment c.go-in-Rev.new.circuit) moments
    c.args.breaks.now c0 d c.named-in-Rev.result (c.named-in-Rev.ensures c0 c.steps-steps-in-Rev.ensures)) written)
    c.write_place-in-Rev.ensures.ok

pub returns-in-Rev-clause-left : goal.returns-in-Rev-clause-left
returns-in-Rev-clause-left g c =
    let a = c.args.circuit.now in
    let k = g.C.Playable.circuit a in
    let moment = g.C.Playable.moment a in
    let shows = g.C.Playable.shown a c.args.writer.now in
    let c0 = g.C.Playable.config a in
    let s = session c0 c.args.breaks.now in
    let d = g.C.Playable.config c.go-in-Rev.new.circuit in
    on_err_weaker c.write_place-in-Rev.result (λ kept. left_unwritten k moment shows s c.args.command.now
    (Rev c.in-Rev.count) (session d c.args.breaks.now)
    (place_line d (label_that_holds moment c.args.breaks.now c0 d)) d c.args.out.now.items
    c.write_place-in-Rev.new.out.items c.in-Rev.is (c.go-in-Rev.ensures.stop, refl, refl) refl kept)
    c.write_place-in-Rev.ensures.err

pub returns-in-BreakState-clause-left : goal.returns-in-BreakState-clause-left
returns-in-BreakState-clause-left g c =
    let a = c.args.circuit.now in
    let k = g.C.Playable.circuit a in
    let moment = g.C.Playable.moment a in
    let shows = g.C.Playable.shown a c.args.writer.now in
    let c0 = g.C.Playable.config a in
    let s = session c0 c.args.breaks.now in
    on_err_weaker c.set_break.result (λ kept. left_unwritten k moment shows s c.args.command.now
    (BreakState c.in-BreakState.label c.in-BreakState.state)
    (session c0 (c.args.breaks.now ++ breakpoint c.in-BreakState.label
    (AtState c.in-BreakState.state) ∷ []))
    (label_line (codes "break ") c.in-BreakState.label) c0 c.args.out.now.items c.set_break.new.out.items
    c.in-BreakState.is (refl, refl) refl kept) c.set_break.ensures.err

pub returns-in-BreakElement-clause-left : goal.returns-in-BreakElement-clause-left
returns-in-BreakElement-clause-left g c =
    let a = c.args.circuit.now in
    let k = g.C.Playable.circuit a in
    let moment = g.C.Playable.moment a in
    let shows = g.C.Playable.shown a c.args.writer.now in
    let c0 = g.C.Playable.config a in
    let s = session c0 c.args.breaks.now in
    on_err_weaker c.set_break-in-BreakElement.result (λ kept. left_unwritten k moment shows s c.args.command.now
    (BreakElement c.in-BreakElement.label c.in-BreakElement.element)
    (session c0 (c.args.breaks.now ++ breakpoint c.in-BreakElement.label
    (AtElement c.in-BreakElement.element) ∷ []))
    (label_line (codes "break ") c.in-BreakElement.label) c0 c.args.out.now.items
    c.set_break-in-BreakElement.new.out.items
    c.in-BreakElement.is (refl, refl) refl kept) c.set_break-in-BreakElement.ensures.err

pub returns-in-BreakLine-clause-left : goal.returns-in-BreakLine-clause-left
returns-in-BreakLine-clause-left g c =
    let a = c.args.circuit.now in
    let k = g.C.Playable.circuit a in
    let moment = g.C.Playable.moment a in
    let shows = g.C.Playable.shown a c.args.writer.now in
    let c0 = g.C.Playable.config a in
    let s = session c0 c.args.breaks.now in
    on_err_weaker c.set_break-in-BreakLine.result (λ kept. left_unwritten k moment shows s c.args.command.now
    (BreakLine c.in-BreakLine.label c.in-BreakLine.element c.in-BreakLine.line)
    (session c0 (c.args.breaks.now ++ breakpoint c.in-BreakLine.label
    (AtLine c.in-BreakLine.element c.in-BreakLine.line) ∷ []))
    (label_line (codes "break ") c.in-BreakLine.label) c0 c.args.out.now.items c.set_break-in-BreakLine.new.out.items
    c.in-BreakLine.is (refl, refl) refl kept) c.set_break-in-BreakLine.ensures.err

pub returns-in-Drop-clause-left : goal.returns-in-Drop-clause-left
returns-in-Drop-clause-left g c =
    let a = c.args.circuit.now in
    let k = g.C.Playable.circuit a in
    let moment = g.C.Playable.moment a in
    let shows = g.C.Playable.shown a c.args.writer.now in
    let c0 = g.C.Playable.config a in
    let s = session c0 c.args.breaks.now in
    on_err_weaker c.write_label.result (λ kept. left_unwritten k moment shows s c.args.command.now
    (Drop c.in-Drop.label) (session c0 (without_break c.in-Drop.label c.args.breaks.now))
    (label_line (codes "drop ") c.in-Drop.label) c0 c.args.out.now.items c.write_label.new.out.items
    c.in-Drop.is (refl, refl) refl kept) c.write_label.ensures.err

pub returns-in-View-clause-played : goal.returns-in-View-clause-played
returns-in-View-clause-played g c =
    let a = c.args.circuit.now in
    let k = g.C.Playable.circuit a in
    let moment = g.C.Playable.moment a in
    let shows = g.C.Playable.shown a c.args.writer.now in
    let c0 = g.C.Playable.config a in
    let s = session c0 c.args.breaks.now in
    on_ok_weaker c.show.result (λ grows. view_written k moment shows s c.args.command.now c.args.out.now.items
    c.show.new.out.items c.in-View.is grows) c.show.ensures.shown

pub returns-in-View-clause-left : goal.returns-in-View-clause-left
returns-in-View-clause-left g c =
    let a = c.args.circuit.now in
    let k = g.C.Playable.circuit a in
    let moment = g.C.Playable.moment a in
    let shows = g.C.Playable.shown a c.args.writer.now in
    let c0 = g.C.Playable.config a in
    let s = session c0 c.args.breaks.now in
    on_err_weaker c.show.result (λ cut. left_view k moment shows s c.args.command.now c.args.out.now.items
    c.show.new.out.items c.in-View.is cut) c.show.ensures.cut

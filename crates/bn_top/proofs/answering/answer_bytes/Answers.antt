-- The answer to a request on a whole input is that to what was asked.
use Rattle.bn_top.proofs.Commands.{aloud, given, silently}
use Rattle.bn_top.proofs.answering.answer_bytes.Goals as goal

pub returns-in-Check-clause-ends : goal.returns-in-Check-clause-ends
returns-in-Check-clause-ends g c =
    silently c.args.asked.now _ c.in-Check.is c.args.bytes.now c.give_reply.result (g.K.Sink.taken c.args.sink.now)
    (g.K.Sink.taken c.give_reply.new.sink) (g.K.Sink.faults c.args.sink.now) (g.K.Sink.faults c.give_reply.new.sink)
    c.reply_check.result (g.W.Watch.told c.args.watch.now) c.reply_check.ensures c.give_reply.ensures.ends

pub returns-in-Machine-clause-ends : goal.returns-in-Machine-clause-ends
returns-in-Machine-clause-ends g c =
    silently c.args.asked.now _ c.in-Machine.is c.args.bytes.now c.give_reply-in-Machine.result
    (g.K.Sink.taken c.args.sink.now)
    (g.K.Sink.taken c.give_reply-in-Machine.new.sink) (g.K.Sink.faults c.args.sink.now)
    (g.K.Sink.faults c.give_reply-in-Machine.new.sink)
    c.reply_machine.result (g.W.Watch.told c.args.watch.now) c.reply_machine.ensures
    c.give_reply-in-Machine.ensures.ends

pub returns-in-Trace-clause-ends : goal.returns-in-Trace-clause-ends
returns-in-Trace-clause-ends g c =
    given c.args.asked.now _ c.in-Trace.is c.args.bytes.now c.answer_trace.result (g.K.Sink.taken c.args.sink.now)
    (g.K.Sink.taken c.answer_trace.new.sink) (g.K.Sink.faults c.args.sink.now) (g.K.Sink.faults c.answer_trace.new.sink)
    (g.W.Watch.told c.args.watch.now) (g.W.Watch.told c.args.watch.now)
    (c.answer_trace.ensures.ends (g.W.Watch.told c.args.watch.now))

pub returns-in-Moments-clause-ends : goal.returns-in-Moments-clause-ends
returns-in-Moments-clause-ends g c =
    given c.args.asked.now _ c.in-Moments.is c.args.bytes.now c.answer_moments.result (g.K.Sink.taken c.args.sink.now)
    (g.K.Sink.taken c.answer_moments.new.sink) (g.K.Sink.faults c.args.sink.now)
    (g.K.Sink.faults c.answer_moments.new.sink)
    (g.W.Watch.told c.args.watch.now) (g.W.Watch.told c.args.watch.now)
    (c.answer_moments.ensures.ends (g.W.Watch.told c.args.watch.now))

pub returns-in-ThreeMoments-clause-ends : goal.returns-in-ThreeMoments-clause-ends
returns-in-ThreeMoments-clause-ends g c =
    given c.args.asked.now _ c.in-ThreeMoments.is c.args.bytes.now c.answer_three_moments.result
    (g.K.Sink.taken c.args.sink.now)
    (g.K.Sink.taken c.answer_three_moments.new.sink) (g.K.Sink.faults c.args.sink.now)
    (g.K.Sink.faults c.answer_three_moments.new.sink)
    (g.W.Watch.told c.args.watch.now) (g.W.Watch.told c.args.watch.now)
    (c.answer_three_moments.ensures.ends (g.W.Watch.told c.args.watch.now))

pub returns-in-Reversible-clause-ends : goal.returns-in-Reversible-clause-ends
returns-in-Reversible-clause-ends g c =
    silently c.args.asked.now _ c.in-Reversible.is c.args.bytes.now c.give_reply-in-Reversible.result
    (g.K.Sink.taken c.args.sink.now)
    (g.K.Sink.taken c.give_reply-in-Reversible.new.sink) (g.K.Sink.faults c.args.sink.now)
    (g.K.Sink.faults c.give_reply-in-Reversible.new.sink)
    c.reply_reversible.result (g.W.Watch.told c.args.watch.now) c.reply_reversible.ensures
    c.give_reply-in-Reversible.ensures.ends

pub returns-in-Inverse-clause-ends : goal.returns-in-Inverse-clause-ends
returns-in-Inverse-clause-ends g c =
    silently c.args.asked.now _ c.in-Inverse.is c.args.bytes.now c.give_reply-in-Inverse.result
    (g.K.Sink.taken c.args.sink.now)
    (g.K.Sink.taken c.give_reply-in-Inverse.new.sink) (g.K.Sink.faults c.args.sink.now)
    (g.K.Sink.faults c.give_reply-in-Inverse.new.sink)
    c.reply_inverse.result (g.W.Watch.told c.args.watch.now) c.reply_inverse.ensures
    c.give_reply-in-Inverse.ensures.ends

pub returns-in-Bennett-clause-ends : goal.returns-in-Bennett-clause-ends
returns-in-Bennett-clause-ends g c =
    silently c.args.asked.now _ c.in-Bennett.is c.args.bytes.now c.give_reply-in-Bennett.result
    (g.K.Sink.taken c.args.sink.now)
    (g.K.Sink.taken c.give_reply-in-Bennett.new.sink) (g.K.Sink.faults c.args.sink.now)
    (g.K.Sink.faults c.give_reply-in-Bennett.new.sink)
    c.reply_bennett.result (g.W.Watch.told c.args.watch.now) c.reply_bennett.ensures
    c.give_reply-in-Bennett.ensures.ends

pub returns-in-Realise-clause-ends : goal.returns-in-Realise-clause-ends
returns-in-Realise-clause-ends g c =
    given c.args.asked.now _ c.in-Realise.is c.args.bytes.now c.answer_realise.result (g.K.Sink.taken c.args.sink.now)
    (g.K.Sink.taken c.answer_realise.new.sink) (g.K.Sink.faults c.args.sink.now)
    (g.K.Sink.faults c.answer_realise.new.sink)
    (g.W.Watch.told c.args.watch.now) (g.W.Watch.told c.args.watch.now)
    (c.answer_realise.ensures.ends (g.W.Watch.told c.args.watch.now))

pub returns-in-Standard-clause-ends : goal.returns-in-Standard-clause-ends
returns-in-Standard-clause-ends g c =
    silently c.args.asked.now _ c.in-Standard.is c.args.bytes.now c.give_reply-in-Standard.result
    (g.K.Sink.taken c.args.sink.now)
    (g.K.Sink.taken c.give_reply-in-Standard.new.sink) (g.K.Sink.faults c.args.sink.now)
    (g.K.Sink.faults c.give_reply-in-Standard.new.sink)
    c.reply_standard.result (g.W.Watch.told c.args.watch.now) c.reply_standard.ensures
    c.give_reply-in-Standard.ensures.ends

pub returns-in-Compile-clause-ends : goal.returns-in-Compile-clause-ends
returns-in-Compile-clause-ends g c =
    given c.args.asked.now _ c.in-Compile.is c.args.bytes.now c.answer_compile.result (g.K.Sink.taken c.args.sink.now)
    (g.K.Sink.taken c.answer_compile.new.sink) (g.K.Sink.faults c.args.sink.now)
    (g.K.Sink.faults c.answer_compile.new.sink)
    (g.W.Watch.told c.args.watch.now) (g.W.Watch.told c.args.watch.now)
    (c.answer_compile.ensures.ends (g.W.Watch.told c.args.watch.now))

pub returns-in-Layout-clause-ends : goal.returns-in-Layout-clause-ends
returns-in-Layout-clause-ends g c =
    given c.args.asked.now _ c.in-Layout.is c.args.bytes.now c.answer_layout.result (g.K.Sink.taken c.args.sink.now)
    (g.K.Sink.taken c.answer_layout.new.sink) (g.K.Sink.faults c.args.sink.now)
    (g.K.Sink.faults c.answer_layout.new.sink)
    (g.W.Watch.told c.args.watch.now) (g.W.Watch.told c.args.watch.now)
    (c.answer_layout.ensures.ends (g.W.Watch.told c.args.watch.now))

pub returns-in-Build-clause-ends : goal.returns-in-Build-clause-ends
returns-in-Build-clause-ends g c =
    given c.args.asked.now _ c.in-Build.is c.args.bytes.now c.answer_build.result (g.K.Sink.taken c.args.sink.now)
    (g.K.Sink.taken c.answer_build.new.sink) (g.K.Sink.faults c.args.sink.now) (g.K.Sink.faults c.answer_build.new.sink)
    (g.W.Watch.told c.args.watch.now) (g.W.Watch.told c.args.watch.now)
    (c.answer_build.ensures.ends (g.W.Watch.told c.args.watch.now))

pub returns-in-Drive-clause-ends : goal.returns-in-Drive-clause-ends
returns-in-Drive-clause-ends g c =
    aloud c.args.asked.now _ c.in-Drive.is c.args.bytes.now c.give_reply-in-Drive.result
    (g.K.Sink.taken c.args.sink.now)
    (g.K.Sink.taken c.give_reply-in-Drive.new.sink) (g.K.Sink.faults c.args.sink.now)
    (g.K.Sink.faults c.give_reply-in-Drive.new.sink)
    c.reply_drive.result (g.W.Watch.told c.args.watch.now) (g.W.Watch.told c.reply_drive.new.watch)
    c.reply_drive.ensures.replied
    c.reply_drive.ensures.interrupted c.give_reply-in-Drive.ensures.ends

pub returns-in-Run-clause-ends : goal.returns-in-Run-clause-ends
returns-in-Run-clause-ends g c =
    aloud c.args.asked.now _ c.in-Run.is c.args.bytes.now c.give_reply-in-Run.result (g.K.Sink.taken c.args.sink.now)
    (g.K.Sink.taken c.give_reply-in-Run.new.sink) (g.K.Sink.faults c.args.sink.now)
    (g.K.Sink.faults c.give_reply-in-Run.new.sink)
    c.reply_run.result (g.W.Watch.told c.args.watch.now) (g.W.Watch.told c.reply_run.new.watch)
    c.reply_run.ensures.replied
    c.reply_run.ensures.interrupted c.give_reply-in-Run.ensures.ends

pub returns-in-RunAuto-clause-ends : goal.returns-in-RunAuto-clause-ends
returns-in-RunAuto-clause-ends g c =
    aloud c.args.asked.now _ c.in-RunAuto.is c.args.bytes.now c.give_reply-in-RunAuto.result
    (g.K.Sink.taken c.args.sink.now)
    (g.K.Sink.taken c.give_reply-in-RunAuto.new.sink) (g.K.Sink.faults c.args.sink.now)
    (g.K.Sink.faults c.give_reply-in-RunAuto.new.sink)
    c.reply_run_auto.result (g.W.Watch.told c.args.watch.now) (g.W.Watch.told c.reply_run_auto.new.watch)
    c.reply_run_auto.ensures.replied
    c.reply_run_auto.ensures.interrupted c.give_reply-in-RunAuto.ensures.ends

pub returns-in-View-clause-ends : goal.returns-in-View-clause-ends
returns-in-View-clause-ends g c =
    silently c.args.asked.now _ c.in-View.is c.args.bytes.now c.give_reply-in-View.result
    (g.K.Sink.taken c.args.sink.now)
    (g.K.Sink.taken c.give_reply-in-View.new.sink) (g.K.Sink.faults c.args.sink.now)
    (g.K.Sink.faults c.give_reply-in-View.new.sink)
    c.reply_view.result (g.W.Watch.told c.args.watch.now) c.reply_view.ensures c.give_reply-in-View.ensures.ends

pub returns-in-Session-clause-ends : goal.returns-in-Session-clause-ends
returns-in-Session-clause-ends g c =
    silently c.args.asked.now _ c.in-Session.is c.args.bytes.now c.give_reply-in-Session.result
    (g.K.Sink.taken c.args.sink.now)
    (g.K.Sink.taken c.give_reply-in-Session.new.sink) (g.K.Sink.faults c.args.sink.now)
    (g.K.Sink.faults c.give_reply-in-Session.new.sink)
    c.reply_session.result (g.W.Watch.told c.args.watch.now) c.reply_session.ensures
    c.give_reply-in-Session.ensures.ends

pub returns-in-Look-clause-ends : goal.returns-in-Look-clause-ends
returns-in-Look-clause-ends g c =
    silently c.args.asked.now _ c.in-Look.is c.args.bytes.now c.give_reply-in-Look.result
    (g.K.Sink.taken c.args.sink.now)
    (g.K.Sink.taken c.give_reply-in-Look.new.sink) (g.K.Sink.faults c.args.sink.now)
    (g.K.Sink.faults c.give_reply-in-Look.new.sink)
    c.reply_look.result (g.W.Watch.told c.args.watch.now) c.reply_look.ensures c.give_reply-in-Look.ensures.ends

pub returns-in-Play-clause-ends : goal.returns-in-Play-clause-ends
returns-in-Play-clause-ends g c =
    silently c.args.asked.now _ c.in-Play.is c.args.bytes.now c.give_reply-in-Play.result
    (g.K.Sink.taken c.args.sink.now)
    (g.K.Sink.taken c.give_reply-in-Play.new.sink) (g.K.Sink.faults c.args.sink.now)
    (g.K.Sink.faults c.give_reply-in-Play.new.sink)
    c.reply_play.result (g.W.Watch.told c.args.watch.now) c.reply_play.ensures c.give_reply-in-Play.ensures.ends

pub returns-in-Farm-clause-ends : goal.returns-in-Farm-clause-ends
returns-in-Farm-clause-ends g c =
    silently c.args.asked.now _ c.in-Farm.is c.args.bytes.now c.give_reply-in-Farm.result
    (g.K.Sink.taken c.args.sink.now)
    (g.K.Sink.taken c.give_reply-in-Farm.new.sink) (g.K.Sink.faults c.args.sink.now)
    (g.K.Sink.faults c.give_reply-in-Farm.new.sink)
    c.reply_farm.result (g.W.Watch.told c.args.watch.now) c.reply_farm.ensures c.give_reply-in-Farm.ensures.ends

pub returns-in-Erase-clause-ends : goal.returns-in-Erase-clause-ends
returns-in-Erase-clause-ends g c =
    silently c.args.asked.now _ c.in-Erase.is c.args.bytes.now c.give_reply-in-Erase.result
    (g.K.Sink.taken c.args.sink.now)
    (g.K.Sink.taken c.give_reply-in-Erase.new.sink) (g.K.Sink.faults c.args.sink.now)
    (g.K.Sink.faults c.give_reply-in-Erase.new.sink)
    c.reply_erase.result (g.W.Watch.told c.args.watch.now) c.reply_erase.ensures c.give_reply-in-Erase.ensures.ends

pub returns-in-EraseRun-clause-ends : goal.returns-in-EraseRun-clause-ends
returns-in-EraseRun-clause-ends g c =
    silently c.args.asked.now _ c.in-EraseRun.is c.args.bytes.now c.give_reply-in-EraseRun.result
    (g.K.Sink.taken c.args.sink.now)
    (g.K.Sink.taken c.give_reply-in-EraseRun.new.sink) (g.K.Sink.faults c.args.sink.now)
    (g.K.Sink.faults c.give_reply-in-EraseRun.new.sink)
    c.reply_erase_run.result (g.W.Watch.told c.args.watch.now) c.reply_erase_run.ensures
    c.give_reply-in-EraseRun.ensures.ends

pub returns-in-Window-clause-ends : goal.returns-in-Window-clause-ends
returns-in-Window-clause-ends g c =
    silently c.args.asked.now _ c.in-Window.is c.args.bytes.now c.give_reply-in-Window.result
    (g.K.Sink.taken c.args.sink.now)
    (g.K.Sink.taken c.give_reply-in-Window.new.sink) (g.K.Sink.faults c.args.sink.now)
    (g.K.Sink.faults c.give_reply-in-Window.new.sink)
    c.reply_window.result (g.W.Watch.told c.args.watch.now) c.reply_window.ensures
    c.give_reply-in-Window.ensures.ends

pub returns-in-Equal-clause-ends : goal.returns-in-Equal-clause-ends
returns-in-Equal-clause-ends g c =
    silently c.args.asked.now _ c.in-Equal.is c.args.bytes.now c.give_reply-in-Equal.result
    (g.K.Sink.taken c.args.sink.now)
    (g.K.Sink.taken c.give_reply-in-Equal.new.sink) (g.K.Sink.faults c.args.sink.now)
    (g.K.Sink.faults c.give_reply-in-Equal.new.sink)
    c.reply_equal.result (g.W.Watch.told c.args.watch.now) c.reply_equal.ensures
    c.give_reply-in-Equal.ensures.ends

pub returns-in-Room-clause-ends : goal.returns-in-Room-clause-ends
returns-in-Room-clause-ends g c =
    silently c.args.asked.now _ c.in-Room.is c.args.bytes.now c.give_reply-in-Room.result
    (g.K.Sink.taken c.args.sink.now)
    (g.K.Sink.taken c.give_reply-in-Room.new.sink) (g.K.Sink.faults c.args.sink.now)
    (g.K.Sink.faults c.give_reply-in-Room.new.sink)
    c.reply_room.result (g.W.Watch.told c.args.watch.now) c.reply_room.ensures
    c.give_reply-in-Room.ensures.ends

pub returns-in-Walk-clause-ends : goal.returns-in-Walk-clause-ends
returns-in-Walk-clause-ends g c =
    silently c.args.asked.now _ c.in-Walk.is c.args.bytes.now c.give_reply-in-Walk.result
    (g.K.Sink.taken c.args.sink.now)
    (g.K.Sink.taken c.give_reply-in-Walk.new.sink) (g.K.Sink.faults c.args.sink.now)
    (g.K.Sink.faults c.give_reply-in-Walk.new.sink)
    c.reply_walk.result (g.W.Watch.told c.args.watch.now) c.reply_walk.ensures
    c.give_reply-in-Walk.ensures.ends

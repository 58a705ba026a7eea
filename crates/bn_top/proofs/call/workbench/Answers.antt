use Rattle.std.proofs.Common.{◌≡◌, map, Global, subst}
use Rattle.std.specs.String.{string_bytes}
use Rattle.bn_headline.specs.CommandHeadlines.{BackCommand, BennettCommand, MachineCommand, StepCommand}
use Rattle.bn_reply.specs.Outside.{outside}
use Rattle.bn_top.specs.Clauses.{CallEnds}
use Rattle.bn_top.specs.Outside.{NeedNoInput}
use Rattle.bn_top.specs.QuadHeadlines.{BuildHeadline, DriveCircuitHeadline, DriveHeadline, InverseCommand}
use Rattle.bn_top.proofs.CallLemmas.{circuit_by, command_by, found_by, found_circuit_by, found_machine_by}
use Rattle.bn_top.proofs.CallLemmas.{generated_by, machine_by}
use Rattle.bn_top.proofs.call.workbench.Goals as goal

pub returns-clause-ends : goal.returns-clause-ends
returns-clause-ends g c =
    subst (λ ws. CallEnds (map (string_bytes {Z = Global}) ws) c.answer_words.result
    (outside (g.S.Source.left c.args.source.now) (g.K.Sink.taken c.args.sink.now) (g.W.Watch.told c.args.watch.now)
    (g.S.Source.faults c.args.source.now) (g.K.Sink.faults c.args.sink.now))
    (outside (g.S.Source.left c.answer_words.new.input) (g.K.Sink.taken c.answer_words.new.sink)
    (g.W.Watch.told c.answer_words.new.watch) (g.S.Source.faults c.answer_words.new.input)
    (g.K.Sink.faults c.answer_words.new.sink))) c.as_slice.ensures.value c.answer_words.ensures.ends

pub returns-clause-unread : goal.returns-clause-unread
returns-clause-unread g c =
    subst (λ ws. NeedNoInput (map (string_bytes {Z = Global}) ws) → c.answer_words.new.input ≡ c.args.source.now)
    c.as_slice.ensures.value c.answer_words.ensures.unread

pub returns-clause-headline : goal.returns-clause-headline
returns-clause-headline g c = λ is.
    (machine_by (map (string_bytes {Z = Global}) c.args.words.now.items) c.answer_words.result _ _
    (returns-clause-ends g c) is).0

pub returns-clause-headline_within : goal.returns-clause-headline_within
returns-clause-headline_within g c = λ is.
    (machine_by (map (string_bytes {Z = Global}) c.args.words.now.items) c.answer_words.result _ _
    (returns-clause-ends g c) is).1

pub returns-clause-headline_circuit : goal.returns-clause-headline_circuit
returns-clause-headline_circuit g c =
    circuit_by (map (string_bytes {Z = Global}) c.args.words.now.items) c.answer_words.result _ _
    (returns-clause-ends g c)

pub returns-clause-found : goal.returns-clause-found
returns-clause-found g c =
    found_by (map (string_bytes {Z = Global}) c.args.words.now.items) c.answer_words.result _ _
    (returns-clause-ends g c)

pub returns-clause-found_machine : goal.returns-clause-found_machine
returns-clause-found_machine g c =
    found_machine_by (map (string_bytes {Z = Global}) c.args.words.now.items) c.answer_words.result _ _
    (returns-clause-ends g c)

pub returns-clause-found_circuit : goal.returns-clause-found_circuit
returns-clause-found_circuit g c =
    found_circuit_by (map (string_bytes {Z = Global}) c.args.words.now.items) c.answer_words.result _ _
    (returns-clause-ends g c)

pub returns-clause-generated : goal.returns-clause-generated
returns-clause-generated g c =
    generated_by (map (string_bytes {Z = Global}) c.args.words.now.items) c.answer_words.result _ _
    (returns-clause-ends g c)

pub returns-clause-machine : goal.returns-clause-machine
returns-clause-machine g c = λ is.
    command_by (map (string_bytes {Z = Global}) c.args.words.now.items) c.answer_words.result _ _
    (returns-clause-ends g c)
    is MachineCommand (λ bytes h. h.machine)

pub returns-clause-bennett : goal.returns-clause-bennett
returns-clause-bennett g c = λ is.
    command_by (map (string_bytes {Z = Global}) c.args.words.now.items) c.answer_words.result _ _
    (returns-clause-ends g c)
    is BennettCommand (λ bytes h. h.bennett)

pub returns-clause-step : goal.returns-clause-step
returns-clause-step g c = λ is.
    command_by (map (string_bytes {Z = Global}) c.args.words.now.items) c.answer_words.result _ _
    (returns-clause-ends g c)
    is StepCommand (λ bytes h. h.step)

pub returns-clause-back : goal.returns-clause-back
returns-clause-back g c = λ is.
    command_by (map (string_bytes {Z = Global}) c.args.words.now.items) c.answer_words.result _ _
    (returns-clause-ends g c)
    is BackCommand (λ bytes h. h.back)

pub returns-clause-inverse : goal.returns-clause-inverse
returns-clause-inverse g c = λ is.
    command_by (map (string_bytes {Z = Global}) c.args.words.now.items) c.answer_words.result _ _
    (returns-clause-ends g c)
    is InverseCommand (λ bytes h. h.inverse)

pub returns-clause-build : goal.returns-clause-build
returns-clause-build g c = λ is.
    command_by (map (string_bytes {Z = Global}) c.args.words.now.items) c.answer_words.result _ _
    (returns-clause-ends g c)
    is BuildHeadline (λ bytes h. h.build)

pub returns-clause-drive : goal.returns-clause-drive
returns-clause-drive g c = λ is.
    command_by (map (string_bytes {Z = Global}) c.args.words.now.items) c.answer_words.result _ _
    (returns-clause-ends g c)
    is DriveHeadline (λ bytes h. h.drive)

pub returns-clause-drive_circuit : goal.returns-clause-drive_circuit
returns-clause-drive_circuit g c = λ is.
    command_by (map (string_bytes {Z = Global}) c.args.words.now.items) c.answer_words.result _ _
    (returns-clause-ends g c)
    is DriveCircuitHeadline (λ bytes h. h.drive_circuit)

-- The ports are read, the circuit is explored, and what it comes to is told.
use Rattle.std.specs.Prelude.{IfOk, option_map}
use Rattle.std.proofs.Common.{subst, sym}
use Rattle.bn_circuits.specs.RotaryNets.{rotary_circuit}
use Rattle.bn_behaviour.specs.PortNames.{port_names_of}
use Rattle.bn_behaviour.proofs.FreeLemmas.{all_rotary}
use Rattle.bn_reply_behaviours.specs.Replying.{AreLines, AreNamedBy, IsWritten, form_text}
use Rattle.bn_reply_behaviours.proofs.AnswerLemmas.{answer_stopped, answer_written, found_named, ports_are}
use Rattle.bn_reply_behaviours.proofs.explore.explore_net.Goals as goal

pub find_behaviour-requires-clause-ports : goal.find_behaviour-requires-clause-ports
find_behaviour-requires-clause-ports c =
    ports_are (rotary_circuit c.args.net.now) (all_rotary c.args.net.now.elements)
    (option_map port_names_of c.args.names) c.in-Ports.ports
    (subst (AreLines (rotary_circuit c.args.net.now) (option_map port_names_of c.args.names)) c.in-Ports.is
    c.in_ok-ports.ensures)

pub write_entries-requires : goal.write_entries-requires
write_entries-requires c =
    let named = subst (AreLines (rotary_circuit c.args.net.now) (option_map port_names_of c.args.names)) c.in-Ports.is
    c.in_ok-ports.ensures in
    subst (AreNamedBy c.in-Ports.ports) (sym c.as_slice.ensures.value)
    (found_named (rotary_circuit c.args.net.now) c.in-Ports.ports c.args.bounds (all_rotary c.args.net.now.elements)
    (ports_are (rotary_circuit c.args.net.now) (all_rotary c.args.net.now.elements)
    (option_map port_names_of c.args.names) c.in-Ports.ports named) c.args.start.now c.in-Ok.found.states
    c.in-Ok.found.moves.items c.in-Ok.ensures.found)

pub returns-in-Ok : goal.returns-in-Ok
returns-in-Ok c =
    answer_written (rotary_circuit c.args.net.now) c.args.start.now (option_map port_names_of c.args.names)
    c.args.bounds (form_text c.args.form) c.in-Ports.ports c.in-Ok.found.states c.in-Ok.found.moves.items
    c.write_entries.result
    (subst (AreLines (rotary_circuit c.args.net.now) (option_map port_names_of c.args.names)) c.in-Ports.is
    c.in_ok-ports.ensures)
    c.in-Ok.ensures.found
    (subst (λ ms. IfOk c.write_entries.result (IsWritten (form_text c.args.form) c.in-Ports.ports ms))
    c.as_slice.ensures.value c.write_entries.ensures)

pub returns : goal.returns
returns c =
    answer_stopped (rotary_circuit c.args.net.now) c.args.start.now (option_map port_names_of c.args.names)
    c.args.bounds (form_text c.args.form) c.in-Ports.ports c.in-Err.refusal c.refuse_behaviour.result
    (subst (AreLines (rotary_circuit c.args.net.now) (option_map port_names_of c.args.names)) c.in-Ports.is
    c.in_ok-ports.ensures)
    c.in-Err.ensures.refused c.refuse_behaviour.ensures.status c.refuse_behaviour.ensures.text
    c.refuse_behaviour.ensures.memory

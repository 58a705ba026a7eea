-- Each state's text is new.
use Rattle.std.proofs.Common.{◌≡◌, ◌<◌, ◌∙◌, arith, length, get_or}
use Rattle.bn_bennett_laws.specs.declared.name.Name.TheVariants.{Compute}
use Rattle.bn_bennett.specs.Printed.{bennett_state_text}
use Rattle.bn_bennett.proofs.Texts.{state_new, state_room, states_more}
use Rattle.bn_bennett.proofs.naming.add_states.Goals as goal

pub add_state-requires : goal.add_state-requires
add_state-requires c =
    let names = c.args.states.now in
    let i = c.loop-name.name-index in
    let inside : i < length names = omega arith in
    let is : c.as_slice.result.now ≡ bennett_state_text (get_or names i (Compute 0)) =
    c.as_slice.ensures.value ∙ c.in_ok-text.ensures in
    record {
      new = state_new names c.requires.printable i (Compute 0) c.loop-name.names c.as_slice.result.now inside
          c.loop-name.invariant is;
      room = state_room names c.requires.printable i (Compute 0) c.loop-name.names c.as_slice.result.now inside
          c.loop-name.invariant is;
    }

pub loop-name-preserved : goal.loop-name-preserved
loop-name-preserved c =
    let is : c.as_slice.result.now ≡ bennett_state_text (get_or c.args.states.now c.loop-name.name-index (Compute 0)) =
    c.as_slice.ensures.value ∙ c.in_ok-text.ensures in
    states_more bennett_state_text c.args.states.now c.loop-name.name-index (Compute 0) c.loop-name.names
    c.add_state.new.self c.as_slice.result.now (omega arith) c.loop-name.invariant is c.in_ok-add_state.ensures.ok

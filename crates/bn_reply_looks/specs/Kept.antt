-- The law of the trait for showing a circuit. Its proof term is beside the clauses, because they cite nothing of
-- proofs.
use Rattle.std.proofs.Common.{sym, ap, ◌∙◌}
use Rattle.bn_circuits.specs.RotaryNets.{rotary_circuit}
use Rattle.bn_quad.specs.Names.{Naming}
use Rattle.bn_quad.specs.Quadruples.{Quadruples}
use Rattle.bn_board.specs.Flattened.{Flattened, IsSameBoard}
use Rattle.bn_reply_looks.specs.Built.{CanBeShown}

-- a circuit can be shown after further steps
pub shown_still : (m : Quadruples) (names : Naming) (a b : Flattened) → IsSameBoard a b → CanBeShown m names a
    → CanBeShown m names b
shown_still m names a b same shown = record {
  named = shown.named;
  build = shown.build;
  start = shown.start;
  run = record {
    build = shown.run.build;
    machine = shown.run.machine;
    room = shown.run.room;
    circuit = shown.run.circuit ∙ ap rotary_circuit (sym same.net);
    layout = shown.run.layout ∙ sym same.layout;
    begins = shown.run.begins;
    start = same.origin_is ∙ shown.run.start;
  };
}

-- The law of the trait for showing a circuit. Its proof term is beside the clauses, because they cite nothing of
-- proofs.
use Rattle.std.proofs.Common.{sym, ap, subst, ◌∙◌}
use Rattle.bn_circuits.specs.Circuits.{Goes}
use Rattle.bn_lists.specs.Runs.{Reaches}
use Rattle.bn_circuits.specs.RotaryNets.{rotary_circuit}
use Rattle.bn_table.specs.Rows.{Named}
use Rattle.bn_bennett.specs.Translation.{Translation}
use Rattle.bn_boards.specs.Layouts.{IsExit, Layout}
use Rattle.bn_board.specs.Flattened.{Flattened, IsSameBoard}
use Rattle.bn_reply_views.specs.Viewing.{MayShow}

-- a circuit can be shown after further steps
pub may_show_same : (t : Named) (m : Translation) (a b : Flattened) → IsSameBoard a b → MayShow t m a → MayShow t m b
may_show_same t m a b same may = record {
  translates = may.translates;
  word = may.word;
  limits = may.limits;
  flat = may.flat;
  is_for = record {
    flat = may.is_for.flat;
    accepted = may.is_for.accepted;
    translation = may.is_for.translation;
    circuit = may.is_for.circuit ∙ ap rotary_circuit (sym same.net);
    layout = may.is_for.layout ∙ sym same.layout;
    start = same.origin_is ∙ may.is_for.start;
  };
  names = λ d path e is.
      may.names d
      (subst (λ x. x) (λ i. Reaches (Goes (rotary_circuit (same.net i))) d.steps (same.origin_is i) d) path) e
      (subst (λ (x : Layout). IsExit x d.place e) same.layout is);
}

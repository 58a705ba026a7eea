-- A board that was made and has run is one of which there are views, and its view is what is told.
use Rattle.std.specs.Prelude.{◌≡◌, ℕ, List, [], refl}
use Rattle.std.proofs.Common.{sym, ap, subst, ◌∙◌}
use Rattle.bn_circuits.specs.Stepping.{run}
use Rattle.bn_circuits.proofs.RunLemmas.{back-zero}
use Rattle.bn_circuits.specs.RotaryNets.{rotary_circuit}
use Rattle.bn_machine.specs.Outcome.{Limits}
use Rattle.bn_table.specs.Rows.{Named}
use Rattle.bn_bennett.specs.Translation.{Translation}
use Rattle.bn_boards.specs.Flats.{Flat, IsAccepted, flat_start}
use Rattle.bn_board.specs.Flattened.{Flattened, IsSameBoard, origin, origin_by}
use Rattle.bn_reply.specs.declared.status.Status.TheVariants as statuses
use Rattle.bn_reply_relations.specs.Laws.{ExitsAreNamed}
use Rattle.bn_reply_relations.specs.RunReply.{board_after}
use Rattle.bn_reply_boards.specs.Opened.{IsMade}
use Rattle.bn_view.specs.Viewed.{IsBoardFor, IsViewOf}
use Rattle.bn_reply_views.specs.Showing.{TellsLayers}
use Rattle.bn_reply_views.specs.ViewReply.{TellsView}
use Rattle.bn_reply_views.proofs.ViewSettledLemmas.{has_name}

module _ (t : Named) (l : Limits) (symbols : List ℕ) (f : Flat) (m : Translation) (a b : Flattened)
    (made : IsMade t.machine l symbols f m a)
    (accepted : IsAccepted t.machine symbols l f) (same : IsSameBoard a b) (steps : ℕ)
    (ran : b.config ≡ run (rotary_circuit a.net) a.config steps) where
  start_is : origin a ≡ flat_start f
  start_is = ap (origin_by (rotary_circuit a.net)) made.config ∙ back-zero (rotary_circuit a.net) (flat_start f)

  pub made_for : IsBoardFor t.machine symbols l f m b
  made_for = record {
    flat = made.comes.flat;
    accepted = accepted;
    translation = made.translation;
    circuit = made.circuit ∙ ap rotary_circuit (sym same.net);
    layout = made.layout ∙ sym same.layout;
    start = same.origin_is ∙ start_is;
  }

  -- where it has come to
  pub config_is : b.config ≡ board_after f steps
  config_is = ran ∙ (λ i. run (sym made.circuit i) (made.config i) steps)

  -- the text of its view is what is told
  pub view_tells : ExitsAreNamed → (text : List ℕ) → TellsLayers t f b.config text
      → TellsView steps t f statuses.Done text []
  view_tells exits text tells =
      let there = exits t.machine symbols l f made.comes.flat accepted steps in
      let view : IsViewOf f (board_after f steps) tells.0 = subst (λ c. IsViewOf f c tells.0) config_is tells.1 in
      record {
        view = tells.0;
        is_view = view;
        is_named = has_name f.layout (board_after f steps).place tells.0.exit there.0 there.1 view.exit;
        status_is = refl;
        text_is = tells.2;
        silent = refl;
      }

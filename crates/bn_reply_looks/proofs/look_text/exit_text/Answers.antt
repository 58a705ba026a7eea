use Rattle.std.proofs.Common.{◌≡◌, ℕ, Vec, Global, ap, sym, ◌∙◌}
use Rattle.bn_circuits.specs.declared.place.Place.TheVariants.{Enter, Left}
use Rattle.bn_quad.specs.Quadruples.{Quadruples}
use Rattle.bn_qtable.specs.Rows.{table_of}
use Rattle.bn_reply_builds.proofs.OutcomeLemmas.{not_inside}
use Rattle.bn_reply_looks.proofs.BuiltLemmas.{exit_written}
use Rattle.bn_reply_looks.proofs.look_text.exit_text.Goals.{in-Left+in_ok-shown+in_ok-outcome+in_ok-push_outcome}
use Rattle.bn_reply_looks.proofs.look_text.exit_text.Goals.{in_default}
use Rattle.bn_reply_looks.proofs.look_text.exit_text.Goals as goal

pub returns : goal.returns
returns c = elim c.match-place.branch [
  | in-Left+in_ok-shown+in_ok-outcome+in_ok-push_outcome w ↦ record {
    inside = λ e l at. absurd (let both : Enter e l ≡ Left w.in-Left.element w.in-Left.line = sym at
        ∙ sym c.place.ensures.place ∙ w.in-Left.is in cc);
    left = λ f d e is same layout fits leaves.
        ap (λ (x : Vec ℕ Global). x.items) w.text-is
        ∙ exit_written (table_of c.args.machine.now c.args.names.now) (table_of w.machine.result.now c.args.names.now)
        w.in_ok-outcome.outcome d e c.new-text.result.items w.push_outcome.new.text.items
        (ap (λ (m : Quadruples). table_of m c.args.names.now) w.machine.ensures.value) c.new-text.ensures.items
        w.in_ok-push_outcome.ensures.added (w.in_ok-outcome.ensures.left f d e is same layout fits leaves);
  }
  | in_default w ↦ record {
    inside = λ e l at. ap (λ (x : Vec ℕ Global). x.items) w.text-is ∙ c.new-text.ensures.items;
    left = λ f d e is same layout fits leaves.
        absurd (not_inside f c.args.board.now.config.place c.args.board.now.config.states d e leaves
        w.in_default.field-0
        w.in_default.field-1 (sym c.place.ensures.place ∙ w.in_default.is));
  }
]

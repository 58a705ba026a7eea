use Rattle.std.proofs.Common.{ap, subst, sym, refl, inl, inr, ◌∙◌, [], None}
use Rattle.bn_quad.specs.Kept.{read_at}
use Rattle.bn_network.specs.Controls.{ControlState, Reads}
use Rattle.bn_control.specs.Names.{listed}
use Rattle.bn_control.specs.Shown.{in_row}
use Rattle.bn_control.proofs.ShownLemmas.{reads_same}
use Rattle.bn_control.proofs.shown.shows_read.Goals.{then-is_read, else-is_read}
use Rattle.bn_control.proofs.shown.shows_read.Goals as goal

pub returns-then-is_read-2-clause-yes : goal.returns-then-is_read-2-clause-yes
returns-then-is_read-2-clause-yes c e =
    let second = in_row (read_at c.args.quad.now 0) None in
    let third = in_row (read_at c.args.quad.now 0) (read_at c.args.quad.now 1) in
    elim c.if-is_read.branch [
      | then-is_read w ↦ subst (λ (P : ControlState → Type 0). P (Reads c.args.from (listed c.args.before)))
          (reads_same c.args.quad.now c.args.from (listed c.symbols.result) second third c.if-quad-from.true
          (ap listed c.symbols.ensures) refl refl) (inl (c.is_read.ensures.yes c.args.from w.if-is_read.true))
      | else-is_read w ↦ subst (λ (P : ControlState → Type 0). P (Reads c.args.from (listed c.args.before)))
          (reads_same c.args.quad.now c.args.from [] (listed w.symbols-else-is_read.result) third c.if-quad-from.true
          refl (ap listed w.symbols-else-is_read.ensures) refl)
          (inr (inl (w.is_read-else-is_read.ensures.yes c.args.from (sym w.value-is ∙ e))))
    ]

use Rattle.std.proofs.Common.{ap, rules, subst, sym, refl, inl, inr, ◌∙◌, [], None}
use Rattle.bn_quad.specs.declared.quad.Act.TheVariants.{Write}
use Rattle.bn_network.specs.Controls.{ControlState, Writes}
use Rattle.bn_control.specs.Names.{listed}
use Rattle.bn_control.specs.Shown.{in_row}
use Rattle.bn_control.proofs.ShownLemmas.{writes_same}
use Rattle.bn_control.proofs.shown.shows_write.Goals.{then-is_write, else-is_write}
use Rattle.bn_control.proofs.shown.shows_write.Goals as goal

pub returns-then-is_write-2-clause-yes : goal.returns-then-is_write-2-clause-yes
returns-then-is_write-2-clause-yes c e = elim c.if-is_write.branch [
  | then-is_write w ↦ subst (λ (P : ControlState → Type 0). P (Writes c.args.to c.args.tape (listed c.args.rest)))
      (writes_same c.args.quad.now (Write 0) c.args.to c.written-one.result c.written-two.result c.written-three.result
      (listed c.symbols.result) (in_row c.written-one.result None) (in_row c.written-two.result c.written-one.result)
      (search rules) c.if-quad-to.true c.written-one.ensures c.written-two.ensures c.written-three.ensures
      (ap listed c.symbols.ensures) refl refl) (inl (c.is_write.ensures.yes c.args.to w.if-is_write.true))
  | else-is_write w ↦ subst (λ (P : ControlState → Type 0). P (Writes c.args.to c.args.tape (listed c.args.rest)))
      (writes_same c.args.quad.now (Write 0) c.args.to c.written-one.result c.written-two.result c.written-three.result
      [] (listed w.symbols-else-is_write.result) (in_row c.written-two.result c.written-one.result)
      (search rules) c.if-quad-to.true c.written-one.ensures c.written-two.ensures c.written-three.ensures
      refl (ap listed w.symbols-else-is_write.ensures) refl)
      (inr (inl (w.is_write-else-is_write.ensures.yes c.args.to (sym w.value-is ∙ e))))
]

pub returns-else-is_write-2-clause-no : goal.returns-else-is_write-2-clause-no
returns-else-is_write-2-clause-no c e h = elim c.if-is_write.branch [
  | then-is_write w ↦ absurd (let f = c.if-is_write-2.false in let g = w.value-is in cc)
  | else-is_write w ↦ (
      let second = sym w.value-is ∙ c.if-is_write-2.false in
      elim (subst (λ (P : ControlState → Type 0). P (Writes c.args.to c.args.tape (listed c.args.rest)))
      (sym (writes_same c.args.quad.now (Write 0) c.args.to c.written-one.result c.written-two.result
      c.written-three.result (listed c.symbols.result) (listed w.symbols-else-is_write.result)
      (listed c.symbols-else-is_write-2.result) (search rules) c.if-quad-to.true c.written-one.ensures
      c.written-two.ensures c.written-three.ensures (ap listed c.symbols.ensures)
      (ap listed w.symbols-else-is_write.ensures) (ap listed c.symbols-else-is_write-2.ensures))) h) [
        | inl a ↦ c.is_write.ensures.no c.args.to w.if-is_write.false a
        | inr b ↦ elim b [
          | inl a ↦ w.is_write-else-is_write.ensures.no c.args.to second a
          | inr a ↦ c.is_write-else-is_write-2.ensures.no c.args.to e a
        ]
      ])
]

use Rattle.std.proofs.Common.{◌++◌, subst, sym}
use Rattle.std.proofs.lemmas.Result.{err_from_is_err_and}
use Rattle.bn_netlist.specs.Drafting.{HasDrawn, IsFed}
use Rattle.bn_netlist.proofs.DraftLemmas.{column_connected, drawn_more, inner_fitting}
use Rattle.bn_netlist.proofs.draft.Draft.connect_column.Goals as goal

pub add-requires : goal.add-requires
add-requires c = record {
  fitting = rw (c.requires.sized.elements, c.as_slice.ensures.value) (inner_fitting c.args.header.now c.args.first
      c.args.rows c.in_ok-inner.inner.items c.requires.some c.in_ok-inner.ensures.inner);
}

pub mark-requires-clause-fitting : goal.mark-requires-clause-fitting
mark-requires-clause-fitting c = rw c.as_slice-2.ensures.value (inner_fitting c.args.header.now c.args.first
    c.args.rows c.in_ok-inner.inner.items c.requires.some c.in_ok-inner.ensures.inner)

pub returns-clause-added : goal.returns-clause-added
returns-clause-added c = λ ws kept.
    let h = c.args.header.now in
    let inner = c.in_ok-inner.inner.items in
    let has : HasDrawn h.count (ws ++ c.as_slice.result.now) c.add.new.self =
    drawn_more h.count ws c.as_slice.result.now c.args.self.now.drawn c.add.new.self kept.drawn_are
    c.add.ensures.elements c.add.ensures.drawn in
    let there : HasDrawn h.count (ws ++ inner) c.add.new.self =
    subst (λ vs. HasDrawn h.count (ws ++ vs) c.add.new.self) c.as_slice.ensures.value has in
    column_connected h c.args.first c.args.rows ws inner c.mark.new.self.drawn c.mark.new.self.fed.items
    c.in_ok-inner.ensures.inner (c.in_ok-inner.ensures.faultless ws kept.marked)
    (subst (λ d. HasDrawn h.count (ws ++ inner) d) (sym c.mark.ensures.drawn) there)
    (subst (λ vs. IsFed h.count (ws ++ vs) c.mark.new.self.fed.items) c.as_slice-2.ensures.value
    (c.mark.ensures.marked ws kept.marked))

pub returns-clause-within : goal.returns-clause-within
returns-clause-within c = c.in_ok-inner.ensures.inner.within

pub returns-in_err-inner-clause-refused : goal.returns-in_err-inner-clause-refused
returns-in_err-inner-clause-refused c =
    let p = err_from_is_err_and c.from_residual.result c.from_residual.ensures.1 in
    rw (p.1, p.2) (λ ws kept. c.in_err-inner.ensures.refused ws kept.marked)

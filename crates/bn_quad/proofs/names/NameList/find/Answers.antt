use Rattle.std.proofs.Common.{◌≡◌, ◌∙◌, ap, map, arith, sym, length, slice_get, Some, add-one}
use Rattle.std.proofs.lemmas.List.{length-map}
use Rattle.std.proofs.lemmas.Bool.{false≢true}
use Rattle.std.proofs.lemmas.Slice.Eq.{bytes_eq-Decides}
use Rattle.bn_quad.proofs.NamesLemmas.{name_at, none_below_more, not_among}
use Rattle.bn_quad.proofs.names.NameList.find.Goals as goal

pub returns-then-eq-clause-found : goal.returns-then-eq-clause-found
returns-then-eq-clause-found c =
    let made : map (λ v. v.items) c.deref-known-items.result.now ≡ c.args.self.now =
    ap (map (λ v. v.items)) c.deref-known-items.ensures.value ∙ c.self.view_is in
    let here : slice_get c.args.self.now c.loop-index.index ≡ Some c.known-item.result.items =
    name_at (λ v. v.items) _ _ c.loop-index.index c.known-item.result made c.loop-index-test.true c.known-item.is in
    here ∙ ap Some (sym c.as_slice.ensures.value ∙ (bytes_eq-Decides c.as_slice.result.now c.args.name.now).0
    (sym c.if-eq.ensures))

pub loop-index-preserved : goal.loop-index-preserved
loop-index-preserved c =
    let made : map (λ v. v.items) c.deref-known-items.result.now ≡ c.args.self.now =
    ap (map (λ v. v.items)) c.deref-known-items.ensures.value ∙ c.self.view_is in
    let here : slice_get c.args.self.now c.loop-index.index ≡ Some c.known-item.result.items =
    name_at (λ v. v.items) _ _ c.loop-index.index c.known-item.result made c.loop-index-test.true c.known-item.is in
    rw add-one (none_below_more _ _ c.known-item.result.items c.loop-index.index c.loop-index.invariant here
    (λ same. false≢true (c.if-eq.ensures ∙ (bytes_eq-Decides c.as_slice.result.now c.args.name.now).1
    (c.as_slice.ensures.value ∙ same))))

pub returns-clause-none : goal.returns-clause-none
returns-clause-none c =
    let made : map (λ v. v.items) c.deref-known-items.result.now ≡ c.args.self.now =
    ap (map (λ v. v.items)) c.deref-known-items.ensures.value ∙ c.self.view_is in
    let long : length c.args.self.now ≡ length c.deref-known-items.result.now =
    ap length (sym made) ∙ length-map c.deref-known-items.result.now (λ v. v.items) in
    not_among _ _ c.loop-index.index (omega (arith, c.loop-index-test.false)) c.loop-index.invariant

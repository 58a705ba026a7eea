-- One more quadruple, and the names of its states.
use Rattle.std.proofs.Common.{◌≡◌, ◌++◌, ◌∷◌, ◌∙◌, [], ap, arith}
use Rattle.bn_quad.specs.Kept.{quad_of}
use Rattle.bn_quad.specs.declared.quad.Quad.{Quad}
use Rattle.bn_bennett.specs.Made.{made, numbered_quad}
use Rattle.bn_bennett.specs.Translation.{with_name}
use Rattle.bn_bennett.proofs.Growing.{Adds, are_drafted_more, drafted_more, few_names, length-with_name}
use Rattle.bn_bennett.proofs.draft.add.Goals as goal

pub number_of-requires : goal.number_of-requires
number_of-requires c =
    let d = c.args.draft.now in
    omega (arith, few_names d.names.keys d.quads.items c.requires.draft)

pub number_of-requires-2 : goal.number_of-requires-2
number_of-requires-2 c =
    let d = c.args.draft.now in
    let after : c.number_of.new.names.keys ≡ with_name d.names.keys (made c.args.quad.now).from =
    c.in_ok-state.ensures.names in
    rw after (omega (
      arith,
      few_names d.names.keys d.quads.items c.requires.draft,
      length-with_name d.names.keys (made c.args.quad.now).from,
    ))

pub returns : goal.returns
returns c =
    let d = c.args.draft.now in
    let r = made c.args.quad.now in
    let names = c.number_of-2.new.names.keys in
    let adds : Adds d.names.keys r c.in_ok-state.state c.in_ok-next.next c.number_of.new.names.keys names = record {
      first = c.in_ok-state.ensures.names;
      second = c.in_ok-next.ensures.names;
      state_is = c.in_ok-state.ensures.number;
      next_is = c.in_ok-next.ensures.number;
    } in
    let pushed : c.push.new.self.items ≡ d.quads.items ++ quad_of
    (numbered_quad c.in_ok-state.state r c.in_ok-next.next) ∷ [] = c.in_ok-push.ensures.items
    ∙ ap (λ (q : Quad). d.quads.items ++ q ∷ []) c.numbered.ensures in
    record {
      draft = rw pushed (are_drafted_more d.names.keys d.quads.items r c.in_ok-state.state c.in_ok-next.next
          c.number_of.new.names.keys names c.requires.draft adds);
      drafted = rw pushed (drafted_more d.names.keys d.quads.items r c.in_ok-state.state c.in_ok-next.next
          c.number_of.new.names.keys names c.requires.draft adds);
    }

use Rattle.std.specs.Prelude.{◌≡◌, ℕ, ◌+◌, List, [], ◌∷◌, ◌++◌, All, length, refl}
use Rattle.std.proofs.Common.{zero, suc, arith, sym, ap, subst, ◌∙◌, append-nil, append_assoc, length-append}
use Rattle.std.proofs.lemmas.List.Elements.{All-append}
use Rattle.bn_network_assembly.specs.declared.module.Module.{Module}
use Rattle.bn_network_assembly.specs.Rows.{IsCellFor, IsRow}
use Rattle.bn_network_assembly.proofs.modules.push_row.Goals as goal

none_yet : (ms : List Module) (z : ℕ) → IsRow ms z 0 ms
none_yet ms z = record {
  row = [];
  count = refl;
  cells = λ k d low. absurd (omega arith);
  is = sym (append-nil ms);
}

one : (z : ℕ) (x : Module) → IsCellFor z x → All (IsCellFor z) (x ∷ [])
one z x is zero d low = is
one z x is (suc k) d low = absurd (omega arith)

one_more : (old now later : List Module) (z n : ℕ) (x : Module) → IsRow old z n now → IsCellFor z x
    → later ≡ now ++ (x ∷ []) → IsRow old z (n + 1) later
one_more old now later z n x so_far is more = record {
  row = so_far.row ++ (x ∷ []);
  count = length-append so_far.row (x ∷ []) ∙ ap (λ k. k + 1) so_far.count;
  cells = All-append (IsCellFor z) so_far.row (x ∷ []) so_far.cells (one z x is);
  is = more ∙ ap (λ ms. ms ++ (x ∷ [])) so_far.is ∙ append_assoc old so_far.row (x ∷ []);
}

pub loop-init : goal.loop-init
loop-init c = none_yet c.args.modules.now.items c.args.symbols

pub loop-preserved : goal.loop-preserved
loop-preserved c = one_more c.args.modules.now.items c.loop.modules.items c.push.new.self.items c.args.symbols
    c.loop.counter _ c.loop.invariant refl c.in_ok-push.ensures.items

pub returns : goal.returns
returns c =
    let high = c.loop.auto.counter-end in
    let low = c.loop-test.false in
    subst (λ n. IsRow c.args.modules.now.items c.args.symbols n c.loop.modules.items) (omega arith) c.loop.invariant

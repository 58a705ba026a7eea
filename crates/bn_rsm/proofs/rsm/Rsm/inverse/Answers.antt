use Rattle.std.proofs.Common.{◌≡◌, ◌<◌, ◌^◌, length, map, ap, sym, subst, ◌∙◌, arith}
use Rattle.std.proofs.lemmas.List.{length-map}
use Rattle.std.proofs.lemmas.Result.{IfOk-weaker}
use Rattle.bn_rsm.specs.Faults.{turned}
use Rattle.bn_rsm.specs.Machines.{AreSound, IsMadeOf, IsBackward}
use Rattle.bn_rsm.proofs.SoundLemmas.{sound-turned, turned-backward}
use Rattle.bn_rsm.proofs.rsm.Rsm.inverse.Goals as goal

pub new-requires : goal.new-requires
new-requires c =
    let m = c.self.inside in
    let moves : c.in_ok-moves.moves.items ≡ map turned m.moves.items =
    c.in_ok-moves.ensures ∙ ap (map turned) c.as_slice.ensures.value in
    let few : length (map turned m.moves.items) < 2 ^ 32 = omega
    (arith, length-map m.moves.items turned, c.self.invariant.few) in
    record {
      sound = subst (AreSound m.states m.lines) (sym moves) (sound-turned m.states m.lines m.moves.items m.sound);
      few = subst (λ ms. length ms < 2 ^ 32) (sym moves) few;
    }

pub returns-clause-backward : goal.returns-clause-backward
returns-clause-backward c =
    let m = c.self.inside in
    let moves = c.in_ok-moves.ensures ∙ ap (map turned) (c.as_slice.ensures.value ∙ ap (λ v. v.moves) c.self.view_is) in
    IfOk-weaker c.new.result (λ n. IsMadeOf n m.states m.lines c.in_ok-moves.moves.items) (IsBackward c.args.self.now)
    (λ n is. turned-backward c.args.self.now n (is.moves ∙ moves)) c.new.ensures.made

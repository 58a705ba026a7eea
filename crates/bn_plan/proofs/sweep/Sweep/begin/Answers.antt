use Rattle.std.proofs.Common.{◌≡◌, refl, sym, subst, arith}
use Rattle.bn_plan.specs.Wires.{lesser, greater}
use Rattle.bn_plan.specs.Sweeping.{TakesTrack}
use Rattle.bn_plan.proofs.BeginLemmas.{begin_swept, still_within}
use Rattle.bn_plan.proofs.sweep.Sweep.begin.Goals as goal

pub index_mut-requires : goal.index_mut-requires
unfolding greater
index_mut-requires c =
    let inside = still_within c.args.self.now _ c.min.result c.take_track-track.result (greater c.args.wire)
    c.max.result
    (omega (arith, c.max.ensures, c.output_position-output.ensures, c.input_position-input.ensures))
    (subst (TakesTrack c.args.self.now c.min.result c.take_track-track.result) (sym c.self.view_is)
    c.take_track-track.ensures) c.requires.position in
    omega (arith, inside, c.self.inside.ending.ok.0)

pub returns-clause-swept : goal.returns-clause-swept
unfolding lesser greater
returns-clause-swept c =
    let takes = subst (TakesTrack c.args.self.now c.min.result c.take_track-track.result) (sym c.self.view_is)
    c.take_track-track.ensures in
    let last : c.max.result ≡ greater c.args.wire = omega (
      arith,
      c.max.ensures,
      c.output_position-output.ensures,
      c.input_position-input.ensures,
    ) in
    begin_swept c.args.wire c.args.self.now _ c.take_track-track.result c.min.result c.max.result
    (omega (arith, c.min.ensures, c.output_position-output.ensures, c.input_position-input.ensures)) last
    takes (still_within c.args.self.now _ c.min.result c.take_track-track.result (greater c.args.wire) c.max.result
    (omega (arith, last)) takes c.requires.position) c.push.new.self.items _ c.in_ok-push.ensures.items refl

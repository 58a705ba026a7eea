use Rattle.std.proofs.Common.{refl, ◌++◌, ◌∙◌, take}
use Rattle.bn_io.proofs.ToldLemmas.{Grows-joins}
use Rattle.bn_io.proofs.Pieces.{front-more}
use Rattle.bn_io.proofs.writing.write_all.Goals as goal

pub loop-rest-preserved : goal.loop-rest-preserved
loop-rest-preserved g c =
    let e = c.in-Ok.ensures in (
      c.loop-rest.invariant.0 ++ take c.in-Ok.count c.loop-rest.rest.now,
      front-more _ _ _ c.in-Ok.count _ c.loop-rest.invariant.1 refl,
      Grows-joins _ _ _ _ _ c.loop-rest.invariant.2 e.grown,
      e.cause.kept ∙ c.loop-rest.invariant.3,
    )

use Rattle.std.proofs.Common.{◌∙◌, ◌+◌, None, arith, sym, subst}
use Rattle.std.proofs.lemmas.Option.{slice_get-get_or}
use Rattle.bn_network_text.proofs.WireLemmas.{AreJoined, joined_more}
use Rattle.bn_network_text.proofs.draft.Draft.connect_all.Goals as goal

pub loop-index-preserved : goal.loop-index-preserved
loop-index-preserved c =
    let has = slice_get-get_or c.args.targets.now c.loop-index.index None c.loop-index-test.true in
    record {
      modules = c.connect.ensures.modules ∙ c.loop-index.invariant.modules;
      fed = c.in_ok-connect.ensures.fed;
      joined = subst (AreJoined c.args.shapes.now c.args.page.now.says c.args.number c.args.self.now.wires.items
          c.args.targets.now (c.loop-index.index + 1)) (sym c.in_ok-connect.ensures.wires)
          (joined_more c.args.shapes.now c.args.page.now.says c.args.number c.args.self.now.wires.items
          c.loop-index.self.wires.items c.args.targets.now c.loop-index.index _ has
          (omega (arith, c.loop-index-test.true)) c.in_ok-connect.ensures.faultless c.loop-index.invariant.joined);
    }

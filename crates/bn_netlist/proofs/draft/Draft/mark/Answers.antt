use Rattle.std.proofs.Common.{arith, refl, get_or, ◌∙◌}
use Rattle.std.proofs.lemmas.List.{length-set}
use Rattle.bn_circuits.specs.declared.line.Wire.{Wire}
use Rattle.bn_netlist.proofs.DraftLemmas.{mark_within, marked_all, marked_more, marked_none}
use Rattle.bn_netlist.proofs.draft.Draft.mark.Goals as goal

pub loop-index-init : goal.loop-index-init
loop-index-init c = record {
  drawn = refl;
  size = c.requires.marks;
  marked = λ ws fed. marked_none c.args.count ws c.args.wires.now c.args.self.now.fed.items fed;
}

abbrev none : Wire
none = record { from = record { element = 0; line = 0 }; to = record { element = 0; line = 0 } }

pub index_mut-requires : goal.index_mut-requires
index_mut-requires c =
    omega (
      arith,
      c.loop-index.self.fed.ok,
      mark_within c.args.count c.loop-index.index c.args.wires.now c.loop-index.self.fed.items
          (get_or c.args.wires.now c.loop-index.index none) none c.requires.fitting c.loop-index-test.true refl
          c.loop-index.invariant.size,
    )

pub loop-index-preserved : goal.loop-index-preserved
loop-index-preserved c =
    let w = get_or c.args.wires.now c.loop-index.index none in
    record {
      drawn = c.loop-index.invariant.drawn;
      size = length-set c.loop-index.self.fed.items _ _ ∙ c.loop-index.invariant.size;
      marked = λ ws fed. marked_more c.args.count c.loop-index.index ws c.args.wires.now c.loop-index.self.fed.items w
          none c.requires.fitting c.loop-index-test.true refl (c.loop-index.invariant.marked ws fed);
    }

pub returns-clause-marked : goal.returns-clause-marked
returns-clause-marked c = λ ws fed. marked_all c.args.count c.loop-index.index ws c.args.wires.now
    c.loop-index.self.fed.items (omega (arith, c.loop-index-test.false)) (c.loop-index.invariant.marked ws fed)

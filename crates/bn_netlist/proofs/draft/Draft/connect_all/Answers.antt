use Rattle.std.proofs.Common.{◌∙◌, ◌+◌, ap, Option, Some, None, ℕ, arith}
use Rattle.std.proofs.lemmas.Option.{slice_get-get_or}
use Rattle.std.proofs.lemmas.Result.{err_from_is_err_and}
use Rattle.bn_netlist_laws.specs.Reading.{named_targets}
use Rattle.bn_netlist.proofs.ConnectLemmas.{connected_start, connected_skip, connected_more, connected_end}
use Rattle.bn_netlist.proofs.ConnectLemmas.{connected_fault, nameable_at, length-named_targets}
use Rattle.bn_netlist.proofs.draft.Draft.connect_all.Goals as goal

pub loop-index-init : goal.loop-index-init
loop-index-init c = record {
  sized = c.requires.sized;
  so_far = λ ws kept. connected_start c.args.header.now c.args.element c.args.output (c.args.output + 0)
      (named_targets c.args.targets.now) ws c.args.self.now.drawn c.args.self.now.fed.items (omega arith) kept;
}

pub connect-requires-clause-there : goal.connect-requires-clause-there
connect-requires-clause-there c = record {
  element = c.requires.there;
  line = omega (arith, c.requires.four, c.loop-index-test.true);
}

pub connect-requires-clause-low : goal.connect-requires-clause-low
connect-requires-clause-low c =
    let has = slice_get-get_or c.args.targets.now c.loop-index.index None c.loop-index-test.true
    ∙ ap (λ (t : Option (ℕ × ℕ)). Some t) c.in-Some.is in
    nameable_at c.args.targets.now c.loop-index.index c.in-Some.to c.requires.nameable has

pub loop-index-preserved-in_default : goal.loop-index-preserved-in_default
loop-index-preserved-in_default c =
    let has = slice_get-get_or c.args.targets.now c.loop-index.index None c.loop-index-test.true
    ∙ ap (λ (t : Option (ℕ × ℕ)). Some t) c.in_default.is in
    record {
      sized = c.loop-index.invariant.sized;
      so_far = λ ws kept. connected_skip c.args.header.now c.args.element c.args.output c.args.targets.now ws
          c.loop-index.self.drawn c.loop-index.self.fed.items c.loop-index.index
          (c.args.output + c.loop-index.index) _ _ (omega arith) (omega arith) has
          (c.loop-index.invariant.so_far ws kept);
    }

pub returns-in_err-connect-clause-refused : goal.returns-in_err-connect-clause-refused
returns-in_err-connect-clause-refused c =
    let has = slice_get-get_or c.args.targets.now c.loop-index.index None c.loop-index-test.true
    ∙ ap (λ (t : Option (ℕ × ℕ)). Some t) c.in-Some.is in
    let p = err_from_is_err_and c.from_residual.result c.from_residual.ensures.1 in
    rw (p.1, p.2) (λ ws kept.
    let so_far = c.loop-index.invariant.so_far ws kept in
    connected_fault c.args.header.now c.args.element c.args.output c.args.line c.args.targets.now
    c.in-Some.to ws c.loop-index.self.drawn c.loop-index.self.fed.items
    c.loop-index.index (c.args.output + c.loop-index.index) _ has so_far
    (c.in_err-connect.ensures.refused so_far.wires so_far.kept))

pub loop-index-preserved : goal.loop-index-preserved
loop-index-preserved c =
    let has = slice_get-get_or c.args.targets.now c.loop-index.index None c.loop-index-test.true
    ∙ ap (λ (t : Option (ℕ × ℕ)). Some t) c.in-Some.is in
    record {
      sized = c.in_ok-connect.ensures.sized;
      so_far = λ ws kept.
          let so_far = c.loop-index.invariant.so_far ws kept in
          connected_more c.args.header.now c.args.element c.args.output c.args.targets.now c.in-Some.to ws
          c.loop-index.self.drawn c.connect.new.self.drawn
          c.loop-index.self.fed.items c.connect.new.self.fed.items c.loop-index.index
          (c.args.output + c.loop-index.index) _ _ (omega arith) (omega arith) has so_far
          (c.in_ok-connect.ensures.added so_far.wires so_far.kept);
    }

pub returns-clause-added : goal.returns-clause-added
returns-clause-added c = λ ws kept.
    let named_length = length-named_targets c.args.targets.now in
    connected_end c.args.header.now c.args.element c.args.output (named_targets c.args.targets.now) ws
    c.loop-index.self.drawn c.loop-index.self.fed.items c.loop-index.index
    (c.args.output + c.loop-index.index) (omega (arith, named_length, c.loop-index-test.false))
    (c.loop-index.invariant.so_far ws kept)

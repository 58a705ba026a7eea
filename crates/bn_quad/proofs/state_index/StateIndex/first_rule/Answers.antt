use Rattle.std.proofs.Common.{◌≤◌, length, sym, subst, arith, refl}
use Rattle.std.proofs.lemmas.Bool.{false≢true}
use Rattle.bn_quad.specs.Calls.{configuration}
use Rattle.bn_quad.specs.Kept.{rules_of}
use Rattle.bn_quad.specs.Index.{IsNextLeaving}
use Rattle.bn_quad.proofs.KeptLemmas.{length-rules_of, nth-rules_of_back}
use Rattle.bn_quad.proofs.SearchLemmas.{first_rule_at}
use Rattle.bn_quad.proofs.IndexLemmas.{IsSearched, IsSearchedTo, searched_first, searched_more}
use Rattle.bn_quad.proofs.state_index.StateIndex.first_rule.Goals as goal

pub loop-next-init : goal.loop-next-init
loop-next-init c =
    let rs = rules_of c.args.quads.now in
    let d = configuration c.args.state c.args.tapes.now in
    searched_first rs d c.first-next.result (subst (IsNextLeaving rs c.args.state 0) (sym c.first-next.ensures)
    (c.requires.index.first c.args.state))

pub returns-then-applies-clause-first : goal.returns-then-applies-clause-first
returns-then-applies-clause-first c =
    let rs = rules_of c.args.quads.now in
    let d = configuration c.args.state c.args.tapes.now in
    let at : IsSearchedTo rs d c.in-Some.number = subst (IsSearched rs d) c.in-Some.is c.loop-next.invariant in
    let within : c.in-Some.number ≤ length c.args.quads.now = omega (arith, at.within, length-rules_of c.args.quads.now)
    in
    first_rule_at rs d c.in-Some.number _ at.before (nth-rules_of_back c.args.quads.now c.in-Some.number _ at.counted
    within) (c.if-applies.ensures.0 refl)

pub loop-next-preserved : goal.loop-next-preserved
loop-next-preserved c =
    let rs = rules_of c.args.quads.now in
    let d = configuration c.args.state c.args.tapes.now in
    let at : IsSearchedTo rs d c.in-Some.number = subst (IsSearched rs d) c.in-Some.is c.loop-next.invariant in
    let within : c.in-Some.number ≤ length c.args.quads.now = omega (arith, at.within, length-rules_of c.args.quads.now)
    in
    searched_more rs d c.in-Some.number c.args.self.now _ c.index-next.result.now c.requires.index at
    (nth-rules_of_back c.args.quads.now c.in-Some.number _ at.counted within)
    (λ applies. false≢true (c.if-applies.ensures.1 applies)) c.index-next.ensures

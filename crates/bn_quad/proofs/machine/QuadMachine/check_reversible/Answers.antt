use Rattle.std.proofs.Common.{rules, refl}
use Rattle.std.proofs.lemmas.Bool.{false≢true}
use Rattle.bn_quad.specs.Overlap.{IsReversible, IsLeastClash}
use Rattle.bn_quad.proofs.ReversibleLemmas.{one_predecessor, reversible_is_one_to_one}
use Rattle.bn_quad.specs.declared.clash.Clash.TheVariants.{Range}
use Rattle.bn_quad.proofs.machine.QuadMachine.check_reversible.Goals as goal

pub returns-in-None-clause-one_to_one : goal.returns-in-None-clause-one_to_one
returns-in-None-clause-one_to_one c =
    let apart : IsReversible c.args.self.now.rules = search rules in
    λ deterministic. (λ yes. one_predecessor c.args.self.now.rules apart, λ one. refl)

pub returns-in-Some-clause-one_to_one : goal.returns-in-Some-clause-one_to_one
returns-in-Some-clause-one_to_one c =
    let least : IsLeastClash Range c.args.self.now.rules c.in-Some.pair.0 c.in-Some.pair.1 = search rules in
    λ deterministic. (
      λ no. absurd (false≢true no),
      λ one. absurd (((reversible_is_one_to_one c.args.self.now.rules deterministic).1 one).none c.in-Some.pair.0
          c.in-Some.pair.1 least.holds),
    )

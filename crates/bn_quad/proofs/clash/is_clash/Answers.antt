use Rattle.bn_quad.proofs.OverlapKeptLemmas.{domain_of_quads, range_of_quads}
use Rattle.bn_quad.proofs.clash.is_clash.Goals as goal

pub returns-in-Domain : goal.returns-in-Domain
returns-in-Domain c =
    let same = domain_of_quads c.args.first.now c.args.second.now c.requires.first_unmixed c.requires.second_unmixed in
    rw c.in-Domain.is (λ t. same.0 (c.meet_in_domain.ensures.0 t), λ h. c.meet_in_domain.ensures.1 (same.1 h))

pub returns-in-Range : goal.returns-in-Range
returns-in-Range c =
    let same = range_of_quads c.args.first.now c.args.second.now c.requires.first_unmixed c.requires.second_unmixed in
    rw c.in-Range.is (λ t. same.0 (c.meet_in_range.ensures.0 t), λ h. c.meet_in_range.ensures.1 (same.1 h))

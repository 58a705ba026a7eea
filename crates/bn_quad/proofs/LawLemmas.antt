-- The laws of this crate that follow from those of the crates below it, each proved.
use Rattle.bn_quad.proofs.QuadStepLemmas.{goes_leads, leads_goes}
use Rattle.bn_quad.proofs.ReversibleLemmas.{one_applies, turned_leads, turned_leads_back}
use Rattle.bn_quad.specs.Laws.{OneRuleApplies, TurnedRulesLeadBack, StepsAreLeads}
use Rattle.bn_quad.specs.Quadruples.{everywhere}

pub one_rule_applies : OneRuleApplies
one_rule_applies = λ rs m n r s d. one_applies rs m n r s d

pub turned_rules_lead_back : TurnedRulesLeadBack
turned_rules_lead_back = λ r d e. (turned_leads r d e, turned_leads_back r d e)

pub steps_are_leads : StepsAreLeads
steps_are_leads = λ p n d e apart going. (
  goes_leads everywhere p n d e,
  leads_goes everywhere p n d e apart going (record { one = tt; two = tt; three = tt }),
)

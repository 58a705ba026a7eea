use Rattle.bn_quad.proofs.AnswerLemmas.{quad_turn_once, refusals_once}
use Rattle.bn_quad.proofs.KeptLemmas.{quads-apart}
use Rattle.bn_quad.proofs.LawLemmas.{one_rule_applies, turned_rules_lead_back, steps_are_leads}
use Rattle.bn_quad.proofs.QuadStepLemmas.{goes_function}
use Rattle.bn_quad.proofs.laws.quad_laws.Goals as goal

pub returns : goal.returns
returns _ = record {
  quad_turns_are_one = quad_turn_once;
  refusals_are_one = refusals_once;
  one_rule_applies = one_rule_applies;
  turned_rules_lead_back = turned_rules_lead_back;
  rules_are_their_quads = quads-apart;
  quad_steps_are_functions = goes_function;
  steps_are_leads = steps_are_leads;
}

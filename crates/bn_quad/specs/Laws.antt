-- The laws of this crate, each a field of `Laws`.
use Rattle.std.specs.Prelude.{◌≡◌, ◌≢◌, ◌↔◌, ℕ, List, Some, map}
use Rattle.bn_lists.specs.Lists.{nth}
use Rattle.bn_quad.specs.Quadruples.{Rule, Configuration, AppliesTo, Leads, LeadsBy, Quadruples, turned, final_state_of}
use Rattle.bn_quad.specs.Quadruples.{Rooms, everywhere, GoesBy, QuadruplesRunTo}
use Rattle.bn_lists.specs.Runs.{IsFunction}
use Rattle.bn_quad.specs.Overlap.{IsDeterministic}
use Rattle.bn_quad.specs.Kept.{quad_of}
use Rattle.bn_quad.specs.Calls.{IsQuadTurn, IsQuadRefusal, IsNotUniform, IsUniformRefusal}
use Rattle.bn_quad.specs.declared.quad.Quad.{Quad}
use Rattle.bn_quad.specs.declared.refusal.QuadRefusal.{QuadRefusal}
use Rattle.bn_quad.specs.declared.refusal.NotUniform.{NotUniform}
use Rattle.bn_quad.specs.declared.refusal.UniformRefusal.{UniformRefusal}
use Rattle.bn_quad.specs.declared.tapes.Tapes.{Tapes}
use Rattle.bn_quad.specs.declared.tapes.QuadTurn.{QuadTurn}

-- a step in windows has one result, one next state and the same next tapes
abbrev pub QuadTurnsAreOne : Type 0
QuadTurnsAreOne = (p : Quadruples) (a b : QuadTurn) (s : ℕ) (w : Tapes) (t u : ℕ) (v x : Tapes)
    → IsQuadTurn p a s w t v → IsQuadTurn p b s w u x → (a ≡ b) × (t ≡ u) × (v ≡ x)

-- two refusals that fit the same quadruples are equal
abbrev pub RefusalsAreOne : Type 0
RefusalsAreOne =
    ((qs : List Quad) (states : ℕ) (symbols : List ℕ) (a b : QuadRefusal) → IsQuadRefusal qs states symbols a
    → IsQuadRefusal qs states symbols b → a ≡ b)
    × ((rs : List (Rule ℕ)) (a b : NotUniform) → IsNotUniform rs a → IsNotUniform rs b → a ≡ b)
    × ((rs : List (Rule ℕ)) (a b : UniformRefusal) → IsUniformRefusal rs a → IsUniformRefusal rs b → a ≡ b)

-- if no two quadruples overlap in domain, at most one applies
abbrev pub OneRuleApplies : Type 0
OneRuleApplies = (rs : List (Rule ℕ)) (m n : ℕ) (r s : Rule ℕ) (c : Configuration ℕ) → IsDeterministic rs
    → nth rs m ≡ Some r → nth rs n ≡ Some s → AppliesTo r c → AppliesTo s c → m ≡ n

-- a quadruple leads from c to d exactly if its inverse leads from d to c
abbrev pub TurnedRulesLeadBack : Type 0
TurnedRulesLeadBack = (r : Rule ℕ) (c d : Configuration ℕ) → Leads r c d ↔ Leads (turned r) d c

-- quadruples with the same stored form are the same
abbrev pub RulesAreTheirQuads : Type 0
RulesAreTheirQuads = (rs ss : List (Rule ℕ)) → map quad_of rs ≡ map quad_of ss → rs ≡ ss

-- a configuration has at most one successor
abbrev pub QuadStepsAreFunctions : Type 0
QuadStepsAreFunctions = (rooms : Rooms) (p : Quadruples) → IsFunction (QuadruplesRunTo rooms p)

-- Outside its final state, the steps of a deterministic machine on infinite tapes are exactly those of its quadruples.
abbrev pub StepsAreLeads : Type 0
StepsAreLeads = (p : Quadruples) (n : ℕ) (c d : Configuration ℕ) → IsDeterministic p.rules
    → c.state ≢ final_state_of p.rules
    → (GoesBy everywhere p n c d ↔ LeadsBy p.rules n c d)

-- ---- the laws

pub record Laws : Type 0 where
  -- The contract of `QuadMachine::step` allows one result, one state and three tapes.
  pub quad_turns_are_one : QuadTurnsAreOne
  -- The contracts of the tests allow one refusal: there is only one least pair, and only one least quadruple.
  pub refusals_are_one : RefusalsAreOne
  -- If no two quadruples overlap in domain, at most one applies to a configuration (Bennett 1973).
  pub one_rule_applies : OneRuleApplies
  -- The inverse of a quadruple leads back, and only back (Bennett 1973).
  pub turned_rules_lead_back : TurnedRulesLeadBack
  -- Quadruples (`Rule`) with the same stored form (`Quad`) are the same.
  pub rules_are_their_quads : RulesAreTheirQuads
  -- A configuration has at most one successor (Bennett 1973).
  pub quad_steps_are_functions : QuadStepsAreFunctions
  -- Outside its final state, a deterministic machine makes exactly the steps of its quadruples.
  pub steps_are_leads : StepsAreLeads

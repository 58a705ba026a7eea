-- The step of a machine and the quadruples that lead from one configuration to another.
use Rattle.std.specs.Prelude.{◌≡◌, ◌≢◌, ℕ, List, Some}
use Rattle.std.proofs.Common.{sym, ap, ◌∙◌, arith}
use Rattle.bn_lists.specs.Runs.{IsFunction}
use Rattle.bn_lists.specs.Lists.{nth}
use Rattle.bn_lists.proofs.ListLemmas.{first_once}
use Rattle.bn_quad.specs.Quadruples.{Rule, Configuration, AppliesTo, after, LeadsBy, Quadruples, final_state_of}
use Rattle.bn_quad.specs.Quadruples.{IsFirstRule, Rooms, everywhere, AreAllowed, GoesBy, QuadruplesRunTo}
use Rattle.bn_quad.specs.Overlap.{IsDeterministic}
use Rattle.bn_quad.proofs.ReversibleLemmas.{one_applies}

-- the first that applies is one
pub first_rule_once : (rs : List (Rule ℕ)) (c : Configuration ℕ) (n m : ℕ) (r s : Rule ℕ) → IsFirstRule rs c n r
    → IsFirstRule rs c m s → (n ≡ m) × (r ≡ s)
first_rule_once rs c n m r s f g = first_once (λ t. AppliesTo t c) rs n m r s f g

-- a step has one quadruple and one end, whatever the rooms
pub goes_by_once : (rooms other : Rooms) (p : Quadruples) (n m : ℕ) (c d e : Configuration ℕ) → GoesBy rooms p n c d
    → GoesBy other p m c e → (n ≡ m) × (d ≡ e)
goes_by_once rooms other p n m c d e f g =
    let same = first_rule_once p.rules c n m f.rule g.rule f.first g.first in
    (same.0, f.gives ∙ ap (λ (r : Rule ℕ). after r c) same.1 ∙ sym g.gives)

pub goes_function : (rooms : Rooms) (p : Quadruples) → IsFunction (QuadruplesRunTo rooms p)
goes_function rooms p = λ c d e f g. (goes_by_once rooms rooms p f.0 g.0 c d e f.1 g.1).1

-- a step is made by a quadruple that leads from its start to its end
pub goes_leads : (rooms : Rooms) (p : Quadruples) (n : ℕ) (c d : Configuration ℕ) → GoesBy rooms p n c d
    → LeadsBy p.rules n c d
goes_leads rooms p n c d g = record {
  rule = g.rule;
  stands = g.first.stands;
  leads = record { applies = g.first.holds; gives = g.gives };
}

-- of quadruples that are apart in domain the one that applies is the first that does
pub only_is_first : (rs : List (Rule ℕ)) (n : ℕ) (r : Rule ℕ) (c : Configuration ℕ) → IsDeterministic rs
    → nth rs n ≡ Some r → AppliesTo r c → IsFirstRule rs c n r
only_is_first rs n r c apart here applies = record {
  stands = here;
  holds = applies;
  first = λ m s h e k. let same : m ≡ n = one_applies rs m n s r c apart e here k applies in omega arith;
}

-- In a deterministic machine a quadruple that leads on from a configuration makes the step, unless the state is the
-- final one or a head goes where it may not.
pub leads_goes : (rooms : Rooms) (p : Quadruples) (n : ℕ) (c d : Configuration ℕ) → IsDeterministic p.rules
    → c.state ≢ final_state_of p.rules → AreAllowed rooms d → LeadsBy p.rules n c d → GoesBy rooms p n c d
leads_goes rooms p n c d apart going stays l = record {
  going = going;
  rule = l.rule;
  first = only_is_first p.rules n l.rule c apart l.stands l.leads.applies;
  gives = l.leads.gives;
  stays = stays;
}

-- a step in rooms is a step without ends
pub goes_everywhere : (rooms : Rooms) (p : Quadruples) (n : ℕ) (c d : Configuration ℕ) → GoesBy rooms p n c d
    → GoesBy everywhere p n c d
goes_everywhere rooms p n c d g = record {
  going = g.going;
  rule = g.rule;
  first = g.first;
  gives = g.gives;
  stays = record { one = tt; two = tt; three = tt };
}

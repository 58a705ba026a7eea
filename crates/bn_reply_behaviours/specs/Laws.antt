-- The laws of this crate, a named field each. `Laws` is the contract of `reply_behaviours_laws`.
use Rattle.bn_reply_behaviours.specs.BehaviourReply.{BehaviourIsSettled}
use Rattle.bn_reply_behaviours.specs.CrossingsReply.{CrossingsIsSettled}

pub record Laws : Type 0 where
  -- For all limits from one state on, all names and all bytes, `behaviour` has exactly one answer.
  pub behaviour_has_one_reply : BehaviourIsSettled
  -- For all limits from one state on, all names and all bytes, `crossings` has exactly one answer.
  pub crossings_has_one_reply : CrossingsIsSettled

-- The laws of this crate, a named field each. `Laws` is the contract of `reply_equal_laws`.
use Rattle.bn_reply_equal.specs.EqualReply.{EqualIsSettled}

pub record Laws : Type 0 where
  -- For all states and bytes, `equal` has exactly one answer.
  pub equal_has_one_reply : EqualIsSettled

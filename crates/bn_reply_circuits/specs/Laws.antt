-- The laws of this crate, a named field each. `Laws` is the contract of `reply_circuits_laws`.
use Rattle.bn_reply_circuits.specs.ElementReply.{ElementIsSettled}
use Rattle.bn_reply_circuits.specs.FarmReply.{FarmIsSettled, FarmsComeBack}
use Rattle.bn_reply_circuits.specs.MirrorLaws.{MirroredTextsComeBack, BoardsComeBack}
use Rattle.bn_reply_circuits.specs.MirrorReply.{MirrorIsSettled}
use Rattle.bn_reply_circuits.specs.PlanReply.{PlanIsSettled}
use Rattle.bn_reply_circuits.specs.RealiseReply.{RealiseIsSettled}

pub record Laws : Type 0 where
  -- For all bytes, `farm` has exactly one answer.
  pub farm_has_one_reply : FarmIsSettled
  -- `farm` on the text of `farm` restores the first circuits byte for byte, and prints the lines of the schedule that
  -- made steps, each with the number made.
  pub farms_come_back : FarmsComeBack
  -- For all bytes, `mirror` has exactly one answer.
  pub mirror_has_one_reply : MirrorIsSettled
  -- `mirror` on the text of `mirror` restores the first text, with no steps counted.
  pub mirrored_texts_come_back : MirroredTextsComeBack
  -- For the circuit of a machine after any number of steps up to its exit: as many steps of its inverse circuit end
  -- with the inverse start, where the signal has left by the inverse circuit's end port.
  pub boards_come_back : BoardsComeBack
  -- For all bytes, `plan` has exactly one answer.
  pub plan_has_one_reply : PlanIsSettled
  -- For all states and ports, counted from 1, and all bytes, `realise` has exactly one answer.
  pub realise_has_one_reply : RealiseIsSettled
  -- For each number of ports and each number of an element, `element` has exactly one answer.
  pub element_has_one_reply : ElementIsSettled

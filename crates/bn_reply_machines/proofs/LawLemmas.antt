-- The laws of this crate that follow from those of the crates below it, each proved.
use Rattle.bn_reply_machines.proofs.InverseLemmas.{inverse_settled, inverse-twice}
use Rattle.bn_reply_machines.specs.InverseReply.{InverseLaws}

pub inverse_reply_laws : InverseLaws
inverse_reply_laws = record { inverse_has_one_reply = inverse_settled; inverse_twice = inverse-twice }

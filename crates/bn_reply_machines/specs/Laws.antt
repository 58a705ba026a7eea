-- The laws of this crate, a named field each. `Laws` is the contract of `reply_machines_laws`.
use Rattle.bn_reply_machines.specs.BennettReply.{BennettIsSettled}
use Rattle.bn_reply_machines.specs.CheckReply.{CheckIsSettled}
use Rattle.bn_reply_machines.specs.InverseReply.{InverseLaws}
use Rattle.bn_reply_machines.specs.MachineReply.{MachineIsSettled}
use Rattle.bn_reply_machines.specs.ReversibleReply.{ReversibleIsSettled}
use Rattle.bn_reply_machines.specs.StandardReply.{StandardIsSettled}

pub record Laws : Type 0 where
  -- `bennett` has exactly one answer to all bytes.
  pub bennett_has_one_reply : BennettIsSettled
  -- `check` has exactly one answer to all bytes.
  pub check_has_one_reply : CheckIsSettled
  -- The laws of `inverse`, a named field each: it has exactly one answer, and applied twice it gives the first table's
  -- entries.
  pub inverse_reply_laws : InverseLaws
  -- `machine` has exactly one answer to all words, numbers of steps and bytes.
  pub machine_has_one_reply : MachineIsSettled
  -- `reversible` has exactly one answer to all bytes.
  pub reversible_has_one_reply : ReversibleIsSettled
  -- `standard` has exactly one answer to all bytes.
  pub standard_has_one_reply : StandardIsSettled

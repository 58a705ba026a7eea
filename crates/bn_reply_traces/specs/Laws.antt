-- The laws of this crate, a named field each. `Laws` is the contract of `reply_traces_laws`.
use Rattle.bn_reply_traces.specs.MomentsReply.{MomentsAreSettled}
use Rattle.bn_reply_traces.specs.TraceReply.{TraceIsSettled}

pub record Laws : Type 0 where
  -- `trace` has exactly one answer to all words, numbers of steps and bytes.
  pub trace_has_one_reply : TraceIsSettled
  -- `moments` has exactly one answer to all words, numbers of steps and bytes, in both of its forms.
  pub moments_have_one_reply : MomentsAreSettled

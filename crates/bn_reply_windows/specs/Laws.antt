-- The laws of this crate, a named field each. `Laws` is the contract of `reply_windows_laws`.
use Rattle.bn_reply_windows.specs.WindowReply.{WindowIsSettled}

pub record Laws : Type 0 where
  -- `window` has exactly one answer to all words, numbers of steps and bytes.
  pub window_has_one_reply : WindowIsSettled

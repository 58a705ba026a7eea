-- The laws of this crate, a named field each. `Laws` is the contract of `reply_walks_laws`.
use Rattle.std.specs.Prelude.{◌≡◌, ◌↔◌, ℕ, ◌<◌, List, true}
use Rattle.bn_lists.specs.Lists.{Has}
use Rattle.bn_reply_walks.specs.WalkReply.{WalkIsSettled}
use Rattle.bn_reply_walks.specs.WalkView.{has_turned, turned_below}

-- a number is among those of the elements below n that have turned exactly if it is below n and its element has turned
abbrev pub TurnedAreThoseThatTurned : Type 0
TurnedAreThoseThatTurned =
    (before after : List ℕ) (n e : ℕ)
    → Has (turned_below before after n) e ↔ ((e < n) × (has_turned before after e ≡ true))

-- ---- the laws

pub record Laws : Type 0 where
  -- `walk` has exactly one answer to all bytes.
  pub walk_has_one_reply : WalkIsSettled
  -- A view names exactly the elements whose bars differ from the text's.
  pub views_name_turned_bars : TurnedAreThoseThatTurned

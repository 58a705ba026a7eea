-- The laws of this crate, a named field each. `Laws` is the contract of `reply_layout_laws`.
use Rattle.bn_reply_layout.specs.LayoutReply.{LayoutIsSettled}
use Rattle.bn_reply_layout.specs.PlaceLaws.{ModulesAreNamed, ElementsAreFound, TextsTellAll}

pub record Laws : Type 0 where
  -- `layout` has exactly one answer to all words, allowed limits and bytes.
  pub layout_has_one_reply : LayoutIsSettled
  -- The text has each module of a circuit, with the place of its bank, and no other.
  pub modules_are_named : ModulesAreNamed
  -- If `view` names a module and a port, an element belongs to that module alone, to one column and one row.
  pub elements_are_found : ElementsAreFound
  -- The text of a layout has each module, and each state of the control with its column.
  pub texts_tell_all : TextsTellAll

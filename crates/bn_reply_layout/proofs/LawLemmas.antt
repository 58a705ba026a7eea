-- The laws of this crate that follow from those of the crates below it, each proved.
use Rattle.bn_bennett.proofs.LawLemmas.{translations_are_uniform}
use Rattle.bn_boards.proofs.BoardLawLemmas.{flats_are_there}
use Rattle.bn_boards.proofs.LayoutLawLemmas.{flats_are_one}
use Rattle.bn_network.proofs.ExistingLemmas.{have-entries}
use Rattle.bn_reply_relations.proofs.LawLemmas.{boards_are_counted}
use Rattle.bn_reply_layout.proofs.PlaceLemmas.{modules-named, elements-found}
use Rattle.bn_reply_layout.proofs.SettledLemmas.{layout_settled}
use Rattle.bn_reply_layout.specs.LayoutReply.{LayoutIsSettled}
use Rattle.bn_reply_layout.specs.PlaceLaws.{ModulesAreNamed, ElementsAreFound}
use Rattle.bn_table.proofs.MachineLemmas.{tables_machines}

pub layout_has_one_reply : LayoutIsSettled
layout_has_one_reply = layout_settled tables_machines flats_are_there flats_are_one boards_are_counted

pub modules_are_named : ModulesAreNamed
modules_are_named = modules-named translations_are_uniform have-entries

pub elements_are_found : ElementsAreFound
elements_are_found = elements-found translations_are_uniform have-entries

-- The laws of this crate that follow from those of the crates below it, each proved.
use Rattle.bn_bennett.proofs.LawLemmas.{translations_are_tables, translations_have_names, translations_are_uniform}
use Rattle.bn_reply_builds.proofs.BennettLemmas.{boards-one, compiling-builds}
use Rattle.bn_reply_builds.specs.BennettBuilds.{BoardsAreOne, CompilingIsBuilding}
use Rattle.bn_table.proofs.MachineLemmas.{tables_machines}

pub compiling_is_building-boards : BoardsAreOne
compiling_is_building-boards = boards-one tables_machines translations_are_tables
    translations_have_names translations_are_uniform

pub compiling_is_building-texts : CompilingIsBuilding
compiling_is_building-texts = compiling-builds tables_machines translations_are_tables
    translations_have_names translations_are_uniform

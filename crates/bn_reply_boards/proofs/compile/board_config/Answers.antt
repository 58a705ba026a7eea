use Rattle.bn_netlist_laws.specs.declared.version.Version.TheVariants.{Two}
use Rattle.bn_netlist.specs.declared.packed_config.PackedConfig.{PackedConfig}
use Rattle.bn_reply_boards.proofs.MadeLemmas.{packed_spelling}
use Rattle.bn_reply_boards.proofs.compile.board_config.Goals as goal

pub returns-clause-spelling : goal.returns-clause-spelling
returns-clause-spelling c =
    let config : PackedConfig = record {
      version = Two;
      packed = c.into_packed.result;
      start = c.start.result;
      end = c.end.result;
    } in
    packed_spelling c.args.board config c.into_packed.ensures.net c.into_packed.ensures.config c.start.ensures
    c.end.ensures

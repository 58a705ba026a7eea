use Rattle.std.proofs.Common.{ap, subst, sym}
use Rattle.bn_netlist_laws.specs.Spelling.{IsTextOf}
use Rattle.bn_netlist.proofs.WritingLemmas.{written_to}
use Rattle.bn_netlist.proofs.write.write_config.Goals as goal

pub returns-in-Ok : goal.returns-in-Ok
returns-in-Ok g c =
    let v = g.C.Spellable.version c.args.config.now in
    let s = g.C.Spellable.spelling c.args.config.now in
    subst (IsTextOf v s) (sym c.into_bytes.ensures)
    (written_to v s c.new-sink.result.0 c.write_config_to.new.sink.0 c.requires (ap (λ k. k.0) c.new-sink.ensures)
    c.in-Ok.ensures.whole)

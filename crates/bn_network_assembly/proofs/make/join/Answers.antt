use Rattle.std.specs.Prelude.{map}
use Rattle.bn_network_assembly.specs.Modules.{module_table}
use Rattle.std.proofs.Common.{List, refl, ◌∙◌, sym, subst}
use Rattle.bn_element.specs.Tables.{Table}
use Rattle.bn_circuits.specs.declared.line.Wire.{Wire}
use Rattle.bn_circuits.specs.declared.place.Place.TheVariants.{Enter}
use Rattle.bn_circuits.specs.Faults.{AreFaultless}
use Rattle.bn_rsm.specs.Machines.{machine_table}
use Rattle.bn_network.specs.Networks.{IsNetWire, module_tables}
use Rattle.bn_network.specs.Starts.{words_on}
use Rattle.bn_network_laws.proofs.StartsLemmas.{inputs-fit}
use Rattle.bn_network_laws.proofs.WiredLemmas.{wired}
use Rattle.bn_network_assembly.specs.Assembled.{limits_of}
use Rattle.bn_network_assembly.specs.WireLists.{network_wires}
use Rattle.bn_network_assembly.proofs.FaultLemmas.{wires-faultless}
use Rattle.bn_network_assembly.proofs.JoinLemmas.{joined_some, tables_are}
use Rattle.bn_network_assembly.proofs.SymbolLemmas.{some_letters}
use Rattle.bn_network_assembly.proofs.WireLemmas.{network_wires-are}
use Rattle.bn_network_assembly.proofs.make.join.Goals as goal

pub new-requires-clause-faultless : goal.new-requires-clause-faultless
new-requires-clause-faultless c =
    let m = c.args.machine.now in
    let l = limits_of c.args.windows.now in
    let tables = tables_are m l c.args.control c.in_ok-modules.modules.items c.in_ok-modules.ensures in
    let is = c.requires.control.1 in
    subst (λ (ws : List Wire). AreFaultless (map module_table c.in_ok-modules.modules.items) ws)
    (sym (c.as_slice.ensures.value ∙ c.in_ok-wires.ensures))
    (subst (λ (ts : List Table). AreFaultless ts (network_wires m l)) (sym tables)
    (wires-faultless (module_tables m l (machine_table c.args.control.machine)) (IsNetWire m l) (network_wires m l)
    (network_wires-are m l c.requires.valid.tapes) (wired m l c.requires.valid.tapes c.requires.control.0
    (machine_table c.args.control.machine) is.table)))

pub of-requires : goal.of-requires
of-requires c =
    let m = c.args.machine.now in
    let l = limits_of c.args.windows.now in
    let words = c.args.words.now in
    let start = words_on m words.one.now words.two.now words.three.now in
    let made = joined_some m l start c.args.control c.requires.valid.tapes c.requires.control c.requires.few
    c.in_ok-net.net (record { states = c.new-2.result; place = Enter 0 0; steps = 0 })
    c.in_ok-modules.modules.items c.as_slice.result.now c.in_ok-modules.ensures c.in_ok-net.ensures.elements
    (c.as_slice.ensures.value ∙ c.in_ok-wires.ensures) c.in_ok-net.ensures.targets c.in_ok-net.ensures.circuit
    (c.new-2.ensures ∙ c.in_ok-states.ensures) refl refl in
    record {
      machine = m;
      names = made.0;
      start = start;
      is_machine = c.requires.valid;
      uniform = c.requires.uniform;
      within = c.requires.machine;
      small = c.requires.windows;
      initial = refl;
      fits = inputs-fit m l (λ t tape. some_letters m c.requires.valid.tapes c.requires.machine t tape)
          words.one.now words.two.now words.three.now c.requires.words;
      assembled = made.1;
    }

pub returns : goal.returns
returns c =
    let m = c.args.machine.now in
    let l = limits_of c.args.windows.now in
    let words = c.args.words.now in
    let start = words_on m words.one.now words.two.now words.three.now in
    let made = joined_some m l start c.args.control c.requires.valid.tapes c.requires.control c.requires.few
    c.in_ok-net.net (record { states = c.new-2.result; place = Enter 0 0; steps = 0 })
    c.in_ok-modules.modules.items c.as_slice.result.now c.in_ok-modules.ensures c.in_ok-net.ensures.elements
    (c.as_slice.ensures.value ∙ c.in_ok-wires.ensures) c.in_ok-net.ensures.targets c.in_ok-net.ensures.circuit
    (c.new-2.ensures ∙ c.in_ok-states.ensures) refl refl in
    (made.0, rw c.of.ensures made.1)

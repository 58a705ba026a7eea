use Rattle.std.proofs.Common.{◌+◌, ◌<◌, ◌≤◌, arith, refl}
use Rattle.bn_circuits.specs.Circuits.{line_at, target}
use Rattle.bn_netlist_laws.specs.Spelling.{targets_of}
use Rattle.bn_netlist_laws.proofs.WireLemmas.{rotary_state}
use Rattle.bn_netlist_laws.specs.Sentences.{Element, Column, Row}
use Rattle.bn_netlist_laws.specs.Spelling.{most_elements}
use Rattle.bn_netlist_laws.proofs.EntryLemmas.{count_states, column_within}
use Rattle.bn_netlist_laws.proofs.AdmittedLemmas.{most_small}
use Rattle.bn_netlist.specs.Writing.{an_element, a_column, a_row}
use Rattle.bn_netlist.proofs.WritingLemmas.{row_within}
use Rattle.bn_netlist.proofs.write.push_line.Goals as goal

pub returns-then-place-gt0 : goal.returns-then-place-gt0
returns-then-place-gt0 g c =
    let ws = (g.C.Spellable.spelling c.args.config.now).wires in
    let e = c.args.place.element in
    (Row (target ws (line_at e 1)) (target ws (line_at e 3)), a_row refl c.behind_row.ensures, c.in_ok-push_row.ensures)

pub behind_row-requires-clause-within : goal.behind_row-requires-clause-within
behind_row-requires-clause-within g c =
    let s = g.C.Spellable.spelling c.args.config.now in
    let v = g.C.Spellable.version c.args.config.now in
    let within = row_within s.elements c.args.place.element c.args.place.rows c.if-place-gt0.true c.requires.within in
    let few : s.elements ≤ most_elements v = c.requires.admitted.few in
    omega (arith, within, most_small v)

pub push_element-requires-clause-state : goal.push_element-requires-clause-state
push_element-requires-clause-state g c =
    rotary_state (g.C.Spellable.spelling c.args.config.now).elements c.args.place.element c.bar-state.result
    (c.requires.admitted.config.range c.args.place.element c.bar-state.result c.bar-state.ensures)

pub overflow_add-place : goal.overflow_add-place
overflow_add-place g c =
    let s = g.C.Spellable.spelling c.args.config.now in
    let v = g.C.Spellable.version c.args.config.now in
    let within : c.args.place.element + c.in-Some.rows < s.elements =
    column_within s c.args.place.element c.in-Some.rows c.in-Some.ensures.column in
    let few : s.elements ≤ most_elements v = c.requires.admitted.few in
    omega (arith, most_small v)

pub bar-state-requires-in-Some : goal.bar-state-requires-in-Some
bar-state-requires-in-Some g c =
    let s = g.C.Spellable.spelling c.args.config.now in
    let within : c.args.place.element + c.in-Some.rows < s.elements =
    column_within s c.args.place.element c.in-Some.rows c.in-Some.ensures.column in
    omega (arith, count_states (g.C.Spellable.version c.args.config.now) s c.requires.admitted)

pub push_column-requires : goal.push_column-requires
push_column-requires g c =
    record {
      state = rotary_state (g.C.Spellable.spelling c.args.config.now).elements
          (c.args.place.element + c.in-Some.rows) c.bar-state-in-Some.result
          (c.requires.admitted.config.range (c.args.place.element + c.in-Some.rows) c.bar-state-in-Some.result
          c.bar-state-in-Some.ensures);
    }

pub returns-in_ok-push_element-in-None : goal.returns-in_ok-push_element-in-None
returns-in_ok-push_element-in-None g c =
    let e = c.args.place.element in
    let q = c.bar-state.result in (
      Element e q (targets_of (g.C.Spellable.spelling c.args.config.now).wires e),
      an_element q (omega (arith, c.if-place-gt0.false)) c.bar-state.ensures c.in-None.ensures refl refl refl,
      c.in_ok-push_element-in-None.ensures,
    )

pub returns-in_ok-push_column-in-Some : goal.returns-in_ok-push_column-in-Some
returns-in_ok-push_column-in-Some g c =
    let e = c.args.place.element in
    let k = c.in-Some.rows in
    let q = c.bar-state-in-Some.result in (
      Column e k q,
      a_column k q (omega (arith, c.if-place-gt0.false)) c.in-Some.ensures c.bar-state-in-Some.ensures refl refl refl,
      c.in_ok-push_column-in-Some.ensures,
    )

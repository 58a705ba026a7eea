use Rattle.std.proofs.Common.{◌≡◌, ◌+◌, ◌∙◌, length, ap, arith, refl, sym}
use Rattle.bn_circuits.specs.declared.config.Config.{Config}
use Rattle.bn_netlist_laws.specs.Faults.{wires_after}
use Rattle.bn_netlist.specs.Finishing.{finds_column}
use Rattle.bn_netlist.proofs.FinishLemmas.{whole-AreDrawn, whole-IsConfig, counts, made_said, first_out, made_spelled}
use Rattle.bn_netlist.proofs.PackedLemmas.{drawn_config}
use Rattle.bn_netlist.proofs.entries.Entries.into_config.Goals as goal

pub from_draft-requires-clause-drawn : goal.from_draft-requires-clause-drawn
from_draft-requires-clause-drawn g c =
    let whole = c.requires.whole in (
      wires_after 6 whole.rows,
      whole-AreDrawn c.args.header.now whole.rows whole.whole c.args.self.ends.drawn whole.holds.kept.drawn_are,
    )

pub from_draft-requires-clause-good : goal.from_draft-requires-clause-good
from_draft-requires-clause-good g c =
    let h = c.args.header.now in
    let whole = c.requires.whole in
    λ ws drawn. drawn_config h ws (wires_after 6 whole.rows) c.args.self.states.items c.args.self.ends.drawn drawn
    (whole-AreDrawn h whole.rows whole.whole c.args.self.ends.drawn whole.holds.kept.drawn_are)
    (whole-IsConfig h whole.rows whole.whole (wires_after 6 whole.rows) c.args.self.states.items refl
    whole.holds.states_are)

pub spelled_out_in-requires-clause-states : goal.spelled_out_in-requires-clause-states
spelled_out_in-requires-clause-states g c =
    let whole = c.requires.whole in
    let both = counts c.args.header.now c.args.self.lines c.args.self.rows c.args.self.states.items
    c.args.self.own.items c.args.self.ends.drawn c.args.self.ends.fed.items whole in
    let same = c.in-Ok.ensures.spelling (wires_after 6 whole.rows) (whole-AreDrawn c.args.header.now whole.rows
    whole.whole c.args.self.ends.drawn whole.holds.kept.drawn_are) in
    ap (λ (d : Config). length d.states) (sym same.config) ∙ both.1 ∙ same.elements

pub spelled_out_in-requires-clause-lines : goal.spelled_out_in-requires-clause-lines
spelled_out_in-requires-clause-lines g c =
    let whole = c.requires.whole in
    let both = counts c.args.header.now c.args.self.lines c.args.self.rows c.args.self.states.items
    c.args.self.own.items c.args.self.ends.drawn c.args.self.ends.fed.items whole in
    let same = c.in-Ok.ensures.spelling (wires_after 6 whole.rows) (whole-AreDrawn c.args.header.now whole.rows
    whole.whole c.args.self.ends.drawn whole.holds.kept.drawn_are) in
    ap length c.as_slice.ensures.value ∙ both.0 ∙ same.elements

pub returns-in-Some-clause-refused : goal.returns-in-Some-clause-refused
returns-in-Some-clause-refused g c =
    let h = c.args.header.now in
    let s = g.C.Spellable.spelling c.in-Ok.made in
    let line_is : c.from.result + 7 ≡ c.in-Some.element + 7 = omega arith in
    finds_column (c.from.result + 7) refl (λ rows whole holds.
    first_out h rows s c.as_slice.result.now whole
    (made_said h rows (wires_after 6 rows) c.args.self.states.items s refl holds.states_are
    (c.in-Ok.ensures.spelling (wires_after 6 rows) (whole-AreDrawn h rows whole c.args.self.ends.drawn
    holds.kept.drawn_are)))
    (c.as_slice.ensures.value ∙ holds.own_are) c.in-Some.element (c.from.result + 7)
    (sym c.in-Ok.ensures.version ∙ c.in-Some.ensures.0) c.in-Some.ensures.1 line_is)

pub returns-clause-made : goal.returns-clause-made
returns-clause-made g c =
    let h = c.args.header.now in
    let s = g.C.Spellable.spelling c.in-Ok.made in
    λ rows whole holds. (
      c.in-Ok.ensures.version,
      made_spelled h rows s c.as_slice.result.now whole
          (made_said h rows (wires_after 6 rows) c.args.self.states.items s refl holds.states_are
          (c.in-Ok.ensures.spelling (wires_after 6 rows) (whole-AreDrawn h rows whole c.args.self.ends.drawn
          holds.kept.drawn_are)))
          (c.as_slice.ensures.value ∙ holds.own_are)
          (λ e second column. c.in_default-spelled_out_in.ensures e (c.in-Ok.ensures.version ∙ second) column),
    )

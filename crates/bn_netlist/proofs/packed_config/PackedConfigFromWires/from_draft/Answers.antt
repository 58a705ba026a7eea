use Rattle.std.proofs.Common.{ℕ, List, ◌∙◌, ap, refl, subst, sym}
use Rattle.bn_circuits.specs.Circuits.{IsConfig}
use Rattle.bn_circuits.specs.declared.config.Config.{Config}
use Rattle.bn_circuits.specs.RotaryNets.{IsNetOf, rotary_circuit}
use Rattle.bn_packed.specs.Drafts.{AreDrawn}
use Rattle.bn_netlist.proofs.PackedLemmas.{net-IsConfig, packed-AreSame}
use Rattle.bn_netlist.proofs.packed_config.PackedConfigFromWires.from_draft.Goals as goal

pub from_draft-requires-clause-drawn : goal.from_draft-requires-clause-drawn
from_draft-requires-clause-drawn c =
    let ws = c.requires.drawn.0 in
    let drawn = c.requires.drawn.1 in
    (ws, subst (λ n. AreDrawn n ws c.args.drawn) (sym drawn.ends.elements) drawn)

pub from_draft-requires-clause-good : goal.from_draft-requires-clause-good
from_draft-requires-clause-good c = λ ws net drawn is.
    let h = c.args.header.now in
    let elements = c.requires.drawn.1.ends.elements in
    let at_states = net-IsConfig h ws c.args.states.items net (subst (λ n. IsNetOf net n ws) elements is)
    (c.requires.good ws (subst (λ n. AreDrawn n ws c.args.drawn) elements drawn)) in
    subst (λ (qs : List ℕ). let d : Config = record { states = qs; place = h.place; steps = h.steps } in IsConfig
    (rotary_circuit net) d) (sym c.new.ensures) at_states

pub returns-clause-spelling : goal.returns-clause-spelling
returns-clause-spelling c = λ ws drawn.
    let h = c.args.header.now in
    let made = c.in_ok-packed.ensures in
    let elements = drawn.ends.elements in
    let config = made.config ∙ ap (λ (qs : List ℕ). let d : Config = record
    { states = qs; place = h.place; steps = h.steps } in d) c.new.ensures in
    packed-AreSame h ws c.args.states.items
    (record { version = h.version; packed = c.in_ok-packed.packed; start = h.start; end = h.end }) drawn.apart
    (subst (λ n. IsNetOf c.in_ok-packed.packed.net n ws) elements
    (made.net ws (subst (λ n. AreDrawn n ws c.args.drawn) (sym elements) drawn))) made.circuit config refl refl

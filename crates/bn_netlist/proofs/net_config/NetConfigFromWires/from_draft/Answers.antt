use Rattle.std.proofs.Common.{ℕ, List, ◌≡◌, ◌∙◌, ap, arith, length, refl, subst, sym}
use Rattle.bn_circuits.specs.Circuits.{IsCircuit, IsConfig}
use Rattle.bn_circuits.specs.declared.config.Config.{Config}
use Rattle.bn_element.specs.declared.rotary.Rotary.{Rotary}
use Rattle.bn_circuits.specs.Parts.{Parts}
use Rattle.bn_circuits.specs.RotaryNets.{IsNetOf, rotary_circuit}
use Rattle.bn_packed.specs.Drafts.{AreDrawn}
use Rattle.bn_netlist.proofs.PackedLemmas.{net-AreSame, net-IsConfig}
use Rattle.bn_netlist.proofs.net_config.NetConfigFromWires.from_draft.Goals as goal

pub from_draft-requires-clause-drawn : goal.from_draft-requires-clause-drawn
from_draft-requires-clause-drawn c =
    let ws = c.requires.drawn.0 in
    let drawn = c.requires.drawn.1 in
    (ws, subst (λ n. AreDrawn n ws c.args.drawn) (sym drawn.ends.elements) drawn)

pub from_draft-requires-clause-good : goal.from_draft-requires-clause-good
from_draft-requires-clause-good c = λ ws net drawn is.
    let h = c.args.header.now in
    let elements = c.requires.drawn.1.ends.elements in
    let at_states = net-IsConfig h ws c.args.states.items net (subst (λ n. IsNetOf net n ws) elements is)
    (c.requires.good ws (subst (λ n. AreDrawn n ws c.args.drawn) elements drawn)) in
    subst (λ (qs : List ℕ). let d : Config = record { states = qs; place = h.place; steps = h.steps } in IsConfig
    (rotary_circuit net) d) (sym c.new.ensures) at_states

pub to_net-requires-clause-few : goal.to_net-requires-clause-few
to_net-requires-clause-few c =
    let ws = c.requires.drawn.0 in
    let drawn = c.requires.drawn.1 in
    let elements = drawn.ends.elements in
    let is = c.in_ok-packed.ensures.net ws (subst (λ n. AreDrawn n ws c.args.drawn) (sym elements) drawn) in
    let count : length c.in_ok-packed.packed.net.elements ≡ c.args.header.now.count = is.elements ∙ elements in
    omega (arith, c.requires.few)

pub returns-clause-spelling : goal.returns-clause-spelling
returns-clause-spelling c = λ ws drawn.
    let h = c.args.header.now in
    let made = c.in_ok-packed.ensures in
    let elements = drawn.ends.elements in
    let same : c.in_ok-net.net ≡ c.in_ok-packed.packed.net = c.in_ok-net.ensures in
    let config = c.in_ok-config.ensures.config ∙ made.config ∙ ap (λ (qs : List ℕ). let d : Config = record
    { states = qs; place = h.place; steps = h.steps } in d) c.new.ensures in
    let is = subst (λ n. IsNetOf c.in_ok-packed.packed.net n ws) elements
    (made.net ws (subst (λ n. AreDrawn n ws c.args.drawn) (sym elements) drawn)) in
    net-AreSame h ws c.args.states.items
    (record {
      version = h.version;
      net = c.in_ok-net.net;
      config = c.in_ok-config.config;
      start = h.start;
      end = h.end;
    }) drawn.apart (subst (λ (n : Parts Rotary). IsNetOf n h.count ws) (sym same) is)
    (subst (λ (n : Parts Rotary). IsCircuit (rotary_circuit n)) (sym same) made.circuit) config refl refl

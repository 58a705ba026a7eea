-- One move of a network is a run of its circuit.
use Rattle.std.specs.Prelude.{◌≡◌, ◌≢◌, ℕ, ◌+◌, ◌<◌, ◌≤◌, List, length, map, replicate, Option, Some, None, slice_get}
use Rattle.std.specs.Prelude.{refl}
use Rattle.std.proofs.Common.{zero, suc, arith, sym, ap, subst, ◌∙◌, inl, inr}
use Rattle.std.proofs.lemmas.Bool.Decides.{eqb_tells}
use Rattle.std.proofs.lemmas.List.{length-set}
use Rattle.std.proofs.lemmas.Option.{option_and_then_some, slice_get_within}
use Rattle.bn_element.specs.Tables.{Table}
use Rattle.bn_element.specs.Rotary.{rotary}
use Rattle.bn_lists.specs.Runs.{Reaches}
use Rattle.bn_lists.proofs.RunsLemmas.{runs_join}
use Rattle.bn_circuits.specs.Circuits.{Circuit, clock, target, line_at, place_at, place_after, Goes, IsPlace}
use Rattle.bn_circuits.proofs.StepLemmas.{same_lines, slice_get-set_same, slice_get-set_other, place_after-IsPlace}
use Rattle.bn_circuits.specs.declared.line.Line.{Line}
use Rattle.bn_circuits.specs.declared.line.Wire.{Wire}
use Rattle.bn_circuits.specs.declared.place.Place.TheVariants.{Enter}
use Rattle.bn_circuits.specs.declared.config.Config.{Config}
use Rattle.bn_circuits.specs.Situations.{Situation, Turns}
use Rattle.bn_mixed_networks.specs.Parts.{Part, IsPart, IsAssembly, IsAssemblyWire, own, between, Represents, network}
use Rattle.bn_mixed_networks.specs.Parts.{part_table}
use Rattle.bn_mixed_networks.specs.Parts.{part_size, part_input, part_output, part_cost, place_in, input_place}
use Rattle.bn_mixed_networks.specs.Parts.{output_place}
use Rattle.bn_mixed_networks.specs.Parts.{IsPartResting, IsPartWire, move_cost, place_cost, base, size}
use Rattle.bn_mixed_networks.specs.Laws.{AreParts, OneMove, AssembliesFollow, no_move, move}
use Rattle.bn_mixed_networks.proofs.PartLemmas.{IsPartIn, HasMoved, part-reversible, part-square, part-output-in}
use Rattle.bn_mixed_networks.proofs.PartLemmas.{part-wire-within, part-wire-no_output, part-output-once, part-moves}
use Rattle.bn_mixed_networks.proofs.PartLemmas.{part-kept}
use Rattle.bn_mixed_networks.proofs.PlaceLemmas.{base-within, parts-beside, parts-apart, one-part, table-of, part-of}

all_rotary : (n e : ℕ) → e < n → slice_get (replicate n rotary) e ≡ Some rotary
all_rotary zero e h = absurd (omega arith)
all_rotary (suc n) zero h = refl
all_rotary (suc n) (suc e) h = all_rotary n e (omega arith)

module _ (ps : List Part) (ws : List Wire) (k : Circuit) (are : AreParts ps ws) (is : IsAssembly ps ws k) where
  part-in : (m : ℕ) (p : Part) → slice_get ps m ≡ Some p → IsPartIn k p (base ps m)
  part-in m p has = record {
    rotaries = λ e low high. let ends = base-within ps m p has in
        ap (λ ts. slice_get ts e) is.tables ∙ all_rotary (size ps) e (omega arith);
    wired = λ from to wire. (is.wires from to).1 (own m p has wire);
  }

  -- no wire leaves an output port that no wire of the network leaves
  no_wire : (e o : ℕ) (p : Part) (to : Line) → slice_get ps e ≡ Some p → o < (part_table p).inputs
      → target ws (line_at e o) ≡ None → IsAssemblyWire ps ws (part_output p (base ps e) o) to → ⊥
  no_wire e o p to has row none (own m u at wire) =
      elim (eqb_tells m e) [
        | inl same ↦ (let one : u ≡ p = one-part ps m e u p same.1 at has in
            let there = subst (λ x. IsPartWire u (base ps x) (part_output p (base ps e) o) to) same.1 wire in
            let wire' = subst (λ v. IsPartWire v (base ps e) (part_output p (base ps e) o) to) one there in
            part-wire-no_output p (base ps e) o to (are.parts e p has) row wire')
        | inr apart ↦ (let lines = part-wire-within u (base ps m) (part_output p (base ps e) o) to (are.parts m u at)
            wire
            in
            let place = part-output-in p (base ps e) o (are.parts e p has) row in
            parts-apart ps m e u p (part_output p (base ps e) o).element at has apart.1 lines.leaves.low
            lines.leaves.high
            place.low place.high)
      ]
  no_wire e o p to has row none (between out into u v wired at at' leaves ends) =
      let output = (are.circuit.wired out into wired).0 in
      let tables = table-of ps out.element u at in
      let rows : out.line < (part_table u).outputs = rw tables at output in
      let row' : out.line < (part_table u).inputs = subst (λ x. out.line < x)
      (part-square u (are.parts out.element u at))
      rows in
      let place = part-output-in p (base ps e) o (are.parts e p has) row in
      let place' = part-output-in u (base ps out.element) out.line (are.parts out.element u at) row' in
      elim (eqb_tells out.element e) [
        | inl same ↦ (let one : u ≡ p = one-part ps out.element e u p same.1 at has in
            let leaves' = subst (λ x. part_output p (base ps e) o ≡ part_output u (base ps x) out.line) same.1 leaves in
            let leaves'' = subst (λ x. part_output p (base ps e) o ≡ part_output x (base ps e) out.line) one leaves' in
            let line : o ≡ out.line = part-output-once p (base ps e) o out.line leaves'' in
            let there : out ≡ line_at e o = same_lines out (line_at e o) same.1 (sym line) in
            let found = subst (λ (l : Line). target ws l ≡ Some into) there wired in
            cc)
        | inr apart ↦ (let element = ap (λ (l : Line). l.element) leaves in
            let low = subst (λ x. base ps out.element ≤ x) (sym element) place'.low in
            let high = subst (λ x. x < base ps out.element + part_size u) (sym element) place'.high in
            parts-apart ps out.element e u p (part_output p (base ps e) o).element at has apart.1 low high place.low
            place.high)
      ]

  -- an input port of the network is one of a part
  input-part : (m i : ℕ) → IsPlace (network ps ws) (Enter m i)
      → (p : Part) × (slice_get ps m ≡ Some p) × (i < (part_table p).inputs)
  input-part m i low = by_table (slice_get (map part_table ps) m) refl
    where
      by_table : (o : Option Table) → slice_get (map part_table ps) m ≡ o
          → (p : Part) × (slice_get ps m ≡ Some p) × (i < (part_table p).inputs)
      by_table None none = (let low' = rw none at low in absurd (omega arith))
      by_table (Some t) at =
          let p = part-of ps m t at in
          let low' : i < t.inputs = rw at at low in
          (p.0, p.1, subst (λ (x : Table). i < x.inputs) (sym p.2) low')

  -- the signal goes on from a part's output port as from the module's
  led : (e o : ℕ) (p : Part) → slice_get ps e ≡ Some p → o < (part_table p).inputs
      → place_after k.wires (part_output p (base ps e) o) ≡ place_in ps (place_after ws (line_at e o))
  led e o p has row = by_wire (target ws (line_at e o)) refl
    where
      loose : (v : Option Line) → target k.wires (part_output p (base ps e) o) ≡ v → target ws (line_at e o) ≡ None
          → place_at v (part_output p (base ps e) o) ≡ output_place ps e (slice_get ps e) o
      loose None at none = rw has refl
      loose (Some to) at none = absurd (no_wire e o p to has row none
          ((is.wires (part_output p (base ps e) o) to).0 at))

      by_wire : (v : Option Line) → target ws (line_at e o) ≡ v
          → place_after k.wires (part_output p (base ps e) o) ≡ place_in ps (place_at v (line_at e o))
      by_wire None at = loose (target k.wires (part_output p (base ps e) o)) refl at
      by_wire (Some into) at =
          let input = input-part into.element into.line (are.circuit.wired (line_at e o) into at).1 in
          let wire = (is.wires (part_output p (base ps e) o) (part_input input.0 (base ps into.element) into.line)).1
          (between (line_at e o) into p input.0 at has input.1 refl refl) in
          rw (wire, input.1) refl

  module _ (s t : Situation) (c : Config) (here : Represents ps ws s c) (g : Turns (network ps ws) s t)
      (room : c.steps + move_cost ps s ≤ clock) (p : Part) (has : slice_get ps g.element ≡ Some p)
      (goes : (part_table p).go g.before g.input ≡ Some (g.after, g.output)) where
    abbrev b : ℕ
    b = base ps g.element

    is_part : IsPart p
    is_part = are.parts g.element p has

    arrives : (g.after < (part_table p).states) × (g.output < (part_table p).outputs)
    arrives = (part-reversible p is_part).arrives g.before g.input g.after g.output goes

    out : g.output < (part_table p).inputs
    out = subst (λ x. g.output < x) (part-square p is_part) arrives.1

    cost : move_cost ps s ≡ part_cost p g.before g.input
    cost = ap (place_cost ps s.states) g.enters ∙ rw (g.has_state, has) refl

    enters : c.place ≡ Enter (part_input p b g.input).element (part_input p b g.input).line
    enters = here.place ∙ ap (place_in ps) g.enters ∙ ap (λ o. input_place ps g.element o g.input) has

    moved : (d : Config) × HasMoved k p b g.before g.input g.after g.output c d
    moved = part-moves k p b g.before g.input g.after g.output c is_part (part-in g.element p has)
        (here.rests g.element p g.before has g.has_state).1 enters goes
        (subst (λ x. c.steps + x ≤ clock) cost room)

    abbrev new : Config
    new = moved.0

    state_at : slice_get t.states g.element ≡ Some g.after
    state_at = ap (λ (xs : List ℕ). slice_get xs g.element) g.states
        ∙ slice_get-set_same s.states g.element g.after (slice_get_within s.states g.element g.before g.has_state)

    state_beside : (m : ℕ) → m ≢ g.element → slice_get t.states m ≡ slice_get s.states m
    state_beside m apart = ap (λ (xs : List ℕ). slice_get xs m) g.states
        ∙ slice_get-set_other s.states g.element m g.after apart

    rests_here : (m : ℕ) (v : Part) (q : ℕ) → m ≡ g.element → slice_get ps m ≡ Some v → slice_get t.states m ≡ Some q
        → (q < (part_table v).states) × IsPartResting v new.states (base ps m) q
    rests_here m v q same at state =
        let one : v ≡ p = one-part ps m g.element v p same at has in
        let there : slice_get t.states g.element ≡ Some q = subst (λ x. slice_get t.states x ≡ Some q) same state in
        let number : q ≡ g.after = (let h = state_at in cc) in
        rw (same, one, number) (arrives.0, moved.1.resting)

    rests_beside : (m : ℕ) (v : Part) (q : ℕ) → m ≢ g.element → slice_get ps m ≡ Some v → slice_get t.states m ≡ Some q
        → (q < (part_table v).states) × IsPartResting v new.states (base ps m) q
    rests_beside m v q apart at state =
        let rests = here.rests m v q at (sym (state_beside m apart) ∙ state) in (
          rests.0,
          part-kept v c.states new.states (base ps m) q
              (λ x low high. moved.1.beside x (parts-beside ps m g.element v p x at has apart low high)) rests.1,
        )

    represents : Represents ps ws t new
    represents = record {
      count = ap length g.states ∙ length-set s.states g.element g.after ∙ here.count;
      bars = moved.1.count ∙ here.bars;
      rests = λ m v q at state. elim (eqb_tells m g.element) [
        | inl same ↦ rests_here m v q same.1 at state
        | inr apart ↦ rests_beside m v q apart.1 at state
      ];
      admissible = subst (IsPlace (network ps ws)) (sym g.place)
          (place_after-IsPlace (network ps ws) are.circuit (line_at g.element g.output)
          (rw (table-of ps g.element p has) arrives.1));
      place = moved.1.place ∙ led g.element g.output p has out ∙ ap (place_in ps) (sym g.place);
    }

    made : (d : Config) × Reaches (Goes k) (move_cost ps s) c d × Represents ps ws t d
        × (d.steps ≡ c.steps + move_cost ps s)
    made = (
      new,
      subst (λ x. Reaches (Goes k) x c new) (sym cost) moved.1.run,
      represents,
      moved.1.steps ∙ ap (λ x. c.steps + x) (sym cost),
    )

pub one-move : OneMove
one-move ps ws k s t c are is here g room =
    option_and_then_some (λ (u : Table). u.go g.before g.input) (slice_get (map part_table ps) g.element)
    (g.after, g.output) g.moves
    (λ u at goes. let p = part-of ps g.element u at in
    made ps ws k are is s t c here g room p.0 p.1 (subst (λ (x : Table). x.go g.before g.input
    ≡ Some (g.after, g.output))
    (sym p.2) goes))

pub follow : AssembliesFollow
follow ps ws k n cost s t c are is here no_move room = (c, refl, here, omega arith)
follow ps ws k n cost s t c are is here (move {n = m} {cost = rest} {t = y} turns more) room =
    let first = one-move ps ws k s y c are is here turns (omega arith) in
    let steps : first.0.steps ≡ c.steps + move_cost ps s = first.3 in
    let then = follow ps ws k m rest y t first.0 are is first.2 more (omega arith) in
    let sum : then.0.steps ≡ first.0.steps + rest = then.3 in (
      then.0,
      runs_join (Goes k) cost (move_cost ps s) rest c first.0 then.0 refl first.1 then.1,
      then.2,
      omega arith,
    )

-- Wherever a circuit with a layout comes to there is one view of it by the moments that the layout finds, and only one.
use Rattle.std.specs.Prelude.{◌≡◌, ◌≢◌, ℕ, ◌+◌, ◌-◌, ◌*◌, ◌<◌, ◌≤◌, ◌⊎◌, pos, ◌-ℤ◌, List, [], ◌∷◌, length, slice_get}
use Rattle.std.specs.Prelude.{Option, Some, None, refl}
use Rattle.std.proofs.Common.{zero, suc, arith, sym, ap, ◌∙◌, inl, inr}
use Rattle.std.proofs.lemmas.Bool.{cases_lt}
use Rattle.std.proofs.lemmas.Nat.{mul-le}
use Rattle.std.proofs.lemmas.Bool.Decides.{eqb_tells}
use Rattle.std.proofs.lemmas.Option.{slice_get_within}
use Rattle.bn_lists.specs.Runs.{Reaches}
use Rattle.bn_element.specs.Tables.{Table}
use Rattle.bn_circuits.specs.Circuits.{Circuit, Goes, IsCircuit, inputs_of, target, place_at}
use Rattle.bn_circuits.specs.Stepping.{run}
use Rattle.bn_circuits.specs.declared.line.Line.{Line}
use Rattle.bn_circuits.specs.declared.place.Place.{Place}
use Rattle.bn_circuits.specs.declared.place.Place.TheVariants.{Enter, Left}
use Rattle.bn_circuits.specs.declared.config.Config.{Config}
use Rattle.bn_element.specs.Rotary.{west}
use Rattle.bn_network.specs.Cells.{cell_line_count}
use Rattle.bn_network.specs.Networks.{IsTape, cells_in, cell_size, left_of}
use Rattle.bn_boards.specs.Boards.{base, size, size_of}
use Rattle.bn_boards.specs.Layouts.{Layout, cell_element, elements_of, first_element, symbol_count_at, lines_at}
use Rattle.bn_boards.specs.Layouts.{spelled_by}
use Rattle.bn_board.specs.Locations.{IsInputLine, IsLocated, in_cell, in_control, left}
use Rattle.bn_board.specs.declared.located.Located.{Located}
use Rattle.bn_board.specs.declared.located.Located.TheVariants as located
use Rattle.bn_view.specs.Modules.{module_by}
use Rattle.bn_view.specs.declared.layers.BoardLayers.{BoardLayers}
use Rattle.bn_view.specs.Viewed.{IsFoundView}
use Rattle.bn_view.proofs.ModuleLemmas.{modules-one}
use Rattle.bn_view.proofs.ShownLemmas.{shown-one, shown-there}

-- ---- the input line that is entered

is_west : (l : ℕ) → (l ≡ west) ⊎ (l ≢ west)
is_west l = elim (eqb_tells l west) [
  | inl same ↦ inl same.1
  | inr other ↦ inr other.1
]

input_line_there : (first lines e l : ℕ) → first ≤ e → (line : Option ℕ) × IsInputLine first lines e l line
input_line_there first lines e l low = by (is_west l) (cases_lt (e - first) lines)
  where
    same_some : (a i : ℕ) → Some a ≡ Some i → a ≡ i
    same_some a i h = cc

    none_some : (i : ℕ) → None ≡ Some i → ⊥
    none_some i h = cc

    by : (l ≡ west) ⊎ (l ≢ west) → ((e - first) < lines) ⊎ (lines ≤ e - first)
        → (line : Option ℕ) × IsInputLine first lines e l line
    by (inl same) (inl within) = (
      Some (e - first),
      λ i. (
        λ is. (let count = same_some (e - first) i is in (omega arith, omega arith, same)),
        λ h. ap Some (let is = h.1 in omega arith),
      ),
    )
    by (inl same) (inr beyond) = (
      None,
      λ i. (
        λ is. absurd (none_some i is),
        λ h. absurd (let few = h.0 in let is = h.1 in omega arith),
      ),
    )
    by (inr other) within = (None, λ i. (λ is. absurd (none_some i is), λ h. absurd (other h.2)))

-- ---- the module of an element

module _ (b : Layout) where
  -- the cell of an element among the first n of a tape
  among : (z first n e : ℕ) → first ≤ e → e < first + n * z → (c : ℕ) × (c < n) × (first + c * z ≤ e)
      × (e < first + c * z + z)
  among z first zero e low high = absurd (omega arith)
  among z first (suc n) e low high = by (cases_lt e (first + n * z)) (λ before. among z first n e low before)
    where
      by : (e < first + n * z) ⊎ (first + n * z ≤ e) → (e < first + n * z
          → (c : ℕ) × (c < n) × (first + c * z ≤ e) × (e < first + c * z + z))
          → (c : ℕ) × (c < suc n) × (first + c * z ≤ e) × (e < first + c * z + z)
      by (inl before) rest = let r = rest before in (r.0, omega (arith, r.1), r.2, r.3)
      by (inr behind) rest = (n, omega arith, behind, omega arith)

  in_tape : (t e l : ℕ) → IsTape (suc t) → first_element b (suc t) ≤ e → e < first_element b (suc (suc t))
      → (x : Located) × IsLocated b (Enter e l) x
  in_tape t e l tape low high =
      let c = among (cell_size (symbol_count_at b (suc t))) (first_element b (suc t)) (cells_in b.limits (suc t)) e low
      high in
      let line = input_line_there (cell_element b (suc t) c.0) (cell_line_count (symbol_count_at b (suc t))) e l c.2
      in (
        located.Cell (suc t) (pos c.0 -ℤ pos (left_of b.limits (suc t))) line.0,
        in_cell e l refl (suc t) c.0 tape c.1 c.2 c.3 line.0 line.1 refl,
      )

  entered : (e l : ℕ) → e < first_element b 4 → (x : Located) × IsLocated b (Enter e l) x
  entered e l within = by (cases_lt e (first_element b 1)) (cases_lt e (first_element b 2))
      (cases_lt e (first_element b 3))
    where
      by : (e < first_element b 1) ⊎ (first_element b 1 ≤ e) → (e < first_element b 2) ⊎ (first_element b 2 ≤ e)
          → (e < first_element b 3) ⊎ (first_element b 3 ≤ e) → (x : Located) × IsLocated b (Enter e l) x
      by (inl control) second third = let line = input_line_there 0 (lines_at b) e l (omega arith) in
          (located.Control line.0, in_control e l refl control line.0 line.1 refl)
      by (inr first) (inl before) third = in_tape 0 e l (record { low = omega arith; high = omega arith }) first before
      by (inr first) (inr second) (inl before) = in_tape 1 e l (record { low = omega arith; high = omega arith }) second
          before
      by (inr first) (inr second) (inr third) = in_tape 2 e l (record { low = omega arith; high = omega arith }) third
          within

  located_there : (p : Place) → ((e l : ℕ) → p ≡ Enter e l → e < elements_of b) → (x : Located) × IsLocated b p x
  located_there (Enter e l) within = entered e l (within e l refl)
  located_there (Left e l) within = (located.Outside, left e l refl refl)

-- ---- the signal is at an element that is there

input_within : (ts : List Table) (e i : ℕ) → i < inputs_of ts e → e < length ts
input_within ts e i fits = by (slice_get ts e) refl
  where
    by : (o : Option Table) → slice_get ts e ≡ o → e < length ts
    by None is = let none : inputs_of ts e ≡ 0 = rw is refl in absurd (omega arith)
    by (Some t) is = slice_get_within ts e t is

goes_within : (k : Circuit) → IsCircuit k → (c d : Config) → Goes k c d → (e l : ℕ) → d.place ≡ Enter e l
    → e < length k.tables
goes_within k circuit c d g e l at = by (target k.wires from) refl
  where
    from : Line
    from = record { element = g.crosses.element; line = g.crosses.output }

    by : (o : Option Line) → target k.wires from ≡ o → e < length k.tables
    by None is = let both : Left g.crosses.element g.crosses.output ≡ Enter e l =
        sym (g.crosses.place ∙ ap (λ o. place_at o from) is) ∙ at in absurd (cc)
    by (Some to) is =
        let both : Enter to.element to.line ≡ Enter e l = sym (g.crosses.place ∙ ap (λ o. place_at o from) is) ∙ at in
        let same : to.element ≡ e = cc in
        let there : to.element < length k.tables = input_within k.tables to.element to.line (circuit.wired from to is).1
        in
        omega arith

reached_within : (k : Circuit) → IsCircuit k → (n : ℕ) (c d : Config) → Reaches (Goes k) n c d
    → ((e l : ℕ) → c.place ≡ Enter e l → e < length k.tables) → (e l : ℕ) → d.place ≡ Enter e l → e < length k.tables
reached_within k circuit zero c d path start e l at = start e l (ap (λ (x : Config). x.place) path ∙ at)
reached_within k circuit (suc n) c d path start e l at = reached_within k circuit n path.0 d path.2
    (λ f m there. goes_within k circuit c path.0 path.1 f m there) e l at

-- ---- the first element

base_zero : (ts : List Table) → base ts 0 ≡ 0
base_zero [] = refl
base_zero (x ∷ xs) = refl

-- a board whose first module has a line and a state has an element
pub some_elements : (ts : List Table) → (0 < inputs_of ts 0) → ((u : Table) → slice_get ts 0 ≡ Some u → 0 < u.states)
    → 0 < size ts
some_elements [] some states = absurd (omega arith)
some_elements (u ∷ ts) some states =
    let has : 0 < u.states = states u refl in
    let product : 1 * 1 ≤ u.states * (u.inputs + 1) = mul-le 1 1 u.states (u.inputs + 1) (omega arith) (omega arith) in
    let whole : size (u ∷ ts) ≡ size_of u + base ts (length ts) = refl in
    omega arith

-- where the signal enters at the start it enters one that is there
pub begins : (ts : List Table) (x y : ℕ) → Enter (base ts 0 + 0) west ≡ Enter x y → 0 < size ts → x < size ts
begins ts x y at some = let same : base ts 0 + 0 ≡ x = cc in let none = base_zero ts in omega arith

-- ---- a view

-- there is one at most
pub found-once : (b : Layout) (k : Circuit) (c0 : Config) (initial : ℕ) (d : Config) (v w : BoardLayers)
    → IsFoundView b k c0 initial d v
    → IsFoundView b k c0 initial d w → v ≡ w
found-once b k c0 initial d v w one two =
    let same = shown-one b k c0 initial d.steps one.step v.state two.step w.state one.shown two.shown in
    let place = one.place ∙ sym two.place in
    let made = one.steps ∙ sym two.steps in
    let located = modules-one b d.place v.module w.module one.located two.located in
    let tapes : v.tapes ≡ w.tapes = one.tapes ∙ ap (λ s. spelled_by b (run k c0 s).states) same.0 ∙ sym two.tapes in
    λ i. record { place = place i; steps = made i; «module» = located i; state = same.1 i; tapes = tapes i }

-- and there is one, of a circuit of as many elements as the layout has
pub found-there : (b : Layout) (k : Circuit) (c0 : Config) (initial : ℕ) → IsCircuit k → length k.tables ≡ elements_of b
    → ((e l : ℕ) → c0.place ≡ Enter e l → e < elements_of b) → (t : ℕ) (d : Config) → Reaches (Goes k) t c0 d
    → (v : BoardLayers) × IsFoundView b k c0 initial d v
found-there b k c0 initial circuit count begins t d path =
    let shown = shown-there b k c0 initial d.steps in
    let place = located_there b d.place (λ e l at.
    (let low = reached_within k circuit t c0 d path (λ x y there. (let first = begins x y there in omega arith)) e l at
    in omega arith)) in (
      record {
        place = d.place;
        steps = d.steps;
        «module» = module_by b place.0;
        state = shown.1;
        tapes = spelled_by b (run k c0 shown.0).states;
      },
      record {
        place = refl;
        steps = refl;
        located = (place.0, place.1, refl);
        step = shown.0;
        shown = shown.2;
        tapes = refl;
      },
    )

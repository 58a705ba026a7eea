-- What a board shows can be written: its cells show symbols of the table, and its place is a line of an element.
use Rattle.std.specs.Prelude.{◌≡◌, ◌≢◌, ℕ, ◌*◌, ◌<◌, List, Option, Some, None, refl}
use Rattle.std.specs.List.{range_with_len}
use Rattle.std.specs.Option.{option_map}
use Rattle.std.proofs.Common.{arith, sym, subst}
use Rattle.std.proofs.lemmas.Bool.Decides.{nat_tests}
use Rattle.std.proofs.lemmas.List.Elements.{All-map}
use Rattle.std.proofs.lemmas.List.FromFn.{length-range_with_len}
use Rattle.std.proofs.lemmas.List.Quantifiers.{position-Some}
use Rattle.bn_circuits.specs.Circuits.{IsConfig, IsPlace}
use Rattle.bn_circuits.specs.declared.place.Place.{Place}
use Rattle.bn_circuits.specs.declared.place.Place.TheVariants.{Enter, Left}
use Rattle.bn_circuits.specs.declared.config.Config.{Config}
use Rattle.bn_element.specs.declared.rotary.Rotary.{Rotary}
use Rattle.bn_circuits.specs.Parts.{Parts}
use Rattle.bn_circuits.specs.RotaryNets.{rotary_circuit}
use Rattle.bn_packed.proofs.EndLemmas.{input_below, output_below}
use Rattle.bn_netlist_laws.specs.Sentences.{line_of_place}
use Rattle.bn_realise.specs.Banks.{bottom_at}
use Rattle.bn_network.specs.Cells.{cell_line_count}
use Rattle.bn_network.specs.Networks.{cells_in}
use Rattle.bn_table.specs.Rows.{Named}
use Rattle.bn_boards.specs.Layouts.{Layout, symbol_count_at, cell_element, cell_state_at, cells_shown, is_marked_at}
use Rattle.bn_boards.specs.Layouts.{marked_column, symbol_by}
use Rattle.bn_reply_boards.specs.Shown.{HasLetter, HaveLetters}

-- ---- cells

-- a marked column is one of the bank's
column_within : (states : List ℕ) (b n k q : ℕ) → marked_column states b n k ≡ Some q → q < n
column_within states b n k q is =
    let found = position-Some (λ j. is_marked_at states (bottom_at b k j)) (range_with_len 0 n) q 0 is in
    let count = length-range_with_len 0 n in
    let low = found.0 in
    omega arith

-- the symbol of a cell's state is one of the tape's
symbol_within : (z q : ℕ) → q < 2 * z → symbol_by z q < z
symbol_within z q low = grind (arith, nat_tests)

module _ (t : Named) (tape : ℕ) where
  state_letter : (z : ℕ) → (tape ≢ 2 → z ≡ t.machine.symbols) → (o : Option ℕ) → ((q : ℕ) → o ≡ Some q → q < 2 * z)
      → HasLetter t tape (option_map (symbol_by z) o)
  state_letter z is None within = tt
  state_letter z is (Some q) within = λ other. subst (λ n. symbol_by z q < n) (is other)
      (symbol_within z q (within q refl))

  pub shown_letters : (b : Layout) (states : List ℕ) → (tape ≢ 2 → symbol_count_at b tape ≡ t.machine.symbols)
      → HaveLetters t tape (cells_shown b states tape)
  shown_letters b states is =
      All-map (HasLetter t tape) (λ p. option_map (symbol_by (symbol_count_at b tape)) (cell_state_at b states tape p))
      (range_with_len 0 (cells_in b.limits tape))
      (λ k d low. state_letter (symbol_count_at b tape) is (cell_state_at b states tape _)
      (λ q here. column_within states (cell_element b tape _) (2 * symbol_count_at b tape)
      (cell_line_count (symbol_count_at b tape)) q here))

-- ---- places

pub line_within : (net : Parts Rotary) (c : Config) → IsConfig (rotary_circuit net) c → (p : Place) → p ≡ c.place
    → (line_of_place p).line < 4
line_within net c good (Enter e l) is =
    (input_below net.elements (record { element = e; line = l })
    (subst (IsPlace (rotary_circuit net)) (sym is) good.place)).line
line_within net c good (Left e l) is =
    (let place : IsPlace (rotary_circuit net) (Left e l) = subst (IsPlace (rotary_circuit net)) (sym is) good.place in
    (output_below net.elements (record { element = e; line = l }) place.0).line)

-- Codes in which ghost values represent an assembly: its modules, wires, configuration and window, part by part. They
-- state nothing about it.
use Rattle.std.specs.Prelude.{◌≡◌, ◌⊎◌, ℕ, List, refl}
use Rattle.std.specs.Coded.{Coded, coded_ℕ, coded_list, coded×, coded⊎, code_by}
use Rattle.std.proofs.Common.{inl, inr}
use Rattle.bn_circuits.specs.declared.line.Wire.{Wire}
use Rattle.bn_circuits.specs.declared.place.Place.{Place}
use Rattle.bn_circuits.specs.declared.place.Place.TheVariants.{Enter, Left}
use Rattle.bn_circuits.specs.declared.config.Config.{Config}
use Rattle.bn_circuits.specs.Parts.{Parts}
use Rattle.bn_machine.specs.Outcome.{Limits}
use Rattle.bn_cell.specs.declared.table.CellTable.{CellTable}
use Rattle.bn_cell.specs.contracts.table.CellTable as cell
use Rattle.bn_control.specs.Controlled.{Controlled, controlled_code}
use Rattle.bn_network_assembly.specs.declared.module.Module.{Module}
use Rattle.bn_network_assembly.specs.declared.module.Module.TheVariants.{Control, Cell}

abbrev pub module_parts : Module → Controlled ⊎ CellTable
module_parts (Control v) = inl v
module_parts (Cell c) = inr c

abbrev pub module_from : Controlled ⊎ CellTable → Module
module_from (inl v) = Control v
module_from (inr c) = Cell c

pub module_whole : (x : Module) → module_from (module_parts x) ≡ x
module_whole (Control v) = refl
module_whole (Cell c) = refl

abbrev pub module_code : Coded Module
module_code = code_by (Controlled ⊎ CellTable)
    (coded⊎ controlled_code cell.the_row.coded) module_parts module_from module_whole

abbrev pub place_parts : Place → (ℕ × ℕ) ⊎ (ℕ × ℕ)
place_parts (Enter e i) = inl (e, i)
place_parts (Left e o) = inr (e, o)

abbrev pub place_from : (ℕ × ℕ) ⊎ (ℕ × ℕ) → Place
place_from (inl p) = Enter p.0 p.1
place_from (inr p) = Left p.0 p.1

pub place_whole : (p : Place) → place_from (place_parts p) ≡ p
place_whole (Enter e i) = refl
place_whole (Left e o) = refl

abbrev pub numbers_code : Coded (ℕ × ℕ)
numbers_code = coded× coded_ℕ coded_ℕ

abbrev pub place_code : Coded Place
place_code = code_by ((ℕ × ℕ) ⊎ (ℕ × ℕ)) (coded⊎ numbers_code numbers_code) place_parts place_from place_whole

abbrev pub wire_code : Coded Wire
wire_code =
    code_by ((ℕ × ℕ) × (ℕ × ℕ)) (coded× numbers_code numbers_code)
    (λ w. ((w.from.element, w.from.line), (w.to.element, w.to.line)))
    (λ p. record { from = record { element = p.0.0; line = p.0.1 }; to = record { element = p.1.0; line = p.1.1 } })
    (λ _. refl)

abbrev pub config_code : Coded Config
config_code =
    code_by (List ℕ × (Place × ℕ)) (coded× (coded_list coded_ℕ) (coded× place_code coded_ℕ))
    (λ c. (c.states, (c.place, c.steps))) (λ p. record { states = p.0; place = p.1.0; steps = p.1.1 }) (λ _. refl)

abbrev pub limits_code : Coded Limits
limits_code =
    code_by ((ℕ × ℕ) × (ℕ × ℕ)) (coded× numbers_code numbers_code)
    (λ l. ((l.left, l.right), (l.steps, l.output)))
    (λ p. record { left = p.0.0; right = p.0.1; steps = p.1.0; output = p.1.1 }) (λ _. refl)

abbrev pub net_code : Coded (Parts Module)
net_code =
    code_by (List Module × List Wire) (coded× (coded_list module_code) (coded_list wire_code))
    (λ n. (n.elements, n.wires)) (λ p. record { elements = p.0; wires = p.1 }) (λ _. refl)

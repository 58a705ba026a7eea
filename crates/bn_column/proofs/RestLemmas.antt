-- The bars of a column at rest.
use Rattle.std.proofs.Common.{◌≡◌, ℕ, zero, suc, ◌+◌, ◌-◌, ◌<◌, ◌≤◌, Bool, true, false, List, [], ◌∷◌, ◌++◌, length}
use Rattle.std.proofs.Common.{replicate, Some, slice_get, refl, sym, ap, subst, ◌∙◌, arith}
use Rattle.bn_circuits.specs.Circuits.{IsConfig}
use Rattle.bn_circuits.specs.declared.place.Place.TheVariants.{Enter}
use Rattle.bn_element.specs.Rotary.{vertical}
use Rattle.bn_element.specs.declared.rotary.Rotary.{Rotary}
use Rattle.bn_circuits.specs.Parts.{Parts}
use Rattle.bn_column.specs.Columns.{bar}
use Rattle.bn_circuits.specs.RotaryNets.{rotary_circuit}
use Rattle.bn_column.specs.Nets.{IsColumnNet}
use Rattle.bn_circuits.proofs.RotaryNetLemmas.{bars-IsConfig, rotary-table_at}

abbrev resting : ℕ → Bool → List ℕ
resting k marked = replicate k vertical ++ bar marked ∷ []

bar-below : (marked : Bool) → bar marked < 2
bar-below true = omega arith
bar-below false = omega arith

resting-length : (k : ℕ) (marked : Bool) → length (resting k marked) ≡ k + 1
resting-length zero marked = refl
resting-length (suc k) marked = (let rest = resting-length k marked in omega arith)

resting-bars : (k : ℕ) (marked : Bool) (e q : ℕ) → slice_get (resting k marked) e ≡ Some q → q < 2
resting-bars zero marked zero q has = (let same : bar marked ≡ q = cc in subst (λ x. x < 2) same (bar-below marked))
resting-bars zero marked (suc e) q has = absurd (cc)
resting-bars (suc k) marked zero q has = (let same : vertical ≡ q = cc in omega arith)
resting-bars (suc k) marked (suc e) q has = resting-bars k marked e q has

-- the start is a configuration of the column
pub start-IsConfig : (net : Parts Rotary) (k row side : ℕ) (marked : Bool) (s : List ℕ) → IsColumnNet net k
    → s ≡ resting k marked → 1 ≤ row → row ≤ k → side < 4 → IsConfig (rotary_circuit net)
    (record { states = s; place = Enter (row - 1) side; steps = 0 })
start-IsConfig net k row side marked s column is first last at_side =
    let count : length net.elements ≡ k + 1 = column.elements in
    let within : row - 1 < length net.elements = omega arith in
    let table = rotary-table_at net.elements (row - 1) within in
    bars-IsConfig net (record { states = s; place = Enter (row - 1) side; steps = 0 })
    (ap length is ∙ resting-length k marked ∙ sym count) (λ e q has. resting-bars k marked e q
    (subst (λ x. slice_get x e ≡ Some q) is has)) (rw table at_side) (omega arith)

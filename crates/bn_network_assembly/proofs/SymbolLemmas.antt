-- A tape's number of symbols, read off its first cell.
use Rattle.std.specs.Prelude.{◌≡◌, ℕ, ◌+◌, ◌<◌, ◌≤◌, List, All, length, Some, slice_get}
use Rattle.std.proofs.lemmas.Option.{slice_get_within, get_or_from_slice_get}
use Rattle.bn_lists.specs.Lists.{nth}
use Rattle.bn_cell.specs.Sizes.{IsCellSize}
use Rattle.bn_control.specs.Controlled.{Controlled, IsWithinLimits}
use Rattle.std.proofs.Common.{zero, suc, arith, sym, ap, subst, ◌∙◌}
use Rattle.bn_quad.specs.Quadruples.{Configuration, Quadruples}
use Rattle.bn_network.specs.Controls.{ControlState, symbol_count}
use Rattle.bn_network.specs.Networks.{IsTape, first_cell}
use Rattle.bn_cell.specs.declared.table.CellTable.{CellTable}
use Rattle.bn_network_laws.proofs.CarriedLemmas.{some_cells}
use Rattle.bn_network_assembly.specs.Assembled.{Assembled, IsAssembledFrom}
use Rattle.bn_network_assembly.specs.declared.module.Module.TheVariants.{Control, Cell}

-- the first cell of a tape has the tape's symbols
pub first_symbols : (a : Assembled) (t e : ℕ) (c : CellTable) → IsTape t → e ≡ first_cell a.limits t
    → slice_get a.net.elements e ≡ Some (Cell c)
    → (m : Quadruples) (start : Configuration ℕ) (names : List ControlState)
    → IsAssembledFrom m a.limits start names a → c.symbols ≡ symbol_count m t
first_symbols a t e c tape first there m start names is =
    let cell = is.cells t 0 tape (some_cells a.limits t tape) in
    let place : e ≡ first_cell a.limits t + 0 = omega arith in
    let both : Some (Cell c) ≡ Some (Cell cell.0) = sym there ∙ ap (slice_get a.net.elements) place ∙ cell.1 in
    let same : c ≡ cell.0 = cc in
    ap (λ (x : CellTable). x.symbols) same ∙ cell.2

module _ (a : Assembled) (t e : ℕ) where
  -- the first cell's element is there
  pub first_within : IsTape t → e ≡ first_cell a.limits t → (m : Quadruples) (start : Configuration ℕ)
      (names : List ControlState) → IsAssembledFrom m a.limits start names a → e < length a.net.elements
  first_within tape first m start names is =
      let cell = is.cells t 0 tape (some_cells a.limits t tape) in
      let place : e ≡ first_cell a.limits t + 0 = omega arith in
      slice_get_within a.net.elements e (Cell cell.0) (ap (slice_get a.net.elements) place ∙ cell.1)

  -- and it is no control
  pub no_control : (v : Controlled) → IsTape t → e ≡ first_cell a.limits t
      → slice_get a.net.elements e ≡ Some (Control v)
      → (m : Quadruples) (start : Configuration ℕ) (names : List ControlState)
      → IsAssembledFrom m a.limits start names a → ⊥
  no_control v tape first there m start names is =
      let cell = is.cells t 0 tape (some_cells a.limits t tape) in
      let place : e ≡ first_cell a.limits t + 0 = omega arith in
      let both : Some (Control v) ≡ Some (Cell cell.0) = sym there ∙ ap (slice_get a.net.elements) place ∙ cell.1 in
      cc

-- ---- a machine's numbers of symbols

at_place : (P : ℕ → Type 0) (zs : List ℕ) (i z : ℕ) → All P zs → slice_get zs i ≡ Some z → P z
at_place P zs i z all at = subst P (get_or_from_slice_get zs i z 0 at) (all i 0 (slice_get_within zs i z at))

pub letters_nth : (m : Quadruples) (t z : ℕ) → 1 ≤ t → nth m.symbols t ≡ Some z → z ≡ symbol_count m t
letters_nth m zero z low at = absurd (omega arith)
letters_nth m (suc t) z low at = sym (get_or_from_slice_get m.symbols t z 0 at)

pub letters_size : (m : Quadruples) (t z : ℕ) → IsWithinLimits m → nth m.symbols t ≡ Some z → IsCellSize z
letters_size m zero z within at = absurd (cc)
letters_size m (suc t) z within at = record {
  some = at_place (λ x. 1 ≤ x) m.symbols t z within.some_symbols at;
  few = at_place (λ x. x ≤ 4001) m.symbols t z within.few_symbols at;
}

-- each tape has a symbol
pub some_letters : (m : Quadruples) → length m.symbols ≡ 3 → IsWithinLimits m → (t : ℕ) → IsTape t
    → 1 ≤ symbol_count m t
some_letters m three within zero tape = absurd (let low = tape.low in omega arith)
some_letters m three within (suc t) tape = let high = tape.high in let low : t < length m.symbols =
    omega arith in within.some_symbols t 0 low

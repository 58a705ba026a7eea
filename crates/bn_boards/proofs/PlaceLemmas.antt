-- Where the control and the cells of a board lie, by its layout.
use Rattle.std.specs.Prelude.{◌≡◌, ℕ, ◌+◌, ◌-◌, ◌*◌, ◌<◌, ◌≤◌}
use Rattle.std.proofs.Common.{zero, suc, arith, sym, subst, inl, inr}
use Rattle.std.proofs.lemmas.Bool.{cases_lt}
use Rattle.std.proofs.lemmas.Nat.{same_from_place}
use Rattle.std.proofs.Math.Nat.{mul-le-mul_right}
use Rattle.bn_network.specs.Cells.{cell_line_count}
use Rattle.bn_network.specs.Networks.{cells_in, cell_size, bank_size}
use Rattle.bn_boards.specs.Layouts.{Layout, symbol_count_at, lines_at, first_element, cell_element}

-- the place of an output line within its cell
abbrev pub output_in : ℕ → ℕ → ℕ
output_in z line = (2 * z - 1) * (cell_line_count z + 1) + line

-- it is within the cell
pub output-within : (z line : ℕ) → 0 < z → line < cell_line_count z → output_in z line < cell_size z
output-within z line some low =
    let h : (2 * z - 1 + 1) * (cell_line_count z + 1) ≤ 2 * z * (cell_line_count z + 1) =
    mul-le-mul_right (cell_line_count z + 1) (omega arith) in
    omega arith

-- an earlier tape ends where a later one begins, or before
pub later_tape : (b : Layout) (t u : ℕ) → 0 < t → t < u → first_element b (suc t) ≤ first_element b u
later_tape b t zero some low = absurd (omega arith)
later_tape b t (suc zero) some low = absurd (omega arith)
later_tape b t (suc (suc u)) some low =
    elim (cases_lt t (suc u)) [
      | inl less ↦ (let h = later_tape b t (suc u) some less in omega arith)
      | inr more ↦ (let same : t ≡ suc u = omega arith in subst
          (λ x. first_element b (suc x) ≤ first_element b (suc (suc u))) (sym same) (omega arith))
    ]

-- where a place of a cell lies
pub record IsInTape (b : Layout) (t p x : ℕ) : Type 0 where
  pub low : first_element b t ≤ cell_element b t p + x
  pub high : cell_element b t p + x < first_element b (suc t)

-- each place of a cell lies in its tape
pub in_tape : (b : Layout) (t p x : ℕ) → 0 < t → p < cells_in b.limits t → x < cell_size (symbol_count_at b t)
    → IsInTape b t p x
in_tape b zero p x some cell within = absurd (omega arith)
in_tape b (suc t) p x some cell within =
    let h : (p + 1) * cell_size (symbol_count_at b (suc t)) ≤ cells_in b.limits (suc t)
    * cell_size (symbol_count_at b (suc t)) = mul-le-mul_right (cell_size (symbol_count_at b (suc t))) (omega arith)
    in
    record { low = omega arith; high = omega arith }

-- the cells begin after the control
pub cells_after : (b : Layout) (t : ℕ) → 0 < t → bank_size b.states (lines_at b) ≤ first_element b t
cells_after b zero some = absurd (omega arith)
cells_after b (suc zero) some = omega arith
cells_after b (suc (suc t)) some = let h = cells_after b (suc t) (omega arith) in omega arith

-- two places of cells are one only where tape, cell and place in it are
pub place_once : (b : Layout) (t u p q x y : ℕ) → 0 < t → 0 < u → p < cells_in b.limits t → q < cells_in b.limits u
    → x < cell_size (symbol_count_at b t)
    → y < cell_size (symbol_count_at b u) → cell_element b t p + x ≡ cell_element b u q + y
    → (t ≡ u) × (p ≡ q) × (x ≡ y)
place_once b t u p q x y first second here there low high same =
    let one = in_tape b t p x first here low in
    let two = in_tape b u q y second there high in
    elim (cases_lt t u) [
      | inl less ↦ (let h = later_tape b t u first less in absurd (omega arith))
      | inr more ↦
          (elim (cases_lt u t) [
            | inl less ↦ (let h = later_tape b u t second less in absurd (omega arith))
            | inr also ↦ (let tapes : u ≡ t = omega arith in by_tape u q y tapes high same)
          ])
    ]
  where
    by_tape : (u q y : ℕ) → u ≡ t → y < cell_size (symbol_count_at b u)
        → cell_element b t p + x ≡ cell_element b u q + y → (t ≡ u) × (p ≡ q) × (x ≡ y)
    by_tape u q y is high same =
        let high' : y < cell_size (symbol_count_at b t) = subst (λ n. y < cell_size (symbol_count_at b n)) is high in
        let same' : cell_element b t p + x ≡ cell_element b t q + y =
        subst (λ n. cell_element b t p + x ≡ cell_element b n q + y) is same in
        let rows : p * cell_size (symbol_count_at b t) + x ≡ q * cell_size (symbol_count_at b t) + y = omega arith in
        let both = same_from_place p x q y (cell_size (symbol_count_at b t)) low high' rows in
        (sym is, both.0, both.1)

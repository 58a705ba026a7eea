-- Each module is a bank of the board.
use Rattle.std.specs.Prelude.{◌≡◌, ℕ, ◌+◌, ◌<◌, ◌≤◌, List, [], ◌∷◌, replicate, Some, slice_get, refl}
use Rattle.std.proofs.Common.{zero, suc, arith, ap, ◌∙◌}
use Rattle.bn_element.specs.Tables.{Table}
use Rattle.bn_element.specs.Rotary.{rotary}
use Rattle.bn_realise.specs.Banks.{column_at}
use Rattle.bn_realise.proofs.BankCrossingLemmas.{later_column}
use Rattle.bn_boards.specs.Boards.{own, base, size, size_of}
use Rattle.bn_boards.specs.BoardLaws.{ModulesAreBanks}

-- a bank ends within the board
pub base-within : (ts : List Table) (m : ℕ) (t : Table) → slice_get ts m ≡ Some t → base ts m + size_of t ≤ size ts
base-within [] m t h = absurd (cc)
base-within (u ∷ ts) zero t h =
    let same : u ≡ t = cc in
    let sizes : size_of u ≡ size_of t = ap size_of same in
    omega arith
base-within (u ∷ ts) (suc m) t h =
    let rest = base-within ts m t h in
    omega arith

all_rotary : (n e : ℕ) → e < n → slice_get (replicate n rotary) e ≡ Some rotary
all_rotary zero e h = absurd (omega arith)
all_rotary (suc n) zero h = refl
all_rotary (suc n) (suc e) h = all_rotary n e (omega arith)

pub modules-banks : ModulesAreBanks
modules-banks n k m t modules board has =
    let b : ℕ = base n.tables m in
    record {
      rotaries = λ j x there row.
          let last = later_column b t.inputs j t.states there in
          let ends = base-within n.tables m t has in
          let within : column_at b t.inputs j + x < size n.tables = omega arith in
          ap (λ ts. slice_get ts (column_at b t.inputs j + x)) board.tables
          ∙ all_rotary (size n.tables) (column_at b t.inputs j + x) within;
      wired = λ from to wire. (board.wires from to).1 (own m t has wire);
    }

-- The elements of a machine's boards: one number a window, which grows with each doubling.
use Rattle.std.specs.Prelude.{◌≡◌, ℕ, ◌+◌, ◌*◌, ◌<◌, ◌≤◌, length, refl}
use Rattle.std.proofs.Common.{arith, zero, suc, sym, subst}
use Rattle.std.proofs.Math.Nat.{mul-le-mul_right}
use Rattle.bn_machine.specs.Machine.{Program}
use Rattle.bn_machine.specs.Outcome.{Limits}
use Rattle.bn_machine.specs.declared.quint.Side.{Side}
use Rattle.bn_machine.specs.declared.quint.Side.TheVariants.{Left, Right}
use Rattle.bn_quad.specs.Quadruples.{Quadruples}
use Rattle.bn_bennett_laws.specs.Stages.{IsStandardMachine}
use Rattle.bn_network.specs.Controls.{control_lines, symbol_count}
use Rattle.bn_network.specs.Networks.{IsTape, bank_size, cell_size, elements_by}
use Rattle.bn_boards.proofs.LetterLemmas.{tape_letters}
use Rattle.bn_bennett.proofs.Machines.{some_symbols}
use Rattle.bn_network.specs.Limits.{AreSmall}
use Rattle.bn_reply_relations.specs.Windows.{CountsElements}
use Rattle.bn_reply_relations.specs.Laws.{BoardsAreCounted}
use Rattle.bn_network_assembly.specs.Widening.{IsEnd, IsWhole, cells, number_at, widened}
use Rattle.bn_headline.specs.Searches.{HasBoard}
use Rattle.bn_headline.specs.WindowLaws.{ElementsGrow, NumbersStayLow}
use Rattle.bn_headline.proofs.EndLemmas.{by_end, sums_grow, sums_some}

-- a cell with a symbol at least has 22 elements at least
cell_some : (z : ℕ) → 0 < z → 22 ≤ cell_size z
cell_some z some =
    let by : 22 ≤ (2 * z) * (2 * z + 8 + 1) = least z some in
    by
  where
    least : (z : ℕ) → 0 < z → 22 ≤ (2 * z) * (2 * z + 8 + 1)
    least zero some = absurd (omega arith)
    least (suc z) some =
        let first : 2 * (2 * suc z + 8 + 1) ≤ (2 * suc z) * (2 * suc z + 8 + 1) =
        mul-le-mul_right {m = 2} {n = 2 * suc z} (2 * suc z + 8 + 1) (omega arith) in
        omega arith

module _ (p : Program) (standard : IsStandardMachine p) (w : Limits) (count : ℕ) (counts : CountsElements p w count)
  where
    abbrev machine : Quadruples
    machine = counts.translation.machine

    tape_some : (t : ℕ) → IsTape t → 22 ≤ cell_size (symbol_count machine t)
    tape_some t tape =
        let some : 0 < symbol_count (record {
          rules = machine.rules;
          states = machine.states;
          symbols = machine.symbols;
        })
        t =
        subst (λ zs. 0 < symbol_count (record { rules = machine.rules; states = machine.states; symbols = zs }) t)
        (sym counts.translates.symbols)
        (tape_letters p machine (some_symbols p standard.machine) t tape) in
        cell_some (symbol_count machine t) some

    -- the number of elements in any window
    abbrev pub size_in : Limits → ℕ
    size_in v = elements_by machine v (length counts.names)

    pub size_counts : (v : Limits) → CountsElements p v (size_in v)
    size_counts v = record {
      translation = counts.translation;
      names = counts.names;
      translates = counts.translates;
      numbering = counts.numbering;
      is = refl;
    }

    pub size_grows : (v : Limits) (t : ℕ) (side : Side) → IsWhole v → IsEnd t side
        → size_in v + 22 ≤ size_in (widened v t side)
    size_grows v t side whole end =
        sums_grow (bank_size (length counts.names) (control_lines machine)) (cell_size (symbol_count machine 1))
        (cell_size (symbol_count machine 2)) (cell_size (symbol_count machine 3))
        (tape_some 1 (record { low = omega arith; high = omega arith }))
        (tape_some 2 (record { low = omega arith; high = omega arith }))
        (tape_some 3 (record { low = omega arith; high = omega arith })) v t side whole end

    pub size_some : (v : Limits) → 22 * cells v ≤ size_in v
    size_some v =
        sums_some (bank_size (length counts.names) (control_lines machine)) (cell_size (symbol_count machine 1))
        (cell_size (symbol_count machine 2)) (cell_size (symbol_count machine 3))
        (tape_some 1 (record { low = omega arith; high = omega arith }))
        (tape_some 2 (record { low = omega arith; high = omega arith }))
        (tape_some 3 (record { low = omega arith; high = omega arith })) v

    pub count_some : 22 * cells w ≤ count
    count_some = subst (λ n. 22 * cells w ≤ n) (sym counts.is) (size_some w)

pub elements-grow : BoardsAreCounted → ElementsGrow
elements-grow counted = (
  λ p w count standard counts. count_some p standard w count counts,
  λ p w t side count more standard whole end counts also.
      let by = size_grows p standard w count counts w t side whole end in
      let here : count ≡ size_in p standard w count counts w = counts.is in
      let there : more ≡ size_in p standard w count counts (widened w t side) =
      counted.0 p (widened w t side) more (size_in p standard w count counts (widened w t side)) also
      (size_counts p standard w count counts (widened w t side)) in
      omega (arith, by, here, there),
)

number_low : (w : Limits) (tape : ℕ) (side : Side) → number_at w tape side ≤ cells w
number_low w zero side = omega arith
number_low w (suc zero) Left = omega arith
number_low w (suc zero) Right = omega arith
number_low w (suc (suc zero)) Left = omega arith
number_low w (suc (suc zero)) Right = omega arith
number_low w (suc (suc (suc zero))) Left = omega arith
number_low w (suc (suc (suc zero))) Right = omega arith
number_low w (suc (suc (suc (suc t)))) side = omega arith

-- the cells of a board that isn't too large
pub cells_low : (p : Program) (w : Limits) → IsStandardMachine p → HasBoard p w → cells w ≤ 190650
cells_low p w standard board =
    let some = count_some p standard w board.count board.counts in
    let few : board.count ≤ 4194304 = board.few in
    omega arith

pub numbers-stay_low : NumbersStayLow
numbers-stay_low p w tape side standard board =
    let low = number_low w tape side in
    let few = cells_low p w standard board in
    omega arith

-- so a window that is widened may be asked for
pub widened_small : (p : Program) (w : Limits) (t : ℕ) (side : Side) → IsStandardMachine p → HasBoard p w → IsEnd t side
    → AreSmall (widened w t side)
widened_small p w t side standard board end =
    let few = cells_low p w standard board in
    by_end (λ t side. AreSmall (widened w t side)) (omega arith, omega arith, omega arith, omega arith)
    (omega arith, omega arith, omega arith, omega arith)
    (omega arith, omega arith, omega arith, omega arith) (omega arith, omega arith, omega arith, omega arith) t side end

-- The ends at which a bounded run comes out, and windows that grow there.
use Rattle.std.specs.Prelude.{◌≡◌, ℕ, ◌+◌, ◌*◌, ◌≤◌, List, length, ℤ}
use Rattle.std.proofs.Common.{arith, sym, subst}
use Rattle.std.proofs.Math.Nat.{mul-le-mul_right}
use Rattle.bn_machine.specs.Machine.{Program, Moment}
use Rattle.bn_machine.specs.Outcome.{Limits, Outside, Copies, copied, work_short, output_short, ComesOut, halts, sticks}
use Rattle.bn_machine.specs.Outcome.{runs_out, leaves}
use Rattle.bn_machine.specs.declared.quint.Side.{Side}
use Rattle.bn_machine.specs.declared.quint.Side.TheVariants.{Left, Right}
use Rattle.bn_network_assembly.specs.Widening.{first_window, IsEnd, of_work, of_history, of_output, widened, IsWhole}
use Rattle.bn_network_assembly.specs.Widening.{cells}
use Rattle.bn_headline.specs.WindowLaws.{CellsGrow, EndsAreFour}

same_tape : (t u : ℕ) (s r : Side) → Outside t s ≡ Outside u r → t ≡ u
same_tape t u s r e = cc

same_side : (t u : ℕ) (s r : Side) → Outside t s ≡ Outside u r → s ≡ r
same_side t u s r e = cc

copies_end : (l : Limits) (h : ℤ) (y : List ℕ) (t : ℕ) (side : Side) → Copies l h y (Outside t side) → IsEnd t side
copies_end l h y t side (copied room e) = absurd (cc)
copies_end l h y t side (work_short j short beyond e) = of_work (same_tape t 1 side Right e)
copies_end l h y t side (output_short j short inside past e) =
    of_output (same_tape t 3 side Right e) (same_side t 3 side Right e)

comes_end : (p : Program) (l : Limits) (i : ℕ) (c : Moment) (t : ℕ) (side : Side) → ComesOut p l i c (Outside t side)
    → IsEnd t side
comes_end p l i c t side (halts y final out a) = copies_end l c.tape.head y t side a
comes_end p l i c t side (sticks stuck e) = absurd (cc)
comes_end p l i c t side (runs_out d goes last e) = of_history (same_tape t 2 side Right e) (same_side t 2 side Right e)
comes_end p l i c t side (leaves d s goes early beyond e) = of_work (same_tape t 1 side s e)

pub ends-four : EndsAreFour
ends-four p word w i tape side h = comes_end p w i h.moment tape side h.ends

-- the same at each pair of a tape and a side that is an end
pub by_end : (P : ℕ → Side → Type 0) → P 1 Left → P 1 Right → P 2 Right → P 3 Right → (t : ℕ) (side : Side)
    → IsEnd t side → P t side
by_end P a b c d t Left (of_work e) = subst (λ n. P n Left) (sym e) a
by_end P a b c d t Right (of_work e) = subst (λ n. P n Right) (sym e) b
by_end P a b c d t side (of_history e f) = subst (λ n. P n side) (sym e) (subst (P 2) (sym f) c)
by_end P a b c d t side (of_output e f) = subst (λ n. P n side) (sym e) (subst (P 3) (sym f) d)

pub whole_stays : (w : Limits) (t : ℕ) (side : Side) → IsWhole w → IsEnd t side → IsWhole (widened w t side)
whole_stays w t side whole end =
    let l : 1 ≤ w.left = whole.left in
    let r : 1 ≤ w.right = whole.right in
    let n : 1 ≤ w.steps = whole.steps in
    let o : 1 ≤ w.output = whole.output in
    by_end (λ t side. IsWhole (widened w t side))
    (record { left = omega arith; right = r; steps = n; output = o })
    (record { left = l; right = omega arith; steps = n; output = o })
    (record { left = l; right = r; steps = omega arith; output = o })
    (record { left = l; right = r; steps = n; output = omega arith }) t side end

-- the right side doesn't shrink
pub right_stays : (w : Limits) (t : ℕ) (side : Side) → IsEnd t side → w.right ≤ (widened w t side).right
right_stays w t side end = by_end (λ t side. w.right ≤ (widened w t side).right) (omega arith) (omega arith)
    (omega arith) (omega arith) t side end

pub cells-grow : CellsGrow
cells-grow w t side whole end =
    let l : 1 ≤ w.left = whole.left in
    let r : 1 ≤ w.right = whole.right in
    let n : 1 ≤ w.steps = whole.steps in
    let o : 1 ≤ w.output = whole.output in
    by_end (λ t side. cells w + 1 ≤ cells (widened w t side)) (omega arith) (omega arith) (omega arith) (omega arith) t
    side end

pub first_whole : (word : List ℕ) → IsWhole (first_window word)
first_whole word = record { left = omega arith; right = omega arith; steps = omega arith; output = omega arith }

pub first_fits : (word : List ℕ) → length word ≤ (first_window word).right
first_fits word = omega arith

-- ---- sums over cells

-- a count that has a part for the control, and for each tape as many as this for each of its cells
abbrev pub sum_of_cells : ℕ → ℕ → ℕ → ℕ → Limits → ℕ
sum_of_cells control work history output w = control + (w.left + w.right + 1) * work + (w.steps + 1) * history
    + (w.output + 1) * output

-- a factor that grows, times a number
product_grows : (m n a : ℕ) → m + 1 ≤ n → 22 ≤ a → m * a + 22 ≤ n * a
product_grows m n a more some =
    let by : (m + 1) * a ≤ n * a = mul-le-mul_right {m = m + 1} {n = n} a more in
    let sum : (m + 1) * a ≡ m * a + a = grind arith in
    omega arith

-- where each cell has 22 at least, each doubling adds as many
pub sums_grow : (control work history output : ℕ) → 22 ≤ work → 22 ≤ history → 22 ≤ output
    → (w : Limits) (t : ℕ) (side : Side) → IsWhole w → IsEnd t side →
    sum_of_cells control work history output w + 22 ≤ sum_of_cells control work history output (widened w t side)
sums_grow control work history output a b c w t side whole end =
    let l : 1 ≤ w.left = whole.left in
    let r : 1 ≤ w.right = whole.right in
    let n : 1 ≤ w.steps = whole.steps in
    let o : 1 ≤ w.output = whole.output in
    let more_left = product_grows (w.left + w.right + 1) (w.left + w.left + w.right + 1) work (omega arith) a in
    let more_right = product_grows (w.left + w.right + 1) (w.left + (w.right + w.right) + 1) work (omega arith) a in
    let more_steps = product_grows (w.steps + 1) (w.steps + w.steps + 1) history (omega arith) b in
    let more_output = product_grows (w.output + 1) (w.output + w.output + 1) output (omega arith) c in
    let size = sum_of_cells control work history output in
    by_end (λ t side. size w + 22 ≤ size (widened w t side)) (omega arith) (omega arith) (omega arith) (omega arith) t
    side end

product_some : (m a : ℕ) → 22 ≤ a → 22 * m ≤ m * a
product_some m a some =
    let by : 22 * m ≤ a * m = mul-le-mul_right {m = 22} {n = a} m some in
    let turn : a * m ≡ m * a = grind arith in
    omega arith

-- and there are as many for each cell
pub sums_some : (control work history output : ℕ) → 22 ≤ work → 22 ≤ history → 22 ≤ output → (w : Limits)
    → 22 * cells w ≤ sum_of_cells control work history output w
sums_some control work history output a b c w =
    let one = product_some (w.left + w.right + 1) work a in
    let two = product_some (w.steps + 1) history b in
    let three = product_some (w.output + 1) output c in
    omega arith

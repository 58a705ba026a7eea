-- What the control awaits where the board was left at a read, and which tape has answered.
use Rattle.std.specs.Prelude.{◌≡◌, ℕ, ◌+◌, ◌-◌, ◌*◌, ◌/◌, ◌%◌, ◌<◌, List, [], ◌∷◌, length, Some, slice_get, refl}
use Rattle.std.proofs.Common.{zero, suc, arith, sym, ap, subst, ◌∙◌}
use Rattle.bn_machine.specs.Outcome.{Limits}
use Rattle.bn_machine.specs.Tape.{scanned}
use Rattle.bn_quad.specs.Quadruples.{Configuration, Quadruples}
use Rattle.bn_network_laws.specs.Stops.{symbols_before}
use Rattle.bn_network.specs.Controls.{ControlState, IsNumbering, Reads, lines_before, symbol_count}
use Rattle.bn_network.specs.Networks.{IsTape}
use Rattle.bn_network.specs.Starts.{FitsWindow}
use Rattle.bn_network.proofs.OccurringLemmas.{order_one}
use Rattle.bn_network_laws.specs.Ends.{tape_of}
use Rattle.bn_boards.specs.declared.spelled.Spelled.{Spelled}
use Rattle.bn_boards.specs.Builds.{Build, IsBuild}
use Rattle.bn_control.specs.Names.{listed}
use Rattle.bn_control.specs.declared.name.Symbols.{Symbols}
use Rattle.bn_reply_builds.specs.declared.awaited.Answer.{Answer}
use Rattle.bn_reply_builds.specs.declared.awaited.Read.{Read}
use Rattle.bn_reply_builds.specs.Stopping.{IsAnswered, IsLeftAtRead}
use Rattle.bn_reply_builds.proofs.LineLemmas.{column_row}

-- a symbol that a head scans is one of its tape's
pub scanned_low : (m : Quadruples) (l : Limits) (d : Configuration ℕ) → FitsWindow m l d → (t : ℕ) → IsTape t
    → scanned (tape_of d t) < symbol_count m t
scanned_low m l d fits zero is = absurd (let h = is.low in omega arith)
scanned_low m l d fits (suc zero) is = fits.one.symbols d.one.head
scanned_low m l d fits (suc (suc zero)) is = fits.two.symbols d.two.head
scanned_low m l d fits (suc (suc (suc zero))) is = fits.three.symbols d.three.head
scanned_low m l d fits (suc (suc (suc (suc t)))) is = absurd (let h = is.high in omega arith)

-- an answer's line is one of the control's
answer_low : (m : Quadruples) (zs : List ℕ) → m.symbols ≡ zs → length zs ≡ 3 → (t : ℕ) → IsTape t → (z : ℕ)
    → z < symbol_count m t
    → lines_before zs (t - 1) + z < lines_before zs 3 + 1
answer_low m [] same three t is z low = absurd (omega arith)
answer_low m (x ∷ []) same three t is z low = absurd (omega arith)
answer_low m (x ∷ y ∷ []) same three t is z low = absurd (omega arith)
answer_low m (x ∷ y ∷ w ∷ v ∷ zs) same three t is z low = absurd (omega arith)
answer_low m (x ∷ y ∷ w ∷ []) same three zero is z low = absurd (let h = is.low in omega arith)
answer_low m (x ∷ y ∷ w ∷ []) same three (suc zero) is z low = let h : z < x = few in omega (arith, h)
  where
    few : z < x
    few = subst (λ (zs : List ℕ). z < symbol_count (record { rules = m.rules; states = m.states; symbols = zs }) 1)
        same low
answer_low m (x ∷ y ∷ w ∷ []) same three (suc (suc zero)) is z low = let h : z < y = few in omega (arith, h)
  where
    few : z < y
    few = subst (λ (zs : List ℕ). z < symbol_count (record { rules = m.rules; states = m.states; symbols = zs }) 2)
        same low
answer_low m (x ∷ y ∷ w ∷ []) same three (suc (suc (suc zero))) is z low = let h : z < w = few in omega (arith, h)
  where
    few : z < w
    few = subst (λ (zs : List ℕ). z < symbol_count (record { rules = m.rules; states = m.states; symbols = zs }) 3)
        same low
answer_low m (x ∷ y ∷ w ∷ []) same three (suc (suc (suc (suc t)))) is z low = absurd (let h = is.high in omega arith)

module _ (m : Quadruples) (f : Build) (is : IsBuild f) (same : f.machine ≡ m) (element : ℕ) (shown : Spelled)
    (d : Configuration ℕ)
    (left : IsLeftAtRead f element shown d) where
  abbrev symbol : ℕ
  symbol = scanned (tape_of d left.tape)

  -- the state of the control by its number
  pub awaits : (names : List ControlState) → IsNumbering m names → slice_get names left.column ≡ Some
      (Reads d.state (symbols_before left.rule left.tape))
  awaits names numbering =
      ap (λ ns. slice_get ns left.column)
      (order_one f.machine names f.names (subst (λ x. IsNumbering x names) (sym same) numbering)
      is.is_network.numbering)
      ∙ left.named

  pub symbol_low : symbol < symbol_count m left.tape
  symbol_low = subst (λ x. symbol < symbol_count x left.tape) same
      (scanned_low f.machine f.limits d left.fits left.tape left.is_tape)

  lines_are : f.layout.symbols ≡ m.symbols
  lines_are = is.is_layout.symbols ∙ ap (λ (x : Quadruples). x.symbols) same

  -- column and row
  pub by_rows : (rows : ℕ) → rows ≡ lines_before m.symbols 3 + 1
      → (element / rows ≡ left.column) × (element % rows ≡ lines_before m.symbols (left.tape - 1) + symbol)
  by_rows rows count =
      let three : length m.symbols ≡ 3 =
      subst (λ (x : Quadruples). length x.symbols ≡ 3) same is.is_network.machine.tapes in
      let low = answer_low m m.symbols refl three left.tape left.is_tape symbol symbol_low in
      let line : element ≡ 0 + left.column * (lines_before m.symbols 3 + 1) +
      (lines_before m.symbols (left.tape - 1) + symbol) =
      subst (λ zs. element ≡ 0 + left.column * (lines_before zs 3 + 1) + (lines_before zs (left.tape - 1) + symbol))
      lines_are left.line in
      subst (λ k. (element / k ≡ left.column) × (element % k ≡ lines_before m.symbols (left.tape - 1) + symbol))
      (sym count)
      (column_row element (lines_before m.symbols 3) left.column (lines_before m.symbols (left.tape - 1) + symbol)
      line low)

  -- so the read and the answer are these
  pub answered : (read : Read) (answer : Answer) (before : Symbols) → listed before ≡ symbols_before left.rule left.tape
      → read ≡ record { state = d.state; before = before } → answer ≡ record { tape = left.tape; symbol = symbol }
      → IsAnswered m f.limits read answer shown d
  answered read answer before lists read_is answer_is =
      subst (λ x. IsAnswered x f.limits read answer shown d) same
      (subst (λ a. IsAnswered f.machine f.limits read a shown d) (sym answer_is)
      (subst (λ r. IsAnswered f.machine f.limits r (record { tape = left.tape; symbol = symbol }) shown d) (sym read_is)
      (record {
        tape = left.is_tape;
        state = refl;
        symbol = refl;
        rule = left.rule;
        before = lists;
        begun = left.begun;
        spells = left.spells;
        fits = left.fits;
      })))

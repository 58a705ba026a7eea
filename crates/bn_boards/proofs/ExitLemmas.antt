-- A place has at most one named exit: columns, banks and lines are apart.
use Rattle.std.specs.Prelude.{◌≡◌, ℕ, ◌+◌, ◌-◌, ◌*◌, ◌<◌, ◌≤◌, List, [], ◌∷◌, Option, Some, slice_get, slice_index}
use Rattle.std.specs.Prelude.{refl}
use Rattle.std.proofs.Common.{zero, suc, arith, sym, ap, subst, ◌∙◌}
use Rattle.std.proofs.lemmas.Option.{same_Some, some_pair_parts}
use Rattle.std.proofs.Math.Nat.{mul-le-mul_right}
use Rattle.bn_circuits.specs.declared.place.Place.{Place}
use Rattle.bn_circuits.specs.declared.place.Place.TheVariants.{Enter, Left}
use Rattle.bn_element.specs.Rotary.{east, west}
use Rattle.bn_machine.specs.declared.quint.Side.TheVariants as side
use Rattle.bn_realise.specs.Banks.{column_at}
use Rattle.bn_realise.proofs.BankWiresLemmas.{column_once}
use Rattle.bn_boards.specs.declared.exit.Exit.{Exit}
use Rattle.bn_boards.specs.declared.exit.Exit.TheVariants as exit
use Rattle.bn_network.specs.declared.cell_line.CellLine.TheVariants.{TakeRight, TakeLeft}
use Rattle.bn_network.specs.Cells.{line_number, cell_line_count}
use Rattle.bn_network.specs.Controls.{lines_before}
use Rattle.bn_network.specs.Networks.{cells_in}
use Rattle.bn_boards.specs.Layouts.{Layout, symbol_count_at, lines_at, cell_element, cell_output, end_place}
use Rattle.bn_boards.specs.Layouts.{IsNamedExit, inside, ends, stuck, right, left}
use Rattle.bn_boards.specs.LayoutLaws.{ExitsAreOne}
use Rattle.bn_boards.proofs.PlaceLemmas.{output_in, output-within, cells_after, place_once}
use Rattle.bn_boards.proofs.LetterLemmas.{letters_by, some_letters, symbols_are}

-- numbers of a place
pub elements : (e f l m : ℕ) → Left e l ≡ Left f m → (e ≡ f) × (l ≡ m)
elements e f l m h = (cc, cc)

-- the signal that has left by a west side has left by none of these lines
not_east : (p : Place) (e f : ℕ) → p ≡ Left e west → p ≡ Left f east → ⊥
not_east p e f a b = let h = (elements e f west east (sym a ∙ b)).1 in absurd (omega arith)

-- each tape has a cell
some_cells : (b : Layout) (t : ℕ) → 0 < t → t ≤ 3 → 0 < cells_in b.limits t
some_cells b zero low high = absurd (omega arith)
some_cells b (suc zero) low high = omega arith
some_cells b (suc (suc zero)) low high = omega arith
some_cells b (suc (suc (suc zero))) low high = omega arith
some_cells b (suc (suc (suc (suc t)))) low high = absurd (omega arith)

module _ (b : Layout) (some : (t : ℕ) → 0 < t → t ≤ 3 → 0 < symbol_count_at b t) where
  -- a cell's output is none of the control's
  beyond : (t p l : ℕ) → 0 < t → t ≤ 3 → p < cells_in b.limits t → l < cell_line_count (symbol_count_at b t) → 0 < l
      → column_at 0 (lines_at b) (b.states - 1) ≡ column_at (cell_element b t p)
      (cell_line_count (symbol_count_at b t)) (2 * symbol_count_at b t - 1) + l → ⊥
  beyond t p l first last here low over same =
      let after = cells_after b t first in
      let control : (b.states - 1) * (lines_at b + 1) ≤ b.states * (lines_at b + 1) =
      mul-le-mul_right (lines_at b + 1) (omega arith) in
      absurd (omega arith)

  -- two outputs of cells are one only where tape, cell and line are
  output_once : (t u p q k l : ℕ) → 0 < t → t ≤ 3 → 0 < u → u ≤ 3 → p < cells_in b.limits t → q < cells_in b.limits u
      → k < cell_line_count (symbol_count_at b t)
      → l < cell_line_count (symbol_count_at b u) → cell_output b t p k ≡ cell_output b u q l → (t ≡ u) × (p ≡ q)
      × (output_in (symbol_count_at b t) k ≡ output_in (symbol_count_at b u) l)
  output_once t u p q k l low high low' high' here there row row' same =
      let numbers = elements _ _ _ _ same in
      let place : cell_element b t p + output_in (symbol_count_at b t) k ≡ cell_element b u q + output_in
      (symbol_count_at b u) l = omega (arith, numbers.0) in
      place_once b t u p q (output_in (symbol_count_at b t) k) (output_in (symbol_count_at b u) l) low low' here there
      (output-within (symbol_count_at b t) k (some t low high) row)
      (output-within (symbol_count_at b u) l (some u low' high') row') place

  -- the line to the right is one of a cell's
  takes_right : (t : ℕ) → line_number (symbol_count_at b t) TakeRight < cell_line_count (symbol_count_at b t)
  takes_right t = omega arith

  -- and so is the line to the left
  takes_left : (t : ℕ) → line_number (symbol_count_at b t) TakeLeft < cell_line_count (symbol_count_at b t)
  takes_left t = omega arith

  -- the last cell is one
  last_cell : (t : ℕ) → 0 < t → t ≤ 3 → cells_in b.limits t - 1 < cells_in b.limits t
  last_cell t low high = let h = some_cells b t low high in omega arith

  -- the right end of one tape is no left end
  sides : (t u : ℕ) → 0 < t → t ≤ 3 → 0 < u → u ≤ 3
      → cell_output b t (cells_in b.limits t - 1) (line_number (symbol_count_at b t) TakeRight) ≡ cell_output b u 0
      (line_number (symbol_count_at b u) TakeLeft) → ⊥
  sides t u low high low' high' same =
      let one = output_once t u (cells_in b.limits t - 1) 0 (line_number (symbol_count_at b t) TakeRight)
      (line_number (symbol_count_at b u) TakeLeft) low high low' high' (last_cell t low high)
      (some_cells b u low' high') (takes_right t) (takes_left u) same in
      let at_t : output_in (symbol_count_at b t) (line_number (symbol_count_at b t) TakeRight) ≡ output_in
      (symbol_count_at b t) (line_number (symbol_count_at b t) TakeLeft) =
      subst (λ v. output_in (symbol_count_at b t) (line_number (symbol_count_at b t) TakeRight) ≡ output_in
      (symbol_count_at b v) (line_number (symbol_count_at b v) TakeLeft)) (sym one.0) one.2 in
      absurd (omega (arith, at_t))

  -- ---- what is named where the signal has left so

  at_end : (p : Place) (x : Exit) → p ≡ end_place b → IsNamedExit b p x → x ≡ exit.End
  at_end p x is (inside m k at) = absurd (let h : Enter m k ≡ end_place b = sym at ∙ is in cc)
  at_end p x is (ends at) = refl
  at_end p x is (stuck q a t c kept low at) = absurd (not_east p _ _ at is)
  at_end p x is (right t low high at) =
      absurd (beyond t (cells_in b.limits t - 1) (line_number (symbol_count_at b t) TakeRight) low high
      (last_cell t low high) (takes_right t) (omega arith) (elements _ _ _ _ (sym is ∙ at)).0)
  at_end p x is (left t low high at) =
      absurd (beyond t 0 (line_number (symbol_count_at b t) TakeLeft) low high (some_cells b t low high)
      (takes_left t) (omega arith) (elements _ _ _ _ (sym is ∙ at)).0)

  at_right : (p : Place) (x : Exit) (u : ℕ) → 0 < u → u ≤ 3
      → p ≡ cell_output b u (cells_in b.limits u - 1) (line_number (symbol_count_at b u) TakeRight)
      → IsNamedExit b p x → x ≡ exit.Window u side.Right
  at_right p x u first last is (inside m k at) = absurd (let h : Enter m k ≡ Left _ east = sym at ∙ is in cc)
  at_right p x u first last is (ends at) =
      absurd (beyond u (cells_in b.limits u - 1) (line_number (symbol_count_at b u) TakeRight) first last
      (last_cell u first last) (takes_right u) (omega arith) (elements _ _ _ _ (sym at ∙ is)).0)
  at_right p x u first last is (stuck q a t c kept low at) = absurd (not_east p _ _ at is)
  at_right p x u first last is (right t low high at) =
      ap (λ n. exit.Window n side.Right)
      (output_once t u (cells_in b.limits t - 1) (cells_in b.limits u - 1)
      (line_number (symbol_count_at b t) TakeRight) (line_number (symbol_count_at b u) TakeRight) low high first last
      (last_cell t low high) (last_cell u first last) (takes_right t) (takes_right u) (sym at ∙ is)).0
  at_right p x u first last is (left t low high at) = absurd (sides u t first last low high (sym is ∙ at))

  at_left : (p : Place) (x : Exit) (u : ℕ) → 0 < u → u ≤ 3
      → p ≡ cell_output b u 0 (line_number (symbol_count_at b u) TakeLeft) → IsNamedExit b p x
      → x ≡ exit.Window u side.Left
  at_left p x u first last is (inside m k at) = absurd (let h : Enter m k ≡ Left _ east = sym at ∙ is in cc)
  at_left p x u first last is (ends at) =
      absurd (beyond u 0 (line_number (symbol_count_at b u) TakeLeft) first last (some_cells b u first last)
      (takes_left u) (omega arith) (elements _ _ _ _ (sym at ∙ is)).0)
  at_left p x u first last is (stuck q a t c kept low at) = absurd (not_east p _ _ at is)
  at_left p x u first last is (right t low high at) = absurd (sides t u low high first last (sym at ∙ is))
  at_left p x u first last is (left t low high at) =
      ap (λ n. exit.Window n side.Left)
      (output_once t u 0 0 (line_number (symbol_count_at b t) TakeLeft) (line_number (symbol_count_at b u) TakeLeft)
      low high first last (some_cells b t low high) (some_cells b u first last) (takes_left t) (takes_left u)
      (sym at ∙ is)).0

  -- the exits at the end line and at the ends of windows
  abbrev pub IsApart : Exit → Type 0
  IsApart exit.End = Unit {0}
  IsApart (exit.Window t s) = Unit {0}
  IsApart _ = ⊥

  -- where there is one of these, there is no other
  pub named_once : (p : Place) (x y : Exit) → IsApart x → IsNamedExit b p x → IsNamedExit b p y → y ≡ x
  named_once p x y apart (inside m k is) other = absurd apart
  named_once p x y apart (ends is) other = at_end p y is other
  named_once p x y apart (stuck q a t c kept low is) other = absurd apart
  named_once p x y apart (right t low high is) other = at_right p y t low high is other
  named_once p x y apart (left t low high is) other = at_left p y t low high is other

  -- and the signal hasn't left by a west side
  pub named_east : (p : Place) (x : Exit) (e : ℕ) → IsApart x → IsNamedExit b p x → p ≡ Left e west → ⊥
  named_east p x e apart (inside m k is) at = apart
  named_east p x e apart (ends is) at = not_east p _ _ at is
  named_east p x e apart (stuck q a t c kept low is) at = apart
  named_east p x e apart (right t low high is) at = not_east p _ _ at is
  named_east p x e apart (left t low high is) at = not_east p _ _ at is

-- ---- at a control's loose line

module _ (x y z : ℕ) where
  -- three numbers of symbols
  abbrev zs : List ℕ
  zs = x ∷ y ∷ z ∷ []

  -- an answer's line is one of the control's, and it tells tape and letter
  answer-within : (t c : ℕ) → c < letters_by zs t → lines_before zs (t - 1) + c < lines_before zs 3
  answer-within zero c low = absurd (omega arith)
  answer-within (suc zero) c low = omega arith
  answer-within (suc (suc zero)) c low = omega arith
  answer-within (suc (suc (suc zero))) c low = omega arith
  answer-within (suc (suc (suc (suc t)))) c low = absurd (omega arith)

module _ (b : Layout) (x y z : ℕ) (symbols : b.symbols ≡ x ∷ y ∷ z ∷ [])
    (some : (t : ℕ) → 0 < t → t ≤ 3 → 0 < symbol_count_at b t) where
  -- a letter's line is one of the control's
  answer-low : (t c : ℕ) → c < symbol_count_at b t → lines_before b.symbols (t - 1) + c < lines_at b
  answer-low t c low = subst (λ zs. lines_before zs (t - 1) + c < lines_before zs 3) (sym symbols)
      (answer-within x y z t c (by_tape t low))
    where
      by_tape : (t : ℕ) → c < symbol_count_at b t → c < letters_by (x ∷ y ∷ z ∷ []) t
      by_tape zero low = low
      by_tape (suc t) low = subst (λ zs. c < slice_index zs t) symbols low

  -- two loose lines of the control are one only where state and letter are
  stuck_once : (q r a c t u : ℕ) (s v : ℕ) → slice_get b.awaited q ≡ Some (Some (a, t))
      → slice_get b.awaited r ≡ Some (Some (c, u)) → s < symbol_count_at b t
      → v < symbol_count_at b u
      → column_at 0 (lines_at b) q + (lines_before b.symbols (t - 1) + s)
      ≡ column_at 0 (lines_at b) r + (lines_before b.symbols (u - 1) + v)
      → exit.Stuck a s ≡ exit.Stuck c v
  stuck_once q r a c t u s v first second low high same =
      let one = column_once 0 (lines_at b) q r (lines_before b.symbols (t - 1) + s) (lines_before b.symbols (u - 1) + v)
      (let h = answer-low t s low in omega arith) (let h = answer-low u v high in omega arith) same in
      let at_q : slice_get b.awaited q ≡ Some (Some (c, u)) = subst (λ n. slice_get b.awaited n ≡ Some (Some (c, u)))
      (sym one.0) second in
      let kept : ◌≡◌ {A = Option (Option (ℕ × ℕ))} (Some (Some (a, t))) (Some (Some (c, u))) = sym first ∙ at_q in
      let pairs = some_pair_parts a c t u (same_Some (Some (a, t)) (Some (c, u)) kept) in
      let states : a ≡ c = pairs.0 in
      let tapes : t ≡ u = pairs.1 in
      let lines : lines_before b.symbols (t - 1) ≡ lines_before b.symbols (u - 1) =
      ap (λ n. lines_before b.symbols (n - 1)) tapes in
      let letter : s ≡ v = omega (arith, one.1) in
      λ i. exit.Stuck (states i) (letter i)

  -- the exits of this board
  abbrev Named : Place → Exit → Type 0
  Named = IsNamedExit b

  -- two exits at one place
  once : (place : Place) (e f : Exit) → Named place e → Named place f → e ≡ f
  once place e f (inside m k is) (inside n j at) = refl
  once place e f (inside m k is) (ends at) = named_once b some place _ e tt (ends at) (inside m k is)
  once place e f (inside m k is) (stuck q a t c awaits low at) =
      absurd (let h : Enter m k ≡ Left _ west = sym is ∙ at in cc)
  once place e f (inside m k is) (right t low high at) =
      named_once b some place _ e tt (right t low high at) (inside m k is)
  once place e f (inside m k is) (left t low high at) =
      named_once b some place _ e tt (left t low high at) (inside m k is)
  once place e f (stuck q a t c awaits low is) (inside n j at) =
      absurd (let h : Enter n j ≡ Left _ west = sym at ∙ is in cc)
  once place e f (stuck q a t c awaits low is) (ends at) = absurd (not_east place _ _ is at)
  once place e f (stuck q a t c awaits low is) (stuck r d u v waits high at) =
      stuck_once q r a d t u c v awaits waits low high (elements _ _ _ _ (sym is ∙ at)).0
  once place e f (stuck q a t c awaits low is) (right u first last at) = absurd (not_east place _ _ is at)
  once place e f (stuck q a t c awaits low is) (left u first last at) = absurd (not_east place _ _ is at)
  once place e f (ends is) other = sym (named_once b some place _ f tt (ends is) other)
  once place e f (right t low high is) other = sym (named_once b some place _ f tt (right t low high is) other)
  once place e f (left t low high is) other = sym (named_once b some place _ f tt (left t low high is) other)

-- by the machine's numbers of symbols
pub exits-one : ExitsAreOne
exits-one p word l f flat accepted place e x first second = once f.layout _ _ _ (symbols_are p word l f flat)
    (some_letters p word l f flat accepted) place e x first second

-- The signal is in one module at most, and the module of a location.
use Rattle.std.specs.Prelude.{◌≡◌, ℕ, ◌+◌, ◌-◌, ◌*◌, ◌<◌, ◌≤◌, ℤ, pos, ◌-ℤ◌, Option, Some, None, refl}
use Rattle.std.proofs.Common.{zero, suc, arith, sym, ap, subst, ◌∙◌}
use Rattle.std.proofs.lemmas.Nat.{mul-le}
use Rattle.bn_circuits.specs.declared.place.Place.{Place}
use Rattle.bn_circuits.specs.declared.place.Place.TheVariants.{Enter, Left}
use Rattle.bn_network.specs.Cells.{cell_line, cell_line_count}
use Rattle.bn_network.specs.Networks.{IsTape, cells_in, left_of, cell_size}
use Rattle.bn_boards.specs.Layouts.{Layout, symbol_count_at, lines_at, first_element, cell_element}
use Rattle.bn_board.specs.Locations.{IsLocated, IsInputLine, in_control, in_cell, left}
use Rattle.bn_board.specs.declared.located.Located.{Located}
use Rattle.bn_board.specs.declared.located.Located.TheVariants.{Control, Cell, Outside}
use Rattle.bn_view.specs.Modules.{module_by, in_cell as in_cell_at}
use Rattle.bn_view.specs.declared.layers.ModuleAt.TheVariants.{CellLine as AtLine, CellInside as AtInside}
use Rattle.bn_network.specs.Controls.{symbol_count}
use Rattle.bn_network.specs.declared.cell_line.CellLine.{CellLine}
use Rattle.bn_lists.specs.Lists.{nth}
use Rattle.bn_quad.specs.Quadruples.{Quadruples}
use Rattle.std.proofs.lemmas.Option.{get_or_from_slice_get}
use Rattle.bn_view.specs.Laws.{ModulesAreOne}
use Rattle.bn_view.proofs.ShownLemmas.{neither_less}

-- ---- one location

-- products by one size rise with the other factor
rises : (a b c z : ℕ) → b ≤ c → a + b * z ≤ a + c * z
rises a b c z h = let more : b * z ≤ c * z = mul-le b z c z h (omega arith) in omega arith

module _ (b : Layout) where
  -- a cell ends where the next one would begin
  next_cell : (t c e : ℕ) → e < cell_element b t c + cell_size (symbol_count_at b t) → e < cell_element b t (suc c)
  next_cell t c e h = by (cell_size (symbol_count_at b t)) h
    where
      by : (z : ℕ) → e < first_element b t + c * z + z → e < first_element b t + suc c * z
      by z low = omega arith

  -- a tape's cells end where the next tape's begin
  after_tape : (t c : ℕ) → c < cells_in b.limits (suc t) → cell_element b (suc t) (suc c)
      ≤ first_element b (suc (suc t))
  after_tape t c h = rises (first_element b (suc t)) (suc c) (cells_in b.limits (suc t))
      (cell_size (symbol_count_at b (suc t))) (omega arith)

  begins : (t c : ℕ) → first_element b t ≤ cell_element b t c
  begins t c = omega arith

  next_tape : (t : ℕ) → first_element b (suc t) ≤ first_element b (suc (suc t))
  next_tape t = omega arith

  -- the first elements rise with the tapes
  firsts_rise : (t n : ℕ) → first_element b (suc t) ≤ first_element b (suc (t + n))
  firsts_rise t zero = let same : suc t ≡ suc (t + zero) = omega arith in subst
      (λ x. first_element b (suc t) ≤ first_element b x) same (omega arith)
  firsts_rise t (suc n) =
      let before = firsts_rise t n in
      let more = next_tape (t + n) in
      let same : suc (suc (t + n)) ≡ suc (t + suc n) = omega arith in
      subst (λ x. first_element b (suc t) ≤ first_element b x) same (omega arith)

  -- an element of a cell of a lower tape comes before those of a higher one
  lower_tape : (t u c d e : ℕ) → 0 < t → t < u → c < cells_in b.limits t → e < cell_element b t (suc c)
      → cell_element b u d ≤ e → ⊥
  lower_tape zero u c d e some less inside before behind = omega arith
  lower_tape (suc t) u c d e some less inside before behind =
      let ended = after_tape t c inside in
      let rise = firsts_rise (suc t) (u - suc (suc t)) in
      let same : suc (suc t + (u - suc (suc t))) ≡ u = omega arith in
      let reach : first_element b (suc (suc t)) ≤ first_element b u =
      subst (λ x. first_element b (suc (suc t)) ≤ first_element b x) same rise in
      let first = begins u d in
      omega arith

  -- and so in a lower cell of one tape
  lower_cell : (t c d e : ℕ) → c < d → e < cell_element b t (suc c) → cell_element b t d ≤ e → ⊥
  lower_cell t c d e less before behind =
      let rise = rises (first_element b t) (suc c) d (cell_size (symbol_count_at b t)) (omega arith) in
      omega arith

  -- the control's elements come before those of the cells
  no_cell : (t c e : ℕ) → 0 < t → e < first_element b 1 → cell_element b t c ≤ e → ⊥
  no_cell zero c e some before behind = omega arith
  no_cell (suc t) c e some before behind =
      let rise = firsts_rise 0 t in
      let same : suc (0 + t) ≡ suc t = omega arith in
      let reach : first_element b 1 ≤ first_element b (suc t) =
      subst (λ x. first_element b 1 ≤ first_element b x) same rise in
      let first = begins (suc t) c in
      omega arith

-- an input line is one
one_line : (first lines e l : ℕ) (x y : Option ℕ) → IsInputLine first lines e l x → IsInputLine first lines e l y
    → x ≡ y
one_line first lines e l None None one two = refl
one_line first lines e l None (Some j) one two = (one j).1 ((two j).0 refl)
one_line first lines e l (Some i) y one two = sym ((two i).1 ((one i).0 refl))

same_element : (e f l k : ℕ) → Enter e l ≡ Enter f k → e ≡ f
same_element e f l k h = cc

same_line : (e f l k : ℕ) → Enter e l ≡ Enter f k → l ≡ k
same_line e f l k h = cc

entered_left : (e f l k : ℕ) → Enter e l ≡ Left f k → ⊥
entered_left e f l k h = cc

-- in one cell
module _ (b : Layout) (t c e l : ℕ) (line : Option ℕ) (is : IsInputLine (cell_element b t c)
    (cell_line_count (symbol_count_at b t)) e l line) where
  in_one_cell : (u d f k : ℕ) → t ≡ u → c ≡ d → e ≡ f → l ≡ k → (other : Option ℕ)
      → IsInputLine (cell_element b u d) (cell_line_count (symbol_count_at b u)) f k other
      → Cell t (pos c -ℤ pos (left_of b.limits t)) line ≡ Cell u (pos d -ℤ pos (left_of b.limits u)) other
  in_one_cell u d f k tape cell element input other also =
      let there : IsInputLine (cell_element b u d) (cell_line_count (symbol_count_at b u)) f k line =
      subst (λ x. x) (λ i. IsInputLine (cell_element b (tape i) (cell i)) (cell_line_count (symbol_count_at b (tape i)))
      (element i) (input i) line) is in
      let lines = one_line (cell_element b u d) (cell_line_count (symbol_count_at b u)) f k line other there also in
      λ i. Cell (tape i) (pos (cell i) -ℤ pos (left_of b.limits (tape i))) (lines i)

in_one_control : (b : Layout) (e l f k : ℕ) (x y : Option ℕ) → e ≡ f → l ≡ k → IsInputLine 0 (lines_at b) e l x
    → IsInputLine 0 (lines_at b) f k y → Control x ≡ Control y
in_one_control b e l f k x y element input one two =
    let there : IsInputLine 0 (lines_at b) f k x = subst (λ z. z)
    (λ i. IsInputLine 0 (lines_at b) (element i) (input i) x) one in
    ap Control (one_line 0 (lines_at b) f k x y there two)

located-one : (b : Layout) (p : Place) (x y : Located) → IsLocated b p x → IsLocated b p y → x ≡ y
located-one b p x y (left e l at is) (left f k also other) = is ∙ sym other
located-one b p x y (left e l at is) (in_control f k also under line enters other) =
    absurd (entered_left f e k l (sym also ∙ at))
located-one b p x y (left e l at is) (in_cell f k also u d tape inside first last line enters other) =
    absurd (entered_left f e k l (sym also ∙ at))
located-one b p x y (in_control e l at below line enters is) (left f k also other) =
    absurd (entered_left e f l k (sym at ∙ also))
located-one b p x y (in_control e l at below line enters is) (in_control f k also under one opens other) =
    let both = sym at ∙ also in
    is ∙ in_one_control b e l f k line one (same_element e f l k both) (same_line e f l k both) enters opens ∙ sym other
located-one b p x y (in_control e l at below line enters is)
    (in_cell f k also u d tape inside first last one opens other) =
    let same = same_element e f l k (sym at ∙ also) in
    absurd (no_cell b u d e tape.low below (subst (λ z. cell_element b u d ≤ z) (sym same) first))
located-one b p x y (in_cell e l at t c tape inside first last line enters is) (left f k also other) =
    absurd (entered_left e f l k (sym at ∙ also))
located-one b p x y (in_cell e l at t c tape inside first last line enters is)
    (in_control f k also under one opens other) =
    let same = same_element e f l k (sym at ∙ also) in
    absurd (no_cell b t c f tape.low under (subst (λ z. cell_element b t c ≤ z) same first))
located-one b p x y (in_cell e l at t c tape inside first last line enters is)
    (in_cell f k also u d low within begin end one opens other) =
    let both = sym at ∙ also in
    let same = same_element e f l k both in
    let start : cell_element b u d ≤ e = subst (λ z. cell_element b u d ≤ z) (sym same) begin in
    let stop : e < cell_element b u (suc d) = subst (λ z. z < cell_element b u (suc d)) (sym same)
    (next_cell b u d f end) in
    let over : e < cell_element b t (suc c) = next_cell b t c e last in
    let tapes : t ≡ u = neither_less t u (λ h. lower_tape b t u c d e tape.low h inside over start)
    (λ h. lower_tape b u t d c e low.low h within stop first) in
    let here : cell_element b t d ≤ e = subst (λ z. cell_element b z d ≤ e) (sym tapes) start in
    let there : e < cell_element b t (suc d) = subst (λ z. e < cell_element b z (suc d)) (sym tapes) stop in
    let cells : c ≡ d = neither_less c d (λ h. lower_cell b t c d e h over here)
    (λ h. lower_cell b t d c e h there first) in
    is ∙ in_one_cell b t c e l line enters u d f k tapes cells same (same_line e f l k both) one opens ∙ sym other

pub modules-one : ModulesAreOne
modules-one b p x y one two = one.2 ∙ ap (module_by b) (located-one b p one.0 two.0 one.1 two.1) ∙ sym two.2

-- ---- cells

-- what is known of a tape on which the signal is located, and of the line of a cell that it enters
pub record IsCellOf (b : Layout) (t : ℕ) (line : Option ℕ) : Type 0 where
  pub tape : IsTape t
  pub low : (i : ℕ) → line ≡ Some i → i < cell_line_count (symbol_count_at b t)

pub cell_of : (b : Layout) (p : Place) (t : ℕ) (z : ℤ) (line : Option ℕ) (at : Located) → at ≡ Cell t z line
    → IsLocated b p at → IsCellOf b t line
cell_of b p t z line at there (left e l is same) = absurd (let both : Cell t z line ≡ Outside = sym there ∙ same in cc)
cell_of b p t z line at there (in_control e l is below other enters same) =
    absurd (let both : Cell t z line ≡ Control other = sym there ∙ same in cc)
cell_of b p t z line at there (in_cell e l is u q tape inside first last other enters same) =
    let both : Cell t z line ≡ Cell u (pos q -ℤ pos (left_of b.limits u)) other = sym there ∙ same in
    let tapes : u ≡ t = cc in
    let lines : line ≡ other = cc in
    record {
      tape = subst IsTape tapes tape;
      low = λ i some. subst (λ v. i < cell_line_count (symbol_count_at b v)) tapes ((enters i).0 (sym lines ∙ some)).0;
    }

-- ---- the module of a cell

letters_found : (m : Quadruples) (t z : ℕ) → nth m.symbols t ≡ Some z → z ≡ symbol_count m t
letters_found m zero z at = absurd (cc)
letters_found m (suc t) z at = sym (get_or_from_slice_get m.symbols t z 0 at)

module _ (b : Layout) (m : Quadruples) (same : (t : ℕ) → IsTape t → symbol_count_at b t ≡ symbol_count m t) (p : Place)
    (at : Located) (is : IsLocated b p at)
    (t : ℕ) (position : ℤ) (line : Option ℕ) (there : at ≡ Cell t position line) where
  -- the symbols of its tape
  pub cell_letters : (z : ℕ) → nth m.symbols t ≡ Some z → z ≡ symbol_count_at b t
  cell_letters z found = letters_found m t z found ∙ sym (same t (cell_of b p t position line at there is).tape)

  -- its line is one of a cell's
  pub line_low : (z i : ℕ) → nth m.symbols t ≡ Some z → line ≡ Some i → i < cell_line_count z
  line_low z i found entered = subst (λ x. i < cell_line_count x) (sym (cell_letters z found))
      ((cell_of b p t position line at there is).low i entered)

  pub at_line : (z i : ℕ) (x : ℤ) (entered : CellLine) → nth m.symbols t ≡ Some z → line ≡ Some i
      → entered ≡ cell_line z i → x ≡ position
      → AtLine t x entered ≡ module_by b at
  at_line z i x entered found some named place =
      (λ j. AtLine t (place j) ((named ∙ ap (λ y. cell_line y i) (cell_letters z found)) j))
      ∙ ap (in_cell_at (symbol_count_at b t) t position) (sym some) ∙ sym (ap (module_by b) there)

  pub at_inside : (x : ℤ) → line ≡ None → x ≡ position → AtInside t x ≡ module_by b at
  at_inside x none place = (λ j. AtInside t (place j)) ∙ ap (in_cell_at (symbol_count_at b t) t position) (sym none)
      ∙ sym (ap (module_by b) there)

-- The exits of a layout by the numbers of the line by which the signal left.
use Rattle.std.specs.Prelude.{◌≡◌, ◌≢◌, ◌↔◌, ℕ, ◌+◌, ◌-◌, ◌*◌, ◌/◌, ◌%◌, ◌<◌, ◌≤◌, Bool, true, false, ◌==◌, ◌&&◌, List}
use Rattle.std.specs.Prelude.{[], ◌∷◌, length, Option, Some, None, slice_get, refl}
use Rattle.std.specs.List.{slice_index_or}
use Rattle.std.proofs.Common.{zero, suc, arith, sym, ap, subst, ◌∙◌}
use Rattle.std.proofs.Math.Nat.{mul-le-mul_right}
use Rattle.std.proofs.lemmas.Option.{same_Some, some_pair_parts, slice_get_within}
use Rattle.std.proofs.lemmas.Bool.Decides.{nat_tests}
use Rattle.std.proofs.lemmas.Nat.{same_from_place, div-add-mod'}
use Rattle.bn_circuits.specs.declared.line.Line.{Line}
use Rattle.bn_circuits.specs.declared.place.Place.{Place}
use Rattle.bn_circuits.specs.declared.place.Place.TheVariants.{Left}
use Rattle.bn_element.specs.Rotary.{west}
use Rattle.bn_machine.specs.declared.quint.Side.{Side}
use Rattle.bn_machine.specs.declared.quint.Side.TheVariants as side
use Rattle.bn_realise.specs.Banks.{column_at}
use Rattle.bn_network.specs.declared.cell_line.CellLine.TheVariants.{TakeRight, TakeLeft}
use Rattle.bn_network.specs.Cells.{line_number, cell_line_count}
use Rattle.bn_network.specs.Controls.{lines_before}
use Rattle.bn_network.specs.Networks.{cells_in}
use Rattle.bn_boards.specs.declared.exit.Exit.{Exit}
use Rattle.bn_boards.specs.declared.exit.Exit.TheVariants as exit
use Rattle.bn_boards.specs.Layouts.{Layout, symbol_count_at, lines_at, cell_element, cell_output, end_place}
use Rattle.bn_boards.specs.Layouts.{IsNamedExit, inside, ends, stuck, right, left}
use Rattle.bn_boards.proofs.PlaceLemmas.{output-within}
use Rattle.bn_circuits.specs.declared.net.TheConstants.{MOST_ELEMENTS}
use Rattle.bn_board.specs.Flattened.{IsLayoutKept}
use Rattle.bn_board.proofs.LayoutLemmas.{control_within, cell_within}
use Rattle.bn_boards.proofs.ExitLemmas.{elements as left_parts}

-- another line is at another place
pub other_line : (one two : Line) (p : Place) → (one ≡ two → ⊥) → Left two.element two.line ≡ p
    → Left one.element one.line ≡ p → ⊥
other_line one two p other second first =
    let parts = left_parts _ _ _ _ (first ∙ sym second) in
    let elements = parts.0 in
    let lines = parts.1 in
    other (λ i. record { element = elements i; line = lines i })

-- one line is the other
abbrev pub is_line : Line → Line → Bool
is_line one two = one.element == two.element && one.line == two.line

same_lines : (one two : Line) (r : Bool) → r ≡ is_line one two → r ≡ true → one ≡ two
same_lines one two r is yes_is =
    let elements : one.element ≡ two.element = grind (arith, nat_tests) in
    let lines : one.line ≡ two.line = grind (arith, nat_tests) in
    λ i. record { element = elements i; line = lines i }

other_lines : (one two : Line) (r : Bool) → r ≡ is_line one two → r ≡ false → one ≡ two → ⊥
other_lines one two r is no_is same =
    let elements : one.element ≡ two.element = ap (λ x. x.element) same in
    let lines : one.line ≡ two.line = ap (λ x. x.line) same in
    grind (arith, nat_tests)

same_place : (one two : Line) → one ≡ two → Left one.element one.line ≡ Left two.element two.line
same_place one two same = ap (λ x. Left x.element x.line) same

-- an answer's line is one of the control's
answer_in : (zs : List ℕ) (t c : ℕ) → length zs ≡ 3 → c < slice_index_or zs t 0
    → lines_before zs t + c < lines_before zs 3
answer_in [] t c three low = absurd (omega arith)
answer_in (x ∷ []) t c three low = absurd (omega arith)
answer_in (x ∷ (y ∷ [])) t c three low = absurd (omega arith)
answer_in (x ∷ (y ∷ (z ∷ []))) zero c three low = omega arith
answer_in (x ∷ (y ∷ (z ∷ []))) (suc zero) c three low = omega arith
answer_in (x ∷ (y ∷ (z ∷ []))) (suc (suc zero)) c three low = omega arith
answer_in (x ∷ (y ∷ (z ∷ []))) (suc (suc (suc t))) c three low = absurd (omega arith)
answer_in (x ∷ (y ∷ (z ∷ (w ∷ zs)))) t c three low = absurd (omega arith)

-- The line is the west of an answer's row in the column of a state of the control that awaits a first read.
-- The read is of this state of the machine, and the row is this symbol's.
pub record IsStuckBy (b : Layout) (e l a c : ℕ) : Type 0 where
  pub west_is : l ≡ west
  pub tape : ℕ
  pub awaits : slice_get b.awaited (e / (lines_at b + 1)) ≡ Some (Some (a, tape))
  pub low : c < symbol_count_at b tape
  pub row : e % (lines_at b + 1) ≡ lines_before b.symbols (tape - 1) + c

module _ (b : Layout) (kept : IsLayoutKept b) where
  pub end_within : (b.states - 1) * (lines_at b + 1) ≤ MOST_ELEMENTS
  end_within =
      let h : (b.states - 1) * (lines_at b + 1) ≤ b.states * (lines_at b + 1) =
      mul-le-mul_right (lines_at b + 1) (omega arith) in
      let few = control_within b kept in
      omega arith

  pub output_few : (t p l : ℕ) → 1 ≤ t → t ≤ 3 → p < cells_in b.limits t → 1 ≤ symbol_count_at b t
      → l < cell_line_count (symbol_count_at b t)
      → cell_element b t p + (2 * symbol_count_at b t - 1) * (cell_line_count (symbol_count_at b t) + 1) + l
      ≤ MOST_ELEMENTS
  output_few t p l low high cell some line =
      let one = cell_within b kept t p low high cell in
      let two = output-within (symbol_count_at b t) l some line in
      let few = kept.few_elements in
      omega arith

  answer_low : (t c : ℕ) → c < symbol_count_at b t → lines_before b.symbols (t - 1) + c < lines_at b
  answer_low zero c low = absurd (omega arith)
  answer_low (suc t) c low =
      let h = answer_in b.symbols t c kept.tapes low in
      let e : suc t - 1 ≡ t = omega arith in
      rw e h

  stuck_by : (p : Place) (x : Exit) → IsNamedExit b p x → (e l a c : ℕ) → p ≡ Left e l → x ≡ exit.Stuck a c
      → IsStuckBy b e l a c
  stuck_by p x (inside m k is) e l a c at named = absurd (let h : exit.Inside ≡ exit.Stuck a c = named in cc)
  stuck_by p x (ends is) e l a c at named = absurd (let h : exit.End ≡ exit.Stuck a c = named in cc)
  stuck_by p x (right t low high is) e l a c at named = absurd
      (let h : exit.Window t side.Right ≡ exit.Stuck a c = named in cc)
  stuck_by p x (left t low high is) e l a c at named = absurd
      (let h : exit.Window t side.Left ≡ exit.Stuck a c = named in cc)
  stuck_by p x (stuck q d t s awaits low is) e l a c at named =
      let parts = left_parts _ _ _ _ (sym at ∙ is) in
      let states : d ≡ a = (let h : exit.Stuck d s ≡ exit.Stuck a c = named in cc) in
      let symbols : s ≡ c = (let h : exit.Stuck d s ≡ exit.Stuck a c = named in cc) in
      let within = answer_low t s low in
      let whole = div-add-mod' e (lines_at b + 1) in
      let both = same_from_place (e / (lines_at b + 1)) (e % (lines_at b + 1)) q (lines_before b.symbols (t - 1) + s)
      (lines_at b + 1) (omega arith)
      (omega arith) (omega (arith, parts.0)) in
      let awaits' : slice_get b.awaited (e / (lines_at b + 1)) ≡ Some (Some (a, t)) =
      subst (λ n. slice_get b.awaited n ≡ Some (Some (a, t))) (sym
      both.0) (subst (λ n. slice_get b.awaited q ≡ Some (Some (n, t))) states awaits) in
      record { west_is = parts.1; tape = t; awaits = awaits'; low = omega arith; row = omega (arith, both.1) }

  pub stuck_is : (e l a c : ℕ) → IsNamedExit b (Left e l) (exit.Stuck a c) ↔ IsStuckBy b e l a c
  stuck_is e l a c = (λ named. stuck_by _ _ named e l a c refl refl, λ by. back by)
    where
      back : IsStuckBy b e l a c → IsNamedExit b (Left e l) (exit.Stuck a c)
      back by =
          let whole = div-add-mod' e (lines_at b + 1) in
          let element : e ≡ column_at 0 (lines_at b) (e / (lines_at b + 1))
          + (lines_before b.symbols (by.tape - 1) + c) = (let row = by.row in omega
          arith) in
          let line = by.west_is in
          stuck (e / (lines_at b + 1)) a by.tape c by.awaits by.low (λ i. Left (element i) (line i))

  none_by : (e l : ℕ) → ((a c : ℕ) → IsStuckBy b e l a c → ⊥) → (a c : ℕ)
      → (◌≡◌ {A = Option (ℕ × ℕ)} None (Some (a, c))) ↔ IsNamedExit b (Left e l)
      (exit.Stuck a c)
  none_by e l refuted a c = (
    λ h. absurd (let g : ◌≡◌ {A = Option (ℕ × ℕ)} None (Some (a, c)) = h in cc),
    λ named. absurd (refuted a c ((stuck_is e l a c).0 named)),
  )

  pub off_line : (e l : ℕ) → l ≢ west → (a c : ℕ) → (◌≡◌ {A = Option (ℕ × ℕ)} None (Some (a, c)))
      ↔ IsNamedExit b (Left e l) (exit.Stuck a c)
  off_line e l other = none_by e l (λ a c by. other by.west_is)

  -- by the number of lines
  module _ (e l n : ℕ) (n_is : n ≡ lines_at b) where
    pub off_states : b.states ≤ e / (n + 1) → (a c : ℕ) → (◌≡◌ {A = Option (ℕ × ℕ)} None (Some (a, c)))
        ↔ IsNamedExit b (Left e l) (exit.Stuck a c)
    off_states high = none_by e l (λ a c by.
        let within : e / (lines_at b + 1) < length b.awaited = slice_get_within b.awaited (e / (lines_at b + 1))
        (Some (a, by.tape)) by.awaits in
        let counted : length b.awaited ≡ b.states = kept.awaited_counted in
        let over : b.states ≤ e / (lines_at b + 1) = subst (λ k. b.states ≤ e / (k + 1)) n_is high in
        absurd (omega arith))

    pub off_awaited : slice_get b.awaited (e / (n + 1)) ≡ Some None → (a c : ℕ)
        → (◌≡◌ {A = Option (ℕ × ℕ)} None (Some (a, c))) ↔ IsNamedExit b (Left e l) (exit.Stuck a c)
    off_awaited none = none_by e l (λ a c by.
        let here : slice_get b.awaited (e / (lines_at b + 1)) ≡ Some None =
        subst (λ k. slice_get b.awaited (e / (k + 1)) ≡ Some None) n_is none in
        absurd (let h : ◌≡◌ {A = Option (Option (ℕ × ℕ))} (Some None) (Some (Some (a, by.tape))) = sym here
        ∙ by.awaits in cc))

    module _ (from t : ℕ) (awaits : slice_get b.awaited (e / (n + 1)) ≡ Some (Some (from, t))) where
      awaits_here : slice_get b.awaited (e / (lines_at b + 1)) ≡ Some (Some (from, t))
      awaits_here = subst (λ k. slice_get b.awaited (e / (k + 1)) ≡ Some (Some (from, t))) n_is awaits

      same_awaited : (a u : ℕ) → slice_get b.awaited (e / (lines_at b + 1)) ≡ Some (Some (a, u)) → (from ≡ a) × (t ≡ u)
      same_awaited a u other =
          let kept : ◌≡◌ {A = Option (Option (ℕ × ℕ))} (Some (Some (from, t))) (Some (Some (a, u))) =
          sym awaits_here ∙ other in
          some_pair_parts from a t u (same_Some (Some (from, t)) (Some (a, u)) kept)

      row_is : (a c : ℕ) → (by : IsStuckBy b e l a c) → (c < symbol_count_at b t)
          × (e % (n + 1) ≡ lines_before b.symbols (t - 1) + c)
      row_is a c by =
          let same = (same_awaited a by.tape by.awaits).1 in
          subst (λ k. (c < symbol_count_at b t) × (e % (k + 1) ≡ lines_before b.symbols (t - 1) + c)) (sym n_is)
          (subst (λ u. (c < symbol_count_at b u) × (e % (lines_at b + 1) ≡ lines_before b.symbols (u - 1) + c))
          (sym same) (by.low, by.row))

      pub off_letters : ((c : ℕ) → (None ≡ Some c) ↔ ((c < symbol_count_at b t)
          × (e % (n + 1) ≡ lines_before b.symbols (t - 1) + c)))
          → (a c : ℕ) → (◌≡◌ {A = Option (ℕ × ℕ)} None (Some (a, c))) ↔ IsNamedExit b (Left e l) (exit.Stuck a c)
      off_letters none = none_by e l (λ a c by. absurd (let h : ◌≡◌ {A = Option ℕ} None (Some c) = (none c).1
          (row_is a c by) in cc))

      pub by_letter : (s : ℕ) → l ≡ west → ((c : ℕ) → (Some s ≡ Some c)
          ↔ ((c < symbol_count_at b t) × (e % (n + 1) ≡ lines_before b.symbols (t - 1) + c)))
          → (a c : ℕ) → (◌≡◌ {A = Option (ℕ × ℕ)} (Some (from, s)) (Some (a, c)))
          ↔ IsNamedExit b (Left e l) (exit.Stuck a c)
      by_letter s is_west some a c = (
        λ h. (
            let parts = some_pair_parts from a s c h in
            let here = (some c).0 (ap Some parts.1) in
            let row : e % (lines_at b + 1) ≡ lines_before b.symbols (t - 1) + c =
            subst (λ k. e % (k + 1) ≡ lines_before b.symbols (t - 1) + c) n_is here.1 in
            let awaits' : slice_get b.awaited (e / (lines_at b + 1)) ≡ Some (Some (a, t)) =
            subst (λ k. slice_get b.awaited (e / (lines_at b + 1)) ≡ Some
            (Some (k, t))) parts.0 awaits_here in
            (stuck_is e l a c).1 (record { west_is = is_west; tape = t; awaits = awaits'; low = here.0; row = row })),
        λ named. (
            let by = (stuck_is e l a c).0 named in
            let states = (same_awaited a by.tape by.awaits).0 in
            let symbols : s ≡ c = same_Some s c ((some c).1 (row_is a c by)) in
            λ i. Some (states i, symbols i)),
      )

module _ (b : Layout) where
  window_by : (t : ℕ) (s : Side) (p : Place) (x : Exit) → IsNamedExit b p x → x ≡ exit.Window t s
      → (p ≡ cell_output b t (cells_in b.limits t - 1) (line_number (symbol_count_at b t) TakeRight) → ⊥)
      → (p ≡ cell_output b t 0 (line_number (symbol_count_at b t) TakeLeft) → ⊥) → ⊥
  window_by t s p x (inside m k is) named one two = absurd (let h : exit.Inside ≡ exit.Window t s = named in cc)
  window_by t s p x (ends is) named one two = absurd (let h : exit.End ≡ exit.Window t s = named in cc)
  window_by t s p x (stuck q a u c awaits low is) named one two =
      absurd (let h : exit.Stuck a c ≡ exit.Window t s = named in cc)
  window_by t s p x (right u low high is) named one two =
      let tapes : u ≡ t = (let h : exit.Window u side.Right ≡ exit.Window t s = named in cc) in
      one (subst (λ n. p ≡ cell_output b n (cells_in b.limits n - 1) (line_number (symbol_count_at b n) TakeRight))
      tapes is)
  window_by t s p x (left u low high is) named one two =
      let tapes : u ≡ t = (let h : exit.Window u side.Left ≡ exit.Window t s = named in cc) in
      two (subst (λ n. p ≡ cell_output b n 0 (line_number (symbol_count_at b n) TakeLeft)) tapes is)

  -- the line is that of neither end
  pub no_window : (t : ℕ) (p : Place) → (p ≡ cell_output b t (cells_in b.limits t - 1)
      (line_number (symbol_count_at b t) TakeRight) → ⊥)
      → (p ≡ cell_output b t 0 (line_number (symbol_count_at b t) TakeLeft) → ⊥) → (s : Side)
      → IsNamedExit b p (exit.Window t s) → ⊥
  no_window t p one two s named = window_by t s p _ named refl one two

  -- the line of an end, by the numbers of cells and letters
  module _ (t cells z : ℕ) (cells_are : cells ≡ cells_in b.limits t) (letters_are : z ≡ symbol_count_at b t) where
    right_is : (r : Line) → Left r.element r.line ≡ cell_output b t (cells - 1) (z + 3)
        → Left r.element r.line ≡ cell_output b t (cells_in b.limits t - 1)
        (line_number (symbol_count_at b t) TakeRight)
    right_is r is = subst (λ n. Left r.element r.line ≡ cell_output b t (n - 1) (symbol_count_at b t + 3)) cells_are
        (subst (λ n. Left r.element r.line ≡
        cell_output b t (cells - 1) (n + 3)) letters_are is)

    left_is : (l : Line) → Left l.element l.line ≡ cell_output b t 0 (2 * z + 7)
        → Left l.element l.line ≡ cell_output b t 0 (line_number (symbol_count_at b
        t) TakeLeft)
    left_is l is = subst (λ n. Left l.element l.line ≡ cell_output b t 0 (2 * n + 7)) letters_are is

    -- another line than those of both ends
    pub off_ends : (line r l : Line) (one two : Bool) → one ≡ is_line line r → one ≡ false → two ≡ is_line line l
        → two ≡ false
        → Left r.element r.line ≡ cell_output b t (cells - 1) (z + 3)
        → Left l.element l.line ≡ cell_output b t 0 (2 * z + 7)
        → (s : Side) → IsNamedExit b (Left line.element line.line) (exit.Window t s) → ⊥
    off_ends line r l one two one_is no_right two_is no_left r_is l_is =
        no_window t (Left line.element line.line) (other_line line r _ (other_lines line r one one_is no_right)
        (right_is r r_is)) (other_line line l _
        (other_lines line l two two_is no_left) (left_is l l_is))

    pub at_right : (line r : Line) (one : Bool) → 1 ≤ t → t ≤ 3 → one ≡ is_line line r → one ≡ true
        → Left r.element r.line ≡ cell_output b t (cells - 1) (z + 3)
        → IsNamedExit b (Left line.element line.line) (exit.Window t side.Right)
    at_right line r one low high one_is same is = right t (omega arith) high
        (same_place line r (same_lines line r one one_is same) ∙ right_is r is)

    pub at_left : (line l : Line) (one : Bool) → 1 ≤ t → t ≤ 3 → one ≡ is_line line l → one ≡ true
        → Left l.element l.line ≡ cell_output b t 0 (2 * z + 7) → IsNamedExit b (Left line.element line.line)
        (exit.Window t side.Left)
    at_left line l one low high one_is same is = left t (omega arith) high
        (same_place line l (same_lines line l one one_is same) ∙ left_is l is)

  pub at_end : (line end : Line) (one : Bool) → one ≡ is_line line end → one ≡ true
      → Left end.element end.line ≡ end_place b
      → IsNamedExit b (Left line.element line.line) exit.End
  at_end line end one one_is same is = ends (same_place line end (same_lines line end one one_is same) ∙ is)

  pub off_end : (line end : Line) (one : Bool) → one ≡ is_line line end → one ≡ false
      → Left end.element end.line ≡ end_place b
      → Left line.element line.line ≡ end_place b → ⊥
  off_end line end one one_is other is = other_line line end (end_place b) (other_lines line end one one_is other) is

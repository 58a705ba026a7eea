-- A tape keeps one head.
use Rattle.std.specs.Prelude.{◌≡◌, ℕ, ◌+◌, ◌*◌, ◌<◌, ◌≤◌, ◌==◌, List, [], ◌∷◌, ◌++◌, length, replicate, Option, Some}
use Rattle.std.specs.Prelude.{None, slice_get, option_and_then, refl, ◌⊎◌}
use Rattle.std.proofs.Common.{zero, suc, arith, sym, ap, ◌∙◌, inl, inr, length-append}
use Rattle.std.proofs.lemmas.Bool.{cases_Bool, cases_lt, eqb-false, eqb-true}
use Rattle.std.proofs.lemmas.Option.{slice_get_within}
use Rattle.std.proofs.lemmas.List.{length-replicate}
use Rattle.bn_element.specs.Tables.{Table}
use Rattle.bn_circuits.specs.Circuits.{Circuit, target, go_of, place_after, place_at}
use Rattle.bn_circuits.proofs.StepLemmas.{slice_get-set_same, slice_get-set_other}
use Rattle.bn_circuits.specs.declared.line.Line.{Line}
use Rattle.bn_circuits.specs.declared.place.Place.TheVariants.{Enter}
use Rattle.bn_machine.specs.Outcome.{Limits}
use Rattle.bn_quad.specs.Quadruples.{Quadruples}
use Rattle.bn_network.specs.declared.cell_line.CellLine.TheVariants.{TakeRight, TakeLeft}
use Rattle.bn_circuits.specs.Situations.{Situation, Turns}
use Rattle.bn_network.specs.Cells.{cell_table, line_number}
use Rattle.bn_network.specs.Controls.{ControlState, symbol_count, out_number, Tape as to_tape}
use Rattle.bn_network.specs.Networks.{IsNetwork, IsNetWire, commands, replies, rightward, leftward, IsTape, first_cell}
use Rattle.bn_network.specs.Networks.{cells_in, module_tables}
use Rattle.bn_circuits.specs.Circuits.{line_at}
use Rattle.bn_network.specs.Moments.{HasHeads}
use Rattle.bn_network_laws.specs.NetworkLaws.{HeadsStayOne}
use Rattle.bn_network_laws.proofs.PlaceLemmas.{after_control, one_first, one_cell, control_leads, same_element}
use Rattle.bn_network_laws.proofs.PlaceLemmas.{same_line_number, entered, never}
use Rattle.bn_network_laws.proofs.CellMoveLemmas.{IsTake, IsNoTake, CellMove, keeps, takes, gives, cell_moves}

-- ---- modules and their tables

-- a module that moves has a table
has_table : (ts : List Table) (e q i : ℕ) (m : ℕ × ℕ) → go_of ts e q i ≡ Some m
    → (t : Table) × (slice_get ts e ≡ Some t) × (t.go q i ≡ Some m)
has_table ts e q i m h = by_option (slice_get ts e) refl h
  where
    by_option : (o : Option Table) → slice_get ts e ≡ o → option_and_then (λ (t : Table). t.go q i) o ≡ Some m
        → (t : Table) × (slice_get ts e ≡ Some t)
        × (t.go q i ≡ Some m)
    by_option None is h = absurd (cc)
    by_option (Some t) is h = (t, is, h)

-- an element of a list in two parts is in one of them
in_either : {X : Type 0} (xs ys : List X) (e : ℕ) (x : X) → slice_get (xs ++ ys) e ≡ Some x
    → (slice_get xs e ≡ Some x) ⊎ ((j : ℕ) × (e ≡ length xs + j) × (slice_get ys j ≡ Some x))
in_either [] ys e x h = inr (e, omega arith, h)
in_either (a ∷ xs) ys zero x h = inl h
in_either (a ∷ xs) ys (suc e) x h = elim (in_either xs ys e x h)
    [ inl front ↦ inl front | inr back ↦ inr (back.0, (let sum = back.1 in omega arith), back.2) ]

-- a list of one element has no other
in_replicate : {X : Type 0} (n e : ℕ) (a x : X) → slice_get (replicate n a) e ≡ Some x → (e < n) × (x ≡ a)
in_replicate zero e a x h = absurd (cc)
in_replicate (suc n) zero a x h = (omega arith, cc)
in_replicate (suc n) (suc e) a x h = let more = in_replicate n e a x h in (omega (arith, more.0), more.1)

-- a module is the control, or a cell of a tape
pub record IsCell (m : Quadruples) (l : Limits) (e : ℕ) (t : Table) : Type 0 where
  pub tape : ℕ
  pub cell : ℕ
  pub is : IsTape tape
  pub low : cell < cells_in l tape
  pub element : e ≡ first_cell l tape + cell
  pub table : t ≡ cell_table (symbol_count m tape)

-- by the number of a module
which_module : (m : Quadruples) (l : Limits) (control : Table) (e : ℕ) (t : Table)
    → slice_get (module_tables m l control) e ≡ Some t
    → (e ≡ 0) ⊎ IsCell m l e t
which_module m l control e t h = by_three (in_either ((control ∷ r1) ++ r2) r3 e t h)
  where
    r1 : List Table
    r1 = replicate (cells_in l 1) (cell_table (symbol_count m 1))

    r2 : List Table
    r2 = replicate (cells_in l 2) (cell_table (symbol_count m 2))

    r3 : List Table
    r3 = replicate (cells_in l 3) (cell_table (symbol_count m 3))

    by_first : (n : ℕ) → slice_get (control ∷ r1) n ≡ Some t → (n ≡ 0) ⊎ IsCell m l n t
    by_first zero h = inl refl
    by_first (suc n) h =
        let found = in_replicate (cells_in l 1) n (cell_table (symbol_count m 1)) t h in
        inr (record {
          tape = 1;
          cell = n;
          is = record { low = omega arith; high = omega arith };
          low = found.0;
          element = omega arith;
          table = found.1;
        })

    size_one : length (control ∷ r1) ≡ first_cell l 2
    size_one = let a = length-replicate (cells_in l 1) (cell_table (symbol_count m 1)) in omega arith

    size_two : length ((control ∷ r1) ++ r2) ≡ first_cell l 3
    size_two = let a = length-append (control ∷ r1) r2 in let b =
        length-replicate (cells_in l 2) (cell_table (symbol_count m 2)) in let c = size_one in omega arith

    by_two : (slice_get (control ∷ r1) e ≡ Some t) ⊎ ((j : ℕ) × (e ≡ length (control ∷ r1) + j)
        × (slice_get r2 j ≡ Some t)) → (e ≡ 0) ⊎ IsCell m l e t
    by_two (inl front) = by_first e front
    by_two (inr back) =
        let found = in_replicate (cells_in l 2) back.0 (cell_table (symbol_count m 2)) t back.2 in
        let sum = back.1 in let size = size_one in
        inr (record {
          tape = 2;
          cell = back.0;
          is = record { low = omega arith; high = omega arith };
          low = found.0;
          element = omega arith;
          table = found.1;
        })

    by_three : (slice_get ((control ∷ r1) ++ r2) e ≡ Some t) ⊎ ((j : ℕ) × (e ≡ length ((control ∷ r1) ++ r2) + j)
        × (slice_get r3 j ≡ Some t))
        → (e ≡ 0) ⊎ IsCell m l e t
    by_three (inl front) = by_two (in_either (control ∷ r1) r2 e t front)
    by_three (inr back) =
        let found = in_replicate (cells_in l 3) back.0 (cell_table (symbol_count m 3)) t back.2 in
        let sum = back.1 in let size = size_two in
        inr (record {
          tape = 3;
          cell = back.0;
          is = record { low = omega arith; high = omega arith };
          low = found.0;
          element = omega arith;
          table = found.1;
        })

module _ (m : Quadruples) (l : Limits) (names : List ControlState) (k : Circuit) (net : IsNetwork m l names k) where
  -- a wire from cell to cell stays on its tape and keeps the line's number
  cell_wire : (u p o t a i : ℕ) → IsTape u → p < cells_in l u → IsTape t → a < cells_in l t
      → place_after k.wires (line_at (first_cell l u + p) o) ≡ Enter (first_cell l t + a) i → (t ≡ u) × (i ≡ o)
  cell_wire u p o t a i isu lowu ist lowt here = by_target (target k.wires (line_at (first_cell l u + p) o)) refl here
    where
      by_wire : (to : Line) → IsNetWire m l (line_at (first_cell l u + p) o) to → to.element ≡ first_cell l t + a
          → to.line ≡ i → (t ≡ u) × (i ≡ o)
      by_wire to (commands v c isv command line from there) ee ei =
          absurd (let e = same_element (first_cell l u + p) o 0 (out_number m (to_tape v c)) from in let
          low = after_control l u isu in omega arith)
      by_wire to (replies v c isv reply line from there) ee ei =
          absurd (let e = ap (λ (x : Line). x.element) there in let low = after_control l t ist in omega arith)
      by_wire to (rightward v b c isv lt right line from there) ee ei =
          let one = one_cell l u v p b isu isv lowu (omega arith)
          (same_element (first_cell l u + p) o (first_cell l v + b) (line_number (symbol_count m v) c) from) in
          let number = same_line_number (first_cell l u + p) o (first_cell l v + b) (line_number (symbol_count m v) c)
          from in
          let e = ap (λ (x : Line). x.element) there in
          let two = one_cell l t v a (b + 1) ist isv lowt lt (omega arith) in
          (two.0 ∙ sym one.0, sym ei ∙ ap (λ (x : Line). x.line) there ∙ sym number)
      by_wire to (leftward v b c isv lt left line from there) ee ei =
          let one = one_cell l u v p (b + 1) isu isv lowu lt (same_element (first_cell l u + p) o
          (first_cell l v + (b + 1)) (line_number (symbol_count m v) c) from) in
          let number = same_line_number (first_cell l u + p) o (first_cell l v + (b + 1))
          (line_number (symbol_count m v) c) from in
          let e = ap (λ (x : Line). x.element) there in
          let two = one_cell l t v a b ist isv lowt (omega arith) (omega arith) in
          (two.0 ∙ sym one.0, sym ei ∙ ap (λ (x : Line). x.line) there ∙ sym number)

      by_target : (to : Option Line) → target k.wires (line_at (first_cell l u + p) o) ≡ to
          → place_at to (line_at (first_cell l u + p) o) ≡ Enter (first_cell l t + a) i → (t ≡ u) × (i ≡ o)
      by_target None e h = absurd (never (first_cell l t + a) i (first_cell l u + p) o (sym h))
      by_target (Some to) e h =
          let both = entered to.element to.line (first_cell l t + a) i h in
          by_wire to ((net.wires (line_at (first_cell l u + p) o) to).0 e) both.0 both.1

  -- the control moves: cells stay, and it sends no head
  module _ (s y : Situation) (heads : HasHeads m l s) (g : Turns k s y) where
    -- where the control moves, no cell changes, and it sends no head
    heads_at_control : g.element ≡ 0 → HasHeads m l y
    heads_at_control zero_is = record {
      one = λ t p q i j is lowp lowq atp atq headp headq. heads.one t p q i j is lowp lowq (old t p i is atp)
          (old t q j is atq) headp headq;
      carried = λ t p q i is lowp lowq taken atq. absurd (no_take t p is lowp taken);
    }
      where
        old : (t p i : ℕ) → IsTape t → slice_get y.states (first_cell l t + p) ≡ Some i
            → slice_get s.states (first_cell l t + p) ≡ Some i
        old t p i is at = let low = after_control l t is in sym (slice_get-set_other s.states g.element
            (first_cell l t + p) g.after (λ e. omega arith)) ∙ sym
            (ap (λ xs. slice_get xs (first_cell l t + p)) g.states) ∙ at

        sent : (t p i : ℕ) → IsTape t → p < cells_in l t → y.place ≡ Enter (first_cell l t + p) i
            → i ≤ symbol_count m t + 2
        sent t p i is low here = elim (control_leads m l names k net g.output) [
          | inl gone ↦ absurd (never (first_cell l t + p) i 0 g.output
              (sym here ∙ g.place ∙ ap (λ e. place_after k.wires (line_at e g.output)) zero_is ∙ gone))
          | inr there ↦
              let both = entered (first_cell l t + p) i (first_cell l there.tape) there.number
              (sym here ∙ g.place ∙ ap (λ e. place_after k.wires (line_at e g.output)) zero_is ∙ there.place) in
              let tape = (one_first l t there.tape p is there.is low both.0).0 in
              let same : symbol_count m t ≡ symbol_count m there.tape = ap (symbol_count m) tape in
              let number = both.1 in
              let small = there.small in
              omega arith
        ]

        no_take : (t p : ℕ) → IsTape t → p < cells_in l t
            → (y.place ≡ Enter (first_cell l t + p) (line_number (symbol_count m t) TakeRight))
            ⊎ (y.place ≡ Enter (first_cell l t + p) (line_number (symbol_count m t) TakeLeft)) → ⊥
        no_take t p is low (inl here) = let small = sent t p (line_number (symbol_count m t) TakeRight) is low here in
            omega arith
        no_take t p is low (inr here) = let small = sent t p (line_number (symbol_count m t) TakeLeft) is low here in
            omega arith

    -- a cell moves
    module _ (u p : ℕ) (isu : IsTape u) (lowu : p < cells_in l u) (element : g.element ≡ first_cell l u + p) where
      -- a cell's state after the move
      new_at : (t a i : ℕ) → IsTape t → a < cells_in l t → slice_get y.states (first_cell l t + a) ≡ Some i
          → ((t ≡ u) × (a ≡ p) × (i ≡ g.after)) ⊎ ((slice_get s.states (first_cell l t + a) ≡ Some i)
          × (t ≡ u → a ≡ p → ⊥))
      new_at t a i is low at = elim (cases_Bool ((first_cell l t + a) == g.element)) [
        | inl same ↦
            let here = eqb-true (first_cell l t + a) g.element same in
            let one = one_cell l t u a p is isu low lowu (here ∙ element) in
            let value : slice_get y.states (first_cell l t + a) ≡ Some g.after =
            ap (λ e. slice_get y.states e) here ∙ ap (λ xs. slice_get xs g.element) g.states
            ∙ slice_get-set_same s.states g.element g.after (slice_get_within s.states g.element g.before
            g.has_state) in
            let both : Some i ≡ Some g.after = sym at ∙ value in
            inl (one.0, one.1, cc)
        | inr other ↦
            let apart = eqb-false (first_cell l t + a) g.element other in
            inr (
              sym (slice_get-set_other s.states g.element (first_cell l t + a) g.after apart)
                  ∙ sym (ap (λ xs. slice_get xs (first_cell l t + a)) g.states) ∙ at,
              λ tape cell. apart (ap (λ x. first_cell l x + a) tape ∙ ap (λ x. first_cell l u + x) cell ∙ sym element),
            )
      ]

      before_at : slice_get s.states (first_cell l u + p) ≡ Some g.before
      before_at = ap (λ e. slice_get s.states e) (sym element) ∙ g.has_state

      old_at : (t a : ℕ) → t ≡ u → a ≡ p → slice_get s.states (first_cell l t + a) ≡ Some g.before
      old_at t a tape cell = ap (λ x. slice_get s.states (first_cell l x + a)) tape
          ∙ ap (λ x. slice_get s.states (first_cell l u + x)) cell ∙ before_at

      -- a head that goes on by a wire comes by the move's own line
      goes_on : (t a : ℕ) → IsTape t → a < cells_in l t
          → (y.place ≡ Enter (first_cell l t + a) (line_number (symbol_count m t) TakeRight))
          ⊎ (y.place ≡ Enter (first_cell l t + a) (line_number (symbol_count m t) TakeLeft))
          → (t ≡ u) × IsTake (symbol_count m u) g.output
      goes_on t a is low (inl here) =
          let wire = cell_wire u p g.output t a (line_number (symbol_count m t) TakeRight) isu lowu is low
          (ap (λ e. place_after k.wires (line_at e g.output)) (sym element) ∙ sym g.place ∙ here) in
          (wire.0, inl (sym wire.1 ∙ ap (λ x. symbol_count m x + 3) wire.0))
      goes_on t a is low (inr here) =
          let wire = cell_wire u p g.output t a (line_number (symbol_count m t) TakeLeft) isu lowu is low
          (ap (λ e. place_after k.wires (line_at e g.output)) (sym element) ∙ sym g.place ∙ here) in
          (wire.0, inr (sym wire.1 ∙ ap (λ x. 2 * symbol_count m x + 7) wire.0))

      no_take : IsNoTake (symbol_count m u) g.output → (t a : ℕ) → IsTape t → a < cells_in l t
          → (y.place ≡ Enter (first_cell l t + a) (line_number (symbol_count m t) TakeRight))
          ⊎ (y.place ≡ Enter (first_cell l t + a) (line_number (symbol_count m t) TakeLeft)) → ⊥
      no_take none t a is low here = elim (goes_on t a is low here).1
          [ inl right ↦ none.0 right | inr left ↦ none.1 left ]

      -- by what the move does with the head
      by_move : CellMove (symbol_count m u) g.before g.input g.after g.output → HasHeads m l y
      by_move (keeps same none) = record {
        one = λ t a b i j is lowa lowb ata atb heada headb. (
            let first = old_head t a i is lowa ata heada in
            let second = old_head t b j is lowb atb headb in
            heads.one t a b first.0 second.0 is lowa lowb first.1 second.1 first.2 second.2);
        carried = λ t a b i is lowa lowb taken atb. absurd (no_take none t a is lowa taken);
      }
        where
          old_head : (t a i : ℕ) → IsTape t → a < cells_in l t → slice_get y.states (first_cell l t + a) ≡ Some i
              → symbol_count m t ≤ i → (j : ℕ)
              × (slice_get s.states (first_cell l t + a) ≡ Some j) × (symbol_count m t ≤ j)
          old_head t a i is low at head = elim (new_at t a i is low at) [
            | inl here ↦
                let size : symbol_count m t ≡ symbol_count m u = ap (symbol_count m) here.0 in
                let value = here.2 in
                let high = same (omega arith) in
                (g.before, old_at t a here.0 here.1, omega arith)
            | inr there ↦ (i, there.0, head)
          ]
      by_move (takes take blank none) = record {
        one = λ t a b i j is lowa lowb ata atb heada headb. two_heads t a b i j is lowa lowb heada headb
            (new_at t a i is lowa ata) (new_at t b j is lowb atb);
        carried = λ t a b i is lowa lowb taken atb. absurd (no_take none t a is lowa taken);
      }
        where
          start : s.place ≡ Enter (first_cell l u + p) g.input
          start = g.enters ∙ ap (λ e. Enter e g.input) element

          brought : IsTake (symbol_count m u) g.input
              → (s.place ≡ Enter (first_cell l u + p) (line_number (symbol_count m u) TakeRight))
              ⊎ (s.place ≡ Enter (first_cell l u + p) (line_number (symbol_count m u) TakeLeft))
          brought (inl right) = inl (start ∙ ap (λ i. Enter (first_cell l u + p) i) right)
          brought (inr left) = inr (start ∙ ap (λ i. Enter (first_cell l u + p) i) left)

          no_old : (t b j : ℕ) → t ≡ u → IsTape t → b < cells_in l t → slice_get s.states (first_cell l t + b) ≡ Some j
              → j < symbol_count m t
          no_old t b j tape is low at =
              let size : symbol_count m t ≡ symbol_count m u = ap (symbol_count m) tape in
              let cells : cells_in l t ≡ cells_in l u = ap (cells_in l) tape in
              let small = heads.carried u p b j isu lowu (omega arith) (brought take)
              (ap (λ x. slice_get s.states (first_cell l x + b)) (sym tape) ∙ at) in
              omega arith

          two_heads : (t a b i j : ℕ) → IsTape t → a < cells_in l t → b < cells_in l t → symbol_count m t ≤ i
              → symbol_count m t ≤ j
              → ((t ≡ u) × (a ≡ p) × (i ≡ g.after)) ⊎ ((slice_get s.states (first_cell l t + a) ≡ Some i)
              × (t ≡ u → a ≡ p → ⊥))
              → ((t ≡ u) × (b ≡ p) × (j ≡ g.after)) ⊎ ((slice_get s.states (first_cell l t + b) ≡ Some j)
              × (t ≡ u → b ≡ p → ⊥)) → a ≡ b
          two_heads t a b i j is lowa lowb heada headb (inl x) (inl y') = x.1 ∙ sym y'.1
          two_heads t a b i j is lowa lowb heada headb (inl x) (inr y') =
              absurd (let small = no_old t b j x.0 is lowb y'.0 in omega arith)
          two_heads t a b i j is lowa lowb heada headb (inr x) (inl y') =
              absurd (let small = no_old t a i y'.0 is lowa x.0 in omega arith)
          two_heads t a b i j is lowa lowb heada headb (inr x) (inr y') =
              heads.one t a b i j is lowa lowb x.0 y'.0 heada headb
      by_move (gives head plain) = record {
        one = λ t a b i j is lowa lowb ata atb heada headb. heads.one t a b i j is lowa lowb
            (old_head t a i is lowa ata heada) (old_head t b j is lowb atb headb) heada headb;
        carried = λ t a b i is lowa lowb taken atb. none_left t b i is lowb (goes_on t a is lowa taken).0
            (new_at t b i is lowb atb);
      }
        where
          old_head : (t a i : ℕ) → IsTape t → a < cells_in l t → slice_get y.states (first_cell l t + a) ≡ Some i
              → symbol_count m t ≤ i
              → slice_get s.states (first_cell l t + a) ≡ Some i
          old_head t a i is low at high = elim (new_at t a i is low at) [
            | inl here ↦ absurd (let size : symbol_count m t ≡ symbol_count m u = ap (symbol_count m) here.0 in let
                value = here.2 in omega arith)
            | inr there ↦ there.0
          ]

          none_left : (t b i : ℕ) → IsTape t → b < cells_in l t → t ≡ u
              → ((t ≡ u) × (b ≡ p) × (i ≡ g.after)) ⊎ ((slice_get s.states (first_cell l t + b) ≡ Some i)
              × (t ≡ u → b ≡ p → ⊥)) → i < symbol_count m t
          none_left t b i is low tape (inl here) = let size : symbol_count m t ≡ symbol_count m u =
              ap (symbol_count m) tape in let value = here.2 in omega arith
          none_left t b i is low tape (inr there) = elim (cases_lt i (symbol_count m t)) [
            | inl small ↦ small
            | inr high ↦
                let size : symbol_count m t ≡ symbol_count m u = ap (symbol_count m) tape in
                let cells : cells_in l t ≡ cells_in l u = ap (cells_in l) tape in
                let same : b ≡ p = heads.one t b p i g.before is low (omega arith) there.0 (old_at t p tape refl) high
                (omega arith) in
                absurd (there.1 tape same)
          ]

-- the law
pub heads-stay : HeadsStayOne
heads-stay m l names k s y net heads g =
    let found = has_table k.tables g.element g.before g.input (g.after, g.output) g.moves in
    let listed : slice_get (module_tables m l net.control) g.element ≡ Some found.0 =
    ap (λ ts. slice_get ts g.element) (sym net.tables) ∙ found.1 in
    elim (which_module m l net.control g.element found.0 listed) [
      | inl here ↦ heads_at_control m l names k net s y heads g here
      | inr cell ↦
          let move : (cell_table (symbol_count m cell.tape)).go g.before g.input ≡ Some (g.after, g.output) =
          ap (λ (t : Table). t.go g.before g.input) (sym cell.table) ∙ found.2 in
          by_move m l names k net s y heads g cell.tape cell.cell cell.is cell.low cell.element
          (cell_moves (symbol_count m cell.tape) g.before g.input g.after g.output move)
    ]

-- Where first commands lead, and where there is no moment.
use Rattle.std.specs.Prelude.{◌≡◌, ℕ, ◌+◌, ◌-◌, ◌<◌, ◌≤◌, Bool, false, List, [], ◌∷◌, Option, Some, None, slice_get}
use Rattle.std.specs.Prelude.{refl, ◌⊎◌}
use Rattle.std.proofs.Common.{zero, suc, arith, sym, ap, ◌∙◌, inl, inr}
use Rattle.bn_circuits.specs.Circuits.{Circuit, target, place_after, place_at}
use Rattle.bn_circuits.specs.declared.line.Line.{Line}
use Rattle.bn_circuits.specs.declared.place.Place.{Place}
use Rattle.bn_circuits.specs.declared.place.Place.TheVariants.{Enter, Left}
use Rattle.bn_machine.specs.Outcome.{Limits}
use Rattle.bn_quad.specs.Quadruples.{Quadruples}
use Rattle.bn_network.specs.declared.cell_line.CellLine.{CellLine}
use Rattle.bn_network.specs.declared.cell_line.CellLine.TheVariants.{Read, Write, ShiftRight, ShiftLeft, TakeRight}
use Rattle.bn_network.specs.declared.cell_line.CellLine.TheVariants.{Answer, DoneWrite, DoneRight, DoneLeft, TakeLeft}
use Rattle.bn_circuits.specs.Situations.{Situation}
use Rattle.bn_network.specs.Cells.{IsLineOf, line_number}
use Rattle.bn_network.specs.Controls.{ControlState, ControlMove, IsEntry, Tape as to_tape, symbol_count, out_number}
use Rattle.bn_network.specs.Controls.{lines_before}
use Rattle.bn_network.specs.Networks.{IsNetwork, IsNetWire, commands, replies, rightward, leftward, IsCommand, IsTape}
use Rattle.bn_network.specs.Networks.{first_cell, cells_in, IsControlAt}
use Rattle.bn_circuits.specs.Circuits.{line_at}
use Rattle.bn_network.specs.Moments.{IsMoment, at_end, sent, TellsMoments}
use Rattle.bn_network_laws.specs.Commands.{IsCalm}

-- a tape's first cell comes after the control
pub after_control : (l : Limits) (t : ℕ) → IsTape t → 0 < first_cell l t
after_control l zero is = absurd (let low = is.low in omega arith)
after_control l (suc zero) is = omega arith
after_control l (suc (suc zero)) is = omega arith
after_control l (suc (suc (suc zero))) is = omega arith
after_control l (suc (suc (suc (suc t)))) is = absurd (let high = is.high in omega arith)

-- only the first cell of a tape is a first cell
pub one_first : (l : Limits) (t u p : ℕ) → IsTape t → IsTape u → p < cells_in l t → first_cell l t + p ≡ first_cell l u
    → (t ≡ u) × (p ≡ 0)
one_first l zero u p ist isu lt e = absurd (let low = ist.low in omega arith)
one_first l (suc (suc (suc (suc t)))) u p ist isu lt e = absurd (let high = ist.high in omega arith)
one_first l t zero p ist isu lt e = absurd (let low = isu.low in omega arith)
one_first l t (suc (suc (suc (suc u)))) p ist isu lt e = absurd (let high = isu.high in omega arith)
one_first l (suc zero) (suc zero) p ist isu lt e = (refl, omega arith)
one_first l (suc zero) (suc (suc zero)) p ist isu lt e = absurd (omega arith)
one_first l (suc zero) (suc (suc (suc zero))) p ist isu lt e = absurd (omega arith)
one_first l (suc (suc zero)) (suc zero) p ist isu lt e = absurd (omega arith)
one_first l (suc (suc zero)) (suc (suc zero)) p ist isu lt e = (refl, omega arith)
one_first l (suc (suc zero)) (suc (suc (suc zero))) p ist isu lt e = absurd (omega arith)
one_first l (suc (suc (suc zero))) (suc zero) p ist isu lt e = absurd (omega arith)
one_first l (suc (suc (suc zero))) (suc (suc zero)) p ist isu lt e = absurd (omega arith)
one_first l (suc (suc (suc zero))) (suc (suc (suc zero))) p ist isu lt e = (refl, omega arith)

-- a module is a cell of one tape, and one cell of it
pub one_cell : (l : Limits) (t u p q : ℕ) → IsTape t → IsTape u → p < cells_in l t → q < cells_in l u
    → first_cell l t + p ≡ first_cell l u + q → (t ≡ u)
    × (p ≡ q)
one_cell l zero u p q ist isu lt lu e = absurd (let low = ist.low in omega arith)
one_cell l (suc (suc (suc (suc t)))) u p q ist isu lt lu e = absurd (let high = ist.high in omega arith)
one_cell l t zero p q ist isu lt lu e = absurd (let low = isu.low in omega arith)
one_cell l t (suc (suc (suc (suc u)))) p q ist isu lt lu e = absurd (let high = isu.high in omega arith)
one_cell l (suc zero) (suc zero) p q ist isu lt lu e = (refl, omega arith)
one_cell l (suc zero) (suc (suc zero)) p q ist isu lt lu e = absurd (omega arith)
one_cell l (suc zero) (suc (suc (suc zero))) p q ist isu lt lu e = absurd (omega arith)
one_cell l (suc (suc zero)) (suc zero) p q ist isu lt lu e = absurd (omega arith)
one_cell l (suc (suc zero)) (suc (suc zero)) p q ist isu lt lu e = (refl, omega arith)
one_cell l (suc (suc zero)) (suc (suc (suc zero))) p q ist isu lt lu e = absurd (omega arith)
one_cell l (suc (suc (suc zero))) (suc zero) p q ist isu lt lu e = absurd (omega arith)
one_cell l (suc (suc (suc zero))) (suc (suc zero)) p q ist isu lt lu e = absurd (omega arith)
one_cell l (suc (suc (suc zero))) (suc (suc (suc zero))) p q ist isu lt lu e = (refl, omega arith)

-- commands have the first numbers
pub command_number : (z : ℕ) (c : CellLine) → IsCommand c → IsLineOf z c → line_number z c ≤ z + 2
command_number z Read is line = omega arith
command_number z (Write u) is line = omega (arith, line)
command_number z ShiftRight is line = omega arith
command_number z ShiftLeft is line = omega arith
command_number z TakeRight is line = absurd is
command_number z (Answer u) is line = absurd is
command_number z DoneWrite is line = absurd is
command_number z DoneRight is line = absurd is
command_number z DoneLeft is line = absurd is
command_number z TakeLeft is line = absurd is

-- lines that are one are of one element
pub same_element : (a b c d : ℕ) → line_at a b ≡ line_at c d → a ≡ c
same_element a b c d e = ap (λ (x : Line). x.element) e

-- and have one number
pub same_line_number : (a b c d : ℕ) → line_at a b ≡ line_at c d → b ≡ d
same_line_number a b c d e = ap (λ (x : Line). x.line) e

-- entries that are one
pub entered : (e i f j : ℕ) → Enter e i ≡ Enter f j → (e ≡ f) × (i ≡ j)
entered e i f j h = (cc, cc)

-- no entry is an exit
pub never : (e i f j : ℕ) → Enter e i ≡ Left f j → ⊥
never e i f j h = cc

-- exits that are one
never_both : (e i f j : ℕ) → Left e i ≡ Left f j → e ≡ f
never_both e i f j h = cc

-- the lines of tapes come after the one to the outside
pub some_lines : (zs : List ℕ) (t : ℕ) → 0 < lines_before zs t
some_lines zs zero = omega arith
some_lines [] (suc t) = omega arith
some_lines (z ∷ zs) (suc t) = let more = some_lines zs t in omega arith

module _ (m : Quadruples) (l : Limits) (names : List ControlState) (k : Circuit) (net : IsNetwork m l names k) where
  -- a command's wire
  pub command_place : (t : ℕ) (c : CellLine) → IsTape t → IsCommand c → IsLineOf (symbol_count m t) c
      → place_after k.wires (line_at 0 (out_number m (to_tape t c)))
      ≡ Enter (first_cell l t) (line_number (symbol_count m t) c)
  command_place t c is command line =
      let wire = (net.wires (line_at 0 (out_number m (to_tape t c)))
      (line_at (first_cell l t) (line_number (symbol_count m t) c))).1 (commands t c is command line refl refl) in
      ap (λ o. place_at o (line_at 0 (out_number m (to_tape t c)))) wire

  -- the control's line to the outside has no wire
  pub outside_place : place_after k.wires (line_at 0 0) ≡ Left 0 0
  outside_place = by_target (target k.wires (line_at 0 0)) refl
    where
      no_wire : (to : Line) → IsNetWire m l (line_at 0 0) to → ⊥
      no_wire to (commands t c is command line from there) = let e : 0 ≡ out_number m (to_tape t c) =
          ap (λ (x : Line). x.line) from in let some = some_lines m.symbols (t - 1) in omega arith
      no_wire to (replies t c is reply line from there) = let e =
          same_element 0 0 (first_cell l t) (line_number (symbol_count m t) c) from in let low = after_control l t is in
          omega arith
      no_wire to (rightward t p c is lt right line from there) = let e =
          same_element 0 0 (first_cell l t + p) (line_number (symbol_count m t) c) from in let low = after_control l t
          is in omega arith
      no_wire to (leftward t p c is lt left line from there) = let e =
          same_element 0 0 (first_cell l t + (p + 1)) (line_number (symbol_count m t) c) from in let low = after_control
          l t is in omega arith

      by_target : (to : Option Line) → target k.wires (line_at 0 0) ≡ to → place_at to (line_at 0 0) ≡ Left 0 0
      by_target None e = refl
      by_target (Some to) e = absurd (no_wire to ((net.wires (line_at 0 0) to).0 e))

  -- where a line of the control leads
  pub record Leads (x : Place) : Type 0 where
    pub tape : ℕ
    pub number : ℕ
    pub is : IsTape tape
    pub small : number ≤ symbol_count m tape + 2
    pub place : x ≡ Enter (first_cell l tape) number

  -- by the wire of a control's line
  by_wire : (o : ℕ) (to : Line) → IsNetWire m l (line_at 0 o) to → Leads (Enter to.element to.line)
  by_wire o to (commands t c is command line from there) =
      record {
        tape = t;
        number = line_number (symbol_count m t) c;
        is = is;
        small = command_number (symbol_count m t) c command line;
        place = ap (λ (x : Line). Enter x.element x.line) there;
      }
  by_wire o to (replies t c is reply line from there) = absurd
      (let e = same_element 0 o (first_cell l t) (line_number (symbol_count m t) c) from in let low = after_control l t
      is in omega arith)
  by_wire o to (rightward t p c is lt right line from there) =
      absurd (let e = same_element 0 o (first_cell l t + p) (line_number (symbol_count m t) c) from in let
      low = after_control l t is in omega arith)
  by_wire o to (leftward t p c is lt left line from there) = absurd
      (let e = same_element 0 o (first_cell l t + (p + 1)) (line_number (symbol_count m t) c) from in let
      low = after_control l t is in omega arith)

  -- it leads outside, or to a first cell by a line of a command
  pub control_leads : (o : ℕ) → (place_after k.wires (line_at 0 o) ≡ Left 0 o)
      ⊎ Leads (place_after k.wires (line_at 0 o))
  control_leads o = by_target (target k.wires (line_at 0 o)) refl
    where
      by_target : (to : Option Line) → target k.wires (line_at 0 o) ≡ to
          → (place_at to (line_at 0 o) ≡ Left 0 o) ⊎ Leads (place_at to (line_at 0 o))
      by_target None e = inl refl
      by_target (Some to) e = inr (by_wire o to ((net.wires (line_at 0 o) to).0 e))

  -- a moment is outside or at the first cell of a tape
  moment_leads : (x : Situation) (a : ℕ) → IsMoment m names k x a → ((o : ℕ) × (x.place ≡ Left 0 o)) ⊎ Leads x.place
  moment_leads x a (at_end final place) = inl (0, place)
  moment_leads x a (sent other first entry waits place) = elim (control_leads (out_number m first.1)) [
    | inl gone ↦ inl (out_number m first.1, place ∙ gone)
    | inr there ↦ inr (record {
      tape = there.tape;
      number = there.number;
      is = there.is;
      small = there.small;
      place = place ∙ there.place;
    })
  ]

  module _ (test : Situation → Bool) (tells : TellsMoments m names k test) where
    -- at the control's lines there is no moment
    pub taken_calm : (x : Situation) (i : ℕ) → x.place ≡ Enter 0 i → test x ≡ false
    taken_calm x i here = tells.none x (λ a now. none a (moment_leads x a now))
      where
        none : (a : ℕ) → ((o : ℕ) × (x.place ≡ Left 0 o)) ⊎ Leads x.place → ⊥
        none a (inl gone) = never 0 i 0 gone.0 (sym here ∙ gone.1)
        none a (inr there) = let e = (entered 0 i (first_cell l there.tape) there.number (sym here ∙ there.place)).0 in
            let low = after_control l there.tape there.is in omega arith

    -- nor where the signal has left a cell
    pub left_calm : (x : Situation) (e o : ℕ) → 0 < e → x.place ≡ Left e o → test x ≡ false
    left_calm x e o some here = tells.none x (λ a now. none a (moment_leads x a now))
      where
        none : (a : ℕ) → ((o : ℕ) × (x.place ≡ Left 0 o)) ⊎ Leads x.place → ⊥
        none a (inl gone) = let same = never_both e o 0 gone.0 (sym here ∙ gone.1) in omega arith
        none a (inr there) = never (first_cell l there.tape) there.number e o (sym there.place ∙ here)

    -- nor in a tape's cells, but at the first one's commands
    pub cells_calm : (t : ℕ) → IsTape t → IsCalm m l t test
    cells_calm t is = record {
      calm = λ x p i lt past here. tells.none x (λ a now. none x p i lt past here (moment_leads x a now));
    }
      where
        none : (x : Situation) (p i : ℕ) → p < cells_in l t → (0 < p) ⊎ (symbol_count m t + 2 < i)
            → x.place ≡ Enter (first_cell l t + p) i
            → ((o : ℕ) × (x.place ≡ Left 0 o)) ⊎ Leads x.place → ⊥
        none x p i lt past here (inl gone) = never (first_cell l t + p) i 0 gone.0 (sym here ∙ gone.1)
        none x p i lt (inl some) here (inr there) =
            let same = entered (first_cell l t + p) i (first_cell l there.tape) there.number (sym here ∙ there.place) in
            let first = (one_first l t there.tape p is there.is lt same.0).1 in
            omega arith
        none x p i lt (inr high) here (inr there) =
            let same = entered (first_cell l t + p) i (first_cell l there.tape) there.number (sym here ∙ there.place) in
            let first = (one_first l t there.tape p is there.is lt same.0).0 in
            let number = same.1 in
            let letters_are : symbol_count m t ≡ symbol_count m there.tape = ap (symbol_count m) first in
            let small = there.small in
            omega arith

    -- nor where the control waits in a state in which no state's first command waits
    pub middle_calm : (x : Situation) (q : ControlState) (e i : ℕ) → IsControlAt names x.states q
        → ((a : ℕ) (first : ControlMove) → IsEntry m a first → first.0 ≡ q → ⊥) → x.place ≡ Enter e i → test x ≡ false
    middle_calm x q e i waits middle here = tells.none x none
      where
        same_state : (r : ControlState) → IsControlAt names x.states r → r ≡ q
        same_state r other =
            let numbers : Some other.number ≡ Some waits.number = sym other.is ∙ waits.is in
            let number : other.number ≡ waits.number = cc in
            let both : Some r ≡ Some q = sym other.named ∙ ap (slice_get names) number ∙ waits.named in
            cc

        none : (a : ℕ) → IsMoment m names k x a → ⊥
        none a (at_end final place) = never e i 0 0 (sym here ∙ place)
        none a (sent other first entry at place) = middle a first entry (same_state first.0 at)

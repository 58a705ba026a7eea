-- Tapes that cells show, while other modules change.
use Rattle.std.specs.Prelude.{◌≡◌, ℕ, ◌+◌, ◌<◌, ◌≤◌, List, slice_get, refl, ◌⊎◌}
use Rattle.std.proofs.Common.{zero, suc, arith, ◌∙◌, inl, inr}
use Rattle.bn_machine.specs.Tape.{Tape}
use Rattle.bn_machine.specs.Outcome.{Limits}
use Rattle.bn_quad.specs.Quadruples.{Configuration, Quadruples}
use Rattle.bn_network.specs.Controls.{symbol_count}
use Rattle.bn_network.specs.Networks.{ShowsCells, ShowsTape, ShowsTapes, ShowsAllCells, IsTape, first_cell, cells_in}
use Rattle.bn_network_laws.specs.Commands.{ShowsAt, ShowsCellsAt}
use Rattle.bn_network_laws.specs.Ends.{tape_of, put_tape}

-- the tape that is there changes nothing
pub same_tape : (c : Configuration ℕ) (t : ℕ) → put_tape c t (tape_of c t) ≡ c
same_tape c zero = refl
same_tape c (suc zero) = refl
same_tape c (suc (suc zero)) = refl
same_tape c (suc (suc (suc t))) = refl

-- what cells show depends on these cells alone
pub cells_frame : (states new : List ℕ) (first z left right : ℕ) (t : Tape) → ShowsCells states first z left right t
    → ((j : ℕ) → j < left + right + 1 → slice_get new (first + j) ≡ slice_get states (first + j))
    → ShowsCells new first z left right t
cells_frame states new first z left right t shows same = record {
  inside = shows.inside;
  symbols = shows.symbols;
  cells = λ j lt. same j lt ∙ shows.cells j lt;
}

pub frame : (states new : List ℕ) (first z left right : ℕ) (t : Tape) → ShowsTape states first z left right t
    → ((j : ℕ) → j < left + right + 1 → slice_get new (first + j) ≡ slice_get states (first + j))
    → ShowsTape new first z left right t
frame states new first z left right t shows same = record {
  head = shows.head;
  shown = cells_frame states new first z left right t shows.shown same;
}

-- cells that show tapes with their heads show them
pub all_cells : (m : Quadruples) (l : Limits) (states : List ℕ) (c : Configuration ℕ) → ShowsTapes m l states c
    → ShowsAllCells m l states c
all_cells m l states c shows = record { one = shows.one.shown; two = shows.two.shown; three = shows.three.shown }

-- one of the three tapes
pub shown_at : (m : Quadruples) (l : Limits) (states : List ℕ) (c : Configuration ℕ) (t : ℕ) → IsTape t
    → ShowsTapes m l states c
    → ShowsAt m l t states (tape_of c t)
shown_at m l states c zero is shows = absurd (let low = is.low in omega arith)
shown_at m l states c (suc zero) is shows = shows.one
shown_at m l states c (suc (suc zero)) is shows = shows.two
shown_at m l states c (suc (suc (suc zero))) is shows = shows.three
shown_at m l states c (suc (suc (suc (suc t)))) is shows = absurd (let high = is.high in omega arith)

-- another module's state
pub shown_beside : (m : Quadruples) (l : Limits) (states new : List ℕ) (c : Configuration ℕ) → ShowsTapes m l states c
    → ((e : ℕ) → 0 < e → slice_get new e ≡ slice_get states e) → ShowsTapes m l new c
shown_beside m l states new c shows same = record {
  one = frame states new (first_cell l 1) (symbol_count m 1) l.left l.right c.one shows.one
      (λ j lt. same (first_cell l 1 + j) (omega arith));
  two = frame states new (first_cell l 2) (symbol_count m 2) 0 l.steps c.two shows.two
      (λ j lt. same (first_cell l 2 + j) (omega arith));
  three = frame states new (first_cell l 3) (symbol_count m 3) 0 l.output c.three shows.three
      (λ j lt. same (first_cell l 3 + j) (omega arith));
}

-- one tape's cells anew, whose head may be in none of them, all else as before
pub cells_with : (m : Quadruples) (l : Limits) (states new : List ℕ) (c : Configuration ℕ) (t : ℕ) (x : Tape) → IsTape t
    → ShowsTapes m l states c
    → ShowsCellsAt m l t new x
    → ((e : ℕ) → (e < first_cell l t) ⊎ (first_cell l t + cells_in l t ≤ e) → slice_get new e ≡ slice_get states e)
    → ShowsAllCells m l new (put_tape c t x)
cells_with m l states new c zero x is shows here others = absurd (let low = is.low in omega arith)
cells_with m l states new c (suc zero) x is shows here others = record {
  one = here;
  two = cells_frame states new (first_cell l 2) (symbol_count m 2) 0 l.steps c.two shows.two.shown
      (λ j lt. others (first_cell l 2 + j) (inr (omega arith)));
  three = cells_frame states new (first_cell l 3) (symbol_count m 3) 0 l.output c.three shows.three.shown
      (λ j lt. others (first_cell l 3 + j) (inr (omega arith)));
}
cells_with m l states new c (suc (suc zero)) x is shows here others = record {
  one = cells_frame states new (first_cell l 1) (symbol_count m 1) l.left l.right c.one shows.one.shown
      (λ j lt. others (first_cell l 1 + j) (inl (omega arith)));
  two = here;
  three = cells_frame states new (first_cell l 3) (symbol_count m 3) 0 l.output c.three shows.three.shown
      (λ j lt. others (first_cell l 3 + j) (inr (omega arith)));
}
cells_with m l states new c (suc (suc (suc zero))) x is shows here others = record {
  one = cells_frame states new (first_cell l 1) (symbol_count m 1) l.left l.right c.one shows.one.shown
      (λ j lt. others (first_cell l 1 + j) (inl (omega arith)));
  two = cells_frame states new (first_cell l 2) (symbol_count m 2) 0 l.steps c.two shows.two.shown
      (λ j lt. others (first_cell l 2 + j) (inl (omega arith)));
  three = here;
}
cells_with m l states new c (suc (suc (suc (suc t)))) x is shows here others =
    absurd (let high = is.high in omega arith)

-- one tape anew, all else as before
pub shown_with : (m : Quadruples) (l : Limits) (states new : List ℕ) (c : Configuration ℕ) (t : ℕ) (x : Tape) → IsTape t
    → ShowsTapes m l states c
    → ShowsAt m l t new x
    → ((e : ℕ) → (e < first_cell l t) ⊎ (first_cell l t + cells_in l t ≤ e) → slice_get new e ≡ slice_get states e)
    → ShowsTapes m l new (put_tape c t x)
shown_with m l states new c t x is shows here others = by_tape t is here
    (cells_with m l states new c t x is shows here.shown others)
  where
    by_tape : (t : ℕ) → IsTape t → ShowsAt m l t new x → ShowsAllCells m l new (put_tape c t x)
        → ShowsTapes m l new (put_tape c t x)
    by_tape zero is here cells = absurd (let low = is.low in omega arith)
    by_tape (suc zero) is here cells = record {
      one = here;
      two = record { head = shows.two.head; shown = cells.two };
      three = record { head = shows.three.head; shown = cells.three };
    }
    by_tape (suc (suc zero)) is here cells = record {
      one = record { head = shows.one.head; shown = cells.one };
      two = here;
      three = record { head = shows.three.head; shown = cells.three };
    }
    by_tape (suc (suc (suc zero))) is here cells = record {
      one = record { head = shows.one.head; shown = cells.one };
      two = record { head = shows.two.head; shown = cells.two };
      three = here;
    }
    by_tape (suc (suc (suc (suc t)))) is here cells = absurd (let high = is.high in omega arith)

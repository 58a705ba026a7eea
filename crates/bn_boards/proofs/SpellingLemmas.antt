-- What a board's cells spell is what its network's cells show.
use Rattle.std.specs.Prelude.{◌≡◌, ◌≢◌, ℕ, ◌+◌, ◌-◌, ◌*◌, ◌<◌, ◌==◌, nat_lt, pos, ◌-ℤ◌, Bool, true, false, not, List}
use Rattle.std.specs.Prelude.{◌∷◌, length, map, position, Option, Some, None, slice_get, if◌then◌else◌, refl}
use Rattle.std.specs.List.{range_with_len, position_or_len}
use Rattle.std.specs.Option.{option_map}
use Rattle.std.specs.Ordering.{int_eq}
use Rattle.std.proofs.Common.{zero, suc, arith, sym, ap, subst, ◌∙◌, inl, inr}
use Rattle.std.proofs.lemmas.Bool.Decides.{eqb_tells}
use Rattle.std.proofs.lemmas.Option.{get_or_from_slice_get}
use Rattle.bn_circuits.specs.Circuits.{Circuit}
use Rattle.bn_circuits.specs.declared.config.Config.{Config}
use Rattle.bn_circuits.specs.declared.place.Place.TheVariants.{Enter}
use Rattle.bn_element.specs.Tables.{Table}
use Rattle.bn_column.specs.Columns.{bar}
use Rattle.bn_machine.specs.Tape.{Tape, cell}
use Rattle.bn_machine.specs.Outcome.{Limits}
use Rattle.bn_quad.specs.Quadruples.{Rule, Quadruples, Configuration}
use Rattle.bn_realise.specs.Banks.{bottom_at, IsResting}
use Rattle.bn_circuits.specs.Situations.{Situation}
use Rattle.bn_network.specs.Cells.{Plain, Head, cell_table, state_number, cell_line_count}
use Rattle.bn_network.specs.Controls.{ControlState, symbol_count}
use Rattle.bn_network.specs.Networks.{IsNetwork, IsTape, ShowsCells, ShowsAllCells, cells_in, first_cell, left_of}
use Rattle.bn_network.specs.Networks.{cell_of}
use Rattle.bn_boards.specs.Boards.{StandsFor, IsLoose, base}
use Rattle.bn_boards.specs.Layouts.{Layout, cell_element, is_marked_at, cell_state_at, symbol_by, has_head}
use Rattle.bn_boards.specs.Layouts.{cells_shown, head_shown, spelled_tape, spelled_by, tape_in, spelled_config}
use Rattle.bn_boards.proofs.AgreedLemmas.{first_low}
use Rattle.bn_boards.proofs.FirstLemmas.{position_at, below, not_below, bar_zero}
use Rattle.bn_boards.proofs.TabledLemmas.{machine, layout, has_cell, cell_base}

-- ---- numbers in their order

-- the number at a place
pub range_get : (a n i e : ℕ) → i < n → e ≡ a + i → slice_get (range_with_len a n) i ≡ Some e
range_get a zero i e low same = absurd (omega arith)
range_get a (suc n) zero e low same = let is : a ≡ e = omega arith in ap (λ v. Some v) is
range_get a (suc n) (suc i) e low same = range_get (a + 1) n i e (omega arith) (omega arith)

-- what stands at a place
pub range_holds : (a n k e : ℕ) → slice_get (range_with_len a n) k ≡ Some e → e ≡ a + k
range_holds a zero k e h = absurd (cc)
range_holds a (suc n) zero e h = let is : a ≡ e = cc in omega arith
range_holds a (suc n) (suc k) e h = let rest = range_holds (a + 1) n k e h in omega arith

-- two functions that agree on the numbers
map_same : {X : Type 0} (f g : ℕ → X) (a n : ℕ) → ((j : ℕ) → j < a + n → f j ≡ g j)
    → map f (range_with_len a n) ≡ map g (range_with_len a n)
map_same f g a zero h = refl
map_same f g a (suc n) h =
    let here = h a (omega arith) in
    let rest = map_same f g (a + 1) n (λ j low. h j (omega arith)) in
    λ i. here i ∷ rest i

-- two tests that agree on the numbers first hold at one place
first_same : (f g : ℕ → Bool) (a n : ℕ) → ((j : ℕ) → j < a + n → f j ≡ g j)
    → position_or_len f (range_with_len a n) ≡ position_or_len g (range_with_len a n)
first_same f g a zero h = refl
first_same f g a (suc n) h =
    let here = h a (omega arith) in
    let rest = first_same f g (a + 1) n (λ j low. h j (omega arith)) in
    λ i. if not (here i) then 1 + rest i else 0

position_same : (f g : ℕ → Bool) (n : ℕ) → ((j : ℕ) → j < n → f j ≡ g j)
    → position f (range_with_len 0 n) ≡ position g (range_with_len 0 n)
position_same f g n h =
    ap (λ k. if nat_lt k (length (range_with_len 0 n)) then Some k else None)
    (first_same f g 0 n (λ j low. h j (omega arith)))

-- ---- cells

-- a cell's symbol by its state's number
symbol_shown : (z s : ℕ) (b : Bool) → s < z → symbol_by z (state_number z (if b then Head s else Plain s)) ≡ s
symbol_shown z s true low = let high = not_below (z + s) z (omega arith) in let rest : z + s - z ≡ s =
    omega arith in rw high rest
symbol_shown z s false low = let test = below s z low in rw test refl

-- and whether it has the head
head_told : (z s : ℕ) (b : Bool) → s < z → has_head z (Some (state_number z (if b then Head s else Plain s))) ≡ b
head_told z s true low = let high = not_below (z + s) z (omega arith) in rw high refl
head_told z s false low = let test = below s z low in rw test refl

-- the first marked column of a bank that rests in a state
state_marked : (states : List ℕ) (c k n q : ℕ) → q < n → IsResting states c n k (Some q)
    → position (λ j. is_marked_at states (bottom_at c k j)) (range_with_len 0 n) ≡ Some q
state_marked states c k n q low rests = position_at (λ j. is_marked_at states (bottom_at c k j)) (range_with_len 0 n) q
    q (range_get 0 n q q low (omega arith)) (mark q low ∙ same) other
  where
    mark : (j : ℕ) → j < n → is_marked_at states (bottom_at c k j) ≡ (q == j)
    mark j there = (let value = get_or_from_slice_get states (bottom_at c k j) (bar (q == j)) 1
        (rests.columns j there).bottom in ap (λ v. v == 0) value ∙ bar_zero (q == j))

    same : (q == q) ≡ true
    same = elim (eqb_tells q q) [ inl is ↦ is.0 | inr apart ↦ absurd (apart.1 refl) ]

    other : (j v : ℕ) → j < q → slice_get (range_with_len 0 n) j ≡ Some v
        → is_marked_at states (bottom_at c k v) ≡ false
    other j v less h =
        let is = range_holds 0 n j v h in
        let place : v < n = omega arith in
        mark v place ∙ elim (eqb_tells q v) [
          | inl alike ↦ absurd (let e = alike.1 in omega arith)
          | inr apart ↦ apart.0
        ]

module _ (rules : List (Rule ℕ)) (states x y z : ℕ) (l : Limits) (names : List ControlState) (n : Circuit)
    (firsts awaited : List (Option (ℕ × ℕ))) where
  -- the machine, by its parts
  abbrev m : Quadruples
  m = machine rules states x y z l names n firsts awaited

  -- the layout of its board
  abbrev b : Layout
  b = layout rules states x y z l names n firsts awaited

  -- where all banks but the control's rest in their modules' states
  module _ (network : IsNetwork m l names n) (s : Situation) (d : Config)
      (rests : (e : ℕ) (u : Table) (q : ℕ) → 0 < e → slice_get n.tables e ≡ Some u → slice_get s.states e ≡ Some q
      → (q < u.states) × IsResting d.states (base n.tables e) u.states u.inputs (Some q)) where
    module _ (t right : ℕ) (tape : IsTape (suc t)) (room : cells_in l (suc t) ≡ left_of l (suc t) + right + 1)
        (c : Tape) (shows : ShowsCells s.states (first_cell l (suc t)) (symbol_count m (suc t)) (left_of l (suc t))
        right c) where
      abbrev left : ℕ
      left = left_of l (suc t)

      abbrev symbols : ℕ
      symbols = symbol_count m (suc t)

      abbrev at_head : ℕ → Bool
      at_head j = int_eq (pos j -ℤ pos left) c.head

      cell_state : (j : ℕ) → j < cells_in l (suc t) → cell_state_at b d.states (suc t) j
          ≡ Some (state_number symbols (cell_of c (pos j -ℤ pos left)))
      cell_state j low =
          let has = has_cell rules states x y z l names n firsts awaited network (suc t) j tape low in
          let place = cell_base rules states x y z l names n firsts awaited network (suc t) j tape low in
          let state = shows.cells j (omega arith) in
          let some = first_low l (suc t) tape in
          let here = rests (first_cell l (suc t) + j) (cell_table symbols)
          (state_number symbols (cell_of c (pos j -ℤ pos left))) (omega (arith, some)) has state in
          state_marked d.states (cell_element b (suc t) j) (cell_line_count symbols) (2 * symbols)
          (state_number symbols (cell_of c (pos j -ℤ pos left))) here.0
          (subst (λ e. IsResting d.states e (2 * symbols) (cell_line_count symbols)
          (Some (state_number symbols (cell_of c (pos j -ℤ pos left))))) place here.1)

      cells_same : cells_shown b d.states (suc t) ≡ map (λ j. Some (cell c (pos j -ℤ pos left)))
          (range_with_len 0 (cells_in l (suc t)))
      cells_same =
          map_same (λ j. option_map (symbol_by symbols) (cell_state_at b d.states (suc t) j))
          (λ j. Some (cell c (pos j -ℤ pos left))) 0 (cells_in l (suc t))
          (λ j low. ap (option_map (symbol_by symbols)) (cell_state j (omega arith))
          ∙ ap (λ v. Some v) (symbol_shown symbols (cell c (pos j -ℤ pos left)) (at_head j)
          (shows.symbols (pos j -ℤ pos left))))

      told : (j : ℕ) → j < cells_in l (suc t) → has_head symbols (cell_state_at b d.states (suc t) j) ≡ at_head j
      told j low = ap (has_head symbols) (cell_state j low) ∙ head_told symbols (cell c (pos j -ℤ pos left)) (at_head j)
          (shows.symbols (pos j -ℤ pos left))

      head_same : head_shown b d.states (suc t) ≡ (tape_in left (cells_in l (suc t)) c).head
      head_same =
          ap (option_map (λ j. pos j -ℤ pos left))
          (position_same (λ j. has_head symbols (cell_state_at b d.states (suc t) j)) at_head (cells_in l (suc t)) told)

      tape_same : spelled_tape b d.states (suc t) ≡ tape_in left (cells_in l (suc t)) c
      tape_same = λ i. record { first = pos 0 -ℤ pos left; head = head_same i; cells = cells_same i }

    -- all three tapes
    spells_by : (c : Configuration ℕ) → ShowsAllCells m l s.states c → spelled_by b d.states ≡ spelled_config l c
    spells_by c shows =
        let one = tape_same 0 l.right (record { low = omega arith; high = omega arith }) refl c.one shows.one in
        let two = tape_same 1 l.steps (record { low = omega arith; high = omega arith }) (omega arith) c.two shows.two
        in
        let three = tape_same 2 l.output (record { low = omega arith; high = omega arith }) (omega arith) c.three
        shows.three in
        λ i. record { one = one i; two = two i; three = three i }

  -- of a board that is between two modules
  pub spells : IsNetwork m l names n → (s : Situation) (d : Config) → StandsFor n s d → (c : Configuration ℕ)
      → ShowsAllCells m l s.states c → spelled_by b d.states ≡ spelled_config l c
  spells network s d stands c shows = spells_by network s d (λ e u q some has at. stands.rests e u q has at) c shows

  -- of one whose signal has left by a loose line of the control
  pub spells_loose : IsNetwork m l names n → (s : Situation) (d : Config) (i : ℕ) → IsLoose n s d → s.place ≡ Enter 0 i
      → (c : Configuration ℕ) → ShowsAllCells m l s.states c → spelled_by b d.states ≡ spelled_config l c
  spells_loose network s d i loose place c shows =
      spells_by network s d (λ e u q some has at. loose.rests e u q (apart e some) has at) c shows
    where
      first : loose.at_module ≡ 0
      first = let both : Enter loose.at_module loose.line ≡ Enter 0 i = sym loose.enters ∙ place in cc

      apart : (e : ℕ) → 0 < e → e ≢ loose.at_module
      apart e some same = let one = first in omega arith

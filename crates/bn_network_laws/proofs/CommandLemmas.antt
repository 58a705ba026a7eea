-- A command to a tape of the network.
use Rattle.std.specs.Prelude.{◌≡◌, ◌≢◌, ◌⊎◌, ℕ, ◌+◌, ◌-◌, ◌*◌, ◌<◌, ◌≤◌, pos, ◌-ℤ◌, Bool, not, List, slice_get}
use Rattle.std.specs.Prelude.{slice_set, refl}
use Rattle.std.proofs.Common.{zero, suc, arith, sym, ap, subst, ◌∙◌, inl, inr}
use Rattle.std.proofs.Math.Nat.{mul-le-mul_right}
use Rattle.std.proofs.lemmas.Int.{ints}
use Rattle.bn_lists.proofs.RunsLemmas.{passes_run}
use Rattle.bn_circuits.specs.Circuits.{Circuit}
use Rattle.bn_circuits.proofs.StepLemmas.{slice_get-set_other}
use Rattle.bn_circuits.specs.declared.place.Place.TheVariants.{Enter, Left}
use Rattle.bn_machine.specs.Tape.{Tape, scanned, write, shift, moved}
use Rattle.bn_machine.specs.Window.{IsBetween, IsBeyond}
use Rattle.bn_machine.specs.Outcome.{Limits}
use Rattle.bn_machine.specs.declared.quint.Shift.{Shift}
use Rattle.bn_machine.specs.declared.quint.Shift.TheVariants as way
use Rattle.bn_machine.specs.declared.quint.Side.{Side}
use Rattle.bn_machine.specs.declared.quint.Side.TheVariants as side
use Rattle.bn_quad.specs.Quadruples.{Quadruples}
use Rattle.bn_rsm.specs.Laws.{CostsAreBounded}
use Rattle.bn_network.specs.declared.cell_line.CellLine.{CellLine}
use Rattle.bn_network.specs.declared.cell_line.CellLine.TheVariants.{Read, Write, ShiftRight, ShiftLeft, TakeRight}
use Rattle.bn_network.specs.declared.cell_line.CellLine.TheVariants.{Answer, DoneWrite, DoneRight, DoneLeft, TakeLeft}
use Rattle.bn_circuits.specs.Situations.{Situation, situation, Turns}
use Rattle.bn_rsm.specs.RunCosts.{run_cost}
use Rattle.bn_network.specs.Cells.{Head, written, line_number}
use Rattle.bn_network.specs.Controls.{ControlState, Tape as to_tape, symbol_count, in_number, shift_line}
use Rattle.bn_network.specs.Networks.{IsNetwork, IsTape, first_cell, cells_in, left_of, cell_size, GoesLeft}
use Rattle.bn_network.specs.Moments.{head_cell}
use Rattle.bn_network_laws.specs.Commands.{Commands, Does, does_read, does_write, does_right, does_left, right_of}
use Rattle.bn_network_laws.specs.Commands.{ShowsAt, ShowsCellsAt, tape_elements, way_to, loose_place, IsCalm, Answered}
use Rattle.bn_network_laws.specs.Departures.{Departures, Departs, leaving_moves}
use Rattle.bn_circuits.proofs.SituationLemmas.{same_situation}
use Rattle.bn_network_laws.proofs.WalkLemmas.{Walk, cost-left}
use Rattle.bn_network_laws.proofs.RowLemmas.{IsRow, IsQuiet, Holds, into, there_and_back, marked, rehead, moved_head}
use Rattle.bn_network_laws.proofs.RowLemmas.{goes_right, goes_left, leaves_right, leaves_left}
use Rattle.bn_network_laws.proofs.CarriedLemmas.{tape_row}
use Rattle.bn_network_laws.proofs.TapeShownLemmas.{symbol_in, head_place, scanned_in, written_here, written_beside}
use Rattle.bn_network_laws.proofs.TapeShownLemmas.{shows-holds, holds-shows, left-shows, written-shows}
use Rattle.bn_network_laws.proofs.PathLemmas.{negated as denied}

-- a tape's cells are those of its window
count_cells : (l : Limits) (t : ℕ) → IsTape t → cells_in l t ≡ left_of l t + right_of l t + 1
count_cells l zero tape = let low = tape.low in absurd (omega arith)
count_cells l (suc zero) tape = refl
count_cells l (suc (suc zero)) tape = omega arith
count_cells l (suc (suc (suc zero))) tape = omega arith
count_cells l (suc (suc (suc (suc t)))) tape = let high = tape.high in absurd (omega arith)

-- a line that goes left is past those of commands
past_commands : (z : ℕ) (c : CellLine) → GoesLeft c → z + 2 < line_number z c
past_commands z (Answer u) left = omega arith
past_commands z DoneWrite left = omega arith
past_commands z DoneRight left = omega arith
past_commands z DoneLeft left = omega arith
past_commands z TakeLeft left = omega arith
past_commands z _ left = absurd left

module _ (bounded : CostsAreBounded) (m : Quadruples) (l : Limits) (names : List ControlState) (k : Circuit)
    (test : Situation
    → Bool) (t : ℕ) (s : Situation) (tape : Tape)
    (network : IsNetwork m l names k) (is_tape : IsTape t) (calm : IsCalm m l t test)
    (shows : ShowsAt m l t s.states tape) where
  -- the first module of the tape, its cells, its symbols, its window's sides, and the cell of its head
  abbrev b : ℕ
  b = first_cell l t

  abbrev n : ℕ
  n = cells_in l t

  abbrev z : ℕ
  z = symbol_count m t

  abbrev left : ℕ
  left = left_of l t

  abbrev right : ℕ
  right = right_of l t

  abbrev h : ℕ
  h = head_cell left tape

  -- the test that has to hold strictly between
  abbrev quiet_test : Situation → Bool
  quiet_test x = not (test x)

  -- the cells are those of the window
  count : n ≡ left + right + 1
  count = count_cells l t is_tape

  -- that test holds wherever the signal is past the first cell, or comes back
  quiet : IsQuiet quiet_test b n z
  quiet = record {
    along = λ states p c some lt. denied (test _) (calm.calm (into b z states p c) p (line_number z c) lt (inl some)
        refl);
    back = λ states p c goes lt. denied (test _) (calm.calm (into b z states p c) p (line_number z c) lt
        (inr (past_commands z c goes)) refl);
  }

  -- the row has the head at its cell, and the tape's symbols
  holds : Holds s.states b n z h (symbol_in left tape)
  holds = shows-holds b z left right n count s.states tape shows

  -- the control's input line for an answer
  abbrev reply : CellLine → ℕ
  reply c = in_number m (to_tape t c)

  -- the tape is a row of cells
  row : IsRow k b n z reply
  row = tape_row m l names k network t is_tape

  -- at most two moves of each cell
  cheap : (moves : ℕ) (x u : Situation) → moves ≤ 2 * n → Walk k quiet_test (4 * cell_size z) moves x u
      → run_cost k moves x ≤ 8 * tape_elements m l t
  cheap moves x u few walk =
      let cost = walk.cost in
      let product : moves * (4 * cell_size z) ≤ 2 * n * (4 * cell_size z) = mul-le-mul_right (4 * cell_size z) few in
      let regrouped : 2 * n * (4 * cell_size z) ≡ 8 * tape_elements m l t = omega arith in
      omega arith

  -- the signal enters the first cell
  starts : (c : CellLine) → s.place ≡ Enter b (line_number z c) → into b z s.states 0 c ≡ s
  starts c place =
      let first : b + 0 ≡ b = omega arith in
      same_situation (into b z s.states 0 c) s refl (ap (λ x. Enter x (line_number z c)) first ∙ sym place)

  -- a walk to the control, with these states at its end
  answered : (command answer : CellLine) (after : Tape) (moves : ℕ) (new : List ℕ)
      → s.place ≡ Enter b (line_number z command) → moves ≤ 2 * n
      → Walk k quiet_test (4 * cell_size z) moves (into b z s.states 0 command)
      (situation new (Enter 0 (in_number m (to_tape t answer))))
      → ShowsAt m l t new after
      → ((e : ℕ) → (e < b) ⊎ (b + n ≤ e) → slice_get new e ≡ slice_get s.states e)
      → Answered m l k test t s answer after moves
  answered command answer after moves new place few walk shown others =
      let home = situation new (Enter 0 (in_number m (to_tape t answer))) in
      let from_s = subst (λ x. Walk k quiet_test (4 * cell_size z) moves x home) (starts command place) walk in
      record {
        last = home;
        path = from_s.path;
        cost = cheap moves s home few from_s;
        place = refl;
        shows = shown;
        others = others;
      }

  -- a walk to a loose line
  parted : (command : CellLine) (to : Side) (moves e o : ℕ) (new : List ℕ) → s.place ≡ Enter b (line_number z command)
      → moves ≤ 2 * n
      → Left e o ≡ loose_place m l t to → moves ≡ leaving_moves l t tape to
      → Walk k quiet_test (4 * cell_size z) moves (into b z s.states 0 command) (situation new (Left e o))
      → ShowsCellsAt m l t new (shift tape (way_to to))
      → ((e : ℕ) → (e < b) ⊎ (b + n ≤ e) → slice_get new e ≡ slice_get s.states e) → Departs m l k test t s tape to
  parted command to moves e o new start few is exact walk shown others =
      let gone = situation new (Left e o) in
      let from_s = subst (λ x. Walk k quiet_test (4 * cell_size z) moves x gone) (starts command start) walk in
      let cost = cheap moves s gone few from_s in
      let more = cost-left k moves e o s gone (passes_run (Turns k) quiet_test moves s gone from_s.path) refl in
      record {
        parted = record {
          moves = moves;
          last = gone;
          path = from_s.path;
          cost = cost;
          place = is;
          shows = shown;
          others = others;
        };
        moves = exact;
        whole = omega arith;
      }

  -- other modules are as they were, after one cell changed
  beside : (states : List ℕ) (g v e : ℕ) → g < n → (e < b) ⊎ (b + n ≤ e)
      → slice_get (slice_set states (b + g) v) e ≡ slice_get states e
  beside states g v e lt (inl low) = slice_get-set_other states (b + g) e v (λ same. omega arith)
  beside states g v e lt (inr high) = slice_get-set_other states (b + g) e v (λ same. omega arith)

  -- the cells after a symbol was written under the head
  rewritten : (u : ℕ) → u < z → ShowsAt m l t (slice_set s.states (b + h) (z + u)) (write tape u)
  rewritten u small =
      written-shows b z left right n count s.states (slice_set s.states (b + h) (z + u)) tape u shows small
      (marked bounded k quiet_test b n z reply row quiet s.states h (symbol_in left tape) holds u
      (symbol_in left (write tape u)) small (written_here left right tape u shows.head)
      (λ p ne. written_beside left right tape u p shows.head ne))

  -- there and back is within two moves of each cell
  few_back : 2 * h + 1 ≤ 2 * n
  few_back = let head = holds.head in omega arith

  -- the cells after the head moved to cell g
  reheaded : (g : ℕ) (way : Shift) → g < n → g ≢ h → moved tape.head way ≡ pos g -ℤ pos left
      → ShowsAt m l t (rehead bounded k quiet_test b n z reply row quiet s.states h (symbol_in left tape) holds g)
      (shift tape way)
  reheaded g way lt ne place =
      holds-shows b z left right n count (rehead bounded k quiet_test b n z reply row quiet s.states h
      (symbol_in left tape) holds g) (shift tape way) g place
      (moved_head bounded k quiet_test b n z reply row quiet s.states h (symbol_in left tape) holds g lt ne)
      shows.shown.inside shows.shown.symbols

  -- a read puts a blank under the head and answers with the symbol
  reads : s.place ≡ Enter b (line_number z Read) → Answered m l k test t s (Answer (scanned tape)) (write tape 0)
      (2 * h + 1)
  reads place =
      let under = scanned_in left right tape shows.head in
      let small : symbol_in left tape h < z = holds.small h holds.head in
      let some : 0 < z = omega arith in
      let new = slice_set s.states (b + h) (z + 0) in
      let walk = there_and_back bounded k quiet_test b n z reply row quiet s.states h (symbol_in left tape) holds Read
      (Answer (symbol_in left tape h)) (Head 0) tt tt (λ t. refl) some refl tt tt small (λ t. refl) in
      answered Read (Answer (scanned tape)) (write tape 0) (2 * h + 1) new place few_back
      (subst (λ v. Walk k quiet_test (4 * cell_size z) (2 * h + 1) (into b z s.states 0 Read)
      (situation new (Enter 0 (in_number m (to_tape t (Answer v)))))) under walk)
      (rewritten 0 some) (λ e apart. beside s.states h (z + 0) e holds.head apart)

  -- a write on a blank puts its symbol there
  writes : (u : ℕ) → u < z → scanned tape ≡ 0 → s.place ≡ Enter b (line_number z (Write u))
      → Answered m l k test t s DoneWrite (write tape u) (2 * h + 1)
  writes u small blank place =
      let under : symbol_in left tape h ≡ 0 = scanned_in left right tape shows.head ∙ blank in
      let walk = there_and_back bounded k quiet_test b n z reply row quiet s.states h (symbol_in left tape) holds
      (Write u) DoneWrite (Head u) tt small (λ t. refl) small (ap (λ x. written x u) under) tt tt tt (λ t. refl) in
      answered (Write u) DoneWrite (write tape u) (2 * h + 1) (slice_set s.states (b + h) (z + u)) place few_back walk
      (rewritten u small) (λ e apart. beside s.states h (z + u) e holds.head apart)

  -- a shift to the right within the window
  shifts_right : IsBetween left right (moved tape.head way.Right) → s.place ≡ Enter b (line_number z ShiftRight)
      → Answered m l k test t s DoneRight (shift tape way.Right) (2 * h + 3)
  shifts_right inside place =
      let at = head_place left right tape shows.head in
      let below = inside.below in
      let total = count in
      let lt : suc h < n = omega (arith, ints) in
      let apart : suc h ≢ h = λ e. omega arith in
      let there : moved tape.head way.Right ≡ pos (suc h) -ℤ pos left = omega (arith, ints) in
      let new = rehead bounded k quiet_test b n z reply row quiet s.states h (symbol_in left tape) holds (suc h) in
      let head = holds.head in
      answered ShiftRight DoneRight (shift tape way.Right) (2 * h + 3) new place (omega arith)
      (goes_right bounded k quiet_test b n z reply row quiet s.states h (symbol_in left tape) holds lt)
      (reheaded (suc h) way.Right lt apart there)
      (λ e out. beside (slice_set s.states (b + h) (symbol_in left tape h)) (suc h) (z + symbol_in left tape (suc h)) e
      lt out ∙ beside s.states h (symbol_in left tape h) e head out)

  -- a shift to the left within the window
  shifts_left : IsBetween left right (moved tape.head way.Left) → s.place ≡ Enter b (line_number z ShiftLeft)
      → Answered m l k test t s DoneLeft (shift tape way.Left) (2 * h + 1)
  shifts_left inside place =
      let at = head_place left right tape shows.head in
      let above = inside.above in
      let head = holds.head in
      let g = h - 1 in
      let is : h ≡ suc g = omega (arith, ints) in
      let lt : g < n = omega arith in
      let apart : g ≢ h = λ e. omega arith in
      let there : moved tape.head way.Left ≡ pos g -ℤ pos left = omega (arith, ints) in
      let new = rehead bounded k quiet_test b n z reply row quiet s.states h (symbol_in left tape) holds g in
      answered ShiftLeft DoneLeft (shift tape way.Left) (2 * h + 1) new place few_back
      (goes_left bounded k quiet_test b n z reply row quiet s.states h (symbol_in left tape) holds g is)
      (reheaded g way.Left lt apart there)
      (λ e out. beside (slice_set s.states (b + h) (symbol_in left tape h)) g (z + symbol_in left tape g) e lt out
      ∙ beside s.states h (symbol_in left tape h) e head out)

  -- a shift to the right out of the window
  leaves_by_right : IsBeyond left right side.Right (moved tape.head way.Right)
      → s.place ≡ Enter b (line_number z ShiftRight)
      → Departs m l k test t s tape side.Right
  leaves_by_right beyond place =
      let at = head_place left right tape shows.head in
      let total = count in
      let head = holds.head in
      let last : suc h ≡ n = omega (arith, ints) in
      let end : b + h ≡ b + (n - 1) = omega arith in
      parted ShiftRight side.Right (suc h) (b + h) (line_number z TakeRight)
      (slice_set s.states (b + h) (symbol_in left tape h)) place (omega arith)
      (ap (λ x. Left x (line_number z TakeRight)) end) (omega arith)
      (leaves_right bounded k quiet_test b n z reply row quiet s.states h (symbol_in left tape) holds last)
      (left-shows b z left right n count s.states tape way.Right shows
      (λ j low here. let past = beyond in omega (arith, ints)))
      (λ e out. beside s.states h (symbol_in left tape h) e head out)

  -- a shift to the left out of the window
  leaves_by_left : IsBeyond left right side.Left (moved tape.head way.Left)
      → s.place ≡ Enter b (line_number z ShiftLeft)
      → Departs m l k test t s tape side.Left
  leaves_by_left beyond place =
      let at = head_place left right tape shows.head in
      let head = holds.head in
      let first : h ≡ 0 = omega (arith, ints) in
      let end : b + 0 ≡ b = omega arith in
      parted ShiftLeft side.Left (suc h) (b + 0) (line_number z TakeLeft)
      (slice_set s.states (b + h) (symbol_in left tape h)) place (omega arith)
      (ap (λ x. Left x (line_number z TakeLeft)) end) (omega arith)
      (leaves_left bounded k quiet_test b n z reply row quiet s.states h (symbol_in left tape) holds first)
      (left-shows b z left right n count s.states tape way.Left shows
      (λ j low here. let past = beyond in omega (arith, ints)))
      (λ e out. beside s.states h (symbol_in left tape h) e head out)

  -- each command that stays in the window is answered
  does : (command answer : CellLine) (after : Tape) (moves : ℕ) → Does m l t tape command answer after moves
      → s.place ≡ Enter b (line_number z command)
      → Answered m l k test t s answer after moves
  does command answer after moves (does_read isc isa ist isn) place =
      rw (isa, ist, isn) (reads (place ∙ ap (λ c. Enter b (line_number z c)) isc))
  does command answer after moves (does_write u small blank isc isa ist isn) place =
      rw (isa, ist, isn) (writes u small blank (place ∙ ap (λ c. Enter b (line_number z c)) isc))
  does command answer after moves (does_right inside isc isa ist isn) place =
      rw (isa, ist, isn) (shifts_right inside (place ∙ ap (λ c. Enter b (line_number z c)) isc))
  does command answer after moves (does_left inside isc isa ist isn) place =
      rw (isa, ist, isn) (shifts_left inside (place ∙ ap (λ c. Enter b (line_number z c)) isc))

  -- each shift that leaves it departs by the loose line
  parts : (to : Side) → IsBeyond left right to (moved tape.head (way_to to))
      → s.place ≡ Enter b (line_number z (shift_line to))
      → Departs m l k test t s tape to
  parts side.Left beyond place = leaves_by_left beyond place
  parts side.Right beyond place = leaves_by_right beyond place

-- a command to one tape walks to its head's cell and back, or leaves
pub commands-walk : CostsAreBounded → Commands
commands-walk bounded m l names k test t s tape network is_tape calm shows = (
  does bounded m l names k test t s tape network is_tape calm shows,
  λ to beyond place. (parts bounded m l names k test t s tape network is_tape calm shows to beyond place).parted,
)

-- and how far it goes until it leaves
pub departures-walk : CostsAreBounded → Departures
departures-walk bounded m l names k test t s tape network is_tape calm shows =
    parts bounded m l names k test t s tape network is_tape calm shows

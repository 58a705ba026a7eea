-- A row of cells in any circuit, and the walks of the signal along it.
use Rattle.std.specs.Prelude.{◌≡◌, ◌≢◌, ◌==◌, ◌⊎◌, ℕ, ◌+◌, ◌*◌, ◌<◌, ◌≤◌, Bool, true, false, List, Some, slice_get}
use Rattle.std.specs.Prelude.{slice_set, refl}
use Rattle.std.proofs.Common.{zero, suc, arith, sym, ap, subst, ◌∙◌, inl, inr}
use Rattle.std.proofs.lemmas.Bool.Decides.{eqb_tells}
use Rattle.std.proofs.lemmas.Option.{slice_get_within, get_or_from_slice_get}
use Rattle.std.proofs.lemmas.List.{set-get_or}
use Rattle.bn_circuits.specs.Circuits.{Circuit, place_after}
use Rattle.bn_circuits.proofs.StepLemmas.{slice_get-set_same, slice_get-set_other}
use Rattle.bn_circuits.specs.declared.place.Place.TheVariants.{Enter, Left}
use Rattle.bn_rsm.specs.Costs.{cost_by, move_cost}
use Rattle.bn_rsm.specs.Laws.{CostsAreBounded}
use Rattle.bn_network.specs.declared.cell_line.CellLine.{CellLine}
use Rattle.bn_network.specs.declared.cell_line.CellLine.TheVariants.{ShiftRight, ShiftLeft, TakeRight, DoneRight}
use Rattle.bn_network.specs.declared.cell_line.CellLine.TheVariants.{DoneLeft, TakeLeft}
use Rattle.bn_circuits.specs.Situations.{Situation, situation}
use Rattle.bn_rsm.specs.RunCosts.{step_cost}
use Rattle.bn_network.specs.Cells.{CellState, Plain, Head, cell_go, IsLineOf, cell_table, line_number, cell_line_count}
use Rattle.bn_network.specs.Cells.{state_number}
use Rattle.bn_network.specs.Networks.{cell_size, GoesRight, GoesLeft, IsReply}
use Rattle.bn_circuits.specs.Circuits.{line_at}
use Rattle.bn_cell.specs.Laws.{IsStateOf}
use Rattle.bn_cell.specs.Reversible.{line_within, state_within}
use Rattle.bn_network_laws.proofs.NumberLemmas.{table_goes}
use Rattle.bn_network_laws.proofs.WalkLemmas.{Walk, stays, steps, joins}

-- from element b on, the circuit has n cells for z symbols, in a row; `reply` says by which line of element 0 replies
-- go in
pub record IsRow (k : Circuit) (b n z : ℕ) (reply : CellLine → ℕ) : Type 0 where
  pub cells : (p : ℕ) → p < n → slice_get k.tables (b + p) ≡ Some (cell_table z)
  pub right : (p : ℕ) (c : CellLine) → suc p < n → GoesRight c → IsLineOf z c
      → place_after k.wires (line_at (b + p) (line_number z c)) ≡ Enter (b + suc p) (line_number z c)
  pub left : (p : ℕ) (c : CellLine) → suc p < n → GoesLeft c → IsLineOf z c
      → place_after k.wires (line_at (b + suc p) (line_number z c)) ≡ Enter (b + p) (line_number z c)
  pub replies : (c : CellLine) → IsReply c → IsLineOf z c → place_after k.wires (line_at (b + 0) (line_number z c))
      ≡ Enter 0 (reply c)
  pub no_left : place_after k.wires (line_at (b + 0) (line_number z TakeLeft)) ≡ Left (b + 0) (line_number z TakeLeft)
  pub no_right : (p : ℕ) → suc p ≡ n → place_after k.wires (line_at (b + p) (line_number z TakeRight))
      ≡ Left (b + p) (line_number z TakeRight)
  pub apart : 0 < b

-- the test holds wherever the signal is past the first cell, or comes back
pub record IsQuiet (test : Situation → Bool) (b n z : ℕ) : Type 0 where
  pub along : (states : List ℕ) (p : ℕ) (c : CellLine) → 0 < p → p < n
      → test (situation states (Enter (b + p) (line_number z c))) ≡ true
  pub back : (states : List ℕ) (p : ℕ) (c : CellLine) → GoesLeft c → p < n
      → test (situation states (Enter (b + p) (line_number z c))) ≡ true

-- a cell without the head passes the line on
abbrev pub IsPassed : CellLine → Type 0
IsPassed c = (t : ℕ) → cell_go (Plain t) c ≡ Some (Plain t, c)

-- the row has the head at its cell h, and these symbols
pub record Holds (states : List ℕ) (b n z h : ℕ) (symbols : ℕ → ℕ) : Type 0 where
  pub head : h < n
  pub small : (p : ℕ) → p < n → symbols p < z
  pub plain : (p : ℕ) → p < n → p ≢ h → slice_get states (b + p) ≡ Some (symbols p)
  pub headed : slice_get states (b + h) ≡ Some (z + symbols h)

-- the signal enters this cell of the row
abbrev pub into : ℕ → ℕ → List ℕ → ℕ → CellLine → Situation
into b z states p c = situation states (Enter (b + p) (line_number z c))

-- it comes out of this cell
abbrev pub out : Circuit → ℕ → ℕ → List ℕ → ℕ → CellLine → Situation
out k b z states p c = situation states (place_after k.wires (line_at (b + p) (line_number z c)))

-- a state that is put where it stands changes nothing
set_same : (s : List ℕ) (e v : ℕ) → slice_get s e ≡ Some v → slice_set s e v ≡ s
set_same s e v is =
    let here : slice_set s e v ≡ slice_set s e _ = ap (slice_set s e) (sym (get_or_from_slice_get s e v 0 is)) in
    here ∙ set-get_or s e 0

module _ (bounded : CostsAreBounded) (k : Circuit) (test : Situation → Bool) (b n z : ℕ) (reply : CellLine
    → ℕ) (row : IsRow k b n z reply) (quiet : IsQuiet test b n z) where
  -- four times a cell's elements: a move costs no more
  abbrev each : ℕ
  each = 4 * cell_size z

  -- one move of a cell
  pub moves : (states : List ℕ) (p : ℕ) (q r : CellState) (c o : CellLine) → p < n → IsStateOf z q → IsStateOf z r
      → IsLineOf z c → IsLineOf z o
      → slice_get states (b + p) ≡ Some (state_number z q) → cell_go q c ≡ Some (r, o)
      → Walk k test each 1 (into b z states p c) (out k b z (slice_set states (b + p) (state_number z r)) p o)
  moves states p q r c o lt state next line line2 is move =
      let goes = table_goes z q r c o state line move in
      let cell = row.cells p lt in
      let cost : step_cost k (into b z states p c) ≡ move_cost (2 * z) (cell_line_count z) (state_number z q)
      (line_number z c) (state_number z r) (line_number z o) = rw (is, cell)
      (ap (cost_by (2 * z) (cell_line_count z) (state_number z q) (line_number z c)) goes) in
      let cheap = (bounded (2 * z) (cell_line_count z) (state_number z q) (line_number z c) (state_number z r)
      (line_number z o) (state_within z q state) (line_within z c line) (state_within z r next)
      (line_within z o line2)).0 in
      steps k test each _ _ (record {
        element = b + p;
        input = line_number z c;
        output = line_number z o;
        before = state_number z q;
        after = state_number z r;
        enters = refl;
        has_state = is;
        moves = rw cell goes;
        states = refl;
        place = refl;
      }) (omega arith)

  -- one move that changes no cell
  pub pass : (states : List ℕ) (p t : ℕ) (c : CellLine) → p < n → t < z → IsLineOf z c
      → slice_get states (b + p) ≡ Some t → IsPassed c
      → Walk k test each 1 (into b z states p c) (out k b z states p c)
  pass states p t c lt small line is passes =
      subst (λ x. Walk k test each 1 (into b z states p c) (out k b z x p c)) (set_same states (b + p) t is)
      (moves states p (Plain t) (Plain t) c c lt small small line line is (passes t))

  -- into cell s, and to the right through d cells without the head
  pub across : (d s : ℕ) (states : List ℕ) (c : CellLine) (symbols : ℕ → ℕ) → s + d < n → GoesRight c → IsLineOf z c
      → IsPassed c
      → ((p : ℕ) → s ≤ p → p < s + d → (symbols p < z) × (slice_get states (b + p) ≡ Some (symbols p)))
      → Walk k test each d (into b z states s c) (into b z states (s + d) c)
  across zero s states c symbols lt right line passes plain =
      let same : s ≡ s + 0 = omega arith in
      subst (λ x. Walk k test each 0 (into b z states s c) (into b z states x c)) same (stays k test each _)
  across (suc d) s states c symbols lt right line passes plain =
      let all : suc s + d ≡ s + suc d = omega arith in
      let here = plain s (omega arith) (omega arith) in
      let one = pass states s (symbols s) c (omega arith) here.0 line here.1 passes in
      let one_in = subst (λ x. Walk k test each 1 (into b z states s c) (situation states x))
      (row.right s c (omega arith) right line) one in
      let more = across d (suc s) states c symbols (omega arith) right line passes
      (λ p low high. plain p (omega arith) (omega arith)) in
      subst (λ x. Walk k test each (suc d) (into b z states s c) (into b z states x c)) all
      (joins k test each 1 d (suc d) _ _ _ (omega arith) (λ a e. quiet.along states (suc s) c (omega arith)
      (omega arith)) one_in more)

  -- out of a cell to the left the test holds
  between : (d : ℕ) (states : List ℕ) (c : CellLine) → d < n → GoesLeft c → IsLineOf z c → 0 < d
      → test (out k b z states d c) ≡ true
  between zero states c lt left line some = absurd (omega arith)
  between (suc d) states c lt left line some = ap (λ x. test (situation states x)) (row.left d c lt left line)
      ∙ quiet.back states d c left (omega arith)

  -- out of cell d, and to the left through d cells without the head, to the first one's left
  pub returns : (d : ℕ) (states : List ℕ) (c : CellLine) (symbols : ℕ → ℕ) → d < n → GoesLeft c → IsLineOf z c
      → IsPassed c
      → ((p : ℕ) → p < d → (symbols p < z) × (slice_get states (b + p) ≡ Some (symbols p)))
      → Walk k test each d (out k b z states d c) (out k b z states 0 c)
  returns zero states c symbols lt left line passes plain = stays k test each _
  returns (suc d) states c symbols lt left line passes plain =
      let here = plain d (omega arith) in
      let one = pass states d (symbols d) c (omega arith) here.0 line here.1 passes in
      let more = returns d states c symbols (omega arith) left line passes (λ p low. plain p (omega arith)) in
      subst (λ x. Walk k test each (suc d) (situation states x) (out k b z states 0 c))
      (sym (row.left d c lt left line))
      (joins k test each 1 d (suc d) _ _ _ (omega arith) (λ a some. between d states c (omega arith) left line some) one
      more)

  -- the same, and on to the control
  pub home : (d : ℕ) (states : List ℕ) (c : CellLine) (symbols : ℕ → ℕ) → d < n → GoesLeft c → IsReply c → IsLineOf z c
      → IsPassed c
      → ((p : ℕ) → p < d → (symbols p < z) × (slice_get states (b + p) ≡ Some (symbols p)))
      → Walk k test each d (out k b z states d c) (situation states (Enter 0 (reply c)))
  home d states c symbols lt left answers line passes plain =
      subst (λ x. Walk k test each d (out k b z states d c) (situation states x)) (row.replies c answers line)
      (returns d states c symbols lt left line passes plain)

  module _ (states : List ℕ) (h : ℕ) (symbols : ℕ → ℕ) (holds : Holds states b n z h symbols) where
    -- in at the first cell, through the cells before the head, and through the head's cell
    at_head : (c o : CellLine) (r : CellState) → GoesRight c → IsLineOf z c → IsPassed c → IsStateOf z r → IsLineOf z o
        → cell_go (Head (symbols h)) c ≡ Some (r, o)
        → Walk k test each (suc h) (into b z states 0 c) (out k b z (slice_set states (b + h) (state_number z r)) h o)
    at_head c o r right line passes next line2 move =
        let start : 0 + h ≡ h = omega arith in
        let one = subst (λ x. Walk k test each h (into b z states 0 c) (into b z states x c)) start
        (across h 0 states c symbols (omega (arith, holds.head)) right line passes
        (λ p low high. (
          holds.small p (omega (arith, holds.head)),
          holds.plain p (omega (arith, holds.head)) (λ e. omega arith),
        ))) in
        let two = moves states h (Head (symbols h)) r c o holds.head (holds.small h holds.head) next line line2
        holds.headed move in
        joins k test each h 1 (suc h) _ _ _ (omega arith) (λ some more. quiet.along states h c some holds.head) one two

    -- the cells before the head are as they were, after the head's cell changed
    before : (v : ℕ) (p : ℕ) → p < h → (symbols p < z) × (slice_get (slice_set states (b + h) v) (b + p)
        ≡ Some (symbols p))
    before v p lt = (
      holds.small p (omega (arith, holds.head)),
      slice_get-set_other states (b + h) (b + p) v
          (λ e. omega arith) ∙ holds.plain p (omega (arith, holds.head)) (λ e. omega arith),
    )

    -- to the head's cell and back to the control
    pub there_and_back : (c o : CellLine) (r : CellState) → GoesRight c → IsLineOf z c → IsPassed c → IsStateOf z r
        → cell_go (Head (symbols h)) c ≡ Some (r, o)
        → GoesLeft o → IsReply o → IsLineOf z o → IsPassed o
        → Walk k test each (2 * h + 1) (into b z states 0 c) (situation (slice_set states (b + h) (state_number z r))
        (Enter 0 (reply o)))
    there_and_back c o r right line passes next move left answers line2 passes2 =
        let new = slice_set states (b + h) (state_number z r) in
        joins k test each (suc h) h (2 * h + 1) _ _ _ (omega arith)
        (λ a some. between h new o holds.head left line2 some)
        (at_head c o r right line passes next line2 move)
        (home h new o symbols holds.head left answers line2 passes2 (before (state_number z r)))

    -- the states after the head left its cell
    abbrev pub headless : List ℕ
    headless = slice_set states (b + h) (symbols h)

    -- the states after the head came to cell g
    abbrev pub rehead : ℕ → List ℕ
    rehead g = slice_set headless (b + g) (z + symbols g)

    -- the cells other than those two are as they were
    taken : (g p : ℕ) → p < n → p ≢ h → slice_get headless (b + p) ≡ Some (symbols p)
    taken g p lt ne = slice_get-set_other states (b + h) (b + p) (symbols h) (λ e. ne (omega arith))
        ∙ holds.plain p lt ne

    -- the head at its new cell
    pub moved_head : (g : ℕ) → g < n → g ≢ h → Holds (rehead g) b n z g symbols
    moved_head g lt ne = record {
      head = lt;
      small = holds.small;
      plain = λ p small apart. slice_get-set_other headless (b + g) (b + p) (z + symbols g) (λ e. apart (omega arith))
          ∙ by_cell p small (eqb_tells p h);
      headed = slice_get-set_same headless (b + g) (z + symbols g)
          (slice_get_within headless (b + g) (symbols g) (taken g g lt ne));
    }
      where
        by_cell : (p : ℕ) → p < n → ((p == h) ≡ true) × (p ≡ h) ⊎ ((p == h) ≡ false) × (p ≢ h)
            → slice_get headless (b + p) ≡ Some (symbols p)
        by_cell p small (inl same) = subst (λ x. slice_get headless (b + x) ≡ Some (symbols x)) (sym same.1)
            (slice_get-set_same states (b + h) (symbols h) (slice_get_within states (b + h) (z + symbols h)
            holds.headed))
        by_cell p small (inr other) = taken g p small other.1

    -- another symbol under the head
    pub marked : (u : ℕ) (others : ℕ → ℕ) → u < z → others h ≡ u → ((p : ℕ) → p ≢ h → others p ≡ symbols p)
        → Holds (slice_set states (b + h) (z + u)) b n z h others
    marked u others small here beside = record {
      head = holds.head;
      small = λ p lt. by_cell p lt (eqb_tells p h);
      plain = λ p lt ne. slice_get-set_other states (b + h) (b + p) (z + u) (λ e. ne (omega arith))
          ∙ holds.plain p lt ne ∙ ap (λ x. Some x) (sym (beside p ne));
      headed = slice_get-set_same states (b + h) (z + u) (slice_get_within states (b + h) (z + symbols h) holds.headed)
          ∙ ap (λ x. Some (z + x)) (sym here);
    }
      where
        by_cell : (p : ℕ) → p < n → ((p == h) ≡ true) × (p ≡ h) ⊎ ((p == h) ≡ false) × (p ≢ h) → others p < z
        by_cell p lt (inl same) = let at_h : others p ≡ u = ap others same.1 ∙ here in omega arith
        by_cell p lt (inr other) = let same = beside p other.1 in let less = holds.small p lt in omega arith

    -- a shift of the head to the right
    pub goes_right : suc h < n → Walk k test each (2 * h + 3) (into b z states 0 ShiftRight)
        (situation (rehead (suc h)) (Enter 0 (reply DoneRight)))
    goes_right lt =
        let apart : suc h ≢ h = λ e. omega arith in
        let now = moved_head (suc h) lt apart in
        let small = holds.small h holds.head in
        let one = subst (λ x. Walk k test each (suc h) (into b z states 0 ShiftRight) (situation headless x))
        (row.right h TakeRight lt tt tt) (at_head ShiftRight TakeRight (Plain (symbols h)) tt tt (λ t. refl) small
        tt refl) in
        let two = moves headless (suc h) (Plain (symbols (suc h))) (Head (symbols (suc h))) TakeRight DoneRight lt
        (holds.small (suc h) lt) (holds.small (suc h) lt) tt tt (taken (suc h) (suc h) lt apart) refl in
        let three = home (suc h) (rehead (suc h)) DoneRight symbols lt tt tt tt (λ t. refl)
        (λ p low. (holds.small p (omega arith), now.plain p (omega arith) (λ e. omega arith))) in
        joins k test each (suc h) (suc h + 1) (2 * h + 3) _ _ _ (omega arith)
        (λ x y. quiet.along headless (suc h) TakeRight (omega arith) lt) one
        (joins k test each 1 (suc h) (suc h + 1) _ _ _ (omega arith)
        (λ x some. between (suc h) (rehead (suc h)) DoneRight lt tt tt some) two three)

    -- a shift of the head to the left
    pub goes_left : (g : ℕ) → h ≡ suc g → Walk k test each (2 * h + 1) (into b z states 0 ShiftLeft)
        (situation (rehead g) (Enter 0 (reply DoneLeft)))
    goes_left g is =
        let head = holds.head in
        let lt : g < n = omega arith in
        let more : suc g < n = omega arith in
        let apart : g ≢ h = λ e. omega arith in
        let now = moved_head g lt apart in
        let small = holds.small h holds.head in
        let going : place_after k.wires (line_at (b + h) (line_number z TakeLeft))
        ≡ Enter (b + g) (line_number z TakeLeft) = ap (λ x. place_after k.wires
        (line_at (b + x) (line_number z TakeLeft))) is ∙ row.left g TakeLeft more tt tt in
        let one = subst (λ x. Walk k test each (suc h) (into b z states 0 ShiftLeft) (situation headless x)) going
        (at_head ShiftLeft TakeLeft (Plain (symbols h)) tt tt (λ t. refl) small tt refl) in
        let two = moves headless g (Plain (symbols g)) (Head (symbols g)) TakeLeft DoneLeft lt (holds.small g lt)
        (holds.small g lt) tt tt (taken g g lt apart) refl in
        let three = home g (rehead g) DoneLeft symbols lt tt tt tt (λ t. refl)
        (λ p low. (holds.small p (omega arith), now.plain p (omega arith) (λ e. omega arith))) in
        joins k test each (suc h) (g + 1) (2 * h + 1) _ _ _ (omega arith) (λ x y. quiet.back headless g TakeLeft tt lt)
        one
        (joins k test each 1 g (g + 1) _ _ _ (omega arith) (λ x some. between g (rehead g) DoneLeft lt tt tt some) two
        three)

    -- a shift to the right from the last cell leaves
    pub leaves_right : suc h ≡ n → Walk k test each (suc h) (into b z states 0 ShiftRight)
        (situation headless (Left (b + h) (line_number z TakeRight)))
    leaves_right last = subst (λ x. Walk k test each (suc h) (into b z states 0 ShiftRight) (situation headless x))
        (row.no_right h last) (at_head ShiftRight TakeRight (Plain (symbols h)) tt tt (λ t. refl)
        (holds.small h holds.head) tt refl)

    -- a shift to the left from the first cell leaves
    pub leaves_left : h ≡ 0 → Walk k test each (suc h) (into b z states 0 ShiftLeft)
        (situation headless (Left (b + 0) (line_number z TakeLeft)))
    leaves_left first =
        let gone : place_after k.wires (line_at (b + h) (line_number z TakeLeft))
        ≡ Left (b + 0) (line_number z TakeLeft) = ap (λ x. place_after k.wires
        (line_at (b + x) (line_number z TakeLeft))) first ∙ row.no_left in
        subst (λ x. Walk k test each (suc h) (into b z states 0 ShiftLeft) (situation headless x)) gone
        (at_head ShiftLeft TakeLeft (Plain (symbols h)) tt tt (λ t. refl) (holds.small h holds.head) tt refl)

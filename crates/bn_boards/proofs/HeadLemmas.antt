-- Never two heads on a tape.
use Rattle.std.specs.Prelude.{◌≡◌, ◌≢◌, ℕ, ◌+◌, ◌*◌, ◌<◌, ◌≤◌, ℤ, pos, ◌-ℤ◌, List, Option, Some, None, slice_get, refl}
use Rattle.std.specs.Prelude.{◌⊎◌}
use Rattle.std.specs.Ordering.{int_eq}
use Rattle.std.proofs.Common.{zero, suc, arith, sym, ap, subst, ◌∙◌, inl, inr}
use Rattle.std.proofs.lemmas.Bool.Decides.{eqb_tells, Decides-int_eq}
use Rattle.std.proofs.lemmas.Int.{ints}
use Rattle.std.proofs.lemmas.Option.{same_Some}
use Rattle.bn_lists.specs.Runs.{Reaches}
use Rattle.bn_lists.proofs.RunsLemmas.{runs_more}
use Rattle.bn_circuits.specs.Circuits.{Circuit, clock}
use Rattle.bn_circuits.proofs.StepLemmas.{slice_get-set_other}
use Rattle.bn_circuits.specs.Stepping.{run}
use Rattle.bn_circuits.specs.declared.place.Place.TheVariants.{Enter}
use Rattle.bn_circuits.specs.declared.config.Config.{Config}
use Rattle.bn_element.specs.Rotary.{horizontal}
use Rattle.bn_machine.specs.Tape.{Tape, cell}
use Rattle.bn_machine.specs.Outcome.{Limits}
use Rattle.bn_quad.specs.Quadruples.{Configuration, Quadruples}
use Rattle.bn_realise.specs.Banks.{AreMarked, bottom_at}
use Rattle.bn_circuits.specs.Situations.{Situation, Turns, IsAtEnd}
use Rattle.bn_rsm.specs.RunCosts.{run_cost}
use Rattle.bn_network.specs.Cells.{cell_table, state_number, cell_line_count}
use Rattle.bn_network.specs.Controls.{ControlState, symbol_count}
use Rattle.bn_network.specs.Networks.{IsNetwork, IsTape, ShowsTape, ShowsTapes, cell_of, cells_in, first_cell, left_of}
use Rattle.bn_network.specs.Networks.{network_start}
use Rattle.bn_network.specs.Moments.{HasHeads}
use Rattle.bn_network_laws.specs.NetworkLaws.{HeadsStayOne}
use Rattle.bn_boards.specs.Boards.{AreModules, IsBoard, StandsFor, base}
use Rattle.bn_boards.proofs.MarkLemmas.{apart_throughout, stands_mark, marked_is}
use Rattle.bn_boards.proofs.StartingLemmas.{has_head}

-- ---- states before a move and after it

-- a module that isn't entered keeps its state
state_kept : (n : Circuit) (s u : Situation) (g : Turns n s u) (m : ℕ) → m ≢ g.element
    → slice_get u.states m ≡ slice_get s.states m
state_kept n s u g m apart = ap (λ (xs : List ℕ). slice_get xs m) g.states
    ∙ slice_get-set_other s.states g.element m g.after apart

-- two modules' states, one before a move and one after it, stand together before it or after it
together : (n : Circuit) (s u : Situation) (m k i j : ℕ) → Turns n s u ⊎ (s ≡ u) → m ≢ k → slice_get s.states m ≡ Some i
    → slice_get u.states k ≡ Some j
    → (slice_get s.states k ≡ Some j) ⊎ (slice_get u.states m ≡ Some i)
together n s u m k i j (inr same) apart first second = inl (subst (λ (x : Situation). slice_get x.states k ≡ Some j)
    (sym same) second)
together n s u m k i j (inl g) apart first second =
    elim (eqb_tells k g.element) [
      | inl is ↦ inr (state_kept n s u g m (λ h. apart (h ∙ sym is.1)) ∙ first)
      | inr other ↦ inl (sym (state_kept n s u g k other.1) ∙ second)
    ]

-- a mark within a move is a state before it or after it
mark_of : (mark old new : Option ℕ) (i : ℕ) → mark ≡ Some i → ((mark ≡ old) ⊎ (mark ≡ new)) ⊎ (mark ≡ None)
    → (old ≡ Some i) ⊎ (new ≡ Some i)
mark_of mark old new i is (inl (inl before)) = inl (sym before ∙ is)
mark_of mark old new i is (inl (inr after)) = inr (sym after ∙ is)
mark_of mark old new i is (inr gone) = absurd (let h : Some i ≡ None = sym is ∙ gone in cc)

-- ---- the heads at the start

-- the right side of a tape's window
abbrev right_of : Limits → ℕ → ℕ
right_of l zero = 0
right_of l (suc zero) = l.right
right_of l (suc (suc zero)) = l.steps
right_of l (suc (suc (suc t))) = l.output

-- a tape of a configuration
abbrev tape_of : Configuration ℕ → ℕ → Tape
tape_of c zero = c.one
tape_of c (suc zero) = c.one
tape_of c (suc (suc zero)) = c.two
tape_of c (suc (suc (suc t))) = c.three

-- one tape of those that are shown
one_shown : (m : Quadruples) (l : Limits) (states : List ℕ) (c : Configuration ℕ) (t : ℕ) → 0 < t → t ≤ 3
    → ShowsTapes m l states c
    → (cells_in l t ≡ left_of l t + right_of l t + 1) × ShowsTape states (first_cell l t) (symbol_count m t)
    (left_of l t) (right_of l t) (tape_of c t)
one_shown m l states c zero low high shows = absurd (omega arith)
one_shown m l states c (suc zero) low high shows = (refl, shows.one)
one_shown m l states c (suc (suc zero)) low high shows = (omega arith, shows.two)
one_shown m l states c (suc (suc (suc zero))) low high shows = (omega arith, shows.three)
one_shown m l states c (suc (suc (suc (suc t)))) low high shows = absurd (omega arith)

-- and it stands where the tape's head is
head_place : (states : List ℕ) (first z left right : ℕ) (tape : Tape) → ShowsTape states first z left right tape
    → (p i : ℕ) → p < left + right + 1
    → slice_get states (first + p) ≡ Some i → z ≤ i → pos p -ℤ pos left ≡ tape.head
head_place states first z left right tape shows p i low is high =
    let same : state_number z (cell_of tape (pos p -ℤ pos left)) ≡ i =
    same_Some _ _ (sym (shows.shown.cells p low) ∙ is) in
    let told = has_head z (cell tape (pos p -ℤ pos left)) (int_eq (pos p -ℤ pos left) tape.head)
    (shows.shown.symbols (pos p -ℤ pos left)) (subst (λ v. z ≤ v) (sym same) high) in
    (Decides-int_eq (pos p -ℤ pos left) tape.head).0 told

-- two places with one head are one
one_place : (p q left : ℕ) (x : ℤ) → pos p -ℤ pos left ≡ x → pos q -ℤ pos left ≡ x → p ≡ q
one_place p q left x first second = omega (arith, ints)

-- no cell is the control
first_some : (l : Limits) (t : ℕ) → 0 < t → t ≤ 3 → 0 < first_cell l t
first_some l zero low high = absurd (omega arith)
first_some l (suc zero) low high = omega arith
first_some l (suc (suc zero)) low high = omega arith
first_some l (suc (suc (suc zero))) low high = omega arith
first_some l (suc (suc (suc (suc t)))) low high = absurd (omega arith)

-- the first move is the control's, so that the cells at the start are those of the first moment
pub heads_at_start : (m : Quadruples) (l : Limits) (word : List ℕ) (names : List ControlState) (n : Circuit)
    (s : Situation) (c : Configuration ℕ)
    → Turns n (network_start m l word) s → ShowsTapes m l s.states c → HasHeads m l (network_start m l word)
heads_at_start m l word names n s c g shows =
    record {
      one = λ t p q i j tape here there is other low high.
          let shown = one_shown m l s.states c t tape.low tape.high shows in
          let count = shown.0 in
          one_place p q (left_of l t) (tape_of c t).head
          (head_place s.states (first_cell l t) (symbol_count m t) (left_of l t) (right_of l t) (tape_of c t) shown.1 p
          i (omega arith) (kept t p tape ∙ is) low)
          (head_place s.states (first_cell l t) (symbol_count m t) (left_of l t) (right_of l t) (tape_of c t) shown.1 q
          j (omega arith) (kept t q tape ∙ other) high);
      carried = λ t p q i tape here there place has. absurd (elim place [
        | inl at_right ↦ (let e : 0 ≡ first_cell l t + p = (let h : Enter 0 0 ≡ Enter _ _ = at_right in cc) in let
            some = first_some l t tape.low tape.high in omega arith)
        | inr at_left ↦ (let e : 0 ≡ first_cell l t + p = (let h : Enter 0 0 ≡ Enter _ _ = at_left in cc) in let
            some = first_some l t tape.low tape.high in omega arith)
      ]);
    }
  where
    -- the control's move changes no cell
    kept : (t p : ℕ) → IsTape t → slice_get s.states (first_cell l t + p)
        ≡ slice_get (network_start m l word).states (first_cell l t + p)
    kept t p tape =
        let control : 0 ≡ g.element = (let h : Enter 0 0 ≡ Enter g.element g.input = g.enters in cc) in
        let some = first_some l t tape.low tape.high in
        state_kept n (network_start m l word) s g (first_cell l t + p) (λ h. omega arith)

-- one head a tape stays on the way
pub heads_along : HeadsStayOne → (m : Quadruples) (l : Limits) (names : List ControlState) (n : Circuit)
    → IsNetwork m l names n → (i : ℕ) (s x : Situation)
    → HasHeads m l s → Reaches (Turns n) i s x → HasHeads m l x
heads_along stay m l names n network zero s x has path = subst (HasHeads m l) path has
heads_along stay m l names n network (suc i) s x has path = heads_along stay m l names n network i path.0 x
    (stay m l names n s path.0 network has path.1) path.2

-- ---- on the board

module _ (m : Quadruples) (l : Limits) (n k : Circuit) (modules : AreModules n) (board : IsBoard n k)
    (start : Situation) (c : Config) (stands : StandsFor n start c) (moves cost : ℕ) (last : Situation)
    (path : Reaches (Turns n) moves start last) (ended : IsAtEnd n last) (is : cost ≡ run_cost n (moves + 1) start)
    (room : c.steps + cost ≤ clock)
    (heads : (i : ℕ) (x : Situation) → Reaches (Turns n) i start x → HasHeads m l x) where
  module _ (tape p q i j : ℕ) (tape_is : IsTape tape) (here : p < cells_in l tape) (there : q < cells_in l tape)
      (headed : symbol_count m tape ≤ i) (within : i < 2 * symbol_count m tape) (headed' : symbol_count m tape ≤ j)
      (within' : j < 2 * symbol_count m tape)
      (has : slice_get n.tables (first_cell l tape + p) ≡ Some (cell_table (symbol_count m tape)))
      (other : slice_get n.tables (first_cell l tape + q) ≡ Some (cell_table (symbol_count m tape))) where
    -- the tape's number of symbols, and the modules of its two cells
    abbrev z : ℕ
    z = symbol_count m tape

    abbrev first : ℕ
    first = first_cell l tape + p

    abbrev second : ℕ
    second = first_cell l tape + q

    -- a bottom that lies flat is that of the cell's mark
    found_mark : (states : List ℕ) (e x : ℕ) (mark : Option ℕ) → x < 2 * z
        → AreMarked states (base n.tables e) (2 * z) (cell_line_count z) mark
        → slice_get states (bottom_at (base n.tables e) (cell_line_count z) x) ≡ Some horizontal → mark ≡ Some x
    found_mark states e x mark within marked lies = marked_is states (base n.tables e) (2 * z) (cell_line_count z) mark
        x marked within lies

    -- both heads in one situation
    in_one : (s : Situation) → HasHeads m l s → slice_get s.states first ≡ Some i → slice_get s.states second ≡ Some j
        → p ≡ q
    in_one s has a b = has.one tape p q i j tape_is here there a b headed headed'

    -- the heads after a move
    heads_after : (v : ℕ) (s w : Situation) → Reaches (Turns n) v start s → Turns n s w ⊎ (s ≡ w) → HasHeads m l w
    heads_after v s w r (inl g) = heads (v + 1) w (runs_more (Turns n) v start s w r g)
    heads_after v s w r (inr same) = subst (HasHeads m l) same (heads v s r)

    -- both heads in a move from s to w
    in_either : (v : ℕ) (s w : Situation) → Reaches (Turns n) v start s → Turns n s w ⊎ (s ≡ w) → first ≢ second
        → (slice_get s.states first ≡ Some i) ⊎ (slice_get w.states first ≡ Some i)
        → (slice_get s.states second ≡ Some j) ⊎ (slice_get w.states second ≡ Some j) → p ≡ q
    in_either v s w r g apart (inl a) (inl b) = in_one s (heads v s r) a b
    in_either v s w r g apart (inr a) (inr b) = in_one w (heads_after v s w r g) a b
    in_either v s w r g apart (inl a) (inr b) =
        elim (together n s w first second i j g apart a b) [
          | inl before ↦ in_one s (heads v s r) a before
          | inr after ↦ in_one w (heads_after v s w r g) after b
        ]
    in_either v s w r g apart (inr a) (inl b) =
        elim (together n s w second first j i g (λ h. apart (sym h)) b a) [
          | inl before ↦ in_one s (heads v s r) before b
          | inr after ↦ in_one w (heads_after v s w r g) a after
        ]

    -- a mark at the loose line is a state before
    at_end : (mark old : Option ℕ) (x : ℕ) → mark ≡ Some x → (mark ≡ old) ⊎ (mark ≡ None) → old ≡ Some x
    at_end mark old x is (inl kept) = sym kept ∙ is
    at_end mark old x is (inr gone) = absurd (let h : Some x ≡ None = sym is ∙ gone in cc)

    -- two cells of a tape never show a head at one step
    pub one_head : (t : ℕ) → t ≤ cost
        → slice_get (run k c t).states (bottom_at (base n.tables (first_cell l tape + p))
        (cell_line_count (symbol_count m tape)) i) ≡ Some horizontal
        → slice_get (run k c t).states (bottom_at (base n.tables (first_cell l tape + q))
        (cell_line_count (symbol_count m tape)) j) ≡ Some horizontal → p ≡ q
    one_head t low flat flat' =
        elim (eqb_tells p q) [
          | inl same ↦ same.1
          | inr apart ↦
              absurd (apart_throughout n k modules board start c stands moves cost last path ended is room
              (bottom_at (base n.tables first) (cell_line_count z) i)
              (bottom_at (base n.tables second) (cell_line_count z) j)
              (λ v s d r at a b.
              let one = stands_mark n k modules board start c stands moves cost last path ended is room s d at first
              (cell_table z) has in
              let two = stands_mark n k modules board start c stands moves cost last path ended is room s d at second
              (cell_table z) other in
              apart.1 (in_one s (heads v s r) (one.1 ∙ found_mark d.states first i (Some one.0) within one.2 a)
              (two.1 ∙ found_mark d.states second j (Some two.0) within' two.2 b)))
              (λ v s w d r g at a b.
              let one = at.mark first (cell_table z) has in
              let two = at.mark second (cell_table z) other in
              apart.1 (in_either v s w r g (λ h. apart.1 (omega arith))
              (mark_of one.0 (slice_get s.states first) (slice_get w.states first) i
              (found_mark d.states first i one.0 within one.1 a) one.2)
              (mark_of two.0 (slice_get s.states second) (slice_get w.states second) j
              (found_mark d.states second j two.0 within' two.1 b) two.2)))
              (λ d at a b.
              let one = at.mark first (cell_table z) has in
              let two = at.mark second (cell_table z) other in
              apart.1 (in_one last (heads moves last path)
              (at_end one.0 (slice_get last.states first) i (found_mark d.states first i one.0 within one.1 a) one.2)
              (at_end two.0 (slice_get last.states second) j (found_mark d.states second j two.0 within' two.1 b)
              two.2)))
              t low flat flat')
        ]

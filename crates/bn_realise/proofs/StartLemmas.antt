-- The bars of a bank at rest, and the moves of a bank by itself.
use Rattle.std.proofs.Common.{◌≡◌, ◌≢◌, ℕ, zero, suc, ◌+◌, ◌-◌, ◌*◌, ◌<◌, ◌≤◌, ◌==◌, Bool, true, false, List, length}
use Rattle.std.proofs.Common.{replicate, Option, Some, None, slice_get, slice_set, refl, sym, ap, subst, ◌∙◌, arith}
use Rattle.std.proofs.Common.{◌⊎◌, inl, inr, length-set}
use Rattle.std.proofs.lemmas.Bool.Decides.{eqb_tells}
use Rattle.std.proofs.lemmas.List.{length-replicate}
use Rattle.std.proofs.lemmas.Option.{slice_get_within}
use Rattle.bn_lists.specs.Runs.{Reaches, Passes}
use Rattle.bn_lists.proofs.RunsLemmas.{passes_run}
use Rattle.bn_element.specs.Tables.{Table, IsReversible}
use Rattle.bn_circuits.specs.Circuits.{Circuit, clock, target, IsConfig, IsStuck, Goes}
use Rattle.bn_circuits.specs.Stepping.{run}
use Rattle.bn_circuits.proofs.StepLemmas.{slice_get-set_same, slice_get-set_other}
use Rattle.bn_circuits.proofs.RunLemmas.{run_stops}
use Rattle.bn_circuits.specs.declared.line.Line.{Line}
use Rattle.bn_circuits.specs.declared.place.Place.TheVariants.{Enter, Left}
use Rattle.bn_circuits.specs.declared.config.Config.{Config}
use Rattle.bn_element.specs.Rotary.{horizontal, vertical, east, west}
use Rattle.bn_element.specs.declared.rotary.Rotary.{Rotary}
use Rattle.bn_circuits.specs.Parts.{Parts}
use Rattle.bn_column.specs.Columns.{bar}
use Rattle.bn_circuits.specs.Circuits.{line_at}
use Rattle.bn_column.proofs.CrossingLemmas.{Reaches-steps}
use Rattle.bn_circuits.specs.RotaryNets.{rotary_circuit}
use Rattle.bn_circuits.proofs.RotaryNetLemmas.{bars-IsConfig, rotary-table_at}
use Rattle.bn_column.proofs.NetLemmas.{ran}
use Rattle.bn_rsm.specs.Costs.{cost_by, loose_cost, move_cost, table_cost}
use Rattle.bn_rsm.specs.Laws.{CostsAreBounded}
use Rattle.bn_realise.specs.Banks.{column_at, bottom_at, IsBankWire, across, turning_line, IsResting, IsBank}
use Rattle.bn_realise.specs.Banks.{IsBankEntering, exit_after, moved}
use Rattle.bn_realise.proofs.BankCrossingLemmas.{later_column, other_column, bank_crosses}
use Rattle.bn_realise.proofs.BankWiresLemmas.{column_once, output-no_wire, turning-wire}
use Rattle.bn_realise.specs.BankNets.{CanMove, IsMove, IsBankNet, Banked, IsBankOf, IsSomeBank, IsReadyBank, HasLeft}
use Rattle.bn_circuits.specs.declared.net.TheConstants.{MOST_ELEMENTS}
use Rattle.bn_circuits.proofs.WiringsLemmas.{none_of}

-- the bars of one bank at rest
abbrev pub resting : ℕ → ℕ → ℕ → List ℕ
resting n k q = slice_set (replicate (n * (k + 1)) vertical) (bottom_at 0 k q) horizontal

replicate-get : (n v e : ℕ) → e < n → slice_get (replicate n v) e ≡ Some v
replicate-get zero v e within = absurd (omega arith)
replicate-get (suc n) v zero within = refl
replicate-get (suc n) v (suc e) within = replicate-get n v e (omega arith)

resting-bars : (n k q e v : ℕ) → slice_get (resting n k q) e ≡ Some v → v < 2
resting-bars n k q e v has =
    elim (eqb_tells e (bottom_at 0 k q)) [
      | inl here ↦
          (let inside = slice_get_within (resting n k q) e v has in
          let count = length-set (replicate (n * (k + 1)) vertical) (bottom_at 0 k q) horizontal in
          let written = slice_get-set_same (replicate (n * (k + 1)) vertical) (bottom_at 0 k q) horizontal (omega arith)
          in
          let at_e : slice_get (resting n k q) (bottom_at 0 k q) ≡ Some v =
          subst (λ x. slice_get (resting n k q) x ≡ Some v) here.1 has in
          let is : horizontal ≡ v = cc in
          omega arith)
      | inr other ↦
          (let kept = slice_get-set_other (replicate (n * (k + 1)) vertical) (bottom_at 0 k q) e horizontal other.1 in
          let had : slice_get (replicate (n * (k + 1)) vertical) e ≡ Some v = sym kept ∙ has in
          let inside = slice_get_within (replicate (n * (k + 1)) vertical) e v had in
          let count = length-replicate (n * (k + 1)) vertical in
          let all = replicate-get (n * (k + 1)) vertical e (omega arith) in
          let is : vertical ≡ v = cc in
          omega arith)
    ]

-- they rest in the state
pub resting-IsResting : (n k q : ℕ) → q < n → IsResting (resting n k q) 0 n k (Some q)
resting-IsResting n k q state = record { columns = λ j there. record { rows = rows j there; bottom = bottom j there } }
  where
    place : (j x : ℕ) → j < n → x ≤ k → column_at 0 k j + x < n * (k + 1)
    place j x there low = (let last = later_column 0 k j n there in omega arith)

    rows : (j : ℕ) → j < n → (x : ℕ) → x < k → slice_get (resting n k q) (column_at 0 k j + x) ≡ Some vertical
    rows j there x low = slice_get-set_other (replicate (n * (k + 1)) vertical) (bottom_at 0 k q) (column_at 0 k j + x)
        horizontal (apart j x low) ∙ replicate-get (n * (k + 1)) vertical (column_at 0 k j + x)
        (place j x there (omega arith))
      where
        apart : (j x : ℕ) → x < k → column_at 0 k j + x ≢ bottom_at 0 k q
        apart j x low same =
            elim (eqb_tells j q) [
              | inl here ↦ (let e : column_at 0 k j ≡ column_at 0 k q = ap (column_at 0 k) here.1 in absurd
                  (omega arith))
              | inr other ↦ other_column 0 k j q x k other.1 (omega arith) (omega arith) same
            ]

    bottom : (j : ℕ) → j < n → slice_get (resting n k q) (bottom_at 0 k j) ≡ Some (bar (q == j))
    bottom j there =
        elim (eqb_tells q j) [
          | inl here ↦
              (let written = slice_get-set_same (replicate (n * (k + 1)) vertical) (bottom_at 0 k q) horizontal
              (let count = length-replicate (n * (k + 1)) vertical in let low = place q k state (omega arith) in
              omega arith) in
              let at_j : slice_get (resting n k q) (bottom_at 0 k j) ≡ Some horizontal =
              subst (λ x. slice_get (resting n k q) (bottom_at 0 k x) ≡ Some horizontal) here.1 written in
              at_j ∙ ap (λ v. Some (bar v)) (sym here.0))
          | inr other ↦
              (let kept = slice_get-set_other (replicate (n * (k + 1)) vertical) (bottom_at 0 k q) (bottom_at 0 k j)
              horizontal (other_column 0 k j q k k (λ e. other.1 (sym e)) (omega arith) (omega arith)) in
              kept ∙ replicate-get (n * (k + 1)) vertical (bottom_at 0 k j) (place j k there (omega arith))
              ∙ ap (λ v. Some (bar v)) (sym other.0))
        ]

-- the start is a configuration of the bank
pub start-IsConfig : (net : Parts Rotary) (n k q i : ℕ) (s : List ℕ) → length net.elements ≡ n * (k + 1) → q < n → i < k
    → s ≡ resting n k q → IsConfig (rotary_circuit net) (record { states = s; place = Enter i west; steps = 0 })
start-IsConfig net n k q i s count state line is =
    let first = later_column 0 k q n state in
    let within : i < length net.elements = omega arith in
    let table = rotary-table_at net.elements i within in
    let length_is : length s ≡ length net.elements = ap length is
    ∙ length-set (replicate (n * (k + 1)) vertical) (bottom_at 0 k q) horizontal
    ∙ length-replicate (n * (k + 1)) vertical ∙ sym count in
    bars-IsConfig net (record { states = s; place = Enter i west; steps = 0 }) length_is
    (λ e v has. resting-bars n k q e v (subst (λ xs. slice_get xs e ≡ Some v) is has)) (rw table (omega arith))
    (omega arith)

-- the signal enters the bank there
pub start-IsBankEntering : (v : Banked) (t : Table) (q i : ℕ) (s : List ℕ) → IsBankOf v t → q < v.states → i < v.lines
    → s ≡ resting v.states v.lines q → IsBankEntering 0 t q i (record { states = s; place = Enter i west; steps = 0 })
start-IsBankEntering v t q i s is state line bars =
    let states : v.states ≡ t.states = is.states in
    let lines : v.lines ≡ t.inputs = is.lines in
    let rest : IsResting s 0 v.states v.lines (Some q) = subst (λ xs. IsResting xs 0 v.states v.lines (Some q))
    (sym bars) (resting-IsResting v.states v.lines q state) in
    record {
      state = omega arith;
      line = omega arith;
      resting = subst (λ k. IsResting s 0 t.states k (Some q)) lines
          (subst (λ n. IsResting s 0 n v.lines (Some q)) states rest);
      enters = let e : i ≡ 0 + i = omega arith in ap (λ x. Enter x west) e;
    }

-- a run of the move's steps to the move's end is the move
move_made : (k : Circuit) (b : ℕ) (t : Table) (q i made : ℕ) (c end : Config) → IsReversible t → t.outputs ≡ t.inputs
    → IsBank k b t → IsBankEntering b t q i c → c.steps + table_cost t q i ≤ clock → end ≡ moved k b t q i c
    → made ≡ table_cost t q i → Reaches (Goes k) made c end → IsMove k b t q i made c end
move_made k b t q i made c end reversible square bank entering in_time ends cost counted =
    record {
      cost = cost;
      made = counted;
      ends = ends;
      between = λ test holds.
          let path = bank_crosses k b t q i c test reversible square bank entering in_time holds in
          subst (λ n. Passes (Goes k) test n c end) (sym cost) (subst (λ d. Passes (Goes k) test (table_cost t q i) c d)
          (sym ends) path);
    }

-- ---- a bank by itself runs to its exit

pub stuck_outside : (k : Circuit) (d : Config) (e l : ℕ) → d.place ≡ Left e l → IsStuck k d
stuck_outside k d e l left x goes = (let enters = goes.crosses.enters in cc)

-- no wire of a bank by itself leaves where the signal comes out
exit-loose : (net : Parts Rotary) (t : Table) (q i : ℕ) (c : Config) → IsReversible t → t.outputs ≡ t.inputs
    → IsBankNet net t → IsBankEntering 0 t q i c → target net.wires (exit_after 0 t q i (t.go q i)) ≡ None
exit-loose net t q i c reversible square is entering =
    let exit = exit_after 0 t q i (t.go q i) in
    none_of (target net.wires exit) (λ to h. no_wire (t.go q i) refl to (is.no_others exit to h))
  where
    no_wire : (m : Option (ℕ × ℕ)) → t.go q i ≡ m → (to : Line) → IsBankWire 0 t (exit_after 0 t q i m) to → ⊥
    no_wire None goes to own = (let turned = turning-wire 0 t reversible square q i to entering.line own in let
        some = turned.goes in absurd (cc))
    no_wire (Some m) goes to own =
        let arrives = reversible.arrives q i m.0 m.1 goes in
        output-no_wire 0 t reversible square m.1 to (subst (λ n. m.1 < n) square arrives.1) own

pub bank_ran : (net : Parts Rotary) (t : Table) (q i made : ℕ) (c end : Config) → IsReversible t → t.outputs ≡ t.inputs
    → IsBankNet net t → IsBankEntering 0 t q i c → c.steps + table_cost t q i ≤ clock
    → end ≡ run (rotary_circuit net) c clock → Reaches (Goes (rotary_circuit net)) made c end
    → IsMove (rotary_circuit net) 0 t q i made c end
bank_ran net t q i made c end reversible square is entering in_time went counted =
    let k = rotary_circuit net in
    let cost : ℕ = table_cost t q i in
    let d = moved k 0 t q i c in
    let path = passes_run (Goes k) (λ _. true) cost c d (bank_crosses k 0 t q i c (λ _. true) reversible square is.bank
    entering in_time (λ x within. refl)) in
    let exit = exit_after 0 t q i (t.go q i) in
    let loose = exit-loose net t q i c reversible square is entering in
    let left : d.place ≡ Left exit.element exit.line = rw loose refl in
    let stops = run_stops k cost clock c d path (omega arith) (λ _. stuck_outside k d exit.element exit.line left) in
    let ends : end ≡ d = went ∙ stops in
    let steps : end.steps ≡ c.steps + cost = ap (λ (v : Config). v.steps) ends in
    let by_count = Reaches-steps k made c end counted in
    move_made k 0 t q i made c end reversible square is.bank entering in_time ends (omega arith) counted

-- so the signal has left by that line when the move is made
pub move-left : (net : Parts Rotary) (t : Table) (q i made : ℕ) (c end : Config) → IsReversible t → t.outputs ≡ t.inputs
    → IsBankNet net t → IsBankEntering 0 t q i c → IsMove (rotary_circuit net) 0 t q i made c end
    → HasLeft end.place (exit_after 0 t q i (t.go q i))
move-left net t q i made c end reversible square is entering move =
    let loose = exit-loose net t q i c reversible square is entering in
    let there : end.place ≡ (moved (rotary_circuit net) 0 t q i c).place = ap (λ (v : Config). v.place) move.ends in
    there ∙ rw loose refl

-- ---- a net is the bank of one table

same_pair : (r o s p : ℕ) (m : Option (ℕ × ℕ)) → r ≡ s → o ≡ p → m ≡ Some (s, p) → m ≡ Some (r, o)
same_pair r o s p m first second is = is ∙ ap (λ n. Some (n, p)) (sym first) ∙ ap (λ n. Some (r, n)) (sym second)

goes_too : (net : Parts Rotary) (t u : Table) → IsReversible t → IsReversible u → t.outputs ≡ t.inputs
    → u.outputs ≡ u.inputs → IsBankNet net t → IsBankNet net u → u.inputs ≡ t.inputs → (q i r o : ℕ)
    → t.go q i ≡ Some (r, o) → u.go q i ≡ Some (r, o)
goes_too net t u reversible reversible_too square square_too is is_too lines q i r o goes =
    let departs = reversible.departs q i r o goes in
    let arrives = reversible.arrives q i r o goes in
    let to = line_at (column_at 0 t.inputs r + o) east in
    let leads = is.bank.wired (turning_line 0 t q i) to (across q i r o goes refl refl) in
    let own : IsBankWire 0 u (turning_line 0 u q i) to = subst
    (λ k. IsBankWire 0 u (line_at (column_at 0 k q + i) west) to) (sym lines)
    (is_too.no_others (turning_line 0 t q i) to leads) in
    let turned = turning-wire 0 u reversible_too square_too q i to (omega (arith, departs.1)) own in
    let place : column_at 0 t.inputs r + o ≡ column_at 0 u.inputs turned.next + turned.out =
    ap (λ (x : Line). x.element) turned.ends in
    let place_at : column_at 0 t.inputs r + o ≡ column_at 0 t.inputs turned.next + turned.out =
    subst (λ k. column_at 0 t.inputs r + o ≡ column_at 0 k turned.next + turned.out) lines place in
    let one = column_once 0 t.inputs r turned.next o turned.out (omega (arith, arrives.1))
    (omega (arith, turned.out_low)) place_at in
    same_pair r o turned.next turned.out (u.go q i) one.0 one.1 turned.goes

-- what is known of one table of the net is known of another
pub same_moves : (net : Parts Rotary) (t u : Table) → IsReversible t → IsReversible u → t.outputs ≡ t.inputs
    → u.outputs ≡ u.inputs → IsBankNet net t → IsBankNet net u → u.inputs ≡ t.inputs → (q i : ℕ) → t.go q i ≡ u.go q i
same_moves net t u reversible reversible_too square square_too is is_too lines q i =
    by_move (t.go q i) (u.go q i) refl refl
  where
    by_move : (m n : Option (ℕ × ℕ)) → t.go q i ≡ m → u.go q i ≡ n → t.go q i ≡ u.go q i
    by_move (Some m) n goes goes_u = goes ∙ sym (goes_too net t u reversible reversible_too square square_too is is_too
        lines q i m.0 m.1 goes)
    by_move None (Some n) goes goes_u = goes_too net u t reversible_too reversible square_too square is_too is
        (sym lines) q i n.0 n.1 goes_u ∙ sym goes_u
    by_move None None goes goes_u = goes ∙ sym goes_u

bars_tell : (m n : Bool) → ◌≡◌ {A = Option ℕ} (Some (bar m)) (Some (bar n)) → m ≡ n
bars_tell true true same = refl
bars_tell true false same = absurd (cc)
bars_tell false true same = absurd (cc)
bars_tell false false same = refl

by_tests : (q p : ℕ) → (q == q) ≡ (p == q) → (((q == q) ≡ true) × (q ≡ q)) ⊎ (((q == q) ≡ false) × (q ≢ q))
    → (((p == q) ≡ true) × (p ≡ q)) ⊎ (((p == q) ≡ false) × (p ≢ q)) → q ≡ p
by_tests q p same own (inl here) = sym here.1
by_tests q p same (inr never) other = absurd (never.1 refl)
by_tests q p same (inl own) (inr apart) = (let yes_it_is = own.0 in let no_it_is_not = apart.0 in absurd (cc))

-- the state and the line from which a bank moves are seen in its configuration
same_start : (b : ℕ) (t u : Table) (q i p x : ℕ) (c : Config) → u.states ≡ t.states → u.inputs ≡ t.inputs
    → IsBankEntering b t q i c → IsBankEntering b u p x c → (q ≡ p) × (i ≡ x)
same_start b t u q i p x c states lines first second =
    let low : q < u.states = (let there : q < t.states = first.state in omega arith) in
    let bottom = (second.resting.columns q low).bottom in
    let bottom_at_q : slice_get c.states (bottom_at b t.inputs q) ≡ Some (bar (p == q)) =
    subst (λ k. slice_get c.states (bottom_at b k q) ≡ Some (bar (p == q))) lines bottom in
    let mine : slice_get c.states (bottom_at b t.inputs q) ≡ Some (bar (q == q)) =
    (first.resting.columns q first.state).bottom in
    let enters = first.enters in
    let enters_too = second.enters in
    let line : b + i ≡ b + x = cc in
    (same_mark q p (sym mine ∙ bottom_at_q), omega arith)
  where
    same_mark : (q p : ℕ) → ◌≡◌ {A = Option ℕ} (Some (bar (q == q))) (Some (bar (p == q))) → q ≡ p
    same_mark q p same = by_tests q p (bars_tell (q == q) (p == q) same) (eqb_tells q q) (eqb_tells p q)

-- a bank by itself can make a move of some table whose bank it is
pub record CanMoveBank (v : Banked) (c : Config) : Type 0 where
  pub table : Table
  pub reversible : IsReversible table
  pub square : table.outputs ≡ table.inputs
  pub is_bank : IsBankOf v table
  pub can : CanMove 0 table c

pub bank_moved : (v : Banked) (t : Table) (q i made : ℕ) (c end : Config) → CanMoveBank v c
    → end ≡ run (rotary_circuit v.net) c clock → Reaches (Goes (rotary_circuit v.net)) made c end → IsReversible t
    → t.outputs ≡ t.inputs → IsBankOf v t → IsBankEntering 0 t q i c → IsMove (rotary_circuit v.net) 0 t q i made c end
bank_moved v t q i made c end can went counted reversible square is entering =
    let u = can.table in
    let states : u.states ≡ t.states = sym can.is_bank.states ∙ is.states in
    let lines : u.inputs ≡ t.inputs = sym can.is_bank.lines ∙ is.lines in
    let same = same_start 0 t u q i can.can.state can.can.line c states lines entering can.can.entering in
    let moves = same_moves v.net t u reversible can.reversible square can.square is.net can.is_bank.net lines q i in
    let costs : table_cost u can.can.state can.can.line ≡ table_cost t q i =
    rw (← same.0, ← same.1, states, lines, moves) refl in
    bank_ran v.net t q i made c end reversible square is.net entering
    (subst (λ n. c.steps + n ≤ clock) costs can.can.in_time) went counted

-- a bank that is ready can make a move of its table
pub ready-can : (v : Banked) (c : Config) → IsSomeBank v → IsReadyBank v c → CanMoveBank v c
ready-can v c some ready =
    let t = some.table in
    let states : v.states ≡ t.states = some.is_bank.states in
    let lines : v.lines ≡ t.inputs = some.is_bank.lines in
    let resting = subst (λ k. IsResting c.states 0 t.states k (Some ready.state)) lines
    (subst (λ n. IsResting c.states 0 n v.lines (Some ready.state)) states ready.resting) in
    let first : ready.line ≡ 0 + ready.line = omega arith in
    let entering : IsBankEntering 0 t ready.state ready.line c = record {
      state = subst (λ n. ready.state < n) states ready.some_state;
      line = subst (λ n. ready.line < n) lines ready.some_line;
      resting = resting;
      enters = ready.enters ∙ ap (λ e. Enter e west) first;
    } in
    let can : CanMove 0 t c = record {
      state = ready.state;
      line = ready.line;
      entering = entering;
      in_time = ready.in_time t some.reversible some.square some.is_bank;
    } in
    record { table = t; reversible = some.reversible; square = some.square; is_bank = some.is_bank; can = can }

-- a bank at its start is ready, since no move costs more than the clock has
pub start-ready : CostsAreBounded → (v : Banked) (q i : ℕ) (s : List ℕ) → v.states * (v.lines + 1) ≤ MOST_ELEMENTS
    → q < v.states → i < v.lines
    → s ≡ resting v.states v.lines q → IsReadyBank v (record { states = s; place = Enter i west; steps = 0 })
start-ready bounded v q i s few state line bars =
    record {
      state = q;
      line = i;
      some_state = state;
      some_line = line;
      resting = subst (λ xs. IsResting xs 0 v.states v.lines (Some q)) (sym bars)
          (resting-IsResting v.states v.lines q state);
      enters = refl;
      in_time = λ t reversible square is. let low = cost t reversible square is (t.go q i) refl in omega (arith, low);
    }
  where
    all : (t : Table) → IsBankOf v t → 4 * (t.states * (t.inputs + 1)) ≤ 16777216
    all t is =
        let at_states : t.states * (v.lines + 1) ≤ MOST_ELEMENTS =
        subst (λ n. n * (v.lines + 1) ≤ MOST_ELEMENTS) is.states few in
        let at_both : t.states * (t.inputs + 1) ≤ MOST_ELEMENTS =
        subst (λ k. t.states * (k + 1) ≤ MOST_ELEMENTS) is.lines at_states in
        omega arith

    cost : (t : Table) → IsReversible t → t.outputs ≡ t.inputs → IsBankOf v t → (m : Option (ℕ × ℕ)) → t.go q i ≡ m
        → table_cost t q i ≤ 16777216
    cost t reversible square is None goes =
        let q_low : q < t.states = subst (λ n. q < n) is.states state in
        let i_low : i < t.inputs = subst (λ n. i < n) is.lines line in
        let low = (bounded t.states t.inputs q i q i q_low i_low q_low i_low).1 in
        let most = all t is in
        let by_loose : table_cost t q i ≡ loose_cost t.inputs q i = ap (cost_by t.states t.inputs q i) goes in
        omega (arith, low, most, by_loose)
    cost t reversible square is (Some m) goes =
        let q_low : q < t.states = subst (λ n. q < n) is.states state in
        let i_low : i < t.inputs = subst (λ n. i < n) is.lines line in
        let arrives = reversible.arrives q i m.0 m.1 goes in
        let out : m.1 < t.inputs = subst (λ n. m.1 < n) square arrives.1 in
        let low = (bounded t.states t.inputs q i m.0 m.1 q_low i_low arrives.0 out).0 in
        let most = all t is in
        let by_move : table_cost t q i ≡ move_cost t.states t.inputs q i m.0 m.1 =
        ap (cost_by t.states t.inputs q i) goes in
        omega (arith, low, most, by_move)

-- ---- a bank in a net

pub move_ran : (k : Circuit) (b : ℕ) (t : Table) (n lines state e l steps made : ℕ) (m : Option (ℕ × ℕ))
    (c end : Config) → IsReversible t → t.outputs ≡ t.inputs → IsBank k b t → CanMove b t c → c.place ≡ Enter e l
    → n ≡ t.states → lines ≡ t.inputs → ((q : ℕ) → q < n → IsResting c.states b n lines (Some q) → state ≡ q)
    → m ≡ t.go state (e - b) → steps ≡ cost_by n lines state (e - b) m → end ≡ run k c steps
    → Reaches (Goes k) made c end → (q i : ℕ) → IsBankEntering b t q i c → IsMove k b t q i made c end
move_ran k b t n lines state e l steps made m c end reversible square bank can place all_states all_lines marked goes
    cost is counted q i entering =
    let q_low : q < n = (let h : q < t.states = entering.state in omega arith) in
    let resting : IsResting c.states b n lines (Some q) = subst (λ x. IsResting c.states b n x (Some q)) (sym all_lines)
    (subst (λ x. IsResting c.states b x t.inputs (Some q)) (sym all_states) entering.resting) in
    let at_state : state ≡ q = marked q q_low resting in
    let enters = entering.enters in
    let element : e ≡ b + i = cc in
    let row : e - b ≡ i = omega arith in
    let moves : m ≡ t.go q i = goes ∙ ap (λ x. t.go x (e - b)) at_state ∙ ap (t.go q) row in
    let costs : steps ≡ table_cost t q i = cost ∙ rw (all_states, all_lines, at_state, row, moves) refl in
    let same = same_start b t t q i can.state can.line c refl refl entering can.entering in
    let in_time : c.steps + table_cost t q i ≤ clock = rw (same.0, same.1) can.in_time in
    let path = passes_run (Goes k) (λ _. true) (table_cost t q i) c (moved k b t q i c)
    (bank_crosses k b t q i c (λ _. true) reversible square bank entering in_time (λ x within. refl)) in
    let ends = ran k c (moved k b t q i c) end (table_cost t q i) made path (is ∙ ap (run k c) costs) counted in
    move_made k b t q i made c end reversible square bank entering in_time ends.0 ends.1 counted

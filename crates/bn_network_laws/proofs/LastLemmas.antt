-- From the last moment to the end.
use Rattle.std.specs.Prelude.{◌≡◌, ◌≢◌, ℕ, ◌+◌, ◌*◌, ◌<◌, ◌≤◌, ◌-◌, Bool, false, not, List, [], ◌∷◌, ◌++◌, length}
use Rattle.std.specs.Prelude.{Option, Some, None, slice_get, refl, ◌⊎◌, slice_index}
use Rattle.std.proofs.Common.{zero, suc, arith, sym, ap, subst, ◌∙◌, inl, inr, length-append}
use Rattle.std.proofs.lemmas.Nat.{mul-le}
use Rattle.std.proofs.lemmas.Option.{slice_get_within}
use Rattle.bn_lists.proofs.RunsLemmas.{passes_run}
use Rattle.bn_circuits.specs.Circuits.{Circuit, go_of, place_after}
use Rattle.bn_circuits.specs.declared.place.Place.TheVariants.{Enter, Left}
use Rattle.bn_rsm.specs.Costs.{table_cost, cost_by}
use Rattle.bn_rsm.specs.Laws.{CostsAreBounded}
use Rattle.bn_lists.specs.Lists.{nth}
use Rattle.bn_machine.specs.Tape.{scanned, shift, write}
use Rattle.bn_machine.specs.Window.{IsBetween, IsBeyond}
use Rattle.bn_machine.specs.Outcome.{Limits}
use Rattle.bn_machine.specs.declared.quint.Side.{Side}
use Rattle.bn_machine.specs.declared.quint.Side.TheVariants as side
use Rattle.bn_quad.specs.Quadruples.{Deed, Rewrite, Move, Rule, Configuration, Quadruples, IsQuadMachine}
use Rattle.bn_quad.specs.Quadruples.{final_state_of, Follows, DeedApplies}
use Rattle.bn_quad.specs.Calls.{IsUniformMachine}
use Rattle.bn_bennett_laws.specs.Steps.{EndsAt, finishes as ends_final, stops as ends_stuck, leaves as ends_leaving}
use Rattle.bn_bennett_laws.specs.Steps.{Exit, Finished, Stopped, Leaving, HasNoFirstRead, IsFirstOutside}
use Rattle.bn_bennett_laws.specs.Stages.{rooms_of}
use Rattle.bn_network.specs.declared.cell_line.CellLine.TheVariants.{Read, Answer}
use Rattle.bn_circuits.specs.Situations.{Situation, Turns, IsAtEnd}
use Rattle.bn_rsm.specs.RunCosts.{run_cost, step_cost, entry_cost}
use Rattle.bn_network.specs.Cells.{line_number}
use Rattle.bn_network.specs.Controls.{ControlState, ControlMove, ControlLine, ControlGoes, begins, reads_on, shifts_on}
use Rattle.bn_network.specs.Controls.{writes_on, End, Reads, Outside, Tape as to_tape, IsEntry, finishes, leaves, waits}
use Rattle.bn_network.specs.Controls.{IsFirstOf, IsNumbering, symbol_count, in_number, out_number, control_lines}
use Rattle.bn_network.specs.Controls.{lines_before, reads, reads_of, shifts_of, writes_of, to_read, shift_line}
use Rattle.bn_network.specs.ControlLaws.{StatesHaveEntries}
use Rattle.bn_network.specs.Networks.{IsNetwork, ShowsAllCells, IsControlAt, IsTape, first_cell, elements_by, bank_size}
use Rattle.bn_circuits.specs.Circuits.{line_at}
use Rattle.bn_network.specs.Moments.{IsMomentOf, TellsMoments, Travels}
use Rattle.bn_network_laws.specs.Ends.{tape_of, left_at, IsStoppedAt, EndsBy, by_end, by_stop, by_right, by_left}
use Rattle.bn_network_laws.specs.Ends.{IsEarlyStop}
use Rattle.bn_network_laws.specs.NetworkLaws.{LastMoment}
use Rattle.bn_network_laws.specs.Commands.{Commands, does_read, loose_place, head_of, tape_elements, way_to}
use Rattle.bn_rsm.proofs.RunCostLemmas.{one_cost, cost-joins, left_cost}
use Rattle.bn_network_laws.proofs.ShownLemmas.{shown_at, shown_with, cells_with}
use Rattle.bn_network_laws.proofs.PathLemmas.{stays, travels_join}
use Rattle.bn_network_laws.proofs.PlaceLemmas.{after_control, outside_place, command_place, cells_calm, taken_calm}
use Rattle.bn_network_laws.proofs.PlaceLemmas.{left_calm, middle_calm}
use Rattle.bn_network_laws.proofs.ChainLemmas.{Stop, lead, AreStops, Stands, chain, part, few_elements, shift_command}
use Rattle.bn_network_laws.proofs.ChainLemmas.{shift_is_line}
use Rattle.bn_network_laws.proofs.StopLemmas.{stops_of, stops_are, write_stops, shift_stops}
use Rattle.bn_network_laws.proofs.DepartLemmas.{which_deed, Departs, departs_one, departs_two, departs_three}
use Rattle.bn_network_laws.proofs.DepartLemmas.{stops_until, shift_stop, cut_stops, lead_until, stops_before}
use Rattle.bn_network_laws.proofs.DepartLemmas.{later_stop, no_stops}
use Rattle.bn_network_laws.proofs.RangeLemmas.{rule_range, six_stops}
use Rattle.bn_network_laws.proofs.NextLemmas.{begun, fits_of}

-- a place that is left has no step
left_ends : (k : Circuit) (s : Situation) (e o : ℕ) → s.place ≡ Left e o → IsAtEnd k s
left_ends k s e o here t g = none g.element g.input (sym here ∙ g.enters)
  where
    none : (f i : ℕ) → Left e o ≡ Enter f i → ⊥
    none f i h = cc

-- the control's input lines: the answers of each tape
pub line_in_range : (zs : List ℕ) (t x : ℕ) → length zs ≡ 3 → IsTape t → x < slice_index zs (t - 1)
    → lines_before zs (t - 1) + x < lines_before zs 3
line_in_range zs zero x size is low = absurd (let some = is.low in omega arith)
line_in_range zs (suc (suc (suc (suc t)))) x size is low = absurd (let few = is.high in omega arith)
line_in_range [] (suc t) x size is low = absurd (omega arith)
line_in_range (a ∷ []) (suc t) x size is low = absurd (omega arith)
line_in_range (a ∷ b ∷ []) (suc t) x size is low = absurd (omega arith)
line_in_range (a ∷ b ∷ c ∷ zs) (suc zero) x size is low =
    let e : lines_before (a ∷ b ∷ c ∷ zs) 3 ≡ a + 3 + (b + 3 + (c + 3 + lines_before zs 0)) = refl in
    let f : slice_index (a ∷ b ∷ c ∷ zs) 0 ≡ a = refl in omega arith
line_in_range (a ∷ b ∷ c ∷ zs) (suc (suc zero)) x size is low =
    let e : lines_before (a ∷ b ∷ c ∷ zs) 3 ≡ a + 3 + (b + 3 + (c + 3 + lines_before zs 0)) = refl in
    let f : slice_index (a ∷ b ∷ c ∷ zs) 1 ≡ b = refl in
    let g : lines_before (a ∷ b ∷ c ∷ zs) 1 ≡ a + 3 + 1 = refl in omega arith
line_in_range (a ∷ b ∷ c ∷ zs) (suc (suc (suc zero))) x size is low =
    let e : lines_before (a ∷ b ∷ c ∷ zs) 3 ≡ a + 3 + (b + 3 + (c + 3 + lines_before zs 0)) = refl in
    let f : slice_index (a ∷ b ∷ c ∷ zs) 2 ≡ c = refl in
    let g : lines_before (a ∷ b ∷ c ∷ zs) 2 ≡ a + 3 + (b + 3 + 1) = refl in omega arith

-- the symbols of a tape, by its number
pub letters_are : (m : Quadruples) (t x : ℕ) → IsTape t → x < symbol_count m t → x < slice_index m.symbols (t - 1)
letters_are m zero x is low = absurd (let some = is.low in omega arith)
letters_are m (suc zero) x is low = low
letters_are m (suc (suc zero)) x is low = low
letters_are m (suc (suc (suc zero))) x is low = low
letters_are m (suc (suc (suc (suc t)))) x is low = absurd (let few = is.high in omega arith)

-- ---- where no quadruple reads first what stands on the tape of the first read

-- the control's line of the answer that is awaited
abbrev pub answer_line : Configuration ℕ → ℕ → ControlLine
answer_line c t = to_tape t (Answer (scanned (tape_of c t)))

module _ (has : StatesHaveEntries) (m : Quadruples) (l : Limits) (names : List ControlState) (k : Circuit)
    (machine : IsQuadMachine m) (uniform : IsUniformMachine m)
    (net : IsNetwork m l names k) (c : Configuration ℕ) (t : ℕ) (stop : IsStoppedAt m c t) where
  -- a quadruple of this state reads this tape first
  reads_here : (n : ℕ) (r : Rule ℕ) (p : ℕ × ℕ) (rest : List (ℕ × ℕ)) → nth m.rules n ≡ Some r → r.from ≡ c.state
      → reads_of r ≡ p ∷ rest → p.0 ≡ t
  reads_here n r p rest stands from split =
      let first : IsFirstOf n r (reads_of r) (shifts_of r) (to_read r.from [] p) =
      subst (λ rs. IsFirstOf n r rs (shifts_of r) (to_read r.from [] p)) (sym split) refl in
      let same : to_read r.from [] p ≡ (Reads c.state [], to_tape t Read) =
      (has m machine uniform).one c.state (to_read r.from [] p) (Reads c.state [], to_tape t Read)
      (leaves n r stands from first) stop.entry in
      let lines : to_tape p.0 Read ≡ to_tape t Read = ap (λ (v : ControlMove). v.1) same in
      cc

  -- the control has no move for the answer
  no_move : (i : ControlLine) (e : ControlMove) → ControlGoes m (Reads c.state []) i e
      → in_number m i ≡ in_number m (answer_line c t) → ⊥
  no_move i e (begins isq isi entry) number = cc
  no_move i e (reads_on n r stands f entry (b ∷ before) rest p split isq isi ism) number = cc
  no_move i e (reads_on n r stands f entry [] rest p split isq isi ism) number =
      let from : r.from ≡ c.state = cc in
      let tape : p.0 ≡ t = reads_here n r p rest stands from split in
      let there : i ≡ to_tape t (Answer p.1) = isi ∙ ap (λ v. to_tape v (Answer p.1)) tape in
      let numbers : in_number m (to_tape t (Answer p.1)) ≡ in_number m (answer_line c t) =
      sym (ap (in_number m) there) ∙ number in
      let symbol : p.1 ≡ scanned (tape_of c t) = omega arith in
      let pair : p ≡ (t, scanned (tape_of c t)) = λ j. (tape j, symbol j) in
      stop.none n r rest stands from (split ∙ ap (λ (v : ℕ × ℕ). v ∷ rest) pair)
  no_move i e (shifts_on n r stands f entry before rest p split isq isi ism) number = cc
  no_move i e (writes_on n r stands f entry before rest p split isq isi ism) number = cc

  -- so no move of the network leads on
  pub stuck : (u : Situation) → IsControlAt names u.states (Reads c.state [])
      → u.place ≡ Enter 0 (in_number m (answer_line c t)) → IsAtEnd k u
  stuck u still here v g =
      let same : Enter 0 (in_number m (answer_line c t)) ≡ Enter g.element g.input = sym here ∙ g.enters in
      let element : g.element ≡ 0 = cc in
      let input : g.input ≡ in_number m (answer_line c t) = cc in
      let numbers : Some g.before ≡ Some still.number = sym g.has_state ∙ ap (slice_get u.states) element ∙ still.is in
      let number : g.before ≡ still.number = cc in
      let there : go_of k.tables 0 g.before g.input ≡ Some (g.after, g.output) =
      ap (λ e. go_of k.tables e g.before g.input) (sym element) ∙ g.moves in
      let move : net.control.go g.before g.input ≡ Some (g.after, g.output) = rw net.tables at there in
      let goes = (net.is_control.goes g.before g.input g.after g.output).0 move in
      let states : Some goes.state ≡ Some (Reads c.state []) = sym goes.from ∙ ap (slice_get names) number
      ∙ still.named in
      let state : goes.state ≡ Reads c.state [] = cc in
      no_move goes.line goes.move (subst (λ q. ControlGoes m q goes.line goes.move) state goes.goes)
      (goes.enters ∙ input)

module _ (costs : CostsAreBounded) (commands : Commands) (has : StatesHaveEntries) (m : Quadruples) (l : Limits)
    (names : List ControlState) (k : Circuit) (test : Situation → Bool)
    (machine : IsQuadMachine m) (uniform : IsUniformMachine m) (numbering : IsNumbering m names)
    (net : IsNetwork m l names k) (tells : TellsMoments m names k test)
    (s : Situation) (c : Configuration ℕ) (now : IsMomentOf m l names k s c) where
  -- what is owed of an end
  abbrev Ended : Exit → Type 0
  Ended e = (n : ℕ) × (t : Situation) × Travels k test n (48 * elements_by m l (length names)) s t
      × (run_cost k (n + 1) s ≤ 48 * elements_by m l (length names)) × IsAtEnd k t × EndsBy m l names t c e
      × ((n ≡ 0) ⊎ (test t ≡ false))

  -- ---- in the final state

  -- at the final state the signal has left
  ended_final : c.state ≡ final_state_of m.rules → Ended Finished
  ended_final final =
      let first : now.first ≡ (End, Outside) = (has m machine uniform).one c.state now.first (End, Outside) now.entry
      (finishes final refl) in
      let number : out_number m now.first.1 ≡ 0 = ap (λ (v : ControlMove). out_number m v.1) first in
      let gone : s.place ≡ Left 0 0 = now.place ∙ ap (λ o. place_after k.wires (line_at 0 o)) number
      ∙ outside_place m l names k net in
      let waits : IsControlAt names s.states End = subst (λ (v : ControlMove). IsControlAt names s.states v.0) first
      now.waits in (
        0,
        s,
        stays k test s (48 * elements_by m l (length names)),
        (let one = one_cost k s in let none = left_cost k s 0 0 gone in omega arith),
        left_ends k s 0 0 gone,
        by_end gone waits now.shows,
        inl refl,
      )

  -- ---- where no quadruple reads first what stands on the tape of the first read

  module _ (t : ℕ) (stop : IsStoppedAt m c t) where
    -- the answer comes, and the control has no move
    ended_stuck : Ended Stopped
    ended_stuck =
        let is : IsTape t = stop.tape in
        let first : now.first ≡ (Reads c.state [], to_tape t Read) =
        (has m machine uniform).one c.state now.first (Reads c.state [], to_tape t Read) now.entry stop.entry in
        let waits : IsControlAt names s.states (Reads c.state []) =
        subst (λ (v : ControlMove). IsControlAt names s.states v.0) first now.waits in
        let start : s.place ≡ Enter (first_cell l t) (line_number (symbol_count m t) Read) =
        now.place ∙ ap (λ (v : ControlMove). place_after k.wires (line_at 0 (out_number m v.1))) first
        ∙ command_place m l names k net t Read is tt tt in
        let done = (commands m l names k test t s (tape_of c t) net is (cells_calm m l names k net test tells t is)
        (shown_at m l s.states c t is now.shows)).0 Read (Answer (scanned (tape_of c t))) (write (tape_of c t) 0)
        (2 * head_of l t (tape_of c t) + 1) (does_read refl refl refl refl) start in
        let still : IsControlAt names done.last.states (Reads c.state []) =
        record {
          number = waits.number;
          is = done.others 0 (inl (after_control l t is)) ∙ waits.is;
          named = waits.named;
        } in
        let none : IsAtEnd k done.last = stuck has m l names k machine uniform net c t stop done.last still done.place
        in
        let symbol : scanned (tape_of c t) < symbol_count m t = (shown_at m l s.states c t is now.shows).shown.symbols
        (tape_of c t).head in
        let last = loose done.last still done.place symbol in
        let whole = cost-joins k (2 * head_of l t (tape_of c t) + 1) 1 s done.last
        (passes_run (Turns k) (λ x. not (test x)) (2 * head_of l t (tape_of c t) + 1) s done.last done.path) in
        let one = one_cost k done.last in
        let few = few_elements m l (length names) t is in
        let some = done.cost in (
          2 * head_of l t (tape_of c t) + 1,
          done.last,
          record {
            path = done.path;
            cost = within (run_cost k (2 * head_of l t (tape_of c t) + 1) s)
                (tape_elements m l t) (bank_size (length names) (control_lines m)) (elements_by m l (length names)) some
                few;
          },
          total (run_cost k (2 * head_of l t (tape_of c t) + 1 + 1) s)
              (run_cost k (2 * head_of l t (tape_of c t) + 1) s) (run_cost k 1 done.last) (step_cost k done.last)
              (tape_elements m l t) (bank_size (length names) (control_lines m)) (elements_by m l (length names)) whole
              one some last few,
          none,
          by_stop t stop done.place still symbol (shown_with m l s.states done.last.states c t (write (tape_of c t) 0)
              is now.shows done.shows done.others),
          inr (taken_calm m l names k net test tells done.last (in_number m (answer_line c t)) done.place),
        )
      where
        within : (r a b e : ℕ) → r ≤ 8 * a → 8 * a + 4 * b ≤ 8 * e → r ≤ 48 * e
        within r a b e one two = omega arith

        total : (w r o z a b e : ℕ) → w ≡ r + o → o ≡ z → r ≤ 8 * a → z ≤ 4 * b → 8 * a + 4 * b ≤ 8 * e → w ≤ 48 * e
        total w r o z a b e sum one first second few = omega arith

        loose : (u : Situation) → IsControlAt names u.states (Reads c.state [])
            → u.place ≡ Enter 0 (in_number m (answer_line c t))
            → scanned (tape_of c t) < symbol_count m t → step_cost k u ≤ 4 * bank_size (length names) (control_lines m)
        loose u still here symbol =
            let there : step_cost k u ≡ table_cost net.control still.number (in_number m (answer_line c t)) =
            ap (entry_cost k u.states) here ∙ rw (net.tables, still.is) refl in
            let low = slice_get_within names still.number (Reads c.state []) still.named in
            let in_range : in_number m (answer_line c t) < control_lines m =
            line_in_range m.symbols t (scanned (tape_of c t)) machine.tapes stop.tape
            (letters_are m t (scanned (tape_of c t)) stop.tape symbol) in
            let small = bound net.control.states net.control.inputs still.number (in_number m (answer_line c t))
            (net.control.go still.number (in_number m (answer_line c t))) refl net.is_control.states
            net.is_control.inputs low in_range in
            omega arith
          where
            bound : (states inputs n i : ℕ) (o : Option (ℕ × ℕ)) → net.control.go n i ≡ o → states ≡ length names
                → inputs ≡ control_lines m
                → n < length names → i < control_lines m → cost_by states inputs n i o
                ≤ 4 * bank_size (length names) (control_lines m)
            bound states inputs n i None is es ei a b = subst (λ y. cost_by states y n i None
                ≤ 4 * bank_size (length names) (control_lines m)) (sym ei)
                (costs (length names) (control_lines m) n i n i a b a b).1
            bound states inputs n i (Some v) is es ei a b =
                let arrives = net.is_control.reversible.arrives n i v.0 v.1 (is) in
                let high : v.1 < control_lines m = rw net.is_control.outputs at arrives.1 in
                let low : v.0 < length names = rw net.is_control.states at arrives.0 in
                subst (λ x. cost_by x inputs n i (Some v) ≤ 4 * bank_size (length names) (control_lines m)) (sym es)
                (subst (λ y. cost_by (length names) y n i (Some v) ≤ 4 * bank_size (length names) (control_lines m))
                (sym ei) (costs (length names) (control_lines m) n i v.0 v.1 a b low high).0)

  -- ---- where a shift leaves the window

  -- what is owed at a loose line
  loose_ends : (t : ℕ) (to : Side) → IsTape t → (x : Situation) → x.place ≡ loose_place m l t to
      → (d : Configuration ℕ) (step : Follows m.rules c d)
      → ShowsAllCells m l x.states (left_at t step.leads.rule c) → IsAtEnd k x × EndsBy m l names x c (Leaving t to)
      × (test x ≡ false) × (step_cost k x ≡ 0)
  loose_ends t side.Left is x here d step shows = (
    left_ends k x _ _ here,
    by_left t is here d step shows,
    left_calm m l names k net test tells x _ _ (after_control l t is) here,
    left_cost k x _ _ here,
  )
  loose_ends t side.Right is x here d step shows = (
    left_ends k x _ _ here,
    by_right t is here d step shows,
    (let low = after_control l t is in left_calm m l names k net test tells x _ _ (omega arith) here),
    left_cost k x _ _ here,
  )

  -- a quadruple whose shift leaves
  ended_by : (d : Configuration ℕ) (step : Follows m.rules c d) (t : ℕ) (to : Side) → IsTape t
      → Departs m l step.number step.leads.rule c to t → Ended (Leaving t to)
  ended_by d step t to is dep =
      let n = step.number in
      let r = step.leads.rule in
      let stands = step.leads.stands in
      let E = elements_by m l (length names) in
      let e = (has m machine uniform).some r.to (rule_range m machine n r stands).to in
      let xs = stops_until n r dep.before in
      let y = shift_stop n t to in
      let ys = shift_stops n dep.tail (write_stops r.to (writes_of r)) in
      let cut = cut_stops n r dep.before dep.tail t to dep.split in
      let are : AreStops m e.0 (xs ++ (y ∷ ys)) = subst (λ zs. AreStops m e.0 zs) cut (stops_are m n r stands e.0 e.1)
      in
      let led : lead e.0 (stops_of n r) ≡ lead (y.state, to_tape t (shift_line to)) xs =
      ap (lead e.0) cut ∙ lead_until e.0 xs y ys in
      let at : Stands m l names k s (lead (y.state, to_tape t (shift_line to)) xs) c =
      subst (λ (v : ControlMove). Stands m l names k s v c) led
      (begun costs commands has m l names k test machine uniform numbering net tells s c now n r stands
      (sym step.leads.leads.applies.from) e.0) in
      let come = chain costs m l names k numbering net test tells commands xs (y.state, to_tape t (shift_line to)) c
      dep.at dep.moves s (stops_before m e.0 xs y ys are) dep.obey at in
      let gone = part costs m l names k numbering net test tells commands come.0 y.state t to dep.at is dep.beyond
      come.2 in
      let shows = cells_with m l come.0.states gone.last.states dep.at t (shift (tape_of dep.at t) (way_to to)) is
      come.2.shows gone.shows gone.others in
      let end = loose_ends t to is gone.last gone.place d step (subst (ShowsAllCells m l gone.last.states) dep.gone
      shows) in
      let six : length xs + 1 ≤ 6 = counted xs y ys (stops_of n r) cut (six_stops n r) in
      let path = travels_join k test (dep.moves + gone.moves) dep.moves gone.moves (48 * E) (length xs * (8 * E))
      (8 * tape_elements m l t) s come.0 gone.last (refl {a = dep.moves + gone.moves})
      (few (length xs) E (tape_elements m l t) (bank_size (length names) (control_lines m)) six
      (few_elements m l (length names) t is))
      (λ some more. middle_calm m l names k net test tells come.0 y.state (first_cell l t)
      (line_number (symbol_count m t) (shift_line to)) come.2.waits
      (later_stop m e.0 xs y ys (no_stops m l xs c dep.at dep.moves dep.obey some) are)
      (come.2.place ∙ command_place m l names k net t (shift_line to) is (shift_command to)
      (shift_is_line (symbol_count m t) to)))
      come.1 (record { path = gone.path; cost = gone.cost }) in
      let whole = cost-joins k (dep.moves + gone.moves) 1 s gone.last
      (passes_run (Turns k) (λ x. not (test x)) (dep.moves + gone.moves) s gone.last path.path) in
      let one = one_cost k gone.last in
      let zero_cost = end.3 in
      let cost = path.cost in (
        dep.moves + gone.moves,
        gone.last,
        path,
        total (run_cost k (dep.moves + gone.moves + 1) s)
            (run_cost k (dep.moves + gone.moves) s) (run_cost k 1 gone.last) (step_cost k gone.last) (48 * E) whole one
            zero_cost cost,
        end.0,
        end.1,
        inr end.2,
      )
    where
      total : (w r o z e : ℕ) → w ≡ r + o → o ≡ z → z ≡ 0 → r ≤ e → w ≤ e
      total w r o z e a b d f = omega arith

      counted : (xs : List Stop) (y : Stop) (ys zs : List Stop) → zs ≡ xs ++ (y ∷ ys) → length zs ≤ 6
          → length xs + 1 ≤ 6
      counted xs y ys zs cut small = let a : length zs ≡ length (xs ++ (y ∷ ys)) =
          ap (λ (v : List Stop). length v) cut in let b = length-append xs (y ∷ ys) in omega arith

      few : (x e a b : ℕ) → x + 1 ≤ 6 → 8 * a + 4 * b ≤ 8 * e → x * (8 * e) + 8 * a ≤ 48 * e
      few x e a b small fits = let c = mul-le x (8 * e) 5 (8 * e) (omega arith) (omega arith) in omega arith

  -- by the first tape that leaves
  ended_leaving : (d : Configuration ℕ) → Follows m.rules c d → (t : ℕ) (to : Side) → IsFirstOutside (rooms_of l) d t to
      → Ended (Leaving t to)
  ended_leaving d follows zero to out = absurd out
  ended_leaving d follows (suc zero) to out =
      let n = follows.number in
      let by = follows.leads in
      let applies = by.leads.applies in
      let beyond = subst (λ (x : Configuration ℕ). IsBeyond l.left l.right to x.one.head) by.leads.gives out in
      let deed = which_deed by.rule.one l.left l.right to c.one now.shows.one.head beyond in
      ended_by d follows 1 to (record { low = omega arith; high = omega arith })
      (departs_one m l n by.rule c to applies.one applies.two applies.three deed.0 deed.1)
  ended_leaving d follows (suc (suc zero)) to out =
      let n = follows.number in
      let by = follows.leads in
      let applies = by.leads.applies in
      let there = subst (λ (x : Configuration ℕ). IsBetween l.left l.right x.one.head
      × IsBeyond 0 l.steps to x.two.head) by.leads.gives out in
      let deed = which_deed by.rule.two 0 l.steps to c.two now.shows.two.head there.1 in
      ended_by d follows 2 to (record { low = omega arith; high = omega arith })
      (departs_two m l n by.rule c to applies.one applies.two applies.three (fits_of l 1 by.rule.one c.one there.0)
      deed.0 deed.1)
  ended_leaving d follows (suc (suc (suc zero))) to out =
      let n = follows.number in
      let by = follows.leads in
      let applies = by.leads.applies in
      let there = subst (λ (x : Configuration ℕ). IsBetween l.left l.right x.one.head × IsBetween 0 l.steps x.two.head
      × IsBeyond 0 l.output to x.three.head) by.leads.gives out in
      let deed = which_deed by.rule.three 0 l.output to c.three now.shows.three.head there.2 in
      ended_by d follows 3 to (record { low = omega arith; high = omega arith })
      (departs_three m l n by.rule c to applies.one applies.two applies.three
      (fits_of l 1 by.rule.one c.one there.0) (fits_of l 2 by.rule.two c.two there.1) deed.0 deed.1)
  ended_leaving d follows (suc (suc (suc (suc t)))) to out = absurd out

  -- by the reason for the end
  ended : (e : Exit) → EndsAt (rooms_of l) m.rules (final_state_of m.rules) c e → IsEarlyStop m c e → Ended e
  ended e (ends_final final is) early = subst Ended (sym is) (ended_final final)
  ended e (ends_stuck going none is) early = let at = subst (λ x. IsEarlyStop m c x) is early in subst Ended (sym is)
      (ended_stuck at.0 at.1)
  ended e (ends_leaving t to d going follows out is) early = subst Ended (sym is) (ended_leaving d follows t to out)

-- the law
pub last-moment : CostsAreBounded → Commands → StatesHaveEntries → LastMoment
last-moment costs commands has m l names k test machine uniform numbering net tells s c e now ends early =
    ended costs commands has m l names k test machine uniform numbering net tells s c now e ends early

-- ---- a stop at the first read of tape 1

-- where no quadruple that leaves the state admits what stands on tape 1, the first command of the state is a read of
-- tape 1
pub awaits_one : (m : Quadruples) (c : Configuration ℕ) → HasNoFirstRead m.rules c → (k : ControlMove)
    → IsEntry m c.state k → c.state ≢ final_state_of m.rules
    → k ≡ (Reads c.state [], to_tape 1 Read)
awaits_one m c early k (finishes final is) going = absurd (going final)
awaits_one m c early k (waits other low none is) going = is
awaits_one m c early k (leaves n r stands from first) going = by_deed r.one refl
  where
    by_deed : (d : Deed) → r.one ≡ d → k ≡ (Reads c.state [], to_tape 1 Read)
    by_deed (Move v) is = absurd (early.none n r stands (sym from) (subst (λ d. DeedApplies d c.one) (sym is) tt))
    by_deed (Rewrite a b) is =
        let list : reads_of r ≡ (1, a) ∷ reads 2 (r.two ∷ r.three ∷ []) =
        ap (λ d. reads 1 (d ∷ r.two ∷ r.three ∷ [])) is in
        let sent : k ≡ to_read r.from [] (1, a) = subst (λ rs. IsFirstOf n r rs (shifts_of r) k) list first in
        sent ∙ ap (λ v. to_read v [] (1, a)) from

-- so the machine is stuck at its first read there
pub stopped_at_one : (m : Quadruples) (c : Configuration ℕ) → HasNoFirstRead m.rules c → (k : ControlMove)
    → IsEntry m c.state k → c.state ≢ final_state_of m.rules
    → IsStoppedAt m c 1
stopped_at_one m c early k entry going = record {
  tape = record { low = omega arith; high = omega arith };
  entry = subst (λ (v : ControlMove). IsEntry m c.state v) (awaits_one m c early k entry going) entry;
  none = λ n r rest stands from split. by_deed n r rest stands from split r.one refl;
}
  where
    by_deed : (n : ℕ) (r : Rule ℕ) (rest : List (ℕ × ℕ)) → nth m.rules n ≡ Some r → r.from ≡ c.state
        → reads_of r ≡ (1, scanned c.one) ∷ rest → (d : Deed)
        → r.one ≡ d → ⊥
    by_deed n r rest stands from split (Move v) is = early.none n r stands (sym from)
        (subst (λ d. DeedApplies d c.one) (sym is) tt)
    by_deed n r rest stands from split (Rewrite a b) is =
        let list : reads_of r ≡ (1, a) ∷ reads 2 (r.two ∷ r.three ∷ []) =
        ap (λ d. reads 1 (d ∷ r.two ∷ r.three ∷ [])) is in
        let both : (1, a) ∷ reads 2 (r.two ∷ r.three ∷ []) ≡ (1, scanned c.one) ∷ rest = sym list ∙ split in
        let pairs : ◌≡◌ {A = ℕ × ℕ} (1, scanned c.one) (1, a) = cc in
        let symbol : scanned c.one ≡ a = ap (λ (v : ℕ × ℕ). v.1) pairs in
        early.none n r stands (sym from) (subst (λ d. DeedApplies d c.one) (sym is) symbol)

-- and it is stuck at no other tape's
pub one_tape : (m : Quadruples) (c : Configuration ℕ) (t : ℕ) → HasNoFirstRead m.rules c → IsStoppedAt m c t → t ≡ 1
one_tape m c t early stop = by_entry (Reads c.state [], to_tape t Read) stop.entry refl
  where
    by_entry : (k : ControlMove) → IsEntry m c.state k → k ≡ (Reads c.state [], to_tape t Read) → t ≡ 1
    by_entry k (finishes final is) at = absurd (let states : End
        ≡ Reads c.state [] = ap (λ (v : ControlMove). v.0) (sym is ∙ at) in cc)
    by_entry k (waits other low none is) at = let lines : to_tape 1 Read ≡ to_tape t Read =
        ap (λ (v : ControlMove). v.1) (sym is ∙ at) in cc
    by_entry k (leaves n r stands from first) at = by_deed r.one refl
      where
        by_deed : (d : Deed) → r.one ≡ d → t ≡ 1
        by_deed (Move v) is = absurd (early.none n r stands (sym from) (subst (λ d. DeedApplies d c.one) (sym is) tt))
        by_deed (Rewrite a b) is =
            let list : reads_of r ≡ (1, a) ∷ reads 2 (r.two ∷ r.three ∷ []) =
            ap (λ d. reads 1 (d ∷ r.two ∷ r.three ∷ [])) is in
            let sent : k ≡ to_read r.from [] (1, a) = subst (λ rs. IsFirstOf n r rs (shifts_of r) k) list first in
            let lines : to_tape 1 Read ≡ to_tape t Read = ap (λ (v : ControlMove). v.1) (sym sent ∙ at) in
            cc

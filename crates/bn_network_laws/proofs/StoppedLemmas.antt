-- From the moment of a configuration that is stuck at a read to the stop of its network.
use Rattle.std.specs.Prelude.{◌≡◌, ℕ, ◌+◌, ◌*◌, ◌<◌, ◌≤◌, Bool, false, not, List, [], ◌∷◌, ◌++◌, length, Option}
use Rattle.std.specs.Prelude.{Some, None, slice_get, refl}
use Rattle.std.proofs.Common.{arith, sym, ap, subst, ◌∙◌, inl, length-append}
use Rattle.std.proofs.lemmas.Nat.{mul-le}
use Rattle.std.proofs.lemmas.Option.{slice_get_within}
use Rattle.bn_lists.proofs.RunsLemmas.{passes_run}
use Rattle.bn_circuits.specs.Circuits.{Circuit, go_of}
use Rattle.bn_circuits.specs.Situations.{Situation, Turns, IsAtEnd}
use Rattle.bn_circuits.specs.declared.place.Place.TheVariants.{Enter}
use Rattle.bn_machine.specs.Outcome.{Limits}
use Rattle.bn_machine.specs.Tape.{scanned, write}
use Rattle.bn_quad.specs.Quadruples.{deeds_of, Configuration, Quadruples, IsQuadMachine}
use Rattle.bn_quad.specs.Overlap.{HaveSameTapes}
use Rattle.bn_quad.specs.Calls.{IsUniformMachine}
use Rattle.bn_rsm.specs.Costs.{table_cost, cost_by}
use Rattle.bn_rsm.specs.Laws.{CostsAreBounded}
use Rattle.bn_rsm.specs.RunCosts.{run_cost, step_cost, entry_cost}
use Rattle.bn_rsm.proofs.RunCostLemmas.{one_cost, cost-joins}
use Rattle.bn_network.specs.declared.cell_line.CellLine.TheVariants.{Read, Answer}
use Rattle.bn_network.specs.Cells.{line_number}
use Rattle.bn_network.specs.ControlLaws.{StatesHaveEntries}
use Rattle.bn_network.specs.Controls.{ControlState, ControlMove, ControlLine, ControlGoes, begins, reads_on, shifts_on}
use Rattle.bn_network.specs.Controls.{writes_on, Reads, Tape as to_tape, IsNumbering, symbol_count, in_number}
use Rattle.bn_network.specs.Controls.{control_lines, reads, reads_of, shifts_of, writes_of, symbols_read}
use Rattle.bn_network.specs.Networks.{IsNetwork, IsControlAt, ShowsTapes, first_cell, elements_by, bank_size}
use Rattle.bn_network.specs.Moments.{IsMomentOf, TellsMoments, Travels}
use Rattle.bn_network.proofs.ListLemmas.{tapes, split}
use Rattle.bn_network.proofs.DeedLemmas.{same_reads}
use Rattle.bn_network.proofs.ForthLemmas.{whole_symbols}
use Rattle.bn_network.proofs.UniformLemmas.{read_mask}
use Rattle.bn_network_laws.specs.Commands.{Commands, does_read, head_of, tape_elements}
use Rattle.bn_network_laws.specs.Ends.{tape_of, put_tape}
use Rattle.bn_network_laws.proofs.ShownLemmas.{shown_at, shown_with}
use Rattle.bn_network_laws.proofs.PathLemmas.{travels_join}
use Rattle.bn_network_laws.proofs.PlaceLemmas.{after_control, command_place, cells_calm, taken_calm, middle_calm}
use Rattle.bn_network_laws.proofs.ChainLemmas.{Stop, lead, AreStops, Stands, chain, few_elements}
use Rattle.bn_network_laws.proofs.StopLemmas.{stop_at, write_stops, shift_stops, read_stops, stops_of, stops_are}
use Rattle.bn_network_laws.proofs.DepartLemmas.{lead_until, stops_before, later_stop, no_stops}
use Rattle.bn_network_laws.proofs.RangeLemmas.{rule_range, six_stops}
use Rattle.bn_network_laws.proofs.NextLemmas.{begun}
use Rattle.bn_network_laws.proofs.LastLemmas.{line_in_range, letters_are, answer_line}
use Rattle.bn_network_laws.specs.Stops.{deeds_before, IsStuckAtRead, symbols_before, taken_before, taken_to}
use Rattle.bn_network_laws.specs.Stops.{StopsAtRead}
use Rattle.bn_network_laws.specs.StopLaws.{NetworksStop}
use Rattle.bn_network_laws.proofs.AdmitLemmas.{admits_by, reads_cut, stops_cut, obeys, untouched}

-- ---- the control has no move

module _ (m : Quadruples) (l : Limits) (names : List ControlState) (k : Circuit) (uniform : IsUniformMachine m)
    (net : IsNetwork m l names k)
    (c : Configuration ℕ) (t : ℕ) (stop : IsStuckAtRead m c t) where
  -- the control has no move for the answer
  no_move : (i : ControlLine) (e : ControlMove) → ControlGoes m (Reads c.state (symbols_before stop.rule t)) i e
      → in_number m i ≡ in_number m (answer_line c t) → ⊥
  no_move i e (begins isq isi entry) number = cc
  no_move i e (shifts_on n x xs f entry front rest p cut isq isi ism) number = cc
  no_move i e (writes_on n x xs f entry front rest p cut isq isi ism) number = cc
  no_move i e (reads_on n x xs f entry front rest p cut isq isi ism) number =
      let r = stop.rule in
      let from : x.from ≡ c.state = cc in
      let symbols : symbols_before r t ≡ symbols_read front = cc in
      let alike : HaveSameTapes r x = read_mask m uniform stop.number n r x stop.stands xs (stop.from ∙ sym from) in
      let both : tapes (reads_of r) ≡ tapes (reads_of x) = same_reads (deeds_of r) (deeds_of x) 1 alike in
      let own = reads_cut r t stop.tape stop.reads_it in
      let all : tapes (reads 1 (deeds_before r t) ++ ((t, own.0) ∷ own.1)) ≡ tapes (front ++ (p ∷ rest)) =
      sym (ap tapes own.2) ∙ both ∙ ap tapes cut in
      let heads : tapes ((t, own.0) ∷ own.1) ≡ tapes (p ∷ rest) =
      (split (reads 1 (deeds_before r t)) front ((t, own.0) ∷ own.1) (p ∷ rest) symbols all).1 in
      let tape : p.0 ≡ t = cc in
      let there : i ≡ to_tape t (Answer p.1) = isi ∙ ap (λ v. to_tape v (Answer p.1)) tape in
      let numbers : in_number m (to_tape t (Answer p.1)) ≡ in_number m (answer_line c t) = sym (ap (in_number m) there)
      ∙ number in
      let symbol : p.1 ≡ scanned (tape_of c t) = omega arith in
      let whole : symbols_read (reads_of x) ≡ symbols_before r t ++ (p.1 ∷ symbols_read rest) =
      whole_symbols (reads_of x) front rest p cut ∙ ap (λ ys. ys ++ (p.1 ∷ symbols_read rest)) (sym symbols) in
      let admits = admits_by r x c t p.1 (symbols_read rest) stop.tape alike stop.before stop.reads_it whole symbol in
      stop.none n x xs from admits.0 admits.1

  -- so no move of the network leads on
  stuck : (u : Situation) → IsControlAt names u.states (Reads c.state (symbols_before stop.rule t))
      → u.place ≡ Enter 0 (in_number m (answer_line c t)) → IsAtEnd k u
  stuck u still here v g =
      let q = Reads c.state (symbols_before stop.rule t) in
      let same : Enter 0 (in_number m (answer_line c t)) ≡ Enter g.element g.input = sym here ∙ g.enters in
      let element : g.element ≡ 0 = cc in
      let input : g.input ≡ in_number m (answer_line c t) = cc in
      let numbers : Some g.before ≡ Some still.number = sym g.has_state ∙ ap (slice_get u.states) element ∙ still.is in
      let number : g.before ≡ still.number = cc in
      let there : go_of k.tables 0 g.before g.input ≡ Some (g.after, g.output) =
      ap (λ e. go_of k.tables e g.before g.input) (sym element) ∙ g.moves in
      let move : net.control.go g.before g.input ≡ Some (g.after, g.output) = rw net.tables at there in
      let goes = (net.is_control.goes g.before g.input g.after g.output).0 move in
      let states : Some goes.state ≡ Some (Reads c.state (symbols_before stop.rule t)) = sym goes.from
      ∙ ap (slice_get names) number ∙ still.named in
      let state : goes.state ≡ Reads c.state (symbols_before stop.rule t) = cc in
      no_move goes.line goes.move (subst (λ q. ControlGoes m q goes.line goes.move) state goes.goes)
      (goes.enters ∙ input)

-- ---- the way to it

module _ (costs : CostsAreBounded) (commands : Commands) (has : StatesHaveEntries) (m : Quadruples) (l : Limits)
    (names : List ControlState) (k : Circuit) (test : Situation → Bool)
    (machine : IsQuadMachine m) (uniform : IsUniformMachine m) (numbering : IsNumbering m names)
    (net : IsNetwork m l names k) (tells : TellsMoments m names k test)
    (s : Situation) (c : Configuration ℕ) (now : IsMomentOf m l names k s c) (t : ℕ) (stop : IsStuckAtRead m c t) where
  -- the way to the loose line costs no more than a move of the control
  loose : (u : Situation) (q : ControlState) → IsControlAt names u.states q
      → u.place ≡ Enter 0 (in_number m (answer_line c t))
      → scanned (tape_of c t) < symbol_count m t → step_cost k u ≤ 4 * bank_size (length names) (control_lines m)
  loose u q still here symbol =
      let there : step_cost k u ≡ table_cost net.control still.number (in_number m (answer_line c t)) =
      ap (entry_cost k u.states) here ∙ rw (net.tables, still.is) refl in
      let low = slice_get_within names still.number q still.named in
      let in_range : in_number m (answer_line c t) < control_lines m =
      line_in_range m.symbols t (scanned (tape_of c t)) machine.tapes stop.tape
      (letters_are m t (scanned (tape_of c t)) stop.tape symbol) in
      let small = bound net.control.states net.control.inputs still.number (in_number m (answer_line c t))
      (net.control.go still.number (in_number m (answer_line c t))) refl net.is_control.states net.is_control.inputs
      low in_range in
      omega arith
    where
      bound : (states inputs n i : ℕ) (o : Option (ℕ × ℕ)) → net.control.go n i ≡ o → states ≡ length names
          → inputs ≡ control_lines m
          → n < length names → i < control_lines m
          → cost_by states inputs n i o ≤ 4 * bank_size (length names) (control_lines m)
      bound states inputs n i None is es ei a b =
          subst (λ y. cost_by states y n i None ≤ 4 * bank_size (length names) (control_lines m)) (sym ei)
          (costs (length names) (control_lines m) n i n i a b a b).1
      bound states inputs n i (Some v) is es ei a b =
          let arrives = net.is_control.reversible.arrives n i v.0 v.1 (is) in
          let high : v.1 < control_lines m = rw net.is_control.outputs at arrives.1 in
          let low : v.0 < length names = rw net.is_control.states at arrives.0 in
          subst (λ x. cost_by x inputs n i (Some v) ≤ 4 * bank_size (length names) (control_lines m)) (sym es)
          (subst (λ y. cost_by (length names) y n i (Some v) ≤ 4 * bank_size (length names) (control_lines m)) (sym ei)
          (costs (length names) (control_lines m) n i v.0 v.1 a b low high).0)

  -- what is owed
  abbrev Ended : Type 0
  Ended = (n : ℕ) × (u : Situation) × Travels k test n (48 * elements_by m l (length names)) s u
      × (run_cost k (n + 1) s ≤ 48 * elements_by m l (length names)) × IsAtEnd k u
      × StopsAtRead m l names u c t stop.rule × (test u ≡ false)

  ended : Ended
  ended =
      let n = stop.number in
      let r = stop.rule in
      let E = elements_by m l (length names) in
      let B = bank_size (length names) (control_lines m) in
      let T = tape_elements m l t in
      let f = taken_before r c t in
      let e = (has m machine uniform).some r.to (rule_range m machine n r stop.stands).to in
      let own = reads_cut r t stop.tape stop.reads_it in
      let xs = read_stops r.from [] (reads 1 (deeds_before r t)) [] in
      let y = stop_at (Reads r.from (symbols_before r t)) t Read (Answer own.0) in
      let cut = stops_cut n r t own.0 own.1 own.2 in
      let ys = read_stops r.from (reads 1 (deeds_before r t) ++ ((t, own.0) ∷ [])) own.1
      (shift_stops n (shifts_of r) (write_stops r.to (writes_of r))) in
      let are : AreStops m e.0 (xs ++ (y ∷ ys)) =
      subst (λ zs. AreStops m e.0 zs) cut (stops_are m n r stop.stands e.0 e.1) in
      let led : lead e.0 (stops_of n r) ≡ lead (y.state, to_tape t Read) xs = ap (lead e.0) cut
      ∙ lead_until e.0 xs y ys in
      let at : Stands m l names k s (lead (y.state, to_tape t Read) xs) c =
      subst (λ (v : ControlMove). Stands m l names k s v c) led
      (begun costs commands has m l names k test machine uniform numbering net tells s c now n r stop.stands
      stop.from e.0) in
      let obey = obeys m l r c t stop.before in
      let come = chain costs m l names k numbering net test tells commands xs (y.state, to_tape t Read) c f obey.0 s
      (stops_before m e.0 xs y ys are) obey.1 at in
      let start = come.2.place ∙ command_place m l names k net t Read stop.tape tt tt in
      let done = (commands m l names k test t come.0 (tape_of f t) net stop.tape
      (cells_calm m l names k net test tells t stop.tape) (shown_at m l come.0.states f t stop.tape come.2.shows)).0
      Read (Answer (scanned (tape_of f t))) (write (tape_of f t) 0) (2 * head_of l t (tape_of f t) + 1)
      (does_read refl refl refl refl) start in
      let same = untouched r c t stop.tape in
      let waits : IsControlAt names done.last.states y.state =
      record {
        number = come.2.waits.number;
        is = done.others 0 (inl (after_control l t stop.tape)) ∙ come.2.waits.is;
        named = come.2.waits.named;
      } in
      let still : IsControlAt names done.last.states (Reads c.state (symbols_before r t)) =
      subst (λ a. IsControlAt names done.last.states (Reads a (symbols_before r t))) stop.from waits in
      let place : done.last.place ≡ Enter 0 (in_number m (answer_line c t)) = done.place
      ∙ ap (λ x. Enter 0 (in_number m (to_tape t (Answer (scanned x))))) same in
      let letters = (shown_at m l come.0.states f t stop.tape come.2.shows).shown.symbols (tape_of f t).head in
      let symbol : scanned (tape_of c t) < symbol_count m t = subst (λ x. scanned x < symbol_count m t) same letters in
      let shows : ShowsTapes m l done.last.states (taken_to r c t) =
      subst (λ x. ShowsTapes m l done.last.states (put_tape f t (write x 0))) same
      (shown_with m l come.0.states done.last.states f t (write (tape_of f t) 0) stop.tape come.2.shows done.shows
      done.others) in
      let moves = obey.0 + (2 * head_of l t (tape_of f t) + 1) in
      let six : length xs + 1 ≤ 6 = counted xs y ys (stops_of n r) cut (six_stops n r) in
      let few = few_elements m l (length names) t stop.tape in
      let path = travels_join k test moves obey.0 (2 * head_of l t (tape_of f t) + 1) (length xs * (8 * E) + 8 * T)
      (length xs * (8 * E)) (8 * T) s come.0 done.last (refl {a = moves}) (same_sum (length xs * (8 * E) + 8 * T))
      (λ some more. middle_calm m l names k net test tells come.0 y.state (first_cell l t)
      (line_number (symbol_count m t) Read) come.2.waits
      (later_stop m e.0 xs y ys (no_stops m l xs c f obey.0 obey.1 some) are) start)
      come.1 (record { path = done.path; cost = done.cost }) in
      let whole = cost-joins k moves 1 s done.last
      (passes_run (Turns k) (λ x. not (test x)) moves s done.last path.path) in
      let one = one_cost k done.last in
      let last = loose done.last (Reads c.state (symbols_before r t)) still place symbol in
      let cost = path.cost in (
        moves,
        done.last,
        record { path = path.path; cost = within (run_cost k moves s) (length xs) E T B cost six few },
        total (run_cost k (moves + 1) s) (run_cost k moves s) (run_cost k 1 done.last) (step_cost k done.last)
            (length xs) E T B whole one cost last six few,
        stuck m l names k uniform net c t stop done.last still place,
        record { place = place; control = still; symbol = symbol; shows = shows },
        taken_calm m l names k net test tells done.last (in_number m (answer_line c t)) place,
      )
    where
      same_sum : (x : ℕ) → x ≤ x
      same_sum x = omega arith

      counted : (xs : List Stop) (y : Stop) (ys zs : List Stop) → zs ≡ xs ++ (y ∷ ys) → length zs ≤ 6
          → length xs + 1 ≤ 6
      counted xs y ys zs cut small = let a : length zs ≡ length (xs ++ (y ∷ ys)) =
          ap (λ (v : List Stop). length v) cut in let b = length-append xs (y ∷ ys) in omega arith

      within : (r x e a b : ℕ) → r ≤ x * (8 * e) + 8 * a → x + 1 ≤ 6 → 8 * a + 4 * b ≤ 8 * e → r ≤ 48 * e
      within r x e a b cost small fits = let c = mul-le x (8 * e) 5 (8 * e) (omega arith) (omega arith) in omega arith

      total : (w r o z x e a b : ℕ) → w ≡ r + o → o ≡ z → r ≤ x * (8 * e) + 8 * a → z ≤ 4 * b → x + 1 ≤ 6
          → 8 * a + 4 * b ≤ 8 * e → w ≤ 48 * e
      total w r o z x e a b sum one cost last small fits = let c =
          mul-le x (8 * e) 5 (8 * e) (omega arith) (omega arith) in omega arith

pub networks-stop : CostsAreBounded → Commands → StatesHaveEntries → NetworksStop
networks-stop costs commands has m l names k test machine uniform numbering net tells s c now t stop =
    ended costs commands has m l names k test machine uniform numbering net tells s c now t stop

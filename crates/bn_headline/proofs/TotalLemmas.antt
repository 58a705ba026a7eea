-- The states of the control of Bennett's machine, counted.
use Rattle.std.proofs.Common.{◌≡◌, Bool, ℕ, ◌+◌, ◌-◌, ◌*◌, List, [], ◌∷◌, ◌++◌, length, refl, sym, ap, ◌∙◌, arith}
use Rattle.std.proofs.Common.{length-append}
use Rattle.std.specs.List.{filter, range_with_len}
use Rattle.std.proofs.lemmas.List.{length-map, length-reverse}
use Rattle.std.proofs.lemmas.Option.{get_or_from_slice_get}
use Rattle.bn_machine.specs.Machine.{Program, start_of}
use Rattle.bn_machine.specs.declared.quint.Side.{Side}
use Rattle.bn_quad.specs.Quadruples.{Deed, Quadruples, Rule, deeds_of, IsQuadMachine, final_state_of}
use Rattle.bn_quad.specs.Calls.{IsUniformMachine}
use Rattle.bn_network.specs.Controls.{ControlState, Reads, Shifts, Writes, IsNumbering, reads, shifts, rising, reads_of}
use Rattle.bn_network.specs.Controls.{shifts_of, writes_of, symbols_read}
use Rattle.bn_bennett.specs.Translation.{name_of}
use Rattle.bn_bennett.proofs.Counting.{numbers_states}
use Rattle.bn_bennett_laws.specs.List.{bennett}
use Rattle.bn_bennett_laws.specs.Names.{NumbersStates}
use Rattle.bn_bennett_laws.specs.Renamed.{rename, name_at}
use Rattle.bn_bennett_laws.specs.Stages.{IsStandardMachine}
use Rattle.bn_bennett_laws.specs.declared.name.Name.{Name}
use Rattle.bn_bennett_laws.specs.declared.name.Name.TheVariants.{GoRight, Retrace}
use Rattle.bn_bennett_laws.proofs.Halted.{some_symbol}
use Rattle.bn_bennett_laws.proofs.Numbering.{numbers_pass_tests}
use Rattle.bn_table.specs.Rows.{FitsTable}
use Rattle.bn_lists.proofs.MemberLemmas.{place_of, member_at}
use Rattle.bn_network.proofs.KeyLemmas.{by_key, keys_ordered}
use Rattle.bn_network.proofs.SortedLemmas.{one_place}
use Rattle.bn_headline.specs.CountLaws.{ControlsAreCounted, without_shift, never_entered, never_left}
use Rattle.bn_headline.proofs.Told.{is_reader, is_written, low}
use Rattle.bn_lists.proofs.ApartLemmas.{same_length, apart_places}
use Rattle.bn_headline.proofs.AlongLemmas.{total, length_along, total_renamed}
use Rattle.bn_headline.proofs.PrefixLemmas.{inits, length_inits, tails, length_tails}
use Rattle.bn_headline.proofs.CountLemmas.{passing, by_places}
use Rattle.bn_headline.proofs.NameLemmas.{start_low, count_readers, count_written}
use Rattle.bn_headline.proofs.SumLemmas.{more_reads as sum_reads, more_writes as sum_writes, all_shifts}
use Rattle.bn_headline.proofs.StateLemmas as state

-- how many states each quadruple adds
many_reads : (n : ℕ) (r : Rule ℕ) → length (state.read_states n r) ≡ length (reads 1 (deeds_of r)) - 1
many_reads n r = by (reads_of r)
  where
    by : (l : List (ℕ × ℕ)) → length (state.more_reads r.from l) ≡ length l - 1
    by [] = refl
    by (q ∷ l) = let all = length-map (inits (symbols_read l)) (λ (b : List ℕ). Reads r.from (q.1 ∷ b))
        ∙ length_inits (symbols_read l) ∙ length-map l (λ (v : ℕ × ℕ). v.1) in omega arith

many_shifts : (n : ℕ) (r : Rule ℕ) → length (state.shift_states n r) ≡ length (shifts 1 (deeds_of r))
many_shifts n r = length-map (shifts_of r) (λ (s : ℕ × Side). Shifts n s.0)

many_writes : (n : ℕ) (r : Rule ℕ) → length (state.write_states n r) ≡ length (rising 1 (deeds_of r)) - 1
many_writes n r =
    let all = length-map (tails (writes_of r)) (state.write_state r.to) ∙ length_tails (writes_of r) in
    let turned = length-reverse (rising 1 (deeds_of r)) in
    omega arith

module _ (p : Program) (standard : IsStandardMachine p) (fits : FitsTable p) (order : List Name)
    (numbers : NumbersStates (bennett p) order) (m : Quadruples) (is : IsQuadMachine m) (u : IsUniformMachine m)
    (rules : rename (name_at GoRight order) m.rules ≡ bennett p) (states : m.states ≡ length order)
    (final : name_at GoRight order (final_state_of m.rules) ≡ Retrace (start_of p.quints)) where
  abbrev named : ℕ → Name
  named a = name_at GoRight order a

  -- by number and by name
  by_number : (test : Name → Bool) → length (filter (λ a. test (named a)) (range_with_len 0 m.states))
      ≡ passing test order
  by_number test =
      ap (λ n. length (filter (λ a. test (named a)) (range_with_len 0 n))) states
      ∙ by_places test named order 0 (λ i x e. let place : 0 + i ≡ i = omega arith in ap named place
      ∙ get_or_from_slice_get order i x GoRight e)

  -- a sum over the quadruples, with numbers and with names
  by_rules : (h : List Deed → ℕ) → total (λ (r : Rule ℕ). h (deeds_of r)) m.rules
      ≡ total (λ (r : Rule Name). h (deeds_of r)) (bennett p)
  by_rules h = sym (total_renamed h named m.rules) ∙ ap (total (λ (r : Rule Name). h (deeds_of r))) rules

  abbrev firsts : List ControlState
  firsts = state.firsts p standard order numbers m is u rules states final

  abbrev more_read : List ControlState
  more_read = state.more_read p standard order numbers m is u rules states final

  abbrev shifted : List ControlState
  shifted = state.shifted p standard order numbers m is u rules states final

  abbrev lasts : List ControlState
  lasts = state.lasts p standard order numbers m is u rules states final

  abbrev more_written : List ControlState
  more_written = state.more_written p standard order numbers m is u rules states final

  pub count_listed : length (state.listed p standard order numbers m is u rules states final) + 2 * without_shift p
      + never_entered p + never_left p ≡ 12 * length p.quints + 4 * (p.states - 1) + 8 * p.symbols + 16
  count_listed =
      let parts : length (firsts ++ (more_read ++ (shifted ++ (lasts ++ more_written))))
      ≡ length firsts + (length more_read + (length shifted + (length lasts + length more_written))) = simp
      length-append refl in
      let a : length firsts ≡ 2 * p.states + 2 * length p.quints + 1
      = length-map (state.readers p standard order numbers m is u rules states final) (λ a. Reads a [])
      ∙ by_number (is_reader p) ∙ count_readers p standard fits order numbers in
      let b : length more_read ≡ 2 * length p.quints + 4 * p.symbols + 2
      = length_along state.read_states (λ r. length (reads 1 (deeds_of r)) - 1) many_reads 1 m.rules
      ∙ by_rules (λ ds. length (reads 1 ds) - 1) ∙ sum_reads p (some_symbol p standard.machine) in
      let c : length shifted ≡ total (λ (r : Rule Name). length (shifts 1 (deeds_of r))) (bennett p)
      = length_along state.shift_states (λ r. length (shifts 1 (deeds_of r))) many_shifts 1 m.rules
      ∙ by_rules (λ ds. length (shifts 1 ds)) in
      let d : length lasts ≡ passing (is_written p) order
      = length-map (state.written p standard order numbers m is u rules states final) (λ a. Writes a (low (named a)) [])
      ∙ by_number (is_written p) in
      let e : length more_written ≡ 2 * length p.quints + 4 * p.symbols + 2
      = length_along state.write_states (λ r. length (rising 1 (deeds_of r)) - 1) many_writes 1 m.rules
      ∙ by_rules (λ ds. length (rising 1 ds) - 1) ∙ sum_writes p (some_symbol p standard.machine) in
      let shift_count = all_shifts p in
      let write_count = count_written p standard fits order numbers in
      let some = start_low p standard fits order numbers in
      omega arith

  -- the control's states are those listed
  pub length_names : (names : List ControlState) → IsNumbering m names
      → length names ≡ length (state.listed p standard order numbers m is u rules states final)
  length_names names numbering =
      same_length names (state.listed p standard order numbers m is u rules states final)
      (apart_places names (λ i j x e d. one_place by_key keys_ordered names numbering.rising_keys i j x e d))
      (state.listed_apart p standard order numbers m is u rules states final)
      (λ x h. let at = place_of names x h in state.occurs_listed p standard order numbers m is u rules states final x
      (numbering.only at.0 x at.1))
      (λ x h. let at = numbering.each x (state.listed_occurs p standard order numbers m is u rules states final x h) in
      member_at names at.0 x at.1)

pub controls_are_counted : ControlsAreCounted
controls_are_counted p t names standard fits translated numbering =
    let numbers = numbers_states (bennett p) t.names translated.names in
    let tests = numbers_pass_tests p standard (name_of t) t.machine.rules translated.rules in
    let uniform : IsUniformMachine t.machine = record {
      deterministic = tests.0;
      reversible = tests.1;
      uniform = tests.2;
    } in
    let long = length_names p standard fits t.names numbers t.machine translated.machine uniform translated.rules
    translated.states tests.4 names numbering in
    ap (λ n. n + 2 * without_shift p + never_entered p + never_left p) long
    ∙ count_listed p standard fits t.names numbers t.machine translated.machine uniform translated.rules
    translated.states tests.4

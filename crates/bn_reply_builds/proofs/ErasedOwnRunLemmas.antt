-- The own run of the table that is read, from that of the erasing machine over names.
use Rattle.std.specs.Prelude.{◌≡◌, ℕ, ◌<◌, ℤ, pos, negsuc, List, [], map, All, Some}
use Rattle.std.proofs.Common.{zero, suc, arith, sym, ap, subst, ◌∙◌}
use Rattle.std.proofs.Common.{inl, inr}
use Rattle.std.specs.Prelude.{◌≤◌, length, slice_index}
use Rattle.std.proofs.lemmas.Bool.{cases_lt}
use Rattle.std.proofs.lemmas.List.{get_or_past}
use Rattle.std.proofs.lemmas.Option.{get_or_from_slice_get}
use Rattle.bn_csv.specs.Entries.{entries_of}
use Rattle.bn_lists.specs.Lists.{IsIn, nth}
use Rattle.bn_lists.specs.Runs.{Reaches}
use Rattle.bn_machine.specs.Machine.{Program}
use Rattle.bn_machine.specs.Outcome.{Limits}
use Rattle.bn_machine.specs.Tape.{blank_tape, cell, letter_at, word_tape}
use Rattle.bn_machine.proofs.TapeLemmas.{cell-word}
use Rattle.bn_quad.specs.Calls.{IsUniformMachine}
use Rattle.bn_quad.specs.Quadruples.{Configuration, IsQuadMachine, final_state_of, initial_of}
use Rattle.bn_qtable.specs.Reading.{ReadsQuadruples}
use Rattle.bn_qtable.specs.Rows.{QuadTable, counts_of}
use Rattle.bn_bennett_laws.specs.Names.{states_in}
use Rattle.bn_bennett_laws.specs.Renamed.{in_state}
use Rattle.bn_bennett_laws.specs.Stages.{IsStandardMachine, rooms_of}
use Rattle.bn_bennett_laws.specs.Steps.{EndsAt, Exit, HasExit, Steps}
use Rattle.bn_bennett_laws.proofs.InsideLemmas.{begins_in, ends_in, state_below}
use Rattle.bn_bennett_laws.proofs.NumberLemmas.{run_of_goes, run_of_steps}
use Rattle.bn_erase_laws.specs.Erasing.{erasing, erasing_end, erasing_final, erasing_start}
use Rattle.bn_erase_laws.specs.declared.name.ErasingName.{ErasingName}
use Rattle.bn_erase_laws.proofs.NumberedLemmas.{erasing_numbers_run_alike, erasing_numbers_pass_tests}
use Rattle.bn_erase.specs.Laws.{end_of, start_of}
use Rattle.bn_erase.specs.Made.{Erasure, IsErasing, name_of}
use Rattle.bn_erase.proofs.AlikeLemmas.{begins_named, ends_named, names_apart}
use Rattle.bn_renumbering.specs.Renumbering.{IsConfigurationOf, IsRenumbered, IsRenumbering, Renumbering}
use Rattle.bn_renumbering.proofs.RunLemmas.{renumberings-run}
use Rattle.bn_erase.proofs.ClosedLemmas.{erasings_uniform}
use Rattle.bn_renumbering.proofs.BackLemmas.{table_machine}
use Rattle.bn_network.specs.Controls.{symbol_count}
use Rattle.bn_network.specs.Networks.{IsTape}
use Rattle.bn_network.specs.Starts.{words_on}
use Rattle.bn_reply_machines.specs.NamedWords.{IsSymbolOn}
use Rattle.bn_reply_builds.proofs.TableFacts.{buildable}
use Rattle.bn_reply_builds.specs.DriveHeadline.{IsOwnRun}
use Rattle.bn_reply_builds.proofs.RenumberedLemmas.{words-renumbered}
use Rattle.bn_erase_laws.specs.EraseWindows.{EndsIn}

-- ---- over numbers

module _ (p q : Program) (e : Erasure) (h : IsErasing p q e) (left : IsStandardMachine p)
    (right : IsStandardMachine q) where
  start_named : (x : List ℕ) → in_state (name_of e) (start_of e x) ≡ erasing_start p x
  start_named x = λ i. record {
    state = begins_named p q e h left right erasing_numbers_pass_tests i;
    one = word_tape x;
    two = blank_tape;
    three = blank_tape;
  }

  -- as the machine over names ends in the window, so does that over numbers
  pub ends_numbered : (l : Limits) (x : List ℕ) (n : ℕ) (d : Configuration ErasingName) (exit : Exit)
      → EndsIn p q x l n d exit → (c : Configuration ℕ)
      × HasExit (rooms_of l) e.machine.rules (final_state_of e.machine.rules) n (start_of e x) c exit
      × (d ≡ in_state (name_of e) c) × IsIn (states_in e.machine.rules) c.state
  ends_numbered l x n d exit run =
      let alike = erasing_numbers_run_alike p q left right (name_of e) e.machine h.rules (names_apart p q e h)
      (rooms_of l) in
      let start = sym (start_named x) in
      let found = (alike (start_of e x) (begins_in e.machine h.machine)).1 n d
      (subst (λ b. Reaches (Steps (rooms_of l) (erasing p q) (erasing_final q)) n b d) start run.run) in (
        found.0,
        record {
          run = run_of_goes (rooms_of l) e.machine n (start_of e x) found.0 found.1;
          ends = ((alike found.0 found.3).2 exit).1
              (subst (λ b. EndsAt (rooms_of l) (erasing p q) (erasing_final q) b exit) found.2 run.ends);
        },
        found.2,
        found.3,
      )

  -- the end over names is the end over numbers
  pub same_end : (y : List ℕ) (d : Configuration ℕ) → IsIn (states_in e.machine.rules) d.state
      → erasing_end q y ≡ in_state (name_of e) d → d ≡ end_of e y
  same_end y d inside is =
      let names : name_of e d.state ≡ name_of e (final_state_of e.machine.rules) =
      sym (ap (λ (c : Configuration ErasingName). c.state) is)
      ∙ sym (ends_named p q e h left right erasing_numbers_pass_tests) in
      let state : d.state ≡ final_state_of e.machine.rules =
      (names_apart p q e h).apart d.state (final_state_of e.machine.rules) inside (ends_in e.machine h.machine) names in
      λ i. record { state = state i; one = (sym is i).one; two = (sym is i).two; three = (sym is i).three }

-- ---- over the numbers that are read

-- the cells of a word's tape are its letters and the blank
word_below : (z : ℕ) → 0 < z → (word : List ℕ) → All (λ s. s < z) word → (i : ℤ) → cell (word_tape word) i < z
word_below z some word letters i = subst (λ v. v < z) (sym (cell-word word i)) (by i)
  where
    by : (i : ℤ) → letter_at word i < z
    by (pos zero) = some
    by (pos (suc n)) =
        elim (cases_lt n (length word)) [
          | inl low ↦ letters n 0 low
          | inr high ↦ subst (λ v. v < z) (sym (get_or_past word n 0 high)) some
        ]
    by (negsuc n) = some

module _ (table : List ℕ) (r : QuadTable) (reads : ReadsQuadruples table r) (uniform : IsUniformMachine r.machine)
    (z : List ℕ) (known : All (IsSymbolOn r.names.one) z) where
  machine : IsQuadMachine r.machine
  machine = table_machine (entries_of table) r reads

  is_tape : (t : ℕ) → 0 < t → t ≤ 3 → IsTape t
  is_tape t low high = record { low = low; high = high }

  letter_count : (t count : ℕ) → 0 < t → t ≤ 3 → symbol_count r.machine t ≡ count → 0 < count
  letter_count t count low high is =
      subst (λ v. 0 < v) is ((buildable table r reads uniform).letters t (is_tape t low high))

  starts_within : IsConfigurationOf r.machine (words_on r.machine z [] [])
  starts_within = record {
    state = state_below r.machine machine (initial_of r.machine.rules) (begins_in r.machine machine);
    one = λ n at i. subst (λ v. cell (word_tape z) i < v) (count_at 0 n at)
        (word_below (length r.names.one) (letter_count 1 (length r.names.one) (omega arith) (omega arith)
        (ap (λ zs. slice_index zs 0) reads.symbols)) z (λ j d low. (known j d low).known) i);
    two = λ n at i. subst (λ v. cell (word_tape []) i < v) (count_at 1 n at)
        (word_below (length r.names.two) (letter_count 2 (length r.names.two) (omega arith) (omega arith)
        (ap (λ zs. slice_index zs 1) reads.symbols)) [] (λ j d low. absurd (omega arith)) i);
    three = λ n at i. subst (λ v. cell (word_tape []) i < v) (count_at 2 n at)
        (word_below (length r.names.three) (letter_count 3 (length r.names.three) (omega arith) (omega arith)
        (ap (λ zs. slice_index zs 2) reads.symbols)) [] (λ j d low. absurd (omega arith)) i);
  }
    where
      count_at : (t n : ℕ) → nth r.machine.symbols (suc t) ≡ Some n → slice_index (counts_of r.names) t ≡ n
      count_at t n at = ap (λ zs. slice_index zs t) (sym reads.symbols)
          ∙ get_or_from_slice_get r.machine.symbols t n 0 at

  module _ (p q : Program) (e : Erasure) (h : IsErasing p q e) (left : IsStandardMachine p)
      (right : IsStandardMachine q) (back : Renumbering) (is : IsRenumbering back r.machine e.machine)
      (x : List ℕ) (spelled : map back.one z ≡ x) (l : Limits) (n : ℕ) (last : Configuration ErasingName)
      (exit : Exit) (run : EndsIn p q x l n last exit) where
    starts_alike : IsRenumbered back (words_on r.machine z [] []) (start_of e x)
    starts_alike =
        subst (λ w. IsRenumbered back (words_on r.machine z [] []) (words_on e.machine w [] [])) spelled
        (words-renumbered back r.machine e.machine machine is z [] [])

    -- the own run of the read machine in the window, and where it ends
    pub own_run : (d : Configuration ℕ) × IsOwnRun r l z [] [] n d exit × (c : Configuration ℕ)
        × IsRenumbered back d c × (last ≡ in_state (name_of e) c) × IsIn (states_in e.machine.rules) c.state
    own_run =
        let passes = (erasings_uniform p q e left right h).0 in
        let named = ends_numbered p q e h left right l x n last exit run in
        let found = (renumberings-run back r.machine e.machine machine is passes.deterministic (rooms_of l) n
        (words_on r.machine z [] []) (start_of e x) exit starts_within starts_alike).1 named.0 named.1 in (
          found.0,
          record {
            runs = run_of_steps (rooms_of l) r.machine uniform.deterministic n (words_on r.machine z [] []) found.0
                found.1.run;
            ends = found.1.ends;
          },
          named.0,
          found.2,
          named.2,
          named.3,
        )

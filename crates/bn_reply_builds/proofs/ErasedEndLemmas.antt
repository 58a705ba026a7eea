-- The circuit that erases comes to its end, by the tables, the word and the window.
use Rattle.std.specs.Prelude.{◌≡◌, ℕ, ◌+◌, ◌*◌, ◌<◌, ◌≤◌, List, [], ◌∷◌, ◌++◌, codes, length, map, slice_index}
use Rattle.std.specs.Prelude.{◌^◌, Some, refl, ⊤}
use Rattle.std.proofs.Common.{arith, sym, ap, subst, ◌∙◌, inl, inr}
use Rattle.std.proofs.lemmas.Bool.{cases_lt}
use Rattle.std.proofs.lemmas.List.{length-map}
use Rattle.std.proofs.lemmas.Nat.{mul-le}
use Rattle.bn_circuits.specs.Circuits.{clock}
use Rattle.bn_circuits.specs.declared.place.Place.{Place}
use Rattle.bn_machine.specs.Outcome.{Limits}
use Rattle.bn_machine.specs.Tape.{blank_tape, cell, word_tape}
use Rattle.bn_circuits.specs.declared.net.TheConstants.{MOST_ELEMENTS}
use Rattle.bn_quad.specs.Quadruples.{Configuration, Quadruples}
use Rattle.bn_qtable.specs.Reading.{ReadsQuadruples}
use Rattle.bn_qtable.specs.Rows.{QuadTable}
use Rattle.bn_qtable.specs.TapeWords.{Letters, One}
use Rattle.bn_table.specs.Rows.{Named}
use Rattle.bn_bennett_laws.specs.Stages.{IsStandardMachine}
use Rattle.bn_bennett_laws.specs.Steps.{Exit, Finished, Leaving, Stopped}
use Rattle.bn_bennett_laws.specs.Names.{states_in}
use Rattle.bn_bennett_laws.specs.Renamed.{in_state}
use Rattle.bn_bennett_laws.specs.Stages.{IsSpelledBy as IsLettersOf}
use Rattle.bn_lists.specs.Lists.{IsIn}
use Rattle.bn_erase.specs.Joint.{IsJoint, Joint, joined}
use Rattle.bn_erase.specs.Laws.{end_of}
use Rattle.bn_erase.specs.Made.{Erasure, IsErasing, name_of}
use Rattle.bn_erase.specs.Printed.{history_names, letter_names, names_of}
use Rattle.bn_erase_laws.specs.Erasing.{IsWord, erasing_end}
use Rattle.bn_erase_laws.specs.declared.name.ErasingName.{ErasingName}
use Rattle.bn_renumbering.specs.Renumbering.{IsRenumbered, ReadsBack}
use Rattle.bn_network.specs.Controls.{symbol_count}
use Rattle.bn_network.specs.Limits.{AreSmall}
use Rattle.bn_network.specs.Networks.{elements_by}
use Rattle.bn_network.specs.Starts.{FitsWindow, start_from, words_on}
use Rattle.bn_network.proofs.OccurringLemmas.{order_there}
use Rattle.bn_network_assembly.specs.Assembled.{CountsElements}
use Rattle.bn_boards.specs.Layouts.{spelled_config}
use Rattle.bn_boards.specs.BuildRuns.{BuildRunsTo}
use Rattle.bn_boards.specs.Builds.{Build, start_of}
use Rattle.bn_reply_builds.proofs.BuiltLemmas.{build_count}
use Rattle.bn_reply_machines.specs.NamedWords.{IsNamedBy}
use Rattle.bn_quad.specs.Calls.{IsUniformMachine}
use Rattle.bn_boards.proofs.FitLemmas.{final_fits}
use Rattle.bn_reply.specs.Lines.{line}
use Rattle.bn_reply.specs.declared.status.Status.{Status}
use Rattle.bn_reply.specs.declared.status.Status.TheVariants as statuses
use Rattle.bn_reply_erase.proofs.AnswerLemmas.{word_letters, word_nonblank}
use Rattle.bn_reply_relations.specs.RunText.{elements_line, quadruple_line, steps_line}
use Rattle.bn_reply_erase.specs.EraseReply.{EraseReplies}
use Rattle.bn_reply_builds.specs.BuildReply.{IsBuiltFor, IsUncrowded, first_long, long}
use Rattle.bn_reply.specs.Lines.{long_line}
use Rattle.bn_reply_machines.specs.QuadReply.{passes}
use Rattle.bn_reply_machines.specs.UniformReply.{uniform}
use Rattle.bn_reply_machines.specs.WordsReply as naming
use Rattle.bn_reply_builds.specs.Driven.{drive_status}
use Rattle.bn_reply_builds.proofs.DriveSettledLemmas.{drive_is_settled}
use Rattle.bn_reply_builds.specs.Outcomes.{drive_tape_lines}
use Rattle.bn_reply_builds.specs.DriveHeadline.{IsGiven, IsOwnRun}
use Rattle.bn_reply_builds.specs.DriveReply.{DriveReplies}
use Rattle.bn_reply_builds.specs.ErasedDrives.{AreErasedBy, output_lines}
use Rattle.bn_reply_builds.proofs.HeadlineLemmas.{build_within, drives-tell_machine}
use Rattle.bn_erase_laws.specs.EraseWindows.{EndsIn, erasing_steps, second_window}
use Rattle.bn_erase_laws.proofs.WindowEndsLemmas.{runs-end}
use Rattle.bn_erase_laws.proofs.WindowEraseLemmas.{erases-in_windows}
use Rattle.bn_erase_laws.proofs.WindowHaltLemmas.{halts_at}
use Rattle.bn_erase.proofs.ThereLemmas.{erasings-there}
use Rattle.bn_reply_builds.specs.ErasedRuns.{DriveLeaves, LeavesBy, TablesEndIn, TablesHaltIn, erased_end}
use Rattle.bn_reply_builds.specs.ErasedRunLaws.{EndsTellHalts, ErasedCircuitsComeOut, ErasedCircuitsEnd}
use Rattle.bn_reply_builds.proofs.ErasedComeLemmas.{above, begins, below, ends, ran, told_so}
use Rattle.bn_reply_builds.proofs.ErasedLineLemmas.{tape_line_as}
use Rattle.bn_reply_builds.proofs.ErasedOwnRunLemmas.{own_run, same_end}
use Rattle.bn_reply_builds.proofs.ErasedTableLemmas.{joint, read_table, standard, uncrowded}
use Rattle.bn_reply_builds.proofs.ErasedWordLemmas.{word_named}

-- the clock has room for each window that may be asked for
clock_room : (count n : ℕ) → count ≤ 4194304 → n ≤ 16777226 → 4 * count + 48 * count * (n + 1) ≤ clock
clock_room count n few short =
    let product = mul-le (48 * count) (n + 1) 201326592 16777227 (omega arith) (omega arith) in
    omega (arith, product)

cost_low : (count n cost : ℕ) → count ≤ 4194304 → n ≤ 16777226 → cost ≤ 4 * count + 48 * count * (n + 1) → cost ≤ 2 ^ 52
cost_low count n cost few short bound =
    let product = mul-le (48 * count) (n + 1) 201326592 16777227 (omega arith) (omega arith) in
    omega (arith, product)

module _ (bytes word table : List ℕ) (silent : List Place) (printed : EraseReplies bytes statuses.Done table silent)
    (t u : Named) (x : List ℕ) (pair : AreErasedBy bytes word t u x) (e : Erasure)
    (is : IsErasing (joined t u).first (joined t u).second e) (l : Limits) (small : AreSmall l) where
  abbrev j : Joint
  j = joined t u

  both_joint : IsJoint j
  both_joint = joint bytes word table silent printed t u x pair

  both_standard : IsStandardMachine j.first × IsStandardMachine j.second
  both_standard = standard bytes word table silent printed t u x pair

  same_symbols : j.first.symbols ≡ j.second.symbols
  same_symbols = both_joint.first_symbols ∙ sym both_joint.second_symbols

  letters : IsLettersOf j.first x
  letters = word_letters j both_joint x pair.spelled.symbols_known

  nonblank : IsWord x
  nonblank = word_nonblank j x pair.spelled.symbols_known

  read : (r : QuadTable) × ReadsQuadruples table r × ReadsBack e.machine (names_of j e) r × IsUniformMachine r.machine
  read = read_table bytes word table silent printed t u x pair e is

  abbrev r : QuadTable
  r = read.0

  back : ReadsBack e.machine (names_of j e) r
  back = read.2

  -- ---- what is given

  -- the word by the names that were read
  named : (z : List ℕ) × IsNamedBy r.names.one (map (λ b. b ∷ []) word) z × (map back.renumbering.one z ≡ x)
  named = word_named j both_joint e is table r read.1 back word x pair.spelled

  abbrev z : List ℕ
  z = named.0

  as_long : length z ≡ length x
  as_long = sym (length-map z back.renumbering.one) ∙ ap length named.2

  no_names : (names : List (List ℕ)) → IsNamedBy names [] []
  no_names names = record { spelled = refl; symbols_known = λ i d low. absurd (omega arith) }

  few_symbols : IsUncrowded r.machine
  few_symbols = uncrowded j both_joint e table r read.1 back

  -- what is answered to a word that doesn't fit
  not_long : (most : ℕ) (text : List ℕ) (told : List Place) → most ≤ 2305843009213693952
      → DriveReplies (One (Letters word)) l most table statuses.Done text told → length x ≤ l.right
  not_long most text told low reply =
      elim (cases_lt l.right (length x)) [
        | inl far ↦
            let refused : DriveReplies (One (Letters word)) l most table statuses.Size (long_line (length z)) [] =
            passes r read.1 read.3.deterministic read.3.reversible
            (uniform read.3.uniform
            (naming.named z named.1 (naming.named [] (no_names r.names.two) (naming.named [] (no_names r.names.three)
            (long few_symbols 1 (length z) (first_long (omega (arith, as_long)) refl refl) refl refl refl))))) in
            let same = (drive_is_settled (One (Letters word)) l most table low).one statuses.Done statuses.Size text
            (long_line (length z)) told [] reply refused in
            absurd (let both = same.statuses in cc)
        | inr fits ↦ fits
      ]

  module _ (fits_word : length x ≤ l.right) (n : ℕ) (last : Configuration ErasingName) (exit : Exit)
      (comes : EndsIn j.first j.second x l n last exit) (short : n ≤ 16777226) where
    given : IsGiven (One (Letters word)) table l r z [] []
    given = record {
      reads = read.1;
      uniform = read.3;
      few = few_symbols;
      named = record { on_one = named.1; on_two = no_names r.names.two; on_three = no_names r.names.three };
      room = record { on_one = omega (arith, as_long); on_two = omega arith; on_three = omega arith };
    }

    own : (d : Configuration ℕ) × IsOwnRun r l z [] [] n d exit × (c : Configuration ℕ)
        × IsRenumbered back.renumbering d c × (last ≡ in_state (name_of e) c) × IsIn (states_in e.machine.rules) c.state
    own = own_run table r read.1 read.3 z named.1.symbols_known j.first j.second e is both_standard.0 both_standard.1
        back.renumbering back.is_renumbering x named.2 l n last exit comes

    abbrev d : Configuration ℕ
    d = own.0

    numbering : CountsElements r.machine l (elements_by r.machine l (length (order_there r.machine).0))
    numbering = ((order_there r.machine).0, (order_there r.machine).1, refl)

    abbrev count : ℕ
    count = elements_by r.machine l (length (order_there r.machine).0)

    -- ---- the tapes at the end

    module _ (y : List ℕ) (alike : IsRenumbered back.renumbering d (end_of e y)) (f : Build)
        (h : IsBuiltFor r.machine l f) where
      fits : FitsWindow f.machine f.limits d
      fits = final_fits f h.build (words_on r.machine z [] [])
          (start_from f.machine f.limits (words_on r.machine z [] [])) (start_of f (words_on r.machine z [] []))
          (begins word table l r z given n d exit own.1 count numbering f h) n d exit
          (ends word table l r z given n d exit own.1 count numbering f h)

      many_on : (k : ℕ) → symbol_count f.machine k ≡ symbol_count r.machine k
      many_on k = ap (λ (q : Quadruples). symbol_count q k) h.machine

      tapes : drive_tape_lines r (spelled_config l d) ≡ output_lines j l y
      tapes =
          let symbols = read.1.symbols in
          let one = tape_line_as back.renumbering.one r.names.one (letter_names j) back.one d.one blank_tape alike.one
          (λ p. subst (λ m. cell d.one p < m) (many_on 1 ∙ ap (λ zs. slice_index zs 0) symbols) (fits.one.symbols p))
          1 l.left (l.left + l.right + 1) in
          let two = tape_line_as back.renumbering.two r.names.two (history_names j) back.two d.two blank_tape alike.two
          (λ p. subst (λ m. cell d.two p < m) (many_on 2 ∙ ap (λ zs. slice_index zs 1) symbols) (fits.two.symbols p))
          2 0 (l.steps + 1) in
          let three = tape_line_as back.renumbering.three r.names.three (letter_names j) back.three d.three
          (word_tape y) alike.three
          (λ p. subst (λ m. cell d.three p < m) (many_on 3 ∙ ap (λ zs. slice_index zs 2) symbols)
          (fits.three.symbols p)) 3 0 (l.output + 1) in
          λ i. one i ++ (two i ++ three i)

    -- ---- the circuit

    abbrev Tells : ℕ → Status → List ℕ → List Place → Type 0
    Tells most = DriveReplies (One (Letters word)) l most table

    -- the lines of the end, by the names that were read
    abbrev read_end : ℕ → List ℕ
    read_end cost = elements_line count ++ (line (codes "exit end" ∷ []) ++ (steps_line cost ++ (quadruple_line n
        ++ drive_tape_lines r (spelled_config l d))))

    module _ (is_text : ℕ → ℕ → List ℕ → Type 0)
        (text_by : (f : Build) → IsBuiltFor r.machine l f → (cost : ℕ) (text : List ℕ)
        → (exit ≡ Finished → text ≡ read_end cost) → is_text count cost text) where
      few_of : (f : Build) → IsBuiltFor r.machine l f → count ≤ MOST_ELEMENTS
      few_of f h =
          subst (λ m. m ≤ MOST_ELEMENTS) (build_count r.machine l f h (order_there r.machine).0
          (order_there r.machine).1) h.few

      -- the run of a board
      module _ (f : Build) (h : IsBuiltFor r.machine l f) where
        clock_left : 4 * count + 48 * count * (n + 1) ≤ clock
        clock_left = clock_room count n (few_of f h) short

        board : BuildRunsTo f (start_from f.machine f.limits (words_on r.machine z [] []))
            (start_of f (words_on r.machine z [] [])) n d exit
        board = ran word table l r z given n d exit own.1 count numbering f h clock_left

        leaving : LeavesBy Tells count n exit (is_text count) board.cost
        unfolding board
        leaving = record {
          above = above word table l r z given n d exit own.1 count numbering f h clock_left;
          below = below word table l r z given n d exit own.1 count numbering f h clock_left;
          few = cost_low count n board.cost (few_of f h) short
              (below word table l r z given n d exit own.1 count numbering f h clock_left);
          left = λ most status text told low reply enough.
              let told_here = (told_so word table l r z given n d exit own.1 count numbering f h clock_left most low
              status text told reply (few_of f h)).0 enough in
              (told_here.0, text_by f h board.cost text told_here.1);
          inside = λ most status text told low reply more.
              (told_so word table l r z given n d exit own.1 count numbering f h clock_left most low status text told
              reply (few_of f h)).1 more;
        }

      drive_leaves : DriveLeaves word table l n exit is_text
      drive_leaves = record {
        read = r;
        one = z;
        given = given;
        count = count;
        counts = numbering;
        final = d;
        runs = board;
        told = leaving;
        circuit = record {
          large = λ great most status text told low reply.
              (drives-tell_machine (One (Letters word)) l most table status text told low reply r z [] [] given n d exit
              own.1).large count numbering great;
          leaves = λ few.
              let found = build_within (One (Letters word)) table l r z [] [] given count numbering few in
              ((board found.0 found.1).cost, leaving found.0 found.1);
        };
      }

  -- ---- the end

  module _ (v w : ℕ) (y : List ℕ) (halt : TablesHaltIn t u x l v w y) where
    room_for_word : length x + 1 ≤ l.right
    room_for_word =
        let last = (halts_at j.second (second_window l) w halt.back.moment x halt.back.ends).room (length x + 1)
        (omega arith) (omega arith) in
        last.output

    short : erasing_steps x y v w ≤ 16777226
    short =
        let first : v ≤ l.steps = halt.there.in_time in
        let second : w ≤ l.steps = halt.back.in_time in
        let steps : l.steps ≤ 1048576 = small.2 in
        let right : l.right ≤ 1048576 = small.1 in
        let output : l.output ≤ 1048576 = small.3 in
        let one = (halts_at j.first l v halt.there.moment y halt.there.ends).room (length y + 1) (omega arith)
        (omega arith) in
        let behind : length y + 1 ≤ l.output = one.output in
        omega (arith, room_for_word)

    fitting : length x ≤ l.right
    fitting = omega (arith, room_for_word)

    comes : EndsIn j.first j.second x l (erasing_steps x y v w) (erasing_end j.second y) Finished
    comes = (erases-in_windows j.first j.second x l both_standard.0 both_standard.1 same_symbols letters nonblank).0 v w
        y halt

    comes_out : DriveLeaves word table l (erasing_steps x y v w) Finished
        (λ count cost text. text ≡ erased_end j l y count cost (erasing_steps x y v w))
    comes_out =
        let n : ℕ = erasing_steps x y v w in
        let last : Configuration ErasingName = erasing_end j.second y in
        let found = own fitting n last Finished comes short in
        let at_end : found.2 ≡ end_of e y =
        same_end j.first j.second e is both_standard.0 both_standard.1 y found.2 found.5 found.4 in
        let alike : IsRenumbered back.renumbering found.0 (end_of e y) =
        subst (IsRenumbered back.renumbering found.0) at_end found.3 in
        drive_leaves fitting n last Finished comes short (λ count cost text. text ≡ erased_end j l y count cost n)
        (λ f h cost text is_text. is_text refl
        ∙ (λ i. elements_line (count fitting n last Finished comes short) ++ (line (codes "exit end" ∷ [])
        ++ (steps_line cost ++ (quadruple_line n
        ++ tapes fitting n last Finished comes short y alike f h i)))))

  -- ---- any exit

  module _ (fits_word : length x ≤ l.right) where
    found_end : (n : ℕ) × (d : Configuration ErasingName) × (exit : Exit) × TablesEndIn t u x l n d exit
        × (n ≤ 8 * l.steps + 4 * (l.right + l.output) + 10)
    found_end = runs-end j.first j.second x l both_standard.0 both_standard.1 same_symbols letters nonblank

    short_end : found_end.0 ≤ 16777226
    short_end =
        let bound = found_end.4 in
        let steps : l.steps ≤ 1048576 = small.2 in
        let right : l.right ≤ 1048576 = small.1 in
        let output : l.output ≤ 1048576 = small.3 in
        omega arith

    any_leaves : DriveLeaves word table l found_end.0 found_end.2 (λ count cost text. ⊤)
    any_leaves = drive_leaves fits_word found_end.0 found_end.1 found_end.2 found_end.3 short_end
        (λ count cost text. ⊤) (λ f h cost text is_text. tt)

    -- where the end is told, it is the end of the erasing machine's run
    finished : (most : ℕ) (text : List ℕ) (told : List Place) → most ≤ 2305843009213693952
        → DriveReplies (One (Letters word)) l most table statuses.Done text told → found_end.2 ≡ Finished
    finished most text told low reply =
        elim (cases_lt MOST_ELEMENTS any_leaves.count) [
          | inl great ↦
              let refused = (any_leaves.circuit.large great most statuses.Done text told low reply).0 in absurd (cc)
          | inr few ↦
              let leaves = any_leaves.circuit.leaves few in
              elim (cases_lt most leaves.0) [
                | inl more ↦ absurd (let inside = leaves.1.inside most statuses.Done text told low reply more in cc)
                | inr enough ↦ by_status found_end.2 (leaves.1.left most statuses.Done text told low reply enough).0
              ]
        ]
      where
        by_status : (exit : Exit) → statuses.Done ≡ drive_status (Some exit) → exit ≡ Finished
        by_status Finished h = refl
        by_status Stopped h = absurd (cc)
        by_status (Leaving tape side) h = absurd (cc)

    halts_told : (most : ℕ) (text : List ℕ) (told : List Place) → most ≤ 2305843009213693952
        → DriveReplies (One (Letters word)) l most table statuses.Done text told
        → (v w : ℕ) × (y : List ℕ) × TablesHaltIn t u x l v w y
    halts_told most text told low reply =
        let is_end = finished most text told low reply in
        let found = (erases-in_windows j.first j.second x l both_standard.0 both_standard.1 same_symbols letters
        nonblank).1 found_end.0 found_end.1
        (subst (λ (exit : Exit). EndsIn j.first j.second x l found_end.0 found_end.1 exit) is_end found_end.3) in
        (found.0, found.1, found.2, found.3)

-- ---- the laws

module _ (bytes word table : List ℕ) (silent : List Place) (printed : EraseReplies bytes statuses.Done table silent)
    (t u : Named) (x : List ℕ) (pair : AreErasedBy bytes word t u x) where
  made : (e : Erasure) × IsErasing (joined t u).first (joined t u).second e
  made =
      let both = joint bytes word table silent printed t u x pair in
      let machines = standard bytes word table silent printed t u x pair in
      erasings-there (joined t u).first (joined t u).second machines.0 machines.1 both.first_fits both.second_fits
      (both.first_symbols ∙ sym both.second_symbols)

pub erased-come_out : ErasedCircuitsComeOut
erased-come_out bytes word table silent printed t u x pair l small v w y halt =
    let e = made bytes word table silent printed t u x pair in
    comes_out bytes word table silent printed t u x pair e.0 e.1 l small v w y halt

pub ends-tell_halts : EndsTellHalts
ends-tell_halts bytes word table silent printed t u x pair l small most text told low reply =
    let e = made bytes word table silent printed t u x pair in
    halts_told bytes word table silent printed t u x pair e.0 e.1 l small
    (not_long bytes word table silent printed t u x pair e.0 e.1 l small most text told low reply) most text told low
    reply

pub erased-end : ErasedCircuitsEnd
erased-end bytes word table silent printed t u x pair l small fits =
    let e = made bytes word table silent printed t u x pair in
    let found = found_end bytes word table silent printed t u x pair e.0 e.1 l small fits in
    (found.0, found.1, found.2, found.3, any_leaves bytes word table silent printed t u x pair e.0 e.1 l small fits)

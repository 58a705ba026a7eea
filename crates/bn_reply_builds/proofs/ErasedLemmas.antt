-- What `drive` answers to the table that `erase` wrote of two tables.
use Rattle.std.specs.Prelude.{◌≡◌, ◌⊎◌, ℕ, ◌+◌, ◌*◌, ◌<◌, ◌≤◌, ℤ, List, [], ◌∷◌, ◌++◌, length, map, Option, Some, None}
use Rattle.std.specs.Prelude.{codes, decimal, pos, ◌-ℤ◌, position, slice_get, slice_index, slice_index_or, refl}
use Rattle.std.proofs.Common.{suc, arith, sym, ap, subst, ◌∙◌, inl, inr, get_or}
use Rattle.std.proofs.lemmas.List.{length-map}
use Rattle.std.proofs.lemmas.Option.{get_or_from_slice_get, slice_get-get_or, slice_get-map}
use Rattle.std.specs.List.{range_with_len}
use Rattle.std.specs.Option.{option_map}
use Rattle.std.specs.Ordering.{int_eq}
use Rattle.std.proofs.lemmas.Bool.{cases_lt}
use Rattle.bn_csv.specs.Entries.{entries_of}
use Rattle.bn_lists.specs.Runs.{Reaches}
use Rattle.bn_circuits.specs.Circuits.{clock}
use Rattle.bn_circuits.specs.Situations.{Situation}
use Rattle.bn_circuits.specs.Stepping.{run}
use Rattle.bn_circuits.specs.declared.place.Place.{Place}
use Rattle.bn_machine.specs.Outcome.{Limits}
use Rattle.bn_machine.specs.Tape.{Tape, blank_tape, cell, word_tape}
use Rattle.bn_quad.specs.Calls.{IsUniformMachine}
use Rattle.bn_quad.specs.Quadruples.{Configuration, Quadruples, QuadruplesRunTo, final_state_of}
use Rattle.bn_qtable.proofs.ReadingLaws.{one_reading}
use Rattle.bn_qtable.specs.Reading.{ReadsQuadruples}
use Rattle.bn_qtable.specs.Rows.{QuadTable}
use Rattle.bn_qtable.specs.TapeWords.{Letters, One}
use Rattle.bn_table.specs.Rows.{Named}
use Rattle.bn_bennett.specs.Printed.{one_byte}
use Rattle.bn_bennett_laws.specs.Laws.{HaltsAfter}
use Rattle.bn_bennett_laws.specs.Renamed.{renamed}
use Rattle.bn_bennett_laws.specs.Stages.{IsStandardMachine, rooms_of}
use Rattle.bn_bennett_laws.specs.Steps.{EndsAt, Exit, Finished, Stopped, Leaving}
use Rattle.bn_erase.specs.Joint.{IsJoint, Joint, joined}
use Rattle.bn_erase.specs.Laws.{end_of}
use Rattle.bn_erase.specs.Made.{Erasure, IsErasing, name_of}
use Rattle.bn_erase.specs.Printed.{history_names, letter_names, names_of}
use Rattle.bn_erase.proofs.ClosedLemmas.{erasings_uniform}
use Rattle.bn_renumbering.specs.Renumbering.{IsRenumbered, IsRenumberedTape, KeepNames, ReadsBack}
use Rattle.bn_renumbering.proofs.TableLemmas.{erasings-tables}
use Rattle.bn_network.specs.Controls.{IsNumbering, symbol_count}
use Rattle.bn_network.specs.Networks.{elements_by}
use Rattle.bn_network.specs.Starts.{FitsWindow, start_from, words_on}
use Rattle.bn_network_assembly.specs.Assembled.{CountsElements}
use Rattle.bn_boards.specs.Layouts.{spelled_config, tape_in}
use Rattle.bn_boards.specs.Builds.{Build, IsStart, build_elements, start_of}
use Rattle.bn_boards.specs.BuildRuns.{BuildRunsTo, EndsInWindow}
use Rattle.bn_boards.proofs.ConverseLemmas.{builds-once}
use Rattle.bn_reply_builds.specs.DriveText.{drive_cells_text, drive_exit_line, drive_tape_line, name_in}
use Rattle.bn_reply_builds.specs.Drives.{Drives, leaves, stays}
use Rattle.bn_reply_builds.specs.ErasingBoards.{ErasingBoardTells}
use Rattle.bn_reply_builds.proofs.ErasingLemmas.{erasing-boards}
use Rattle.bn_reply.specs.Answering.{IsDone}
use Rattle.bn_reply.specs.Lines.{line, position_text}
use Rattle.bn_reply.specs.Words.{IsSpelledBy}
use Rattle.bn_reply.specs.declared.status.Status.{Status}
use Rattle.bn_reply.specs.declared.status.Status.TheVariants as statuses
use Rattle.bn_reply.proofs.TableLemmas.{reads_table}
use Rattle.bn_reply_relations.specs.RunText.{elements_line, head_text, quadruple_line, steps_line}
use Rattle.bn_reply_builds.specs.BuildReply.{IsBuiltFor, SizedReplies, built, large, long, many}
use Rattle.bn_reply_builds.proofs.BuiltLemmas.{build_begins}
use Rattle.bn_reply_erase.specs.EraseReply.{CountedReplies, EraseReplies, erase_text, few, lettered}
use Rattle.bn_reply_erase.specs.EraseReply as erase
use Rattle.bn_reply_erase.proofs.AnswerLemmas.{word_letters, word_nonblank}
use Rattle.bn_reply_erase.proofs.JudgedLemmas.{both_standard, joint_of_tables}
use Rattle.bn_reply_erase.proofs.PairLemmas.{ReadBoth, pair_tells, two_tells}
use Rattle.bn_reply_erase.proofs.TextLemmas.{erased_text}
use Rattle.bn_reply_machines.specs.NamedWords.{AreNamedBy, IsNamedBy}
use Rattle.bn_reply_machines.specs.QuadReply.{domain, faulty, passes, range}
use Rattle.bn_reply_machines.specs.UniformReply.{not_uniform, uniform}
use Rattle.bn_reply_machines.specs.WordsReply.{WordsReplies, named, unnamed}
use Rattle.bn_reply_builds.specs.DriveHeadline.{IsGiven, IsOwnRun, ShowsEnd, TellsEnd, TellsOwnRun, drive_lines}
use Rattle.bn_reply_builds.specs.DriveHeadline as headline
use Rattle.bn_erase.proofs.ThereLemmas.{erasings-there}
use Rattle.bn_reply_builds.proofs.ErasedTableLemmas as printed_tables
use Rattle.bn_reply_builds.specs.DriveReply.{DriveReplies}
use Rattle.bn_reply_builds.specs.Driven.{TellsDrive, drive_status}
use Rattle.bn_reply_builds.specs.ErasedDrives.{AreErasedBy, ErasedCircuitsErase, LeavesOutputAlone}
use Rattle.bn_boards.proofs.FitLemmas.{final_fits}
use Rattle.bn_reply_builds.proofs.HeadlineLemmas.{drives-tell_machine, inputs}

-- ---- names

-- numbers that keep names have the names that they kept
kept_name : (renumber : ℕ → ℕ) (before after : List (List ℕ)) → KeepNames renumber before after → (c : ℕ)
    → c < length before → name_in before c ≡ name_in after (renumber c)
kept_name renumber before after keeps c low =
    sym (get_or_from_slice_get after (renumber c) (get_or before c []) [] (keeps c (get_or before c [])
    (slice_get-get_or before c [] low)))

-- the line of a tape and that of the tape with the new numbers
module _ (renumber : ℕ → ℕ) (before after : List (List ℕ)) (keeps : KeepNames renumber before after) (x y : Tape)
    (alike : IsRenumberedTape renumber x y) (known : (p : ℤ) → cell x p < length before) where
  cells_as : (at : ℕ → ℤ) (js : List ℕ) → drive_cells_text before (map (λ j. Some (cell x (at j))) js)
      ≡ drive_cells_text after (map (λ j. Some (cell y (at j))) js)
  cells_as at [] = refl
  cells_as at (j ∷ js) =
      let here : name_in before (cell x (at j)) ≡ name_in after (cell y (at j)) =
      kept_name renumber before after keeps (cell x (at j)) (known (at j))
      ∙ ap (name_in after) (sym (alike.cells (at j))) in
      let rest = cells_as at js in
      λ i. codes " " ++ (here i ++ rest i)

  tape_line_as : (tape below n : ℕ)
      → drive_tape_line before tape (tape_in below n x) ≡ drive_tape_line after tape (tape_in below n y)
  tape_line_as tape below n =
      let cells = cells_as (λ j. pos j -ℤ pos below) (range_with_len 0 n) in
      λ i. line (codes "tape " ∷ decimal tape ∷ codes " from " ∷ position_text (pos 0 -ℤ pos below) ∷ codes " head "
      ∷ head_text (option_map (λ j. pos j -ℤ pos below)
      (position (λ j. int_eq (pos j -ℤ pos below) (sym alike.head i)) (range_with_len 0 n)))
      ∷ codes ":" ∷ cells i ∷ [])

-- ---- words

nothing_spelled : (names : List (List ℕ)) (ys : List ℕ) → IsNamedBy names [] ys → ys ≡ []
nothing_spelled names [] h = refl
nothing_spelled names (y ∷ ys) h = absurd (let both = h.spelled in cc)

-- the same word by names, and by letters
word_renumbered : (j : Joint) → IsJoint j → (renumber : ℕ → ℕ) (names : List (List ℕ))
    → KeepNames renumber names (letter_names j) → (word z x : List ℕ) → IsNamedBy names (map (λ b. b ∷ []) word) z
    → IsSpelledBy (lettered j) word x → map renumber z ≡ x
word_renumbered j joint renumber names keeps [] [] [] h k = refl
word_renumbered j joint renumber names keeps [] (s ∷ z) x h k = absurd (let both = h.spelled in cc)
word_renumbered j joint renumber names keeps [] [] (y ∷ x) h k = absurd (let both = k.letters in cc)
word_renumbered j joint renumber names keeps (b ∷ word) [] x h k = absurd (let both = h.spelled in cc)
word_renumbered j joint renumber names keeps (b ∷ word) (s ∷ z) [] h k = absurd (let both = k.letters in cc)
word_renumbered j joint renumber names keeps (b ∷ word) (s ∷ z) (y ∷ x) h k =
    let low : s < length names = (h.symbols_known 0 s (omega arith)).known in
    let inside : y < length j.letters = (k.symbols_known 0 y (omega arith)).known in
    let name : b ∷ [] ≡ slice_index_or names s [] = let both = h.spelled in cc in
    let letter : b ≡ slice_index j.letters y = let both = k.letters in cc in
    let after : slice_get (letter_names j) (renumber s) ≡ Some (b ∷ []) =
    keeps s (b ∷ []) (slice_get-get_or names s [] low ∙ ap Some (sym name)) in
    let same : renumber s ≡ y = found (renumber s) y b after (slice_get-get_or j.letters y 0 inside
    ∙ ap Some (sym letter)) in
    let rest = word_renumbered j joint renumber names keeps word z x
    (record {
      spelled = let both = h.spelled in cc;
      symbols_known = λ i d within. h.symbols_known (suc i) d (omega arith);
    })
    (record {
      letters = let both = k.letters in cc;
      symbols_known = λ i d within. k.symbols_known (suc i) d (omega arith);
    }) in
    λ i. same i ∷ rest i
  where
    found : (n y b : ℕ) → slice_get (letter_names j) n ≡ Some (b ∷ []) → slice_get j.letters y ≡ Some b → n ≡ y
    found n y b name letter = by_option (slice_get j.letters n) refl (sym (slice_get-map one_byte j.letters n) ∙ name)
      where
        by_option : (o : Option ℕ) → slice_get j.letters n ≡ o → option_map one_byte o ≡ Some (b ∷ []) → n ≡ y
        by_option None is e = absurd (cc)
        by_option (Some a) is e = let same : a ≡ b = cc in joint.alphabet.apart n y b (is ∙ ap Some same) letter

-- ---- what was driven

-- a status that is one of these two is no refusal's
abbrev IsRun : Status → Type 0
IsRun s = (s ≡ statuses.Done) ⊎ (s ≡ statuses.Stuck)

no_text : (s : Status) → IsRun s → s ≡ statuses.Text → ⊥
no_text s (inl is) other = let both = sym is ∙ other in cc
no_text s (inr is) other = let both = sym is ∙ other in cc

no_machine : (s : Status) → IsRun s → s ≡ statuses.Machine → ⊥
no_machine s (inl is) other = let both = sym is ∙ other in cc
no_machine s (inr is) other = let both = sym is ∙ other in cc

no_word : (s : Status) → IsRun s → s ≡ statuses.Word → ⊥
no_word s (inl is) other = let both = sym is ∙ other in cc
no_word s (inr is) other = let both = sym is ∙ other in cc

no_size : (s : Status) → IsRun s → s ≡ statuses.Size → ⊥
no_size s (inl is) other = let both = sym is ∙ other in cc
no_size s (inr is) other = let both = sym is ∙ other in cc

-- what is given to a drive that is no refusal, and its run
record WasDriven (word table : List ℕ) (l : Limits) (most : ℕ) (status : Status) (text : List ℕ) (told : List Place) :
    Type 0 where
  read : QuadTable
  one : List ℕ
  two : List ℕ
  three : List ℕ
  given : IsGiven (One (Letters word)) table l read one two three
  build : Build
  is_built : IsBuiltFor read.machine l build
  tells : TellsDrive most read (words_on read.machine one two three) build status text told

module _ (word table : List ℕ) (l : Limits) (most : ℕ) (status : Status) (text : List ℕ) (told : List Place)
    (ran : IsRun status) where
  abbrev Told : QuadTable → List ℕ → List ℕ → List ℕ → Build → Status → List ℕ → List Place → Type 0
  Told t one two three = TellsDrive most t (words_on t.machine one two three)

  abbrev Sized : QuadTable → List ℕ → List ℕ → List ℕ → Type 0
  Sized t one two three =
      SizedReplies (One (Letters word)) (Told t one two three) t.machine l one two three status text told

  module _ (t : QuadTable) (reads : ReadsQuadruples table t) (even : IsUniformMachine t.machine) where
    by_size : (one two three : List ℕ) → AreNamedBy (One (Letters word)) t.names one two three → Sized t one two three
        → WasDriven word table l most status text told
    by_size one two three names (many tape z h is_text e n) = absurd (no_size status ran e)
    by_size one two three names (long some tape n far is_text e quiet) = absurd (no_size status ran e)
    by_size one two three names (large some fits count counts great is_text e quiet) = absurd (no_size status ran e)
    by_size one two three names (built some fits f h tells) = record {
      read = t;
      one = one;
      two = two;
      three = three;
      given = record { reads = reads; uniform = even; few = some; named = names; room = fits };
      build = f;
      is_built = h;
      tells = tells;
    }

    by_words : WordsReplies (One (Letters word))
        (λ one two three status text told. SizedReplies (One (Letters word)) (Told t one two three) t.machine l one two
        three status text told) t.names status text told → WasDriven word table l most status text told
    by_words (unnamed p h is_text e n) = absurd (no_word status ran e)
    by_words (named one on_one (unnamed p h is_text e n)) = absurd (no_word status ran e)
    by_words (named one on_one (named two on_two (unnamed p h is_text e n))) = absurd (no_word status ran e)
    by_words (named one on_one (named two on_two (named three on_three sized))) =
        by_size one two three (record { on_one = on_one; on_two = on_two; on_three = on_three }) sized

  was_driven : DriveReplies (One (Letters word)) l most table status text told
      → WasDriven word table l most status text told
  was_driven (faulty h e n) = absurd (no_text status ran e)
  was_driven (domain t reads i j h is_text e n) = absurd (no_machine status ran e)
  was_driven (range t reads apart i j h is_text e n) = absurd (no_machine status ran e)
  was_driven (passes t reads apart back (not_uniform why h is_text e n)) = absurd (no_machine status ran e)
  was_driven (passes t reads apart back (uniform even answer)) =
      by_words t reads (record { deterministic = apart; reversible = back; uniform = even }) answer

-- ---- exits by statuses

finished_by : (x : Exit) → drive_status (Some x) ≡ statuses.Done → x ≡ Finished
finished_by Finished h = refl
finished_by Stopped h = absurd (cc)
finished_by (Leaving tape s) h = absurd (cc)

stopped_by : (x : Exit) → drive_status (Some x) ≡ statuses.Stuck → x ≡ Stopped
stopped_by Finished h = absurd (cc)
stopped_by Stopped h = refl
stopped_by (Leaving tape s) h = absurd (cc)

shown_at_end : (m : Quadruples) (d : Configuration ℕ) (x : Exit) (shown : Configuration ℕ) → ShowsEnd m d x shown
    → x ≡ Finished → shown ≡ d
shown_at_end m d x shown (headline.finished why same) is = same
shown_at_end m d x shown (headline.at_read tape stop why same) is = absurd (let both = sym why ∙ is in cc)
shown_at_end m d x shown (headline.unleft none why same) is = absurd (let both = sym why ∙ is in cc)
shown_at_end m d x shown (headline.leaving tape side to step why same) is = absurd (let both = sym why ∙ is in cc)

-- ---- the theorem

module _ (bytes word table : List ℕ) (silent : List Place) (printed : EraseReplies bytes statuses.Done table silent)
    (t u : Named) (x : List ℕ) (pair : AreErasedBy bytes word t u x) (e : Erasure)
    (is : IsErasing (joined t u).first (joined t u).second e) (l : Limits) (most : ℕ) (status : Status)
    (text : List ℕ) (told : List Place) (low : most ≤ 2305843009213693952)
    (reply : DriveReplies (One (Letters word)) l most table status text told)
    (driven : WasDriven word table l most status text told) where
  abbrev j : Joint
  j = joined t u

  both : ReadBoth pair.first pair.second t u
  both = record { reads = pair.reads; also = pair.also; standard = pair.standard; fit = pair.fit }

  joint : IsJoint j
  joint = joint_of_tables t u (reads_table pair.first t pair.reads) (reads_table pair.second u pair.also)

  standard : IsStandardMachine j.first × IsStandardMachine j.second
  standard = both_standard pair.first pair.second t u both

  abbrev Counted : Named → Named → Status → List ℕ → List Place → Type 0
  Counted a b = CountedReplies (IsDone (erase_text (joined a b))) (joined a b)

  table_is : (table ≡ erase_text j) × (length (erase.erasing_of j) ≤ 20000)
  table_is =
      by_count (two_tells Counted pair.first pair.second t u statuses.Done table silent both
      (pair_tells Counted bytes pair.first pair.second statuses.Done table silent pair.cut printed))
    where
      by_count : CountedReplies (IsDone (erase_text j)) j statuses.Done table silent
          → (table ≡ erase_text j) × (length (erase.erasing_of j) ≤ 20000)
      by_count (erase.many more is_text is_status quiet) = absurd (cc)
      by_count (few h done) = (done.text_is, h)

  abbrev r : QuadTable
  r = driven.read

  abbrev f : Build
  f = driven.build

  abbrev z : List ℕ
  z = driven.one

  read_back : ReadsBack e.machine (names_of j e) r
  read_back =
      let text_is = table_is in
      let long : length e.machine.rules ≤ 20000 =
      subst (λ n. n ≤ 20000) (sym (ap length is.rules) ∙ length-map e.machine.rules (renamed (name_of e))) text_is.1 in
      let read = erasings-tables erasings_uniform j e table joint is long (text_is.0 ∙ sym (erased_text j e is)) in
      subst (λ (v : QuadTable). ReadsBack e.machine (names_of j e) v)
      (one_reading (entries_of table) read.0 r read.1 driven.given.reads) read.2

  spelled : map read_back.renumbering.one z ≡ x
  spelled = word_renumbered j joint read_back.renumbering.one r.names.one read_back.one word z x
      driven.given.named.on_one pair.spelled

  -- ---- the start

  abbrev c : Configuration ℕ
  c = words_on f.machine z [] []

  abbrev given_start : Configuration ℕ
  given_start = words_on r.machine driven.one driven.two driven.three

  same_start : given_start ≡ c
  same_start =
      let two = nothing_spelled r.names.two driven.two driven.given.named.on_two in
      let three = nothing_spelled r.names.three driven.three driven.given.named.on_three in
      λ i. words_on (sym driven.is_built.machine i) z (two i) (three i)

  abbrev s : Situation
  s = start_from f.machine f.limits c

  begins : IsStart f c s (start_of f c)
  begins = subst (λ (d : Configuration ℕ). IsStart f d (start_from f.machine f.limits d) (start_of f d)) same_start
      (build_begins r.machine l driven.one driven.two driven.three
      (inputs (One (Letters word)) table l r driven.one driven.two driven.three driven.given) f driven.is_built)

  room : (n : ℕ) → n ≤ most → n + 48 * build_elements f ≤ clock
  room n within = let small : build_elements f ≤ 4194304 = driven.is_built.few in omega (arith, small)

  module _ (n : ℕ) (d : Configuration ℕ) (exit : Exit) (ends : EndsInWindow f c n d exit)
      (ran : BuildRunsTo f s (start_of f c) n d exit) (within : ran.cost ≤ most)
      (status_is : status ≡ drive_status (Some exit)) where
    own : ErasingBoardTells read_back.renumbering j e f c s (start_of f c) x ran.cost
        (run f.circuit (start_of f c) ran.cost)
    own = erasing-boards j e r f joint is standard.0 standard.1 read_back driven.is_built.build driven.is_built.machine
        z
        x spelled (word_letters j joint x pair.spelled.symbols_known) (word_nonblank j x pair.spelled.symbols_known) s
        (start_of f c) begins ran.cost (run f.circuit (start_of f c) ran.cost) ran.run_to ran.ended
        (room ran.cost within)

    once : (own.told.steps ≡ n) × (own.told.final ≡ d) × (own.told.exit ≡ exit)
    once = builds-once.0 f driven.is_built.build c own.told.steps n own.told.final d own.told.exit exit own.told.ends
        ends

    -- ---- stuck

    not_stuck : (v w : ℕ) (y : List ℕ) → HaltsAfter j.first x v y → HaltsAfter j.second y w x → status ≡ statuses.Stuck
        → ⊥
    not_stuck v w y first second stuck =
        let stopped : own.told.exit ≡ Stopped = once.2 ∙ stopped_by exit (sym status_is ∙ stuck) in
        elim (own.halted v w y first second) [
          | inl finished ↦ let both : Finished ≡ Stopped = sym finished ∙ stopped in cc
          | inr leaving ↦ let both : Leaving leaving.0 leaving.1 ≡ Stopped = sym leaving.2 ∙ stopped in cc
        ]

    -- ---- the end

    own_run : IsOwnRun r l driven.one driven.two driven.three n d exit
    own_run =
        let h = driven.is_built in
        record {
          runs = subst (λ (b : Configuration ℕ). Reaches (QuadruplesRunTo (rooms_of l) r.machine) n b d)
              (sym same_start)
              (subst (λ (q : Quadruples). Reaches (QuadruplesRunTo (rooms_of l) q) n c d) h.machine
              (subst (λ (w : Limits). Reaches (QuadruplesRunTo (rooms_of w) f.machine) n c d) h.limits ends.runs));
          ends = subst (λ (q : Quadruples). EndsAt (rooms_of l) q.rules (final_state_of q.rules) d exit) h.machine
              (subst (λ (w : Limits). EndsAt (rooms_of w) f.machine.rules (final_state_of f.machine.rules) d exit)
              h.limits ends.ends);
        }

    counts : CountsElements r.machine l (build_elements f)
    counts =
        let h = driven.is_built in (
          f.names,
          subst (λ (q : Quadruples). IsNumbering q f.names) h.machine h.build.is_network.numbering,
          (λ i. elements_by (h.machine i) (h.limits i) (length f.names)),
        )

    text_told : TellsOwnRun most r l (build_elements f) n d exit status text
    text_told = (drives-tell_machine (One (Letters word)) l most table status text told low reply r driven.one
        driven.two driven.three driven.given n d exit own_run).runs (build_elements f) counts driven.is_built.few

    fits : FitsWindow f.machine f.limits d
    fits = final_fits f driven.is_built.build c s (start_of f c) begins n d exit ends

    many_on : (k : ℕ) → symbol_count f.machine k ≡ symbol_count r.machine k
    many_on k = ap (λ (q : Quadruples). symbol_count q k) driven.is_built.machine

    output_told : status ≡ statuses.Done → LeavesOutputAlone j l x text
    output_told done = by_cost (cases_lt most text_told.cost)
      where
        finished : exit ≡ Finished
        finished = finished_by exit (sym status_is ∙ done)

        told_so : TellsEnd r l (build_elements f) n d exit text_told.cost status text → LeavesOutputAlone j l x text
        told_so end =
            let out = own.ended (once.2 ∙ finished) in
            let y = out.2 in
            let alike : IsRenumbered read_back.renumbering d (end_of e y) =
            subst (λ (b : Configuration ℕ). IsRenumbered read_back.renumbering b (end_of e y)) once.1 out.6 in
            let shown : end.shown ≡ d = shown_at_end r.machine d exit end.shown end.shows finished in
            let steps : n ≡ 4 * (out.0 + out.1) + 4 * (length x + length y) + 10 = sym once.0 ∙ out.5 in
            let symbols = driven.given.reads.symbols in
            let one = tape_line_as read_back.renumbering.one r.names.one (letter_names j) read_back.one d.one blank_tape
            alike.one
            (λ p. subst (λ m. cell d.one p < m) (many_on 1 ∙ ap (λ zs. slice_index zs 0) symbols) (fits.one.symbols p))
            1 l.left (l.left + l.right + 1) in
            let two = tape_line_as read_back.renumbering.two r.names.two (history_names j) read_back.two d.two
            blank_tape
            alike.two
            (λ p. subst (λ m. cell d.two p < m) (many_on 2 ∙ ap (λ zs. slice_index zs 1) symbols) (fits.two.symbols p))
            2 0 (l.steps + 1) in
            let three = tape_line_as read_back.renumbering.three r.names.three (letter_names j) read_back.three d.three
            (word_tape y) alike.three
            (λ p. subst (λ m. cell d.three p < m) (many_on 3 ∙ ap (λ zs. slice_index zs 2) symbols)
            (fits.three.symbols p)) 3 0 (l.output + 1) in
            record {
              y = y;
              v = out.0;
              w = out.1;
              there = out.3;
              back = out.4;
              count = build_elements f;
              cost = text_told.cost;
              text_is = end.text_is
                  ∙ (λ i. drive_lines r (build_elements f) (drive_exit_line r d (finished i)) text_told.cost (steps i)
                  (spelled_config l (shown i)))
                  ∙ (λ i. elements_line (build_elements f) ++ (line (codes "exit end" ∷ [])
                  ++ (steps_line text_told.cost
                  ++ (quadruple_line (4 * (out.0 + out.1) + 4 * (length x + length y) + 10)
                  ++ (one i ++ (two i ++ three i))))));
            }

        by_cost : (most < text_told.cost) ⊎ (text_told.cost ≤ most) → LeavesOutputAlone j l x text
        by_cost (inl more) = absurd (let both = sym done ∙ (text_told.inside more).status_is in cc)
        by_cost (inr enough) = told_so (text_told.ended enough)

  -- ---- either

  abbrev Erases : Type 0
  Erases = (status ≡ statuses.Done → LeavesOutputAlone j l x text)
      × ((v w : ℕ) (y : List ℕ) → HaltsAfter j.first x v y → HaltsAfter j.second y w x → status ≡ statuses.Stuck → ⊥)

  moved : TellsDrive most r c f status text told
  moved = subst (λ (b : Configuration ℕ). TellsDrive most r b f status text told) same_start driven.tells

  erases : Erases
  erases = by_run moved.exit moved.drives moved.status_is
    where
      by_run : (x : Option Exit) → Drives r f c s (start_of f c) most x text → status ≡ drive_status x → Erases
      by_run x (leaves n d exit ends ran within why text_is) status_is =
          let is_exit = status_is ∙ ap drive_status why in (
            output_told n d exit ends ran within is_exit,
            not_stuck n d exit ends ran within is_exit,
          )
      by_run x (stays element i path at why text_is) status_is =
          let inside : status ≡ statuses.Inside = status_is ∙ ap drive_status why in (
            λ done. absurd (let both = sym done ∙ inside in cc),
            λ v w y first second stuck. let both = sym stuck ∙ inside in cc,
          )

pub erased-circuits_erase : ErasedCircuitsErase
erased-circuits_erase bytes word table silent printed t u x pair l most status text told low reply =
    let both = printed_tables.joint bytes word table silent printed t u x pair in
    let machines = printed_tables.standard bytes word table silent printed t u x pair in
    let made = erasings-there (joined t u).first (joined t u).second machines.0 machines.1 both.first_fits
    both.second_fits (both.first_symbols ∙ sym both.second_symbols) in (
      λ done. (erases bytes word table silent printed t u x pair made.0 made.1 l most status text told low reply
          (was_driven word table l most status text told (inl done) reply)).0 done,
      λ v w y first second stuck. (erases bytes word table silent printed t u x pair made.0 made.1 l most status text
          told low reply (was_driven word table l most status text told (inr stuck) reply)).1 v w y first second stuck,
    )

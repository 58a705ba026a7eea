-- What is answered to a drive tells the machine's own run.
use Rattle.std.specs.Prelude.{◌≡◌, ℕ, ◌+◌, ◌-◌, ◌*◌, ◌<◌, ◌≤◌, List, [], ◌++◌, length, Option, Some, refl, replicate}
use Rattle.std.proofs.Common.{zero, suc, arith, sym, ap, subst, ◌∙◌, zero-add, inl, inr}
use Rattle.std.proofs.lemmas.Bool.{cases_lt}
use Rattle.bn_lists.specs.Runs.{Reaches}
use Rattle.bn_element.specs.Rotary.{rotary, west}
use Rattle.bn_circuits.specs.Circuits.{Goes, IsPlace, clock, inputs_of as inputs_of_table}
use Rattle.bn_circuits.specs.Situations.{Situation}
use Rattle.bn_circuits.specs.Stepping.{run}
use Rattle.bn_circuits.specs.declared.config.Config.{Config}
use Rattle.bn_circuits.specs.declared.place.Place.{Place}
use Rattle.bn_circuits.specs.declared.place.Place.TheVariants.{Enter}
use Rattle.bn_circuits.proofs.CountingLemmas.{one_low, tally_low}
use Rattle.bn_circuits.proofs.RunLemmas.{run_stops}
use Rattle.bn_circuits.proofs.RunPartLemmas.{steps_of_run}
use Rattle.bn_machine.specs.Outcome.{Limits}
use Rattle.bn_circuits.specs.declared.net.TheConstants.{MOST_ELEMENTS}
use Rattle.bn_quad.specs.Quadruples.{Configuration, Quadruples, QuadruplesRunTo, final_state_of}
use Rattle.bn_qtable.specs.Rows.{QuadTable}
use Rattle.bn_qtable.specs.TapeWords.{TapeWords}
use Rattle.bn_bennett_laws.specs.Stages.{rooms_of}
use Rattle.bn_bennett_laws.specs.Steps.{EndsAt, Exit}
use Rattle.bn_network.specs.Controls.{ControlState, IsNumbering, symbol_count}
use Rattle.bn_network.specs.Networks.{elements_by}
use Rattle.bn_network.specs.Starts.{AreInputs, start_from, words_on}
use Rattle.bn_network.proofs.OccurringLemmas.{order_one}
use Rattle.bn_network_assembly.specs.Assembled.{CountsElements}
use Rattle.bn_boards.specs.Boards.{size}
use Rattle.bn_boards.specs.Layouts.{is_moment, moments, spelled_by, spelled_config, symbol_count_at}
use Rattle.bn_boards.specs.declared.spelled.Spelled.{Spelled}
use Rattle.bn_boards.proofs.NetworkReadLemmas.{networks-read}
use Rattle.bn_boards.specs.Builds.{Build, IsStart, build_elements, start_of}
use Rattle.bn_boards.specs.Exits.{BoardLeaves, by_end, by_read, by_wait, by_window}
use Rattle.bn_boards.specs.BuildRuns.{BuildRunsTo, EndsInWindow}
use Rattle.bn_boards.proofs.ConverseLemmas.{builds-once}
use Rattle.bn_boards.proofs.RunLemmas.{builds-run}
use Rattle.bn_boards.proofs.StartingLemmas.{no_letters as none_low}
use Rattle.bn_boards.proofs.ThereLemmas.{builds-there}
use Rattle.bn_reply_builds.specs.DriveText.{drive_exit_line, drive_text, inside_line}
use Rattle.bn_reply_builds.specs.Drives.{Drives, leaves, stays}
use Rattle.bn_reply.specs.declared.status.Status.{Status}
use Rattle.bn_reply.specs.declared.status.Status.TheVariants as statuses
use Rattle.bn_reply_relations.specs.RunText.{elements_line, quadruple_line, steps_line}
use Rattle.bn_reply_relations.specs.Windows.{large_line}
use Rattle.bn_reply_machines.specs.QuadReply.{passes}
use Rattle.bn_reply_machines.specs.UniformReply.{uniform}
use Rattle.bn_reply_machines.specs.WordsReply.{named}
use Rattle.bn_reply_builds.specs.BuildReply.{BuiltReplies, IsBuiltFor, SizedReplies, built, large}
use Rattle.bn_reply_builds.specs.Buildable.{IsBuildable}
use Rattle.bn_reply_builds.proofs.BuiltLemmas.{build_begins, build_count}
use Rattle.bn_reply_builds.proofs.TableFacts.{buildable, inputs_of, letters_of}
use Rattle.bn_reply_builds.specs.DriveHeadline.{DrivesTellTheirMachine, IsGiven, IsOwnRun, ShowsEnd, TellsEnd}
use Rattle.bn_reply_builds.specs.DriveHeadline.{TellsInside, TellsOwnRun, at_read, drive_lines, finished, leaving}
use Rattle.bn_reply_builds.specs.DriveHeadline.{unleft}
use Rattle.bn_reply_builds.specs.Driven.{TellsDrive, drive_status}
use Rattle.bn_reply_builds.specs.Outcomes.{drive_tape_lines}
use Rattle.bn_reply_builds.proofs.CountLemmas.{first_within, input_within, reached_place, some_elements, tally_part}
use Rattle.bn_reply_builds.proofs.OutcomeLemmas.{not_inside}
use Rattle.bn_reply_builds.proofs.DriveSettledLemmas.{drive_is_settled, drive_some as drive_answer}
use Rattle.bn_boards.proofs.SpanLemmas.{spans}

-- ---- what is given

module _ (words : TapeWords) (bytes : List ℕ) (l : Limits) (t : QuadTable) (one two three : List ℕ)
    (given : IsGiven words bytes l t one two three) where
  pub inputs : AreInputs t.machine l one two three
  inputs = inputs_of t.machine l one two three (letters_of bytes t given.reads words one two three given.named)
      given.room

  pub can_build : IsBuildable t.machine
  can_build = buildable bytes t given.reads given.uniform

  -- what is answered to the sizes is answered to the bytes
  pub reply_by : (tells : QuadTable → List ℕ → List ℕ → List ℕ → Build → Status → List ℕ → List Place → Type 0)
      (status : Status) (text : List ℕ) (told : List Place)
      → SizedReplies words (tells t one two three) t.machine l one two three status text told
      → BuiltReplies tells words l bytes status text told
  reply_by tells status text told sized =
      passes t given.reads given.uniform.deterministic given.uniform.reversible
      (uniform given.uniform.uniform
      (named one given.named.on_one (named two given.named.on_two (named three given.named.on_three sized))))

  -- a build that hasn't too many elements
  pub build_within : (count : ℕ) → CountsElements t.machine l count → count ≤ MOST_ELEMENTS
      → (f : Build) × IsBuiltFor t.machine l f
  build_within count counts few =
      let is = can_build in
      let there = builds-there t.machine l is.valid is.uniform is.letters in
      let f : Build = there.0 in
      let numbering : IsNumbering t.machine f.names =
      subst (λ (q : Quadruples). IsNumbering q f.names) there.1 there.3.is_network.numbering in
      let own : build_elements f ≡ elements_by t.machine l (length f.names) =
      (λ i. elements_by (there.1 i) (there.2 i) (length f.names)) in
      let same : build_elements f ≡ count = own
      ∙ ap (λ (ns : List ControlState). elements_by t.machine l (length ns))
      (order_one t.machine f.names counts.0 numbering counts.1)
      ∙ sym counts.2 in
      (f, record { machine = there.1; limits = there.2; build = there.3; few = omega arith })

-- ---- a run

module _ (most : ℕ) (low : most ≤ 2305843009213693952) (t : QuadTable) (l : Limits) (one two three : List ℕ)
    (inputs : AreInputs t.machine l one two three) (f : Build) (h : IsBuiltFor t.machine l f) (count : ℕ)
    (same : build_elements f ≡ count) where
  abbrev c : Configuration ℕ
  c = words_on t.machine one two three

  abbrev s : Situation
  s = start_from f.machine f.limits c

  abbrev at_start : Config
  at_start = start_of f c

  begins : IsStart f c s at_start
  begins = build_begins t.machine l one two three inputs f h

  pub in_window : (n : ℕ) (d : Configuration ℕ) (e : Exit) → IsOwnRun t l one two three n d e → EndsInWindow f c n d e
  in_window n d e own = record {
    runs = subst (λ (q : Quadruples). Reaches (QuadruplesRunTo (rooms_of f.limits) q) n c d) (sym h.machine)
        (subst (λ (w : Limits). Reaches (QuadruplesRunTo (rooms_of w) t.machine) n c d) (sym h.limits) own.runs);
    ends = subst (λ (q : Quadruples). EndsAt (rooms_of f.limits) q.rules (final_state_of q.rules) d e) (sym h.machine)
        (subst (λ (w : Limits). EndsAt (rooms_of w) t.machine.rules (final_state_of t.machine.rules) d e)
        (sym h.limits) own.ends);
  }

  -- what the text of a drive is, by what its cells spell
  lines_are : (place : List ℕ) (steps cost : ℕ) (x : Config) (shown : Spelled) → x.steps ≡ cost
      → spelled_by f.layout x.states ≡ shown
      → drive_text t f place steps x ≡ drive_lines t count place cost steps shown
  lines_are place steps cost x shown made spelled =
      λ i. elements_line (same i) ++ (place ++ (steps_line (made i) ++ (quadruple_line steps
      ++ drive_tape_lines t (spelled i))))

  steps_are : (n : ℕ) (x : Config) → Reaches (Goes f.circuit) n at_start x → x.steps ≡ n
  steps_are n x path = steps_of_run f.circuit n at_start x path ∙ zero-add n

  -- ---- at the exit

  shown_at : (p : Place) (states : List ℕ) (d : Configuration ℕ) (e : Exit) → BoardLeaves f p states d e
      → (shown : Configuration ℕ) × ShowsEnd f.machine d e shown
      × (spelled_by f.layout states ≡ spelled_config f.limits shown)
  shown_at p states d e (by_end why exit spelled) = (d, finished why refl, spelled)
  shown_at p states d e (by_read tape stop why line spelled) = (_, at_read tape stop why refl, spelled)
  shown_at p states d e (by_wait none why exit spelled) = (_, unleft none why refl, spelled)
  shown_at p states d e (by_window tape side to step why exit spelled) =
      (_, leaving tape side to step why refl, spelled)

  module _ (status : Status) (text : List ℕ) where
    exit_told : (n : ℕ) (d : Configuration ℕ) (e : Exit) (ran : BuildRunsTo f s at_start n d e)
        → status ≡ drive_status (Some e)
        → text ≡ drive_text t f (drive_exit_line t d e) n (run f.circuit at_start ran.cost)
        → TellsEnd t l count n d e ran.cost status text
    exit_told n d e ran status_is text_is =
        let x = run f.circuit at_start ran.cost in
        let at = shown_at x.place x.states d e ran.leaves in
        record {
          shown = at.0;
          shows = subst (λ (q : Quadruples). ShowsEnd q d e at.0) h.machine at.1;
          text_is = text_is ∙ lines_are (drive_exit_line t d e) n ran.cost x (spelled_config l at.0)
              (steps_are ran.cost x ran.run_to) (at.2 ∙ ap (λ (w : Limits). spelled_config w at.0) h.limits);
          status_is = status_is;
        }

    -- the machine makes no more steps than the signal
    steps_low : (n : ℕ) (d : Configuration ℕ) (e : Exit) (ran : BuildRunsTo f s at_start n d e) → n ≤ ran.cost
    steps_low n d e ran =
        let first = one_low (is_moment f.layout at_start) in
        let behind = tally_low (is_moment f.layout) f.circuit ran.cost at_start in
        let all = ran.count in
        omega (arith, first, behind, all)

    bounded : (n : ℕ) (d : Configuration ℕ) (e : Exit) (ran : BuildRunsTo f s at_start n d e)
        → ran.cost ≤ 4 * count + 48 * count * (n + 1)
    bounded n d e ran = subst (λ m. ran.cost ≤ 4 * m + 48 * m * (n + 1)) same ran.bounded

    left_so : (n : ℕ) (d : Configuration ℕ) (e : Exit) (ran : BuildRunsTo f s at_start n d e) → ran.cost ≤ most
        → status ≡ drive_status (Some e)
        → text ≡ drive_text t f (drive_exit_line t d e) n (run f.circuit at_start ran.cost)
        → TellsOwnRun most t l count n d e status text
    left_so n d e ran within status_is text_is = record {
      cost = ran.cost;
      above = steps_low n d e ran;
      below = bounded n d e ran;
      ended = λ low. exit_told n d e ran status_is text_is;
      inside = λ high. absurd (omega arith);
    }

    -- ---- inside

    abbrev there : Config
    there = run f.circuit at_start most

    -- the signal is about to enter one of the elements
    entered : 0 < count → Reaches (Goes f.circuit) most at_start there → (element i : ℕ) → there.place ≡ Enter element i
        → (element < count) × (i < 4)
    entered some path element i at =
        let read = networks-read f.machine f.limits [] f.names f.network f.layout h.build.is_network
        h.build.is_layout (none_low (symbol_count f.machine 1)) in
        let many : size f.network.tables ≡ count = read.1.whole ∙ same in
        let tables : f.circuit.tables ≡ replicate count rotary =
        h.build.is_board.tables ∙ ap (λ n. replicate n rotary) many in
        let first : IsPlace f.circuit at_start.place =
        subst (λ ts. west < inputs_of_table ts 0) (sym tables) (first_within rotary count west some (omega arith)) in
        let in_circuit : IsPlace f.circuit (Enter element i) =
        subst (IsPlace f.circuit) at (reached_place f.circuit h.build.is_board.circuit most at_start there first path)
        in
        input_within rotary count element i (subst (λ ts. i < inputs_of_table ts element) tables in_circuit)

    inside_so : (n cost : ℕ) → most < cost → cost ≤ 4 * count + 48 * count * (n + 1)
        → Reaches (Goes f.circuit) most at_start there → (element i : ℕ) → there.place ≡ Enter element i
        → (4 * count + 48 * count * (n + 1) ≤ clock → moments f.layout f.circuit most at_start - 1 ≤ n)
        → status ≡ statuses.Inside
        → text ≡ drive_text t f (inside_line (Enter element i)) (moments f.layout f.circuit most at_start - 1) there
        → TellsInside t l count n most status text
    inside_so n cost more within path element i at fewer status_is text_is =
        let at_line = entered (some_elements count n cost (omega arith) within) path element i at in
        let layout = h.build.is_layout in
        let limits : f.layout.limits ≡ l = layout.limits ∙ h.limits in
        let read = networks-read f.machine f.limits [] f.names f.network f.layout h.build.is_network
        h.build.is_layout (none_low (symbol_count f.machine 1)) in
        record {
          place = record { element = element; line = i };
          element = at_line.0;
          side = at_line.1;
          steps = moments f.layout f.circuit most at_start - 1;
          some_of_them = fewer;
          tapes = spelled_by f.layout there.states;
          on_one = spans f.layout l there.states 1 l.left l.right (symbol_count t.machine 1) limits (λ _. l.left)
              (λ _. l.left + l.right + 1) (letters read.1.letters_are 1);
          on_two = spans f.layout l there.states 2 0 l.steps (symbol_count t.machine 2) limits (λ _. 0) (omega arith)
              (letters read.1.letters_are 2);
          on_three = spans f.layout l there.states 3 0 l.output (symbol_count t.machine 3) limits (λ _. 0) (omega arith)
              (letters read.1.letters_are 3);
          text_is = text_is ∙ lines_are (inside_line (Enter element i)) (moments f.layout f.circuit most at_start - 1)
              most there (spelled_by f.layout there.states) (steps_are most there path) refl;
          status_is = status_is;
        }
      where
        letters : ((n : ℕ) → symbol_count_at f.layout n ≡ symbol_count f.machine n) → (n : ℕ)
            → symbol_count_at f.layout n ≡ symbol_count t.machine n
        letters known n = known n ∙ ap (λ (q : Quadruples). symbol_count q n) h.machine

    -- where the clock has room, the run's own cost; else its bound
    stayed : (n : ℕ) (d : Configuration ℕ) (e : Exit) → EndsInWindow f c n d e
        → Reaches (Goes f.circuit) most at_start there → (element i : ℕ) → there.place ≡ Enter element i
        → status ≡ statuses.Inside
        → text ≡ drive_text t f (inside_line (Enter element i)) (moments f.layout f.circuit most at_start - 1) there
        → TellsOwnRun most t l count n d e status text
    stayed n d e ends path element i at status_is text_is = elim (cases_lt clock (4 * count + 48 * count * (n + 1))) [
      | inl great ↦ record {
        cost = 4 * count + 48 * count * (n + 1);
        above = large_bound count n (omega arith);
        below = omega arith;
        ended = λ few. absurd (omega (arith, low));
        inside = λ more. inside_so n (4 * count + 48 * count * (n + 1)) more (omega arith) path element i at
            (λ room. absurd (omega arith)) status_is text_is;
      }
      | inr room ↦
          (let ran = builds-run f h.build c s at_start begins n d e ends
          (subst (λ m. 4 * m + 48 * m * (n + 1) ≤ clock) (sym same) room) in
          record {
            cost = ran.cost;
            above = steps_low n d e ran;
            below = bounded n d e ran;
            ended = λ few. absurd (not_left n d e ran few element i at);
            inside = λ more. inside_so n ran.cost more (bounded n d e ran) path element i at
                (λ _. made n d e ran more) status_is text_is;
          })
    ]
      where
        large_bound : (count n : ℕ) → 0 < 4 * count + 48 * count * (n + 1) → n ≤ 4 * count + 48 * count * (n + 1)
        large_bound zero n some = absurd (omega arith)
        large_bound (suc m) n some = omega arith

        not_left : (n : ℕ) (d : Configuration ℕ) (e : Exit) (ran : BuildRunsTo f s at_start n d e) → ran.cost ≤ most
            → (element i : ℕ) → there.place ≡ Enter element i → ⊥
        not_left n d e ran few element i at =
            let stopped : there ≡ run f.circuit at_start ran.cost =
            run_stops f.circuit ran.cost most at_start (run f.circuit at_start ran.cost) ran.run_to few
            (λ fewer. ran.ended) in
            not_inside f (run f.circuit at_start ran.cost).place (run f.circuit at_start ran.cost).states d e ran.leaves
            element i (ap (λ (x : Config). x.place) (sym stopped) ∙ at)

        made : (n : ℕ) (d : Configuration ℕ) (e : Exit) (ran : BuildRunsTo f s at_start n d e) → most < ran.cost
            → moments f.layout f.circuit most at_start - 1 ≤ n
        made n d e ran more =
            let part = tally_part (is_moment f.layout) f.circuit most ran.cost at_start
            (run f.circuit at_start ran.cost) ran.run_to (omega arith) in
            let all = ran.count in
            omega (arith, part, all)

    -- ---- either

    told_so : (exit : Option Exit) → Drives t f c s at_start most exit text → status ≡ drive_status exit
        → (n : ℕ) (d : Configuration ℕ) (e : Exit) → EndsInWindow f c n d e
        → TellsOwnRun most t l count n d e status text
    told_so exit (leaves m x g ends_so ran within why text_is) status_is n d e ends =
        let one = builds-once.0 f h.build c m n x d g e ends_so ends in
        subst (λ (m : ℕ). TellsOwnRun most t l count m d e status text) one.0
        (subst (λ (y : Configuration ℕ). TellsOwnRun most t l count m y e status text) one.1
        (subst (λ (k : Exit). TellsOwnRun most t l count m x k status text) one.2
        (left_so m x g ran within (status_is ∙ ap drive_status why) text_is)))
    told_so exit (stays element i path at why text_is) status_is n d e ends =
        stayed n d e ends path element i at (status_is ∙ ap drive_status why) text_is

-- ---- the headline

pub drives-tell_machine : DrivesTellTheirMachine
drives-tell_machine words l most bytes status text told low reply t one two three given n d e own = record {
  large = λ count counts many.
      let refusal = reply_by words bytes l t one two three given
      (λ t one two three. TellsDrive most t (words_on t.machine one two three)) statuses.Size (large_line count) []
      (large given.few given.room count counts many refl refl refl) in
      let same = (drive_is_settled words l most bytes low).one status statuses.Size text (large_line count) told []
      reply refusal in
      (same.statuses, same.texts);
  runs = λ count counts few. ran count counts few (build_within words bytes l t one two three given count counts few);
}
  where
    ran : (count : ℕ) → CountsElements t.machine l count → count ≤ MOST_ELEMENTS
        → ((f : Build) × IsBuiltFor t.machine l f) → TellsOwnRun most t l count n d e status text
    ran count counts few found =
        let f = found.0 in
        let h = found.1 in
        let in_room = inputs words bytes l t one two three given in
        let c : Configuration ℕ = words_on t.machine one two three in
        let same_count : build_elements f ≡ count = build_count t.machine l f h counts.0 counts.1 ∙ sym counts.2 in
        let answer = drive_answer most low t l one two three in_room f h in
        let whole = reply_by words bytes l t one two three given
        (λ t one two three. TellsDrive most t (words_on t.machine one two three)) answer.0 answer.1 answer.2
        (built given.few given.room f h answer.3) in
        let same = (drive_is_settled words l most bytes low).one status answer.0 text answer.1 told answer.2
        reply whole in
        let drives = subst (λ x. Drives t f c (start_from f.machine f.limits c) (start_of f c) most answer.3.exit x)
        (sym same.texts) answer.3.drives in
        told_so most low t l one two three in_room f h count same_count status text answer.3.exit drives
        (same.statuses ∙ answer.3.status_is) n d e
        (in_window most low t l one two three in_room f h count same_count n d e own)

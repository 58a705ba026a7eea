-- What is told of a board that was driven is the answer.
use Rattle.std.specs.Prelude.{◌≡◌, ℕ, ◌+◌, ◌-◌, ◌*◌, ◌≤◌, Bool, List, [], length, Option, Some, None}
use Rattle.std.specs.Prelude.{Result, Ok, Err, IfOk, refl}
use Rattle.std.proofs.Common.{zero, suc, arith, sym, ap, subst, ◌∙◌}
use Rattle.bn_lists.specs.Runs.{Reaches}
use Rattle.bn_lists.specs.declared.memory.NoMemory.{NoMemory}
use Rattle.bn_circuits.specs.Circuits.{Circuit, Goes, IsStuck, clock}
use Rattle.bn_circuits.specs.Counting.{one_if, tally}
use Rattle.bn_circuits.specs.Situations.{Situation}
use Rattle.bn_circuits.specs.Stepping.{places, run}
use Rattle.bn_circuits.specs.declared.config.Config.{Config}
use Rattle.bn_circuits.specs.declared.place.Place.{Place}
use Rattle.bn_circuits.specs.declared.place.Place.TheVariants.{Enter}
use Rattle.bn_circuits.proofs.CountingLemmas.{tally-more, tally-zero}
use Rattle.bn_circuits.proofs.RunLemmas.{next-stuck, run_stops}
use Rattle.bn_circuits.specs.RotaryNets.{rotary_circuit}
use Rattle.bn_circuits.specs.Watching.{Hears}
use Rattle.bn_circuits.specs.Parts.{Parts}
use Rattle.bn_element.specs.declared.rotary.Rotary.{Rotary}
use Rattle.bn_machine.specs.Outcome.{Limits}
use Rattle.bn_quad.specs.Names.{Naming}
use Rattle.bn_quad.specs.Quadruples.{Configuration, Quadruples}
use Rattle.bn_qtable.specs.Rows.{QuadTable, table_of}
use Rattle.bn_bennett_laws.specs.Steps.{Exit, Finished, Stopped, Leaving}
use Rattle.bn_network.specs.Controls.{symbol_count}
use Rattle.bn_network.specs.Starts.{start_from}
use Rattle.bn_boards.specs.Layouts.{elements_of, is_moment, moments}
use Rattle.bn_boards.proofs.NetworkReadLemmas.{networks-read}
use Rattle.bn_board.specs.Flattened.{Flattened, IsSameBoard}
use Rattle.bn_boards.specs.Builds.{Build, IsStart, build_elements, start_of}
use Rattle.bn_boards.specs.Exits.{BoardLeaves}
use Rattle.bn_boards.specs.BuildRuns.{BuildRunsTo, EndsInWindow}
use Rattle.bn_boards.proofs.StartingLemmas.{no_letters as none_low}
use Rattle.bn_reply_builds.specs.Drives.{Drives, leaves, stays}
use Rattle.bn_reply_builds.specs.DriveText.{drive_exit_line, drive_text, inside_line}
use Rattle.bn_reply_builds.proofs.DriveLemmas.{drives-once}
use Rattle.bn_reply.specs.declared.reply.Reply.{Reply}
use Rattle.bn_reply_boards.specs.Running.{IsAnswered}
use Rattle.bn_reply_boards.proofs.AnsweredLemmas.{answered_late, answered_told}
use Rattle.bn_reply_builds.specs.BuildReply.{IsBuiltFor}
use Rattle.bn_reply_builds.specs.Opened.{IsBuiltBoard}
use Rattle.bn_reply_builds.specs.declared.outcome.Outcome.TheVariants.{Inside}
use Rattle.bn_reply_builds.specs.Driven.{TellsDrive, TellsOutcome, drive_status}
use Rattle.bn_reply_builds.specs.Outcomes.{outcome_by, outcome_line, outcome_status}
use Rattle.bn_boards.proofs.FitLemmas.{final_fits}
use Rattle.bn_reply_builds.proofs.OutcomeTextLemmas.{outcome_line_is}

-- ---- counts of a run that goes no further

module _ (k : Circuit) (test : Config → Bool) where
  none_behind : (r : ℕ) (d : Config) → IsStuck k d → tally test k r d ≡ 0
  unfolding tally
  none_behind zero d stuck = refl
  none_behind (suc r) d stuck = rw (next-stuck k d stuck) refl

  tally_stops : (n t : ℕ) (c d : Config) → Reaches (Goes k) n c d → n ≤ t → IsStuck k d
      → tally test k t c ≡ tally test k n c
  tally_stops zero t c d path low stuck =
      none_behind t c (subst (IsStuck k) (sym path) stuck) ∙ sym (tally-zero k test c)
  tally_stops (suc n) zero c d path low stuck = absurd (omega arith)
  tally_stops (suc n) (suc t) c d path low stuck =
      tally-more k test t c path.0 path.1
      ∙ ap (λ x. one_if (test path.0) + x) (tally_stops n t path.0 d path.2 (omega arith) stuck)
      ∙ sym (tally-more k test n c path.0 path.1)

-- ---- statuses

status_is : (d : Configuration ℕ) (e : Exit) → outcome_status (outcome_by d e) ≡ drive_status (Some e)
status_is d Finished = refl
status_is d Stopped = refl
status_is d (Leaving tape s) = refl

-- ---- a board

module _ (most : ℕ) (low : most ≤ 2305843009213693952) (m : Quadruples) (names : Naming) (l : Limits) (f : Build)
    (c : Configuration ℕ) (b d : Flattened)
    (built : IsBuiltFor m l f) (board : IsBuiltBoard f c b) (steps : ℕ)
    (count : steps ≡ moments b.layout (rotary_circuit b.net) most b.config - 1)
    (ran : d.config ≡ run (rotary_circuit b.net) b.config most) (same : IsSameBoard b d) where
  abbrev t : QuadTable
  t = table_of m names

  abbrev s : Situation
  s = start_from f.machine f.limits c

  begins : IsStart f c s (start_of f c)
  begins = subst (IsStart f c s) board.config board.begins

  room : most + 48 * build_elements f ≤ clock
  room = let few : build_elements f ≤ 4194304 = built.few in omega (arith, few)

  circuit : rotary_circuit b.net ≡ f.circuit
  circuit = sym board.circuit

  there : d.config ≡ run f.circuit (start_of f c) most
  there = ran ∙ (λ i. run (circuit i) (board.config i) most)

  layout : f.layout ≡ d.layout
  layout = board.layout ∙ sym same.layout

  elements : build_elements f ≡ length d.net.elements
  elements =
      let read = networks-read f.machine f.limits [] f.names f.network f.layout built.build.is_network
      built.build.is_layout
      (none_low (symbol_count f.machine 1)) in
      sym read.1.count ∙ ap elements_of board.layout ∙ sym board.kept.elements
      ∙ ap (λ (net : Parts Rotary). length net.elements) (sym same.net)

  steps_are : steps ≡ moments f.layout f.circuit most (start_of f c) - 1
  steps_are = count ∙ (λ i. moments (sym board.layout i) (circuit i) most (board.config i) - 1)

  -- the run that there is
  abbrev Answer : Type 0
  Answer = (exit : Option Exit) × (text : List ℕ) × Drives t f c s (start_of f c) most exit text

  answer : Answer
  answer = (drives-once t f built.build c s (start_of f c) begins most room).0

  module _ (r : Reply) (told : TellsOutcome t d steps r) where
    abbrev Tells : Type 0
    Tells = TellsDrive most t c f r.status r.text.items (places f.circuit most (start_of f c))

    left_so : (n : ℕ) (x : Configuration ℕ) (e : Exit) → EndsInWindow f c n x e
        → (by : BuildRunsTo f s (start_of f c) n x e) → by.cost ≤ most → Tells
    left_so n x e ends by within =
        let stopped : run f.circuit (start_of f c) most ≡ run f.circuit (start_of f c) by.cost =
        run_stops f.circuit by.cost most (start_of f c) (run f.circuit (start_of f c) by.cost) by.run_to within
        (λ fewer. by.ended) in
        let here : d.config ≡ run f.circuit (start_of f c) by.cost = there ∙ stopped in
        let fits = final_fits f built.build c s (start_of f c) begins n x e ends in
        let outcome : told.outcome ≡ outcome_by x e =
        told.left f x e built.build built.machine layout fits
        (subst (λ (y : Config). BoardLeaves f y.place y.states x e) (sym here) by.leaves) in
        let all : moments f.layout f.circuit most (start_of f c) ≡ n + 1 =
        ap (λ k. one_if (is_moment f.layout (start_of f c)) + k)
        (tally_stops f.circuit (is_moment f.layout) by.cost most (start_of f c) (run f.circuit (start_of f c) by.cost)
        by.run_to within by.ended)
        ∙ by.count in
        let made : steps ≡ n = steps_are ∙ ap (λ k. k - 1) all ∙ one_less n in
        let line : outcome_line t told.outcome ≡ drive_exit_line t x e = ap (outcome_line t) outcome
        ∙ outcome_line_is t x e in
        record {
          exit = Some e;
          drives = leaves n x e ends by within refl
              (told.text f layout elements ∙ (λ i. drive_text t f (line i) (made i) (here i)));
          status_is = told.status ∙ ap outcome_status outcome ∙ status_is x e;
          told_is = refl;
        }
      where
        one_less : (n : ℕ) → n + 1 - 1 ≡ n
        one_less n = omega arith

    inside_so : (e l : ℕ) → Reaches (Goes f.circuit) most (start_of f c) (run f.circuit (start_of f c) most)
        → (run f.circuit (start_of f c) most).place ≡ Enter e l → Tells
    inside_so e l path at =
        let outcome : told.outcome ≡ Inside (record { element = e; line = l }) =
        told.inside e l (ap (λ (x : Config). x.place) there ∙ at) in
        let line : outcome_line t told.outcome ≡ inside_line (Enter e l) = ap (outcome_line t) outcome in
        record {
          exit = None;
          drives = stays e l path at refl
              (told.text f layout elements ∙ (λ i. drive_text t f (line i) (steps_are i) (there i)));
          status_is = told.status ∙ ap outcome_status outcome;
          told_is = refl;
        }

    pub tells : Tells
    tells = by_run answer.2
      where
        by_run : Drives t f c s (start_of f c) most answer.0 answer.1 → Tells
        by_run (leaves n x e ends by within why text) = left_so n x e ends by within
        by_run (stays e l path at why text) = inside_so e l path at

  -- the reply, and what is told where memory is wanting
  pub answered : (result : Result Reply NoMemory) → IfOk result (TellsOutcome t d steps)
      → (told heard : Option (List Place))
      → Hears told (places (rotary_circuit b.net) most b.config) heard
      → IsAnswered (TellsDrive most t c f) result told heard
  answered (Ok r) outcome told heard hears =
      answered_told (TellsDrive most t c f) r (places f.circuit most (start_of f c)) told heard (tells r outcome)
      (subst (λ ps. Hears told ps heard) (λ i. places (circuit i) most (board.config i)) hears)
  answered (Err e) outcome told heard hears =
      answered_late (TellsDrive most t c f) e (drive_status answer.0) answer.1 (places f.circuit most (start_of f c))
      told heard
      (record { exit = answer.0; drives = answer.2; status_is = refl; told_is = refl })
      (subst (λ ps. Hears told ps heard) (λ i. places (circuit i) most (board.config i)) hears)

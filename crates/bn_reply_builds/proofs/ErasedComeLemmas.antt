-- The signal of the circuit that erases comes to its end.
use Rattle.std.specs.Prelude.{◌≡◌, ℕ, ◌+◌, ◌*◌, ◌<◌, ◌≤◌, List, [], ◌∷◌, ◌++◌, codes, Option, Some}
use Rattle.std.proofs.Common.{arith, sym, ap, subst, ◌∙◌}
use Rattle.bn_circuits.specs.Circuits.{clock}
use Rattle.bn_circuits.specs.Situations.{Situation}
use Rattle.bn_circuits.specs.Stepping.{run}
use Rattle.bn_circuits.specs.declared.config.Config.{Config}
use Rattle.bn_circuits.specs.declared.place.Place.{Place}
use Rattle.bn_circuits.specs.declared.place.Place.TheVariants.{Enter}
use Rattle.bn_circuits.proofs.CountingLemmas.{one_low, tally_low}
use Rattle.bn_circuits.proofs.RunLemmas.{run_stops}
use Rattle.bn_circuits.proofs.RunPartLemmas.{steps_of_run}
use Rattle.bn_machine.specs.Outcome.{Limits}
use Rattle.bn_circuits.specs.declared.net.TheConstants.{MOST_ELEMENTS}
use Rattle.bn_quad.specs.Quadruples.{Configuration}
use Rattle.bn_qtable.specs.Rows.{QuadTable}
use Rattle.bn_qtable.specs.TapeWords.{Letters, One}
use Rattle.bn_bennett_laws.specs.Steps.{Exit, Finished}
use Rattle.bn_network.specs.Starts.{start_from, words_on}
use Rattle.bn_network_assembly.specs.Assembled.{CountsElements}
use Rattle.bn_boards.specs.Layouts.{is_moment, spelled_by, spelled_config}
use Rattle.bn_boards.specs.Builds.{Build, IsStart, build_elements, start_of}
use Rattle.bn_boards.specs.Exits.{BoardLeaves, by_end, by_read, by_wait, by_window}
use Rattle.bn_boards.specs.BuildRuns.{BuildRunsTo, EndsInWindow}
use Rattle.bn_boards.proofs.ConverseLemmas.{builds-once}
use Rattle.bn_boards.proofs.RunLemmas.{builds-run}
use Rattle.bn_reply.specs.Lines.{line}
use Rattle.bn_reply.specs.declared.status.Status.{Status}
use Rattle.bn_reply.specs.declared.status.Status.TheVariants as statuses
use Rattle.bn_reply_relations.specs.RunText.{elements_line, quadruple_line, steps_line}
use Rattle.bn_reply_builds.specs.BuildReply.{IsBuiltFor}
use Rattle.bn_reply_builds.specs.DriveText.{drive_exit_line}
use Rattle.bn_reply_builds.specs.Drives.{Drives, leaves, stays}
use Rattle.bn_reply_builds.specs.Outcomes.{drive_tape_lines}
use Rattle.bn_reply_builds.proofs.BuiltLemmas.{build_begins, build_count}
use Rattle.bn_reply_builds.proofs.OutcomeLemmas.{not_inside}
use Rattle.bn_reply_builds.specs.DriveHeadline.{IsGiven, IsOwnRun}
use Rattle.bn_reply_builds.specs.DriveReply.{DriveReplies}
use Rattle.bn_reply_builds.specs.Driven.{TellsDrive, drive_status}
use Rattle.bn_reply_builds.proofs.CircuitLemmas.{drives-tell_boards}
use Rattle.bn_reply_builds.proofs.HeadlineLemmas.{in_window, inputs}

-- ---- a board that runs to its end

module _ (word table : List ℕ) (l : Limits) (r : QuadTable) (z : List ℕ)
    (given : IsGiven (One (Letters word)) table l r z [] []) (n : ℕ) (d : Configuration ℕ) (exit : Exit)
    (own : IsOwnRun r l z [] [] n d exit) (count : ℕ) (counts : CountsElements r.machine l count) where
  abbrev c : Configuration ℕ
  c = words_on r.machine z [] []

  module _ (f : Build) (h : IsBuiltFor r.machine l f) where
    abbrev s : Situation
    s = start_from f.machine f.limits c

    abbrev at_start : Config
    at_start = start_of f c

    same_count : build_elements f ≡ count
    same_count = build_count r.machine l f h counts.0 counts.1 ∙ sym counts.2

    pub begins : IsStart f c s at_start
    begins = build_begins r.machine l z [] [] (inputs (One (Letters word)) table l r z [] [] given) f h

    pub ends : EndsInWindow f c n d exit
    ends = in_window 0 (omega arith) r l z [] [] (inputs (One (Letters word)) table l r z [] [] given) f h count
        same_count n d exit own

    module _ (room : 4 * count + 48 * count * (n + 1) ≤ clock) where
      pub ran : BuildRunsTo f s at_start n d exit
      ran = builds-run f h.build c s at_start begins n d exit ends
          (subst (λ m. 4 * m + 48 * m * (n + 1) ≤ clock) (sym same_count) room)

      abbrev there : Config
      there = run f.circuit at_start ran.cost

      made : there.steps ≡ ran.cost
      made = steps_of_run f.circuit ran.cost at_start there ran.run_to ∙ (let e : 0 + ran.cost ≡ ran.cost =
          omega arith in e)

      pub above : n ≤ ran.cost
      above =
          let first = one_low (is_moment f.layout at_start) in
          let behind = tally_low (is_moment f.layout) f.circuit ran.cost at_start in
          let all = ran.count in
          omega (arith, first, behind, all)

      pub below : ran.cost ≤ 4 * count + 48 * count * (n + 1)
      below = subst (λ m. ran.cost ≤ 4 * m + 48 * m * (n + 1)) same_count ran.bounded

      spelled_at_end : (p : Place) (states : List ℕ) (e : Exit) → e ≡ Finished → BoardLeaves f p states d e
          → spelled_by f.layout states ≡ spelled_config f.limits d
      spelled_at_end p states e is (by_end why exit spelled) = spelled
      spelled_at_end p states e is (by_read t stop why line spelled) = absurd (let both = sym why ∙ is in cc)
      spelled_at_end p states e is (by_wait none why exit spelled) = absurd (let both = sym why ∙ is in cc)
      spelled_at_end p states e is (by_window t side to step why exit spelled) = absurd (let both = sym why ∙ is in cc)

      spelled : exit ≡ Finished → spelled_by f.layout there.states ≡ spelled_config l d
      spelled is = spelled_at_end there.place there.states exit is ran.leaves
          ∙ ap (λ (w : Limits). spelled_config w d) h.limits

      -- ---- what is told

      -- the lines of the end, by the names of the table that was read
      abbrev pub told_lines : List ℕ
      told_lines = elements_line count ++ (line (codes "exit end" ∷ []) ++ (steps_line ran.cost ++ (quadruple_line n
          ++ drive_tape_lines r (spelled_config l d))))

      module _ (most : ℕ) (low : most ≤ 2305843009213693952) (status : Status) (text : List ℕ) (told : List Place)
          (reply : DriveReplies (One (Letters word)) l most table status text told) (few : count ≤ MOST_ELEMENTS)
        where
          tells : TellsDrive most r c f status text told
          tells = ((drives-tell_boards (One (Letters word)) l most table status text told low reply r z [] [] given
              count
              counts few).tells f h).0

          abbrev Told : Type 0
          Told = (ran.cost ≤ most → (status ≡ drive_status (Some exit)) × (exit ≡ Finished → text ≡ told_lines))
              × (most < ran.cost → status ≡ statuses.Inside)

          told_by : (found : Option Exit) → Drives r f c s at_start most found text → status ≡ drive_status found → Told
          told_by found (leaves m g e ended by within why text_is) status_is =
              let one = builds-once.0 f h.build c m n g d e exit ended ends in
              let same = builds-once.1 f s at_start m n g d e exit by ran in
              let exits : exit ≡ Finished → drive_exit_line r g e ≡ line (codes "exit end" ∷ []) =
              (λ is. (λ i. drive_exit_line r (one.1 i) (one.2 i)) ∙ ap (drive_exit_line r d) is) in (
                λ enough. (
                  status_is ∙ ap drive_status why ∙ ap (λ x. drive_status (Some x)) one.2,
                  λ is. text_is ∙ (λ i. elements_line (same_count i) ++ (exits is i ++ (steps_line ((same.1 i).steps)
                      ++ (quadruple_line (one.0 i) ++ drive_tape_lines r (spelled_by f.layout (same.1 i).states)))))
                      ∙ (λ i. elements_line count ++ (line (codes "exit end" ∷ []) ++ (steps_line (made i)
                      ++ (quadruple_line n ++ drive_tape_lines r (spelled is i))))),
                ),
                λ more. absurd (let cost = same.0 in omega arith),
              )
          told_by found (stays element i path at why text_is) status_is = (
            λ enough. absurd (not_left element i at enough),
            λ more. status_is ∙ ap drive_status why,
          )
            where
              not_left : (element i : ℕ) → (run f.circuit at_start most).place ≡ Enter element i → ran.cost ≤ most → ⊥
              not_left element i at enough =
                  let stopped : run f.circuit at_start most ≡ there =
                  run_stops f.circuit ran.cost most at_start there ran.run_to enough (λ fewer. ran.ended) in
                  not_inside f there.place there.states d exit ran.leaves element i
                  (ap (λ (x : Config). x.place) (sym stopped) ∙ at)

          pub told_so : Told
          told_so = told_by tells.exit tells.drives tells.status_is

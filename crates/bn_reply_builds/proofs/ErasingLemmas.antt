-- The board of an erasing machine that was written and read again erases its input.
use Rattle.std.specs.Prelude.{◌≡◌, ℕ, ◌+◌, ◌*◌, ◌≤◌, List, [], length, map, refl, ◌⊎◌}
use Rattle.std.proofs.Common.{zero, suc, sym, subst, ◌∙◌, inl, inr}
use Rattle.bn_lists.specs.Runs.{Reaches}
use Rattle.bn_circuits.specs.Circuits.{clock, Goes, IsStuck}
use Rattle.bn_circuits.specs.Situations.{Situation}
use Rattle.bn_circuits.specs.declared.config.Config.{Config}
use Rattle.bn_machine.specs.declared.quint.Side.{Side}
use Rattle.bn_quad.specs.Quadruples.{Rule, Configuration, Quadruples, QuadruplesRunTo, Rooms, everywhere}
use Rattle.bn_quad.specs.Quadruples.{final_state_of}
use Rattle.bn_quad.specs.Calls.{IsUniformMachine}
use Rattle.bn_quad.proofs.QuadStepLemmas.{goes_everywhere}
use Rattle.bn_qtable.specs.Rows.{QuadTable}
use Rattle.bn_bennett_laws.specs.Laws.{HaltsAfter}
use Rattle.bn_bennett_laws.specs.Stages.{IsStandardMachine, IsSpelledBy, rooms_of}
use Rattle.bn_bennett_laws.specs.Steps.{EndsAt, Exit, HasExit, Finished, Stopped, Leaving, finishes, stops, leaves}
use Rattle.bn_bennett_laws.proofs.NumberLemmas.{run_of_goes, run_of_steps}
use Rattle.bn_bennett_laws.proofs.StageStepLemmas.{exits_once}
use Rattle.bn_erase_laws.specs.Erasing.{IsWord}
use Rattle.bn_erase_laws.proofs.NumberedLemmas.{erasing_numbers_pass_tests, erasing_numbers_run_alike}
use Rattle.bn_erase_laws.proofs.TheoremLemmas.{erases_input}
use Rattle.bn_erase.specs.Joint.{Joint, IsJoint}
use Rattle.bn_erase.specs.Laws.{ErasingsErase, start_of, end_of}
use Rattle.bn_erase.specs.Made.{Erasure, IsErasing}
use Rattle.bn_erase.specs.Printed.{names_of}
use Rattle.bn_erase.proofs.AlikeLemmas.{erases_back, erases_forth}
use Rattle.bn_erase.proofs.ClosedLemmas.{erasings_uniform}
use Rattle.bn_erase_laws.proofs.InverseLemmas.{final_if}
use Rattle.bn_renumbering.specs.Renumbering.{IsRenumbering, IsRenumbered, ReadsBack}
use Rattle.bn_boards.specs.Builds.{Build, IsBuild, IsStart, build_elements}
use Rattle.bn_network.specs.Starts.{words_on}
use Rattle.bn_reply_builds.specs.DriveLaws.{ErasingBoardsErase}
use Rattle.bn_reply_builds.specs.RenumberedBuilds.{TellsRenumbered}
use Rattle.bn_reply_builds.proofs.RenumberedLemmas.{renumbered-tell, words-renumbered}

-- a run in rooms is one without ends
run_everywhere : (rooms : Rooms) (m : Quadruples) (n : ℕ) (c d : Configuration ℕ)
    → Reaches (QuadruplesRunTo rooms m) n c d → Reaches (QuadruplesRunTo everywhere m) n c d
run_everywhere rooms m zero c d run = run
run_everywhere rooms m (suc n) c d run =
    (run.0, (run.1.0, goes_everywhere rooms m run.1.0 c run.0 run.1.1), run_everywhere rooms m n run.0 d run.2)

-- a stop is one without ends
stops_everywhere : (rooms : Rooms) (rs : List (Rule ℕ)) (final : ℕ) (c : Configuration ℕ) (e : Exit) → e ≡ Stopped
    → EndsAt rooms rs final c e → EndsAt everywhere rs final c Stopped
stops_everywhere rooms rs final c e is (finishes same why) = absurd (let both : Finished ≡ Stopped = sym why ∙ is in cc)
stops_everywhere rooms rs final c e is (stops going none why) = stops going none refl
stops_everywhere rooms rs final c e is (leaves tape side x going follows out why) =
    absurd (let both : Leaving tape side ≡ Stopped = sym why ∙ is in cc)

-- the theorem on the erasing machine
erases : ErasingsErase
erases p q e x left right same h letters word = (
  erases_forth p q e h left right erasing_numbers_pass_tests erasing_numbers_run_alike x erases_input same letters word,
  erases_back p q e h left right erasing_numbers_pass_tests erasing_numbers_run_alike x erases_input same letters word,
)

module _ (j : Joint) (e : Erasure) (t : QuadTable) (f : Build) (joint : IsJoint j) (made : IsErasing j.first j.second e)
    (left : IsStandardMachine j.first) (right : IsStandardMachine j.second)
    (back : ReadsBack e.machine (names_of j e) t)
    (is : IsBuild f) (same : f.machine ≡ t.machine) (z x : List ℕ) (spelled : map back.renumbering.one z ≡ x)
    (letters : IsSpelledBy j.first x) (word : IsWord x) (s : Situation) (at_start : Config)
    (start : IsStart f (words_on f.machine z [] []) s at_start) (n : ℕ) (d : Config)
    (run : Reaches (Goes f.circuit) n at_start d) (stuck : IsStuck f.circuit d)
    (room : n + 48 * build_elements f ≤ clock) where
  uniform : IsUniformMachine e.machine
  uniform = (erasings_uniform j.first j.second e left right made).0

  renumbered : IsRenumbering back.renumbering f.machine e.machine
  renumbered = subst (λ m. IsRenumbering back.renumbering m e.machine) (sym same) back.is_renumbering

  alike : IsRenumbered back.renumbering (words_on f.machine z [] []) (start_of e x)
  alike = subst (λ y. IsRenumbered back.renumbering (words_on f.machine z [] []) (words_on e.machine y [] [])) spelled
      (words-renumbered back.renumbering f.machine e.machine is.is_network.machine renumbered z [] [])

  tells : TellsRenumbered back.renumbering f e.machine (words_on f.machine z [] []) (start_of e x) s at_start n d
  tells = renumbered-tell back.renumbering f e.machine is renumbered uniform.deterministic (words_on f.machine z [] [])
      (start_of e x) s at_start start alike n d run stuck room

  ran : Reaches (QuadruplesRunTo everywhere e.machine) tells.told.steps (start_of e x) tells.final
  ran = run_everywhere (rooms_of f.limits) e.machine tells.told.steps (start_of e x) tells.final
      (run_of_steps (rooms_of f.limits) e.machine uniform.deterministic tells.told.steps
      (start_of e x) tells.final tells.ends.run)

  theorem : (v w : ℕ) (y : List ℕ) → HaltsAfter j.first x v y → HaltsAfter j.second y w x
      → Reaches (QuadruplesRunTo everywhere e.machine) (4 * (v + w) + 4 * (length x + length y) + 10) (start_of e x)
      (end_of e y)
  theorem = (erases j.first j.second e x left right (joint.first_symbols ∙ sym joint.second_symbols) made letters
      word).0

  ended : tells.told.exit ≡ Finished → (v w : ℕ) × (y : List ℕ) × HaltsAfter j.first x v y × HaltsAfter j.second y w x
      × (tells.told.steps ≡ 4 * (v + w) + 4 * (length x + length y) + 10)
      × IsRenumbered back.renumbering tells.told.final (end_of e y)
  ended finished =
      let final = final_if (rooms_of f.limits) e.machine.rules (final_state_of e.machine.rules) tells.final
      tells.told.exit finished tells.ends.ends in
      let found = (erases j.first j.second e x left right (joint.first_symbols ∙ sym joint.second_symbols) made letters
      word).1 tells.told.steps tells.final ran final in (
        found.0,
        found.1,
        found.2,
        found.3,
        found.4,
        found.5,
        subst (IsRenumbered back.renumbering tells.told.final) found.6 tells.alike,
      )

  halted : (v w : ℕ) (y : List ℕ) → HaltsAfter j.first x v y → HaltsAfter j.second y w x
      → (tells.told.exit ≡ Finished) ⊎ ((tape : ℕ) × (side : Side) × (tells.told.exit ≡ Leaving tape side))
  halted v w y first second = by_exit tells.told.exit refl
    where
      by_exit : (o : Exit) → tells.told.exit ≡ o
          → (tells.told.exit ≡ Finished) ⊎ ((tape : ℕ) × (side : Side) × (tells.told.exit ≡ Leaving tape side))
      by_exit Finished at = inl at
      by_exit (Leaving tape side) at = inr (tape, side, at)
      by_exit Stopped at =
          let steps = 4 * (v + w) + 4 * (length x + length y) + 10 in
          let whole : HasExit everywhere e.machine.rules (final_state_of e.machine.rules) steps (start_of e x)
          (end_of e y) Finished =
          record {
            run = run_of_goes everywhere e.machine steps (start_of e x) (end_of e y) (theorem v w y first second);
            ends = finishes refl refl;
          } in
          let stop : HasExit everywhere e.machine.rules (final_state_of e.machine.rules) tells.told.steps
          (start_of e x) tells.final Stopped =
          record {
            run = run_of_goes everywhere e.machine tells.told.steps (start_of e x) tells.final ran;
            ends = stops_everywhere (rooms_of f.limits) e.machine.rules (final_state_of e.machine.rules) tells.final
                tells.told.exit at tells.ends.ends;
          } in
          let one = exits_once everywhere e.machine.rules (final_state_of e.machine.rules) uniform.deterministic steps
          tells.told.steps (start_of e x) (end_of e y) tells.final Finished Stopped whole stop in
          absurd (let both : Finished ≡ Stopped = one.2 in cc)

pub erasing-boards : ErasingBoardsErase
erasing-boards j e t f joint made left right back is same z x spelled letters word s at_start start n d run stuck room =
    record {
      told = (tells j e t f joint made left right back is same z x spelled letters word s at_start start n d run stuck
          room).told;
      ended = ended j e t f joint made left right back is same z x spelled letters word s at_start start n d run stuck
          room;
      halted = halted j e t f joint made left right back is same z x spelled letters word s at_start start n d run stuck
          room;
    }

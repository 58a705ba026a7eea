-- A board's moments in its own words, and its marks at every step.
use Rattle.std.specs.Prelude.{◌≡◌, ℕ, ◌+◌, ◌-◌, ◌<◌, ◌≤◌, length, Some, slice_get, refl}
use Rattle.std.proofs.Common.{zero, suc, arith, sym, ap, subst, ◌∙◌, inl, inr}
use Rattle.std.proofs.lemmas.Bool.{cases_lt}
use Rattle.bn_lists.specs.Runs.{Reaches}
use Rattle.bn_circuits.specs.Circuits.{Circuit, clock, IsStuck}
use Rattle.bn_circuits.specs.Stepping.{run}
use Rattle.bn_circuits.proofs.RunLemmas.{run_composes, run-stuck}
use Rattle.bn_circuits.specs.declared.config.Config.{Config}
use Rattle.bn_element.specs.Rotary.{horizontal}
use Rattle.bn_machine.specs.Laws.{HasOneOutcome}
use Rattle.bn_bennett.specs.Laws.{TranslationsAreUniform, TranslationsHaveNoRoom}
use Rattle.bn_bennett.specs.Laws.{TranslationsStand}
use Rattle.bn_realise.specs.Banks.{bottom_at}
use Rattle.bn_circuits.specs.Situations.{Situation, Turns}
use Rattle.bn_rsm.specs.RunCosts.{run_cost}
use Rattle.bn_network.specs.ControlLaws.{StatesHaveEntries, HasEntries}
use Rattle.bn_network.specs.Controls.{control_lines}
use Rattle.bn_boards.specs.Boards.{base}
use Rattle.bn_boards.specs.Flats.{Flat, machine_of, situation_at_start, flat_start}
use Rattle.bn_boards.specs.Costs.{HasCost}
use Rattle.bn_boards.specs.BoardRuns.{RunsToExit}
use Rattle.bn_boards.proofs.ExitedLemmas.{boards-run}
use Rattle.bn_boards.proofs.JourneyedLemmas.{networks-end}
use Rattle.bn_boards.proofs.ReadingLemmas.{boards-read, flat-reads, own_flat, own_accepted}
use Rattle.bn_boards.proofs.LetterLemmas.{letters_are, some_letters}
use Rattle.bn_boards.specs.Moments.{MomentsAreByMarks, BoardsHaveMoments}
use Rattle.bn_boards.proofs.MomentsLemmas.{RunsTellMoments, BoardMomentsAreSums}
use Rattle.bn_boards.proofs.CellLemmas.{cells_lie}
use Rattle.bn_boards.proofs.TellingLemmas.{commands_lead, found_moment}
use Rattle.bn_boards.proofs.WalkLemmas.{goes_on}
use Rattle.bn_boards.proofs.BoardMomentLemmas.{banks-one_mark, moments-sums, tapes-one_head, moments-told}
use Rattle.bn_network_laws.specs.NetworkLaws.{HeadsStayOne}
use Rattle.bn_boards.proofs.CountLemmas.{costs-one}
use Rattle.bn_rsm.proofs.RunCostLemmas.{cost-joins}
use Rattle.bn_boards.proofs.VisitLemmas.{reach}

-- a configuration past the end is the last one
up_to_end : (k : Circuit) (c : Config) (cost t : ℕ) → IsStuck k (run k c cost)
    → (s : ℕ) × (s ≤ cost) × (run k c t ≡ run k c s)
up_to_end k c cost t stuck =
    elim (cases_lt cost t) [
      | inl past ↦ (
        cost,
        omega arith,
        run_composes k c cost (t - cost) t (omega arith) ∙ run-stuck k (run k c cost) stuck (t - cost),
      )
      | inr before ↦ (t, before, refl)
    ]

-- the network's moves from the start cost no more than the board's whole run
cost_within : (f : Flat) (cost moves : ℕ) (at : Situation) → HasCost f cost
    → Reaches (Turns f.network) moves (situation_at_start f) at → run_cost f.network moves (situation_at_start f) ≤ cost
cost_within f cost moves at has path =
    elim (cases_lt has.moves moves) [
      | inl less ↦ absurd (none_beyond (moves - has.moves) (omega arith)
          (goes_on f.network has.moves moves (situation_at_start f) has.last at has.run path (omega arith)))
      | inr more ↦
          (let rest = cost-joins f.network moves (has.moves - moves) (situation_at_start f) at path in
          let count : moves + (has.moves - moves) ≡ has.moves = omega arith in
          let part : run_cost f.network (moves + (has.moves - moves)) (situation_at_start f)
          ≡ run_cost f.network has.moves (situation_at_start f) = ap
          (λ n. run_cost f.network n (situation_at_start f)) count in
          let whole = cost-joins f.network has.moves 1 (situation_at_start f) has.last has.run in
          let is = has.is in
          omega arith)
    ]
  where
    none_beyond : (j : ℕ) → 0 < j → Reaches (Turns f.network) j has.last at → ⊥
    none_beyond zero some path = omega arith
    none_beyond (suc j) some path = has.ended path.0 path.1

module _ (uniform : TranslationsAreUniform) (entries : StatesHaveEntries) where
  -- what the layout finds is the moment, where one column of the control is marked at most
  pub moments-by_marks : MomentsAreByMarks
  moments-by_marks p word l f flat accepted d a one =
      let m = machine_of f in
      let has_entries : HasEntries m = entries m flat.translation.machine
      (uniform p f.translation accepted.standard flat.translation).0 in
      found_moment l f.names f.network m f.layout flat.is_network flat.numbering flat.is_layout flat.translation.machine
      has_entries
      (λ t tape. subst (λ v. 0 < v) (letters_are p word l f flat t)
      (some_letters p word l f flat accepted t tape.low tape.high))
      (cells_lie l f.names f.network p.symbols (length p.quints + 1) p.symbols m f.layout flat.translation.symbols
      flat.is_layout)
      (commands_lead l f.names f.network p.symbols (length p.quints + 1) p.symbols m f.layout flat.translation.symbols
      flat.is_layout) d one a

  -- so at each step of a run
  pub runs-tell : RunsTellMoments
  runs-tell p word l f cost flat accepted has room t a low =
      moments-by_marks p word l f flat accepted (run f.circuit (flat_start f) t) a
      (λ i j first second flat_i flat_j. banks-one_mark uniform entries p word l f cost flat accepted has room t 0 j i
      flat.is_network.control low (ap (λ ts. slice_get ts 0) flat.is_network.tables)
      (in_states j second) (in_states i first) (in_rows j flat_j) (in_rows i flat_i))
    where
      in_states : (q : ℕ) → q < length f.names → q < flat.is_network.control.states
      in_states q h = subst (λ v. q < v) (sym flat.is_network.is_control.states) h

      in_rows : (q : ℕ) → slice_get (run f.circuit (flat_start f) t).states
          (bottom_at 0 (control_lines (machine_of f)) q) ≡ Some horizontal
          → slice_get (run f.circuit (flat_start f) t).states (bottom_at (base f.network.tables 0)
          flat.is_network.control.inputs q) ≡ Some horizontal
      in_rows q h = subst (λ v. slice_get (run f.circuit (flat_start f) t).states (bottom_at 0 v q) ≡ Some horizontal)
          (sym flat.is_network.is_control.inputs) h

  module _ (stand : TranslationsStand) (no_room : TranslationsHaveNoRoom) (outcomes : HasOneOutcome) where
    -- a board's moments in its own words stand at the sums
    pub board_moments-sums : BoardMomentsAreSums
    board_moments-sums p word l f cost flat accepted has room t a low =
        let told = runs-tell p word l f cost flat accepted has room t a low in
        let sums = moments-sums uniform entries networks-end outcomes p word l f cost
        flat accepted has room t a low in
        (λ h. sums.0 (told.1 h), λ h. told.0 (sums.1 h))

    -- and all of it with no premise on the clock
    pub boards-moments : HeadsStayOne → BoardsHaveMoments
    boards-moments stay p word l f flat accepted =
        let ends = outcomes.0 p word l in
        let way : RunsToExit p f ends.0 ends.1 = boards-run stand no_room
        boards-read p word l f flat accepted ends.0 ends.1 ends.2 in
        let bounded = way.bounded in
        let in_time = way.in_time in
        let room : way.cost ≤ clock = omega arith in
        record {
          sums = λ cost t a has low. board_moments-sums p word l f cost flat accepted has
              (subst (λ v. v ≤ clock) (costs-one f way.cost cost way.has_cost has) room) t a low;
          found = λ cost t a has low. moments-sums uniform entries networks-end outcomes
              p word l f cost flat accepted has (subst (λ v. v ≤ clock) (costs-one f way.cost cost way.has_cost has)
              room) t a low;
          each = λ moves a at path moment.
              let read = (flat-reads p f (own_flat p word l f flat)
              (own_accepted p word l f flat accepted)).1 in
              let low = cost_within f way.cost moves at way.has_cost path in
              let none : (flat_start f).steps ≡ 0 = refl in
              let time : (flat_start f).steps + run_cost f.network moves (situation_at_start f) ≤ clock = omega arith in
              let there = reach f.network f.circuit read.modules flat.is_board (situation_at_start f) (flat_start f)
              read.starts moves at path time in
              let now = run f.circuit (flat_start f) (run_cost f.network moves (situation_at_start f)) in
              let told = (moments-told uniform entries p word l f flat accepted at now a there.0).1 moment in
              (moments-sums uniform entries networks-end outcomes p word l f way.cost
              flat accepted way.has_cost room (run_cost f.network moves (situation_at_start f)) a low).0 told;
          marks = λ t m j i u here one two lies lies'.
              let s = up_to_end f.circuit (flat_start f) way.cost t way.ended in
              banks-one_mark uniform entries p word l f way.cost flat accepted way.has_cost room s.0 m j i u s.1 here
              one two (bar_at t s.0 _ s.2 lies) (bar_at t s.0 _ s.2 lies');
          heads = λ t tape x y i j some few here there headed within headed' within' lies lies'.
              let s = up_to_end f.circuit (flat_start f) way.cost t way.ended in
              tapes-one_head uniform entries networks-end outcomes stay p word l f
              way.cost flat accepted way.has_cost room s.0 tape x y i j s.1 some few here there headed within
              headed' within' (bar_at t s.0 _ s.2 lies) (bar_at t s.0 _ s.2 lies');
        }
      where
        bar_at : (t s e : ℕ) → run f.circuit (flat_start f) t ≡ run f.circuit (flat_start f) s
            → slice_get (run f.circuit (flat_start f) t).states e ≡ Some horizontal
            → slice_get (run f.circuit (flat_start f) s).states e ≡ Some horizontal
        bar_at t s e same lies = subst (λ (v : Config). slice_get v.states e ≡ Some horizontal) same lies

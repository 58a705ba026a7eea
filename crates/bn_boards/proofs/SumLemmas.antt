-- A board is at a moment exactly at the sums of costs at which its network is at one.
use Rattle.std.specs.Prelude.{◌≡◌, ℕ, ◌+◌, ◌-◌, ◌≤◌, Bool, true, false, not, is_some, Option, Some, None, slice_get}
use Rattle.std.specs.Prelude.{refl}
use Rattle.std.proofs.Common.{zero, suc, arith, sym, ap, subst, ◌∙◌, inl, inr}
use Rattle.std.proofs.lemmas.Bool.Decides.{eqb_tells}
use Rattle.std.proofs.lemmas.Option.{same_Some}
use Rattle.bn_lists.specs.Runs.{Reaches}
use Rattle.bn_lists.proofs.RunsLemmas.{passes_run}
use Rattle.bn_circuits.specs.Circuits.{clock}
use Rattle.bn_circuits.specs.Stepping.{run}
use Rattle.bn_circuits.specs.declared.config.Config.{Config}
use Rattle.bn_quad.specs.Quadruples.{Configuration, final_state_of}
use Rattle.bn_bennett_laws.specs.Steps.{Exit}
use Rattle.bn_bennett.specs.Runs.{beginning_of}
use Rattle.bn_circuits.specs.Situations.{Situation, Turns}
use Rattle.bn_rsm.specs.RunCosts.{run_cost}
use Rattle.bn_circuits.specs.Counting.{tally, one_if}
use Rattle.bn_network.specs.ControlLaws.{HasEntries}
use Rattle.bn_network.specs.Moments.{IsMoment, at_end, sent, IsMomentOf}
use Rattle.bn_network_laws.proofs.ShownLemmas.{all_cells}
use Rattle.bn_boards.specs.Boards.{IsBoard, StandsFor}
use Rattle.bn_boards.specs.Layouts.{is_moment, moment_at}
use Rattle.bn_boards.specs.NetworkReads.{NetworkReads}
use Rattle.bn_boards.specs.Flats.{Flat, build_of, machine_of, situation_at_start, flat_start}
use Rattle.bn_boards.specs.Costs.{HasCost}
use Rattle.bn_boards.specs.Journeys.{NetworkComes}
use Rattle.bn_boards.specs.Readings.{MomentsAgree}
use Rattle.bn_boards.proofs.ReadingLemmas.{agreed}
use Rattle.bn_boards.specs.Moments.{MomentOnBoard}
use Rattle.bn_boards.proofs.VisitLemmas.{visits, reach}
use Rattle.bn_rsm.proofs.RunCostLemmas.{cost-joins}
use Rattle.bn_boards.proofs.WalkLemmas.{tally_joins, goes_on, walk}
use Rattle.bn_boards.proofs.StrideLemmas.{strides_show, strides_run}
use Rattle.bn_boards.proofs.TravelLemmas.{leg, none_of, one_of}

-- no moment where the test says so
not_some : (o : Option ℕ) (a : ℕ) → not (is_some o) ≡ true → o ≡ Some a → ⊥
not_some None a h is = absurd (cc)
not_some (Some b) a h is = absurd (cc)

-- and none where there is none
silent : (o : Option ℕ) → is_some o ≡ false → not (is_some o) ≡ true
silent None h = refl
silent (Some b) h = absurd (cc)

-- a count that is one and then some
one_more : {a b c d e : ℕ} → a ≡ b → b ≡ c + d → c ≡ 1 → d ≡ e → a ≡ e + 1
one_more first second one rest = omega arith

module _ (f : Flat) (board : IsBoard f.network f.circuit) (test : Situation
    → Bool) (read : NetworkReads (machine_of f) f.limits f.word f.names f.network f.layout test)
    (entries : HasEntries (machine_of f)) where
  -- the readings give the agreement of the two tests
  agree : MomentsAgree (build_of f) test
  agree = agreed (build_of f) f.word test read

  -- where the network is at the moment of a configuration, that is the moment of its state
  moment_state : (s : Situation) (d : Config) (a : ℕ) (c : Configuration ℕ) → StandsFor f.network s d
      → IsMoment (machine_of f) f.names f.network s a
      → IsMomentOf (machine_of f) f.limits f.names f.network s c → c.state ≡ a
  moment_state s d a c stands (at_end is place) shows =
      elim (eqb_tells c.state (final_state_of (machine_of f).rules)) [
        | inl final ↦ final.1 ∙ sym is
        | inr going ↦
            (let other : IsMoment (machine_of f) f.names f.network s c.state = sent going.1 shows.first shows.entry
            shows.waits shows.place in
            let one = (read.which s d a stands).1 (at_end is place) in
            let two = (read.which s d c.state stands).1 other in
            same_Some c.state a (sym two ∙ one))
      ]
  moment_state s d a c stands (sent going k entry waits place) shows =
      let numbers : waits.number ≡ shows.waits.number = same_Some _ _ (sym waits.is ∙ shows.waits.is) in
      let named : slice_get f.names waits.number ≡ Some shows.first.0 =
      subst (λ v. slice_get f.names v ≡ Some shows.first.0) (sym numbers) shows.waits.named in
      let states_same : shows.first.0 ≡ k.0 = same_Some _ _ (sym named ∙ waits.named) in
      entries.apart c.state a shows.first k shows.entry entry states_same

  module _ (cost : ℕ) (has : HasCost f cost) (room : cost ≤ clock) where
    -- the start, on the network and on the board, and the board after t steps
    abbrev start : Situation
    start = situation_at_start f

    abbrev origin : Config
    origin = flat_start f

    abbrev at_step : ℕ → Config
    at_step t = run f.circuit origin t

    module _ (n : ℕ) (e : Exit) (d : Configuration ℕ) (comes : NetworkComes f test n d e) where
      -- the moment at the end of so many moves
      at_moment : (t a i : ℕ) (x : Situation) → t ≤ cost → t ≡ run_cost f.network i start
          → Reaches (Turns f.network) i start x
          → StandsFor f.network x (at_step t) → IsMoment (machine_of f) f.names f.network x a → MomentOnBoard f t a
      at_moment t a zero x low sum path stands moment = absurd (let told = read.tells.some x a moment in let
          quiet : test x ≡ false = ap test (sym path) ∙ read.quiet in cc)
      at_moment t a (suc i) x low sum path stands moment =
          let told = read.tells.some x a moment in
          let between : Situation → Bool = λ y. not (test y) in
          let turns = passes_run (Turns f.network) between 1 start comes.first comes.starts.path in
          let count : suc i ≡ 1 + (suc i - 1) = omega arith in
          let whole : run_cost f.network (suc i) start ≡ run_cost f.network 1 start
          + run_cost f.network (suc i - 1) comes.first = ap (λ v. run_cost f.network v start) count
          ∙ cost-joins f.network 1 (suc i - 1) start comes.first turns in
          let none : origin.steps ≡ 0 = refl in
          let first = leg (build_of f) test read.modules board agree 1 start comes.first origin read.starts
          (omega arith)
          comes.starts.path (omega arith) in
          let steps = first.1.steps in
          let on = goes_on f.network 1 (suc i) start comes.first x turns path (omega arith) in
          let walked = walk (build_of f) test read.modules board agree n comes.first comes.moment comes.last
          (beginning_of f.translation f.word) d comes.moves comes.strides comes.leaves.path comes.ended comes.quiet
          (suc i - 1) x on told first.0 first.1.stands (omega arith) in
          let joined = tally_joins (build_of f) test read.modules board agree 1 (suc i) start comes.first origin first.0
          turns
          first.1.run (omega arith) in
          let one : tally (is_moment f.layout) f.circuit (run_cost f.network 1 start) origin ≡ 1 =
          first.1.counted ∙ one_of (test comes.first) comes.told in
          let others = walked.count in
          let not_yet : one_if (is_moment f.layout origin) ≡ 0 = none_of (is_moment f.layout origin)
          (read.between start origin read.starts ∙ read.quiet) in
          let at_sum : tally (is_moment f.layout) f.circuit t origin
          ≡ tally (is_moment f.layout) f.circuit (run_cost f.network (suc i) start) origin = ap
          (λ v. tally (is_moment f.layout) f.circuit v origin) sum in
          let all : tally (is_moment f.layout) f.circuit t origin ≡ walked.steps + 1 =
          one_more {e = walked.steps} at_sum joined one others in
          let shows = strides_show (build_of f) test walked.steps comes.first x
          (beginning_of f.translation f.word) walked.config comes.shows walked.strides in
          record {
            moves = suc i;
            at = x;
            run_at = path;
            sum = sum;
            moment = moment;
            steps = walked.steps;
            count = omega arith;
            config = walked.config;
            runs = strides_run (build_of f) test walked.steps comes.first x
                (beginning_of f.translation f.word) walked.config walked.strides;
            state = moment_state x (at_step t) a walked.config stands moment shows;
            shows = shows;
            spells = read.spells x (at_step t) walked.config stands
                (all_cells (machine_of f) f.limits x.states walked.config shows.shows);
          }

      -- a moment on the board is one of the network's
      pub told_moment : (t a : ℕ) → t ≤ cost → moment_at f.layout (at_step t) ≡ Some a → MomentOnBoard f t a
      told_moment t a low h =
          let none : origin.steps ≡ 0 = refl in
          let in_time : origin.steps + cost ≤ clock = omega arith in
          elim (visits f.network f.circuit read.modules board start origin read.starts has.moves cost has.last
          has.run has.ended has.is in_time (λ x. not (is_moment f.layout x))
          (λ i s u x path g amid. silent (moment_at f.layout x) (read.amid s u x amid))
          (λ x at. silent (moment_at f.layout x) (read.at_loose has.last x at)) t low) [
            | inl at ↦ at_moment t a at.moves at.at low at.sum at.run at.stands
                ((read.which at.at (at_step t) a at.stands).0 h)
            | inr quiet ↦ absurd (not_some (moment_at f.layout (at_step t)) a quiet h)
          ]

    -- and each of the network's is one on the board
    pub has_moment : (t a : ℕ) → t ≤ cost → MomentOnBoard f t a → moment_at f.layout (at_step t) ≡ Some a
    has_moment t a low h =
        let none : origin.steps ≡ 0 = refl in
        let sum = h.sum in
        let there = reach f.network f.circuit read.modules board start origin read.starts h.moves h.at h.run_at
        (omega arith) in
        let stands : StandsFor f.network h.at (at_step t) = subst (λ v. StandsFor f.network h.at (at_step v)) (sym sum)
        there.0 in
        (read.which h.at (at_step t) a stands).1 h.moment

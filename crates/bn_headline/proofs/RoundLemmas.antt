-- The rounds on the boards are those of the search by the machine's own bounded runs.
use Rattle.std.specs.Prelude.{◌≡◌, ℕ, List, [], ◌++◌, length, None, refl}
use Rattle.std.proofs.Common.{zero, suc, arith, sym, ap, subst, ◌∙◌}
use Rattle.bn_lists.specs.Runs.{Reaches}
use Rattle.bn_circuits.specs.Circuits.{Circuit, Goes}
use Rattle.bn_circuits.specs.Stepping.{places, run}
use Rattle.bn_circuits.proofs.RunLemmas.{Reaches-run}
use Rattle.bn_circuits.proofs.AlikeLemmas.{places-alike}
use Rattle.bn_circuits.proofs.RunPartLemmas.{places-of_runs, steps_of_run}
use Rattle.bn_circuits.specs.declared.place.Place.{Place}
use Rattle.bn_circuits.specs.declared.config.Config.{Config}
use Rattle.bn_machine.specs.Machine.{Program}
use Rattle.bn_machine.specs.Outcome as outcome
use Rattle.bn_machine.specs.Outcome.{Limits, Outcome, HasOutcome}
use Rattle.bn_machine.proofs.OutcomeLemmas.{outcome_exists}
use Rattle.bn_machine.specs.declared.quint.Side.{Side}
use Rattle.bn_bennett_laws.specs.Stages.{IsStandardMachine}
use Rattle.bn_table.specs.Laws.{TablesAreMachines}
use Rattle.bn_table.specs.Rows.{FitsTable, Named}
use Rattle.bn_boards.specs.Boards.{size}
use Rattle.bn_boards.specs.declared.exit.Exit.TheVariants as exits
use Rattle.bn_boards.specs.Layouts.{IsNamedExit}
use Rattle.bn_boards.specs.Flats.{Flat, IsAccepted, flat_start}
use Rattle.bn_boards.specs.LayoutLaws.{ExitsAreOne, FlatsAreOne}
use Rattle.bn_boards.specs.ExistenceLaws.{FlatsAreThere}
use Rattle.bn_boards.specs.Costs.{bound_of}
use Rattle.bn_boards.specs.BoardRuns.{IsExitFor, RunsToExit}
use Rattle.bn_boards.specs.RunLaws.{BoardsRunToTheirExit}
use Rattle.bn_boards.proofs.CountLemmas.{places_stop}
use Rattle.bn_boards.proofs.OutcomeLemmas.{at_cost, not_unnamed}
use Rattle.bn_reply_relations.specs.Windows.{ComesTo}
use Rattle.bn_reply_relations.specs.RunReply.{board_after, budget, reached}
use Rattle.bn_reply_relations.specs.ToldRuns.{IsGiven}
use Rattle.bn_reply_relations.specs.Laws.{BoardsAreCounted}
use Rattle.bn_reply_relations.proofs.RunLemmas.{named_of}
use Rattle.bn_reply_relations.proofs.TellingLemmas.{same_boards}
use Rattle.bn_reply_relations.proofs.WindowLemmas.{given_accepted, standard_machine}
use Rattle.bn_headline.specs.Searches.{HasBoard, Widens}
use Rattle.bn_headline.specs.WindowLaws.{IsOnTheWay}
use Rattle.bn_headline.specs.AutoReply.{IsRound, MakeRounds}
use Rattle.bn_headline.specs.FoundHeadline.{IsWordGiven}
use Rattle.bn_headline.specs.AutoLaws.{AreOfBoard, AreOfRounds}
use Rattle.bn_headline.proofs.SearchLemmas.{next_on_way, widens_once}

-- as many places are told as steps are made
places_count : (k : Circuit) (n : ℕ) (c d : Config) → Reaches (Goes k) n c d → length (places k n c) ≡ n
places_count k n c d made =
    let all = places-of_runs k n c in
    let here = Reaches-run k n c d made in
    let one = steps_of_run k n c d made in
    let other = steps_of_run k all.count c (run k c n) all.reaches in
    let last : (run k c n).steps ≡ d.steps = ap (λ (x : Config). x.steps) here in
    let whole = all.all in
    omega (arith, one, other, last, whole)

-- the laws below that the rounds need
pub record Boards : Type 0 where
  pub machines : TablesAreMachines
  pub flats : FlatsAreThere
  pub ones : FlatsAreOne
  pub counted : BoardsAreCounted
  pub exits_one : ExitsAreOne
  pub runs : BoardsRunToTheirExit

window_tape : (n m : ℕ) (s r : Side) → exits.Window n s ≡ exits.Window m r → n ≡ m
window_tape n m s r e = cc

window_side : (n m : ℕ) (s r : Side) → exits.Window n s ≡ exits.Window m r → s ≡ r
window_side n m s r e = cc

-- an outcome that names a window's end is that end
outcome_window : (f : Flat) (o : Outcome) (n : ℕ) (s : Side) → IsExitFor f o (exits.Window n s)
    → o ≡ outcome.Outside n s
outcome_window f (outcome.Halted y) n s is = absurd (cc)
outcome_window f (outcome.Stuck j c) n s is = let e : exits.Window n s ≡ exits.Stuck is.0 c = is.2 in absurd (cc)
outcome_window f (outcome.Outside m r) n s is =
    let tapes : n ≡ m = window_tape n m s r is in
    let sides : s ≡ r = window_side n m s r is in
    ap (λ k. outcome.Outside k r) (sym tapes) ∙ ap (λ k. outcome.Outside n k) (sym sides)

module _ (laws : Boards) (bytes letters : List ℕ) (t : Named) (symbols : List ℕ)
    (given : IsWordGiven bytes letters t symbols) where
  abbrev program : Program
  program = t.machine

  pub standard : IsStandardMachine program
  standard = (standard_machine laws.machines bytes t given.reads).0

  pub fits_table : FitsTable program
  fits_table = (standard_machine laws.machines bytes t given.reads).1

  module _ (w : Limits) (on : IsOnTheWay symbols w) where
    -- the words in this window are those of a run that may be asked for
    pub asked : IsGiven bytes letters w t symbols
    asked = record { reads = given.reads; spelled = given.spelled; small = on.small given.few }

    pub accepted : (f : Flat) → ComesTo program w symbols f → IsAccepted program symbols w f
    accepted f comes = given_accepted laws.machines bytes letters w t symbols f asked comes

    pub ran : (f : Flat) → ComesTo program w symbols f → (i : ℕ) (o : Outcome) → HasOutcome program symbols w i o
        → RunsToExit program f i o
    ran f comes i o out = laws.runs program symbols w f comes.flat (accepted f comes) i o out

    -- the exit by which the signal leaves
    pub ran_exit : (f : Flat) (comes : ComesTo program w symbols f) (i : ℕ) (o : Outcome)
        (out : HasOutcome program symbols w i o) →
        IsNamedExit f.layout (reached f None).place (ran f comes i o out).exit
    ran_exit f comes i o out =
        let r = ran f comes i o out in
        let there : IsNamedExit f.layout (board_after f r.cost).place r.exit =
        named_of f.layout (board_after f r.cost).place r.exit r.is_exit (not_unnamed f o r.exit r.for_outcome) in
        subst (λ (c : Config). IsNamedExit f.layout c.place r.exit)
        (sym (at_cost program f i o r (bound_of f.layout) r.bounded)) there

    -- a board that the window has, and the number of its elements
    pub has_board : (f : Flat) → ComesTo program w symbols f → HasBoard program w
    has_board f comes = record {
      count = size f.network.tables;
      counts = laws.counted.1 program symbols w f comes.flat;
      few = comes.few;
    }

    pub board_there : HasBoard program w → (f : Flat) × ComesTo program w symbols f
    board_there board =
        let flat = laws.flats program symbols w standard fits_table in
        let same : size flat.0.network.tables ≡ board.count = laws.counted.0 program w (size flat.0.network.tables)
        board.count (laws.counted.1 program symbols w flat.0 flat.1) board.counts in
        let few = board.few in
        (flat.0, record { fits = on.fits; flat = flat.1; few = omega arith })

    -- the outcome is the end of a tape exactly where the signal leaves by it
    pub leaves_outside : (f : Flat) (comes : ComesTo program w symbols f) (n : ℕ) (s : Side)
        → IsNamedExit f.layout (reached f None).place (exits.Window n s) →
        (i : ℕ) (o : Outcome) → HasOutcome program symbols w i o → o ≡ outcome.Outside n s
    leaves_outside f comes n s leaves i o out =
        let r = ran f comes i o out in
        let same : r.exit ≡ exits.Window n s = laws.exits_one program symbols w f comes.flat (accepted f comes)
        (reached f None).place r.exit (exits.Window n s) (ran_exit f comes i o out) leaves in
        outcome_window f o n s (subst (IsExitFor f o) same r.for_outcome)

    pub outside_leaves : (f : Flat) (comes : ComesTo program w symbols f) (n : ℕ) (s : Side) (i : ℕ)
        → HasOutcome program symbols w i (outcome.Outside n s) →
        IsNamedExit f.layout (reached f None).place (exits.Window n s)
    outside_leaves f comes n s i out =
        let r = ran f comes i (outcome.Outside n s) out in
        let is : r.exit ≡ exits.Window n s = r.for_outcome in
        subst (IsNamedExit f.layout (reached f None).place) is (ran_exit f comes i (outcome.Outside n s) out)

    -- a round on the board is a round of the search
    pub round_widens : (v : Limits) (told : List Place) → IsRound program symbols w v told → Widens program symbols w v
    round_widens v told round =
        let some = outcome_exists program symbols w in
        let is = leaves_outside round.flat round.comes round.tape round.side round.leaves some.0 some.1 some.2 in
        record {
          board = has_board round.flat round.comes;
          time = some.0;
          tape = round.tape;
          side = round.side;
          outside = subst (HasOutcome program symbols w some.0) is some.2;
          next = round.next;
        }

    -- and the other way round
    pub widens_round : (v : Limits) → Widens program symbols w v
        → (told : List Place) × IsRound program symbols w v told
    widens_round v goes =
        let board = board_there goes.board in (
          places board.0.circuit (budget board.0 None) (flat_start board.0),
          record {
            flat = board.0;
            comes = board.1;
            tape = goes.tape;
            side = goes.side;
            leaves = outside_leaves board.0 board.1 goes.tape goes.side goes.time goes.outside;
            next = goes.next;
            told_is = refl;
          },
        )

    -- two boards tell the same places
    pub told_once : (f g : Flat) → ComesTo program w symbols f → ComesTo program w symbols g →
        places f.circuit (budget f None) (flat_start f) ≡ places g.circuit (budget g None) (flat_start g)
    told_once f g a b =
        let same = same_boards laws.machines laws.ones bytes letters w t symbols f g asked a b in
        places-alike f.circuit g.circuit same.circuit (bound_of f.layout) (flat_start f)
        ∙ ap (places g.circuit (bound_of f.layout)) same.start
        ∙ ap (λ b. places g.circuit (bound_of b) (flat_start g)) same.layout

    pub round_told : (v u : Limits) (told heard : List Place) → IsRound program symbols w v told
        → IsRound program symbols w u heard → told ≡ heard
    round_told v u told heard a b = a.told_is ∙ told_once a.flat b.flat a.comes b.comes ∙ sym b.told_is

    -- the places told are those up to the board's cost
    pub board_places : (f : Flat) → ComesTo program w symbols f → (told : List Place)
        → told ≡ places f.circuit (budget f None) (flat_start f) → AreOfBoard program symbols w told
    board_places f comes told is =
        let some = outcome_exists program symbols w in
        let r = ran f comes some.0 some.1 some.2 in
        let whole : told ≡ places f.circuit r.cost (flat_start f) =
        is ∙ places_stop f.circuit r.cost (bound_of f.layout) r.cost (flat_start f) (board_after f r.cost) r.run_to
        r.ended r.bounded (omega arith) in
        record {
          flat = f;
          comes = comes;
          cost = r.cost;
          has_cost = r.has_cost;
          counted = ap (λ (ps : List Place). length ps) whole ∙ places_count f.circuit r.cost (flat_start f)
              (board_after f r.cost) r.run_to;
          told_is = whole;
        }

  -- ---- all rounds

  pub rounds_search : (n : ℕ) (w v : Limits) (told : List Place) → IsOnTheWay symbols w
      → MakeRounds program symbols n w v told → Reaches (Widens program symbols) n w v
  rounds_search zero w v told on made = made.0
  rounds_search (suc n) w v told on made =
      let goes = round_widens w on made.0 made.1 made.3 in
      (made.0, goes, rounds_search n made.0 v made.2 (next_on_way program symbols standard w made.0 goes on) made.4)

  pub search_rounds : (n : ℕ) (w v : Limits) → IsOnTheWay symbols w → Reaches (Widens program symbols) n w v
      → (told : List Place) × MakeRounds program symbols n w v told
  search_rounds zero w v on way = ([], (way, refl))
  search_rounds (suc n) w v on way =
      let round = widens_round w on way.0 way.1 in
      let rest = search_rounds n way.0 v (next_on_way program symbols standard w way.0 way.1 on) way.2 in
      (round.0 ++ rest.0, (way.0, round.0, rest.0, round.1, rest.1, refl))

  -- as many rounds tell the same places and lead to the same window
  pub rounds_once : (n : ℕ) (w v u : Limits) (told heard : List Place) → IsOnTheWay symbols w
      → MakeRounds program symbols n w v told → MakeRounds program symbols n w u heard →
      (v ≡ u) × (told ≡ heard)
  rounds_once zero w v u told heard on a b = (sym a.0 ∙ b.0, a.1 ∙ sym b.1)
  rounds_once (suc n) w v u told heard on a b =
      let goes = round_widens w on a.0 a.1 a.3 in
      let same : b.0 ≡ a.0 = widens_once program symbols w b.0 a.0 (round_widens w on b.0 b.1 b.3) goes in
      let fronts : a.1 ≡ b.1 = round_told w on a.0 b.0 a.1 b.1 a.3 b.3 in
      let rest = rounds_once n a.0 v u a.2 b.2 (next_on_way program symbols standard w a.0 goes on) a.4
      (subst (λ x. MakeRounds program symbols n x u b.2) same b.4) in
      (rest.0, a.5 ∙ (λ i. fronts i ++ rest.1 i) ∙ sym b.5)

  pub rounds_places : (n : ℕ) (w v : Limits) (told : List Place) → IsOnTheWay symbols w
      → MakeRounds program symbols n w v told → AreOfRounds program symbols n w v told
  rounds_places zero w v told on made = made
  rounds_places (suc n) w v told on made =
      let goes = round_widens w on made.0 made.1 made.3 in (
        made.0,
        made.1,
        made.2,
        goes,
        board_places w on made.3.flat made.3.comes made.1 made.3.told_is,
        rounds_places n made.0 v made.2 (next_on_way program symbols standard w made.0 goes on) made.4,
        made.5,
      )

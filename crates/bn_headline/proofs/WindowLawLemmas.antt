-- The search goes on from round to round, and its rounds begin an answer.
use Rattle.std.specs.Prelude.{ℕ, ◌+◌, ◌≤◌, List}
use Rattle.std.proofs.Common.{subst}
use Rattle.bn_lists.specs.Runs.{Reaches}
use Rattle.bn_circuits.specs.declared.place.Place.{Place}
use Rattle.bn_machine.specs.Outcome.{Limits, HasOutcome}
use Rattle.bn_machine.proofs.OutcomeLemmas.{outcome_exists}
use Rattle.bn_machine.specs.declared.quint.Side.{Side}
use Rattle.bn_circuits.specs.declared.net.TheConstants.{MOST_ELEMENTS}
use Rattle.bn_table.specs.Rows.{Named}
use Rattle.bn_boards.specs.Boards.{size}
use Rattle.bn_network_assembly.specs.Widening.{IsEnd, IsWhole, first_window, number_at}
use Rattle.bn_headline.specs.Searches.{Widens}
use Rattle.bn_headline.specs.WindowLaws.{IsOnTheWay}
use Rattle.bn_headline.specs.AutoReply.{AutoIsSettled, MakeRounds}
use Rattle.bn_headline.specs.AutoLaws.{RoundsBeginAnswers}
use Rattle.bn_headline.specs.FoundHeadline.{IsWordGiven}
use Rattle.bn_headline.proofs.EndLemmas.{by_end, ends-four}
use Rattle.bn_headline.proofs.SizeLemmas.{numbers-stay_low}
use Rattle.bn_headline.proofs.SearchLemmas.{first_on_way, rounds_short, stays_on_way}
use Rattle.bn_headline.proofs.RoundLemmas.{Boards, fits_table, has_board, leaves_outside, rounds_search, standard}
use Rattle.bn_headline.proofs.AutoLemmas.{auto_searched}
use Rattle.bn_headline.specs.Rounds.{LeavesBy}
use Rattle.bn_headline.specs.Laws.{GoesOn, MayWiden, RoundsBeginSearches, RoundsGoOn}

-- the number of each end of a whole window is 1 at least
number_some : (w : Limits) (tape : ℕ) (side : Side) → IsWhole w → IsEnd tape side → 1 ≤ number_at w tape side
number_some w tape side whole end = by_end (λ t s. 1 ≤ number_at w t s) whole.left whole.right whole.steps whole.output
    tape side end

module _ (laws : Boards) (bytes letters : List ℕ) (t : Named) (symbols : List ℕ)
    (given : IsWordGiven bytes letters t symbols) (n : ℕ) (w : Limits)
    (told : List Place) (made : MakeRounds t.machine symbols n (first_window symbols) w told) where
  way : Reaches (Widens t.machine symbols) n (first_window symbols) w
  way = rounds_search laws bytes letters t symbols given n (first_window symbols) w told
      (first_on_way t.machine symbols) made

  on : IsOnTheWay symbols w
  on = stays_on_way t.machine symbols (standard laws bytes letters t symbols given) n (first_window symbols) w
      (first_on_way t.machine symbols) way

  few_rounds : n ≤ MOST_ELEMENTS + 1
  few_rounds =
      let start = first_window symbols in
      let flat = laws.flats t.machine symbols start (standard laws bytes letters t symbols given)
      (fits_table laws bytes letters t symbols given) in
      rounds_short t.machine symbols (standard laws bytes letters t symbols given) start (size flat.0.network.tables)
      (laws.counted.1 t.machine symbols start flat.0 flat.1)
      laws.counted n w way

  wider : (tape : ℕ) (side : Side) (places : List Place) → LeavesBy t.machine symbols w tape side places
      → MayWiden w tape side
  wider tape side places leaves =
      let some = outcome_exists t.machine symbols w in
      let is = leaves_outside laws bytes letters t symbols given w on leaves.flat leaves.comes tape side leaves.leaves
      some.0 some.1 some.2 in
      let end = ends-four t.machine symbols w some.0 tape side (subst (HasOutcome t.machine symbols w some.0) is some.2)
      in
      record {
        end = end;
        some = number_some w tape side on.whole end;
        low = numbers-stay_low t.machine w tape side (standard laws bytes letters t symbols given)
            (has_board laws bytes letters t symbols given w on leaves.flat leaves.comes);
      }

  pub goes_on : GoesOn t.machine symbols n w
  goes_on = record { few = few_rounds; small = on.small given.few; fits = on.fits; wider = wider }

pub rounds-go_on : Boards → RoundsGoOn
rounds-go_on laws bytes letters t symbols given n w told made = goes_on laws bytes letters t symbols given n w told made

pub rounds-begin_searches : AutoIsSettled → RoundsBeginAnswers → RoundsBeginSearches
rounds-begin_searches settled begins bytes letters t symbols given n w front made =
    let some = (settled letters bytes).some in
    let rest = begins bytes letters t symbols some.0 some.1 some.2 given some.3 n w front made in
    record {
      status = some.0;
      text = some.1;
      told = some.2;
      rest = rest.0;
      replies = auto_searched bytes letters t symbols some.0 some.1 some.2 given some.3;
      begins = rest.1;
    }

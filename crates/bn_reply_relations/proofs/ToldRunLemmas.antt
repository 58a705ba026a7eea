-- The headline, from the answers; and that what is given has all that the headline speaks of.
use Rattle.std.specs.Prelude.{◌≡◌, ℕ, List, Option, Some, None}
use Rattle.std.proofs.Common.{arith}
use Rattle.bn_circuits.specs.declared.place.Place.{Place}
use Rattle.bn_machine.specs.Outcome.{Limits, Outcome}
use Rattle.bn_machine.proofs.OutcomeLemmas.{outcome_exists, outcome_once}
use Rattle.bn_table.specs.Laws.{TablesAreMachines}
use Rattle.bn_table.specs.Rows.{Named}
use Rattle.bn_boards.specs.Boards.{size}
use Rattle.bn_boards.specs.ExistenceLaws.{FlatsAreThere}
use Rattle.bn_boards.specs.RunLaws.{BoardsRunToTheirExit}
use Rattle.bn_boards.proofs.CountLemmas.{costs-one}
use Rattle.bn_boards.specs.Flats.{Flat}
use Rattle.bn_boards.specs.LayoutLaws.{ExitsAreOne, FlatsAreOne}
use Rattle.bn_reply.specs.TableReply.{WordReplies}
use Rattle.bn_reply.specs.declared.status.Status.{Status}
use Rattle.bn_reply.proofs.SettledLemmas.{standard_tells, word_tells}
use Rattle.bn_reply.proofs.TableLemmas.{reads_table}
use Rattle.bn_reply_relations.specs.Windows.{BoardReplies, long, large, board, ComesTo}
use Rattle.bn_reply_relations.specs.RunReply.{TellsRun}
use Rattle.bn_reply_relations.specs.ToldRuns.{ComesOutOn, Tells, TookOutcome}
use Rattle.bn_reply_relations.specs.Laws.{AnswersTellHeadline, BoardsAreCounted, RunsHaveOneOfEach, MomentsAreCounted}
use Rattle.bn_reply_relations.specs.Laws.{RepliesTellOutcomes}
use Rattle.bn_reply_relations.proofs.OutcomeLemmas.{runs-stop_within, runs-tell_outcomes}
use Rattle.bn_reply_relations.proofs.TellingLemmas.{boards-tell_alike}
use Rattle.bn_reply_relations.proofs.WindowLemmas.{given_accepted, standard_machine}

-- ---- the headline

module _ (machines : TablesAreMachines) (ones : FlatsAreOne) (counted : BoardsAreCounted) (exits : ExitsAreOne)
    (boards : BoardsRunToTheirExit)
    (counts : MomentsAreCounted) where
  -- what is told of a board is the outcome
  given_tells : (number : Option ℕ) (bytes letters : List ℕ) (l : Limits) (t : Named) (symbols : List ℕ) (count i : ℕ)
      (o : Outcome) (f : Flat)
      (status : Status) (text : List ℕ) (told : List Place) →
      ComesOutOn bytes letters l t symbols count i o → ComesTo t.machine l symbols f
      → TellsRun number t f status text told →
      Tells number t l symbols f i o status text
  given_tells None bytes letters l t symbols count i o f status text told on comes tells =
      runs-tell_outcomes machines exits boards counts bytes letters l t symbols f status text told on.given comes tells
      i o on.outcome
  given_tells (Some e) bytes letters l t symbols count i o f status text told on comes tells =
      let accepted = given_accepted machines bytes letters l t symbols f on.given comes in
      let ran = boards t.machine symbols l f comes.flat accepted i o on.outcome in
      let within = runs-stop_within machines exits boards bytes letters l t symbols f e status text told on.given comes
      tells ran.cost ran.has_cost in
      record {
        cost = ran.cost;
        has_cost = ran.has_cost;
        inside = within.0;
        begun = within.2;
        ended = λ low. runs-tell_outcomes machines exits boards counts bytes letters l t symbols f status text told
            on.given comes
            (within.1 low) i o on.outcome;
      }

  -- no other answer is given than that of a board
  pub replies-tell_outcomes : RepliesTellOutcomes
  replies-tell_outcomes number bytes letters l status text told taken took reply grows t symbols count i o on =
      by_board (word_tells (BoardReplies (TellsRun number t) t.machine l) t
      (reads_table bytes t on.given.reads.reads) letters symbols status text told on.given.spelled
      (standard_tells (λ u. WordReplies (BoardReplies (TellsRun number u) u.machine l) u letters) bytes t status text
      told on.given.reads reply))
    where
      by_board : BoardReplies (TellsRun number t) t.machine l symbols status text told
          → TookOutcome number t l symbols count i o status taken took
      by_board (long far h e n) = let fits = on.fits in absurd (omega arith)
      by_board (large fits other also great h e n) =
          let same : other ≡ count = counted.0 t.machine l other count also on.counts in
          let few = on.few in
          absurd (omega arith)
      by_board (board f comes tells) = record {
        text = text;
        grows = grows;
        flat = f;
        comes = comes;
        counted = λ g holds. counted.0 t.machine l (size g.network.tables) count
            (counted.1 t.machine symbols l g holds.flat) on.counts;
        runs = λ g holds. boards t.machine symbols l g holds.flat
            (given_accepted machines bytes letters l t symbols g on.given holds) i o on.outcome;
        tells = λ g holds. given_tells number bytes letters l t symbols count i o g status text told on holds
            (boards-tell_alike machines ones bytes letters l t symbols f g number status text told on.given comes holds
            tells);
      }

  pub answers-tell_headline : AnswersTellHeadline
  answers-tell_headline words bytes status taken took answered short letters l number asks t symbols count i o on =
      let reply = answered letters l number asks on.given.small short in
      replies-tell_outcomes number bytes letters l status reply.0 reply.1 taken took reply.2 reply.3 t symbols count i o
      on

-- ---- it speaks of something

pub runs-have_one_of_each : TablesAreMachines → FlatsAreThere → BoardsAreCounted → BoardsRunToTheirExit
    → RunsHaveOneOfEach
runs-have_one_of_each machines flats counted boards bytes letters l t symbols given =
    let standard = standard_machine machines bytes t given.reads in
    let flat = flats t.machine symbols l standard.0 standard.1 in
    let count = size flat.0.network.tables in
    let counts = counted.1 t.machine symbols l flat.0 flat.1 in
    let outcome = outcome_exists t.machine symbols l in
    record {
      count = count;
      counts = counts;
      one_count = λ other also. counted.0 t.machine l other count also counts;
      steps = outcome.0;
      outcome = outcome.1;
      comes_out = outcome.2;
      one_outcome = λ i o comes. outcome_once t.machine symbols l i outcome.0 o outcome.1 comes outcome.2;
      board = λ fits few. (flat.0, record { fits = fits; flat = flat.1; few = few }, λ g comes. flat.2 g comes.flat);
      cost = λ f comes.
          let ran = boards t.machine symbols l f comes.flat (given_accepted machines bytes letters l t symbols f given
          comes) outcome.0 outcome.1 outcome.2 in
          (ran.cost, ran.has_cost, λ other has. costs-one f other ran.cost has ran.has_cost);
    }

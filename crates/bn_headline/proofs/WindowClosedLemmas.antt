-- The laws on the search and its answers with the laws below them put in, for the proofs and the crates above that cite
-- them as they are.
use Rattle.bn_table.proofs.MachineLemmas.{tables_machines}
use Rattle.bn_boards.proofs.ExitLemmas.{exits-one}
use Rattle.bn_reply_relations.specs.Laws.{ExitsAreNamed}
use Rattle.bn_reply_relations.proofs.ClosedLemmas.{counted, run_settled, moments}
use Rattle.bn_boards.proofs.ClosedLemmas.{flats_one, flats_there, run_to_exit}
use Rattle.bn_reply_relations.proofs.OutcomeLemmas.{runs-tell_outcomes}
use Rattle.bn_reply_relations.proofs.RunLemmas.{exits-named}
use Rattle.bn_headline.specs.AutoReply.{AutoIsSettled}
use Rattle.bn_headline.specs.AutoLaws.{AnswersTellFoundWindow, AutosEndInside, AutosTellFindings, AutosTellPlaces}
use Rattle.bn_headline.proofs.AutoLemmas.{Answers, auto-settled, rounds-begin}
use Rattle.bn_headline.proofs.FoundLemmas.{answers-tell_found, autos-end_inside, autos-tell_findings, autos-tell_places}
use Rattle.bn_headline.proofs.RoundLemmas.{Boards}
use Rattle.bn_headline.proofs.SearchLemmas.{search-ends}
use Rattle.bn_headline.specs.Laws.{RoundsBeginSearches, RoundsGoOn}
use Rattle.bn_headline.proofs.WindowLawLemmas.{rounds-begin_searches, rounds-go_on}

pub named : ExitsAreNamed
named = exits-named run_to_exit

boards : Boards
boards = record {
  machines = tables_machines;
  flats = flats_there;
  ones = flats_one;
  counted = counted;
  exits_one = exits-one;
  runs = run_to_exit;
}

answers : Answers
answers = record {
  boards = boards;
  settled = run_settled;
  tells = runs-tell_outcomes tables_machines exits-one run_to_exit moments;
  ends = search-ends flats_there counted;
}

-- the search goes on from round to round, and its rounds begin an answer
pub go_on : RoundsGoOn
go_on = rounds-go_on boards

pub begin_searches : RoundsBeginSearches
begin_searches = rounds-begin_searches (auto-settled answers) (rounds-begin answers)

-- the command has one answer, which tells what the search finds
pub auto_settled : AutoIsSettled
auto_settled = auto-settled answers

pub findings_told : AutosTellFindings
findings_told = autos-tell_findings answers

pub places_told : AutosTellPlaces
places_told = autos-tell_places answers

pub ends_inside : AutosEndInside
ends_inside = autos-end_inside answers

pub found_told : AnswersTellFoundWindow
found_told = answers-tell_found answers

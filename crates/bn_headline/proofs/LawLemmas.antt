-- The laws of this crate that follow from those of the crates below it, each proved.
use Rattle.bn_boards.proofs.BoardLawLemmas.{flats_are_there, boards_run_to_their_exit}
use Rattle.bn_boards.proofs.ExitLemmas.{exits-one}
use Rattle.bn_boards.proofs.LayoutLawLemmas.{flats_are_one}
use Rattle.bn_headline.proofs.AutoLemmas.{Answers, rounds-search, auto-settled, rounds-begin}
use Rattle.bn_headline.proofs.ClosedLemmas.{one_of_each}
use Rattle.bn_headline.proofs.FoundLemmas.{autos-tell_findings, autos-tell_places, autos-end_inside, answers-tell_found}
use Rattle.bn_headline.proofs.GeneratedLemmas.{increments-run}
use Rattle.bn_headline.proofs.ReturnLemmas.{own-runs_are_one}
use Rattle.bn_headline.proofs.RoundLemmas.{Boards}
use Rattle.bn_headline.proofs.SearchLemmas.{search-ends, search-short, search-one}
use Rattle.bn_headline.proofs.SizeLemmas.{elements-grow}
use Rattle.bn_headline.specs.AutoLaws.{RoundsAreTheSearchs, AutosTellFindings, AutosTellPlaces, AutosEndInside}
use Rattle.bn_headline.specs.AutoLaws.{AnswersTellFoundWindow, RoundsBeginAnswers}
use Rattle.bn_headline.specs.AutoReply.{AutoIsSettled}
use Rattle.bn_headline.specs.HeadlineLaws.{IncrementsRun, OwnRunsAreOne}
use Rattle.bn_headline.specs.WindowLaws.{ElementsGrow, SearchEnds, SearchIsShort, SearchIsOne}
use Rattle.bn_reply_boards.proofs.GenerateLemmas.{given}
use Rattle.bn_reply_relations.proofs.LawLemmas.{boards_are_counted, run_has_one_reply, runs_tell_outcomes}
use Rattle.bn_table.proofs.MachineLemmas.{tables_machines}

pub increments_run : IncrementsRun
increments_run = increments-run given

pub own_runs_are_one : OwnRunsAreOne
own_runs_are_one = own-runs_are_one one_of_each

pub elements_grow : ElementsGrow
elements_grow = elements-grow boards_are_counted

pub search_ends : SearchEnds
search_ends = search-ends flats_are_there boards_are_counted

pub search_is_short : SearchIsShort
search_is_short = search-short flats_are_there boards_are_counted

pub search_is_one : SearchIsOne
search_is_one = search-one boards_are_counted

-- what is known of all boards, and of what runs and rounds answer
boards : Boards
boards = record {
  machines = tables_machines;
  flats = flats_are_there;
  ones = flats_are_one;
  counted = boards_are_counted;
  exits_one = exits-one;
  runs = boards_run_to_their_exit;
}

known : Answers
known = record { boards = boards; settled = run_has_one_reply; tells = runs_tell_outcomes; ends = search_ends }

pub rounds_are_the_searchs : RoundsAreTheSearchs
rounds_are_the_searchs = rounds-search boards

pub auto_has_one_reply : AutoIsSettled
auto_has_one_reply = auto-settled known

pub autos_tell_findings : AutosTellFindings
autos_tell_findings = autos-tell_findings known

pub autos_tell_places : AutosTellPlaces
autos_tell_places = autos-tell_places known

pub autos_end_inside : AutosEndInside
autos_end_inside = autos-end_inside known

pub answers_tell_found_window : AnswersTellFoundWindow
answers_tell_found_window = answers-tell_found known

pub rounds_begin_answers : RoundsBeginAnswers
rounds_begin_answers = rounds-begin known

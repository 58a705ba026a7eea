use Rattle.bn_headline.proofs.AgreeLemmas.{headlines-agree}
use Rattle.bn_headline.proofs.ClosedLemmas.{boards_return, circuit_told, elements_counted, generated_tell}
use Rattle.bn_headline.proofs.ClosedLemmas.{replies_tell}
use Rattle.bn_headline.proofs.CommandLemmas.{back-tells, bennett-tells, machine-tells, step-tells}
use Rattle.bn_headline.proofs.ControlLemmas.{translations-controls}
use Rattle.bn_headline.proofs.EndLemmas.{cells-grow, ends-four}
use Rattle.bn_headline.proofs.FlattenLemmas.{flattened-flats, flattened-run}
use Rattle.bn_headline.proofs.FoundMachineLemmas.{found-tells_machine, own-search-ends}
use Rattle.bn_headline.proofs.GeneratedBoardLemmas.{generated-controls, generated-counted, generated-there}
use Rattle.bn_headline.proofs.GeneratedLemmas.{increments-counted}
use Rattle.bn_headline.proofs.GeneratedRunLemmas.{generated-halt}
use Rattle.bn_headline.proofs.LawLemmas.{answers_tell_found_window, auto_has_one_reply, autos_end_inside}
use Rattle.bn_headline.proofs.LawLemmas.{autos_tell_findings, autos_tell_places, elements_grow, increments_run}
use Rattle.bn_headline.proofs.LawLemmas.{own_runs_are_one, rounds_are_the_searchs, rounds_begin_answers, search_ends}
use Rattle.bn_headline.proofs.LawLemmas.{search_is_one, search_is_short}
use Rattle.bn_headline.proofs.SearchLemmas.{found-out, large-large, windows-whole}
use Rattle.bn_headline.proofs.SizeLemmas.{numbers-stay_low}
use Rattle.bn_headline.proofs.StuckLemmas.{named-ends, stops-named, stuck-runs}
use Rattle.bn_headline.proofs.TotalLemmas.{controls_are_counted}
use Rattle.bn_headline.proofs.WindowClosedLemmas.{begin_searches, go_on}
use Rattle.bn_headline.proofs.laws.headline_laws.Goals as goal

pub returns : goal.returns
returns _ = record {
  commands_tell = (machine-tells, bennett-tells, step-tells, back-tells);
  controls_are_counted = controls_are_counted;
  elements_are_counted = elements_counted;
  replies_tell_machine = replies_tell;
  increments_are_counted = increments-counted;
  increments_run = increments_run;
  generated_tells_machine = generated_tell;
  own_runs_are_one = own_runs_are_one;
  boards_return = boards_return;
  headlines_agree = headlines-agree;
  headline_tells_circuit = circuit_told;
  found_tells_machine = (found-tells_machine, own-search-ends);
  flattened_boards_are_flats = flattened-flats;
  flattened_boards_run_to_their_exit = flattened-run;
  stops_are_named = (stops-named, named-ends, stuck-runs);
  translations_have_controls = translations-controls;
  generated_boards_are_there = (generated-controls, generated-counted, generated-there);
  generated_runs_halt = generated-halt;
  ends_are_four = ends-four;
  cells_grow = cells-grow;
  elements_grow = elements_grow;
  numbers_stay_low = numbers-stay_low;
  search_ends = search_ends;
  search_is_short = search_is_short;
  search_is_one = search_is_one;
  windows_are_whole = windows-whole;
  found_comes_out = found-out;
  large_is_too_large = large-large;
  rounds_are_the_searchs = rounds_are_the_searchs;
  auto_has_one_reply = auto_has_one_reply;
  autos_tell_findings = autos_tell_findings;
  autos_tell_places = autos_tell_places;
  autos_end_inside = autos_end_inside;
  answers_tell_found_window = answers_tell_found_window;
  rounds_begin_answers = rounds_begin_answers;
  rounds_go_on = go_on;
  rounds_begin_searches = begin_searches;
}

-- The laws of this crate, a named field each. `Laws` is the contract of `erase_laws`.
use Rattle.bn_erase_laws.specs.ErasingLaws.{ErasingJoins, ErasingPassesTests, ErasingHasLength, ErasingIsInRange}
use Rattle.bn_erase_laws.specs.ErasingLaws.{LeastErasingIsListed, LeastErases, ComparesOutput, ErasesInput}
use Rattle.bn_erase_laws.specs.ErasingLaws.{OutcomeIsOne, OutcomeExists, HaltsExactly, ErasingNumbersPassTests}
use Rattle.bn_erase_laws.specs.ErasingLaws.{ErasingNumbersRunAlike, RunsStayNear, NoHeadLeaves, ErasingHasNames}
use Rattle.bn_erase_laws.specs.ErasingLaws.{ErasingCountsNames, FirstSticks, SecondSticks, UnequalWordsPart}
use Rattle.bn_erase_laws.specs.ErasingLaws.{UnequalOutputsStop}
use Rattle.bn_erase_laws.specs.ListLaws.{TurnedListsPassTests, TurnedListsRunBack, ExchangedListsPassTests}
use Rattle.bn_erase_laws.specs.ListLaws.{ExchangedListsRun, JoinedListsPassTests, JoinedListsRun, JoinedListsHaveRun}
use Rattle.bn_erase_laws.specs.EraseWindowLaws.{ErasesInWindows, RunsEnd, RunsEndOnce, FirstNamesEnd}
use Rattle.bn_erase_laws.specs.EraseWindowLaws.{SecondNamesEnd, UnequalOutputsEnd, HaltsInGreaterWindows}
use Rattle.bn_erase_laws.specs.EraseWindowLaws.{WindowsOfBothSuffice}
use Rattle.bn_erase_laws.specs.EraseWindowLaws.{StepsGiveWindow, LeastErasesIn}

pub record Laws : Type 0 where
  -- The erasing machine is deterministic, reversible and uniform.
  pub erasing_passes_tests : ErasingJoins × ErasingPassesTests
  -- The erasing machine has the quadruples of both reversible machines, and their symbols are in range.
  pub erasing_counts : ErasingHasLength × ErasingIsInRange
  -- The erasing machine of two least machines has 26 quadruples, three of which are given, and goes from the empty
  -- word to its end in 26 steps.
  pub least_is_listed : LeastErasingIsListed × LeastErases
  -- From x the erasing machine halts exactly if the first machine halts on x with some output y, and the second halts
  -- on y with the output x; then only y is left.
  pub erasing_erases : ComparesOutput × ErasesInput
  -- A run of at most n steps has exactly one outcome; it halts exactly if both machines do, each on the other's word,
  -- and the steps are at most n.
  pub bounded_runs_come_out : OutcomeIsOne × OutcomeExists × HaltsExactly
  -- The quadruple machine with numbers in place of names passes the tests, and makes the same runs.
  pub erasing_numbers : ErasingNumbersPassTests × ErasingNumbersRunAlike
  -- No head leaves a window that extends to each side as far as the run is long.
  pub runs_stay_near : RunsStayNear × NoHeadLeaves
  -- The states of the list are the names of both machines' lists except the second's final one; their number is
  -- stated.
  pub erasing_names : ErasingHasNames × ErasingCountsNames
  -- If one of the machines is stuck, the run is stuck after a stated number of steps, in the state of that machine.
  pub runs_stick : FirstSticks × SecondSticks
  -- If the second machine computes another word than x from y, the run is stuck after a number of steps given by the
  -- first difference.
  pub unequal_outputs_stop : UnequalWordsPart × UnequalOutputsStop
  -- The inverted list is deterministic exactly if the list is reversible, and vice versa. If the list is uniform, so
  -- is its inverse, with the same runs backward between allowed configurations.
  pub turned_lists : TurnedListsPassTests × TurnedListsRunBack
  -- Exchanging tapes 1 and 3 preserves the tests and the runs.
  pub exchanged_lists : ExchangedListsPassTests × ExchangedListsRun
  -- Two lists joined in a state pass the tests if both do; the joint runs from the first initial to the second final
  -- state are runs of the first, then the second.
  pub joined_lists : JoinedListsPassTests × JoinedListsRun × JoinedListsHaveRun
  -- In a window the erasing machine (Bennett 1973) goes from x to its end exactly if both machines halt in it, each
  -- on the other's word; then only y is left.
  pub erases_in_windows : ErasesInWindows
  -- In every window the run from a word ends in exactly one way, after at most 8 r2 + 4 (r1 + r3) + 10 steps.
  pub runs_end : RunsEnd × RunsEndOnce
  -- If a machine is stuck in the window, the first's head would leave its tape, or the second computes another word
  -- than x, the run ends as stated.
  pub machines_name_ends : FirstNamesEnd × SecondNamesEnd × UnequalOutputsEnd
  -- A machine that halts in a window halts after as many steps and with the same output in each larger window.
  pub halts_in_greater_windows : HaltsInGreaterWindows
  -- If each machine halts in a window of its own, and the second's begins at 0, both halt in the window composed of
  -- the two.
  pub windows_of_both_suffice : WindowsOfBothSuffice
  -- If both machines halt, and the second's head is never left of cell 0, both halt in the window computed from their
  -- steps and words.
  pub steps_give_window : StepsGiveWindow
  -- In a stated window, both least machines halt on the empty word after two steps, and the erasing machine ends
  -- after 26 steps.
  pub least_erases_in : LeastErasesIn

-- The laws of this crate with the laws below them put in, for the crates above that cite them as they are.
use Rattle.bn_headline.proofs.TotalLemmas.{controls_are_counted}
use Rattle.bn_table.proofs.MachineLemmas.{tables_machines}
use Rattle.bn_boards.proofs.ClosedLemmas.{flats_there, run_to_exit}
use Rattle.bn_boards.proofs.CountLemmas.{costs-one}
use Rattle.bn_boards.proofs.OutcomeLemmas.{ends-in_time, run-back}
use Rattle.bn_reply_boards.proofs.GenerateLemmas.{given}
use Rattle.bn_reply_relations.proofs.ClosedLemmas.{counted, headline_told}
use Rattle.bn_reply_relations.proofs.ToldRunLemmas.{runs-have_one_of_each}
use Rattle.bn_reply_relations.proofs.WindowLemmas.{given_accepted}
use Rattle.bn_reply_relations.specs.Laws.{RunsHaveOneOfEach}
use Rattle.bn_headline.specs.HeadlineLaws.{BoardsReturn, ElementsAreCounted, GeneratedTellsMachine, RepliesTellMachine}
use Rattle.bn_headline.specs.CircuitLaws.{HeadlineTellsCircuit}
use Rattle.bn_headline.proofs.ElementLemmas.{elements-counted}
use Rattle.bn_headline.proofs.GeneratedLemmas.{generated-tells}
use Rattle.bn_headline.proofs.HeadlineLemmas.{replies-tell_machine}
use Rattle.bn_headline.proofs.ReturnLemmas.{boards-return, headline-tells_circuit}

pub elements_counted : ElementsAreCounted
elements_counted = elements-counted controls_are_counted

pub one_of_each : RunsHaveOneOfEach
one_of_each = runs-have_one_of_each tables_machines flats_there counted run_to_exit

pub replies_tell : RepliesTellMachine
replies_tell = replies-tell_machine tables_machines elements_counted counted one_of_each costs-one headline_told

pub generated_tell : GeneratedTellsMachine
generated_tell = generated-tells tables_machines elements_counted counted one_of_each costs-one given

pub boards_return : BoardsReturn
boards_return = boards-return one_of_each (given_accepted tables_machines) (ends-in_time run_to_exit)
    (run-back run_to_exit)

pub circuit_told : HeadlineTellsCircuit
circuit_told = headline-tells_circuit boards_return

-- What `generate` answers tells the outcome of the machine's own run, with the laws below put in.
use Rattle.bn_reply_boards.specs.GenerateLaws.{GeneratedRunsTellOutcomes}
use Rattle.bn_reply_boards.proofs.GenerateLemmas.{told_of}
use Rattle.bn_boards.proofs.ClosedLemmas.{run_to_exit, flats_one}
use Rattle.bn_reply_relations.proofs.ClosedLemmas.{counted, moments}
use Rattle.bn_boards.proofs.ExitLemmas.{exits-one}
use Rattle.bn_reply_relations.proofs.ToldRunLemmas.{replies-tell_outcomes}
use Rattle.bn_table.proofs.MachineLemmas.{tables_machines}

pub tells : GeneratedRunsTellOutcomes
tells = λ k status text told count. told_of (replies-tell_outcomes tables_machines flats_one counted exits-one
    run_to_exit moments) k status text told

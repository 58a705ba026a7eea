-- `check` has one answer to all bytes.
use Rattle.bn_reply.specs.Answering.{IsDone}
use Rattle.bn_reply.proofs.SettledLemmas.{done_settled, standard_settled}
use Rattle.bn_reply_machines.specs.CheckReply.{CheckIsSettled, standard_line}

pub check_settled : CheckIsSettled
check_settled bytes = standard_settled (λ t. IsDone (standard_line t.machine)) bytes
    (λ t reads. done_settled (standard_line t.machine))

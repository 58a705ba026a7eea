-- The network of any uniform machine over its moments, with the laws below put in.
use Rattle.std.specs.Prelude.{ℕ, List, []}
use Rattle.std.proofs.Common.{zero, suc, subst}
use Rattle.bn_lists.specs.Runs.{Reaches}
use Rattle.bn_circuits.specs.Circuits.{Circuit}
use Rattle.bn_circuits.specs.Situations.{Situation, Turns}
use Rattle.bn_machine.specs.Outcome.{Limits}
use Rattle.bn_quad.specs.Quadruples.{Quadruples}
use Rattle.bn_rsm.proofs.CostLemmas.{costs-bounded}
use Rattle.bn_network.specs.Controls.{ControlState, symbol_count}
use Rattle.bn_network.specs.Networks.{IsNetwork}
use Rattle.bn_network.specs.Moments.{HasHeads}
use Rattle.bn_network.proofs.ExistingLemmas.{have-entries}
use Rattle.bn_network_laws.proofs.CommandLemmas.{commands-walk}
use Rattle.bn_network_laws.proofs.FirstLemmas.{first-moment}
use Rattle.bn_network_laws.proofs.HeadLemmas.{heads-stay}
use Rattle.bn_network_laws.proofs.LastLemmas.{last-moment}
use Rattle.bn_network_laws.proofs.NextLemmas.{next-moment}
use Rattle.bn_boards.proofs.LayoutLemmas.{layouts-there}
use Rattle.bn_boards.specs.NetworkMoments.{NetworksHaveMoments}
use Rattle.bn_boards.proofs.NetworkReadLemmas.{networks-read}
use Rattle.bn_boards.proofs.StartingLemmas.{no_letters as none_low}

-- one head a tape, wherever a run leads
heads_along : (m : Quadruples) (l : Limits) (names : List ControlState) (k : Circuit) → IsNetwork m l names k
    → (n : ℕ) (s t : Situation)
    → HasHeads m l s → Reaches (Turns k) n s t → HasHeads m l t
heads_along m l names k net zero s t heads path = subst (HasHeads m l) path heads
heads_along m l names k net (suc n) s t heads path =
    heads_along m l names k net n path.0 t (heads-stay m l names k s path.0 net heads path.1) path.2

pub networks-moments : NetworksHaveMoments
networks-moments m l names k is =
    let layout = layouts-there.0 m l names is.machine is.uniform is.numbering in
    let read = networks-read m l [] names k layout.0 is layout.1 (none_low (symbol_count m 1)) in (
      read.0,
      record {
        tells = read.1.tells;
        first = λ word low fits. first-moment costs-bounded have-entries m l names k read.0 word is.machine is.uniform
            is.symbols is.numbering is.network read.1.tells low fits;
        next = λ s c d at n by. next-moment costs-bounded (commands-walk costs-bounded) have-entries m l names k read.0
            is.machine is.uniform is.numbering is.network read.1.tells s c d at n by;
        last = λ s c e at ends early. last-moment costs-bounded (commands-walk costs-bounded) have-entries m l names k
            read.0 is.machine is.uniform is.numbering is.network read.1.tells s c e at ends early;
        heads = λ word low n t path. heads_along m l names k is.network n _ t
            (networks-read m l word names k layout.0 is layout.1 low).1.heads path;
      },
    )

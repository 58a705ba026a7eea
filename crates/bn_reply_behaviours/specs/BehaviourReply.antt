-- The answer of the command `behaviour`: the table of the reversible sequential machine that a circuit is (Morita
-- 2017).
use Rattle.std.specs.Prelude.{ℕ, ◌≤◌, List, Option, map}
use Rattle.bn_circuits.specs.declared.place.Place.{Place}
use Rattle.bn_csv.specs.Lines.{lines_of}
use Rattle.bn_rsm.specs.Entry.{entries_by}
use Rattle.bn_behaviour.specs.Laws.{machine_move}
use Rattle.bn_behaviour.specs.PortNames.{PortNames}
use Rattle.bn_behaviour.specs.declared.counted.CountedMove.{CountedMove}
use Rattle.bn_behaviour.specs.declared.ports.Ports.{Ports}
use Rattle.bn_reply.specs.Answering.{IsSettled}
use Rattle.bn_reply.specs.declared.status.Status.{Status}
use Rattle.bn_reply_behaviours.specs.ExploringReply.{ExploringReplies}

-- the entries as a table of a sequential machine, in the order in which they are found
abbrev pub behaviour_text : Ports → List CountedMove → List ℕ
behaviour_text ports moves = lines_of (entries_by (map machine_move moves))

-- for at most this many states, this many element steps of a crossing, and the names of ports, if any
abbrev pub BehaviourReplies : ℕ → ℕ → Option PortNames → List ℕ → Status → List ℕ → List Place → Type 0
BehaviourReplies = ExploringReplies behaviour_text

-- for all limits, names and bytes, it has exactly one answer
abbrev pub BehaviourIsSettled : Type 0
BehaviourIsSettled =
    (most_states most_steps : ℕ) (names : Option PortNames) (bytes : List ℕ) → 1 ≤ most_states
    → IsSettled (BehaviourReplies most_states most_steps names bytes)

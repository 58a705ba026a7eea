-- The answer of the command `crossings`: the crossings of a circuit, a line for each entry of its behaviour (this
-- project's own profile).
use Rattle.std.specs.Prelude.{ℕ, ◌+◌, ◌≤◌, List, [], ◌∷◌, ◌++◌, Option, codes, decimal, slice_index_or}
use Rattle.bn_circuits.specs.declared.line.Line.{Line}
use Rattle.bn_circuits.specs.declared.place.Place.{Place}
use Rattle.bn_netlist_laws.specs.Sentences.{line_text}
use Rattle.bn_behaviour.specs.PortNames.{PortNames}
use Rattle.bn_behaviour.specs.declared.counted.CountedMove.{CountedMove}
use Rattle.bn_behaviour.specs.declared.ports.Ports.{Ports}
use Rattle.bn_reply.specs.Answering.{IsSettled}
use Rattle.bn_reply.specs.Lines.{line}
use Rattle.bn_reply.specs.declared.status.Status.{Status}
use Rattle.bn_reply_behaviours.specs.ExploringReply.{ExploringReplies}

-- the port of this number, counted from 0
abbrev pub port_at : List Line → ℕ → Line
port_at ports n = slice_index_or ports n (record { element = 0; line = 0 })

-- the line of an entry with these ports, as configuration texts write them; its states are counted from 1
abbrev pub crossing_with : CountedMove → Line → Line → List ℕ
crossing_with m input output =
    line (codes "state " ∷ decimal (m.state + 1) ∷ codes " in " ∷ line_text input ∷ codes " next "
    ∷ decimal (m.next + 1) ∷ codes " out " ∷ line_text output ∷ codes " steps " ∷ decimal m.steps ∷ [])

abbrev pub crossing_line : Ports → CountedMove → List ℕ
crossing_line ports m = crossing_with m (port_at ports.inputs m.line) (port_at ports.outputs m.out)

-- the lines of the entries, in the order in which they are found
abbrev pub crossings_text : Ports → List CountedMove → List ℕ
crossings_text ports [] = []
crossings_text ports (m ∷ ms) = crossing_line ports m ++ crossings_text ports ms

-- for at most this many states, this many element steps of a crossing, and the names of ports, if any
abbrev pub CrossingsReplies : ℕ → ℕ → Option PortNames → List ℕ → Status → List ℕ → List Place → Type 0
CrossingsReplies = ExploringReplies crossings_text

-- for all limits, names and bytes, it has exactly one answer
abbrev pub CrossingsIsSettled : Type 0
CrossingsIsSettled =
    (most_states most_steps : ℕ) (names : Option PortNames) (bytes : List ℕ) → 1 ≤ most_states
    → IsSettled (CrossingsReplies most_states most_steps names bytes)

-- The answers of the commands that explore the circuit of a configuration text (this project's own profile; Morita
-- 2017 for the sequential machine that a circuit is).
use Rattle.std.specs.Prelude.{◌≡◌, ◌≢◌, ℕ, ◌+◌, ◌<◌, List, [], ◌∷◌, Option, codes, decimal, length}
use Rattle.bn_circuits.specs.Circuits.{Circuit}
use Rattle.bn_circuits.specs.declared.place.Place.{Place}
use Rattle.bn_netlist_laws.specs.Spelling.{Spelling, Spelled, circuit_of}
use Rattle.bn_netlist_laws.specs.declared.version.Version.{Version}
use Rattle.bn_behaviour.specs.Exploring.{IsFound, IsBehaviourRefusal}
use Rattle.bn_behaviour.specs.PortNames.{PortNames}
use Rattle.bn_behaviour.specs.declared.bounds.Bounds.{Bounds}
use Rattle.bn_behaviour.specs.declared.counted.CountedMove.{CountedMove}
use Rattle.bn_behaviour.specs.declared.ports.Ports.{Ports}
use Rattle.bn_behaviour.specs.declared.refusal.BehaviourRefusal.{BehaviourRefusal}
use Rattle.bn_behaviour.specs.declared.refusal.BehaviourRefusal.TheVariants.{More, Running, NoMemory}
use Rattle.bn_reply_relations.specs.CircuitReply.{Misspelled}
use Rattle.bn_reply.specs.Lines.{line}
use Rattle.bn_reply.specs.declared.status.Status.{Status}
use Rattle.bn_reply.specs.declared.status.Status.TheVariants as statuses
use Rattle.bn_reply_behaviours.specs.NamedPorts.{ArePortsFor, HasMisnamed}

-- the line of the pair at which an exploration stops; the state and the input line are counted from 1 in it
abbrev pub stop_line : BehaviourRefusal → List ℕ
stop_line (More q i) = line (codes "more " ∷ decimal (q + 1) ∷ codes " " ∷ decimal (i + 1) ∷ [])
stop_line (Running q i) = line (codes "running " ∷ decimal (q + 1) ∷ codes " " ∷ decimal (i + 1) ∷ [])
stop_line NoMemory = []

-- the line of a circuit from which no signal leaves by an output port that is named
abbrev pub closed_line : List ℕ
closed_line = line (codes "machine: closed" ∷ [])

-- The answer for a circuit in these states of its bars, where ports may be named and the exploration has bounds: the
-- first wrong name; the pair at which the exploration stops; that there is no entry; or the entries, in the form of the
-- command.
pub data CircuitAnswers (k : Circuit) (start : List ℕ) (names : Option PortNames) (bounds : Bounds)
    (form : Ports → List CountedMove → List ℕ) (status : Status) (text : List ℕ) (told : List Place) : Type 0 where
  misnamed : HasMisnamed k names text → status ≡ statuses.Word → told ≡ []
      → CircuitAnswers k start names bounds form status text told
  stopped : (ports : Ports) (why : BehaviourRefusal) → ArePortsFor k names ports
      → IsBehaviourRefusal k ports bounds start why → why ≢ NoMemory → text ≡ stop_line why
      → status ≡ statuses.Inside → told ≡ [] → CircuitAnswers k start names bounds form status text told
  closed : (ports : Ports) (states : List (List ℕ)) → ArePortsFor k names ports
      → IsFound k ports bounds start states [] → text ≡ closed_line → status ≡ statuses.Machine → told ≡ []
      → CircuitAnswers k start names bounds form status text told
  found : (ports : Ports) (states : List (List ℕ)) (moves : List CountedMove) → ArePortsFor k names ports
      → IsFound k ports bounds start states moves → 0 < length moves → text ≡ form ports moves
      → status ≡ statuses.Done → told ≡ [] → CircuitAnswers k start names bounds form status text told

-- The answer of such a command: the first fault of bytes that are no configuration text, or the answer for the circuit
-- in the states of its bars. The place of the signal, the start and the end are not used.
pub data ExploringReplies (form : Ports → List CountedMove → List ℕ) (most_states most_steps : ℕ)
    (names : Option PortNames) (bytes : List ℕ) (status : Status) (text : List ℕ) (told : List Place) : Type 0 where
  misspelled : Misspelled bytes text → status ≡ statuses.Text → told ≡ []
      → ExploringReplies form most_states most_steps names bytes status text told
  spelled : (v : Version) (s : Spelling) → Spelled v s bytes
      → CircuitAnswers (circuit_of s) s.config.states names (record { states = most_states; steps = most_steps }) form
      status text told
      → ExploringReplies form most_states most_steps names bytes status text told

-- The meaning of the names of ports (this project's own profile). A name is that of a port as configuration texts
-- write it: the element's number, a point, and one of the letters n, e, s and w.
use Rattle.std.specs.Prelude.{◌≡◌, ℕ, ◌+◌, List, [], ◌∷◌, Option, None, Some, codes, decimal, map, slice_get, take}
use Rattle.bn_lists.specs.Lists.{Has}
use Rattle.bn_circuits.specs.Circuits.{Circuit}
use Rattle.bn_circuits.specs.Behaviours.{IsFreeInput, IsFreeOutput}
use Rattle.bn_circuits.specs.declared.line.Line.{Line}
use Rattle.bn_netlist_laws.specs.Sentences.{line_text}
use Rattle.bn_qtable.specs.TapeWords.{Names, names_of_word}
use Rattle.bn_behaviour.specs.Explored.{StandOnce}
use Rattle.bn_behaviour.specs.PortNames.{PortNames}
use Rattle.bn_behaviour.specs.Ports.{AreAllPorts}
use Rattle.bn_behaviour.specs.declared.ports.Ports.{Ports}
use Rattle.bn_reply.specs.Lines.{line}

-- the names with a comma between two; no byte at all is the empty list
abbrev pub names_in : List ℕ → List (List ℕ)
names_in bytes = names_of_word (Names bytes)

-- The names are those of these ports, in order: all are free, and none is named twice.
pub record AreNamed (free : Line → Type 0) (names : List (List ℕ)) (ports : List Line) : Type 0 where
  pub named : names ≡ map line_text ports
  pub each : (l : Line) → Has ports l → free l
  pub once : StandOnce ports

-- The names before the p-th, counted from 1, name free ports, each once; the p-th is not that of a free port, or names
-- a port that is named before.
pub record IsMisnamed (free : Line → Type 0) (names : List (List ℕ)) (p : ℕ) : Type 0 where
  pub before : ℕ
  pub place : p ≡ before + 1
  pub name : List ℕ
  pub stands : slice_get names before ≡ Some name
  pub ports : List Line
  pub named : AreNamed free (take before names) ports
  pub wrong : (l : Line) → free l → name ≡ line_text l → Has (take before names) name

-- ---- both lists

-- The ports that are lines: if none are named, all free ports in rising order; otherwise those that are named.
abbrev pub ArePortsFor : Circuit → Option PortNames → Ports → Type 0
ArePortsFor k None ports = AreAllPorts k ports
ArePortsFor k (Some names) ports =
    AreNamed (IsFreeInput k) (names_in names.inputs) ports.inputs
    × AreNamed (IsFreeOutput k) (names_in names.outputs) ports.outputs

-- the lines that report the first wrong name among those of the input ports, and of the output ports, counted from 1
abbrev pub input_line : ℕ → List ℕ
input_line p = line (codes "word: in " ∷ decimal p ∷ [])

abbrev pub output_line : ℕ → List ℕ
output_line p = line (codes "word: out " ∷ decimal p ∷ [])

-- The text reports the first wrong name of the input ports; or, if these are all right, that of the output ports.
pub data TellsMisnamed (k : Circuit) (names : PortNames) (text : List ℕ) : Type 0 where
  wrong_input : (p : ℕ) → IsMisnamed (IsFreeInput k) (names_in names.inputs) p → text ≡ input_line p
      → TellsMisnamed k names text
  wrong_output : (inputs : List Line) (p : ℕ) → AreNamed (IsFreeInput k) (names_in names.inputs) inputs
      → IsMisnamed (IsFreeOutput k) (names_in names.outputs) p → text ≡ output_line p → TellsMisnamed k names text

-- if no ports are named, no name is wrong
abbrev pub HasMisnamed : Circuit → Option PortNames → List ℕ → Type 0
HasMisnamed k None text = ⊥
HasMisnamed k (Some names) text = TellsMisnamed k names text

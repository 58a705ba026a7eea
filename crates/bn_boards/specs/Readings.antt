-- Readings of the network from its circuit, by the modules, the banks and the layout.
use Rattle.std.specs.Prelude.{◌≡◌, ℕ, Bool, false}
use Rattle.bn_circuits.specs.declared.config.Config.{Config}
use Rattle.bn_circuits.specs.Situations.{Situation}
use Rattle.bn_boards.specs.Boards.{StandsFor, IsAmid, IsLoose}
use Rattle.bn_boards.specs.Layouts.{is_moment}
use Rattle.bn_boards.specs.NetworkReads.{NetworkReads}
use Rattle.bn_boards.specs.Builds.{Build, build_elements}
use Rattle.bn_boards.specs.Flats.{Flat, build_of, machine_of}

-- the number of elements of the circuit, by the machine, the limits and the control's number of states
abbrev pub elements_in : Flat → ℕ
elements_in f = build_elements (build_of f)

-- the circuit's test of moments agrees with the network's, and is false while the circuit is within a move or at a
-- loose port
pub record MomentsAgree (f : Build) (test : Situation → Bool) : Type 0 where
  pub between : (s : Situation) (d : Config) → StandsFor f.network s d → is_moment f.layout d ≡ test s
  pub amid : (s t : Situation) (d : Config) → IsAmid f.network s t d → is_moment f.layout d ≡ false
  pub loose : (s : Situation) (d : Config) → IsLoose f.network s d → is_moment f.layout d ≡ false

-- the readings from the circuit of a machine and a word
abbrev pub BoardReads : Flat → (Situation → Bool) → Type 0
BoardReads f test = NetworkReads (machine_of f) f.limits f.word f.names f.network f.layout test

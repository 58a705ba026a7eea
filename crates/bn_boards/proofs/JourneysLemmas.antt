-- The same run of the network on the board, for a machine and a word.
use Rattle.std.specs.Prelude.{ℕ, ◌+◌, ◌*◌, ◌≤◌, Bool, List, refl}
use Rattle.bn_circuits.specs.Circuits.{clock}
use Rattle.bn_circuits.specs.Situations.{Situation}
use Rattle.bn_machine.specs.Machine.{Program}
use Rattle.bn_machine.specs.Outcome.{Limits}
use Rattle.bn_quad.specs.Quadruples.{Configuration}
use Rattle.bn_bennett_laws.specs.Steps.{Exit}
use Rattle.bn_bennett.specs.Runs.{beginning_of}
use Rattle.bn_network_laws.specs.Ends.{EndsBy}
use Rattle.bn_boards.specs.Boards.{AreModules, StandsFor}
use Rattle.bn_boards.specs.Flats.{Flat, build_of, machine_of, IsFlatOf, situation_at_start, flat_start}
use Rattle.bn_boards.specs.Readings.{elements_in, MomentsAgree}
use Rattle.bn_boards.specs.Journeys.{NetworkComes}
use Rattle.bn_boards.proofs.TravelLemmas.{BoardComesOver, come}

-- the board's run from the word, in its cost
abbrev pub BoardComes : Flat → ℕ → Configuration ℕ → Exit → Type 0
BoardComes f n d e = BoardComesOver (build_of f) (situation_at_start f) (flat_start f) n
    (λ s. EndsBy (machine_of f) f.limits f.names s d e)

-- the network's run over its moments is a run of its board, which counts them
pub boards-come : (p : Program) (word : List ℕ) (l : Limits) (f : Flat) (test : Situation → Bool) → IsFlatOf p word l f
    → AreModules f.network → StandsFor f.network (situation_at_start f) (flat_start f) → MomentsAgree (build_of f) test
    → (n : ℕ) (d : Configuration ℕ) (e : Exit) → NetworkComes f test n d e
    → 4 * elements_in f + 48 * elements_in f * (n + 1) ≤ clock → BoardComes f n d e
boards-come p word l f test flat modules start agree n d e comes room =
    come (build_of f) test modules flat.is_board agree (situation_at_start f) (beginning_of f.translation f.word)
    (flat_start f) start refl n d (λ s. EndsBy (machine_of f) f.limits f.names s d e) comes room

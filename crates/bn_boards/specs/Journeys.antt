-- A run of the network from its start through its moments to its end, and the same run of the circuit.
use Rattle.std.specs.Prelude.{◌≡◌, ℕ, ◌+◌, ◌*◌, ◌<◌, ◌≤◌, Bool, true, false, length, ◌⊎◌}
use Rattle.bn_lists.specs.Runs.{Reaches}
use Rattle.bn_machine.specs.Tape.{scanned}
use Rattle.bn_machine.specs.Outcome as outcome
use Rattle.bn_machine.specs.Outcome.{Outcome}
use Rattle.bn_quad.specs.Quadruples.{Configuration, QuadruplesRunTo}
use Rattle.bn_bennett_laws.specs.Stages.{rooms_of}
use Rattle.bn_bennett_laws.specs.Steps.{HasNoFirstRead, Exit, Finished, Stopped, Leaving}
use Rattle.bn_bennett_laws.specs.declared.name.Name.TheVariants.{Compute}
use Rattle.bn_bennett.specs.Translation.{name_of}
use Rattle.bn_bennett.specs.Runs.{Comes, beginning_of, ending_of}
use Rattle.bn_circuits.specs.Situations.{Situation, IsAtEnd}
use Rattle.bn_rsm.specs.RunCosts.{run_cost}
use Rattle.bn_network.specs.Moments.{IsMomentOf, Travels}
use Rattle.bn_network_laws.specs.Ends.{EndsBy}
use Rattle.bn_boards.specs.Builds.{Build, build_elements}
use Rattle.bn_boards.specs.Flats.{Flat, build_of, machine_of, situation_at_start}

-- one step of the machine, and the network's moves from its moment to the next one
pub record Strides (f : Build) (test : Situation → Bool) (x y : Situation × Configuration ℕ) : Type 0 where
  pub moves : ℕ
  pub some : 0 < moves
  pub travels : Travels f.network test moves (48 * build_elements f) x.0 y.0
  pub goes : QuadruplesRunTo (rooms_of f.limits) f.machine x.1 y.1
  pub shows : IsMomentOf f.machine f.limits f.names f.network y.0 y.1
  pub told : test y.0 ≡ true

-- From a start the network reaches its first moment, then over n steps the moment of d, and from there an end for
-- which `Ends` holds.
pub record ComesOver (f : Build) (test : Situation → Bool) (start : Situation) (c : Configuration ℕ) (n : ℕ)
    (d : Configuration ℕ) (Ends : Situation → Type 0) : Type 0 where
  pub first : Situation
  pub starts : Travels f.network test 1 (4 * build_elements f) start first
  pub shows : IsMomentOf f.machine f.limits f.names f.network first c
  pub told : test first ≡ true
  pub moment : Situation
  pub strides : Reaches (Strides f test) n (first, c) (moment, d)
  pub moves : ℕ
  pub last : Situation
  pub leaves : Travels f.network test moves (48 * build_elements f) moment last
  pub whole : run_cost f.network (moves + 1) moment ≤ 48 * build_elements f
  pub ended : IsAtEnd f.network last
  pub ends : Ends last
  pub quiet : (moves ≡ 0) ⊎ (test last ≡ false)

-- the same from the word to the end that the machine's own exit determines
abbrev pub NetworkComes : Flat → (Situation → Bool) → ℕ → Configuration ℕ → Exit → Type 0
NetworkComes f test n d e = ComesOver (build_of f) test (situation_at_start f) (beginning_of f.translation f.word) n d
    (λ s. EndsBy (machine_of f) f.limits f.names s d e)

-- the network ends as the outcome says
abbrev pub NetworkEndsAs : Flat → (Situation → Bool) → ℕ → Outcome → Type 0
NetworkEndsAs f test i (outcome.Halted y) = NetworkComes f test (4 * i + 4 * length y + 5)
    (ending_of f.translation f.word y) Finished
NetworkEndsAs f test i (outcome.Stuck j c) = (d : Configuration ℕ) × NetworkComes f test (2 * i) d Stopped
    × (name_of f.translation d.state ≡ Compute j) × (scanned d.one ≡ c)
    × HasNoFirstRead (machine_of f).rules d
NetworkEndsAs f test i (outcome.Outside t side) = (n : ℕ) × (d : Configuration ℕ)
    × NetworkComes f test n d (Leaving t side) × Comes f.translation f.word f.limits n d (Leaving t side)

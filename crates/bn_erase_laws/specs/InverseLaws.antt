-- The inverse of a machine of quadruples (Bennett 1973: its inverted list), and its runs. `Laws` at the end is the
-- contract of `inverse_laws`.
use Rattle.std.specs.Prelude.{◌≡◌, ◌↔◌, ℕ, List, ◌⊎◌}
use Rattle.bn_lists.specs.Runs.{Reaches}
use Rattle.bn_quad.specs.Quadruples.{Rule, Configuration, Follows, Quadruples, IsQuadMachine, QuadruplesRunTo}
use Rattle.bn_quad.specs.Quadruples.{Rooms, AreAllowed, initial_of, final_state_of, inverse_of}
use Rattle.bn_quad.specs.Overlap.{IsDeterministic, IsReversible}
use Rattle.bn_quad.specs.Calls.{IsUniformMachine}
use Rattle.bn_bennett_laws.specs.Steps.{EndsAt, Exit, Finished, Steps}

-- ---- the machine

abbrev pub InversesAreMachines : Type 0
InversesAreMachines = (m : Quadruples) → IsQuadMachine m → IsQuadMachine (inverse_of m)

abbrev pub InversesOfInverses : Type 0
InversesOfInverses = (m : Quadruples) → inverse_of (inverse_of m) ≡ m

abbrev pub InversesExchangeEnds : Type 0
InversesExchangeEnds = (m : Quadruples) → (initial_of (inverse_of m).rules ≡ final_state_of m.rules)
    × (final_state_of (inverse_of m).rules ≡ initial_of m.rules)

abbrev pub InversesPassTests : Type 0
InversesPassTests = (m : Quadruples) → (IsDeterministic m.rules ↔ IsReversible (inverse_of m).rules)
    × (IsReversible m.rules ↔ IsDeterministic (inverse_of m).rules)

abbrev pub InversesAreUniform : Type 0
InversesAreUniform = (m : Quadruples) → IsUniformMachine m ↔ IsUniformMachine (inverse_of m)

-- ---- the runs of the inverse

-- the steps by any quadruples, in any state, on infinite tapes
abbrev pub InversesFollowBack : Type 0
InversesFollowBack = (m : Quadruples) (n : ℕ) (c d : Configuration ℕ)
    → Reaches (Follows m.rules) n c d ↔ Reaches (Follows (inverse_of m).rules) n d c

-- the machine's own steps, none of which leaves the final state, within rooms that allow both ends of the run
abbrev pub InversesRunBack : Type 0
InversesRunBack =
    (m : Quadruples) → IsUniformMachine m → (rooms : Rooms) (n : ℕ) (c d : Configuration ℕ) → AreAllowed rooms c
    → AreAllowed rooms d
    → Reaches (QuadruplesRunTo rooms m) n c d ↔ Reaches (QuadruplesRunTo rooms (inverse_of m)) n d c

abbrev pub InversesEndAtTheStart : Type 0
InversesEndAtTheStart =
    (m : Quadruples) → IsUniformMachine m → (rooms : Rooms) (n : ℕ) (c d : Configuration ℕ) → AreAllowed rooms c
    → c.state ≡ initial_of m.rules → Reaches (QuadruplesRunTo rooms m) n c d
    → EndsAt rooms m.rules (final_state_of m.rules) d Finished
    → (d.state ≡ initial_of (inverse_of m).rules) × Reaches (QuadruplesRunTo rooms (inverse_of m)) n d c
    × EndsAt rooms (inverse_of m).rules (final_state_of (inverse_of m).rules) c Finished

-- ---- any run of a list of quadruples (`Rule`)

abbrev pub RunsGoOnOrEnd : Type 0
RunsGoOnOrEnd = (rooms : Rooms) (rs : List (Rule ℕ)) (final : ℕ) (c : Configuration ℕ)
    → ((d : Configuration ℕ) × Steps rooms rs final c d) ⊎ ((e : Exit) × EndsAt rooms rs final c e)

-- ---- the laws

pub record Laws : Type 0 where
  -- The inverse of a machine is a machine.
  pub inverses_are_machines : InversesAreMachines
  -- The inverse of the inverse is the machine.
  pub inverses_of_inverses : InversesOfInverses
  -- The inverse begins in the machine's final state and ends in its initial one.
  pub inverses_exchange_ends : InversesExchangeEnds
  -- The inverse is reversible exactly if the machine is deterministic, and deterministic exactly if the machine is
  -- reversible; therefore both pass the two tests or neither does.
  pub inverses_pass_tests : InversesPassTests
  -- The inverse is deterministic, reversible and uniform exactly if the machine is.
  pub inverses_are_uniform : InversesAreUniform
  -- For any machine, n quadruples lead from c to d exactly if n quadruples of the inverse lead from d to c.
  pub inverses_follow_back : InversesFollowBack
  -- For a uniform machine, n steps lead from c to d exactly if n steps of the inverse lead from d to c, within rooms
  -- that allow c and d.
  pub inverses_run_back : InversesRunBack
  -- A run of a uniform machine from its initial state to its end is, backward, a run of the inverse from its initial
  -- state to its end.
  pub inverses_end_at_the_start : InversesEndAtTheStart
  -- From any configuration a run makes another step, or it ends in one of the three ways.
  pub runs_go_on_or_end : RunsGoOnOrEnd

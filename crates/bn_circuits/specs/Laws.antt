-- The laws of this crate, a named field each. `Laws` is the contract of `circuits_laws`.
use Rattle.bn_circuits.specs.Alike.{AlikeRunAlike, ConsistentMovesAreReversible, TablesAreOne}
use Rattle.bn_circuits.specs.Circuits.{Circuit, Goes, IsCircuit, IsConfig, IsFirst}
use Rattle.bn_circuits.specs.Counting.{TalliesAdd}
use Rattle.bn_circuits.specs.RunLaws.{Makes}
use Rattle.bn_circuits.specs.RunParts.{PathsPassBetween, PlacesAreThoseOfRuns, PlacesAreThoseOfRunsBack}
use Rattle.bn_circuits.specs.RunParts.{RunsUndoInPart}
use Rattle.bn_circuits.specs.Situations.{PathsAreCounted, StepsAreCounted}
use Rattle.bn_circuits.specs.Stepping.{back, next, previous, run}
use Rattle.bn_circuits.specs.declared.config.Config.{Config}
use Rattle.bn_lists.specs.Runs.{Reaches}
use Rattle.bn_circuits.specs.Heard.{WatchesTellWithinRoom}
use Rattle.bn_circuits.specs.Order.{WiresStandOnce}
use Rattle.bn_circuits.specs.declared.net.TheConstants.{MOST_ELEMENTS}
use Rattle.std.specs.Prelude.{Some, ℕ, ◌+◌, ◌<◌, ◌^◌, ◌↔◌, ◌≡◌, ◌≤◌}
use Rattle.bn_circuits.specs.BehaviourLaws.{SignalsLeaveOrHang, SignalsComeOnce, CircuitsAreLeft, BehavioursStay}
use Rattle.bn_circuits.specs.BehaviourLaws.{BehavioursAreOneToOne, BehavioursAreOnto, BehavioursAreRuns}

pub record Laws : Type 0 where
  -- Every configuration has at most one successor, and in a circuit at most one predecessor. Therefore a step can be
  -- undone.
  pub steps_are_one_to_one :
      ((k : Circuit) (c d e : Config) → Goes k c d → Goes k c e → d ≡ e) × ((k : Circuit) → IsCircuit k
      → (c d e : Config) → Goes k c e → Goes k d e → c ≡ d)
  -- The step as a function is the step as a relation, forward and backward.
  pub steps_compute :
      ((k : Circuit) (c d : Config) → (next k c ≡ Some d) ↔ Goes k c d) × ((k : Circuit) → IsCircuit k
      → (c d : Config) → IsConfig k d → (previous k d ≡ Some c) ↔ Goes k c d)
  -- A step from a configuration of the circuit leads to one, and a step to one comes from one.
  pub configurations_stay :
      ((k : Circuit) → IsCircuit k → (c d : Config) → IsConfig k c → Goes k c d → IsConfig k d) × ((k : Circuit)
      → IsCircuit k → (c d : Config) → IsConfig k d → Goes k c d → IsConfig k c)
  -- A run of s + t steps is a run of s steps and then one of t steps; backward likewise.
  pub runs_compose :
      ((k : Circuit) (c : Config) (s t : ℕ) → run k c (s + t) ≡ run k (run k c s) t)
      × ((k : Circuit) (c : Config) (s t : ℕ) → back k c (s + t) ≡ back k (back k c s) t)
  -- `run` makes as many steps as requested, or as many as possible.
  pub runs_are_longest : (k : Circuit) (c : Config) (t : ℕ) → Makes k c t (run k c t)
  -- If exactly n steps lead from c to d, the run of n steps from c ends at d.
  pub runs_are_functions : (k : Circuit) (n : ℕ) (c d : Config) → Reaches (Goes k) n c d → run k c n ≡ d
  -- Undoing exactly n steps restores their start. A run back that made as many steps as requested, or reached a
  -- configuration without a predecessor, is `back`.
  pub runs_undo :
      ((k : Circuit) → IsCircuit k → (n : ℕ) (c d : Config) → Reaches (Goes k) n c d → back k d n ≡ c)
      × ((k : Circuit) → IsCircuit k → (n t : ℕ) (c d : Config) → IsConfig k c → Reaches (Goes k) n c d → n ≤ t
      → (n < t → IsFirst k c) → back k d t ≡ c)
  -- Undoing a part of a run gives a shorter run.
  pub runs_undo_in_part : RunsUndoInPart
  -- The configurations strictly between the ends of a path pass the path's test.
  pub paths_pass_between : PathsPassBetween
  -- The places reported for a run are those of its configurations, as many as steps can be made.
  pub places_are_those_of_runs : PlacesAreThoseOfRuns
  -- The places reported for a run back are those of its configurations, as many as steps back can be made.
  pub places_are_those_of_runs_back : PlacesAreThoseOfRunsBack
  -- A counted step is a step within the clock.
  pub steps_are_counted : StepsAreCounted
  -- If the clock has room, a path is a counted path.
  pub paths_are_counted : PathsAreCounted
  -- Counts along a run add up.
  pub tallies_add : TalliesAdd
  -- Circuits with the same tables and the same wires, in any order, run alike.
  pub alike_run_alike : AlikeRunAlike
  -- Reversible tables with the same numbers and the same moves are one table.
  pub tables_are_one : TablesAreOne
  -- If any two moves of a list that agree on one side are equal, the list makes a reversible table.
  pub consistent_moves_are_reversible : ConsistentMovesAreReversible
  -- After n places, the list of a watch in memory is known exactly if n is at most its room.
  pub watches_tell_within_room : WatchesTellWithinRoom
  -- No two wires of a list in order, such as that of a net, leave the same port.
  pub wires_stand_once : WiresStandOnce
  -- `MOST_ELEMENTS`, the limit of a circuit that is read, made or written, is 2^22.
  pub most_elements_are_stated : MOST_ELEMENTS ≡ 2 ^ 22
  -- A signal that enters from outside leaves, or it stops where an element has no move.
  pub signals_leave_or_hang : SignalsLeaveOrHang
  -- A signal from outside does not both leave and stop, and it does either in one way.
  pub signals_come_once : SignalsComeOnce
  -- If each element has a move from each of its states and input ports, the signal leaves.
  pub circuits_are_left : CircuitsAreLeft
  -- When a signal has left, the states are in range, the port has no wire, and at least one step was made.
  pub behaviours_stay : BehavioursStay
  -- Two pairs of states and free input port that lead to the same pair are equal.
  pub behaviours_are_one_to_one : BehavioursAreOneToOne
  -- If some move leads to each state and output port of each element, a signal from outside leads to each pair of
  -- states and free output port.
  pub behaviours_are_onto : BehavioursAreOnto
  -- If the clock has room, a behaviour is the run of the circuit, and that run undone.
  pub behaviours_are_runs : BehavioursAreRuns

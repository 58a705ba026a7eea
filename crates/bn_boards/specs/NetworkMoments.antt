-- Laws on the network of any uniform machine.
use Rattle.std.specs.Prelude.{◌≡◌, ◌↔◌, ℕ, ◌+◌, ◌*◌, ◌<◌, ◌≤◌, Bool, true, false, List, [], length, All, ◌⊎◌}
use Rattle.bn_lists.specs.Runs.{Reaches}
use Rattle.bn_circuits.specs.Circuits.{Circuit}
use Rattle.bn_circuits.specs.declared.place.Place.TheVariants.{Enter}
use Rattle.bn_network.specs.declared.cell_line.CellLine.TheVariants.{Read, Answer}
use Rattle.bn_circuits.specs.Situations.{Situation, Turns, IsAtEnd}
use Rattle.bn_machine.specs.Tape.{word_tape, blank_tape, scanned}
use Rattle.bn_machine.specs.Outcome.{Limits}
use Rattle.bn_quad.specs.Quadruples.{Configuration, Quadruples, GoesBy, initial_of, final_state_of}
use Rattle.bn_bennett_laws.specs.Steps.{EndsAt, Exit}
use Rattle.bn_bennett_laws.specs.Stages.{rooms_of}
use Rattle.bn_rsm.specs.RunCosts.{run_cost}
use Rattle.bn_network.specs.Controls.{ControlState, Reads, Tape as to_tape, IsEntry, symbol_count}
use Rattle.bn_network.specs.Controls.{in_number}
use Rattle.bn_network.specs.Networks.{IsTape, IsControlAt, network_start, elements_by, left_of}
use Rattle.bn_network.specs.Moments.{HasHeads, IsMomentOf, TellsMoments, Travels, quad_moves, head_cell}
use Rattle.bn_network_laws.specs.Ends.{EndsBy, IsEarlyStop, IsStoppedAt, tape_of}
use Rattle.bn_machine.specs.Machine.{Program}
use Rattle.bn_boards.specs.Builds.{IsUniformNetwork}
use Rattle.bn_boards.specs.Flats.{Flat, IsFlatOf, IsAccepted, flat_start}
use Rattle.bn_boards.specs.Layouts.{spelled_by, spelled_config}

-- the configuration of the machine at the start: the word on tape 1 from cell 1 on, all other cells blank, the heads
-- at 0
abbrev pub machine_start : Quadruples → List ℕ → Configuration ℕ
machine_start m word = record { state = initial_of m.rules; one = word_tape word; two = blank_tape; three = blank_tape }

-- A network passes its moments, which a test recognises: from the start it reaches the moment of the machine's start
-- in one move; from the moment of a configuration, that of the next one in a counted number of moves, with none
-- strictly between; and from the last moment, its end. In every situation that it reaches, no tape has two heads.
pub record GoesOverMoments (m : Quadruples) (l : Limits) (names : List ControlState) (k : Circuit)
    (test : Situation → Bool) : Type 0 where
  pub tells : TellsMoments m names k test
  pub first : (word : List ℕ) → All (λ s. s < symbol_count m 1) word → length word ≤ l.right
      → (t : Situation) × Travels k test 1 (4 * elements_by m l (length names)) (network_start m l word) t
      × IsMomentOf m l names k t (machine_start m word) × (test t ≡ true)
  pub next : (s : Situation) (c d : Configuration ℕ) → IsMomentOf m l names k s c
      → (n : ℕ) (by : GoesBy (rooms_of l) m n c d)
      → (t : Situation) × (0 < quad_moves l by.rule c)
      × Travels k test (quad_moves l by.rule c) (48 * elements_by m l (length names)) s t
      × IsMomentOf m l names k t d × (test t ≡ true)
  pub last : (s : Situation) (c : Configuration ℕ) (e : Exit) → IsMomentOf m l names k s c
      → EndsAt (rooms_of l) m.rules (final_state_of m.rules) c e → IsEarlyStop m c e
      → (n : ℕ) × (t : Situation) × Travels k test n (48 * elements_by m l (length names)) s t
      × (run_cost k (n + 1) s ≤ 48 * elements_by m l (length names)) × IsAtEnd k t × EndsBy m l names t c e
      × ((n ≡ 0) ⊎ (test t ≡ false))
  pub heads : (word : List ℕ) → All (λ s. s < symbol_count m 1) word → (n : ℕ) (t : Situation)
      → Reaches (Turns k) n (network_start m l word) t → HasHeads m l t

abbrev pub NetworksHaveMoments : Type 0
NetworksHaveMoments =
    (m : Quadruples) (l : Limits) (names : List ControlState) (k : Circuit) → IsUniformNetwork m l names k
    → (test : Situation → Bool) × GoesOverMoments m l names k test

-- From the moment of a configuration whose state begins with a read of tape t, the network reaches the reply to this
-- read in a counted number of moves, and the control still waits for it. There the network stops exactly if the
-- machine is stuck at its first read.
abbrev pub NetworksStopAtFirstReads : Type 0
NetworksStopAtFirstReads =
    (m : Quadruples) (l : Limits) (names : List ControlState) (k : Circuit) → IsUniformNetwork m l names k
    → (s : Situation) (c : Configuration ℕ) (t : ℕ) → IsMomentOf m l names k s c → IsTape t
    → IsEntry m c.state (Reads c.state [], to_tape t Read)
    → (u : Situation) × Reaches (Turns k) (2 * head_cell (left_of l t) (tape_of c t) + 1) s u
    × (u.place ≡ Enter 0 (in_number m (to_tape t (Answer (scanned (tape_of c t))))))
    × IsControlAt names u.states (Reads c.state []) × (IsAtEnd k u ↔ IsStoppedAt m c t)

-- at its start a circuit's cells show the word on tape 1 from cell 1 on, blank tapes 2 and 3, and the heads at 0
abbrev pub StartsSpellWords : Type 0
StartsSpellWords =
    (p : Program) (word : List ℕ) (l : Limits) (f : Flat) → IsFlatOf p word l f → IsAccepted p word l f
    → spelled_by f.layout (flat_start f).states ≡ spelled_config l (machine_start f.translation.machine word)

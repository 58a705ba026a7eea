-- The statements of this crate's laws, each a field of `Laws`: the network's path from moment to moment, for every
-- uniform machine and every window.
use Rattle.std.specs.Prelude.{◌≡◌, ℕ, ◌+◌, ◌*◌, ◌<◌, ◌≤◌, Bool, true, false, List, length, All, ◌⊎◌}
use Rattle.bn_circuits.specs.Circuits.{Circuit}
use Rattle.bn_machine.specs.Tape.{word_tape, blank_tape}
use Rattle.bn_machine.specs.Outcome.{Limits}
use Rattle.bn_quad.specs.Quadruples.{Configuration, Quadruples, GoesBy, IsQuadMachine, initial_of, final_state_of}
use Rattle.bn_quad.specs.Calls.{IsUniformMachine}
use Rattle.bn_bennett_laws.specs.Steps.{EndsAt, Exit}
use Rattle.bn_bennett_laws.specs.Stages.{rooms_of}
use Rattle.bn_circuits.specs.Situations.{Situation, Turns, IsAtEnd}
use Rattle.bn_rsm.specs.RunCosts.{run_cost}
use Rattle.bn_network.specs.Controls.{ControlState, IsNumbering, symbol_count}
use Rattle.bn_network.specs.Networks.{IsNetwork, network_start, elements_by}
use Rattle.bn_network.specs.Moments.{HasLetters, HasHeads, IsMomentOf, TellsMoments, Travels, quad_moves}
use Rattle.bn_network_laws.specs.Ends.{EndsBy, IsEarlyStop}

-- From the start the network reaches, in one move of the control, the moment of the initial state: the word is on
-- tape 1 from cell 1 on, all other cells are blank, and the heads are at 0.
abbrev pub FirstMoment : Type 0
FirstMoment =
    (m : Quadruples) (l : Limits) (names : List ControlState) (k : Circuit) (test : Situation → Bool) (word : List ℕ)
    → IsQuadMachine m → IsUniformMachine m → HasLetters m → IsNumbering m names → IsNetwork m l names k
    → TellsMoments m names k test
    → All (λ x. x < symbol_count m 1) word → length word ≤ l.right
    → (t : Situation) × Travels k test 1 (4 * elements_by m l (length names)) (network_start m l word) t
    × IsMomentOf m l names k t (record {
      state = initial_of m.rules;
      one = word_tape word;
      two = blank_tape;
      three = blank_tape;
    }) × (test t ≡ true)

-- From the moment of a configuration the network reaches the moment of the next configuration, in a counted number of
-- moves, with no moment strictly between, at a bounded cost.
abbrev pub NextMoment : Type 0
NextMoment =
    (m : Quadruples) (l : Limits) (names : List ControlState) (k : Circuit) (test : Situation → Bool)
    → IsQuadMachine m → IsUniformMachine m → IsNumbering m names → IsNetwork m l names k
    → TellsMoments m names k test
    → (s : Situation) (c d : Configuration ℕ) → IsMomentOf m l names k s c
    → (n : ℕ) (by : GoesBy (rooms_of l) m n c d)
    → (t : Situation) × (0 < quad_moves l by.rule c)
    × Travels k test (quad_moves l by.rule c) (48 * elements_by m l (length names)) s t × IsMomentOf m l names k t d
    × (test t ≡ true)

-- From the moment of a configuration at which the machine's run ends for one of those reasons, the network reaches
-- its end, with no moment after the first. The cost is bounded, including that of the attempt at a move that does not
-- exist.
abbrev pub LastMoment : Type 0
LastMoment =
    (m : Quadruples) (l : Limits) (names : List ControlState) (k : Circuit) (test : Situation → Bool)
    → IsQuadMachine m → IsUniformMachine m → IsNumbering m names → IsNetwork m l names k
    → TellsMoments m names k test
    → (s : Situation) (c : Configuration ℕ) (e : Exit) → IsMomentOf m l names k s c
    → EndsAt (rooms_of l) m.rules (final_state_of m.rules) c e → IsEarlyStop m c e
    → (n : ℕ) × (t : Situation) × Travels k test n (48 * elements_by m l (length names)) s t
    × (run_cost k (n + 1) s ≤ 48 * elements_by m l (length names)) × IsAtEnd k t × EndsBy m l names t c e
    × ((n ≡ 0) ⊎ (test t ≡ false))

-- no move gives a tape a second head
abbrev pub HeadsStayOne : Type 0
HeadsStayOne = (m : Quadruples) (l : Limits) (names : List ControlState) (k : Circuit) (s t : Situation)
    → IsNetwork m l names k → HasHeads m l s → Turns k s t → HasHeads m l t

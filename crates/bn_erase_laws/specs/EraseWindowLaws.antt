-- The machine that erases its input (Bennett 1973) in a window: when it halts, with which output, and in which
-- window.
use Rattle.std.specs.Prelude.{◌≡◌, ℕ, ◌+◌, ◌*◌, ◌≤◌, List, [], length}
use Rattle.bn_machine.specs.Machine.{Program}
use Rattle.bn_machine.specs.Outcome.{Limits, Halted, HasOutcome, Outside, Stuck}
use Rattle.bn_machine.specs.declared.quint.Side.{Side}
use Rattle.bn_quad.specs.Quadruples.{Configuration}
use Rattle.bn_bennett_laws.specs.Laws.{HaltsAfter, least}
use Rattle.bn_bennett_laws.specs.Stages.{IsStandardMachine, IsSpelledBy}
use Rattle.bn_bennett_laws.specs.Steps.{Exit, Finished, Leaving, Stopped}
use Rattle.bn_erase_laws.specs.Erasing.{IsWord, erasing_end}
use Rattle.bn_erase_laws.specs.declared.name.ErasingName.{ErasingName}
use Rattle.bn_erase_laws.specs.ErasingLaws.{PartAt}
use Rattle.bn_erase_laws.specs.EraseWindows.{BothHaltIn, EndsIn, HaltsRightOfStart, IsWindowIn, erasing_steps}
use Rattle.bn_erase_laws.specs.EraseWindows.{second_window}
use Rattle.bn_erase_laws.specs.EraseWindows.{right_window_for, window_for, window_of_both}

-- In a window the erasing machine goes from x to its end with only y left if both machines halt in the window, each
-- on the other's word. Conversely, if it reaches its end, both machines halt so, and the run is the one stated.
abbrev pub ErasesInWindows : Type 0
ErasesInWindows =
    (p q : Program) (x : List ℕ) (l : Limits) → IsStandardMachine p → IsStandardMachine q → p.symbols ≡ q.symbols
    → IsSpelledBy p x → IsWord x
    → ((v w : ℕ) (y : List ℕ) → BothHaltIn p q x l v w y
    → EndsIn p q x l (erasing_steps x y v w) (erasing_end q y) Finished)
    × ((n : ℕ) (d : Configuration ErasingName) → EndsIn p q x l n d Finished → (v w : ℕ) × (y : List ℕ)
    × BothHaltIn p q x l v w y × (n ≡ erasing_steps x y v w) × (d ≡ erasing_end q y))

-- a machine that halts in a window halts after as many steps and with the same output in each larger one
abbrev pub HaltsInGreaterWindows : Type 0
HaltsInGreaterWindows =
    (p : Program) (word : List ℕ) (a b : Limits) (v : ℕ) (y : List ℕ) → IsWindowIn a b
    → HasOutcome p word a v (Halted y) → HasOutcome p word b v (Halted y)

-- if each machine halts in a window of its own, and the second machine's window begins at 0, both halt in the window
-- composed of the two
abbrev pub WindowsOfBothSuffice : Type 0
WindowsOfBothSuffice =
    (p q : Program) (x y : List ℕ) (a b : Limits) (v w : ℕ) → HasOutcome p x a v (Halted y)
    → HasOutcome q y b w (Halted x) → b.left ≡ 0 → BothHaltIn p q x (window_of_both a b) v w y

-- if both machines halt, each on the other's word, and the second machine's head is never left of cell 0, they halt
-- in the window computed from their steps and words
abbrev pub StepsGiveWindow : Type 0
StepsGiveWindow =
    (p q : Program) (x y : List ℕ) (v w : ℕ) → HaltsAfter p x v y → HaltsRightOfStart q y w x
    → BothHaltIn p q x (window_of_both (window_for v (length y)) (right_window_for w (length x))) v w y

-- in every window the run from a word ends, after at most a stated number of steps
abbrev pub RunsEnd : Type 0
RunsEnd =
    (p q : Program) (x : List ℕ) (l : Limits) → IsStandardMachine p → IsStandardMachine q → p.symbols ≡ q.symbols
    → IsSpelledBy p x → IsWord x → (n : ℕ) × (d : Configuration ErasingName) × (e : Exit) × EndsIn p q x l n d e
    × (n ≤ 8 * l.steps + 4 * (l.right + l.output) + 10)

-- in every window the run from a word ends in only one way, after one number of steps
abbrev pub RunsEndOnce : Type 0
RunsEndOnce =
    (p q : Program) → IsStandardMachine p → IsStandardMachine q → (x : List ℕ) (l : Limits) (m n : ℕ)
    (d b : Configuration ErasingName) (e f : Exit) → EndsIn p q x l m d e → EndsIn p q x l n b f
    → (m ≡ n) × (d ≡ b) × (e ≡ f)

-- if the first machine is stuck in the window, or its head would leave its tape there, the erasing machine's run ends
-- in the same way
abbrev pub FirstNamesEnd : Type 0
FirstNamesEnd =
    (p q : Program) (x : List ℕ) (l : Limits) → IsStandardMachine p → IsStandardMachine q → IsSpelledBy p x
    → ((i state symbol : ℕ) → HasOutcome p x l i (Stuck state symbol)
    → (d : Configuration ErasingName) × EndsIn p q x l (2 * i) d Stopped)
    × ((i tape : ℕ) (side : Side) → HasOutcome p x l i (Outside tape side)
    → (n : ℕ) × (d : Configuration ErasingName) × EndsIn p q x l n d (Leaving tape side))

-- if the first machine halts on x after v steps with the output y, and the second is stuck on y after w steps, both
-- in the window, the run is stuck after 4v + 4|y| + 5 + 2w steps
abbrev pub SecondNamesEnd : Type 0
SecondNamesEnd =
    (p q : Program) (x : List ℕ) (l : Limits) → IsStandardMachine p → IsStandardMachine q → p.symbols ≡ q.symbols
    → IsSpelledBy p x → IsWord x → (v w state symbol : ℕ) (y : List ℕ) → HasOutcome p x l v (Halted y)
    → HasOutcome q y (second_window l) w (Stuck state symbol)
    → (d : Configuration ErasingName) × EndsIn p q x l (4 * v + 4 * length y + 5 + 2 * w) d Stopped

-- if both machines halt in the window, and the second machine's output agrees with x in exactly its first k letters,
-- the run is stuck after 4v + 4|y| + 2w + 2k + 7 steps
abbrev pub UnequalOutputsEnd : Type 0
UnequalOutputsEnd =
    (p q : Program) (x : List ℕ) (l : Limits) → IsStandardMachine p → IsStandardMachine q → p.symbols ≡ q.symbols
    → IsSpelledBy p x → IsWord x → (v w k : ℕ) (y z : List ℕ) → HasOutcome p x l v (Halted y)
    → HasOutcome q y (second_window l) w (Halted z) → PartAt x z k
    → (d : Configuration ErasingName) × EndsIn p q x l (4 * v + 4 * length y + 2 * w + 2 * k + 7) d Stopped

-- the two least machines, on the empty word, in the window computed from their steps: the premises can be satisfied,
-- and 26 steps lead to the end
abbrev pub LeastErasesIn : Type 0
LeastErasesIn = BothHaltIn least least [] (record { left = 2; right = 3; steps = 2; output = 3 }) 2 2 []
    × EndsIn least least [] (record { left = 2; right = 3; steps = 2; output = 3 }) 26 (erasing_end least []) Finished

-- A machine that adds one to a binary number k times, one round after another. It is this project's own example of a
-- machine in standard form.
use Rattle.std.specs.Prelude.{ℕ, zero, suc, ◌+◌, ◌*◌, ◌-◌, ◌≤◌, ◌++◌, ◌∷◌, [], List}
use Rattle.bn_machine.specs.Machine.{Program, program_of}
use Rattle.bn_gen.specs.declared.machine.TheConstants.{MOST_INCREMENTS}
use Rattle.bn_machine.specs.declared.quint.Quint.{Quint}
use Rattle.bn_machine.specs.declared.quint.Shift.{Shift}
use Rattle.bn_machine.specs.declared.quint.Shift.TheVariants.{Left, Stay, Right}

-- there is at least one round, and there are at most `MOST_INCREMENTS`
pub record IsRoundCount (k : ℕ) : Type 0 where
  pub some : 1 ≤ k
  pub few : k ≤ MOST_INCREMENTS

-- the symbols by number: the blank, the digit 0, the digit 1
abbrev pub blank_digit : ℕ
blank_digit = 0

abbrev pub digit_0 : ℕ
digit_0 = 1

abbrev pub digit_1 : ℕ
digit_1 = 2

-- The states by first appearance: the start; in each round, counted from 1, the one that goes right to the end of the
-- number, the one that adds one and carries, the one that goes left over the rest; after k rounds the final state.
abbrev pub increment_start : ℕ
increment_start = 0

abbrev pub right_going : ℕ → ℕ
right_going round = 3 * round - 2

abbrev pub carries : ℕ → ℕ
carries round = 3 * round - 1

abbrev pub left_going : ℕ → ℕ
left_going round = 3 * round

abbrev pub final : ℕ → ℕ
final k = 3 * k + 1

-- a quintuple: state, scanned symbol, written symbol, shift, next state
abbrev pub increment_rule : ℕ → ℕ → ℕ → Shift → ℕ → Quint
increment_rule state read write shift next =
    record { state = state; read = read; write = write; shift = shift; next = next }

-- the nine quintuples of a round; the last, at the blank before the number, shifts by `shift` and leads to `next`
abbrev pub round : ℕ → Shift → ℕ → List Quint
round i shift next =
    increment_rule (right_going i) digit_0 digit_0 Right (right_going i)
    ∷ increment_rule (right_going i) digit_1 digit_1 Right (right_going i)
    ∷ increment_rule (right_going i) blank_digit blank_digit Left (carries i)
    ∷ increment_rule (carries i) digit_1 digit_0 Left (carries i)
    ∷ increment_rule (carries i) digit_0 digit_1 Left (left_going i)
    ∷ increment_rule (carries i) blank_digit digit_1 Left (left_going i)
    ∷ increment_rule (left_going i) digit_0 digit_0 Left (left_going i)
    ∷ increment_rule (left_going i) digit_1 digit_1 Left (left_going i)
    ∷ increment_rule (left_going i) blank_digit blank_digit shift next
    ∷ []

-- the first n rounds, each of which ends with a step onto the number for the next round
abbrev pub rounds : ℕ → List Quint
rounds zero = []
rounds (suc n) = rounds n ++ round (suc n) Right (right_going (suc n + 1))

-- the whole list: a step onto the number, k - 1 rounds that lead to the next, and the last round, whose last
-- quintuple does not shift
abbrev pub quints_of : ℕ → List Quint
quints_of k = increment_rule increment_start blank_digit blank_digit Right (right_going 1) ∷ (rounds (k - 1)
    ++ round k Stay (final k))

-- the machine
abbrev pub incrementer : ℕ → Program
incrementer k = program_of (quints_of k) (3 * k + 2) 3

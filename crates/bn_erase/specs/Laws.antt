-- The statements of this crate's laws, each a field of `Laws`.
use Rattle.std.specs.Prelude.{◌≡◌, ◌↔◌, ℕ, ◌+◌, ◌*◌, List, length}
use Rattle.bn_lists.specs.Runs.{Reaches}
use Rattle.bn_machine.specs.Machine.{Program}
use Rattle.bn_machine.specs.Tape.{word_tape, blank_tape}
use Rattle.bn_quad.specs.Quadruples.{Configuration, QuadruplesRunTo, everywhere, final_state_of, initial_of}
use Rattle.bn_quad.specs.Calls.{IsUniformMachine}
use Rattle.bn_qtable.specs.Named.{HasNames}
use Rattle.bn_machine.specs.Standard.{IsStandard}
use Rattle.bn_machine.specs.Verdict.{IsStandardRefusal}
use Rattle.bn_machine.specs.declared.why.Why.{Why}
use Rattle.bn_lists.specs.Lists.{IsIn}
use Rattle.bn_bennett_laws.specs.Laws.{HaltsAfter}
use Rattle.bn_bennett_laws.specs.Renamed.{KeepsApart}
use Rattle.bn_bennett_laws.specs.Stages.{IsStandardMachine, IsSpelledBy}
use Rattle.bn_table.specs.Rows.{IsTable, Named}
use Rattle.bn_erase_laws.specs.Erasing.{IsWord, erasing_final, erasing_initial}
use Rattle.bn_erase.specs.Joint.{IsAlphabet, IsCode, IsJoint, Joint, joined, joint_letters}
use Rattle.bn_erase.specs.Made.{Erasure, IsErasing, name_of}
use Rattle.bn_erase.specs.Printed.{names_of}
use Rattle.bn_erase.specs.Recoded.{KeepsSymbols, recoded}
use Rattle.bn_erase.specs.declared.erasing.TheConstants.{MOST_QUADRUPLES}
use Rattle.bn_erase.specs.Existence.{ErasingsAreThere}

-- ---- one alphabet

-- if the symbols of a machine in standard form are renumbered, with distinct numbers and the blank unchanged, the
-- result is a machine in standard form
abbrev pub RecodedIsStandard : Type 0
RecodedIsStandard =
    (p : Program) (code : ℕ → ℕ) (symbols : ℕ) → KeepsSymbols code p.symbols symbols → IsStandardMachine p
    → IsStandardMachine (recoded code symbols p)

-- the joined letters of two alphabets form an alphabet in which the first alphabet's symbols keep their numbers and
-- each letter of the second appears
abbrev pub JointAlphabet : Type 0
JointAlphabet =
    (blank : ℕ) (first second : List ℕ) → IsAlphabet blank first → IsAlphabet blank second
    → IsAlphabet blank (joint_letters first second) × IsCode first (joint_letters first second) (λ symbol. symbol)
    × ((letter : ℕ) → IsIn second letter → IsIn (joint_letters first second) letter)

-- a renumbering by letters keeps symbols apart and the blank unchanged
abbrev pub CodesKeepSymbols : Type 0
CodesKeepSymbols =
    (blank : ℕ) (before after : List ℕ) (code : ℕ → ℕ) → IsAlphabet blank before → IsAlphabet blank after
    → IsCode before after code → KeepsSymbols code (length before) (length after)

-- the machines of two tables over one alphabet have the form of tables; each is in standard form exactly if the
-- table's own machine is, and otherwise fails the same requirement with the same quintuples
abbrev pub JoinedAreJudgedAlike : Type 0
JoinedAreJudgedAlike =
    (t u : Named) → IsTable t → IsTable u
    → IsJoint (joined t u)
    × (IsStandard (joined t u).first.quints ↔ IsStandard t.machine.quints)
    × (IsStandard (joined t u).second.quints ↔ IsStandard u.machine.quints)
    × ((why : Why) → IsStandardRefusal (joined t u).first.quints why ↔ IsStandardRefusal t.machine.quints why)
    × ((why : Why) → IsStandardRefusal (joined t u).second.quints why ↔ IsStandardRefusal u.machine.quints why)

-- ---- the erasing machine

-- the erasing machine is deterministic, reversible and uniform; it begins and ends in the states with the list's
-- initial and final names, and no two of its states have the same name
abbrev pub ErasingsAreUniform : Type 0
ErasingsAreUniform =
    (p q : Program) (e : Erasure) → IsStandardMachine p → IsStandardMachine q → IsErasing p q e
    → IsUniformMachine e.machine × (name_of e (initial_of e.machine.rules) ≡ erasing_initial p)
    × (name_of e (final_state_of e.machine.rules) ≡ erasing_final q) × KeepsApart (name_of e) e.machine.rules

-- the start: the initial state, x on tape 1, tapes 2 and 3 blank, all heads at 0; and the end: the final state, tapes 1
-- and 2 blank, y on tape 3, all heads at 0
abbrev pub start_of : Erasure → List ℕ → Configuration ℕ
start_of e x = record {
  state = initial_of e.machine.rules;
  one = word_tape x;
  two = blank_tape;
  three = blank_tape;
}

abbrev pub end_of : Erasure → List ℕ → Configuration ℕ
end_of e y = record {
  state = final_state_of e.machine.rules;
  one = blank_tape;
  two = blank_tape;
  three = word_tape y;
}

-- From x the erasing machine reaches its end with only y left after 4(v + w) + 4(|x| + |y|) + 10 steps, if the first
-- machine halts on x after v steps with the output y and the second halts on y after w steps with the output x.
-- Conversely, each run that reaches its final state is such a run.
abbrev pub ErasingsErase : Type 0
ErasingsErase =
    (p q : Program) (e : Erasure) (x : List ℕ) → IsStandardMachine p → IsStandardMachine q → p.symbols ≡ q.symbols
    → IsErasing p q e → IsSpelledBy p x → IsWord x
    → ((v w : ℕ) (y : List ℕ) → HaltsAfter p x v y → HaltsAfter q y w x
    → Reaches (QuadruplesRunTo everywhere e.machine) (4 * (v + w) + 4 * (length x + length y) + 10) (start_of e x)
    (end_of e y))
    × ((n : ℕ) (c : Configuration ℕ) → Reaches (QuadruplesRunTo everywhere e.machine) n (start_of e x) c
    → c.state ≡ final_state_of e.machine.rules → (v w : ℕ) × (y : List ℕ) × HaltsAfter p x v y × HaltsAfter q y w x
    × (n ≡ 4 * (v + w) + 4 * (length x + length y) + 10) × (c ≡ end_of e y))

-- every state and every symbol has a printed name in the form of its kind
abbrev pub ErasingsHaveNames : Type 0
ErasingsHaveNames =
    (j : Joint) (e : Erasure) → IsJoint j → IsErasing j.first j.second e
    → HasNames e.machine (names_of j e)

-- ---- the laws

pub record Laws : Type 0 where
  -- An erasing machine has at most 20,000 quadruples: the limit `MOST_QUADRUPLES` is 20,000.
  pub most_quadruples_are_stated : MOST_QUADRUPLES ≡ 20000
  -- The joint letters form an alphabet, a renumbering by letters keeps symbols apart, and a machine in standard form
  -- whose symbols are renumbered is in standard form.
  pub machines_share_letters : JointAlphabet × CodesKeepSymbols × RecodedIsStandard
  -- The machines of two tables over one alphabet pass the test of standard form as the tables' own machines do, or
  -- fail the same requirement.
  pub joined_are_judged_alike : JoinedAreJudgedAlike
  -- The erasing machine (Bennett 1973) is deterministic, reversible and uniform.
  pub erasings_are_uniform : ErasingsAreUniform
  -- From x the erasing machine (Bennett 1973) halts exactly if the first machine computes some y from x and the
  -- second computes x from y; then only y is left.
  pub erasings_erase : ErasingsErase
  -- Every state and every symbol of the erasing machine has a printed name in the form of its kind.
  pub erasings_have_names : ErasingsHaveNames
  -- Two machines in standard form that have the form of tables, over one alphabet, have an erasing machine with
  -- numbered states.
  pub erasings_are_there : ErasingsAreThere

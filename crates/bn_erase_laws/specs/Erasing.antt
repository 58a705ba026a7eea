-- The machine that erases its input (Bennett 1973), over the names of its states: the reversible machine for x to y,
-- followed by the inverse of the reversible machine for y to x, with tapes 1 and 3 exchanged.
use Rattle.std.specs.Prelude.{◌≢◌, ℕ, ◌+◌, List, [], ◌∷◌, ◌++◌, length, max, cond, nat_eq, All}
use Rattle.bn_machine.specs.Tape.{word_tape, blank_tape}
use Rattle.bn_machine.specs.Machine.{Program, start_of}
use Rattle.bn_quad.specs.Quadruples.{Rule, Configuration, turned_list, everywhere, Rooms}
use Rattle.bn_bennett_laws.specs.List.{bennett, initial_name, final_name}
use Rattle.bn_bennett_laws.specs.Names.{IsNameOf}
use Rattle.bn_bennett_laws.specs.Renamed.{rename}
use Rattle.bn_bennett_laws.specs.Steps.{Steps}
use Rattle.bn_bennett_laws.specs.declared.name.Name.{Name}
use Rattle.bn_bennett_laws.specs.declared.name.Name.TheVariants.{Compute, ComputeWithin, GoRight, CopyLetter, GoLeft}
use Rattle.bn_bennett_laws.specs.declared.name.Name.TheVariants.{PassLetter, Retrace, RetraceWithin}
use Rattle.bn_erase_laws.specs.Lists.{exchanged_list}
use Rattle.bn_erase_laws.specs.declared.name.ErasingName.{ErasingName}
use Rattle.bn_erase_laws.specs.declared.name.ErasingName.TheVariants.{First, Second}

-- ---- the erasing machine

-- the erasing machine's name for a state of the second machine: the second machine's final state is the first
-- machine's final state
abbrev pub second_name : Program → Program → Name → ErasingName
second_name p q (Compute j) = Second (Compute j)
second_name p q (ComputeWithin m) = Second (ComputeWithin m)
second_name p q GoRight = Second GoRight
second_name p q CopyLetter = Second CopyLetter
second_name p q GoLeft = Second GoLeft
second_name p q PassLetter = Second PassLetter
second_name p q (Retrace j) = cond (nat_eq j (start_of q.quints)) (First (final_name p)) (Second (Retrace j))
second_name p q (RetraceWithin m) = Second (RetraceWithin m)

-- the quadruples of the first machine's reversible machine
unfoldable pub first_half : Program → List (Rule ErasingName)
first_half p = rename First (bennett p)

-- the second machine's reversible machine, inverted; its output tape is the first machine's work tape
abbrev pub backward : Program → List (Rule Name)
backward q = exchanged_list (turned_list (bennett q))

unfoldable pub second_half : Program → Program → List (Rule ErasingName)
second_half p q = rename (second_name p q) (backward q)

-- the erasing machine's list of quadruples
abbrev pub erasing : Program → Program → List (Rule ErasingName)
erasing p q = first_half p ++ second_half p q

-- its initial state, the state in which its halves are joined, and its final state
abbrev pub erasing_initial : Program → ErasingName
erasing_initial p = First (initial_name p)

abbrev pub erasing_middle : Program → ErasingName
erasing_middle p = First (final_name p)

abbrev pub erasing_final : Program → ErasingName
erasing_final q = Second (initial_name q)

-- the number of symbols of each tape, if both machines have the same number of symbols: the history tape has one more
-- than the greater number of quintuples
abbrev pub erasing_symbols : Program → Program → List ℕ
erasing_symbols p q = p.symbols ∷ (max (length p.quints) (length q.quints) + 1) ∷ p.symbols ∷ []

-- a word in which no letter is the blank
abbrev pub IsWord : List ℕ → Type 0
IsWord word = All (λ s. s ≢ 0) word

-- the start: x on tape 1, the others blank, all heads at 0
abbrev pub erasing_start : Program → List ℕ → Configuration ErasingName
erasing_start p x = record { state = erasing_initial p; one = word_tape x; two = blank_tape; three = blank_tape }

-- the end: only y, on tape 3, all heads at 0
abbrev pub erasing_end : Program → List ℕ → Configuration ErasingName
erasing_end q y = record { state = erasing_final q; one = blank_tape; two = blank_tape; three = word_tape y }

-- a step of the erasing machine, on infinite tapes
abbrev pub ErasingSteps : Program → Program → Configuration ErasingName → Configuration ErasingName → Type 0
ErasingSteps p q c d = Steps everywhere (erasing p q) (erasing_final q) c d

-- a step of the second machine's reversible machine backward, before its tapes are exchanged
abbrev pub StepsBackOf : Program → Rooms → Configuration Name → Configuration Name → Type 0
StepsBackOf q rooms c d = Steps rooms (turned_list (bennett q)) (initial_name q) c d

-- the names of the states in the list
abbrev pub IsErasingName : Program → Program → ErasingName → Type 0
IsErasingName p q (First name) = IsNameOf p name
IsErasingName p q (Second name) = IsNameOf q name × (name ≢ final_name q)

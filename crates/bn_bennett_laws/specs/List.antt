-- The list of quadruples of Bennett's reversible machine (Bennett 1973), over the names of its states. Tape 1 is the
-- work tape, tape 2 the history, tape 3 the output. Symbol 0 of each tape is its blank; history symbol m is the
-- number of quintuple m, counted from 1.
use Rattle.std.specs.Prelude.{ℕ, ◌+◌, ◌-◌, List, [], ◌∷◌, ◌++◌, length, map, reverse}
use Rattle.std.specs.List.{flat_map, enumerate_from, range_with_len}
use Rattle.bn_machine.specs.Tape.{opposite}
use Rattle.bn_machine.specs.Machine.{Program, start_of, final_of}
use Rattle.bn_machine.specs.declared.quint.Quint.{Quint}
use Rattle.bn_machine.specs.declared.quint.Shift.TheVariants.{Left, Stay, Right}
use Rattle.bn_quad.specs.Quadruples.{Deed, Rewrite, Move, Rule}
use Rattle.bn_bennett_laws.specs.declared.name.Name.{Name}
use Rattle.bn_bennett_laws.specs.declared.name.Name.TheVariants.{Compute, ComputeWithin, GoRight, CopyLetter, GoLeft}
use Rattle.bn_bennett_laws.specs.declared.name.Name.TheVariants.{PassLetter, Retrace, RetraceWithin}

-- a quadruple (`Rule`): the state that it leaves, its deeds on tapes 1, 2 and 3, and the state to which it leads
abbrev pub tape_rule : Name → Deed → Deed → Deed → Name → Rule Name
tape_rule from one two three to = record { from = from; one = one; two = two; three = three; to = to }

-- reads this symbol and writes it again
abbrev pub keep : ℕ → Deed
keep s = Rewrite s s

-- reads nothing, and leaves the head where it is
abbrev pub rest : Deed
rest = Move Stay

-- ---- each kind of quadruple

-- Quintuple m in compute: the first quadruple rewrites the symbol and moves the history's head to the next blank; the
-- second shifts the work tape's head and writes m into the history.
abbrev pub writes_ahead : ℕ → Quint → Rule Name
writes_ahead m q = tape_rule (Compute q.state) (Rewrite q.read q.write) (Move Right) (keep 0) (ComputeWithin m)

abbrev pub shifts_ahead : ℕ → Quint → Rule Name
shifts_ahead m q = tape_rule (ComputeWithin m) (Move q.shift) (Rewrite 0 m) rest (Compute q.next)

-- Copying begins in the final state, when the history ends with n, the number of the last quintuple.
abbrev pub begins_copy : ℕ → ℕ → Rule Name
begins_copy final n = tape_rule (Compute final) (keep 0) (keep n) (keep 0) GoRight

-- the heads of the work tape and the output tape go right; each letter is copied there, until the heads turn at the
-- blank
abbrev pub goes_right : Rule Name
goes_right = tape_rule GoRight (Move Right) rest (Move Right) CopyLetter

abbrev pub copies_letter : ℕ → ℕ → Rule Name
copies_letter n x = tape_rule CopyLetter (keep x) (keep n) (Rewrite 0 x) GoRight

abbrev pub turns_left : ℕ → Rule Name
turns_left n = tape_rule CopyLetter (keep 0) (keep n) (keep 0) GoLeft

-- both heads go left; each letter is passed there, until copying ends at the blank
abbrev pub goes_left : Rule Name
goes_left = tape_rule GoLeft (Move Left) rest (Move Left) PassLetter

abbrev pub passes_letter : ℕ → ℕ → Rule Name
passes_letter n x = tape_rule PassLetter (keep x) (keep n) (keep x) GoLeft

abbrev pub ends_copy : ℕ → ℕ → Rule Name
ends_copy final n = tape_rule PassLetter (keep 0) (keep n) (keep 0) (Retrace final)

-- Quintuple m in retrace: the first quadruple shifts the work tape's head back and erases m from the history; the
-- second restores the symbol and moves the history's head left.
abbrev pub shifts_back : ℕ → Quint → Rule Name
shifts_back m q = tape_rule (Retrace q.next) (Move (opposite q.shift)) (Rewrite m 0) rest (RetraceWithin m)

abbrev pub writes_back : ℕ → Quint → Rule Name
writes_back m q = tape_rule (RetraceWithin m) (Rewrite q.write q.read) (Move Left) (keep 0) (Retrace q.state)

-- ---- the list

-- the quintuples with their numbers, counted from 1
abbrev pub numbered_quints : List Quint → List (ℕ × Quint)
numbered_quints qs = enumerate_from 1 qs

-- the symbols from 1 to z - 1: all but the blank
abbrev pub nonblank_symbols : ℕ → List ℕ
nonblank_symbols z = range_with_len 1 (z - 1)

abbrev pub compute_pair : ℕ × Quint → List (Rule Name)
compute_pair e = writes_ahead e.0 e.1 ∷ shifts_ahead e.0 e.1 ∷ []

abbrev pub retrace_pair : ℕ × Quint → List (Rule Name)
retrace_pair e = shifts_back e.0 e.1 ∷ writes_back e.0 e.1 ∷ []

abbrev pub compute_rules : List Quint → List (Rule Name)
compute_rules qs = flat_map compute_pair (numbered_quints qs)

abbrev pub copy_rules : ℕ → ℕ → ℕ → List (Rule Name)
copy_rules final n z =
    (begins_copy final n ∷ goes_right ∷ [])
    ++ map (copies_letter n) (nonblank_symbols z)
    ++ (turns_left n ∷ goes_left ∷ [])
    ++ map (passes_letter n) (nonblank_symbols z)
    ++ (ends_copy final n ∷ [])

abbrev pub retrace_rules : List Quint → List (Rule Name)
retrace_rules qs = flat_map retrace_pair (reverse (numbered_quints qs))

-- Bennett's list for a machine in standard form: compute, copy, retrace
unfoldable pub bennett : Program → List (Rule Name)
bennett p = compute_rules p.quints ++ copy_rules (final_of p.quints) (length p.quints) p.symbols
    ++ retrace_rules p.quints

-- the list's initial state, which its first quadruple leaves, and its final state, to which its last quadruple leads
abbrev pub initial_name : Program → Name
initial_name p = Compute (start_of p.quints)

abbrev pub final_name : Program → Name
final_name p = Retrace (start_of p.quints)

-- the number of symbols of each tape, tape 1 first
abbrev pub symbols_of : Program → List ℕ
symbols_of p = p.symbols ∷ (length p.quints + 1) ∷ p.symbols ∷ []

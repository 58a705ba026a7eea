-- The first command of a state of the machine is a command to a tape.
use Rattle.std.specs.Prelude.{◌≡◌, ◌≢◌, ℕ, ◌+◌, ◌<◌, ◌≤◌, List, [], ◌∷◌, length, All, Some, refl}
use Rattle.std.proofs.Common.{zero, suc, arith, sym, ap, subst}
use Rattle.std.proofs.lemmas.List.Elements.{All-tail}
use Rattle.std.proofs.lemmas.Option.{slice_get_within, get_or_from_slice_get}
use Rattle.bn_lists.specs.Lists.{nth}
use Rattle.bn_machine.specs.declared.quint.Shift.TheVariants as way
use Rattle.bn_machine.specs.declared.quint.Side.{Side}
use Rattle.bn_machine.specs.declared.quint.Side.TheVariants as side
use Rattle.bn_quad.specs.Quadruples.{Deed, Rewrite, Move, Rule, deeds_of, Quadruples, final_state_of, IsQuadMachine}
use Rattle.bn_quad.specs.Quadruples.{IsRuleInRange}
use Rattle.bn_network.specs.declared.cell_line.CellLine.{CellLine}
use Rattle.bn_network.specs.declared.cell_line.CellLine.TheVariants.{Read, Write, ShiftRight, ShiftLeft, TakeRight}
use Rattle.bn_network.specs.declared.cell_line.CellLine.TheVariants.{Answer, DoneWrite, DoneRight, DoneLeft, TakeLeft}
use Rattle.bn_network.specs.Cells.{line_number, IsLineOf}
use Rattle.bn_network.specs.Controls.{ControlMove, Tape as to_tape, reads, shifts, reads_of, shifts_of, shift_line}
use Rattle.bn_network.specs.Controls.{IsFirstOf, IsEntry, finishes, leaves, waits, symbol_count, command_offset}
use Rattle.bn_network.specs.Networks.{IsTape, IsCommand}

-- a command's place among the control's lines to its tape is its line's number in the cell
pub command_number : (z : ℕ) (c : CellLine) → IsCommand c → IsLineOf z c
    → (command_offset z c ≡ line_number z c) × (line_number z c < z + 3)
command_number z Read command line = (refl, omega arith)
command_number z (Write u) command line = (refl, omega arith)
command_number z ShiftRight command line = (refl, omega arith)
command_number z ShiftLeft command line = (refl, omega arith)
command_number z TakeRight command line = absurd command
command_number z (Answer u) command line = absurd command
command_number z DoneWrite command line = absurd command
command_number z DoneRight command line = absurd command
command_number z DoneLeft command line = absurd command
command_number z TakeLeft command line = absurd command

-- the first of the reads, and of the shifts, is on one of the tapes
reads_first : (t : ℕ) (ds : List Deed) (p : ℕ × ℕ) (rest : List (ℕ × ℕ)) → reads t ds ≡ p ∷ rest
    → (t ≤ p.0) × (p.0 < t + length ds)
reads_first t [] p rest h = absurd (cc)
reads_first t (Rewrite a b ∷ ds) p rest h = let same : ◌≡◌ {A = ℕ × ℕ} (t, a) p = cc in let first : t ≡ p.0 =
    ap (λ (q : ℕ
    × ℕ). q.0) same in (omega arith, omega arith)
reads_first t (Move s ∷ ds) p rest h = let more = reads_first (suc t) ds p rest h in
    (omega (arith, more.0), omega (arith, more.1))

-- the first of the shifts, likewise
shifts_first : (t : ℕ) (ds : List Deed) (p : ℕ × Side) (rest : List (ℕ × Side)) → shifts t ds ≡ p ∷ rest
    → (t ≤ p.0) × (p.0 < t + length ds)
shifts_first t [] p rest h = absurd (cc)
shifts_first t (Rewrite a b ∷ ds) p rest h = let more = shifts_first (suc t) ds p rest h in
    (omega (arith, more.0), omega (arith, more.1))
shifts_first t (Move way.Left ∷ ds) p rest h = let same : ◌≡◌ {A = ℕ × Side} (t, side.Left) p =
    cc in let first : t ≡ p.0 = ap (λ (q : ℕ
    × Side). q.0) same in (omega arith, omega arith)
shifts_first t (Move way.Stay ∷ ds) p rest h = let more = shifts_first (suc t) ds p rest h in
    (omega (arith, more.0), omega (arith, more.1))
shifts_first t (Move way.Right ∷ ds) p rest h = let same : ◌≡◌ {A = ℕ × Side} (t, side.Right) p =
    cc in let first : t ≡ p.0 = ap (λ (q : ℕ
    × Side). q.0) same in (omega arith, omega arith)

-- the move gives a command to a tape
pub record IsCommandMove (m : Quadruples) (k : ControlMove) : Type 0 where
  pub tape : ℕ
  pub line : CellLine
  pub is_tape : IsTape tape
  pub command : IsCommand line
  pub in_range : IsLineOf (symbol_count m tape) line
  pub is : k.1 ≡ to_tape tape line

-- a shift is a command
shift-IsCommand : (s : Side) → IsCommand (shift_line s)
shift-IsCommand side.Left = tt
shift-IsCommand side.Right = tt

shift-IsLineOf : (z : ℕ) (s : Side) → IsLineOf z (shift_line s)
shift-IsLineOf z side.Left = tt
shift-IsLineOf z side.Right = tt

module _ (m : Quadruples) where
  -- by the lists of reads and shifts
  by_lists : (n : ℕ) (r : Rule ℕ) (xs : List (ℕ × ℕ)) (ys : List (ℕ × Side)) (k : ControlMove) → reads_of r ≡ xs
      → shifts_of r ≡ ys → IsFirstOf n r xs ys k
      → IsCommandMove m k
  by_lists n r [] [] k a b h = absurd h
  by_lists n r [] (p ∷ rest) k a b h =
      let place = shifts_first 1 (deeds_of r) p rest b in
      record {
        tape = p.0;
        line = shift_line p.1;
        is_tape = record { low = omega (arith, place.0); high = omega (arith, place.1) };
        command = shift-IsCommand p.1;
        in_range = shift-IsLineOf (symbol_count m p.0) p.1;
        is = ap (λ (j : ControlMove). j.1) h;
      }
  by_lists n r (p ∷ rest) ys k a b h =
      let place = reads_first 1 (deeds_of r) p rest a in
      record {
        tape = p.0;
        line = Read;
        is_tape = record {
          low = omega (arith, place.0);
          high = omega (arith, place.1);
        };
        command = tt;
        in_range = tt;
        is = ap (λ (j : ControlMove). j.1) h;
      }

  -- the first command of a state that is not the final one
  pub entry-IsCommandMove : (a : ℕ) (k : ControlMove) → a ≢ final_state_of m.rules → IsEntry m a k → IsCommandMove m k
  entry-IsCommandMove a k going (finishes is move) = absurd (going is)
  entry-IsCommandMove a k going (leaves n r stands from first) =
      by_lists n r (reads_of r) (shifts_of r) k refl refl first
  entry-IsCommandMove a k going (waits apart low none move) =
      record {
        tape = 1;
        line = Read;
        is_tape = record { low = omega arith; high = omega arith };
        command = tt;
        in_range = tt;
        is = ap (λ (j : ControlMove). j.1) move;
      }

-- what holds of each quadruple of a list
nth_all : {X : Type 0} (P : X → Type 0) (xs : List X) (n : ℕ) (x : X) → All P xs → nth xs n ≡ Some x → P x
nth_all P xs zero x all h = absurd (cc)
nth_all P xs (suc i) x all h = subst P (get_or_from_slice_get xs i x x h) (all i x (slice_get_within xs i x h))

-- the final state is in range
final_within : (states : ℕ) (symbols : List ℕ) (rs : List (Rule ℕ)) → 0 < length rs
    → All (IsRuleInRange states symbols) rs → final_state_of rs < states
final_within states symbols [] some all = absurd (omega arith)
final_within states symbols (r ∷ []) some all = (all 0 r (omega arith)).to
final_within states symbols (r ∷ s ∷ rs) some all = final_within states symbols (s ∷ rs) (omega arith)
    (All-tail (IsRuleInRange states symbols) r (s ∷ rs) all)

module _ (m : Quadruples) (quad : IsQuadMachine m) where
  -- the final state is one of the machine
  pub final_low : final_state_of m.rules < m.states
  final_low = final_within m.states m.symbols m.rules quad.some quad.in_range

  -- a state with a first command is one of the machine's
  pub entry_low : (a : ℕ) (k : ControlMove) → IsEntry m a k → a < m.states
  entry_low a k (finishes is move) = subst (λ x. x < m.states) (sym is) final_low
  entry_low a k (leaves n r stands from first) = subst (λ x. x < m.states) from
      (nth_all (IsRuleInRange m.states m.symbols) m.rules n r quad.in_range stands).from
  entry_low a k (waits apart low none move) = low

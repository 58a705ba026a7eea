-- The tapes obey the commands of a quadruple that applies.
use Rattle.std.specs.Prelude.{◌≡◌, ℕ, ◌+◌, ◌*◌, ◌<◌, ◌≤◌, List, [], ◌∷◌, ◌++◌, reverse, refl, ⊤}
use Rattle.std.proofs.Common.{suc, arith, sym, ap, subst}
use Rattle.bn_machine.specs.Tape.{Tape, scanned, write, shift, moved}
use Rattle.bn_machine.proofs.TapeLemmas.{set_cell-set_cell, at_set_cell}
use Rattle.bn_machine.specs.Window.{IsBetween}
use Rattle.bn_machine.specs.Outcome.{Limits}
use Rattle.bn_machine.specs.declared.quint.Shift.TheVariants as way
use Rattle.bn_quad.specs.Quadruples.{Deed, Rewrite, Move, Rule, Configuration, Quadruples, DeedApplies, done}
use Rattle.bn_network.specs.declared.cell_line.CellLine.TheVariants.{Answer}
use Rattle.bn_network.specs.Controls.{symbol_count, reads, shifts, rising, reads_of, shifts_of, writes_of}
use Rattle.bn_network.specs.Networks.{IsTape, left_of}
use Rattle.bn_network.specs.Moments.{deed_moves, shift_moves, quad_moves}
use Rattle.bn_network_laws.specs.Commands.{does_read, does_write, does_right, does_left, head_of, right_of}
use Rattle.bn_network_laws.specs.Ends.{tape_of, put_tape, read_by, shift_by}
use Rattle.bn_network_laws.proofs.ShownLemmas.{same_tape}
use Rattle.bn_network_laws.proofs.ChainLemmas.{Stop, AllDo}
use Rattle.bn_network_laws.proofs.StopLemmas.{write_stops, shift_stops, read_stops, stops_of}

-- ---- what a deed does to its tape in each of the three parts

-- the tape after its write
abbrev pub write_by : Deed → Tape → Tape
write_by (Rewrite read written) x = write x written
write_by (Move s) x = x

-- moves of a read, or of a write
abbrev pub read_moves : ℕ → Deed → ℕ
read_moves h (Rewrite read written) = 2 * h + 2
read_moves h (Move s) = 0

-- moves of a shift
abbrev pub turn_moves : ℕ → Deed → ℕ
turn_moves h (Rewrite read written) = 0
turn_moves h (Move s) = shift_moves h s

-- a deed's write
abbrev pub write_at : ℕ → Deed → List (ℕ × ℕ)
write_at t (Rewrite read written) = (t, written) ∷ []
write_at t (Move s) = []

-- the three parts are the deed
pub all_parts : (d : Deed) (x : Tape) → write_by d (shift_by d (read_by d x)) ≡ done d x
all_parts (Rewrite read written) x = let e = set_cell-set_cell x.cells x.head 0 written in λ i. record
    { cells = e i; head = x.head }
all_parts (Move s) x = refl

-- and their moves are its moves
pub all_moves : (l : Limits) (t : ℕ) (d : Deed) (x : Tape)
    → read_moves (head_of l t x) d + (turn_moves (head_of l t (read_by d x)) d
    + read_moves (head_of l t (shift_by d (read_by d x))) d) ≡ deed_moves (head_of l t x) d
all_moves l t (Rewrite read written) x = omega arith
all_moves l t (Move s) x = omega arith

-- where the deed's shift leads is in the window
abbrev pub Fits : Limits → ℕ → Deed → Tape → Type 0
Fits l t (Rewrite read written) x = ⊤
Fits l t (Move s) x = IsBetween (left_of l t) (right_of l t) (moved x.head s)

-- its written symbol is one of the tape's, and the head scans a blank
abbrev pub MayWrite : Quadruples → ℕ → Deed → Tape → Type 0
MayWrite m t (Rewrite read written) x = (written < symbol_count m t) × (scanned x ≡ 0)
MayWrite m t (Move s) x = ⊤

module _ (m : Quadruples) (l : Limits) where
  -- no stop at an unread tape: all stays
  unmoved : (xs : List Stop) (c f : Configuration ℕ) (t j n : ℕ) → n ≡ j → AllDo m l xs (put_tape c t (tape_of c t)) f j
      → AllDo m l xs c f n
  unmoved xs c f t j n count obey = subst (λ i. AllDo m l xs c f i) (sym count)
      (subst (λ (x : Configuration ℕ). AllDo m l xs x f j) (same_tape c t) obey)

  -- one deed's reading, and then the rest
  pub obey_read : (a : ℕ) (before : List (ℕ × ℕ)) (after : List Stop) (d : Deed) (ds : List Deed) (t : ℕ)
      (c f : Configuration ℕ) (j : ℕ) → IsTape t
      → DeedApplies d (tape_of c t)
      → ((b : List (ℕ × ℕ)) → AllDo m l (read_stops a b (reads (suc t) ds) after)
      (put_tape c t (read_by d (tape_of c t))) f j)
      → AllDo m l (read_stops a before (reads t (d ∷ ds)) after) c f (read_moves (head_of l t (tape_of c t)) d + j)
  obey_read a before after (Rewrite read written) ds t c f j is admits rest = (
    write (tape_of c t) 0,
    2 * head_of l t (tape_of c t) + 1,
    j,
    is,
    does_read refl (ap Answer (sym admits)) refl refl,
    omega arith,
    rest (before ++ ((t, read) ∷ [])),
  )
  obey_read a before after (Move s) ds t c f j is admits rest =
      unmoved (read_stops a before (reads (suc t) ds) after) c f t j (0 + j) (omega arith) (rest before)

  -- one deed's shift
  pub obey_shift : (n : ℕ) (after : List Stop) (d : Deed) (ds : List Deed) (t : ℕ) (c f : Configuration ℕ) (j : ℕ)
      → IsTape t → Fits l t d (tape_of c t)
      → AllDo m l (shift_stops n (shifts (suc t) ds) after) (put_tape c t (shift_by d (tape_of c t))) f j
      → AllDo m l (shift_stops n (shifts t (d ∷ ds)) after) c f (turn_moves (head_of l t (tape_of c t)) d + j)
  obey_shift n after (Rewrite read written) ds t c f j is fits rest =
      unmoved (shift_stops n (shifts (suc t) ds) after) c f t j (0 + j) (omega arith) rest
  obey_shift n after (Move way.Left) ds t c f j is fits rest = (
    shift (tape_of c t) way.Left,
    2 * head_of l t (tape_of c t) + 1,
    j,
    is,
    does_left fits refl refl refl refl,
    omega arith,
    rest,
  )
  obey_shift n after (Move way.Stay) ds t c f j is fits rest =
      unmoved (shift_stops n (shifts (suc t) ds) after) c f t j (0 + j) (omega arith) rest
  obey_shift n after (Move way.Right) ds t c f j is fits rest = (
    shift (tape_of c t) way.Right,
    2 * head_of l t (tape_of c t) + 3,
    j,
    is,
    does_right fits refl refl refl refl,
    omega arith,
    rest,
  )

  -- one deed's writing
  pub obey_write : (a : ℕ) (d : Deed) (ws : List (ℕ × ℕ)) (t : ℕ) (c f : Configuration ℕ) (j : ℕ) → IsTape t
      → MayWrite m t d (tape_of c t)
      → AllDo m l (write_stops a ws) (put_tape c t (write_by d (tape_of c t))) f j
      → AllDo m l (write_stops a (write_at t d ++ ws)) c f (read_moves (head_of l t (tape_of c t)) d + j)
  obey_write a (Rewrite read written) ws t c f j is may rest = (
    write (tape_of c t) written,
    2 * head_of l t (tape_of c t) + 1,
    j,
    is,
    does_write written may.0 may.1 refl refl refl refl,
    omega arith,
    rest,
  )
  obey_write a (Move s) ws t c f j is may rest = unmoved (write_stops a ws) c f t j (0 + j) (omega arith) rest

-- the writes, by falling tape
by_falling : (one two three : Deed) → reverse (rising 1 (one ∷ two ∷ three ∷ []))
    ≡ write_at 3 three ++ (write_at 2 two ++ (write_at 1 one ++ []))
by_falling (Rewrite a b) (Rewrite c d) (Rewrite e f) = refl
by_falling (Rewrite a b) (Rewrite c d) (Move s) = refl
by_falling (Rewrite a b) (Move s) (Rewrite e f) = refl
by_falling (Rewrite a b) (Move s) (Move u) = refl
by_falling (Move s) (Rewrite c d) (Rewrite e f) = refl
by_falling (Move s) (Rewrite c d) (Move u) = refl
by_falling (Move s) (Move u) (Rewrite e f) = refl
by_falling (Move s) (Move u) (Move v) = refl

-- what was read is blank
pub blanked : (x : Tape) → scanned (write x 0) ≡ 0
blanked x = at_set_cell x.cells x.head 0

-- the three tapes
tape_is : (t : ℕ) → 0 < t → t ≤ 3 → IsTape t
tape_is t low high = record { low = low; high = high }

module _ (m : Quadruples) (l : Limits) (n : ℕ) (r : Rule ℕ) where
  -- what is known of each tape
  pub record Applies (c : Configuration ℕ) (t : ℕ) (d : Deed) : Type 0 where
    pub admits : DeedApplies d (tape_of c t)
    pub fits : Fits l t d (read_by d (tape_of c t))
    pub may : MayWrite m t d (shift_by d (read_by d (tape_of c t)))

  -- the tapes after all reads
  abbrev pub after_reads : Configuration ℕ → Configuration ℕ
  after_reads c = record {
    state = c.state;
    one = read_by r.one c.one;
    two = read_by r.two c.two;
    three = read_by r.three c.three;
  }

  -- after all shifts
  abbrev after_shifts : Configuration ℕ → Configuration ℕ
  after_shifts c = record {
    state = c.state;
    one = shift_by r.one (read_by r.one c.one);
    two = shift_by r.two (read_by r.two c.two);
    three = shift_by r.three (read_by r.three c.three);
  }

  -- after all writes
  abbrev pub after_writes : Configuration ℕ → Configuration ℕ
  after_writes c = record {
    state = c.state;
    one = write_by r.one (shift_by r.one (read_by r.one c.one));
    two = write_by r.two (shift_by r.two (read_by r.two c.two));
    three = write_by r.three (shift_by r.three (read_by r.three c.three));
  }

  -- moves of all reads
  abbrev part_reads : Configuration ℕ → ℕ → ℕ
  part_reads c j = read_moves (head_of l 1 c.one) r.one + (read_moves (head_of l 2 c.two) r.two
      + (read_moves (head_of l 3 c.three) r.three + j))

  -- of all shifts
  abbrev part_shifts : Configuration ℕ → ℕ → ℕ
  part_shifts c j = turn_moves (head_of l 1 c.one) r.one + (turn_moves (head_of l 2 c.two) r.two
      + (turn_moves (head_of l 3 c.three) r.three + j))

  -- of all writes
  abbrev part_writes : Configuration ℕ → ℕ → ℕ
  part_writes c j = read_moves (head_of l 3 c.three) r.three + (read_moves (head_of l 2 c.two) r.two
      + (read_moves (head_of l 1 c.one) r.one + j))

  -- the three writes, by falling tape
  pub obey_writes : (c : Configuration ℕ) → MayWrite m 1 r.one c.one → MayWrite m 2 r.two c.two
      → MayWrite m 3 r.three c.three
      → AllDo m l (write_stops r.to (writes_of r)) c (record {
        state = c.state;
        one = write_by r.one c.one;
        two = write_by r.two c.two;
        three = write_by r.three c.three;
      }) (part_writes c 0)
  obey_writes c a b d =
      let f : Configuration ℕ = record {
        state = c.state;
        one = write_by r.one c.one;
        two = write_by r.two c.two;
        three = write_by r.three c.three;
      } in
      let three = tape_is 3 (omega arith) (omega arith) in
      let two = tape_is 2 (omega arith) (omega arith) in
      let one = tape_is 1 (omega arith) (omega arith) in
      let c3 : Configuration ℕ = put_tape c 3 (write_by r.three c.three) in
      let c2 : Configuration ℕ = put_tape c3 2 (write_by r.two c.two) in
      let first = obey_write m l r.to r.one [] 1 c2 f 0 one a (refl, refl) in
      let second = obey_write m l r.to r.two (write_at 1 r.one ++ []) 2 c3 f (read_moves (head_of l 1 c.one) r.one + 0)
      two b first in
      let third = obey_write m l r.to r.three (write_at 2 r.two ++ (write_at 1 r.one ++ [])) 3 c f
      (read_moves (head_of l 2 c.two) r.two + (read_moves (head_of l 1 c.one) r.one + 0)) three d second in
      subst (λ ws. AllDo m l (write_stops r.to ws) c f (part_writes c 0)) (sym (by_falling r.one r.two r.three)) third

  -- the three shifts, by rising tape
  pub obey_shifts : (c f : Configuration ℕ) (after : List Stop) (j : ℕ) → Fits l 1 r.one c.one → Fits l 2 r.two c.two
      → Fits l 3 r.three c.three
      → AllDo m l after (record {
        state = c.state;
        one = shift_by r.one c.one;
        two = shift_by r.two c.two;
        three = shift_by r.three c.three;
      }) f j
      → AllDo m l (shift_stops n (shifts_of r) after) c f (part_shifts c j)
  obey_shifts c f after j a b d rest =
      let three = tape_is 3 (omega arith) (omega arith) in
      let two = tape_is 2 (omega arith) (omega arith) in
      let one = tape_is 1 (omega arith) (omega arith) in
      let c1 : Configuration ℕ = put_tape c 1 (shift_by r.one c.one) in
      let c2 : Configuration ℕ = put_tape c1 2 (shift_by r.two c.two) in
      let third = obey_shift m l n after r.three [] 3 c2 f j three d rest in
      let second = obey_shift m l n after r.two (r.three ∷ []) 2 c1 f (turn_moves (head_of l 3 c.three) r.three + j) two
      b third in
      obey_shift m l n after r.one (r.two ∷ r.three ∷ []) 1 c f
      (turn_moves (head_of l 2 c.two) r.two + (turn_moves (head_of l 3 c.three) r.three + j)) one a second

  -- the three reads, by rising tape
  pub obey_reads : (c f : Configuration ℕ) (after : List Stop) (j : ℕ) → DeedApplies r.one c.one
      → DeedApplies r.two c.two → DeedApplies r.three c.three
      → AllDo m l after (after_reads c) f j → AllDo m l (read_stops r.from [] (reads_of r) after) c f (part_reads c j)
  obey_reads c f after j a b d rest =
      let three = tape_is 3 (omega arith) (omega arith) in
      let two = tape_is 2 (omega arith) (omega arith) in
      let one = tape_is 1 (omega arith) (omega arith) in
      let c1 : Configuration ℕ = put_tape c 1 (read_by r.one c.one) in
      let c2 : Configuration ℕ = put_tape c1 2 (read_by r.two c.two) in
      obey_read m l r.from [] after r.one (r.two ∷ r.three ∷ []) 1 c f
      (read_moves (head_of l 2 c.two) r.two + (read_moves (head_of l 3 c.three) r.three + j)) one a
      (λ before. obey_read m l r.from before after r.two (r.three ∷ []) 2 c1 f
      (read_moves (head_of l 3 c.three) r.three + j) two b
      (λ before. obey_read m l r.from before after r.three [] 3 c2 f j three d (λ before. rest)))

  -- the whole quadruple, in its own moves
  pub obey_all : (c : Configuration ℕ) → Applies c 1 r.one → Applies c 2 r.two → Applies c 3 r.three
      → AllDo m l (stops_of n r) c (after_writes c) (quad_moves l r c)
  obey_all c a b d =
      let w = after_shifts c in
      let writes = obey_writes w a.may b.may d.may in
      let turns = obey_shifts (after_reads c) (after_writes c) (write_stops r.to (writes_of r)) (part_writes w 0) a.fits
      b.fits d.fits writes in
      let all = obey_reads c (after_writes c) (shift_stops n (shifts_of r) (write_stops r.to (writes_of r)))
      (part_shifts (after_reads c) (part_writes w 0)) a.admits b.admits d.admits turns in
      let one = all_moves l 1 r.one c.one in
      let two = all_moves l 2 r.two c.two in
      let three = all_moves l 3 r.three c.three in
      subst (λ j. AllDo m l (stops_of n r) c (after_writes c) j) (sums _ _ _ _ _ _ _ _ _ _ _ _ one two three) all
    where
      sums : (a b c d e f g h i x y z : ℕ) → a + (d + g) ≡ x → b + (e + h) ≡ y → c + (f + i) ≡ z
          → a + (b + (c + (d + (e + (f + (i + (h + (g + 0)))))))) ≡ x + y + z
      sums a b c d e f g h i x y z p q r = omega arith

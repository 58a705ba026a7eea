-- The first shift that leaves the window.
use Rattle.std.specs.Prelude.{◌≡◌, ℕ, ◌+◌, ◌<◌, ◌≤◌, List, [], ◌∷◌, ◌++◌, length, refl}
use Rattle.std.proofs.Common.{suc, arith, sym, ap, subst, ◌∙◌}
use Rattle.std.proofs.lemmas.Int.{ints}
use Rattle.bn_machine.specs.Tape.{Tape, moved, shift}
use Rattle.bn_machine.specs.Window.{IsBetween, IsBeyond}
use Rattle.bn_machine.specs.Outcome.{Limits}
use Rattle.bn_machine.specs.declared.quint.Shift.TheVariants as way
use Rattle.bn_machine.specs.declared.quint.Side.{Side}
use Rattle.bn_machine.specs.declared.quint.Side.TheVariants as side
use Rattle.bn_quad.specs.Quadruples.{Deed, Rewrite, Move, Rule, Configuration, Quadruples, DeedApplies, done}
use Rattle.bn_network.specs.declared.cell_line.CellLine.TheVariants.{Read, Answer}
use Rattle.bn_network.specs.Controls.{ControlMove, Reads, Shifts, Tape as to_tape, shifts, reads_of, shifts_of}
use Rattle.bn_network.specs.Controls.{writes_of, symbols_read, shift_line, done_line}
use Rattle.bn_network.specs.Networks.{IsTape, left_of}
use Rattle.bn_network_laws.specs.Commands.{right_of, way_to}
use Rattle.bn_network.proofs.OrderLemmas.{IsMiddle}
use Rattle.bn_network_laws.specs.Ends.{tape_of, put_tape, read_by, shift_by, left_at}
use Rattle.bn_network_laws.proofs.ChainLemmas.{Stop, lead, AreStops, AllDo}
use Rattle.bn_network_laws.proofs.StopLemmas.{stop_at, write_stops, shift_stops, read_stops, stops_of}
use Rattle.bn_network_laws.proofs.ObeyLemmas.{Fits, obey_shift, obey_reads, after_reads}

-- only a shift to that side leaves the window there
pub which_deed : (d : Deed) (left right : ℕ) (to : Side) (x : Tape) → IsBetween left right x.head
    → IsBeyond left right to (done d x).head
    → (d ≡ Move (way_to to)) × IsBeyond left right to (moved x.head (way_to to))
which_deed (Rewrite a b) left right side.Left x between beyond = absurd (let low = between.above in omega (arith, ints))
which_deed (Rewrite a b) left right side.Right x between beyond =
    absurd (let high = between.below in omega (arith, ints))
which_deed (Move way.Stay) left right side.Left x between beyond =
    absurd (let low = between.above in omega (arith, ints))
which_deed (Move way.Stay) left right side.Right x between beyond =
    absurd (let high = between.below in omega (arith, ints))
which_deed (Move way.Left) left right side.Left x between beyond = (refl, beyond)
which_deed (Move way.Left) left right side.Right x between beyond =
    absurd (let high = between.below in omega (arith, ints))
which_deed (Move way.Right) left right side.Left x between beyond =
    absurd (let low = between.above in omega (arith, ints))
which_deed (Move way.Right) left right side.Right x between beyond = (refl, beyond)

-- ---- lists of commands in two parts

-- the shifts of deeds in two parts
pub shifts_join : (ds es : List Deed) (t u : ℕ) → u ≡ t + length ds → shifts t (ds ++ es) ≡ shifts t ds ++ shifts u es
shifts_join [] es t u sum = let same : t ≡ u = omega arith in ap (λ v. shifts v es) same
shifts_join (Rewrite a b ∷ ds) es t u sum = shifts_join ds es (suc t) u (omega arith)
shifts_join (Move way.Left ∷ ds) es t u sum = ap (λ (xs : List (ℕ × Side)). (t, side.Left) ∷ xs)
    (shifts_join ds es (suc t) u (omega arith))
shifts_join (Move way.Stay ∷ ds) es t u sum = shifts_join ds es (suc t) u (omega arith)
shifts_join (Move way.Right ∷ ds) es t u sum = ap (λ (xs : List (ℕ × Side)). (t, side.Right) ∷ xs)
    (shifts_join ds es (suc t) u (omega arith))

-- a shift comes before those of later tapes
pub one_shift : (t : ℕ) (to : Side) (ds : List Deed) → shifts t (Move (way_to to) ∷ ds) ≡ (t, to) ∷ shifts (suc t) ds
one_shift t side.Left ds = refl
one_shift t side.Right ds = refl

-- the commands of shifts, cut at one of them
cut_shifts : (n : ℕ) (before tail : List (ℕ × Side)) (p : ℕ × Side) (after : List Stop)
    → shift_stops n (before ++ (p ∷ tail)) after ≡ shift_stops n before []
    ++ (stop_at (Shifts n p.0) p.0 (shift_line p.1) (done_line p.1) ∷ shift_stops n tail after)
cut_shifts n [] tail p after = refl
cut_shifts n (q ∷ before) tail p after = ap (λ (xs : List Stop). stop_at (Shifts n q.0) q.0 (shift_line q.1)
    (done_line q.1) ∷ xs) (cut_shifts n before tail p after)

-- the commands of reads, with others after them in two parts
cut_reads : (a : ℕ) (before rs : List (ℕ × ℕ)) (xs ys : List Stop)
    → read_stops a before rs (xs ++ ys) ≡ read_stops a before rs xs ++ ys
cut_reads a before [] xs ys = refl
cut_reads a before (p ∷ rs) xs ys = ap (λ (zs : List Stop). stop_at (Reads a (symbols_read before)) p.0 Read
    (Answer p.1) ∷ zs) (cut_reads a (before ++ (p ∷ [])) rs xs ys)

-- the commands before a shift
abbrev pub stops_until : ℕ → Rule ℕ → List (ℕ × Side) → List Stop
stops_until n r before = read_stops r.from [] (reads_of r) (shift_stops n before [])

-- the command of a shift
abbrev pub shift_stop : ℕ → ℕ → Side → Stop
shift_stop n t to = stop_at (Shifts n t) t (shift_line to) (done_line to)

-- all commands of a quadruple, cut at a shift
pub cut_stops : (n : ℕ) (r : Rule ℕ) (before tail : List (ℕ × Side)) (t : ℕ) (to : Side)
    → shifts_of r ≡ before ++ ((t, to) ∷ tail)
    → stops_of n r ≡ stops_until n r before ++ (shift_stop n t to ∷ shift_stops n tail (write_stops r.to (writes_of r)))
cut_stops n r before tail t to split =
    let after = write_stops r.to (writes_of r) in
    ap (λ ss. read_stops r.from [] (reads_of r) (shift_stops n ss after)) split
    ∙ ap (λ xs. read_stops r.from [] (reads_of r) xs) (cut_shifts n before tail (t, to) after)
    ∙ cut_reads r.from [] (reads_of r) (shift_stops n before []) (shift_stop n t to ∷ shift_stops n tail after)

-- the control's way up to a command
pub lead_until : (e : ControlMove) (xs : List Stop) (y : Stop) (ys : List Stop)
    → lead e (xs ++ (y ∷ ys)) ≡ lead (y.state, to_tape y.tape y.command) xs
lead_until e [] y ys = refl
lead_until e (x ∷ xs) y ys = refl

-- the control goes over the commands before one, and on to it
pub stops_before : (m : Quadruples) (e : ControlMove) (xs : List Stop) (y : Stop) (ys : List Stop)
    → AreStops m e (xs ++ (y ∷ ys))
    → AreStops m (y.state, to_tape y.tape y.command) xs
stops_before m e [] y ys are = tt
stops_before m e (x ∷ []) y ys are = (are.0, are.1, tt, tt)
stops_before m e (x ∷ w ∷ xs) y ys are = (are.0, are.1, are.2, stops_before m e (w ∷ xs) y ys are.3)

-- a command that comes after others is no state's first
pub later_stop : (m : Quadruples) (e : ControlMove) (xs : List Stop) (y : Stop) (ys : List Stop) → 0 < length xs
    → AreStops m e (xs ++ (y ∷ ys))
    → IsMiddle m y.state
later_stop m e [] y ys some are = absurd (omega arith)
later_stop m e (x ∷ []) y ys some are = are.2
later_stop m e (x ∷ w ∷ xs) y ys some are = later_stop m e (w ∷ xs) y ys (omega arith) are.3

-- where none is obeyed, there are no moves
pub no_stops : (m : Quadruples) (l : Limits) (xs : List Stop) (c d : Configuration ℕ) (n : ℕ) → AllDo m l xs c d n
    → 0 < n → 0 < length xs
no_stops m l [] c d n obey some = absurd (let none = obey.1 in omega arith)
no_stops m l (x ∷ xs) c d n obey some = omega arith

-- ---- the tapes obey the commands before the shift that leaves

module _ (m : Quadruples) (l : Limits) (n : ℕ) (r : Rule ℕ) (c : Configuration ℕ) (to : Side) where
  -- a quadruple whose shift of this tape is the first that leaves
  pub record Departs (t : ℕ) : Type 0 where
    pub before : List (ℕ × Side)
    pub tail : List (ℕ × Side)
    pub split : shifts_of r ≡ before ++ ((t, to) ∷ tail)
    pub at : Configuration ℕ
    pub moves : ℕ
    pub obey : AllDo m l (stops_until n r before) c at moves
    pub beyond : IsBeyond (left_of l t) (right_of l t) to (moved (tape_of at t).head (way_to to))
    pub gone : put_tape at t (shift (tape_of at t) (way_to to)) ≡ left_at t r c

  -- the three tapes
  tape_is : (t : ℕ) → 0 < t → t ≤ 3 → IsTape t
  tape_is t low high = record { low = low; high = high }

  -- a tape that is shifted isn't read
  kept_head : (d : Deed) (x : Tape) → d ≡ Move (way_to to) → (read_by d x).head ≡ x.head
  kept_head (Rewrite a b) x e = absurd cc
  kept_head (Move s) x e = refl

  -- the shift that leaves is its deed's
  shift_is : (d : Deed) (x : Tape) → d ≡ Move (way_to to) → shift (read_by d x) (way_to to) ≡ shift_by d (read_by d x)
  shift_is d x e = ap (λ v. shift_by v (read_by d x)) (sym e)

  -- so its head leaves as before
  beyond_kept : (d : Deed) (x : Tape) (left right : ℕ) → d ≡ Move (way_to to)
      → IsBeyond left right to (moved x.head (way_to to))
      → IsBeyond left right to (moved (read_by d x).head (way_to to))
  beyond_kept d x left right e h = subst (λ p. IsBeyond left right to (moved p (way_to to))) (sym (kept_head d x e)) h

  -- where tape 1 leaves
  pub departs_one : DeedApplies r.one c.one → DeedApplies r.two c.two → DeedApplies r.three c.three
      → r.one ≡ Move (way_to to)
      → IsBeyond l.left l.right to (moved c.one.head (way_to to)) → Departs 1
  departs_one a b d is beyond = record {
    before = [];
    tail = shifts 2 (r.two ∷ r.three ∷ []);
    split = ap (λ x. shifts 1 (x ∷ r.two ∷ r.three ∷ [])) is ∙ one_shift 1 to (r.two ∷ r.three ∷ []);
    at = after_reads m l n r c;
    moves = _;
    obey = obey_reads m l n r c (after_reads m l n r c) [] 0 a b d (refl, refl);
    beyond = beyond_kept r.one c.one l.left l.right is beyond;
    gone = λ i. record {
      state = c.state;
      one = shift_is r.one c.one is i;
      two = read_by r.two c.two;
      three = read_by r.three c.three;
    };
  }

  -- where tape 2 leaves, and tape 1 does not
  pub departs_two : DeedApplies r.one c.one → DeedApplies r.two c.two → DeedApplies r.three c.three
      → Fits l 1 r.one (read_by r.one c.one) → r.two ≡ Move (way_to to)
      → IsBeyond 0 l.steps to (moved c.two.head (way_to to)) → Departs 2
  departs_two a b d fits is beyond =
      let w = after_reads m l n r c in
      let w1 : Configuration ℕ = put_tape w 1 (shift_by r.one w.one) in
      record {
        before = shifts 1 (r.one ∷ []);
        tail = shifts 3 (r.three ∷ []);
        split = shifts_join (r.one ∷ []) (r.two ∷ r.three ∷ []) 1 2 (omega arith)
            ∙ ap (λ xs. shifts 1 (r.one ∷ []) ++ xs) (ap (λ x. shifts 2 (x ∷ r.three ∷ [])) is
            ∙ one_shift 2 to (r.three ∷ []));
        at = w1;
        moves = _;
        obey = obey_reads m l n r c w1 (shift_stops n (shifts 1 (r.one ∷ [])) []) _ a b d
            (obey_shift m l n [] r.one [] 1 w w1 0 (tape_is 1 (omega arith) (omega arith)) fits (refl, refl));
        beyond = beyond_kept r.two c.two 0 l.steps is beyond;
        gone = λ i. record {
          state = c.state;
          one = shift_by r.one (read_by r.one c.one);
          two = shift_is r.two c.two is i;
          three = read_by r.three c.three;
        };
      }

  -- where tape 3 leaves, and the others do not
  pub departs_three : DeedApplies r.one c.one → DeedApplies r.two c.two → DeedApplies r.three c.three
      → Fits l 1 r.one (read_by r.one c.one)
      → Fits l 2 r.two (read_by r.two c.two) → r.three ≡ Move (way_to to)
      → IsBeyond 0 l.output to (moved c.three.head (way_to to)) → Departs 3
  departs_three a b d first second is beyond =
      let w = after_reads m l n r c in
      let w1 : Configuration ℕ = put_tape w 1 (shift_by r.one w.one) in
      let w2 : Configuration ℕ = put_tape w1 2 (shift_by r.two w.two) in
      record {
        before = shifts 1 (r.one ∷ r.two ∷ []);
        tail = shifts 4 [];
        split = shifts_join (r.one ∷ r.two ∷ []) (r.three ∷ []) 1 3 (omega arith)
            ∙ ap (λ xs. shifts 1 (r.one ∷ r.two ∷ []) ++ xs) (ap (λ x. shifts 3 (x ∷ [])) is ∙ one_shift 3 to []);
        at = w2;
        moves = _;
        obey = obey_reads m l n r c w2 (shift_stops n (shifts 1 (r.one ∷ r.two ∷ [])) []) _ a b d
            (obey_shift m l n [] r.one (r.two ∷ []) 1 w w2 _ (tape_is 1 (omega arith) (omega arith)) first
            (obey_shift m l n [] r.two [] 2 w1 w2 0 (tape_is 2 (omega arith) (omega arith)) second (refl, refl)));
        beyond = beyond_kept r.three c.three 0 l.output is beyond;
        gone = λ i. record {
          state = c.state;
          one = shift_by r.one (read_by r.one c.one);
          two = shift_by r.two (read_by r.two c.two);
          three = shift_is r.three c.three is i;
        };
      }

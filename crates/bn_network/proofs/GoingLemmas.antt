-- The moves of a control: their states occur, their lines are in range, and they can be listed.
use Rattle.std.proofs.Common.{◌≡◌, ◌⊎◌, inl, inr, get_or, ℕ, suc, ◌+◌, ◌<◌, List, [], ◌∷◌, ◌++◌, length, Some, refl}
use Rattle.std.proofs.Common.{sym, ap, subst, ◌∙◌, arith, append_assoc}
use Rattle.bn_lists.specs.Lists.{nth}
use Rattle.bn_machine.specs.declared.quint.Side.{Side}
use Rattle.bn_machine.specs.declared.quint.Side.TheVariants as side
use Rattle.bn_quad.specs.Quadruples.{Quadruples, Rule, deeds_of, initial_of, IsQuadMachine}
use Rattle.bn_quad.specs.Calls.{IsUniformMachine}
use Rattle.bn_network.specs.declared.cell_line.CellLine.{CellLine}
use Rattle.bn_network.specs.declared.cell_line.CellLine.TheVariants.{Read, Write, Answer, DoneWrite}
use Rattle.bn_network.specs.Controls.{ControlState, ControlLine, ControlMove, Begin, End, Reads, Shifts, Writes}
use Rattle.bn_network.specs.Controls.{Outside, Tape, IsEntry, finishes, leaves, waits, IsFirstOf, ControlGoes, begins}
use Rattle.bn_network.specs.Controls.{reads_on, shifts_on, writes_on, Occurs, is_begin, is_end, is_open, is_read}
use Rattle.bn_network.specs.Controls.{is_shift, is_write, reads_of, shifts_of, writes_of, rising, symbols_read, to_read}
use Rattle.bn_network.specs.Controls.{to_shift, to_write, to_reads, to_shifts, to_writes, done_line, shift_line}
use Rattle.bn_network.proofs.ExistingLemmas.{some_entry}
use Rattle.bn_network.proofs.EntryLemmas.{one_entry}
use Rattle.bn_network.proofs.ListedLemmas.{member_split, member_turned, Listing, alone, either, same, for_each, entries}
use Rattle.bn_network.proofs.ListedLemmas.{splits}
use Rattle.bn_network.proofs.RangeLemmas.{reads_in, rising_in, shifts_low, rule_in_range, initial_in_range}
use Rattle.bn_network.proofs.LineLemmas.{IsReply, IsCommand, IsLine, outside, tape, IsInLine, IsOutLine}

-- ---- lines

-- the line on which a shift is answered
replies : (z : ℕ) (s : Side) → IsReply z (done_line s)
replies z side.Left = tt
replies z side.Right = tt

-- the line on which it is commanded
commands : (z : ℕ) (s : Side) → IsCommand z (shift_line s)
commands z side.Left = tt
commands z side.Right = tt

module _ (m : Quadruples) (is : IsQuadMachine m) where
  -- a line to a tape that is in range
  line_at : (IsKind : ℕ → CellLine → Type 0) (t : ℕ) (l : CellLine) (j : ℕ) → t ≡ 1 + j → j < length m.symbols
      → IsKind (get_or m.symbols j 0) l
      → IsLine m.symbols IsKind (Tape t l)
  line_at IsKind t l j e few kind = let place : t ≡ suc j = omega arith in tape j l few kind (ap (λ n. Tape n l) place)

  -- where a read tape and its symbol are
  read_at : (n : ℕ) (r : Rule ℕ) → nth m.rules n ≡ Some r → (before rest : List (ℕ × ℕ)) (p : ℕ × ℕ)
      → reads_of r ≡ before ++ (p ∷ rest) → (j : ℕ)
      × (p.0 ≡ 1 + j) × (j < length m.symbols) × (p.1 < get_or m.symbols j 0)
  read_at n r here before rest p split = reads_in m.symbols (deeds_of r) 1 p (rule_in_range m is n r here).deeds
      (member_split (reads_of r) before rest p split)

  -- where a written tape and its symbol are
  write_at : (n : ℕ) (r : Rule ℕ) → nth m.rules n ≡ Some r → (before rest : List (ℕ × ℕ)) (p : ℕ × ℕ)
      → writes_of r ≡ before ++ (p ∷ rest) → (j : ℕ)
      × (p.0 ≡ 1 + j) × (j < length m.symbols) × (p.1 < get_or m.symbols j 0)
  write_at n r here before rest p split =
      rising_in m.symbols (deeds_of r) 1 p (rule_in_range m is n r here).deeds
      (member_turned (rising 1 (deeds_of r)) p (member_split (writes_of r) before rest p split))

  -- where a shifted tape is
  shift_at : (r : Rule ℕ) (before rest : List (ℕ × Side)) (p : ℕ × Side) → shifts_of r ≡ before ++ (p ∷ rest)
      → (j : ℕ) × (p.0 ≡ 1 + j)
      × (j < length m.symbols)
  shift_at r before rest p split =
      let low = shifts_low (deeds_of r) 1 p (member_split (shifts_of r) before rest p split) in
      let few : low.0 < 3 = low.2 in
      let three = is.tapes in
      (low.0, low.1, omega arith)

  -- the line that answers a read is in range
  answer_line : (n : ℕ) (r : Rule ℕ) → nth m.rules n ≡ Some r → (before rest : List (ℕ × ℕ)) (p : ℕ × ℕ)
      → reads_of r ≡ before ++ (p ∷ rest)
      → IsInLine m (Tape p.0 (Answer p.1))
  answer_line n r here before rest p split = let at = read_at n r here before rest p split in line_at IsReply p.0
      (Answer p.1) at.0 at.1 at.2 at.3

  -- the line that answers a shift is in range
  done_at : (r : Rule ℕ) (before rest : List (ℕ × Side)) (p : ℕ × Side) → shifts_of r ≡ before ++ (p ∷ rest)
      → IsInLine m (Tape p.0 (done_line p.1))
  done_at r before rest p split = let at = shift_at r before rest p split in line_at IsReply p.0 (done_line p.1) at.0
      at.1 at.2 (replies (get_or m.symbols at.0 0) p.1)

  -- the line that answers a write is in range
  written_line : (n : ℕ) (r : Rule ℕ) → nth m.rules n ≡ Some r → (before rest : List (ℕ × ℕ)) (p : ℕ × ℕ)
      → writes_of r ≡ before ++ (p ∷ rest)
      → IsInLine m (Tape p.0 DoneWrite)
  written_line n r here before rest p split = let at = write_at n r here before rest p split in line_at IsReply p.0
      DoneWrite at.0 at.1 at.2 tt

  -- ---- what a move leads to

  -- a move's end: a state that occurs, and an output line in range
  pub record IsEnd (k : ControlMove) : Type 0 where
    pub occurs : Occurs m k.0
    pub line : IsOutLine m k.1

  -- an end that is equal to one
  moved : (k l : ControlMove) → k ≡ l → IsEnd l → IsEnd k
  moved k l e h = subst IsEnd (sym e) h

  -- a read is an end
  end_read : (n : ℕ) (r : Rule ℕ) → nth m.rules n ≡ Some r → (before rest : List (ℕ × ℕ)) (p : ℕ × ℕ)
      → reads_of r ≡ before ++ (p ∷ rest)
      → IsEnd (to_read r.from before p)
  end_read n r here before rest p split =
      let at = read_at n r here before rest p split in
      record { occurs = is_read n r here before rest p split refl; line = line_at IsCommand p.0 Read at.0 at.1 at.2 tt }

  -- a shift is an end
  end_shift : (n : ℕ) (r : Rule ℕ) → nth m.rules n ≡ Some r → (before rest : List (ℕ × Side)) (p : ℕ × Side)
      → shifts_of r ≡ before ++ (p ∷ rest)
      → IsEnd (to_shift n p)
  end_shift n r here before rest p split =
      let at = shift_at r before rest p split in
      record {
        occurs = is_shift n r here before rest p split refl;
        line = line_at IsCommand p.0 (shift_line p.1) at.0 at.1 at.2 (commands (get_or m.symbols at.0 0) p.1);
      }

  -- a write is an end
  end_write : (n : ℕ) (r : Rule ℕ) → nth m.rules n ≡ Some r → (before rest : List (ℕ × ℕ)) (p : ℕ × ℕ)
      → writes_of r ≡ before ++ (p ∷ rest)
      → IsEnd (to_write r.to p rest)
  end_write n r here before rest p split =
      let at = write_at n r here before rest p split in
      record {
        occurs = is_write n r here before rest p split refl;
        line = line_at IsCommand p.0 (Write p.1) at.0 at.1 at.2 at.3;
      }

  -- a first command
  pub end_entry : (a : ℕ) (k : ControlMove) → IsEntry m a k → IsEnd k
  end_entry a k (finishes here e) = moved k (End, Outside) e (record { occurs = is_end refl; line = outside refl })
  end_entry a k (leaves n r here from first) = go (reads_of r) (shifts_of r) refl refl first
    where
      go : (rs : List (ℕ × ℕ)) (ss : List (ℕ × Side)) → reads_of r ≡ rs → shifts_of r ≡ ss → IsFirstOf n r rs ss k
          → IsEnd k
      go [] [] er es h = absurd h
      go [] (p ∷ ss) er es h = moved k (to_shift n p) h (end_shift n r here [] ss p es)
      go (p ∷ rs) ss er es h = moved k (to_read r.from [] p) h (end_read n r here [] rs p er)
  end_entry a k (waits other low none e) =
      let three = is.tapes in
      moved k (to_read a [] (1, 0)) e (record {
        occurs = is_open a low other none refl;
        line = line_at IsCommand 1 Read 0 (omega arith) (omega arith) tt;
      })

  -- where these are left
  end_writes : (n : ℕ) (r : Rule ℕ) → nth m.rules n ≡ Some r → (e : ControlMove) → IsEntry m r.to e
      → (before rest : List (ℕ × ℕ))
      → writes_of r ≡ before ++ rest → IsEnd (to_writes e r.to rest)
  end_writes n r here e entry before [] split = end_entry r.to e entry
  end_writes n r here e entry before (p ∷ rest) split = end_write n r here before rest p split

  -- where these shifts are left
  end_shifts : (n : ℕ) (r : Rule ℕ) → nth m.rules n ≡ Some r → (e : ControlMove) → IsEntry m r.to e
      → (before rest : List (ℕ × Side))
      → shifts_of r ≡ before ++ rest → IsEnd (to_shifts e n r rest)
  end_shifts n r here e entry before [] split = end_writes n r here e entry [] (writes_of r) refl
  end_shifts n r here e entry before (p ∷ rest) split = end_shift n r here before rest p split

  -- where these reads are left
  end_reads : (n : ℕ) (r : Rule ℕ) → nth m.rules n ≡ Some r → (e : ControlMove) → IsEntry m r.to e
      → (before rest : List (ℕ × ℕ))
      → reads_of r ≡ before ++ rest → IsEnd (to_reads e n r before rest)
  end_reads n r here e entry before [] split = end_shifts n r here e entry [] (shifts_of r) refl
  end_reads n r here e entry before (p ∷ rest) split = end_read n r here before rest p split

  -- ---- moves

  -- a move whose states occur and whose lines are in range
  pub record IsSound (q : ControlState) (i : ControlLine) (k : ControlMove) : Type 0 where
    pub occurs : Occurs m q
    pub line : IsInLine m i
    pub end : IsEnd k

  -- both ends of a move occur, and its lines are in range
  pub sound : (q : ControlState) (i : ControlLine) (k : ControlMove) → ControlGoes m q i k → IsSound q i k
  sound q i k (begins isq isi entry) = record {
    occurs = is_begin isq;
    line = outside isi;
    end = end_entry (initial_of m.rules) k entry;
  }
  sound q i k (reads_on n r here e entry before rest p split isq isi isk) = record {
    occurs = is_read n r here before rest p split isq;
    line = subst (IsInLine m) (sym isi) (answer_line n r here before rest p split);
    end = moved k (to_reads e n r (before ++ (p ∷ [])) rest) isk
        (end_reads n r here e entry (before ++ (p ∷ [])) rest (split ∙ sym (append_assoc before (p ∷ []) rest)));
  }
  sound q i k (shifts_on n r here e entry before rest p split isq isi isk) = record {
    occurs = is_shift n r here before rest p split isq;
    line = subst (IsInLine m) (sym isi) (done_at r before rest p split);
    end = moved k (to_shifts e n r rest) isk (end_shifts n r here e entry (before ++ (p ∷ [])) rest
        (split ∙ sym (append_assoc before (p ∷ []) rest)));
  }
  sound q i k (writes_on n r here e entry before rest p split isq isi isk) = record {
    occurs = is_write n r here before rest p split isq;
    line = subst (IsInLine m) (sym isi) (written_line n r here before rest p split);
    end = moved k (to_writes e r.to rest) isk (end_writes n r here e entry (before ++ (p ∷ [])) rest
        (split ∙ sym (append_assoc before (p ∷ []) rest)));
  }

  module _ (u : IsUniformMachine m) where
    -- a state's first command, as a list of one
    entry_listed : (a : ℕ) → a < m.states → Listing (IsEntry m a)
    entry_listed a low = let some = some_entry m u a low in alone (IsEntry m a) some.0 some.1
        (λ k h. one_entry m u a k some.0 h some.1)

    -- a move: a state, an input line, and what they lead to
    abbrev pub Going : Type 0
    Going = ControlState × ControlLine × ControlMove

    -- a move at one place of one list of a quadruple, with what follows it
    abbrev AtStep : {S : Type 0} → (Rule ℕ → List S) → ((ℕ × Rule ℕ) → ControlMove → (List S × S × List S) → Going)
        → Going → Type 0
    AtStep {S} part step g = (x : ℕ × Rule ℕ) × (nth m.rules x.0 ≡ Some x.1)
        × ((e : ControlMove) × IsEntry m x.1.to e × ((s : List S × S × List S) × (part x.1 ≡ s.0 ++ (s.1 ∷ s.2))
        × (g ≡ step x e s)))

    -- such moves, listed
    at_step : {S : Type 0} (part : Rule ℕ → List S) (step : (ℕ × Rule ℕ) → ControlMove → (List S × S × List S) → Going)
        → Listing (AtStep part step)
    at_step {S = S} part step =
        for_each (λ (x : ℕ × Rule ℕ). nth m.rules x.0 ≡ Some x.1)
        (λ (x : ℕ × Rule ℕ) (g : Going). (e : ControlMove) × IsEntry m x.1.to e
        × ((s : List S × S × List S) × (part x.1 ≡ s.0 ++ (s.1 ∷ s.2)) × (g ≡ step x e s))) (entries m.rules)
        (λ x h. for_each (λ (e : ControlMove). IsEntry m x.1.to e)
        (λ (e : ControlMove) (g : Going). (s : List S × S × List S)
        × (part x.1 ≡ s.0 ++ (s.1 ∷ s.2)) × (g ≡ step x e s)) (entry_listed x.1.to (rule_in_range m is x.0 x.1 h).to)
        (λ e k. for_each (λ (s : List S × S
        × List S). part x.1 ≡ s.0 ++ (s.1 ∷ s.2)) (λ s g. g ≡ step x e s) (splits (part x.1))
        (λ s v. alone (λ g. g ≡ step x e s) (step x e s) refl (λ g d. d))))

    -- the move at a read
    abbrev read_step : (ℕ × Rule ℕ) → ControlMove → (List (ℕ × ℕ) × (ℕ × ℕ) × List (ℕ × ℕ)) → Going
    read_step x e s = (
      Reads x.1.from (symbols_read s.0),
      Tape s.1.0 (Answer s.1.1),
      to_reads e x.0 x.1 (s.0 ++ (s.1 ∷ [])) s.2,
    )

    -- the move at a shift
    abbrev shift_step : (ℕ × Rule ℕ) → ControlMove → (List (ℕ × Side) × (ℕ × Side) × List (ℕ × Side)) → Going
    shift_step x e s = (Shifts x.0 s.1.0, Tape s.1.0 (done_line s.1.1), to_shifts e x.0 x.1 s.2)

    -- the move at a write
    abbrev write_step : (ℕ × Rule ℕ) → ControlMove → (List (ℕ × ℕ) × (ℕ × ℕ) × List (ℕ × ℕ)) → Going
    write_step x e s = (Writes x.1.to s.1.0 (symbols_read s.2), Tape s.1.0 DoneWrite, to_writes e x.1.to s.2)

    -- the move from the start
    abbrev IsFirstStep : Going → Type 0
    IsFirstStep g = (k : ControlMove) × IsEntry m (initial_of m.rules) k × (g ≡ (Begin, Outside, k))

    -- a move of any kind
    abbrev IsOneOf : Going → Type 0
    IsOneOf g = IsFirstStep g ⊎ (AtStep reads_of read_step g ⊎ (AtStep shifts_of shift_step g
        ⊎ AtStep writes_of write_step g))

    -- these are moves
    forth : (g : Going) → IsOneOf g → ControlGoes m g.0 g.1 g.2
    forth g (inl h) = let e = h.2 in let last = ap (λ (v : Going). v.2) e in begins (ap (λ (v : Going). v.0) e)
        (ap (λ (v : Going). v.1) e) (subst (IsEntry m (initial_of m.rules)) (sym last) h.1)
    forth g (inr (inl h)) =
        let e = h.2.2.2 in
        reads_on h.0.0 h.0.1 h.1 h.2.0 h.2.1 h.2.2.0.0 h.2.2.0.2 h.2.2.0.1 h.2.2.1 (ap (λ (v : Going). v.0) e)
        (ap (λ (v : Going). v.1) e) (ap (λ (v : Going). v.2) e)
    forth g (inr (inr (inl h))) =
        let e = h.2.2.2 in
        shifts_on h.0.0 h.0.1 h.1 h.2.0 h.2.1 h.2.2.0.0 h.2.2.0.2 h.2.2.0.1 h.2.2.1 (ap (λ (v : Going). v.0) e)
        (ap (λ (v : Going). v.1) e) (ap (λ (v : Going). v.2) e)
    forth g (inr (inr (inr h))) =
        let e = h.2.2.2 in
        writes_on h.0.0 h.0.1 h.1 h.2.0 h.2.1 h.2.2.0.0 h.2.2.0.2 h.2.2.0.1 h.2.2.1 (ap (λ (v : Going). v.0) e)
        (ap (λ (v : Going). v.1) e) (ap (λ (v : Going). v.2) e)

    -- and each move is one of them
    back : (q : ControlState) (i : ControlLine) (k : ControlMove) → ControlGoes m q i k → IsOneOf (q, i, k)
    back q i k (begins isq isi entry) = inl (k, entry, λ j. (isq j, isi j, k))
    back q i k (reads_on n r here e entry before rest p split isq isi isk) =
        inr (inl ((n, r), here, (e, entry, ((before, p, rest), split, λ j. (isq j, isi j, isk j)))))
    back q i k (shifts_on n r here e entry before rest p split isq isi isk) =
        inr (inr (inl ((n, r), here, (e, entry, ((before, p, rest), split, λ j. (isq j, isi j, isk j))))))
    back q i k (writes_on n r here e entry before rest p split isq isi isk) =
        inr (inr (inr ((n, r), here, (e, entry, ((before, p, rest), split, λ j. (isq j, isi j, isk j))))))

    -- the moves from the start
    first_step : Listing IsFirstStep
    first_step =
        for_each (λ (k : ControlMove). IsEntry m (initial_of m.rules) k)
        (λ (k : ControlMove) (g : Going). g ≡ (Begin, Outside, k))
        (entry_listed (initial_of m.rules) (initial_in_range m is))
        (λ k h. alone (λ (g : Going). g ≡ (Begin, Outside, k)) (Begin, Outside, k) refl (λ g e. e))

    -- the moves
    pub going : Listing (λ (g : Going). ControlGoes m g.0 g.1 g.2)
    going =
        let two = either (AtStep shifts_of shift_step) (AtStep writes_of write_step) (at_step shifts_of shift_step)
        (at_step writes_of write_step) in
        let one = either (AtStep reads_of read_step) (λ g. AtStep shifts_of shift_step g
        ⊎ AtStep writes_of write_step g) (at_step reads_of read_step) two in
        same IsOneOf (λ (g : Going). ControlGoes m g.0 g.1 g.2) (either IsFirstStep
        (λ g. AtStep reads_of read_step g ⊎ (AtStep shifts_of shift_step g ⊎ AtStep writes_of write_step g))
        first_step one) forth (λ g h. back g.0 g.1 g.2 h)

-- The commands of a quadruple by names, and the moves from one to the next.
use Rattle.std.proofs.Common.{◌≡◌, inl, inr, ℕ, suc, List, [], ◌∷◌, ◌++◌, map, Some, refl, sym, ap, subst, ◌∙◌}
use Rattle.std.proofs.Common.{append_assoc, append-nil}
use Rattle.std.proofs.lemmas.List.{map-append}
use Rattle.bn_lists.specs.Lists.{nth, Has}
use Rattle.bn_machine.specs.declared.quint.Shift.TheVariants as way
use Rattle.bn_machine.specs.declared.quint.Side.{Side}
use Rattle.bn_machine.specs.declared.quint.Side.TheVariants as side
use Rattle.bn_quad.specs.Quadruples.{Deed, Rewrite, Move, Rule, Quadruples}
use Rattle.bn_quad.specs.Kept.{act_of}
use Rattle.bn_network.specs.declared.cell_line.CellLine.TheVariants.{Answer, DoneWrite}
use Rattle.bn_network.specs.Controls.{ControlMove, Reads, Shifts, Writes, Tape, IsEntry, ControlGoes, reads_on}
use Rattle.bn_network.specs.Controls.{shifts_on, writes_on, reads, shifts, reads_of, shifts_of, writes_of, symbols_read}
use Rattle.bn_network.specs.Controls.{to_shift, to_reads, to_shifts, to_writes, done_line}
use Rattle.bn_control.specs.declared.command.Command.{Command}
use Rattle.bn_control.specs.declared.line.Sending.{Sending}
use Rattle.bn_control.specs.Commands.{line_of, sending_of, commands_by, read_commands, shift_commands, shift_command}
use Rattle.bn_control.specs.Commands.{write_commands, moves_by}
use Rattle.bn_control.proofs.NamesLemmas.{NamedCommand, Going, command_of, going_of, read_names, shift_names}
use Rattle.bn_control.proofs.NamesLemmas.{write_names, later_names, names_by, next_name, goings}
use Rattle.bn_control.specs.Names.{state_of}

-- ---- the commands

-- the program's commands are these
read_is : (a : ℕ) (one two three : Deed) (to : ℕ) → map command_of
    (read_commands (record { from = a; one = one; two = two; three = three; to = to }))
    ≡ read_names a [] (reads 1 (one ∷ two ∷ three ∷ []))
read_is a (Rewrite r w) (Rewrite s v) (Rewrite t u) to = refl
read_is a (Rewrite r w) (Rewrite s v) (Move m) to = refl
read_is a (Rewrite r w) (Move k) (Rewrite t u) to = refl
read_is a (Rewrite r w) (Move k) (Move m) to = refl
read_is a (Move h) (Rewrite s v) (Rewrite t u) to = refl
read_is a (Move h) (Rewrite s v) (Move m) to = refl
read_is a (Move h) (Move k) (Rewrite t u) to = refl
read_is a (Move h) (Move k) (Move m) to = refl

write_is : (a : ℕ) (one two three : Deed) (to : ℕ) → map command_of
    (write_commands (record { from = a; one = one; two = two; three = three; to = to }))
    ≡ write_names to (writes_of (record { from = a; one = one; two = two; three = three; to = to }))
write_is a (Rewrite r w) (Rewrite s v) (Rewrite t u) to = refl
write_is a (Rewrite r w) (Rewrite s v) (Move m) to = refl
write_is a (Rewrite r w) (Move k) (Rewrite t u) to = refl
write_is a (Rewrite r w) (Move k) (Move m) to = refl
write_is a (Move h) (Rewrite s v) (Rewrite t u) to = refl
write_is a (Move h) (Rewrite s v) (Move m) to = refl
write_is a (Move h) (Move k) (Rewrite t u) to = refl
write_is a (Move h) (Move k) (Move m) to = refl

shift_one : (n t : ℕ) (d : Deed) (more : List NamedCommand) (ds : List Deed) → shift_names n (shifts (suc t) ds) ≡ more
    → map command_of (shift_command n t (act_of d)) ++ more ≡ shift_names n (shifts t (d ∷ ds))
shift_one n t (Rewrite r w) more ds e = sym e
shift_one n t (Move way.Left) more ds e = ap (λ l. (to_shift n (t, side.Left), Tape t (done_line side.Left)) ∷ l)
    (sym e)
shift_one n t (Move way.Stay) more ds e = sym e
shift_one n t (Move way.Right) more ds e = ap (λ l. (to_shift n (t, side.Right), Tape t (done_line side.Right)) ∷ l)
    (sym e)

shift_is : (n : ℕ) (r : Rule ℕ) → map command_of (shift_commands n r) ≡ shift_names n (shifts_of r)
shift_is n r =
    map-append command_of (shift_command n 1 (act_of r.one)) (shift_command n 2 (act_of r.two)
    ++ shift_command n 3 (act_of r.three))
    ∙ shift_one n 1 r.one (map command_of (shift_command n 2 (act_of r.two) ++ shift_command n 3 (act_of r.three)))
    (r.two ∷ r.three ∷ [])
    (sym (map-append command_of (shift_command n 2 (act_of r.two)) (shift_command n 3 (act_of r.three))
    ∙ shift_one n 2 r.two (map command_of (shift_command n 3 (act_of r.three))) (r.three ∷ [])
    (sym (sym (append-nil (map command_of (shift_command n 3 (act_of r.three)))) ∙ shift_one n 3 r.three [] [] refl))))

pub commands_are : (n : ℕ) (r : Rule ℕ) → map command_of (commands_by n r) ≡ names_by n r
commands_are n r =
    map-append command_of (read_commands r) (shift_commands n r ++ write_commands r)
    ∙ ap (λ l. l ++ map command_of (shift_commands n r ++ write_commands r)) (read_is r.from r.one r.two r.three r.to)
    ∙ ap (λ l. read_names r.from [] (reads_of r) ++ l)
    (map-append command_of (shift_commands n r) (write_commands r)
    ∙ ap (λ l. l ++ map command_of (write_commands r)) (shift_is n r)
    ∙ ap (λ l. shift_names n (shifts_of r) ++ l) (write_is r.from r.one r.two r.three r.to))

-- ---- the moves along them

-- the program's moves are these
pub moves_are : (last : Sending) (cs : List Command) → map going_of (moves_by last cs)
    ≡ goings (sending_of last) (map command_of cs)
moves_are last [] = refl
moves_are last (c ∷ []) = refl
moves_are last (c ∷ (d ∷ cs)) = ap (λ l. (state_of c.sending.state, line_of c.answer, sending_of d.sending) ∷ l)
    (moves_are last (d ∷ cs))

-- ---- the moves along a quadruple, before this

module _ (n : ℕ) (r : Rule ℕ) (e : ControlMove) where
  next_write : (rest : List (ℕ × ℕ)) → next_name e (write_names r.to rest) ≡ to_writes e r.to rest
  next_write [] = refl
  next_write (p ∷ rest) = refl

  next_shift : (rest : List (ℕ × Side)) → next_name e (shift_names n rest ++ write_names r.to (writes_of r))
      ≡ to_shifts e n r rest
  next_shift [] = next_write (writes_of r)
  next_shift (p ∷ rest) = refl

  next_read : (before rest : List (ℕ × ℕ)) → next_name e (read_names r.from before rest ++ later_names n r)
      ≡ to_reads e n r before rest
  next_read before [] = next_shift (shifts_of r)
  next_read before (p ∷ rest) = refl

  write_stands : (before rest : List (ℕ × ℕ)) (p : ℕ × ℕ) → Has (goings e (write_names r.to (before ++ (p ∷ rest))))
      (Writes r.to p.0 (symbols_read rest), Tape p.0 DoneWrite, to_writes e r.to rest)
  write_stands [] rest p = inl (λ i. (Writes r.to p.0 (symbols_read rest), Tape p.0 DoneWrite, sym (next_write rest) i))
  write_stands (b ∷ before) rest p = inr (write_stands before rest p)

  write_later : (ss : List (ℕ × Side)) (g : Going) → Has (goings e (write_names r.to (writes_of r))) g
      → Has (goings e (shift_names n ss ++ write_names r.to (writes_of r))) g
  write_later [] g h = h
  write_later (p ∷ ss) g h = inr (write_later ss g h)

  shift_stands : (before rest : List (ℕ × Side)) (p : ℕ × Side)
      → Has (goings e (shift_names n (before ++ (p ∷ rest)) ++ write_names r.to (writes_of r)))
      (Shifts n p.0, Tape p.0 (done_line p.1), to_shifts e n r rest)
  shift_stands [] rest p = inl (λ i. (Shifts n p.0, Tape p.0 (done_line p.1), sym (next_shift rest) i))
  shift_stands (b ∷ before) rest p = inr (shift_stands before rest p)

  later : (before rs : List (ℕ × ℕ)) (g : Going) → Has (goings e (later_names n r)) g
      → Has (goings e (read_names r.from before rs ++ later_names n r)) g
  later before [] g h = h
  later before (p ∷ rs) g h = inr (later (before ++ (p ∷ [])) rs g h)

  read_stands : (done before rest : List (ℕ × ℕ)) (p : ℕ × ℕ)
      → Has (goings e (read_names r.from done (before ++ (p ∷ rest)) ++ later_names n r)) (
        Reads r.from (symbols_read (done ++ before)),
        Tape p.0 (Answer p.1),
        to_reads e n r ((done ++ before) ++ (p ∷ [])) rest,
      )
  read_stands done [] rest p =
      let none = append-nil done in
      inl (λ i. (
        Reads r.from (symbols_read (none i)),
        Tape p.0 (Answer p.1),
        (ap (λ l. to_reads e n r (l ++ (p ∷ [])) rest) none ∙ sym (next_read (done ++ (p ∷ [])) rest)) i,
      ))
  read_stands done (b ∷ before) rest p =
      let one = append_assoc done (b ∷ []) before in
      inr (subst (λ l. Has (goings e (read_names r.from (done ++ (b ∷ [])) (before ++ (p ∷ rest)) ++ later_names n r))
      (Reads r.from (symbols_read l), Tape p.0 (Answer p.1), to_reads e n r (l ++ (p ∷ [])) rest)) one
      (read_stands (done ++ (b ∷ [])) before rest p))

  pub reads_stand : (before rest : List (ℕ × ℕ)) (p : ℕ × ℕ) → reads_of r ≡ before ++ (p ∷ rest)
      → Has (goings e (names_by n r)) (
        Reads r.from (symbols_read before),
        Tape p.0 (Answer p.1),
        to_reads e n r (before ++ (p ∷ [])) rest,
      )
  reads_stand before rest p split =
      subst (λ l. Has (goings e (read_names r.from [] l ++ later_names n r))
      (Reads r.from (symbols_read before), Tape p.0 (Answer p.1), to_reads e n r (before ++ (p ∷ [])) rest))
      (sym split) (read_stands [] before rest p)

  pub shifts_stand : (before rest : List (ℕ × Side)) (p : ℕ × Side) → shifts_of r ≡ before ++ (p ∷ rest)
      → Has (goings e (names_by n r)) (Shifts n p.0, Tape p.0 (done_line p.1), to_shifts e n r rest)
  shifts_stand before rest p split =
      later [] (reads_of r) (Shifts n p.0, Tape p.0 (done_line p.1), to_shifts e n r rest)
      (subst (λ l. Has (goings e (shift_names n l ++ write_names r.to (writes_of r)))
      (Shifts n p.0, Tape p.0 (done_line p.1), to_shifts e n r rest)) (sym split) (shift_stands before rest p))

  pub writes_stand : (before rest : List (ℕ × ℕ)) (p : ℕ × ℕ) → writes_of r ≡ before ++ (p ∷ rest)
      → Has (goings e (names_by n r)) (Writes r.to p.0 (symbols_read rest), Tape p.0 DoneWrite, to_writes e r.to rest)
  writes_stand before rest p split =
      later [] (reads_of r) (Writes r.to p.0 (symbols_read rest), Tape p.0 DoneWrite, to_writes e r.to rest)
      (write_later (shifts_of r) (Writes r.to p.0 (symbols_read rest), Tape p.0 DoneWrite, to_writes e r.to rest)
      (subst (λ l. Has (goings e (write_names r.to l)) (
        Writes r.to p.0 (symbols_read rest),
        Tape p.0 DoneWrite,
        to_writes e r.to rest,
      )) (sym split) (write_stands before rest p)))

-- ---- they are the control's

module _ (m : Quadruples) (n : ℕ) (r : Rule ℕ) (here : nth m.rules n ≡ Some r) (e : ControlMove)
    (entry : IsEntry m r.to e) where
  -- a move is one of the control
  abbrev Goes : Going → Type 0
  Goes g = ControlGoes m g.0 g.1 g.2

  write_goes : (before rest : List (ℕ × ℕ)) → writes_of r ≡ before ++ rest → (g : Going)
      → Has (goings e (write_names r.to rest)) g → Goes g
  write_goes before [] split g h = absurd h
  write_goes before (p ∷ rest) split g (inl is) =
      let first : Goes (Writes r.to p.0 (symbols_read rest), Tape p.0 DoneWrite, next_name e (write_names r.to rest)) =
      writes_on n r here e entry before rest p split refl refl (next_write n r e rest) in
      subst Goes (sym is) first
  write_goes before (p ∷ rest) split g (inr h) = write_goes (before ++ (p ∷ [])) rest
      (split ∙ sym (append_assoc before (p ∷ []) rest)) g h

  shift_goes : (before rest : List (ℕ × Side)) → shifts_of r ≡ before ++ rest → (g : Going)
      → Has (goings e (shift_names n rest ++ write_names r.to (writes_of r))) g → Goes g
  shift_goes before [] split g h = write_goes [] (writes_of r) refl g h
  shift_goes before (p ∷ rest) split g (inl is) =
      let first : Goes (
        Shifts n p.0,
        Tape p.0 (done_line p.1),
        next_name e (shift_names n rest ++ write_names r.to (writes_of r)),
      ) = shifts_on n r here e entry before rest p split refl
      refl (next_shift n r e rest) in
      subst Goes (sym is) first
  shift_goes before (p ∷ rest) split g (inr h) = shift_goes (before ++ (p ∷ [])) rest
      (split ∙ sym (append_assoc before (p ∷ []) rest)) g h

  read_goes : (before rest : List (ℕ × ℕ)) → reads_of r ≡ before ++ rest → (g : Going)
      → Has (goings e (read_names r.from before rest ++ later_names n r)) g → Goes g
  read_goes before [] split g h = shift_goes [] (shifts_of r) refl g h
  read_goes before (p ∷ rest) split g (inl is) =
      let first : Goes (
        Reads r.from (symbols_read before),
        Tape p.0 (Answer p.1),
        next_name e (read_names r.from (before ++ (p ∷ [])) rest ++ later_names n r),
      ) = reads_on n r here e entry before rest p
      split refl refl (next_read n r e (before ++ (p ∷ [])) rest) in
      subst Goes (sym is) first
  read_goes before (p ∷ rest) split g (inr h) = read_goes (before ++ (p ∷ [])) rest
      (split ∙ sym (append_assoc before (p ∷ []) rest)) g h

  pub each_goes : (g : Going) → Has (goings e (names_by n r)) g → Goes g
  each_goes g h = read_goes [] (reads_of r) refl g h

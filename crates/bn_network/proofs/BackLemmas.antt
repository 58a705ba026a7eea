-- A state and an output line come from one move.
use Rattle.std.proofs.Common.{◌≡◌, ◌≢◌, ℕ, List, [], ◌∷◌, ◌++◌, Some, refl, sym, ap, ◌∙◌, append_assoc}
use Rattle.std.proofs.lemmas.List.{map-append, append-nil}
use Rattle.bn_lists.specs.Lists.{nth}
use Rattle.bn_machine.specs.declared.quint.Side.{Side}
use Rattle.bn_quad.specs.Quadruples.{Quadruples, Rule, deeds_of, initial_of}
use Rattle.bn_quad.specs.Calls.{IsUniformMachine}
use Rattle.bn_network.specs.declared.cell_line.CellLine.TheVariants.{Answer, DoneWrite}
use Rattle.bn_network.specs.Controls.{Begin, ControlGoes, ControlLine, ControlMove, ControlState, IsEntry, Outside}
use Rattle.bn_network.specs.Controls.{Reads, Shifts, Tape, Writes, begins, done_line, reads_on, shifts_on, writes_on}
use Rattle.bn_network.specs.Controls.{symbols_read, to_read, to_reads, to_shift, to_shifts, to_write, to_writes}
use Rattle.bn_network.specs.Controls.{reads_of, shifts_of, writes_of}
use Rattle.bn_network.proofs.ListLemmas.{last, not_empty, same_length, split, split_right, tapes}
use Rattle.bn_network.proofs.DeedLemmas.{same_reads, same_writes}
use Rattle.bn_network.proofs.UniformLemmas.{read_mask, write_mask, same_range, same_quad}
use Rattle.bn_network.proofs.EntryLemmas.{one_state}
use Rattle.bn_network.proofs.OrderLemmas.{alone, first_shift, no_read, no_write}

-- the last read of x is awaited
record LastRead (x : Rule ℕ) (q : ControlState) (i : ControlLine) : Type 0 where
  before : List (ℕ × ℕ)
  p : ℕ × ℕ
  split : reads_of x ≡ before ++ (p ∷ [])
  state : q ≡ Reads x.from (symbols_read before)
  line : i ≡ Tape p.0 (Answer p.1)

-- what comes before the shifts that follow these
data BeforeShift (n : ℕ) (x : Rule ℕ) (before : List (ℕ × Side)) (q : ControlState) (i : ControlLine) : Type 0 where
  a_read : before ≡ [] → LastRead x q i → BeforeShift n x before q i
  a_shift : (b : List (ℕ × Side)) (p : ℕ × Side) → before ≡ b ++ (p ∷ []) → q ≡ Shifts n p.0
      → i ≡ Tape p.0 (done_line p.1) → BeforeShift n x before q i

-- what comes before the writes, when these are made and those are left
data BeforeWrite (n : ℕ) (x : Rule ℕ) (before rest : List (ℕ × ℕ)) (q : ControlState) (i : ControlLine) : Type 0 where
  no_more : before ≡ [] → BeforeShift n x (shifts_of x) q i → BeforeWrite n x before rest q i
  a_write : (b : List (ℕ × ℕ)) (p : ℕ × ℕ) → before ≡ b ++ (p ∷ []) → q ≡ Writes x.to p.0 (symbols_read rest)
      → i ≡ Tape p.0 DoneWrite
      → BeforeWrite n x before rest q i

-- the last read of a quadruple is one
one_read : (x : Rule ℕ) (q r : ControlState) (i j : ControlLine) → LastRead x q i → LastRead x r j → (q ≡ r) × (i ≡ j)
one_read x q r i j a b =
    let both : a.before ++ (a.p ∷ []) ≡ b.before ++ (b.p ∷ []) = sym a.split ∙ b.split in
    let same = last a.before b.before a.p b.p both in
    let one = same.0 in
    let two = same.1 in (
      a.state ∙ ap (λ l. Reads x.from (symbols_read l)) one ∙ sym b.state,
      a.line ∙ ap (λ (p : ℕ × ℕ). Tape p.0 (Answer p.1)) two ∙ sym b.line,
    )

-- what comes before these shifts is one
one_shift : (n : ℕ) (x : Rule ℕ) (l : List (ℕ × Side)) (q r : ControlState) (i j : ControlLine) → BeforeShift n x l q i
    → BeforeShift n x l r j → (q ≡ r)
    × (i ≡ j)
one_shift n x l q r i j (a_read e a) (a_read f b) = one_read x q r i j a b
one_shift n x l q r i j (a_read e a) (a_shift b p f state line) = absurd (not_empty b p [] (sym f ∙ e))
one_shift n x l q r i j (a_shift b p f state line) (a_read e a) = absurd (not_empty b p [] (sym f ∙ e))
one_shift n x l q r i j (a_shift b p f state line) (a_shift c s g state2 line2) =
    let same = last b c p s (sym f ∙ g) in
    let two = same.1 in (
      state ∙ ap (λ (v : ℕ × Side). Shifts n v.0) two ∙ sym state2,
      line ∙ ap (λ (v : ℕ × Side). Tape v.0 (done_line v.1)) two ∙ sym line2,
    )

module _ (machine : Quadruples) where
  -- what a move leads to: a first command, or a later read, a shift or a write, with where it came from
  data Came (q : ControlState) (i : ControlLine) (m : ControlMove) : Type 0 where
    from_begin : q ≡ Begin → i ≡ Outside → IsEntry machine (initial_of machine.rules) m → Came q i m
    to_entry : (n : ℕ) (x : Rule ℕ) → nth machine.rules n ≡ Some x → IsEntry machine x.to m
        → BeforeWrite n x (writes_of x) [] q i → Came q i m
    at_read : (n : ℕ) (x : Rule ℕ) → nth machine.rules n ≡ Some x → (a r : List (ℕ × ℕ)) (p v : ℕ × ℕ)
        → reads_of x ≡ a ++ (p ∷ (v ∷ r))
        → m ≡ to_read x.from (a ++ (p ∷ [])) v
        → q ≡ Reads x.from (symbols_read a) → i ≡ Tape p.0 (Answer p.1) → Came q i m
    at_shift : (n : ℕ) (x : Rule ℕ) → nth machine.rules n ≡ Some x → (a r : List (ℕ × Side)) (p : ℕ × Side)
        → shifts_of x ≡ a ++ (p ∷ r) → m ≡ to_shift n p
        → BeforeShift n x a q i → Came q i m
    at_write : (n : ℕ) (x : Rule ℕ) → nth machine.rules n ≡ Some x → (a r : List (ℕ × ℕ)) (p : ℕ × ℕ)
        → writes_of x ≡ a ++ (p ∷ r) → m ≡ to_write x.to p r
        → BeforeWrite n x a (p ∷ r) q i → Came q i m

  module _ (n : ℕ) (x : Rule ℕ) (isx : nth machine.rules n ≡ Some x) (e : ControlMove) (entry : IsEntry machine x.to e)
      (q : ControlState) (i : ControlLine) (m : ControlMove) where
    -- where these writes are left
    came_writes : (a r : List (ℕ × ℕ)) → writes_of x ≡ a ++ r → BeforeWrite n x a r q i → m ≡ to_writes e x.to r
        → Came q i m
    came_writes a [] split before is =
        let whole : a ≡ writes_of x = sym (split ∙ append-nil a) in
        let there : IsEntry machine x.to m = rw is entry in
        to_entry n x isx there (rw whole at before)
    came_writes a (p ∷ r) split before is = at_write n x isx a r p split is before

    -- where these shifts are left
    came_shifts : (a r : List (ℕ × Side)) → shifts_of x ≡ a ++ r → BeforeShift n x a q i → m ≡ to_shifts e n x r
        → Came q i m
    came_shifts a [] split before is =
        let whole : a ≡ shifts_of x = sym (split ∙ append-nil a) in
        came_writes [] (writes_of x) refl (no_more refl (rw whole at before)) is
    came_shifts a (p ∷ r) split before is = at_shift n x isx a r p split is before

    -- where these reads are left
    came_reads : (a r : List (ℕ × ℕ)) (p : ℕ × ℕ) → reads_of x ≡ a ++ (p ∷ r) → q ≡ Reads x.from (symbols_read a)
        → i ≡ Tape p.0 (Answer p.1)
        → m ≡ to_reads e n x (a ++ (p ∷ [])) r → Came q i m
    came_reads a [] p split state line is = came_shifts [] (shifts_of x) refl
        (a_read refl (record { before = a; p = p; split = split; state = state; line = line })) is
    came_reads a (v ∷ r) p split state line is = at_read n x isx a r p v split is state line

  -- each move is seen from its target
  came : (q : ControlState) (i : ControlLine) (m : ControlMove) → ControlGoes machine q i m → Came q i m
  came q i m (begins isq isi entry) = from_begin isq isi entry
  came q i m (reads_on n x isx e entry a r p split isq isi is) = came_reads n x isx e entry q i m a r p split isq isi is
  came q i m (shifts_on n x isx e entry a r p split isq isi is) =
      came_shifts n x isx e entry q i m (a ++ (p ∷ [])) r (split ∙ sym (append_assoc a (p ∷ []) r))
      (a_shift a p refl isq isi) is
  came q i m (writes_on n x isx e entry a r p split isq isi is) =
      came_writes n x isx e entry q i m (a ++ (p ∷ [])) r (split ∙ sym (append_assoc a (p ∷ []) r))
      (a_write a p refl isq isi) is

  -- a shift that comes after something is no state's first
  no_shift : (s : ℕ) (n : ℕ) (x : Rule ℕ) (a r : List (ℕ × Side)) (p : ℕ × Side) (q : ControlState) (i : ControlLine)
      → nth machine.rules n ≡ Some x
      → shifts_of x ≡ a ++ (p ∷ r)
      → BeforeShift n x a q i → IsEntry machine s (to_shift n p) → ⊥
  no_shift s n x a r p q i isx split (a_read e w) is = not_empty w.before w.p []
      (sym w.split ∙ (first_shift machine n x p.0 isx s (to_shift n p) is refl).0)
  no_shift s n x a r p q i isx split (a_shift b v e state line) is =
      let first = (first_shift machine n x p.0 isx s (to_shift n p) is refl).1 in
      let one = alone (deeds_of x) 1 a [] r first.1 p first.0 split first.2 (sym first.3) in
      not_empty b v [] (sym e ∙ one.0)

  module _ (u : IsUniformMachine machine) where
    -- before writes of the same tapes and symbols
    one_write : (n j : ℕ) (x y : Rule ℕ) (a b r s : List (ℕ × ℕ)) (q t : ControlState) (i k : ControlLine)
        → nth machine.rules n ≡ Some x
        → nth machine.rules j ≡ Some y → x.to ≡ y.to
        → writes_of x ≡ a ++ r → writes_of y ≡ b ++ s → tapes a ≡ tapes b → symbols_read r ≡ symbols_read s
        → BeforeWrite n x a r q i → BeforeWrite j y b s t k
        → (q ≡ t) × (i ≡ k)
    one_write n j x y a b r s q t i k isx isy next ea eb ts ss (no_more e f) (no_more g h) =
        let wx : writes_of x ≡ r = ea ∙ ap (λ l. l ++ r) e in
        let wy : writes_of y ≡ s = eb ∙ ap (λ l. l ++ s) g in
        let both : symbols_read (writes_of x) ≡ symbols_read (writes_of y) =
        ap symbols_read wx ∙ ss ∙ sym (ap symbols_read wy) in
        let number = same_range machine u n j x y isx isy next both in
        let same = same_quad machine u n j x y isx isy number in
        let back = sym number in
        let quad = sym same in
        one_shift n x (shifts_of x) q t i k f (rw (back, quad) at h)
    one_write n j x y a b r s q t i k isx isy next ea eb ts ss (no_more e f) (a_write c p g state line) =
        let none : tapes (c ++ (p ∷ [])) ≡ [] = sym (ap tapes g) ∙ sym ts ∙ ap tapes e in absurd (tapes_some c p none)
      where
        tapes_some : (c : List (ℕ × ℕ)) (p : ℕ × ℕ) → tapes (c ++ (p ∷ [])) ≢ []
        tapes_some [] p e = cc
        tapes_some (z ∷ c) p e = cc
    one_write n j x y a b r s q t i k isx isy next ea eb ts ss (a_write c p g state line) (no_more e f) =
        let none : tapes (c ++ (p ∷ [])) ≡ [] = sym (ap tapes g) ∙ ts ∙ ap tapes e in absurd (tapes_some c p none)
      where
        tapes_some : (c : List (ℕ × ℕ)) (p : ℕ × ℕ) → tapes (c ++ (p ∷ [])) ≢ []
        tapes_some [] p e = cc
        tapes_some (z ∷ c) p e = cc
    one_write n j x y a b r s q t i k isx isy next ea eb ts ss (a_write c p g state line) (a_write d v h state2 line2) =
        let both : tapes (c ++ (p ∷ [])) ≡ tapes (d ++ (v ∷ [])) = sym (ap tapes g) ∙ ts ∙ ap tapes h in
        let ends = (split_right c d (p ∷ []) (v ∷ []) refl both).1 in
        let tape : p.0 ≡ v.0 = cc in
        (cc, cc)

    -- what leads to one target comes from one state, by one line
    origin : (q r : ControlState) (i j : ControlLine) (m : ControlMove) → Came q i m → Came r j m → (q ≡ r) × (i ≡ j)
    origin q r i j m (from_begin isq isi entry) (from_begin isq2 isi2 entry2) = (cc, cc)
    origin q r i j m (from_begin isq isi entry) (to_entry n x isx entry2 b) =
        absurd (u.uniform.initial.none n x isx (one_state machine u x.to (initial_of machine.rules) m entry2 entry))
    origin q r i j m (from_begin isq isi entry) (at_read n x isx a s p v e is state line) =
        absurd (no_read machine x.from a p (initial_of machine.rules) (to_read x.from (a ++ (p ∷ [])) v)
        (rw is at entry) refl)
    origin q r i j m (from_begin isq isi entry) (at_shift n x isx a s p e is b) =
        absurd (no_shift (initial_of machine.rules) n x a s p r j isx e b (rw is at entry))
    origin q r i j m (from_begin isq isi entry) (at_write n x isx a s p e is b) =
        absurd (no_write machine x.to p.0 (symbols_read s) (initial_of machine.rules) (to_write x.to p s)
        (rw is at entry) refl)
    origin q r i j m (to_entry n x isx entry b) (from_begin isq isi entry2) =
        absurd (u.uniform.initial.none n x isx (one_state machine u x.to (initial_of machine.rules) m entry entry2))
    origin q r i j m (to_entry n x isx entry b) (to_entry k y isy entry2 d) =
        let next = one_state machine u x.to y.to m entry entry2 in
        one_write n k x y (writes_of x) (writes_of y) [] [] q r i j isx isy next (sym (append-nil (writes_of x)))
        (sym (append-nil (writes_of y)))
        (same_writes x y (write_mask machine u n k x y isx isy next)) refl b d
    origin q r i j m (to_entry n x isx entry b) (at_read k y isy a s p v e is state line) =
        absurd (no_read machine y.from a p x.to (to_read y.from (a ++ (p ∷ [])) v) (rw is at entry) refl)
    origin q r i j m (to_entry n x isx entry b) (at_shift k y isy a s p e is d) =
        absurd (no_shift x.to k y a s p r j isy e d (rw is at entry))
    origin q r i j m (to_entry n x isx entry b) (at_write k y isy a s p e is d) =
        absurd (no_write machine y.to p.0 (symbols_read s) x.to (to_write y.to p s) (rw is at entry) refl)
    origin q r i j m (at_read n x isx a s p v e is state line) (from_begin isq isi entry) =
        absurd (no_read machine x.from a p (initial_of machine.rules) (to_read x.from (a ++ (p ∷ [])) v)
        (rw is at entry) refl)
    origin q r i j m (at_read n x isx a s p v e is state line) (to_entry k y isy entry d) =
        absurd (no_read machine x.from a p y.to (to_read x.from (a ++ (p ∷ [])) v) (rw is at entry) refl)
    origin q r i j m (at_read n x isx a s p v e is state line) (at_read k y isy c t w z f is2 state2 line2) =
        let both : to_read x.from (a ++ (p ∷ [])) v ≡ to_read y.from (c ++ (w ∷ [])) z = sym is ∙ is2 in
        let states = ap (λ (k : ControlMove). k.0) both in
        let from : x.from ≡ y.from = cc in
        let syms : symbols_read (a ++ (p ∷ [])) ≡ symbols_read (c ++ (w ∷ [])) = cc in
        let parted = sym (map-append (λ (k : ℕ × ℕ). k.1) a (p ∷ [])) ∙ syms
        ∙ map-append (λ (k : ℕ × ℕ). k.1) c (w ∷ []) in
        let more = last (symbols_read a) (symbols_read c) p.1 w.1 parted in
        let before = more.0 in
        let here = more.1 in
        let masks = same_reads (deeds_of x) (deeds_of y) 1 (read_mask machine u n k x y isx isy from) in
        let all : tapes (a ++ (p ∷ (v ∷ s))) ≡ tapes (c ++ (w ∷ (z ∷ t))) = sym (ap tapes e) ∙ masks ∙ ap tapes f in
        let rest = (split a c (p ∷ (v ∷ s)) (w ∷ (z ∷ t)) before all).1 in
        let tape : p.0 ≡ w.0 = cc in
        (cc, cc)
    origin q r i j m (at_read n x isx a s p v e is state line) (at_shift k y isy c t w f is2 d) = let both =
        ap (λ (k : ControlMove). k.0) (sym is ∙ is2) in cc
    origin q r i j m (at_read n x isx a s p v e is state line) (at_write k y isy c t w f is2 d) = let both =
        ap (λ (k : ControlMove). k.0) (sym is ∙ is2) in cc
    origin q r i j m (at_shift n x isx a s p e is b) (from_begin isq isi entry) =
        absurd (no_shift (initial_of machine.rules) n x a s p q i isx e b (rw is at entry))
    origin q r i j m (at_shift n x isx a s p e is b) (to_entry k y isy entry d) =
        absurd (no_shift y.to n x a s p q i isx e b (rw is at entry))
    origin q r i j m (at_shift n x isx a s p e is b) (at_read k y isy c t w z f is2 state line) = let both =
        ap (λ (k : ControlMove). k.0) (sym is ∙ is2) in cc
    origin q r i j m (at_shift n x isx a s p e is b) (at_shift k y isy c t w f is2 d) =
        let both : Shifts n p.0 ≡ Shifts k w.0 = ap (λ (v : ControlMove). v.0) (sym is ∙ is2) in
        let number : n ≡ k = cc in
        let tape : p.0 ≡ w.0 = cc in
        let same = same_quad machine u n k x y isx isy number in
        let ey : shifts_of x ≡ c ++ (w ∷ t) = rw same f in
        let one = (alone (deeds_of x) 1 a c s t p w e ey tape).0 in
        let back = sym number in
        let quad = sym same in
        let front = sym one in
        one_shift n x a q r i j b (rw (back, quad, front) at d)
    origin q r i j m (at_shift n x isx a s p e is b) (at_write k y isy c t w f is2 d) = let both =
        ap (λ (k : ControlMove). k.0) (sym is ∙ is2) in cc
    origin q r i j m (at_write n x isx a s p e is b) (from_begin isq isi entry) =
        absurd (no_write machine x.to p.0 (symbols_read s) (initial_of machine.rules) (to_write x.to p s)
        (rw is at entry) refl)
    origin q r i j m (at_write n x isx a s p e is b) (to_entry k y isy entry d) =
        absurd (no_write machine x.to p.0 (symbols_read s) y.to (to_write x.to p s) (rw is at entry) refl)
    origin q r i j m (at_write n x isx a s p e is b) (at_read k y isy c t w z f is2 state line) = let both =
        ap (λ (k : ControlMove). k.0) (sym is ∙ is2) in cc
    origin q r i j m (at_write n x isx a s p e is b) (at_shift k y isy c t w f is2 d) = let both =
        ap (λ (k : ControlMove). k.0) (sym is ∙ is2) in cc
    origin q r i j m (at_write n x isx a s p e is b) (at_write k y isy c t w f is2 d) =
        let whole : to_write x.to p s ≡ to_write y.to w t = sym is ∙ is2 in
        let both = ap (λ (v : ControlMove). v.0) whole in
        let lines = ap (λ (v : ControlMove). v.1) whole in
        let next : x.to ≡ y.to = cc in
        let rest : symbols_read s ≡ symbols_read t = cc in
        let here : p.1 ≡ w.1 = cc in
        let more : symbols_read (p ∷ s) ≡ symbols_read (w ∷ t) = cc in
        let masks = same_writes x y (write_mask machine u n k x y isx isy next) in
        let all : tapes (a ++ (p ∷ s)) ≡ tapes (c ++ (w ∷ t)) = sym (ap tapes e) ∙ masks ∙ ap tapes f in
        let front = (split_right a c (p ∷ s) (w ∷ t) (same_length (p ∷ s) (w ∷ t) more) all).0 in
        one_write n k x y a c (p ∷ s) (w ∷ t) q r i j isx isy next e f front more b d

-- a state and an output line come from one move
pub back : (machine : Quadruples) (u : IsUniformMachine machine) (q r : ControlState) (i j : ControlLine)
    (m : ControlMove) → ControlGoes machine q i m
    → ControlGoes machine r j m → (q ≡ r) × (i ≡ j)
back machine u q r i j m f g = origin machine u q r i j m (came machine q i m f) (came machine r j m g)

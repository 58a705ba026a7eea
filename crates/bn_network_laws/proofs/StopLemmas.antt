-- A quadruple's commands, and the control's way over them.
use Rattle.std.specs.Prelude.{◌≡◌, ℕ, List, [], ◌∷◌, ◌++◌, Some, refl}
use Rattle.std.proofs.Common.{sym, ap, subst, ◌∙◌, append_assoc}
use Rattle.bn_lists.specs.Lists.{nth}
use Rattle.bn_machine.specs.declared.quint.Side.{Side}
use Rattle.bn_quad.specs.Quadruples.{Rule, Quadruples}
use Rattle.bn_network.specs.declared.cell_line.CellLine.{CellLine}
use Rattle.bn_network.specs.declared.cell_line.CellLine.TheVariants.{Read, Write, Answer, DoneWrite}
use Rattle.bn_network.specs.Controls.{ControlState, ControlMove, Reads, Shifts, Writes, IsEntry, Occurs, reads_on}
use Rattle.bn_network.specs.Controls.{shifts_on, writes_on, reads_of, shifts_of, writes_of, symbols_read, shift_line}
use Rattle.bn_network.specs.Controls.{done_line, to_reads, to_shifts, to_writes}
use Rattle.bn_network.proofs.OrderLemmas.{first_shift, no_read, no_write}
use Rattle.bn_network_laws.proofs.OrderLemmas.{no_shift, occurs_entry, occurs_reads, occurs_shifts, occurs_writes}
use Rattle.bn_network_laws.proofs.ChainLemmas.{Stop, lead, IsLater, AreStops}

-- a command with the state that awaits its answer
abbrev pub stop_at : ControlState → ℕ → CellLine → CellLine → Stop
stop_at q t c a = record { state = q; tape = t; command = c; answer = a }

-- the commands of writes
abbrev pub write_stops : ℕ → List (ℕ × ℕ) → List Stop
write_stops a [] = []
write_stops a (p ∷ rest) = stop_at (Writes a p.0 (symbols_read rest)) p.0 (Write p.1) DoneWrite ∷ write_stops a rest

-- the commands of shifts, with others after them
abbrev pub shift_stops : ℕ → List (ℕ × Side) → List Stop → List Stop
shift_stops n [] after = after
shift_stops n (p ∷ rest) after = stop_at (Shifts n p.0) p.0 (shift_line p.1) (done_line p.1) ∷ shift_stops n rest after

-- the commands of reads, with others after them
abbrev pub read_stops : ℕ → List (ℕ × ℕ) → List (ℕ × ℕ) → List Stop → List Stop
read_stops a before [] after = after
read_stops a before (p ∷ rest) after = stop_at (Reads a (symbols_read before)) p.0 Read (Answer p.1)
    ∷ read_stops a (before ++ (p ∷ [])) rest after

-- all commands of a quadruple
abbrev pub stops_of : ℕ → Rule ℕ → List Stop
stops_of n r = read_stops r.from [] (reads_of r) (shift_stops n (shifts_of r) (write_stops r.to (writes_of r)))

-- the first of the writes
pub lead_writes : (e : ControlMove) (a : ℕ) (rest : List (ℕ × ℕ)) → lead e (write_stops a rest) ≡ to_writes e a rest
lead_writes e a [] = refl
lead_writes e a (p ∷ rest) = refl

-- the first of the shifts
pub lead_shifts : (e : ControlMove) (n : ℕ) (r : Rule ℕ) (rest : List (ℕ × Side))
    → lead e (shift_stops n rest (write_stops r.to (writes_of r))) ≡ to_shifts e n r rest
lead_shifts e n r [] = lead_writes e r.to (writes_of r)
lead_shifts e n r (p ∷ rest) = refl

-- the first of the reads
pub lead_reads : (e : ControlMove) (n : ℕ) (r : Rule ℕ) (before rest : List (ℕ × ℕ))
    → lead e (read_stops r.from before rest (shift_stops n (shifts_of r) (write_stops r.to (writes_of r))))
    ≡ to_reads e n r before rest
lead_reads e n r before [] = lead_shifts e n r (shifts_of r)
lead_reads e n r before (p ∷ rest) = refl

module _ (m : Quadruples) (n : ℕ) (r : Rule ℕ) (stands : nth m.rules n ≡ Some r) (e : ControlMove)
    (entry : IsEntry m r.to e) where
  -- a write is no state's first command
  writes_later : (rest : List (ℕ × ℕ)) → IsLater m (write_stops r.to rest)
  writes_later [] = tt
  writes_later (p ∷ rest) = no_write m r.to p.0 (symbols_read rest)

  -- nor is what follows a shift
  shifts_later : (before rest : List (ℕ × Side)) (p : ℕ × Side) → shifts_of r ≡ (before ++ (p ∷ [])) ++ rest
      → IsLater m (shift_stops n rest (write_stops r.to (writes_of r)))
  shifts_later before [] p split = writes_later (writes_of r)
  shifts_later before (q ∷ rest) p split = no_shift m n r before rest p q stands split

  -- nor what follows the last read
  after_reads : (ss : List (ℕ × Side)) → (reads_of r ≡ [] → ⊥)
      → IsLater m (shift_stops n ss (write_stops r.to (writes_of r)))
  after_reads [] some = writes_later (writes_of r)
  after_reads (q ∷ ss) some = λ a k is h. some (first_shift m n r q.0 stands a k is h).0

  -- there was a read
  some_reads : (before : List (ℕ × ℕ)) (p : ℕ × ℕ) → reads_of r ≡ before ++ (p ∷ []) → reads_of r ≡ [] → ⊥
  some_reads [] p split none = cc
  some_reads (b ∷ before) p split none = cc

  -- nor what follows a read
  reads_later : (before rest : List (ℕ × ℕ)) (p : ℕ × ℕ) → reads_of r ≡ (before ++ (p ∷ [])) ++ rest
      → IsLater m (read_stops r.from (before ++ (p ∷ [])) rest (shift_stops n (shifts_of r)
      (write_stops r.to (writes_of r))))
  reads_later before [] p split = after_reads (shifts_of r) (some_reads before p (split ∙ nothing (before ++ (p ∷ []))))
    where
      nothing : (xs : List (ℕ × ℕ)) → xs ++ [] ≡ xs
      nothing [] = refl
      nothing (x ∷ xs) = ap (λ (ys : List (ℕ × ℕ)). x ∷ ys) (nothing xs)
  reads_later before (q ∷ rest) p split = no_read m r.from before p

  -- over the writes
  write_are : (rest before : List (ℕ × ℕ)) → writes_of r ≡ before ++ rest → AreStops m e (write_stops r.to rest)
  write_are [] before split = tt
  write_are (p ∷ rest) before split =
      let next : writes_of r ≡ (before ++ (p ∷ [])) ++ rest = split ∙ sym (append_assoc before (p ∷ []) rest) in (
        writes_on n r stands e entry before rest p split refl refl (lead_writes e r.to rest),
        subst (λ (k : ControlMove). Occurs m k.0) (sym (lead_writes e r.to rest))
            (occurs_writes m n r stands e (occurs_entry m r.to e entry) rest (before ++ (p ∷ [])) next),
        writes_later rest,
        write_are rest (before ++ (p ∷ [])) next,
      )

  -- over the shifts
  shift_are : (rest before : List (ℕ × Side)) → shifts_of r ≡ before ++ rest
      → AreStops m e (shift_stops n rest (write_stops r.to (writes_of r)))
  shift_are [] before split = write_are (writes_of r) [] refl
  shift_are (p ∷ rest) before split =
      let next : shifts_of r ≡ (before ++ (p ∷ [])) ++ rest = split ∙ sym (append_assoc before (p ∷ []) rest) in (
        shifts_on n r stands e entry before rest p split refl refl (lead_shifts e n r rest),
        subst (λ (k : ControlMove). Occurs m k.0) (sym (lead_shifts e n r rest))
            (occurs_shifts m n r stands e (occurs_entry m r.to e entry) rest (before ++ (p ∷ [])) next),
        shifts_later before rest p next,
        shift_are rest (before ++ (p ∷ [])) next,
      )

  -- over the reads
  read_are : (rest before : List (ℕ × ℕ)) → reads_of r ≡ before ++ rest
      → AreStops m e (read_stops r.from before rest (shift_stops n (shifts_of r) (write_stops r.to (writes_of r))))
  read_are [] before split = shift_are (shifts_of r) [] refl
  read_are (p ∷ rest) before split =
      let next : reads_of r ≡ (before ++ (p ∷ [])) ++ rest = split ∙ sym (append_assoc before (p ∷ []) rest) in (
        reads_on n r stands e entry before rest p split refl refl (lead_reads e n r (before ++ (p ∷ [])) rest),
        subst (λ (k : ControlMove). Occurs m k.0) (sym (lead_reads e n r (before ++ (p ∷ [])) rest))
            (occurs_reads m n r stands e (occurs_entry m r.to e entry) rest (before ++ (p ∷ [])) next),
        reads_later before rest p next,
        read_are rest (before ++ (p ∷ [])) next,
      )

  -- the control goes over the commands of its quadruple
  pub stops_are : AreStops m e (stops_of n r)
  stops_are = read_are (reads_of r) [] refl

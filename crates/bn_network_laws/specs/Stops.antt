-- The read at which a machine of quadruples is stuck, and the place where its network then stops (own to this
-- project).
use Rattle.std.specs.Prelude.{◌≡◌, ℕ, zero, suc, ◌<◌, List, [], ◌∷◌, Some}
use Rattle.bn_lists.specs.Lists.{nth}
use Rattle.bn_circuits.specs.declared.place.Place.TheVariants.{Enter}
use Rattle.bn_circuits.specs.Situations.{Situation}
use Rattle.bn_machine.specs.Tape.{scanned, write}
use Rattle.bn_machine.specs.Outcome.{Limits}
use Rattle.bn_quad.specs.Quadruples.{Deed, Rewrite, Move, Rule, Configuration, Quadruples, DeedApplies}
use Rattle.bn_network.specs.declared.cell_line.CellLine.TheVariants.{Answer}
use Rattle.bn_network.specs.Controls.{ControlState, Reads, Tape as to_tape, reads, symbols_read, symbol_count}
use Rattle.bn_network.specs.Controls.{in_number}
use Rattle.bn_network.specs.Networks.{IsTape, IsControlAt, ShowsTapes}
use Rattle.bn_network_laws.specs.Ends.{tape_of, put_tape, read_by}

-- the deed reads
abbrev pub DeedReads : Deed → Type 0
DeedReads (Rewrite read written) = Unit {0}
DeedReads (Move s) = ⊥

-- a quadruple's deed on a tape, counted from 1
abbrev pub deed_at : Rule ℕ → ℕ → Deed
deed_at r zero = r.one
deed_at r (suc zero) = r.one
deed_at r (suc (suc zero)) = r.two
deed_at r (suc (suc (suc t))) = r.three

-- a quadruple's deeds on the tapes before this one
abbrev pub deeds_before : Rule ℕ → ℕ → List Deed
deeds_before r zero = []
deeds_before r (suc zero) = []
deeds_before r (suc (suc zero)) = r.one ∷ []
deeds_before r (suc (suc (suc t))) = r.one ∷ r.two ∷ []

-- the quadruple's deeds apply on the tapes before this one
abbrev pub AdmitsBefore : Rule ℕ → Configuration ℕ → ℕ → Type 0
AdmitsBefore r c zero = Unit {0}
AdmitsBefore r c (suc zero) = Unit {0}
AdmitsBefore r c (suc (suc zero)) = DeedApplies r.one c.one
AdmitsBefore r c (suc (suc (suc t))) = DeedApplies r.one c.one × DeedApplies r.two c.two

-- The machine is stuck at the read of tape t: a quadruple that leaves its state applies on the tapes before t, and
-- reads t; and no quadruple that leaves the state and applies on the tapes before t applies on t.
pub record IsStuckAtRead (m : Quadruples) (c : Configuration ℕ) (t : ℕ) : Type 0 where
  pub tape : IsTape t
  pub number : ℕ
  pub rule : Rule ℕ
  pub stands : nth m.rules number ≡ Some rule
  pub from : rule.from ≡ c.state
  pub before : AdmitsBefore rule c t
  pub reads_it : DeedReads (deed_at rule t)
  pub none : (n : ℕ) (r : Rule ℕ) → nth m.rules n ≡ Some r → r.from ≡ c.state → AdmitsBefore r c t
      → DeedApplies (deed_at r t) (tape_of c t) → ⊥

-- the symbols that a quadruple reads on the tapes before this one, by rising tape
abbrev pub symbols_before : Rule ℕ → ℕ → List ℕ
symbols_before r t = symbols_read (reads 1 (deeds_before r t))

-- the configuration without the symbols that a quadruple reads on the tapes before this one
abbrev pub taken_before : Rule ℕ → Configuration ℕ → ℕ → Configuration ℕ
taken_before r c zero = c
taken_before r c (suc zero) = c
taken_before r c (suc (suc zero)) = put_tape c 1 (read_by r.one c.one)
taken_before r c (suc (suc (suc t))) = put_tape (put_tape c 1 (read_by r.one c.one)) 2 (read_by r.two c.two)

-- the configuration without those symbols and the symbol that this tape's head scans
abbrev pub taken_to : Rule ℕ → Configuration ℕ → ℕ → Configuration ℕ
taken_to r c t = put_tape (taken_before r c t) t (write (tape_of c t) 0)

-- The network has stopped at the reply to that read: the control waits for it, after the symbols of the tapes before,
-- and the cells show the tapes without the symbols that were read.
pub record StopsAtRead (m : Quadruples) (l : Limits) (names : List ControlState) (s : Situation)
    (c : Configuration ℕ) (t : ℕ) (rule : Rule ℕ) : Type 0 where
  pub place : s.place ≡ Enter 0 (in_number m (to_tape t (Answer (scanned (tape_of c t)))))
  pub control : IsControlAt names s.states (Reads c.state (symbols_before rule t))
  pub symbol : scanned (tape_of c t) < symbol_count m t
  pub shows : ShowsTapes m l s.states (taken_to rule c t)

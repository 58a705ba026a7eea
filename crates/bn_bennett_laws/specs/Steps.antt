-- Runs of a list of quadruples (`Rule`) over states of any type, within rooms, and how they end.
use Rattle.std.specs.Prelude.{◌≡◌, ◌≢◌, ℕ, zero, suc, List, Some, ℤ}
use Rattle.bn_lists.specs.Runs.{Reaches}
use Rattle.bn_machine.specs.Window.{Room, anywhere, within, Allows, IsBeyond}
use Rattle.bn_lists.specs.Lists.{nth}
use Rattle.bn_machine.specs.declared.quint.Side.{Side}
use Rattle.bn_quad.specs.Quadruples.{Rule, Configuration, DeedApplies, Follows, HasNoRule, Rooms, AreAllowed}

-- One step: the state is not the final one, a quadruple of the list leads from c to d, and the rooms allow the head
-- positions of d.
pub record Steps {Q : Type 0} (rooms : Rooms) (rs : List (Rule Q)) (final : Q) (c d : Configuration Q) : Type 0 where
  pub going : c.state ≢ final
  pub follows : Follows rs c d
  pub stays : AreAllowed rooms d

-- the position is outside the room, beyond this end
abbrev pub IsOutside : Room → Side → ℤ → Type 0
IsOutside anywhere side p = ⊥
IsOutside (within left right) side p = IsBeyond left right side p

-- the first tape, counted from 1, whose room does not allow the position of its head in d is this one, and that head
-- is beyond this end
abbrev pub IsFirstOutside : {Q : Type 0} → Rooms → Configuration Q → ℕ → Side → Type 0
IsFirstOutside rooms d (suc zero) side = IsOutside rooms.one side d.one.head
IsFirstOutside rooms d (suc (suc zero)) side = Allows rooms.one d.one.head × IsOutside rooms.two side d.two.head
IsFirstOutside rooms d (suc (suc (suc zero))) side = Allows rooms.one d.one.head × Allows rooms.two d.two.head
    × IsOutside rooms.three side d.three.head
IsFirstOutside rooms d _ side = ⊥

-- No quadruple that leaves this state applies on tape 1: each reads another symbol there. Therefore no quadruple
-- applies, whatever the other tapes contain.
pub record HasNoFirstRead {Q : Type 0} (rs : List (Rule Q)) (c : Configuration Q) : Type 0 where
  pub none : (n : ℕ) (r : Rule Q) → nth rs n ≡ Some r → c.state ≡ r.from → DeedApplies r.one c.one → ⊥

-- How a run within rooms ends: in the final state (`Finished`); in another state where no quadruple applies
-- (`Stopped`); or where the quadruple that applies would move the head of this tape out of its room at this end
-- (`Leaving`).
pub data Exit : Type 0 where
  Finished : Exit
  Stopped : Exit
  Leaving : ℕ → Side → Exit

-- the run ends at c, for this reason
pub data EndsAt {Q : Type 0} (rooms : Rooms) (rs : List (Rule Q)) (final : Q) (c : Configuration Q)
    (e : Exit) : Type 0 where
  finishes : c.state ≡ final → e ≡ Finished → EndsAt rooms rs final c e
  stops : c.state ≢ final → HasNoRule rs c → e ≡ Stopped → EndsAt rooms rs final c e
  leaves : (tape : ℕ) (side : Side) (d : Configuration Q) → c.state ≢ final → Follows rs c d
      → IsFirstOutside rooms d tape side → e ≡ Leaving tape side → EndsAt rooms rs final c e

-- from c exactly n steps lead to d, and the run ends there in this way
pub record HasExit {Q : Type 0} (rooms : Rooms) (rs : List (Rule Q)) (final : Q) (n : ℕ) (c d : Configuration Q)
    (e : Exit) : Type 0 where
  pub run : Reaches (Steps rooms rs final) n c d
  pub ends : EndsAt rooms rs final d e

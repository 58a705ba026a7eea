-- Where `go` and `rev` stop, by the definition of a moment; steps forward and back; one text for each circuit.
use Rattle.std.specs.Prelude.{◌≡◌, ℕ, ◌+◌, ◌-◌, ◌<◌, ◌≤◌, true, List, [], ◌∷◌, ◌++◌, Option, None, Some}
use Rattle.bn_lists.specs.Runs.{Reaches}
use Rattle.bn_circuits.specs.Circuits.{Goes}
use Rattle.bn_circuits.specs.declared.config.Config.{Config}
use Rattle.bn_circuits.specs.RotaryNets.{rotary_circuit}
use Rattle.bn_machine.specs.Machine.{Program}
use Rattle.bn_machine.specs.Outcome.{Limits}
use Rattle.bn_table.specs.Rows.{Named}
use Rattle.bn_bennett.specs.Translation.{Translation}
use Rattle.bn_boards.specs.Flats.{Flat, IsAccepted, IsFlatOf, flat_start}
use Rattle.bn_board.specs.Flattened.{Flattened, IsReached}
use Rattle.bn_reply_relations.specs.RunReply.{board_after}
use Rattle.bn_session.specs.Breakpoints.{Breakpoint, some_holds}
use Rattle.bn_session.specs.Laws.{IsOnRun}
use Rattle.bn_session.specs.Plays.{Session, place_line}
use Rattle.bn_session.specs.declared.command.Command.TheVariants.{Step, Back, Go, Rev}
use Rattle.bn_view.specs.Viewed.{Comes}
use Rattle.bn_reply_views.specs.SessionLaws.{PlaysOneWithLayers, PlaysWithLayers}
use Rattle.bn_reply_views.specs.Viewing.{MayShow, ShowsLayers}

-- what is reported of moments after u steps from the start: the state of the moment, or none
pub data IsMomentAfter (f : Flat) (u : ℕ) (o : Option ℕ) : Type 0 where
  at_moment : (a : ℕ) → Comes f u a → o ≡ Some a → IsMomentAfter f u o
  no_moment : ((a : ℕ) → Comes f u a → ⊥) → o ≡ None → IsMomentAfter f u o

-- after u steps one of the breakpoints holds
pub record IsHit (f : Flat) (breaks : List Breakpoint) (u : ℕ) : Type 0 where
  pub moment : Option ℕ
  pub is_moment : IsMomentAfter f u moment
  pub holds : some_holds (board_after f u).place moment breaks ≡ true

-- From this number of steps on, within e more, d is the first configuration at which a breakpoint holds; or none holds,
-- and d is the configuration after e steps.
pub data IsNextHit (f : Flat) (breaks : List Breakpoint) (from e : ℕ) (d : Config) : Type 0 where
  at_next : (t : ℕ) → from < t → t ≤ from + e → Reaches (Goes f.circuit) t (flat_start f) d → IsHit f breaks t
      → ((u : ℕ) → from < u → u < t → IsHit f breaks u → ⊥) → IsNextHit f breaks from e d
  no_next : d ≡ board_after f (from + e)
      → ((u : ℕ) (x : Config) → from < u → u ≤ from + e → Reaches (Goes f.circuit) u (flat_start f) x
      → IsHit f breaks u → ⊥) → IsNextHit f breaks from e d

-- the same backward
pub data IsLastHit (f : Flat) (breaks : List Breakpoint) (from e : ℕ) (d : Config) : Type 0 where
  at_last : (t : ℕ) → t < from → from ≤ t + e → d ≡ board_after f t → IsHit f breaks t
      → ((u : ℕ) → t < u → u < from → IsHit f breaks u → ⊥) → IsLastHit f breaks from e d
  no_last : d ≡ board_after f (from - e) → ((u : ℕ) → u < from → from ≤ u + e → IsHit f breaks u → ⊥)
      → IsLastHit f breaks from e d

-- `go` stops at the least later step, within its number, at which a breakpoint holds
abbrev pub GoesStopAtNextHit : Type 0
GoesStopAtNextHit =
    (p : Program) (word : List ℕ) (l : Limits) (f : Flat) → IsFlatOf p word l f → IsAccepted p word l f
    → (t : Named) (e : ℕ) (s end : Session) (text : List ℕ) → IsOnRun f.circuit (flat_start f) s
    → PlaysOneWithLayers t f (Go e) s end text → IsNextHit f s.breaks s.config.steps e end.config

-- `rev` stops at the greatest earlier one
abbrev pub RevsStopAtLastHit : Type 0
RevsStopAtLastHit =
    (p : Program) (word : List ℕ) (l : Limits) (f : Flat) → IsFlatOf p word l f → IsAccepted p word l f
    → (t : Named) (e : ℕ) (s end : Session) (text : List ℕ) → IsOnRun f.circuit (flat_start f) s
    → PlaysOneWithLayers t f (Rev e) s end text → IsLastHit f s.breaks s.config.steps e end.config

-- if r + s steps can be made, `step r + s` followed by `back s` leaves the session where `step r` does, and reports the
-- same
abbrev pub StepsTakenBackAreSteps : Type 0
StepsTakenBackAreSteps =
    (p : Program) (word : List ℕ) (l : Limits) (f : Flat) → IsFlatOf p word l f → (t : Named) (r s : ℕ)
    (x y z : Session) (d : Config) (text other : List ℕ) → Reaches (Goes f.circuit) (r + s) x.config d
    → PlaysWithLayers t f (Step (r + s) ∷ Back s ∷ []) x y text → PlaysWithLayers t f (Step r ∷ []) x z other
    → (y ≡ z) × (text ≡ place_line d None ++ other)

-- a circuit that can be shown has at most one text
abbrev pub BoardsShowOneText : Type 0
BoardsShowOneText =
    (t : Named) (m : Translation) (b : Flattened) (text other : List ℕ) → IsReached (rotary_circuit b.net) b.config
    → MayShow t m b → ShowsLayers t m b text → ShowsLayers t m b other → text ≡ other

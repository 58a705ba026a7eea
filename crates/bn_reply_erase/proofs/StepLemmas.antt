-- Steps in windows, one after another.
use Rattle.std.specs.Prelude.{◌≡◌, ℕ, ◌+◌, ◌<◌, refl}
use Rattle.std.proofs.Common.{subst, arith}
use Rattle.bn_lists.proofs.RunsLemmas.{runs_more}
use Rattle.bn_quad.specs.Quadruples.{QuadruplesRunTo, GoesBy, Quadruples, Rooms}
use Rattle.bn_quad.specs.Calls.{IsQuadTurn, configuration, rooms_of}
use Rattle.bn_quad.specs.declared.tapes.Tapes.{Tapes}
use Rattle.bn_quad.specs.declared.tapes.QuadTurn.{QuadTurn}
use Rattle.bn_quad.specs.declared.tapes.QuadTurn.TheVariants as turns
use Rattle.bn_bennett.proofs.CallByCall.{rooms_same, windows_on}
use Rattle.bn_reply_erase.specs.EraseRun.{IsRun, IsStep, Reached}

pub one_step_more : (p : Quadruples) (made state : ℕ) (w : Tapes) (at : ℕ) (v : Tapes) (quad after : ℕ) (u : Tapes)
    → Reached p made state w at v →
    IsQuadTurn p (turns.Moved quad) at v after u → Reached p (made + 1) state w after u
one_step_more p made state w at v quad after u r turn = record {
  same = windows_on w v u r.same turn.1;
  run =
      let step : GoesBy (rooms_of w) p quad (configuration at v) (configuration after u) =
      subst (λ (rooms : Rooms). GoesBy rooms p quad (configuration at v) (configuration after u))
      (rooms_same w v r.same) turn.0 in
      runs_more (QuadruplesRunTo (rooms_of w) p) made (configuration state w) (configuration at v)
      (configuration after u) r.run (quad, step);
}

-- a turn that is of no quadruple is no step
pub no_step : (turn : QuadTurn) → ((quad : ℕ) → turn ≡ turns.Moved quad → ⊥) → IsStep turn → ⊥
no_step turns.Final other step = step
no_step turns.Stuck other step = step
no_step (turns.Moved quad) other step = other quad refl
no_step (turns.Left tape side) other step = step

-- a turn that is no step comes early
pub early_turn : (p : Quadruples) (n made state : ℕ) (w : Tapes) (at : ℕ) (v : Tapes) (turn : QuadTurn) (after : ℕ)
    (u : Tapes) → made < n →
    Reached p made state w at v → IsQuadTurn p turn at v after u → (IsStep turn → ⊥)
    → IsRun p n state w made turn after u
early_turn p n made state w at v turn after u low r turn_is other =
    record { at = at; tapes = v; reached = r; in_time = omega arith; last = turn_is; early = λ h. other }

-- the turn behind the last of the steps that were asked for
pub last_turn : (p : Quadruples) (n made state : ℕ) (w : Tapes) (at : ℕ) (v : Tapes) (turn : QuadTurn) (after : ℕ)
    (u : Tapes) → made ≡ n →
    Reached p made state w at v → IsQuadTurn p turn at v after u → IsRun p n state w n turn after u
last_turn p n made state w at v turn after u e r turn_is = record {
  at = at;
  tapes = v;
  reached = subst (λ (i : ℕ). Reached p i state w at v) e r;
  in_time = omega arith;
  last = turn_is;
  early = λ h. absurd (omega arith);
}

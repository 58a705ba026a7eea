-- A board's configuration stays reached from its origin, after steps both ways.
use Rattle.std.specs.Prelude.{◌≡◌, ℕ, ◌+◌, Bool, true, false, refl}
use Rattle.std.specs.Bool.{OnTrue, OnFalse}
use Rattle.std.proofs.Common.{arith, sym, ap, subst, ◌∙◌}
use Rattle.bn_lists.specs.Runs.{Reaches}
use Rattle.bn_lists.proofs.RunsLemmas.{runs_join}
use Rattle.bn_circuits.specs.Circuits.{Circuit, IsCircuit, IsConfig, Goes}
use Rattle.bn_circuits.specs.Stepping.{back}
use Rattle.bn_circuits.proofs.RunLemmas.{Reaches-back, back_composes}
use Rattle.bn_boards.specs.Layouts.{Layout}
use Rattle.bn_circuits.specs.declared.config.Config.{Config}
use Rattle.bn_circuits.specs.declared.line.Line.{Line}
use Rattle.bn_circuits.proofs.RunPartLemmas.{runs_split, steps_of_run}
use Rattle.bn_element.specs.declared.rotary.Rotary.{Rotary}
use Rattle.bn_circuits.specs.Parts.{Parts}
use Rattle.bn_circuits.specs.RotaryNets.{rotary_circuit}
use Rattle.bn_packed.specs.PackedNets.{PackedNet}
use Rattle.bn_packed.specs.Running.{LeadsTo}
use Rattle.bn_packed.specs.declared.direction.Direction.{Direction}
use Rattle.bn_packed.specs.declared.direction.Direction.TheVariants.{Forward, Backward}
use Rattle.bn_board.specs.Flattened.{Flattened, origin_by, IsReached, IsSameBoard, IsBoardKept, IsOnNetwork}

module _ (k : Circuit) (circuit : IsCircuit k) where
  -- it is reached from the same origin
  pub record IsKeptOn (c d : Config) : Type 0 where
    pub reached : IsReached k d
    pub origin_is : origin_by k d ≡ origin_by k c

  origin_same : (n : ℕ) (c d : Config) → Reaches (Goes k) n c d → origin_by k d ≡ origin_by k c
  origin_same n c d run =
      let count : d.steps ≡ n + c.steps = (let h = steps_of_run k n c d run in omega arith) in
      back_composes k d n c.steps d.steps count ∙ ap (λ x. back k x c.steps) (Reaches-back k circuit n c d run)

  pub kept_on : (n : ℕ) (c d : Config) → IsReached k c → IsConfig k d → Reaches (Goes k) n c d → IsKeptOn c d
  kept_on n c d r good run =
      let count = steps_of_run k n c d run in
      let same = origin_same n c d run in
      let whole = runs_join (Goes k) d.steps c.steps n (origin_by k c) c d count r.reaches run in
      record {
        reached = record { good = good; reaches = subst (λ x. Reaches (Goes k) d.steps x d) (sym same) whole };
        origin_is = same;
      }

  pub kept_back : (n : ℕ) (c d : Config) → IsReached k c → IsConfig k d → Reaches (Goes k) n d c → IsKeptOn c d
  kept_back n c d r good run =
      let count = steps_of_run k n d c run in
      let same = origin_same n d c run in
      let parts = runs_split (Goes k) d.steps n c.steps (origin_by k c) c count r.reaches in
      let middle : parts.0 ≡ d = sym (Reaches-back k circuit n parts.0 c parts.2) ∙ Reaches-back k circuit n d c run in
      let here : Reaches (Goes k) d.steps (origin_by k c) d = subst (λ x. Reaches (Goes k) d.steps (origin_by k c) x)
      middle parts.1 in
      record {
        reached = record { good = good; reaches = subst (λ x. Reaches (Goes k) d.steps x d) same here };
        origin_is = sym same;
      }

  one : (c d : Config) → Goes k c d → Reaches (Goes k) 1 c d
  one c d goes = (d, goes, refl)

  pub kept_step : (made : Bool) (c d : Config) → IsReached k c → IsConfig k d → OnTrue made (Goes k c d)
      → OnFalse made (d ≡ c) → IsKeptOn c d
  kept_step true c d r good goes kept = kept_on 1 c d r good (one c d goes)
  kept_step false c d r good goes kept = record {
    reached = subst (IsReached k) (sym kept) r;
    origin_is = ap (origin_by k) kept;
  }

  pub kept_step_back : (made : Bool) (c d : Config) → IsReached k c → IsConfig k d → OnTrue made (Goes k d c)
      → OnFalse made (d ≡ c) → IsKeptOn c d
  kept_step_back true c d r good goes kept = kept_back 1 c d r good (one d c goes)
  kept_step_back false c d r good goes kept = record {
    reached = subst (IsReached k) (sym kept) r;
    origin_is = ap (origin_by k) kept;
  }

-- ---- boards

-- the board of these parts
abbrev pub board_with : PackedNet → Line → Line → Layout → Flattened
board_with p start end layout = record { net = p.net; config = p.config; start = start; end = end; layout = layout }

abbrev pub with_config : Flattened → Parts Rotary → Config → Flattened
with_config b net d = record { net = net; config = d; start = b.start; end = b.end; layout = b.layout }

-- the second is the same board as the first, and keeps what every board keeps
pub record IsMoved (a b : Flattened) : Type 0 where
  pub kept : IsBoardKept b
  pub same : IsSameBoard a b

module _ (b : Flattened) (net : Parts Rotary) (d : Config) (kept : IsBoardKept b) (net_is : net ≡ b.net)
    (good : IsConfig (rotary_circuit b.net) d) where
  board_kept : IsKeptOn (rotary_circuit b.net) kept.circuit b.config d → IsMoved b (with_config b net d)
  board_kept on =
      let at_net : IsMoved b (with_config b b.net d) = record {
        kept = record {
          circuit = kept.circuit;
          order = kept.order;
          reached = on.reached;
          layout = kept.layout;
          elements = kept.elements;
          network = subst (λ o. IsOnNetwork b.net o b.layout) (sym on.origin_is) kept.network;
        };
        same = record { net = refl; start = refl; end = refl; layout = refl; origin_is = on.origin_is };
      } in
      subst (λ n. IsMoved b (with_config b n d)) (sym net_is) at_net

  -- after steps in this direction
  pub board_ran : (way : Direction) (n : ℕ) → LeadsTo way (rotary_circuit b.net) n b.config d
      → IsMoved b (with_config b net d)
  board_ran Forward n run = board_kept (kept_on (rotary_circuit b.net) kept.circuit n b.config d kept.reached good run)
  board_ran Backward n run = board_kept (kept_back (rotary_circuit b.net) kept.circuit n b.config d kept.reached good
      run)

  pub board_stepped : (made : Bool) → OnTrue made (Goes (rotary_circuit b.net) b.config d) → OnFalse made (d ≡ b.config)
      → IsMoved b (with_config b net d)
  board_stepped made goes stays = board_kept (kept_step (rotary_circuit b.net) kept.circuit made b.config d kept.reached
      good goes stays)

  pub board_stepped_back : (made : Bool) → OnTrue made (Goes (rotary_circuit b.net) d b.config)
      → OnFalse made (d ≡ b.config) → IsMoved b (with_config b
      net d)
  board_stepped_back made goes stays = board_kept (kept_step_back (rotary_circuit b.net) kept.circuit made b.config d
      kept.reached good goes stays)

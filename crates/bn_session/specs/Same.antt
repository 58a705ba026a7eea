-- The laws of the trait for circuits on which scripts are played, for the circuit of a machine. Their proof terms are
-- beside the clauses, because they cite nothing of proofs.
use Rattle.std.specs.Prelude.{◌≡◌, ℕ, List, refl}
use Rattle.std.proofs.Common.{ap, subst, ◌∙◌}
use Rattle.bn_circuits.specs.declared.config.Config.{Config}
use Rattle.bn_circuits.specs.RotaryNets.{rotary_circuit}
use Rattle.bn_boards.specs.Layouts.{moment_at}
use Rattle.bn_board.specs.Flattened.{Flattened, IsSameBoard}
use Rattle.bn_session.specs.Boards.{board_at, shown_on}

-- one circuit is the same as itself
pub same_itself : (a : Flattened) → IsSameBoard a a
same_itself a = record { net = refl; start = refl; end = refl; layout = refl; origin_is = refl }

-- what is the same as the same is the same
pub same_again : (a b c : Flattened) → IsSameBoard a b → IsSameBoard b c → IsSameBoard a c
same_again a b c first second = record {
  net = second.net ∙ first.net;
  start = second.start ∙ first.start;
  end = second.end ∙ first.end;
  layout = second.layout ∙ first.layout;
  origin_is = second.origin_is ∙ first.origin_is;
}

-- the same circuit, with the same moments
pub same_circuit : (a b : Flattened) → IsSameBoard a b → rotary_circuit b.net ≡ rotary_circuit a.net
same_circuit a b same = ap rotary_circuit same.net

pub same_moments : (a b : Flattened) → IsSameBoard a b → moment_at b.layout ≡ moment_at a.layout
same_moments a b same = ap moment_at same.layout

-- two values that are one circuit, in one configuration
same_board : (a b : Flattened) (c : Config) → IsSameBoard a b → board_at b c ≡ board_at a c
same_board a b c same = λ i. record {
  net = same.net i;
  config = c;
  start = same.start i;
  end = same.end i;
  layout = same.layout i;
}

-- what shows one shows the other
pub same_shown : (shows : Flattened → List ℕ → Type 0) (a b : Flattened) (c : Config) (text : List ℕ)
    → IsSameBoard a b → shown_on shows b c text → shown_on shows a c text
same_shown shows a b c text same shown = subst (λ d. shows d text) (same_board a b c same) shown

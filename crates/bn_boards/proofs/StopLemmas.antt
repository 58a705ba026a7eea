-- Where a circuit goes no further.
use Rattle.std.specs.Prelude.{◌≡◌, ℕ, ◌-◌, ◌≤◌}
use Rattle.std.proofs.Common.{zero, suc, arith, subst}
use Rattle.bn_lists.specs.Runs.{Reaches}
use Rattle.bn_circuits.specs.Circuits.{Circuit, Goes, IsStuck}
use Rattle.bn_circuits.specs.declared.config.Config.{Config}
use Rattle.bn_circuits.proofs.StepLemmas.{forward_once}

-- of two runs from one start the rest of the longer one leads from the end of the other to its own
pub rest_of : (k : Circuit) (a r : ℕ) (x y z : Config) → Reaches (Goes k) a x y → Reaches (Goes k) r x z → a ≤ r
    → Reaches (Goes k) (r - a) y z
rest_of k zero r x y z first run low =
    let none : r ≡ r - 0 = omega arith in
    subst (λ i. Reaches (Goes k) i y z) none (subst (λ v. Reaches (Goes k) r v z) first run)
rest_of k (suc a) zero x y z first run low = absurd (omega arith)
rest_of k (suc a) (suc r) x y z first run low =
    let same : first.0 ≡ run.0 = forward_once k x first.0 run.0 first.1 run.1 in
    let fewer : r - a ≡ suc r - suc a = omega arith in
    subst (λ i. Reaches (Goes k) i y z) fewer
    (rest_of k a r run.0 y z (subst (λ v. Reaches (Goes k) a v y) same first.2) run.2 (omega arith))

-- no run from one start is longer than one that is stuck
pub no_longer : (k : Circuit) (a r : ℕ) (x y z : Config) → Reaches (Goes k) a x y → Reaches (Goes k) r x z
    → IsStuck k z → a ≤ r
no_longer k zero r x y z first run stuck = omega arith
no_longer k (suc a) zero x y z first run stuck = absurd (stuck first.0 (subst (λ v. Goes k v first.0) run first.1))
no_longer k (suc a) (suc r) x y z first run stuck =
    let same : first.0 ≡ run.0 = forward_once k x first.0 run.0 first.1 run.1 in
    let low = no_longer k a r run.0 y z (subst (λ v. Reaches (Goes k) a v y) same first.2) run.2 stuck in
    omega arith

-- a run of a steps comes before the end of one that is stuck after r, and the rest leads there
pub stops_later : (k : Circuit) (a r : ℕ) (x y z : Config) → Reaches (Goes k) a x y → Reaches (Goes k) r x z
    → IsStuck k z
    → (a ≤ r) × Reaches (Goes k) (r - a) y z
stops_later k a r x y z first run stuck =
    let low = no_longer k a r x y z first run stuck in
    (low, rest_of k a r x y z first run low)

-- two runs from one start that are stuck are one
pub stops_once : (k : Circuit) (a r : ℕ) (x y z : Config) → Reaches (Goes k) a x y → IsStuck k y
    → Reaches (Goes k) r x z → IsStuck k z
    → (a ≡ r) × (y ≡ z)
stops_once k a r x y z first ended run stuck =
    let there = stops_later k a r x y z first run stuck in
    let back = stops_later k r a x z y run first ended in
    let low = there.0 in
    let high = back.0 in
    let none : r - a ≡ 0 = omega arith in
    (omega arith, subst (λ i. Reaches (Goes k) i y z) none there.1)

-- Costs are one, and what is told stops where a run stops.
use Rattle.std.specs.Prelude.{◌≡◌, ℕ, ◌+◌, ◌-◌, ◌<◌, ◌≤◌, ◌∷◌, refl}
use Rattle.std.proofs.Common.{zero, suc, arith, sym, ap, subst, ◌∙◌}
use Rattle.bn_lists.specs.Runs.{Reaches}
use Rattle.bn_circuits.specs.Circuits.{Circuit, Goes, IsStuck}
use Rattle.bn_circuits.specs.Stepping.{run, places}
use Rattle.bn_circuits.proofs.RunLemmas.{places-Goes, places-stuck, Reaches-run}
use Rattle.bn_circuits.specs.declared.place.Place.TheVariants.{Enter}
use Rattle.bn_circuits.specs.declared.config.Config.{Config}
use Rattle.bn_circuits.specs.Situations.{Situation, Turns, IsAtEnd}
use Rattle.bn_rsm.specs.RunCosts.{run_cost}
use Rattle.bn_boards.specs.Flats.{situation_at_start}
use Rattle.bn_circuits.proofs.SituationLemmas.{turns_once}
use Rattle.bn_circuits.proofs.RunPartLemmas.{runs_split}
use Rattle.bn_boards.specs.RunLaws.{CostsAreOne}

-- two runs of a network to an end have as many moves
moves_once : (k : Circuit) (m n : ℕ) (s x y : Situation) → Reaches (Turns k) m s x → IsAtEnd k x
    → Reaches (Turns k) n s y → IsAtEnd k y → m ≡ n
moves_once k zero zero s x y a end b also = refl
moves_once k zero (suc n) s x y a end b also = absurd (subst (IsAtEnd k) (sym a) end b.0 b.1)
moves_once k (suc m) zero s x y a end b also = absurd (subst (IsAtEnd k) (sym b) also a.0 a.1)
moves_once k (suc m) (suc n) s x y a end b also =
    let same : b.0 ≡ a.0 = turns_once k s b.0 a.0 b.1 a.1 in
    ap (λ i. suc i) (moves_once k m n a.0 x y a.2 end (subst (λ z. Reaches (Turns k) n z y) same b.2) also)

-- a board has one cost
pub costs-one : CostsAreOne
costs-one f a b h k =
    let same : h.moves ≡ k.moves = moves_once f.network h.moves k.moves (situation_at_start f) h.last k.last h.run
    h.ended k.run k.ended in
    h.is ∙ ap (λ i. run_cost f.network (i + 1) (situation_at_start f)) same ∙ sym k.is

-- the places that are told end where the run ends, however many steps are asked for
pub places_stop : (k : Circuit) (n t u : ℕ) (c d : Config) → Reaches (Goes k) n c d → IsStuck k d → n ≤ t → n ≤ u
    → places k t c ≡ places k u c
places_stop k zero t u c d path stuck low also =
    let here : IsStuck k c = subst (IsStuck k) (sym path) stuck in
    places-stuck k c t here ∙ sym (places-stuck k c u here)
places_stop k (suc n) zero u c d path stuck low also = absurd (omega arith)
places_stop k (suc n) (suc t) zero c d path stuck low also = absurd (omega arith)
places_stop k (suc n) (suc t) (suc u) c d path stuck low also =
    let less : n ≤ t = omega arith in
    let fewer : n ≤ u = omega arith in
    places-Goes k c path.0 t path.1 ∙ ap (λ ps. path.0.place ∷ ps)
    (places_stop k n t u path.0 d path.2 stuck less fewer) ∙ sym (places-Goes k c path.0 u path.1)

-- before the end of a run the signal is inside
pub before_end : (k : Circuit) (n e : ℕ) (c d : Config) → Reaches (Goes k) n c d → e < n
    → (m : ℕ) × (i : ℕ) × ((run k c e).place ≡ Enter m i)
before_end k n e c d path low =
    let split = runs_split (Goes k) e (n - e) n c d (omega arith) path in
    at split.0 split.1 split.2
  where
    first_step : (r : ℕ) (x y : Config) → 0 < r → Reaches (Goes k) r x y → (m : ℕ) × (i : ℕ) × (x.place ≡ Enter m i)
    first_step zero x y some path = absurd (omega arith)
    first_step (suc r) x y some path = (path.1.crosses.element, path.1.crosses.input, path.1.crosses.enters)

    at : (x : Config) → Reaches (Goes k) e c x → Reaches (Goes k) (n - e) x d
        → (m : ℕ) × (i : ℕ) × ((run k c e).place ≡ Enter m i)
    at x front rest =
        let first = first_step (n - e) x d (omega arith) rest in
        (first.0, first.1, ap (λ (z : Config). z.place) (Reaches-run k e c x front) ∙ first.2)

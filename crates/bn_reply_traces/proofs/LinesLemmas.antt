-- Lines one after another, where each number has one line at most; and runs of any step.
use Rattle.std.specs.Prelude.{◌≡◌, ℕ, zero, suc, ◌≤◌, List, [], ◌++◌, refl}
use Rattle.std.proofs.Common.{arith, inl, inr, sym, subst, ap, ◌∙◌, append_assoc, append-nil}
use Rattle.std.proofs.lemmas.Bool.{cases_eq}
use Rattle.bn_lists.specs.Runs.{Reaches}
use Rattle.bn_reply_traces.specs.MomentText.{AreLines}

-- a run of one step more has its last step
pub last_step : {S : Type 0} (step : S → S → Type 0) (i : ℕ) (c e : S) → Reaches step (suc i) c e →
    (d : S) × Reaches step i c d × step d e
last_step step zero c e run = (c, refl, subst (step c) run.2 run.1)
last_step step (suc i) c e run =
    let rest = last_step step i run.0 e run.2 in
    (rest.0, (run.0, run.1, rest.1), rest.2)

module _ (IsLine : ℕ → List ℕ → Type 0) (one_line : (i : ℕ) (a b : List ℕ) → IsLine i a → IsLine i b → a ≡ b) where
  pub lines_once : (k : ℕ) (a b : List ℕ) → AreLines IsLine k a → AreLines IsLine k b → a ≡ b
  lines_once zero a b x y = x ∙ sym y
  lines_once (suc k) a b x y =
      let front = lines_once k x.0 y.0 x.2 y.2 in
      let last = one_line k x.1 y.1 x.3 y.3 in
      x.4 ∙ ap (λ (z : List ℕ). z ++ x.1) front ∙ ap (λ (z : List ℕ). y.0 ++ z) last ∙ sym y.4

  -- fewer lines are a front
  pub lines_front : (k m : ℕ) (a b : List ℕ) → k ≤ m → AreLines IsLine k a → AreLines IsLine m b →
      (tail : List ℕ) × (b ≡ a ++ tail)
  lines_front k zero a b few x y =
      let none : k ≡ 0 = omega arith in
      ([], lines_once zero b a y (subst (λ z. AreLines IsLine z a) none x) ∙ sym (append-nil a))
  lines_front k (suc m) a b few x y =
      elim (cases_eq k (suc m)) [
        | inl same ↦
            let moved = subst (λ z. AreLines IsLine z a) same x in
            ([], lines_once (suc m) b a y moved ∙ sym (append-nil a))
        | inr apart ↦
            let rest = lines_front k m a y.0 (omega (arith, few, apart)) x y.2 in
            (rest.0 ++ y.1, y.4 ∙ ap (λ (z : List ℕ). z ++ y.1) rest.1 ∙ append_assoc a rest.0 y.1)
      ]

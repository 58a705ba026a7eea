-- One step is shown, and there is one; and ways of telling moments that agree show the same.
use Rattle.std.specs.Prelude.{◌≡◌, ℕ, ◌<◌, ◌≤◌, ◌⊎◌, Option, Some, None, refl}
use Rattle.std.proofs.Common.{zero, suc, arith, sym, subst, ◌∙◌, inl, inr}
use Rattle.std.proofs.lemmas.Bool.{cases_lt}
use Rattle.bn_circuits.specs.Circuits.{Circuit}
use Rattle.bn_circuits.specs.Stepping.{run}
use Rattle.bn_circuits.specs.declared.config.Config.{Config}
use Rattle.bn_boards.specs.Layouts.{Layout, moment_at}
use Rattle.bn_view.specs.Viewed.{Finds}
use Rattle.bn_view.specs.Shown.{IsQuiet, IsShown, moment, start}
use Rattle.bn_view.specs.Laws.{ShownIsOne, ShownIsThere}

-- two numbers of which neither is less are one
pub neither_less : (m n : ℕ) → (m < n → ⊥) → (n < m → ⊥) → m ≡ n
neither_less m n a b = by (cases_lt m n) (cases_lt n m)
  where
    by : (m < n) ⊎ (n ≤ m) → (n < m) ⊎ (m ≤ n) → m ≡ n
    by (inl h) other = absurd (a h)
    by (inr h) (inl g) = absurd (b g)
    by (inr h) (inr g) = omega arith

pub shown_once : (at : ℕ → ℕ → Type 0) → ((u a e : ℕ) → at u a → at u e → a ≡ e) → (initial t s a r e : ℕ)
    → IsShown at initial t s a → IsShown at initial t r e
    → (s ≡ r) × (a ≡ e)
shown_once at once initial t s a r e (moment within here later) (moment also there last) =
    let same : s ≡ r = neither_less s r (λ h. later r h also e there) (λ h. last s h within a here) in
    (same, once r a e (subst (λ x. at x a) same here) there)
shown_once at once initial t s a r e (moment within here later) (start also second none) = absurd (none s within a here)
shown_once at once initial t s a r e (start is first none) (moment also there last) = absurd (none r also e there)
shown_once at once initial t s a r e (start is first none) (start also second last) =
    (is ∙ sym also, first ∙ sym second)

-- one step more, at which there is no moment
still : (at : ℕ → ℕ → Type 0) (initial t s a : ℕ) → IsQuiet at (suc t) → IsShown at initial t s a
    → IsShown at initial (suc t) s a
still at initial t s a none (moment within here later) = moment (omega arith) here
    (λ u h few. by u (later u h) (cases_lt t u) few)
  where
    by : (u : ℕ) → (u ≤ t → IsQuiet at u) → (t < u) ⊎ (u ≤ t) → u ≤ suc t → IsQuiet at u
    by u before (inl beyond) few = let last : suc t ≡ u = omega arith in subst (IsQuiet at) last none
    by u before (inr inside) few = before inside
still at initial t s a none (start is first before) = start is first (λ u few. by u (cases_lt t u) few)
  where
    by : (u : ℕ) → (t < u) ⊎ (u ≤ t) → u ≤ suc t → IsQuiet at u
    by u (inl beyond) few = let last : suc t ≡ u = omega arith in subst (IsQuiet at) last none
    by u (inr inside) few = before u inside

pub shown_there : (at : ℕ → ℕ → Type 0) → ((u : ℕ) → ((a : ℕ) × at u a) ⊎ IsQuiet at u) → (initial t : ℕ)
    → (s : ℕ) × (a : ℕ) × IsShown at initial t s a
shown_there at each initial zero = by (each zero)
  where
    by : ((a : ℕ) × at zero a) ⊎ IsQuiet at zero → (s : ℕ) × (a : ℕ) × IsShown at initial zero s a
    by (inl some) = (zero, some.0, moment (omega arith) some.1 (λ u h few. absurd (omega arith)))
    by (inr none) = (
      zero,
      initial,
      start refl refl (λ u few. let last : zero ≡ u = omega arith in subst (IsQuiet at) last none),
    )
shown_there at each initial (suc t) = by (each (suc t)) (shown_there at each initial t)
  where
    by : ((a : ℕ) × at (suc t) a) ⊎ IsQuiet at (suc t) → ((s : ℕ) × (a : ℕ) × IsShown at initial t s a)
        → (s : ℕ) × (a : ℕ) × IsShown at initial (suc t) s a
    by (inl some) before = (suc t, some.0, moment (omega arith) some.1 (λ u h few. absurd (omega arith)))
    by (inr none) before = (before.0, before.1, still at initial t before.0 before.1 none before.2)

-- what is shown by moments that agree up to this step
pub shown-agrees : (at by : ℕ → ℕ → Type 0) (initial t s a : ℕ) → ((u e : ℕ) → u ≤ t → at u e → by u e)
    → ((u e : ℕ) → u ≤ t → by u e → at u e)
    → IsShown at initial t s a → IsShown by initial t s a
shown-agrees at by initial t s a forth back (moment within here later) =
    moment within (forth s a within here) (λ u h few e there. later u h few e (back u e few there))
shown-agrees at by initial t s a forth back (start is first none) =
    start is first (λ u few e there. none u few e (back u e few there))

-- ---- by a layout

found_once : (b : Layout) (k : Circuit) (c0 : Config) (u a e : ℕ) → Finds b k c0 u a → Finds b k c0 u e → a ≡ e
found_once b k c0 u a e first second = let both : Some a ≡ Some e = sym first ∙ second in cc

pub shown-one : ShownIsOne
shown-one b k c0 = shown_once (Finds b k c0) (found_once b k c0)

found_or_quiet : (b : Layout) (k : Circuit) (c0 : Config) (u : ℕ) (o : Option ℕ) → moment_at b (run k c0 u) ≡ o
    → ((a : ℕ) × Finds b k c0 u a) ⊎ IsQuiet (Finds b k c0) u
found_or_quiet b k c0 u (Some a) is = inl (a, is)
found_or_quiet b k c0 u None is = inr (λ a there. let both : None ≡ Some a = sym is ∙ there in cc)

pub shown-there : ShownIsThere
shown-there b k c0 = shown_there (Finds b k c0) (λ u. found_or_quiet b k c0 u (moment_at b (run k c0 u)) refl)

-- Counts along a run.
use Rattle.std.specs.Prelude.{◌≡◌, ℕ, ◌+◌, ◌<◌, ◌≤◌, Bool, true, false, not, Option, Some, None, refl}
use Rattle.std.specs.Option.{option_map_or}
use Rattle.std.proofs.Common.{zero, suc, arith, ap, ◌∙◌}
use Rattle.bn_lists.specs.Runs.{Reaches, Passes}
use Rattle.bn_circuits.specs.Circuits.{Circuit, Goes}
use Rattle.bn_circuits.proofs.StepLemmas.{Goes-next}
use Rattle.bn_circuits.specs.Stepping.{next}
use Rattle.bn_circuits.specs.declared.config.Config.{Config}
use Rattle.bn_circuits.specs.Counting.{tally, one_if, TalliesAdd}

module _ (k : Circuit) (test : Config → Bool) where
  pub tally-zero : (c : Config) → tally test k 0 c ≡ 0
  unfolding tally
  tally-zero c = refl

  pub tally-more : (t : ℕ) (c d : Config) → Goes k c d → tally test k (suc t) c ≡ one_if (test d) + tally test k t d
  unfolding tally
  tally-more t c d g = rw (Goes-next k c d g) refl

  tally-joins : (m n : ℕ) (c d : Config) → Reaches (Goes k) m c d
      → tally test k (m + n) c ≡ tally test k m c + tally test k n d
  tally-joins zero n c d path =
      let none = tally-zero c in
      let count : zero + n ≡ n = omega arith in
      let there : tally test k n c ≡ tally test k n d = ap (tally test k n) path in
      ap (λ x. tally test k x c) count ∙ omega arith
  tally-joins (suc m) n c d path =
      let y = path.0 in
      let count : suc m + n ≡ suc (m + n) = omega arith in
      let whole = tally-more (m + n) c y path.1 in
      let part = tally-more m c y path.1 in
      let rest = tally-joins m n y d path.2 in
      ap (λ x. tally test k x c) count ∙ omega arith

  denied : (b : Bool) → not b ≡ true → one_if b ≡ 0
  denied true h = absurd (cc)
  denied false h = refl

  tally-once : (n : ℕ) (c d : Config) → Passes (Goes k) (λ x. not (test x)) (suc n) c d
      → tally test k (suc n) c ≡ one_if (test d)
  tally-once zero c d path =
      let y = path.0 in
      let whole = tally-more 0 c y path.1 in
      let none = tally-zero y in
      let there : one_if (test y) ≡ one_if (test d) = ap (λ x. one_if (test x)) path.3 in
      omega arith
  tally-once (suc n) c d path =
      let y = path.0 in
      let whole = tally-more (suc n) c y path.1 in
      let none = denied (test y) path.2 in
      let rest = tally-once n y d path.3 in
      omega arith

once : (k : Circuit) (test : Config → Bool) (n : ℕ) (c d : Config) → 0 < n → Passes (Goes k) (λ x. not (test x)) n c d
    → tally test k n c ≡ one_if (test d)
once k test zero c d some path = absurd (omega arith)
once k test (suc n) c d some path = tally-once k test n c d path

pub tallies-add : TalliesAdd
tallies-add = (λ k test m n c d path. tally-joins k test m n c d path, once)

-- ---- counts and lengths

-- a test holds of as many configurations as there are, at most
pub one_low : (b : Bool) → one_if b ≤ 1
one_low true = omega arith
one_low false = omega arith

pub tally_low : (test : Config → Bool) (k : Circuit) (t : ℕ) (c : Config) → tally test k t c ≤ t
unfolding tally
tally_low test k zero c = omega arith
tally_low test k (suc t) c = by (λ d. tally_low test k t d) (next k c)
  where
    by : ((d : Config) → tally test k t d ≤ t) → (x : Option Config)
        → option_map_or (λ d. one_if (test d) + tally test k t d) x 0 ≤ suc t
    by rest None = omega arith
    by rest (Some d) = let more = rest d in let here = one_low (test d) in omega (arith, more, here)

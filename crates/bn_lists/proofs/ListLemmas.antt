-- The entries of a list by their numbers, and searches for the first that has a property.
use Rattle.std.specs.Prelude.{◌≡◌, ℕ, zero, suc, ◌<◌, ◌≤◌, List, [], ◌∷◌, length, Some, All}
use Rattle.std.proofs.Common.{refl, subst, arith, get_or, inl, inr, ◌⊎◌}
use Rattle.std.proofs.lemmas.Option.{slice_get_within, slice_get-get_or}
use Rattle.std.proofs.lemmas.Bool.{cases_lt}
use Rattle.bn_lists.specs.Lists.{nth, AllBefore, IsFirstWith, HasNone}
use Rattle.bn_lists.proofs.LeastLemmas.{least_once}

pub nth_within : {X : Type 0} (xs : List X) (n : ℕ) (x : X) → nth xs n ≡ Some x → n ≤ length xs
nth_within xs zero x e = omega arith
nth_within xs (suc i) x e = slice_get_within xs i x e

pub nth-get_or : {X : Type 0} (xs : List X) (i : ℕ) (d : X) → i < length xs → nth xs (suc i) ≡ Some (get_or xs i d)
nth-get_or xs i d h = slice_get-get_or xs i d h

pub nth_once : {X : Type 0} (xs : List X) (n : ℕ) (x y : X) → nth xs n ≡ Some x → nth xs n ≡ Some y → x ≡ y
nth_once xs n x y e f = cc

-- no entry is numbered 0
pub all_before_one : {X : Type 0} (P : X → Type 0) (xs : List X) → AllBefore P xs 1
all_before_one P xs = record { each = λ m x h e. none_at_zero P xs m x h e }
  where
    none_at_zero : {X : Type 0} (P : X → Type 0) (xs : List X) (m : ℕ) (x : X) → m < 1 → nth xs m ≡ Some x → P x
    none_at_zero P xs zero x h e = absurd (cc)
    none_at_zero P xs (suc m) x h e = absurd (omega arith)

-- one entry more
pub all_before_more : {X : Type 0} (P : X → Type 0) (xs : List X) (n : ℕ) (y : X) → AllBefore P xs n
    → nth xs n ≡ Some y → P y → AllBefore P xs (suc n)
all_before_more P xs n y all here holds = record { each = λ m x h e. step m x e (cases_lt m n) h }
  where
    step : (m : ℕ) (x : _) → nth xs m ≡ Some x → (m < n) ⊎ (n ≤ m) → m < suc n → P x
    step m x e (inl h) k = all.each m x h e
    step m x e (inr h) k =
        let same : m ≡ n = omega arith in
        subst P (nth_once xs n y x here (subst (λ i. nth xs i ≡ Some x) same e)) holds

-- all entries
pub all_from_before : {X : Type 0} (P : X → Type 0) (xs : List X) (n : ℕ) → length xs < n → AllBefore P xs n → All P xs
all_from_before P xs n past all = λ k d h. all.each (suc k) (get_or xs k d) (omega arith) (nth-get_or xs k d h)

-- a search that has come to an entry with the property, and one that has come to the end
pub first_at : {X : Type 0} (P : X → Type 0) (xs : List X) (n : ℕ) (x : X) → AllBefore (λ y. P y → ⊥) xs n
    → nth xs n ≡ Some x → P x → IsFirstWith P xs n x
first_at P xs n x before here holds = record { stands = here; holds = holds; first = before.each }

pub none_to_end : {X : Type 0} (P : X → Type 0) (xs : List X) (n : ℕ) → length xs < n
    → AllBefore (λ y. P y → ⊥) xs n → HasNone P xs
none_to_end P xs n past before = record {
  none = λ m x e. let known : m ≤ length xs = nth_within xs m x e in before.each m x (omega arith) e;
}

-- the first entry with a property is one
pub first_once : {X : Type 0} (P : X → Type 0) (xs : List X) (m n : ℕ) (x y : X) → IsFirstWith P xs m x
    → IsFirstWith P xs n y
    → (m ≡ n) × (x ≡ y)
first_once P xs m n x y a b =
    let same : m ≡ n = least_once m n (λ h. b.first m x h a.stands a.holds) (λ h. a.first n y h b.stands b.holds) in
    (same, nth_once xs n x y (subst (λ i. nth xs i ≡ Some x) same a.stands) b.stands)

-- where each entry has the property or hasn't, there is a first that has it, or none has it
pub first_or_none : {X : Type 0} (P : X → Type 0) → ((x : X) → P x ⊎ (P x → ⊥)) → (xs : List X)
    → ((n : ℕ) × (x : X) × IsFirstWith P xs n x) ⊎ HasNone P xs
first_or_none P decides [] = inr (record { none = λ n x e. nothing n x e })
  where
    nothing : (n : ℕ) (x : _) → nth [] n ≡ Some x → P x → ⊥
    nothing zero x e = absurd (cc)
    nothing (suc n) x e = absurd (cc)
first_or_none {X} P decides (y ∷ ys) = by_head (decides y) (first_or_none P decides ys)
  where
    at_one : P y → (m : ℕ) (z : X) → m < 1 → nth (y ∷ ys) m ≡ Some z → P z → ⊥
    at_one holds zero z h e = absurd (cc)
    at_one holds (suc m) z h e = absurd (omega arith)

    behind : (P y → ⊥) → (n : ℕ) (x : X) → IsFirstWith P ys n x → (m : ℕ) (z : X) → m < suc n
        → nth (y ∷ ys) m ≡ Some z → P z → ⊥
    behind lacks n x f zero z h e = absurd (cc)
    behind lacks n x f (suc zero) z h e = let same : z ≡ y = cc in λ holds. lacks (subst P same holds)
    behind lacks n x f (suc (suc m)) z h e = f.first (suc m) z (omega arith) e

    stands_behind : (n : ℕ) (x : X) → nth ys n ≡ Some x → nth (y ∷ ys) (suc n) ≡ Some x
    stands_behind zero x e = absurd (cc)
    stands_behind (suc n) x e = e

    none_behind : (P y → ⊥) → HasNone P ys → (n : ℕ) (x : X) → nth (y ∷ ys) n ≡ Some x → P x → ⊥
    none_behind lacks none zero x e = absurd (cc)
    none_behind lacks none (suc zero) x e = let same : x ≡ y = cc in λ holds. lacks (subst P same holds)
    none_behind lacks none (suc (suc n)) x e = none.none (suc n) x e

    by_rest : (P y → ⊥) → ((n : ℕ) × (x : X) × IsFirstWith P ys n x) ⊎ HasNone P ys
        → ((n : ℕ) × (x : X) × IsFirstWith P (y ∷ ys) n x) ⊎ HasNone P (y ∷ ys)
    by_rest lacks (inl (n, x, f)) = inl (
      suc n,
      x,
      record {
        stands = stands_behind n x f.stands;
        holds = f.holds;
        first = behind lacks n x f;
      },
    )
    by_rest lacks (inr none) = inr (record { none = none_behind lacks none })

    by_head : P y ⊎ (P y → ⊥) → ((n : ℕ) × (x : X) × IsFirstWith P ys n x) ⊎ HasNone P ys
        → ((n : ℕ) × (x : X) × IsFirstWith P (y ∷ ys) n x) ⊎ HasNone P (y ∷ ys)
    by_head (inl holds) rest = inl (1, y, record { stands = refl; holds = holds; first = at_one holds })
    by_head (inr lacks) rest = by_rest lacks rest

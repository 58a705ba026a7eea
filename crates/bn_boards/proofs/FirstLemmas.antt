-- The first place of a list at which a test holds.
use Rattle.std.specs.Prelude.{◌≡◌, ◌==◌, ℕ, ◌<◌, ◌≤◌, Bool, true, false, nat_lt, List, [], ◌∷◌, length, position}
use Rattle.std.specs.Prelude.{is_some, Option, Some, None, slice_get, refl}
use Rattle.std.specs.List.{position_or_len}
use Rattle.std.proofs.Common.{zero, suc, arith, sym, ap, ◌∙◌}
use Rattle.std.proofs.lemmas.Bool.Decides.{nat_tests}
use Rattle.std.proofs.lemmas.List.Quantifiers.{position-Some}
use Rattle.std.proofs.lemmas.List.Sums.{position_or_len_is}
use Rattle.std.proofs.lemmas.Option.{slice_get_within, slice_get-get_or, get_or_from_slice_get, cond_some}
use Rattle.bn_column.specs.Columns.{bar}
use Rattle.bn_boards.proofs.ModuleLemmas.{found}

-- a mark read as a number
pub bar_zero : (b : Bool) → (bar b == 0) ≡ b
bar_zero true = refl
bar_zero false = refl

-- the test of numbers
pub below : (a b : ℕ) → a < b → nat_lt a b ≡ true
below a b h = grind (arith, nat_tests)

pub not_below : (a b : ℕ) → b ≤ a → nat_lt a b ≡ false
not_below a b h = grind (arith, nat_tests)

is_below : (a b : ℕ) → nat_lt a b ≡ true → a < b
is_below a b h = grind (arith, nat_tests)

module _ {X : Type 0} where
  -- it holds there and nowhere before
  pub position_at : (p : X → Bool) (xs : List X) (i : ℕ) (x : X) → slice_get xs i ≡ Some x → p x ≡ true
      → ((k : ℕ) (y : X) → k < i → slice_get xs k ≡ Some y → p y ≡ false) → position p xs ≡ Some i
  position_at p xs i x has holds never =
      let within = slice_get_within xs i x has in
      let is = position_or_len_is p xs i x (omega arith) (λ k low. never k _ low
      (slice_get-get_or xs k x (omega arith))) (λ low. ap p (get_or_from_slice_get xs i x x has) ∙ holds) in
      let test = below i (length xs) within in
      rw (is, test) refl

  -- at the place that is found the test holds
  pub position_holds : (p : X → Bool) (xs : List X) (i : ℕ) → position p xs ≡ Some i
      → (x : X) × (slice_get xs i ≡ Some x) × (p x ≡ true)
  position_holds p xs i h =
      let both = cond_some (nat_lt (position_or_len p xs) (length xs)) (position_or_len p xs) i h in
      let low = is_below (position_or_len p xs) (length xs) both.0 in
      let here = found xs i (omega (arith, both.1)) in
      let holds = (position-Some p xs i here.0 h).1 in
      (here.0, here.1, ap p (sym (get_or_from_slice_get xs i here.0 here.0 here.1)) ∙ holds)

  -- two tests that agree on the list
  first_same : (p q : X → Bool) (xs : List X) → ((i : ℕ) (x : X) → slice_get xs i ≡ Some x → p x ≡ q x)
      → position_or_len p xs ≡ position_or_len q xs
  first_same p q [] h = refl
  first_same p q (x ∷ xs) h = let here = h zero x refl in let rest =
      first_same p q xs (λ i. h (suc i)) in rw (here, rest) refl

  -- and so the first place is one
  pub position_same : (p q : X → Bool) (xs : List X) → ((i : ℕ) (x : X) → slice_get xs i ≡ Some x → p x ≡ q x)
      → position p xs ≡ position q xs
  position_same p q xs h = let e = first_same p q xs h in rw e refl

  -- the first place is at or before each other
  first_low : (p : X → Bool) (xs : List X) (i : ℕ) (x : X) → slice_get xs i ≡ Some x → p x ≡ true
      → position_or_len p xs ≤ i
  first_low p [] i x has holds = absurd (cc)
  first_low p (v ∷ xs) zero x has holds = let same : v ≡ x = cc in let here : p v ≡ true =
      ap p same ∙ holds in rw here (omega arith)
  first_low p (v ∷ xs) (suc i) x has holds = by_test (p v) refl (first_low p xs i x has holds)
    where
      by_test : (b : Bool) → p v ≡ b → position_or_len p xs ≤ i → position_or_len p (v ∷ xs) ≤ suc i
      by_test true is rest = rw is (omega arith)
      by_test false is rest = rw is (omega arith)

  -- where it holds somewhere, there is a first place
  pub some_holds : (p : X → Bool) (xs : List X) (i : ℕ) (x : X) → slice_get xs i ≡ Some x → p x ≡ true
      → is_some (position p xs) ≡ true
  some_holds p xs i x has holds =
      let within = slice_get_within xs i x has in
      let low = first_low p xs i x has holds in
      let test = below (position_or_len p xs) (length xs) (omega arith) in
      rw test refl

  -- where it holds nowhere, there is none
  pub none_holds : (p : X → Bool) (xs : List X) → ((i : ℕ) (x : X) → slice_get xs i ≡ Some x → p x ≡ false)
      → is_some (position p xs) ≡ false
  none_holds p xs never = by_place (position p xs) refl
    where
      by_place : (o : Option ℕ) → position p xs ≡ o → is_some (position p xs) ≡ false
      by_place None is = rw is refl
      by_place (Some i) is = (let h = position_holds p xs i is in let no = never i h.0 h.1 in absurd (cc))

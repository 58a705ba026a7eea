-- Whether states are those of some elements, one after another.
use Rattle.std.specs.Prelude.{◌≡◌, ℕ, ◌+◌, ◌<◌, ◌≤◌, List, map, length, Some, slice_get, option_map, ◌⊎◌}
use Rattle.std.specs.Option.{option_map_or}
use Rattle.std.proofs.Common.{arith, sym, ap, subst, ◌∙◌, get_or, inl, inr}
use Rattle.std.proofs.lemmas.Bool.{cases_lt}
use Rattle.std.proofs.lemmas.List.{length-map}
use Rattle.std.proofs.lemmas.Option.{same_Some, slice_get-get_or, slice_get-map, slice_get_within}
use Rattle.bn_element.specs.Tables.{Table}
use Rattle.bn_circuits.specs.Circuits.{states_of}
use Rattle.bn_circuits.specs.Circuits.{AreStates}

module _ {E : Type 0} (table : E → Table) (own es : List E) (is : own ≡ es) (states : List ℕ) where
  -- how many states the element has that stands here
  here : (i : ℕ) (x : E) (r : ℕ) → i < length own → x ≡ get_or own i x → r ≡ (table x).states
      → states_of (map table es) i ≡ r
  here i x r low at row =
      ap (λ ys. states_of (map table ys) i) (sym is)
      ∙ ap (λ o. option_map_or (λ (t : Table). t.states) o 0)
      (slice_get-map table own i ∙ ap (option_map table) (slice_get-get_or own i x low))
      ∙ ap (λ y. (table y).states) (sym at) ∙ sym row

  -- one more is in range
  pub next : (i : ℕ) (x : E) (r : ℕ) → i < length own → x ≡ get_or own i x → r ≡ (table x).states
      → get_or states i 0 < r
      → ((e q : ℕ) → e < i → slice_get states e ≡ Some q → q < states_of (map table es) e)
      → (e q : ℕ) → e < i + 1 → slice_get states e ≡ Some q → q < states_of (map table es) e
  next i x r low at row less so_far e q within state = by (cases_lt e i)
    where
      by : (e < i) ⊎ (i ≤ e) → q < states_of (map table es) e
      by (inl before) = so_far e q before state
      by (inr behind) =
          let same : e ≡ i = omega arith in
          let there : slice_get states i ≡ Some q = subst (λ k. slice_get states k ≡ Some q) same state in
          let value : get_or states i 0 ≡ q =
          same_Some _ _ (sym (slice_get-get_or states i 0 (slice_get_within states i q there)) ∙ there) in
          let count = here i x r low at row in
          subst (λ k. q < states_of (map table es) k) (sym same) (omega arith)

  -- all are
  pub all : (i n : ℕ) → length states ≡ n → n ≡ length own → length states ≤ i
      → ((e q : ℕ) → e < i → slice_get states e ≡ Some q → q < states_of (map table es) e)
      → AreStates (map table es) states
  all i n counted count end so_far = record {
    count = counted ∙ count ∙ ap length is ∙ sym (length-map es table);
    range = λ e q state. so_far e q (let low = slice_get_within states e q state in omega arith) state;
  }

  -- too many or too few
  pub miscounted : (n : ℕ) → n ≡ length own → (length states ≡ n → ⊥) → AreStates (map table es) states → ⊥
  miscounted n count other are = other (are.count ∙ length-map es table ∙ ap length (sym is) ∙ sym count)

  -- one that isn't
  pub beyond : (i : ℕ) (x : E) (r : ℕ) → i < length own → x ≡ get_or own i x → r ≡ (table x).states
      → i < length states → r ≤ get_or states i 0
      → AreStates (map table es) states → ⊥
  beyond i x r low at row within great are =
      let count = here i x r low at row in
      let less = are.range i (get_or states i 0) (slice_get-get_or states i 0 within) in
      omega arith

-- The text of a view, number after number, and which elements it names.
use Rattle.std.specs.Prelude.{◌≡◌, ℕ, ◌+◌, ◌<◌, ◌==◌, not, Bool, true, false, cond, List, [], ◌∷◌, ◌++◌, Some}
use Rattle.std.specs.Prelude.{slice_get, codes, decimal, ◌⊎◌, refl}
use Rattle.std.proofs.Common.{zero, suc, arith, sym, ap, subst, ◌∙◌, inl, inr, append_assoc}
use Rattle.std.proofs.lemmas.List.{append-nil}
use Rattle.std.proofs.lemmas.Bool.{cases_lt}
use Rattle.bn_lists.specs.Lists.{Has}
use Rattle.bn_reply_walks.specs.Laws.{TurnedAreThoseThatTurned}
use Rattle.bn_reply_walks.specs.WalkView.{has_turned, turned_below, numbers_text}

-- ---- the text

numbers_text-append : (ms ns : List ℕ) → numbers_text (ms ++ ns) ≡ numbers_text ms ++ numbers_text ns
numbers_text-append [] ns = refl
numbers_text-append (m ∷ ms) ns =
    ap (λ r. codes " " ++ (decimal m ++ r)) (numbers_text-append ms ns)
    ∙ ap (λ r. codes " " ++ r) (sym (append_assoc (decimal m) (numbers_text ms) (numbers_text ns)))

module _ (before after : List ℕ) (n : ℕ) where
  one : suc n ≡ n + 1
  one = omega arith

  below_more : has_turned before after n ≡ true
      → turned_below before after (suc n) ≡ turned_below before after n ++ n ∷ []
  below_more is = rw is refl

  below_same : has_turned before after n ≡ false → turned_below before after (suc n) ≡ turned_below before after n
  below_same is = rw is (append-nil (turned_below before after n))

  -- an element has turned, and its number was written
  pub turned_more : (old text new : List ℕ) → text ≡ old ++ numbers_text (turned_below before after n)
      → has_turned before after n ≡ true → new ≡ text ++ (codes " " ++ decimal n)
      → new ≡ old ++ numbers_text (turned_below before after (n + 1))
  turned_more old text new so is written =
      let last : codes " " ++ decimal n ≡ numbers_text (n ∷ []) =
      ap (λ r. codes " " ++ r) (sym (append-nil (decimal n))) in
      written ∙ ap (λ r. r ++ (codes " " ++ decimal n)) so
      ∙ append_assoc old (numbers_text (turned_below before after n)) (codes " " ++ decimal n)
      ∙ ap (λ r. old ++ (numbers_text (turned_below before after n) ++ r)) last
      ∙ ap (λ r. old ++ r) (sym (numbers_text-append (turned_below before after n) (n ∷ [])))
      ∙ ap (λ ms. old ++ numbers_text ms) (sym (below_more is))
      ∙ ap (λ m. old ++ numbers_text (turned_below before after m)) one

  -- it hasn't, and nothing was written
  pub turned_same : (old text : List ℕ) → text ≡ old ++ numbers_text (turned_below before after n)
      → has_turned before after n ≡ false → text ≡ old ++ numbers_text (turned_below before after (n + 1))
  turned_same old text so is =
      so ∙ ap (λ ms. old ++ numbers_text ms) (sym (below_same is))
      ∙ ap (λ m. old ++ numbers_text (turned_below before after m)) one

-- an element with these two states
pub has_turned_is : (before after : List ℕ) (e q r : ℕ) → slice_get before e ≡ Some q → slice_get after e ≡ Some r
    → not (q == r) ≡ has_turned before after e
has_turned_is before after e q r one two = rw (one, two) refl

-- ---- the elements

has_append : {X : Type 0} (xs ys : List X) (x : X) → Has (xs ++ ys) x → Has xs x ⊎ Has ys x
has_append [] ys x h = inr h
has_append (y ∷ xs) ys x (inl is) = inl (inl is)
has_append (y ∷ xs) ys x (inr h) = elim (has_append xs ys x h) [ inl a ↦ inl (inr a) | inr b ↦ inr b ]

has_left : {X : Type 0} (xs ys : List X) (x : X) → Has xs x → Has (xs ++ ys) x
has_left [] ys x h = absurd h
has_left (y ∷ xs) ys x (inl is) = inl is
has_left (y ∷ xs) ys x (inr h) = inr (has_left xs ys x h)

has_right : {X : Type 0} (xs ys : List X) (x : X) → Has ys x → Has (xs ++ ys) x
has_right [] ys x h = h
has_right (y ∷ xs) ys x h = inr (has_right xs ys x h)

module _ (before after : List ℕ) where
  named_turned : (n e : ℕ) → Has (turned_below before after n) e → (e < n) × (has_turned before after e ≡ true)
  named_turned zero e h = absurd h
  named_turned (suc n) e h = by (has_turned before after n) refl h (named_turned n e)
    where
      by : (b : Bool) → has_turned before after n ≡ b
          → Has (turned_below before after n ++ cond b (n ∷ []) []) e
          → (Has (turned_below before after n) e → (e < n) × (has_turned before after e ≡ true))
          → (e < suc n) × (has_turned before after e ≡ true)
      by true is h earlier = elim (has_append (turned_below before after n) (n ∷ []) e h) [
        | inl a ↦ (let low = (earlier a).0 in (omega arith, (earlier a).1))
        | inr b ↦ here b
      ]
        where
          here : Has (n ∷ []) e → (e < suc n) × (has_turned before after e ≡ true)
          here (inl same) = (omega arith, ap (has_turned before after) same ∙ is)
          here (inr none) = absurd none
      by false is h earlier = elim (has_append (turned_below before after n) [] e h) [
        | inl a ↦ (let low = (earlier a).0 in (omega arith, (earlier a).1))
        | inr b ↦ absurd b
      ]

  turned_named : (n e : ℕ) → e < n → has_turned before after e ≡ true → Has (turned_below before after n) e
  turned_named zero e low is = absurd (omega arith)
  turned_named (suc n) e low is = elim (cases_lt e n) [
    | inl lower ↦ has_left (turned_below before after n) (cond (has_turned before after n) (n ∷ []) []) e
        (turned_named n e lower is)
    | inr last ↦
        (let same : e ≡ n = omega arith in
        let here : has_turned before after n ≡ true = ap (has_turned before after) (sym same) ∙ is in
        subst (λ ms. Has ms e) (sym (below_more before after n here))
        (has_right (turned_below before after n) (n ∷ []) e (inl same)))
  ]

pub turned_are : TurnedAreThoseThatTurned
turned_are before after n e = (
  named_turned before after n e,
  λ h. turned_named before after n e h.0 h.1,
)

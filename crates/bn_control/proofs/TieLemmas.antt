-- Elements that tie, by a test.
use Rattle.std.proofs.Common.{◌≡◌, Bool, true, List, refl, sym, ◌∙◌}
use Rattle.std.specs.List.{Any}
use Rattle.std.specs.Ordering.{is_eq, eq_by_cmp}
use Rattle.std.specs.declared.cmp.Ordering.{Ordering}
use Rattle.std.specs.declared.cmp.Ordering.TheVariants.{Less, Equal, Greater}

pub tied : (o : Ordering) → is_eq o ≡ true → o ≡ Equal
tied Less e = absurd (cc)
tied Equal e = refl
tied Greater e = absurd (cc)

-- a tie, where the test that is kept says what the order says
pub any_tied : {X : Type 0} (R : X → X → Ordering) (E : X → X → Bool) → ((x y : X) → E x y ≡ eq_by_cmp R x y)
    → (x : X) (ys : List X) → Any (λ y. E x y ≡ true) ys → Any (λ y. R x y ≡ Equal) ys
any_tied R E ties x ys h = (h.0, h.1, h.2, h.3, tied (R x h.1) (sym (ties x h.1) ∙ h.4))

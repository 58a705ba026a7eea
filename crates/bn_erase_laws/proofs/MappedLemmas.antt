-- Lists of quadruples made of others entry by entry: places, and the tests by pairs.
use Rattle.std.specs.Prelude.{◌≡◌, ℕ, zero, suc, List, map, Option, Some, None}
use Rattle.std.specs.Option.{option_map}
use Rattle.std.proofs.Common.{refl, sym, ap, ◌∙◌}
use Rattle.std.proofs.lemmas.Option.{slice_get-map}
use Rattle.bn_lists.specs.Lists.{nth}
use Rattle.bn_quad.specs.Quadruples.{Rule}
use Rattle.bn_quad.specs.Overlap.{QuadruplesClash, HasNoClash}
use Rattle.bn_quad.proofs.ClashLemmas.{clash_again}
use Rattle.bn_quad.specs.declared.clash.Clash.{Clash}
use Rattle.bn_bennett_laws.proofs.Apart.{Apart, apart_places, apart_from_places, apart_map, apart_weaker}

-- what stands among the mapped entries is a mapped one
pub mapped_before : {X Y : Type 0} (f : X → Y) (xs : List X) (n : ℕ) (y : Y) → nth (map f xs) n ≡ Some y
    → (x : X) × (nth xs n ≡ Some x) × (f x ≡ y)
mapped_before f xs zero y e = absurd (cc)
mapped_before {X} f xs (suc i) y e = by_option (nth xs (suc i)) refl (sym (slice_get-map f xs i) ∙ e)
  where
    by_option : (o : Option X) → nth xs (suc i) ≡ o → option_map f o ≡ Some y
        → (x : X) × (nth xs (suc i) ≡ Some x) × (f x ≡ y)
    by_option None is h = absurd (cc)
    by_option (Some x) is h = (x, is, cc)

pub nth_mapped : {X Y : Type 0} (f : X → Y) (xs : List X) (n : ℕ) (x : X) → nth xs n ≡ Some x
    → nth (map f xs) n ≡ Some (f x)
nth_mapped f xs zero x e = absurd (cc)
nth_mapped f xs (suc i) x e = slice_get-map f xs i ∙ ap (option_map f) e

-- the two quadruples don't clash
pub record AreFree {Q : Type 0} (clash : Clash) (r s : Rule Q) : Type 0 where
  pub free : QuadruplesClash clash r s → ⊥

module _ {Q : Type 0} where
  pub free_again : (clash : Clash) (r s : Rule Q) → AreFree clash r s → AreFree clash s r
  free_again clash r s h = record { free = λ k. h.free (clash_again clash s r k) }

  -- no two of a list clash exactly where each two are free of the clash
  pub free_of : (clash : Clash) (rs : List (Rule Q)) → HasNoClash clash rs → Apart (AreFree clash) rs
  free_of clash rs h = apart_from_places (AreFree clash) rs (λ i j r s low e f. record {
    free = λ k. h.none i j (record {
      before = low;
      first = r;
      second = s;
      first_stands = e;
      second_stands = f;
      clashes = k;
    });
  })

  pub no_clash_of : (clash : Clash) (rs : List (Rule Q)) → Apart (AreFree clash) rs → HasNoClash clash rs
  no_clash_of clash rs a = record {
    none = λ i j k. (apart_places (AreFree clash) rs i j k.first k.second a k.before
        k.first_stands k.second_stands).free k.clashes;
  }

-- a mapping that takes clashes of one kind back to clashes of another keeps lists free of them
pub free_mapped : {P Q : Type 0} (f : Rule P → Rule Q) (before after : Clash) (rs : List (Rule P))
    → ((r s : Rule P) → QuadruplesClash after (f r) (f s) → QuadruplesClash before r s) → Apart (AreFree before) rs
    → Apart (AreFree after) (map f rs)
free_mapped f before after rs back a = apart_map (AreFree after) f rs
    (apart_weaker (AreFree before) (λ r s. AreFree after (f r) (f s)) rs
    (λ r s h. record { free = λ k. h.free (back r s k) }) a)

-- What a watch has heard, one step after another.
use Rattle.std.specs.Prelude.{◌≡◌, ℕ, ◌+◌, ◌<◌, ◌≤◌, List, [], ◌∷◌, ◌++◌, Option, Some, None, refl}
use Rattle.std.proofs.Common.{zero, suc, arith, sym, ap, subst, ◌∙◌, append_assoc, append-nil}
use Rattle.bn_lists.specs.Runs.{Reaches}
use Rattle.bn_lists.proofs.RunsLemmas.{runs_more, runs_join, runs_turned}
use Rattle.bn_circuits.specs.Circuits.{Circuit, IsCircuit, IsConfig, Goes, IsStuck, IsFirst}
use Rattle.bn_circuits.specs.Stepping.{places, places_back}
use Rattle.bn_circuits.proofs.RunLemmas.{places-Goes, places-stuck, places-zero, places_back-Goes, places_back-first}
use Rattle.bn_circuits.proofs.RunLemmas.{places_back-zero}
use Rattle.bn_circuits.specs.declared.place.Place.{Place}
use Rattle.bn_circuits.specs.declared.config.Config.{Config}
use Rattle.bn_circuits.specs.Watching.{Hears}
use Rattle.bn_circuits.specs.Walking.{HasWalked, HasWalkedBack}

-- nothing told
pub hears-nothing : (told : Option (List Place)) → Hears told [] told
hears-nothing None = tt
hears-nothing (Some told) = sym (append-nil told)

-- places told one after the other
pub hears-joins : (a b c : Option (List Place)) (xs ys : List Place) → Hears a xs b → Hears b ys c
    → Hears a (xs ++ ys) c
hears-joins a b None xs ys first second = tt
hears-joins a None (Some told) xs ys first second = absurd second
hears-joins None (Some mid) (Some told) xs ys first second = absurd first
hears-joins (Some before) (Some mid) (Some told) xs ys first second =
    second ∙ ap (λ ts. ts ++ ys) first ∙ append_assoc before xs ys

-- the places of one step more
places_more : (k : Circuit) (n p : ℕ) (c d e : Config) → p ≡ n + 1 → Reaches (Goes k) n c d → Goes k d e
    → places k p c ≡ places k n c ++ e.place ∷ []
places_more k zero p c d e one path goes =
    let is : p ≡ suc 0 = omega arith in
    let from_c : Goes k c e = subst (λ x. Goes k x e) (sym path) goes in
    ap (λ n. places k n c) is ∙ places-Goes k c e 0 from_c ∙ ap (λ ts. e.place ∷ ts) (places-zero k e)
    ∙ ap (λ ts. ts ++ e.place ∷ []) (sym (places-zero k c))
places_more k (suc n) zero c d e one path goes = absurd (omega arith)
places_more k (suc n) (suc p) c d e one path goes =
    places-Goes k c path.0 p path.1
    ∙ ap (λ ts. path.0.place ∷ ts) (places_more k n p path.0 d e (omega arith) path.2 goes)
    ∙ ap (λ ts. ts ++ e.place ∷ []) (sym (places-Goes k c path.0 n path.1))

-- the places of a run that ends before its time
places_ended : (k : Circuit) (n t : ℕ) (c d : Config) → Reaches (Goes k) n c d → n ≤ t → (n < t → IsStuck k d)
    → places k t c ≡ places k n c
places_ended k zero zero c d path within ended = refl
places_ended k zero (suc t) c d path within ended =
    places-stuck k c (suc t) (subst (IsStuck k) (sym path) (ended (omega arith))) ∙ sym (places-zero k c)
places_ended k (suc n) zero c d path within ended = absurd (omega arith)
places_ended k (suc n) (suc t) c d path within ended =
    places-Goes k c path.0 t path.1
    ∙ ap (λ ts. path.0.place ∷ ts) (places_ended k n t path.0 d path.2 (omega arith) (λ fewer. ended (omega arith)))
    ∙ sym (places-Goes k c path.0 n path.1)

pub walk_starts : (k : Circuit) (c : Config) (told : Option (List Place)) → IsConfig k c → HasWalked k c c 0 told told
walk_starts k c told good =
    record {
      reaches = refl;
      good = good;
      heard = subst (λ ts. Hears told ts told) (sym (places-zero k c)) (hears-nothing told);
    }

pub walk_goes : (k : Circuit) (c d e : Config) (made : ℕ) (old mid new : Option (List Place))
    → HasWalked k c d made old mid → Goes k d e → IsConfig k e
    → Hears mid (e.place ∷ []) new → HasWalked k c e (made + 1) old new
walk_goes k c d e made old mid new walked goes good hears =
    record {
      reaches = runs_more (Goes k) made c d e walked.reaches goes;
      good = good;
      heard = subst (λ ts. Hears old ts new) (sym (places_more k made (made + 1) c d e refl walked.reaches goes))
          (hears-joins old mid new (places k made c) (e.place ∷ []) walked.heard hears);
    }

-- at the end all places were told
pub walk_ends : (k : Circuit) (c d : Config) (made t : ℕ) (old new : Option (List Place)) → HasWalked k c d made old new
    → made ≤ t → (made < t → IsStuck k d)
    → Hears old (places k t c) new
walk_ends k c d made t old new walked within ended =
    subst (λ ts. Hears old ts new) (sym (places_ended k made t c d walked.reaches within ended)) walked.heard

-- ---- backward

places_back_more : (k : Circuit) → IsCircuit k → (n p : ℕ) (c d e : Config) → p ≡ n + 1
    → Reaches (λ x y. Goes k y x) n c d → Goes k e d
    → places_back k p c ≡ places_back k n c ++ e.place ∷ []
places_back_more k circuit zero p c d e one path goes =
    let is : p ≡ suc 0 = omega arith in
    let from_c : Goes k e c = subst (λ x. Goes k e x) (sym path) goes in
    ap (λ n. places_back k n c) is ∙ places_back-Goes k circuit e c 0 from_c
    ∙ ap (λ ts. e.place ∷ ts) (places_back-zero k e)
    ∙ ap (λ ts. ts ++ e.place ∷ []) (sym (places_back-zero k c))
places_back_more k circuit (suc n) zero c d e one path goes = absurd (omega arith)
places_back_more k circuit (suc n) (suc p) c d e one path goes =
    places_back-Goes k circuit path.0 c p path.1
    ∙ ap (λ ts. path.0.place ∷ ts) (places_back_more k circuit n p path.0 d e (omega arith) path.2 goes)
    ∙ ap (λ ts. ts ++ e.place ∷ []) (sym (places_back-Goes k circuit path.0 c n path.1))

places_back_ended : (k : Circuit) → IsCircuit k → (n t : ℕ) (c d : Config) → IsConfig k d
    → Reaches (λ x y. Goes k y x) n c d → n ≤ t → (n < t → IsFirst k d)
    → places_back k t c ≡ places_back k n c
places_back_ended k circuit zero zero c d good path within ended = refl
places_back_ended k circuit zero (suc t) c d good path within ended =
    places_back-first k circuit c (suc t) (subst (IsConfig k) (sym path) good)
    (subst (IsFirst k) (sym path) (ended (omega arith))) ∙ sym (places_back-zero k c)
places_back_ended k circuit (suc n) zero c d good path within ended = absurd (omega arith)
places_back_ended k circuit (suc n) (suc t) c d good path within ended =
    places_back-Goes k circuit path.0 c t path.1
    ∙ ap (λ ts. path.0.place ∷ ts) (places_back_ended k circuit n t path.0 d good path.2 (omega arith)
    (λ fewer. ended (omega arith)))
    ∙ sym (places_back-Goes k circuit path.0 c n path.1)

pub walk_back_starts : (k : Circuit) (c : Config) (told : Option (List Place)) → IsConfig k c
    → HasWalkedBack k c c 0 told told
walk_back_starts k c told good =
    record {
      reaches = refl;
      good = good;
      heard = subst (λ ts. Hears told ts told) (sym (places_back-zero k c)) (hears-nothing told);
    }

pub walk_goes_back : (k : Circuit) → IsCircuit k → (c d e : Config) (made : ℕ) (old mid new : Option (List Place))
    → HasWalkedBack k c d made old mid
    → Goes k e d
    → IsConfig k e → Hears mid (e.place ∷ []) new → HasWalkedBack k c e (made + 1) old new
walk_goes_back k circuit c d e made old mid new walked goes good hears =
    let turned = runs_turned (Goes k) made d c walked.reaches in
    record {
      reaches = runs_join (Goes k) (made + 1) 1 made e d c (omega arith) (d, goes, refl) walked.reaches;
      good = good;
      heard = subst (λ ts. Hears old ts new) (sym (places_back_more k circuit made (made + 1) c d e refl turned goes))
          (hears-joins old mid new (places_back k made c) (e.place ∷ []) walked.heard hears);
    }

-- a first step back, and then more
pub walk_back_then : (k : Circuit) → IsCircuit k → (c d e : Config) (n m : ℕ) (old mid new : Option (List Place))
    → m ≡ n + 1 → Goes k d c
    → Hears old (d.place ∷ []) mid → HasWalkedBack k d e n mid new → HasWalkedBack k c e m old new
walk_back_then k circuit c d e n m old mid new sum goes first rest =
    let count : suc n ≡ m = omega arith in
    record {
      reaches = runs_join (Goes k) m n 1 e d c sum rest.reaches (c, goes, refl);
      good = rest.good;
      heard = subst (λ ts. Hears old ts new) (sym (places_back-Goes k circuit d c n goes)
          ∙ ap (λ i. places_back k i c) count)
          (hears-joins old mid new (d.place ∷ []) (places_back k n d) first rest.heard);
    }

pub walk_back_ends : (k : Circuit) → IsCircuit k → (c d : Config) (made t : ℕ) (old new : Option (List Place))
    → HasWalkedBack k c d made old new → made ≤ t
    → (made < t → IsFirst k d) → Hears old (places_back k t c) new
walk_back_ends k circuit c d made t old new walked within ended =
    let turned = runs_turned (Goes k) made d c walked.reaches in
    subst (λ ts. Hears old ts new) (sym (places_back_ended k circuit made t c d walked.good turned within ended))
    walked.heard

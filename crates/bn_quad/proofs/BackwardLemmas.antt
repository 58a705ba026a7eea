-- Kept quadruples in the opposite order and turned round.
use Rattle.std.specs.Prelude.{◌≡◌, ℕ, ◌<◌, ◌-◌, List, [], ◌∷◌, ◌++◌, length, map, reverse, All}
use Rattle.std.proofs.Common.{refl, sym, ap, ◌∙◌, subst, arith, get_or}
use Rattle.std.proofs.lemmas.List.{length-map, length-reverse, get_or-reverse, map-append, reverse-append}
use Rattle.std.proofs.lemmas.List.Elements.{All-map}
use Rattle.bn_quad.specs.Quadruples.{Rule, quadruples_of, inverse_of, turned, turned_list}
use Rattle.bn_quad.specs.Kept.{rule_of, rules_of, IsSound, IsKept, turned_quad}
use Rattle.bn_quad.proofs.KeptLemmas.{rule_in_range, rule_of-quad_of}
use Rattle.bn_quad.proofs.SoundLemmas.{sound_rule, turned_in_range}
use Rattle.bn_quad.specs.Calls.{StepsBack}
use Rattle.bn_quad.proofs.ReversibleLemmas.{turned_list_steps_back}
use Rattle.bn_quad.specs.declared.quad.Quad.{Quad}

sound_turned : (states : ℕ) (symbols : List ℕ) (q : Quad) → length symbols ≡ 3 → IsSound states symbols q
    → IsSound states symbols (turned_quad q)
sound_turned states symbols q tapes h = sound_rule states symbols (turned (rule_of q))
    (turned_in_range states symbols (rule_of q) (rule_in_range states symbols q tapes h))

pub all_reversed : {X : Type 0} (P : X → Type 0) (xs : List X) → All P xs → All P (reverse xs)
all_reversed P xs h = λ k d inside.
    let long : length (reverse xs) ≡ length xs = length-reverse xs in
    let low : k < length xs = omega arith in
    subst P (sym (get_or-reverse xs k d low)) (h (length xs - 1 - k) d (omega arith))

turned_kept : (qs : List Quad) (states : ℕ) (symbols : List ℕ) → IsKept qs states symbols
    → IsKept (map turned_quad (reverse qs)) states symbols
turned_kept qs states symbols h =
    let long : length (map turned_quad (reverse qs)) ≡ length qs =
    length-map (reverse qs) turned_quad ∙ length-reverse qs in
    record {
      some = omega (arith, h.some);
      few = omega (arith, h.few);
      tapes = h.tapes;
      sound = All-map (IsSound states symbols) turned_quad (reverse qs)
          (λ k d inside. sound_turned states symbols (get_or (reverse qs) k d) h.tapes
          (all_reversed (IsSound states symbols) qs h.sound k d inside));
    }

-- what is kept can be kept turned round
pub kept_turned : (qs ps : List Quad) (states : ℕ) (symbols : List ℕ) → ps ≡ map turned_quad (reverse qs)
    → IsKept qs states symbols → IsKept ps states symbols
kept_turned qs ps states symbols e h = subst (λ xs. IsKept xs states symbols) (sym e) (turned_kept qs states symbols h)

rules_of-turned : (qs : List Quad) → rules_of (map turned_quad qs) ≡ map turned (rules_of qs)
rules_of-turned [] = refl
rules_of-turned (q ∷ qs) = λ i. rule_of-quad_of (turned (rule_of q)) i ∷ rules_of-turned qs i

reverse-map : {X Y : Type 0} (f : X → Y) (xs : List X) → map f (reverse xs) ≡ reverse (map f xs)
reverse-map f [] = refl
reverse-map f (x ∷ xs) =
    ap (map f) (reverse-append (x ∷ []) xs)
    ∙ map-append f (reverse xs) (x ∷ [])
    ∙ ap (λ ys. ys ++ f x ∷ []) (reverse-map f xs)
    ∙ sym (reverse-append (f x ∷ []) (map f xs))

pub rules_of-turned_quads : (qs : List Quad) → rules_of (map turned_quad (reverse qs)) ≡ turned_list (rules_of qs)
rules_of-turned_quads qs = rules_of-turned (reverse qs) ∙ ap (map turned) (reverse-map rule_of qs)

-- what is kept turned round is the machine turned round
pub inverse_kept : (qs ps : List Quad) (states : ℕ) (symbols : List ℕ) → ps ≡ map turned_quad (reverse qs)
    → quadruples_of (rules_of ps) states symbols ≡ inverse_of (quadruples_of (rules_of qs) states symbols)
inverse_kept qs ps states symbols e = ap (λ rs. quadruples_of rs states symbols)
    (ap rules_of e ∙ rules_of-turned_quads qs)

pub inverse_steps_back : (rs ss : List (Rule ℕ)) → ss ≡ turned_list rs → StepsBack rs ss
inverse_steps_back rs ss e = subst (StepsBack rs) (sym e) (λ n m c d sum. turned_list_steps_back rs n m c d sum)

-- Lists of quadruples with other states, turned round, with tapes exchanged, and as they are kept.
use Rattle.std.specs.Prelude.{◌≡◌, ℕ, zero, suc, ◌<◌, ◌≤◌, List, [], ◌∷◌, ◌++◌, length, map, reverse, All, Some}
use Rattle.std.proofs.Common.{refl, sym, ap, ◌∙◌, subst, arith, get_or}
use Rattle.std.proofs.lemmas.List.{map-append, reverse-append}
use Rattle.std.proofs.lemmas.List.Elements.{All-map, All-same, All-tail}
use Rattle.std.proofs.lemmas.Option.{get_or_from_slice_get, slice_get-get_or, slice_get_within}
use Rattle.bn_lists.specs.Lists.{nth, IsIn}
use Rattle.bn_quad.specs.Kept.{quad_of}
use Rattle.bn_quad.specs.Quadruples.{IsQuadMachine, IsRuleInRange, Quadruples, Rule, final_state_of, inverse_of, turned}
use Rattle.bn_quad.specs.Quadruples.{turned_list}
use Rattle.bn_quad.specs.declared.quad.Quad.{Quad}
use Rattle.bn_bennett.specs.Draft.{IsBelow}
use Rattle.bn_bennett_laws.proofs.MembershipLemmas.{in_head, in_tail, from_map}
use Rattle.bn_bennett_laws.specs.Renamed.{renamed, rename}
use Rattle.bn_erase_laws.specs.Lists.{exchanged_rule, exchanged_list}
use Rattle.bn_erase_laws.proofs.TurnedLemmas.{from_turned}
use Rattle.bn_erase.specs.Numbered.{backward_quad, joint_quads, new_state}
use Rattle.bn_erase.specs.declared.erasing.Meeting.{Meeting}

-- ---- what stands in a list

module _ {X : Type 0} (P : X → Type 0) (xs : List X) where
  pub holds_of : (x : X) → All P xs → IsIn xs x → P x
  holds_of x all h = by_place h.place h.stands
    where
      by_place : (n : ℕ) → nth xs n ≡ Some x → P x
      by_place zero e = absurd (cc)
      by_place (suc k) e = subst P (get_or_from_slice_get xs k x x e) (all k x (slice_get_within xs k x e))

  pub all_from : ((x : X) → IsIn xs x → P x) → All P xs
  all_from each = λ k d inside. each (get_or xs k d) (record { place = suc k; stands = slice_get-get_or xs k d inside })

-- the final state is in range
pub final_low : (states : ℕ) (symbols : List ℕ) (rs : List (Rule ℕ)) → 0 < length rs
    → All (IsRuleInRange states symbols) rs → final_state_of rs < states
final_low states symbols [] some all = absurd (omega arith)
final_low states symbols (r ∷ []) some all = (all 0 r (omega arith)).to
final_low states symbols (r ∷ s ∷ rs) some all = final_low states symbols (s ∷ rs) (omega arith)
    (All-tail (IsRuleInRange states symbols) r (s ∷ rs) all)

-- ---- other states

pub rename_same : {P Q : Type 0} (f g : P → Q) (rs : List (Rule P))
    → ((r : Rule P) → IsIn rs r → (f r.from ≡ g r.from) × (f r.to ≡ g r.to)) → rename f rs ≡ rename g rs
rename_same f g [] each = refl
rename_same f g (r ∷ rs) each =
    let here = each r (in_head r rs) in
    let rest = rename_same f g rs (λ s h. each s (in_tail r s rs h)) in
    λ i. record { from = here.0 i; one = r.one; two = r.two; three = r.three; to = here.1 i } ∷ rest i

pub rename_twice : {P Q S : Type 0} (g : Q → S) (f : P → Q) (rs : List (Rule P))
    → rename g (rename f rs) ≡ rename (λ s. g (f s)) rs
rename_twice g f [] = refl
rename_twice g f (r ∷ rs) = ap (λ ss. renamed (λ s. g (f s)) r ∷ ss) (rename_twice g f rs)

-- ---- backward

module _ {P Q : Type 0} (f : P → Q) where
  rename_turned : (rs : List (Rule P)) → rename f (map turned rs) ≡ map turned (rename f rs)
  rename_turned [] = refl
  rename_turned (r ∷ rs) = ap (λ ss. renamed f (turned r) ∷ ss) (rename_turned rs)

  rename_exchanged : (rs : List (Rule P)) → rename f (map exchanged_rule rs) ≡ map exchanged_rule (rename f rs)
  rename_exchanged [] = refl
  rename_exchanged (r ∷ rs) = ap (λ ss. renamed f (exchanged_rule r) ∷ ss) (rename_exchanged rs)

  rename_reverse : (rs : List (Rule P)) → rename f (reverse rs) ≡ reverse (rename f rs)
  rename_reverse [] = refl
  rename_reverse (r ∷ rs) =
      ap (rename f) (reverse-append (r ∷ []) rs)
      ∙ map-append (renamed f) (reverse rs) (r ∷ [])
      ∙ ap (λ ss. ss ++ renamed f r ∷ []) (rename_reverse rs)
      ∙ sym (reverse-append (renamed f r ∷ []) (rename f rs))

  pub rename_backward : (rs : List (Rule P)) → rename f (exchanged_list (turned_list rs))
      ≡ exchanged_list (turned_list (rename f rs))
  rename_backward rs =
      rename_exchanged (turned_list rs) ∙ ap exchanged_list (rename_turned (reverse rs)
      ∙ ap (map turned) (rename_reverse rs))

-- what stands backward in the list is one of its quadruples, turned round and with tapes exchanged
pub from_backward : {Q : Type 0} (rs : List (Rule Q)) (r : Rule Q) → IsIn (exchanged_list (turned_list rs)) r
    → (s : Rule Q) × IsIn rs s × (exchanged_rule (turned s) ≡ r)
from_backward rs r h =
    let one = from_map exchanged_rule (turned_list rs) r h in
    let two = from_turned rs one.0 one.1 in
    (two.0, two.1, ap exchanged_rule two.2 ∙ one.2)

-- ---- as they are kept

-- the rules of both machines' lists
abbrev pub joint_rules : Meeting → List (Rule ℕ) → List (Rule ℕ) → List (Rule ℕ)
joint_rules m first second = first ++ rename (new_state m) (exchanged_list (turned_list second))

backward_kept : (m : Meeting) (rs : List (Rule ℕ)) → map (backward_quad m) (map quad_of rs)
    ≡ map quad_of (rename (new_state m) (exchanged_list rs))
backward_kept m [] = refl
backward_kept m (r ∷ rs) = ap (λ (qs : List Quad). quad_of (renamed (new_state m) (exchanged_rule r)) ∷ qs)
    (backward_kept m rs)

pub joint_kept : (m : Meeting) (rs ss : List (Rule ℕ)) → joint_quads m rs ss ≡ map quad_of (joint_rules m rs ss)
joint_kept m rs ss =
    ap (λ (qs : List Quad). map quad_of rs ++ qs) (backward_kept m (turned_list ss))
    ∙ sym (map-append quad_of rs (rename (new_state m) (exchanged_list (turned_list ss))))

-- the states of a machine backward are few where the machine's are
pub backward_below : (m u : Quadruples) (quads : List Quad) (count : ℕ) → IsQuadMachine m → m ≡ inverse_of u
    → quads ≡ map quad_of m.rules → u.states ≤ count → All (IsBelow count) quads
backward_below m u quads count valid turns kept few =
    let states : m.states ≡ u.states = ap (λ (x : Quadruples). x.states) turns in
    All-same (IsBelow count) quads (map quad_of m.rules) kept (All-map (IsBelow count) quad_of m.rules (λ k d inside.
    let range = valid.in_range k d inside in
    record { state = omega (arith, range.from); next = omega (arith, range.to) }))

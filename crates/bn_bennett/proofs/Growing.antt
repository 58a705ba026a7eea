-- A draft and one more quadruple.
use Rattle.std.proofs.Common.{◌≡◌, ◌≤◌, ◌<◌, ◌+◌, ◌*◌, ◌∷◌, ◌++◌, ◌∙◌, ℕ, suc, zero, List, [], length, Some, refl, sym}
use Rattle.std.proofs.Common.{ap, subst, arith, append_assoc, inl, inr, length-append, get_or, slice_get, map}
use Rattle.std.specs.List.{list_any, All}
use Rattle.std.proofs.lemmas.Bool.{cases_Bool}
use Rattle.std.proofs.lemmas.List.{append-nil, map-append}
use Rattle.std.proofs.lemmas.List.Elements.{All-append}
use Rattle.std.proofs.lemmas.Grind.{flat_map-append}
use Rattle.std.proofs.lemmas.Option.{get_or_from_slice_get, slice_get_within}
use Rattle.std.proofs.Math.ListN.{get_or-append}
use Rattle.bn_csv.specs.Numbering.{firsts_by}
use Rattle.bn_csv.proofs.NumberingLemmas.{firsts-push, length-firsts, number_stays}
use Rattle.bn_quad.specs.Quadruples.{Rule}
use Rattle.bn_quad.specs.Kept.{quad_of, rule_of, rules_of}
use Rattle.bn_quad.proofs.KeptLemmas.{rule_of-quad_of}
use Rattle.bn_quad.specs.declared.quad.Quad.{Quad}
use Rattle.bn_bennett_laws.specs.Names.{states_in}
use Rattle.bn_bennett_laws.specs.Renamed.{renamed, name_at}
use Rattle.bn_bennett_laws.specs.declared.name.Name.{Name}
use Rattle.bn_bennett_laws.specs.declared.name.Name.TheVariants.{GoRight}
use Rattle.bn_bennett.specs.Translation.{is_same, with_name}
use Rattle.bn_bennett.proofs.NameLemmas.{is_same-Decides}
use Rattle.bn_bennett.specs.Made.{numbered_quad}
use Rattle.bn_bennett.specs.Draft.{AreDrafted, IsBelow, renamed_back}

-- ---- one more name

with_grows : (names : List Name) (name : Name) → (more : List Name) × (with_name names name ≡ names ++ more)
with_grows names name = elim (cases_Bool (list_any (is_same name) names)) [
  | inl hit ↦ ([], rw (hit, append-nil names) refl)
  | inr miss ↦ (name ∷ [], rw miss refl)
]

length-states_in : (rs : List (Rule Name)) → length (states_in rs) ≡ 2 * length rs
length-states_in [] = refl
length-states_in (r ∷ rs) = let rest : length (states_in rs) ≡ 2 * length rs = length-states_in rs in omega arith

-- there are at most two names a quadruple
pub few_names : (names : List Name) (quads : List Quad) → AreDrafted names quads
    → length names ≤ 2 * length (renamed_back names quads)
few_names names quads d =
    let n : length names ≡ length (firsts_by is_same (states_in (renamed_back names quads))) = ap length d.in_order in
    let k : length (firsts_by is_same (states_in (renamed_back names quads)))
    ≤ length (states_in (renamed_back names quads)) = length-firsts is_same is_same-Decides
    (states_in (renamed_back names quads)) in
    let m : length (states_in (renamed_back names quads)) ≡ 2 * length (renamed_back names quads) =
    length-states_in (renamed_back names quads) in
    omega arith

pub length-with_name : (names : List Name) (name : Name) → length (with_name names name) ≤ length names + 1
length-with_name names name = elim (cases_Bool (list_any (is_same name) names)) [
  | inl hit ↦ rw hit (omega arith)
  | inr miss ↦ rw miss (omega (arith, length-append names (name ∷ [])))
]

-- ---- names behind the others change nothing

below_tail : (count : ℕ) (q : Quad) (qs : List Quad) → All (IsBelow count) (q ∷ qs) → All (IsBelow count) qs
below_tail count q qs h = λ k d inside. h (suc k) d (omega arith)

back_stays : (names more : List Name) (quads : List Quad) → All (IsBelow (length names)) quads
    → renamed_back (names ++ more) quads ≡ renamed_back names quads
back_stays names more [] h = refl
back_stays names more (q ∷ qs) h =
    let first : IsBelow (length names) q = h 0 q (omega arith) in
    let before = get_or-append names more GoRight q.state first.state in
    let after = get_or-append names more GoRight q.next first.next in
    λ i. record {
      from = before i;
      one = (rule_of q).one;
      two = (rule_of q).two;
      three = (rule_of q).three;
      to = after i;
    } ∷ back_stays names more qs (below_tail (length names) q qs h) i

below_more : (m n : ℕ) (quads : List Quad) → m ≤ n → All (IsBelow m) quads → All (IsBelow n) quads
below_more m n quads low h = λ k d inside. let at : IsBelow m (get_or quads k d) =
    h k d inside in record { state = omega (arith, at.state); next = omega (arith, at.next) }

-- ---- the draft

pub none_drafted : (names : List Name) (quads : List Quad) → names ≡ [] → quads ≡ [] → AreDrafted names quads
unfolding firsts_by
none_drafted names quads e f =
    let P : List Name → Type 0 = λ ns. AreDrafted ns quads in
    let Q : List Quad → Type 0 = λ qs. AreDrafted [] qs in
    subst P (sym e) (subst Q (sym f) (record {
      in_order = refl;
      kept = refl;
      below = λ k d inside. absurd (omega arith);
    }))

-- what is added: a quadruple whose states have these numbers among the names
pub record Adds (names : List Name) (r : Rule Name) (state next : ℕ) (between after : List Name) : Type 0 where
  pub first : between ≡ with_name names r.from
  pub second : after ≡ with_name between r.to
  pub state_is : slice_get between state ≡ Some r.from
  pub next_is : slice_get after next ≡ Some r.to

module _ (names : List Name) (quads : List Quad) (r : Rule Name) (state next : ℕ) (between after : List Name)
    (d : AreDrafted names quads) (a : Adds names r state next between after) where
  abbrev one_more : List Quad
  one_more = quads ++ quad_of (numbered_quad state r next) ∷ []

  grown : (more : List Name) × (after ≡ names ++ more)
  grown =
      let one = with_grows names r.from in
      let two = with_grows between r.to in
      (one.0 ++ two.0, a.second ∙ two.1 ∙ ap (λ ns. ns ++ two.0) (a.first ∙ one.1) ∙ append_assoc names one.0 two.0)

  state_after : slice_get after state ≡ Some r.from
  state_after =
      let two = with_grows between r.to in
      let P : List Name → Type 0 = λ ns. slice_get ns state ≡ Some r.from in
      subst P (sym (a.second ∙ two.1)) (number_stays between two.0 state r.from a.state_is)

  same_rule : renamed (name_at GoRight after) (rule_of (quad_of (numbered_quad state r next))) ≡ r
  same_rule =
      ap (renamed (name_at GoRight after)) (rule_of-quad_of (numbered_quad state r next))
      ∙ (λ i. record {
        from = get_or_from_slice_get after state r.from GoRight state_after i;
        one = r.one;
        two = r.two;
        three = r.three;
        to = get_or_from_slice_get after next r.to GoRight a.next_is i;
      })

  pub drafted_more : renamed_back after one_more ≡ renamed_back names quads ++ r ∷ []
  drafted_more =
      let P : List Name → Type 0 = λ ns. renamed_back ns quads ≡ renamed_back names quads in
      let stays : renamed_back after quads ≡ renamed_back names quads =
      subst P (sym grown.1) (back_stays names grown.0 quads d.below) in
      ap (map (renamed (name_at GoRight after))) (map-append rule_of quads (quad_of (numbered_quad state r next) ∷ []))
      ∙ map-append (renamed (name_at GoRight after)) (rules_of quads)
      (rule_of (quad_of (numbered_quad state r next)) ∷ [])
      ∙ (λ i. stays i ++ same_rule i ∷ [])

  in_order_more : after ≡ firsts_by is_same (states_in (renamed_back after one_more))
  in_order_more =
      let D : List (Rule Name) = renamed_back names quads in
      let states : states_in (D ++ r ∷ []) ≡ (states_in D ++ r.from ∷ []) ++ r.to ∷ [] =
      flat_map-append (λ (s : Rule Name). s.from ∷ s.to ∷ []) D (r ∷ [])
      ∙ sym (append_assoc (states_in D) (r.from ∷ []) (r.to ∷ [])) in
      let one : firsts_by is_same (states_in D ++ r.from ∷ []) ≡ between =
      firsts-push is_same is_same-Decides (states_in D) r.from ∙ ap (λ ns. with_name ns r.from) (sym d.in_order)
      ∙ sym a.first in
      let two : firsts_by is_same ((states_in D ++ r.from ∷ []) ++ r.to ∷ []) ≡ after =
      firsts-push is_same is_same-Decides (states_in D ++ r.from ∷ []) r.to ∙ ap (λ ns. with_name ns r.to) one
      ∙ sym a.second in
      sym (ap (λ rs. firsts_by is_same (states_in rs)) drafted_more ∙ ap (firsts_by is_same) states ∙ two)

  pub are_drafted_more : AreDrafted after one_more
  are_drafted_more = record {
    in_order = in_order_more;
    kept =
        ap (map quad_of) (map-append rule_of quads (quad_of (numbered_quad state r next) ∷ []))
        ∙ map-append quad_of (rules_of quads) (rule_of (quad_of (numbered_quad state r next)) ∷ [])
        ∙ (λ i. d.kept i ++ quad_of (rule_of-quad_of (numbered_quad state r next) i) ∷ []);
    below =
        let long : length after ≡ length names + length grown.0 = ap length grown.1 ∙ length-append names grown.0 in
        All-append (IsBelow (length after)) quads (quad_of (numbered_quad state r next) ∷ [])
        (below_more (length names) (length after) quads (omega arith) d.below)
        (λ k e inside. only k e inside (record {
          state = slice_get_within after state r.from state_after;
          next = slice_get_within after next r.to a.next_is;
        }));
  }
    where
      only : (k : ℕ) (e : Quad) → k < 1 → IsBelow (length after) (quad_of (numbered_quad state r next))
          → IsBelow (length after) (get_or (quad_of (numbered_quad state r next) ∷ []) k e)
      only zero e inside h = h
      only (suc k) e inside h = absurd (omega arith)

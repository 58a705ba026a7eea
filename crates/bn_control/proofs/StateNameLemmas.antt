-- The names of all quadruples, and the names of a control's states.
use Rattle.std.proofs.Common.{◌≡◌, ◌⊎◌, inl, inr, get_or, slice_get, ℕ, zero, suc, ◌+◌, ◌<◌, List, [], ◌∷◌, ◌++◌, map}
use Rattle.std.proofs.Common.{length, drop, Some, refl, sym, ap, subst, ◌∙◌, arith, append_assoc}
use Rattle.std.proofs.lemmas.Bool.Decides.{eqb_tells}
use Rattle.std.proofs.lemmas.List.{drop_more, get_or-map, length-map}
use Rattle.bn_lists.specs.Lists.{nth, Has}
use Rattle.bn_lists.proofs.MemberLemmas.{in_front, of_two}
use Rattle.bn_quad.specs.Quadruples.{Quadruples, Rule, final_state_of}
use Rattle.bn_quad.specs.Kept.{quad_of}
use Rattle.bn_quad.specs.declared.quad.Quad.{Quad}
use Rattle.bn_network.specs.Controls as control
use Rattle.bn_network.specs.Controls.{IsNotLeft}
use Rattle.bn_network.specs.Controls.{ControlState, Occurs, is_begin, is_end, is_open, is_read, is_shift, is_write}
use Rattle.bn_control.specs.Shown.{IsOpenBelow}
use Rattle.bn_control.specs.declared.name.StateName.{StateName}
use Rattle.bn_control.specs.declared.name.StateName.TheVariants.{Begin, End, Reads}
use Rattle.bn_control.specs.declared.name.Symbols.TheVariants.{Empty}
use Rattle.bn_control.specs.Names.{state_of, IsProper}
use Rattle.bn_control.specs.Listed.{rule_names, names_from, AreOpen}
use Rattle.bn_control.specs.Ordered.{AreNames}
use Rattle.bn_control.proofs.NameShownLemmas.{IsNamed, named_front, named_behind, names_proper, each_read}
use Rattle.bn_control.proofs.NameShownLemmas.{each_shift, each_write, only_these}
use Rattle.bn_control.proofs.RuleLemmas.{no_rule}

-- ---- all quadruples

-- a quadruple of a list, by its place, with a name of it
record IsFrom (k : ℕ) (rs : List (Rule ℕ)) (x : StateName) : Type 0 where
  pub place : ℕ
  pub rule : Rule ℕ
  pub stands : slice_get rs place ≡ Some rule
  pub has : Has (rule_names (k + place) rule) x

from_all : (k : ℕ) (rs : List (Rule ℕ)) (x : StateName) → Has (names_from k rs) x → IsFrom k rs x
from_all k [] x h = absurd h
from_all k (r ∷ rs) x h = elim (of_two (rule_names k r) (names_from (suc k) rs) x h) [
  | inl here ↦ (let e : k ≡ k + 0 = omega arith in record {
    place = 0;
    rule = r;
    stands = refl;
    has = subst (λ n. Has (rule_names n r) x) e here;
  })
  | inr later ↦ (let more = from_all (suc k) rs x later in let e : suc k + more.place
      ≡ k + suc more.place = omega arith in record {
        place = suc more.place;
        rule = more.rule;
        stands = more.stands;
        has = subst (λ n. Has (rule_names n more.rule) x) e more.has;
      })
]

to_all : (k : ℕ) (rs : List (Rule ℕ)) (i : ℕ) (r : Rule ℕ) (q : ControlState) → slice_get rs i ≡ Some r
    → IsNamed (rule_names (k + i) r) q → IsNamed (names_from k rs) q
to_all k [] i r q e h = absurd (cc)
to_all k (s ∷ rs) zero r q e h =
    let same : r ≡ s = cc in
    let n : k + 0 ≡ k = omega arith in
    named_front (rule_names k s) (names_from (suc k) rs) q (subst (λ v. IsNamed (rule_names k v) q) same
    (subst (λ v. IsNamed (rule_names v r) q) n h))
to_all k (s ∷ rs) (suc i) r q e h =
    let n : k + suc i ≡ suc k + i = omega arith in
    named_behind (rule_names k s) (names_from (suc k) rs) q (to_all (suc k) rs i r q e
    (subst (λ v. IsNamed (rule_names v r) q) n h))

-- one quadruple more
pub next_quad : (quads : List Quad) (rs : List (Rule ℕ)) (i : ℕ) (d : Quad) (old now new : List StateName)
    → quads ≡ map quad_of rs → i < length quads
    → now ++ names_from (i + 1) (drop i rs) ≡ old → ((r : Rule ℕ) → get_or quads i d ≡ quad_of r
    → new ≡ now ++ rule_names (i + 1) r)
    → new ++ names_from (i + 1 + 1) (drop (i + 1) rs) ≡ old
next_quad quads rs i d old now new kept low so_far here =
    let count : length quads ≡ length rs = ap length kept ∙ length-map rs quad_of in
    let few : i < length rs = omega arith in
    let r = get_or rs i no_rule in
    let quad : get_or quads i d ≡ quad_of r = ap (λ l. get_or l i d) kept ∙ get_or-map quad_of rs i no_rule d few in
    let left : drop i rs ≡ r ∷ drop (i + 1) rs = drop_more rs i no_rule few in
    let next : suc (i + 1) ≡ i + 1 + 1 = omega arith in
    ap (λ l. l ++ names_from (i + 1 + 1) (drop (i + 1) rs)) (here r quad)
    ∙ append_assoc now (rule_names (i + 1) r) (names_from (i + 1 + 1) (drop (i + 1) rs))
    ∙ ap (λ n. now ++ (rule_names (i + 1) r ++ names_from n (drop (i + 1) rs))) (sym next)
    ∙ ap (λ l. now ++ names_from (i + 1) l) (sym left) ∙ so_far

-- ---- states that no quadruple leaves

pub none_open : (m : Quadruples) → AreOpen m 0 []
none_open m = record {
  proper = λ x h. absurd h;
  only = λ x h. absurd h;
  each = λ q h. absurd (let low = h.low in omega arith);
}

longer : (m : Quadruples) (k : ℕ) (q : ControlState) → IsOpenBelow m k q → IsOpenBelow m (k + 1) q
longer m k q h = let low = h.low in record {
  state = h.state;
  low = omega arith;
  going = h.going;
  none = h.none;
  awaits = h.awaits;
}

pub more_open : (m : Quadruples) (k : ℕ) (l : List StateName) → (k ≡ final_state_of m.rules → ⊥) → IsNotLeft m k
    → AreOpen m k l → AreOpen m (k + 1) (l ++ (Reads k 0 Empty ∷ []))
more_open m k l going none waiting = record { proper = proper; only = only; each = each }
  where
    proper : (x : StateName) → Has (l ++ (Reads k 0 Empty ∷ [])) x → IsProper x
    proper x h = elim (of_two l (Reads k 0 Empty ∷ []) x h) [
      | inl a ↦ waiting.proper x a
      | inr b ↦ elim b [ inl e ↦ subst IsProper (sym e) refl | inr f ↦ absurd f ]
    ]

    here : IsOpenBelow m (k + 1) (state_of (Reads k 0 Empty))
    here = record { state = k; low = omega arith; going = going; none = none; awaits = refl }

    only : (x : StateName) → Has (l ++ (Reads k 0 Empty ∷ [])) x → IsOpenBelow m (k + 1) (state_of x)
    only x h = elim (of_two l (Reads k 0 Empty ∷ []) x h) [
      | inl a ↦ longer m k (state_of x) (waiting.only x a)
      | inr b ↦ elim b [ inl e ↦ subst (λ y. IsOpenBelow m (k + 1) (state_of y)) (sym e) here | inr f ↦ absurd f ]
    ]

    each : (q : ControlState) → IsOpenBelow m (k + 1) q → IsNamed (l ++ (Reads k 0 Empty ∷ [])) q
    each q h = elim (eqb_tells h.state k) [
      | inl same ↦ named_behind l (Reads k 0 Empty ∷ []) q (
        Reads k 0 Empty,
        inl refl,
        sym (h.awaits ∙ ap (λ a. control.Reads a []) same.1),
      )
      | inr other ↦ (let low = h.low in let ne = other.1 in named_front l (Reads k 0 Empty ∷ []) q
          (waiting.each q (record {
            state = h.state;
            low = omega arith;
            going = h.going;
            none = h.none;
            awaits = h.awaits;
          })))
    ]

pub same_open : (m : Quadruples) (k : ℕ) (l : List StateName) → (k ≡ final_state_of m.rules) ⊎ (IsNotLeft m k → ⊥)
    → AreOpen m k l → AreOpen m (k + 1) l
same_open m k l closed waiting = record {
  proper = waiting.proper;
  only = λ x h. longer m k (state_of x) (waiting.only x h);
  each = λ q h. waiting.each q (back q h);
}
  where
    by : (q : ControlState) (h : IsOpenBelow m (k + 1) q) → h.state ≡ k
        → (k ≡ final_state_of m.rules) ⊎ (IsNotLeft m k → ⊥) → ⊥
    by q h e (inl last) = h.going (e ∙ last)
    by q h e (inr is_left) = is_left (subst (IsNotLeft m) e h.none)

    back : (q : ControlState) → IsOpenBelow m (k + 1) q → IsOpenBelow m k q
    back q h = elim (eqb_tells h.state k) [
      | inl same ↦ absurd (by q h same.1 closed)
      | inr other ↦ (let low = h.low in let ne = other.1 in record
          { state = h.state; low = omega arith; going = h.going; none = h.none; awaits = h.awaits })
    ]

-- ---- all names

module _ (m : Quadruples) (opened : List StateName) (waiting : AreOpen m m.states opened) where
  abbrev gathered : List StateName
  gathered = ((Begin ∷ End ∷ []) ++ opened) ++ names_from 1 m.rules

  in_ends : (x : StateName) → Has (Begin ∷ End ∷ []) x → (x ≡ Begin) ⊎ (x ≡ End)
  in_ends x (inl e) = inl e
  in_ends x (inr (inl e)) = inr e
  in_ends x (inr (inr h)) = absurd h

  rule_here : (x : StateName) (f : IsFrom 1 m.rules x) → nth m.rules (1 + f.place) ≡ Some f.rule
  rule_here x f = let e : suc f.place ≡ 1 + f.place = omega arith in subst (λ n. nth m.rules n ≡ Some f.rule) e f.stands

  on_each : (P : StateName → Type 0) → P Begin → P End → ((x : StateName) → Has opened x → P x)
      → ((x : StateName) (f : IsFrom 1 m.rules x) → P x) → (x : StateName) → Has gathered x → P x
  on_each P first second third fourth x h = elim (of_two ((Begin ∷ End ∷ []) ++ opened) (names_from 1 m.rules) x h) [
    | inl front ↦ elim (of_two (Begin ∷ End ∷ []) opened x front) [
      | inl one ↦ elim (in_ends x one) [ inl e ↦ subst P (sym e) first | inr e ↦ subst P (sym e) second ]
      | inr more ↦ third x more
    ]
    | inr back ↦ fourth x (from_all 1 m.rules x back)
  ]

  open_occurs : (q : ControlState) → IsOpenBelow m m.states q → Occurs m q
  open_occurs q h = is_open h.state h.low h.going h.none h.awaits

  in_all : (n : ℕ) (r : Rule ℕ) (q : ControlState) → nth m.rules n ≡ Some r → IsNamed (rule_names n r) q
      → IsNamed gathered q
  in_all zero r q e h = absurd (cc)
  in_all (suc i) r q e h =
      let n : suc i ≡ 1 + i = omega arith in
      named_behind ((Begin ∷ End ∷ []) ++ opened) (names_from 1 m.rules) q
      (to_all 1 m.rules i r q e (subst (λ v. IsNamed (rule_names v r) q) n h))

  each : (q : ControlState) → Occurs m q → IsNamed gathered q
  each q (is_begin e) = (Begin, in_front ((Begin ∷ End ∷ []) ++ opened) (names_from 1 m.rules) Begin (inl refl), sym e)
  each q (is_end e) = (End, in_front ((Begin ∷ End ∷ []) ++ opened) (names_from 1 m.rules) End (inr (inl refl)), sym e)
  each q (is_open a low other none e) = named_front ((Begin ∷ End ∷ []) ++ opened) (names_from 1 m.rules) q
      (named_behind (Begin ∷ End ∷ []) opened q (waiting.each q
      (record { state = a; low = low; going = other; none = none; awaits = e })))
  each q (is_read n r here before rest p split e) = in_all n r q here
      (subst (IsNamed (rule_names n r)) (sym e) (each_read n r before rest p split))
  each q (is_shift n r here before rest p split e) = in_all n r q here
      (subst (IsNamed (rule_names n r)) (sym e) (each_shift n r before rest p split))
  each q (is_write n r here before rest p split e) = in_all n r q here
      (subst (IsNamed (rule_names n r)) (sym e) (each_write n r before rest p split))

  pub all_names : AreNames m gathered
  all_names = record {
    proper = on_each IsProper tt tt waiting.proper (λ x f. names_proper (1 + f.place) f.rule x f.has);
    only = on_each (λ x. Occurs m (state_of x)) (is_begin refl) (is_end refl)
        (λ x h. open_occurs (state_of x) (waiting.only x h)) (λ x f. only_these m (1 + f.place) f.rule (rule_here x f) x
        f.has);
    each = each;
  }

-- what is pushed one after the other
pub pushed : (m : Quadruples) (none one two three four opened : List StateName) → none ≡ [] → one ≡ none ++ Begin ∷ []
    → two ≡ one ++ End ∷ []
    → three ≡ two ++ opened → four ≡ three ++ names_from 1 m.rules
    → four ≡ ((Begin ∷ End ∷ []) ++ opened) ++ names_from 1 m.rules
pushed m none one two three four opened e0 e1 e2 e3 e4 =
    let first : one ≡ Begin ∷ [] = e1 ∙ ap (λ l. l ++ Begin ∷ []) e0 in
    let second : two ≡ Begin ∷ End ∷ [] = e2 ∙ ap (λ l. l ++ End ∷ []) first in
    e4 ∙ ap (λ l. l ++ names_from 1 m.rules) (e3 ∙ ap (λ l. l ++ opened) second)

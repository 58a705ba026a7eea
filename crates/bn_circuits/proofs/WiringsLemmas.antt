-- Lists of wires that are one to one, and what relation of lines they make.
use Rattle.std.specs.Prelude.{◌≡◌, ◌≢◌, ℕ, ◌<◌, true, nat_lt, List, [], ◌∷◌, ◌++◌, replicate, take, Option, Some, None}
use Rattle.std.specs.Prelude.{slice_get, refl, ◌⊎◌}
use Rattle.std.proofs.Common.{zero, suc, arith, sym, subst, ◌∙◌, inl, inr}
use Rattle.std.proofs.lemmas.Bool.Decides.{nat_tests}
use Rattle.bn_circuits.specs.Circuits.{target, source, IsOneToOne, inputs_of, outputs_of}
use Rattle.bn_circuits.specs.declared.line.Line.{Line}
use Rattle.bn_circuits.specs.declared.line.Wire.{Wire}
use Rattle.bn_element.specs.Rotary.{rotary}
use Rattle.bn_circuits.specs.Faults.{AreFaultless}
use Rattle.bn_circuits.proofs.WireListLemmas.{line_tells}
use Rattle.bn_circuits.specs.Wirings.{AreApart, AreWiresOf, AreFitting}
use Rattle.bn_circuits.proofs.WireLemmas.{target-append_none, target-append_some}

-- what the first wire of a list leads to, and where it comes from, among others
target-here : (w : Wire) (ws : List Wire) (from to : Line) → target (w ∷ ws) from ≡ Some to
    → ((w.from ≡ from) × (w.to ≡ to)) ⊎ ((w.from ≢ from) × (target ws from ≡ Some to))
target-here w ws from to h =
    elim (line_tells w.from from) [
      | inl here ↦ (let found = rw here.0 at h in inl (here.1, cc))
      | inr there ↦ inr (there.1, rw there.0 at h)
    ]

source-here : (w : Wire) (ws : List Wire) (to from : Line) → source (w ∷ ws) to ≡ Some from
    → ((w.to ≡ to) × (w.from ≡ from)) ⊎ ((w.to ≢ to) × (source ws to ≡ Some from))
source-here w ws to from h =
    elim (line_tells w.to to) [
      | inl here ↦ (let found = rw here.0 at h in inl (here.1, cc))
      | inr there ↦ inr (there.1, rw there.0 at h)
    ]

target-first : (w : Wire) (ws : List Wire) → target (w ∷ ws) w.from ≡ Some w.to
target-first w ws = elim (line_tells w.from w.from) [ inl here ↦ rw here.0 refl | inr there ↦ absurd (there.1 refl) ]

source-first : (w : Wire) (ws : List Wire) → source (w ∷ ws) w.to ≡ Some w.from
source-first w ws = elim (line_tells w.to w.to) [ inl here ↦ rw here.0 refl | inr there ↦ absurd (there.1 refl) ]

target-skip : (w : Wire) (ws : List Wire) (from : Line) → w.from ≢ from → target (w ∷ ws) from ≡ target ws from
target-skip w ws from apart = elim (line_tells w.from from) [
  | inl here ↦ absurd (apart here.1)
  | inr there ↦ rw there.0 refl
]

source-skip : (w : Wire) (ws : List Wire) (to : Line) → w.to ≢ to → source (w ∷ ws) to ≡ source ws to
source-skip w ws to apart = elim (line_tells w.to to) [ inl here ↦ absurd (apart here.1) | inr there ↦ rw there.0 refl ]

apart-source : (ws : List Wire) → AreApart ws → (from to : Line) → target ws from ≡ Some to → source ws to ≡ Some from
apart-source [] apart from to h = absurd (cc)
apart-source (w ∷ ws) apart from to h =
    elim (target-here w ws from to h) [
      | inl here ↦ (let first = source-first w ws in cc)
      | inr there ↦ (let rest = apart-source ws apart.2 from to there.1 in source-skip w ws to
          (λ same. let none : source ws w.to ≡ None = apart.1 in let at_to : source ws to
          ≡ None = rw same at none in cc) ∙ rest)
    ]

apart-target : (ws : List Wire) → AreApart ws → (from to : Line) → source ws to ≡ Some from → target ws from ≡ Some to
apart-target [] apart from to h = absurd (cc)
apart-target (w ∷ ws) apart from to h =
    elim (source-here w ws to from h) [
      | inl here ↦ (let first = target-first w ws in cc)
      | inr there ↦ (let rest = apart-target ws apart.2 from to there.1 in target-skip w ws from
          (λ same. let none : target ws w.from ≡ None = apart.0 in let at_from : target ws from
          ≡ None = rw same at none in cc) ∙ rest)
    ]

pub apart-IsOneToOne : (ws : List Wire) → AreApart ws → IsOneToOne ws
apart-IsOneToOne ws apart from to = (apart-source ws apart from to, apart-target ws apart from to)

-- a wire of the list leads from its output line to its input line
pub apart-wire : (ws : List Wire) (n : ℕ) (w : Wire) → AreApart ws → slice_get ws n ≡ Some w
    → target ws w.from ≡ Some w.to
apart-wire [] n w apart h = absurd (cc)
apart-wire (v ∷ ws) zero w apart h = let same : v ≡ w = cc in subst (λ x. target (v ∷ ws) x.from ≡ Some x.to) same
    (target-first v ws)
apart-wire (v ∷ ws) (suc n) w apart h =
    let rest = apart-wire ws n w apart.2 h in
    target-skip v ws w.from (λ same. let none : target ws v.from ≡ None = apart.0 in let at_w : target ws w.from
    ≡ None = rw same at none in cc) ∙ rest

source-append_none : (xs ys : List Wire) (to : Line) → source xs to ≡ None → source (xs ++ ys) to ≡ source ys to
source-append_none [] ys to none = refl
source-append_none (x ∷ xs) ys to none =
    elim (line_tells x.to to) [
      | inl here ↦ absurd (let found = rw here.0 at none in cc)
      | inr there ↦ rw there.0 (source-append_none xs ys to (rw there.0 at none))
    ]

pub apart-append : (xs ys : List Wire) → AreApart xs → AreApart ys
    → ((from to : Line) → target xs from ≡ Some to → (target ys from ≡ None) × (source ys to ≡ None))
    → AreApart (xs ++ ys)
apart-append [] ys left right clear = right
apart-append (x ∷ xs) ys left right clear =
    let here = clear x.from x.to (target-first x xs) in (
      target-append_none xs ys x.from left.0 ∙ here.0,
      source-append_none xs ys x.to left.1 ∙ here.1,
      apart-append xs ys left.2 right (λ from to h.
          clear from to (target-skip x xs from (λ same. let none : target xs x.from
          ≡ None = left.0 in let at_from : target xs from ≡ None = rw same at none in cc) ∙ h)),
    )

-- no line from which the relation leads has a wire
pub none_of : (o : Option Line) → ((to : Line) → o ≡ Some to → ⊥) → o ≡ None
none_of None h = refl
none_of (Some to) h = absurd (h to refl)

module _ (Leads : Line → Line → Type 0) (ws : List Wire) (are : AreWiresOf Leads ws) where
  pub no_target : (from : Line) → ((to : Line) → Leads from to → ⊥) → target ws from ≡ None
  no_target from never = none_of (target ws from) (λ to h. never to (are.sound from to h))

  pub no_source : (to : Line) → ((from : Line) → Leads from to → ⊥) → source ws to ≡ None
  no_source to never = none_of (source ws to) (λ from h. never from
      (are.sound from to (apart-target ws are.apart from to h)))

-- no wire
pub no_wires : (Leads : Line → Line → Type 0) → ((from to : Line) → Leads from to → ⊥) → AreWiresOf Leads []
no_wires Leads never = record {
  sound = λ from to h. absurd (cc);
  complete = λ from to h. absurd (never from to h);
  apart = tt;
}

-- one wire
pub record IsWire (w : Wire) (from to : Line) : Type 0 where
  pub leaves : from ≡ w.from
  pub ends : to ≡ w.to

pub one_wire : (w : Wire) → AreWiresOf (IsWire w) (w ∷ [])
one_wire w =
    record {
      sound = λ from to h. elim (target-here w [] from to h) [
        | inl here ↦ record { leaves = sym here.0; ends = sym here.1 }
        | inr there ↦ absurd (let none = there.1 in cc)
      ];
      complete = λ from to h. rw (h.leaves, h.ends) (target-first w []);
      apart = (refl, refl, tt);
    }

-- the wires of two lists make the relation of both, where no line is in both
pub joined_wires : (One Other Both : Line → Line → Type 0) (xs ys : List Wire) → AreWiresOf One xs → AreWiresOf Other ys
    → ((from to line : Line) → One from to → Other from line → ⊥)
    → ((from to line : Line) → One from to → Other line to → ⊥) → ((from to : Line) → One from to → Both from to)
    → ((from to : Line) → Other from to → Both from to) → ((from to : Line) → Both from to
    → One from to ⊎ Other from to) → AreWiresOf Both (xs ++ ys)
joined_wires One Other Both xs ys left right no_from no_to first second either =
    record {
      sound = λ from to h. by_first from to (target xs from) refl h;
      complete = λ from to both. from_either from to (either from to both);
      apart = apart-append xs ys left.apart right.apart (λ from to h.
          let one = left.sound from to h in (
            no_target Other ys right from (λ line other. no_from from to line one other),
            no_source Other ys right to (λ line other. no_to from to line one other),
          ));
    }
  where
    by_first : (from to : Line) (o : Option Line) → target xs from ≡ o → target (xs ++ ys) from ≡ Some to → Both from to
    by_first from to None is h = second from to (right.sound from to (sym (target-append_none xs ys from is) ∙ h))
    by_first from to (Some line) is h =
        let found = target-append_some xs ys from line is in
        let same : line ≡ to = cc in
        first from to (left.sound from to (subst (λ x. target xs from ≡ Some x) same is))

    from_either : (from to : Line) → One from to ⊎ Other from to → target (xs ++ ys) from ≡ Some to
    from_either from to (inl one) = target-append_some xs ys from to (left.complete from to one)
    from_either from to (inr other) = target-append_none xs ys from
        (no_target One xs left from (λ line one. no_from from line to one other)) ∙ right.complete from to other

-- one wire more
pub more_wire : (Leads : Line → Line → Type 0) (ws : List Wire) (w : Wire) → AreWiresOf Leads ws
    → ((to : Line) → Leads w.from to → ⊥) → ((from : Line) → Leads from w.to → ⊥)
    → AreWiresOf (λ from to. Leads from to ⊎ IsWire w from to) (ws ++ w ∷ [])
more_wire Leads ws w are no_from no_to =
    joined_wires Leads (IsWire w) (λ from to. Leads from to ⊎ IsWire w from to) ws (w ∷ []) are (one_wire w)
    (λ from to line leads is. no_from to (subst (λ x. Leads x to) is.leaves leads))
    (λ from to line leads is. no_to from (subst (λ x. Leads from x) is.ends leads)) (λ from to h. inl h)
    (λ from to h. inr h) (λ from to h. h)

-- the same relation in other words
pub same_wires : (One Other : Line → Line → Type 0) (ws : List Wire) → AreWiresOf One ws
    → ((from to : Line) → One from to → Other from to) → ((from to : Line) → Other from to → One from to)
    → AreWiresOf Other ws
same_wires One Other ws are first second =
    record {
      sound = λ from to h. first from to (are.sound from to h);
      complete = λ from to h. are.complete from to (second from to h);
      apart = are.apart;
    }

some_target : (ws : List Wire) (n : ℕ) (w : Wire) → slice_get ws n ≡ Some w → target ws w.from ≡ None → ⊥
some_target [] n w h none = absurd (cc)
some_target (v ∷ ws) zero w h none = let same : v ≡ w = cc in let found = target-first v ws in let at_w =
    subst (λ x. target (v ∷ ws) x.from ≡ Some v.to) same found in cc
some_target (v ∷ ws) (suc n) w h none =
    elim (line_tells v.from w.from) [
      | inl here ↦ (let found = rw here.0 at none in absurd (cc))
      | inr there ↦ some_target ws n w h (rw there.0 at none)
    ]

some_source : (ws : List Wire) (n : ℕ) (w : Wire) → slice_get ws n ≡ Some w → source ws w.to ≡ None → ⊥
some_source [] n w h none = absurd (cc)
some_source (v ∷ ws) zero w h none = let same : v ≡ w = cc in let found = source-first v ws in let at_w =
    subst (λ x. source (v ∷ ws) x.to ≡ Some v.from) same found in cc
some_source (v ∷ ws) (suc n) w h none =
    elim (line_tells v.to w.to) [
      | inl here ↦ (let found = rw here.0 at none in absurd (cc))
      | inr there ↦ some_source ws n w h (rw there.0 at none)
    ]

pub earlier_target : (ws : List Wire) (n : ℕ) (w : Wire) → AreApart ws → slice_get ws n ≡ Some w
    → target (take n ws) w.from ≡ None
earlier_target [] n w apart h = absurd (cc)
earlier_target (v ∷ ws) zero w apart h = refl
earlier_target (v ∷ ws) (suc n) w apart h =
    target-skip v (take n ws) w.from (λ same. some_target ws n w h
    (let none : target ws v.from ≡ None = apart.0 in rw same at none)) ∙ earlier_target ws n w apart.2 h

pub earlier_source : (ws : List Wire) (n : ℕ) (w : Wire) → AreApart ws → slice_get ws n ≡ Some w
    → source (take n ws) w.to ≡ None
earlier_source [] n w apart h = absurd (cc)
earlier_source (v ∷ ws) zero w apart h = refl
earlier_source (v ∷ ws) (suc n) w apart h =
    source-skip v (take n ws) w.to (λ same. some_source ws n w h
    (let none : source ws v.to ≡ None = apart.1 in rw same at none)) ∙ earlier_source ws n w apart.2 h

pub rotary-outputs : (count e : ℕ) → e < count → outputs_of (replicate count rotary) e ≡ 4
rotary-outputs zero e within = absurd (omega arith)
rotary-outputs (suc count) zero within = refl
rotary-outputs (suc count) (suc e) within = rotary-outputs count e (omega arith)

pub rotary-inputs : (count e : ℕ) → e < count → inputs_of (replicate count rotary) e ≡ 4
rotary-inputs zero e within = absurd (omega arith)
rotary-inputs (suc count) zero within = refl
rotary-inputs (suc count) (suc e) within = rotary-inputs count e (omega arith)

pub apart-AreFaultless : (count : ℕ) (ws : List Wire) → AreApart ws → AreFitting count ws
    → AreFaultless (replicate count rotary) ws
apart-AreFaultless count ws apart fitting n below w h =
    let fits = fitting.fits n w h in
    let outputs = rotary-outputs count w.from.element fits.0 in
    let inputs = rotary-inputs count w.to.element fits.2 in
    let out : nat_lt w.from.line 4 ≡ true = below_four w.from.line fits.1 in
    let into : nat_lt w.to.line 4 ≡ true = below_four w.to.line fits.3 in
    rw (outputs, inputs, out, into, earlier_target ws n w apart h, earlier_source ws n w apart h) refl
  where
    below_four : (x : ℕ) → x < 4 → nat_lt x 4 ≡ true
    below_four x h = grind (arith, nat_tests)

-- A relation of lines that is one to one both ways and can be listed has a list of wires.
use Rattle.std.specs.Prelude.{◌≡◌, ◌≢◌, List, [], ◌∷◌, Option, Some, None, refl}
use Rattle.std.proofs.Common.{sym, ap, subst, ◌∙◌, inl, inr}
use Rattle.bn_circuits.specs.Circuits.{target, source}
use Rattle.bn_circuits.specs.declared.line.Line.{Line}
use Rattle.bn_circuits.specs.declared.line.Wire.{Wire}
use Rattle.bn_circuits.proofs.WireListLemmas.{line_tells}
use Rattle.bn_circuits.specs.Wirings.{AreApart, AreWiresOf}
use Rattle.bn_circuits.proofs.WiringsLemmas.{apart-IsOneToOne}
use Rattle.bn_lists.specs.Lists.{Has}
use Rattle.bn_network.proofs.ListedLemmas.{Listing}

-- each output line leads to one input line at most, and each input line comes from one output line at most
pub record IsBothWays (R : Line → Line → Type 0) : Type 0 where
  pub ahead : (from to other : Line) → R from to → R from other → to ≡ other
  pub behind : (from other to : Line) → R from to → R other to → from ≡ other

-- where the first wire leads
first_target : (w : Wire) (ws : List Wire) → target (w ∷ ws) w.from ≡ Some w.to
first_target w ws = elim (line_tells w.from w.from) [ inl here ↦ rw here.0 refl | inr there ↦ absurd (there.1 refl) ]

-- where the first wire does not leave
other_target : (w : Wire) (ws : List Wire) (from : Line) → w.from ≢ from → target (w ∷ ws) from ≡ target ws from
other_target w ws from apart = elim (line_tells w.from from)
    [ inl here ↦ absurd (apart here.1) | inr there ↦ rw there.0 refl ]

module _ (R : Line → Line → Type 0) (both : IsBothWays R) where
  -- wires of the relation, among them these
  record HasWires (items : List Wire) : Type 0 where
    wires : List Wire
    apart : AreApart wires
    sound : (from to : Line) → target wires from ≡ Some to → R from to
    each : (w : Wire) → Has items w → target wires w.from ≡ Some w.to

  -- one wire more, where its output line is free or not
  one_more : (v : Wire) (items : List Wire) (rest : HasWires items) → R v.from v.to → (o : Option Line)
      → target rest.wires v.from ≡ o → HasWires (v ∷ items)
  one_more v items rest is (Some to) e = record {
    wires = rest.wires;
    apart = rest.apart;
    sound = rest.sound;
    each = each;
  }
    where
      each : (w : Wire) → Has (v ∷ items) w → target rest.wires w.from ≡ Some w.to
      each w (inl eq) = let same : to ≡ v.to = both.ahead v.from to v.to (rest.sound v.from to e) is in subst
          (λ (x : Wire). target rest.wires x.from ≡ Some x.to) (sym eq) (e ∙ ap (λ t. Some t) same)
      each w (inr h) = rest.each w h
  one_more v items rest is None e = record {
    wires = v ∷ rest.wires;
    apart = (e, no_source (source rest.wires v.to) refl, rest.apart);
    sound = sound;
    each = each;
  }
    where
      no_source : (o : Option Line) → source rest.wires v.to ≡ o → source rest.wires v.to ≡ None
      no_source None h = h
      no_source (Some from) h =
          let wire = (apart-IsOneToOne rest.wires rest.apart from v.to).1 h in
          let same : from ≡ v.from = both.behind from v.from v.to (rest.sound from v.to wire) is in
          let there : target rest.wires v.from ≡ Some v.to = subst (λ x. target rest.wires x ≡ Some v.to) same wire in
          absurd (cc)

      sound : (from to : Line) → target (v ∷ rest.wires) from ≡ Some to → R from to
      sound from to h = elim (line_tells v.from from) [
        | inl here ↦ (let found = rw here.0 at h in let ends : v.to
            ≡ to = cc in subst (λ x. R from x) ends (subst (λ x. R x v.to) here.1 is))
        | inr there ↦ rest.sound from to (rw there.0 at h)
      ]

      each : (w : Wire) → Has (v ∷ items) w → target (v ∷ rest.wires) w.from ≡ Some w.to
      each w (inl eq) = subst (λ (x : Wire). target (v ∷ rest.wires) x.from ≡ Some x.to) (sym eq)
          (first_target v rest.wires)
      each w (inr h) =
          let there = rest.each w h in
          other_target v rest.wires w.from (λ same. let here : target rest.wires v.from
          ≡ Some w.to = subst (λ x. target rest.wires x ≡ Some w.to) (sym same) there in cc) ∙ there

  -- each wire of a list that is of the relation
  kept : (items : List Wire) → ((w : Wire) → Has items w → R w.from w.to) → HasWires items
  kept [] all = record { wires = []; apart = tt; sound = λ from to h. absurd (cc); each = λ w h. absurd h }
  kept (v ∷ items) all = let rest = kept items (λ w h. all w (inr h)) in one_more v items rest (all v (inl refl))
      (target rest.wires v.from) refl

  -- the wires of the relation, each once
  pub wires_there : Listing (λ (w : Wire). R w.from w.to) → (ws : List Wire) × AreWiresOf R ws
  wires_there a =
      let all = kept a.items a.only in (
        all.wires,
        record {
          sound = all.sound;
          complete = λ from to h. all.each (record { from = from; to = to })
              (a.each (record { from = from; to = to }) h);
          apart = all.apart;
        },
      )

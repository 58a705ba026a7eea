-- A deterministic list is reversible exactly where its step is one to one; and a list turned round steps backward.
use Rattle.std.specs.Prelude.{◌≡◌, ◌↔◌, ℕ, zero, suc, ◌+◌, ◌-◌, ◌<◌, ◌≤◌, List, length, reverse, Some, slice_get}
use Rattle.std.specs.Option.{option_map}
use Rattle.std.proofs.lemmas.Option.{slice_get-map, slice_get-get_or, slice_get_within}
use Rattle.std.proofs.lemmas.List.{length-map, length-reverse, get_or-reverse}
use Rattle.std.proofs.Common.{refl, sym, ap, ◌∙◌, subst, arith, get_or}
use Rattle.bn_machine.specs.Tape.{Tape, scanned, write, blank_tape}
use Rattle.bn_machine.proofs.TapeLemmas.{scanned-write, write-back, shift-back, opposite-opposite}
use Rattle.bn_lists.specs.Lists.{nth}
use Rattle.bn_lists.proofs.ListLemmas.{nth_within, nth_once}
use Rattle.bn_quad.specs.Quadruples.{Deed, Rewrite, Move, Rule, Configuration, DeedApplies, done, AppliesTo, after}
use Rattle.bn_quad.specs.Quadruples.{Leads, LeadsBy, HasOneSuccessor, HasOnePredecessor, turned_deed, turned}
use Rattle.bn_quad.specs.Quadruples.{turned_list}
use Rattle.bn_quad.specs.Overlap.{MeetsInDomain, MeetsInRange, OverlapsInDomain, OverlapsInRange, IsClash}
use Rattle.bn_quad.specs.Overlap.{IsDeterministic, IsReversible}
use Rattle.bn_quad.proofs.ClashLemmas.{clash_once}
use Rattle.bn_quad.specs.declared.clash.Clash.TheVariants.{Domain, Range}

-- a deed turned round leads back
admits_back : (d : Deed) (t : Tape) → DeedApplies d t → DeedApplies (turned_deed d) (done d t)
admits_back (Rewrite r w) t h = scanned-write t w
admits_back (Move s) t h = tt

done_back : (d : Deed) (t : Tape) → DeedApplies d t → done (turned_deed d) (done d t) ≡ t
done_back (Rewrite r w) t h = write-back t w r h
done_back (Move s) t h = shift-back t s

turned_deed-turned_deed : (d : Deed) → turned_deed (turned_deed d) ≡ d
turned_deed-turned_deed (Rewrite r w) = refl
turned_deed-turned_deed (Move s) = ap Move (opposite-opposite s)

-- two deeds that one tape admits meet in domain
meets_in_domain : (d e : Deed) (t : Tape) → DeedApplies d t → DeedApplies e t → MeetsInDomain d e
meets_in_domain (Rewrite r w) (Rewrite r' w') t h k = sym h ∙ k
meets_in_domain (Rewrite r w) (Move s) t h k = tt
meets_in_domain (Move s) (Rewrite r w) t h k = tt
meets_in_domain (Move s) (Move s') t h k = tt

-- two deeds that come to one tape meet in range
meets_in_range : (d e : Deed) (t u : Tape) → done d t ≡ done e u → MeetsInRange d e
meets_in_range (Rewrite r w) (Rewrite r' w') t u e = sym (scanned-write t w) ∙ ap scanned e ∙ scanned-write u w'
meets_in_range (Rewrite r w) (Move s) t u e = tt
meets_in_range (Move s) (Rewrite r w) t u e = tt
meets_in_range (Move s) (Move s') t u e = tt

-- a tape to which two deeds that meet in range both come
meeting : (d e : Deed) → MeetsInRange d e → (t : Tape) × DeedApplies (turned_deed d) t × DeedApplies (turned_deed e) t
meeting (Rewrite r w) (Rewrite r' w') h = (
  write blank_tape w,
  scanned-write blank_tape w,
  scanned-write blank_tape w ∙ h,
)
meeting (Rewrite r w) (Move s) h = (write blank_tape w, scanned-write blank_tape w, tt)
meeting (Move s) (Rewrite r w) h = (write blank_tape w, tt, scanned-write blank_tape w)
meeting (Move s) (Move s') h = (blank_tape, tt, tt)

module _ {Q : Type 0} where
  pub same_configuration : (c d : Configuration Q) → c.state ≡ d.state → c.one ≡ d.one → c.two ≡ d.two
      → c.three ≡ d.three → c ≡ d
  same_configuration c d states one two three = λ i. record {
    state = states i;
    one = one i;
    two = two i;
    three = three i;
  }

  pub turned-turned : (r : Rule Q) → turned (turned r) ≡ r
  turned-turned r = λ i. record {
    from = r.from;
    one = turned_deed-turned_deed r.one i;
    two = turned_deed-turned_deed r.two i;
    three = turned_deed-turned_deed r.three i;
    to = r.to;
  }

  -- what a quadruple makes, the turned one makes undone
  pub turned_leads : (r : Rule Q) (c d : Configuration Q) → Leads r c d → Leads (turned r) d c
  turned_leads r c d l = subst (λ e. Leads (turned r) e c) (sym l.gives) (record {
    applies = record {
      from = refl;
      one = admits_back r.one c.one l.applies.one;
      two = admits_back r.two c.two l.applies.two;
      three = admits_back r.three c.three l.applies.three;
    };
    gives = sym (same_configuration (after (turned r) (after r c)) c (sym l.applies.from)
        (done_back r.one c.one l.applies.one) (done_back r.two c.two l.applies.two)
        (done_back r.three c.three l.applies.three));
  })

  pub turned_leads_back : (r : Rule Q) (c d : Configuration Q) → Leads (turned r) d c → Leads r c d
  turned_leads_back r c d l = subst (λ s. Leads s c d) (turned-turned r) (turned_leads (turned r) d c l)

  -- a quadruple has one successor, and one predecessor
  pub leads_once : (r : Rule Q) (c d e : Configuration Q) → Leads r c d → Leads r c e → d ≡ e
  leads_once r c d e l k = l.gives ∙ sym k.gives

  pub leads_from_one : (r : Rule Q) (c d e : Configuration Q) → Leads r c e → Leads r d e → c ≡ d
  leads_from_one r c d e l k = leads_once (turned r) e c d (turned_leads r c e l) (turned_leads r d e k)

  -- ---- two quadruples

  -- two that apply to one configuration overlap in domain
  both_apply : (r s : Rule Q) (c : Configuration Q) → AppliesTo r c → AppliesTo s c → OverlapsInDomain r s
  both_apply r s c h k = record {
    from = sym h.from ∙ k.from;
    tapes = (
      meets_in_domain r.one s.one c.one h.one k.one,
      (
        meets_in_domain r.two s.two c.two h.two k.two,
        (meets_in_domain r.three s.three c.three h.three k.three, tt),
      ),
    );
  }

  -- two that lead to one configuration overlap in range
  both_lead : (r s : Rule Q) (c d e : Configuration Q) → Leads r c e → Leads s d e → OverlapsInRange r s
  both_lead r s c d e l k =
      let same : after r c ≡ after s d = sym l.gives ∙ k.gives in
      record {
        to = ap (λ (x : Configuration Q). x.state) same;
        tapes = (
          meets_in_range r.one s.one c.one d.one (ap (λ (x : Configuration Q). x.one) same),
          (
            meets_in_range r.two s.two c.two d.two (ap (λ (x : Configuration Q). x.two) same),
            (meets_in_range r.three s.three c.three d.three (ap (λ (x : Configuration Q). x.three) same), tt),
          ),
        );
      }

  -- to two that overlap in range there is a configuration to which both lead
  both_from : (r s : Rule Q) → OverlapsInRange r s → (e : Configuration Q) × AppliesTo (turned r) e
      × AppliesTo (turned s) e
  both_from r s h =
      let one = meeting r.one s.one h.tapes.0 in
      let two = meeting r.two s.two h.tapes.1.0 in
      let three = meeting r.three s.three h.tapes.1.1.0 in (
        record { state = r.to; one = one.0; two = two.0; three = three.0 },
        record { from = refl; one = one.1; two = two.1; three = three.1 },
        record { from = h.to; one = one.2; two = two.2; three = three.2 },
      )

  -- ---- the list

  -- of quadruples that are apart in domain one at most applies
  pub one_applies : (rs : List (Rule Q)) (m n : ℕ) (r s : Rule Q) (c : Configuration Q) → IsDeterministic rs
      → nth rs m ≡ Some r → nth rs n ≡ Some s → AppliesTo r c → AppliesTo s c → m ≡ n
  one_applies rs m n r s c apart here there h k = clash_once Domain rs m n r s apart here there (both_apply r s c h k)

  -- of quadruples that are apart in range one at most leads to a configuration
  pub one_leads : (rs : List (Rule Q)) (m n : ℕ) (r s : Rule Q) (c d e : Configuration Q) → IsReversible rs
      → nth rs m ≡ Some r → nth rs n ≡ Some s → Leads r c e → Leads s d e → m ≡ n
  one_leads rs m n r s c d e apart here there h k = clash_once Range rs m n r s apart here there
      (both_lead r s c d e h k)

  pub one_successor : (rs : List (Rule Q)) → IsDeterministic rs → HasOneSuccessor rs
  one_successor rs apart = λ c d e f g.
      let l = f.leads in
      let k = g.leads in
      let same = one_applies rs f.number g.number l.rule k.rule c apart l.stands k.stands l.leads.applies
      k.leads.applies in
      let there : nth rs g.number ≡ Some l.rule = subst (λ i. nth rs i ≡ Some l.rule) same l.stands in
      let one : l.rule ≡ k.rule = nth_once rs g.number l.rule k.rule there k.stands in
      leads_once k.rule c d e (subst (λ r. Leads r c d) one l.leads) k.leads

  pub one_predecessor : (rs : List (Rule Q)) → IsReversible rs → HasOnePredecessor rs
  one_predecessor rs apart = λ c d e f g.
      let l = f.leads in
      let k = g.leads in
      let same = one_leads rs f.number g.number l.rule k.rule c d e apart l.stands k.stands l.leads k.leads in
      let there : nth rs g.number ≡ Some l.rule = subst (λ i. nth rs i ≡ Some l.rule) same l.stands in
      let one : l.rule ≡ k.rule = nth_once rs g.number l.rule k.rule there k.stands in
      leads_from_one k.rule c d e (subst (λ r. Leads r c e) one l.leads) k.leads

  -- two that overlap in range have two predecessors of one configuration, or overlap in domain
  reversible_if : (rs : List (Rule Q)) → IsDeterministic rs → HasOnePredecessor rs → IsReversible rs
  reversible_if rs apart only = record { none = λ i j k. refute i j k (both_from k.first k.second k.clashes) }
    where
      refute : (i j : ℕ) (k : IsClash Range rs i j) → (e : Configuration Q) × AppliesTo (turned k.first) e
          × AppliesTo (turned k.second) e → ⊥
      refute i j k (e, h, g) =
          let c = after (turned k.first) e in
          let d = after (turned k.second) e in
          let l : Leads k.first c e = turned_leads_back k.first c e (record { applies = h; gives = refl }) in
          let m : Leads k.second d e = turned_leads_back k.second d e (record { applies = g; gives = refl }) in
          let same : c ≡ d = only c d e (record {
            number = i;
            leads = record { rule = k.first; stands = k.first_stands; leads = l };
          })
          (record { number = j; leads = record { rule = k.second; stands = k.second_stands; leads = m } }) in
          let applies : AppliesTo k.second c = subst (AppliesTo k.second) (sym same) m.applies in
          apart.none i j (record {
            before = k.before;
            first = k.first;
            second = k.second;
            first_stands = k.first_stands;
            second_stands = k.second_stands;
            clashes = both_apply k.first k.second c l.applies applies;
          })

  -- Deterministic quadruples are reversible exactly where no two configurations have one successor.
  pub reversible_is_one_to_one : (rs : List (Rule Q)) → IsDeterministic rs → (IsReversible rs ↔ HasOnePredecessor rs)
  reversible_is_one_to_one rs apart = (one_predecessor rs, reversible_if rs apart)

  -- ---- turned round

  at_place : (rs : List (Rule Q)) (k : ℕ) (r : Rule Q) → slice_get rs k ≡ Some r → get_or rs k r ≡ r
  at_place rs k r e = let inside : k < length rs = slice_get_within rs k r e in some_once
      (sym (slice_get-get_or rs k r inside) ∙ e)
    where
      some_once : {X : Type 0} {x y : X} → Some x ≡ Some y → x ≡ y
      some_once e = cc

  turned_place : (rs : List (Rule Q)) (k j : ℕ) (r : Rule Q) → suc k + suc j ≡ length rs + 1 → slice_get rs k ≡ Some r
      → slice_get (turned_list rs) j ≡ Some (turned r)
  turned_place rs k j r sum e =
      let inside : k < length rs = slice_get_within rs k r e in
      let long : length (reverse rs) ≡ length rs = length-reverse rs in
      let mirrored : length rs - 1 - j ≡ k = omega arith in
      let low : j < length rs = omega arith in
      let low_reversed : j < length (reverse rs) = omega arith in
      let found : slice_get (reverse rs) j ≡ Some r = slice_get-get_or (reverse rs) j r low_reversed
      ∙ ap Some (get_or-reverse rs j r low ∙ ap (λ i. get_or rs i r) mirrored ∙ at_place rs k r e) in
      slice_get-map turned (reverse rs) j ∙ ap (option_map turned) found

  -- the quadruple that stands n-th from the front stands, turned round, n-th from the back
  pub nth-turned_list : (rs : List (Rule Q)) (n m : ℕ) (r : Rule Q) → n + m ≡ length rs + 1 → nth rs n ≡ Some r
      → nth (turned_list rs) m ≡ Some (turned r)
  nth-turned_list rs zero m r sum e = absurd (cc)
  nth-turned_list rs (suc k) zero r sum e = let inside : suc k ≤ length rs =
      nth_within rs (suc k) r e in absurd (omega arith)
  nth-turned_list rs (suc k) (suc j) r sum e = turned_place rs k j r sum e

  -- each step by a quadruple of the list is turned round by one of the list turned round
  pub turned_list_steps_back : (rs : List (Rule Q)) (n m : ℕ) (c d : Configuration Q) → n + m ≡ length rs + 1
      → LeadsBy rs n c d ↔ LeadsBy (turned_list rs) m d c
  turned_list_steps_back rs n m c d sum = (forth, back n m sum)
    where
      forth : LeadsBy rs n c d → LeadsBy (turned_list rs) m d c
      forth l = record {
        rule = turned l.rule;
        stands = nth-turned_list rs n m l.rule sum l.stands;
        leads = turned_leads l.rule c d l.leads;
      }

      length_of_turned : length (turned_list rs) ≡ length rs
      length_of_turned = length-map (reverse rs) turned ∙ length-reverse rs

      back : (n m : ℕ) → n + m ≡ length rs + 1 → LeadsBy (turned_list rs) m d c → LeadsBy rs n c d
      back zero m sum l = let high : m ≤ length (turned_list rs) =
          nth_within (turned_list rs) m l.rule l.stands in absurd (omega (arith, length_of_turned))
      back (suc k) zero sum l = let e = l.stands in absurd (cc)
      back (suc k) (suc j) sum l =
          let inside : k < length rs = omega arith in
          let here : nth rs (suc k) ≡ Some (get_or rs k l.rule) = slice_get-get_or rs k l.rule inside in
          let there : nth (turned_list rs) (suc j) ≡ Some (turned (get_or rs k l.rule)) =
          nth-turned_list rs (suc k) (suc j) (get_or rs k l.rule) sum here in
          let one : l.rule ≡ turned (get_or rs k l.rule) = nth_once (turned_list rs) (suc j) l.rule
          (turned (get_or rs k l.rule)) l.stands there in
          record {
            rule = get_or rs k l.rule;
            stands = here;
            leads = turned_leads_back (get_or rs k l.rule) c d (subst (λ r. Leads r d c) one l.leads);
          }

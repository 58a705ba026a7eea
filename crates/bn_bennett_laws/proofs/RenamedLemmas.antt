-- Rules with other states in place of theirs: a renaming that keeps the states of the rules apart keeps the tests, the
-- runs, and how they end.
use Rattle.std.specs.Prelude.{◌≡◌, ℕ, zero, suc, ◌<◌, List, [], ◌∷◌, length, Option, Some, None, slice_get}
use Rattle.std.specs.Option.{option_map}
use Rattle.std.proofs.Common.{refl, sym, ap, ◌∙◌, subst}
use Rattle.std.proofs.lemmas.Option.{slice_get-map, slice_get-get_or}
use Rattle.bn_lists.specs.Runs.{Reaches}
use Rattle.bn_lists.specs.Lists.{nth, IsIn}
use Rattle.bn_machine.specs.declared.quint.Side.{Side}
use Rattle.bn_quad.specs.Quadruples.{Rule, Configuration, AppliesTo, after, Leads, Follows, HasNoRule, Rooms}
use Rattle.bn_quad.specs.Quadruples.{AreAllowed}
use Rattle.bn_quad.specs.Overlap.{QuadruplesClash, HasNoClash, IsSilent}
use Rattle.bn_quad.specs.declared.clash.Clash.{Clash}
use Rattle.bn_quad.specs.declared.clash.Clash.TheVariants.{Domain, Range, Reads, Writes}
use Rattle.bn_bennett_laws.proofs.MembershipLemmas.{in_head, in_tail, in_map, from_map, in_flat_map}
use Rattle.bn_bennett_laws.specs.Names.{states_in, IsUniformFrom}
use Rattle.bn_bennett_laws.specs.Steps.{Steps, IsFirstOutside, HasNoFirstRead, Exit, EndsAt, finishes, stops, leaves}
use Rattle.bn_bennett_laws.specs.Renamed.{renamed, rename, in_state, KeepsApart, name_at}

-- both states of a rule are states of the rules
pub from_in : {P : Type 0} (rs : List (Rule P)) (r : Rule P) → IsIn rs r → IsIn (states_in rs) r.from
from_in rs r h = in_flat_map (λ s. s.from ∷ s.to ∷ []) rs r r.from h (in_head r.from (r.to ∷ []))

pub to_in : {P : Type 0} (rs : List (Rule P)) (r : Rule P) → IsIn rs r → IsIn (states_in rs) r.to
to_in rs r h = in_flat_map (λ s. s.from ∷ s.to ∷ []) rs r r.to h (in_tail r.from r.to (r.to ∷ []) (in_head r.to []))

module _ {P Q : Type 0} (f : P → Q) (rs : List (Rule P)) where
  -- ---- places

  pub nth_renamed : (n : ℕ) (r : Rule P) → nth rs n ≡ Some r → nth (rename f rs) n ≡ Some (renamed f r)
  nth_renamed zero r e = absurd (cc)
  nth_renamed (suc i) r e = slice_get-map (renamed f) rs i ∙ ap (option_map (renamed f)) e

  -- what stands among the renamed rules is a renamed one
  pub nth_before : (n : ℕ) (s : Rule Q) → nth (rename f rs) n ≡ Some s
      → (r : Rule P) × (nth rs n ≡ Some r) × (renamed f r ≡ s)
  nth_before zero s e = absurd (cc)
  nth_before (suc i) s e = by_option (nth rs (suc i)) refl (sym (slice_get-map (renamed f) rs i) ∙ e)
    where
      by_option : (o : Option (Rule P)) → nth rs (suc i) ≡ o → option_map (renamed f) o ≡ Some s
          → (r : Rule P) × (nth rs (suc i) ≡ Some r) × (renamed f r ≡ s)
      by_option None is h = absurd (cc)
      by_option (Some r) is h = (r, is, cc)

  -- ---- tests

  -- a clash of two rules is one of the renamed ones
  pub clash_renamed : (clash : Clash) (r s : Rule P) → QuadruplesClash clash r s
      → QuadruplesClash clash (renamed f r) (renamed f s)
  clash_renamed Domain r s h = record { from = ap f h.from; tapes = h.tapes }
  clash_renamed Range r s h = record { to = ap f h.to; tapes = h.tapes }
  clash_renamed Reads r s h = record { from = ap f h.from; apart = h.apart }
  clash_renamed Writes r s h = record { to = ap f h.to; apart = h.apart }

  pub clash_before : KeepsApart f rs → (clash : Clash) (r s : Rule P) → IsIn rs r → IsIn rs s
      → QuadruplesClash clash (renamed f r) (renamed f s) → QuadruplesClash clash r s
  clash_before keeps Domain r s a b h = record {
    from = keeps.apart r.from s.from (from_in rs r a) (from_in rs s b) h.from;
    tapes = h.tapes;
  }
  clash_before keeps Range r s a b h = record {
    to = keeps.apart r.to s.to (to_in rs r a) (to_in rs s b) h.to;
    tapes = h.tapes;
  }
  clash_before keeps Reads r s a b h = record {
    from = keeps.apart r.from s.from (from_in rs r a) (from_in rs s b) h.from;
    apart = h.apart;
  }
  clash_before keeps Writes r s a b h = record {
    to = keeps.apart r.to s.to (to_in rs r a) (to_in rs s b) h.to;
    apart = h.apart;
  }

  -- no two clash before exactly where no two clash after: this covers determinism and reversibility
  pub no_clash_renamed : KeepsApart f rs → (clash : Clash) → HasNoClash clash rs → HasNoClash clash (rename f rs)
  no_clash_renamed keeps clash h = record {
    none = λ i j k.
        let first = nth_before i k.first k.first_stands in
        let second = nth_before j k.second k.second_stands in
        let both : QuadruplesClash clash (renamed f first.0) (renamed f second.0) =
        subst (λ s. QuadruplesClash clash (renamed f first.0) s) (sym second.2)
        (subst (λ r. QuadruplesClash clash r k.second) (sym first.2) k.clashes) in
        h.none i j (record {
          before = k.before;
          first = first.0;
          second = second.0;
          first_stands = first.1;
          second_stands = second.1;
          clashes = clash_before keeps clash first.0 second.0 (record { place = i; stands = first.1 })
              (record { place = j; stands = second.1 }) both;
        });
  }

  pub no_clash_before : (clash : Clash) → HasNoClash clash (rename f rs) → HasNoClash clash rs
  no_clash_before clash h = record {
    none = λ i j k. h.none i j (record {
      before = k.before;
      first = renamed f k.first;
      second = renamed f k.second;
      first_stands = nth_renamed i k.first k.first_stands;
      second_stands = nth_renamed j k.second k.second_stands;
      clashes = clash_renamed clash k.first k.second k.clashes;
    });
  }

  pub uniform_renamed : KeepsApart f rs → (initial final : P) → IsIn (states_in rs) initial → IsIn (states_in rs) final
      → IsUniformFrom initial final rs → IsUniformFrom (f initial) (f final) (rename f rs)
  uniform_renamed keeps initial final a b h = record {
    reads = no_clash_renamed keeps Reads h.reads;
    writes = no_clash_renamed keeps Writes h.writes;
    active = λ s k silent.
        let found = from_map (renamed f) rs s k in
        let same : IsSilent (renamed f found.0) = subst (λ t. IsSilent t) (sym found.2) silent in
        h.active found.0 found.1 (record { one = same.one; two = same.two; three = same.three });
    not_entered = λ s k is.
        let found = from_map (renamed f) rs s k in
        h.not_entered found.0 found.1 (keeps.apart found.0.to initial (to_in rs found.0 found.1) a
        (ap (λ (t : Rule Q). t.to) found.2 ∙ is));
    not_left = λ s k is.
        let found = from_map (renamed f) rs s k in
        h.not_left found.0 found.1 (keeps.apart found.0.from final (from_in rs found.0 found.1) b
        (ap (λ (t : Rule Q). t.from) found.2 ∙ is));
  }

  pub uniform_before : (initial final : P) → IsUniformFrom (f initial) (f final) (rename f rs)
      → IsUniformFrom initial final rs
  uniform_before initial final h = record {
    reads = no_clash_before Reads h.reads;
    writes = no_clash_before Writes h.writes;
    active = λ r k silent. h.active (renamed f r) (in_map (renamed f) rs r k)
        (record { one = silent.one; two = silent.two; three = silent.three });
    not_entered = λ r k is. h.not_entered (renamed f r) (in_map (renamed f) rs r k) (ap f is);
    not_left = λ r k is. h.not_left (renamed f r) (in_map (renamed f) rs r k) (ap f is);
  }

  -- ---- steps

  pub follows_renamed : (c d : Configuration P) → Follows rs c d → Follows (rename f rs) (in_state f c) (in_state f d)
  follows_renamed c d h =
      let l = h.leads in
      let a = l.leads.applies in
      record {
        number = h.number;
        leads = record {
          rule = renamed f l.rule;
          stands = nth_renamed h.number l.rule l.stands;
          leads = record {
            applies = record { from = ap f a.from; one = a.one; two = a.two; three = a.three };
            gives = ap (in_state f) l.leads.gives;
          };
        };
      }

  applies_before : KeepsApart f rs → (c : Configuration P) (r : Rule P) → IsIn (states_in rs) c.state → IsIn rs r
      → AppliesTo (renamed f r) (in_state f c) → AppliesTo r c
  applies_before keeps c r here h a = record {
    from = keeps.apart c.state r.from here (from_in rs r h) a.from;
    one = a.one;
    two = a.two;
    three = a.three;
  }

  -- what follows after renaming is renamed
  pub follows_before : KeepsApart f rs → (c : Configuration P) (e : Configuration Q) → IsIn (states_in rs) c.state
      → Follows (rename f rs) (in_state f c) e → (d : Configuration P) × Follows rs c d × (e ≡ in_state f d)
      × IsIn (states_in rs) d.state
  follows_before keeps c e here h =
      let l = h.leads in
      let found = nth_before h.number l.rule l.stands in
      let r = found.0 in
      let stands : IsIn rs r = record { place = h.number; stands = found.1 } in
      let same : Leads (renamed f r) (in_state f c) e = subst (λ s. Leads s (in_state f c) e) (sym found.2) l.leads in (
        after r c,
        record {
          number = h.number;
          leads = record {
            rule = r;
            stands = found.1;
            leads = record { applies = applies_before keeps c r here stands same.applies; gives = refl };
          };
        },
        same.gives,
        to_in rs r stands,
      )

  -- a state that a rule leaves is a state of the rules, and so is the one that it leads to
  pub left_in : (c d : Configuration P) → Follows rs c d → IsIn (states_in rs) c.state
  left_in c d h = let l = h.leads in subst (IsIn (states_in rs)) (sym l.leads.applies.from)
      (from_in rs l.rule (record { place = h.number; stands = l.stands }))

  pub reached_in : (c d : Configuration P) → Follows rs c d → IsIn (states_in rs) d.state
  reached_in c d h = let l = h.leads in subst (IsIn (states_in rs))
      (sym (ap (λ (x : Configuration P). x.state) l.leads.gives))
      (to_in rs l.rule (record { place = h.number; stands = l.stands }))

  -- ---- runs

  module _ (keeps : KeepsApart f rs) (rooms : Rooms) (final : P) (listed : IsIn (states_in rs) final) where
    pub steps_renamed : (c d : Configuration P) → Steps rooms rs final c d
        → Steps rooms (rename f rs) (f final) (in_state f c) (in_state f d)
    steps_renamed c d h = record {
      going = λ is. h.going (keeps.apart c.state final (left_in c d h.follows) listed is);
      follows = follows_renamed c d h.follows;
      stays = record { one = h.stays.one; two = h.stays.two; three = h.stays.three };
    }

    pub steps_before : (c : Configuration P) (e : Configuration Q) → IsIn (states_in rs) c.state
        → Steps rooms (rename f rs) (f final) (in_state f c) e → (d : Configuration P) × Steps rooms rs final c d
        × (e ≡ in_state f d) × IsIn (states_in rs) d.state
    steps_before c e here h =
        let found = follows_before keeps c e here h.follows in
        let stays : AreAllowed rooms (in_state f found.0) = subst (λ x. AreAllowed rooms x) found.2 h.stays in (
          found.0,
          record {
            going = λ is. h.going (ap f is);
            follows = found.1;
            stays = record { one = stays.one; two = stays.two; three = stays.three };
          },
          found.2,
          found.3,
        )

    pub run_renamed : (n : ℕ) (c d : Configuration P) → Reaches (Steps rooms rs final) n c d
        → Reaches (Steps rooms (rename f rs) (f final)) n (in_state f c) (in_state f d)
    run_renamed zero c d run = ap (in_state f) run
    run_renamed (suc n) c d run = (in_state f run.0, steps_renamed c run.0 run.1, run_renamed n run.0 d run.2)

    pub run_before : (n : ℕ) (c : Configuration P) (e : Configuration Q) → IsIn (states_in rs) c.state
        → Reaches (Steps rooms (rename f rs) (f final)) n (in_state f c) e
        → (d : Configuration P) × Reaches (Steps rooms rs final) n c d × (e ≡ in_state f d)
        × IsIn (states_in rs) d.state
    run_before zero c e here run = (c, refl, sym run, here)
    run_before (suc n) c e here run =
        let first = steps_before c run.0 here run.1 in
        let rest = run_before n first.0 e first.3 (subst (λ x. Reaches (Steps rooms (rename f rs) (f final)) n x e)
        first.2 run.2) in
        (rest.0, (first.0, first.1, rest.1), rest.2, rest.3)

    -- ---- ends

    none_renamed : (c : Configuration P) → IsIn (states_in rs) c.state → HasNoRule rs c
        → HasNoRule (rename f rs) (in_state f c)
    none_renamed c here h = record {
      none = λ n s e a.
          let found = nth_before n s e in
          h.none n found.0 found.1 (applies_before keeps c found.0 here (record { place = n; stands = found.1 })
          (subst (λ t. AppliesTo t (in_state f c)) (sym found.2) a));
    }

    none_before : (c : Configuration P) → HasNoRule (rename f rs) (in_state f c) → HasNoRule rs c
    none_before c h = record {
      none = λ n r e a. h.none n (renamed f r) (nth_renamed n r e)
          (record { from = ap f a.from; one = a.one; two = a.two; three = a.three });
    }

    -- what no rule reads on tape 1 after renaming, none read before
    pub first_read_before : (c : Configuration P) → HasNoFirstRead (rename f rs) (in_state f c) → HasNoFirstRead rs c
    first_read_before c h = record {
      none = λ n r e from reads. h.none n (renamed f r) (nth_renamed n r e) (ap f from) reads;
    }

    outside_renamed : (d : Configuration P) (tape : ℕ) (side : Side) → IsFirstOutside rooms d tape side
        → IsFirstOutside rooms (in_state f d) tape side
    outside_renamed d zero side h = h
    outside_renamed d (suc zero) side h = h
    outside_renamed d (suc (suc zero)) side h = h
    outside_renamed d (suc (suc (suc zero))) side h = h
    outside_renamed d (suc (suc (suc (suc n)))) side h = h

    outside_before : (d : Configuration P) (tape : ℕ) (side : Side) → IsFirstOutside rooms (in_state f d) tape side
        → IsFirstOutside rooms d tape side
    outside_before d zero side h = h
    outside_before d (suc zero) side h = h
    outside_before d (suc (suc zero)) side h = h
    outside_before d (suc (suc (suc zero))) side h = h
    outside_before d (suc (suc (suc (suc n)))) side h = h

    pub ends_renamed : (c : Configuration P) (e : Exit) → IsIn (states_in rs) c.state → EndsAt rooms rs final c e
        → EndsAt rooms (rename f rs) (f final) (in_state f c) e
    ends_renamed c e here (finishes is why) = finishes (ap f is) why
    ends_renamed c e here (stops going none why) = stops (λ is. going (keeps.apart c.state final here listed is))
        (none_renamed c here none) why
    ends_renamed c e here (leaves tape side d going follows out why) =
        leaves tape side (in_state f d) (λ is. going (keeps.apart c.state final here listed is))
        (follows_renamed c d follows) (outside_renamed d tape side out) why

    pub ends_before : (c : Configuration P) (e : Exit) → IsIn (states_in rs) c.state
        → EndsAt rooms (rename f rs) (f final) (in_state f c) e → EndsAt rooms rs final c e
    ends_before c e here (finishes is why) = finishes (keeps.apart c.state final here listed is) why
    ends_before c e here (stops going none why) = stops (λ is. going (ap f is)) (none_before c none) why
    ends_before c e here (leaves tape side d going follows out why) =
        let found = follows_before keeps c d here follows in
        leaves tape side found.0 (λ is. going (ap f is)) found.1
        (outside_before found.0 tape side (subst (λ x. IsFirstOutside rooms x tape side) found.2 out)) why

-- in a list without repeats they are kept apart
pub names_kept_apart : {Q : Type 0} (other : Q) (order : List Q) (rs : List (Rule ℕ))
    → ((m n : ℕ) (q : Q) → slice_get order m ≡ Some q → slice_get order n ≡ Some q → m ≡ n)
    → ((k : ℕ) → IsIn (states_in rs) k → k < length order) → KeepsApart (name_at other order) rs
names_kept_apart other order rs once within = record {
  apart = λ a b h k same. once a b (name_at other order b) (slice_get-get_or order a other (within a h) ∙ ap Some same)
      (slice_get-get_or order b other (within b k));
}

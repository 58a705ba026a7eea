-- A machine runs as one with other numbers.
use Rattle.std.specs.Prelude.{◌≡◌, ◌≢◌, ℕ, ◌<◌, Bool, true, false, List, [], ◌∷◌, length, Some, cond, refl}
use Rattle.std.specs.Ordering.{int_eq}
use Rattle.std.proofs.Common.{zero, suc, arith, sym, ap, subst, ◌∙◌, inl, inr}
use Rattle.bn_lists.specs.Lists.{nth, IsIn}
use Rattle.bn_lists.specs.Runs.{Reaches}
use Rattle.bn_machine.specs.Tape.{Tape, cell, scanned, moved}
use Rattle.bn_machine.proofs.TapeLemmas.{cell-write}
use Rattle.bn_machine.specs.Window.{Allows}
use Rattle.bn_machine.specs.declared.quint.Side.{Side}
use Rattle.bn_quad.specs.Quadruples.{Deed, Rewrite, Move, Rule, Configuration, Quadruples, DeedApplies, done, AppliesTo}
use Rattle.bn_quad.specs.Quadruples.{Follows, after, HasNoRule, IsDeedInRange, IsRuleInRange, IsQuadMachine, Rooms}
use Rattle.bn_quad.specs.Quadruples.{AreAllowed, final_state_of}
use Rattle.bn_quad.specs.Overlap.{IsDeterministic}
use Rattle.bn_bennett_laws.specs.Steps.{Steps, IsOutside, IsFirstOutside, Exit, EndsAt, HasExit, finishes, stops}
use Rattle.bn_bennett_laws.specs.Steps.{leaves}
use Rattle.bn_bennett_laws.proofs.StageStepLemmas.{steps_once, ends_there, ends_once}
use Rattle.bn_erase_laws.proofs.MappedLemmas.{nth_mapped, mapped_before}
use Rattle.bn_erase_laws.proofs.InverseDecidedLemmas.{goes_or_ends}
use Rattle.bn_renumbering.specs.Renumbering.{Renumbering, IsRenumbering, KeepsSymbolsApart, IsConfigurationOf}
use Rattle.bn_renumbering.specs.Renumbering.{HasSymbolsBelow, IsRenumbered, IsRenumberedTape, renumbered_deed}
use Rattle.bn_renumbering.specs.Renumbering.{renumbered_rule}
use Rattle.bn_renumbering.specs.Laws.{RenumberingsRunAlike}
use Rattle.bn_renumbering.proofs.BackLemmas.{in_all}
use Rattle.bn_renumbering.proofs.UniformLemmas.{final_renumbered}

-- ---- a tape

module _ (g : ℕ → ℕ) (x y : Tape) (alike : IsRenumberedTape g x y) where
  scanned_alike : scanned y ≡ g (scanned x)
  scanned_alike = ap (λ q. cell y q) alike.head ∙ alike.cells x.head

  applies_after : (d : Deed) → DeedApplies d x → DeedApplies (renumbered_deed g d) y
  applies_after (Rewrite r w) h = scanned_alike ∙ ap g h
  applies_after (Move s) h = tt

  applies_before : (z : ℕ) → KeepsSymbolsApart g z → HasSymbolsBelow z x → (d : Deed) → IsDeedInRange z d
      → DeedApplies (renumbered_deed g d) y → DeedApplies d x
  applies_before z keeps low (Rewrite r w) range h =
      keeps.apart (scanned x) r (low x.head) range.0 (sym scanned_alike ∙ h)
  applies_before z keeps low (Move s) range h = tt

  chosen : (b : Bool) (w u v : ℕ) → v ≡ g u → cond b (g w) v ≡ g (cond b w u)
  chosen true w u v h = refl
  chosen false w u v h = h

  done_alike : (d : Deed) → IsRenumberedTape g (done d x) (done (renumbered_deed g d) y)
  done_alike (Rewrite r w) = record {
    head = alike.head;
    cells = λ q.
        cell-write y (g w) q
        ∙ ap (λ p. cond (int_eq q p) (g w) (cell y q)) alike.head
        ∙ chosen (int_eq q x.head) w (cell x q) (cell y q) (alike.cells q)
        ∙ ap g (sym (cell-write x w q));
  }
  done_alike (Move s) = record { head = ap (λ p. moved p s) alike.head; cells = alike.cells }

chosen_low : (b : Bool) (w u z : ℕ) → w < z → u < z → cond b w u < z
chosen_low true w u z h k = h
chosen_low false w u z h k = k

done_low : (z : ℕ) (d : Deed) (x : Tape) → IsDeedInRange z d → HasSymbolsBelow z x → HasSymbolsBelow z (done d x)
done_low z (Rewrite r w) x range low =
    λ q. subst (λ v. v < z) (sym (cell-write x w q)) (chosen_low (int_eq q x.head) w (cell x q) z range.1 (low q))
done_low z (Move s) x range low = low

-- ---- three numbers of symbols

pub three_of : (zs : List ℕ) → length zs ≡ 3 → (a : ℕ) × (b : ℕ) × (c : ℕ) × (zs ≡ a ∷ b ∷ c ∷ [])
three_of [] e = absurd (omega arith)
three_of (a ∷ []) e = absurd (omega arith)
three_of (a ∷ b ∷ []) e = absurd (omega arith)
three_of (a ∷ b ∷ c ∷ []) e = (a, b, c, refl)
three_of (a ∷ b ∷ c ∷ d ∷ zs) e = absurd (omega arith)

module _ (k : Renumbering) (p m : Quadruples) (machine : IsQuadMachine p) (is : IsRenumbering k p m)
    (apart : IsDeterministic m.rules) (rooms : Rooms) where
  abbrev end : ℕ
  end = final_state_of p.rules

  abbrev other : ℕ
  other = final_state_of m.rules

  counts : (a : ℕ) × (b : ℕ) × (c : ℕ) × (p.symbols ≡ a ∷ b ∷ c ∷ [])
  counts = three_of p.symbols machine.tapes

  on_one : nth p.symbols 1 ≡ Some counts.0
  on_one = ap (λ (zs : List ℕ). nth zs 1) counts.3

  on_two : nth p.symbols 2 ≡ Some counts.1
  on_two = ap (λ (zs : List ℕ). nth zs 2) counts.3

  on_three : nth p.symbols 3 ≡ Some counts.2
  on_three = ap (λ (zs : List ℕ). nth zs 3) counts.3

  range_of : (n : ℕ) (r : Rule ℕ) → nth p.rules n ≡ Some r
      → IsRuleInRange p.states (counts.0 ∷ counts.1 ∷ counts.2 ∷ []) r
  range_of n r at = subst (λ zs. IsRuleInRange p.states zs r) counts.3
      (in_all (IsRuleInRange p.states p.symbols) p.rules r machine.in_range (record { place = n; stands = at }))

  final_alike : other ≡ k.states end
  final_alike = ap final_state_of (sym is.rules) ∙ final_renumbered k p.rules machine.some

  final_low : end < p.states
  final_low = last_low p.rules machine.some (λ r h. (range_of h.place r h.stands).to)
    where
      last_low : (rs : List (Rule ℕ)) → 0 < length rs → ((r : Rule ℕ) → IsIn rs r → r.to < p.states)
          → final_state_of rs < p.states
      last_low [] some each = absurd (omega arith)
      last_low (r ∷ []) some each = each r (record { place = 1; stands = refl })
      last_low (r ∷ s ∷ rs) some each = last_low (s ∷ rs) (omega arith) (λ x h. each x (further x h.place h.stands))
        where
          further : (x : Rule ℕ) (n : ℕ) → nth (s ∷ rs) n ≡ Some x → IsIn (r ∷ s ∷ rs) x
          further x zero at = absurd (cc)
          further x (suc n) at = record { place = suc (suc n); stands = at }

  -- ---- a configuration

  module _ (c x : Configuration ℕ) (within : IsConfigurationOf p c) (alike : IsRenumbered k c x) where
    not_final : c.state ≢ end → x.state ≢ other
    not_final going same = going (is.states c.state end within.state final_low (sym alike.state ∙ same ∙ final_alike))

    is_final : c.state ≡ end → x.state ≡ other
    is_final same = alike.state ∙ ap k.states same ∙ sym final_alike

    rule_after : (r : Rule ℕ) → AppliesTo r c → AppliesTo (renumbered_rule k r) x
    rule_after r h = record {
      from = alike.state ∙ ap k.states h.from;
      one = applies_after k.one c.one x.one alike.one r.one h.one;
      two = applies_after k.two c.two x.two alike.two r.two h.two;
      three = applies_after k.three c.three x.three alike.three r.three h.three;
    }

    rule_before : (n : ℕ) (r : Rule ℕ) → nth p.rules n ≡ Some r → AppliesTo (renumbered_rule k r) x → AppliesTo r c
    rule_before n r at h =
        let range = range_of n r at in
        record {
          from = is.states c.state r.from within.state range.from (sym alike.state ∙ h.from);
          one = applies_before k.one c.one x.one alike.one counts.0 (is.one counts.0 on_one)
              (within.one counts.0 on_one) r.one range.deeds.0 h.one;
          two = applies_before k.two c.two x.two alike.two counts.1 (is.two counts.1 on_two)
              (within.two counts.1 on_two) r.two range.deeds.1.0 h.two;
          three = applies_before k.three c.three x.three alike.three counts.2 (is.three counts.2 on_three)
              (within.three counts.2 on_three) r.three range.deeds.1.1.0 h.three;
        }

    after_alike : (r : Rule ℕ) → IsRenumbered k (after r c) (after (renumbered_rule k r) x)
    after_alike r = record {
      state = refl;
      one = done_alike k.one c.one x.one alike.one r.one;
      two = done_alike k.two c.two x.two alike.two r.two;
      three = done_alike k.three c.three x.three alike.three r.three;
    }

    after_within : (n : ℕ) (r : Rule ℕ) → nth p.rules n ≡ Some r → IsConfigurationOf p (after r c)
    after_within n r at =
        let range = range_of n r at in
        record {
          state = range.to;
          one = λ z known. subst (λ v. HasSymbolsBelow v (done r.one c.one)) (same_count counts.0 z 1 on_one known)
              (done_low counts.0 r.one c.one range.deeds.0 (within.one counts.0 on_one));
          two = λ z known. subst (λ v. HasSymbolsBelow v (done r.two c.two)) (same_count counts.1 z 2 on_two known)
              (done_low counts.1 r.two c.two range.deeds.1.0 (within.two counts.1 on_two));
          three = λ z known. subst (λ v. HasSymbolsBelow v (done r.three c.three))
              (same_count counts.2 z 3 on_three known)
              (done_low counts.2 r.three c.three range.deeds.1.1.0 (within.three counts.2 on_three));
        }
      where
        same_count : (a z n : ℕ) → nth p.symbols n ≡ Some a → nth p.symbols n ≡ Some z → a ≡ z
        same_count a z n known at = let both : Some a ≡ Some z = sym known ∙ at in cc

    -- what follows c has its like
    record Like (d : Configuration ℕ) : Type 0 where
      like : Configuration ℕ
      follows : Follows m.rules x like
      alike_after : IsRenumbered k d like
      within_after : IsConfigurationOf p d

    liked : (d : Configuration ℕ) → Follows p.rules c d → Like d
    liked d h =
        let r = h.leads.rule in
        let at : nth m.rules h.number ≡ Some (renumbered_rule k r) =
        ap (λ (rs : List (Rule ℕ)). nth rs h.number) (sym is.rules)
        ∙ nth_mapped (renumbered_rule k) p.rules h.number r h.leads.stands in
        record {
          like = after (renumbered_rule k r) x;
          follows = record {
            number = h.number;
            leads = record {
              rule = renumbered_rule k r;
              stands = at;
              leads = record { applies = rule_after r h.leads.leads.applies; gives = refl };
            };
          };
          alike_after = subst (λ v. IsRenumbered k v (after (renumbered_rule k r) x)) (sym h.leads.leads.gives)
              (after_alike r);
          within_after = subst (λ v. IsConfigurationOf p v) (sym h.leads.leads.gives)
              (after_within h.number r h.leads.stands);
        }

    none_after : HasNoRule p.rules c → HasNoRule m.rules x
    none_after none = record { none = λ n s at h. no n s at h }
      where
        no : (n : ℕ) (s : Rule ℕ) → nth m.rules n ≡ Some s → AppliesTo s x → ⊥
        no n s at h =
            let before = mapped_before (renumbered_rule k) p.rules n s (ap (λ (rs : List (Rule ℕ)). nth rs n) is.rules
            ∙ at) in
            none.none n before.0 before.1
            (rule_before n before.0 before.1 (subst (λ v. AppliesTo v x) (sym before.2) h))

  allowed_alike : (d y : Configuration ℕ) → IsRenumbered k d y → AreAllowed rooms d → AreAllowed rooms y
  allowed_alike d y alike h = record {
    one = subst (λ q. Allows rooms.one q) (sym alike.one.head) h.one;
    two = subst (λ q. Allows rooms.two q) (sym alike.two.head) h.two;
    three = subst (λ q. Allows rooms.three q) (sym alike.three.head) h.three;
  }

  outside_alike : (d y : Configuration ℕ) → IsRenumbered k d y → (n : ℕ) (s : Side) → IsFirstOutside rooms d n s
      → IsFirstOutside rooms y n s
  outside_alike d y alike zero s h = h
  outside_alike d y alike (suc zero) s h = subst (λ q. IsOutside rooms.one s q) (sym alike.one.head) h
  outside_alike d y alike (suc (suc zero)) s h = (
    subst (λ q. Allows rooms.one q) (sym alike.one.head) h.0,
    subst (λ q. IsOutside rooms.two s q) (sym alike.two.head) h.1,
  )
  outside_alike d y alike (suc (suc (suc zero))) s h = (
    subst (λ q. Allows rooms.one q) (sym alike.one.head) h.0,
    subst (λ q. Allows rooms.two q) (sym alike.two.head) h.1,
    subst (λ q. IsOutside rooms.three s q) (sym alike.three.head) h.2,
  )
  outside_alike d y alike (suc (suc (suc (suc n)))) s h = h

  -- ---- steps and ends

  step_after : (c x d : Configuration ℕ) → IsConfigurationOf p c → IsRenumbered k c x → Steps rooms p.rules end c d
      → (y : Configuration ℕ) × Steps rooms m.rules other x y × IsRenumbered k d y × IsConfigurationOf p d
  step_after c x d within alike step =
      let like = liked c x within alike d step.follows in (
        like.like,
        record {
          going = not_final c x within alike step.going;
          follows = like.follows;
          stays = allowed_alike d like.like like.alike_after step.stays;
        },
        like.alike_after,
        like.within_after,
      )

  ends_after : (c x : Configuration ℕ) (e : Exit) → IsConfigurationOf p c → IsRenumbered k c x
      → EndsAt rooms p.rules end c e → EndsAt rooms m.rules other x e
  ends_after c x e within alike (finishes same why) = finishes (is_final c x within alike same) why
  ends_after c x e within alike (stops going none why) =
      stops (not_final c x within alike going) (none_after c x within alike none) why
  ends_after c x e within alike (leaves tape side d going follows out why) =
      let like = liked c x within alike d follows in
      leaves tape side like.like (not_final c x within alike going) like.follows
      (outside_alike d like.like like.alike_after tape side out) why

  forth : (n : ℕ) (c x d : Configuration ℕ) (e : Exit) → IsConfigurationOf p c → IsRenumbered k c x
      → Reaches (Steps rooms p.rules end) n c d → EndsAt rooms p.rules end d e
      → (y : Configuration ℕ) × HasExit rooms m.rules other n x y e × IsRenumbered k d y
  forth zero c x d e within alike run ends = (
    x,
    record {
      run = refl;
      ends = ends_after c x e within alike (subst (λ v. EndsAt rooms p.rules end v e) (sym run) ends);
    },
    subst (λ v. IsRenumbered k v x) run alike,
  )
  forth (suc n) c x d e within alike run ends =
      let step = step_after c x run.0 within alike run.1 in
      let rest = forth n run.0 step.0 d e step.3 step.2 run.2 ends in
      (rest.0, record { run = (step.0, step.1, rest.1.run); ends = rest.1.ends }, rest.2)

  back : (n : ℕ) (c x y : Configuration ℕ) (e : Exit) → IsConfigurationOf p c → IsRenumbered k c x
      → Reaches (Steps rooms m.rules other) n x y → EndsAt rooms m.rules other y e
      → (d : Configuration ℕ) × HasExit rooms p.rules end n c d e × IsRenumbered k d y
  back zero c x y e within alike run ends =
      let here : EndsAt rooms m.rules other x e = subst (λ v. EndsAt rooms m.rules other v e) (sym run) ends in
      elim (goes_or_ends rooms p.rules end c) [
        | inl step ↦ (let more = step_after c x step.0 within alike step.1 in
            absurd (ends_there rooms m.rules other apart x more.0 e here more.1))
        | inr own ↦
            (let same = ends_once rooms m.rules other apart x own.0 e
            (ends_after c x own.0 within alike own.1) here in (
              c,
              record { run = refl; ends = subst (λ v. EndsAt rooms p.rules end c v) same own.1 },
              subst (λ v. IsRenumbered k c v) run alike,
            ))
      ]
  back (suc n) c x y e within alike run ends =
      elim (goes_or_ends rooms p.rules end c) [
        | inl step ↦
            (let more = step_after c x step.0 within alike step.1 in
            let same = steps_once rooms m.rules other apart x more.0 run.0 more.1 run.1 in
            let rest = back n step.0 run.0 y e more.3 (subst (λ v. IsRenumbered k step.0 v) same more.2) run.2 ends in
            (rest.0, record { run = (step.0, step.1, rest.1.run); ends = rest.1.ends }, rest.2))
        | inr own ↦ absurd (ends_there rooms m.rules other apart x run.0 own.0 (ends_after c x own.0 within alike own.1)
            run.1)
      ]

pub renumberings-run : RenumberingsRunAlike
renumberings-run k p m machine is apart rooms n c x e within alike = (
  λ d h. forth k p m machine is apart rooms n c x d e within alike h.run h.ends,
  λ y h. back k p m machine is apart rooms n c x y e within alike h.run h.ends,
)

-- Two lists joined in one state: the tests and the runs of both as one.
use Rattle.std.specs.Prelude.{◌≡◌, ◌≢◌, ℕ, zero, suc, ◌+◌, List, ◌++◌}
use Rattle.std.proofs.Common.{refl, sym, ap, ◌∙◌, arith, inl, inr}
use Rattle.bn_lists.specs.Runs.{Reaches}
use Rattle.bn_lists.proofs.RunsLemmas.{runs_join}
use Rattle.bn_quad.specs.Quadruples.{Rule, Configuration, Leads, Follows, Rooms}
use Rattle.bn_quad.specs.Overlap.{QuadruplesClash, HasNoClash}
use Rattle.bn_quad.specs.declared.clash.Clash.{Clash}
use Rattle.bn_quad.specs.declared.clash.Clash.TheVariants.{Domain, Range, Reads, Writes}
use Rattle.bn_lists.specs.Lists.{IsIn}
use Rattle.bn_bennett_laws.proofs.MembershipLemmas.{in_left, in_right, in_append}
use Rattle.bn_bennett_laws.specs.Names.{IsUniformFrom}
use Rattle.bn_bennett_laws.specs.Steps.{Steps}
use Rattle.bn_bennett_laws.proofs.Apart.{apart_append}
use Rattle.bn_erase_laws.specs.Lists.{JoinsAt}
use Rattle.bn_erase_laws.proofs.MappedLemmas.{AreFree, free_of, no_clash_of}
use Rattle.bn_erase_laws.specs.ListLaws.{HasHalves, JoinedListsPassTests, JoinedListsRun, JoinedListsHaveRun}

module _ {Q : Type 0} where
  -- ---- steps by a quadruple that stands in a list

  -- a quadruple of the list leads from c to d
  pub record LeadsIn (rs : List (Rule Q)) (c d : Configuration Q) : Type 0 where
    pub rule : Rule Q
    pub stands : IsIn rs rule
    pub leads : Leads rule c d

  pub leads_in : (rs : List (Rule Q)) (c d : Configuration Q) → Follows rs c d → LeadsIn rs c d
  leads_in rs c d h = record {
    rule = h.leads.rule;
    stands = record { place = h.number; stands = h.leads.stands };
    leads = h.leads.leads;
  }

  pub follows_in : (rs : List (Rule Q)) (c d : Configuration Q) → LeadsIn rs c d → Follows rs c d
  follows_in rs c d h = record {
    number = h.stands.place;
    leads = record { rule = h.rule; stands = h.stands.stands; leads = h.leads };
  }

  to_state : (r : Rule Q) (c d : Configuration Q) → Leads r c d → d.state ≡ r.to
  to_state r c d l = ap (λ (x : Configuration Q). x.state) l.gives

  module _ (middle initial final : Q) (rs ss : List (Rule Q)) (joins : JoinsAt middle initial final rs ss) where
    -- ---- tests

    -- no quadruple of the first clashes with one of the second
    free_across : (clash : Clash) (r s : Rule Q) → IsIn rs r → IsIn ss s → QuadruplesClash clash r s → ⊥
    free_across Domain r s h k both = joins.leave_apart r s h k both.from
    free_across Range r s h k both = joins.enter_apart r s h k both.to
    free_across Reads r s h k both = joins.leave_apart r s h k both.from
    free_across Writes r s h k both = joins.enter_apart r s h k both.to

    pub joined_free : (clash : Clash) → HasNoClash clash rs → HasNoClash clash ss → HasNoClash clash (rs ++ ss)
    joined_free clash a b = no_clash_of clash (rs ++ ss) (apart_append (AreFree clash) rs ss (free_of clash rs a)
        (free_of clash ss b) (λ r s h k. record { free = free_across clash r s h k }))

    pub joined_uniform : IsUniformFrom initial middle rs → IsUniformFrom middle final ss
        → IsUniformFrom initial final (rs ++ ss)
    joined_uniform a b = record {
      reads = joined_free Reads a.reads b.reads;
      writes = joined_free Writes a.writes b.writes;
      active = λ r h. elim (in_append rs ss r h) [ inl left ↦ a.active r left | inr right ↦ b.active r right ];
      not_entered = λ r h. elim (in_append rs ss r h) [
        | inl left ↦ a.not_entered r left
        | inr right ↦ joins.after_initial r right
      ];
      not_left = λ r h. elim (in_append rs ss r h) [
        | inl left ↦ (joins.before_final r left).0
        | inr right ↦ b.not_left r right
      ];
    }

    -- ---- runs

    module _ (rooms : Rooms) where
      first_step : (c d : Configuration Q) → Steps rooms rs middle c d → Steps rooms (rs ++ ss) final c d
      first_step c d h =
          let l = leads_in rs c d h.follows in
          record {
            going = λ is. (joins.before_final l.rule l.stands).0 (sym l.leads.applies.from ∙ is);
            follows = follows_in (rs ++ ss) c d (record {
              rule = l.rule;
              stands = in_left rs ss l.rule l.stands;
              leads = l.leads;
            });
            stays = h.stays;
          }

      second_step : (c d : Configuration Q) → Steps rooms ss final c d → Steps rooms (rs ++ ss) final c d
      second_step c d h =
          let l = leads_in ss c d h.follows in
          record {
            going = h.going;
            follows = follows_in (rs ++ ss) c d (record {
              rule = l.rule;
              stands = in_right rs ss l.rule l.stands;
              leads = l.leads;
            });
            stays = h.stays;
          }

      first_run : (n : ℕ) (c d : Configuration Q) → Reaches (Steps rooms rs middle) n c d
          → Reaches (Steps rooms (rs ++ ss) final) n c d
      first_run zero c d run = run
      first_run (suc n) c d run = (run.0, first_step c run.0 run.1, first_run n run.0 d run.2)

      second_run : (n : ℕ) (c d : Configuration Q) → Reaches (Steps rooms ss final) n c d
          → Reaches (Steps rooms (rs ++ ss) final) n c d
      second_run zero c d run = run
      second_run (suc n) c d run = (run.0, second_step c run.0 run.1, second_run n run.0 d run.2)

      pub joined_run : (p m n : ℕ) (c d e : Configuration Q) → p ≡ m + n → Reaches (Steps rooms rs middle) m c d
          → Reaches (Steps rooms ss final) n d e → Reaches (Steps rooms (rs ++ ss) final) p c e
      joined_run p m n c d e sum first second = runs_join (Steps rooms (rs ++ ss) final) p m n c d e sum
          (first_run m c d first) (second_run n d e second)

      -- ---- a run of both, parted

      -- in the second list's part, where no quadruple of the first leaves the state
      past_run : (n : ℕ) (c d : Configuration Q) → ((r : Rule Q) → IsIn rs r → c.state ≡ r.from → ⊥)
          → Reaches (Steps rooms (rs ++ ss) final) n c d → Reaches (Steps rooms ss final) n c d
      past_run zero c d past run = run
      past_run (suc n) c d past run =
          let l = leads_in (rs ++ ss) c run.0 run.1.follows in
          elim (in_append rs ss l.rule l.stands) [
            | inl left ↦ absurd (past l.rule left l.leads.applies.from)
            | inr right ↦ (
              run.0,
              record {
                going = run.1.going;
                follows = follows_in ss c run.0 (record { rule = l.rule; stands = right; leads = l.leads });
                stays = run.1.stays;
              },
              past_run n run.0 d (λ r h is. joins.not_back r l.rule h right
                  (sym (to_state l.rule c run.0 l.leads) ∙ is)) run.2,
            )
          ]

      -- in the first list's part a quadruple of the second leaves the state only if it is the middle, and it isn't the
      -- final one
      pub record IsBefore (c : Configuration Q) : Type 0 where
        pub through : (s : Rule Q) → IsIn ss s → c.state ≡ s.from → c.state ≡ middle
        pub going : c.state ≢ final

      abbrev Halves : ℕ → Configuration Q → Configuration Q → Type 0
      Halves n c e = (i j : ℕ) × (d : Configuration Q) × (n ≡ i + j) × (d.state ≡ middle)
          × Reaches (Steps rooms rs middle) i c d × Reaches (Steps rooms ss final) j d e

      pub parted_run : (n : ℕ) (c e : Configuration Q) → IsBefore c → Reaches (Steps rooms (rs ++ ss) final) n c e
          → e.state ≡ final → Halves n c e
      parted_run zero c e before run is = absurd (before.going (ap (λ (x : Configuration Q). x.state) run ∙ is))
      parted_run (suc n) c e before run is =
          let l = leads_in (rs ++ ss) c run.0 run.1.follows in
          let to = to_state l.rule c run.0 l.leads in
          elim (in_append rs ss l.rule l.stands) [
            | inl left ↦
                let next : IsBefore run.0 = record {
                  through = λ s h leaves. to ∙ joins.through l.rule s left h (sym to ∙ leaves);
                  going = λ final_there. (joins.before_final l.rule left).1 (sym to ∙ final_there);
                } in
                let rest = parted_run n run.0 e next run.2 is in
                let step : Steps rooms rs middle c run.0 = record {
                  going = λ there. joins.not_left l.rule left (sym l.leads.applies.from ∙ there);
                  follows = follows_in rs c run.0 (record { rule = l.rule; stands = left; leads = l.leads });
                  stays = run.1.stays;
                } in
                let parts : n ≡ rest.0 + rest.1 = rest.3 in
                (suc rest.0, rest.1, rest.2, omega arith, rest.4, (run.0, step, rest.5), rest.6)
            | inr right ↦
                let there = before.through l.rule right l.leads.applies.from in (
                  0,
                  suc n,
                  c,
                  omega arith,
                  there,
                  refl,
                  past_run (suc n) c e (λ r h from. joins.not_left r h (sym from ∙ there)) run,
                )
          ]

-- a run of both, from a state that the first leaves, has two halves
pub joined_halves : {Q : Type 0} (middle initial final : Q) (rs ss : List (Rule Q)) → JoinsAt middle initial final rs ss
    → (r : Rule Q) → IsIn rs r → r.from ≡ initial
    → (rooms : Rooms) (n : ℕ) (c e : Configuration Q) → c.state ≡ initial → Reaches (Steps rooms (rs ++ ss) final) n c e
    → e.state ≡ final → HasHalves middle final rs ss rooms n c e
joined_halves middle initial final rs ss joins r stands from rooms n c e start run is =
    let h = parted_run middle initial final rs ss joins rooms n c e (record {
      through = λ s h leaves. absurd (joins.leave_apart r s stands h (from ∙ sym start ∙ leaves));
      going = λ there. (joins.before_final r stands).0 (from ∙ sym start ∙ there);
    }) run is in
    record { i = h.0; j = h.1; meeting = h.2; sum = h.3; meets = h.4; first = h.5; second = h.6 }

-- ---- the laws

pub joined_lists_pass_tests : JoinedListsPassTests
joined_lists_pass_tests middle initial final rs ss joins = (
  joined_free middle initial final rs ss joins Domain,
  joined_free middle initial final rs ss joins Range,
  joined_uniform middle initial final rs ss joins,
)

pub joined_lists_run : JoinedListsRun
joined_lists_run middle initial final rs ss joins rooms m n c d e first second =
    joined_run middle initial final rs ss joins rooms (m + n) m n c d e refl first second

pub joined_lists_have_run : JoinedListsHaveRun
joined_lists_have_run middle initial final rs ss joins r stands from rooms n c e start run is =
    joined_halves middle initial final rs ss joins r stands from rooms n c e start run is

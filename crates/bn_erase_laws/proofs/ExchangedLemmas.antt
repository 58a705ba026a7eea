-- Lists with tapes 1 and 3 exchanged: the same tests and the same runs.
use Rattle.std.specs.Prelude.{◌≡◌, ℕ, zero, suc, List, [], ◌∷◌}
use Rattle.std.proofs.Common.{refl, sym, ap, ◌∙◌, subst}
use Rattle.bn_lists.specs.Runs.{Reaches}
use Rattle.bn_quad.specs.Quadruples.{Rule, Configuration, Follows, Rooms}
use Rattle.bn_quad.specs.Overlap.{IsSilent, QuadruplesClash, HasNoClash}
use Rattle.bn_quad.specs.declared.clash.Clash.{Clash}
use Rattle.bn_quad.specs.declared.clash.Clash.TheVariants.{Domain, Range, Reads, Writes}
use Rattle.bn_bennett_laws.proofs.MembershipLemmas.{from_map}
use Rattle.bn_bennett_laws.specs.Names.{IsUniformFrom}
use Rattle.bn_bennett_laws.specs.Steps.{Steps}
use Rattle.bn_erase_laws.specs.Lists.{exchanged_rule, exchanged_list, exchanged_tapes, exchanged_rooms}
use Rattle.bn_erase_laws.proofs.MappedLemmas.{nth_mapped, free_of, no_clash_of, free_mapped}
use Rattle.bn_erase_laws.specs.ListLaws.{ExchangedListsPassTests, ExchangedListsRun}

module _ {Q : Type 0} where
  -- exchanged twice it is the list
  pub exchanged_list-exchanged_list : (rs : List (Rule Q)) → exchanged_list (exchanged_list rs) ≡ rs
  exchanged_list-exchanged_list [] = refl
  exchanged_list-exchanged_list (r ∷ rs) = λ i. r ∷ exchanged_list-exchanged_list rs i

  -- ---- tests

  clash_before : (clash : Clash) (r s : Rule Q) → QuadruplesClash clash (exchanged_rule r) (exchanged_rule s)
      → QuadruplesClash clash r s
  clash_before Domain r s h = record { from = h.from; tapes = (h.tapes.1.1.0, (h.tapes.1.0, (h.tapes.0, tt))) }
  clash_before Range r s h = record { to = h.to; tapes = (h.tapes.1.1.0, (h.tapes.1.0, (h.tapes.0, tt))) }
  clash_before Reads r s h = record { from = h.from; apart = λ k. h.apart (k.1.1.0, (k.1.0, (k.0, tt))) }
  clash_before Writes r s h = record { to = h.to; apart = λ k. h.apart (k.1.1.0, (k.1.0, (k.0, tt))) }

  pub exchanged_free : (clash : Clash) (rs : List (Rule Q)) → HasNoClash clash rs → HasNoClash clash (exchanged_list rs)
  exchanged_free clash rs h = no_clash_of clash (exchanged_list rs)
      (free_mapped exchanged_rule clash clash rs (clash_before clash) (free_of clash rs h))

  exchanged_free_back : (clash : Clash) (rs : List (Rule Q)) → HasNoClash clash (exchanged_list rs)
      → HasNoClash clash rs
  exchanged_free_back clash rs h = subst (HasNoClash clash) (exchanged_list-exchanged_list rs)
      (exchanged_free clash (exchanged_list rs) h)

  pub exchanged_uniform : (rs : List (Rule Q)) (initial final : Q) → IsUniformFrom initial final rs
      → IsUniformFrom initial final (exchanged_list rs)
  exchanged_uniform rs initial final h = record {
    reads = exchanged_free Reads rs h.reads;
    writes = exchanged_free Writes rs h.writes;
    active = λ s k silent.
        let found = from_map exchanged_rule rs s k in
        let same : IsSilent (exchanged_rule found.0) = subst (λ t. IsSilent t) (sym found.2) silent in
        h.active found.0 found.1 (record { one = same.three; two = same.two; three = same.one });
    not_entered = λ s k is. let found = from_map exchanged_rule rs s k in h.not_entered found.0 found.1
        (ap (λ (t : Rule Q). t.to) found.2 ∙ is);
    not_left = λ s k is. let found = from_map exchanged_rule rs s k in h.not_left found.0 found.1
        (ap (λ (t : Rule Q). t.from) found.2 ∙ is);
  }

  exchanged_uniform_back : (rs : List (Rule Q)) (initial final : Q) → IsUniformFrom initial final (exchanged_list rs)
      → IsUniformFrom initial final rs
  exchanged_uniform_back rs initial final h = subst (IsUniformFrom initial final) (exchanged_list-exchanged_list rs)
      (exchanged_uniform (exchanged_list rs) initial final h)

  -- ---- runs

  pub follows_exchanged : (rs : List (Rule Q)) (c d : Configuration Q) → Follows rs c d
      → Follows (exchanged_list rs) (exchanged_tapes c) (exchanged_tapes d)
  follows_exchanged rs c d h =
      let l = h.leads in
      let a = l.leads.applies in
      record {
        number = h.number;
        leads = record {
          rule = exchanged_rule l.rule;
          stands = nth_mapped exchanged_rule rs h.number l.rule l.stands;
          leads = record {
            applies = record { from = a.from; one = a.three; two = a.two; three = a.one };
            gives = ap exchanged_tapes l.leads.gives;
          };
        };
      }

  pub run_exchanged : (rs : List (Rule Q)) (final : Q) (rooms : Rooms) (n : ℕ) (c d : Configuration Q)
      → Reaches (Steps rooms rs final) n c d → Reaches (Steps (exchanged_rooms rooms) (exchanged_list rs) final) n
      (exchanged_tapes c) (exchanged_tapes d)
  run_exchanged rs final rooms zero c d run = ap exchanged_tapes run
  run_exchanged rs final rooms (suc n) c d run =
      let h = run.1 in
      let step : Steps (exchanged_rooms rooms) (exchanged_list rs) final (exchanged_tapes c) (exchanged_tapes run.0) =
      record {
        going = h.going;
        follows = follows_exchanged rs c run.0 h.follows;
        stays = record { one = h.stays.three; two = h.stays.two; three = h.stays.one };
      } in
      (exchanged_tapes run.0, step, run_exchanged rs final rooms n run.0 d run.2)

  pub run_exchanged_back : (rs : List (Rule Q)) (final : Q) (rooms : Rooms) (n : ℕ) (c d : Configuration Q)
      → Reaches (Steps (exchanged_rooms rooms) (exchanged_list rs) final) n (exchanged_tapes c) (exchanged_tapes d)
      → Reaches (Steps rooms rs final) n c d
  run_exchanged_back rs final rooms n c d run =
      subst (λ ss. Reaches (Steps rooms ss final) n c d) (exchanged_list-exchanged_list rs)
      (run_exchanged (exchanged_list rs) final (exchanged_rooms rooms) n (exchanged_tapes c) (exchanged_tapes d) run)

-- ---- the laws

pub exchanged_lists_pass_tests : ExchangedListsPassTests
exchanged_lists_pass_tests rs = (
  (exchanged_free_back Domain rs, exchanged_free Domain rs),
  (exchanged_free_back Range rs, exchanged_free Range rs),
  λ initial final. (exchanged_uniform_back rs initial final, exchanged_uniform rs initial final),
)

pub exchanged_lists_run : ExchangedListsRun
exchanged_lists_run rs final rooms n c d = (run_exchanged rs final rooms n c d, run_exchanged_back rs final rooms n c d)

-- The inverse of a machine passes the tests where the machine does, and runs back.
use Rattle.std.specs.Prelude.{◌≡◌, ℕ, ◌+◌, ◌-◌, List, [], ◌∷◌, ◌++◌, length, map, reverse, refl}
use Rattle.std.proofs.Common.{zero, suc, arith, sym, ap, subst, ◌∙◌, get_or}
use Rattle.std.proofs.lemmas.List.{length-map, length-reverse, map-append, reverse-append}
use Rattle.std.proofs.lemmas.List.Elements.{All-map}
use Rattle.bn_lists.specs.Runs.{Reaches}
use Rattle.bn_lists.proofs.RunsLemmas.{runs_more}
use Rattle.bn_quad.specs.Quadruples.{Rule, Configuration, Follows, Quadruples, IsRuleInRange, QuadruplesRunTo, Rooms}
use Rattle.bn_quad.specs.Quadruples.{AreAllowed, initial_of, final_state_of, inverse_of, turned, turned_list}
use Rattle.bn_quad.specs.Overlap.{IsDeterministic, IsReversible}
use Rattle.bn_quad.specs.Calls.{IsUniformMachine}
use Rattle.bn_quad.proofs.SoundLemmas.{turned_in_range}
use Rattle.bn_bennett_laws.specs.Names.{IsUniformFrom}
use Rattle.bn_bennett_laws.specs.Steps.{Steps, EndsAt, Exit, Finished, Stopped, Leaving, finishes, stops, leaves}
use Rattle.bn_bennett_laws.proofs.NumberLemmas.{uniform_numbers, run_of_goes, run_of_steps}
use Rattle.bn_erase_laws.proofs.TurnedLemmas.{turned_list-turned_list, turned_deterministic, turned_reversible}
use Rattle.bn_erase_laws.proofs.TurnedLemmas.{turned_uniform, follows_turned, run_turned, run_turned_back}
use Rattle.bn_erase_laws.specs.InverseLaws.{InversesAreMachines, InversesOfInverses, InversesExchangeEnds}
use Rattle.bn_erase_laws.specs.InverseLaws.{InversesPassTests, InversesAreUniform, InversesFollowBack, InversesRunBack}
use Rattle.bn_erase_laws.specs.InverseLaws.{InversesEndAtTheStart}
use Rattle.bn_quad.proofs.BackwardLemmas.{all_reversed}

-- ---- the ends of the list

final_of_last : (rs : List (Rule ℕ)) (r : Rule ℕ) → final_state_of (rs ++ (r ∷ [])) ≡ r.to
final_of_last [] r = refl
final_of_last (s ∷ []) r = refl
final_of_last (s ∷ t ∷ rs) r = final_of_last (t ∷ rs) r

final_turned : (rs : List (Rule ℕ)) → final_state_of (turned_list rs) ≡ initial_of rs
final_turned [] = refl
final_turned (r ∷ rs) =
    ap (λ ss. final_state_of (map turned ss)) (reverse-append (r ∷ []) rs)
    ∙ ap (λ ss. final_state_of ss) (map-append turned (reverse rs) (r ∷ []))
    ∙ final_of_last (map turned (reverse rs)) (turned r)

initial_turned : (rs : List (Rule ℕ)) → initial_of (turned_list rs) ≡ final_state_of rs
initial_turned rs = sym (final_turned (turned_list rs)) ∙ ap (λ ss. final_state_of ss) (turned_list-turned_list rs)

-- ---- the machine

pub inverse_machine : InversesAreMachines
inverse_machine m is =
    let long : length (turned_list m.rules) ≡ length m.rules = length-map (reverse m.rules) turned
    ∙ length-reverse m.rules in
    record {
      some = omega (arith, is.some);
      few = omega (arith, is.few);
      tapes = is.tapes;
      in_range = All-map (IsRuleInRange m.states m.symbols) turned (reverse m.rules)
          (λ k d inside. turned_in_range m.states m.symbols (get_or (reverse m.rules) k d)
          (all_reversed (IsRuleInRange m.states m.symbols) m.rules is.in_range k d inside));
    }

inverse_uniform : (m : Quadruples) → IsUniformMachine m → IsUniformMachine (inverse_of m)
inverse_uniform m u =
    let rs = m.rules in
    let from : IsUniformFrom (final_state_of rs) (initial_of rs) (turned_list rs) =
    turned_uniform rs (initial_of rs) (final_state_of rs) ((uniform_numbers rs).0 u.uniform) in
    record {
      deterministic = turned_deterministic rs u.reversible;
      reversible = turned_reversible rs u.deterministic;
      uniform = (uniform_numbers (turned_list rs)).1
          (subst (λ a. IsUniformFrom a (final_state_of (turned_list rs)) (turned_list rs)) (sym (initial_turned rs))
          (subst (λ b. IsUniformFrom (final_state_of rs) b (turned_list rs)) (sym (final_turned rs)) from));
    }

pub inverse_twice : InversesOfInverses
inverse_twice m = ap (λ (rs : List (Rule ℕ)). record { rules = rs; states = m.states; symbols = m.symbols })
    (turned_list-turned_list m.rules)

pub ends_exchanged : InversesExchangeEnds
ends_exchanged m = (initial_turned m.rules, final_turned m.rules)

-- where the inverse of the inverse is so, the machine is
turned_back : (P : List (Rule ℕ) → Type 0) (rs : List (Rule ℕ)) → P (turned_list (turned_list rs)) → P rs
turned_back P rs h = subst P (turned_list-turned_list rs) h

pub tests_passed : InversesPassTests
tests_passed m = (
  (turned_reversible m.rules, λ h. turned_back IsDeterministic m.rules (turned_deterministic (turned_list m.rules) h)),
  (turned_deterministic m.rules, λ h. turned_back IsReversible m.rules (turned_reversible (turned_list m.rules) h)),
)

pub inverses-uniform : InversesAreUniform
inverses-uniform m = (
  inverse_uniform m,
  λ u. subst IsUniformMachine (inverse_twice m) (inverse_uniform (inverse_of m) u),
)

-- ---- runs

follow_back : (rs : List (Rule ℕ)) (n : ℕ) (c d : Configuration ℕ) → Reaches (Follows rs) n c d
    → Reaches (Follows (turned_list rs)) n d c
follow_back rs zero c d run = sym run
follow_back rs (suc n) c d run =
    let count : n + 1 ≡ suc n = omega arith in
    let rest = follow_back rs n run.0 d run.2 in
    subst (λ i. Reaches (Follows (turned_list rs)) i d c) count
    (runs_more (Follows (turned_list rs)) n d run.0 c rest (follows_turned rs c run.0 run.1))

pub inverses-follow : InversesFollowBack
inverses-follow m n c d = (
  follow_back m.rules n c d,
  λ run. turned_back (λ rs. Reaches (Follows rs) n c d) m.rules (follow_back (turned_list m.rules) n d c run),
)

module _ (m : Quadruples) (u : IsUniformMachine m) (rooms : Rooms) (n : ℕ) (c d : Configuration ℕ) where
  from : IsUniformFrom (initial_of m.rules) (final_state_of m.rules) m.rules
  from = (uniform_numbers m.rules).0 u.uniform

  back : AreAllowed rooms c → Reaches (QuadruplesRunTo rooms m) n c d
      → Reaches (QuadruplesRunTo rooms (inverse_of m)) n d c
  back here run =
      let turned_run = run_turned m.rules (initial_of m.rules) (final_state_of m.rules) from rooms n c d here
      (run_of_goes rooms m n c d run) in
      run_of_steps rooms (inverse_of m) (turned_deterministic m.rules u.reversible) n d c
      (subst (λ x. Reaches (Steps rooms (turned_list m.rules) x) n d c) (sym (final_turned m.rules)) turned_run)

  forth : AreAllowed rooms d → Reaches (QuadruplesRunTo rooms (inverse_of m)) n d c
      → Reaches (QuadruplesRunTo rooms m) n c d
  forth there run =
      let turned_run : Reaches (Steps rooms (turned_list m.rules) (initial_of m.rules)) n d c =
      subst (λ x. Reaches (Steps rooms (turned_list m.rules) x) n d c) (final_turned m.rules)
      (run_of_goes rooms (inverse_of m) n d c run) in
      run_of_steps rooms m u.deterministic n c d
      (run_turned_back m.rules (initial_of m.rules) (final_state_of m.rules) from rooms n c d there turned_run)

pub inverses-back : InversesRunBack
inverses-back m u rooms n c d here there = (back m u rooms n c d here, forth m u rooms n c d there)

pub final_if : (rooms : Rooms) (rs : List (Rule ℕ)) (final : ℕ) (d : Configuration ℕ) (e : Exit) → e ≡ Finished
    → EndsAt rooms rs final d e → d.state ≡ final
final_if rooms rs final d e is (finishes same why) = same
final_if rooms rs final d e is (stops going none why) = absurd (let both : Stopped ≡ Finished = sym why ∙ is in cc)
final_if rooms rs final d e is (leaves tape side x going follows out why) =
    absurd (let both : Leaving tape side ≡ Finished = sym why ∙ is in cc)

pub inverses-end : InversesEndAtTheStart
inverses-end m u rooms n c d here initial run ends = (
  final_if rooms m.rules (final_state_of m.rules) d Finished refl ends ∙ sym (initial_turned m.rules),
  back m u rooms n c d here run,
  finishes (initial ∙ sym (final_turned m.rules)) refl,
)

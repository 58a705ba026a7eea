-- Bennett's list over numbers.
use Rattle.std.specs.Prelude.{◌≡◌, ◌↔◌, ℕ, List, [], ◌∷◌, length, Some}
use Rattle.std.proofs.Common.{sym, ap, ◌∙◌, subst}
use Rattle.std.proofs.lemmas.List.{length-map}
use Rattle.bn_lists.specs.Lists.{nth, IsIn}
use Rattle.bn_lists.specs.Runs.{Reaches}
use Rattle.bn_quad.specs.Quadruples.{Rule, Configuration, Quadruples, Rooms, QuadruplesRunTo, initial_of}
use Rattle.bn_quad.specs.Quadruples.{final_state_of}
use Rattle.bn_quad.specs.Overlap.{HasNoClash, IsUniform}
use Rattle.bn_quad.specs.declared.clash.Clash.TheVariants.{Domain, Range}
use Rattle.bn_bennett_laws.specs.List.{bennett, initial_name, final_name}
use Rattle.bn_bennett_laws.specs.Names.{states_in, IsUniformFrom}
use Rattle.bn_bennett_laws.specs.Steps.{Steps, Exit, EndsAt}
use Rattle.bn_bennett_laws.specs.Renamed.{renamed, rename, in_state, KeepsApart}
use Rattle.bn_bennett_laws.proofs.RenamedLemmas.{to_in, nth_before, no_clash_before, uniform_before, run_renamed}
use Rattle.bn_bennett_laws.proofs.RenamedLemmas.{run_before, ends_renamed, ends_before}
use Rattle.bn_bennett_laws.proofs.NumberLemmas.{uniform_numbers, run_of_goes, run_of_steps}
use Rattle.bn_bennett_laws.specs.Laws.{ListPassesTests, NumbersPassTests, NumbersRunAlike}
use Rattle.bn_bennett_laws.proofs.Tests.{list_deterministic, list_reversible}
use Rattle.bn_bennett_laws.proofs.Uniform.{list_uniform}
use Rattle.bn_bennett_laws.proofs.Counts.{list_has_ends}

-- the first rule leaves the state that its list begins in
first_state : (rs : List (Rule ℕ)) (r : Rule ℕ) → nth rs 1 ≡ Some r → r.from ≡ initial_of rs
first_state [] r e = absurd (cc)
first_state (s ∷ rs) r e = let same : s ≡ r = cc in ap (λ (x : Rule ℕ). x.from) (sym same)

-- and the last one leads to the state that its list ends in
last_state : (rs : List (Rule ℕ)) (r : Rule ℕ) → nth rs (length rs) ≡ Some r → r.to ≡ final_state_of rs
last_state [] r e = absurd (cc)
last_state (s ∷ []) r e = let same : s ≡ r = cc in ap (λ (x : Rule ℕ). x.to) (sym same)
last_state (s ∷ t ∷ rs) r e = last_state (t ∷ rs) r e

-- the same runs, and the same ends, where rules and final state are the same
same_runs : {Q : Type 0} (rooms : Rooms) (rs ss : List (Rule Q)) (f g : Q) (n : ℕ) (x y : Configuration Q) → rs ≡ ss
    → f ≡ g → Reaches (Steps rooms rs f) n x y → Reaches (Steps rooms ss g) n x y
same_runs rooms rs ss f g n x y rules finals run = subst (λ t. Reaches (Steps rooms t g) n x y) rules
    (subst (λ h. Reaches (Steps rooms rs h) n x y) finals run)

same_ends : {Q : Type 0} (rooms : Rooms) (rs ss : List (Rule Q)) (f g : Q) (x : Configuration Q) (e : Exit) → rs ≡ ss
    → f ≡ g → EndsAt rooms rs f x e → EndsAt rooms ss g x e
same_ends rooms rs ss f g x e rules finals ends = subst (λ t. EndsAt rooms t g x e) rules
    (subst (λ h. EndsAt rooms rs h x e) finals ends)

-- ---- any list over numbers

-- the list's first quadruple leaves its initial state, and its last one leads to its final state
module _ {Q : Type 0} (name : ℕ → Q) (rs : List (Rule ℕ)) (list : List (Rule Q)) (initial final : Q)
    (first : (r : Rule Q) × (nth list 1 ≡ Some r) × (r.from ≡ initial))
    (last : (r : Rule Q) × (nth list (length list) ≡ Some r) × (r.to ≡ final)) (same : rename name rs ≡ list) where
  initial_named : name (initial_of rs) ≡ initial
  initial_named =
      let before = nth_before name rs 1 first.0 (ap (λ ss. nth ss 1) same ∙ first.1) in
      ap name (sym (first_state rs before.0 before.1)) ∙ ap (λ (r : Rule Q). r.from) before.2 ∙ first.2

  last_before : (s : Rule ℕ) × (nth rs (length rs) ≡ Some s) × (renamed name s ≡ last.0)
  last_before =
      let count : length list ≡ length rs = ap length (sym same) ∙ length-map rs (renamed name) in
      nth_before name rs (length rs) last.0 (ap (λ ss. nth ss (length rs)) same
      ∙ subst (λ n. nth list n ≡ Some last.0) count last.1)

  final_named : name (final_state_of rs) ≡ final
  final_named =
      let before = last_before in
      ap name (sym (last_state rs before.0 before.1)) ∙ ap (λ (r : Rule Q). r.to) before.2 ∙ last.2

  final_listed : IsIn (states_in rs) (final_state_of rs)
  final_listed =
      let before = last_before in
      subst (IsIn (states_in rs)) (last_state rs before.0 before.1)
      (to_in rs before.0 (record { place = length rs; stands = before.1 }))

  -- the tests that the list passes its numbers pass
  pub pass_tests : HasNoClash Domain list → HasNoClash Range list → IsUniformFrom initial final list
      → HasNoClash Domain rs × HasNoClash Range rs × IsUniform rs × (name (initial_of rs) ≡ initial)
      × (name (final_state_of rs) ≡ final)
  pass_tests domain range uniform =
      let named : IsUniformFrom (name (initial_of rs)) (name (final_state_of rs)) (rename name rs) =
      subst (λ n. IsUniformFrom n (name (final_state_of rs)) (rename name rs)) (sym initial_named)
      (subst (λ n. IsUniformFrom initial n (rename name rs)) (sym final_named)
      (subst (IsUniformFrom initial final) (sym same) uniform)) in (
        no_clash_before name rs Domain (subst (HasNoClash Domain) (sym same) domain),
        no_clash_before name rs Range (subst (HasNoClash Range) (sym same) range),
        (uniform_numbers rs).1 (uniform_before name rs (initial_of rs) (final_state_of rs) named),
        initial_named,
        final_named,
      )

-- a machine of numbers runs and ends as its list does
module _ {Q : Type 0} (name : ℕ → Q) (m : Quadruples) (list : List (Rule Q)) (initial final : Q)
    (first : (r : Rule Q) × (nth list 1 ≡ Some r) × (r.from ≡ initial))
    (last : (r : Rule Q) × (nth list (length list) ≡ Some r) × (r.to ≡ final)) (same : rename name m.rules ≡ list)
    (apart : HasNoClash Domain m.rules) (keeps : KeepsApart name m.rules) (rooms : Rooms) (c : Configuration ℕ)
    (here : IsIn (states_in m.rules) c.state) where
  pub run_alike : ((n : ℕ) (d : Configuration ℕ) → Reaches (QuadruplesRunTo rooms m) n c d
      → Reaches (Steps rooms list final) n (in_state name c) (in_state name d))
      × ((n : ℕ) (x : Configuration Q) → Reaches (Steps rooms list final) n (in_state name c) x
      → (d : Configuration ℕ) × Reaches (QuadruplesRunTo rooms m) n c d × (x ≡ in_state name d)
      × IsIn (states_in m.rules) d.state)
      × ((e : Exit) → EndsAt rooms m.rules (final_state_of m.rules) c e ↔ EndsAt rooms list final (in_state name c) e)
  run_alike =
      let end : name (final_state_of m.rules) ≡ final = final_named name m.rules list initial final first last same in
      let listed : IsIn (states_in m.rules) (final_state_of m.rules) =
      final_listed name m.rules list initial final first last same in (
        λ n d run. same_runs rooms _ _ _ _ n (in_state name c) (in_state name d) same end
            (run_renamed name m.rules keeps rooms (final_state_of m.rules) listed n c d
            (run_of_goes rooms m n c d run)),
        λ n x run.
            let found = run_before name m.rules keeps rooms (final_state_of m.rules) listed n c x here
            (same_runs rooms _ _ _ _ n (in_state name c) x (sym same) (sym end) run) in
            (found.0, run_of_steps rooms m apart n c found.0 found.1, found.2, found.3),
        λ e. (
          λ h. same_ends rooms _ _ _ _ (in_state name c) e same end
              (ends_renamed name m.rules keeps rooms (final_state_of m.rules) listed c e here h),
          λ h. ends_before name m.rules keeps rooms (final_state_of m.rules) listed c e here
              (same_ends rooms _ _ _ _ (in_state name c) e (sym same) (sym end) h),
        ),
      )

-- ---- Bennett's list

pub list_passes_tests : ListPassesTests
list_passes_tests p standard = (list_deterministic p standard, list_reversible p standard, list_uniform p standard)

pub numbers_pass_tests : NumbersPassTests
numbers_pass_tests p standard name rs same =
    let ends = list_has_ends p standard.machine.some in
    pass_tests name rs (bennett p) (initial_name p) (final_name p) ends.0 ends.1 same
    (list_deterministic p standard.standard) (list_reversible p standard.standard)
    (list_uniform p standard.standard)

pub numbers_run_alike : NumbersRunAlike
numbers_run_alike p standard name q same keeps rooms c here =
    let ends = list_has_ends p standard.machine.some in
    run_alike name q (bennett p) (initial_name p) (final_name p) ends.0 ends.1 same
    (numbers_pass_tests p standard name q.rules same).0 keeps rooms c here

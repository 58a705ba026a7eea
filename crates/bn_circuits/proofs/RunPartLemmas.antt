-- Cuts of runs, claims read off a path, and the places on the way.
use Rattle.std.specs.Prelude.{◌≡◌, ℕ, ◌+◌, ◌<◌, ◌≤◌, Bool, true, ◌∷◌, length, Option, Some, None, slice_get, refl}
use Rattle.std.proofs.Common.{zero, suc, arith, sym, ap, subst, ◌∙◌}
use Rattle.bn_lists.specs.Runs.{Reaches, Passes}
use Rattle.bn_lists.proofs.RunsLemmas.{before_by, before_gives, runs_more}
use Rattle.bn_circuits.specs.Circuits.{Circuit, Goes, IsCircuit, IsConfig, IsStuck, IsFirst}
use Rattle.bn_circuits.specs.Stepping.{run, back, previous, places, places_back}
use Rattle.bn_circuits.proofs.StepLemmas.{previous-Goes, previous-IsConfig, Goes-previous}
use Rattle.bn_circuits.proofs.RunLemmas.{Reaches-run, Reaches-back, run-first, run-zero, run_makes, places-Goes}
use Rattle.bn_circuits.proofs.RunLemmas.{places-stuck, places-zero, back-zero, back_composes, back-first}
use Rattle.bn_circuits.proofs.RunLemmas.{places_back-zero, places_back-Goes, places_back-first}
use Rattle.bn_circuits.specs.declared.config.Config.{Config}
use Rattle.bn_circuits.specs.RunParts.{RunsUndoInPart, PathsPassBetween, PlacesAreThoseOfRuns}
use Rattle.bn_circuits.specs.RunParts.{ArePlacesOfRunBack, PlacesAreThoseOfRunsBack}

pub runs_split : {S : Type 0} (step : S → S → Type 0) (r s p : ℕ) (x z : S) → p ≡ r + s → Reaches step p x z
    → (y : S) × Reaches step r x y × Reaches step s y z
runs_split step zero s p x z sum path = let e : p ≡ s = omega arith in (x, refl, subst (λ n. Reaches step n x z) e path)
runs_split step (suc r) s zero x z sum path = absurd (omega arith)
runs_split step (suc r) s (suc p) x z sum path =
    let rest = runs_split step r s p path.0 z (omega arith) path.2 in
    (rest.0, (path.0, path.1, rest.1), rest.2)

pub runs-undo_in_part : RunsUndoInPart
runs-undo_in_part k circuit s r t c d sum path =
    let cut = runs_split (Goes k) r s t c d sum path in
    Reaches-back k circuit s cut.0 d cut.2 ∙ sym (Reaches-run k r c cut.0 cut.1)

pub paths-between : PathsPassBetween
paths-between k test zero t c d path some few = absurd (omega arith)
paths-between k test (suc n) zero c d path some few = absurd (omega arith)
paths-between k test (suc zero) (suc t) c d path some few = absurd (omega arith)
paths-between k test (suc (suc n)) (suc zero) c d path some few =
    let there : run k c 1 ≡ path.0 = run-first k c path.0 0 path.1 ∙ run-zero k path.0 in
    ap test there ∙ path.2
paths-between k test (suc (suc n)) (suc (suc t)) c d path some few =
    ap test (run-first k c path.0 (suc t) path.1) ∙ paths-between k test (suc n) (suc t) path.0 d path.3 (omega arith)
    (omega arith)

-- a test that says yes where another does holds along the same path
pub passes_weaker : {S : Type 0} (step : S → S → Type 0) (test weaker : S → Bool)
    → ((x : S) → test x ≡ true → weaker x ≡ true)
    → (n : ℕ) (x z : S) → Passes step test n x z → Passes step weaker n x z
passes_weaker step test weaker implies zero x z path = path
passes_weaker step test weaker implies (suc n) x z path = (
  path.0,
  path.1,
  before_by n (weaker path.0 ≡ true) (λ more. implies path.0 (before_gives n (test path.0 ≡ true) more path.2)),
  passes_weaker step test weaker implies n path.0 z path.3,
)

-- a run of n steps has counted n steps
pub steps_of_run : (k : Circuit) (n : ℕ) (c d : Config) → Reaches (Goes k) n c d → d.steps ≡ c.steps + n
steps_of_run k zero c d path = let same : c.steps ≡ d.steps = ap (λ (x : Config). x.steps) path in omega arith
steps_of_run k (suc n) c d path = let here = path.1.steps in let rest = steps_of_run k n path.0 d path.2 in omega arith

-- the places told of exactly n steps
places_reach : (k : Circuit) (n t : ℕ) (c d : Config) → Reaches (Goes k) n c d → n ≤ t → (n < t → IsStuck k d)
    → (length (places k t c) ≡ n) × ((i : ℕ) → i < n → slice_get (places k t c) i ≡ Some (run k c (i + 1)).place)
places_reach k zero zero c d path within ended = (rw (places-zero k c) refl, λ i low. absurd (omega arith))
places_reach k zero (suc t) c d path within ended =
    let stuck : IsStuck k c = subst (IsStuck k) (sym path) (ended (omega arith)) in
    (rw (places-stuck k c (suc t) stuck) refl, λ i low. absurd (omega arith))
places_reach k (suc n) zero c d path within ended = absurd (omega arith)
places_reach k (suc n) (suc t) c d path within ended =
    let rest = places_reach k n t path.0 d path.2 (omega arith) (λ fewer. ended (omega arith)) in
    let told = places-Goes k c path.0 t path.1 in
    (rw told (ap suc rest.0), λ i low. rw told (at i low rest.1))
  where
    at : (i : ℕ) → i < suc n → ((j : ℕ) → j < n → slice_get (places k t path.0) j ≡ Some (run k path.0 (j + 1)).place)
        → slice_get (path.0.place ∷ places k t path.0) i ≡ Some (run k c (i + 1)).place
    at zero low later = ap (λ (x : Config). Some x.place) (sym (run-first k c path.0 0 path.1 ∙ run-zero k path.0))
    at (suc j) low later =
        let count : suc (j + 1) ≡ suc j + 1 = omega arith in
        later j (omega arith) ∙ ap (λ (x : Config). Some x.place) (sym (run-first k c path.0 (j + 1) path.1))
        ∙ ap (λ n. Some (run k c n).place) count

pub places-of_runs : PlacesAreThoseOfRuns
places-of_runs k t c =
    let made = run_makes k c t in
    let told = places_reach k made.made t c (run k c t) made.reaches made.within made.ended in
    record {
      count = made.made;
      all = told.0;
      within = made.within;
      reaches = made.reaches;
      ended = made.ended;
      each = told.1;
    }

-- the first step of a run back
back-begins : (k : Circuit) (circuit : IsCircuit k) (c d : Config) (t : ℕ) → Goes k c d → back k d (suc t) ≡ back k c t
back-begins k circuit c d t g =
    let sum : suc t ≡ 1 + t = omega arith in
    let once : back k d 1 ≡ c = Reaches-back k circuit 1 c d (d, g, refl) in
    back_composes k d 1 t (suc t) sum ∙ ap (λ x. back k x t) once

-- the places told of a run back from where a step led, and from where none did
module _ (k : Circuit) (circuit : IsCircuit k) where
  back_from_step : (t : ℕ) (c d : Config) → Goes k c d → ArePlacesOfRunBack k t c → ArePlacesOfRunBack k (suc t) d
  back_from_step t c d g rest =
      let told = places_back-Goes k circuit c d t g in
      let there = back-begins k circuit c d t g in
      record {
        count = rest.count + 1;
        all = ap length told ∙ ap suc rest.all ∙ (omega arith);
        within = let w = rest.within in omega arith;
        reaches = subst (λ x. Reaches (Goes k) (rest.count + 1) x d) (sym there)
            (runs_more (Goes k) rest.count (back k c t) c d rest.reaches g);
        ended = λ fewer. subst (IsFirst k) (sym there) (rest.ended (omega arith));
        each = λ i low. ap (λ ps. slice_get ps i) told ∙ at i low;
      }
    where
      at : (i : ℕ) → i < rest.count + 1 → slice_get (c.place ∷ places_back k t c) i ≡ Some (back k d (i + 1)).place
      at zero low = ap (λ (x : Config). Some x.place) (sym (back-begins k circuit c d 0 g ∙ back-zero k c))
      at (suc j) low =
          let count : suc (j + 1) ≡ suc j + 1 = omega arith in
          rest.each j (omega arith) ∙ ap (λ (x : Config). Some x.place) (sym (back-begins k circuit c d (j + 1) g))
          ∙ ap (λ n. Some (back k d n).place) count

  back_from_start : (t : ℕ) (d : Config) → IsConfig k d → IsFirst k d → ArePlacesOfRunBack k t d
  back_from_start t d config first =
      let there = back-first k circuit d config first t in
      record {
        count = 0;
        all = ap length (places_back-first k circuit d t config first);
        within = omega arith;
        reaches = there;
        ended = λ _. subst (IsFirst k) (sym there) first;
        each = λ i low. absurd (omega arith);
      }

  back_told : (t : ℕ) (d : Config) → IsConfig k d → ArePlacesOfRunBack k t d
  back_told zero d config =
      record {
        count = 0;
        all = ap length (places_back-zero k d);
        within = omega arith;
        reaches = back-zero k d;
        ended = λ fewer. absurd (omega arith);
        each = λ i low. absurd (omega arith);
      }
  back_told (suc t) d config = by_step (previous k d) refl (λ c of_circuit. back_told t c of_circuit)
    where
      by_step : (o : Option Config) → previous k d ≡ o → ((c : Config) → IsConfig k c → ArePlacesOfRunBack k t c)
          → ArePlacesOfRunBack k (suc t) d
      by_step None none rest = back_from_start (suc t) d config
          (λ c g. let some = Goes-previous k circuit c d g in let no = none in cc)
      by_step (Some c) some rest =
          let g : Goes k c d = previous-Goes k circuit c d config some in
          back_from_step t c d g (rest c (previous-IsConfig k circuit c d config g))

pub places-of_runs_back : PlacesAreThoseOfRunsBack
places-of_runs_back k circuit t d config = back_told k circuit t d config

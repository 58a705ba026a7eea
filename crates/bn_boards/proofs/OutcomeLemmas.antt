-- Exits and outcomes, the cost and the end, and a run taken back.
use Rattle.std.specs.Prelude.{◌≡◌, ◌≢◌, ◌↔◌, ℕ, ◌+◌, ◌-◌, ◌≤◌, List, [], ◌∷◌, Some, slice_get, slice_index_or, refl}
use Rattle.std.proofs.Common.{zero, suc, arith, zero-add, sym, ap, subst, ◌∙◌}
use Rattle.bn_circuits.specs.Circuits.{Goes}
use Rattle.bn_circuits.specs.declared.place.Place.{Place}
use Rattle.bn_circuits.specs.declared.place.Place.TheVariants.{Enter, Left}
use Rattle.bn_machine.specs.Machine.{Program}
use Rattle.bn_machine.specs.Outcome as outcome
use Rattle.bn_machine.specs.Outcome.{Outcome, HasOutcome}
use Rattle.bn_machine.proofs.OutcomeLemmas.{outcome_exists}
use Rattle.bn_machine.specs.declared.quint.Side.{Side}
use Rattle.bn_bennett_laws.specs.List.{bennett}
use Rattle.bn_bennett_laws.specs.declared.name.Name.{Name}
use Rattle.bn_bennett_laws.specs.declared.name.Name.TheVariants.{Compute, GoRight}
use Rattle.bn_bennett.specs.Translation.{IsTranslation, Translation, name_of}
use Rattle.bn_bennett.proofs.Counting.{numbers_states}
use Rattle.bn_boards.specs.declared.exit.Exit.{Exit}
use Rattle.bn_boards.specs.declared.exit.Exit.TheVariants as exit
use Rattle.bn_boards.specs.Layouts.{Layout, moments, IsExit, IsNamedExit, named, unnamed, inside, ends, stuck}
use Rattle.bn_boards.specs.Layouts.{right, left}
use Rattle.bn_boards.specs.Flats.{Flat, flat_start}
use Rattle.bn_boards.specs.BoardRuns.{IsExitFor, RunsToExit, SpellsRestored}
use Rattle.bn_boards.specs.RunLaws.{BoardsRunToTheirExit, ExitsTellOutcomes, BoardsLeaveByOutcomes, EndsInTime}
use Rattle.bn_boards.specs.RunLaws.{BoardsEndInTime, BoardsAreRestored, BoardsRunBack}
use Rattle.bn_boards.specs.LayoutLaws.{ExitsAreOne}
use Rattle.bn_circuits.proofs.RunPartLemmas.{runs_split, runs-undo_in_part, steps_of_run}
use Rattle.bn_circuits.proofs.RunLemmas.{run_stops, Reaches-run}
use Rattle.bn_circuits.specs.Stepping.{run, back}
use Rattle.bn_boards.proofs.CountLemmas.{costs-one, before_end}

-- the exit of an outcome is not without a name, and not inside
pub not_unnamed : (f : Flat) (o : Outcome) (e : Exit) → IsExitFor f o e → e ≢ exit.Unnamed
not_unnamed f (outcome.Halted y) e is h = let both : exit.End ≡ exit.Unnamed = sym is ∙ h in cc
not_unnamed f (outcome.Stuck j c) e is h = let both : exit.Stuck is.0 c ≡ exit.Unnamed = sym is.2 ∙ h in cc
not_unnamed f (outcome.Outside n s) e is h = let both : exit.Window n s ≡ exit.Unnamed = sym is ∙ h in cc

not_inside : (f : Flat) (o : Outcome) → IsExitFor f o exit.Inside → ⊥
not_inside f (outcome.Halted y) is = cc
not_inside f (outcome.Stuck j c) is = let both : exit.Inside ≡ exit.Stuck is.0 c = is.2 in cc
not_inside f (outcome.Outside n s) is = cc

-- an exit with a name is the only one
pub named_once : (b : Layout) (at : Place) (e x : Exit) → ((e x : Exit) → IsNamedExit b at e → IsNamedExit b at x
    → e ≡ x) → IsExit b at e → IsExit b at x
    → x ≢ exit.Unnamed → e ≡ x
named_once b at e x one (named h) (named k) some = one e x h k
named_once b at e x one (unnamed is none) (named k) some = absurd (none x k)
named_once b at e x one h (unnamed is none) some = absurd (some is)

-- where the exit is the outcome's, so are its line and its status
-- from its cost on a board stays where it is
pub at_cost : (p : Program) (f : Flat) (i : ℕ) (o : Outcome) (ran : RunsToExit p f i o) (n : ℕ) → ran.cost ≤ n
    → run f.circuit (flat_start f) n ≡ run f.circuit (flat_start f) ran.cost
at_cost p f i o ran n low = run_stops f.circuit ran.cost n (flat_start f) (run f.circuit (flat_start f) ran.cost)
    ran.run_to low (λ _. ran.ended)

-- ---- exits and outcomes

-- the name of a state that computes is that of one state
compute_once : (p : Program) (t : Translation) → IsTranslation p t → (a b j : ℕ) → name_of t a ≡ Compute j
    → name_of t b ≡ Compute j → a ≡ b
compute_once p t is a b j h k = (numbers_states (bennett p) t.names is.names).apart a b (Compute j) (stands a h)
    (stands b k)
  where
    found : (xs : List Name) (a : ℕ) → slice_index_or xs a GoRight ≡ Compute j → slice_get xs a ≡ Some (Compute j)
    found [] a e = absurd (cc)
    found (x ∷ xs) zero e = ap (λ n. Some n) e
    found (x ∷ xs) (suc a) e = found xs a e

    stands : (a : ℕ) → name_of t a ≡ Compute j → slice_get t.names a ≡ Some (Compute j)
    stands a e = found t.names a e

-- an outcome names one exit
exit_for_once : (p : Program) (f : Flat) → IsTranslation p f.translation → (o : Outcome) (e x : Exit) → IsExitFor f o e
    → IsExitFor f o x → e ≡ x
exit_for_once p f is (outcome.Halted y) e x h k = h ∙ sym k
exit_for_once p f is (outcome.Stuck j c) e x h k = h.2 ∙ ap (λ a. exit.Stuck a c)
    (compute_once p f.translation is h.0 k.0 j h.1 k.1) ∙ sym k.2
exit_for_once p f is (outcome.Outside n s) e x h k = h ∙ sym k

pub exits-tell : ExitsAreOne → BoardsRunToTheirExit → ExitsTellOutcomes
exits-tell exits boards p word l f flat accepted cost has_cost i o outcome e =
    let ran = boards p word l f flat accepted i o outcome in
    let same : ran.cost ≡ cost = costs-one f ran.cost cost ran.has_cost has_cost in
    let place = (run f.circuit (flat_start f) cost).place in
    let has_exit : IsExit f.layout place ran.exit = subst (λ n. IsExit f.layout (run f.circuit (flat_start f) n).place
    ran.exit) same ran.is_exit in (
      (λ h. subst (IsExitFor f o) (sym (named_once f.layout place e ran.exit (exits p word l f flat accepted place) h
          has_exit (not_unnamed f o ran.exit ran.for_outcome))) ran.for_outcome),
      (λ h. subst (IsExit f.layout place) (exit_for_once p f flat.translation o ran.exit e ran.for_outcome h) has_exit),
    )

pub leaves-by : ExitsAreOne → BoardsRunToTheirExit → BoardsLeaveByOutcomes
leaves-by exits boards p word l f flat accepted cost has_cost =
    let some = outcome_exists p word l in
    record {
      by_end = (
        (λ h. end_of some.0 some.1 some.2 ((at some.0 some.1 some.2 exit.End).0 h)),
        (λ h. (at h.0 (outcome.Halted h.1) h.2 exit.End).1 refl),
      );
      by_stuck = λ a c. (
        (λ h. stuck_of some.0 some.1 some.2 a c ((at some.0 some.1 some.2 (exit.Stuck a c)).0 h)),
        (λ h. (at h.0 (outcome.Stuck h.1 c) h.2 (exit.Stuck a c)).1 (a, h.3, refl)),
      );
      by_window = λ t s. (
        (λ h. window_of some.0 some.1 some.2 t s ((at some.0 some.1 some.2 (exit.Window t s)).0 h)),
        (λ h. (at h.0 (outcome.Outside t s) h.1 (exit.Window t s)).1 refl),
      );
      no_name = λ h. not_unnamed f some.1 exit.Unnamed ((at some.0 some.1 some.2 exit.Unnamed).0 h) refl;
      left = λ h. not_inside f some.1 ((at some.0 some.1 some.2 exit.Inside).0 h);
    }
  where
    at : (i : ℕ) (o : Outcome) → HasOutcome p word l i o → (e : Exit)
        → IsExit f.layout (run f.circuit (flat_start f) cost).place e ↔ IsExitFor f o e
    at i o h e = exits-tell exits boards p word l f flat accepted cost has_cost i o h e

    end_of : (i : ℕ) (o : Outcome) → HasOutcome p word l i o → IsExitFor f o exit.End
        → (i : ℕ) × (y : List ℕ) × HasOutcome p word l i (outcome.Halted y)
    end_of i (outcome.Halted y) h is = (i, y, h)
    end_of i (outcome.Stuck j c) h is = absurd (let both : exit.End ≡ exit.Stuck is.0 c = is.2 in cc)
    end_of i (outcome.Outside n s) h is = absurd (cc)

    stuck_of : (i : ℕ) (o : Outcome) → HasOutcome p word l i o → (a c : ℕ) → IsExitFor f o (exit.Stuck a c)
        → (i : ℕ) × (j : ℕ)
        × HasOutcome p word l i (outcome.Stuck j c) × (name_of f.translation a ≡ Compute j)
    stuck_of i (outcome.Halted y) h a c is = absurd (cc)
    stuck_of i (outcome.Stuck j b) h a c is =
        let states : a ≡ is.0 = (let both : exit.Stuck a c ≡ exit.Stuck is.0 b = is.2 in cc) in
        let symbols : b ≡ c = (let both : exit.Stuck a c ≡ exit.Stuck is.0 b = is.2 in cc) in (
          i,
          j,
          subst (λ x. HasOutcome p word l i (outcome.Stuck j x)) symbols h,
          subst (λ x. name_of f.translation x ≡ Compute j) (sym states) is.1,
        )
    stuck_of i (outcome.Outside n s) h a c is = absurd (cc)

    window_of : (i : ℕ) (o : Outcome) → HasOutcome p word l i o → (t : ℕ) (s : Side) → IsExitFor f o (exit.Window t s)
        → (i : ℕ)
        × HasOutcome p word l i (outcome.Outside t s)
    window_of i (outcome.Halted y) h t s is = absurd (cc)
    window_of i (outcome.Stuck j c) h t s is = absurd (let both : exit.Window t s ≡ exit.Stuck is.0 c = is.2 in cc)
    window_of i (outcome.Outside n r) h t s is =
        let tapes : n ≡ t = cc in
        let sides : r ≡ s = cc in (
          i,
          subst (λ x. HasOutcome p word l i (outcome.Outside t x)) sides
              (subst (λ x. HasOutcome p word l i (outcome.Outside x r)) tapes h),
        )

-- ---- the cost, and the end

pub ends-in_time : BoardsRunToTheirExit → BoardsEndInTime
ends-in_time boards p word l f flat accepted cost has_cost =
    let some = outcome_exists p word l in
    let ran = boards p word l f flat accepted some.0 some.1 some.2 in
    let same : ran.cost ≡ cost = costs-one f ran.cost cost ran.has_cost has_cost in
    subst (EndsInTime f) same (record {
      bounded = ran.bounded;
      in_time = ran.in_time;
      inside = λ n low. before_end f.circuit ran.cost n (flat_start f) (run f.circuit (flat_start f) ran.cost)
          ran.run_to low;
      left = λ m i here. not_entered some.0 some.1 ran m i here;
    })
  where
    not_entered : (i : ℕ) (o : Outcome) (ran : RunsToExit p f i o) → (m n : ℕ)
        → (run f.circuit (flat_start f) ran.cost).place ≡ Enter m n → ⊥
    not_entered i o ran m n here = by_exit ran.exit ran.is_exit ran.for_outcome
      where
        apart : (e j : ℕ) → Left e j ≡ Enter m n → ⊥
        apart e j same = cc

        by_name : (x : Exit) → IsNamedExit f.layout (run f.circuit (flat_start f) ran.cost).place x → IsExitFor f o x
            → ⊥
        by_name x (inside e j there) for = not_inside f o for
        by_name x (ends there) for = apart _ _ (sym there ∙ here)
        by_name x (stuck q a t c kept low there) for = apart _ _ (sym there ∙ here)
        by_name x (right t some few there) for = apart _ _ (sym there ∙ here)
        by_name x (left t some few there) for = apart _ _ (sym there ∙ here)

        by_exit : (x : Exit) → IsExit f.layout (run f.circuit (flat_start f) ran.cost).place x → IsExitFor f o x → ⊥
        by_exit x (named h) for = by_name x h for
        by_exit x (unnamed is none) for = not_unnamed f o x for is

pub restored : ExitsAreOne → BoardsRunToTheirExit → BoardsAreRestored
restored exits boards p word l f flat accepted cost has_cost at_end =
    let halted = (leaves-by exits boards p word l f flat accepted cost has_cost).by_end.0 at_end in
    let ran = boards p word l f flat accepted halted.0 (outcome.Halted halted.1) halted.2 in
    let same : ran.cost ≡ cost = costs-one f ran.cost cost ran.has_cost has_cost in
    let steps : (run f.circuit (flat_start f) ran.cost).steps ≡ cost =
    steps_of_run f.circuit ran.cost (flat_start f) (run f.circuit (flat_start f) ran.cost) ran.run_to
    ∙ zero-add ran.cost ∙ same in (
      halted.0,
      halted.1,
      halted.2,
      subst (λ n. SpellsRestored f (run f.circuit (flat_start f) n).states halted.1) same ran.with_tapes.0,
      ap (λ n. moments f.layout f.circuit n (flat_start f)) (sym steps) ∙ ran.with_tapes.1,
    )

-- a run taken back in part
pub run-back : BoardsRunToTheirExit → BoardsRunBack
run-back boards p word l f flat accepted cost s r has_cost within =
    let some = outcome_exists p word l in
    let ran = boards p word l f flat accepted some.0 some.1 some.2 in
    let same : ran.cost ≡ cost = costs-one f ran.cost cost ran.has_cost has_cost in
    let cut = runs_split (Goes f.circuit) (r + s) (ran.cost - (r + s)) ran.cost (flat_start f)
    (run f.circuit (flat_start f) ran.cost) (omega arith) ran.run_to in
    let there : run f.circuit (flat_start f) (r + s) ≡ cut.0 =
    Reaches-run f.circuit (r + s) (flat_start f) cut.0 cut.1 in
    let sum : r + s ≡ r + s = refl in
    ap (λ c. back f.circuit c s) there ∙ runs-undo_in_part f.circuit flat.is_board.circuit s r (r + s) (flat_start f)
    cut.0 sum cut.1

-- Where `go` and `rev` stop, by the definition of a moment; steps taken back; one text of a board.
use Rattle.std.specs.Prelude.{◌≡◌, ◌↔◌, ℕ, ◌+◌, ◌-◌, ◌<◌, ◌≤◌, Bool, true, false, List, ◌++◌, Option, Some, None, refl}
use Rattle.std.specs.Prelude.{◌⊎◌}
use Rattle.std.proofs.Common.{zero, suc, arith, sym, ap, subst, ◌∙◌, inl, inr}
use Rattle.std.proofs.lemmas.Bool.{cases_lt}
use Rattle.bn_lists.specs.Runs.{Reaches}
use Rattle.bn_circuits.specs.Circuits.{Circuit, Goes}
use Rattle.bn_circuits.specs.Stepping.{run, back}
use Rattle.bn_circuits.specs.declared.config.Config.{Config}
use Rattle.bn_circuits.proofs.RunPartLemmas.{runs_split}
use Rattle.bn_circuits.proofs.RunLemmas.{Reaches-run, Reaches-back, run_composes, run-zero, back-zero, back_composes}
use Rattle.bn_machine.specs.Machine.{Program}
use Rattle.bn_machine.specs.Outcome.{Limits}
use Rattle.bn_machine.proofs.OutcomeLemmas.{outcome_exists}
use Rattle.bn_boards.specs.Layouts.{moment_at}
use Rattle.bn_boards.specs.Flats.{Flat, IsAccepted, IsFlatOf, flat_start}
use Rattle.bn_boards.proofs.ReadingLemmas.{own_accepted, own_flat}
use Rattle.bn_board.specs.Flattened.{origin}
use Rattle.bn_boards.proofs.ClosedLemmas.{have_moments, run_to_exit}
use Rattle.bn_view.specs.Viewed.{Comes, Finds}
use Rattle.bn_view.proofs.StandingLemmas.{within_run}
use Rattle.bn_session.specs.Breakpoints.{Breakpoint, some_holds}
use Rattle.bn_session.specs.Laws.{IsLeastHit, is_hit, is_none}
use Rattle.bn_session.specs.Plays.{Session, IsStop, at_hit, at_last as at_end, place_line, session, stops}
use Rattle.bn_reply_views.proofs.ViewClosedLemmas.{one}
use Rattle.bn_reply_views.specs.ViewText.{view_text}
use Rattle.bn_reply_views.proofs.RunLemmas.{goes_least}
use Rattle.bn_reply_views.specs.BreakpointLaws.{IsMomentAfter, at_moment, no_moment, IsHit, IsNextHit, at_next, no_next}
use Rattle.bn_reply_views.specs.BreakpointLaws.{IsLastHit, at_last, no_last, GoesStopAtNextHit, RevsStopAtLastHit}
use Rattle.bn_reply_views.specs.BreakpointLaws.{StepsTakenBackAreSteps, BoardsShowOneText}
use Rattle.bn_session.proofs.PlayedLemmas.{both_ways}

module _ (p : Program) (word : List ℕ) (l : Limits) (f : Flat) (flat : IsFlatOf p word l f)
    (accepted : IsAccepted p word l f) where
  -- on the run the layout finds exactly the moments (after `found_moment` and `told_moment`, private in
  -- bn_view/proofs/StandingLemmas)
  moments_same : (u : ℕ) (d : Config) → Reaches (Goes f.circuit) u (flat_start f) d → (a : ℕ)
      → Finds f.layout f.circuit (flat_start f) u a ↔ Comes f u a
  moments_same u d path a =
      let some = outcome_exists p word l in
      let ran = run_to_exit p word l f flat accepted some.0 some.1 some.2 in
      let low = within_run f.circuit u ran.cost (flat_start f) d (run f.circuit (flat_start f) ran.cost) path ran.run_to
      ran.ended in
      let own = have_moments p f.word f.limits f (own_flat p word l f flat) (own_accepted p word l f flat accepted) in
      let found = own.found ran.cost u a ran.has_cost low in
      let sums = own.sums ran.cost u a ran.has_cost low in
      (λ h. sums.1 (found.0 h), λ h. found.1 (sums.0 h))

  module _ (breaks : List Breakpoint) where
    abbrev test : Config → Bool
    test = stops (moment_at f.layout) breaks

    -- what the layout finds is what is to be told
    found_after : (u : ℕ) (d : Config) → Reaches (Goes f.circuit) u (flat_start f) d → (o : Option ℕ)
        → moment_at f.layout d ≡ o → IsMomentAfter f u o
    found_after u d path (Some a) is =
        let at = Reaches-run f.circuit u (flat_start f) d path in
        at_moment a ((moments_same u d path a).0 (ap (moment_at f.layout) at ∙ is)) refl
    found_after u d path None is =
        let at = Reaches-run f.circuit u (flat_start f) d path in
        no_moment (λ a there. none_some a (sym is ∙ ap (moment_at f.layout) (sym at)
        ∙ (moments_same u d path a).1 there)) refl
      where
        none_some : (a : ℕ) → None ≡ Some a → ⊥
        none_some a h = cc

    -- and only that
    after_found : (u : ℕ) (d : Config) → Reaches (Goes f.circuit) u (flat_start f) d → (o : Option ℕ)
        → IsMomentAfter f u o → moment_at f.layout d ≡ o
    after_found u d path o (at_moment a there is) =
        let at = Reaches-run f.circuit u (flat_start f) d path in
        ap (moment_at f.layout) (sym at) ∙ (moments_same u d path a).1 there ∙ sym is
    after_found u d path o (no_moment none is) = by (moment_at f.layout d) refl ∙ sym is
      where
        by : (x : Option ℕ) → moment_at f.layout d ≡ x → x ≡ None
        by None h = refl
        by (Some a) h =
            let at = Reaches-run f.circuit u (flat_start f) d path in
            absurd (none a ((moments_same u d path a).0 (ap (moment_at f.layout) at ∙ h)))

    hit : (u : ℕ) (d : Config) → Reaches (Goes f.circuit) u (flat_start f) d → test d ≡ true → IsHit f breaks u
    hit u d path h =
        let at = Reaches-run f.circuit u (flat_start f) d path in
        record {
          moment = moment_at f.layout d;
          is_moment = found_after u d path (moment_at f.layout d) refl;
          holds = ap (λ (x : Config). some_holds x.place (moment_at f.layout d) breaks) at ∙ h;
        }

    no_hit : (u : ℕ) (d : Config) → Reaches (Goes f.circuit) u (flat_start f) d → test d ≡ false → IsHit f breaks u → ⊥
    no_hit u d path unmet is =
        let at = Reaches-run f.circuit u (flat_start f) d path in
        let found : moment_at f.layout d ≡ is.moment = after_found u d path is.moment is.is_moment in
        both_ways (test d) (ap (λ o. some_holds d.place o breaks) found
        ∙ ap (λ (x : Config). some_holds x.place is.moment breaks) (sym at) ∙ is.holds) unmet

    -- ---- forward

    next_hit : (c : Config) (e : ℕ) (d : Config) → Reaches (Goes f.circuit) c.steps (flat_start f) c
        → IsLeastHit f.circuit test (flat_start f) c e d → IsNextHit f breaks c.steps e d
    next_hit c e d on (is_hit t beyond within path met before) =
        at_next t beyond within path (hit t d path met)
        (λ u more less is. let cut = runs_split (Goes f.circuit) u (t - u) t (flat_start f) d (omega arith) path in
        no_hit u cut.0 cut.1 (before u cut.0 more less cut.1) is)
    next_hit c e d on (is_none at none) =
        no_next (at ∙ ap (λ x. run f.circuit x e) (sym (Reaches-run f.circuit c.steps (flat_start f) c on))
        ∙ sym (run_composes f.circuit (flat_start f) c.steps e (c.steps + e) refl))
        (λ u x more less path is. no_hit u x path (none u x more less path) is)

    -- ---- backward

    module _ (c : Config) (on : Reaches (Goes f.circuit) c.steps (flat_start f) c) where
      abbrev k : Circuit
      k = f.circuit

      abbrev c0 : Config
      c0 = flat_start f

      fresh_back : back k c0 1 ≡ c0
      unfolding back
      fresh_back = refl

      start_back : (n : ℕ) → back k c0 n ≡ c0
      start_back zero = back-zero k c0
      start_back (suc n) = back_composes k c0 n 1 (suc n) (omega arith) ∙ ap (λ x. back k x 1) (start_back n)
          ∙ fresh_back

      -- j steps back, where so many were made
      earlier : (j u : ℕ) → u + j ≡ c.steps → Reaches (Goes k) u c0 (back k c j) × (back k c j ≡ run k c0 u)
      earlier j u sum =
          let cut = runs_split (Goes k) u j c.steps c0 c (sym sum) on in
          let there : back k c j ≡ cut.0 = Reaches-back k flat.is_board.circuit j cut.0 c cut.2 in
          (subst (λ x. Reaches (Goes k) u c0 x) (sym there) cut.1, there ∙ sym (Reaches-run k u c0 cut.0 cut.1))

      -- more than were made
      all_back : (j : ℕ) → c.steps ≤ j → back k c j ≡ c0
      all_back j more =
          back_composes k c c.steps (j - c.steps) j (omega arith)
          ∙ ap (λ x. back k x (j - c.steps)) (Reaches-back k flat.is_board.circuit c.steps c0 c on)
          ∙ start_back (j - c.steps)

      back_is : (j : ℕ) → back k c j ≡ run k c0 (c.steps - j)
      back_is j = by (cases_lt c.steps j)
        where
          by : (c.steps < j) ⊎ (j ≤ c.steps) → back k c j ≡ run k c0 (c.steps - j)
          by (inl more) = let none : c.steps - j ≡ 0 = omega arith in all_back j (omega arith) ∙ sym (run-zero k c0)
              ∙ ap (run k c0) (sym none)
          by (inr few) = (earlier j (c.steps - j) (omega arith)).1

      -- no hit where the way back doesn't meet the test
      unmet : (j u : ℕ) → u + j ≡ c.steps → test (back k c j) ≡ false → IsHit f breaks u → ⊥
      unmet j u sum none is = no_hit u (back k c j) (earlier j u sum).0 none is

      last_hit : (e : ℕ) (d : Config) → IsStop test (back k c) e d → IsLastHit f breaks c.steps e d
      last_hit e d (at_end none is) =
          no_last (is ∙ back_is e) (λ u less more hit_is. unmet (c.steps - u) u (omega arith)
          (none (c.steps - u) (omega arith) (omega arith)) hit_is)
      last_hit e d (at_hit j some few met before is) = by (cases_lt c.steps j) (cases_lt 0 c.steps)
        where
          by : (c.steps < j) ⊎ (j ≤ c.steps) → (0 < c.steps) ⊎ (c.steps ≤ 0) → IsLastHit f breaks c.steps e d
          by (inl more) (inl made) =
              let there : back k c j ≡ back k c c.steps = all_back j (omega arith)
              ∙ sym (all_back c.steps (omega arith)) in
              absurd (both_ways (test (back k c j)) met (ap test there ∙ before c.steps (omega arith) more))
          by (inl more) (inr unmade) =
              let both : c.steps - j ≡ c.steps - e = omega arith in
              no_last (is ∙ back_is j ∙ ap (run k c0) both) (λ u less late hit_is. absurd
              (let z : u < 0 = omega arith in omega arith))
          by (inr within) any =
              let t : ℕ = c.steps - j in
              let sum : c.steps - j + j ≡ c.steps = omega arith in
              at_last (c.steps - j) (omega arith) (omega arith) (is ∙ back_is j)
              (hit (c.steps - j) (back k c j) (earlier j (c.steps - j) sum).0 met)
              (λ u more less hit_is. unmet (c.steps - u) u (omega arith)
              (before (c.steps - u) (omega arith) (omega arith)) hit_is)

pub goes-next : GoesStopAtNextHit
goes-next p word l f flat accepted t e s end text on plays =
    next_hit p word l f flat accepted s.breaks s.config e end.config on (goes_least t f e s end text on plays)

pub revs-last : RevsStopAtLastHit
revs-last p word l f flat accepted t e s end text on plays =
    last_hit p word l f flat accepted s.breaks s.config on e end.config plays.0

-- ---- steps taken back

pub steps-back : StepsTakenBackAreSteps
steps-back p word l f flat t r s x y z d text other path plays fewer =
    let k = f.circuit in
    let cut = runs_split (Goes k) r s (r + s) x.config d refl path in
    let all : run k x.config (r + s) ≡ d = Reaches-run k (r + s) x.config d path in
    let some : run k x.config r ≡ cut.0 = Reaches-run k r x.config cut.0 cut.1 in
    let home : back k d s ≡ cut.0 = Reaches-back k flat.is_board.circuit s cut.0 d cut.2 in
    let u : Session = plays.0 in
    let at_u : u ≡ session d x.breaks = plays.3.0 ∙ ap (λ (v : Config). session v x.breaks) all in
    let w : Session = plays.4.0 in
    let at_w : w ≡ session cut.0 x.breaks = plays.4.3.0 ∙ (λ i. session (back k (at_u i).config s) (at_u i).breaks)
    ∙ ap (λ (v : Config). session v x.breaks) home in
    let at_y : y ≡ session cut.0 x.breaks = plays.4.4.0 ∙ at_w in
    let at_v : fewer.0 ≡ session cut.0 x.breaks = fewer.3.0 ∙ ap (λ (v : Config). session v x.breaks) some in
    let at_z : z ≡ session cut.0 x.breaks = fewer.4.0 ∙ at_v in
    let first : plays.1 ≡ place_line d None = plays.3.1 ∙ ap (λ (v : Session). place_line v.config None) at_u in
    let second : plays.4.1 ≡ place_line cut.0 None = plays.4.3.1
    ∙ ap (λ (v : Session). place_line v.config None) at_w in
    let third : fewer.1 ≡ place_line cut.0 None = fewer.3.1 ∙ ap (λ (v : Session). place_line v.config None) at_v in
    let rest : plays.2 ≡ other = plays.4.5 ∙ (λ i. second i ++ plays.4.4.1 i)
    ∙ sym (fewer.5 ∙ (λ i. third i ++ fewer.4.1 i)) in
    (at_y ∙ sym at_z, plays.5 ∙ (λ i. first i ++ rest i))

-- ---- one text

pub one-text : BoardsShowOneText
one-text t m b text other reached may shows also =
    let f = may.flat in
    let a = shows may.word may.limits f may.is_for in
    let c = also may.word may.limits f may.is_for in
    let path : Reaches (Goes f.circuit) b.config.steps (flat_start f) b.config =
    subst (λ x. Reaches (Goes f.circuit) b.config.steps x b.config) may.is_for.start
    (subst (λ k. Reaches (Goes k) b.config.steps (origin b) b.config) (sym may.is_for.circuit) reached.reaches) in
    let same = one t.machine may.word may.limits f may.is_for.flat may.is_for.accepted b.config.steps b.config path a.0
    c.0 a.1 c.1 in
    a.2 ∙ ap (view_text t f) same ∙ sym c.2

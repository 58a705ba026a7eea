-- Scripts have one answer and one end, on the run from the start.
use Rattle.std.specs.Prelude.{◌≡◌, ℕ, ◌+◌, ◌-◌, ◌<◌, ◌≤◌, Bool, true, false, List, [], ◌∷◌, ◌++◌, Option, None, refl}
use Rattle.std.specs.Prelude.{◌⊎◌, codes}
use Rattle.std.proofs.Common.{zero, suc, arith, sym, ap, subst, ◌∙◌, inl, inr}
use Rattle.std.proofs.lemmas.Bool.{cases_lt, cases_order, cases_Bool, false≢true}
use Rattle.bn_lists.specs.Runs.{Reaches}
use Rattle.bn_circuits.specs.Circuits.{Circuit, Goes, IsCircuit, IsStuck}
use Rattle.bn_circuits.specs.Stepping.{run, back}
use Rattle.bn_circuits.specs.RunLaws.{Makes}
use Rattle.bn_lists.proofs.RunsLemmas.{runs_join}
use Rattle.bn_circuits.proofs.RunPartLemmas.{runs_split}
use Rattle.bn_circuits.proofs.RunLemmas.{Reaches-run, Reaches-back, run_composes, back-zero, back_composes, run_makes}
use Rattle.bn_circuits.proofs.RunLemmas.{run-stuck}
use Rattle.bn_circuits.specs.declared.config.Config.{Config}
use Rattle.bn_session.specs.Breakpoints.{breakpoint, without_break}
use Rattle.bn_session.specs.Plays.{Session, session, IsStop, at_hit, at_last, stops, label_that_holds, given}
use Rattle.bn_session.specs.Plays.{place_line, label_line, PlaysOne, Plays}
use Rattle.bn_session.specs.Laws.{PlaysAreOne, PlaysAreThere, PlacesAreOfTheRun, PlaysAgree, IsOnRun, IsLeastHit}
use Rattle.bn_session.specs.Laws.{is_hit, is_none, GoesStopAtLeast}
use Rattle.bn_session.specs.declared.command.Command.{Command}
use Rattle.bn_session.specs.declared.command.Command.TheVariants.{Step, Back, Go, Rev, BreakState, BreakElement}
use Rattle.bn_session.specs.declared.command.Command.TheVariants.{BreakLine, Drop, View}
use Rattle.bn_session.specs.declared.condition.Condition.TheVariants.{AtState, AtElement, AtLine}

-- ---- where a way stops

pub both_ways : (x : Bool) → x ≡ true → x ≡ false → ⊥
both_ways x met unmet = false≢true (sym unmet ∙ met)

module _ (test : Config → Bool) (far : ℕ → Config) where
  stop-one : (e : ℕ) (c d : Config) → IsStop test far e c → IsStop test far e d → c ≡ d
  stop-one e c d (at_hit j some few met before is) (at_hit i more less also earlier other) =
      is ∙ ap far (by (cases_order j i)) ∙ sym other
    where
      by : (j ≡ i) ⊎ ((j < i) ⊎ (i < j)) → j ≡ i
      by (inl same) = same
      by (inr (inl lower)) = absurd (both_ways (test (far j)) met (earlier j some lower))
      by (inr (inr higher)) = absurd (both_ways (test (far i)) also (before i more higher))
  stop-one e c d (at_hit j some few met before is) (at_last none other) =
      absurd (both_ways (test (far j)) met (none j some few))
  stop-one e c d (at_last none is) (at_hit i more less also earlier other) =
      absurd (both_ways (test (far i)) also (none i more less))
  stop-one e c d (at_last none is) (at_last never other) = is ∙ sym other

  -- one step more to look at
  longer : (e : ℕ) (d : Config) → IsStop test far e d → (d : Config) × IsStop test far (suc e) d
  longer e d (at_hit j some few met before is) = (d, at_hit j some (omega arith) met before is)
  longer e d (at_last none is) = by (cases_Bool (test (far (suc e))))
    where
      by : (test (far (suc e)) ≡ true) ⊎ (test (far (suc e)) ≡ false) → (d : Config) × IsStop test far (suc e) d
      by (inl met) = (
        far (suc e),
        at_hit (suc e) (omega arith) (omega arith) met (λ i some less. none i some (omega arith)) refl,
      )
      by (inr unmet) = (far (suc e), at_last (λ i some less. last i some less (cases_lt e i)) refl)
        where
          last : (i : ℕ) → 1 ≤ i → i ≤ suc e → (e < i) ⊎ (i ≤ e) → test (far i) ≡ false
          last i some less (inl beyond) = let is : suc e ≡ i = omega arith in subst (λ x. test (far x) ≡ false) is unmet
          last i some less (inr inside) = none i some inside

  stop-there : (e : ℕ) → (d : Config) × IsStop test far e d
  stop-there zero = (far zero, at_last (λ i some few. absurd (omega arith)) refl)
  stop-there (suc e) = let before = stop-there e in longer e before.0 before.1

-- two sessions with the same parts are one
same_session : (s t : Session) → s.config ≡ t.config → s.breaks ≡ t.breaks → s ≡ t
same_session s t config breaks = λ i. session (config i) (breaks i)

module _ (k : Circuit) (moment : Config → Option ℕ) (shows : Config → List ℕ → Type 0) where
  -- ---- one answer

  module _ (one_text : (c : Config) (text other : List ℕ) → shows c text → shows c other → text ≡ other) where
    one-by : (x : Command) (s t u : Session) (text other : List ℕ) → PlaysOne k moment shows x s t text
        → PlaysOne k moment shows x s u other → (t ≡ u) × (text ≡ other)
    one-by (Step e) s t u text other p q = let same = p.0 ∙ sym q.0 in
        (same, p.1 ∙ ap (λ (z : Session). place_line z.config None) same ∙ sym q.1)
    one-by (Back e) s t u text other p q = let same = p.0 ∙ sym q.0 in
        (same, p.1 ∙ ap (λ (z : Session). place_line z.config None) same ∙ sym q.1)
    one-by (Go e) s t u text other p q =
        let at = stop-one (stops moment s.breaks) (run k s.config) e t.config u.config p.0 q.0 in (
          same_session t u at (p.1 ∙ sym q.1),
          p.2 ∙ ap (λ (z : Config). place_line z (label_that_holds moment s.breaks s.config z)) at ∙ sym q.2,
        )
    one-by (Rev e) s t u text other p q =
        let at = stop-one (stops moment s.breaks) (back k s.config) e t.config u.config p.0 q.0 in (
          same_session t u at (p.1 ∙ sym q.1),
          p.2 ∙ ap (λ (z : Config). place_line z (label_that_holds moment s.breaks s.config z)) at ∙ sym q.2,
        )
    one-by (BreakState label a) s t u text other p q = (p.0 ∙ sym q.0, p.1 ∙ sym q.1)
    one-by (BreakElement label e) s t u text other p q = (p.0 ∙ sym q.0, p.1 ∙ sym q.1)
    one-by (BreakLine label e l) s t u text other p q = (p.0 ∙ sym q.0, p.1 ∙ sym q.1)
    one-by (Drop label) s t u text other p q = (p.0 ∙ sym q.0, p.1 ∙ sym q.1)
    one-by View s t u text other p q = (p.0 ∙ sym q.0, one_text s.config text other p.1 q.1)

    pub one-all : (xs : List Command) (s t u : Session) (text other : List ℕ) → Plays k moment shows xs s t text
        → Plays k moment shows xs s u other → (t ≡ u) × (text ≡ other)
    one-all [] s t u text other p q = (p.0 ∙ sym q.0, p.1 ∙ sym q.1)
    one-all (x ∷ xs) s t u text other p q =
        let here = one-by x s p.0 q.0 p.1 q.1 p.3 q.3 in
        let moved : Plays k moment shows xs q.0 t p.2 = subst (λ z. Plays k moment shows xs z t p.2) here.0 p.4 in
        let rest = one-all xs q.0 t u p.2 q.2 moved q.4 in
        (rest.0, p.5 ∙ (λ i. here.1 i ++ rest.1 i) ∙ sym q.5)

  -- ---- some answer

  module _ (Fits : Session → Type 0) (keeps : (x : Command) (s t : Session) (text : List ℕ) → Fits s
      → PlaysOne k moment shows x s t text → Fits t) (views : (s : Session) → Fits s
      → (text : List ℕ) × shows s.config text) where
    there-by : (x : Command) (s : Session) → Fits s → (t : Session) × (text : List ℕ)
        × PlaysOne k moment shows x s t text
    there-by (Step e) s fits = (session (run k s.config e) s.breaks, place_line (run k s.config e) None, (refl, refl))
    there-by (Back e) s fits = (session (back k s.config e) s.breaks, place_line (back k s.config e) None, (refl, refl))
    there-by (Go e) s fits =
        let stop = stop-there (stops moment s.breaks) (run k s.config) e in (
          session stop.0 s.breaks,
          place_line stop.0 (label_that_holds moment s.breaks s.config stop.0),
          (stop.1, refl, refl),
        )
    there-by (Rev e) s fits =
        let stop = stop-there (stops moment s.breaks) (back k s.config) e in (
          session stop.0 s.breaks,
          place_line stop.0 (label_that_holds moment s.breaks s.config stop.0),
          (stop.1, refl, refl),
        )
    there-by (BreakState label a) s fits = (
      session s.config (s.breaks ++ breakpoint label (AtState a) ∷ []),
      label_line (codes "break ") label,
      (refl, refl),
    )
    there-by (BreakElement label e) s fits = (
      session s.config (s.breaks ++ breakpoint label (AtElement e) ∷ []),
      label_line (codes "break ") label,
      (refl, refl),
    )
    there-by (BreakLine label e l) s fits = (
      session s.config (s.breaks ++ breakpoint label (AtLine e l) ∷ []),
      label_line (codes "break ") label,
      (refl, refl),
    )
    there-by (Drop label) s fits = (
      session s.config (without_break label s.breaks),
      label_line (codes "drop ") label,
      (refl, refl),
    )
    there-by View s fits = let view = views s fits in (s, view.0, (refl, view.1))

    pub there-all : (xs : List Command) (s : Session) → Fits s
        → (t : Session) × (text : List ℕ) × Plays k moment shows xs s t text
    there-all [] s fits = (s, [], (refl, refl))
    there-all (x ∷ xs) s fits =
        let here = there-by x s fits in
        let rest = there-all xs here.0 (keeps x s here.0 here.1 fits here.2) in
        (rest.0, here.1 ++ rest.1, (here.0, here.1, rest.1, here.2, rest.2, refl))

  -- ---- on the run

  back-fresh : (c : Config) → c.steps ≡ 0 → back k c 1 ≡ c
  unfolding back
  back-fresh c h = rw h refl

  module _ (c0 : Config) (fresh : c0.steps ≡ 0) where
    counts : (n : ℕ) (c d : Config) → Reaches (Goes k) n c d → d.steps ≡ c.steps + n
    counts zero c d path = let same : c.steps ≡ d.steps = ap (λ (x : Config). x.steps) path in omega arith
    counts (suc n) c d path = let here = path.1.steps in let rest = counts n path.0 d path.2 in omega arith

    -- a configuration that n steps reach is on the run
    settled : (n : ℕ) (d : Config) → Reaches (Goes k) n c0 d → Reaches (Goes k) d.steps c0 d
    settled n d path =
        let long = counts n c0 d path in
        let same : n ≡ d.steps = omega arith in
        subst (λ m. Reaches (Goes k) m c0 d) same path

    run_on : (c : Config) (n : ℕ) → Reaches (Goes k) c.steps c0 c → Reaches (Goes k) (run k c n).steps c0 (run k c n)
    run_on c n path =
        let makes = run_makes k c n in
        settled (c.steps + makes.made) (run k c n) (runs_join (Goes k) (c.steps + makes.made) c.steps makes.made c0 c
        (run k c n) refl path makes.reaches)

    -- from the start no step leads back
    start-back : (n : ℕ) → back k c0 n ≡ c0
    start-back zero = back-zero k c0
    start-back (suc n) = back_composes k c0 n 1 (suc n) (omega arith) ∙ ap (λ x. back k x 1) (start-back n)
        ∙ back-fresh c0 fresh

    module _ (circuit : IsCircuit k) where
      back_on : (c : Config) (n : ℕ) → Reaches (Goes k) c.steps c0 c
          → Reaches (Goes k) (back k c n).steps c0 (back k c n)
      back_on c n path = by (cases_lt c.steps n)
        where
          by : (c.steps < n) ⊎ (n ≤ c.steps) → Reaches (Goes k) (back k c n).steps c0 (back k c n)
          by (inl more) =
              let there : back k c n ≡ c0 = back_composes k c c.steps (n - c.steps) n (omega arith)
              ∙ ap (λ x. back k x (n - c.steps)) (Reaches-back k circuit c.steps c0 c path)
              ∙ start-back (n - c.steps) in
              settled 0 (back k c n) (sym there)
          by (inr few) =
              let cut = runs_split (Goes k) (c.steps - n) n c.steps c0 c (omega arith) path in
              let there : cut.0 ≡ back k c n = sym (Reaches-back k circuit n cut.0 c cut.2) in
              settled (c.steps - n) (back k c n) (subst (λ x. Reaches (Goes k) (c.steps - n) c0 x) there cut.1)

      stop_on : (test : Config → Bool) (far : ℕ → Config) (e : ℕ) (d : Config)
          → ((j : ℕ) → Reaches (Goes k) (far j).steps c0 (far j)) → IsStop test far e d → Reaches (Goes k) d.steps c0 d
      stop_on test far e d each (at_hit j some few met before is) =
          subst (λ (x : Config). Reaches (Goes k) x.steps c0 x) (sym is) (each j)
      stop_on test far e d each (at_last never is) = subst (λ (x : Config). Reaches (Goes k) x.steps c0 x) (sym is)
          (each e)

      pub on-by : (x : Command) (s t : Session) (text : List ℕ) → IsOnRun k c0 s → PlaysOne k moment shows x s t text
          → IsOnRun k c0 t
      on-by (Step e) s t text on p = subst (IsOnRun k c0) (sym p.0) (run_on s.config e on)
      on-by (Back e) s t text on p = subst (IsOnRun k c0) (sym p.0) (back_on s.config e on)
      on-by (Go e) s t text on p = stop_on (stops moment s.breaks) (run k s.config) e t.config
          (λ j. run_on s.config j on) p.0
      on-by (Rev e) s t text on p = stop_on (stops moment s.breaks) (back k s.config) e t.config
          (λ j. back_on s.config j on) p.0
      on-by (BreakState label a) s t text on p = subst (IsOnRun k c0) (sym p.0) on
      on-by (BreakElement label e) s t text on p = subst (IsOnRun k c0) (sym p.0) on
      on-by (BreakLine label e l) s t text on p = subst (IsOnRun k c0) (sym p.0) on
      on-by (Drop label) s t text on p = subst (IsOnRun k c0) (sym p.0) on
      on-by View s t text on p = subst (IsOnRun k c0) (sym p.0) on

      pub on-all : (xs : List Command) (s t : Session) (text : List ℕ) → IsOnRun k c0 s
          → Plays k moment shows xs s t text → IsOnRun k c0 t
      on-all [] s t text on p = subst (IsOnRun k c0) (sym p.0) on
      on-all (x ∷ xs) s t text on p = on-all xs p.0 t p.2 (on-by x s p.0 p.1 on p.3) p.4

      -- ---- other views

      module _ (others : Config → List ℕ → Type 0) (follow : (c : Config) (text : List ℕ)
          → Reaches (Goes k) c.steps c0 c → shows c text → others c text) where
        follow-by : (x : Command) (s t : Session) (text : List ℕ) → IsOnRun k c0 s → PlaysOne k moment shows x s t text
            → PlaysOne k moment others x s t text
        follow-by (Step e) s t text on p = p
        follow-by (Back e) s t text on p = p
        follow-by (Go e) s t text on p = p
        follow-by (Rev e) s t text on p = p
        follow-by (BreakState label a) s t text on p = p
        follow-by (BreakElement label e) s t text on p = p
        follow-by (BreakLine label e l) s t text on p = p
        follow-by (Drop label) s t text on p = p
        follow-by View s t text on p = (p.0, follow s.config text on p.1)

        pub follow-all : (xs : List Command) (s t : Session) (text : List ℕ) → IsOnRun k c0 s
            → Plays k moment shows xs s t text → Plays k moment others xs s t text
        follow-all [] s t text on p = p
        follow-all (x ∷ xs) s t text on p = (
          p.0,
          p.1,
          p.2,
          follow-by x s p.0 p.1 on p.3,
          follow-all xs p.0 t p.2 (on-by x s p.0 p.1 on p.3) p.4,
          p.5,
        )

    -- ---- the least later hit

    module _ (test : Config → Bool) (c : Config) (on : Reaches (Goes k) c.steps c0 c) where
      -- what u steps from the start reach, beyond c, is so many steps on from c
      later : (u : ℕ) (x : Config) → c.steps < u → Reaches (Goes k) u c0 x → x ≡ run k c (u - c.steps)
      later u x beyond path =
          sym (Reaches-run k u c0 x path) ∙ run_composes k c0 c.steps (u - c.steps) u (omega arith)
          ∙ ap (λ y. run k y (u - c.steps)) (Reaches-run k c.steps c0 c on)

      -- beyond a configuration from which no step leads on there is none
      no_later : (u : ℕ) (x : Config) → c.steps < u → Reaches (Goes k) u c0 x → IsStuck k c → ⊥
      no_later u x beyond path stuck =
          let cut = runs_split (Goes k) c.steps (suc (u - c.steps - 1)) u c0 x (omega arith) path in
          let same : cut.0 ≡ c = sym (Reaches-run k c.steps c0 cut.0 cut.1) ∙ Reaches-run k c.steps c0 c on in
          let step = cut.2 in
          stuck step.0 (subst (λ y. Goes k y step.0) same step.1)

      least : (e : ℕ) (d : Config) → IsStop test (run k c) e d → IsLeastHit k test c0 c e d
      least e d (at_last never is) =
          is_none is (λ u x beyond within path. ap test (later u x beyond path)
          ∙ never (u - c.steps) (omega arith) (omega arith))
      least e d (at_hit j some few met before is) = by (run_makes k c j)
        where
          reached : (m : ℕ) → Reaches (Goes k) m c (run k c j) → Reaches (Goes k) (c.steps + m) c0 d
          reached m path = subst (λ x. Reaches (Goes k) (c.steps + m) c0 x) (sym is)
              (runs_join (Goes k) (c.steps + m) c.steps m c0 c (run k c j) refl on path)

          full : (m : Makes k c j (run k c j)) → m.made ≡ j → IsLeastHit k test c0 c e d
          full m all =
              let path : Reaches (Goes k) j c (run k c j) = subst (λ n. Reaches (Goes k) n c (run k c j)) all m.reaches
              in
              is_hit (c.steps + j) (omega arith) (omega arith) (reached j path) (ap test is ∙ met)
              (λ u x beyond less way. ap test (later u x beyond way)
              ∙ before (u - c.steps) (omega arith) (omega arith))

          still : (m : Makes k c j (run k c j)) → m.made ≡ 0 → m.made < j → IsLeastHit k test c0 c e d
          still m unmet short =
              let same : c ≡ run k c j = subst (λ n. Reaches (Goes k) n c (run k c j)) unmet m.reaches in
              let stuck : IsStuck k c = subst (IsStuck k) (sym same) (m.ended short) in
              is_none (is ∙ sym same ∙ sym (run-stuck k c stuck e))
              (λ u x beyond within path. absurd (no_later u x beyond path stuck))

          early : (m : Makes k c j (run k c j)) → 0 < m.made → m.made < j → IsLeastHit k test c0 c e d
          early m more short =
              let there : run k c m.made ≡ run k c j = Reaches-run k m.made c (run k c j) m.reaches in
              absurd (false≢true (sym (before m.made (omega arith) short) ∙ ap test there ∙ met))

          by : Makes k c j (run k c j) → IsLeastHit k test c0 c e d
          by m = cases (cases_lt m.made j) (cases_lt 0 m.made)
            where
              cases : (m.made < j) ⊎ (j ≤ m.made) → (0 < m.made) ⊎ (m.made ≤ 0) → IsLeastHit k test c0 c e d
              cases (inr whole) any = full m (let w = m.within in omega arith)
              cases (inl short) (inl more) = early m more short
              cases (inl short) (inr unmet) = still m (omega arith) short

pub plays-one : PlaysAreOne
plays-one k moment shows xs s t u text other p q = one-all k moment (given shows)
    (λ c first second is also. is ∙ sym also) xs s t u text other p q

pub plays-there : PlaysAreThere
plays-there k moment shows xs s = there-all k moment (given shows) (λ z. Unit {0}) (λ x z t text fits p. tt)
    (λ z fits. (shows z.config, refl)) xs s tt

pub places-run : PlacesAreOfTheRun
places-run k moment shows c0 circuit fresh xs s t text on p =
    on-all k moment (given shows) c0 fresh circuit xs s t text on p

pub plays-agree : PlaysAgree
plays-agree k moment shows others c0 circuit fresh same xs s t text on p =
    follow-all k moment (given shows) c0 fresh circuit (given others) (λ c shown path is. is ∙ same c path) xs s t text
    on p

pub goes-least : GoesStopAtLeast
goes-least k moment shows c0 e s t text fresh on p = least k moment (given shows) c0 fresh (stops moment s.breaks)
    s.config on e t.config p.0

-- Scripts on circuits that run alike.
use Rattle.std.specs.Prelude.{◌≡◌, ℕ, Bool, true, false, List, [], ◌∷◌, Option}
use Rattle.std.proofs.Common.{ap, subst, ◌∙◌}
use Rattle.bn_circuits.specs.Alike.{AreAlike}
use Rattle.bn_circuits.specs.Circuits.{Circuit}
use Rattle.bn_circuits.specs.Stepping.{run, back}
use Rattle.bn_circuits.specs.declared.config.Config.{Config}
use Rattle.bn_circuits.proofs.AlikeLemmas.{run-alike, back-alike}
use Rattle.bn_session.specs.Plays.{Session, session, IsStop, at_hit, at_last, stops, PlaysOne, Plays}
use Rattle.bn_session.specs.declared.command.Command.{Command}
use Rattle.bn_session.specs.declared.command.Command.TheVariants.{Step, Back, Go, Rev, BreakState, BreakElement}
use Rattle.bn_session.specs.declared.command.Command.TheVariants.{BreakLine, Drop, View}

-- two ways that are alike stop alike
stop_as : (test : Config → Bool) (far near : ℕ → Config) (e : ℕ) (d : Config) → ((j : ℕ) → far j ≡ near j)
    → IsStop test far e d → IsStop test near e d
stop_as test far near e d same (at_hit j some few met before is) =
    at_hit j some few (subst (λ (c : Config). test c ≡ true) (same j) met)
    (λ i one less. subst (λ (c : Config). test c ≡ false) (same i) (before i one less)) (is ∙ same j)
stop_as test far near e d same (at_last none is) = at_last (λ i one few. subst (λ (c : Config). test c ≡ false) (same i)
    (none i one few)) (is ∙ same e)

module _ (k l : Circuit) (alike : AreAlike k l) (moment : Config → Option ℕ) (shows : Config → List ℕ → Type 0) where
  one_alike : (x : Command) (s t : Session) (text : List ℕ) → PlaysOne k moment shows x s t text
      → PlaysOne l moment shows x s t text
  one_alike (Step e) s t text p = (p.0 ∙ ap (λ (c : Config). session c s.breaks) (run-alike k l alike s.config e), p.1)
  one_alike (Back e) s t text p = (p.0 ∙ ap (λ (c : Config). session c s.breaks) (back-alike k l alike s.config e), p.1)
  one_alike (Go e) s t text p = (
    stop_as (stops moment s.breaks) (run k s.config) (run l s.config) e t.config
        (λ j. run-alike k l alike s.config j) p.0,
    p.1,
    p.2,
  )
  one_alike (Rev e) s t text p = (
    stop_as (stops moment s.breaks) (back k s.config) (back l s.config) e t.config
        (λ j. back-alike k l alike s.config j) p.0,
    p.1,
    p.2,
  )
  one_alike (BreakState label a) s t text p = p
  one_alike (BreakElement label e) s t text p = p
  one_alike (BreakLine label e l) s t text p = p
  one_alike (Drop label) s t text p = p
  one_alike View s t text p = p

  pub plays_alike : (xs : List Command) (s t : Session) (text : List ℕ) → Plays k moment shows xs s t text
      → Plays l moment shows xs s t text
  plays_alike [] s t text p = p
  plays_alike (x ∷ xs) s t text p = (p.0, p.1, p.2, one_alike x s p.0 p.1 p.3, plays_alike xs p.0 t p.2 p.4, p.5)

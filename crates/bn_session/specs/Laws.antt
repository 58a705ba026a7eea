-- What holds of all scripts, and how they are played.
use Rattle.std.specs.Prelude.{◌≡◌, ℕ, ◌+◌, ◌<◌, ◌≤◌, Bool, true, false, List, Option, ◌⊎◌}
use Rattle.bn_lists.specs.Runs.{Reaches}
use Rattle.bn_circuits.specs.Circuits.{Circuit, Goes, IsCircuit}
use Rattle.bn_circuits.specs.Stepping.{run}
use Rattle.bn_circuits.specs.declared.config.Config.{Config}
use Rattle.bn_quad.specs.Names.{AreApart}
use Rattle.bn_session.specs.Scripts.{Names, state_names, IsScript, IsFirstScriptFault, ScriptFault}
use Rattle.bn_session.specs.Plays.{Session, stops, given, PlaysOne, Plays}
use Rattle.bn_session.specs.declared.command.Command.{Command}
use Rattle.bn_session.specs.declared.command.Command.TheVariants.{Go}

-- no two states have one name
abbrev pub AreNamesApart : Names → Type 0
AreNamesApart names = AreApart (state_names names)

-- bytes are a script of at most one list of commands
abbrev pub ScriptsAreOne : Type 0
ScriptsAreOne =
    (names : Names) (bytes : List ℕ) (xs ys : List Command) → AreNamesApart names → IsScript names bytes xs
    → IsScript names bytes ys → xs ≡ ys

-- bytes with a first error are no script
abbrev pub FaultyScriptsAreNone : Type 0
FaultyScriptsAreNone =
    (names : Names) (bytes : List ℕ) (line : ℕ) (fault : ScriptFault) (xs : List Command) → AreNamesApart names
    → IsFirstScriptFault names bytes line fault → IsScript names bytes xs → ⊥

-- there is at most one first error
abbrev pub FirstFaultsAreOne : Type 0
FirstFaultsAreOne =
    (names : Names) (bytes : List ℕ) (line number : ℕ) (fault other : ScriptFault) → AreNamesApart names
    → IsFirstScriptFault names bytes line fault → IsFirstScriptFault names bytes number other
    → (line ≡ number) × (fault ≡ other)

-- bytes are a script, or have a first error
abbrev pub ScriptsReadOrFault : Type 0
ScriptsReadOrFault =
    (names : Names) (bytes : List ℕ)
    → ((xs : List Command) × IsScript names bytes xs)
    ⊎ ((line : ℕ) × (fault : ScriptFault) × IsFirstScriptFault names bytes line fault)

-- ---- how scripts are played

-- a script has at most one answer and one final session
abbrev pub PlaysAreOne : Type 0
PlaysAreOne =
    (k : Circuit) (moment : Config → Option ℕ) (shows : Config → List ℕ) (xs : List Command) (s t u : Session)
    (text other : List ℕ) → Plays k moment (given shows) xs s t text → Plays k moment (given shows) xs s u other
    → (t ≡ u) × (text ≡ other)

-- a script has an answer and a final session
abbrev pub PlaysAreThere : Type 0
PlaysAreThere =
    (k : Circuit) (moment : Config → Option ℕ) (shows : Config → List ℕ) (xs : List Command) (s : Session)
    → (t : Session) × (text : List ℕ) × Plays k moment (given shows) xs s t text

-- the session is at a configuration of the run from this one
abbrev pub IsOnRun : Circuit → Config → Session → Type 0
IsOnRun k c0 s = Reaches (Goes k) s.config.steps c0 s.config

-- every place that a script reports is that of the run from the start, after the number of steps in its line
abbrev pub PlacesAreOfTheRun : Type 0
PlacesAreOfTheRun =
    (k : Circuit) (moment : Config → Option ℕ) (shows : Config → List ℕ) (c0 : Config) → IsCircuit k
    → c0.steps ≡ 0 → (xs : List Command) (s t : Session) (text : List ℕ) → IsOnRun k c0 s
    → Plays k moment (given shows) xs s t text → IsOnRun k c0 t

-- views that show the same on the run from the start give the same answer
abbrev pub PlaysAgree : Type 0
PlaysAgree =
    (k : Circuit) (moment : Config → Option ℕ) (shows others : Config → List ℕ) (c0 : Config) → IsCircuit k
    → c0.steps ≡ 0 → ((c : Config) → Reaches (Goes k) c.steps c0 c → shows c ≡ others c)
    → (xs : List Command) (s t : Session) (text : List ℕ) → IsOnRun k c0 s
    → Plays k moment (given shows) xs s t text → Plays k moment (given others) xs s t text

-- Within e steps after c the run from c0 first satisfies the test at d; or it does not satisfy it, and d is the
-- configuration after the e steps.
pub data IsLeastHit (k : Circuit) (test : Config → Bool) (c0 c : Config) (e : ℕ) (d : Config) : Type 0 where
  is_hit : (t : ℕ) → c.steps < t → t ≤ c.steps + e → Reaches (Goes k) t c0 d → test d ≡ true
      → ((u : ℕ) (x : Config) → c.steps < u → u < t → Reaches (Goes k) u c0 x → test x ≡ false)
      → IsLeastHit k test c0 c e d
  is_none : d ≡ run k c e
      → ((u : ℕ) (x : Config) → c.steps < u → u ≤ c.steps + e → Reaches (Goes k) u c0 x → test x ≡ false)
      → IsLeastHit k test c0 c e d

-- `go` stops at the least later step, within its number, at which a condition holds; if there is none, at the end of
-- its steps
abbrev pub GoesStopAtLeast : Type 0
GoesStopAtLeast =
    (k : Circuit) (moment : Config → Option ℕ) (shows : Config → List ℕ) (c0 : Config) (e : ℕ) (s t : Session)
    (text : List ℕ) → c0.steps ≡ 0 → IsOnRun k c0 s → PlaysOne k moment (given shows) (Go e) s t text
    → IsLeastHit k (stops moment s.breaks) c0 s.config e t.config

-- ---- the laws

pub record Laws : Type 0 where
  -- Bytes are a script of exactly one list of commands, or have exactly one first error, and never both.
  pub scripts_have_one_reading : ScriptsAreOne × FaultyScriptsAreNone × FirstFaultsAreOne × ScriptsReadOrFault
  -- A script has exactly one answer and one final session.
  pub plays_have_one_answer : PlaysAreOne × PlaysAreThere
  -- A script stays on the run from the start: each place is that of the number of steps in its line, and `go` stops at
  -- the least later step at which a breakpoint holds. Views that agree on this run therefore give the same answers.
  pub plays_stay_on_the_run : PlacesAreOfTheRun × GoesStopAtLeast × PlaysAgree

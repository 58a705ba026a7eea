-- How a script is played on a circuit, given which state a configuration is the moment of, and what a view of a
-- configuration may show (this project's own definition).
use Rattle.std.specs.Prelude.{◌≡◌, ℕ, ◌<◌, ◌≤◌, ◌==◌, Bool, true, false, List, [], ◌∷◌, ◌++◌, Option, Some, None, codes}
use Rattle.std.specs.Prelude.{decimal, if◌then◌else◌}
use Rattle.bn_circuits.specs.Circuits.{Circuit}
use Rattle.bn_circuits.specs.Stepping.{run, back}
use Rattle.bn_circuits.specs.declared.config.Config.{Config}
use Rattle.bn_netlist_laws.specs.Sentences.{place_text}
use Rattle.bn_session.specs.Breakpoints.{Breakpoint, breakpoint, first_label, some_holds, without_break}
use Rattle.bn_session.specs.declared.command.Command.{Command}
use Rattle.bn_session.specs.declared.command.Command.TheVariants.{Step, Back, Go, Rev, BreakState, BreakElement}
use Rattle.bn_session.specs.declared.command.Command.TheVariants.{BreakLine, Drop, View}
use Rattle.bn_session.specs.declared.condition.Condition.TheVariants.{AtState, AtElement, AtLine}

-- a session between two commands: a configuration, and the breakpoints in the order in which they were set
pub record Session : Type 0 where
  pub config : Config
  pub breaks : List Breakpoint

abbrev pub session : Config → List Breakpoint → Session
session config breaks = record { config = config; breaks = breaks }

-- The end of a walk that a test watches, where `far j` is the configuration j steps on: the least j from 1 to e at
-- which the test holds, or e if there is none.
pub data IsStop (test : Config → Bool) (far : ℕ → Config) (e : ℕ) (d : Config) : Type 0 where
  at_hit : (j : ℕ) → 1 ≤ j → j ≤ e → test (far j) ≡ true → ((i : ℕ) → 1 ≤ i → i < j → test (far i) ≡ false)
      → d ≡ far j → IsStop test far e d
  at_last : ((i : ℕ) → 1 ≤ i → i ≤ e → test (far i) ≡ false) → d ≡ far e → IsStop test far e d

-- whether a breakpoint holds at a configuration
abbrev pub stops : (Config → Option ℕ) → List Breakpoint → Config → Bool
stops moment breaks c = some_holds c.place (moment c) breaks

-- the label that is reported at the end d of a walk from c: that of the first breakpoint that holds there, and none if
-- no step was made
abbrev pub label_that_holds : (Config → Option ℕ) → List Breakpoint → Config → Config → Option (List ℕ)
label_that_holds moment breaks c d = if d.steps == c.steps then None else first_label d.place (moment d) breaks

-- ---- lines

-- a label is written after the place
abbrev pub named_text : Option (List ℕ) → List ℕ
named_text None = []
named_text (Some label) = codes " break " ++ label

-- the place line of a configuration, with its byte 10
abbrev pub place_line : Config → Option (List ℕ) → List ℕ
place_line c label = place_text c.place ++ (codes " steps " ++ (decimal c.steps ++ (named_text label ++ 10 ∷ [])))

-- a word and a label, with byte 10
abbrev pub label_line : List ℕ → List ℕ → List ℕ
label_line word label = word ++ (label ++ 10 ∷ [])

-- ---- commands

-- a view shows what this function gives
abbrev pub given : (Config → List ℕ) → Config → List ℕ → Type 0
given shows c text = text ≡ shows c

-- The command leads from session s to session t, and this is its answer.
abbrev pub PlaysOne :
    Circuit → (Config → Option ℕ) → (Config → List ℕ → Type 0) → Command → Session → Session → List ℕ → Type 0
PlaysOne k moment shows (Step e) s t text =
    (t ≡ session (run k s.config e) s.breaks) × (text ≡ place_line t.config None)
PlaysOne k moment shows (Back e) s t text =
    (t ≡ session (back k s.config e) s.breaks) × (text ≡ place_line t.config None)
PlaysOne k moment shows (Go e) s t text =
    IsStop (stops moment s.breaks) (run k s.config) e t.config × (t.breaks ≡ s.breaks)
    × (text ≡ place_line t.config (label_that_holds moment s.breaks s.config t.config))
PlaysOne k moment shows (Rev e) s t text =
    IsStop (stops moment s.breaks) (back k s.config) e t.config × (t.breaks ≡ s.breaks)
    × (text ≡ place_line t.config (label_that_holds moment s.breaks s.config t.config))
PlaysOne k moment shows (BreakState label state) s t text =
    (t ≡ session s.config (s.breaks ++ breakpoint label (AtState state) ∷ []))
    × (text ≡ label_line (codes "break ") label)
PlaysOne k moment shows (BreakElement label e) s t text =
    (t ≡ session s.config (s.breaks ++ breakpoint label (AtElement e) ∷ []))
    × (text ≡ label_line (codes "break ") label)
PlaysOne k moment shows (BreakLine label e l) s t text =
    (t ≡ session s.config (s.breaks ++ breakpoint label (AtLine e l) ∷ []))
    × (text ≡ label_line (codes "break ") label)
PlaysOne k moment shows (Drop label) s t text =
    (t ≡ session s.config (without_break label s.breaks)) × (text ≡ label_line (codes "drop ") label)
PlaysOne k moment shows View s t text = (t ≡ s) × shows s.config text

-- The script leads from session s to session t, one command after another, and this is its answer.
abbrev pub Plays :
    Circuit → (Config → Option ℕ) → (Config → List ℕ → Type 0) → List Command → Session → Session → List ℕ → Type 0
Plays k moment shows [] s t text = (t ≡ s) × (text ≡ [])
Plays k moment shows (x ∷ xs) s t text =
    (u : Session) × (first : List ℕ) × (rest : List ℕ) × PlaysOne k moment shows x s u first
    × Plays k moment shows xs u t rest × (text ≡ first ++ rest)

-- The script was left within a command: the configuration is that after this command, and the answer has the lines of
-- the commands before it and a prefix of its own.
pub record IsLeftWithin (k : Circuit) (moment : Config → Option ℕ) (shows : Config → List ℕ → Type 0)
    (xs : List Command) (s : Session) (c : Config) (text : List ℕ) : Type 0 where
  pub before : List Command
  pub command : Command
  pub behind : List Command
  pub script : xs ≡ before ++ command ∷ behind
  pub middle : Session
  pub lines : List ℕ
  pub played : Plays k moment shows before s middle lines
  pub end : Session
  pub front : List ℕ
  pub rest : List ℕ
  pub plays : PlaysOne k moment shows command middle end (front ++ rest)
  pub config : c ≡ end.config
  pub written : text ≡ lines ++ front

-- The answer of the command `run` with the automatic window: round by round, the signal runs on the circuit of the
-- machine and the word in a window; if it leaves by an end of a tape, the next window has this end doubled (the
-- circuit, the windows and the text are this project's own profile). The circuits alone define it; the machine's own
-- run is no part of it.
use Rattle.std.specs.Prelude.{◌≡◌, ◌≢◌, ℕ, zero, suc, ◌<◌, ◌≤◌, List, [], ◌∷◌, ◌++◌, length, None, codes, decimal}
use Rattle.bn_base.specs.declared.limits.TheConstants.{MOST_COUNT}
use Rattle.bn_circuits.specs.Stepping.{places}
use Rattle.bn_circuits.specs.declared.place.Place.{Place}
use Rattle.bn_machine.specs.Machine.{Program}
use Rattle.bn_machine.specs.Outcome.{Limits}
use Rattle.bn_machine.specs.declared.quint.Side.{Side}
use Rattle.bn_circuits.specs.declared.net.TheConstants.{MOST_ELEMENTS}
use Rattle.bn_table.specs.Rows.{Named}
use Rattle.bn_boards.specs.declared.exit.Exit.TheVariants as exits
use Rattle.bn_boards.specs.Layouts.{IsNamedExit}
use Rattle.bn_boards.specs.Flats.{Flat, flat_start}
use Rattle.bn_reply.specs.Answering.{IsSettled}
use Rattle.bn_reply.specs.Lines.{line}
use Rattle.bn_reply.specs.TableReply.{StandardReplies, WordReplies}
use Rattle.bn_reply.specs.declared.status.Status.{Status}
use Rattle.bn_reply.specs.declared.status.Status.TheVariants as statuses
use Rattle.bn_reply_relations.specs.Windows.{ComesTo, CountsElements, large_line}
use Rattle.bn_reply.specs.Lines.{long_line}
use Rattle.bn_reply_relations.specs.RunReply.{TellsRun, budget, reached}
use Rattle.bn_network_assembly.specs.Widening.{first_window, widened}

-- the line of the automatic window
abbrev pub found_line : Limits → List ℕ
found_line w = line (codes "window " ∷ decimal w.left ∷ codes " " ∷ decimal w.right ∷ codes " " ∷ decimal w.steps
    ∷ codes " " ∷ decimal w.output ∷ [])

-- One round: on the circuit in w the signal leaves by this end of a tape, which v has doubled. The place after each
-- step is reported to a watch.
pub record IsRound (p : Program) (symbols : List ℕ) (w v : Limits) (told : List Place) : Type 0 where
  pub flat : Flat
  pub comes : ComesTo p w symbols flat
  pub tape : ℕ
  pub side : Side
  pub leaves : IsNamedExit flat.layout (reached flat None).place (exits.Window tape side)
  pub next : v ≡ widened w tape side
  pub told_is : told ≡ places flat.circuit (budget flat None) (flat_start flat)

-- this many rounds lead from w to v, and the places of each in turn are reported to a watch
abbrev pub MakeRounds : Program → List ℕ → ℕ → Limits → Limits → List Place → Type 0
MakeRounds p symbols zero w v told = (w ≡ v) × (told ≡ [])
MakeRounds p symbols (suc n) w v told =
    (m : Limits) × (front : List Place) × (rest : List Place) × IsRound p symbols w m front
    × MakeRounds p symbols n m v rest × (told ≡ front ++ rest)

-- The last window: its circuit is too large; or the signal leaves the circuit by no end of a tape, and the text is the
-- line of the window and that of the run.
pub data EndReplies (t : Named) (symbols : List ℕ) (w : Limits) (status : Status) (text : List ℕ)
    (told : List Place) : Type 0 where
  large : (count : ℕ) → CountsElements t.machine w count → MOST_ELEMENTS < count → text ≡ large_line count
      → status ≡ statuses.Size → told ≡ [] → EndReplies t symbols w status text told
  found : (f : Flat) → ComesTo t.machine w symbols f → (ran : List ℕ) → TellsRun None t f status ran told
      → status ≢ statuses.Window → text ≡ found_line w ++ ran → EndReplies t symbols w status text told

-- the rounds from the first window on, and the last window
pub record SearchReplies (t : Named) (symbols : List ℕ) (status : Status) (text : List ℕ)
    (told : List Place) : Type 0 where
  pub rounds : ℕ
  pub last : Limits
  pub before : List Place
  pub behind : List Place
  pub made : MakeRounds t.machine symbols rounds (first_window symbols) last before
  pub ends : EndReplies t symbols last status text behind
  pub told_is : told ≡ before ++ behind

-- The answer to a word of these symbols: it has too many letters, or that.
pub data FindReplies (t : Named) (symbols : List ℕ) (status : Status) (text : List ℕ) (told : List Place) : Type 0 where
  long : MOST_COUNT < length symbols → text ≡ long_line (length symbols) → status ≡ statuses.Size → told ≡ []
      → FindReplies t symbols status text told
  searched : length symbols ≤ MOST_COUNT → SearchReplies t symbols status text told
      → FindReplies t symbols status text told

-- the answer to a word and these bytes
abbrev pub AutoReplies : List ℕ → List ℕ → Status → List ℕ → List Place → Type 0
AutoReplies word = StandardReplies (λ t. WordReplies (FindReplies t) t word)

-- it has one answer to all words and bytes
abbrev pub AutoIsSettled : Type 0
AutoIsSettled = (word bytes : List ℕ) → IsSettled (AutoReplies word bytes)

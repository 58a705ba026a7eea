-- The result of a round of the search, and of the rounds made so far.
use Rattle.std.specs.Prelude.{◌≡◌, ◌≢◌, ℕ, List, ◌++◌, Option, None, Result, IfOk, OnErr}
use Rattle.bn_circuits.specs.Stepping.{places}
use Rattle.bn_circuits.specs.declared.place.Place.{Place}
use Rattle.bn_machine.specs.Machine.{Program}
use Rattle.bn_machine.specs.Outcome.{Limits}
use Rattle.bn_machine.specs.declared.quint.Side.{Side}
use Rattle.bn_circuits.specs.Watching.{Hears}
use Rattle.bn_table.specs.Rows.{Named}
use Rattle.bn_boards.specs.declared.exit.Exit.TheVariants as exits
use Rattle.bn_boards.specs.Layouts.{IsExit, IsNamedExit}
use Rattle.bn_boards.specs.Flats.{Flat, flat_start}
use Rattle.bn_lists.specs.declared.memory.NoMemory.{NoMemory}
use Rattle.bn_reply.specs.Replying.{IsReplied, IsUnfinished}
use Rattle.bn_reply.specs.declared.status.Status.{Status}
use Rattle.bn_reply.specs.declared.status.Status.TheVariants as statuses
use Rattle.bn_reply_relations.specs.Windows.{ComesTo}
use Rattle.bn_reply_relations.specs.RunReply.{budget, reached}
use Rattle.bn_reply_boards.specs.Running.{TellsFound}
use Rattle.bn_network_assembly.specs.Widening.{first_window}
use Rattle.bn_headline.specs.AutoReply.{MakeRounds, found_line}
use Rattle.bn_headline.specs.declared.round.Round.{Round}
use Rattle.bn_headline.specs.declared.round.Round.TheVariants.{Ended, Short}

-- The circuit in this window: its signal leaves by this end of a tape. The place after each step is reported to a
-- watch.
pub record LeavesBy (p : Program) (symbols : List ℕ) (w : Limits) (tape : ℕ) (side : Side)
    (told : List Place) : Type 0 where
  pub flat : Flat
  pub comes : ComesTo p w symbols flat
  pub leaves : IsNamedExit flat.layout (reached flat None).place (exits.Window tape side)
  pub told_is : told ≡ places flat.circuit (budget flat None) (flat_start flat)

-- the same for a circuit, by its layout
pub record RanBy (f : Flat) (tape : ℕ) (side : Side) (told : List Place) : Type 0 where
  pub leaves : IsExit f.layout (reached f None).place (exits.Window tape side)
  pub told_is : told ≡ places f.circuit (budget f None) (flat_start f)

-- the text is the line of this window and that of the run of f, by what its layout finds; the signal leaves by no end
-- of a tape
pub record TellsEnd (t : Named) (f : Flat) (w : Limits) (status : Status) (text : List ℕ)
    (told : List Place) : Type 0 where
  pub ran : List ℕ
  pub tells : TellsFound None t f status ran told
  pub no_window : status ≢ statuses.Window
  pub text_is : text ≡ found_line w ++ ran

-- A round: the answer, or the end by which the signal left; and what a watch has heard then.
abbrev pub IsRoundOf : (Status → List ℕ → List Place → Type 0) → (ℕ → Side → List Place → Type 0) → Round →
    Option (List Place) → Option (List Place) → Type 0
IsRoundOf tells leaves (Ended reply) told heard = IsReplied tells reply told heard
IsRoundOf tells leaves (Short tape side) told heard =
    (places : List Place) × leaves tape side places × Hears told places heard

-- and if memory ran out, no place was heard, or the first places of an answer
pub record IsRun (tells : Status → List ℕ → List Place → Type 0) (leaves : ℕ → Side → List Place → Type 0)
    (result : Result Round NoMemory) (told heard : Option (List Place)) : Type 0 where
  pub came : IfOk result (λ r. IsRoundOf tells leaves r told heard)
  pub interrupted : OnErr result (IsUnfinished tells told heard)

-- this many rounds have led from the first window to this one, and a watch has heard the places of all of them
pub record HasCome (p : Program) (symbols : List ℕ) (rounds : ℕ) (w : Limits)
    (told heard : Option (List Place)) : Type 0 where
  pub before : List Place
  pub made : MakeRounds p symbols rounds (first_window symbols) w before
  pub hears : Hears told before heard

-- The answer of the command `run`: the run of the signal on the circuit of a machine and a word in a window (the
-- circuit and the text are this project's own profile). The circuit alone defines it; the machine's own run is no part
-- of it.
use Rattle.std.specs.Prelude.{◌≡◌, ℕ, ◌+◌, ◌-◌, List, Option, Some, None}
use Rattle.bn_circuits.specs.Stepping.{run, places}
use Rattle.bn_circuits.specs.declared.place.Place.{Place}
use Rattle.bn_circuits.specs.declared.config.Config.{Config}
use Rattle.bn_machine.specs.Outcome.{Limits}
use Rattle.bn_table.specs.Rows.{Named}
use Rattle.bn_boards.specs.declared.exit.Exit.{Exit}
use Rattle.bn_boards.specs.declared.exit.Exit.TheVariants.{Inside, End, Stuck, Window, Unnamed}
use Rattle.bn_boards.specs.BoardMoments.{IsBoardMoment}
use Rattle.bn_boards.specs.Layouts.{IsNamedExit}
use Rattle.bn_boards.specs.Flats.{Flat, machine_of, flat_start}
use Rattle.bn_boards.specs.Costs.{bound_of}
use Rattle.bn_reply.specs.Answering.{IsSettled}
use Rattle.bn_reply.specs.declared.status.Status.{Status}
use Rattle.bn_reply.specs.declared.status.Status.TheVariants as statuses
use Rattle.bn_reply_relations.specs.Counts.{Counts}
use Rattle.bn_reply_relations.specs.RunText.{run_text}
use Rattle.bn_network.specs.Limits.{AreSmall}
use Rattle.bn_reply_relations.specs.Windows.{WindowReplies}

-- the greatest number of steps: the given one, or else the circuit's bound
abbrev pub budget : Flat → Option ℕ → ℕ
budget f None = bound_of f.layout
budget f (Some e) = e

-- the configuration of the circuit after n steps, or after its last step if it makes fewer
abbrev pub board_after : Flat → ℕ → Config
board_after f n = run f.circuit (flat_start f) n

-- the configuration in which the run ends
abbrev pub reached : Flat → Option ℕ → Config
reached f given = board_after f (budget f given)

-- the status of a run with this exit
abbrev pub exit_status : Exit → Status
exit_status Inside = statuses.Inside
exit_status End = statuses.Done
exit_status (Stuck a c) = statuses.Stuck
exit_status (Window t s) = statuses.Window
exit_status Unnamed = statuses.Done

-- after this many steps the circuit is at the moment of some state
abbrev pub HasMoment : Flat → ℕ → Type 0
HasMoment f n = (a : ℕ) × IsBoardMoment (machine_of f) f.limits f.names f.network (board_after f n) a

-- The text reports the run of the circuit: its exit, its steps, what the cells show, and the steps of the machine of
-- quadruples, which are the moments from the start on, less one. The place after each step is reported to a watch.
pub record TellsRun (given : Option ℕ) (t : Named) (f : Flat) (status : Status) (text : List ℕ)
    (told : List Place) : Type 0 where
  pub exit : Exit
  pub is_exit : IsNamedExit f.layout (reached f given).place exit
  pub moments : ℕ
  pub counted : Counts (HasMoment f) ((reached f given).steps + 1) moments
  pub status_is : status ≡ exit_status exit
  pub text_is : text ≡ run_text t f (reached f given) (moments - 1) exit
  pub told_is : told ≡ places f.circuit (budget f given) (flat_start f)

-- the answer of `run` to a greatest number of steps, if there is one, a word, limits and these bytes
abbrev pub RunReplies : Option ℕ → List ℕ → Limits → List ℕ → Status → List ℕ → List Place → Type 0
RunReplies given = WindowReplies (TellsRun given)

-- for all numbers of steps, words, limits within their bounds, and bytes, it has exactly one answer
abbrev pub RunIsSettled : Type 0
RunIsSettled = (given : Option ℕ) (word : List ℕ) (l : Limits) (bytes : List ℕ) → AreSmall l
    → IsSettled (RunReplies given word l bytes)

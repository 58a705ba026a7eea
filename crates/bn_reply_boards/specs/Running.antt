-- The results of running a circuit, as the layout gives them.
use Rattle.std.specs.Prelude.{◌≡◌, ℕ, ◌-◌, List, Option, Some, None, Result, IfOk, OnErr}
use Rattle.bn_circuits.specs.Stepping.{run, places}
use Rattle.bn_circuits.specs.declared.place.Place.{Place}
use Rattle.bn_circuits.specs.declared.config.Config.{Config}
use Rattle.bn_circuits.specs.RotaryNets.{rotary_circuit}
use Rattle.bn_table.specs.Rows.{Named}
use Rattle.bn_bennett.specs.Translation.{Translation}
use Rattle.bn_boards.specs.declared.exit.Exit.{Exit}
use Rattle.bn_boards.specs.Layouts.{IsExit, Layout, moments}
use Rattle.bn_boards.specs.Flats.{Flat, flat_start}
use Rattle.bn_boards.specs.Costs.{bound_of}
use Rattle.bn_board.specs.Flattened.{Flattened}
use Rattle.bn_circuits.specs.Watching.{Hears}
use Rattle.bn_reply.specs.Replying.{IsReplied, IsUnfinished}
use Rattle.bn_reply.specs.declared.reply.Reply.{Reply}
use Rattle.bn_lists.specs.declared.memory.NoMemory.{NoMemory}
use Rattle.bn_reply.specs.declared.status.Status.{Status}
use Rattle.bn_reply_relations.specs.RunReply.{budget, reached, exit_status}
use Rattle.bn_reply_relations.specs.Laws.{found_text}
use Rattle.bn_reply_boards.specs.Shown.{IsShown}

-- this translation and this circuit, which is at its start, are those of f
pub record IsAtStart (f : Flat) (m : Translation) (b : Flattened) : Type 0 where
  pub shown : IsShown f m b
  pub circuit : f.circuit ≡ rotary_circuit b.net
  pub config : b.config ≡ flat_start f

-- the greatest number of steps, and where a circuit is after it
abbrev pub steps_for : Layout → Option ℕ → ℕ
steps_for b None = bound_of b
steps_for b (Some e) = e

abbrev pub end_by : Flattened → Option ℕ → Config
end_by b given = run (rotary_circuit b.net) b.config (steps_for b.layout given)

-- where a circuit that was at the start of f is, in the terms of f: its exit, the steps of the machine of quadruples,
-- and what a watch has heard
pub record HasRun (given : Option ℕ) (f : Flat) (m : Translation) (d : Flattened) (e : Exit) (steps : ℕ)
    (told heard : Option (List Place)) : Type 0 where
  pub shown : IsShown f m d
  pub config : d.config ≡ reached f given
  pub is_exit : IsExit f.layout (reached f given).place e
  pub steps_are : steps ≡ moments f.layout f.circuit (budget f given) (flat_start f) - 1
  pub hears : Hears told (places f.circuit (budget f given) (flat_start f)) heard

-- the run of f by an exit and by the moments that its layout finds
pub record TellsFound (given : Option ℕ) (t : Named) (f : Flat) (status : Status) (text : List ℕ)
    (told : List Place) : Type 0 where
  pub exit : Exit
  pub is_exit : IsExit f.layout (reached f given).place exit
  pub status_is : status ≡ exit_status exit
  pub text_is : text ≡ found_text given t f exit
  pub told_is : told ≡ places f.circuit (budget f given) (flat_start f)

-- the reply of a command, or none since memory ran out, and what a watch has heard then
pub record IsAnswered (replies : Status → List ℕ → List Place → Type 0) (result : Result Reply NoMemory)
    (told heard : Option (List Place)) : Type 0 where
  pub replied : IfOk result (λ r. IsReplied replies r told heard)
  pub interrupted : OnErr result (IsUnfinished replies told heard)

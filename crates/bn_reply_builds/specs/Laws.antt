-- The laws of this crate, a named field each. `Laws` is the contract of `reply_builds_laws`.
use Rattle.bn_reply_builds.specs.BennettBuilds.{BoardsAreOne, CompilingIsBuilding}
use Rattle.bn_reply_builds.specs.BuildReply.{BuildIsSettled}
use Rattle.bn_reply_builds.specs.DriveCircuits.{BuildsTellTheirBoards, DrivesTellTheirBoards}
use Rattle.bn_reply_builds.specs.DriveHeadline.{DrivesTellTheirMachine}
use Rattle.bn_reply_builds.specs.DriveReply.{DriveIsSettled}
use Rattle.bn_reply_builds.specs.ErasedDrives.{ErasedCircuitsErase}
use Rattle.bn_reply_builds.specs.OwnDrives.{OwnRunsAreThere, OwnRunsAreOne, DrivesTellTheirRun}
use Rattle.bn_reply_builds.specs.ErasedRunLaws.{ErasedCircuitsComeOut, EndsTellHalts, ErasedCircuitsEnd}

pub record Laws : Type 0 where
  -- For all words, windows and bytes, `build` has exactly one answer.
  pub build_has_one_reply : BuildIsSettled
  -- The table that `bennett` prints reads as Bennett's machine itself, and its circuit is the one that the one-tape
  -- machine is compiled to: `bennett | build` prints what `compile` prints.
  pub compiling_is_building : BoardsAreOne × CompilingIsBuilding
  -- For all words, windows, greatest numbers of steps and bytes, `drive` has exactly one answer.
  pub drive_has_one_reply : DriveIsSettled
  -- The answer of `drive` reports the machine's own run in the window: if the signal leaves by an exit within the
  -- greatest number of element steps, the exit that this run names, its steps and its tapes; otherwise that the signal
  -- is still inside.
  pub drives_tell_their_machine : DrivesTellTheirMachine
  -- The answers of `build` and `drive` report the machine's circuit, which runs in exactly its cost to that exit, and
  -- whose steps can be undone.
  pub builds_run_and_return : BuildsTellTheirBoards × DrivesTellTheirBoards
  -- The circuit that erases its input, by what the commands print: given the table that `erase` prints, `drive` reports
  -- the end only if each of the two machines halts on the other's word, with that output alone on the tapes; if they
  -- do, it never reports a machine that is stuck.
  pub erased_circuits_erase : ErasedCircuitsErase
  -- Whatever is given, the machine's own run in the window ends, after fewer steps than the window has configurations.
  pub own_runs_are_there : OwnRunsAreThere
  -- The machine's own run in the window has one number of steps, one last configuration, and one exit.
  pub own_runs_are_one : OwnRunsAreOne
  -- The answer of `drive` reports that run.
  pub drives_tell_their_run : DrivesTellTheirRun
  -- If both machines halt in the window, each on the other's word, the signal of the circuit that erases leaves by the
  -- end in exactly its cost, and `drive` reports that end, with y alone, for each number of element steps from the cost
  -- on.
  pub erased_circuits_come_out : ErasedCircuitsComeOut
  -- `drive` reports the end only if both machines halt in the window, each on the other's word.
  pub ends_tell_halts : EndsTellHalts
  -- Whatever the machines do, the signal leaves in exactly its cost, by the exit that the erasing machine's own run in
  -- the window determines: every drive ends.
  pub erased_circuits_end : ErasedCircuitsEnd

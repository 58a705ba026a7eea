use Rattle.bn_reply_builds.proofs.LawLemmas.{compiling_is_building-boards, compiling_is_building-texts}
use Rattle.bn_reply_builds.proofs.SettledLemmas.{build_is_settled}
use Rattle.bn_reply_builds.proofs.CircuitLemmas.{builds-tell_boards, drives-tell_boards}
use Rattle.bn_reply_builds.proofs.DriveSettledLemmas.{drive_is_settled}
use Rattle.bn_reply_builds.proofs.ErasedLemmas.{erased-circuits_erase}
use Rattle.bn_reply_builds.proofs.HeadlineLemmas.{drives-tell_machine}
use Rattle.bn_reply_builds.proofs.OwnDriveLemmas.{runs-there, runs-one, tell-their-run}
use Rattle.bn_reply_builds.proofs.ErasedEndLemmas.{ends-tell_halts, erased-come_out, erased-end}
use Rattle.bn_reply_builds.proofs.laws.reply_builds_laws.Goals as goal

pub returns : goal.returns
returns _ = record {
  build_has_one_reply = build_is_settled;
  compiling_is_building = (compiling_is_building-boards, compiling_is_building-texts);
  drive_has_one_reply = drive_is_settled;
  drives_tell_their_machine = drives-tell_machine;
  builds_run_and_return = (builds-tell_boards, drives-tell_boards);
  erased_circuits_erase = erased-circuits_erase;
  own_runs_are_there = runs-there;
  own_runs_are_one = runs-one;
  drives_tell_their_run = tell-their-run;
  erased_circuits_come_out = erased-come_out;
  ends_tell_halts = ends-tell_halts;
  erased_circuits_end = erased-end;
}

-- What is answered to a build or a drive tells the board, whose steps can be taken back.
use Rattle.std.specs.Prelude.{ℕ, ◌+◌, ◌≤◌, List, [], refl}
use Rattle.std.proofs.Common.{sym, subst}
use Rattle.bn_circuits.specs.Circuits.{Circuit, IsCircuit}
use Rattle.bn_circuits.specs.Stepping.{run}
use Rattle.bn_circuits.specs.declared.config.Config.{Config}
use Rattle.bn_circuits.specs.declared.place.Place.{Place}
use Rattle.bn_circuits.proofs.RunPartLemmas.{runs-undo_in_part}
use Rattle.bn_machine.specs.Outcome.{Limits}
use Rattle.bn_quad.specs.Quadruples.{Configuration}
use Rattle.bn_qtable.specs.Rows.{QuadTable}
use Rattle.bn_qtable.specs.TapeWords.{TapeWords}
use Rattle.bn_network.specs.Starts.{AreInputs, start_from, words_on}
use Rattle.bn_boards.specs.Builds.{Build, start_of}
use Rattle.bn_boards.proofs.RunLemmas.{builds-run}
use Rattle.bn_reply.specs.declared.status.Status.{Status}
use Rattle.bn_reply.specs.declared.status.Status.TheVariants as statuses
use Rattle.bn_reply_builds.specs.BuildReply.{BuildReplies, IsBuiltFor, TellsBuild, built}
use Rattle.bn_reply_builds.proofs.BuiltLemmas.{build_begins, build_told}
use Rattle.bn_reply_builds.proofs.SettledLemmas.{build_is_settled}
use Rattle.bn_reply_builds.specs.DriveCircuits.{BuildsTellTheirBoards, DrivesTellTheirBoards, Returns, RunsAndReturns}
use Rattle.bn_reply_builds.specs.DriveHeadline.{IsGiven}
use Rattle.bn_reply_builds.specs.DriveReply.{DriveReplies}
use Rattle.bn_reply_builds.specs.Driven.{TellsDrive}
use Rattle.bn_reply_builds.proofs.HeadlineLemmas.{build_within, inputs, reply_by}
use Rattle.bn_reply_builds.proofs.DriveSettledLemmas.{drive_is_settled, drive_some}

circuits_return : (k : Circuit) → IsCircuit k → (c : Config) → Returns k c
circuits_return k circuit c r j path = runs-undo_in_part k circuit j r (r + j) c (run k c (r + j)) refl path

runs_and_returns : (t : QuadTable) (l : Limits) (one two three : List ℕ) → AreInputs t.machine l one two three
    → (f : Build) → IsBuiltFor t.machine l f → RunsAndReturns f (words_on t.machine one two three)
runs_and_returns t l one two three in_room f h =
    let c : Configuration ℕ = words_on t.machine one two three in
    record {
      runs = λ n d e ends room. builds-run f h.build c (start_from f.machine f.limits c) (start_of f c)
          (build_begins t.machine l one two three in_room f h) n d e ends room;
      returns = circuits_return f.circuit h.build.is_board.circuit (start_of f c);
    }

module _ (words : TapeWords) (l : Limits) (bytes : List ℕ) (t : QuadTable) (one two three : List ℕ)
    (given : IsGiven words bytes l t one two three) where
  abbrev c : Configuration ℕ
  c = words_on t.machine one two three

  in_room : AreInputs t.machine l one two three
  in_room = inputs words bytes l t one two three given

  board_told : (status : Status) (text : List ℕ) (told : List Place) → BuildReplies words l bytes status text told
      → (f : Build) → IsBuiltFor t.machine l f → TellsBuild c f status text told
  board_told status text told reply f h =
      let answer = build_told t.machine l one two three in_room f h in
      let whole = reply_by words bytes l t one two three given
      (λ t one two three. TellsBuild (words_on t.machine one two three)) statuses.Done answer.0 []
      (built given.few given.room f h answer.1) in
      let same = (build_is_settled words l bytes).one status statuses.Done text answer.0 told [] reply whole in
      subst (λ x. TellsBuild c f x text told) (sym same.statuses)
      (subst (λ x. TellsBuild c f statuses.Done x told) (sym same.texts)
      (subst (λ x. TellsBuild c f statuses.Done answer.0 x) (sym same.places) answer.1))

  run_told : (most : ℕ) → most ≤ 2305843009213693952 → (status : Status) (text : List ℕ) (told : List Place)
      → DriveReplies words l most bytes status text told
      → (f : Build) → IsBuiltFor t.machine l f → TellsDrive most t c f status text told
  run_told most low status text told reply f h =
      let answer = drive_some most low t l one two three in_room f h in
      let whole = reply_by words bytes l t one two three given
      (λ t one two three. TellsDrive most t (words_on t.machine one two three)) answer.0 answer.1 answer.2
      (built given.few given.room f h answer.3) in
      let same = (drive_is_settled words l most bytes low).one status answer.0 text answer.1 told answer.2
      reply whole in
      subst (λ x. TellsDrive most t c f x text told) (sym same.statuses)
      (subst (λ x. TellsDrive most t c f answer.0 x told) (sym same.texts)
      (subst (λ x. TellsDrive most t c f answer.0 answer.1 x) (sym same.places) answer.3))

pub builds-tell_boards : BuildsTellTheirBoards
builds-tell_boards words l bytes status text told reply t one two three given count counts few =
    let found = build_within words bytes l t one two three given count counts few in
    record {
      build = found.0;
      built = found.1;
      tells = λ f h. (
        board_told words l bytes t one two three given status text told reply f h,
        runs_and_returns t l one two three (in_room words l bytes t one two three given) f h,
      );
    }

pub drives-tell_boards : DrivesTellTheirBoards
drives-tell_boards words l most bytes status text told low reply t one two three given count counts few =
    let found = build_within words bytes l t one two three given count counts few in
    record {
      build = found.0;
      built = found.1;
      tells = λ f h. (
        run_told words l bytes t one two three given most low status text told reply f h,
        runs_and_returns t l one two three (in_room words l bytes t one two three given) f h,
      );
    }

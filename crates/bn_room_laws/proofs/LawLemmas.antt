-- The laws on the answers of `drive` in least rooms.
use Rattle.std.proofs.Common.{◌≡◌, ℕ, ◌≤◌, List}
use Rattle.bn_circuits.specs.declared.place.Place.{Place}
use Rattle.bn_machine.specs.Outcome.{Limits}
use Rattle.bn_quad.specs.Quadruples.{Configuration}
use Rattle.bn_qtable.specs.Rows.{QuadTable}
use Rattle.bn_qtable.specs.TapeWords.{TapeWords}
use Rattle.bn_bennett_laws.specs.Steps.{Exit, Finished, Leaving, Stopped}
use Rattle.bn_network.specs.Starts.{words_on}
use Rattle.bn_rooms.specs.LeastRoom.{FitsRun, IsOwnEnd}
use Rattle.bn_rooms.specs.RoomOutcome.{HasRoomOutcome, NoRoom, Room, RoomOutcome, Running}
use Rattle.bn_rooms.proofs.LawLemmas.{larger_rooms_end_alike, left_of_start_has_no_room}
use Rattle.bn_rooms.proofs.LeastLemmas.{own_wider}
use Rattle.bn_rooms.proofs.ReachLemmas.{run_wider}
use Rattle.bn_reply.specs.declared.status.Status.{Status}
use Rattle.bn_reply.specs.declared.status.Status.TheVariants.{Done}
use Rattle.bn_reply_machines.specs.NamedWords.{AreNamedBy}
use Rattle.bn_reply_machines.specs.QuadReply.{domain, faulty, passes, range}
use Rattle.bn_reply_machines.specs.UniformReply.{not_uniform, uniform}
use Rattle.bn_reply_machines.specs.WordsReply.{WordsReplies, named, unnamed}
use Rattle.bn_qtable.specs.Reading.{ReadsQuadruples}
use Rattle.bn_quad.specs.Calls.{IsUniformMachine}
use Rattle.bn_reply_builds.specs.DriveHeadline.{IsGiven, IsOwnRun}
use Rattle.bn_reply_builds.specs.DriveReply.{DriveReplies}
use Rattle.bn_reply_builds.proofs.HeadlineLemmas.{drives-tell_machine}
use Rattle.bn_reply_builds.proofs.OwnDriveLemmas.{runs-there}
use Rattle.bn_reply_rooms.specs.RoomReply.{TellsRoom, UncrowdedReplies, few, many, outcome_line, outcome_status}
use Rattle.bn_room_laws.specs.Laws.{DrivesEndInLeastRooms, DrivesLeaveSmallerRooms, DrivesLeaveWithoutRoom, DrivesOut}
use Rattle.bn_room_laws.specs.Laws.{IsRead, PrintsLeastRoom, RoomsAreLeast}
use Rattle.bn_network.specs.declared.limits.TheConstants.{MOST_DRIVE_STEPS}

-- ---- what `room` prints

module _ (words : TapeWords) (n : ℕ) (bytes text : List ℕ) (told : List Place) (t : QuadTable)
    (reads : ReadsQuadruples bytes t) (even : IsUniformMachine t.machine) where
  by_outcome : (one two three : List ℕ) → IsRead words bytes t one two three → (o : RoomOutcome)
      → HasRoomOutcome t.machine one two three n o → text ≡ outcome_line n o → Done ≡ outcome_status o
      → PrintsLeastRoom words bytes text
  by_outcome one two three read (Room l) shown is status = record {
    table = t;
    one = one;
    two = two;
    three = three;
    read = read;
    limits = l;
    least = shown.1;
    text_is = is;
  }
  by_outcome one two three read (NoRoom tape) shown is status = absurd (cc status)
  by_outcome one two three read Running shown is status = absurd (cc status)

  by_symbols : (one two three : List ℕ) → AreNamedBy words t.names one two three
      → UncrowdedReplies (TellsRoom t.machine n one two three) t.machine Done text told
      → PrintsLeastRoom words bytes text
  by_symbols one two three spelled (many tape z h is status silent) = absurd (cc status)
  by_symbols one two three spelled (few h told) = by_outcome one two three
      (record { reads = reads; uniform = even; few = h; named = spelled }) told.outcome told.shown told.text_is
      told.status_is

  by_words : WordsReplies words (λ one two three. UncrowdedReplies (TellsRoom t.machine n one two three) t.machine)
      t.names Done text told → PrintsLeastRoom words bytes text
  by_words (unnamed p h is status silent) = absurd (cc status)
  by_words (named one h (unnamed p k is status silent)) = absurd (cc status)
  by_words (named one h (named two k (unnamed p m is status silent))) = absurd (cc status)
  by_words (named one h (named two k (named three m answer))) =
      by_symbols one two three (record { on_one = h; on_two = k; on_three = m }) answer

pub rooms_are_least : RoomsAreLeast
rooms_are_least words n bytes text told (faulty h status silent) = absurd (cc status)
rooms_are_least words n bytes text told (domain t reads i j h is status silent) = absurd (cc status)
rooms_are_least words n bytes text told (range t reads apart i j h is status silent) = absurd (cc status)
rooms_are_least words n bytes text told (passes t reads apart back (not_uniform why h is status silent)) =
    absurd (cc status)
rooms_are_least words n bytes text told (passes t reads apart back (uniform even answer)) =
    by_words words n bytes text told t reads (record { deterministic = apart; reversible = back; uniform = even })
    answer

-- ---- least rooms and larger ones

pub drives_end_in_least_rooms : DrivesEndInLeastRooms
drives_end_in_least_rooms words k l most bytes status text told low replies t one two three read room more =
    let also = larger_rooms_end_alike t.machine one two three l k room.fits more in
    let given : IsGiven words bytes k t one two three = record {
      reads = read.reads;
      uniform = read.uniform;
      few = read.few;
      named = read.named;
      room = record { on_one = also.0.on_one; on_two = also.0.on_two; on_three = also.0.on_three };
    } in
    let own : IsOwnRun t k one two three room.fits.steps room.fits.last room.fits.exit = record {
      runs = run_wider l k t.machine room.fits.steps (words_on t.machine one two three) room.fits.last more
          room.fits.run;
      ends = own_wider t.machine l k room.fits.last room.fits.exit room.fits.own room.fits.ends;
    } in (
      given,
      own,
      drives-tell_machine words k most bytes status text told low replies t one two three given room.fits.steps
          room.fits.last room.fits.exit own,
    )

-- ---- where no room fits

module _ (words : TapeWords) (k : Limits) (most : ℕ) (bytes : List ℕ) (status : Status) (text : List ℕ)
    (told : List Place) (low : most ≤ MOST_DRIVE_STEPS) (replies : DriveReplies words k most bytes status text told)
    (t : QuadTable) (one two three : List ℕ) (given : IsGiven words bytes k t one two three)
    (none : FitsRun t.machine one two three k → ⊥) where
  not_own : (n : ℕ) (d : Configuration ℕ) (e : Exit) → IsOwnEnd e → IsOwnRun t k one two three n d e → ⊥
  not_own n d e own run = none (record {
    on_one = given.room.on_one;
    on_two = given.room.on_two;
    on_three = given.room.on_three;
    steps = n;
    last = d;
    exit = e;
    run = run.runs;
    ends = run.ends;
    own = own;
  })

  by_exit : (n : ℕ) (d : Configuration ℕ) (e : Exit) → IsOwnRun t k one two three n d e
      → DrivesOut most t k one two three status text
  by_exit n d Finished run = absurd (not_own n d Finished tt run)
  by_exit n d Stopped run = absurd (not_own n d Stopped tt run)
  by_exit n d (Leaving tape side) run = record {
    steps = n;
    last = d;
    tape = tape;
    side = side;
    own = run;
    tells = drives-tell_machine words k most bytes status text told low replies t one two three given n d
        (Leaving tape side) run;
  }

  drives_out : DrivesOut most t k one two three status text
  drives_out =
      let run = runs-there words bytes k t one two three given in
      by_exit run.steps run.last run.exit run.own

pub drives_leave_smaller_rooms : DrivesLeaveSmallerRooms
drives_leave_smaller_rooms words k l most bytes status text told low replies t one two three given room smaller =
    drives_out words k most bytes status text told low replies t one two three given
    (λ fits. smaller (room.least k fits))

pub drives_leave_without_room : DrivesLeaveWithoutRoom
drives_leave_without_room words k most bytes status text told low replies t one two three given n tape leaves =
    drives_out words k most bytes status text told low replies t one two three given
    (left_of_start_has_no_room t.machine one two three n tape leaves k)

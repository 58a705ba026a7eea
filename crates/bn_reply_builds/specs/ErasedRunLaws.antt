-- The circuit that erases its input: where its signal leaves, and what `drive` prints then.
use Rattle.std.specs.Prelude.{◌≡◌, ℕ, ◌≤◌, List, length, ⊤}
use Rattle.bn_circuits.specs.declared.place.Place.{Place}
use Rattle.bn_machine.specs.Outcome.{Limits}
use Rattle.bn_qtable.specs.TapeWords.{Letters, One}
use Rattle.bn_quad.specs.Quadruples.{Configuration}
use Rattle.bn_table.specs.Rows.{Named}
use Rattle.bn_bennett_laws.specs.Steps.{Exit, Finished}
use Rattle.bn_erase.specs.Joint.{joined}
use Rattle.bn_erase_laws.specs.declared.name.ErasingName.{ErasingName}
use Rattle.bn_network.specs.Limits.{AreSmall}
use Rattle.bn_reply.specs.declared.status.Status.TheVariants.{Done}
use Rattle.bn_reply_erase.specs.EraseReply.{EraseReplies}
use Rattle.bn_reply_builds.specs.DriveReply.{DriveReplies}
use Rattle.bn_reply_builds.specs.ErasedDrives.{AreErasedBy}
use Rattle.bn_network.specs.declared.limits.TheConstants.{MOST_DRIVE_STEPS}
use Rattle.bn_erase_laws.specs.EraseWindows.{erasing_steps}
use Rattle.bn_reply_builds.specs.ErasedRuns.{DriveLeaves, TablesEndIn, TablesHaltIn, erased_end}

-- if both machines halt in the window, each on the other's word
abbrev pub ErasedCircuitsComeOut : Type 0
ErasedCircuitsComeOut =
    (bytes word table : List ℕ) (silent : List Place) → EraseReplies bytes Done table silent
    → (t u : Named) (x : List ℕ) → AreErasedBy bytes word t u x
    → (l : Limits) → AreSmall l → (v w : ℕ) (y : List ℕ) → TablesHaltIn t u x l v w y
    → DriveLeaves word table l (erasing_steps x y v w) Finished
    (λ count cost text. text ≡ erased_end (joined t u) l y count cost (erasing_steps x y v w))

-- the end is reported only then
abbrev pub EndsTellHalts : Type 0
EndsTellHalts =
    (bytes word table : List ℕ) (silent : List Place) → EraseReplies bytes Done table silent
    → (t u : Named) (x : List ℕ) → AreErasedBy bytes word t u x
    → (l : Limits) → AreSmall l → (most : ℕ) (text : List ℕ) (told : List Place) → most ≤ MOST_DRIVE_STEPS
    → DriveReplies (One (Letters word)) l most table Done text told
    → (v w : ℕ) × (y : List ℕ) × TablesHaltIn t u x l v w y

-- for a word that fits on tape 1
abbrev pub ErasedCircuitsEnd : Type 0
ErasedCircuitsEnd =
    (bytes word table : List ℕ) (silent : List Place) → EraseReplies bytes Done table silent
    → (t u : Named) (x : List ℕ) → AreErasedBy bytes word t u x
    → (l : Limits) → AreSmall l → length x ≤ l.right
    → (n : ℕ) × (d : Configuration ErasingName) × (e : Exit) × TablesEndIn t u x l n d e
    × DriveLeaves word table l n e (λ count cost text. ⊤)

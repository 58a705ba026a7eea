-- Tables of quadruples that the workbench printed, given to it again: what a user expects of `bennett` and `build`, and
-- of `erase` and `drive`, over the workbench's own relation, with the limits of the input.
use Rattle.std.specs.Prelude.{◌≡◌, ◌⊎◌, ℕ, ◌^◌, ◌≤◌, List, length, ⊤}
use Rattle.bn_csv.specs.Entries.{entries_of}
use Rattle.bn_circuits.specs.declared.place.Place.{Place}
use Rattle.bn_machine.specs.Outcome.{Limits}
use Rattle.bn_qtable.specs.TapeWords.{Letters, One}
use Rattle.bn_table.specs.Rows.{Named}
use Rattle.bn_quad.specs.Quadruples.{Configuration}
use Rattle.bn_bennett_laws.specs.Laws.{HaltsAfter}
use Rattle.bn_bennett_laws.specs.Steps.{Exit, Finished}
use Rattle.bn_erase_laws.specs.declared.name.ErasingName.{ErasingName}
use Rattle.bn_erase.specs.Joint.{joined}
use Rattle.bn_network.specs.Limits.{AreSmall}
use Rattle.bn_reply.specs.declared.status.Status.{Status}
use Rattle.bn_reply.specs.declared.status.Status.TheVariants.{Done, Size, Stuck}
use Rattle.bn_reply_builds.specs.ErasedDrives.{AreErasedBy, LeavesOutputAlone}
use Rattle.bn_words.specs.Requests.{Bennett, Build, Compile, Drive, Erase, HasForm, Inverse, words_of}
use Rattle.bn_network.specs.declared.limits.TheConstants.{MOST_DRIVE_STEPS}
use Rattle.bn_top.specs.Answers.{Answers}
use Rattle.bn_erase_laws.specs.EraseWindows.{erasing_steps}
use Rattle.bn_reply_builds.specs.ErasedRuns.{CircuitLeaves, TablesEndIn, TablesHaltIn, erased_end}

-- the answer of the workbench to `drive`, with the word on tape 1, in the window, for at most this many element steps
abbrev pub DriveAnswers : List ℕ → Limits → List ℕ → ℕ → Status → List ℕ → List Place → Type 0
DriveAnswers word l table most = Answers (words_of (Drive (One (Letters word)) l most)) table

-- `build` prints, byte for byte, what `compile` printed of a table, if it is given what `bennett` prints of that table.
abbrev pub CompilingIsBuildingAgain : Type 0
CompilingIsBuildingAgain =
    (bytes word text table again : List ℕ) (l : Limits) (a b : Status) (told silent heard : List Place)
    → HasForm (words_of (Compile word l)) (Compile word l)
    → Answers (words_of (Compile word l)) bytes Done text told → Answers (words_of Bennett) bytes a table silent
    → Answers (words_of (Build (One (Letters word)) l)) table b again heard
    → (a ≡ Done) × (b ≡ Done) × (again ≡ text) × (heard ≡ told)

-- The inverse of what `inverse` printed of a table is a table with the entries of the first.
abbrev pub InversedTablesReturn : Type 0
InversedTablesReturn =
    (bytes text again : List ℕ) (status : Status) (told heard : List Place)
    → Answers (words_of Inverse) bytes Done text told → Answers (words_of Inverse) text status again heard
    → (status ≡ Done) × (entries_of again ≡ entries_of bytes)

-- The answer of `drive` to the table that `erase` printed reports the end only if each machine halts on the other's
-- word, and then it reports that output alone; if they do, it never reports a machine that is stuck.
abbrev pub ErasedTablesErase : Type 0
ErasedTablesErase =
    (bytes word table : List ℕ) (silent : List Place) → Answers (words_of Erase) bytes Done table silent
    → (t u : Named) (x : List ℕ) → AreErasedBy bytes word t u x
    → (l : Limits) (most : ℕ) (status : Status) (text : List ℕ) (told : List Place)
    → HasForm (words_of (Drive (One (Letters word)) l most)) (Drive (One (Letters word)) l most)
    → DriveAnswers word l table most status text told
    → (status ≡ Done → LeavesOutputAlone (joined t u) l x text)
    × ((v w : ℕ) (y : List ℕ) → HaltsAfter (joined t u).first x v y → HaltsAfter (joined t u).second y w x
    → status ≡ Stuck → ⊥)

-- it reports the end only if both machines halt in the window, each on the other's word
abbrev pub EndsTellHalts : Type 0
EndsTellHalts =
    (bytes word table : List ℕ) (silent : List Place) → Answers (words_of Erase) bytes Done table silent
    → (t u : Named) (x : List ℕ) → AreErasedBy bytes word t u x
    → (l : Limits) (most : ℕ) (text : List ℕ) (told : List Place)
    → HasForm (words_of (Drive (One (Letters word)) l most)) (Drive (One (Letters word)) l most)
    → DriveAnswers word l table most Done text told → (v w : ℕ) × (y : List ℕ) × TablesHaltIn t u x l v w y

-- If both machines halt in the window, each on the other's word, the signal of the circuit leaves by the end, and
-- `drive` reports it.
abbrev pub ErasedTablesComeOut : Type 0
ErasedTablesComeOut =
    (bytes word table : List ℕ) (silent : List Place) → Answers (words_of Erase) bytes Done table silent
    → (t u : Named) (x : List ℕ) → AreErasedBy bytes word t u x
    → (l : Limits) → AreSmall l → (v w : ℕ) (y : List ℕ) → TablesHaltIn t u x l v w y
    → (count : ℕ) × CircuitLeaves (DriveAnswers word l table) count (erasing_steps x y v w) Finished
    (λ cost text. text ≡ erased_end (joined t u) l y count cost (erasing_steps x y v w))

-- So with 2^52 element steps or more, which are enough in each window within the limits, `drive` reports the end with
-- y alone, unless the circuit has too many elements.
abbrev pub ErasedTablesTellOutput : Type 0
ErasedTablesTellOutput =
    (bytes word table : List ℕ) (silent : List Place) → Answers (words_of Erase) bytes Done table silent
    → (t u : Named) (x : List ℕ) → AreErasedBy bytes word t u x
    → (l : Limits) → AreSmall l → (v w : ℕ) (y : List ℕ) → TablesHaltIn t u x l v w y
    → (most : ℕ) (status : Status) (text : List ℕ) (told : List Place) → 2 ^ 52 ≤ most → most ≤ MOST_DRIVE_STEPS
    → DriveAnswers word l table most status text told
    → (status ≡ Size) ⊎ ((status ≡ Done) × ((count cost : ℕ)
    × (text ≡ erased_end (joined t u) l y count cost (erasing_steps x y v w))))

-- Whatever they do, the signal leaves in exactly its cost, if the word fits on tape 1, and `drive` reports it.
abbrev pub ErasedTablesEnd : Type 0
ErasedTablesEnd =
    (bytes word table : List ℕ) (silent : List Place) → Answers (words_of Erase) bytes Done table silent
    → (t u : Named) (x : List ℕ) → AreErasedBy bytes word t u x
    → (l : Limits) → AreSmall l → length x ≤ l.right
    → (n : ℕ) × (d : Configuration ErasingName) × (e : Exit) × TablesEndIn t u x l n d e
    × ((count : ℕ) × CircuitLeaves (DriveAnswers word l table) count n e (λ cost text. ⊤))

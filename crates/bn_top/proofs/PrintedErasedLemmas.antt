-- What `erase` printed, given to `drive`.
use Rattle.std.specs.Prelude.{◌≡◌, ℕ, ◌≤◌, List, length, refl, ⊤}
use Rattle.std.proofs.Common.{arith, inl, inr, subst, sym, ◌^◌}
use Rattle.std.proofs.lemmas.Bool.{cases_lt}
use Rattle.bn_circuits.specs.declared.net.TheConstants.{MOST_ELEMENTS}
use Rattle.bn_circuits.specs.declared.place.Place.{Place}
use Rattle.bn_machine.specs.Outcome.{Limits}
use Rattle.bn_qtable.specs.TapeWords.{Letters, One}
use Rattle.bn_table.specs.Rows.{Named}
use Rattle.bn_bennett_laws.specs.Steps.{Exit, Finished}
use Rattle.bn_erase.specs.Joint.{joined}
use Rattle.bn_network.specs.Limits.{AreSmall}
use Rattle.bn_reply.specs.declared.status.Status.{Status}
use Rattle.bn_reply.specs.declared.status.Status.TheVariants.{Done}
use Rattle.bn_reply.specs.declared.limits.TheConstants.{MOST_INPUT_BYTES}
use Rattle.bn_reply.proofs.TableLemmas.{reads_table}
use Rattle.bn_reply_erase.specs.EraseReply.{EraseReplies}
use Rattle.bn_reply_builds.specs.DriveReply.{DriveReplies}
use Rattle.bn_reply_builds.specs.ErasedDrives.{AreErasedBy}
use Rattle.bn_reply_builds.proofs.ErasedLemmas.{erased-circuits_erase}
use Rattle.bn_words.specs.Requests.{Drive, Erase, HasForm, words_of}
use Rattle.bn_network.specs.declared.limits.TheConstants.{MOST_DRIVE_STEPS}
use Rattle.bn_top.specs.Answers.{Answers}
use Rattle.bn_top.proofs.CommandClauseLemmas.{request_reply}
use Rattle.bn_top.proofs.TextLemmas.{done_reply}
use Rattle.bn_erase_laws.specs.EraseWindows.{erasing_steps}
use Rattle.bn_reply_erase.proofs.PrintedSizeLemmas.{erase-read}
use Rattle.bn_reply_builds.specs.ErasedRuns.{CircuitLeaves, erased_end}
use Rattle.bn_reply_builds.proofs.ErasedEndLemmas.{ends-tell_halts, erased-come_out, erased-end}
use Rattle.bn_reply_builds.proofs.ErasedTableLemmas.{table_is}
use Rattle.bn_top.specs.PrintedTables.{DriveAnswers, EndsTellHalts, ErasedTablesComeOut, ErasedTablesEnd}
use Rattle.bn_top.specs.PrintedTables.{ErasedTablesErase, ErasedTablesTellOutput}

module _ (bytes word table : List ℕ) (silent : List Place) (answer : Answers (words_of Erase) bytes Done table silent)
    (t u : Named) (x : List ℕ) (pair : AreErasedBy bytes word t u x) where
  printed : EraseReplies bytes Done table silent
  printed = done_reply (words_of Erase) bytes table silent Erase (record { words_are = refl; allowed = tt }) refl answer

  -- the table is within the limit of an input
  within : length table ≤ MOST_INPUT_BYTES
  within =
      let is = table_is bytes word table silent printed t u x pair in
      subst (λ (z : List ℕ). length z ≤ MOST_INPUT_BYTES) (sym is.0)
      (erase-read t u (reads_table pair.first t pair.reads) (reads_table pair.second u pair.also) is.1)

  -- an answer to `drive` is its reply
  drive_reply : (l : Limits) (most : ℕ) (status : Status) (text : List ℕ) (told : List Place)
      → HasForm (words_of (Drive (One (Letters word)) l most)) (Drive (One (Letters word)) l most)
      → DriveAnswers word l table most status text told
      → DriveReplies (One (Letters word)) l most table status text told
  drive_reply l most status text told form h =
      request_reply (words_of (Drive (One (Letters word)) l most)) table status text told h
      (Drive (One (Letters word)) l most) form refl within

  module _ (l : Limits) (small : AreSmall l) where
    small_reply : (most : ℕ) (status : Status) (text : List ℕ) (told : List Place) → most ≤ MOST_DRIVE_STEPS
        → DriveAnswers word l table most status text told
        → DriveReplies (One (Letters word)) l most table status text told
    small_reply most status text told low h =
        drive_reply l most status text told (record { words_are = refl; allowed = (small, low) }) h

    circuit : (count n : ℕ) (e : Exit) (is_text : ℕ → List ℕ → Type 0)
        → CircuitLeaves (λ most. DriveReplies (One (Letters word)) l most table) count n e is_text
        → CircuitLeaves (DriveAnswers word l table) count n e is_text
    circuit count n e is_text h = record {
      large = λ great most status text told low reply.
          h.large great most status text told low (small_reply most status text told low reply);
      leaves = λ few.
          let c = h.leaves few in (
            c.0,
            record {
              above = c.1.above;
              below = c.1.below;
              few = c.1.few;
              left = λ most status text told low reply enough.
                  c.1.left most status text told low (small_reply most status text told low reply) enough;
              inside = λ most status text told low reply more.
                  c.1.inside most status text told low (small_reply most status text told low reply) more;
            },
          );
    }

pub erased-tables : ErasedTablesErase
erased-tables bytes word table silent answer t u x pair l most status text told form h =
    let done = printed bytes word table silent answer t u x pair in
    erased-circuits_erase bytes word table silent done t u x pair l most status text told form.allowed.1
    (drive_reply bytes word table silent answer t u x pair l most status text told form h)

pub ends-tell : EndsTellHalts
ends-tell bytes word table silent answer t u x pair l most text told form h =
    ends-tell_halts bytes word table silent (printed bytes word table silent answer t u x pair) t u x pair l
    form.allowed.0 most text told form.allowed.1
    (drive_reply bytes word table silent answer t u x pair l most Done text told form h)

pub erased-tables_come_out : ErasedTablesComeOut
erased-tables_come_out bytes word table silent answer t u x pair l small v w y halt =
    let n : ℕ = erasing_steps x y v w in
    let found = erased-come_out bytes word table silent (printed bytes word table silent answer t u x pair) t u x pair l
    small v w y halt in (
      found.count,
      circuit bytes word table silent answer t u x pair l small found.count n Finished
          (λ cost text. text ≡ erased_end (joined t u) l y found.count cost n) found.circuit,
    )

pub erased-tables_output : ErasedTablesTellOutput
erased-tables_output bytes word table silent answer t u x pair l small v w y halt most status text told enough low h =
    let found = erased-tables_come_out bytes word table silent answer t u x pair l small v w y halt in
    elim (cases_lt MOST_ELEMENTS found.0) [
      | inl great ↦ inl (found.1.large great most status text told low h).0
      | inr few ↦
          let leaves = found.1.leaves few in
          let cost : leaves.0 ≤ 2 ^ 52 = leaves.1.few in
          let answered = leaves.1.left most status text told low h (omega arith) in
          inr (answered.0, (found.0, leaves.0, answered.1))
    ]

pub erased-tables_end : ErasedTablesEnd
erased-tables_end bytes word table silent answer t u x pair l small fits =
    let found = erased-end bytes word table silent (printed bytes word table silent answer t u x pair) t u x pair l
    small fits in (
      found.0,
      found.1,
      found.2,
      found.3,
      (
        found.4.count,
        circuit bytes word table silent answer t u x pair l small found.4.count found.0 found.2 (λ cost text. ⊤)
            found.4.circuit,
      ),
    )

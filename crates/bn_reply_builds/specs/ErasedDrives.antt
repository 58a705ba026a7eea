-- The circuit that erases its input, by what the commands print: `drive` of the table that `erase` printed for two
-- tables (Bennett 1973, his last construction; the words and the texts are this project's own profile).
use Rattle.std.specs.Prelude.{◌≡◌, ℕ, ◌+◌, ◌*◌, ◌≤◌, List, [], ◌∷◌, ◌++◌, codes, length}
use Rattle.bn_base.specs.Cuts.{IsCut}
use Rattle.bn_circuits.specs.declared.place.Place.{Place}
use Rattle.bn_machine.specs.Outcome.{Limits}
use Rattle.bn_machine.specs.Tape.{blank_tape, word_tape}
use Rattle.bn_table.specs.Reading.{Reads}
use Rattle.bn_table.specs.Rows.{Named}
use Rattle.bn_machine.specs.Standard.{IsStandard}
use Rattle.bn_qtable.specs.TapeWords.{Letters, One}
use Rattle.bn_bennett_laws.specs.Laws.{HaltsAfter}
use Rattle.bn_erase.specs.Joint.{Joint, joined}
use Rattle.bn_erase.specs.Printed.{history_names, letter_names}
use Rattle.bn_boards.specs.Layouts.{tape_in}
use Rattle.bn_reply.specs.Lines.{line}
use Rattle.bn_reply.specs.Words.{IsSpelledBy}
use Rattle.bn_reply.specs.declared.status.Status.{Status}
use Rattle.bn_reply.specs.declared.status.Status.TheVariants.{Done, Stuck}
use Rattle.bn_reply_relations.specs.RunText.{elements_line, quadruple_line, steps_line}
use Rattle.bn_reply_erase.specs.EraseReply.{EraseReplies, lettered}
use Rattle.bn_reply_builds.specs.DriveText.{drive_tape_line}
use Rattle.bn_reply_builds.specs.DriveReply.{DriveReplies}
use Rattle.bn_network.specs.declared.limits.TheConstants.{MOST_DRIVE_STEPS}

-- The bytes are two tables with machines in standard form, t and u, and the word is spelled by the symbols x of the
-- alphabet of both.
pub record AreErasedBy (bytes word : List ℕ) (t u : Named) (x : List ℕ) : Type 0 where
  pub first : List ℕ
  pub second : List ℕ
  pub cut : IsCut bytes first second
  pub reads : Reads first t
  pub also : Reads second u
  pub standard : IsStandard t.machine.quints
  pub fit : IsStandard u.machine.quints
  pub spelled : IsSpelledBy (lettered (joined t u)) word x

-- the lines of three tapes in a window: tapes 1 and 2 blank, and on tape 3 the word y alone
abbrev pub output_lines : Joint → Limits → List ℕ → List ℕ
output_lines j l y =
    drive_tape_line (letter_names j) 1 (tape_in l.left (l.left + l.right + 1) blank_tape)
    ++ (drive_tape_line (history_names j) 2 (tape_in 0 (l.steps + 1) blank_tape)
    ++ drive_tape_line (letter_names j) 3 (tape_in 0 (l.output + 1) (word_tape y)))

-- The first machine halts on x after v steps with an output y, and the second one on y after w steps with the output x;
-- and the text reports the end, after 4(v + w) + 4(|x| + |y|) + 10 steps of the machine composed of both, with y alone
-- on the tapes.
pub record LeavesOutputAlone (j : Joint) (l : Limits) (x text : List ℕ) : Type 0 where
  pub y : List ℕ
  pub v : ℕ
  pub w : ℕ
  pub there : HaltsAfter j.first x v y
  pub back : HaltsAfter j.second y w x
  pub count : ℕ
  pub cost : ℕ
  pub text_is : text ≡ elements_line count ++ (line (codes "exit end" ∷ []) ++ (steps_line cost
      ++ (quadruple_line (4 * (v + w) + 4 * (length x + length y) + 10) ++ output_lines j l y)))

-- The answer of `drive` to the table that `erase` prints, and a word, reports the end only if each machine halts on
-- the other's word, and then it reports that output alone; if they do, it never reports a machine that is stuck.
abbrev pub ErasedCircuitsErase : Type 0
ErasedCircuitsErase =
    (bytes word table : List ℕ) (silent : List Place) → EraseReplies bytes Done table silent
    → (t u : Named) (x : List ℕ) → AreErasedBy bytes word t u x
    → (l : Limits) (most : ℕ) (status : Status) (text : List ℕ) (told : List Place) → most ≤ MOST_DRIVE_STEPS
    → DriveReplies (One (Letters word)) l most table status text told
    → (status ≡ Done → LeavesOutputAlone (joined t u) l x text)
    × ((v w : ℕ) (y : List ℕ) → HaltsAfter (joined t u).first x v y → HaltsAfter (joined t u).second y w x
    → status ≡ Stuck → ⊥)

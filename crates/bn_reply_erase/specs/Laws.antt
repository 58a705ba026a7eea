-- The statements of this crate's laws, each a field of `Laws`.
use Rattle.std.specs.Prelude.{◌≡◌, ℕ, ◌+◌, ◌*◌, ◌≤◌, List, [], length}
use Rattle.bn_circuits.specs.declared.place.Place.{Place}
use Rattle.bn_table.specs.Reading.{Reads}
use Rattle.bn_table.specs.Rows.{Named}
use Rattle.bn_machine.specs.Standard.{IsStandard}
use Rattle.bn_bennett_laws.specs.Laws.{HaltsAfter}
use Rattle.bn_erase.specs.Joint.{joined}
use Rattle.bn_erase.specs.declared.erasing.TheConstants.{MOST_QUADRUPLES}
use Rattle.bn_base.specs.Cuts.{IsCut}
use Rattle.bn_reply.specs.Words.{IsSpelledBy}
use Rattle.bn_reply.specs.declared.status.Status.{Status}
use Rattle.bn_reply.specs.declared.status.Status.TheVariants.{Done}
use Rattle.bn_reply_erase.specs.EraseReply.{EraseRunReplies, erasing_of, erased_lines, lettered}
use Rattle.bn_base.specs.declared.limits.TheConstants.{MOST_COUNT}
use Rattle.bn_reply_erase.specs.EraseReply.{EraseIsSettled, EraseRunIsSettled}
use Rattle.bn_reply_erase.specs.PrintedSizes.{BennettTextsMayBeRead, EraseTextsMayBeRead, InverseTextsMayBeRead}

-- the bytes are two tables with machines in standard form, the word is spelled by these symbols of the joint letters,
-- and neither the word nor the erasing machine is too large
pub record IsAskedOf (bytes word : List ℕ) (t u : Named) (symbols : List ℕ) : Type 0 where
  pub first : List ℕ
  pub second : List ℕ
  pub cut : IsCut bytes first second
  pub reads_first : Reads first t
  pub reads_second : Reads second u
  pub standard_first : IsStandard t.machine.quints
  pub standard_second : IsStandard u.machine.quints
  pub spells : IsSpelledBy (lettered (joined t u)) word symbols
  pub short : length symbols ≤ MOST_COUNT
  pub few : length (erasing_of (joined t u)) ≤ MOST_QUADRUPLES

-- Over the joint alphabet the first machine halts on these symbols after v steps with the output y, the second on y
-- after w steps with these symbols as its output, and i is the erasing machine's number of steps, at most n.
pub record BothHalt (t u : Named) (symbols : List ℕ) (n i : ℕ) (y : List ℕ) : Type 0 where
  pub v : ℕ
  pub w : ℕ
  pub first : HaltsAfter (joined t u).first symbols v y
  pub second : HaltsAfter (joined t u).second y w symbols
  pub steps : i ≡ 4 * (v + w) + 4 * (length symbols + length y) + 10
  pub in_time : i ≤ n

-- the answer is that the run halts after i steps with no word on the work tape and the output y
pub record TellsHalt (t u : Named) (i : ℕ) (y : List ℕ) (status : Status) (text : List ℕ) : Type 0 where
  pub status_is : status ≡ Done
  pub text_is : text ≡ erased_lines (joined t u) i [] y

-- The answer reports a halt exactly if both machines halt, each on the other's word, and the number of steps that the
-- erasing machine then makes is at most n; and it reports this number and the first machine's output.
abbrev pub ErasingRunsTellBoth : Type 0
ErasingRunsTellBoth =
    (bytes word : List ℕ) (t u : Named) (symbols : List ℕ) (n : ℕ) (status : Status) (text : List ℕ)
    (told : List Place) → IsAskedOf bytes word t u symbols → EraseRunReplies word n bytes status text told
    → ((i : ℕ) (y : List ℕ) → BothHalt t u symbols n i y → TellsHalt t u i y status text)
    × (status ≡ Done → (i : ℕ) × (y : List ℕ) × BothHalt t u symbols n i y × TellsHalt t u i y status text)

-- ---- the laws

pub record Laws : Type 0 where
  -- For all bytes, `erase` has exactly one answer.
  pub erase_has_one_reply : EraseIsSettled
  -- For all words, numbers of steps and bytes, `erase =W n` has exactly one answer.
  pub erase_run_has_one_reply : EraseRunIsSettled
  -- `erase =W n` answers that the run halts exactly if both machines do, each on the other's word, and the number of
  -- steps that the erasing machine then makes is at most n (Bennett 1973).
  pub erasing_runs_tell_both : ErasingRunsTellBoth
  -- The table that `bennett` prints is within the limit of an input.
  pub bennett_texts_may_be_read : BennettTextsMayBeRead
  -- The table that `erase` prints is within the limit of an input.
  pub erase_texts_may_be_read : EraseTextsMayBeRead
  -- The table that `inverse` prints is within the limit of an input.
  pub inverse_texts_may_be_read : InverseTextsMayBeRead

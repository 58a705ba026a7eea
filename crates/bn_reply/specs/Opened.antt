-- The results of opening bytes as a table, a machine as one in standard form, and a word.
use Rattle.std.specs.Prelude.{◌≡◌, ℕ, List}
use Rattle.bn_table.specs.Reading.{Reads}
use Rattle.bn_table.specs.Rows.{Named}
use Rattle.bn_machine.specs.Standard.{IsStandard}
use Rattle.bn_reply.specs.Lines.{foreign_line}
use Rattle.bn_reply.specs.Words.{IsFirstForeign, IsSpelledBy}
use Rattle.bn_reply.specs.TableReply.{TellsFault, TellsWhy}
use Rattle.bn_reply.specs.declared.reply.Reply.{Reply}
use Rattle.bn_reply.specs.declared.status.Status.TheVariants as statuses
use Rattle.bn_reply.specs.declared.opening.OpenedTable.{OpenedTable}
use Rattle.bn_reply.specs.declared.opening.OpenedTable.TheVariants as table
use Rattle.bn_reply.specs.declared.opening.Judged.{Judged}
use Rattle.bn_reply.specs.declared.opening.Judged.TheVariants as judged
use Rattle.bn_reply.specs.declared.opening.OpenedWord.{OpenedWord}
use Rattle.bn_reply.specs.declared.opening.OpenedWord.TheVariants as spelling

-- the bytes' table, or the answer if there is none
abbrev pub IsOpenedTable : List ℕ → OpenedTable → Type 0
IsOpenedTable bytes (table.Read t) = Reads bytes t
IsOpenedTable bytes (table.Refused reply) = (reply.status ≡ statuses.Text) × TellsFault bytes reply.text.items

-- the table's machine, which is in standard form, or the answer if it is not
abbrev pub IsJudged : Named → Judged → Type 0
IsJudged t (judged.Standard s) = (s ≡ t.machine) × IsStandard t.machine.quints
IsJudged t (judged.Refused reply) = (reply.status ≡ statuses.Machine) × TellsWhy t reply.text.items

-- the answer names the first place of the word that is foreign
pub record IsForeign (t : Named) (word : List ℕ) (reply : Reply) : Type 0 where
  pub refused : reply.status ≡ statuses.Word
  pub place : ℕ
  pub first : IsFirstForeign t word place
  pub told : reply.text.items ≡ foreign_line place

-- the symbols of the word, or the answer if it has none
abbrev pub IsOpenedWord : Named → List ℕ → OpenedWord → Type 0
IsOpenedWord t word (spelling.Symbols symbols) = IsSpelledBy t word symbols.items
IsOpenedWord t word (spelling.Refused reply) = IsForeign t word reply

-- The results of opening bytes as two tables, and of testing two machines for standard form.
use Rattle.std.specs.Prelude.{◌≡◌, ◌≢◌, ℕ, List, []}
use Rattle.bn_circuits.specs.declared.place.Place.{Place}
use Rattle.bn_table.specs.Reading.{Reads}
use Rattle.bn_table.specs.Rows.{Named}
use Rattle.bn_machine.specs.Standard.{IsStandard}
use Rattle.bn_machine.specs.Verdict.{IsStandardRefusal}
use Rattle.bn_machine.specs.declared.why.Why.{Why}
use Rattle.bn_machine.specs.declared.why.Why.TheVariants as whys
use Rattle.bn_erase.specs.Joint.{Joint, joined}
use Rattle.bn_base.specs.Cuts.{IsCut}
use Rattle.bn_reply.specs.Lines.{why_line}
use Rattle.bn_reply.specs.TableReply.{TellsFault}
use Rattle.bn_reply.specs.declared.reply.Reply.{Reply}
use Rattle.bn_reply.specs.declared.status.Status.{Status}
use Rattle.bn_reply.specs.declared.status.Status.TheVariants as statuses
use Rattle.bn_reply_erase.specs.Pairs.{PairReplies, TwoReplies, with_second}
use Rattle.bn_reply_erase.specs.declared.pair.OpenedPair.{OpenedPair}
use Rattle.bn_reply_erase.specs.declared.pair.OpenedPair.TheVariants as opened
use Rattle.bn_reply_erase.specs.declared.pair.JudgedPair.{JudgedPair}
use Rattle.bn_reply_erase.specs.declared.pair.JudgedPair.TheVariants as judged

-- two tables with machines in standard form have no answer here, so every answer is a refusal
abbrev pub nothing : Named → Named → Status → List ℕ → List Place → Type 0
nothing t u status text told = ⊥

-- the two tables' machines over one alphabet, or the answer if there are not two tables
abbrev pub IsOpenedSecond : Named → List ℕ → OpenedPair → Type 0
IsOpenedSecond t bytes (opened.Joined j) = (u : Named) × Reads bytes u × (j ≡ joined t u)
IsOpenedSecond t bytes (opened.Refused reply) = (refusal : List ℕ) × TellsFault bytes refusal
    × (reply.text.items ≡ with_second refusal) × (reply.status ≡ statuses.Text)

abbrev pub AreOpened : List ℕ → List ℕ → OpenedPair → Type 0
AreOpened first second (opened.Joined j) = (t u : Named) × Reads first t × Reads second u × (j ≡ joined t u)
AreOpened first second (opened.Refused reply) = TwoReplies nothing first second reply.status reply.text.items []

abbrev pub IsOpenedPair : List ℕ → OpenedPair → Type 0
IsOpenedPair bytes (opened.Joined j) =
    (first second : List ℕ) × IsCut bytes first second
    × ((t u : Named) × Reads first t × Reads second u × (j ≡ joined t u))
IsOpenedPair bytes (opened.Refused reply) = PairReplies nothing bytes reply.status reply.text.items []

-- the answer names the first condition that the first machine does not meet, or else the second
pub data IsUnfitPair (j : Joint) (reply : Reply) : Type 0 where
  first_unfit : (why : Why) → IsStandardRefusal j.first.quints why → why ≢ whys.NoMemory
      → reply.text.items ≡ why_line why
      → reply.status ≡ statuses.Machine → IsUnfitPair j reply
  second_unfit : IsStandard j.first.quints → (why : Why) → IsStandardRefusal j.second.quints why → why ≢ whys.NoMemory
      → reply.text.items ≡ with_second (why_line why) → reply.status ≡ statuses.Machine → IsUnfitPair j reply

-- the two machines, both in standard form, or the answer if they are not
abbrev pub IsJudgedPair : Joint → JudgedPair → Type 0
IsJudgedPair j (judged.Standard p q) =
    (p ≡ j.first) × (q ≡ j.second) × IsStandard j.first.quints × IsStandard j.second.quints
IsJudgedPair j (judged.Refused reply) = IsUnfitPair j reply

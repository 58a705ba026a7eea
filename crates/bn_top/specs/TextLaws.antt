-- What the workbench prints can be given to it again: what a user expects of `compile`, `build`, `realise`, `mirror`
-- and `farm`, over the workbench's own relation, with the limits of the input.
use Rattle.std.specs.Prelude.{◌≡◌, ℕ, ◌≤◌, List, length}
use Rattle.bn_circuits.specs.declared.place.Place.{Place}
use Rattle.bn_machine.specs.Outcome.{Limits}
use Rattle.bn_reply.specs.declared.limits.TheConstants.{MOST_INPUT_BYTES}
use Rattle.bn_reply.specs.declared.status.Status.{Status}
use Rattle.bn_reply.specs.declared.status.Status.TheVariants.{Done}
use Rattle.bn_reply_circuits.specs.FarmReply as farm
use Rattle.bn_reply_circuits.specs.MirrorLaws.{IsUncounted}
use Rattle.bn_qtable.specs.TapeWords.{TapeWords}
use Rattle.bn_words.specs.Requests.{Back, Build, Compile, Farm, HasForm, Mirror, Realise, Request, Step, words_of}
use Rattle.bn_top.specs.Answers.{Answers}

-- The text is given to `step` with the number e, and its answer to `back` with e: both calls answer, and the second
-- prints the text again, byte for byte.
abbrev pub StepsAndBack : List ℕ → Type 0
StepsAndBack text =
    (e : ℕ) (a b : Status) (middle last : List ℕ) (told heard : List Place) → HasForm (words_of (Step e)) (Step e)
    → Answers (words_of (Step e)) text a middle told → Answers (words_of (Back e)) middle b last heard
    → (a ≡ Done) × (b ≡ Done) × (last ≡ text)

-- What such a request printed steps forward and back to itself.
abbrev pub PrintsWhatStepsBack : Request → Type 0
PrintsWhatStepsBack request =
    (bytes text : List ℕ) (told : List Place) → HasForm (words_of request) request
    → Answers (words_of request) bytes Done text told → StepsAndBack text

abbrev pub CompiledTextsReturn : Type 0
CompiledTextsReturn = (word : List ℕ) (l : Limits) → PrintsWhatStepsBack (Compile word l)

abbrev pub BuiltTextsReturn : Type 0
BuiltTextsReturn = (words : TapeWords) (l : Limits) → PrintsWhatStepsBack (Build words l)

abbrev pub RealisedTextsReturn : Type 0
RealisedTextsReturn = (q i : ℕ) → PrintsWhatStepsBack (Realise q i)

-- The inverse circuit of what `mirror` printed is the first text, with no steps counted.
abbrev pub MirroredTextsReturn : Type 0
MirroredTextsReturn =
    (bytes text again : List ℕ) (status : Status) (told heard : List Place)
    → Answers (words_of Mirror) bytes Done text told → Answers (words_of Mirror) text status again heard
    → (status ≡ Done) × IsUncounted bytes again

-- What `farm` printed, if it is within the limit of an input, undoes the schedule: the first circuits again, and of the
-- schedule the lines that made steps. A schedule that undoes another can be longer, so the limit is a premise.
abbrev pub FarmedTextsReturn : Type 0
FarmedTextsReturn =
    (bytes text again : List ℕ) (status : Status) (told heard : List Place)
    → Answers (words_of Farm) bytes Done text told → length text ≤ MOST_INPUT_BYTES
    → Answers (words_of Farm) text status again heard → (status ≡ Done) × farm.ComesBack bytes again

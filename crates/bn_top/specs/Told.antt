-- What a sink has received and a watch has heard when the workbench ends.
use Rattle.std.specs.Prelude.{◌≡◌, ◌≢◌, ℕ, List, [], ◌∷◌, false, Option, codes, decimal}
use Rattle.bn_circuits.specs.declared.place.Place.{Place}
use Rattle.bn_io.specs.Faults.{Rose}
use Rattle.bn_io.specs.Told.{Grows, GrowsByFront}
use Rattle.bn_circuits.specs.Watching.{Hears}
use Rattle.bn_words.specs.Requests.{HasForm, Request, reads_input}
use Rattle.bn_gen.specs.Increments.{IsRoundCount}
use Rattle.bn_reply_boards.specs.GenerateLaws.{TellsGenerated}
use Rattle.bn_reply.specs.Codes.{IsAnswer}
use Rattle.bn_reply.specs.Streams as streams
use Rattle.bn_reply.specs.Streams.{read_fault_text}
use Rattle.bn_top.specs.Answers.{Answers, usage_text}
use Rattle.bn_reply.specs.declared.status.Status.{Status}
use Rattle.bn_reply.specs.declared.status.Status.TheVariants.{Usage, ReadFault, WriteFault, NoMemory}

-- The answer was given whole: the sink received its text, and the watch heard its places.
pub record IsAnswered (words : List (List ℕ)) (bytes : List ℕ) (status : Status) (taken took : Option (List ℕ))
    (told heard : Option (List Place)) : Type 0 where
  pub text : List ℕ
  pub places : List Place
  pub answers : Answers words bytes status text places
  pub grows : Grows taken took text
  pub hears : Hears told places heard

-- the answer was begun
abbrev pub IsBegun : List (List ℕ) → List ℕ → Option (List ℕ) → Option (List ℕ) → Option (List Place)
    → Option (List Place) → Type 0
IsBegun words bytes taken took told heard = streams.IsBegun (Answers words bytes) taken took told heard

-- nothing was given yet, or the answer was begun
abbrev pub IsBroken : List (List ℕ) → List ℕ → Option (List ℕ) → Option (List ℕ) → Option (List Place)
    → Option (List Place) → Type 0
IsBroken words bytes taken took told heard = streams.IsBroken (Answers words bytes) taken took told heard

-- If the arguments have no form, the sink received the line that says so, or a prefix of it if it fails.
abbrev pub UsageEnds : Status → Option (List ℕ) → Option (List ℕ) → Type 0
UsageEnds Usage taken took = Grows taken took usage_text
UsageEnds WriteFault taken took = GrowsByFront taken took usage_text
UsageEnds _ taken took = ⊥

-- The sink received a prefix of the line that says that reading failed, after the source failed.
pub record IsReadFaultCut (before now : ℕ) (taken took : Option (List ℕ))
    (told heard : Option (List Place)) : Type 0 where
  pub source : Rose before now
  pub grows : GrowsByFront taken took read_fault_text
  pub hears : Hears told [] heard

-- the arguments ask for a command that needs no input
pub record NeedsNoInput (words : List (List ℕ)) : Type 0 where
  pub request : Request
  pub form : HasForm words request
  pub unread : reads_input request ≡ false

-- how such an answer ends: it is the answer to no bytes at all
pub record EndsWithoutInput (words : List (List ℕ)) (result : Status) (taken took : Option (List ℕ))
    (told heard : Option (List Place)) : Type 0 where
  pub answered : IsAnswer result → IsAnswered words [] result taken took told heard
  pub cut : result ≡ WriteFault → IsBegun words [] taken took told heard
  pub broken : result ≡ NoMemory → IsBroken words [] taken took told heard
  pub unread : result ≢ ReadFault

-- if the arguments are `generate` and a number of increments, the sink received a text that reports the run of the
-- machine of that many increments
abbrev pub TellsGenerate : List (List ℕ) → Status → Option (List ℕ) → Option (List ℕ) → Type 0
TellsGenerate words status taken took =
    (k : ℕ) → IsRoundCount k → words ≡ codes "generate" ∷ decimal k ∷ []
    → (text : List ℕ) × Grows taken took text × TellsGenerated k status text

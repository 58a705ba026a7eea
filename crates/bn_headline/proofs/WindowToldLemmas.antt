-- An answer to the search tells what the search finds.
use Rattle.std.specs.Prelude.{◌≢◌, ℕ, List, Option, Result, Ok, Err, IfOk}
use Rattle.bn_circuits.specs.declared.place.Place.{Place}
use Rattle.bn_lists.specs.declared.memory.NoMemory.{NoMemory}
use Rattle.bn_reply.specs.Replying.{IsReplied}
use Rattle.bn_reply.specs.declared.reply.Reply.{Reply}
use Rattle.bn_reply.specs.declared.status.Status.TheVariants as statuses
use Rattle.bn_headline.specs.AutoReply.{AutoReplies}
use Rattle.bn_headline.specs.AutoLaws.{AutosEndInside, AutosTellFindings, AutosTellPlaces}
use Rattle.bn_headline.specs.Told.{HearsSearch, TellsSearch}

module _ (bytes letters : List ℕ) (told heard : Option (List Place)) where
  pub found_of : AutosTellFindings → (result : Result Reply NoMemory)
      → IfOk result (λ r. IsReplied (AutoReplies letters bytes) r told heard)
      → IfOk result (λ r. TellsSearch bytes letters r.status r.text.items)
  found_of law (Ok r) h = λ t symbols given n a finding. law bytes letters t symbols r.status r.text.items h.places
      given h.right n a finding
  found_of law (Err e) h = tt

  pub told_of : AutosTellPlaces → (result : Result Reply NoMemory)
      → IfOk result (λ r. IsReplied (AutoReplies letters bytes) r told heard)
      → IfOk result (λ r. HearsSearch bytes letters told heard)
  told_of law (Ok r) h = λ t symbols given n a finding.
      (h.places, law bytes letters t symbols r.status r.text.items h.places given h.right n a finding, h.hears)
  told_of law (Err e) h = tt

  pub inside_of : AutosEndInside → (result : Result Reply NoMemory)
      → IfOk result (λ r. IsReplied (AutoReplies letters bytes) r told heard)
      → IfOk result (λ r. (r.status ≢ statuses.Window) × (r.status ≢ statuses.Inside))
  inside_of law (Ok r) h = law bytes letters r.status r.text.items h.places h.right
  inside_of law (Err e) h = tt

-- An answer that isn't written yet, as a reply and as it is given.
use Rattle.std.specs.Prelude.{◌≡◌, ℕ, List, [], Option, Ok, refl}
use Rattle.std.proofs.Common.{sym, subst}
use Rattle.bn_circuits.specs.declared.place.Place.{Place}
use Rattle.bn_circuits.proofs.WalkLemmas.{hears-nothing}
use Rattle.bn_netlist_laws.specs.Spelling.{Spelling, Admits, IsTextOf}
use Rattle.bn_netlist_laws.specs.declared.version.Version.{Version}
use Rattle.bn_netlist_laws.proofs.EntryLemmas.{has-text}
use Rattle.bn_reply.specs.Ends.{FinishesReply, TextEnds}
use Rattle.bn_reply.specs.Streams.{AnswerEnds, wanting, unbegun}
use Rattle.bn_reply.specs.declared.reply.Reply.{Reply}
use Rattle.bn_reply.specs.declared.status.Status.{Status}
use Rattle.bn_reply.specs.declared.status.Status.TheVariants.{Done, NoMemory}
use Rattle.bn_reply.proofs.ReplyLemmas.{ends_as, grows_nothing, silent_ends, text_ends}
use Rattle.bn_reply_circuits.specs.Unwritten.{IsWrittenAs, WillReply}
use Rattle.bn_reply_circuits.specs.declared.unwritten.Unwritten.{Unwritten}
use Rattle.bn_reply_circuits.specs.declared.unwritten.Unwritten.TheVariants.{Line}

-- a reply that is there
pub line_will : (replies : Status → List ℕ → List Place → Type 0) (r : Reply) → replies r.status r.text.items []
    → WillReply replies (Line r)
line_will replies r h = record {
  writable = tt;
  right = λ status text is. subst (λ st. replies st text []) (sym is.0)
      (subst (λ z. replies r.status z []) (sym is.1) h);
}

-- what is a reply of one command and so of another
pub will_as : (P Q : Status → List ℕ → List Place → Type 0) → ((status : Status) (text : List ℕ) → P status text []
    → Q status text []) →
    (a : Unwritten) → WillReply P a → WillReply Q a
will_as P Q each a h = record {
  writable = h.writable;
  right = λ status text is. each status text (h.right status text is);
}

-- given, it is an answer
pub will_ends : (replies : Status → List ℕ → List Place → Type 0) (a : Unwritten) (result : Status)
    (taken took : Option (List ℕ)) (before now : ℕ)
    (told : Option (List Place)) → WillReply replies a →
    AnswerEnds (λ status text places. IsWrittenAs a status text × (places ≡ [])) result taken took before now told told
    →
    AnswerEnds replies result taken took before now told told
will_ends replies a result taken took before now told h ends =
    ends_as (λ status text places. IsWrittenAs a status text × (places ≡ [])) replies
    (λ status text places is. subst (replies status text) (sym is.1) (h.right status text is.0)) taken took told told
    result before now ends

-- no answer, for want of memory
pub none_ends : (replies : Status → List ℕ → List Place → Type 0) (taken : Option (List ℕ)) (before : ℕ)
    (told : Option (List Place)) →
    AnswerEnds replies NoMemory taken taken before before told told
none_ends replies taken before told = wanting refl (unbegun (grows_nothing taken taken refl) (hears-nothing told))

-- a reply that is given
pub line_ends : (r : Reply) (result : Status) (taken took : Option (List ℕ)) (before now : ℕ)
    (told : Option (List Place)) →
    FinishesReply (Ok r) result taken took before now →
    AnswerEnds (λ status text places. IsWrittenAs (Line r) status text × (places ≡ [])) result taken took before now
    told told
line_ends r result taken took before now told ends =
    silent_ends (λ status text places. IsWrittenAs (Line r) status text × (places ≡ [])) (Ok r) result taken took before
    now told ((refl, refl), refl) ends

-- the text of a configuration that is given in pieces
pub config_ends : (v : Version) (s : Spelling) (result : Status) (taken took : Option (List ℕ)) (before now : ℕ)
    (told : Option (List Place)) → Admits v s →
    TextEnds (IsTextOf v s) result taken took before now →
    AnswerEnds (λ status text places. ((status ≡ Done) × IsTextOf v s text) × (places ≡ [])) result taken took before
    now told told
config_ends v s result taken took before now told admitted ends =
    let text = has-text v s admitted in
    text_ends (λ status text places. ((status ≡ Done) × IsTextOf v s text) × (places ≡ [])) (IsTextOf v s) text.0 []
    result taken took before now
    told told text.1.is_text ((refl, text.1.is_text), refl) (hears-nothing told) ends

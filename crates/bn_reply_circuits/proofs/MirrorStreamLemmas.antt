-- How `mirror` ends over a source and a sink.
use Rattle.std.specs.Prelude.{◌≡◌, ℕ, List, [], Option, refl}
use Rattle.bn_circuits.specs.declared.place.Place.{Place}
use Rattle.bn_circuits.proofs.WalkLemmas.{hears-nothing}
use Rattle.bn_netlist_laws.specs.Spelling.{Admits, IsTextOf, Spelled}
use Rattle.bn_netlist_laws.proofs.EntryLemmas.{has-text}
use Rattle.bn_netlist.specs.NetText.{spelling_of}
use Rattle.bn_netlist.specs.declared.net_config.NetConfig.{NetConfig}
use Rattle.std.proofs.Common.{subst}
use Rattle.bn_mirror.specs.Mirror.{IsMirror}
use Rattle.bn_reply.specs.Ends.{TextEnds}
use Rattle.bn_reply.specs.Streams.{AnswerEnds}
use Rattle.bn_reply.specs.declared.status.Status.{Status}
use Rattle.bn_reply.specs.declared.status.Status.TheVariants as statuses
use Rattle.bn_reply.proofs.ReplyLemmas.{text_ends}
use Rattle.bn_reply_relations.specs.CircuitReply.{Misspelled}
use Rattle.bn_reply_circuits.specs.MirrorReply.{MirrorReplies, mirrored, misspelled}

pub mirror_refuses : (bytes text : List ℕ) → Misspelled bytes text → MirrorReplies bytes statuses.Text text []
mirror_refuses bytes text is = misspelled is refl refl

pub mirror_ends : (c m : NetConfig) (bytes : List ℕ) (result : Status) (taken took : Option (List ℕ)) (before now : ℕ)
    (told : Option (List Place)) →
    Spelled c.version (spelling_of c) bytes → IsMirror (spelling_of c) (spelling_of m) → m.version ≡ c.version
    → Admits m.version (spelling_of m) →
    TextEnds (IsTextOf m.version (spelling_of m)) result taken took before now
    → AnswerEnds (MirrorReplies bytes) result taken took before now told told
mirror_ends c m bytes result taken took before now told spelled is same admitted ends =
    let text = has-text m.version (spelling_of m) admitted in
    let written = subst (λ v. IsTextOf v (spelling_of m) text.0) same text.1.is_text in
    text_ends (MirrorReplies bytes) (IsTextOf m.version (spelling_of m)) text.0 [] result taken took before now told
    told text.1.is_text
    (mirrored (record {
      version = c.version;
      spelling = spelling_of c;
      spelled = spelled;
      image = spelling_of m;
      is_mirror = is;
      written = written;
    }) refl refl)
    (hears-nothing told) ends

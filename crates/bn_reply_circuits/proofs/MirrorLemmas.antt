-- The reply of the command `mirror`, of which there is one and only one.
use Rattle.std.specs.Prelude.{◌≡◌, ◌⊎◌, ℕ, List, [], refl}
use Rattle.std.proofs.Common.{inl, inr, sym, subst, ◌∙◌}
use Rattle.bn_circuits.specs.Situations.{counted, situation_of}
use Rattle.bn_circuits.specs.declared.place.Place.{Place}
use Rattle.bn_netlist_laws.specs.Faults.{Fault, IsFirstFault}
use Rattle.bn_netlist_laws.specs.Spelling.{Spelling, AreSame, Spelled, moved_to}
use Rattle.bn_netlist_laws.specs.declared.version.Version.{Version}
use Rattle.bn_netlist_laws.proofs.DecideLemmas.{texts-spell-or-fault}
use Rattle.bn_netlist_laws.proofs.EntryLemmas.{has-text, same-have-one-text}
use Rattle.bn_netlist_laws.proofs.TextLemmas.{spellings-agree, faulty_texts-spell-nothing}
use Rattle.bn_netlist_laws.proofs.VersionLemmas.{spelled-alike}
use Rattle.bn_mirror.proofs.AdmittedLemmas.{mirrors-admitted, mirrors-there, mirrors-one, mirrors-turn_back}
use Rattle.bn_reply.specs.Answering.{HasAnswer, IsOneAnswer}
use Rattle.bn_reply.specs.Codes.{IsReplyStatus}
use Rattle.bn_reply.proofs.SettledLemmas.{agree}
use Rattle.bn_reply.specs.declared.status.Status.{Status}
use Rattle.bn_reply.specs.declared.status.Status.TheVariants.{Done, Text}
use Rattle.bn_reply_relations.specs.CircuitReply.{Misspelled, fault_text}
use Rattle.bn_reply_relations.proofs.SettledLemmas.{one_fault, not_done}
use Rattle.bn_reply_circuits.specs.MirrorReply.{Mirrored, MirrorIsSettled, MirrorReplies, mirrored, misspelled}
use Rattle.bn_reply_circuits.specs.MirrorLaws.{IsUncounted, MirroredTextsComeBack}

-- ---- one answer

-- the mirror that is written
pub image_spelled : (bytes text : List ℕ) (a : Mirrored bytes text) → Spelled a.version a.image text
image_spelled bytes text a = record {
  admitted = mirrors-admitted a.version a.spelling a.image a.spelled.admitted a.is_mirror;
  is_text = a.written;
}

one_text : (bytes text second : List ℕ) → Mirrored bytes text → Mirrored bytes second → text ≡ second
one_text bytes text second a b =
    let both = spellings-agree a.version b.version a.spelling b.spelling bytes a.spelled b.spelled in
    let same = mirrors-one a.spelling b.spelling a.image b.image both.1 a.is_mirror b.is_mirror in
    same-have-one-text b.version a.image b.image text second same
    (subst (λ v. Spelled v a.image text) both.0 (image_spelled bytes text a)) (image_spelled bytes second b)

mirrored_or_not : (bytes text second : List ℕ) → Mirrored bytes text → Misspelled bytes second → ⊥
mirrored_or_not bytes text second a b = faulty_texts-spell-nothing a.version a.spelling bytes b.line b.fault b.first
    a.spelled

by_spelling : (bytes : List ℕ) → ((v : Version) × (s : Spelling) × Spelled v s bytes)
    ⊎ ((line : ℕ) × (fault : Fault) × IsFirstFault bytes line fault) → HasAnswer (MirrorReplies bytes)
by_spelling bytes (inl (v, s, is)) =
    let m = mirrors-there v s is.admitted in
    let text = has-text v m.0 (mirrors-admitted v s m.0 is.admitted m.1) in (
      Done,
      text.0,
      [],
      mirrored (record {
        version = v;
        spelling = s;
        spelled = is;
        image = m.0;
        is_mirror = m.1;
        written = text.1.is_text;
      }) refl refl,
    )
by_spelling bytes (inr (line, fault, first)) = (
  Text,
  fault_text line fault,
  [],
  misspelled (record { line = line; fault = fault; first = first; written = refl }) refl refl,
)

mirror_one : (bytes : List ℕ) → IsOneAnswer (MirrorReplies bytes)
mirror_one bytes status other text second told heard (mirrored a e m) (mirrored b d n) =
    agree Done status other text second told heard e d (one_text bytes text second a b) m n
mirror_one bytes status other text second told heard (mirrored a e m) (misspelled b d n) =
    absurd (mirrored_or_not bytes text second a b)
mirror_one bytes status other text second told heard (misspelled a e m) (mirrored b d n) =
    absurd (mirrored_or_not bytes second text b a)
mirror_one bytes status other text second told heard (misspelled a e m) (misspelled b d n) =
    agree Text status other text second told heard e d (one_fault bytes text second a b) m n

mirror_status : (bytes : List ℕ) (status : Status) (text : List ℕ) (told : List Place)
    → MirrorReplies bytes status text told → IsReplyStatus status
mirror_status bytes status text told (mirrored a e m) = subst IsReplyStatus (sym e) tt
mirror_status bytes status text told (misspelled a e m) = subst IsReplyStatus (sym e) tt

pub mirror_settled : MirrorIsSettled
mirror_settled bytes = record {
  some = by_spelling bytes (texts-spell-or-fault bytes);
  one = mirror_one bytes;
  status = mirror_status bytes;
}

-- ---- what the code replies

-- ---- twice

same_of_both : (s t u : Spelling) → AreSame s t → AreSame t u → AreSame s u
same_of_both s t u a b =
    record {
      elements = a.elements ∙ b.elements;
      targets = λ from. a.targets from ∙ b.targets from;
      sources = λ to. a.sources to ∙ b.sources to;
      config = a.config ∙ b.config;
      start = a.start ∙ b.start;
      end = a.end ∙ b.end;
    }

back_again : (bytes text again : List ℕ) → Mirrored bytes text → Mirrored text again → IsUncounted bytes again
back_again bytes text again a b =
    let v = a.version in
    let s = a.spelling in
    let uncounted = counted (situation_of s.config) 0 in
    let image = image_spelled bytes text a in
    -- the mirror of what the text spells is the mirror of the image
    let both = spellings-agree b.version v b.spelling a.image text b.spelled image in
    let twice = mirrors-there v a.image image.admitted in
    let one = mirrors-one b.spelling a.image b.image twice.0 both.1 b.is_mirror twice.1 in
    let back = mirrors-turn_back v s a.image twice.0 a.spelled.admitted a.is_mirror twice.1 in
    let written = subst (λ w. Spelled w b.image again) both.0 (image_spelled text again b) in
    record {
      version = v;
      spelling = s;
      spelled = a.spelled;
      written = (spelled-alike v b.image (moved_to s uncounted) again
          (same_of_both b.image twice.0 (moved_to s uncounted) one back) written).is_text;
    }

pub mirrored_texts-come_back : MirroredTextsComeBack
mirrored_texts-come_back bytes text again status told (misspelled a e m) reply = absurd (not_done e)
mirrored_texts-come_back bytes text again status told (mirrored a e m) (misspelled b d n) =
    absurd (faulty_texts-spell-nothing a.version a.image text b.line b.fault b.first (image_spelled bytes text a))
mirrored_texts-come_back bytes text again status told (mirrored a e m) (mirrored b d n) =
    (d, back_again bytes text again a b)

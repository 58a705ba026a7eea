-- How the commands on configuration texts end over a source and a sink.
use Rattle.std.specs.Prelude.{◌≡◌, ℕ, ◌≤◌, List, [], Option, Result, Ok, Err, IfOk, IsErrOf, refl}
use Rattle.std.proofs.Common.{sym, subst}
use Rattle.bn_circuits.specs.declared.place.Place.{Place}
use Rattle.bn_packed.specs.declared.direction.Direction.{Direction}
use Rattle.bn_io.specs.Faults.{CountsUnless, Rose, StaysUnless}
use Rattle.bn_io.specs.Told.{ReadsWithin}
use Rattle.bn_lists.specs.declared.memory.NoMemory.{NoMemory as WantOfMemory}
use Rattle.bn_circuits.proofs.WalkLemmas.{hears-nothing}
use Rattle.bn_netlist.specs.FromText.{IsFromRefusal, HasWhole, Ends}
use Rattle.bn_netlist.specs.declared.refusal.FromRefusal.{FromRefusal}
use Rattle.bn_netlist.specs.declared.refusal.FromRefusal.TheVariants as reading
use Rattle.bn_netlist_laws.specs.Spelling.{IsTextOf, Spelled, Spelling}
use Rattle.bn_netlist_laws.specs.declared.version.Version.{Version}
use Rattle.bn_netlist_laws.specs.declared.version.Version.TheVariants.{Two}
use Rattle.bn_netlist_laws.proofs.EntryLemmas.{has-text}
use Rattle.bn_netlist_laws.proofs.VersionLemmas.{admission-rises}
use Rattle.bn_netlist.specs.NetText.{IsTextRefusal}
use Rattle.bn_netlist.specs.declared.line_refusal.NetlistRefusal.{NetlistRefusal}
use Rattle.bn_reply.specs.Ends.{TextEnds}
use Rattle.bn_reply.specs.Outside.{outside}
use Rattle.bn_reply.specs.Streams.{AnswerEnds, StreamEnds, Whole, TooLong, Failed, Unread}
use Rattle.bn_reply.specs.declared.limits.TheConstants.{MOST_INPUT_BYTES}
use Rattle.bn_reply.specs.declared.reply.Reply.{Reply}
use Rattle.bn_reply.specs.declared.status.Status.{Status}
use Rattle.bn_reply.specs.declared.status.Status.TheVariants as statuses
use Rattle.bn_reply.proofs.CountLemmas.{counts_nothing, counts_told}
use Rattle.bn_reply.proofs.ReplyLemmas.{grows_nothing, silent_ends, text_ends}
use Rattle.bn_reply.proofs.StreamLemmas.{gave_more, gave_within}
use Rattle.bn_reply_circuits.specs.PlanReply.{PlanReplies}
use Rattle.bn_reply_circuits.specs.PlanReply as plans
use Rattle.bn_reply_circuits.specs.Refused.{IsRefused, UnreadEnds}
use Rattle.bn_reply_circuits.specs.Walking.{WalkReplies}
use Rattle.bn_reply_relations.specs.CircuitReply.{Misspelled, misspelled}
use Rattle.bn_reply_relations.specs.MigrateReply.{MigrateReplies, faulty}
use Rattle.bn_reply_circuits.proofs.CircuitLemmas.{migrate_read, wrong}

text_not_too_long : {T : Type 0} (r : NetlistRefusal) → IsErrOf {T = T} {E = FromRefusal} (Err (reading.Text r))
    reading.TooLong → ⊥
text_not_too_long r e = cc

-- how a command ends that is refused or reads a text, where the source, the sink and the watch are at these before and
-- after
module _ (replies : List ℕ → Status → List ℕ → List Place → Type 0) (bytes : List ℕ) (result : Status)
    (left after : Option (List ℕ)) (failed fails : ℕ)
    (taken took : Option (List ℕ)) (before now : ℕ) (told heard : Option (List Place)) where
  abbrev EndsSo : Type 0
  EndsSo = StreamEnds replies result (outside left taken told failed before) (outside after took heard fails now)

  -- a text that is read to its end
  pub stream_read : (longer : Type 0) → ReadsWithin left after MOST_INPUT_BYTES longer bytes → (longer → ⊥)
      → Ends left after →
      AnswerEnds (replies bytes) result taken took before now told heard → fails ≡ failed
      → CountsUnless (result ≡ statuses.WriteFault) before now → EndsSo
  stream_read longer reads none all ends same counts = record {
    input = Whole bytes;
    gives = (
      record { lost = reads.lost; ended = all },
      gave_within left after MOST_INPUT_BYTES longer bytes reads none,
    );
    ends = ends;
    later = record { read = counts_nothing (Whole bytes ≡ Failed) failed fails same; write = counts };
  }

-- nothing was read
module _ (replies : List ℕ → Status → List ℕ → List Place → Type 0)
    (refuses : (bytes text : List ℕ) → Misspelled bytes text → replies bytes statuses.Text text [])
    (bytes : List ℕ) (result : Status) (left after : Option (List ℕ)) (failed fails : ℕ) (taken took : Option (List ℕ))
    (before now : ℕ)
    (told : Option (List Place)) where
  refused_reply : (refusal : NetlistRefusal) (reply : Result Reply WantOfMemory) → IsTextRefusal bytes refusal →
      IfOk reply (λ r. IsRefused refusal r.status r.text.items)
      → IfOk reply (λ r. replies bytes r.status r.text.items [])
  refused_reply refusal (Ok r) first is =
      let both = wrong bytes refusal r.status r.text.items first is in
      subst (λ st. replies bytes st r.text.items []) (sym both.0) (refuses bytes r.text.items both.1)
  refused_reply refusal (Err e) first is = tt

  pub stream_unread : {T : Type 0} (refusal : FromRefusal) → ReadsWithin left after MOST_INPUT_BYTES
      (IsErrOf {T = T} (Err refusal) reading.TooLong) bytes →
      IsFromRefusal bytes refusal → (HasWhole refusal → Ends left after)
      → (IsErrOf {T = T} (Err refusal) reading.ReadFault → Rose failed fails) →
      UnreadEnds refusal result taken took before now → failed ≤ fails
      → StaysUnless (IsErrOf {T = T} (Err refusal) reading.ReadFault) failed fails
      → CountsUnless (result ≡ statuses.WriteFault) before now →
      StreamEnds replies result (outside left taken told failed before) (outside after took told fails now)
  stream_unread {T} reading.ReadFault reads first all cause ends later stays counts = record {
    input = Failed;
    gives = cause refl;
    ends = (ends, hears-nothing told);
    later = record { read = counts_told (Failed ≡ Failed) failed fails later refl; write = counts };
  }
  stream_unread {T} reading.TooLong reads first all cause ends later stays counts = record {
    input = TooLong;
    gives = gave_more left after MOST_INPUT_BYTES (IsErrOf {T = T} (Err reading.TooLong) reading.TooLong) bytes reads
        refl;
    ends = (ends, hears-nothing told);
    later = record {
      read = counts_nothing (TooLong ≡ Failed) failed fails (stays (λ e. cc));
      write = counts;
    };
  }
  stream_unread {T} (reading.Text r) reads first all cause ends later stays counts =
      stream_read replies bytes result left after failed fails taken took before now told told
      (IsErrOf {T = T} (Err (reading.Text r)) reading.TooLong) reads
      (text_not_too_long {T = T} r) (all tt)
      (silent_ends (replies bytes) ends.0 result taken took before now told (refused_reply r ends.0 first.0 ends.1)
      ends.2) (stays (λ e. cc)) counts
  stream_unread {T} reading.NoMemory reads first all cause ends later stays counts = record {
    input = Unread;
    gives = tt;
    ends = (ends.0, grows_nothing taken took ends.1, hears-nothing told);
    later = record { read = counts_nothing (Unread ≡ Failed) failed fails (stays (λ e. cc)); write = counts };
  }

pub walk_refuses : (way : Direction) (e : ℕ) (bytes text : List ℕ) → Misspelled bytes text
    → WalkReplies way e bytes statuses.Text text []
walk_refuses way e bytes text is = misspelled is refl refl

pub migrate_refuses : (bytes text : List ℕ) → Misspelled bytes text → MigrateReplies bytes statuses.Text text []
migrate_refuses bytes text is = faulty is refl refl

pub plan_refuses : (bytes text : List ℕ) → Misspelled bytes text → PlanReplies bytes statuses.Text text []
plan_refuses bytes text is = plans.misspelled is refl refl

pub not_too_long : {T : Type 0} (c : T) → IsErrOf {T = T} {E = FromRefusal} (Ok c) reading.TooLong → ⊥
not_too_long c e = cc

-- how the answer of `migrate` to a text that was read ends
pub migrate_ends : (v : Version) (s : Spelling) (bytes : List ℕ) (result : Status) (taken took : Option (List ℕ))
    (before now : ℕ) (told : Option (List Place)) →
    Spelled v s bytes → TextEnds (IsTextOf Two s) result taken took before now
    → AnswerEnds (MigrateReplies bytes) result taken took before now told told
migrate_ends v s bytes result taken took before now told spelled ends =
    let text = has-text Two s (admission-rises v s spelled.admitted) in
    text_ends (MigrateReplies bytes) (IsTextOf Two s) text.0 [] result taken took before now told told text.1.is_text
    (migrate_read v s bytes text.0 spelled text.1.is_text) (hears-nothing told) ends

-- What the code replies.
use Rattle.std.specs.Prelude.{◌≡◌, ℕ, List, [], length, Option, refl}
use Rattle.std.proofs.Common.{sym, ap, subst, ◌∙◌}
use Rattle.bn_circuits.specs.Circuits.{Circuit, IsConfig}
use Rattle.bn_element.specs.Rotary.{rotary}
use Rattle.bn_element.specs.Tables.{Table}
use Rattle.bn_circuits.proofs.RunLemmas.{run-IsConfig, back-IsConfig}
use Rattle.bn_circuits.specs.declared.place.Place.{Place}
use Rattle.bn_circuits.specs.RotaryNets.{rotary_circuit}
use Rattle.bn_circuits.specs.Watching.{Hears}
use Rattle.bn_netlist.proofs.NetLemmas.{map-replicate}
use Rattle.bn_netlist_laws.specs.Spelling as what
use Rattle.bn_netlist_laws.specs.Spelling.{circuit_of}
use Rattle.bn_netlist_laws.specs.declared.version.Version.{Version}
use Rattle.bn_packed.specs.PackedNets.{PackedNet}
use Rattle.bn_packed.specs.Running.{run_along, places_along}
use Rattle.bn_packed.specs.declared.direction.Direction.{Direction}
use Rattle.bn_packed.specs.declared.direction.Direction.TheVariants.{Forward, Backward}
use Rattle.bn_reply.specs.Ends.{TextEnds}
use Rattle.bn_reply.specs.Streams.{AnswerEnds}
use Rattle.bn_reply.proofs.ReplyLemmas.{text_ends}
use Rattle.bn_reply.specs.declared.status.Status.{Status}
use Rattle.bn_reply.specs.declared.status.Status.TheVariants.{Done, Text}
use Rattle.bn_netlist_laws.specs.Faults.{Fault, IsFirstFault, malformed, too_many, no_element, out_of_order, end_wired}
use Rattle.bn_netlist_laws.specs.Faults.{left_wired, start_fed, second_source, spelled_out}
use Rattle.bn_netlist_laws.specs.Spelling.{Admits, IsTextOf, Spelled}
use Rattle.bn_netlist_laws.proofs.EntryLemmas.{has-text}
use Rattle.bn_netlist_laws.proofs.VersionLemmas.{admission-rises, spellings-move}
use Rattle.bn_netlist_laws.specs.declared.version.Version.TheVariants.{Two}
use Rattle.bn_netlist.specs.PackedText.{spelling_of_packed}
use Rattle.bn_netlist.specs.declared.packed_config.PackedConfig.{PackedConfig}
use Rattle.bn_netlist.specs.NetText.{IsTextRefusal}
use Rattle.bn_reply_relations.specs.CircuitReply.{fault_text, Misspelled}
use Rattle.bn_netlist.specs.declared.line_refusal.NetlistRefusal.{NetlistRefusal}
use Rattle.bn_netlist.specs.declared.line_refusal.NetlistRefusal.TheVariants.{Syntax, Order, Target, TwoSources}
use Rattle.bn_netlist.specs.declared.line_refusal.NetlistRefusal.TheVariants.{StartFed, EndWired, LeftWired, TooMany}
use Rattle.bn_netlist.specs.declared.line_refusal.NetlistRefusal.TheVariants.{Spelling, NoMemory}
use Rattle.bn_reply_circuits.specs.Refused.{IsRefused}
use Rattle.bn_reply_circuits.specs.Walking.{WalkReplies, walked_places, walked_to}
use Rattle.bn_reply_relations.specs.CircuitReply.{walked}
use Rattle.bn_reply_relations.specs.MigrateReply.{MigrateReplies, migrated}

-- ---- a text that is refused

wrong_by : (bytes text : List ℕ) (line : ℕ) (fault : Fault) → IsFirstFault bytes line fault
    → text ≡ fault_text line fault → Misspelled bytes text
wrong_by bytes text line fault first is = record { line = line; fault = fault; first = first; written = is }

-- the status and the line of a refused text
pub wrong : (bytes : List ℕ) (refusal : NetlistRefusal) (status : Status) (text : List ℕ) → IsTextRefusal bytes refusal
    → IsRefused refusal status text →
    (status ≡ Text) × Misspelled bytes text
wrong bytes (Syntax line) status text first is = (is.0, wrong_by bytes text line malformed first is.1)
wrong bytes (Order line) status text first is = (is.0, wrong_by bytes text line out_of_order first is.1)
wrong bytes (Target line) status text first is = (is.0, wrong_by bytes text line no_element first is.1)
wrong bytes (TwoSources line) status text first is = (is.0, wrong_by bytes text line second_source first is.1)
wrong bytes (StartFed line) status text first is = (is.0, wrong_by bytes text line start_fed first is.1)
wrong bytes (EndWired line) status text first is = (is.0, wrong_by bytes text line end_wired first is.1)
wrong bytes (LeftWired line) status text first is = (is.0, wrong_by bytes text line left_wired first is.1)
wrong bytes (TooMany line) status text first is = (is.0, wrong_by bytes text line too_many first is.1)
wrong bytes (Spelling line) status text first is = (is.0, wrong_by bytes text line spelled_out first is.1)
wrong bytes NoMemory status text first is = absurd is

-- what was read may be spelled in version 2
pub read-Admits_two : (v : Version) (s : what.Spelling) (bytes : List ℕ) → Spelled v s bytes → Admits Two s
read-Admits_two v s bytes spelled = admission-rises v s spelled.admitted

-- what `migrate` replies to a text that is read
pub migrate_read : (v : Version) (s : what.Spelling) (bytes text : List ℕ) → Spelled v s bytes → IsTextOf Two s text
    → MigrateReplies bytes Done text []
migrate_read v s bytes text spelled is = migrated (record {
  version = v;
  spelling = s;
  spelled = spelled;
  written = is;
}) refl refl

-- ---- a walk of what was read

-- the circuit of a packed net is that of its text
pub packed-circuit : (c : PackedConfig) → rotary_circuit c.packed.net ≡ circuit_of (spelling_of_packed c)
packed-circuit c = ap (λ (ts : List Table). let k : Circuit = record { tables = ts; wires = c.packed.net.wires } in k)
    (map-replicate rotary c.packed.net.elements)

-- the same packed netlist after a run spells what is come to
pub packed_walked : (way : Direction) (e : ℕ) (c : PackedConfig) (q : PackedNet) → q.net ≡ c.packed.net →
    q.config ≡ run_along way (rotary_circuit c.packed.net) c.packed.config e →
    spelling_of_packed (record { version = c.version; packed = q; start = c.start; end = c.end })
    ≡ walked_to way e (spelling_of_packed c)
packed_walked way e c q net ran =
    let there : q.config ≡ run_along way (circuit_of (spelling_of_packed c)) c.packed.config e =
    ran ∙ ap (λ k. run_along way k c.packed.config e) (packed-circuit c) in
    λ i. record {
      elements = length (net i).elements;
      wires = (net i).wires;
      config = there i;
      start = c.start;
      end = c.end;
    }

pub packed_heard : (way : Direction) (e : ℕ) (c : PackedConfig) (told heard : Option (List Place)) →
    Hears told (places_along way (rotary_circuit c.packed.net) e c.packed.config) heard
    → Hears told (walked_places way e (spelling_of_packed c)) heard
packed_heard way e c told heard hears = subst (λ k. Hears told (places_along way k e c.packed.config) heard)
    (packed-circuit c) hears

module _ (way : Direction) (e : ℕ) (bytes : List ℕ) where
  -- what was read has walked
  module _ (v : Version) (s : what.Spelling) (spelled : Spelled v s bytes) where
    walked-IsConfig : (w : Direction) → IsConfig (circuit_of s) (run_along w (circuit_of s) s.config e)
    walked-IsConfig Forward = run-IsConfig (circuit_of s) spelled.admitted.circuit s.config spelled.admitted.config e
    walked-IsConfig Backward = back-IsConfig (circuit_of s) spelled.admitted.circuit s.config spelled.admitted.config e

    -- it may be spelled
    walked-Admits : Admits v (walked_to way e s)
    walked-Admits = spellings-move v s (run_along way (circuit_of s) s.config e) spelled.admitted (walked-IsConfig way)

    walked_right : (text : List ℕ) → IsTextOf v (walked_to way e s) text
        → WalkReplies way e bytes Done text (walked_places way e s)
    walked_right text written = walked (record {
      version = v;
      spelling = s;
      spelled = spelled;
      written = written;
      places = refl;
    }) refl

    module _ (m : PackedConfig) (same : m.version ≡ v) (is : spelling_of_packed m ≡ walked_to way e s) where
      pub moved-Admits : Admits m.version (spelling_of_packed m)
      moved-Admits = subst (λ w. Admits w (spelling_of_packed m)) (sym same) (subst (Admits v) (sym is) walked-Admits)

      -- the reply, whose text is this
      moved_right : (text : List ℕ) → IsTextOf m.version (spelling_of_packed m) text
          → WalkReplies way e bytes Done text (walked_places way e s)
      moved_right text written =
          walked_right text (subst (λ t. IsTextOf v t text) is (subst (λ w. IsTextOf w (spelling_of_packed m) text) same
          written))

      -- how giving it ends
      pub moved_ends : (result : Status) (taken took : Option (List ℕ)) (before now : ℕ)
          (told heard : Option (List Place)) →
          Hears told (walked_places way e s) heard → TextEnds (IsTextOf m.version (spelling_of_packed m)) result taken
          took before now →
          AnswerEnds (WalkReplies way e bytes) result taken took before now told heard
      moved_ends result taken took before now told heard hears ends =
          let text = has-text m.version (spelling_of_packed m) moved-Admits in
          text_ends (WalkReplies way e bytes) (IsTextOf m.version (spelling_of_packed m)) text.0 (walked_places way e s)
          result taken took
          before now told heard text.1.is_text (moved_right text.0 text.1.is_text) hears ends

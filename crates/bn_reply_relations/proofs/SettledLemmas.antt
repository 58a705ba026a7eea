-- The replies of the commands on configuration texts, of which there is one and only one.
use Rattle.std.specs.Prelude.{◌≡◌, ℕ, List, [], replicate, ◌⊎◌, refl}
use Rattle.std.proofs.Common.{inl, inr, sym, ap, subst, ◌∙◌}
use Rattle.bn_circuits.specs.Circuits.{Circuit, IsCircuit, IsConfig}
use Rattle.bn_circuits.specs.declared.place.Place.{Place}
use Rattle.bn_circuits.specs.declared.config.Config.{Config}
use Rattle.bn_circuits.specs.Stepping.{run, back, places, places_back}
use Rattle.bn_circuits.specs.Alike.{AreAlike}
use Rattle.bn_circuits.proofs.AlikeLemmas.{run-alike, back-alike, places-alike, places_back-alike}
use Rattle.bn_circuits.proofs.RunLemmas.{run-IsConfig, back-IsConfig}
use Rattle.bn_element.specs.Rotary.{rotary}
use Rattle.bn_netlist_laws.specs.Spelling.{Spelling, AreSame, circuit_of, moved_to}
use Rattle.bn_reply.specs.Answering.{HasAnswer, IsOneAnswer, IsSettled}
use Rattle.bn_reply.specs.Codes.{IsReplyStatus}
use Rattle.bn_reply.proofs.SettledLemmas.{agree}
use Rattle.bn_reply.specs.declared.status.Status.{Status}
use Rattle.bn_reply.specs.declared.status.Status.TheVariants.{Done, Text}
use Rattle.bn_netlist_laws.specs.Spelling.{Admits, Spelled}
use Rattle.bn_netlist_laws.specs.Faults.{Fault, IsFirstFault}
use Rattle.bn_netlist_laws.specs.declared.version.Version.{Version}
use Rattle.bn_netlist_laws.specs.declared.version.Version.TheVariants.{Two}
use Rattle.bn_netlist_laws.proofs.EntryLemmas.{has-text, same-have-one-text}
use Rattle.bn_netlist_laws.proofs.TextLemmas.{spellings-agree, faults-agree, faulty_texts-spell-nothing}
use Rattle.bn_netlist_laws.proofs.VersionLemmas.{admission-rises, spellings-move}
use Rattle.bn_netlist_laws.proofs.DecideLemmas.{texts-spell-or-fault}
use Rattle.bn_reply_relations.specs.CircuitReply.{fault_text, Misspelled}
use Rattle.bn_reply_relations.specs.MigrateReply.{Migrated}
use Rattle.bn_reply_relations.specs.CircuitReply.{BackReplies, StepReplies, Walked, CircuitReplies, CircuitIsSettled}
use Rattle.bn_reply_relations.specs.MigrateReply.{MigrateIsSettled, MigrateReplies, MigratedStays}
use Rattle.bn_reply_relations.specs.CircuitReply.{misspelled, walked}
use Rattle.bn_reply_relations.specs.MigrateReply.{faulty, migrated}

-- ---- one text, spelled by spellings that are the same

alike : (s t : Spelling) → AreSame s t → AreAlike (circuit_of s) (circuit_of t)
alike s t same = record {
  tables = ap (λ n. replicate n rotary) same.elements;
  targets = same.targets;
  sources = same.sources;
}

moved-same : (s t : Spelling) (c d : Config) → AreSame s t → c ≡ d → AreSame (moved_to s c) (moved_to t d)
moved-same s t c d same is =
    record {
      elements = same.elements;
      targets = same.targets;
      sources = same.sources;
      config = is;
      start = same.start;
      end = same.end;
    }

pub one_fault : (bytes text second : List ℕ) → Misspelled bytes text → Misspelled bytes second → text ≡ second
one_fault bytes text second a b =
    let both = faults-agree bytes a.line b.line a.fault b.fault a.first b.first in
    a.written ∙ ap (λ n. fault_text n a.fault) both.0 ∙ ap (fault_text b.line) both.1 ∙ sym b.written

-- ---- one reply of a walk

module _ (goes : Circuit → Config → Config) (tells : Circuit → Config → List Place)
    (goes-alike : (k m : Circuit) → AreAlike k m → (c : Config) → goes k c ≡ goes m c)
    (tells-alike : (k m : Circuit) → AreAlike k m → (c : Config) → tells k c ≡ tells m c)
    (goes-IsConfig : (k : Circuit) → IsCircuit k → (c : Config) → IsConfig k c → IsConfig k (goes k c)) where
  gone-Admits : (v : Version) (s : Spelling) (bytes : List ℕ) → Spelled v s bytes
      → Admits v (moved_to s (goes (circuit_of s) s.config))
  gone-Admits v s bytes is = spellings-move v s (goes (circuit_of s) s.config) is.admitted
      (goes-IsConfig (circuit_of s) is.admitted.circuit s.config is.admitted.config)

  one_gone : (s t : Spelling) → AreSame s t → goes (circuit_of s) s.config ≡ goes (circuit_of t) t.config
  one_gone s t same = goes-alike (circuit_of s) (circuit_of t) (alike s t same) s.config
      ∙ ap (goes (circuit_of t)) same.config

  one_told : (s t : Spelling) → AreSame s t → tells (circuit_of s) s.config ≡ tells (circuit_of t) t.config
  one_told s t same = tells-alike (circuit_of s) (circuit_of t) (alike s t same) s.config
      ∙ ap (tells (circuit_of t)) same.config

  walk_spelled : (bytes text : List ℕ) (told : List Place) (a : Walked goes tells bytes text told)
      → Spelled a.version (moved_to a.spelling (goes (circuit_of a.spelling) a.spelling.config)) text
  walk_spelled bytes text told a = record {
    admitted = gone-Admits a.version a.spelling bytes a.spelled;
    is_text = a.written;
  }

  one_walk : (bytes text second : List ℕ) (told heard : List Place) → Walked goes tells bytes text told
      → Walked goes tells bytes second heard →
      (text ≡ second) × (told ≡ heard)
  one_walk bytes text second told heard a b =
      let s = a.spelling in
      let t = b.spelling in
      let both = spellings-agree a.version b.version s t bytes a.spelled b.spelled in
      let gone = moved-same s t (goes (circuit_of s) s.config) (goes (circuit_of t) t.config) both.1
      (one_gone s t both.1) in
      let first = subst (λ v. Spelled v (moved_to s (goes (circuit_of s) s.config)) text) both.0
      (walk_spelled bytes text told a) in (
        same-have-one-text b.version (moved_to s (goes (circuit_of s) s.config))
            (moved_to t (goes (circuit_of t) t.config)) text second gone first (walk_spelled bytes second heard b),
        a.places ∙ one_told s t both.1 ∙ sym b.places,
      )

  walked_or_not : (bytes text second : List ℕ) (told : List Place) → Walked goes tells bytes text told
      → Misspelled bytes second → ⊥
  walked_or_not bytes text second told a b = faulty_texts-spell-nothing a.version a.spelling bytes b.line b.fault
      b.first a.spelled

  walk_some : (bytes : List ℕ) → ((v : Version) × (s : Spelling) × Spelled v s bytes)
      ⊎ ((line : ℕ) × (fault : Fault) × IsFirstFault bytes line fault) →
      HasAnswer (CircuitReplies goes tells bytes)
  walk_some bytes (inl (v, s, is)) =
      let text = has-text v (moved_to s (goes (circuit_of s) s.config)) (gone-Admits v s bytes is) in (
        Done,
        text.0,
        _,
        walked (record {
          version = v;
          spelling = s;
          spelled = is;
          written = text.1.is_text;
          places = refl;
        }) refl,
      )
  walk_some bytes (inr (line, fault, first)) = (
    Text,
    _,
    [],
    misspelled (record { line = line; fault = fault; first = first; written = refl }) refl refl,
  )

  walk_one : (bytes : List ℕ) → IsOneAnswer (CircuitReplies goes tells bytes)
  walk_one bytes status other text second told heard (walked a e) (walked b d) =
      let both = one_walk bytes text second told heard a b in
      record { statuses = e ∙ sym d; texts = both.0; places = both.1 }
  walk_one bytes status other text second told heard (walked a e) (misspelled b d n) =
      absurd (walked_or_not bytes text second told a b)
  walk_one bytes status other text second told heard (misspelled a e m) (walked b d) =
      absurd (walked_or_not bytes second text heard b a)
  walk_one bytes status other text second told heard (misspelled a e m) (misspelled b d n) =
      agree Text status other text second told heard e d (one_fault bytes text second a b) m n

  walk_status : (bytes : List ℕ) (status : Status) (text : List ℕ) (told : List Place)
      → CircuitReplies goes tells bytes status text told → IsReplyStatus status
  walk_status bytes status text told (walked a e) = subst IsReplyStatus (sym e) tt
  walk_status bytes status text told (misspelled a e m) = subst IsReplyStatus (sym e) tt

  pub circuit_settled : (bytes : List ℕ) → IsSettled (CircuitReplies goes tells bytes)
  circuit_settled bytes = record {
    some = walk_some bytes (texts-spell-or-fault bytes);
    one = walk_one bytes;
    status = walk_status bytes;
  }

pub step_settled : (e : ℕ) (bytes : List ℕ) → IsSettled (StepReplies e bytes)
step_settled e = circuit_settled (λ k c. run k c e) (λ k c. places k e c) (λ k m same c. run-alike k m same c e)
    (λ k m same c. places-alike k m same e c)
    (λ k circuit c config. run-IsConfig k circuit c config e)

pub back_settled : (e : ℕ) (bytes : List ℕ) → IsSettled (BackReplies e bytes)
back_settled e = circuit_settled (λ k c. back k c e) (λ k c. places_back k e c) (λ k m same c. back-alike k m same c e)
    (λ k m same c. places_back-alike k m same e c) (λ k circuit c config. back-IsConfig k circuit c config e)

pub circuits_settled : CircuitIsSettled
circuits_settled e bytes = (step_settled e bytes, back_settled e bytes)

-- ---- one reply of `migrate`

migrated_spelled : (bytes text : List ℕ) (a : Migrated bytes text) → Spelled Two a.spelling text
migrated_spelled bytes text a = record {
  admitted = admission-rises a.version a.spelling a.spelled.admitted;
  is_text = a.written;
}

one_migrated : (bytes text second : List ℕ) → Migrated bytes text → Migrated bytes second → text ≡ second
one_migrated bytes text second a b =
    let same = (spellings-agree a.version b.version a.spelling b.spelling bytes a.spelled b.spelled).1 in
    same-have-one-text Two a.spelling b.spelling text second same (migrated_spelled bytes text a)
    (migrated_spelled bytes second b)

migrated_or_not : (bytes text second : List ℕ) → Migrated bytes text → Misspelled bytes second → ⊥
migrated_or_not bytes text second a b = faulty_texts-spell-nothing a.version a.spelling bytes b.line b.fault b.first
    a.spelled

migrate_some : (bytes : List ℕ) → ((v : Version) × (s : Spelling) × Spelled v s bytes)
    ⊎ ((line : ℕ) × (fault : Fault) × IsFirstFault bytes line fault) →
    HasAnswer (MigrateReplies bytes)
migrate_some bytes (inl (v, s, is)) =
    let text = has-text Two s (admission-rises v s is.admitted) in (
      Done,
      text.0,
      [],
      migrated (record { version = v; spelling = s; spelled = is; written = text.1.is_text }) refl refl,
    )
migrate_some bytes (inr (line, fault, first)) = (
  Text,
  _,
  [],
  faulty (record { line = line; fault = fault; first = first; written = refl }) refl refl,
)

migrate_one : (bytes : List ℕ) → IsOneAnswer (MigrateReplies bytes)
migrate_one bytes status other text second told heard (migrated a e m) (migrated b d n) =
    agree Done status other text second told heard e d (one_migrated bytes text second a b) m n
migrate_one bytes status other text second told heard (migrated a e m) (faulty b d n) =
    absurd (migrated_or_not bytes text second a b)
migrate_one bytes status other text second told heard (faulty a e m) (migrated b d n) =
    absurd (migrated_or_not bytes second text b a)
migrate_one bytes status other text second told heard (faulty a e m) (faulty b d n) =
    agree Text status other text second told heard e d (one_fault bytes text second a b) m n

pub migrate_status : (bytes : List ℕ) (status : Status) (text : List ℕ) (told : List Place)
    → MigrateReplies bytes status text told → IsReplyStatus status
migrate_status bytes status text told (migrated a e m) = subst IsReplyStatus (sym e) tt
migrate_status bytes status text told (faulty a e m) = subst IsReplyStatus (sym e) tt

pub migrate_settled : MigrateIsSettled
migrate_settled bytes = record {
  some = migrate_some bytes (texts-spell-or-fault bytes);
  one = migrate_one bytes;
  status = migrate_status bytes;
}

pub not_done : Done ≡ Text → ⊥
not_done e = cc

pub migrated-stays : MigratedStays
migrated-stays bytes text (faulty a e m) = absurd (not_done e)
migrated-stays bytes text (migrated a e m) =
    migrated (record {
      version = Two;
      spelling = a.spelling;
      spelled = migrated_spelled bytes text a;
      written = a.written;
    }) refl refl

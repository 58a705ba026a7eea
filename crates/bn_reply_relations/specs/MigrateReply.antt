-- The answer of the command `migrate`: the text in version 2 of the configuration that a text of either version
-- spells.
use Rattle.std.specs.Prelude.{◌≡◌, ℕ, List, []}
use Rattle.bn_circuits.specs.declared.place.Place.{Place}
use Rattle.bn_netlist_laws.specs.Spelling.{Spelling, IsTextOf, Spelled}
use Rattle.bn_netlist_laws.specs.declared.version.Version.{Version}
use Rattle.bn_netlist_laws.specs.declared.version.Version.TheVariants.{Two}
use Rattle.bn_reply.specs.Answering.{IsSettled}
use Rattle.bn_reply.specs.declared.status.Status.{Status}
use Rattle.bn_reply.specs.declared.status.Status.TheVariants.{Done, Text}
use Rattle.bn_reply_relations.specs.CircuitReply.{Misspelled}

-- The bytes spell a configuration, in either version, and the text is that of the same configuration in version 2.
pub record Migrated (bytes text : List ℕ) : Type 0 where
  pub version : Version
  pub spelling : Spelling
  pub spelled : Spelled version spelling bytes
  pub written : IsTextOf Two spelling text

-- The answer of `migrate`: the first fault of bytes that are no configuration text, or the text in version 2 of the
-- configuration that they spell. No place is reported to a watch.
pub data MigrateReplies (bytes : List ℕ) (status : Status) (text : List ℕ) (told : List Place) : Type 0 where
  faulty : Misspelled bytes text → status ≡ Text → told ≡ [] → MigrateReplies bytes status text told
  migrated : Migrated bytes text → status ≡ Done → told ≡ [] → MigrateReplies bytes status text told

-- for all bytes, it has exactly one answer
abbrev pub MigrateIsSettled : Type 0
MigrateIsSettled = (bytes : List ℕ) → IsSettled (MigrateReplies bytes)

-- A migrated text is unchanged by `migrate`.
abbrev pub MigratedStays : Type 0
MigratedStays = (bytes text : List ℕ) → MigrateReplies bytes Done text [] → MigrateReplies text Done text []

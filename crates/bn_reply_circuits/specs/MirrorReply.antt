-- The answer of the command `mirror`: the text of the inverse circuit of the configuration that a text spells (this
-- project's own profile).
use Rattle.std.specs.Prelude.{◌≡◌, ℕ, List, []}
use Rattle.bn_circuits.specs.declared.place.Place.{Place}
use Rattle.bn_netlist_laws.specs.Spelling.{Spelling, IsTextOf, Spelled}
use Rattle.bn_netlist_laws.specs.declared.version.Version.{Version}
use Rattle.bn_mirror.specs.Mirror.{IsMirror}
use Rattle.bn_reply.specs.Answering.{IsSettled}
use Rattle.bn_reply.specs.declared.status.Status.{Status}
use Rattle.bn_reply.specs.declared.status.Status.TheVariants.{Done, Text}
use Rattle.bn_reply_relations.specs.CircuitReply.{Misspelled}

-- The bytes spell a configuration, in either version, and the text is that of its inverse circuit in the same version.
pub record Mirrored (bytes text : List ℕ) : Type 0 where
  pub version : Version
  pub spelling : Spelling
  pub spelled : Spelled version spelling bytes
  pub image : Spelling
  pub is_mirror : IsMirror spelling image
  pub written : IsTextOf version image text

-- The answer of `mirror`: the first fault of bytes that are no configuration text, or the text of the inverse circuit
-- of the configuration that they spell. No place is reported to a watch.
pub data MirrorReplies (bytes : List ℕ) (status : Status) (text : List ℕ) (told : List Place) : Type 0 where
  misspelled : Misspelled bytes text → status ≡ Text → told ≡ [] → MirrorReplies bytes status text told
  mirrored : Mirrored bytes text → status ≡ Done → told ≡ [] → MirrorReplies bytes status text told

-- for all bytes, it has exactly one answer
abbrev pub MirrorIsSettled : Type 0
MirrorIsSettled = (bytes : List ℕ) → IsSettled (MirrorReplies bytes)

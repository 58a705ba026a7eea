-- An answer that is not written yet: a reply, or the configuration whose text it is.
use Rattle.std.specs.Prelude.{◌≡◌, List, ℕ, []}
use Rattle.bn_circuits.specs.declared.place.Place.{Place}
use Rattle.bn_netlist_laws.specs.Spelling.{Admits, IsTextOf}
use Rattle.bn_netlist_laws.specs.declared.version.Version.TheVariants.{Two}
use Rattle.bn_netlist.specs.PackedText.{spelling_of_packed}
use Rattle.bn_netlist.specs.NetText.{spelling_of}
use Rattle.bn_netlist.specs.declared.net_config.NetConfig.{NetConfig}
use Rattle.bn_rsm.specs.Machines.{Machine}
use Rattle.bn_reply.specs.declared.status.Status.{Status}
use Rattle.bn_reply.specs.declared.status.Status.TheVariants.{Done}
use Rattle.bn_reply_circuits.specs.RealiseReply.{IsBankSpelling}
use Rattle.bn_reply_circuits.specs.declared.unwritten.Unwritten.{Unwritten}
use Rattle.bn_reply_circuits.specs.declared.unwritten.Unwritten.TheVariants.{Line, Config, Packed}

-- if the answer is a configuration, it may be spelled in its version
abbrev pub IsWritable : Unwritten → Type 0
IsWritable (Line reply) = Unit {0}
IsWritable (Config c) = Admits c.version (spelling_of c)
IsWritable (Packed c) = Admits c.version (spelling_of_packed c)

-- the answer has this status and this text
abbrev pub IsWrittenAs : Unwritten → Status → List ℕ → Type 0
IsWrittenAs (Line reply) status text = (status ≡ reply.status) × (text ≡ reply.text.items)
IsWrittenAs (Config c) status text = (status ≡ Done) × IsTextOf c.version (spelling_of c) text
IsWrittenAs (Packed c) status text = (status ≡ Done) × IsTextOf c.version (spelling_of_packed c) text

-- The answer can be written, and it is then one that a command has, as `replies` says; no place is reported.
pub record WillReply (replies : Status → List ℕ → List Place → Type 0) (answer : Unwritten) : Type 0 where
  pub writable : IsWritable answer
  pub right : (status : Status) (text : List ℕ) → IsWrittenAs answer status text → replies status text []

-- the configuration of a machine's bank in this state, with the signal at this input port, both counted from 0
pub record IsBankConfig (m : Machine) (state row : ℕ) (c : NetConfig) : Type 0 where
  pub version : c.version ≡ Two
  pub bank : IsBankSpelling m state row (spelling_of c)
  pub admitted : Admits Two (spelling_of c)

-- The statements of this crate's laws, each a field of `Laws`.
use Rattle.std.specs.Prelude.{◌≡◌, ℕ, ◌≤◌, List, []}
use Rattle.bn_circuits.specs.Situations.{counted, situation_of}
use Rattle.bn_circuits.specs.declared.place.Place.{Place}
use Rattle.bn_machine.specs.Machine.{Program}
use Rattle.bn_machine.specs.Outcome.{Limits}
use Rattle.bn_netlist_laws.specs.Spelling.{Spelling, Admits, IsTextOf, Spelled, moved_to}
use Rattle.bn_netlist_laws.specs.declared.version.Version.{Version}
use Rattle.bn_mirror.specs.Mirror.{IsMirror}
use Rattle.bn_mirror.specs.Laws.{ComesBack}
use Rattle.bn_boards.specs.Flats.{Flat, IsFlatOf, IsAccepted}
use Rattle.bn_boards.specs.Costs.{HasCost}
use Rattle.bn_reply.specs.declared.status.Status.{Status}
use Rattle.bn_reply.specs.declared.status.Status.TheVariants.{Done}
use Rattle.bn_reply_relations.specs.CompileReply.{IsFlatSpelling}
use Rattle.bn_reply_relations.specs.RunReply.{board_after}
use Rattle.bn_reply_circuits.specs.MirrorReply.{MirrorReplies}

-- The bytes spell a configuration, and the text is that of this configuration in the same version with no steps
-- counted.
pub record IsUncounted (bytes text : List ℕ) : Type 0 where
  pub version : Version
  pub spelling : Spelling
  pub spelled : Spelled version spelling bytes
  pub written : IsTextOf version (moved_to spelling (counted (situation_of spelling.config) 0)) text

-- `mirror` on the text of `mirror` restores the first text, with no steps counted.
abbrev pub MirroredTextsComeBack : Type 0
MirroredTextsComeBack =
    (bytes text again : List ℕ) (status : Status) (told : List Place) → MirrorReplies bytes Done text []
    → MirrorReplies text status again told → (status ≡ Done) × IsUncounted bytes again

-- The circuit of a machine after any number of steps up to its exit may be spelled, and as many steps of its inverse
-- circuit end with the inverse start, where the signal has left by the inverse circuit's end port.
abbrev pub BoardsComeBack : Type 0
BoardsComeBack =
    (p : Program) (word : List ℕ) (l : Limits) (f : Flat) → IsFlatOf p word l f → IsAccepted p word l f
    → (v : Version) (s : Spelling) → IsFlatSpelling f s → Admits v s → (cost t : ℕ) → HasCost f cost → t ≤ cost
    → (m n : Spelling) → IsMirror (moved_to s (board_after f t)) m → IsMirror s n
    → Admits v (moved_to s (board_after f t)) × ComesBack m n t

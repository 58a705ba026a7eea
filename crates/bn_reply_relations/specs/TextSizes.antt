-- The length of a configuration text: each configuration that may be spelled has a text within the limit of an input.
use Rattle.std.specs.Prelude.{ℕ, ◌+◌, ◌*◌, ◌≤◌, List, length}
use Rattle.bn_netlist_laws.specs.Spelling.{Spelled, Spelling}
use Rattle.bn_netlist_laws.specs.declared.version.Version.{Version}
use Rattle.bn_reply.specs.declared.limits.TheConstants.{MOST_INPUT_BYTES}

-- At most 52 bytes per element, in either version, and 97 for the header; so each configuration text may be given to
-- the commands that read one.
abbrev pub TextsAreShort : Type 0
TextsAreShort = (v : Version) (s : Spelling) (text : List ℕ) → Spelled v s text → length text ≤ 97 + 52 * s.elements

abbrev pub TextsMayBeRead : Type 0
TextsMayBeRead = (v : Version) (s : Spelling) (text : List ℕ) → Spelled v s text → length text ≤ MOST_INPUT_BYTES

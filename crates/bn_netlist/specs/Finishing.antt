-- A text that has been read to its end.
use Rattle.std.specs.Prelude.{◌≡◌, ℕ, Bool, List}
use Rattle.bn_packed.specs.Ends.{EndList}
use Rattle.bn_netlist_laws.specs.Sentences.{Sentence, lines_text}
use Rattle.bn_netlist_laws.specs.Spelling as what
use Rattle.bn_netlist_laws.specs.Spelling.{header_then, Spelled}
use Rattle.bn_netlist_laws.specs.Faults.{AreWhole, IsFirstSpelledOut}
use Rattle.bn_netlist_laws.specs.declared.header.Header.{Header}
use Rattle.bn_netlist_laws.specs.declared.version.Version.{Version}
use Rattle.bn_netlist.specs.Drafting.{Holds}
use Rattle.bn_netlist.specs.declared.line_refusal.NetlistRefusal.{NetlistRefusal}
use Rattle.bn_netlist.specs.declared.line_refusal.NetlistRefusal.TheVariants.{Spelling, NoMemory}

-- the stored values are those of some complete text
pub record IsWholeDraft (h : Header) (lines left : ℕ) (states : List ℕ) (own : List Bool) (drawn : EndList)
    (fed : List Bool) : Type 0 where
  pub rows : List Sentence
  pub whole : AreWhole (header_then h rows)
  pub holds : Holds h rows lines left states own drawn fed

-- each complete text with these stored values spells this, in this version
abbrev pub SpellsAll : Header → ℕ → ℕ → List ℕ → List Bool → EndList → List Bool → Version → what.Spelling → Type 0
SpellsAll h lines left states own drawn fed version s =
    (rows : List Sentence) → AreWhole (header_then h rows) → Holds h rows lines left states own drawn fed
    → (version ≡ h.version) × Spelled h.version s (lines_text (header_then h rows))

-- each complete text with these stored values has the fault that the refusal names, or memory ran out
pub data RefusesAll (h : Header) (lines left : ℕ) (states : List ℕ) (own : List Bool) (drawn : EndList)
    (fed : List Bool) (r : NetlistRefusal) : Type 0 where
  wants_memory_for_net : r ≡ NoMemory → RefusesAll h lines left states own drawn fed r
  finds_column : (line : ℕ) → r ≡ Spelling line
      → ((rows : List Sentence) → AreWhole (header_then h rows) → Holds h rows lines left states own drawn fed
      → IsFirstSpelledOut (lines_text (header_then h rows)) line) → RefusesAll h lines left states own drawn fed r

-- The row of a rule.
use Rattle.std.proofs.Common.{◌≡◌, ◌∷◌, ℕ, List, [], get_or, sym}
use Rattle.bn_table.specs.Entry.{entry_of, said}
use Rattle.bn_machine.specs.Shifts.{shift_text}
use Rattle.bn_standardise.specs.Printed.{name_text, rule_entry}
use Rattle.bn_standardise.specs.declared.rule.Rule.{Rule}

-- the row of a rule's names and letters is the rule's entry
pub row_is : (letters : List ℕ) (r : Rule) (state next : List ℕ) (read write : ℕ) → state ≡ name_text r.state
    → next ≡ name_text r.next →
    get_or letters r.read 0 ≡ read → get_or letters r.write 0 ≡ write
    → entry_of (said state read write r.shift next) ≡ rule_entry letters r
row_is letters r state next read write state_is next_is read_is write_is t =
    state_is t ∷ (sym read_is t ∷ []) ∷ (sym write_is t ∷ []) ∷ shift_text r.shift ∷ next_is t ∷ []

-- Reading a text line by line, where its lines are cut out of bytes in memory.
use Rattle.std.specs.Prelude.{◌≡◌, ◌≢◌, ℕ, List, [], ◌∷◌, ◌++◌}
use Rattle.std.specs.Borrow.{Bor}
use Rattle.std.proofs.Common.{subst}
use Rattle.bn_base.specs.Line.{IsInLine, IsNextLine}
use Rattle.bn_base.specs.declared.lines.NextLine.{NextLine}
use Rattle.bn_base.specs.declared.lines.NextLine.TheVariants.{Whole, Cut}
use Rattle.bn_netlist_laws.specs.Spelling.{Spelling, Spelled}
use Rattle.bn_netlist_laws.specs.Faults.{malformed, too_many, no_element, out_of_order, end_wired, left_wired}
use Rattle.bn_netlist_laws.specs.Faults.{start_fed, second_source, spelled_out}
use Rattle.bn_netlist_laws.specs.declared.version.Version.{Version}
use Rattle.bn_netlist_laws.proofs.TextLemmas.{faulty_texts-spell-nothing}
use Rattle.bn_netlist.specs.NetText.{IsTextRefusal}
use Rattle.bn_netlist.specs.declared.line_refusal.NetlistRefusal.{NetlistRefusal}
use Rattle.bn_netlist.specs.declared.line_refusal.NetlistRefusal.TheVariants.{Syntax, Order, Target, TwoSources}
use Rattle.bn_netlist.specs.declared.line_refusal.NetlistRefusal.TheVariants.{StartFed, EndWired, LeftWired, TooMany}
use Rattle.bn_netlist.specs.declared.line_refusal.NetlistRefusal.TheVariants.{NoMemory}
use Rattle.bn_netlist.specs.declared.line_refusal.NetlistRefusal.TheVariants as refusal

-- what is known of a line that was cut out
pub whole_given : (bytes rest : List ℕ) (answer : NextLine) (line : Bor (List ℕ)) → answer ≡ Whole line
    → IsNextLine bytes answer rest → IsInLine line.now × (bytes ≡ line.now ++ 10 ∷ rest)
whole_given bytes rest answer line is h = subst (λ (a : NextLine). IsNextLine bytes a rest) is h

pub cut_given : (bytes rest : List ℕ) (answer : NextLine) (line : Bor (List ℕ)) → answer ≡ Cut line
    → IsNextLine bytes answer rest → IsInLine line.now × (bytes ≡ line.now) × (bytes ≢ []) × (rest ≡ [])
cut_given bytes rest answer line is h = subst (λ (a : NextLine). IsNextLine bytes a rest) is h

-- a text with a fault is the text of nothing
pub nothing_spelled : (text : List ℕ) (r : NetlistRefusal) → IsTextRefusal text r → r ≢ NoMemory
    → (v : Version) (s : Spelling) → Spelled v s text → ⊥
nothing_spelled text (Syntax line) refused known v s spelled =
    faulty_texts-spell-nothing v s text line malformed refused spelled
nothing_spelled text (Order line) refused known v s spelled =
    faulty_texts-spell-nothing v s text line out_of_order refused spelled
nothing_spelled text (Target line) refused known v s spelled =
    faulty_texts-spell-nothing v s text line no_element refused spelled
nothing_spelled text (TwoSources line) refused known v s spelled =
    faulty_texts-spell-nothing v s text line second_source refused spelled
nothing_spelled text (StartFed line) refused known v s spelled =
    faulty_texts-spell-nothing v s text line start_fed refused spelled
nothing_spelled text (EndWired line) refused known v s spelled =
    faulty_texts-spell-nothing v s text line end_wired refused spelled
nothing_spelled text (LeftWired line) refused known v s spelled =
    faulty_texts-spell-nothing v s text line left_wired refused spelled
nothing_spelled text (TooMany line) refused known v s spelled =
    faulty_texts-spell-nothing v s text line too_many refused spelled
nothing_spelled text (refusal.Spelling line) refused known v s spelled =
    faulty_texts-spell-nothing v s text line spelled_out refused spelled
nothing_spelled text NoMemory refused known v s spelled = known (λ i. NoMemory)

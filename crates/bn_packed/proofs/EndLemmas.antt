-- Ends of wires in rows of four: how a line's end is read, and the wires of a net by them.
use Rattle.std.specs.Prelude.{◌≡◌, ℕ, ◌+◌, ◌*◌, ◌/◌, ◌%◌, ◌^◌, ◌<◌, ◌≤◌, List, [], ◌∷◌, length, map, Option, Some, None}
use Rattle.std.specs.Prelude.{IfSome, slice_get, option_and_then, refl, ◌⊎◌}
use Rattle.std.proofs.Common.{zero, suc, get_or, arith, sym, ap, subst, ◌∙◌, inl, inr}
use Rattle.std.proofs.lemmas.Bool.Decides.{nat_tests}
use Rattle.std.proofs.lemmas.List.{length-replicate}
use Rattle.std.proofs.lemmas.Option.{slice_get-get_or, slice_get_past}
use Rattle.bn_element.specs.Tables.{Table}
use Rattle.bn_circuits.specs.Circuits.{IsCircuit, IsInputOf, IsOutputOf, target, source, inputs_of, outputs_of}
use Rattle.bn_circuits.proofs.StepLemmas.{same_lines}
use Rattle.bn_circuits.specs.declared.line.Line.{Line}
use Rattle.bn_element.specs.Rotary.{rotary}
use Rattle.bn_element.specs.Reversible.{rotary-IsReversible}
use Rattle.bn_element.specs.declared.rotary.Rotary.{Rotary}
use Rattle.bn_circuits.specs.Rows.{entry, width, wires_of, IsWired}
use Rattle.bn_circuits.specs.Parts.{Parts}
use Rattle.bn_circuits.specs.Order.{AreInOrder}
use Rattle.bn_circuits.proofs.WireLemmas.{target-wires, source-wires, wired-IsCircuit, tables-reversible, output-within}
use Rattle.bn_circuits.proofs.OrderLemmas.{in_order-same, rows_in_order}
use Rattle.bn_circuits.specs.RotaryNets.{rotary_circuit}
use Rattle.bn_packed.specs.Ends.{nth_line, IsLineBelow, EndList, AreEnds, AreEndsOf, end_at, rows_of, rotaries, net_of}
use Rattle.bn_packed.specs.Ends.{IsWiring}

abbrev Ends : Type 0
Ends = List (Option Line)

-- ---- rows of four

pub row_entry : (ends : Ends) (k e l n : ℕ) → length ends ≡ 4 * k → l < 4 → n ≡ 4 * e + l
    → entry (rows_of ends) (record { element = e; line = l }) ≡ end_at ends n
row_entry [] k e l n whole low is = refl
row_entry (a ∷ []) k e l n whole low is = absurd (omega arith)
row_entry (a ∷ b ∷ []) k e l n whole low is = absurd (omega arith)
row_entry (a ∷ b ∷ c ∷ []) k e l n whole low is = absurd (omega arith)
row_entry (a ∷ b ∷ c ∷ d ∷ ends) zero e l n whole low is = absurd (omega arith)
row_entry (a ∷ b ∷ c ∷ d ∷ ends) (suc k) zero l n whole low is =
    let same : l ≡ n = omega arith in
    by_line l low ∙ ap (end_at (a ∷ b ∷ c ∷ d ∷ ends)) same
  where
    by_line : (l : ℕ) → l < 4 → option_and_then (λ (o : Option Line). o) (slice_get (a ∷ b ∷ c ∷ d ∷ []) l)
        ≡ end_at (a ∷ b ∷ c ∷ d ∷ ends) l
    by_line zero low = refl
    by_line (suc zero) low = refl
    by_line (suc (suc zero)) low = refl
    by_line (suc (suc (suc zero))) low = refl
    by_line (suc (suc (suc (suc l)))) low = absurd (omega arith)
row_entry (a ∷ b ∷ c ∷ d ∷ ends) (suc k) (suc e) l n whole low is =
    let m : suc (suc (suc (suc (4 * e + l)))) ≡ n = omega arith in
    row_entry ends k e l (4 * e + l) (omega arith) low refl ∙ ap (end_at (a ∷ b ∷ c ∷ d ∷ ends)) m

pub row_entry_past : (ends : Ends) (e l : ℕ) → 4 ≤ l → entry (rows_of ends) (record { element = e; line = l }) ≡ None
row_entry_past [] e l high = refl
row_entry_past (a ∷ []) e l high = refl
row_entry_past (a ∷ b ∷ []) e l high = refl
row_entry_past (a ∷ b ∷ c ∷ []) e l high = refl
row_entry_past (a ∷ b ∷ c ∷ d ∷ ends) zero l high = rw (slice_get_past (a ∷ b ∷ c ∷ d ∷ []) l high) refl
row_entry_past (a ∷ b ∷ c ∷ d ∷ ends) (suc e) l high = row_entry_past ends e l high

row_width : (ends : Ends) (k e : ℕ) → length ends ≡ 4 * k → width (rows_of ends) e
    ≡ outputs_of (map (λ _. rotary) (rotaries k)) e
row_width [] zero e whole = refl
row_width [] (suc k) e whole = absurd (omega arith)
row_width (a ∷ []) k e whole = absurd (omega arith)
row_width (a ∷ b ∷ []) k e whole = absurd (omega arith)
row_width (a ∷ b ∷ c ∷ []) k e whole = absurd (omega arith)
row_width (a ∷ b ∷ c ∷ d ∷ ends) zero e whole = absurd (omega arith)
row_width (a ∷ b ∷ c ∷ d ∷ ends) (suc k) zero whole = refl
row_width (a ∷ b ∷ c ∷ d ∷ ends) (suc k) (suc e) whole = row_width ends k e (omega arith)

-- ---- rotary elements

-- all lists of rotary elements of one length are one list
pub rotaries_all : (elements : List Rotary) → rotaries (length elements) ≡ elements
rotaries_all [] = refl
rotaries_all (x ∷ elements) = ap (λ xs. x ∷ xs) (rotaries_all elements)

-- an element that is there has four lines in and out, and two states
pub four_out : (elements : List Rotary) (e : ℕ) → e < length elements → outputs_of (map (λ _. rotary) elements) e ≡ 4
four_out [] e low = absurd (omega arith)
four_out (x ∷ elements) zero low = refl
four_out (x ∷ elements) (suc e) low = four_out elements e (omega arith)

pub four_in : (elements : List Rotary) (e : ℕ) → e < length elements → inputs_of (map (λ _. rotary) elements) e ≡ 4
four_in [] e low = absurd (omega arith)
four_in (x ∷ elements) zero low = refl
four_in (x ∷ elements) (suc e) low = four_in elements e (omega arith)

same_counts : (elements : List Rotary) (e : ℕ) → outputs_of (map (λ _. rotary) elements) e
    ≡ inputs_of (map (λ _. rotary) elements) e
same_counts [] e = refl
same_counts (x ∷ elements) zero = refl
same_counts (x ∷ elements) (suc e) = same_counts elements e

length-tables : (elements : List Rotary) → length (map {B = Table} (λ _. rotary) elements) ≡ length elements
length-tables [] = refl
length-tables (x ∷ elements) = ap suc (length-tables elements)

-- a line that is there: its element and its number
pub output_below : (elements : List Rotary) (l : Line) → IsOutputOf (map (λ _. rotary) elements) l
    → IsLineBelow (length elements) l
output_below elements l there =
    let within : l.element < length elements = subst (λ n. l.element < n) (length-tables elements)
    (output-within (map (λ _. rotary) elements) l.element l.line there) in
    record { element = within; line = subst (λ n. l.line < n) (four_out elements l.element within) there }

pub input_below : (elements : List Rotary) (l : Line) → IsInputOf (map (λ _. rotary) elements) l
    → IsLineBelow (length elements) l
input_below elements l there =
    output_below elements l (subst (λ n. l.line < n) (sym (same_counts elements l.element)) there)

pub below_output : (elements : List Rotary) (l : Line) → IsLineBelow (length elements) l
    → IsOutputOf (map (λ _. rotary) elements) l
below_output elements l below = subst (λ n. l.line < n) (sym (four_out elements l.element below.element)) below.line

below_input : (elements : List Rotary) (l : Line) → IsLineBelow (length elements) l
    → IsInputOf (map (λ _. rotary) elements) l
below_input elements l below = subst (λ n. l.line < n) (sym (four_in elements l.element below.element)) below.line

-- the line in a place is there
pub line_below : (n i : ℕ) → i < 4 * n → IsLineBelow n (nth_line i)
line_below n i low = record { element = omega arith; line = omega arith }

pub line_by_number : (l : Line) (i : ℕ) → l.line < 4 → i ≡ 4 * l.element + l.line → nth_line i ≡ l
line_by_number l i low is = same_lines (nth_line i) l (omega arith) (omega arith)

-- ---- the wires of ends

pub wiring-wired : (targets sources : EndList) → IsWiring targets sources
    → IsWired (map (λ _. rotary) (rotaries targets.elements)) (rows_of targets.ends) (rows_of sources.ends)
wiring-wired targets sources wiring =
    record {
      outputs = λ e. row_width targets.ends targets.elements e wiring.all_targets;
      inputs = λ e. row_width sources.ends targets.elements e wiring.all_sources
          ∙ same_counts (rotaries targets.elements) e;
      paired = wiring.paired;
      few = let long : length (map {B = Table} (λ _. rotary) (rotaries targets.elements)) ≡ targets.elements =
          length-tables (rotaries targets.elements) ∙
          length-replicate {A = Rotary} targets.elements (record {}) in subst (λ n. n < 2 ^ 32) (sym long) wiring.few;
    }

pub wiring-IsCircuit : (targets sources : EndList) (now : Parts Rotary) → IsWiring targets sources
    → net_of targets ≡ now → IsCircuit (rotary_circuit now)
wiring-IsCircuit targets sources now wiring is =
    subst (λ n. IsCircuit (rotary_circuit n)) is
    (wired-IsCircuit (map (λ _. rotary) (rotaries targets.elements)) (rows_of targets.ends) (rows_of sources.ends)
    (tables-reversible (λ _. rotary) (λ _. rotary-IsReversible) (rotaries targets.elements))
    (wiring-wired targets sources wiring))

pub length-net : (targets : EndList) (now : Parts Rotary) → net_of targets ≡ now
    → length now.elements ≡ targets.elements
length-net targets now is = sym (ap (λ (n : Parts Rotary). length n.elements) is)
    ∙ length-replicate {A = Rotary} targets.elements (record {})

entry_read : (ends : Ends) (n : ℕ) (l : Line) (o : Option Line) → length ends ≡ 4 * n → l.line < 4
    → slice_get ends (4 * l.element + l.line) ≡ Some o
    → entry (rows_of ends) l ≡ o
entry_read ends n l o whole low read = row_entry ends n l.element l.line (4 * l.element + l.line) whole low refl
    ∙ rw read refl

-- what is read there is the target, the source
pub target_read : (targets sources : EndList) (now : Parts Rotary) (from : Line) (o : Option Line)
    → IsWiring targets sources → net_of targets ≡ now
    → IsOutputOf (map (λ _. rotary) now.elements) from → slice_get targets.ends (4 * from.element + from.line) ≡ Some o
    → o ≡ target now.wires from
target_read targets sources now from o wiring is there read =
    let below = output_below now.elements from there in
    sym (ap (λ (n : Parts Rotary). target n.wires from) (sym is) ∙ target-wires (rows_of targets.ends) from
    ∙ entry_read targets.ends targets.elements from
    o wiring.all_targets below.line read)

pub source_read : (targets sources : EndList) (now : Parts Rotary) (to : Line) (o : Option Line)
    → IsWiring targets sources → net_of targets ≡ now
    → IsInputOf (map (λ _. rotary) now.elements) to → slice_get sources.ends (4 * to.element + to.line) ≡ Some o
    → o ≡ source now.wires to
source_read targets sources now to o wiring is there read =
    let below = input_below now.elements to there in
    sym (ap (λ (n : Parts Rotary). source n.wires to) (sym is)
    ∙ source-wires (rows_of targets.ends) (rows_of sources.ends) wiring.paired to ∙ entry_read
    sources.ends targets.elements to o wiring.all_sources below.line read)

-- ---- the ends of a net's wires

-- the rows hold what f tells, where f tells nothing of lines that aren't there
pub ends_entry : (f : Line → Option Line) (n : ℕ) (e : EndList) → AreEndsOf f n e
    → ((l to : Line) → f l ≡ Some to → IsLineBelow n l) → (l : Line)
    → entry (rows_of e.ends) l ≡ f l
ends_entry f n e are only l = by_value (f l) refl
  where
    here : IsLineBelow n l → entry (rows_of e.ends) l ≡ f l
    here below =
        let i : 4 * l.element + l.line < 4 * n = let a = below.element in let b = below.line in omega arith in
        entry_read e.ends n l (f l) are.ends.count below.line
        (are.ends.each (4 * l.element + l.line) i ∙ ap (λ x. Some (f x))
        (line_by_number l (4 * l.element + l.line) below.line refl))

    sides : (4 ≤ l.line) ⊎ ((l.line < 4) × ((n ≤ l.element) ⊎ (l.element < n)))
    sides = grind (arith, nat_tests)

    elsewhere : (4 ≤ l.line) ⊎ ((l.line < 4) × ((n ≤ l.element) ⊎ (l.element < n))) → f l ≡ None
        → entry (rows_of e.ends) l ≡ None
    elsewhere (inl high) none = row_entry_past e.ends l.element l.line high
    elsewhere (inr (low, inl past)) none =
        let count = are.ends.count in
        row_entry e.ends n l.element l.line (4 * l.element + l.line) are.ends.count low refl ∙ rw
        (slice_get_past e.ends (4 * l.element + l.line) (omega arith)) refl
    elsewhere (inr (low, inr within)) none = here (record { element = within; line = low }) ∙ none

    by_value : (o : Option Line) → f l ≡ o → entry (rows_of e.ends) l ≡ f l
    by_value (Some to) is = here (only l to is)
    by_value None is = elsewhere sides is ∙ sym is

target_only : (net : Parts Rotary) → IsCircuit (rotary_circuit net) → (from to : Line) → target net.wires from ≡ Some to
    → IsLineBelow (length net.elements) from
target_only net circuit from to is = output_below net.elements from (circuit.wired from to is).0

-- an end leads to a line that is there
pub target_within : (net : Parts Rotary) → IsCircuit (rotary_circuit net) → (from : Line) (o : Option Line)
    → o ≡ target net.wires from
    → IfSome o (IsLineBelow (length net.elements))
target_within net circuit from None is = tt
target_within net circuit from (Some to) is = input_below net.elements to (circuit.wired from to (sym is)).1

-- what feeds a line is an output line
pub source_output : (net : Parts Rotary) → IsCircuit (rotary_circuit net) → (to : Line) (o : Option Line)
    → o ≡ source net.wires to
    → IfSome o (IsOutputOf (map (λ _. rotary) net.elements))
source_output net circuit to None is = tt
source_output net circuit to (Some from) is = (circuit.wired from to ((circuit.one_to_one from to).1 (sym is))).0

same_parts : (m n : Parts Rotary) → m.elements ≡ n.elements → m.wires ≡ n.wires → m ≡ n
same_parts m n elements wires = λ i. record { elements = elements i; wires = wires i }

-- and the net that they give back
pub net_again : (net : Parts Rotary) (targets : EndList) → IsCircuit (rotary_circuit net) → AreInOrder net.wires
    → AreEndsOf (target net.wires) (length net.elements) targets
    → net_of targets ≡ net
net_again net targets circuit order forth =
    let t = ends_entry (target net.wires) (length net.elements) targets forth (target_only net circuit) in
    same_parts (net_of targets) net (ap rotaries forth.elements ∙ rotaries_all net.elements)
    (in_order-same (wires_of 0 (rows_of targets.ends)) net.wires (rows_in_order 0 (rows_of targets.ends)) order
    (λ from. target-wires (rows_of targets.ends) from ∙ t from))

-- ---- ends element by element

-- the ends that a wiring keeps are what its wires tell
pub targets-AreEnds : (targets sources : EndList) (now : Parts Rotary) (ends : Ends) → IsWiring targets sources
    → net_of targets ≡ now → ends ≡ targets.ends
    → AreEnds (target now.wires) (4 * length now.elements) ends
targets-AreEnds targets sources now ends wiring is same =
    let count : length now.elements ≡ targets.elements = length-net targets now is in
    let whole = wiring.all_targets in
    record {
      count = ap length same ∙ wiring.all_targets ∙ ap (λ n. 4 * n) (sym count);
      each = λ i low.
          let there : i < length targets.ends = omega arith in
          let number : i ≡ 4 * (i / 4) + i % 4 = omega arith in
          let read : slice_get targets.ends i ≡ Some (get_or targets.ends i None) =
          slice_get-get_or targets.ends i None there in
          let output = below_output now.elements (nth_line i) (line_below (length now.elements) i low) in
          ap (λ xs. slice_get xs i) same ∙ read
          ∙ ap Some (target_read targets sources now (nth_line i) (get_or targets.ends i None) wiring is output
          (ap (slice_get targets.ends) (sym number) ∙ read));
    }

pub sources-AreEnds : (targets sources : EndList) (now : Parts Rotary) (ends : Ends) → IsWiring targets sources
    → net_of targets ≡ now → ends ≡ sources.ends
    → AreEnds (source now.wires) (4 * length now.elements) ends
sources-AreEnds targets sources now ends wiring is same =
    let count : length now.elements ≡ targets.elements = length-net targets now is in
    let whole = wiring.all_sources in
    record {
      count = ap length same ∙ wiring.all_sources ∙ ap (λ n. 4 * n) (sym count);
      each = λ i low.
          let there : i < length sources.ends = omega arith in
          let number : i ≡ 4 * (i / 4) + i % 4 = omega arith in
          let read : slice_get sources.ends i ≡ Some (get_or sources.ends i None) =
          slice_get-get_or sources.ends i None there in
          let input = below_input now.elements (nth_line i) (line_below (length now.elements) i low) in
          ap (λ xs. slice_get xs i) same ∙ read
          ∙ ap Some (source_read targets sources now (nth_line i) (get_or sources.ends i None) wiring is input
          (ap (slice_get sources.ends) (sym number) ∙ read));
    }

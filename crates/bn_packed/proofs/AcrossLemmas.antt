-- Lines across an element from each other, and the ends that are kept by them.
use Rattle.std.specs.Prelude.{◌≡◌, ℕ, ◌+◌, ◌*◌, ◌/◌, ◌%◌, ◌<◌, ◌≤◌, List, length, map, Option, Some, None, slice_get}
use Rattle.std.specs.Prelude.{option_and_then, bit_xor, refl, ◌⊎◌}
use Rattle.std.specs.Option.{option_map}
use Rattle.std.proofs.Common.{get_or, arith, sym, ap, subst, ◌∙◌, inl, inr}
use Rattle.std.proofs.lemmas.Bool.Decides.{nat_tests}
use Rattle.std.proofs.lemmas.Nat.{xor_shr, xor_mod, xor_lt}
use Rattle.std.proofs.lemmas.List.{length-map}
use Rattle.std.proofs.lemmas.List.FromFn.{length-map-range_with_len, get_or-map-range_with_len}
use Rattle.std.proofs.lemmas.Option.{slice_get-get_or, slice_get-map, slice_get_within, slice_get_past}
use lib.Bits.{xor_zero_r, xor_assoc, xor_self}
use Rattle.bn_circuits.specs.Circuits.{IsOutputOf, target, source, same_line}
use Rattle.bn_circuits.proofs.StepLemmas.{same_lines}
use Rattle.bn_circuits.specs.declared.line.Line.{Line}
use Rattle.bn_element.specs.Rotary.{rotary}
use Rattle.bn_element.specs.declared.rotary.Rotary.{Rotary}
use Rattle.bn_circuits.specs.Parts.{Parts}
use Rattle.bn_circuits.proofs.WireListLemmas.{line_tells}
use Rattle.bn_circuits.specs.Rows.{entry}
use Rattle.bn_packed.specs.Ends.{nth_line, opposite, ahead, behind, IsLineBelow, EndList, AreEnds, AreEndsOf}
use Rattle.bn_packed.specs.Ends.{AreTargets, IsWiring, end_at, targets_by, sources_by, rows_of, net_of}
use Rattle.bn_packed.proofs.EndLemmas.{row_entry, row_entry_past, output_below, length-net, target_read}
use Rattle.bn_packed.proofs.EndLemmas.{targets-AreEnds, sources-AreEnds}

-- ---- lines across

-- `^` with a number below 4 leaves the element
pub same_element : (n k : ℕ) → k / 4 ≡ 0 → bit_xor n k / 4 ≡ n / 4
same_element n k low = xor_shr n k 2 ∙ ap (bit_xor (n / 4)) low ∙ xor_zero_r (n / 4)

pub xor_twice : (n : ℕ) → bit_xor (bit_xor n 2) 2 ≡ n
xor_twice n = xor_assoc n 2 2 ∙ ap (bit_xor n) (xor_self 2) ∙ xor_zero_r n

pub across_low : (l : ℕ) → l < 4 → bit_xor l 2 < 4
across_low l low = xor_lt 2 l 2 low (omega arith)

-- across twice is the line itself
pub opposite_twice : (l : Line) → opposite (opposite l) ≡ l
opposite_twice l = same_lines (opposite (opposite l)) l refl (xor_twice l.line)

-- by the line's place
pub opposite_number : (n : ℕ) → nth_line (bit_xor n 2) ≡ opposite (nth_line n)
opposite_number n = same_lines (nth_line (bit_xor n 2)) (opposite (nth_line n)) (same_element n 2 refl) (xor_mod n 2 2)

pub number_across : (e l : ℕ) → l < 4 → bit_xor (4 * e + l) 2 ≡ 4 * e + bit_xor l 2
number_across e l low =
    let element : (4 * e + l) / 4 ≡ e = omega arith in
    let line : (4 * e + l) % 4 ≡ l = omega arith in
    let over = same_element (4 * e + l) 2 refl in
    let rest : bit_xor (4 * e + l) 2 % 4 ≡ bit_xor l 2 = xor_mod (4 * e + l) 2 2 ∙ ap (λ x. bit_xor x 2) line in
    omega arith

-- below so many elements
pub opposite_below : (n : ℕ) (l : Line) → IsLineBelow n l → IsLineBelow n (opposite l)
opposite_below n l below = record { element = below.element; line = across_low l.line below.line }

number_below : (n k : ℕ) → n < 4 * k → bit_xor n 2 < 4 * k
number_below n k low = let same = same_element n 2 refl in omega arith

-- a test of one line for the line across from another
pub test_across : (a l : Line) → same_line a (opposite l) ≡ same_line (opposite a) l
test_across a l =
    elim (line_tells a (opposite l)) [
      | inl at ↦ elim (line_tells (opposite a) l) [
        | inl also ↦ at.0 ∙ sym also.0
        | inr off ↦ absurd (off.1 (ap opposite at.1 ∙ opposite_twice l))
      ]
      | inr off ↦ elim (line_tells (opposite a) l) [
        | inl at ↦ absurd (off.1 (sym (opposite_twice a) ∙ ap opposite at.1))
        | inr also ↦ off.0 ∙ sym also.0
      ]
    ]

abbrev across : Option Line → Option Line
across o = option_map opposite o

across_twice : (o : Option Line) → across (across o) ≡ o
across_twice None = refl
across_twice (Some l) = ap Some (opposite_twice l)

-- ---- ends by lines across

length_by : (e : EndList) → length (targets_by e).ends ≡ length e.ends
length_by e = length-map-range_with_len (λ n. end_at e.ends (bit_xor n 2)) 0 (length e.ends)

read_by : (e : EndList) (n : ℕ) → n < length e.ends → slice_get (targets_by e).ends n
    ≡ Some (end_at e.ends (bit_xor n 2))
read_by e n within =
    let there : n < length (targets_by e).ends = omega (arith, length_by e) in
    slice_get-get_or (targets_by e).ends n None there
    ∙ ap Some (get_or-map-range_with_len (λ i. end_at e.ends (bit_xor i 2)) 0 (length e.ends) n n None within
    (omega arith))

-- an end that is read
pub end_read : (ends : List (Option Line)) (n : ℕ) (o : Option Line) → slice_get ends n ≡ Some o → end_at ends n ≡ o
end_read ends n o has = rw has refl

pub read_end : (ends : List (Option Line)) (n : ℕ) → n < length ends → slice_get ends n ≡ Some (end_at ends n)
read_end ends n within =
    let has = slice_get-get_or ends n None within in
    has ∙ ap Some (sym (end_read ends n (get_or ends n None) has))

-- what is kept in the place of a line is the end of the line across
pub read_across : (e : EndList) (k n : ℕ) (o : Option Line) → length e.ends ≡ 4 * k
    → slice_get e.ends (bit_xor n 2) ≡ Some o
    → slice_get (targets_by e).ends n ≡ Some o
read_across e k n o whole has =
    let within = slice_get_within e.ends (bit_xor n 2) o has in
    let same = same_element n 2 refl in
    let back : bit_xor (bit_xor n 2) 2 ≡ n = xor_twice n in
    let low = number_below (bit_xor n 2) k (omega arith) in
    read_by e n (omega arith) ∙ ap Some (end_read e.ends (bit_xor n 2) o has)

-- ends that are ahead of lines tell where output lines lead
pub ahead-AreTargets : (f : Line → Option Line) (k : ℕ) (e : EndList) → AreEndsOf (λ l. f (opposite l)) k e
    → AreEndsOf f k (targets_by e)
ahead-AreTargets f k e are = record {
  elements = are.elements;
  ends = record {
    count = length_by e ∙ are.ends.count;
    each = λ i low.
        read_across e k i (f (nth_line i)) are.ends.count
        (are.ends.each (bit_xor i 2) (number_below i k low) ∙ ap (λ l. Some (f l))
        (ap opposite (opposite_number i) ∙ opposite_twice (nth_line i)));
  };
}

-- and the other way round
pub targets-AreAhead : (f : Line → Option Line) (k : ℕ) (e : EndList) → AreEnds f (4 * k) (targets_by e).ends
    → AreEnds (λ l. f (opposite l)) (4 * k) e.ends
targets-AreAhead f k e are = record { count = whole; each = each }
  where
    whole : length e.ends ≡ 4 * k
    whole = sym (length_by e) ∙ are.count

    each : (i : ℕ) → i < 4 * k → slice_get e.ends i ≡ Some (f (opposite (nth_line i)))
    each i low =
        let over = number_below i k low in
        let within : i < length e.ends = omega (arith, whole) in
        let beyond : bit_xor i 2 < length e.ends = omega (arith, whole) in
        let told : Some (end_at e.ends (bit_xor (bit_xor i 2) 2)) ≡ Some (f (nth_line (bit_xor i 2))) =
        sym (read_by e (bit_xor i 2) beyond) ∙ are.each (bit_xor i 2) over in
        read_end e.ends i within ∙ ap (λ n. Some (end_at e.ends n)) (sym (xor_twice i)) ∙ told
        ∙ ap (λ l. Some (f l)) (opposite_number i)

-- ends that are behind lines, by where input lines come from
pub sources-AreBehind : (f : Line → Option Line) (n : ℕ) (e : EndList) → AreEnds f n (sources_by e).ends
    → AreEnds (λ l. option_map opposite (f l)) n e.ends
sources-AreBehind f n e are = record {
  count = sym (length-map e.ends (option_map opposite)) ∙ are.count;
  each = λ i low.
      let within : i < length e.ends = (let count = are.count in let same : length (sources_by e).ends
      ≡ length e.ends = length-map e.ends (option_map opposite) in omega arith) in
      let has = read_end e.ends i within in
      let told : Some (across (end_at e.ends i)) ≡ Some (f (nth_line i)) =
      sym (ap (option_map across) has) ∙ sym (slice_get-map across e.ends i) ∙ are.each i low in
      let one : across (end_at e.ends i) ≡ f (nth_line i) = cc in
      has ∙ ap Some (sym (across_twice (end_at e.ends i)) ∙ ap across one);
}

-- ---- targets ahead

pub targets_ahead : (e : EndList) → AreTargets (targets_by e) → AreTargets e
targets_ahead e are = record {
  few = are.few;
  whole = whole;
  inside = λ i to has. are.inside (bit_xor i 2) to (by i to has);
  apart = λ i j to has_i has_j.
      sym (xor_twice i) ∙ ap (λ n. bit_xor n 2) (are.apart (bit_xor i 2) (bit_xor j 2) to (by i to has_i)
      (by j to has_j)) ∙ xor_twice j;
}
  where
    whole : length e.ends ≡ 4 * e.elements
    whole = sym (length_by e) ∙ are.whole

    by : (i : ℕ) (to : Line) → slice_get e.ends i ≡ Some (Some to)
        → slice_get (targets_by e).ends (bit_xor i 2) ≡ Some (Some to)
    by i to has = read_across e e.elements (bit_xor i 2) (Some to) whole (ap (slice_get e.ends) (xor_twice i) ∙ has)

-- ---- rows of four

sides : (l : ℕ) → (4 ≤ l) ⊎ (l < 4)
sides l = grind (arith, nat_tests)

-- the row's entry of a line is that of the line across
entry_by : (e : EndList) (k : ℕ) (l : Line) → length e.ends ≡ 4 * k
    → entry (rows_of (targets_by e).ends) l ≡ entry (rows_of e.ends) (opposite l)
entry_by e k l whole = by_line (sides l.line)
  where
    past : 4 ≤ l.line → 4 ≤ bit_xor l.line 2
    past high = let same = same_element l.line 2 refl in omega arith

    n : ℕ
    n = 4 * l.element + l.line

    ends : (n < length e.ends) ⊎ (length e.ends ≤ n) → l.line < 4
        → end_at (targets_by e).ends n ≡ end_at e.ends (bit_xor n 2)
    ends (inl within) low = end_read (targets_by e).ends n (end_at e.ends (bit_xor n 2)) (read_by e n within)
    ends (inr beyond) low =
        let same = same_element n 2 refl in
        rw (slice_get_past (targets_by e).ends n (omega (arith, length_by e)))
        (rw (slice_get_past e.ends (bit_xor n 2) (omega arith)) refl)

    reach : (n < length e.ends) ⊎ (length e.ends ≤ n)
    reach = grind (arith, nat_tests)

    by_line : (4 ≤ l.line) ⊎ (l.line < 4) → entry (rows_of (targets_by e).ends) l ≡ entry (rows_of e.ends) (opposite l)
    by_line (inl high) =
        row_entry_past (targets_by e).ends l.element l.line high
        ∙ sym (row_entry_past e.ends l.element (bit_xor l.line 2) (past high))
    by_line (inr low) =
        row_entry (targets_by e).ends k l.element l.line n (length_by e ∙ whole) low refl ∙ ends reach low
        ∙ sym (row_entry e.ends k l.element (bit_xor l.line 2) (bit_xor n 2) whole (across_low l.line low)
        (number_across l.element l.line low))

entry_across : (e : EndList) (k : ℕ) (l : Line) → length e.ends ≡ 4 * k
    → entry (rows_of (sources_by e).ends) l ≡ across (entry (rows_of e.ends) l)
entry_across e k l whole = by_line (sides l.line)
  where
    n : ℕ
    n = 4 * l.element + l.line

    whole_by : length (sources_by e).ends ≡ 4 * k
    whole_by = length-map e.ends (option_map opposite) ∙ whole

    through : (o : Option (Option Line)) → option_and_then (λ x. x) (option_map across o)
        ≡ across (option_and_then (λ x. x) o)
    through None = refl
    through (Some o) = refl

    by_line : (4 ≤ l.line) ⊎ (l.line < 4) → entry (rows_of (sources_by e).ends) l ≡ across (entry (rows_of e.ends) l)
    by_line (inl high) =
        row_entry_past (sources_by e).ends l.element l.line high
        ∙ sym (ap across (row_entry_past e.ends l.element l.line high))
    by_line (inr low) =
        row_entry (sources_by e).ends k l.element l.line n whole_by low refl
        ∙ ap (option_and_then (λ x. x)) (slice_get-map across e.ends n) ∙ through (slice_get e.ends n)
        ∙ sym (ap across (row_entry e.ends k l.element l.line n whole low refl))

-- lines that lead ahead and back again are the wires, kept both ways
pub across-IsWiring : (e s : EndList) → IsWiring e s → IsWiring (targets_by e) (sources_by s)
across-IsWiring e s wiring = record {
  same = wiring.same;
  few = wiring.few;
  all_targets = length_by e ∙ wiring.all_targets;
  all_sources = length-map s.ends (option_map opposite) ∙ wiring.all_sources;
  paired = λ from to. (
    λ h.
        let led : entry (rows_of e.ends) (opposite from) ≡ Some to =
        sym (entry_by e e.elements from wiring.all_targets) ∙ h in
        entry_across s e.elements to wiring.all_sources ∙ ap across ((wiring.paired (opposite from) to).0 led)
        ∙ ap Some (opposite_twice from),
    λ h.
        let came : entry (rows_of s.ends) to ≡ Some (opposite from) =
        sym (across_twice (entry (rows_of s.ends) to)) ∙ ap across
        (sym (entry_across s e.elements to wiring.all_sources) ∙ h) in
        entry_by e e.elements from wiring.all_targets ∙ (wiring.paired (opposite from) to).1 came,
  );
}

-- ---- what a wiring keeps

pub across_there : (e : EndList) (now : Parts Rotary) (from over : Line) → net_of (targets_by e) ≡ now
    → over ≡ opposite from
    → IsOutputOf (map (λ _. rotary) now.elements) from → IsLineBelow e.elements over
across_there e now from over is across_from there =
    let below = subst (λ n. IsLineBelow n from) (length-net (targets_by e) now is)
    (output_below now.elements from there) in
    subst (IsLineBelow e.elements) (sym across_from) (opposite_below e.elements from below)

pub across_read : (e s : EndList) (now : Parts Rotary) (from over : Line) (o : Option Line)
    → IsWiring (targets_by e) (sources_by s)
    → net_of (targets_by e) ≡ now → over ≡ opposite from → IsOutputOf (map (λ _. rotary) now.elements) from
    → slice_get e.ends (4 * over.element + over.line) ≡ Some o → o ≡ target now.wires from
across_read e s now from over o wiring is across_from there has =
    let below = output_below now.elements from there in
    let whole : length e.ends ≡ 4 * e.elements = sym (length_by e) ∙ wiring.all_targets in
    let number : bit_xor (4 * from.element + from.line) 2 ≡ 4 * over.element + over.line =
    number_across from.element from.line below.line ∙ ap (λ (l : Line). 4 * l.element + l.line) (sym across_from) in
    target_read (targets_by e) (sources_by s) now from o wiring is there
    (read_across e e.elements (4 * from.element + from.line) o whole (ap (slice_get e.ends) number ∙ has))

pub ahead-AreEnds : (e s : EndList) (now : Parts Rotary) (ends : List (Option Line))
    → IsWiring (targets_by e) (sources_by s) → net_of (targets_by e) ≡ now
    → ends ≡ e.ends → AreEnds (ahead now.wires) (4 * length now.elements) ends
ahead-AreEnds e s now ends wiring is same =
    subst (AreEnds (ahead now.wires) (4 * length now.elements)) (sym same)
    (targets-AreAhead (target now.wires) (length now.elements) e
    (targets-AreEnds (targets_by e) (sources_by s) now (targets_by e).ends wiring is refl))

pub behind-AreEnds : (e s : EndList) (now : Parts Rotary) (ends : List (Option Line))
    → IsWiring (targets_by e) (sources_by s) → net_of (targets_by e) ≡ now
    → ends ≡ s.ends → AreEnds (behind now.wires) (4 * length now.elements) ends
behind-AreEnds e s now ends wiring is same =
    subst (AreEnds (behind now.wires) (4 * length now.elements)) (sym same)
    (sources-AreBehind (source now.wires) (4 * length now.elements) s
    (sources-AreEnds (targets_by e) (sources_by s) now (sources_by s).ends wiring is refl))

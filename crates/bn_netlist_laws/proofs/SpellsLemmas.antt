-- Whole lines without a fault, in which no column is spelled out, are the text of a configuration.
use Rattle.std.specs.Prelude.{◌≡◌, ◌≢◌, ℕ, ◌+◌, ◌<◌, ◌≤◌, nat_lt, nat_le, Bool, true, false, List, [], length}
use Rattle.std.specs.Prelude.{replicate, Some, None, slice_get, if◌then◌else◌, refl}
use Rattle.std.proofs.Common.{suc, arith, sym, ap, subst, ◌∙◌, inl, inr}
use Rattle.std.proofs.lemmas.Bool.{cases_Bool}
use Rattle.std.proofs.lemmas.Bool.Decides.{nat_tests}
use Rattle.std.proofs.lemmas.List.{length-replicate}
use Rattle.std.proofs.lemmas.Option.{slice_get_within}
use Rattle.bn_circuits.specs.Circuits.{target, IsPlace, states_of}
use Rattle.bn_circuits.specs.declared.line.Line.{Line}
use Rattle.bn_circuits.specs.declared.line.Wire.{Wire}
use Rattle.bn_circuits.specs.declared.place.Place.{Place}
use Rattle.bn_circuits.specs.declared.place.Place.TheVariants.{Enter, Left}
use Rattle.bn_circuits.proofs.WireListLemmas.{line_tells}
use Rattle.bn_circuits.specs.Circuits.{same_line}
use Rattle.bn_element.specs.Rotary.{rotary}
use Rattle.bn_netlist_laws.specs.Spelling.{Spelling}
use Rattle.bn_netlist_laws.specs.Faults.{is_left_by, element_at}
use Rattle.bn_netlist_laws.proofs.WireLemmas.{rotary_inputs, rotary_outputs, rotary_states, target-none, source-none}
use Rattle.bn_netlist_laws.specs.Columns.{rotary_elements}
use Rattle.bn_netlist_laws.specs.Sentences.{Sentence, At, IsSayable, lines_text}
use Rattle.bn_netlist_laws.specs.Spelling.{Admits, most_elements, header_then, Spelled}
use Rattle.bn_netlist_laws.specs.Faults.{Fault, header_lines, wires_after, bars_in, AreFaultless, AreWhole}
use Rattle.bn_netlist_laws.specs.Faults.{IsSpelledOut}
use Rattle.bn_netlist_laws.specs.declared.version.Version.{Version}
use Rattle.bn_netlist_laws.specs.declared.header.Header.{Header}
use Rattle.bn_netlist_laws.proofs.BlockLemmas.{has_header, Blocks, blocks}
use Rattle.bn_netlist_laws.proofs.FitLemmas.{AllFit, all-each, blocks_fit}
use Rattle.bn_netlist_laws.proofs.WholeLemmas.{fit-circuit, blocks_states, low_at, said_by, entries, IsAt}

named-there : (e n : ℕ) (f : Fault) → (if nat_lt e n then None else Some f) ≡ None → e < n
named-there e n f none =
    elim (cases_Bool (nat_lt e n)) [
      | inl below ↦ grind (arith, nat_tests)
      | inr above ↦ absurd (let found = rw above at none in cc)
    ]

counted-few : (c n : ℕ) (f : Fault) → (if nat_le c n then None else Some f) ≡ None → c ≤ n
counted-few c n f none =
    elim (cases_Bool (nat_le c n)) [
      | inl below ↦ grind (arith, nat_tests)
      | inr above ↦ absurd (let found = rw above at none in cc)
    ]

place_admissible : (n : ℕ) (ws : List Wire) (p : Place) → IsSayable (At p) → element_at p < n
    → ((from : Line) → is_left_by p from ≡ true → target ws from ≡ None) → IsPlace (rotary_elements n ws) p
place_admissible n ws (Enter e i) sayable there left = let four = rotary_inputs n e there in let low : i < 4 =
    sayable.1 in omega arith
place_admissible n ws (Left e o) sayable there left =
    let four = rotary_outputs n e there in
    let low : o < 4 = sayable.1 in
    let from : Line = record { element = e; line = o } in
    (omega arith, left from (same_is from))
  where
    same_is : (from : Line) → same_line from from ≡ true
    same_is from = elim (line_tells from from) [ inl same ↦ same.0 | inr other ↦ absurd (other.1 refl) ]

-- what these lines say may be spelled
pub said-admitted : (h : Header) (rows : List Sentence) → AreFaultless (header_then h rows) → Blocks rows
    → length rows ≡ h.count → Admits h.version (said_by h rows)
said-admitted h rows f are count =
    let after_count = f.2 in
    let after_start = after_count.2 in
    let after_end = after_start.2 in
    let after_steps = after_end.2 in
    let after_place = after_steps.2 in
    let rows_fine = after_place.2 in
    let ws : List Wire = wires_after 6 rows in
    let fit : AllFit h [] ws = blocks_fit h [] rows 0 6 are refl refl tt rows_fine in
    let states = blocks_states h [] rows are rows_fine in
    let start_there = named-there h.start.element h.count _ after_start.1 in
    let start_four = rotary_inputs h.count h.start.element start_there in
    let start_low : h.start.line < 4 = after_start.0.sayable.1 in
    let end_there = named-there h.end.element h.count _ after_end.1 in
    let end_four = rotary_outputs h.count h.end.element end_there in
    let end_low : h.end.line < 4 = after_end.0.sayable.1 in
    let place_there = named-there (element_at h.place) h.count _ after_place.1 in
    let made : length (bars_in rows) ≡ h.count = states.count ∙ count in
    let range : (e q : ℕ) → slice_get (bars_in rows) e ≡ Some q → q < states_of (replicate h.count rotary) e =
    λ e q has. (let low = low_at (bars_in rows) e q states.low has in let below = slice_get_within (bars_in rows) e q
    has in let two = rotary_states h.count e (omega arith) in omega arith)
    in
    let left : (from : Line) → is_left_by h.place from ≡ true → target ws from ≡ None =
    λ from is. target-none ws from (all-each h (λ w. w.from ≢ from)
    (λ earlier w fits same. not_both (is_left_by h.place from) is
    (subst (λ (l : Line). is_left_by h.place l ≡ false) same fits.not_left)) [] ws fit)
    in
    record {
      some = after_count.0.sayable.0;
      few = counted-few h.count (most_elements h.version) _ after_count.1;
      circuit = fit-circuit h ws fit;
      config = record {
        count = made ∙ sym (length-replicate h.count rotary);
        range = range;
        place = place_admissible h.count ws h.place after_place.0.sayable place_there left;
        in_time = after_steps.0.sayable;
      };
      start = omega arith;
      end = omega arith;
      unfed = source-none ws h.start (all-each h (λ w. w.to ≢ h.start)
          (λ earlier w fits same. fits.not_start (sym same)) [] ws fit);
      unwired = target-none ws h.end (all-each h (λ w. w.from ≢ h.end) (λ earlier w fits same. fits.not_end (sym same))
          [] ws fit);
    }
  where
    not_both : (b : Bool) → b ≡ true → b ≡ false → ⊥
    not_both b yes_ no_ = true_is_not_false (sym yes_ ∙ no_)
      where
        true_is_not_false : true ≡ false → ⊥
        true_is_not_false e = cc

-- whole lines behind a header say what they are the text of
pub whole-said : (h : Header) (rows : List Sentence) → AreWhole (header_then h rows)
    → ((e : ℕ) → IsSpelledOut (header_then h rows) e → ⊥) → Spelled h.version (said_by h rows)
    (lines_text (header_then h rows))
whole-said h rows whole none =
    let complete : length (header_then h rows) ≡ header_lines + h.count = whole.complete in
    let count : length rows ≡ h.count = omega arith in
    let rows_fine = whole.faultless.2.2.2.2.2.2 in
    let are : Blocks rows = blocks h (suc (length rows)) [] rows (omega arith) refl (omega arith) rows_fine in
    let start : IsAt h rows none [] rows 0 = record {
      lines = refl;
      made = refl;
      states = refl;
      count = omega arith;
      before = tt;
      faultless = rows_fine;
    } in
    record {
      admitted = said-admitted h rows whole.faultless are count;
      is_text = record { entries = rows; are = entries h rows none [] rows 0 are start; written = refl };
    }

-- a whole list of lines is the text of a configuration
pub whole-spells : (text : List ℕ) (lines : List Sentence) → AreWhole lines → text ≡ lines_text lines
    → ((e : ℕ) → IsSpelledOut lines e → ⊥) → (v : Version) × (s : Spelling) × Spelled v s text
whole-spells text lines whole begins none =
    let shape = has_header lines whole.faultless (sym whole.complete) in
    let h : Header = shape.0 in
    let rows : List Sentence = shape.1 in
    let same : lines ≡ header_then h rows = shape.2 in
    let is : Spelled h.version (said_by h rows) (lines_text (header_then h rows)) =
    whole-said h rows (subst AreWhole same whole) (λ e out. none e
    (subst (λ (zs : List Sentence). IsSpelledOut zs e) (sym same) out))
    in
    (h.version, said_by h rows, subst (Spelled h.version (said_by h rows)) (sym (begins ∙ ap lines_text same)) is)

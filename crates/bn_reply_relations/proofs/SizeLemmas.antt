-- How long a configuration text is.
use Rattle.std.specs.Prelude.{◌≡◌, ℕ, ◌+◌, ◌-◌, ◌*◌, ◌<◌, ◌≤◌, List, [], ◌∷◌, ◌++◌, length, replicate, slice_get}
use Rattle.std.specs.Prelude.{slice_index, Option, Some, None, codes, decimal, refl}
use Rattle.std.proofs.Common.{zero, suc, arith, sym, ap, subst}
use Rattle.std.proofs.lemmas.Fmt.{length-decimal-le}
use Rattle.std.proofs.lemmas.List.{length-append, length-replicate}
use Rattle.std.proofs.lemmas.Option.{slice_get_within}
use Rattle.bn_circuits.specs.Circuits.{IsPlace, inputs_of, outputs_of, line_at, target}
use Rattle.bn_circuits.specs.declared.line.Line.{Line}
use Rattle.bn_circuits.specs.declared.place.Place.{Place}
use Rattle.bn_circuits.specs.declared.place.Place.TheVariants.{Enter, Left}
use Rattle.bn_element.specs.Rotary.{rotary, north, east, south, west}
use Rattle.bn_element.specs.Tables.{Table}
use Rattle.bn_netlist_laws.specs.Sentences.{Sentence, Title, Count, Start, End, Steps, At, Element, Column, Row}
use Rattle.bn_netlist_laws.specs.Sentences.{bar_letters, line_text, lines_text}
use Rattle.bn_netlist_laws.specs.Sentences.{place_text, sentence_text, side_letters, target_text, targets_text}
use Rattle.bn_netlist_laws.specs.Spelling.{Admits, AreEntries, Spelling, circuit_of, column_entry, element_entry}
use Rattle.bn_netlist_laws.specs.Spelling.{most_elements, no_entry, row_sentences, targets_of}
use Rattle.bn_netlist_laws.specs.declared.version.Version.{Version}
use Rattle.bn_netlist_laws.specs.declared.version.Version.TheVariants.{One, Two}
use Rattle.bn_netlist_laws.proofs.TextLemmas.{lines_text-append}
use Rattle.bn_reply_relations.specs.TextSizes.{TextsAreShort, TextsMayBeRead}

-- ---- numbers

number_short : (n : ℕ) → n ≤ 4194304 → length (decimal n) ≤ 7
number_short n few = length-decimal-le 7 n (omega arith) (omega arith) (omega arith)

steps_short : (n : ℕ) → n ≤ 4611686018427387904 → length (decimal n) ≤ 19
steps_short n few = length-decimal-le 19 n (omega arith) (omega arith) (omega arith)

line_short : (l : Line) → l.element ≤ 4194304 → length (line_text l) ≤ 9
line_short l few =
    let number = number_short l.element few in
    let first = length-append (decimal l.element) (codes ".") in
    let whole = length-append (decimal l.element ++ codes ".") (slice_index side_letters l.line ∷ []) in
    omega arith

-- ---- elements of a circuit of equal tables

input_within : (t : Table) (n e i : ℕ) → i < inputs_of (replicate n t) e → e < n
input_within t zero e i h = absurd (omega (arith, h))
input_within t (suc n) zero i h = omega arith
input_within t (suc n) (suc e) i h = let rest = input_within t n e i h in omega (arith, rest)

output_within : (t : Table) (n e o : ℕ) → o < outputs_of (replicate n t) e → e < n
output_within t zero e o h = absurd (omega (arith, h))
output_within t (suc n) zero o h = omega arith
output_within t (suc n) (suc e) o h = let rest = output_within t n e o h in omega (arith, rest)

module _ (v : Version) (s : Spelling) (is : Admits v s) where
  all_few : s.elements ≤ 4194304
  all_few = by v is.few
    where
      by : (w : Version) → s.elements ≤ most_elements w → s.elements ≤ 4194304
      by One few = omega (arith, few)
      by Two few = omega (arith, few)

  target_short : (from : Line) → length (codes " " ++ target_text (target s.wires from)) ≤ 10
  target_short from = by (target s.wires from) refl
    where
      by : (o : Option Line) → target s.wires from ≡ o → length (codes " " ++ target_text o) ≤ 10
      by None leads = omega arith
      by (Some to) leads =
          let low = input_within rotary s.elements to.element to.line (is.circuit.wired from to leads).1 in
          let few = all_few in
          let line = line_short to (omega arith) in
          omega arith

  two_targets : (a b : Line) → length (targets_text (target s.wires a ∷ target s.wires b ∷ [])) ≤ 20
  two_targets a b =
      let first = target_short a in
      let second = target_short b in
      let whole = length-append (target_text (target s.wires a)) (codes " " ++ (target_text (target s.wires b) ++ []))
      in
      let rest = length-append (target_text (target s.wires b)) [] in
      omega arith

  four_targets : (e : ℕ) → length (targets_text (targets_of s.wires e)) ≤ 40
  four_targets e =
      let front = two_targets (line_at e north) (line_at e east) in
      let behind = two_targets (line_at e south) (line_at e west) in
      let split = targets_split (target s.wires (line_at e north)) (target s.wires (line_at e east))
      (target s.wires (line_at e south) ∷ target s.wires (line_at e west) ∷ []) in
      omega (arith, front, behind, split)
    where
      targets_split : (x y : Option Line) (zs : List (Option Line)) → length (targets_text (x ∷ y ∷ zs))
          ≡ length (targets_text (x ∷ y ∷ [])) + length (targets_text zs)
      targets_split x y zs =
          let a = length-append (target_text x) (codes " " ++ (target_text y ++ targets_text zs)) in
          let b = length-append (target_text y) (targets_text zs) in
          let c = length-append (target_text x) (codes " " ++ (target_text y ++ [])) in
          let d = length-append (target_text y) [] in
          omega arith

  -- ---- entries

  element_short : (e q : ℕ) → e ≤ 4194304 → length (sentence_text (Element e q (targets_of s.wires e))) ≤ 51
  element_short e q few =
      let number = number_short e few in
      let targets = four_targets e in
      let whole = length-append (decimal e) (codes " " ++ (slice_index bar_letters q
      ∷ targets_text (targets_of s.wires e))) in
      omega arith

  column_short : (e k q : ℕ) → e ≤ 4194304 → k ≤ 4194304 → length (sentence_text (Column e k q)) ≤ 19
  column_short e k q few rows =
      let first = number_short e few in
      let second = number_short k rows in
      let inner = length-append (decimal k) (codes " " ++ slice_index bar_letters q ∷ []) in
      let whole = length-append (decimal e) (codes " " ++ (decimal k ++ (codes " " ++ slice_index bar_letters q ∷ [])))
      in
      omega arith

  rows_short : (e k : ℕ) → length (lines_text (row_sentences s.wires e k)) ≤ 22 * k
  rows_short e zero = omega arith
  rows_short e (suc k) =
      let line = two_targets (line_at e east) (line_at e west) in
      let rest = rows_short (suc e) k in
      let x = Row (target s.wires (line_at e east)) (target s.wires (line_at e west)) in
      let whole = length-append (sentence_text x) (10 ∷ lines_text (row_sentences s.wires (suc e) k)) in
      omega (arith, line, rest, whole)

  state_within : (e q : ℕ) → slice_get s.config.states e ≡ Some q → e < s.elements
  state_within e q here =
      let low = slice_get_within s.config.states e q here in
      let count : length s.config.states ≡ length (circuit_of s).tables = is.config.count in
      let many = length-replicate {A = Table} s.elements rotary in
      omega (arith, low, count, many)

  entries_short : (e : ℕ) (xs : List Sentence) → AreEntries v s e xs → e ≤ s.elements
      → length (lines_text xs) + 52 * e ≤ 52 * s.elements
  entries_short e xs (no_entry at none) low = subst (λ ys. length (lines_text ys) + 52 * e ≤ 52 * s.elements) (sym none)
      (omega arith)
  entries_short e xs (element_entry q rest here not_written is_entry more) low =
      let within = state_within e q here in
      let behind = entries_short (suc e) rest more (omega arith) in
      let few = all_few in
      let line = element_short e q (omega arith) in
      let x = Element e q (targets_of s.wires e) in
      let whole = length-append (sentence_text x) (10 ∷ lines_text rest) in
      subst (λ ys. length (lines_text ys) + 52 * e ≤ 52 * s.elements) (sym is_entry)
      (omega (arith, behind, line, whole))
  entries_short e xs (column_entry k q rest written here is_entry more) low =
      let within = state_within (e + k) q here in
      let behind = entries_short (suc (e + k)) rest more (omega arith) in
      let few = all_few in
      let line = column_short e k q (omega arith) (omega arith) in
      let rows = rows_short e k in
      let x = Column e k q in
      let lines = lines_text-append (row_sentences s.wires e k) rest in
      let inner = length-append (lines_text (row_sentences s.wires e k)) (lines_text rest) in
      let long : length (lines_text (row_sentences s.wires e k ++ rest))
      ≡ length (lines_text (row_sentences s.wires e k) ++ lines_text rest) = ap length lines in
      let whole = length-append (sentence_text x) (10 ∷ lines_text (row_sentences s.wires e k ++ rest)) in
      subst (λ ys. length (lines_text ys) + 52 * e ≤ 52 * s.elements) (sym is_entry)
      (omega (arith, behind, line, rows, inner, long, whole))

  -- ---- the header

  place_short : (p : Place) → IsPlace (circuit_of s) p → length (place_text p) ≤ 14
  place_short (Enter e i) h =
      let low = input_within rotary s.elements e i h in
      let few = all_few in
      let line = line_short (line_at e i) (omega arith) in
      omega arith
  place_short (Left e o) h =
      let low = output_within rotary s.elements e o h.0 in
      let few = all_few in
      let line = line_short (line_at e o) (omega arith) in
      omega arith

title_short : (v : Version) → length (sentence_text (Title v)) ≤ 8
title_short One = omega arith
title_short Two = omega arith

-- a line and those behind it
line_then : (x : Sentence) (xs : List Sentence) (most : ℕ) → length (sentence_text x) ≤ most
    → length (lines_text (x ∷ xs)) ≤ most + 1 + length (lines_text xs)
line_then x xs most short = let whole = length-append (sentence_text x) (10 ∷ lines_text xs) in omega
    (arith, short, whole)

pub texts-short : TextsAreShort
texts-short v s text h =
    let is = h.admitted in
    let rows = h.is_text.entries in
    let entries = entries_short v s is 0 rows h.is_text.are (omega arith) in
    let few = all_few v s is in
    let count = number_short s.elements few in
    let start_low = input_within rotary s.elements s.start.element s.start.line is.start in
    let start = line_short s.start (omega arith) in
    let end_low = output_within rotary s.elements s.end.element s.end.line is.end in
    let end = line_short s.end (omega arith) in
    let steps = steps_short s.config.steps is.config.in_time in
    let place = place_short v s is s.config.place is.config.place in
    let a = line_then (At s.config.place) rows 14 place in
    let b = line_then (Steps s.config.steps) (At s.config.place ∷ rows) 25 (omega arith) in
    let c = line_then (End s.end) (Steps s.config.steps ∷ At s.config.place ∷ rows) 13 (omega arith) in
    let d = line_then (Start s.start) (End s.end ∷ Steps s.config.steps ∷ At s.config.place ∷ rows) 15 (omega arith) in
    let e = line_then (Count s.elements)
    (Start s.start ∷ End s.end ∷ Steps s.config.steps ∷ At s.config.place ∷ rows) 16 (omega arith) in
    let f = line_then (Title v)
    (Count s.elements ∷ Start s.start ∷ End s.end ∷ Steps s.config.steps ∷ At s.config.place ∷ rows) 8 (title_short v)
    in
    subst (λ t. length t ≤ 97 + 52 * s.elements) (sym h.is_text.written) (omega (arith, a, b, c, d, e, f, entries))

pub texts-read : TextsMayBeRead
texts-read v s text h =
    let short = texts-short v s text h in
    let few = all_few v s h.admitted in
    omega (arith, short, few)

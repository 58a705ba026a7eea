-- A line of an entry from its bytes.
use Rattle.std.specs.Prelude.{◌≡◌, ◌≢◌, ℕ, ◌+◌, ◌<◌, ◌==◌, Bool, List, [], ◌∷◌, ◌++◌, length, Option, Some, None}
use Rattle.std.specs.Prelude.{option_map, codes, refl}
use Rattle.std.proofs.Common.{arith, ap, subst, ◌∙◌, inl, inr}
use Rattle.std.proofs.lemmas.Bool.Decides.{eqb_tells}
use Rattle.std.proofs.lemmas.Option.{option_and_then_some, cond_some}
use Rattle.bn_packed.specs.Ends.{EndList}
use Rattle.bn_netlist_laws.specs.Sentences.{AreNameable}
use Rattle.bn_netlist_laws.specs.Reading.{word_taken, number_taken, bar_taken, targets_taken, element_of, named_target}
use Rattle.bn_netlist_laws.specs.Reading.{named_targets}
use Rattle.bn_netlist_laws.proofs.LineReadingLemmas.{targets_taken-takes}
use Rattle.bn_netlist_laws.specs.Sentences.{Sentence, Element, Column}
use Rattle.bn_netlist_laws.specs.Sentences as sentences
use Rattle.bn_netlist_laws.specs.Spelling.{header_then}
use Rattle.bn_netlist_laws.specs.Faults.{header_lines, count_in, version_in, kind_after, rows_left, fault_of}
use Rattle.bn_netlist_laws.specs.Saying.{column_of, sides_of, element_sentence, element_said, column_said, entry_said}
use Rattle.bn_netlist_laws.specs.Saying.{row_said, said}
use Rattle.bn_netlist_laws.specs.declared.version.Version.{Version}
use Rattle.bn_netlist_laws.specs.declared.version.Version.TheVariants.{One, Two}
use Rattle.bn_netlist_laws.specs.declared.header.Header.{Header}
use Rattle.bn_netlist_laws.specs.declared.element_line.ElementLine.{ElementLine}
use Rattle.bn_netlist.specs.Drafting.{refusal_of, Holds, Reads, RefusesBy, wants_memory, finds}
use Rattle.bn_netlist.specs.LineReading.{TakesLine, RefusesLine, no_memory, no_form, has_fault}
use Rattle.bn_netlist.specs.declared.line_refusal.NetlistRefusal.{NetlistRefusal}
use Rattle.bn_netlist.specs.declared.line_refusal.NetlistRefusal.TheVariants.{Syntax}
use Rattle.bn_netlist.proofs.TakenLineLemmas.{lines-are-read, other-lines-are-not}

-- ---- the line of an element

pub element_none : (line : List ℕ) → element_of line ≡ None → element_said line ≡ None
element_none line none = ap (option_map element_sentence) none

pub element_some : (line : List ℕ) (t : ElementLine) → element_of line ≡ Some t
    → element_said line ≡ Some (Element t.number t.state (named_targets t.targets))
element_some line t is = ap (option_map element_sentence) is

pub element_nameable : (line : List ℕ) (t : ElementLine) → element_of line ≡ Some t
    → AreNameable (named_targets t.targets)
unfolding element_of
element_nameable line t h =
    option_and_then_some _ (word_taken (codes "e ") line) t h (λ first f_is h1.
    option_and_then_some _ (number_taken first) t h1 (λ number n_is h2.
    option_and_then_some _ (word_taken (codes " ") number.1) t h2 (λ second s_is h3.
    option_and_then_some _ (bar_taken second) t h3 (λ bar b_is h4.
    option_and_then_some _ (targets_taken bar.1) t h4 (λ targets t_is h5.
    let four = targets_taken-takes bar.1 targets.1 targets.0 t_is in
    let made : ElementLine = record { number = number.0; state = bar.0; targets = targets.0 } in
    let last = cond_some (length targets.1 == 0) made t h5 in
    subst (λ (u : ElementLine). AreNameable (named_targets u.targets)) last.1 four.nameable)))))

-- ---- which line comes next

said_row : (h : Header) (rows : List Sentence) (line : List ℕ) → 0 < rows_left 0 rows
    → said (version_in (header_then h rows)) (kind_after (header_then h rows)) line ≡ row_said line
said_row h rows line some =
    let kind : kind_after (header_then h rows) ≡ 7 = omega arith in
    ap (λ (k : ℕ). said h.version k line) kind

said_entry : (h : Header) (rows : List Sentence) (line : List ℕ) → rows_left 0 rows ≡ 0
    → said (version_in (header_then h rows)) (kind_after (header_then h rows)) line ≡ entry_said h.version line
said_entry h rows line none =
    let kind : kind_after (header_then h rows) ≡ 6 = omega arith in
    ap (λ (k : ℕ). said h.version k line) kind

-- ---- taking and refusing

pub takes : (h : Header) (rows : List Sentence) (line : List ℕ) (x : Sentence) (lines left lines_new left_new : ℕ)
    (states states_new : List ℕ) (own own_new : List Bool) (drawn new : EndList) (fed fed_new : List Bool)
    → lines < h.count → Holds h rows lines left states own drawn fed
    → said (version_in (header_then h rows)) (kind_after (header_then h rows)) line ≡ Some x
    → Reads h rows x lines_new left_new states_new own_new new fed_new
    → (y : Sentence) × TakesLine (header_then h rows) line y × Holds h (rows ++ y ∷ []) lines_new left_new states_new
    own_new new fed_new
takes h rows line x lines left lines_new left_new states states_new own own_new drawn new fed fed_new room holds is
    reads =
    let lines_are : lines ≡ length rows = holds.lines_are in
    let there : length (header_then h rows) < header_lines + count_in (header_then h rows) = omega arith in
    let read = lines-are-read (header_then h rows) line x there is in
    (x, record { next = read.0; faultless = reads.faultless; written = read.1 }, reads.holds)

pub refuses : (h : Header) (rows : List Sentence) (line : List ℕ) (x : Sentence) (lines left : ℕ) (states : List ℕ)
    (own : List Bool) (drawn : EndList) (fed : List Bool) (r : NetlistRefusal) → lines < h.count
    → Holds h rows lines left states own drawn fed → said (version_in (header_then h rows))
    (kind_after (header_then h rows)) line ≡ Some x → RefusesBy (fault_of (header_then h rows) x) (length rows + 7) r
    → RefusesLine (header_then h rows) line r
refuses h rows line x lines left states own drawn fed r room holds is (wants_memory want) = no_memory want
refuses h rows line x lines left states own drawn fed r room holds is (finds fault has named) =
    let lines_are : lines ≡ length rows = holds.lines_are in
    let there : length (header_then h rows) < header_lines + count_in (header_then h rows) = omega arith in
    let read = lines-are-read (header_then h rows) line x there is in
    let place : length rows + 7 ≡ length (header_then h rows) + 1 = omega arith in
    has_fault x fault read.0 read.1 has (subst (λ (n : ℕ). r ≡ refusal_of fault n) place named)

pub malformed_line : (h : Header) (rows : List Sentence) (line : List ℕ) (lines left n : ℕ) (states : List ℕ)
    (own : List Bool) (drawn : EndList) (fed : List Bool) → Holds h rows lines left states own drawn fed → n ≡ lines
    → said (version_in (header_then h rows)) (kind_after (header_then h rows)) line ≡ None
    → RefusesLine (header_then h rows) line (Syntax (n + 7))
malformed_line h rows line lines left n states own drawn fed holds same none =
    let lines_are : lines ≡ length rows = holds.lines_are in
    let place : n + 7 ≡ length (header_then h rows) + 1 = omega arith in
    no_form (ap Syntax place) (other-lines-are-not (header_then h rows) line none)

-- what the line says, by what was read of it
module _ (h : Header) (rows : List Sentence) (line : List ℕ) (lines left : ℕ) (states : List ℕ) (own : List Bool)
    (drawn : EndList) (fed : List Bool) (holds : Holds h rows lines left states own drawn fed) where
  pub row_unsaid : 0 < left → sides_of line ≡ None → said (version_in (header_then h rows))
      (kind_after (header_then h rows)) line ≡ None
  row_unsaid some none = let left_are : left ≡ rows_left 0 rows =
      holds.left_are in said_row h rows line (omega arith) ∙ rw none refl

  pub row_is : (p : Option (ℕ × ℕ) × Option (ℕ × ℕ)) → 0 < left → sides_of line ≡ Some p
      → said (version_in (header_then h rows)) (kind_after (header_then h rows)) line
      ≡ Some (sentences.Row (named_target p.0) (named_target p.1))
  row_is p some is = let left_are : left ≡ rows_left 0 rows =
      holds.left_are in said_row h rows line (omega arith) ∙ rw is refl

  entry_is : left ≡ 0 → said (version_in (header_then h rows)) (kind_after (header_then h rows)) line
      ≡ entry_said h.version line
  entry_is none = let left_are : left ≡ rows_left 0 rows = holds.left_are in said_entry h rows line (omega arith)

  pub element_line_is : (t : ElementLine) → left ≡ 0 → element_of line ≡ Some t
      → said (version_in (header_then h rows)) (kind_after (header_then h rows)) line
      ≡ Some (Element t.number t.state (named_targets t.targets))
  element_line_is t none is = entry_is none ∙ by_version h.version
    where
      by_version : (v : Version) → entry_said v line ≡ Some (Element t.number t.state (named_targets t.targets))
      by_version One = element_some line t is
      by_version Two = let element = element_some line t is in rw element refl

  pub first_version_unsaid : left ≡ 0 → h.version ≡ One → element_of line ≡ None
      → said (version_in (header_then h rows)) (kind_after (header_then h rows)) line ≡ None
  first_version_unsaid none version is = entry_is none ∙ ap (λ (v : Version). entry_said v line) version
      ∙ element_none line is

  second_version : left ≡ 0 → h.version ≡ Two → element_of line ≡ None
      → said (version_in (header_then h rows)) (kind_after (header_then h rows)) line ≡ column_said line
  second_version none version is = let element = element_none line is in entry_is none
      ∙ ap (λ (v : Version). entry_said v line) version ∙ rw element refl

  pub column_unsaid : left ≡ 0 → h.version ≡ Two → element_of line ≡ None → column_of line ≡ None
      → said (version_in (header_then h rows)) (kind_after (header_then h rows)) line ≡ None
  column_unsaid none version is other = second_version none version is ∙ rw other refl

  pub no_rows_unsaid : (c : ℕ × ℕ × ℕ) → left ≡ 0 → h.version ≡ Two → element_of line ≡ None → column_of line ≡ Some c
      → c.1 ≡ 0 → said (version_in (header_then h rows)) (kind_after (header_then h rows)) line ≡ None
  no_rows_unsaid c none version is column zero_rows =
      second_version none version is ∙ rw column (elim (eqb_tells c.1 0)
      [ inl same ↦ rw same.0 refl | inr other ↦ absurd (other.1 zero_rows) ])

  pub column_line_is : (c : ℕ × ℕ × ℕ) → left ≡ 0 → h.version ≡ Two → element_of line ≡ None → column_of line ≡ Some c
      → c.1 ≢ 0 → said (version_in (header_then h rows)) (kind_after (header_then h rows)) line
      ≡ Some (Column c.0 c.1 c.2)
  column_line_is c none version is column some_rows =
      second_version none version is ∙ rw column (elim (eqb_tells c.1 0)
      [ inl same ↦ absurd (some_rows same.1) | inr other ↦ rw other.0 refl ])

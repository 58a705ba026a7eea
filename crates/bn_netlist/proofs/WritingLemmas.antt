-- Writing a text line by line comes to its entries.
use Rattle.std.specs.Prelude.{◌≡◌, ℕ, ◌+◌, ◌<◌, ◌≤◌, min, List, [], ◌∷◌, ◌++◌, Option, Some, None, MatchOption, refl}
use Rattle.std.proofs.Common.{zero, suc, arith, sym, ap, subst, ◌∙◌}
use Rattle.std.proofs.lemmas.List.{append_assoc, append-nil}
use Rattle.bn_io.specs.Told.{Grows}
use Rattle.bn_netlist_laws.specs.Spelling.{Admits, Spelling, circuit_of}
use Rattle.bn_netlist_laws.specs.Sentences.{Sentence, sentence_text, lines_text}
use Rattle.bn_netlist_laws.specs.Spelling.{IsWrittenAt, AreEntries, no_entry, element_entry, column_entry, IsTextOf}
use Rattle.bn_netlist_laws.specs.Columns.{IsColumnAt}
use Rattle.bn_netlist_laws.specs.declared.version.Version.{Version}
use Rattle.bn_netlist_laws.specs.declared.version.Version.TheVariants.{Two}
use Rattle.bn_netlist_laws.proofs.EntryLemmas.{column_within, has-text}
use Rattle.bn_netlist_laws.proofs.TextLemmas.{lines_text-append}
use Rattle.bn_netlist.specs.Writing.{IsPlaceIn, NextLine, an_element, a_column, a_row, element_behind, AreLeft, Writes}

-- a column that begins in version 2 is written
pub written_answer : (v : Version) (s : Spelling) (e : ℕ) (o : Option ℕ) → v ≡ Two
    → MatchOption o ((k : ℕ) → IsColumnAt (circuit_of s) s.config.states e k → ⊥)
    (IsColumnAt (circuit_of s) s.config.states e) → MatchOption o ((k : ℕ) → IsWrittenAt v s e k → ⊥)
    (IsWrittenAt v s e)
written_answer v s e None second absent = λ k written. absent k written.column
written_answer v s e (Some k) second column = record { second = second; column = column }

-- nothing has been written
pub writes_none : (v : Version) (s : Spelling) → Writes v s [] 0 0
writes_none v s xs left = subst (AreEntries v s 0) (sym left.rows) left.behind

left_at : (v : Version) (s : Spelling) (e f m n : ℕ) (xs : List Sentence) → f ≡ e → n ≡ m → AreLeft v s f n xs
    → AreLeft v s e m xs
left_at v s e f m n xs is_e is_m left = subst (λ (i : ℕ). AreLeft v s i m xs) is_e
    (subst (λ (i : ℕ). AreLeft v s f i xs) is_m left)

-- a line has come to what is left behind it
line_left : (v : Version) (s : Spelling) (e m f n : ℕ) (x : Sentence) (xs : List Sentence) → NextLine v s e m f n x
    → AreLeft v s f n xs → AreLeft v s e m (x ∷ xs)
line_left v s e m f n x xs (an_element q none has absent is next zero_left) left =
    let behind = left_at v s (suc e) f 0 n xs (omega arith) zero_left left in
    let rest : AreEntries v s (suc e) xs = subst (AreEntries v s (suc e)) (sym behind.rows) behind.behind in
    let whole : AreEntries v s e (x ∷ xs) = element_entry q xs has absent (ap (λ (z : Sentence). z ∷ xs) is) rest in
    left_at v s e e m 0 (x ∷ xs) refl (sym none) (record { rest = x ∷ xs; rows = refl; behind = whole })
line_left v s e m f n x xs (a_column k q none written has is next rows_left) left =
    let behind = left_at v s e f k n xs next rows_left left in
    let some = written.column.some in
    let rest : AreEntries v s (suc (e + k)) behind.rest = subst (λ (i : ℕ). AreEntries v s i behind.rest)
    (behind_column e k some) behind.behind in
    let whole : AreEntries v s e (x ∷ xs) = column_entry k q behind.rest written has (λ i. is i ∷ behind.rows i) rest in
    left_at v s e e m 0 (x ∷ xs) refl (sym none) (record { rest = x ∷ xs; rows = refl; behind = whole })
  where
    behind_column : (e k : ℕ) → 0 < k → element_behind e k ≡ suc (e + k)
    behind_column e zero some = absurd (omega arith)
    behind_column e (suc k) some = refl
line_left v s e zero f n x xs (a_row is next) left = absurd next
line_left v s e (suc zero) f n x xs (a_row is next) left =
    let behind = left_at v s (suc (e + 1)) f 0 n xs (let at : f ≡ e + 2 = next.0 in omega arith) next.1 left in
    record { rest = behind.rest; rows = (λ i. is i ∷ behind.rows i); behind = behind.behind }
line_left v s e (suc (suc m)) f n x xs (a_row is next) left =
    let behind = left_at v s (suc e) f (suc m) n xs (let at : f ≡ e + 1 = next.0 in omega arith) next.1 left in
    let same : suc (suc e + suc m) ≡ suc (e + suc (suc m)) = omega arith in
    record {
      rest = behind.rest;
      rows = (λ i. is i ∷ behind.rows i);
      behind = subst (λ (i : ℕ). AreEntries v s i behind.rest) same behind.behind;
    }

pub writes_more : (v : Version) (s : Spelling) (done : List Sentence) (e m f n : ℕ) (x : Sentence) → Writes v s done e m
    → NextLine v s e m f n x → Writes v s (done ++ x ∷ []) f n
writes_more v s done e m f n x writes next xs left =
    subst (AreEntries v s 0) (sym (append_assoc done (x ∷ []) xs))
    (writes (x ∷ xs) (line_left v s e m f n x xs next left))

-- all has been written
pub writes_all : (v : Version) (s : Spelling) (done : List Sentence) (e : ℕ) → e ≡ s.elements → Writes v s done e 0
    → AreEntries v s 0 done
writes_all v s done e all writes =
    subst (AreEntries v s 0) (append-nil done) (writes [] (record
    { rest = []; rows = refl; behind = no_entry all refl }))

-- the place behind a line, and the number of lines
abbrev pub IsAfter : ℕ → ℕ → ℕ → ℕ → Type 0
IsAfter count lines e m = (lines ≡ e + min m 1) × (e ≤ count) × (0 < m → e + m < count)

pub after_none : (count : ℕ) → IsAfter count 0 0 0
after_none count = (omega arith, omega arith, λ h. absurd (omega arith))

pub row_within : (count e m : ℕ) → 0 < m → IsPlaceIn count e m → e + m < count
row_within count e zero some is = absurd (omega arith)
row_within count e (suc m) some is = is

pub after_more : (v : Version) (s : Spelling) (lines e m f n : ℕ) (x : Sentence) → lines < s.elements
    → IsAfter s.elements lines e m → NextLine v s e m f n x → IsAfter s.elements (lines + 1) f n
after_more v s lines e m f n x short is (an_element q none has absent at_x next zero_left) =
    let lines_are : lines ≡ e + min m 1 = is.0 in
    (omega arith, omega arith, λ h. absurd (omega arith))
after_more v s lines e m f n x short is (a_column k q none written has at_x next rows_left) =
    let lines_are : lines ≡ e + min m 1 = is.0 in
    let within = column_within s e k written.column in
    let some : 0 < k = written.column.some in
    (omega arith, omega arith, λ h. omega arith)
after_more v s lines e zero f n x short is (a_row at_x next) = absurd next
after_more v s lines e (suc zero) f n x short is (a_row at_x next) =
    let lines_are : lines ≡ e + min 1 1 = is.0 in
    let within : e + 1 < s.elements = is.2 (omega arith) in
    let at_f : f ≡ e + 2 = next.0 in
    let none : n ≡ 0 = next.1 in
    (omega arith, omega arith, λ h. absurd (omega arith))
after_more v s lines e (suc (suc m)) f n x short is (a_row at_x next) =
    let lines_are : lines ≡ e + min (suc (suc m)) 1 = is.0 in
    let within : e + suc (suc m) < s.elements = is.2 (omega arith) in
    let at_f : f ≡ e + 1 = next.0 in
    let left : n ≡ suc m = next.1 in
    (omega arith, omega arith, λ h. omega arith)

pub after_all : (count lines e m : ℕ) → lines ≡ count → IsAfter count lines e m → (e ≡ count) × (m ≡ 0)
after_all count lines e zero all is = let lines_are : lines ≡ e + min 0 1 = is.0 in (omega arith, refl)
after_all count lines e (suc m) all is =
    let lines_are : lines ≡ e + min (suc m) 1 = is.0 in
    let within : e + suc m < count = is.2 (omega arith) in
    absurd (omega arith)

-- one line more
pub line_more : (old text after : List ℕ) (xs : List Sentence) (x : Sentence) → text ≡ old ++ lines_text xs
    → after ≡ text ++ (sentence_text x ++ 10 ∷ []) → after ≡ old ++ lines_text (xs ++ x ∷ [])
line_more old text after xs x h k =
    k ∙ ap (λ t. t ++ (sentence_text x ++ 10 ∷ [])) h ∙ append_assoc old (lines_text xs) (sentence_text x ++ 10 ∷ [])
    ∙ ap (λ t. old ++ t) (sym (lines_text-append xs (x ∷ [])))

-- the lines so far, in the loop over them
pub record AreWritten (v : Version) (s : Spelling) (old text : List ℕ) (lines e m : ℕ) : Type 0 where
  pub entries : List Sentence
  pub writes : Writes v s entries e m
  pub after : IsAfter s.elements lines e m
  pub text_is : text ≡ old ++ lines_text entries

pub written_more : (v : Version) (s : Spelling) (old text more : List ℕ) (lines e m f n : ℕ) → lines < s.elements
    → AreWritten v s old text lines e m → ((x : Sentence) × NextLine v s e m f n x
    × (more ≡ text ++ (sentence_text x ++ 10 ∷ []))) → AreWritten v s old more (lines + 1) f n
written_more v s old text more lines e m f n short are next =
    record {
      entries = are.entries ++ next.0 ∷ [];
      writes = writes_more v s are.entries e m f n next.0 are.writes next.1;
      after = after_more v s lines e m f n next.0 short are.after next.1;
      text_is = line_more old text more are.entries next.0 are.text_is next.2;
    }

pub written_all : (v : Version) (s : Spelling) (old text : List ℕ) (lines e m : ℕ) → lines ≡ s.elements
    → AreWritten v s old text lines e m → (entries : List Sentence) × Writes v s entries s.elements 0
    × (text ≡ old ++ lines_text entries)
written_all v s old text lines e m all are =
    let last = after_all s.elements lines e m all are.after in (
      are.entries,
      subst (λ (i : ℕ). Writes v s are.entries i 0) last.0
          (subst (λ (i : ℕ). Writes v s are.entries e i) last.1 are.writes),
      are.text_is,
    )

-- what a sink that grows has taken is the text
pub written_to : (v : Version) (s : Spelling) (old new : List ℕ) → Admits v s → old ≡ [] →
    ((text : List ℕ) → IsTextOf v s text → Grows (Some old) (Some new) text) → IsTextOf v s new
written_to v s old new admitted none grows =
    let text = has-text v s admitted in
    let same : new ≡ text.0 = all_of old new text.0 none (grows text.0 text.1.is_text) in
    subst (IsTextOf v s) (sym same) text.1.is_text
  where
    all_of : (old new text : List ℕ) → old ≡ [] → Grows (Some old) (Some new) text → new ≡ text
    all_of [] new text none is = cc
    all_of (x ∷ xs) new text none is = absurd (cc)

-- The lines of plain entries are what csv writes of them, and are read as these entries again.
use Rattle.std.proofs.Common.{◌≡◌, ◌<◌, ◌≤◌, ◌+◌, ◌∷◌, ◌++◌, ◌∙◌, ◌==◌, ℕ, suc, zero, Bool, true, false, List, []}
use Rattle.std.proofs.Common.{length, map, take, Some, refl, sym, ap, arith, append_assoc, length-append, get_or, All}
use Rattle.std.specs.List.{join_with_byte, list_all, list_any}
use Rattle.std.proofs.lemmas.Bool.{false≢true}
use Rattle.std.proofs.lemmas.Bool.Decides.{nat_tests}
use Rattle.std.proofs.lemmas.List.{append-nil, map-append, take_all, take_more}
use Rattle.std.proofs.lemmas.List.Elements.{All-head, All-tail}
use Rattle.csv.specs.Machine.{next_record}
use Rattle.csv.specs.Reading.{default_config, records_from, strip_bom}
use Rattle.csv.specs.Writing.{default_writer, field_text, fields_text, is_blank, needs_byte, row_text, with_flexible}
use Rattle.csv.specs.declared.parser.State.TheVariants as st
use Rattle.csv.specs.declared.writer.WriterBuilder.{WriterBuilder}
use Rattle.csv.proofs.RoundTrip.{read-write}
use Rattle.bn_csv.specs.Entries.{entries_of}
use Rattle.bn_csv.specs.Lines.{is_plain, is_plain_byte, is_plain_entry, line_of, lines_of}
use Rattle.bn_csv.proofs.NumberingLemmas.{both_true}
use Rattle.bn_csv.proofs.RecordsFromLemmas.{none_at_end, one_more}

-- the writer's settings, but for whether entries may differ in length
abbrev setup : Bool → WriterBuilder
setup flexible = with_flexible default_writer flexible

plain-byte : (flexible : Bool) (b : ℕ) → is_plain_byte b ≡ true → needs_byte (setup flexible) b ≡ false
plain-byte flexible b e = grind (arith, nat_tests)

plain-bytes : (flexible : Bool) (field : List ℕ) → list_all is_plain_byte field ≡ true
    → list_any (needs_byte (setup flexible)) field ≡ false
plain-bytes flexible [] e = refl
plain-bytes flexible (b ∷ rest) e =
    let (head, tail) = both_true (is_plain_byte b) (list_all is_plain_byte rest) e in
    rw (plain-byte flexible b head) (plain-bytes flexible rest tail)

plain-text : (flexible : Bool) (field : List ℕ) → is_plain field ≡ true → field_text (setup flexible) field ≡ field
plain-text flexible [] e = absurd (false≢true e)
plain-text flexible (b ∷ rest) e = rw (plain-bytes flexible (b ∷ rest) e) refl

plain-body : (flexible : Bool) (field : List ℕ) (rest : List (List ℕ)) → is_plain field ≡ true
    → list_all is_plain rest ≡ true
    → field_text (setup flexible) field ++ fields_text (setup flexible) rest ≡ join_with_byte 44 (field ∷ rest)
unfolding fields_text
plain-body flexible field [] e h = append-nil _ ∙ plain-text flexible field e
plain-body flexible field (next ∷ rest) e h =
    let (head, tail) = both_true (is_plain next) (list_all is_plain rest) h in
    ap (λ (t : List ℕ). t ++ fields_text (setup flexible) (next ∷ rest)) (plain-text flexible field e)
    ∙ ap (λ (t : List ℕ). field ++ (44 ∷ t)) (plain-body flexible next rest head tail)

not-empty : (field : List ℕ) → is_plain field ≡ true → (length field == 0) ≡ false
not-empty [] e = cc e
not-empty (b ∷ rest) e = grind (arith, nat_tests)

shows : (flexible : Bool) (field : List ℕ) (rest : List (List ℕ)) → is_plain field ≡ true
    → is_blank (setup flexible) (field ∷ rest) ≡ false
unfolding is_blank
shows flexible field [] e = ap (λ (t : List ℕ). length t == 0) (plain-text flexible field e) ∙ not-empty field e
shows flexible field (next ∷ rest) e = refl

-- csv writes a plain entry as its line
pub row_text-plain : (flexible : Bool) (fields : List (List ℕ)) → is_plain_entry fields ≡ true
    → row_text (setup flexible) fields ≡ line_of fields
unfolding line_of
row_text-plain flexible [] e = cc e
row_text-plain flexible (field ∷ rest) e =
    let (head, tail) = both_true (is_plain field) (list_all is_plain rest) e in
    rw (shows flexible field rest head) (ap (λ (t : List ℕ). t ++ (10 ∷ [])) (plain-body flexible field rest head tail))

-- the first byte of a plain entry's line is no part of a byte order mark
abbrev first_of : List ℕ → ℕ
first_of bytes = get_or bytes 0 0

strip-low : (bytes : List ℕ) → first_of bytes < 128 → strip_bom bytes ≡ bytes
unfolding strip_bom
strip-low [] h = refl
strip-low (a ∷ []) h = refl
strip-low (a ∷ b ∷ []) h = refl
strip-low (a ∷ b ∷ c ∷ rest) h = let low : (a == 0xEF) ≡ false = grind (arith, nat_tests) in rw low refl

line-low : (fields : List (List ℕ)) (tail : List ℕ) → is_plain_entry fields ≡ true
    → first_of (line_of fields ++ tail) < 128
unfolding line_of
line-low [] tail e = absurd (false≢true e)
line-low ([] ∷ rest) tail e = absurd (false≢true e)
line-low ((b ∷ bs) ∷ []) tail e = grind (arith, nat_tests)
line-low ((b ∷ bs) ∷ next ∷ rest) tail e = grind (arith, nat_tests)

line-read : (fields : List (List ℕ)) (tail : List ℕ) → is_plain_entry fields ≡ true
    → next_record default_config st.StartRecord [] [] (line_of fields ++ tail) ≡ Some (fields, st.StartRecord, tail)
line-read [] tail e = cc e
line-read (field ∷ rest) tail e =
    ap (λ (t : List ℕ). next_record default_config st.StartRecord [] [] (t ++ tail))
    (sym (row_text-plain false (field ∷ rest) e))
    ∙ read-write (field ∷ rest) tail

line-length : (fields : List (List ℕ)) → 0 < length (line_of fields)
unfolding line_of
line-length fields = rw (length-append (join_with_byte 44 fields) (10 ∷ [])) (omega arith)

lines-read : (n : ℕ) (rows : List (List (List ℕ))) → length (lines_of rows) < n → list_all is_plain_entry rows ≡ true
    → records_from default_config n st.StartRecord (lines_of rows) ≡ rows
unfolding lines_of
lines-read n [] h e = none_at_end default_config n
lines-read zero (row ∷ rows) h e = absurd (omega arith)
lines-read (suc n) (row ∷ rows) h e =
    let (head, tail) = both_true (is_plain_entry row) (list_all is_plain_entry rows) e in
    let shorter : length (lines_of rows) < n = omega (
      arith,
      length-append (line_of row) (lines_of rows),
      line-length row,
      h,
    ) in
    one_more default_config n st.StartRecord (line_of row ++ lines_of rows) (row, st.StartRecord, lines_of rows)
    (line-read row (lines_of rows) head)
    ∙ ap (λ (t : List (List (List ℕ))). row ∷ t) (lines-read n rows shorter tail)

lines-low : (rows : List (List (List ℕ))) → list_all is_plain_entry rows ≡ true → first_of (lines_of rows) < 128
unfolding lines_of
lines-low [] e = omega arith
lines-low (row ∷ rows) e = line-low row (lines_of rows) (both_true (is_plain_entry row) (list_all is_plain_entry rows)
    e).0

-- reading the lines of plain entries gives these entries
pub entries_of-lines_of : (rows : List (List (List ℕ))) → list_all is_plain_entry rows ≡ true
    → entries_of (lines_of rows) ≡ rows
unfolding entries_of
entries_of-lines_of rows e = rw (strip-low (lines_of rows) (lines-low rows e)) (lines-read _ rows (omega arith) e)

-- the lines of entries with one more
pub lines_of-push : (rows : List (List (List ℕ))) (row : List (List ℕ))
    → lines_of (rows ++ row ∷ []) ≡ lines_of rows ++ line_of row
unfolding lines_of
lines_of-push [] row = append-nil (line_of row)
lines_of-push (first ∷ rows) row =
    ap (λ (t : List ℕ). line_of first ++ t) (lines_of-push rows row)
    ∙ sym (append_assoc (line_of first) (lines_of rows) (line_of row))

-- the lines of no entries
pub lines_of-nil : lines_of [] ≡ []
unfolding lines_of
lines_of-nil = refl

-- Entries of the elements of a list, written one after another.
module _ {X : Type 0} (entry : X → List (List ℕ)) where
  -- the line of one more element
  pub lines_of-more : (xs : List X) (i : ℕ) (x : X) (before after : List ℕ) → i < length xs
      → before ≡ lines_of (map entry (take i xs))
      → after ≡ before ++ line_of (entry (get_or xs i x)) → after ≡ lines_of (map entry (take (i + 1) xs))
  lines_of-more xs i x before after inside so_far now =
      now
      ∙ ap (λ (text : List ℕ). text ++ line_of (entry (get_or xs i x))) so_far
      ∙ sym (lines_of-push (map entry (take i xs)) (entry (get_or xs i x)))
      ∙ ap lines_of (sym (map-append entry (take i xs) (get_or xs i x ∷ [])))
      ∙ ap (λ (ys : List X). lines_of (map entry ys)) (sym (take_more xs i x inside))

  -- the lines of all
  pub lines_of-all : (xs : List X) (i : ℕ) (text : List ℕ) → length xs ≤ i → text ≡ lines_of (map entry (take i xs))
      → text ≡ lines_of (map entry xs)
  lines_of-all xs i text past e = e ∙ ap (λ (ys : List X). lines_of (map entry ys)) (take_all i xs past)

  -- they need no quotes where the entry of no good element does
  pub all_plain : (Good : X → Type 0) → ((x : X) → Good x → is_plain_entry (entry x) ≡ true)
      → (xs : List X) → All Good xs → list_all is_plain_entry (map entry xs) ≡ true
  all_plain Good plain [] h = refl
  all_plain Good plain (x ∷ xs) h = rw (plain x (All-head Good x xs h)) (all_plain Good plain xs (All-tail Good x xs h))

-- Giving a text to a sink in pieces.
use Rattle.std.specs.Prelude.{◌≡◌, ℕ, ◌+◌, ◌<◌, ◌≤◌, List, [], ◌∷◌, ◌++◌, Option, refl}
use Rattle.std.proofs.Common.{zero, suc, arith, sym, ap, subst, ◌∙◌}
use Rattle.std.proofs.lemmas.List.{append_assoc, append-nil}
use Rattle.bn_io.specs.Told.{Grows, GrowsByFront}
use Rattle.bn_io.proofs.GivingLemmas.{grows_none}
use Rattle.bn_io.proofs.ToldLemmas.{Grows-joins}
use Rattle.bn_netlist_laws.specs.Spelling.{Spelling, AreSame}
use Rattle.bn_netlist_laws.specs.Sentences.{Sentence, sentence_text, lines_text}
use Rattle.bn_netlist_laws.specs.Spelling.{Admits, IsTextOf, row_sentences, header_of, header_then}
use Rattle.bn_netlist_laws.specs.declared.version.Version.{Version}
use Rattle.bn_netlist_laws.proofs.EntryLemmas.{entries_from, same-have-one-text}
use Rattle.bn_netlist_laws.proofs.TextLemmas.{lines_text-append}
use Rattle.bn_netlist.specs.Writing.{NextLine, element_behind, AreLeft}
use Rattle.bn_netlist.proofs.WritingLemmas.{IsAfter, AreWritten, written_more, written_all, writes_all, writes_none}
use Rattle.bn_netlist.proofs.WritingLemmas.{after_none}

same_self : (s : Spelling) → AreSame s s
same_self s = record {
  elements = refl;
  targets = λ from. refl;
  sources = λ to. refl;
  config = refl;
  start = refl;
  end = refl;
}

-- it has one text
pub one_text : (v : Version) (s : Spelling) (first second : List ℕ) → Admits v s → IsTextOf v s first
    → IsTextOf v s second → first ≡ second
one_text v s first second a is other =
    same-have-one-text v s s first second (same_self s) (record { admitted = a; is_text = is })
    (record { admitted = a; is_text = other })

-- something is left at each place
behind_within : (count lines e m : ℕ) → IsAfter count lines e m → element_behind e m ≤ count
behind_within count lines e zero is = is.1
behind_within count lines e (suc m) is = let within : e + suc m < count = is.2 (omega arith) in omega arith

some_left : (v : Version) (s : Spelling) (a : Admits v s) (lines e m : ℕ) → IsAfter s.elements lines e m
    → (xs : List Sentence) × AreLeft v s e m xs
some_left v s a lines e m is =
    let within = behind_within s.elements lines e m is in
    let rest = entries_from v s a s.elements (element_behind e m) within (omega arith) in
    (row_sentences s.wires e m ++ rest.0, record { rest = rest.0; rows = refl; behind = rest.1 })

abbrev header_text : Version → Spelling → List ℕ
header_text v s = lines_text (header_then (header_of v s) [])

text_of_entries : (v : Version) (s : Spelling) (xs : List Sentence)
    → lines_text (header_then (header_of v s) xs) ≡ header_text v s ++ lines_text xs
text_of_entries v s xs = lines_text-append (header_then (header_of v s) []) xs

-- what has been written is a front of the text
pub goes_on : (v : Version) (s : Spelling) (written : List ℕ) (lines e m : ℕ) → Admits v s
    → AreWritten v s (header_text v s) written lines e m → (text : List ℕ) → IsTextOf v s text
    → (tail : List ℕ) × (text ≡ written ++ tail)
goes_on v s written lines e m a are text is =
    let left = some_left v s a lines e m are.after in
    let whole : IsTextOf v s (lines_text (header_then (header_of v s) (are.entries ++ left.0))) =
    record { entries = are.entries ++ left.0; are = are.writes left.0 left.1; written = refl }
    in (
      lines_text left.0,
      one_text v s text _ a is whole
          ∙ text_of_entries v s (are.entries ++ left.0)
          ∙ ap (λ (z : List ℕ). header_text v s ++ z) (lines_text-append are.entries left.0)
          ∙ sym (append_assoc (header_text v s) (lines_text are.entries) (lines_text left.0))
          ∙ ap (λ (z : List ℕ). z ++ lines_text left.0) (sym are.text_is),
    )

-- ---- what a sink has taken, and what is kept for it

pub record AreGiven (v : Version) (s : Spelling) (old now : Option (List ℕ)) (kept : List ℕ) (lines e m : ℕ) : Type 0
  where
    pub given : List ℕ
    pub grown : Grows old now given
    pub written : AreWritten v s (header_text v s) (given ++ kept) lines e m

pub given_none : (v : Version) (s : Spelling) (a : Option (List ℕ)) (kept : List ℕ) → kept ≡ header_text v s
    → AreGiven v s a a kept 0 0 0
given_none v s a kept is =
    record {
      given = [];
      grown = grows_none a;
      written = record {
        entries = [];
        writes = writes_none v s;
        after = after_none s.elements;
        text_is = is ∙ sym (append-nil (header_text v s));
      };
    }

-- a line more, and the piece that was then given
pub given_more : (v : Version) (s : Spelling) (old now new : Option (List ℕ)) (kept more rest : List ℕ)
    (lines e m f n : ℕ) → lines < s.elements → AreGiven v s old now kept lines e m
    → ((x : Sentence) × NextLine v s e m f n x × (more ≡ kept ++ (sentence_text x ++ 10 ∷ [])))
    → ((piece : List ℕ) × (more ≡ piece ++ rest) × Grows now new piece) → AreGiven v s old new rest (lines + 1) f n
given_more v s old now new kept more rest lines e m f n short are next piece =
    let longer : are.given ++ more ≡ (are.given ++ kept) ++ (sentence_text next.0 ++ 10 ∷ []) =
    ap (λ (z : List ℕ). are.given ++ z) next.2 ∙ sym (append_assoc are.given kept (sentence_text next.0 ++ 10 ∷ []))
    in
    let same : are.given ++ more ≡ (are.given ++ piece.0) ++ rest =
    ap (λ (z : List ℕ). are.given ++ z) piece.1 ∙ sym (append_assoc are.given piece.0 rest) in
    record {
      given = are.given ++ piece.0;
      grown = Grows-joins old now new are.given piece.0 are.grown piece.2;
      written = subst (λ (z : List ℕ). AreWritten v s (header_text v s) z (lines + 1) f n) same
          (written_more v s (header_text v s) (are.given ++ kept) (are.given ++ more) lines e m f n short are.written
          (next.0, next.1, longer));
    }

-- the sink has taken a front, where nothing more was given
pub given_front : (v : Version) (s : Spelling) (old now : Option (List ℕ)) (kept : List ℕ) (lines e m : ℕ) → Admits v s
    → AreGiven v s old now kept lines e m → (text : List ℕ) → IsTextOf v s text → GrowsByFront old now text
given_front v s old now kept lines e m a are text is =
    let tail = goes_on v s (are.given ++ kept) lines e m a are.written text is in
    (are.given, kept ++ tail.0, tail.1 ∙ append_assoc are.given kept tail.0, are.grown)

-- or a front more
pub given_front_more : (v : Version) (s : Spelling) (old now new : Option (List ℕ)) (kept more : List ℕ)
    (lines e m f n : ℕ) → lines < s.elements → Admits v s → AreGiven v s old now kept lines e m
    → ((x : Sentence) × NextLine v s e m f n x × (more ≡ kept ++ (sentence_text x ++ 10 ∷ [])))
    → GrowsByFront now new more → (text : List ℕ) → IsTextOf v s text → GrowsByFront old new text
given_front_more v s old now new kept more lines e m f n short a are next grows text is =
    let all = given_more v s old now new kept more grows.1 lines e m f n short are next (grows.0, grows.2, grows.3) in
    given_front v s old new grows.1 (lines + 1) f n a all text is

-- all lines are written
given_text : (v : Version) (s : Spelling) (old now : Option (List ℕ)) (kept : List ℕ) (lines e m : ℕ)
    (are : AreGiven v s old now kept lines e m) → lines ≡ s.elements → IsTextOf v s (are.given ++ kept)
given_text v s old now kept lines e m are all =
    let whole = written_all v s (header_text v s) (are.given ++ kept) lines e m all are.written in
    record {
      entries = whole.0;
      are = writes_all v s whole.0 s.elements refl whole.1;
      written = whole.2 ∙ sym (text_of_entries v s whole.0);
    }

pub given_whole : (v : Version) (s : Spelling) (old now new : Option (List ℕ)) (kept : List ℕ) (lines e m : ℕ)
    → Admits v s → AreGiven v s old now kept lines e m → lines ≡ s.elements → Grows now new kept → (text : List ℕ)
    → IsTextOf v s text → Grows old new text
given_whole v s old now new kept lines e m a are all grows text is =
    subst (Grows old new) (one_text v s (are.given ++ kept) text a (given_text v s old now kept lines e m are all) is)
    (Grows-joins old now new are.given kept are.grown grows)

pub given_last : (v : Version) (s : Spelling) (old now new : Option (List ℕ)) (kept : List ℕ) (lines e m : ℕ)
    → Admits v s → AreGiven v s old now kept lines e m → lines ≡ s.elements → GrowsByFront now new kept
    → (text : List ℕ) → IsTextOf v s text → GrowsByFront old new text
given_last v s old now new kept lines e m a are all grows text is =
    let same = one_text v s (are.given ++ kept) text a (given_text v s old now kept lines e m are all) is in (
      are.given ++ grows.0,
      grows.1,
      sym same ∙ ap (λ (z : List ℕ). are.given ++ z) grows.2 ∙ sym (append_assoc are.given grows.0 grows.1),
      Grows-joins old now new are.given grows.0 are.grown grows.3,
    )

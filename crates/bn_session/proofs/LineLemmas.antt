-- No line of a script holds a byte 10: so a script is cut into its lines in one way.
use Rattle.std.specs.Prelude.{◌≡◌, ◌≢◌, ℕ, ◌<◌, ◌≤◌, ◌==◌, ◌&&◌, nat_le, Option, Some, not, Bool, true, false, List, []}
use Rattle.std.specs.Prelude.{◌∷◌}
use Rattle.std.specs.Prelude.{◌++◌, length, slice_index, codes, decimal, refl}
use Rattle.std.specs.List.{list_all}
use Rattle.std.specs.Char.{is_ascii_alphanumeric}
use Rattle.std.specs.Str.Parse.{digits_value}
use Rattle.std.proofs.Common.{zero, suc, arith, sym, ap, ◌∙◌}
use Rattle.std.proofs.lemmas.Fmt.{digits_decimal}
use Rattle.std.proofs.lemmas.List.Elements.{All-nil, All-cons, All-append, All-from_get_or}
use Rattle.std.proofs.lemmas.Str.Parse.{IsNumeralModel, numerals_by_value, tells_by_index}
use Rattle.bn_base.specs.Line.{IsInLine}
use Rattle.bn_base.proofs.LineLemmas.{lines-agree}
use Rattle.bn_base.specs.Number.{greatest, AreDigits}
use Rattle.bn_csv.specs.Forms.{is_name_byte, is_state_name}
use Rattle.bn_session.specs.Sentences.{ScriptSentence, Step, Back, Go, Rev, BreakState, BreakElement, BreakLine}
use Rattle.bn_session.specs.Sentences.{Drop, View}
use Rattle.bn_circuits.specs.Circuits.{line_at}
use Rattle.bn_netlist_laws.specs.Sentences.{IsNameable, line_text, side_letters}
use Rattle.bn_session.specs.Sentences.{is_label, script_sentence_text, IsSayableInScript}
use Rattle.bn_session.proofs.ReadingLemmas.{sentence_in-again, third_of}
use Rattle.bn_session.specs.Reading.{sentence_in}

abbrev Ten : ℕ → Type 0
Ten byte = byte ≢ 10

-- bytes that pass a test which 10 doesn't pass
passing : (p : ℕ → Bool) (xs : List ℕ) → p 10 ≡ false → list_all p xs ≡ true → IsInLine xs
passing p [] none all = All-nil Ten
passing p (x ∷ xs) none all = by (p x) refl (passing p xs none) all
  where
    by : (b : Bool) → p x ≡ b → (list_all p xs ≡ true → IsInLine xs) → (b && list_all p xs) ≡ true → IsInLine (x ∷ xs)
    by true passes later rest = All-cons Ten x xs (λ is. let there : p 10 ≡ true = ap p (sym is)
        ∙ passes in absurd (cc)) (later rest)
    by false fails later rest = absurd (cc)

word : (xs : List ℕ) → list_all (λ b. not (b == 10)) xs ≡ true → IsInLine xs
word xs all = passing (λ b. not (b == 10)) xs refl all

own : IsNumeralModel AreDigits (digits_value 10)
own = numerals_by_value AreDigits tells_by_index

number : (n : ℕ) → n ≤ greatest → IsInLine (decimal n)
number n small =
    let digits : AreDigits (decimal n) = digits_decimal own n (omega arith) in
    All-from_get_or Ten (decimal n) 0 (λ i inside is. let digit = digits i inside in omega (arith, digit, is))

label : (xs : List ℕ) → is_label xs ≡ true → IsInLine xs
label xs form = passing is_ascii_alphanumeric xs refl (third_of (nat_le 1 (length xs)) (nat_le (length xs) 16)
    (list_all is_ascii_alphanumeric xs) form)

name : (xs : List ℕ) → is_state_name xs ≡ true → IsInLine xs
name xs form = passing is_name_byte xs refl (third_of (nat_le 1 (length xs)) (nat_le (length xs) 32)
    (list_all is_name_byte xs) form)

behind : (xs ys : List ℕ) → IsInLine xs → IsInLine ys → IsInLine (xs ++ ys)
behind xs ys a b = All-append Ten xs ys a b

letter : (n : ℕ) → n < 4 → IsInLine (slice_index side_letters n ∷ [])
letter zero small = word (codes "n") refl
letter (suc zero) small = word (codes "e") refl
letter (suc (suc zero)) small = word (codes "s") refl
letter (suc (suc (suc zero))) small = word (codes "w") refl
letter (suc (suc (suc (suc n)))) small = absurd (omega arith)

port : (e n : ℕ) → IsNameable (line_at e n) → IsInLine (line_text (line_at e n))
port e n h = behind (decimal e ++ codes ".") (slice_index side_letters n ∷ [])
    (behind (decimal e) (codes ".") (number e h.0) (word (codes ".") refl)) (letter n h.1)

-- a line of a script holds no byte 10
pub sentence_text-in_line : (m : Bool) (s : ScriptSentence) → IsSayableInScript m s → IsInLine (script_sentence_text s)
sentence_text-in_line m (Step e) h = behind (codes "step ") (decimal e) (word (codes "step ") refl) (number e h)
sentence_text-in_line m (Back e) h = behind (codes "back ") (decimal e) (word (codes "back ") refl) (number e h)
sentence_text-in_line m (Go e) h = behind (codes "go ") (decimal e) (word (codes "go ") refl) (number e h.1)
sentence_text-in_line m (Rev e) h = behind (codes "rev ") (decimal e) (word (codes "rev ") refl) (number e h.1)
sentence_text-in_line m (BreakState l n) h =
    behind (codes "break ") (l ++ (codes " state " ++ n)) (word (codes "break ") refl)
    (behind l (codes " state " ++ n) (label l h.0) (behind (codes " state ") n (word (codes " state ") refl)
    (name n h.1)))
sentence_text-in_line m (BreakElement l e) h =
    behind (codes "break ") (l ++ (codes " element " ++ decimal e)) (word (codes "break ") refl)
    (behind l (codes " element " ++ decimal e) (label l h.0) (behind (codes " element ") (decimal e)
    (word (codes " element ") refl) (number e h.1)))
sentence_text-in_line m (BreakLine l e n) h =
    behind (codes "break ") (l ++ (codes " line " ++ line_text (line_at e n))) (word (codes "break ") refl)
    (behind l (codes " line " ++ line_text (line_at e n)) (label l h.0) (behind (codes " line ")
    (line_text (line_at e n)) (word (codes " line ") refl) (port e n h.1)))
sentence_text-in_line m (Drop l) h = behind (codes "drop ") l (word (codes "drop ") refl) (label l h)
sentence_text-in_line m View h = word (codes "view") refl

same_sentence : (s t : ScriptSentence) → ◌≡◌ {A = Option ScriptSentence} (Some s) (Some t) → s ≡ t
same_sentence s t e = cc

-- a line says one thing
pub sentence_text-injective : (m : Bool) (s t : ScriptSentence) → IsSayableInScript m s → IsSayableInScript m t
    → script_sentence_text s ≡ script_sentence_text t → s ≡ t
sentence_text-injective m s t hs ht e = same_sentence s t (sym (sentence_in-again m s hs) ∙ ap (sentence_in m) e
    ∙ sentence_in-again m t ht)

-- so two texts that begin with a line are one where they are equal
pub lines-same : (m : Bool) (s t : ScriptSentence) (rest other : List ℕ) → IsSayableInScript m s → IsSayableInScript m t
    → script_sentence_text s ++ 10 ∷ rest ≡ script_sentence_text t ++ 10 ∷ other → (s ≡ t) × (rest ≡ other)
lines-same m s t rest other hs ht e =
    let both = lines-agree (script_sentence_text s) (script_sentence_text t) rest other (sentence_text-in_line m s hs)
    (sentence_text-in_line m t ht) e in
    (sentence_text-injective m s t hs ht both.0, both.1)

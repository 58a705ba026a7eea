-- What a line says can be read from it, and only that: each line says one thing. And no line of a text holds a byte 10.
use Rattle.std.specs.Prelude.{◌≡◌, ◌≢◌, ℕ, ◌+◌, ◌*◌, ◌<◌, ◌≤◌, ◌==◌, Bool, true, false, List, [], ◌∷◌, ◌++◌, length}
use Rattle.std.specs.Prelude.{slice_index, Option, Some, None, if◌then◌else◌, codes, decimal, refl}
use Rattle.std.specs.Str.Parse.{digits_value}
use Rattle.std.proofs.Common.{zero, suc, arith, sym, ap, ◌∙◌, inl, inr}
use Rattle.std.proofs.lemmas.Bool.Decides.{eqb_tells}
use Rattle.std.proofs.lemmas.Fmt.{digits_decimal, length-decimal-le}
use Rattle.std.proofs.lemmas.List.{length-append}
use Rattle.std.proofs.lemmas.List.Elements.{All-nil, All-cons}
use Rattle.std.proofs.lemmas.Option.{same_Some}
use Rattle.std.proofs.lemmas.Str.Parse.{IsNumeralModel, numerals_by_value, tells_by_index}
use Rattle.bn_base.specs.Line.{IsInLine}
use Rattle.bn_base.proofs.LineLemmas.{lines-agree}
use Rattle.bn_base.specs.Number.{greatest, AreDigits}
use Rattle.bn_circuits.specs.declared.line.Line.{Line}
use Rattle.bn_circuits.specs.declared.place.Place.TheVariants.{Enter, Left}
use Rattle.bn_netlist_laws.specs.Sentences.{IsNameable, AreNameable, line_text, target_text, targets_text, side_letters}
use Rattle.bn_netlist_laws.specs.Sentences.{bar_letters}
use Rattle.bn_netlist_laws.specs.Reading.{word_taken, named_after, element_of, named_target, named_targets}
use Rattle.bn_netlist_laws.proofs.LineReadingLemmas.{word_taken-again, number_taken-again, bar_taken-again}
use Rattle.bn_netlist_laws.proofs.LineReadingLemmas.{target_taken-again, numbers_of, all_numbers_of, nameable_first}
use Rattle.bn_netlist_laws.proofs.LineReadingLemmas.{nameable_rest}
use Rattle.bn_netlist_laws.proofs.FormLemmas.{number_after-again, named_after-again, element_of-again, targets_back}
use Rattle.bn_netlist_laws.specs.Sentences.{Sentence, Title, Count, Start, End, Steps, At, Element, Column, IsSayable}
use Rattle.bn_netlist_laws.specs.Sentences.{title_text, sentence_text}
use Rattle.bn_netlist_laws.specs.Sentences as sentences
use Rattle.bn_netlist_laws.specs.Faults.{kind_of, IsOfVersion, LinesAreShort}
use Rattle.bn_netlist_laws.specs.Saying.{column_of, sides_of, version_said, count_said_by, element_said, column_said_by}
use Rattle.bn_netlist_laws.specs.Saying.{said}
use Rattle.bn_netlist_laws.specs.declared.version.Version.{Version}
use Rattle.bn_netlist_laws.specs.declared.version.Version.TheVariants.{One, Two}

-- ---- reading back

target_back : (x : Option Line) → named_target (numbers_of x) ≡ x
target_back None = refl
target_back (Some l) = refl

count_said_by-again : (c : ℕ) → 0 < c → count_said_by c ≡ Some (Count c)
count_said_by-again c some =
    elim (eqb_tells c 0) [
      | inl same ↦ absurd (let none : c ≡ 0 = same.1 in omega arith)
      | inr other ↦ rw other.0 refl
    ]

column_said_by-again : (e k q : ℕ) → 0 < k → column_said_by (e, k, q) ≡ Some (Column e k q)
column_said_by-again e k q some =
    elim (eqb_tells k 0) [
      | inl same ↦ absurd (let none : k ≡ 0 = same.1 in omega arith)
      | inr other ↦ rw other.0 refl
    ]

not_at : (l : Line) → named_after (codes "at ") (codes "left " ++ line_text l) ≡ None
unfolding named_after word_taken
not_at l = refl

not_first : version_said One (title_text Two) ≡ None
unfolding word_taken
not_first = refl

not_element : (rest : List ℕ) → element_of (codes "c " ++ rest) ≡ None
unfolding element_of word_taken
not_element rest = refl

is_element : (n q : ℕ) (xs : List (Option Line)) → IsSayable (Element n q xs)
    → element_said (sentence_text (Element n q xs)) ≡ Some (Element n q xs)
is_element n q xs h =
    let row = element_of-again n q xs h in
    let same : Element n q (named_targets (all_numbers_of xs)) ≡ Element n q xs = ap (Element n q) (targets_back xs) in
    rw row (ap (λ (x : Sentence). Some x) same)

column_of-again : (e k q : ℕ) → IsSayable (Column e k q) → column_of (sentence_text (Column e k q)) ≡ Some (e, k, q)
unfolding column_of
column_of-again e k q h =
    let last : List ℕ = slice_index bar_letters q ∷ [] in
    let behind_rows : List ℕ = codes " " ++ last in
    let behind_number : List ℕ = codes " " ++ (decimal k ++ behind_rows) in
    let word = word_taken-again (codes "c ") (decimal e ++ behind_number) in
    let element = number_taken-again e behind_number h.0 (λ _. refl) in
    let space = word_taken-again (codes " ") (decimal k ++ behind_rows) in
    let rows = number_taken-again k behind_rows h.2 (λ _. refl) in
    let other = word_taken-again (codes " ") last in
    let bar = bar_taken-again q [] h.3 in
    rw (word, element, space, rows, other, bar) refl

sides_of-again : (x y : Option Line) → IsSayable (sentences.Row x y)
    → sides_of (sentence_text (sentences.Row x y)) ≡ Some (numbers_of x, numbers_of y)
unfolding sides_of
sides_of-again x y h =
    let behind : List ℕ = codes " " ++ (target_text y ++ []) in
    let word = word_taken-again (codes "r") (codes " " ++ (target_text x ++ behind)) in
    let first = target_taken-again x behind (nameable_first x (y ∷ []) h) in
    let second = target_taken-again y [] (nameable_rest x (y ∷ []) h) in
    rw (word, first, second) refl

pub said-again : (v : Version) (x : Sentence) → IsSayable x → IsOfVersion v x
    → said v (kind_of x) (sentence_text x) ≡ Some x
said-again v (Title One) h o = let first = word_taken-again (title_text One) [] in rw first refl
said-again v (Title Two) h o = let first = word_taken-again (title_text Two) [] in rw (not_first, first) refl
said-again v (Count c) h o = let number = number_after-again (codes "elements ") c h.1 in rw number
    (count_said_by-again c h.0)
said-again v (Start l) h o = let line = named_after-again (codes "start ") l h in rw line refl
said-again v (End l) h o = let line = named_after-again (codes "end ") l h in rw line refl
said-again v (Steps t) h o = let number = number_after-again (codes "steps ") t h in rw number refl
said-again v (At (Enter e l)) h o = let line = named_after-again (codes "at ") (record { element = e; line = l }) h in
    rw line refl
said-again v (At (Left e l)) h o =
    let other = not_at (record { element = e; line = l }) in
    let line = named_after-again (codes "left ") (record { element = e; line = l }) h in
    rw (other, line) refl
said-again One (Element n q xs) h o = let row = is_element n q xs h in rw row refl
said-again Two (Element n q xs) h o = let row = is_element n q xs h in rw row refl
said-again One (Column e k q) h o = absurd o
said-again Two (Column e k q) h o =
    let other = not_element (decimal e ++ (codes " " ++ (decimal k ++ (codes " " ++ slice_index bar_letters q ∷ []))))
    in
    let column = column_of-again e k q h in
    rw (other, column) (column_said_by-again e k q h.1)
said-again v (sentences.Row x y) h o =
    let sides = sides_of-again x y h in
    let same : sentences.Row (named_target (numbers_of x)) (named_target (numbers_of y)) ≡ sentences.Row x y =
    (λ i. sentences.Row (target_back x i) (target_back y i)) in
    rw sides (ap (λ (z : Sentence). Some z) same)

-- a line that says two things of one kind says one thing
pub sentence_text-injective : (v : Version) (x y : Sentence) → IsSayable x → IsSayable y → IsOfVersion v x
    → IsOfVersion v y → kind_of x ≡ kind_of y → sentence_text x ≡ sentence_text y → x ≡ y
sentence_text-injective v x y hx hy ox oy kind text =
    let first = said-again v x hx ox in
    let second = said-again v y hy oy in
    let between : said v (kind_of x) (sentence_text x) ≡ said v (kind_of y) (sentence_text y) =
    (λ i. said v (kind i) (text i)) in
    same_Some x y (sym first ∙ between ∙ second)

-- ---- no byte 10

has_no_ten : List ℕ → Bool
has_no_ten [] = true
has_no_ten (b ∷ bytes) = if b == 10 then false else has_no_ten bytes

true_is_not_false : true ≡ false → ⊥
true_is_not_false e = cc

no_ten-append : (xs ys : List ℕ) → has_no_ten xs ≡ true → has_no_ten ys ≡ true → has_no_ten (xs ++ ys) ≡ true
unfolding has_no_ten
no_ten-append [] ys h k = k
no_ten-append (x ∷ xs) ys h k =
    elim (eqb_tells x 10) [
      | inl same ↦ absurd (let none = rw same.0 at h in true_is_not_false (sym none))
      | inr other ↦ (let rest = rw other.0 at h in rw other.0 (no_ten-append xs ys rest k))
    ]

in_line_by : (xs : List ℕ) → has_no_ten xs ≡ true → IsInLine xs
unfolding has_no_ten
in_line_by [] h = All-nil (λ byte. byte ≢ 10)
in_line_by (x ∷ xs) h =
    elim (eqb_tells x 10) [
      | inl same ↦ absurd (let none = rw same.0 at h in true_is_not_false (sym none))
      | inr other ↦ (let rest = rw other.0 at h in All-cons (λ byte. byte ≢ 10) x xs other.1 (in_line_by xs rest))
    ]

digits_no_ten : (ds : List ℕ) → AreDigits ds → has_no_ten ds ≡ true
unfolding has_no_ten
digits_no_ten [] h = refl
digits_no_ten (d ∷ ds) h =
    elim (eqb_tells d 10) [
      | inl same ↦ absurd (let first = h 0 (omega arith) in let is : d ≡ 10 = same.1 in omega (arith, first))
      | inr other ↦ rw other.0 (digits_no_ten ds (λ k l. h (suc k) (omega arith)))
    ]

own : IsNumeralModel AreDigits (digits_value 10)
own = numerals_by_value AreDigits tells_by_index

number_no_ten : (n : ℕ) → n ≤ greatest → has_no_ten (decimal n) ≡ true
number_no_ten n small = digits_no_ten (decimal n) (digits_decimal own n (omega arith))

side_no_ten : (l : ℕ) → l < 4 → has_no_ten (slice_index side_letters l ∷ []) ≡ true
unfolding has_no_ten
side_no_ten zero h = refl
side_no_ten (suc zero) h = refl
side_no_ten (suc (suc zero)) h = refl
side_no_ten (suc (suc (suc zero))) h = refl
side_no_ten (suc (suc (suc (suc l)))) h = absurd (omega arith)

bar_no_ten : (q : ℕ) → q < 2 → has_no_ten (slice_index bar_letters q ∷ []) ≡ true
unfolding has_no_ten
bar_no_ten zero h = refl
bar_no_ten (suc zero) h = refl
bar_no_ten (suc (suc q)) h = absurd (omega arith)

line_no_ten : (l : Line) → IsNameable l → has_no_ten (line_text l) ≡ true
unfolding has_no_ten
line_no_ten l h =
    no_ten-append (decimal l.element ++ codes ".") (slice_index side_letters l.line ∷ [])
    (no_ten-append (decimal l.element) (codes ".") (number_no_ten l.element h.0) refl)
    (side_no_ten l.line h.1)

targets_no_ten : (xs : List (Option Line)) → AreNameable xs → has_no_ten (targets_text xs) ≡ true
unfolding has_no_ten
targets_no_ten [] h = refl
targets_no_ten (None ∷ xs) h = targets_no_ten xs h
targets_no_ten (Some l ∷ xs) h = no_ten-append (line_text l) (targets_text xs) (line_no_ten l h.0)
    (targets_no_ten xs h.1)

no_ten : (x : Sentence) → IsSayable x → has_no_ten (sentence_text x) ≡ true
unfolding has_no_ten
no_ten (Title One) h = refl
no_ten (Title Two) h = refl
no_ten (Count c) h = number_no_ten c h.1
no_ten (Start l) h = line_no_ten l h
no_ten (End l) h = line_no_ten l h
no_ten (Steps t) h = number_no_ten t h
no_ten (At (Enter e l)) h = line_no_ten (record { element = e; line = l }) h
no_ten (At (Left e l)) h = line_no_ten (record { element = e; line = l }) h
no_ten (Element n q xs) h =
    no_ten-append (decimal n) (codes " " ++ (slice_index bar_letters q ∷ targets_text xs)) (number_no_ten n h.0)
    (no_ten-append (slice_index bar_letters q ∷ []) (targets_text xs) (bar_no_ten q h.1) (targets_no_ten xs h.3))
no_ten (Column e k q) h =
    no_ten-append (decimal e) (codes " " ++ (decimal k ++ (codes " " ++ slice_index bar_letters q ∷ [])))
    (number_no_ten e h.0)
    (no_ten-append (decimal k) (codes " " ++ slice_index bar_letters q ∷ []) (number_no_ten k h.2) (bar_no_ten q h.3))
no_ten (sentences.Row x y) h = targets_no_ten (x ∷ y ∷ []) h

-- a line of a text holds no byte 10
pub sentence_text-in_line : (x : Sentence) → IsSayable x → IsInLine (sentence_text x)
sentence_text-in_line x h = in_line_by (sentence_text x) (no_ten x h)

-- so two texts that begin with lines of one kind begin with one line
pub lines-same : (v : Version) (x y : Sentence) (rest other : List ℕ) → IsSayable x → IsSayable y → IsOfVersion v x
    → IsOfVersion v y → kind_of x ≡ kind_of y → sentence_text x ++ 10 ∷ rest ≡ sentence_text y ++ 10 ∷ other
    → (x ≡ y) × (rest ≡ other)
lines-same v x y rest other hx hy ox oy kind e =
    let both = lines-agree (sentence_text x) (sentence_text y) rest other (sentence_text-in_line x hx)
    (sentence_text-in_line y hy) e in
    (sentence_text-injective v x y hx hy ox oy kind both.0, both.1)

-- ---- no line is long

number_short : (n : ℕ) → n ≤ greatest → length (decimal n) ≤ 19
number_short n small = length-decimal-le 19 n (omega arith) (omega arith) (omega arith)

line_short : (l : Line) → IsNameable l → length (line_text l) ≤ 21
line_short l h =
    let number = number_short l.element h.0 in
    let first = length-append (decimal l.element) (codes ".") in
    let whole = length-append (decimal l.element ++ codes ".") (slice_index side_letters l.line ∷ []) in
    omega arith

target_short : (x : Option Line) → AreNameable (x ∷ []) → length (codes " " ++ target_text x) ≤ 22
target_short None h = omega arith
target_short (Some l) h = let line = line_short l h.0 in omega arith

targets_short : (xs : List (Option Line)) → AreNameable xs → length (targets_text xs) ≤ 22 * length xs
targets_short [] h = omega arith
targets_short (x ∷ xs) h =
    let first = target_short x (nameable_first x xs h) in
    let rest = targets_short xs (nameable_rest x xs h) in
    let whole = length-append (target_text x) (targets_text xs) in
    omega arith

pub lines-are-short : LinesAreShort
lines-are-short (Title One) h = omega arith
lines-are-short (Title Two) h = omega arith
lines-are-short (Count c) h = let number = number_short c h.1 in omega arith
lines-are-short (Start l) h = let line = line_short l h in omega arith
lines-are-short (End l) h = let line = line_short l h in omega arith
lines-are-short (Steps t) h = let number = number_short t h in omega arith
lines-are-short (At (Enter e l)) h = let line = line_short (record { element = e; line = l }) h in omega arith
lines-are-short (At (Left e l)) h = let line = line_short (record { element = e; line = l }) h in omega arith
lines-are-short (Element n q xs) h =
    let number = number_short n h.0 in
    let four : length xs ≡ 4 = h.2 in
    let targets = targets_short xs h.3 in
    let whole = length-append (decimal n) (codes " " ++ (slice_index bar_letters q ∷ targets_text xs)) in
    omega arith
lines-are-short (Column e k q) h =
    let element = number_short e h.0 in
    let rows = number_short k h.2 in
    let inner = length-append (decimal k) (codes " " ++ slice_index bar_letters q ∷ []) in
    let whole = length-append (decimal e) (codes " " ++ (decimal k ++ (codes " " ++ slice_index bar_letters q ∷ []))) in
    omega arith
lines-are-short (sentences.Row x y) h = let targets = targets_short (x ∷ y ∷ []) h in omega arith

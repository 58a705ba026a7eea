-- Laws of reading, two a form: what is read is written so, and what is written so is read back, whatever follows.
use Rattle.std.specs.Prelude.{◌≡◌, ℕ, ◌+◌, ◌^◌, ◌<◌, ◌≤◌, true, false, List, [], ◌∷◌, ◌++◌, length, take, drop}
use Rattle.std.specs.Prelude.{slice_index, Option, Some, None, option_map, Result, Ok, Err, codes, decimal, refl}
use Rattle.std.proofs.Common.{zero, suc, arith, sym, ap, subst, ◌∙◌, inl, inr, nat_eq}
use Rattle.std.proofs.lemmas.Bool.Decides.{eqb_tells}
use Rattle.std.proofs.lemmas.List.{append_assoc}
use Rattle.std.proofs.lemmas.Option.{option_and_then_some, same_Some}
use lib.Pointwise.{pointwise}
use Rattle.std.specs.Str.Parse.{digits_value}
use Rattle.std.proofs.lemmas.Str.Parse.{IsNumeralModel, numerals_by_value, tells_by_index}
use Rattle.std.proofs.lemmas.Fmt.{digits_decimal, decimal_nonempty}
use Rattle.bn_base.specs.Number.{greatest, read_number, BeginsWithNoDigit, AreDigits}
use Rattle.bn_base.proofs.NumberLemmas.{read_number-takes, read_number-again}
use Rattle.bn_base.specs.declared.numbers.Digits.{Digits}
use Rattle.bn_circuits.specs.declared.line.Line.{Line}
use Rattle.bn_netlist_laws.specs.Sentences.{IsNameable, AreNameable, line_text, target_text, targets_text, side_letters}
use Rattle.bn_netlist_laws.specs.Sentences.{bar_letters}
use Rattle.bn_netlist_laws.specs.Reading.{word_taken, number_by, number_taken, letter_taken, side_of, bar_of}
use Rattle.bn_netlist_laws.specs.Reading.{side_taken, bar_taken, line_taken, target_by, target_taken, targets_taken}
use Rattle.bn_netlist_laws.specs.Reading.{named, named_target, named_targets}

-- a word by a test of the bytes at the front
pub word_passed : (word bytes : List ℕ) → pointwise nat_eq (take (length word) bytes) word ≡ true
    → word_taken word bytes ≡ Some (drop (length word) bytes)
unfolding word_taken
word_passed [] bytes h = refl
word_passed (w ∷ word) [] h = absurd (cc)
word_passed (w ∷ word) (b ∷ bytes) h =
    elim (eqb_tells b w) [
      | inl same ↦ (let rest = rw same.0 at h in rw same.0 (word_passed word bytes rest))
      | inr other ↦ absurd (let rest = rw other.0 at h in cc)
    ]

pub word_missing : (word bytes : List ℕ) → pointwise nat_eq (take (length word) bytes) word ≡ false
    → word_taken word bytes ≡ None
unfolding word_taken
word_missing [] bytes h = absurd (cc)
word_missing (w ∷ word) [] h = refl
word_missing (w ∷ word) (b ∷ bytes) h =
    elim (eqb_tells b w) [
      | inl same ↦ (let rest = rw same.0 at h in rw same.0 (word_missing word bytes rest))
      | inr other ↦ rw other.0 refl
    ]

-- a word
pub word_taken-takes : (word bytes rest : List ℕ) → word_taken word bytes ≡ Some rest → bytes ≡ word ++ rest
unfolding word_taken
word_taken-takes [] bytes rest h = same_Some bytes rest h
word_taken-takes (w ∷ word) [] rest h = absurd (cc)
word_taken-takes (w ∷ word) (b ∷ bytes) rest h =
    elim (eqb_tells b w) [
      | inl same ↦ (let behind = word_taken-takes word bytes rest (rw same.0 at h) in let first : b ≡ w = same.1 in cc)
      | inr other ↦ absurd (let none = rw other.0 at h in cc)
    ]

pub word_taken-again : (word rest : List ℕ) → word_taken word (word ++ rest) ≡ Some rest
unfolding word_taken
word_taken-again [] rest = refl
word_taken-again (w ∷ word) rest =
    elim (eqb_tells w w) [
      | inl same ↦ rw same.0 (word_taken-again word rest)
      | inr other ↦ absurd (other.1 refl)
    ]

-- a number
number_by-takes : (bytes : List ℕ) (read : Result (ℕ × ℕ) Digits) (n : ℕ) (rest : List ℕ) → read_number bytes 0 ≡ read
    → number_by bytes read ≡ Some (n, rest) → (n ≤ greatest) × (bytes ≡ decimal n ++ rest)
number_by-takes bytes (Err fault) n rest is h = absurd (cc)
number_by-takes bytes (Ok read) n rest is h =
    let taken = read_number-takes bytes 0 read.0 read.1 is in
    let pair : ◌≡◌ {A = ℕ × List ℕ} (read.0, drop read.1 bytes) (n, rest) =
    same_Some {A = ℕ × List ℕ} (read.0, drop read.1 bytes) (n, rest) h in
    let number : read.0 ≡ n = ap (λ (p : ℕ × List ℕ). p.0) pair in
    let behind : drop read.1 bytes ≡ rest = ap (λ (p : ℕ × List ℕ). p.1) pair in
    let spelled : bytes ≡ decimal read.0 ++ drop read.1 bytes = taken.2 in (
      let small : read.0 ≤ greatest = taken.0 in omega arith,
      spelled ∙ ap (λ m. decimal m ++ drop read.1 bytes) number ∙ ap (λ r. decimal n ++ r) behind,
    )

pub number_taken-takes : (bytes rest : List ℕ) (n : ℕ) → number_taken bytes ≡ Some (n, rest)
    → (n ≤ greatest) × (bytes ≡ decimal n ++ rest)
unfolding number_taken
number_taken-takes bytes rest n h = number_by-takes bytes (read_number bytes 0) n rest refl h

drop_behind : (front rest : List ℕ) (k : ℕ) → k ≡ 0 + length front → drop k (front ++ rest) ≡ rest
drop_behind [] rest zero e = refl
drop_behind [] rest (suc k) e = absurd (omega arith)
drop_behind (x ∷ front) rest zero e = absurd (omega arith)
drop_behind (x ∷ front) rest (suc k) e = drop_behind front rest k (omega arith)

pub number_taken-again : (n : ℕ) (rest : List ℕ) → n ≤ greatest → BeginsWithNoDigit rest
    → number_taken (decimal n ++ rest) ≡ Some (n, rest)
unfolding number_taken
number_taken-again n rest small ends =
    let read : read_number (decimal n ++ rest) 0 ≡ Ok (n, 0 + length (decimal n)) =
    read_number-again [] rest n small ends in
    ap (λ r. number_by (decimal n ++ rest) r) read ∙ ap (λ (r : List ℕ). let p : ℕ × List ℕ = (n, r) in Some p)
    (drop_behind (decimal n) rest (0 + length (decimal n)) refl)

-- a letter
side_of-takes : (b l : ℕ) → side_of b ≡ Some l → (l < 4) × (slice_index side_letters l ≡ b)
side_of-takes b l h =
    elim (eqb_tells b 110) [
      | inl n ↦ (let is : 0 ≡ l = same_Some 0 l (rw n.0 at h) in let b_is : b
          ≡ 110 = n.1 in rw (← is) (omega arith, sym b_is))
      | inr not_n ↦ (let h1 = rw not_n.0 at h in elim (eqb_tells b 101) [
        | inl e ↦ (let is : 1 ≡ l = same_Some 1 l (rw e.0 at h1) in let b_is : b
            ≡ 101 = e.1 in rw (← is) (omega arith, sym b_is))
        | inr not_e ↦ (let h2 = rw not_e.0 at h1 in elim (eqb_tells b 115) [
          | inl s ↦ (let is : 2 ≡ l = same_Some 2 l (rw s.0 at h2) in let b_is : b
              ≡ 115 = s.1 in rw (← is) (omega arith, sym b_is))
          | inr not_s ↦ (let h3 = rw not_s.0 at h2 in elim (eqb_tells b 119) [
            | inl w ↦ (let is : 3 ≡ l = same_Some 3 l (rw w.0 at h3) in let b_is : b
                ≡ 119 = w.1 in rw (← is) (omega arith, sym b_is))
            | inr not_w ↦ absurd (let none = rw not_w.0 at h3 in cc)
          ])
        ])
      ])
    ]

side_of-again : (l : ℕ) → l < 4 → side_of (slice_index side_letters l) ≡ Some l
side_of-again zero h = refl
side_of-again (suc zero) h = refl
side_of-again (suc (suc zero)) h = refl
side_of-again (suc (suc (suc zero))) h = refl
side_of-again (suc (suc (suc (suc l)))) h = absurd (omega arith)

bar_of-takes : (b q : ℕ) → bar_of b ≡ Some q → (q < 2) × (slice_index bar_letters q ≡ b)
bar_of-takes b q h =
    elim (eqb_tells b 72) [
      | inl n ↦ (let is : 0 ≡ q = same_Some 0 q (rw n.0 at h) in let b_is : b
          ≡ 72 = n.1 in rw (← is) (omega arith, sym b_is))
      | inr not_n ↦ (let h1 = rw not_n.0 at h in elim (eqb_tells b 86) [
        | inl e ↦ (let is : 1 ≡ q = same_Some 1 q (rw e.0 at h1) in let b_is : b
            ≡ 86 = e.1 in rw (← is) (omega arith, sym b_is))
        | inr not_e ↦ absurd (let none = rw not_e.0 at h1 in cc)
      ])
    ]

bar_of-again : (q : ℕ) → q < 2 → bar_of (slice_index bar_letters q) ≡ Some q
bar_of-again zero h = refl
bar_of-again (suc zero) h = refl
bar_of-again (suc (suc q)) h = absurd (omega arith)

letter_taken-takes : (number : ℕ → Option ℕ) (bytes rest : List ℕ) (n : ℕ) → letter_taken number bytes ≡ Some (n, rest)
    → (b : ℕ) × (number b ≡ Some n) × (bytes ≡ b ∷ rest)
letter_taken-takes number [] rest n h = absurd (cc)
letter_taken-takes number (b ∷ bytes) rest n h = letter_by (number b) refl h
  where
    letter_by : (o : Option ℕ) → number b ≡ o → option_map (λ (m : ℕ). let p : ℕ × List ℕ = (m, bytes) in p) o
        ≡ Some (n, rest) → (c : ℕ) × (number c ≡ Some n) × (b ∷ bytes ≡ c ∷ rest)
    letter_by None is h = absurd (cc)
    letter_by (Some m) is h =
        let pair : ◌≡◌ {A = ℕ × List ℕ} (m, bytes) (n, rest) = same_Some {A = ℕ × List ℕ} (m, bytes) (n, rest) h in
        let number_is : m ≡ n = ap (λ (p : ℕ × List ℕ). p.0) pair in
        let behind : bytes ≡ rest = ap (λ (p : ℕ × List ℕ). p.1) pair in
        (b, cc, ap (λ r. b ∷ r) behind)

pub side_taken-takes : (bytes rest : List ℕ) (l : ℕ) → side_taken bytes ≡ Some (l, rest)
    → (l < 4) × (bytes ≡ slice_index side_letters l ∷ rest)
unfolding side_taken
side_taken-takes bytes rest l h =
    let t = letter_taken-takes side_of bytes rest l h in
    let s = side_of-takes t.0 l t.1 in
    (s.0, t.2 ∙ ap (λ b. b ∷ rest) (sym s.1))

pub side_taken-again : (l : ℕ) (rest : List ℕ) → l < 4 → side_taken (slice_index side_letters l ∷ rest) ≡ Some (l, rest)
unfolding side_taken
side_taken-again l rest h = ap (λ o. option_map (λ (n : ℕ). let p : ℕ × List ℕ = (n, rest) in p) o) (side_of-again l h)

pub bar_taken-takes : (bytes rest : List ℕ) (q : ℕ) → bar_taken bytes ≡ Some (q, rest)
    → (q < 2) × (bytes ≡ slice_index bar_letters q ∷ rest)
unfolding bar_taken
bar_taken-takes bytes rest q h =
    let t = letter_taken-takes bar_of bytes rest q h in
    let s = bar_of-takes t.0 q t.1 in
    (s.0, t.2 ∙ ap (λ b. b ∷ rest) (sym s.1))

pub bar_taken-again : (q : ℕ) (rest : List ℕ) → q < 2 → bar_taken (slice_index bar_letters q ∷ rest) ≡ Some (q, rest)
unfolding bar_taken
bar_taken-again q rest h = ap (λ o. option_map (λ (n : ℕ). let p : ℕ × List ℕ = (n, rest) in p) o) (bar_of-again q h)

-- a line of an element
line_written : (e s : ℕ) (bytes a b rest : List ℕ) → bytes ≡ decimal e ++ a → a ≡ codes "." ++ b
    → b ≡ slice_index side_letters s ∷ rest → bytes ≡ line_text (named (e, s)) ++ rest
line_written e s bytes a b rest h i j = simp append_assoc (h
    ∙ ap (λ r. decimal e ++ r) (i ∙ ap (λ r. codes "." ++ r) j))

pub line_taken-takes : (bytes rest : List ℕ) (l : ℕ × ℕ) → line_taken bytes ≡ Some (l, rest)
    → IsNameable (named l) × (bytes ≡ line_text (named l) ++ rest)
unfolding line_taken
line_taken-takes bytes rest l h =
    option_and_then_some _ (number_taken bytes) (l, rest) h (λ element e_is h1.
    option_and_then_some _ (word_taken (codes ".") element.1) (l, rest) h1 (λ behind b_is h2.
    option_and_then_some _ (side_taken behind) (l, rest) h2 (λ side s_is h3.
    let number = number_taken-takes bytes element.1 element.0 e_is in
    let point = word_taken-takes (codes ".") element.1 behind b_is in
    let letter = side_taken-takes behind side.1 side.0 s_is in
    let pair : ◌≡◌ {A = (ℕ × ℕ) × List ℕ} ((element.0, side.0), side.1) (l, rest) =
    same_Some {A = (ℕ × ℕ) × List ℕ} ((element.0, side.0), side.1) (l, rest) h3 in
    let P : (ℕ × ℕ) × List ℕ → Type 0 = λ p. IsNameable (named p.0) × (bytes ≡ line_text (named p.0) ++ p.1) in
    subst P pair (
      (number.0, letter.0),
      line_written element.0 side.0 bytes element.1 behind side.1 number.1 point letter.1,
    ))))

point_ends : (rest : List ℕ) → BeginsWithNoDigit (46 ∷ rest)
point_ends rest h = refl

pub line_taken-again : (l : Line) (rest : List ℕ) → IsNameable l
    → line_taken (line_text l ++ rest) ≡ Some ((l.element, l.line), rest)
unfolding line_taken
line_taken-again l rest h =
    let text : line_text l ++ rest ≡ decimal l.element ++ (46 ∷ (slice_index side_letters l.line ∷ rest)) =
    simp append_assoc refl in
    let number = number_taken-again l.element (46 ∷ (slice_index side_letters l.line ∷ rest)) h.0
    (point_ends (slice_index side_letters l.line ∷ rest)) in
    let point = word_taken-again (codes ".") (slice_index side_letters l.line ∷ rest) in
    let side = side_taken-again l.line rest h.1 in
    rw (text, number, point, side) refl

-- where an output leads
target_by-takes : (behind rest : List ℕ) (dash : Option (List ℕ)) (x : Option (ℕ × ℕ))
    → word_taken (codes "-") behind ≡ dash → target_by dash (line_taken behind) ≡ Some (x, rest)
    → AreNameable (named_target x ∷ []) × (behind ≡ target_text (named_target x) ++ rest)
target_by-takes behind rest (Some left) x is h =
    let taken = word_taken-takes (codes "-") behind left is in
    let pair : ◌≡◌ {A = Option (ℕ × ℕ) × List ℕ} (None, left) (x, rest) =
    same_Some {A = Option (ℕ × ℕ) × List ℕ} (None, left) (x, rest) h in
    let P : Option (ℕ × ℕ) × List ℕ → Type 0 = λ p. AreNameable (named_target p.0 ∷ [])
    × (behind ≡ target_text (named_target p.0) ++ p.1) in
    subst P pair (tt, taken)
target_by-takes behind rest None x is h = line_by (line_taken behind) refl h
  where
    line_by : (o : Option ((ℕ × ℕ) × List ℕ)) → line_taken behind ≡ o → target_by None o ≡ Some (x, rest)
        → AreNameable (named_target x ∷ []) × (behind ≡ target_text (named_target x) ++ rest)
    line_by None is h = absurd (cc)
    line_by (Some l) is h =
        let taken = line_taken-takes behind l.1 l.0 is in
        let pair : ◌≡◌ {A = Option (ℕ × ℕ) × List ℕ} (Some l.0, l.1) (x, rest) =
        same_Some {A = Option (ℕ × ℕ) × List ℕ} (Some l.0, l.1) (x, rest) h in
        let P : Option (ℕ × ℕ) × List ℕ → Type 0 = λ p. AreNameable (named_target p.0 ∷ [])
        × (behind ≡ target_text (named_target p.0) ++ p.1) in
        subst P pair ((taken.0, tt), taken.1)

pub target_taken-takes : (bytes rest : List ℕ) (x : Option (ℕ × ℕ)) → target_taken bytes ≡ Some (x, rest)
    → AreNameable (named_target x ∷ []) × (bytes ≡ codes " " ++ (target_text (named_target x) ++ rest))
unfolding target_taken
target_taken-takes bytes rest x h =
    option_and_then_some _ (word_taken (codes " ") bytes) (x, rest) h (λ behind b_is h1.
    let space = word_taken-takes (codes " ") bytes behind b_is in
    let target = target_by-takes behind rest (word_taken (codes "-") behind) x refl h1 in
    (target.0, space ∙ ap (λ r. codes " " ++ r) target.1))

-- what is written of a number begins with a digit, and so with no dash
digits : IsNumeralModel AreDigits (digits_value 10)
digits = numerals_by_value AreDigits tells_by_index

dash_before_digits : (ds rest : List ℕ) → AreDigits ds → 0 < length ds → word_taken (codes "-") (ds ++ rest) ≡ None
unfolding word_taken
dash_before_digits [] rest are some = absurd (omega arith)
dash_before_digits (d ∷ ds) rest are some =
    elim (eqb_tells d 45) [
      | inl same ↦ absurd (let first = are 0 (omega arith) in let is : d ≡ 45 = same.1 in omega (arith, first))
      | inr other ↦ rw other.0 refl
    ]

no_dash : (l : Line) (rest : List ℕ) → IsNameable l → word_taken (codes "-") (line_text l ++ rest) ≡ None
no_dash l rest h =
    let small : l.element < 2 ^ 64 = omega (arith, h.0) in
    let text : line_text l ++ rest ≡ decimal l.element ++ (46 ∷ (slice_index side_letters l.line ∷ rest)) =
    simp append_assoc refl in
    rw text (dash_before_digits (decimal l.element) (46 ∷ (slice_index side_letters l.line ∷ rest))
    (digits_decimal digits l.element small) (decimal_nonempty l.element small))

-- a line of an element by its two numbers
abbrev pub numbers_of : Option Line → Option (ℕ × ℕ)
numbers_of None = None
numbers_of (Some l) = Some (l.element, l.line)

abbrev pub all_numbers_of : List (Option Line) → List (Option (ℕ × ℕ))
all_numbers_of [] = []
all_numbers_of (x ∷ xs) = numbers_of x ∷ all_numbers_of xs

pub target_taken-again : (x : Option Line) (rest : List ℕ) → AreNameable (x ∷ [])
    → target_taken (codes " " ++ (target_text x ++ rest)) ≡ Some (numbers_of x, rest)
unfolding target_taken
target_taken-again None rest h =
    let space = word_taken-again (codes " ") (codes "-" ++ rest) in
    let dash = word_taken-again (codes "-") rest in
    rw (space, dash) refl
target_taken-again (Some l) rest h =
    let space = word_taken-again (codes " ") (line_text l ++ rest) in
    let line = line_taken-again l rest h.0 in
    let none = no_dash l rest h.0 in
    rw (space, none, line) refl

-- the parts of what can be named
pub nameable_first : (x : Option Line) (xs : List (Option Line)) → AreNameable (x ∷ xs) → AreNameable (x ∷ [])
nameable_first None xs h = tt
nameable_first (Some l) xs h = (h.0, tt)

pub nameable_rest : (x : Option Line) (xs : List (Option Line)) → AreNameable (x ∷ xs) → AreNameable xs
nameable_rest None xs h = h
nameable_rest (Some l) xs h = h.1

pub nameable_both : (x : Option Line) (xs : List (Option Line)) → AreNameable (x ∷ []) → AreNameable xs
    → AreNameable (x ∷ xs)
nameable_both None xs h k = k
nameable_both (Some l) xs h k = (h.0, k)

-- the four targets
pub record AreFourTargets (bytes rest : List ℕ) (xs : List (Option (ℕ × ℕ))) : Type 0 where
  pub four : length xs ≡ 4
  pub nameable : AreNameable (named_targets xs)
  pub written : bytes ≡ targets_text (named_targets xs) ++ rest

targets_written : (a b c d : Option Line) (bytes n e s rest : List ℕ) → bytes ≡ codes " " ++ (target_text a ++ n)
    → n ≡ codes " " ++ (target_text b ++ e) → e ≡ codes " " ++ (target_text c ++ s)
    → s ≡ codes " " ++ (target_text d ++ rest) → bytes ≡ targets_text (a ∷ b ∷ c ∷ d ∷ []) ++ rest
targets_written a b c d bytes n e s rest h i j k =
    simp append_assoc (h ∙ ap (λ r. codes " " ++ (target_text a ++ r))
    (i ∙ ap (λ r. codes " " ++ (target_text b ++ r)) (j ∙ ap (λ r. codes " " ++ (target_text c ++ r)) k)))

pub targets_taken-takes : (bytes rest : List ℕ) (xs : List (Option (ℕ × ℕ))) → targets_taken bytes ≡ Some (xs, rest)
    → AreFourTargets bytes rest xs
unfolding targets_taken
targets_taken-takes bytes rest xs h =
    option_and_then_some _ (target_taken bytes) (xs, rest) h (λ n n_is h1.
    option_and_then_some _ (target_taken n.1) (xs, rest) h1 (λ e e_is h2.
    option_and_then_some _ (target_taken e.1) (xs, rest) h2 (λ s s_is h3.
    option_and_then_some _ (target_taken s.1) (xs, rest) h3 (λ w w_is h4.
    let north = target_taken-takes bytes n.1 n.0 n_is in
    let east = target_taken-takes n.1 e.1 e.0 e_is in
    let south = target_taken-takes e.1 s.1 s.0 s_is in
    let west = target_taken-takes s.1 w.1 w.0 w_is in
    let pair : ◌≡◌ {A = List (Option (ℕ × ℕ)) × List ℕ} (n.0 ∷ e.0 ∷ s.0 ∷ w.0 ∷ [], w.1) (xs, rest) =
    same_Some {A = List (Option (ℕ × ℕ)) × List ℕ} (n.0 ∷ e.0 ∷ s.0 ∷ w.0 ∷ [], w.1) (xs, rest) h4 in
    let P : List (Option (ℕ × ℕ)) × List ℕ → Type 0 = λ p. AreFourTargets bytes p.1 p.0 in
    let nameable : AreNameable (named_targets (n.0 ∷ e.0 ∷ s.0 ∷ w.0 ∷ [])) =
    nameable_both (named_target n.0) (named_targets (e.0 ∷ s.0 ∷ w.0 ∷ [])) north.0
    (nameable_both (named_target e.0) (named_targets (s.0 ∷ w.0 ∷ [])) east.0
    (nameable_both (named_target s.0) (named_targets (w.0 ∷ [])) south.0 west.0))
    in
    subst P pair (record {
      four = refl;
      nameable = nameable;
      written = targets_written (named_target n.0) (named_target e.0) (named_target s.0) (named_target w.0) bytes n.1
          e.1 s.1 w.1 north.1 east.1 south.1 west.1;
    })))))

targets_regrouped : (a b c d : Option Line) (rest : List ℕ) → targets_text (a ∷ b ∷ c ∷ d ∷ []) ++ rest
    ≡ codes " " ++ (target_text a ++ (codes " " ++ (target_text b
    ++ (codes " " ++ (target_text c ++ (codes " " ++ (target_text d ++ rest)))))))
targets_regrouped a b c d rest = simp append_assoc refl

pub targets_taken-again : (xs : List (Option Line)) (rest : List ℕ) → length xs ≡ 4 → AreNameable xs
    → targets_taken (targets_text xs ++ rest) ≡ Some (all_numbers_of xs, rest)
unfolding targets_taken
targets_taken-again [] rest four h = absurd (omega arith)
targets_taken-again (a ∷ []) rest four h = absurd (omega arith)
targets_taken-again (a ∷ b ∷ []) rest four h = absurd (omega arith)
targets_taken-again (a ∷ b ∷ c ∷ []) rest four h = absurd (omega arith)
targets_taken-again (a ∷ b ∷ c ∷ d ∷ []) rest four h =
    let south_text : List ℕ = codes " " ++ (target_text d ++ rest) in
    let east_text : List ℕ = codes " " ++ (target_text c ++ south_text) in
    let north_text : List ℕ = codes " " ++ (target_text b ++ east_text) in
    let h1 = nameable_rest a (b ∷ c ∷ d ∷ []) h in
    let h2 = nameable_rest b (c ∷ d ∷ []) h1 in
    let h3 = nameable_rest c (d ∷ []) h2 in
    let north = target_taken-again a north_text (nameable_first a (b ∷ c ∷ d ∷ []) h) in
    let east = target_taken-again b east_text (nameable_first b (c ∷ d ∷ []) h1) in
    let south = target_taken-again c south_text (nameable_first c (d ∷ []) h2) in
    let west = target_taken-again d rest h3 in
    rw (targets_regrouped a b c d rest, north, east, south, west) refl
targets_taken-again (a ∷ b ∷ c ∷ d ∷ e ∷ xs) rest four h = absurd (omega arith)

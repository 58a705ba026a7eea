-- The laws of this crate, each proved: a text has one page, and its first fault is one.
use Rattle.std.specs.Prelude.{◌≡◌, ◌≢◌, ℕ, ◌+◌, ◌<◌, ◌≤◌, nat_lt, List, [], ◌∷◌, ◌++◌, All, length, map, Option, Some}
use Rattle.std.specs.Prelude.{None}
use Rattle.std.specs.Prelude.{◌==◌, Bool, true, false, ◌⊎◌, refl}
use Rattle.std.proofs.Common.{zero, suc, arith, sym, ap, subst, ◌∙◌, inl, inr}
use Rattle.std.proofs.lemmas.Bool.{cases_lt}
use Rattle.std.proofs.lemmas.Bool.Decides.{eqb_tells}
use Rattle.std.proofs.lemmas.List.{append_assoc}
use Rattle.std.proofs.lemmas.List.Elements.{All-cons, All-nil}
use Rattle.bn_base.specs.Line.{IsInLine}
use Rattle.bn_base.proofs.LineLemmas.{cut-lines-differ, lines-agree}
use Rattle.bn_network_text.specs.Saying.{said}
use Rattle.bn_network_text.specs.Lines.{joined, Page, IsPage, most_lines}
use Rattle.bn_network_text.specs.Faults.{count_in, line_fault}
use Rattle.bn_network_text.specs.Networks.{drawing_by}
use Rattle.bn_network_text.specs.Laws.{OneNetwork, OneFault, FaultyTextsDescribeNothing, NetworkOrFault}
use Rattle.bn_network_text.specs.declared.shape.Shape.{Shape}
use Rattle.bn_network_text.specs.declared.fault.NetworkFault.{NetworkFault}
use Rattle.bn_network_text.specs.declared.fault.NetworkFault.TheVariants.{Syntax}
use Rattle.bn_network_text.proofs.FaultLemmas.{AreClear, clear_none, clear_more, clear_first_fault, all_clear}
use Rattle.bn_network_text.proofs.FaultLemmas.{last_fault_at, has_more}

-- ---- one page

head_of : (x : List ℕ) (xs : List (List ℕ)) → All IsInLine (x ∷ xs) → IsInLine x
head_of x xs all = all 0 x (omega arith)

tail_of : (x : List ℕ) (xs : List (List ℕ)) → All IsInLine (x ∷ xs) → All IsInLine xs
tail_of x xs all = λ k d low. all (suc k) d (omega arith)

-- lines, and what is left after them, are one, after k lines before them
lines_one : (k : ℕ) (ls ms : List (List ℕ)) (left right : List ℕ) → joined ls ++ left ≡ joined ms ++ right
    → All IsInLine ls → All IsInLine ms → k + length ls ≤ most_lines → k + length ms ≤ most_lines
    → IsInLine left ⊎ (k + length ls ≡ most_lines) → IsInLine right ⊎ (k + length ms ≡ most_lines)
    → (ls ≡ ms) × (left ≡ right)
lines_one k [] [] left right same a b few few' c d = (refl, same)
lines_one k [] (m ∷ ms) left right same a b few few' (inl in_line) d =
    absurd (cut-lines-differ left m (joined ms ++ right) in_line (same ∙ append_assoc m (10 ∷ joined ms) right))
lines_one k [] (m ∷ ms) left right same a b few few' (inr all) d = absurd (omega arith)
lines_one k (l ∷ ls) [] left right same a b few few' c (inl in_line) =
    absurd (cut-lines-differ right l (joined ls ++ left) in_line (sym same ∙ append_assoc l (10 ∷ joined ls) left))
lines_one k (l ∷ ls) [] left right same a b few few' c (inr all) = absurd (omega arith)
lines_one k (l ∷ ls) (m ∷ ms) left right same a b few few' c d =
    let both = lines-agree l m (joined ls ++ left) (joined ms ++ right) (head_of l ls a) (head_of m ms b)
    (sym (append_assoc l (10 ∷ joined ls) left) ∙ same ∙ append_assoc m (10 ∷ joined ms) right) in
    let count : k + suc (length ls) ≡ suc k + length ls = omega arith in
    let count' : k + suc (length ms) ≡ suc k + length ms = omega arith in
    let rest = lines_one (suc k) ls ms left right both.1 (tail_of l ls a) (tail_of m ms b) (omega arith) (omega arith)
    (subst (λ n. IsInLine left ⊎ (n ≡ most_lines)) count c) (subst (λ n. IsInLine right ⊎ (n ≡ most_lines)) count' d) in
    ((λ i. both.0 i ∷ rest.0 i), rest.1)

page_one : (text : List ℕ) (p q : Page) → IsPage text p → IsPage text q → p ≡ q
page_one text p q h k =
    let first : length h.lines ≡ 0 + length h.lines = omega arith in
    let second : length k.lines ≡ 0 + length k.lines = omega arith in
    let one = lines_one 0 h.lines k.lines h.left k.left (sym h.are.begins ∙ k.are.begins) h.are.whole k.are.whole
    (subst (λ n. n ≤ most_lines) first h.are.few) (subst (λ n. n ≤ most_lines) second k.are.few)
    (subst (λ n. IsInLine h.left ⊎ (n ≡ most_lines)) first h.are.rest)
    (subst (λ n. IsInLine k.left ⊎ (n ≡ most_lines)) second k.are.rest) in
    let says : p.says ≡ q.says = h.says ∙ ap (map said) one.0 ∙ sym k.says in
    let more : p.more ≡ q.more = h.more ∙ ap (λ xs. nat_lt 0 (length xs)) one.1 ∙ sym k.more in
    λ i. record { says = says i; more = more i }

pub one_network : OneNetwork
one_network shapes text d e h k = h.drawing ∙ ap drawing_by (page_one text h.page k.page h.is_page k.is_page)
    ∙ sym k.drawing

some_none : {X : Type 0} (o : Option X) (x : X) → o ≡ Some x → o ≡ None → ⊥
some_none o x some none = cc

same_some : {X : Type 0} (o : Option X) (x y : X) → o ≡ Some x → o ≡ Some y → x ≡ y
same_some o x y first second = cc

pub one_fault : OneFault
one_fault shapes text line other fault second h k =
    let same = page_one text k.page h.page k.is_page h.is_page in
    let has = subst (λ p. line_fault shapes p k.number ≡ Some second) same k.has in
    let earlier = subst (λ p. (n : ℕ) → n < k.number → line_fault shapes p n ≡ None) same k.earlier in
    let number : h.number ≡ k.number = by_order earlier has in
    let there = subst (λ n. line_fault shapes h.page n ≡ Some second) (sym number) has in
    (h.counted ∙ ap (λ n. n + 1) number ∙ sym k.counted, same_some _ fault second h.has there)
  where
    by_order : ((n : ℕ) → n < k.number → line_fault shapes h.page n ≡ None)
        → line_fault shapes h.page k.number ≡ Some second → h.number ≡ k.number
    by_order earlier has =
        elim (cases_lt h.number k.number) [
          | inl less ↦ absurd (some_none _ fault h.has (earlier h.number less))
          | inr more ↦ elim (cases_lt k.number h.number) [
            | inl less ↦ absurd (some_none _ second has (h.earlier k.number less))
            | inr more' ↦ omega arith
          ]
        ]

pub faulty_nothing : FaultyTextsDescribeNothing
faulty_nothing shapes text d line fault h k =
    let same = page_one text k.page h.page k.is_page h.is_page in
    let none = subst (λ p. line_fault shapes p h.number ≡ None) same (k.faultless h.number) in
    some_none _ fault h.has none

-- ---- a network or a fault

-- the bytes have a first line, or none
first_line : (text : List ℕ)
    → ((line : List ℕ) × (rest : List ℕ) × IsInLine line × (text ≡ line ++ 10 ∷ rest)) ⊎ IsInLine text
first_line [] = inr (All-nil (λ byte. byte ≢ 10))
first_line (b ∷ text) = by_byte (eqb_tells b 10) (first_line text)
  where
    by_byte : (((b == 10) ≡ true) × (b ≡ 10)) ⊎ (((b == 10) ≡ false) × (b ≢ 10))
        → ((line : List ℕ) × (rest : List ℕ) × IsInLine line × (text ≡ line ++ 10 ∷ rest)) ⊎ IsInLine text
        → ((line : List ℕ) × (rest : List ℕ) × IsInLine line × (b ∷ text ≡ line ++ 10 ∷ rest)) ⊎ IsInLine (b ∷ text)
    by_byte (inl is) rest = inl ([], text, All-nil (λ byte. byte ≢ 10), ap (λ x. x ∷ text) is.1)
    by_byte (inr not) (inl found) = inl (
      b ∷ found.0,
      found.1,
      All-cons (λ byte. byte ≢ 10) b found.0 not.1 found.2,
      ap (λ xs. b ∷ xs) found.3,
    )
    by_byte (inr not) (inr in_line) = inr (All-cons (λ byte. byte ≢ 10) b text not.1 in_line)

-- lines of a text after k lines before them, and what is left after them
pub record LinesOf (k : ℕ) (text : List ℕ) : Type 0 where
  pub lines : List (List ℕ)
  pub left : List ℕ
  pub begins : text ≡ joined lines ++ left
  pub whole : All IsInLine lines
  pub few : k + length lines ≤ most_lines
  pub rest : IsInLine left ⊎ (k + length lines ≡ most_lines)

one_line : (k : ℕ) (text line rest : List ℕ) → IsInLine line → text ≡ line ++ 10 ∷ rest → LinesOf (suc k) rest
    → LinesOf k text
one_line k text line rest in_line is more =
    let count : suc k + length more.lines ≡ k + length (line ∷ more.lines) = omega arith in
    record {
      lines = line ∷ more.lines;
      left = more.left;
      begins = is ∙ ap (λ xs. line ++ 10 ∷ xs) more.begins ∙ sym (append_assoc line (10 ∷ joined more.lines) more.left);
      whole = All-cons IsInLine line more.lines in_line more.whole;
      few = subst (λ n. n ≤ most_lines) count more.few;
      rest = subst (λ n. IsInLine more.left ⊎ (n ≡ most_lines)) count more.rest;
    }

no_line : (k : ℕ) (text : List ℕ) → k ≤ most_lines → IsInLine text ⊎ (k + 0 ≡ most_lines) → LinesOf k text
no_line k text few rest = record {
  lines = [];
  left = text;
  begins = refl;
  whole = All-nil IsInLine;
  few = omega arith;
  rest = rest;
}

lines_there : (fuel k : ℕ) → k + fuel ≡ most_lines → (text : List ℕ) → LinesOf k text
lines_there zero k sum text = no_line k text (omega arith) (inr sum)
lines_there (suc fuel) k sum text = by_line (first_line text) (λ rest. lines_there fuel (suc k) (omega arith) rest)
  where
    by_line : ((line : List ℕ) × (rest : List ℕ) × IsInLine line × (text ≡ line ++ 10 ∷ rest)) ⊎ IsInLine text
        → ((rest : List ℕ) → LinesOf (suc k) rest) → LinesOf k text
    by_line (inl found) more = one_line k text found.0 found.1 found.2 found.3 (more found.1)
    by_line (inr in_line) more = no_line k text (omega arith) (inl in_line)

page_there : (text : List ℕ) → (p : Page) × IsPage text p
page_there text =
    let h = lines_there most_lines 0 refl text in
    let none : 0 + length h.lines ≡ length h.lines = omega arith in (
      record { says = map said h.lines; more = nat_lt 0 (length h.left) },
      record {
        lines = h.lines;
        left = h.left;
        are = record {
          begins = h.begins;
          whole = h.whole;
          few = subst (λ n. n ≤ most_lines) none h.few;
          rest = subst (λ n. IsInLine h.left ⊎ (n ≡ most_lines)) none h.rest;
        };
        says = refl;
        more = refl;
      },
    )

module _ (shapes : List Shape) (page : Page) where
  abbrev FirstBelow : ℕ → Type 0
  FirstBelow n = (k : ℕ) × (fault : NetworkFault) × (line_fault shapes page k ≡ Some fault)
      × ((m : ℕ) → m < k → line_fault shapes page m ≡ None)

  -- a first fault before line n, or none
  below : (n : ℕ) → FirstBelow n ⊎ AreClear shapes page n
  below zero = inr (clear_none shapes page)
  below (suc n) = by_before (below n)
    where
      by_fault : AreClear shapes page n → (o : Option NetworkFault) → line_fault shapes page n ≡ o
          → FirstBelow (suc n) ⊎ AreClear shapes page (suc n)
      by_fault clear None none = let sum : n + 1 ≡ suc n = omega arith in
          inr (subst (AreClear shapes page) sum (clear_more shapes page n none clear))
      by_fault clear (Some fault) has = inl (n, fault, has, clear_first_fault shapes page n clear)

      by_before : FirstBelow n ⊎ AreClear shapes page n → FirstBelow (suc n) ⊎ AreClear shapes page (suc n)
      by_before (inl found) = inl found
      by_before (inr clear) = by_fault clear (line_fault shapes page n) refl

  decided : FirstBelow 0 ⊎ ((n : ℕ) → line_fault shapes page n ≡ None)
  decided = by_lines (below (count_in page.says + 5))
    where
      by_end : AreClear shapes page (count_in page.says + 5) → (b : Bool) → has_more shapes page ≡ b
          → FirstBelow 0 ⊎ ((n : ℕ) → line_fault shapes page n ≡ None)
      by_end clear true more = inl (
        count_in page.says + 5,
        Syntax,
        last_fault_at shapes page more,
        clear_first_fault shapes page (count_in page.says + 5) clear,
      )
      by_end clear false none = inr (all_clear shapes page none clear)

      by_lines : FirstBelow (count_in page.says + 5) ⊎ AreClear shapes page (count_in page.says + 5)
          → FirstBelow 0 ⊎ ((n : ℕ) → line_fault shapes page n ≡ None)
      by_lines (inl found) = inl found
      by_lines (inr clear) = by_end clear (has_more shapes page) refl

pub network_or : NetworkOrFault
network_or shapes text =
    let p = page_there text in
    elim (decided shapes p.0) [
      | inl found ↦ inr (
        found.0 + 1,
        found.1,
        record {
          page = p.0;
          is_page = p.1;
          number = found.0;
          counted = refl;
          has = found.2;
          earlier = found.3;
        },
      )
      | inr none ↦ inl (drawing_by p.0, record { page = p.0; is_page = p.1; faultless = none; drawing = refl })
    ]

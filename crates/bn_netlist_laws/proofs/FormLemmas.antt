-- The forms of lines: what is read from a line stands in it, and what stands in it is read from it.
use Rattle.std.specs.Prelude.{◌≡◌, ℕ, ◌≤◌, ◌==◌, true, false, List, [], ◌∷◌, ◌++◌, length, slice_index, Option, Some}
use Rattle.std.specs.Prelude.{None, codes, decimal, refl}
use Rattle.std.proofs.Common.{suc, arith, sym, ap, subst, ◌∙◌, inl, inr}
use Rattle.std.proofs.lemmas.Bool.Decides.{eqb_tells}
use Rattle.std.proofs.lemmas.List.{append-nil}
use Rattle.std.proofs.lemmas.Option.{option_and_then_some, cond_some}
use Rattle.bn_base.specs.Number.{greatest, BeginsWithNoDigit}
use Rattle.bn_circuits.specs.declared.line.Line.{Line}
use Rattle.bn_netlist_laws.specs.Sentences.{Element, IsNameable, IsSayable, line_text, targets_text, sentence_text}
use Rattle.bn_netlist_laws.specs.Sentences.{bar_letters}
use Rattle.bn_netlist_laws.specs.Reading.{word_taken, number_taken, bar_taken, line_taken, targets_taken, ended}
use Rattle.bn_netlist_laws.specs.Reading.{number_after, named_after, element_of, named, named_targets}
use Rattle.bn_netlist_laws.specs.Saying.{element_sentence}
use Rattle.bn_netlist_laws.proofs.LineReadingLemmas.{word_taken-takes, word_taken-again, number_taken-takes}
use Rattle.bn_netlist_laws.proofs.LineReadingLemmas.{number_taken-again, bar_taken-takes, bar_taken-again}
use Rattle.bn_netlist_laws.proofs.LineReadingLemmas.{line_taken-takes, line_taken-again, targets_taken-takes}
use Rattle.bn_netlist_laws.proofs.LineReadingLemmas.{targets_taken-again, all_numbers_of}
use Rattle.bn_netlist_laws.specs.declared.element_line.ElementLine.{ElementLine}

pub empty_by : (xs : List ℕ) → length xs == 0 ≡ true → xs ≡ []
empty_by [] h = refl
empty_by (x ∷ xs) h =
    elim (eqb_tells (length (x ∷ xs)) 0) [
      | inl same ↦ absurd (let none : length (x ∷ xs) ≡ 0 = same.1 in omega arith)
      | inr other ↦ absurd (true-false (sym h ∙ other.0))
    ]
  where
    true-false : true ≡ false → ⊥
    true-false e = cc

pub ended-takes : {X : Type 0} (taken : X × List ℕ) (x : X) → ended taken ≡ Some x → (taken.0 ≡ x) × (taken.1 ≡ [])
ended-takes taken x h =
    let both = cond_some (length taken.1 == 0) taken.0 x h in
    (both.1, empty_by taken.1 both.0)

pub no_digit_ends : BeginsWithNoDigit []
no_digit_ends h = absurd (omega arith)

-- a word and a number
pub number_after-takes : (word line : List ℕ) (n : ℕ) → number_after word line ≡ Some n
    → (n ≤ greatest) × (line ≡ word ++ decimal n)
unfolding number_after
number_after-takes word line n h =
    option_and_then_some _ (word_taken word line) n h (λ behind b_is h1.
    option_and_then_some _ (number_taken behind) n h1 (λ taken t_is h2.
    let first = word_taken-takes word line behind b_is in
    let number = number_taken-takes behind taken.1 taken.0 t_is in
    let last = ended-takes taken n h2 in
    let is : taken.0 ≡ n = last.0 in
    let none : taken.1 ≡ [] = last.1 in (
      let small : taken.0 ≤ greatest = number.0 in omega arith,
      first ∙ ap (λ r. word ++ r) (number.1 ∙ ap (λ r. decimal taken.0 ++ r) none ∙ append-nil (decimal taken.0)
          ∙ ap decimal is),
    )))

pub number_after-again : (word : List ℕ) (n : ℕ) → n ≤ greatest → number_after word (word ++ decimal n) ≡ Some n
unfolding number_after
number_after-again word n small =
    let first = word_taken-again word (decimal n) in
    let number : number_taken (decimal n) ≡ Some (n, []) = ap number_taken (sym (append-nil (decimal n)))
    ∙ number_taken-again n [] small no_digit_ends in
    rw (first, number) refl

-- a word and a line of an element
pub named_after-takes : (word line : List ℕ) (l : ℕ × ℕ) → named_after word line ≡ Some l
    → IsNameable (named l) × (line ≡ word ++ line_text (named l))
unfolding named_after
named_after-takes word line l h =
    option_and_then_some _ (word_taken word line) l h (λ behind b_is h1.
    option_and_then_some _ (line_taken behind) l h1 (λ taken t_is h2.
    let first = word_taken-takes word line behind b_is in
    let named_line = line_taken-takes behind taken.1 taken.0 t_is in
    let last = ended-takes taken l h2 in
    let is : taken.0 ≡ l = last.0 in
    let none : taken.1 ≡ [] = last.1 in
    let P : ℕ × ℕ → Type 0 = λ p. IsNameable (named p) × (line ≡ word ++ line_text (named p)) in
    subst P is (
      named_line.0,
      first ∙ ap (λ r. word ++ r) (named_line.1 ∙ ap (λ r. line_text (named taken.0) ++ r) none
          ∙ append-nil (line_text (named taken.0))),
    )))

pub named_after-again : (word : List ℕ) (l : Line) → IsNameable l
    → named_after word (word ++ line_text l) ≡ Some (l.element, l.line)
unfolding named_after
named_after-again word l h =
    let first = word_taken-again word (line_text l) in
    let line : line_taken (line_text l) ≡ Some ((l.element, l.line), []) =
    ap line_taken (sym (append-nil (line_text l))) ∙ line_taken-again l [] h in
    rw (first, line) refl

-- the line of an element
element_written : (n q : ℕ) (xs : List (Option Line)) (line a b c d : List ℕ) → line ≡ codes "e " ++ a
    → a ≡ decimal n ++ b → b ≡ codes " " ++ c → c ≡ slice_index bar_letters q ∷ d → d ≡ targets_text xs ++ []
    → line ≡ sentence_text (Element n q xs)
element_written n q xs line a b c d h i j k l =
    h ∙ ap (λ r. codes "e " ++ r) (i ∙ ap (λ r. decimal n ++ r)
    (j ∙ ap (λ r. codes " " ++ r) (k ∙ ap (λ r. slice_index bar_letters q ∷ r) (l ∙ append-nil (targets_text xs)))))

pub element_of-takes : (line : List ℕ) (row : ElementLine) → element_of line ≡ Some row
    → IsSayable (element_sentence row) × (line ≡ sentence_text (element_sentence row))
unfolding element_of
element_of-takes line row h =
    option_and_then_some _ (word_taken (codes "e ") line) row h (λ first f_is h1.
    option_and_then_some _ (number_taken first) row h1 (λ number n_is h2.
    option_and_then_some _ (word_taken (codes " ") number.1) row h2 (λ second s_is h3.
    option_and_then_some _ (bar_taken second) row h3 (λ bar b_is h4.
    option_and_then_some _ (targets_taken bar.1) row h4 (λ targets t_is h5.
    let made : ElementLine = record { number = number.0; state = bar.0; targets = targets.0 } in
    let e = word_taken-takes (codes "e ") line first f_is in
    let n = number_taken-takes first number.1 number.0 n_is in
    let space = word_taken-takes (codes " ") number.1 second s_is in
    let state = bar_taken-takes second bar.1 bar.0 b_is in
    let four = targets_taken-takes bar.1 targets.1 targets.0 t_is in
    let last = ended-takes (made, targets.1) row h5 in
    let length_named : length (named_targets targets.0) ≡ 4 = length-named_targets targets.0 ∙ four.four in
    let P : ElementLine → Type 0 = λ r. IsSayable (element_sentence r) × (line ≡ sentence_text (element_sentence r)) in
    subst P last.0 (
      (n.0, state.0, length_named, four.nameable),
      element_written number.0 bar.0 (named_targets targets.0) line first number.1 second bar.1 e n.1 space state.1
          (four.written ∙ ap (λ r. targets_text (named_targets targets.0) ++ r) last.1),
    ))))))
  where
    length-named_targets : (xs : List (Option (ℕ × ℕ))) → length (named_targets xs) ≡ length xs
    length-named_targets [] = refl
    length-named_targets (x ∷ xs) = ap suc (length-named_targets xs)

pub element_of-again : (n q : ℕ) (xs : List (Option Line)) → IsSayable (Element n q xs)
    → element_of (sentence_text (Element n q xs)) ≡ Some (record { number = n; state = q; targets = all_numbers_of xs })
unfolding element_of
element_of-again n q xs h =
    let behind_bar : List ℕ = targets_text xs in
    let behind_space : List ℕ = slice_index bar_letters q ∷ behind_bar in
    let behind_number : List ℕ = codes " " ++ behind_space in
    let e = word_taken-again (codes "e ") (decimal n ++ behind_number) in
    let number = number_taken-again n behind_number h.0 (λ _. refl) in
    let space = word_taken-again (codes " ") behind_space in
    let bar = bar_taken-again q behind_bar h.1 in
    let targets : targets_taken (targets_text xs) ≡ Some (all_numbers_of xs, []) =
    ap targets_taken (sym (append-nil (targets_text xs))) ∙ targets_taken-again xs [] h.2 h.3 in
    rw (e, number, space, bar, targets) refl

-- what a line says is read from it
pub targets_back : (xs : List (Option Line)) → named_targets (all_numbers_of xs) ≡ xs
targets_back [] = refl
targets_back (None ∷ xs) = ap (λ (r : List (Option Line)). None ∷ r) (targets_back xs)
targets_back (Some l ∷ xs) = ap (λ (r : List (Option Line)). Some l ∷ r) (targets_back xs)

-- A text that has been read up to some place.
use Rattle.std.specs.Prelude.{◌≡◌, ◌≢◌, ℕ, ◌+◌, ◌≤◌, nat_lt, List, [], ◌∷◌, ◌++◌, All, length, map, Option, refl, true}
use Rattle.std.specs.Prelude.{false}
use Rattle.std.proofs.Common.{arith, sym, ap, subst, ◌∙◌, inl, inr}
use Rattle.std.proofs.lemmas.List.{append_assoc, map-append, length-append}
use Rattle.std.proofs.lemmas.List.Elements.{All-append, All-cons, All-nil}
use Rattle.std.proofs.lemmas.Bool.Decides.{nat_tests}
use Rattle.bn_base.specs.Line.{IsInLine}
use Rattle.bn_network_text.specs.Saying.{said}
use Rattle.bn_network_text.specs.Lines.{joined, IsPage, most_lines}
use Rattle.bn_network_text.specs.declared.sentence.Sentence.{Sentence}

-- the lines before this place, of which there are n, say this
pub record IsReadTo (text rest : List ℕ) (says : List (Option Sentence)) (n : ℕ) : Type 0 where
  pub lines : List (List ℕ)
  pub begins : text ≡ joined lines ++ rest
  pub whole : All IsInLine lines
  pub says_are : says ≡ map said lines
  pub counted : length lines ≡ n

pub none_read : (text : List ℕ) → IsReadTo text text [] 0
none_read text = record { lines = []; begins = refl; whole = All-nil IsInLine; says_are = refl; counted = refl }

joined-push : (lines : List (List ℕ)) (line rest : List ℕ)
    → joined (lines ++ line ∷ []) ++ rest ≡ joined lines ++ (line ++ 10 ∷ rest)
joined-push [] line rest = append_assoc line (10 ∷ []) rest
joined-push (x ∷ lines) line rest =
    append_assoc x (10 ∷ joined (lines ++ line ∷ [])) rest
    ∙ ap (λ ys. x ++ 10 ∷ ys) (joined-push lines line rest)
    ∙ sym (append_assoc x (10 ∷ joined lines) (line ++ 10 ∷ rest))

pub one_more : (text rest line behind : List ℕ) (says : List (Option Sentence)) (n : ℕ) → IsInLine line
    → rest ≡ line ++ 10 ∷ behind → IsReadTo text rest says n → IsReadTo text behind (says ++ said line ∷ []) (n + 1)
one_more text rest line behind says n in_line is h = record {
  lines = h.lines ++ line ∷ [];
  begins = h.begins ∙ ap (λ xs. joined h.lines ++ xs) is ∙ sym (joined-push h.lines line behind);
  whole = All-append IsInLine h.lines (line ∷ []) h.whole (All-cons IsInLine line [] in_line (All-nil IsInLine));
  says_are = ap (λ xs. xs ++ said line ∷ []) h.says_are ∙ sym (map-append said h.lines (line ∷ []));
  counted = length-append h.lines (line ∷ []) ∙ ap (λ k. k + 1) h.counted;
}

pub at_end : (text rest : List ℕ) (says : List (Option Sentence)) (n : ℕ) → n ≤ most_lines → rest ≡ []
    → IsReadTo text rest says n → IsPage text (record { says = says; more = false })
at_end text rest says n few none h = record {
  lines = h.lines;
  left = rest;
  are = record {
    begins = h.begins;
    whole = h.whole;
    few = let c = h.counted in omega arith;
    rest = inl (subst IsInLine (sym none) (All-nil (λ byte. byte ≢ 10)));
  };
  says = h.says_are;
  more = sym (ap (λ xs. nat_lt 0 (length xs)) none);
}

some_left : (rest : List ℕ) → rest ≢ [] → true ≡ nat_lt 0 (length rest)
some_left [] some = absurd (some refl)
some_left (b ∷ rest) some = grind (arith, nat_tests)

pub at_cut : (text rest : List ℕ) (says : List (Option Sentence)) (n : ℕ) → n ≤ most_lines → IsInLine rest → rest ≢ []
    → IsReadTo text rest says n → IsPage text (record { says = says; more = true })
at_cut text rest says n few in_line some h = record {
  lines = h.lines;
  left = rest;
  are = record {
    begins = h.begins;
    whole = h.whole;
    few = let c = h.counted in omega arith;
    rest = inl in_line;
  };
  says = h.says_are;
  more = some_left rest some;
}

pub at_most : (text rest : List ℕ) (says : List (Option Sentence)) (n : ℕ) → n ≡ most_lines → rest ≢ []
    → IsReadTo text rest says n → IsPage text (record { says = says; more = true })
at_most text rest says n all some h = record {
  lines = h.lines;
  left = rest;
  are = record {
    begins = h.begins;
    whole = h.whole;
    few = let c = h.counted in omega arith;
    rest = inr (h.counted ∙ all);
  };
  says = h.says_are;
  more = some_left rest some;
}

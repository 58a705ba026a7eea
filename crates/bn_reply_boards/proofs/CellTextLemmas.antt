-- The text of cells, one after another, and the output that they show.
use Rattle.std.specs.Prelude.{◌≡◌, ◌≢◌, ℕ, ◌+◌, ◌-◌, ◌<◌, ◌≤◌, List, [], ◌∷◌, ◌++◌, All, length, drop, take}
use Rattle.std.specs.Prelude.{Option, Some, None, codes, refl}
use Rattle.std.proofs.Common.{zero, suc, arith, add-one, drop-cons, get_or, sym, ap, ◌∙◌, append-nil, append_assoc}
use Rattle.std.proofs.lemmas.List.{drop_all, take_all, length-drop}
use Rattle.bn_table.specs.Rows.{Named}
use Rattle.bn_boards.specs.declared.spelled.SpelledTape.{SpelledTape}
use Rattle.bn_reply.specs.Lines.{position_text}
use Rattle.bn_reply_relations.specs.RunText.{cells_text, head_text, output_from, symbol_text}
use Rattle.bn_reply_boards.specs.Shown.{HasLetter, HaveLetters, bounds_text}

-- what is left of a list behind one more
pub drop_one : {X : Type 0} (xs : List X) (k : ℕ) (d x : X) → k < length xs → get_or xs k d ≡ x
    → drop k xs ≡ x ∷ drop (k + 1) xs
drop_one xs k d x low is = rw (add-one, drop-cons xs k d, is) refl

-- ---- cells

module _ (t : Named) (tape : ℕ) where
  cell_first : (o : Option ℕ) (cells : List (Option ℕ)) → cells_text t tape (o ∷ cells)
      ≡ cells_text t tape (o ∷ []) ++ cells_text t tape cells
  cell_first None cells = refl
  cell_first (Some s) cells = ap (λ text. 32 ∷ (text ++ cells_text t tape cells))
      (sym (append-nil (symbol_text t tape s)))

  -- the cells from k on are that at k and those behind it
  pub cells_on : (cells : List (Option ℕ)) (k : ℕ) (d o : Option ℕ) → k < length cells → get_or cells k d ≡ o
      → cells_text t tape (drop k cells) ≡ cells_text t tape (o ∷ []) ++ cells_text t tape (drop (k + 1) cells)
  cells_on cells k d o low is = ap (cells_text t tape) (drop_one cells k d o low is) ∙ cell_first o (drop (k + 1) cells)

  pub none_left : (cells : List (Option ℕ)) (k : ℕ) → length cells ≤ k → cells_text t tape (drop k cells) ≡ []
  none_left cells k past = ap (cells_text t tape) (drop_all k cells past)

-- the position of a tape's first cell and that of its head, before what stands behind them
pub bounds_apart : (s : SpelledTape) (rest : List ℕ) → bounds_text s ++ rest ≡ codes " from " ++ (position_text s.first
    ++ (codes " head " ++ (head_text s.head ++ (codes ":" ++ rest))))
bounds_apart s rest = ap (λ text. codes " from " ++ text)
    (append_assoc (position_text s.first) (codes " head " ++ (head_text s.head ++ codes ":")) rest
    ∙ ap (λ text. position_text s.first ++ (codes " head " ++ text)) (append_assoc (head_text s.head) (codes ":") rest))

-- ---- the output

nonblank_first : (s : ℕ) (cells : List (Option ℕ)) → s ≢ 0 → output_from (Some s ∷ cells) ≡ s ∷ output_from cells
nonblank_first zero cells some = absurd (some refl)
nonblank_first (suc s) cells some = refl

pub symbol_found : (cells : List (Option ℕ)) (k : ℕ) (d : Option ℕ) (s : ℕ) (before now : List ℕ) → k < length cells
    → get_or cells k d ≡ Some s → s ≢ 0
    → output_from cells ≡ before ++ output_from (drop k cells) → now ≡ before ++ s ∷ []
    → output_from cells ≡ now ++ output_from (drop (k + 1) cells)
symbol_found cells k d s before now low is some so_far more =
    so_far ∙ ap (λ cs. before ++ output_from cs) (drop_one cells k d (Some s) low is)
    ∙ ap (λ ys. before ++ ys) (nonblank_first s (drop (k + 1) cells) some)
    ∙ sym (append_assoc before (s ∷ []) (output_from (drop (k + 1) cells)))
    ∙ ap (λ ys. ys ++ output_from (drop (k + 1) cells)) (sym more)

pub none_behind : (cells : List (Option ℕ)) (k : ℕ) (found : List ℕ) → length cells ≤ k
    → output_from cells ≡ found ++ output_from (drop k cells)
    → found ≡ output_from cells
none_behind cells k found past so_far =
    sym (append-nil found) ∙ ap (λ cs. found ++ output_from cs) (sym (drop_all k cells past)) ∙ sym so_far

-- a cell that shows no letter ends the output
pub data IsNoLetter : Option ℕ → Type 0 where
  shows_none : IsNoLetter None
  shows_blank : (s : ℕ) → s ≡ 0 → IsNoLetter (Some s)

ended_here : (o : Option ℕ) (cells : List (Option ℕ)) → IsNoLetter o → output_from (o ∷ cells) ≡ []
ended_here None cells h = refl
ended_here (Some zero) cells h = refl
ended_here (Some (suc s)) cells (shows_blank _ blank) = absurd (omega arith)

pub output_ended : (cells : List (Option ℕ)) (k : ℕ) (d o : Option ℕ) (found : List ℕ) → k < length cells
    → get_or cells k d ≡ o → IsNoLetter o
    → output_from cells ≡ found ++ output_from (drop k cells) → found ≡ output_from cells
output_ended cells k d o found low is none so_far =
    sym (append-nil found) ∙ ap (λ ys. found ++ ys) (sym (ended_here o (drop (k + 1) cells) none))
    ∙ ap (λ cs. found ++ output_from cs) (sym (drop_one cells k d o low is)) ∙ sym so_far

-- ---- letters

all_more : {X : Type 0} (P : X → Type 0) (x : X) (xs : List X) → P x → All P xs → All P (x ∷ xs)
all_more P x xs here all zero d low = here
all_more P x xs here all (suc k) d low = all k d (omega arith)

all_rest : {X : Type 0} (P : X → Type 0) (x : X) (xs : List X) → All P (x ∷ xs) → All P xs
all_rest P x xs all k d low = all (suc k) d (omega arith)

pub letters_found : (t : Named) (cells : List (Option ℕ)) → HaveLetters t 3 cells
    → All (λ s. s < t.machine.symbols) (output_from cells)
letters_found t [] all = λ k d low. absurd (omega arith)
letters_found t (None ∷ cells) all = λ k d low. absurd (omega arith)
letters_found t (Some zero ∷ cells) all = λ k d low. absurd (omega arith)
letters_found t (Some (suc s) ∷ cells) all =
    all_more (λ z. z < t.machine.symbols) (suc s) (output_from cells)
    (all 0 None (omega arith) (λ e. absurd (omega arith)))
    (letters_found t cells (all_rest (HasLetter t 3) (Some (suc s)) cells all))

pub letters_behind : (t : Named) (cells : List (Option ℕ)) → HaveLetters t 3 cells
    → All (λ s. s < t.machine.symbols) (output_from (drop 1 cells))
letters_behind t [] all = letters_found t [] all
letters_behind t (o ∷ cells) all = letters_found t cells (all_rest (HasLetter t 3) o cells all)

-- a slice from the second item on has all items behind the first
pub taken_behind : (cells : List (Option ℕ)) → 1 ≤ length cells → take (length cells - 1) (drop 1 cells) ≡ drop 1 cells
taken_behind cells some = take_all (length cells - 1) (drop 1 cells) (let h = length-drop 1 cells in omega arith)

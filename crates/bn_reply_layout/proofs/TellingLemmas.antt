-- What is told stands in the text.
use Rattle.std.specs.Prelude.{◌≡◌, ℕ, ◌+◌, List, [], ◌∷◌, ◌++◌, length, Some, slice_get}
use Rattle.std.proofs.Common.{zero, suc, arith, sym, ap, subst, ◌∙◌, append_assoc}
use Rattle.std.specs.List.{flat_map}
use Rattle.bn_network.specs.Controls.{ControlState}
use Rattle.bn_boards.specs.Layouts.{elements_of}
use Rattle.bn_reply_relations.specs.RunText.{elements_line}
use Rattle.bn_reply_layout.specs.Modules.{modules_of}
use Rattle.bn_reply_layout.specs.ModuleText.{module_line, module_lines, modules_line}
use Rattle.bn_reply_layout.specs.ControlText.{column_line, column_lines, state_names}
use Rattle.bn_reply_layout.specs.PlaceLaws.{IsTold, TextsTellAll}

-- in a longer text
told_behind : (x front t : List ℕ) → IsTold x t → IsTold x (front ++ t)
told_behind x front t h = (front ++ h.0, h.1, ap (λ s. front ++ s) h.2 ∙ sym (append_assoc front h.0 (x ++ h.1)))

told_before : (x t rest : List ℕ) → IsTold x t → IsTold x (t ++ rest)
told_before x t rest h = (
  h.0,
  h.1 ++ rest,
  ap (λ s. s ++ rest) h.2 ∙ append_assoc h.0 (x ++ h.1) rest ∙ ap (λ s. h.0 ++ s) (append_assoc x h.1 rest),
)

-- among lines
told_line : {A : Type 0} (f : A → List ℕ) (l : List A) (k : ℕ) (x : A) → slice_get l k ≡ Some x
    → IsTold (f x) (flat_map f l)
told_line f [] k x e = absurd (cc)
told_line f (y ∷ l) zero x e = let same : y ≡ x = cc in ([], flat_map f l, ap (λ z. f z ++ flat_map f l) same)
told_line f (y ∷ l) (suc k) x e = told_behind (f x) (f y) (flat_map f l) (told_line f l k x e)

told_column : (names : List (List ℕ)) (j : ℕ) (qs : List ControlState) (i : ℕ) (q : ControlState)
    → slice_get qs i ≡ Some q → IsTold (column_line names (j + i) q) (column_lines names j qs)
told_column names j [] i q e = absurd (cc)
told_column names j (r ∷ qs) zero q e =
    let same : r ≡ q = cc in
    let n : j ≡ j + 0 = omega arith in
    ([], column_lines names (j + 1) qs, (λ v. column_line names (n v) (same v) ++ column_lines names (j + 1) qs))
told_column names j (r ∷ qs) (suc i) q e =
    let n : j + 1 + i ≡ j + suc i = omega arith in
    told_behind (column_line names (j + suc i) q) (column_line names j r) (column_lines names (j + 1) qs)
    (subst (λ v. IsTold (column_line names v q) (column_lines names (j + 1) qs)) n (told_column names (j + 1) qs i q e))

told_at : (names : List (List ℕ)) (qs : List ControlState) (j : ℕ) (q : ControlState) → slice_get qs j ≡ Some q
    → IsTold (column_line names j q) (column_lines names 0 qs)
told_at names qs j q e =
    let n : 0 + j ≡ j = omega arith in
    subst (λ v. IsTold (column_line names v q) (column_lines names 0 qs)) n (told_column names 0 qs j q e)

pub texts-tell : TextsTellAll
texts-tell t f status text told tells = record {
  modules = λ k m has. subst (IsTold (module_line m)) (sym tells.text_is)
      (told_before (module_line m) (module_lines f.layout) _ (told_behind (module_line m)
      (elements_line (elements_of f.layout)) _ (told_behind (module_line m)
      (modules_line (length (modules_of f.layout))) _ (told_line module_line (modules_of f.layout) k m has))));
  columns = λ j q has. subst (IsTold (column_line (state_names f.translation) j q)) (sym tells.text_is)
      (told_behind (column_line (state_names f.translation) j q) (module_lines f.layout) _
      (told_before (column_line (state_names f.translation) j q) (column_lines (state_names f.translation) 0 f.names) _
      (told_at (state_names f.translation) f.names j q has)));
}

-- How rows of cells that lie one after another are read and written.
use Rattle.std.specs.Prelude.{◌≡◌, ℕ, ◌+◌, ◌-◌, ◌<◌, ◌≤◌, List, [], ◌∷◌, length, take, drop, replicate, map, ◌++◌}
use Rattle.std.specs.Prelude.{Option, Some, None, slice_get, slice_range, option_and_then, refl}
use Rattle.std.proofs.Common.{zero, suc, arith, sym, ap, ◌∙◌, get_or, set, length-take, length-drop}
use Rattle.std.proofs.lemmas.List.{take-set-le, drop-set-lt, drop-set-add, drop-replicate, take-replicate}
use Rattle.std.proofs.lemmas.List.{length-replicate}
use Rattle.std.proofs.Math.Seq.{take-set-lt}
use Rattle.bn_circuits.specs.Rows.{entry, width, put, rows_at, AreStarts, starts_from}
use Rattle.bn_circuits.specs.declared.line.Line.{Line}

abbrev Cells : Type 0
Cells = List (Option Line)

slice_get-take : {X : Type 0} (n : ℕ) (xs : List X) (l : ℕ) → l < n → slice_get (take n xs) l ≡ slice_get xs l
slice_get-take zero xs l h = absurd (omega arith)
slice_get-take (suc n) [] l h = refl
slice_get-take (suc n) (x ∷ xs) zero h = refl
slice_get-take (suc n) (x ∷ xs) (suc l) h = slice_get-take n xs l (omega arith)

slice_get-drop : {X : Type 0} (a : ℕ) (xs : List X) (l m : ℕ) → m ≡ a + l → slice_get (drop a xs) l ≡ slice_get xs m
slice_get-drop zero xs l m e = let s : l ≡ m = omega arith in ap (slice_get xs) s
slice_get-drop (suc a) [] l m e = refl
slice_get-drop (suc a) (x ∷ xs) l zero e = absurd (omega arith)
slice_get-drop (suc a) (x ∷ xs) l (suc m) e = slice_get-drop a xs l m (omega arith)

slice_get-range : {X : Type 0} (xs : List X) (a b l : ℕ) → l < b - a
    → slice_get (slice_range xs a b) l ≡ slice_get xs (a + l)
slice_get-range xs a b l h = slice_get-take (b - a) (drop a xs) l h ∙ slice_get-drop a xs l (a + l) refl

range-set_in : {X : Type 0} (xs : List X) (a b l : ℕ) (v : X) → l < b - a
    → slice_range (set xs (a + l) v) a b ≡ set (slice_range xs a b) l v
range-set_in xs a b l v h = ap (take (b - a)) (drop-set-add a xs l v) ∙ take-set-lt (b - a) (drop a xs) l v h

range-set_above : {X : Type 0} (xs : List X) (a b k : ℕ) (v : X) → a ≤ b → b ≤ k
    → slice_range (set xs k v) a b ≡ slice_range xs a b
range-set_above xs a b k v h g =
    let e : k ≡ a + (k - a) = omega arith in
    ap (λ i. take (b - a) (drop a (set xs i v))) e ∙ ap (take (b - a)) (drop-set-add a xs (k - a) v)
    ∙ take-set-le (b - a) (drop a xs) (k - a) v (omega arith)

range-set_below : {X : Type 0} (xs : List X) (a b k : ℕ) (v : X) → k < a
    → slice_range (set xs k v) a b ≡ slice_range xs a b
range-set_below xs a b k v h = ap (take (b - a)) (drop-set-lt a xs k v h)

length-range : {X : Type 0} (xs : List X) (a b : ℕ) → a ≤ b → b ≤ length xs → length (slice_range xs a b) ≡ b - a
length-range xs a b h g = simp (length-take, length-drop) (omega arith)

-- the first start is at most the number of cells
first_le : (a n : ℕ) (starts : List ℕ) → AreStarts (a ∷ starts) n → a ≤ n
first_le a n [] are = omega arith
first_le a n (b ∷ starts) are = let rest = first_le b n starts are.1 in omega (arith, are.0)

-- a write below the first start changes no row
rows-set_below : (starts : List ℕ) (cells : Cells) (a k : ℕ) (v : Option Line) → AreStarts (a ∷ starts) (length cells)
    → k < a → rows_at (a ∷ starts) (set cells k v) ≡ rows_at (a ∷ starts) cells
rows-set_below [] cells a k v are h = refl
rows-set_below (b ∷ starts) cells a k v are h =
    let rest : rows_at (b ∷ starts) (set cells k v) ≡ rows_at (b ∷ starts) cells =
    rows-set_below starts cells b k v are.1 (omega (arith, are.0)) in
    rw (range-set_below cells a b k v h, rest) refl

-- the cell of a line: where it lies, and that it is read and written there
pub record IsCell (starts : List ℕ) (cells : Cells) (e l : ℕ) : Type 0 where
  pub last : e + 1 < length starts
  pub first : get_or starts 0 0 ≤ get_or starts e 0
  pub within : get_or starts e 0 + l < length cells
  pub reads : entry (rows_at starts cells) (record { element = e; line = l })
      ≡ option_and_then (λ cell. cell) (slice_get cells (get_or starts e 0 + l))
  pub writes : (to : Line) → rows_at starts (set cells (get_or starts e 0 + l) (Some to))
      ≡ put (rows_at starts cells) (record { element = e; line = l }) to

pub cell_of : (starts : List ℕ) (cells : Cells) → AreStarts starts (length cells) → (e l : ℕ)
    → l < width (rows_at starts cells) e → IsCell starts cells e l
cell_of [] cells are e l h = absurd are
cell_of (a ∷ []) cells are e l h = absurd (omega arith)
cell_of (a ∷ b ∷ starts) cells are zero l h =
    let last_start : b ≤ length cells = first_le b (length cells) starts are.1 in
    let up : a ≤ b = are.0 in
    let wide : length (slice_range cells a b) ≡ b - a = length-range cells a b up last_start in
    let here : l < b - a = omega arith in
    record {
      last = omega arith;
      first = omega arith;
      within = omega arith;
      reads = ap (λ o. option_and_then (λ cell. cell) o) (slice_get-range cells a b l here);
      writes = λ to. rw (
        range-set_in cells a b l (Some to) here,
        rows-set_below starts cells b (a + l) (Some to) are.1 (omega arith),
      ) refl;
    }
cell_of (a ∷ b ∷ starts) cells are (suc e) l h =
    let rest = cell_of (b ∷ starts) cells are.1 e l h in
    let up : a ≤ b = are.0 in
    let first : b ≤ get_or (b ∷ starts) e 0 = rest.first in
    let last : e + 1 < length (b ∷ starts) = rest.last in
    record {
      last = omega arith;
      first = omega arith;
      within = rest.within;
      reads = rest.reads;
      writes = λ to. rw (
        range-set_above cells a b (get_or (b ∷ starts) e 0 + l) (Some to) up (omega arith),
        rest.writes to,
      ) refl;
    }

-- where rows of these widths end, the first beginning at a
abbrev pub end_from : ℕ → List ℕ → ℕ
end_from a [] = a
end_from a (w ∷ widths) = end_from (a + w) widths

pub end_from-append : (a : ℕ) (widths : List ℕ) (w : ℕ) → end_from a (widths ++ w ∷ []) ≡ end_from a widths + w
end_from-append a [] w = refl
end_from-append a (v ∷ widths) w = end_from-append (a + v) widths w

end_from_le : (a : ℕ) (widths : List ℕ) → a ≤ end_from a widths
end_from_le a [] = omega arith
end_from_le a (w ∷ widths) = let rest = end_from_le (a + w) widths in omega arith

length-starts_from : (a : ℕ) (widths : List ℕ) → length (starts_from a widths) ≡ length widths + 1
length-starts_from a [] = refl
length-starts_from a (w ∷ widths) = let rest = length-starts_from (a + w) widths in omega arith

last-starts_from : (a : ℕ) (widths : List ℕ) (d : ℕ) → get_or (starts_from a widths) (length widths) d
    ≡ end_from a widths
last-starts_from a [] d = refl
last-starts_from a (w ∷ widths) d = last-starts_from (a + w) widths d

pub starts_from-append : (a : ℕ) (widths : List ℕ) (w : ℕ) → starts_from a (widths ++ w ∷ [])
    ≡ starts_from a widths ++ (end_from a widths + w) ∷ []
starts_from-append a [] w = refl
starts_from-append a (v ∷ widths) w = ap (λ xs. a ∷ xs) (starts_from-append (a + v) widths w)

pub AreStarts-starts_from : (a : ℕ) (widths : List ℕ) → AreStarts (starts_from a widths) (end_from a widths)
AreStarts-starts_from a [] = refl
AreStarts-starts_from a (w ∷ []) = (omega arith, refl)
AreStarts-starts_from a (w ∷ v ∷ widths) = (omega arith, AreStarts-starts_from (a + w) (v ∷ widths))

range-replicate : {X : Type 0} (a w n : ℕ) (x : X) → a + w ≤ n → slice_range (replicate n x) a (a + w) ≡ replicate w x
range-replicate a w n x h =
    let e : (a + w) - a ≡ w = omega arith in
    ap (λ m. take m (drop a (replicate n x))) e ∙ ap (take w) (drop-replicate a n x)
    ∙ take-replicate w (n - a) x (omega arith)

rows-replicate : (a : ℕ) (widths : List ℕ) (n : ℕ) → end_from a widths ≤ n
    → rows_at (starts_from a widths) (replicate n None) ≡ map (λ w. replicate w None) widths
rows-replicate a [] n h = refl
rows-replicate a (w ∷ []) n h = rw (range-replicate {X = Option Line} a w n None h) refl
rows-replicate a (w ∷ v ∷ widths) n h =
    let up : a + w ≤ n = let rest = end_from_le (a + w) (v ∷ widths) in omega arith in
    rw (range-replicate {X = Option Line} a w n None up, rows-replicate (a + w) (v ∷ widths) n h) refl

-- what is kept of rows of these widths whose cells are all empty
pub record AreEmptyRows (widths starts : List ℕ) (cells : Cells) : Type 0 where
  pub starts_are : AreStarts starts (length cells)
  pub rows_are : rows_at starts cells ≡ map (λ w. replicate w None) widths

pub empty_rows : (widths starts : List ℕ) (cells : Cells) (n : ℕ) → starts ≡ starts_from 0 widths
    → n ≡ get_or starts (length widths) n → cells ≡ replicate n None → AreEmptyRows widths starts cells
empty_rows widths starts cells n starts_is n_is cells_is =
    let total : n ≡ end_from 0 widths = n_is ∙ ap (λ xs. get_or xs (length widths) n) starts_is
    ∙ last-starts_from 0 widths n in
    let many : end_from 0 widths ≡ length cells = sym (ap length cells_is ∙ length-replicate {A = Option Line} n None
    ∙ total) in
    record {
      starts_are = rw (starts_is, ← many) (AreStarts-starts_from 0 widths);
      rows_are = rw (starts_is, cells_is) (rows-replicate 0 widths n (omega arith));
    }

pub empty_rows_end : (widths starts : List ℕ) → starts ≡ starts_from 0 widths → length widths < length starts
empty_rows_end widths starts is = let e = ap length is ∙ length-starts_from 0 widths in omega (arith, e)

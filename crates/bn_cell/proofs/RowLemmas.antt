-- The moves of a table, row by row: state by state, and in each by rising line.
use Rattle.std.proofs.Common.{◌≡◌, inl, inr, ℕ, zero, suc, ◌+◌, ◌<◌, ◌≤◌, List, [], ◌∷◌, ◌++◌, length, Option, Some}
use Rattle.std.proofs.Common.{None, refl, sym, ap, subst, ◌∙◌, arith, append_assoc, append-nil, length-append}
use Rattle.std.proofs.lemmas.Bool.{cases_lt}
use Rattle.bn_element.specs.Tables.{Table, IsReversible}
use Rattle.bn_rsm.specs.declared.rsm_move.RsmMove.{RsmMove}
use Rattle.bn_cell.specs.Rows.{move_at, row, rows}
use Rattle.bn_lists.specs.Lists.{Has}
use Rattle.bn_lists.proofs.MemberLemmas.{in_front, behind, of_two}
use Rattle.bn_rsm.proofs.ListingLemmas.{AreApart, apart_joined, AreMovesOf}

pub row_more : (t : Table) (q n : ℕ) → row t q (n + 1) ≡ row t q n ++ move_at q n (t.go q n)
row_more t q n = let e : n + 1 ≡ suc n = omega arith in rw e refl

module _ (t : Table) where
  -- what a move of the list says
  record IsFrom (q n : ℕ) (v : RsmMove) : Type 0 where
    state : v.state ≡ q
    line : v.line < n
    goes : t.go v.state v.line ≡ Some (v.next, v.out)

  -- a move of a row is one of the table
  row_only : (q n : ℕ) (v : RsmMove) → Has (row t q n) v → IsFrom q n v
  row_only q zero v h = absurd h
  row_only q (suc n) v h = elim (of_two (row t q n) (move_at q n (t.go q n)) v h) [
    | inl here ↦ let one = row_only q n v here in let low = one.line in record
        { state = one.state; line = omega arith; goes = one.goes }
    | inr there ↦ last (t.go q n) refl there
  ]
    where
      last : (o : Option (ℕ × ℕ)) → t.go q n ≡ o → Has (move_at q n o) v → IsFrom q (suc n) v
      last None e h = absurd h
      last (Some m) e (inr h) = absurd h
      last (Some m) e (inl is) = let w : RsmMove = record { state = q; line = n; next = m.0; out = m.1 } in
          let low : n < suc n = omega arith in
          subst (λ v. IsFrom q (suc n) v) (sym is) (record { state = refl; line = low; goes = e })

  -- the table's moves from a state are in its row
  row_each : (q n i r o : ℕ) → i < n → t.go q i ≡ Some (r, o)
      → Has (row t q n) (record { state = q; line = i; next = r; out = o })
  row_each q zero i r o low e = absurd (omega arith)
  row_each q (suc n) i r o low e = elim (cases_lt i n) [
    | inl before ↦ in_front (row t q n) (move_at q n (t.go q n)) (record { state = q; line = i; next = r; out = o })
        (row_each q n i r o before e)
    | inr not ↦ (let same : i ≡ n = omega arith in behind (row t q n) (move_at q n (t.go q n))
        (record { state = q; line = i; next = r; out = o }) (rw (← same, e) (inl refl)))
  ]

  row_apart : (q n : ℕ) → AreApart (row t q n)
  row_apart q zero = tt
  row_apart q (suc n) = apart_joined (row t q n) (move_at q n (t.go q n)) (row_apart q n) (single (t.go q n))
      (λ v w h k. far (t.go q n) v w h k)
    where
      single : (o : Option (ℕ × ℕ)) → AreApart (move_at q n o)
      single None = tt
      single (Some m) = (λ v h. absurd h, tt)

      far : (o : Option (ℕ × ℕ)) (v w : RsmMove) → Has (row t q n) v → Has (move_at q n o) w → v.state ≡ w.state
          → v.line ≡ w.line → ⊥
      far None v w h k a b = k
      far (Some m) v w h (inr k) a b = k
      far (Some m) v w h (inl is) a b = let low = (row_only q n v h).line in let at : w.line ≡ n =
          ap (λ (x : RsmMove). x.line) is in omega arith

  -- what a move of the rows says
  record IsAbove (n : ℕ) (v : RsmMove) : Type 0 where
    state : v.state < n
    goes : t.go v.state v.line ≡ Some (v.next, v.out)

  rows_only : (n : ℕ) (v : RsmMove) → Has (rows t n) v → IsAbove n v
  rows_only zero v h = absurd h
  rows_only (suc n) v h = elim (of_two (rows t n) (row t n t.inputs) v h) [
    | inl here ↦ let one = rows_only n v here in let low = one.state in record { state = omega arith; goes = one.goes }
    | inr there ↦ let one = row_only n t.inputs v there in let at =
        one.state in record { state = omega arith; goes = one.goes }
  ]

  rows_each : (n q i r o : ℕ) → q < n → i < t.inputs → t.go q i ≡ Some (r, o)
      → Has (rows t n) (record { state = q; line = i; next = r; out = o })
  rows_each zero q i r o low line e = absurd (omega arith)
  rows_each (suc n) q i r o low line e = elim (cases_lt q n) [
    | inl before ↦ in_front (rows t n) (row t n t.inputs) (record { state = q; line = i; next = r; out = o })
        (rows_each n q i r o before line e)
    | inr not ↦ (let same : n ≡ q = omega arith in behind (rows t n) (row t n t.inputs)
        (record { state = q; line = i; next = r; out = o }) (rw same (row_each q t.inputs i r o line e)))
  ]

  rows_apart : (n : ℕ) → AreApart (rows t n)
  rows_apart zero = tt
  rows_apart (suc n) = apart_joined (rows t n) (row t n t.inputs) (rows_apart n) (row_apart n t.inputs) far
    where
      far : (v w : RsmMove) → Has (rows t n) v → Has (row t n t.inputs) w → v.state ≡ w.state → v.line ≡ w.line → ⊥
      far v w h k a b = let low = (rows_only n v h).state in let at = (row_only n t.inputs w k).state in omega arith

  -- the rows of all states are the moves of the table
  pub rows_moves : IsReversible t → AreMovesOf t (rows t t.states)
  rows_moves is = record {
    apart = rows_apart t.states;
    each = λ q i r o e. let there = is.departs q i r o e in rows_each t.states q i r o there.0 there.1 e;
    only = λ v h. (rows_only t.states v h).goes;
  }

  -- ---- how many there are

  abbrev pub one_if_some : Option (ℕ × ℕ) → ℕ
  one_if_some None = 0
  one_if_some (Some m) = 1

  -- of the first n lines so many have a move
  abbrev pub count : ℕ → ℕ → ℕ
  count q zero = 0
  count q (suc n) = count q n + one_if_some (t.go q n)

  one_move : (q i : ℕ) (o : Option (ℕ × ℕ)) → length (move_at q i o) ≡ one_if_some o
  one_move q i None = refl
  one_move q i (Some m) = refl

  pub row_length : (q n : ℕ) → length (row t q n) ≡ count q n
  row_length q zero = refl
  row_length q (suc n) = let rest = row_length q n in let one =
      one_move q n (t.go q n) in omega (arith, length-append (row t q n) (move_at q n (t.go q n)))

  -- n lines from line a on have a move, or none
  pub count_all : (q a n b : ℕ) → b ≡ a + n → ((i : ℕ) → a ≤ i → i < b → one_if_some (t.go q i) ≡ 1)
      → count q b ≡ count q a + n
  count_all q a zero b e all = let same : b ≡ a = omega arith in rw same (omega arith)
  count_all q a (suc n) b e all =
      let more : b ≡ suc (a + n) = omega arith in
      let rest = count_all q a n (a + n) refl (λ i low high. all i low (omega arith)) in
      let one = all (a + n) (omega arith) (omega arith) in
      rw more (omega arith)

  pub count_none : (q a n b : ℕ) → b ≡ a + n → ((i : ℕ) → a ≤ i → i < b → one_if_some (t.go q i) ≡ 0)
      → count q b ≡ count q a
  count_none q a zero b e all = let same : b ≡ a = omega arith in rw same refl
  count_none q a (suc n) b e all =
      let more : b ≡ suc (a + n) = omega arith in
      let rest = count_none q a n (a + n) refl (λ i low high. all i low (omega arith)) in
      let one = all (a + n) (omega arith) (omega arith) in
      rw more (omega arith)

-- one line more in a row that is listed behind other moves
pub row_some : (t : Table) (q n r o : ℕ) (ms xs ys : List RsmMove) → xs ≡ ms ++ row t q n → t.go q n ≡ Some (r, o)
    → ys ≡ xs ++ (record { state = q; line = n; next = r; out = o }) ∷ [] → ys ≡ ms ++ row t q (n + 1)
row_some t q n r o ms xs ys so_far goes more =
    let one : row t q (n + 1) ≡ row t q n ++ (record { state = q; line = n; next = r; out = o }) ∷ [] =
    row_more t q n ∙ ap (λ v. row t q n ++ move_at q n v) goes in
    more ∙ ap (λ l. l ++ (record { state = q; line = n; next = r; out = o }) ∷ []) so_far
    ∙ append_assoc ms (row t q n) ((record { state = q; line = n; next = r; out = o }) ∷ [])
    ∙ ap (λ l. ms ++ l) (sym one)

pub row_none : (t : Table) (q n : ℕ) (ms xs : List RsmMove) → xs ≡ ms ++ row t q n → t.go q n ≡ None
    → xs ≡ ms ++ row t q (n + 1)
row_none t q n ms xs so_far goes =
    let one : row t q (n + 1) ≡ row t q n = row_more t q n ∙ ap (λ v. row t q n ++ move_at q n v) goes
    ∙ append-nil (row t q n) in
    so_far ∙ ap (λ l. ms ++ l) (sym one)

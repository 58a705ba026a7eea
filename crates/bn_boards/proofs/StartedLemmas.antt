-- The bars of a board whose modules are in some states: each bank rests in its module's state.
use Rattle.std.specs.Prelude.{◌≡◌, ℕ, ◌+◌, ◌*◌, ◌<◌, ◌≤◌, List, [], ◌∷◌, ◌++◌, length, replicate, Some, slice_get, refl}
use Rattle.std.proofs.Common.{zero, suc, arith, sym, ap, subst, ◌∙◌}
use Rattle.std.proofs.lemmas.List.{length-replicate, length-set, length-append}
use Rattle.bn_element.specs.Tables.{Table}
use Rattle.bn_element.specs.Rotary.{horizontal, vertical}
use Rattle.bn_realise.specs.Banks.{column_at, bottom_at, IsResting}
use Rattle.bn_realise.proofs.StartLemmas.{resting, resting-IsResting}
use Rattle.bn_realise.proofs.BankCrossingLemmas.{later_column}
use Rattle.bn_boards.specs.Boards.{base, size, size_of, bars_of}

-- an element of two lists, one after the other
pub get_left : {X : Type 0} (xs ys : List X) (i : ℕ) → i < length xs → slice_get (xs ++ ys) i ≡ slice_get xs i
get_left [] ys i low = absurd (omega arith)
get_left (x ∷ xs) ys zero low = refl
get_left (x ∷ xs) ys (suc i) low = get_left xs ys i (omega arith)

-- and of the second one
pub get_right : {X : Type 0} (xs ys : List X) (i e : ℕ) → e ≡ length xs + i → slice_get (xs ++ ys) e ≡ slice_get ys i
get_right [] ys i e same = let is : e ≡ i = omega arith in ap (slice_get ys) is
get_right (x ∷ xs) ys i zero same = absurd (omega arith)
get_right (x ∷ xs) ys i (suc e) same = get_right xs ys i e (omega arith)

-- the bars of a bank at rest are as many as its elements
pub resting-length : (n k q : ℕ) → length (resting n k q) ≡ n * (k + 1)
resting-length n k q = length-set (replicate (n * (k + 1)) vertical) (bottom_at 0 k q) horizontal
    ∙ length-replicate (n * (k + 1)) vertical

-- a bank rests wherever it stands
rests_at : (old new : List ℕ) (a b n k q : ℕ) → ((x : ℕ) → x < n * (k + 1)
    → slice_get new (b + x) ≡ slice_get old (a + x)) → IsResting old a n k (Some q)
    → IsResting new b n k (Some q)
rests_at old new a b n k q same rests = record {
  columns = λ j there. record {
    rows = λ r row. moved j r there (omega arith) ∙ (rests.columns j there).rows r row;
    bottom = moved j k there (omega arith) ∙ (rests.columns j there).bottom;
  };
}
  where
    moved : (j r : ℕ) → j < n → r ≤ k → slice_get new (column_at b k j + r) ≡ slice_get old (column_at a k j + r)
    moved j r there row =
        let last = later_column 0 k j n there in
        let h = same (j * (k + 1) + r) (omega arith) in
        let left : column_at b k j + r ≡ b + (j * (k + 1) + r) = omega arith in
        let right : a + (j * (k + 1) + r) ≡ column_at a k j + r = omega arith in
        ap (slice_get new) left ∙ h ∙ ap (slice_get old) right

-- there is a bar for each of the board's elements
pub bars-length : (ts : List Table) (qs : List ℕ) → length qs ≡ length ts → length (bars_of ts qs) ≡ size ts
bars-length [] qs h = refl
bars-length (t ∷ ts) [] h = absurd (omega arith)
bars-length (t ∷ ts) (q ∷ qs) h =
    let rest = bars-length ts qs (omega arith) in
    let here = resting-length t.states t.inputs q in
    let both = length-append (resting t.states t.inputs q) (bars_of ts qs) in
    omega arith

-- each bank rests in its module's state
pub bars-rest : (ts : List Table) (qs : List ℕ) (m : ℕ) (t : Table) (q : ℕ) → length qs ≡ length ts
    → slice_get ts m ≡ Some t → slice_get qs m ≡ Some q
    → q < t.states → IsResting (bars_of ts qs) (base ts m) t.states t.inputs (Some q)
bars-rest [] qs m t q h has at_q low = absurd (cc)
bars-rest (u ∷ ts) [] m t q h has at_q low = absurd (cc)
bars-rest (u ∷ ts) (r ∷ qs) zero t q h has at_q low =
    let tables : u ≡ t = cc in
    let states : r ≡ q = cc in
    let here = resting-IsResting t.states t.inputs q low in
    let there : IsResting (resting u.states u.inputs r) 0 t.states t.inputs (Some q) =
    subst (λ (v : Table). IsResting (resting v.states v.inputs r) 0 t.states t.inputs (Some q)) (sym tables)
    (subst (λ x. IsResting (resting t.states t.inputs x) 0 t.states t.inputs (Some q)) (sym states) here) in
    let sizes : u.states * (u.inputs + 1) ≡ t.states * (t.inputs + 1) = ap size_of tables in
    let count = resting-length u.states u.inputs r in
    rests_at (resting u.states u.inputs r) (bars_of (u ∷ ts) (r ∷ qs)) 0 0 t.states t.inputs q
    (λ x within. get_left (resting u.states u.inputs r) (bars_of ts qs) (0 + x) (omega arith)) there
bars-rest (u ∷ ts) (r ∷ qs) (suc m) t q h has at_q low =
    let rest = bars-rest ts qs m t q (omega arith) has at_q low in
    let count = resting-length u.states u.inputs r in
    rests_at (bars_of ts qs) (bars_of (u ∷ ts) (r ∷ qs)) (base ts m) (size_of u + base ts m) t.states t.inputs q
    (λ x within. get_right (resting u.states u.inputs r) (bars_of ts qs) (base ts m + x) (size_of u + base ts m + x)
    (omega arith)) rest

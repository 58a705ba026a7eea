-- Lists that are copied item by item, and bars that are written bank by bank.
use Rattle.std.specs.Prelude.{◌≡◌, ℕ, ◌+◌, List, [], ◌∷◌, ◌++◌, length, replicate, take, Some, slice_get, slice_set}
use Rattle.std.specs.Prelude.{refl}
use Rattle.std.proofs.Common.{zero, suc, arith, sym, ap, ◌∙◌, append-nil, append_assoc}
use Rattle.bn_element.specs.Tables.{Table}
use Rattle.bn_element.specs.Rotary.{horizontal, vertical}
use Rattle.bn_realise.specs.Banks.{bottom_at}
use Rattle.bn_boards.specs.Boards.{bars_of, size_of}

-- one item more
pub take_next : {X : Type 0} (xs : List X) (n : ℕ) (x : X) → slice_get xs n ≡ Some x
    → take (n + 1) xs ≡ take n xs ++ x ∷ []
take_next [] n x has = absurd (cc)
take_next (y ∷ xs) zero x has = let same : y ≡ x = cc in ap (λ z. z ∷ []) same
take_next (y ∷ xs) (suc n) x has = let e : suc n + 1 ≡ suc (n + 1) =
    omega arith in ap (λ k. take k (y ∷ xs)) e ∙ ap (λ zs. y ∷ zs) (take_next xs n x has)

-- all items
pub take_whole : {X : Type 0} (xs : List X) → take (length xs) xs ≡ xs
take_whole [] = refl
take_whole (x ∷ xs) = ap (λ zs. x ∷ zs) (take_whole xs)

pub copy_more : {X : Type 0} (xs ys zs : List X) (n : ℕ) (x : X) → ys ≡ take n xs → slice_get xs n ≡ Some x
    → zs ≡ ys ++ x ∷ [] → zs ≡ take (n + 1) xs
copy_more xs ys zs n x so has more = more ∙ ap (λ ws. ws ++ x ∷ []) so ∙ sym (take_next xs n x has)

pub copied : {X : Type 0} (xs ys : List X) (n : ℕ) → ys ≡ take n xs → n ≡ length xs → ys ≡ xs
copied xs ys n so all = so ∙ ap (λ k. take k xs) all ∙ take_whole xs

-- the bars of one bank
abbrev pub bank_bars : Table → ℕ → List ℕ
bank_bars t q = slice_set (replicate (size_of t) vertical) (bottom_at 0 t.inputs q) horizontal

-- those of one bank more
pub bars_next : (ts : List Table) (qs : List ℕ) (m q : ℕ) (t : Table) → slice_get ts m ≡ Some t
    → slice_get qs m ≡ Some q
    → bars_of (take (m + 1) ts) (take (m + 1) qs) ≡ bars_of (take m ts) (take m qs) ++ bank_bars t q
bars_next [] qs m q t has at_q = absurd (cc)
bars_next (u ∷ ts) [] m q t has at_q = absurd (cc)
bars_next (u ∷ ts) (r ∷ qs) zero q t has at_q =
    let tables : u ≡ t = cc in
    let states : r ≡ q = cc in
    append-nil (bank_bars u r) ∙ (λ i. bank_bars (tables i) (states i))
bars_next (u ∷ ts) (r ∷ qs) (suc m) q t has at_q =
    let e : suc m + 1 ≡ suc (m + 1) = omega arith in
    ap (λ k. bars_of (take k (u ∷ ts)) (take k (r ∷ qs))) e ∙ ap (λ bs. bank_bars u r ++ bs)
    (bars_next ts qs m q t has at_q) ∙ sym (append_assoc
    (bank_bars u r) (bars_of (take m ts) (take m qs)) (bank_bars t q))

pub bars_more : (ts : List Table) (qs old new : List ℕ) (m q : ℕ) (t : Table) → slice_get ts m ≡ Some t
    → slice_get qs m ≡ Some q
    → old ≡ bars_of (take m ts) (take m qs) → new ≡ old ++ bank_bars t q
    → new ≡ bars_of (take (m + 1) ts) (take (m + 1) qs)
bars_more ts qs old new m q t has at_q so more = more ∙ ap (λ bs. bs ++ bank_bars t q) so
    ∙ sym (bars_next ts qs m q t has at_q)

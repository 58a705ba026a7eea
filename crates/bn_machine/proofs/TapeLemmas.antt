-- Tapes without ends (Bennett 1973): a symbol at each whole number, almost all of them the blank 0, and a head.
use Rattle.std.specs.Prelude.{◌≡◌, ◌≢◌, ℕ, suc, ◌<◌, Bool, true, false, cond, ℤ, pos, negsuc, ◌+ℤ◌, ◌<ℤ◌, List, [], ◌∷◌}
use Rattle.std.specs.Prelude.{◌++◌, length, Option, Some, None}
use Rattle.std.specs.Ordering.{int_cmp, int_eq}
use Rattle.std.specs.Cmp.{int_cmp_total}
use Rattle.std.specs.FinMap.{empty, get, get-empty, get-insert, get-remove, same_map, int_cmp-IsAntisymmetric}
use Rattle.std.proofs.Common.{refl, sym, ap, ◌∙◌, subst, arith, zero, get_or, set, replicate, true≢false}
use Rattle.std.proofs.lemmas.Int.{ints}
use Rattle.std.proofs.lemmas.Bool.Decides.{Decides-int_eq}
use Rattle.bn_machine.specs.declared.quint.Shift.{Shift}
use Rattle.bn_machine.specs.declared.quint.Shift.TheVariants.{Left, Stay, Right}
use Rattle.bn_machine.specs.Tape.{Cells, Tape, symbol_of, symbol_at, set_cell, cell, scanned, write, moved, opposite}
use Rattle.bn_machine.specs.Tape.{shift, ahead, cells_from, word_tape, letter_at}

symbol_of-cond : (b : Bool) (o r : Option ℕ) → symbol_of (cond b o r) ≡ cond b (symbol_of o) (symbol_of r)
symbol_of-cond true o r = refl
symbol_of-cond false o r = refl

pub symbol_at-set_cell : (m : Cells) (p : ℤ) (s : ℕ) (q : ℤ)
    → symbol_at (set_cell m p s) q ≡ cond (int_eq q p) s (symbol_at m q)
unfolding symbol_at set_cell
symbol_at-set_cell m p zero q = ap symbol_of (get-remove int_cmp_total m p q)
    ∙ symbol_of-cond (int_eq q p) None (get m q)
symbol_at-set_cell m p (suc v) q = ap symbol_of (get-insert int_cmp_total m p v q)
    ∙ symbol_of-cond (int_eq q p) (Some v) (get m q)

if_same : (p q : ℤ) (a b : ℕ) → q ≡ p → cond (int_eq q p) a b ≡ a
if_same p q a b e = ap (λ t. cond t a b) ((Decides-int_eq q p).1 e)

if_other : (t : Bool) (p q : ℤ) (a b : ℕ) → int_eq q p ≡ t → q ≢ p → cond t a b ≡ b
if_other true p q a b e n = absurd (n ((Decides-int_eq q p).0 e))
if_other false p q a b e n = refl

pub at_set_cell : (m : Cells) (p : ℤ) (s : ℕ) → symbol_at (set_cell m p s) p ≡ s
at_set_cell m p s = symbol_at-set_cell m p s p ∙ if_same p p s _ refl

pub beside_set_cell : (m : Cells) (p : ℤ) (s : ℕ) (q : ℤ) → q ≢ p → symbol_at (set_cell m p s) q ≡ symbol_at m q
beside_set_cell m p s q n = symbol_at-set_cell m p s q ∙ if_other _ p q s _ refl n

symbols_apart : (o r : Option ℕ) → symbol_of o ≡ symbol_of r → o ≡ r
symbols_apart None None e = refl
symbols_apart None (Some v) e = absurd (cc)
symbols_apart (Some v) None e = absurd (cc)
symbols_apart (Some v) (Some w) e = cc

-- contents with the same symbols are the same
pub same_cells : (m n : Cells) → ((q : ℤ) → symbol_at m q ≡ symbol_at n q) → m ≡ n
unfolding symbol_at
same_cells m n h = same_map int_cmp_total int_cmp-IsAntisymmetric m n (λ q. symbols_apart (get m q) (get n q) (h q))

if_tested : (t : Bool) (p q : ℤ) (m n : Cells) → int_eq q p ≡ t → (q ≡ p → symbol_at m q ≡ symbol_at n q)
    → (q ≢ p → symbol_at m q ≡ symbol_at n q) → symbol_at m q ≡ symbol_at n q
if_tested true p q m n e here there = here ((Decides-int_eq q p).0 e)
if_tested false p q m n e here there = there (λ s. true≢false (sym ((Decides-int_eq q p).1 s) ∙ e))

-- contents that agree at one position and at all others are the same
pub same_beside : (m n : Cells) (p : ℤ) → symbol_at m p ≡ symbol_at n p
    → ((q : ℤ) → q ≢ p → symbol_at m q ≡ symbol_at n q) → m ≡ n
same_beside m n p here there =
    same_cells m n (λ q. if_tested _ p q m n refl (λ e. subst (λ w. symbol_at m w ≡ symbol_at n w) (sym e) here)
    (there q))

-- the later of two symbols stays
pub set_cell-set_cell : (m : Cells) (p : ℤ) (a b : ℕ) → set_cell (set_cell m p a) p b ≡ set_cell m p b
set_cell-set_cell m p a b =
    same_beside _ _ p (at_set_cell _ p b ∙ sym (at_set_cell m p b))
    (λ q n. beside_set_cell _ p b q n ∙ beside_set_cell m p a q n ∙ sym (beside_set_cell m p b q n))

-- the symbol that stands there already changes nothing
pub set_cell-same : (m : Cells) (p : ℤ) (s : ℕ) → symbol_at m p ≡ s → set_cell m p s ≡ m
set_cell-same m p s e = same_beside _ _ p (at_set_cell m p s ∙ sym e) (λ q n. beside_set_cell m p s q n)

swapped_here : (m : Cells) (p r : ℤ) (a b : ℕ) → p ≢ r → symbol_at (set_cell (set_cell m p a) r b) p
    ≡ symbol_at (set_cell (set_cell m r b) p a) p
swapped_here m p r a b apart = beside_set_cell (set_cell m p a) r b p apart ∙ at_set_cell m p a
    ∙ sym (at_set_cell (set_cell m r b) p a)

swapped_there : (m : Cells) (p r : ℤ) (a b : ℕ) (q : ℤ) → q ≢ p
    → symbol_at (set_cell (set_cell m p a) r b) q ≡ symbol_at (set_cell (set_cell m r b) p a) q
swapped_there m p r a b q n =
    symbol_at-set_cell (set_cell m p a) r b q
    ∙ ap (cond (int_eq q r) b) (beside_set_cell m p a q n)
    ∙ sym (beside_set_cell (set_cell m r b) p a q n ∙ symbol_at-set_cell m r b q)

-- two symbols at two positions, in either order
pub set_cell-swap : (m : Cells) (p r : ℤ) (a b : ℕ) → p ≢ r → set_cell (set_cell m p a) r b
    ≡ set_cell (set_cell m r b) p a
set_cell-swap m p r a b apart = same_beside _ _ p (swapped_here m p r a b apart) (λ q n. swapped_there m p r a b q n)

pub symbol_at-empty : (q : ℤ) → symbol_at empty q ≡ 0
unfolding symbol_at
symbol_at-empty q = ap symbol_of (get-empty int_cmp q)

pub symbol_at-before : (ss : List ℕ) (p q : ℤ) → q <ℤ p → symbol_at (cells_from p ss) q ≡ 0
unfolding cells_from
symbol_at-before [] p q h = symbol_at-empty q
symbol_at-before (s ∷ ss) p q h =
    let apart : q ≢ p = omega (arith, ints) in
    let later : q <ℤ (p +ℤ pos 1) = omega (arith, ints) in
    beside_set_cell (cells_from (p +ℤ pos 1) ss) p s q apart ∙ symbol_at-before ss (p +ℤ pos 1) q later

pub symbol_at-cells_from : (ss : List ℕ) (p : ℤ) (k : ℕ) (q : ℤ) → q ≡ p +ℤ pos k
    → symbol_at (cells_from p ss) q ≡ get_or ss k 0
unfolding cells_from
symbol_at-cells_from [] p k q e = symbol_at-empty q
symbol_at-cells_from (s ∷ ss) p zero q e =
    let same : q ≡ p = omega (arith, ints) in
    subst (λ w. symbol_at (set_cell (cells_from (p +ℤ pos 1) ss) p s) w ≡ s) (sym same)
    (at_set_cell (cells_from (p +ℤ pos 1) ss) p s)
symbol_at-cells_from (s ∷ ss) p (suc k) q e =
    let apart : q ≢ p = omega (arith, ints) in
    let next : q ≡ (p +ℤ pos 1) +ℤ pos k = omega (arith, ints) in
    beside_set_cell (cells_from (p +ℤ pos 1) ss) p s q apart ∙ symbol_at-cells_from ss (p +ℤ pos 1) k q next

-- what a word tape holds
pub cell-word : (xs : List ℕ) (q : ℤ) → cell (word_tape xs) q ≡ letter_at xs q
cell-word xs (pos zero) = let early : pos 0 <ℤ pos 1 = omega (arith, ints) in symbol_at-before xs (pos 1) (pos 0) early
cell-word xs (pos (suc k)) = let there : pos (suc k) ≡ pos 1 +ℤ pos k =
    omega (arith, ints) in symbol_at-cells_from xs (pos 1) k (pos (suc k)) there
cell-word xs (negsuc k) = let early : negsuc k <ℤ pos 1 = omega (arith, ints) in symbol_at-before xs (pos 1) (negsuc k)
    early

-- blanks before and after the symbols change nothing
pub cells_from-blanks : (n : ℕ) (p : ℤ) (ss : List ℕ) (r : ℤ) → r ≡ p +ℤ pos n
    → cells_from p (replicate n 0 ++ ss) ≡ cells_from r ss
unfolding cells_from
cells_from-blanks zero p ss r e = let same : p ≡ r = omega (arith, ints) in ap (λ w. cells_from w ss) same
cells_from-blanks (suc n) p ss r e =
    let next : r ≡ (p +ℤ pos 1) +ℤ pos n = omega (arith, ints) in
    let early : p <ℤ r = omega (arith, ints) in
    ap (λ m. set_cell m p 0) (cells_from-blanks n (p +ℤ pos 1) ss r next)
    ∙ set_cell-same (cells_from r ss) p 0 (symbol_at-before ss r p early)

set_blank : (p : ℤ) → set_cell empty p 0 ≡ empty
set_blank p = set_cell-same empty p 0 (symbol_at-empty p)

pub cells_from-trailing : (ss : List ℕ) (p : ℤ) (n : ℕ) → cells_from p (ss ++ replicate n 0) ≡ cells_from p ss
unfolding cells_from
cells_from-trailing [] p zero = refl
cells_from-trailing [] p (suc n) = ap (λ m. set_cell m p 0) (cells_from-trailing [] (p +ℤ pos 1) n) ∙ set_blank p
cells_from-trailing (s ∷ ss) p n = ap (λ m. set_cell m p s) (cells_from-trailing ss (p +ℤ pos 1) n)

-- a symbol put into the list is that symbol put at its position
pub cells_from-set : (ss : List ℕ) (p : ℤ) (k : ℕ) (s : ℕ) (q : ℤ) → k < length ss → q ≡ p +ℤ pos k
    → cells_from p (set ss k s) ≡ set_cell (cells_from p ss) q s
unfolding cells_from
cells_from-set [] p k s q h e = absurd (omega arith)
cells_from-set (x ∷ ss) p zero s q h e =
    let same : p ≡ q = omega (arith, ints) in
    sym (set_cell-set_cell (cells_from (p +ℤ pos 1) ss) p x s)
    ∙ ap (λ w. set_cell (set_cell (cells_from (p +ℤ pos 1) ss) p x) w s) same
cells_from-set (x ∷ ss) p (suc k) s q h e =
    let inside : k < length ss = omega arith in
    let next : q ≡ (p +ℤ pos 1) +ℤ pos k = omega (arith, ints) in
    let apart : q ≢ p = omega (arith, ints) in
    ap (λ m. set_cell m p x) (cells_from-set ss (p +ℤ pos 1) k s q inside next)
    ∙ set_cell-swap (cells_from (p +ℤ pos 1) ss) q p s x apart

same_parts : (t u : Tape) → t.cells ≡ u.cells → t.head ≡ u.head → t ≡ u
same_parts t u cells heads = λ i. record { cells = cells i; head = heads i }

-- two tapes with the same symbols and the same head are the same tape
pub same_tape : (t u : Tape) → ((q : ℤ) → cell t q ≡ cell u q) → t.head ≡ u.head → t ≡ u
same_tape t u symbols heads = same_parts t u (same_cells t.cells u.cells symbols) heads

pub scanned-write : (t : Tape) (s : ℕ) → scanned (write t s) ≡ s
scanned-write t s = at_set_cell t.cells t.head s

pub cell-write : (t : Tape) (s : ℕ) (q : ℤ) → cell (write t s) q ≡ cond (int_eq q t.head) s (cell t q)
cell-write t s q = symbol_at-set_cell t.cells t.head s q

pub cell-write_beside : (t : Tape) (s : ℕ) (q : ℤ) → q ≢ t.head → cell (write t s) q ≡ cell t q
cell-write_beside t s q n = beside_set_cell t.cells t.head s q n

pub write-write : (t : Tape) (a b : ℕ) → write (write t a) b ≡ write t b
write-write t a b = same_parts _ _ (set_cell-set_cell t.cells t.head a b) refl

pub write-scanned : (t : Tape) (s : ℕ) → scanned t ≡ s → write t s ≡ t
write-scanned t s e = same_parts _ _ (set_cell-same t.cells t.head s e) refl

-- to write, and then to write again what stood there, changes nothing
pub write-back : (t : Tape) (s r : ℕ) → scanned t ≡ r → write (write t s) r ≡ t
write-back t s r e = write-write t s r ∙ write-scanned t r e

pub moved-back : (p : ℤ) (s : Shift) → moved (moved p s) (opposite s) ≡ p
moved-back p Left = omega (arith, ints)
moved-back p Stay = refl
moved-back p Right = omega (arith, ints)

pub opposite-opposite : (s : Shift) → opposite (opposite s) ≡ s
opposite-opposite Left = refl
opposite-opposite Stay = refl
opposite-opposite Right = refl

pub shift-back : (t : Tape) (s : Shift) → shift (shift t s) (opposite s) ≡ t
shift-back t s = same_parts _ _ refl (moved-back t.head s)

pub scanned-ahead : (xs : List ℕ) (k : ℕ) → scanned (ahead (suc k) (word_tape xs)) ≡ get_or xs k 0
scanned-ahead xs k = let there : pos 0 +ℤ pos (suc k) ≡ pos 1 +ℤ pos k =
    omega (arith, ints) in symbol_at-cells_from xs (pos 1) k (pos 0 +ℤ pos (suc k)) there

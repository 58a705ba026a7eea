-- Where a command is no state's first.
use Rattle.std.proofs.Common.{◌≡◌, ◌≢◌, ℕ, suc, ◌<◌, ◌≤◌, List, [], ◌∷◌, ◌++◌, Some, refl, ap, ◌∙◌, arith}
use Rattle.bn_lists.specs.Lists.{nth}
use Rattle.bn_machine.specs.declared.quint.Shift.TheVariants as way
use Rattle.bn_machine.specs.declared.quint.Side.{Side}
use Rattle.bn_machine.specs.declared.quint.Side.TheVariants as side
use Rattle.bn_quad.specs.Quadruples.{Deed, Rewrite, Move, Quadruples, Rule}
use Rattle.bn_network.specs.Controls.{ControlMove, IsEntry, IsFirstOf, finishes, leaves, waits, symbols_read, Reads}
use Rattle.bn_network.specs.Controls.{Shifts, Writes, ControlState, shifts, reads_of, shifts_of}

-- no shifted tape of the list is before its first tape
pub above : (xs : List Deed) (t : ℕ) (l r : List (ℕ × Side)) (p : ℕ × Side) → shifts t xs ≡ l ++ (p ∷ r) → t ≤ p.0
above [] t [] r p e = cc
above [] t (b ∷ l) r p e = cc
above (Rewrite a w ∷ xs) t l r p e = let more = above xs (suc t) l r p e in omega arith
above (Move way.Stay ∷ xs) t l r p e = let more = above xs (suc t) l r p e in omega arith
above (Move way.Left ∷ xs) t [] r p e = let same : (t, side.Left) ≡ p = cc in let first =
    ap (λ (q : ℕ × Side). q.0) same in omega arith
above (Move way.Right ∷ xs) t [] r p e = let same : (t, side.Right) ≡ p = cc in let first =
    ap (λ (q : ℕ × Side). q.0) same in omega arith
above (Move way.Left ∷ xs) t (b ∷ l) r p e = let rest : shifts (suc t) xs ≡ l ++ (p ∷ r) = cc in let more =
    above xs (suc t) l r p rest in omega arith
above (Move way.Right ∷ xs) t (b ∷ l) r p e = let rest : shifts (suc t) xs ≡ l ++ (p ∷ r) = cc in let more =
    above xs (suc t) l r p rest in omega arith

-- the shifted tapes rise
pub ascending : (xs : List Deed) (t : ℕ) (b p : ℕ × Side) (l r : List (ℕ × Side)) → shifts t xs ≡ b ∷ (l ++ (p ∷ r))
    → b.0 < p.0
ascending [] t b p l r e = cc
ascending (Rewrite a w ∷ xs) t b p l r e = ascending xs (suc t) b p l r e
ascending (Move way.Stay ∷ xs) t b p l r e = ascending xs (suc t) b p l r e
ascending (Move way.Left ∷ xs) t b p l r e =
    let same : (t, side.Left) ≡ b = cc in
    let first = ap (λ (q : ℕ × Side). q.0) same in
    let rest : shifts (suc t) xs ≡ l ++ (p ∷ r) = cc in
    let more = above xs (suc t) l r p rest in
    omega arith
ascending (Move way.Right ∷ xs) t b p l r e =
    let same : (t, side.Right) ≡ b = cc in
    let first = ap (λ (q : ℕ × Side). q.0) same in
    let rest : shifts (suc t) xs ≡ l ++ (p ∷ r) = cc in
    let more = above xs (suc t) l r p rest in
    omega arith

-- what was read is not nothing
some_symbols : (l : List (ℕ × ℕ)) (p : ℕ × ℕ) → symbols_read (l ++ (p ∷ [])) ≢ []
some_symbols [] p e = cc
some_symbols (b ∷ l) p e = cc

-- no state's first command waits in this state
abbrev pub IsMiddle : Quadruples → ControlState → Type 0
IsMiddle m q = (a : ℕ) (k : ControlMove) → IsEntry m a k → k.0 ≡ q → ⊥

module _ (m : Quadruples) where
  -- a read after others is no state's first
  pub no_read : (b : ℕ) (l : List (ℕ × ℕ)) (p : ℕ × ℕ) → IsMiddle m (Reads b (symbols_read (l ++ (p ∷ []))))
  no_read b l p a k (finishes final is) e = let f = ap (λ (x : ControlMove). x.0) is in cc
  no_read b l p a k (leaves n r stands from first) e = go (reads_of r) (shifts_of r) first
    where
      go : (rs : List (ℕ × ℕ)) (ss : List (ℕ × Side)) → IsFirstOf n r rs ss k → ⊥
      go [] [] h = h
      go [] (s ∷ ss) h = let f = ap (λ (x : ControlMove). x.0) h in cc
      go (s ∷ rs) ss h = let f = ap (λ (x : ControlMove). x.0) h in let none : symbols_read (l ++ (p ∷ [])) ≡ [] =
          cc in some_symbols l p none
  no_read b l p a k (waits other low none is) e = let f = ap (λ (x : ControlMove). x.0) is in let empty : symbols_read
      (l ++ (p ∷ [])) ≡ [] = cc in some_symbols l p empty

  -- a write is no state's first
  pub no_write : (b t : ℕ) (u : List ℕ) → IsMiddle m (Writes b t u)
  no_write b t u a k (finishes final is) e = let f = ap (λ (x : ControlMove). x.0) is in cc
  no_write b t u a k (leaves n r stands from first) e = go (reads_of r) (shifts_of r) first
    where
      go : (rs : List (ℕ × ℕ)) (ss : List (ℕ × Side)) → IsFirstOf n r rs ss k → ⊥
      go [] [] h = h
      go [] (s ∷ ss) h = let f = ap (λ (x : ControlMove). x.0) h in cc
      go (s ∷ rs) ss h = let f = ap (λ (x : ControlMove). x.0) h in cc
  no_write b t u a k (waits other low none is) e = let f = ap (λ (x : ControlMove). x.0) is in cc

  -- a shift that is some state's first is of a quadruple that reads nothing, and is its first
  pub first_shift : (n : ℕ) (r : Rule ℕ) (t : ℕ) → nth m.rules n ≡ Some r → (a : ℕ) (k : ControlMove) → IsEntry m a k
      → k.0 ≡ Shifts n t
      → (reads_of r ≡ []) × ((q : ℕ × Side) × (rest : List (ℕ × Side)) × (shifts_of r ≡ q ∷ rest) × (q.0 ≡ t))
  first_shift n r t stands a k (finishes final is) e = absurd (let f = ap (λ (x : ControlMove). x.0) is in cc)
  first_shift n r t stands a k (leaves j y isy from first) e = go (reads_of y) (shifts_of y) refl refl first
    where
      go : (rs : List (ℕ × ℕ)) (ss : List (ℕ × Side)) → reads_of y ≡ rs → shifts_of y ≡ ss → IsFirstOf j y rs ss k
          → (reads_of r ≡ []) × ((q : ℕ × Side) × (rest : List (ℕ × Side)) × (shifts_of r ≡ q ∷ rest) × (q.0 ≡ t))
      go [] [] er es h = absurd h
      go [] (s ∷ ss) er es h =
          let f = ap (λ (x : ControlMove). x.0) h in
          let number : n ≡ j = cc in
          let there : Some r ≡ Some y = cc in
          let same : r ≡ y = cc in
          let tape : s.0 ≡ t = cc in
          (ap reads_of same ∙ er, (s, ss, ap shifts_of same ∙ es, tape))
      go (s ∷ rs) ss er es h = absurd (let f = ap (λ (x : ControlMove). x.0) h in cc)
  first_shift n r t stands a k (waits other low none is) e = absurd (let f = ap (λ (x : ControlMove). x.0) is in cc)

-- a shift of a quadruple is known by its tape
pub alone : (xs : List Deed) (t : ℕ) (a b r s : List (ℕ × Side)) (p q : ℕ × Side) → shifts t xs ≡ a ++ (p ∷ r)
    → shifts t xs ≡ b ++ (q ∷ s) → p.0 ≡ q.0
    → (a ≡ b) × (p ≡ q) × (r ≡ s)
alone xs t [] [] r s p q e f same = let all : p ∷ r ≡ q ∷ s = cc in (refl, cc, cc)
alone xs t [] (y ∷ b) r s p q e f same =
    let first : p ≡ y = cc in
    let low = ascending xs t y q b s f in
    let tape = ap (λ (v : ℕ × Side). v.0) first in
    absurd (omega arith)
alone xs t (x ∷ a) [] r s p q e f same =
    let first : q ≡ x = cc in
    let low = ascending xs t x p a r e in
    let tape = ap (λ (v : ℕ × Side). v.0) first in
    absurd (omega arith)
alone [] t (x ∷ a) (y ∷ b) r s p q e f same = cc
alone (Rewrite i w ∷ xs) t (x ∷ a) (y ∷ b) r s p q e f same = alone xs (suc t) (x ∷ a) (y ∷ b) r s p q e f same
alone (Move way.Stay ∷ xs) t (x ∷ a) (y ∷ b) r s p q e f same = alone xs (suc t) (x ∷ a) (y ∷ b) r s p q e f same
alone (Move way.Left ∷ xs) t (x ∷ a) (y ∷ b) r s p q e f same =
    let one : shifts (suc t) xs ≡ a ++ (p ∷ r) = cc in
    let two : shifts (suc t) xs ≡ b ++ (q ∷ s) = cc in
    let more = alone xs (suc t) a b r s p q one two same in
    let first : x ≡ y = cc in
    let front = more.0 in
    (cc, more.1, more.2)
alone (Move way.Right ∷ xs) t (x ∷ a) (y ∷ b) r s p q e f same =
    let one : shifts (suc t) xs ≡ a ++ (p ∷ r) = cc in
    let two : shifts (suc t) xs ≡ b ++ (q ∷ s) = cc in
    let more = alone xs (suc t) a b r s p q one two same in
    let first : x ≡ y = cc in
    let front = more.0 in
    (cc, more.1, more.2)

-- A state and an input line have one move.
use Rattle.std.proofs.Common.{◌≡◌, ℕ, suc, List, [], ◌∷◌, ◌++◌, length, Some, sym, ap, ◌∙◌}
use Rattle.std.proofs.lemmas.List.{map-append}
use Rattle.bn_lists.specs.Lists.{nth}
use Rattle.bn_quad.specs.Quadruples.{Quadruples, Rule, deeds_of, initial_of}
use Rattle.bn_quad.specs.Calls.{IsUniformMachine}
use Rattle.bn_network.specs.Controls.{ControlGoes, ControlLine, ControlMove, ControlState, IsEntry, begins, reads_on}
use Rattle.bn_network.specs.Controls.{shifts_on, writes_on, symbols_read, to_reads, to_writes, reads_of, shifts_of}
use Rattle.bn_network.specs.Controls.{writes_of}
use Rattle.bn_network.proofs.ListLemmas.{pair, same_length, split, split_right, tapes}
use Rattle.bn_network.proofs.DeedLemmas.{same_reads, same_writes}
use Rattle.bn_network.proofs.UniformLemmas.{read_mask, write_mask, same_domain, same_quad}
use Rattle.bn_network.proofs.EntryLemmas.{one_entry}
use Rattle.bn_network.proofs.OrderLemmas.{alone}

-- a list that is split is known by its symbols
pub whole_symbols : (l a r : List (ℕ × ℕ)) (p : ℕ × ℕ) → l ≡ a ++ (p ∷ r)
    → symbols_read l ≡ symbols_read a ++ (p.1 ∷ symbols_read r)
whole_symbols l a r p e = ap symbols_read e ∙ map-append (λ (q : ℕ × ℕ). q.1) a (p ∷ r)

module _ (machine : Quadruples) (u : IsUniformMachine machine) where
  -- what follows a read is known from the symbols read
  after_reads : (i j : ℕ) (x y : Rule ℕ) → nth machine.rules i ≡ Some x → nth machine.rules j ≡ Some y
      → (e f : ControlMove) → IsEntry machine x.to e
      → IsEntry machine y.to f
      → (a b r s : List (ℕ × ℕ)) (p q : ℕ × ℕ) → reads_of x ≡ a ++ (p ∷ r) → reads_of y ≡ b ++ (q ∷ s) → x.from ≡ y.from
      → symbols_read a ≡ symbols_read b → p ≡ q
      → to_reads e i x (a ++ (p ∷ [])) r ≡ to_reads f j y (b ++ (q ∷ [])) s
  after_reads i j x y isx isy e f ise isf a b [] [] p q er eq from before here =
      let wx = whole_symbols (reads_of x) a [] p er in
      let wy = whole_symbols (reads_of y) b [] q eq in
      let both : symbols_read (reads_of x) ≡ symbols_read (reads_of y) = cc in
      let number = same_domain machine u i j x y isx isy from both in
      let same = same_quad machine u i j x y isx isy number in
      let next : x.to ≡ y.to = cc in
      let one = one_entry machine u x.to e f ise (rw next isf) in
      cc
  after_reads i j x y isx isy e f ise isf a b (v ∷ r) [] p q er eq from before here =
      let both = same_reads (deeds_of x) (deeds_of y) 1 (read_mask machine u i j x y isx isy from) in
      let all : tapes (a ++ (p ∷ (v ∷ r))) ≡ tapes (b ++ (q ∷ [])) = sym (ap tapes er) ∙ both ∙ ap tapes eq in
      let rest = (split a b (p ∷ (v ∷ r)) (q ∷ []) before all).1 in
      cc
  after_reads i j x y isx isy e f ise isf a b [] (w ∷ s) p q er eq from before here =
      let both = same_reads (deeds_of x) (deeds_of y) 1 (read_mask machine u i j x y isx isy from) in
      let all : tapes (a ++ (p ∷ [])) ≡ tapes (b ++ (q ∷ (w ∷ s))) = sym (ap tapes er) ∙ both ∙ ap tapes eq in
      let rest = (split a b (p ∷ []) (q ∷ (w ∷ s)) before all).1 in
      cc
  after_reads i j x y isx isy e f ise isf a b (v ∷ r) (w ∷ s) p q er eq from before here =
      let both = same_reads (deeds_of x) (deeds_of y) 1 (read_mask machine u i j x y isx isy from) in
      let all : tapes (a ++ (p ∷ (v ∷ r))) ≡ tapes (b ++ (q ∷ (w ∷ s))) = sym (ap tapes er) ∙ both ∙ ap tapes eq in
      let rest = (split a b (p ∷ (v ∷ r)) (q ∷ (w ∷ s)) before all).1 in
      let tape : v.0 ≡ w.0 = cc in
      let sa = map-append (λ (k : ℕ × ℕ). k.1) a (p ∷ []) in
      let sb = map-append (λ (k : ℕ × ℕ). k.1) b (q ∷ []) in
      cc

  -- what follows a write is known from the symbols left
  after_writes : (i j : ℕ) (x y : Rule ℕ) → nth machine.rules i ≡ Some x → nth machine.rules j ≡ Some y
      → (e f : ControlMove) → IsEntry machine x.to e
      → IsEntry machine y.to f
      → (a b r s : List (ℕ × ℕ)) (p q : ℕ × ℕ) → writes_of x ≡ a ++ (p ∷ r) → writes_of y ≡ b ++ (q ∷ s) → x.to ≡ y.to
      → symbols_read r ≡ symbols_read s
      → to_writes e x.to r ≡ to_writes f y.to s
  after_writes i j x y isx isy e f ise isf a b [] [] p q er eq next rest =
      one_entry machine u x.to e f ise (rw next isf)
  after_writes i j x y isx isy e f ise isf a b (v ∷ r) [] p q er eq next rest = cc
  after_writes i j x y isx isy e f ise isf a b [] (w ∷ s) p q er eq next rest = cc
  after_writes i j x y isx isy e f ise isf a b (v ∷ r) (w ∷ s) p q er eq next rest =
      let both = same_writes x y (write_mask machine u i j x y isx isy next) in
      let all : tapes (a ++ (p ∷ (v ∷ r))) ≡ tapes (b ++ (q ∷ (w ∷ s))) = sym (ap tapes er) ∙ both ∙ ap tapes eq in
      let count : length (p ∷ (v ∷ r)) ≡ length (q ∷ (w ∷ s)) = ap suc (same_length (v ∷ r) (w ∷ s) rest) in
      let more = (split_right a b (p ∷ (v ∷ r)) (q ∷ (w ∷ s)) count all).1 in
      let tape : v.0 ≡ w.0 = cc in
      cc

  -- a state and an input line have one move
  pub forth : (q : ControlState) (i : ControlLine) (m n : ControlMove) → ControlGoes machine q i m
      → ControlGoes machine q i n → m ≡ n
  forth q i m n (begins isq isi entry) (begins isq2 isi2 entry2) =
      one_entry machine u (initial_of machine.rules) m n entry entry2
  forth q i m n (begins isq isi entry) (reads_on j y isy f isf b s p eq isq2 isi2 ism2) = cc
  forth q i m n (begins isq isi entry) (shifts_on j y isy f isf b s p eq isq2 isi2 ism2) = cc
  forth q i m n (begins isq isi entry) (writes_on j y isy f isf b s p eq isq2 isi2 ism2) = cc
  forth q i m n (reads_on k x isx e ise a r p er isq isi ism) (begins isq2 isi2 entry2) = cc
  forth q i m n (reads_on k x isx e ise a r p er isq isi ism) (reads_on j y isy f isf b s v eq isq2 isi2 ism2) =
      let from : x.from ≡ y.from = cc in
      let before : symbols_read a ≡ symbols_read b = cc in
      let here0 : p.0 ≡ v.0 = cc in
      let here1 : p.1 ≡ v.1 = cc in
      let here = pair p v here0 here1 in
      let all = after_reads k j x y isx isy e f ise isf a b r s p v er eq from before here in
      cc
  forth q i m n (reads_on k x isx e ise a r p er isq isi ism) (shifts_on j y isy f isf b s v eq isq2 isi2 ism2) = cc
  forth q i m n (reads_on k x isx e ise a r p er isq isi ism) (writes_on j y isy f isf b s v eq isq2 isi2 ism2) = cc
  forth q i m n (shifts_on k x isx e ise a r p er isq isi ism) (begins isq2 isi2 entry2) = cc
  forth q i m n (shifts_on k x isx e ise a r p er isq isi ism) (reads_on j y isy f isf b s v eq isq2 isi2 ism2) = cc
  forth q i m n (shifts_on k x isx e ise a r p er isq isi ism) (shifts_on j y isy f isf b s v eq isq2 isi2 ism2) =
      let number : k ≡ j = cc in
      let tape : p.0 ≡ v.0 = cc in
      let same = same_quad machine u k j x y isx isy number in
      let eqx : shifts_of x ≡ b ++ (v ∷ s) = rw same eq in
      let one = alone (deeds_of x) 1 a b r s p v er eqx tape in
      let rest = one.2 in
      let next : x.to ≡ y.to = cc in
      let entry = one_entry machine u x.to e f ise (rw next isf) in
      cc
  forth q i m n (shifts_on k x isx e ise a r p er isq isi ism) (writes_on j y isy f isf b s v eq isq2 isi2 ism2) = cc
  forth q i m n (writes_on k x isx e ise a r p er isq isi ism) (begins isq2 isi2 entry2) = cc
  forth q i m n (writes_on k x isx e ise a r p er isq isi ism) (reads_on j y isy f isf b s v eq isq2 isi2 ism2) = cc
  forth q i m n (writes_on k x isx e ise a r p er isq isi ism) (shifts_on j y isy f isf b s v eq isq2 isi2 ism2) = cc
  forth q i m n (writes_on k x isx e ise a r p er isq isi ism) (writes_on j y isy f isf b s v eq isq2 isi2 ism2) =
      let next : x.to ≡ y.to = cc in
      let rest : symbols_read r ≡ symbols_read s = cc in
      let all = after_writes k j x y isx isy e f ise isf a b r s p v er eq next rest in
      cc

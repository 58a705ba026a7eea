-- The first command of a state.
use Rattle.std.proofs.Common.{◌≡◌, ℕ, List, [], ◌∷◌, Some, refl, sym, ap, ◌∙◌}
use Rattle.bn_lists.specs.Lists.{nth}
use Rattle.bn_machine.specs.declared.quint.Side.{Side}
use Rattle.bn_quad.specs.Quadruples.{Quadruples, Rule, deeds_of, final_state_of}
use Rattle.bn_quad.specs.Calls.{IsUniformMachine}
use Rattle.bn_network.specs.Controls.{ControlMove, End, IsEntry, IsFirstOf, Reads, Shifts, finishes, leaves, waits}
use Rattle.bn_network.specs.Controls.{symbols_read, reads_of, shifts_of}
use Rattle.bn_network.proofs.ListLemmas.{tapes}
use Rattle.bn_network.proofs.DeedLemmas.{same_reads}
use Rattle.bn_network.proofs.UniformLemmas.{read_mask, same_domain, same_quad}

module _ (machine : Quadruples) (u : IsUniformMachine machine) where
  -- two quadruples of one state have one first command
  firsts : (i j : ℕ) (x y : Rule ℕ) → nth machine.rules i ≡ Some x → nth machine.rules j ≡ Some y → x.from ≡ y.from
      → (m n : ControlMove)
      → (rs qs : List (ℕ × ℕ)) (ss zs : List (ℕ × Side)) → reads_of x ≡ rs → reads_of y ≡ qs → shifts_of x ≡ ss
      → shifts_of y ≡ zs
      → IsFirstOf i x rs ss m → IsFirstOf j y qs zs n → m ≡ n
  firsts i j x y a b from m n [] [] ss zs er eq es ez f g =
      let none : symbols_read (reads_of x) ≡ symbols_read (reads_of y) =
      ap symbols_read er ∙ sym (ap symbols_read eq) in
      let number = same_domain machine u i j x y a b from none in
      let same = same_quad machine u i j x y a b number in
      let zips : ss ≡ zs = cc in
      go ss zs number zips f g
    where
      go : (ss zs : List (ℕ × Side)) → i ≡ j → ss ≡ zs → IsFirstOf i x [] ss m → IsFirstOf j y [] zs n → m ≡ n
      go [] zs number same f g = absurd f
      go (s ∷ ss) [] number same f g = absurd g
      go (s ∷ ss) (z ∷ zs) number same f g = cc
  firsts i j x y a b from m n [] (q ∷ qs) ss zs er eq es ez f g = let t = ap tapes er in let v =
      ap tapes eq in let both = same_reads (deeds_of x) (deeds_of y) 1 (read_mask machine u i j x y a b from) in cc
  firsts i j x y a b from m n (r ∷ rs) [] ss zs er eq es ez f g = let t = ap tapes er in let v =
      ap tapes eq in let both = same_reads (deeds_of x) (deeds_of y) 1 (read_mask machine u i j x y a b from) in cc
  firsts i j x y a b from m n (r ∷ rs) (q ∷ qs) ss zs er eq es ez f g =
      let t = ap tapes er in let v = ap tapes eq in let both = same_reads (deeds_of x) (deeds_of y) 1
      (read_mask machine u i j x y a b from) in
      let tape : r.0 ≡ q.0 = cc in
      cc

  -- a state has one
  pub one_entry : (a : ℕ) (m n : ControlMove) → IsEntry machine a m → IsEntry machine a n → m ≡ n
  one_entry a m n (finishes e is) (finishes f is2) = cc
  one_entry a m n (finishes e is) (leaves j y isy from first) = let bad : y.from ≡ (final_state_of machine.rules) =
      cc in absurd (u.uniform.final.none j y isy bad)
  one_entry a m n (finishes e is) (waits other low_none none is2) = absurd (other e)
  one_entry a m n (leaves i x isx from first) (finishes f is2) = let bad : x.from ≡ (final_state_of machine.rules) =
      cc in absurd (u.uniform.final.none i x isx bad)
  one_entry a m n (leaves i x isx from first) (leaves j y isy from2 first2) =
      let both : x.from ≡ y.from = cc in
      firsts i j x y isx isy both m n (reads_of x) (reads_of y) (shifts_of x) (shifts_of y) refl refl refl refl first
      first2
  one_entry a m n (leaves i x isx from first) (waits other low_none none is2) = absurd (none.none i x isx from)
  one_entry a m n (waits other low_none none is) (finishes f is2) = absurd (other f)
  one_entry a m n (waits other low_none none is) (leaves j y isy from first) = absurd (none.none j y isy from)
  one_entry a m n (waits other low_none none is) (waits other2 low_none2 none2 is2) = cc

  -- what a first command is
  pub data Kind (a : ℕ) (m : ControlMove) : Type 0 where
    ends : a ≡ (final_state_of machine.rules) → m.0 ≡ End → Kind a m
    begins_read : m.0 ≡ Reads a [] → Kind a m
    begins_shift : (n : ℕ) (x : Rule ℕ) (t : ℕ) → nth machine.rules n ≡ Some x → x.from ≡ a → m.0 ≡ Shifts n t
        → Kind a m

  -- a first command is of one of these kinds
  pub kind : (a : ℕ) (m : ControlMove) → IsEntry machine a m → Kind a m
  kind a m (finishes e is) = ends e (ap (λ (k : ControlMove). k.0) is)
  kind a m (leaves n x isx from first) = go (reads_of x) (shifts_of x) first
    where
      go : (rs : List (ℕ × ℕ)) (ss : List (ℕ × Side)) → IsFirstOf n x rs ss m → Kind a m
      go [] [] h = absurd h
      go [] (s ∷ ss) h = begins_shift n x s.0 isx from (ap (λ (k : ControlMove). k.0) h)
      go (r ∷ rs) ss h = begins_read (let e = ap (λ (k : ControlMove). k.0) h in cc)
  kind a m (waits other low_none none is) = begins_read (ap (λ (k : ControlMove). k.0) is)

  -- first commands of two states wait in two states of the control
  pub apart : (a b : ℕ) (k l : ControlMove) → IsEntry machine a k → IsEntry machine b l → k.0 ≡ l.0 → a ≡ b
  apart a b k l f g same = go (kind a k f) (kind b l g)
    where
      go : Kind a k → Kind b l → a ≡ b
      go (ends e is) (ends f is2) = cc
      go (ends e is) (begins_read is2) = cc
      go (ends e is) (begins_shift n x t isx from is2) = cc
      go (begins_read is) (ends f is2) = cc
      go (begins_read is) (begins_read is2) = cc
      go (begins_read is) (begins_shift n x t isx from is2) = cc
      go (begins_shift n x t isx from is) (ends f is2) = cc
      go (begins_shift n x t isx from is) (begins_read is2) = cc
      go (begins_shift n x t isx from is) (begins_shift j y v isy from2 is2) = let number : n ≡ j = cc in let same =
          same_quad machine u n j x y isx isy number in cc

  -- a first command is one state's
  pub one_state : (a b : ℕ) (m : ControlMove) → IsEntry machine a m → IsEntry machine b m → a ≡ b
  one_state a b m f g = apart a b m m f g refl

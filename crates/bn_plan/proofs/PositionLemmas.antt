-- Lemmas on positions: no two ends of wires stand at one.
use Rattle.std.specs.Prelude.{◌≡◌, ◌≢◌, ◌<◌, List, [], ◌∷◌, Some}
use Rattle.std.proofs.Common.{sym, subst, ◌∙◌, ap, arith, inl, inr}
use Rattle.std.proofs.lemmas.Bool.{cases_lt}
use Rattle.bn_circuits.specs.Circuits.{target}
use Rattle.bn_circuits.proofs.StepLemmas.{same_lines}
use Rattle.bn_circuits.specs.declared.line.Line.{Line}
use Rattle.bn_circuits.specs.declared.line.Wire.{Wire}
use Rattle.bn_plan.specs.Lists.{Pairwise}
use Rattle.bn_lists.specs.Lists.{Has}
use Rattle.bn_plan.specs.Wires.{output_position, input_position, lesser, greater, AreRotary, AreWiresOf}
use Rattle.bn_plan.specs.Sweeping.{BeginsAt}

-- ---- positions of lines

-- a position is that of one output line at most
same_output : (a b : Line) → a.line < 4 → b.line < 4 → output_position a ≡ output_position b → a ≡ b
same_output a b h k e = same_lines a b (omega (arith, e, h, k)) (omega (arith, e, h, k))

-- and of one input line
same_input : (a b : Line) → a.line < 4 → b.line < 4 → input_position a ≡ input_position b → a ≡ b
same_input a b h k e = same_lines a b (omega (arith, e, h, k)) (omega (arith, e, h, k))

-- and not of both
pub output_input : (a b : Line) → a.line < 4 → b.line < 4 → output_position a ≢ input_position b
output_input a b h k e = absurd (omega (arith, e, h, k))

-- ---- ends of wires

-- which end is which
data Ends (w : Wire) : Type 0 where
  onward : lesser w ≡ output_position w.from → greater w ≡ input_position w.to → Ends w
  backward : lesser w ≡ input_position w.to → greater w ≡ output_position w.from → Ends w

ends_of : (w : Wire) → Ends w
unfolding lesser greater
ends_of w = elim (cases_lt (output_position w.from) (input_position w.to)) [
  | inl h ↦ onward (omega (arith, h)) (omega (arith, h))
  | inr h ↦ backward (omega (arith, h)) (omega (arith, h))
]

-- elements with the same image are one, where no two have one
same_image : {X Y : Type 0} (f : X → Y) (xs : List X) → Pairwise (λ x y. f x ≢ f y) xs → (x y : X) → Has xs x → Has xs y
    → f x ≡ f y → x ≡ y
same_image f [] apart x y h k e = absurd h
same_image f (z ∷ zs) apart x y (inl h) (inl k) e = h ∙ sym k
same_image f (z ∷ zs) apart x y (inl h) (inr k) e = absurd (apart.0 y k (ap f (sym h) ∙ e))
same_image f (z ∷ zs) apart x y (inr h) (inl k) e = absurd (apart.0 x h (ap f (sym k) ∙ sym e))
same_image f (z ∷ zs) apart x y (inr h) (inr k) e = same_image f zs apart.1 x y h k e

module _ (ws : List Wire) (r : AreRotary ws) where
  by_output : (v w : Wire) → Has ws v → Has ws w → output_position v.from ≡ output_position w.from → v ≡ w
  by_output v w h k e = same_image (λ (x : Wire). x.from) ws r.from_apart v w h k
      (same_output v.from w.from (r.lines v h).from (r.lines w k).from e)

  by_input : (v w : Wire) → Has ws v → Has ws w → input_position v.to ≡ input_position w.to → v ≡ w
  by_input v w h k e = same_image (λ (x : Wire). x.to) ws r.to_apart v w h k
      (same_input v.to w.to (r.lines v h).to (r.lines w k).to e)

  clash : (v w : Wire) → Has ws v → Has ws w → output_position v.from ≢ input_position w.to
  clash v w h k = output_input v.from w.to (r.lines v h).from (r.lines w k).to

  -- the ends of one wire stand apart
  pub lesser_below : (w : Wire) → Has ws w → lesser w < greater w
  unfolding lesser greater
  lesser_below w h = let apart = clash w w h h in elim (cases_lt (output_position w.from) (input_position w.to)) [
    | inl low ↦ omega (arith, low)
    | inr high ↦ elim (cases_lt (input_position w.to) (output_position w.from)) [
      | inl low ↦ omega (arith, low)
      | inr equal ↦ absurd (apart (omega (arith, high, equal)))
    ]
  ]

  -- two wires that end at one position are one
  pub greaters_apart : (v w : Wire) → Has ws v → Has ws w → greater v ≡ greater w → v ≡ w
  greaters_apart v w h k e = by_ends (ends_of v) (ends_of w)
    where
      by_ends : Ends v → Ends w → v ≡ w
      by_ends (onward a b) (onward c d) = by_input v w h k (sym b ∙ e ∙ d)
      by_ends (backward a b) (backward c d) = by_output v w h k (sym b ∙ e ∙ d)
      by_ends (onward a b) (backward c d) = absurd (clash w v k h (sym d ∙ sym e ∙ b))
      by_ends (backward a b) (onward c d) = absurd (clash v w h k (sym b ∙ e ∙ d))

  -- two wires that begin at one position are one
  pub lessers_apart : (v w : Wire) → Has ws v → Has ws w → lesser v ≡ lesser w → v ≡ w
  lessers_apart v w h k e = by_ends (ends_of v) (ends_of w)
    where
      by_ends : Ends v → Ends w → v ≡ w
      by_ends (onward a b) (onward c d) = by_output v w h k (sym a ∙ e ∙ c)
      by_ends (backward a b) (backward c d) = by_input v w h k (sym a ∙ e ∙ c)
      by_ends (onward a b) (backward c d) = absurd (clash v w h k (sym a ∙ e ∙ c))
      by_ends (backward a b) (onward c d) = absurd (clash w v k h (sym c ∙ sym e ∙ a))

  -- no wire ends where one begins
  pub ends_apart : (v w : Wire) → Has ws v → Has ws w → greater v ≢ lesser w
  ends_apart v w h k e = by_ends (ends_of v) (ends_of w)
    where
      one : v ≡ w → ⊥
      one same = let below = lesser_below v h in let also : lesser w ≡ lesser v =
          ap lesser (sym same) in absurd (omega (arith, below, e, also))

      by_ends : Ends v → Ends w → ⊥
      by_ends (onward a b) (onward c d) = clash w v k h (sym c ∙ sym e ∙ b)
      by_ends (backward a b) (backward c d) = clash v w h k (sym b ∙ e ∙ c)
      by_ends (onward a b) (backward c d) = one (by_input v w h k (sym b ∙ e ∙ c))
      by_ends (backward a b) (onward c d) = one (by_output v w h k (sym b ∙ e ∙ c))

-- ---- the wire that begins at a position

module _ (ws : List Wire) (r : AreRotary ws) (are : AreWiresOf ws ws) where
  -- the wire of an output line that is its lesser end
  pub begins_out : (from to : Line) → target ws from ≡ Some to → output_position from < input_position to
      → BeginsAt ws (output_position from) (record { from = from; to = to })
  unfolding lesser
  begins_out from to is low = ((are.each (record { from = from; to = to })).1 is, omega (arith, low))

  -- and of an input line
  pub begins_in : (from to : Line) → target ws from ≡ Some to → input_position to < output_position from
      → BeginsAt ws (input_position to) (record { from = from; to = to })
  unfolding lesser
  begins_in from to is low = ((are.each (record { from = from; to = to })).1 is, omega (arith, low))

  -- a wire that begins at an output line leaves it
  pub out_only : (from : Line) → from.line < 4 → (w : Wire) → BeginsAt ws (output_position from) w
      → (target ws from ≡ Some w.to) × (output_position from < input_position w.to)
  out_only from low w b = by_ends (ends_of w)
    where
      by_ends : Ends w → (target ws from ≡ Some w.to) × (output_position from < input_position w.to)
      by_ends (onward a c) =
          let same : w.from ≡ from = same_output w.from from (r.lines w b.0).from low (sym a ∙ b.1) in
          let below = lesser_below ws r w b.0 in
          (subst (λ l. target ws l ≡ Some w.to) same ((are.each w).0 b.0), omega (arith, below, b.1, c))
      by_ends (backward a c) = absurd (output_input from w.to low (r.lines w b.0).to (sym b.1 ∙ a))

  -- and one that begins at an input line ends there
  pub in_only : (to : Line) → to.line < 4 → (w : Wire) → BeginsAt ws (input_position to) w
      → (target ws w.from ≡ Some to) × (input_position to < output_position w.from)
  in_only to low w b = by_ends (ends_of w)
    where
      by_ends : Ends w → (target ws w.from ≡ Some to) × (input_position to < output_position w.from)
      by_ends (backward a c) =
          let same : w.to ≡ to = same_input w.to to (r.lines w b.0).to low (sym a ∙ b.1) in
          let below = lesser_below ws r w b.0 in
          (subst (λ l. target ws w.from ≡ Some l) same ((are.each w).0 b.0), omega (arith, below, b.1, c))
      by_ends (onward a c) = absurd (output_input w.from to (r.lines w b.0).from low (sym a ∙ b.1))

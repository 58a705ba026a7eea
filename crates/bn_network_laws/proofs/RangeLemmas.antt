-- What a uniform machine's quadruples give: numbers in range, and no idle one.
use Rattle.std.specs.Prelude.{◌≡◌, ℕ, ◌+◌, ◌*◌, ◌<◌, ◌≤◌, List, [], ◌∷◌, ◌++◌, length, Some, refl, ◌⊎◌, slice_index}
use Rattle.std.proofs.Common.{zero, suc, arith, ap, subst, inl, inr}
use Rattle.std.proofs.lemmas.Option.{get_or_from_slice_get, slice_get_within}
use Rattle.std.proofs.lemmas.List.{length-reverse}
use Rattle.bn_lists.specs.Lists.{nth}
use Rattle.bn_machine.specs.Outcome.{Limits}
use Rattle.bn_machine.specs.declared.quint.Shift.TheVariants as way
use Rattle.bn_machine.specs.declared.quint.Side.{Side}
use Rattle.bn_quad.specs.Quadruples.{Deed, Rewrite, Move, Rule, deeds_of, Configuration, Quadruples, IsQuadMachine}
use Rattle.bn_quad.specs.Quadruples.{IsRuleInRange, IsDeedInRange, AreDeedsInRange}
use Rattle.bn_quad.specs.Overlap.{IsIdle, IsSilent}
use Rattle.bn_quad.specs.Calls.{IsUniformMachine}
use Rattle.bn_network.specs.Controls.{ControlMove, IsEntry, leaves, IsFirstOf, symbol_count, reads, shifts, rising}
use Rattle.bn_network.specs.Controls.{reads_of, shifts_of, writes_of, to_reads}
use Rattle.bn_network.specs.Moments.{deed_moves, head_cell, quad_moves}
use Rattle.bn_network_laws.proofs.ChainLemmas.{Stop}
use Rattle.bn_network_laws.proofs.StopLemmas.{write_stops, shift_stops, read_stops, stops_of}

-- a quadruple's numbers are in range
pub rule_range : (m : Quadruples) → IsQuadMachine m → (n : ℕ) (r : Rule ℕ) → nth m.rules n ≡ Some r
    → IsRuleInRange m.states m.symbols r
rule_range m h zero r e = absurd (cc)
rule_range m h (suc k) r e =
    let P : Rule ℕ → Type 0 = IsRuleInRange m.states m.symbols in
    subst P (get_or_from_slice_get m.rules k r r e) (h.in_range k r (slice_get_within m.rules k r e))

-- so are its symbols, tape by tape
three_deeds : (zs : List ℕ) (a b c : Deed) → AreDeedsInRange zs (a ∷ b ∷ c ∷ [])
    → IsDeedInRange (slice_index zs 0) a × IsDeedInRange (slice_index zs 1) b
    × IsDeedInRange (slice_index zs 2) c
three_deeds [] a b c h = absurd h
three_deeds (x ∷ []) a b c h = absurd h.1
three_deeds (x ∷ y ∷ []) a b c h = absurd h.1.1
three_deeds (x ∷ y ∷ z ∷ []) a b c h = (h.0, h.1.0, h.1.1.0)
three_deeds (x ∷ y ∷ z ∷ w ∷ zs) a b c h = absurd h.1.1.1

-- by the machine
pub deeds_range : (m : Quadruples) (r : Rule ℕ) → IsRuleInRange m.states m.symbols r
    → IsDeedInRange (symbol_count m 1) r.one × IsDeedInRange (symbol_count m 2) r.two
    × IsDeedInRange (symbol_count m 3) r.three
deeds_range m r h = three_deeds m.symbols r.one r.two r.three h.deeds

-- ---- none is idle

-- a deed without a command is idle
idle_at : (d : Deed) (ds : List Deed) (t : ℕ) → reads t (d ∷ ds) ≡ [] → shifts t (d ∷ ds) ≡ []
    → IsIdle d × (reads (suc t) ds ≡ []) × (shifts (suc t) ds ≡ [])
idle_at (Rewrite a b) ds t e f = absurd cc
idle_at (Move way.Left) ds t e f = absurd cc
idle_at (Move way.Stay) ds t e f = (refl, e, f)
idle_at (Move way.Right) ds t e f = absurd cc

-- a quadruple without commands is silent
silent : (r : Rule ℕ) → reads_of r ≡ [] → shifts_of r ≡ [] → IsSilent r
silent r e f =
    let one = idle_at r.one (r.two ∷ r.three ∷ []) 1 e f in
    let two = idle_at r.two (r.three ∷ []) 2 one.1 one.2 in
    let three = idle_at r.three [] 3 two.1 two.2 in
    record { one = one.0; two = two.0; three = three.0 }

-- a quadruple's first command is its state's
pub opening : (m : Quadruples) → IsUniformMachine m → (n : ℕ) (r : Rule ℕ) → nth m.rules n ≡ Some r
    → (e : ControlMove) (a : ℕ) → r.from ≡ a
    → IsEntry m a (to_reads e n r [] (reads_of r))
opening m u n r stands e a from = leaves n r stands from (first_is (reads_of r) (shifts_of r) refl refl)
  where
    first_is : (rs : List (ℕ × ℕ)) (ss : List (ℕ × Side)) → reads_of r ≡ rs → shifts_of r ≡ ss
        → IsFirstOf n r rs ss (to_reads e n r [] rs)
    first_is [] [] er es = u.uniform.active.none n r stands (silent r er es)
    first_is [] (p ∷ ss) er es = rw es refl
    first_is (p ∷ rs) ss er es = refl

-- a deed is idle, or takes moves
idle_or : (h : ℕ) (d : Deed) → IsIdle d ⊎ (0 < deed_moves h d)
idle_or h (Rewrite a b) = inr (omega arith)
idle_or h (Move way.Left) = inr (omega arith)
idle_or h (Move way.Stay) = inl refl
idle_or h (Move way.Right) = inr (omega arith)

-- so each takes moves
pub some_moves : (m : Quadruples) → IsUniformMachine m → (n : ℕ) (r : Rule ℕ) → nth m.rules n ≡ Some r
    → (l : Limits) (c : Configuration ℕ)
    → 0 < quad_moves l r c
some_moves m u n r stands l c = elim (idle_or (head_cell l.left c.one) r.one) [
  | inr some ↦ omega arith
  | inl one ↦ elim (idle_or (head_cell 0 c.two) r.two) [
    | inr some ↦ omega arith
    | inl two ↦ elim (idle_or (head_cell 0 c.three) r.three) [
      | inr some ↦ omega arith
      | inl three ↦ absurd (u.uniform.active.none n r stands (record { one = one; two = two; three = three }))
    ]
  ]
]

-- ---- at most six commands

-- as many commands as writes
length_writes : (a : ℕ) (ws : List (ℕ × ℕ)) → length (write_stops a ws) ≡ length ws
length_writes a [] = refl
length_writes a (p ∷ ws) = ap suc (length_writes a ws)

-- as shifts
length_shifts : (n : ℕ) (ss : List (ℕ × Side)) (after : List Stop)
    → length (shift_stops n ss after) ≡ length ss + length after
length_shifts n [] after = omega arith
length_shifts n (p ∷ ss) after = let more = length_shifts n ss after in omega arith

-- as reads
length_reads : (a : ℕ) (before rs : List (ℕ × ℕ)) (after : List Stop)
    → length (read_stops a before rs after) ≡ length rs + length after
length_reads a before [] after = omega arith
length_reads a before (p ∷ rs) after = let more = length_reads a (before ++ (p ∷ [])) rs after in omega arith

-- two commands a deed at most
two_each : (ds : List Deed) (t : ℕ) → length (reads t ds) + length (shifts t ds) + length (rising t ds) ≤ 2 * length ds
two_each [] t = omega arith
two_each (Rewrite a b ∷ ds) t = let more = two_each ds (suc t) in omega arith
two_each (Move way.Left ∷ ds) t = let more = two_each ds (suc t) in omega arith
two_each (Move way.Stay ∷ ds) t = let more = two_each ds (suc t) in omega arith
two_each (Move way.Right ∷ ds) t = let more = two_each ds (suc t) in omega arith

-- so six for three deeds
pub six_stops : (n : ℕ) (r : Rule ℕ) → length (stops_of n r) ≤ 6
six_stops n r =
    let a = length_reads r.from [] (reads_of r) (shift_stops n (shifts_of r) (write_stops r.to (writes_of r))) in
    let b = length_shifts n (shifts_of r) (write_stops r.to (writes_of r)) in
    let c = length_writes r.to (writes_of r) in
    let d : length (writes_of r) ≡ length (rising 1 (deeds_of r)) = length-reverse (rising 1 (deeds_of r)) in
    let e = two_each (deeds_of r) 1 in
    let f : length (deeds_of r) ≡ 3 = refl in
    omega arith

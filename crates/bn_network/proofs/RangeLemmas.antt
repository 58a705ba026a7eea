-- Where the numbers of a machine's deeds are.
use Rattle.std.proofs.Common.{◌≡◌, inl, inr, get_or, ℕ, zero, suc, ◌+◌, ◌<◌, List, [], ◌∷◌, length, Some, refl, ap}
use Rattle.std.proofs.Common.{subst, arith}
use Rattle.std.proofs.lemmas.Option.{slice_get_within, get_or_from_slice_get}
use Rattle.bn_lists.specs.Lists.{nth, Has}
use Rattle.bn_machine.specs.declared.quint.Shift.TheVariants as way
use Rattle.bn_machine.specs.declared.quint.Side.{Side}
use Rattle.bn_quad.specs.Quadruples.{Deed, Rewrite, Move, Rule, Quadruples, initial_of, AreDeedsInRange, IsRuleInRange}
use Rattle.bn_quad.specs.Quadruples.{IsQuadMachine}
use Rattle.bn_network.specs.Controls.{reads, rising, shifts}

-- the place of a tape and, among these numbers of symbols, its symbol
abbrev pub IsIn : List ℕ → ℕ → (ℕ × ℕ) → Type 0
IsIn zs t p = (j : ℕ) × (p.0 ≡ t + j) × (j < length zs) × (p.1 < get_or zs j 0)

-- with one tape more in front
further : (z : ℕ) (zs : List ℕ) (t : ℕ) (p : ℕ × ℕ) → IsIn zs (suc t) p → IsIn (z ∷ zs) t p
further z zs t p h = let at = h.1 in let low = h.2 in (suc h.0, omega arith, omega arith, h.3)

-- what is read is a symbol of its tape
pub reads_in : (zs : List ℕ) (ds : List Deed) (t : ℕ) (p : ℕ × ℕ) → AreDeedsInRange zs ds → Has (reads t ds) p
    → IsIn zs t p
reads_in zs [] t p h is = absurd is
reads_in [] (d ∷ ds) t p h is = absurd h
reads_in (z ∷ zs) (Rewrite r w ∷ ds) t p h (inl e) =
    let one = ap (λ (v : ℕ × ℕ). v.0) e in let two = ap (λ (v : ℕ × ℕ). v.1) e in let low =
    h.0.0 in (0, omega arith, omega arith, omega arith)
reads_in (z ∷ zs) (Rewrite r w ∷ ds) t p h (inr more) = further z zs t p (reads_in zs ds (suc t) p h.1 more)
reads_in (z ∷ zs) (Move d ∷ ds) t p h is = further z zs t p (reads_in zs ds (suc t) p h.1 is)

-- what is written is a symbol of its tape
pub rising_in : (zs : List ℕ) (ds : List Deed) (t : ℕ) (p : ℕ × ℕ) → AreDeedsInRange zs ds → Has (rising t ds) p
    → IsIn zs t p
rising_in zs [] t p h is = absurd is
rising_in [] (d ∷ ds) t p h is = absurd h
rising_in (z ∷ zs) (Rewrite r w ∷ ds) t p h (inl e) =
    let one = ap (λ (v : ℕ × ℕ). v.0) e in let two = ap (λ (v : ℕ × ℕ). v.1) e in let low =
    h.0.1 in (0, omega arith, omega arith, omega arith)
rising_in (z ∷ zs) (Rewrite r w ∷ ds) t p h (inr more) = further z zs t p (rising_in zs ds (suc t) p h.1 more)
rising_in (z ∷ zs) (Move d ∷ ds) t p h is = further z zs t p (rising_in zs ds (suc t) p h.1 is)

-- a written tape is one of as many as there are deeds
pub rising_low : (ds : List Deed) (t : ℕ) (p : ℕ × ℕ) → Has (rising t ds) p → p.0 < t + length ds
rising_low [] t p is = absurd is
rising_low (Rewrite r w ∷ ds) t p (inl e) = let one = ap (λ (v : ℕ × ℕ). v.0) e in omega arith
rising_low (Rewrite r w ∷ ds) t p (inr more) = let low = rising_low ds (suc t) p more in omega arith
rising_low (Move d ∷ ds) t p is = let low = rising_low ds (suc t) p is in omega arith

-- the place of a tape
abbrev pub IsAmong : ℕ → ℕ → ℕ → Type 0
IsAmong count t n = (j : ℕ) × (n ≡ t + j) × (j < count)

-- a shifted tape is one of as many as there are deeds
pub shifts_low : (ds : List Deed) (t : ℕ) (p : ℕ × Side) → Has (shifts t ds) p → IsAmong (length ds) t p.0
shifts_low [] t p is = absurd is
shifts_low (Rewrite r w ∷ ds) t p is = let low = shifts_low ds (suc t) p is in let at = low.1 in let few =
    low.2 in (suc low.0, omega arith, omega arith)
shifts_low (Move way.Left ∷ ds) t p (inl e) = let one = ap (λ (v : ℕ × Side). v.0) e in (0, omega arith, omega arith)
shifts_low (Move way.Left ∷ ds) t p (inr more) = let low = shifts_low ds (suc t) p more in let at = low.1 in let few =
    low.2 in (suc low.0, omega arith, omega arith)
shifts_low (Move way.Stay ∷ ds) t p is = let low = shifts_low ds (suc t) p is in let at = low.1 in let few =
    low.2 in (suc low.0, omega arith, omega arith)
shifts_low (Move way.Right ∷ ds) t p (inl e) = let one = ap (λ (v : ℕ × Side). v.0) e in (0, omega arith, omega arith)
shifts_low (Move way.Right ∷ ds) t p (inr more) = let low = shifts_low ds (suc t) p more in let at = low.1 in let few =
    low.2 in (suc low.0, omega arith, omega arith)

-- a quadruple of the machine is in range
pub rule_in_range : (m : Quadruples) → IsQuadMachine m → (n : ℕ) (r : Rule ℕ) → nth m.rules n ≡ Some r
    → IsRuleInRange m.states m.symbols r
rule_in_range m is zero r e = absurd (cc)
rule_in_range m is (suc n) r e = subst (λ s. IsRuleInRange m.states m.symbols s) (get_or_from_slice_get m.rules n r r e)
    (is.in_range n r (slice_get_within m.rules n r e))

-- the initial state is one of the machine's
pub initial_in_range : (m : Quadruples) → IsQuadMachine m → initial_of m.rules < m.states
initial_in_range m is = go m.rules refl
  where
    go : (rs : List (Rule ℕ)) → m.rules ≡ rs → initial_of m.rules < m.states
    go [] e = let none = ap length e in let some = is.some in absurd (omega arith)
    go (r ∷ rs) e =
        let here : nth m.rules 1 ≡ Some r = ap (λ l. nth l 1) e in
        let low = (rule_in_range m is 1 r here).from in
        let first = ap initial_of e in
        omega arith

-- The order of the control's states.
use Rattle.std.proofs.Common.{◌≡◌, ℕ, ◌+◌, ◌-◌, ◌<◌, ◌≤◌, List, ◌∷◌, ◌++◌, refl, arith}
use Rattle.std.specs.Cmp.{IsTotalOrder}
use Rattle.std.specs.Cmp.Lexicographic.{slice_cmp}
use Rattle.std.specs.Ordering.{nat_cmp}
use Rattle.std.specs.declared.cmp.Ordering.{Ordering}
use Rattle.std.specs.declared.cmp.Ordering.TheVariants.{Equal}
use Rattle.std.proofs.lemmas.Cmp.{on_total, nat_list_cmp_total}
use Rattle.std.proofs.lemmas.Map.Lookups.{exact_bytes}
use Rattle.bn_quad.specs.Quadruples.{Quadruples, Rule, deeds_of}
use Rattle.bn_network.specs.Controls.{ControlState, Begin, End, Reads, Shifts, Writes, Occurs, is_begin, is_end}
use Rattle.bn_network.specs.Controls.{is_open, is_read, is_shift, is_write, key_of, writes_of, rising}
use Rattle.bn_lists.specs.Lists.{Has}
use Rattle.bn_network.proofs.ListedLemmas.{member_split, member_turned}
use Rattle.bn_network.proofs.RangeLemmas.{rising_low}

-- states by their keys
abbrev pub by_key : ControlState → ControlState → Ordering
by_key q r = slice_cmp nat_cmp (key_of q) (key_of r)

-- this is a total order
pub keys_ordered : IsTotalOrder by_key
keys_ordered = on_total key_of nat_list_cmp_total

-- a written tape is one of three
abbrev IsLow : ControlState → Type 0
IsLow (Writes a t u) = t ≤ 3
IsLow _ = Unit {0}

-- a tape that is written is one of three
written_low : (r : Rule ℕ) (before rest : List (ℕ × ℕ)) (p : ℕ × ℕ) → writes_of r ≡ before ++ (p ∷ rest) → p.0 ≤ 3
written_low r before rest p e =
    let is : Has (rising 1 (deeds_of r)) p = member_turned (rising 1 (deeds_of r)) p
    (member_split (writes_of r) before rest p e) in
    let low : p.0 < 1 + 3 = rising_low (deeds_of r) 1 p is in
    omega arith

-- so it is in each state that occurs
lows : (m : Quadruples) (q : ControlState) → Occurs m q → IsLow q
lows m Begin h = tt
lows m End h = tt
lows m (Reads a s) h = tt
lows m (Shifts n t) h = tt
lows m (Writes a t u) (is_begin e) = absurd (cc)
lows m (Writes a t u) (is_end e) = absurd (cc)
lows m (Writes a t u) (is_open b low other none e) = absurd (cc)
lows m (Writes a t u) (is_read n r is before rest p split e) = absurd (cc)
lows m (Writes a t u) (is_shift n r is before rest p split e) = absurd (cc)
lows m (Writes a t u) (is_write n r is before rest p split e) = let tape : t ≡ p.0 = cc in let low =
    written_low r before rest p split in omega arith

-- states are known by their keys
known : (q r : ControlState) → IsLow q → IsLow r → key_of q ≡ key_of r → q ≡ r
known Begin Begin h k e = refl
known Begin End h k e = absurd (cc)
known Begin (Reads b v) h k e = absurd (cc)
known Begin (Shifts j v) h k e = absurd (cc)
known Begin (Writes b v w) h k e = absurd (cc)
known End Begin h k e = absurd (cc)
known End End h k e = refl
known End (Reads b v) h k e = absurd (cc)
known End (Shifts j v) h k e = absurd (cc)
known End (Writes b v w) h k e = absurd (cc)
known (Reads a s) Begin h k e = absurd (cc)
known (Reads a s) End h k e = absurd (cc)
known (Reads a s) (Reads b v) h k e = let one : a ≡ b = cc in let two : s ≡ v = cc in λ i. Reads (one i) (two i)
known (Reads a s) (Shifts j v) h k e = absurd (cc)
known (Reads a s) (Writes b v w) h k e = absurd (cc)
known (Shifts n t) Begin h k e = absurd (cc)
known (Shifts n t) End h k e = absurd (cc)
known (Shifts n t) (Reads b v) h k e = absurd (cc)
known (Shifts n t) (Shifts j v) h k e = let one : n ≡ j = cc in let two : t ≡ v = cc in λ i. Shifts (one i) (two i)
known (Shifts n t) (Writes b v w) h k e = absurd (cc)
known (Writes a t u) Begin h k e = absurd (cc)
known (Writes a t u) End h k e = absurd (cc)
known (Writes a t u) (Reads b v) h k e = absurd (cc)
known (Writes a t u) (Shifts j v) h k e = absurd (cc)
known (Writes a t u) (Writes b v w) h k e =
    let one : a ≡ b = cc in
    let from : 3 - t ≡ 3 - v = cc in
    let two : t ≡ v = omega arith in
    let three : u ≡ w = cc in
    λ i. Writes (one i) (two i) (three i)

-- states that occur and tie are one
pub ties_one : (m : Quadruples) (q r : ControlState) → Occurs m q → Occurs m r → by_key q r ≡ Equal → q ≡ r
ties_one m q r h k e = known q r (lows m q h) (lows m r k) (exact_bytes (key_of q) (key_of r) e)

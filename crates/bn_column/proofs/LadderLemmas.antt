-- The wires of a column, row by row, and the net that has them.
use Rattle.std.proofs.Common.{refl, zero, suc, ◌≤◌, ◌≡◌, ◌≢◌, ℕ, ◌+◌, ◌*◌, ◌<◌, List, [], ◌∷◌, ◌++◌, length, sym, ap}
use Rattle.std.proofs.Common.{subst, ◌∙◌, arith, ◌⊎◌, inl, inr}
use Rattle.std.proofs.lemmas.List.{length-append}
use Rattle.std.proofs.lemmas.Bool.Decides.{nat_tests}
use Rattle.bn_circuits.specs.declared.line.Line.{Line}
use Rattle.bn_circuits.specs.declared.line.Wire.{Wire}
use Rattle.bn_element.specs.Rotary.{north, east, south, west}
use Rattle.bn_element.specs.declared.rotary.Rotary.{Rotary}
use Rattle.bn_circuits.specs.Parts.{Parts}
use Rattle.bn_circuits.specs.Wirings.{AreWiresOf, AreFitting}
use Rattle.bn_circuits.proofs.WiringsLemmas.{IsWire, no_wires, more_wire, same_wires, apart-wire, apart-IsOneToOne}
use Rattle.bn_column.specs.Columns.{IsInner, down, up, under, over, top}
use Rattle.bn_circuits.specs.Circuits.{line_at}
use Rattle.bn_circuits.specs.RotaryNets.{IsNetOf}
use Rattle.bn_column.specs.Nets.{IsColumnNet, wire_of}
use Rattle.bn_column.proofs.Rungs.{IsRung, rung_down, rung_up}
use Rattle.bn_circuits.proofs.RotaryNetLemmas.{rotary-table_at}

other_element : (e f l m : ℕ) → e ≢ f → line_at e l ≡ line_at f m → ⊥
other_element e f l m apart same = apart (ap (λ (x : Line). x.element) same)

other_line : (e f l m : ℕ) → l ≢ m → line_at e l ≡ line_at f m → ⊥
other_line e f l m apart same = apart (ap (λ (x : Line). x.line) same)

sides : {P : Type 0} {a b : Type 0} → a ⊎ b → (a → P) → (b → P) → P
sides (inl x) f g = f x
sides (inr y) f g = g y

module _ (b r x : ℕ) (at_row : x ≡ b + r) where
  abbrev downward : Wire
  downward = wire_of x south (x + 1) north

  abbrev upward : Wire
  upward = wire_of (x + 1) north x south

  abbrev HalfRung : Line → Line → Type 0
  HalfRung from to = IsRung b r from to ⊎ IsWire downward from to

  down_from : (to : Line) → IsRung b r downward.from to → ⊥
  down_from to (rung_down y below from ends) = (let apart : x
      ≢ b + y = omega arith in other_element x (b + y) south south apart from)
  down_from to (rung_up y below from ends) = other_line x (b + (y + 1)) south north (omega arith) from

  down_to : (from : Line) → IsRung b r from downward.to → ⊥
  down_to from (rung_down y below leaves to) = (let apart : x + 1
      ≢ b + (y + 1) = omega arith in other_element (x + 1) (b + (y + 1)) north north apart to)
  down_to from (rung_up y below leaves to) = other_line (x + 1) (b + y) north south (omega arith) to

  up_from : (to : Line) → HalfRung upward.from to → ⊥
  up_from to (inl (rung_down y below from ends)) = other_line (x + 1) (b + y) north south (omega arith) from
  up_from to (inl (rung_up y below from ends)) = (let apart : x + 1
      ≢ b + (y + 1) = omega arith in other_element (x + 1) (b + (y + 1)) north north apart from)
  up_from to (inr is) = other_line (x + 1) x north south (omega arith) is.leaves

  up_to : (from : Line) → HalfRung from upward.to → ⊥
  up_to from (inl (rung_down y below leaves to)) = other_line x (b + (y + 1)) south north (omega arith) to
  up_to from (inl (rung_up y below leaves to)) = (let apart : x
      ≢ b + y = omega arith in other_element x (b + y) south south apart to)
  up_to from (inr is) = other_line x (x + 1) south north (omega arith) is.ends

  same_line_at : (e f l : ℕ) → e ≡ f → line_at e l ≡ line_at f l
  same_line_at e f l same = ap (λ n. line_at n l) same

  to_rung : (from to : Line) → HalfRung from to ⊎ IsWire upward from to → IsRung b (r + 1) from to
  to_rung from to (inl (inl (rung_down y below leaves ends))) = rung_down y (omega arith) leaves ends
  to_rung from to (inl (inl (rung_up y below leaves ends))) = rung_up y (omega arith) leaves ends
  to_rung from to (inl (inr is)) = rung_down r (omega arith) (is.leaves ∙ same_line_at x (b + r) south at_row)
      (is.ends ∙ same_line_at (x + 1) (b + (r + 1)) north (omega arith))
  to_rung from to (inr is) = rung_up r (omega arith) (is.leaves
      ∙ same_line_at (x + 1) (b + (r + 1)) north (omega arith)) (is.ends ∙ same_line_at x (b + r) south at_row)

  last_or_earlier : (y : ℕ) → y < r + 1 → (y < r) ⊎ (y ≡ r)
  last_or_earlier y h = grind (arith, nat_tests)

  from_rung : (from to : Line) → IsRung b (r + 1) from to → HalfRung from to ⊎ IsWire upward from to
  from_rung from to (rung_down y below leaves ends) =
      elim (last_or_earlier y below) [
        | inl earlier ↦ inl (inl (rung_down y earlier leaves ends))
        | inr last ↦ inl (inr (record {
          leaves = leaves ∙ same_line_at (b + y) x south (omega arith);
          ends = ends ∙ same_line_at (b + (y + 1)) (x + 1) north (omega arith);
        }))
      ]
  from_rung from to (rung_up y below leaves ends) =
      elim (last_or_earlier y below) [
        | inl earlier ↦ inl (inl (rung_up y earlier leaves ends))
        | inr last ↦ inr (record {
          leaves = leaves ∙ same_line_at (b + (y + 1)) (x + 1) north (omega arith);
          ends = ends ∙ same_line_at (b + y) x south (omega arith);
        })
      ]

  pub rung_more : (ws : List Wire) → AreWiresOf (IsRung b r) ws
      → AreWiresOf (IsRung b (r + 1)) ((ws ++ downward ∷ []) ++ upward ∷ [])
  rung_more ws are =
      let half = more_wire (IsRung b r) ws downward are down_from down_to in
      let whole = more_wire HalfRung (ws ++ downward ∷ []) upward half up_from up_to in
      same_wires (λ from to. HalfRung from to ⊎ IsWire upward from to) (IsRung b (r + 1))
      ((ws ++ downward ∷ []) ++ upward ∷ []) whole to_rung from_rung

pub no_rung : (b : ℕ) → AreWiresOf (IsRung b 0) []
no_rung b = no_wires (IsRung b 0) never
  where
    never : (from to : Line) → IsRung b 0 from to → ⊥
    never from to (rung_down y below leaves ends) = absurd (omega arith)
    never from to (rung_up y below leaves ends) = absurd (omega arith)

module _ (b k : ℕ) (some : 0 < k) where
  abbrev below_it : Wire
  below_it = wire_of (b + k) south (b + k) south

  abbrev over_it : Wire
  over_it = wire_of (b + k) west b north

  abbrev to_top : Wire
  to_top = wire_of b north (b + k) east

  abbrev First : Line → Line → Type 0
  First from to = IsRung b k from to ⊎ IsWire below_it from to

  abbrev Second : Line → Line → Type 0
  Second from to = First from to ⊎ IsWire over_it from to

  first_from : (to : Line) → IsRung b k below_it.from to → ⊥
  first_from to (rung_down y below from ends) = (let apart : b + k
      ≢ b + y = omega arith in other_element (b + k) (b + y) south south apart from)
  first_from to (rung_up y below from ends) = other_line (b + k) (b + (y + 1)) south north (omega arith) from

  first_to : (from : Line) → IsRung b k from below_it.to → ⊥
  first_to from (rung_down y below leaves to) = other_line (b + k) (b + (y + 1)) south north (omega arith) to
  first_to from (rung_up y below leaves to) = (let apart : b + k
      ≢ b + y = omega arith in other_element (b + k) (b + y) south south apart to)

  second_from : (to : Line) → First over_it.from to → ⊥
  second_from to (inl (rung_down y below from ends)) = other_line (b + k) (b + y) west south (omega arith) from
  second_from to (inl (rung_up y below from ends)) = other_line (b + k) (b + (y + 1)) west north (omega arith) from
  second_from to (inr is) = other_line (b + k) (b + k) west south (omega arith) is.leaves

  second_to : (from : Line) → First from over_it.to → ⊥
  second_to from (inl (rung_down y below leaves to)) = (let apart : b
      ≢ b + (y + 1) = omega arith in other_element b (b + (y + 1)) north north apart to)
  second_to from (inl (rung_up y below leaves to)) = other_line b (b + y) north south (omega arith) to
  second_to from (inr is) = other_line b (b + k) north south (omega arith) is.ends

  third_from : (to : Line) → Second to_top.from to → ⊥
  third_from to (inl (inl (rung_down y below from ends))) = other_line b (b + y) north south (omega arith) from
  third_from to (inl (inl (rung_up y below from ends))) = (let apart : b
      ≢ b + (y + 1) = omega arith in other_element b (b + (y + 1)) north north apart from)
  third_from to (inl (inr is)) = other_line b (b + k) north south (omega arith) is.leaves
  third_from to (inr is) = other_line b (b + k) north west (omega arith) is.leaves

  third_to : (from : Line) → Second from to_top.to → ⊥
  third_to from (inl (inl (rung_down y below leaves to))) = other_line (b + k) (b + (y + 1)) east north (omega arith) to
  third_to from (inl (inl (rung_up y below leaves to))) = other_line (b + k) (b + y) east south (omega arith) to
  third_to from (inl (inr is)) = other_line (b + k) (b + k) east south (omega arith) is.ends
  third_to from (inr is) = other_line (b + k) b east north (omega arith) is.ends

  to_inner : (from to : Line) → Second from to ⊎ IsWire to_top from to → IsInner b k from to
  to_inner from to (inl (inl (inl (rung_down y below leaves ends)))) = down y below leaves ends
  to_inner from to (inl (inl (inl (rung_up y below leaves ends)))) = up y below leaves ends
  to_inner from to (inl (inl (inr is))) = under is.leaves is.ends
  to_inner from to (inl (inr is)) = over is.leaves is.ends
  to_inner from to (inr is) = top is.leaves is.ends

  from_inner : (from to : Line) → IsInner b k from to → Second from to ⊎ IsWire to_top from to
  from_inner from to (down y below leaves ends) = inl (inl (inl (rung_down y below leaves ends)))
  from_inner from to (up y below leaves ends) = inl (inl (inl (rung_up y below leaves ends)))
  from_inner from to (under leaves ends) = inl (inl (inr (record { leaves = leaves; ends = ends })))
  from_inner from to (over leaves ends) = inl (inr (record { leaves = leaves; ends = ends }))
  from_inner from to (top leaves ends) = inr (record { leaves = leaves; ends = ends })

  pub rungs_close : (ws : List Wire) → AreWiresOf (IsRung b k) ws
      → AreWiresOf (IsInner b k) (((ws ++ below_it ∷ []) ++ over_it ∷ []) ++ to_top ∷ [])
  rungs_close ws are =
      let one = more_wire (IsRung b k) ws below_it are first_from first_to in
      let two = more_wire First (ws ++ below_it ∷ []) over_it one second_from second_to in
      let three = more_wire Second ((ws ++ below_it ∷ []) ++ over_it ∷ []) to_top two third_from third_to in
      same_wires (λ from to. Second from to ⊎ IsWire to_top from to) (IsInner b k)
      (((ws ++ below_it ∷ []) ++ over_it ∷ []) ++ to_top ∷ []) three to_inner from_inner

-- the wires of the first rows, and their number
pub record IsLadder (b r : ℕ) (ws : List Wire) : Type 0 where
  pub wires : AreWiresOf (IsRung b r) ws
  pub count : length ws ≡ 2 * r

pub ladder_more : (b r x : ℕ) (ws ms : List Wire) → x ≡ b + r → IsLadder b r ws
    → ms ≡ (ws ++ wire_of x south (x + 1) north ∷ []) ++ wire_of (x + 1) north x south ∷ [] → IsLadder b (r + 1) ms
ladder_more b r x ws ms at_row is more =
    let first = length-append ws (wire_of x south (x + 1) north ∷ []) in
    let second = length-append (ws ++ wire_of x south (x + 1) north ∷ []) (wire_of (x + 1) north x south ∷ []) in
    let count : length ws ≡ 2 * r = is.count in
    let counted : length ((ws ++ wire_of x south (x + 1) north ∷ []) ++ wire_of (x + 1) north x south ∷ [])
    ≡ 2 * (r + 1) = omega arith in
    record {
      wires = subst (AreWiresOf (IsRung b (r + 1))) (sym more) (rung_more b r x at_row ws is.wires);
      count = ap length more ∙ counted;
    }

pub ladder_closed : (b k r : ℕ) (ws one two three : List Wire) (v w x : Wire) → 0 < k → r ≡ k → IsLadder b r ws
    → v ≡ wire_of (b + k) south (b + k) south → w ≡ wire_of (b + k) west b north → x ≡ wire_of b north (b + k) east
    → one ≡ ws ++ v ∷ [] → two ≡ one ++ w ∷ [] → three ≡ two ++ x ∷ [] → AreWiresOf (IsInner b k) three
ladder_closed b k r ws one two three v w x some all is is_v is_w is_x is_one is_two is_three =
    let first : one ≡ ws ++ below_it b k some ∷ [] = is_one ∙ ap (λ y. ws ++ y ∷ []) is_v in
    let second : two ≡ (ws ++ below_it b k some ∷ []) ++ over_it b k some ∷ [] =
    is_two ∙ ap (λ y. one ++ y ∷ []) is_w ∙ ap (λ ys. ys ++ over_it b k some ∷ []) first in
    let third : three ≡ ((ws ++ below_it b k some ∷ []) ++ over_it b k some ∷ []) ++ to_top b k some ∷ [] =
    is_three ∙ ap (λ y. two ++ y ∷ []) is_x ∙ ap (λ ys. ys ++ to_top b k some ∷ []) second in
    subst (AreWiresOf (IsInner b k)) (sym third) (rungs_close b k some ws
    (subst (λ n. AreWiresOf (IsRung b n) ws) all is.wires))

inner_fits : (k : ℕ) (from to : Line) → IsInner 0 k from to → (from.element < k + 1) × (from.line < 4)
    × (to.element < k + 1) × (to.line < 4)
inner_fits k from to (down r below leaves ends) = rw (leaves, ends) (omega arith, omega arith, omega arith, omega arith)
inner_fits k from to (up r below leaves ends) = rw (leaves, ends) (omega arith, omega arith, omega arith, omega arith)
inner_fits k from to (under leaves ends) = rw (leaves, ends) (omega arith, omega arith, omega arith, omega arith)
inner_fits k from to (over leaves ends) = rw (leaves, ends) (omega arith, omega arith, omega arith, omega arith)
inner_fits k from to (top leaves ends) = rw (leaves, ends) (omega arith, omega arith, omega arith, omega arith)

pub column-AreFitting : (k : ℕ) (ws : List Wire) → AreWiresOf (IsInner 0 k) ws → AreFitting (k + 1) ws
column-AreFitting k ws are = record {
  fits = λ n w h. inner_fits k w.from w.to (are.sound w.from w.to (apart-wire ws n w are.apart h));
}

pub net-IsColumnNet : (net : Parts Rotary) (k : ℕ) (ws : List Wire) → AreWiresOf (IsInner 0 k) ws
    → IsNetOf net (k + 1) ws → IsColumnNet net k
net-IsColumnNet net k ws are is =
    record {
      elements = is.elements;
      column = record {
        rotaries = λ r within. rotary-table_at net.elements (0 + r)
            (let count : length net.elements ≡ k + 1 = is.elements in omega arith);
        wired = λ from to inner. is.targets from ∙ are.complete from to inner;
      };
      no_others = λ from to h. are.sound from to (sym (is.targets from) ∙ h);
    }

rungs : ℕ → ℕ → List Wire
rungs b zero = []
rungs b (suc r) = (rungs b r ++ wire_of (b + r) south (b + r + 1) north ∷ []) ++ wire_of (b + r + 1) north (b + r) south
    ∷ []

rungs-wires : (b r : ℕ) → AreWiresOf (IsRung b r) (rungs b r)
unfolding rungs
rungs-wires b zero = no_rung b
rungs-wires b (suc r) =
    let same : r + 1 ≡ suc r = omega arith in
    subst (λ n. AreWiresOf (IsRung b n) (rungs b (suc r))) same
    (rung_more b r (b + r) refl (rungs b r) (rungs-wires b r))

-- there is a list of them
pub inner_wires : (b k : ℕ) → 0 < k → (ws : List Wire) × AreWiresOf (IsInner b k) ws
inner_wires b k some = (
  ((rungs b k ++ below_it b k some ∷ []) ++ over_it b k some ∷ []) ++ to_top b k some ∷ [],
  rungs_close b k some (rungs b k) (rungs-wires b k),
)

-- one output line at most leads to an input line
pub inner-one_source : (b k : ℕ) → 0 < k → (from line to : Line) → IsInner b k from to → IsInner b k line to
    → from ≡ line
inner-one_source b k some from line to first second =
    let list = inner_wires b k some in
    let one = (apart-IsOneToOne list.0 list.1.apart from to).0 (list.1.complete from to first) in
    let other = (apart-IsOneToOne list.0 list.1.apart line to).0 (list.1.complete line to second) in
    cc

-- the numbers of a column's own wires
pub record IsInnerWithin (b k : ℕ) (from to : Line) : Type 0 where
  pub from_low : b ≤ from.element
  pub from_high : from.element ≤ b + k
  pub from_line : from.line < 4
  pub to_low : b ≤ to.element
  pub to_high : to.element ≤ b + k
  pub to_line : to.line < 4

pub inner-IsInnerWithin : (b k : ℕ) (from to : Line) → IsInner b k from to → IsInnerWithin b k from to
inner-IsInnerWithin b k from to (down r below leaves ends) =
    rw (leaves, ends) (record {
      from_low = omega arith;
      from_high = omega arith;
      from_line = omega arith;
      to_low = omega arith;
      to_high = omega arith;
      to_line = omega arith;
    })
inner-IsInnerWithin b k from to (up r below leaves ends) = rw (leaves, ends)
    (record {
      from_low = omega arith;
      from_high = omega arith;
      from_line = omega arith;
      to_low = omega arith;
      to_high = omega arith;
      to_line = omega arith;
    })
inner-IsInnerWithin b k from to (under leaves ends) = rw (leaves, ends)
    (record {
      from_low = omega arith;
      from_high = omega arith;
      from_line = omega arith;
      to_low = omega arith;
      to_high = omega arith;
      to_line = omega arith;
    })
inner-IsInnerWithin b k from to (over leaves ends) = rw (leaves, ends)
    (record {
      from_low = omega arith;
      from_high = omega arith;
      from_line = omega arith;
      to_low = omega arith;
      to_high = omega arith;
      to_line = omega arith;
    })
inner-IsInnerWithin b k from to (top leaves ends) = rw (leaves, ends)
    (record {
      from_low = omega arith;
      from_high = omega arith;
      from_line = omega arith;
      to_low = omega arith;
      to_high = omega arith;
      to_line = omega arith;
    })

-- no row's east or west is the beginning of one, nor the end, and no east but the bottom's is an end
pub inner-row_from : (b k r l : ℕ) (to : Line) → r < k → (l ≡ east) ⊎ (l ≡ west) → IsInner b k (line_at (b + r) l) to
    → ⊥
inner-row_from b k r l to row side (down x below leaves ends) =
    sides side (λ e. other_line (b + r) (b + x) l south (λ h. absurd (omega arith)) leaves)
    (λ w. other_line (b + r) (b + x) l south (λ h. absurd (omega arith)) leaves)
inner-row_from b k r l to row side (up x below leaves ends) =
    sides side (λ e. other_line (b + r) (b + (x + 1)) l north (λ h. absurd (omega arith)) leaves)
    (λ w. other_line (b + r) (b + (x + 1)) l north (λ h. absurd (omega arith)) leaves)
inner-row_from b k r l to row side (under leaves ends) = (let apart : b + r
    ≢ b + k = omega arith in other_element (b + r) (b + k) l south apart leaves)
inner-row_from b k r l to row side (over leaves ends) = (let apart : b + r
    ≢ b + k = omega arith in other_element (b + r) (b + k) l west apart leaves)
inner-row_from b k r l to row side (top leaves ends) = sides side
    (λ e. other_line (b + r) b l north (λ h. absurd (omega arith)) leaves)
    (λ w. other_line (b + r) b l north (λ h. absurd (omega arith)) leaves)

pub inner-row_to : (b k r l : ℕ) (from : Line) → r < k → (l ≡ east) ⊎ (l ≡ west) → IsInner b k from (line_at (b + r) l)
    → ⊥
inner-row_to b k r l from row side (down x below leaves ends) =
    sides side (λ e. other_line (b + r) (b + (x + 1)) l north (λ h. absurd (omega arith)) ends)
    (λ w. other_line (b + r) (b + (x + 1)) l north (λ h. absurd (omega arith)) ends)
inner-row_to b k r l from row side (up x below leaves ends) =
    sides side (λ e. other_line (b + r) (b + x) l south (λ h. absurd (omega arith)) ends)
    (λ w. other_line (b + r) (b + x) l south (λ h. absurd (omega arith)) ends)
inner-row_to b k r l from row side (under leaves ends) = (let apart : b + r
    ≢ b + k = omega arith in other_element (b + r) (b + k) l south apart ends)
inner-row_to b k r l from row side (over leaves ends) = sides side
    (λ e. other_line (b + r) b l north (λ h. absurd (omega arith)) ends)
    (λ w. other_line (b + r) b l north (λ h. absurd (omega arith)) ends)
inner-row_to b k r l from row side (top leaves ends) = (let apart : b + r
    ≢ b + k = omega arith in other_element (b + r) (b + k) l east apart ends)

-- The numbers of the moves that leave and lead to a pair, and what the table of the moves has there.
use Rattle.std.proofs.Common.{◌≡◌, ℕ, suc, ◌+◌, ◌-◌, ◌≤◌, Bool, true, false, cond, List, [], ◌∷◌, ◌++◌, length, map}
use Rattle.std.proofs.Common.{Option, Some, None, slice_get, refl, sym, ◌∙◌, arith}
use Rattle.std.specs.List.{position_from}
use Rattle.std.specs.HashMap.{get}
use Rattle.bn_element.specs.Tables.{go_by, back_by}
use Rattle.bn_rsm.specs.Machines.{move_of}
use Rattle.bn_rsm.specs.Faults.{leaves, leads}
use Rattle.bn_rsm.specs.Pairs.{Numbers, AreNumbers, same_pair}
use Rattle.bn_rsm.specs.declared.rsm_move.RsmMove.{RsmMove}

-- the first number after one element more
abbrev pub pushed : Option ℕ → Bool → ℕ → Option ℕ
pushed (Some n) b k = Some n
pushed None b k = cond b (Some k) None

push_by : {X : Type 0} (t : X → Bool) (a k : ℕ) (b : Bool) (xs : List X) (y : X)
    → position_from t (a + 1) (xs ++ y ∷ []) ≡ pushed (position_from t (a + 1) xs) (t y) k
    → cond b (Some a) (position_from t (a + 1) (xs ++ y ∷ []))
    ≡ pushed (cond b (Some a) (position_from t (a + 1) xs)) (t y) k
push_by t a k true xs y rest = refl
push_by t a k false xs y rest = rest

pub position_from-push : {X : Type 0} (t : X → Bool) (a k : ℕ) (xs : List X) (y : X) → k ≡ a + length xs
    → position_from t a (xs ++ y ∷ []) ≡ pushed (position_from t a xs) (t y) k
position_from-push t a k [] y sum = let e : k ≡ a = omega arith in rw e refl
position_from-push t a k (x ∷ xs) y sum = push_by t a k (t x) xs y (position_from-push t (a + 1) k xs y (omega arith))

-- move n, where they are counted from a, is the first that leaves the pair, and the table goes by it
pub record IsMoveFrom (ms : List RsmMove) (a q i n : ℕ) : Type 0 where
  pub found : RsmMove
  pub low : a ≤ n
  pub stands : slice_get ms (n - a) ≡ Some found
  pub goes : go_by (map move_of ms) q i ≡ Some (found.next, found.out)

pub record IsMoveTo (ms : List RsmMove) (a r o n : ℕ) : Type 0 where
  pub found : RsmMove
  pub low : a ≤ n
  pub stands : slice_get ms (n - a) ≡ Some found
  pub comes : back_by (map move_of ms) r o ≡ Some (found.state, found.line)

from_by : (m : RsmMove) (ms : List RsmMove) (a q i n : ℕ) (b : Bool) → leaves q i m ≡ b
    → (position_from (leaves q i) (a + 1) ms ≡ Some n → IsMoveFrom ms (a + 1) q i n)
    → cond b (Some a) (position_from (leaves q i) (a + 1) ms) ≡ Some n → IsMoveFrom (m ∷ ms) a q i n
from_by m ms a q i n true is later h =
    let e : a ≡ n = cc in
    let first : n - a ≡ 0 = omega arith in
    record { found = m; low = omega arith; stands = rw first refl; goes = rw is refl }
from_by m ms a q i n false is later h =
    let rest = later h in
    let low : a + 1 ≤ n = rest.low in
    let one_more : n - a ≡ suc (n - (a + 1)) = omega arith in
    record { found = rest.found; low = omega arith; stands = rw one_more rest.stands; goes = rw is rest.goes }

number-go_by : (ms : List RsmMove) (a q i n : ℕ) → position_from (leaves q i) a ms ≡ Some n → IsMoveFrom ms a q i n
number-go_by [] a q i n h = absurd (cc)
number-go_by (m ∷ ms) a q i n h = from_by m ms a q i n (leaves q i m) refl (number-go_by ms (a + 1) q i n) h

to_by : (m : RsmMove) (ms : List RsmMove) (a r o n : ℕ) (b : Bool) → leads r o m ≡ b
    → (position_from (leads r o) (a + 1) ms ≡ Some n → IsMoveTo ms (a + 1) r o n)
    → cond b (Some a) (position_from (leads r o) (a + 1) ms) ≡ Some n → IsMoveTo (m ∷ ms) a r o n
to_by m ms a r o n true is later h =
    let e : a ≡ n = cc in
    let first : n - a ≡ 0 = omega arith in
    record { found = m; low = omega arith; stands = rw first refl; comes = rw is refl }
to_by m ms a r o n false is later h =
    let rest = later h in
    let low : a + 1 ≤ n = rest.low in
    let one_more : n - a ≡ suc (n - (a + 1)) = omega arith in
    record { found = rest.found; low = omega arith; stands = rw one_more rest.stands; comes = rw is rest.comes }

number-back_by : (ms : List RsmMove) (a r o n : ℕ) → position_from (leads r o) a ms ≡ Some n → IsMoveTo ms a r o n
number-back_by [] a r o n h = absurd (cc)
number-back_by (m ∷ ms) a r o n h = to_by m ms a r o n (leads r o m) refl (number-back_by ms (a + 1) r o n) h

none_from : (m : RsmMove) (ms : List RsmMove) (a q i : ℕ) (b : Bool) → leaves q i m ≡ b
    → (position_from (leaves q i) (a + 1) ms ≡ None → go_by (map move_of ms) q i ≡ None)
    → cond b (Some a) (position_from (leaves q i) (a + 1) ms) ≡ None → go_by (map move_of (m ∷ ms)) q i ≡ None
none_from m ms a q i true is later h = absurd (cc)
none_from m ms a q i false is later h = rw is (later h)

pub no_number-go_by : (ms : List RsmMove) (a q i : ℕ) → position_from (leaves q i) a ms ≡ None
    → go_by (map move_of ms) q i ≡ None
no_number-go_by [] a q i h = refl
no_number-go_by (m ∷ ms) a q i h = none_from m ms a q i (leaves q i m) refl (no_number-go_by ms (a + 1) q i) h

none_to : (m : RsmMove) (ms : List RsmMove) (a r o : ℕ) (b : Bool) → leads r o m ≡ b
    → (position_from (leads r o) (a + 1) ms ≡ None → back_by (map move_of ms) r o ≡ None)
    → cond b (Some a) (position_from (leads r o) (a + 1) ms) ≡ None → back_by (map move_of (m ∷ ms)) r o ≡ None
none_to m ms a r o true is later h = absurd (cc)
none_to m ms a r o false is later h = rw is (later h)

pub no_number-back_by : (ms : List RsmMove) (a r o : ℕ) → position_from (leads r o) a ms ≡ None
    → back_by (map move_of ms) r o ≡ None
no_number-back_by [] a r o h = refl
no_number-back_by (m ∷ ms) a r o h = none_to m ms a r o (leads r o m) refl (no_number-back_by ms (a + 1) r o) h

-- ---- what the maps of the numbers give

module _ (from to : Numbers) (ms : List RsmMove) (numbers : AreNumbers from to ms) where
  pub move_from : (q i n : ℕ) → Some n ≡ get same_pair from (q, i) → IsMoveFrom ms 1 q i n
  move_from q i n h = number-go_by ms 1 q i n (sym (numbers.leaving q i) ∙ sym h)

  pub move_to : (r o n : ℕ) → Some n ≡ get same_pair to (r, o) → IsMoveTo ms 1 r o n
  move_to r o n h = number-back_by ms 1 r o n (sym (numbers.leading r o) ∙ sym h)

  pub no_move_from : (q i : ℕ) → None ≡ get same_pair from (q, i) → go_by (map move_of ms) q i ≡ None
  no_move_from q i h = no_number-go_by ms 1 q i (sym (numbers.leaving q i) ∙ sym h)

  pub no_move_to : (r o : ℕ) → None ≡ get same_pair to (r, o) → back_by (map move_of ms) r o ≡ None
  no_move_to r o h = no_number-back_by ms 1 r o (sym (numbers.leading r o) ∙ sym h)

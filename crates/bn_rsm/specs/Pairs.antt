-- An index of moves by the pairs that they leave and lead to: two maps from pairs of state and port to numbers of
-- moves.
use Rattle.std.specs.Prelude.{◌≡◌, ℕ, ◌==◌, ◌&&◌, Bool, List, length, ◌<◌, ◌^◌, Option, Some, None, Result, Ok, Err}
use Rattle.std.specs.HashMap.{HashMap, get}
use Rattle.std.specs.declared.hash.FoldHasher.{FoldHasher}
use Rattle.std.specs.declared.hash.BuildHasherDefault.{BuildHasherDefault}
use Rattle.bn_rsm.specs.Faults.{number_from, number_to, MoveFault, out_of_range, same_domain, same_range}
use Rattle.bn_rsm.specs.declared.refusal.RsmRefusal.{RsmRefusal}
use Rattle.bn_rsm.specs.declared.refusal.RsmRefusal.TheVariants.{SameDomain, SameRange, Range}
use Rattle.bn_rsm.specs.declared.rsm_move.RsmMove.{RsmMove}

abbrev pub Numbers : Type 0
Numbers = HashMap (ℕ × ℕ) ℕ (BuildHasherDefault FoldHasher)

-- whether two pairs are equal, as the maps compare them
abbrev pub same_pair : ℕ × ℕ → ℕ × ℕ → Bool
same_pair x y = x.0 == y.0 && x.1 == y.1

-- the maps hold the number of the first move that leaves each pair, and of the first move that leads to each pair
pub record AreNumbers (from to : Numbers) (moves : List RsmMove) : Type 0 where
  pub leaving : (q i : ℕ) → get same_pair from (q, i) ≡ number_from moves q i
  pub leading : (r o : ℕ) → get same_pair to (r, o) ≡ number_to moves r o

-- the invariant of a machine's index: the maps hold the numbers of its moves, of which there are fewer than 2^32
pub record IsKept (from to : Numbers) (moves : List RsmMove) : Type 0 where
  pub numbers : AreNumbers from to moves
  pub few : length moves < 2 ^ 32

-- what a check returns for the fault that it found in the move with this number
abbrev pub checked : Option MoveFault → ℕ → Result (Unit {0}) RsmRefusal
checked None j = Ok tt
checked (Some out_of_range) j = Err (Range j)
checked (Some (same_domain i)) j = Err (SameDomain i j)
checked (Some (same_range i)) j = Err (SameRange i j)

-- A word on tape 1 alone, as one of three.
use Rattle.std.specs.Prelude.{ℕ, ◌≤◌, List, [], length}
use Rattle.std.proofs.Common.{arith}
use Rattle.bn_machine.specs.Outcome.{Limits}
use Rattle.bn_quad.specs.Quadruples.{Quadruples}
use Rattle.bn_network.specs.Starts.{AreInputs}
use Rattle.bn_network_assembly.specs.Assembled.{IsWordOf}

-- where it fits, the three fit
pub word-inputs : (m : Quadruples) (l : Limits) (word : List ℕ) → IsWordOf m word → length word ≤ l.right
    → AreInputs m l word [] []
word-inputs m l word letters fits = record {
  one_letters = λ k d low. (letters k d low).1;
  two_letters = λ k d low. absurd (omega arith);
  three_letters = λ k d low. absurd (omega arith);
  one_room = fits;
  two_room = omega arith;
  three_room = omega arith;
}

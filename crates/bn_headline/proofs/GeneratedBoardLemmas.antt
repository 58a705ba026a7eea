-- The elements of the boards of the machine of k increments.
use Rattle.std.specs.Prelude.{◌≡◌, ℕ, ◌+◌, ◌*◌, ◌≤◌, List, length, refl}
use Rattle.std.proofs.Common.{zero, suc, arith, sym, ap, subst, ◌∙◌}
use Rattle.bn_circuits.specs.declared.net.TheConstants.{MOST_ELEMENTS}
use Rattle.bn_quad.specs.Quadruples.{Rule}
use Rattle.bn_bennett_laws.specs.List.{symbols_of}
use Rattle.bn_bennett_laws.specs.Stages.{IsStandardMachine}
use Rattle.bn_network.specs.Networks.{elements_by}
use Rattle.bn_reply_relations.proofs.ClosedLemmas.{counted}
use Rattle.bn_boards.proofs.ClosedLemmas.{flats_there}
use Rattle.bn_headline.specs.CountLaws.{without_shift, never_entered, never_left}
use Rattle.bn_headline.proofs.TotalLemmas.{controls_are_counted}
use Rattle.bn_gen.specs.Increments.{IsRoundCount, incrementer, quints_of}
use Rattle.bn_gen.proofs.MachineLemmas as gen
use Rattle.bn_headline.specs.GeneratedLaws.{elements_for, GeneratedControlsAreCounted, GeneratedBoardsAreCounted}
use Rattle.bn_headline.specs.GeneratedLaws.{GeneratedBoardsAreThere}
use Rattle.bn_reply_boards.specs.GenerateReply.{digits, window}

-- one, two, three or four rounds
pub by_rounds : (P : ℕ → Type 0) → P 1 → P 2 → P 3 → P 4 → (k : ℕ) → IsRoundCount k → P k
by_rounds P one two three four zero is = absurd (let some = is.some in omega arith)
by_rounds P one two three four (suc zero) is = one
by_rounds P one two three four (suc (suc zero)) is = two
by_rounds P one two three four (suc (suc (suc zero))) is = three
by_rounds P one two three four (suc (suc (suc (suc zero)))) is = four
by_rounds P one two three four (suc (suc (suc (suc (suc k))))) is = absurd (let few = is.few in omega arith)

standard_machine : (k : ℕ) → IsRoundCount k → IsStandardMachine (incrementer k)
standard_machine k is = record {
  machine = record {
    some = (let count = gen.counted k is in omega arith);
    few = gen.few k (quints_of k) is refl;
    in_range = gen.in_range k is;
  };
  standard = gen.standard k is;
}

-- what is counted of the list
record Counted (k : ℕ) : Type 0 where
  shiftless : without_shift (incrementer k) ≡ 1
  entered : never_entered (incrementer k) ≡ 0
  left : never_left (incrementer k) ≡ 0

list_counted : (k : ℕ) → IsRoundCount k → Counted k
list_counted = by_rounds Counted (record { shiftless = refl; entered = refl; left = refl })
    (record { shiftless = refl; entered = refl; left = refl })
    (record { shiftless = refl; entered = refl; left = refl })
    (record { shiftless = refl; entered = refl; left = refl })

pub generated-controls : GeneratedControlsAreCounted
generated-controls k is t names translated numbering =
    let all = controls_are_counted (incrementer k) t names (standard_machine k is) (gen.fits k is) translated numbering
    in
    let list = list_counted k is in
    let quints = gen.counted k is in
    let shiftless = list.shiftless in
    let entered = list.entered in
    let left = list.left in
    omega arith

-- the sum, by the numbers of symbols
sum_is : (k : ℕ) → IsRoundCount k → (rules : List (Rule ℕ)) (states : ℕ)
    → elements_by (record { rules = rules; states = states; symbols = symbols_of (incrementer k) }) (window k)
    (120 * k + 54) ≡ elements_for k
sum_is = by_rounds (λ k. (rules : List (Rule ℕ)) (states : ℕ)
    → elements_by (record { rules = rules; states = states; symbols = symbols_of (incrementer k) }) (window k)
    (120 * k + 54) ≡ elements_for k)
    (λ rules states. refl) (λ rules states. refl) (λ rules states. refl) (λ rules states. refl)

few_elements : (k : ℕ) → IsRoundCount k → elements_for k ≤ MOST_ELEMENTS
few_elements = by_rounds (λ k. elements_for k ≤ MOST_ELEMENTS) (omega arith) (omega arith) (omega arith) (omega arith)

pub generated-counted : GeneratedBoardsAreCounted
generated-counted k is count h =
    let m = h.translation.machine in
    let states : length h.names ≡ 120 * k + 54 = generated-controls k is h.translation h.names h.translates h.numbering
    in
    let sum : count ≡ elements_for k =
    h.is ∙ ap (λ zs. elements_by (record { rules = m.rules; states = m.states; symbols = zs }) (window k)
    (length h.names)) h.translates.symbols
    ∙ ap (elements_by (record { rules = m.rules; states = m.states; symbols = symbols_of (incrementer k) }) (window k))
    states ∙ sum_is k is m.rules m.states in
    (sum, subst (λ n. n ≤ MOST_ELEMENTS) (sym sum) (few_elements k is))

pub generated-there : GeneratedBoardsAreThere
generated-there k is =
    let board = flats_there (incrementer k) digits (window k) (standard_machine k is) (gen.fits k is) in
    let count = generated-counted k is _ (counted.1 (incrementer k) digits (window k) board.0 board.1) in
    (board.0, record { fits = omega arith; flat = board.1; few = count.1 }, count.0)

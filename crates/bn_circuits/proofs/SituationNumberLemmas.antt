-- Situations of a circuit have numbers: those of the states, and those of the input lines.
use Rattle.bn_lists.proofs.PairingLemmas.{paired_low}
use Rattle.std.specs.Prelude.{◌≡◌, ℕ, ◌+◌, ◌*◌, ◌<◌, List, [], ◌∷◌, refl}
use Rattle.std.proofs.Common.{zero, suc, arith, ap, subst}
use Rattle.std.proofs.Math.Nat.{mul_comm}
use Rattle.std.proofs.lemmas.Nat.{mul-add-lt, same_from_place}
use Rattle.bn_element.specs.Tables.{Table}
use Rattle.bn_circuits.specs.Circuits.{inputs_of}
use Rattle.bn_circuits.specs.Behaviours.{state_count, input_count}
use Rattle.bn_circuits.specs.Circuits.{AreStates}

-- ---- states

first_in : (t : Table) (ts : List Table) (q : ℕ) (qs : List ℕ) → AreStates (t ∷ ts) (q ∷ qs) → q < t.states
first_in t ts q qs are = are.range 0 q refl

rest_in : (t : Table) (ts : List Table) (q : ℕ) (qs : List ℕ) → AreStates (t ∷ ts) (q ∷ qs) → AreStates ts qs
rest_in t ts q qs are = record {
  count = let all = are.count in omega arith;
  range = λ e r stands. are.range (suc e) r stands;
}

pub states_number : List Table → List ℕ → ℕ
states_number [] qs = 0
states_number (t ∷ ts) [] = 0
states_number (t ∷ ts) (q ∷ qs) = q * state_count ts + states_number ts qs

pub states_low : (ts : List Table) (qs : List ℕ) → AreStates ts qs → states_number ts qs < state_count ts
unfolding states_number
states_low [] qs are = omega arith
states_low (t ∷ ts) [] are = let all = are.count in absurd (omega arith)
states_low (t ∷ ts) (q ∷ qs) are =
    paired_low q (states_number ts qs) t.states (state_count ts) (first_in t ts q qs are)
    (states_low ts qs (rest_in t ts q qs are))

pub states_apart : (ts : List Table) (qs rs : List ℕ) → AreStates ts qs → AreStates ts rs
    → states_number ts qs ≡ states_number ts rs → qs ≡ rs
unfolding states_number
states_apart [] [] [] are also same = refl
states_apart [] [] (r ∷ rs) are also same = let all = also.count in absurd (omega arith)
states_apart [] (q ∷ qs) rs are also same = let all = are.count in absurd (omega arith)
states_apart (t ∷ ts) [] rs are also same = let all = are.count in absurd (omega arith)
states_apart (t ∷ ts) (q ∷ qs) [] are also same = let all = also.count in absurd (omega arith)
states_apart (t ∷ ts) (q ∷ qs) (r ∷ rs) are also same =
    let inner = rest_in t ts q qs are in
    let other = rest_in t ts r rs also in
    let both = same_from_place q (states_number ts qs) r (states_number ts rs) (state_count ts)
    (states_low ts qs inner) (states_low ts rs other) same in
    let first : q ≡ r = both.0 in
    let rest : qs ≡ rs = states_apart ts qs rs inner other both.1 in
    λ i. first i ∷ rest i

-- ---- input lines

pub line_number : List Table → ℕ → ℕ → ℕ
line_number [] e i = 0
line_number (t ∷ ts) zero i = i
line_number (t ∷ ts) (suc e) i = t.inputs + line_number ts e i

pub line_low : (ts : List Table) (e i : ℕ) → i < inputs_of ts e → line_number ts e i < input_count ts
unfolding line_number
line_low [] e i low = absurd (omega arith)
line_low (t ∷ ts) zero i low = omega arith
line_low (t ∷ ts) (suc e) i low = let more = line_low ts e i low in omega arith

pub line_apart : (ts : List Table) (e f i j : ℕ) → i < inputs_of ts e → j < inputs_of ts f
    → line_number ts e i ≡ line_number ts f j → (e ≡ f) × (i ≡ j)
unfolding line_number
line_apart [] e f i j low less same = absurd (omega arith)
line_apart (t ∷ ts) zero zero i j low less same = (refl, same)
line_apart (t ∷ ts) zero (suc f) i j low less same = absurd (omega arith)
line_apart (t ∷ ts) (suc e) zero i j low less same = absurd (omega arith)
line_apart (t ∷ ts) (suc e) (suc f) i j low less same =
    let inner : line_number ts e i ≡ line_number ts f j = omega arith in
    let both = line_apart ts e f i j low less inner in
    (ap suc both.0, both.1)

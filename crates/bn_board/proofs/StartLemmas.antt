-- What an assembled network gives its board: modules that can be banks, the number of elements, and a start in which
-- each module is in one of its states.
use Rattle.std.specs.Prelude.{◌≡◌, ℕ, ◌+◌, ◌-◌, ◌*◌, ◌<◌, ◌≤◌, List, [], ◌∷◌, length, replicate, Some, slice_get}
use Rattle.std.proofs.Common.{arith, sym, ap, subst, ◌∙◌, inl, inr, length-set}
use Rattle.bn_element.specs.Tables.{Table}
use Rattle.bn_circuits.specs.Circuits.{Circuit}
use Rattle.bn_machine.specs.Outcome.{Limits}
use Rattle.bn_quad.specs.Quadruples.{Rule, Quadruples}
use Rattle.bn_element.specs.Rotary.{horizontal, vertical}
use Rattle.bn_realise.specs.Banks.{bottom_at}
use Rattle.bn_circuits.specs.declared.config.Config.{Config}
use Rattle.std.proofs.lemmas.Option.{slice_get_within}
use Rattle.bn_network.specs.Controls.{ControlState}
use Rattle.bn_network.specs.Networks.{IsNetwork, elements_by}
use Rattle.bn_network.specs.Starts.{start_from}
use Rattle.bn_network.specs.Moments.{HasLetters}
use Rattle.bn_boards.specs.Boards.{AreModules, StandsFor, bars_of, board_start, size, size_of}
use Rattle.bn_boards.proofs.TabledLemmas.{whole}
use Rattle.bn_boards.proofs.NetworkLemmas.{networks-modules}
use Rattle.bn_boards.proofs.StartsLemmas.{start-stands}
use Rattle.bn_network_assembly.proofs.SymbolLemmas.{some_letters}
use Rattle.std.proofs.lemmas.Bool.{cases_lt}
use Rattle.std.proofs.lemmas.Bool.Decides.{eqb_tells}
use Rattle.std.proofs.Math.Nat.{mul-le-mul_right}
use Rattle.std.specs.Option.{option_map_or}
use Rattle.bn_lists.specs.Runs.{Reaches}
use Rattle.bn_circuits.specs.Circuits.{IsConfig, Goes}
use Rattle.bn_circuits.specs.Stepping.{back}
use Rattle.bn_circuits.proofs.RunLemmas.{back-zero}
use Rattle.bn_circuits.proofs.StepLemmas.{slice_get-set_same, slice_get-set_other}
use Rattle.bn_element.specs.Rotary.{west}
use Rattle.bn_element.specs.declared.rotary.Rotary.{Rotary}
use Rattle.bn_circuits.specs.Parts.{Parts}
use Rattle.bn_circuits.specs.RotaryNets.{rotary_circuit}
use Rattle.bn_circuits.proofs.RotaryNetLemmas.{bars-IsConfig, rotary-table_at}
use Rattle.bn_boards.proofs.ModuleLemmas.{found, replicated}
use Rattle.bn_boards.proofs.BankedLemmas.{base-within as bank_within}
use Rattle.bn_boards.proofs.StartedLemmas.{get_left, get_right, bars-length}
use Rattle.bn_board.specs.Flattened.{IsReached}
use Rattle.bn_board.specs.Starts.{start_by}
use Rattle.bn_board.proofs.CopyLemmas.{bank_bars}
use Rattle.bn_network_assembly.specs.Assembled.{Assembled, IsKept, network_of}
use Rattle.bn_circuits.specs.declared.net.TheConstants.{MOST_ELEMENTS}

-- a machine by its parts
abbrev by_parts : List (Rule ℕ) → ℕ → List ℕ → Quadruples
by_parts rules states zs = record { rules = rules; states = states; symbols = zs }

-- how many elements its network's board has
whole_by : (rules : List (Rule ℕ)) (states : ℕ) (zs : List ℕ) (l : Limits) (names : List ControlState) (n : Circuit)
    → length zs ≡ 3 → IsNetwork (by_parts rules states zs) l names n
    → size n.tables ≡ elements_by (by_parts rules states zs) l (length names)
whole_by rules states (x ∷ y ∷ z ∷ []) l names n three network = whole rules states x y z l names n [] [] network
whole_by rules states [] l names n three network = absurd (omega arith)
whole_by rules states (x ∷ []) l names n three network = absurd (omega arith)
whole_by rules states (x ∷ y ∷ []) l names n three network = absurd (omega arith)
whole_by rules states (x ∷ y ∷ z ∷ u ∷ zs) l names n three network = absurd (omega arith)

module _ (a : Assembled) (kept : IsKept a) where
  starts_so : StandsFor (network_of a) (start_from kept.machine a.limits kept.start)
      (board_start (network_of a).tables (start_from kept.machine a.limits kept.start))
  starts_so = start-stands kept.machine a.limits kept.names (network_of a) kept.start
      kept.assembled.is_control.numbering kept.assembled.network kept.fits

  pub kept-letters : HasLetters kept.machine
  kept-letters = λ t tape. some_letters kept.machine kept.is_machine.tapes kept.within t tape

  -- its modules can be banks
  pub kept-modules : AreModules (network_of a)
  kept-modules = networks-modules kept.machine a.limits kept.names (network_of a) kept-letters
      kept.assembled.is_control.numbering kept.assembled.network

  -- the number of elements
  pub kept-size : size (network_of a).tables ≡ elements_by kept.machine a.limits (length kept.names)
  kept-size =
      let m = kept.machine in
      whole_by m.rules m.states m.symbols a.limits kept.names (network_of a) kept.is_machine.tapes
      kept.assembled.network

  pub kept-few : size (network_of a).tables ≤ MOST_ELEMENTS
  kept-few = let e = kept-size in let few = kept.assembled.few in omega arith

  -- the states at the start
  pub states-start : a.config.states ≡ (start_from kept.machine a.limits kept.start).states
  states-start = ap (λ (c : Config). c.states) kept.assembled.config

  pub states-counted : length a.config.states ≡ length (network_of a).tables
  states-counted = ap (λ qs. length qs) states-start ∙ starts_so.count

  pub states-within : (m q : ℕ) (t : Table) → slice_get a.config.states m ≡ Some q
      → slice_get (network_of a).tables m ≡ Some t → q < t.states
  states-within m q t at_q has_t =
      (starts_so.rests m t q has_t (subst (λ qs. slice_get qs m ≡ Some q) states-start at_q)).0

  pub kept-some : 0 < size (network_of a).tables
  kept-some =
      let modules = kept-modules in
      let low = starts_so.count in
      let one : 0 < length (start_from kept.machine a.limits kept.start).states = omega arith in
      let first : (t : Table) × (slice_get (network_of a).tables 0 ≡ Some t) =
      found (network_of a).tables 0 (omega arith) in
      let within = bank_within (network_of a).tables 0 first.0 first.1 in
      let states = modules.some_states 0 first.0 first.1 in
      let h : 1 * (first.0.inputs + 1) ≤ first.0.states * (first.0.inputs + 1) =
      mul-le-mul_right (first.0.inputs + 1) states in
      omega arith

-- ---- the configuration at the start

-- each bar is one
bank_low : (t : Table) (q e b : ℕ) → slice_get (bank_bars t q) e ≡ Some b → b < 2
bank_low t q e b at = elim (eqb_tells e (bottom_at 0 t.inputs q)) [
  | inl here ↦ (let low = slice_get_within (bank_bars t q) e b at in
      let count = length-set (replicate (size_of t) vertical) (bottom_at 0 t.inputs q) horizontal in
      let written = slice_get-set_same (replicate (size_of t) vertical) (bottom_at 0 t.inputs q) horizontal
      (let same = here.1 in omega arith) in
      let there : slice_get (bank_bars t q) (bottom_at 0 t.inputs q) ≡ Some b =
      subst (λ x. slice_get (bank_bars t q) x ≡ Some b) here.1 at in
      let is : horizontal ≡ b = cc in omega arith)
  | inr apart ↦ (let kept = slice_get-set_other (replicate (size_of t) vertical) (bottom_at 0 t.inputs q) e horizontal
      apart.1 in
      let is = replicated (size_of t) e vertical b (sym kept ∙ at) in omega arith)
]

bars_low : (ts : List Table) (qs : List ℕ) (e b : ℕ) → slice_get (bars_of ts qs) e ≡ Some b → b < 2
bars_low [] qs e b at = absurd (cc)
bars_low (t ∷ ts) [] e b at = absurd (cc)
bars_low (t ∷ ts) (q ∷ qs) e b at = elim (cases_lt e (length (bank_bars t q))) [
  | inl low ↦ bank_low t q e b (sym (get_left (bank_bars t q) (bars_of ts qs) e low) ∙ at)
  | inr high ↦ bars_low ts qs (e - length (bank_bars t q)) b (sym
      (get_right (bank_bars t q) (bars_of ts qs) (e - length (bank_bars t q)) e (omega
      arith)) ∙ at)
]

pub start-IsConfig : (net : Parts Rotary) (ts : List Table) (qs : List ℕ) → length net.elements ≡ size ts
    → length qs ≡ length ts → 0 < size ts
    → IsConfig (rotary_circuit net) (start_by ts qs)
start-IsConfig net ts qs elements counted some =
    bars-IsConfig net (start_by ts qs) (bars-length ts qs counted ∙ sym elements) (bars_low ts qs)
    (let at = rotary-table_at net.elements 0 (omega arith) in subst
    (λ o. west < option_map_or (λ (t : Table). t.inputs) o 0) (sym at) (omega arith))
    (omega arith)

-- a board at the start is reached from it
pub start-IsReached : (k : Circuit) (c : Config) → IsConfig k c → c.steps ≡ 0 → IsReached k c
start-IsReached k c good none = record {
  good = good;
  reaches = subst (λ n. Reaches (Goes k) n (back k c n) c) (sym none) (back-zero k c);
}

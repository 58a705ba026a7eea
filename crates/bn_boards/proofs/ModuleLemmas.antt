-- Where the banks of a network's modules lie on its board, and the lines between them.
use Rattle.std.specs.Prelude.{◌≡◌, ◌≢◌, ℕ, ◌+◌, ◌-◌, ◌<◌, ◌≤◌, List, [], ◌∷◌, length, replicate, Option, Some, None}
use Rattle.std.specs.Prelude.{slice_get, refl}
use Rattle.std.specs.Option.{option_map_or}
use Rattle.std.proofs.Common.{zero, suc, arith, ap, subst, inl, inr}
use Rattle.std.proofs.lemmas.Bool.Decides.{eqb_tells}
use Rattle.bn_element.specs.Tables.{Table}
use Rattle.bn_circuits.specs.Circuits.{Circuit, target, inputs_of, outputs_of}
use Rattle.bn_circuits.proofs.StepLemmas.{same_lines}
use Rattle.bn_circuits.specs.declared.line.Line.{Line}
use Rattle.bn_realise.specs.Banks.{column_at, bank_input_line, bank_output_line}
use Rattle.bn_realise.proofs.BankWiresLemmas.{column_once}
use Rattle.bn_boards.specs.Boards.{AreModules, base, size_of}
use Rattle.bn_boards.proofs.MovedLemmas.{in_bank, other_bank}

-- an element of a list, by its place
pub found : {X : Type 0} (xs : List X) (i : ℕ) → i < length xs → (x : X) × (slice_get xs i ≡ Some x)
found [] i low = absurd (omega arith)
found (x ∷ xs) zero low = (x, refl)
found (x ∷ xs) (suc i) low = found xs i (omega arith)

-- a list of one thing holds that alone
pub replicated : {X : Type 0} (n i : ℕ) (x y : X) → slice_get (replicate n x) i ≡ Some y → x ≡ y
replicated zero i x y h = absurd (cc)
replicated (suc n) zero x y h = cc
replicated (suc n) (suc i) x y h = replicated n i x y h

-- a line of an element is one of a table
pub input_table : (ts : List Table) (e i : ℕ) → i < inputs_of ts e
    → (t : Table) × (slice_get ts e ≡ Some t) × (i < t.inputs)
input_table ts e i low = by_table (slice_get ts e) refl low
  where
    by_table : (o : Option Table) → slice_get ts e ≡ o → i < option_map_or (λ (t : Table). t.inputs) o 0
        → (t : Table) × (slice_get ts e ≡ Some t)
        × (i < t.inputs)
    by_table None is low = absurd (omega arith)
    by_table (Some t) is low = (t, is, low)

-- and so is an output line
pub output_table : (ts : List Table) (e i : ℕ) → i < outputs_of ts e
    → (t : Table) × (slice_get ts e ≡ Some t) × (i < t.outputs)
output_table ts e i low = by_table (slice_get ts e) refl low
  where
    by_table : (o : Option Table) → slice_get ts e ≡ o → i < option_map_or (λ (t : Table). t.outputs) o 0
        → (t : Table) × (slice_get ts e ≡ Some t)
        × (i < t.outputs)
    by_table None is low = absurd (omega arith)
    by_table (Some t) is low = (t, is, low)

-- one table stands at a place
pub one_table : (ts : List Table) (m e : ℕ) (t u : Table) → m ≡ e → slice_get ts m ≡ Some t → slice_get ts e ≡ Some u
    → t ≡ u
one_table ts m e t u same has is = let h = subst (λ x. slice_get ts x ≡ Some t) same has in cc

-- two banks have no element in common
pub banks_apart : (ts : List Table) (m e : ℕ) (t u : Table) (x : ℕ) → slice_get ts m ≡ Some t → slice_get ts e ≡ Some u
    → m ≢ e → base ts m ≤ x
    → x < base ts m + size_of t → base ts e ≤ x → x < base ts e + size_of u → ⊥
banks_apart ts m e t u x has is apart low high low' high' =
    elim (other_bank ts m e t u x has is apart low high) [ inl before ↦ omega arith | inr after ↦ omega arith ]

-- two places of banks are one only where module, column and row are
pub place_once : (ts : List Table) (m e : ℕ) (t u : Table) (j i x y : ℕ) → slice_get ts m ≡ Some t
    → slice_get ts e ≡ Some u → j < t.states → i < u.states
    → x ≤ t.inputs → y ≤ u.inputs → column_at (base ts m) t.inputs j + x ≡ column_at (base ts e) u.inputs i + y
    → (m ≡ e) × (t ≡ u) × (j ≡ i) × (x ≡ y)
place_once ts m e t u j i x y has is there here row line same =
    let one = in_bank (base ts m) t j x there row in
    let two = in_bank (base ts e) u i y here line in
    elim (eqb_tells m e) [
      | inl alike ↦
          (let tables = one_table ts m e t u alike.1 has is in
          let bases : base ts m ≡ base ts e = ap (base ts) alike.1 in
          let inputs : t.inputs ≡ u.inputs = ap (λ (v : Table). v.inputs) tables in
          let columns : column_at (base ts m) t.inputs j ≡ column_at (base ts e) u.inputs j =
          λ k. column_at (bases k) (inputs k) j in
          let both = column_once (base ts e) u.inputs j i x y (omega arith) line (omega arith) in
          (alike.1, tables, both.0, both.1))
      | inr apart ↦ absurd (banks_apart ts m e t u (column_at (base ts m) t.inputs j + x) has is apart.1 one.0 one.1
          (omega arith) (omega arith))
    ]

module _ (n : Circuit) (modules : AreModules n) where
  -- the row of an output line that has a wire, and that of an input line
  pub wired_output : (out into : Line) (t : Table) → target n.wires out ≡ Some into
      → slice_get n.tables out.element ≡ Some t → out.line < t.inputs
  wired_output out into t wired has =
      let found = output_table n.tables out.element out.line (modules.circuit.wired out into wired).0 in
      let same = one_table n.tables out.element out.element found.0 t refl found.1 has in
      let low : out.line < t.outputs = subst (λ (u : Table). out.line < u.outputs) same found.2 in
      subst (λ x. out.line < x) (modules.square out.element t has) low

  -- a wire ends at a row
  pub wired_input : (out into : Line) → target n.wires out ≡ Some into
      → (t : Table) × (slice_get n.tables into.element ≡ Some t) × (into.line < t.inputs)
  wired_input out into wired = input_table n.tables into.element into.line (modules.circuit.wired out into wired).1

  -- lines of modules are one where their places on the board are
  pub output_once : (a b : Line) (t u : Table) → slice_get n.tables a.element ≡ Some t
      → slice_get n.tables b.element ≡ Some u → a.line < t.inputs
      → b.line < u.inputs → bank_output_line (base n.tables a.element) t a.line
      ≡ bank_output_line (base n.tables b.element) u b.line → a ≡ b
  output_once a b t u has is low high same =
      let some = modules.some_states a.element t has in
      let some' = modules.some_states b.element u is in
      let place = ap (λ (l : Line). l.element) same in
      let one = place_once n.tables a.element b.element t u (t.states - 1) (u.states - 1) a.line b.line has is
      (omega arith) (omega arith) (omega arith) (omega arith) place in
      same_lines a b one.0 one.3

  -- likewise for input lines
  pub input_once : (a b : Line) (t u : Table) → slice_get n.tables a.element ≡ Some t
      → slice_get n.tables b.element ≡ Some u → a.line < t.inputs
      → b.line < u.inputs → bank_input_line (base n.tables a.element) a.line
      ≡ bank_input_line (base n.tables b.element) b.line → a ≡ b
  input_once a b t u has is low high same =
      let some = modules.some_states a.element t has in
      let some' = modules.some_states b.element u is in
      let place : base n.tables a.element + a.line ≡ base n.tables b.element + b.line =
      ap (λ (l : Line). l.element) same in
      let one = place_once n.tables a.element b.element t u 0 0 a.line b.line has is some some' (omega arith)
      (omega arith) (omega arith) in
      same_lines a b one.0 one.3

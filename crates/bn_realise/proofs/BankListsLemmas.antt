-- Every bank has a list of its wires.
use Rattle.std.specs.Prelude.{◌≡◌, ℕ, ◌+◌, ◌<◌, ◌≤◌, List, [], ◌∷◌, ◌++◌, Option, Some, None, ◌⊎◌, refl}
use Rattle.std.proofs.Common.{zero, suc, arith, subst, inl, inr}
use Rattle.std.proofs.lemmas.Bool.{cases_lt}
use Rattle.bn_element.specs.Tables.{Table, IsReversible}
use Rattle.bn_circuits.specs.declared.line.Wire.{Wire}
use Rattle.bn_element.specs.Rotary.{east, west}
use Rattle.bn_column.proofs.LadderLemmas.{inner_wires}
use Rattle.bn_column.specs.Nets.{wire_of}
use Rattle.bn_circuits.specs.Wirings.{AreWiresOf}
use Rattle.bn_realise.specs.Banks.{column_at, IsBankWire}
use Rattle.bn_realise.specs.BankWires.{IsEarlier, IsHalf, IsStage}
use Rattle.bn_realise.proofs.BankWiresLemmas.{all_earlier, half_with, half_without, none_earlier, stage_begins}
use Rattle.bn_realise.proofs.BankWiresLemmas.{stage_ends, stage_with, stage_without}

module _ (b : ℕ) (t : Table) (reversible : IsReversible t) (square : t.outputs ≡ t.inputs) (some : 0 < t.inputs) where
  -- with the wire of a row on to the next column
  half_list : (j i : ℕ) (ws : List Wire) → i < t.inputs → AreWiresOf (IsStage b t j i) ws
      → (vs : List Wire) × AreWiresOf (IsHalf b t j i) vs
  half_list j i ws row stage = by_next (cases_lt (j + 1) t.states)
    where
      by_next : (j + 1 < t.states) ⊎ (t.states ≤ j + 1) → (vs : List Wire) × AreWiresOf (IsHalf b t j i) vs
      by_next (inl next) = (
        ws ++ wire_of (column_at b t.inputs j + i) east (column_at b t.inputs (j + 1) + i) west ∷ [],
        half_with b t reversible square some j i ws next row stage,
      )
      by_next (inr last) = (ws, half_without b t reversible square some j i ws last stage)

  -- and with the wire from where its signal is turned back
  row_list : (j i : ℕ) (ws : List Wire) → j < t.states → i < t.inputs → AreWiresOf (IsHalf b t j i) ws
      → (vs : List Wire) × AreWiresOf (IsStage b t j (i + 1)) vs
  row_list j i ws there row half = by_move (t.go j i) refl
    where
      by_move : (o : Option (ℕ × ℕ)) → t.go j i ≡ o → (vs : List Wire) × AreWiresOf (IsStage b t j (i + 1)) vs
      by_move None none = (ws, stage_without b t reversible square some j i ws none half)
      by_move (Some m) goes = (
        ws ++ wire_of (column_at b t.inputs j + i) west (column_at b t.inputs m.0 + m.1) east ∷ [],
        stage_with b t reversible square some j i m.0 m.1 ws there row goes half,
      )

  stage_list : (j i : ℕ) (ws : List Wire) → j < t.states → i ≤ t.inputs → AreWiresOf (IsEarlier b t j) ws
      → (vs : List Wire) × AreWiresOf (IsStage b t j i) vs
  stage_list j zero ws there row earlier =
      let inner = inner_wires (column_at b t.inputs j) t.inputs some in
      (ws ++ inner.0, stage_begins b t reversible square some j ws inner.0 there earlier inner.1)
  stage_list j (suc i) ws there row earlier =
      let before = stage_list j i ws there (omega arith) earlier in
      let half = half_list j i before.0 (omega arith) before.1 in
      let more = row_list j i half.0 there (omega arith) half.1 in
      let count : i + 1 ≡ suc i = omega arith in
      (more.0, subst (λ n. AreWiresOf (IsStage b t j n) more.0) count more.1)

  earlier_list : (j : ℕ) → j ≤ t.states → (ws : List Wire) × AreWiresOf (IsEarlier b t j) ws
  earlier_list zero within = ([], none_earlier b t reversible square some)
  earlier_list (suc j) within =
      let before = earlier_list j (omega arith) in
      let whole = stage_list j t.inputs before.0 (omega arith) (omega arith) before.1 in
      let count : j + 1 ≡ suc j = omega arith in (
        whole.0,
        subst (λ n. AreWiresOf (IsEarlier b t n) whole.0) count
            (stage_ends b t reversible square some j t.inputs whole.0 refl whole.1),
      )

  pub bank_list : (ws : List Wire) × AreWiresOf (IsBankWire b t) ws
  bank_list =
      let all = earlier_list t.states (omega arith) in
      (all.0, all_earlier b t reversible square some t.states all.0 refl all.1)

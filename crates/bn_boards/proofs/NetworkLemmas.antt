-- A network of modules is there, and its modules can be banks.
use Rattle.std.specs.Prelude.{◌≡◌, ℕ, ◌<◌, Some, slice_get, refl, ◌⊎◌}
use Rattle.std.proofs.Common.{arith, sym, ap, subst, ◌∙◌, inl, inr}
use Rattle.std.proofs.lemmas.Option.{slice_get_within}
use Rattle.bn_element.specs.Tables.{Table}
use Rattle.bn_network.specs.Cells.{cell_table}
use Rattle.bn_network.specs.Controls.{Begin, symbol_count, is_begin}
use Rattle.bn_network.specs.Networks.{IsTape}
use Rattle.bn_boards.proofs.SameLemmas.{networks_one}
use Rattle.bn_network.proofs.LineLemmas.{lines_some}
use Rattle.bn_network.proofs.TabledLemmas.{table_one, table_there}
use Rattle.bn_network_laws.proofs.WiredLemmas.{network_there}
use Rattle.bn_network_laws.proofs.CellRowLemmas.{tables_only}
use Rattle.bn_boards.specs.ExistenceLaws.{NetworksAreThere, NetworksAreModules}

-- a machine has a network, and two of them are alike
pub networks-there : NetworksAreThere
networks-there = (
  λ m l names is u letters numbering. let table = table_there m names is u numbering in network_there m l is.tapes names
      table.0 table.1,
  λ m l names k n a b. networks_one m l names k n (table_one m names) a b,
)

-- ---- its modules

-- each module can be a bank
pub networks-modules : NetworksAreModules
networks-modules m l names k letters_some numbering net =
    record {
      circuit = net.circuit;
      some_states = λ e t h. states t (kinds e t h);
      some_lines = λ e t h. some t (kinds e t h);
      square = λ e t h. square t (kinds e t h);
    }
  where
    Kinds : Table → Type 0
    Kinds t = (t ≡ net.control) ⊎ ((u : ℕ) × IsTape u × (t ≡ cell_table (symbol_count m u)))

    kinds : (e : ℕ) (t : Table) → slice_get k.tables e ≡ Some t → Kinds t
    kinds e t h = tables_only m l net.control e t (subst (λ ts. slice_get ts e ≡ Some t) net.tables h)

    states : (t : Table) → Kinds t → 0 < t.states
    states t (inl e) =
        let first = numbering.each Begin (is_begin refl) in
        let low = slice_get_within names first.0 Begin first.1 in
        let count = net.is_control.states in
        let same = ap (λ (x : Table). x.states) e in
        omega arith
    states t (inr h) = let some = letters_some h.0 h.1 in let same = ap (λ (x : Table). x.states) h.2 in omega arith

    some : (t : Table) → Kinds t → 0 < t.inputs
    some t (inl e) = let low = lines_some m.symbols 3 in let count = net.is_control.inputs in let same =
        ap (λ (x : Table). x.inputs) e in omega arith
    some t (inr h) = let same = ap (λ (x : Table). x.inputs) h.2 in omega arith

    square : (t : Table) → Kinds t → t.outputs ≡ t.inputs
    square t (inl e) = ap (λ (x : Table). x.outputs) e ∙ net.is_control.outputs ∙ sym net.is_control.inputs
        ∙ sym (ap (λ (x : Table). x.inputs) e)
    square t (inr h) = ap (λ (x : Table). x.outputs) h.2 ∙ sym (ap (λ (x : Table). x.inputs) h.2)

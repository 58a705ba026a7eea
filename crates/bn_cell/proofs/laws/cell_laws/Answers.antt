use Rattle.bn_cell.proofs.CellNumberLemmas.{line_within, lines, valid_line, numbers, state_within, states, valid_state}
use Rattle.bn_cell.proofs.CellNumberLemmas.{state_numbers}
use Rattle.bn_cell.specs.Reversible.{cells-reversible}
use Rattle.bn_cell.proofs.laws.cell_laws.Goals as goal

pub returns : goal.returns
returns _ = record {
  cells_are_reversible = cells-reversible;
  cell_lines_are_numbered = (
    λ z l is. (line_within z l is, lines z l is),
    λ z n few. (valid_line z n few, numbers z n few),
  );
  cell_states_are_numbered = (
    λ z q is. (state_within z q is, states z q is),
    λ z n few. (valid_state z n few, state_numbers z n few),
  );
}

-- The numbers of a cell's lines and states, for the crates above. Their proofs stand beside that of reversibility.
pub use Rattle.bn_cell.specs.Reversible.{Whole, whole, states, state_within, state_numbers, valid_state, lines}
pub use Rattle.bn_cell.specs.Reversible.{line_within, numbers, valid_line, cells-reversible}

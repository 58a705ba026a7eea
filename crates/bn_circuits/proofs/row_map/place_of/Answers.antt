use Rattle.std.proofs.Common.{arith, rules}
use Rattle.bn_circuits.proofs.RowLemmas.{cell_of}
use Rattle.bn_circuits.proofs.row_map.place_of.Goals as goal

pub bounds-starts-line : goal.bounds-starts-line
bounds-starts-line c =
    let cell = cell_of c.args.starts.now c.args.cells.now c.requires.are c.args.line.element c.args.line.line
    c.requires.within in
    omega (arith, cell.last)

pub overflow_add-result : goal.overflow_add-result
overflow_add-result c =
    let within = (cell_of c.args.starts.now c.args.cells.now c.requires.are c.args.line.element c.args.line.line
    c.requires.within).within in
    search rules

pub returns-clause-cell : goal.returns-clause-cell
returns-clause-cell c = (cell_of c.args.starts.now c.args.cells.now c.requires.are c.args.line.element c.args.line.line
    c.requires.within).within

pub returns-clause-read : goal.returns-clause-read
returns-clause-read c = (cell_of c.args.starts.now c.args.cells.now c.requires.are c.args.line.element c.args.line.line
    c.requires.within).reads

pub returns-clause-written : goal.returns-clause-written
returns-clause-written c = (cell_of c.args.starts.now c.args.cells.now c.requires.are c.args.line.element
    c.args.line.line c.requires.within).writes

use Rattle.std.proofs.Common.{rules, w64}
use Rattle.std.proofs.lemmas.Int.{to_z-of_z}
use Rattle.bn_view.proofs.ModuleLemmas.{at_inside, at_line, line_low}
use Rattle.bn_view.proofs.module_at.module_at.Goals as goal

pub line_of-requires-clause-number : goal.line_of-requires-clause-number
line_of-requires-clause-number c =
    let at = c.in-Cell-default-default-Some in
    line_low c.args.board.now.layout c.args.machine.now c.requires c.args.board.now.config.place c.located.result
    c.located.ensures.located at.tape at.position at.line' at.is c.symbols.result at.line
    c.symbols.ensures at.line-is

pub returns-in-Control-Some : goal.returns-in-Control-Some
returns-in-Control-Some c = (c.located.result, c.located.ensures.located, search rules)

pub returns-in-Control-None : goal.returns-in-Control-None
returns-in-Control-None c = (c.located.result, c.located.ensures.located, search rules)

pub returns-in-Cell-default-default-Some : goal.returns-in-Cell-default-default-Some
returns-in-Cell-default-default-Some c =
    let at = c.in-Cell-default-default-Some in (
      c.located.result,
      c.located.ensures.located,
      at_line c.args.board.now.layout c.args.machine.now c.requires c.args.board.now.config.place c.located.result
          c.located.ensures.located at.tape at.position at.line' at.is c.symbols.result at.line
          _ c.line_of.result c.symbols.ensures at.line-is c.line_of.ensures.line
          (to_z-of_z w64 at.position (search rules)),
    )

pub returns-in-Cell-default-default-None : goal.returns-in-Cell-default-default-None
returns-in-Cell-default-default-None c =
    let at = c.in-Cell-default-default-None in (
      c.located.result,
      c.located.ensures.located,
      at_inside c.args.board.now.layout c.args.machine.now c.requires c.args.board.now.config.place c.located.result
          c.located.ensures.located at.tape at.position at.line at.is _ at.line-is
          (to_z-of_z w64 at.position (search rules)),
    )

pub returns-in-Outside : goal.returns-in-Outside
returns-in-Outside c = (c.located.result, c.located.ensures.located, search rules)

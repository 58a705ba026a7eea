use Rattle.std.proofs.Common.{sym, subst}
use Rattle.bn_column.specs.Columns.{IsEntering}
use Rattle.bn_column.proofs.ExitLemmas.{crossed-left}
use Rattle.bn_column.proofs.standing.Column.cross.Goals as goal

pub returns-clause-left : goal.returns-clause-left
returns-clause-left c = λ i marked from_east entering.
    let m = c.self.inside in
    let here = subst (λ v. IsEntering 0 v.rows i marked from_east c.args.config.now) (sym c.self.view_is) entering in
    crossed-left m.net m.rows i c.cross_in.result marked from_east c.args.config.now c.cross_in.new.config
    c.self.invariant.0 here
    (c.cross_in.ensures.crossed i marked from_east here)

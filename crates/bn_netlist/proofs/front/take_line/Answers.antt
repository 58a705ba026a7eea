use Rattle.std.proofs.Common.{ℕ, List, ◌++◌, ◌∷◌, ◌∙◌, subst}
use Rattle.std.proofs.lemmas.Result.{err_from_is_err_and, IfErr-weaker}
use Rattle.bn_netlist.proofs.PieceLemmas.{no_bytes, whole_refused}
use Rattle.bn_netlist.specs.LineReading.{RefusesLine}
use Rattle.bn_netlist.proofs.StageLemmas.{text_refused}
use Rattle.bn_netlist.proofs.front.take_line.Goals as goal

pub returns-in_err-keep-clause-refused : goal.returns-in_err-keep-clause-refused
returns-in_err-keep-clause-refused c =
    let p = err_from_is_err_and c.from_residual.result c.from_residual.ensures.1 in
    rw (p.1, p.2) (λ lines taken in_line rest. c.in_err-keep.ensures.refused lines c.args.stage.now taken
    (c.next_line.ensures lines taken) in_line (10 ∷ rest))

pub returns-in_err-advance-clause-refused : goal.returns-in_err-advance-clause-refused
returns-in_err-advance-clause-refused c =
    let p = err_from_is_err_and c.from_residual-in_err-advance.result c.from_residual-in_err-advance.ensures.1 in
    rw (p.1, p.2) (λ lines taken in_line rest. text_refused c.args.stage.now lines
    (c.args.line.now.items ++ c.args.end.now) rest _ taken in_line
    (subst (λ (z : List ℕ). RefusesLine lines z c.in_err-advance.field-0.0)
    (c.as_slice.ensures.value ∙ c.in_ok-keep.ensures.kept) (c.in_err-advance.ensures.refused lines taken)))

pub returns-then-is_empty-clause-refused : goal.returns-then-is_empty-clause-refused
returns-then-is_empty-clause-refused c =
    let none = no_bytes _ c.args.line.now.items c.args.line.now.ok.0 c.if-is_empty.ensures in
    IfErr-weaker c.advance.result _ _ (λ r refuses. whole_refused c.args.stage.now c.args.line.now.items c.args.end.now
    r none refuses)
    c.advance.ensures.refused

use Rattle.std.proofs.lemmas.Result.{err_from_is_err_and}
use Rattle.bn_netlist_laws.specs.Spelling.{Spelled}
use Rattle.bn_netlist.specs.FromText.{IsFromRefusal, HasWhole}
use Rattle.bn_netlist.specs.Coming.{HaveCome}
use Rattle.bn_netlist.specs.declared.refusal.FromRefusal.TheVariants.{TooLong}
use Rattle.bn_netlist.proofs.FromLemmas.{reads_as, not_so, no_text, if_any_ok, if_any_err, if_ok_at, if_err_at}
use Rattle.bn_netlist.proofs.read_from.read_text.Goals as goal

pub returns-in_err-pieces-clause-taken : goal.returns-in_err-pieces-clause-taken
returns-in_err-pieces-clause-taken g c =
    let p = err_from_is_err_and c.from_residual.result c.from_residual.ensures.1 in
    let t = c.in_err-pieces.ensures.taken in
    rw (p.1, p.2) (
      t.0,
      reads_as _ _ _ _ _ _ t.1 (λ e. cc) (λ e. cc),
      tt,
      no_text t.0 c.in_err-pieces.field-0.0 c.in_err-pieces.ensures.no_text,
    )

pub returns-in_err-pieces-clause-refused_whole : goal.returns-in_err-pieces-clause-refused_whole
returns-in_err-pieces-clause-refused_whole g c =
    let p = err_from_is_err_and c.from_residual.result c.from_residual.ensures.1 in
    rw (p.1, p.2) (λ is. absurd (c.in_err-pieces.ensures.no_text is))

pub returns-clause-taken : goal.returns-clause-taken
returns-clause-taken g c =
    let t = c.in_ok-pieces.ensures.taken in (
      t.0,
      reads_as _ _ _ _ _ _ t.1 (λ e. cc) (λ e. absurd (not_so c.config_of.result TooLong c.config_of.ensures.short e)),
      if_ok_at c.config_of.result (λ k text. Spelled (g.C.Spellable.version k) (g.C.Spellable.spelling k) text)
          (HaveCome c.in_ok-pieces.pieces) t.0 t.2 c.config_of.ensures.spelled,
      if_err_at c.config_of.result (λ r text. IsFromRefusal text r) (HaveCome c.in_ok-pieces.pieces) t.0 t.2
          c.config_of.ensures.refused,
    )

pub returns-clause-whole : goal.returns-clause-whole
returns-clause-whole g c = if_any_ok c.config_of.result _ c.in_ok-pieces.ensures.whole

pub returns-clause-refused_whole : goal.returns-clause-refused_whole
returns-clause-refused_whole g c = if_any_err c.config_of.result HasWhole _ c.in_ok-pieces.ensures.whole

-- One move more.
use Rattle.std.proofs.Common.{◌≡◌, ◌+◌, ◌++◌, ◌∷◌, ◌∙◌, [], ap, rules, true}
use Rattle.std.specs.Prelude.{max}
use Rattle.std.specs.Result.{is_ok}
use Rattle.bn_rsm.proofs.Drafting.{draft-push}
use Rattle.bn_rsm.proofs.draft.add_move.Goals as goal

pub returns-clause-draft : goal.returns-clause-draft
returns-clause-draft c =
    let good : is_ok c.push.result ≡ true = search rules in
    let pushed : c.push.new.self.items ≡ c.args.draft.now.moves.items ++ c.args.step ∷ [] =
    rw good at c.push.ensures.items in
    draft-push c.args.draft.now _ c.args.step c.requires.draft c.requires.within pushed
    (c.max-draft.ensures ∙ ap (λ n. max n (c.args.step.next + 1)) c.max.ensures)
    (c.max-draft-2.ensures ∙ ap (λ n. max n (c.args.step.out + 1)) c.max-2.ensures)

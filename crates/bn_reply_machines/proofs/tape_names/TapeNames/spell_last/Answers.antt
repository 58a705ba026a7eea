use Rattle.std.specs.Prelude.{◌≡◌, ◌+◌, ◌++◌, ℕ, List, [], ◌∷◌, length}
use Rattle.std.proofs.Common.{arith, sym, subst}
use Rattle.bn_reply_machines.specs.NamedWords.{IsFirstUnnamed, IsNamedBy}
use Rattle.bn_reply_machines.proofs.NamedWordLemmas.{all_named, first_unnamed, one_named}
use Rattle.bn_reply_machines.proofs.tape_names.TapeNames.spell_last.Goals as goal

pub returns-in_default : goal.returns-in_default
returns-in_default c = λ word so_far.
    let names = c.args.self.now in
    let symbols = c.args.before.items in
    let place : length symbols + 1 ≡ c.len.result + 1 = omega (arith, c.len.ensures) in
    subst (λ (p : ℕ). IsFirstUnnamed names word p) place
    (first_unnamed names word c.requires symbols c.args.name.now [] so_far c.in_default.ensures)

pub returns : goal.returns
returns c = λ word so_far.
    let names = c.args.self.now in
    let symbols = c.args.before.items in
    let s = c.in-Some.symbol in
    subst (λ (zs : List ℕ). IsNamedBy names word zs) (sym c.in_ok-push.ensures.items)
    (all_named names word (symbols ++ s ∷ []) (one_named names word symbols c.args.name.now [] s so_far
    c.in-Some.ensures))

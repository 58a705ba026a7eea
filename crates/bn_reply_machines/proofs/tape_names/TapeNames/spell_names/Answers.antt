use Rattle.std.specs.Prelude.{◌≡◌, ◌+◌, ◌==◌, ◌<◌, ℕ, List, [], ◌∷◌, Some, length, position}
use Rattle.std.proofs.Common.{arith, rules, sym, subst, ◌∙◌}
use Rattle.bn_qtable.specs.TapeWords.{Names, comma, names_between, names_of_word}
use Rattle.bn_reply_machines.specs.NamedWords.{IsFirstUnnamed, IsNamedSoFar}
use Rattle.bn_reply_machines.proofs.WordsLemmas.{cut_unnamed, names_given, names_uncut, one_cut}
use Rattle.bn_reply_machines.proofs.tape_names.TapeNames.spell_names.Goals as goal

pub returns-in_default-symbol_named : goal.returns-in_default-symbol_named
returns-in_default-symbol_named c =
    let names = c.args.self.now in
    let bytes = c.args.bytes.now in
    let symbols = c.loop-comma.symbols.items in
    let left = c.loop-comma.left.now in
    let place : length symbols + 1 ≡ c.len.result + 1 = omega (arith, c.len.ensures) in
    let at : position (λ byte. byte == comma) left ≡ Some c.in-Some.comma =
    sym c.first_comma.ensures.place ∙ c.in-Some.is in
    let some : 0 < length bytes = search rules in
    subst (λ (word : List (List ℕ)). IsFirstUnnamed names word (c.len.result + 1)) (sym (names_given bytes some))
    (subst (λ (p : ℕ). IsFirstUnnamed names (names_between bytes) p) place
    (cut_unnamed names (names_between bytes) c.requires symbols left c.in-Some.comma at c.loop-comma.invariant
    c.in_default-symbol_named.ensures))

pub loop-comma-preserved : goal.loop-comma-preserved
loop-comma-preserved c =
    let left = c.loop-comma.left.now in
    let at : position (λ byte. byte == comma) left ≡ Some c.in-Some.comma =
    sym c.first_comma.ensures.place ∙ c.in-Some.is in
    rw c.in_ok-push.ensures.items (one_cut c.args.self.now (names_between c.args.bytes.now) c.loop-comma.symbols.items
    left c.in-Some.comma c.in-Some-symbol_named.symbol at c.loop-comma.invariant c.in-Some-symbol_named.ensures)

pub returns : goal.returns
returns c =
    let names = c.args.self.now in
    let bytes = c.args.bytes.now in
    let symbols = c.loop-comma.symbols.items in
    let left = c.loop-comma.left.now in
    let some : 0 < length bytes = search rules in
    c.spell_last.ensures (names_of_word (Names bytes))
    (subst (λ (word : List (List ℕ)). IsNamedSoFar names word symbols (left ∷ [])) (sym (names_given bytes some))
    (subst (IsNamedSoFar names (names_between bytes) symbols) (names_uncut left c.in_default.ensures.none)
    c.loop-comma.invariant))

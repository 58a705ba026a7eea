use Rattle.std.proofs.Common.{◌≡◌, ◌+◌, ◌-◌, ◌++◌, ℕ, List, rules, sym, ap, ◌∙◌, take, drop, length, Some}
use Rattle.std.specs.Prelude.{codes, ◌==◌, position}
use Rattle.std.proofs.lemmas.List.{take_rest}
use Rattle.bn_reply_equal.proofs.SecondLemmas.{behind_space, without_space}
use Rattle.bn_reply_equal.proofs.second.second_text.Goals as goal

pub returns-in-None : goal.returns-in-None
returns-in-None c =
    c.in_ok-from_slice-in-None.ensures.items ∙ sym (without_space c.args.told.now c.in-None.ensures.none)

pub returns : goal.returns
returns c =
    let text : List ℕ = c.args.told.now in
    let space : ℕ = c.in-Some.space in
    let place : position (λ byte. byte == 32) text ≡ Some space = sym c.first_space.ensures.place ∙ c.in-Some.is in
    let first : c.in_ok-text.text.items ≡ take (space + 1) text = c.in_ok-text.ensures.items in
    let middle : c.extend_from_slice.new.self.items ≡ c.in_ok-text.text.items ++ codes "second " = search rules in
    let last : c.extend_from_slice-2.new.self.items ≡ c.extend_from_slice.new.self.items
    ++ take (length text - (space + 1)) (drop (space + 1) text) = search rules in
    last
    ∙ ap (λ (rest : List ℕ). c.extend_from_slice.new.self.items ++ rest) (take_rest text (space + 1))
    ∙ ap (λ (front : List ℕ). front ++ drop (space + 1) text) (middle
    ∙ ap (λ (front : List ℕ). front ++ codes "second ") first)
    ∙ sym (behind_space text space place)

use Rattle.std.proofs.Common.{◌≡◌, ◌+◌, ◌-◌, ◌++◌, ℕ, List, rules, sym, ap, ◌∙◌, take, drop, length, Some}
use Rattle.std.specs.Prelude.{codes, ◌==◌, position}
use Rattle.std.proofs.lemmas.List.{take_rest}
use Rattle.bn_reply_erase.specs.Pairs.{with_second}
use Rattle.bn_reply_erase.proofs.SecondLemmas.{behind_space, without_space}
use Rattle.bn_reply_erase.proofs.pair.tell_second.Goals as goal

pub returns-in-None-clause-text : goal.returns-in-None-clause-text
returns-in-None-clause-text c =
    let text = c.as_slice-told.result.now in
    c.in_ok-from_slice-in-None.ensures.items ∙ sym (without_space text c.in-None.ensures.none)
    ∙ ap with_second c.as_slice-told.ensures.value

pub returns-clause-text : goal.returns-clause-text
returns-clause-text c =
    let text : List ℕ = c.as_slice-told.result.now in
    let space : ℕ = c.in-Some.space in
    let place : position (λ byte. byte == 32) text ≡ Some space = sym c.first_space.ensures.place ∙ c.in-Some.is in
    let first : c.in_ok-text.text.items ≡ take (space + 1) text = c.in_ok-text.ensures.items in
    let middle : c.extend_from_slice.new.self.items ≡ c.in_ok-text.text.items ++ codes "second " = search rules in
    let last : c.extend_from_slice-2.new.self.items ≡ c.extend_from_slice.new.self.items
    ++ take (length text - (space + 1)) (drop (space + 1) text) = search rules in
    last
    ∙ ap (λ (rest : List ℕ). c.extend_from_slice.new.self.items ++ rest) (take_rest text (space + 1))
    ∙ ap (λ (front : List ℕ). front ++ drop (space + 1) text) (middle
    ∙ ap (λ (front : List ℕ). front ++ codes "second ") first)
    ∙ sym (behind_space text space place)
    ∙ ap with_second c.as_slice-told.ensures.value

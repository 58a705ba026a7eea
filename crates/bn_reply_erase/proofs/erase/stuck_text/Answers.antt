use Rattle.std.proofs.Common.{◌≡◌, ◌++◌, ◌∷◌, [], List, ℕ, rules, ◌∙◌, append_assoc, decimal}
use Rattle.std.specs.Prelude.{codes}
use Rattle.bn_erase.specs.Made.{name_of}
use Rattle.bn_erase.specs.Printed.{erasing_text}
use Rattle.bn_reply_erase.proofs.TextLemmas.{printed_state}
use Rattle.bn_reply_erase.proofs.erase.stuck_text.Goals as goal

pub returns : goal.returns
returns c =
    let e = c.args.erasing.now in
    let name : List ℕ = erasing_text (name_of e c.args.state) in
    let told : List ℕ = codes " " ++ (decimal c.args.steps ++ 10 ∷ []) in
    let first : c.extend_from_slice.new.self.items ≡ c.in_ok-text.text.items ++ c.state.result.now = search rules in
    let second : c.extend_from_slice-2.new.self.items ≡ c.extend_from_slice.new.self.items ++ c.as_bytes.result.now =
    search rules in
    let start : c.in_ok-text.text.items ≡ codes "stuck " = c.in_ok-text.ensures.items in
    let named : c.state.result.now ≡ name = printed_state c.args.joined.now e c.in_ok-names.names c.args.state
    c.state.result.now c.in_ok-names.ensures.names c.requires.erasing.states c.requires.state c.state.ensures.name
    in
    let count : c.as_bytes.result.now ≡ told = c.as_bytes.ensures.value ∙ c.in_ok-count.ensures.ok in
    second
    ∙ (λ i. (first ∙ (λ k. start k ++ named k)) i ++ count i)
    ∙ append_assoc (codes "stuck ") name told

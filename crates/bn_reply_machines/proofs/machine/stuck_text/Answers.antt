use Rattle.std.proofs.Common.{◌≡◌, ◌++◌, ◌∷◌, [], List, ℕ, rules, sym, ◌∙◌, append_assoc, decimal}
use Rattle.std.specs.Prelude.{codes, slice_index_or}
use Rattle.std.proofs.lemmas.Option.{get_or_from_slice_get}
use Rattle.bn_reply.specs.Words.{letters_of}
use Rattle.bn_reply_machines.proofs.machine.stuck_text.Goals as goal

-- four pieces put behind a first one
joined : (first a b c d : List ℕ) → (((first ++ a) ++ b) ++ c) ++ d ≡ first ++ (a ++ (b ++ (c ++ d)))
joined first a b c d = simp append_assoc

pub returns : goal.returns
returns c =
    let first : c.extend_from_slice.new.self.items ≡ c.in_ok-text.text.items ++ c.state_name.result.now =
    search rules in
    let second : c.extend_from_slice-2.new.self.items ≡ c.extend_from_slice.new.self.items ++ 32 ∷ [] = search rules in
    let third : c.extend_from_slice-3.new.self.items ≡ c.push_letters.new.text.items ++ c.as_bytes.result.now =
    search rules in
    let start : c.in_ok-text.text.items ≡ codes "stuck " = c.in_ok-text.ensures.items in
    let name : c.state_name.result.now ≡ slice_index_or c.args.table.now.names c.args.state [] = sym
    (get_or_from_slice_get c.args.table.now.names c.args.state c.state_name.result.now [] c.state_name.ensures) in
    let letter : c.push_letters.new.text.items ≡ c.extend_from_slice-2.new.self.items ++ letters_of c.args.table.now
    (c.args.symbol ∷ []) = c.in_ok-push_letters.ensures.added in
    let count : c.as_bytes.result.now ≡ codes " " ++ (decimal c.args.steps ++ 10 ∷ []) =
    c.as_bytes.ensures.value ∙ c.in_ok-count.ensures.ok in
    third
    ∙ rw (letter, second, first, start, name, count)
    (joined (codes "stuck ") (slice_index_or c.args.table.now.names c.args.state []) (codes " ")
    (letters_of c.args.table.now (c.args.symbol ∷ []))
    (codes " " ++ (decimal c.args.steps ++ 10 ∷ [])))

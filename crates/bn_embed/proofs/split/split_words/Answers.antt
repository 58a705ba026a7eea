use Rattle.std.proofs.Common.{◌≡◌, ◌==◌, map, List, ℕ, IfOk, Global, sym, ap, ◌∙◌, subst}
use Rattle.std.specs.List.{slice_split}
use Rattle.std.specs.String.{string_bytes}
use Rattle.bn_embed.proofs.WordsLemmas.{words-of-none, words-of-text}
use Rattle.bn_embed.proofs.split.split_words.Goals as goal

pub returns-in-Ok : goal.returns-in-Ok
returns-in-Ok c =
    let read = c.in-Ok.ensures.cases in
    let same = ap (slice_split (λ b. b == 0)) read.0 ∙ sym (words-of-text c.args.bytes.now read.1) in
    subst (λ (parts : List (List ℕ)). IfOk c.split_text.result
    (λ words. map (string_bytes {Z = Global}) words.items ≡ parts)) same
    c.split_text.ensures

pub returns-in-Err : goal.returns-in-Err
returns-in-Err c =
    ap (map (string_bytes {Z = Global})) c.new.ensures.items ∙ sym
    (words-of-none c.args.bytes.now c.in-Err.ensures.cases.0)

use Rattle.std.proofs.Common.{◌≡◌, ℕ, ◌+◌, ◌-◌, length, take, drop, vec_len, ap, sym, ◌∙◌, arith, length-drop}
use Rattle.std.proofs.lemmas.List.{take_all}
use Rattle.std.proofs.Math.Seq.{take-paste}
use Rattle.bn_io.proofs.giving.drop_piece.Goals as goal

pub returns : goal.returns
returns c =
    let text = c.args.text.now.items in
    let rest = vec_len c.args.text.now - 4096 in
    let none : 0 + rest ≡ rest = omega arith in
    let behind : length (drop 4096 text) ≡ rest = length-drop 4096 text
    ∙ ap (λ (k : ℕ). k - 4096) (sym c.args.text.now.ok.0) in
    c.truncate.ensures.items
    ∙ ap (λ (k : ℕ). take (k - 4096) c.copy_within.new.self.items) c.len-rest.ensures
    ∙ ap (λ (k : ℕ). take k c.copy_within.new.self.items) (sym none)
    ∙ ap (take (0 + rest)) c.copy_within.ensures.items
    ∙ take-paste text 0 (drop 4096 text) rest (omega arith) (omega arith)
    ∙ take_all rest (drop 4096 text) (omega arith)

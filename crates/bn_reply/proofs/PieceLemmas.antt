-- Pieces of text one behind the other.
use Rattle.std.specs.Prelude.{◌≡◌, ℕ, List, ◌++◌}
use Rattle.std.proofs.Common.{ap, ◌∙◌, append_assoc}

-- pieces put one behind the other
pub two_pieces : (first a b one two : List ℕ) → one ≡ first ++ a → two ≡ one ++ b → two ≡ first ++ (a ++ b)
two_pieces first a b one two h k = k ∙ ap (λ text. text ++ b) h ∙ append_assoc first a b

pub three_pieces : (first a b d one two three : List ℕ) → one ≡ first ++ a → two ≡ one ++ b → three ≡ two ++ d →
    three ≡ first ++ (a ++ (b ++ d))
three_pieces first a b d one two three h k l =
    l
    ∙ ap (λ text. text ++ d) (two_pieces first a b one two h k)
    ∙ append_assoc first (a ++ b) d
    ∙ ap (λ text. first ++ text) (append_assoc a b d)

-- Pieces of a text, one behind the other.
use Rattle.std.specs.Prelude.{◌≡◌, ℕ, List, ◌++◌}
use Rattle.std.proofs.Common.{ap, ◌∙◌, append_assoc}
use Rattle.bn_reply.proofs.PieceLemmas.{three_pieces}

-- four pieces one behind the other
pub four_pieces : (first a b d e one two three four : List ℕ) → one ≡ first ++ a → two ≡ one ++ b
    → three ≡ two ++ d → four ≡ three ++ e
    → four ≡ first ++ (a ++ (b ++ (d ++ e)))
four_pieces first a b d e one two three four h1 h2 h3 h4 =
    h4 ∙ ap (λ x. x ++ e) (three_pieces first a b d one two three h1 h2 h3) ∙ append_assoc first (a ++ (b ++ d)) e
    ∙ ap (λ x. first ++ x) (append_assoc a (b ++ d) e ∙ ap (λ x. a ++ x) (append_assoc b d e))

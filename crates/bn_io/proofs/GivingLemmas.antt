-- Giving a text to a sink in pieces.
use Rattle.std.specs.Prelude.{◌≡◌, ℕ, List, [], ◌++◌, Option, Some, None}
use Rattle.std.proofs.Common.{sym, ap, ◌∙◌}
use Rattle.std.proofs.lemmas.List.{append_assoc, append-nil}
use Rattle.bn_io.specs.Told.{Grows, GrowsByFront}

-- a sink that took nothing took the empty text
pub grows_none : (a : Option (List ℕ)) → Grows a a []
grows_none None = tt
grows_none (Some xs) = ap (λ (z : List ℕ). Some z) (sym (append-nil xs))

-- a front of a piece is a front of what goes on with it
pub front_of_piece : (a b : Option (List ℕ)) (text piece rest : List ℕ) → text ≡ piece ++ rest →
    GrowsByFront a b piece → GrowsByFront a b text
front_of_piece a b text piece rest split grows = (
  grows.0,
  grows.1 ++ rest,
  split ∙ ap (λ (z : List ℕ). z ++ rest) grows.2 ∙ append_assoc grows.0 grows.1 rest,
  grows.3,
)

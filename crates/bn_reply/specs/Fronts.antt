-- What a text holds after a call that was to append something and failed.
use Rattle.std.specs.Prelude.{◌≡◌, ℕ, List, ◌++◌}

-- `front` is a prefix of `whole`, perhaps empty or all of it
abbrev pub IsPrefixOf : List ℕ → List ℕ → Type 0
IsPrefixOf front whole = (rest : List ℕ) × (whole ≡ front ++ rest)

-- the text is what it was, followed by a prefix of what was to be appended
pub record GrewInPart (old new whole : List ℕ) : Type 0 where
  pub front : List ℕ
  pub prefix : IsPrefixOf front whole
  pub grown : new ≡ old ++ front

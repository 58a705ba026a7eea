-- What holds of all arguments.
use Rattle.std.specs.Prelude.{◌≡◌, ℕ, List, ◌⊎◌}
use Rattle.bn_words.specs.Requests.{Request, HasForm, HasNoForm}

-- arguments ask for at most one thing
abbrev pub WordsHaveOneReading : Type 0
WordsHaveOneReading = (words : List (List ℕ)) (request other : Request) → HasForm words request → HasForm words other →
    request ≡ other

-- arguments have one of the forms, or none of them
abbrev pub WordsHaveAFormOrNone : Type 0
WordsHaveAFormOrNone = (words : List (List ℕ)) → ((request : Request) × HasForm words request) ⊎ HasNoForm words

-- ---- the laws

pub record Laws : Type 0 where
  -- Arguments ask for at most one thing.
  pub words_have_one_reading : WordsHaveOneReading
  -- Arguments have one of the forms, or none.
  pub words_have_a_form_or_none : WordsHaveAFormOrNone

-- The words of bytes that are UTF-8, and of those that aren't.
use Rattle.std.specs.Prelude.{◌≡◌, true, false, ℕ, List, [], ◌==◌, if◌then◌else◌, ◌⊎◌}
use Rattle.std.specs.List.{slice_split}
use Rattle.std.specs.Str.{IsUtf8, is_utf8}
use Rattle.std.proofs.Common.{ap, inl, inr}
use Rattle.std.proofs.lemmas.Bool.{cases_Bool}
use Rattle.std.proofs.lemmas.Str.{IsUtf8-from_is_utf8, is_utf8-from_IsUtf8}
use Rattle.bn_embed.specs.Words.{words_of}

-- what stands between the bytes 0
pub words-of-text : (bytes : List ℕ) → IsUtf8 bytes → words_of bytes ≡ slice_split (λ b. b == 0) bytes
words-of-text bytes h = ap (λ t. if t then slice_split (λ b. b == 0) bytes else []) (is_utf8-from_IsUtf8 bytes h)

-- none
pub words-of-none : (bytes : List ℕ) → (IsUtf8 bytes → ⊥) → words_of bytes ≡ []
words-of-none bytes h = ap (λ t. if t then slice_split (λ b. b == 0) bytes else [])
    (is_none (cases_Bool (is_utf8 bytes)))
  where
    is_none : (is_utf8 bytes ≡ true) ⊎ (is_utf8 bytes ≡ false) → is_utf8 bytes ≡ false
    is_none (inl is) = absurd (h (IsUtf8-from_is_utf8 bytes is))
    is_none (inr is) = is

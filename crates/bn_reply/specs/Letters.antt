-- The letters of a table and the symbols of a word.
use Rattle.std.specs.Prelude.{◌≡◌, ◌≢◌, ℕ, Some, slice_get}
use Rattle.bn_table.specs.Rows.{Named}
use Rattle.bn_reply.specs.Words.{IsLetterOf}

-- the byte is a letter other than the blank's, and this is its symbol
pub record IsSymbolOf (t : Named) (byte symbol : ℕ) : Type 0 where
  pub letter : IsLetterOf t byte
  pub nonblank : symbol ≢ 0
  pub stands : slice_get t.letters symbol ≡ Some byte

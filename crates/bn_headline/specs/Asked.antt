-- What is known of a table and of the symbols of a word when the search begins.
use Rattle.std.specs.Prelude.{ℕ, List}
use Rattle.bn_table.specs.Rows.{Named}
use Rattle.bn_bennett.specs.Translation.{Translation, IsTranslation}
use Rattle.bn_control.specs.Controlled.{IsWithinLimits}
use Rattle.bn_network_assembly.specs.Assembled.{IsWordOf}
use Rattle.bn_reply_boards.specs.Opened.{IsMachineAsked}
use Rattle.bn_headline.specs.FoundHeadline.{IsWordGiven}

-- some bytes and letters are opened as this table, this translation and these symbols
abbrev pub IsRead : Named → Translation → List ℕ → Type 0
IsRead t m symbols = (bytes : List ℕ) × (letters : List ℕ) × IsMachineAsked bytes letters t m symbols

-- some bytes and letters are given as this table and these symbols, and there are at most as many symbols as a word may
-- have
pub record IsAsked (t : Named) (symbols : List ℕ) : Type 0 where
  pub bytes : List ℕ
  pub letters : List ℕ
  pub given : IsWordGiven bytes letters t symbols

-- the translation is that of the table's machine, it may be assembled, and the symbols are a word of it
pub record IsReady (t : Named) (symbols : List ℕ) (m : Translation) : Type 0 where
  pub translates : IsTranslation t.machine m
  pub within : IsWithinLimits m.machine
  pub word : IsWordOf m.machine symbols

-- The text that a csv writer over a vector has written, and its invariant between two entries.
use Rattle.std.specs.Prelude.{◌≡◌, ℕ, true, false, List, [], Some, unwrap_or, Vec}
use Rattle.csv.specs.Writing.{default_writer, fields_written, has_written, text_written, with_flexible, writer_setup}
use Rattle.csv.specs.declared.writer.Writer.{Writer}

-- the text so far, written out or in the writer's buffer
abbrev pub text_of : {Z : Type 0} → Writer (Vec ℕ Z) → List ℕ
text_of {Z} writer = unwrap_or (text_written (λ (v : Vec ℕ Z). Some v.items) writer) []

-- the writer is between two entries, and writes commas, line feeds and as few quotes as possible
pub record IsBetween {Z : Type 0} (writer : Writer (Vec ℕ Z)) : Type 0 where
  pub no_field : fields_written writer ≡ 0
  pub no_byte : has_written writer ≡ false
  pub setup : writer_setup writer ≡ with_flexible default_writer true

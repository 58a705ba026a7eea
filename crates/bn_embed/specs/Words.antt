-- The arguments that a caller in C passes as one run of bytes (this project's own definition).
use Rattle.std.specs.Prelude.{ℕ, List, [], ◌==◌, if◌then◌else◌}
use Rattle.std.specs.List.{slice_split}
use Rattle.std.specs.Str.{is_utf8}

-- The parts between bytes 0, one more than there are bytes 0: a byte 0 at the end has an empty argument after it, and
-- no bytes at all are one empty argument. If the bytes are not UTF-8, there are no arguments.
abbrev pub words_of : List ℕ → List (List ℕ)
words_of bytes = if is_utf8 bytes then slice_split (λ b. b == 0) bytes else []

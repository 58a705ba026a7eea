-- A machine with its symbols renumbered, so that two machines can share one alphabet.
use Rattle.std.specs.Prelude.{◌≡◌, ℕ, ◌<◌, map}
use Rattle.bn_machine.specs.Machine.{Program}
use Rattle.bn_machine.specs.declared.quint.Quint.{Quint}

-- the quintuple with its symbols renumbered
abbrev pub recoded_quint : (ℕ → ℕ) → Quint → Quint
recoded_quint code q = record {
  state = q.state;
  read = code q.read;
  write = code q.write;
  shift = q.shift;
  next = q.next;
}

-- the machine with its symbols renumbered, and with this number of symbols in all
abbrev pub recoded : (ℕ → ℕ) → ℕ → Program → Program
recoded code symbols p = record { quints = map (recoded_quint code) p.quints; states = p.states; symbols = symbols }

-- the machine with this number of symbols in all; its own symbols keep their numbers
abbrev pub with_symbols : ℕ → Program → Program
with_symbols symbols p = record { quints = p.quints; states = p.states; symbols = symbols }

-- the new numbers keep the machine's symbols apart and the blank unchanged, and all are below `after`
pub record KeepsSymbols (code : ℕ → ℕ) (before after : ℕ) : Type 0 where
  pub blank : code 0 ≡ 0
  pub apart : (a b : ℕ) → a < before → b < before → code a ≡ code b → a ≡ b
  pub within : (a : ℕ) → a < before → code a < after

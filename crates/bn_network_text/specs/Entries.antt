-- The contents of a module's line of a network text (this project's own profile).
use Rattle.std.specs.Prelude.{ℕ, List, Option}
use Rattle.bn_network_text.specs.declared.entry.Kind.{Kind}

-- a port as a text writes it: a module's number, from 0, and a port of it, from 1
abbrev pub Port : Type 0
Port = ℕ × ℕ

-- the number of the module, what it is, and where each of its output ports leads
pub record ModuleLine : Type 0 where
  pub number : ℕ
  pub kind : Kind
  pub targets : List (Option Port)

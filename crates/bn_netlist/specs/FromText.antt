-- What a refusal asserts about the bytes that were taken from a source.
use Rattle.std.specs.Prelude.{◌≡◌, ◌≢◌, ℕ, List, [], Option, Some, IfSome}
use Rattle.bn_netlist.specs.NetText.{IsTextRefusal}
use Rattle.bn_netlist.specs.declared.line_refusal.NetlistRefusal.TheVariants.{NoMemory}
use Rattle.bn_netlist.specs.declared.refusal.FromRefusal.{FromRefusal}
use Rattle.bn_netlist.specs.declared.refusal.FromRefusal.TheVariants.{Text}

-- what a refusal asserts about the bytes that were taken: a fault of the text is their first fault, and never that
-- memory ran out
abbrev pub IsFromRefusal : List ℕ → FromRefusal → Type 0
IsFromRefusal piece (Text r) = IsTextRefusal piece r × (r ≢ NoMemory)
IsFromRefusal piece r = Unit {0}

-- the refusal is returned after the end of input
abbrev pub HasWhole : FromRefusal → Type 0
HasWhole (Text r) = Unit {0}
HasWhole r = ⊥

-- a source whose remaining bytes were known has none left
abbrev pub Ends : Option (List ℕ) → Option (List ℕ) → Type 0
Ends old new = IfSome old (λ xs. new ≡ Some [])

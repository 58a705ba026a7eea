-- The outside of a command as one value: what a source, a sink and a watch hold.
use Rattle.std.specs.Prelude.{◌≡◌, ℕ, ◌+◌, List, [], length, Option, Some, IfSome}
use Rattle.bn_io.specs.Faults.{CountsUnless}
use Rattle.bn_circuits.specs.declared.place.Place.{Place}
use Rattle.bn_io.specs.Told.{Loses, Grows}
use Rattle.bn_circuits.specs.Watching.{Hears}

-- What the source has left and the sink has received, if they hold it; the places that the watch has heard; and how
-- often reading and writing failed so far.
pub record Outside : Type 0 where
  pub left : Option (List ℕ)
  pub taken : Option (List ℕ)
  pub told : Option (List Place)
  pub read_faults : ℕ
  pub write_faults : ℕ

-- these five, in this order
abbrev pub outside : Option (List ℕ) → Option (List ℕ) → Option (List Place) → ℕ → ℕ → Outside
outside left taken told read_faults write_faults = record {
  left = left;
  taken = taken;
  told = told;
  read_faults = read_faults;
  write_faults = write_faults;
}

-- In between, the sink received this text, and the watch heard these places.
pub record Gave (before after : Outside) (text : List ℕ) (places : List Place) : Type 0 where
  pub grows : Grows before.taken after.taken text
  pub hears : Hears before.told places after.told

-- No count of failures falls, and each is unchanged unless the call fails in that way: in reading, or in writing.
pub record IsLater (fails_reading fails_writing : Type 0) (before after : Outside) : Type 0 where
  pub read : CountsUnless fails_reading before.read_faults after.read_faults
  pub write : CountsUnless fails_writing before.write_faults after.write_faults

-- the source gave these bytes, and they are all that it had left
pub record GaveAll (old new : Option (List ℕ)) (bytes : List ℕ) : Type 0 where
  pub lost : Loses old new bytes
  pub ended : IfSome old (λ xs. new ≡ Some [])

-- the source gave one byte more than the limit, and no more
abbrev pub GaveMore : Option (List ℕ) → Option (List ℕ) → ℕ → Type 0
GaveMore old new limit = (piece : List ℕ) × Loses old new piece × (length piece ≡ limit + 1)

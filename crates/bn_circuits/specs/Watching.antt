-- The places that a watch received: a list, or `None` if the list is not known.
use Rattle.std.specs.Prelude.{◌≡◌, List, ◌++◌, Option, Some, None}
use Rattle.bn_circuits.specs.declared.place.Place.{Place}

-- afterwards the list is not known, or it was known before and has grown by these places at its end
abbrev pub Hears : Option (List Place) → List Place → Option (List Place) → Type 0
Hears old more None = Unit {0}
Hears None more (Some told) = ⊥
Hears (Some before) more (Some told) = told ≡ before ++ more

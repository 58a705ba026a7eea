-- What a schedule requires of the farm on which it is played.
use Rattle.std.specs.Prelude.{ℕ, ◌<◌, List, [], ◌∷◌}
use Rattle.bn_farm.specs.declared.event.Event.{Event}

-- the circuit of each event is below this number
abbrev pub AreOnBoards : ℕ → List Event → Type 0
AreOnBoards boards [] = Unit {0}
AreOnBoards boards (e ∷ es) = (e.board < boards) × AreOnBoards boards es

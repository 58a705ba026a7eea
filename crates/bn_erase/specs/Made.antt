-- The erasing machine with numbers in place of names for its states.
use Rattle.std.specs.Prelude.{◌≡◌, ℕ, ◌<◌, List, length}
use Rattle.bn_machine.specs.Machine.{Program}
use Rattle.bn_quad.specs.Quadruples.{Quadruples, IsQuadMachine}
use Rattle.bn_bennett_laws.specs.Names.{NumbersStates}
use Rattle.bn_bennett_laws.specs.Renamed.{rename, name_at}
use Rattle.bn_bennett_laws.specs.declared.name.Name.TheVariants.{GoRight}
use Rattle.bn_erase_laws.specs.Erasing.{erasing, erasing_symbols}
use Rattle.bn_erase_laws.specs.declared.name.ErasingName.{ErasingName}
use Rattle.bn_erase_laws.specs.declared.name.ErasingName.TheVariants.{First}
use Rattle.bn_erase.specs.declared.refusal.EraseRefusal.{EraseRefusal}
use Rattle.bn_erase.specs.declared.refusal.EraseRefusal.TheVariants.{Many, NoMemory}
use Rattle.bn_erase.specs.declared.erasing.TheConstants.{MOST_QUADRUPLES}

-- a quadruple machine, and the name of each of its states at the state's number
pub record Erasure : Type 0 where
  pub names : List ErasingName
  pub machine : Quadruples

abbrev pub erasure_of : List ErasingName → Quadruples → Erasure
erasure_of names machine = record { names = names; machine = machine }

-- the name of a state
abbrev pub name_of : Erasure → ℕ → ErasingName
name_of e state = name_at (First GoRight) e.names state

-- The erasing machine of two machines: its quadruples are the list with numbers in place of names, and each name of the
-- list has one number.
pub record IsErasing (p q : Program) (e : Erasure) : Type 0 where
  pub rules : rename (name_of e) e.machine.rules ≡ erasing p q
  pub numbered : NumbersStates (erasing p q) e.names
  pub machine : IsQuadMachine e.machine
  pub states : e.machine.states ≡ length e.names
  pub symbols : e.machine.symbols ≡ erasing_symbols p q

-- the meaning of a refusal: the list has more than the most quadruples, and `count` is their number; or memory has
-- run out, which states nothing more
abbrev pub IsEraseRefusal : Program → Program → EraseRefusal → Type 0
IsEraseRefusal p q (Many count) = (count ≡ length (erasing p q)) × (MOST_QUADRUPLES < count)
IsEraseRefusal p q NoMemory = Unit {0}

-- The erasing machine's list over numbers, as it is composed from the two machines' own reversible machines.
use Rattle.std.specs.Prelude.{◌≡◌, ℕ, ◌+◌, ◌-◌, ◌<◌, ◌^◌, ◌==◌, nat_lt, List, [], ◌∷◌, ◌++◌, length, map, take, drop}
use Rattle.std.specs.Prelude.{All, if◌then◌else◌}
use Rattle.bn_bennett.specs.Draft.{IsBelow}
use Rattle.bn_machine.specs.Machine.{Program}
use Rattle.bn_quad.specs.Kept.{act_at, quad_of, read_at, rules_of}
use Rattle.bn_quad.specs.Quadruples.{Quadruples, Rule, final_state_of, turned_list}
use Rattle.bn_quad.specs.declared.quad.Quad.{Quad}
use Rattle.bn_bennett_laws.specs.Names.{NumbersStates}
use Rattle.bn_bennett_laws.specs.Renamed.{rename, name_at}
use Rattle.bn_bennett_laws.specs.declared.name.Name.{Name}
use Rattle.bn_bennett_laws.specs.declared.name.Name.TheVariants.{GoRight}
use Rattle.bn_erase_laws.specs.Erasing.{erasing}
use Rattle.bn_erase_laws.specs.declared.name.ErasingName.{ErasingName}
use Rattle.bn_erase_laws.specs.declared.name.ErasingName.TheVariants.{First, Second}
use Rattle.bn_erase.specs.declared.erasing.Meeting.{Meeting}

-- ---- numbers

-- the joint of the first machine's list and the second machine's inverted list: the first machine's number of states
-- and its final state, and the second machine's final state
abbrev pub meeting_of : Quadruples → Quadruples → Meeting
meeting_of first second = record {
  states = first.states;
  middle = final_state_of first.rules;
  end = final_state_of second.rules;
}

-- the number of a state of the second machine in the erasing machine: its final state is the first machine's final
-- state, and its other states, in their order, follow the first machine's states
abbrev pub new_state : Meeting → ℕ → ℕ
new_state m state =
    if state == m.end then m.middle else (if nat_lt state m.end then m.states + state else m.states + state - 1)

-- the names by number: those of the first machine, and those of the second except its final state's
abbrev pub joint_names : List Name → List Name → ℕ → List ErasingName
joint_names first second end = map First first ++ map Second (take end second ++ drop (end + 1) second)

-- ---- quadruples

-- a quadruple of the second machine's inverted list, with its tapes 1 and 3 exchanged and its states renumbered
abbrev pub backward_quad : Meeting → Quad → Quad
backward_quad m q = record {
  state = new_state m q.state;
  read = read_at q 2 ∷ read_at q 1 ∷ read_at q 0 ∷ [];
  act = act_at q 2 ∷ act_at q 1 ∷ act_at q 0 ∷ [];
  next = new_state m q.next;
}

-- the first machine's quadruples, followed by the second machine's
abbrev pub joint_quads : Meeting → List (Rule ℕ) → List (Rule ℕ) → List Quad
joint_quads m first second = map quad_of first ++ map (backward_quad m) (map quad_of (turned_list second))

-- the quadruples are the erasing machine's list over these names, each of which belongs to one state
pub record AreErasing (p q : Program) (names : List ErasingName) (quads : List Quad) : Type 0 where
  pub list : rename (name_at (First GoRight) names) (rules_of quads) ≡ erasing p q
  pub kept : map quad_of (rules_of quads) ≡ quads
  pub below : All (IsBelow (length names)) quads
  pub numbered : NumbersStates (erasing p q) names
  pub few : length names < 2 ^ 32

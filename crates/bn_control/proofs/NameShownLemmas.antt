-- The names of a quadruple are those of the states that it shows.
use Rattle.std.proofs.Common.{◌≡◌, inl, inr, ℕ, List, [], ◌∷◌, ◌++◌, map, Some, refl, sym, ap, subst, ◌∙◌, append_assoc}
use Rattle.bn_lists.specs.Lists.{nth, Has}
use Rattle.bn_lists.proofs.MemberLemmas.{in_front, behind}
use Rattle.bn_lists.proofs.ApartLemmas.{mapped, from_mapped}
use Rattle.bn_machine.specs.declared.quint.Side.{Side}
use Rattle.bn_quad.specs.Quadruples.{Rule, Quadruples}
use Rattle.bn_network.specs.Controls.{ControlState, ControlMove, Outside, End, Reads, Shifts, Writes, Occurs, is_read}
use Rattle.bn_network.specs.Controls.{is_shift, is_write, reads_of, shifts_of, writes_of, symbols_read}
use Rattle.bn_control.specs.declared.command.Command.{Command}
use Rattle.bn_control.specs.declared.name.StateName.{StateName}
use Rattle.bn_control.specs.Names.{state_of, IsProper}
use Rattle.bn_control.specs.Commands.{commands_by}
use Rattle.bn_control.specs.Listed.{rule_names}
use Rattle.bn_control.proofs.NamesLemmas.{NamedCommand, Going, command_of, read_names, shift_names, write_names}
use Rattle.bn_control.proofs.NamesLemmas.{later_names, names_by, goings}
use Rattle.bn_control.proofs.CommandLemmas.{commands_are, reads_stand, shifts_stand, writes_stand}
use Rattle.bn_control.proofs.RuleLemmas.{commands_proper, each_proper}

-- ---- names of states

-- a name among these, of a state of the control
abbrev pub IsNamed : List StateName → ControlState → Type 0
IsNamed l q = (x : StateName) × Has l x × (state_of x ≡ q)

pub named_front : (l k : List StateName) (q : ControlState) → IsNamed l q → IsNamed (l ++ k) q
named_front l k q h = (h.0, in_front l k h.0 h.1, h.2)

pub named_behind : (l k : List StateName) (q : ControlState) → IsNamed k q → IsNamed (l ++ k) q
named_behind l k q h = (h.0, behind l k h.0 h.1, h.2)

-- ---- a quadruple's commands

abbrev command_name : Command → StateName
command_name c = c.sending.state

abbrev awaits : NamedCommand → ControlState
awaits c = c.0.0

same_states : (cs : List Command) → map state_of (map command_name cs) ≡ map awaits (map command_of cs)
same_states [] = refl
same_states (c ∷ cs) = ap (λ l. state_of c.sending.state ∷ l) (same_states cs)

states_are : (n : ℕ) (r : Rule ℕ) → map state_of (rule_names n r) ≡ map awaits (names_by n r)
states_are n r = same_states (commands_by n r) ∙ ap (map awaits) (commands_are n r)

pub names_proper : (n : ℕ) (r : Rule ℕ) (x : StateName) → Has (rule_names n r) x → IsProper x
names_proper n r x h =
    let found = from_mapped command_name (commands_by n r) x h in
    subst IsProper found.2 (each_proper (commands_by n r) (commands_proper n r) found.0 found.1)

-- where a move is made
made_in : (e : ControlMove) (cs : List NamedCommand) (g : Going) → Has (goings e cs) g → Has (map awaits cs) g.0
made_in e [] g h = absurd h
made_in e (c ∷ cs) g (inl is) = inl (ap (λ (v : Going). v.0) is)
made_in e (c ∷ cs) g (inr h) = inr (made_in e cs g h)

-- whatever is sent last
abbrev last : ControlMove
last = (End, Outside)

module _ (n : ℕ) (r : Rule ℕ) where
  named : (g : Going) → Has (goings last (names_by n r)) g → IsNamed (rule_names n r) g.0
  named g h = from_mapped state_of (rule_names n r) g.0
      (subst (λ l. Has l g.0) (sym (states_are n r)) (made_in last (names_by n r) g h))

  pub each_read : (before rest : List (ℕ × ℕ)) (p : ℕ × ℕ) → reads_of r ≡ before ++ (p ∷ rest)
      → IsNamed (rule_names n r) (Reads r.from (symbols_read before))
  each_read before rest p split = named _ (reads_stand n r last before rest p split)

  pub each_shift : (before rest : List (ℕ × Side)) (p : ℕ × Side) → shifts_of r ≡ before ++ (p ∷ rest)
      → IsNamed (rule_names n r) (Shifts n p.0)
  each_shift before rest p split = named _ (shifts_stand n r last before rest p split)

  pub each_write : (before rest : List (ℕ × ℕ)) (p : ℕ × ℕ) → writes_of r ≡ before ++ (p ∷ rest)
      → IsNamed (rule_names n r) (Writes r.to p.0 (symbols_read rest))
  each_write before rest p split = named _ (writes_stand n r last before rest p split)

-- ---- a quadruple of a machine

module _ (m : Quadruples) (n : ℕ) (r : Rule ℕ) (here : nth m.rules n ≡ Some r) where
  write_occurs : (before rest : List (ℕ × ℕ)) → writes_of r ≡ before ++ rest → (q : ControlState)
      → Has (map awaits (write_names r.to rest)) q → Occurs m q
  write_occurs before [] split q h = absurd h
  write_occurs before (p ∷ rest) split q (inl is) = is_write n r here before rest p split is
  write_occurs before (p ∷ rest) split q (inr h) = write_occurs (before ++ (p ∷ [])) rest
      (split ∙ sym (append_assoc before (p ∷ []) rest)) q h

  shift_occurs : (before rest : List (ℕ × Side)) → shifts_of r ≡ before ++ rest → (q : ControlState)
      → Has (map awaits (shift_names n rest ++ write_names r.to (writes_of r))) q → Occurs m q
  shift_occurs before [] split q h = write_occurs [] (writes_of r) refl q h
  shift_occurs before (p ∷ rest) split q (inl is) = is_shift n r here before rest p split is
  shift_occurs before (p ∷ rest) split q (inr h) = shift_occurs (before ++ (p ∷ [])) rest
      (split ∙ sym (append_assoc before (p ∷ []) rest)) q h

  read_occurs : (before rest : List (ℕ × ℕ)) → reads_of r ≡ before ++ rest → (q : ControlState)
      → Has (map awaits (read_names r.from before rest ++ later_names n r)) q → Occurs m q
  read_occurs before [] split q h = shift_occurs [] (shifts_of r) refl q h
  read_occurs before (p ∷ rest) split q (inl is) = is_read n r here before rest p split is
  read_occurs before (p ∷ rest) split q (inr h) = read_occurs (before ++ (p ∷ [])) rest
      (split ∙ sym (append_assoc before (p ∷ []) rest)) q h

  -- each of its names is that of a state that occurs
  pub only_these : (x : StateName) → Has (rule_names n r) x → Occurs m (state_of x)
  only_these x h = read_occurs [] (reads_of r) refl (state_of x)
      (subst (λ l. Has l (state_of x)) (states_are n r) (mapped state_of (rule_names n r) x h))

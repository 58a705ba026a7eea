-- The data from which a control is built, and the parts built from them.
use Rattle.std.specs.Prelude.{◌≡◌, ◌↔◌, ℕ, ◌<◌, ◌≤◌, ◌^◌, List, All, map, Option, Some, slice_get, length}
use Rattle.bn_quad.specs.Quadruples.{Quadruples, IsQuadMachine}
use Rattle.bn_quad.specs.Calls.{IsUniformMachine}
use Rattle.bn_network.specs.Controls.{ControlState, Occurs, IsFirstKept}
use Rattle.bn_control.specs.declared.draft.Draft.{Draft}
use Rattle.bn_control.specs.declared.line.Sending.{Sending}
use Rattle.bn_network.specs.declared.limits.TheConstants.{MOST_SYMBOLS}
use Rattle.bn_control.specs.declared.name.StateName.{StateName}
use Rattle.bn_control.specs.Names.{state_of, IsProper}
use Rattle.bn_control.specs.Entries.{AreEntries, IsFirstSent}
use Rattle.bn_control.specs.Named.{AreMoves}
use Rattle.bn_control.specs.Ordered.{AreOrdered}
use Rattle.bn_control.specs.Controlled.{IsAwaiting}

-- the draft is that of this machine, which is uniform
pub record IsDraft (m : Quadruples) (d : Draft) : Type 0 where
  pub uniform : IsUniformMachine m
  pub valid : IsQuadMachine m
  pub symbols : m.symbols ≡ d.symbols
  pub few_symbols : All (λ z. z ≤ MOST_SYMBOLS) d.symbols
  pub entries : AreEntries m d.entries.items
  pub moves : AreMoves m d.moves.items
  pub few_moves : length d.moves.items < 2 ^ 32
  pub ordered : AreOrdered m d.states.items
  pub few_states : length d.states.items < 2 ^ 32

-- the draft is that of some machine
pub record IsSomeDraft (d : Draft) : Type 0 where
  pub machine : Quadruples
  pub is : IsDraft machine d

-- this is the first command in some state of that machine
pub record IsSomeEntry (d : Draft) (s : Sending) : Type 0 where
  pub machine : Quadruples
  pub is : IsDraft machine d
  pub state : ℕ
  pub sent : IsFirstSent machine state s

-- the state is one of that machine's control
pub record OccursInDraft (d : Draft) (q : StateName) : Type 0 where
  pub machine : Quadruples
  pub is : IsDraft machine d
  pub occurs : Occurs machine (state_of q)
  pub proper : IsProper q

-- the records of the first commands of the first n states of the machine
pub record AreFirsts (m : Quadruples) (ss : List StateName) (n : ℕ) (fs : List (Option (ℕ × ℕ))) : Type 0 where
  pub counted : length fs ≡ n
  pub each : (a : ℕ) (f : Option (ℕ × ℕ)) → slice_get fs a ≡ Some f → IsFirstKept m (map state_of ss) a f

-- o is the state and the tape for whose first read a state of the control waits, or nothing if it waits for none
pub record TellsAwaited (m : Quadruples) (q : ControlState) (o : Option (ℕ × ℕ)) : Type 0 where
  pub tells : (a t : ℕ) → (o ≡ Some (a, t)) ↔ IsAwaiting m q a t

-- each of these entries is that of the state with the same number, and there are as many as states
pub record AreAwaited (m : Quadruples) (ss : List StateName) (os : List (Option (ℕ × ℕ))) : Type 0 where
  pub counted : length os ≡ length ss
  pub each : (n : ℕ) (x : StateName) (o : Option (ℕ × ℕ)) → slice_get ss n ≡ Some x → slice_get os n ≡ Some o
      → TellsAwaited m (state_of x) o

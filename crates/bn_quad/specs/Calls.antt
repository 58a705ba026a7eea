-- The results of the calls of a quadruple machine.
use Rattle.std.specs.Prelude.{◌≡◌, ◌≢◌, ◌↔◌, ℕ, zero, suc, ◌+◌, List, [], ◌∷◌, length, map}
use Rattle.bn_machine.specs.Window.{Windowed, IsInside, Leaves, within, with_tape}
use Rattle.bn_quad.specs.Quadruples.{Deed, Rewrite, Move, Rule, deeds_of, Configuration, done, LeadsBy, Quadruples}
use Rattle.bn_quad.specs.Quadruples.{final_state_of, IsFirstRule, IsQuadrupleStuck, Rooms, GoesBy}
use Rattle.bn_quad.specs.Overlap.{HasNoClash, IsLeastClash, HasNoFlaw, IsFirstFlaw, IsDeterministic, IsReversible}
use Rattle.bn_quad.specs.Overlap.{IsUniform, initial_flaw, final_flaw}
use Rattle.bn_quad.specs.Kept.{quad_of, IsFirstFault, IsQuadInRange, IsUnmixed}
use Rattle.bn_machine.specs.declared.quint.Side.{Side}
use Rattle.bn_quad.specs.declared.quad.Quad.{Quad}
use Rattle.bn_quad.specs.declared.clash.Clash.TheVariants as clash
use Rattle.bn_quad.specs.declared.clash.Flaw.TheVariants as flaw
use Rattle.bn_quad.specs.declared.refusal.QuadRefusal.{QuadRefusal}
use Rattle.bn_quad.specs.declared.refusal.QuadRefusal.TheVariants as refusal
use Rattle.bn_quad.specs.declared.refusal.NotUniform.{NotUniform}
use Rattle.bn_quad.specs.declared.refusal.NotUniform.TheVariants as uneven
use Rattle.bn_quad.specs.declared.refusal.UniformRefusal.{UniformRefusal}
use Rattle.bn_quad.specs.declared.refusal.UniformRefusal.TheVariants as uniform
use Rattle.bn_quad.specs.declared.tapes.Tapes.{Tapes}
use Rattle.bn_quad.specs.declared.tapes.QuadTurn.{QuadTurn}
use Rattle.bn_quad.specs.declared.tapes.QuadTurn.TheVariants as turn

-- ---- making a machine

-- the machine with these quadruples, states and symbols
pub record IsMadeOf (p : Quadruples) (qs : List Quad) (states : ℕ) (symbols : List ℕ) : Type 0 where
  pub listed : map quad_of p.rules ≡ qs
  pub counted : p.states ≡ states
  pub lettered : p.symbols ≡ symbols

-- when quadruples are refused: there is none, or the first faulty one has a number out of range, or else it shifts a
-- tape that it reads or writes a tape that it does not read
abbrev pub IsQuadRefusal : List Quad → ℕ → List ℕ → QuadRefusal → Type 0
IsQuadRefusal qs states symbols refusal.Empty = qs ≡ []
IsQuadRefusal qs states symbols (refusal.Range i) = (q : Quad) × IsFirstFault states symbols qs i q
    × (IsQuadInRange states symbols q → ⊥)
IsQuadRefusal qs states symbols (refusal.Mixed i) = (q : Quad) × IsFirstFault states symbols qs i q
    × IsQuadInRange states symbols q × (IsUnmixed q → ⊥)

-- ---- the tests

-- why quadruples are not uniform: the first of the five conditions that fails, in this order, with the least numbers
-- that show it
abbrev pub IsNotUniform : List (Rule ℕ) → NotUniform → Type 0
IsNotUniform rs (uneven.ReadMask i j) = IsLeastClash clash.Reads rs i j
IsNotUniform rs (uneven.WriteMask i j) = HasNoClash clash.Reads rs × IsLeastClash clash.Writes rs i j
IsNotUniform rs (uneven.Silent i) = HasNoClash clash.Reads rs × HasNoClash clash.Writes rs
    × IsFirstFlaw flaw.Silent rs i
IsNotUniform rs (uneven.InitialEntered i) = HasNoClash clash.Reads rs × HasNoClash clash.Writes rs
    × HasNoFlaw flaw.Silent rs × IsFirstFlaw (initial_flaw rs) rs i
IsNotUniform rs (uneven.FinalLeft i) = HasNoClash clash.Reads rs × HasNoClash clash.Writes rs
    × HasNoFlaw flaw.Silent rs × HasNoFlaw (initial_flaw rs) rs × IsFirstFlaw (final_flaw rs) rs i

-- why a machine is not deterministic, reversible and uniform: the first of the three that fails, in this order
abbrev pub IsUniformRefusal : List (Rule ℕ) → UniformRefusal → Type 0
IsUniformRefusal rs (uniform.Domain i j) = IsLeastClash clash.Domain rs i j
IsUniformRefusal rs (uniform.Range i j) = IsDeterministic rs × IsLeastClash clash.Range rs i j
IsUniformRefusal rs (uniform.Mask why) = IsDeterministic rs × IsReversible rs × IsNotUniform rs why

-- the machine is deterministic, reversible and uniform
pub record IsUniformMachine (p : Quadruples) : Type 0 where
  pub deterministic : IsDeterministic p.rules
  pub reversible : IsReversible p.rules
  pub uniform : IsUniform p.rules

-- Each step by a quadruple of the first list is undone by a quadruple of the second: the n-th from the beginning by the
-- n-th from the end, and conversely.
abbrev pub StepsBack : List (Rule ℕ) → List (Rule ℕ) → Type 0
StepsBack rs ss = (n m : ℕ) (c d : Configuration ℕ) → n + m ≡ length rs + 1 → (LeadsBy rs n c d ↔ LeadsBy ss m d c)

-- ---- the step in windows

-- the configuration of a state and three tapes in windows
abbrev pub configuration : ℕ → Tapes → Configuration ℕ
configuration state w = record { state = state; one = w.one.tape; two = w.two.tape; three = w.three.tape }

abbrev pub windows_of : Tapes → List Windowed
windows_of w = w.one ∷ w.two ∷ w.three ∷ []

-- the windows of the three heads
abbrev pub rooms_of : Tapes → Rooms
rooms_of w = record {
  one = within w.one.left w.one.right;
  two = within w.two.left w.two.right;
  three = within w.three.left w.three.right;
}

-- the action moves the head out of the window at this end; the action leaves the head in the window
abbrev pub DeedLeaves : Deed → Windowed → Side → Type 0
DeedLeaves (Rewrite read written) w side = ⊥
DeedLeaves (Move s) w side = Leaves w s side

abbrev pub DeedStays : Deed → Windowed → Type 0
DeedStays d w = IsInside w (done d w.tape).head

-- the least tape, counted from 1, on which an action moves the head out of its window, and the end
abbrev pub LeavesAt : List Deed → List Windowed → ℕ → Side → Type 0
LeavesAt [] ws n side = ⊥
LeavesAt (d ∷ ds) [] n side = ⊥
LeavesAt (d ∷ ds) (w ∷ ws) zero side = ⊥
LeavesAt (d ∷ ds) (w ∷ ws) (suc zero) side = DeedLeaves d w side
LeavesAt (d ∷ ds) (w ∷ ws) (suc (suc n)) side = DeedStays d w × LeavesAt ds ws (suc n) side

-- The first quadruple that applies would move the head of this tape, the least such tape, out of its window at this
-- end.
pub record IsLeaving (p : Quadruples) (state : ℕ) (w : Tapes) (tape : ℕ) (side : Side) : Type 0 where
  pub going : state ≢ final_state_of p.rules
  pub number : ℕ
  pub rule : Rule ℕ
  pub first : IsFirstRule p.rules (configuration state w) number rule
  pub leaves : LeavesAt (deeds_of rule) (windows_of w) tape side

-- the same windows, possibly with other tapes in them
pub record AreSameWindows (w v : Tapes) : Type 0 where
  pub one : v.one ≡ with_tape w.one v.one.tape
  pub two : v.two ≡ with_tape w.two v.two.tape
  pub three : v.three ≡ with_tape w.three v.three.tape

-- The result of a step in windows, with the state and the tapes after it. On any result but `Moved` nothing has
-- changed.
abbrev pub IsQuadTurn : Quadruples → QuadTurn → ℕ → Tapes → ℕ → Tapes → Type 0
IsQuadTurn p turn.Final state w next v = (state ≡ final_state_of p.rules) × (next ≡ state) × (v ≡ w)
IsQuadTurn p turn.Stuck state w next v = IsQuadrupleStuck p (configuration state w) × (next ≡ state) × (v ≡ w)
IsQuadTurn p (turn.Left tape side) state w next v = IsLeaving p state w tape side × (next ≡ state) × (v ≡ w)
IsQuadTurn p (turn.Moved quad) state w next v = GoesBy (rooms_of w) p quad (configuration state w)
    (configuration next v) × AreSameWindows w v

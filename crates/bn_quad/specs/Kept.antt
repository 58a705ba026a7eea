-- Quadruples as the program stores them (`Quad`), and the quadruples of the definitions (`Rule`) that they represent.
use Rattle.std.specs.Prelude.{◌≡◌, ℕ, ◌<◌, ◌^◌, List, [], ◌∷◌, Option, Some, None, ⊤, length, map, slice_index_or, All}
use Rattle.bn_lists.specs.Lists.{nth}
use Rattle.bn_machine.specs.Tape.{Tape, scanned, write, shift}
use Rattle.bn_machine.specs.Window.{Windowed, IsInside, Leaves}
use Rattle.bn_machine.specs.declared.quint.Side.{Side}
use Rattle.bn_machine.specs.declared.quint.Shift.TheVariants.{Stay}
use Rattle.bn_quad.specs.Quadruples.{Deed, Rewrite, Move, Rule, turned}
use Rattle.bn_quad.specs.declared.quad.Quad.{Quad}
use Rattle.bn_quad.specs.declared.quad.Act.{Act}
use Rattle.bn_quad.specs.declared.quad.Act.TheVariants.{Write, Shift}

-- the read and the action of a deed, which is what a quadruple does on one tape
abbrev pub read_of : Deed → Option ℕ
read_of (Rewrite read written) = Some read
read_of (Move s) = None

abbrev pub act_of : Deed → Act
act_of (Rewrite read written) = Write written
act_of (Move s) = Shift s

-- the stored form of a quadruple (`Rule`)
abbrev pub quad_of : Rule ℕ → Quad
quad_of r = record {
  state = r.from;
  read = read_of r.one ∷ read_of r.two ∷ read_of r.three ∷ [];
  act = act_of r.one ∷ act_of r.two ∷ act_of r.three ∷ [];
  next = r.to;
}

-- ---- which quadruples are refused

-- the symbol that is read, if any, is below `symbols`; the symbol that is written, if any, is below `symbols`
abbrev pub IsReadInRange : ℕ → Option ℕ → Type 0
IsReadInRange symbols None = ⊤
IsReadInRange symbols (Some read) = read < symbols

abbrev pub IsActInRange : ℕ → Act → Type 0
IsActInRange symbols (Write written) = written < symbols
IsActInRange symbols (Shift s) = ⊤

-- the read and the action on the tape with this index, counted from 0
abbrev pub read_at : Quad → ℕ → Option ℕ
read_at q t = slice_index_or q.read t None

abbrev pub act_at : Quad → ℕ → Act
act_at q t = slice_index_or q.act t (Shift Stay)

-- all symbols on this tape are in range
pub record IsTapeInRange (symbols : List ℕ) (q : Quad) (t : ℕ) : Type 0 where
  pub read : IsReadInRange (slice_index_or symbols t 0) (read_at q t)
  pub act : IsActInRange (slice_index_or symbols t 0) (act_at q t)

-- every number of the quadruple is one of the states, or of the symbols of its tape
pub record IsQuadInRange (states : ℕ) (symbols : List ℕ) (q : Quad) : Type 0 where
  pub state : q.state < states
  pub one : IsTapeInRange symbols q 0
  pub two : IsTapeInRange symbols q 1
  pub three : IsTapeInRange symbols q 2
  pub next : q.next < states

-- a tape that is read is written, and one that is not read is shifted
abbrev pub Agree : Option ℕ → Act → Type 0
Agree None (Write written) = ⊥
Agree None (Shift s) = ⊤
Agree (Some read) (Write written) = ⊤
Agree (Some read) (Shift s) = ⊥

-- on each tape, read and action agree
pub record IsUnmixed (q : Quad) : Type 0 where
  pub one : Agree (read_at q 0) (act_at q 0)
  pub two : Agree (read_at q 1) (act_at q 1)
  pub three : Agree (read_at q 2) (act_at q 2)

-- the quadruple has three tapes, its numbers are in range, and it is unmixed
pub record IsSound (states : ℕ) (symbols : List ℕ) (q : Quad) : Type 0 where
  pub reads : length q.read ≡ 3
  pub acts : length q.act ≡ 3
  pub in_range : IsQuadInRange states symbols q
  pub unmixed : IsUnmixed q

-- quadruple i, counted from 1, is the first that is not sound
pub record IsFirstFault (states : ℕ) (symbols : List ℕ) (qs : List Quad) (i : ℕ) (quad : Quad) : Type 0 where
  pub stands : nth qs i ≡ Some quad
  pub faulty : IsSound states symbols quad → ⊥
  pub first : (m : ℕ) (q : Quad) → m < i → nth qs m ≡ Some q → IsSound states symbols q

-- ---- what is stored, and what it represents

-- the deed of a read and an action; only pairs that agree are stored
abbrev pub deed_of : Option ℕ → Act → Deed
deed_of None (Write written) = Move Stay
deed_of None (Shift s) = Move s
deed_of (Some read) (Write written) = Rewrite read written
deed_of (Some read) (Shift s) = Move s

abbrev pub rule_of : Quad → Rule ℕ
rule_of q = record {
  from = q.state;
  one = deed_of (read_at q 0) (act_at q 0);
  two = deed_of (read_at q 1) (act_at q 1);
  three = deed_of (read_at q 2) (act_at q 2);
  to = q.next;
}

abbrev pub rules_of : List Quad → List (Rule ℕ)
rules_of qs = map rule_of qs

-- the invariant of a machine: at least one quadruple, fewer than 2^32, and all sound
pub record IsKept (qs : List Quad) (states : ℕ) (symbols : List ℕ) : Type 0 where
  pub some : 0 < length qs
  pub few : length qs < 2 ^ 32
  pub tapes : length symbols ≡ 3
  pub sound : All (IsSound states symbols) qs

-- the inverse of a stored quadruple
abbrev pub turned_quad : Quad → Quad
turned_quad q = quad_of (turned (rule_of q))

-- ---- what the tests compare

-- if both read the tape, they read the same symbol
abbrev pub ReadsMeet : Option ℕ → Option ℕ → Type 0
ReadsMeet None None = ⊤
ReadsMeet None (Some s) = ⊤
ReadsMeet (Some r) None = ⊤
ReadsMeet (Some r) (Some s) = r ≡ s

-- if both write the tape, they write the same symbol
abbrev pub ActsMeet : Act → Act → Type 0
ActsMeet (Write v) (Write w) = v ≡ w
ActsMeet (Write v) (Shift s) = ⊤
ActsMeet (Shift r) (Write w) = ⊤
ActsMeet (Shift r) (Shift s) = ⊤

-- both write the tape, or both shift it
abbrev pub ActsAreAlike : Act → Act → Type 0
ActsAreAlike (Write v) (Write w) = ⊤
ActsAreAlike (Write v) (Shift s) = ⊥
ActsAreAlike (Shift r) (Write w) = ⊥
ActsAreAlike (Shift r) (Shift s) = ⊤

pub record QuadsMeetInDomain (q p : Quad) : Type 0 where
  pub from : q.state ≡ p.state
  pub one : ReadsMeet (read_at q 0) (read_at p 0)
  pub two : ReadsMeet (read_at q 1) (read_at p 1)
  pub three : ReadsMeet (read_at q 2) (read_at p 2)

pub record QuadsMeetInRange (q p : Quad) : Type 0 where
  pub to : q.next ≡ p.next
  pub one : ActsMeet (act_at q 0) (act_at p 0)
  pub two : ActsMeet (act_at q 1) (act_at p 1)
  pub three : ActsMeet (act_at q 2) (act_at p 2)

pub record QuadsAreAlike (q p : Quad) : Type 0 where
  pub one : ActsAreAlike (act_at q 0) (act_at p 0)
  pub two : ActsAreAlike (act_at q 1) (act_at p 1)
  pub three : ActsAreAlike (act_at q 2) (act_at p 2)

-- the action is the shift that does not move the head
abbrev pub IsStaying : Act → Type 0
IsStaying (Write w) = ⊥
IsStaying (Shift s) = s ≡ Stay

pub record QuadIsSilent (q : Quad) : Type 0 where
  pub one : IsStaying (act_at q 0)
  pub two : IsStaying (act_at q 1)
  pub three : IsStaying (act_at q 2)

-- ---- what the step does

-- the head scans the symbol that is read, if one is read
abbrev pub Reads : Option ℕ → Tape → Type 0
Reads None t = ⊤
Reads (Some r) t = scanned t ≡ r

-- the tape after an action
abbrev pub acted : Act → Tape → Tape
acted (Write w) t = write t w
acted (Shift s) t = shift t s

-- the action leaves the head in the window; the action moves it out at this end
abbrev pub ActStays : Act → Windowed → Type 0
ActStays a w = IsInside w (acted a w.tape).head

abbrev pub ActLeaves : Act → Windowed → Side → Type 0
ActLeaves (Write s) w side = ⊥
ActLeaves (Shift s) w side = Leaves w s side

-- The statements of the laws of this crate, each a field of `Laws`.
use Rattle.std.specs.Prelude.{◌≡◌, ℕ, ◌≤◌}
use Rattle.bn_lists.specs.Runs.{Reaches}
use Rattle.bn_circuits.specs.Circuits.{Goes}
use Rattle.bn_circuits.specs.Situations.{counted, situation_of}
use Rattle.bn_circuits.specs.Stepping.{run, back}
use Rattle.bn_circuits.specs.declared.place.Place.TheVariants.{Enter, Left}
use Rattle.bn_circuits.specs.declared.config.Config.{Config}
use Rattle.bn_netlist_laws.specs.Spelling.{Spelling, Admits, AreSame, circuit_of, moved_to}
use Rattle.bn_netlist_laws.specs.declared.version.Version.{Version}
use Rattle.bn_mirror.specs.Mirror.{IsMirror}

-- A configuration that can be written has an inverse circuit.
abbrev pub MirrorsAreThere : Type 0
MirrorsAreThere = (v : Version) (s : Spelling) → Admits v s → (m : Spelling) × IsMirror s m

-- If a configuration can be written in a version, its inverse circuits can be written in that version.
abbrev pub MirrorsAreAdmitted : Type 0
MirrorsAreAdmitted = (v : Version) (s m : Spelling) → Admits v s → IsMirror s m → Admits v m

-- A configuration has at most one inverse circuit, up to the order of the list of wires.
abbrev pub MirrorsAreOne : Type 0
MirrorsAreOne = (s t m n : Spelling) → AreSame s t → IsMirror s m → IsMirror t n → AreSame m n

-- The inverse circuit of the inverse circuit is the first circuit with no steps counted.
abbrev pub MirrorsTurnBack : Type 0
MirrorsTurnBack =
    (v : Version) (s m n : Spelling) → Admits v s → IsMirror s m → IsMirror m n
    → AreSame n (moved_to s (counted (situation_of s.config) 0))

-- As many steps as can be undone in a circuit can be made in its inverse circuit, and both lead to the same bars and
-- to corresponding places.
abbrev pub MirrorsRunBack : Type 0
MirrorsRunBack =
    (v : Version) (s m n : Spelling) → Admits v s → IsMirror s m → (most t : ℕ) (c : Config)
    → Reaches (Goes (circuit_of s)) most c s.config → t ≤ most
    → IsMirror (moved_to s (back (circuit_of s) s.config t)) n
    → Reaches (Goes (circuit_of m)) t m.config (run (circuit_of m) m.config t)
    × (situation_of (run (circuit_of m) m.config t) ≡ situation_of n.config)

-- Exactly t steps of m lead to the bars and the place of n, in which the signal has left by the end of m.
pub record ComesBack (m n : Spelling) (t : ℕ) : Type 0 where
  pub reaches : Reaches (Goes (circuit_of m)) t m.config (run (circuit_of m) m.config t)
  pub restored : situation_of (run (circuit_of m) m.config t) ≡ situation_of n.config
  pub left : (run (circuit_of m) m.config t).place ≡ Left m.end.element m.end.line

-- Take a run of t steps from a configuration whose signal is about to enter the start. From the inverse circuit of its
-- last configuration, t steps lead to the inverse circuit of its first, and the signal leaves by the end.
abbrev pub RunsComeBack : Type 0
RunsComeBack =
    (v : Version) (s m n : Spelling) → Admits v s → s.config.place ≡ Enter s.start.element s.start.line
    → (t : ℕ) (c : Config) → Reaches (Goes (circuit_of s)) t s.config c
    → IsMirror (moved_to s c) m → IsMirror s n → ComesBack m n t

-- If the signal has left by the end, it is about to enter the start in the inverse circuit. If it is about to enter
-- the start, it has left by the end in the inverse circuit.
abbrev pub MirrorsExchangeEnds : Type 0
MirrorsExchangeEnds =
    (v : Version) (s m : Spelling) → Admits v s → IsMirror s m
    → (s.config.place ≡ Left s.end.element s.end.line → m.config.place ≡ Enter m.start.element m.start.line)
    × (s.config.place ≡ Enter s.start.element s.start.line → m.config.place ≡ Left m.end.element m.end.line)

-- ---- the laws

pub record Laws : Type 0 where
  -- A configuration that can be written has an inverse circuit.
  pub mirrors_are_there : MirrorsAreThere
  -- If a configuration can be written in a version, its inverse circuits can be written in that version.
  pub mirrors_are_admitted : MirrorsAreAdmitted
  -- A configuration has at most one inverse circuit, up to the order of the list of wires.
  pub mirrors_are_one : MirrorsAreOne
  -- The inverse circuit of the inverse circuit is the first circuit with no steps counted.
  pub mirrors_turn_back : MirrorsTurnBack
  -- As many steps as can be undone in a circuit can be made in its inverse circuit, and both lead to the same bars and
  -- to corresponding places.
  pub mirrors_run_back : MirrorsRunBack
  -- If a run begins with the signal about to enter the start, as many steps of the inverse circuit lead back, and the
  -- signal leaves that circuit by its end.
  pub runs_come_back : RunsComeBack
  -- In the inverse circuit, a signal that left by the end is about to enter the start, and one about to enter the
  -- start has left by the end.
  pub mirrors_exchange_ends : MirrorsExchangeEnds

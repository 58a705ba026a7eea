use Rattle.std.proofs.Common.{ℕ, ◌<◌}
use Rattle.bn_netlist_laws.specs.Spelling.{circuit_of}
use Rattle.bn_netlist.specs.Drafting.{IsOwnColumn}
use Rattle.bn_netlist.proofs.spelled_out.first_spelled_out.Given as goal

abbrev pub invariant-loop-element : goal.invariant-loop-element
invariant-loop-element g l =
    (m : ℕ) → m < l.element → IsOwnColumn l.own (circuit_of (g.C.Spellable.spelling l.config))
    (g.C.Spellable.spelling l.config).config.states m → ⊥

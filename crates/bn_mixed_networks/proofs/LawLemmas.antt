-- The laws of this crate that follow from the others, each proved.
use Rattle.std.specs.Prelude.{◌≡◌, ℕ, List, replicate, Some, slice_get, refl}
use Rattle.std.proofs.Common.{zero, suc, arith, ap, subst}
use Rattle.bn_element.specs.Tables.{Table, IsReversible}
use Rattle.bn_element.specs.Rotary.{rotary}
use Rattle.bn_circuits.specs.Circuits.{Circuit}
use Rattle.bn_circuits.proofs.WiringsLemmas.{apart-IsOneToOne, rotary-outputs, rotary-inputs}
use Rattle.bn_element.specs.Reversible.{rotary-IsReversible}
use Rattle.bn_mixed_networks.specs.Parts.{size}
use Rattle.bn_mixed_networks.specs.Laws.{RealisationsAgree, EqualModulesBehaveAlike, AssembliesAreThere}
use Rattle.bn_mixed_networks.proofs.MovedLemmas.{follow}
use Rattle.bn_mixed_networks.proofs.WireLemmas.{all_wires, wire-within}

pub agree : RealisationsAgree
agree ps qs ws same = ap (λ (ts : List Table). record { tables = ts; wires = ws }) same

pub alike : EqualModulesBehaveAlike
alike ps qs ws k l n cost other s t c d same are also is too here there runs more room space =
    let first = follow ps ws k n cost s t c are is here runs room in
    let second = follow qs ws l n other s t d also too there more space in
    record {
      first = first.0;
      second = second.0;
      cost = cost;
      other = other;
      first_runs = first.1;
      second_runs = second.1;
      first_represents = first.2;
      second_represents = second.2;
    }

replicated : (n e : ℕ) (t : Table) → slice_get (replicate n rotary) e ≡ Some t → rotary ≡ t
replicated zero e t h = absurd (cc)
replicated (suc n) zero t h = cc
replicated (suc n) (suc e) t h = replicated n e t h

pub there : AssembliesAreThere
there ps ws are =
    let xs = all_wires ps ws are in
    let k : Circuit = record { tables = replicate (size ps) rotary; wires = xs.0 } in (
      k,
      record { tables = refl; wires = λ from to. (xs.1.sound from to, xs.1.complete from to) },
      record {
        reversible = λ e t at. subst IsReversible (replicated (size ps) e t at) rotary-IsReversible;
        one_to_one = apart-IsOneToOne xs.0 xs.1.apart;
        wired = λ from to leads. let h = wire-within ps ws are from to (xs.1.sound from to leads) in (
          rw (rotary-outputs (size ps) from.element (omega (arith, h.0.high))) h.0.line,
          rw (rotary-inputs (size ps) to.element (omega (arith, h.1.high))) h.1.line,
        );
      },
    )

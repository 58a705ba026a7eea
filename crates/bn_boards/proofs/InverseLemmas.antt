-- The build of the inverse takes back what the build of the machine has made.
use Rattle.std.specs.Prelude.{ℕ}
use Rattle.std.proofs.Common.{sym, ap, subst, ◌∙◌}
use Rattle.bn_lists.specs.Runs.{Reaches}
use Rattle.bn_machine.specs.Outcome.{Limits}
use Rattle.bn_quad.specs.Quadruples.{Configuration, Quadruples, QuadruplesRunTo, AreAllowed, initial_of, final_state_of}
use Rattle.bn_quad.specs.Quadruples.{inverse_of}
use Rattle.bn_bennett_laws.specs.Stages.{rooms_of}
use Rattle.bn_bennett_laws.specs.Steps.{EndsAt, Finished}
use Rattle.bn_erase_laws.proofs.InverseLemmas.{inverses-end}
use Rattle.bn_network.specs.Starts.{FitsWindow}
use Rattle.bn_boards.specs.Laws.{InverseBuildsRunBack}
use Rattle.bn_boards.proofs.FitLemmas.{final_fits, fits as window_fits}
use Rattle.bn_boards.proofs.StartLemmas.{builds-start-anywhere}

allowed : (m : Quadruples) (l : Limits) (c : Configuration ℕ) → FitsWindow m l c → AreAllowed (rooms_of l) c
allowed m l c h = record { one = h.one.head; two = h.two.head; three = h.three.head }

pub inverse-builds : InverseBuildsRunBack
inverse-builds f g is other machine limits c s at_start start n d ends =
    let fits : FitsWindow f.machine f.limits d = final_fits f is c s at_start start n d Finished ends in
    let turned : FitsWindow (inverse_of f.machine) f.limits d =
    record { one = fits.one; two = fits.two; three = fits.three } in
    let here = allowed f.machine f.limits c (window_fits f.machine f.limits s.states c start.shows) in
    let back = inverses-end f.machine is.is_network.uniform (rooms_of f.limits) n c d here start.initial ends.runs
    ends.ends in (
      builds-start-anywhere g other d
          (back.0 ∙ ap (λ (m : Quadruples). initial_of m.rules) (sym machine))
          (subst (λ m. FitsWindow m g.limits d) (sym machine)
          (subst (λ l. FitsWindow (inverse_of f.machine) l d) (sym limits) turned)),
      record {
        runs = subst (λ m. Reaches (QuadruplesRunTo (rooms_of g.limits) m) n d c) (sym machine)
            (subst (λ l. Reaches (QuadruplesRunTo (rooms_of l) (inverse_of f.machine)) n d c) (sym limits) back.1);
        ends = subst (λ (m : Quadruples). EndsAt (rooms_of g.limits) m.rules (final_state_of m.rules) c Finished)
            (sym machine) (subst (λ l. EndsAt (rooms_of l) (inverse_of f.machine).rules
            (final_state_of (inverse_of f.machine).rules) c Finished) (sym limits) back.2);
      },
    )

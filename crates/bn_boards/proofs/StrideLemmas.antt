-- From moment to moment over a machine's own run, and from its last moment to an end.
use Rattle.std.specs.Prelude.{◌≡◌, ℕ, ◌+◌, ◌*◌, ◌≤◌, Bool, true, false, ◌⊎◌}
use Rattle.std.proofs.Common.{zero, suc, ap, subst}
use Rattle.bn_lists.specs.Runs.{Reaches}
use Rattle.bn_circuits.specs.Situations.{Situation, IsAtEnd}
use Rattle.bn_quad.specs.Quadruples.{Configuration, QuadruplesRunTo}
use Rattle.bn_bennett_laws.specs.Stages.{rooms_of}
use Rattle.bn_rsm.specs.RunCosts.{run_cost}
use Rattle.bn_rsm.proofs.CostLemmas.{costs-bounded}
use Rattle.bn_network.specs.Moments.{IsMomentOf, TellsMoments, Travels, quad_moves}
use Rattle.bn_network.proofs.ExistingLemmas.{have-entries}
use Rattle.bn_network_laws.proofs.CommandLemmas.{commands-walk}
use Rattle.bn_network_laws.proofs.NextLemmas.{next-moment}
use Rattle.bn_boards.specs.Builds.{Build, IsUniformNetwork, build_elements}
use Rattle.bn_boards.specs.Journeys.{Strides, ComesOver}

-- ---- what strides are

-- there the network is at the moment of that configuration
pub strides_show : (f : Build) (test : Situation → Bool) (n : ℕ) (s t : Situation) (c d : Configuration ℕ)
    → IsMomentOf f.machine f.limits f.names f.network s c
    → Reaches (Strides f test) n (s, c) (t, d) → IsMomentOf f.machine f.limits f.names f.network t d
strides_show f test zero s t c d shows path = subst (λ (z : Situation × Configuration ℕ). IsMomentOf f.machine f.limits
    f.names f.network z.0 z.1) path shows
strides_show f test (suc n) s t c d shows path = strides_show f test n path.0.0 t path.0.1 d path.1.shows path.2

-- and the machine is in it
pub strides_run : (f : Build) (test : Situation → Bool) (n : ℕ) (s t : Situation) (c d : Configuration ℕ)
    → Reaches (Strides f test) n (s, c) (t, d)
    → Reaches (QuadruplesRunTo (rooms_of f.limits) f.machine) n c d
strides_run f test zero s t c d path = ap (λ (z : Situation × Configuration ℕ). z.1) path
strides_run f test (suc n) s t c d path = (path.0.1, path.1.goes, strides_run f test n path.0.0 t path.0.1 d path.2)

-- ---- that they are there

module _ (f : Build) (net : IsUniformNetwork f.machine f.limits f.names f.network) (test : Situation
    → Bool) (tells : TellsMoments f.machine f.names f.network test) where
  pub strides : (n : ℕ) (s : Situation) (c d : Configuration ℕ) → IsMomentOf f.machine f.limits f.names f.network s c
      → Reaches (QuadruplesRunTo (rooms_of f.limits) f.machine) n c d
      → (t : Situation) × Reaches (Strides f test) n (s, c) (t, d) × IsMomentOf f.machine f.limits f.names f.network t d
  strides zero s c d shows run =
      (s, (λ i. (s, run i)), subst (λ x. IsMomentOf f.machine f.limits f.names f.network s x) run shows)
  strides (suc n) s c d shows run =
      let by = run.1 in
      let next = next-moment costs-bounded (commands-walk costs-bounded) have-entries f.machine f.limits f.names
      f.network test net.machine net.uniform net.numbering net.network tells s c run.0 shows by.0 by.1 in
      let rest = strides n next.0 run.0 d next.3 run.2 in (
        rest.0,
        (
          (next.0, run.0),
          record {
            moves = quad_moves f.limits by.1.rule c;
            some = next.1;
            travels = next.2;
            goes = by;
            shows = next.3;
            told = next.4;
          },
          rest.1,
        ),
        rest.2,
      )

  -- from a start in one move to the first moment
  abbrev pub Begins : Situation → Configuration ℕ → Type 0
  Begins s c = (t : Situation) × Travels f.network test 1 (4 * build_elements f) s t
      × IsMomentOf f.machine f.limits f.names f.network t c × (test t ≡ true)

  -- and from the last one to an end of which this is so
  abbrev pub Closes : Situation → (Situation → Type 0) → Type 0
  Closes s Ends = (n : ℕ) × (t : Situation) × Travels f.network test n (48 * build_elements f) s t
      × (run_cost f.network (n + 1) s ≤ 48 * build_elements f) × IsAtEnd f.network t × Ends t
      × ((n ≡ 0) ⊎ (test t ≡ false))

  pub comes_over : (s : Situation) (c : Configuration ℕ) → Begins s c → (n : ℕ) (d : Configuration ℕ)
      → Reaches (QuadruplesRunTo (rooms_of f.limits) f.machine) n c d → (Ends : Situation → Type 0)
      → ((m : Situation) → IsMomentOf f.machine f.limits f.names f.network m d → Closes m Ends)
      → ComesOver f test s c n d Ends
  comes_over s c first n d run Ends closes =
      let middle = strides n first.0 c d first.2 run in
      let last = closes middle.0 middle.2 in
      record {
        first = first.0;
        starts = first.1;
        shows = first.2;
        told = first.3;
        moment = middle.0;
        strides = middle.1;
        moves = last.0;
        last = last.1;
        leaves = last.2;
        whole = last.3;
        ended = last.4;
        ends = last.5;
        quiet = last.6;
      }

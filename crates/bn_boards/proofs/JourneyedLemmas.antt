-- From the machine's own outcome to the network's run.
use Rattle.std.specs.Prelude.{◌≢◌, ℕ, ◌+◌, ◌*◌, Bool, List, length}
use Rattle.std.proofs.Common.{sym, subst}
use Rattle.bn_machine.specs.Machine.{Program}
use Rattle.bn_machine.specs.Outcome as outcome
use Rattle.bn_machine.specs.Outcome.{Outcome, HasOutcome}
use Rattle.bn_quad.specs.Quadruples.{Configuration, Rule, Rooms}
use Rattle.bn_bennett_laws.specs.Steps.{Exit, Finished, Stopped, Leaving, EndsAt, finishes, stops, leaves}
use Rattle.bn_bennett.proofs.LawLemmas.{translations_end_alike}
use Rattle.bn_bennett.specs.Runs.{beginning_of, ending_of, Comes, MachineEndsAs}
use Rattle.bn_circuits.specs.Situations.{Situation}
use Rattle.bn_network.specs.Controls.{ControlMove, IsEntry}
use Rattle.bn_network.specs.Moments.{TellsMoments}
use Rattle.bn_network_laws.specs.Ends.{EndsBy, IsEarlyStop}
use Rattle.bn_boards.specs.Flats.{Flat, build_of, machine_of, IsFlatOf, IsAccepted, situation_at_start}
use Rattle.bn_boards.specs.Journeys.{NetworkComes, NetworkEndsAs}
use Rattle.bn_boards.specs.RunLaws.{NetworksEndAlike}
use Rattle.bn_boards.proofs.ReadingLemmas.{uniform_of, word_low}
use Rattle.bn_boards.proofs.StrideLemmas.{comes_over}
use Rattle.bn_network_laws.proofs.LastLemmas.{stopped_at_one}
use Rattle.bn_network_laws.proofs.LawLemmas.{first_moment_comes, last_moment_ends}

-- a run that ends as stopped is not in the final state
still_going : {Q : Type 0} (rooms : Rooms) (rs : List (Rule Q)) (final : Q) (c : Configuration Q)
    → EndsAt rooms rs final c Stopped → c.state ≢ final
still_going rooms rs final c (finishes is e) = absurd (cc)
still_going rooms rs final c (stops going none e) = going
still_going rooms rs final c (leaves tape side d going follows out e) = absurd (cc)

module _ (p : Program) (f : Flat) (test : Situation → Bool) (flat : IsFlatOf p f.word f.limits f)
    (accepted : IsAccepted p f.word f.limits f) (tells : TellsMoments (machine_of f) f.names f.network test) where
  comes : (n : ℕ) (d : Configuration ℕ) (e : Exit) → Comes f.translation f.word f.limits n d e
      → ((k : ControlMove) → IsEntry (machine_of f) d.state k → IsEarlyStop (machine_of f) d e)
      → NetworkComes f test n d e
  comes n d e h early =
      let net = uniform_of p f.word f.limits f flat accepted.standard in
      comes_over (build_of f) net test tells (situation_at_start f) (beginning_of f.translation f.word)
      (first_moment_comes (machine_of f) f.limits f.names f.network test f.word net.machine net.uniform net.symbols
      net.numbering net.network tells (word_low p f.translation f.word flat.translation accepted.letters)
      accepted.fits) n d h.run (λ s. EndsBy (machine_of f) f.limits f.names s d e)
      (λ s now. last_moment_ends (machine_of f) f.limits f.names f.network test net.machine net.uniform net.numbering
      net.network tells s d e now h.ends (early now.first now.entry))

  ends : (i : ℕ) (o : Outcome) → MachineEndsAs f.translation f.word f.limits i o → NetworkEndsAs f test i o
  ends i (outcome.Halted y) h = comes (4 * i + 4 * length y + 5) (ending_of f.translation f.word y) Finished h.1
      (λ _ _. tt)
  ends i (outcome.Stuck j c) h = (
    h.0,
    comes (2 * i) h.0 Stopped h.1 (λ k entry. (
      1,
      stopped_at_one (machine_of f) h.0 h.4 k entry (still_going _ _ _ h.0 h.1.ends),
    )),
    h.2,
    h.3,
    h.4,
  )
  ends i (outcome.Outside t side) h = (h.0, h.1, comes h.0 h.1 (Leaving t side) h.2 (λ _ _. tt), h.2)

pub networks-end : NetworksEndAlike
networks-end p word l f test flat accepted tells i o outcome =
    let word_is = sym flat.word_is in
    let limits_are = sym flat.limits_are in
    let flat_own : IsFlatOf p f.word f.limits f = subst (λ w. IsFlatOf p w f.limits f) word_is
    (subst (λ x. IsFlatOf p word x f) limits_are flat) in
    let accepted_own : IsAccepted p f.word f.limits f = subst (λ w. IsAccepted p w f.limits f) word_is
    (subst (λ x. IsAccepted p word x f) limits_are accepted) in
    let outcome_own : HasOutcome p f.word f.limits i o = subst (λ w. HasOutcome p w f.limits i o) word_is
    (subst (λ x. HasOutcome p word x i o) limits_are outcome) in
    let ended = (translations_end_alike p f.translation f.word accepted_own.standard flat_own.translation
    accepted_own.letters f.limits i
    o).0 outcome_own in
    ends p f test flat_own accepted_own tells i o ended

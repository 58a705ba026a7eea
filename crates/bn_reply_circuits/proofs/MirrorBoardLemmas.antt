-- A board's mirror leads back to where the board began.
use Rattle.std.specs.Prelude.{◌≡◌, ℕ, ◌+◌, ◌-◌, List, replicate}
use Rattle.std.proofs.Common.{arith, sym, ap, subst, ◌∙◌}
use Rattle.bn_lists.specs.Runs.{Reaches}
use Rattle.bn_element.specs.Rotary.{rotary}
use Rattle.bn_circuits.specs.Alike.{AreAlike}
use Rattle.bn_circuits.specs.Circuits.{Goes}
use Rattle.bn_circuits.specs.Stepping.{run}
use Rattle.bn_circuits.proofs.AlikeLemmas.{run-alike}
use Rattle.bn_circuits.proofs.RunLemmas.{Reaches-run, Reaches-IsConfig, run_makes}
use Rattle.bn_circuits.proofs.RunPartLemmas.{runs_split, steps_of_run}
use Rattle.bn_circuits.specs.declared.place.Place.TheVariants.{Enter}
use Rattle.bn_circuits.specs.declared.config.Config.{Config}
use Rattle.bn_machine.specs.Machine.{Program}
use Rattle.bn_machine.specs.Outcome.{Limits}
use Rattle.bn_machine.proofs.OutcomeLemmas.{outcome_exists}
use Rattle.bn_netlist_laws.specs.Spelling.{Spelling, Admits, circuit_of, moved_to}
use Rattle.bn_netlist_laws.specs.declared.version.Version.{Version}
use Rattle.bn_netlist_laws.proofs.VersionLemmas.{spellings-move}
use Rattle.bn_mirror.specs.Mirror.{IsMirror}
use Rattle.bn_mirror.specs.Laws.{ComesBack}
use Rattle.bn_circuits.proofs.AlikeLemmas.{sources_one}
use Rattle.bn_mirror.proofs.RunLemmas.{runs-come_back}
use Rattle.bn_boards.specs.Flats.{Flat, IsFlatOf, flat_start}
use Rattle.bn_boards.proofs.ClosedLemmas.{run_to_exit}
use Rattle.bn_boards.proofs.CountLemmas.{costs-one}
use Rattle.bn_reply_relations.specs.CompileReply.{IsFlatSpelling}
use Rattle.bn_reply_relations.specs.RunReply.{board_after}
use Rattle.bn_reply_relations.proofs.SpelledLemmas.{target_of}
use Rattle.bn_reply_circuits.specs.MirrorLaws.{BoardsComeBack}

module _ (p : Program) (word : List ℕ) (l : Limits) (f : Flat) (flat : IsFlatOf p word l f) (v : Version) (s : Spelling)
    (board : IsFlatSpelling f s)
    (admitted : Admits v s) where
  -- the circuit that is spelled is the board
  spelled_alike : AreAlike (circuit_of s) f.circuit
  spelled_alike = record {
    tables = ap (λ n. replicate n rotary) board.elements ∙ sym flat.is_board.tables;
    targets = target_of f p word l flat s board;
    sources = sources_one s.wires f.circuit.wires admitted.circuit.one_to_one flat.is_board.circuit.one_to_one
        (target_of f p word l flat s board);
  }

  ran_alike : (t : ℕ) → run (circuit_of s) s.config t ≡ board_after f t
  ran_alike t = run-alike (circuit_of s) f.circuit spelled_alike s.config t ∙ ap (λ c. run f.circuit c t) board.config

  -- as many steps as the board makes
  spelled_reaches : (t : ℕ) → Reaches (Goes f.circuit) t (flat_start f) (board_after f t)
      → Reaches (Goes (circuit_of s)) t s.config (board_after f t)
  spelled_reaches t made =
      let makes = run_makes (circuit_of s) s.config t in
      let there = ran_alike t in
      let here : (board_after f t).steps ≡ (flat_start f).steps + t =
      steps_of_run f.circuit t (flat_start f) (board_after f t) made in
      let also : (run (circuit_of s) s.config t).steps ≡ s.config.steps + makes.made =
      steps_of_run (circuit_of s) makes.made s.config (run (circuit_of s) s.config t) makes.reaches in
      let first : s.config.steps ≡ (flat_start f).steps = ap (λ (c : Config). c.steps) board.config in
      let last : (run (circuit_of s) s.config t).steps ≡ (board_after f t).steps = ap (λ (c : Config). c.steps) there in
      let all : makes.made ≡ t = omega (arith, here, also, first, last) in
      subst (λ c. Reaches (Goes (circuit_of s)) t s.config c) there
      (subst (λ n. Reaches (Goes (circuit_of s)) n s.config (run (circuit_of s) s.config t)) all makes.reaches)

  comes_back : (t : ℕ) → Reaches (Goes f.circuit) t (flat_start f) (board_after f t) → (m n : Spelling)
      → IsMirror (moved_to s (board_after f t)) m → IsMirror s n
      → Admits v (moved_to s (board_after f t)) × ComesBack m n t
  comes_back t made m n is other =
      let ran = spelled_reaches t made in
      let place : s.config.place ≡ Enter s.start.element s.start.line =
      ap (λ (c : Config). c.place) board.config ∙ sym board.start in (
        spellings-move v s (board_after f t) admitted (Reaches-IsConfig (circuit_of s) admitted.circuit t s.config
            (board_after f t) admitted.config ran),
        runs-come_back v s m n admitted place t (board_after f t) ran is other,
      )

pub boards-come_back : BoardsComeBack
boards-come_back p word l f flat accepted v s board admitted cost t has_cost within m n is other =
    let some = outcome_exists p word l in
    let ran = run_to_exit p word l f flat accepted some.0 some.1 some.2 in
    let same : ran.cost ≡ cost = costs-one f ran.cost cost ran.has_cost has_cost in
    let cut = runs_split (Goes f.circuit) t (ran.cost - t) ran.cost (flat_start f) (board_after f ran.cost)
    (omega arith) ran.run_to in
    let made : Reaches (Goes f.circuit) t (flat_start f) (board_after f t) =
    subst (λ c. Reaches (Goes f.circuit) t (flat_start f) c)
    (sym (Reaches-run f.circuit t (flat_start f) cut.0 cut.1)) cut.1 in
    comes_back p word l f flat v s board admitted t made m n is other

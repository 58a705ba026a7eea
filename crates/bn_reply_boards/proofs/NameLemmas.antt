-- The line of the exit to which a run comes names a state and a symbol of the table.
use Rattle.std.specs.Prelude.{◌≡◌, ℕ, ◌<◌, List, [], ◌∷◌, length, slice_index_or}
use Rattle.std.proofs.Common.{zero, suc, arith, inl, inr, sym, ap, subst, ◌∙◌}
use Rattle.std.proofs.lemmas.Bool.{cases_lt}
use Rattle.bn_circuits.specs.declared.place.Place.{Place}
use Rattle.bn_circuits.specs.declared.config.Config.{Config}
use Rattle.bn_machine.specs.Machine.{IsMachine, Moment, Program, start}
use Rattle.bn_machine.specs.Outcome as outcome
use Rattle.bn_machine.specs.Outcome.{ComesOut, HasOutcome, Limits, Outcome, halts, sticks, runs_out, leaves, copied}
use Rattle.bn_machine.specs.Outcome.{work_short, output_short}
use Rattle.bn_machine.proofs.OutcomeLemmas.{outcome_exists}
use Rattle.bn_machine.specs.Tape.{scanned}
use Rattle.bn_machine.specs.Window.{within}
use Rattle.bn_table.specs.Rows.{Named}
use Rattle.bn_bennett_laws.specs.declared.name.Name.{Name}
use Rattle.bn_bennett_laws.specs.declared.name.Name.TheVariants.{Compute, GoRight}
use Rattle.bn_bennett.specs.Meaning.{machine_state_by}
use Rattle.bn_bennett.specs.Translation.{name_of}
use Rattle.bn_bennett.specs.declared.translated.MachineState.TheVariants.{AtState}
use Rattle.bn_boards.specs.declared.exit.Exit.{Exit}
use Rattle.bn_boards.specs.declared.exit.Exit.TheVariants as exit
use Rattle.bn_boards.specs.LayoutLaws.{ExitsAreOne}
use Rattle.bn_boards.specs.Layouts.{IsExit, IsNamedExit, inside, named, unnamed}
use Rattle.bn_boards.specs.Flats.{Flat, IsAccepted, IsFlatOf, flat_start}
use Rattle.bn_boards.specs.BoardRuns.{IsExitFor, RunsToExit}
use Rattle.bn_boards.specs.RunLaws.{BoardsRunToTheirExit}
use Rattle.bn_boards.proofs.CountLemmas.{before_end}
use Rattle.bn_boards.proofs.OutcomeLemmas.{at_cost, not_unnamed}
use Rattle.bn_reply_machines.proofs.FitLemmas.{AreSymbols, Fits, run_fits, start_fits}
use Rattle.bn_reply_relations.specs.RunReply.{board_after}
use Rattle.bn_reply_relations.proofs.RunLemmas.{named_of}
use Rattle.bn_reply_boards.specs.Shown.{HasNames, IsKnownStuck}

-- the state and the symbol at which a bounded run is stuck are the machine's
pub record IsKnown (p : Program) (j c : ℕ) : Type 0 where
  pub state : j < p.states
  pub symbol : c < p.symbols

stuck_known : (p : Program) (l : Limits) (i : ℕ) (m : Moment) (j c : ℕ) → Fits p m
    → ComesOut p l i m (outcome.Stuck j c) → IsKnown p j c
stuck_known p l i m j c fits (sticks stuck is) =
    let states : m.state ≡ j = cc in
    let symbols : scanned m.tape ≡ c = cc in
    record {
      state = subst (λ s. s < p.states) states fits.state;
      symbol = subst (λ s. s < p.symbols) symbols (fits.symbols m.tape.head);
    }
stuck_known p l i m j c fits (runs_out d goes all is) = absurd (cc)
stuck_known p l i m j c fits (leaves d side goes low beyond is) = absurd (cc)
stuck_known p l i m j c fits (halts y final output (copied room is)) = absurd (cc)
stuck_known p l i m j c fits (halts y final output (work_short k first short is)) = absurd (cc)
stuck_known p l i m j c fits (halts y final output (output_short k first room short is)) = absurd (cc)

outcome_known : (p : Program) (word : List ℕ) (l : Limits) (i j c : ℕ) → IsMachine p → AreSymbols p word
    → HasOutcome p word l i (outcome.Stuck j c) → IsKnown p j c
outcome_known p word l i j c machine symbols h =
    stuck_known p l i h.moment j c (run_fits (within l.left l.right) p i (start p word) h.moment machine
    (start_fits p word machine symbols) h.run) h.ends

-- a state whose name is another than the one that stands for none is one of the machine's
state_named : (names : List Name) (a j : ℕ) → slice_index_or names a GoRight ≡ Compute j → a < length names
state_named [] a j is = absurd (cc)
state_named (x ∷ names) zero j is = omega arith
state_named (x ∷ names) (suc a) j is = let low = state_named names a j is in omega arith

module _ (t : Named) (word : List ℕ) (l : Limits) (f : Flat) (flat : IsFlatOf t.machine word l f)
    (accepted : IsAccepted t.machine word l f) where
  word_symbols : AreSymbols t.machine word
  word_symbols = record { each = λ k low. accepted.letters k 0 low }

  named_known : (a c j : ℕ) → name_of f.translation a ≡ Compute j → IsKnown t.machine j c
      → IsKnownStuck t f.translation a c
  named_known a c j is known = record {
    state = let low = state_named f.translation.names a j is in let count = flat.translation.states in omega arith;
    named = λ i at. subst (λ s. s < t.machine.states) (let both : AtState j
        ≡ AtState i = ap (machine_state_by f.translation.final_state) (sym is) ∙ at in cc) known.state;
    symbol = known.symbol;
  }

  exit_known : (i : ℕ) (o : Outcome) → HasOutcome t.machine word l i o → (e : Exit) → IsExitFor f o e
      → HasNames t f.translation e
  exit_known i o h exit.Inside for = tt
  exit_known i o h exit.End for = tt
  exit_known i o h (exit.Window n s) for = tt
  exit_known i o h exit.Unnamed for = tt
  exit_known i (outcome.Halted y) h (exit.Stuck a c) for = absurd (cc)
  exit_known i (outcome.Outside n s) h (exit.Stuck a c) for = absurd (cc)
  exit_known i (outcome.Stuck j d) h (exit.Stuck a c) for =
      let both : exit.Stuck a c ≡ exit.Stuck for.0 d = for.2 in
      let states : for.0 ≡ a = cc in
      let symbols : d ≡ c = cc in
      named_known a c j (subst (λ x. name_of f.translation x ≡ Compute j) states for.1)
      (subst (λ x. IsKnown t.machine j x) symbols (outcome_known t.machine word l i j d accepted.standard.machine
      word_symbols h))

  module _ (ones : ExitsAreOne) (boards : BoardsRunToTheirExit) where
    only : (p : Place) (e x : Exit) → IsExit f.layout p e → IsNamedExit f.layout p x → HasNames t f.translation x
        → HasNames t f.translation e
    only p e x (named h) there names = subst (HasNames t f.translation)
        (ones t.machine word l f flat accepted p x e there h) names
    only p e x (unnamed is none) there names = absurd (none x there)

    -- whatever exit the layout finds after so many steps
    pub exit_names : (n : ℕ) (e : Exit) → IsExit f.layout (board_after f n).place e → HasNames t f.translation e
    exit_names n e is = let some = outcome_exists t.machine word l in by_order some.0 some.1 some.2
        (boards t.machine word l f flat accepted some.0 some.1 some.2)
      where
        by_order : (i : ℕ) (o : Outcome) → HasOutcome t.machine word l i o → RunsToExit t.machine f i o
            → HasNames t f.translation e
        by_order i o h ran =
            elim (cases_lt n ran.cost) [
              | inl low ↦
                  (let before = before_end f.circuit ran.cost n (flat_start f) (board_after f ran.cost) ran.run_to low
                  in
                  only (board_after f n).place e exit.Inside is (inside before.0 before.1 before.2) tt)
              | inr high ↦
                  (let there : IsNamedExit f.layout (board_after f ran.cost).place ran.exit =
                  named_of f.layout (board_after f ran.cost).place ran.exit ran.is_exit
                  (not_unnamed f o ran.exit ran.for_outcome) in
                  only (board_after f n).place e ran.exit is (subst (λ (c : Config). IsNamedExit f.layout c.place
                  ran.exit) (sym (at_cost t.machine f i o ran n high)) there)
                  (exit_known i o h ran.exit ran.for_outcome))
            ]

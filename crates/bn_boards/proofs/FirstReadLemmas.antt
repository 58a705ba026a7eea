-- At the answer of a first read the network stops exactly where the machine is stuck there.
use Rattle.std.specs.Prelude.{◌≡◌, ◌↔◌, ℕ, ◌+◌, ◌*◌, Bool, not, List, [], ◌∷◌, Some, refl}
use Rattle.std.proofs.Common.{sym, ap, subst, ◌∙◌, inl}
use Rattle.bn_lists.specs.Lists.{nth}
use Rattle.bn_lists.specs.Runs.{Reaches}
use Rattle.bn_circuits.specs.Circuits.{Circuit, place_after}
use Rattle.bn_circuits.specs.Situations.{Situation, Turns, IsAtEnd}
use Rattle.bn_circuits.specs.declared.place.Place.TheVariants.{Enter}
use Rattle.bn_lists.proofs.RunsLemmas.{passes_run}
use Rattle.bn_machine.specs.Tape.{scanned, write}
use Rattle.bn_machine.specs.Outcome.{Limits}
use Rattle.bn_quad.specs.Quadruples.{Rule, Quadruples, Configuration}
use Rattle.bn_rsm.proofs.CostLemmas.{costs-bounded}
use Rattle.bn_network.specs.declared.cell_line.CellLine.TheVariants.{Read, Answer}
use Rattle.bn_network.specs.Cells.{line_number}
use Rattle.bn_network.specs.Controls.{ControlState, ControlMove, reads_on, Reads, Tape as to_tape, IsEntry}
use Rattle.bn_network.specs.Controls.{symbol_count, in_number, out_number, reads_of}
use Rattle.bn_network.specs.Networks.{IsControlAt, IsTape, first_cell, left_of}
use Rattle.bn_circuits.specs.Circuits.{line_at}
use Rattle.bn_network.specs.Moments.{IsMomentOf, head_cell}
use Rattle.bn_network.proofs.ExistingLemmas.{have-entries}
use Rattle.bn_network_laws.specs.Commands.{does_read, head_of}
use Rattle.bn_network_laws.proofs.CommandLemmas.{commands-walk}
use Rattle.bn_network_laws.specs.Ends.{tape_of, put_tape, IsStoppedAt}
use Rattle.bn_network_laws.proofs.ShownLemmas.{shown_at, shown_with}
use Rattle.bn_network_laws.proofs.PlaceLemmas.{after_control, command_place, cells_calm}
use Rattle.bn_network_laws.proofs.ChainLemmas.{control_turns}
use Rattle.bn_network_laws.proofs.OrderLemmas.{occurs_entry, occurs_reads}
use Rattle.bn_network_laws.proofs.RangeLemmas.{rule_range}
use Rattle.bn_network_laws.proofs.LastLemmas.{answer_line, stuck}
use Rattle.bn_boards.specs.Builds.{IsUniformNetwork}
use Rattle.bn_boards.specs.NetworkMoments.{NetworksStopAtFirstReads}
use Rattle.bn_boards.proofs.NetworkMomentLemmas.{networks-moments}

module _ (m : Quadruples) (l : Limits) (names : List ControlState) (k : Circuit) (is : IsUniformNetwork m l names k)
    (s : Situation) (c : Configuration ℕ) (t : ℕ)
    (now : IsMomentOf m l names k s c) (tape : IsTape t) (entry : IsEntry m c.state (Reads c.state [], to_tape t Read))
  where
    -- ---- the way to the answer

    stops_there : (u : Situation) × Reaches (Turns k) (2 * head_cell (left_of l t) (tape_of c t) + 1) s u
        × (u.place ≡ Enter 0 (in_number m (answer_line c t)))
        × IsControlAt names u.states (Reads c.state []) × (IsAtEnd k u ↔ IsStoppedAt m c t)
    stops_there =
        let told = networks-moments m l names k is in
        let test : Situation → Bool = told.0 in
        let first : now.first ≡ (Reads c.state [], to_tape t Read) =
        (have-entries m is.machine is.uniform).one c.state now.first (Reads c.state [], to_tape t Read) now.entry
        entry in
        let waits : IsControlAt names s.states (Reads c.state []) =
        subst (λ (v : ControlMove). IsControlAt names s.states v.0) first now.waits in
        let start : s.place ≡ Enter (first_cell l t) (line_number (symbol_count m t) Read) =
        now.place ∙ ap (λ (v : ControlMove). place_after k.wires (line_at 0 (out_number m v.1))) first
        ∙ command_place m l names k is.network t Read tape tt tt in
        let done = (commands-walk costs-bounded m l names k test t s (tape_of c t) is.network tape
        (cells_calm m l names k is.network test told.1.tells t tape) (shown_at m l s.states c t tape now.shows)).0
        Read (Answer (scanned (tape_of c t))) (write (tape_of c t) 0) (2 * head_of l t (tape_of c t) + 1)
        (does_read refl refl refl refl) start in
        let still : IsControlAt names done.last.states (Reads c.state []) =
        record {
          number = waits.number;
          is = done.others 0 (inl (after_control l t tape)) ∙ waits.is;
          named = waits.named;
        } in
        let shows = shown_with m l s.states done.last.states c t (write (tape_of c t) 0) tape now.shows done.shows
        done.others in
        let goes_on : IsAtEnd k done.last → (n : ℕ) (r : Rule ℕ) (rest : List (ℕ × ℕ)) → nth m.rules n ≡ Some r
        → r.from ≡ c.state → reads_of r ≡ (t, scanned (tape_of c t)) ∷ rest → ⊥ =
        λ ended n r rest stands from split.
        let f = (have-entries m is.machine is.uniform).some r.to (rule_range m is.machine n r stands).to in
        let goes = reads_on n r stands f.0 f.1 [] rest (t, scanned (tape_of c t)) split
        (ap (λ a. Reads a []) (sym from))
        refl refl in
        let turned = control_turns costs-bounded m l names k is.numbering is.network test done.last (Reads c.state [])
        (answer_line c t) _ (put_tape c t (write (tape_of c t) 0)) still done.place shows goes
        (occurs_reads m n r stands f.0 (occurs_entry m r.to f.0 f.1) rest ((t, scanned (tape_of c t)) ∷ []) split) in
        ended turned.1.path.0 turned.1.path.1 in (
          done.last,
          passes_run (Turns k) (λ x. not (test x)) (2 * head_of l t (tape_of c t) + 1) s done.last done.path,
          done.place,
          still,
          (
            λ ended. record { tape = tape; entry = entry; none = goes_on ended },
            λ stop. stuck have-entries m l names k is.machine is.uniform is.network c t stop done.last still done.place,
          ),
        )

pub networks-stop : NetworksStopAtFirstReads
networks-stop m l names k is s c t now tape entry = stops_there m l names k is s c t now tape entry

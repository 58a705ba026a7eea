-- The headline by the machine alone, from the reply to a run.
use Rattle.std.specs.Prelude.{refl, ◌≡◌, ℕ, ◌+◌, ◌-◌, ◌*◌, ◌<◌, ◌≤◌, List, [], ◌∷◌, ◌++◌, length, replicate, slice_get}
use Rattle.std.specs.Prelude.{Option, Some, None, slice_index, decimal}
use Rattle.std.proofs.Common.{zero, suc, arith, zero-add, ap, subst, ◌∙◌, sym}
use Rattle.std.proofs.lemmas.Option.{option_and_then_some}
use Rattle.bn_bennett_laws.specs.List.{symbols_of}
use Rattle.bn_io.specs.Told.{Grows}
use Rattle.bn_circuits.specs.declared.place.Place.{Place}
use Rattle.bn_lists.specs.Runs.{Reaches}
use Rattle.bn_element.specs.Tables.{Table}
use Rattle.bn_circuits.specs.declared.line.Line.{Line}
use Rattle.bn_circuits.specs.declared.place.Place.TheVariants.{Enter}
use Rattle.bn_circuits.specs.Circuits.{Circuit, Goes, IsCircuit}
use Rattle.bn_circuits.specs.Stepping.{run}
use Rattle.bn_circuits.specs.declared.config.Config.{Config}
use Rattle.bn_circuits.proofs.CountingLemmas.{one_low, tally_low}
use Rattle.bn_circuits.proofs.RunLemmas.{Reaches-run}
use Rattle.bn_circuits.proofs.RunPartLemmas.{runs_split, steps_of_run}
use Rattle.bn_machine.specs.Tape.{Tape}
use Rattle.bn_boards.specs.declared.spelled.Spelled.{Spelled}
use Rattle.bn_machine.specs.Outcome as outcome
use Rattle.bn_machine.specs.Outcome.{Limits, Outcome, HasOutcome}
use Rattle.bn_circuits.specs.declared.net.TheConstants.{MOST_ELEMENTS}
use Rattle.bn_element.specs.Rotary.{rotary}
use Rattle.bn_quad.specs.Quadruples.{Quadruples}
use Rattle.bn_table.specs.Laws.{TablesAreMachines}
use Rattle.bn_table.specs.Rows.{Named}
use Rattle.bn_network.specs.Controls.{ControlState, lines_before}
use Rattle.bn_network.specs.Networks.{bank_size, cell_size, cells_in, elements_by}
use Rattle.bn_boards.specs.declared.exit.Exit.TheVariants as exit
use Rattle.bn_boards.specs.Layouts.{Layout, IsLayout, elements_of, is_moment, spelled_tape}
use Rattle.bn_boards.specs.Flats.{IsFlatOf, Flat, flat_start}
use Rattle.bn_boards.proofs.SpanLemmas.{spans}
use Rattle.bn_boards.specs.Costs.{HasCost, bound_of}
use Rattle.bn_boards.specs.BoardRuns.{HasEndTapes, RunsToExit, SpellsEnd}
use Rattle.bn_boards.specs.RunLaws.{CostsAreOne}
use Rattle.bn_reply.specs.declared.status.Status.{Status}
use Rattle.bn_reply.specs.declared.status.Status.TheVariants as statuses
use Rattle.bn_reply.specs.TableReply.{WordReplies}
use Rattle.bn_reply.proofs.SettledLemmas.{standard_tells, word_tells}
use Rattle.bn_reply.proofs.TableLemmas.{reads_table}
use Rattle.bn_boards.specs.Boards.{size}
use Rattle.bn_base.specs.Number.{greatest}
use Rattle.bn_reply.specs.declared.limits.TheConstants.{MOST_INPUT_BYTES}
use Rattle.bn_reply_relations.specs.Windows.{BoardReplies, long, large, board, ComesTo, CountsElements, large_line}
use Rattle.bn_reply_relations.specs.RunText.{elements_line, exit_line, shown_lines, steps_line, tape_lines, tapes_text}
use Rattle.bn_reply_relations.specs.RunReply.{RunReplies, TellsRun, board_after}
use Rattle.bn_reply_relations.specs.ToldRuns as within
use Rattle.bn_reply_relations.specs.ToldRuns.{ComesOutOn, TellsOutcome, outcome_line, outcome_rest, run_words}
use Rattle.bn_reply_relations.specs.Laws.{AnswersTellHeadline, BoardsAreCounted, RunsHaveOneOfEach}
use Rattle.bn_reply_relations.proofs.WindowLemmas.{standard_machine}
use Rattle.bn_headline.specs.Elements.{elements, most_steps}
use Rattle.bn_headline.specs.MachineHeadline.{AreLastLines, AreTapes, IsOwnRun, MachineHeadline, MachineHeadlineWithin}
use Rattle.bn_headline.specs.MachineHeadline.{TellsExit, TellsInside, TellsExitWithin, TookAnswer, least_steps}
use Rattle.bn_headline.specs.HeadlineLaws.{ElementsAreCounted, RepliesTellMachine}

-- ---- tapes

-- the lines where a run doesn't halt
abbrev EndLines : Named → Limits → List ℕ → ℕ → Outcome → List ℕ → Type 0
EndLines t l symbols i o text = (x : Tape × Tape × Tape) × HasEndTapes t.machine symbols l i o x
    × (text ≡ tapes_text t l x)

-- those of a board at the end
end_lines : (t : Named) (l : Limits) (symbols : List ℕ) (f : Flat) (states : List ℕ) (i : ℕ) (o : Outcome)
    → f.limits ≡ l → f.word ≡ symbols → SpellsEnd t.machine f states i o
    → EndLines t l symbols i o (shown_lines t f states)
end_lines t l symbols f states i o limits word ends = (
  ends.tapes,
  subst (λ w. HasEndTapes t.machine w l i o ends.tapes) word (subst (λ m. HasEndTapes t.machine f.word m i o ends.tapes)
      limits ends.has),
  ap (λ (s : Spelled). tape_lines t s.one s.two s.three) ends.spells ∙ ap (λ m. tapes_text t m ends.tapes) limits,
)

shown_tapes : (t : Named) (symbols : List ℕ) (l : Limits) (f : Flat) (states : List ℕ) → IsFlatOf t.machine symbols l f
    → AreTapes t l (shown_lines t f states)
shown_tapes t symbols l f states flat =
    let same = flat.is_layout.limits in
    let letters : f.layout.symbols ≡ symbols_of t.machine = flat.is_layout.symbols ∙ flat.translation.symbols in (
      spelled_tape f.layout states 1,
      spelled_tape f.layout states 2,
      spelled_tape f.layout states 3,
      spans f.layout l states 1 l.left l.right t.machine.symbols same (λ _. l.left) (λ _. l.left + l.right + 1)
          (λ i. slice_index (letters i) 0),
      spans f.layout l states 2 0 l.steps (length t.machine.quints + 1) same (λ _. 0) (omega arith)
          (λ i. slice_index (letters i) 1),
      spans f.layout l states 3 0 l.output t.machine.symbols same (λ _. 0) (omega arith)
          (λ i. slice_index (letters i) 2),
      λ _. shown_lines t f states,
    )

-- ---- numbers

-- the layout tells the elements of the network, and with them the bound
layout_elements : (m : Quadruples) (l : Limits) (names : List ControlState) (b : Layout) → IsLayout m l names b →
    elements_of b ≡ elements_by m l (length names)
layout_elements m l names b is = λ i.
    bank_size (is.states i) (lines_before (is.symbols i) 3) + cells_in (is.limits i) 1
    * cell_size (slice_index (is.symbols i) 0)
    + cells_in (is.limits i) 2 * cell_size (slice_index (is.symbols i) 1)
    + cells_in (is.limits i) 3 * cell_size (slice_index (is.symbols i) 2)

-- the steps made within a run
steps_within : (k : Circuit) (n e : ℕ) (c d : Config) → Reaches (Goes k) n c d → e ≤ n → (run k c e).steps ≡ c.steps + e
steps_within k n e c d path low =
    let split = runs_split (Goes k) e (n - e) n c d (omega arith) path in
    ap (λ (x : Config). x.steps) (Reaches-run k e c split.0 split.1) ∙ steps_of_run k e c split.0 split.1

-- an element of a circuit of equal tables is one of so many
replicated : (t u : Table) (n e : ℕ) → slice_get (replicate n t) e ≡ Some u → (e < n) × (t ≡ u)
replicated t u zero e h = absurd (cc)
replicated t u (suc n) zero h = (omega arith, cc)
replicated t u (suc n) (suc e) h = let rest = replicated t u n e h in let low = rest.0 in (omega arith, rest.1)

-- where a run goes on the signal is about to enter a line of an element
record IsEntering (k : Circuit) (many lines : ℕ) (c : Config) : Type 0 where
  line : Line
  is : c.place ≡ Enter line.element line.line
  element : line.element < many
  side : line.line < lines

entering : (k : Circuit) (t : Table) (many : ℕ) → IsCircuit k → k.tables ≡ replicate many t → (c d : Config)
    → Goes k c d → IsEntering k many t.inputs c
entering k t many circuit tables c d g =
    option_and_then_some (λ (u : Table). u.go g.crosses.before g.crosses.input) (slice_get k.tables g.crosses.element)
    (g.crosses.after, g.crosses.output) g.crosses.moves
    (λ u stands moves.
    let at = replicated t u many g.crosses.element (sym (ap (λ ts. slice_get ts g.crosses.element) tables) ∙ stands) in
    let range = (circuit.reversible g.crosses.element u stands).departs g.crosses.before g.crosses.input g.crosses.after
    g.crosses.output moves in
    record {
      line = record { element = g.crosses.element; line = g.crosses.input };
      is = g.crosses.enters;
      element = at.0;
      side = subst (λ (v : Table). g.crosses.input < v.inputs) (sym at.1) range.1;
    })

entering_within : (k : Circuit) (t : Table) (many n e : ℕ) (c d : Config) → IsCircuit k → k.tables ≡ replicate many t
    → Reaches (Goes k) n c d → e < n →
    IsEntering k many t.inputs (run k c e)
entering_within k t many n e c d circuit tables path low =
    let split = runs_split (Goes k) e (n - e) n c d (omega arith) path in
    subst (IsEntering k many t.inputs) (sym (Reaches-run k e c split.0 split.1))
    (first (n - e) split.0 (omega arith) split.2)
  where
    first : (r : ℕ) (x : Config) → 0 < r → Reaches (Goes k) r x d → IsEntering k many t.inputs x
    first zero x some path = absurd (omega arith)
    first (suc r) x some path = entering k t many circuit tables x path.0 path.1

module _ (machines : TablesAreMachines) (elements_are : ElementsAreCounted) (counted : BoardsAreCounted)
    (ones : RunsHaveOneOfEach)
    (one_cost : CostsAreOne) where
  module _ (bytes word : List ℕ) (l : Limits) (t : Named) (symbols : List ℕ) (i : ℕ) (o : Outcome)
      (own : IsOwnRun bytes word l t symbols i o) where
    -- any count of the board's elements is the machine's
    count_is : (count : ℕ) → CountsElements t.machine l count → count ≡ elements t.machine l
    count_is count h =
        let standard = standard_machine machines bytes t own.given.reads in
        h.is ∙ elements_are t.machine l h.translation h.names standard.0 standard.1 h.translates h.numbering

    abbrev pub count : ℕ
    count = (ones bytes word l t symbols own.given).count

    -- with a board the run comes out on it
    pub on_board : elements t.machine l ≤ MOST_ELEMENTS → ComesOutOn bytes word l t symbols count i o
    on_board few =
        let each = ones bytes word l t symbols own.given in
        let same : count ≡ elements t.machine l = count_is count each.counts in
        record { given = own.given; fits = own.fits; counts = each.counts; few = omega arith; outcome = own.outcome }

    module _ (f : Flat) (comes : ComesTo t.machine l symbols f) where
      size_is : size f.network.tables ≡ elements t.machine l
      size_is = count_is (size f.network.tables) (counted.1 t.machine symbols l f comes.flat)

      limits_are : f.layout.limits ≡ l
      limits_are = comes.flat.is_layout.limits

      pub bound_is : bound_of f.layout ≡ most_steps t.machine l
      bound_is =
          let standard = standard_machine machines bytes t own.given.reads in
          let many : elements_of f.layout ≡ elements t.machine l =
          layout_elements f.translation.machine l f.names f.layout comes.flat.is_layout
          ∙ elements_are t.machine l f.translation f.names standard.0 standard.1 comes.flat.translation
          comes.flat.numbering in
          λ j. 48 * many j * (4 * (limits_are j).steps + 4 * (limits_are j).output + 7)

      -- the steps of the reversible machine are no more than those of the signal
      pub least : (cost : ℕ) → HasCost f cost → RunsToExit t.machine f i o → least_steps i o ≤ cost
      least cost has ran = by o ran
        where
          by : (x : Outcome) → RunsToExit t.machine f i x → least_steps i x ≤ cost
          by (outcome.Halted y) ran =
              let d = run f.circuit (flat_start f) ran.cost in
              let same : ran.cost ≡ cost = one_cost f ran.cost cost ran.has_cost has in
              let steps : d.steps ≡ 0 + ran.cost = steps_of_run f.circuit ran.cost (flat_start f) d ran.run_to in
              let low = tally_low (is_moment f.layout) f.circuit d.steps (flat_start f) in
              let first = one_low (is_moment f.layout (flat_start f)) in
              omega (arith, low, first, ran.with_tapes.1)
          by (outcome.Stuck j c) ran = omega arith
          by (outcome.Outside n s) ran = omega arith

      -- the last lines
      last_lines : (cost : ℕ) → HasCost f cost → RunsToExit t.machine f i o
          → AreLastLines t l symbols i o (outcome_rest t l symbols f cost i o)
      last_lines cost has ran = by o own.outcome ran
        where
          at_end : (x : Outcome) (n : ℕ) → HasCost f n → SpellsEnd t.machine f (run f.circuit (flat_start f) n).states i
              x → EndLines t l symbols i x (shown_lines t f (board_after f cost).states)
          at_end x n own_cost ends =
              end_lines t l symbols f (board_after f cost).states i x comes.flat.limits_are comes.flat.word_is
              (subst (λ m. SpellsEnd t.machine f (run f.circuit (flat_start f) m).states i x)
              (one_cost f n cost own_cost has) ends)

          by : (x : Outcome) → HasOutcome t.machine symbols l i x → RunsToExit t.machine f i x
              → AreLastLines t l symbols i x (outcome_rest t l symbols f cost i x)
          by (outcome.Halted y) h ran = refl
          by (outcome.Stuck a c) h ran = at_end (outcome.Stuck a c) ran.cost ran.has_cost ran.with_tapes
          by (outcome.Outside n s) h ran = at_end (outcome.Outside n s) ran.cost ran.has_cost ran.with_tapes

      -- what tells the outcome tells the exit
      pub exit_told : (status : Status) (text : List ℕ) → RunsToExit t.machine f i o
          → (tells : TellsOutcome t l symbols f i o status text) →
          TellsExit t l symbols i o tells.cost status text
      exit_told status text ran tells = record {
        last = outcome_rest t l symbols f tells.cost i o;
        last_lines = last_lines tells.cost tells.has_cost ran;
        text_is = tells.text_is ∙ (λ j. elements_line (size_is j)
            ++ (outcome_line t o ++ (steps_line tells.cost ++ outcome_rest t l symbols f tells.cost i o)));
        status_is = tells.status_is;
      }

      -- before the exit
      inside_told : (e : ℕ) (status : Status) (text : List ℕ) → RunsToExit t.machine f i o
          → (tells : within.TellsWithin e t l symbols f i o status text) →
          e < tells.cost → TellsInside t l e status text
      inside_told e status text ran tells low =
          let d = board_after f e in
          let same : ran.cost ≡ tells.cost = one_cost f ran.cost tells.cost ran.has_cost tells.has_cost in
          let steps : d.steps ≡ e = steps_within f.circuit ran.cost e (flat_start f)
          (run f.circuit (flat_start f) ran.cost) ran.run_to (omega arith)
          ∙ zero-add e in
          let at = entering_within f.circuit rotary (size f.network.tables) ran.cost e (flat_start f)
          (run f.circuit (flat_start f) ran.cost)
          comes.flat.is_board.circuit comes.flat.is_board.tables ran.run_to (omega arith) in
          record {
            place = at.line;
            element = subst (λ m. at.line.element < m) size_is at.element;
            side = at.side;
            last = shown_lines t f d.states;
            last_lines = shown_tapes t symbols l f d.states comes.flat;
            text_is = tells.begun low ∙ (λ j. elements_line (size_is j)
                ++ (exit_line t f (at.is j) exit.Inside ++ (steps_line (steps j) ++ shown_lines t f d.states)));
            status_is = tells.inside.1 low;
          }

      within_told : (e : ℕ) (status : Status) (text : List ℕ) → RunsToExit t.machine f i o
          → (tells : within.TellsWithin e t l symbols f i o status text) →
          TellsExitWithin e t l symbols i o tells.cost status text
      within_told e status text ran tells = record {
        ended = λ high.
            let out = tells.ended high in
            let same : out.cost ≡ tells.cost = one_cost f out.cost tells.cost out.has_cost tells.has_cost in
            subst (λ n. TellsExit t l symbols i o n status text) same (exit_told status text ran out);
        inside = λ low. inside_told e status text ran tells low;
      }

    -- a circuit with too many elements was refused with their number
    large_told : (given : Option ℕ) (status : Status) (text : List ℕ) (told : List Place) (taken took : Option (List ℕ))
        →
        RunReplies given word l bytes status text told → Grows taken took text → MOST_ELEMENTS < elements t.machine l →
        (status ≡ statuses.Size) × Grows taken took (large_line (elements t.machine l))
    large_told given status text told taken took reply grows many =
        by (word_tells (BoardReplies (TellsRun given t) t.machine l) t (reads_table bytes t own.given.reads.reads) word
        symbols status text told
        own.given.spelled (standard_tells (λ u. WordReplies (BoardReplies (TellsRun given u) u.machine l) u word) bytes
        t status text told
        own.given.reads reply))
      where
        by : BoardReplies (TellsRun given t) t.machine l symbols status text told →
            (status ≡ statuses.Size) × Grows taken took (large_line (elements t.machine l))
        by (long far h e n) = let fits = own.fits in absurd (omega arith)
        by (large fits count also great h e n) =
            (e, subst (λ m. Grows taken took (large_line m)) (count_is count also) (subst (Grows taken took) h grows))
        by (board f comes tells) = let same = size_is f comes in let few = comes.few in absurd (omega arith)

  pub replies-tell_machine : AnswersTellHeadline → RepliesTellMachine
  unfolding MachineHeadline MachineHeadlineWithin
  replies-tell_machine tell words bytes status taken took replies = (headline, headline_within)
    where
      headline : (word : List ℕ) (l : Limits) → words ≡ run_words word l [] → length bytes ≤ MOST_INPUT_BYTES →
          (t : Named) (symbols : List ℕ) (i : ℕ) (o : Outcome) → IsOwnRun bytes word l t symbols i o →
          TookAnswer (TellsExit t l symbols i o) t.machine l i o status taken took
      headline word l asks short t symbols i o own =
          let reply = replies word l None asks own.given.small short in
          record {
            large = large_told bytes word l t symbols i o own None status reply.0 reply.1 taken took reply.2 reply.3;
            runs = λ few.
                let on = on_board bytes word l t symbols i o own few in
                let given = tell words bytes status taken took replies short word l None asks t symbols
                (count bytes word l t symbols i o own) i o on in
                let f = given.flat in
                let tells = given.tells f given.comes in
                record {
                  cost = tells.cost;
                  above = least bytes word l t symbols i o own f given.comes tells.cost tells.has_cost
                      (given.runs f given.comes);
                  below = subst (λ m. tells.cost ≤ m) (bound_is bytes word l t symbols i o own f given.comes)
                      tells.bounded;
                  text = given.text;
                  told = exit_told bytes word l t symbols i o own f given.comes status given.text
                      (given.runs f given.comes) tells;
                  grows = given.grows;
                };
          }

      headline_within : (word : List ℕ) (l : Limits) (e : ℕ) → words ≡ run_words word l (decimal e ∷ []) → e ≤ greatest
          →
          length bytes ≤ MOST_INPUT_BYTES →
          (t : Named) (symbols : List ℕ) (i : ℕ) (o : Outcome) → IsOwnRun bytes word l t symbols i o →
          TookAnswer (TellsExitWithin e t l symbols i o) t.machine l i o status taken took
      headline_within word l e asks low short t symbols i o own =
          let reply = replies word l (Some e) (asks, low) own.given.small short in
          record {
            large = large_told bytes word l t symbols i o own (Some e) status reply.0 reply.1 taken took reply.2
                reply.3;
            runs = λ few.
                let on = on_board bytes word l t symbols i o own few in
                let given = tell words bytes status taken took replies short word l (Some e) (asks, low) t symbols
                (count bytes word l t symbols i o own) i o on in
                let f = given.flat in
                let tells = given.tells f given.comes in
                let ran = given.runs f given.comes in
                let same : ran.cost ≡ tells.cost = one_cost f ran.cost tells.cost ran.has_cost tells.has_cost in
                record {
                  cost = tells.cost;
                  above = least bytes word l t symbols i o own f given.comes tells.cost tells.has_cost ran;
                  below = subst (λ m. tells.cost ≤ m) (bound_is bytes word l t symbols i o own f given.comes)
                      (subst (λ n. n ≤ bound_of f.layout) same ran.bounded);
                  text = given.text;
                  told = within_told bytes word l t symbols i o own f given.comes e status given.text ran tells;
                  grows = given.grows;
                };
          }

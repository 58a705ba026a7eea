-- By which line the board is left, and what its cells spell then.
use Rattle.std.specs.Prelude.{◌≡◌, ◌≢◌, ℕ, ◌+◌, ◌-◌, ◌<◌, Bool, List, [], refl, ◌⊎◌}
use Rattle.std.proofs.Common.{arith, sym, ap, subst, ◌∙◌, inl, inr}
use Rattle.bn_circuits.specs.Situations.{Situation}
use Rattle.bn_circuits.specs.declared.place.Place.TheVariants.{Enter, Left}
use Rattle.bn_circuits.specs.declared.config.Config.{Config}
use Rattle.bn_element.specs.Rotary.{west}
use Rattle.bn_machine.specs.Tape.{scanned}
use Rattle.bn_machine.specs.declared.quint.Side.TheVariants as side
use Rattle.bn_quad.specs.Quadruples.{Configuration}
use Rattle.bn_bennett_laws.specs.Steps.{Exit, Finished, Stopped, Leaving}
use Rattle.bn_realise.specs.Banks.{column_at}
use Rattle.bn_network.specs.declared.cell_line.CellLine.TheVariants.{TakeRight, TakeLeft, Read}
use Rattle.bn_network.specs.Cells.{line_number}
use Rattle.bn_network.specs.Controls.{Reads, End, Tape as to_tape, ControlMove, IsEntry, finishes, leaves, waits}
use Rattle.bn_network.specs.Controls.{IsNotLeft, symbol_count, lines_before}
use Rattle.bn_network.specs.Networks.{cells_in, first_cell}
use Rattle.bn_network_laws.specs.Ends.{EndsBy, by_end, by_stop, by_right, by_left, tape_of, left_at, taken_from}
use Rattle.bn_network_laws.proofs.ShownLemmas.{all_cells}
use Rattle.bn_network_laws.specs.Stops.{IsStuckAtRead, StopsAtRead, taken_to}
use Rattle.bn_boards.specs.Boards.{StandsFor, IsLoose}
use Rattle.bn_boards.specs.declared.exit.Exit.TheVariants as exit
use Rattle.bn_boards.specs.Layouts.{IsNamedExit, ends, stuck, right, left, cell_output, symbol_count_at, lines_at}
use Rattle.bn_boards.specs.Layouts.{spelled_by, spelled_config}
use Rattle.bn_boards.proofs.AgreedLemmas.{some_cells}
use Rattle.bn_boards.specs.NetworkReads.{NetworkReads}
use Rattle.bn_boards.specs.Builds.{Build, IsBuild}
use Rattle.bn_boards.specs.Exits as end
use Rattle.bn_boards.specs.Exits.{BoardLeaves}
use Rattle.bn_boards.proofs.NetworkRuns.{EndsSo, early, at_read}

module _ (f : Build) (is : IsBuild f) (word : List ℕ) (test : Situation
    → Bool) (reads : NetworkReads f.machine f.limits word f.names f.network f.layout test) where
  -- it has left
  pub record Left_at (d : Configuration ℕ) (e : Exit) (x : Config) : Type 0 where
    pub leaves : BoardLeaves f x.place x.states d e
    pub element : ℕ
    pub line : ℕ
    pub left_by : x.place ≡ Left element line

  same_left : (t : ℕ) → cell_output f.layout t 0 (line_number (symbol_count f.machine t) TakeLeft)
      ≡ cell_output f.layout t 0 (line_number (symbol_count_at f.layout t) TakeLeft)
  same_left t = ap (λ z. cell_output f.layout t 0 (line_number z TakeLeft)) (sym (reads.letters_are t))

  same_right : (t : ℕ)
      → cell_output f.layout t (cells_in f.limits t - 1) (line_number (symbol_count f.machine t) TakeRight)
      ≡ cell_output f.layout t (cells_in f.layout.limits t - 1) (line_number (symbol_count_at f.layout t) TakeRight)
  same_right t = λ i. cell_output f.layout t (cells_in (sym is.is_layout.limits i) t - 1)
      (line_number (sym (reads.letters_are t) i) TakeRight)

  abbrev Standing : Situation → Config → Type 0
  Standing s x = (StandsFor f.network s x × ((i j : ℕ) → s.place ≢ Enter i j)) ⊎ IsLoose f.network s x

  -- a state that no quadruple leaves awaits tape 1
  awaits_tape_1 : (a t : ℕ) → IsEntry f.machine a (Reads a [], to_tape t Read) → IsNotLeft f.machine a → t ≡ 1
  awaits_tape_1 a t (finishes final same) none =
      absurd (let states : Reads a [] ≡ End = ap (λ (k : ControlMove). k.0) same in cc)
  awaits_tape_1 a t (leaves n r stands from first) none = absurd (none.none n r stands from)
  awaits_tape_1 a t (waits other low unleft same) none =
      let lines : to_tape t Read ≡ to_tape 1 Read = ap (λ (k : ControlMove). k.1) same in
      cc

  -- so that the board is left by the answer of tape 1
  at_wait : (x : Config) (d : Configuration ℕ) (t : ℕ) → IsNotLeft f.machine d.state → t ≡ 1
      → IsNamedExit f.layout x.place (exit.Stuck d.state (scanned (tape_of d t)))
      → spelled_by f.layout x.states ≡ spelled_config f.limits (taken_from d t)
      → BoardLeaves f x.place x.states d Stopped
  at_wait x d t none first named spells = end.by_wait none refl
      (subst (λ u. IsNamedExit f.layout x.place (exit.Stuck d.state (scanned (tape_of d u)))) first named)
      (subst (λ u. spelled_by f.layout x.states ≡ spelled_config f.limits (taken_from d u)) first spells)

  -- by the machine's own exits
  by_own : (e : Exit) (s : Situation) (x : Config) (d : Configuration ℕ) → (e ≡ Stopped → IsNotLeft f.machine d.state)
      → EndsBy f.machine f.limits f.names s d e → Standing s x → Left_at d e x
  by_own Finished s x d none (by_end place control shows) (inl stands) =
      let there = reads.end s x stands.0 place in
      record {
        leaves = end.by_end refl (ends there)
            (reads.spells s x d stands.0 (all_cells f.machine f.limits s.states d shows));
        element = _;
        line = _;
        left_by = there;
      }
  by_own Finished s x d none (by_end place control shows) (inr loose) =
      absurd (let both : Left 0 0 ≡ Enter loose.at_module loose.line = sym place ∙ loose.enters in cc)
  by_own Stopped s x d none (by_stop t stop place control low shows) (inl stands) = absurd (stands.1 _ _ place)
  by_own Stopped s x d none (by_stop t stop place control low shows) (inr loose) =
      let there = reads.loose s x _ control.number loose place control.is in
      let kept = (is.is_layout.awaiting control.number d.state t).1 (control.named, stop.entry) in
      let letters_low : scanned (tape_of d t) < symbol_count_at f.layout t =
      subst (λ z. scanned (tape_of d t) < z) (sym (reads.letters_are t)) low in
      let line : x.place ≡ Left
      (column_at 0 (lines_at f.layout)
      control.number + (lines_before f.layout.symbols (t - 1) + scanned (tape_of d t))) west =
      there ∙ ap (λ zs. Left (column_at 0
      (lines_at f.layout) control.number + (lines_before zs (t - 1) + scanned (tape_of d t))) west)
      (sym is.is_layout.symbols) in
      record {
        leaves = at_wait x d t (none refl) (awaits_tape_1 d.state t stop.entry (none refl))
            (stuck control.number d.state t (scanned (tape_of d t)) kept letters_low line)
            (reads.spells_loose s x _ (taken_from d t) loose place
            (all_cells f.machine f.limits s.states (taken_from d t) shows));
        element = _;
        line = _;
        left_by = line;
      }
  by_own (Leaving t side.Right) s x d none (by_right _ tape place to step shows) (inl stands) =
      let some = some_cells f.limits t tape in
      let there = reads.cell s x t (cells_in f.limits t - 1) _ stands.0 tape (omega (arith, some)) place in
      record {
        leaves = end.by_window t side.Right to step refl (right t tape.low tape.high (there ∙ same_right t))
            (reads.spells s x (left_at t step.leads.rule d) stands.0 shows);
        element = _;
        line = _;
        left_by = there;
      }
  by_own (Leaving t side.Right) s x d none (by_right _ tape place to step shows) (inr loose) =
      absurd (let both : Left _ _ ≡ Enter loose.at_module loose.line = sym place ∙ loose.enters in cc)
  by_own (Leaving t side.Left) s x d none (by_left _ tape place to step shows) (inl stands) =
      let some = some_cells f.limits t tape in
      let first : first_cell f.limits t ≡ first_cell f.limits t + 0 = omega arith in
      let there = reads.cell s x t 0 _ stands.0 tape some
      (place ∙ ap (λ e. Left e (line_number (symbol_count f.machine t) TakeLeft)) first) in
      record {
        leaves = end.by_window t side.Left to step refl (left t tape.low tape.high (there ∙ same_left t))
            (reads.spells s x (left_at t step.leads.rule d) stands.0 shows);
        element = _;
        line = _;
        left_by = there;
      }
  by_own (Leaving t side.Left) s x d none (by_left _ tape place to step shows) (inr loose) =
      absurd (let both : Left _ _ ≡ Enter loose.at_module loose.line = sym place ∙ loose.enters in cc)

  -- at a read
  by_reading : (e : Exit) (s : Situation) (x : Config) (d : Configuration ℕ) (t : ℕ)
      (stop : IsStuckAtRead f.machine d t) → e ≡ Stopped
      → StopsAtRead f.machine f.limits f.names s d t stop.rule → Standing s x → Left_at d e x
  by_reading e s x d t stop same stops (inl stands) = absurd (stands.1 _ _ stops.place)
  by_reading e s x d t stop same stops (inr loose) =
      let there = reads.loose s x _ stops.control.number loose stops.place stops.control.is in
      let line : x.place ≡ Left
      (column_at 0 (lines_at f.layout)
      stops.control.number + (lines_before f.layout.symbols (t - 1) + scanned (tape_of d t))) west =
      there ∙ ap (λ zs. Left (column_at 0
      (lines_at f.layout) stops.control.number + (lines_before zs (t - 1) + scanned (tape_of d t))) west)
      (sym is.is_layout.symbols) in
      record {
        leaves = end.by_read t stop same
            (record { column = stops.control.number; named = stops.control.named; line = line })
            (reads.spells_loose s x _ (taken_to stop.rule d t) loose stops.place
            (all_cells f.machine f.limits s.states (taken_to stop.rule d t) stops.shows));
        element = _;
        line = _;
        left_by = line;
      }

  pub left_so : (e : Exit) (s : Situation) (x : Config) (d : Configuration ℕ) → EndsSo f s d e → Standing s x
      → Left_at d e x
  left_so e s x d (early none ends_so) standing = by_own e s x d none ends_so standing
  left_so e s x d (at_read t stop same stops) standing = by_reading e s x d t stop same stops standing

-- The board's run to its exit.
use Rattle.std.specs.Prelude.{◌≡◌, ◌≢◌, ℕ, ◌+◌, ◌-◌, ◌*◌, ◌<◌, ◌≤◌, Bool, false, List, length, Some, refl, ◌⊎◌}
use Rattle.std.proofs.Common.{suc, arith, mul-suc, zero-add, le_trans, le_of_lt, sym, ap, subst, ◌∙◌, inl, inr}
use Rattle.std.proofs.lemmas.Nat.{mul-le}
use Rattle.std.proofs.lemmas.Option.{slice_get-get_or, slice_get_within}
use Rattle.bn_lists.specs.Runs.{Reaches}
use Rattle.bn_circuits.specs.Circuits.{Circuit, clock, Goes, IsStuck}
use Rattle.bn_circuits.specs.Stepping.{run}
use Rattle.bn_circuits.proofs.RunLemmas.{Reaches-run}
use Rattle.bn_circuits.specs.declared.place.Place.TheVariants.{Enter, Left}
use Rattle.bn_circuits.specs.declared.config.Config.{Config}
use Rattle.bn_element.specs.Rotary.{west}
use Rattle.bn_machine.specs.Tape.{scanned, write}
use Rattle.bn_machine.specs.Machine.{Program}
use Rattle.bn_machine.specs.Outcome as outcome
use Rattle.bn_machine.specs.Outcome.{HasOutcome, Limits, Outcome}
use Rattle.bn_machine.specs.declared.quint.Side.{Side}
use Rattle.bn_machine.specs.declared.quint.Side.TheVariants as side
use Rattle.bn_quad.specs.Quadruples.{Configuration, Follows}
use Rattle.bn_bennett_laws.specs.Renamed.{in_state}
use Rattle.bn_bennett_laws.specs.Stages.{HasNoRoom, rooms_of}
use Rattle.bn_bennett_laws.specs.Steps.{Exit as Reason, Finished, Stopped, Leaving, HasNoFirstRead}
use Rattle.bn_bennett_laws.specs.declared.name.Name.TheVariants.{Compute}
use Rattle.bn_bennett.specs.Laws.{TranslationsHaveNoRoom, TranslationsStand}
use Rattle.bn_bennett.specs.Translation.{name_of}
use Rattle.bn_bennett.specs.Runs.{beginning_of, ending_of}
use Rattle.bn_realise.specs.Banks.{IsResting, column_at}
use Rattle.bn_boards.specs.declared.exit.Exit.{Exit}
use Rattle.bn_boards.specs.declared.exit.Exit.TheVariants as exit
use Rattle.bn_network.specs.declared.cell_line.CellLine.TheVariants.{TakeRight, TakeLeft}
use Rattle.bn_circuits.specs.Situations.{Situation}
use Rattle.bn_rsm.specs.RunCosts.{run_cost}
use Rattle.bn_circuits.specs.Counting.{tally, one_if}
use Rattle.bn_network.specs.Cells.{line_number}
use Rattle.bn_network.specs.Controls.{End, symbol_count, lines_before}
use Rattle.bn_network.specs.Networks.{cells_in, first_cell, IsControlAt, ShowsTapes}
use Rattle.bn_network_laws.specs.Ends.{EndsBy, by_end, by_stop, by_right, by_left, IsStoppedAt, left_at, tape_of}
use Rattle.bn_network_laws.specs.Ends.{taken_from}
use Rattle.bn_network_laws.proofs.ShownLemmas.{all_cells}
use Rattle.bn_boards.specs.Boards.{StandsFor, IsLoose}
use Rattle.bn_boards.specs.Layouts.{IsExit, named, ends, stuck, right, left, cell_output, is_moment}
use Rattle.bn_boards.specs.Layouts.{symbol_count_at, spelled_by, spelled_config, lines_at}
use Rattle.bn_boards.specs.Flats.{Flat, build_of, machine_of, IsFlatOf, IsAccepted, situation_at_start, flat_start}
use Rattle.bn_boards.proofs.AgreedLemmas.{some_cells}
use Rattle.bn_boards.specs.Costs.{bound_of}
use Rattle.bn_boards.specs.BoardRuns.{IsExitFor, EndsWith, RunsToExit, SpellsRestored, SpellsEnd}
use Rattle.bn_boards.proofs.StuckLemmas.{HoldsStuck, holds_stuck}
use Rattle.bn_boards.proofs.NoRoomLemmas.{leaves, stuck_ends}
use Rattle.bn_boards.specs.Readings.{elements_in, BoardReads}
use Rattle.bn_boards.proofs.ReadingLemmas.{agreed}
use Rattle.bn_boards.specs.Journeys.{NetworkComes, NetworkEndsAs}
use Rattle.bn_boards.proofs.StrideLemmas.{strides_run}
use Rattle.bn_boards.proofs.JourneysLemmas.{BoardComes, boards-come}
use Rattle.bn_boards.specs.LayoutLaws.{BoardsRead}
use Rattle.bn_boards.proofs.JourneyedLemmas.{networks-end}
use Rattle.bn_boards.proofs.SameLemmas.{number_once}
use Rattle.bn_boards.specs.RunLaws.{BoardsRunToTheirExit}
use Rattle.bn_circuits.proofs.RunPartLemmas.{steps_of_run}
use Rattle.bn_network_laws.proofs.LastLemmas.{one_tape}
use Rattle.bn_circuits.specs.declared.net.TheConstants.{MOST_ELEMENTS}
use Rattle.bn_base.specs.declared.limits.TheConstants.{MOST_COUNT}

pub stuck_at : (k : Circuit) (d : Config) (e l : ℕ) → d.place ≡ Left e l → IsStuck k d
stuck_at k d e l h = λ x g. let both : Left e l ≡ Enter g.crosses.element g.crosses.input =
    sym h ∙ g.crosses.enters in cc

-- ---- numbers

bound_covers : (e n s o : ℕ) → n ≤ 4 * s + 4 * o + 5 → 4 * e + 48 * e * (n + 1) ≤ 48 * e * (4 * s + 4 * o + 7)
bound_covers e n s o few =
    let most : 48 * e * (n + 1) ≤ 48 * e * (4 * s + 4 * o + 6) =
    mul-le (48 * e) (n + 1) (48 * e) (4 * s + 4 * o + 6) (omega arith) (omega arith) in
    let more : 48 * e * suc (4 * s + 4 * o + 6) ≡ 48 * e * (4 * s + 4 * o + 6) + 48 * e =
    mul-suc (48 * e) (4 * s + 4 * o + 6) in
    let seven : 4 * s + 4 * o + 7 ≡ suc (4 * s + 4 * o + 6) = omega arith in
    subst (λ x. 4 * e + 48 * e * (n + 1) ≤ 48 * e * x) (sym seven)
    (below (48 * e * (n + 1)) (48 * e * (4 * s + 4 * o + 6)) (48 * e * suc (4 * s + 4 * o + 6)) e most more)
  where
    below : (a b c e : ℕ) → a ≤ b → c ≡ b + 48 * e → 4 * e + a ≤ c
    below a b c e h k = omega arith

below_clock : (e s o : ℕ) → e ≤ MOST_ELEMENTS → s ≤ MOST_COUNT → o ≤ MOST_COUNT → 48 * e * (4 * s + 4 * o + 7) < clock
below_clock e s o a b c =
    let most : 48 * e * (4 * s + 4 * o + 7) ≤ 201326592 * 8388615 =
    mul-le (48 * e) (4 * s + 4 * o + 7) 201326592 8388615 (omega arith) (omega arith) in
    omega (arith, most)

module _ (p : Program) (f : Flat) (test : Situation
    → Bool) (flat : IsFlatOf p f.word f.limits f) (accepted : IsAccepted p f.word f.limits f)
    (reads : BoardReads f test) where
  -- the place at the end, by the reason
  abbrev Exits : Configuration ℕ → Reason → Exit → Type 0
  Exits d Finished e = e ≡ exit.End
  Exits d Stopped e = (t : ℕ) × IsStoppedAt (machine_of f) d t × (e ≡ exit.Stuck d.state (scanned (tape_of d t)))
  Exits d (Leaving t s) e = e ≡ exit.Window t s

  -- an outcome's own reason and configuration
  abbrev Fits : ℕ → ℕ → Outcome → Configuration ℕ → Reason → Type 0
  Fits i n (outcome.Halted y) d Finished = (d ≡ ending_of f.translation f.word y) × (n ≡ 4 * i + 4 * length y + 5)
  Fits i n (outcome.Stuck j c) d Stopped = (name_of f.translation d.state ≡ Compute j) × (scanned d.one ≡ c)
      × HasNoFirstRead (machine_of f).rules d
      × HoldsStuck p f.word i j c d
  Fits i n (outcome.Outside u v) d (Leaving t s) = (t ≡ u) × (s ≡ v)
      × HasNoRoom p f.word f.limits i u v (in_state (name_of f.translation) d)
  Fits i n o d e = ⊥

  pub record Exited (d : Configuration ℕ) (e : Reason) (b : Config) : Type 0 where
    pub exit_is : Exit
    pub is : Exits d e exit_is
    pub has : IsExit f.layout b.place exit_is
    pub element : ℕ
    pub line : ℕ
    pub left_by : b.place ≡ Left element line

  same_left : (t : ℕ)
      → cell_output f.layout t 0 (line_number (symbol_count (machine_of f) t) TakeLeft)
      ≡ cell_output f.layout t 0 (line_number (symbol_count_at f.layout t) TakeLeft)
  same_left t = ap (λ z. cell_output f.layout t 0 (line_number z TakeLeft)) (sym (reads.letters_are t))

  same_right : (t : ℕ)
      → cell_output f.layout t (cells_in f.limits t - 1) (line_number (symbol_count (machine_of f) t) TakeRight)
      ≡ cell_output f.layout t (cells_in f.layout.limits t - 1) (line_number (symbol_count_at f.layout t) TakeRight)
  same_right t = λ i. cell_output f.layout t (cells_in (sym flat.is_layout.limits i) t - 1)
      (line_number (sym (reads.letters_are t) i) TakeRight)

  exited : (n : ℕ) (d : Configuration ℕ) (e : Reason) (b : BoardComes f n d e) → Exited d e b.at_end
  exited n d e b = by_reason e b.last b.at_end b.ends b.stands
    where
      by_reason : (e : Reason) (s : Situation) (x : Config) → EndsBy (machine_of f) f.limits f.names s d e
          → (StandsFor f.network s x × ((i j : ℕ) → s.place ≢ Enter i j)) ⊎ IsLoose f.network s x → Exited d e x
      by_reason Finished s x (by_end place control shows) (inl stands) =
          let there = reads.end s x stands.0 place in
          record { exit_is = exit.End; is = refl; has = named (ends there); element = _; line = _; left_by = there }
      by_reason Finished s x (by_end place control shows) (inr loose) =
          absurd (let both : Left 0 0 ≡ Enter loose.at_module loose.line = sym place ∙ loose.enters in cc)
      by_reason Stopped s x (by_stop t stop place control low shows) (inl stands) = absurd (stands.1 _ _ place)
      by_reason Stopped s x (by_stop t stop place control low shows) (inr loose) =
          let there = reads.loose s x _ control.number loose place control.is in
          let kept = (flat.is_layout.awaiting control.number d.state t).1 (control.named, stop.entry) in
          let letters_low : scanned (tape_of d t) < symbol_count_at f.layout t =
          subst (λ z. scanned (tape_of d t) < z) (sym (reads.letters_are t)) low in
          let line : x.place ≡ Left (column_at 0 (lines_at f.layout) control.number
          + (lines_before f.layout.symbols (t - 1) + scanned (tape_of d t))) west =
          there ∙ ap (λ zs. Left (column_at 0 (lines_at f.layout) control.number
          + (lines_before zs (t - 1) + scanned (tape_of d t))) west) (sym flat.is_layout.symbols) in
          record {
            exit_is = exit.Stuck d.state (scanned (tape_of d t));
            is = (t, stop, refl);
            has = named (stuck control.number d.state t (scanned (tape_of d t)) kept letters_low line);
            element = _;
            line = _;
            left_by = line;
          }
      by_reason (Leaving t side.Right) s x (by_right _ tape place to step shows) (inl stands) =
          let some = some_cells f.limits t tape in
          let there = reads.cell s x t (cells_in f.limits t - 1) _ stands.0 tape (omega (arith, some)) place in
          record {
            exit_is = exit.Window t side.Right;
            is = refl;
            has = named (right t tape.low tape.high (there ∙ same_right t));
            element = _;
            line = _;
            left_by = there;
          }
      by_reason (Leaving t side.Right) s x (by_right _ tape place to step shows) (inr loose) =
          absurd (let both : Left _ _ ≡ Enter loose.at_module loose.line = sym place ∙ loose.enters in cc)
      by_reason (Leaving t side.Left) s x (by_left _ tape place to step shows) (inl stands) =
          let some = some_cells f.limits t tape in
          let first : first_cell f.limits t ≡ first_cell f.limits t + 0 = omega arith in
          let there = reads.cell s x t 0 _ stands.0 tape some (place
          ∙ ap (λ e. Left e (line_number (symbol_count (machine_of f) t) TakeLeft)) first) in
          record {
            exit_is = exit.Window t side.Left;
            is = refl;
            has = named (left t tape.low tape.high (there ∙ same_left t));
            element = _;
            line = _;
            left_by = there;
          }
      by_reason (Leaving t side.Left) s x (by_left _ tape place to step shows) (inr loose) =
          absurd (let both : Left _ _ ≡ Enter loose.at_module loose.line = sym place ∙ loose.enters in cc)

  -- ---- the cost

  bound_is : bound_of f.layout ≡ 48 * elements_in f * (4 * f.limits.steps + 4 * f.limits.output + 7)
  bound_is = λ i. 48 * reads.count i * (4 * (flat.is_layout.limits i).steps + 4 * (flat.is_layout.limits i).output + 7)

  few_steps : (n : ℕ) → n ≤ 4 * f.limits.steps + 4 * f.limits.output + 5
      → 4 * elements_in f + 48 * elements_in f * (n + 1) ≤ bound_of f.layout
  few_steps n few = subst (λ x. 4 * elements_in f + 48 * elements_in f * (n + 1) ≤ x) (sym bound_is)
      (bound_covers (elements_in f) n f.limits.steps f.limits.output few)

  in_time : bound_of f.layout < clock
  in_time =
      let elements : elements_in f ≤ MOST_ELEMENTS = subst (λ x. x ≤ MOST_ELEMENTS) reads.whole accepted.few in
      subst (λ x. x < clock) (sym bound_is) (below_clock (elements_in f) f.limits.steps f.limits.output elements
      accepted.small.2 accepted.small.3)

  -- ---- the run

  exit_for : (i n : ℕ) (o : Outcome) (d : Configuration ℕ) (e : Reason) (x : Exit) → Exits d e x → Fits i n o d e
      → IsExitFor f o x
  exit_for i n (outcome.Halted y) d Finished x is fits = is
  exit_for i n (outcome.Halted y) d Stopped x is fits = absurd fits
  exit_for i n (outcome.Halted y) d (Leaving t s) x is fits = absurd fits
  exit_for i n (outcome.Stuck j c) d Finished x is fits = absurd fits
  exit_for i n (outcome.Stuck j c) d Stopped x is fits =
      let one : is.0 ≡ 1 = one_tape (machine_of f) d is.0 fits.2 is.1 in (
        d.state,
        fits.0,
        is.2 ∙ ap (λ t. exit.Stuck d.state (scanned (tape_of d t))) one ∙ ap (λ z. exit.Stuck d.state z) fits.1,
      )
  exit_for i n (outcome.Stuck j c) d (Leaving t s) x is fits = absurd fits
  exit_for i n (outcome.Outside u v) d Finished x is fits = absurd fits
  exit_for i n (outcome.Outside u v) d Stopped x is fits = absurd fits
  exit_for i n (outcome.Outside u v) d (Leaving t s) x is fits = is ∙ (λ i. exit.Window (fits.0 i) (fits.1 i))

  -- the board restored
  restored : (s : Situation) (x : Config) (d : Configuration ℕ) (y : List ℕ) → StandsFor f.network s x
      → IsControlAt f.names s.states End
      → ShowsTapes (machine_of f) f.limits s.states d → d ≡ ending_of f.translation f.word y
      → SpellsRestored f x.states y
  restored s x d y stands control shows is = record {
    spells = subst (λ z. spelled_by f.layout x.states ≡ spelled_config f.limits z) is
        (reads.spells s x d stands (all_cells (machine_of f) f.limits s.states d shows));
    control = λ u q has at.
        let same : q ≡ control.number = number_once (machine_of f) f.names flat.numbering End q control.number at
        control.named in
        subst (λ z. IsResting x.states 0 u.states u.inputs (Some z)) (sym same)
        (stands.rests 0 u control.number has control.is).1;
    rows = λ m u has.
        let low : m < length s.states = (let h = slice_get_within f.network.tables m u has in let count = stands.count
        in omega arith) in
        let at = stands.rests m u _ has (slice_get-get_or s.states m 0 low) in (_, at.0, at.1);
  }

  -- the board of a machine that is stuck
  spells_stuck : (states : List ℕ) (i j c : ℕ) (d : Configuration ℕ) → HoldsStuck p f.word i j c d
      → spelled_by f.layout states ≡ spelled_config f.limits (taken_from d 1)
      → SpellsEnd p f states i (outcome.Stuck j c)
  spells_stuck states i j c d holds spelled = record {
    tapes = (write d.one 0, d.two, d.three);
    has = stuck_ends p f.word f.limits i j c d holds;
    spells = spelled;
  }

  -- and of one that has no room
  spells_left : (states : List ℕ) (i t : ℕ) (s : Side) (d to : Configuration ℕ)
      (step : Follows (machine_of f).rules d to) → HasNoRoom p f.word f.limits i t s
      (in_state (name_of f.translation) d)
      → spelled_by f.layout states ≡ spelled_config f.limits (left_at t step.leads.rule d)
      → SpellsEnd p f states i (outcome.Outside t s)
  spells_left states i t s d to step stands spelled = record {
    tapes = ((left_at t step.leads.rule d).one, (left_at t step.leads.rule d).two, (left_at t step.leads.rule d).three);
    has = leaves p f.word f.limits i (name_of f.translation) (machine_of f).rules flat.translation.rules d to step t s
        stands;
    spells = spelled;
  }

  ends_with : (i n : ℕ) (o : Outcome) (d : Configuration ℕ) (e : Reason) (b : BoardComes f n d e) (x : Config)
      → x ≡ b.at_end
      → x.steps ≡ run_cost f.network (b.moves + 1) (situation_at_start f) → Fits i n o d e → EndsWith p f x i o
  ends_with i n (outcome.Halted y) d Stopped b x is steps fits = absurd fits
  ends_with i n (outcome.Halted y) d (Leaving t s) b x is steps fits = absurd fits
  ends_with i n (outcome.Stuck j c) d Finished b x is steps fits = absurd fits
  ends_with i n (outcome.Stuck j c) d (Leaving t s) b x is steps fits = absurd fits
  ends_with i n (outcome.Stuck j c) d Stopped b x is steps fits = by_stop_of b.last b.at_end b.ends b.stands refl
    where
      by_stop_of : (s : Situation) (z : Config) → EndsBy (machine_of f) f.limits f.names s d Stopped
          → (StandsFor f.network s z × ((i j : ℕ) → s.place ≢ Enter i j)) ⊎ IsLoose f.network s z → z ≡ b.at_end
          → SpellsEnd p f x.states i (outcome.Stuck j c)
      by_stop_of s z (by_stop t stop place control low shows) (inl stands) same = absurd (stands.1 _ _ place)
      by_stop_of s z (by_stop t stop place control low shows) (inr loose) same =
          let one : t ≡ 1 = one_tape (machine_of f) d t fits.2 stop in
          let first : ShowsTapes (machine_of f) f.limits s.states (taken_from d 1) =
          subst (λ v. ShowsTapes (machine_of f) f.limits s.states (taken_from d v)) one shows in
          let spelled = reads.spells_loose s z _ (taken_from d 1) loose place
          (all_cells (machine_of f) f.limits s.states (taken_from d 1) first) in
          subst (λ (w : Config). SpellsEnd p f w.states i (outcome.Stuck j c)) (same ∙ sym is)
          (spells_stuck z.states i j c d fits.3 spelled)
  ends_with i n (outcome.Outside u v) d Finished b x is steps fits = absurd fits
  ends_with i n (outcome.Outside u v) d Stopped b x is steps fits = absurd fits
  ends_with i n (outcome.Outside u v) d (Leaving t s) b x is steps fits =
      by_leaving u v b.last b.at_end (subst (EndsBy (machine_of f) f.limits f.names b.last d)
      (λ k. Leaving (fits.0 k) (fits.1 k)) b.ends) b.stands refl fits.2
    where
      by_leaving : (t : ℕ) (w : Side) (s : Situation) (z : Config)
          → EndsBy (machine_of f) f.limits f.names s d (Leaving t w)
          → (StandsFor f.network s z × ((i j : ℕ) → s.place ≢ Enter i j)) ⊎ IsLoose f.network s z → z ≡ b.at_end
          → HasNoRoom p f.word f.limits i t w (in_state (name_of f.translation) d)
          → SpellsEnd p f x.states i (outcome.Outside t w)
      by_leaving t side.Right s z (by_right _ tape place to step shows) (inl stands) same room =
          subst (λ (w : Config). SpellsEnd p f w.states i (outcome.Outside t side.Right)) (same ∙ sym is)
          (spells_left z.states i t side.Right d to step room (reads.spells s z (left_at t step.leads.rule d) stands.0
          shows))
      by_leaving t side.Right s z (by_right _ tape place to step shows) (inr loose) same room =
          absurd (let both : Left _ _ ≡ Enter loose.at_module loose.line = sym place ∙ loose.enters in cc)
      by_leaving t side.Left s z (by_left _ tape place to step shows) (inl stands) same room =
          subst (λ (w : Config). SpellsEnd p f w.states i (outcome.Outside t side.Left)) (same ∙ sym is)
          (spells_left z.states i t side.Left d to step room (reads.spells s z (left_at t step.leads.rule d) stands.0
          shows))
      by_leaving t side.Left s z (by_left _ tape place to step shows) (inr loose) same room =
          absurd (let both : Left _ _ ≡ Enter loose.at_module loose.line = sym place ∙ loose.enters in cc)
  ends_with i n (outcome.Halted y) d Finished b x is steps fits =
      let quiet : is_moment f.layout (flat_start f) ≡ false = reads.between (situation_at_start f) (flat_start f)
      reads.starts ∙ reads.quiet in
      let none : one_if (is_moment f.layout (flat_start f)) ≡ 0 = ap one_if quiet in
      let count = b.count in
      let at_cost : tally (is_moment f.layout) f.circuit x.steps (flat_start f) ≡ n + 1 =
      ap (λ z. tally (is_moment f.layout) f.circuit z (flat_start f)) steps ∙ count in
      let sum = fits.1 in
      (by_end_of b.last b.at_end b.ends b.stands refl, omega (arith, none, at_cost, sum))
    where
      by_end_of : (s : Situation) (z : Config) → EndsBy (machine_of f) f.limits f.names s d Finished
          → (StandsFor f.network s z × ((i j : ℕ) → s.place ≢ Enter i j)) ⊎ IsLoose f.network s z → z ≡ b.at_end
          → SpellsRestored f x.states y
      by_end_of s z (by_end place control shows) (inl stands) same =
          subst (λ (w : Config). SpellsRestored f w.states y) (same ∙ sym is)
          (restored s z d y stands.0 control shows fits.0)
      by_end_of s z (by_end place control shows) (inr loose) same =
          absurd (let both : Left 0 0 ≡ Enter loose.at_module loose.line = sym place ∙ loose.enters in cc)

  with_board : (i n : ℕ) (o : Outcome) (d : Configuration ℕ) (e : Reason) → (b : BoardComes f n d e)
      → 4 * elements_in f + 48 * elements_in f * (n + 1) ≤ bound_of f.layout → Fits i n o d e → RunsToExit p f i o
  with_board i n o d e b covers fits =
      let cost = run_cost f.network (b.moves + 1) (situation_at_start f) in
      let reached : run f.circuit (flat_start f) cost ≡ b.at_end =
      Reaches-run f.circuit cost (flat_start f) b.at_end b.run in
      let exits = exited n d e b in
      let steps : b.at_end.steps ≡ cost = steps_of_run f.circuit cost (flat_start f) b.at_end b.run ∙ zero-add cost in
      record {
        cost = cost;
        has_cost = record { moves = b.moves; last = b.last; run = b.turns; ended = b.ended; is = refl };
        bounded = le_trans b.bounded covers;
        in_time = in_time;
        run_to = subst (λ x. Reaches (Goes f.circuit) cost (flat_start f) x) (sym reached) b.run;
        ended = subst (IsStuck f.circuit) (sym reached) (stuck_at f.circuit b.at_end exits.element exits.line
            exits.left_by);
        exit = exits.exit_is;
        is_exit = subst (λ (x : Config). IsExit f.layout x.place exits.exit_is) (sym reached) exits.has;
        for_outcome = exit_for i n o d e exits.exit_is exits.is fits;
        with_tapes = ends_with i n o d e b (run f.circuit (flat_start f) cost) reached
            (ap (λ (x : Config). x.steps) reached ∙ steps) fits;
      }

  runs_to : TranslationsStand → (i n : ℕ) (o : Outcome) (d : Configuration ℕ) (e : Reason) → NetworkComes f test n d e
      → Fits i n o d e → RunsToExit p f i o
  runs_to stand i n o d e comes fits =
      let few : n ≤ 4 * f.limits.steps + 4 * f.limits.output + 5 =
      (stand p f.translation f.word accepted.standard flat.translation accepted.letters).1 f.limits n d
      (strides_run (build_of f) test n comes.first comes.moment (beginning_of f.translation f.word) d comes.strides) in
      let covers = few_steps n few in
      with_board i n o d e (boards-come p f.word f.limits f test flat reads.modules reads.starts
      (agreed (build_of f) f.word test reads) n d e comes
      (le_trans covers (le_of_lt in_time))) covers fits

  by_outcome : TranslationsStand → TranslationsHaveNoRoom → (i : ℕ) (o : Outcome) → HasOutcome p f.word f.limits i o
      → NetworkEndsAs f test i o → RunsToExit p f i o
  by_outcome stand no_room i (outcome.Halted y) own h = runs_to stand i (4 * i + 4 * length y + 5) (outcome.Halted y)
      (ending_of f.translation f.word y) Finished h (refl, refl)
  by_outcome stand no_room i (outcome.Stuck j c) own h =
      let ran = strides_run (build_of f) test (2 * i) h.1.first h.1.moment (beginning_of f.translation f.word) h.0
      h.1.strides in
      let stands = (stand p f.translation f.word accepted.standard flat.translation accepted.letters).0
      (rooms_of f.limits) (2 * i) h.0 ran in
      runs_to stand i (2 * i) (outcome.Stuck j c) h.0 Stopped h.1
      (h.2, h.3, h.4, holds_stuck p f.translation f.word f.limits i j c h.0 own h.2 h.3 stands)
  by_outcome stand no_room i (outcome.Outside t s) own h =
      let stands = no_room p f.translation f.word accepted.standard flat.translation accepted.letters f.limits i t s own
      h.0 h.1 h.3 in
      runs_to stand i h.0 (outcome.Outside t s) h.1 (Leaving t s) h.2 (refl, refl, stands)

-- an outcome from the board's own word and in its own limits
own_outcome : (p : Program) (word : List ℕ) (l : Limits) (f : Flat) → IsFlatOf p word l f → (i : ℕ) (o : Outcome)
    → HasOutcome p word l i o → HasOutcome p f.word f.limits i o
own_outcome p word l f flat i o h = subst (λ w. HasOutcome p w f.limits i o) (sym flat.word_is)
    (subst (λ x. HasOutcome p word x i o) (sym flat.limits_are) h)

pub boards-run : TranslationsStand → TranslationsHaveNoRoom → BoardsRead → BoardsRunToTheirExit
boards-run stand no_room read p word l f flat accepted i o outcome =
    let word_is = sym flat.word_is in
    let limits_are = sym flat.limits_are in
    let flat_own : IsFlatOf p f.word f.limits f = subst (λ w. IsFlatOf p w f.limits f) word_is
    (subst (λ x. IsFlatOf p word x f) limits_are flat) in
    let accepted_own : IsAccepted p f.word f.limits f = subst (λ w. IsAccepted p w f.limits f) word_is
    (subst (λ x. IsAccepted p word x f) limits_are accepted) in
    let test = read p word l f flat accepted in
    by_outcome p f test.0 flat_own accepted_own test.1 stand no_room i o (own_outcome p word l f flat i o outcome)
    (networks-end p word l f test.0 flat accepted test.1.tells i o outcome)

-- The laws of a board's moments.
use Rattle.std.specs.Prelude.{◌≡◌, ℕ, ◌+◌, ◌*◌, ◌<◌, ◌≤◌, Bool, length, Some, slice_get, refl}
use Rattle.std.proofs.Common.{arith, sym, subst}
use Rattle.bn_circuits.specs.Circuits.{clock}
use Rattle.bn_circuits.specs.Stepping.{run}
use Rattle.bn_element.specs.Rotary.{horizontal}
use Rattle.bn_machine.specs.Machine.{Program}
use Rattle.bn_machine.specs.Laws.{HasOneOutcome}
use Rattle.bn_machine.specs.Outcome as outcome
use Rattle.bn_machine.specs.Outcome.{Outcome}
use Rattle.bn_quad.specs.Quadruples.{Configuration}
use Rattle.bn_bennett_laws.specs.Steps.{Exit, Finished, Stopped, Leaving}
use Rattle.bn_bennett.specs.Laws.{TranslationsAreUniform}
use Rattle.bn_bennett.specs.Runs.{beginning_of, ending_of}
use Rattle.bn_realise.specs.Banks.{bottom_at}
use Rattle.bn_circuits.specs.Situations.{Situation}
use Rattle.bn_network.specs.Cells.{cell_line_count}
use Rattle.bn_network.specs.ControlLaws.{HasEntries, StatesHaveEntries}
use Rattle.bn_network.specs.Controls.{symbol_count}
use Rattle.bn_network.specs.Networks.{IsTape, ShowsTapes, cells_in, first_cell}
use Rattle.bn_network.specs.Moments.{HasHeads}
use Rattle.bn_network_laws.specs.NetworkLaws.{HeadsStayOne}
use Rattle.bn_boards.specs.Boards.{base}
use Rattle.bn_boards.specs.Layouts.{symbol_count_at, cell_element}
use Rattle.bn_boards.specs.NetworkReads.{NetworkReads}
use Rattle.bn_boards.specs.Flats.{Flat, machine_of, IsFlatOf, IsAccepted, situation_at_start, flat_start}
use Rattle.bn_boards.specs.Costs.{HasCost}
use Rattle.bn_boards.specs.Journeys.{NetworkComes, NetworkEndsAs}
use Rattle.bn_boards.proofs.ReadingLemmas.{flat-reads, own_flat, own_accepted}
use Rattle.bn_boards.proofs.LetterLemmas.{letters_are}
use Rattle.bn_boards.specs.Moments.{MomentsAreTold}
use Rattle.bn_boards.proofs.MomentsLemmas.{BanksHaveOneMark, MomentsStandAtSums, TapesHaveOneHead}
use Rattle.bn_boards.proofs.MarkLemmas.{one_mark}
use Rattle.bn_boards.proofs.CellLemmas.{cells_lie}
use Rattle.bn_boards.proofs.HeadLemmas.{heads_at_start, heads_along, one_head}
use Rattle.bn_boards.proofs.SumLemmas.{told_moment, has_moment}
use Rattle.bn_boards.specs.RunLaws.{NetworksEndAlike}

-- a run of the network, whatever the outcome is
some_run : (f : Flat) (test : Situation → Bool) (i : ℕ) (o : Outcome) → NetworkEndsAs f test i o
    → (n : ℕ) × (d : Configuration ℕ) × (e : Exit)
    × NetworkComes f test n d e
some_run f test i (outcome.Halted y) h = (4 * i + 4 * length y + 5, ending_of f.translation f.word y, Finished, h)
some_run f test i (outcome.Stuck j c) h = (2 * i, h.0, Stopped, h.1)
some_run f test i (outcome.Outside t side) h = (h.0, h.1, Leaving t side, h.2)

module _ (uniform : TranslationsAreUniform) (entries : StatesHaveEntries) where
  -- the board's moment is the network's, where it stands for a situation
  pub moments-told : MomentsAreTold
  moments-told p word l f flat accepted = (flat-reads p f (own_flat p word l f flat)
      (own_accepted p word l f flat accepted)).1.which

  -- one mark a bank
  pub banks-one_mark : BanksHaveOneMark
  banks-one_mark p word l f cost flat accepted has room =
      let read = (flat-reads p f (own_flat p word l f flat)
      (own_accepted p word l f flat accepted)).1 in
      let none : (flat_start f).steps ≡ 0 = refl in
      let in_time : (flat_start f).steps + cost ≤ clock = omega arith in
      one_mark f.network f.circuit read.modules flat.is_board (situation_at_start f) (flat_start f) read.starts
      has.moves cost has.last has.run has.ended has.is in_time

  module _ (alike : NetworksEndAlike) (outcomes : HasOneOutcome) where
    -- moments at the sums of costs
    pub moments-sums : MomentsStandAtSums
    moments-sums p word l f cost flat accepted has room t a low =
        let own = own_flat p word l f flat in
        let accepted_own = own_accepted p word l f flat accepted in
        let read = flat-reads p f own accepted_own in
        let has_entries : HasEntries (machine_of f) = entries (machine_of f) flat.translation.machine
        (uniform p f.translation accepted.standard flat.translation).0 in
        let ends = outcomes.0 p f.word f.limits in
        let way = some_run f read.0 ends.0 ends.1 (alike p f.word f.limits f read.0 own accepted_own
        read.1.tells ends.0 ends.1 ends.2) in (
          told_moment f flat.is_board read.0 read.1 has_entries cost has room way.0 way.2 way.1 way.3 t a low,
          has_moment f flat.is_board read.0 read.1 has_entries cost has room t a low,
        )

    -- one head a tape, for a flat's own word and limits
    own_heads : HeadsStayOne → (p : Program) (f : Flat) (cost : ℕ) → IsFlatOf p f.word f.limits f
        → IsAccepted p f.word f.limits f → HasCost f cost
        → cost ≤ clock → (test : Situation → Bool) → NetworkReads (machine_of f) f.limits f.word f.names f.network
        f.layout
        test
        → (n : ℕ) (d : Configuration ℕ) (e : Exit) → NetworkComes f test n d e
        → (t tape p q i j : ℕ) → t ≤ cost → 0 < tape → tape ≤ 3 → p < cells_in f.limits tape
        → q < cells_in f.limits tape → symbol_count_at f.layout tape ≤ i
        → i < 2 * symbol_count_at f.layout tape → symbol_count_at f.layout tape ≤ j
        → j < 2 * symbol_count_at f.layout tape
        → slice_get (run f.circuit (flat_start f) t).states (bottom_at (cell_element f.layout tape p)
        (cell_line_count (symbol_count_at f.layout tape)) i) ≡ Some horizontal
        → slice_get (run f.circuit (flat_start f) t).states (bottom_at (cell_element f.layout tape q)
        (cell_line_count (symbol_count_at f.layout tape)) j) ≡ Some horizontal → p ≡ q
    own_heads stay p f cost flat accepted has room test read n d e comes t tape x y i j low some few here there headed
        within headed' within' lies lies' =
        let m = machine_of f in
        let tape_is : IsTape tape = record { low = some; high = few } in
        let z : symbol_count_at f.layout tape ≡ symbol_count m tape = letters_are p f.word f.limits f flat tape in
        let none : (flat_start f).steps ≡ 0 = refl in
        let in_time : (flat_start f).steps + cost ≤ clock = omega arith in
        let begun : HasHeads m f.limits (situation_at_start f) =
        heads_at_start m f.limits f.word f.names f.network comes.starts.path.0 (beginning f) comes.starts.path.1
        (subst (λ (s : Situation). ShowsTapes m f.limits s.states (beginning f)) (sym comes.starts.path.3)
        comes.shows.shows) in
        let lie = cells_lie f.limits f.names f.network p.symbols (length p.quints + 1) p.symbols m f.layout
        flat.translation.symbols flat.is_layout flat.is_network in
        let one = lie tape x tape_is here in
        let two = lie tape y tape_is there in
        one_head m f.limits f.network f.circuit read.modules flat.is_board (situation_at_start f) (flat_start f)
        read.starts has.moves cost has.last has.run has.ended has.is in_time
        (λ v s path. heads_along stay m f.limits f.names f.network flat.is_network v (situation_at_start f) s begun
        path)
        tape x y i j tape_is here there (subst (λ v. v ≤ i) z headed) (subst (λ v. i < 2 * v) z within)
        (subst (λ v. v ≤ j) z headed') (subst (λ v. j < 2 * v) z within') one.0 two.0 t low
        (moved_bar x i one.1 lies) (moved_bar y j two.1 lies')
      where
        beginning : Flat → Configuration ℕ
        beginning f = beginning_of f.translation f.word

        moved_bar : (c v : ℕ) → base f.network.tables (first_cell f.limits tape + c) ≡ cell_element f.layout tape c
            → slice_get (run f.circuit (flat_start f) t).states (bottom_at (cell_element f.layout tape c)
            (cell_line_count (symbol_count_at f.layout tape)) v) ≡ Some horizontal
            → slice_get (run f.circuit (flat_start f) t).states (bottom_at
            (base f.network.tables (first_cell f.limits tape + c))
            (cell_line_count (symbol_count (machine_of f) tape)) v) ≡ Some horizontal
        moved_bar c v place bar =
            let z : symbol_count_at f.layout tape ≡ symbol_count (machine_of f) tape =
            letters_are p f.word f.limits f flat tape in
            subst (λ b. slice_get (run f.circuit (flat_start f) t).states
            (bottom_at b (cell_line_count (symbol_count (machine_of f) tape)) v) ≡ Some horizontal) (sym place)
            (subst (λ w. slice_get (run f.circuit (flat_start f) t).states
            (bottom_at (cell_element f.layout tape c) (cell_line_count w) v) ≡ Some horizontal) z bar)

    -- one head a tape
    pub tapes-one_head : HeadsStayOne → TapesHaveOneHead
    tapes-one_head stay p word l f cost flat accepted has room t tape x y i j low some few here there =
        let own = own_flat p word l f flat in
        let accepted_own = own_accepted p word l f flat accepted in
        let read = flat-reads p f own accepted_own in
        let ends = outcomes.0 p f.word f.limits in
        let way = some_run f read.0 ends.0 ends.1 (alike p f.word f.limits f read.0 own accepted_own
        read.1.tells ends.0 ends.1 ends.2) in
        own_heads stay p f cost own accepted_own has room read.0 read.1 way.0 way.1 way.2 way.3 t tape x y i j low some
        few (subst (λ v. x < cells_in v tape) (sym flat.limits_are) here)
        (subst (λ v. y < cells_in v tape) (sym flat.limits_are) there)

-- What is shown stands for the machine, and is found by the layout.
use Rattle.std.specs.Prelude.{◌≡◌, ℕ, ◌+◌, ◌<◌, ◌≤◌, pos, All, List, Some, slice_get, slice_index, ◌⊎◌, refl}
use Rattle.std.proofs.Common.{arith, sym, ap, subst, ◌∙◌, inl, inr}
use Rattle.std.proofs.lemmas.Bool.{cases_lt}
use Rattle.std.proofs.lemmas.Int.{ints}
use Rattle.bn_lists.specs.Runs.{Reaches}
use Rattle.bn_circuits.specs.Circuits.{Circuit, Goes, IsStuck}
use Rattle.bn_circuits.proofs.StepLemmas.{slice_get-set_other}
use Rattle.bn_circuits.specs.Stepping.{run}
use Rattle.bn_circuits.specs.Situations.{Situation, Turns}
use Rattle.bn_circuits.proofs.RunLemmas.{Reaches-run, run_stops, run-zero}
use Rattle.bn_circuits.specs.declared.place.Place.TheVariants.{Enter}
use Rattle.bn_circuits.specs.declared.config.Config.{Config}
use Rattle.bn_circuits.proofs.RunPartLemmas.{steps_of_run}
use Rattle.bn_machine.specs.Machine.{Program}
use Rattle.bn_machine.specs.Window.{IsBetween}
use Rattle.bn_machine.specs.Outcome.{Limits, Outcome}
use Rattle.bn_machine.proofs.OutcomeLemmas.{outcome_exists}
use Rattle.bn_quad.specs.Quadruples.{Configuration, initial_of}
use Rattle.bn_bennett_laws.specs.Renamed.{in_state}
use Rattle.bn_bennett_laws.specs.Stages.{Stands, rooms_of}
use Rattle.bn_bennett.specs.Laws.{TranslationsAreUniform, TranslationsStand}
use Rattle.bn_bennett.specs.Meaning.{machine_state_by}
use Rattle.bn_bennett.specs.Runs.{Runs, beginning_of}
use Rattle.bn_bennett.specs.Translation.{name_of}
use Rattle.bn_network.specs.Controls.{symbol_count}
use Rattle.bn_network.specs.Moments.{HasLetters}
use Rattle.bn_network.specs.Networks.{ShowsTapes}
use Rattle.bn_network_laws.proofs.ShownLemmas.{all_cells, shown_beside}
use Rattle.bn_network_laws.specs.NetworkLaws.{FirstMoment}
use Rattle.bn_boards.proofs.LetterLemmas.{letters_are, some_letters}
use Rattle.bn_boards.proofs.ReadingLemmas.{own_accepted, own_flat}
use Rattle.bn_boards.specs.Flats.{Flat, IsAccepted, IsFlatOf, flat_start, machine_of, situation_at_start}
use Rattle.bn_boards.specs.LayoutLaws.{BoardsRead}
use Rattle.bn_boards.specs.Layouts.{spelled_config}
use Rattle.bn_boards.proofs.ShownHeadLemmas.{shown_inside}
use Rattle.bn_boards.specs.BoardRuns.{RunsToExit, BoardSpells}
use Rattle.bn_boards.specs.RunLaws.{BoardsRunToTheirExit}
use Rattle.bn_boards.specs.Moments.{BoardsHaveMoments, HasMoments}
use Rattle.bn_view.specs.Shown.{moment, start}
use Rattle.bn_view.specs.Viewed.{Comes, Finds, MachineIsAt}
use Rattle.bn_view.specs.Laws.{ShownIsFound, StandsForMachine, ViewsStand}
use Rattle.bn_view.proofs.MachineLemmas.{IsCounted, counted}
use Rattle.bn_view.proofs.ShownLemmas.{shown-agrees}

-- ---- where the head of the history is shown

pub history_head : (l : Limits) (c : Configuration ℕ) (i : ℕ) → c.two.head ≡ pos i → i ≤ l.steps
    → (spelled_config l c).two.head ≡ Some (pos i)
history_head l c i is low =
    shown_inside 0 l.steps (l.steps + 1) c.two (omega arith) (record
    { above = omega (arith, ints); below = omega (arith, ints) })
    ∙ ap (λ p. Some p) is

-- ---- runs that end

-- no run goes on from where no step leads on
pub no_longer : (k : Circuit) (t n : ℕ) (c d e : Config) → Reaches (Goes k) t c d → Reaches (Goes k) n c e → IsStuck k e
    → n < t → ⊥
no_longer k t n c d e path ended stuck more =
    let there : run k c t ≡ e = run_stops k n t c e ended (omega arith) (λ _. stuck) in
    let same : d ≡ e = sym (Reaches-run k t c d path) ∙ there in
    let steps : d.steps ≡ e.steps = ap (λ (x : Config). x.steps) same in
    let long = steps_of_run k t c d path in
    let short = steps_of_run k n c e ended in
    omega arith

pub within_run : (k : Circuit) (t n : ℕ) (c d e : Config) → Reaches (Goes k) t c d → Reaches (Goes k) n c e
    → IsStuck k e → t ≤ n
within_run k t n c d e path ended stuck = by (cases_lt n t)
  where
    by : (n < t) ⊎ (t ≤ n) → t ≤ n
    by (inl more) = absurd (no_longer k t n c d e path ended stuck more)
    by (inr few) = few

-- ---- the start

-- a move at the control leaves the states of cells
others_stay : (k : Circuit) (s t : Situation) (i : ℕ) → Turns k s t → s.place ≡ Enter 0 i → (e : ℕ) → 0 < e
    → slice_get s.states e ≡ slice_get t.states e
others_stay k s t i turn at e some =
    let both : Enter turn.element turn.input ≡ Enter 0 i = sym turn.enters ∙ at in
    let first : turn.element ≡ 0 = cc in
    sym (ap (λ xs. slice_get xs e) turn.states ∙ slice_get-set_other s.states turn.element e turn.after
    (λ same. apart (same ∙ first) some))
  where
    apart : e ≡ 0 → 0 < e → ⊥
    apart none some = omega arith

module _ (uniform : TranslationsAreUniform) (first : FirstMoment) (boards : BoardsRead) (p : Program) (word : List ℕ)
    (l : Limits) (f : Flat)
    (flat : IsFlatOf p word l f) (accepted : IsAccepted p word l f) where
  -- the cells spell the reversible machine's start
  starts_spell : BoardSpells f (flat_start f).states (beginning_of f.translation f.word)
  starts_spell =
      let m = machine_of f in
      let own = own_flat p word l f flat in
      let fits = own_accepted p word l f flat accepted in
      let read = boards p f.word f.limits f own fits in
      let has : HasLetters m = λ t tape. subst (λ v. 0 < v) (letters_are p word l f flat t)
      (some_letters p word l f flat accepted t tape.low tape.high) in
      let known : All (λ x. x < symbol_count m 1) f.word = subst (λ zs. All (λ x. x < slice_index zs 0) f.word)
      (sym flat.translation.symbols) fits.letters in
      let found = first m f.limits f.names f.network read.0 f.word flat.translation.machine
      (uniform p f.translation accepted.standard flat.translation).0 has flat.numbering own.is_network read.1.tells
      known fits.fits in
      let path = found.1.path in
      let end : path.0 ≡ found.0 = path.3 in
      let shows : ShowsTapes m f.limits path.0.states (beginning_of f.translation f.word) =
      subst (λ (s : Situation). ShowsTapes m f.limits s.states (beginning_of f.translation f.word)) (sym end)
      found.2.shows in
      read.1.spells (situation_at_start f) (flat_start f) (beginning_of f.translation f.word) read.1.starts
      (all_cells m f.limits (situation_at_start f).states (beginning_of f.translation f.word)
      (shown_beside m f.limits path.0.states (situation_at_start f).states (beginning_of f.translation f.word) shows
      (others_stay f.network (situation_at_start f) path.0 0 path.1 refl)))

-- ---- what is shown

module _ (boards : BoardsRunToTheirExit) (have : BoardsHaveMoments) (p : Program) (word : List ℕ) (l : Limits)
    (f : Flat)
    (flat : IsFlatOf p word l f) (accepted : IsAccepted p word l f) where
  own_moments : HasMoments f.limits f
  own_moments = have p f.word f.limits f (own_flat p word l f flat) (own_accepted p word l f flat accepted)

  -- a run to the exit
  record HasRun : Type 0 where
    steps : ℕ
    outcome : Outcome
    runs : RunsToExit p f steps outcome

  the_run : HasRun
  the_run = let some = outcome_exists p word l in record {
    steps = some.0;
    outcome = some.1;
    runs = boards p word l f flat accepted some.0 some.1 some.2;
  }

  in_run : (t : ℕ) (d : Config) → Reaches (Goes f.circuit) t (flat_start f) d → t ≤ the_run.runs.cost
  in_run t d path =
      let ran = the_run.runs in
      within_run f.circuit t ran.cost (flat_start f) d (run f.circuit (flat_start f) ran.cost) path ran.run_to ran.ended

  -- on a run the layout finds the moments
  found_moment : (t : ℕ) (d : Config) → Reaches (Goes f.circuit) t (flat_start f) d → (u e : ℕ) → u ≤ t → Comes f u e
      → Finds f.layout f.circuit (flat_start f) u e
  found_moment t d path u e low there =
      let most = in_run t d path in
      (own_moments.found the_run.runs.cost u e the_run.runs.has_cost (omega arith)).1
      ((own_moments.sums the_run.runs.cost u e the_run.runs.has_cost (omega arith)).0 there)

  told_moment : (t : ℕ) (d : Config) → Reaches (Goes f.circuit) t (flat_start f) d → (u e : ℕ) → u ≤ t
      → Finds f.layout f.circuit (flat_start f) u e → Comes f u e
  told_moment t d path u e low there =
      let most = in_run t d path in
      (own_moments.sums the_run.runs.cost u e the_run.runs.has_cost (omega arith)).1
      ((own_moments.found the_run.runs.cost u e the_run.runs.has_cost (omega arith)).0 there)

pub shown-found : BoardsRunToTheirExit → BoardsHaveMoments → ShownIsFound
shown-found boards have p word l f flat accepted t s a d path = (
  shown-agrees (Comes f) (Finds f.layout f.circuit (flat_start f)) (initial_of (machine_of f).rules) t s a
      (found_moment boards have p word l f flat accepted t d path)
      (told_moment boards have p word l f flat accepted t d path),
  shown-agrees (Finds f.layout f.circuit (flat_start f)) (Comes f) (initial_of (machine_of f).rules) t s a
      (told_moment boards have p word l f flat accepted t d path)
      (found_moment boards have p word l f flat accepted t d path),
)

-- ---- it stands for the machine

module _ (stand : TranslationsStand) (p : Program) (word : List ℕ) (l : Limits) (f : Flat) (flat : IsFlatOf p word l f)
    (accepted : IsAccepted p word l f) where
  shows : (s a n : ℕ) (c : Configuration ℕ) → Runs f.translation f.word (rooms_of f.limits) n c → c.state ≡ a
      → BoardSpells f (run f.circuit (flat_start f) s).states c
      → IsBetween 0 f.limits.steps c.two.head → StandsForMachine p word f s a
  shows s a n c runs state spells inside =
      let by_word : Runs f.translation word (rooms_of f.limits) n c =
      subst (λ (w : List ℕ). Runs f.translation w (rooms_of f.limits) n c) flat.word_is runs in
      let stands : Stands p word (in_state (name_of f.translation) c) =
      (stand p f.translation word accepted.standard flat.translation accepted.letters).0 (rooms_of f.limits) n c
      by_word in
      let count : IsCounted p word f.translation.final_state (in_state (name_of f.translation) c) =
      counted p word f.translation.final_state flat.translation.final_state (in_state (name_of f.translation) c)
      stands in
      record {
        config = c;
        state = state;
        spells = spells;
        stands = stands;
        step = count.step;
        head = count.head;
        inside = let below = inside.below in let at = count.head in omega (arith, ints);
        at = subst (λ x. MachineIsAt p word count.step (machine_state_by f.translation.final_state
            (name_of f.translation x))) state count.at;
      }

pub views-stand : TranslationsAreUniform → TranslationsStand → FirstMoment → BoardsRead → BoardsRunToTheirExit
    → BoardsHaveMoments → ViewsStand
views-stand uniform stand first read boards have p word l f flat accepted t s a d path (moment few here later) =
    let most = in_run boards have p word l f flat accepted t d path in
    let ran = (the_run boards have p word l f flat accepted).runs in
    let m = ((own_moments boards have p word l f flat accepted).sums ran.cost s a ran.has_cost (omega arith)).0 here in
    shows stand p word l f flat accepted s a m.steps m.config m.runs m.state m.spells m.shows.shows.two.head
views-stand uniform stand first read boards have p word l f flat accepted t s a d path (start is begins none) =
    let there : flat_start f ≡ run f.circuit (flat_start f) s =
    sym (run-zero f.circuit (flat_start f)) ∙ ap (run f.circuit (flat_start f)) (sym is) in
    shows stand p word l f flat accepted s a 0 (beginning_of f.translation f.word) refl (sym begins)
    (subst (λ (x : Config). BoardSpells f x.states (beginning_of f.translation f.word)) there
    (starts_spell uniform first read p word l f flat accepted))
    (record { above = omega (arith, ints); below = omega (arith, ints) })

-- Boards of two words on one machine in one window differ at most at the bottoms of tape 1's cells.
use Rattle.std.specs.Prelude.{◌≡◌, ◌≢◌, ℕ, ◌+◌, ◌-◌, ◌*◌, ◌<◌, ◌≤◌, Bool, List, [], ◌∷◌, ◌++◌, length, replicate, Some}
use Rattle.std.specs.Prelude.{slice_get, refl, ◌⊎◌}
use Rattle.std.proofs.Common.{zero, suc, arith, sym, ap, subst, ◌∙◌, inl, inr}
use Rattle.std.proofs.lemmas.Bool.{cases_lt}
use Rattle.std.proofs.lemmas.List.{append_assoc}
use Rattle.std.proofs.lemmas.Option.{same_Some}
use Rattle.bn_element.specs.Tables.{Table}
use Rattle.bn_circuits.proofs.StepLemmas.{slice_get-set_other}
use Rattle.bn_element.specs.Rotary.{horizontal, vertical}
use Rattle.bn_machine.specs.Machine.{Program}
use Rattle.bn_machine.specs.Outcome.{Limits}
use Rattle.bn_bennett.specs.Laws.{TranslationsAreOne, TranslationsAreUniform}
use Rattle.bn_realise.specs.Banks.{bottom_at}
use Rattle.bn_circuits.specs.declared.config.Config.{Config}
use Rattle.bn_circuits.specs.Situations.{Situation}
use Rattle.bn_network.specs.Cells.{cell_table, cell_line_count}
use Rattle.bn_network.specs.Controls.{symbol_count}
use Rattle.bn_network.specs.Networks.{IsTape, cells_in, first_cell, start_cells, network_start}
use Rattle.bn_boards.specs.Boards.{base, size_of, bars_of, board_start}
use Rattle.bn_boards.specs.Layouts.{symbol_count_at, cell_element, end_place}
use Rattle.bn_boards.specs.NetworkReads.{NetworkReads}
use Rattle.bn_boards.specs.Flats.{Flat, machine_of, IsFlatOf, IsAccepted, flat_start}
use Rattle.bn_boards.proofs.SameLemmas.{flats-one}
use Rattle.bn_network.specs.ControlLaws.{ControlsAreOne, StatesHaveEntries}
use Rattle.bn_boards.specs.LayoutLaws.{WordsDifferInCells, WordsShareBoards}
use Rattle.bn_boards.proofs.ModuleLemmas.{one_table}
use Rattle.bn_boards.proofs.LetterLemmas.{letters_are}
use Rattle.bn_realise.proofs.StartLemmas.{resting}
use Rattle.bn_boards.proofs.StartedLemmas.{resting-length, get_left, get_right}
use Rattle.bn_boards.proofs.StartingLemmas.{start_length}
use Rattle.bn_boards.proofs.ReadingLemmas.{flat-reads, own_flat, own_accepted}

-- each state of a list is below that of its table
abbrev AreBelow : List Table → List ℕ → Type 0
AreBelow ts qs = (e : ℕ) (t : Table) (q : ℕ) → slice_get ts e ≡ Some t → slice_get qs e ≡ Some q → q < t.states

-- a bar at which two boards of the same modules don't differ: each module is in one state, or the bar is none of its
-- bottoms
abbrev AreAlikeAt : List Table → List ℕ → List ℕ → ℕ → Type 0
AreAlikeAt ts qs ps e = (m : ℕ) (t : Table) → slice_get ts m ≡ Some t
    → (slice_get qs m ≡ slice_get ps m) ⊎ ((j : ℕ) → j < t.states
    → e ≢ bottom_at (base ts m) t.inputs j)

-- there the bars are alike
bars_alike : (ts : List Table) (qs ps : List ℕ) (e : ℕ) → length qs ≡ length ts → length ps ≡ length ts → AreBelow ts qs
    → AreBelow ts ps
    → AreAlikeAt ts qs ps e → slice_get (bars_of ts qs) e ≡ slice_get (bars_of ts ps) e
bars_alike [] qs ps e a b below under alike = refl
bars_alike (t ∷ ts) [] ps e a b below under alike = absurd (omega arith)
bars_alike (t ∷ ts) (q ∷ qs) [] e a b below under alike = absurd (omega arith)
bars_alike (t ∷ ts) (q ∷ qs) (r ∷ ps) e a b below under alike =
    let count = resting-length t.states t.inputs q in
    let count' = resting-length t.states t.inputs r in
    elim (cases_lt e (size_of t)) [
      | inl less ↦ get_left (resting t.states t.inputs q) (bars_of ts qs) e (omega arith) ∙ here
          ∙ sym (get_left (resting t.states t.inputs r) (bars_of ts ps) e (omega arith))
      | inr more ↦
          (let place : e ≡ size_of t + (e - size_of t) = omega arith in
          let rest = bars_alike ts qs ps (e - size_of t) (omega arith) (omega arith) (λ m. below (suc m))
          (λ m. under (suc m)) (later (e - size_of t) place) in
          get_right (resting t.states t.inputs q) (bars_of ts qs) (e - size_of t) e (omega arith) ∙ rest
          ∙ sym (get_right (resting t.states t.inputs r) (bars_of ts ps) (e - size_of t) e (omega arith)))
    ]
  where
    here : slice_get (resting t.states t.inputs q) e ≡ slice_get (resting t.states t.inputs r) e
    here =
        elim (alike 0 t refl) [
          | inl same ↦ (let states : q ≡ r = same_Some q r same in ap (λ v. slice_get (resting t.states t.inputs v) e)
              states)
          | inr apart ↦
              slice_get-set_other (replicate (t.states * (t.inputs + 1)) vertical) (bottom_at 0 t.inputs q) e horizontal
              (apart q (below 0 t q refl refl))
              ∙ sym (slice_get-set_other (replicate (t.states * (t.inputs + 1)) vertical) (bottom_at 0 t.inputs r) e
              horizontal (apart r (under 0 t r refl refl)))
        ]

    later : (x : ℕ) → e ≡ size_of t + x → AreAlikeAt ts qs ps x
    later x place m u has =
        elim (alike (suc m) u has) [
          | inl same ↦ inl same
          | inr apart ↦ inr (λ j low h. apart j low (omega arith))
        ]

-- behind two lists of one length
same_behind : (xs ys rest : List ℕ) (c i : ℕ) → length xs ≡ c → length ys ≡ c → c ≤ i
    → slice_get (xs ++ rest) i ≡ slice_get (ys ++ rest) i
same_behind xs ys rest c i a b far = get_right xs rest (i - c) i (omega arith)
    ∙ sym (get_right ys rest (i - c) i (omega arith))

-- a flat with another word
abbrev with_word : Flat → List ℕ → Flat
with_word f word = record {
  translation = f.translation;
  limits = f.limits;
  word = word;
  names = f.names;
  network = f.network;
  circuit = f.circuit;
  layout = f.layout;
}

-- is a flat of that word
with_word-IsFlatOf : (p : Program) (word other : List ℕ) (l : Limits) (f : Flat) → IsFlatOf p word l f
    → IsFlatOf p other l (with_word f other)
with_word-IsFlatOf p word other l f flat = record {
  translation = flat.translation;
  word_is = refl;
  limits_are = flat.limits_are;
  numbering = flat.numbering;
  is_network = flat.is_network;
  is_board = flat.is_board;
  is_layout = flat.is_layout;
}

-- two words on one network
module _ (p : Program) (f : Flat) (one other : List ℕ) (test : Situation
    → Bool) (read : NetworkReads (machine_of f) f.limits one f.names f.network f.layout test) (test' : Situation
    → Bool) (read' : NetworkReads (machine_of f) f.limits other f.names f.network f.layout test')
    (letters_same : symbol_count_at f.layout 1 ≡ symbol_count (machine_of f) 1) where
  -- the network's tables
  abbrev tables : List Table
  tables = f.network.tables

  -- its modules' states at the start with this word
  abbrev states_for : List ℕ → List ℕ
  states_for w = (network_start (machine_of f) f.limits w).states

  -- they differ in the first tape's cells alone
  states_alike : (e : ℕ) → ((j c : ℕ) → c < cells_in f.limits 1 → j < 2 * symbol_count_at f.layout 1
      → e ≢ bottom_at (cell_element f.layout 1 c) (cell_line_count (symbol_count_at f.layout 1)) j)
      → AreAlikeAt tables (states_for one) (states_for other) e
  states_alike e apart zero t has = inl refl
  states_alike e apart (suc i) t has =
      elim (cases_lt i (cells_in f.limits 1)) [
        | inl less ↦
            (let tape : IsTape 1 = record { low = omega arith; high = omega arith } in
            let place : first_cell f.limits 1 + i ≡ suc i = omega arith in
            let table = one_table tables (first_cell f.limits 1 + i) (suc i)
            (cell_table (symbol_count (machine_of f) 1)) t place (read.cell_tables 1 i tape less) has in
            let begins = read.cell_bases 1 i tape less in
            let states_are : t.states ≡ 2 * symbol_count_at f.layout 1 =
            sym (ap (λ (v : Table). v.states) table) ∙ ap (λ v. 2 * v) (sym letters_same) in
            let inputs_are : t.inputs ≡ cell_line_count (symbol_count_at f.layout 1) =
            sym (ap (λ (v : Table). v.inputs) table) ∙ ap cell_line_count (sym letters_same) in
            let base_is : base tables (suc i) ≡ cell_element f.layout 1 i = ap (base tables) (sym place) ∙ begins in
            inr (λ j low h. apart j i less (subst (λ v. j < v) states_are low)
            (h ∙ (λ k. bottom_at (base_is k) (inputs_are k) j))))
        | inr far ↦ inl (rest one ∙ same_behind (first one) (first other) others (cells_in f.limits 1) i
            (start_length _ _ _ one) (start_length _ _ _ other) far ∙ sym (rest other))
      ]
    where
      first : List ℕ → List ℕ
      first w = start_cells (symbol_count (machine_of f) 1) f.limits.left w f.limits.right

      others : List ℕ
      others = start_cells (symbol_count (machine_of f) 2) 0 [] f.limits.steps
          ++ start_cells (symbol_count (machine_of f) 3) 0 [] f.limits.output

      rest : (w : List ℕ) → slice_get (states_for w) (suc i) ≡ slice_get (first w ++ others) i
      rest w = ap (λ xs. slice_get xs i) (append_assoc (first w)
          (start_cells (symbol_count (machine_of f) 2) 0 [] f.limits.steps)
          (start_cells (symbol_count (machine_of f) 3) 0 [] f.limits.output))

  -- so the boards differ at their bottoms alone
  bars-alike : (e : ℕ)
      → ((j c : ℕ) → c < cells_in f.limits 1 → j < 2 * symbol_count_at f.layout 1
      → e ≢ bottom_at (cell_element f.layout 1 c) (cell_line_count (symbol_count_at f.layout 1)) j)
      → slice_get (bars_of tables (states_for one)) e ≡ slice_get (bars_of tables (states_for other)) e
  bars-alike e apart =
      bars_alike tables (states_for one) (states_for other) e read.starts.count read'.starts.count
      (λ m t q has at_q. (read.starts.rests m t q has at_q).0)
      (λ m t q has at_q. (read'.starts.rests m t q has at_q).0) (states_alike e apart)

-- two flats of one machine in one window
pub words-differ : TranslationsAreOne → TranslationsAreUniform → ControlsAreOne → StatesHaveEntries → WordsDifferInCells
words-differ translations uniform controls entries p word other l f g flat_f flat_g accepted_f accepted_g =
    let same = flats-one translations uniform controls entries p word l f (with_word g word) accepted_f.standard flat_f
    (with_word-IsFlatOf p other word l g flat_g) in
    let flat = own_flat p word l f flat_f in
    let accepted = own_accepted p word l f flat_f accepted_f in
    let one = flat-reads p f flat accepted in
    let crossed = with_word f other in
    let flat_crossed = own_flat p other l crossed (with_word-IsFlatOf p word other l f flat_f) in
    let accepted_crossed : IsAccepted p other l crossed = record {
      standard = accepted_g.standard;
      letters = accepted_g.letters;
      nonblank = accepted_g.nonblank;
      fits = accepted_g.fits;
      small = accepted_g.small;
      few = accepted_f.few;
    } in
    let two = flat-reads p crossed flat_crossed
    (own_accepted p other l crossed (with_word-IsFlatOf p word other l f flat_f) accepted_crossed) in
    let limits : f.limits ≡ g.limits = flat_f.limits_are ∙ sym flat_g.limits_are in
    let starts : flat_start crossed ≡ flat_start g = λ i. board_start (same.network.tables i)
    (network_start (same.translation i).machine (limits i) (sym flat_g.word_is i)) in (
      ap (λ (c : Config). c.place) starts,
      λ e apart.
          bars-alike p f f.word other one.0 one.1 two.0 two.1 (letters_are p f.word f.limits f flat 1) e
          (λ j c low row. apart j c (subst (λ x. c < cells_in x 1) flat_f.limits_are low) row)
          ∙ ap (λ (c : Config). slice_get c.states e) starts,
    )

-- and the board's wires and layout know nothing of the word
pub words-share : TranslationsAreOne → TranslationsAreUniform → ControlsAreOne → StatesHaveEntries → WordsShareBoards
words-share translations uniform controls entries p word other l f g standard flat_f flat_g =
    let same = flats-one translations uniform controls entries p word l f (with_word g word) standard flat_f
    (with_word-IsFlatOf p other word l g flat_g) in
    (same.circuit, same.layout, ap end_place same.layout)

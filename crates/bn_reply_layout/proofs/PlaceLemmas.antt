-- Modules of a board's layout are those of its network, and each element stands in one of them alone.
use Rattle.std.specs.Prelude.{◌≡◌, ℕ, ◌+◌, ◌-◌, ◌*◌, ◌/◌, ◌%◌, ◌<◌, ◌≤◌, List, ◌++◌, length, replicate, Option, Some}
use Rattle.std.specs.Prelude.{slice_get, refl}
use Rattle.std.proofs.Common.{zero, suc, arith, sym, ap, subst, ◌∙◌, length-append}
use Rattle.std.proofs.lemmas.List.{length-replicate}
use Rattle.std.proofs.lemmas.Nat.{div-add-mod'}
use Rattle.std.proofs.Math.Nat.{div-lt_iff_lt-mul}
use Rattle.bn_element.specs.Rotary.{west}
use Rattle.bn_circuits.specs.declared.place.Place.TheVariants.{Enter}
use Rattle.bn_machine.specs.Machine.{Program}
use Rattle.bn_machine.specs.Outcome.{Limits}
use Rattle.bn_bennett.specs.Laws.{TranslationsAreUniform}
use Rattle.bn_realise.specs.Banks.{column_at}
use Rattle.bn_network.specs.Cells.{cell_line_count, cell_table}
use Rattle.bn_network.specs.Controls.{lines_before, symbol_count}
use Rattle.bn_network.specs.ControlLaws.{StatesHaveEntries}
use Rattle.bn_network.specs.Networks.{IsTape, cell_size, cells_in, first_cell}
use Rattle.bn_boards.specs.Boards.{base}
use Rattle.bn_boards.specs.Flats.{Flat, IsAccepted, IsFlatOf, machine_of}
use Rattle.bn_boards.specs.Layouts.{cell_element, lines_at, symbol_count_at}
use Rattle.bn_boards.proofs.LetterLemmas.{letters_are}
use Rattle.bn_boards.proofs.ModuleLemmas.{place_once}
use Rattle.bn_boards.proofs.ReadingLemmas.{flat-reads, own_accepted, own_flat}
use Rattle.bn_board.specs.Locations.{IsLocated, IsInputLine, left, in_control, in_cell}
use Rattle.bn_board.specs.declared.located.Located.{Located}
use Rattle.bn_reply_layout.specs.declared.bank.Bank.{Bank}
use Rattle.bn_reply_layout.specs.Modules.{StandsIn, control_bank, modules_of}
use Rattle.bn_reply_layout.specs.PlaceLaws.{ElementsAreFound, IsBankOf, IsFound, ModulesAreNamed, NamesModules}
use Rattle.bn_reply_layout.specs.PlaceLaws.{is_named}
use Rattle.bn_reply_layout.proofs.ModuleLemmas.{IsPlaced, at_control, at_cell, bank_at, cell_stands, control_stands}
use Rattle.bn_reply_layout.proofs.ModuleLemmas.{module_count, placed}

-- ---- a bank's element

-- the element stands in a column and a row
found_in : (m : Bank) (e : ℕ) → m.first ≤ e → e < m.first + m.columns * (m.lines + 1)
    → StandsIn m e ((e - m.first) / (m.lines + 1)) ((e - m.first) % (m.lines + 1))
found_in m e low high =
    let whole = div-add-mod' (e - m.first) (m.lines + 1) in
    let rest : (e - m.first) % (m.lines + 1) < m.lines + 1 = omega arith in
    let few : e - m.first < m.columns * (m.lines + 1) = omega arith in
    let some : 0 < m.lines + 1 = omega arith in
    record {
      of_columns = (div-lt_iff_lt-mul {k = m.lines + 1} {x = e - m.first} {y = m.columns} some).1 few;
      of_rows = omega arith;
      is = omega arith;
    }

-- one of the first column's rows but its bottom
first_column : (c r i n : ℕ) → c * (n + 1) + r ≡ i → i < n → (c ≡ 0) × (r ≡ i)
first_column zero r i n e low = (refl, omega arith)
first_column (suc c) r i n e low = absurd (omega arith)

module _ (uniform : TranslationsAreUniform) (entries : StatesHaveEntries) (p : Program) (word : List ℕ) (l : Limits)
    (f : Flat) (flat : IsFlatOf p word l f) (accepted : IsAccepted p word l f) where
  -- ---- the modules are those of the network
  control_is : IsBankOf f 0 (control_bank f.layout)
  control_is =
      let control = flat.is_network.control in
      let kept = flat.is_layout in
      let table = flat.is_network.is_control in
      record {
        number = refl;
        table = control;
        has_table = ap (λ ts. slice_get ts 0) flat.is_network.tables;
        first = refl;
        columns = kept.states ∙ sym table.states;
        lines = ap (λ zs. lines_before zs 3) kept.symbols ∙ sym table.inputs;
      }

  cell_is : (t q : ℕ) → IsTape t → q < cells_in f.layout.limits t
      → IsBankOf f (first_cell f.layout.limits t + q) (bank_at f.layout t q)
  cell_is t q tape low =
      let own = own_flat p word l f flat in
      let read = (flat-reads p f own (own_accepted p word l f flat accepted)).1 in
      let limits : f.layout.limits ≡ f.limits = own.is_layout.limits in
      let few : q < cells_in f.limits t = subst (λ x. q < cells_in x t) limits low in
      let letters : symbol_count_at f.layout t ≡ symbol_count (machine_of f) t =
      letters_are p f.word f.limits f own t in
      record {
        number = refl;
        table = cell_table (symbol_count (machine_of f) t);
        has_table = subst (λ x. slice_get f.network.tables (first_cell x t + q)
            ≡ Some (cell_table (symbol_count (machine_of f) t))) (sym limits) (read.cell_tables t q tape few);
        first = sym (subst (λ x. base f.network.tables (first_cell x t + q) ≡ cell_element f.layout t q) (sym limits)
            (read.cell_bases t q tape few));
        columns = ap (λ z. 2 * z) letters;
        lines = ap cell_line_count letters;
      }

  bank_is : (k : ℕ) (m : Bank) → slice_get (modules_of f.layout) k ≡ Some m → IsBankOf f k m
  bank_is k m e = by (placed f.layout k m e)
    where
      by : IsPlaced f.layout k m → IsBankOf f k m
      by (at_control zero_is is) = subst (λ (x : Bank). IsBankOf f k x) (sym is)
          (subst (λ n. IsBankOf f n (control_bank f.layout)) (sym zero_is) control_is)
      by (at_cell t q tape low place is) = subst (λ (x : Bank). IsBankOf f k x) (sym is)
          (subst (λ n. IsBankOf f n (bank_at f.layout t q)) (sym place) (cell_is t q tape low))

  table_count : length f.network.tables ≡ 1 + (cells_in l 1 + (cells_in l 2 + cells_in l 3))
  table_count =
      let m = machine_of f in
      let one = replicate (cells_in l 1) (cell_table (symbol_count m 1)) in
      let two = replicate (cells_in l 2) (cell_table (symbol_count m 2)) in
      let three = replicate (cells_in l 3) (cell_table (symbol_count m 3)) in
      let first = length-replicate (cells_in l 1) (cell_table (symbol_count m 1)) in
      let second = length-replicate (cells_in l 2) (cell_table (symbol_count m 2)) in
      let third = length-replicate (cells_in l 3) (cell_table (symbol_count m 3)) in
      let front = length-append one two in
      let all = length-append (one ++ two) three in
      ap length flat.is_network.tables ∙ omega arith

  pub names_modules : NamesModules f
  names_modules = record {
    count = module_count f.layout ∙ ap (λ x. 1 + (cells_in x 1 + (cells_in x 2 + cells_in x 3))) flat.is_layout.limits
        ∙ sym table_count;
    each = bank_is;
  }

  -- ---- an element stands once
  by_table : (k : ℕ) (m : Bank) (bank : IsBankOf f k m) (e c r : ℕ) → StandsIn m e c r
      → (c < bank.table.states) × (r ≤ bank.table.inputs) × (e ≡ column_at (base f.network.tables k) bank.table.inputs c
      + r)
  by_table k m bank e c r h =
      let columns = bank.columns in
      let lines = bank.lines in
      let low = h.of_columns in
      let few = h.of_rows in
      let there : e ≡ base f.network.tables k + (c * (bank.table.inputs + 1) + r) =
      h.is ∙ (λ i. bank.first i + (c * (bank.lines i + 1) + r)) in
      (omega arith, omega arith, omega arith)

  stands_once : (k n : ℕ) (m b : Bank) (e c r column row : ℕ) → slice_get (modules_of f.layout) k ≡ Some m
      → slice_get (modules_of f.layout) n ≡ Some b
      → StandsIn m e c r → StandsIn b e column row → (k ≡ n) × (c ≡ column) × (r ≡ row)
  stands_once k n m b e c r column row has is one two =
      let first = bank_is k m has in
      let second = bank_is n b is in
      let here = by_table k m first e c r one in
      let there = by_table n b second e column row two in
      let same = place_once f.network.tables k n first.table second.table c column r row first.has_table
      second.has_table here.0 there.0 here.1 there.1 (sym here.2 ∙ there.2) in
      (same.0, same.2, same.3)

  -- ---- where `view` finds it
  found : (number : ℕ) (bank : Bank) (e line : ℕ) (at : Located) (entered : Option ℕ)
      → slice_get (modules_of f.layout) number ≡ Some bank → bank.first ≤ e
      → e < bank.first + bank.columns * (bank.lines + 1) → at ≡ is_named bank.name entered
      → IsInputLine bank.first bank.lines e line entered → IsFound f e line at
  found number bank e line at entered stands low high named is =
      let place = found_in bank e low high in
      record {
        number = number;
        bank = bank;
        stands = stands;
        column = (e - bank.first) / (bank.lines + 1);
        row = (e - bank.first) % (bank.lines + 1);
        in_bank = place;
        entered = entered;
        named = named;
        by_line = by_line place;
        alone = λ k c r m has other. stands_once k number m bank e c r ((e - bank.first) / (bank.lines + 1))
            ((e - bank.first) % (bank.lines + 1)) has stands other place;
      }
    where
      by_line : StandsIn bank e ((e - bank.first) / (bank.lines + 1)) ((e - bank.first) % (bank.lines + 1)) → (i : ℕ)
          → entered ≡ Some i
          → (line ≡ west) × (((e - bank.first) / (bank.lines + 1)) ≡ 0) × (((e - bank.first) % (bank.lines + 1)) ≡ i)
          × (i < bank.lines)
      by_line place i enters =
          let at_row = (is i).0 enters in
          let low = at_row.0 in
          let here = at_row.1 in
          let there = place.is in
          let sum : ((e - bank.first) / (bank.lines + 1)) * (bank.lines + 1) + (e - bank.first) % (bank.lines + 1) ≡ i =
          omega arith in
          let both = first_column ((e - bank.first) / (bank.lines + 1)) ((e - bank.first) % (bank.lines + 1)) i
          bank.lines sum low in
          (at_row.2, both.0, both.1, low)

  pub element_found : (e line : ℕ) (at : Located) → IsLocated f.layout (Enter e line) at → IsFound f e line at
  element_found e line at (left x o is none) = absurd (cc)
  element_found e line at (in_control x o is low entered by at_is) =
      let element : x ≡ e = cc in
      let which : o ≡ line = cc in
      found 0 (control_bank f.layout) e line at entered (control_stands f.layout) (omega arith) (omega arith) at_is
      (subst (λ v. IsInputLine 0 (lines_at f.layout) e v entered) which
      (subst (λ v. IsInputLine 0 (lines_at f.layout) v o entered) element by))
  element_found e line at (in_cell x o is t q tape few low high entered by at_is) =
      let element : x ≡ e = cc in
      let which : o ≡ line = cc in
      let first = cell_element f.layout t q in
      let lines = cell_line_count (symbol_count_at f.layout t) in
      let least : cell_element f.layout t q ≤ e = subst (λ v. cell_element f.layout t q ≤ v) element low in
      let most : e < cell_element f.layout t q + cell_size (symbol_count_at f.layout t) =
      subst (λ v. v < cell_element f.layout t q + cell_size (symbol_count_at f.layout t)) element high in
      found (first_cell f.layout.limits t + q) (bank_at f.layout t q) e line at entered
      (cell_stands f.layout t q tape few) least most at_is
      (subst (λ v. IsInputLine (cell_element f.layout t q) (cell_line_count (symbol_count_at f.layout t)) e v entered)
      which (subst (λ v. IsInputLine (cell_element f.layout t q) (cell_line_count (symbol_count_at f.layout t)) v o
      entered) element by))

pub modules-named : TranslationsAreUniform → StatesHaveEntries → ModulesAreNamed
modules-named uniform entries p word l f flat accepted = names_modules uniform entries p word l f flat accepted

pub elements-found : TranslationsAreUniform → StatesHaveEntries → ElementsAreFound
elements-found uniform entries p word l f flat accepted e line at small located =
    element_found uniform entries p word l f flat accepted e line at located

-- At which places a moment can be, and the search for its state.
use Rattle.std.specs.Prelude.{◌≡◌, ◌≢◌, ◌↔◌, ◌==◌, ◌&&◌, ℕ, ◌+◌, ◌-◌, ◌*◌, ◌<◌, ◌≤◌, Bool, true, false, List, [], ◌∷◌}
use Rattle.std.specs.Prelude.{length, position, is_none, Option, Some, None, slice_get, refl}
use Rattle.std.specs.List.{slice_index_or}
use Rattle.std.proofs.Common.{zero, suc, arith, sym, ap, subst, ◌∙◌, inl, inr}
use Rattle.std.proofs.lemmas.Bool.{cases_lt}
use Rattle.std.proofs.lemmas.Bool.Decides.{nat_tests}
use Rattle.std.proofs.lemmas.List.Sums.{position_or_len_is}
use Rattle.std.proofs.lemmas.Option.{same_Some, slice_get-get_or, get_or_from_slice_get}
use Rattle.std.proofs.lemmas.List.Elements.{AllWithin-from_all}
use Rattle.std.proofs.Math.Nat.{mul-le-mul_right}
use Rattle.bn_circuits.specs.declared.place.Place.{Place}
use Rattle.bn_circuits.specs.declared.place.Place.TheVariants.{Enter, Left}
use Rattle.bn_circuits.specs.declared.config.Config.{Config}
use Rattle.bn_element.specs.Rotary.{west}
use Rattle.bn_machine.specs.Outcome.{Limits}
use Rattle.bn_network.specs.Controls.{lines_before}
use Rattle.bn_network.specs.Networks.{cell_size, cells_in}
use Rattle.bn_boards.specs.Layouts.{Layout, symbol_count_at, lines_at, first_element, elements_of, command_place}
use Rattle.bn_boards.specs.Layouts.{end_place, is_sent, moment_at, same_place}
use Rattle.bn_boards.proofs.PlaceLemmas.{later_tape}
use Rattle.bn_boards.proofs.FirstLemmas.{position_at, below, not_below}
use Rattle.bn_board.specs.Flattened.{IsLayoutKept, IsFirstWithin}
use Rattle.bn_board.specs.Moments.{IsCommandTo}

-- the lines up to a tape's
lines_next : (zs : List ℕ) (t : ℕ) → t < length zs → lines_before zs (suc t)
    ≡ lines_before zs t + slice_index_or zs t 0 + 3
lines_next [] t low = absurd (omega arith)
lines_next (z ∷ zs) zero low = omega arith
lines_next (z ∷ zs) (suc t) low = let h = lines_next zs t (omega arith) in omega arith

-- a command by its tape and its place among that tape's commands
pub record IsCommandOf (b : Layout) (e o : ℕ) : Type 0 where
  pub tape : ℕ
  pub low : 1 ≤ tape
  pub high : tape ≤ 3
  pub line : ℕ
  pub within : line < symbol_count_at b tape + 3
  pub number : o ≡ lines_before b.symbols (tape - 1) + line
  pub element : e ≡ first_element b tape + line

enters : (e f l m : ℕ) → Enter e l ≡ Enter f m → (e ≡ f) × (l ≡ m)
enters e f l m h = (cc, cc)

-- each tape has a cell
some_cells : (l : Limits) (t : ℕ) → 1 ≤ t → t ≤ 3 → 1 ≤ cells_in l t
some_cells l zero low high = absurd (omega arith)
some_cells l (suc zero) low high = omega arith
some_cells l (suc (suc zero)) low high = omega arith
some_cells l (suc (suc (suc zero))) low high = omega arith
some_cells l (suc (suc (suc (suc t)))) low high = absurd (omega arith)

module _ (b : Layout) (kept : IsLayoutKept b) where
  abbrev before : ℕ → ℕ
  before t = lines_before b.symbols t

  next : (t : ℕ) → t < 3 → before (suc t) ≡ before t + symbol_count_at b (suc t) + 3
  next t low = lines_next b.symbols t (let h = kept.tapes in omega arith)

  -- where a command leads
  place_of : (t m o : ℕ) → 1 ≤ t → t ≤ 3 → m < symbol_count_at b t + 3 → o ≡ before (t - 1) + m
      → command_place b o ≡ Enter (first_element b t + m) west
  place_of zero m o low high within is = absurd (omega arith)
  place_of (suc zero) m o low high within is =
      let one = next 0 (omega arith) in
      let test = below o (before 1) (omega arith) in
      let place : o - before 0 ≡ m = omega arith in
      rw (test, place) refl
  place_of (suc (suc zero)) m o low high within is =
      let one = next 0 (omega arith) in
      let two = next 1 (omega arith) in
      let first = not_below o (before 1) (omega arith) in
      let test = below o (before 2) (omega arith) in
      let place : o - before 1 ≡ m = omega arith in
      rw (first, test, place) refl
  place_of (suc (suc (suc zero))) m o low high within is =
      let one = next 0 (omega arith) in
      let two = next 1 (omega arith) in
      let first = not_below o (before 1) (omega arith) in
      let test = not_below o (before 2) (omega arith) in
      let place : o - before 2 ≡ m = omega arith in
      rw (first, test, place) refl
  place_of (suc (suc (suc (suc t)))) m o low high within is = absurd (omega arith)

  -- the tape and the place of an output line
  pub record IsLineTo (o : ℕ) : Type 0 where
    pub tape : ℕ
    pub low : 1 ≤ tape
    pub high : tape ≤ 3
    pub line : ℕ
    pub within : line < symbol_count_at b tape + 3
    pub number : o ≡ before (tape - 1) + line

  line_to : (o : ℕ) → 1 ≤ o → o < lines_at b → IsLineTo o
  line_to o low high =
      let one = next 0 (omega arith) in
      let two = next 1 (omega arith) in
      let three = next 2 (omega arith) in
      elim (cases_lt o (before 1)) [
        | inl less ↦ record {
          tape = 1;
          low = omega arith;
          high = omega arith;
          line = o - before 0;
          within = omega arith;
          number = omega arith;
        }
        | inr more ↦
            (elim (cases_lt o (before 2)) [
              | inl less ↦ record {
                tape = 2;
                low = omega arith;
                high = omega arith;
                line = o - before 1;
                within = omega arith;
                number = omega arith;
              }
              | inr again ↦ record {
                tape = 3;
                low = omega arith;
                high = omega arith;
                line = o - before 2;
                within = omega arith;
                number = omega arith;
              }
            ])
      ]

  -- a tape's line is one of the control's to tapes
  line_within : (t m : ℕ) → 1 ≤ t → t ≤ 3 → m < symbol_count_at b t + 3
      → (1 ≤ before (t - 1) + m) × (before (t - 1) + m < lines_at b)
  line_within zero m low high within = absurd (omega arith)
  line_within (suc zero) m low high within =
      let one = next 0 (omega arith) in
      let two = next 1 (omega arith) in
      let three = next 2 (omega arith) in
      (omega arith, omega arith)
  line_within (suc (suc zero)) m low high within =
      let one = next 0 (omega arith) in
      let two = next 1 (omega arith) in
      let three = next 2 (omega arith) in
      (omega arith, omega arith)
  line_within (suc (suc (suc zero))) m low high within =
      let one = next 0 (omega arith) in
      let two = next 1 (omega arith) in
      let three = next 2 (omega arith) in
      (omega arith, omega arith)
  line_within (suc (suc (suc (suc t)))) m low high within = absurd (omega arith)

  command_is : (e o : ℕ) → ((1 ≤ o) × (o < lines_at b) × (command_place b o ≡ Enter e west)) ↔ IsCommandOf b e o
  command_is e o = (there, back)
    where
      there : (1 ≤ o) × (o < lines_at b) × (command_place b o ≡ Enter e west) → IsCommandOf b e o
      there leads =
          let to = line_to o leads.0 leads.1 in
          let same = sym (place_of to.tape to.line o to.low to.high to.within to.number) ∙ leads.2 in
          let element : first_element b to.tape + to.line ≡ e = (enters _ _ _ _ same).0 in
          record {
            tape = to.tape;
            low = to.low;
            high = to.high;
            line = to.line;
            within = to.within;
            number = to.number;
            element = sym element;
          }

      back : IsCommandOf b e o → (1 ≤ o) × (o < lines_at b) × (command_place b o ≡ Enter e west)
      back by =
          let lines = line_within by.tape by.line by.low by.high by.within in
          let number = by.number in (
            omega arith,
            omega arith,
            place_of by.tape by.line o by.low by.high by.within by.number ∙ ap (λ n. Enter n west) (sym by.element),
          )

  -- tapes lie one after another
  first_rises : (t u : ℕ) → 1 ≤ t → t ≤ u → first_element b t ≤ first_element b u
  first_rises zero u low less = absurd (omega arith)
  first_rises (suc t) u low less =
      elim (cases_lt (suc t) u) [
        | inl below ↦ (let h = later_tape b (suc t) u (omega arith) below in let e : first_element b (suc (suc t))
            ≡ first_element b (suc t) + cells_in
            b.limits (suc t) * cell_size (symbol_count_at b (suc t)) = refl in omega arith)
        | inr above ↦ (let same : suc t ≡ u = omega arith in subst (λ n. first_element b (suc t) ≤ first_element b n)
            same (omega arith))
      ]

  -- no command leads to an element before the tapes that are left
  pub no_command : (e t : ℕ) → 1 ≤ t → ((o : ℕ) → (by : IsCommandOf b e o) → t ≤ by.tape) → e < first_element b t
      → IsCommandTo b e None
  no_command e t low later less o = (
    λ h. absurd (let g : ◌≡◌ {A = Option ℕ} None (Some o) = h in cc),
    λ leads. absurd (
        let by = (command_is e o).0 leads in
        let rises = first_rises t by.tape low (later o by) in
        let is = by.element in
        omega arith),
  )

  -- nor where none is left
  pub no_tape : (e t : ℕ) → 4 ≤ t → ((o : ℕ) → (by : IsCommandOf b e o) → t ≤ by.tape) → IsCommandTo b e None
  no_tape e t over later o = (
    λ h. absurd (let g : ◌≡◌ {A = Option ℕ} None (Some o) = h in cc),
    λ leads. absurd (
        let by = (command_is e o).0 leads in
        let up = later o by in
        let high = by.high in
        omega arith),
  )

  -- a tape's bank is longer than its commands
  row_long : (t : ℕ) → 1 ≤ t → t ≤ 3 → 1 ≤ symbol_count_at b t
      → symbol_count_at b t + 3 ≤ cells_in b.limits t * cell_size (symbol_count_at b t)
  row_long t low high some =
      let cells : 1 ≤ cells_in b.limits t = some_cells b.limits t low high in
      let one : 1 * cell_size (symbol_count_at b t) ≤ cells_in b.limits t * cell_size (symbol_count_at b t) =
      mul-le-mul_right (cell_size (symbol_count_at b t)) cells in
      let two : (2 * 1) * (2 * symbol_count_at b t + 8 + 1) ≤ (2 * symbol_count_at b t)
      * (2 * symbol_count_at b t + 8 + 1) = mul-le-mul_right (2 * symbol_count_at b t + 8 +
      1) (omega arith) in
      omega arith

  -- where the next tape begins
  first_next : (t : ℕ) → 1 ≤ t → first_element b (suc t) ≡ first_element b t
      + cells_in b.limits t * cell_size (symbol_count_at b t)
  first_next zero low = absurd (omega arith)
  first_next (suc t) low = refl

  -- this tape's command leads there
  pub one_command : (e t first lines : ℕ) → 1 ≤ t → t ≤ 3 → 1 ≤ symbol_count_at b t → first ≡ first_element b t
      → lines ≡ before (t - 1)
      → ((o : ℕ) → (by : IsCommandOf b e o) → t ≤ by.tape) → first ≤ e → e - first < symbol_count_at b t + 3
      → IsCommandTo b e (Some (lines + (e - first)))
  one_command e t first lines low high some first_is lines_is later least most o = (
    λ h. (
        let number : lines + (e - first) ≡ o = same_Some (lines + (e - first)) o h in
        (command_is e o).1 (record {
          tape = t;
          low = low;
          high = high;
          line = e - first;
          within = most;
          number = omega arith;
          element = omega arith;
        })),
    λ leads. (
        let by = (command_is e o).0 leads in
        ap Some (same_number by)),
  )
    where
      same_number : (by : IsCommandOf b e o) → lines + (e - first) ≡ o
      same_number by =
          elim (cases_lt t by.tape) [
            | inl above ↦ absurd (
                let h = first_rises (suc t) by.tape (omega arith) above in
                let long = row_long t low high some in
                let is = by.element in
                let up : first_element b (suc t) ≡ first_element b t
                + cells_in b.limits t * cell_size (symbol_count_at b t) = first_next t low in
                omega arith)
            | inr below ↦ (
                let same : by.tape ≡ t = (let h = later o by in omega arith) in
                let element : e ≡ first_element b t + by.line = subst (λ n. e ≡ first_element b n + by.line) same
                by.element in
                let number : o ≡ before (t - 1) + by.line = subst (λ n. o ≡ before (n - 1) + by.line) same by.number in
                omega arith)
          ]

  pub bottom_within : (q : ℕ) → q < b.states → q * (lines_at b + 1) + lines_at b < elements_of b
  bottom_within q low =
      let h : (q + 1) * (lines_at b + 1) ≤ b.states * (lines_at b + 1) =
      mul-le-mul_right (lines_at b + 1) (omega arith) in
      omega arith

-- ---- the search

-- a test that fails at each element
pub position_never : {X : Type 0} (p : X → Bool) (xs : List X)
    → ((k : ℕ) (x : X) → k < length xs → slice_get xs k ≡ Some x → p x ≡ false) → position p
    xs ≡ None
position_never p [] never = refl
position_never p (x ∷ xs) never =
    let n : ℕ = length (x ∷ xs) in
    let is = position_or_len_is p (x ∷ xs) n x (omega arith) (λ k low. never k _ low
    (slice_get-get_or (x ∷ xs) k x low)) (λ low. absurd (omega arith)) in
    let test = not_below n n (omega arith) in
    rw (is, test) refl

-- two places that differ
pair_differs : (e f i j : ℕ) → (e ≡ f → i ≡ j → ⊥) → (e == f && i == j) ≡ false
pair_differs e f i j other = grind (arith, nat_tests)

differs : (p q : Place) → (p ≡ q → ⊥) → same_place p q ≡ false
differs (Enter e i) (Enter f j) other = pair_differs e f i j (λ one two. other (λ k. Enter (one k) (two k)))
differs (Enter e i) (Left f j) other = refl
differs (Left e i) (Enter f j) other = refl
differs (Left e i) (Left f j) other = pair_differs e f i j (λ one two. other (λ k. Left (one k) (two k)))

pair_same : (e i : ℕ) → (e == e && i == i) ≡ true
pair_same e i = grind (arith, nat_tests)

same : (p : Place) → same_place p p ≡ true
same (Enter e i) = pair_same e i
same (Left e i) = pair_same e i

-- the search by the list's elements
module _ (b : Layout) (c : Config) (xs : List (Option (ℕ × ℕ))) (xs_are : xs ≡ b.firsts) where
  -- none of the first k is sent
  abbrev pub AreUnsent : ℕ → Type 0
  AreUnsent k = (j : ℕ) (g : Option (ℕ × ℕ)) → j < k → slice_get b.firsts j ≡ Some g → is_sent b c g ≡ false

  has : (k : ℕ) (d : Option (ℕ × ℕ)) → k < length xs → slice_get b.firsts k ≡ Some (slice_index_or xs k d)
  has k d low = subst (λ ys. slice_get ys k ≡ Some (slice_index_or xs k d)) xs_are (slice_get-get_or xs k d low)

  -- the state of the machine is the first whose first command is sent
  pub first_sent : (k : ℕ) (d : Option (ℕ × ℕ)) → k < length xs → is_sent b c (slice_index_or xs k d) ≡ true
      → AreUnsent k → Some k ≡ moment_at b c
  first_sent k d low holds never = sym (position_at (is_sent b c) b.firsts k (slice_index_or xs k d) (has k d low) holds
      never)

  pub next_unsent : (k : ℕ) (d : Option (ℕ × ℕ)) → k < length xs → is_sent b c (slice_index_or xs k d) ≡ false
      → AreUnsent k → AreUnsent (k + 1)
  next_unsent k d low fails never j g less here =
      elim (cases_lt j k) [
        | inl before ↦ never j g before here
        | inr after ↦
            (let same_k : j ≡ k = omega arith in
            let there : slice_get b.firsts k ≡ Some g = subst (λ n. slice_get b.firsts n ≡ Some g) same_k here in
            let is : slice_index_or xs k d ≡ g = same_Some _ _ (sym (has k d low) ∙ there) in
            subst (λ x. is_sent b c x ≡ false) is fails)
      ]

  pub none_left : (k : ℕ) → length xs ≤ k → AreUnsent k → None ≡ moment_at b c
  none_left k over never = sym (position_never (is_sent b c) b.firsts
      (λ j g low here. never j g (let e : length xs ≡ length b.firsts = ap length xs_are
      in omega arith) here))

none_sent : (b : Layout) (c : Config) → ((j : ℕ) (g : Option (ℕ × ℕ)) → j < length b.firsts
    → slice_get b.firsts j ≡ Some g → is_sent b c g ≡ false)
    → None ≡ moment_at b c
none_sent b c never = sym (position_never (is_sent b c) b.firsts never)

module _ (b : Layout) (c : Config) where
  -- each command leads to the west of an element
  command_west : (o : ℕ) → (x : ℕ) × (command_place b o ≡ Enter x west)
  command_west o =
      elim (cases_lt o (lines_before b.symbols 1)) [
        | inl less ↦ (
          first_element b 1 + (o - lines_before b.symbols 0),
          let test = below o (lines_before b.symbols 1) less in rw test refl,
        )
        | inr more ↦
            (let first = not_below o (lines_before b.symbols 1) more in
            elim (cases_lt o (lines_before b.symbols 2)) [
              | inl less ↦ (
                first_element b 2 + (o - lines_before b.symbols 1),
                let test = below o (lines_before b.symbols 2) less in rw (first, test) refl,
              )
              | inr again ↦ (
                first_element b 3 + (o - lines_before b.symbols 2),
                let test = not_below o (lines_before b.symbols 2) again in rw (
                  first,
                  test,
                ) refl,
              )
            ])
      ]

  -- the command's place is another
  off_place : (f : ℕ × ℕ) → (c.place ≡ command_place b f.1 → ⊥) → is_sent b c (Some f) ≡ false
  off_place f other = let test = differs c.place (command_place b f.1) other in rw test refl

  -- a signal that has left is at no command
  left_command : (e l : ℕ) → c.place ≡ Left e l → (f : ℕ × ℕ) → is_sent b c (Some f) ≡ false
  left_command e l at f = off_place f (λ here. let to = command_west f.1 in let h : Left e l ≡ Enter to.0 west = sym at
      ∙ here ∙ to.1 in absurd (cc))

  -- a signal that has not left is not at the end
  enters_not : (e l : ℕ) → c.place ≡ Enter e l → is_sent b c None ≡ false
  enters_not e l at = differs c.place (end_place b) (λ here. let h : Enter e l ≡ end_place b = sym at
      ∙ here in absurd (cc))

  pub off_west : (e l : ℕ) → c.place ≡ Enter e l → l ≢ west → None ≡ moment_at b c
  off_west e l at other = none_sent b c (λ j g low has. by g)
    where
      by : (g : Option (ℕ × ℕ)) → is_sent b c g ≡ false
      by None = enters_not e l at
      by (Some f) = off_place f (λ here. let to = command_west f.1 in other
          (enters e to.0 l west (sym at ∙ here ∙ to.1)).1)

  pub off_commands : (e : ℕ) → c.place ≡ Enter e west → IsLayoutKept b → IsCommandTo b e None → None ≡ moment_at b c
  off_commands e at kept none = none_sent b c (λ j g low has. by g (
      let within = AllWithin-from_all (IsFirstWithin b.states (lines_at b)) b.firsts kept.firsts_within j g
      (omega arith) low in
      subst (IsFirstWithin b.states (lines_at b)) (get_or_from_slice_get b.firsts j g g has) within))
    where
      by : (g : Option (ℕ × ℕ)) → IsFirstWithin b.states (lines_at b) g → is_sent b c g ≡ false
      by None within = enters_not e west at
      by (Some f) within = off_place f (λ here. absurd (let h : ◌≡◌ {A = Option ℕ} None (Some f.1) = (none f.1).1
          (within.1, within.2, sym here ∙ at) in cc))

  pub off_end : (e l : ℕ) → c.place ≡ Left e l → (Left e l ≡ end_place b → ⊥) → None ≡ moment_at b c
  off_end e l at other = none_sent b c (λ j g low has. by g)
    where
      by : (g : Option (ℕ × ℕ)) → is_sent b c g ≡ false
      by None = differs c.place (end_place b) (λ here. other (sym at ∙ here))
      by (Some f) = left_command e l at f

  -- at the end only a state without a first command is sent
  pub ended_is : c.place ≡ end_place b → (f : Option (ℕ × ℕ)) → is_sent b c f ≡ is_none f
  ended_is at None = subst (λ p. same_place c.place p ≡ true) at (same c.place)
  ended_is at (Some f) = left_command _ _ at f

-- The first fault of a text, line by line.
use Rattle.std.specs.Prelude.{◌≡◌, ◌≢◌, ℕ, ◌+◌, ◌-◌, ◌==◌, ◌<◌, ◌≤◌, nat_lt, ◌||◌, ◌&&◌, Bool, true, false, List}
use Rattle.std.specs.Prelude.{length}
use Rattle.std.specs.Prelude.{Some, None, if◌then◌else◌, refl}
use Rattle.std.proofs.Common.{arith, sym, subst, ◌∙◌, inl, inr}
use Rattle.std.proofs.lemmas.Bool.{cases_lt}
use Rattle.std.proofs.lemmas.Bool.Decides.{eqb_tells, nat_tests}
use Rattle.bn_network_text.specs.Lines.{Page, header_lines}
use Rattle.bn_network_text.specs.Faults.{said_at, is_title, count_fault, count_by, count_in, port_fault}
use Rattle.bn_network_text.specs.Faults.{start_in, end_in, place_in, module_fault, last_fault, later_fault, line_fault}
use Rattle.bn_network_text.specs.Drafting.{IsFirstOf, IsRefusalAt}
use Rattle.bn_network_text.specs.declared.shape.Shape.{Shape}
use Rattle.bn_network_text.specs.declared.fault.NetworkFault.{NetworkFault}
use Rattle.bn_network_text.specs.declared.fault.NetworkFault.TheVariants.{Syntax}
use Rattle.bn_network_text.specs.declared.fault.NetworkRefusal.{NetworkRefusal}
use Rattle.bn_network_text.specs.declared.fault.NetworkRefusal.TheVariants.{Line, NoMemory}

module _ (shapes : List Shape) (page : Page) where
  -- no line before this one has a fault
  pub AreClear : ℕ → Type 0
  AreClear n = (k : ℕ) → k < n → line_fault shapes page k ≡ None

  pub clear_none : AreClear 0
  unfolding AreClear
  clear_none k low = absurd (omega arith)

  pub clear_more : (n : ℕ) → line_fault shapes page n ≡ None → AreClear n → AreClear (n + 1)
  unfolding AreClear
  clear_more n none clear k low =
      elim (eqb_tells k n) [
        | inl same ↦ subst (λ m. line_fault shapes page m ≡ None) (sym same.1) none
        | inr apart ↦ clear k (by_apart apart.1)
      ]
    where
      by_apart : k ≢ n → k < n
      by_apart apart = elim (cases_lt k n) [ inl less ↦ less | inr more ↦ absurd (apart (omega arith)) ]

  pub clear_first : (n line : ℕ) (fault : NetworkFault) (r : NetworkRefusal) → r ≡ Line line fault → line ≡ n + 1
      → line_fault shapes page n ≡ Some fault → AreClear n → IsFirstOf shapes page r
  unfolding AreClear
  clear_first n line fault r is counted has clear = subst (IsFirstOf shapes page) (sym is) (n, counted, has, clear)

  pub clear_first_fault : (n : ℕ) → AreClear n → (k : ℕ) → k < n → line_fault shapes page k ≡ None
  unfolding AreClear
  clear_first_fault n clear = clear

  pub clear_title : is_title (said_at page.says 0) ≡ true → AreClear 1
  clear_title title = clear_more 0 (rw title refl) clear_none

  pub clear_count : count_fault (count_by (said_at page.says 1)) ≡ None → AreClear 1 → AreClear 2
  clear_count none clear = clear_more 1 none clear

  pub clear_start : port_fault shapes page.says (start_in page.says) ≡ None → AreClear 2 → AreClear 3
  clear_start none clear = clear_more 2 none clear

  pub clear_end : port_fault shapes page.says (end_in page.says) ≡ None → AreClear 3 → AreClear 4
  clear_end none clear = clear_more 3 none clear

  pub clear_place : port_fault shapes page.says (place_in page.says) ≡ None → AreClear 4 → AreClear 5
  clear_place none clear = clear_more 4 none clear

  -- ---- the lines of modules

  not_header : (n k : ℕ) → k < 5 → ((n + 5) == k) ≡ false
  not_header n k low = grind (arith, nat_tests)

  at_later : (n : ℕ) → line_fault shapes page (n + 5) ≡ later_fault shapes page (n + 5)
  at_later n =
      rw (
        not_header n 0 (omega arith),
        not_header n 1 (omega arith),
        not_header n 2 (omega arith),
        not_header n 3 (omega arith),
        not_header n 4 (omega arith),
      ) refl

  pub at_module : (n : ℕ) → n < count_in page.says → line_fault shapes page (n + 5) ≡ module_fault shapes page.says n
  at_module n low =
      let number : (n + 5) - header_lines ≡ n = omega arith in
      let test : nat_lt n (count_in page.says) ≡ true = grind (arith, nat_tests) in
      at_later n ∙ by_number ((n + 5) - header_lines) number test
    where
      by_number : (k : ℕ) → k ≡ n → nat_lt n (count_in page.says) ≡ true
          → (if nat_lt k (count_in page.says) then module_fault shapes page.says k else last_fault page (n + 5))
          ≡ module_fault shapes page.says n
      by_number k same test = rw (same, test) refl

  pub at_last : (n : ℕ) → count_in page.says ≤ n → line_fault shapes page (n + 5) ≡ last_fault page (n + 5)
  at_last n high =
      let number : (n + 5) - header_lines ≡ n = omega arith in
      let test : nat_lt n (count_in page.says) ≡ false = grind (arith, nat_tests) in
      at_later n ∙ by_number ((n + 5) - header_lines) number test
    where
      by_number : (k : ℕ) → k ≡ n → nat_lt n (count_in page.says) ≡ false
          → (if nat_lt k (count_in page.says) then module_fault shapes page.says k else last_fault page (n + 5))
          ≡ last_fault page (n + 5)
      by_number k same test = rw (same, test) refl

  pub clear_header : ((n : ℕ) → n < 5 → line_fault shapes page n ≡ None) → AreClear 5
  unfolding AreClear
  clear_header h = h

  pub clear_module : (n : ℕ) → n < count_in page.says → module_fault shapes page.says n ≡ None → AreClear (n + 5)
      → AreClear (n + 1 + 5)
  clear_module n low none clear =
      let sum : n + 5 + 1 ≡ n + 1 + 5 = omega arith in
      subst AreClear sum (clear_more (n + 5) (at_module n low ∙ none) clear)

  -- ---- the line after them

  abbrev pub has_more : Bool
  has_more = nat_lt (count_in page.says + 5) (length page.says) || page.more

  same_number : (n : ℕ) → (n == n) ≡ true
  same_number n = grind (arith, nat_tests)

  at_end : (b : Bool) → has_more ≡ b → last_fault page (count_in page.says + 5) ≡ (if b then Some Syntax else None)
  at_end b is =
      let sum : header_lines + count_in page.says ≡ count_in page.says + 5 = omega arith in
      by_number (header_lines + count_in page.says) sum
    where
      by_number : (k : ℕ) → k ≡ count_in page.says + 5
          → (if (count_in page.says + 5 == k) && has_more then Some Syntax else None)
          ≡ (if b then Some Syntax else None)
      by_number k same = rw (same, same_number (count_in page.says + 5), is) refl

  pub last_first : (line : ℕ) (r : NetworkRefusal) → has_more ≡ true → line ≡ count_in page.says + 5 + 1
      → r ≡ Line line Syntax → AreClear (count_in page.says + 5) → IsFirstOf shapes page r
  last_first line r more counted is clear =
      clear_first (count_in page.says + 5) line Syntax r is counted
      (at_last (count_in page.says) (omega arith) ∙ at_end true more) clear

  pub last_fault_at : has_more ≡ true → line_fault shapes page (count_in page.says + 5) ≡ Some Syntax
  last_fault_at more = at_last (count_in page.says) (omega arith) ∙ at_end true more

  beyond : (n : ℕ) → count_in page.says < n → last_fault page (n + 5) ≡ None
  beyond n high =
      let other : (n + 5 == header_lines + count_in page.says) ≡ false = grind (arith, nat_tests) in
      rw other refl

  pub all_clear : has_more ≡ false → AreClear (count_in page.says + 5) → (n : ℕ) → line_fault shapes page n ≡ None
  unfolding AreClear
  all_clear none clear n =
      elim (cases_lt n (count_in page.says + 5)) [
        | inl low ↦ clear n low
        | inr high ↦
            (let sum : (n - 5) + 5 ≡ n = omega arith in
            subst (λ k. line_fault shapes page k ≡ None) sum (by_place (n - 5) (omega arith)))
      ]
    where
      by_place : (k : ℕ) → count_in page.says ≤ k → line_fault shapes page (k + 5) ≡ None
      by_place k high =
          at_last k high ∙ elim (eqb_tells k (count_in page.says)) [
            | inl same ↦ (subst (λ m. last_fault page (m + 5) ≡ None) (sym same.1) (at_end false none))
            | inr apart ↦ beyond k (elim (cases_lt (count_in page.says) k)
                [ inl less ↦ less | inr more ↦ absurd (apart.1 (omega arith)) ])
          ]

  pub module_first : (n : ℕ) (r : NetworkRefusal) → n < count_in page.says
      → IsRefusalAt (module_fault shapes page.says n) (n + header_lines + 1) r → AreClear (n + 5)
      → IsFirstOf shapes page r
  module_first n NoMemory low h clear = tt
  module_first n (Line line fault) low h clear =
      clear_first (n + 5) line fault (Line line fault) refl h.0 (at_module n low ∙ h.1) clear

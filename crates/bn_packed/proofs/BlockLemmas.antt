-- Numbers of lines in blocks, and ends that stand by them.
use Rattle.std.specs.Prelude.{◌≡◌, ◌≢◌, ◌==◌, true, false, ℕ, ◌+◌, ◌*◌, ◌/◌, ◌%◌, ◌<◌, ◌≤◌, List, length, map}
use Rattle.std.specs.Prelude.{replicate, Option, Some, None, slice_get, slice_set, option_and_then, bit_xor, refl, ◌⊎◌}
use Rattle.std.proofs.Common.{zero, suc, get_or, arith, sym, ap, ◌∙◌, inl, inr, length-set}
use Rattle.std.proofs.lemmas.Bool.Decides.{eqb_tells}
use Rattle.std.proofs.lemmas.Nat.{xor_shr, xor_mod}
use Rattle.std.proofs.lemmas.List.{length-map, length-replicate, get_or-set_same, get_or-set_other, get_or-replicate}
use Rattle.std.proofs.lemmas.List.FromFn.{length-map-range_with_len, get_or-map-range_with_len, fill_by_all}
use Rattle.std.proofs.lemmas.Option.{slice_get-get_or}
use lib.Bits.{xor_zero_r}
use Rattle.bn_circuits.proofs.StepLemmas.{same_lines, slice_get-set_same, slice_get-set_other}
use Rattle.bn_circuits.specs.declared.line.Line.{Line}
use Rattle.bn_packed.specs.Numbers.{line_of, number_of}
use Rattle.bn_element.specs.declared.rotary.Rotary.{Rotary}
use Rattle.bn_circuits.specs.Parts.{Parts}
use Rattle.bn_packed.specs.Ends.{nth_line, ahead, behind, IsLineBelow, EndList, AreEnds, HasEnds, IsWiring, end_at}
use Rattle.bn_packed.specs.Ends.{ends_in, numbers_for, targets_by, sources_by, net_of}
use Rattle.bn_packed.proofs.AcrossLemmas.{same_element, end_read, read_end, ahead-AreEnds, behind-AreEnds}
use Rattle.bn_packed.proofs.EndLemmas.{line_by_number, length-net}

-- ---- numbers

pub number_again : (n : ℕ) → number_of (line_of n) ≡ n
number_again n = omega arith

pub line_again : (l : Line) → l.line < 4 → line_of (number_of l) ≡ l
line_again l low = same_lines (line_of (number_of l)) l (omega arith) (omega arith)

-- of a line element by element
pub nth_again : (l : Line) (i n : ℕ) → l ≡ nth_line i → n ≡ number_of l → line_of n ≡ nth_line i
nth_again l i n is at = ap line_of (at ∙ ap number_of is) ∙ line_again (nth_line i) (omega arith)

-- of so many elements
pub number_low : (k : ℕ) (l : Line) → IsLineBelow k l → number_of l < numbers_for k
number_low k l below = let e = below.element in let low = below.line in omega arith

-- `^` with whole rows of a block leaves the element
pub over_element : (n k : ℕ) → k % 1024 ≡ 0 → k / 1024 / 4 ≡ 0 → (line_of (bit_xor n k)).element ≡ (line_of n).element
over_element n k whole low =
    let row : bit_xor n k / 1024 / 4 ≡ n / 1024 / 4 = ap (λ x. x / 4) (xor_shr n k 10)
    ∙ same_element (n / 1024) (k / 1024) low in
    let column : bit_xor n k % 1024 ≡ n % 1024 = xor_mod n k 10 ∙ ap (bit_xor (n % 1024)) whole
    ∙ xor_zero_r (n % 1024) in
    λ i. 1024 * row i + column i

pub over_line : (n k : ℕ) → (line_of (bit_xor n k)).line ≡ bit_xor (line_of n).line (k / 1024 % 4)
over_line n k = ap (λ x. x % 4) (xor_shr n k 10) ∙ xor_mod (n / 1024) (k / 1024) 2

-- ---- ends by numbers

pub length-ends_in : (cells : List (Option Line)) (n : ℕ) → length (ends_in cells n) ≡ 4 * n
length-ends_in cells n = length-map-range_with_len (λ i. end_at cells (number_of (nth_line i))) 0 (4 * n)

get_or-ends_in : (cells : List (Option Line)) (n i : ℕ) → i < 4 * n
    → get_or (ends_in cells n) i None ≡ end_at cells (number_of (nth_line i))
get_or-ends_in cells n i low = get_or-map-range_with_len (λ j. end_at cells (number_of (nth_line j))) 0 (4 * n) i i None
    low (omega arith)

pub read_in : (cells : List (Option Line)) (n i : ℕ) → i < 4 * n
    → slice_get (ends_in cells n) i ≡ Some (end_at cells (number_of (nth_line i)))
read_in cells n i low =
    let there : i < length (ends_in cells n) = omega (arith, length-ends_in cells n) in
    slice_get-get_or (ends_in cells n) i None there ∙ ap Some (get_or-ends_in cells n i low)

-- of a line
pub read_line : (cells : List (Option Line)) (n : ℕ) (l : Line) (o : Option Line) → IsLineBelow n l
    → slice_get cells (number_of l) ≡ Some o
    → slice_get (ends_in cells n) (4 * l.element + l.line) ≡ Some o
read_line cells n l o below has =
    let low : 4 * l.element + l.line < 4 * n = (let e = below.element in let side = below.line in omega arith) in
    read_in cells n (4 * l.element + l.line) low
    ∙ ap (λ (m : Line). Some (end_at cells (number_of m))) (line_by_number l (4 * l.element + l.line) below.line refl)
    ∙ ap Some (end_read cells (number_of l) o has)

-- loose ones
none_at : (m j : ℕ) → end_at (replicate m None) j ≡ None
none_at zero j = refl
none_at (suc m) zero = refl
none_at (suc m) (suc j) = none_at m j

pub ends_in-loose : (cells : List (Option Line)) (m n : ℕ) → cells ≡ replicate m None
    → ends_in cells n ≡ replicate (4 * n) None
ends_in-loose cells m n is =
    ap (λ xs. ends_in xs n) is
    ∙ sym (fill_by_all (λ i. end_at (replicate m None) (number_of (nth_line i)))
    (replicate {A = Option Line} (4 * n) None) (4 * n) None
    (length-replicate {A = Option Line} (4 * n) None)
    (λ i low. get_or-replicate {A = Option Line} (4 * n) i None None low ∙ sym (none_at m (number_of (nth_line i)))))

-- one that is written
pub ends_in-set : (cells : List (Option Line)) (n : ℕ) (l : Line) (o : Option Line) → IsLineBelow n l
    → number_of l < length cells
    → ends_in (slice_set cells (number_of l) o) n ≡ slice_set (ends_in cells n) (4 * l.element + l.line) o
ends_in-set cells n l o below within =
    sym (fill_by_all (λ i. end_at (slice_set cells (number_of l) o) (number_of (nth_line i)))
    (slice_set (ends_in cells n) p o) (4 * n) None
    (length-set (ends_in cells n) p o ∙ length-ends_in cells n) (λ i low. each i low (eqb_tells i p)))
  where
    p : ℕ
    p = 4 * l.element + l.line

    low_p : p < 4 * n
    low_p = let e = below.element in let side = below.line in omega arith

    here : nth_line p ≡ l
    here = line_by_number l p below.line refl

    each : (i : ℕ) → i < 4 * n → (((i == p) ≡ true) × (i ≡ p)) ⊎ (((i == p) ≡ false) × (i ≢ p))
        → get_or (slice_set (ends_in cells n) p o) i None ≡ end_at (slice_set cells (number_of l) o)
        (number_of (nth_line i))
    each i low (inl same) =
        let long : p < length (ends_in cells n) = omega (arith, low_p, length-ends_in cells n) in
        let written = slice_get-set_same cells (number_of l) o within in
        ap (λ x. get_or (slice_set (ends_in cells n) p o) x None) same.1
        ∙ get_or-set_same (ends_in cells n) p o None long
        ∙ sym (end_read (slice_set cells (number_of l) o) (number_of l) o written)
        ∙ ap (λ m. end_at (slice_set cells (number_of l) o) (number_of m)) (sym here ∙ ap nth_line (sym same.1))
    each i low (inr other) =
        get_or-set_other (ends_in cells n) p i o None other.1 ∙ get_or-ends_in cells n i low
        ∙ ap (option_and_then (λ x. x)) (sym (slice_get-set_other cells (number_of l) (number_of (nth_line i)) o
        (apart i other.1)))
      where
        apart : (i : ℕ) → (i ≡ p → ⊥) → number_of (nth_line i) ≡ number_of l → ⊥
        apart i off is = off (let low = below.line in omega arith)

-- what cells tell of each line that is there
pub in-HasEnds : (f : Line → Option Line) (n k : ℕ) (ends cells : List (Option Line)) → AreEnds f (4 * n) ends → k ≡ n
    → ends ≡ ends_in cells k
    → numbers_for k ≤ length cells → HasEnds f n cells
in-HasEnds f n k ends cells are same is room = record { each = each }
  where
    each : (l : Line) → IsLineBelow n l → slice_get cells (number_of l) ≡ Some (f l)
    each l below =
        let i : ℕ = 4 * l.element + l.line in
        let low : 4 * l.element + l.line < 4 * n = (let e = below.element in let side = below.line in omega arith) in
        let here = line_by_number l (4 * l.element + l.line) below.line refl in
        let number = number_low n l below in
        let within : number_of l < length cells = omega (arith, ap numbers_for same) in
        let told : Some (end_at cells (number_of (nth_line (4 * l.element + l.line))))
        ≡ Some (f (nth_line (4 * l.element + l.line))) =
        sym (read_in cells n (4 * l.element + l.line) low) ∙ ap (λ xs. slice_get xs (4 * l.element + l.line))
        (ap (ends_in cells) (sym same) ∙ sym is)
        ∙ are.each (4 * l.element + l.line) low in
        read_end cells (number_of l) within ∙ ap (λ (m : Line). Some (end_at cells (number_of m))) (sym here) ∙ told
        ∙ ap (λ (m : Line). Some (f m)) here

-- ---- what a wiring keeps

module _ {X : Type 0} (tells : X → Option Line) (e s : EndList) (now : Parts Rotary) (cells : List X)
    (wiring : IsWiring (targets_by e) (sources_by s))
    (is : net_of (targets_by e) ≡ now) where
  long : length (map tells cells) ≡ length cells
  long = length-map cells tells

  pub ahead-HasEnds : e.ends ≡ ends_in (map tells cells) e.elements → numbers_for e.elements ≤ length cells
      → HasEnds (ahead now.wires) (length now.elements) (map tells cells)
  ahead-HasEnds told room =
      in-HasEnds (ahead now.wires) (length now.elements) e.elements e.ends (map tells cells)
      (ahead-AreEnds e s now e.ends wiring is refl)
      (sym (length-net (targets_by e) now is)) told (omega (arith, long))

  pub behind-HasEnds : s.ends ≡ ends_in (map tells cells) s.elements → numbers_for s.elements ≤ length cells
      → HasEnds (behind now.wires) (length now.elements) (map tells cells)
  behind-HasEnds told room =
      in-HasEnds (behind now.wires) (length now.elements) s.elements s.ends (map tells cells)
      (behind-AreEnds e s now s.ends wiring is refl)
      (wiring.same ∙ sym (length-net (targets_by e) now is)) told (omega (arith, long))

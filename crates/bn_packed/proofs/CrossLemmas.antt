-- Crossings by the numbers of lines: an output line goes by the number of the input line across from it, which is the
-- same where the signal goes straight, and else differs in the two bits that tell the line.
use Rattle.std.specs.Prelude.{◌≡◌, ℕ, ◌-◌, ◌/◌, ◌%◌, ◌<◌, List, Some, slice_get, slice_set, bit_xor, refl}
use Rattle.std.proofs.Common.{zero, suc, arith, sym, ap, ◌∙◌}
use Rattle.bn_circuits.proofs.RotaryNetLemmas.{set_same}
use Rattle.bn_circuits.specs.declared.line.Line.{Line}
use Rattle.bn_packed.specs.Numbers.{line_of, number_of}
use Rattle.bn_packed.specs.Ends.{opposite}
use Rattle.bn_packed.proofs.AcrossLemmas.{xor_twice, across_low}
use Rattle.bn_packed.proofs.BlockLemmas.{over_element, over_line, line_again}
use Rattle.bn_packed.specs.Bars.{crossed, turned, crossed_back, HasCrossed, HasCrossedBack}

-- one of the four lines of an element
four : (P : ℕ → Type 0) → P 0 → P 1 → P 2 → P 3 → (l : ℕ) → l < 4 → P l
four P a b c d zero low = a
four P a b c d (suc zero) low = b
four P a b c d (suc (suc zero)) low = c
four P a b c d (suc (suc (suc zero))) low = d
four P a b c d (suc (suc (suc (suc l)))) low = absurd (omega arith)

pub upright_along : (bars : List ℕ) (n m : ℕ) → slice_get bars (line_of n).element ≡ Some 1 → n / 1024 % 2 ≡ 0 → m ≡ n
    → HasCrossed bars n bars m
upright_along bars n m has even is = record {
  same = ap (λ x. (line_of x).element) is;
  moved = by_line (line_of n).line (omega arith) (omega arith)
      ∙ ap (λ x. Some (bars, bit_xor (line_of x).line 2)) (sym is);
}
  where
    by_line : (l : ℕ) → l < 4 → l % 2 ≡ 0 → crossed bars (line_of n).element l ≡ Some (bars, bit_xor l 2)
    by_line = four (λ l. l % 2 ≡ 0 → crossed bars (line_of n).element l ≡ Some (bars, bit_xor l 2))
        (λ e. rw has (ap (λ x. Some (x, 2)) (set_same bars (line_of n).element 1 has)))
        (λ e. absurd cc)
        (λ e. rw has (ap (λ x. Some (x, 0)) (set_same bars (line_of n).element 1 has)))
        (λ e. absurd cc)

pub level_along : (bars : List ℕ) (n m : ℕ) → slice_get bars (line_of n).element ≡ Some 0 → n / 1024 % 2 ≡ 1 → m ≡ n
    → HasCrossed bars n bars m
level_along bars n m has odd is = record {
  same = ap (λ x. (line_of x).element) is;
  moved = by_line (line_of n).line (omega arith) (omega arith)
      ∙ ap (λ x. Some (bars, bit_xor (line_of x).line 2)) (sym is);
}
  where
    by_line : (l : ℕ) → l < 4 → l % 2 ≡ 1 → crossed bars (line_of n).element l ≡ Some (bars, bit_xor l 2)
    by_line = four (λ l. l % 2 ≡ 1 → crossed bars (line_of n).element l ≡ Some (bars, bit_xor l 2))
        (λ e. absurd cc)
        (λ e. rw has (ap (λ x. Some (x, 3)) (set_same bars (line_of n).element 0 has)))
        (λ e. absurd cc)
        (λ e. rw has (ap (λ x. Some (x, 1)) (set_same bars (line_of n).element 0 has)))

-- the bars after a turn
set_by : (bars after : List ℕ) (e q : ℕ) → slice_get bars e ≡ Some q → turned bars e ≡ Some after
    → slice_set bars e (1 - q) ≡ after
set_by bars after e q has turn = let h : Some (slice_set bars e (1 - q)) ≡ Some after = rw has at turn in cc

pub upright_across : (bars after : List ℕ) (n m : ℕ) → slice_get bars (line_of n).element ≡ Some 1 → n / 1024 % 2 ≡ 1
    → turned bars (line_of n).element ≡ Some after → m ≡ bit_xor n 3072
    → HasCrossed bars n after m
upright_across bars after n m has odd turn is = record {
  same = ap (λ x. (line_of x).element) is ∙ over_element n 3072 refl refl;
  moved = by_line (line_of n).line (omega arith) (omega arith)
      ∙ ap (λ x. Some (after, bit_xor x 2)) (sym (ap (λ x. (line_of x).line) is ∙ over_line n 3072));
}
  where
    written : slice_set bars (line_of n).element 0 ≡ after
    written = set_by bars after (line_of n).element 1 has turn

    by_line : (l : ℕ) → l < 4 → l % 2 ≡ 1 → crossed bars (line_of n).element l
        ≡ Some (after, bit_xor (bit_xor l (3072 / 1024 % 4)) 2)
    by_line = four (λ l. l % 2 ≡ 1 → crossed bars (line_of n).element l
        ≡ Some (after, bit_xor (bit_xor l (3072 / 1024 % 4)) 2))
        (λ e. absurd cc)
        (λ e. rw has (ap (λ x. Some (x, 0)) written))
        (λ e. absurd cc)
        (λ e. rw has (ap (λ x. Some (x, 2)) written))

pub level_across : (bars after : List ℕ) (n m : ℕ) → slice_get bars (line_of n).element ≡ Some 0 → n / 1024 % 2 ≡ 0
    → turned bars (line_of n).element ≡ Some after → m ≡ bit_xor n 1024
    → HasCrossed bars n after m
level_across bars after n m has even turn is = record {
  same = ap (λ x. (line_of x).element) is ∙ over_element n 1024 refl refl;
  moved = by_line (line_of n).line (omega arith) (omega arith)
      ∙ ap (λ x. Some (after, bit_xor x 2)) (sym (ap (λ x. (line_of x).line) is ∙ over_line n 1024));
}
  where
    written : slice_set bars (line_of n).element 1 ≡ after
    written = set_by bars after (line_of n).element 0 has turn

    by_line : (l : ℕ) → l < 4 → l % 2 ≡ 0 → crossed bars (line_of n).element l
        ≡ Some (after, bit_xor (bit_xor l (1024 / 1024 % 4)) 2)
    by_line = four (λ l. l % 2 ≡ 0 → crossed bars (line_of n).element l
        ≡ Some (after, bit_xor (bit_xor l (1024 / 1024 % 4)) 2))
        (λ e. rw has (ap (λ x. Some (x, 3)) written))
        (λ e. absurd cc)
        (λ e. rw has (ap (λ x. Some (x, 1)) written))
        (λ e. absurd cc)

pub back_upright_along : (bars : List ℕ) (n m : ℕ) → slice_get bars (line_of n).element ≡ Some 1 → n / 1024 % 2 ≡ 0
    → m ≡ n
    → HasCrossedBack bars n bars m
back_upright_along bars n m has par is = record {
  same = ap (λ x. (line_of x).element) is;
  moved = by_line (line_of n).line (omega arith) (omega arith) ∙ ap (λ x. Some (bars, (line_of x).line)) (sym is);
}
  where
    by_line : (l : ℕ) → l < 4 → l % 2 ≡ 0 → crossed_back bars (line_of n).element (bit_xor l 2) ≡ Some (bars, l)
    by_line = four (λ l. l % 2 ≡ 0 → crossed_back bars (line_of n).element (bit_xor l 2) ≡ Some (bars, l))
        (λ e. rw has (ap (λ x. Some (x, 0)) (set_same bars (line_of n).element 1 has)))
        (λ e. absurd cc)
        (λ e. rw has (ap (λ x. Some (x, 2)) (set_same bars (line_of n).element 1 has)))
        (λ e. absurd cc)

pub back_level_along : (bars : List ℕ) (n m : ℕ) → slice_get bars (line_of n).element ≡ Some 0 → n / 1024 % 2 ≡ 1
    → m ≡ n
    → HasCrossedBack bars n bars m
back_level_along bars n m has par is = record {
  same = ap (λ x. (line_of x).element) is;
  moved = by_line (line_of n).line (omega arith) (omega arith) ∙ ap (λ x. Some (bars, (line_of x).line)) (sym is);
}
  where
    by_line : (l : ℕ) → l < 4 → l % 2 ≡ 1 → crossed_back bars (line_of n).element (bit_xor l 2) ≡ Some (bars, l)
    by_line = four (λ l. l % 2 ≡ 1 → crossed_back bars (line_of n).element (bit_xor l 2) ≡ Some (bars, l))
        (λ e. absurd cc)
        (λ e. rw has (ap (λ x. Some (x, 1)) (set_same bars (line_of n).element 0 has)))
        (λ e. absurd cc)
        (λ e. rw has (ap (λ x. Some (x, 3)) (set_same bars (line_of n).element 0 has)))

pub back_upright_across : (bars after : List ℕ) (n m : ℕ) → slice_get bars (line_of n).element ≡ Some 1
    → n / 1024 % 2 ≡ 1 → turned bars (line_of n).element ≡ Some after → m ≡ bit_xor n 1024
    → HasCrossedBack bars n after m
back_upright_across bars after n m has par turn is = record {
  same = ap (λ x. (line_of x).element) is ∙ over_element n 1024 refl refl;
  moved = by_line (line_of n).line (omega arith) (omega arith)
      ∙ ap (λ x. Some (after, x)) (sym (ap (λ x. (line_of x).line) is ∙ over_line n 1024));
}
  where
    written : slice_set bars (line_of n).element 0 ≡ after
    written = set_by bars after (line_of n).element 1 has turn

    by_line : (l : ℕ) → l < 4 → l % 2 ≡ 1 → crossed_back bars (line_of n).element (bit_xor l 2)
        ≡ Some (after, bit_xor l (1024 / 1024 % 4))
    by_line = four (λ l. l % 2 ≡ 1 → crossed_back bars (line_of n).element (bit_xor l 2)
        ≡ Some (after, bit_xor l (1024 / 1024 % 4)))
        (λ e. absurd cc)
        (λ e. rw has (ap (λ x. Some (x, 0)) written))
        (λ e. absurd cc)
        (λ e. rw has (ap (λ x. Some (x, 2)) written))

pub back_level_across : (bars after : List ℕ) (n m : ℕ) → slice_get bars (line_of n).element ≡ Some 0 → n / 1024 % 2 ≡ 0
    → turned bars (line_of n).element ≡ Some after → m ≡ bit_xor n 3072
    → HasCrossedBack bars n after m
back_level_across bars after n m has par turn is = record {
  same = ap (λ x. (line_of x).element) is ∙ over_element n 3072 refl refl;
  moved = by_line (line_of n).line (omega arith) (omega arith)
      ∙ ap (λ x. Some (after, x)) (sym (ap (λ x. (line_of x).line) is ∙ over_line n 3072));
}
  where
    written : slice_set bars (line_of n).element 1 ≡ after
    written = set_by bars after (line_of n).element 0 has turn

    by_line : (l : ℕ) → l < 4 → l % 2 ≡ 0 → crossed_back bars (line_of n).element (bit_xor l 2)
        ≡ Some (after, bit_xor l (3072 / 1024 % 4))
    by_line = four (λ l. l % 2 ≡ 0 → crossed_back bars (line_of n).element (bit_xor l 2)
        ≡ Some (after, bit_xor l (3072 / 1024 % 4)))
        (λ e. rw has (ap (λ x. Some (x, 3)) written))
        (λ e. absurd cc)
        (λ e. rw has (ap (λ x. Some (x, 1)) written))
        (λ e. absurd cc)

-- by the element and the line
pub back_line : (bars before : List ℕ) (e l n m : ℕ) → l < 4
    → n ≡ number_of (opposite (record { element = e; line = l }))
    → HasCrossedBack bars n before m → crossed_back bars e l ≡ Some (before, m / 1024 % 4)
back_line bars before e l n m low is back =
    let same : line_of n ≡ opposite (record { element = e; line = l }) =
    ap line_of is ∙ line_again (opposite (record { element = e; line = l })) (across_low l low) in
    let line : bit_xor (line_of n).line 2 ≡ l = ap (λ (x : Line). bit_xor x.line 2) same ∙ xor_twice l in
    (λ i. crossed_back bars (sym same i).element (sym line i)) ∙ back.moved

-- the four crossings, forward and back
pub ruleset crossings = (
  upright_along,
  upright_across,
  level_along,
  level_across,
)

pub ruleset crossings_back = (
  back_upright_along,
  back_upright_across,
  back_level_along,
  back_level_across,
)

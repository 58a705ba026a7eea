-- Bars of rotary elements, stored as bits and crossed by the signal.
use Rattle.std.specs.Prelude.{ℕ, ◌+◌, ◌-◌, ◌*◌, ◌/◌, ◌%◌, ◌<◌, ◌≡◌, List, map, slice_get, slice_set, slice_index}
use Rattle.std.specs.Prelude.{Option, Some, option_and_then, bit_xor}
use Rattle.std.specs.List.{range_with_len}
use Rattle.std.specs.Int.{bit_at}
use Rattle.bn_element.specs.Rotary.{rotary}
use Rattle.bn_packed.specs.Numbers.{line_of}

-- the index of the word of an element's bar: a block of 1,024 elements has 64 words, of which the first 16 are used,
-- so that a shift and a mask compute the word from the number of a port
abbrev pub word_of : ℕ → ℕ
word_of e = 64 * (e / 1024) + e % 1024 / 64

-- the bar of element e, stored in words of 64 bits
abbrev pub bar_in : List ℕ → ℕ → ℕ
bar_in words e = bit_at (slice_index words (word_of e)) (e % 64)

-- the first n bars
abbrev pub bars_of : List ℕ → ℕ → List ℕ
bars_of words n = map (bar_in words) (range_with_len 0 n)

-- each state is that of a bar, 0 or 1
abbrev pub AreBars : List ℕ → Type 0
AreBars states = (e q : ℕ) → slice_get states e ≡ Some q → q < 2

-- the bars after the bar of element e was turned
abbrev pub turned : List ℕ → ℕ → Option (List ℕ)
turned bars e = option_and_then (λ q. Some (slice_set bars e (1 - q))) (slice_get bars e)

-- the bars after the signal entered element e by this port, and the port by which it leaves
abbrev pub crossed : List ℕ → ℕ → ℕ → Option (List ℕ × ℕ)
crossed bars e i = option_and_then (λ q. option_and_then (λ m. Some (slice_set bars e m.0, m.1)) (rotary.go q i))
    (slice_get bars e)

-- the bars before the signal left element e by this port, and the port by which it had entered
abbrev pub crossed_back : List ℕ → ℕ → ℕ → Option (List ℕ × ℕ)
crossed_back bars e o = option_and_then (λ r. option_and_then (λ m. Some (slice_set bars e m.0, m.1))
    (rotary.back r o)) (slice_get bars e)

-- the bars after the signal entered an element by the port with the number `into`; `out` is the number of the port
-- across the element from the one by which it leaves
pub record HasCrossed (before : List ℕ) (into : ℕ) (after : List ℕ) (out : ℕ) : Type 0 where
  pub same : (line_of out).element ≡ (line_of into).element
  pub moved : crossed before (line_of into).element (line_of into).line ≡ Some (after, bit_xor (line_of out).line 2)

-- the bars before the signal left an element by the port across from the one with the number `out`; `into` is the
-- number of the port by which it had entered
pub record HasCrossedBack (after : List ℕ) (out : ℕ) (before : List ℕ) (into : ℕ) : Type 0 where
  pub same : (line_of into).element ≡ (line_of out).element
  pub moved : crossed_back after (line_of out).element (bit_xor (line_of out).line 2)
      ≡ Some (before, (line_of into).line)

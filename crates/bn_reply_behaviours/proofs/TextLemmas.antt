-- Lemmas on the lines of crossings.
use Rattle.std.specs.Prelude.{◌≡◌, ℕ, zero, suc, ◌+◌, ◌<◌, List, [], ◌∷◌, ◌++◌, length, take, get_or, slice_get, Some}
use Rattle.std.proofs.Common.{sym, ap, ◌∙◌, arith, append_assoc, append-nil}
use Rattle.std.proofs.lemmas.Option.{get_or_from_slice_get}
use Rattle.bn_circuits.specs.declared.line.Line.{Line}
use Rattle.bn_behaviour.specs.declared.counted.CountedMove.{CountedMove}
use Rattle.bn_behaviour.specs.declared.ports.Ports.{Ports}
use Rattle.bn_reply_behaviours.specs.CrossingsReply.{crossing_line, crossing_with, crossings_text}

module _ (ports : Ports) where
  -- the lines of one entry more
  lines_more : (ms : List CountedMove) (i : ℕ) (d : CountedMove) → i < length ms
      → crossings_text ports (take (suc i) ms) ≡ crossings_text ports (take i ms) ++ crossing_line ports (get_or ms i d)
  lines_more [] i d h = absurd (omega (arith, h))
  lines_more (m ∷ ms) zero d h = append-nil (crossing_line ports m)
  lines_more (m ∷ ms) (suc i) d h =
      ap (λ rest. crossing_line ports m ++ rest) (lines_more ms i d (omega (arith, h)))
      ∙ sym (append_assoc (crossing_line ports m) (crossings_text ports (take i ms))
      (crossing_line ports (get_or ms i d)))

  -- the text after one entry more
  pub text_more : (before after : List ℕ) (ms : List CountedMove) (i : ℕ) (d : CountedMove)
      → before ≡ crossings_text ports (take i ms) → i < length ms
      → after ≡ before ++ crossing_line ports (get_or ms i d) → after ≡ crossings_text ports (take (i + 1) ms)
  text_more before after ms i d so_far h is =
      let next : suc i ≡ i + 1 = omega arith in
      is ∙ ap (λ xs. xs ++ crossing_line ports (get_or ms i d)) so_far
      ∙ sym (lines_more ms i d h) ∙ ap (λ n. crossings_text ports (take n ms)) next

-- the line of an entry with its ports
pub ports_line : (ports : Ports) (m : CountedMove) (i o : Line) → slice_get ports.inputs m.line ≡ Some i
    → slice_get ports.outputs m.out ≡ Some o → crossing_with m i o ≡ crossing_line ports m
ports_line ports m i o input output =
    let first = get_or_from_slice_get ports.inputs m.line i (record { element = 0; line = 0 }) input in
    let second = get_or_from_slice_get ports.outputs m.out o (record { element = 0; line = 0 }) output in
    λ t. crossing_with m (sym first t) (sym second t)

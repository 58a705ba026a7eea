-- Lemmas on the text of a floor plan.
use Rattle.std.specs.Prelude.{◌≡◌, ℕ, zero, suc, ◌+◌, ◌<◌, List, [], ◌∷◌, ◌++◌, length, take, get_or}
use Rattle.std.proofs.Common.{refl, inl, inr, sym, ap, ◌∙◌, arith, append_assoc, append-nil}
use Rattle.bn_circuits.specs.declared.line.Wire.{Wire}
use Rattle.std.proofs.lemmas.List.Sorted.{IsPermutation-sym}
use Rattle.bn_plan.specs.declared.tracked.Tracked.{Tracked}
use Rattle.bn_lists.specs.Lists.{Has}
use Rattle.bn_plan.specs.Wires.{HasFourLines, AreRotary}
use Rattle.bn_plan.specs.Plans.{FloorPlan, IsFloorPlan, untracked, wires_of}
use Rattle.bn_plan.proofs.ListLemmas.{in_map}
use Rattle.bn_plan.proofs.PlanLemmas.{moves_in}
use Rattle.bn_reply_circuits.specs.PlanReply.{wire_line, wire_lines}

-- what stands at a place is in the list
pub at_in : {X : Type 0} (xs : List X) (i : ℕ) (d : X) → i < length xs → Has xs (get_or xs i d)
at_in [] i d h = absurd (omega (arith, h))
at_in (x ∷ xs) zero d h = inl refl
at_in (x ∷ xs) (suc i) d h = inr (at_in xs i d (omega (arith, h)))

-- the lines of one wire more
lines_more : (ts : List Tracked) (i : ℕ) (d : Tracked) → i < length ts
    → wire_lines (take (suc i) ts) ≡ wire_lines (take i ts) ++ wire_line (get_or ts i d)
lines_more [] i d h = absurd (omega (arith, h))
lines_more (u ∷ us) zero d h = append-nil (wire_line u)
lines_more (u ∷ us) (suc i) d h =
    ap (λ rest. wire_line u ++ rest) (lines_more us i d (omega (arith, h)))
    ∙ sym (append_assoc (wire_line u) (wire_lines (take i us)) (wire_line (get_or us i d)))

-- the text after one wire more
pub text_more : (old before after : List ℕ) (ts : List Tracked) (i : ℕ) (d : Tracked)
    → before ≡ old ++ wire_lines (take i ts) → i < length ts
    → after ≡ before ++ wire_line (get_or ts i d) → after ≡ old ++ wire_lines (take (i + 1) ts)
text_more old before after ts i d so_far h is =
    let next : suc i ≡ i + 1 = omega arith in
    is ∙ ap (λ xs. xs ++ wire_line (get_or ts i d)) so_far ∙ append_assoc old (wire_lines (take i ts))
    (wire_line (get_or ts i d))
    ∙ ap (λ xs. old ++ xs) (sym (lines_more ts i d h)) ∙ ap (λ n. old ++ wire_lines (take n ts)) next

-- the wires of a floor plan lead from elements of four lines to such
pub floor_lines : (ws : List Wire) (f : FloorPlan) → AreRotary ws → IsFloorPlan ws f → (t : Tracked) → Has f.wires t
    → HasFourLines (untracked t)
floor_lines ws f r is t h = r.lines (untracked t) (moves_in (wires_of f.wires) ws
    (IsPermutation-sym ws (wires_of f.wires) is.plan.all) (untracked t) (in_map untracked f.wires t h))

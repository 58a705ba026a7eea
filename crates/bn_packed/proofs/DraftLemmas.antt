-- Wires that are put in some at a time.
use Rattle.std.specs.Prelude.{◌≡◌, ◌⊎◌, ℕ, ◌+◌, ◌-◌, ◌*◌, ◌<◌, ◌≤◌, List, [], ◌∷◌, ◌++◌, length, replicate, take, Some}
use Rattle.std.specs.Prelude.{None, slice_get, slice_set, refl}
use Rattle.std.proofs.Common.{zero, suc, arith, sym, ap, subst, ◌∙◌, inl, inr}
use Rattle.std.proofs.lemmas.Bool.Decides.{nat_tests}
use Rattle.std.proofs.Math.Seq.{take-append_seam}
use Rattle.std.proofs.lemmas.List.{length-append, take_all}
use Rattle.std.proofs.lemmas.Option.{slice_get_within}
use Rattle.bn_circuits.specs.declared.line.Line.{Line}
use Rattle.bn_circuits.specs.declared.line.Wire.{Wire}
use Rattle.bn_circuits.specs.Wirings.{AreApart, AreFitting}
use Rattle.bn_packed.specs.Ends.{opposite, ahead, EndList, AreEndsOf}
use Rattle.bn_packed.specs.Drafts.{AreDrawn}
use Rattle.bn_packed.proofs.ListedLemmas.{ends_none, ends_more}

pub drawn_none : (count : ℕ) (e : EndList) → e.elements ≡ count → e.ends ≡ replicate (4 * count) None
    → AreDrawn count [] e
drawn_none count e elements ends = record {
  apart = tt;
  fitting = record { fits = λ n w h. absurd (cc) };
  ends = ends_none count [] e elements ends;
}

-- a list behind another one
get-front : {X : Type 0} (xs ys : List X) (i : ℕ) → i < length xs → slice_get (xs ++ ys) i ≡ slice_get xs i
get-front [] ys i low = absurd (omega arith)
get-front (x ∷ xs) ys zero low = refl
get-front (x ∷ xs) ys (suc i) low = get-front xs ys i (omega arith)

get-behind : {X : Type 0} (xs ys : List X) (i : ℕ) → slice_get (xs ++ ys) (length xs + i) ≡ slice_get ys i
get-behind [] ys i = ap (slice_get ys) (omega arith)
get-behind (x ∷ xs) ys i =
    let opened : length (x ∷ xs) + i ≡ suc (length xs + i) = omega arith in
    ap (slice_get (x ∷ xs ++ ys)) opened ∙ get-behind xs ys i

fitting_both : (count : ℕ) (ws vs : List Wire) → AreFitting count ws → AreFitting count vs → AreFitting count (ws ++ vs)
fitting_both count ws vs one other = record { fits = λ n w h. at n w h (sides n) }
  where
    sides : (n : ℕ) → (n < length ws) ⊎ (length ws ≤ n)
    sides n = grind (arith, nat_tests)

    at : (n : ℕ) (w : Wire) → slice_get (ws ++ vs) n ≡ Some w → (n < length ws) ⊎ (length ws ≤ n)
        → (w.from.element < count) × (w.from.line < 4) × (w.to.element < count) × (w.to.line < 4)
    at n w h (inl low) = one.fits n w (sym (get-front ws vs n low) ∙ h)
    at n w h (inr high) =
        let place : length ws + (n - length ws) ≡ n = omega arith in
        other.fits (n - length ws) w (sym (get-behind ws vs (n - length ws)) ∙ ap (slice_get (ws ++ vs)) place ∙ h)

-- the first wires of a list put in behind others
abbrev pub AreAdded : ℕ → EndList → List Wire → ℕ → EndList → Type 0
AreAdded count before vs n now = (ws : List Wire) → AreDrawn count ws before → AreApart (ws ++ vs)
    → AreEndsOf (ahead (take (length ws + n) (ws ++ vs))) count now

pub added_none : (count : ℕ) (e : EndList) (vs : List Wire) → AreAdded count e vs 0 e
added_none count e vs ws drawn apart =
    let same : take (length ws + 0) (ws ++ vs) ≡ ws = ap (λ n. take n (ws ++ vs)) (omega arith)
    ∙ take-append_seam ws vs in
    subst (λ xs. AreEndsOf (ahead xs) count e) (sym same) drawn.ends

pub added_more : (count : ℕ) (e before after : EndList) (vs : List Wire) (n : ℕ) (w : Wire) (over : Line)
    → AreFitting count vs → slice_get vs n ≡ Some w
    → over ≡ opposite w.from → AreAdded count e vs n before → after.elements ≡ before.elements
    → after.ends ≡ slice_set before.ends (4 * over.element + over.line) (Some w.to) → AreAdded count e vs (n + 1) after
added_more count e before after vs n w over fitting has is so_far elements ends ws drawn apart =
    let at : slice_get (ws ++ vs) (length ws + n) ≡ Some w = get-behind ws vs n ∙ has in
    let next : length ws + n + 1 ≡ length ws + (n + 1) = omega arith in
    subst (λ k. AreEndsOf (ahead (take k (ws ++ vs))) count after) next
    (ends_more count (ws ++ vs) (length ws + n) w over before after apart
    (fitting_both count ws vs drawn.fitting fitting)
    (slice_get_within (ws ++ vs) (length ws + n) w at) at is (so_far ws drawn apart) elements ends)

pub added_all : (count : ℕ) (e now : EndList) (vs : List Wire) (n : ℕ) → AreFitting count vs → length vs ≤ n
    → AreAdded count e vs n now
    → (ws : List Wire) → AreDrawn count ws e → AreApart (ws ++ vs) → AreDrawn count (ws ++ vs) now
added_all count e now vs n fitting all added ws drawn apart =
    let whole : take (length ws + n) (ws ++ vs) ≡ ws ++ vs = take_all (length ws + n) (ws ++ vs)
    (omega (arith, length-append ws vs)) in
    record {
      apart = apart;
      fitting = fitting_both count ws vs drawn.fitting fitting;
      ends = subst (λ xs. AreEndsOf (ahead xs) count now) whole (added ws drawn apart);
    }

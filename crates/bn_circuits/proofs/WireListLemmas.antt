-- Lists of wires with one wire more at their end.
use Rattle.std.specs.Prelude.{◌≡◌, ◌≢◌, true, false, if◌then◌else◌, List, [], ◌∷◌, ◌++◌, Some, None, refl, ◌⊎◌}
use Rattle.std.proofs.Common.{sym, ap, ◌∙◌, inl, inr}
use Rattle.std.proofs.lemmas.Bool.Decides.{eqb_tells}
use Rattle.bn_circuits.specs.Circuits.{same_line, target, source}
use Rattle.bn_circuits.proofs.StepLemmas.{same_lines}
use Rattle.bn_circuits.specs.declared.line.Line.{Line}
use Rattle.bn_circuits.specs.declared.line.Wire.{Wire}

-- two lines are one, or they are not
pub line_tells : (a b : Line) → ((same_line a b ≡ true) × (a ≡ b)) ⊎ ((same_line a b ≡ false) × (a ≢ b))
line_tells a b =
    elim (eqb_tells a.element b.element) [
      | inl first ↦
          (elim (eqb_tells a.line b.line) [
            | inl second ↦ inl (rw (first.0, second.0) refl, same_lines a b first.1 second.1)
            | inr second ↦ inr (rw (first.0, second.0) refl, λ e. second.1 (ap (λ (l : Line). l.line) e))
          ])
      | inr first ↦ inr (rw first.0 refl, λ e. first.1 (ap (λ (l : Line). l.element) e))
    ]

-- a wire more at the end, whose output line had none
pub target-push : (xs : List Wire) (w : Wire) (from : Line) → target xs w.from ≡ None
    → target (xs ++ w ∷ []) from ≡ (if same_line w.from from then Some w.to else target xs from)
target-push [] w from none = refl
target-push (x ∷ xs) w from none =
    elim (line_tells x.from w.from) [
      | inl clash ↦ absurd (let found = rw clash.0 at none in cc)
      | inr apart ↦
          (let rest = target-push xs w from (rw apart.0 at none) in
          elim (line_tells x.from from) [
            | inl here ↦
                (elim (line_tells w.from from) [
                  | inl both ↦ absurd (apart.1 (here.1 ∙ sym both.1))
                  | inr one ↦ rw (here.0, one.0) refl
                ])
            | inr there ↦ rw there.0 rest
          ])
    ]

pub source-push : (xs : List Wire) (w : Wire) (to : Line) → source xs w.to ≡ None
    → source (xs ++ w ∷ []) to ≡ (if same_line w.to to then Some w.from else source xs to)
source-push [] w to none = refl
source-push (x ∷ xs) w to none =
    elim (line_tells x.to w.to) [
      | inl clash ↦ absurd (let found = rw clash.0 at none in cc)
      | inr apart ↦
          (let rest = source-push xs w to (rw apart.0 at none) in
          elim (line_tells x.to to) [
            | inl here ↦
                (elim (line_tells w.to to) [
                  | inl both ↦ absurd (apart.1 (here.1 ∙ sym both.1))
                  | inr one ↦ rw (here.0, one.0) refl
                ])
            | inr there ↦ rw there.0 rest
          ])
    ]

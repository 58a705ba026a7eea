-- East and west exchanged: lines, and the moves of circuits of rotary elements.
use Rattle.std.specs.Prelude.{◌≡◌, ℕ, ◌<◌, List, Option, Some, None, replicate, slice_get, refl}
use Rattle.std.specs.Option.{option_map_or}
use Rattle.std.proofs.Common.{zero, suc, arith, sym, ap, subst, ◌∙◌, inl, inr}
use Rattle.std.proofs.lemmas.Bool.Decides.{eqb_tells}
use Rattle.std.proofs.lemmas.Option.{same_Some, some_pair_parts, option_and_then_some}
use Rattle.bn_element.specs.Tables.{Table}
use Rattle.bn_element.specs.Rotary.{rotary, east, west}
use Rattle.bn_element.specs.Reversible.{rotary-IsReversible}
use Rattle.bn_element.specs.Inverse.{exchanged, exchanged_pair}
use Rattle.bn_element.proofs.InverseLemmas.{rotary-inverse}
use Rattle.bn_circuits.specs.Circuits.{go_of, inputs_of, outputs_of}
use Rattle.bn_circuits.proofs.StepLemmas.{same_lines}
use Rattle.bn_circuits.specs.declared.line.Line.{Line}
use Rattle.bn_mirror.specs.Mirror.{mirrored_line}

-- a line that is neither east nor west stays
stays : (line : ℕ) → (line ≡ east → ⊥) → (line ≡ west → ⊥) → exchanged line ≡ line
stays line not_east not_west =
    elim (eqb_tells line east) [
      | inl is ↦ absurd (not_east is.1)
      | inr other ↦ elim (eqb_tells line west) [
        | inl is ↦ absurd (not_west is.1)
        | inr apart ↦ rw (other.0, apart.0) refl
      ]
    ]

twice_other : (line : ℕ) → (line ≡ east → ⊥) → (line ≡ west → ⊥) → exchanged (exchanged line) ≡ line
twice_other line not_east not_west = ap exchanged (stays line not_east not_west) ∙ stays line not_east not_west

pub exchanged_twice : (line : ℕ) → exchanged (exchanged line) ≡ line
exchanged_twice zero = refl
exchanged_twice (suc zero) = refl
exchanged_twice (suc (suc zero)) = refl
exchanged_twice (suc (suc (suc zero))) = refl
exchanged_twice (suc (suc (suc (suc line)))) = twice_other (suc (suc (suc (suc line)))) (λ e. absurd (omega (arith, e)))
    (λ e. absurd (omega (arith, e)))

pub line_twice : (l : Line) → mirrored_line (mirrored_line l) ≡ l
line_twice l = same_lines (mirrored_line (mirrored_line l)) l refl (exchanged_twice l.line)

pub exchanged_within : (line : ℕ) → line < 4 → exchanged line < 4
exchanged_within zero h = omega arith
exchanged_within (suc zero) h = omega arith
exchanged_within (suc (suc zero)) h = omega arith
exchanged_within (suc (suc (suc zero))) h = omega arith
exchanged_within (suc (suc (suc (suc line)))) h = absurd (omega arith)

-- the move whose pair with its line exchanged is this one
turned_pair : (q i : ℕ) (m : Option (ℕ × ℕ)) → exchanged_pair m ≡ Some (q, i) → m ≡ Some (q, exchanged i)
turned_pair q i None h = absurd (cc)
turned_pair q i (Some m) h =
    let parts = some_pair_parts m.0 q (exchanged m.1) i h in
    let line : m.1 ≡ exchanged i = sym (exchanged_twice m.1) ∙ ap exchanged parts.1 in
    ap (λ x. Some (x, m.1)) parts.0 ∙ ap (λ y. Some (q, y)) line

-- a move turned round is a move, with east and west exchanged
go_turned : (q i r o : ℕ) → rotary.go q i ≡ Some (r, o) → rotary.go r (exchanged o) ≡ Some (q, exchanged i)
go_turned q i r o h = turned_pair q i (rotary.go r (exchanged o))
    (sym (rotary-inverse r o) ∙ rotary-IsReversible.undone q i r o h)

-- ---- circuits of rotary elements

abbrev pub AreAllRotary : List Table → Type 0
AreAllRotary ts = (e : ℕ) (t : Table) → slice_get ts e ≡ Some t → t ≡ rotary

pub all_rotary : (n : ℕ) → AreAllRotary (replicate n rotary)
all_rotary zero e t has = absurd (cc)
all_rotary (suc n) zero t has = sym (same_Some rotary t has)
all_rotary (suc n) (suc e) t has = all_rotary n e t has

module _ (ts : List Table) (rotaries : AreAllRotary ts) where
  pub go_of_turned : (e q i r o : ℕ) → go_of ts e q i ≡ Some (r, o) → go_of ts e r (exchanged o) ≡ Some (q, exchanged i)
  go_of_turned e q i r o h =
      option_and_then_some (λ (t : Table). t.go q i) (slice_get ts e) (r, o) h (λ t has goes.
      let is : t ≡ rotary = rotaries e t has in
      let there : rotary.go r (exchanged o) ≡ Some (q, exchanged i) =
      go_turned q i r o (subst (λ (x : Table). x.go q i ≡ Some (r, o)) is goes) in
      let at_t : t.go r (exchanged o) ≡ Some (q, exchanged i) =
      subst (λ (x : Table). x.go r (exchanged o) ≡ Some (q, exchanged i)) (sym is) there in
      rw has at_t)

  inputs_are : (e : ℕ) (t : Option Table) → slice_get ts e ≡ t
      → option_map_or (λ (x : Table). x.inputs) t 0 ≡ option_map_or (λ (x : Table). x.outputs) t 0
  inputs_are e None is = refl
  inputs_are e (Some t) is = subst (λ (x : Table). x.inputs ≡ x.outputs) (sym (rotaries e t is)) refl

  -- an element has as many input lines as output lines
  pub lines_are : (e : ℕ) → inputs_of ts e ≡ outputs_of ts e
  lines_are e = inputs_are e (slice_get ts e) refl

  turned_in : (e line : ℕ) (t : Option Table) → slice_get ts e ≡ t → line < option_map_or (λ (x : Table). x.inputs) t 0
      → exchanged line < option_map_or (λ (x : Table). x.inputs) t 0
  turned_in e line None is h = absurd (omega arith)
  turned_in e line (Some t) is h =
      let at : t ≡ rotary = rotaries e t is in
      let within : line < 4 = subst (λ (x : Table). line < x.inputs) at h in
      subst (λ (x : Table). exchanged line < x.inputs) (sym at) (exchanged_within line within)

  pub turned_input : (e line : ℕ) → line < inputs_of ts e → exchanged line < inputs_of ts e
  turned_input e line h = turned_in e line (slice_get ts e) refl h

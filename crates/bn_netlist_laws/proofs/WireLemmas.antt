-- Wires of circuits of rotary elements: which lines are there, and what the first wires of a list say of one wire more.
use Rattle.std.specs.Prelude.{◌≡◌, ◌≢◌, ℕ, ◌+◌, ◌<◌, true, false, List, [], ◌∷◌, ◌++◌, replicate, Option, Some, None}
use Rattle.std.specs.Prelude.{is_some, slice_get, refl}
use Rattle.std.proofs.Common.{zero, suc, arith, sym, subst, ◌∙◌, inl, inr}
use Rattle.std.proofs.lemmas.Option.{same_Some}
use Rattle.bn_element.specs.Tables.{Table, IsReversible}
use Rattle.bn_circuits.specs.Circuits.{same_line, target, source, states_of, inputs_of, outputs_of}
use Rattle.bn_circuits.proofs.WireListLemmas.{line_tells}
use Rattle.bn_circuits.specs.declared.line.Line.{Line}
use Rattle.bn_circuits.specs.declared.line.Wire.{Wire}
use Rattle.bn_element.specs.Rotary.{rotary}
use Rattle.bn_element.specs.Reversible.{rotary-IsReversible}

-- a line is there exactly where its element and its number are
pub rotary_input : (n e l : ℕ) → l < inputs_of (replicate n rotary) e → (e < n) × (l < 4)
rotary_input zero e l h = absurd (omega arith)
rotary_input (suc n) zero l h = (omega arith, h)
rotary_input (suc n) (suc e) l h = let rest = rotary_input n e l h in
    (let below : e < n = rest.0 in omega arith, rest.1)

pub rotary_output : (n e l : ℕ) → l < outputs_of (replicate n rotary) e → (e < n) × (l < 4)
rotary_output zero e l h = absurd (omega arith)
rotary_output (suc n) zero l h = (omega arith, h)
rotary_output (suc n) (suc e) l h = let rest = rotary_output n e l h in
    (let below : e < n = rest.0 in omega arith, rest.1)

pub rotary_inputs : (n e : ℕ) → e < n → inputs_of (replicate n rotary) e ≡ 4
rotary_inputs zero e h = absurd (omega arith)
rotary_inputs (suc n) zero h = refl
rotary_inputs (suc n) (suc e) h = rotary_inputs n e (omega arith)

pub rotary_outputs : (n e : ℕ) → e < n → outputs_of (replicate n rotary) e ≡ 4
rotary_outputs zero e h = absurd (omega arith)
rotary_outputs (suc n) zero h = refl
rotary_outputs (suc n) (suc e) h = rotary_outputs n e (omega arith)

pub rotary_states : (n e : ℕ) → e < n → states_of (replicate n rotary) e ≡ 2
rotary_states zero e h = absurd (omega arith)
rotary_states (suc n) zero h = refl
rotary_states (suc n) (suc e) h = rotary_states n e (omega arith)

pub rotary_state : (n e q : ℕ) → q < states_of (replicate n rotary) e → q < 2
rotary_state zero e q h = absurd (omega arith)
rotary_state (suc n) zero q h = h
rotary_state (suc n) (suc e) q h = rotary_state n e q h

pub rotary_reversible : (n e : ℕ) (t : Table) → slice_get (replicate n rotary) e ≡ Some t → IsReversible t
rotary_reversible zero e t h = absurd (cc)
rotary_reversible (suc n) zero t h = subst IsReversible (same_Some rotary t h) rotary-IsReversible
rotary_reversible (suc n) (suc e) t h = rotary_reversible n e t h

-- lines that are not one, by the test
pub other_line : (a b : Line) → a ≢ b → same_line a b ≡ false
other_line a b apart =
    elim (line_tells a b) [
      | inl same ↦ absurd (apart same.1)
      | inr other ↦ other.0
    ]

pub other_lines : (a b : Line) → same_line a b ≡ false → a ≢ b
other_lines a b h e =
    elim (line_tells a b) [
      | inl same ↦ true_is_not_false (sym same.0 ∙ h)
      | inr other ↦ other.1 e
    ]
  where
    true_is_not_false : true ≡ false → ⊥
    true_is_not_false e = cc

-- the claim holds of each wire
abbrev pub Each : (Wire → Type 0) → List Wire → Type 0
Each P [] = Unit {0}
Each P (w ∷ ws) = P w × Each P ws

pub each_append : (P : Wire → Type 0) (xs ys : List Wire) → Each P xs → Each P ys → Each P (xs ++ ys)
each_append P [] ys h k = k
each_append P (x ∷ xs) ys h k = (h.0, each_append P xs ys h.1 k)

pub each_weaker : (P Q : Wire → Type 0) → ((w : Wire) → P w → Q w) → (xs : List Wire) → Each P xs → Each Q xs
each_weaker P Q weaker [] h = tt
each_weaker P Q weaker (x ∷ xs) h = (weaker x h.0, each_weaker P Q weaker xs h.1)

-- no wire leaves a line, or ends at one, where none of the list does
pub target-none : (ws : List Wire) (from : Line) → Each (λ w. w.from ≢ from) ws → target ws from ≡ None
target-none [] from h = refl
target-none (w ∷ ws) from h = let e = other_line w.from from h.0 in rw e (target-none ws from h.1)

pub source-none : (ws : List Wire) (to : Line) → Each (λ w. w.to ≢ to) ws → source ws to ≡ None
source-none [] to h = refl
source-none (w ∷ ws) to h = let e = other_line w.to to h.0 in rw e (source-none ws to h.1)

pub wire_within_none : (o : Option Line) → is_some o ≡ false → o ≡ None
wire_within_none None h = refl
wire_within_none (Some l) h = absurd (true_is_not_false h)
  where
    true_is_not_false : true ≡ false → ⊥
    true_is_not_false e = cc

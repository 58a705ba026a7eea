-- The proof of the law that the trait requires of the rotary element; the toolchain requires it in `specs`. A table
-- that a list of moves gives is reversible if the moves are one to one and in range.
use Rattle.std.specs.Prelude.{◌≡◌, ℕ, ◌<◌, ◌==◌, ◌&&◌, true, false, List, [], ◌∷◌, Some, None, ◌⊎◌, refl}
use Rattle.std.proofs.Common.{inl, inr, arith}
use Rattle.std.proofs.lemmas.Bool.Decides.{eqb_tells}
use Rattle.std.proofs.lemmas.Option.{some_pair_parts}
use Rattle.bn_element.specs.Tables.{IsReversible, Move, go_by, back_by, AreOneToOne, AreWithin, table_by}
use Rattle.bn_element.specs.Rotary.{rotary, rotary_moves}

pub pair_tells : (a b c d : ℕ)
    → (((a == c && b == d) ≡ true) × (a ≡ c) × (b ≡ d)) ⊎ (((a == c && b == d) ≡ false) × ((a ≡ c) → (b ≡ d) → ⊥))
pair_tells a b c d =
    elim (eqb_tells a c) [
      | inl first ↦
          (elim (eqb_tells b d) [
            | inl second ↦ inl (rw (first.0, second.0) refl, first.1, second.1)
            | inr second ↦ inr (rw (first.0, second.0) refl, λ _ e. second.1 e)
          ])
      | inr first ↦ inr (rw first.0 refl, λ e _. first.1 e)
    ]

go_by-back_by : (ms : List Move) → AreOneToOne ms → (q i r o : ℕ) → go_by ms q i ≡ Some (r, o)
    → back_by ms r o ≡ Some (q, i)
go_by-back_by [] apart q i r o h = absurd (cc)
go_by-back_by (m ∷ ms) apart q i r o h =
    elim (pair_tells m.state m.input q i) [
      | inl here ↦
          (let found = rw here.0 at h in
          let parts = some_pair_parts m.next r m.output o found in
          elim (pair_tells m.next m.output r o) [
            | inl there ↦ rw (there.0, here.1, here.2) refl
            | inr there ↦ absurd (there.1 parts.0 parts.1)
          ])
      | inr other ↦
          (let rest : go_by ms q i ≡ Some (r, o) = rw other.0 at h in
          let back = go_by-back_by ms apart.2 q i r o rest in
          elim (pair_tells m.next m.output r o) [
            | inl there ↦
                (let none : back_by ms m.next m.output ≡ None = apart.1 in
                let at_r : back_by ms r o ≡ None = rw (there.1, there.2) at none in absurd (cc))
            | inr there ↦ rw there.0 back
          ])
    ]

back_by-go_by : (ms : List Move) → AreOneToOne ms → (q i r o : ℕ) → back_by ms r o ≡ Some (q, i)
    → go_by ms q i ≡ Some (r, o)
back_by-go_by [] apart q i r o h = absurd (cc)
back_by-go_by (m ∷ ms) apart q i r o h =
    elim (pair_tells m.next m.output r o) [
      | inl here ↦
          (let found = rw here.0 at h in
          let parts = some_pair_parts m.state q m.input i found in
          elim (pair_tells m.state m.input q i) [
            | inl there ↦ rw (there.0, here.1, here.2) refl
            | inr there ↦ absurd (there.1 parts.0 parts.1)
          ])
      | inr other ↦
          (let rest : back_by ms r o ≡ Some (q, i) = rw other.0 at h in
          let go = back_by-go_by ms apart.2 q i r o rest in
          elim (pair_tells m.state m.input q i) [
            | inl there ↦
                (let none : go_by ms m.state m.input ≡ None = apart.0 in
                let at_q : go_by ms q i ≡ None = rw (there.1, there.2) at none in absurd (cc))
            | inr there ↦ rw there.0 go
          ])
    ]

go_by-within : (s n k : ℕ) (ms : List Move) → AreWithin s n k ms → (q i r o : ℕ) → go_by ms q i ≡ Some (r, o)
    → (q < s) × (i < n) × (r < s) × (o < k)
go_by-within s n k [] within q i r o h = absurd (cc)
go_by-within s n k (m ∷ ms) within q i r o h =
    elim (pair_tells m.state m.input q i) [
      | inl here ↦
          (let found = rw here.0 at h in
          let parts = some_pair_parts m.next r m.output o found in
          rw (← here.1, ← here.2, ← parts.0, ← parts.1) (within.0, within.1, within.2, within.3))
      | inr other ↦ go_by-within s n k ms within.4 q i r o (rw other.0 at h)
    ]

-- a list of moves that is one to one and in range makes a reversible table
pub table_by-IsReversible : (s n k : ℕ) (ms : List Move) → AreOneToOne ms → AreWithin s n k ms
    → IsReversible (table_by s n k ms)
table_by-IsReversible s n k ms apart within =
    record {
      undone = go_by-back_by ms apart;
      redone = λ q i r o. back_by-go_by ms apart q i r o;
      departs = λ q i r o h. let all = go_by-within s n k ms within q i r o h in (all.0, all.1);
      arrives = λ q i r o h. let all = go_by-within s n k ms within q i r o h in (all.2, all.3);
    }

-- the rotary element is reversible
pub rotary-IsReversible : IsReversible rotary
rotary-IsReversible =
    table_by-IsReversible 2 4 4 rotary_moves
    (refl, refl, (refl, refl, (refl, refl, (refl, refl, (refl, refl, (refl, refl, (refl, refl, (refl, refl, tt))))))))
    (grind (arith))

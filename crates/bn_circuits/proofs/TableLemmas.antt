-- Reversible tables are one, and lists of moves that may stand twice.
use Rattle.std.specs.Prelude.{◌≡◌, ℕ, ◌<◌, ◌==◌, ◌&&◌, true, List, [], ◌∷◌, Option, Some, None, slice_get, refl}
use Rattle.std.proofs.Common.{zero, suc, sym, ap, subst, ◌∙◌, inl, inr}
use Rattle.std.proofs.lemmas.Bool.Decides.{eqb_tells}
use Rattle.std.proofs.lemmas.Option.{some_pair_parts}
use Rattle.bn_element.specs.Tables.{Move, go_by, back_by, AreWithin}
use Rattle.bn_element.specs.Reversible.{pair_tells}
use Rattle.bn_circuits.specs.Alike.{TablesAreOne, ConsistentMovesAreReversible}

-- ---- tables

back_none : (o : Option (ℕ × ℕ)) → ((q i : ℕ) → o ≡ Some (q, i) → ⊥) → o ≡ None
back_none None h = refl
back_none (Some x) h = absurd (h x.0 x.1 refl)

pub tables-one : TablesAreOne
tables-one t u rt ru states inputs outputs go =
    λ i. record {
      states = states i;
      inputs = inputs i;
      outputs = outputs i;
      go = λ q l. go q l i;
      back = λ r o. same r o i;
    }
  where
    by_back : (r o : ℕ) (x : Option (ℕ × ℕ)) → t.back r o ≡ x → t.back r o ≡ u.back r o
    by_back r o (Some (q, i)) h = h ∙ sym (ru.undone q i r o (sym (go q i) ∙ rt.redone q i r o h))
    by_back r o None h = h ∙ sym (back_none (u.back r o) (λ q i e. let there = rt.undone q i r o
        (go q i ∙ ru.redone q i r o e) in cc))

    same : (r o : ℕ) → t.back r o ≡ u.back r o
    same r o = by_back r o (t.back r o) refl

-- ---- moves

same_pair : (a b c d : ℕ) → a ≡ c → b ≡ d → (a == c && b == d) ≡ true
same_pair a b c d e f =
    elim (eqb_tells a c) [
      | inl first ↦ (elim (eqb_tells b d) [
        | inl second ↦ rw (first.0, second.0) refl
        | inr second ↦ absurd (second.1 f)
      ])
      | inr first ↦ absurd (first.1 e)
    ]

pub record Stands (ms : List Move) (q i r o : ℕ) : Type 0 where
  pub at : ℕ
  pub move : Move
  pub is : slice_get ms at ≡ Some move
  pub state : move.state ≡ q
  pub input : move.input ≡ i
  pub next : move.next ≡ r
  pub output : move.output ≡ o

later : (m : Move) (ms : List Move) (q i r o : ℕ) → Stands ms q i r o → Stands (m ∷ ms) q i r o
later m ms q i r o s = record {
  at = suc s.at;
  move = s.move;
  is = s.is;
  state = s.state;
  input = s.input;
  next = s.next;
  output = s.output;
}

go_stands : (ms : List Move) (q i r o : ℕ) → go_by ms q i ≡ Some (r, o) → Stands ms q i r o
go_stands [] q i r o h = absurd (cc)
go_stands (m ∷ ms) q i r o h =
    elim (pair_tells m.state m.input q i) [
      | inl here ↦
          (let found = rw here.0 at h in
          let parts = some_pair_parts m.next r m.output o found in
          record { at = 0; move = m; is = refl; state = here.1; input = here.2; next = parts.0; output = parts.1 })
      | inr other ↦ later m ms q i r o (go_stands ms q i r o (rw other.0 at h))
    ]

back_stands : (ms : List Move) (q i r o : ℕ) → back_by ms r o ≡ Some (q, i) → Stands ms q i r o
back_stands [] q i r o h = absurd (cc)
back_stands (m ∷ ms) q i r o h =
    elim (pair_tells m.next m.output r o) [
      | inl here ↦
          (let found = rw here.0 at h in
          let parts = some_pair_parts m.state q m.input i found in
          record { at = 0; move = m; is = refl; state = parts.0; input = parts.1; next = here.1; output = here.2 })
      | inr other ↦ later m ms q i r o (back_stands ms q i r o (rw other.0 at h))
    ]

-- a move of the list is found, or another from its pair
go_finds : (ms : List Move) (n : ℕ) (m : Move) → slice_get ms n ≡ Some m
    → (x : ℕ × ℕ) × (go_by ms m.state m.input ≡ Some x)
go_finds [] n m h = absurd (cc)
go_finds (v ∷ ms) zero m h =
    let same : v ≡ m = cc in
    elim (pair_tells v.state v.input m.state m.input) [
      | inl here ↦ ((v.next, v.output), rw here.0 refl)
      | inr other ↦ absurd (let yes = same_pair v.state v.input m.state m.input (ap (λ (m : Move). m.state) same)
          (ap (λ (m : Move). m.input) same) in let no = other.0 in cc)
    ]
go_finds (v ∷ ms) (suc j) m h =
    let found = go_finds ms j m h in
    elim (pair_tells v.state v.input m.state m.input) [
      | inl here ↦ ((v.next, v.output), rw here.0 refl)
      | inr other ↦ (found.0, rw other.0 found.1)
    ]

back_finds : (ms : List Move) (n : ℕ) (m : Move) → slice_get ms n ≡ Some m
    → (x : ℕ × ℕ) × (back_by ms m.next m.output ≡ Some x)
back_finds [] n m h = absurd (cc)
back_finds (v ∷ ms) zero m h =
    let same : v ≡ m = cc in
    elim (pair_tells v.next v.output m.next m.output) [
      | inl here ↦ ((v.state, v.input), rw here.0 refl)
      | inr other ↦ absurd (let yes = same_pair v.next v.output m.next m.output (ap (λ (m : Move). m.next) same)
          (ap (λ (m : Move). m.output) same) in let no = other.0 in cc)
    ]
back_finds (v ∷ ms) (suc j) m h =
    let found = back_finds ms j m h in
    elim (pair_tells v.next v.output m.next m.output) [
      | inl here ↦ ((v.state, v.input), rw here.0 refl)
      | inr other ↦ (found.0, rw other.0 found.1)
    ]

within_at : (s n k : ℕ) (ms : List Move) → AreWithin s n k ms → (j : ℕ) (m : Move) → slice_get ms j ≡ Some m
    → (m.state < s) × (m.input < n) × (m.next < s) × (m.output < k)
within_at s n k [] within j m h = absurd (cc)
within_at s n k (v ∷ ms) within zero m h = let same : v ≡ m = cc in rw (← same) (within.0, within.1, within.2, within.3)
within_at s n k (v ∷ ms) within (suc j) m h = within_at s n k ms within.4 j m h

pub consistent-reversible : ConsistentMovesAreReversible
consistent-reversible s n k ms are within =
    record {
      undone = undone;
      redone = redone;
      departs = λ q i r o h. (let all = parts q i r o h in (all.0, all.1));
      arrives = λ q i r o h. (let all = parts q i r o h in (all.2, all.3));
    }
  where
    pairs : {a b c d : ℕ} → a ≡ c → b ≡ d → ◌≡◌ {A = ℕ × ℕ} (a, b) (c, d)
    pairs e f = λ i. (e i, f i)

    by_stands : (q i r o : ℕ) → Stands ms q i r o → (q < s) × (i < n) × (r < s) × (o < k)
    by_stands q i r o here = let all = within_at s n k ms within here.at here.move here.is in (
      subst (λ x. x < s) here.state all.0,
      subst (λ x. x < n) here.input all.1,
      subst (λ x. x < s) here.next all.2,
      subst (λ x. x < k) here.output all.3,
    )

    undone : (q i r o : ℕ) → go_by ms q i ≡ Some (r, o) → back_by ms r o ≡ Some (q, i)
    undone q i r o h =
        let here = go_stands ms q i r o h in
        let found = back_finds ms here.at here.move here.is in
        let at_pair : back_by ms r o ≡ Some found.0 = (λ j. back_by ms (sym here.next j) (sym here.output j))
        ∙ found.1 in
        let there = back_stands ms found.0.0 found.0.1 r o at_pair in
        let same = are.behind there.at here.at there.move here.move there.is here.is (there.next ∙ sym here.next)
        (there.output ∙ sym here.output) in
        let first : found.0.0 ≡ q = sym there.state ∙ same.0 ∙ here.state in
        let second : found.0.1 ≡ i = sym there.input ∙ same.1 ∙ here.input in
        at_pair ∙ ap (λ x. Some x) (pairs first second)

    redone : (q i r o : ℕ) → back_by ms r o ≡ Some (q, i) → go_by ms q i ≡ Some (r, o)
    redone q i r o h =
        let here = back_stands ms q i r o h in
        let found = go_finds ms here.at here.move here.is in
        let at_pair : go_by ms q i ≡ Some found.0 = (λ j. go_by ms (sym here.state j) (sym here.input j)) ∙ found.1 in
        let there = go_stands ms q i found.0.0 found.0.1 at_pair in
        let same = are.ahead there.at here.at there.move here.move there.is here.is (there.state ∙ sym here.state)
        (there.input ∙ sym here.input) in
        let first : found.0.0 ≡ r = sym there.next ∙ same.0 ∙ here.next in
        let second : found.0.1 ≡ o = sym there.output ∙ same.1 ∙ here.output in
        at_pair ∙ ap (λ x. Some x) (pairs first second)

    parts : (q i r o : ℕ) → go_by ms q i ≡ Some (r, o) → (q < s) × (i < n) × (r < s) × (o < k)
    parts q i r o h = by_stands q i r o (go_stands ms q i r o h)

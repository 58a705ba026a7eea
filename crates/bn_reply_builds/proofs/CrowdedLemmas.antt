-- A tape has too many symbols, or none has.
use Rattle.std.specs.Prelude.{◌≡◌, ℕ, zero, suc, ◌+◌, ◌<◌, ◌≤◌, ◌⊎◌, refl}
use Rattle.std.proofs.Common.{arith, inl, inr, sym, ap, subst, ◌∙◌}
use Rattle.std.proofs.lemmas.Bool.{cases_lt}
use Rattle.std.proofs.lemmas.Bool.Decides.{eqb_tells}
use Rattle.bn_quad.specs.Quadruples.{Quadruples}
use Rattle.bn_network.specs.Controls.{symbol_count}
use Rattle.bn_network.specs.Networks.{IsTape}
use Rattle.bn_network.specs.declared.limits.TheConstants.{MOST_SYMBOLS}
use Rattle.bn_reply_builds.specs.BuildReply.{IsCrowded, IsUncrowded}

-- none of the tapes before this one has too many
pub record AreFewBefore (m : Quadruples) (n : ℕ) : Type 0 where
  pub few : (u : ℕ) → IsTape u → u < n → symbol_count m u ≤ MOST_SYMBOLS

pub few_before_one : (m : Quadruples) → AreFewBefore m 1
few_before_one m = record { few = λ u tape low. absurd (let some = tape.low in omega arith) }

pub few_more : (m : Quadruples) (n : ℕ) → AreFewBefore m n → symbol_count m n ≤ MOST_SYMBOLS → AreFewBefore m (n + 1)
few_more m n h here = record {
  few = λ u tape low. elim (eqb_tells u n) [
    | inl same ↦ subst (λ (k : ℕ). symbol_count m k ≤ MOST_SYMBOLS) (sym same.1) here
    | inr other ↦ h.few u tape (let apart = other.1 in omega arith)
  ];
}

pub all_few : (m : Quadruples) (n : ℕ) → 4 ≤ n → AreFewBefore m n → IsUncrowded m
all_few m n past h t tape = h.few t tape (let high = tape.high in omega arith)

pub crowded_at : (m : Quadruples) (t z : ℕ) → 1 ≤ t → t ≤ 3 → symbol_count m t ≡ z → MOST_SYMBOLS < z → AreFewBefore
    m t →
    IsCrowded m t z
crowded_at m t z low high count many h = record {
  tape = record { low = omega arith; high = high };
  count = count;
  many = many;
  first = λ u tape before. h.few u tape before;
}

crowded_from : (m : Quadruples) (fuel n : ℕ) → n + fuel ≡ 4 → 1 ≤ n → AreFewBefore m n →
    IsUncrowded m ⊎ ((t : ℕ) × (z : ℕ) × IsCrowded m t z)
crowded_from m zero n sum low h = inl (all_few m n (omega arith) h)
crowded_from m (suc fuel) n sum low h = elim (cases_lt MOST_SYMBOLS (symbol_count m n)) [
  | inl many ↦ inr (n, symbol_count m n, crowded_at m n (symbol_count m n) low (omega arith) refl many h)
  | inr few ↦ crowded_from m fuel (n + 1) (omega arith) (omega arith) (few_more m n h few)
]

pub crowded_or_not : (m : Quadruples) → IsUncrowded m ⊎ ((t : ℕ) × (z : ℕ) × IsCrowded m t z)
crowded_or_not m = crowded_from m 3 1 (omega arith) (omega arith) (few_before_one m)

pub not_crowded : (m : Quadruples) (t z : ℕ) → IsUncrowded m → IsCrowded m t z → ⊥
not_crowded m t z few h =
    let least = few t h.tape in
    let count = h.count in
    let many = h.many in
    omega arith

pub crowded_once : (m : Quadruples) (t u z y : ℕ) → IsCrowded m t z → IsCrowded m u y → (t ≡ u) × (z ≡ y)
crowded_once m t u z y h k = elim (cases_lt t u) [
  | inl before ↦ absurd (
      let least = k.first t h.tape before in
      let count = h.count in
      let many = h.many in
      omega arith)
  | inr late ↦ elim (cases_lt u t) [
    | inl before ↦ absurd (
        let least = h.first u k.tape before in
        let count = k.count in
        let many = k.many in
        omega arith)
    | inr same ↦
        let tapes : t ≡ u = omega arith in
        (tapes, sym h.count ∙ ap (symbol_count m) tapes ∙ k.count)
  ]
]

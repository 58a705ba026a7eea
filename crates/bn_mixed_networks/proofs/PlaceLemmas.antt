-- Where the parts of a circuit lie.
use Rattle.std.specs.Prelude.{◌≡◌, ◌≢◌, ℕ, ◌+◌, ◌<◌, ◌≤◌, List, [], ◌∷◌, length, map, Option, Some, None, slice_get}
use Rattle.std.specs.Prelude.{◌⊎◌, refl}
use Rattle.std.proofs.Common.{zero, suc, arith, ap, subst, inl, inr}
use Rattle.std.proofs.lemmas.Bool.{cases_lt}
use Rattle.std.specs.Option.{option_map_or}
use Rattle.bn_element.specs.Tables.{Table}
use Rattle.bn_circuits.specs.Circuits.{inputs_of, outputs_of}
use Rattle.bn_mixed_networks.specs.Parts.{Part, part_table, part_size, base, size}

pub before-later : (ps : List Part) (m e : ℕ) (p : Part) → slice_get ps m ≡ Some p → m < e
    → base ps m + part_size p ≤ base ps e
before-later [] m e p h low = absurd (cc)
before-later (u ∷ ps) m zero p h low = absurd (omega arith)
before-later (u ∷ ps) zero (suc e) p h low =
    let same : u ≡ p = cc in
    let sizes : part_size u ≡ part_size p = ap part_size same in
    omega arith
before-later (u ∷ ps) (suc m) (suc e) p h low =
    let rest = before-later ps m e p h (omega arith) in
    omega arith

pub base-within : (ps : List Part) (m : ℕ) (p : Part) → slice_get ps m ≡ Some p → base ps m + part_size p ≤ size ps
base-within [] m p h = absurd (cc)
base-within (u ∷ ps) zero p h =
    let same : u ≡ p = cc in
    let sizes : part_size u ≡ part_size p = ap part_size same in
    omega arith
base-within (u ∷ ps) (suc m) p h =
    let rest = base-within ps m p h in
    omega arith

-- an element of one part is none of another
pub parts-beside : (ps : List Part) (m e : ℕ) (p u : Part) (x : ℕ) → slice_get ps m ≡ Some p → slice_get ps e ≡ Some u
    → m ≢ e → base ps m ≤ x → x < base ps m + part_size p → (x < base ps e) ⊎ (base ps e + part_size u ≤ x)
parts-beside ps m e p u x has is apart low high =
    elim (cases_lt m e) [
      | inl before ↦ (let h = before-later ps m e p has before in inl (omega arith))
      | inr after ↦ (let less : e < m = by_apart apart after in let h = before-later ps e m u is less in inr
          (omega arith))
    ]
  where
    by_apart : m ≢ e → e ≤ m → e < m
    by_apart ne le = elim (cases_lt e m) [ inl less ↦ less | inr more ↦ absurd (ne (omega arith)) ]

pub parts-apart : (ps : List Part) (m e : ℕ) (p u : Part) (x : ℕ) → slice_get ps m ≡ Some p → slice_get ps e ≡ Some u
    → m ≢ e → base ps m ≤ x → x < base ps m + part_size p → base ps e ≤ x → x < base ps e + part_size u → ⊥
parts-apart ps m e p u x has is apart low high low' high' =
    elim (parts-beside ps m e p u x has is apart low high) [ inl before ↦ omega arith | inr after ↦ omega arith ]

-- one part stands at a place
pub one-part : (ps : List Part) (m e : ℕ) (p u : Part) → m ≡ e → slice_get ps m ≡ Some p → slice_get ps e ≡ Some u
    → p ≡ u
one-part ps m e p u same has is = let h = subst (λ x. slice_get ps x ≡ Some p) same has in cc

-- the tables of the network are those of the parts
pub table-of : (ps : List Part) (m : ℕ) (p : Part) → slice_get ps m ≡ Some p
    → slice_get (map part_table ps) m ≡ Some (part_table p)
table-of [] m p h = absurd (cc)
table-of (u ∷ ps) zero p h = let same : u ≡ p = cc in ap (λ x. Some (part_table x)) same
table-of (u ∷ ps) (suc m) p h = table-of ps m p h

pub part-of : (ps : List Part) (m : ℕ) (t : Table) → slice_get (map part_table ps) m ≡ Some t
    → (p : Part) × (slice_get ps m ≡ Some p) × (part_table p ≡ t)
part-of [] m t h = absurd (cc)
part-of (u ∷ ps) zero t h = (u, refl, let same : part_table u ≡ t = cc in same)
part-of (u ∷ ps) (suc m) t h = part-of ps m t h

pub found : {X : Type 0} (xs : List X) (i : ℕ) → i < length xs → (x : X) × (slice_get xs i ≡ Some x)
found [] i low = absurd (omega arith)
found (x ∷ xs) zero low = (x, refl)
found (x ∷ xs) (suc i) low = found xs i (omega arith)

-- a port of a circuit is one of a table
pub input_table : (ts : List Table) (e i : ℕ) → i < inputs_of ts e
    → (t : Table) × (slice_get ts e ≡ Some t) × (i < t.inputs)
input_table ts e i low = by_table (slice_get ts e) refl low
  where
    by_table : (o : Option Table) → slice_get ts e ≡ o → i < option_map_or (λ (t : Table). t.inputs) o 0
        → (t : Table) × (slice_get ts e ≡ Some t) × (i < t.inputs)
    by_table None is low = absurd (omega arith)
    by_table (Some t) is low = (t, is, low)

pub output_table : (ts : List Table) (e i : ℕ) → i < outputs_of ts e
    → (t : Table) × (slice_get ts e ≡ Some t) × (i < t.outputs)
output_table ts e i low = by_table (slice_get ts e) refl low
  where
    by_table : (o : Option Table) → slice_get ts e ≡ o → i < option_map_or (λ (t : Table). t.outputs) o 0
        → (t : Table) × (slice_get ts e ≡ Some t) × (i < t.outputs)
    by_table None is low = absurd (omega arith)
    by_table (Some t) is low = (t, is, low)

-- The modules of a text's network as parts, and its ports.
use Rattle.std.specs.Prelude.{◌≡◌, ℕ, ◌-◌, ◌<◌, ◌≤◌, ◌==◌, ◌&&◌, nat_lt, nat_le, Bool, true, false, List, []}
use Rattle.std.specs.Prelude.{◌∷◌, length, Option, Some, None, slice_get, refl}
use Rattle.std.specs.Prelude.{option_map}
use Rattle.std.proofs.Common.{zero, suc, arith, sym, ap, subst, ◌∙◌, inl, inr}
use Rattle.std.proofs.lemmas.Bool.Decides.{eqb_tells, nat_tests}
use Rattle.bn_rsm.specs.Machines.{Machine, machine_table, machine_table-IsReversible}
use Rattle.bn_mixed_networks.specs.Parts.{Part, Bank, IsPart, part_table}
use Rattle.bn_network_text.specs.Entries.{ModuleLine}
use Rattle.bn_network_text.specs.Faults.{head_fault, is_count, kind_fault, ports_of, state_fault}
use Rattle.bn_network_text.specs.Networks.{module_of}
use Rattle.bn_network_text.specs.declared.entry.Kind.{Kind}
use Rattle.bn_network_text.specs.declared.entry.Kind.TheVariants as kinds
use Rattle.bn_network_text.specs.declared.shape.Shape.{Shape}
use Rattle.bn_network_circuit.specs.Realised.{shape_of, shapes_of, part_of, bank_of, state_of}
use Rattle.bn_network_circuit.specs.Soundness.{AreTables}
use Rattle.bn_network_circuit.proofs.BarLemmas.{IsLow}
use Rattle.bn_network_circuit.proofs.SoundLemmas.{if_none, fault_some}

-- a machine by its numbers
shape_found : (ms : List Machine) (t : ℕ) (s : Shape) → slice_get (shapes_of ms) t ≡ Some s
    → (m : Machine) × (slice_get ms t ≡ Some m) × (shape_of m ≡ s)
shape_found [] t s h = absurd (cc)
shape_found (m ∷ ms) zero s h = (m, refl, let same : shape_of m ≡ s = cc in same)
shape_found (m ∷ ms) (suc t) s h = shape_found ms t s h

pub both_true : (a b : Bool) → (a && b) ≡ true → (a ≡ true) × (b ≡ true)
both_true true true h = (refl, refl)
both_true true false h = absurd (cc)
both_true false b h = absurd (cc)

pub lt_true : (a b : ℕ) → nat_lt a b ≡ true → a < b
lt_true a b h = grind (arith, nat_tests)

pub le_true : (a b : ℕ) → nat_le a b ≡ true → a ≤ b
le_true a b h = grind (arith, nat_tests)

-- what a line without a fault says of its module
pub record IsKind (ms : List Machine) (k : Kind) (number : ℕ) : Type 0 where
  pub is_part : IsPart (part_of ms (module_of k))
  pub state : state_of (module_of k) < (part_table (part_of ms (module_of k))).states
  pub ports : ports_of (shapes_of ms) k ≡ Some (part_table (part_of ms (module_of k))).inputs
  pub count : number ≡ (part_table (part_of ms (module_of k))).inputs

counted : (k n : ℕ) → (k == n) ≡ true → k ≡ n
counted k n h = elim (eqb_tells k n) [ inl same ↦ same.1 | inr apart ↦ absurd (let other = apart.0 in cc) ]

machine_kind : (ms : List Machine) → AreTables ms → (t q count : ℕ)
    → kind_fault (shapes_of ms) (kinds.Machine t q) ≡ None
    → is_count count (ports_of (shapes_of ms) (kinds.Machine t q)) ≡ true → IsKind ms (kinds.Machine t q) count
machine_kind ms are zero q count none arity = absurd (fault_some _ none)
machine_kind ms are (suc t) q count none arity = by_shape (slice_get (shapes_of ms) t) refl none arity
  where
    by_shape : (o : Option Shape) → slice_get (shapes_of ms) t ≡ o → state_fault q o ≡ None
        → is_count count (option_map (λ (s : Shape). s.lines) o) ≡ true → IsKind ms (kinds.Machine (suc t) q) count
    by_shape None is h arity = absurd (fault_some _ h)
    by_shape (Some s) is h arity =
        elim (if_none (nat_lt 0 q && nat_le q s.states) _ _ h) [
          | inr bad ↦ absurd (fault_some _ bad.1)
          | inl good ↦
              (let tests = both_true (nat_lt 0 q) (nat_le q s.states) good.0 in
              let m = shape_found ms t s is in
              let number : suc t - 1 ≡ t = omega arith in
              let part : part_of ms (module_of (kinds.Machine (suc t) q)) ≡ Bank (machine_table m.0) =
              ap bank_of (ap (slice_get ms) number ∙ m.1) in
              let states : m.0.states ≡ s.states = ap (λ (x : Shape). x.states) m.2 in
              let lines : m.0.lines ≡ s.lines = ap (λ (x : Shape). x.lines) m.2 in
              let some = lt_true 0 q tests.0 in
              let low = le_true q s.states tests.1 in
              let ports : ports_of (shapes_of ms) (kinds.Machine (suc t) q) ≡ Some m.0.lines =
              ap (option_map (λ (x : Shape). x.lines)) is ∙ ap Some (sym lines) in
              let all : count ≡ s.lines = counted count s.lines arity in
              record {
                is_part = subst IsPart (sym part) (
                  machine_table-IsReversible m.0,
                  are.some_states t m.0 m.1,
                  are.some_lines t m.0 m.1,
                  refl,
                );
                state = subst (λ (p : Part). q - 1 < (part_table p).states) (sym part) (omega arith);
                ports = subst (λ (p : Part). ports_of (shapes_of ms) (kinds.Machine (suc t) q)
                    ≡ Some (part_table p).inputs) (sym part) ports;
                count = subst (λ (p : Part). count ≡ (part_table p).inputs) (sym part) (all ∙ sym lines);
              })
        ]

rotary_kind : (ms : List Machine) (q count : ℕ) → q < 2 → is_count count (Some 4) ≡ true
    → IsKind ms (kinds.Rotary q) count
rotary_kind ms q count low arity =
    record { is_part = tt; state = low; ports = refl; count = counted count 4 arity }

pub kind-of : (ms : List Machine) → AreTables ms → (m : ℕ) (e : ModuleLine) → IsLow e.kind
    → head_fault (shapes_of ms) m e ≡ None → IsKind ms e.kind (length e.targets)
kind-of ms are m e low none =
    elim (if_none (is_count (length e.targets) (ports_of (shapes_of ms) e.kind)) _ _ none) [
      | inr bad ↦ absurd (fault_some _ bad.1)
      | inl a ↦ elim (if_none (e.number == m) _ _ a.1) [
        | inr bad ↦ absurd (fault_some _ bad.1)
        | inl b ↦ by_kind e.kind low b.1 a.0
      ]
    ]
  where
    by_kind : (k : Kind) → IsLow k → kind_fault (shapes_of ms) k ≡ None
        → is_count (length e.targets) (ports_of (shapes_of ms) k) ≡ true → IsKind ms k (length e.targets)
    by_kind (kinds.Machine t q) low none arity = machine_kind ms are t q (length e.targets) none arity
    by_kind (kinds.Rotary q) low none arity = rotary_kind ms q (length e.targets) low arity

-- The machine that is made is a machine: its numbers are in range.
use Rattle.std.specs.Prelude.{ℕ, suc, ◌+◌, ◌-◌, ◌^◌, ◌<◌, [], ◌∷◌, length, map, get_or}
use Rattle.std.proofs.Common.{sym, subst, arith, inl, inr}
use Rattle.bn_machine.specs.Machine.{Program, IsMachine, IsInRange, final_of}
use Rattle.bn_lists.proofs.ListLemmas.{nth-get_or}
use Rattle.bn_machine.specs.declared.quint.Quint.{Quint}
use Rattle.bn_lists.specs.Lists.{Has}
use Rattle.bn_standardise.specs.Rules.{own_rule, back_over_all, leaving, middle_of, rules_of}
use Rattle.bn_standardise.specs.declared.rule.Rule.{Rule}
use Rattle.bn_standardise.specs.Standardised.{numbered, standardised, numbering_of}
use Rattle.bn_lists.proofs.MemberLemmas.{of_two}
use Rattle.bn_standardise.proofs.ListLemmas.{nth_in, in_map_cases}
use Rattle.bn_standardise.proofs.RuleLemmas.{some_symbol, back_over_cases, rules_counted}
use Rattle.bn_standardise.proofs.NumberingLemmas.{numbers_inside}
use Rattle.bn_standardise.proofs.RunLemmas.{in_range}

-- a rule reads and writes known symbols
pub record KnowsSymbols (symbols : ℕ) (r : Rule) : Type 0 where
  pub read : r.read < symbols
  pub write : r.write < symbols

-- every rule does
pub rule_knows : (p : Program) (r : Rule) → IsMachine p → Has (rules_of p) r → KnowsSymbols p.symbols r
rule_knows p r machine (inl e) = let some = some_symbol p machine in subst (KnowsSymbols p.symbols) (sym e)
    (record { read = some; write = some })
rule_knows p r machine (inr h) = elim (of_two (middle_of p) (leaving (final_of p.quints) ∷ []) r h) [
  | inl mid ↦ elim (of_two (map own_rule p.quints) (back_over_all (final_of p.quints) 1 (p.symbols - 1)) r mid) [
    | inl own ↦
        let q = in_map_cases own_rule p.quints r own in
        let range = in_range p q.0 machine q.1 in
        subst (KnowsSymbols p.symbols) (sym q.2) (record { read = range.read; write = range.write })
    | inr back ↦
        let x = back_over_cases (final_of p.quints) 1 (p.symbols - 1) r back in
        let below : x.0 < p.symbols = omega (arith, x.1, x.3) in
        subst (KnowsSymbols p.symbols) (sym x.2) (record { read = below; write = below })
  ]
  | inr (inl e) ↦ let some = some_symbol p machine in subst (KnowsSymbols p.symbols) (sym e)
      (record { read = some; write = some })
  | inr (inr none) ↦ absurd none
]

-- every quintuple has its numbers in range
quint_in_range : (p : Program) (q : Quint) → IsMachine p → Has (standardised p).quints q
    → IsInRange (standardised p).states p.symbols q
quint_in_range p q machine h =
    let r = in_map_cases (numbered (numbering_of p)) (rules_of p) q h in
    let knows = rule_knows p r.0 machine r.1 in
    let numbers = numbers_inside (rules_of p) r.0 r.1 in
    subst (IsInRange (standardised p).states p.symbols) (sym r.2)
    (record { state = numbers.0; read = knows.read; write = knows.write; next = numbers.1 })

-- so the list is a machine
pub machine_again : (p : Program) → IsMachine p → length p.quints + p.symbols + 1 < 2 ^ 32 → IsMachine (standardised p)
machine_again p machine few = record {
  some = let count = rules_counted (numbering_of p) p machine in omega (arith, count);
  few = let count = rules_counted (numbering_of p) p machine in omega (arith, count, few);
  in_range = λ k d h. quint_in_range p (get_or (standardised p).quints k d) machine
      (nth_in (standardised p).quints (suc k) (get_or (standardised p).quints k d)
      (nth-get_or (standardised p).quints k d h));
}

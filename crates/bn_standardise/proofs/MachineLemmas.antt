-- The machine of the numbered list.
use Rattle.std.proofs.Common.{◌≡◌, ◌∙◌, ◌<◌, ◌^◌, ℕ, zero, suc, Some, List, length, map, sym, ap, arith, subst}
use Rattle.std.proofs.lemmas.List.{length-map}
use Rattle.std.proofs.lemmas.List.Elements.{All-get_or}
use Rattle.std.proofs.lemmas.Option.{get_or_from_slice_get, slice_get_within}
use Rattle.bn_machine.specs.Machine.{Program, IsFirstFault, IsInRange, IsMachine, program_of}
use Rattle.bn_lists.specs.Lists.{nth}
use Rattle.bn_machine.specs.declared.quint.Quint.{Quint}
use Rattle.bn_standardise.specs.Rules.{rules_of}
use Rattle.bn_standardise.specs.Numbering.{number_of, states_of}
use Rattle.bn_standardise.specs.Standardised.{numbered, numbering_of, standardised}
use Rattle.bn_standardise.specs.Refusals.{IsAccepted, count_of}
use Rattle.bn_standardise.specs.declared.rule.Rule.{Rule}
use Rattle.bn_standardise.proofs.RuleLemmas.{rules_counted}
use Rattle.bn_standardise.proofs.RangeLemmas.{machine_again}

pub length-rules : (p : Program) → IsMachine p → length (rules_of p) ≡ count_of p
length-rules p machine = sym (length-map (rules_of p) (numbered (numbering_of p)))
    ∙ rules_counted (numbering_of p) p machine

-- the list of an accepted machine isn't long
pub few_rules : (p : Program) (rules : List Rule) → IsAccepted p → rules ≡ rules_of p → length rules < 4001
few_rules p rules h e =
    let count : length rules ≡ count_of p = ap length e ∙ length-rules p h.loose.machine in
    omega (arith, count, h.few)

pub few_quints : (p : Program) (rules : List Rule) (quints : List Quint) → IsAccepted p → rules ≡ rules_of p
    → quints ≡ map (numbered (number_of rules)) rules → length quints < 2 ^ 32
few_quints p rules quints h e made =
    let long : length quints ≡ length rules = ap length made ∙ length-map rules (numbered (number_of rules)) in
    omega (arith, long, few_rules p rules h e)

-- the program of the numbered list
pub program_is : (p : Program) (rules : List Rule) (quints : List Quint) (states symbols : ℕ) → rules ≡ rules_of p
    → quints ≡ map (numbered (number_of rules)) rules → states ≡ states_of rules → symbols ≡ p.symbols →
    program_of quints states symbols ≡ standardised p
program_is p rules quints states symbols e quints_are states_are symbols_are =
    (λ t. program_of (quints_are t) (states_are t) (symbols_are t))
    ∙ ap (λ (rs : List Rule). program_of (map (numbered (number_of rs)) rs) (states_of rs) p.symbols) e

-- a machine has no quintuple out of range
no_first_fault : (p : Program) (i : ℕ) → IsMachine p → IsFirstFault p.states p.symbols p.quints i → ⊥
no_first_fault p i machine fault = go i fault.faulty.0 fault.faulty.1 fault.faulty.2
  where
    go : (i : ℕ) (q : Quint) → nth p.quints i ≡ Some q → (IsInRange p.states p.symbols q → ⊥) → ⊥
    go zero q at out = absurd (cc)
    go (suc k) q at out =
        let P : Quint → Type 0 = IsInRange p.states p.symbols in
        out (subst P (get_or_from_slice_get p.quints k q q at) (All-get_or P p.quints k q
        (slice_get_within p.quints k q at) machine.in_range))

pub no_fault : (p : Program) (rules : List Rule) (quints : List Quint) (states symbols i : ℕ) → IsAccepted p
    → rules ≡ rules_of p → quints ≡ map (numbered (number_of rules)) rules → states ≡ states_of rules
    → symbols ≡ p.symbols →
    IsFirstFault states symbols quints i → ⊥
no_fault p rules quints states symbols i h e quints_are states_are symbols_are fault =
    let again : IsMachine (standardised p) = machine_again p h.loose.machine (omega (arith, h.few)) in
    let P : Program → Type 0 = IsMachine in
    no_first_fault (program_of quints states symbols) i (subst P
    (sym (program_is p rules quints states symbols e quints_are states_are symbols_are)) again) fault

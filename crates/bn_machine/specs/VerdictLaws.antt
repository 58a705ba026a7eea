-- At most one refusal other than `NoMemory` fits, and none other fits quintuples in standard form.
use Rattle.std.specs.Prelude.{◌≡◌, ◌≢◌, List}
use Rattle.bn_machine.specs.declared.quint.Quint.{Quint}
use Rattle.bn_machine.specs.Standard.{IsStandard}
use Rattle.bn_machine.specs.Verdict.{IsStandardRefusal}
use Rattle.bn_machine.specs.declared.why.Why.{Why}
use Rattle.bn_machine.specs.declared.why.Why.TheVariants.{NoMemory}

-- two refusals other than `NoMemory` that fit the same quintuples are equal
abbrev pub VerdictsAreOne : Type 0
VerdictsAreOne = (qs : List Quint) (a b : Why) → a ≢ NoMemory → b ≢ NoMemory → IsStandardRefusal qs a
    → IsStandardRefusal qs b → a ≡ b

-- the only refusal for quintuples in standard form is `NoMemory`
abbrev pub StandardIsAccepted : Type 0
StandardIsAccepted = (qs : List Quint) (a : Why) → IsStandard qs → IsStandardRefusal qs a → a ≡ NoMemory

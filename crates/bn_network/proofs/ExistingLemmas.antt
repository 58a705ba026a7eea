-- Each state has a first command.
use Rattle.std.proofs.Common.{◌≡◌, slice_get, ◌≢◌, inl, inr, ◌⊎◌, ℕ, zero, suc, ◌<◌, ◌==◌, List, [], ◌∷◌, Some, refl}
use Rattle.std.proofs.lemmas.Bool.{cases_Bool, eqb-false, eqb-true}
use Rattle.bn_lists.specs.Lists.{nth}
use Rattle.bn_machine.specs.declared.quint.Side.{Side}
use Rattle.bn_quad.specs.Quadruples.{Quadruples, Rule, final_state_of}
use Rattle.bn_quad.specs.Calls.{IsUniformMachine}
use Rattle.bn_network.specs.Controls.{ControlMove, End, IsEntry, IsFirstOf, Outside, finishes, leaves, waits, to_read}
use Rattle.bn_network.specs.Controls.{to_shift, reads_of, shifts_of, IsNotLeft}
use Rattle.bn_network.specs.ControlLaws.{StatesHaveEntries}
use Rattle.bn_network.proofs.UniformLemmas.{silent}
use Rattle.bn_network.proofs.EntryLemmas.{one_entry, apart}

-- a quadruple of the list that leaves a state, or that there is none
search_for : (l : List (Rule ℕ)) (a : ℕ) → ((n : ℕ) × (x : Rule ℕ) × (slice_get l n ≡ Some x) × (x.from ≡ a))
    ⊎ ((n : ℕ) (x : Rule ℕ)
    → slice_get l n ≡ Some x → x.from ≢ a)
search_for [] a = inr (λ n x e. absurd (none n x e))
  where
    none : (n : ℕ) (x : Rule ℕ) → slice_get [] n ≡ Some x → ⊥
    none n x e = cc
search_for (y ∷ l) a = go (search_for l a)
  where
    later : ((n : ℕ) (x : Rule ℕ) → slice_get l n ≡ Some x → x.from ≢ a) → y.from ≢ a → (n : ℕ) (x : Rule ℕ)
        → slice_get (y ∷ l) n ≡ Some x → x.from ≢ a
    later none ne zero x e = let same : y ≡ x = cc in rw (← same) ne
    later none ne (suc n) x e = none n x e

    go : ((n : ℕ) × (x : Rule ℕ) × (slice_get l n ≡ Some x) × (x.from ≡ a))
        ⊎ ((n : ℕ) (x : Rule ℕ) → slice_get l n ≡ Some x → x.from ≢ a)
        → ((n : ℕ) × (x : Rule ℕ) × (slice_get (y ∷ l) n ≡ Some x) × (x.from ≡ a))
        ⊎ ((n : ℕ) (x : Rule ℕ) → slice_get (y ∷ l) n ≡ Some x → x.from ≢ a)
    go (inl f) = inl (suc f.0, f.1, f.2, f.3)
    go (inr none) = elim (cases_Bool (y.from == a)) [
      | inl here ↦ inl (0, y, refl, eqb-true y.from a here)
      | inr other ↦ inr (later none (eqb-false y.from a other))
    ]

-- a state is left by a quadruple, or by none
pub left_or_not : (machine : Quadruples) (a : ℕ) → ((n : ℕ) × (x : Rule ℕ) × (nth machine.rules n ≡ Some x)
    × (x.from ≡ a)) ⊎ IsNotLeft machine a
left_or_not machine a = go (search_for machine.rules a)
  where
    none : ((n : ℕ) (x : Rule ℕ) → slice_get machine.rules n ≡ Some x → x.from ≢ a) → (n : ℕ) (x : Rule ℕ)
        → nth machine.rules n ≡ Some x → x.from ≢ a
    none h zero x e = absurd (cc)
    none h (suc n) x e = h n x e

    go : ((n : ℕ) × (x : Rule ℕ) × (slice_get machine.rules n ≡ Some x) × (x.from ≡ a))
        ⊎ ((n : ℕ) (x : Rule ℕ) → slice_get machine.rules n ≡ Some x
        → x.from ≢ a)
        → ((n : ℕ) × (x : Rule ℕ) × (nth machine.rules n ≡ Some x) × (x.from ≡ a)) ⊎ IsNotLeft machine a
    go (inl f) = inl (suc f.0, f.1, f.2, f.3)
    go (inr h) = inr (record { none = none h })

-- a quadruple has a first command
first_of : (machine : Quadruples) (u : IsUniformMachine machine) (n : ℕ) (x : Rule ℕ) → nth machine.rules n ≡ Some x
    → (rs : List (ℕ × ℕ)) (ss : List (ℕ × Side)) → reads_of x ≡ rs → shifts_of x ≡ ss
    → (k : ControlMove) × IsFirstOf n x rs ss k
first_of machine u n x is [] [] er es = absurd (u.uniform.active.none n x is (silent x er es))
first_of machine u n x is [] (p ∷ ss) er es = (to_shift n p, refl)
first_of machine u n x is (p ∷ rs) ss er es = (to_read x.from [] p, refl)

-- a state has a first command
pub some_entry : (machine : Quadruples) (u : IsUniformMachine machine) (a : ℕ) → a < machine.states
    → (k : ControlMove) × IsEntry machine a k
some_entry machine u a low = elim (cases_Bool (a == (final_state_of machine.rules))) [
  | inl here ↦ ((End, Outside), finishes (eqb-true a (final_state_of machine.rules) here) refl)
  | inr other ↦ elim (left_or_not machine a) [
    | inl f ↦ let first = first_of machine u f.0 f.1 f.2 (reads_of f.1) (shifts_of f.1) refl refl in
        (first.0, leaves f.0 f.1 f.2 f.3 first.1)
    | inr none ↦ (to_read a [] (1, 0), waits (eqb-false a (final_state_of machine.rules) other) low none refl)
  ]
]

-- each state has one first command, and no two states have one that waits in one state of the control
pub have-entries : StatesHaveEntries
have-entries machine is u = record { one = one_entry machine u; some = some_entry machine u; apart = apart machine u }

-- What the numbering of Bennett's names by first appearance gives: each name has one number.
use Rattle.std.proofs.Common.{◌≡◌, ◌<◌, ◌+◌, ◌∷◌, ◌∙◌, ℕ, suc, zero, Bool, true, List, [], Some, refl, sym, ap, subst}
use Rattle.std.proofs.Common.{arith, inl, inr, slice_get, nat_eq, ◌⊎◌}
use Rattle.std.specs.Bool.{Decides}
use Rattle.std.specs.List.{list_any}
use Rattle.std.proofs.lemmas.Bool.{cases_Bool, false≢true}
use Rattle.std.proofs.lemmas.Bool.Decides.{Decides-eqb}
use Rattle.bn_csv.specs.Numbering.{firsts_by, numbers_from}
use Rattle.bn_csv.proofs.NumberingLemmas.{any-at, any-firsts, apart-firsts, one_number, some_number}
use Rattle.bn_machine.specs.Machine.{Program}
use Rattle.bn_lists.specs.Lists.{nth, IsIn}
use Rattle.bn_machine.specs.declared.quint.Quint.{Quint}
use Rattle.bn_quad.specs.Quadruples.{Rule}
use Rattle.bn_bennett_laws.proofs.MembershipLemmas.{in_head, in_tail, each_of_two, from_flat_map}
use Rattle.bn_bennett_laws.specs.Names.{states_in, NumbersStates, Mentions}
use Rattle.bn_bennett_laws.specs.declared.name.Name.{Name}
use Rattle.bn_table.specs.Rows.{FitsTable, states_in as states_of}
use Rattle.bn_bennett.specs.Translation.{is_same}
use Rattle.bn_bennett.proofs.NameLemmas.{is_same-Decides}

module _ {X : Type 0} (same : X → X → Bool) (decides : (a b : X) → Decides (same a b) (a ≡ b)) where
  pub in_from_any : (y : X) (xs : List X) → list_any (same y) xs ≡ true → IsIn xs y
  in_from_any y [] e = absurd (false≢true e)
  in_from_any y (x ∷ xs) e = elim (cases_Bool (same y x)) [
    | inl hit ↦ subst (λ z. IsIn (z ∷ xs) y) ((decides y x).0 hit) (in_head y xs)
    | inr miss ↦ in_tail x y xs (in_from_any y xs (rw miss at e))
  ]

  pub any_from_in : (y : X) (xs : List X) → IsIn xs y → list_any (same y) xs ≡ true
  any_from_in y xs h = by_place h.place h.stands
    where
      by_place : (n : ℕ) → nth xs n ≡ Some y → list_any (same y) xs ≡ true
      by_place zero e = cc
      by_place (suc i) e = any-at same decides y xs i e

  -- what stands among the first appearances stands in the list
  pub in_from_firsts : (y : X) (xs : List X) (n : ℕ) → slice_get (firsts_by same xs) n ≡ Some y → IsIn xs y
  in_from_firsts y xs n e = in_from_any y xs (sym (any-firsts same decides y xs)
      ∙ any-at same decides y (firsts_by same xs) n e)

-- the names in the order of their first appearance number the states
pub numbers_states : (rs : List (Rule Name)) (names : List Name) → names ≡ firsts_by is_same (states_in rs)
    → NumbersStates rs names
numbers_states rs names e =
    let P : List Name → Type 0 = NumbersStates rs in
    subst P (sym e) (record {
      each = λ q h. some_number is_same is_same-Decides q (firsts_by is_same (states_in rs))
          (any-firsts is_same is_same-Decides q (states_in rs) ∙ any_from_in is_same is_same-Decides q (states_in rs)
          h);
      only = λ n q at. in_from_firsts is_same is_same-Decides q (states_in rs) n at;
      apart = λ m n q at also. one_number is_same is_same-Decides (firsts_by is_same (states_in rs)) m n q
          (apart-firsts is_same is_same-Decides (states_in rs)) at also;
    })

-- ---- each state of a table's machine appears

pub slice_get-numbers_from : (first count k : ℕ) → k < count → slice_get (numbers_from first count) k ≡ Some (first + k)
unfolding numbers_from
slice_get-numbers_from first zero k h = absurd (omega arith)
slice_get-numbers_from first (suc count) zero h = let e : first ≡ first + 0 = omega arith in ap Some e
slice_get-numbers_from first (suc count) (suc k) h = let e : suc first + k ≡ first + suc k =
    omega arith in slice_get-numbers_from (suc first) count k (omega arith) ∙ ap Some e

pub each_mentioned : (p : Program) → FitsTable p → (state : ℕ) → state < p.states → Mentions p.quints state
each_mentioned p fits state low =
    let zero_plus : 0 + state ≡ state = omega arith in
    let at : slice_get (firsts_by nat_eq (states_of p.quints)) state ≡ Some state =
    ap (λ ns. slice_get ns state) fits.numbered ∙ slice_get-numbers_from 0 p.states state low ∙ ap Some zero_plus in
    let found = from_flat_map (λ (q : Quint). q.state ∷ q.next ∷ []) p.quints state
    (in_from_firsts nat_eq Decides-eqb state (states_of p.quints) state at) in
    record {
      number = found.1.place;
      quint = found.0;
      stands = found.1.stands;
      names = each_of_two (λ s. (found.0.state ≡ s) ⊎ (found.0.next ≡ s)) found.0.state found.0.next (inl refl)
          (inr refl) state found.2;
    }

-- The erasing machine over numbers: the tests, its ends, and its runs.
use Rattle.std.specs.Prelude.{◌≡◌, ℕ, zero, suc, ◌+◌, ◌<◌, List, [], ◌∷◌, ◌++◌, length, Some}
use Rattle.std.proofs.Common.{ap, ◌∙◌, subst, arith, length-append}
use Rattle.bn_machine.specs.Machine.{Program}
use Rattle.bn_lists.specs.Lists.{nth}
use Rattle.bn_quad.specs.Quadruples.{Rule, turned, turned_list}
use Rattle.bn_quad.proofs.ReversibleLemmas.{nth-turned_list}
use Rattle.bn_bennett_laws.specs.List.{bennett}
use Rattle.bn_bennett_laws.specs.Renamed.{renamed}
use Rattle.bn_bennett_laws.specs.Stages.{IsStandardMachine}
use Rattle.bn_bennett_laws.proofs.Numbering.{pass_tests, run_alike}
use Rattle.bn_bennett_laws.proofs.Counts.{list_has_ends}
use Rattle.bn_erase_laws.specs.declared.name.ErasingName.{ErasingName}
use Rattle.bn_erase_laws.specs.declared.name.ErasingName.TheVariants.{First}
use Rattle.bn_erase_laws.specs.Lists.{exchanged_rule}
use Rattle.bn_erase_laws.specs.Erasing.{second_name, first_half, backward, second_half, erasing, erasing_initial}
use Rattle.bn_erase_laws.specs.Erasing.{erasing_final}
use Rattle.bn_erase_laws.specs.ErasingLaws.{ErasingNumbersPassTests, ErasingNumbersRunAlike}
use Rattle.bn_erase_laws.proofs.MappedLemmas.{nth_mapped}
use Rattle.bn_erase_laws.proofs.ErasingLemmas.{erasing_passes_tests, length-second}

-- ---- places of two lists joined

pub nth_left : {X : Type 0} (xs ys : List X) (n : ℕ) (x : X) → nth xs n ≡ Some x → nth (xs ++ ys) n ≡ Some x
nth_left [] ys zero x e = absurd (cc)
nth_left [] ys (suc i) x e = absurd (cc)
nth_left (v ∷ xs) ys zero x e = absurd (cc)
nth_left (v ∷ xs) ys (suc zero) x e = e
nth_left (v ∷ xs) ys (suc (suc i)) x e = nth_left xs ys (suc i) x e

nth_right : {X : Type 0} (xs ys : List X) (n m : ℕ) (x : X) → m ≡ length xs + n → 0 < n → nth ys n ≡ Some x
    → nth (xs ++ ys) m ≡ Some x
nth_right [] ys n m x sum some e = let same : n ≡ m = omega arith in subst (λ i. nth ys i ≡ Some x) same e
nth_right (v ∷ xs) ys n zero x sum some e = absurd (omega arith)
nth_right (v ∷ xs) ys n (suc zero) x sum some e = absurd (omega arith)
nth_right (v ∷ xs) ys n (suc (suc i)) x sum some e = nth_right xs ys n (suc i) x (omega arith) some e

-- ---- the ends of the list

module _ (p q : Program) (left : IsStandardMachine p) (right : IsStandardMachine q) where
  -- its first quadruple leaves the initial state
  pub has_first : (r : Rule ErasingName) × (nth (erasing p q) 1 ≡ Some r) × (r.from ≡ erasing_initial p)
  unfolding first_half
  has_first =
      let first = (list_has_ends p left.machine.some).0 in
      let there : nth (first_half p) 1 ≡ Some (renamed First first.0) =
      nth_mapped (renamed First) (bennett p) 1 first.0 first.1 in (
        renamed First first.0,
        nth_left (first_half p) (second_half p q) 1 (renamed First first.0) there,
        ap First first.2,
      )

  -- the last of the second half is the second machine's first, turned round
  last_of_second : (r : Rule ErasingName) × (nth (second_half p q) (length (bennett q)) ≡ Some r)
      × (r.to ≡ erasing_final q)
  unfolding second_half
  last_of_second =
      let first = (list_has_ends q right.machine.some).0 in
      let l : ℕ = length (bennett q) in
      let one : nth (turned_list (bennett q)) l ≡ Some (turned first.0) =
      nth-turned_list (bennett q) 1 l first.0 (omega arith) first.1 in
      let two : nth (backward q) l ≡ Some (exchanged_rule (turned first.0)) =
      nth_mapped exchanged_rule (turned_list (bennett q)) l (turned first.0) one in (
        renamed (second_name p q) (exchanged_rule (turned first.0)),
        nth_mapped (renamed (second_name p q)) (backward q) l (exchanged_rule (turned first.0)) two,
        ap (second_name p q) first.2,
      )

  some_quadruple : 0 < length (bennett q)
  some_quadruple = by_place (bennett q) (list_has_ends q right.machine.some).0.0
      (list_has_ends q right.machine.some).0.1
    where
      by_place : {X : Type 0} (xs : List X) (x : X) → nth xs 1 ≡ Some x → 0 < length xs
      by_place [] x e = absurd (cc)
      by_place (v ∷ xs) x e = omega arith

  -- its last quadruple leads to the final state
  pub has_last : (r : Rule ErasingName) × (nth (erasing p q) (length (erasing p q)) ≡ Some r) × (r.to ≡ erasing_final q)
  has_last =
      let last = last_of_second in
      let count : length (erasing p q) ≡ length (first_half p) + length (bennett q) =
      length-append (first_half p) (second_half p q) ∙ ap (λ n. length (first_half p) + n) (length-second p q) in (
        last.0,
        nth_right (first_half p) (second_half p q) (length (bennett q)) (length (erasing p q)) last.0 count
            some_quadruple last.1,
        last.2,
      )

-- ---- the laws

pub erasing_numbers_pass_tests : ErasingNumbersPassTests
erasing_numbers_pass_tests p q left right name rs same =
    let tests = erasing_passes_tests p q left right in
    pass_tests name rs (erasing p q) (erasing_initial p) (erasing_final q) (has_first p q left right)
    (has_last p q left right) same tests.0 tests.1 tests.2

pub erasing_numbers_run_alike : ErasingNumbersRunAlike
erasing_numbers_run_alike p q left right name machine same keeps rooms c here =
    run_alike name machine (erasing p q) (erasing_initial p) (erasing_final q) (has_first p q left right)
    (has_last p q left right) same (erasing_numbers_pass_tests p q left right name machine.rules same).0 keeps rooms
    c here

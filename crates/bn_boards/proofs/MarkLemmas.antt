-- Never two marked columns in a bank.
use Rattle.std.specs.Prelude.{◌≡◌, ◌≢◌, ℕ, ◌+◌, ◌<◌, ◌≤◌, ◌==◌, ◌&&◌, Bool, true, false, not, List, Option, Some, None}
use Rattle.std.specs.Prelude.{slice_get, refl, ◌⊎◌}
use Rattle.std.specs.Option.{option_map_or}
use Rattle.std.proofs.Common.{arith, sym, ap, ◌∙◌, inl, inr}
use Rattle.std.proofs.lemmas.Bool.Decides.{eqb_tells}
use Rattle.std.proofs.lemmas.Option.{slice_get_within}
use Rattle.bn_lists.specs.Runs.{Reaches}
use Rattle.bn_element.specs.Tables.{Table}
use Rattle.bn_circuits.specs.Circuits.{Circuit, clock}
use Rattle.bn_circuits.specs.Stepping.{run}
use Rattle.bn_circuits.specs.declared.config.Config.{Config}
use Rattle.bn_element.specs.Rotary.{horizontal}
use Rattle.bn_column.specs.Columns.{bar}
use Rattle.bn_realise.specs.Banks.{AreMarked, bottom_at}
use Rattle.bn_realise.proofs.BankCrossingLemmas.{marked-once}
use Rattle.bn_circuits.specs.Situations.{Situation, Turns, IsAtEnd}
use Rattle.bn_rsm.specs.RunCosts.{run_cost}
use Rattle.bn_boards.specs.Boards.{AreModules, IsBoard, StandsFor, IsAmid, base, IsLoose}
use Rattle.bn_boards.proofs.MovedLemmas.{marks}
use Rattle.bn_boards.proofs.ModuleLemmas.{found}
use Rattle.bn_boards.proofs.VisitLemmas.{visits}

-- ---- two bars that lie flat together

-- whether a bar lies flat, as a test
abbrev is_flat : List ℕ → ℕ → Bool
is_flat states e = option_map_or (λ v. v == 0) (slice_get states e) false

-- whether a bar lies flat
flat_tells : (states : List ℕ) (e : ℕ) → ((is_flat states e ≡ true) × (slice_get states e ≡ Some horizontal))
    ⊎ ((is_flat states e ≡ false)
    × (slice_get states e ≢ Some horizontal))
flat_tells states e = by_bar (slice_get states e) refl
  where
    by_bar : (o : Option ℕ) → slice_get states e ≡ o → ((is_flat states e ≡ true)
        × (slice_get states e ≡ Some horizontal)) ⊎ ((is_flat states e ≡ false)
        × (slice_get states e ≢ Some horizontal))
    by_bar None is = inr (ap (λ o. option_map_or (λ v. v == 0) o false) is, λ h. absurd (cc))
    by_bar (Some v) is =
        elim (eqb_tells v 0) [
          | inl zero_is ↦ inl (
            ap (λ o. option_map_or (λ w. w == 0) o false) is ∙ zero_is.0,
            is ∙ ap (λ w. Some w) zero_is.1,
          )
          | inr apart ↦ inr (ap (λ o. option_map_or (λ w. w == 0) o false) is ∙ apart.0, λ h. apart.1 (cc))
        ]

-- not both of two bars lie flat, as a test
abbrev not_both : ℕ → ℕ → Config → Bool
not_both e x d = not (is_flat d.states e && is_flat d.states x)

-- the test holds where not both lie flat
not_both_holds : (e x : ℕ) (d : Config) → (slice_get d.states e ≡ Some horizontal
    → slice_get d.states x ≡ Some horizontal → ⊥) → not_both e x d ≡ true
not_both_holds e x d never =
    elim (flat_tells d.states e) [
      | inl one ↦ (elim (flat_tells d.states x) [
        | inl two ↦ absurd (never one.1 two.1)
        | inr two ↦ rw (one.0, two.0) refl
      ])
      | inr one ↦ rw one.0 refl
    ]

-- and only there
never_both : (e x : ℕ) (d : Config) → not_both e x d ≡ true → slice_get d.states e ≡ Some horizontal
    → slice_get d.states x ≡ Some horizontal → ⊥
never_both e x d holds first second =
    elim (flat_tells d.states e) [
      | inl one ↦ (elim (flat_tells d.states x) [
        | inl two ↦ absurd (let h : not (true && true) ≡ true = (λ i. not (sym one.0 i && sym two.0 i)) ∙ holds in cc)
        | inr two ↦ two.1 second
      ])
      | inr one ↦ one.1 first
    ]

-- a bottom that lies flat is that of the marked column
pub marked_is : (states : List ℕ) (b n k : ℕ) (mark : Option ℕ) (i : ℕ) → AreMarked states b n k mark → i < n
    → slice_get states (bottom_at b k i) ≡ Some horizontal → mark ≡ Some i
marked_is states b n k None i marked low flat = absurd (let h = marked.bottoms i low in cc)
marked_is states b n k (Some q) i marked low flat =
    elim (eqb_tells q i) [
      | inl same ↦ ap (λ v. Some v) same.1
      | inr apart ↦ absurd (let h = marked.bottoms i low ∙ ap (λ v. Some (bar v)) apart.0 in cc)
    ]

module _ (n k : Circuit) (modules : AreModules n) (board : IsBoard n k) (start : Situation) (c : Config)
    (stands : StandsFor n start c) (moves cost : ℕ) (last : Situation) (path : Reaches (Turns n) moves start last)
    (ended : IsAtEnd n last) (is : cost ≡ run_cost n (moves + 1) start) (room : c.steps + cost ≤ clock) where
  -- two bars that never lie flat together
  pub apart_throughout : (e x : ℕ)
      → ((i : ℕ) (s : Situation) (d : Config) → Reaches (Turns n) i start s → StandsFor n s d
      → slice_get d.states e ≡ Some horizontal
      → slice_get d.states x ≡ Some horizontal → ⊥)
      → ((i : ℕ) (s u : Situation) (d : Config) → Reaches (Turns n) i start s → Turns n s u ⊎ (s ≡ u) → IsAmid n s u d
      → slice_get d.states e ≡ Some horizontal → slice_get d.states x ≡ Some horizontal → ⊥)
      → ((d : Config) → IsLoose n last d → slice_get d.states e ≡ Some horizontal
      → slice_get d.states x ≡ Some horizontal → ⊥)
      → (t : ℕ) → t ≤ cost → slice_get (run k c t).states e ≡ Some horizontal
      → slice_get (run k c t).states x ≡ Some horizontal → ⊥
  apart_throughout e x at_move in_move at_loose t low first second =
      elim (visits n k modules board start c stands moves cost last path ended is room (not_both e x)
      (λ i s u d r g h. not_both_holds e x d (in_move i s u d r g h)) (λ d h. not_both_holds e x d (at_loose d h)) t
      low) [
        | inl at_one ↦ at_move at_one.moves at_one.at (run k c t) at_one.run at_one.stands first second
        | inr holds ↦ never_both e x (run k c t) holds first second
      ]

  -- each bank's mark, where the board stands for a situation
  pub stands_mark : (s : Situation) (d : Config) → StandsFor n s d → (m : ℕ) (u : Table) → slice_get n.tables m ≡ Some u
      → (q : ℕ)
      × (slice_get s.states m ≡ Some q) × AreMarked d.states (base n.tables m) u.states u.inputs (Some q)
  stands_mark s d here m u has =
      let count = here.count in
      let within = slice_get_within n.tables m u has in
      let state = found s.states m (omega arith) in
      (state.0, state.1, marks n k modules board m u state.0 d.states (here.rests m u state.0 has state.1).1)

  -- never two marks in a bank
  pub one_mark : (t m j i : ℕ) (u : Table) → t ≤ cost → slice_get n.tables m ≡ Some u → j < u.states → i < u.states
      → slice_get (run k c t).states (bottom_at (base n.tables m) u.inputs j) ≡ Some horizontal
      → slice_get (run k c t).states (bottom_at (base n.tables m) u.inputs i) ≡ Some horizontal → i ≡ j
  one_mark t m j i u low has first second flat other =
      elim (eqb_tells i j) [
        | inl same ↦ same.1
        | inr apart ↦
            absurd (apart_throughout (bottom_at (base n.tables m) u.inputs j) (bottom_at (base n.tables m) u.inputs i)
            (λ v s d r here a b. let mark = stands_mark s d here m u has in apart.1
            (once d.states (Some mark.0) mark.2 a b))
            (λ v s w d r g h a b. let mark = h.mark m u has in apart.1 (once d.states mark.0 mark.1 a b))
            (λ d h a b. let mark = h.mark m u has in apart.1 (once d.states mark.0 mark.1 a b))
            t low flat other)
      ]
    where
      once : (states : List ℕ) (mark : Option ℕ) → AreMarked states (base n.tables m) u.states u.inputs mark
          → slice_get states (bottom_at (base n.tables m) u.inputs j) ≡ Some horizontal
          → slice_get states (bottom_at (base n.tables m) u.inputs i) ≡ Some horizontal → i ≡ j
      once states mark marked a b = marked-once states (base n.tables m) u.states u.inputs mark marked i j second first
          b a

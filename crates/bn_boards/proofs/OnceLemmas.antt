-- A board starts from one configuration.
use Rattle.std.specs.Prelude.{◌≡◌, ◌≢◌, ℕ, ◌+◌, ◌-◌, ◌<◌, ℤ, pos, negsuc, ◌-ℤ◌, [], Some, option_map, slice_get, refl}
use Rattle.std.specs.List.{range_with_len}
use Rattle.std.proofs.Common.{zero, suc, arith, sym, ap, subst, ◌∙◌}
use Rattle.std.proofs.lemmas.Int.{by_lt_z, ints}
use Rattle.std.proofs.lemmas.Option.{slice_get-map}
use Rattle.bn_circuits.specs.Situations.{Situation}
use Rattle.bn_circuits.specs.declared.config.Config.{Config}
use Rattle.bn_machine.specs.Outcome.{Limits}
use Rattle.bn_machine.specs.Tape.{Tape, cell}
use Rattle.bn_machine.specs.Window.{IsBetween}
use Rattle.bn_machine.proofs.TapeLemmas.{same_tape}
use Rattle.bn_quad.specs.Quadruples.{Configuration, Quadruples, initial_of}
use Rattle.bn_network.specs.Controls.{symbol_count}
use Rattle.bn_network.specs.Starts.{FitsTape, FitsWindow}
use Rattle.bn_network_laws.proofs.ShownLemmas.{all_cells}
use Rattle.bn_boards.specs.declared.spelled.Spelled.{Spelled}
use Rattle.bn_boards.specs.declared.spelled.SpelledTape.{SpelledTape}
use Rattle.bn_boards.specs.Layouts.{Layout, spelled_by, spelled_config, tape_in}
use Rattle.bn_boards.proofs.ShownHeadLemmas.{shown_inside}
use Rattle.bn_boards.proofs.SpellingLemmas.{range_get}
use Rattle.bn_boards.proofs.NetworkReadLemmas.{networks-read}
use Rattle.bn_boards.specs.Builds.{Build, IsBuild, IsStart}
use Rattle.bn_boards.proofs.FitLemmas.{fits}
use Rattle.bn_boards.proofs.StartingLemmas.{no_letters as none_low}

-- ---- tapes in a window that spell one

blank : (n : ℕ) → (n ≢ 0 → ⊥) → n ≡ 0
blank zero never = refl
blank (suc n) never = absurd (never (λ h. omega arith))

module _ (z left right many : ℕ) (x y : Tape) (count : many ≡ left + right + 1) (stands : FitsTape z left right x)
    (also : FitsTape z left right y) (same : tape_in left many x ≡ tape_in left many y) where
  heads : x.head ≡ y.head
  heads =
      let both : Some x.head ≡ Some y.head =
      sym (shown_inside left right many x count stands.head) ∙ ap (λ (s : SpelledTape). s.head) same
      ∙ shown_inside left right many y count also.head in
      cc

  shown : (t : Tape) (j : ℕ) → j < many
      → slice_get (tape_in left many t).cells j ≡ Some (Some (cell t (pos j -ℤ pos left)))
  shown t j low =
      slice_get-map (λ i. Some (cell t (pos i -ℤ pos left))) (range_with_len 0 many) j
      ∙ ap (option_map (λ i. Some (cell t (pos i -ℤ pos left)))) (range_get 0 many j j low (omega arith))

  at_place : (j : ℕ) → j < many → cell x (pos j -ℤ pos left) ≡ cell y (pos j -ℤ pos left)
  at_place j low =
      let both : Some (Some (cell x (pos j -ℤ pos left))) ≡ Some (Some (cell y (pos j -ℤ pos left))) =
      sym (shown x j low) ∙ ap (λ (s : SpelledTape). slice_get s.cells j) same ∙ shown y j low in
      cc

  inside : (q : ℤ) → IsBetween left right q → cell x q ≡ cell y q
  inside (pos k) between =
      let low = between.below in
      let is : pos (k + left) -ℤ pos left ≡ pos k = omega (arith, ints) in
      subst (λ p. cell x p ≡ cell y p) is (at_place (k + left) (omega (arith, ints)))
  inside (negsuc k) between =
      let low = between.above in
      let is : pos (left - suc k) -ℤ pos left ≡ negsuc k = omega (arith, ints) in
      subst (λ p. cell x p ≡ cell y p) is (at_place (left - suc k) (omega (arith, ints)))

  outside : (q : ℤ) → (IsBetween left right q → ⊥) → cell x q ≡ cell y q
  outside q never =
      blank (cell x q) (λ some. never (stands.inside q some)) ∙ sym
      (blank (cell y q) (λ some. never (also.inside q some)))

  pub one_tape : x ≡ y
  one_tape = same_tape x y each heads
    where
      each : (q : ℤ) → cell x q ≡ cell y q
      each q =
          by_lt_z q (pos 0 -ℤ pos left)
          (λ beyond. outside q (λ h. (let above = h.above in omega (arith, ints))))
          (λ above. by_lt_z (pos right) q
          (λ beyond. outside q (λ h. (let below = h.below in omega (arith, ints))))
          (λ below. inside q (record { above = above; below = below })))

-- ---- configurations

one_spelled : (m : Quadruples) (l : Limits) (c d : Configuration ℕ) → FitsWindow m l c → FitsWindow m l d
    → c.state ≡ d.state → spelled_config l c ≡ spelled_config l d → c ≡ d
one_spelled m l c d stands also states same =
    let one = one_tape (symbol_count m 1) l.left l.right (l.left + l.right + 1) c.one d.one refl stands.one also.one
    (ap (λ (s : Spelled). s.one) same) in
    let two = one_tape (symbol_count m 2) 0 l.steps (l.steps + 1) c.two d.two (omega arith) stands.two also.two
    (ap (λ (s : Spelled). s.two) same) in
    let three = one_tape (symbol_count m 3) 0 l.output (l.output + 1) c.three d.three (omega arith) stands.three
    also.three (ap (λ (s : Spelled). s.three) same) in
    λ i. record { state = states i; one = one i; two = two i; three = three i }

pub start_spells : (f : Build) → IsBuild f → (c : Configuration ℕ) (s : Situation) (d : Config) → IsStart f c s d
    → spelled_by f.layout d.states ≡ spelled_config f.limits c
start_spells f is c s d start =
    let read = networks-read f.machine f.limits [] f.names f.network f.layout is.is_network is.is_layout
    (none_low (symbol_count f.machine 1)) in
    read.1.spells s d c start.stands (all_cells f.machine f.limits s.states c start.shows)

-- a board of two builds that is at the start of two configurations is at the start of one
pub starts_once : (f g : Build) → IsBuild f → IsBuild g → f.machine ≡ g.machine → f.layout ≡ g.layout
    → (c a : Configuration ℕ) (s u : Situation) (d : Config) → IsStart f c s d → IsStart g a u d → c ≡ a
starts_once f g is also machines layouts c a s u d start begins =
    let limits : g.limits ≡ f.limits =
    sym also.is_layout.limits ∙ ap (λ (b : Layout). b.limits) (sym layouts) ∙ is.is_layout.limits in
    let own = fits f.machine f.limits s.states c start.shows in
    let other = subst (λ (q : Quadruples). FitsWindow q f.limits a) (sym machines)
    (subst (λ (l : Limits). FitsWindow g.machine l a) limits (fits g.machine g.limits u.states a begins.shows)) in
    one_spelled f.machine f.limits c a own other
    (start.initial ∙ ap (λ (q : Quadruples). initial_of q.rules) machines ∙ sym begins.initial)
    (sym (start_spells f is c s d start) ∙ ap (λ (b : Layout). spelled_by b d.states) layouts
    ∙ start_spells g also a u d begins ∙ ap (λ (l : Limits). spelled_config l a) limits)

-- The machine's own run in a window ends.
use Rattle.std.specs.Prelude.{◌≡◌, ◌≢◌, ℕ, ◌+◌, ◌*◌, ◌<◌, ℤ, List, [], ◌∷◌, refl}
use Rattle.std.specs.Ordering.{int_eq}
use Rattle.std.proofs.Common.{sym, ap, subst, ◌∙◌, Bool, true, false, cond}
use Rattle.std.proofs.lemmas.Nat.{same_from_place}
use Rattle.std.proofs.lemmas.Bool.Decides.{Decides-int_eq}
use Rattle.bn_machine.specs.Outcome.{Limits}
use Rattle.bn_machine.specs.Tape.{Tape, cell}
use Rattle.bn_machine.specs.Window.{IsBetween}
use Rattle.bn_machine.proofs.TapeLemmas.{cell-write}
use Rattle.bn_quad.specs.Quadruples.{Deed, Rewrite, Move, Rule, Configuration, Quadruples, IsQuadMachine, done, after}
use Rattle.bn_quad.specs.Quadruples.{IsDeedInRange, AreDeedsInRange, IsRuleInRange, initial_of, final_state_of}
use Rattle.bn_quad.specs.Quadruples.{AreAllowed}
use Rattle.bn_quad.specs.Overlap.{IsDeterministic, IsReversible, HasNoFlaw, initial_flaw}
use Rattle.bn_quad.proofs.ReversibleLemmas.{one_predecessor, same_configuration}
use Rattle.bn_bennett_laws.specs.Stages.{rooms_of}
use Rattle.bn_bennett_laws.specs.Steps.{EndsAt, Exit, Steps}
use Rattle.bn_bennett_laws.proofs.NumberLemmas.{run_of_goes, run_of_steps}
use Rattle.bn_bennett_laws.proofs.StageStepLemmas.{exits_once}
use Rattle.bn_erase_laws.proofs.InverseDecidedLemmas.{goes_or_ends}
use Rattle.bn_network.specs.Controls.{symbol_count}
use Rattle.bn_network.specs.Starts.{FitsTape, FitsWindow, words_on}
use Rattle.bn_network.proofs.RangeLemmas.{rule_in_range, initial_in_range}
use Rattle.bn_network_laws.proofs.StartsLemmas.{inputs-fit}
use Rattle.bn_lists.specs.Finite.{IsFinitePermuting}
use Rattle.bn_lists.proofs.FiniteLemmas.{ends_below}
use Rattle.bn_boards.specs.OwnRuns.{tape_count, situation_count, OwnRun, OwnRunsEnd, OwnRunsFromWordsEnd, OwnRunsAreOne}
use Rattle.bn_boards.proofs.TapeCountLemmas.{tape_number, tape_low, tape_apart}
use Rattle.bn_lists.proofs.PairingLemmas.{paired_low}

-- ---- deeds

-- a tape that stands in a window stands there after a deed of its symbols that leaves its head in it
deed_fits : (z left right : ℕ) (d : Deed) (x : Tape) → IsDeedInRange z d → FitsTape z left right x
    → IsBetween left right (done d x).head → FitsTape z left right (done d x)
deed_fits z left right (Move s) x low fits at = record { head = at; inside = fits.inside; symbols = fits.symbols }
deed_fits z left right (Rewrite read written) x low fits at =
    record {
      head = at;
      inside = λ p filled. inside_by (int_eq p x.head) p refl (λ e. filled (cell-write x written p ∙ e));
      symbols = λ p. subst (λ v. v < z) (sym (cell-write x written p)) (symbols_by (int_eq p x.head) p);
    }
  where
    symbols_by : (b : Bool) (p : ℤ) → cond b written (cell x p) < z
    symbols_by true p = low.1
    symbols_by false p = fits.symbols p

    inside_by : (b : Bool) (p : ℤ) → int_eq p x.head ≡ b → cond b written (cell x p) ≢ 0 → IsBetween left right p
    inside_by true p is filled = subst (IsBetween left right) (sym ((Decides-int_eq p x.head).0 is)) fits.head
    inside_by false p is filled = fits.inside p filled

-- ---- in a machine

module _ (m : Quadruples) (l : Limits) (machine : IsQuadMachine m) (apart : IsDeterministic m.rules)
    (back : IsReversible m.rules) (first : HasNoFlaw (initial_flaw m.rules) m.rules) where
  abbrev final : ℕ
  final = final_state_of m.rules

  abbrev Own : Configuration ℕ → Configuration ℕ → Type 0
  Own = Steps (rooms_of l) m.rules final

  record Stands (c : Configuration ℕ) : Type 0 where
    pub state : c.state < m.states
    pub fits : FitsWindow m l c

  -- ---- numbers

  abbrev count_one : ℕ
  count_one = tape_count (symbol_count m 1) l.left l.right

  abbrev count_two : ℕ
  count_two = tape_count (symbol_count m 2) 0 l.steps

  abbrev count_three : ℕ
  count_three = tape_count (symbol_count m 3) 0 l.output

  one_of : Configuration ℕ → ℕ
  one_of c = tape_number (symbol_count m 1) l.left l.right c.one

  two_of : Configuration ℕ → ℕ
  two_of c = tape_number (symbol_count m 2) 0 l.steps c.two

  three_of : Configuration ℕ → ℕ
  three_of c = tape_number (symbol_count m 3) 0 l.output c.three

  number : Configuration ℕ → ℕ
  number c = c.state * (count_one * (count_two * count_three))
      + (one_of c * (count_two * count_three) + (two_of c * count_three + three_of c))

  module _ (c : Configuration ℕ) (in_c : Stands c) where
    three_low : three_of c < count_three
    unfolding three_of
    three_low = tape_low (symbol_count m 3) 0 l.output c.three in_c.fits.three

    two_low : two_of c * count_three + three_of c < count_two * count_three
    unfolding two_of
    two_low = paired_low (two_of c) (three_of c) count_two count_three
        (tape_low (symbol_count m 2) 0 l.steps c.two in_c.fits.two) three_low

    one_low : one_of c * (count_two * count_three) + (two_of c * count_three + three_of c)
        < count_one * (count_two * count_three)
    unfolding one_of
    one_low = paired_low (one_of c) (two_of c * count_three + three_of c) count_one (count_two * count_three)
        (tape_low (symbol_count m 1) l.left l.right c.one in_c.fits.one) two_low

    number_low : number c < situation_count m l
    unfolding number
    number_low = paired_low c.state (one_of c * (count_two * count_three) + (two_of c * count_three + three_of c))
        m.states (count_one * (count_two * count_three)) in_c.state one_low

  number_apart : (c d : Configuration ℕ) → Stands c → Stands d → number c ≡ number d → c ≡ d
  unfolding number one_of two_of three_of
  number_apart c d in_c in_d same =
      let state = same_from_place c.state
      (one_of c * (count_two * count_three) + (two_of c * count_three + three_of c)) d.state
      (one_of d * (count_two * count_three) + (two_of d * count_three + three_of d))
      (count_one * (count_two * count_three)) (one_low c in_c) (one_low d in_d) same in
      let one = same_from_place (one_of c) (two_of c * count_three + three_of c) (one_of d)
      (two_of d * count_three + three_of d) (count_two * count_three) (two_low c in_c) (two_low d in_d) state.1 in
      let two = same_from_place (two_of c) (three_of c) (two_of d) (three_of d) count_three (three_low c in_c)
      (three_low d in_d) one.1 in
      same_configuration c d state.0
      (tape_apart (symbol_count m 1) l.left l.right c.one d.one in_c.fits.one in_d.fits.one one.0)
      (tape_apart (symbol_count m 2) 0 l.steps c.two d.two in_c.fits.two in_d.fits.two two.0)
      (tape_apart (symbol_count m 3) 0 l.output c.three d.three in_c.fits.three in_d.fits.three two.1)

  -- ---- steps

  deeds_in : (zs : List ℕ) (one two three : Deed) → AreDeedsInRange zs (one ∷ two ∷ three ∷ []) → m.symbols ≡ zs
      → IsDeedInRange (symbol_count m 1) one × IsDeedInRange (symbol_count m 2) two
      × IsDeedInRange (symbol_count m 3) three
  deeds_in [] one two three are is = absurd are
  deeds_in (x ∷ []) one two three are is = absurd are.1
  deeds_in (x ∷ y ∷ []) one two three are is = absurd are.1.1
  deeds_in (x ∷ y ∷ z ∷ zs) one two three are is = rw is (are.0, are.1.0, are.1.1.0)

  by_rule : (c : Configuration ℕ) (r : Rule ℕ) → Stands c → IsRuleInRange m.states m.symbols r
      → AreAllowed (rooms_of l) (after r c) → Stands (after r c)
  by_rule c r in_c range stays =
      let deeds = deeds_in m.symbols r.one r.two r.three range.deeds refl in
      record {
        state = range.to;
        fits = record {
          one = deed_fits (symbol_count m 1) l.left l.right r.one c.one deeds.0 in_c.fits.one stays.one;
          two = deed_fits (symbol_count m 2) 0 l.steps r.two c.two deeds.1 in_c.fits.two stays.two;
          three = deed_fits (symbol_count m 3) 0 l.output r.three c.three deeds.2 in_c.fits.three stays.three;
        };
      }

  step_stands : (c d : Configuration ℕ) → Stands c → Own c d → Stands d
  step_stands c d in_c s =
      let by = s.follows.leads in
      let is = by.leads.gives in
      subst Stands (sym is) (by_rule c by.rule in_c (rule_in_range m machine s.follows.number by.rule by.stands)
      (subst (AreAllowed (rooms_of l)) is s.stays))

  -- no step leads to the initial state
  not_entered : (c d : Configuration ℕ) → d.state ≡ initial_of m.rules → Own c d → ⊥
  not_entered c d initial s =
      let by = s.follows.leads in
      first.none s.follows.number by.rule by.stands
      (sym (ap (λ (x : Configuration ℕ). x.state) by.leads.gives) ∙ initial)

  permuting : IsFinitePermuting Stands Own (situation_count m l)
  permuting = record {
    number = number;
    below = number_low;
    apart = number_apart;
    stays = step_stands;
    one_to_one = λ a b c in_a in_b g h. one_predecessor m.rules back a b c g.follows h.follows;
  }

  own_run : (c : Configuration ℕ) → c.state ≡ initial_of m.rules → FitsWindow m l c → OwnRun m l c
  own_run c initial fits =
      let e = ends_below Stands Own (λ d. (x : Exit) × EndsAt (rooms_of l) m.rules final d x) (situation_count m l)
      permuting (λ d in_d. goes_or_ends (rooms_of l) m.rules final d) c
      (record { state = subst (λ q. q < m.states) (sym initial) (initial_in_range m machine); fits = fits })
      (λ d in_d g. not_entered d c initial g) in
      record {
        steps = e.steps;
        last = e.last;
        exit = e.ended.0;
        runs = run_of_steps (rooms_of l) m apart e.steps c e.last e.run;
        ends = e.ended.1;
        few = e.few;
        fits = e.holds.fits;
      }

pub own-runs-end : OwnRunsEnd
own-runs-end m l machine apart back first c initial fits = own_run m l machine apart back first c initial fits

pub own-runs-words : OwnRunsFromWordsEnd
own-runs-words m l machine apart back first letters one two three inputs =
    own_run m l machine apart back first (words_on m one two three) refl (inputs-fit m l letters one two three inputs)

pub own-runs-one : OwnRunsAreOne
own-runs-one m l apart c a b =
    exits_once (rooms_of l) m.rules (final_state_of m.rules) apart a.steps b.steps c a.last b.last a.exit b.exit
    (record { run = run_of_goes (rooms_of l) m a.steps c a.last a.runs; ends = a.ends })
    (record { run = run_of_goes (rooms_of l) m b.steps c b.last b.runs; ends = b.ends })

-- The heads of a run stay near where they began.
use Rattle.std.specs.Prelude.{◌≡◌, ℕ, zero, suc, ◌+◌, ◌<◌, ◌≤◌, ℤ, pos, ◌-ℤ◌, ◌≤ℤ◌, List}
use Rattle.std.proofs.Common.{refl, sym, subst, arith}
use Rattle.std.proofs.lemmas.Int.{ints}
use Rattle.bn_lists.specs.Runs.{Reaches}
use Rattle.bn_machine.specs.Tape.{Tape, moved}
use Rattle.bn_machine.specs.Window.{Room, anywhere, within, IsBetween, Allows}
use Rattle.bn_machine.specs.declared.quint.Shift.{Shift}
use Rattle.bn_machine.specs.declared.quint.Shift.TheVariants.{Left, Stay, Right}
use Rattle.bn_quad.specs.Quadruples.{Deed, Rewrite, Move, Rule, Configuration, done, Rooms, everywhere, Follows}
use Rattle.bn_bennett_laws.specs.Steps.{Steps, Exit, Leaving, EndsAt, finishes, stops, leaves}
use Rattle.bn_bennett_laws.proofs.StageStepLemmas.{ends_there}
use Rattle.bn_machine.specs.declared.quint.Side.{Side}
use Rattle.bn_quad.specs.Overlap.{IsDeterministic}
use Rattle.bn_erase_laws.proofs.ErasingLemmas.{erasing_passes_tests}
use Rattle.bn_erase_laws.specs.Erasing.{erasing, erasing_start, erasing_final}
use Rattle.bn_erase_laws.specs.ErasingLaws.{ReachesFar, RunsStayNear, NoHeadLeaves}

moved_near : (k : ℕ) (p : ℤ) (s : Shift) → IsBetween k k p → IsBetween (suc k) (suc k) (moved p s)
moved_near k p Left h = let low : (pos 0 -ℤ pos k) ≤ℤ p = h.above in let high : p ≤ℤ pos k =
    h.below in record { above = omega (arith, ints); below = omega (arith, ints) }
moved_near k p Stay h = let low : (pos 0 -ℤ pos k) ≤ℤ p = h.above in let high : p ≤ℤ pos k =
    h.below in record { above = omega (arith, ints); below = omega (arith, ints) }
moved_near k p Right h = let low : (pos 0 -ℤ pos k) ≤ℤ p = h.above in let high : p ≤ℤ pos k =
    h.below in record { above = omega (arith, ints); below = omega (arith, ints) }

-- a deed moves the head by one cell at most
deed_near : (k : ℕ) (d : Deed) (t : Tape) → IsBetween k k t.head → IsBetween (suc k) (suc k) (done d t).head
deed_near k (Rewrite r w) t h = moved_near k t.head Stay h
deed_near k (Move s) t h = moved_near k t.head s h

-- a room that reaches far allows what is near
allows_near : (n k : ℕ) (room : Room) (p : ℤ) → k ≤ n → ReachesFar n room → IsBetween k k p → Allows room p
allows_near n k anywhere p low far h = tt
allows_near n k (within left right) p low far h =
    let above : (pos 0 -ℤ pos k) ≤ℤ p = h.above in
    let below : p ≤ℤ pos k = h.below in
    let one : n ≤ left = far.0 in
    let two : n ≤ right = far.1 in
    record { above = omega (arith, ints); below = omega (arith, ints) }

module _ {Q : Type 0} (rs : List (Rule Q)) (final : Q) where
  -- each head lies at most k cells from 0
  pub record AreNear (k : ℕ) (c : Configuration Q) : Type 0 where
    pub one : IsBetween k k c.one.head
    pub two : IsBetween k k c.two.head
    pub three : IsBetween k k c.three.head

  follows_near : (k : ℕ) (c d : Configuration Q) → AreNear k c → Follows rs c d → AreNear (suc k) d
  follows_near k c d h follows =
      let l = follows.leads in
      subst (AreNear (suc k)) (sym l.leads.gives) (record {
        one = deed_near k l.rule.one c.one h.one;
        two = deed_near k l.rule.two c.two h.two;
        three = deed_near k l.rule.three c.three h.three;
      })

  step_near : (k : ℕ) (c d : Configuration Q) → AreNear k c → Steps everywhere rs final c d → AreNear (suc k) d
  step_near k c d h s = follows_near k c d h s.follows

  -- in whatever rooms
  near_after : (rooms : Rooms) (m k n : ℕ) (c d : Configuration Q) → m + k ≡ n → AreNear k c
      → Reaches (Steps rooms rs final) m c d → AreNear n d
  near_after rooms zero k n c d sum near run = let same : k ≡ n =
      omega arith in subst (λ e. AreNear n e) run (subst (λ i. AreNear i c) same near)
  near_after rooms (suc m) k n c d sum near run = near_after rooms m (suc k) n run.0 d (omega arith)
      (follows_near k c run.0 near run.1.follows) run.2

  pub none_leaves : (rooms : Rooms) → IsDeterministic rs → (n i : ℕ) (b c : Configuration Q) → ReachesFar n rooms.one
      → ReachesFar n rooms.two → ReachesFar n rooms.three → i < n → AreNear 0 b → Reaches (Steps rooms rs final) i b c
      → (tape : ℕ) (side : Side) (e : Exit) → e ≡ Leaving tape side → EndsAt rooms rs final c e → ⊥
  none_leaves rooms apart n i b c one two three early near run tape side e is (finishes final_there why) = cc
  none_leaves rooms apart n i b c one two three early near run tape side e is (stops going none why) = cc
  none_leaves rooms apart n i b c one two three early near run tape side e is
      (leaves tape' side' d going follows out why) =
      let here = near_after rooms i 0 i b c (omega arith) near run in
      let next = follows_near i c d here follows in
      let low : suc i ≤ n = omega arith in
      let step : Steps rooms rs final c d = record {
        going = going;
        follows = follows;
        stays = record {
          one = allows_near n (suc i) rooms.one d.one.head low one next.one;
          two = allows_near n (suc i) rooms.two d.two.head low two next.two;
          three = allows_near n (suc i) rooms.three d.three.head low three next.three;
        };
      } in
      ends_there rooms rs final apart c d e (leaves tape' side' d going follows out why) step

  pub run_near : (n : ℕ) (rooms : Rooms) → ReachesFar n rooms.one → ReachesFar n rooms.two → ReachesFar n rooms.three
      → (m k : ℕ) (c d : Configuration Q) → m + k ≡ n → AreNear k c → Reaches (Steps everywhere rs final) m c d
      → Reaches (Steps rooms rs final) m c d
  run_near n rooms one two three zero k c d sum near run = run
  run_near n rooms one two three (suc m) k c d sum near run =
      let next = step_near k c run.0 near run.1 in
      let low : suc k ≤ n = omega arith in
      let step : Steps rooms rs final c run.0 = record {
        going = run.1.going;
        follows = run.1.follows;
        stays = record {
          one = allows_near n (suc k) rooms.one run.0.one.head low one next.one;
          two = allows_near n (suc k) rooms.two run.0.two.head low two next.two;
          three = allows_near n (suc k) rooms.three run.0.three.head low three next.three;
        };
      } in
      (run.0, step, run_near n rooms one two three m (suc k) run.0 d (omega arith) next run.2)

at_zero : IsBetween 0 0 (pos 0)
at_zero = record { above = omega (arith, ints); below = omega (arith, ints) }

pub runs_stay_near : RunsStayNear
runs_stay_near p q x n rooms d one two three run =
    run_near (erasing p q) (erasing_final q) n rooms one two three n 0 (erasing_start p x) d (omega arith)
    (record { one = at_zero; two = at_zero; three = at_zero }) run

pub no_head_leaves : NoHeadLeaves
no_head_leaves p q left right x n i rooms c one two three early run tape side ends =
    none_leaves (erasing p q) (erasing_final q) rooms (erasing_passes_tests p q left right).0 n i (erasing_start p x) c
    one two three early (record { one = at_zero; two = at_zero; three = at_zero }) run tape side (Leaving tape side)
    refl ends

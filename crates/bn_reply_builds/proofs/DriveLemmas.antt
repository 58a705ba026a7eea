-- A drive has one answer.
use Rattle.std.specs.Prelude.{◌≡◌, ◌≢◌, ℕ, ◌+◌, ◌-◌, ◌*◌, ◌<◌, ◌≤◌, List, Option, Some, None, refl}
use Rattle.std.proofs.Common.{arith, sym, ap, subst, ◌∙◌, inl, inr}
use Rattle.std.proofs.lemmas.Bool.{cases_lt}
use Rattle.bn_lists.specs.Runs.{Reaches}
use Rattle.bn_circuits.specs.Circuits.{clock, Goes, IsStuck}
use Rattle.bn_circuits.specs.Situations.{Situation}
use Rattle.bn_circuits.specs.Stepping.{run}
use Rattle.bn_circuits.proofs.RunLemmas.{run_makes, run_stops}
use Rattle.bn_circuits.specs.declared.config.Config.{Config}
use Rattle.bn_circuits.specs.declared.place.Place.{Place}
use Rattle.bn_circuits.specs.declared.place.Place.TheVariants.{Enter, Left}
use Rattle.bn_quad.specs.Quadruples.{Configuration}
use Rattle.bn_qtable.specs.Rows.{QuadTable}
use Rattle.bn_bennett_laws.specs.Steps.{Exit}
use Rattle.bn_boards.specs.declared.exit.Exit.{Exit as ByExit}
use Rattle.bn_boards.specs.declared.exit.Exit.TheVariants as exit
use Rattle.bn_boards.specs.Layouts.{Layout, IsNamedExit, inside, ends, stuck, right, left, moments}
use Rattle.bn_boards.specs.Builds.{Build, IsBuild, IsStart, build_elements}
use Rattle.bn_boards.specs.Exits.{BoardLeaves, by_end, by_read, by_wait, by_window}
use Rattle.bn_boards.specs.BuildRuns.{BuildRunsTo}
use Rattle.bn_boards.proofs.ConverseLemmas.{builds-tell, builds-once}
use Rattle.bn_boards.proofs.ExitedLemmas.{stuck_at}
use Rattle.bn_reply_builds.specs.DriveText.{drive_text, drive_exit_line, inside_line}
use Rattle.bn_reply_builds.specs.Drives.{Drives, leaves, stays}
use Rattle.bn_reply_builds.specs.DriveLaws.{DrivesHaveOneAnswer}

-- ---- what has left is not inside

abbrev HasLeft : Place → Type 0
HasLeft p = (e : ℕ) × (l : ℕ) × (p ≡ Left e l)

named_left : (b : Layout) (p : Place) (x : ByExit) → IsNamedExit b p x → x ≢ exit.Inside → HasLeft p
named_left b p x (inside e l is) other = absurd (other refl)
named_left b p x (ends is) other = (_, _, is)
named_left b p x (stuck q a t c kept low is) other = (_, _, is)
named_left b p x (right t some few is) other = (_, _, is)
named_left b p x (left t some few is) other = (_, _, is)

leaves_left : (f : Build) (p : Place) (states : List ℕ) (c : Configuration ℕ) (e : Exit) → BoardLeaves f p states c e
    → HasLeft p
leaves_left f p states c e (by_end why named spelled) = named_left f.layout p exit.End named (λ h. cc)
leaves_left f p states c e (by_read t stop why line spelled) = (_, _, line.line)
leaves_left f p states c e (by_wait none why named spelled) = named_left f.layout p _ named (λ h. cc)
leaves_left f p states c e (by_window t side d step why named spelled) = named_left f.layout p _ named (λ h. cc)

not_both : (p : Place) (e l : ℕ) → HasLeft p → p ≡ Enter e l → ⊥
not_both p e l has is = let both : Left has.0 has.1 ≡ Enter e l = sym has.2 ∙ is in cc

module _ (t : QuadTable) (f : Build) (is : IsBuild f) (c : Configuration ℕ) (s : Situation) (at_start : Config)
    (start : IsStart f c s at_start) (most : ℕ) (room : most + 48 * build_elements f ≤ clock) where
  abbrev there : Config
  there = run f.circuit at_start most

  -- ---- an answer

  abbrev Answer : Type 0
  Answer = (exit : Option Exit) × (text : List ℕ) × Drives t f c s at_start most exit text

  stopped : (n : ℕ) → n ≤ most → Reaches (Goes f.circuit) n at_start there → IsStuck f.circuit there → Answer
  stopped n low reaches ended =
      let told = builds-tell f is c s at_start start n there reaches ended (omega arith) in
      let cost = told.cost in (
        Some told.exit,
        drive_text t f (drive_exit_line t told.final told.exit) told.steps (run f.circuit at_start told.ran.cost),
        leaves told.steps told.final told.exit told.ends told.ran (omega arith) refl refl,
      )

  by_place : (p : Place) → there.place ≡ p → (n : ℕ) → n ≤ most → Reaches (Goes f.circuit) n at_start there
      → (n < most → IsStuck f.circuit there) → Answer
  by_place (Left e l) at n low reaches ended = stopped n low reaches (stuck_at f.circuit there e l at)
  by_place (Enter e l) at n low reaches ended = elim (cases_lt n most) [
    | inl fewer ↦ stopped n low reaches (ended fewer)
    | inr all ↦
        (let same : n ≡ most = omega arith in (
          None,
          drive_text t f (inside_line (Enter e l)) (moments f.layout f.circuit most at_start - 1) there,
          stays e l (subst (λ i. Reaches (Goes f.circuit) i at_start there) same reaches) at refl refl,
        ))
  ]

  answer : Answer
  answer = let made = run_makes f.circuit at_start most in
      by_place there.place refl made.made made.within made.reaches made.ended

  -- ---- only one

  apart : (n : ℕ) (d : Configuration ℕ) (e : Exit) (ran : BuildRunsTo f s at_start n d e) → ran.cost ≤ most
      → (element l : ℕ) → there.place ≡ Enter element l → ⊥
  apart n d e ran low element l at =
      let same : there ≡ run f.circuit at_start ran.cost =
      run_stops f.circuit ran.cost most at_start (run f.circuit at_start ran.cost) ran.run_to low
      (λ fewer. ran.ended) in
      not_both (run f.circuit at_start ran.cost).place element l
      (leaves_left f (run f.circuit at_start ran.cost).place (run f.circuit at_start ran.cost).states d e
      ran.leaves) (ap (λ (x : Config). x.place) (sym same) ∙ at)

  only : (x y : Option Exit) (a b : List ℕ) → Drives t f c s at_start most x a → Drives t f c s at_start most y b
      → (x ≡ y) × (a ≡ b)
  only x y a b (leaves n d e ends_so ran low why text) (leaves m g h again other few also words) =
      let one = builds-once.0 f is c n m d g e h ends_so again in
      let same = builds-once.1 f s at_start n m d g e h ran other in (
        why ∙ ap Some one.2 ∙ sym also,
        text ∙ (λ i. drive_text t f (drive_exit_line t (one.1 i) (one.2 i)) (one.0 i) (same.1 i)) ∙ sym words,
      )
  only x y a b (leaves n d e ends_so ran low why text) (stays element l reaches at also words) =
      absurd (apart n d e ran low element l at)
  only x y a b (stays element l reaches at why text) (leaves n d e ends_so ran low also words) =
      absurd (apart n d e ran low element l at)
  only x y a b (stays element l reaches at why text) (stays other i again here also words) =
      let both : Enter element l ≡ Enter other i = sym at ∙ here in
      let one : element ≡ other = cc in
      let two : l ≡ i = cc in (
        why ∙ sym also,
        text ∙ (λ j. drive_text t f (inside_line (Enter (one j) (two j)))
            (moments f.layout f.circuit most at_start - 1) there) ∙ sym words,
      )

pub drives-once : DrivesHaveOneAnswer
drives-once t f is c s at_start start most room =
    (answer t f is c s at_start start most room, λ x y a b h k. only t f is c s at_start start most room x y a b h k)

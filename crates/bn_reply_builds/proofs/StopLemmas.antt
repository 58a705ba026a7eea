-- What each head scans where a machine is stuck at a read.
use Rattle.std.specs.Prelude.{◌≡◌, ◌≢◌, ℕ, ◌+◌, ◌<◌, List, [], ◌∷◌, ◌++◌, Some, refl}
use Rattle.std.proofs.Common.{zero, suc, arith, sym, ap, subst, ◌∙◌}
use Rattle.bn_lists.specs.Lists.{nth}
use Rattle.bn_machine.specs.Outcome.{Limits}
use Rattle.bn_machine.specs.Tape.{Tape, scanned}
use Rattle.bn_quad.specs.Quadruples.{Configuration, Deed, Move, Quadruples, Rewrite, Rule, DeedApplies}
use Rattle.bn_network.specs.Controls.{reads, symbols_read}
use Rattle.bn_network.specs.Networks.{IsTape}
use Rattle.bn_network_laws.specs.Ends.{read_by}
use Rattle.bn_network_laws.specs.Stops.{AdmitsBefore, DeedReads, deed_at, symbols_before, taken_to}
use Rattle.bn_boards.specs.declared.spelled.Spelled.{Spelled}
use Rattle.bn_boards.specs.Layouts.{tape_in}
use Rattle.bn_control.specs.Names.{listed}
use Rattle.bn_reply_builds.specs.declared.awaited.Answer.{Answer}
use Rattle.bn_reply_builds.specs.declared.awaited.Read.{Read}
use Rattle.bn_reply_builds.specs.Stopping.{IsAnswered}

-- ---- what a quadruple reads before

-- the last, where the second is read
last_by : (d e : Deed) (x : Tape) → DeedReads e → DeedApplies e x
    → (front : List ℕ) × (symbols_read (reads 1 (d ∷ e ∷ [])) ≡ front ++ (scanned x ∷ []))
last_by d (Move s) x is applies = absurd is
last_by (Rewrite b v) (Rewrite a w) x is applies = (b ∷ [], ap (λ s. b ∷ s ∷ []) (sym applies))
last_by (Move s) (Rewrite a w) x is applies = ([], ap (λ s. s ∷ []) (sym applies))

pub second_read : (r : Rule ℕ) (d : Configuration ℕ) → AdmitsBefore r d 3 → DeedReads r.two
    → (front : List ℕ) × (symbols_before r 3 ≡ front ++ (scanned d.two ∷ []))
second_read r d admits is = last_by r.one r.two d.two is admits.1

-- ---- what is still in the cells

kept_by : (d : Deed) (x : Tape) → (DeedReads d → ⊥) → read_by d x ≡ x
kept_by (Rewrite a w) x none = absurd (none tt)
kept_by (Move s) x none = refl

pub first_kept : (r : Rule ℕ) (d : Configuration ℕ) (t : ℕ) → 1 < t → (DeedReads r.one → ⊥)
    → (taken_to r d t).one ≡ d.one
first_kept r d zero low none = absurd (omega arith)
first_kept r d (suc zero) low none = absurd (omega arith)
first_kept r d (suc (suc zero)) low none = kept_by r.one d.one none
first_kept r d (suc (suc (suc t))) low none = kept_by r.one d.one none

pub second_kept : (r : Rule ℕ) (d : Configuration ℕ) (t : ℕ) → t ≢ 2 → (t ≡ 3 → DeedReads r.two → ⊥) → IsTape t
    → (taken_to r d t).two ≡ d.two
second_kept r d zero other none is = absurd (let h = is.low in omega arith)
second_kept r d (suc zero) other none is = refl
second_kept r d (suc (suc zero)) other none is = absurd (other refl)
second_kept r d (suc (suc (suc zero))) other none is = kept_by r.two d.two (none refl)
second_kept r d (suc (suc (suc (suc t)))) other none is = absurd (let h = is.high in omega arith)

pub third_kept : (r : Rule ℕ) (d : Configuration ℕ) (t : ℕ) → t ≢ 3 → IsTape t → (taken_to r d t).three ≡ d.three
third_kept r d zero other is = absurd (let h = is.low in omega arith)
third_kept r d (suc zero) other is = refl
third_kept r d (suc (suc zero)) other is = refl
third_kept r d (suc (suc (suc zero))) other is = absurd (other refl)
third_kept r d (suc (suc (suc (suc t)))) other is = absurd (let h = is.high in omega arith)

-- ---- by the answer

module _ (m : Quadruples) (l : Limits) (read : Read) (answer : Answer) (shown : Spelled) (d : Configuration ℕ)
    (is : IsAnswered m l read answer shown d) where
  pub later : answer.tape ≢ 1 → 1 < answer.tape
  later other = let low = is.tape.low in omega (arith, other)

  pub second_before : answer.tape ≡ 3 → DeedReads is.rule.two
      → (front : List ℕ) × (listed read.before ≡ front ++ (scanned d.two ∷ []))
  second_before last reads_it =
      let begun = is.begun (omega (arith, last)) in
      let found = second_read is.rule d (subst (AdmitsBefore is.rule d) last begun.before) reads_it in
      (found.0, is.before ∙ ap (symbols_before is.rule) last ∙ found.1)

  -- on a tape that wasn't read
  pub first_cells : answer.tape ≢ 1 → (DeedReads is.rule.one → ⊥)
      → shown.one ≡ tape_in l.left (l.left + l.right + 1) d.one
  first_cells other none =
      ap (λ (s : Spelled). s.one) is.spells
      ∙ ap (tape_in l.left (l.left + l.right + 1)) (first_kept is.rule d answer.tape (later other) none)

  pub second_cells : answer.tape ≢ 2 → (answer.tape ≡ 3 → DeedReads is.rule.two → ⊥)
      → shown.two ≡ tape_in 0 (l.steps + 1) d.two
  second_cells other none =
      ap (λ (s : Spelled). s.two) is.spells
      ∙ ap (tape_in 0 (l.steps + 1)) (second_kept is.rule d answer.tape other none is.tape)

  pub third_cells : answer.tape ≢ 3 → shown.three ≡ tape_in 0 (l.output + 1) d.three
  third_cells other =
      ap (λ (s : Spelled). s.three) is.spells
      ∙ ap (tape_in 0 (l.output + 1)) (third_kept is.rule d answer.tape other is.tape)

  -- by the quadruples that leave the state
  abbrev ReadSo : ℕ → Type 0
  ReadSo t = (n : ℕ) (r : Rule ℕ) → nth m.rules n ≡ Some r → r.from ≡ read.state → DeedReads (deed_at r t)

  abbrev UnreadSo : ℕ → Type 0
  UnreadSo t = (n : ℕ) (r : Rule ℕ) → nth m.rules n ≡ Some r → r.from ≡ read.state → DeedReads (deed_at r t) → ⊥

  pub first_unread : answer.tape ≢ 1 → UnreadSo 1 → DeedReads is.rule.one → ⊥
  first_unread other none =
      let begun = is.begun (later other) in
      none begun.number is.rule begun.stands (begun.from ∙ sym is.state)

  pub second_read_so : answer.tape ≡ 3 → ReadSo 2 → DeedReads is.rule.two
  second_read_so last all =
      let begun = is.begun (omega (arith, last)) in
      all begun.number is.rule begun.stands (begun.from ∙ sym is.state)

  pub second_unread : UnreadSo 2 → answer.tape ≡ 3 → DeedReads is.rule.two → ⊥
  second_unread none last =
      let begun = is.begun (omega (arith, last)) in
      none begun.number is.rule begun.stands (begun.from ∙ sym is.state)

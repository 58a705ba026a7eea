-- What the three tapes hold where the machine's own run is stuck or has no room.
use Rattle.std.specs.Prelude.{◌≡◌, ◌⊎◌, ℕ, List, [], Some, take, refl}
use Rattle.std.proofs.Common.{sym, ap, subst, ◌∙◌, inl, inr}
use Rattle.bn_lists.specs.Lists.{IsIn, nth}
use Rattle.bn_machine.specs.Machine.{Program, final_of}
use Rattle.bn_machine.specs.Outcome as outcome
use Rattle.bn_machine.specs.Outcome.{Limits}
use Rattle.bn_machine.specs.Tape.{Tape, blank_tape, shift, write}
use Rattle.bn_machine.proofs.TapeLemmas.{write-scanned}
use Rattle.bn_machine.specs.declared.quint.Quint.{Quint}
use Rattle.bn_machine.specs.declared.quint.Shift.TheVariants.{Right}
use Rattle.bn_machine.specs.declared.quint.Side.{Side}
use Rattle.bn_quad.specs.Quadruples.{Configuration, Deed, Follows, Move, Rewrite, Rule}
use Rattle.bn_bennett_laws.specs.List.{bennett, keep, rest}
use Rattle.bn_bennett_laws.specs.Renamed.{in_state, rename, renamed}
use Rattle.bn_bennett_laws.specs.Stages.{HasNoRoom, copying, history, for_number, for_shift, to_read, to_write}
use Rattle.bn_bennett_laws.specs.declared.name.Name.{Name}
use Rattle.bn_bennett_laws.specs.declared.name.Name.TheVariants.{Compute, ComputeWithin, GoRight}
use Rattle.bn_bennett_laws.proofs.ListLemmas.{each_rule}
use Rattle.bn_bennett_laws.proofs.RenamedLemmas.{nth_renamed}
use Rattle.bn_bennett_laws.proofs.Tapes.{history-blank, scanned-word}
use Rattle.bn_network_laws.specs.Ends.{left_at, read_by, shift_by}
use Rattle.bn_boards.specs.BoardRuns as ends
use Rattle.bn_boards.specs.BoardRuns.{HasEndTapes}
use Rattle.bn_boards.proofs.StuckLemmas.{HoldsStuck}

-- ---- where the machine is stuck

pub stuck_ends : (p : Program) (word : List ℕ) (l : Limits) (i state symbol : ℕ) (d : Configuration ℕ)
    → HoldsStuck p word i state symbol d
    → HasEndTapes p word l i (outcome.Stuck state symbol) (write d.one 0, d.two, d.three)
stuck_ends p word l i state symbol d holds = record {
  moment = holds.moment;
  numbers = holds.numbers;
  run = holds.follows;
  steps = holds.counted;
  tapes = ends.at_stop (λ k. outcome.Stuck (sym holds.state_is k) (sym holds.symbol_is k))
      (λ k. (write (holds.one k) 0, holds.two k, holds.three k));
}

-- ---- what the quadruples of a state do on the tapes

-- that of a step's first half, or of copying, which begins in the final state; of its second half; and to the right
abbrev Deeds : Program → Name → Rule Name → Type 0
Deeds p (Compute j) r = ((a b : ℕ) × (r.one ≡ Rewrite a b) × (r.two ≡ Move Right) × (r.three ≡ keep 0))
    ⊎ (j ≡ final_of p.quints)
Deeds p (ComputeWithin m) r = (q : Quint) × (nth p.quints m ≡ Some q) × (r.one ≡ Move q.shift) × (r.two ≡ Rewrite 0 m)
    × (r.three ≡ rest)
Deeds p GoRight r = (r.one ≡ Move Right) × (r.two ≡ rest) × (r.three ≡ Move Right)
Deeds p _ r = Unit {0}

deeds : (p : Program) (r : Rule Name) → IsIn (bennett p) r → Deeds p r.from r
deeds p r h =
    each_rule (λ r. Deeds p r.from r) p (λ m q stands. inl (q.read, q.write, refl, refl, refl))
    (λ m q stands. (q, stands, refl, refl, refl)) (inr refl) (refl, refl, refl) (λ x some few. tt) tt tt
    (λ x some few. tt) tt (λ m q stands. tt) (λ m q stands. tt) r h

-- ---- where it has no room

module _ (p : Program) (word : List ℕ) (l : Limits) (i : ℕ) (name : ℕ → Name) (rs : List (Rule ℕ))
    (rules : rename name rs ≡ bennett p) (d e : Configuration ℕ) (step : Follows rs d e) where
  abbrev r : Rule ℕ
  r = step.leads.rule

  abbrev x : Configuration Name
  x = in_state name d

  there : IsIn (bennett p) (renamed name r)
  there = subst (λ qs. IsIn qs (renamed name r)) rules (record
      { place = step.number; stands = nth_renamed name rs step.number r step.leads.stands })

  -- what the quadruple that would lead on does, by the state's name
  deeds_in : (n : Name) → x.state ≡ n → Deeds p n (renamed name r)
  deeds_in n is = subst (λ v. Deeds p v (renamed name r)) (sym (ap name step.leads.leads.applies.from) ∙ is)
      (deeds p (renamed name r) there)

  -- a deed's read and its shift on a tape
  read_is : (v w : Deed) (t u : Tape) → v ≡ w → t ≡ u → read_by v t ≡ read_by w u
  read_is v w t u a b = λ k. read_by (a k) (b k)

  shift_is : (v w : Deed) (t u : Tape) → v ≡ w → t ≡ u → shift_by v (read_by v t) ≡ shift_by w (read_by w u)
  shift_is v w t u a b = λ k. shift_by (a k) (read_by (a k) (b k))

  -- three tapes, one by one
  three_are : (a b c u v w : Tape) → a ≡ u → b ≡ v → c ≡ w → ◌≡◌ {A = Tape × Tape × Tape} (a, b, c) (u, v, w)
  three_are a b c u v w one two three = λ k. (one k, two k, three k)

  abbrev Left : ℕ → Side → Type 0
  Left tape end = HasEndTapes p word l i (outcome.Outside tape end)
      ((left_at tape r d).one, (left_at tape r d).two, (left_at tape r d).three)

  pub leaves : (tape : ℕ) (end : Side) → HasNoRoom p word l i tape end x → Left tape end
  leaves tape end (for_number c after ns follows counted goes tape_is end_is is) =
      by_deeds (deeds_in (Compute c.state) (ap (λ (v : Configuration Name). v.state) is))
    where
      by_deeds : Deeds p (Compute c.state) (renamed name r) → Left tape end
      by_deeds (inr final) = absurd (goes.1.going final)
      by_deeds (inl does) = subst (λ t. Left t end) (sym tape_is) (record {
        moment = c;
        numbers = ns;
        run = follows;
        steps = counted;
        tapes = ends.for_number after goes (λ k. outcome.Outside 2 (end_is k)) (three_are _ _ _ _ _ _
            (shift_is r.one (Rewrite does.0 does.1) d.one c.tape does.2 (ap (λ (v : Configuration Name). v.one) is))
            (shift_is r.two (Move Right) d.two (history ns) does.3 (ap (λ (v : Configuration Name). v.two) is))
            (read_is r.three (keep 0) d.three blank_tape does.4 (ap (λ (v : Configuration Name). v.three) is)
            ∙ write-scanned blank_tape 0 (scanned-word [])));
      })
  leaves tape end (for_shift c after ns m by follows counted tape_is is) =
      let does = deeds_in (ComputeWithin m) (ap (λ (v : Configuration Name). v.state) is) in
      let both : Some does.0 ≡ Some by.quint = sym does.1 ∙ by.match.stands in
      let same : does.0 ≡ by.quint = cc in
      let shifts : r.one ≡ Move by.quint.shift = does.2 ∙ ap (λ (q : Quint). Move q.shift) same in
      subst (λ t. Left t end) (sym tape_is) (record {
        moment = c;
        numbers = ns;
        run = follows;
        steps = counted;
        tapes = ends.for_shift after end (m, by) refl (three_are _ _ _ _ _ _
            (shift_is r.one (Move by.quint.shift) d.one (write c.tape by.quint.write) shifts
            (ap (λ (v : Configuration Name). v.one) is) ∙ sym by.applies.writes)
            (read_is r.two (Rewrite 0 m) d.two (shift (history ns) Right) does.3
            (ap (λ (v : Configuration Name). v.two) is) ∙ write-scanned (shift (history ns) Right) 0
            (history-blank ns))
            (read_is r.three rest d.three blank_tape does.4 (ap (λ (v : Configuration Name). v.three) is)));
      })
  leaves tape end (to_read c ns y k halts counted tape_is end_is last is) =
      let does = deeds_in GoRight (ap (λ (v : Configuration Name). v.state) is) in
      let at = copying GoRight c ns (take k y) k in
      subst (λ t. Left t end) (sym tape_is) (record {
        moment = c;
        numbers = ns;
        run = halts.run;
        steps = counted;
        tapes = ends.to_read y k halts.final halts.output (λ j. outcome.Outside 1 (end_is j)) last
            (three_are _ _ _ _ _ _
            (shift_is r.one (Move Right) d.one at.one does.0 (ap (λ (v : Configuration Name). v.one) is))
            (read_is r.two rest d.two at.two does.1 (ap (λ (v : Configuration Name). v.two) is))
            (read_is r.three (Move Right) d.three at.three does.2 (ap (λ (v : Configuration Name). v.three) is)));
      })
  leaves tape end (to_write c ns y k halts counted tape_is end_is last is) =
      let does = deeds_in GoRight (ap (λ (v : Configuration Name). v.state) is) in
      let at = copying GoRight c ns (take k y) k in
      subst (λ t. Left t end) (sym tape_is) (record {
        moment = c;
        numbers = ns;
        run = halts.run;
        steps = counted;
        tapes = ends.to_write y k halts.final halts.output (λ j. outcome.Outside 3 (end_is j)) last
            (three_are _ _ _ _ _ _
            (shift_is r.one (Move Right) d.one at.one does.0 (ap (λ (v : Configuration Name). v.one) is))
            (shift_is r.two rest d.two at.two does.1 (ap (λ (v : Configuration Name). v.two) is))
            (shift_is r.three (Move Right) d.three at.three does.2 (ap (λ (v : Configuration Name). v.three) is)));
      })

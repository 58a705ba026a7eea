-- A stage of a run on tapes in windows, the configuration that it represents, and the next step.
use Rattle.std.proofs.Common.{◌≡◌, ℕ, zero, suc, ◌+◌, ◌≤◌, cond, List, [], length, take, min, max, refl, sym}
use Rattle.std.proofs.Common.{ap, ◌∙◌, subst, arith}
use Rattle.std.specs.Prelude.{ℤ, pos, ◌+ℤ◌, ◌-ℤ◌, ◌≤ℤ◌, ◌<ℤ◌}
use Rattle.std.specs.Ordering.{int_eq}
use Rattle.std.proofs.lemmas.Int.{ints}
use Rattle.std.proofs.lemmas.List.{take_min}
use Rattle.bn_base.specs.declared.limits.TheConstants.{MOST_COUNT}
use Rattle.bn_machine.specs.Machine.{Program, program_of}
use Rattle.bn_machine.specs.Tape.{Tape, cell, scanned, word_tape}
use Rattle.bn_machine.specs.Window.{Windowed, new_window, with_tape}
use Rattle.bn_machine.specs.declared.quint.Shift.TheVariants as shifts
use Rattle.bn_machine.specs.declared.quint.Side.{Side}
use Rattle.bn_machine.specs.declared.quint.Side.TheVariants as sides
use Rattle.bn_machine.specs.declared.tape.TheConstants.Tape.{GREATEST_SIDE}
use Rattle.bn_machine.proofs.MachineStepLemmas.{agrees_start}
use Rattle.bn_machine.proofs.TapeLemmas.{cell-write}
use Rattle.bn_quad.specs.Calls.{AreSameWindows, DeedLeaves, DeedStays, IsLeaving, IsQuadTurn, LeavesAt, configuration}
use Rattle.bn_quad.specs.Calls.{rooms_of, windows_of}
use Rattle.bn_quad.specs.Quadruples.{AppliesTo, Configuration, Deed, DeedApplies, GoesBy, IsFirstRule, IsQuadrupleStuck}
use Rattle.bn_quad.specs.Quadruples.{Move, Quadruples, QuadruplesRunTo, Rewrite, Rule, after, deeds_of, done}
use Rattle.bn_quad.specs.Quadruples.{everywhere}
use Rattle.bn_quad.specs.declared.tapes.QuadTurn.{QuadTurn}
use Rattle.bn_quad.specs.declared.tapes.QuadTurn.TheVariants as turns
use Rattle.bn_quad.specs.declared.tapes.Tapes.{Tapes}
use Rattle.bn_rooms.specs.OneSided.{IsFirstLeft, OneSidedStep, second, third}
use Rattle.bn_reply_rooms.specs.RoomRun.{IsRoomStage, IsRoomTape, IsRoomTurn, IsTapeStage}

-- ---- a tape

-- how many letters of a word stand on a tape, and how far the tape reaches to the right
abbrev held : List ℕ → ℕ
held word = min GREATEST_SIDE (length word)

abbrev pub room_window : ℕ → List ℕ → ℕ → Windowed
room_window left word n = new_window left (max (held word) (n + 1)) (take (held word) word)

no_program : Program
no_program = program_of [] 0 0

held_cells : (word : List ℕ) (q : ℤ) → q ≤ℤ pos GREATEST_SIDE
    → cell (word_tape (take (held word) word)) q ≡ cell (word_tape word) q
held_cells word q inside =
    ap (λ (xs : List ℕ). cell (word_tape xs) q) (take_min GREATEST_SIDE word)
    ∙ sym ((agrees_start no_program word GREATEST_SIDE).cells q inside)

pub tape_begins : (left : ℕ) (word : List ℕ) (n : ℕ) (w : Windowed) → n ≤ MOST_COUNT → w ≡ room_window left word n
    → IsRoomTape n 0 word w
tape_begins left word n w few is = subst (IsRoomTape n 0 word) (sym is) (record {
  wide = omega arith;
  head = refl;
  cells = λ q inside. held_cells word q (omega (arith, ints, few, inside));
  near_left = omega (arith, ints);
  near_right = omega (arith, ints);
})

-- ---- a deed

deed_cells : (d : Deed) (b q : ℤ) (t u : Tape) → t.head ≡ u.head → ((p : ℤ) → p ≤ℤ b → cell t p ≡ cell u p) → q ≤ℤ b
    → cell (done d t) q ≡ cell (done d u) q
deed_cells (Rewrite read written) b q t u head cells inside =
    cell-write t written q ∙ (λ k. cond (int_eq q (head k)) written (cells q inside k)) ∙ sym (cell-write u written q)
deed_cells (Move s) b q t u head cells inside = cells q inside

deed_head : (d : Deed) (t u : Tape) → t.head ≡ u.head → (done d t).head ≡ (done d u).head
deed_head (Rewrite read written) t u head = head
deed_head (Move shifts.Left) t u head = ap (λ (p : ℤ). p -ℤ pos 1) head
deed_head (Move shifts.Stay) t u head = head
deed_head (Move shifts.Right) t u head = ap (λ (p : ℤ). p +ℤ pos 1) head

deed_near : (d : Deed) (t : Tape) → ((t.head -ℤ pos 1) ≤ℤ (done d t).head) × ((done d t).head ≤ℤ (t.head +ℤ pos 1))
deed_near (Rewrite read written) t = (omega (arith, ints), omega (arith, ints))
deed_near (Move shifts.Left) t = (omega (arith, ints), omega (arith, ints))
deed_near (Move shifts.Stay) t = (omega (arith, ints), omega (arith, ints))
deed_near (Move shifts.Right) t = (omega (arith, ints), omega (arith, ints))

deed_applies : (d : Deed) (t u : Tape) → scanned t ≡ scanned u → DeedApplies d t → DeedApplies d u
deed_applies (Rewrite read written) t u same applies = sym same ∙ applies
deed_applies (Move s) t u same applies = tt

module _ (n i : ℕ) (early : i ≤ n) (w : Windowed) (t : Tape) (h : IsTapeStage n i w t) where
  tape_scans : scanned w.tape ≡ scanned t
  tape_scans =
      let wide : n + 1 ≤ w.right = h.wide in
      let same : w.tape.head ≡ t.head = h.head in
      let near : t.head ≤ℤ pos i = h.near_right in
      h.cells w.tape.head (omega (arith, ints, early, wide, same, near)) ∙ ap (cell t) h.head

  tape_more : (d : Deed) (v : Windowed) → v ≡ with_tape w v.tape → v.tape ≡ done d w.tape
      → IsTapeStage n (i + 1) v (done d t)
  tape_more d v same is =
      let right : v.right ≡ w.right = ap (λ (x : Windowed). x.right) same in
      let wide : n + 1 ≤ w.right = h.wide in
      let near = deed_near d t in
      let low = h.near_left in
      let high = h.near_right in
      record {
        wide = omega (arith, wide, right);
        head = ap (λ (x : Tape). x.head) is ∙ deed_head d w.tape t h.head;
        cells = λ q inside. ap (λ (x : Tape). cell x q) is
            ∙ deed_cells d (pos w.right) q w.tape t h.head h.cells (subst (λ (r : ℕ). q ≤ℤ pos r) right inside);
        near_left = omega (arith, ints, low, near.0);
        near_right = omega (arith, ints, high, near.1);
      }

  -- no deed leaves a tape that reaches further than n steps
  wide_stays : (d : Deed) (side : Side) → n + 1 ≤ w.left → DeedLeaves d w side → ⊥
  wide_stays (Rewrite read written) side far out = out
  wide_stays (Move s) side far out = by s side out
    where
      by : (s : _) (side : Side) → DeedLeaves (Move s) w side → ⊥
      by shifts.Left sides.Left out =
          let same = h.head in let low = h.near_left in absurd (omega (arith, ints, early, far, same, low, out))
      by shifts.Stay sides.Left out =
          let same = h.head in let low = h.near_left in absurd (omega (arith, ints, early, far, same, low, out))
      by shifts.Right sides.Left out =
          let same = h.head in let low = h.near_left in absurd (omega (arith, ints, early, far, same, low, out))
      by shifts.Left sides.Right out = let same = h.head in let high = h.near_right in let wide = h.wide in
          absurd (omega (arith, ints, early, wide, same, high, out))
      by shifts.Stay sides.Right out = let same = h.head in let high = h.near_right in let wide = h.wide in
          absurd (omega (arith, ints, early, wide, same, high, out))
      by shifts.Right sides.Right out = let same = h.head in let high = h.near_right in let wide = h.wide in
          absurd (omega (arith, ints, early, wide, same, high, out))

  -- one that leaves a one-sided tape goes left of cell 0
  left_of_start : (d : Deed) (side : Side) → w.left ≡ 0 → DeedLeaves d w side → (done d t).head <ℤ pos 0
  left_of_start (Rewrite read written) side sided out = absurd out
  left_of_start (Move s) side sided out = by s side out
    where
      by : (s : _) (side : Side) → DeedLeaves (Move s) w side → (done (Move s) t).head <ℤ pos 0
      by shifts.Left sides.Left out = let same = h.head in omega (arith, ints, sided, same, out)
      by shifts.Stay sides.Left out = let same = h.head in omega (arith, ints, sided, same, out)
      by shifts.Right sides.Left out = let same = h.head in omega (arith, ints, sided, same, out)
      by shifts.Left sides.Right out = let same = h.head in let high = h.near_right in let wide = h.wide in
          absurd (omega (arith, ints, early, wide, same, high, out))
      by shifts.Stay sides.Right out = let same = h.head in let high = h.near_right in let wide = h.wide in
          absurd (omega (arith, ints, early, wide, same, high, out))
      by shifts.Right sides.Right out = let same = h.head in let high = h.near_right in let wide = h.wide in
          absurd (omega (arith, ints, early, wide, same, high, out))

  -- and one that stays on it does not
  stays_right : (d : Deed) → w.left ≡ 0 → DeedStays d w → pos 0 ≤ℤ (done d t).head
  stays_right d sided stays =
      let low : (pos 0 -ℤ pos w.left) ≤ℤ (done d w.tape).head = stays.above in
      let same : (done d w.tape).head ≡ (done d t).head = deed_head d w.tape t h.head in
      omega (arith, ints, sided, low, same)

-- ---- a stage

pub stage_begins : (n : ℕ) (c : Configuration ℕ) (state : ℕ) (w : Tapes) → state ≡ c.state → IsTapeStage n 0 w.one c.one
    → IsTapeStage n 0 w.two c.two → IsTapeStage n 0 w.three c.three → w.one.left ≡ n + 1 → w.two.left ≡ 0
    → w.three.left ≡ 0 → IsRoomStage n 0 c state w
stage_begins n c state w is one two three wide two_sided three_sided = record {
  state_is = is;
  one = one;
  two = two;
  three = three;
  wide = omega (arith, wide);
  two_sided = two_sided;
  three_sided = three_sided;
}

module _ (p : Quadruples) (n i : ℕ) (early : i ≤ n) (c : Configuration ℕ) (state : ℕ) (w : Tapes)
    (at : IsRoomStage n i c state w) where
  applies_on : (r : Rule ℕ) → AppliesTo r (configuration state w) → AppliesTo r c
  applies_on r a = record {
    from = sym at.state_is ∙ a.from;
    one = deed_applies r.one w.one.tape c.one (tape_scans n i early w.one c.one at.one) a.one;
    two = deed_applies r.two w.two.tape c.two (tape_scans n i early w.two c.two at.two) a.two;
    three = deed_applies r.three w.three.tape c.three (tape_scans n i early w.three c.three at.three) a.three;
  }

  applies_back : (r : Rule ℕ) → AppliesTo r c → AppliesTo r (configuration state w)
  applies_back r a = record {
    from = at.state_is ∙ a.from;
    one = deed_applies r.one c.one w.one.tape (sym (tape_scans n i early w.one c.one at.one)) a.one;
    two = deed_applies r.two c.two w.two.tape (sym (tape_scans n i early w.two c.two at.two)) a.two;
    three = deed_applies r.three c.three w.three.tape (sym (tape_scans n i early w.three c.three at.three)) a.three;
  }

  first_on : (m : ℕ) (r : Rule ℕ) → IsFirstRule p.rules (configuration state w) m r → IsFirstRule p.rules c m r
  first_on m r f = record {
    stands = f.stands;
    holds = applies_on r f.holds;
    first = λ k s before there a. f.first k s before there (applies_back s a);
  }

  stuck_on : IsQuadrupleStuck p (configuration state w) → IsQuadrupleStuck p c
  stuck_on k = record {
    going = λ e. k.going (at.state_is ∙ e);
    none = record { none = λ m r there a. k.none.none m r there (applies_back r a) };
  }

  pub stage_moved : (quad next : ℕ) (v : Tapes)
      → GoesBy (rooms_of w) p quad (configuration state w) (configuration next v) → AreSameWindows w v
      → (d : Configuration ℕ) × OneSidedStep p c d × IsRoomStage n (i + 1) d next v
  stage_moved quad next v goes same =
      let r : Rule ℕ = goes.rule in
      let one : IsTapeStage n (i + 1) v.one (done r.one c.one) = tape_more n i early w.one c.one at.one r.one v.one
      same.one (ap (λ (x : Configuration ℕ). x.one) goes.gives) in
      let two : IsTapeStage n (i + 1) v.two (done r.two c.two) = tape_more n i early w.two c.two at.two r.two v.two
      same.two (ap (λ (x : Configuration ℕ). x.two) goes.gives) in
      let three : IsTapeStage n (i + 1) v.three (done r.three c.three) = tape_more n i early w.three c.three at.three
      r.three v.three same.three (ap (λ (x : Configuration ℕ). x.three) goes.gives) in
      let two_low : (pos 0 -ℤ pos w.two.left) ≤ℤ v.two.tape.head = goes.stays.two.above in
      let three_low : (pos 0 -ℤ pos w.three.left) ≤ℤ v.three.tape.head = goes.stays.three.above in
      let two_head : v.two.tape.head ≡ (done r.two c.two).head = two.head in
      let three_head : v.three.tape.head ≡ (done r.three c.three).head = three.head in
      let two_sided : w.two.left ≡ 0 = at.two_sided in
      let three_sided : w.three.left ≡ 0 = at.three_sided in (
        after r c,
        record {
          goes = (
            quad,
            record {
              going = λ is. goes.going (at.state_is ∙ is);
              rule = r;
              first = first_on quad r goes.first;
              gives = refl;
              stays = record { one = tt; two = tt; three = tt };
            },
          );
          two = omega (arith, ints, two_low, two_head, two_sided);
          three = omega (arith, ints, three_low, three_head, three_sided);
        },
        record {
          state_is = ap (λ (x : Configuration ℕ). x.state) goes.gives;
          one = one;
          two = two;
          three = three;
          wide = subst (λ (k : ℕ). n + 1 ≤ k) (sym (ap (λ (x : Windowed). x.left) same.one)) at.wide;
          two_sided = ap (λ (x : Windowed). x.left) same.two ∙ at.two_sided;
          three_sided = ap (λ (x : Windowed). x.left) same.three ∙ at.three_sided;
        },
      )

  first_left : (r : Rule ℕ) (tape : ℕ) (side : Side) → LeavesAt (deeds_of r) (windows_of w) tape side
      → IsFirstLeft (after r c) tape
  first_left r zero side out = absurd out
  first_left r (suc zero) side out = absurd (wide_stays n i early w.one c.one at.one r.one side at.wide out)
  first_left r (suc (suc zero)) side out =
      second (left_of_start n i early w.two c.two at.two r.two side at.two_sided out.1) refl
  first_left r (suc (suc (suc zero))) side out =
      third (stays_right n i early w.two c.two at.two r.two at.two_sided out.1.0)
      (left_of_start n i early w.three c.three at.three r.three side at.three_sided out.1.1) refl
  first_left r (suc (suc (suc (suc k)))) side out = absurd out.1.1.1

  stage_left : (tape : ℕ) (side : Side) → IsLeaving p state w tape side
      → (d : Configuration ℕ) × QuadruplesRunTo everywhere p c d × IsFirstLeft d tape
  stage_left tape side out = (
    after out.rule c,
    (
      out.number,
      record {
        going = λ is. out.going (at.state_is ∙ is);
        rule = out.rule;
        first = first_on out.number out.rule out.first;
        gives = refl;
        stays = record { one = tt; two = tt; three = tt };
      },
    ),
    first_left out.rule tape side out.leaves,
  )

  pub stage_turn : (turn : QuadTurn) (next : ℕ) (v : Tapes) → IsQuadTurn p turn state w next v → IsRoomTurn p turn c
  stage_turn turns.Final next v h = sym at.state_is ∙ h.0
  stage_turn turns.Stuck next v h = stuck_on h.0
  stage_turn (turns.Left tape side) next v h = stage_left tape side h.0
  stage_turn (turns.Moved quad) next v h = let m = stage_moved quad next v h.0 h.1 in (m.0, m.1.goes)

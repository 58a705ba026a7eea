-- The control's moves by names, quadruple by quadruple.
use Rattle.std.proofs.Common.{◌≡◌, inl, inr, get_or, ℕ, zero, suc, ◌+◌, ◌*◌, ◌<◌, ◌≤◌, List, [], ◌∷◌, ◌++◌, length, map}
use Rattle.std.proofs.Common.{Some, refl, sym, ap, subst, ◌∙◌, arith, length-append}
use Rattle.std.proofs.lemmas.Bool.Decides.{eqb_tells}
use Rattle.std.proofs.lemmas.Option.{slice_get-get_or}
use Rattle.bn_lists.specs.Lists.{nth, Has}
use Rattle.bn_lists.proofs.ListLemmas.{nth_within, nth_once}
use Rattle.bn_quad.specs.Quadruples.{Rule, Quadruples, IsQuadMachine, initial_of}
use Rattle.bn_quad.specs.Calls.{IsUniformMachine}
use Rattle.bn_quad.specs.Kept.{quad_of}
use Rattle.bn_quad.specs.declared.quad.Quad.{Quad}
use Rattle.bn_network.specs.Controls.{ControlState, ControlLine, ControlMove, Begin as begin_name}
use Rattle.bn_network.specs.Controls.{Outside as outside_name, IsEntry, ControlGoes, begins, reads_on, shifts_on}
use Rattle.bn_network.specs.Controls.{writes_on}
use Rattle.bn_network.proofs.EntryLemmas.{one_entry}
use Rattle.bn_network.proofs.RangeLemmas.{rule_in_range, initial_in_range}
use Rattle.bn_lists.proofs.MemberLemmas.{in_front, behind, of_two}
use Rattle.bn_control.specs.declared.command.Command.{Command}
use Rattle.bn_control.specs.declared.line.Line.TheVariants.{Outside}
use Rattle.bn_control.specs.declared.line.Sending.{Sending}
use Rattle.bn_control.specs.declared.named.NamedMove.{NamedMove}
use Rattle.bn_control.specs.declared.name.StateName.TheVariants.{Begin}
use Rattle.bn_control.specs.Names.{IsProper}
use Rattle.bn_control.specs.Commands.{sending_of, commands_by, moves_by}
use Rattle.bn_control.proofs.NamesLemmas.{Going, going_of, names_by, goings}
use Rattle.bn_control.specs.Entries.{IsFirstSent, AreEntries}
use Rattle.bn_control.specs.Named.{IsGoing, IsKeptAmong, AreMoves}
use Rattle.bn_control.proofs.MovesSoFar.{AreMovesSoFar}
use Rattle.bn_control.proofs.CommandLemmas.{commands_are, moves_are, each_goes, reads_stand, shifts_stand, writes_stand}
use Rattle.bn_control.proofs.RuleLemmas.{AreProper, commands_proper, commands_few, rule_at}
use Rattle.bn_lists.proofs.ApartLemmas.{mapped, from_mapped}

-- ---- members by names

-- a move by names that a list has
kept_going : (xs : List NamedMove) (x : NamedMove) (g : Going) → Has xs x → going_of x ≡ g → IsKeptAmong xs g.0 g.1 g.2
kept_going xs x g h e = record {
  move = x;
  member = h;
  state = ap (λ (v : Going). v.0) e;
  line = ap (λ (v : Going). v.1) e;
  to = ap (λ (v : Going). v.2) e;
}

more_kept : (xs ys : List NamedMove) (q : ControlState) (i : ControlLine) (k : ControlMove) → IsKeptAmong xs q i k
    → IsKeptAmong (xs ++ ys) q i k
more_kept xs ys q i k h = record {
  move = h.move;
  member = in_front xs ys h.move h.member;
  state = h.state;
  line = h.line;
  to = h.to;
}

-- ---- along one quadruple

moves_proper : (last : Sending) (cs : List Command) → IsProper last.state → AreProper cs → (x : NamedMove)
    → Has (moves_by last cs) x → IsProper x.state × IsProper x.to.state
moves_proper last [] p ps x h = absurd h
moves_proper last (c ∷ []) p ps x (inl e) = rw e (ps.0, p)
moves_proper last (c ∷ []) p ps x (inr h) = absurd h
moves_proper last (c ∷ (d ∷ cs)) p ps x (inl e) = rw e (ps.0, ps.1.0)
moves_proper last (c ∷ (d ∷ cs)) p ps x (inr h) = moves_proper last (d ∷ cs) p ps.1 x h

moves_count : (last : Sending) (cs : List Command) → length (moves_by last cs) ≡ length cs
moves_count last [] = refl
moves_count last (c ∷ cs) = ap suc (moves_count last cs)

module _ (m : Quadruples) (n : ℕ) (r : Rule ℕ) (here : nth m.rules n ≡ Some r) (s : Sending)
    (sent : IsFirstSent m r.to s) where
  along_names : map going_of (moves_by s (commands_by n r)) ≡ goings (sending_of s) (names_by n r)
  along_names = moves_are s (commands_by n r) ∙ ap (goings (sending_of s)) (commands_are n r)

  -- the moves along the quadruple are the control's
  along_only : (x : NamedMove) → Has (moves_by s (commands_by n r)) x → IsGoing m x
  along_only x h =
      let name : Has (goings (sending_of s) (names_by n r)) (going_of x) =
      subst (λ l. Has l (going_of x)) along_names (mapped going_of (moves_by s (commands_by n r)) x h) in
      let proper = moves_proper s (commands_by n r) sent.proper (commands_proper n r) x h in
      record { goes = each_goes m n r here (sending_of s) sent.entry (going_of x) name; from = proper.0; to = proper.1 }

  -- and all of them
  along_each : IsUniformMachine m → (e : ControlMove) → IsEntry m r.to e → (g : Going) → Has (goings e (names_by n r)) g
      → IsKeptAmong (moves_by s (commands_by n r)) g.0 g.1 g.2
  along_each u e entry g h =
      let same : e ≡ sending_of s = one_entry m u r.to e (sending_of s) entry sent.entry in
      let name : Has (map going_of (moves_by s (commands_by n r))) g =
      subst (λ l. Has l g) (sym along_names) (subst (λ v. Has (goings v (names_by n r)) g) same h) in
      let found = from_mapped going_of (moves_by s (commands_by n r)) g name in
      kept_going (moves_by s (commands_by n r)) found.0 g found.1 found.2

-- ---- quadruple by quadruple

module _ (m : Quadruples) (u : IsUniformMachine m) where
  -- the first move alone
  pub first_move : (s : Sending) → IsFirstSent m (initial_of m.rules) s → (xs : List NamedMove)
      → xs ≡ (record { state = Begin; line = Outside; to = s }) ∷ [] → AreMovesSoFar m 0 xs
  first_move s sent xs is = subst (AreMovesSoFar m 0) (sym is)
      (record { only = only; first = first; each = λ n r e g low here. absurd (none n r low here) })
    where
      only : (x : NamedMove) → Has ((record { state = Begin; line = Outside; to = s }) ∷ []) x → IsGoing m x
      only x (inl e) = rw e (record { goes = begins refl refl sent.entry; from = tt; to = sent.proper })
      only x (inr h) = absurd h

      first : (e : ControlMove) → IsEntry m (initial_of m.rules) e
          → IsKeptAmong ((record { state = Begin; line = Outside; to = s }) ∷ []) begin_name outside_name e
      first e entry = record {
        move = record { state = Begin; line = Outside; to = s };
        member = inl refl;
        state = refl;
        line = refl;
        to = one_entry m u (initial_of m.rules) (sending_of s) e sent.entry entry;
      }

      none : (n : ℕ) (r : Rule ℕ) → n ≤ 0 → nth m.rules n ≡ Some r → ⊥
      none zero r low e = cc
      none (suc n) r low e = omega arith

  -- one quadruple more
  pub more_moves : (k : ℕ) (r : Rule ℕ) (s : Sending) (xs ys : List NamedMove) → nth m.rules (k + 1) ≡ Some r
      → IsFirstSent m r.to s → ys ≡ xs ++ moves_by s (commands_by (k + 1) r) → AreMovesSoFar m k xs
      → AreMovesSoFar m (k + 1) ys
  more_moves k r s xs ys here sent is far = subst (AreMovesSoFar m (k + 1)) (sym is)
      (record {
        only = only;
        first = λ e entry. more_kept xs (moves_by s (commands_by (k + 1) r)) begin_name
            outside_name e (far.first e entry);
        each = each;
      })
    where
      only : (x : NamedMove) → Has (xs ++ moves_by s (commands_by (k + 1) r)) x → IsGoing m x
      only x h = elim (of_two xs (moves_by s (commands_by (k + 1) r)) x h)
          [ inl old ↦ far.only x old | inr new ↦ along_only m (k + 1) r here s sent x new ]

      each : (n : ℕ) (t : Rule ℕ) (e : ControlMove) (g : Going) → n ≤ k + 1 → nth m.rules n ≡ Some t → IsEntry m t.to e
          → Has (goings e (names_by n t)) g → IsKeptAmong (xs ++ moves_by s (commands_by (k + 1) r)) g.0 g.1 g.2
      each n t e g low there entry h = elim (eqb_tells n (k + 1)) [
        | inl same ↦ (
            let number = same.1 in
            let at : nth m.rules (k + 1) ≡ Some t = ap (nth m.rules) (sym number) ∙ there in
            let rule : t ≡ r = nth_once m.rules (k + 1) t r at here in
            let entry' : IsEntry m r.to e = subst (λ (v : Rule ℕ). IsEntry m v.to e) rule entry in
            let h' : Has (goings e (names_by (k + 1) r)) g = subst (λ v. Has (goings e (names_by (k + 1) v)) g) rule
            (subst (λ v. Has (goings e (names_by v t)) g) number h) in
            let kept = along_each m (k + 1) r here s sent u e entry' g h' in
            record {
              move = kept.move;
              member = behind xs (moves_by s (commands_by (k + 1) r)) kept.move kept.member;
              state = kept.state;
              line = kept.line;
              to = kept.to;
            })
        | inr other ↦ (let ne = other.1 in more_kept xs (moves_by s (commands_by (k + 1) r)) g.0 g.1 g.2
            (far.each n t e g (omega arith) there entry h))
      ]

  -- all of them
  pub all_moves : (k : ℕ) (xs : List NamedMove) → length m.rules ≤ k → AreMovesSoFar m k xs → AreMoves m xs
  all_moves k xs all far = record { only = far.only; each = each }
    where
      low : (n : ℕ) (r : Rule ℕ) → nth m.rules n ≡ Some r → n ≤ k
      low n r e = let few = nth_within m.rules n r e in omega arith

      named : (q : ControlState) (i : ControlLine) (v : ControlMove) (g : Going) → q ≡ g.0 → i ≡ g.1 → v ≡ g.2
          → IsKeptAmong xs g.0 g.1 g.2 → IsKeptAmong xs q i v
      named q i v g a b c h = record {
        move = h.move;
        member = h.member;
        state = h.state ∙ sym a;
        line = h.line ∙ sym b;
        to = h.to ∙ sym c;
      }

      each : (q : ControlState) (i : ControlLine) (v : ControlMove) → ControlGoes m q i v → IsKeptAmong xs q i v
      each q i v (begins isq isi entry) = let h = far.first v entry in record
          { move = h.move; member = h.member; state = h.state ∙ sym isq; line = h.line ∙ sym isi; to = h.to }
      each q i v (reads_on n r here e entry before rest p split isq isi isk) =
          named q i v _ isq isi isk (far.each n r e _ (low n r here) here entry
          (reads_stand n r e before rest p split))
      each q i v (shifts_on n r here e entry before rest p split isq isi isk) =
          named q i v _ isq isi isk (far.each n r e _ (low n r here) here entry
          (shifts_stand n r e before rest p split))
      each q i v (writes_on n r here e entry before rest p split isq isi isk) =
          named q i v _ isq isi isk (far.each n r e _ (low n r here) here entry
          (writes_stand n r e before rest p split))

-- ---- the same for the quadruples as they are kept

module _ (m : Quadruples) (is : IsQuadMachine m) (es : List Sending) (entries : AreEntries m es) where
  pub initial_low : initial_of m.rules < length es
  initial_low = let low = initial_in_range m is in let count = entries.counted in omega arith

  entry_at : (a : ℕ) (d : Sending) → a < length es → IsFirstSent m a (get_or es a d)
  entry_at a d low = entries.each a (get_or es a d) (slice_get-get_or es a d low)

  module _ (u : IsUniformMachine m) where
    pub move_first : (a : ℕ) (d : Sending) (xs : List NamedMove) → a ≡ initial_of m.rules
        → xs ≡ (record { state = Begin; line = Outside; to = get_or es a d }) ∷ [] → AreMovesSoFar m 0 xs
    move_first a d xs start value =
        let low = initial_low in
        first_move m u (get_or es a d) (subst (λ n. IsFirstSent m n (get_or es a d)) start (entry_at a d (omega arith)))
        xs value

    module _ (quads : List Quad) (kept : quads ≡ map quad_of m.rules) (k : ℕ) (d : Quad) (low : k < length quads) where
      pub next_low : (get_or quads k d).next < length es
      next_low =
          let at = rule_at m quads k d kept low in
          let state : (get_or quads k d).next ≡ at.rule.to = ap (λ (q : Quad). q.next) at.kept in
          let below = (rule_in_range m is (k + 1) at.rule at.stands).to in
          let count = entries.counted in
          omega arith

      module _ (cs : List Command) (commands : (r : Rule ℕ) → get_or quads k d ≡ quad_of r → cs ≡ commands_by (k + 1) r)
          (f : Sending) (xs ys : List NamedMove) (value : ys ≡ xs ++ moves_by (get_or es (get_or quads k d).next f) cs)
        where
          pub moves_more : AreMovesSoFar m k xs → AreMovesSoFar m (k + 1) ys
          moves_more far =
              let at = rule_at m quads k d kept low in
              let state : (get_or quads k d).next ≡ at.rule.to = ap (λ (q : Quad). q.next) at.kept in
              let sent : IsFirstSent m at.rule.to (get_or es (get_or quads k d).next f) =
              subst (λ n. IsFirstSent m n (get_or es (get_or quads k d).next f)) state
              (entry_at (get_or quads k d).next f next_low) in
              let value' : ys ≡ xs ++ moves_by (get_or es (get_or quads k d).next f) (commands_by (k + 1) at.rule) =
              value ∙ ap (λ l. xs ++ moves_by (get_or es (get_or quads k d).next f) l) (commands at.rule at.kept) in
              more_moves m u k at.rule (get_or es (get_or quads k d).next f) xs ys at.stands sent value' far

          pub moves_few : length xs ≤ 1 + 9 * k → length ys ≤ 1 + 9 * (k + 1)
          moves_few few =
              let at = rule_at m quads k d kept low in
              let all = ap length value in
              let count = moves_count (get_or es (get_or quads k d).next f) cs in
              let same = ap length (commands at.rule at.kept) in
              let most = commands_few (k + 1) at.rule in
              omega (arith, length-append xs (moves_by (get_or es (get_or quads k d).next f) cs))

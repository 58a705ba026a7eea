-- The states of a control, gathered from its first commands and its moves.
use Rattle.std.proofs.Common.{◌≡◌, inl, inr, get_or, ℕ, ◌<◌, List, [], ◌∷◌, ◌++◌, map, length, refl, sym, ap, subst}
use Rattle.std.proofs.Common.{◌∙◌, arith}
use Rattle.std.proofs.lemmas.Option.{slice_get-get_or}
use Rattle.bn_quad.specs.Quadruples.{Quadruples, IsQuadMachine, initial_of}
use Rattle.bn_quad.specs.Calls.{IsUniformMachine}
use Rattle.bn_network.specs.Controls.{ControlState, ControlLine, ControlMove, waits, ControlGoes, begins, reads_on}
use Rattle.bn_network.specs.Controls.{shifts_on, writes_on, Occurs, is_begin, is_end, is_open, is_read, is_shift}
use Rattle.bn_network.specs.Controls.{is_write, to_read}
use Rattle.bn_network.proofs.EntryLemmas.{one_entry}
use Rattle.bn_network.proofs.ExistingLemmas.{some_entry}
use Rattle.bn_network.proofs.GoingLemmas.{sound, end_entry}
use Rattle.bn_network.proofs.RangeLemmas.{rule_in_range, initial_in_range}
use Rattle.bn_lists.specs.Lists.{Has}
use Rattle.bn_lists.proofs.MemberLemmas.{place_of, member_at, in_front, behind, of_two}
use Rattle.bn_control.specs.declared.line.Sending.{Sending}
use Rattle.bn_control.specs.declared.named.NamedMove.{NamedMove}
use Rattle.bn_control.specs.declared.name.StateName.{StateName}
use Rattle.bn_control.specs.declared.name.StateName.TheVariants.{End}
use Rattle.bn_control.specs.Names.{state_of, IsProper}
use Rattle.bn_control.specs.Commands.{sending_of}
use Rattle.bn_control.specs.Entries.{IsFirstSent, AreEntries}
use Rattle.bn_control.specs.Named.{IsGoing, AreMoves}
use Rattle.bn_control.specs.Ordered.{AreNames}
use Rattle.bn_lists.proofs.ApartLemmas.{from_mapped, mapped}

-- the state that awaits the answer of a first command, and the state of a move
abbrev pub awaiting : Sending → StateName
awaiting s = s.state

abbrev pub moving : NamedMove → StateName
moving x = x.state

module _ (m : Quadruples) (u : IsUniformMachine m) (is : IsQuadMachine m) (es : List Sending)
    (entries : AreEntries m es) (xs : List NamedMove) (moves : AreMoves m xs) where
  abbrev gathered : List StateName
  gathered = ((End ∷ []) ++ map awaiting es) ++ map moving xs

  -- what holds of all
  on_each : (P : StateName → Type 0) → P End → ((s : Sending) (a : ℕ) → IsFirstSent m a s → P s.state)
      → ((x : NamedMove) → IsGoing m x → P x.state) → (x : StateName) → Has gathered x → P x
  on_each P first second third x h = elim (of_two ((End ∷ []) ++ map awaiting es) (map moving xs) x h) [
    | inl front ↦ elim (of_two (End ∷ []) (map awaiting es) x front) [
      | inl one ↦ at_end one
      | inr more ↦ (let found = from_mapped awaiting es x more in let at = place_of es found.0 found.1 in subst P
          found.2 (second found.0 at.0 (entries.each at.0 found.0 at.1)))
    ]
    | inr back ↦ (let found = from_mapped moving xs x back in subst P found.2
        (third found.0 (moves.only found.0 found.1)))
  ]
    where
      at_end : Has (End ∷ []) x → P x
      at_end (inl e) = subst P (sym e) first
      at_end (inr h) = absurd h

  -- the state of a move
  by_move : (q : ControlState) (i : ControlLine) (k : ControlMove) → ControlGoes m q i k
      → (x : StateName) × Has gathered x × (state_of x ≡ q)
  by_move q i k goes =
      let kept = moves.each q i k goes in (
        kept.move.state,
        behind ((End ∷ []) ++ map awaiting es) (map moving xs) kept.move.state (mapped moving xs kept.move kept.member),
        kept.state,
      )

  each : (q : ControlState) → Occurs m q → (x : StateName) × Has gathered x × (state_of x ≡ q)
  each q (is_begin e) =
      let first = some_entry m u (initial_of m.rules) (initial_in_range m is) in
      by_move q _ first.0 (begins e refl first.1)
  each q (is_end e) = (End, in_front ((End ∷ []) ++ map awaiting es) (map moving xs) End (inl refl), sym e)
  each q (is_open a low other none e) =
      let count = entries.counted in
      let few : a < length es = omega arith in
      let d : Sending = at_least es few in
      let here = slice_get-get_or es a d few in
      let sent = entries.each a (get_or es a d) here in
      let same = one_entry m u a (sending_of (get_or es a d)) (to_read a [] (1, 0)) sent.entry
      (waits other low none refl) in (
        (get_or es a d).state,
        in_front ((End ∷ []) ++ map awaiting es) (map moving xs) (get_or es a d).state
            (behind (End ∷ []) (map awaiting es) (get_or es a d).state
            (mapped awaiting es (get_or es a d) (member_at es a (get_or es a d) here))),
        ap (λ (k : ControlMove). k.0) same ∙ sym e,
      )
    where
      at_least : (l : List Sending) → a < length l → Sending
      at_least [] h = absurd (omega arith)
      at_least (s ∷ l) h = s
  each q (is_read n r here before rest p split e) =
      let next = some_entry m u r.to (rule_in_range m is n r here).to in
      by_move q _ _ (reads_on n r here next.0 next.1 before rest p split e refl refl)
  each q (is_shift n r here before rest p split e) =
      let next = some_entry m u r.to (rule_in_range m is n r here).to in
      by_move q _ _ (shifts_on n r here next.0 next.1 before rest p split e refl refl)
  each q (is_write n r here before rest p split e) =
      let next = some_entry m u r.to (rule_in_range m is n r here).to in
      by_move q _ _ (writes_on n r here next.0 next.1 before rest p split e refl refl)

  pub gathered_states : AreNames m gathered
  gathered_states = record {
    proper = on_each IsProper tt (λ s a sent. sent.proper) (λ x going. going.from);
    only = on_each (λ x. Occurs m (state_of x)) (is_end refl) (λ s a sent.
        (end_entry m is a (sending_of s) sent.entry).occurs) (λ x going.
        (sound m is (state_of x.state) _ _ going.goes).occurs);
    each = each;
  }

-- The moves of a control in numbers, in order and each once, make its table.
use Rattle.std.proofs.Common.{◌≡◌, get_or, slice_get, ℕ, suc, ◌<◌, List, [], ◌∷◌, length, map, Some, refl, sym, ap}
use Rattle.std.proofs.Common.{subst, ◌∙◌, arith, Contains}
use Rattle.std.specs.List.{Any}
use Rattle.std.specs.List.Sorted.{IsStrictlySortedBy}
use Rattle.std.specs.Ordering.{nat_cmp, ordering_then, MatchOrdering}
use Rattle.std.specs.declared.cmp.Ordering.{Ordering}
use Rattle.std.specs.declared.cmp.Ordering.TheVariants.{Less, Equal, Greater}
use Rattle.std.proofs.lemmas.Cmp.{tied_itself, ranked}
use Rattle.std.proofs.lemmas.List.{length-map}
use Rattle.std.proofs.lemmas.Map.Keys.{Less-from_sorted}
use Rattle.std.proofs.lemmas.Option.{some_pair_parts, slice_get-get_or, slice_get_within, get_or_from_slice_get}
use Rattle.bn_element.specs.Tables.{Table, go_by}
use Rattle.bn_quad.specs.Quadruples.{Quadruples, IsQuadMachine}
use Rattle.bn_quad.specs.Calls.{IsUniformMachine}
use Rattle.bn_rsm.specs.Machines.{Machine, move_of, machine_table, machine_table-IsReversible, AreSound, IsMadeOf}
use Rattle.bn_rsm.specs.declared.rsm_move.RsmMove.{RsmMove}
use Rattle.bn_network.specs.Controls.{ControlState, NumberedGoes, IsControlTable, control_lines, in_number, out_number}
use Rattle.bn_network.proofs.KeyLemmas.{by_key, keys_ordered}
use Rattle.bn_network.proofs.SortedLemmas.{one_place}
use Rattle.bn_network.proofs.TabledLemmas.{table_there}
use Rattle.bn_lists.specs.Lists.{Has}
use Rattle.bn_lists.proofs.MemberLemmas.{place_of, member_at}
use Rattle.bn_rsm.proofs.ListingLemmas.{LeaveApart, AreApart, AreMovesOf, moves_sound, moves_go}
use Rattle.bn_control.specs.contracts.numbered.MoveOrd.TheImpl as impl
use Rattle.bn_control.specs.contracts.numbered.MoveOrd.TheImpl.Laws.{total-law}
use Rattle.bn_control.specs.declared.named.NamedMove.{NamedMove}
use Rattle.bn_control.specs.declared.numbered.Move.{Move}
use Rattle.bn_control.specs.declared.name.StateName.{StateName}
use Rattle.bn_control.specs.Names.{state_of}
use Rattle.bn_control.specs.Commands.{line_of, sending_of}
use Rattle.bn_control.specs.Named.{AreMoves}
use Rattle.bn_control.specs.Ordered.{AreOrdered}
use Rattle.bn_control.specs.Numbered.{AreNumbered, rsm_move}
use Rattle.bn_lists.proofs.ApartLemmas.{from_mapped, mapped}
use Rattle.bn_control.proofs.OrderedLemmas.{from_contained, contained}

-- the order of moves
abbrev pub cmp_moves : Move → Move → Ordering
cmp_moves = impl.cmp-value.it

then_tied : (o p : Ordering) → ordering_then o p ≡ Equal → (o ≡ Equal) × (p ≡ Equal)
then_tied Less p e = absurd (cc)
then_tied Equal p e = (refl, e)
then_tied Greater p e = absurd (cc)

tied_numbers : (a b : ℕ) → nat_cmp a b ≡ Equal → a ≡ b
tied_numbers a b e = subst (λ o. MatchOrdering o (a < b) (a ≡ b) (b < a)) e (ranked a b (nat_cmp a b) refl)

-- moves that tie are one
tied_moves : (v w : Move) → cmp_moves v w ≡ Equal → v ≡ w
tied_moves v w e =
    let a = then_tied (nat_cmp v.state w.state) _ e in
    let b = then_tied (nat_cmp v.line w.line) _ a.1 in
    let c = then_tied (nat_cmp v.next w.next) _ b.1 in
    let one = tied_numbers v.state w.state a.0 in
    let two = tied_numbers v.line w.line b.0 in
    let three = tied_numbers v.next w.next c.0 in
    let four = tied_numbers v.out w.out c.1 in
    λ i. record { state = one i; line = two i; next = three i; out = four i }

-- moves that leave different pairs, by their places
apart_by : (vs : List Move) → ((i j : ℕ) (v w : Move) → i < j → slice_get vs i ≡ Some v → slice_get vs j ≡ Some w
    → LeaveApart (rsm_move v) (rsm_move w)) → AreApart (map rsm_move vs)
apart_by [] far = tt
apart_by (v ∷ vs) far = (heads, apart_by vs (λ i j x y low e d. far (suc i) (suc j) x y (omega arith) e d))
  where
    heads : (w : RsmMove) → Has (map rsm_move vs) w → LeaveApart (rsm_move v) w
    heads w h =
        let found = from_mapped rsm_move vs w h in
        let at = place_of vs found.0 found.1 in
        subst (LeaveApart (rsm_move v)) found.2 (far 0 (suc at.0) v found.0 (omega arith) refl at.1)

module _ (m : Quadruples) (u : IsUniformMachine m) (is : IsQuadMachine m) (xs : List NamedMove) (moves : AreMoves m xs)
    (ss : List StateName) (ordered : AreOrdered m ss)
    (raw vs : List Move) (numbers : AreNumbered m ss xs raw)
    (strict : IsStrictlySortedBy cmp_moves vs) (all : (v : Move) → Contains raw v → Any (λ w. cmp_moves v w ≡ Equal) vs)
    (only : (v : Move) → Contains vs v → Contains raw v) where
  abbrev names : List ControlState
  names = map state_of ss

  -- the control's table
  there : (t : Table) × IsControlTable m names t
  there = table_there m names is u ordered.numbering

  -- a kept move is one of the control in numbers
  numbered_move : (v : Move) → Has vs v → NumberedGoes m names v.state v.line v.next v.out
  numbered_move v h =
      let kept = numbers.only v (from_contained raw v (only v (contained vs v h))) in
      let going = moves.only kept.0 kept.1 in
      record {
        state = state_of kept.0.state;
        line = line_of kept.0.line;
        move = sending_of kept.0.to;
        goes = going.goes;
        from = kept.2.state;
        enters = sym kept.2.line;
        to = kept.2.next;
        exits = sym kept.2.out;
      }

  goes_by : (v : Move) → Has vs v → there.0.go v.state v.line ≡ Some (v.next, v.out)
  goes_by v h = (there.1.goes v.state v.line v.next v.out).1 (numbered_move v h)

  one_number : (i j : ℕ) (q r : ControlState) → slice_get names i ≡ Some q → slice_get names j ≡ Some r → q ≡ r → i ≡ j
  one_number i j q r e d same = one_place by_key keys_ordered names ordered.numbering.rising_keys i j r
      (e ∙ ap (λ v. Some v) same) d

  -- each of them is kept
  kept_move : (n j r o : ℕ) → NumberedGoes m names n j r o → Has vs (record { state = n; line = j; next = r; out = o })
  kept_move n j r o g =
      let kept = moves.each g.state g.line g.move g.goes in
      let number = numbers.each kept.move kept.member in
      let v = number.0 in
      let state : number.0.state ≡ n = one_number number.0.state n (state_of kept.move.state) g.state number.2.state
      g.from kept.state in
      let line : number.0.line ≡ j = number.2.line ∙ ap (in_number m) kept.line ∙ g.enters in
      let next : number.0.next ≡ r = one_number number.0.next r (state_of kept.move.to.state) g.move.0 number.2.next
      g.to (ap (λ k. k.0) kept.to) in
      let out : number.0.out ≡ o = number.2.out ∙ ap (λ k. out_number m k.1) kept.to ∙ g.exits in
      let tie = all number.0 (contained raw number.0 number.1) in
      let here : slice_get vs tie.0 ≡ Some tie.1 = slice_get-get_or vs tie.0 tie.1 tie.2 ∙ ap (λ y. Some y) tie.3 in
      let same : tie.1 ≡ number.0 = sym (tied_moves number.0 tie.1 tie.4) in
      let exact : number.0 ≡ record { state = n; line = j; next = r; out = o } =
      λ i. record { state = state i; line = line i; next = next i; out = out i } in
      subst (λ w. Has vs w) (same ∙ exact) (member_at vs tie.0 tie.1 here)

  far : (i j : ℕ) (v w : Move) → i < j → slice_get vs i ≡ Some v → slice_get vs j ≡ Some w
      → LeaveApart (rsm_move v) (rsm_move w)
  far i j v w low e d state line =
      let one = goes_by v (member_at vs i v e) in
      let two = goes_by w (member_at vs j w d) in
      let parts = some_pair_parts v.next w.next v.out w.out (sym one ∙ (λ k. there.0.go (state k) (line k)) ∙ two) in
      let same : v ≡ w = λ k. record { state = state k; line = line k; next = parts.0 k; out = parts.1 k } in
      let less = Less-from_sorted cmp_moves vs i j v strict low (slice_get_within vs j w d) in
      let first : get_or vs i v ≡ v = get_or_from_slice_get vs i v v e in
      let second : get_or vs j v ≡ w = get_or_from_slice_get vs j w v d in
      let less' : cmp_moves v w ≡ Less = (λ k. cmp_moves (sym first k) (sym second k)) ∙ less in
      let tie : cmp_moves v w ≡ Equal = ap (λ x. cmp_moves v x) (sym same) ∙ tied_itself total-law v in
      let both = sym less' ∙ tie in
      cc

  are_moves : AreMovesOf there.0 (map rsm_move vs)
  are_moves = record {
    apart = apart_by vs far;
    each = λ q i r o e. mapped rsm_move vs (record { state = q; line = i; next = r; out = o })
        (kept_move q i r o ((there.1.goes q i r o).0 e));
    only = λ w h. (let found = from_mapped rsm_move vs w h in subst
        (λ (x : RsmMove). there.0.go x.state x.line ≡ Some (x.next, x.out)) found.2 (goes_by found.0 found.1));
  }

  -- the moves make a machine
  pub control_sound : (n : ℕ) (k : ℕ) (ms : List RsmMove) → n ≡ length ss → k ≡ control_lines m → ms ≡ map rsm_move vs
      → AreSound n k ms
  control_sound n k ms states lines value =
      let count : there.0.states ≡ n = there.1.states ∙ length-map ss state_of ∙ sym states in
      let wide : there.0.inputs ≡ k = there.1.inputs ∙ sym lines in
      let all_sound = moves_sound there.0 there.1.reversible (map rsm_move vs) (there.1.outputs ∙ sym there.1.inputs)
      are_moves in
      subst (λ l. AreSound n k l) (sym value) (subst (λ j. AreSound n j (map rsm_move vs)) wide
      (subst (λ j. AreSound j there.0.inputs (map rsm_move vs)) count all_sound))

  -- which has the control's table
  pub control_table : (r : Machine) (n : ℕ) (k : ℕ) (ms : List RsmMove) → n ≡ length ss → k ≡ control_lines m
      → ms ≡ map rsm_move vs → IsMadeOf r n k ms → IsControlTable m names (machine_table r)
  control_table r n k ms states lines value made = record {
    states = made.states ∙ states ∙ sym (length-map ss state_of);
    inputs = made.lines ∙ lines;
    outputs = made.lines ∙ lines;
    goes = λ q i x o. (
      (λ e. (there.1.goes q i x o).0 (sym (same q i) ∙ e)),
      (λ g. same q i ∙ (there.1.goes q i x o).1 g),
    );
    reversible = machine_table-IsReversible r;
  }
    where
      same : (q i : ℕ) → (machine_table r).go q i ≡ there.0.go q i
      same q i = ap (λ l. go_by (map move_of l) q i) (made.moves ∙ value)
          ∙ moves_go there.0 there.1.reversible (map rsm_move vs) are_moves q i

-- The table of a control: there is one, and only one.
use Rattle.std.proofs.Common.{◌≡◌, inl, inr, slice_get, ℕ, ◌<◌, List, [], ◌∷◌, length, Option, Some, None, refl, sym}
use Rattle.std.proofs.Common.{ap, subst, ◌∙◌}
use Rattle.std.proofs.lemmas.Option.{some_pair_parts, slice_get_within}
use Rattle.bn_element.specs.Tables.{Table, Move, go_by, table_by, AreWithin}
use Rattle.bn_element.specs.Reversible.{pair_tells}
use Rattle.bn_quad.specs.Quadruples.{Quadruples, IsQuadMachine}
use Rattle.bn_quad.specs.Calls.{IsUniformMachine}
use Rattle.bn_circuits.specs.Alike.{AreConsistent}
use Rattle.bn_circuits.proofs.TableLemmas.{tables-one, consistent-reversible}
use Rattle.bn_network.specs.Controls.{ControlState, ControlMove, ControlGoes, IsNumbering, NumberedGoes, IsControlTable}
use Rattle.bn_network.specs.Controls.{control_lines, in_number, out_number}
use Rattle.bn_network.proofs.ForthLemmas.{forth}
use Rattle.bn_network.proofs.BackLemmas.{back}
use Rattle.bn_lists.specs.Lists.{Has}
use Rattle.bn_lists.proofs.MemberLemmas.{member_at}
use Rattle.bn_network.proofs.ListedLemmas.{Listing, alone, same, for_each}
use Rattle.bn_network.proofs.SortedLemmas.{one_place}
use Rattle.bn_network.proofs.KeyLemmas.{by_key, keys_ordered}
use Rattle.bn_network.proofs.LineLemmas.{in_low, in_one, out_low, out_one}
use Rattle.bn_network.proofs.GoingLemmas.{Going, sound, going}

-- ---- lists of moves

-- what is found is a move of the list
found : (ms : List Move) (q i r o : ℕ) → go_by ms q i ≡ Some (r, o)
    → Has ms (record { state = q; input = i; next = r; output = o })
found [] q i r o h = absurd (cc)
found (m ∷ ms) q i r o h =
    elim (pair_tells m.state m.input q i) [
      | inl here ↦ (let is = rw here.0 at h in let parts = some_pair_parts m.next r m.output o is in
          inl (λ j. record {
            state = sym here.1 j;
            input = sym here.2 j;
            next = sym parts.0 j;
            output = sym parts.1 j;
          }))
      | inr other ↦ inr (found ms q i r o (rw other.0 at h))
    ]

-- a move of the list is found, where those from its pair lead where it does
finds : (ms : List Move) (v : Move) → Has ms v → ((w : Move) → Has ms w → w.state ≡ v.state → w.input ≡ v.input
    → (w.next ≡ v.next)
    × (w.output ≡ v.output)) → go_by ms v.state v.input ≡ Some (v.next, v.output)
finds [] v h all = absurd h
finds (m ∷ ms) v h all =
    elim (pair_tells m.state m.input v.state v.input) [
      | inl here ↦ (let same = all m (inl refl) here.1 here.2 in rw here.0 (λ j. Some (same.0 j, same.1 j)))
      | inr other ↦ rw other.0 (finds ms v (later h other.1) (λ w k. all w (inr k)))
    ]
  where
    later : Has (m ∷ ms) v → (m.state ≡ v.state → m.input ≡ v.input → ⊥) → Has ms v
    later (inl e) none = absurd (none (ap (λ (x : Move). x.state) (sym e)) (ap (λ (x : Move). x.input) (sym e)))
    later (inr k) none = k

-- moves in range, one by one
within : (s n k : ℕ) (ms : List Move) → ((v : Move) → Has ms v
    → (v.state < s) × (v.input < n) × (v.next < s) × (v.output < k)) → AreWithin s n k ms
within s n k [] all = tt
within s n k (m ∷ ms) all = let here = all m (inl refl) in (
  here.0,
  here.1,
  here.2,
  here.3,
  within s n k ms (λ v h. all v (inr h)),
)

-- ---- the table

module _ (m : Quadruples) (names : List ControlState) where
  -- a move in numbers
  abbrev IsNumbered : Move → Type 0
  IsNumbered v = NumberedGoes m names v.state v.input v.next v.output

  -- tables of one control are one
  pub table_one : (t u : Table) → IsControlTable m names t → IsControlTable m names u → t ≡ u
  table_one t u a b =
      tables-one t u a.reversible b.reversible (a.states ∙ sym b.states) (a.inputs ∙ sym b.inputs)
      (a.outputs ∙ sym b.outputs)
      (λ n j. alike (t.go n j) (u.go n j) (λ r o e. (b.goes n j r o).1 ((a.goes n j r o).0 e))
      (λ r o e. (a.goes n j r o).1 ((b.goes n j r o).0 e)))
    where
      alike : (x y : Option (ℕ × ℕ)) → ((r o : ℕ) → x ≡ Some (r, o) → y ≡ Some (r, o))
          → ((r o : ℕ) → y ≡ Some (r, o) → x ≡ Some (r, o)) → x ≡ y
      alike None None f g = refl
      alike None (Some v) f g = g v.0 v.1 refl
      alike (Some v) y f g = sym (f v.0 v.1 refl)

  module _ (is : IsQuadMachine m) (u : IsUniformMachine m) (numbering : IsNumbering m names) where
    -- a state's number
    place_one : (i j : ℕ) (q r : ControlState) → slice_get names i ≡ Some q → slice_get names j ≡ Some r → q ≡ r → i ≡ j
    place_one i j q r e d same = one_place by_key keys_ordered names numbering.rising_keys i j r
        (e ∙ ap (λ v. Some v) same) d

    -- a number's state
    state_one : (i j : ℕ) (q r : ControlState) → slice_get names i ≡ Some q → slice_get names j ≡ Some r → i ≡ j → q ≡ r
    state_one i j q r e d same = let both : Some q ≡ Some r = cc in cc

    -- moves from one pair are one
    ahead : (v w : Move) → IsNumbered v → IsNumbered w → v.state ≡ w.state → v.input ≡ w.input
        → (v.next ≡ w.next) × (v.output ≡ w.output)
    ahead v w a b state input =
        let one = sound m is a.state a.line a.move a.goes in
        let two = sound m is b.state b.line b.move b.goes in
        let states = state_one v.state w.state a.state b.state a.from b.from state in
        let lines = in_one m a.line b.line one.line two.line (a.enters ∙ input ∙ sym b.enters) in
        let other : ControlGoes m a.state a.line b.move = subst (λ q. ControlGoes m q a.line b.move) (sym states)
        (subst (λ i. ControlGoes m b.state i b.move) (sym lines) b.goes) in
        let moves = forth m u a.state a.line a.move b.move a.goes other in (
          place_one v.next w.next a.move.0 b.move.0 a.to b.to (ap (λ (k : ControlMove). k.0) moves),
          sym a.exits ∙ ap (λ (k : ControlMove). out_number m k.1) moves ∙ b.exits,
        )

    -- moves into one pair are one
    behind : (v w : Move) → IsNumbered v → IsNumbered w → v.next ≡ w.next → v.output ≡ w.output
        → (v.state ≡ w.state) × (v.input ≡ w.input)
    behind v w a b next output =
        let one = sound m is a.state a.line a.move a.goes in
        let two = sound m is b.state b.line b.move b.goes in
        let states = state_one v.next w.next a.move.0 b.move.0 a.to b.to next in
        let lines = out_one m a.move.1 b.move.1 one.end.line two.end.line (a.exits ∙ output ∙ sym b.exits) in
        let moves : b.move ≡ a.move = λ i. (sym states i, sym lines i) in
        let same = back m u a.state b.state a.line b.line a.move a.goes
        (subst (λ k. ControlGoes m b.state b.line k) moves b.goes) in (
          place_one v.state w.state a.state b.state a.from b.from same.0,
          sym a.enters ∙ ap (in_number m) same.1 ∙ b.enters,
        )

    -- the numbers of a move are in range
    in_range : (v : Move) → IsNumbered v → (v.state < length names) × (v.input < control_lines m)
        × (v.next < length names) × (v.output < control_lines m)
    in_range v a =
        let one = sound m is a.state a.line a.move a.goes in (
          slice_get_within names v.state a.state a.from,
          subst (λ n. n < control_lines m) a.enters (in_low m is.tapes a.line one.line),
          slice_get_within names v.next a.move.0 a.to,
          subst (λ n. n < control_lines m) a.exits (out_low m is.tapes a.move.1 one.end.line),
        )

    -- a move by names and its numbers
    record HasNumbers (g : Going m is u) (v : Move) : Type 0 where
      from : slice_get names v.state ≡ Some g.0
      enters : in_number m g.1 ≡ v.input
      to : slice_get names v.next ≡ Some g.2.0
      exits : out_number m g.2.1 ≡ v.output

    -- a move has one such move in numbers
    numbers_listed : (g : Going m is u) → ControlGoes m g.0 g.1 g.2 → Listing (HasNumbers g)
    numbers_listed g goes =
        let parts = sound m is g.0 g.1 g.2 goes in
        let here = numbering.each g.0 parts.occurs in
        let there = numbering.each g.2.0 parts.end.occurs in
        let v : Move = record { state = here.0; input = in_number m g.1; next = there.0; output = out_number m g.2.1 }
        in
        alone (HasNumbers g) v (record { from = here.1; enters = refl; to = there.1; exits = refl })
        (λ w h. λ j. record {
          state = place_one w.state here.0 g.0 g.0 h.from here.1 refl j;
          input = sym h.enters j;
          next = place_one w.next there.0 g.2.0 g.2.0 h.to there.1 refl j;
          output = sym h.exits j;
        })

    -- the moves in numbers
    numbered : Listing IsNumbered
    numbered =
        same (λ v. (g : Going m is u) × ControlGoes m g.0 g.1 g.2 × HasNumbers g v) IsNumbered
        (for_each (λ (g : Going m is u). ControlGoes m g.0 g.1 g.2) HasNumbers (going m is u) numbers_listed)
        (λ v h. record {
          state = h.0.0;
          line = h.0.1;
          move = h.0.2;
          goes = h.1;
          from = h.2.from;
          enters = h.2.enters;
          to = h.2.to;
          exits = h.2.exits;
        })
        (λ v h. (
          (h.state, h.line, h.move),
          h.goes,
          record {
            from = h.from;
            enters = h.enters;
            to = h.to;
            exits = h.exits;
          },
        ))

    -- there is a table
    pub table_there : (t : Table) × IsControlTable m names t
    table_there = (
      table_by (length names) (control_lines m) (control_lines m) numbered.items,
      record {
        states = refl;
        inputs = refl;
        outputs = refl;
        goes = λ n j r o. (taken n j r o, given n j r o);
        reversible = consistent-reversible (length names) (control_lines m) (control_lines m) numbered.items consistent
            (within (length names) (control_lines m) (control_lines m) numbered.items
            (λ v h. in_range v (numbered.only v h)));
      },
    )
      where
        taken : (n j r o : ℕ) → go_by numbered.items n j ≡ Some (r, o) → NumberedGoes m names n j r o
        taken n j r o e = numbered.only (record { state = n; input = j; next = r; output = o })
            (found numbered.items n j r o e)

        given : (n j r o : ℕ) → NumberedGoes m names n j r o → go_by numbered.items n j ≡ Some (r, o)
        given n j r o h =
            let v : Move = record { state = n; input = j; next = r; output = o } in
            finds numbered.items v (numbered.each v h) (λ w k a b. ahead w v (numbered.only w k) h a b)

        consistent : AreConsistent numbered.items
        consistent = record {
          ahead = λ i j a b x y. ahead a b (numbered.only a (member_at numbered.items i a x))
              (numbered.only b (member_at numbered.items j b y));
          behind = λ i j a b x y. behind a b (numbered.only a (member_at numbered.items i a x))
              (numbered.only b (member_at numbered.items j b y));
        }

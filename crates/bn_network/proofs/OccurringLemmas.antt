-- The states of a control, listed and put in order.
use Rattle.std.proofs.Common.{◌≡◌, ◌≢◌, ◌⊎◌, inl, inr, ℕ, ◌<◌, List, [], ◌∷◌, ◌++◌, Some, refl}
use Rattle.std.proofs.lemmas.Bool.Decides.{eqb_tells}
use Rattle.bn_lists.specs.Lists.{nth}
use Rattle.bn_machine.specs.declared.quint.Side.{Side}
use Rattle.bn_quad.specs.Quadruples.{Quadruples, Rule, final_state_of}
use Rattle.bn_network.specs.Controls.{ControlState, Begin, End, Reads, Shifts, Writes, IsNotLeft, Occurs, is_begin}
use Rattle.bn_network.specs.Controls.{is_end, is_open, is_read, is_shift, is_write, reads_of, shifts_of, writes_of}
use Rattle.bn_network.specs.Controls.{symbols_read, IsNumbering}
use Rattle.bn_network.proofs.ExistingLemmas.{left_or_not}
use Rattle.bn_lists.proofs.MemberLemmas.{place_of, member_at}
use Rattle.bn_network.proofs.ListedLemmas.{Listing, alone, either, same, for_each, those, below, entries, splits}
use Rattle.bn_network.proofs.SortedLemmas.{order_of, one_order, sorted_rises}
use Rattle.bn_network.proofs.KeyLemmas.{by_key, keys_ordered, ties_one}

module _ (m : Quadruples) where
  -- the states of the machine that aren't left, but the final one
  abbrev IsOpen : ℕ → Type 0
  IsOpen a = (a ≢ final_state_of m.rules) × IsNotLeft m a

  -- whether a state is such
  open_or_not : (a : ℕ) → IsOpen a ⊎ (IsOpen a → ⊥)
  open_or_not a = elim (eqb_tells a (final_state_of m.rules)) [
    | inl here ↦ inr (λ h. h.0 here.1)
    | inr other ↦ elim (left_or_not m a) [
      | inl f ↦ inr (λ h. h.1.none f.0 f.1 f.2 f.3)
      | inr none ↦ inl (other.1, none)
    ]
  ]

  -- a state at one place of one list of a quadruple
  abbrev AtRule : {S : Type 0} → (Rule ℕ → List S) → ((ℕ × Rule ℕ) → (List S × S × List S) → ControlState)
      → ControlState → Type 0
  AtRule {S} part name q = (x : ℕ × Rule ℕ) × (nth m.rules x.0 ≡ Some x.1)
      × ((s : List S × S × List S) × (part x.1 ≡ s.0 ++ (s.1 ∷ s.2)) × (q ≡ name x s))

  -- such states, listed
  at_rule : {S : Type 0} (part : Rule ℕ → List S) (name : (ℕ × Rule ℕ) → (List S × S × List S) → ControlState)
      → Listing (AtRule part name)
  at_rule {S = S} part name =
      for_each (λ (x : ℕ × Rule ℕ). nth m.rules x.0 ≡ Some x.1)
      (λ (x : ℕ × Rule ℕ) (q : ControlState). (s : List S × S × List S)
      × (part x.1 ≡ s.0 ++ (s.1 ∷ s.2)) × (q ≡ name x s)) (entries m.rules)
      (λ x h. for_each (λ (s : List S × S
      × List S). part x.1 ≡ s.0 ++ (s.1 ∷ s.2)) (λ s q. q ≡ name x s) (splits (part x.1))
      (λ s k. alone (λ q. q ≡ name x s) (name x s) refl (λ q e. e)))

  -- the state at a read
  abbrev read_name : (ℕ × Rule ℕ) → (List (ℕ × ℕ) × (ℕ × ℕ) × List (ℕ × ℕ)) → ControlState
  read_name x s = Reads x.1.from (symbols_read s.0)

  -- the state at a shift
  abbrev shift_name : (ℕ × Rule ℕ) → (List (ℕ × Side) × (ℕ × Side) × List (ℕ × Side)) → ControlState
  shift_name x s = Shifts x.0 s.1.0

  -- the state at a write
  abbrev write_name : (ℕ × Rule ℕ) → (List (ℕ × ℕ) × (ℕ × ℕ) × List (ℕ × ℕ)) → ControlState
  write_name x s = Writes x.1.to s.1.0 (symbols_read s.2)

  -- the state that waits where the machine is stuck
  abbrev IsOpenRead : ControlState → Type 0
  IsOpenRead q = (a : ℕ) × ((a < m.states) × IsOpen a) × (q ≡ Reads a [])

  -- a state of any kind
  abbrev IsOneOf : ControlState → Type 0
  IsOneOf q = (q ≡ Begin) ⊎ ((q ≡ End) ⊎ (IsOpenRead q ⊎ (AtRule reads_of read_name q
      ⊎ (AtRule shifts_of shift_name q ⊎ AtRule writes_of write_name q))))

  -- these occur
  forth : (q : ControlState) → IsOneOf q → Occurs m q
  forth q (inl e) = is_begin e
  forth q (inr (inl e)) = is_end e
  forth q (inr (inr (inl h))) = is_open h.0 h.1.0 h.1.1.0 h.1.1.1 h.2
  forth q (inr (inr (inr (inl h)))) = is_read h.0.0 h.0.1 h.1 h.2.0.0 h.2.0.2 h.2.0.1 h.2.1 h.2.2
  forth q (inr (inr (inr (inr (inl h))))) = is_shift h.0.0 h.0.1 h.1 h.2.0.0 h.2.0.2 h.2.0.1 h.2.1 h.2.2
  forth q (inr (inr (inr (inr (inr h))))) = is_write h.0.0 h.0.1 h.1 h.2.0.0 h.2.0.2 h.2.0.1 h.2.1 h.2.2

  -- and what occurs is one of them
  back : (q : ControlState) → Occurs m q → IsOneOf q
  back q (is_begin e) = inl e
  back q (is_end e) = inr (inl e)
  back q (is_open a low other none e) = inr (inr (inl (a, (low, (other, none)), e)))
  back q (is_read n r is before rest p split e) = inr (inr (inr (inl ((n, r), is, ((before, p, rest), split, e)))))
  back q (is_shift n r is before rest p split e) = inr (inr (inr
      (inr (inl ((n, r), is, ((before, p, rest), split, e))))))
  back q (is_write n r is before rest p split e) = inr (inr (inr
      (inr (inr ((n, r), is, ((before, p, rest), split, e))))))

  -- the states that wait where the machine is stuck
  open_reads : Listing IsOpenRead
  open_reads = for_each (λ a. (a < m.states)
      × IsOpen a) (λ a q. q ≡ Reads a []) (those (λ a. a < m.states) IsOpen (below m.states) open_or_not)
      (λ a h. alone (λ q. q ≡ Reads a []) (Reads a []) refl (λ q e. e))

  -- the states that occur
  pub occurring : Listing (Occurs m)
  occurring =
      let writes = at_rule writes_of write_name in
      let shifts = at_rule shifts_of shift_name in
      let reads = at_rule reads_of read_name in
      let four = either (AtRule shifts_of shift_name) (AtRule writes_of write_name) shifts writes in
      let three = either (AtRule reads_of read_name) (λ q. AtRule shifts_of shift_name q
      ⊎ AtRule writes_of write_name q) reads four in
      let two = either IsOpenRead (λ q. AtRule reads_of read_name q
      ⊎ (AtRule shifts_of shift_name q ⊎ AtRule writes_of write_name q)) open_reads three in
      let one = either (λ q. q ≡ End) (λ q. IsOpenRead q ⊎ (AtRule reads_of read_name q
      ⊎ (AtRule shifts_of shift_name q ⊎ AtRule writes_of write_name q))) (alone (λ q. q ≡ End) End refl (λ q e. e))
      two in
      same IsOneOf (Occurs m) (either (λ q. q ≡ Begin) (λ q. (q ≡ End)
      ⊎ (IsOpenRead q ⊎ (AtRule reads_of read_name q ⊎ (AtRule shifts_of shift_name q
      ⊎ AtRule writes_of write_name q)))) (alone (λ q. q ≡ Begin) Begin refl (λ q e. e)) one) forth back

  -- there is an order of them
  pub order_there : (names : List ControlState) × IsNumbering m names
  order_there =
      let done = order_of by_key keys_ordered (Occurs m) occurring (ties_one m) in (
        done.items,
        record {
          each = λ q h. place_of done.items q (done.each q h);
          only = λ n q e. done.only q (member_at done.items n q e);
          rising_keys = sorted_rises by_key keys_ordered done.items done.sorted;
        },
      )

  -- and only one
  pub order_one : (a b : List ControlState) → IsNumbering m a → IsNumbering m b → a ≡ b
  order_one a b na nb = one_order by_key keys_ordered a b na.rising_keys nb.rising_keys
      (λ n q e. nb.each q (na.only n q e)) (λ n q e. na.each q (nb.only n q e))

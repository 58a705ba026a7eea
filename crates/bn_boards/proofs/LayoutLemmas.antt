-- A machine's layout is there.
use Rattle.std.specs.Prelude.{◌≡◌, ◌≢◌, ◌↔◌, ℕ, zero, suc, ◌<◌, ◌==◌, List, [], ◌∷◌, length, Option, Some, None}
use Rattle.std.specs.Prelude.{slice_get, refl, ◌⊎◌}
use Rattle.std.proofs.Common.{arith, sym, ap, subst, ◌∙◌, inl, inr}
use Rattle.std.proofs.lemmas.Bool.{cases_Bool, eqb-false, eqb-true}
use Rattle.std.proofs.lemmas.Option.{slice_get_within, slice_get_cases, some_pair_parts}
use Rattle.bn_machine.specs.Outcome.{Limits}
use Rattle.bn_machine.specs.declared.quint.Side.{Side}
use Rattle.bn_quad.specs.Quadruples.{Quadruples, IsQuadMachine, final_state_of}
use Rattle.bn_quad.specs.Calls.{IsUniformMachine}
use Rattle.bn_network.specs.declared.cell_line.CellLine.TheVariants.{Read}
use Rattle.bn_network.specs.Controls.{ControlState, Begin, End, Reads, Shifts, Writes, Tape as to_tape, ControlMove}
use Rattle.bn_network.specs.Controls.{IsEntry, IsFirstOf, finishes, leaves, waits, Occurs, is_begin, is_end, is_open}
use Rattle.bn_network.specs.Controls.{is_read, is_shift, is_write, IsNumbering, reads_of, shifts_of, symbols_read}
use Rattle.bn_network.specs.Controls.{out_number, IsFirstKept, final_kept, sent_kept}
use Rattle.bn_boards.specs.Layouts.{Layout, IsLayout}
use Rattle.bn_boards.proofs.SameLemmas.{layouts_one}
use Rattle.bn_network.proofs.EntryLemmas.{one_entry}
use Rattle.bn_network.proofs.ExistingLemmas.{some_entry, have-entries}
use Rattle.bn_network.proofs.GoingLemmas.{end_entry}
use Rattle.bn_network.proofs.RangeLemmas.{rule_in_range}
use Rattle.bn_boards.specs.ExistenceLaws.{LayoutsAreThere}

-- ---- lists by their places

-- a list with what each place wants
record IsFilled {X : Type 0} (P : ℕ → X → Type 0) (n : ℕ) : Type 0 where
  items : List X
  count : length items ≡ n
  each : (i : ℕ) (x : X) → slice_get items i ≡ Some x → P i x

filled : {X : Type 0} (P : ℕ → X → Type 0) (n : ℕ) → ((i : ℕ) → i < n → (x : X) × P i x) → IsFilled P n
filled P zero f = record { items = []; count = refl; each = λ i x h. absurd (cc) }
filled {X = X} P (suc n) f =
    let first = f 0 (omega arith) in
    let rest = filled (λ i. P (suc i)) n (λ i h. f (suc i) (omega arith)) in
    record { items = first.0 ∷ rest.items; count = ap suc rest.count; each = each first.0 first.1 rest }
  where
    each : (x : X) → P 0 x → (rest : IsFilled (λ i. P (suc i)) n) → (i : ℕ) (y : X)
        → slice_get (x ∷ rest.items) i ≡ Some y → P i y
    each x here rest zero y h = let same : x ≡ y = cc in subst (P 0) same here
    each x here rest (suc i) y h = rest.each i y h

-- ---- first commands

module _ (m : Quadruples) (is : IsQuadMachine m) (u : IsUniformMachine m) (l : Limits) (names : List ControlState)
    (numbering : IsNumbering m names) where
  -- what is kept of a state's first command
  first_kept : (a : ℕ) → a < m.states → (f : Option (ℕ × ℕ)) × IsFirstKept m names a f
  first_kept a low = elim (cases_Bool (a == final_state_of m.rules)) [
    | inl here ↦ (None, final_kept (eqb-true a (final_state_of m.rules) here))
    | inr other ↦
        let entry = some_entry m u a low in
        let at = numbering.each entry.0.0 (end_entry m is a entry.0 entry.1).occurs in (
          Some (at.0, out_number m entry.0.1),
          sent_kept (eqb-false a (final_state_of m.rules) other) entry.0 at.0 entry.1 at.1,
        )
  ]

  -- ---- awaited reads

  -- the first command of this state is a read, which is awaited where nothing was read
  abbrev IsAwaited : ℕ → ℕ → Type 0
  IsAwaited a t = IsEntry m a (Reads a [], to_tape t Read)

  -- a first read is told from other first commands
  move_tells : (a : ℕ) (k : ControlMove) → IsEntry m a k → ((t : ℕ) × (k ≡ (Reads a [], to_tape t Read)))
      ⊎ ((t : ℕ) → k ≡ (Reads a [], to_tape t Read) → ⊥)
  move_tells a k (finishes here e) = inr (λ t same. let one : End
      ≡ Reads a [] = ap (λ (v : ControlMove). v.0) (sym e ∙ same) in cc)
  move_tells a k (leaves n r here from first) = go (reads_of r) (shifts_of r) first
    where
      go : (rs : List (ℕ × ℕ)) (ss : List (ℕ × Side)) → IsFirstOf n r rs ss k
          → ((t : ℕ) × (k ≡ (Reads a [], to_tape t Read))) ⊎ ((t : ℕ) → k ≡ (Reads a [], to_tape t Read) → ⊥)
      go [] [] h = absurd h
      go [] (p ∷ ss) h = inr (λ t same. let one : Shifts n p.0 ≡ Reads a [] = ap (λ (v : ControlMove). v.0)
          (sym h ∙ same) in cc)
      go (p ∷ rs) ss h = inl (p.0, h ∙ ap (λ (b : ℕ). (Reads b [], to_tape p.0 Read)) from)
  move_tells a k (waits other low none e) = inl (1, e)

  -- what holds of a place of the list of awaited reads
  record IsPlace (q : ℕ) (x : Option (ℕ × ℕ)) : Type 0 where
    forth : (a t : ℕ) → x ≡ Some (a, t) → (slice_get names q ≡ Some (Reads a [])) × IsAwaited a t
    back : (a t : ℕ) → slice_get names q ≡ Some (Reads a []) → IsAwaited a t → x ≡ Some (a, t)

  -- a state that is no first read awaits none
  awaits_none : (q : ℕ) (s : ControlState) → slice_get names q ≡ Some s → ((a : ℕ) → s ≢ Reads a [])
      → (x : Option (ℕ × ℕ)) × IsPlace q x
  awaits_none q s at never = (
    None,
    record {
      forth = λ a t h. absurd (cc);
      back = λ a t h entry. absurd (never a (let both : Some s ≡ Some (Reads a []) = sym at ∙ h in cc));
    },
  )

  -- the state of a first read is one of the machine's
  read_low : (a : ℕ) (s : ControlState) → s ≡ Reads a [] → Occurs m s → a < m.states
  read_low a s e (is_begin f) = let none : Begin ≡ Reads a [] = sym f ∙ e in absurd (cc)
  read_low a s e (is_end f) = let none : End ≡ Reads a [] = sym f ∙ e in absurd (cc)
  read_low a s e (is_open b low other none f) = let both : Reads b [] ≡ Reads a [] = sym f ∙ e in let same : b ≡ a =
      cc in omega arith
  read_low a s e (is_read n r here before rest p split f) =
      let both : Reads r.from (symbols_read before) ≡ Reads a [] = sym f ∙ e in let same : r.from ≡ a = cc in let low =
      (rule_in_range m is n r here).from in omega arith
  read_low a s e (is_shift n r here before rest p split f) = let none : Shifts n p.0 ≡ Reads a [] =
      sym f ∙ e in absurd (cc)
  read_low a s e (is_write n r here before rest p split f) = let none : Writes r.to p.0 (symbols_read rest)
      ≡ Reads a [] = sym f ∙ e in absurd (cc)

  -- a state of the machine and a tape
  abbrev pair : ℕ → ℕ → Option (ℕ × ℕ)
  pair a t = Some (a, t)

  -- a first read awaits its tape, if its state begins with it
  awaits_read : (q a : ℕ) → slice_get names q ≡ Some (Reads a []) → (x : Option (ℕ × ℕ)) × IsPlace q x
  awaits_read q a at =
      let low = read_low a (Reads a []) refl (numbering.only q (Reads a []) at) in
      let entry = some_entry m u a low in
      go entry.0 entry.1 (move_tells a entry.0 entry.1)
    where
      same_state : (b : ℕ) → slice_get names q ≡ Some (Reads b []) → a ≡ b
      same_state b h = let both : Some (Reads a []) ≡ Some (Reads b []) = sym at ∙ h in cc

      go : (k : ControlMove) → IsEntry m a k → ((t : ℕ) × (k ≡ (Reads a [], to_tape t Read)))
          ⊎ ((t : ℕ) → k ≡ (Reads a [], to_tape t Read) → ⊥)
          → (x : Option (ℕ × ℕ)) × IsPlace q x
      go k entry (inl h) = (Some (a, h.0), record { forth = forth; back = back })
        where
          forth : (b t : ℕ) → pair a h.0 ≡ pair b t → (slice_get names q ≡ Some (Reads b [])) × IsAwaited b t
          forth b t e =
              let parts = some_pair_parts a b h.0 t e in
              let one : a ≡ b = parts.0 in
              let two : h.0 ≡ t = parts.1 in (
                subst (λ c. slice_get names q ≡ Some (Reads c [])) one at,
                subst (λ c. IsAwaited c t) one (subst (IsAwaited a) two (subst (IsEntry m a) h.1 entry)),
              )

          back : (b t : ℕ) → slice_get names q ≡ Some (Reads b []) → IsAwaited b t → pair a h.0 ≡ pair b t
          back b t e other =
              let one = same_state b e in
              let there : IsAwaited a t = subst (λ c. IsAwaited c t) (sym one) other in
              let line : to_tape h.0 Read ≡ to_tape t Read = ap (λ (v : ControlMove). v.1)
              (sym h.1 ∙ one_entry m u a k (Reads a [], to_tape t Read) entry there) in
              let two : h.0 ≡ t = cc in
              λ i. Some (one i, two i)
      go k entry (inr none) = (None, record { forth = λ b t h. absurd (cc); back = back })
        where
          back : (b t : ℕ) → slice_get names q ≡ Some (Reads b []) → IsAwaited b t → None ≡ pair b t
          back b t e other =
              let one = same_state b e in
              let there : IsAwaited a t = subst (λ c. IsAwaited c t) (sym one) other in
              absurd (none t (one_entry m u a k (Reads a [], to_tape t Read) entry there))

  -- what a state of the control awaits
  awaits : (q : ℕ) (s : ControlState) → slice_get names q ≡ Some s → (x : Option (ℕ × ℕ)) × IsPlace q x
  awaits q Begin at = awaits_none q Begin at (λ a e. cc)
  awaits q End at = awaits_none q End at (λ a e. cc)
  awaits q (Reads a []) at = awaits_read q a at
  awaits q (Reads a (c ∷ s)) at = awaits_none q (Reads a (c ∷ s)) at (λ b e. cc)
  awaits q (Shifts n t) at = awaits_none q (Shifts n t) at (λ a e. cc)
  awaits q (Writes a t s) at = awaits_none q (Writes a t s) at (λ b e. cc)

  -- what each number awaits
  awaits_at : (q : ℕ) → q < length names → (x : Option (ℕ × ℕ)) × IsPlace q x
  awaits_at q low = elim ((slice_get_cases names q).1) [
    | inl h ↦ awaits q h.0 h.2
    | inr h ↦ absurd (let high = h.0 in omega arith)
  ]

  -- the layout
  layout_there : (b : Layout) × IsLayout m l names b
  layout_there =
      let firsts = filled (IsFirstKept m names) m.states first_kept in
      let awaited = filled IsPlace (length names) awaits_at in (
        record {
          limits = l;
          symbols = m.symbols;
          states = length names;
          firsts = firsts.items;
          awaited = awaited.items;
        },
        record {
          limits = refl;
          symbols = refl;
          states = refl;
          counted = firsts.count;
          firsts = firsts.each;
          awaited_counted = awaited.count;
          awaiting = awaiting awaited;
        },
      )
    where
      awaiting : (filling : IsFilled IsPlace (length names)) (q a t : ℕ)
          → (slice_get filling.items q ≡ Some (Some (a, t))) ↔ ((slice_get names q ≡ Some (Reads a [])) × IsAwaited a t)
      awaiting filling q a t = (λ h. (filling.each q (Some (a, t)) h).forth a t refl, λ h. given h.0 h.1)
        where
          at_place : (x : Option (ℕ × ℕ)) → slice_get filling.items q ≡ Some x → slice_get names q ≡ Some (Reads a [])
              → IsAwaited a t
              → slice_get filling.items q ≡ Some (Some (a, t))
          at_place x e named entry = e ∙ ap (λ y. Some y) ((filling.each q x e).back a t named entry)

          given : slice_get names q ≡ Some (Reads a []) → IsAwaited a t → slice_get filling.items q ≡ Some (Some (a, t))
          given named entry = elim ((slice_get_cases filling.items q).1) [
            | inl h ↦ at_place h.0 h.2 named entry
            | inr h ↦ absurd (let low = slice_get_within names q (Reads a []) named in let few = filling.count in let
                high = h.0 in omega arith)
          ]

-- a machine has a layout, and only one
pub layouts-there : LayoutsAreThere
layouts-there = (
  λ m l names is u numbering. layout_there m is u l names numbering,
  λ m l names b c is u numbering. layouts_one m l names numbering (have-entries m is u) b c,
)

-- The layout of an assembled network's control keeps what every layout keeps, and is the machine's.
use Rattle.std.specs.Prelude.{◌≡◌, ℕ, ◌+◌, ◌-◌, ◌<◌, ◌≤◌, List, [], ◌∷◌, All, length, Option, Some, slice_get}
use Rattle.std.specs.Prelude.{slice_index, refl}
use Rattle.std.proofs.Common.{zero, suc, arith, sym, ap, subst, ◌∙◌}
use Rattle.std.proofs.lemmas.Option.{slice_get_within, get_or_from_slice_get}
use Rattle.bn_machine.specs.Outcome.{Limits}
use Rattle.bn_quad.specs.Quadruples.{Configuration, Quadruples, IsQuadMachine}
use Rattle.bn_network.specs.Controls.{ControlState, Begin, Reads, Tape as to_tape, IsEntry, is_begin, symbol_count}
use Rattle.bn_network.specs.Controls.{lines_before, out_number, command_offset, control_lines, IsFirstKept, final_kept}
use Rattle.bn_network.specs.Controls.{sent_kept}
use Rattle.bn_network.specs.declared.cell_line.CellLine.TheVariants.{Read}
use Rattle.bn_network.specs.Networks.{elements_by}
use Rattle.bn_control.specs.Controlled.{Controlled, IsControlOf, IsAwaiting, IsTapeAwaited}
use Rattle.bn_boards.proofs.ModuleLemmas.{found}
use Rattle.bn_boards.specs.Layouts.{Layout, IsLayout, elements_of}
use Rattle.bn_boards.proofs.CommandLemmas.{command_number, entry-IsCommandMove}
use Rattle.bn_network_assembly.specs.Assembled.{Assembled, IsAssembledFrom, IsKept}
use Rattle.bn_network_assembly.specs.declared.module.Module.{Module}
use Rattle.bn_network_assembly.specs.declared.module.Module.TheVariants.{Control}
use Rattle.bn_network.specs.declared.limits.TheConstants.{MOST_SYMBOLS}
use Rattle.bn_board.specs.Flattened.{IsFirstWithin, IsLayoutKept}
use Rattle.bn_board.specs.Starts.{layout_by, IsLayoutOf}

-- a line that is one of a tape's first ones, of three tapes
first_low : (zs : List ℕ) (t x : ℕ) → length zs ≡ 3 → t < 3 → x < slice_index zs t + 3
    → (1 ≤ lines_before zs t + x) × (lines_before zs t + x <
    lines_before zs 3)
first_low (a ∷ b ∷ c ∷ []) zero x three low few = (omega arith, omega arith)
first_low (a ∷ b ∷ c ∷ []) (suc zero) x three low few = (omega arith, omega arith)
first_low (a ∷ b ∷ c ∷ []) (suc (suc zero)) x three low few = (omega arith, omega arith)
first_low zs (suc (suc (suc t))) x three low few = absurd (omega arith)
first_low [] t x three low few = absurd (omega arith)
first_low (a ∷ []) t x three low few = absurd (omega arith)
first_low (a ∷ b ∷ []) t x three low few = absurd (omega arith)
first_low (a ∷ b ∷ c ∷ d ∷ zs) t x three low few = absurd (omega arith)

-- the control of a module that is one
control_of : (v w : Controlled) → ◌≡◌ {A = Option Module} (Some (Control v)) (Some (Control w)) → v ≡ w
control_of v w same = cc

module _ (m : Quadruples) (names : List ControlState) (quad : IsQuadMachine m) (v : Controlled)
    (is : IsControlOf m names v) where
  first_within : (a : ℕ) (f : Option (ℕ × ℕ)) → IsFirstKept m names a f
      → IsFirstWithin (length names) (control_lines m) f
  first_within a f (final_kept final) = tt
  first_within a f (sent_kept apart k q entry named) = sent (entry-IsCommandMove m a k apart entry).tape refl
    where
      sent : (t : ℕ) → (entry-IsCommandMove m a k apart entry).tape ≡ t
          → IsFirstWithin (length names) (control_lines m) (Some (q, out_number m k.1))
      sent zero at = let h = (entry-IsCommandMove m a k apart entry).is_tape.low in absurd (omega arith)
      sent (suc t) at =
          let move = entry-IsCommandMove m a k apart entry in
          let high = move.is_tape.high in
          let number = command_number (symbol_count m move.tape) move.line move.command move.in_range in
          let offset : command_offset (symbol_count m (suc t)) move.line < symbol_count m (suc t) + 3 =
          subst (λ u. command_offset (symbol_count m u) move.line <
          symbol_count m u + 3) at (let e = number.0 in let h = number.1 in omega arith) in
          let low = first_low m.symbols t (command_offset (symbol_count m (suc t)) move.line) quad.tapes (omega arith)
          offset in
          let line : out_number m k.1 ≡ lines_before m.symbols t + command_offset (symbol_count m (suc t)) move.line =
          ap (out_number m) (move.is ∙ ap (λ u.
          to_tape u move.line) at) ∙ ap (λ x. lines_before m.symbols x
          + command_offset (symbol_count m (suc t)) move.line) (let e : suc t - 1 ≡ t = omega
          arith in e) in
          (slice_get_within names q k.0 named, omega (arith, low.0), omega (arith, low.1))

module _ (m : Quadruples) (names : List ControlState) (v : Controlled) (is : IsControlOf m names v) where
  states_are : v.machine.states ≡ length names
  states_are = is.table.states

  -- it is the machine's layout
  pub layout-IsLayout : (l : Limits) → IsLayout m l names (layout_by v l)
  layout-IsLayout l = record {
    limits = refl;
    symbols = is.symbols;
    states = states_are;
    counted = is.counted;
    firsts = is.firsts;
    awaited_counted = is.awaited_counted;
    awaiting = λ q a t. (
      λ at. forth q a t ((is.awaiting q a t).0 at),
      λ h. (is.awaiting q a t).1 (Reads a [], h.0, record { state = refl; entry = h.1 }),
    );
  }
    where
      forth : (q a t : ℕ) → (s : ControlState) × (slice_get names q ≡ Some s) × IsAwaiting m s a t
          → (slice_get names q ≡ Some (Reads a [])) ×
          IsEntry m a (Reads a [], to_tape t Read)
      forth q a t h = (h.1 ∙ ap (λ s. Some s) h.2.state, h.2.entry)

-- the number of elements, by the layout and by the machine
counted_by : (m : Quadruples) (names : List ControlState) (v : Controlled) → IsControlOf m names v → (l : Limits)
    → elements_of (layout_by v l) ≡
    elements_by m l (length names)
counted_by m names v is l = at_states v.machine.states v.symbols is.table.states is.symbols
  where
    with_numbers : ℕ → List ℕ → Layout
    with_numbers n zs = record { limits = l; symbols = zs; states = n; firsts = v.firsts; awaited = v.awaited }

    at_states : (n : ℕ) (zs : List ℕ) → n ≡ length names → zs ≡ m.symbols
        → elements_of (with_numbers n zs) ≡ elements_by m l (length names)
    at_states n zs states symbols = (λ i. elements_of (with_numbers (states i) (symbols i))) ∙ refl

-- what holds of each item
all_by : {X : Type 0} (P : X → Type 0) (xs : List X) → ((i : ℕ) (x : X) → slice_get xs i ≡ Some x → P x) → All P xs
all_by P xs each k d low =
    let here = found xs k low in
    subst P (sym (get_or_from_slice_get xs k here.0 d here.1)) (each k here.0 here.1)

-- what an assembled network's layout keeps
pub kept-layout : (a : Assembled) (b : Layout) → IsKept a → IsLayoutOf a b → IsLayoutKept b
kept-layout a b kept is = subst IsLayoutKept (sym is.numbers)
    (at_control (control_of is.control kept.assembled.control (sym is.first ∙
    kept.assembled.first)))
  where
    at_control : is.control ≡ kept.assembled.control → IsLayoutKept (layout_by is.control a.limits)
    at_control same =
        let v = is.control in
        let m = kept.machine in
        let names = kept.names in
        let control : IsControlOf m names v = subst (λ w. IsControlOf m names w) (sym same) kept.assembled.is_control in
        let quad = kept.is_machine in
        let three : length v.symbols ≡ 3 = ap (λ zs. length zs) control.symbols ∙ quad.tapes in
        let begin = control.numbering.each Begin (is_begin refl) in
        let some = slice_get_within names begin.0 Begin begin.1 in
        let states = control.table.states in
        let few = kept.assembled.few in
        let elements : elements_of (layout_by v a.limits) ≡ elements_by m a.limits (length names) =
        counted_by m names v control a.limits in
        let machine_states = kept.within.states in
        let firsts = control.counted in
        record {
          small = kept.small;
          tapes = three;
          some_symbols = subst (λ zs. All (λ z. 1 ≤ z) zs) (sym control.symbols) kept.within.some_symbols;
          few_symbols = subst (λ zs. All (λ z. z ≤ MOST_SYMBOLS) zs) (sym control.symbols) kept.within.few_symbols;
          some_states = omega arith;
          few_elements = omega arith;
          few_firsts = omega arith;
          firsts_within = all_by (IsFirstWithin v.machine.states (lines_before v.symbols 3)) v.firsts (λ a f at.
              subst (λ n. IsFirstWithin n (lines_before v.symbols 3) f) (sym states)
              (subst (λ zs. IsFirstWithin (length names) (lines_before zs 3) f)
              (sym control.symbols) (first_within m names quad v control a f (control.firsts a f at))));
          awaited_counted = control.awaited_counted ∙ sym states;
          awaited_tapes = is.tapes;
        }

-- the layout has as many elements as the board
pub layout-size : (a : Assembled) (b : Layout) (kept : IsKept a) → IsLayoutOf a b
    → elements_of b ≡ elements_by kept.machine a.limits (length kept.names)
layout-size a b kept is =
    let same = control_of is.control kept.assembled.control (sym is.first ∙ kept.assembled.first) in
    let control : IsControlOf kept.machine kept.names is.control =
    subst (λ w. IsControlOf kept.machine kept.names w) (sym same) kept.assembled.is_control in
    ap elements_of is.numbers ∙ counted_by kept.machine kept.names is.control control a.limits

-- it is the layout of each machine for which the network was assembled
pub layout-of-each : (a : Assembled) (b : Layout) → IsLayoutOf a b → (m : Quadruples) (c : Configuration ℕ)
    (names : List ControlState) → IsAssembledFrom m a.limits c names a → IsLayout m a.limits names b
layout-of-each a b is m c names assembled =
    let same = control_of is.control assembled.control (sym is.first ∙ assembled.first) in
    let control : IsControlOf m names is.control = subst (λ w. IsControlOf m names w) (sym same) assembled.is_control in
    subst (IsLayout m a.limits names) (sym is.numbers) (layout-IsLayout m names is.control control a.limits)

-- three numbers of symbols
three_of : (zs : List ℕ) → length zs ≡ 3 → slice_index zs 0 ∷ slice_index zs 1 ∷ slice_index zs 2 ∷ [] ≡ zs
three_of (x ∷ y ∷ z ∷ []) three = refl
three_of [] three = absurd (omega arith)
three_of (x ∷ []) three = absurd (omega arith)
three_of (x ∷ y ∷ []) three = absurd (omega arith)
three_of (x ∷ y ∷ z ∷ u ∷ zs) three = absurd (omega arith)

-- the layout that is read off the control
pub layout-read : (a : Assembled) (kept : IsKept a) (v : Controlled) → slice_get a.net.elements 0 ≡ Some (Control v)
    → All IsTapeAwaited v.awaited
    → (l : Limits) → l ≡ a.limits → (one two three states : ℕ) → one ≡ symbol_count kept.machine 1
    → two ≡ symbol_count kept.machine 2 → three ≡ symbol_count kept.machine 3
    → states ≡ v.machine.states → (firsts awaited : List (Option (ℕ × ℕ))) → firsts ≡ v.firsts → awaited ≡ v.awaited
    → IsLayoutOf a (record {
      limits = l;
      symbols = one ∷ two ∷ three ∷ [];
      states = states;
      firsts = firsts;
      awaited = awaited;
    })
layout-read a kept v first tapes l limits one two three states one_is two_is three_is states_is firsts awaited firsts_is
    awaited_is =
    let same = control_of v kept.assembled.control (sym first ∙ kept.assembled.first) in
    let symbols : v.symbols ≡ kept.machine.symbols = ap (λ (w : Controlled). w.symbols) same
    ∙ kept.assembled.is_control.symbols in
    let all : one ∷ two ∷ three ∷ [] ≡ v.symbols = (λ i. one_is i ∷ two_is i ∷ three_is i ∷ [])
    ∙ three_of kept.machine.symbols kept.is_machine.tapes ∙
    sym symbols in
    record {
      control = v;
      first = first;
      tapes = tapes;
      numbers = (λ i. record {
        limits = limits i;
        symbols = all i;
        states = states_is i;
        firsts = firsts_is i;
        awaited = awaited_is i;
      });
    }

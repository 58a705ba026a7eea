-- A board's wires as a list that grows, in the words of this crate.
use Rattle.std.specs.Prelude.{◌≡◌, ℕ, ◌+◌, ◌*◌, ◌<◌, ◌≤◌, ◌^◌, slice_index_or, List, [], ◌∷◌, ◌++◌, length, Some, None}
use Rattle.std.specs.Prelude.{slice_get, refl, ◌⊎◌}
use Rattle.std.proofs.Common.{zero, suc, arith, sym, ap, subst, ◌∙◌, inl, inr, length-append}
use Rattle.std.proofs.lemmas.Option.{slice_get_within, slice_get-map, get_or_from_slice_get}
use Rattle.std.proofs.Math.Nat.{mul-le-mul_right}
use Rattle.std.proofs.lemmas.List.{length-map}
use Rattle.std.specs.Option.{option_map}
use Rattle.bn_element.specs.Tables.{Table}
use Rattle.bn_circuits.specs.Circuits.{Circuit, target}
use Rattle.bn_circuits.specs.declared.line.Line.{Line}
use Rattle.bn_circuits.specs.declared.line.Wire.{Wire}
use Rattle.bn_circuits.specs.Circuits.{line_at}
use Rattle.bn_circuits.specs.Wirings.{AreWiresOf}
use Rattle.bn_circuits.proofs.WiringsLemmas.{same_wires}
use Rattle.bn_realise.specs.Banks.{IsBankWire, bank_input_line, bank_output_line}
use Rattle.bn_realise.specs.BankNets.{HasRoom}
use Rattle.bn_boards.specs.Boards.{AreModules, IsBoardWire, base, size, size_of}
use Rattle.bn_boards.proofs.ListedLemmas.{IsOwnBelow, own_none, own_more}
use Rattle.bn_boards.proofs.ModuleLemmas.{wired_input, found}
use Rattle.bn_boards.proofs.BankedLemmas.{base-within as bank_within}
use Rattle.bn_boards.proofs.GrownLemmas.{IsGrown, grown_own, grown_skip, grown_more, grown_next, grown_all}
use Rattle.bn_circuits.specs.Parts.{Parts}
use Rattle.bn_network_assembly.specs.Modules.{module_table}
use Rattle.bn_network_assembly.specs.declared.module.Module.{Module}
use Rattle.bn_board.specs.BoardWires.{AreBases, module_circuit, IsOwnWire, of_bank, IsBetween, IsWireBefore, own_wire}
use Rattle.bn_board.specs.BoardWires.{between_banks}

-- an item of a list with one more is an old one or the new one
get_either : {X : Type 0} (xs : List X) (y : X) (i : ℕ) (x : X) → slice_get (xs ++ y ∷ []) i ≡ Some x
    → (slice_get xs i ≡ Some x) ⊎ ((i ≡ length xs) × (y
    ≡ x))
get_either [] y zero x has = inr (refl, cc)
get_either [] y (suc i) x has = absurd (cc)
get_either (z ∷ xs) y zero x has = inl has
get_either (z ∷ xs) y (suc i) x has = elim (get_either xs y i x has) [
  | inl old ↦ inl old
  | inr new ↦ inr (ap (λ n. suc n) new.0, new.1)
]

-- the next bank begins where this one ends
pub base_next : (ts : List Table) (m : ℕ) (t : Table) → slice_get ts m ≡ Some t
    → base ts (m + 1) ≡ base ts m + size_of t
base_next [] m t has = absurd (cc)
base_next (u ∷ ts) zero t has =
    let same : size_of u ≡ size_of t = (let is : u ≡ t = cc in ap size_of is) in
    omega arith
base_next (u ∷ ts) (suc m) t has =
    let e : suc m + 1 ≡ suc (m + 1) = omega arith in
    let opened : base (u ∷ ts) (suc (m + 1)) ≡ size_of u + base ts (m + 1) = refl in
    let rest = base_next ts m t has in
    ap (base (u ∷ ts)) e ∙ (omega arith)

module _ (n : Circuit) (modules : AreModules n) where
  own_forth : (c : ℕ) (from to : Line) → IsOwnWire n c from to → IsOwnBelow n modules c from to
  own_forth c from to (of_bank m t low has wire) = record {
    at_module = m;
    table = t;
    low = low;
    has = has;
    wire = wire;
  }

  own_back : (c : ℕ) (from to : Line) → IsOwnBelow n modules c from to → IsOwnWire n c from to
  own_back c from to h = of_bank h.at_module h.table h.low h.has h.wire

  into_own : (c : ℕ) (ws : List Wire) → AreWiresOf (IsOwnBelow n modules c) ws → AreWiresOf (IsOwnWire n c) ws
  into_own c ws are = same_wires (IsOwnBelow n modules c) (IsOwnWire n c) ws are (own_back c) (own_forth c)

  from_own : (c : ℕ) (ws : List Wire) → AreWiresOf (IsOwnWire n c) ws → AreWiresOf (IsOwnBelow n modules c) ws
  from_own c ws are = same_wires (IsOwnWire n c) (IsOwnBelow n modules c) ws are (own_forth c) (own_back c)

  pub no_own : AreWiresOf (IsOwnWire n 0) []
  no_own = into_own 0 [] (own_none n modules)

  pub one_bank_more : (c : ℕ) (t : Table) (ws bs : List Wire) → slice_get n.tables c ≡ Some t
      → AreWiresOf (IsOwnWire n c) ws
      → AreWiresOf (IsBankWire (base n.tables c) t) bs → AreWiresOf (IsOwnWire n (c + 1)) (ws ++ bs)
  one_bank_more c t ws bs has before bank =
      let e : suc c ≡ c + 1 = omega arith in
      subst (λ x. AreWiresOf (IsOwnWire n x) (ws ++ bs)) e (into_own (suc c) (ws ++ bs)
      (own_more n modules c t has ws bs (from_own c ws before) bank))

  grown_forth : (e o : ℕ) (from to : Line) → IsWireBefore n e o from to → IsGrown n modules e o from to
  grown_forth e o from to (own_wire h) = inl (own_forth (length n.tables) from to h)
  grown_forth e o from to (between_banks out into t before wired has leaves ends) =
      inr (record {
        out = out;
        into = into;
        table = t;
        earlier = before;
        wired = wired;
        has = has;
        leaves = leaves;
        ends = ends;
      })

  grown_back : (e o : ℕ) (from to : Line) → IsGrown n modules e o from to → IsWireBefore n e o from to
  grown_back e o from to (inl h) = own_wire (own_back (length n.tables) from to h)
  grown_back e o from to (inr h) = between_banks h.out h.into h.table h.earlier h.wired h.has h.leaves h.ends

  into : (e o : ℕ) (ws : List Wire) → AreWiresOf (IsGrown n modules e o) ws → AreWiresOf (IsWireBefore n e o) ws
  into e o ws are = same_wires (IsGrown n modules e o) (IsWireBefore n e o) ws are (grown_back e o) (grown_forth e o)

  out_of : (e o : ℕ) (ws : List Wire) → AreWiresOf (IsWireBefore n e o) ws → AreWiresOf (IsGrown n modules e o) ws
  out_of e o ws are = same_wires (IsWireBefore n e o) (IsGrown n modules e o) ws are (grown_forth e o) (grown_back e o)

  pub all_own : (ws : List Wire) → AreWiresOf (IsOwnWire n (length n.tables)) ws → AreWiresOf (IsWireBefore n 0 0) ws
  all_own ws are = into 0 0 ws (grown_own n modules ws (from_own (length n.tables) ws are))

  pub wires_skip : (e o : ℕ) (ws : List Wire) → target n.wires (line_at e o) ≡ None → AreWiresOf (IsWireBefore n e o) ws
      → AreWiresOf (IsWireBefore n e (o + 1)) ws
  wires_skip e o ws none are = into e (o + 1) ws (grown_skip n modules e o ws none (out_of e o ws are))

  pub wires_more : (e o : ℕ) (ws : List Wire) (to : Line) (t : Table) → target n.wires (line_at e o) ≡ Some to
      → slice_get n.tables e ≡ Some t
      → AreWiresOf (IsWireBefore n e o) ws
      → AreWiresOf (IsWireBefore n e (o + 1)) (ws ++ record {
        from = bank_output_line (base n.tables e) t o;
        to = bank_input_line (base n.tables to.element) to.line;
      } ∷ [])
  wires_more e o ws to t is has are = into e (o + 1) _ (grown_more n modules e o ws to t is has (out_of e o ws are))

  pub wires_next : (e o : ℕ) (t : Table) (ws : List Wire) → slice_get n.tables e ≡ Some t → t.outputs ≤ o
      → AreWiresOf (IsWireBefore n e o) ws
      → AreWiresOf (IsWireBefore n (e + 1) 0) ws
  wires_next e o t ws has past are = into (e + 1) 0 ws (grown_next n modules e o t ws has past (out_of e o ws are))

  pub wires_all : (ws : List Wire) → AreWiresOf (IsWireBefore n (length n.tables) 0) ws → AreWiresOf (IsBoardWire n) ws
  wires_all ws are = grown_all n modules ws (out_of (length n.tables) 0 ws are)

  -- each bank has room for its elements
  pub bank_room : (m most : ℕ) (t : Table) → slice_get n.tables m ≡ Some t → size n.tables ≤ most → most < 2 ^ 32
      → HasRoom (base n.tables m) t
  bank_room m most t has few small =
      let within = bank_within n.tables m t has in
      record {
        some_states = modules.some_states m t has;
        some_lines = modules.some_lines m t has;
        square = modules.square m t has;
        fits = omega arith;
      }

-- what a module of a net has in its circuit
pub record IsModuleAt (net : Parts Module) (m most : ℕ) (x : Module) : Type 0 where
  pub has : slice_get (module_circuit net).tables m ≡ Some (module_table x)
  pub some_states : 0 < (module_table x).states
  pub some_lines : 0 < (module_table x).inputs
  pub square : (module_table x).outputs ≡ (module_table x).inputs
  pub fits : base (module_circuit net).tables m + size_of (module_table x) ≤ most
  pub few : size_of (module_table x) ≤ most
  pub next : base (module_circuit net).tables (m + 1) ≡ base (module_circuit net).tables m + size_of (module_table x)

pub module_at : (net : Parts Module) (m most : ℕ) (x : Module) → AreModules (module_circuit net)
    → size (module_circuit net).tables ≤ most
    → slice_get net.elements m ≡ Some x → IsModuleAt net m most x
module_at net m most x modules few is =
    let has : slice_get (module_circuit net).tables m ≡ Some (module_table x) =
    slice_get-map module_table net.elements m ∙ ap (option_map module_table) is in
    let within = bank_within (module_circuit net).tables m (module_table x) has in
    record {
      has = has;
      some_states = modules.some_states m (module_table x) has;
      some_lines = modules.some_lines m (module_table x) has;
      square = modules.square m (module_table x) has;
      fits = omega arith;
      few = omega arith;
      next = base_next (module_circuit net).tables m (module_table x) has;
    }

-- the first elements of the first banks
pub record AreBasesUpTo (ts : List Table) (m : ℕ) (bases : List ℕ) : Type 0 where
  pub count : length bases ≡ m
  pub are : (e b : ℕ) → slice_get bases e ≡ Some b → b ≡ base ts e

pub base_more : (ts : List Table) (m b : ℕ) (bases : List ℕ) → AreBasesUpTo ts m bases → b ≡ base ts m
    → AreBasesUpTo ts (m + 1) (bases ++ b ∷ [])
base_more ts m b bases so is = record {
  count = length-append bases (b ∷ []) ∙ (let e = so.count in omega arith);
  are = each;
}
  where
    each : (e x : ℕ) → slice_get (bases ++ b ∷ []) e ≡ Some x → x ≡ base ts e
    each e x has = elim (get_either bases b e x has) [
      | inl old ↦ so.are e x old
      | inr new ↦ (let count = so.count in let at : e ≡ m = omega arith in sym new.1 ∙ is ∙ ap (base ts) (sym at))
    ]

pub bases_all : (ts : List Table) (m : ℕ) (bases : List ℕ) → AreBasesUpTo ts m bases → m ≡ length ts → AreBases ts bases
bases_all ts m bases so all = record { count = so.count ∙ all; are = so.are }

-- the first element of a module's bank, as it is looked up
pub record IsBaseAt (ts : List Table) (bases : List ℕ) (m : ℕ) : Type 0 where
  pub within : m < length bases
  pub is : slice_index_or bases m 0 ≡ base ts m

pub base_at : (ts : List Table) (bases : List ℕ) (m : ℕ) → AreBases ts bases → m < length ts → IsBaseAt ts bases m
base_at ts bases m are low =
    let within : m < length bases = (let count = are.count in omega arith) in
    let here = found bases m within in
    record { within = within; is = get_or_from_slice_get bases m here.0 0 here.1 ∙ are.are m here.0 here.1 }

pub tables_counted : (net : Parts Module) → length (module_circuit net).tables ≡ length net.elements
tables_counted net = length-map net.elements module_table

-- where a wire between modules ends
pub record IsEntered (n : Circuit) (most : ℕ) (to : Line) : Type 0 where
  pub within : to.element < length n.tables
  pub fits : base n.tables to.element + to.line ≤ most

pub entered : (n : Circuit) (most : ℕ) (out to : Line) → AreModules n → size n.tables ≤ most
    → target n.wires out ≡ Some to → IsEntered n most to
entered n most out to modules few is =
    let in_ : (t : Table) × (slice_get n.tables to.element ≡ Some t) × (to.line < t.inputs) =
    wired_input n modules out to is in
    let within = bank_within n.tables to.element in_.0 in_.1 in
    let some = modules.some_states to.element in_.0 in_.1 in
    let low = in_.2 in
    let h : 1 * (in_.0.inputs + 1) ≤ in_.0.states * (in_.0.inputs + 1) = mul-le-mul_right (in_.0.inputs + 1) some in
    record { within = slice_get_within n.tables to.element in_.0 in_.1; fits = omega arith }

module _ (net : Parts Module) (bases : List ℕ) (most : ℕ) (modules : AreModules (module_circuit net))
    (few : size (module_circuit net).tables ≤ most)
    (are : AreBases (module_circuit net).tables bases) where
  pub base_of : (m : ℕ) (x : Module) → slice_get net.elements m ≡ Some x
      → slice_index_or bases m 0 ≡ base (module_circuit net).tables m
  base_of m x is =
      let low = slice_get_within net.elements m x is in
      let counted = tables_counted net in
      (base_at (module_circuit net).tables bases m are (omega arith)).is

  pub output_fits : (m : ℕ) (x : Module) → slice_get net.elements m ≡ Some x
      → slice_index_or bases m 0 + size_of (module_table x) ≤ most
  output_fits m x is = let here = base_of m x is in let fits =
      (module_at net m most x modules few is).fits in omega arith

  pub entered_within : (out to : Line) → target net.wires out ≡ Some to → to.element < length bases
  entered_within out to is = let low = (entered (module_circuit net) most out to modules few is).within in let count =
      are.count in omega arith

  pub entered_fits : (out to : Line) → target net.wires out ≡ Some to
      → slice_index_or bases to.element 0 + to.line ≤ most
  entered_fits out to is =
      let h = entered (module_circuit net) most out to modules few is in
      let here = (base_at (module_circuit net).tables bases to.element are h.within).is in
      let fits = h.fits in
      omega arith

  pub between_is : (m line : ℕ) (x : Module) (to from into_line : Line) → slice_get net.elements m ≡ Some x
      → target net.wires (line_at m line) ≡ Some to
      → from ≡ bank_output_line (slice_index_or bases m 0) (module_table x) line
      → into_line ≡ bank_input_line (slice_index_or bases to.element 0) to.line
      → IsBetween (module_circuit net) m line to (record { from = from; to = into_line })
  between_is m line x to from into_line is leads from_is into_is = record {
    wire = λ t has.
        let at_x = (module_at net m most x modules few is).has in
        let same : module_table x ≡ t = cc in
        let one = base_of m x is in
        let other = (base_at (module_circuit net).tables bases to.element are
        (entered (module_circuit net) most (line_at m line) to modules few
        leads).within).is in
        let first : from ≡ bank_output_line (base (module_circuit net).tables m) t line =
        from_is ∙ (λ i. bank_output_line (one i) (same i) line) in
        let second : into_line ≡ bank_input_line (base (module_circuit net).tables to.element) to.line =
        into_is ∙ ap (λ b. bank_input_line b to.line) other in
        (λ i. record { from = first i; to = second i });
  }

  pub own_room : (m : ℕ) (x : Module) → slice_get net.elements m ≡ Some x → most < 2 ^ 32
      → HasRoom (slice_index_or bases m 0) (module_table x)
  own_room m x is small =
      subst (λ b. HasRoom b (module_table x)) (sym (base_of m x is))
      (bank_room (module_circuit net) modules m most (module_table x) (module_at net m
      most x modules few is).has few small)

  pub own_added : (m : ℕ) (x : Module) (ws bs : List Wire) → slice_get net.elements m ≡ Some x
      → AreWiresOf (IsOwnWire (module_circuit net) m) ws
      → AreWiresOf (IsBankWire (slice_index_or bases m 0) (module_table x)) bs
      → AreWiresOf (IsOwnWire (module_circuit net) (m + 1)) (ws ++ bs)
  own_added m x ws bs is before bank =
      one_bank_more (module_circuit net) modules m (module_table x) ws bs (module_at net m most x modules few is).has
      before
      (subst (λ b. AreWiresOf (IsBankWire b (module_table x)) bs) (base_of m x is) bank)

  -- after a line that no wire leaves, and after one that a wire leaves
  pub line_skipped : (m o : ℕ) (ws : List Wire) → target net.wires (line_at m o) ≡ None
      → AreWiresOf (IsWireBefore (module_circuit net) m o) ws
      → AreWiresOf (IsWireBefore (module_circuit net) m (o + 1)) ws
  line_skipped m o ws none so = wires_skip (module_circuit net) modules m o ws none so

  pub line_added : (m o : ℕ) (x : Module) (to : Line) (w : Wire) (ws : List Wire) → slice_get net.elements m ≡ Some x
      → target net.wires (line_at m o) ≡ Some to → IsBetween (module_circuit net) m o to w
      → AreWiresOf (IsWireBefore (module_circuit net) m o) ws → AreWiresOf (IsWireBefore (module_circuit net) m (o + 1))
      (ws ++ w ∷ [])
  line_added m o x to w ws is leads between so =
      let has = (module_at net m most x modules few is).has in
      subst (λ v. AreWiresOf (IsWireBefore (module_circuit net) m (o + 1)) (ws ++ v ∷ []))
      (sym (between.wire (module_table x) has))
      (wires_more (module_circuit net) modules m o ws to (module_table x) leads has so)

  pub module_ended : (m o : ℕ) (x : Module) (ws : List Wire) → slice_get net.elements m ≡ Some x
      → (module_table x).outputs ≤ o
      → AreWiresOf (IsWireBefore (module_circuit net) m o) ws → AreWiresOf (IsWireBefore (module_circuit net) (m + 1) 0)
      ws
  module_ended m o x ws is past so = wires_next (module_circuit net) modules m o (module_table x) ws
      (module_at net m most x modules few is).has past so

  pub all_wired : (m : ℕ) (ws : List Wire) → m ≡ length net.elements
      → AreWiresOf (IsWireBefore (module_circuit net) m 0) ws → AreWiresOf (IsBoardWire
      (module_circuit net)) ws
  all_wired m ws all so =
      wires_all (module_circuit net) modules ws (subst (λ n. AreWiresOf (IsWireBefore (module_circuit net) n 0) ws)
      (all ∙ sym (tables_counted net)) so)

  pub owned : (m : ℕ) (ws : List Wire) → m ≡ length net.elements → AreWiresOf (IsOwnWire (module_circuit net) m) ws
      → AreWiresOf (IsWireBefore
      (module_circuit net) 0 0) ws
  owned m ws all so = all_own (module_circuit net) modules ws
      (subst (λ n. AreWiresOf (IsOwnWire (module_circuit net) n) ws) (all ∙ sym (tables_counted
      net)) so)

-- where the modules' banks begin
pub ruleset bases_of_modules = (module_at, base_more, bases_all)

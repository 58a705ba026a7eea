-- Every network of modules has a board: the wires of its banks, and those between them, as one list.
use Rattle.std.specs.Prelude.{◌≡◌, ◌≢◌, ℕ, ◌+◌, ◌-◌, ◌<◌, ◌≤◌, List, [], ◌∷◌, ◌++◌, length, replicate, Option, Some}
use Rattle.std.specs.Prelude.{None, slice_get, refl, ◌⊎◌}
use Rattle.std.proofs.Common.{zero, suc, arith, sym, ap, subst, ◌∙◌, inl, inr}
use Rattle.std.proofs.lemmas.Bool.{cases_lt}
use Rattle.std.proofs.lemmas.Bool.Decides.{eqb_tells}
use Rattle.std.proofs.lemmas.Option.{slice_get_within}
use Rattle.bn_element.specs.Tables.{Table, IsReversible}
use Rattle.bn_circuits.specs.Circuits.{Circuit, target, source}
use Rattle.bn_circuits.specs.declared.line.Line.{Line}
use Rattle.bn_circuits.specs.declared.line.Wire.{Wire}
use Rattle.bn_element.specs.Rotary.{rotary}
use Rattle.bn_element.specs.Reversible.{rotary-IsReversible}
use Rattle.bn_circuits.specs.Wirings.{AreWiresOf}
use Rattle.bn_circuits.proofs.WiringsLemmas.{IsWire, no_wires, joined_wires, more_wire, same_wires, apart-IsOneToOne}
use Rattle.bn_circuits.proofs.WiringsLemmas.{rotary-outputs, rotary-inputs}
use Rattle.bn_realise.specs.Banks.{column_at, IsBankWire, bank_input_line, bank_output_line}
use Rattle.bn_realise.proofs.BankListsLemmas.{bank_list}
use Rattle.bn_realise.proofs.BankWiresLemmas.{bank_wire-IsWithinLines, bank_wire-no_input, output-no_wire}
use Rattle.bn_boards.specs.Boards.{AreModules, IsBoard, IsBoardWire, own, between, base, size, size_of}
use Rattle.bn_boards.specs.BoardLaws.{BoardsAreThere}
use Rattle.bn_boards.proofs.MovedLemmas.{in_bank}
use Rattle.bn_circuits.proofs.WireListLemmas.{line_tells}
use Rattle.bn_boards.proofs.ModuleLemmas.{found, replicated, one_table, banks_apart, output_table}
use Rattle.bn_boards.proofs.BankedLemmas.{base-within as bank_within}
use Rattle.bn_boards.proofs.ModuleLemmas.{wired_output, wired_input, output_once, input_once}

-- the line is where one of the list's wires begins
abbrev pub IsSource : List Wire → Line → Type 0
IsSource [] out = ⊥
IsSource (v ∷ vs) out = (v.from ≡ out) ⊎ IsSource vs out

-- it is, or it is not
source_tells : (vs : List Wire) (out : Line) → IsSource vs out ⊎ (IsSource vs out → ⊥)
source_tells [] out = inr (λ h. h)
source_tells (v ∷ vs) out =
    elim (line_tells v.from out) [
      | inl here ↦ inl (inl here.1)
      | inr there ↦
          (elim (source_tells vs out) [
            | inl is ↦ inl (inr is)
            | inr never ↦ inr (λ h. elim h [ inl same ↦ there.1 same | inr is ↦ never is ])
          ])
    ]

-- a wire of the list begins there
pub leads-IsSource : (vs : List Wire) (from to : Line) → target vs from ≡ Some to → IsSource vs from
leads-IsSource [] from to h = absurd (cc)
leads-IsSource (v ∷ vs) from to h =
    elim (line_tells v.from from) [
      | inl here ↦ inl here.1
      | inr there ↦ inr (leads-IsSource vs from to (rw there.0 at h))
    ]

module _ (n : Circuit) (modules : AreModules n) where
  -- each module is reversible
  reversible : (m : ℕ) (t : Table) → slice_get n.tables m ≡ Some t → IsReversible t
  reversible m t has = modules.circuit.reversible m t has

  -- ---- the banks' own wires

  -- an own wire of one of the first modules
  pub record IsOwnBelow (c : ℕ) (from to : Line) : Type 0 where
    pub at_module : ℕ
    pub table : Table
    pub low : at_module < c
    pub has : slice_get n.tables at_module ≡ Some table
    pub wire : IsBankWire (base n.tables at_module) table from to

  -- own wires of two modules begin and end apart
  starts_apart : (m e : ℕ) (t u : Table) (from to line : Line) → slice_get n.tables m ≡ Some t
      → slice_get n.tables e ≡ Some u → m ≢ e
      → IsBankWire (base n.tables m) t from to → IsBankWire (base n.tables e) u from line → ⊥
  starts_apart m e t u from to line has is apart one two =
      let first = bank_wire-IsWithinLines (base n.tables m) t (reversible m t has) (modules.square m t has) from to one
      in
      let second = bank_wire-IsWithinLines (base n.tables e) u (reversible e u is) (modules.square e u is) from line two
      in
      banks_apart n.tables m e t u from.element has is apart first.from_low first.from_high second.from_low
      second.from_high

  -- and they end apart
  ends_apart : (m e : ℕ) (t u : Table) (from line to : Line) → slice_get n.tables m ≡ Some t
      → slice_get n.tables e ≡ Some u → m ≢ e
      → IsBankWire (base n.tables m) t from to → IsBankWire (base n.tables e) u line to → ⊥
  ends_apart m e t u from line to has is apart one two =
      let first = bank_wire-IsWithinLines (base n.tables m) t (reversible m t has) (modules.square m t has) from to one
      in
      let second = bank_wire-IsWithinLines (base n.tables e) u (reversible e u is) (modules.square e u is) line to two
      in
      banks_apart n.tables m e t u to.element has is apart first.to_low first.to_high second.to_low second.to_high

  own_either : (c : ℕ) (t : Table) → slice_get n.tables c ≡ Some t → (from to : Line) → IsOwnBelow (suc c) from to
      → IsOwnBelow c from to ⊎ IsBankWire (base n.tables c) t from to
  own_either c t has from to h =
      let low = h.low in
      elim (cases_lt h.at_module c) [
        | inl less ↦ inl (record { at_module = h.at_module; table = h.table; low = less; has = h.has; wire = h.wire })
        | inr more ↦
            (let same : h.at_module ≡ c = omega arith in
            let tables = one_table n.tables h.at_module c h.table t same h.has has in
            inr (subst (λ m. IsBankWire (base n.tables m) t from to) same
            (subst (λ u. IsBankWire (base n.tables h.at_module) u from to) tables h.wire)))
      ]

  -- no module's own wires yet
  pub own_none : AreWiresOf (IsOwnBelow 0) []
  own_none = no_wires (IsOwnBelow 0) (λ from to h. let low = h.low in omega arith)

  -- those of one module more
  pub own_more : (c : ℕ) (t : Table) → slice_get n.tables c ≡ Some t → (ws bs : List Wire)
      → AreWiresOf (IsOwnBelow c) ws
      → AreWiresOf (IsBankWire (base n.tables c) t) bs → AreWiresOf (IsOwnBelow (suc c)) (ws ++ bs)
  own_more c t has ws bs before bank =
      joined_wires (IsOwnBelow c) (IsBankWire (base n.tables c) t) (IsOwnBelow (suc c)) ws bs before bank
      (λ from to line one two. let low = one.low in starts_apart one.at_module c one.table t from to line one.has has
      (λ e. omega arith) one.wire two)
      (λ from to line one two. let low = one.low in ends_apart one.at_module c one.table t from line to one.has has
      (λ e. omega arith) one.wire two)
      (λ from to h. let low = h.low in record {
        at_module = h.at_module;
        table = h.table;
        low = omega arith;
        has = h.has;
        wire = h.wire;
      })
      (λ from to h. record { at_module = c; table = t; low = omega arith; has = has; wire = h })
      (own_either c t has)

  -- a list of the first modules' own wires, bank by bank
  own_list : (c : ℕ) → c ≤ length n.tables → (ws : List Wire) × AreWiresOf (IsOwnBelow c) ws
  own_list zero within = ([], own_none)
  own_list (suc c) within =
      let before = own_list c (omega arith) in
      let here = found n.tables c (omega arith) in
      let bank = bank_list (base n.tables c) here.0 (reversible c here.0 here.1) (modules.square c here.0 here.1)
      (modules.some_lines c here.0 here.1) in
      (before.0 ++ bank.0, own_more c here.0 here.1 before.0 bank.0 before.1 bank.1)

  -- ---- the wires between banks

  -- a wire between banks whose own wire begins where one of the list's wires does
  pub record IsBetweenOf (vs : List Wire) (from to : Line) : Type 0 where
    pub out : Line
    pub into : Line
    pub table : Table
    pub listed : IsSource vs out
    pub wired : target n.wires out ≡ Some into
    pub has : slice_get n.tables out.element ≡ Some table
    pub leaves : from ≡ bank_output_line (base n.tables out.element) table out.line
    pub ends : to ≡ bank_input_line (base n.tables into.element) into.line

  -- one wire more in the list
  more_listed : (v : Wire) (vs : List Wire) (from to : Line) → IsBetweenOf vs from to → IsBetweenOf (v ∷ vs) from to
  more_listed v vs from to h = record {
    out = h.out;
    into = h.into;
    table = h.table;
    listed = inr h.listed;
    wired = h.wired;
    has = h.has;
    leaves = h.leaves;
    ends = h.ends;
  }

  -- one wire less, where a later one begins there
  fewer_listed : (v : Wire) (vs : List Wire) (from to : Line) → (h : IsBetweenOf (v ∷ vs) from to) → IsSource vs h.out
      → IsBetweenOf vs from to
  fewer_listed v vs from to h is = record {
    out = h.out;
    into = h.into;
    table = h.table;
    listed = is;
    wired = h.wired;
    has = h.has;
    leaves = h.leaves;
    ends = h.ends;
  }

  -- a list of the wires between banks, by the network's own list
  between_list : (vs : List Wire) → (ws : List Wire) × AreWiresOf (IsBetweenOf vs) ws
  between_list [] = ([], no_wires (IsBetweenOf []) (λ from to h. h.listed))
  between_list (v ∷ vs) = by_case (source_tells vs v.from) (between_list vs)
    where
      -- the list's first wire begins where a later one does
      again : IsSource vs v.from → (from to : Line) → IsBetweenOf (v ∷ vs) from to → IsBetweenOf vs from to
      again is from to h = elim h.listed [
        | inl same ↦ fewer_listed v vs from to h (subst (IsSource vs) same is)
        | inr there ↦ fewer_listed v vs from to h there
      ]

      -- or it isn't one of the network's
      never : target n.wires v.from ≡ None → (from to : Line) → IsBetweenOf (v ∷ vs) from to → IsBetweenOf vs from to
      never none from to h =
          elim h.listed [
            | inl same ↦ absurd (let none' = subst (λ x. target n.wires x ≡ None) same none in let wired = h.wired in
                cc)
            | inr there ↦ fewer_listed v vs from to h there
          ]

      by_target : (IsSource vs v.from → ⊥) → (o : Option Line) → target n.wires v.from ≡ o → (ws : List Wire)
          → AreWiresOf (IsBetweenOf vs) ws
          → (xs : List Wire) × AreWiresOf (IsBetweenOf (v ∷ vs)) xs
      by_target new None is ws are = (
        ws,
        same_wires (IsBetweenOf vs) (IsBetweenOf (v ∷ vs)) ws are (more_listed v vs) (never is),
      )
      by_target new (Some into) is ws are =
          let there = output_at v.from into is in
          let t = there.0 in
          let w : Wire = record {
            from = bank_output_line (base n.tables v.from.element) t v.from.line;
            to = bank_input_line (base n.tables into.element) into.line;
          } in
          let both = more_wire (IsBetweenOf vs) ws w are (no_from t into is there.1) (no_to t into is there.1) in (
            ws ++ w ∷ [],
            same_wires (λ from to. IsBetweenOf vs from to ⊎ IsWire w from to) (IsBetweenOf (v ∷ vs))
                (ws ++ w ∷ []) both (first t into is there.1) (second t into is there.1),
          )
        where
          output_at : (out into : Line) → target n.wires out ≡ Some into
              → (t : Table) × (slice_get n.tables out.element ≡ Some t)
          output_at out into is = let h = output_table n.tables out.element out.line
              (modules.circuit.wired out into is).0 in (h.0, h.1)

          no_from : (t : Table) (into : Line) → target n.wires v.from ≡ Some into
              → slice_get n.tables v.from.element ≡ Some t → (to : Line)
              → IsBetweenOf vs (bank_output_line (base n.tables v.from.element) t v.from.line) to → ⊥
          no_from t into is has to h =
              let same = output_once n modules v.from h.out t h.table has h.has
              (wired_output n modules v.from into t is has) (wired_output n modules h.out h.into h.table h.wired
              h.has) h.leaves in
              new (subst (IsSource vs) (sym same) h.listed)

          no_to : (t : Table) (into : Line) → target n.wires v.from ≡ Some into
              → slice_get n.tables v.from.element ≡ Some t → (from : Line)
              → IsBetweenOf vs from (bank_input_line (base n.tables into.element) into.line) → ⊥
          no_to t into is has from h =
              let one = wired_input n modules v.from into is in
              let two = wired_input n modules h.out h.into h.wired in
              let same = input_once n modules into h.into one.0 two.0 one.1 two.1 one.2 two.2 h.ends in
              let back = (modules.circuit.one_to_one v.from into).0 is in
              let back' = subst (λ x. source n.wires x ≡ Some h.out) (sym same)
              ((modules.circuit.one_to_one h.out h.into).0 h.wired) in
              let line : v.from ≡ h.out = cc in
              new (subst (IsSource vs) (sym line) h.listed)

          first : (t : Table) (into : Line) → target n.wires v.from ≡ Some into
              → slice_get n.tables v.from.element ≡ Some t → (from to : Line)
              → IsBetweenOf vs from to ⊎ IsWire (record {
                from = bank_output_line (base n.tables v.from.element) t v.from.line;
                to = bank_input_line (base n.tables into.element) into.line;
              }) from to
              → IsBetweenOf (v ∷ vs) from to
          first t into is has from to (inl h) = more_listed v vs from to h
          first t into is has from to (inr h) = record {
            out = v.from;
            into = into;
            table = t;
            listed = inl refl;
            wired = is;
            has = has;
            leaves = h.leaves;
            ends = h.ends;
          }

          second : (t : Table) (into : Line) → target n.wires v.from ≡ Some into
              → slice_get n.tables v.from.element ≡ Some t → (from to : Line)
              → IsBetweenOf (v ∷ vs) from to
              → IsBetweenOf vs from to ⊎ IsWire (record {
                from = bank_output_line (base n.tables v.from.element) t v.from.line;
                to = bank_input_line (base n.tables into.element) into.line;
              }) from to
          second t into is has from to h =
              elim h.listed [
                | inl same ↦
                    (let wired = subst (λ x. target n.wires x ≡ Some h.into) (sym same) h.wired in
                    let leads : h.into ≡ into = cc in
                    let has' = subst (λ (x : Line). slice_get n.tables x.element ≡ Some h.table) (sym same) h.has in
                    let tables : h.table ≡ t = cc in
                    inr (record {
                      leaves = h.leaves ∙ (λ i. bank_output_line (base n.tables (sym same i).element) (tables i)
                          (sym same i).line);
                      ends = h.ends ∙ (λ i. bank_input_line (base n.tables (leads i).element) (leads i).line);
                    }))
                | inr there ↦ inl (fewer_listed v vs from to h there)
              ]

      by_case : IsSource vs v.from ⊎ (IsSource vs v.from → ⊥) → ((ws : List Wire) × AreWiresOf (IsBetweenOf vs) ws)
          → (xs : List Wire)
          × AreWiresOf (IsBetweenOf (v ∷ vs)) xs
      by_case (inl is) rest = (
        rest.0,
        same_wires (IsBetweenOf vs) (IsBetweenOf (v ∷ vs)) rest.0 rest.1 (more_listed v vs) (again is),
      )
      by_case (inr new) rest = by_target new (target n.wires v.from) refl rest.0 rest.1

  -- ---- all of them

  -- all the banks' own wires
  abbrev pub Own : Line → Line → Type 0
  Own = IsOwnBelow (length n.tables)

  -- all wires between banks
  abbrev pub Between : Line → Line → Type 0
  Between = IsBetweenOf n.wires

  -- a bank's output line lies in the bank
  output_in : (e o : ℕ) (t : Table) → slice_get n.tables e ≡ Some t → o < t.inputs
      → (base n.tables e ≤ column_at (base n.tables e) t.inputs (t.states - 1) + o)
      × (column_at (base n.tables e) t.inputs (t.states - 1) + o < base n.tables e + size_of t)
  output_in e o t has low = let some = modules.some_states e t has in in_bank (base n.tables e) t (t.states - 1) o
      (omega arith) (omega arith)

  -- and so does its input line
  input_in : (e i : ℕ) (t : Table) → slice_get n.tables e ≡ Some t → i < t.inputs
      → (base n.tables e ≤ base n.tables e + i)
      × (base n.tables e + i < base n.tables e + size_of t)
  input_in e i t has low =
      let some = modules.some_states e t has in
      let place = in_bank (base n.tables e) t 0 i some (omega arith) in
      (omega arith, omega (arith, place.1))

  -- no own wire begins where a wire between banks does
  pub no_from : (from to line : Line) → Own from to → Between from line → ⊥
  no_from from to line one two =
      let row = wired_output n modules two.out two.into two.table two.wired two.has in
      let wire = subst (λ x. IsBankWire (base n.tables one.at_module) one.table x to) two.leaves one.wire in
      elim (eqb_tells one.at_module two.out.element) [
        | inl same ↦
            (let tables = one_table n.tables one.at_module two.out.element one.table two.table same.1 one.has two.has in
            let there = subst (λ m. IsBankWire (base n.tables m) one.table
            (bank_output_line (base n.tables two.out.element) two.table two.out.line) to) same.1 wire in
            let own' = subst (λ (u : Table). IsBankWire (base n.tables two.out.element) u
            (bank_output_line (base n.tables two.out.element) two.table two.out.line) to) tables there in
            output-no_wire (base n.tables two.out.element) two.table (reversible two.out.element two.table two.has)
            (modules.square two.out.element two.table two.has) two.out.line to row own')
        | inr apart ↦
            (let lines = bank_wire-IsWithinLines (base n.tables one.at_module) one.table
            (reversible one.at_module one.table one.has) (modules.square one.at_module one.table one.has)
            (bank_output_line (base n.tables two.out.element) two.table two.out.line) to wire in
            let place = output_in two.out.element two.out.line two.table two.has row in
            banks_apart n.tables one.at_module two.out.element one.table two.table
            (column_at (base n.tables two.out.element) two.table.inputs (two.table.states - 1) + two.out.line)
            one.has two.has apart.1 lines.from_low lines.from_high place.0 place.1)
      ]

  -- and none ends where one does
  pub no_to : (from to line : Line) → Own from to → Between line to → ⊥
  no_to from to line one two =
      let at_input = wired_input n modules two.out two.into two.wired in
      let u = at_input.0 in
      elim (eqb_tells one.at_module two.into.element) [
        | inl same ↦
            (let tables = one_table n.tables one.at_module two.into.element one.table u same.1 one.has at_input.1 in
            let rows : one.table.inputs ≡ u.inputs = ap (λ (v : Table). v.inputs) tables in
            let row : two.into.line < one.table.inputs = subst (λ x. two.into.line < x) (sym rows) at_input.2 in
            bank_wire-no_input (base n.tables one.at_module) one.table (reversible one.at_module one.table one.has)
            (modules.square one.at_module one.table one.has) from to one.wire two.into.line row
            (two.ends ∙ ap (λ m. bank_input_line (base n.tables m) two.into.line) (sym same.1)))
        | inr apart ↦
            (let wire = subst (λ x. IsBankWire (base n.tables one.at_module) one.table from x) two.ends one.wire in
            let lines = bank_wire-IsWithinLines (base n.tables one.at_module) one.table
            (reversible one.at_module one.table one.has) (modules.square one.at_module one.table one.has) from
            (bank_input_line (base n.tables two.into.element) two.into.line) wire in
            let place = input_in two.into.element two.into.line u at_input.1 at_input.2 in
            banks_apart n.tables one.at_module two.into.element one.table u
            (base n.tables two.into.element + two.into.line) one.has at_input.1 apart.1 lines.to_low lines.to_high
            place.0 place.1)
      ]

  -- there are no others
  either : (from to : Line) → IsBoardWire n from to → Own from to ⊎ Between from to
  either from to (own m t has wire) = inl (record {
    at_module = m;
    table = t;
    low = slice_get_within n.tables m t has;
    has = has;
    wire = wire;
  })
  either from to (between out into t wired has leaves ends) =
      inr (record {
        out = out;
        into = into;
        table = t;
        listed = leads-IsSource n.wires out into wired;
        wired = wired;
        has = has;
        leaves = leaves;
        ends = ends;
      })

  -- a list of the board's wires
  board_list : (ws : List Wire) × AreWiresOf (IsBoardWire n) ws
  board_list =
      let owns = own_list (length n.tables) (omega arith) in
      let others = between_list n.wires in (
        owns.0 ++ others.0,
        joined_wires Own Between (IsBoardWire n) owns.0 others.0 owns.1 others.1 no_from no_to
            (λ from to h. own h.at_module h.table h.has h.wire)
            (λ from to h. between h.out h.into h.table h.wired h.has h.leaves h.ends)
            either,
      )

  -- a board's wires lead from its lines to its lines
  pub record IsWithinBoard (from to : Line) : Type 0 where
    pub from_element : from.element < size n.tables
    pub from_line : from.line < 4
    pub to_element : to.element < size n.tables
    pub to_line : to.line < 4

  -- both ends are lines of the board
  pub within : (from to : Line) → IsBoardWire n from to → IsWithinBoard from to
  within from to (own m t has wire) =
      let lines = bank_wire-IsWithinLines (base n.tables m) t (reversible m t has) (modules.square m t has) from to wire
      in
      let ends = bank_within n.tables m t has in
      record {
        from_element = omega (arith, lines.from_high);
        from_line = lines.from_line;
        to_element = omega (arith, lines.to_high);
        to_line = lines.to_line;
      }
  within from to (between out into t wired has leaves ends) =
      let row = wired_output n modules out into t wired has in
      let at_input = wired_input n modules out into wired in
      let place = output_in out.element out.line t has row in
      let place' = input_in into.element into.line at_input.0 at_input.1 at_input.2 in
      let last = bank_within n.tables out.element t has in
      let last' = bank_within n.tables into.element at_input.0 at_input.1 in
      rw (leaves, ends) (record {
        from_element = omega (arith, place.1);
        from_line = omega arith;
        to_element = omega (arith, place'.1);
        to_line = omega arith;
      })

  -- the board
  made : (k : Circuit) × IsBoard n k
  made =
      let all = board_list in (
        record { tables = replicate (size n.tables) rotary; wires = all.0 },
        record {
          circuit = record {
            reversible = λ e t h. subst IsReversible (replicated (size n.tables) e rotary t h) rotary-IsReversible;
            one_to_one = apart-IsOneToOne all.0 all.1.apart;
            wired = λ from to h.
                let w = within from to (all.1.sound from to h) in (
                  subst (λ x. from.line < x) (sym (rotary-outputs (size n.tables) from.element w.from_element))
                      w.from_line,
                  subst (λ x. to.line < x) (sym (rotary-inputs (size n.tables) to.element w.to_element)) w.to_line,
                );
          };
          tables = refl;
          wires = λ from to. (all.1.sound from to, all.1.complete from to);
        },
      )

-- for each network
pub boards-there : BoardsAreThere
boards-there n modules = made n modules

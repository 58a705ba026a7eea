-- A board's wires as a list that grows: the banks' own wires first, and then, output line by output line, those between
-- banks.
use Rattle.std.specs.Prelude.{◌≡◌, ℕ, ◌+◌, ◌<◌, ◌≤◌, List, [], ◌∷◌, ◌++◌, length, replicate, Some, None, slice_get}
use Rattle.std.specs.Prelude.{refl, ◌⊎◌}
use Rattle.std.proofs.Common.{arith, sym, ap, subst, ◌∙◌, inl, inr}
use Rattle.std.proofs.lemmas.Bool.{cases_lt}
use Rattle.std.proofs.lemmas.Option.{slice_get_within}
use Rattle.bn_element.specs.Tables.{Table}
use Rattle.bn_circuits.specs.Circuits.{Circuit, target, source, IsCircuit}
use Rattle.bn_circuits.proofs.StepLemmas.{same_lines}
use Rattle.bn_circuits.specs.declared.line.Line.{Line}
use Rattle.bn_circuits.specs.declared.line.Wire.{Wire}
use Rattle.bn_element.specs.Rotary.{rotary}
use Rattle.bn_circuits.specs.Circuits.{line_at}
use Rattle.bn_circuits.specs.RotaryNets.{rotary_circuit, IsNetOf}
use Rattle.bn_circuits.proofs.RotaryNetLemmas.{rotary-tables}
use Rattle.bn_circuits.specs.Wirings.{AreWiresOf}
use Rattle.bn_circuits.proofs.WiringsLemmas.{IsWire, more_wire, same_wires}
use Rattle.bn_element.specs.declared.rotary.Rotary.{Rotary}
use Rattle.bn_circuits.specs.Parts.{Parts}
use Rattle.bn_realise.specs.Banks.{bank_input_line, bank_output_line}
use Rattle.bn_boards.specs.Boards.{AreModules, IsBoard, IsBoardWire, own, between, base, size}
use Rattle.bn_boards.proofs.ModuleLemmas.{wired_output, wired_input, output_once, input_once, output_table}
use Rattle.bn_boards.proofs.ListedLemmas.{IsOwnBelow, IsBetweenOf, leads-IsSource, no_from, no_to}

module _ (n : Circuit) (modules : AreModules n) where
  -- the wires between banks that come before output line o of module e
  pub record IsEarlier (e o : ℕ) (from to : Line) : Type 0 where
    pub out : Line
    pub into : Line
    pub table : Table
    pub earlier : (out.element < e) ⊎ ((out.element ≡ e) × (out.line < o))
    pub wired : target n.wires out ≡ Some into
    pub has : slice_get n.tables out.element ≡ Some table
    pub leaves : from ≡ bank_output_line (base n.tables out.element) table out.line
    pub ends : to ≡ bank_input_line (base n.tables into.element) into.line

  -- with all of the banks' own wires
  abbrev pub IsGrown : ℕ → ℕ → Line → Line → Type 0
  IsGrown e o from to = IsOwnBelow n modules (length n.tables) from to ⊎ IsEarlier e o from to

  -- later than before
  widened : (e o f p : ℕ) (from to : Line) → ((x : Line) → (x.element < e) ⊎ ((x.element ≡ e) × (x.line < o))
      → (x.element < f) ⊎ ((x.element ≡ f) × (x.line < p)))
      → IsGrown e o from to → IsGrown f p from to
  widened e o f p from to more (inl h) = inl h
  widened e o f p from to more (inr h) = inr (record {
    out = h.out;
    into = h.into;
    table = h.table;
    earlier = more h.out h.earlier;
    wired = h.wired;
    has = h.has;
    leaves = h.leaves;
    ends = h.ends;
  })

  one_line_more : (e o : ℕ) (x : Line) → (x.element < e) ⊎ ((x.element ≡ e) × (x.line < o))
      → (x.element < e) ⊎ ((x.element ≡ e) × (x.line < o + 1))
  one_line_more e o x (inl h) = inl h
  one_line_more e o x (inr h) = let low = h.1 in inr (h.0, omega arith)

  pub grown_own : (ws : List Wire) → AreWiresOf (IsOwnBelow n modules (length n.tables)) ws
      → AreWiresOf (IsGrown 0 0) ws
  grown_own ws are = same_wires (IsOwnBelow n modules (length n.tables)) (IsGrown 0 0) ws are (λ from to h. inl h)
      (λ from to h. elim h [
        | inl a ↦ a
        | inr b ↦ absurd (elim b.earlier [ inl low ↦ (omega arith) | inr low ↦ (let few = low.1 in omega arith) ])
      ])

  -- where no wire leaves the next line
  pub grown_skip : (e o : ℕ) (ws : List Wire) → target n.wires (line_at e o) ≡ None → AreWiresOf (IsGrown e o) ws
      → AreWiresOf (IsGrown e (o + 1)) ws
  grown_skip e o ws none are = same_wires (IsGrown e o) (IsGrown e (o + 1)) ws are
      (λ from to h. widened e o e (o + 1) from to (one_line_more e o) h) back
    where
      back : (from to : Line) → IsGrown e (o + 1) from to → IsGrown e o from to
      back from to (inl h) = inl h
      back from to (inr h) = elim h.earlier [
        | inl low ↦ inr (record {
          out = h.out;
          into = h.into;
          table = h.table;
          earlier = inl low;
          wired = h.wired;
          has = h.has;
          leaves = h.leaves;
          ends = h.ends;
        })
        | inr low ↦ elim (cases_lt h.out.line o) [
          | inl less ↦ inr (record {
            out = h.out;
            into = h.into;
            table = h.table;
            earlier = inr (low.0, less);
            wired = h.wired;
            has = h.has;
            leaves = h.leaves;
            ends = h.ends;
          })
          | inr more ↦ (let few = low.1 in let same : h.out ≡ line_at e o = same_lines h.out (line_at e o) low.0
              (omega arith) in
              absurd (let wired = h.wired in let there = subst (λ x. target n.wires x ≡ Some h.into) same wired in cc))
        ]
      ]

  -- and where one does
  pub grown_more : (e o : ℕ) (ws : List Wire) (into : Line) (t : Table) → target n.wires (line_at e o) ≡ Some into
      → slice_get n.tables e ≡ Some t → AreWiresOf (IsGrown e o) ws
      → AreWiresOf (IsGrown e (o + 1)) (ws ++ record {
        from = bank_output_line (base n.tables e) t o;
        to = bank_input_line (base n.tables into.element) into.line;
      } ∷ [])
  grown_more e o ws into t is has are =
      same_wires (λ from to. IsGrown e o from to ⊎ IsWire (record {
        from = bank_output_line (base n.tables e) t o;
        to = bank_input_line (base n.tables into.element) into.line;
      }) from to) (IsGrown e (o + 1))
      (ws ++ record {
        from = bank_output_line (base n.tables e) t o;
        to = bank_input_line (base n.tables into.element) into.line;
      } ∷ [])
      (more_wire (IsGrown e o) ws (record {
        from = bank_output_line (base n.tables e) t o;
        to = bank_input_line (base n.tables into.element) into.line;
      }) are none_from none_to)
      forth back
    where
      itself : IsBetweenOf n modules n.wires (bank_output_line (base n.tables e) t o)
          (bank_input_line (base n.tables into.element) into.line)
      itself = record {
        out = line_at e o;
        into = into;
        table = t;
        listed = leads-IsSource n.wires (line_at e o) into is;
        wired = is;
        has = has;
        leaves = refl;
        ends = refl;
      }

      not_earlier : (x : Line) → (x.element < e) ⊎ ((x.element ≡ e) × (x.line < o)) → line_at e o ≡ x → ⊥
      not_earlier x (inl low) same = let e' : e ≡ x.element = ap (λ (y : Line). y.element) same in omega arith
      not_earlier x (inr low) same = let o' : o ≡ x.line = ap (λ (y : Line). y.line) same in let few =
          low.1 in omega arith

      none_from : (to : Line) → IsGrown e o (bank_output_line (base n.tables e) t o) to → ⊥
      none_from to (inl h) = no_from n modules (bank_output_line (base n.tables e) t o) to
          (bank_input_line (base n.tables into.element) into.line) h itself
      none_from to (inr h) =
          not_earlier h.out h.earlier (output_once n modules (line_at e o) h.out t h.table has h.has
          (wired_output n modules (line_at e o) into t is has) (wired_output n modules h.out h.into h.table h.wired
          h.has) h.leaves)

      none_to : (from : Line) → IsGrown e o from (bank_input_line (base n.tables into.element) into.line) → ⊥
      none_to from (inl h) = no_to n modules from (bank_input_line (base n.tables into.element) into.line)
          (bank_output_line (base n.tables e) t o) h itself
      none_to from (inr h) =
          let one = wired_input n modules (line_at e o) into is in
          let two = wired_input n modules h.out h.into h.wired in
          let same = input_once n modules into h.into one.0 two.0 one.1 two.1 one.2 two.2 h.ends in
          let back = (modules.circuit.one_to_one (line_at e o) into).0 is in
          let back' = subst (λ x. source n.wires x ≡ Some h.out) (sym same)
          ((modules.circuit.one_to_one h.out h.into).0 h.wired) in
          let line : line_at e o ≡ h.out = cc in
          not_earlier h.out h.earlier line

      forth : (from to : Line) → IsGrown e o from to ⊎ IsWire (record {
        from = bank_output_line (base n.tables e) t o;
        to = bank_input_line (base n.tables into.element) into.line;
      }) from to → IsGrown e (o + 1) from to
      forth from to (inl h) = widened e o e (o + 1) from to (one_line_more e o) h
      forth from to (inr h) = inr (record {
        out = line_at e o;
        into = into;
        table = t;
        earlier = inr (refl, omega arith);
        wired = is;
        has = has;
        leaves = h.leaves;
        ends = h.ends;
      })

      back : (from to : Line) → IsGrown e (o + 1) from to → IsGrown e o from to
          ⊎ IsWire (record {
            from = bank_output_line (base n.tables e) t o;
            to = bank_input_line (base n.tables into.element) into.line;
          }) from to
      back from to (inl h) = inl (inl h)
      back from to (inr h) = elim h.earlier [
        | inl low ↦ inl (inr (record {
          out = h.out;
          into = h.into;
          table = h.table;
          earlier = inl low;
          wired = h.wired;
          has = h.has;
          leaves = h.leaves;
          ends = h.ends;
        }))
        | inr low ↦ elim (cases_lt h.out.line o) [
          | inl less ↦ inl (inr (record {
            out = h.out;
            into = h.into;
            table = h.table;
            earlier = inr (low.0, less);
            wired = h.wired;
            has = h.has;
            leaves = h.leaves;
            ends = h.ends;
          }))
          | inr more ↦ (let few = low.1 in let same : h.out ≡ line_at e o = same_lines h.out (line_at e o) low.0
              (omega arith) in
              let wired = subst (λ x. target n.wires x ≡ Some h.into) same h.wired in
              let leads : h.into ≡ into = cc in
              let has' = subst (λ (x : Line). slice_get n.tables x.element ≡ Some h.table) same h.has in
              let tables : h.table ≡ t = cc in
              inr (record {
                leaves = h.leaves ∙ (λ i. bank_output_line (base n.tables (same i).element) (tables i) (same i).line);
                ends = h.ends ∙ (λ i. bank_input_line (base n.tables (leads i).element) (leads i).line);
              }))
        ]
      ]

  -- after a module's last line
  pub grown_next : (e o : ℕ) (t : Table) (ws : List Wire) → slice_get n.tables e ≡ Some t → t.outputs ≤ o
      → AreWiresOf (IsGrown e o) ws → AreWiresOf (IsGrown (e + 1) 0) ws
  grown_next e o t ws has past are = same_wires (IsGrown e o) (IsGrown (e + 1) 0) ws are
      (λ from to h. widened e o (e + 1) 0 from to further h) back
    where
      further : (x : Line) → (x.element < e) ⊎ ((x.element ≡ e) × (x.line < o))
          → (x.element < e + 1) ⊎ ((x.element ≡ e + 1) × (x.line < 0))
      further x (inl low) = inl (omega arith)
      further x (inr low) = let same = low.0 in inl (omega arith)

      back : (from to : Line) → IsGrown (e + 1) 0 from to → IsGrown e o from to
      back from to (inl h) = inl h
      back from to (inr h) = elim h.earlier [
        | inr low ↦ absurd (let few = low.1 in omega arith)
        | inl low ↦ elim (cases_lt h.out.element e) [
          | inl less ↦ inr (record {
            out = h.out;
            into = h.into;
            table = h.table;
            earlier = inl less;
            wired = h.wired;
            has = h.has;
            leaves = h.leaves;
            ends = h.ends;
          })
          | inr more ↦ (let same : h.out.element ≡ e = omega arith in
              let row = output_table n.tables h.out.element h.out.line (modules.circuit.wired h.out h.into h.wired).0 in
              let there : slice_get n.tables e ≡ Some row.0 = subst (λ x. slice_get n.tables x ≡ Some row.0) same row.1
              in
              let tables : row.0 ≡ t = cc in
              let outputs : row.0.outputs ≡ t.outputs = ap (λ (u : Table). u.outputs) tables in
              let low' = row.2 in
              inr (record {
                out = h.out;
                into = h.into;
                table = h.table;
                earlier = inr (same, omega arith);
                wired = h.wired;
                has = h.has;
                leaves = h.leaves;
                ends = h.ends;
              }))
        ]
      ]

  -- all modules' lines
  pub grown_all : (ws : List Wire) → AreWiresOf (IsGrown (length n.tables) 0) ws → AreWiresOf (IsBoardWire n) ws
  grown_all ws are = same_wires (IsGrown (length n.tables) 0) (IsBoardWire n) ws are forth back
    where
      forth : (from to : Line) → IsGrown (length n.tables) 0 from to → IsBoardWire n from to
      forth from to (inl h) = own h.at_module h.table h.has h.wire
      forth from to (inr h) = between h.out h.into h.table h.wired h.has h.leaves h.ends

      back : (from to : Line) → IsBoardWire n from to → IsGrown (length n.tables) 0 from to
      back from to (own m t has wire) = inl (record {
        at_module = m;
        table = t;
        low = slice_get_within n.tables m t has;
        has = has;
        wire = wire;
      })
      back from to (between out into t wired has leaves ends) =
          inr (record {
            out = out;
            into = into;
            table = t;
            earlier = inl (slice_get_within n.tables out.element t has);
            wired = wired;
            has = has;
            leaves = leaves;
            ends = ends;
          })

  -- a net of them is the board
  pub net-IsBoard : (net : Parts Rotary) (ws : List Wire) → AreWiresOf (IsBoardWire n) ws
      → IsNetOf net (size n.tables) ws → IsCircuit (rotary_circuit net) → IsBoard n (rotary_circuit net)
  net-IsBoard net ws are is circuit = record {
    circuit = circuit;
    tables = rotary-tables net.elements ∙ ap (λ c. replicate c rotary) is.elements;
    wires = λ from to. (
      (λ h. are.sound from to (sym (is.targets from) ∙ h)),
      (λ h. is.targets from ∙ are.complete from to h),
    );
  }

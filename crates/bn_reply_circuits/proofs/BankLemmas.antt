-- Banks that are spelled, and what `realise` answers.
use Rattle.std.specs.Prelude.{◌≡◌, ℕ, ◌+◌, ◌-◌, ◌*◌, ◌<◌, ◌≤◌, List, length, replicate, Option, Some, None, slice_get}
use Rattle.std.specs.Prelude.{slice_set, refl}
use Rattle.std.proofs.Common.{zero, suc, arith, sym, ap, subst, ◌∙◌, inl, inr, length-set}
use Rattle.std.proofs.Math.Nat.{mul-le-mul_right}
use Rattle.std.proofs.lemmas.Bool.Decides.{eqb_tells}
use Rattle.std.proofs.lemmas.List.{length-replicate}
use Rattle.std.proofs.lemmas.Option.{slice_get_within}
use Rattle.bn_element.specs.Tables.{Table}
use Rattle.bn_circuits.specs.Circuits.{Circuit, target, source, IsCircuit, IsConfig, IsInputOf, IsOutputOf, inputs_of}
use Rattle.bn_circuits.specs.Circuits.{states_of}
use Rattle.bn_circuits.proofs.StepLemmas.{slice_get-set_same, slice_get-set_other}
use Rattle.bn_circuits.specs.declared.line.Line.{Line}
use Rattle.bn_element.specs.Rotary.{rotary, horizontal, vertical, west}
use Rattle.bn_netlist_laws.specs.Spelling.{Spelling, Admits, Spelled, circuit_of}
use Rattle.bn_netlist_laws.specs.declared.version.Version.TheVariants.{Two}
use Rattle.bn_netlist_laws.proofs.EntryLemmas.{has-text}
use Rattle.bn_circuits.specs.declared.net.TheConstants.{MOST_ELEMENTS}
use Rattle.bn_netlist_laws.proofs.WireLemmas.{rotary_inputs, rotary_outputs, rotary_reversible, rotary_states}
use Rattle.bn_circuits.specs.Circuits.{line_at}
use Rattle.bn_circuits.proofs.WiringsLemmas.{apart-IsOneToOne}
use Rattle.bn_rsm.specs.Machines.{Machine, machine_table, machine_table-IsReversible}
use Rattle.bn_realise.specs.Banks.{IsBankWire, bottom_at, exit_after, bank_input_line}
use Rattle.bn_realise.proofs.BankEndsLemmas.{no_exit_wire}
use Rattle.bn_realise.proofs.BankListsLemmas.{bank_list}
use Rattle.bn_element.specs.declared.rotary.Rotary.{Rotary}
use Rattle.bn_circuits.specs.Parts.{Parts, circuit}
use Rattle.bn_netlist.proofs.NetLemmas.{circuits-agree}
use Rattle.bn_netlist.specs.NetText.{spelling_of}
use Rattle.bn_netlist.specs.declared.net_config.NetConfig.{NetConfig}
use Rattle.bn_realise.specs.BankNets.{Banked, bank_elements, IsBankNet, IsBankOf, start_at}
use Rattle.bn_realise.proofs.BankWiresLemmas.{bank_wire-IsWithinLines, bank_wire-no_input}
use Rattle.bn_reply_circuits.specs.RealiseReply.{IsBankSpelling}

-- ---- the spelling of a bank may be spelled

-- a bank with this state and this line has an element, and the lines are lines of its elements
some_elements : (n k q : ℕ) → q < n → k + 1 ≤ n * (k + 1)
some_elements n k q low = let h : 1 * (k + 1) ≤ n * (k + 1) = mul-le-mul_right (k + 1) (omega arith) in omega arith

row_inside : (n k q i : ℕ) → q < n → i < k → q * (k + 1) + i < n * (k + 1)
row_inside n k q i low row = let h : (q + 1) * (k + 1) ≤ n * (k + 1) =
    mul-le-mul_right (k + 1) (omega arith) in omega arith

bottom_inside : (n k q : ℕ) → q < n → q * (k + 1) + k < n * (k + 1)
bottom_inside n k q low = let h : (q + 1) * (k + 1) ≤ n * (k + 1) =
    mul-le-mul_right (k + 1) (omega arith) in omega arith

get-replicate : (n e v q : ℕ) → slice_get (replicate n v) e ≡ Some q → q ≡ v
get-replicate zero e v q h = cc h
get-replicate (suc n) zero v q h = cc
get-replicate (suc n) (suc e) v q h = get-replicate n e v q h

bar_low : (n b e q : ℕ) → b < n → slice_get (slice_set (replicate n vertical) b horizontal) e ≡ Some q → q < 2
bar_low n b e q inside h =
    elim (eqb_tells e b) [
      | inl same ↦
          (let here = slice_get-set_same (replicate n vertical) b horizontal
          (subst (λ m. b < m) (sym (length-replicate n vertical)) inside) in
          let at_b = subst (λ x. slice_get (slice_set (replicate n vertical) b horizontal) x ≡ Some q) same.1 h in
          let is : horizontal ≡ q = cc in
          omega arith)
      | inr apart ↦
          (let there = get-replicate n e vertical q (sym (slice_get-set_other (replicate n vertical) b e horizontal
          apart.1) ∙ h) in
          omega arith)
    ]

module _ (m : Machine) (state row : ℕ) (state_in : state < m.states) (row_in : row < m.lines) where
  row_low : row < bank_elements m
  row_low = let h = row_inside m.states m.lines 0 row (omega arith) row_in in omega arith

  -- the bank at its start is a configuration of each circuit of so many rotary elements
  start_config : (c : Circuit) → c.tables ≡ replicate (bank_elements m) rotary
      → IsConfig c (start_at m.states m.lines state row)
  start_config c tables =
      record {
        count = whole ∙ sym (ap (λ (ts : List Table). length ts) tables ∙ length-replicate (bank_elements m) rotary);
        range = λ e q h. in_range e q h;
        place = subst (λ ts. west < inputs_of ts row) (sym tables)
            (rw (rotary_inputs (bank_elements m) row row_low) (omega arith));
        in_time = omega arith;
      }
    where
      whole : length (slice_set (replicate (bank_elements m) vertical) (bottom_at 0 m.lines state) horizontal)
          ≡ bank_elements m
      whole = simp (length-set, length-replicate) refl

      in_range : (e q : ℕ) → slice_get (slice_set (replicate (bank_elements m) vertical) (bottom_at 0 m.lines state)
          horizontal) e ≡ Some q →
          q < states_of c.tables e
      in_range e q h =
          let inside = slice_get_within (slice_set (replicate (bank_elements m) vertical) (bottom_at 0 m.lines state)
          horizontal) e q h in
          let low : e < bank_elements m = subst (λ n. e < n) whole inside in
          let bottom : bottom_at 0 m.lines state < bank_elements m =
          (let b = bottom_inside m.states m.lines state state_in in omega arith) in
          subst (λ ts. q < states_of ts e) (sym tables) (rw (rotary_states (bank_elements m) e low)
          (bar_low (bank_elements m) (bottom_at 0 m.lines state) e q bottom h))

  -- the line by which the signal comes out is a line of the bank
  exit_low : (o : Option (ℕ × ℕ)) → (machine_table m).go state row ≡ o →
      ((exit_after 0 (machine_table m) state row o).element < bank_elements m)
      × ((exit_after 0 (machine_table m) state row o).line < 4)
  exit_low None none = (let h = row_inside m.states m.lines state row state_in row_in in omega arith, omega arith)
  exit_low (Some move) goes =
      let out = ((machine_table-IsReversible m).arrives state row move.0 move.1 goes).1 in
      (let h = row_inside m.states m.lines (m.states - 1) move.1 (omega arith) out in omega arith, omega arith)

  pub bank-Admits : (s : Spelling) → IsBankSpelling m state row s → bank_elements m ≤ MOST_ELEMENTS
      → IsCircuit (circuit_of s) → Admits Two s
  bank-Admits s h few circuit =
      record {
        some = (let some = some_elements m.states m.lines state state_in in let is = h.elements in omega arith);
        few = (let is = h.elements in omega arith);
        circuit = circuit;
        config = subst (λ c. IsConfig (circuit_of s) c) (sym h.config)
            (start_config (circuit_of s) (ap (λ n. replicate n rotary) h.elements));
        start = rw (h.start, h.elements) (rw (rotary_inputs (bank_elements m) (0 + row)
            (let low = row_low in omega arith)) (omega arith));
        end = rw (h.end, h.elements) (let low = exit_low ((machine_table m).go state row) refl in
            rw (rotary_outputs (bank_elements m) (exit_after 0 (machine_table m) state row
            ((machine_table m).go state row)).element low.0) low.1);
        unfed = no_source (source s.wires s.start) refl;
        unwired = no_target (target s.wires s.end) refl;
      }
    where
      no_source : (o : Option Line) → source s.wires s.start ≡ o → o ≡ None
      no_source None is = refl
      no_source (Some from) is =
          let leads = (circuit.one_to_one from s.start).1 is in
          let wire = (h.wires from s.start).0 leads in
          absurd (bank_wire-no_input 0 (machine_table m) (machine_table-IsReversible m) refl from s.start wire row
          row_in h.start)

      no_target : (o : Option Line) → target s.wires s.end ≡ o → o ≡ None
      no_target None is = refl
      no_target (Some to) is =
          let wire = (h.wires s.end to).0 is in
          absurd (no_exit_wire 0 (machine_table m) (machine_table-IsReversible m) state row to state_in row_in refl
          (subst (λ from. IsBankWire 0 (machine_table m) from to) h.end wire))

  -- each bank that isn't too large has a spelling
  pub bank_spelled : bank_elements m ≤ MOST_ELEMENTS → (s : Spelling) × IsBankSpelling m state row s
      × ((text : List ℕ) × Spelled Two s text)
  bank_spelled few =
      let ws = bank_list 0 (machine_table m) (machine_table-IsReversible m) refl (omega arith) in
      let s : Spelling = record {
        elements = bank_elements m;
        wires = ws.0;
        config = start_at m.states m.lines state row;
        start = bank_input_line 0 row;
        end = exit_after 0 (machine_table m) state row ((machine_table m).go state row);
      } in
      let bank : IsBankSpelling m state row s = record {
        elements = refl;
        wires = λ from to. (ws.1.sound from to, ws.1.complete from to);
        config = refl;
        start = refl;
        end = refl;
      } in
      let circuit : IsCircuit (circuit_of s) = record {
        reversible = λ e t at. rotary_reversible (bank_elements m) e t at;
        one_to_one = apart-IsOneToOne ws.0 ws.1.apart;
        wired = λ from to leads. wire_within from to (ws.1.sound from to leads);
      } in
      (s, bank, has-text Two s (bank-Admits s bank few circuit))
    where
      wire_within : (from to : Line) → IsBankWire 0 (machine_table m) from to →
          IsOutputOf (replicate (bank_elements m) rotary) from × IsInputOf (replicate (bank_elements m) rotary) to
      wire_within from to wire =
          let h = bank_wire-IsWithinLines 0 (machine_table m) (machine_table-IsReversible m) refl from to wire in
          let leaves : from.element < bank_elements m = omega (arith, h.from_high) in
          let ends : to.element < bank_elements m = omega (arith, h.to_high) in (
            rw (rotary_outputs (bank_elements m) from.element leaves) h.from_line,
            rw (rotary_inputs (bank_elements m) to.element ends) h.to_line,
          )

-- a bank's net with its start spells the bank
pub net_spelling : (m : Machine) (v : Banked) (c : NetConfig) (state row : ℕ) → IsBankOf v (machine_table m)
    → c.net ≡ v.net →
    c.config ≡ start_at v.states v.lines state row → c.start ≡ line_at row west
    → c.end ≡ exit_after 0 (machine_table m) state row ((machine_table m).go state row)
    → IsBankSpelling m state row (spelling_of c)
net_spelling m v c state row is net config start end =
    let of_net : IsBankNet c.net (machine_table m) = subst (λ n. IsBankNet n (machine_table m)) (sym net) is.net in
    let place : row ≡ 0 + row = omega arith in
    record {
      elements = of_net.elements;
      wires = λ from to. (of_net.no_others from to, of_net.bank.wired from to);
      config = config ∙ ap (λ n. start_at n v.lines state row) is.states
          ∙ ap (λ n. start_at m.states n state row) is.lines;
      start = start ∙ ap (λ e. line_at e west) place;
      end = end;
    }

-- the output line of a bank, and its turning line, are below 2^32
pub exit_fits : (m : Machine) (q i : ℕ) → q < m.states → i < m.lines → bank_elements m ≤ MOST_ELEMENTS
    → q * (m.lines + 1) + i < MOST_ELEMENTS
exit_fits m q i state row few = let h = row_inside m.states m.lines q i state row in omega arith

-- a net is the circuit of what it spells
pub net_circuit : (c : NetConfig) (net : Parts Rotary) → net ≡ c.net → IsCircuit (circuit (λ _. rotary) net)
    → IsCircuit (circuit_of (spelling_of c))
net_circuit c net same is = subst IsCircuit (circuits-agree c)
    (subst (λ n. IsCircuit (circuit (λ _. rotary) n)) same is)

-- the number of an output line's element
pub output_fits : (m : Machine) (q i n k o : ℕ) (move : ℕ × ℕ) → q < m.states → i < m.lines
    → bank_elements m ≤ MOST_ELEMENTS → (machine_table m).go q i ≡ Some move →
    n ≡ m.states → k ≡ m.lines → o ≡ move.1 → (n - 1) * (k + 1) + o < MOST_ELEMENTS
output_fits m q i n k o move state row few goes states lines out =
    let low = ((machine_table-IsReversible m).arrives q i move.0 move.1 goes).1 in
    let h = exit_fits m (m.states - 1) move.1 (omega arith) low few in
    rw (states, lines, out) h

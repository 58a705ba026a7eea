-- Leaps, by the numbers that the program has.
use Rattle.std.specs.Prelude.{◌≡◌, ℕ, ◌+◌, ◌-◌, ◌*◌, ◌<◌, ◌≤◌, Bool, true, false, not, List, length, Option, Some, None}
use Rattle.std.specs.Prelude.{slice_get, refl, ◌⊎◌}
use Rattle.std.specs.Option.{option_map}
use Rattle.std.specs.Bool.{OnFalse}
use Rattle.std.proofs.Common.{zero, suc, arith, sym, ap, subst, ◌∙◌, inl, inr}
use Rattle.std.proofs.lemmas.Bool.{cases_lt}
use Rattle.std.proofs.lemmas.Option.{slice_get_within}
use Rattle.bn_lists.specs.Runs.{Reaches}
use Rattle.bn_lists.proofs.RunsLemmas.{passes_join, passes_run}
use Rattle.bn_element.specs.Tables.{Table, IsReversible}
use Rattle.bn_element.specs.Rotary.{rotary, horizontal, east, west}
use Rattle.bn_element.specs.declared.rotary.Rotary.{Rotary}
use Rattle.bn_circuits.specs.Circuits.{Circuit, IsCircuit, IsConfig, IsOutputOf, IsStuck, Goes, clock, target}
use Rattle.bn_circuits.specs.Circuits.{place_after, line_at}
use Rattle.bn_circuits.specs.declared.line.Line.{Line}
use Rattle.bn_circuits.specs.declared.place.Place.{Place}
use Rattle.bn_circuits.specs.declared.place.Place.TheVariants.{Enter, Left}
use Rattle.bn_circuits.specs.declared.config.Config.{Config}
use Rattle.bn_circuits.proofs.StepLemmas.{same_lines}
use Rattle.bn_circuits.proofs.RunLemmas.{run_stops, Reaches-back, Reaches-IsConfig}
use Rattle.bn_circuits.specs.Parts.{Parts}
use Rattle.bn_circuits.specs.Watching.{Hears}
use Rattle.bn_circuits.specs.RotaryNets.{rotary_circuit}
use Rattle.bn_circuits.specs.declared.net.TheConstants.{MOST_ELEMENTS}
use Rattle.bn_packed.specs.Running.{IsLongestRun}
use Rattle.bn_packed.specs.Stopping.{IsStoppedRun, PassesBy, passes_by, stops_at}
use Rattle.bn_packed.proofs.StepLemmas.{no_stop}
use Rattle.bn_packed.specs.declared.direction.Direction.TheVariants.{Forward}
use Rattle.bn_rsm.specs.Costs.{cost_by, table_cost}
use Rattle.bn_rsm.proofs.RunCostLemmas.{some_cost}
use Rattle.bn_realise.specs.Banks.{IsBank, IsWithinBank, bottom_at, column_at, bank_input_line}
use Rattle.bn_realise.specs.Banks.{states_after, exit_after}
use Rattle.bn_realise.proofs.BankWiresLemmas.{column_once, bank_wire-IsWithinLines, bank_wire-no_input}
use Rattle.bn_realise.proofs.BankCrossingLemmas.{later_column}
use Rattle.bn_boards.specs.Boards.{base}
use Rattle.bn_boards.proofs.BankedLemmas.{modules-banks, base-within as bank_within}
use Rattle.bn_leap.specs.Leaps.{IsUnderWay, IsEntered}
use Rattle.bn_leap.specs.Inside.{IsInside, PassesThrough}
use Rattle.bn_leap.specs.Entries.{IsLeapable, IsAt, Fits, IsMoveOf, IsLeap, IsCrossing, IsAdvance, leap_of}
use Rattle.bn_leap.specs.declared.entry.Entry.{Entry}
use Rattle.bn_leap.proofs.LeapLemmas.{left_enters, cost-low, boards-leap, moves-read, stay-under_way}

-- an element of a column of a bank is below the bank's end
pub element_low : (b k j n x : ℕ) → j < n → x ≤ k → column_at b k j + x < column_at b k n
element_low b k j n x there row = let h = later_column b k j n there in omega arith

-- where the table leads, found on the wires
pub record Led (k : Circuit) (c : Config) (v : Entry) (q : ℕ) (to : Line) : Type 0 where
  pub low : v.first ≤ to.element
  pub move : (p : ℕ × ℕ) → to.element - v.first ≡ p.0 * (v.lines + 1) + p.1 → p.1 < v.lines + 1 → IsMoveOf v q p
  pub leap : (p : ℕ × ℕ) → to.element - v.first ≡ p.0 * (v.lines + 1) + p.1 → p.1 < v.lines + 1
      → IsCrossing k c v (leap_of v q p)

-- what is known of an input line of a bank
pub record Known (k : Circuit) (c : Config) (v : Entry) : Type 0 where
  pub fits : column_at v.first v.lines v.states ≤ length k.tables
  pub few : column_at v.first v.lines v.states ≤ MOST_ELEMENTS
  pub turning : (q : ℕ) → q < v.states → IsOutputOf k.tables (line_at (column_at v.first v.lines q + v.row) west)
  pub row : v.row < v.lines
  pub led : (q : ℕ) → q < v.states → slice_get c.states (bottom_at v.first v.lines q) ≡ Some horizontal → (to : Line)
      → target k.wires (line_at (column_at v.first v.lines q + v.row) west) ≡ Some to → Led k c v q to

module _ (n k : Circuit) (m i : ℕ) (t : Table) (c : Config) (way : IsUnderWay n k c) (at : IsEntered n m t i c) where
  abbrev b : ℕ
  b = base n.tables m

  abbrev v : Entry
  v = record { first = b; states = t.states; lines = t.inputs; row = i }

  bank : IsBank k b t
  bank = modules-banks n k m t way.modules way.board at.has_table

  reversible : IsReversible t
  reversible = way.modules.circuit.reversible m t at.has_table

  square : t.outputs ≡ t.inputs
  square = way.modules.square m t at.has_table

  few_there : column_at b t.inputs t.states ≤ MOST_ELEMENTS
  few_there = let h = bank_within n.tables m t at.has_table in let few = way.few in omega arith

  there : (j x : ℕ) → j < t.states → x ≤ t.inputs → column_at b t.inputs j + x < length k.tables
  there j x low row = slice_get_within k.tables (column_at b t.inputs j + x) rotary (bank.rotaries j x low row)

  output : (j x l : ℕ) → j < t.states → x ≤ t.inputs → l < 4
      → IsOutputOf k.tables (line_at (column_at b t.inputs j + x) l)
  output j x l low row line = rw (bank.rotaries j x low row) line

  some : 0 < t.states
  some = way.modules.some_states m t at.has_table

  fits_there : column_at b t.inputs t.states ≤ length k.tables
  fits_there =
      let last = there (t.states - 1) t.inputs (let s = some in omega arith) (omega arith) in
      let s = some in
      let one : (t.states - 1) + 1 ≡ t.states = omega arith in
      subst (λ x. column_at b t.inputs x ≤ length k.tables) one (omega arith)

  module _ (q : ℕ) (state : q < t.states) (flat : slice_get c.states (bottom_at b t.inputs q) ≡ Some horizontal) (p : ℕ
      × ℕ) (goes : t.go q i ≡ Some p) where
    to_there : (p.0 < t.states) × (p.1 < t.inputs)
    to_there = let h = reversible.arrives q i p.0 p.1 goes in (h.0, subst (λ x. p.1 < x) square h.1)

    move_is : IsMoveOf v q p
    move_is =
        let size_low = bank_within n.tables m t at.has_table in
        let few = way.few in
        let low = cost-low t q i state at.row square reversible (omega arith) in
        record {
          some = some;
          fits = few_there;
          start = state;
          next = to_there.0;
          out = to_there.1;
          cost = subst (λ o. cost_by t.states t.inputs q i o ≤ clock) goes low;
        }

    -- strictly within the move the signal is about to enter a line inside
    inside : (d : Config) → (w : IsWithinBank b t q i c.states d) → IsInside v w.to
    inside d w =
        let lines = bank_wire-IsWithinLines b t reversible square w.from w.to w.own in
        let low = lines.to_low in
        record {
          low = low;
          high = lines.to_high;
          no_input = λ side.
              elim (cases_lt w.to.element (b + t.inputs)) [
                | inr above ↦ omega arith
                | inl below ↦ absurd (
                    let row : w.to.element - b < t.inputs = omega arith in
                    let element : w.to.element ≡ b + (w.to.element - b) = omega arith in
                    bank_wire-no_input b t reversible square w.from w.to w.own (w.to.element - b) row
                    (same_lines w.to (bank_input_line b (w.to.element - b)) element side))
              ];
        }

    module _ (stops : Line → Bool) (through : PassesThrough stops v) where
      -- where it passes by
      passes-inside : (d : Config) → IsWithinBank b t q i c.states d → passes_by stops d.place ≡ true
      passes-inside d w =
          let none : not (stops w.to) ≡ true = ap not (through w.to (inside d w)) in
          ap (passes_by stops) w.enters ∙ none

      abbrev Path : Option (ℕ × ℕ) → Type 0
      Path o = PassesBy k stops (cost_by t.states t.inputs q i o) c (record {
        states = states_after c.states b t.inputs q o;
        place = place_after k.wires (exit_after b t q i o);
        steps = c.steps + cost_by t.states t.inputs q i o;
      })

      leap_is : IsLeap k stops c (leap_of v q p)
      leap_is = record {
        unmarked = there q t.inputs state (omega arith);
        marked = there p.0 t.inputs to_there.0 (omega arith);
        exit = output (t.states - 1) p.1 east (let s = some in omega arith) (let h = to_there.1 in omega arith)
            (omega arith);
        some = subst (λ o. 0 < cost_by t.states t.inputs q i o) goes (some_cost n t q i);
        passes = λ room.
            let in_time : c.steps + table_cost t q i ≤ clock =
            subst (λ o. c.steps + cost_by t.states t.inputs q i o ≤ clock) (sym goes) room in
            let path : Path (t.go q i) =
            boards-leap n k m i q t c (λ d. passes_by stops d.place) way at state flat in_time passes-inside in
            subst Path goes path;
      }

  led_by : (q : ℕ) → q < t.states → slice_get c.states (bottom_at b t.inputs q) ≡ Some horizontal → (to : Line)
      → (o : Option (ℕ × ℕ)) → t.go q i ≡ o
      → option_map (λ p. line_at (column_at b t.inputs p.0 + p.1) east) o ≡ Some to → Led k c v q to
  led_by q state flat to None goes is = absurd (cc)
  led_by q state flat to (Some p) goes is =
      let place : line_at (column_at b t.inputs p.0 + p.1) east ≡ to = cc in
      let element : column_at b t.inputs p.0 + p.1 ≡ to.element = ap (λ (l : Line). l.element) place in
      let arrived = to_there q state flat p goes in
      let same = λ (r : ℕ × ℕ) (whole : to.element - b ≡ r.0 * (t.inputs + 1) + r.1) (row : r.1 < t.inputs + 1).
      column_once b t.inputs p.0 r.0 p.1 r.1 (let h = arrived.1 in omega arith) (omega arith) (omega arith) in
      record {
        low = omega arith;
        move = λ r whole row. let one = same r whole row in
            move_is q state flat r (goes ∙ (λ j. Some (one.0 j, one.1 j)));
        leap = λ r whole row stops through.
            let one = same r whole row in
            leap_is q state flat r (goes ∙ (λ j. Some (one.0 j, one.1 j))) stops through;
      }

  known : Known k c v
  known = record {
    fits = fits_there;
    few = few_there;
    turning = λ q state. output q i west state (let h = at.row in omega arith) (omega arith);
    row = at.row;
    led = λ q state flat to is. led_by q state flat to (t.go q i) refl
        (sym (moves-read n k m q i t way.modules way.board at.has_table state at.row) ∙ is);
  }

-- all this is known where the signal is about to enter it
pub at-Known : (net : Parts Rotary) (c : Config) (v : Entry) → IsAt net c v → Known (rotary_circuit net) c v
at-Known net c v at =
    let e = at.entry in
    let same : v ≡ record {
      first = base at.network.tables e.at_module;
      states = e.table.states;
      lines = e.table.inputs;
      row = v.row;
    } = λ j. record { first = e.first j; states = e.states j; lines = e.lines j; row = v.row } in
    let row : v.row < e.table.inputs = subst (λ x. v.row < x) e.lines e.row in
    let enters : c.place ≡ Enter (base at.network.tables e.at_module + v.row) west = at.enters
    ∙ ap (λ x. Enter (x + v.row) west) e.first in
    subst (Known (rotary_circuit net) c) (sym same) (known at.network (rotary_circuit net) e.at_module v.row e.table c
    at.way (record { has_table = e.has_table; row = row; enters = enters }))

pub at-Fits : (net : Parts Rotary) (c : Config) (v : Entry) → IsAt net c v → Fits v (length c.states)
at-Fits net c v at =
    let h = at-Known net c v at in
    record { within = subst (λ x. column_at v.first v.lines v.states ≤ x) (sym at.good.count) h.fits; few = h.few }

-- where the table leads, by the element of the line that turns the signal back
pub at-Led : (net : Parts Rotary) (c : Config) (v : Entry) (q e : ℕ) (to : Line) → IsAt net c v → q < v.states
    → slice_get c.states (bottom_at v.first v.lines q) ≡ Some horizontal → e ≡ column_at v.first v.lines q + v.row
    → Some to ≡ target net.wires (line_at e west) → Led (rotary_circuit net) c v q to
at-Led net c v q e to at state flat is wired =
    (at-Known net c v at).led q state flat to (sym (wired ∙ ap (λ x. target net.wires (line_at x west)) is))

-- ---- runs

-- a board stays leapable
pub leapable_on : (net : Parts Rotary) (now : Parts Rotary) (stops : Line → Bool) (c d : Config) (has : Entry → Type 0)
    (made : ℕ) → now ≡ net → IsLeapable net c has → PassesBy (rotary_circuit net) stops made c d
    → IsLeapable now d has
leapable_on net now stops c d has made same able path =
    let k = rotary_circuit net in
    let run = passes_run (Goes k) (λ (x : Config). passes_by stops x.place) made c d path in
    subst (λ x. IsLeapable x d has) (sym same) (record {
      network = able.network;
      way = stay-under_way able.network k made c d able.way run;
      good = Reaches-IsConfig k able.way.board.circuit made c d able.good run;
      banks = able.banks;
    })

-- a run of at most so many steps is an advance
pub run-IsAdvance : (k : Circuit) (stops : Line → Bool) (asked most made : ℕ) (c d : Config)
    → IsStoppedRun k stops asked made c d → 0 < asked → asked ≤ most → IsAdvance k stops most made c d
run-IsAdvance k stops asked most made c d run some low =
    let bound = run.bound in
    record {
      bound = omega arith;
      passes = run.between;
      ended = λ none.
          elim (run.moves some) [
            | inl more ↦ absurd (omega arith)
            | inr stuck ↦ subst (IsStuck k) (subst (λ x. Reaches (Goes k) x c d) none run.made) stuck
          ];
    }

-- one advance after another
pub advance-joins : (k now : Circuit) (stops : Line → Bool) (made more most : ℕ) (c d e : Config) → now ≡ k
    → PassesBy k stops made c d → (0 < made → passes_by stops d.place ≡ true) → IsAdvance now stops most more d e
    → PassesBy k stops (made + more) c e
advance-joins k now stops made more most c d e same path calm next =
    passes_join (Goes k) (λ (x : Config). passes_by stops x.place) (made + more) made more c d e refl
    (λ some _. calm some) path (subst (λ x. PassesBy x stops more d e) same next.passes)

-- the steps so far are a run that stops, where it may end
pub stopped-run : (k : Circuit) (stops : Line → Bool) (e made : ℕ) (c d : Config) → IsCircuit k → IsConfig k c
    → made ≤ e
    → PassesBy k stops made c d → (made < e → IsStuck k d ⊎ (stops_at stops d.place ≡ true))
    → (0 < e → (0 < made) ⊎ IsStuck k c) → IsStoppedRun k stops e made c d
stopped-run k stops e made c d circuit good low path ended moves =
    let run = passes_run (Goes k) (λ (x : Config). passes_by stops x.place) made c d path in
    record {
      bound = low;
      made = run;
      between = path;
      ended = ended;
      moves = moves;
      good = Reaches-IsConfig k circuit made c d good run;
    }

-- a run ends where the signal isn't about to enter a line, or is about to enter one of these
pub held_up : (k : Circuit) (stops : Line → Bool) (d : Config) → passes_by stops d.place ≡ false
    → IsStuck k d ⊎ (stops_at stops d.place ≡ true)
held_up k stops d none = by_place d.place refl
  where
    double : (b : Bool) → not b ≡ false → b ≡ true
    double true h = refl
    double false h = absurd (cc)

    by_place : (p : Place) → d.place ≡ p → IsStuck k d ⊎ (stops_at stops d.place ≡ true)
    by_place (Left a b) is = inl (λ x g. left_enters a b g.crosses.element g.crosses.input (sym is ∙ g.crosses.enters))
    by_place (Enter a b) is =
        let line : Line = record { element = a; line = b } in
        let off : not (stops line) ≡ false = sym (ap (passes_by stops) is) ∙ none in
        inr (ap (stops_at stops) is ∙ double (stops line) off)

-- where no step more can be made, the steps so far are the run
pub still-run : (k now : Circuit) (stops : Line → Bool) (e made more most : ℕ) (c d f : Config) → now ≡ k → IsCircuit k
    → IsConfig k c → made ≤ e → PassesBy k stops made c d → (0 < made → passes_by stops d.place ≡ true)
    → IsAdvance now stops most more d f → more ≡ 0 → IsStoppedRun k stops e made c f
still-run k now stops e made more most c d f same circuit good low path calm next none =
    let whole = advance-joins k now stops made more most c d f same path calm next in
    let count : made + more ≡ made = omega arith in
    let here : PassesBy k stops made c f = subst (λ x. PassesBy k stops x c f) count whole in
    let stuck : IsStuck k f = subst (λ x. IsStuck x f) same (next.ended none) in
    stopped-run k stops e made c f circuit good low here (λ _. inl stuck) (λ _. by_count made refl here stuck)
  where
    by_count : (m : ℕ) → made ≡ m → PassesBy k stops made c f → IsStuck k f → (0 < made) ⊎ IsStuck k c
    by_count (suc m) is here stuck = inl (omega arith)
    by_count zero is here stuck = inr (subst (IsStuck k) (sym (subst (λ x. PassesBy k stops x c f) is here)) stuck)

-- a run that stops nowhere is the longest
pub stopped-longest : (k : Circuit) (e made : ℕ) (c d : Config) → IsCircuit k → IsStoppedRun k (λ _. false) e made c d
    → IsLongestRun Forward k e made c d
stopped-longest k e made c d circuit run = record {
  bound = run.bound;
  made = run.made;
  ended = stuck;
  ends = sym (run_stops k made e c d run.made run.bound stuck);
  undone = Reaches-back k circuit made c d run.made;
  good = run.good;
}
  where
    stuck : made < e → IsStuck k d
    stuck fewer = elim (run.ended fewer) [ inl h ↦ h | inr stop ↦ absurd (no_stop d.place stop) ]

-- who doesn't listen has heard whatever there was to hear
pub silent : (told : Option (List Place)) (more : List Place) (listens : Bool) → OnFalse listens (told ≡ None)
    → listens ≡ false → Hears told more told
silent told more true none is = absurd (cc)
silent told more false none is = subst (λ t. Hears t more t) (sym none) tt

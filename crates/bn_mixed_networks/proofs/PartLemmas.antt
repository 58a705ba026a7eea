-- Parts of a circuit: where their ports and wires are, and their moves.
use Rattle.std.specs.Prelude.{◌≡◌, ◌≢◌, ℕ, ◌+◌, ◌-◌, ◌<◌, ◌≤◌, true, List, length}
use Rattle.std.specs.Prelude.{Some, slice_get, slice_set, ◌⊎◌, refl}
use Rattle.std.proofs.Common.{arith, ap, subst, ◌∙◌, inl, inr}
use Rattle.std.proofs.lemmas.List.{length-set}
use Rattle.std.proofs.lemmas.Option.{slice_get_within}
use Rattle.bn_element.specs.Tables.{Table, IsReversible}
use Rattle.bn_element.specs.Rotary.{rotary, west}
use Rattle.bn_element.specs.Reversible.{rotary-IsReversible}
use Rattle.bn_lists.specs.Runs.{Reaches}
use Rattle.bn_lists.proofs.RunsLemmas.{passes_run}
use Rattle.bn_circuits.specs.Circuits.{Circuit, clock, target, line_at, place_after, Goes}
use Rattle.bn_circuits.proofs.StepLemmas.{slice_get-set_same, slice_get-set_other}
use Rattle.bn_circuits.specs.declared.line.Line.{Line}
use Rattle.bn_circuits.specs.declared.place.Place.TheVariants.{Enter}
use Rattle.bn_circuits.specs.declared.config.Config.{Config}
use Rattle.bn_rsm.specs.Costs.{table_cost}
use Rattle.bn_realise.specs.Banks.{IsBank, IsBankEntering, IsResting, IsBesideBank, bottom_at, column_at}
use Rattle.bn_realise.specs.Banks.{moved, mark_after, states_after, exit_after}
use Rattle.bn_realise.proofs.BankCrossingLemmas.{later_column, bank_crosses, moved-IsResting, moved-beside}
use Rattle.bn_realise.proofs.BankWiresLemmas.{bank_wire-IsWithinLines, bank_wire-no_input, output-no_wire}
use Rattle.bn_mixed_networks.specs.Parts.{Part, Bank, Single, IsPart, part_table, part_size, part_input, part_output}
use Rattle.bn_mixed_networks.specs.Parts.{IsPartWire, IsPartResting, part_cost}

-- ---- the table of a part

pub part-reversible : (p : Part) → IsPart p → IsReversible (part_table p)
part-reversible (Bank t) is = is.0
part-reversible Single is = rotary-IsReversible

pub part-square : (p : Part) → IsPart p → (part_table p).outputs ≡ (part_table p).inputs
part-square (Bank t) is = is.3
part-square Single is = refl

-- ---- where ports are

-- the port is one of n elements from b on
pub record IsIn (b n : ℕ) (l : Line) : Type 0 where
  pub low : b ≤ l.element
  pub high : l.element < b + n
  pub line : l.line < 4

pub part-input-in : (p : Part) (b i : ℕ) → IsPart p → i < (part_table p).inputs
    → IsIn b (part_size p) (part_input p b i)
part-input-in (Bank t) b i is row =
    let last = later_column b t.inputs 0 t.states is.1 in
    record { low = omega arith; high = omega arith; line = omega arith }
part-input-in Single b i is row = record { low = omega arith; high = omega arith; line = row }

pub part-output-in : (p : Part) (b o : ℕ) → IsPart p → o < (part_table p).inputs
    → IsIn b (part_size p) (part_output p b o)
part-output-in (Bank t) b o is row =
    let some = is.1 in
    let last = later_column b t.inputs (t.states - 1) t.states (omega arith) in
    record { low = omega arith; high = omega arith; line = omega arith }
part-output-in Single b o is row = record { low = omega arith; high = omega arith; line = row }

pub part-input-once : (p : Part) (b i j : ℕ) → part_input p b i ≡ part_input p b j → i ≡ j
part-input-once (Bank t) b i j same = let e : b + i ≡ b + j = ap (λ (l : Line). l.element) same in omega arith
part-input-once Single b i j same = ap (λ (l : Line). l.line) same

pub part-output-once : (p : Part) (b i j : ℕ) → part_output p b i ≡ part_output p b j → i ≡ j
part-output-once (Bank t) b i j same =
    let e : column_at b t.inputs (t.states - 1) + i ≡ column_at b t.inputs (t.states - 1) + j =
    ap (λ (l : Line). l.element) same in
    omega arith
part-output-once Single b i j same = ap (λ (l : Line). l.line) same

-- ---- own wires

pub record IsWithin (b n : ℕ) (from to : Line) : Type 0 where
  pub leaves : IsIn b n from
  pub ends : IsIn b n to

pub part-wire-within : (p : Part) (b : ℕ) (from to : Line) → IsPart p → IsPartWire p b from to
    → IsWithin b (part_size p) from to
part-wire-within (Bank t) b from to is wire =
    let h = bank_wire-IsWithinLines b t is.0 is.3 from to wire in
    record {
      leaves = record { low = h.from_low; high = omega (arith, h.from_high); line = h.from_line };
      ends = record { low = h.to_low; high = omega (arith, h.to_high); line = h.to_line };
    }
part-wire-within Single b from to is wire = absurd wire

pub part-wire-no_input : (p : Part) (b : ℕ) (from to : Line) (i : ℕ) → IsPart p → IsPartWire p b from to
    → i < (part_table p).inputs → to ≢ part_input p b i
part-wire-no_input (Bank t) b from to i is wire row same = bank_wire-no_input b t is.0 is.3 from to wire i row same
part-wire-no_input Single b from to i is wire row same = absurd wire

pub part-wire-no_output : (p : Part) (b o : ℕ) (to : Line) → IsPart p → o < (part_table p).inputs
    → IsPartWire p b (part_output p b o) to → ⊥
part-wire-no_output (Bank t) b o to is row wire = output-no_wire b t is.0 is.3 o to row wire
part-wire-no_output Single b o to is row wire = wire

-- ---- moves

-- in this circuit the elements from b on are the part: rotary elements with its wires
pub record IsPartIn (k : Circuit) (p : Part) (b : ℕ) : Type 0 where
  pub rotaries : (e : ℕ) → b ≤ e → e < b + part_size p → slice_get k.tables e ≡ Some rotary
  pub wired : (from to : Line) → IsPartWire p b from to → target k.wires from ≡ Some to

-- after a move to state r and output port o, the part is at rest in r, the bars of other parts are as before, and the
-- signal is where the output port leads
pub record HasMoved (k : Circuit) (p : Part) (b q i r o : ℕ) (c d : Config) : Type 0 where
  pub run : Reaches (Goes k) (part_cost p q i) c d
  pub steps : d.steps ≡ c.steps + part_cost p q i
  pub resting : IsPartResting p d.states b r
  pub beside : (e : ℕ) → (e < b) ⊎ (b + part_size p ≤ e) → slice_get d.states e ≡ slice_get c.states e
  pub count : length d.states ≡ length c.states
  pub place : d.place ≡ place_after k.wires (part_output p b o)

bank_in : (k : Circuit) (t : Table) (b : ℕ) → IsPartIn k (Bank t) b → IsBank k b t
bank_in k t b is =
    record {
      rotaries = λ j x there row.
          let last = later_column b t.inputs j t.states there in
          is.rotaries (column_at b t.inputs j + x) (omega arith) (omega arith);
      wired = is.wired;
    }

bank_moves : (k : Circuit) (t : Table) (b q i r o : ℕ) (c : Config) → IsPart (Bank t) → IsPartIn k (Bank t) b
    → q < t.states → i < t.inputs → IsResting c.states b t.states t.inputs (Some q)
    → c.place ≡ Enter (b + i) west → t.go q i ≡ Some (r, o) → c.steps + table_cost t q i ≤ clock
    → (d : Config) × HasMoved k (Bank t) b q i r o c d
bank_moves k t b q i r o c is there state line rests enters goes in_time =
    let bank = bank_in k t b there in
    let entering : IsBankEntering b t q i c = record { state = state; line = line; resting = rests; enters = enters } in
    let d : Config = moved k b t q i c in
    let ended = moved-IsResting k b t q i c is.0 is.3 bank entering in (
      d,
      record {
        run = passes_run (Goes k) (λ _. true) (table_cost t q i) c d
            (bank_crosses k b t q i c (λ _. true) is.0 is.3 bank entering in_time (λ _ _. refl));
        steps = refl;
        resting = subst (λ m. IsResting d.states b t.states t.inputs m) (ap mark_after goes) ended;
        beside = λ e out. moved-beside k b t q i c is.0 is.3 bank entering e (beside e out);
        count = ap (λ m. length (states_after c.states b t.inputs q m)) goes ∙ length-set _ _ _ ∙ length-set _ _ _;
        place = ap (λ m. place_after k.wires (exit_after b t q i m)) goes;
      },
    )
  where
    beside : (e : ℕ) → (e < b) ⊎ (b + part_size (Bank t) ≤ e) → IsBesideBank b t e
    beside e (inl low) = inl low
    beside e (inr high) = inr (omega arith)

single_moves : (k : Circuit) (b q i r o : ℕ) (c : Config) → IsPartIn k Single b → slice_get c.states b ≡ Some q
    → c.place ≡ Enter b i → rotary.go q i ≡ Some (r, o) → c.steps + 1 ≤ clock
    → (d : Config) × HasMoved k Single b q i r o c d
single_moves k b q i r o c there rests enters goes in_time =
    let d : Config = record {
      states = slice_set c.states b r;
      place = place_after k.wires (line_at b o);
      steps = c.steps + 1;
    } in
    let at = there.rotaries b (omega arith) (omega arith) in
    let go : Goes k c d = record {
      crosses = record {
        element = b;
        input = i;
        output = o;
        before = q;
        after = r;
        enters = enters;
        has_state = rests;
        moves = rw at goes;
        states = refl;
        place = refl;
      };
      steps = refl;
      in_time = in_time;
    } in (
      d,
      record {
        run = (d, go, refl);
        steps = refl;
        resting = slice_get-set_same c.states b r (slice_get_within c.states b q rests);
        beside = λ e out. slice_get-set_other c.states b e r (apart e out);
        count = length-set c.states b r;
        place = refl;
      },
    )
  where
    apart : (e : ℕ) → (e < b) ⊎ (b + 1 ≤ e) → e ≢ b
    apart e (inl low) same = omega arith
    apart e (inr high) same = omega arith

-- a signal that enters a part at rest is moved on, in exactly the part's cost
pub part-moves : (k : Circuit) (p : Part) (b q i r o : ℕ) (c : Config) → IsPart p → IsPartIn k p b
    → IsPartResting p c.states b q → c.place ≡ Enter (part_input p b i).element (part_input p b i).line
    → (part_table p).go q i ≡ Some (r, o) → c.steps + part_cost p q i ≤ clock
    → (d : Config) × HasMoved k p b q i r o c d
part-moves k (Bank t) b q i r o c is there rests enters goes in_time =
    let departs = is.0.departs q i r o goes in
    bank_moves k t b q i r o c is there departs.0 departs.1 rests enters goes in_time
part-moves k Single b q i r o c is there rests enters goes in_time =
    single_moves k b q i r o c there rests enters goes in_time

-- a part whose bars are as before rests as before
pub part-kept : (p : Part) (old new : List ℕ) (b q : ℕ)
    → ((x : ℕ) → b ≤ x → x < b + part_size p → slice_get new x ≡ slice_get old x) → IsPartResting p old b q
    → IsPartResting p new b q
part-kept (Bank t) old new b q same rests = record {
  columns = λ j there. let last = later_column b t.inputs j t.states there in record {
    rows = λ r row. same (column_at b t.inputs j + r) (omega arith) (omega arith) ∙ (rests.columns j there).rows r row;
    bottom = same (bottom_at b t.inputs j) (omega arith) (omega arith) ∙ (rests.columns j there).bottom;
  };
}
part-kept Single old new b q same rests = same b (omega arith) (omega arith) ∙ rests

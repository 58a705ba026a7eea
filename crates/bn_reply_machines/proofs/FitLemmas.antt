-- The states and symbols that a run comes upon are the machine's.
use Rattle.std.proofs.Common.{◌≡◌, ℕ, ◌<◌, ◌≤◌, ◌∷◌, List, [], length, ◌⊎◌, inl, inr, sym, subst, ap, ◌∙◌, arith, suc}
use Rattle.std.proofs.Common.{zero, Some, Bool, true, false, cond, get_or}
use Rattle.std.specs.Prelude.{ℤ, pos, negsuc, ◌+ℤ◌, All, slice_index}
use Rattle.std.specs.Ordering.{int_eq}
use Rattle.std.proofs.lemmas.Bool.{cases_lt}
use Rattle.std.proofs.lemmas.List.{get_or_past, get_or_default}
use Rattle.std.proofs.lemmas.Option.{slice_get_within, get_or_from_slice_get}
use Rattle.bn_lists.specs.Runs.{Reaches}
use Rattle.bn_machine.specs.Tape.{cell, letter_at}
use Rattle.bn_machine.proofs.TapeLemmas.{cell-write, cell-word}
use Rattle.bn_machine.specs.Machine.{Program, Moment, MachineRunsTo, IsInRange, IsMachine, start, start_of}
use Rattle.bn_lists.specs.Lists.{nth}
use Rattle.bn_machine.specs.Run.{HasEnding, EndsAt}
use Rattle.bn_machine.specs.Run as free
use Rattle.bn_machine.specs.Window.{Room, anywhere}
use Rattle.bn_machine.specs.declared.quint.Quint.{Quint}
use Rattle.bn_table.specs.Rows.{Named, IsTable}
use Rattle.bn_reply.specs.Words.{IsSpelledBy}
use Rattle.bn_reply_machines.specs.MachineRun.{FitsTable, ending_of}
use Rattle.bn_reply_machines.specs.declared.machine_run.Ending.{Ending}
use Rattle.bn_reply_machines.specs.declared.machine_run.Ending.TheVariants.{Halted, Stuck, Running}
use Rattle.bn_table.proofs.MachineLemmas.{table_machine}

-- the moment's state and all its symbols are the machine's
pub record Fits (p : Program) (c : Moment) : Type 0 where
  pub state : c.state < p.states
  pub symbols : (q : ℤ) → cell c.tape q < p.symbols

-- each of the word's symbols is the machine's
pub record AreSymbols (p : Program) (word : List ℕ) : Type 0 where
  pub each : (k : ℕ) → k < length word → slice_index word k < p.symbols

quint_fits : (p : Program) → All (IsInRange p.states p.symbols) p.quints → (n : ℕ) (q : Quint) → nth p.quints n ≡ Some q
    → IsInRange p.states p.symbols q
quint_fits p h zero q e = absurd (cc)
quint_fits p h (suc i) q e =
    subst (IsInRange p.states p.symbols) (get_or_from_slice_get p.quints i q q e)
    (h i q (slice_get_within p.quints i q e))

first_fits : (f z : ℕ) (qs : List Quint) → 0 < length qs → All (IsInRange f z) qs → (start_of qs < f) × (0 < z)
first_fits f z [] some h = absurd (omega arith)
first_fits f z (q ∷ qs) some h = let inside = h 0 q some in (
  inside.state,
  let low : q.read < z = inside.read in omega arith,
)

letter_fits : (p : Program) (word : List ℕ) → 0 < p.symbols → AreSymbols p word → (q : ℤ) → letter_at word q < p.symbols
letter_fits p word blank h (pos zero) = blank
letter_fits p word blank h (negsuc k) = blank
letter_fits p word blank h (pos (suc k)) = by_place (cases_lt k (length word))
  where
    by_place : (k < length word) ⊎ (length word ≤ k) → slice_index word k < p.symbols
    by_place (inl inside) = h.each k inside
    by_place (inr past) = subst (λ (s : ℕ). s < p.symbols) (sym (get_or_past word k 0 past)) blank

pub start_fits : (p : Program) (word : List ℕ) → IsMachine p → AreSymbols p word → Fits p (start p word)
start_fits p word m h =
    let first = first_fits p.states p.symbols p.quints m.some m.in_range in
    record {
      state = first.0;
      symbols = λ q. subst (λ (s : ℕ). s < p.symbols) (sym (cell-word word q)) (letter_fits p word first.1 h q);
    }

written_fits : (z : ℕ) (b : Bool) (w c : ℕ) → w < z → c < z → cond b w c < z
written_fits z true w c h k = h
written_fits z false w c h k = k

step_fits : (room : Room) (p : Program) (c d : Moment) → IsMachine p → Fits p c → MachineRunsTo room p c d → Fits p d
step_fits room p c d m h goes =
    let by = goes.1 in
    let inside = quint_fits p m.in_range goes.0 by.quint by.match.stands in
    record {
      state = subst (λ (s : ℕ). s < p.states) (sym by.applies.to) inside.next;
      symbols = λ q.
          let there : cell d.tape q ≡ cond (int_eq q c.tape.head) by.quint.write (cell c.tape q) =
          ap (λ t. cell t q) by.applies.writes
          ∙ cell-write c.tape by.quint.write q in
          subst (λ (s : ℕ). s < p.symbols) (sym there) (written_fits p.symbols (int_eq q c.tape.head) by.quint.write
          (cell c.tape q) inside.write
          (h.symbols q));
    }

pub run_fits : (room : Room) (p : Program) (i : ℕ) (c d : Moment) → IsMachine p → Fits p c
    → Reaches (MachineRunsTo room p) i c d → Fits p d
run_fits room p zero c d m h run = subst (Fits p) run h
run_fits room p (suc i) c d m h run = run_fits room p i run.0 d m (step_fits room p c run.0 m h run.1) run.2

pub spelled_symbols : (t : Named) (word symbols : List ℕ) → IsTable t → IsSpelledBy t word symbols
    → AreSymbols t.machine symbols
spelled_symbols t word symbols h s = record {
  each = λ k inside. let known : slice_index symbols k < length t.letters = (s.symbols_known k 0 inside).known in
      let count : t.machine.symbols ≡ length t.letters = h.symbols in omega arith;
}

output_fits : (t : Named) (c : Moment) (y : List ℕ) → Fits t.machine c → free.IsOutput c.tape y
    → All (λ s. s < t.machine.symbols) y
output_fits t c y h out = λ k d inside.
    let there : get_or y k d ≡ get_or y k 0 = get_or_default y k d 0 inside in
    let here : cell c.tape (c.tape.head +ℤ pos (suc k)) ≡ get_or y k 0 = out.spelled k inside in
    subst (λ (s : ℕ). s < t.machine.symbols) (here ∙ sym there) (h.symbols (c.tape.head +ℤ pos (suc k)))

end_fits : (t : Named) (n i : ℕ) (c : Moment) (e : Ending) → Fits t.machine c → EndsAt t.machine n i c (ending_of e)
    → FitsTable t e
end_fits t n i c (Halted output) h (free.halts y final out same) =
    let e : y ≡ output.items = cc in
    output_fits t c output.items h (subst (free.IsOutput c.tape) e out)
end_fits t n i c (Halted output) h (free.sticks stuck same) = absurd (cc)
end_fits t n i c (Halted output) h (free.runs d goes all same) = absurd (cc)
end_fits t n i c (Stuck state symbol) h (free.halts y final out same) = absurd (cc)
end_fits t n i c (Stuck state symbol) h (free.sticks stuck same) =
    let states : c.state ≡ state = cc in
    let symbols : cell c.tape c.tape.head ≡ symbol = cc in (
      subst (λ (s : ℕ). s < t.machine.states) states h.state,
      subst (λ (s : ℕ). s < t.machine.symbols) symbols (h.symbols c.tape.head),
    )
end_fits t n i c (Stuck state symbol) h (free.runs d goes all same) = absurd (cc)
end_fits t n i c Running h ends = tt

-- the ending of a run of a table's machine has the table's states and symbols
pub ending_fits : (t : Named) (word symbols : List ℕ) (n i : ℕ) (e : Ending) → IsTable t → IsSpelledBy t word symbols →
    HasEnding t.machine symbols n i (ending_of e) → FitsTable t e
ending_fits t word symbols n i e h spelled ending =
    let m = table_machine t h in
    let fits = run_fits anywhere t.machine i (start t.machine symbols) ending.moment m
    (start_fits t.machine symbols m (spelled_symbols t word symbols h spelled)) ending.run in
    end_fits t n i ending.moment e fits ending.ends

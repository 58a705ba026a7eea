-- Where a machine in standard form halts, its last step was by its last quintuple: the head scans a blank, and the
-- history ends with that number.
use Rattle.std.specs.Prelude.{◌≡◌, ◌≢◌, ℕ, zero, suc, ◌<◌, ◌≤◌, ℤ, pos, negsuc, ◌+ℤ◌, List, [], ◌∷◌, length, Some, All}
use Rattle.std.specs.Prelude.{Bool, true, false, cond}
use Rattle.std.specs.Ordering.{int_eq}
use Rattle.std.proofs.Common.{refl, sym, ap, ◌∙◌, subst, arith, get_or, inl, inr}
use Rattle.std.proofs.lemmas.Bool.{cases_lt}
use Rattle.std.proofs.lemmas.List.{get_or_past, get_or_default}
use Rattle.bn_machine.specs.Tape.{Tape, cell, scanned, write, shift, letter_at}
use Rattle.bn_machine.proofs.TapeLemmas.{cell-word, cell-write, scanned-write}
use Rattle.bn_machine.specs.Window.{Room}
use Rattle.bn_machine.specs.Machine.{Program, Moment, GoesBy, IsFinal, IsMachine, IsInRange, start, start_of, final_of}
use Rattle.bn_lists.specs.Lists.{nth}
use Rattle.bn_lists.proofs.ListLemmas.{nth_once, nth_within, nth-get_or}
use Rattle.bn_machine.specs.Run.{Follows}
use Rattle.bn_machine.specs.declared.quint.Quint.{Quint}
use Rattle.bn_machine.specs.declared.quint.Shift.{Shift}
use Rattle.bn_machine.specs.declared.quint.Shift.TheVariants.{Stay}
use Rattle.bn_bennett_laws.specs.Stages.{IsStandardMachine, IsSpelledBy}
use Rattle.bn_bennett_laws.specs.Laws.{HaltedIsReady}
use Rattle.bn_bennett_laws.proofs.Tapes.{scanned-history}

-- ---- symbols

-- every symbol of the tape is one of so many
abbrev IsTapeOf : ℕ → Tape → Type 0
IsTapeOf z t = (q : ℤ) → cell t q < z

one_of_two : (b : Bool) (m n z : ℕ) → m < z → n < z → cond b m n < z
one_of_two true m n z h k = h
one_of_two false m n z h k = k

pub quint_in_range : (p : Program) (n : ℕ) (q : Quint) → IsMachine p → nth p.quints n ≡ Some q
    → IsInRange p.states p.symbols q
quint_in_range p zero q machine e = absurd (cc)
quint_in_range p (suc i) q machine e =
    let inside : i < length p.quints = nth_within p.quints (suc i) q e in
    subst (IsInRange p.states p.symbols) (nth_once p.quints (suc i) (get_or p.quints i q) q
    (nth-get_or p.quints i q inside) e) (machine.in_range i q inside)

pub some_symbol : (p : Program) → IsMachine p → 0 < p.symbols
some_symbol p machine = by_list p.quints refl
  where
    by_list : (qs : List Quint) → p.quints ≡ qs → 0 < p.symbols
    by_list [] e = let none : length p.quints ≡ 0 = ap length e in let some : 0 < length p.quints =
        machine.some in absurd (omega arith)
    by_list (q ∷ qs) e = let first : nth p.quints 1 ≡ Some q = ap (λ ss. nth ss 1) e in let read : q.read < p.symbols =
        (quint_in_range p 1 q machine first).read in omega arith

word_symbols : (z : ℕ) (word : List ℕ) → 0 < z → All (λ s. s < z) word → (q : ℤ) → letter_at word q < z
word_symbols z word some each (pos zero) = some
word_symbols z word some each (negsuc j) = some
word_symbols z word some each (pos (suc j)) =
    elim (cases_lt j (length word)) [
      | inl low ↦ each j 0 low
      | inr high ↦ subst (λ s. s < z) (sym (get_or_past word j 0 high)) some
    ]

-- each tape of a run from a word of the machine's letters
run_symbols : (p : Program) (room : Room) (word ns : List ℕ) (c : Moment) → IsMachine p → IsSpelledBy p word
    → Follows room p ns (start p word) c → IsTapeOf p.symbols c.tape
run_symbols p room word [] c machine each run =
    subst (λ (m : Moment). IsTapeOf p.symbols m.tape) run (λ q. subst (λ s. s < p.symbols) (sym (cell-word word q))
    (word_symbols p.symbols word (some_symbol p machine) each q))
run_symbols p room word (n ∷ ns) c machine each run =
    let before = run_symbols p room word ns run.0 machine each run.1 in
    let by = run.2 in
    let written = (quint_in_range p n by.quint machine by.match.stands).write in
    subst (IsTapeOf p.symbols) (sym by.applies.writes)
    (λ q. subst (λ s. s < p.symbols) (sym (cell-write run.0.tape by.quint.write q))
    (one_of_two (int_eq q run.0.tape.head) by.quint.write (cell run.0.tape q) p.symbols written (before q)))

-- ---- the last step

start_not_final : (p : Program) → IsStandardMachine p → start_of p.quints ≢ final_of p.quints
start_not_final p standard e =
    let begins = standard.standard.begins in
    standard.standard.lone_final.none 1 (record {
      quint = begins.quint;
      stands = begins.stands;
      names = inl (first_state p.quints begins.quint begins.stands ∙ e);
    })
  where
    first_state : (qs : List Quint) (q : Quint) → nth qs 1 ≡ Some q → q.state ≡ start_of qs
    first_state [] q e = absurd (cc)
    first_state (r ∷ qs) q e = let same : r ≡ q = cc in ap (λ (x : Quint). x.state) (sym same)

-- a step to the final state is by the last quintuple
last_number : (p : Program) (room : Room) (n : ℕ) (c d : Moment) → IsStandardMachine p → (by : GoesBy room p n c d)
    → IsFinal p d → n ≡ length p.quints
last_number p room n c d standard by final =
    let inside : n ≤ length p.quints = nth_within p.quints n by.quint by.match.stands in
    elim (cases_lt n (length p.quints)) [
      | inl early ↦ absurd (standard.standard.lone_final.none n
          (record { quint = by.quint; stands = by.match.stands; names = inr (early, sym by.applies.to ∙ final) }))
      | inr late ↦ omega arith
    ]

stays_blank : (t u : Tape) (w : ℕ) (s : Shift) → u ≡ shift (write t w) s → s ≡ Stay → w ≡ 0 → scanned u ≡ 0
stays_blank t u w s e stays blank = ap scanned (e ∙ ap (shift (write t w)) stays) ∙ scanned-write t w ∙ blank

pub halted_is_ready : HaltedIsReady
halted_is_ready p room word [] y c standard each run final out =
    absurd (start_not_final p standard (ap (λ (m : Moment). m.state) run ∙ final))
halted_is_ready p room word (n ∷ ns) y c standard each run final out =
    let by = run.2 in
    let last : n ≡ length p.quints = last_number p room n run.0 c standard by final in
    let ends = standard.standard.ends in
    let same : by.quint ≡ ends.quint = nth_once p.quints (length p.quints) by.quint ends.quint
    (subst (λ i. nth p.quints i ≡ Some by.quint) last by.match.stands) ends.stands in
    let symbols = run_symbols p room word (n ∷ ns) c standard.machine each run in
    record {
      final = final;
      blank = stays_blank run.0.tape c.tape by.quint.write by.quint.shift by.applies.writes
          (ap (λ (q : Quint). q.shift) same ∙ ends.ends.shifts) (ap (λ (q : Quint). q.write) same ∙ ends.ends.writes);
      last = scanned-history n ns ∙ last;
      output = out;
      letters = λ k d low. subst (λ s. s < p.symbols) (out.spelled k low ∙ get_or_default y k 0 d low)
          (symbols (c.tape.head +ℤ pos (suc k)));
    }

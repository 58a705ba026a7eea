-- Where the machine is stuck, the machine of quadruples holds its tape and the numbers of the quintuples of its steps.
use Rattle.std.specs.Prelude.{◌≡◌, ℕ, ◌<◌, ◌≤◌, ℤ, List, length, ◌⊎◌, refl}
use Rattle.std.proofs.Common.{arith, sym, ap, ◌∙◌, inl, inr}
use Rattle.std.proofs.lemmas.Bool.{cases_lt}
use Rattle.bn_lists.specs.Runs.{Reaches}
use Rattle.bn_machine.specs.Machine.{IsMachineStuck, MachineRunsTo, Moment, Program, start}
use Rattle.bn_machine.specs.Outcome as outcome
use Rattle.bn_machine.specs.Outcome.{ComesOut, HasOutcome, Limits, Outcome, halts, leaves, runs_out, sticks, Copies}
use Rattle.bn_machine.specs.Outcome.{copied, work_short, output_short}
use Rattle.bn_machine.specs.Run.{Follows}
use Rattle.bn_machine.specs.Tape.{blank_tape, scanned}
use Rattle.bn_machine.specs.Window.{anywhere, within}
use Rattle.bn_machine.proofs.MachineStepLemmas.{follows_run, run_anywhere, steps_are_functions, stuck_not_going}
use Rattle.bn_machine.proofs.OutcomeLemmas.{run_goes_on}
use Rattle.bn_quad.specs.Quadruples.{Configuration}
use Rattle.bn_bennett_laws.specs.Renamed.{in_state}
use Rattle.bn_bennett_laws.specs.Stages.{Stands, computes, computes_within, goes_right, copies_letter, goes_left}
use Rattle.bn_bennett_laws.specs.Stages.{passes_letter, retraces, retraces_within, history}
use Rattle.bn_bennett_laws.specs.declared.name.Name.{Name}
use Rattle.bn_bennett_laws.specs.declared.name.Name.TheVariants.{Compute}
use Rattle.bn_bennett.specs.Translation.{Translation, name_of}

-- the machine's own moment after i steps, in this state at this symbol, and what stands on the three tapes then
pub record HoldsStuck (p : Program) (word : List ℕ) (i state symbol : ℕ) (d : Configuration ℕ) : Type 0 where
  pub moment : Moment
  pub numbers : List ℕ
  pub follows : Follows anywhere p numbers (start p word) moment
  pub counted : length numbers ≡ i
  pub state_is : moment.state ≡ state
  pub symbol_is : scanned moment.tape ≡ symbol
  pub one : d.one ≡ moment.tape
  pub two : d.two ≡ history numbers
  pub three : d.three ≡ blank_tape

-- a run that is stuck, in its own words
record IsStuckAfter (p : Program) (word : List ℕ) (l : Limits) (i state symbol : ℕ) : Type 0 where
  moment : Moment
  run : Reaches (MachineRunsTo anywhere p) i (start p word) moment
  stuck : IsMachineStuck p moment
  state_is : moment.state ≡ state
  symbol_is : scanned moment.tape ≡ symbol

no_copy : (l : Limits) (o : Outcome) (state symbol : ℕ) (h : ℤ) (y : List ℕ) → Copies l h y o
    → o ≡ outcome.Stuck state symbol → ⊥
no_copy l o state symbol h y (copied room is) e = let both : outcome.Halted y ≡ outcome.Stuck state symbol =
    sym is ∙ e in cc
no_copy l o state symbol h y (work_short j first short is) e =
    let both : outcome.Outside _ _ ≡ outcome.Stuck state symbol = sym is ∙ e in cc
no_copy l o state symbol h y (output_short j first near short is) e =
    let both : outcome.Outside _ _ ≡ outcome.Stuck state symbol = sym is ∙ e in cc

stuck_after : (p : Program) (word : List ℕ) (l : Limits) (i state symbol : ℕ)
    → HasOutcome p word l i (outcome.Stuck state symbol) → IsStuckAfter p word l i state symbol
stuck_after p word l i state symbol h = by_end h.ends
  where
    by_end : ComesOut p l i h.moment (outcome.Stuck state symbol) → IsStuckAfter p word l i state symbol
    by_end (halts y final output copies) = absurd (no_copy l (outcome.Stuck state symbol) state symbol
        h.moment.tape.head y copies refl)
    by_end (sticks stuck is) = record {
      moment = h.moment;
      run = run_anywhere (within l.left l.right) p i (start p word) h.moment h.run;
      stuck = stuck;
      state_is = let both : outcome.Stuck state symbol ≡ outcome.Stuck h.moment.state (scanned h.moment.tape) =
          is in cc;
      symbol_is = let both : outcome.Stuck state symbol ≡ outcome.Stuck h.moment.state (scanned h.moment.tape) =
          is in cc;
    }
    by_end (runs_out d goes steps is) = absurd (let both : outcome.Stuck state symbol ≡ outcome.Outside _ _ = is in cc)
    by_end (leaves d side goes steps beyond is) = absurd (let both : outcome.Stuck state symbol
        ≡ outcome.Outside _ _ = is in cc)

-- two moments in one state at one symbol are stuck alike
stuck_alike : (p : Program) (c d : Moment) → c.state ≡ d.state → scanned c.tape ≡ scanned d.tape → IsMachineStuck p d
    → IsMachineStuck p c
stuck_alike p c d state symbol stuck = record { going = rw (state) stuck.going; none = rw (state, symbol) stuck.none }

-- a run to a stuck moment has as many steps as any other to one
same_steps : (p : Program) (x c d : Moment) (i j : ℕ) → Reaches (MachineRunsTo anywhere p) i x c → IsMachineStuck p c
    → Reaches (MachineRunsTo anywhere p) j x d → IsMachineStuck p d → i ≡ j
same_steps p x c d i j run stuck other ends = by_order (cases_lt i j) (cases_lt j i)
  where
    by_order : (i < j) ⊎ (j ≤ i) → (j < i) ⊎ (i ≤ j) → i ≡ j
    by_order (inl h) k = absurd (let more = run_goes_on (MachineRunsTo anywhere p) (steps_are_functions anywhere p) i j
        x c d h run other in stuck_not_going anywhere p c more.0 stuck more.1)
    by_order (inr h) (inl k) = absurd (let more = run_goes_on (MachineRunsTo anywhere p)
        (steps_are_functions anywhere p) j i x d c k other run in stuck_not_going anywhere p d more.0 ends more.1)
    by_order (inr h) (inr k) = omega arith

module _ (p : Program) (t : Translation) (word : List ℕ) (l : Limits) (i state symbol : ℕ) (d : Configuration ℕ)
    (outcome_is : HasOutcome p word l i (outcome.Stuck state symbol)) (named : name_of t d.state ≡ Compute state)
    (read : scanned d.one ≡ symbol) where
  abbrev x : Configuration Name
  x = in_state (name_of t) d

  holds : (c : Moment) (ns : List ℕ) → Follows anywhere p ns (start p word) c → Compute c.state ≡ name_of t d.state
      → d.one ≡ c.tape → d.two ≡ history ns → d.three ≡ blank_tape
      → HoldsStuck p word i state symbol d
  holds c ns follows state_is one two three =
      let after = stuck_after p word l i state symbol outcome_is in
      let names : Compute c.state ≡ Compute state = state_is ∙ named in
      let at_state : c.state ≡ state = cc in
      let at_symbol : scanned c.tape ≡ symbol = ap scanned (sym one) ∙ read in
      let stuck = stuck_alike p c after.moment (at_state ∙ sym after.state_is) (at_symbol ∙ sym after.symbol_is)
      after.stuck in
      record {
        moment = c;
        numbers = ns;
        follows = follows;
        counted = same_steps p (start p word) c after.moment (length ns) i
            (follows_run anywhere p ns (start p word) c follows) stuck after.run after.stuck;
        state_is = at_state;
        symbol_is = at_symbol;
        one = one;
        two = two;
        three = three;
      }

  other_name : (n : Name) → n ≡ name_of t d.state → ((s : ℕ) → n ≡ Compute s → ⊥) → HoldsStuck p word i state symbol d
  other_name n is apart = absurd (apart state (is ∙ named))

  pub holds_stuck : Stands p word x → HoldsStuck p word i state symbol d
  holds_stuck (computes c ns follows is) = holds c ns follows (ap (λ (v : Configuration Name). v.state) (sym is))
      (ap (λ (v : Configuration Name). v.one) is) (ap (λ (v : Configuration Name). v.two) is)
      (ap (λ (v : Configuration Name). v.three) is)
  holds_stuck (computes_within c e ns m by follows is) = other_name _
      (ap (λ (v : Configuration Name). v.state) (sym is)) (λ s h. cc)
  holds_stuck (goes_right c ns y k over low is) = other_name _ (ap (λ (v : Configuration Name). v.state) (sym is))
      (λ s h. cc)
  holds_stuck (copies_letter c ns y k over low is) = other_name _ (ap (λ (v : Configuration Name). v.state) (sym is))
      (λ s h. cc)
  holds_stuck (goes_left c ns y k over low is) = other_name _ (ap (λ (v : Configuration Name). v.state) (sym is))
      (λ s h. cc)
  holds_stuck (passes_letter c ns y k over low is) = other_name _ (ap (λ (v : Configuration Name). v.state) (sym is))
      (λ s h. cc)
  holds_stuck (retraces h c hs ns y over follows is) = other_name _ (ap (λ (v : Configuration Name). v.state) (sym is))
      (λ s e. cc)
  holds_stuck (retraces_within h c e hs ns y m by over follows is) =
      other_name _ (ap (λ (v : Configuration Name). v.state) (sym is)) (λ s z. cc)

-- The lines of a run's moments: what is shown of a stage is the line of its moment, and the lines that are told.
use Rattle.std.specs.Prelude.{◌≡◌, ◌≢◌, ℕ, zero, suc, ◌+◌, ◌<◌, ◌≤◌, ◌⊎◌, ℤ, pos, negsuc, ◌+ℤ◌, ◌-ℤ◌, ◌≤ℤ◌, ◌<ℤ◌}
use Rattle.std.specs.Prelude.{List, [], ◌∷◌, ◌++◌, length, max, nat_abs, Option, Some, None, Bool, true, false, codes}
use Rattle.std.specs.Prelude.{decimal, slice_index_or, refl}
use Rattle.std.specs.Int.Signed.{pos-nat_abs}
use Rattle.std.specs.Option.{is_some}
use Rattle.std.proofs.Common.{not, arith, rules, inl, inr, sym, subst, ap, ◌∙◌, append_assoc, add-one}
use Rattle.std.proofs.lemmas.Int.{ints, by_lt_z}
use Rattle.std.proofs.lemmas.Bool.{cases_eq}
use Rattle.bn_io.specs.Told.{Grows, GrowsByFront}
use Rattle.bn_io.proofs.GivingLemmas.{grows_none}
use Rattle.bn_io.proofs.ToldLemmas.{Grows-joins}
use Rattle.bn_machine.specs.Machine.{HasNoMatch, IsFirstMatch, IsLeaving, Moment, Program, start}
use Rattle.bn_machine.specs.Tape.{Tape, cell, scanned}
use Rattle.bn_machine.specs.Window.{IsWindowed, Windowed, anywhere}
use Rattle.bn_machine.specs.declared.quint.Quint.{Quint}
use Rattle.bn_machine.specs.declared.quint.Side.{Side}
use Rattle.bn_machine.proofs.CutLemmas.{near_not_leaving}
use Rattle.bn_machine.proofs.MachineStepLemmas.{moment_after}
use Rattle.bn_table.specs.Rows.{IsTable, Named}
use Rattle.bn_base.specs.declared.limits.TheConstants.{MOST_COUNT}
use Rattle.bn_reply.specs.Lines.{line}
use Rattle.bn_reply_machines.proofs.FitLemmas.{Fits, AreSymbols, run_fits, start_fits}
use Rattle.bn_table.proofs.MachineLemmas.{table_machine}
use Rattle.bn_reply_traces.specs.Extents.{IsMarked}
use Rattle.bn_reply_traces.specs.MomentText.{IsLineAfter, IsNext, letter_text, rule_text}
use Rattle.bn_reply_traces.specs.Stages.{AreTold, AreToldInPart, IsRule, IsShowable, IsStageAfter}
use Rattle.bn_reply_traces.specs.Stages.{IsWordOf, StandsFor, shown_text, stage_line}
use Rattle.bn_reply_traces.specs.declared.stage.Stage.{Stage}
use Rattle.bn_reply_traces.proofs.ExtentLemmas.{letter_within}
use Rattle.bn_reply_traces.proofs.StageLemmas.{whole_at}

-- ---- what the table names

word_symbols : (t : Named) (word : List ℕ) → IsWordOf t word → AreSymbols t.machine word
word_symbols t word h = record { each = λ k inside. h.known k 0 inside }

pub whole_fits : (t : Named) (word : List ℕ) (n i : ℕ) (s : Stage) → IsTable t → IsWordOf t word →
    (at : IsStageAfter t word n i s) → Fits t.machine at.whole
whole_fits t word n i s table h at =
    let m = table_machine t table in
    run_fits anywhere t.machine i (start t.machine word) at.whole m
    (start_fits t.machine word m (word_symbols t word h)) at.run

-- where the first and the last cell are
pub begins_within : (w : Windowed) (word : List ℕ) (t : Tape) (p : ℤ) → IsWindowed w → StandsFor w word t → IsMarked t p
    →
    (pos 0 -ℤ pos w.left) ≤ℤ p
begins_within w word t p windowed s (inr e) =
    let low = windowed.head.above in let h : p ≡ w.tape.head = e ∙ s.head in omega (arith, ints, low, h)
begins_within w word t p windowed s (inl h) =
    by_lt_z (pos w.right) p (λ beyond. omega (arith, ints, beyond))
    (λ inside. (windowed.outside p (λ z. h (s.near p inside ∙ z))).above)

ends_on_word : (w : Windowed) (word : List ℕ) (t : Tape) (p : ℤ) → StandsFor w word t → pos w.right <ℤ p → cell t p ≢ 0
    →
    p ≤ℤ pos (length word)
ends_on_word w word t (negsuc k) s beyond h = omega (arith, ints, beyond)
ends_on_word w word t (pos zero) s beyond h = omega (arith, ints, beyond)
ends_on_word w word t (pos (suc k)) s beyond h =
    let inside : k < length word = letter_within word k (λ e. h (s.far (pos (suc k)) beyond ∙ e)) in
    omega (arith, ints, inside)

pub ends_within : (w : Windowed) (word : List ℕ) (t : Tape) (p : ℤ) → IsWindowed w → StandsFor w word t → IsMarked t p →
    p ≤ℤ pos (max w.right (length word))
ends_within w word t p windowed s (inr e) =
    let high = windowed.head.below in let h : p ≡ w.tape.head = e ∙ s.head in omega (arith, ints, high, h)
ends_within w word t p windowed s (inl h) =
    by_lt_z (pos w.right) p
    (λ beyond. let high = ends_on_word w word t p s beyond h in omega (arith, ints, high))
    (λ inside. omega (arith, ints, inside))

pub cells_below : (bound : ℕ) (w : Windowed) (word : List ℕ) (t : Tape) → IsWindowed w → StandsFor w word t →
    ((q : ℤ) → cell t q < bound) → (q : ℤ) → cell w.tape q < bound
cells_below bound w word t windowed s each q =
    by_lt_z (pos w.right) q (λ beyond. outside beyond (cases_eq (cell w.tape q) 0))
    (λ inside. subst (λ z. z < bound) (s.near q inside) (each q))
  where
    outside : pos w.right <ℤ q → (cell w.tape q ≡ 0) ⊎ (cell w.tape q ≡ 0 → ⊥) → cell w.tape q < bound
    outside beyond (inl blank) = let some = each (pos 0) in omega (arith, blank)
    outside beyond (inr letter) = let inside = (windowed.outside q letter).below in absurd
        (omega (arith, ints, beyond, inside))

pub showable : (t : Named) (word : List ℕ) (n i : ℕ) (s : Stage) → IsTable t → IsWordOf t word →
    IsStageAfter t word n i s → IsShowable t word s
showable t word n i s table h at =
    let fits = whole_fits t word n i s table h at in
    record {
      state = subst (λ z. z < t.machine.states) at.state fits.state;
      within = record {
        begins = begins_within s.tape word at.whole.tape s.extent.first at.windowed at.tape at.first.stands;
        ordered = at.first.least s.extent.last at.last.stands;
        ends = ends_within s.tape word at.whole.tape s.extent.last at.windowed at.tape at.last.stands;
      };
      cells = cells_below t.machine.symbols s.tape word at.whole.tape at.windowed at.tape fits.symbols;
    }

-- so many cells are shown
pub counted : (first last : ℤ) → first ≤ℤ last → (count : ℕ) × ((first +ℤ pos count) ≡ (last +ℤ pos 1))
counted first last low =
    let d = (last +ℤ pos 1) -ℤ first in
    let is : pos (nat_abs d) ≡ d = pos-nat_abs d (search rules) in
    (nat_abs d, omega (arith, ints, is))

-- ---- the line of a stage is that of its moment

pub scans : (t : Named) (word : List ℕ) (n i : ℕ) (s : Stage) (at : IsStageAfter t word n i s) →
    scanned at.whole.tape ≡ scanned s.tape.tape
scans t word n i s at =
    at.tape.near at.whole.tape.head (let high = at.windowed.head.below in let h = at.tape.head in omega
    (arith, ints, high, h))
    ∙ ap (cell s.tape.tape) at.tape.head

pub next_of : (p : Program) (c : Moment) (state symbol : ℕ) (rule : Option ℕ) → c.state ≡ state
    → scanned c.tape ≡ symbol →
    IsRule p state symbol rule → IsNext p c rule
next_of p c state symbol None same scan (inl final) = inl (same ∙ final)
next_of p c state symbol None same scan (inr stuck) = inr (record {
  going = λ e. stuck.0 (sym same ∙ e);
  none = subst (λ z. HasNoMatch p.quints z (scanned c.tape)) (sym same)
      (subst (HasNoMatch p.quints state) (sym scan) stuck.1);
})
next_of p c state symbol (Some n) same scan rule =
    let q : Quint = rule.1.0 in
    let first : IsFirstMatch p.quints c.state (scanned c.tape) n q =
    subst (λ z. IsFirstMatch p.quints z (scanned c.tape) n q) (sym same)
    (subst (λ z. IsFirstMatch p.quints state z n q) (sym scan) rule.1.1)
    in (
      moment_after q c,
      record {
        going = λ e. rule.0 (sym same ∙ e);
        quint = q;
        match = first;
        applies = record { from = first.holds.from; reads = first.holds.reads; writes = refl; to = refl };
        stays = tt;
      },
    )

pub line_of : (t : Named) (word : List ℕ) (n i : ℕ) (s : Stage) (rule : Option ℕ) (count : ℕ)
    (at : IsStageAfter t word n i s) → IsRule t.machine s.state (scanned s.tape.tape) rule →
    (s.extent.first +ℤ pos count) ≡ (s.extent.last +ℤ pos 1) →
    IsLineAfter t word i (stage_line t i s at.whole.tape count rule)
line_of t word n i s rule count at is many = (
  at.whole,
  at.run,
  record {
    tape = shown_text (letter_text t) at.whole.tape s.extent.first count;
    tape_is = record {
      first = s.extent.first;
      last = s.extent.last;
      count = count;
      begins = at.first;
      ends = at.last;
      counted = many;
      is = refl;
    };
    rule = rule;
    next = next_of t.machine at.whole s.state (scanned s.tape.tape) rule at.state (scans t word n i s at) is;
    is = ap (λ (z : ℕ). line (decimal i ∷ codes " " ∷ slice_index_or t.names z []
        ∷ shown_text (letter_text t) at.whole.tape s.extent.first count ∷ rule_text rule ∷ [])) (sym at.state);
  },
)

-- ---- lines that are told

pub told_none : (t : Named) (word : List ℕ) (a : Option (List ℕ)) (kept : List ℕ) → kept ≡ []
    → AreTold t word a a kept 0
told_none t word a kept is = record { given = []; grown = grows_none a; lines = is }

pub told_more : (t : Named) (word : List ℕ) (old now new : Option (List ℕ)) (kept last rest : List ℕ) (k : ℕ) →
    AreTold t word old now kept k → IsLineAfter t word k last →
    ((piece : List ℕ) × (kept ++ last ≡ piece ++ rest) × Grows now new piece) → AreTold t word old new rest (k + 1)
told_more t word old now new kept last rest k are is piece = rw add-one (record {
  given = are.given ++ piece.0;
  grown = Grows-joins old now new are.given piece.0 are.grown piece.2;
  lines = (
    are.given ++ kept,
    last,
    are.lines,
    is,
    append_assoc are.given piece.0 rest ∙ ap (λ (z : List ℕ). are.given ++ z) (sym piece.1)
        ∙ sym (append_assoc are.given kept last),
  );
})

pub told_part : (t : Named) (word : List ℕ) (n : ℕ) (old now new : Option (List ℕ)) (kept last : List ℕ) (k : ℕ) →
    k ≤ n → AreTold t word old now kept k → IsLineAfter t word k last → GrowsByFront now new (kept ++ last) →
    AreToldInPart t word n old new
told_part t word n old now new kept last k few are is grows = record {
  number = suc k;
  few = omega arith;
  text = are.given ++ (kept ++ last);
  lines = (are.given ++ kept, last, are.lines, is, sym (append_assoc are.given kept last));
  grown = (
    are.given ++ grows.0,
    grows.1,
    ap (λ (z : List ℕ). are.given ++ z) grows.2 ∙ sym (append_assoc are.given grows.0 grows.1),
    Grows-joins old now new are.given grows.0 are.grown grows.3,
  );
}

-- no head leaves its window
pub stays_inside : (t : Named) (word : List ℕ) (n i : ℕ) (s : Stage) → n ≤ MOST_COUNT → i ≤ n →
    IsStageAfter t word n i s → (side : Side) → IsLeaving t.machine s.state s.tape side → ⊥
stays_inside t word n i s few early at side leaving =
    let h = whole_at t word n i s.state s.tape few early at.reached in
    near_not_leaving t.machine s.state s.tape side i h.near h.left_room h.right_room leaving

-- ---- one moment is told

module _ (t : Named) (word : List ℕ) (n i : ℕ) (s : Stage) (at : IsStageAfter t word n i s)
    (old now new : Option (List ℕ)) (kept : List ℕ) (told : AreTold t word old now kept i) where
  many : (count : ℕ) × ((s.extent.first +ℤ pos count) ≡ (s.extent.last +ℤ pos 1))
  many = counted s.extent.first s.extent.last (at.first.least s.extent.last at.last.stands)

  pub moment_told : (rest : List ℕ) (rule : Option ℕ) → IsRule t.machine s.state (scanned s.tape.tape) rule →
      ((u : Tape) (count : ℕ) → StandsFor s.tape word u → (s.extent.first +ℤ pos count) ≡ (s.extent.last +ℤ pos 1) →
      (piece : List ℕ) × (kept ++ stage_line t i s u count rule ≡ piece ++ rest) × Grows now new piece) →
      AreTold t word old new rest (i + 1)
  moment_told rest rule is tells =
      told_more t word old now new kept (stage_line t i s at.whole.tape many.0 rule) rest i told
      (line_of t word n i s rule many.0 at is many.1) (tells at.whole.tape many.0 at.tape many.1)

  pub moment_cut : i ≤ n →
      ((u : Tape) (count : ℕ) → StandsFor s.tape word u → (s.extent.first +ℤ pos count) ≡ (s.extent.last +ℤ pos 1) →
      (rule : Option ℕ) × IsRule t.machine s.state (scanned s.tape.tape) rule
      × GrowsByFront now new (kept ++ stage_line t i s u count rule)) →
      AreToldInPart t word n old new
  moment_cut early tells =
      let cut = tells at.whole.tape many.0 at.tape many.1 in
      told_part t word n old now new kept (stage_line t i s at.whole.tape many.0 cut.0) i early told
      (line_of t word n i s cut.0 many.0 at cut.1 many.1) cut.2

-- no rule comes next
pub none_of : (rule : Option ℕ) (is_none : Bool) → is_some rule ≡ not is_none → is_none ≡ true → rule ≡ None
none_of None is_none is none = refl
none_of (Some n) true is none = absurd (cc)
none_of (Some n) false is none = absurd (cc)

-- or one does
pub some_of : (p : Program) (state symbol : ℕ) (rule : Option ℕ) (is_none : Bool) → is_some rule ≡ not is_none →
    is_none ≡ false → IsRule p state symbol rule → (n : ℕ) × IsRule p state symbol (Some n)
some_of p state symbol None true is lettered rule = absurd (cc)
some_of p state symbol None false is lettered rule = absurd (cc)
some_of p state symbol (Some n) is_none is lettered rule = (n, rule)

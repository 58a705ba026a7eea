-- The two least machines in a window.
use Rattle.std.specs.Prelude.{◌≡◌, ℕ, zero, suc, ◌<◌, ℤ, pos, [], Some}
use Rattle.std.proofs.Common.{refl, sym, ap, ◌∙◌, subst, arith}
use Rattle.std.proofs.lemmas.Int.{ints}
use Rattle.bn_machine.specs.Tape.{Tape, scanned, write, shift, blank_tape}
use Rattle.bn_machine.proofs.TapeLemmas.{write-scanned, cell-word}
use Rattle.bn_machine.specs.Window.{IsBetween, within}
use Rattle.bn_machine.specs.Machine.{MachineRunsTo, start}
use Rattle.bn_lists.specs.Lists.{nth}
use Rattle.bn_machine.specs.Run.{IsOutput}
use Rattle.bn_machine.specs.declared.quint.Quint.{Quint}
use Rattle.bn_machine.specs.declared.quint.Shift.TheVariants.{Stay, Right}
use Rattle.bn_bennett_laws.specs.Laws.{least}
use Rattle.bn_erase_laws.proofs.LeastLemmas.{least_erases}
use Rattle.bn_erase_laws.specs.EraseWindows.{HaltsRightOfStart}
use Rattle.bn_erase_laws.specs.EraseWindowLaws.{LeastErasesIn}
use Rattle.bn_erase_laws.proofs.WindowEraseLemmas.{erases-in_windows}
use Rattle.bn_erase_laws.proofs.WindowHaltLemmas.{steps-give}

abbrev one : Quint
one = record { state = 0; read = 0; write = 0; shift = Right; next = 1 }

abbrev two : Quint
two = record { state = 1; read = 0; write = 0; shift = Stay; next = 2 }

-- its two quintuples
at_place : (P : ℕ → Quint → Type 0) → P 1 one → P 2 two → (n : ℕ) (q : Quint) → nth least.quints n ≡ Some q → P n q
at_place P a b zero q e = absurd (cc)
at_place P a b (suc zero) q e = let same : one ≡ q = cc in subst (P 1) same a
at_place P a b (suc (suc zero)) q e = let same : two ≡ q = cc in subst (P 2) same b
at_place P a b (suc (suc (suc n))) q e = absurd (cc)

-- the blank tape with its head at 1
abbrev moved_tape : Tape
moved_tape = shift (write blank_tape 0) Right

scans_blank : scanned moved_tape ≡ 0
scans_blank = ap (λ (t : Tape). scanned (shift t Right)) (write-scanned blank_tape 0 (cell-word [] (pos 0)))
    ∙ cell-word [] (pos 1)

cell_one : (p : ℤ) → p ≡ pos 1 → IsBetween 0 1 p
cell_one p is = record { above = omega (arith, ints); below = omega (arith, ints) }

first_step : MachineRunsTo (within 0 1) least (start least []) (record { state = 1; tape = moved_tape })
first_step = (
  1,
  record {
    going = λ e. absurd (omega arith);
    quint = one;
    match = record {
      stands = refl;
      holds = record { from = refl; reads = cell-word [] (pos 0) };
      first = λ m r low e h.
          at_place (λ n q. n < 1 → ⊥) (λ k. absurd (omega arith)) (λ k. absurd (omega arith)) m r e low;
    };
    applies = record { from = refl; reads = cell-word [] (pos 0); writes = refl; to = refl };
    stays = cell_one moved_tape.head (omega (arith, ints));
  },
)

second_step : MachineRunsTo (within 0 1) least (record { state = 1; tape = moved_tape })
    (record { state = 2; tape = shift (write moved_tape 0) Stay })
second_step = (
  2,
  record {
    going = λ e. absurd (omega arith);
    quint = two;
    match = record {
      stands = refl;
      holds = record { from = refl; reads = scans_blank };
      first = λ m r low e h. at_place
          (λ n q. n < 2 → 1 ≡ q.state → ⊥) (λ k same. absurd (omega arith)) (λ k same. absurd (omega arith)) m r e low
          h.from;
    };
    applies = record { from = refl; reads = scans_blank; writes = refl; to = refl };
    stays = cell_one moved_tape.head (omega (arith, ints));
  },
)

last_tape : shift (write moved_tape 0) Stay ≡ shift blank_tape Right
last_tape = ap (λ (t : Tape). shift t Stay) (write-scanned moved_tape 0 scans_blank)
    ∙ ap (λ (t : Tape). shift t Right) (write-scanned blank_tape 0 (cell-word [] (pos 0)))

no_output : IsOutput (shift blank_tape Right) []
no_output = record {
  letters = λ k low. absurd (omega arith);
  spelled = λ k low. absurd (omega arith);
  ended = cell-word [] (pos 2);
}

least_right : HaltsRightOfStart least [] 2 []
least_right = record {
  right = 1;
  moment = record { state = 2; tape = shift (write moved_tape 0) Stay };
  run = (
    record { state = 1; tape = moved_tape },
    first_step,
    (record { state = 2; tape = shift (write moved_tape 0) Stay }, second_step, refl),
  );
  final = refl;
  output = subst (λ t. IsOutput t []) (sym last_tape) no_output;
}

pub least-erases_in : LeastErasesIn
least-erases_in =
    let both = steps-give least least [] [] 2 2 least_erases.1 least_right in (
      both,
      (erases-in_windows least least [] (record { left = 2; right = 3; steps = 2; output = 3 }) least_erases.0
          least_erases.0 refl (λ k d low. absurd (omega arith)) (λ k d low. absurd (omega arith))).0 2 2 [] both,
    )

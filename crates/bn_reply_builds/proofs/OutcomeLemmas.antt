-- By which exit a board was left is by which exit its layout calls it.
use Rattle.std.specs.Prelude.{◌≡◌, ◌≢◌, ℕ, ◌+◌, ◌-◌, ◌<◌, ◌≤◌, List, [], Some, slice_get, refl}
use Rattle.std.proofs.Common.{arith, sym, ap, subst, ◌∙◌}
use Rattle.bn_circuits.specs.declared.place.Place.{Place}
use Rattle.bn_circuits.specs.declared.place.Place.TheVariants.{Enter, Left}
use Rattle.bn_element.specs.Rotary.{west}
use Rattle.bn_machine.specs.Tape.{scanned}
use Rattle.bn_machine.specs.declared.quint.Side.{Side}
use Rattle.bn_machine.specs.declared.quint.Shift.TheVariants.{Stay}
use Rattle.bn_quad.specs.Quadruples.{Configuration, Move, Rule}
use Rattle.bn_bennett_laws.specs.Steps.{Exit, Stopped}
use Rattle.bn_realise.specs.Banks.{column_at}
use Rattle.bn_network.specs.declared.cell_line.CellLine.TheVariants.{Read}
use Rattle.bn_network.specs.Controls.{ControlMove, End, IsEntry, IsNotLeft, Reads, Tape as to_tape, finishes, leaves}
use Rattle.bn_network.specs.Controls.{lines_before, symbol_count, waits}
use Rattle.bn_network.specs.Starts.{FitsWindow}
use Rattle.bn_boards.proofs.NetworkReadLemmas.{networks-read}
use Rattle.bn_boards.specs.declared.exit.Exit.{Exit as ByExit}
use Rattle.bn_boards.specs.declared.exit.Exit.TheVariants as exit
use Rattle.bn_boards.specs.declared.spelled.Spelled.{Spelled}
use Rattle.bn_boards.specs.Layouts.{IsExit, IsNamedExit, Layout, ends, inside, left, lines_at, named, right}
use Rattle.bn_boards.specs.Layouts.{spelled_by, stuck, symbol_count_at, unnamed}
use Rattle.bn_boards.specs.Builds.{Build, IsBuild}
use Rattle.bn_boards.specs.Exits.{BoardLeaves, by_end, by_read, by_wait, by_window}
use Rattle.bn_boards.proofs.StartingLemmas.{no_letters as none_low}
use Rattle.bn_reply_builds.specs.declared.outcome.Outcome.TheVariants as outcome
use Rattle.bn_reply_builds.specs.Outcomes.{outcome_by}
use Rattle.bn_reply_builds.specs.Stopping.{IsLeftAtRead}
use Rattle.bn_boards.proofs.ExitLemmas.{IsApart, named_east, named_once}

-- ---- a loose line of the control

record StuckAt (b : Layout) (p : Place) (a c : ℕ) : Type 0 where
  column : ℕ
  tape : ℕ
  kept : slice_get b.awaited column ≡ Some (Some (a, tape))
  line : p ≡ Left (column_at 0 (lines_at b) column + (lines_before b.symbols (tape - 1) + c)) west

stuck_at : (b : Layout) (p : Place) (x : ByExit) → IsNamedExit b p x → (a c : ℕ) → x ≡ exit.Stuck a c → StuckAt b p a c
stuck_at b p x (inside e l is) a c same = absurd (let h : exit.Inside ≡ exit.Stuck a c = same in cc)
stuck_at b p x (ends is) a c same = absurd (let h : exit.End ≡ exit.Stuck a c = same in cc)
stuck_at b p x (right t low high is) a c same = absurd (let h : exit.Window t _ ≡ exit.Stuck a c = same in cc)
stuck_at b p x (left t low high is) a c same = absurd (let h : exit.Window t _ ≡ exit.Stuck a c = same in cc)
stuck_at b p x (stuck q s t v kept low is) a c same =
    let state : s ≡ a = (let h : exit.Stuck s v ≡ exit.Stuck a c = same in cc) in
    let symbol : v ≡ c = (let h : exit.Stuck s v ≡ exit.Stuck a c = same in cc) in
    record {
      column = q;
      tape = t;
      kept = subst (λ n. slice_get b.awaited q ≡ Some (Some (n, t))) state kept;
      line = subst (λ n. p ≡ Left (column_at 0 (lines_at b) q + (lines_before b.symbols (t - 1) + n)) west) symbol is;
    }

-- any quadruple
any_rule : Rule ℕ
any_rule = record { from = 0; one = Move Stay; two = Move Stay; three = Move Stay; to = 0 }

module _ (f : Build) (is : IsBuild f) where
  some_letters : (t : ℕ) → 0 < t → t ≤ 3 → 0 < symbol_count_at f.layout t
  some_letters t low high =
      let read = networks-read f.machine f.limits [] f.names f.network f.layout is.is_network is.is_layout
      (none_low (symbol_count f.machine 1)) in
      subst (λ z. 0 < z) (sym (read.1.letters_are t)) (is.is_network.symbols t (record { low = low; high = high }))

  -- a state that no quadruple leaves awaits tape 1
  awaits_tape_1 : (a t : ℕ) → IsEntry f.machine a (Reads a [], to_tape t Read) → IsNotLeft f.machine a → t ≡ 1
  awaits_tape_1 a t (finishes final same) none =
      absurd (let states : Reads a [] ≡ End = ap (λ (k : ControlMove). k.0) same in cc)
  awaits_tape_1 a t (leaves n r stands from first) none = absurd (none.none n r stands from)
  awaits_tape_1 a t (waits other low unleft same) none = let lines : to_tape t Read ≡ to_tape 1 Read =
      ap (λ (k : ControlMove). k.1) same in cc

  module _ (p : Place) (states : List ℕ) (d : Configuration ℕ) (e : Exit) (x : ByExit) (called : IsExit f.layout p x)
    where
      -- an exit apart from others is the one that is called
      calls : (y : ByExit) → IsApart f.layout some_letters y → IsNamedExit f.layout p y → x ≡ y
      calls y apart by = called_as called
        where
          called_as : IsExit f.layout p x → x ≡ y
          called_as (named other) = named_once f.layout some_letters p y x apart by other
          called_as (unnamed same none) = absurd (none y by)

      -- and the one that is called, where it is such, is it
      is_named : (y : ByExit) → IsApart f.layout some_letters y → x ≡ y → IsNamedExit f.layout p y
      is_named y apart same = called_so called
        where
          called_so : IsExit f.layout p x → IsNamedExit f.layout p y
          called_so (named by) = subst (IsNamedExit f.layout p) same by
          called_so (unnamed other none) = absurd (not_unnamed y apart (sym other ∙ same))
            where
              not_unnamed : (y : ByExit) → IsApart f.layout some_letters y → exit.Unnamed ≡ y → ⊥
              not_unnamed exit.End apart h = let both : exit.Unnamed ≡ exit.End = h in cc
              not_unnamed (exit.Window t s) apart h = let both : exit.Unnamed ≡ exit.Window t s = h in cc
              not_unnamed exit.Inside apart h = apart
              not_unnamed (exit.Stuck a c) apart h = apart
              not_unnamed exit.Unnamed apart h = apart

      -- at a west side there is no such exit
      west_apart : (y : ByExit) → IsApart f.layout some_letters y → x ≡ y → (n : ℕ) → p ≡ Left n west → ⊥
      west_apart y apart same n at = named_east f.layout some_letters p y n apart (is_named y apart same) at

      stuck_west : (a c : ℕ) → IsNamedExit f.layout p (exit.Stuck a c) → (n : ℕ) × (p ≡ Left n west)
      stuck_west a c by = (_, (stuck_at f.layout p _ by a c refl).line)

      pub at_end : x ≡ exit.End → BoardLeaves f p states d e → outcome.End ≡ outcome_by d e
      at_end same (by_end why by spelled) = ap (outcome_by d) (sym why)
      at_end same (by_read t stop why line spelled) = absurd (west_apart exit.End tt same _ line.line)
      at_end same (by_wait none why by spelled) =
          absurd (let at = stuck_west _ _ by in west_apart exit.End tt same at.0 at.1)
      at_end same (by_window t side c step why by spelled) =
          absurd (let h : exit.End ≡ exit.Window t side = sym same ∙ calls (exit.Window t side) tt by in cc)

      pub at_window : (t : ℕ) (s : Side) → x ≡ exit.Window t s → BoardLeaves f p states d e
          → outcome.Window t s ≡ outcome_by d e
      at_window t s same (by_end why by spelled) =
          absurd (let h : exit.Window t s ≡ exit.End = sym same ∙ calls exit.End tt by in cc)
      at_window t s same (by_read u stop why line spelled) = absurd (west_apart (exit.Window t s) tt same _ line.line)
      at_window t s same (by_wait none why by spelled) =
          absurd (let at = stuck_west _ _ by in west_apart (exit.Window t s) tt same at.0 at.1)
      at_window t s same (by_window u side c step why by spelled) =
          let h : exit.Window t s ≡ exit.Window u side = sym same ∙ calls (exit.Window u side) tt by in
          let tapes : t ≡ u = cc in
          let ways : s ≡ side = cc in
          (λ i. outcome.Window (tapes i) (ways i)) ∙ ap (outcome_by d) (sym why)

      module _ (element line : ℕ) (place : p ≡ Left element line) (shown : Spelled)
          (spells : shown ≡ spelled_by f.layout states)
          (fits : FitsWindow f.machine f.limits d) where
        by_element : (n : ℕ) → p ≡ Left n west → element ≡ n
        by_element n at = let both : Left element line ≡ Left n west = sym place ∙ at in cc

        -- where the layout calls no end and no window the machine is stuck at a read
        pub at_stop : x ≢ exit.End → ((t : ℕ) (s : Side) → x ≢ exit.Window t s) → BoardLeaves f p states d e
            → (e ≡ Stopped) × IsLeftAtRead f element shown d
        at_stop no_end no_window (by_end why by spelled) = absurd (no_end (calls exit.End tt by))
        at_stop no_end no_window (by_window t side c step why by spelled) =
            absurd (no_window t side (calls (exit.Window t side) tt by))
        at_stop no_end no_window (by_read t stop why at spelled) = (
          why,
          record {
            tape = t;
            is_tape = stop.tape;
            rule = stop.rule;
            column = at.column;
            named = at.named;
            line = by_element _ at.line;
            begun = λ _. record { number = stop.number; stands = stop.stands; from = stop.from; before = stop.before };
            spells = spells ∙ spelled;
            fits = fits;
          },
        )
        at_stop no_end no_window (by_wait none why by spelled) =
            let at = stuck_at f.layout p _ by d.state (scanned d.one) refl in
            let entry = (is.is_layout.awaiting at.column d.state at.tape).0 at.kept in
            let first = awaits_tape_1 d.state at.tape entry.1 none in (
              why,
              record {
                tape = 1;
                is_tape = record { low = omega arith; high = omega arith };
                rule = any_rule;
                column = at.column;
                named = entry.0;
                line =
                    subst (λ t. element ≡ column_at 0 (lines_at f.layout) at.column +
                    (lines_before f.layout.symbols (t - 1) + scanned d.one)) first
                    (by_element _ at.line);
                begun = λ later. absurd (omega arith);
                spells = spells ∙ spelled;
                fits = fits;
              },
            )

-- ---- what has left is not inside

not_entered : (b : Layout) (p : Place) (x : ByExit) → IsNamedExit b p x → x ≢ exit.Inside → (m k : ℕ) → p ≡ Enter m k
    → ⊥
not_entered b p x (inside e l is) other m k at = other refl
not_entered b p x (ends is) other m k at = let both : Left _ _ ≡ Enter m k = sym is ∙ at in cc
not_entered b p x (stuck q a t c kept low is) other m k at = let both : Left _ _ ≡ Enter m k = sym is ∙ at in cc
not_entered b p x (right t low high is) other m k at = let both : Left _ _ ≡ Enter m k = sym is ∙ at in cc
not_entered b p x (left t low high is) other m k at = let both : Left _ _ ≡ Enter m k = sym is ∙ at in cc

pub not_inside : (f : Build) (p : Place) (states : List ℕ) (d : Configuration ℕ) (e : Exit)
    → BoardLeaves f p states d e → (m k : ℕ) → p ≡ Enter m k → ⊥
not_inside f p states d e (by_end why by spelled) m k at = not_entered f.layout p exit.End by (λ h. cc) m k at
not_inside f p states d e (by_read t stop why line spelled) m k at = let both : Left _ _ ≡ Enter m k = sym line.line
    ∙ at in cc
not_inside f p states d e (by_wait none why by spelled) m k at = not_entered f.layout p _ by (λ h. cc) m k at
not_inside f p states d e (by_window t side c step why by spelled) m k at = not_entered f.layout p _ by (λ h. cc) m k at

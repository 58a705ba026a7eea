-- The run of the machine of k increments on 1011, walked through on a list of cells.
use Rattle.std.specs.Prelude.{◌≡◌, ℕ, ◌+◌, ◌*◌, ◌<◌, ◌&&◌, pos, ◌+ℤ◌, List, [], ◌∷◌, ◌++◌, length, Option, Some, None}
use Rattle.std.specs.Prelude.{Bool, true, false, if◌then◌else◌, slice_get, position, unwrap_or, replicate, refl}
use Rattle.std.specs.List.{list_all}
use Rattle.std.specs.Option.{option_and_then}
use Rattle.std.proofs.lemmas.List.Sums.{AllPass-from_list_all}
use Rattle.std.proofs.lemmas.Option.{option_and_then_some}
use Rattle.std.proofs.Common.{zero, suc, arith, sym, ap, subst, ◌∙◌, get_or, set, eqb, ltb, inl}
use Rattle.std.proofs.lemmas.Bool.{and_parts, eqb-true, ltb-true}
use Rattle.std.proofs.lemmas.Int.{ints}
use Rattle.std.proofs.lemmas.List.{get_or_append_left}
use Rattle.bn_lists.specs.Runs.{Reaches}
use Rattle.bn_machine.specs.Tape.{cells_from, moved, scanned}
use Rattle.bn_machine.specs.Window.{within}
use Rattle.bn_machine.specs.Machine.{Program, Moment, Matches, MachineRunsTo, start, final_of}
use Rattle.bn_machine.specs.Run.{IsOutput}
use Rattle.bn_machine.specs.Outcome.{Halted, HasOutcome, halts, copied}
use Rattle.bn_machine.specs.declared.quint.Quint.{Quint}
use Rattle.bn_machine.specs.declared.quint.Shift.{Shift}
use Rattle.bn_machine.specs.declared.quint.Shift.TheVariants.{Left, Stay, Right}
use Rattle.bn_machine.proofs.TapeLemmas.{symbol_at-cells_from, cells_from-set, cells_from-blanks, cells_from-trailing}
use Rattle.bn_machine.specs.Standard.{IsStandard}
use Rattle.bn_gen.specs.Increments.{IsRoundCount, incrementer, quints_of, final}
use Rattle.bn_gen.proofs.MachineLemmas.{standard}
use Rattle.bn_reply_boards.specs.GenerateReply.{window}
use Rattle.bn_headline.specs.Generated.{binary}
use Rattle.bn_gen.proofs.Cases.{by_cases}

-- a state, and the cells from 0 on with the head at one of them
record Spot : Type 0 where
  state : ℕ
  at : ℕ
  cells : List ℕ

abbrev moment_of : Spot → Moment
moment_of s = record { state = s.state; tape = record { cells = cells_from (pos 0) s.cells; head = pos s.at } }

-- ---- one step

abbrev is_match : ℕ → ℕ → Quint → Bool
is_match state symbol q = eqb q.state state && eqb q.read symbol

abbrev symbol_in : Spot → ℕ
symbol_in s = get_or s.cells s.at 0

-- the place one shift away
abbrev place_by : ℕ → Shift → Option ℕ
place_by zero Left = None
place_by (suc at) Left = Some at
place_by at Stay = Some at
place_by at Right = Some (suc at)

abbrev tests : ℕ → Spot → Quint → ℕ → Bool
tests right s q at = is_match s.state (symbol_in s) q && (ltb s.at (length s.cells) && ltb at (suc right))

abbrev put : Spot → Quint → ℕ → Spot
put s q at = record { state = q.next; at = at; cells = set s.cells s.at q.write }

-- where this quintuple leads
abbrev next_at : ℕ → Spot → Quint → ℕ → Option Spot
next_at right s q at = if tests right s q at then Some (put s q at) else None

abbrev next_by : ℕ → Spot → Option Quint → Option Spot
next_by right s None = None
next_by right s (Some q) = option_and_then (next_at right s q) (place_by s.at q.shift)

-- the number of a quintuple that matches, from 0
abbrev number_in : List Quint → Spot → ℕ
number_in qs s = unwrap_or (position (is_match s.state (symbol_in s)) qs) 0

abbrev next_in : List Quint → ℕ → Spot → Option Spot
next_in qs right s = next_by right s (slice_get qs (number_in qs s))

abbrev walk : List Quint → ℕ → ℕ → Spot → Option Spot
walk qs right zero s = Some s
walk qs right (suc n) s = option_and_then (walk qs right n) (next_in qs right s)

-- ---- it is the machine's

place_moved : (at to : ℕ) (shift : Shift) → place_by at shift ≡ Some to → pos to ≡ moved (pos at) shift
place_moved zero to Left e = absurd (cc)
place_moved (suc at) to Left e = let same : at ≡ to = cc in omega (arith, ints)
place_moved at to Stay e = let same : at ≡ to = cc in ap pos (sym same)
place_moved at to Right e = let same : suc at ≡ to = cc in omega (arith, ints)

passed : (right : ℕ) (s e : Spot) (q : Quint) (at : ℕ) → next_at right s q at ≡ Some e
    → (tests right s q at ≡ true) × (put s q at ≡ e)
passed right s e q at h = by (tests right s q at) refl h
  where
    by : (b : Bool) → tests right s q at ≡ b → (if b then Some (put s q at) else None) ≡ Some e
        → (tests right s q at ≡ true) × (put s q at ≡ e)
    by true is h = (is, cc)
    by false is h = absurd (cc)

module _ (p : Program) (standard : IsStandard p.quints) (right : ℕ) where
  goes_by : (s : Spot) (i : ℕ) (q : Quint) (at : ℕ) → slice_get p.quints i ≡ Some q → place_by s.at q.shift ≡ Some at
      → tests right s q at ≡ true →
      MachineRunsTo (within 0 right) p (moment_of s) (moment_of (put s q at))
  goes_by s i q at stands place test =
      let parts = and_parts (is_match s.state (symbol_in s) q) (ltb s.at (length s.cells) && ltb at (suc right)) test in
      let match = and_parts (eqb q.state s.state) (eqb q.read (symbol_in s)) parts.0 in
      let low = and_parts (ltb s.at (length s.cells)) (ltb at (suc right)) parts.1 in
      let state : q.state ≡ s.state = eqb-true q.state s.state match.0 in
      let read : q.read ≡ symbol_in s = eqb-true q.read (symbol_in s) match.1 in
      let inside : s.at < length s.cells = ltb-true s.at (length s.cells) low.0 in
      let within_right : at < suc right = ltb-true at (suc right) low.1 in
      let there : pos s.at ≡ pos 0 +ℤ pos s.at = omega (arith, ints) in
      let scans : scanned (moment_of s).tape ≡ symbol_in s = symbol_at-cells_from s.cells (pos 0) s.at (pos s.at) there
      in
      let matches : Matches q s.state (scanned (moment_of s).tape) =
      record { from = sym state; reads = scans ∙ sym read } in
      let cells = cells_from-set s.cells (pos 0) s.at q.write (pos s.at) inside there in
      let head = place_moved s.at at q.shift place in (
        suc i,
        record {
          going = λ is. standard.lone_final.none (suc i) (record {
            quint = q;
            stands = stands;
            names = inl (state ∙ is);
          });
          quint = q;
          match = record {
            stands = stands;
            holds = matches;
            first = λ m r below at_m other. standard.unambiguous.none m (suc i) (record {
              first = r;
              second = q;
              first_stands = at_m;
              second_stands = stands;
              clashes = record {
                before = below;
                state = sym other.from ∙ sym state;
                read = sym other.reads ∙ (scans ∙ sym read);
              };
            });
          };
          applies = record {
            from = sym state;
            reads = scans ∙ sym read;
            writes = λ j. record { cells = cells j; head = head j };
            to = refl;
          };
          stays = record { above = omega (arith, ints); below = omega (arith, ints) };
        },
      )

  next_goes : (s e : Spot) → next_in p.quints right s ≡ Some e
      → MachineRunsTo (within 0 right) p (moment_of s) (moment_of e)
  next_goes s e h = by (slice_get p.quints (number_in p.quints s)) refl h
    where
      by : (o : Option Quint) → slice_get p.quints (number_in p.quints s) ≡ o → next_by right s o ≡ Some e
          → MachineRunsTo (within 0 right) p (moment_of s) (moment_of e)
      by None is h = absurd (cc)
      by (Some q) is h = option_and_then_some (next_at right s q) (place_by s.at q.shift) e h
          (λ at place next.
          let done = passed right s e q at next in
          subst (λ (x : Spot). MachineRunsTo (within 0 right) p (moment_of s) (moment_of x)) done.1
          (goes_by s (number_in p.quints s) q at is place done.0))

  walk_reaches : (n : ℕ) (s e : Spot) → walk p.quints right n s ≡ Some e
      → Reaches (MachineRunsTo (within 0 right) p) n (moment_of s) (moment_of e)
  walk_reaches zero s e h = let same : s ≡ e = cc in ap moment_of same
  walk_reaches (suc n) s e h = option_and_then_some (walk p.quints right n) (next_in p.quints right s) e h
      (λ m next rest. (moment_of m, next_goes s m next, walk_reaches n m e rest))

-- ---- the run of k increments

abbrev first_spot : Spot
first_spot = record { state = 0; at = 0; cells = replicate 1 0 ++ (binary 11 ++ replicate 1 0) }

abbrev last_spot : ℕ → Spot
last_spot k = record { state = final k; at = 0; cells = 0 ∷ (binary (11 + k) ++ (0 ∷ [])) }

walked : (k : ℕ) → IsRoundCount k → walk (quints_of k) 5 (10 * k + 1) first_spot ≡ Some (last_spot k)
walked = by_cases (λ k. walk (quints_of k) 5 (10 * k + 1) first_spot ≡ Some (last_spot k)) refl refl refl refl

ends : (k : ℕ) → IsRoundCount k → final k ≡ final_of (quints_of k)
ends = by_cases (λ k. final k ≡ final_of (quints_of k)) refl refl refl refl

digits_of : (k : ℕ) → IsRoundCount k → list_all (λ d. ltb 0 d) (binary (11 + k)) ≡ true
digits_of = by_cases (λ k. list_all (λ d. ltb 0 d) (binary (11 + k)) ≡ true) refl refl refl refl

begins : (k : ℕ) → moment_of first_spot ≡ start (incrementer k) (binary 11)
begins k = λ i. record { state = 0; tape = record { cells = same i; head = pos 0 } }
  where
    same : cells_from (pos 0) (replicate 1 0 ++ (binary 11 ++ replicate 1 0)) ≡ cells_from (pos 1) (binary 11)
    same = cells_from-blanks 1 (pos 0) (binary 11 ++ replicate 1 0) (pos 1) refl
        ∙ cells_from-trailing (binary 11) (pos 1) 1

output_at : (k : ℕ) → IsRoundCount k → IsOutput (moment_of (last_spot k)).tape (binary (11 + k))
output_at k h = record {
  letters = λ j low none.
      let some : 0 < get_or (binary (11 + k)) j 0 = ltb-true 0 (get_or (binary (11 + k)) j 0)
      (AllPass-from_list_all (λ d. ltb 0 d) (binary (11 + k)) (digits_of k h) j 0 low) in
      omega (arith, some, none);
  spelled = λ j low.
      let there : pos 0 +ℤ pos (suc j) ≡ pos 0 +ℤ pos (suc j) = refl in
      symbol_at-cells_from (last_spot k).cells (pos 0) (suc j) (pos 0 +ℤ pos (suc j)) there
      ∙ get_or_append_left (binary (11 + k)) (0 ∷ []) 0 j low;
  ended = symbol_at-cells_from (last_spot k).cells (pos 0) 5 (pos 0 +ℤ pos 5) refl;
}

pub increments-halt : (k : ℕ) → IsRoundCount k → HasOutcome (incrementer k) (binary 11) (window k) (10 * k + 1)
    (Halted (binary (11 + k)))
increments-halt k h = record {
  moment = moment_of (last_spot k);
  run = subst (λ (m : Moment). Reaches (MachineRunsTo (within 0 5) (incrementer k)) (10 * k + 1) m
      (moment_of (last_spot k))) (begins k)
      (walk_reaches (incrementer k) (standard k h) 5 (10 * k + 1) first_spot (last_spot k) (walked k h));
  in_time = omega arith;
  ends = halts (binary (11 + k)) (ends k h) (output_at k h)
      (copied (λ j low high. record { work = omega (arith, ints); output = high }) refl);
}

-- Moves as they are gathered: one more, and why none is out of range.
use Rattle.std.specs.Prelude.{◌≡◌, ℕ, ◌+◌, ◌-◌, ◌<◌, ◌≤◌, max, true, List, [], ◌∷◌, ◌++◌, Some, None, slice_get, All}
use Rattle.std.specs.Prelude.{refl}
use Rattle.std.proofs.Common.{zero, suc, sym, ap, subst, ◌∙◌, arith}
use Rattle.std.proofs.lemmas.List.Elements.{All-append, All-cons}
use Rattle.std.proofs.lemmas.Bool.Decides.{nat_tests}
use Rattle.bn_rsm.specs.Faults as moves
use Rattle.bn_rsm.specs.Faults.{out_of_range, clash, is_within}
use Rattle.bn_rsm.specs.declared.rsm_move.RsmMove.{RsmMove}
use Rattle.bn_rsm.specs.declared.refusal.RsmRefusal.TheVariants as refused
use Rattle.bn_base.specs.declared.limits.TheConstants.{MOST_COUNT}
use Rattle.bn_rsm.specs.Draft.{IsDraft}
use Rattle.bn_rsm.specs.Entry.{IsMove, states_named, lines_named}
use Rattle.bn_rsm.specs.declared.draft.Draft.{Draft}

-- one move more
pub states-push : (ms : List RsmMove) (m : RsmMove) → states_named (ms ++ m ∷ [])
    ≡ max (max (states_named ms) (m.state + 1)) (m.next + 1)
states-push [] m = omega arith
states-push (x ∷ ms) m = let rest = states-push ms m in omega arith

pub lines-push : (ms : List RsmMove) (m : RsmMove) → lines_named (ms ++ m ∷ [])
    ≡ max (max (lines_named ms) (m.line + 1)) (m.out + 1)
lines-push [] m = omega arith
lines-push (x ∷ ms) m = let rest = lines-push ms m in omega arith

-- the numbers of a move that stands among others are below what they name
record IsNamed (s k : ℕ) (m : RsmMove) : Type 0 where
  state : m.state < s
  line : m.line < k
  next : m.next < s
  out : m.out < k

named_at : (ms : List RsmMove) (n : ℕ) (m : RsmMove) → slice_get ms n ≡ Some m
    → IsNamed (states_named ms) (lines_named ms) m
named_at [] n m e = cc e
named_at (x ∷ ms) zero m e =
    let same : x ≡ m = cc in
    rw (← same) (record { state = omega arith; line = omega arith; next = omega arith; out = omega arith })
named_at (x ∷ ms) (suc n) m e =
    let rest = named_at ms n m e in
    record {
      state = omega (arith, rest.state);
      line = omega (arith, rest.line);
      next = omega (arith, rest.next);
      out = omega (arith, rest.out);
    }

is_within_by : (s k : ℕ) (m : RsmMove) → IsNamed s k m → is_within s k m ≡ true
is_within_by s k m h = test h.state h.line h.next h.out
  where
    test : m.state < s → m.line < k → m.next < s → m.out < k → is_within s k m ≡ true
    test a b c d = grind (arith, nat_tests)

no_clash_there : (from to : _) → clash from to ≡ Some out_of_range → ⊥
no_clash_there (Some i) to e = cc
no_clash_there None (Some i) e = cc
no_clash_there None None e = cc

-- no move is out of the range of what all name
pub never_outside : (ms : List RsmMove) (j : ℕ) → moves.IsMoveRefusal (states_named ms) (lines_named ms) ms
    (refused.Range j) → ⊥
never_outside ms j h =
    let named = is_within_by (states_named ms) (lines_named ms) h.faulty (named_at ms (j - 1) h.faulty h.stands) in
    no_clash_there _ _ (rw named at h.here)

-- where few states and lines are named, each move may stand in an entry
pub all_moves : (ms : List RsmMove) → states_named ms ≤ MOST_COUNT → lines_named ms ≤ MOST_COUNT → All IsMove ms
all_moves [] s k = λ i d l. absurd (omega arith)
all_moves (m ∷ ms) s k =
    let first : IsMove m = record { state = omega arith; line = omega arith; next = omega arith; out = omega arith } in
    All-cons IsMove m ms first (all_moves ms (omega arith) (omega arith))

-- a draft with one move more
pub draft-push : (d e : Draft) (m : RsmMove) → IsDraft d → IsMove m → e.moves.items ≡ d.moves.items ++ m ∷ []
    → e.states ≡ max (max d.states (m.state + 1)) (m.next + 1) → e.lines ≡ max (max d.lines (m.line + 1)) (m.out + 1)
    → IsDraft e
draft-push d e m h within items states lines =
    let one : All IsMove (m ∷ []) = All-cons IsMove m [] within (λ i x l. absurd (omega arith)) in
    let old_states = h.states in
    let old_lines = h.lines in
    record {
      within = subst (All IsMove) (sym items) (All-append IsMove d.moves.items (m ∷ []) h.within one);
      states = states ∙ rw old_states refl ∙ sym (states-push d.moves.items m) ∙ ap states_named (sym items);
      lines = lines ∙ rw old_lines refl ∙ sym (lines-push d.moves.items m) ∙ ap lines_named (sym items);
    }

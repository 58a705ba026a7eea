-- A step in a window has one answer and leaves one state and one tape.
use Rattle.std.specs.Prelude.{◌≡◌, ℕ, pos, ◌+ℤ◌, ◌-ℤ◌, ◌≤ℤ◌, List, ◌≤◌}
use Rattle.std.proofs.Common.{refl, sym, subst, ◌∙◌, ap, arith}
use Rattle.std.proofs.lemmas.Int.{ints}
use Rattle.bn_machine.specs.Tape.{scanned, moved}
use Rattle.bn_machine.specs.Window.{within, Windowed, IsBetween, IsBeyond, with_tape}
use Rattle.bn_machine.specs.Machine.{Program, Moment, MachineRunsTo, IsMachineStuck, IsLeaving, start, moment}
use Rattle.bn_machine.specs.MachineCalls.{IsTurn}
use Rattle.bn_machine.specs.Run.{After, AfterWithin}
use Rattle.bn_machine.proofs.MachineStepLemmas.{first_match_once, goes_once, run_inside, stuck_not_going}
use Rattle.bn_machine.proofs.OutcomeLemmas.{beyond_one_side, not_inside_and_beyond}
use Rattle.bn_machine.specs.declared.quint.Side.{Side}
use Rattle.bn_machine.specs.declared.quint.Quint.{Quint}
use Rattle.bn_machine.specs.declared.machine.Turn.{Turn}
use Rattle.bn_machine.specs.declared.machine.Turn.TheVariants as turn

same_window : (w v x : Windowed) → v ≡ with_tape w v.tape → x ≡ with_tape w x.tape → v.tape ≡ x.tape → v ≡ x
same_window w v x e f tapes = e ∙ ap (with_tape w) tapes ∙ sym f

stuck_not_leaving : (p : Program) (s : ℕ) (w : Windowed) (side : Side) → IsMachineStuck p (moment s w)
    → IsLeaving p s w side → ⊥
stuck_not_leaving p s w side stuck l = stuck.none.none l.number l.quint l.match.stands l.match.holds

-- a head that would leave the window makes no step inside it
leaving_not_going : (p : Program) (s : ℕ) (w : Windowed) (side : Side) (d : Moment) → IsLeaving p s w side
    → MachineRunsTo (within w.left w.right) p (moment s w) d → ⊥
leaving_not_going p s w side d l goes =
    let same = first_match_once p.quints s (scanned w.tape) l.number goes.0 l.quint goes.1.quint l.match goes.1.match in
    let head : d.tape.head ≡ moved w.tape.head goes.1.quint.shift = ap (λ t. t.head) goes.1.applies.writes in
    let there : d.tape.head ≡ moved w.tape.head l.quint.shift =
    head ∙ ap (λ (q : Quint). moved w.tape.head q.shift) (sym same.1) in
    not_inside_and_beyond w.left w.right (moved w.tape.head l.quint.shift) side l.leaves
    (subst (IsBetween w.left w.right) there goes.1.stays)

leaves_one_side : (p : Program) (s : ℕ) (w : Windowed) (a b : Side) → IsLeaving p s w a → IsLeaving p s w b → a ≡ b
leaves_one_side p s w a b l k =
    let same = first_match_once p.quints s (scanned w.tape) l.number k.number l.quint k.quint l.match k.match in
    let there = subst (λ (q : Quint). IsBeyond w.left w.right a (moved w.tape.head q.shift)) same.1 l.leaves in
    beyond_one_side w.left w.right (moved w.tape.head k.quint.shift) a b there k.leaves

pub turn_once : (p : Program) (a b : Turn) (s : ℕ) (w : Windowed) (t u : ℕ) (v x : Windowed) → IsTurn p a s w t v
    → IsTurn p b s w u x → (a ≡ b) × (t ≡ u) × (v ≡ x)
turn_once p turn.Final turn.Final s w t u v x h k = (refl, h.1 ∙ sym k.1, h.2 ∙ sym k.2)
turn_once p turn.Final (turn.Stuck at symbol) s w t u v x h k = absurd (k.0.going h.0)
turn_once p turn.Final (turn.Left side) s w t u v x h k = absurd (k.0.going h.0)
turn_once p turn.Final turn.Moved s w t u v x h k = absurd (k.0.1.going h.0)
turn_once p (turn.Stuck at symbol) turn.Final s w t u v x h k = absurd (h.0.going k.0)
turn_once p (turn.Stuck at symbol) (turn.Stuck at' symbol') s w t u v x h k =
    ((λ i. turn.Stuck ((h.1 ∙ sym k.1) i) ((h.2 ∙ sym k.2) i)), h.3 ∙ sym k.3, h.4 ∙ sym k.4)
turn_once p (turn.Stuck at symbol) (turn.Left side) s w t u v x h k = absurd (stuck_not_leaving p s w side h.0 k.0)
turn_once p (turn.Stuck at symbol) turn.Moved s w t u v x h k =
    absurd (stuck_not_going (within w.left w.right) p (moment s w) (moment u x) h.0 k.0)
turn_once p (turn.Left side) turn.Final s w t u v x h k = absurd (h.0.going k.0)
turn_once p (turn.Left side) (turn.Stuck at symbol) s w t u v x h k = absurd (stuck_not_leaving p s w side k.0 h.0)
turn_once p (turn.Left side) (turn.Left side') s w t u v x h k =
    (ap turn.Left (leaves_one_side p s w side side' h.0 k.0), h.1 ∙ sym k.1, h.2 ∙ sym k.2)
turn_once p (turn.Left side) turn.Moved s w t u v x h k = absurd (leaving_not_going p s w side (moment u x) h.0 k.0)
turn_once p turn.Moved turn.Final s w t u v x h k = absurd (h.0.1.going k.0)
turn_once p turn.Moved (turn.Stuck at symbol) s w t u v x h k =
    absurd (stuck_not_going (within w.left w.right) p (moment s w) (moment t v) k.0 h.0)
turn_once p turn.Moved (turn.Left side) s w t u v x h k = absurd (leaving_not_going p s w side (moment t v) k.0 h.0)
turn_once p turn.Moved turn.Moved s w t u v x h k =
    let same = goes_once (within w.left w.right) (within w.left w.right) p (moment s w) (moment t v) (moment u x) h.0
    k.0 in
    (refl, ap (λ (m : Moment). m.state) same, same_window w v x h.1 k.1 (ap (λ (m : Moment). m.tape) same))

-- a run that starts at 0 stays in a room that has as many cells on each side as it makes steps
pub after_inside : (left right : ℕ) (p : Program) (word : List ℕ) (i : ℕ) (c : Moment) → i ≤ left → i ≤ right
    → After p word i c → AfterWithin (within left right) p word i c
after_inside left right p word i c low high run =
    let down : (pos 0 -ℤ pos left) ≤ℤ (pos 0 -ℤ pos i) = omega (arith, ints) in
    let up : (pos 0 +ℤ pos i) ≤ℤ pos right = omega (arith, ints) in
    run_inside left right p i (start p word) c down up run

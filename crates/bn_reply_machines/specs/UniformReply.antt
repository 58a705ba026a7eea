-- The answers of the commands that build a circuit from a table of quadruples: its machine must also be uniform (this
-- project's own definition).
use Rattle.std.specs.Prelude.{◌≡◌, ℕ, List, [], ◌∷◌, codes, decimal}
use Rattle.bn_circuits.specs.declared.place.Place.{Place}
use Rattle.bn_quad.specs.Calls.{IsNotUniform}
use Rattle.bn_quad.specs.Overlap.{IsUniform}
use Rattle.bn_quad.specs.declared.refusal.NotUniform.{NotUniform}
use Rattle.bn_quad.specs.declared.refusal.NotUniform.TheVariants as uneven
use Rattle.bn_quad.specs.declared.refusal.UniformRefusal.{UniformRefusal}
use Rattle.bn_quad.specs.declared.refusal.UniformRefusal.TheVariants as failing
use Rattle.bn_qtable.specs.Rows.{QuadTable}
use Rattle.bn_reply.specs.Lines.{line}
use Rattle.bn_reply.specs.declared.status.Status.{Status}
use Rattle.bn_reply.specs.declared.status.Status.TheVariants as statuses
use Rattle.bn_reply_machines.specs.QuadReply.{overlap_line}

-- the line of a quadruple, counted from 1, that violates a condition, with the name of the condition
abbrev pub flaw_line : List ℕ → ℕ → List ℕ
flaw_line demand i = line (codes "machine: " ∷ demand ∷ codes " " ∷ decimal i ∷ [])

-- the line of a machine that is not uniform
abbrev pub uneven_line : NotUniform → List ℕ
uneven_line (uneven.ReadMask i j) = overlap_line (codes "reads") i j
uneven_line (uneven.WriteMask i j) = overlap_line (codes "writes") i j
uneven_line (uneven.Silent i) = flaw_line (codes "silent") i
uneven_line (uneven.InitialEntered i) = flaw_line (codes "initial") i
uneven_line (uneven.FinalLeft i) = flaw_line (codes "final") i

-- the line of the first of all tests that a machine fails
abbrev pub failing_line : UniformRefusal → List ℕ
failing_line (failing.Domain i j) = overlap_line (codes "domain") i j
failing_line (failing.Range i j) = overlap_line (codes "range") i j
failing_line (failing.Mask why) = uneven_line why

-- The answer to a table whose machine passes the two tests, where `tells` is the answer to one whose machine is
-- uniform: the first of the five conditions that it violates, with the least numbers that show it, or that answer.
pub data UniformReplies (tells : QuadTable → Status → List ℕ → List Place → Type 0) (t : QuadTable) (status : Status)
    (text : List ℕ) (told : List Place) : Type 0 where
  not_uniform : (why : NotUniform) → IsNotUniform t.machine.rules why → text ≡ uneven_line why
      → status ≡ statuses.Machine
      → told ≡ [] → UniformReplies tells t status text told
  uniform : IsUniform t.machine.rules → tells t status text told → UniformReplies tells t status text told

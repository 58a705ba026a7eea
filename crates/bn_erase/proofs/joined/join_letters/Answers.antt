-- The machines of the two tables over the joint letters.
use Rattle.std.proofs.Common.{◌≡◌, ◌∙◌, List, ℕ, ap, arith, length, subst, sym}
use Rattle.bn_machine.specs.Machine.{Program}
use Rattle.bn_lists.specs.Lists.{IsIn}
use Rattle.bn_erase.specs.Joint.{IsJoint}
use Rattle.bn_erase.specs.Recoded.{recoded, with_symbols}
use Rattle.bn_erase.proofs.JoinedLemmas.{code_among, joined_is, joint_few, tables_joined}
use Rattle.bn_erase.proofs.JointLemmas.{second_in}
use Rattle.bn_erase.proofs.joined.join_letters.Goals as goal

pub overflow_cast-len : goal.overflow_cast-len
overflow_cast-len c =
    let e = c.in_ok-letters.ensures in
    let all : length c.in_ok-letters.letters.items ≡ length _ = ap length e.made in
    omega (arith, all, joint_few c.args.first.now c.args.second.now e.first e.second)

pub recoded-requires-clause-known : goal.recoded-requires-clause-known
recoded-requires-clause-known c = λ letter h.
    subst (λ (ls : List ℕ). IsIn ls letter) (sym (c.as_slice.ensures.value ∙ c.in_ok-letters.ensures.made))
    (second_in c.args.first.now.letters c.args.second.now.letters letter h)

pub invariant_of-result : goal.invariant_of-result
invariant_of-result c =
    let t = c.args.first.now in
    let u = c.args.second.now in
    let e = c.in_ok-letters.ensures in
    let n = c.len.result in
    let counted : n ≡ length c.in_ok-letters.letters.items = omega arith in
    let is = joined_is t u c.in_ok-first.first c.in_ok-second.second c.in_ok-letters.letters.items n e.made counted
    (c.in_ok-first.ensures ∙ ap (λ (p : Program). with_symbols n p) c.machine.ensures.value)
    (c.in_ok-second.ensures ∙ ap (λ (ls : List ℕ). recoded (code_among ls u.letters) (length ls) u.machine)
    c.as_slice.ensures.value) in
    subst IsJoint (sym is) (tables_joined t u e.first e.second)

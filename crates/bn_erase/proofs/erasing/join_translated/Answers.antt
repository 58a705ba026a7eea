-- Names and quadruples are those of the erasing machine.
use Rattle.std.proofs.Common.{◌≡◌, ◌∙◌, ap, arith, length}
use Rattle.bn_quad.specs.Quadruples.{final_state_of}
use Rattle.bn_erase.specs.declared.erasing.Meeting.{Meeting}
use Rattle.bn_erase.specs.Numbered.{joint_names, joint_quads, meeting_of}
use Rattle.bn_erase.proofs.EraseLemmas.{are_erasing, final_below, final_named}
use Rattle.bn_bennett_laws.proofs.Counts.{list_has_names}
use Rattle.bn_bennett_laws.proofs.Numbering.{numbers_pass_tests}
use Rattle.bn_erase_laws.proofs.NamesLemmas.{erasing_has_names}
use Rattle.bn_erase.proofs.erasing.join_translated.Goals as goal

pub joint_names-requires : goal.joint_names-requires
joint_names-requires c =
    let end : c.meeting_of-meeting.result.end ≡ final_state_of c.args.other.now.machine.rules =
    ap (λ (m : Meeting). m.end) c.meeting_of-meeting.ensures in
    let long : length c.names-2.result.now ≡ length c.args.other.now.names = ap length c.names-2.ensures.value in
    omega (arith, end, long, final_below c.args.second.now c.args.other.now c.requires.other, c.requires.other.states)

pub joint_quads-requires : goal.joint_quads-requires
joint_quads-requires c =
    let states : c.meeting_of-meeting.result.states ≡ c.args.translated.now.machine.states =
    ap (λ (m : Meeting). m.states) c.meeting_of-meeting.ensures in
    omega (arith, states, c.requires.states)

pub uniform_of-machine-requires-clause-list : goal.uniform_of-machine-requires-clause-list
uniform_of-machine-requires-clause-list c = λ left right.
    let p = c.args.first.now in
    let q = c.args.second.now in
    let t = c.args.translated.now in
    let u = c.args.other.now in
    let names : c.as_slice.result.now ≡ joint_names t.names u.names (meeting_of t.machine u.machine).end =
    c.as_slice.ensures.value ∙ c.in_ok-names.ensures ∙ (λ i. joint_names (c.names.ensures.value i)
    (c.names-2.ensures.value i) ((c.meeting_of-meeting.ensures i).end)) in
    let quads : c.in_ok-quads.quads.items ≡ joint_quads (meeting_of t.machine u.machine) t.machine.rules
    u.machine.rules =
    c.in_ok-quads.ensures ∙ ap (λ (m : Meeting). joint_quads m t.machine.rules u.machine.rules)
    c.meeting_of-meeting.ensures in
    are_erasing p q t u c.requires.translated c.requires.other
    (final_named p t left numbers_pass_tests c.requires.translated)
    (final_named q u right numbers_pass_tests c.requires.other)
    left.machine right.machine list_has_names erasing_has_names c.as_slice.result.now c.in_ok-quads.quads.items
    c.requires.states names quads

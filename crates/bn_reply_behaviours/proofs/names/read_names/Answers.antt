use Rattle.std.specs.Prelude.{◌≡◌, ◌+◌, ◌==◌, ◌<◌, ℕ, List, [], ◌∷◌, Some, length, position, take}
use Rattle.std.proofs.Common.{arith, rules, ap, sym, subst, ◌∙◌}
use Rattle.bn_qtable.specs.TapeWords.{comma, names_between}
use Rattle.bn_circuits.specs.RotaryNets.{rotary_circuit}
use Rattle.bn_circuits.specs.declared.line.Line.{Line}
use Rattle.bn_reply_behaviours.specs.NamedPorts.{IsMisnamed, names_in}
use Rattle.bn_reply_behaviours.specs.Replying.{AreNamedSoFar, IsAddedIf, IsFree}
use Rattle.bn_reply_behaviours.proofs.ReadingLemmas.{cut_refused, names_given, names_uncut, one_cut, ports_few}
use Rattle.bn_reply_behaviours.proofs.ReadingLemmas.{rest_short}
use Rattle.bn_reply_behaviours.proofs.names.read_names.Goals as goal

pub add_named-requires-clause-room : goal.add_named-requires-clause-room
add_named-requires-clause-room c =
    let few = ports_few c.args.net.now.elements c.args.net.now.wires c.args.side _ c.loop-comma.ports
    c.loop-comma.invariant.so_far.named in
    omega (arith, few, c.requires)

pub overflow_add-result : goal.overflow_add-result
overflow_add-result c =
    let both = subst (IsAddedIf (IsFree (rotary_circuit c.args.net.now) c.args.side)
    (take c.in-Some.comma c.loop-comma.left.now) c.loop-comma.ports c.add_named.new.ports) c.if-not-branch.true
    c.in_ok-add_named.ensures in
    let same : length c.add_named.new.ports ≡ length c.loop-comma.ports = ap (λ (xs : List Line). length xs) both.0 in
    let few = ports_few c.args.net.now.elements c.args.net.now.wires c.args.side _ c.loop-comma.ports
    c.loop-comma.invariant.so_far.named in
    omega (arith, few, same, c.requires, c.len.ensures.number)

pub returns-then-not-branch : goal.returns-then-not-branch
returns-then-not-branch c =
    let left = c.loop-comma.left.now in
    let at : position (λ byte. byte == comma) left ≡ Some c.in-Some.comma =
    sym c.first_comma.ensures.place ∙ c.in-Some.is in
    let some : 0 < length c.args.bytes.now = search rules in
    let both = subst (IsAddedIf (IsFree (rotary_circuit c.args.net.now) c.args.side)
    (take c.in-Some.comma c.loop-comma.left.now) c.loop-comma.ports c.add_named.new.ports) c.if-not-branch.true
    c.in_ok-add_named.ensures in
    let same : length c.add_named.new.ports ≡ length c.loop-comma.ports = ap (λ (xs : List Line). length xs) both.0 in
    subst (λ (names : List (List ℕ)). IsMisnamed (IsFree (rotary_circuit c.args.net.now) c.args.side) names
    (c.len.result + 1)) (sym (names_given c.args.bytes.now some))
    (cut_refused (IsFree (rotary_circuit c.args.net.now) c.args.side) (names_between c.args.bytes.now)
    c.loop-comma.ports left c.in-Some.comma (c.len.result + 1) at c.loop-comma.invariant.so_far both.1
    (omega (arith, same, c.len.ensures.number)))

pub overflow_add-left : goal.overflow_add-left
overflow_add-left c = omega (arith, c.in-Some.ensures.within, c.loop-comma.invariant.shorter, c.type_inv.bytes)

pub loop-comma-preserved : goal.loop-comma-preserved
loop-comma-preserved c =
    let left = c.loop-comma.left.now in
    let at : position (λ byte. byte == comma) left ≡ Some c.in-Some.comma =
    sym c.first_comma.ensures.place ∙ c.in-Some.is in
    record {
      so_far = one_cut (IsFree (rotary_circuit c.args.net.now) c.args.side) (names_between c.args.bytes.now)
          c.loop-comma.ports c.add_named.new.ports left c.in-Some.comma at c.loop-comma.invariant.so_far
          (subst (IsAddedIf (IsFree (rotary_circuit c.args.net.now) c.args.side)
          (take c.in-Some.comma c.loop-comma.left.now) c.loop-comma.ports c.add_named.new.ports) c.if-not-branch.false
          c.in_ok-add_named.ensures);
      shorter = rest_short left (length c.args.bytes.now) (c.in-Some.comma + 1) c.loop-comma.invariant.shorter;
    }

pub read_last-requires-clause-room : goal.read_last-requires-clause-room
read_last-requires-clause-room c =
    let few = ports_few c.args.net.now.elements c.args.net.now.wires c.args.side _ c.loop-comma.ports
    c.loop-comma.invariant.so_far.named in
    omega (arith, few, c.requires)

pub returns : goal.returns
returns c =
    let left = c.loop-comma.left.now in
    let some : 0 < length c.args.bytes.now = search rules in
    c.read_last.ensures (names_in c.args.bytes.now)
    (subst (λ (names : List (List ℕ)). AreNamedSoFar (IsFree (rotary_circuit c.args.net.now) c.args.side) names
    c.loop-comma.ports (left ∷ [])) (sym (names_given c.args.bytes.now some))
    (subst (AreNamedSoFar (IsFree (rotary_circuit c.args.net.now) c.args.side) (names_between c.args.bytes.now)
    c.loop-comma.ports) (names_uncut left c.in_default.ensures.none) c.loop-comma.invariant.so_far))

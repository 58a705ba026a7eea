-- One rule after another.
use Rattle.std.proofs.Common.{◌≡◌, ◌*◌, ◌≤◌, length, arith, ap, get_or}
use Rattle.bn_machine.specs.declared.quint.Shift.TheVariants.{Left}
use Rattle.bn_standardise.specs.Numbering.{with_name}
use Rattle.bn_standardise.specs.declared.name.Name.TheVariants.{First}
use Rattle.bn_standardise.specs.declared.rule.Rule.{Rule}
use Rattle.bn_standardise.proofs.GrowingLemmas.{NumbersRule, after_is, few_names, length-with_name, none_numbered}
use Rattle.bn_standardise.proofs.GrowingLemmas.{quint_is, quints_more}
use Rattle.bn_standardise.proofs.numbering.number_rules.Goals as goal

abbrev blank : Rule
blank = record { state = First; read = 0; write = 0; shift = Left; next = First }

pub loop-rule-init : goal.loop-rule-init
loop-rule-init c = none_numbered c.new-names.result.keys c.new-quints.result.items c.args.rules.now
    c.new-names.ensures.empty c.new-quints.ensures.items

pub number_of-requires : goal.number_of-requires
number_of-requires c =
    omega (
      arith,
      few_names c.args.rules.now c.loop-rule.rule-index c.loop-rule.names.keys
          c.loop-rule.auto.rule-index-end c.loop-rule.invariant.0,
      c.loop-rule-test.true,
      c.requires.few,
    )

pub number_of-requires-in-loop-rule : goal.number_of-requires-in-loop-rule
number_of-requires-in-loop-rule c =
    let names = c.loop-rule.names.keys in
    let most : length names ≤ 2 * c.loop-rule.rule-index = few_names c.args.rules.now c.loop-rule.rule-index names
    c.loop-rule.auto.rule-index-end c.loop-rule.invariant.0 in
    let after : length c.number_of.new.names.keys ≡ length (with_name names
    (get_or c.args.rules.now c.loop-rule.rule-index blank).state) = ap length c.in_ok-state.ensures.names in
    omega (
      arith,
      most,
      after,
      length-with_name names (get_or c.args.rules.now c.loop-rule.rule-index blank).state,
      c.loop-rule-test.true,
      c.requires.few,
    )

pub loop-rule-preserved : goal.loop-rule-preserved
loop-rule-preserved c =
    let rules = c.args.rules.now in
    let i = c.loop-rule.rule-index in
    let names = c.loop-rule.names.keys in
    let middle = c.number_of.new.names.keys in
    let after = c.number_of-in-loop-rule.new.names.keys in
    let h : NumbersRule rules i blank names middle after c.in_ok-state.state c.in_ok-next.next = record {
      inside = c.loop-rule-test.true;
      before = c.loop-rule.invariant.0;
      first = c.in_ok-state.ensures.names;
      second = c.in_ok-next.ensures.names;
      state_is = c.in_ok-state.ensures.number;
      next_is = c.in_ok-next.ensures.number;
    } in (
      after_is rules i blank names middle after c.in_ok-state.state c.in_ok-next.next h,
      quints_more rules i blank c.loop-rule.quints.items c.push.new.self.items
          (record {
            state = c.in_ok-state.state;
            read = (get_or rules i blank).read;
            write = (get_or rules i blank).write;
            shift = (get_or rules i blank).shift;
            next = c.in_ok-next.next;
          })
          c.loop-rule-test.true c.loop-rule.invariant.1
          (quint_is rules i blank names middle after c.in_ok-state.state c.in_ok-next.next h)
          c.in_ok-push.ensures.items,
    )

pub overflow_cast-states : goal.overflow_cast-states
overflow_cast-states c =
    let most : length c.loop-rule.names.keys ≤ 2 * c.loop-rule.rule-index =
    few_names c.args.rules.now c.loop-rule.rule-index c.loop-rule.names.keys c.loop-rule.auto.rule-index-end
    c.loop-rule.invariant.0 in
    omega (arith, most, c.len-states.ensures.len, c.loop-rule.auto.rule-index-end, c.requires.few)

use Rattle.std.proofs.Common.{◌≡◌, ap, subst, ◌∙◌, arith, length, take, get_or}
use Rattle.std.proofs.lemmas.Option.{slice_get-get_or}
use Rattle.std.proofs.Math.Seq.{take-length}
use Rattle.bn_control.specs.declared.line.Line.TheVariants.{Outside}
use Rattle.bn_control.specs.declared.named.NamedMove.{NamedMove}
use Rattle.bn_control.specs.declared.name.StateName.TheVariants.{Begin}
use Rattle.bn_control.specs.Numbered.{AreNumbered}
use Rattle.bn_control.proofs.NumberedLemmas.{next_numbered}
use Rattle.bn_control.proofs.numbered.in_numbers.Goals as goal

-- what a look-up past the end gives
abbrev nothing : NamedMove
nothing = record { state = Begin; line = Outside; to = record { state = Begin; line = Outside } }

pub number_of-requires-clause-known : goal.number_of-requires-clause-known
number_of-requires-clause-known c =
    (c.requires.known c.loop-step.step-index (get_or c.args.moves.now c.loop-step.step-index nothing)
    (slice_get-get_or c.args.moves.now c.loop-step.step-index nothing c.loop-step-test.true)).state

pub in_number-requires-clause-within : goal.in_number-requires-clause-within
in_number-requires-clause-within c =
    (c.requires.known c.loop-step.step-index (get_or c.args.moves.now c.loop-step.step-index nothing)
    (slice_get-get_or c.args.moves.now c.loop-step.step-index nothing c.loop-step-test.true)).line

pub number_of-requires-in-loop-step-clause-known : goal.number_of-requires-in-loop-step-clause-known
number_of-requires-in-loop-step-clause-known c =
    (c.requires.known c.loop-step.step-index (get_or c.args.moves.now c.loop-step.step-index nothing)
    (slice_get-get_or c.args.moves.now c.loop-step.step-index nothing c.loop-step-test.true)).next

pub out_number-requires-clause-within : goal.out_number-requires-clause-within
out_number-requires-clause-within c =
    (c.requires.known c.loop-step.step-index (get_or c.args.moves.now c.loop-step.step-index nothing)
    (slice_get-get_or c.args.moves.now c.loop-step.step-index nothing c.loop-step-test.true)).out

pub loop-step-preserved : goal.loop-step-preserved
loop-step-preserved c =
    let few = c.loop-step.invariant.few in
    let more = c.in_ok-push.ensures.len in
    record {
      numbers = λ m is. next_numbered m c.args.states.now c.args.moves.now c.loop-step.step-index nothing
          c.loop-step.numbered.items c.push.new.self.items _ c.loop-step-test.true c.in_ok-push.ensures.items
          (c.loop-step.invariant.numbers m is)
          (record {
            state = c.number_of.ensures;
            line = c.in_number.ensures m is;
            next = c.number_of-in-loop-step.ensures;
            out = c.out_number.ensures m is;
          });
      few = omega arith;
    }

pub returns-clause-numbers : goal.returns-clause-numbers
returns-clause-numbers c m is =
    let past = c.loop-step-test.false in
    let end = c.loop-step.auto.step-index-end in
    let all : c.loop-step.step-index ≡ length c.args.moves.now = omega arith in
    let whole : take c.loop-step.step-index c.args.moves.now ≡ c.args.moves.now =
    ap (λ n. take n c.args.moves.now) all ∙ take-length c.args.moves.now in
    subst (λ l. AreNumbered m c.args.states.now l c.loop-step.numbered.items) whole (c.loop-step.invariant.numbers m is)

use Rattle.std.proofs.Common.{refl, ap, ◌∙◌, is_some}
use Rattle.std.proofs.lemmas.Result.{IfOk-weaker, IfErr-weaker}
use Rattle.bn_session.specs.Progress.{IsLineFault}
use Rattle.bn_session.specs.Reading.{sentence_in}
use Rattle.bn_session.proofs.ScriptLemmas.{refusal_weaker, unsaid, said_some, said_none, faulty_line}
use Rattle.bn_session.proofs.scope.Scope.command_in.Goals as goal

pub returns-in_default-clause-refused : goal.returns-in_default-clause-refused
returns-in_default-clause-refused c =
    let line = c.args.line.now in
    let read = c.sentence_in.ensures ∙ ap (λ m. sentence_in m line) c.is_some.ensures in
    let m = is_some c.args.self.now.states in
    (refl, unsaid m line (said_none m line _ c.in_default.is read))

pub command_of-requires : goal.command_of-requires
command_of-requires c =
    let line = c.args.line.now in
    let read = c.sentence_in.ensures ∙ ap (λ m. sentence_in m line) c.is_some.ensures in
    (said_some (is_some c.args.self.now.states) line _ c.in-Some.sentence c.in-Some.is read).sayable

pub returns-clause-asked : goal.returns-clause-asked
returns-clause-asked c =
    let line = c.args.line.now in
    let read = c.sentence_in.ensures ∙ ap (λ m. sentence_in m line) c.is_some.ensures in
    let is = said_some (is_some c.args.self.now.states) line _ c.in-Some.sentence c.in-Some.is read in
    IfOk-weaker c.command_of.result _ _ (λ x h. record {
      says = _;
      spelled = is.spelled;
      sayable = is.sayable;
      asked = h;
    }) c.command_of.ensures.asked

pub returns-clause-refused : goal.returns-clause-refused
returns-clause-refused c =
    let line = c.args.line.now in
    let read = c.sentence_in.ensures ∙ ap (λ m. sentence_in m line) c.is_some.ensures in
    let is = said_some (is_some c.args.self.now.states) line _ c.in-Some.sentence c.in-Some.is read in
    IfErr-weaker c.command_of.result _ _ (λ r h. refusal_weaker _
    (IsLineFault c.args.self.now.states c.args.self.now.standing line) c.args.number r
    (λ fault k. faulty_line c.args.self.now.states c.args.self.now.standing line _ fault is k) h)
    c.command_of.ensures.refused

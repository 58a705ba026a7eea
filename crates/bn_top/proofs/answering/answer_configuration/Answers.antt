-- The answer to a request on a configuration text is that to what was asked.
use Rattle.bn_words.specs.declared.request.ConfigurationRequest.TheVariants.{Step, Back, Plan, Migrate, Mirror}
use Rattle.bn_words.specs.declared.request.ConfigurationRequest.TheVariants.{Behaviour}
use Rattle.bn_words.specs.declared.request.ConfigurationRequest.TheVariants.{Crossings}
use Rattle.bn_top.proofs.Commands.{stream_as}
use Rattle.bn_top.proofs.answering.answer_configuration.Goals as goal

pub returns-in-Step-clause-ends : goal.returns-in-Step-clause-ends
returns-in-Step-clause-ends g c =
    stream_as c.args.asked.now (Step c.in-Step.most_steps) c.in-Step.is c.answer_step.result _ _
    c.answer_step.ensures.ends

pub returns-in-Back-clause-ends : goal.returns-in-Back-clause-ends
returns-in-Back-clause-ends g c =
    stream_as c.args.asked.now (Back c.in-Back.most_steps) c.in-Back.is c.answer_back.result _ _
    c.answer_back.ensures.ends

pub returns-in-Plan-clause-ends : goal.returns-in-Plan-clause-ends
returns-in-Plan-clause-ends g c =
    stream_as c.args.asked.now Plan c.in-Plan.is c.answer_plan.result _ _
    (c.answer_plan.ensures.ends (g.W.Watch.told c.args.watch.now))

pub returns-in-Migrate-clause-ends : goal.returns-in-Migrate-clause-ends
returns-in-Migrate-clause-ends g c =
    stream_as c.args.asked.now Migrate c.in-Migrate.is c.answer_migrate.result _ _
    (c.answer_migrate.ensures.ends (g.W.Watch.told c.args.watch.now))

pub returns-in-Mirror-clause-ends : goal.returns-in-Mirror-clause-ends
returns-in-Mirror-clause-ends g c =
    stream_as c.args.asked.now Mirror c.in-Mirror.is c.answer_mirror.result _ _
    (c.answer_mirror.ensures.ends (g.W.Watch.told c.args.watch.now))

pub returns-in-Behaviour-clause-ends : goal.returns-in-Behaviour-clause-ends
returns-in-Behaviour-clause-ends g c =
    stream_as c.args.asked.now (Behaviour c.in-Behaviour.most_states c.in-Behaviour.most_steps c.in-Behaviour.names)
    c.in-Behaviour.is
    c.answer_behaviour.result _ _ (c.answer_behaviour.ensures.ends (g.W.Watch.told c.args.watch.now))

pub returns-in-Crossings-clause-ends : goal.returns-in-Crossings-clause-ends
returns-in-Crossings-clause-ends g c =
    stream_as c.args.asked.now (Crossings c.in-Crossings.most_states c.in-Crossings.most_steps c.in-Crossings.names)
    c.in-Crossings.is
    c.answer_crossings.result _ _ (c.answer_crossings.ensures.ends (g.W.Watch.told c.args.watch.now))

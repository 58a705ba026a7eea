use Rattle.bn_reply_circuits.proofs.config.refuse_input.Goals as goal

pub returns-in-Text-clause-ends : goal.returns-in-Text-clause-ends
returns-in-Text-clause-ends g c = rw c.in-Text.is (
  c.refuse_config.result,
  c.refuse_config.ensures,
  c.give_reply.ensures.ends,
)

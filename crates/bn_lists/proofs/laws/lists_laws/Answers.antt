use Rattle.bn_lists.proofs.FiniteLemmas.{numbers_end}
use Rattle.bn_lists.proofs.laws.lists_laws.Goals as goal

pub returns : goal.returns
returns _ = record { one_to_one_steps_end = numbers_end }

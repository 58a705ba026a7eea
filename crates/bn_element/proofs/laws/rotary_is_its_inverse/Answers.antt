use Rattle.bn_element.proofs.InverseLemmas.{rotary-inverse}
use Rattle.bn_element.proofs.laws.rotary_is_its_inverse.Goals as goal

pub returns : goal.returns
returns _ = rotary-inverse

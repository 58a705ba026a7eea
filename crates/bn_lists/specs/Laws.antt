-- The laws of this crate, a named field each. `Laws` is the contract of `lists_laws`.
use Rattle.bn_lists.specs.Finite.{OneToOneStepsEnd}

pub record Laws : Type 0 where
  -- If a partial step on the numbers below a bound is one to one, a run from a number without a predecessor ends after
  -- fewer steps than the bound.
  pub one_to_one_steps_end : OneToOneStepsEnd

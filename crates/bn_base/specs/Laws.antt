-- The laws of this crate, a named field each. `Laws` is the contract of `base_laws`.
use Rattle.bn_base.specs.CutLaws.{CutsAreOne, CutsAreNotUncut, CutsOrNot}
use Rattle.bn_base.specs.Line.{LinesAgree, CutLinesDiffer}
use Rattle.bn_base.specs.Number.{WhatIsReadIsSpelled, WhatIsSpelledIsRead, SpellingsDiffer}
use Rattle.bn_base.specs.declared.limits.TheConstants.{MOST_COUNT}
use Rattle.std.specs.Prelude.{◌≡◌, ◌^◌}

pub record Laws : Type 0 where
  -- An input is cut into two parts in one way, or not at all.
  pub inputs_are_cut_once : CutsAreOne × CutsAreNotUncut × CutsOrNot
  -- The greatest count is 2^20.
  pub most_count_is_stated : MOST_COUNT ≡ 2 ^ 20
  -- The law of lines: a text is cut into lines in one way.
  pub one_cut : LinesAgree × CutLinesDiffer
  -- A number that `read_u64` reads is at most 2^62, and the bytes read are its decimal text. Such a text is read back
  -- as this number unless a digit follows it. Different numbers have different texts.
  pub one_spelling : WhatIsReadIsSpelled × WhatIsSpelledIsRead × SpellingsDiffer

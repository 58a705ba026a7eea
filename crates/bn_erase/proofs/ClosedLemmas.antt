-- The erasing machine passes the tests, with the laws below put in, for the crates above that cite it as it is.
use Rattle.bn_erase_laws.proofs.NumberedLemmas.{erasing_numbers_pass_tests}
use Rattle.bn_erase.specs.Laws.{ErasingsAreUniform}
use Rattle.bn_erase.specs.Made.{name_of}
use Rattle.bn_erase.proofs.AlikeLemmas.{begins_named, ends_named, names_apart}

pub erasings_uniform : ErasingsAreUniform
erasings_uniform = λ p q e left right h.
    let all = erasing_numbers_pass_tests p q left right (name_of e) e.machine.rules h.rules in (
      record { deterministic = all.0; reversible = all.1; uniform = all.2 },
      begins_named p q e h left right erasing_numbers_pass_tests,
      ends_named p q e h left right erasing_numbers_pass_tests,
      names_apart p q e h,
    )

-- The laws of this crate that follow from those of the crates below it, each proved.
use Rattle.bn_erase.proofs.AlikeLemmas.{erases_back, erases_forth}
use Rattle.bn_erase.specs.Laws.{ErasingsErase, ErasingsHaveNames}
use Rattle.bn_erase_laws.proofs.NamesLemmas.{erasing_has_names}
use Rattle.bn_erase_laws.proofs.NumberedLemmas.{erasing_numbers_pass_tests, erasing_numbers_run_alike}
use Rattle.bn_erase_laws.proofs.TheoremLemmas.{erases_input}
use Rattle.bn_erase.proofs.PrintedLemmas as printed

pub erasings_erase : ErasingsErase
erasings_erase = λ p q e x left right same h letters word. (
  erases_forth p q e h left right erasing_numbers_pass_tests erasing_numbers_run_alike x erases_input same letters word,
  erases_back p q e h left right erasing_numbers_pass_tests erasing_numbers_run_alike x erases_input same letters word,
)

pub erasings_have_names : ErasingsHaveNames
erasings_have_names = printed.erasings_have_names erasing_has_names

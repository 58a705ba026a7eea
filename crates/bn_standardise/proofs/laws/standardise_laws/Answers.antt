use Rattle.bn_standardise.proofs.AcceptedLemmas.{refusals_once}
use Rattle.bn_standardise.proofs.LawLemmas.{counts_rules, numbers_tell_apart, is_in_standard_form, texts_are_read}
use Rattle.bn_standardise.proofs.LawLemmas.{tail_is_one, halts_behind-law, sticks_alike-law, halts_together}
use Rattle.bn_standardise.proofs.LawLemmas.{sticks_together, inverts_example}
use Rattle.bn_standardise.proofs.NumberingLemmas.{fits_table}
use Rattle.bn_standardise.proofs.RangeLemmas.{machine_again}
use Rattle.bn_standardise.proofs.laws.standardise_laws.Goals as goal

pub returns : goal.returns
returns _ = record {
  counts_rules = counts_rules;
  numbers_tell_apart = numbers_tell_apart;
  is_machine_again = machine_again;
  is_in_standard_form = is_in_standard_form;
  texts_are_read = texts_are_read;
  refusals_are_one = refusals_once;
  tail_is_one = tail_is_one;
  halts_behind = halts_behind-law;
  sticks_alike = sticks_alike-law;
  halts_together = halts_together;
  fits_table_again = fits_table;
  sticks_together = sticks_together;
  inverts_example = inverts_example;
}

use Rattle.bn_rsm.proofs.CostLemmas.{costs-bounded}
use Rattle.bn_rsm.proofs.SoundLemmas.{refusal_once, sound-or-refused, sound-refusal}
use Rattle.bn_rsm.proofs.LawLemmas.{bytes_are_read_or_refused-apart, bytes_are_read_or_refused-some}
use Rattle.bn_rsm.proofs.LawLemmas.{bytes_have_a_reading_or_a_fault, bytes_have_one_answer-refusal}
use Rattle.bn_rsm.proofs.LawLemmas.{bytes_have_one_reading}
use Rattle.bn_rsm.proofs.ReadingLaws.{one_machine}
use Rattle.std.proofs.Common.{refl}
use Rattle.bn_rsm.proofs.laws.rsm_laws.Goals as goal

pub returns : goal.returns
returns _ = record {
  refusals_are_one = refusal_once;
  sound_moves_are_taken = sound-refusal;
  moves_are_sound_or_refused = sound-or-refused;
  costs_are_bounded = costs-bounded;
  most_entries_are_stated = refl;
  bytes_have_one_reading = bytes_have_one_reading;
  bytes_have_a_reading_or_a_fault = bytes_have_a_reading_or_a_fault;
  bytes_are_read_or_refused = (bytes_are_read_or_refused-some, bytes_are_read_or_refused-apart);
  bytes_have_one_answer = (one_machine, bytes_have_one_answer-refusal);
}

-- The laws of this crate that follow from those of the crates below it, each proved.
use Rattle.bn_csv.specs.Entries.{entries_of}
use Rattle.bn_rsm.proofs.SoundLemmas.{sound-or-refused, sound-refusal, refusal_once}
use Rattle.bn_rsm.proofs.ReadingLaws.{one_reading, no_fault_of, reading_of, machine_or_refusal, not_refused}
use Rattle.bn_rsm.proofs.ReadingLaws.{one_refusal}
use Rattle.bn_rsm.specs.Reading.{OneReading, ReadingOrFault, MachineOrRefusal, MachinesAreNotRefused, OneRefusal}

pub bytes_have_one_reading : OneReading
bytes_have_one_reading = λ bytes ms ns h k. one_reading (entries_of bytes) ms ns h k

pub bytes_have_a_reading_or_a_fault : ReadingOrFault
bytes_have_a_reading_or_a_fault =
    λ bytes. (λ none. reading_of (entries_of bytes) none, λ r. no_fault_of (entries_of bytes) r.0 r.1)

pub bytes_are_read_or_refused-some : MachineOrRefusal
bytes_are_read_or_refused-some = machine_or_refusal sound-or-refused

pub bytes_are_read_or_refused-apart : MachinesAreNotRefused
bytes_are_read_or_refused-apart = not_refused sound-refusal

pub bytes_have_one_answer-refusal : OneRefusal
bytes_have_one_answer-refusal = one_refusal refusal_once

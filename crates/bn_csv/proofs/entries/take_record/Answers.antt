-- One record off those that are left.
use Rattle.std.proofs.Common.{inl, inr}
use Rattle.std.proofs.lemmas.Bool.{cases_Bool}
use Rattle.csv.specs.Records.{fields_of}
use Rattle.bn_csv.proofs.RecordsLeft.{left-end, left-read, ready}
use Rattle.bn_csv.proofs.entries.take_record.Goals as goal

pub returns-in-Ok-clause-more : goal.returns-in-Ok-clause-more
returns-in-Ok-clause-more c =
    let read = c.in-Ok.ensures.reads c.requires.untrimmed (ready c.args.reader.now c.requires) in
    elim (cases_Bool c.in-Ok.found) [
      | inl found ↦ rw found (left-read c.args.reader.now c.read_byte_record.new.self
          (fields_of c.read_byte_record.new.row) c.requires (rw found at read)).0
      | inr none ↦ rw none (left-end c.args.reader.now c.read_byte_record.new.self
          (fields_of c.read_byte_record.new.row) c.requires (rw none at read))
    ]

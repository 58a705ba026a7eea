-- csv's look-up by place is that of a list, and finds a field below the length.
use Rattle.std.proofs.Common.{◌<◌, ◌∙◌, length, sym}
use Rattle.csv.specs.Records.{fields_of}
use Rattle.bn_csv.proofs.RecordsLeft.{field_at-is, field_within}
use Rattle.bn_csv.proofs.entries.Entry.field.Goals as goal

pub unreachable-requires : goal.unreachable-requires
unreachable-requires c =
    let fields = fields_of c.self.inside.record in
    let within : c.args.place < length fields = rw c.self.view_is c.requires in
    field_within fields c.args.place within (sym (field_at-is fields c.args.place) ∙ sym c.in-None.ensures.value)

pub returns : goal.returns
returns c = rw (← c.self.view_is) (sym (field_at-is (fields_of c.self.inside.record) c.args.place)
    ∙ sym c.in-Some.ensures.value)

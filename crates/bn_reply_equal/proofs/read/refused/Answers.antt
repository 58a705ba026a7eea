use Rattle.std.proofs.Common.{subst}
use Rattle.bn_rsm.specs.Reading.{IsMoveTableRefusal}
use Rattle.bn_rsm.specs.declared.table_refusal.RsmTableRefusal.TheVariants as faults
use Rattle.bn_reply_equal.proofs.ReadLemmas.{fault_told}
use Rattle.bn_reply_equal.proofs.read.refused.Goals as goal

pub returns-in_ok-record_text-in-FieldCount : goal.returns-in_ok-record_text-in-FieldCount
returns-in_ok-record_text-in-FieldCount c bytes is =
    fault_told bytes (faults.FieldCount c.in-FieldCount.entry) c.in_ok-record_text-in-FieldCount.field-0.items
    (subst (IsMoveTableRefusal bytes) c.in-FieldCount.is is) c.in_ok-record_text-in-FieldCount.ensures

pub returns-in_ok-field_text-in-Number : goal.returns-in_ok-field_text-in-Number
returns-in_ok-field_text-in-Number c bytes is =
    fault_told bytes (faults.Number c.in-Number.entry c.in-Number.field) c.in_ok-field_text-in-Number.field-0.items
    (subst (IsMoveTableRefusal bytes) c.in-Number.is is) c.in_ok-field_text-in-Number.ensures

pub returns-in_ok-record_text-in-TooMany : goal.returns-in_ok-record_text-in-TooMany
returns-in_ok-record_text-in-TooMany c bytes is =
    fault_told bytes (faults.TooMany c.in-TooMany.entry) c.in_ok-record_text-in-TooMany.field-0.items
    (subst (IsMoveTableRefusal bytes) c.in-TooMany.is is) c.in_ok-record_text-in-TooMany.ensures

pub returns-in_ok-empty_text-in-Empty : goal.returns-in_ok-empty_text-in-Empty
returns-in_ok-empty_text-in-Empty c bytes is =
    fault_told bytes faults.Empty c.in_ok-empty_text-in-Empty.field-0.items
    (subst (IsMoveTableRefusal bytes) c.in-Empty.is is) c.in_ok-empty_text-in-Empty.ensures

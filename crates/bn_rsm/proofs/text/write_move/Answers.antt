-- Numbers need no quotes.
use Rattle.std.proofs.Common.{◌∙◌, ap, arith, refl}
use Rattle.bn_csv.specs.Lines.{is_plain}
use Rattle.bn_rsm.proofs.Decimals.{plain_decimal}
use Rattle.bn_rsm.proofs.text.write_move.Goals as goal

pub write_entry-requires : goal.write_entry-requires
write_entry-requires c =
    record {
      plain = rw (
        ap is_plain (c.as_bytes.ensures.value ∙ c.format.ensures.text) ∙ plain_decimal _ (omega arith),
        ap is_plain (c.as_bytes-2.ensures.value ∙ c.format-2.ensures.text) ∙ plain_decimal _ (omega arith),
        ap is_plain (c.as_bytes-3.ensures.value ∙ c.format-3.ensures.text) ∙ plain_decimal _ (omega arith),
        ap is_plain (c.as_bytes-4.ensures.value ∙ c.format-4.ensures.text) ∙ plain_decimal _ (omega arith),
      ) refl;
    }

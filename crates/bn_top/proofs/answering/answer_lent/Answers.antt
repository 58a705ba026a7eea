use Rattle.std.proofs.Common.{◌≤◌, ◌<◌, arith, length, refl}
use Rattle.bn_circuits.proofs.WalkLemmas.{hears-nothing}
use Rattle.bn_reply.specs.Streams.{Whole, TooLong}
use Rattle.bn_reply.specs.declared.limits.TheConstants.{MOST_INPUT_BYTES}
use Rattle.bn_reply.proofs.CountLemmas.{counts_nothing}
use Rattle.bn_top.proofs.LentLemmas.{lent_all, lent_more}
use Rattle.bn_top.proofs.answering.answer_lent.Goals as goal

pub returns-then-bytes-gt-MOST_INPUT_BYTES : goal.returns-then-bytes-gt-MOST_INPUT_BYTES
returns-then-bytes-gt-MOST_INPUT_BYTES g c = λ reads.
    let bytes = c.args.bytes.now in
    let long : MOST_INPUT_BYTES < length bytes = omega (arith, c.if-bytes-gt-MOST_INPUT_BYTES.true) in
    record {
      input = TooLong;
      gives = lent_more bytes MOST_INPUT_BYTES long;
      ends = (c.tell_long_input.ensures.ends, hears-nothing (g.W.Watch.told c.args.watch.now));
      later = record { read = counts_nothing _ reads reads refl; write = c.tell_long_input.ensures.later };
    }

pub returns : goal.returns
returns g c = λ reads.
    let bytes = c.args.bytes.now in
    let within : length bytes ≤ MOST_INPUT_BYTES = omega (arith, c.if-bytes-gt-MOST_INPUT_BYTES.false) in
    record {
      input = Whole bytes;
      gives = (lent_all bytes MOST_INPUT_BYTES within, within);
      ends = c.answer_bytes.ensures.ends;
      later = record { read = counts_nothing _ reads reads refl; write = c.answer_bytes.ensures.later };
    }

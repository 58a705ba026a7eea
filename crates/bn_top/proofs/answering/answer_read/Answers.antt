use Rattle.std.proofs.Common.{◌≡◌, ◌≤◌, [], length, Some, Err, IfSome, ap, arith, refl, subst, sym}
use Rattle.bn_circuits.proofs.WalkLemmas.{hears-nothing}
use Rattle.bn_reply.specs.Streams.{Whole, TooLong, Failed, Unread}
use Rattle.bn_reply.specs.declared.limits.TheConstants.{MOST_INPUT_BYTES}
use Rattle.bn_reply.proofs.CountLemmas.{counts_nothing, counts_told}
use Rattle.bn_reply.proofs.ReplyLemmas.{grows_nothing}
use Rattle.bn_reply.proofs.StreamLemmas.{gave_more, gave_read}
use Rattle.bn_top.proofs.answering.answer_read.Goals as goal

pub returns-in-Ok-clause-ends : goal.returns-in-Ok-clause-ends
returns-in-Ok-clause-ends g c =
    let bytes = c.as_slice.result.now in
    let left = g.I.Input.left c.args.input.now in
    let after = g.I.Input.left c.read_whole.new.input in
    let within : length bytes ≤ MOST_INPUT_BYTES = omega (arith, c.as_slice.ensures.len, c.in-Ok.ensures.within) in
    let read = subst (λ z. IfSome left (λ xs. (z ≡ xs) × (after ≡ Some []))) (sym c.as_slice.ensures.value)
    c.in-Ok.ensures.whole in
    record {
      input = Whole bytes;
      gives = (gave_read left after bytes read, within);
      ends = c.answer_bytes.ensures.ends;
      later = record {
        read = counts_nothing _ (g.I.Input.faults c.args.input.now) (g.I.Input.faults c.read_whole.new.input)
            (c.in-Ok.ensures.stays (λ failed. cc));
        write = c.answer_bytes.ensures.later;
      };
    }

pub returns-in-Err-ReadFault-clause-ends : goal.returns-in-Err-ReadFault-clause-ends
returns-in-Err-ReadFault-clause-ends g c =
    record {
      input = Failed;
      gives = c.in-Err-ReadFault.ensures.read_fault (ap (λ e. Err e) c.in-Err-ReadFault.field-0-is);
      ends = (c.tell_read_fault.ensures.ends, hears-nothing (g.W.Watch.told c.args.watch.now));
      later = record {
        read = counts_told _ (g.I.Input.faults c.args.input.now) (g.I.Input.faults c.read_whole.new.input)
            c.in-Err-ReadFault.ensures.later refl;
        write = c.tell_read_fault.ensures.later;
      };
    }

pub returns-in-Err-TooLong-clause-ends : goal.returns-in-Err-TooLong-clause-ends
returns-in-Err-TooLong-clause-ends g c =
    let left = g.I.Input.left c.args.input.now in
    let after = g.I.Input.left c.read_whole.new.input in
    let taken = c.in-Err-TooLong.ensures.taken in
    record {
      input = TooLong;
      gives = gave_more left after MOST_INPUT_BYTES _ taken.0 taken.1 (ap (λ e. Err e) c.in-Err-TooLong.field-0-is);
      ends = (c.tell_long_input.ensures.ends, hears-nothing (g.W.Watch.told c.args.watch.now));
      later = record {
        read = counts_nothing _ (g.I.Input.faults c.args.input.now) (g.I.Input.faults c.read_whole.new.input)
            (c.in-Err-TooLong.ensures.stays (λ failed. cc (failed, c.in-Err-TooLong.field-0-is)));
        write = c.tell_long_input.ensures.later;
      };
    }

pub returns-in-Err-NoMemory-clause-ends : goal.returns-in-Err-NoMemory-clause-ends
returns-in-Err-NoMemory-clause-ends g c =
    let taken = g.K.Sink.taken c.args.sink.now in
    record {
      input = Unread;
      gives = tt;
      ends = (refl, grows_nothing taken taken refl, hears-nothing (g.W.Watch.told c.args.watch.now));
      later = record {
        read = counts_nothing _ (g.I.Input.faults c.args.input.now) (g.I.Input.faults c.read_whole.new.input)
            (c.in-Err-NoMemory.ensures.stays (λ failed. cc (failed, c.in-Err-NoMemory.field-0-is)));
        write = counts_nothing _ (g.K.Sink.faults c.args.sink.now) (g.K.Sink.faults c.args.sink.now) refl;
      };
    }

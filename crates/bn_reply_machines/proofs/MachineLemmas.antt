-- `machine` has one answer to all words, numbers of steps and bytes.
use Rattle.std.specs.Prelude.{Result, Ok, Err, IfOk}
use Rattle.std.proofs.Common.{◌≡◌, ℕ, List, [], refl, sym, subst, ap, ◌∙◌}
use Rattle.bn_machine.specs.Run.{Ending, HasEnding, Halted, Stuck, Running}
use Rattle.bn_machine.proofs.OutcomeLemmas.{ending_exists, ending_once}
use Rattle.bn_table.specs.Rows.{Named}
use Rattle.bn_reply.specs.Answering.{HasAnswer, IsOneAnswer, IsSettled}
use Rattle.bn_reply.specs.Codes.{IsReplyStatus}
use Rattle.bn_reply.specs.TableReply.{WordReplies}
use Rattle.bn_reply.specs.declared.reply.Reply.{Reply}
use Rattle.bn_lists.specs.declared.memory.NoMemory.{NoMemory as WantOfMemory}
use Rattle.bn_reply.proofs.SettledLemmas.{standard_settled, word_settled}
use Rattle.bn_reply.proofs.TableLemmas.{reads_table}
use Rattle.bn_reply_machines.specs.MachineReply.{MachineIsSettled, TellsMachineRun, ending_text, ending_status}

module _ (t : Named) (n : ℕ) (symbols : List ℕ) where
  run_some : HasAnswer (TellsMachineRun t n symbols)
  run_some =
      let found = ending_exists t.machine symbols n in (
        ending_status found.1,
        ending_text t found.0 found.1,
        [],
        record
            { steps = found.0; ending = found.1; comes_out = found.2; status_is = refl; text_is = refl; silent = refl },
      )

  run_one : IsOneAnswer (TellsMachineRun t n symbols)
  run_one s u a b x y h k =
      let same = ending_once t.machine symbols n h.steps k.steps h.ending k.ending h.comes_out k.comes_out in
      record {
        statuses = h.status_is ∙ ap ending_status same.1 ∙ sym k.status_is;
        texts = h.text_is ∙ (λ i. ending_text t (same.0 i) (same.1 i)) ∙ sym k.text_is;
        places = h.silent ∙ sym k.silent;
      }

  ending_answers : (e : Ending) → IsReplyStatus (ending_status e)
  ending_answers (Halted y) = tt
  ending_answers (Stuck state symbol) = tt
  ending_answers Running = tt

  run_settled : IsSettled (TellsMachineRun t n symbols)
  run_settled = record {
    some = run_some;
    one = run_one;
    status = λ s text told h. subst IsReplyStatus (sym h.status_is) (ending_answers h.ending);
  }

pub machine_settled : MachineIsSettled
machine_settled word n bytes =
    standard_settled (λ t. WordReplies (TellsMachineRun t n) t word) bytes
    (λ t h. word_settled (TellsMachineRun t n) t (reads_table bytes t h.reads) word
    (λ symbols spelled. run_settled t n symbols))

-- the reply that tells an ending
pub ended_tells : (t : Named) (n : ℕ) (symbols : List ℕ) (i : ℕ) (e : Ending) (result : Result Reply WantOfMemory)
    → HasEnding t.machine symbols n i e →
    IfOk result (λ r. r.status ≡ ending_status e) → IfOk result (λ r. r.text.items ≡ ending_text t i e) →
    IfOk result (λ r. TellsMachineRun t n symbols r.status r.text.items [])
ended_tells t n symbols i e (Ok r) ending status text = record
    { steps = i; ending = e; comes_out = ending; status_is = status; text_is = text; silent = refl }
ended_tells t n symbols i e (Err _) ending status text = tt

-- `window` has one answer to all words, numbers of steps and bytes.
use Rattle.std.proofs.Common.{ℕ, List, [], refl, sym, subst, ap, ◌∙◌}
use Rattle.bn_machine.specs.Machine.{Program}
use Rattle.bn_machine.specs.Run as free
use Rattle.bn_machine.specs.Run.{Ending, EndsAt, HasEnding, Halted, Running, Stuck, halts, sticks}
use Rattle.bn_machine.specs.Tape.{scanned}
use Rattle.bn_machine.proofs.OutcomeLemmas.{ending_exists, ending_once}
use Rattle.bn_table.specs.Rows.{Named}
use Rattle.bn_extents.specs.LeastWindow.{EndsWithin}
use Rattle.bn_extents.proofs.LawLemmas.{least_window_exists, least_window_is_one}
use Rattle.bn_reply.specs.Answering.{HasAnswer, IsOneAnswer, IsSettled}
use Rattle.bn_reply.specs.Codes.{IsReplyStatus}
use Rattle.bn_reply.specs.Lines.{running_line}
use Rattle.bn_reply.specs.TableReply.{WordReplies}
use Rattle.bn_reply.specs.declared.status.Status.TheVariants as statuses
use Rattle.bn_reply.proofs.SettledLemmas.{standard_settled, word_settled}
use Rattle.bn_reply.proofs.TableLemmas.{reads_table}
use Rattle.bn_reply_windows.specs.WindowReply.{TellsWindow, WindowIsSettled, ends, least_line, runs}
use Rattle.bn_reply_windows.proofs.FoundLemmas.{halted_ends, stuck_ends}

-- a run that has not ended has made all its steps
all_steps : (p : Program) (word : List ℕ) (n i : ℕ) → HasEnding p word n i Running → HasEnding p word n n Running
all_steps p word n i h = by_end h.ends
  where
    by_end : EndsAt p n i h.moment Running → HasEnding p word n n Running
    by_end (halts y final out e) = absurd (halted_ends y (sym e))
    by_end (sticks stuck e) = absurd (stuck_ends h.moment.state (scanned h.moment.tape) (sym e))
    by_end (free.runs d step all e) = subst (λ (j : ℕ). HasEnding p word n j Running) all h

module _ (t : Named) (n : ℕ) (symbols : List ℕ) where
  told_end : EndsWithin t.machine symbols n → HasAnswer (TellsWindow t n symbols)
  told_end h =
      let l = least_window_exists t.machine symbols n h in
      (statuses.Done, least_line l.0, [], ends h l.0 l.1 refl refl refl)

  window_some : HasAnswer (TellsWindow t n symbols)
  window_some = by_ending found.1 found.2
    where
      found : (i : ℕ) × (e : Ending) × HasEnding t.machine symbols n i e
      found = ending_exists t.machine symbols n

      by_ending : (e : Ending) → HasEnding t.machine symbols n found.0 e → HasAnswer (TellsWindow t n symbols)
      by_ending (Halted y) h = told_end (record
          { steps = found.0; ending = Halted y; comes_out = h; ended = halted_ends y })
      by_ending (Stuck state symbol) h = told_end (record
          { steps = found.0; ending = Stuck state symbol; comes_out = h; ended = stuck_ends state symbol })
      by_ending Running h =
          (statuses.Inside, running_line n, [], runs (all_steps t.machine symbols n found.0 h) refl refl refl)

  apart : EndsWithin t.machine symbols n → HasEnding t.machine symbols n n Running → ⊥
  apart h k = h.ended (ending_once t.machine symbols n h.steps n h.ending Running h.comes_out k).1

  window_one : IsOneAnswer (TellsWindow t n symbols)
  window_one s u a b x y (ends h l least text status told) (ends h' l' least' text' status' told') =
      let same = least_window_is_one t.machine symbols l l' least least' in
      record {
        statuses = status ∙ sym status';
        texts = text ∙ ap least_line same ∙ sym text';
        places = told ∙ sym told';
      }
  window_one s u a b x y (ends h l least text status told) (runs k text' status' told') = absurd (apart h k)
  window_one s u a b x y (runs k text' status' told') (ends h l least text status told) = absurd (apart h k)
  window_one s u a b x y (runs k text status told) (runs k' text' status' told') = record {
    statuses = status ∙ sym status';
    texts = text ∙ sym text';
    places = told ∙ sym told';
  }

  window_answers : (s : _) (text : List ℕ) (told : _) → TellsWindow t n symbols s text told → IsReplyStatus s
  window_answers s text told (ends h l least text_is status told_is) = subst IsReplyStatus (sym status) tt
  window_answers s text told (runs k text_is status told_is) = subst IsReplyStatus (sym status) tt

  tells_settled : IsSettled (TellsWindow t n symbols)
  tells_settled = record { some = window_some; one = window_one; status = window_answers }

pub window_settled : WindowIsSettled
window_settled word n bytes =
    standard_settled (λ t. WordReplies (TellsWindow t n) t word) bytes
    (λ t h. word_settled (TellsWindow t n) t (reads_table bytes t h.reads) word
    (λ symbols spelled. tells_settled t n symbols))

-- What the reader of farms answers is what the command answers.
use Rattle.std.specs.Prelude.{◌≡◌, ℕ, ◌+◌, List, [], ◌∷◌, length, Result, Ok, Err, IfOk, refl}
use Rattle.std.proofs.Common.{suc, arith, ap, ◌∙◌}
use Rattle.bn_netlist_laws.specs.Faults.{Fault, IsFirstFault, malformed, too_many, no_element, out_of_order, end_wired}
use Rattle.bn_netlist_laws.specs.Faults.{left_wired, start_fed, second_source, spelled_out}
use Rattle.bn_netlist.specs.NetText.{IsTextRefusal}
use Rattle.bn_farm.specs.Farms.{FarmBoard}
use Rattle.bn_netlist.specs.declared.line_refusal.NetlistRefusal.{NetlistRefusal}
use Rattle.bn_netlist.specs.declared.line_refusal.NetlistRefusal.TheVariants.{Syntax, Order, Target, TwoSources}
use Rattle.bn_netlist.specs.declared.line_refusal.NetlistRefusal.TheVariants.{StartFed, EndWired, LeftWired, TooMany}
use Rattle.bn_netlist.specs.declared.line_refusal.NetlistRefusal.TheVariants.{Spelling, NoMemory}
use Rattle.bn_lists.specs.declared.memory.NoMemory.{NoMemory as WantOfMemory}
use Rattle.bn_reply.specs.declared.reply.Reply.{Reply}
use Rattle.bn_reply.specs.declared.status.Status.TheVariants as statuses
use Rattle.bn_farm.specs.declared.event.Event.{Event}
use Rattle.bn_farm.specs.declared.farm_refusal.FarmRefusal.{FarmRefusal}
use Rattle.bn_farm.specs.declared.farm_refusal.FarmRefusal.TheVariants as farm
use Rattle.bn_farm.specs.Farms.{farm_after}
use Rattle.bn_farm.specs.Playing.{AreOnBoards}
use Rattle.bn_farm.specs.Undo.{undoing}
use Rattle.bn_farm.specs.FarmTexts as texts
use Rattle.bn_farm.specs.FarmTexts.{AreEventsOf, FailsAfter, IsFarmText, ScheduleFault}
use Rattle.bn_reply_circuits.specs.FarmReply.{FarmReplies, TellsBoard, board_line, farm_elements_line, faulty, large}
use Rattle.bn_reply_circuits.specs.FarmReply.{misspelled, no_schedule, played, read, schedule_line}
use Rattle.bn_farm.specs.FarmRead.{AreTooMany, IsFarmRead, IsFarmRefusal, IsFirstMisspelled, IsRefusedBehind}
use Rattle.bn_reply_circuits.specs.FarmRefused.{IsBoardRefused, IsFarmRefused}

pub events_on : (boards : ℕ) (es : List Event) → AreEventsOf boards es → AreOnBoards boards es
events_on boards [] all = tt
events_on boards (e ∷ es) all = (all.0.has_board, events_on boards es all.1)

module _ (bytes : List ℕ) where
  -- a board
  tells_by : (board : ℕ) (fault : NetlistRefusal) (h : IsFirstMisspelled bytes board fault) (text : List ℕ) (line : ℕ)
      (f : Fault) → IsFirstFault h.part line f
      → text ≡ board_line board line f → TellsBoard h.parts text
  tells_by board fault h text line f first is = record {
    board = board;
    part = h.part;
    first = h.first;
    line = line;
    fault = f;
    faulty = first;
    told = is;
  }

  tells_board : (board : ℕ) (fault : NetlistRefusal) (h : IsFirstMisspelled bytes board fault) (text : List ℕ)
      → IsTextRefusal h.part fault → IsBoardRefused board fault text
      → TellsBoard h.parts text
  tells_board board (Syntax line) h text first is = tells_by board (Syntax line) h text line malformed first is
  tells_board board (Order line) h text first is = tells_by board (Order line) h text line out_of_order first is
  tells_board board (Target line) h text first is = tells_by board (Target line) h text line no_element first is
  tells_board board (TwoSources line) h text first is = tells_by board (TwoSources line) h text line second_source first
      is
  tells_board board (StartFed line) h text first is = tells_by board (StartFed line) h text line start_fed first is
  tells_board board (EndWired line) h text first is = tells_by board (EndWired line) h text line end_wired first is
  tells_board board (LeftWired line) h text first is = tells_by board (LeftWired line) h text line left_wired first is
  tells_board board (TooMany line) h text first is = tells_by board (TooMany line) h text line too_many first is
  tells_board board (Spelling line) h text first is = tells_by board (Spelling line) h text line spelled_out first is
  tells_board board NoMemory h text first is = absurd is

  -- a line of the schedule
  tells_line : (refusal : FarmRefusal) (h : IsRefusedBehind bytes refusal) (r : Reply) (number n : ℕ)
      (fault : ScheduleFault) → number ≡ n + 1
      → FailsAfter (length h.boards) n h.last fault → r.status ≡ statuses.Text
      → r.text.items ≡ schedule_line number fault → FarmReplies bytes r.status r.text.items []
  tells_line refusal h r number n fault count fails status text =
      let same : number ≡ suc n = omega (arith, count) in
      read h.parts h.last h.boards h.some h.are h.spell (faulty n fault fails
      (text ∙ ap (λ m. schedule_line m fault) same) status refl)

  tells_elements : (refusal : FarmRefusal) (h : IsRefusedBehind bytes refusal) (r : Reply) (count : ℕ)
      → AreTooMany h.boards h.last count → r.status ≡ statuses.Size
      → r.text.items ≡ farm_elements_line count → FarmReplies bytes r.status r.text.items []
  tells_elements refusal h r count many status text =
      let great = many.great in
      let is = many.is in
      read h.parts h.last h.boards h.some h.are h.spell
      (large many.schedule many.is_schedule (omega (arith, great, is)) (text ∙ ap farm_elements_line is) status refl)

  refused : (refusal : FarmRefusal) (r : Reply) → IsFarmRefusal bytes refusal
      → IsFarmRefused refusal r.status r.text.items → FarmReplies bytes r.status r.text.items []
  refused farm.NoSchedule r uncut is = no_schedule uncut is.1 is.0 refl
  refused (farm.Board board fault) r h is = misspelled h.parts h.last h.are
      (tells_board board fault h r.text.items h.faulty is.1) is.0 refl
  refused (farm.Form number) r h is = tells_line (farm.Form number) h r number h.refused.0 texts.malformed h.refused.1
      h.refused.2 is.0 is.1
  refused (farm.NoBoard number) r h is = tells_line (farm.NoBoard number) h r number h.refused.0 texts.no_board
      h.refused.1 h.refused.2 is.0 is.1
  refused (farm.Elements count) r h is = tells_elements (farm.Elements count) h r count h.refused is.0 is.1
  refused farm.NoMemory r h is = absurd is

  -- the answer to a refusal
  pub farm_refused : (refusal : FarmRefusal) (result : Result Reply WantOfMemory) → IsFarmRefusal bytes refusal
      → IfOk result (λ r. IsFarmRefused refusal r.status r.text.items)
      → IfOk result (λ r. FarmReplies bytes r.status r.text.items [])
  farm_refused refusal (Ok r) h is = refused refusal r h is
  farm_refused refusal (Err e) h is = tt

  -- and to a farm with a schedule
  pub farm_played : (bs : List FarmBoard) (es : List Event) (result : Result Reply WantOfMemory)
      → IsFarmRead bytes bs es
      → IfOk result (λ r. (r.status ≡ statuses.Done) × IsFarmText (farm_after bs es) (undoing bs es) r.text.items)
      → IfOk result (λ r. FarmReplies bytes r.status r.text.items [])
  farm_played bs es (Ok r) h is = read h.parts h.last bs h.some h.are h.spell
      (played es h.schedule h.few is.1 is.0 refl)
  farm_played bs es (Err e) h is = tt

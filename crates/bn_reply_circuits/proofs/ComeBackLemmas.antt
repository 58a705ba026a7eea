-- `farm` on the text of `farm` gives the first boards.
use Rattle.std.specs.Prelude.{◌≡◌, ◌≢◌, ℕ, ◌≤◌, List, [], ◌∷◌, ◌++◌, length, refl}
use Rattle.std.proofs.Common.{arith, sym, ap, subst, ◌∙◌}
use Rattle.bn_circuits.specs.declared.net.TheConstants.{MOST_ELEMENTS}
use Rattle.bn_reply.specs.declared.status.Status.TheVariants as statuses
use Rattle.bn_farm.specs.declared.event.Event.{Event}
use Rattle.bn_farm.specs.Farms.{FarmBoard, Tick, elements_together, farm_after, play, ticks}
use Rattle.bn_farm.specs.Undo.{moving, undoing}
use Rattle.bn_farm.specs.FarmTexts.{AreEventsOf, IsFarmText, SpellBoards, parts_text, schedule_text}
use Rattle.bn_farm.proofs.LawfulLemmas.{length_play}
use Rattle.bn_farm.proofs.PartLemmas.{spelled_farm, text_of_parts}
use Rattle.bn_farm.proofs.TextLawLemmas.{elements_play, farms-read_back, undoing-schedule}
use Rattle.bn_farm.proofs.UndoLemmas.{undoing_restores, undoing_twice}
use Rattle.bn_reply_circuits.specs.FarmReply.{FarmReplies, FarmsComeBack, faulty, large, misspelled, no_schedule}
use Rattle.bn_reply_circuits.specs.FarmReply.{played, read}
use Rattle.bn_reply_circuits.proofs.FarmReplyLemmas.{farm_one}

some_played : (bs : List FarmBoard) (ts : List Tick) → bs ≢ [] → play bs ts ≢ []
some_played bs ts some e =
    let none : length (play bs ts) ≡ 0 = ap (λ (xs : List FarmBoard). length xs) e in
    let same = length_play bs ts in
    by_boards bs some (omega (arith, none, same))
  where
    by_boards : (bs : List FarmBoard) → bs ≢ [] → length bs ≡ 0 → ⊥
    by_boards [] some none = some refl
    by_boards (b ∷ bs) some none = omega arith

some_boards : (parts : List (List ℕ)) (bs : List FarmBoard) → parts ≢ [] → SpellBoards parts bs → bs ≢ []
some_boards [] bs some spell e = some refl
some_boards (part ∷ parts) [] some spell e = spell
some_boards (part ∷ parts) (b ∷ bs) some spell e = cc

some_parts : (parts : List (List ℕ)) (bs : List FarmBoard) → bs ≢ [] → SpellBoards parts bs → parts ≢ []
some_parts [] [] some spell e = some refl
some_parts [] (b ∷ bs) some spell e = spell
some_parts (part ∷ parts) bs some spell e = cc

-- the answer to the text of a farm after a schedule and the schedule that undoes it
answered_back : (parts : List (List ℕ)) (bs : List FarmBoard) (es : List Event) (text : List ℕ) → bs ≢ []
    → SpellBoards parts bs → AreEventsOf (length bs) es → elements_together bs ≤ MOST_ELEMENTS →
    IsFarmText (farm_after bs es) (undoing bs es) text → FarmReplies text statuses.Done
    (parts_text parts ++ schedule_text (moving bs es)) []
answered_back parts bs es text some spell all few is =
    let left = farm_after bs es in
    let good = spelled_farm parts bs spell in
    let back = undoing-schedule bs es good all in
    let restored = undoing_restores bs es good in
    let twice = undoing_twice bs es good in
    let elements = elements_play bs (ticks es) in
    let there = farms-read_back left (undoing bs es) text back is in
    let first : IsFarmText bs (moving bs es) (parts_text parts ++ schedule_text (moving bs es)) =
    record { parts = parts; spell = spell; written = refl } in
    read there.parts there.last left (some_parts there.parts left (some_played bs (ticks es) some) there.boards)
    there.are there.boards
    (played (undoing bs es) there.schedule (omega (arith, few, elements))
    (subst (λ xs. IsFarmText xs (undoing left (undoing bs es)) (parts_text parts ++ schedule_text (moving bs es)))
    (sym restored)
    (subst (λ xs. IsFarmText bs xs (parts_text parts ++ schedule_text (moving bs es))) (sym twice) first)) refl refl)

done_text : statuses.Done ≢ statuses.Text
done_text e = cc

done_size : statuses.Done ≢ statuses.Size
done_size e = cc

pub farms-come_back : FarmsComeBack
farms-come_back bytes text again told heard status (no_schedule h is e n) reply = absurd (done_text e)
farms-come_back bytes text again told heard status (misspelled ps last are h e n) reply = absurd (done_text e)
farms-come_back bytes text again told heard status (read ps last bs some are spell (faulty k fault h is e n)) reply =
    absurd (done_text e)
farms-come_back bytes text again told heard status (read ps last bs some are spell (large es h great is e n)) reply =
    absurd (done_size e)
farms-come_back bytes text again told heard status (read ps last bs some are spell (played es h few is e n)) reply =
    let there = some_boards ps bs some spell in
    let answer = answered_back ps bs es text there spell h.lawful few is in
    let one = farm_one text status statuses.Done again (parts_text ps ++ schedule_text (moving bs es)) heard [] reply
    answer in (
      one.statuses,
      record {
        boards = bs;
        schedule = es;
        parts = ps;
        some = there;
        spell = spell;
        lawful = h.lawful;
        bytes_are = text_of_parts bytes ps last are ∙ ap (λ l. parts_text ps ++ l) h.spelled;
        again_is = one.texts;
      },
    )

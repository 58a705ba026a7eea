-- Undoing schedules are schedules; texts of farms are there, are one, and are read back.
use Rattle.std.specs.Prelude.{◌≡◌, ℕ, ◌+◌, ◌<◌, ◌≤◌, Bool, List, [], ◌∷◌, ◌++◌, length, refl}
use Rattle.std.proofs.Common.{zero, suc, arith, sym, ap, subst, ◌∙◌}
use Rattle.bn_circuits.specs.Circuits.{clock}
use Rattle.bn_farm.specs.declared.event.Event.{Event}
use Rattle.bn_farm.specs.Farms.{FarmBoard, IsFarm, Tick, after_steps, at_board, elements_together, play, ticked, ticks}
use Rattle.bn_farm.specs.Farms.{ticks_of}
use Rattle.bn_farm.specs.Undo.{event_of, made, other, undoing}
use Rattle.bn_farm.specs.FarmTexts.{AreEventsOf, AreParts, IsEventOf, parts_text, schedule_text}
use Rattle.bn_farm.specs.TextLaws.{FarmTextsAreOne, FarmsAreReadBack, FarmsHaveTexts, UndoingIsASchedule}
use Rattle.bn_farm.proofs.FarmLemmas.{farms_stay}
use Rattle.bn_farm.proofs.LawfulLemmas.{length_play, made_where}
use Rattle.bn_farm.proofs.PartLemmas.{farm_texts, parts_back}
use Rattle.bn_farm.proofs.SameLemmas.{spelled_same, texts_same}

-- ---- the undoing schedule

events_joined : (k : ℕ) (es fs : List Event) → AreEventsOf k es → AreEventsOf k fs → AreEventsOf k (es ++ fs)
events_joined k [] fs one also = also
events_joined k (e ∷ es) fs one also = (one.0, events_joined k es fs one.1 also)

event_again : (k : ℕ) (e : Event) (f : Bool) (n : ℕ) → IsEventOf k e → (0 < n → n ≤ clock)
    → AreEventsOf k (event_of f e.board n)
event_again k e f zero is low = tt
event_again k e f (suc n) is low =
    let few : suc n ≤ 4611686018427387904 = low (omega arith) in (
      record {
        sayable = record { number = is.sayable.number; some = omega arith; few = few };
        has_board = is.has_board;
      },
      tt,
    )

undoing_events : (k : ℕ) (bs : List FarmBoard) (es : List Event) → IsFarm bs → AreEventsOf k es
    → AreEventsOf k (undoing bs es)
undoing_events k bs [] good all = tt
undoing_events k bs (e ∷ es) good all =
    let next = play bs (ticks_of e) in
    events_joined k (undoing next es) (event_of (other e.forward) e.board (made bs e))
    (undoing_events k next es (farms_stay bs (ticks_of e) good) all.1)
    (event_again k e (other e.forward) (made bs e) all.0 (λ some. (made_where e bs good some).0))

pub undoing-schedule : UndoingIsASchedule
undoing-schedule bs es good all = subst (λ n. AreEventsOf n (undoing bs es)) (sym (length_play bs (ticks es)))
    (undoing_events (length bs) bs es good all)

-- ---- elements

elements_at : (f : Bool) (n i : ℕ) (bs : List FarmBoard) → elements_together (at_board (after_steps f n) i bs)
    ≡ elements_together bs
elements_at f n i [] = refl
elements_at f n zero (b ∷ bs) = refl
elements_at f n (suc i) (b ∷ bs) = ap (λ m. b.spelling.elements + m) (elements_at f n i bs)

pub elements_play : (bs : List FarmBoard) (ts : List Tick) → elements_together (play bs ts) ≡ elements_together bs
elements_play bs [] = refl
elements_play bs (t ∷ ts) = elements_play (ticked t bs) ts ∙ elements_at t.forward 1 t.board bs

-- ---- texts

pub farms-have_texts : FarmsHaveTexts
farms-have_texts bs es good =
    let texts = farm_texts bs good in
    (parts_text texts.0 ++ schedule_text es, record { parts = texts.0; spell = texts.1; written = refl })

pub farm_texts-one : FarmTextsAreOne
farm_texts-one bs es text other a b =
    let parts = texts_same a.parts b.parts bs bs (spelled_same a.parts bs bs a.spell a.spell) a.spell b.spell in
    a.written ∙ ap (λ ps. parts_text ps ++ schedule_text es) parts ∙ sym b.written

pub farms-read_back : FarmsAreReadBack
farms-read_back bs es text all is = record {
  parts = is.parts;
  last = schedule_text es;
  are = subst (λ t. AreParts t is.parts (schedule_text es)) (sym is.written)
      (parts_back (length bs) is.parts bs es is.spell all);
  boards = is.spell;
  schedule = record { spelled = refl; lawful = all };
}

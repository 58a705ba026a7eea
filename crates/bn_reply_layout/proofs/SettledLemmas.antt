-- What `layout` answers is one.
use Rattle.std.specs.Prelude.{ℕ, List, [], refl}
use Rattle.std.proofs.Common.{sym, subst, ◌∙◌}
use Rattle.bn_circuits.specs.declared.place.Place.{Place}
use Rattle.bn_table.specs.Laws.{TablesAreMachines}
use Rattle.bn_table.specs.Rows.{Named}
use Rattle.bn_boards.specs.ExistenceLaws.{FlatsAreThere}
use Rattle.bn_boards.specs.Flats.{Flat}
use Rattle.bn_boards.specs.LayoutLaws.{FlatsAreOne}
use Rattle.bn_reply.specs.Answering.{AgreeInAll, HasAnswer}
use Rattle.bn_reply.specs.Codes.{IsReplyStatus}
use Rattle.bn_reply.specs.declared.status.Status.{Status}
use Rattle.bn_reply.specs.declared.status.Status.TheVariants as statuses
use Rattle.bn_reply_relations.specs.ToldRuns.{IsGiven}
use Rattle.bn_reply_relations.specs.Laws.{BoardsAreCounted}
use Rattle.bn_reply_relations.specs.Windows.{ComesTo}
use Rattle.bn_reply_relations.proofs.TellingLemmas.{same_boards}
use Rattle.bn_reply_relations.proofs.WindowLemmas.{window_settled}
use Rattle.bn_reply_layout.specs.LayoutText.{layout_text}
use Rattle.bn_reply_layout.specs.LayoutReply.{TellsLayout, LayoutIsSettled}

pub layout_settled : TablesAreMachines → FlatsAreThere → FlatsAreOne → BoardsAreCounted → LayoutIsSettled
layout_settled machines flats ones counted word l bytes small =
    window_settled TellsLayout word l bytes machines flats counted small some one
    (λ t f s text told a. subst IsReplyStatus (sym a.done) tt)
  where
    some : (t : Named) (symbols : List ℕ) (f : Flat) → IsGiven bytes word l t symbols → ComesTo t.machine l symbols f
        → HasAnswer (TellsLayout t f)
    some t symbols f is comes = (
      statuses.Done,
      layout_text t f.translation f.layout f.names,
      [],
      record { text_is = refl; done = refl; silent = refl },
    )

    one : (t : Named) (symbols : List ℕ) (f g : Flat) → IsGiven bytes word l t symbols → ComesTo t.machine l symbols f
        → ComesTo t.machine l symbols g →
        (s u : Status) (a b : List ℕ) (x y : List Place) → TellsLayout t f s a x → TellsLayout t g u b y
        → AgreeInAll s u a b x y
    one t symbols f g is h k s u a b x y tells other =
        let same = same_boards machines ones bytes word l t symbols f g is h k in
        record {
          statuses = tells.done ∙ sym other.done;
          texts = tells.text_is ∙ (λ i. layout_text t (same.translation i) (same.layout i) (same.names i))
              ∙ sym other.text_is;
          places = tells.silent ∙ sym other.silent;
        }

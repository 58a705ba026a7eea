-- The answer of the command `view`: every layer of the circuit of a machine and a word in a window, after a number of
-- steps (circuit and text are this project's own definitions).
use Rattle.std.specs.Prelude.{◌≡◌, ℕ, List, []}
use Rattle.bn_circuits.specs.declared.place.Place.{Place}
use Rattle.bn_machine.specs.Outcome.{Limits}
use Rattle.bn_table.specs.Rows.{Named}
use Rattle.bn_boards.specs.Layouts.{IsNamedExit}
use Rattle.bn_boards.specs.Flats.{Flat}
use Rattle.bn_reply.specs.Answering.{IsSettled}
use Rattle.bn_reply.specs.declared.status.Status.{Status}
use Rattle.bn_reply.specs.declared.status.Status.TheVariants.{Done}
use Rattle.bn_reply_relations.specs.RunReply.{board_after}
use Rattle.bn_network.specs.Limits.{AreSmall}
use Rattle.bn_reply_relations.specs.Windows.{WindowReplies}
use Rattle.bn_view.specs.Viewed.{IsViewOf}
use Rattle.bn_view.specs.declared.layers.Layers.{Layers}
use Rattle.bn_reply_views.specs.ViewText.{view_text}

-- the text is that of the view of the circuit after this many steps, or after as many as can be made; a watch receives
-- nothing
pub record TellsView (steps : ℕ) (t : Named) (f : Flat) (status : Status) (text : List ℕ)
    (told : List Place) : Type 0 where
  pub view : Layers
  pub is_view : IsViewOf f (board_after f steps) view
  pub is_named : IsNamedExit f.layout (board_after f steps).place view.exit
  pub status_is : status ≡ Done
  pub text_is : text ≡ view_text t f view
  pub silent : told ≡ []

-- the answer of `view` to a greatest number of steps, a word, limits and these bytes
abbrev pub ViewReplies : ℕ → List ℕ → Limits → List ℕ → Status → List ℕ → List Place → Type 0
ViewReplies steps = WindowReplies (TellsView steps)

-- it has exactly one answer to all numbers of steps, words, allowed limits and bytes
abbrev pub ViewIsSettled : Type 0
ViewIsSettled = (steps : ℕ) (word : List ℕ) (l : Limits) (bytes : List ℕ) → AreSmall l
    → IsSettled (ViewReplies steps word l bytes)

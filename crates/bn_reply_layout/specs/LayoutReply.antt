-- The answer of the command `layout`: the parts of the circuit of a machine and a word in a window (circuit and text
-- are this project's own definitions).
use Rattle.std.specs.Prelude.{◌≡◌, ℕ, List, []}
use Rattle.bn_circuits.specs.declared.place.Place.{Place}
use Rattle.bn_machine.specs.Outcome.{Limits}
use Rattle.bn_network.specs.Limits.{AreSmall}
use Rattle.bn_table.specs.Rows.{Named}
use Rattle.bn_boards.specs.Flats.{Flat}
use Rattle.bn_reply.specs.Answering.{IsSettled}
use Rattle.bn_reply.specs.declared.status.Status.{Status}
use Rattle.bn_reply.specs.declared.status.Status.TheVariants.{Done}
use Rattle.bn_reply_relations.specs.Windows.{WindowReplies}
use Rattle.bn_reply_layout.specs.LayoutText.{layout_text}

-- the text is that of the circuit's layout, with the control's states in their order; a watch receives nothing
pub record TellsLayout (t : Named) (f : Flat) (status : Status) (text : List ℕ) (told : List Place) : Type 0 where
  pub text_is : text ≡ layout_text t f.translation f.layout f.names
  pub done : status ≡ Done
  pub silent : told ≡ []

-- the answer of `layout` to a word, limits and these bytes
abbrev pub LayoutReplies : List ℕ → Limits → List ℕ → Status → List ℕ → List Place → Type 0
LayoutReplies = WindowReplies TellsLayout

-- it has exactly one answer to all words, allowed limits and bytes
abbrev pub LayoutIsSettled : Type 0
LayoutIsSettled = (word : List ℕ) (l : Limits) (bytes : List ℕ) → AreSmall l → IsSettled (LayoutReplies word l bytes)

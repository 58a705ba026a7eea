-- The statements of the laws of this crate, each a field of `Laws`.
use Rattle.std.specs.Prelude.{◌≡◌, ℕ, List, ◌++◌}
use Rattle.bn_circuits.specs.declared.place.Place.{Place}
use Rattle.bn_machine.specs.Outcome.{Limits}
use Rattle.bn_netlist_laws.specs.Spelling.{Spelling, Spelled}
use Rattle.bn_netlist_laws.specs.declared.version.Version.TheVariants.{Two}
use Rattle.bn_reply_relations.specs.CircuitReply.{StepReplies}
use Rattle.bn_reply.specs.declared.status.Status.{Status}
use Rattle.bn_reply.specs.declared.status.Status.TheVariants.{Done}
use Rattle.bn_reply_relations.specs.CompileReply.{CompileReplies}
use Rattle.bn_reply_views.specs.ViewReply.{ViewReplies}
use Rattle.bn_reply_views.specs.ViewText.{element_line}

-- The view after a number of steps begins with the place and the steps that `step` reaches from the compiled text in as
-- many steps.
abbrev pub ViewsShowSteps : Type 0
ViewsShowSteps =
    (bytes word : List ℕ) (l : Limits) (steps : ℕ) (text stepped : List ℕ) (status : Status) (told heard : List Place)
    → CompileReplies word l bytes Done text told → StepReplies steps text status stepped heard
    → (seen : List ℕ) (none : List Place) → ViewReplies steps word l bytes Done seen none
    → (s : Spelling) × Spelled Two s stepped
    × ((rest : List ℕ) × (seen ≡ element_line s.config.place s.config.steps ++ rest))

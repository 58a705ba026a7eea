-- A view, a session and `step` with one number of steps show the same place.
use Rattle.std.specs.Prelude.{◌≡◌, ℕ, ◌≤◌, List, [], ◌∷◌, ◌++◌, None}
use Rattle.bn_base.specs.Number.{greatest}
use Rattle.bn_circuits.specs.declared.place.Place.{Place}
use Rattle.bn_machine.specs.Outcome.{Limits}
use Rattle.bn_netlist_laws.specs.Spelling.{Spelling, Spelled}
use Rattle.bn_netlist_laws.specs.declared.version.Version.TheVariants.{Two}
use Rattle.bn_reply_relations.specs.CircuitReply.{StepReplies}
use Rattle.bn_base.specs.Cuts.{IsCut}
use Rattle.bn_reply.specs.declared.status.Status.{Status}
use Rattle.bn_reply.specs.declared.status.Status.TheVariants.{Done}
use Rattle.bn_reply_relations.specs.CompileReply.{CompileReplies}
use Rattle.bn_network.specs.Limits.{AreSmall}
use Rattle.bn_session.specs.Plays.{place_line}
use Rattle.bn_session.specs.Sentences.{Step, View, script_text}
use Rattle.bn_reply_views.specs.ViewReply.{ViewReplies}
use Rattle.bn_reply_views.specs.ViewText.{element_line}
use Rattle.bn_reply_views.specs.SessionReply.{SessionReplies}

-- The text to which `step` takes a compiled text in this many steps, the view after as many, and the answer to a script
-- of this one step show the same place and number of steps.
abbrev pub PlacesAreOneInAll : Type 0
PlacesAreOneInAll =
    (bytes table script word : List ℕ) (l : Limits) (steps : ℕ) (text stepped seen answered : List ℕ)
    (status : Status) (told heard none silent : List Place) → IsCut bytes table script
    → script ≡ script_text (Step steps ∷ []) → steps ≤ greatest → CompileReplies word l table Done text told
    → StepReplies steps text status stepped heard → ViewReplies steps word l table Done seen none
    → SessionReplies word l bytes Done answered silent
    → (s : Spelling) × Spelled Two s stepped
    × ((rest : List ℕ) × (seen ≡ element_line s.config.place s.config.steps ++ rest))
    × (answered ≡ place_line s.config None)

-- if its second line is a view, the script shows after the place what the view after as many steps shows
abbrev pub SessionsShowViews : Type 0
SessionsShowViews =
    (bytes table script word : List ℕ) (l : Limits) (steps : ℕ) (text stepped seen answered : List ℕ)
    (status : Status) (told heard none silent : List Place) → AreSmall l → IsCut bytes table script
    → script ≡ script_text (Step steps ∷ View ∷ []) → steps ≤ greatest → CompileReplies word l table Done text told
    → StepReplies steps text status stepped heard → ViewReplies steps word l table Done seen none
    → SessionReplies word l bytes Done answered silent
    → (s : Spelling) × Spelled Two s stepped
    × ((rest : List ℕ) × (seen ≡ element_line s.config.place s.config.steps ++ rest))
    × (answered ≡ place_line s.config None ++ seen)

-- The answer of the workbench to arguments and bytes: a text, a status, and the places that are reported to a watch
-- (this project's own profile). It uses the definitions of texts, tables and circuits alone.
use Rattle.std.specs.Prelude.{◌≡◌, ℕ, ◌<◌, ◌≤◌, List, [], ◌∷◌, ◌++◌, length, true, false, codes}
use Rattle.bn_circuits.specs.declared.place.Place.{Place}
use Rattle.bn_words.specs.Requests.{Request, HasForm, HasNoForm, reads_input, Step, Back, Check, Machine, Trace}
use Rattle.bn_words.specs.Requests.{Moments, ThreeMoments, Reversible, Inverse, Bennett, Realise, Standard, Build}
use Rattle.bn_words.specs.Requests.{Compile, Drive, Layout, Run, RunAuto, View, Session, Look, Play, Plan, Migrate}
use Rattle.bn_words.specs.Requests.{Mirror, Farm, Generate, Element, Erase, EraseRun, Window, Behaviour}
use Rattle.bn_words.specs.Requests.{Crossings, Equal, Room, Walk}
use Rattle.bn_reply_relations.specs.CompileReply.{CompileReplies}
use Rattle.bn_reply.specs.declared.limits.TheConstants.{MOST_INPUT_BYTES}
use Rattle.bn_reply_relations.specs.RunReply.{RunReplies}
use Rattle.bn_headline.specs.AutoReply.{AutoReplies}
use Rattle.bn_reply_erase.specs.EraseReply.{EraseReplies, EraseRunReplies}
use Rattle.bn_reply_boards.specs.GenerateReply.{GenerateReplies}
use Rattle.bn_reply_relations.specs.CircuitReply.{BackReplies, StepReplies}
use Rattle.bn_reply_circuits.specs.RealiseReply.{RealiseReplies}
use Rattle.bn_reply_circuits.specs.PlanReply.{PlanReplies}
use Rattle.bn_reply_circuits.specs.ElementReply.{ElementReplies}
use Rattle.bn_reply_relations.specs.MigrateReply.{MigrateReplies}
use Rattle.bn_reply_circuits.specs.MirrorReply.{MirrorReplies}
use Rattle.bn_reply_circuits.specs.FarmReply.{FarmReplies}
use Rattle.bn_reply_machines.specs.StandardReply.{StandardTableReplies}
use Rattle.bn_reply_machines.specs.BennettReply.{BennettReplies}
use Rattle.bn_reply_machines.specs.CheckReply.{CheckReplies}
use Rattle.bn_reply_machines.specs.InverseReply.{InverseReplies}
use Rattle.bn_reply_machines.specs.MachineReply.{MachineReplies}
use Rattle.bn_reply_machines.specs.ReversibleReply.{ReversibleReplies}
use Rattle.bn_reply_builds.specs.BuildReply.{BuildReplies}
use Rattle.bn_reply_builds.specs.DriveReply.{DriveReplies}
use Rattle.bn_reply_layout.specs.LayoutReply.{LayoutReplies}
use Rattle.bn_reply_looks.specs.LookReply.{LookReplies}
use Rattle.bn_reply_looks.specs.PlayReply.{PlayReplies}
use Rattle.bn_reply_traces.specs.MomentsReply.{MomentsReplies, ThreeMomentsReplies}
use Rattle.bn_reply_traces.specs.TraceReply.{TraceReplies}
use Rattle.bn_reply_views.specs.SessionReply.{SessionReplies}
use Rattle.bn_reply_views.specs.ViewReply.{ViewReplies}
use Rattle.bn_reply_windows.specs.WindowReply.{WindowReplies}
use Rattle.bn_reply_behaviours.specs.BehaviourReply.{BehaviourReplies}
use Rattle.bn_reply_behaviours.specs.CrossingsReply.{CrossingsReplies}
use Rattle.bn_reply_equal.specs.EqualReply.{EqualReplies}
use Rattle.bn_reply_rooms.specs.RoomReply.{RoomReplies}
use Rattle.bn_reply_walks.specs.WalkReply.{WalkReplies}
use Rattle.bn_reply.specs.Streams.{size_text}
use Rattle.bn_reply.specs.declared.status.Status.{Status}
use Rattle.bn_reply.specs.declared.status.Status.TheVariants.{Usage, Size}

-- the line that is printed for arguments that have no form
abbrev pub usage_text : List ℕ
usage_text = codes "usage" ++ 10 ∷ []

-- the answer to a request and an input within the limit
abbrev pub Replies : Request → List ℕ → Status → List ℕ → List Place → Type 0
Replies (Step e) = StepReplies e
Replies (Back e) = BackReplies e
Replies Check = CheckReplies
Replies (Machine word n) = MachineReplies word n
Replies (Trace word n) = TraceReplies word n
Replies (Moments word n) = MomentsReplies word n
Replies (ThreeMoments first second third n) = ThreeMomentsReplies first second third n
Replies Reversible = ReversibleReplies
Replies Inverse = InverseReplies
Replies Bennett = BennettReplies
Replies (Realise q i) = RealiseReplies q i
Replies Standard = StandardTableReplies
Replies (Compile word l) = CompileReplies word l
Replies (Layout word l) = LayoutReplies word l
Replies (Build words l) = BuildReplies words l
Replies (Drive words l e) = DriveReplies words l e
Replies (Run word l given) = RunReplies given word l
Replies (RunAuto word) = AutoReplies word
Replies (View word l e) = ViewReplies e word l
Replies (Session word l) = SessionReplies word l
Replies (Look words l e) = LookReplies words l e
Replies (Play words l) = PlayReplies words l
Replies Plan = PlanReplies
Replies Migrate = MigrateReplies
Replies Mirror = MirrorReplies
Replies Farm = FarmReplies
Replies (Generate k) = λ bytes. GenerateReplies k
Replies (Element k n) = λ bytes. ElementReplies k n
Replies Erase = EraseReplies
Replies (EraseRun word n) = EraseRunReplies word n
Replies (Window word n) = WindowReplies word n
Replies (Behaviour n e names) = BehaviourReplies n e names
Replies (Crossings n e names) = CrossingsReplies n e names
Replies (Equal q r) = EqualReplies q r
Replies (Room words n) = RoomReplies words n
Replies Walk = WalkReplies

-- The answer, by the first case that applies: the arguments have no form; they ask for a command that reads no input;
-- the input is too long; otherwise the answer to the request and the input.
pub data Answers (words : List (List ℕ)) (bytes : List ℕ) (status : Status) (text : List ℕ)
    (told : List Place) : Type 0 where
  no_form : HasNoForm words → status ≡ Usage → text ≡ usage_text → told ≡ [] → Answers words bytes status text told
  unread : (request : Request) → HasForm words request → reads_input request ≡ false →
      Replies request [] status text told → Answers words bytes status text told
  too_long : (request : Request) → HasForm words request → reads_input request ≡ true
      → MOST_INPUT_BYTES < length bytes →
      status ≡ Size → text ≡ size_text → told ≡ [] → Answers words bytes status text told
  replied : (request : Request) → HasForm words request → reads_input request ≡ true
      → length bytes ≤ MOST_INPUT_BYTES →
      Replies request bytes status text told → Answers words bytes status text told

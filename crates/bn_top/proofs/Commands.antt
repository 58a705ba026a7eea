-- What each command needs of proofs: the law that it has one answer and only one, and that its reply is the one to the
-- request.
use Rattle.std.specs.Prelude.{◌≡◌, ℕ, true, List, [], Option, Result, IfOk, OnErr, refl}
use Rattle.std.proofs.Common.{sym, subst}
use Rattle.bn_circuits.specs.declared.place.Place.{Place}
use Rattle.bn_words.specs.Requests.{HasForm, IsAllowed, Request, of_configuration, of_whole, reads_input, Step, Back}
use Rattle.bn_words.specs.Requests.{Check, Machine, Trace, Moments, ThreeMoments, Reversible, Inverse, Bennett, Realise}
use Rattle.bn_words.specs.Requests.{Standard, Build, Compile, Drive, Layout, Run, RunAuto, View, Session, Look, Play}
use Rattle.bn_words.specs.Requests.{Plan, Migrate, Mirror, Farm, Generate, Element, Erase, EraseRun, Window}
use Rattle.bn_words.specs.Requests.{Behaviour, Crossings, Equal, Room, Walk}
use Rattle.bn_words.specs.declared.request.ConfigurationRequest as configuration
use Rattle.bn_words.specs.declared.request.ConfigurationRequest.TheVariants as configuration_variants
use Rattle.bn_words.specs.declared.request.WholeRequest as whole
use Rattle.bn_words.specs.declared.request.WholeRequest.TheVariants as whole_variants
use Rattle.bn_headline.proofs.WindowClosedLemmas.{auto_settled}
use Rattle.bn_reply.specs.Answering.{IsSettled}
use Rattle.bn_reply.specs.Replying.{IsReplied, IsUnfinished}
use Rattle.bn_reply.specs.declared.reply.Reply.{Reply}
use Rattle.bn_reply.specs.declared.status.Status.{Status}
use Rattle.bn_lists.specs.declared.memory.NoMemory.{NoMemory as WantOfMemory}
use Rattle.bn_reply.specs.Ends.{FinishesReply}
use Rattle.bn_reply.specs.Outside.{Outside}
use Rattle.bn_reply.specs.Streams.{AnswerEnds, StreamEnds}
use Rattle.bn_reply.proofs.ReplyLemmas.{given_ends, silent_ends}
use Rattle.bn_reply_erase.proofs.SettledLemmas.{erase_settled, erase_run_settled}
use Rattle.bn_reply_boards.proofs.GenerateLemmas.{generate_settled}
use Rattle.bn_reply_relations.proofs.SettledLemmas.{back_settled, migrate_settled, step_settled}
use Rattle.bn_reply_circuits.proofs.MirrorLemmas.{mirror_settled}
use Rattle.bn_reply_circuits.proofs.FarmReplyLemmas.{farm-settled}
use Rattle.bn_reply_circuits.proofs.RealiseLemmas.{realise_settled}
use Rattle.bn_reply_behaviours.specs.BehaviourReply.{behaviour_text}
use Rattle.bn_reply_behaviours.specs.CrossingsReply.{crossings_text}
use Rattle.bn_reply_behaviours.proofs.SettledLemmas.{exploring_settled}
use Rattle.bn_reply_equal.proofs.SettledLemmas.{equal_settled}
use Rattle.bn_reply_windows.proofs.WindowLemmas.{window_settled}
use Rattle.bn_reply_rooms.proofs.RoomLemmas.{room_settled}
use Rattle.bn_reply_walks.proofs.SettledLemmas.{walk_settled}
use Rattle.bn_reply_machines.proofs.StandardLemmas.{standard_settled}
use Rattle.bn_reply_circuits.proofs.PlanReplyLemmas.{plan_settled}
use Rattle.bn_reply_circuits.proofs.ElementReplyLemmas.{element_settled}
use Rattle.bn_reply_machines.proofs.BennettLemmas.{bennett_settled}
use Rattle.bn_reply_machines.proofs.CheckLemmas.{check_settled}
use Rattle.bn_reply_machines.proofs.InverseLemmas.{inverse_settled}
use Rattle.bn_reply_machines.proofs.MachineLemmas.{machine_settled}
use Rattle.bn_reply_machines.proofs.ReversibleLemmas.{reversible_settled}
use Rattle.bn_reply_relations.proofs.ClosedLemmas.{compile_settled, run_settled}
use Rattle.bn_reply_traces.proofs.MomentsSettled.{moments_are_settled}
use Rattle.bn_reply_traces.proofs.TraceLemmas.{all_settled}
use Rattle.bn_reply_builds.proofs.SettledLemmas.{build_is_settled}
use Rattle.bn_reply_builds.proofs.DriveSettledLemmas.{drive_is_settled}
use Rattle.bn_reply_layout.proofs.ClosedLemmas.{layout_is_settled}
use Rattle.bn_reply_looks.proofs.SettledLemmas.{look_settled, play_settled}
use Rattle.bn_reply_views.proofs.SessionClosedLemmas.{session_settled}
use Rattle.bn_reply_views.proofs.ViewClosedLemmas.{view_settled}
use Rattle.bn_top.specs.Answers.{Replies}

-- ---- the laws

settled_by : (request : Request) → IsAllowed request → (bytes : List ℕ) → IsSettled (Replies request bytes)
settled_by (Step e) allowed = step_settled e
settled_by (Back e) allowed = back_settled e
settled_by Check allowed = check_settled
settled_by (Machine word n) allowed = machine_settled word n
settled_by (Trace word n) allowed = all_settled word n
settled_by (Moments word n) allowed = moments_are_settled.one_word word n
settled_by (ThreeMoments first second third n) allowed = moments_are_settled.three_words first second third n
settled_by Reversible allowed = reversible_settled
settled_by Inverse allowed = inverse_settled
settled_by Bennett allowed = bennett_settled
settled_by (Realise q i) allowed = λ bytes. realise_settled q i bytes allowed.0.0 allowed.1.0
settled_by Standard allowed = standard_settled
settled_by (Compile word l) allowed = λ bytes. compile_settled word l bytes allowed
settled_by (Layout word l) allowed = λ bytes. layout_is_settled word l bytes allowed
settled_by (Build words l) allowed = build_is_settled words l
settled_by (Drive words l e) allowed = λ bytes. drive_is_settled words l e bytes allowed.1
settled_by (Run word l given) allowed = λ bytes. run_settled given word l bytes allowed.0
settled_by (RunAuto word) allowed = auto_settled word
settled_by (View word l e) allowed = λ bytes. view_settled e word l bytes allowed.0
settled_by (Session word l) allowed = λ bytes. session_settled word l bytes allowed
settled_by (Look words l e) allowed = look_settled words l e
settled_by (Play words l) allowed = play_settled words l
settled_by Plan allowed = plan_settled
settled_by Migrate allowed = migrate_settled
settled_by Mirror allowed = mirror_settled
settled_by Farm allowed = farm-settled
settled_by (Generate k) allowed = λ bytes. generate_settled k allowed
settled_by (Element k n) allowed = λ bytes. element_settled k n
settled_by Erase allowed = erase_settled
settled_by (EraseRun word n) allowed = erase_run_settled word n
settled_by (Window word n) allowed = window_settled word n
settled_by (Behaviour n e names) allowed = λ bytes. exploring_settled behaviour_text n e names bytes allowed.0.0
settled_by (Crossings n e names) allowed = λ bytes. exploring_settled crossings_text n e names bytes allowed.0.0
settled_by (Equal q r) allowed = λ bytes. equal_settled q r bytes allowed.0.0 allowed.1.0
settled_by (Room words n) allowed = room_settled words n
settled_by Walk allowed = walk_settled

-- what is asked for has one answer and only one
pub settled : (words : List (List ℕ)) (request : Request) → HasForm words request → (bytes : List ℕ)
    → IsSettled (Replies request bytes)
settled words request form = settled_by request form.allowed

-- ---- the replies, for the match: what is answered to a request is answered to what was asked, where it is this one

module _ (asked request : whole.WholeRequest) (is : asked ≡ request) (bytes : List ℕ) (result : Status)
    (taken took : Option (List ℕ)) (before now : ℕ) where
  pub given : (told heard : Option (List Place)) →
      AnswerEnds (Replies (of_whole request) bytes) result taken took before now told heard →
      AnswerEnds (Replies (of_whole asked) bytes) result taken took before now told heard
  given told heard h =
      subst (λ r. AnswerEnds (Replies (of_whole r) bytes) result taken took before now told heard) (sym is) h

  -- a reply that tells a watch nothing, and one that does
  pub silently : (reply : Result Reply WantOfMemory) (told : Option (List Place)) →
      IfOk reply (λ r. Replies (of_whole request) bytes r.status r.text.items []) →
      FinishesReply reply result taken took before now →
      AnswerEnds (Replies (of_whole asked) bytes) result taken took before now told told
  silently reply told right ends =
      given told told (silent_ends (Replies (of_whole request) bytes) reply result taken took before now told right
      ends)

  pub aloud : (reply : Result Reply WantOfMemory) (told heard : Option (List Place)) →
      IfOk reply (λ r. IsReplied (Replies (of_whole request) bytes) r told heard) →
      OnErr reply (IsUnfinished (Replies (of_whole request) bytes) told heard) →
      FinishesReply reply result taken took before now →
      AnswerEnds (Replies (of_whole asked) bytes) result taken took before now told heard
  aloud reply told heard right unfinished ends =
      given told heard
      (given_ends (Replies (of_whole request) bytes) reply result taken took before now told heard right unfinished
      ends)

-- the same of what reads in pieces
pub stream_as : (asked request : configuration.ConfigurationRequest) → asked ≡ request → (result : Status)
    (b a : Outside) → StreamEnds (Replies (of_configuration request)) result b a →
    StreamEnds (Replies (of_configuration asked)) result b a
stream_as asked request is result b a h = subst (λ r. StreamEnds (Replies (of_configuration r)) result b a) (sym is) h

-- both read an input
pub configuration_reads : (asked : configuration.ConfigurationRequest) → reads_input (of_configuration asked) ≡ true
configuration_reads (configuration_variants.Step e) = refl
configuration_reads (configuration_variants.Back e) = refl
configuration_reads configuration_variants.Plan = refl
configuration_reads configuration_variants.Migrate = refl
configuration_reads configuration_variants.Mirror = refl
configuration_reads (configuration_variants.Behaviour n e names) = refl
configuration_reads (configuration_variants.Crossings n e names) = refl

pub whole_reads : (asked : whole.WholeRequest) → reads_input (of_whole asked) ≡ true
whole_reads whole_variants.Check = refl
whole_reads (whole_variants.Machine word n) = refl
whole_reads (whole_variants.Trace word n) = refl
whole_reads (whole_variants.Moments word n) = refl
whole_reads (whole_variants.ThreeMoments first second third n) = refl
whole_reads whole_variants.Reversible = refl
whole_reads whole_variants.Inverse = refl
whole_reads whole_variants.Bennett = refl
whole_reads (whole_variants.Realise q i) = refl
whole_reads whole_variants.Standard = refl
whole_reads (whole_variants.Compile word window) = refl
whole_reads (whole_variants.Layout word window) = refl
whole_reads (whole_variants.Build words window) = refl
whole_reads (whole_variants.Drive words window e) = refl
whole_reads (whole_variants.Run word window given) = refl
whole_reads (whole_variants.RunAuto word) = refl
whole_reads (whole_variants.View word window e) = refl
whole_reads (whole_variants.Session word window) = refl
whole_reads (whole_variants.Look words window e) = refl
whole_reads (whole_variants.Play words window) = refl
whole_reads whole_variants.Farm = refl
whole_reads whole_variants.Erase = refl
whole_reads (whole_variants.EraseRun word n) = refl
whole_reads (whole_variants.Window word n) = refl
whole_reads (whole_variants.Equal q r) = refl
whole_reads (whole_variants.Room words n) = refl
whole_reads whole_variants.Walk = refl

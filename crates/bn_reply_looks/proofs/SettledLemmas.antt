-- `look` and `play` have one answer to all words, windows, numbers of steps and bytes.
use Rattle.std.specs.Prelude.{◌≡◌, ℕ, ◌*◌, ◌≤◌, List, [], slice_get, Some, refl}
use Rattle.std.proofs.Common.{arith, sym, ap, subst, ◌∙◌}
use Rattle.bn_lists.specs.Runs.{Reaches}
use Rattle.bn_circuits.specs.Alike.{AreAlike}
use Rattle.bn_circuits.specs.Circuits.{Goes, clock}
use Rattle.bn_circuits.specs.Stepping.{run}
use Rattle.bn_circuits.specs.declared.config.Config.{Config}
use Rattle.bn_circuits.specs.declared.place.Place.{Place}
use Rattle.bn_circuits.proofs.AlikeLemmas.{run-alike}
use Rattle.bn_circuits.proofs.RunLemmas.{run_makes}
use Rattle.bn_csv.proofs.NumberingLemmas.{firsts_number}
use Rattle.bn_machine.specs.Outcome.{Limits}
use Rattle.bn_quad.specs.Names.{AreApart}
use Rattle.bn_quad.specs.Quadruples.{Configuration}
use Rattle.bn_qtable.specs.Reading.{ReadsQuadruples}
use Rattle.bn_qtable.specs.Rows.{QuadTable}
use Rattle.bn_network.specs.Starts.{AreInputs, start_from, words_on}
use Rattle.bn_boards.specs.Layouts.{Layout, moment_at}
use Rattle.bn_boards.specs.Builds.{Build, IsStart, build_elements, start_of}
use Rattle.bn_reply.specs.Answering.{HasAnswer, AgreeInAll}
use Rattle.bn_reply.specs.Codes.{IsReplyStatus}
use Rattle.bn_reply.specs.declared.status.Status.{Status}
use Rattle.bn_reply.specs.declared.status.Status.TheVariants as statuses
use Rattle.bn_reply_builds.specs.BuildReply.{BuiltReplies, IsBuiltFor}
use Rattle.bn_reply_builds.proofs.AlikeLemmas.{circuits, ends_as, layouts, machines, starts}
use Rattle.bn_reply_builds.proofs.BuiltLemmas.{build_begins}
use Rattle.bn_reply_builds.proofs.SettledLemmas.{AreToldOnce, built_settled}
use Rattle.bn_session.specs.Laws.{IsOnRun}
use Rattle.bn_session.specs.Plays.{Plays, Session, session}
use Rattle.bn_session.specs.declared.command.Command.{Command}
use Rattle.bn_session.proofs.PlayedLemmas.{follow-all, on-by, one-all, there-all}
use Rattle.bn_reply_scripts.proofs.AlikeLemmas.{plays_alike}
use Rattle.bn_reply_scripts.proofs.ScriptLemmas.{cut_settled, script_answered, script_as, script_once, script_status}
use Rattle.bn_reply_looks.specs.Looking.{ShowsBuild}
use Rattle.bn_reply_looks.specs.LookReply.{LookIsSettled, TellsLook}
use Rattle.bn_reply_looks.specs.PlayReply.{IsPlayOf, PlayIsSettled, TellsPlay}
use Rattle.bn_reply_looks.proofs.ShownLemmas.{shows_as, shows_once, shows_there}

-- the names of the states of a table that was read are apart
pub states_apart : (bytes : List ℕ) (t : QuadTable) → ReadsQuadruples bytes t → AreApart t.names.states
states_apart bytes t reads = record {
  same = λ name m n at also.
      (firsts_number _).apart name m n
      (subst (λ (z : List (List ℕ)). slice_get z m ≡ Some name) reads.spelled.states_by_first at)
      (subst (λ (z : List (List ℕ)). slice_get z n ≡ Some name) reads.spelled.states_by_first also);
}

module _ (t : QuadTable) (l : Limits) (one two three : List ℕ) (inputs : AreInputs t.machine l one two three) where
  abbrev c : Configuration ℕ
  c = words_on t.machine one two three

  room : (f : Build) → IsBuiltFor t.machine l f → 48 * build_elements f ≤ clock
  room f h = let few : build_elements f ≤ 4194304 = h.few in omega (arith, few)

  begins : (f : Build) → IsBuiltFor t.machine l f → IsStart f c (start_from f.machine f.limits c) (start_of f c)
  begins f h = build_begins t.machine l one two three inputs f h

  -- ---- two builds

  module _ (f g : Build) (h : IsBuiltFor t.machine l f) (k : IsBuiltFor t.machine l g) where
    abbrev alike : AreAlike f.circuit g.circuit
    alike = circuits t.machine l f g h k

    abbrev begin : start_of f c ≡ start_of g c
    begin = starts t.machine l f g h k c

    runs : (u : ℕ) → run f.circuit (start_of f c) u ≡ run g.circuit (start_of g c) u
    runs u = run-alike f.circuit g.circuit alike (start_of f c) u ∙ ap (λ x. run g.circuit x u) begin

    -- what shows the one board where its run comes to shows the other
    text_there : (d : Config) (text : List ℕ) (n : ℕ) → Reaches (Goes g.circuit) n (start_of g c) d
        → ShowsBuild t f c d text
        → ShowsBuild t g c d text
    text_there d text n path =
        shows_as t g k.build (room g k) c (begins g k) n d path f c (sym (machines t.machine l f g h k))
        (layouts t.machine l f g h k) runs (λ m x e. ends_as t.machine l f g h k c m x e) text

  -- ---- `look`

  module _ (steps : ℕ) where
    look_there : (f : Build) → IsBuiltFor t.machine l f → HasAnswer (TellsLook steps t c f)
    look_there f h =
        let made = run_makes f.circuit (start_of f c) steps in
        let text = shows_there t f h.build (room f h) c (begins f h) made.made (run f.circuit (start_of f c) steps)
        made.reaches in
        (statuses.Done, text.0, [], record { shows = text.1; status_is = refl; silent = refl })

    look_one : (f g : Build) → IsBuiltFor t.machine l f → IsBuiltFor t.machine l g → (s u : Status) (a b : List ℕ)
        (x y : List Place) → TellsLook steps t c f s a x → TellsLook steps t c g u b y → AgreeInAll s u a b x y
    look_one f g h k s u a b x y told also =
        let made = run_makes g.circuit (start_of g c) steps in
        let there : Config = run g.circuit (start_of g c) steps in
        let same = subst (λ (d : Config). ShowsBuild t f c d a) (runs f g h k steps) told.shows in
        let moved = text_there f g h k there a made.made made.reaches same in
        record {
          statuses = told.status_is ∙ sym also.status_is;
          texts = shows_once t g k.build (room g k) c (begins g k) made.made there made.reaches a b moved also.shows;
          places = told.silent ∙ sym also.silent;
        }

    look_once : AreToldOnce (TellsLook steps t c) t.machine l
    look_once = record {
      some = look_there;
      one = look_one;
      status = λ f h s text told tells. subst IsReplyStatus (sym tells.status_is) tt;
    }

  -- ---- `play`

  module _ (f : Build) (h : IsBuiltFor t.machine l f) where
    abbrev OnRun : Config → List ℕ → Type 0
    OnRun d text = Reaches (Goes f.circuit) d.steps (start_of f c) d × ShowsBuild t f c d text

    begun : IsOnRun f.circuit (start_of f c) (session (start_of f c) [])
    begun = refl

    one_text : (d : Config) (text other : List ℕ) → OnRun d text → OnRun d other → text ≡ other
    one_text d text other a b = shows_once t f h.build (room f h) c (begins f h) d.steps d a.0 text other a.1 b.1

    on_run : (xs : List Command) (end : Session) (text : List ℕ)
        → Plays f.circuit (moment_at f.layout) (ShowsBuild t f c) xs (session (start_of f c) []) end text
        → Plays f.circuit (moment_at f.layout) OnRun xs (session (start_of f c) []) end text
    on_run xs end text plays =
        follow-all f.circuit (moment_at f.layout) (ShowsBuild t f c) (start_of f c) refl h.build.is_board.circuit OnRun
        (λ d shown path tells. (path, tells)) xs (session (start_of f c) []) end text begun plays

    play_once : (xs : List Command) (text other : List ℕ) → IsPlayOf t c f xs text → IsPlayOf t c f xs other
        → text ≡ other
    play_once xs text other a b =
        (one-all f.circuit (moment_at f.layout) OnRun one_text xs (session (start_of f c) []) a.0 b.0 text other
        (on_run xs a.0 text a.1) (on_run xs b.0 other b.1)).1

    play_there : (xs : List Command) → (text : List ℕ) × IsPlayOf t c f xs text
    play_there xs =
        let made = there-all f.circuit (moment_at f.layout) (ShowsBuild t f c) (IsOnRun f.circuit (start_of f c))
        (λ x s u text on plays. on-by f.circuit (moment_at f.layout) (ShowsBuild t f c) (start_of f c) refl
        h.build.is_board.circuit x s u text on plays)
        (λ s on. shows_there t f h.build (room f h) c (begins f h) s.config.steps s.config on)
        xs (session (start_of f c) []) begun in
        (made.1, (made.0, made.2))

  play_as : (f g : Build) → IsBuiltFor t.machine l f → IsBuiltFor t.machine l g → (xs : List Command) (text : List ℕ)
      → IsPlayOf t c f xs text → IsPlayOf t c g xs text
  play_as f g h k xs text played =
      let end = played.0 in
      let by = plays_alike f.circuit g.circuit (alike f g h k) (moment_at f.layout) (ShowsBuild t f c) xs
      (session (start_of f c) []) end text played.1 in
      let laid = subst (λ (b : Layout). Plays g.circuit (moment_at b) (ShowsBuild t f c) xs (session (start_of f c) [])
      end
      text) (layouts t.machine l f g h k) by in
      let from = subst (λ (d : Config). Plays g.circuit (moment_at g.layout) (ShowsBuild t f c) xs (session d []) end
      text)
      (begin f g h k) laid in (
        end,
        follow-all g.circuit (moment_at g.layout) (ShowsBuild t f c) (start_of g c) refl k.build.is_board.circuit
            (ShowsBuild t g c) (λ d shown path. text_there f g h k d shown d.steps path) xs (session (start_of g c) [])
            end
            text (begun g k) from,
      )

  plays_told : (script : List ℕ) → AreApart t.names.states → AreToldOnce (TellsPlay script t c) t.machine l
  plays_told script apart = record {
    some = λ f h. script_answered (Some t.names.states) (IsPlayOf t c f) script (play_there f h);
    one = λ f g h k s u a b x y told also.
        script_once (Some t.names.states) (IsPlayOf t c g) script apart (play_once g k) s u a b x y
        (script_as (Some t.names.states) (Some t.names.states) (IsPlayOf t c f) (IsPlayOf t c g) script refl
        (play_as f g h k) s a x
        told)
        also;
    status = λ f h s text told tells. script_status (Some t.names.states) (IsPlayOf t c f) script s text told tells;
  }

-- ---- the commands

pub look_settled : LookIsSettled
look_settled words l steps bytes =
    built_settled (λ t one two three. TellsLook steps t (words_on t.machine one two three)) words l bytes
    (λ t reads even one two three named inputs. look_once t l one two three inputs steps)

pub play_settled : PlayIsSettled
play_settled words l bytes =
    cut_settled (λ table script. BuiltReplies (λ t one two three. TellsPlay script t (words_on t.machine one two three))
    words l table) bytes (λ table script.
    built_settled (λ t one two three. TellsPlay script t (words_on t.machine one two three)) words l table
    (λ t reads even one two three named inputs.
    plays_told t l one two three inputs script (states_apart table t reads)))

-- What `session` answers is one.
use Rattle.std.specs.Prelude.{◌≡◌, ℕ, List, [], Some, refl}
use Rattle.std.proofs.Common.{sym, ap, subst, ◌∙◌}
use Rattle.std.proofs.lemmas.Slice.Eq.{bytes_eq-Decides}
use Rattle.std.specs.Prelude.{bytes_eq}
use Rattle.bn_lists.specs.Runs.{Reaches}
use Rattle.bn_circuits.specs.Circuits.{Goes}
use Rattle.bn_circuits.proofs.RunLemmas.{Reaches-run}
use Rattle.bn_circuits.specs.declared.place.Place.{Place}
use Rattle.bn_circuits.specs.declared.config.Config.{Config}
use Rattle.bn_csv.specs.NumberingLaws.{AreApart as ApartBy}
use Rattle.bn_csv.proofs.NumberingLemmas.{apart-firsts, one_number}
use Rattle.bn_quad.specs.Names.{AreApart}
use Rattle.bn_machine.specs.Machine.{Program}
use Rattle.bn_machine.specs.Outcome.{Limits}
use Rattle.bn_table.specs.Laws.{TablesAreMachines}
use Rattle.bn_table.specs.Rows.{Named}
use Rattle.bn_bennett_laws.proofs.Counts.{list_has_length, list_has_names, list_is_in_range}
use Rattle.bn_bennett.specs.Printed.{translation_names}
use Rattle.bn_bennett.specs.Translation.{Translation}
use Rattle.bn_bennett.proofs.Tables.{is_table}
use Rattle.bn_boards.specs.ExistenceLaws.{FlatsAreThere}
use Rattle.bn_boards.specs.Layouts.{Layout, moment_at}
use Rattle.bn_boards.specs.Flats.{AreSameFlats, Flat, IsAccepted, IsFlatOf, flat_start}
use Rattle.bn_boards.specs.LayoutLaws.{FlatsAreOne}
use Rattle.bn_reply.specs.Answering.{AgreeInAll, HasAnswer, IsOneAnswer, IsSettled}
use Rattle.bn_reply.specs.declared.status.Status.{Status}
use Rattle.bn_reply.specs.TableReply.{ReadsStandard}
use Rattle.bn_reply.proofs.TableLemmas.{reads_table}
use Rattle.bn_reply_relations.specs.ToldRuns.{IsGiven}
use Rattle.bn_reply_relations.specs.Laws.{BoardsAreCounted}
use Rattle.bn_reply_relations.specs.RunReply.{board_after}
use Rattle.bn_network.specs.Limits.{AreSmall}
use Rattle.bn_reply_relations.specs.Windows.{ComesTo, WindowReplies}
use Rattle.bn_reply_relations.proofs.TellingLemmas.{after_same, same_boards}
use Rattle.bn_reply_relations.proofs.WindowLemmas.{given_accepted, window_settled}
use Rattle.bn_view.specs.Laws.{ViewsAreOne, ViewsAreThere}
use Rattle.bn_view.specs.Viewed.{IsViewOf}
use Rattle.bn_reply_views.specs.Showing.{TellsLayers}
use Rattle.bn_reply_views.specs.ViewText.{view_text}
use Rattle.bn_reply_views.proofs.ViewSettledLemmas.{text_same, turned, view_there}
use Rattle.bn_session.specs.Laws.{IsOnRun}
use Rattle.bn_session.specs.Plays.{Plays, Session, session}
use Rattle.bn_session.specs.declared.command.Command.{Command}
use Rattle.bn_session.proofs.PlayedLemmas.{follow-all, on-by, one-all, there-all}
use Rattle.bn_reply_views.specs.SessionReply.{IsAnswerTo, SessionIsSettled, TellsSession, state_names_of}
use Rattle.bn_reply_scripts.proofs.ScriptLemmas.{cut_settled, script_answered, script_as, script_once, script_status}
use Rattle.bn_reply_scripts.proofs.AlikeLemmas.{plays_alike}

-- the printed names of a translation's states are apart
pub states_apart : TablesAreMachines → (bytes : List ℕ) (t : Named) (symbols : List ℕ) (l : Limits) (f : Flat)
    → ReadsStandard bytes t →
    ComesTo t.machine l symbols f → AreApart (state_names_of t f)
states_apart machines bytes t symbols l f reads comes =
    let read = reads_table bytes t reads.reads in
    let machine = machines t read in
    let table = is_table t f.translation machine.0 read machine.1 list_has_names list_is_in_range list_has_length
    comes.flat.translation in
    let first = table.spelled.states_by_first in
    record {
      same = λ name m n here there.
          one_number bytes_eq bytes_eq-Decides (state_names_of t f) m n name
          (subst (λ (xs : List (List ℕ)). ApartBy bytes_eq bytes_eq-Decides xs) (sym first)
          (apart-firsts bytes_eq bytes_eq-Decides _)) here there;
    }

-- at its start a board is on its run
starts : (f : Flat) → IsOnRun f.circuit (flat_start f) (session (flat_start f) [])
starts f = refl

-- ---- two boards of one machine, word and limits

module _ (f g : Flat) (same : AreSameFlats f g) (limits : f.limits ≡ g.limits) (t : Named) where
  -- a view of the one where its run comes to is a view of the other
  layers_there : (c : Config) (text : List ℕ) → Reaches (Goes g.circuit) c.steps (flat_start g) c
      → TellsLayers t f c text → TellsLayers t g c text
  layers_there c text path tells =
      let at : board_after g c.steps ≡ c = Reaches-run g.circuit c.steps (flat_start g) c path in
      let there : board_after f c.steps ≡ c = after_same f g same limits c.steps ∙ at in
      let view : IsViewOf f (board_after f c.steps) tells.0 = subst (λ (d : Config). IsViewOf f d tells.0) (sym there)
      tells.1 in
      let moved = view_there f g same limits (turned f g same limits) c.steps tells.0 view in (
        tells.0,
        subst (λ (d : Config). IsViewOf g d tells.0) at moved,
        tells.2 ∙ text_same f g same limits t tells.0,
      )

  told_there : (p : Program) (symbols : List ℕ) (l : Limits) → IsFlatOf p symbols l g
      → (script : List ℕ) (status : Status) (text : List ℕ) (told : List Place) →
      TellsSession script t f status text told → TellsSession script t g status text told
  told_there p symbols l flat script =
      script_as (Some (state_names_of t f)) (Some (state_names_of t g)) (IsAnswerTo t f) (IsAnswerTo t g) script
      (ap (λ (x : Translation). Some (translation_names t x).states) same.translation) answer_there
    where
      answer_there : (xs : List Command) (text : List ℕ) → IsAnswerTo t f xs text → IsAnswerTo t g xs text
      answer_there xs text plays =
          let end = plays.0 in
          let alike = plays_alike f.circuit g.circuit same.circuit (moment_at f.layout) (TellsLayers t f) xs
          (session (flat_start f) []) end text plays.1 in
          let laid = subst (λ (b : Layout). Plays g.circuit (moment_at b) (TellsLayers t f) xs
          (session (flat_start f) []) end text) same.layout alike in
          let begun = subst (λ (c : Config). Plays g.circuit (moment_at g.layout) (TellsLayers t f) xs (session c [])
          end text) same.start laid in (
            end,
            follow-all g.circuit (moment_at g.layout) (TellsLayers t f) (flat_start g) refl flat.is_board.circuit
                (TellsLayers t g) layers_there xs
                (session (flat_start g) []) end text (starts g) begun,
          )

-- ---- one board

module _ (f : Flat) (p : Program) (symbols : List ℕ) (l : Limits) (flat : IsFlatOf p symbols l f)
    (accepted : IsAccepted p symbols l f)
    (views_one : ViewsAreOne) (views_some : ViewsAreThere) (t : Named) (script : List ℕ) where
  -- a view where the run comes to
  abbrev OnRun : Config → List ℕ → Type 0
  OnRun c text = Reaches (Goes f.circuit) c.steps (flat_start f) c × TellsLayers t f c text

  one_text : (c : Config) (text other : List ℕ) → OnRun c text → OnRun c other → text ≡ other
  one_text c text other a b =
      let one = views_one p symbols l f flat accepted c.steps c a.0 a.1.0 b.1.0 a.1.1 b.1.1 in
      a.1.2 ∙ ap (view_text t f) one ∙ sym b.1.2

  on_run : (xs : List Command) (end : Session) (text : List ℕ)
      → Plays f.circuit (moment_at f.layout) (TellsLayers t f) xs (session (flat_start f) []) end text →
      Plays f.circuit (moment_at f.layout) OnRun xs (session (flat_start f) []) end text
  on_run xs end text plays =
      follow-all f.circuit (moment_at f.layout) (TellsLayers t f) (flat_start f) refl flat.is_board.circuit OnRun
      (λ c shown path tells. (path, tells)) xs
      (session (flat_start f) []) end text (starts f) plays

  one_told : AreApart (state_names_of t f) → IsOneAnswer (TellsSession script t f)
  one_told apart = script_once (Some (state_names_of t f)) (IsAnswerTo t f) script apart (λ xs a b plays others.
      (one-all f.circuit (moment_at f.layout) OnRun one_text xs (session (flat_start f) []) plays.0 others.0 a b
      (on_run xs plays.0 a plays.1) (on_run xs others.0 b others.1)).1)

  some_told : HasAnswer (TellsSession script t f)
  some_told = script_answered (Some (state_names_of t f)) (IsAnswerTo t f) script (λ xs.
      let made = there-all f.circuit (moment_at f.layout) (TellsLayers t f) (IsOnRun f.circuit (flat_start f))
      (λ x s u text on plays. on-by f.circuit (moment_at f.layout) (TellsLayers t f) (flat_start f) refl
      flat.is_board.circuit x s u text on plays)
      (λ s on. let v = views_some p symbols l f flat accepted s.config.steps s.config on in
      (view_text t f v.0, (v.0, v.1, refl)))
      xs (session (flat_start f) []) (starts f) in
      (made.1, (made.0, made.2)))

-- ---- the command

module _ (machines : TablesAreMachines) (flats : FlatsAreThere) (ones : FlatsAreOne) (counted : BoardsAreCounted)
    (views_one : ViewsAreOne)
    (views_some : ViewsAreThere) where
  script_settled : (script word : List ℕ) (l : Limits) (table : List ℕ) → AreSmall l
      → IsSettled (WindowReplies (TellsSession script) word l table)
  script_settled script word l table small =
      window_settled (TellsSession script) word l table machines flats counted small some one
      (λ t f. script_status (Some (state_names_of t f)) (IsAnswerTo t f) script)
    where
      some : (t : Named) (symbols : List ℕ) (f : Flat) → IsGiven table word l t symbols → ComesTo t.machine l symbols f
          → HasAnswer (TellsSession script t f)
      some t symbols f is comes =
          some_told f t.machine symbols l comes.flat (given_accepted machines table word l t symbols f is comes)
          views_one views_some t script

      one : (t : Named) (symbols : List ℕ) (f g : Flat) → IsGiven table word l t symbols → ComesTo t.machine l symbols f
          → ComesTo t.machine l symbols g →
          (s u : Status) (a b : List ℕ) (x y : List Place) → TellsSession script t f s a x
          → TellsSession script t g u b y → AgreeInAll s u a b x y
      one t symbols f g is h k s u a b x y tells other =
          let same = same_boards machines ones table word l t symbols f g is h k in
          let limits : f.limits ≡ g.limits = h.flat.limits_are ∙ sym k.flat.limits_are in
          one_told g t.machine symbols l k.flat (given_accepted machines table word l t symbols g is k) views_one
          views_some t script
          (states_apart machines table t symbols l g is.reads k) s u a b x y
          (told_there f g same limits t t.machine symbols l k.flat script s a x tells) other

  pub session_settled : SessionIsSettled
  session_settled word l bytes small =
      cut_settled (λ table script. WindowReplies (TellsSession script) word l table) bytes
      (λ table script. script_settled script word l table small)

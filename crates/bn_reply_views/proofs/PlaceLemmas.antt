-- A view, a session and `step` of one number of steps show one place.
use Rattle.std.specs.Prelude.{◌≡◌, ℕ, ◌≤◌, List, [], ◌∷◌, ◌++◌, None, Some, refl}
use Rattle.std.proofs.Common.{sym, ap, subst, ◌∙◌}
use Rattle.std.proofs.lemmas.List.{append-nil}
use Rattle.bn_reply_relations.specs.CompileReply.{CompileReplies}
use Rattle.bn_reply_relations.specs.CircuitReply.{StepReplies}
use Rattle.bn_reply.specs.declared.status.Status.{Status}
use Rattle.bn_reply_views.specs.ViewReply.{ViewReplies}
use Rattle.bn_circuits.specs.Stepping.{places, run}
use Rattle.bn_circuits.specs.declared.config.Config.{Config}
use Rattle.bn_circuits.proofs.RunLemmas.{Reaches-IsConfig, run_makes}
use Rattle.bn_machine.specs.Outcome.{Limits}
use Rattle.bn_netlist_laws.proofs.EntryLemmas.{has-text}
use Rattle.bn_netlist_laws.proofs.VersionLemmas.{spellings-move}
use Rattle.bn_netlist_laws.specs.Spelling.{Spelling, Spelled, circuit_of, moved_to}
use Rattle.bn_netlist_laws.specs.declared.version.Version.TheVariants.{Two}
use Rattle.bn_table.specs.Rows.{Named}
use Rattle.bn_boards.specs.Flats.{Flat}
use Rattle.bn_reply_relations.specs.CircuitReply.{walked}
use Rattle.bn_reply.specs.TableReply.{WordReplies}
use Rattle.bn_reply.specs.declared.status.Status.TheVariants.{Done}
use Rattle.bn_reply.proofs.SettledLemmas.{standard_tells, word_tells}
use Rattle.bn_reply.proofs.TableLemmas.{reads_table}
use Rattle.bn_reply_relations.specs.RunReply.{board_after}
use Rattle.bn_reply_relations.specs.Windows.{BoardReplies, board, large, long}
use Rattle.bn_reply_relations.proofs.CompileLemmas.{IsCompiled, compiled}
use Rattle.bn_reply_relations.proofs.TellingLemmas.{after_same}
use Rattle.bn_reply_relations.proofs.WindowLemmas.{standard_machine}
use Rattle.bn_reply_views.specs.ViewReply.{TellsView}
use Rattle.bn_reply_views.specs.ViewText.{element_line}
use Rattle.bn_table.proofs.MachineLemmas.{tables_machines}
use Rattle.bn_base.specs.Cuts.{IsCut}
use Rattle.bn_base.proofs.CutLemmas.{cuts-one}
use Rattle.bn_boards.specs.Flats.{flat_start}
use Rattle.bn_boards.specs.Layouts.{moment_at}
use Rattle.bn_network.specs.Limits.{AreSmall}
use Rattle.bn_reply_relations.specs.Windows.{ComesTo, WindowReplies}
use Rattle.bn_reply_relations.specs.ToldRuns.{IsGiven}
use Rattle.bn_reply_relations.proofs.WindowLemmas.{given_accepted}
use Rattle.bn_reply_views.specs.ViewText.{view_text}
use Rattle.bn_reply_views.proofs.SessionSettledLemmas.{states_apart}
use Rattle.bn_reply_views.proofs.SteppedLemmas.{rest_of, runs_as}
use Rattle.bn_reply_views.proofs.ViewClosedLemmas.{one}
use Rattle.bn_reply_views.proofs.ViewSettledLemmas.{text_same, turned, view_there}
use Rattle.bn_boards.proofs.ClosedLemmas.{flats_one}
use Rattle.bn_reply_relations.proofs.SettledLemmas.{circuits_settled}
use Rattle.bn_circuits.specs.declared.place.Place.{Place}
use Rattle.bn_base.specs.Number.{greatest}
use Rattle.bn_session.specs.Plays.{Plays, Session, place_line, session}
use Rattle.bn_session.specs.Scripts.{Names, IsScript}
use Rattle.bn_session.specs.Sentences.{Step, View, script_text}
use Rattle.bn_session.specs.declared.command.Command.{Command}
use Rattle.bn_session.specs.declared.command.Command.TheVariants as commands
use Rattle.bn_session.proofs.OneReading.{scripts-one}
use Rattle.bn_reply_views.specs.Showing.{TellsLayers}
use Rattle.bn_reply_scripts.specs.ScriptReply.{cut, faulty, played, uncut}
use Rattle.bn_reply_views.specs.SessionReply.{SessionReplies, TellsSession, state_names_of}
use Rattle.bn_reply_views.specs.PlaceLaws.{PlacesAreOneInAll, SessionsShowViews}

-- ---- the script of one step

-- its text asks for one step
one_step : (names : Names) (script : List ℕ) (steps : ℕ) → script ≡ script_text (Step steps ∷ [])
    → steps ≤ greatest → IsScript names script (commands.Step steps ∷ [])
one_step names script steps is low = record {
  sentences = Step steps ∷ [];
  spelled = is;
  asked = (commands.Step steps, [], refl, low, refl, refl);
}

-- likewise of one step and a view
step_and_view : (names : Names) (script : List ℕ) (steps : ℕ) → script ≡ script_text (Step steps ∷ View ∷ [])
    → steps ≤ greatest → IsScript names script (commands.Step steps ∷ commands.View ∷ [])
step_and_view names script steps is low = record {
  sentences = Step steps ∷ View ∷ [];
  spelled = is;
  asked = (commands.Step steps, commands.View ∷ [], refl, low, refl, (commands.View, [], refl, tt, refl, refl));
}

-- the first is answered by one place
one_place : (t : Named) (f : Flat) (steps : ℕ) (xs : List Command) (end : Session) (text : List ℕ)
    → xs ≡ commands.Step steps ∷ []
    → Plays f.circuit (moment_at f.layout) (TellsLayers t f) xs (session (flat_start f) []) end text
    → text ≡ place_line (board_after f steps) None
one_place t f steps xs end text same plays =
    let one : Plays f.circuit (moment_at f.layout) (TellsLayers t f) (commands.Step steps ∷ [])
    (session (flat_start f) []) end text = subst (λ ys. Plays f.circuit (moment_at f.layout) (TellsLayers t f) ys
    (session (flat_start f) []) end text) same plays in
    one.5 ∙ (λ i. one.3.1 i ++ one.4.1 i) ∙ append-nil (place_line one.0.config None)
    ∙ ap (λ (z : Session). place_line z.config None) one.3.0

-- the second by a place and the layers there
place_and_layers : (t : Named) (f : Flat) (steps : ℕ) (xs : List Command) (end : Session) (text : List ℕ)
    → xs ≡ commands.Step steps ∷ commands.View ∷ []
    → Plays f.circuit (moment_at f.layout) (TellsLayers t f) xs (session (flat_start f) []) end text
    → (shown : List ℕ) × TellsLayers t f (board_after f steps) shown
    × (text ≡ place_line (board_after f steps) None ++ shown)
place_and_layers t f steps xs end text same plays =
    let two : Plays f.circuit (moment_at f.layout) (TellsLayers t f) (commands.Step steps ∷ commands.View ∷ [])
    (session (flat_start f) []) end text = subst (λ ys. Plays f.circuit (moment_at f.layout) (TellsLayers t f) ys
    (session (flat_start f) []) end text) same plays in
    let at : two.0.config ≡ board_after f steps = ap (λ (z : Session). z.config) two.3.0 in
    let first : two.1 ≡ place_line (board_after f steps) None = two.3.1 ∙ ap (λ (z : Config). place_line z None) at in
    let shown = two.4.1 in
    let rest : two.2 ≡ shown = two.4.5 ∙ (λ i. shown ++ two.4.4.1 i) ∙ append-nil shown in
    (shown, subst (λ c. TellsLayers t f c shown) at two.4.3.1, two.5 ∙ (λ i. first i ++ rest i))

module _ (table script word : List ℕ) (l : Limits) (steps : ℕ) (text stepped : List ℕ) (status : Status)
    (told heard : List Place) (low : steps ≤ greatest)
    (compiles : CompileReplies word l table Done text told) (step : StepReplies steps text status stepped heard) where
  abbrev h : IsCompiled table word l text
  h = compiled table word l text told compiles

  abbrev t : Named
  t = h.table

  abbrev s : Spelling
  s = h.tells

  abbrev c : Config
  c = run (circuit_of s) s.config steps

  there : Spelled Two (moved_to s c) stepped
  there =
      let made = run_makes (circuit_of s) s.config steps in
      let admitted = h.is_text.admitted in
      let moved = has-text Two (moved_to s c) (spellings-move Two s c admitted
      (Reaches-IsConfig (circuit_of s) admitted.circuit made.made s.config c admitted.config made.reaches)) in
      let same : stepped ≡ moved.0 = ((circuits_settled steps text).0.one status Done stepped moved.0 heard
      (places (circuit_of s) steps s.config) step
      (walked (record { version = Two; spelling = s; spelled = h.is_text; written = moved.1.is_text; places = refl })
      refl)).texts in
      subst (Spelled Two (moved_to s c)) (sym same) moved.1

  -- a board of the table is where the compiled text comes to
  same_place : (g : Flat) → ComesTo t.machine l h.symbols g → c ≡ board_after g steps
  same_place g comes =
      let same = flats_one t.machine h.symbols l h.flat g (standard_machine tables_machines table t h.reads).0
      h.comes.flat comes.flat in
      runs_as t.machine h.symbols l h.flat h.comes.flat s h.board_is h.is_text.admitted.circuit steps
      ∙ after_same h.flat g same (h.comes.flat.limits_are ∙ sym comes.flat.limits_are) steps

  -- ---- the view

  -- the view of a board of the table
  record Viewed (seen : List ℕ) : Type 0 where
    flat : Flat
    comes : ComesTo t.machine l h.symbols flat
    none : List Place
    tells : TellsView steps t flat Done seen none

  viewed : (seen : List ℕ) (none : List Place) → ViewReplies steps word l table Done seen none → Viewed seen
  viewed seen none views =
      by (word_tells (BoardReplies (TellsView steps t) t.machine l) t (reads_table table t h.reads.reads) word h.symbols
      Done seen none h.spells
      (standard_tells (λ u. WordReplies (BoardReplies (TellsView steps u) u.machine l) u word) table t Done seen none
      h.reads views))
    where
      by : BoardReplies (TellsView steps t) t.machine l h.symbols Done seen none → Viewed seen
      by (long far k e n) = absurd (cc)
      by (large fits count counts great k e n) = absurd (cc)
      by (board g comes tells) = record { flat = g; comes = comes; none = none; tells = tells }

  -- it begins with the place
  begins : (seen : List ℕ) → Viewed seen → (rest : List ℕ) × (seen ≡ element_line c.place c.steps ++ rest)
  begins seen v =
      let config = same_place v.flat v.comes in
      let place = v.tells.is_view.board.place ∙ ap (λ (x : Config). x.place) (sym config) in
      let made = v.tells.is_view.board.steps ∙ ap (λ (x : Config). x.steps) (sym config) in (
        rest_of t v.flat v.tells.view,
        v.tells.text_is ∙ (λ i. element_line (place i) (made i) ++ rest_of t v.flat v.tells.view),
      )

  -- the layers of any board of the table are what the view shows
  same_text : AreSmall l → (g : Flat) → ComesTo t.machine l h.symbols g → (shown seen : List ℕ)
      → TellsLayers t g (board_after g steps) shown → Viewed seen → shown ≡ seen
  same_text small g comes shown seen layers v =
      let f = v.flat in
      let same = flats_one t.machine h.symbols l g f (standard_machine tables_machines table t h.reads).0 comes.flat
      v.comes.flat in
      let limits : g.limits ≡ f.limits = comes.flat.limits_are ∙ sym v.comes.flat.limits_are in
      let given : IsGiven table word l t h.symbols = record { reads = h.reads; spelled = h.spells; small = small } in
      let accepted = given_accepted tables_machines table word l t h.symbols f given v.comes in
      let made = run_makes f.circuit (flat_start f) steps in
      let moved = view_there g f same limits (turned g f same limits) steps layers.0 layers.1 in
      let views = one t.machine h.symbols l f v.comes.flat accepted made.made (board_after f steps) made.reaches
      layers.0 v.tells.view moved v.tells.is_view in
      layers.2 ∙ text_same g f same limits t layers.0 ∙ ap (view_text t f) views ∙ sym v.tells.text_is

  -- ---- the session

  -- what is played on a board of the table
  record Played (answered : List ℕ) (silent : List Place) : Type 0 where
    flat : Flat
    comes : ComesTo t.machine l h.symbols flat
    tells : TellsSession script t flat Done answered silent

  played_by : (bytes answered : List ℕ) (silent : List Place) → IsCut bytes table script
      → SessionReplies word l bytes Done answered silent → Played answered silent
  played_by bytes answered silent is_cut (uncut uncut_is k e n) = absurd (cc)
  played_by bytes answered silent is_cut (cut front rest also replies) =
      let same = cuts-one bytes table script front rest is_cut also in
      let first = subst (λ z. WindowReplies (TellsSession rest) word l z Done answered silent) (sym same.0) replies in
      let second = subst (λ z. WindowReplies (TellsSession z) word l table Done answered silent) (sym same.1) first in
      by (word_tells (BoardReplies (TellsSession script t) t.machine l) t (reads_table table t h.reads.reads) word
      h.symbols Done answered silent h.spells
      (standard_tells (λ u. WordReplies (BoardReplies (TellsSession script u) u.machine l) u word) table t Done answered
      silent h.reads second))
    where
      by : BoardReplies (TellsSession script t) t.machine l h.symbols Done answered silent → Played answered silent
      by (long far k e n) = absurd (cc)
      by (large fits count counts great k e n) = absurd (cc)
      by (board g comes tells) = record { flat = g; comes = comes; tells = tells }

  by_step : (answered : List ℕ) (silent : List Place) → script ≡ script_text (Step steps ∷ []) → (g : Flat)
      → ComesTo t.machine l h.symbols g → TellsSession script t g Done answered silent
      → answered ≡ place_line c None
  by_step answered silent is_script g comes (faulty n e is k status_is quiet) = absurd (cc)
  by_step answered silent is_script g comes (played xs is plays status_is quiet) =
      let same = scripts-one (Some (state_names_of t g)) script xs (commands.Step steps ∷ [])
      (states_apart tables_machines table t h.symbols l g h.reads comes) is
      (one_step (Some (state_names_of t g)) script steps is_script low) in
      one_place t g steps xs plays.0 answered same plays.1 ∙ ap (λ (x : Config). place_line x None)
      (sym (same_place g comes))

  by_step_and_view : (answered seen : List ℕ) (silent : List Place) → AreSmall l
      → script ≡ script_text (Step steps ∷ View ∷ []) → Viewed seen → (g : Flat) → ComesTo t.machine l h.symbols g
      → TellsSession script t g Done answered silent → answered ≡ place_line c None ++ seen
  by_step_and_view answered seen silent small is_script v g comes (faulty n e is k status_is quiet) = absurd (cc)
  by_step_and_view answered seen silent small is_script v g comes (played xs is plays status_is quiet) =
      let same = scripts-one (Some (state_names_of t g)) script xs (commands.Step steps ∷ commands.View ∷ [])
      (states_apart tables_machines table t h.symbols l g h.reads comes) is
      (step_and_view (Some (state_names_of t g)) script steps is_script low) in
      let both = place_and_layers t g steps xs plays.0 answered same plays.1 in
      let shown = same_text small g comes both.0 seen both.1 v in
      both.2 ∙ (λ i. place_line (sym (same_place g comes) i) None ++ shown i)

pub places-one : PlacesAreOneInAll
places-one bytes table script word l steps text stepped seen answered status told heard none silent is_cut is_script low
    compiles step views sessions =
    let h = compiled table word l text told compiles in
    let v = viewed table script word l steps text stepped status told heard low compiles step seen none views in
    let p = played_by table script word l steps text stepped status told heard low compiles step bytes answered silent
    is_cut sessions in (
      moved_to h.tells (run (circuit_of h.tells) h.tells.config steps),
      there table script word l steps text stepped status told heard low compiles step,
      begins table script word l steps text stepped status told heard low compiles step seen v,
      by_step table script word l steps text stepped status told heard low compiles step answered silent is_script
          p.flat p.comes p.tells,
    )

pub sessions-show : SessionsShowViews
sessions-show bytes table script word l steps text stepped seen answered status told heard none silent small is_cut
    is_script low compiles step views sessions =
    let h = compiled table word l text told compiles in
    let v = viewed table script word l steps text stepped status told heard low compiles step seen none views in
    let p = played_by table script word l steps text stepped status told heard low compiles step bytes answered silent
    is_cut sessions in (
      moved_to h.tells (run (circuit_of h.tells) h.tells.config steps),
      there table script word l steps text stepped status told heard low compiles step,
      begins table script word l steps text stepped status told heard low compiles step seen v,
      by_step_and_view table script word l steps text stepped status told heard low compiles step answered seen silent
          small is_script v p.flat p.comes p.tells,
    )

-- The answers of `look` and `play` by what was opened, played and refused.
use Rattle.std.specs.Prelude.{◌≡◌, ℕ, ◌≤◌, List, [], ◌++◌, Some, Result, Ok, Err, IfOk, refl}
use Rattle.std.proofs.Common.{arith, sym, ap, subst, ◌∙◌}
use Rattle.bn_lists.specs.Runs.{Reaches}
use Rattle.bn_lists.specs.declared.memory.NoMemory.{NoMemory as WantOfMemory}
use Rattle.bn_circuits.specs.Circuits.{Goes}
use Rattle.bn_circuits.specs.Stepping.{run}
use Rattle.bn_circuits.specs.declared.config.Config.{Config}
use Rattle.bn_circuits.proofs.RunLemmas.{Reaches-back, back-zero}
use Rattle.bn_machine.specs.Outcome.{Limits}
use Rattle.bn_circuits.specs.RotaryNets.{rotary_circuit}
use Rattle.bn_quad.specs.Names.{Naming}
use Rattle.bn_quad.specs.Quadruples.{Configuration, Quadruples}
use Rattle.bn_qtable.specs.Rows.{table_of}
use Rattle.bn_qtable.specs.TapeWords.{TapeWords}
use Rattle.bn_network.specs.Starts.{start_from, words_on}
use Rattle.bn_boards.specs.Layouts.{moment_at}
use Rattle.bn_board.specs.Flattened.{Flattened, IsBoardKept, IsSameBoard, origin, origin_by}
use Rattle.bn_boards.specs.Builds.{Build, IsStart, build_elements, start_of}
use Rattle.bn_reply.specs.declared.reply.Reply.{Reply}
use Rattle.bn_reply.specs.declared.status.Status.TheVariants as statuses
use Rattle.bn_reply_builds.specs.BuildReply.{BuiltReplies, IsBuiltFor}
use Rattle.bn_reply_builds.specs.Opened.{IsBuildAsked, IsBuiltBoard}
use Rattle.bn_reply_builds.proofs.OpenedLemmas.{built_replies}
use Rattle.bn_session.specs.Boards.{IsPlayed, board_at, shown_on}
use Rattle.bn_session.specs.Plays.{Plays, session}
use Rattle.bn_session.specs.Scripts.{IsFirstScriptFault, IsRefusalOf, IsScript}
use Rattle.bn_session.specs.declared.command.Command.{Command}
use Rattle.bn_session.specs.declared.refusal.ScriptRefusal.{ScriptRefusal}
use Rattle.bn_session.proofs.PlayedLemmas.{follow-all}
use Rattle.bn_reply_scripts.specs.ScriptReply.{played}
use Rattle.bn_reply_scripts.specs.Refusing.{IsScriptRefused}
use Rattle.bn_reply_scripts.proofs.ScriptLemmas.{script_refused}
use Rattle.bn_reply_looks.specs.Built.{AreNames, CanBeShown, IsRunOf, ShowsRun}
use Rattle.bn_reply_looks.specs.Looking.{ShowsBuild}
use Rattle.bn_reply_looks.specs.LookReply.{TellsLook}
use Rattle.bn_reply_looks.specs.PlayReply.{IsPlayOf, TellsPlay}

-- ---- a board that was opened

module _ (m : Quadruples) (l : Limits) (f : Build) (c : Configuration ℕ) (a b : Flattened) (built : IsBuiltFor m l f)
    (board : IsBuiltBoard f c a) (same : IsSameBoard a b) where
  origin_is : origin a ≡ start_of f c
  origin_is = ap (origin_by (rotary_circuit a.net)) board.config ∙ back-zero (rotary_circuit a.net) (start_of f c)

  -- wherever it is in its run, it is one that the machine is built to
  pub run_of_built : IsRunOf m f c b
  run_of_built = record {
    build = board.build;
    machine = built.machine;
    room = let few : build_elements f ≤ 4194304 = built.few in omega (arith, few);
    circuit = board.circuit ∙ ap rotary_circuit (sym same.net);
    layout = board.layout ∙ sym same.layout;
    begins = subst (IsStart f c (start_from f.machine f.limits c)) board.config board.begins;
    start = same.origin_is ∙ origin_is;
  }

-- a board is the same as itself
pub same_board : (b : Flattened) → IsSameBoard b b
same_board b = record { net = refl; start = refl; end = refl; layout = refl; origin_is = refl }

module _ (words : TapeWords) (l : Limits) (bytes : List ℕ) (m : Quadruples) (names : Naming) (a : Flattened)
    (asked : IsBuildAsked words l bytes m names a) where
  abbrev start : Configuration ℕ
  start = words_on m asked.one asked.two asked.three

  pub asked_names : AreNames m names
  asked_names = record { states = asked.table.states; symbols = asked.table.symbols; few = asked.uncrowded }

  pub asked_run : (b : Flattened) → IsSameBoard a b → IsRunOf m asked.build start b
  asked_run b same = run_of_built m l asked.build start a b asked.built asked.board same

  pub asked_shown : CanBeShown m names a
  asked_shown = record { named = asked_names; build = asked.build; start = start; run = asked_run a (same_board a) }

  -- ---- `look`

  pub look_replies : (steps : ℕ) (b : Flattened) → IsSameBoard a b
      → b.config ≡ run (rotary_circuit a.net) a.config steps → (text : List ℕ) → ShowsRun m names b text
      → BuiltReplies (λ t one two three. TellsLook steps t (words_on t.machine one two three)) words l bytes
      statuses.Done
      text []
  look_replies steps b same ran text shows =
      let f = asked.build in
      let at : b.config ≡ run f.circuit (start_of f start) steps =
      ran ∙ (λ i. run (sym asked.board.circuit i) (asked.board.config i) steps) in
      built_replies (λ t one two three. TellsLook steps t (words_on t.machine one two three)) words l bytes m names a
      asked
      statuses.Done text []
      (record {
        shows = subst (λ (d : Config). ShowsBuild (table_of m names) f start d text) at
            (shows f start (asked_run b same));
        status_is = refl;
        silent = refl;
      })

  -- ---- `play`

  pub play_replies : (script : List ℕ) (result : Result Reply WantOfMemory)
      → IfOk result (λ r. (f : Build) (c : Configuration ℕ) → IsRunOf m f c a → a.config ≡ start_of f c
      → TellsPlay script (table_of m names) c f r.status r.text.items [])
      → IfOk result (λ r. BuiltReplies (λ t one two three. TellsPlay script t (words_on t.machine one two three)) words
      l
      bytes r.status r.text.items [])
  play_replies script (Err e) h = tt
  play_replies script (Ok r) h =
      built_replies (λ t one two three. TellsPlay script t (words_on t.machine one two three)) words l bytes m names a
      asked
      r.status r.text.items [] (h asked.build start (asked_run a (same_board a)) asked.board.config)

-- ---- a script that was played

module _ (m : Quadruples) (names : Naming) (b : Flattened) (kept : IsBoardKept b) (f : Build) (c : Configuration ℕ)
    (of : IsRunOf m f c b) (begun : b.config ≡ start_of f c) where
  -- the board at another configuration of its run
  run_at : (d : Config) → Reaches (Goes (rotary_circuit b.net)) d.steps (start_of f c) d → IsRunOf m f c (board_at b d)
  run_at d path = record {
    build = of.build;
    machine = of.machine;
    room = of.room;
    circuit = of.circuit;
    layout = of.layout;
    begins = of.begins;
    start = Reaches-back (rotary_circuit b.net) kept.circuit d.steps (start_of f c) d path;
  }

  pub answer_played : (commands : List Command) (d : Config) (old new : List ℕ) → old ≡ []
      → IsPlayed (ShowsRun m names) b commands d old new → IsPlayOf (table_of m names) c f commands new
  answer_played commands d old new none done =
      let k = rotary_circuit b.net in
      let t = table_of m names in
      let on = subst (λ x. Reaches (Goes k) b.config.steps x b.config) of.start kept.reached.reaches in
      let followed : Plays k (moment_at b.layout) (ShowsBuild t f c) commands (session b.config []) done.end done.text =
      follow-all k (moment_at b.layout) (shown_on (ShowsRun m names) b) (start_of f c) refl kept.circuit
      (ShowsBuild t f c) (λ x text path shown. shown f c (run_at x path)) commands (session b.config []) done.end
      done.text
      on done.plays in
      let told : Plays f.circuit (moment_at f.layout) (ShowsBuild t f c) commands (session (start_of f c) []) done.end
      done.text =
      subst (λ x. x) (λ i. Plays (sym of.circuit i) (moment_at (sym of.layout i)) (ShowsBuild t f c) commands
      (session (begun i) []) done.end done.text) followed in (
        done.end,
        subst (λ x. Plays f.circuit (moment_at f.layout) (ShowsBuild t f c) commands (session (start_of f c) [])
            done.end x)
            (sym (done.written ∙ ap (λ x. x ++ done.text) none)) told,
      )

-- what is answered to a script and a board at its start
module _ (m : Quadruples) (names : Naming) (b : Flattened) (script : List ℕ) where
  abbrev Answers : Reply → Type 0
  Answers r = (f : Build) (c : Configuration ℕ) → IsRunOf m f c b → b.config ≡ start_of f c
      → TellsPlay script (table_of m names) c f r.status r.text.items []

  pub played_replies : (commands : List Command) → IsScript (Some names.states) script commands
      → (result : Result Reply WantOfMemory) → IfOk result (λ r. r.status ≡ statuses.Done)
      → IfOk result (λ r. (f : Build) (c : Configuration ℕ) → IsRunOf m f c b → b.config ≡ start_of f c
      → IsPlayOf (table_of m names) c f commands r.text.items) → IfOk result Answers
  played_replies commands read (Err e) status text = tt
  played_replies commands read (Ok r) status text = λ f c of begun. played commands read (text f c of begun) status refl

  pub refused_replies : (refusal : ScriptRefusal) → IsRefusalOf (IsFirstScriptFault (Some names.states) script) refusal
      → (result : Result Reply WantOfMemory) → IfOk result (λ r. IsScriptRefused refusal r.status r.text.items)
      → IfOk result Answers
  refused_replies refusal first (Err e) h = tt
  refused_replies refusal first (Ok r) h = λ f c of begun.
      script_refused (Some names.states) (IsPlayOf (table_of m names) c f) script refusal first r h

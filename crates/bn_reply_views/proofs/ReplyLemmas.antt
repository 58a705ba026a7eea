-- What is answered to a script, by how it was read and played, and to an input, by how it was cut.
use Rattle.std.specs.Prelude.{◌≡◌, ℕ, List, [], Some, Result, Ok, Err, IfOk, refl}
use Rattle.std.proofs.Common.{sym, ap, subst, ◌∙◌}
use Rattle.bn_machine.specs.Outcome.{Limits}
use Rattle.bn_quad.specs.Names.{Naming}
use Rattle.bn_table.specs.Rows.{Named}
use Rattle.bn_bennett.specs.Printed.{translation_names}
use Rattle.bn_bennett.specs.Translation.{Translation}
use Rattle.bn_boards.specs.Flats.{Flat, flat_start}
use Rattle.bn_board.specs.Flattened.{Flattened}
use Rattle.bn_reply.specs.declared.reply.Reply.{Reply}
use Rattle.bn_lists.specs.declared.memory.NoMemory.{NoMemory as WantOfMemory}
use Rattle.bn_reply.specs.declared.status.Status.TheVariants as statuses
use Rattle.bn_reply_relations.specs.Windows.{WindowReplies}
use Rattle.bn_reply_boards.specs.Opened.{IsBoardAsked}
use Rattle.bn_reply_boards.proofs.AskedLemmas.{board_accepted, board_replies}
use Rattle.bn_session.specs.Scripts.{IsFirstScriptFault, IsRefusalOf, IsScript}
use Rattle.bn_session.specs.declared.command.Command.{Command}
use Rattle.bn_session.specs.declared.refusal.ScriptRefusal.{ScriptRefusal}
use Rattle.bn_view.specs.Viewed.{IsBoardFor}
use Rattle.bn_reply_scripts.specs.ScriptReply.{played}
use Rattle.bn_reply_views.specs.SessionReply.{IsAnswerTo, TellsSession, state_names_of}
use Rattle.bn_reply_scripts.specs.Refusing.{IsScriptRefused}
use Rattle.bn_reply_scripts.proofs.ScriptLemmas.{script_refused}
use Rattle.bn_reply_views.proofs.ShowingLemmas.{made_for}

-- what is answered of a board at its start
abbrev Answers : Named → Translation → Flattened → List ℕ → Reply → Type 0
Answers t m b script r =
    (word : List ℕ) (l : Limits) (f : Flat) → IsBoardFor t.machine word l f m b → b.config ≡ flat_start f
    → TellsSession script t f r.status r.text.items []

-- the names of the states of a board's machine
states_are : (t : Named) (m : Translation) (names : Naming) → names ≡ translation_names t m → (f : Flat)
    → f.translation ≡ m → names.states ≡ state_names_of t f
states_are t m names is f same = ap (λ (n : Naming). n.states) (is ∙ ap (translation_names t) (sym same))

module _ (t : Named) (m : Translation) (b : Flattened) (script : List ℕ) (names : Naming)
    (is : names ≡ translation_names t m) where
  -- a script that was played
  pub played_replies : (commands : List Command) → IsScript (Some names.states) script commands
      → (result : Result Reply WantOfMemory) → IfOk result (λ r. r.status ≡ statuses.Done)
      → IfOk result (λ r. (word : List ℕ) (l : Limits) (f : Flat) → IsBoardFor t.machine word l f m b
      → b.config ≡ flat_start f → IsAnswerTo t f commands r.text.items)
      → IfOk result (Answers t m b script)
  played_replies commands read (Err e) status text = tt
  played_replies commands read (Ok r) status text = λ word l f for start.
      played commands (subst (λ xs. IsScript (Some xs) script commands) (states_are t m names is f for.translation)
      read)
      (text word l f for start) status refl

  -- a script that was refused
  pub refused_replies : (refusal : ScriptRefusal) → IsRefusalOf (IsFirstScriptFault (Some names.states) script) refusal
      → (result : Result Reply WantOfMemory) → IfOk result (λ r. IsScriptRefused refusal r.status r.text.items)
      → IfOk result (Answers t m b script)
  refused_replies refusal first (Err e) h = tt
  refused_replies refusal first (Ok r) h = λ word l f for start.
      script_refused (Some (state_names_of t f)) (IsAnswerTo t f) script refusal
      (subst (λ xs. IsRefusalOf (IsFirstScriptFault (Some xs) script) refusal)
      (states_are t m names is f for.translation)
      first) r h

-- what is answered of the board of a table, a word and limits
pub session_replies : (bytes word : List ℕ) (l : Limits) (t : Named) (m : Translation) (b : Flattened)
    → IsBoardAsked bytes word l t m b → (script : List ℕ)
    → (result : Result Reply WantOfMemory) → IfOk result (Answers t m b script)
    → IfOk result (λ r. WindowReplies (TellsSession script) word l bytes r.status r.text.items [])
session_replies bytes word l t m b asked script (Err e) h = tt
session_replies bytes word l t m b asked script (Ok r) h =
    let for = made_for t l asked.symbols asked.flat m b asked.made (board_accepted bytes word l t m b asked) in
    board_replies (TellsSession script) bytes word l t m b asked r.status r.text.items []
    (h asked.symbols l asked.flat for asked.made.config)

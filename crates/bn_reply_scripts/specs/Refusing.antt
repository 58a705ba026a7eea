-- The answers to the refusals of the reader of scripts, in the code's own terms.
use Rattle.std.specs.Prelude.{◌≡◌, ℕ, List, [], ◌∷◌, codes, decimal}
use Rattle.bn_reply.specs.Lines.{line}
use Rattle.bn_reply.specs.declared.status.Status.{Status}
use Rattle.bn_reply.specs.declared.status.Status.TheVariants as statuses
use Rattle.bn_session.specs.Scripts.{malformed, no_break, no_state, same_break}
use Rattle.bn_session.specs.declared.refusal.ScriptRefusal.{ScriptRefusal}
use Rattle.bn_session.specs.declared.refusal.ScriptRefusal.TheVariants as refusals
use Rattle.bn_reply_scripts.specs.ScriptReply.{script_fault_line}

-- the line that reports this error of a script's line, counted from 1
abbrev pub what_line : ℕ → List ℕ → List ℕ
what_line number what = line (codes "text: script line " ∷ decimal number ∷ codes " " ∷ what ∷ [])

-- the status and the line of a refusal
abbrev pub IsScriptRefused : ScriptRefusal → Status → List ℕ → Type 0
IsScriptRefused (refusals.Form n) status text = (status ≡ statuses.Text) × (text ≡ script_fault_line n malformed)
IsScriptRefused (refusals.NoState n) status text = (status ≡ statuses.Text) × (text ≡ script_fault_line n no_state)
IsScriptRefused (refusals.SameBreak n) status text = (status ≡ statuses.Text) × (text ≡ script_fault_line n same_break)
IsScriptRefused (refusals.NoBreak n) status text = (status ≡ statuses.Text) × (text ≡ script_fault_line n no_break)
IsScriptRefused refusals.NoMemory status text = ⊥

-- The answer of the command `moments`: each configuration of the run of a table's machine of quadruples from words on
-- its tapes, on tapes without ends (Bennett 1973; the text is this project's own definition).
use Rattle.std.specs.Prelude.{◌≡◌, ℕ, suc, ◌≤◌, List, [], ◌∷◌, ◌++◌, codes, decimal}
use Rattle.bn_lists.specs.Runs.{Reaches}
use Rattle.bn_circuits.specs.declared.place.Place.{Place}
use Rattle.bn_machine.specs.Tape.{scanned}
use Rattle.bn_quad.specs.Quadruples.{Configuration, IsQuadrupleStuck, Quadruples, QuadruplesRunTo, everywhere}
use Rattle.bn_quad.specs.Quadruples.{final_state_of}
use Rattle.bn_qtable.specs.Rows.{QuadTable}
use Rattle.bn_network.specs.Starts.{words_on}
use Rattle.bn_reply.specs.Answering.{IsSettled}
use Rattle.bn_reply.specs.Lines.{foreign_line, line, running_line}
use Rattle.bn_reply.specs.declared.status.Status.{Status}
use Rattle.bn_reply.specs.declared.status.Status.TheVariants as statuses
use Rattle.bn_reply_traces.specs.ConfigurationText.{IsConfigurationLineAfter, name_in}
use Rattle.bn_reply_traces.specs.MomentText.{AreLines}
use Rattle.bn_reply_machines.specs.QuadReply.{QuadReplies, TapeWordReplies, tape_foreign_line}

-- the result of a run: the machine has halted, is stuck, or goes on
pub data Outcome : Type 0 where
  Halted : Outcome
  Stuck : Outcome
  Running : Outcome

-- the result at c, after this many of at most n steps: in the final state, where no quadruple applies, or by going on
-- after all n
abbrev pub ComesOut : Quadruples → ℕ → ℕ → Configuration ℕ → Outcome → Type 0
ComesOut p n steps c Halted = c.state ≡ final_state_of p.rules
ComesOut p n steps c Stuck = IsQuadrupleStuck p c
ComesOut p n steps c Running = (steps ≡ n) × ((d : Configuration ℕ) × QuadruplesRunTo everywhere p c d)

-- the last line: for a machine that is stuck it has the state and the symbols that the three heads scan
abbrev pub moments_outcome_line : QuadTable → ℕ → Configuration ℕ → Outcome → List ℕ
moments_outcome_line t i c Halted = line (codes "halted " ∷ decimal i ∷ [])
moments_outcome_line t i c Stuck =
    line (codes "stuck " ∷ name_in t.names.states c.state ∷ codes " " ∷ name_in t.names.one (scanned c.one)
    ∷ codes " " ∷ name_in t.names.two (scanned c.two) ∷ codes " " ∷ name_in t.names.three (scanned c.three)
    ∷ codes " " ∷ decimal i ∷ [])
moments_outcome_line t i c Running = running_line i

abbrev pub outcome_status : Outcome → Status
outcome_status Halted = statuses.Done
outcome_status Stuck = statuses.Stuck
outcome_status Running = statuses.Inside

-- The text has a line for each configuration of the run of the table's machine, with these symbols on its tapes from
-- cell 1 on and all heads at 0, and at most n steps: from the start to the configuration in which it halts, is stuck,
-- or has made n steps. The last line says how the run ends.
pub record TellsMoments (t : QuadTable) (n : ℕ) (one two three : List ℕ) (status : Status) (text : List ℕ)
    (told : List Place) : Type 0 where
  pub steps : ℕ
  pub last : Configuration ℕ
  pub outcome : Outcome
  pub in_time : steps ≤ n
  pub run : Reaches (QuadruplesRunTo everywhere t.machine) steps (words_on t.machine one two three) last
  pub comes_out : ComesOut t.machine n steps last outcome
  pub moments : List ℕ
  pub lines : AreLines (IsConfigurationLineAfter t (words_on t.machine one two three)) (suc steps) moments
  pub status_is : status ≡ outcome_status outcome
  pub text_is : text ≡ moments ++ moments_outcome_line t steps last outcome
  pub silent : told ≡ []

-- The answer of `moments` to a word on tape 1, a greatest number of steps n, and these bytes. An error of the bytes
-- comes first, then one of the machine, then one of the word.
abbrev pub MomentsReplies : List ℕ → ℕ → List ℕ → Status → List ℕ → List Place → Type 0
MomentsReplies word n =
    QuadReplies (λ t. TapeWordReplies foreign_line (λ one. TellsMoments t n one [] []) t.names.one word)

-- its answer to a word on each tape: the refusal names the first tape whose word has a foreign place
abbrev pub ThreeMomentsReplies : List ℕ → List ℕ → List ℕ → ℕ → List ℕ → Status → List ℕ → List Place → Type 0
ThreeMomentsReplies first second third n =
    QuadReplies (λ t. TapeWordReplies (tape_foreign_line 1)
    (λ one. TapeWordReplies (tape_foreign_line 2)
    (λ two. TapeWordReplies (tape_foreign_line 3)
    (λ three. TellsMoments t n one two three) t.names.three third) t.names.two second) t.names.one first)

-- it has exactly one answer to all words, numbers of steps and bytes
pub record MomentsAreSettled : Type 0 where
  pub one_word : (word : List ℕ) (n : ℕ) (bytes : List ℕ) → IsSettled (MomentsReplies word n bytes)
  pub three_words : (first second third : List ℕ) (n : ℕ) (bytes : List ℕ)
      → IsSettled (ThreeMomentsReplies first second third n bytes)

-- The program's representation of a configuration of a run: a tape in a window, which continues beyond its right end
-- with the letters of a long word. It represents a configuration on a tape without ends.
use Rattle.std.specs.Prelude.{◌≡◌, ◌≢◌, ◌↔◌, ℕ, ◌+◌, ◌<◌, ◌≤◌, ◌⊎◌, ℤ, pos, ◌+ℤ◌, ◌-ℤ◌, ◌≤ℤ◌, ◌<ℤ◌, List, [], ◌∷◌, ◌++◌}
use Rattle.std.specs.Prelude.{◌^◌, length, take, min, max, Bool, true, Option, Some, None}
use Rattle.std.specs.Prelude.{All, decimal, codes, slice_index_or}
use Rattle.bn_machine.specs.Machine.{HasNoMatch, IsFirstMatch, Moment, Program, final_of, start_of}
use Rattle.bn_io.specs.Told.{Grows, GrowsByFront}
use Rattle.bn_machine.specs.Run.{After, Ending, Halted, Stuck, Running}
use Rattle.bn_machine.specs.Tape.{Tape, cell, letter_at, scanned}
use Rattle.bn_machine.specs.Window.{IsWindowed, Windowed, new_window}
use Rattle.bn_machine.specs.declared.quint.Quint.{Quint}
use Rattle.bn_machine.specs.declared.tape.TheConstants.Tape.{GREATEST_SIDE}
use Rattle.bn_table.specs.Rows.{Named}
use Rattle.bn_reply.specs.Ends.{Finishes}
use Rattle.bn_reply.specs.Lines.{line}
use Rattle.bn_reply.specs.declared.status.Status.{Status}
use Rattle.bn_reply.specs.declared.status.Status.TheVariants.{NoMemory}
use Rattle.bn_reply_machines.specs.MachineRun.{Reached}
use Rattle.bn_reply_traces.specs.Extents.{IsFirst, IsLast, symbols_from}
use Rattle.bn_reply_traces.specs.MomentText.{AreLines, IsLineAfter, letter_text, rule_text, tape_text}
use Rattle.bn_reply_traces.specs.declared.extent.Extent.{Extent}
use Rattle.bn_reply_traces.specs.declared.stage.Stage.{Stage}

-- one step has led from tape t, with its head at `left`, to tape u, with its head at `head`; the bool says whether the
-- cell that the head left is blank then
pub record IsMoved (t u : Tape) (left : ℤ) (is_blank : Bool) (head : ℤ) : Type 0 where
  pub from : t.head ≡ left
  pub to : u.head ≡ head
  pub near : ((left -ℤ pos 1) ≤ℤ head) × (head ≤ℤ (left +ℤ pos 1))
  pub beside : (q : ℤ) → q ≢ left → cell u q ≡ cell t q
  pub blank : (is_blank ≡ true) ↔ (cell u left ≡ 0)

-- t is the tape without ends that a tape in a window represents, which continues beyond its right end with the letters
-- of the word
pub record StandsFor (w : Windowed) (word : List ℕ) (t : Tape) : Type 0 where
  pub head : t.head ≡ w.tape.head
  pub near : (q : ℤ) → q ≤ℤ pos w.right → cell t q ≡ cell w.tape q
  pub far : (q : ℤ) → pos w.right <ℤ q → cell t q ≡ letter_at word q

-- each position from the first to the last of the extent is in the window, or beyond its right end on the word
pub record IsWithin (w : Windowed) (word : List ℕ) (e : Extent) : Type 0 where
  pub begins : (pos 0 -ℤ pos w.left) ≤ℤ e.first
  pub ordered : e.first ≤ℤ e.last
  pub ends : e.last ≤ℤ pos (max w.right (length word))

-- each symbol of the tape and of the word is less than the number
pub record AreBelow (bound : ℕ) (w : Windowed) (word : List ℕ) : Type 0 where
  pub cells : (q : ℤ) → cell w.tape q < bound
  pub letters : All (λ s. s < bound) word

-- the text of the tape with these cells shown
abbrev pub shown_text : (ℕ → List ℕ) → Tape → ℤ → ℕ → List ℕ
shown_text name t first count = tape_text name first t.head (symbols_from (cell t) first count) count

-- the stage is that of the configuration after i steps of a run of at most n steps
pub record IsStageAfter (t : Named) (word : List ℕ) (n i : ℕ) (s : Stage) : Type 0 where
  pub reached : Reached t.machine i (start_of t.machine.quints)
      (new_window (n + 1) (max (min GREATEST_SIDE (length word)) (n + 1)) (take (min GREATEST_SIDE (length word)) word))
      s.state s.tape
  pub windowed : IsWindowed s.tape
  pub whole : Moment
  pub run : After t.machine word i whole
  pub state : whole.state ≡ s.state
  pub tape : StandsFor s.tape word whole.tape
  pub first : IsFirst whole.tape s.extent.first
  pub last : IsLast whole.tape s.extent.last

-- the word is of the table's symbols, and none is the blank
pub record IsWordOf (t : Named) (word : List ℕ) : Type 0 where
  pub few : length word < 2 ^ 62
  pub letters : All (λ s. s ≢ 0) word
  pub known : All (λ s. s < t.machine.symbols) word

-- the table names everything that is shown of the stage
pub record IsShowable (t : Named) (word : List ℕ) (s : Stage) : Type 0 where
  pub state : s.state < t.machine.states
  pub within : IsWithin s.tape word s.extent
  pub cells : (q : ℤ) → cell s.tape.tape q < t.machine.symbols

-- the number, counted from 1, of the quintuple that is applied next in this state at this symbol, if there is one
abbrev pub IsRule : Program → ℕ → ℕ → Option ℕ → Type 0
IsRule p state symbol None =
    (state ≡ final_of p.quints) ⊎ ((state ≢ final_of p.quints) × HasNoMatch p.quints state symbol)
IsRule p state symbol (Some n) = (state ≢ final_of p.quints) × ((q : Quint) × IsFirstMatch p.quints state symbol n q)

-- the line of a stage, by the tape that it represents and the number of cells that are shown
abbrev pub stage_line : Named → ℕ → Stage → Tape → ℕ → Option ℕ → List ℕ
stage_line t i s u count rule =
    line (decimal i ∷ codes " " ∷ slice_index_or t.names s.state []
    ∷ shown_text (letter_text t) u s.extent.first count ∷ rule_text rule ∷ [])

-- the first k lines are printed: the sink has received a prefix of them, and the rest is kept
pub record AreTold (t : Named) (word : List ℕ) (old now : Option (List ℕ)) (kept : List ℕ) (k : ℕ) : Type 0 where
  pub given : List ℕ
  pub grown : Grows old now given
  pub lines : AreLines (IsLineAfter t word) k (given ++ kept)

-- the sink has received a prefix of the first k lines of a run of at most n steps
pub record AreToldInPart (t : Named) (word : List ℕ) (n : ℕ) (old now : Option (List ℕ)) : Type 0 where
  pub number : ℕ
  pub few : number ≤ n + 1
  pub text : List ℕ
  pub lines : AreLines (IsLineAfter t word) number text
  pub grown : GrowsByFront old now text

-- a run of at most n steps ends after this many steps at this stage, where this quintuple would be applied next, if
-- there is one
pub record IsEndedAt (t : Named) (word : List ℕ) (n : ℕ) (s : Stage) (steps : ℕ) (rule : Option ℕ) : Type 0 where
  pub stage : IsStageAfter t word n steps s
  pub next : IsRule t.machine s.state (scanned s.tape.tape) rule
  pub in_time : steps ≤ n
  pub early : steps < n → rule ≡ None

-- the result of a run in this state at this symbol, where this quintuple is applied next, if there is one
abbrev pub IsOutcome : Program → ℕ → ℕ → Option ℕ → Ending → Type 0
IsOutcome p state symbol (Some n) e = e ≡ Running
IsOutcome p state symbol None e = ((state ≡ final_of p.quints) × ((y : List ℕ) × (e ≡ Halted y)))
    ⊎ ((state ≢ final_of p.quints) × (e ≡ Stuck state symbol))

-- the sink received the whole text and the status is the intended one, or a prefix of it; or nothing, if memory ran out
abbrev pub OutcomeEnds : Status → Status → Option (List ℕ) → Option (List ℕ) → ℕ → ℕ → List ℕ → Type 0
OutcomeEnds meant result old new before now text =
    Finishes meant result old new before now text ⊎ ((result ≡ NoMemory) × (new ≡ old))

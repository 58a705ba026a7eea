-- The answer of the command `build`: the configuration text of the circuit of a uniform machine of quadruples in a
-- window, at its start with a word on tape 1, or on each tape (Morita 2017 for the elements; the circuit, the window
-- and the text are this project's own profile). A fault of the bytes comes first, then of the machine, the words'
-- letters, the tapes' symbols, the words' lengths, and the number of elements.
use Rattle.std.specs.Prelude.{◌≡◌, ℕ, ◌<◌, ◌≤◌, List, [], ◌∷◌, length, codes, decimal}
use Rattle.bn_circuits.specs.declared.place.Place.{Place}
use Rattle.bn_machine.specs.Outcome.{Limits}
use Rattle.bn_quad.specs.Quadruples.{Configuration, Quadruples}
use Rattle.bn_qtable.specs.Rows.{QuadTable}
use Rattle.bn_qtable.specs.TapeWords.{One, TapeWords, Three}
use Rattle.bn_network.specs.Controls.{symbol_count}
use Rattle.bn_network.specs.Networks.{IsTape}
use Rattle.bn_network.specs.declared.limits.TheConstants.{MOST_SYMBOLS}
use Rattle.bn_circuits.specs.declared.net.TheConstants.{MOST_ELEMENTS}
use Rattle.bn_boards.specs.Boards.{board_start}
use Rattle.bn_network_assembly.specs.Assembled.{CountsElements}
use Rattle.bn_boards.specs.Builds.{Build, IsBuild, build_elements}
use Rattle.bn_network.specs.Starts.{start_from, words_on}
use Rattle.bn_reply.specs.Answering.{IsSettled}
use Rattle.bn_reply.specs.Lines.{line, long_line}
use Rattle.bn_reply.specs.declared.status.Status.{Status}
use Rattle.bn_reply.specs.declared.status.Status.TheVariants as statuses
use Rattle.bn_reply_machines.specs.QuadReply.{QuadReplies}
use Rattle.bn_reply_machines.specs.UniformReply.{UniformReplies}
use Rattle.bn_reply_machines.specs.WordsReply.{WordsReplies}
use Rattle.bn_reply_relations.specs.CompileReply.{TellsBoard}
use Rattle.bn_reply_relations.specs.Windows.{large_line}

-- ---- sizes

-- tape t, counted from 1, is the first that has more symbols than a cell can distinguish, and it has z
pub record IsCrowded (m : Quadruples) (t z : ℕ) : Type 0 where
  pub tape : IsTape t
  pub count : symbol_count m t ≡ z
  pub many : MOST_SYMBOLS < z
  pub first : (u : ℕ) → IsTape u → u < t → symbol_count m u ≤ MOST_SYMBOLS

-- no tape has more
abbrev pub IsUncrowded : Quadruples → Type 0
IsUncrowded m = (t : ℕ) → IsTape t → symbol_count m t ≤ MOST_SYMBOLS

-- the line of a tape with z symbols, which are too many
abbrev pub crowded_line : ℕ → ℕ → List ℕ
crowded_line t z = line (codes "size: symbols " ∷ decimal t ∷ codes " " ∷ decimal z ∷ [])

-- this is the build of the machine in these limits, and its circuit does not have too many elements
pub record IsBuiltFor (m : Quadruples) (l : Limits) (f : Build) : Type 0 where
  pub machine : f.machine ≡ m
  pub limits : f.limits ≡ l
  pub build : IsBuild f
  pub few : build_elements f ≤ MOST_ELEMENTS

-- the word on tape t, counted from 1, is the first that is longer than its tape's right side, and it has n letters
pub data IsFirstLong (l : Limits) (one two three : List ℕ) (t n : ℕ) : Type 0 where
  first_long : l.right < length one → t ≡ 1 → n ≡ length one → IsFirstLong l one two three t n
  second_long : length one ≤ l.right → l.steps < length two → t ≡ 2 → n ≡ length two → IsFirstLong l one two three t n
  third_long : length one ≤ l.right → length two ≤ l.steps → l.output < length three → t ≡ 3 → n ≡ length three
      → IsFirstLong l one two three t n

-- no word is longer
pub record HaveRoom (l : Limits) (one two three : List ℕ) : Type 0 where
  pub on_one : length one ≤ l.right
  pub on_two : length two ≤ l.steps
  pub on_three : length three ≤ l.output

-- the line of a word of n letters on tape t, which is too long
abbrev pub tape_long_line : ℕ → ℕ → List ℕ
tape_long_line t n = line (codes "size: word " ∷ decimal t ∷ codes " needs " ∷ decimal n ∷ [])

-- the tape is named if there is a word on each
abbrev pub long_word_line : TapeWords → ℕ → ℕ → List ℕ
long_word_line (One word) t n = long_line n
long_word_line (Three first second third) t n = tape_long_line t n

-- The answer to words of these symbols on the tapes, where `tells` is the answer for the build of the machine: a tape
-- has too many symbols; or else a word is too long; or else the circuit would have too many elements; or else that
-- answer.
pub data SizedReplies (words : TapeWords) (tells : Build → Status → List ℕ → List Place → Type 0) (m : Quadruples)
    (l : Limits) (one two three : List ℕ) (status : Status) (text : List ℕ) (told : List Place) : Type 0 where
  many : (t z : ℕ) → IsCrowded m t z → text ≡ crowded_line t z → status ≡ statuses.Size → told ≡ []
      → SizedReplies words tells m l one two three status text told
  long : IsUncrowded m → (t n : ℕ) → IsFirstLong l one two three t n → text ≡ long_word_line words t n
      → status ≡ statuses.Size → told ≡ [] → SizedReplies words tells m l one two three status text told
  large : IsUncrowded m → HaveRoom l one two three → (count : ℕ) → CountsElements m l count → MOST_ELEMENTS < count
      → text ≡ large_line count → status ≡ statuses.Size → told ≡ []
      → SizedReplies words tells m l one two three status text told
  built : IsUncrowded m → HaveRoom l one two three → (f : Build) → IsBuiltFor m l f → tells f status text told
      → SizedReplies words tells m l one two three status text told

-- ---- the answer

-- The answer to words, limits and bytes, where `tells` is the answer for a table, the words' symbols and the build of
-- its machine: the first fault of the bytes, the machine, the words or the sizes, or else that answer.
abbrev pub BuiltReplies : (QuadTable → List ℕ → List ℕ → List ℕ → Build → Status → List ℕ → List Place → Type 0)
    → TapeWords → Limits → List ℕ → Status → List ℕ → List Place → Type 0
BuiltReplies tells words l = QuadReplies (UniformReplies (λ t. WordsReplies words (λ one two three.
    SizedReplies words (tells t one two three) t.machine l one two three) t.names))

-- the text is that of the circuit at the start of this configuration
abbrev pub TellsBuild : Configuration ℕ → Build → Status → List ℕ → List Place → Type 0
TellsBuild c f = TellsBoard f.network f.layout (board_start f.network.tables (start_from f.machine f.limits c))

-- the answer of `build` to words on the tapes, limits and bytes
abbrev pub BuildReplies : TapeWords → Limits → List ℕ → Status → List ℕ → List Place → Type 0
BuildReplies = BuiltReplies (λ t one two three. TellsBuild (words_on t.machine one two three))

-- for all words, limits and bytes, it has exactly one answer
abbrev pub BuildIsSettled : Type 0
BuildIsSettled = (words : TapeWords) (l : Limits) (bytes : List ℕ) → IsSettled (BuildReplies words l bytes)

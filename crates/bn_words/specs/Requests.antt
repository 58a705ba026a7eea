-- What a command line asks for, and the arguments that ask for it (this project's own profile).
use Rattle.std.specs.Prelude.{◌≡◌, ℕ, ◌≤◌, Bool, true, false, List, [], ◌∷◌, Option, Some, None, IfSome, codes, decimal}
use Rattle.std.specs.Prelude.{option_map}
use Rattle.bn_base.specs.Number.{greatest}
use Rattle.bn_base.specs.declared.limits.TheConstants.{MOST_COUNT}
use Rattle.bn_machine.specs.Outcome.{Limits}
use Rattle.bn_gen.specs.Increments.{IsRoundCount}
use Rattle.bn_network.specs.Limits.{AreSmall}
use Rattle.bn_rlem.specs.Elements.{IsLineCount}
use Rattle.bn_behaviour.specs.PortNames.{PortNames, port_names_of}
use Rattle.bn_behaviour.specs.declared.bounds.TheConstants.{MOST_STATES}
use Rattle.bn_network_assembly.specs.Assembled.{limits_of}
use Rattle.bn_qtable.specs.TapeWords.{TapeWord, Letters, Names, TapeWords, One, Three, tape_words_of}
use Rattle.bn_network.specs.declared.limits.TheConstants.{MOST_DRIVE_STEPS}
use Rattle.bn_words.specs.declared.request.Request as declared
use Rattle.bn_words.specs.declared.request.ConfigurationRequest as declared_configuration
use Rattle.bn_words.specs.declared.request.WholeRequest as declared_whole
use Rattle.bn_words.specs.declared.request.Request.TheVariants as variants
use Rattle.bn_words.specs.declared.request.ConfigurationRequest.TheVariants as config
use Rattle.bn_words.specs.declared.request.WholeRequest.TheVariants as whole

-- The request of the arguments, a case for each form: numbers, the letters of an input word, words on tapes, the
-- limits of a window, a greatest number of steps, which may be missing, and the names of ports, which may be missing
-- too.
pub data Request : Type 0 where
  Step : ℕ → Request
  Back : ℕ → Request
  Check : Request
  Machine : List ℕ → ℕ → Request
  Trace : List ℕ → ℕ → Request
  Moments : List ℕ → ℕ → Request
  ThreeMoments : List ℕ → List ℕ → List ℕ → ℕ → Request
  Reversible : Request
  Inverse : Request
  Bennett : Request
  Realise : ℕ → ℕ → Request
  Standard : Request
  Compile : List ℕ → Limits → Request
  Layout : List ℕ → Limits → Request
  Build : TapeWords → Limits → Request
  Drive : TapeWords → Limits → ℕ → Request
  Run : List ℕ → Limits → Option ℕ → Request
  RunAuto : List ℕ → Request
  View : List ℕ → Limits → ℕ → Request
  Session : List ℕ → Limits → Request
  Look : TapeWords → Limits → ℕ → Request
  Play : TapeWords → Limits → Request
  Plan : Request
  Migrate : Request
  Mirror : Request
  Farm : Request
  Generate : ℕ → Request
  Element : ℕ → ℕ → Request
  Erase : Request
  EraseRun : List ℕ → ℕ → Request
  Window : List ℕ → ℕ → Request
  Behaviour : ℕ → ℕ → Option PortNames → Request
  Crossings : ℕ → ℕ → Option PortNames → Request
  Equal : ℕ → ℕ → Request
  Room : TapeWords → ℕ → Request
  Walk : Request

-- ---- its words

-- the four limits of a window in decimal digits, and what follows them
abbrev pub limit_words : Limits → List (List ℕ) → List (List ℕ)
limit_words l rest = decimal l.left ∷ decimal l.right ∷ decimal l.steps ∷ decimal l.output ∷ rest

-- a word after the byte `=`, the limits of a window, and what follows them
abbrev pub window_words : List ℕ → Limits → List (List ℕ) → List (List ℕ)
window_words word l rest = (61 ∷ word) ∷ limit_words l rest

-- a word on a tape: its letters after the byte `=`, or its symbols' names after the byte `:`
abbrev pub word_argument : TapeWord → List ℕ
word_argument (Letters bytes) = 61 ∷ bytes
word_argument (Names bytes) = 58 ∷ bytes

-- the word on tape 1, or those on all tapes, and what follows them
abbrev pub tape_arguments : TapeWords → List (List ℕ) → List (List ℕ)
tape_arguments (One word) rest = word_argument word ∷ rest
tape_arguments (Three first second third) rest = word_argument first ∷ word_argument second ∷ word_argument third ∷ rest

-- the argument of a greatest number of steps, or none
abbrev pub steps_words : Option ℕ → List (List ℕ)
steps_words None = []
steps_words (Some e) = decimal e ∷ []

-- the arguments that name ports: their names after the byte `:`, those of the inputs first, or none
abbrev pub port_arguments : Option PortNames → List (List ℕ)
port_arguments None = []
port_arguments (Some names) = (58 ∷ names.inputs) ∷ (58 ∷ names.outputs) ∷ []

-- the arguments that ask for it: the command's name, followed by words on tapes, numbers in decimal digits, or `auto`
abbrev pub words_of : Request → List (List ℕ)
words_of (Step e) = codes "step" ∷ decimal e ∷ []
words_of (Back e) = codes "back" ∷ decimal e ∷ []
words_of Check = codes "check" ∷ []
words_of (Machine word n) = codes "machine" ∷ (61 ∷ word) ∷ decimal n ∷ []
words_of (Trace word n) = codes "trace" ∷ (61 ∷ word) ∷ decimal n ∷ []
words_of (Moments word n) = codes "moments" ∷ (61 ∷ word) ∷ decimal n ∷ []
words_of (ThreeMoments first second third n) =
    codes "moments" ∷ (61 ∷ first) ∷ (61 ∷ second) ∷ (61 ∷ third) ∷ decimal n ∷ []
words_of Reversible = codes "reversible" ∷ []
words_of Inverse = codes "inverse" ∷ []
words_of Bennett = codes "bennett" ∷ []
words_of (Realise q i) = codes "realise" ∷ decimal q ∷ decimal i ∷ []
words_of Standard = codes "standard" ∷ []
words_of (Compile word l) = codes "compile" ∷ window_words word l []
words_of (Layout word l) = codes "layout" ∷ window_words word l []
words_of (Build words l) = codes "build" ∷ tape_arguments words (limit_words l [])
words_of (Drive words l e) = codes "drive" ∷ tape_arguments words (limit_words l (decimal e ∷ []))
words_of (Run word l given) = codes "run" ∷ window_words word l (steps_words given)
words_of (RunAuto word) = codes "run" ∷ (61 ∷ word) ∷ codes "auto" ∷ []
words_of (View word l e) = codes "view" ∷ window_words word l (decimal e ∷ [])
words_of (Session word l) = codes "session" ∷ window_words word l []
words_of (Look words l e) = codes "look" ∷ tape_arguments words (limit_words l (decimal e ∷ []))
words_of (Play words l) = codes "play" ∷ tape_arguments words (limit_words l [])
words_of Plan = codes "plan" ∷ []
words_of Migrate = codes "migrate" ∷ []
words_of Mirror = codes "mirror" ∷ []
words_of Farm = codes "farm" ∷ []
words_of (Generate k) = codes "generate" ∷ decimal k ∷ []
words_of (Element k n) = codes "element" ∷ decimal k ∷ decimal n ∷ []
words_of Erase = codes "erase" ∷ []
words_of (EraseRun word n) = codes "erase" ∷ (61 ∷ word) ∷ decimal n ∷ []
words_of (Window word n) = codes "window" ∷ (61 ∷ word) ∷ decimal n ∷ []
words_of (Behaviour n e names) = codes "behaviour" ∷ decimal n ∷ decimal e ∷ port_arguments names
words_of (Crossings n e names) = codes "crossings" ∷ decimal n ∷ decimal e ∷ port_arguments names
words_of (Equal q r) = codes "equal" ∷ decimal q ∷ decimal r ∷ []
words_of (Room words n) = codes "room" ∷ tape_arguments words (decimal n ∷ [])
words_of Walk = codes "walk" ∷ []

-- ---- its limits

-- a number from 1 to this
abbrev pub IsFromOneTo : ℕ → ℕ → Type 0
IsFromOneTo most n = (1 ≤ n) × (n ≤ most)

-- a number from 1 to the greatest count
abbrev pub IsOrdinal : ℕ → Type 0
IsOrdinal n = IsFromOneTo MOST_COUNT n

-- each of its numbers is within its limit: at most 2^62 element steps, 2^61 for a drive; what is counted of a machine
-- at most the greatest count; from 1 to 4 increments; from 1 to 10 lines of an element; and of a circuit from 1 to
-- 65,536 states, and from 1 to 2^62 element steps for a crossing
abbrev pub IsAllowed : Request → Type 0
IsAllowed (Step e) = e ≤ greatest
IsAllowed (Back e) = e ≤ greatest
IsAllowed (Machine word n) = n ≤ MOST_COUNT
IsAllowed (Trace word n) = n ≤ MOST_COUNT
IsAllowed (Moments word n) = n ≤ MOST_COUNT
IsAllowed (ThreeMoments first second third n) = n ≤ MOST_COUNT
IsAllowed (Realise q i) = IsOrdinal q × IsOrdinal i
IsAllowed (Compile word l) = AreSmall l
IsAllowed (Layout word l) = AreSmall l
IsAllowed (Build words l) = AreSmall l
IsAllowed (Drive words l e) = AreSmall l × (e ≤ MOST_DRIVE_STEPS)
IsAllowed (Run word l given) = AreSmall l × IfSome given (λ e. e ≤ greatest)
IsAllowed (View word l e) = AreSmall l × (e ≤ greatest)
IsAllowed (Session word l) = AreSmall l
IsAllowed (Look words l e) = AreSmall l × (e ≤ greatest)
IsAllowed (Play words l) = AreSmall l
IsAllowed (Generate k) = IsRoundCount k
IsAllowed (Element k n) = IsLineCount k × (n ≤ greatest)
IsAllowed (EraseRun word n) = n ≤ MOST_COUNT
IsAllowed (Window word n) = n ≤ MOST_COUNT
IsAllowed (Behaviour n e names) = IsFromOneTo MOST_STATES n × IsFromOneTo greatest e
IsAllowed (Crossings n e names) = IsFromOneTo MOST_STATES n × IsFromOneTo greatest e
IsAllowed (Equal q r) = IsOrdinal q × IsOrdinal r
IsAllowed (Room words n) = n ≤ MOST_COUNT
IsAllowed _ = Unit {0}

-- ---- words and requests

-- the arguments ask for this: they are its arguments, and it is allowed
pub record HasForm (words : List (List ℕ)) (request : Request) : Type 0 where
  pub words_are : words ≡ words_of request
  pub allowed : IsAllowed request

-- the arguments ask for nothing
abbrev pub HasNoForm : List (List ℕ) → Type 0
HasNoForm words = (request : Request) → HasForm words request → ⊥

-- whether the command reads an input
abbrev pub reads_input : Request → Bool
reads_input (Generate k) = false
reads_input (Element k n) = false
reads_input _ = true

-- the meaning of the program's request: on a configuration text, on an input that is needed whole, and in all
abbrev pub of_configuration : declared_configuration.ConfigurationRequest → Request
of_configuration (config.Step e) = Step e
of_configuration (config.Back e) = Back e
of_configuration config.Plan = Plan
of_configuration config.Migrate = Migrate
of_configuration config.Mirror = Mirror
of_configuration (config.Behaviour n e names) = Behaviour n e (option_map port_names_of names)
of_configuration (config.Crossings n e names) = Crossings n e (option_map port_names_of names)

abbrev pub of_whole : declared_whole.WholeRequest → Request
of_whole whole.Check = Check
of_whole (whole.Machine word n) = Machine word.now n
of_whole (whole.Trace word n) = Trace word.now n
of_whole (whole.Moments word n) = Moments word.now n
of_whole (whole.ThreeMoments first second third n) = ThreeMoments first.now second.now third.now n
of_whole whole.Reversible = Reversible
of_whole whole.Inverse = Inverse
of_whole whole.Bennett = Bennett
of_whole (whole.Realise q i) = Realise q i
of_whole whole.Standard = Standard
of_whole (whole.Compile word window) = Compile word.now (limits_of window)
of_whole (whole.Layout word window) = Layout word.now (limits_of window)
of_whole (whole.Build words window) = Build (tape_words_of words) (limits_of window)
of_whole (whole.Drive words window e) = Drive (tape_words_of words) (limits_of window) e
of_whole (whole.Run word window given) = Run word.now (limits_of window) given
of_whole (whole.RunAuto word) = RunAuto word.now
of_whole (whole.View word window e) = View word.now (limits_of window) e
of_whole (whole.Session word window) = Session word.now (limits_of window)
of_whole (whole.Look words window e) = Look (tape_words_of words) (limits_of window) e
of_whole (whole.Play words window) = Play (tape_words_of words) (limits_of window)
of_whole whole.Farm = Farm
of_whole whole.Erase = Erase
of_whole (whole.EraseRun word n) = EraseRun word.now n
of_whole (whole.Window word n) = Window word.now n
of_whole (whole.Equal q r) = Equal q r
of_whole (whole.Room words n) = Room (tape_words_of words) n
of_whole whole.Walk = Walk

abbrev pub request_of : declared.Request → Request
request_of (variants.OnConfiguration asked) = of_configuration asked
request_of (variants.OnWhole asked) = of_whole asked
request_of (variants.Generate k) = Generate k
request_of (variants.Element k n) = Element k n

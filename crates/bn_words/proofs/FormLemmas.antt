-- Words have at most one form: by how many they are and what the first one names they are a case's, and what this case
-- says is read off them.
use Rattle.std.specs.Prelude.{◌≡◌, ℕ, ◌≤◌, ◌==◌, List, [], ◌∷◌, Option, Some, None, Result, Ok, Err, codes, decimal}
use Rattle.std.specs.Prelude.{if◌then◌else◌, refl}
use Rattle.std.specs.Str.{bytes_eq}
use Rattle.std.proofs.Common.{arith, sym, ap, ◌∙◌}
use Rattle.bn_base.specs.Number.{greatest, read_number}
use Rattle.bn_base.specs.declared.numbers.Digits.{Digits}
use Rattle.bn_machine.specs.Outcome.{Limits}
use Rattle.bn_network.specs.Limits.{AreSmall}
use Rattle.bn_behaviour.specs.PortNames.{PortNames}
use Rattle.bn_qtable.specs.TapeWords.{TapeWord, Letters, Names, TapeWords, One, Three}
use Rattle.bn_words.specs.Requests.{HasForm, IsAllowed, Request, word_argument, words_of, Step, Back, Check, Machine}
use Rattle.bn_words.specs.Requests.{Trace, Moments, ThreeMoments, Reversible, Inverse, Bennett, Realise, Standard}
use Rattle.bn_words.specs.Requests.{Build, Compile, Drive, Layout, Run, RunAuto, View, Session, Look, Play, Plan}
use Rattle.bn_words.specs.Requests.{Migrate, Mirror, Farm, Generate, Element, Erase, EraseRun, Window}
use Rattle.bn_words.specs.Requests.{Behaviour, Crossings, Equal, Room, Walk}
use Rattle.bn_words.proofs.Numbers.{read-whole}

-- ---- what one word would say

abbrev number_read : Result (ℕ × ℕ) Digits → ℕ
number_read (Ok p) = p.0
number_read (Err fault) = 0

abbrev pub value : List ℕ → ℕ
value word = number_read (read_number word 0)

value_again : (n : ℕ) → n ≤ greatest → value (decimal n) ≡ n
value_again n low = ap number_read (read-whole n low)

abbrev letters : List ℕ → List ℕ
letters [] = []
letters (b ∷ word) = word

abbrev tape_word : List ℕ → TapeWord
tape_word [] = Letters []
tape_word (b ∷ word) = if b == 58 then Names word else Letters word

tape_word_again : (w : TapeWord) → tape_word (word_argument w) ≡ w
tape_word_again (Letters bytes) = refl
tape_word_again (Names bytes) = refl

abbrev names : List ℕ → List ℕ → PortNames
names a b = record { inputs = letters a; outputs = letters b }

abbrev tape_words : List ℕ → List ℕ → List ℕ → TapeWords
tape_words a b c = Three (tape_word a) (tape_word b) (tape_word c)

tape_words_again : (u v w : TapeWord) → tape_words (word_argument u) (word_argument v) (word_argument w) ≡ Three u v w
tape_words_again u v w =
    let first = tape_word_again u in
    let second = tape_word_again v in
    let third = tape_word_again w in
    λ t. Three (first t) (second t) (third t)

abbrev limits : List ℕ → List ℕ → List ℕ → List ℕ → Limits
limits a b c d = record { left = value a; right = value b; steps = value c; output = value d }

limits_again : (l : Limits) → AreSmall l → limits (decimal l.left) (decimal l.right) (decimal l.steps)
    (decimal l.output) ≡ l
limits_again l small =
    let left = value_again l.left (omega (arith, small.0)) in
    let right = value_again l.right (omega (arith, small.1)) in
    let steps = value_again l.steps (omega (arith, small.2)) in
    let output = value_again l.output (omega (arith, small.3)) in
    λ t. record { left = left t; right = right t; steps = steps t; output = output t }

-- ---- the only request that words may ask for

abbrev alone : List ℕ → Option Request
alone name =
    if bytes_eq name (codes "check") then Some Check
    else if bytes_eq name (codes "reversible") then Some Reversible
    else if bytes_eq name (codes "inverse") then Some Inverse
    else if bytes_eq name (codes "bennett") then Some Bennett
    else if bytes_eq name (codes "standard") then Some Standard
    else if bytes_eq name (codes "plan") then Some Plan
    else if bytes_eq name (codes "migrate") then Some Migrate
    else if bytes_eq name (codes "mirror") then Some Mirror
    else if bytes_eq name (codes "farm") then Some Farm
    else if bytes_eq name (codes "erase") then Some Erase
    else if bytes_eq name (codes "walk") then Some Walk
    else None

abbrev with_number : List ℕ → List ℕ → Option Request
with_number name a =
    if bytes_eq name (codes "step") then Some (Step (value a))
    else if bytes_eq name (codes "back") then Some (Back (value a))
    else Some (Generate (value a))

abbrev with_pair : List ℕ → List ℕ → List ℕ → Option Request
with_pair name a b =
    if bytes_eq name (codes "realise") then Some (Realise (value a) (value b))
    else if bytes_eq name (codes "run") then Some (RunAuto (letters a))
    else if bytes_eq name (codes "machine") then Some (Machine (letters a) (value b))
    else if bytes_eq name (codes "trace") then Some (Trace (letters a) (value b))
    else if bytes_eq name (codes "moments") then Some (Moments (letters a) (value b))
    else if bytes_eq name (codes "element") then Some (Element (value a) (value b))
    else if bytes_eq name (codes "window") then Some (Window (letters a) (value b))
    else if bytes_eq name (codes "behaviour") then Some (Behaviour (value a) (value b) None)
    else if bytes_eq name (codes "crossings") then Some (Crossings (value a) (value b) None)
    else if bytes_eq name (codes "equal") then Some (Equal (value a) (value b))
    else if bytes_eq name (codes "room") then Some (Room (One (tape_word a)) (value b))
    else Some (EraseRun (letters a) (value b))

abbrev with_four : List ℕ → List ℕ → List ℕ → List ℕ → List ℕ → Option Request
with_four name a b c d =
    if bytes_eq name (codes "behaviour") then Some (Behaviour (value a) (value b) (Some (names c d)))
    else if bytes_eq name (codes "crossings") then Some (Crossings (value a) (value b) (Some (names c d)))
    else if bytes_eq name (codes "room") then Some (Room (tape_words a b c) (value d))
    else Some (ThreeMoments (letters a) (letters b) (letters c) (value d))

abbrev with_window : List ℕ → List ℕ → Limits → Option Request
with_window name a l =
    if bytes_eq name (codes "compile") then Some (Compile (letters a) l)
    else if bytes_eq name (codes "layout") then Some (Layout (letters a) l)
    else if bytes_eq name (codes "build") then Some (Build (One (tape_word a)) l)
    else if bytes_eq name (codes "play") then Some (Play (One (tape_word a)) l)
    else if bytes_eq name (codes "run") then Some (Run (letters a) l None)
    else Some (Session (letters a) l)

abbrev with_window_and_steps : List ℕ → List ℕ → Limits → List ℕ → Option Request
with_window_and_steps name a l e =
    if bytes_eq name (codes "run") then Some (Run (letters a) l (Some (value e)))
    else if bytes_eq name (codes "drive") then Some (Drive (One (tape_word a)) l (value e))
    else if bytes_eq name (codes "look") then Some (Look (One (tape_word a)) l (value e))
    else Some (View (letters a) l (value e))

abbrev with_words_and_window : List ℕ → TapeWords → Limits → Option Request
with_words_and_window name w l = if bytes_eq name (codes "build") then Some (Build w l) else Some (Play w l)

abbrev with_words_and_steps : List ℕ → TapeWords → Limits → List ℕ → Option Request
with_words_and_steps name w l e =
    if bytes_eq name (codes "drive") then Some (Drive w l (value e)) else Some (Look w l (value e))

abbrev pub only : List (List ℕ) → Option Request
only (name ∷ []) = alone name
only (name ∷ a ∷ []) = with_number name a
only (name ∷ a ∷ b ∷ []) = with_pair name a b
only (name ∷ a ∷ b ∷ c ∷ d ∷ []) = with_four name a b c d
only (name ∷ a ∷ b ∷ c ∷ d ∷ e ∷ []) = with_window name a (limits b c d e)
only (name ∷ a ∷ b ∷ c ∷ d ∷ e ∷ f ∷ []) = with_window_and_steps name a (limits b c d e) f
only (name ∷ a ∷ b ∷ c ∷ d ∷ e ∷ f ∷ g ∷ []) = with_words_and_window name (tape_words a b c) (limits d e f g)
only (name ∷ a ∷ b ∷ c ∷ d ∷ e ∷ f ∷ g ∷ h ∷ []) = with_words_and_steps name (tape_words a b c) (limits d e f g) h
only _ = None

-- it is that of its own words
again : (r : Request) → IsAllowed r → only (words_of r) ≡ Some r
again (Step e) h = ap (λ n. Some (Step n)) (value_again e h)
again (Back e) h = ap (λ n. Some (Back n)) (value_again e h)
again (Machine w n) h = ap (λ m. Some (Machine w m)) (value_again n (omega (arith, h)))
again (Trace w n) h = ap (λ m. Some (Trace w m)) (value_again n (omega (arith, h)))
again (Moments w n) h = ap (λ m. Some (Moments w m)) (value_again n (omega (arith, h)))
again (ThreeMoments a b c n) h = ap (λ m. Some (ThreeMoments a b c m)) (value_again n (omega (arith, h)))
again (Realise q i) h =
    let state = value_again q (omega (arith, h.0.1)) in
    let line = value_again i (omega (arith, h.1.1)) in
    λ t. Some (Realise (state t) (line t))
again (Compile w l) h = ap (λ m. Some (Compile w m)) (limits_again l h)
again (Layout w l) h = ap (λ m. Some (Layout w m)) (limits_again l h)
again (Build (One w) l) h =
    let word = tape_word_again w in
    let window = limits_again l h in
    λ t. Some (Build (One (word t)) (window t))
again (Build (Three u v w) l) h =
    let words = tape_words_again u v w in
    let window = limits_again l h in
    λ t. Some (Build (words t) (window t))
again (Drive (One w) l e) h =
    let word = tape_word_again w in
    let window = limits_again l h.0 in
    let steps = value_again e (omega (arith, h.1)) in
    λ t. Some (Drive (One (word t)) (window t) (steps t))
again (Drive (Three u v w) l e) h =
    let words = tape_words_again u v w in
    let window = limits_again l h.0 in
    let steps = value_again e (omega (arith, h.1)) in
    λ t. Some (Drive (words t) (window t) (steps t))
again (Run w l None) h = ap (λ m. Some (Run w m None)) (limits_again l h.0)
again (Run w l (Some e)) h =
    let window = limits_again l h.0 in
    let steps = value_again e h.1 in
    λ t. Some (Run w (window t) (Some (steps t)))
again (View w l e) h =
    let window = limits_again l h.0 in
    let steps = value_again e h.1 in
    λ t. Some (View w (window t) (steps t))
again (Session w l) h = ap (λ m. Some (Session w m)) (limits_again l h)
again (Look (One w) l e) h =
    let word = tape_word_again w in
    let window = limits_again l h.0 in
    let steps = value_again e h.1 in
    λ t. Some (Look (One (word t)) (window t) (steps t))
again (Look (Three u v w) l e) h =
    let words = tape_words_again u v w in
    let window = limits_again l h.0 in
    let steps = value_again e h.1 in
    λ t. Some (Look (words t) (window t) (steps t))
again (Play (One w) l) h =
    let word = tape_word_again w in
    let window = limits_again l h in
    λ t. Some (Play (One (word t)) (window t))
again (Play (Three u v w) l) h =
    let words = tape_words_again u v w in
    let window = limits_again l h in
    λ t. Some (Play (words t) (window t))
again (Generate k) h = ap (λ n. Some (Generate n)) (value_again k (omega (arith, h.few)))
again (Element k n) h =
    let lines = value_again k (omega (arith, h.0.few)) in
    let number = value_again n h.1 in
    λ t. Some (Element (lines t) (number t))
again (EraseRun w n) h = ap (λ m. Some (EraseRun w m)) (value_again n (omega (arith, h)))
again (Window w n) h = ap (λ m. Some (Window w m)) (value_again n (omega (arith, h)))
again (Behaviour n e None) h =
    let states = value_again n (omega (arith, h.0.1)) in
    let steps = value_again e h.1.1 in
    λ t. Some (Behaviour (states t) (steps t) None)
again (Behaviour n e (Some names)) h =
    let states = value_again n (omega (arith, h.0.1)) in
    let steps = value_again e h.1.1 in
    λ t. Some (Behaviour (states t) (steps t) (Some names))
again (Crossings n e None) h =
    let states = value_again n (omega (arith, h.0.1)) in
    let steps = value_again e h.1.1 in
    λ t. Some (Crossings (states t) (steps t) None)
again (Crossings n e (Some names)) h =
    let states = value_again n (omega (arith, h.0.1)) in
    let steps = value_again e h.1.1 in
    λ t. Some (Crossings (states t) (steps t) (Some names))
again (Equal q r) h =
    let state = value_again q (omega (arith, h.0.1)) in
    let other = value_again r (omega (arith, h.1.1)) in
    λ t. Some (Equal (state t) (other t))
again (Room (One w) n) h =
    let word = tape_word_again w in
    let steps = value_again n (omega (arith, h)) in
    λ t. Some (Room (One (word t)) (steps t))
again (Room (Three u v w) n) h =
    let words = tape_words_again u v w in
    let steps = value_again n (omega (arith, h)) in
    λ t. Some (Room (words t) (steps t))
again r h = refl

pub only_form : (words : List (List ℕ)) (r : Request) → HasForm words r → only words ≡ Some r
only_form words r h = ap only h.words_are ∙ again r h.allowed

-- words have at most one reading
pub one_form : (words : List (List ℕ)) (a b : Request) → HasForm words a → HasForm words b → a ≡ b
one_form words a b h k =
    let one : Some a ≡ Some b = sym (only_form words a h) ∙ only_form words b k in
    cc

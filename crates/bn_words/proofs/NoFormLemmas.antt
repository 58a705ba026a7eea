-- Where words ask for nothing: what the reader tests of them, and the words that it takes of a slice.
use Rattle.std.specs.Prelude.{◌≡◌, ◌≢◌, ℕ, ◌<◌, ◌≤◌, List, [], ◌∷◌, length, map, Some, None, codes, ◌⊎◌}
use Rattle.std.proofs.Common.{get_or, arith, inl, inr, sym, ap, ◌∙◌}
use Rattle.std.proofs.lemmas.List.{length-map}
use Rattle.bn_base.specs.Number.{greatest}
use Rattle.bn_base.specs.declared.limits.TheConstants.{MOST_COUNT}
use Rattle.bn_base.proofs.NumberLemmas.{decimal-once}
use Rattle.bn_gen.specs.declared.machine.TheConstants.{MOST_INCREMENTS}
use Rattle.bn_qtable.specs.TapeWords.{One, Three}
use Rattle.bn_words.specs.Requests.{HasNoForm, Step, Back, Machine, Trace, Moments, ThreeMoments, Realise}
use Rattle.bn_words.specs.Requests.{Build, Compile, Drive, Layout, Run, RunAuto, View, Session, Look, Play, Generate}
use Rattle.bn_words.specs.Requests.{Element, EraseRun, Window, Behaviour, Crossings, Equal, Room}
use Rattle.bn_words.specs.Words.{AreNoDriveSteps, IsNoCount, IsNoNumberFromOne, IsNumber}
use Rattle.bn_network.specs.declared.limits.TheConstants.{MOST_DRIVE_STEPS}

-- ---- one word

number_once : (word : List ℕ) (m n : ℕ) → IsNumber word m → IsNumber word n → m ≡ n
number_once word m n a b = decimal-once m n a.bound b.bound (sym a.spelled ∙ b.spelled)

-- a number that is out of the limit is no count
pub no_count : (word : List ℕ) (n : ℕ) → IsNumber word n → MOST_COUNT < n → IsNoCount word
no_count word n is over m h =
    let low : m ≤ greatest = omega (arith, h.bound) in
    let same = number_once word m n (record { spelled = h.spelled; bound = low }) is in
    absurd (omega (arith, same, over, h.bound))

-- a number of steps that is out of the limit of a drive is none
pub no_drive_steps : (word : List ℕ) (n : ℕ) → IsNumber word n → MOST_DRIVE_STEPS < n → AreNoDriveSteps word
no_drive_steps word n is over m h =
    let low : m ≤ greatest = omega (arith, h.bound) in
    let same = number_once word m n (record { spelled = h.spelled; bound = low }) is in
    absurd (omega (arith, same, over, h.bound))

-- a number of increments that is out of the limits
pub no_increments : (name word : List ℕ) (n : ℕ) → name ≡ codes "generate" → IsNumber word n
    → (n < 1) ⊎ (MOST_INCREMENTS < n) →
    HasNoForm (name ∷ word ∷ [])
no_increments name word n is number out (Generate k) h =
    let low : k ≤ greatest = omega (arith, h.allowed.few) in
    let same : k ≡ n = number_once word k n (record { spelled = let words = h.words_are in cc; bound = low }) number in
    beyond k same h.allowed.some h.allowed.few out
  where
    beyond : (m : ℕ) → m ≡ n → 1 ≤ m → m ≤ MOST_INCREMENTS → (n < 1) ⊎ (MOST_INCREMENTS < n) → ⊥
    beyond m e some few (inl under) = omega (arith, e, some, under)
    beyond m e some few (inr over) = omega (arith, e, few, over)
no_increments name word n is number out r h = let words = h.words_are in cc

-- a number that is out of its limits is none
pub no_number_from_one : (most : ℕ) (word : List ℕ) (n : ℕ) → most ≤ greatest → IsNumber word n
    → (n < 1) ⊎ (most < n) → IsNoNumberFromOne most word
no_number_from_one most word n few is out m h =
    let low : m ≤ greatest = omega (arith, h.bound, few) in
    let same = number_once word m n (record { spelled = h.spelled; bound = low }) is in
    beyond same h.some h.bound out
  where
    beyond : m ≡ n → 1 ≤ m → m ≤ most → (n < 1) ⊎ (most < n) → ⊥
    beyond e some bound (inl under) = omega (arith, e, some, under)
    beyond e some bound (inr over) = omega (arith, e, bound, over)

-- ---- the words of a slice

no_length : (words : List (List ℕ)) → length words ≢ 1 → length words ≢ 2 → length words ≢ 3 → length words ≢ 5
    → length words ≢ 6 → length words ≢ 7 → length words ≢ 8 →
    length words ≢ 9 → HasNoForm words
no_length words a b c k d e f g (Step n) h = b (ap length h.words_are)
no_length words a b c k d e f g (Back n) h = b (ap length h.words_are)
no_length words a b c k d e f g (Machine w n) h = c (ap length h.words_are)
no_length words a b c k d e f g (Trace w n) h = c (ap length h.words_are)
no_length words a b c k d e f g (Moments w n) h = c (ap length h.words_are)
no_length words a b c k d e f g (ThreeMoments x y z n) h = k (ap length h.words_are)
no_length words a b c k d e f g (Realise q i) h = c (ap length h.words_are)
no_length words a b c k d e f g (Compile w l) h = d (ap length h.words_are)
no_length words a b c k d e f g (Layout w l) h = d (ap length h.words_are)
no_length words a b c k d e f g (Build (One w) l) h = d (ap length h.words_are)
no_length words a b c k d e f g (Build (Three u v w) l) h = f (ap length h.words_are)
no_length words a b c k d e f g (Drive (One w) l n) h = e (ap length h.words_are)
no_length words a b c k d e f g (Drive (Three u v w) l n) h = g (ap length h.words_are)
no_length words a b c k d e f g (Run w l None) h = d (ap length h.words_are)
no_length words a b c k d e f g (Run w l (Some n)) h = e (ap length h.words_are)
no_length words a b c k d e f g (RunAuto w) h = c (ap length h.words_are)
no_length words a b c k d e f g (View w l n) h = e (ap length h.words_are)
no_length words a b c k d e f g (Session w l) h = d (ap length h.words_are)
no_length words a b c k d e f g (Look (One w) l n) h = e (ap length h.words_are)
no_length words a b c k d e f g (Look (Three u v w) l n) h = g (ap length h.words_are)
no_length words a b c k d e f g (Play (One w) l) h = d (ap length h.words_are)
no_length words a b c k d e f g (Play (Three u v w) l) h = f (ap length h.words_are)
no_length words a b c k d e f g (Generate n) h = b (ap length h.words_are)
no_length words a b c k d e f g (Element m n) h = c (ap length h.words_are)
no_length words a b c k d e f g (EraseRun w n) h = c (ap length h.words_are)
no_length words a b c k d e f g (Window w n) h = c (ap length h.words_are)
no_length words a b c k d e f g (Behaviour m n None) h = c (ap length h.words_are)
no_length words a b c k d e f g (Behaviour m n (Some names)) h = k (ap length h.words_are)
no_length words a b c k d e f g (Crossings m n None) h = c (ap length h.words_are)
no_length words a b c k d e f g (Crossings m n (Some names)) h = k (ap length h.words_are)
no_length words a b c k d e f g (Equal q r) h = c (ap length h.words_are)
no_length words a b c k d e f g (Room (One w) n) h = c (ap length h.words_are)
no_length words a b c k d e f g (Room (Three u v w) n) h = k (ap length h.words_are)
no_length words a b c k d e f g r h = a (ap length h.words_are)

module _ {S : Type 0} (text : S → List ℕ) where
  -- another number of words
  pub other_length : (ws : List S) → length ws ≢ 1 → length ws ≢ 2 → length ws ≢ 3 → length ws ≢ 5 → length ws ≢ 6
      → length ws ≢ 7 →
      length ws ≢ 8 → length ws ≢ 9 → HasNoForm (map text ws)
  other_length ws a b c k d e f g =
      let all : length (map text ws) ≡ length ws = simp length-map in
      no_length (map text ws) (λ n. a (sym all ∙ n)) (λ n. b (sym all ∙ n)) (λ n. c (sym all ∙ n))
      (λ n. k (sym all ∙ n))
      (λ n. d (sym all ∙ n)) (λ n. e (sym all ∙ n)) (λ n. f (sym all ∙ n)) (λ n. g (sym all ∙ n))

  pub five_texts : (ws : List S) (a b c d e : S) → length ws ≡ 5 → a ≡ get_or ws 0 a → b ≡ get_or ws 1 b
      → c ≡ get_or ws 2 c →
      d ≡ get_or ws 3 d → e ≡ get_or ws 4 e → map text ws ≡ text a ∷ text b ∷ text c ∷ text d ∷ text e ∷ []
  five_texts (u ∷ v ∷ w ∷ x ∷ y ∷ []) a b c d e n p q r s t = cc
  five_texts ws a b c d e n p q r s t = absurd (omega (arith, n))

  pub six_texts : (ws : List S) (a b c d e f : S) → length ws ≡ 6 → a ≡ get_or ws 0 a → b ≡ get_or ws 1 b
      → c ≡ get_or ws 2 c →
      d ≡ get_or ws 3 d → e ≡ get_or ws 4 e → f ≡ get_or ws 5 f
      → map text ws ≡ text a ∷ text b ∷ text c ∷ text d ∷ text e ∷ text f ∷ []
  six_texts (u ∷ v ∷ w ∷ x ∷ y ∷ z ∷ []) a b c d e f n p q r s t o = cc
  six_texts ws a b c d e f n p q r s t o = absurd (omega (arith, n))

  pub seven_texts : (ws : List S) (a b c d e f g : S) → length ws ≡ 7 → a ≡ get_or ws 0 a → b ≡ get_or ws 1 b
      → c ≡ get_or ws 2 c →
      d ≡ get_or ws 3 d → e ≡ get_or ws 4 e → f ≡ get_or ws 5 f → g ≡ get_or ws 6 g →
      map text ws ≡ text a ∷ text b ∷ text c ∷ text d ∷ text e ∷ text f ∷ text g ∷ []
  seven_texts (h ∷ u ∷ v ∷ w ∷ x ∷ y ∷ z ∷ []) a b c d e f g n p q r s t o i = cc
  seven_texts ws a b c d e f g n p q r s t o i = absurd (omega (arith, n))

  pub eight_texts : (ws : List S) (a b c d e f g h : S) → length ws ≡ 8 → a ≡ get_or ws 0 a → b ≡ get_or ws 1 b
      → c ≡ get_or ws 2 c →
      d ≡ get_or ws 3 d → e ≡ get_or ws 4 e → f ≡ get_or ws 5 f → g ≡ get_or ws 6 g → h ≡ get_or ws 7 h →
      map text ws ≡ text a ∷ text b ∷ text c ∷ text d ∷ text e ∷ text f ∷ text g ∷ text h ∷ []
  eight_texts (j ∷ k ∷ u ∷ v ∷ w ∷ x ∷ y ∷ z ∷ []) a b c d e f g h n p q r s t o i l = cc
  eight_texts ws a b c d e f g h n p q r s t o i l = absurd (omega (arith, n))

  pub nine_texts : (ws : List S) (a b c d e f g h i : S) → length ws ≡ 9 → a ≡ get_or ws 0 a → b ≡ get_or ws 1 b
      → c ≡ get_or ws 2 c →
      d ≡ get_or ws 3 d → e ≡ get_or ws 4 e → f ≡ get_or ws 5 f → g ≡ get_or ws 6 g → h ≡ get_or ws 7 h
      → i ≡ get_or ws 8 i →
      map text ws ≡ text a ∷ text b ∷ text c ∷ text d ∷ text e ∷ text f ∷ text g ∷ text h ∷ text i ∷ []
  nine_texts (j ∷ k ∷ m ∷ u ∷ v ∷ w ∷ x ∷ y ∷ z ∷ []) a b c d e f g h i n p q r s t o l aa bb = cc
  nine_texts ws a b c d e f g h i n p q r s t o l aa bb = absurd (omega (arith, n))

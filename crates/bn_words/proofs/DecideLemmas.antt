-- Words have a form, or they have none.
use Rattle.std.specs.Prelude.{◌≡◌, ◌≢◌, ℕ, ◌≤◌, List, [], ◌∷◌, Option, Some, None, refl, ◌⊎◌}
use Rattle.std.proofs.Common.{arith, sym, ap, subst, ◌∙◌, inl, inr}
use Rattle.std.proofs.lemmas.Bool.{cases_lt}
use Rattle.std.proofs.lemmas.Bool.Decides.{eqb_tells}
use Rattle.bn_base.specs.Number.{greatest}
use Rattle.bn_base.specs.declared.limits.TheConstants.{MOST_COUNT}
use Rattle.bn_behaviour.specs.declared.bounds.TheConstants.{MOST_STATES}
use Rattle.bn_gen.specs.Increments.{IsRoundCount}
use Rattle.bn_gen.specs.declared.machine.TheConstants.{MOST_INCREMENTS}
use Rattle.bn_machine.specs.Outcome.{Limits}
use Rattle.bn_network.specs.Limits.{AreSmall}
use Rattle.bn_rlem.specs.Elements.{IsLineCount}
use Rattle.bn_rlem.specs.declared.element.TheConstants.{MOST_LINES}
use Rattle.bn_words.specs.Laws.{WordsHaveAFormOrNone}
use Rattle.bn_words.specs.Requests.{HasForm, HasNoForm, IsAllowed, IsOrdinal, Request, words_of}
use Rattle.bn_words.specs.Requests.{Step, Back, Machine, Trace, Moments, ThreeMoments, Realise, Build, Compile, Drive}
use Rattle.bn_words.specs.Requests.{Layout, Run, View, Session, Look, Play, Generate, Element, EraseRun, Window}
use Rattle.bn_words.specs.Requests.{Behaviour, Crossings, Equal, IsFromOneTo, Room}
use Rattle.bn_network.specs.declared.limits.TheConstants.{MOST_DRIVE_STEPS}
use Rattle.bn_words.proofs.FormLemmas.{only, only_form}

-- ---- whether words are the same

same_or_not : (a b : List ℕ) → (a ≡ b) ⊎ (a ≢ b)
same_or_not [] [] = inl refl
same_or_not [] (y ∷ ys) = inr (λ e. cc)
same_or_not (x ∷ xs) [] = inr (λ e. cc)
same_or_not (x ∷ xs) (y ∷ ys) =
    elim (eqb_tells x y) [
      | inl first ↦
          (elim (same_or_not xs ys) [
            | inl later ↦ inl (ap (λ n. n ∷ xs) first.1 ∙ ap (λ ns. y ∷ ns) later)
            | inr other ↦ inr (λ e. other (cc))
          ])
      | inr other ↦ inr (λ e. other.1 (cc))
    ]

same_words_or_not : (a b : List (List ℕ)) → (a ≡ b) ⊎ (a ≢ b)
same_words_or_not [] [] = inl refl
same_words_or_not [] (y ∷ ys) = inr (λ e. cc)
same_words_or_not (x ∷ xs) [] = inr (λ e. cc)
same_words_or_not (x ∷ xs) (y ∷ ys) =
    elim (same_or_not x y) [
      | inl first ↦
          (elim (same_words_or_not xs ys) [
            | inl later ↦ inl (ap (λ n. n ∷ xs) first ∙ ap (λ ns. y ∷ ns) later)
            | inr other ↦ inr (λ e. other (cc))
          ])
      | inr other ↦ inr (λ e. other (cc))
    ]

-- ---- whether a request is allowed

abbrev OrNot : Type 0 → Type 0
OrNot P = P ⊎ (P → ⊥)

both : (P Q : Type 0) → OrNot P → OrNot Q → OrNot (P × Q)
both P Q (inl p) (inl q) = inl (p, q)
both P Q (inr p) q = inr (λ h. p h.0)
both P Q (inl p) (inr q) = inr (λ h. q h.1)

through : (P Q : Type 0) → (P → Q) → (Q → P) → OrNot P → OrNot Q
through P Q to from (inl p) = inl (to p)
through P Q to from (inr p) = inr (λ q. p (from q))

low_or_not : (n most : ℕ) → OrNot (n ≤ most)
low_or_not n most = elim (cases_lt most n) [
  | inl over ↦ inr (λ h. absurd (omega (arith, over, h)))
  | inr low ↦ inl low
]

ordinal_or_not : (n most : ℕ) → OrNot ((1 ≤ n) × (n ≤ most))
ordinal_or_not n most = both (1 ≤ n) (n ≤ most) (low_or_not 1 n) (low_or_not n most)

small_or_not : (l : Limits) → OrNot (AreSmall l)
small_or_not l =
    through ((l.left ≤ MOST_COUNT) × ((l.right ≤ MOST_COUNT) × ((l.steps ≤ MOST_COUNT) × (l.output ≤ MOST_COUNT))))
    (AreSmall l)
    (λ h. (h.0, h.1.0, h.1.1.0, h.1.1.1)) (λ s. (s.0, (s.1, (s.2, s.3))))
    (both _ _ (low_or_not l.left MOST_COUNT) (both _ _ (low_or_not l.right MOST_COUNT)
    (both _ _ (low_or_not l.steps MOST_COUNT) (low_or_not l.output MOST_COUNT))))

round_or_not : (k : ℕ) → OrNot (IsRoundCount k)
round_or_not k =
    through ((1 ≤ k) × (k ≤ MOST_INCREMENTS)) (IsRoundCount k) (λ h. record { some = h.0; few = h.1 })
    (λ h. (h.some, h.few))
    (ordinal_or_not k MOST_INCREMENTS)

lines_or_not : (k : ℕ) → OrNot (IsLineCount k)
lines_or_not k =
    through ((1 ≤ k) × (k ≤ MOST_LINES)) (IsLineCount k) (λ h. record { some = h.0; few = h.1 }) (λ h. (h.some, h.few))
    (ordinal_or_not k MOST_LINES)

explored_or_not : (n e : ℕ) → OrNot (IsFromOneTo MOST_STATES n × IsFromOneTo greatest e)
explored_or_not n e =
    both (IsFromOneTo MOST_STATES n) (IsFromOneTo greatest e) (ordinal_or_not n MOST_STATES) (ordinal_or_not e greatest)

allowed_or_not : (r : Request) → OrNot (IsAllowed r)
allowed_or_not (Step e) = low_or_not e greatest
allowed_or_not (Back e) = low_or_not e greatest
allowed_or_not (Machine w n) = low_or_not n MOST_COUNT
allowed_or_not (Trace w n) = low_or_not n MOST_COUNT
allowed_or_not (Moments w n) = low_or_not n MOST_COUNT
allowed_or_not (ThreeMoments a b c n) = low_or_not n MOST_COUNT
allowed_or_not (Realise q i) = both (IsOrdinal q) (IsOrdinal i) (ordinal_or_not q MOST_COUNT)
    (ordinal_or_not i MOST_COUNT)
allowed_or_not (Compile w l) = small_or_not l
allowed_or_not (Layout w l) = small_or_not l
allowed_or_not (Build w l) = small_or_not l
allowed_or_not (Drive w l e) = both (AreSmall l) (e ≤ MOST_DRIVE_STEPS) (small_or_not l) (low_or_not e MOST_DRIVE_STEPS)
allowed_or_not (Run w l None) = both (AreSmall l) (Unit {0}) (small_or_not l) (inl tt)
allowed_or_not (Run w l (Some e)) = both (AreSmall l) (e ≤ greatest) (small_or_not l) (low_or_not e greatest)
allowed_or_not (View w l e) = both (AreSmall l) (e ≤ greatest) (small_or_not l) (low_or_not e greatest)
allowed_or_not (Session w l) = small_or_not l
allowed_or_not (Look w l e) = both (AreSmall l) (e ≤ greatest) (small_or_not l) (low_or_not e greatest)
allowed_or_not (Play w l) = small_or_not l
allowed_or_not (Generate k) = round_or_not k
allowed_or_not (Element k n) = both (IsLineCount k) (n ≤ greatest) (lines_or_not k) (low_or_not n greatest)
allowed_or_not (EraseRun w n) = low_or_not n MOST_COUNT
allowed_or_not (Window w n) = low_or_not n MOST_COUNT
allowed_or_not (Behaviour n e names) = explored_or_not n e
allowed_or_not (Crossings n e names) = explored_or_not n e
allowed_or_not (Equal q r) = both (IsOrdinal q) (IsOrdinal r) (ordinal_or_not q MOST_COUNT)
    (ordinal_or_not r MOST_COUNT)
allowed_or_not (Room w n) = low_or_not n MOST_COUNT
allowed_or_not r = inl tt

-- ---- whether words have a form

-- words that may ask for one thing alone ask for it, or for nothing
by_only : (words : List (List ℕ)) (r : Request) → only words ≡ Some r → (words ≡ words_of r) ⊎ (words ≢ words_of r)
    → OrNot (IsAllowed r) →
    ((request : Request) × HasForm words request) ⊎ HasNoForm words
by_only words r is (inl same) (inl allowed) = inl (r, record { words_are = same; allowed = allowed })
by_only words r is (inr other) allowed = inr (λ request h. other
    (let one : Some request ≡ Some r = sym (only_form words request h) ∙ is in
    let r_is : request ≡ r = cc in h.words_are ∙ ap words_of r_is))
by_only words r is (inl same) (inr not) = inr (λ request h. not
    (let one : Some request ≡ Some r = sym (only_form words request h) ∙ is in
    let r_is : request ≡ r = cc in subst IsAllowed r_is h.allowed))

pub words_have_form_or_none : WordsHaveAFormOrNone
words_have_form_or_none words = by (only words) refl
  where
    by : (o : Option Request) → only words ≡ o → ((request : Request) × HasForm words request) ⊎ HasNoForm words
    by None is = inr (λ request h. let one : None ≡ Some request = sym is ∙ only_form words request h in cc)
    by (Some r) is = by_only words r is (same_words_or_not words (words_of r)) (allowed_or_not r)

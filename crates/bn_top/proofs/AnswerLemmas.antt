-- Words and bytes have at most one answer, and words that ask for something have one.
use Rattle.std.specs.Prelude.{◌≡◌, true, false, ℕ, ◌<◌, ◌≤◌, List, [], length, refl, ◌⊎◌}
use Rattle.std.proofs.Common.{ap, arith, sym, subst, ◌∙◌, inl, inr}
use Rattle.std.proofs.lemmas.Bool.{cases_Bool, cases_lt, false≢true}
use Rattle.bn_words.specs.Requests.{Request, HasForm, reads_input}
use Rattle.bn_words.proofs.FormLemmas.{one_form}
use Rattle.bn_reply.specs.Answering.{HasAnswer}
use Rattle.bn_reply.specs.declared.status.Status.TheVariants.{Usage, Size}
use Rattle.bn_reply.proofs.SettledLemmas.{agree}
use Rattle.bn_top.specs.Answers.{Answers, no_form, unread, too_long, replied, Replies}
use Rattle.bn_reply.specs.Streams.{size_text}
use Rattle.bn_reply.specs.declared.limits.TheConstants.{MOST_INPUT_BYTES}
use Rattle.bn_top.specs.Laws.{AnswersAreOne, RequestsAreAnswered}
use Rattle.bn_top.proofs.Commands.{settled}

by_length : (words : List (List ℕ)) (request : Request) (bytes : List ℕ) → HasForm words request
    → reads_input request ≡ true →
    (MOST_INPUT_BYTES < length bytes) ⊎ (length bytes ≤ MOST_INPUT_BYTES) → HasAnswer (Answers words bytes)
by_length words request bytes form reads (inl long) = (
  Size,
  size_text,
  [],
  too_long request form reads long refl refl refl,
)
by_length words request bytes form reads (inr short) = let h =
    (settled words request form bytes).some in (h.0, h.1, h.2, replied request form reads short h.3)

by_reading : (words : List (List ℕ)) (request : Request) (bytes : List ℕ) → HasForm words request →
    (reads_input request ≡ true) ⊎ (reads_input request ≡ false) → HasAnswer (Answers words bytes)
by_reading words request bytes form (inl reads) = by_length words request bytes form reads
    (cases_lt MOST_INPUT_BYTES (length bytes))
by_reading words request bytes form (inr nothing) = let h = (settled words request form []).some in
    (h.0, h.1, h.2, unread request form nothing h.3)

pub requests-are-answered : RequestsAreAnswered
requests-are-answered words request bytes form = by_reading words request bytes form (cases_Bool (reads_input request))

-- no words ask both for what reads an input and for what reads none
pub not_both : (words : List (List ℕ)) (c d : Request) → HasForm words c → HasForm words d → reads_input c ≡ true
    → reads_input d ≡ false → ⊥
not_both words c d form other reads nothing =
    let same : reads_input c ≡ reads_input d = ap (λ (r : Request). reads_input r) (one_form words c d form other) in
    false≢true (sym nothing ∙ sym same ∙ reads)

-- words and bytes have at most one answer
pub answers-are-one : AnswersAreOne
answers-are-one words bytes s u a b x y (no_form none e t p) (no_form _ f v q) =
    agree Usage s u a b x y e f (t ∙ sym v) p q
answers-are-one words bytes s u a b x y (no_form none e t p) (unread d form nothing r) = absurd (none d form)
answers-are-one words bytes s u a b x y (no_form none e t p) (too_long d form reads l f v q) = absurd (none d form)
answers-are-one words bytes s u a b x y (no_form none e t p) (replied d form reads l r) = absurd (none d form)
answers-are-one words bytes s u a b x y (unread c form nothing r) (no_form none f v q) = absurd (none c form)
answers-are-one words bytes s u a b x y (unread c form nothing r) (unread d other _ q) =
    let same = one_form words d c other form in
    (settled words c form []).one s u a b x y r (subst (λ z. Replies z [] u b y) same q)
answers-are-one words bytes s u a b x y (unread c form nothing r) (too_long d other reads l f v q) =
    absurd (not_both words d c other form reads nothing)
answers-are-one words bytes s u a b x y (unread c form nothing r) (replied d other reads m q) =
    absurd (not_both words d c other form reads nothing)
answers-are-one words bytes s u a b x y (too_long c form reads l e t p) (no_form none f v q) = absurd (none c form)
answers-are-one words bytes s u a b x y (too_long c form reads l e t p) (unread d other nothing r) =
    absurd (not_both words c d form other reads nothing)
answers-are-one words bytes s u a b x y (too_long c form reads l e t p) (too_long d _ _ _ f v q) =
    agree Size s u a b x y e f (t ∙ sym v) p q
answers-are-one words bytes s u a b x y (too_long c form reads l e t p) (replied d _ _ m r) = absurd (omega arith)
answers-are-one words bytes s u a b x y (replied c form reads l r) (no_form none f v q) = absurd (none c form)
answers-are-one words bytes s u a b x y (replied c form reads l r) (unread d other nothing q) =
    absurd (not_both words c d form other reads nothing)
answers-are-one words bytes s u a b x y (replied c form reads l r) (too_long d _ _ m f v q) = absurd (omega arith)
answers-are-one words bytes s u a b x y (replied c form reads l r) (replied d other _ m q) =
    let same = one_form words d c other form in
    (settled words c form bytes).one s u a b x y r (subst (λ z. Replies z bytes u b y) same q)

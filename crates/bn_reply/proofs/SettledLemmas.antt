-- There is one answer and only one, put together from the openings of a table and of a word.
use Rattle.std.proofs.Common.{◌≡◌, ℕ, List, [], ◌⊎◌, inl, inr, refl, sym, subst, ap, ◌∙◌}
use Rattle.bn_circuits.specs.declared.place.Place.{Place}
use Rattle.bn_table.specs.Reading.{Reads}
use Rattle.bn_table.specs.Rows.{Named, IsTable}
use Rattle.bn_machine.specs.Standard.{IsStandard}
use Rattle.bn_reply.specs.Answering.{AgreeInAll, HasAnswer, IsDone, IsOneAnswer, IsSettled}
use Rattle.bn_reply.specs.Codes.{IsReplyStatus}
use Rattle.bn_reply.specs.Lines.{foreign_line}
use Rattle.bn_reply.specs.Words.{IsFirstForeign, IsSpelledBy}
use Rattle.bn_reply.specs.Opened.{IsForeign}
use Rattle.bn_reply.specs.TableReply.{JudgedReplies, unfit, fit, ReadsStandard, StandardReplies, TableReplies, faulty}
use Rattle.bn_reply.specs.TableReply.{read, TellsFault, TellsWhy, WordReplies, foreign, spelled}
use Rattle.bn_reply.specs.declared.reply.Reply.{Reply}
use Rattle.bn_reply.specs.declared.status.Status.{Status}
use Rattle.bn_reply.specs.declared.status.Status.TheVariants as statuses
use Rattle.bn_reply.proofs.TableLemmas.{fault_once, one_table, standard_or_told, table_or_told, why_once}
use Rattle.bn_reply.proofs.LetterLemmas.{HasAlphabet, table_alphabet}
use Rattle.bn_reply.proofs.WordLemmas.{foreign_once, not_foreign, spelled_once, spelled_or_foreign}

-- two answers that have the same status and text and tell nothing
pub agree : (meant status other : Status) (text second : List ℕ) (told heard : List Place) → status ≡ meant
    → other ≡ meant → text ≡ second → told ≡ [] →
    heard ≡ [] → AgreeInAll status other text second told heard
agree meant status other text second told heard s o same t h =
    record { statuses = s ∙ sym o; texts = same; places = t ∙ sym h }

-- ---- one text

pub done_settled : (answer : List ℕ) → IsSettled (IsDone answer)
done_settled answer = record {
  some = (statuses.Done, answer, [], record { done = refl; text_is = refl; silent = refl });
  one = λ status other text second told heard a b. agree statuses.Done status other text second told heard a.done b.done
      (a.text_is ∙ sym b.text_is) a.silent b.silent;
  status = λ status text told a. subst IsReplyStatus (sym a.done) tt;
}

-- ---- a table

module _ (tells : Named → Status → List ℕ → List Place → Type 0) (bytes : List ℕ)
    (settled : (t : Named) → Reads bytes t → IsSettled (tells t)) where
  table_some : ((t : Named) × Reads bytes t) ⊎ ((text : List ℕ) × TellsFault bytes text)
      → HasAnswer (TableReplies tells bytes)
  table_some (inl t) = let some = (settled t.0 t.1).some in (some.0, some.1, some.2, read t.0 t.1 some.3)
  table_some (inr f) = (statuses.Text, f.0, [], faulty f.1 refl refl)

  table_one : IsOneAnswer (TableReplies tells bytes)
  table_one s u a b x y (faulty h e n) (faulty k f m) = agree statuses.Text s u a b x y e f (fault_once bytes a b h k) n
      m
  table_one s u a b x y (faulty h e n) (read t k answer) = absurd (h.unread t k)
  table_one s u a b x y (read t h answer) (faulty k f m) = absurd (k.unread t h)
  table_one s u a b x y (read t h answer) (read v k other) =
      let same : v ≡ t = one_table bytes v t k h in
      (settled t h).one s u a b x y answer (subst (λ (w : Named). tells w u b y) same other)

  table_status : (s : Status) (text : List ℕ) (told : List Place) → TableReplies tells bytes s text told
      → IsReplyStatus s
  table_status s text told (faulty h e n) = subst IsReplyStatus (sym e) tt
  table_status s text told (read t h answer) = (settled t h).status s text told answer

  pub table_settled : IsSettled (TableReplies tells bytes)
  table_settled = record { some = table_some (table_or_told bytes); one = table_one; status = table_status }

-- ---- its machine

module _ (tells : Status → List ℕ → List Place → Type 0) (t : Named)
    (settled : IsStandard t.machine.quints → IsSettled tells) where
  judged_some : IsStandard t.machine.quints ⊎ ((text : List ℕ) × TellsWhy t text) → HasAnswer (JudgedReplies tells t)
  judged_some (inl standard) = let some = (settled standard).some in (some.0, some.1, some.2, fit standard some.3)
  judged_some (inr why) = (statuses.Machine, why.0, [], unfit why.1 refl refl)

  judged_one : IsOneAnswer (JudgedReplies tells t)
  judged_one s u a b x y (unfit h e n) (unfit k f m) = agree statuses.Machine s u a b x y e f (why_once t a b h k) n m
  judged_one s u a b x y (unfit h e n) (fit k answer) = absurd (h.unfit k)
  judged_one s u a b x y (fit h answer) (unfit k f m) = absurd (k.unfit h)
  judged_one s u a b x y (fit h answer) (fit k other) = (settled h).one s u a b x y answer other

  judged_status : (s : Status) (text : List ℕ) (told : List Place) → JudgedReplies tells t s text told → IsReplyStatus s
  judged_status s text told (unfit h e n) = subst IsReplyStatus (sym e) tt
  judged_status s text told (fit h answer) = (settled h).status s text told answer

  pub judged_settled : IsSettled (JudgedReplies tells t)
  judged_settled = record { some = judged_some (standard_or_told t); one = judged_one; status = judged_status }

-- a table with a machine in standard form
pub standard_settled : (tells : Named → Status → List ℕ → List Place → Type 0) (bytes : List ℕ)
    → ((t : Named) → ReadsStandard bytes t → IsSettled (tells t)) →
    IsSettled (StandardReplies tells bytes)
standard_settled tells bytes settled = table_settled (λ t. JudgedReplies (tells t) t) bytes
    (λ t reads. judged_settled (tells t) t (λ standard. settled t (record { reads = reads; standard = standard })))

-- what is answered to bytes that read as such a table is what is answered to it
pub standard_tells : (tells : Named → Status → List ℕ → List Place → Type 0) (bytes : List ℕ) (t : Named) (s : Status)
    (text : List ℕ) (told : List Place) →
    ReadsStandard bytes t → StandardReplies tells bytes s text told → tells t s text told
standard_tells tells bytes t s text told h (faulty k e n) = absurd (k.unread t h.reads)
standard_tells tells bytes t s text told h (read u reads answer) = by_verdict
    (subst (λ (v : Named). JudgedReplies (tells v) v s text told) (one_table bytes u t reads h.reads) answer)
  where
    by_verdict : JudgedReplies (tells t) t s text told → tells t s text told
    by_verdict (unfit why e n) = absurd (why.unfit h.standard)
    by_verdict (fit standard said) = said

-- ---- a word

module _ (tells : List ℕ → Status → List ℕ → List Place → Type 0) (t : Named) (alphabet : HasAlphabet t) (word : List ℕ)
    (settled : (symbols : List ℕ) → IsSpelledBy t word symbols → IsSettled (tells symbols)) where
  word_some : ((symbols : List ℕ) × IsSpelledBy t word symbols) ⊎ ((p : ℕ) × IsFirstForeign t word p)
      → HasAnswer (WordReplies tells t word)
  word_some (inl s) = let some = (settled s.0 s.1).some in (some.0, some.1, some.2, spelled s.0 s.1 some.3)
  word_some (inr p) = (statuses.Word, foreign_line p.0, [], foreign p.0 p.1 refl refl refl)

  word_one : IsOneAnswer (WordReplies tells t word)
  word_one s u a b x y (foreign p h told e n) (foreign q k also f m) = agree statuses.Word s u a b x y e f
      (told ∙ ap foreign_line (foreign_once t word p q h k) ∙ sym also) n m
  word_one s u a b x y (foreign p h told e n) (spelled symbols k answer) =
      absurd (not_foreign t alphabet word symbols p k h)
  word_one s u a b x y (spelled symbols h answer) (foreign q k also f m) =
      absurd (not_foreign t alphabet word symbols q h k)
  word_one s u a b x y (spelled xs h answer) (spelled ys k other) =
      let same : ys ≡ xs = spelled_once t alphabet word ys xs k h in
      (settled xs h).one s u a b x y answer (subst (λ (zs : List ℕ). tells zs u b y) same other)

  word_status : (s : Status) (text : List ℕ) (told : List Place) → WordReplies tells t word s text told
      → IsReplyStatus s
  word_status s text told (foreign p h told_is e n) = subst IsReplyStatus (sym e) tt
  word_status s text told (spelled symbols h answer) = (settled symbols h).status s text told answer

  pub lettered_settled : IsSettled (WordReplies tells t word)
  lettered_settled = record {
    some = word_some (spelled_or_foreign t alphabet word);
    one = word_one;
    status = word_status;
  }

-- what the opening of a word answers
pub foreign_replies : (tells : List ℕ → Status → List ℕ → List Place → Type 0) (t : Named) (word : List ℕ)
    (reply : Reply) → IsForeign t word reply →
    WordReplies tells t word reply.status reply.text.items []
foreign_replies tells t word reply h = foreign h.place h.first h.told h.refused refl

-- what is answered to a word that these symbols spell is what is answered to them
pub lettered_tells : (tells : List ℕ → Status → List ℕ → List Place → Type 0) (t : Named) → HasAlphabet t
    → (word symbols : List ℕ) (s : Status) (text : List ℕ)
    (told : List Place) → IsSpelledBy t word symbols → WordReplies tells t word s text told → tells symbols s text told
lettered_tells tells t alphabet word symbols s text told is (foreign p h told_is e n) =
    absurd (not_foreign t alphabet word symbols p is h)
lettered_tells tells t alphabet word symbols s text told is (spelled ys k answer) =
    subst (λ (zs : List ℕ). tells zs s text told) (spelled_once t alphabet word ys symbols k is) answer

-- ---- a word in a table's letters

pub word_settled : (tells : List ℕ → Status → List ℕ → List Place → Type 0) (t : Named) → IsTable t → (word : List ℕ) →
    ((symbols : List ℕ) → IsSpelledBy t word symbols → IsSettled (tells symbols)) → IsSettled (WordReplies tells t word)
word_settled tells t table = lettered_settled tells t (table_alphabet t table)

pub word_tells : (tells : List ℕ → Status → List ℕ → List Place → Type 0) (t : Named) → IsTable t
    → (word symbols : List ℕ) (s : Status) (text : List ℕ)
    (told : List Place) → IsSpelledBy t word symbols → WordReplies tells t word s text told → tells symbols s text told
word_tells tells t table = lettered_tells tells t (table_alphabet t table)

-- There is one answer and only one, put together from the openings of a table of quadruples and of words on its tapes.
use Rattle.std.specs.Prelude.{◌≡◌, ℕ, List, [], Option, Some, None, Result, Ok, Err, IfOk, codes, ◌⊎◌, refl}
use Rattle.bn_lists.specs.declared.memory.NoMemory.{NoMemory as WantOfMemory}
use Rattle.bn_reply.specs.declared.reply.Reply.{Reply}
use Rattle.std.proofs.Common.{inl, inr, sym, subst, ap, ◌∙◌}
use Rattle.bn_csv.specs.Entries.{entries_of}
use Rattle.bn_circuits.specs.declared.place.Place.{Place}
use Rattle.bn_quad.specs.Overlap.{IsDeterministic, IsLeastClash, IsReversible}
use Rattle.bn_quad.specs.declared.clash.Clash.TheVariants.{Domain, Range}
use Rattle.bn_qtable.specs.Faults.{quadruple_table_fault}
use Rattle.bn_qtable.specs.Reading.{ReadsQuadruples}
use Rattle.bn_qtable.specs.Rows.{QuadTable}
use Rattle.bn_qtable.proofs.ReadingLaws.{no_fault_of, one_reading, reading_of}
use Rattle.bn_reply.specs.Answering.{HasAnswer, IsOneAnswer, IsSettled}
use Rattle.bn_reply.specs.Codes.{IsReplyStatus}
use Rattle.bn_reply.specs.Words.{IsFirstForeign, IsSpelledBy}
use Rattle.bn_reply.specs.declared.status.Status.{Status}
use Rattle.bn_reply.specs.declared.status.Status.TheVariants as statuses
use Rattle.bn_reply.proofs.SettledLemmas.{agree}
use Rattle.bn_reply.proofs.TableLemmas.{first_once, read_or_told}
use Rattle.bn_reply.proofs.WordLemmas.{foreign_once, not_foreign, spelled_once, spelled_or_foreign}
use Rattle.bn_reply.proofs.LetterLemmas.{HasAlphabet}
use Rattle.bn_reply_machines.specs.ReversibleReply.{IsVerdict, TellsQuadFault, quad_fault_line}
use Rattle.bn_reply_machines.specs.ReversibleReply as reversible
use Rattle.bn_reply_machines.specs.ReversibleReply.{ReversibleReplies, TellsVerdicts}
use Rattle.bn_reply_machines.proofs.ReversibleLemmas.{clash_once, reversible_settled}
use Rattle.bn_reply_machines.specs.QuadReply.{QuadReplies, TapeWordReplies, domain, faulty, foreign, lettered, nothing}
use Rattle.bn_reply_machines.specs.QuadReply.{overlap_line, passes, range, spelled}
use Rattle.bn_reply_machines.specs.Opened.{IsAlphabet}
use Rattle.bn_reply_machines.proofs.AlphabetLemmas.{has_alphabet}

-- what is answered as another command answers it, where it answers what the other does to a table that passes
pub answered_as : (other tells : QuadTable → Status → List ℕ → List Place → Type 0) (bytes : List ℕ) (s : Status)
    (text : List ℕ)
    (told : List Place) → ((t : QuadTable) → other t s text told → tells t s text told) →
    QuadReplies other bytes s text told → QuadReplies tells bytes s text told
answered_as other tells bytes s text told gives (faulty h e n) = faulty h e n
answered_as other tells bytes s text told gives (domain t reads i j least is e n) = domain t reads i j least is e n
answered_as other tells bytes s text told gives (range t reads apart i j least is e n) = range t reads apart i j
    least is e n
answered_as other tells bytes s text told gives (passes t reads apart back h) = passes t reads apart back (gives t h)

-- a refusal is an answer whatever is answered to a table that passes
pub refused : (tells : QuadTable → Status → List ℕ → List Place → Type 0) (bytes : List ℕ) (s : Status) (text : List
    ℕ)
    (told : List Place) → QuadReplies nothing bytes s text told → QuadReplies tells bytes s text told
refused tells bytes s text told = answered_as nothing tells bytes s text told (λ t none. absurd none)

-- ---- a table

-- how both tests of a table come out, as `reversible` tells
verdicts_at : (bytes : List ℕ) (t : QuadTable) → ReadsQuadruples bytes t → (text : List ℕ) × TellsVerdicts
    t.machine.rules text
verdicts_at bytes t reads = let some = (reversible_settled bytes).some in by some.0 some.1 some.2 some.3
  where
    by : (s : Status) (text : List ℕ) (told : List Place) → ReversibleReplies bytes s text told →
        (text : List ℕ) × TellsVerdicts t.machine.rules text
    by s text told (reversible.faulty h e n) = absurd (h.unread t reads)
    by s text told (reversible.judged v also h e n) = (
      text,
      subst (λ (w : QuadTable). TellsVerdicts w.machine.rules text) (one_reading (entries_of bytes) v t also reads) h,
    )

module _ (tells : QuadTable → Status → List ℕ → List Place → Type 0) (bytes : List ℕ)
    (settled : (t : QuadTable) → ReadsQuadruples bytes t → IsDeterministic t.machine.rules → IsReversible
    t.machine.rules →
    IsSettled (tells t)) where
  judged_some : (t : QuadTable) → ReadsQuadruples bytes t → (a : Option (ℕ × ℕ)) → IsVerdict Domain t.machine.rules a
      →
      (b : Option (ℕ × ℕ)) → IsVerdict Range t.machine.rules b → HasAnswer (QuadReplies tells bytes)
  judged_some t reads (Some p) least b also = (statuses.Machine, _, [], domain t reads p.0 p.1 least refl refl refl)
  judged_some t reads None apart (Some p) least = (
    statuses.Machine,
    _,
    [],
    range t reads apart p.0 p.1 least refl refl refl,
  )
  judged_some t reads None apart None back =
      let some = (settled t reads apart back).some in
      (some.0, some.1, some.2, passes t reads apart back some.3)

  quad_some : ((t : QuadTable) × ReadsQuadruples bytes t) ⊎ ((text : List ℕ) × TellsQuadFault bytes text) →
      HasAnswer (QuadReplies tells bytes)
  quad_some (inl t) =
      let v = (verdicts_at bytes t.0 t.1).1 in
      judged_some t.0 t.1 v.domain v.deterministic v.range v.reversible
  quad_some (inr f) = (statuses.Text, f.0, [], faulty f.1 refl refl)

  -- what is answered to a table
  data Judged (t : QuadTable) (s : Status) (text : List ℕ) (told : List Place) : Type 0 where
    overlaps : (i j : ℕ) → IsLeastClash Domain t.machine.rules i j → text ≡ overlap_line (codes "domain") i j
        → s ≡ statuses.Machine → told ≡ [] → Judged t s text told
    meets : IsDeterministic t.machine.rules → (i j : ℕ) → IsLeastClash Range t.machine.rules i j
        → text ≡ overlap_line (codes "range") i j → s ≡ statuses.Machine → told ≡ [] → Judged t s text told
    fit : IsDeterministic t.machine.rules → IsReversible t.machine.rules → tells t s text told → Judged t s text told

  judged_one : (t : QuadTable) → ReadsQuadruples bytes t → IsOneAnswer (Judged t)
  judged_one t reads s u a b x y (overlaps i j h is e n) (overlaps k m g also f l) =
      let same = clash_once Domain t.machine.rules i j k m h g in
      agree statuses.Machine s u a b x y e f (is ∙ (λ q. overlap_line (codes "domain") (same.0 q) (same.1 q)) ∙ sym
      also) n l
  judged_one t reads s u a b x y (overlaps i j h is e n) (meets apart k m g also f l) = absurd (apart.none i j h.holds)
  judged_one t reads s u a b x y (overlaps i j h is e n) (fit apart back g) = absurd (apart.none i j h.holds)
  judged_one t reads s u a b x y (meets apart i j h is e n) (overlaps k m g also f l) = absurd (apart.none k m g.holds)
  judged_one t reads s u a b x y (meets apart i j h is e n) (meets apart' k m g also f l) =
      let same = clash_once Range t.machine.rules i j k m h g in
      agree statuses.Machine s u a b x y e f (is ∙ (λ q. overlap_line (codes "range") (same.0 q) (same.1 q)) ∙ sym
      also) n l
  judged_one t reads s u a b x y (meets apart i j h is e n) (fit apart' back g) = absurd (back.none i j h.holds)
  judged_one t reads s u a b x y (fit apart back h) (overlaps k m g also f l) = absurd (apart.none k m g.holds)
  judged_one t reads s u a b x y (fit apart back h) (meets apart' k m g also f l) = absurd (back.none k m g.holds)
  judged_one t reads s u a b x y (fit apart back h) (fit apart' back' g) = (settled t reads apart back).one s u a b x
      y h g

  -- an answer is a fault's, or that to the one table
  by_table : (t : QuadTable) → ReadsQuadruples bytes t → (s : Status) (text : List ℕ) (told : List Place) →
      QuadReplies tells bytes s text told → Judged t s text told
  by_table t reads s text told (faulty h e n) = absurd (h.unread t reads)
  by_table t reads s text told (domain v also i j h is e n) =
      subst (λ (w : QuadTable). Judged w s text told) (one_reading (entries_of bytes) v t also reads) (overlaps i j h
      is e n)
  by_table t reads s text told (range v also apart i j h is e n) =
      subst (λ (w : QuadTable). Judged w s text told) (one_reading (entries_of bytes) v t also reads) (meets apart i
      j h is e n)
  by_table t reads s text told (passes v also apart back h) =
      subst (λ (w : QuadTable). Judged w s text told) (one_reading (entries_of bytes) v t also reads) (fit apart back
      h)

  both : (t : QuadTable) → ReadsQuadruples bytes t → IsOneAnswer (QuadReplies tells bytes)
  both t reads s u a b x y h k = judged_one t reads s u a b x y (by_table t reads s a x h) (by_table t reads u b y k)

  quad_one : IsOneAnswer (QuadReplies tells bytes)
  quad_one s u a b x y (faulty h e n) (faulty k f m) = agree statuses.Text s u a b x y e f
      (first_once (ReadsQuadruples bytes) (quadruple_table_fault (entries_of bytes)) quad_fault_line a b h k) n m
  quad_one s u a b x y (faulty h e n) (domain t reads i j least is f m) = absurd (h.unread t reads)
  quad_one s u a b x y (faulty h e n) (range t reads apart i j least is f m) = absurd (h.unread t reads)
  quad_one s u a b x y (faulty h e n) (passes t reads apart back k) = absurd (h.unread t reads)
  quad_one s u a b x y (domain t reads i j least is f m) k = both t reads s u a b x y (domain t reads i j least is f
      m) k
  quad_one s u a b x y (range t reads apart i j least is f m) k =
      both t reads s u a b x y (range t reads apart i j least is f m) k
  quad_one s u a b x y (passes t reads apart back h) k = both t reads s u a b x y (passes t reads apart back h) k

  quad_status : (s : Status) (text : List ℕ) (told : List Place) → QuadReplies tells bytes s text told → IsReplyStatus s
  quad_status s text told (faulty h e n) = subst IsReplyStatus (sym e) tt
  quad_status s text told (domain t reads i j least is e n) = subst IsReplyStatus (sym e) tt
  quad_status s text told (range t reads apart i j least is e n) = subst IsReplyStatus (sym e) tt
  quad_status s text told (passes t reads apart back h) = (settled t reads apart back).status s text told h

  pub quad_settled : IsSettled (QuadReplies tells bytes)
  quad_settled = record {
    some = quad_some (read_or_told (ReadsQuadruples bytes) (quadruple_table_fault (entries_of bytes)) quad_fault_line
        (λ none. reading_of (entries_of bytes) none, λ r. no_fault_of (entries_of bytes) r.0 r.1));
    one = quad_one;
    status = quad_status;
  }

-- ---- a word on a tape

module _ (line_of : ℕ → List ℕ) (tells : List ℕ → Status → List ℕ → List Place → Type 0) (names : List (List ℕ))
    (alphabet : IsAlphabet names) (word : List ℕ)
    (settled : (symbols : List ℕ) → IsSpelledBy (lettered names) word symbols → IsSettled (tells symbols)) where
  abbrev has : HasAlphabet (lettered names)
  has = has_alphabet names alphabet

  abbrev Answers : Status → List ℕ → List Place → Type 0
  Answers = TapeWordReplies line_of tells names word

  word_some : ((symbols : List ℕ) × IsSpelledBy (lettered names) word symbols) ⊎ ((p : ℕ) × IsFirstForeign (lettered
      names) word p) →
      HasAnswer Answers
  word_some (inl s) = let some = (settled s.0 s.1).some in (some.0, some.1, some.2, spelled s.0 s.1 some.3)
  word_some (inr p) = (statuses.Word, line_of p.0, [], foreign p.0 p.1 refl refl refl)

  word_one : IsOneAnswer Answers
  word_one s u a b x y (foreign p h told e n) (foreign q k also f m) = agree statuses.Word s u a b x y e f
      (told ∙ ap line_of (foreign_once (lettered names) word p q h k) ∙ sym also) n m
  word_one s u a b x y (foreign p h told e n) (spelled symbols k answer) =
      absurd (not_foreign (lettered names) has word symbols p k h)
  word_one s u a b x y (spelled symbols h answer) (foreign q k also f m) =
      absurd (not_foreign (lettered names) has word symbols q h k)
  word_one s u a b x y (spelled xs h answer) (spelled ys k other) =
      let same : ys ≡ xs = spelled_once (lettered names) has word ys xs k h in
      (settled xs h).one s u a b x y answer (subst (λ (zs : List ℕ). tells zs u b y) same other)

  word_status : (s : Status) (text : List ℕ) (told : List Place) → Answers s text told → IsReplyStatus s
  word_status s text told (foreign p h told_is e n) = subst IsReplyStatus (sym e) tt
  word_status s text told (spelled symbols h answer) = (settled symbols h).status s text told answer

  pub tape_word_settled : IsSettled (TapeWordReplies line_of tells names word)
  tape_word_settled = record {
    some = word_some (spelled_or_foreign (lettered names) has word);
    one = word_one;
    status = word_status;
  }

-- ---- what is answered to a word

-- the symbols that spell a word on a tape, as a slice of them
pub spelled_on : (names result : List (List ℕ)) (word items slice : List ℕ) → result ≡ names → slice ≡ items →
    IsSpelledBy (lettered result) word items → IsSpelledBy (lettered names) word slice
spelled_on names result word items slice is same h =
    subst (IsSpelledBy (lettered names) word) (sym same)
    (subst (λ (ns : List (List ℕ)). IsSpelledBy (lettered ns) word items) is h)

-- a word with a foreign place is answered so
pub foreign_told : (line_of : ℕ → List ℕ) (tells : List ℕ → Status → List ℕ → List Place → Type 0)
    (names result : List (List ℕ)) (word : List ℕ) (p : ℕ) → result ≡ names → IsFirstForeign (lettered result) word p
    →
    (r : Result Reply WantOfMemory) → IfOk r (λ x. x.status ≡ statuses.Word) → IfOk r (λ x. x.text.items ≡ line_of p)
    →
    IfOk r (λ x. TapeWordReplies line_of tells names word x.status x.text.items [])
foreign_told line_of tells names result word p is h (Ok x) status text =
    foreign p (subst (λ (ns : List (List ℕ)). IsFirstForeign (lettered ns) word p) is h) text status refl
foreign_told line_of tells names result word p is h (Err e) status text = tt

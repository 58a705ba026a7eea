-- The answer to two tables is one and there is one, put together from the openings of each.
use Rattle.std.specs.Prelude.{◌≡◌, ℕ, List, [], ◌⊎◌, refl}
use Rattle.std.proofs.Common.{inl, inr, sym, subst, ap, ◌∙◌}
use Rattle.bn_circuits.specs.declared.place.Place.{Place}
use Rattle.bn_table.specs.Reading.{Reads}
use Rattle.bn_table.specs.Rows.{Named}
use Rattle.bn_machine.specs.Standard.{IsStandard}
use Rattle.bn_reply.specs.Answering.{HasAnswer, IsOneAnswer, IsSettled}
use Rattle.bn_reply.specs.Codes.{IsReplyStatus}
use Rattle.bn_base.specs.Cuts.{IsCut}
use Rattle.bn_reply.specs.TableReply.{JudgedReplies, TellsFault, TellsWhy}
use Rattle.bn_reply.specs.TableReply as table_reply
use Rattle.bn_reply.specs.declared.status.Status.{Status}
use Rattle.bn_reply.specs.declared.status.Status.TheVariants as statuses
use Rattle.bn_base.proofs.CutLemmas.{cuts-never_both, cuts-one}
use Rattle.bn_base.proofs.CutOrNot.{cut_or_not}
use Rattle.bn_reply.proofs.SettledLemmas.{agree, judged_settled, table_settled}
use Rattle.bn_reply.proofs.TableLemmas.{fault_once, one_table, standard_or_told, table_or_told, why_once}
use Rattle.bn_reply_erase.specs.Pairs.{PairReplies, SecondJudged, SecondReplies, TwoReplies, no_second_line}
use Rattle.bn_reply_erase.specs.Pairs.{with_second}
use Rattle.bn_reply_erase.specs.Pairs as pairs

-- ---- the second table

module _ (tells : Named → Status → List ℕ → List Place → Type 0) (bytes : List ℕ)
    (settled : (u : Named) → Reads bytes u → IsSettled (tells u)) where
  second_some : ((u : Named) × Reads bytes u) ⊎ ((text : List ℕ) × TellsFault bytes text)
      → HasAnswer (SecondReplies tells bytes)
  second_some (inl u) = let some = (settled u.0 u.1).some in (some.0, some.1, some.2, pairs.read u.0 u.1 some.3)
  second_some (inr f) = (statuses.Text, with_second f.0, [], pairs.faulty f.0 f.1 refl refl refl)

  second_one : IsOneAnswer (SecondReplies tells bytes)
  second_one s u a b x y (pairs.faulty l h is e n) (pairs.faulty m k also f o) =
      agree statuses.Text s u a b x y e f (is ∙ ap with_second (fault_once bytes l m h k) ∙ sym also) n o
  second_one s u a b x y (pairs.faulty l h is e n) (pairs.read t k answer) = absurd (h.unread t k)
  second_one s u a b x y (pairs.read t h answer) (pairs.faulty m k also f o) = absurd (k.unread t h)
  second_one s u a b x y (pairs.read t h answer) (pairs.read v k other) =
      let same : v ≡ t = one_table bytes v t k h in
      (settled t h).one s u a b x y answer (subst (λ (w : Named). tells w u b y) same other)

  second_status : (s : Status) (text : List ℕ) (told : List Place) → SecondReplies tells bytes s text told
      → IsReplyStatus s
  second_status s text told (pairs.faulty l h is e n) = subst IsReplyStatus (sym e) tt
  second_status s text told (pairs.read t h answer) = (settled t h).status s text told answer

  pub second_settled : IsSettled (SecondReplies tells bytes)
  second_settled = record { some = second_some (table_or_told bytes); one = second_one; status = second_status }

-- ---- its machine

module _ (tells : Status → List ℕ → List Place → Type 0) (t : Named)
    (settled : IsStandard t.machine.quints → IsSettled tells) where
  second_judged_some : IsStandard t.machine.quints ⊎ ((text : List ℕ) × TellsWhy t text)
      → HasAnswer (SecondJudged tells t)
  second_judged_some (inl standard) = let some = (settled standard).some in
      (some.0, some.1, some.2, pairs.fit standard some.3)
  second_judged_some (inr why) = (statuses.Machine, with_second why.0, [], pairs.unfit why.0 why.1 refl refl refl)

  second_judged_one : IsOneAnswer (SecondJudged tells t)
  second_judged_one s u a b x y (pairs.unfit l h is e n) (pairs.unfit m k also f o) =
      agree statuses.Machine s u a b x y e f (is ∙ ap with_second (why_once t l m h k) ∙ sym also) n o
  second_judged_one s u a b x y (pairs.unfit l h is e n) (pairs.fit k answer) = absurd (h.unfit k)
  second_judged_one s u a b x y (pairs.fit h answer) (pairs.unfit m k also f o) = absurd (k.unfit h)
  second_judged_one s u a b x y (pairs.fit h answer) (pairs.fit k other) = (settled h).one s u a b x y answer other

  second_judged_status : (s : Status) (text : List ℕ) (told : List Place) → SecondJudged tells t s text told
      → IsReplyStatus s
  second_judged_status s text told (pairs.unfit l h is e n) = subst IsReplyStatus (sym e) tt
  second_judged_status s text told (pairs.fit h answer) = (settled h).status s text told answer

  pub second_judged_settled : IsSettled (SecondJudged tells t)
  second_judged_settled = record {
    some = second_judged_some (standard_or_told t);
    one = second_judged_one;
    status = second_judged_status;
  }

-- ---- both

-- the bytes read as two tables with machines in standard form
pub record ReadBoth (first second : List ℕ) (t u : Named) : Type 0 where
  pub reads : Reads first t
  pub also : Reads second u
  pub standard : IsStandard t.machine.quints
  pub fit : IsStandard u.machine.quints

module _ (tells : Named → Named → Status → List ℕ → List Place → Type 0) where
  pub two_settled : (first second : List ℕ) → ((t u : Named) → ReadBoth first second t u → IsSettled (tells t u))
      → IsSettled (TwoReplies tells first second)
  two_settled first second settled =
      table_settled (λ t. SecondReplies (λ u. JudgedReplies (SecondJudged (tells t u) u) t) second) first
      (λ t reads. second_settled (λ u. JudgedReplies (SecondJudged (tells t u) u) t) second
      (λ u also. judged_settled (SecondJudged (tells t u) u) t
      (λ standard. second_judged_settled (tells t u) u
      (λ fit. settled t u (record { reads = reads; also = also; standard = standard; fit = fit })))))

  -- what is answered to two such tables is what is answered to their texts
  pub two_tells : (first second : List ℕ) (t u : Named) (s : Status) (text : List ℕ) (told : List Place)
      → ReadBoth first second t u →
      TwoReplies tells first second s text told → tells t u s text told
  two_tells first second t u s text told h (table_reply.faulty k e n) = absurd (k.unread t h.reads)
  two_tells first second t u s text told h (table_reply.read v reads answer) =
      by_second (subst (λ (w : Named). SecondReplies (λ z. JudgedReplies (SecondJudged (tells w z) z) w) second s text
      told) (one_table first v t reads h.reads) answer)
    where
      by_judged : SecondJudged (tells t u) u s text told → tells t u s text told
      by_judged (pairs.unfit l k is e n) = absurd (k.unfit h.fit)
      by_judged (pairs.fit fit answer) = answer

      by_first : JudgedReplies (SecondJudged (tells t u) u) t s text told → tells t u s text told
      by_first (table_reply.unfit k e n) = absurd (k.unfit h.standard)
      by_first (table_reply.fit standard answer) = by_judged answer

      by_second : SecondReplies (λ z. JudgedReplies (SecondJudged (tells t z) z) t) second s text told
          → tells t u s text told
      by_second (pairs.faulty l k is e n) = absurd (k.unread u h.also)
      by_second (pairs.read z reads answer) =
          by_first (subst (λ (w : Named). JudgedReplies (SecondJudged (tells t w) w) t s text told)
          (one_table second z u reads h.also) answer)

  pub pair_settled : ((first second : List ℕ) (t u : Named) → ReadBoth first second t u → IsSettled (tells t u))
      → (bytes : List ℕ) → IsSettled (PairReplies tells bytes)
  pair_settled settled bytes = record { some = some; one = one; status = status }
    where
      both : (first second : List ℕ) → IsSettled (TwoReplies tells first second)
      both first second = two_settled first second (settled first second)

      some : HasAnswer (PairReplies tells bytes)
      some = elim (cut_or_not bytes) [
        | inl parts ↦
            let answer = (both parts.0 parts.1).some in
            (answer.0, answer.1, answer.2, pairs.cut parts.0 parts.1 parts.2 answer.3)
        | inr none ↦ (statuses.Text, no_second_line, [], pairs.uncut none refl refl refl)
      ]

      one : IsOneAnswer (PairReplies tells bytes)
      one s u a b x y (pairs.uncut none text_is status_is quiet) (pairs.uncut _ other_is other_status silent) =
          agree statuses.Text s u a b x y status_is other_status (text_is ∙ sym other_is) quiet silent
      one s u a b x y (pairs.uncut none text_is status_is quiet) (pairs.cut first second is answer) =
          absurd (cuts-never_both bytes first second is none)
      one s u a b x y (pairs.cut first second is answer) (pairs.uncut none text_is status_is quiet) =
          absurd (cuts-never_both bytes first second is none)
      one s u a b x y (pairs.cut first second is answer) (pairs.cut front rest also other) =
          let same = cuts-one bytes first second front rest is also in
          let fronts = subst (λ z. TwoReplies tells z rest u b y) (sym same.0) other in
          let rests = subst (λ z. TwoReplies tells first z u b y) (sym same.1) fronts in
          (both first second).one s u a b x y answer rests

      status : (s : Status) (text : List ℕ) (told : List Place) → PairReplies tells bytes s text told → IsReplyStatus s
      status s text told (pairs.uncut none text_is status_is quiet) = subst IsReplyStatus (sym status_is) tt
      status s text told (pairs.cut first second is answer) = (both first second).status s text told answer

  -- what is answered to an input that is cut so is what is answered to its parts
  pub pair_tells : (bytes first second : List ℕ) (s : Status) (text : List ℕ) (told : List Place)
      → IsCut bytes first second → PairReplies tells bytes s text told →
      TwoReplies tells first second s text told
  pair_tells bytes first second s text told is (pairs.uncut none text_is status_is quiet) =
      absurd (cuts-never_both bytes first second is none)
  pair_tells bytes first second s text told is (pairs.cut front rest also answer) =
      let same = cuts-one bytes front rest first second also is in
      let fronts = subst (λ z. TwoReplies tells z rest s text told) same.0 answer in
      subst (λ z. TwoReplies tells first z s text told) same.1 fronts

-- ---- a refusal is an answer whatever would be told

module _ (tells more : Named → Named → Status → List ℕ → List Place → Type 0)
    (weaker : (t u : Named) (s : Status) (text : List ℕ) (told : List Place) →
    tells t u s text told → more t u s text told) where
  two_weaker : (first second : List ℕ) (s : Status) (text : List ℕ) (told : List Place)
      → TwoReplies tells first second s text told → TwoReplies more first second s text told
  two_weaker first second s text told (table_reply.faulty k e n) = table_reply.faulty k e n
  two_weaker first second s text told (table_reply.read t reads answer) = table_reply.read t reads (by_second answer)
    where
      by_judged : (u : Named) → SecondJudged (tells t u) u s text told → SecondJudged (more t u) u s text told
      by_judged u (pairs.unfit l k is e n) = pairs.unfit l k is e n
      by_judged u (pairs.fit fit told_so) = pairs.fit fit (weaker t u s text told told_so)

      by_first : (u : Named) → JudgedReplies (SecondJudged (tells t u) u) t s text told
          → JudgedReplies (SecondJudged (more t u) u) t s text told
      by_first u (table_reply.unfit k e n) = table_reply.unfit k e n
      by_first u (table_reply.fit standard told_so) = table_reply.fit standard (by_judged u told_so)

      by_second : SecondReplies (λ u. JudgedReplies (SecondJudged (tells t u) u) t) second s text told →
          SecondReplies (λ u. JudgedReplies (SecondJudged (more t u) u) t) second s text told
      by_second (pairs.faulty l k is e n) = pairs.faulty l k is e n
      by_second (pairs.read u also told_so) = pairs.read u also (by_first u told_so)

  pub pair_weaker : (bytes : List ℕ) (s : Status) (text : List ℕ) (told : List Place)
      → PairReplies tells bytes s text told → PairReplies more bytes s text told
  pair_weaker bytes s text told (pairs.uncut none text_is status_is quiet) = pairs.uncut none text_is status_is quiet
  pair_weaker bytes s text told (pairs.cut first second is answer) =
      pairs.cut first second is (two_weaker first second s text told answer)

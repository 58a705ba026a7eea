-- `room` has one answer to all words, numbers of steps and bytes; and what is answered.
use Rattle.std.specs.Prelude.{Err, IfOk, Ok, Result}
use Rattle.std.proofs.Common.{ℕ, List, [], ◌≡◌, ◌⊎◌, inl, inr, refl, sym, ap, ◌∙◌, subst}
use Rattle.bn_circuits.specs.declared.place.Place.{Place}
use Rattle.bn_lists.specs.declared.memory.NoMemory.{NoMemory as WantOfMemory}
use Rattle.bn_quad.specs.Names.{Naming}
use Rattle.bn_quad.specs.Calls.{IsUniformMachine}
use Rattle.bn_quad.specs.Overlap.{IsDeterministic}
use Rattle.bn_quad.specs.Quadruples.{Quadruples}
use Rattle.bn_qtable.specs.Reading.{ReadsQuadruples}
use Rattle.bn_qtable.specs.Rows.{QuadTable}
use Rattle.bn_qtable.specs.TapeWords.{TapeWords, names_on}
use Rattle.bn_rooms.specs.RoomOutcome.{NoRoom, Room, RoomOutcome, Running}
use Rattle.bn_rooms.proofs.LawLemmas.{room_outcome_exists, room_outcome_is_one}
use Rattle.bn_reply.specs.Answering.{HasAnswer, IsOneAnswer, IsSettled}
use Rattle.bn_reply.specs.Codes.{IsReplyStatus}
use Rattle.bn_reply.specs.declared.reply.Reply.{Reply}
use Rattle.bn_reply.specs.declared.status.Status.{Status}
use Rattle.bn_reply.specs.declared.status.Status.TheVariants as statuses
use Rattle.bn_reply.proofs.SettledLemmas.{agree}
use Rattle.bn_reply_machines.specs.NamedWords.{AreNamedBy, IsNamedBy}
use Rattle.bn_reply_machines.specs.QuadReply.{passes}
use Rattle.bn_reply_machines.specs.UniformReply.{UniformReplies, uniform}
use Rattle.bn_reply_machines.specs.WordsReply.{WordsReplies}
use Rattle.bn_reply_machines.proofs.AlphabetLemmas.{read_alphabets}
use Rattle.bn_reply_machines.proofs.QuadReplyLemmas.{quad_settled}
use Rattle.bn_reply_machines.proofs.UniformLemmas.{uniform_settled}
use Rattle.bn_reply_machines.proofs.WordsLemmas.{words_as, words_named, words_settled}
use Rattle.bn_reply_builds.specs.BuildReply.{IsCrowded, IsUncrowded, crowded_line}
use Rattle.bn_reply_rooms.specs.RoomReply.{RoomIsSettled, RoomReplies, TellsRoom}
use Rattle.bn_reply_rooms.specs.RoomReply.{UncrowdedReplies, few, many, outcome_line, outcome_status}
use Rattle.bn_reply_builds.proofs.CrowdedLemmas.{crowded_once, crowded_or_not, not_crowded}

-- ---- what a run shows

module _ (m : Quadruples) (n : ℕ) (one two three : List ℕ) where
  room_some : IsDeterministic m.rules → HasAnswer (TellsRoom m n one two three)
  room_some apart =
      let o = room_outcome_exists m one two three n apart in (
        outcome_status o.0,
        outcome_line n o.0,
        [],
        record { outcome = o.0; shown = o.1; text_is = refl; status_is = refl; silent = refl },
      )

  room_one : IsOneAnswer (TellsRoom m n one two three)
  room_one s u a b x y h k =
      let same = room_outcome_is_one m one two three n h.outcome k.outcome h.shown k.shown in
      record {
        statuses = h.status_is ∙ ap outcome_status same ∙ sym k.status_is;
        texts = h.text_is ∙ ap (outcome_line n) same ∙ sym k.text_is;
        places = h.silent ∙ sym k.silent;
      }

  outcome_answers : (o : RoomOutcome) → IsReplyStatus (outcome_status o)
  outcome_answers (Room l) = tt
  outcome_answers (NoRoom tape) = tt
  outcome_answers Running = tt

  tells_settled : IsDeterministic m.rules → IsSettled (TellsRoom m n one two three)
  tells_settled apart = record {
    some = room_some apart;
    one = room_one;
    status = λ s text told h. subst IsReplyStatus (sym h.status_is) (outcome_answers h.outcome);
  }

-- ---- the symbols of tapes

module _ (tells : Status → List ℕ → List Place → Type 0) (m : Quadruples) (settled : IsSettled tells) where
  abbrev Answers : Status → List ℕ → List Place → Type 0
  Answers = UncrowdedReplies tells m

  uncrowded_some : IsUncrowded m ⊎ ((t : ℕ) × (z : ℕ) × IsCrowded m t z) → HasAnswer Answers
  uncrowded_some (inl h) = let told = settled.some in (told.0, told.1, told.2, few h told.3)
  uncrowded_some (inr c) = (statuses.Size, crowded_line c.0 c.1, [], many c.0 c.1 c.2 refl refl refl)

  uncrowded_one : IsOneAnswer Answers
  uncrowded_one s u a b x y (many t z h is e l) (many v w k also f o) =
      let same = crowded_once m t v z w h k in
      agree statuses.Size s u a b x y e f (is ∙ (λ i. crowded_line (same.0 i) (same.1 i)) ∙ sym also) l o
  uncrowded_one s u a b x y (many t z h is e l) (few k told) = absurd (not_crowded m t z k h)
  uncrowded_one s u a b x y (few k told) (many t z h is e l) = absurd (not_crowded m t z k h)
  uncrowded_one s u a b x y (few h told) (few k also) = settled.one s u a b x y told also

  uncrowded_status : (s : Status) (text : List ℕ) (told : List Place) → Answers s text told → IsReplyStatus s
  uncrowded_status s text told (many t z h is e l) = subst IsReplyStatus (sym e) tt
  uncrowded_status s text told (few h answer) = settled.status s text told answer

  uncrowded_settled : IsSettled Answers
  uncrowded_settled = record {
    some = uncrowded_some (crowded_or_not m);
    one = uncrowded_one;
    status = uncrowded_status;
  }

-- ---- the command

abbrev pub Told : TapeWords → ℕ → QuadTable → Status → List ℕ → List Place → Type 0
Told words n t = WordsReplies words (λ one two three. UncrowdedReplies (TellsRoom t.machine n one two three) t.machine)
    t.names

pub room_settled : RoomIsSettled
room_settled words n bytes =
    quad_settled (UniformReplies (Told words n)) bytes
    (λ t reads apart back. uniform_settled (Told words n) t
    (λ even. words_settled words (λ one two three. UncrowdedReplies (TellsRoom t.machine n one two three) t.machine)
    t.names (read_alphabets bytes t reads) (λ one two three named.
    uncrowded_settled (TellsRoom t.machine n one two three) t.machine (tells_settled t.machine n one two three apart))))

module _ (words : TapeWords) (n : ℕ) (bytes : List ℕ) (t : QuadTable) (reads : ReadsQuadruples bytes t)
    (even : IsUniformMachine t.machine) where
  -- a word that is refused
  pub words_refused : (s : Status) (text : List ℕ)
      → WordsReplies words (λ one two three status text told. ⊥) t.names s text [] → RoomReplies words n bytes s text []
  words_refused s text h =
      passes t reads even.deterministic even.reversible (uniform even.uniform
      (words_as words (λ one two three status text told. ⊥)
      (λ one two three. UncrowdedReplies (TellsRoom t.machine n one two three) t.machine) t.names s text []
      (λ one two three none. absurd none) h))

  -- words of these symbols
  pub words_told : (one two three : List ℕ) → AreNamedBy words t.names one two three → (s : Status) (text : List ℕ)
      → UncrowdedReplies (TellsRoom t.machine n one two three) t.machine s text [] → RoomReplies words n bytes s text []
  words_told one two three named s text h =
      passes t reads even.deterministic even.reversible (uniform even.uniform
      (words_named words (λ one two three. UncrowdedReplies (TellsRoom t.machine n one two three) t.machine)
      t.names one two three named s text [] h))

  -- the same of a result
  pub words_answered : (one two three : List ℕ) → AreNamedBy words t.names one two three
      → (r : Result Reply WantOfMemory)
      → IfOk r (λ x. UncrowdedReplies (TellsRoom t.machine n one two three) t.machine x.status x.text.items [])
      → IfOk r (λ x. RoomReplies words n bytes x.status x.text.items [])
  words_answered one two three named (Ok x) h = words_told one two three named x.status x.text.items h
  words_answered one two three named (Err e) h = tt

-- words of symbols that are slices of others
pub named_slices : (words : TapeWords) (names : Naming) (a b c x y z : List ℕ) → x ≡ a → y ≡ b → z ≡ c
    → AreNamedBy words names a b c → AreNamedBy words names x y z
named_slices words names a b c x y z e f g h = record {
  on_one = subst (IsNamedBy names.one (names_on words 1)) (sym e) h.on_one;
  on_two = subst (IsNamedBy names.two (names_on words 2)) (sym f) h.on_two;
  on_three = subst (IsNamedBy names.three (names_on words 3)) (sym g) h.on_three;
}

-- a tape with too many symbols
pub crowded_answered : (tells : Status → List ℕ → List Place → Type 0) (m : Quadruples) (t z : ℕ) → IsCrowded m t z
    → (r : Result Reply WantOfMemory) → IfOk r (λ x. x.status ≡ statuses.Size)
    → IfOk r (λ x. x.text.items ≡ crowded_line t z)
    → IfOk r (λ x. UncrowdedReplies tells m x.status x.text.items [])
crowded_answered tells m t z crowded (Ok x) status text = many t z crowded text status refl
crowded_answered tells m t z crowded (Err e) status text = tt

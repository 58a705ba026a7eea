-- `build` has one answer to all words, windows and bytes; so has what is told of a build besides, where it is one.
use Rattle.std.specs.Prelude.{◌≡◌, ℕ, ◌<◌, ◌≤◌, ◌⊎◌, List, [], length, refl}
use Rattle.std.proofs.Common.{arith, inl, inr, sym, ap, subst, ◌∙◌}
use Rattle.std.proofs.lemmas.Bool.{cases_lt}
use Rattle.bn_circuits.specs.declared.place.Place.{Place}
use Rattle.bn_machine.specs.Outcome.{Limits}
use Rattle.bn_circuits.specs.declared.net.TheConstants.{MOST_ELEMENTS}
use Rattle.bn_quad.specs.Calls.{IsUniformMachine}
use Rattle.bn_quad.specs.Overlap.{IsDeterministic, IsReversible, IsUniform}
use Rattle.bn_quad.specs.Quadruples.{Quadruples}
use Rattle.bn_qtable.specs.Reading.{ReadsQuadruples}
use Rattle.bn_qtable.specs.Rows.{QuadTable}
use Rattle.bn_qtable.specs.TapeWords.{TapeWords}
use Rattle.bn_network.specs.Controls.{ControlState, IsNumbering}
use Rattle.bn_network.specs.Networks.{elements_by}
use Rattle.bn_network.proofs.OccurringLemmas.{order_one}
use Rattle.bn_network_assembly.specs.Assembled.{CountsElements}
use Rattle.bn_boards.specs.Builds.{Build, build_elements}
use Rattle.bn_network.specs.Starts.{AreInputs, words_on}
use Rattle.bn_boards.proofs.ThereLemmas.{builds-there}
use Rattle.bn_reply.specs.Answering.{AgreeInAll, HasAnswer, IsOneAnswer, IsSettled}
use Rattle.bn_reply.specs.Codes.{IsReplyStatus}
use Rattle.bn_reply.specs.declared.status.Status.{Status}
use Rattle.bn_reply.specs.declared.status.Status.TheVariants as statuses
use Rattle.bn_reply.proofs.SettledLemmas.{agree}
use Rattle.bn_reply_relations.specs.Windows.{large_line}
use Rattle.bn_reply_machines.specs.UniformReply.{UniformReplies}
use Rattle.bn_reply_machines.specs.NamedWords.{AreNamedBy}
use Rattle.bn_reply_machines.specs.WordsReply.{WordsReplies}
use Rattle.bn_reply_machines.proofs.AlphabetLemmas.{read_alphabets}
use Rattle.bn_reply_machines.proofs.QuadReplyLemmas.{quad_settled}
use Rattle.bn_reply_machines.proofs.UniformLemmas.{uniform_settled}
use Rattle.bn_reply_machines.proofs.WordsLemmas.{words_settled}
use Rattle.bn_reply_builds.specs.BuildReply.{BuildIsSettled, BuiltReplies, HaveRoom, IsBuiltFor, IsCrowded}
use Rattle.bn_reply_builds.specs.BuildReply.{IsFirstLong, IsUncrowded, SizedReplies, TellsBuild, built}
use Rattle.bn_reply_builds.specs.BuildReply.{crowded_line, large, long, long_word_line, many}
use Rattle.bn_reply_builds.specs.Buildable.{IsBuildable}
use Rattle.bn_reply_builds.proofs.BuiltLemmas.{build_count, build_once, build_told}
use Rattle.bn_reply_builds.proofs.CrowdedLemmas.{crowded_once, crowded_or_not, not_crowded}
use Rattle.bn_reply_builds.proofs.LongLemmas.{long_once, long_or_room, not_long}
use Rattle.bn_reply_builds.proofs.TableFacts.{buildable, inputs_of, letters_of}

-- two counts are one
count_once : (m : Quadruples) (l : Limits) (a b : ℕ) → CountsElements m l a → CountsElements m l b → a ≡ b
count_once m l a b h k =
    h.2 ∙ ap (λ (ns : List ControlState). elements_by m l (length ns)) (order_one m h.0 k.0 h.1 k.1) ∙ sym k.2

-- what is told of a machine's builds in these limits is one answer, whichever of them it is told of
pub record AreToldOnce (tells : Build → Status → List ℕ → List Place → Type 0) (m : Quadruples)
    (l : Limits) : Type 0 where
  pub some : (f : Build) → IsBuiltFor m l f → HasAnswer (tells f)
  pub one : (f g : Build) → IsBuiltFor m l f → IsBuiltFor m l g → (s u : Status) (a b : List ℕ) (x y : List Place) →
      tells f s a x → tells g u b y → AgreeInAll s u a b x y
  pub status : (f : Build) → IsBuiltFor m l f → (s : Status) (text : List ℕ) (told : List Place) →
      tells f s text told → IsReplyStatus s

module _ (words : TapeWords) (tells : Build → Status → List ℕ → List Place → Type 0) (m : Quadruples) (l : Limits)
    (one two three : List ℕ) (is : IsBuildable m) (once : HaveRoom l one two three → AreToldOnce tells m l) where
  abbrev Answers : Status → List ℕ → List Place → Type 0
  Answers = SizedReplies words tells m l one two three

  -- ---- an answer

  by_build : IsUncrowded m → HaveRoom l one two three → (f : Build) → (IsBuiltFor m l f → HasAnswer Answers) →
      CountsElements m l (build_elements f) → (build_elements f ≤ MOST_ELEMENTS → IsBuiltFor m l f) →
      HasAnswer Answers
  by_build few fits f answer counts within = elim (cases_lt MOST_ELEMENTS (build_elements f)) [
    | inl great ↦ (
      statuses.Size,
      large_line (build_elements f),
      [],
      large few fits (build_elements f) counts great refl refl refl,
    )
    | inr small ↦ answer (within small)
  ]

  fitting : IsUncrowded m → HaveRoom l one two three → HasAnswer Answers
  fitting few fits =
      let there = builds-there m l is.valid is.uniform is.letters in
      let f : Build = there.0 in
      let numbering : IsNumbering m f.names = subst (λ (q : Quadruples). IsNumbering q f.names) there.1
      there.3.is_network.numbering in
      let count : build_elements f ≡ elements_by m l (length f.names) = (λ i. elements_by (there.1 i) (there.2 i)
      (length f.names)) in
      by_build few fits f
      (λ h. (let told = (once fits).some f h in (told.0, told.1, told.2, built few fits f h told.3)))
      (f.names, numbering, count)
      (λ small. record { machine = there.1; limits = there.2; build = there.3; few = small })

  sized_some : IsUncrowded m ⊎ ((t : ℕ) × (z : ℕ) × IsCrowded m t z) →
      HaveRoom l one two three ⊎ ((t : ℕ) × (n : ℕ) × IsFirstLong l one two three t n) → HasAnswer Answers
  sized_some (inr c) length_is = (statuses.Size, crowded_line c.0 c.1, [], many c.0 c.1 c.2 refl refl refl)
  sized_some (inl few) (inr far) =
      (statuses.Size, long_word_line words far.0 far.1, [], long few far.0 far.1 far.2 refl refl refl)
  sized_some (inl few) (inl fits) = fitting few fits

  -- ---- only one

  too_large : (f : Build) (count : ℕ) → IsBuiltFor m l f → CountsElements m l count → MOST_ELEMENTS < count → ⊥
  too_large f count h counts great =
      let own = build_count m l f h counts.0 counts.1 in
      let is_count = counts.2 in
      let small = h.few in
      omega arith

  sized_one : IsOneAnswer Answers
  sized_one s u a b x y (many t z h is_text e n) (many v w k also f o) =
      let same = crowded_once m t v z w h k in
      agree statuses.Size s u a b x y e f (is_text ∙ (λ i. crowded_line (same.0 i) (same.1 i)) ∙ sym also) n o
  sized_one s u a b x y (many t z h is_text e n) (long few v k far also f o) = absurd (not_crowded m t z few h)
  sized_one s u a b x y (many t z h is_text e n) (large few fits count counts great also f o) =
      absurd (not_crowded m t z few h)
  sized_one s u a b x y (many t z h is_text e n) (built few fits g k told) = absurd (not_crowded m t z few h)
  sized_one s u a b x y (long few t z far is_text e n) (many v w h also f o) = absurd (not_crowded m v w few h)
  sized_one s u a b x y (long few t z far is_text e n) (long low v w away also f o) =
      let same = long_once l one two three t v z w far away in
      agree statuses.Size s u a b x y e f (is_text ∙ (λ i. long_word_line words (same.0 i) (same.1 i)) ∙ sym also) n o
  sized_one s u a b x y (long few t z far is_text e n) (large low fits count counts great also f o) =
      absurd (not_long l one two three t z fits far)
  sized_one s u a b x y (long few t z far is_text e n) (built low fits g k told) =
      absurd (not_long l one two three t z fits far)
  sized_one s u a b x y (large few fits count counts great is_text e n) (many t z h also f o) =
      absurd (not_crowded m t z few h)
  sized_one s u a b x y (large few fits count counts great is_text e n) (long low t z far also f o) =
      absurd (not_long l one two three t z fits far)
  sized_one s u a b x y (large few fits count counts great is_text e n) (large low inside other more big also f o) =
      agree statuses.Size s u a b x y e f (is_text ∙ ap large_line (count_once m l count other counts more) ∙ sym
      also) n o
  sized_one s u a b x y (large few fits count counts great is_text e n) (built low inside g k told) =
      absurd (too_large g count k counts great)
  sized_one s u a b x y (built few fits g k told) (many t z h also f o) = absurd (not_crowded m t z few h)
  sized_one s u a b x y (built few fits g k told) (long low t z far also f o) =
      absurd (not_long l one two three t z fits far)
  sized_one s u a b x y (built few fits g k told) (large low inside count counts great also f o) =
      absurd (too_large g count k counts great)
  sized_one s u a b x y (built few fits g k told) (built low inside c h also) =
      (once fits).one g c k h s u a b x y told also

  sized_status : (s : Status) (text : List ℕ) (told : List Place) → Answers s text told → IsReplyStatus s
  sized_status s text told (many t z h is_text e n) = subst IsReplyStatus (sym e) tt
  sized_status s text told (long few t z far is_text e n) = subst IsReplyStatus (sym e) tt
  sized_status s text told (large few fits count counts great is_text e n) = subst IsReplyStatus (sym e) tt
  sized_status s text told (built few fits f h answer) = (once fits).status f h s text told answer

  sized_settled : IsSettled Answers
  sized_settled = record {
    some = sized_some (crowded_or_not m) (long_or_room l one two three);
    one = sized_one;
    status = sized_status;
  }

-- ---- all

-- of a table that is read, whose machine is uniform, and of symbols that the words have and that fit, one answer is
-- told
abbrev pub AreToldOnceOf : (QuadTable → List ℕ → List ℕ → List ℕ → Build → Status → List ℕ → List Place → Type 0) →
    TapeWords → Limits → List ℕ → Type 0
AreToldOnceOf tells words l bytes = (t : QuadTable) → ReadsQuadruples bytes t → IsUniformMachine t.machine →
    (one two three : List ℕ) → AreNamedBy words t.names one two three → AreInputs t.machine l one two three →
    AreToldOnce (tells t one two three) t.machine l

module _ (tells : QuadTable → List ℕ → List ℕ → List ℕ → Build → Status → List ℕ → List Place → Type 0)
    (words : TapeWords) (l : Limits) (bytes : List ℕ) (once : AreToldOnceOf tells words l bytes) where
  abbrev Sized : QuadTable → List ℕ → List ℕ → List ℕ → Status → List ℕ → List Place → Type 0
  Sized t one two three = SizedReplies words (tells t one two three) t.machine l one two three

  uniform_machine : (t : QuadTable) → IsDeterministic t.machine.rules → IsReversible t.machine.rules →
      IsUniform t.machine.rules → IsUniformMachine t.machine
  uniform_machine t apart back even = record { deterministic = apart; reversible = back; uniform = even }

  words_told : (t : QuadTable) → ReadsQuadruples bytes t → IsUniformMachine t.machine →
      IsSettled (WordsReplies words (λ one two three. Sized t one two three) t.names)
  words_told t reads even = words_settled words (λ one two three. Sized t one two three) t.names
      (read_alphabets bytes t reads) (λ one two three named.
      sized_settled words (tells t one two three) t.machine l one two three (buildable bytes t reads even) (λ room.
      once t reads even one two three named
      (inputs_of t.machine l one two three (letters_of bytes t reads words one two three named) room)))

  table_settled : (t : QuadTable) → ReadsQuadruples bytes t → IsDeterministic t.machine.rules → IsReversible
      t.machine.rules →
      IsSettled (UniformReplies (λ t. WordsReplies words (λ one two three. Sized t one two three) t.names) t)
  table_settled t reads apart back =
      uniform_settled (λ t. WordsReplies words (λ one two three. Sized t one two three) t.names) t
      (λ even. words_told t reads (uniform_machine t apart back even))

  pub built_settled : IsSettled (BuiltReplies tells words l bytes)
  built_settled =
      quad_settled (UniformReplies (λ t. WordsReplies words (λ one two three. Sized t one two three) t.names)) bytes
      table_settled

pub build_is_settled : BuildIsSettled
build_is_settled words l bytes =
    built_settled (λ t one two three. TellsBuild (words_on t.machine one two three)) words l bytes
    (λ t reads even one two three named inputs. record {
      some = λ f h. (let told = build_told t.machine l one two three inputs f h in (statuses.Done, told.0, [], told.1));
      one = λ f g h k s u a b x y told also. agree statuses.Done s u a b x y told.done also.done
          (build_once t.machine l one two three inputs f g h k s u a b x y told also) told.silent also.silent;
      status = λ f h s text told tells. subst IsReplyStatus (sym tells.done) tt;
    })

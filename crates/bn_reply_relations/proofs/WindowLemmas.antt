-- What is given may be compiled, and what is answered to a window is one.
use Rattle.std.specs.Prelude.{◌≡◌, ◌⊎◌, ℕ, ◌<◌, ◌≤◌, List, [], length, refl}
use Rattle.std.proofs.Common.{arith, inl, inr, sym, ap, subst, ◌∙◌, get_or}
use Rattle.std.proofs.lemmas.Bool.{cases_lt}
use Rattle.bn_circuits.specs.declared.place.Place.{Place}
use Rattle.bn_machine.specs.Machine.{Program}
use Rattle.bn_machine.specs.Outcome.{Limits}
use Rattle.bn_circuits.specs.declared.net.TheConstants.{MOST_ELEMENTS}
use Rattle.bn_bennett_laws.specs.Stages.{IsStandardMachine}
use Rattle.bn_table.specs.Laws.{TablesAreMachines}
use Rattle.bn_table.specs.Rows.{FitsTable, Named}
use Rattle.bn_boards.specs.Boards.{size}
use Rattle.bn_boards.specs.Flats.{Flat, IsFlatOf}
use Rattle.bn_boards.specs.ExistenceLaws.{FlatsAreThere}
use Rattle.bn_reply.specs.Answering.{AgreeInAll, HasAnswer, IsOneAnswer, IsSettled}
use Rattle.bn_reply.specs.Codes.{IsReplyStatus}
use Rattle.bn_reply.specs.TableReply.{ReadsStandard, WordReplies}
use Rattle.bn_reply.specs.declared.status.Status.{Status}
use Rattle.bn_reply.specs.declared.status.Status.TheVariants as statuses
use Rattle.bn_reply.proofs.SettledLemmas.{agree, standard_settled, word_settled}
use Rattle.bn_reply.proofs.TableLemmas.{reads_table}
use Rattle.bn_network.specs.Limits.{AreSmall}
use Rattle.bn_reply_relations.specs.Windows.{BoardReplies, long, large, board, ComesTo, CountsElements, large_line}
use Rattle.bn_reply_relations.specs.Windows.{WindowReplies}
use Rattle.bn_reply.specs.Lines.{long_line}
use Rattle.bn_reply_relations.specs.ToldRuns.{IsGiven}
use Rattle.bn_reply_relations.specs.Laws.{BoardsAreCounted, GivenBoardsAreAccepted}

-- the machine of a table in standard form
pub standard_machine : TablesAreMachines → (bytes : List ℕ) (t : Named) → ReadsStandard bytes t
    → IsStandardMachine t.machine × FitsTable t.machine
standard_machine machines bytes t reads =
    let machine = machines t (reads_table bytes t reads.reads) in
    (record { machine = machine.0; standard = reads.standard }, machine.1)

-- what is given and comes to a board may be compiled
pub given_accepted : TablesAreMachines → GivenBoardsAreAccepted
given_accepted machines bytes letters l t symbols f given comes =
    let table = reads_table bytes t given.reads.reads in
    record {
      standard = (standard_machine machines bytes t given.reads).0;
      letters = λ k d inside. subst (λ z. get_or symbols k d < z) (sym table.symbols)
          (given.spelled.symbols_known k d inside).known;
      nonblank = λ k d inside. (given.spelled.symbols_known k d inside).letter;
      fits = comes.fits;
      small = given.small;
      few = comes.few;
    }

-- ---- what is answered to the symbols of a word

module _ (tells : Flat → Status → List ℕ → List Place → Type 0) (p : Program) (l : Limits) (symbols : List ℕ)
    (counted : BoardsAreCounted)
    (there : (f : Flat) × IsFlatOf p symbols l f) (some : (f : Flat) → ComesTo p l symbols f → HasAnswer (tells f))
    (one : (f g : Flat) → ComesTo p l symbols f → ComesTo p l symbols g
    → (s u : Status) (a b : List ℕ) (x y : List Place) → tells f s a x → tells g u b y →
    AgreeInAll s u a b x y)
    (status : (f : Flat) → (s : Status) (text : List ℕ) (told : List Place) → tells f s text told → IsReplyStatus s)
  where
    board_some : HasAnswer (BoardReplies tells p l symbols)
    board_some = by_length (cases_lt l.right (length symbols))
      where
        by_count : length symbols ≤ l.right → (MOST_ELEMENTS < size there.0.network.tables)
            ⊎ (size there.0.network.tables ≤ MOST_ELEMENTS) →
            HasAnswer (BoardReplies tells p l symbols)
        by_count fits (inl great) =
            let count = size there.0.network.tables in (
              statuses.Size,
              large_line count,
              [],
              large fits count (counted.1 p symbols l there.0 there.1) great refl refl refl,
            )
        by_count fits (inr few) =
            let comes : ComesTo p l symbols there.0 = record { fits = fits; flat = there.1; few = few } in
            let answer = some there.0 comes in
            (answer.0, answer.1, answer.2, board there.0 comes answer.3)

        by_length : (l.right < length symbols) ⊎ (length symbols ≤ l.right) → HasAnswer (BoardReplies tells p l symbols)
        by_length (inl far) = (statuses.Size, long_line (length symbols), [], long far refl refl refl)
        by_length (inr fits) = by_count fits (cases_lt MOST_ELEMENTS (size there.0.network.tables))

    -- a board that isn't too large is not refused
    not_large : (f : Flat) (count : ℕ) → ComesTo p l symbols f → CountsElements p l count → MOST_ELEMENTS < count → ⊥
    not_large f count comes counts great =
        let same : size f.network.tables ≡ count = counted.0 p l (size f.network.tables) count
        (counted.1 p symbols l f comes.flat) counts in
        let few = comes.few in
        omega arith

    board_one : IsOneAnswer (BoardReplies tells p l symbols)
    board_one s u a b x y (long far h e n) (long _ k f m) = agree statuses.Size s u a b x y e f (h ∙ sym k) n m
    board_one s u a b x y (long far h e n) (large fits count counts great k f m) = absurd (omega arith)
    board_one s u a b x y (long far h e n) (board g comes answer) = let fits = comes.fits in absurd (omega arith)
    board_one s u a b x y (large fits count counts great h e n) (long far k f m) = absurd (omega arith)
    board_one s u a b x y (large fits count counts great h e n) (large _ other also more k f m) =
        agree statuses.Size s u a b x y e f (h ∙ ap large_line (counted.0 p l count other counts also) ∙ sym k) n m
    board_one s u a b x y (large fits count counts great h e n) (board g comes answer) =
        absurd (not_large g count comes counts great)
    board_one s u a b x y (board f comes answer) (long far k g m) = let fits = comes.fits in absurd (omega arith)
    board_one s u a b x y (board f comes answer) (large fits count counts great k g m) =
        absurd (not_large f count comes counts great)
    board_one s u a b x y (board f comes answer) (board g also other) = one f g comes also s u a b x y answer other

    board_status : (s : Status) (text : List ℕ) (told : List Place) → BoardReplies tells p l symbols s text told
        → IsReplyStatus s
    board_status s text told (long far h e n) = subst IsReplyStatus (sym e) tt
    board_status s text told (large fits count counts great h e n) = subst IsReplyStatus (sym e) tt
    board_status s text told (board f comes answer) = status f s text told answer

    pub board_settled : IsSettled (BoardReplies tells p l symbols)
    board_settled = record { some = board_some; one = board_one; status = board_status }

-- ---- what is answered to a word, limits and bytes

pub window_settled : (tells : Named → Flat → Status → List ℕ → List Place → Type 0) (word : List ℕ) (l : Limits)
    (bytes : List ℕ) →
    TablesAreMachines → FlatsAreThere → BoardsAreCounted → AreSmall l →
    ((t : Named) (symbols : List ℕ) (f : Flat) → IsGiven bytes word l t symbols → ComesTo t.machine l symbols f
    → HasAnswer (tells t f)) →
    ((t : Named) (symbols : List ℕ) (f g : Flat) → IsGiven bytes word l t symbols → ComesTo t.machine l symbols f
    → ComesTo t.machine l symbols g →
    (s u : Status) (a b : List ℕ) (x y : List Place) → tells t f s a x → tells t g u b y → AgreeInAll s u a b x y) →
    ((t : Named) (f : Flat) (s : Status) (text : List ℕ) (told : List Place) → tells t f s text told → IsReplyStatus s)
    →
    IsSettled (WindowReplies tells word l bytes)
window_settled tells word l bytes machines flats counted small some one status =
    standard_settled (λ t. WordReplies (BoardReplies (tells t) t.machine l) t word) bytes
    (λ t reads. word_settled (BoardReplies (tells t) t.machine l) t (reads_table bytes t reads.reads) word
    (λ symbols spelled.
    let given : IsGiven bytes word l t symbols = record { reads = reads; spelled = spelled; small = small } in
    let standard = standard_machine machines bytes t reads in
    let flat = flats t.machine symbols l standard.0 standard.1 in
    board_settled (tells t) t.machine l symbols counted (flat.0, flat.1) (λ f. some t symbols f given)
    (λ f g. one t symbols f g given) (status t)))

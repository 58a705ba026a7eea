-- The command has one answer, which tells what the search finds.
use Rattle.std.specs.Prelude.{◌≡◌, ◌≢◌, ℕ, ◌<◌, ◌≤◌, List, [], ◌++◌, length, None, refl, ◌⊎◌}
use Rattle.std.proofs.Common.{arith, sym, ap, subst, ◌∙◌, inl, inr, zero, suc, append_assoc}
use Rattle.std.proofs.lemmas.Bool.{cases_lt}
use Rattle.bn_base.specs.declared.limits.TheConstants.{MOST_COUNT}
use Rattle.bn_circuits.specs.declared.place.Place.{Place}
use Rattle.bn_machine.specs.Machine.{Program}
use Rattle.bn_machine.specs.Outcome as outcome
use Rattle.bn_machine.specs.Outcome.{Limits, Outcome, HasOutcome}
use Rattle.bn_machine.proofs.OutcomeLemmas.{outcome_exists}
use Rattle.bn_circuits.specs.declared.net.TheConstants.{MOST_ELEMENTS}
use Rattle.bn_table.specs.Rows.{Named}
use Rattle.bn_boards.specs.Boards.{size}
use Rattle.bn_boards.specs.Flats.{Flat}
use Rattle.bn_reply.specs.Answering.{AgreeInAll, HasAnswer, IsOneAnswer, IsSettled}
use Rattle.bn_reply.specs.Codes.{IsReplyStatus}
use Rattle.bn_reply.specs.TableReply.{ReadsStandard, fit, read, spelled, WordReplies}
use Rattle.bn_reply.specs.Words.{IsSpelledBy}
use Rattle.bn_reply.specs.declared.status.Status.{Status}
use Rattle.bn_reply.specs.declared.status.Status.TheVariants as statuses
use Rattle.bn_reply.proofs.SettledLemmas.{agree, standard_settled, standard_tells, word_settled, word_tells}
use Rattle.bn_reply.proofs.TableLemmas.{reads_table}
use Rattle.bn_network.specs.Limits.{AreSmall}
use Rattle.bn_reply_relations.specs.Windows.{BoardReplies, board, large as large_board, long as long_word, ComesTo}
use Rattle.bn_reply_relations.specs.Windows.{CountsElements, large_line}
use Rattle.bn_reply.specs.Lines.{long_line}
use Rattle.bn_reply_relations.specs.RunReply.{RunIsSettled, RunReplies, TellsRun}
use Rattle.bn_reply_relations.specs.ToldRuns.{outcome_status}
use Rattle.bn_reply_relations.specs.Laws.{RunsTellOutcomes}
use Rattle.bn_network_assembly.specs.Widening.{first_window}
use Rattle.bn_headline.specs.Searches.{Finding, Found, HasFinding, Large, Stops, halts, sticks, too_large}
use Rattle.bn_headline.specs.WindowLaws.{IsOnTheWay, SearchEnds}
use Rattle.bn_headline.specs.AutoReply.{AutoIsSettled, AutoReplies, EndReplies, FindReplies, MakeRounds}
use Rattle.bn_headline.specs.AutoReply.{SearchReplies, found, found_line, large, long, searched}
use Rattle.bn_headline.specs.FoundHeadline.{IsWordGiven}
use Rattle.bn_headline.specs.AutoLaws.{RoundsAreTheSearchs, RoundsBeginAnswers}
use Rattle.bn_headline.proofs.SearchLemmas.{finding_once, first_on_way, stays_on_way, widens_once, stopped, next_on_way}
use Rattle.bn_headline.proofs.RoundLemmas.{Boards, asked, board_there, has_board, rounds_once, rounds_search}
use Rattle.bn_headline.proofs.RoundLemmas.{search_rounds, standard, fits_table, round_widens, round_told}

-- the laws of the answers that the search needs
pub record Answers : Type 0 where
  pub boards : Boards
  pub settled : RunIsSettled
  pub tells : RunsTellOutcomes
  pub ends : SearchEnds

done_apart : statuses.Done ≢ statuses.Window
done_apart e = cc

stuck_apart : statuses.Stuck ≢ statuses.Window
stuck_apart e = cc

size_apart : statuses.Size ≢ statuses.Window
size_apart e = cc

size_not_inside : statuses.Size ≢ statuses.Inside
size_not_inside e = cc

outcome_not_inside : (o : Outcome) → outcome_status o ≢ statuses.Inside
outcome_not_inside (outcome.Halted y) e = cc
outcome_not_inside (outcome.Stuck j c) e = cc
outcome_not_inside (outcome.Outside n s) e = cc

-- a status of a reply, and neither that of a window nor that of a run cut short
pub record IsEndStatus (s : Status) : Type 0 where
  pub reply : IsReplyStatus s
  pub no_window : s ≢ statuses.Window
  pub not_inside : s ≢ statuses.Inside

size_ends : (s : Status) → s ≡ statuses.Size → IsEndStatus s
size_ends s e = record {
  reply = subst IsReplyStatus (sym e) tt;
  no_window = λ is. size_apart (sym e ∙ is);
  not_inside = λ is. size_not_inside (sym e ∙ is);
}

module _ (laws : Answers) (bytes letters : List ℕ) (t : Named) (symbols : List ℕ)
    (given : IsWordGiven bytes letters t symbols) where
  abbrev program : Program
  program = t.machine

  module _ (w : Limits) (on : IsOnTheWay symbols w) where
    small : AreSmall w
    small = on.small given.few

    settled_here : IsSettled (RunReplies None letters w bytes)
    settled_here = laws.settled None letters w bytes small

    -- what is told of a board in the window is a reply of the command that is given the window
    reply_of : (f : Flat) → ComesTo program w symbols f → (s : Status) (text : List ℕ) (told : List Place)
        → TellsRun None t f s text told → RunReplies None letters w bytes s text told
    reply_of f comes s text told tells = read t given.reads.reads
        (fit given.reads.standard (spelled symbols given.spelled (board f comes tells)))

    -- what is told of the boards in the window is one
    pub run_once : (f g : Flat) → ComesTo program w symbols f → ComesTo program w symbols g
        → (s u : Status) (a b : List ℕ) (x y : List Place) → TellsRun None t f s a x → TellsRun None t g u b y
        → AgreeInAll s u a b x y
    run_once f g h k s u a b x y one other = settled_here.one s u a b x y (reply_of f h s a x one)
        (reply_of g k u b y other)

    -- and there is something told of a board that isn't too large
    pub run_there : (f : Flat) → ComesTo program w symbols f → (s : Status) × (text : List ℕ) × (told : List Place)
        × (g : Flat) × ComesTo program w symbols g × TellsRun None t g s text told
    run_there f comes =
        let some = settled_here.some in
        by_board some.0 some.1 some.2 (word_tells (BoardReplies (TellsRun None t) program w) t
        (reads_table bytes t given.reads.reads) letters symbols some.0 some.1 some.2 given.spelled
        (standard_tells (λ u. WordReplies (BoardReplies (TellsRun None u) u.machine w) u letters) bytes t some.0 some.1
        some.2 given.reads some.3))
      where
        by_board : (s : Status) (text : List ℕ) (told : List Place)
            → BoardReplies (TellsRun None t) program w symbols s text told →
            (s : Status) × (text : List ℕ) × (told : List Place) × (g : Flat) × ComesTo program w symbols g
            × TellsRun None t g s text told
        by_board s text told (long_word far h e n) = let fits = on.fits in absurd (omega arith)
        by_board s text told (large_board fits count counts great h e n) =
            let same : size f.network.tables ≡ count = laws.boards.counted.0 program w (size f.network.tables) count
            (laws.boards.counted.1 program symbols w f comes.flat) counts in
            let few = comes.few in
            absurd (omega arith)
        by_board s text told (board g also tells) = (s, text, told, g, also, tells)

    -- the status of what is told is the outcome's
    pub status_is : (f : Flat) → ComesTo program w symbols f → (s : Status) (text : List ℕ) (told : List Place)
        → TellsRun None t f s text told → (i : ℕ) (o : Outcome) → HasOutcome program symbols w i o
        → s ≡ outcome_status o
    status_is f comes s text told tells i o out =
        (laws.tells bytes letters w t symbols f s text told (asked laws.boards bytes letters t symbols given w on) comes
        tells i o out).status_is

    -- ---- the last window

    -- what is answered in the last window is what stops the search
    pub end_stops : (s : Status) (text : List ℕ) (told : List Place) → EndReplies t symbols w s text told
        → (a : Finding) × Stops program symbols w a
    end_stops s text told (large count counts great h e n) = (Large count, too_large count counts great refl)
    end_stops s text told (found f comes ran tells apart h) =
        let some = outcome_exists program symbols w in
        (Found w, by_outcome some.0 some.1 some.2)
      where
        by_outcome : (i : ℕ) (o : Outcome) → HasOutcome program symbols w i o → Stops program symbols w (Found w)
        by_outcome i (outcome.Halted y) out = halts (has_board laws.boards bytes letters t symbols given w on f comes) i
            y out refl
        by_outcome i (outcome.Stuck j c) out = sticks (has_board laws.boards bytes letters t symbols given w on f comes)
            i j c out refl
        by_outcome i (outcome.Outside n r) out = absurd (apart (status_is f comes s ran told tells i
            (outcome.Outside n r) out))

    -- where the search stops there is an answer
    pub stops_end : (a : Finding) → Stops program symbols w a → HasAnswer (EndReplies t symbols w)
    stops_end a (too_large count counts great e) = (
      statuses.Size,
      large_line count,
      [],
      large count counts great refl refl refl,
    )
    stops_end a (halts b i y out e) =
        let flat = board_there laws.boards bytes letters t symbols given w on b in
        let told = run_there flat.0 flat.1 in
        let is = status_is told.3 told.4 told.0 told.1 told.2 told.5 i (outcome.Halted y) out in
        (told.0, found_line w ++ told.1, told.2, found told.3 told.4 told.1 told.5 (λ h. done_apart (sym is ∙ h)) refl)
    stops_end a (sticks b i j c out e) =
        let flat = board_there laws.boards bytes letters t symbols given w on b in
        let told = run_there flat.0 flat.1 in
        let is = status_is told.3 told.4 told.0 told.1 told.2 told.5 i (outcome.Stuck j c) out in
        (told.0, found_line w ++ told.1, told.2, found told.3 told.4 told.1 told.5 (λ h. stuck_apart (sym is ∙ h)) refl)

    not_large : (f : Flat) (count : ℕ) → ComesTo program w symbols f → CountsElements program w count
        → MOST_ELEMENTS < count → ⊥
    not_large f count comes counts great =
        let same : size f.network.tables ≡ count = laws.boards.counted.0 program w (size f.network.tables) count
        (laws.boards.counted.1 program symbols w f comes.flat) counts in
        let few = comes.few in
        omega arith

    pub end_once : IsOneAnswer (EndReplies t symbols w)
    end_once s u a b x y (large count counts great h e n) (large other also more k f m) =
        agree statuses.Size s u a b x y e f (h ∙ ap large_line (laws.boards.counted.0 program w count other counts also)
        ∙ sym k) n m
    end_once s u a b x y (large count counts great h e n) (found g comes ran tells apart k) =
        absurd (not_large g count comes counts great)
    end_once s u a b x y (found f comes ran tells apart h) (large count counts great k e n) =
        absurd (not_large f count comes counts great)
    end_once s u a b x y (found f comes ran tells apart h) (found g also other says apart' k) =
        let all = run_once f g comes also s u ran other x y tells says in
        record {
          statuses = all.statuses;
          texts = h ∙ ap (λ r. found_line w ++ r) all.texts ∙ sym k;
          places = all.places;
        }

    pub end_status : (s : Status) (text : List ℕ) (told : List Place) → EndReplies t symbols w s text told
        → IsEndStatus s
    end_status s text told (large count counts great h e n) = size_ends s e
    end_status s text told (found f comes ran tells apart h) =
        let some = outcome_exists program symbols w in
        record {
          reply = settled_here.status s ran told (reply_of f comes s ran told tells);
          no_window = apart;
          not_inside = λ is. outcome_not_inside some.1 (sym (status_is f comes s ran told tells some.0 some.1 some.2)
              ∙ is);
        }

  -- ---- the whole search

  abbrev start : Limits
  start = first_window symbols

  on_start : IsOnTheWay symbols start
  on_start = first_on_way program symbols

  on_last : (n : ℕ) (v : Limits) (told : List Place) → MakeRounds program symbols n start v told → IsOnTheWay symbols v
  on_last n v told made =
      stays_on_way program symbols (standard laws.boards bytes letters t symbols given) n start v on_start
      (rounds_search laws.boards bytes letters t symbols given n start v told on_start made)

  -- what is answered is a finding of the search
  pub search_finds : (s : Status) (text : List ℕ) (told : List Place) (r : SearchReplies t symbols s text told)
      → (a : Finding) × HasFinding program symbols r.rounds a
  search_finds s text told r =
      let stop = end_stops r.last (on_last r.rounds r.last r.before r.made) s text r.behind r.ends in (
        stop.0,
        record {
          last = r.last;
          rounds = rounds_search laws.boards bytes letters t symbols given r.rounds start
              r.last r.before on_start r.made;
          stops = stop.1;
        },
      )

  search_some : HasAnswer (SearchReplies t symbols)
  search_some =
      let finds = laws.ends program symbols (standard laws.boards bytes letters t symbols given)
      (fits_table laws.boards bytes letters t symbols given) in
      let h = finds.2 in
      let rounds = search_rounds laws.boards bytes letters t symbols given finds.0 start h.last on_start h.rounds in
      let end = stops_end h.last (on_last finds.0 h.last rounds.0 rounds.1) finds.1 h.stops in (
        end.0,
        end.1,
        rounds.0 ++ end.2,
        record {
          rounds = finds.0;
          last = h.last;
          before = rounds.0;
          behind = end.2;
          made = rounds.1;
          ends = end.3;
          told_is = refl;
        },
      )

  search_one : IsOneAnswer (SearchReplies t symbols)
  search_one s u a b x y h k =
      let one = search_finds s a x h in
      let other = search_finds u b y k in
      let rounds : h.rounds ≡ k.rounds = (finding_once program symbols laws.boards.counted h.rounds k.rounds one.0
      other.0 one.1 other.1).0 in
      let both = rounds_once laws.boards bytes letters t symbols given k.rounds start h.last k.last h.before k.before
      on_start (subst (λ n. MakeRounds program symbols n start h.last h.before) rounds h.made) k.made in
      let end = end_once k.last (on_last k.rounds k.last k.before k.made) s u a b h.behind k.behind
      (subst (λ v. EndReplies t symbols v s a h.behind) both.0 h.ends) k.ends in
      record {
        statuses = end.statuses;
        texts = end.texts;
        places = h.told_is ∙ (λ i. both.1 i ++ end.places i) ∙ sym k.told_is;
      }

  pub search_status : (s : Status) (text : List ℕ) (told : List Place) → SearchReplies t symbols s text told
      → IsEndStatus s
  search_status s text told r = end_status r.last (on_last r.rounds r.last r.before r.made) s text r.behind r.ends

  pub search_settled : IsSettled (SearchReplies t symbols)
  search_settled = record {
    some = search_some;
    one = search_one;
    status = λ s text told r. (search_status s text told r).reply;
  }

-- ---- a word of any length

module _ (laws : Answers) (bytes letters : List ℕ) (t : Named) (symbols : List ℕ) (reads : ReadsStandard bytes t)
    (spelled_by : IsSpelledBy t letters symbols) where
  given_word : length symbols ≤ MOST_COUNT → IsWordGiven bytes letters t symbols
  given_word few = record { reads = reads; spelled = spelled_by; few = few }

  find_some : HasAnswer (FindReplies t symbols)
  find_some = by_length (cases_lt MOST_COUNT (length symbols))
    where
      by_length : (MOST_COUNT < length symbols) ⊎ (length symbols ≤ MOST_COUNT) → HasAnswer (FindReplies t symbols)
      by_length (inl far) = (statuses.Size, long_line (length symbols), [], long far refl refl refl)
      by_length (inr few) =
          let some = (search_settled laws bytes letters t symbols (given_word few)).some in
          (some.0, some.1, some.2, searched few some.3)

  find_one : IsOneAnswer (FindReplies t symbols)
  find_one s u a b x y (long far h e n) (long more k f m) = agree statuses.Size s u a b x y e f (h ∙ sym k) n m
  find_one s u a b x y (long far h e n) (searched few r) = absurd (omega arith)
  find_one s u a b x y (searched few r) (long far h e n) = absurd (omega arith)
  find_one s u a b x y (searched few r) (searched also q) = (search_settled laws bytes letters t symbols
      (given_word few)).one s u a b x y r q

  pub find_status : (s : Status) (text : List ℕ) (told : List Place) → FindReplies t symbols s text told → IsEndStatus s
  find_status s text told (long far h e n) = size_ends s e
  find_status s text told (searched few r) = search_status laws bytes letters t symbols (given_word few) s text told r

  pub find_settled : IsSettled (FindReplies t symbols)
  find_settled = record {
    some = find_some;
    one = find_one;
    status = λ s text told r. (find_status s text told r).reply;
  }

pub auto-settled : Answers → AutoIsSettled
auto-settled laws word bytes =
    standard_settled (λ t. WordReplies (FindReplies t) t word) bytes
    (λ t reads. word_settled (FindReplies t) t (reads_table bytes t reads.reads) word
    (λ symbols is. find_settled laws bytes word t symbols reads is))

-- ---- what is given

-- what is answered to a word that is given is what is answered to the search
pub auto_searched : (bytes letters : List ℕ) (t : Named) (symbols : List ℕ) (s : Status) (text : List ℕ)
    (told : List Place) → IsWordGiven bytes letters t symbols → AutoReplies letters bytes s text told
    → SearchReplies t symbols s text told
auto_searched bytes letters t symbols s text told given reply =
    by_length (word_tells (FindReplies t) t (reads_table bytes t given.reads.reads) letters symbols s text told
    given.spelled
    (standard_tells (λ u. WordReplies (FindReplies u) u letters) bytes t s text told given.reads reply))
  where
    by_length : FindReplies t symbols s text told → SearchReplies t symbols s text told
    by_length (long far h e n) = let few = given.few in absurd (omega arith)
    by_length (searched few r) = r

pub rounds-search : Boards → RoundsAreTheSearchs
rounds-search boards bytes letters t symbols given = (
  λ n w told made. rounds_search boards bytes letters t symbols given n (first_window symbols) w told
      (first_on_way t.machine symbols) made,
  λ n w way. search_rounds boards bytes letters t symbols given n (first_window symbols) w
      (first_on_way t.machine symbols) way,
)

-- ---- the rounds made so far

module _ (laws : Answers) (bytes letters : List ℕ) (t : Named) (symbols : List ℕ)
    (given : IsWordGiven bytes letters t symbols) where
  rounds_front : (n m : ℕ) (w v u : Limits) (told heard : List Place) → IsOnTheWay symbols w
      → MakeRounds t.machine symbols n w v told → MakeRounds t.machine symbols m w u heard → (a : Finding)
      → Stops t.machine symbols u a → (rest : List Place) × (heard ≡ told ++ rest)
  rounds_front zero m w v u told heard on one other a stops = (heard, ap (λ ps. ps ++ heard) (sym one.1))
  rounds_front (suc n) zero w v u told heard on one other a stops =
      let goes = round_widens laws.boards bytes letters t symbols given w on one.0 one.1 one.3 in
      absurd (stopped t.machine symbols laws.boards.counted w one.0 a
      (subst (λ x. Stops t.machine symbols x a) (sym other.0) stops) goes)
  rounds_front (suc n) (suc m) w v u told heard on one other a stops =
      let goes = round_widens laws.boards bytes letters t symbols given w on one.0 one.1 one.3 in
      let also = round_widens laws.boards bytes letters t symbols given w on other.0 other.1 other.3 in
      let same : other.0 ≡ one.0 = widens_once t.machine symbols w other.0 one.0 also goes in
      let fronts : other.1 ≡ one.1 = round_told laws.boards bytes letters t symbols given w on other.0 one.0 other.1
      one.1 other.3 one.3 in
      let next = next_on_way t.machine symbols (standard laws.boards bytes letters t symbols given) w one.0 goes on in
      let rest = rounds_front n m one.0 v u one.2 other.2 next one.4
      (subst (λ x. MakeRounds t.machine symbols m x u other.2) same other.4) a stops in (
        rest.0,
        other.5 ∙ (λ i. fronts i ++ rest.1 i) ∙ sym (append_assoc one.1 one.2 rest.0)
            ∙ ap (λ ps. ps ++ rest.0) (sym one.5),
      )

pub rounds-begin : Answers → RoundsBeginAnswers
rounds-begin laws bytes letters t symbols s text told given reply n w front made =
    let r = auto_searched bytes letters t symbols s text told given reply in
    let stop = end_stops laws bytes letters t symbols given r.last
    (on_last laws bytes letters t symbols given r.rounds r.last r.before r.made) s text r.behind r.ends in
    let begun = rounds_front laws bytes letters t symbols given n r.rounds (first_window symbols) w r.last front
    r.before (first_on_way t.machine symbols) made r.made stop.0 stop.1 in
    (begun.0 ++ r.behind, r.told_is ∙ ap (λ ps. ps ++ r.behind) begun.1 ∙ append_assoc front begun.0 r.behind)

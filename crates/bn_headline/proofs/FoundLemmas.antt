-- The headline where the window is to be found, and what a watch is told.
use Rattle.std.specs.Prelude.{◌≡◌, ◌≢◌, ℕ, ◌<◌, List, ◌++◌, None}
use Rattle.std.proofs.Common.{arith, sym, ap, subst, ◌∙◌}
use Rattle.bn_lists.specs.Runs.{Reaches}
use Rattle.bn_lists.proofs.RunsLemmas.{runs_end_once}
use Rattle.bn_circuits.specs.declared.place.Place.{Place}
use Rattle.bn_machine.specs.Machine.{Program}
use Rattle.bn_machine.specs.Outcome.{Limits, Outcome, HasOutcome}
use Rattle.bn_circuits.specs.declared.net.TheConstants.{MOST_ELEMENTS}
use Rattle.bn_table.specs.Rows.{Named}
use Rattle.bn_boards.specs.Boards.{size}
use Rattle.bn_boards.specs.Flats.{Flat}
use Rattle.bn_boards.specs.BoardRuns.{RunsToExit}
use Rattle.bn_reply.specs.TableReply.{JudgedReplies, WordReplies, faulty, fit, foreign, read, spelled, unfit}
use Rattle.bn_machine.specs.Standard.{IsStandard}
use Rattle.bn_reply.specs.declared.status.Status.{Status}
use Rattle.bn_reply.specs.declared.status.Status.TheVariants as statuses
use Rattle.bn_reply_relations.specs.Windows.{ComesTo, CountsElements, large_line}
use Rattle.bn_reply_relations.specs.RunReply.{TellsRun}
use Rattle.bn_reply_relations.proofs.TellingLemmas.{boards-tell_alike}
use Rattle.bn_network_assembly.specs.Widening.{first_window}
use Rattle.bn_headline.specs.Searches.{Finding, HasBoard, HasFinding, Stops, Widens, halts, sticks, too_large}
use Rattle.bn_headline.specs.WindowLaws.{IsOnTheWay}
use Rattle.bn_headline.specs.AutoReply.{EndReplies, FindReplies, SearchReplies, found, found_line, large}
use Rattle.bn_headline.specs.FoundHeadline.{IsWordGiven, TellsFinding, TellsFound}
use Rattle.bn_headline.specs.AutoLaws.{AnswersTellFoundWindow, AreOfLast, AreOfRounds, AutosEndInside}
use Rattle.bn_headline.specs.AutoLaws.{AutosTellFindings, AutosTellPlaces, TellsPlaces}
use Rattle.bn_headline.proofs.SearchLemmas.{finding_once, first_on_way, stays_on_way, widens_once}
use Rattle.bn_headline.proofs.RoundLemmas.{asked, board_places, ran as board_ran, rounds_places, rounds_search}
use Rattle.bn_headline.proofs.RoundLemmas.{standard}
use Rattle.bn_headline.proofs.AutoLemmas.{Answers, IsEndStatus, auto_searched, end_status, find_status, search_finds}

module _ (laws : Answers) (bytes letters : List ℕ) (t : Named) (symbols : List ℕ)
    (given : IsWordGiven bytes letters t symbols) where
  abbrev program : Program
  program = t.machine

  abbrev start : Limits
  start = first_window symbols

  -- ---- the last window

  module _ (w : Limits) (on : IsOnTheWay symbols w) where
    not_large : (f : Flat) (count : ℕ) → ComesTo program w symbols f → CountsElements program w count
        → MOST_ELEMENTS < count → ⊥
    not_large f count comes counts great =
        let same : size f.network.tables ≡ count = laws.boards.counted.0 program w (size f.network.tables) count
        (laws.boards.counted.1 program symbols w f comes.flat) counts in
        let few = comes.few in
        omega arith

    -- where a window stops the search at itself its board isn't too large
    no_board : (count : ℕ) → CountsElements program w count → MOST_ELEMENTS < count → HasBoard program w → ⊥
    no_board count counts great b =
        let same : b.count ≡ count = laws.boards.counted.0 program w b.count count b.counts counts in
        let few = b.few in
        omega arith

    -- what is told of a board in the window
    found_tells : (f : Flat) → ComesTo program w symbols f → (s : Status) (text ran : List ℕ) (told : List Place)
        → TellsRun None t f s ran told → text ≡ found_line w ++ ran → IsEndStatus s → TellsFound t symbols w s text
    found_tells f comes s text ran told tells is end = record {
      ran = ran;
      text_is = is;
      flat = f;
      comes = comes;
      counted = λ count counts g also. laws.boards.counted.0 program w (size g.network.tables) count
          (laws.boards.counted.1 program symbols w g also.flat) counts;
      runs = λ i o out g also. ran_to g also i o out;
      tells = λ i o out g also. laws.tells bytes letters w t symbols g s ran told
          (asked laws.boards bytes letters t symbols given w on) also
          (boards-tell_alike laws.boards.machines laws.boards.ones bytes letters w t symbols f g None s ran told
          (asked laws.boards bytes letters t symbols given w on) comes also tells) i o out;
      no_window = end.no_window;
      not_inside = end.not_inside;
    }
      where
        ran_to : (g : Flat) → ComesTo program w symbols g → (i : ℕ) (o : Outcome) → HasOutcome program symbols w i o
            → RunsToExit program g i o
        ran_to g also i o out = board_ran laws.boards bytes letters t symbols given w on g also i o out

    end_tells : (s : Status) (text : List ℕ) (told : List Place) → EndReplies t symbols w s text told → (a : Finding)
        → Stops program symbols w a → TellsFinding t symbols a s text
    end_tells s text told (large count counts great h e n) a (too_large other also more is) =
        let same : count ≡ other = laws.boards.counted.0 program w count other counts also in
        subst (λ x. TellsFinding t symbols x s text) (sym is) (h ∙ ap large_line same, e)
    end_tells s text told (large count counts great h e n) a (halts b i y out is) =
        absurd (no_board count counts great b)
    end_tells s text told (large count counts great h e n) a (sticks b i j c out is) =
        absurd (no_board count counts great b)
    end_tells s text told (found f comes ran tells apart h) a (too_large other also more is) =
        absurd (not_large f other comes also more)
    end_tells s text told (found f comes ran tells apart h) a (halts b i y out is) =
        subst (λ x. TellsFinding t symbols x s text) (sym is) (found_tells f comes s text ran told tells h
        (end_status laws bytes letters t symbols given w on s text told (found f comes ran tells apart h)))
    end_tells s text told (found f comes ran tells apart h) a (sticks b i j c out is) =
        subst (λ x. TellsFinding t symbols x s text) (sym is) (found_tells f comes s text ran told tells h
        (end_status laws bytes letters t symbols given w on s text told (found f comes ran tells apart h)))

    end_places : (s : Status) (text : List ℕ) (told : List Place) → EndReplies t symbols w s text told → (a : Finding)
        → Stops program symbols w a → AreOfLast program symbols a told
    end_places s text told (large count counts great h e n) a (too_large other also more is) =
        subst (λ x. AreOfLast program symbols x told) (sym is) n
    end_places s text told (large count counts great h e n) a (halts b i y out is) =
        absurd (no_board count counts great b)
    end_places s text told (large count counts great h e n) a (sticks b i j c out is) =
        absurd (no_board count counts great b)
    end_places s text told (found f comes ran tells apart h) a (too_large other also more is) =
        absurd (not_large f other comes also more)
    end_places s text told (found f comes ran tells apart h) a (halts b i y out is) =
        subst (λ x. AreOfLast program symbols x told) (sym is) (board_places laws.boards bytes letters t symbols given w
        on f comes told tells.told_is)
    end_places s text told (found f comes ran tells apart h) a (sticks b i j c out is) =
        subst (λ x. AreOfLast program symbols x told) (sym is) (board_places laws.boards bytes letters t symbols given w
        on f comes told tells.told_is)

  -- ---- the whole search

  module _ (s : Status) (text : List ℕ) (told : List Place) (r : SearchReplies t symbols s text told) where
    reaches : Reaches (Widens program symbols) r.rounds start r.last
    reaches = rounds_search laws.boards bytes letters t symbols given r.rounds start r.last r.before
        (first_on_way program symbols) r.made

    on_last : IsOnTheWay symbols r.last
    on_last = stays_on_way program symbols (standard laws.boards bytes letters t symbols given) r.rounds start r.last
        (first_on_way program symbols) reaches

    -- the search makes as many rounds, and stops in the same window
    as_many : (n : ℕ) (a : Finding) → HasFinding program symbols n a → n ≡ r.rounds
    as_many n a h =
        let finds = search_finds laws bytes letters t symbols given s text told r in
        (finding_once program symbols laws.boards.counted n r.rounds a finds.0 h finds.1).0

    stops_here : (n : ℕ) (a : Finding) → HasFinding program symbols n a → Stops program symbols r.last a
    stops_here n a h =
        let there : Reaches (Widens program symbols) r.rounds start h.last =
        subst (λ m. Reaches (Widens program symbols) m start h.last) (as_many n a h) h.rounds in
        let same : h.last ≡ r.last = runs_end_once (Widens program symbols) (widens_once program symbols) r.rounds start
        h.last r.last there reaches in
        subst (λ w. Stops program symbols w a) same h.stops

    pub search_tells : (n : ℕ) (a : Finding) → HasFinding program symbols n a → TellsFinding t symbols a s text
    search_tells n a h = end_tells r.last on_last s text r.behind r.ends a (stops_here n a h)

    pub search_places : (n : ℕ) (a : Finding) → HasFinding program symbols n a → TellsPlaces program symbols n a told
    search_places n a h = record {
      last = r.last;
      before = r.before;
      behind = r.behind;
      rounds = subst (λ m. AreOfRounds program symbols m start r.last r.before) (sym (as_many n a h))
          (rounds_places laws.boards bytes letters t symbols given r.rounds start r.last r.before
          (first_on_way program symbols) r.made);
      ends = end_places r.last on_last s text r.behind r.ends a (stops_here n a h);
      told_is = r.told_is;
    }

-- ---- the laws

pub autos-tell_findings : Answers → AutosTellFindings
autos-tell_findings laws bytes letters t symbols s text told given reply n a h =
    search_tells laws bytes letters t symbols given s text told
    (auto_searched bytes letters t symbols s text told given reply) n a h

pub autos-tell_places : Answers → AutosTellPlaces
autos-tell_places laws bytes letters t symbols s text told given reply n a h =
    search_places laws bytes letters t symbols given s text told
    (auto_searched bytes letters t symbols s text told given reply) n a h

-- a status that is neither
text_neither : (s : Status) → s ≡ statuses.Text → (s ≢ statuses.Window) × (s ≢ statuses.Inside)
text_neither s e = (
  λ is. let h : statuses.Text ≡ statuses.Window = sym e ∙ is in cc,
  λ is. let h : statuses.Text ≡ statuses.Inside = sym e ∙ is in cc,
)

machine_neither : (s : Status) → s ≡ statuses.Machine → (s ≢ statuses.Window) × (s ≢ statuses.Inside)
machine_neither s e = (
  λ is. let h : statuses.Machine ≡ statuses.Window = sym e ∙ is in cc,
  λ is. let h : statuses.Machine ≡ statuses.Inside = sym e ∙ is in cc,
)

word_neither : (s : Status) → s ≡ statuses.Word → (s ≢ statuses.Window) × (s ≢ statuses.Inside)
word_neither s e = (
  λ is. let h : statuses.Word ≡ statuses.Window = sym e ∙ is in cc,
  λ is. let h : statuses.Word ≡ statuses.Inside = sym e ∙ is in cc,
)

pub autos-end_inside : Answers → AutosEndInside
autos-end_inside laws bytes letters s text told (faulty h e n) = text_neither s e
autos-end_inside laws bytes letters s text told (read t reads answer) = by_machine answer
  where
    by_word : IsStandard t.machine.quints → WordReplies (FindReplies t) t letters s text told
        → (s ≢ statuses.Window) × (s ≢ statuses.Inside)
    by_word fits (foreign p h is e n) = word_neither s e
    by_word fits (spelled symbols is answer) =
        let end = find_status laws bytes letters t symbols (record { reads = reads; standard = fits }) is s text told
        answer in
        (end.no_window, end.not_inside)

    by_machine : JudgedReplies (WordReplies (FindReplies t) t letters) t s text told
        → (s ≢ statuses.Window) × (s ≢ statuses.Inside)
    by_machine (unfit why e n) = machine_neither s e
    by_machine (fit fits answer) = by_word fits answer

pub answers-tell_found : Answers → AnswersTellFoundWindow
answers-tell_found laws words bytes s taken took answered short letters asks t symbols given n a h =
    let reply = answered letters asks short in
    (reply.0, reply.3, autos-tell_findings laws bytes letters t symbols s reply.0 reply.1 given reply.2 n a h)

-- The headline where the window is found, by the machine alone and by the circuit: the search by the machine alone is
-- that of the boards, since each board has as many elements as the machine and the window say.
use Rattle.std.specs.Prelude.{◌≡◌, ℕ, ◌<◌, ◌≤◌, List, length, Option, ◌⊎◌, refl}
use Rattle.std.proofs.Common.{zero, suc, inl, inr, subst, sym, ◌∙◌}
use Rattle.bn_io.specs.Told.{Grows}
use Rattle.bn_lists.specs.Runs.{Reaches}
use Rattle.bn_machine.specs.Machine.{Program}
use Rattle.bn_machine.specs.Outcome.{Limits, Outcome, HasOutcome}
use Rattle.bn_machine.specs.Outcome as outcome
use Rattle.bn_circuits.specs.declared.net.TheConstants.{MOST_ELEMENTS}
use Rattle.bn_bennett_laws.specs.Stages.{IsStandardMachine}
use Rattle.bn_table.proofs.MachineLemmas.{tables_machines}
use Rattle.bn_table.specs.Rows.{FitsTable, Named}
use Rattle.bn_boards.proofs.ClosedLemmas.{flats_there}
use Rattle.bn_boards.proofs.CountLemmas.{costs-one}
use Rattle.bn_reply.specs.declared.status.Status.{Status}
use Rattle.bn_reply.specs.declared.status.Status.TheVariants.{Size}
use Rattle.bn_reply_relations.proofs.ClosedLemmas.{counted}
use Rattle.bn_reply_relations.proofs.WindowLemmas.{standard_machine}
use Rattle.bn_reply_relations.specs.ToldRuns.{IsGiven}
use Rattle.bn_reply_relations.specs.Windows.{CountsElements, large_line}
use Rattle.bn_headline.specs.FoundHeadline.{IsWordGiven, TellsFoundWindow, TookFinding}
use Rattle.bn_headline.specs.Searches.{Finding, Found, HasBoard, HasFinding, Large, Stops, Widens}
use Rattle.bn_headline.specs.Searches.{halts, sticks, too_large}
use Rattle.bn_headline.proofs.SearchLemmas.{search-ends, windows-whole}
use Rattle.bn_network_assembly.specs.Widening.{first_window}
use Rattle.bn_headline.specs.Elements.{elements, most_steps}
use Rattle.bn_headline.specs.FoundCircuitHeadline.{FoundCircuitHeadline}
use Rattle.bn_headline.specs.FoundLaws.{EndsAt, FoundTellsMachine, OwnSearchEnds}
use Rattle.bn_headline.specs.FoundMachineHeadline.{EndsInside, FoundMachineHeadline, TellsFoundExit, TookFound}
use Rattle.bn_headline.specs.FoundMachineHeadline.{WidensTo}
use Rattle.bn_headline.specs.MachineHeadline.{IsOwnRun, TookRun, least_steps}
use Rattle.bn_headline.proofs.ClosedLemmas.{boards_return, elements_counted, one_of_each}
use Rattle.bn_headline.proofs.HeadlineLemmas.{bound_is, exit_told, least}

module _ (p : Program) (standard : IsStandardMachine p) (fits : FitsTable p) where
  -- ---- the elements

  same_count : (w : Limits) (count : ℕ) → CountsElements p w count → count ≡ elements p w
  same_count w count c = c.is ∙ elements_counted p w c.translation c.names standard fits c.translates c.numbering

  counts_in : (word : List ℕ) (w : Limits) → CountsElements p w (elements p w)
  counts_in word w =
      let flat = flats_there p word w standard fits in
      let counts = counted.1 p word w flat.0 flat.1 in
      record {
        translation = counts.translation;
        names = counts.names;
        translates = counts.translates;
        numbering = counts.numbering;
        is = sym (elements_counted p w counts.translation counts.names standard fits counts.translates
            counts.numbering);
      }

  -- ---- the two searches

  module _ (word : List ℕ) where
    board_of : (w : Limits) → elements p w ≤ MOST_ELEMENTS → HasBoard p w
    board_of w few = record { count = elements p w; counts = counts_in word w; few = few }

    few_in : (w : Limits) → HasBoard p w → elements p w ≤ MOST_ELEMENTS
    few_in w board = subst (λ n. n ≤ MOST_ELEMENTS) (same_count w board.count board.counts) board.few

    pub by_boards : (n : ℕ) (w v : Limits) → Reaches (WidensTo p word) n w v → Reaches (Widens p word) n w v
    by_boards zero w v way = way
    by_boards (suc n) w v way = (
      way.0,
      record {
        board = board_of w way.1.few;
        time = way.1.time;
        tape = way.1.tape;
        side = way.1.side;
        outside = way.1.outside;
        next = way.1.next;
      },
      by_boards n way.0 v way.2,
    )

    by_machine : (n : ℕ) (w v : Limits) → Reaches (Widens p word) n w v → Reaches (WidensTo p word) n w v
    by_machine zero w v way = way
    by_machine (suc n) w v way = (
      way.0,
      record {
        few = few_in w way.1.board;
        time = way.1.time;
        tape = way.1.tape;
        side = way.1.side;
        outside = way.1.outside;
        next = way.1.next;
      },
      by_machine n way.0 v way.2,
    )

    -- ---- how the search by the machine alone ends

    pub stops_large : (w : Limits) → MOST_ELEMENTS < elements p w → Stops p word w (Large (elements p w))
    stops_large w many = too_large (elements p w) (counts_in word w) many refl

    pub stops_found : (w : Limits) → elements p w ≤ MOST_ELEMENTS → (i : ℕ) (o : Outcome) → HasOutcome p word w i o
        → EndsInside o → Stops p word w (Found w)
    stops_found w few i (outcome.Halted y) out inside = halts (board_of w few) i y out refl
    stops_found w few i (outcome.Stuck state symbol) out inside = sticks (board_of w few) i state symbol out refl
    stops_found w few i (outcome.Outside tape side) out inside = absurd inside

    ends_own : (last : Limits) (a : Finding) → Stops p word last a
        → (MOST_ELEMENTS < elements p last)
        ⊎ ((elements p last ≤ MOST_ELEMENTS) × ((i : ℕ) × (o : Outcome) × HasOutcome p word last i o × EndsInside o))
    ends_own last a (too_large count counts many is) =
        inl (subst (λ n. MOST_ELEMENTS < n) (same_count last count counts) many)
    ends_own last a (halts board i y out is) = inr (few_in last board, (i, outcome.Halted y, out, tt))
    ends_own last a (sticks board i state symbol out is) =
        inr (few_in last board, (i, outcome.Stuck state symbol, out, tt))

    pub own_ends : (n : ℕ) × (w : Limits) × EndsAt p word n w
    own_ends =
        let found = search-ends flats_there counted p word standard fits in
        let h = found.2 in (
          found.0,
          h.last,
          record {
            rounds = by_machine found.0 (first_window word) h.last h.rounds;
            ends = ends_own h.last found.1 h.stops;
          },
        )

pub own-search-ends : OwnSearchEnds
own-search-ends p word standard fits = own_ends p standard fits word

-- ---- what is told

module _ (words : List (List ℕ)) (bytes letters : List ℕ) (status : Status) (taken took : Option (List ℕ))
    (t : Named) (symbols : List ℕ) (word : IsWordGiven bytes letters t symbols) where
  on_the_way : (n : ℕ) (w : Limits) → Reaches (Widens t.machine symbols) n (first_window symbols) w
      → (length symbols ≤ w.right) × IsGiven bytes letters w t symbols
  on_the_way n w path =
      let way = windows-whole t.machine symbols n w (standard_machine tables_machines bytes t word.reads).0 path in
      (way.fits, record { reads = word.reads; spelled = word.spelled; small = way.small word.few })

  module _ (n : ℕ) (w : Limits) (told : (a : Finding) → HasFinding t.machine symbols n a
      → TookFinding t symbols a status taken took) (path : Reaches (WidensTo t.machine symbols) n
      (first_window symbols) w) where
    rounds : Reaches (Widens t.machine symbols) n (first_window symbols) w
    rounds =
        let standard = standard_machine tables_machines bytes t word.reads in
        by_boards t.machine standard.0 standard.1 symbols n (first_window symbols) w path

    finds : (a : Finding) → Stops t.machine symbols w a → HasFinding t.machine symbols n a
    finds a stops = record { last = w; rounds = rounds; stops = stops }

    large_so : MOST_ELEMENTS < elements t.machine w
        → (status ≡ Size) × Grows taken took (large_line (elements t.machine w))
    large_so many =
        let standard = standard_machine tables_machines bytes t word.reads in
        let took_line = told (Large (elements t.machine w))
        (finds (Large (elements t.machine w)) (stops_large t.machine standard.0 standard.1 symbols w many))
        in
        (took_line.2.1, subst (Grows taken took) took_line.2.0 took_line.1)

    found_so : elements t.machine w ≤ MOST_ELEMENTS → (i : ℕ) (o : Outcome)
        → HasOutcome t.machine symbols w i o → EndsInside o
        → TookRun (TellsFoundExit t w symbols i o) (least_steps i o) (most_steps t.machine w) status taken took
    found_so few i o out inside =
        let standard = standard_machine tables_machines bytes t word.reads in
        let way = on_the_way n w rounds in
        let took_text = told (Found w) (finds (Found w)
        (stops_found t.machine standard.0 standard.1 symbols w few i o out inside)) in
        let found = took_text.2 in
        let own : IsOwnRun bytes letters w t symbols i o =
        record { given = way.1; fits = way.0; outcome = out } in
        let ran = found.runs i o out found.flat found.comes in
        let tells = found.tells i o out found.flat found.comes in
        record {
          cost = tells.cost;
          above = least tables_machines elements_counted counted one_of_each costs-one bytes letters w t symbols i o
              own found.flat found.comes tells.cost tells.has_cost ran;
          below = subst (λ m. tells.cost ≤ m)
              (bound_is tables_machines elements_counted counted one_of_each costs-one bytes letters w t symbols i o
              own found.flat found.comes) tells.bounded;
          text = took_text.0;
          told = record {
            ran = found.ran;
            text_is = found.text_is;
            exit = exit_told tables_machines elements_counted counted one_of_each costs-one bytes letters w t
                symbols i o own found.flat found.comes status found.ran ran tells;
          };
          grows = took_text.1;
        }

    pub took_found : TookFound t w symbols status taken took
    took_found = record { large = large_so; runs = found_so }

  -- the window that is found is the last one
  last_found : (n : ℕ) (w : Limits) → (h : HasFinding t.machine symbols n (Found w)) → h.last ≡ w
  last_found n w h = by_stop h.stops
    where
      by_stop : Stops t.machine symbols h.last (Found w) → h.last ≡ w
      by_stop (too_large count counts many is) = absurd (cc)
      by_stop (halts board i y out is) = cc
      by_stop (sticks board i state symbol out is) = cc

  found_given : (n : ℕ) (w : Limits) → HasFinding t.machine symbols n (Found w) → IsGiven bytes letters w t symbols
  found_given n w h =
      (on_the_way n w (subst (λ v. Reaches (Widens t.machine symbols) n (first_window symbols) v)
      (last_found n w h) h.rounds)).1

found-tells_own : (words : List (List ℕ)) (bytes : List ℕ) (status : Status) (taken took : Option (List ℕ))
    → TellsFoundWindow words bytes status taken took → FoundMachineHeadline words bytes status taken took
unfolding FoundMachineHeadline
found-tells_own words bytes status taken took told short letters asks t symbols word n w path =
    took_found words bytes letters status taken took t symbols word n w
    (λ a h. told short letters asks t symbols word n a h) path

found-tells_circuit : (words : List (List ℕ)) (bytes : List ℕ) (status : Status) (taken took : Option (List ℕ))
    → TellsFoundWindow words bytes status taken took → FoundCircuitHeadline words bytes status taken took
unfolding FoundCircuitHeadline
found-tells_circuit words bytes status taken took told short letters asks t symbols word n w h = (
  told short letters asks t symbols word n (Found w) h,
  λ f comes. boards_return bytes letters w t symbols f
      (found_given words bytes letters status taken took t symbols word n w h) comes,
)

pub found-tells_machine : FoundTellsMachine
found-tells_machine words bytes status taken took told = (
  found-tells_own words bytes status taken took told,
  found-tells_circuit words bytes status taken took told,
)

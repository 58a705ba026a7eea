-- The search for a window ends, and has one finding.
use Rattle.std.specs.Prelude.{◌≡◌, ℕ, ◌+◌, ◌<◌, ◌≤◌, List, length, refl, ◌⊎◌}
use Rattle.std.proofs.Common.{zero, suc, arith, sym, ap, subst, ◌∙◌, inl, inr}
use Rattle.std.proofs.lemmas.Bool.{cases_lt}
use Rattle.bn_circuits.specs.declared.net.TheConstants.{MOST_ELEMENTS}
use Rattle.bn_lists.specs.Runs.{Reaches, IsFunction}
use Rattle.bn_lists.proofs.RunsLemmas.{runs_end_once}
use Rattle.bn_machine.specs.Machine.{Program}
use Rattle.bn_machine.specs.Outcome.{Limits, Outcome, Halted, Stuck, Outside, HasOutcome}
use Rattle.bn_machine.proofs.OutcomeLemmas.{outcome_once, outcome_exists, run_goes_on}
use Rattle.bn_machine.specs.declared.quint.Side.{Side}
use Rattle.bn_bennett_laws.specs.Stages.{IsStandardMachine}
use Rattle.bn_boards.specs.Boards.{size}
use Rattle.bn_boards.specs.ExistenceLaws.{FlatsAreThere}
use Rattle.bn_reply_relations.specs.Windows.{CountsElements}
use Rattle.bn_reply_relations.specs.Laws.{BoardsAreCounted}
use Rattle.bn_network_assembly.specs.Widening.{first_window, widened, IsEnd, IsWhole}
use Rattle.bn_headline.specs.Searches.{Finding, Found, Large, HasBoard, Widens, Stops, too_large, halts, sticks}
use Rattle.bn_headline.specs.Searches.{HasFinding}
use Rattle.bn_headline.specs.WindowLaws.{ComesInside, halted, stuck, FoundComesOut, IsOnTheWay, LargeIsTooLarge}
use Rattle.bn_headline.specs.WindowLaws.{SearchEnds, SearchIsOne, SearchIsShort, WindowsAreWhole}
use Rattle.bn_headline.proofs.EndLemmas.{ends-four, whole_stays, right_stays, first_whole, first_fits}
use Rattle.bn_headline.proofs.SizeLemmas.{size_in, size_counts, size_grows, widened_small}

same_widened : (w : Limits) (t u : ℕ) (s r : Side) → Outside t s ≡ Outside u r → widened w t s ≡ widened w u r
same_widened w t u s r e =
    let tapes : t ≡ u = cc in
    let sides : s ≡ r = cc in
    ap (λ n. widened w n s) tapes ∙ ap (widened w u) sides

module _ (p : Program) (word : List ℕ) where
  pub widens_once : IsFunction (Widens p word)
  widens_once w v x a b =
      let same = (outcome_once p word w a.time b.time (Outside a.tape a.side) (Outside b.tape b.side) a.outside
      b.outside).1 in
      a.next ∙ same_widened w a.tape b.tape a.side b.side same ∙ sym b.next

  one_outcome : (w : Limits) (i j : ℕ) (o q : Outcome) → HasOutcome p word w i o → HasOutcome p word w j q → o ≡ q
  one_outcome w i j o q a b = (outcome_once p word w i j o q a b).1

  -- each window on the way has numbers from 1 on and room for the word
  next_end : (w v : Limits) (goes : Widens p word w v) → IsEnd goes.tape goes.side
  next_end w v goes = ends-four p word w goes.time goes.tape goes.side goes.outside

  module _ (standard : IsStandardMachine p) where
    pub next_on_way : (w v : Limits) → Widens p word w v → IsOnTheWay word w → IsOnTheWay word v
    next_on_way w v goes way =
        let end = next_end w v goes in
        let fits : length word ≤ w.right = way.fits in
        let more = right_stays w goes.tape goes.side end in
        subst (IsOnTheWay word) (sym goes.next) (record {
          whole = whole_stays w goes.tape goes.side way.whole end;
          fits = omega arith;
          small = λ _. widened_small p w goes.tape goes.side standard goes.board end;
        })

    pub stays_on_way : (n : ℕ) (w v : Limits) → IsOnTheWay word w → Reaches (Widens p word) n w v → IsOnTheWay word v
    stays_on_way zero w v on way = subst (IsOnTheWay word) way on
    stays_on_way (suc n) w v on way = stays_on_way n way.0 v (next_on_way w way.0 way.1 on) way.2

  pub first_on_way : IsOnTheWay word (first_window word)
  first_on_way = record {
    whole = first_whole word;
    fits = first_fits word;
    small = λ few. (omega arith, omega arith, omega arith, omega arith);
  }

  module _ (counted : BoardsAreCounted) where
    not_large : (w : Limits) (count : ℕ) → CountsElements p w count → MOST_ELEMENTS < count → HasBoard p w → ⊥
    not_large w count counts large board =
        let same : board.count ≡ count = counted.0 p w board.count count board.counts counts in
        let few = board.few in
        omega arith

    pub stops_once : (w : Limits) (a b : Finding) → Stops p word w a → Stops p word w b → a ≡ b
    stops_once w a b (too_large count counts large e) (too_large other also great f) =
        e ∙ ap Large (counted.0 p w count other counts also) ∙ sym f
    stops_once w a b (too_large count counts large e) (halts board i y out f) =
        absurd (not_large w count counts large board)
    stops_once w a b (too_large count counts large e) (sticks board i s c out f) =
        absurd (not_large w count counts large board)
    stops_once w a b (halts board i y out e) (too_large count counts large f) =
        absurd (not_large w count counts large board)
    stops_once w a b (halts board i y out e) (halts also j z out' f) = e ∙ sym f
    stops_once w a b (halts board i y out e) (sticks also j s c out' f) = e ∙ sym f
    stops_once w a b (sticks board i s c out e) (too_large count counts large f) =
        absurd (not_large w count counts large board)
    stops_once w a b (sticks board i s c out e) (halts also j z out' f) = e ∙ sym f
    stops_once w a b (sticks board i s c out e) (sticks also j s' c' out' f) = e ∙ sym f

    pub stopped : (w v : Limits) (a : Finding) → Stops p word w a → Widens p word w v → ⊥
    stopped w v a (too_large count counts large e) goes = not_large w count counts large goes.board
    stopped w v a (halts board i y out e) goes =
        let same : Halted y ≡ Outside goes.tape goes.side = one_outcome w i goes.time (Halted y)
        (Outside goes.tape goes.side) out goes.outside in absurd (cc)
    stopped w v a (sticks board i s c out e) goes =
        let same : Stuck s c ≡ Outside goes.tape goes.side = one_outcome w i goes.time (Stuck s c)
        (Outside goes.tape goes.side) out goes.outside in absurd (cc)

    no_earlier : (n m : ℕ) (a b : Finding) → HasFinding p word n a → HasFinding p word m b → n < m → ⊥
    no_earlier n m a b x y h =
        let step = run_goes_on (Widens p word) widens_once n m (first_window word) x.last y.last h x.rounds y.rounds in
        stopped x.last step.0 a x.stops step.1

    same_rounds : (n : ℕ) (a b : Finding) → HasFinding p word n a → HasFinding p word n b → a ≡ b
    same_rounds n a b x y =
        let same = runs_end_once (Widens p word) widens_once n (first_window word) x.last y.last x.rounds y.rounds in
        stops_once y.last a b (subst (λ w. Stops p word w a) same x.stops) y.stops

    pub finding_once : (n m : ℕ) (a b : Finding) → HasFinding p word n a → HasFinding p word m b → (n ≡ m) × (a ≡ b)
    finding_once n m a b x y = by_order (cases_lt n m) (cases_lt m n)
      where
        by_order : (n < m) ⊎ (m ≤ n) → (m < n) ⊎ (n ≤ m) → (n ≡ m) × (a ≡ b)
        by_order (inl h) k = absurd (no_earlier n m a b x y h)
        by_order (inr h) (inl k) = absurd (no_earlier m n b a y x k)
        by_order (inr h) (inr k) =
            let same : n ≡ m = omega arith in
            (same, same_rounds m a b (subst (λ i. HasFinding p word i a) same x) y)

  -- ---- the search ends

  module _ (standard : IsStandardMachine p) (start : Limits) (first : ℕ) (counts : CountsElements p start first) where
    abbrev elements : Limits → ℕ
    elements w = size_in p standard start first counts w

    counts_in : (w : Limits) → CountsElements p w (elements w)
    counts_in w = size_counts p standard start first counts w

    -- what comes from a window on
    pub record Comes (w : Limits) : Type 0 where
      pub rounds : ℕ
      pub answer : Finding
      pub last : Limits
      pub way : Reaches (Widens p word) rounds w last
      pub stops : Stops p word last answer

    at_once : (w : Limits) (a : Finding) → Stops p word w a → Comes w
    at_once w a stops = record { rounds = 0; answer = a; last = w; way = refl; stops = stops }

    after_round : (w v : Limits) → Widens p word w v → Comes v → Comes w
    after_round w v goes rest = record {
      rounds = suc rest.rounds;
      answer = rest.answer;
      last = rest.last;
      way = (v, goes, rest.way);
      stops = rest.stops;
    }

    by_outcome : (w : Limits) → HasBoard p w → (i : ℕ) (o : Outcome) → HasOutcome p word w i o
        → ((t : ℕ) (side : Side) → HasOutcome p word w i (Outside t side) → Comes (widened w t side)) → Comes w
    by_outcome w board i (Halted y) out rest = at_once w (Found w) (halts board i y out refl)
    by_outcome w board i (Stuck s c) out rest = at_once w (Found w) (sticks board i s c out refl)
    by_outcome w board i (Outside t side) out rest =
        after_round w (widened w t side) (record {
          board = board;
          time = i;
          tape = t;
          side = side;
          outside = out;
          next = refl;
        }) (rest t side out)

    search_from : (fuel : ℕ) (w : Limits) → IsWhole w → MOST_ELEMENTS < elements w + fuel → Comes w
    search_from zero w whole enough = at_once w (Large (elements w))
        (too_large (elements w) (counts_in w) (omega arith) refl)
    search_from (suc fuel) w whole enough = elim (cases_lt MOST_ELEMENTS (elements w)) [
      | inl large ↦ at_once w (Large (elements w)) (too_large (elements w) (counts_in w) large refl)
      | inr few ↦
          (let out = outcome_exists p word w in
          by_outcome w (record { count = elements w; counts = counts_in w; few = few }) out.0 out.1 out.2 (λ t side h.
          let end = ends-four p word w out.0 t side h in
          let more : elements w + 22 ≤ elements (widened w t side) =
          size_grows p standard start first counts w t side whole end in
          search_from fuel (widened w t side) (whole_stays w t side whole end) (omega arith)))
    ]

    pub search_there : (n : ℕ) × (a : Finding) × HasFinding p word n a
    search_there =
        let found = search_from (MOST_ELEMENTS + 1) (first_window word) (first_whole word) (omega arith) in
        (found.rounds, found.answer, record { last = found.last; rounds = found.way; stops = found.stops })

    -- each round adds elements, and no round begins above the limit
    module _ (counted : BoardsAreCounted) where
      within : (w : Limits) → HasBoard p w → elements w ≤ MOST_ELEMENTS
      within w board =
          let same : board.count ≡ elements w = counted.0 p w board.count (elements w) board.counts (counts_in w) in
          let few = board.few in
          omega arith

      rounds_bound : (n : ℕ) (w v : Limits) → IsWhole w → Reaches (Widens p word) (suc n) w v
          → elements w + n ≤ MOST_ELEMENTS
      rounds_bound zero w v whole way = let fits = within w way.1.board in omega arith
      rounds_bound (suc n) w v whole way =
          let goes = way.1 in
          let end = next_end w way.0 goes in
          let next : IsWhole way.0 = subst IsWhole (sym goes.next) (whole_stays w goes.tape goes.side whole end) in
          let more : elements w + 22 ≤ elements way.0 = subst (λ x. elements w + 22 ≤ elements x) (sym goes.next)
          (size_grows p standard start first counts w goes.tape goes.side whole end) in
          let rest : elements way.0 + n ≤ MOST_ELEMENTS = rounds_bound n way.0 v next way.2 in
          omega arith

      pub rounds_short : (n : ℕ) (v : Limits) → Reaches (Widens p word) n (first_window word) v → n ≤ MOST_ELEMENTS + 1
      rounds_short zero v way = omega arith
      rounds_short (suc n) v way =
          let bound : elements (first_window word) + n ≤ MOST_ELEMENTS =
          rounds_bound n (first_window word) v (first_whole word) way in
          omega arith

-- ---- the laws

pub search-ends : FlatsAreThere → BoardsAreCounted → SearchEnds
search-ends flats counted p word standard fits =
    let start = first_window word in
    let flat = flats p word start standard fits in
    search_there p word standard start (size flat.0.network.tables) (counted.1 p word start flat.0 flat.1)

pub search-short : FlatsAreThere → BoardsAreCounted → SearchIsShort
search-short flats counted p word n a standard fits h =
    let start = first_window word in
    let flat = flats p word start standard fits in
    rounds_short p word standard start (size flat.0.network.tables) (counted.1 p word start flat.0 flat.1) counted n
    h.last h.rounds

pub search-one : BoardsAreCounted → SearchIsOne
search-one counted p word n m a b x y = finding_once p word counted n m a b x y

pub windows-whole : WindowsAreWhole
windows-whole p word n w standard way = stays_on_way p word standard n (first_window word) w (first_on_way p word) way

found_same : (w v : Limits) → Found w ≡ Found v → v ≡ w
found_same w v e = cc

abbrev Out : Program → List ℕ → Limits → Type 0
Out p word v = HasBoard p v × ComesInside p word v

pub found-out : FoundComesOut
found-out p word n w h = by_stop h.last h.stops
  where
    by_stop : (last : Limits) → Stops p word last (Found w) → HasBoard p w × ComesInside p word w
    by_stop last (too_large count counts large e) = absurd (cc)
    by_stop last (halts board i y out e) = subst (Out p word) (found_same w last e) (board, halted i y out)
    by_stop last (sticks board i s c out e) = subst (Out p word) (found_same w last e) (board, stuck i s c out)

pub large-large : LargeIsTooLarge
large-large p word n c h = by_stop h.last h.stops
  where
    same_number : (a b : ℕ) → Large a ≡ Large b → b ≡ a
    same_number a b e = cc

    by_stop : (last : Limits) → Stops p word last (Large c) → (MOST_ELEMENTS < c) × CountsElements p last c
    by_stop last (too_large count counts large e) =
        let same : count ≡ c = same_number c count e in
        (subst (λ n. MOST_ELEMENTS < n) same large, subst (CountsElements p last) same counts)
    by_stop last (halts board i y out e) = absurd (cc)
    by_stop last (sticks board i s q out e) = absurd (cc)

-- What is told of a board is one, and the same of each board of one machine, word and limits.
use Rattle.std.specs.Prelude.{◌≡◌, ◌≢◌, ℕ, ◌+◌, ◌-◌, List, [], ◌++◌, Option, Some, None, drop, slice_get, refl}
use Rattle.std.proofs.Common.{zero, suc, inl, inr, sym, ap, subst, ◌∙◌}
use Rattle.bn_circuits.specs.Stepping.{places, run}
use Rattle.bn_element.specs.Tables.{Table}
use Rattle.bn_circuits.specs.declared.place.Place.{Place}
use Rattle.bn_circuits.specs.declared.place.Place.TheVariants.{Enter}
use Rattle.bn_circuits.specs.declared.config.Config.{Config}
use Rattle.bn_circuits.specs.Circuits.{Circuit}
use Rattle.bn_circuits.proofs.AlikeLemmas.{places-alike, run-alike}
use Rattle.bn_element.specs.Rotary.{west}
use Rattle.bn_machine.specs.Outcome.{Limits}
use Rattle.bn_quad.specs.Quadruples.{Quadruples}
use Rattle.bn_table.specs.Laws.{TablesAreMachines}
use Rattle.bn_table.specs.Rows.{Named}
use Rattle.bn_bennett.specs.Meaning.{machine_state_by}
use Rattle.bn_bennett.specs.Translation.{Translation, name_of}
use Rattle.bn_realise.specs.Banks.{bank_input_line}
use Rattle.bn_network.specs.Controls.{ControlState}
use Rattle.bn_boards.specs.Boards.{base, size}
use Rattle.bn_boards.specs.ExistenceLaws.{FlatsAreThere}
use Rattle.bn_boards.specs.Costs.{bound_of}
use Rattle.bn_boards.specs.declared.exit.Exit.{Exit}
use Rattle.bn_boards.specs.declared.exit.Exit.TheVariants as exits_of
use Rattle.bn_boards.specs.declared.exit.Exit.TheVariants.{Inside, End, Stuck, Window, Unnamed}
use Rattle.bn_boards.specs.BoardMoments.{IsBoardMoment, enters_first, left_by_end}
use Rattle.bn_boards.specs.Layouts.{IsExit, named, unnamed, IsNamedExit, Layout, moments, spelled_tape}
use Rattle.bn_boards.specs.Flats.{AreSameFlats, Flat, flat_start, machine_of}
use Rattle.bn_boards.specs.LayoutLaws.{ExitsAreOne, FlatsAreOne}
use Rattle.bn_reply.specs.Answering.{AgreeInAll, HasAnswer}
use Rattle.bn_reply.specs.Codes.{IsReplyStatus}
use Rattle.bn_reply.specs.declared.status.Status.{Status}
use Rattle.bn_reply.specs.declared.status.Status.TheVariants as statuses
use Rattle.bn_reply_relations.specs.Counts.{Counts}
use Rattle.bn_reply_relations.specs.Windows.{ComesTo}
use Rattle.bn_reply_relations.specs.CompileReply.{CompileIsSettled, TellsStart}
use Rattle.bn_reply_relations.specs.RunText.{elements_line, exit_line, output_from, output_line, quadruple_line}
use Rattle.bn_reply_relations.specs.RunText.{rest_text}
use Rattle.bn_reply_relations.specs.RunText.{run_text, shown_lines, state_text, steps_line, stuck_line, tape_lines}
use Rattle.bn_reply_relations.specs.RunReply.{HasMoment, RunIsSettled, TellsRun, board_after, budget, reached}
use Rattle.bn_reply_relations.specs.RunReply.{exit_status}
use Rattle.bn_reply_relations.specs.ToldRuns.{IsGiven}
use Rattle.bn_reply_relations.specs.Laws.{BoardsAreCounted, BoardsAreSpelled, BoardsHaveRuns, BoardsTellAlike}
use Rattle.bn_reply_relations.specs.Laws.{BoardsTellRuns, ExitsAreNamed, MomentsAreCounted, found_text}
use Rattle.bn_reply_relations.proofs.CountLemmas.{counts_once}
use Rattle.bn_reply_relations.proofs.SpelledLemmas.{spelled_alike}
use Rattle.bn_reply_relations.proofs.RunLemmas.{named_apart, named_of}
use Rattle.bn_reply_relations.proofs.WindowLemmas.{given_accepted, standard_machine, window_settled}

-- ---- moments of two boards

-- a moment knows the tables of the network alone
moment_by_tables : (m : Quadruples) (l : Limits) (names : List ControlState) (n o : Circuit) (d : Config) (a : ℕ)
    → n.tables ≡ o.tables →
    IsBoardMoment m l names n d a →
    IsBoardMoment m l names o d a
moment_by_tables m l names n o d a same (left_by_end final control has left) =
    left_by_end final control (subst (λ (ts : List Table). slice_get ts 0 ≡ Some control) same has) left
moment_by_tables m l names n o d a same (enters_first other first entry into wire place q names_it marked) =
    enters_first other first entry into wire
    (subst (λ (ts : List Table). d.place ≡ Enter (bank_input_line (base ts into.element) into.line).element west) same
    place) q names_it marked

pub moment_there : (f g : Flat) (d : Config) (a : ℕ) → f.translation ≡ g.translation → f.limits ≡ g.limits
    → f.names ≡ g.names →
    f.network.tables ≡ g.network.tables →
    IsBoardMoment (machine_of f) f.limits f.names f.network d a
    → IsBoardMoment (machine_of g) g.limits g.names g.network d a
moment_there f g d a translation limits names tables h =
    subst (λ (ns : List ControlState). IsBoardMoment (machine_of g) g.limits ns g.network d a) names
    (subst (λ (l : Limits). IsBoardMoment (machine_of g) l f.names g.network d a) limits
    (subst (λ (t : Translation). IsBoardMoment t.machine f.limits f.names g.network d a) translation
    (moment_by_tables (machine_of f) f.limits f.names f.network g.network d a tables h)))

-- what is counted by one property is counted by another that is the same
counts_alike : (P Q : ℕ → Type 0) → ((n : ℕ) → P n → Q n) → ((n : ℕ) → Q n → P n) → (n c : ℕ) → Counts P n c
    → Counts Q n c
counts_alike P Q to from zero c h = h
counts_alike P Q to from (suc n) zero h = ((λ q. h.0 (from n q)), counts_alike P Q to from n zero h.1)
counts_alike P Q to from (suc n) (suc c) (inl h) = inl (to n h.0, counts_alike P Q to from n c h.1)
counts_alike P Q to from (suc n) (suc c) (inr h) = inr ((λ q. h.0 (from n q)), counts_alike P Q to from n (suc c) h.1)

-- ---- two boards of one machine, word and limits

module _ (f g : Flat) (same : AreSameFlats f g) (limits : f.limits ≡ g.limits) where
  pub after_same : (n : ℕ) → board_after f n ≡ board_after g n
  after_same n = run-alike f.circuit g.circuit same.circuit (flat_start f) n ∙ ap (λ c. run g.circuit c n) same.start

  places_same : (n : ℕ) → places f.circuit n (flat_start f) ≡ places g.circuit n (flat_start g)
  places_same n = places-alike f.circuit g.circuit same.circuit n (flat_start f) ∙ ap (places g.circuit n) same.start

  budget_same : (given : Option ℕ) → budget f given ≡ budget g given
  budget_same None = ap bound_of same.layout
  budget_same (Some e) = refl

  reached_same : (given : Option ℕ) → reached f given ≡ reached g given
  reached_same given = after_same (budget f given) ∙ ap (board_after g) (budget_same given)

  told_same : (given : Option ℕ) → places f.circuit (budget f given) (flat_start f)
      ≡ places g.circuit (budget g given) (flat_start g)
  told_same given = places_same (budget f given) ∙ ap (λ n. places g.circuit n (flat_start g)) (budget_same given)

  moment_to : (n : ℕ) → HasMoment f n → HasMoment g n
  moment_to n h = (
    h.0,
    subst (λ c. IsBoardMoment (machine_of g) g.limits g.names g.network c h.0) (after_same n)
        (moment_there f g (board_after f n) h.0 same.translation limits same.names same.network.tables h.1),
  )

  moment_from : (n : ℕ) → HasMoment g n → HasMoment f n
  moment_from n h = (
    h.0,
    subst (λ c. IsBoardMoment (machine_of f) f.limits f.names f.network c h.0) (sym (after_same n))
        (moment_there g f (board_after g n) h.0 (sym same.translation) (sym limits) (sym same.names)
        (sym same.network.tables) h.1),
  )

  module _ (t : Named) where
    pub exit_same : (p : Place) (e : Exit) → exit_line t f p e ≡ exit_line t g p e
    exit_same p Inside = refl
    exit_same p End = refl
    exit_same p (Stuck a c) = ap (λ (s : Translation). stuck_line t
        (state_text t (machine_state_by s.final_state (name_of s a))) c) same.translation
    exit_same p (Window n s) = refl
    exit_same p Unnamed = refl

    shown_same : (states : List ℕ) → shown_lines t f states ≡ shown_lines t g states
    shown_same states = λ i. tape_lines t (spelled_tape (same.layout i) states 1)
        (spelled_tape (same.layout i) states 2)
        (spelled_tape (same.layout i) states 3)

    rest_same : (d : Config) (k : ℕ) (e : Exit) → rest_text t f d k e ≡ rest_text t g d k e
    rest_same d k End =
        let shown = shown_same d.states in
        λ i. quadruple_line k ++ (shown i ++ output_line t (output_from
        (drop 1 (spelled_tape (same.layout i) d.states 3).cells)))
    rest_same d k Inside = shown_same d.states
    rest_same d k (Stuck a c) = shown_same d.states
    rest_same d k (Window n s) = shown_same d.states
    rest_same d k Unnamed = shown_same d.states

    -- the same text
    text_same : (d : Config) (k : ℕ) (e : Exit) → run_text t f d k e ≡ run_text t g d k e
    text_same d k e =
        let elements : size f.network.tables ≡ size g.network.tables = ap size same.network.tables in
        let exits = exit_same d.place e in
        let rest = rest_same d k e in
        λ i. elements_line (elements i) ++ (exits i ++ (steps_line d.steps ++ rest i))

    tell_there : (given : Option ℕ) (s : Status) (text : List ℕ) (told : List Place) → TellsRun given t f s text told
        → TellsRun given t g s text told
    tell_there given s text told a =
        let configs = reached_same given in
        record {
          exit = a.exit;
          is_exit = subst (λ (y : Layout). IsNamedExit y (reached g given).place a.exit) same.layout
              (subst (λ (c : Config). IsNamedExit f.layout c.place a.exit) configs a.is_exit);
          moments = a.moments;
          counted = subst (λ (c : Config). Counts (HasMoment g) (c.steps + 1) a.moments) configs
              (counts_alike (HasMoment f) (HasMoment g) moment_to moment_from ((reached f given).steps + 1) a.moments
              a.counted);
          status_is = a.status_is;
          text_is = a.text_is ∙ text_same (reached f given) (a.moments - 1) a.exit
              ∙ ap (λ (c : Config). run_text t g c (a.moments - 1) a.exit) configs;
          told_is = a.told_is ∙ told_same given;
        }

-- of one board one run is told
run_once : (given : Option ℕ) (t : Named) (f : Flat) → ((at : Place) (e x : Exit) → IsNamedExit f.layout at e
    → IsNamedExit f.layout at x → e ≡ x) →
    (s u : Status) (text second : List ℕ) (told heard : List Place) → TellsRun given t f s text told
    → TellsRun given t f u second heard →
    AgreeInAll s u text second told heard
run_once given t f one s u text second told heard a b =
    let exits = one (reached f given).place a.exit b.exit a.is_exit b.is_exit in
    let counts = counts_once (HasMoment f) ((reached f given).steps + 1) a.moments b.moments a.counted b.counted in
    record {
      statuses = a.status_is ∙ ap exit_status exits ∙ sym b.status_is;
      texts = a.text_is ∙ (λ i. run_text t f (reached f given) (counts i - 1) (exits i)) ∙ sym b.text_is;
      places = a.told_is ∙ sym b.told_is;
    }

-- ---- all boards of what is given

module _ (machines : TablesAreMachines) (ones : FlatsAreOne) where
  -- two boards are the same
  pub same_boards : (bytes letters : List ℕ) (l : Limits) (t : Named) (symbols : List ℕ) (f g : Flat)
      → IsGiven bytes letters l t symbols →
      ComesTo t.machine l symbols f →
      ComesTo t.machine l symbols g → AreSameFlats f g
  same_boards bytes letters l t symbols f g given a b =
      ones t.machine symbols l f g (standard_machine machines bytes t given.reads).0 a.flat b.flat

  pub boards-tell_alike : BoardsTellAlike
  boards-tell_alike bytes letters l t symbols f g number s text told given a b tells =
      tell_there f g (same_boards bytes letters l t symbols f g given a b) (a.flat.limits_are ∙ sym b.flat.limits_are) t
      number s text told tells

-- a run with the exit and the moments that the layout finds is told
pub boards-tell_runs : TablesAreMachines → ExitsAreNamed → MomentsAreCounted → BoardsTellRuns
boards-tell_runs machines exits counts bytes letters l t symbols f number given comes e is =
    let accepted = given_accepted machines bytes letters l t symbols f given comes in
    let found = exits t.machine symbols l f comes.flat accepted (budget f number) in
    let count = counts t.machine symbols l f comes.flat accepted (budget f number) in
    let some : e ≢ exits_of.Unnamed = not_unnamed found.0 found.1 is in (
      some,
      record {
        exit = e;
        is_exit = named_of f.layout (reached f number).place e is some;
        moments = moments f.layout f.circuit (budget f number) (flat_start f);
        counted = subst (Counts (HasMoment f) ((reached f number).steps + 1)) (sym count.1) count.0;
        status_is = refl;
        text_is = refl;
        told_is = refl;
      },
    )
  where
    not_unnamed : (x : Exit) → IsNamedExit f.layout (reached f number).place x
        → IsExit f.layout (reached f number).place e → e ≢ exits_of.Unnamed
    not_unnamed x there (named h) = named_apart f.layout (reached f number).place e h
    not_unnamed x there (unnamed same none) = absurd (none x there)

-- and there is an exit
pub boards-have_runs : TablesAreMachines → ExitsAreNamed → BoardsHaveRuns
boards-have_runs machines exits bytes letters l t symbols f number given comes =
    let found = exits t.machine symbols l f comes.flat (given_accepted machines bytes letters l t symbols f given comes)
    (budget f number) in
    (found.0, named found.1)

status_answers : (e : Exit) → IsReplyStatus (exit_status e)
status_answers Inside = tt
status_answers End = tt
status_answers (Stuck a c) = tt
status_answers (Window n s) = tt
status_answers Unnamed = tt

-- ---- the two commands

-- one answer to the words that ask for a run
pub run_settled : TablesAreMachines → FlatsAreThere → FlatsAreOne → BoardsAreCounted → ExitsAreOne → ExitsAreNamed
    → MomentsAreCounted → RunIsSettled
run_settled machines flats ones counted exits_one exits counts given word l bytes small =
    window_settled (TellsRun given) word l bytes machines flats counted small
    some one
    (λ t f s text told a. subst IsReplyStatus (sym a.status_is) (status_answers a.exit))
  where
    some : (t : Named) (symbols : List ℕ) (f : Flat) → IsGiven bytes word l t symbols → ComesTo t.machine l symbols f
        → HasAnswer (TellsRun given t f)
    some t symbols f is comes =
        let found = boards-have_runs machines exits bytes word l t symbols f given is comes in (
          exit_status found.0,
          found_text given t f found.0,
          places f.circuit (budget f given) (flat_start f),
          (boards-tell_runs machines exits counts bytes word l t symbols f given is comes found.0 found.1).1,
        )

    one : (t : Named) (symbols : List ℕ) (f g : Flat) → IsGiven bytes word l t symbols → ComesTo t.machine l symbols f
        → ComesTo t.machine l symbols g →
        (s u : Status) (a b : List ℕ) (x y : List Place) → TellsRun given t f s a x → TellsRun given t g u b y
        → AgreeInAll s u a b x y
    one t symbols f g is h k s u a b x y tells other =
        run_once given t f (exits_one t.machine symbols l f h.flat
        (given_accepted machines bytes word l t symbols f is h)) s u a b x y tells
        (boards-tell_alike machines ones bytes word l t symbols g f given u b y is k h other)

-- and to those that ask for a board
pub compile_settled : TablesAreMachines → FlatsAreThere → FlatsAreOne → BoardsAreCounted → BoardsAreSpelled
    → CompileIsSettled
compile_settled machines flats ones counted spelled word l bytes small =
    window_settled (λ t. TellsStart) word l bytes machines flats counted small some one
    (λ t f s text told a. subst IsReplyStatus (sym a.done) tt)
  where
    some : (t : Named) (symbols : List ℕ) (f : Flat) → IsGiven bytes word l t symbols → ComesTo t.machine l symbols f
        → HasAnswer (TellsStart f)
    some t symbols f is comes =
        let s = spelled t.machine symbols l f comes.flat (given_accepted machines bytes word l t symbols f is comes) in
        (statuses.Done, s.2.0, [], record { spelling = s.0; board = s.1; spelled = s.2.1; done = refl; silent = refl })

    one : (t : Named) (symbols : List ℕ) (f g : Flat) → IsGiven bytes word l t symbols → ComesTo t.machine l symbols f
        → ComesTo t.machine l symbols g →
        (s u : Status) (a b : List ℕ) (x y : List Place) → TellsStart f s a x → TellsStart g u b y
        → AgreeInAll s u a b x y
    one t symbols f g is h k s u a b x y tells other =
        let same = same_boards machines ones bytes word l t symbols f g is h k in
        record {
          statuses = tells.done ∙ sym other.done;
          texts = spelled_alike f g same t.machine symbols l h.flat k.flat tells.spelling other.spelling a b tells.board
              other.board tells.spelled other.spelled;
          places = tells.silent ∙ sym other.silent;
        }

-- What the control's `stuck_of` names where an assembled network stops.
use Rattle.std.specs.Prelude.{◌≡◌, ℕ, ◌+◌, ◌-◌, ◌*◌, ◌<◌, Bool, not, List, [], Option, Some, None, slice_get}
use Rattle.std.specs.Prelude.{slice_index, slice_set, refl}
use Rattle.std.specs.Option.{option_map}
use Rattle.std.proofs.Common.{zero, suc, arith, sym, ap, subst, ◌∙◌}
use Rattle.std.proofs.lemmas.Option.{slice_get_within, same_Some, slice_get-map}
use Rattle.bn_lists.specs.Runs.{Reaches}
use Rattle.bn_circuits.specs.Circuits.{go_of, place_after}
use Rattle.bn_circuits.specs.Situations.{Situation, situation, Turns, IsAtEnd}
use Rattle.bn_circuits.specs.declared.place.Place.TheVariants.{Enter}
use Rattle.bn_lists.proofs.RunsLemmas.{passes_run, runs_join}
use Rattle.bn_machine.specs.Tape.{scanned}
use Rattle.bn_machine.specs.Outcome as outcome
use Rattle.bn_machine.specs.Outcome.{Limits}
use Rattle.bn_quad.specs.Quadruples.{Configuration, Quadruples, IsQuadMachine}
use Rattle.bn_rsm.specs.Machines.{machine_table}
use Rattle.bn_bennett_laws.specs.Steps.{Stopped, Exit}
use Rattle.bn_bennett.specs.Runs.{beginning_of}
use Rattle.bn_network.specs.declared.cell_line.CellLine.TheVariants.{Answer}
use Rattle.bn_network.specs.Controls.{ControlState, Reads, Tape as to_tape, symbol_count, in_number, lines_before}
use Rattle.bn_network.specs.Networks.{IsControlAt, network_start}
use Rattle.bn_network_laws.specs.Ends.{by_stop, IsStoppedAt, tape_of}
use Rattle.bn_network_laws.proofs.LastLemmas.{letters_are, line_in_range, one_tape}
use Rattle.bn_control.specs.Controlled.{Controlled, IsStuckAt}
use Rattle.bn_boards.proofs.ListedLemmas.{boards-there}
use Rattle.bn_boards.proofs.LayoutLemmas.{layouts-there}
use Rattle.bn_boards.specs.Flats.{Flat, build_of, IsFlatOf, IsAccepted}
use Rattle.bn_boards.specs.Journeys.{Strides, NetworkComes, NetworkEndsAs}
use Rattle.bn_boards.proofs.JourneyedLemmas.{networks-end}
use Rattle.bn_network_assembly.specs.Assembled.{Assembled, IsAssembled, network_of}
use Rattle.bn_network_assembly.specs.Modules.{module_table}
use Rattle.bn_boards.proofs.ClosedLemmas.{uniform}
use Rattle.bn_boards.specs.Builds.{IsUniformNetwork}
use Rattle.bn_headline.specs.StuckLaws.{IsNamedStop, StopsAreNamed, NamedStopsAreEnds, StuckRunsAreNamed}
use Rattle.bn_boards.proofs.ReadingLemmas.{has_letters, word_low}
use Rattle.bn_boards.proofs.NetworkReadLemmas.{networks-read}

-- ---- of which pairs it is said

-- one state and symbol at most
once : (v : Controlled) (n j a c b d : ℕ) → IsStuckAt v n j a c → IsStuckAt v n j b d → (b ≡ a) × (d ≡ c)
once v n j a c b d x y =
    let pairs : ◌≡◌ {A = ℕ × ℕ} (a, x.tape) (b, y.tape) = same_pair (slice_get v.awaited n) (a, x.tape) (b, y.tape)
    x.awaits y.awaits in
    let state : a ≡ b = ap (λ (p : ℕ × ℕ). p.0) pairs in
    let tape : x.tape ≡ y.tape = ap (λ (p : ℕ × ℕ). p.1) pairs in
    let here = x.answers.line in
    let there : j ≡ lines_before v.symbols (x.tape - 1) + d = subst (λ t. j ≡ lines_before v.symbols (t - 1) + d)
    (sym tape) y.answers.line in
    (sym state, omega arith)
  where
    same_pair : (o : Option (Option (ℕ × ℕ))) (p q : ℕ × ℕ) → o ≡ Some (Some p) → o ≡ Some (Some q) → p ≡ q
    same_pair o p q h k = same_Some p q (same_Some (Some p) (Some q) (sym h ∙ k))

module _ (m : Quadruples) (l : Limits) (word : List ℕ) (names : List ControlState) (a : Assembled)
    (is : IsAssembled m l word names a) where
  -- module 0 is the control
  control_table : slice_get (network_of a).tables 0 ≡ Some (machine_table is.control.machine)
  control_table = slice_get-map module_table a.net.elements 0 ∙ ap (option_map module_table) is.first

  goes_by : (n j : ℕ) → go_of (network_of a).tables 0 n j ≡ (machine_table is.control.machine).go n j
  goes_by n j = rw control_table refl

  -- where the control has a move, one leads on
  moves_on : (s : Situation) (n j : ℕ) → slice_get s.states 0 ≡ Some n → s.place ≡ Enter 0 j → (o : Option (ℕ × ℕ))
      → (machine_table is.control.machine).go n j ≡ o
      → IsAtEnd (network_of a) s → o ≡ None
  moves_on s n j state place None goes ended = refl
  moves_on s n j state place (Some p) goes ended =
      absurd (ended (situation (slice_set s.states 0 p.0) (place_after (network_of a).wires
      (record { element = 0; line = p.1 }))) (record {
        element = 0;
        input = j;
        output = p.1;
        before = n;
        after = p.0;
        enters = place;
        has_state = state;
        moves = goes_by n j ∙ goes;
        states = refl;
        place = refl;
      }))

  named : IsQuadMachine m → (s : Situation) (c : Configuration ℕ) (t : ℕ) → IsAtEnd (network_of a) s → IsStoppedAt m c t
      → s.place ≡ Enter 0 (in_number m (to_tape t (Answer (scanned (tape_of c t)))))
      → IsControlAt names s.states (Reads c.state [])
      → scanned (tape_of c t) < symbol_count m t → IsNamedStop is.control s c.state (scanned (tape_of c t))
  named machine s c t ended stop place waits low =
      let v = is.control in
      let number = waits.number in
      let line = in_number m (to_tape t (Answer (scanned (tape_of c t)))) in
      let among = letters_are m t (scanned (tape_of c t)) stop.tape low in
      let within = slice_get_within names number (Reads c.state []) waits.named in
      let range = line_in_range m.symbols t (scanned (tape_of c t)) machine.tapes stop.tape among in
      let states = is.is_control.table.states in
      let inputs = is.is_control.table.inputs in
      let stuck : IsStuckAt v number line c.state (scanned (tape_of c t)) = record {
        tape = t;
        awaits = (is.is_control.awaiting number c.state t).1 (
          Reads c.state [],
          waits.named,
          record { state = refl; entry = stop.entry },
        );
        answers = record {
          among = subst (λ zs. scanned (tape_of c t) < slice_index zs (t - 1)) (sym is.is_control.symbols) among;
          line = ap (λ zs. lines_before zs (t - 1) + scanned (tape_of c t)) (sym is.is_control.symbols);
        };
        none = moves_on s number line waits.is place ((machine_table v.machine).go number line) refl ended;
      } in
      record {
        number = number;
        line = line;
        state = waits.is;
        place = place;
        state_known = omega arith;
        line_known = omega arith;
        stuck = stuck;
        only = λ b d other. once v number line c.state (scanned (tape_of c t)) b d stuck other;
      }

  -- no move leads on from a pair of which it is said
  ends_there : (s : Situation) (b c : ℕ) → IsNamedStop is.control s b c → IsAtEnd (network_of a) s
  ends_there s b c stop t g =
      let same : Enter 0 stop.line ≡ Enter g.element g.input = sym stop.place ∙ g.enters in
      let element : g.element ≡ 0 = cc in
      let input : g.input ≡ stop.line = cc in
      let number : g.before ≡ stop.number = same_Some g.before stop.number
      (sym g.has_state ∙ ap (slice_get s.states) element ∙ stop.state) in
      let there : go_of (network_of a).tables 0 stop.number stop.line ≡ Some (g.after, g.output) =
      (λ i. go_of (network_of a).tables (sym element i) (sym number i) (sym input i)) ∙ g.moves in
      none (g.after, g.output) (sym stop.stuck.none ∙ sym (goes_by stop.number stop.line) ∙ there)
    where
      none : (p : ℕ × ℕ) → None ≡ Some p → ⊥
      none p h = cc

pub named-ends : NamedStopsAreEnds
named-ends m l word names a is s b c stop = ends_there m l word names a is s b c stop

pub stops-named : StopsAreNamed
stops-named m l word names a machine is s c ended (by_stop t stop place waits low shows) =
    (t, stop, named m l word names a is machine s c t ended stop place waits low)

-- ---- the whole run

-- strides over moments are a run of the network
strides_run : (f : Flat) (test : Situation → Bool) (n : ℕ) (x y : Situation × Configuration ℕ)
    → Reaches (Strides (build_of f) test) n x y
    → (k : ℕ) × Reaches (Turns f.network) k x.0 y.0
strides_run f test zero x y run = (0, ap (λ (z : Situation × Configuration ℕ). z.0) run)
strides_run f test (suc n) x y run =
    let here = passes_run (Turns f.network) (λ z. not (test z)) run.1.moves x.0 run.0.0 run.1.travels.path in
    let rest = strides_run f test n run.0 y run.2 in (
      run.1.moves + rest.0,
      runs_join (Turns f.network) (run.1.moves + rest.0) run.1.moves rest.0 x.0 run.0.0 y.0 refl here rest.1,
    )

comes_run : (f : Flat) (test : Situation → Bool) (n : ℕ) (d : Configuration ℕ) (e : Exit)
    (h : NetworkComes f test n d e)
    → (k : ℕ) × Reaches (Turns f.network) k (network_start f.translation.machine f.limits f.word) h.last
comes_run f test n d e h =
    let begun = passes_run (Turns f.network) (λ z. not (test z)) 1 _ h.first h.starts.path in
    let middle = strides_run f test n (h.first, beginning_of f.translation f.word) (h.moment, d) h.strides in
    let last = passes_run (Turns f.network) (λ z. not (test z)) h.moves h.moment h.last h.leaves.path in
    let two = runs_join (Turns f.network) (1 + middle.0) 1 middle.0 _ h.first h.moment refl begun middle.1 in (
      1 + middle.0 + h.moves,
      runs_join (Turns f.network) (1 + middle.0 + h.moves) (1 + middle.0) h.moves _ h.moment h.last refl two last,
    )

pub stuck-runs : StuckRunsAreNamed
stuck-runs p l word t names a may is_t is i j c out =
    let unif = (uniform p t may.standard is_t).0 in
    let net : IsUniformNetwork t.machine l names (network_of a) =
    record {
      machine = is_t.machine;
      uniform = unif;
      symbols = has_letters p t may.standard.machine is_t;
      numbering = is.is_control.numbering;
      network = is.network;
    } in
    let layout = layouts-there.0 t.machine l names is_t.machine unif is.is_control.numbering in
    let read = networks-read t.machine l word names (network_of a) layout.0 net layout.1
    (word_low p t word is_t may.letters) in
    let board = boards-there (network_of a) read.1.modules in
    let f : Flat = record {
      translation = t;
      limits = l;
      word = word;
      names = names;
      network = network_of a;
      circuit = board.0;
      layout = layout.0;
    } in
    let flat : IsFlatOf p word l f = record {
      translation = is_t;
      word_is = refl;
      limits_are = refl;
      numbering = is.is_control.numbering;
      is_network = is.network;
      is_board = board.1;
      is_layout = layout.1;
    } in
    let whole = read.1.whole in
    let few = is.few in
    let accepted : IsAccepted p word l f = record {
      standard = may.standard;
      letters = may.letters;
      nonblank = may.nonblank;
      fits = may.fits;
      small = may.small;
      few = omega arith;
    } in
    let ended : NetworkEndsAs f read.0 i (outcome.Stuck j c) =
    networks-end p word l f read.0 flat accepted read.1.tells i (outcome.Stuck j c) out in
    let comes = ended.1 in
    let run = comes_run f read.0 (2 * i) ended.0 Stopped comes in
    let stop = stops-named t.machine l word names a is_t.machine is comes.last ended.0 comes.ended comes.ends in
    let first : stop.0 ≡ 1 = one_tape t.machine ended.0 stop.0 ended.4 stop.1 in
    let symbol : scanned (tape_of ended.0 stop.0) ≡ c = ap (λ u. scanned (tape_of ended.0 u)) first ∙ ended.3 in (
      run.0,
      comes.last,
      ended.0.state,
      run.1,
      comes.ended,
      ended.2,
      subst (λ x. IsNamedStop is.control comes.last ended.0.state x) symbol stop.2,
    )

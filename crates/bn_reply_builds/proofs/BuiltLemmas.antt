-- What a machine is built to: its board at the start has one text.
use Rattle.std.specs.Prelude.{◌≡◌, ℕ, ◌<◌, List, [], All, Some, length, slice_get, refl}
use Rattle.std.proofs.Common.{arith, sym, ap, subst, ◌∙◌}
use Rattle.bn_circuits.specs.Alike.{AreAlike}
use Rattle.bn_circuits.specs.Circuits.{Circuit, target}
use Rattle.bn_circuits.specs.declared.line.Line.{Line}
use Rattle.bn_circuits.proofs.AlikeLemmas.{options_one}
use Rattle.bn_realise.specs.Banks.{IsBankWire, bank_input_line, bank_output_line}
use Rattle.bn_circuits.specs.declared.config.Config.{Config}
use Rattle.bn_machine.specs.Outcome.{Limits}
use Rattle.bn_quad.specs.Quadruples.{Configuration, Quadruples}
use Rattle.bn_netlist_laws.specs.Spelling.{Spelling, Spelled}
use Rattle.bn_netlist_laws.specs.declared.version.Version.TheVariants.{Two}
use Rattle.bn_network.specs.Controls.{ControlState, IsNumbering, symbol_count}
use Rattle.bn_network.specs.Networks.{IsNetwork, elements_by}
use Rattle.bn_network.proofs.OccurringLemmas.{order_one}
use Rattle.bn_boards.specs.Boards.{IsBoard, IsBoardWire, base, between, board_start, own}
use Rattle.bn_boards.specs.Layouts.{IsLayout}
use Rattle.bn_boards.proofs.LayoutLemmas.{layouts-there}
use Rattle.bn_boards.proofs.NetworkLemmas.{networks-there}
use Rattle.bn_boards.proofs.NetworkReadLemmas.{networks-read}
use Rattle.bn_boards.specs.Builds.{Build, IsStart, build_elements}
use Rattle.bn_boards.proofs.StartLemmas.{builds-start-words}
use Rattle.bn_network.specs.Starts.{AreInputs, start_from, words_on}
use Rattle.bn_reply.specs.declared.status.Status.{Status}
use Rattle.bn_reply.specs.declared.status.Status.TheVariants as statuses
use Rattle.bn_circuits.specs.declared.place.Place.{Place}
use Rattle.bn_reply_relations.specs.CompileReply.{IsBoardSpelling}
use Rattle.bn_reply_relations.proofs.SpelledLemmas.{one_board_text, start-spells}
use Rattle.bn_reply_builds.specs.BuildReply.{IsBuiltFor, TellsBuild}

-- ---- elements

pub build_count : (m : Quadruples) (l : Limits) (f : Build) → IsBuiltFor m l f → (names : List ControlState) →
    IsNumbering m names →
    build_elements f ≡ elements_by m l (length names)
build_count m l f h names numbering =
    let own : IsNumbering m f.names = subst (λ (q : Quadruples). IsNumbering q f.names) h.machine
    h.build.is_network.numbering in
    let by_own : build_elements f ≡ elements_by m l (length f.names) = (λ i. elements_by (h.machine i) (h.limits i)
    (length f.names)) in
    by_own ∙ ap (λ (ns : List ControlState). elements_by m l (length ns)) (order_one m f.names names own numbering)

-- ---- the boards of networks that are alike

wire_alike : (n o : Circuit) → AreAlike n o → (from to : Line) → IsBoardWire n from to → IsBoardWire o from to
wire_alike n o alike from to (own m t has bank) =
    own m t (subst (λ ts. slice_get ts m ≡ Some t) alike.tables has) (subst (λ ts. IsBankWire (base ts m) t from to)
    alike.tables bank)
wire_alike n o alike from to (between out into t wire has leaves ends) =
    between out into t (sym (alike.targets out) ∙ wire) (subst (λ ts. slice_get ts out.element ≡ Some t) alike.tables
    has)
    (subst (λ ts. from ≡ bank_output_line (base ts out.element) t out.line) alike.tables leaves)
    (subst (λ ts. to ≡ bank_input_line (base ts into.element) into.line) alike.tables ends)

pub targets_alike : (n o k j : Circuit) → AreAlike n o → IsBoard n k → IsBoard o j → (from : Line) → target k.wires from
    ≡ target j.wires from
targets_alike n o k j alike a b from =
    let back : AreAlike o n =
    record { tables = sym alike.tables; targets = λ x. sym (alike.targets x); sources = λ x. sym (alike.sources x) }
    in
    options_one (target k.wires from) (target j.wires from)
    (λ to h. (b.wires from to).1 (wire_alike n o alike from to ((a.wires from to).0 h)))
    (λ to h. (a.wires from to).1 (wire_alike o n back from to ((b.wires from to).0 h)))

-- ---- a start

module _ (m : Quadruples) (l : Limits) (one two three : List ℕ) (inputs : AreInputs m l one two three) where
  abbrev start : Configuration ℕ
  start = words_on m one two three

  abbrev at_start : Build → Config
  at_start f = board_start f.network.tables (start_from f.machine f.limits start)

  -- a build starts with the words
  pub build_begins : (f : Build) → IsBuiltFor m l f → IsStart f start (start_from f.machine f.limits start) (at_start f)
  build_begins f h =
      let own : AreInputs f.machine f.limits one two three =
      subst (λ (q : Quadruples). AreInputs q f.limits one two three) (sym h.machine)
      (subst (λ (w : Limits). AreInputs m w one two three) (sym h.limits) inputs) in
      subst (λ (q : Quadruples). IsStart f (words_on q one two three) (start_from f.machine f.limits (words_on q one
      two three)) (board_start f.network.tables (start_from f.machine f.limits (words_on q one two three))))
      h.machine (builds-start-words f h.build one two three own)

  -- ---- a text

  none_low : (z : ℕ) → All (λ x. x < z) []
  none_low z k d low = absurd (omega (arith, low))

  pub build_spells : (f : Build) → IsBuiltFor m l f →
      (u : Spelling) × IsBoardSpelling f.network f.layout (at_start f) u × ((text : List ℕ) × Spelled Two u text)
  build_spells f h =
      let b = h.build in
      let read = networks-read f.machine f.limits [] f.names f.network f.layout b.is_network b.is_layout
      (none_low (symbol_count f.machine 1)) in
      let whole = read.1.whole in
      let few = h.few in
      start-spells f.machine f.limits f.names f.network b.is_network.network read.1.modules f.circuit b.is_board
      (start_from f.machine f.limits start) refl (build_begins f h).stands (omega arith) f.layout b.is_layout

  pub build_told : (f : Build) → IsBuiltFor m l f → (text : List ℕ) × TellsBuild start f statuses.Done text []
  build_told f h =
      let some = build_spells f h in
      (some.2.0, record { spelling = some.0; board = some.1; spelled = some.2.1; done = refl; silent = refl })

  pub build_once : (f g : Build) → IsBuiltFor m l f → IsBuiltFor m l g → (s u : Status) (text second : List ℕ) (x y :
      List Place) →
      TellsBuild start f s text x → TellsBuild start g u second y → text ≡ second
  build_once f g h k s u text second x y a b =
      let machines : g.machine ≡ f.machine = k.machine ∙ sym h.machine in
      let limits : g.limits ≡ f.limits = k.limits ∙ sym h.limits in
      let ours = h.build in
      let theirs = k.build in
      let numbering : IsNumbering f.machine g.names = subst (λ (q : Quadruples). IsNumbering q g.names) machines
      theirs.is_network.numbering in
      let names : g.names ≡ f.names = order_one f.machine g.names f.names numbering ours.is_network.numbering in
      let network : IsNetwork f.machine f.limits f.names g.network =
      subst (λ (ns : List ControlState). IsNetwork f.machine f.limits ns g.network) names
      (subst (λ (w : Limits). IsNetwork f.machine w g.names g.network) limits
      (subst (λ (q : Quadruples). IsNetwork q g.limits g.names g.network) machines theirs.is_network.network)) in
      let layout : IsLayout f.machine f.limits f.names g.layout =
      subst (λ (ns : List ControlState). IsLayout f.machine f.limits ns g.layout) names
      (subst (λ (w : Limits). IsLayout f.machine w g.names g.layout) limits
      (subst (λ (q : Quadruples). IsLayout q g.limits g.names g.layout) machines theirs.is_layout)) in
      let alike : AreAlike f.network g.network =
      networks-there.1 f.machine f.limits f.names f.network g.network ours.is_network.network network in
      let layouts : f.layout ≡ g.layout = layouts-there.1 f.machine f.limits f.names f.layout g.layout
      ours.is_network.machine
      ours.is_network.uniform ours.is_network.numbering ours.is_layout layout in
      let targets = targets_alike f.network g.network f.circuit g.circuit alike ours.is_board theirs.is_board in
      let starts : at_start f ≡ at_start g =
      (λ i. board_start (alike.tables i) (start_from (sym machines i) (sym limits i) start)) in
      one_board_text f.network g.network f.circuit g.circuit ours.is_board theirs.is_board alike.tables targets
      f.layout g.layout layouts (at_start f) (at_start g) starts a.spelling b.spelling text second a.board b.board
      a.spelled b.spelled

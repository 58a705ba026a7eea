-- A machine in standard form has a board.
use Rattle.std.specs.Prelude.{◌≡◌, ◌<◌, refl}
use Rattle.std.proofs.Common.{sym, subst}
use Rattle.bn_machine.specs.Machine.{Program, IsMachine}
use Rattle.bn_quad.specs.Quadruples.{Quadruples}
use Rattle.bn_bennett_laws.specs.List.{symbols_of}
use Rattle.bn_bennett.specs.Laws.{TranslationsAreOne, TranslationsAreUniform, TranslationsAreThere}
use Rattle.bn_bennett.specs.Translation.{Translation, IsTranslation}
use Rattle.bn_network.specs.Controls.{symbol_count}
use Rattle.bn_network.specs.Moments.{HasLetters}
use Rattle.bn_boards.specs.Flats.{Flat, IsFlatOf}
use Rattle.bn_boards.proofs.SameLemmas.{flats-one}
use Rattle.bn_boards.proofs.LetterLemmas.{tape_letters}
use Rattle.bn_bennett.proofs.Machines.{some_symbols}
use Rattle.bn_network.proofs.ExistingLemmas.{have-entries}
use Rattle.bn_network.proofs.OccurringLemmas.{order_there}
use Rattle.bn_boards.proofs.NetworkLemmas.{networks-there, networks-modules}
use Rattle.bn_boards.proofs.LayoutLemmas.{layouts-there}
use Rattle.bn_boards.specs.BoardLaws.{BoardsAreThere}
use Rattle.bn_boards.specs.ExistenceLaws.{FlatsAreThere}
use Rattle.bn_network.proofs.LawLemmas.{controls_are_one as controls_one}

-- the machine of a translation has a symbol on each tape
has_letters : (p : Program) (m : Quadruples) → IsMachine p → m.symbols ≡ symbols_of p → HasLetters m
has_letters p m is symbols t tape = subst (λ zs. 0 < symbol_count
    (record { rules = m.rules; states = m.states; symbols = zs }) t) (sym symbols)
    (tape_letters p m (some_symbols p is) t tape)

-- a machine in standard form has a board, and two of them are the same up to the order of wires
pub flats-there : TranslationsAreOne → TranslationsAreUniform → TranslationsAreThere → BoardsAreThere → FlatsAreThere
flats-there ones uniform there boards p word l standard fits =
    let translation = there p standard fits in
    let t : Translation = translation.0 in
    let is : IsTranslation p t = translation.1 in
    let m = t.machine in
    let even = (uniform p t standard is).0 in
    let order = order_there m in
    let names = order.0 in
    let letters = has_letters p m standard.machine is.symbols in
    let network = networks-there.0 m l names is.machine even letters order.1 in
    let board = boards network.0 (networks-modules m l names network.0 letters order.1 network.1) in
    let layout = layouts-there.0 m l names is.machine even order.1 in
    let f : Flat = record {
      translation = t;
      limits = l;
      word = word;
      names = names;
      network = network.0;
      circuit = board.0;
      layout = layout.0;
    } in
    let flat : IsFlatOf p word l f =
    record {
      translation = is;
      word_is = refl;
      limits_are = refl;
      numbering = order.1;
      is_network = network.1;
      is_board = board.1;
      is_layout = layout.1;
    }
    in
    (f, flat, λ g other. flats-one ones uniform controls_one have-entries p word l f g standard flat other)

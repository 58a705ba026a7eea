-- A board that was flattened is a board as it is defined.
use Rattle.std.specs.Prelude.{◌≡◌, ℕ, ◌≤◌, List, [], refl}
use Rattle.std.proofs.Common.{arith, sym, ap, subst}
use Rattle.bn_circuits.specs.declared.line.Line.{Line}
use Rattle.bn_circuits.specs.declared.place.Place.TheVariants.{Enter, Left}
use Rattle.bn_circuits.specs.RotaryNets.{rotary_circuit}
use Rattle.bn_circuits.specs.declared.net.TheConstants.{MOST_ELEMENTS}
use Rattle.bn_machine.specs.Machine.{Program}
use Rattle.bn_machine.specs.Outcome.{Limits}
use Rattle.bn_bennett.specs.Translation.{Translation}
use Rattle.bn_network.specs.Networks.{network_start}
use Rattle.bn_network.specs.Starts.{words_on}
use Rattle.bn_boards.specs.Boards.{size, board_start}
use Rattle.bn_boards.specs.Layouts.{IsLayout}
use Rattle.bn_boards.specs.Flats.{Flat, IsFlatOf, IsAccepted}
use Rattle.bn_network_assembly.specs.Assembled.{Assembled, IsAssembled, network_of}
use Rattle.bn_board.specs.Flattened.{Flattened}
use Rattle.bn_boards.proofs.ClosedLemmas.{run_to_exit}
use Rattle.bn_headline.specs.FlattenLaws.{MayBeAssembled, IsBoardAtStart, IsFlattenedFor, FlattenedBoardsAreFlats}
use Rattle.bn_headline.specs.FlattenLaws.{FlattenedBoardsRunToTheirExit}
use Rattle.bn_boards.proofs.NetworkReadLemmas.{networks-read}
use Rattle.bn_boards.proofs.ReadingLemmas.{uniform_of, word_low}

-- ---- boards that were flattened

module _ (p : Program) (l : Limits) (word : List ℕ) (t : Translation) (a : Assembled) (b : Flattened)
    (may : MayBeAssembled p l word) (made : IsFlattenedFor p l word t a b) where
  abbrev as_flat : Flat
  as_flat = record {
    translation = t;
    limits = l;
    word = word;
    names = made.names;
    network = network_of a;
    circuit = rotary_circuit b.net;
    layout = b.layout;
  }

  in_limits : IsAssembled t.machine a.limits word made.names a
  in_limits = subst (λ w. IsAssembled t.machine w word made.names a) (sym made.assembled.limits) made.assembled

  layout_is : IsLayout t.machine l made.names b.layout
  layout_is = subst (λ w. IsLayout t.machine w made.names b.layout) made.assembled.limits
      (made.flattened.layout t.machine (words_on t.machine word [] []) made.names in_limits)

  is_flat : IsFlatOf p word l as_flat
  is_flat = record {
    translation = made.translates;
    word_is = refl;
    limits_are = refl;
    numbering = made.assembled.is_control.numbering;
    is_network = made.assembled.network;
    is_board = made.flattened.board;
    is_layout = layout_is;
  }

  few : size (network_of a).tables ≤ MOST_ELEMENTS
  few =
      let read = networks-read t.machine l word made.names (network_of a) b.layout
      (uniform_of p word l as_flat is_flat may.standard) layout_is (word_low p t word made.translates may.letters)
      in
      let whole = read.1.whole in
      let bound = made.assembled.few in
      omega arith

  accepted : IsAccepted p word l as_flat
  accepted = record {
    standard = may.standard;
    letters = may.letters;
    nonblank = may.nonblank;
    fits = may.fits;
    small = may.small;
    few = few;
  }

  at_start : IsBoardAtStart as_flat b
  at_start = record {
    circuit = refl;
    layout = refl;
    config = subst (λ w. b.config ≡ board_start (network_of a).tables (network_start t.machine w word))
        made.assembled.limits (made.flattened.config t.machine (words_on t.machine word [] []) made.names in_limits);
    start = ap (λ (x : Line). Enter x.element x.line) made.flattened.start;
    end = ap (λ (x : Line). Left x.element x.line) made.flattened.end;
  }

pub flattened-flats : FlattenedBoardsAreFlats
flattened-flats p l word t a b may made = (
  as_flat p l word t a b may made,
  refl,
  refl,
  is_flat p l word t a b may made,
  accepted p l word t a b may made,
  at_start p l word t a b may made,
)

pub flattened-run : FlattenedBoardsRunToTheirExit
flattened-run p l word t a b may made i o out = (
  as_flat p l word t a b may made,
  at_start p l word t a b may made,
  run_to_exit p word l
      (as_flat p l word t a b may made) (is_flat p l word t a b may made) (accepted p l word t a b may made) i o out,
)
